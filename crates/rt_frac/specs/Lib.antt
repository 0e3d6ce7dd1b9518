pub mod Fracs
