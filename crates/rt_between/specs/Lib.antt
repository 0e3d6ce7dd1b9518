pub mod Reaches
pub mod Pairing
pub mod Ends
pub mod Offers
