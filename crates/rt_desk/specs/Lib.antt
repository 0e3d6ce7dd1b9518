pub mod Cause
pub mod Desk
pub mod Entries
pub mod Memory
pub mod OnDisk
