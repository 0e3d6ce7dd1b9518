pub mod Templates
pub mod Instances
pub mod Placed
pub mod Named
pub mod Ordered
