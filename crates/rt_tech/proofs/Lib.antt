pub mod Demanded
pub mod Lengths
pub mod Measured
pub mod Tests
