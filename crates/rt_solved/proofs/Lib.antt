pub mod Totals
pub mod Proportional
pub mod Factors
pub mod Exchanges
