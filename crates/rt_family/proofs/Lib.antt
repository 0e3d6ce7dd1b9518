-- whole numbers, finitely many numbers, joined cells
pub mod Places
pub mod Finite
pub mod Joins
-- one family of strips, its hosts, what a source gives
pub mod Strips
pub mod Chains
pub mod Source
-- a drawing that carries a mask, its columns, its rules
pub mod Drawn
pub mod Columns
pub mod Rules
pub mod Hosted
pub mod Scaled
-- the rows that carry
pub mod Rows
pub mod Untouched
-- what a list covers, by numbers; the public laws; an L that is carried
pub mod Alike
pub mod Offered
pub mod Sample
