-- Lemmas on the text of claims.
pub mod Strips
pub mod Leading
pub mod Placed
pub mod Finishing
pub mod Alike
pub mod Values
pub mod Going
pub mod Staging
pub mod Reaching
pub mod Parting
pub mod Builders
pub mod Again
pub mod Taken
pub mod OneText
