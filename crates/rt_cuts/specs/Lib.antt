-- cuts with the masks around them, and labels
pub mod Cuts
pub mod Labels
-- what is promised, and two cuts of which it is
pub mod Laws
pub mod Sample
