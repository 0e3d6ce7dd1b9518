-- the pieces of cuts; strips inside of their hosts; masks that are apart
pub mod Pieces
pub mod Inside
pub mod Clear
-- the lower mask that a strip lies in; labels
pub mod Lower
pub mod Labels
-- database units
pub mod Scaled
-- the public laws; two cuts that are kept
pub mod Offered
pub mod Sample
