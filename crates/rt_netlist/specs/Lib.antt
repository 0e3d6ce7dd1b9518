-- nets of a layout
pub mod Nets
-- labels on nets, and the numbers of their nets
pub mod Labels
-- what is promised
pub mod Laws
