-- what is promised of the nets of drawings
pub mod Laws
