-- walks by parents, and what keeps them
pub mod Kin
-- pairs that are joined one after another, and groups
pub mod Pairing
-- numbers as entries appear
pub mod Appearing
