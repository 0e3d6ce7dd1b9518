-- nets and numbers over masks that cover the same cells
pub mod Alike
-- labels on cells that keep the space rule
pub mod OneNet
-- the public laws
pub mod Offered
