-- what a table tells of its metals and of the masks beside its cuts
pub mod Told
-- the strips of a job as wires that positions carry
pub mod Carrying
-- strips of cuts in the source and in the drawing, and nets over strips and over cells
pub mod Laid
pub mod Between
-- the nets of a drawing, and its labels
pub mod Drawing
pub mod Offered
