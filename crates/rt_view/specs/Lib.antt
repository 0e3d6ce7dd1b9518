-- the shapes of a sound source, and the lower masks of cuts
pub mod Shapes
pub mod Lowers
-- the view of a layout, and the job of moving it
pub mod View
pub mod Job
