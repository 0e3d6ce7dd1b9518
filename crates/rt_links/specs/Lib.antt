-- walks over links, and numbers of nets
pub mod Links
pub mod Numbers
-- masks that conduct and the cuts between them, and drawings that carry them
pub mod Wires
-- what is promised, and two metals with a cut of which it is
pub mod Laws
pub mod Sample
