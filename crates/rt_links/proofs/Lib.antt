-- walks over links, and links that two graphs have alike; walks over strips
pub mod Walks
pub mod Chains
-- strips as nodes; a source and its drawing
pub mod Wired
pub mod Kept
-- numbers of nets; the public laws; two metals that are carried
pub mod Numbered
pub mod Offered
pub mod Sample
