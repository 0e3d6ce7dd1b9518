pub mod Refused
pub mod Seven
pub mod FetchLemmas
pub mod EndLemmas
pub mod MeaningLemmas
pub mod MaskNames
