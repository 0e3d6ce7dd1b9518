mod Reading
mod Listing
mod Numbering
mod Looking
mod Holding
mod Telling
