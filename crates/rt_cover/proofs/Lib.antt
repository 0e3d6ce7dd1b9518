mod Reading
mod Reaching
mod Looking
mod Listing
mod Telling
