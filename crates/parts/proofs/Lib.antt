mod Flushing
mod Getting
mod Listing
mod Meeting
mod Parts
mod Passing
mod Putting
mod Words
