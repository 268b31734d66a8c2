mod Greater
mod Visits
mod Walks
mod Spotting
mod Turning
mod Starting
