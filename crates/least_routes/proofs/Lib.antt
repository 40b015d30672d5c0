mod Deciding
mod Marking
mod Levels
mod Following
mod Offering
mod Ways
