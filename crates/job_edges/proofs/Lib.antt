mod Begins
mod CodeWords
mod Graphs
mod Locals
mod Pins
mod Places
mod Routing
