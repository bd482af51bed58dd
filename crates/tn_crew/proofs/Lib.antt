mod Growing
mod Laying
mod Rooms
mod Slices
mod Standing
