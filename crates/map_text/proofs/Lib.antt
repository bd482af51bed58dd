mod Ranges
mod Sections
