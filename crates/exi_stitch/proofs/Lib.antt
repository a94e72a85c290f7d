mod Beside
mod Meets
mod Sequential
mod Stages
mod Ways
