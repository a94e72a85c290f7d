pub mod Particles
