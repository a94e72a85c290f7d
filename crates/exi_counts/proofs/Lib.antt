pub mod ContentParticles
pub mod FewSteps
pub mod InnerEnds
pub mod Sized
pub mod Steps
