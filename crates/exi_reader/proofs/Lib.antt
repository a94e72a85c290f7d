mod CodeParts
mod Handed
mod Joining
mod StepParts
mod Stepping
