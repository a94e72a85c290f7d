pub mod PartNames
pub mod AttributeNames
pub mod Nodes
