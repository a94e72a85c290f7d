-- The words in which the components of a schema are spoken of, for what stands on this crate.
pub use Rattle.xsd_schema.specs.Views.{as_told}
pub use Rattle.xsd_schema.specs.Documents.{Declared}
pub use Rattle.xsd_schema.specs.Readings.{components_of}
pub use Rattle.xsd_tree.specs.Trees.{xsd}
pub use Rattle.xsd_schema.specs.Seen.{Body, TypeSeen, body_seen, complex, simple, type_seen, ur}
