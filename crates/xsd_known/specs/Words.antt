-- The words in which a schema that is known is spoken of, for what stands on this crate.
pub use Rattle.xsd_schema.specs.Words.{Declared, TypeSeen, as_told, type_seen}
