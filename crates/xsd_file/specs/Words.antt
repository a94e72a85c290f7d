-- The words in which a schema document in a file is spoken of, for what stands on this crate.
pub use Rattle.xsd_known.specs.Knowing.{Known}
pub use Rattle.xsd_known.specs.Promises.{known_in}
pub use Rattle.xsd_known.specs.Words.{Declared, as_told}
