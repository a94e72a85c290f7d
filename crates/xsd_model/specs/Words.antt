-- The words of what is printed for a fault of a schema document.
use Rattle.std.specs.Prelude.{ℕ, List, codes}
use Rattle.xsd_model.specs.declared.fault.SchemaKind.{SchemaKind}
use Rattle.xsd_model.specs.declared.fault.SchemaKind.TheVariants as kind

abbrev pub kind_word : SchemaKind → List ℕ
kind_word kind.NotSchema = codes "NotSchema"
kind_word kind.UnknownPart = codes "UnknownPart"
kind_word kind.Unsupported = codes "Unsupported"
kind_word kind.BadPart = codes "BadPart"
kind_word kind.TwiceDeclared = codes "TwiceDeclared"
kind_word kind.Unresolved = codes "Unresolved"
kind_word kind.Circular = codes "Circular"
kind_word kind.PatternRefused = codes "PatternRefused"
kind_word kind.TypesDiffer = codes "TypesDiffer"
kind_word kind.TooLarge = codes "TooLarge"
