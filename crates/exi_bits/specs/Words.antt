-- The words that are printed for what is wrong.
use Rattle.std.specs.Prelude.{ℕ, List, codes}
use Rattle.exi_bits.specs.declared.fault.Kind.{Kind}
use Rattle.exi_bits.specs.declared.fault.Kind.TheVariants as kind
use Rattle.exi_bits.specs.declared.fault.Part.{Part}
use Rattle.exi_bits.specs.declared.fault.Part.TheVariants as part

abbrev pub part_word : Part → List ℕ
part_word part.Root = codes "root"
part_word part.Metadata = codes "metadata"
part_word part.PreCompress = codes "pre-compress"
part_word part.DatatypeMap = codes "datatypeRepresentationMap"
part_word part.LexicalValues = codes "lexicalValues"
part_word part.Compression = codes "compression"

abbrev pub kind_word : Kind → List ℕ
kind_word kind.NoExi = codes "NoExi"
kind_word kind.Version = codes "Version"
kind_word (kind.Unsupported p) = codes "Unsupported"
kind_word kind.Conflict = codes "Conflict"
kind_word kind.WrongSchema = codes "WrongSchema"
kind_word kind.Short = codes "Short"
kind_word kind.TooWide = codes "TooWide"
kind_word kind.BadFloat = codes "BadFloat"
kind_word kind.BadChar = codes "BadChar"
kind_word kind.BadMoment = codes "BadMoment"
kind_word kind.BadPlace = codes "BadPlace"
kind_word kind.ListTooLong = codes "ListTooLong"
kind_word kind.NoCode = codes "NoCode"
kind_word kind.BadType = codes "BadType"
kind_word kind.ScPlace = codes "ScPlace"
kind_word kind.ScRoot = codes "ScRoot"
kind_word kind.ScNotOne = codes "ScNotOne"
kind_word kind.EventLimit = codes "EventLimit"
kind_word kind.TextLimit = codes "TextLimit"
kind_word kind.DepthLimit = codes "DepthLimit"
kind_word kind.TrailingBytes = codes "TrailingBytes"
