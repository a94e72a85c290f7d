-- The options document (EXI 1.0, section 5.4 and appendix C) as data. It is an EXI body of its own: strict, bit-packed,
-- informed by the schema of that appendix. Each state has a list of codes, numbered from 0, each with what it stands for
-- and the state in which the document goes on. A code has as many bits as the list needs, none where it has one.
--
-- The elements of a sequence come in the schema's order, each at most once. So the codes of the state behind an element
-- are those that stand behind its own in the list of the sequence.
use Rattle.std.specs.Prelude.{ℕ, List, [], ◌∷◌, drop}
use Rattle.exi_bits.specs.declared.fault.Part.{Part}
use Rattle.exi_bits.specs.declared.fault.Part.TheVariants as part
use Rattle.exi_gram.specs.Codes.{Productions}
use Rattle.exi_gram.specs.declared.options.OptionFlags.{OptionFlags}
use Rattle.exi_options.specs.declared.table.Element.{Element}
use Rattle.exi_options.specs.declared.table.Element.TheVariants as element
use Rattle.exi_options.specs.declared.table.Sign.{Sign}
use Rattle.exi_options.specs.declared.table.Sign.TheVariants as sign
use Rattle.exi_options.specs.declared.table.State.{State}
use Rattle.exi_options.specs.declared.table.State.TheVariants as state

-- what a code stands for, and the state behind it
abbrev pub Code : Type 0
Code = Sign × State

abbrev pub opens : Element → State → Code
opens e next = (sign.Opens e, next)

abbrev pub ends : State → Code
ends next = (sign.Ends, next)

-- an option by its bit among the flags
abbrev pub flag : ℕ → OptionFlags
flag bit = record { 0 = bit }

abbrev pub switches : ℕ → State → Code
switches bit next = (sign.Switch (flag bit), next)

-- what is not supported; nothing is read behind it
abbrev pub refuses : Part → Code
refuses p = (sign.Refused p, state.End)

abbrev pub document : List Code
document = opens element.Header state.Header ∷ refuses part.Root ∷ []

-- lesscommon, common, strict
abbrev pub header : List Code
header =
    opens element.Lesscommon state.Lesscommon
    ∷ opens element.Common state.Common
    ∷ switches 1 state.HeaderAfterStrict
    ∷ ends state.End
    ∷ []

-- uncommon, preserve, blockSize
abbrev pub lesscommon : List Code
lesscommon =
    opens element.Uncommon state.Uncommon
    ∷ opens element.Preserve state.Preserve
    ∷ (sign.BlockSize, state.LesscommonAfterBlockSize)
    ∷ ends state.HeaderAfterLesscommon
    ∷ []

-- selfContained, valueMaxLength, valuePartitionCapacity, datatypeRepresentationMap
abbrev pub uncommon_after : List Code
uncommon_after =
    switches 4 state.UncommonAfterSelfContained
    ∷ (sign.ValueMaxLength, state.UncommonAfterValueMaxLength)
    ∷ (sign.ValuePartitionCapacity, state.UncommonAfterValuePartitionCapacity)
    ∷ refuses part.DatatypeMap
    ∷ ends state.LesscommonAfterUncommon
    ∷ []

-- before them any elements of other namespaces, and the alignment
abbrev pub uncommon : List Code
uncommon =
    opens element.Alignment state.Alignment
    ∷ switches 4 state.UncommonAfterSelfContained
    ∷ (sign.ValueMaxLength, state.UncommonAfterValueMaxLength)
    ∷ (sign.ValuePartitionCapacity, state.UncommonAfterValuePartitionCapacity)
    ∷ refuses part.DatatypeMap
    ∷ refuses part.Metadata
    ∷ ends state.LesscommonAfterUncommon
    ∷ []

-- byte or pre-compress
abbrev pub alignment : List Code
alignment = (sign.Byte, state.AlignmentAfterByte) ∷ refuses part.PreCompress ∷ []

-- dtd, prefixes, lexicalValues, comments, pis
abbrev pub preserve : List Code
preserve =
    switches 64 state.PreserveAfterDtd
    ∷ switches 128 state.PreserveAfterPrefixes
    ∷ refuses part.LexicalValues
    ∷ switches 16 state.PreserveAfterComments
    ∷ switches 32 state.PreserveAfterPis
    ∷ ends state.LesscommonAfterPreserve
    ∷ []

-- compression, fragment, schemaId
abbrev pub common : List Code
common =
    refuses part.Compression
    ∷ switches 2 state.CommonAfterFragment
    ∷ (sign.SchemaId, state.SchemaId)
    ∷ ends state.HeaderAfterCommon
    ∷ []

-- a text, or xsi:nil: where that is true the element ends, where it is false it is as before
abbrev pub schema_id : List Code
schema_id = (sign.Text, state.CommonAfterSchemaId) ∷ opens element.Nil state.Nil ∷ []

abbrev pub nil : List Code
nil = (sign.False, state.SchemaId) ∷ (sign.True, state.CommonAfterSchemaId) ∷ []

-- the codes of each state, numbered from 0; at the end of the document there is none
unfoldable pub codes : State → List Code
codes state.Document = document
codes state.Header = header
codes state.HeaderAfterLesscommon = drop 1 header
codes state.HeaderAfterCommon = drop 2 header
codes state.HeaderAfterStrict = drop 3 header
codes state.Lesscommon = lesscommon
codes state.LesscommonAfterUncommon = drop 1 lesscommon
codes state.LesscommonAfterPreserve = drop 2 lesscommon
codes state.LesscommonAfterBlockSize = drop 3 lesscommon
codes state.Uncommon = uncommon
codes state.UncommonAfterAlignment = uncommon_after
codes state.UncommonAfterSelfContained = drop 1 uncommon_after
codes state.UncommonAfterValueMaxLength = drop 2 uncommon_after
codes state.UncommonAfterValuePartitionCapacity = drop 3 uncommon_after
codes state.Alignment = alignment
codes state.AlignmentAfterByte = ends state.UncommonAfterAlignment ∷ []
codes state.Preserve = preserve
codes state.PreserveAfterDtd = drop 1 preserve
codes state.PreserveAfterPrefixes = drop 2 preserve
codes state.PreserveAfterComments = drop 4 preserve
codes state.PreserveAfterPis = drop 5 preserve
codes state.Common = common
codes state.CommonAfterFragment = drop 2 common
codes state.CommonAfterSchemaId = drop 3 common
codes state.SchemaId = schema_id
codes state.Nil = nil
codes state.End = []

-- the codes of a state as productions, each with a code of one part
abbrev pub productions : State → Productions Code
productions s = record { firsts = codes s; seconds = [] }

-- how many codes may come at most up to the end, where xsi:nil is never false
unfoldable pub ahead : State → ℕ
ahead state.Document = 26
ahead state.Header = 25
ahead state.Lesscommon = 24
ahead state.Uncommon = 23
ahead state.Alignment = 22
ahead state.AlignmentAfterByte = 21
ahead state.UncommonAfterAlignment = 20
ahead state.UncommonAfterSelfContained = 19
ahead state.UncommonAfterValueMaxLength = 18
ahead state.UncommonAfterValuePartitionCapacity = 17
ahead state.LesscommonAfterUncommon = 16
ahead state.Preserve = 15
ahead state.PreserveAfterDtd = 14
ahead state.PreserveAfterPrefixes = 13
ahead state.PreserveAfterComments = 12
ahead state.PreserveAfterPis = 11
ahead state.LesscommonAfterPreserve = 10
ahead state.LesscommonAfterBlockSize = 9
ahead state.HeaderAfterLesscommon = 8
ahead state.Common = 7
ahead state.CommonAfterFragment = 6
ahead state.SchemaId = 5
ahead state.Nil = 4
ahead state.CommonAfterSchemaId = 3
ahead state.HeaderAfterCommon = 2
ahead state.HeaderAfterStrict = 1
ahead state.End = 0
