-- The laws of the readings under every datatype, and what a list's items are read behind.
use Rattle.exi_bits.specs.declared.align.Align.{Align}
use Rattle.exi_names.specs.Datatypes.{Representation}
use Rattle.exi_names.specs.declared.names.NameId.{NameId}
use Rattle.exi_typed.specs.Continues.{ReadsOn}
use Rattle.exi_typed.specs.Laws.{NoneIsPrefix, ReadIsSpelled, SpelledIsRead}
use Rattle.exi_typed.specs.Limits.{StaysWithin}
use Rattle.exi_typed.specs.Metered.{IsMetered}
use Rattle.exi_values.specs.Spelled.{SpellsValued}
use Rattle.exi_values.specs.Valued.{valued_at}

-- what is read is spelled so, and its charges were taken in turn
abbrev pub ValuesAreSpelled : Type 0
ValuesAreSpelled = (r : Representation) (a : Align) (name : NameId) → ReadIsSpelled a (SpellsValued r a name) (valued_at r a name)

-- what is spelled so is read, whatever follows, where the meter takes its charges; else the first that passes is the fault
abbrev pub ValuesAreRead : Type 0
ValuesAreRead = (r : Representation) (a : Align) (name : NameId) → SpelledIsRead a (SpellsValued r a name) (valued_at r a name)

-- under the same tables no spelling is a proper prefix of another, and each spells one value
abbrev pub NoValueIsPrefix : Type 0
NoValueIsPrefix = (r : Representation) (a : Align) (name : NameId) → NoneIsPrefix (SpellsValued r a name)

-- reading goes onward in the same bytes, charges text alone, and the tables keep each place
abbrev pub ValuesGoOn : Type 0
ValuesGoOn = (r : Representation) (a : Align) (name : NameId) → ReadsOn (valued_at r a name)

-- no limit is passed by what reading charges
abbrev pub ValuesStayWithin : Type 0
ValuesStayWithin = (r : Representation) (a : Align) (name : NameId) → StaysWithin (valued_at r a name)

-- each reading charges a list of texts, whatever the meter is
abbrev pub ValuesAreMetered : Type 0
ValuesAreMetered = (r : Representation) (a : Align) (name : NameId) → IsMetered (valued_at r a name)
