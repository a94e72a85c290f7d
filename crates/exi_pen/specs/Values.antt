-- What is written of an attribute's value, and of characters, once it is known which value that is (EXI 1.0, section 7.1).
use Rattle.std.specs.Prelude.{◌≡◌, ◌&&◌, true, false, None, Ok, if◌then◌else◌}
use Rattle.std.specs.Option.{is_none}
use Rattle.exi_choice.specs.Fitting.{Declared, as_nil, as_type, by_datatype, is_name}
use Rattle.exi_gram.specs.Switches.{align_of, strict}
use Rattle.exi_meter.specs.Metering.{Metering}
use Rattle.exi_names.specs.Datatypes.{Representation}
use Rattle.exi_names.specs.Datatypes as datatype
use Rattle.exi_names.specs.Forms.{IsOf}
use Rattle.exi_names.specs.Seen.{Value}
use Rattle.exi_names.specs.declared.names.NameId.{NameId}
use Rattle.exi_processing.specs.Configurations.{Setting}
use Rattle.exi_processing.specs.Contents.{named_type}
use Rattle.exi_tables.specs.Partitions.{Partitions}
use Rattle.exi_toll.specs.Charges.{Charged}
use Rattle.exi_values.specs.Stops.{IsRoomy}
use Rattle.exi_writing.specs.Contents.{type_value}
use Rattle.exi_writing.specs.Pieces as piece
use Rattle.exi_writing.specs.Pieces.{Writing, can_be_valued}
use Rattle.exi_writing.specs.Pruned.{pruned_value}

-- a value of the datatype, that has a spelling
pub record IsSpelledAs (r : Representation) (v : Value) : Type 0 where
  pub form : IsOf r v
  pub spelled : can_be_valued v ≡ true

abbrev pub FitsAs : Declared → Value → Type 0
FitsAs as_type v = is_name v ≡ true
FitsAs as_nil v = IsSpelledAs (datatype.boolean false) v
FitsAs (by_datatype r) v = IsSpelledAs r v

-- such a value written
abbrev pub value_by : Setting → Representation → NameId → Value → Writing Value
value_by g r name v p = piece.value r (align_of g.options) name v p

-- a name is that of a type, which has to be there in a strict stream
abbrev pub declared_value : Setting → Declared → NameId → Value → Writing Value
declared_value g as_type name v p = if strict g.options && is_none (named_type g v) then None else type_value g (pruned_value g.options v) p
declared_value g as_nil name v p = value_by g (datatype.boolean false) name v p
declared_value g (by_datatype r) name v p = value_by g r name v p

-- where no limit is passed yet, the tables have room for what may still be charged
abbrev pub HasRoomBehind : Charged → Partitions → Type 0
HasRoomBehind toll p = (m : Metering) → toll ≡ Ok m → IsRoomy m p
