-- Values that are names, as that of xsi:type (EXI 1.0, sections 7.1.7 and 8.4.3).
use Rattle.std.specs.Prelude.{Bool}
use Rattle.exi_bits.specs.declared.align.Align.{Align}
use Rattle.exi_bits.specs.Unsigned.{◌>>=◌}
use Rattle.exi_items.specs.Charges.{text_charge}
use Rattle.exi_meter.specs.Metering.{Metering}
use Rattle.exi_typed.specs.ReadStates.{ReadState, ContextReader, failing}
use Rattle.exi_typed.specs.Charging.{one_charge}
use Rattle.exi_typed.specs.Spelled.{Follows, ChargesOnly, OneSpelling, SpellsName}
use Rattle.exi_typed.specs.Strings.{Named, name_at}

abbrev pub with_meter : ReadState → Metering → ReadState
with_meter c m = record { spot = c.spot; context = record { meter = m; tables = c.context.tables } }

-- a name, with its prefix where prefixes are kept. A value that is no text charges one unit before its first item,
-- beside its texts (own)
unfoldable pub name_value_at : Bool → Align → ContextReader Named
name_value_at keep a c = do
  meter ← failing c.context.meter (text_charge 1 c.spot.place c.context.meter)
  name_at keep a (with_meter c meter)

-- one unit is charged before it, and no bits
abbrev pub SpellsNameValue : Bool → Align → Named → OneSpelling
SpellsNameValue keep a n p q ks text = Follows (ChargesOnly (one_charge 1 0)) (SpellsName keep a n) p q ks text
