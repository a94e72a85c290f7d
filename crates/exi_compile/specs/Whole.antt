-- All that a schema's parts become.
use Rattle.std.specs.Prelude.{◌≡◌, ℕ, ◌+◌, ◌<◌, ◌^◌, false, Result, Ok, Err, List, All, length, map, get_or}
use Rattle.exi_gram.specs.Terminals.{Rules}
use Rattle.xsd_model.specs.declared.fault.SchemaFault.{SchemaFault}
use Rattle.xsd_model.specs.declared.fault.SchemaStop.{SchemaStop}
use Rattle.xsd_model.specs.declared.fault.SchemaStop.TheVariants as stop
use Rattle.xsd_model.specs.Parts.{IsSchemaParts, Parts}
use Rattle.exi_compiled.specs.Compiled.{Made, can_be_cast, element_grammar, elements_of, fragment_grammar, items_of, type_grammar}
use Rattle.exi_compile.specs.declared.making.Making.{Making}
use Rattle.exi_compile.specs.declared.tables.Tables.{Tables}
use Rattle.exi_compile.specs.Makings.{made_of}
use Rattle.exi_compile.specs.Order.{item}
use Rattle.exi_compile.specs.Tables.{Tells}

-- a place behind each of these is told by 32 bits too
abbrev pub AreSmall : List ℕ → Type 0
AreSmall places = (place : ℕ) → get_or places place 0 + 1 < 2 ^ 32

-- what stands of each element and type
pub record AreTables (p : Parts) (t : Tables) : Type 0 where
  pub parts : IsSchemaParts p
  pub items : map item t.items.items ≡ items_of p
  pub grammars : Tells 0 (element_grammar p) (length p.elements) t.grammars.items
  pub small_grammars : AreSmall t.grammars.items
  pub types : Tells 0 (type_grammar p) (length p.types) t.types.items
  pub small_types : AreSmall t.types.items
  pub casts : Tells false (can_be_cast p) (length p.types) t.casts.items
  pub otherwise : t.otherwise ≡ fragment_grammar p
  pub named : t.named ≡ elements_of p

abbrev pub IsMade : Result Making SchemaStop → Result Made SchemaFault → Type 0
IsMade (Ok making) made = made ≡ Ok (made_of making)
IsMade (Err (stop.Fault fault)) made = made ≡ Err fault
IsMade (Err stop.Memory) made = Unit {0}

-- no state has too many productions
abbrev pub AreFew : List Rules → Type 0
AreFew grammars = All (λ g. All (λ state. length state < 2 ^ 30) g.states) grammars
