-- The grammars of types and elements as they are made, one after another.
use Rattle.std.specs.Prelude.{◌≡◌, ◌+◌, ◌<◌, false, Result, Ok, Err, [], ◌∷◌, ◌++◌, length, map}
use Rattle.exi_gram.specs.Terminals.{Rules, rules_of}
use Rattle.xsd_model.specs.declared.fault.SchemaStop.{SchemaStop}
use Rattle.xsd_model.specs.declared.fault.SchemaStop.TheVariants as stop
use Rattle.xsd_model.specs.declared.fault.SchemaFault.{SchemaFault}
use Rattle.xsd_model.specs.Parts.{IsSchemaParts, Parts}
use Rattle.exi_compiled.specs.Compiled.{Item, Made, can_be_cast, element_grammar, fragment_grammar, instance_rules, is_nillable, item_event, item_type, of_element, of_type, opened, refused, with_instance}
use Rattle.exi_normal.specs.Normals.{Refusal}
use Rattle.exi_compile.specs.declared.making.Making.{Making}
use Rattle.exi_compile.specs.declared.making.Source.{Source}
use Rattle.exi_compile.specs.Tables.{Tells}

abbrev pub made_of : Making → Made
made_of m = record { total = m.total; grammars = map rules_of m.grammars }

abbrev pub Makes : {X : Type 0} → Result X SchemaStop → Made → Result Made SchemaFault → Type 0
Makes (Ok x) new made = made ≡ Ok new
Makes (Err (stop.Fault fault)) new made = made ≡ Err fault
Makes (Err stop.Memory) new made = Unit {0}

abbrev pub IsItem : Parts → Item → Type 0
IsItem p (of_type place) = place < length p.types
IsItem p (of_element place) = place < length p.elements

-- all of it is of one schema
pub record IsSource (s : Source) : Type 0 where
  pub parts : IsSchemaParts s.parts.now
  pub counts : s.counts.now ≡ s.parts.now
  pub grammars : Tells 0 (element_grammar s.parts.now) (length s.parts.now.elements) s.grammars.now
  pub otherwise : s.otherwise ≡ fragment_grammar s.parts.now
  pub casts : Tells false (can_be_cast s.parts.now) (length s.parts.now.types) s.casts.now

-- with a grammar and its empty form
abbrev pub with_pair : Parts → Item → Made → Rules → Rules → Made
with_pair p item made full empty = record {
  total = made.total + (length full.states + length empty.states);
  grammars = made.grammars ++ with_instance (instance_rules (can_be_cast p (item_type p item)) (is_nillable p item)) (opened p full) ∷ opened p empty ∷ [];
}

-- by what was made of its type
abbrev pub item_made : Parts → Item → Made → Result (Rules × Rules) Refusal → Result Made SchemaFault
item_made p item made (Err why) = Err (refused why (item_event p item))
item_made p item made (Ok pair) = Ok (with_pair p item made pair.0 pair.1)
