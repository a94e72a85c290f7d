-- Items by their representation: what is read is what is spelled, and it goes onward.
use Rattle.std.proofs.Common.{ℕ, Bool, List, None, sym}
use Rattle.exi_bits.specs.declared.align.Align.{Align}
use Rattle.exi_names.specs.declared.names.NameId.{NameId}
use Rattle.exi_names.specs.Seen.{Value}
use Rattle.exi_names.specs.Seen as value
use Rattle.exi_tables.specs.Partitions.{Partitions}
use Rattle.exi_typed.specs.Charging.{Charge}
use Rattle.exi_typed.specs.ReadStates.{ReadState}
use Rattle.exi_typed.specs.Items.{SpellsItem, SpellsQualified, SpellsString, Tabled, item_at, qualified, string}
use Rattle.exi_typed.specs.NameValues.{SpellsNameValue, name_value_at}
use Rattle.exi_typed.specs.Continues.{ReadsOn}
use Rattle.exi_typed.specs.Spelled.{SpellsValue}
use Rattle.exi_typed.specs.Strings.{Named, value_at}
use Rattle.exi_typed.proofs.ContextItems.{ContextItem, MadeInContext, in_words, made, told}
use Rattle.exi_typed.proofs.Goings.{chained_goes, name_value_goes, told_goes, value_goes}
use Rattle.exi_typed.proofs.NameItems.{item_name_value}
use Rattle.exi_typed.proofs.Texts.{item_value}

abbrev as_text : List ℕ → Partitions → Value
as_text text b = value.text text

abbrev as_name : Named → Partitions → Value
as_name n b = value.name n.name

pub item_item : (kind : Tabled) (a : Align) (name : NameId) → ContextItem {X = Value} a (item_at kind a name) (SpellsItem kind a name)
unfolding item_at
item_item string a name = in_words a (λ c. item_at string a name c) (MadeInContext as_text (SpellsValue None a name)) (SpellsString a name) to from (made a (value_at None a name) as_text (SpellsValue None a name) (item_value None a name))
  where
    to : (x : Value) (w v : Partitions) (ks : List Charge) (text : List Bool) → MadeInContext as_text (SpellsValue None a name) x w v ks text → SpellsString a name x w v ks text
    to x w v ks text m = record { string = m.from; is = sym m.is; spelled = m.spelled }

    from : (x : Value) (w v : Partitions) (ks : List Charge) (text : List Bool) → SpellsString a name x w v ks text → MadeInContext as_text (SpellsValue None a name) x w v ks text
    from x w v ks text h = record { from = h.string; is = sym h.is; spelled = h.spelled }
item_item (qualified keep) a name = in_words a (λ c. item_at (qualified keep) a name c) (MadeInContext as_name (SpellsNameValue keep a)) (SpellsQualified keep a) to from (made a (name_value_at keep a) as_name (SpellsNameValue keep a) (item_name_value keep a))
  where
    to : (x : Value) (w v : Partitions) (ks : List Charge) (text : List Bool) → MadeInContext as_name (SpellsNameValue keep a) x w v ks text → SpellsQualified keep a x w v ks text
    to x w v ks text m = record { name = m.from; is = sym m.is; spelled = m.spelled }

    from : (x : Value) (w v : Partitions) (ks : List Charge) (text : List Bool) → SpellsQualified keep a x w v ks text → MadeInContext as_name (SpellsNameValue keep a) x w v ks text
    from x w v ks text h = record { from = h.name; is = sym h.is; spelled = h.spelled }

pub item_goes : (kind : Tabled) (a : Align) (name : NameId) → ReadsOn {X = Value} (item_at kind a name)
unfolding item_at
item_goes string a name = chained_goes (value_at None a name) (λ text c. told {X = Value × ReadState} (value.text text, c)) (value_goes None a name) (λ text. told_goes (λ c. value.text text))
item_goes (qualified keep) a name = chained_goes (name_value_at keep a) (λ n c. told {X = Value × ReadState} (value.name n.name, c)) (name_value_goes keep a) (λ n. told_goes (λ c. value.name n.name))
