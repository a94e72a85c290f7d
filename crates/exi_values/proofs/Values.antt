-- Values under every datatype: what is read is what is spelled.
use Rattle.exi_bits.specs.declared.align.Align.{Align}
use Rattle.exi_names.specs.Datatypes.{Representation}
use Rattle.exi_names.specs.Datatypes as datatype
use Rattle.exi_names.specs.Seen.{Value}
use Rattle.exi_names.specs.declared.names.NameId.{NameId}
use Rattle.exi_scalar.specs.Scalars.{boolean_at, decimal_at, float_at}
use Rattle.exi_scalar.specs.Spelled.{SpellsBoolean, SpellsDecimal, SpellsFloat}
use Rattle.exi_scalar.proofs.Signs.{item_boolean, item_decimal, item_float}
use Rattle.exi_typed.specs.Items.{qualified, string}
use Rattle.exi_typed.proofs.ContextItems.{Agrees, ContextItem, agrees}
use Rattle.exi_typed.proofs.ItemLaws.{item_item}
use Rattle.exi_values.specs.Readings.{dated_at, natural_at, small_at, whole_at}
use Rattle.exi_values.specs.Spelled.{SpellsDated, SpellsNatural, SpellsSmall, SpellsValued, SpellsWhole}
use Rattle.exi_values.specs.Valued.{is_measured, valued_at}
use Rattle.exi_values.proofs.Bits.{item_dated, item_natural, item_small, item_whole}
use Rattle.exi_values.proofs.Pieces.{charged_item, choice_item, in_set_item, list_item, octets_item}

pub item_valued : (r : Representation) (a : Align) (name : NameId) → ContextItem {X = Value} a (valued_at r a name) (SpellsValued r a name)
unfolding valued_at
item_valued (datatype.small least count) a name = charged_item a (small_at least count a) (SpellsSmall least count a) (item_small least count a)
item_valued datatype.unsigned a name = charged_item a natural_at SpellsNatural (item_natural a)
item_valued datatype.integer a name = charged_item a (whole_at a) (SpellsWhole a) (item_whole a)
item_valued (datatype.boolean pattern) a name = charged_item a (boolean_at pattern a) (SpellsBoolean pattern a) (item_boolean pattern a)
item_valued (datatype.binary hex) a name = octets_item hex a
item_valued datatype.decimal a name = charged_item a (decimal_at a) (SpellsDecimal a) (item_decimal a)
item_valued datatype.float a name = charged_item a (float_at a) (SpellsFloat a) (item_float a)
item_valued (datatype.moment kind) a name = charged_item a (dated_at kind a) (SpellsDated kind a) (item_dated kind a)
item_valued (datatype.list item) a name = list_item a (valued_at item a name) (SpellsValued item a name) (item_valued item a name)
item_valued (datatype.choice base values) a name = choice_item (is_measured base) values a
item_valued datatype.text a name = item_item string a name
item_valued (datatype.chars set) a name = in_set_item set a name
item_valued (datatype.name keep) a name = item_item (qualified keep) a name

pub values_agree : (r : Representation) (a : Align) (name : NameId) → Agrees a (SpellsValued r a name) (valued_at r a name)
values_agree r a name = agrees a (SpellsValued r a name) (valued_at r a name) (item_valued r a name)
