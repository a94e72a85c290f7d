-- The value of an attribute that acts as xsi:type: a name, whose type has to be there in a strict stream.
use Rattle.std.proofs.Common.{◌≡◌, ◌&&◌, ℕ, Bool, true, false, cond, Result, Ok, Err, refl, ap, ◌∙◌}
use Rattle.std.specs.Option.{is_none}
use Rattle.exi_bits.specs.declared.align.Align.{Align}
use Rattle.exi_bits.specs.declared.fault.Kind.TheVariants as kind
use Rattle.exi_bits.specs.Unsigned.{◌>>=◌}
use Rattle.exi_gram.specs.Switches.{align_of, prefixes, strict}
use Rattle.exi_names.specs.Datatypes.{Representation}
use Rattle.exi_names.specs.Datatypes as datatype
use Rattle.exi_names.specs.declared.names.NameId.{NameId}
use Rattle.exi_names.specs.declared.val.Val.{Val}
use Rattle.exi_names.specs.Seen.{Value, seen}
use Rattle.exi_names.specs.Seen as value
use Rattle.exi_bits.specs.declared.fault.Stop.{Stop}
use Rattle.exi_meter.specs.Metering.{Metering}
use Rattle.exi_tables.specs.Growth.{KeepsAll}
use Rattle.exi_typed.specs.Items.{item_at}
use Rattle.exi_typed.specs.NameValues.{name_value_at}
use Rattle.exi_typed.specs.ReadStates.{Failure, GoesOrStops, ReadState}
use Rattle.exi_typed.specs.Strings.{Named}
use Rattle.exi_values.specs.Valued.{valued_at}
use Rattle.exi_values.proofs.Goings.{values_go_on}
use Rattle.std.specs.Prelude.{IfOk}
use Rattle.exi_processing.specs.Configurations.{Setting}
use Rattle.exi_processing.specs.Contents.{acts_as_type, attribute_value_at, is_missing, represented_by, type_value}
use Rattle.exi_gram.specs.Globals.{type_grammar}
use Rattle.exi_processing.specs.Rules.{Valuing, by_name, typed, untyped}

-- ---- any value keeps each name
pub value_keeps : (r : Representation) (a : Align) (name : NameId) (c k : ReadState) (m : Metering) (result : Result Val Stop) → GoesOrStops (λ v. (seen v, k)) m result (valued_at r a name c) → IfOk result (λ v. KeepsAll c.context.tables k.context.tables)
value_keeps r a name c k m (Ok v) h = (values_go_on r a name (seen v) c k h).keeps
value_keeps r a name c k m (Err e) h = tt

-- ---- a name of a type
represented_as : (g : Setting) (v : Valuing) (name : Named) → acts_as_type v name.id ≡ true → represented_by g v name ≡ type_value g
represented_as g untyped name h = rw h refl
represented_as g (typed r) name h = absurd cc
represented_as g by_name name h = rw h refl

abbrev as_name : Named × ReadState → Result (Value × ReadState) Failure
as_name n = Ok (value.name n.0.name, n.1)

name_valued : (keep : Bool) (a : Align) (id : NameId) (c : ReadState) → valued_at (datatype.name keep) a id c ≡ (name_value_at keep a c >>= λ n. as_name n)
unfolding valued_at item_at
name_valued keep a id c = refl

abbrev missing : ℕ → ReadState → Result (Value × ReadState) Failure
missing bit k = Err (record { fault = record { kind = kind.BadType; bit = bit }; meter = k.context.meter })

abbrev found : Value → ReadState → Result (Value × ReadState) Failure
found v k = Ok (v, k)

-- whether it is missed
abbrev is_lost : Setting → Named → Bool
is_lost g n = strict g.options && is_none (type_grammar g.schema.types n.name)

module _ (g : Setting) (v : Valuing) (name : Named) (c : ReadState) (acts : acts_as_type v name.id ≡ true) where
  abbrev read : Result (Named × ReadState) Failure
  read = name_value_at (prefixes g.options) (align_of g.options) c

  abbrev told_type : Named × ReadState → Result (Value × ReadState) Failure
  told_type n = cond (is_lost g n.0) (missing c.spot.place n.1) (found (value.name n.0.name) n.1)

  type_value_is : attribute_value_at g v name c ≡ (read >>= told_type)
  unfolding attribute_value_at
  type_value_is =
      ap (λ (z : Representation). valued_at z (align_of g.options) name.id c >>= λ x. cond (is_missing g v name.id x.0) (missing c.spot.place x.1) (found x.0 x.1)) (represented_as g v name acts)
      ∙ (ap (λ (r : Result (Value × ReadState) Failure). r >>= λ x. cond (is_missing g v name.id x.0) (missing c.spot.place x.1) (found x.0 x.1)) (name_valued (prefixes g.options) (align_of g.options) name.id c)
      ∙ twice read)
    where
      twice : (r : Result (Named × ReadState) Failure) → ((r >>= λ n. as_name n) >>= λ x. cond (is_missing g v name.id x.0) (missing c.spot.place x.1) (found x.0 x.1)) ≡ (r >>= told_type)
      twice (Err e) = refl
      twice (Ok n) = ap (λ (b : Bool). cond (b && is_lost g n.0) (missing c.spot.place n.1) (found (value.name n.0.name) n.1)) acts

  pub type_read : (n : Named) (k : ReadState) → read ≡ Ok (n, k) → is_lost g n ≡ false → attribute_value_at g v name c ≡ Ok (value.name n.name, k)
  type_read n k e lost = type_value_is ∙ (ap (λ (r : Result (Named × ReadState) Failure). r >>= told_type) e ∙ ap (λ (b : Bool). cond b (missing c.spot.place k) (found (value.name n.name) k)) lost)

  pub type_lost : (n : Named) (k : ReadState) → read ≡ Ok (n, k) → is_lost g n ≡ true → attribute_value_at g v name c ≡ Err (record { fault = record { kind = kind.BadType; bit = c.spot.place }; meter = k.context.meter })
  type_lost n k e lost = type_value_is ∙ (ap (λ (r : Result (Named × ReadState) Failure). r >>= told_type) e ∙ ap (λ (b : Bool). cond b (missing c.spot.place k) (found (value.name n.name) k)) lost)

  pub type_fails : (e : Failure) → read ≡ Err e → attribute_value_at g v name c ≡ Err e
  type_fails e h = type_value_is ∙ ap (λ (r : Result (Named × ReadState) Failure). r >>= told_type) h
