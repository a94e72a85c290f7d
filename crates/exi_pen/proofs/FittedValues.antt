-- What fits a production is a value of its datatype, and is what the definition writes there.
use Rattle.std.proofs.Common.{◌≡◌, ℕ, Bool, true, false, ◌&&◌, cond, List, [], ◌∷◌, Option, Some, None, refl, sym, ap, ◌∙◌, inl, inr}
use Rattle.std.specs.Option.{is_none, is_some}
use Rattle.std.proofs.lemmas.Bool.{cases_Bool}
use Rattle.exi_builtin.specs.Learning.{is_type}
use Rattle.exi_gram.specs.Outlines.{Outline}
use Rattle.exi_gram.specs.Switches.{align_of, prefixes, strict}
use Rattle.exi_gram.specs.declared.entry.TypeEntry.{TypeEntry}
use Rattle.exi_gram.specs.declared.options.Options.{Options}
use Rattle.exi_lexical.proofs.Again.{value_kept}
use Rattle.exi_lexical.specs.Values.{value}
use Rattle.exi_names.specs.Datatypes.{Representation}
use Rattle.exi_names.specs.Datatypes as datatype
use Rattle.exi_names.specs.declared.names.NameId.{NameId}
use Rattle.exi_names.specs.declared.names.QName.{QName}
use Rattle.exi_names.specs.Seen.{Value}
use Rattle.exi_names.specs.Seen as shape
use Rattle.exi_tables.specs.Partitions.{Partitions}
use Rattle.exi_typed.specs.Strings.{Named}
use Rattle.exi_typed.specs.Written.{after_name, name_bits}
use Rattle.exi_typed.specs.WrittenLaws.{name_units, named_for}
use Rattle.exi_values.specs.Written.{after_valued, valued_bits}
use Rattle.exi_values.specs.WrittenLaws.{valued_units}
use Rattle.exi_processing.specs.Changes.{effect_of, leads, nil_effect, stays, type_effect}
use Rattle.exi_processing.specs.Configurations.{Setting}
use Rattle.exi_processing.specs.Contents.{is_nil, named_type}
use Rattle.exi_gram.specs.Globals.{attribute_datatype, is_named, type_grammar}
use Rattle.exi_processing.specs.Rules.{Terminal, Valuing, attribute, by_name, characters, comment, declaration, document_type, element, end_document, end_element, entity, instruction, self_contained, start_document, typed, untyped}
use Rattle.exi_writing.specs.Contents.{attribute_value, of, text_of, type_value, valued}
use Rattle.exi_writing.specs.Pieces as piece
use Rattle.exi_writing.specs.Pieces.{Piece, can_be_valued, can_name, if_spelled, turned, with_unit}
use Rattle.exi_writing.specs.Pruned.{pruned_name, pruned_value}
use Rattle.exi_choice.specs.Fitting.{Declared, as_nil, as_type, by_datatype, declared_in, fit_as, fit_for, fit_in, is_name, of_attribute, of_characters, spelled_value, value_of_text}
use Rattle.exi_pen.specs.Values.{FitsAs, IsSpelledAs, declared_value, value_by}
use Rattle.exi_pen.proofs.EventNames.{piece_is, spelled_item}

-- ---- the prefix of a name that is a value tells nothing of what fits
text_pruned : (o : Options) (v : Value) → text_of (pruned_value o v) ≡ text_of v
text_pruned o (shape.text x) = refl
text_pruned o (shape.boolean truth digit) = refl
text_pruned o (shape.integer n) = refl
text_pruned o (shape.decimal minus whole back) = refl
text_pruned o (shape.float mantissa exponent) = refl
text_pruned o (shape.moment m) = refl
text_pruned o (shape.binary hex octets) = refl
text_pruned o (shape.items vs) = refl
text_pruned o (shape.name n) = refl

fit_pruned : (r : Representation) (o : Options) (v : Value) → fit_for r (pruned_value o v) ≡ fit_for r v
fit_pruned r o v = ap (λ (t : Option (List ℕ)). spelled_value (value_of_text r t)) (text_pruned o v)

type_fit_pruned : (o : Options) (v : Value) → is_some (fit_as as_type (pruned_value o v)) ≡ is_some (fit_as as_type v)
type_fit_pruned o (shape.text x) = refl
type_fit_pruned o (shape.boolean truth digit) = refl
type_fit_pruned o (shape.integer n) = refl
type_fit_pruned o (shape.decimal minus whole back) = refl
type_fit_pruned o (shape.float mantissa exponent) = refl
type_fit_pruned o (shape.moment m) = refl
type_fit_pruned o (shape.binary hex octets) = refl
type_fit_pruned o (shape.items vs) = refl
type_fit_pruned o (shape.name n) = refl

declared_pruned : (d : Declared) (o : Options) (v : Value) → is_some (fit_as d (pruned_value o v)) ≡ is_some (fit_as d v)
declared_pruned as_type o v = type_fit_pruned o v
declared_pruned as_nil o v = ap (λ (z : Option Value). is_some z) (fit_pruned (datatype.boolean false) o v)
declared_pruned (by_datatype r) o v = ap (λ (z : Option Value). is_some z) (fit_pruned r o v)

pub attribute_pruned : (s : Outline) (t : Terminal) (id : Option NameId) (n : QName) (o : Options) (v : Value) → is_some (fit_in s t (of_attribute id n (pruned_value o v))) ≡ is_some (fit_in s t (of_attribute id n v))
attribute_pruned s start_document id n o v = refl
attribute_pruned s end_document id n o v = refl
attribute_pruned s (element t) id n o v = refl
attribute_pruned s (attribute t u) id n o v = declared_pruned (declared_in s u id n) o v
attribute_pruned s (characters d) id n o v = refl
attribute_pruned s end_element id n o v = refl
attribute_pruned s declaration id n o v = refl
attribute_pruned s self_contained id n o v = refl
attribute_pruned s comment id n o v = refl
attribute_pruned s instruction id n o v = refl
attribute_pruned s document_type id n o v = refl
attribute_pruned s entity id n o v = refl

pub characters_pruned : (s : Outline) (t : Terminal) (o : Options) (v : Value) → is_some (fit_in s t (of_characters (pruned_value o v))) ≡ is_some (fit_in s t (of_characters v))
characters_pruned s start_document o v = refl
characters_pruned s end_document o v = refl
characters_pruned s (element t) o v = refl
characters_pruned s (attribute t u) o v = refl
characters_pruned s (characters d) o v = ap (λ (z : Option Value). is_some z) (fit_pruned d o v)
characters_pruned s end_element o v = refl
characters_pruned s declaration o v = refl
characters_pruned s self_contained o v = refl
characters_pruned s comment o v = refl
characters_pruned s instruction o v = refl
characters_pruned s document_type o v = refl
characters_pruned s entity o v = refl

-- ---- what fits is of the datatype
some_is : (v w : Value) → Some w ≡ Some v → w ≡ v
some_is v w e = cc

record IsSpelled (o : Option Value) (w : Value) : Type 0 where
  is : o ≡ Some w
  spelled : can_be_valued w ≡ true

spelled_some : (o : Option Value) (w : Value) → Some w ≡ spelled_value o → IsSpelled o w
spelled_some None w e = absurd cc
spelled_some (Some x) w e = elim (cases_Bool (can_be_valued x)) [
  | inl h ↦
      let k : Some w ≡ Some x = rw h at e in
      record { is = sym k; spelled = ap can_be_valued (some_is x w k) ∙ h }
  | inr h ↦ absurd (let k : Some w ≡ None = rw h at e in cc)
]

pub spelled_as : (r : Representation) (v w : Value) → Some w ≡ fit_for r v → IsSpelledAs r w
spelled_as r v w e = by (text_of v) e
  where
    by : (o : Option (List ℕ)) → Some w ≡ spelled_value (value_of_text r o) → IsSpelledAs r w
    by None k = absurd cc
    by (Some t) k = let s = spelled_some (value r t) w k in record { form = (value_kept r t w s.is).of; spelled = s.spelled }

named_is : (v w : Value) → Some w ≡ fit_as as_type v → (w ≡ v) × (is_name v ≡ true)
named_is v w e = elim (cases_Bool (is_name v)) [
  | inl h ↦
      let k : Some w ≡ Some v = rw h at e in
      (some_is v w k, h)
  | inr h ↦ absurd (let k : Some w ≡ None = rw h at e in cc)
]

pub fits_as : (d : Declared) (v w : Value) → Some w ≡ fit_as d v → FitsAs d w
fits_as as_type v w e = let k = named_is v w e in ap is_name k.0 ∙ k.1
fits_as as_nil v w e = spelled_as (datatype.boolean false) v w e
fits_as (by_datatype r) v w e = spelled_as r v w e

-- ---- and is what the definition writes
pub valued_as : (g : Setting) (r : Representation) (id : NameId) (v w : Value) (p : Partitions) → Some w ≡ fit_for r v → valued g r id (pruned_value g.options v) p ≡ value_by g r id w p
valued_as g r id v w p e = ap (λ (o : Option (List ℕ)). of {A = List ℕ} {X = Value} o (λ t. of {A = Value} {X = Value} (value r t) (piece.value r (align_of g.options) id)) p) (text_pruned g.options v) ∙ by (text_of v) e
  where
    by : (o : Option (List ℕ)) → Some w ≡ spelled_value (value_of_text r o) → of {A = List ℕ} {X = Value} o (λ t. of {A = Value} {X = Value} (value r t) (piece.value r (align_of g.options) id)) p ≡ value_by g r id w p
    by None k = absurd cc
    by (Some t) k = ap (λ (z : Option Value). of {A = Value} {X = Value} z (piece.value r (align_of g.options) id) p) (spelled_some (value r t) w k).is

without_prefix : (ts : List TypeEntry) (n : QName) → type_grammar ts (record n { prefix = None }) ≡ type_grammar ts n
without_prefix [] n = refl
without_prefix (t ∷ ts) n =
    ap (λ (b : Bool). cond b (Some t.full) (type_grammar ts (record n { prefix = None }))) (named_alike t.name)
    ∙ ap (λ (o : Option ℕ). cond (is_named t.name n) (Some t.full) o) (without_prefix ts n)
  where
    named_alike : (o : Option QName) → is_named o (record n { prefix = None }) ≡ is_named o n
    named_alike None = refl
    named_alike (Some own) = refl

grammar_pruned : (o : Options) (ts : List TypeEntry) (n : QName) → type_grammar ts (pruned_name o n) ≡ type_grammar ts n
grammar_pruned o ts n = elim (cases_Bool (prefixes o)) [
  | inl h ↦ rw h refl
  | inr h ↦ rw h (without_prefix ts n)
]

named_pruned : (g : Setting) (o : Options) (v : Value) → named_type g (pruned_value o v) ≡ named_type g v
named_pruned g o (shape.text x) = refl
named_pruned g o (shape.boolean truth digit) = refl
named_pruned g o (shape.integer n) = refl
named_pruned g o (shape.decimal minus whole back) = refl
named_pruned g o (shape.float mantissa exponent) = refl
named_pruned g o (shape.moment m) = refl
named_pruned g o (shape.binary hex octets) = refl
named_pruned g o (shape.items vs) = refl
named_pruned g o (shape.name n) = grammar_pruned o g.schema.types n

type_as : (g : Setting) (id : NameId) (v w : Value) (p : Partitions) → Some w ≡ fit_as as_type v
    → cond (strict g.options && is_none (named_type g (pruned_value g.options v))) None (type_value g (pruned_value g.options v) p) ≡ declared_value g as_type id w p
type_as g id v w p e =
    ap (λ (o : Option ℕ). cond (strict g.options && is_none o) None (type_value g (pruned_value g.options v) p)) (named_pruned g g.options v)
    ∙ ap (λ (z : Value). declared_value g as_type id z p) (sym (named_is v w e).0)

pub attribute_as : (g : Setting) (u : Valuing) (name : Named) (v w : Value) (p : Partitions) → Some w ≡ fit_as (declared_in g.schema u (Some name.id) name.name) v
    → attribute_value g u name (pruned_value g.options v) p ≡ declared_value g (declared_in g.schema u (Some name.id) name.name) name.id w p
attribute_as g untyped name v w p e = elim (cases_Bool (is_type name.id)) [
  | inl h ↦ rw h (type_as g name.id v w p (rw h at e))
  | inr h ↦ rw h (valued_as g datatype.text name.id v w p (rw h at e))
]
attribute_as g (typed r) name v w p e = valued_as g r name.id v w p e
attribute_as g by_name name v w p e = elim (cases_Bool (is_type name.id)) [
  | inl h ↦ rw h (type_as g name.id v w p (rw h at e))
  | inr h ↦ elim (cases_Bool (is_nil name.id)) [
    | inl k ↦ rw (h, k) (valued_as g (datatype.boolean false) name.id v w p (rw (h, k) at e))
    | inr k ↦ rw (h, k) (valued_as g (attribute_datatype g.schema.attributes name.name) name.id v w p (rw (h, k) at e))
  ]
]

-- ---- what comes of it
value_item : (g : Setting) (r : Representation) (id : NameId) (w : Value) (p : Partitions) (x : Piece Value) → value_by g r id w p ≡ Some x → w ≡ x.item
value_item g r id w p x e = ap (λ (z : Piece Value). z.item) (spelled_item (can_be_valued w) (record { item = w; bits = valued_bits r (align_of g.options) id p w; tables = after_valued r id p w; units = valued_units r w }) x e)

abbrev as_value : Named → Value
as_value n = shape.name n.name

name_item : (b : Bool) (a : Piece Named) (x : Piece Value) → turned as_value (with_unit (if_spelled b a)) ≡ Some x → shape.name (a.item).name ≡ x.item
name_item true a x e = ap (λ (z : Piece Value). z.item) (piece_is (record { item = as_value a.item; bits = a.bits; tables = a.tables; units = 1 ∷ a.units }) x e)
name_item false a x e = absurd cc

type_item : (g : Setting) (w : Value) (p : Partitions) (x : Piece Value) (missing : Bool) → cond missing None (type_value g (pruned_value g.options w) p) ≡ Some x → pruned_value g.options w ≡ x.item
type_item g w p x true e = absurd cc
type_item g (shape.text t) p x false e = absurd cc
type_item g (shape.boolean truth digit) p x false e = absurd cc
type_item g (shape.integer n) p x false e = absurd cc
type_item g (shape.decimal minus whole back) p x false e = absurd cc
type_item g (shape.float mantissa exponent) p x false e = absurd cc
type_item g (shape.moment m) p x false e = absurd cc
type_item g (shape.binary hex octets) p x false e = absurd cc
type_item g (shape.items vs) p x false e = absurd cc
type_item g (shape.name n) p x false e =
    let kept : QName = pruned_name g.options n in
    name_item (can_name (prefixes g.options) p kept) (record { item = named_for p kept; bits = name_bits (prefixes g.options) (align_of g.options) p kept; tables = after_name p kept; units = name_units kept }) x e

type_same : (g : Setting) (id : NameId) (w : Value) (p : Partitions) (x : Piece Value) → declared_value g as_type id w p ≡ Some x → named_type g w ≡ named_type g x.item
type_same g id w p x e = sym (named_pruned g g.options w) ∙ ap (named_type g) (type_item g w p x (strict g.options && is_none (named_type g w)) e)

pub effect_is : (g : Setting) (u : Valuing) (name : Named) (w : Value) (p : Partitions) (x : Piece Value) → declared_value g (declared_in g.schema u (Some name.id) name.name) name.id w p ≡ Some x → effect_of g u name.id w ≡ effect_of g u name.id x.item
effect_is g untyped name w p x e = elim (cases_Bool (is_type name.id)) [
  | inl h ↦ rw h (ap (type_effect leads) (type_same g name.id w p x (rw h at e)))
  | inr h ↦ rw h refl
]
effect_is g (typed r) name w p x e = refl
effect_is g by_name name w p x e = elim (cases_Bool (is_type name.id)) [
  | inl h ↦ rw h (ap (type_effect stays) (type_same g name.id w p x (rw h at e)))
  | inr h ↦ elim (cases_Bool (is_nil name.id)) [
    | inl k ↦ rw (h, k) (ap nil_effect (value_item g (datatype.boolean false) name.id w p x (rw (h, k) at e)))
    | inr k ↦ rw (h, k) refl
  ]
]
