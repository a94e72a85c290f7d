-- What is written of an attribute's value, and of characters, where it fits: each production in which it does writes it
-- with the others or not at all.
use Rattle.std.proofs.Common.{◌≡◌, ℕ, Bool, true, false, ◌&&◌, cond, List, Option, Some, None, refl, sym, ◌∙◌, inl, inr}
use Rattle.std.specs.Option.{is_none, is_some}
use Rattle.std.proofs.lemmas.Bool.{cases_Bool}
use Rattle.exi_bits.specs.declared.align.Align.{Align}
use Rattle.exi_builtin.specs.Learning.{is_type}
use Rattle.exi_gram.specs.Switches.{align_of, strict}
use Rattle.exi_lexical.specs.Values.{value}
use Rattle.exi_names.specs.Datatypes.{Representation}
use Rattle.exi_names.specs.declared.names.NameId.{NameId}
use Rattle.exi_names.specs.Seen.{Value}
use Rattle.exi_names.specs.Seen as shape
use Rattle.exi_tables.specs.Partitions.{Partitions}
use Rattle.exi_typed.specs.Strings.{Named}
use Rattle.exi_processing.specs.Configurations.{Setting}
use Rattle.exi_processing.specs.Contents.{acts_as_type, is_missing, is_nil, named_type, represented_by}
use Rattle.exi_processing.specs.Rules.{Valuing, by_name, typed, untyped}
use Rattle.exi_writing.specs.Contents.{attribute_value, of, text_of, type_value, valued}
use Rattle.exi_writing.specs.Pieces as piece
use Rattle.exi_writing.specs.Pieces.{Piece, can_be_valued}
use Rattle.exi_choice.specs.Fitting.{declared_in, fit_as, fit_for, is_name, is_nil_at, is_type_at, spelled_value, value_of_text}

-- ---- under a datatype
by_value : (r : Representation) (a : Align) (name : NameId) (p : Partitions) (o : Option Value) → is_some (of o (piece.value r a name) p) ≡ is_some (spelled_value o)
by_value r a name p None = refl
by_value r a name p (Some v) = elim (cases_Bool (can_be_valued v)) [
  | inl h ↦ rw h refl
  | inr h ↦ rw h refl
]

by_text : (r : Representation) (a : Align) (name : NameId) (p : Partitions) (o : Option (List ℕ)) → is_some (of o (λ t. of (value r t) (piece.value r a name)) p) ≡ is_some (spelled_value (value_of_text r o))
by_text r a name p None = refl
by_text r a name p (Some t) = by_value r a name p (value r t)

pub valued_fits : (g : Setting) (r : Representation) (name : NameId) (v : Value) (p : Partitions) → is_some (valued g r name v p) ≡ is_some (fit_for r v)
valued_fits g r name v p = by_text r (align_of g.options) name p (text_of v)

-- ---- of an attribute
-- as a type where it acts as one, else under a datatype
abbrev pub fit_by : Bool → Representation → Value → Option Value
fit_by acts r v = cond acts (cond (is_name v) (Some v) None) (fit_for r v)

abbrev pub acting : Setting → Valuing → Named → Value → Option Value
acting g u name v = fit_by (acts_as_type u name.id) (represented_by g u name) v

untyped_fit : (g : Setting) (id : Option NameId) (name : Named) (v : Value) (b : Bool) → is_type_at id ≡ b → is_type name.id ≡ b → fit_as (declared_in g.schema untyped id name.name) v ≡ acting g untyped name v
untyped_fit g id name v true e h = rw (e, h) refl
untyped_fit g id name v false e h = rw (e, h) refl

named_fit : (g : Setting) (id : Option NameId) (name : Named) (v : Value) (b d : Bool) → is_type_at id ≡ b → is_type name.id ≡ b → is_nil_at id ≡ d → is_nil name.id ≡ d → fit_as (declared_in g.schema by_name id name.name) v ≡ acting g by_name name v
named_fit g id name v true d e h f k = rw (e, h) refl
named_fit g id name v false true e h f k = rw (e, h, f, k) refl
named_fit g id name v false false e h f k = rw (e, h, f, k) refl

pub fit_is : (g : Setting) (u : Valuing) (id : Option NameId) (name : Named) (v : Value) → is_type_at id ≡ is_type name.id → is_nil_at id ≡ is_nil name.id → fit_as (declared_in g.schema u id name.name) v ≡ acting g u name v
fit_is g untyped id name v e f = untyped_fit g id name v (is_type name.id) e refl
fit_is g (typed r) id name v e f = refl
fit_is g by_name id name v e f = named_fit g id name v (is_type name.id) (is_nil name.id) e refl f refl

-- a type's name alone
type_named : (g : Setting) (v : Value) (q : Partitions) → is_some (type_value g v q) ≡ true → is_some (cond (is_name v) (Some v) None) ≡ true
type_named g (shape.name n) q h = refl
type_named g (shape.text x) q h = absurd cc
type_named g (shape.boolean truth digit) q h = absurd cc
type_named g (shape.integer n) q h = absurd cc
type_named g (shape.decimal minus whole back) q h = absurd cc
type_named g (shape.float mantissa exponent) q h = absurd cc
type_named g (shape.moment m) q h = absurd cc
type_named g (shape.binary hex octets) q h = absurd cc
type_named g (shape.items vs) q h = absurd cc

abbrev written_by : Bool → Bool → Option (Piece Value) → Option (Piece Value) → Option (Piece Value)
written_by acts missing named other = cond acts (cond missing None named) other

spelled_fits : (g : Setting) (r : Representation) (name : NameId) (v : Value) (q : Partitions) (acts missing : Bool) → is_some (written_by acts missing (type_value g v q) (valued g r name v q)) ≡ true → is_some (fit_by acts r v) ≡ true
spelled_fits g r name v q true true h = absurd cc
spelled_fits g r name v q true false h = type_named g v q h
spelled_fits g r name v q false missing h = sym (valued_fits g r name v q) ∙ h

pub spelled_fit : (g : Setting) (u : Valuing) (name : Named) (v : Value) (q : Partitions) → is_some (attribute_value g u name v q) ≡ true → is_some (acting g u name v) ≡ true
spelled_fit g u name v q h = spelled_fits g (represented_by g u name) name.id v q (acts_as_type u name.id) (is_missing g u name.id v) h

-- a value that fits has a spelling unless it names a type that is not there, or that cannot be told
abbrev pub lacks : Setting → Value → Bool
lacks g v = strict g.options && is_none (named_type g v)

abbrev pub can_stand : Setting → Value → Partitions → Bool
can_stand g v q = cond (is_name v) (is_some (cond (lacks g v) None (type_value g v q))) true

fits_spelled : (g : Setting) (r : Representation) (name : NameId) (v : Value) (q : Partitions) (acts : Bool) → is_some (fit_by acts r v) ≡ true → is_some (written_by acts (acts && lacks g v) (type_value g v q) (valued g r name v q)) ≡ can_stand g v q
fits_spelled g r name (shape.name n) q true h = refl
fits_spelled g r name (shape.text x) q true h = absurd cc
fits_spelled g r name (shape.boolean truth digit) q true h = absurd cc
fits_spelled g r name (shape.integer n) q true h = absurd cc
fits_spelled g r name (shape.decimal minus whole back) q true h = absurd cc
fits_spelled g r name (shape.float mantissa exponent) q true h = absurd cc
fits_spelled g r name (shape.moment m) q true h = absurd cc
fits_spelled g r name (shape.binary hex octets) q true h = absurd cc
fits_spelled g r name (shape.items vs) q true h = absurd cc
fits_spelled g r name (shape.name n) q false h = absurd cc
fits_spelled g r name (shape.text x) q false h = valued_fits g r name (shape.text x) q ∙ h
fits_spelled g r name (shape.boolean truth digit) q false h = valued_fits g r name (shape.boolean truth digit) q ∙ h
fits_spelled g r name (shape.integer n) q false h = valued_fits g r name (shape.integer n) q ∙ h
fits_spelled g r name (shape.decimal minus whole back) q false h = valued_fits g r name (shape.decimal minus whole back) q ∙ h
fits_spelled g r name (shape.float mantissa exponent) q false h = valued_fits g r name (shape.float mantissa exponent) q ∙ h
fits_spelled g r name (shape.moment m) q false h = valued_fits g r name (shape.moment m) q ∙ h
fits_spelled g r name (shape.binary hex octets) q false h = valued_fits g r name (shape.binary hex octets) q ∙ h
fits_spelled g r name (shape.items vs) q false h = valued_fits g r name (shape.items vs) q ∙ h

pub fit_spelled : (g : Setting) (u : Valuing) (name : Named) (v : Value) (q : Partitions) → is_some (acting g u name v) ≡ true → is_some (attribute_value g u name v q) ≡ can_stand g v q
fit_spelled g u name v q h = fits_spelled g (represented_by g u name) name.id v q (acts_as_type u name.id) h
