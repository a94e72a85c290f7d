-- A datatype that is no such variant differs from each that is. A `Datatype` is looked at by its layer, as
-- `represented` goes through it.
use Rattle.std.proofs.Common.{◌≡◌, ℕ, ℤ, Bool, false, List, refl, sym, ap, ◌∙◌, Box, Global}
use Rattle.exi_names.specs.Datatypes.{represented, represented_step, Representation}
use Rattle.exi_names.specs.Equality.{same_representations}
use Rattle.exi_names.specs.declared.moment.MomentKind.{MomentKind}
use Rattle.exi_names.specs.declared.val.ValList.{ValList}
use Rattle.exi_names.specs.declared.datatype.Datatype.{Datatype, fold_out-Datatype, fold-roll-Datatype, map-Datatype, out-Datatype, roll-Datatype, roll-out-Datatype}
use Rattle.exi_names.specs.declared.datatype.Datatype.TheVariants as it
use Rattle.exi_names.specs.declared.datatype.Datatype.TheOpen.{Datatype-F}

abbrev shown : Datatype-F Datatype → Representation
shown l = represented_step (map-Datatype Datatype Representation represented l)

-- what is no such variant has no such layer
no_layer : (d v : Datatype) (l : Datatype-F Datatype) → roll-Datatype l ≡ v → (d ≡ v → ⊥) → out-Datatype d ≡ l → ⊥
no_layer d v l rolls other e = other (sym (roll-out-Datatype d) ∙ ap roll-Datatype e ∙ rolls)

-- what differs in the layers differs
by_layers : (v d : Datatype) (l : Datatype-F Datatype) → roll-Datatype l ≡ v → false ≡ same_representations (shown l) (shown (out-Datatype d)) → false ≡ same_representations (represented v) (represented d)
by_layers v d l rolls h =
    h
    ∙ ap (λ r. same_representations (shown l) r) (sym (fold_out-Datatype Representation represented_step d))
    ∙ ap (λ r. same_representations r (represented d)) (sym (fold-roll-Datatype Representation represented_step l) ∙ ap represented rolls)

small_apart : (r : ℤ) (s : ℕ) (l : Datatype-F Datatype) → ((x : ℤ) (y : ℕ) → l ≡ Datatype-F.Small x y → ⊥) → false ≡ same_representations (shown (Datatype-F.Small r s)) (shown l)
small_apart r s (Datatype-F.Small x y) h = absurd (h x y refl)
small_apart r s l h = refl

pub other_small : (r : ℤ) (s : ℕ) (d : Datatype) → ((x : ℤ) (y : ℕ) → d ≡ it.Small x y → ⊥) → false ≡ same_representations (represented (it.Small r s)) (represented d)
other_small r s d h =
    by_layers (it.Small r s) d (Datatype-F.Small r s) (it.rolls-Small r s)
    (small_apart r s (out-Datatype d) (λ x y. no_layer d (it.Small x y) (Datatype-F.Small x y) (it.rolls-Small x y) (h x y)))

boolean_apart : (r : Bool) (l : Datatype-F Datatype) → ((x : Bool) → l ≡ Datatype-F.Boolean x → ⊥) → false ≡ same_representations (shown (Datatype-F.Boolean r)) (shown l)
boolean_apart r (Datatype-F.Boolean x) h = absurd (h x refl)
boolean_apart r l h = refl

pub other_boolean : (r : Bool) (d : Datatype) → ((x : Bool) → d ≡ it.Boolean x → ⊥) → false ≡ same_representations (represented (it.Boolean r)) (represented d)
other_boolean r d h =
    by_layers (it.Boolean r) d (Datatype-F.Boolean r) (it.rolls-Boolean r)
    (boolean_apart r (out-Datatype d) (λ x. no_layer d (it.Boolean x) (Datatype-F.Boolean x) (it.rolls-Boolean x) (h x)))

binary_apart : (r : Bool) (l : Datatype-F Datatype) → ((x : Bool) → l ≡ Datatype-F.Binary x → ⊥) → false ≡ same_representations (shown (Datatype-F.Binary r)) (shown l)
binary_apart r (Datatype-F.Binary x) h = absurd (h x refl)
binary_apart r l h = refl

pub other_binary : (r : Bool) (d : Datatype) → ((x : Bool) → d ≡ it.Binary x → ⊥) → false ≡ same_representations (represented (it.Binary r)) (represented d)
other_binary r d h =
    by_layers (it.Binary r) d (Datatype-F.Binary r) (it.rolls-Binary r)
    (binary_apart r (out-Datatype d) (λ x. no_layer d (it.Binary x) (Datatype-F.Binary x) (it.rolls-Binary x) (h x)))

moment_apart : (r : MomentKind) (l : Datatype-F Datatype) → ((x : MomentKind) → l ≡ Datatype-F.Moment x → ⊥) → false ≡ same_representations (shown (Datatype-F.Moment r)) (shown l)
moment_apart r (Datatype-F.Moment x) h = absurd (h x refl)
moment_apart r l h = refl

pub other_moment : (r : MomentKind) (d : Datatype) → ((x : MomentKind) → d ≡ it.Moment x → ⊥) → false ≡ same_representations (represented (it.Moment r)) (represented d)
other_moment r d h =
    by_layers (it.Moment r) d (Datatype-F.Moment r) (it.rolls-Moment r)
    (moment_apart r (out-Datatype d) (λ x. no_layer d (it.Moment x) (Datatype-F.Moment x) (it.rolls-Moment x) (h x)))

list_apart : (r : Box Datatype Global) (l : Datatype-F Datatype) → ((x : Box Datatype Global) → l ≡ Datatype-F.List x → ⊥) → false ≡ same_representations (shown (Datatype-F.List r)) (shown l)
list_apart r (Datatype-F.List x) h = absurd (h x refl)
list_apart r l h = refl

pub other_list : (r : Box Datatype Global) (d : Datatype) → ((x : Box Datatype Global) → d ≡ it.List x → ⊥) → false ≡ same_representations (represented (it.List r)) (represented d)
other_list r d h =
    by_layers (it.List r) d (Datatype-F.List r) (it.rolls-List r)
    (list_apart r (out-Datatype d) (λ x. no_layer d (it.List x) (Datatype-F.List x) (it.rolls-List x) (h x)))

choice_apart : (r : Box Datatype Global) (s : ValList) (l : Datatype-F Datatype) → ((x : Box Datatype Global) (y : ValList) → l ≡ Datatype-F.Choice x y → ⊥) → false ≡ same_representations (shown (Datatype-F.Choice r s)) (shown l)
choice_apart r s (Datatype-F.Choice x y) h = absurd (h x y refl)
choice_apart r s l h = refl

pub other_choice : (r : Box Datatype Global) (s : ValList) (d : Datatype) → ((x : Box Datatype Global) (y : ValList) → d ≡ it.Choice x y → ⊥) → false ≡ same_representations (represented (it.Choice r s)) (represented d)
other_choice r s d h =
    by_layers (it.Choice r s) d (Datatype-F.Choice r s) (it.rolls-Choice r s)
    (choice_apart r s (out-Datatype d) (λ x y. no_layer d (it.Choice x y) (Datatype-F.Choice x y) (it.rolls-Choice x y) (h x y)))

chars_apart : (r : List ℕ) (l : Datatype-F Datatype) → ((x : List ℕ) → l ≡ Datatype-F.Chars x → ⊥) → false ≡ same_representations (shown (Datatype-F.Chars r)) (shown l)
chars_apart r (Datatype-F.Chars x) h = absurd (h x refl)
chars_apart r l h = refl

pub other_chars : (r : List ℕ) (d : Datatype) → ((x : List ℕ) → d ≡ it.Chars x → ⊥) → false ≡ same_representations (represented (it.Chars r)) (represented d)
other_chars r d h =
    by_layers (it.Chars r) d (Datatype-F.Chars r) (it.rolls-Chars r)
    (chars_apart r (out-Datatype d) (λ x. no_layer d (it.Chars x) (Datatype-F.Chars x) (it.rolls-Chars x) (h x)))

name_apart : (r : Bool) (l : Datatype-F Datatype) → ((x : Bool) → l ≡ Datatype-F.Name x → ⊥) → false ≡ same_representations (shown (Datatype-F.Name r)) (shown l)
name_apart r (Datatype-F.Name x) h = absurd (h x refl)
name_apart r l h = refl

pub other_name : (r : Bool) (d : Datatype) → ((x : Bool) → d ≡ it.Name x → ⊥) → false ≡ same_representations (represented (it.Name r)) (represented d)
other_name r d h =
    by_layers (it.Name r) d (Datatype-F.Name r) (it.rolls-Name r)
    (name_apart r (out-Datatype d) (λ x. no_layer d (it.Name x) (Datatype-F.Name x) (it.rolls-Name x) (h x)))
