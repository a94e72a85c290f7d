-- The index of names, with one more production.
use Rattle.std.proofs.Common.{◌≡◌, ℕ, ◌+◌, ◌<◌, Bool, true, false, cond, List, [], ◌∷◌, length, reverse, take, get_or, refl, ap, sym, ◌∙◌, subst, arith, Option, Some}
use Rattle.std.specs.Prelude.{◌&&◌, nat_eq}
use Rattle.std.proofs.lemmas.List.{length-reverse, length-take-le, reverse-append, take_more}
use mathlib.Core.Bool.{beq}
use Rattle.exi_names.specs.declared.names.NameId.{NameId}
use Rattle.exi_builtin.specs.declared.learnable.Learnable.{Learnable}
use Rattle.exi_builtin.specs.declared.learnable.Learnable.TheVariants as learnable
use Rattle.exi_builtin.specs.declared.name_index.NameIndex.{NameIndex}
use Rattle.exi_builtin.specs.LeastCodes.{is_named}
use Rattle.exi_builtin.specs.Marks.{Indexes, kept_at, name_key, same_key}
use Rattle.exi_builtin.proofs.Least.{leads_push}

and_later : (a b c : Bool) → ((a && b) && c) ≡ (a && (b && c))
and_later true b c = refl
and_later false b c = refl

key_named : (name other : NameId) (a b : Bool) → same_key (name_key name a) (name_key other b) ≡ is_named other b (learnable.Known name a)
key_named name other a b = sym (and_later (nat_eq name.uri other.uri) (nat_eq name.local other.local) (beq a b))

-- a key is that of a name's production where the production is one of this name
pub keyed : (name other : NameId) (a b : Bool) (place : ℕ) (old new : Option ℕ) → new ≡ cond (same_key (name_key name a) (name_key other b)) (Some place) old → new ≡ cond (is_named other b (learnable.Known name a)) (Some place) old
keyed name other a b place old new e = e ∙ ap (λ t. cond t (Some place) old) (key_named name other a b)

-- the place that is kept for the name of one more
abbrev pub KeepsOne : NameIndex → NameIndex → Learnable → ℕ → Type 0
KeepsOne old new x place = (name : NameId) (attribute : Bool) → kept_at new name attribute ≡ cond (is_named name attribute x) (Some place) (kept_at old name attribute)

pub index_push : (learned : List Learnable) (x : Learnable) (old new : NameIndex) (place : ℕ) → place ≡ length learned → KeepsOne old new x place → Indexes old learned → Indexes new (x ∷ learned)
index_push learned x old new place at kept h = λ name attribute.
    leads_push learned (is_named name attribute) (kept_at old name attribute) (kept_at new name attribute) x
    (kept name attribute ∙ ap (λ n. cond (is_named name attribute x) (Some n) (kept_at old name attribute)) at) (h name attribute)

one_taken : (xs : List Learnable) (p : ℕ) (d : Learnable) → p < length xs → get_or xs p d ∷ reverse (take p xs) ≡ reverse (take (p + 1) xs)
one_taken xs p d within = sym (ap reverse (take_more xs p d within) ∙ reverse-append (take p xs) (get_or xs p d ∷ []))

pub index_taken : (xs : List Learnable) (p : ℕ) (d : Learnable) (old new : NameIndex) → p < length xs → KeepsOne old new (get_or xs p d) p → Indexes old (reverse (take p xs)) → Indexes new (reverse (take (p + 1) xs))
index_taken xs p d old new within kept h =
    let count : length (take p xs) ≡ p = length-take-le p xs (omega (arith, within)) in
    let at : p ≡ length (reverse (take p xs)) = sym (length-reverse (take p xs) ∙ count) in
    subst (λ (ys : List Learnable). Indexes new ys) (one_taken xs p d within) (index_push (reverse (take p xs)) (get_or xs p d) old new p at kept h)
