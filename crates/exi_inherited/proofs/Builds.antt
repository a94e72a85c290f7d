-- Types built on their bases.
use Rattle.std.proofs.Common.{◌≡◌, ℕ, suc, ◌+◌, ◌-◌, ◌<◌, ◌≤◌, Option, Some, None, List, [], ◌∷◌, ◌++◌, length, option_to_list, refl, sym, ap, ◌∙◌, arith}
use Rattle.std.specs.List.{flat_map}
use Rattle.std.proofs.lemmas.List.{append-nil}
use Rattle.xsd_model.specs.Parts.{Parts}
use Rattle.exi_inherited.specs.Bases.{complex_base, own_uses}
use Rattle.exi_inherited.specs.Contents.{Whole, based_on, content_of, content_within, no_content, own_content}
use Rattle.exi_inherited.specs.Shown.{built_on}
use Rattle.exi_inherited.specs.Told.{told_with_all}
use Rattle.exi_inherited.specs.Uses.{Said, said_in, said_of, said_within}
use Rattle.exi_inherited.proofs.Telling.{told_append}

-- ---- contents
pub built_push : (p : Parts) (places : List ℕ) (place : ℕ) (base : Whole) → built_on p (places ++ place ∷ []) base ≡ built_on p places (own_content p place base)
built_push p [] place base = refl
built_push p (x ∷ places) place base = ap (own_content p x) (built_push p places place base)

-- so many steps on, from a type that may be there
abbrev pub from_base : ℕ → Parts → Option ℕ → Whole
from_base n p next = based_on (content_within n p) next

pub from_none : (n : ℕ) (p : Parts) (next : Option ℕ) → next ≡ None → from_base n p next ≡ no_content
from_none n p next e = ap (from_base n p) e

pub from_zero : (n : ℕ) (p : Parts) (next : Option ℕ) → n ≡ 0 → from_base n p next ≡ no_content
from_zero n p next e = ap (λ (k : ℕ). from_base k p next) e ∙ go next
  where
    go : (o : Option ℕ) → from_base 0 p o ≡ no_content
    go None = refl
    go (Some base) = refl

pub from_some : (n m : ℕ) (p : Parts) (places : List ℕ) (next : Option ℕ) (place : ℕ) → n ≡ suc m → next ≡ Some place → built_on p (places ++ place ∷ []) (from_base m p (complex_base p place)) ≡ built_on p places (from_base n p next)
from_some n m p places next place e f =
    built_push p places place (from_base m p (complex_base p place))
    ∙ sym (ap (λ (k : ℕ). built_on p places (from_base k p next)) e ∙ ap (λ o. built_on p places (from_base (suc m) p o)) f)

-- how many steps there may be still, when so many were taken
abbrev pub left_steps : Parts → ℕ → ℕ
left_steps p i = suc (length p.types) - i

one_less : (p : Parts) (i : ℕ) → i < suc (length p.types) → left_steps p i ≡ suc (left_steps p (i + 1))
one_less p i less = omega (arith, less)

none_left : (p : Parts) (i : ℕ) → suc (length p.types) ≤ i → left_steps p i ≡ 0
none_left p i le = omega (arith, le)

all_left : (p : Parts) → left_steps p 0 ≡ suc (length p.types)
all_left p = omega arith

pub bases_first : (p : Parts) (of : ℕ) (bases : List ℕ) → bases ≡ [] → built_on p bases (from_base (left_steps p 0) p (Some of)) ≡ content_of p of
bases_first p of bases e = ap (λ places. built_on p places (from_base (left_steps p 0) p (Some of))) e ∙ ap (λ (k : ℕ). from_base k p (Some of)) (all_left p)

pub bases_next : (p : Parts) (of i : ℕ) (bases new : List ℕ) (next now : Option ℕ) (place : ℕ) → i < suc (length p.types) → next ≡ Some place → new ≡ bases ++ place ∷ [] → now ≡ complex_base p place → built_on p bases (from_base (left_steps p i) p next) ≡ content_of p of → built_on p new (from_base (left_steps p (i + 1)) p now) ≡ content_of p of
bases_next p of i bases new next now place less e f g before =
    ap (λ places. built_on p places (from_base (left_steps p (i + 1)) p now)) f
    ∙ ap (λ o. built_on p (bases ++ place ∷ []) (from_base (left_steps p (i + 1)) p o)) g
    ∙ from_some (left_steps p i) (left_steps p (i + 1)) p bases next place (one_less p i less) e
    ∙ before

pub bases_end : (p : Parts) (of i : ℕ) (bases : List ℕ) (next : Option ℕ) → suc (length p.types) ≤ i → built_on p bases (from_base (left_steps p i) p next) ≡ content_of p of → built_on p bases no_content ≡ content_of p of
bases_end p of i bases next le before = ap (built_on p bases) (sym (from_zero (left_steps p i) p next (none_left p i le))) ∙ before

pub bases_over : (p : Parts) (of i : ℕ) (bases : List ℕ) (next : Option ℕ) → next ≡ None → built_on p bases (from_base (left_steps p i) p next) ≡ content_of p of → built_on p bases no_content ≡ content_of p of
bases_over p of i bases next e before = ap (built_on p bases) (sym (from_none (left_steps p i) p next e)) ∙ before

-- ---- what is said
abbrev pub said_from : ℕ → Parts → Option ℕ → List Said
said_from n p next = flat_map (said_within n p) (option_to_list next)

pub said_first : (n : ℕ) (p : Parts) (place : ℕ) → said_from n p (Some place) ≡ said_within n p place
said_first n p place = append-nil (said_within n p place)

pub said_none : (n : ℕ) (p : Parts) (next : Option ℕ) → next ≡ None → said_from n p next ≡ []
said_none n p next e = ap (said_from n p) e

pub said_zero : (n : ℕ) (p : Parts) (next : Option ℕ) → n ≡ 0 → said_from n p next ≡ []
said_zero n p next e = ap (λ (k : ℕ). said_from k p next) e ∙ go next
  where
    go : (o : Option ℕ) → said_from 0 p o ≡ []
    go None = refl
    go (Some base) = refl

pub said_some : (n m : ℕ) (p : Parts) (next : Option ℕ) (place : ℕ) (told now : List Said) → n ≡ suc m → next ≡ Some place → now ≡ told_with_all (flat_map (said_of p) (own_uses p place)) told → told_with_all (said_from m p (complex_base p place)) now ≡ told_with_all (said_from n p next) told
said_some n m p next place told now e f g =
    ap (told_with_all (said_from m p (complex_base p place))) g
    ∙ sym (told_append (said_from m p (complex_base p place)) (flat_map (said_of p) (own_uses p place)) told)
    ∙ ap (λ ss. told_with_all ss told) (sym (said_first (suc m) p place) ∙ ap (said_from (suc m) p) (sym f) ∙ ap (λ (k : ℕ). said_from k p next) (sym e))

pub told_first : (p : Parts) (of : ℕ) (told : List Said) → told ≡ [] → told_with_all (said_from (left_steps p 0) p (Some of)) told ≡ told_with_all (said_in p of) []
told_first p of told e =
    ap (told_with_all (said_from (left_steps p 0) p (Some of))) e
    ∙ ap (λ (k : ℕ). told_with_all (said_from k p (Some of)) []) (all_left p)
    ∙ ap (λ ss. told_with_all ss []) (said_first (suc (length p.types)) p of)

pub told_next : (p : Parts) (i : ℕ) (next new : Option ℕ) (place : ℕ) (told now whole : List Said) → i < suc (length p.types) → next ≡ Some place → now ≡ told_with_all (flat_map (said_of p) (own_uses p place)) told → new ≡ complex_base p place → told_with_all (said_from (left_steps p i) p next) told ≡ whole → told_with_all (said_from (left_steps p (i + 1)) p new) now ≡ whole
told_next p i next new place told now whole less e f g before =
    ap (λ o. told_with_all (said_from (left_steps p (i + 1)) p o) now) g
    ∙ said_some (left_steps p i) (left_steps p (i + 1)) p next place told now (one_less p i less) e f
    ∙ before

pub told_end : (p : Parts) (i : ℕ) (next : Option ℕ) (told whole : List Said) → suc (length p.types) ≤ i → told_with_all (said_from (left_steps p i) p next) told ≡ whole → told ≡ whole
told_end p i next told whole le before = ap (λ ss. told_with_all ss told) (sym (said_zero (left_steps p i) p next (none_left p i le))) ∙ before

pub told_over : (p : Parts) (i : ℕ) (next : Option ℕ) (told whole : List Said) → next ≡ None → told_with_all (said_from (left_steps p i) p next) told ≡ whole → told ≡ whole
told_over p i next told whole e before = ap (λ ss. told_with_all ss told) (sym (said_none (left_steps p i) p next e)) ∙ before
