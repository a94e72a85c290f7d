-- The productions of a state, and the reading of their codes from the first part on.
use Rattle.std.proofs.Common.{◌≡◌, ℕ, ◌+◌, false, List, [], ◌∷◌, ◌++◌, filter, length, slice_get, refl, ap, sym, ◌∙◌, Option, Ok, Err}
use Rattle.exi_bits.specs.declared.align.Align.{Align}
use Rattle.exi_bits.specs.declared.fault.Fault.{Fault}
use Rattle.exi_bits.specs.Bits.{Spot}
use Rattle.exi_gram.specs.declared.options.Options.{Options}
use Rattle.exi_gram.specs.Codes.{Productions, Second, code_at, first_told, kept_seconds, longer, part_at}
use Rattle.exi_builtin.specs.declared.learnable.Learnable.{Learnable}
use Rattle.exi_builtin.specs.declared.learnable.Learnable.TheVariants as learnable
use Rattle.exi_builtin.specs.declared.learnable.Room.{Room}
use Rattle.exi_builtin.specs.declared.learnable.Room.TheVariants as room
use Rattle.exi_builtin.specs.BuiltIn.{is_kept, left_of, written}
use Rattle.exi_builtin.specs.Layout.{laid_out, laid_seconds}
use Rattle.exi_builtin.specs.Learning.{behind_learned}
use Rattle.exi_builtin.proofs.Layouts.{kept_laid}

-- no option switches off what has a code of one part
pub firsts_kept : (o : Options) (r : Room) → filter (is_kept o) (written r).firsts ≡ (written r).firsts
firsts_kept o (room.StartTag number) = refl
firsts_kept o (room.Content number) = refl
firsts_kept o room.Fragment = refl

abbrev pub shape : List Learnable → List (Second Learnable) → Productions Learnable
shape firsts seconds = record { firsts = firsts; seconds = seconds }

pub shape_is : (o : Options) (r : Room) (learned firsts singles members : List Learnable) → laid_out firsts singles members ≡ written r →
    behind_learned learned (left_of o (written r)) ≡ shape (learned ++ firsts) (kept_seconds (is_kept o) (laid_seconds singles members))
shape_is o r learned firsts singles members laid =
    let front : filter (is_kept o) (written r).firsts ≡ firsts = firsts_kept o r ∙ sym (ap (λ p. p.firsts) laid) in
    let behind : (written r).seconds ≡ laid_seconds singles members = sym (ap (λ p. p.seconds) laid) in
    ap (λ fs. shape (learned ++ fs) (kept_seconds (is_kept o) (written r).seconds)) front
    ∙ ap (λ ss. shape (learned ++ firsts) (kept_seconds (is_kept o) ss)) behind

pub first_fails : (a b : Align) (p : Productions Learnable) (firsts : List Learnable) (seconds : List (Second Learnable)) (count : ℕ) (s : Spot) (f : Fault) → p ≡ shape firsts seconds → b ≡ a → count ≡ length firsts + longer seconds → part_at count b s ≡ Err f → code_at a p s ≡ Err f
unfolding code_at
first_fails a b p firsts seconds count s f is align same read =
    let here : part_at (length firsts + longer seconds) a s ≡ Err f = rw (← align, ← same) read in rw (is, here) refl

pub first_tells : (a b : Align) (p : Productions Learnable) (firsts : List Learnable) (seconds : List (Second Learnable)) (count first : ℕ) (s t : Spot) (found : Option Learnable) → p ≡ shape firsts seconds → b ≡ a → count ≡ length firsts + longer seconds → part_at count b s ≡ Ok (first, t) → found ≡ slice_get firsts first → code_at a p s ≡ first_told a seconds found t
unfolding code_at
first_tells a b p firsts seconds count first s t found is align same read at =
    let here : part_at (length firsts + longer seconds) a s ≡ Ok (first, t) = rw (← align, ← same) read in rw (is, here, at) refl

pub kept_shape : (o : Options) (r : Room) (learned firsts singles members : List Learnable) → laid_out firsts singles members ≡ written r →
    behind_learned learned (left_of o (written r)) ≡ shape (learned ++ filter (is_kept o) firsts) (laid_seconds (filter (is_kept o) singles) (filter (is_kept o) members))
kept_shape o r learned firsts singles members laid =
    ap (λ p. behind_learned learned (left_of o p)) (sym laid) ∙ ap (λ ss. shape (learned ++ filter (is_kept o) firsts) ss) (kept_laid (is_kept o) singles members)

-- what is left of a state, by its written lists
pub left_shape : (o : Options) (r : Room) (learned : List Learnable) → behind_learned learned (left_of o (written r)) ≡ shape (learned ++ (written r).firsts) (kept_seconds (is_kept o) (written r).seconds)
left_shape o r learned = ap (λ fs. shape (learned ++ fs) (kept_seconds (is_kept o) (written r).seconds)) (firsts_kept o r)

-- the written lists of a state
pub record Laid (r : Room) : Type 0 where
  pub singles : List Learnable
  pub members : List Learnable
  pub is : laid_out (written r).firsts singles members ≡ written r

pub laid_of : (r : Room) → Laid r
laid_of (room.StartTag number) = record { singles = learnable.Ee false ∷ learnable.AtAny ∷ learnable.Ns ∷ learnable.Sc ∷ learnable.SeAny ∷ learnable.Ch false ∷ learnable.Er ∷ []; members = learnable.Cm ∷ learnable.Pi ∷ []; is = refl }
laid_of (room.Content number) = record { singles = learnable.SeAny ∷ learnable.Ch false ∷ learnable.Er ∷ []; members = learnable.Cm ∷ learnable.Pi ∷ []; is = refl }
laid_of room.Fragment = record { singles = learnable.Cm ∷ learnable.Pi ∷ []; members = []; is = refl }
