-- What is trimmed is trimmed once for all, and has the same words.
use Rattle.std.proofs.Common.{◌≡◌, ℕ, ◌<◌, Bool, true, false, not, ◌&&◌, List, [], ◌∷◌, ◌++◌, length, refl, sym, ap, ◌∙◌, inl, inr, arith}
use Rattle.std.proofs.lemmas.List.{append-nil}
use Rattle.std.proofs.lemmas.List.Splits.{length-slice_split}
use Rattle.std.proofs.lemmas.Bool.{and_parts, cases_Bool, false≢true}
use Rattle.std.specs.List.{filter, onto_first, slice_split}
use Rattle.exi_lexical.specs.Spaces.{before_rest, has_no_space, is_some_text, is_space, trimmed, without_back, without_front, words}
use Rattle.exi_lexical.proofs.Blanks.{words_front}
use Rattle.exi_lexical.proofs.Joined.{AllWords}

-- ---- a text without white space
front_solid : (cs : List ℕ) → has_no_space cs ≡ true → without_front cs ≡ cs
front_solid [] h = refl
front_solid (c ∷ cs) h =
    let p = and_parts (not (is_space c)) (has_no_space cs) h in
    let other : is_space c ≡ false = grind arith in
    rw other refl

before_solid : (c : ℕ) (cs : List ℕ) → is_space c ≡ false → before_rest c cs ≡ c ∷ cs
before_solid c [] h = rw h refl
before_solid c (d ∷ cs) h = refl

back_solid : (cs : List ℕ) → has_no_space cs ≡ true → without_back cs ≡ cs
back_solid [] h = refl
back_solid (c ∷ cs) h =
    let p = and_parts (not (is_space c)) (has_no_space cs) h in
    let other : is_space c ≡ false = grind arith in
    ap (before_rest c) (back_solid cs p.1) ∙ before_solid c cs other

pub trimmed_solid : (cs : List ℕ) → has_no_space cs ≡ true → trimmed cs ≡ cs
trimmed_solid cs h = ap without_back (front_solid cs h) ∙ back_solid cs h

-- ---- once for all
abbrev BeginsSolid : List ℕ → Type 0
BeginsSolid [] = Unit {0}
BeginsSolid (c ∷ cs) = is_space c ≡ false

front_begins : (cs : List ℕ) → BeginsSolid (without_front cs)
front_begins [] = tt
front_begins (c ∷ cs) = elim (cases_Bool (is_space c)) [
  | inl h ↦ rw h (front_begins cs)
  | inr h ↦ rw h h
]

back_begins : (cs : List ℕ) → BeginsSolid cs → BeginsSolid (without_back cs)
back_begins [] h = tt
back_begins (c ∷ cs) h = rw (before_solid c (without_back cs) h) h

front_kept : (cs : List ℕ) → BeginsSolid cs → without_front cs ≡ cs
front_kept [] h = refl
front_kept (c ∷ cs) h = rw h refl

back_before : (c : ℕ) (ds : List ℕ) → without_back ds ≡ ds → without_back (before_rest c ds) ≡ before_rest c ds
back_before c [] h = elim (cases_Bool (is_space c)) [
  | inl s ↦ rw s refl
  | inr s ↦ rw (s, s) refl
]
back_before c (d ∷ ds) h = ap (before_rest c) h

back_twice : (cs : List ℕ) → without_back (without_back cs) ≡ without_back cs
back_twice [] = refl
back_twice (c ∷ cs) = back_before c (without_back cs) (back_twice cs)

pub trimmed_twice : (cs : List ℕ) → trimmed (trimmed cs) ≡ trimmed cs
trimmed_twice cs =
    ap without_back (front_kept (trimmed cs) (back_begins (without_front cs) (front_begins cs))) ∙ back_twice (without_front cs)

-- ---- words
onto_append : (x : ℕ) (ps qs : List (List ℕ)) → 0 < length ps → onto_first x (ps ++ qs) ≡ onto_first x ps ++ qs
onto_append x [] qs some = absurd (omega arith)
onto_append x (p ∷ ps) qs some = refl

split_space : (cs : List ℕ) (c : ℕ) (ds : List ℕ) → is_space c ≡ true → slice_split is_space (cs ++ c ∷ ds) ≡ slice_split is_space cs ++ slice_split is_space ds
split_space [] c ds h = rw h refl
split_space (x ∷ cs) c ds h = elim (cases_Bool (is_space x)) [
  | inl s ↦ rw s (ap (λ (ps : List (List ℕ)). [] ∷ ps) (split_space cs c ds h))
  | inr s ↦
      let long = length-slice_split is_space cs in
      rw s (ap (onto_first x) (split_space cs c ds h) ∙ onto_append x (slice_split is_space cs) (slice_split is_space ds) (omega (arith, long)))
]

kept_append : (ps qs : List (List ℕ)) → filter is_some_text (ps ++ qs) ≡ filter is_some_text ps ++ filter is_some_text qs
kept_append [] qs = refl
kept_append (p ∷ ps) qs = elim (cases_Bool (is_some_text p)) [
  | inl h ↦ rw h (ap (λ (rs : List (List ℕ)). p ∷ rs) (kept_append ps qs))
  | inr h ↦ rw h (kept_append ps qs)
]

abbrev all_space : List ℕ → Bool
all_space [] = true
all_space (c ∷ cs) = is_space c && all_space cs

no_words : (s : List ℕ) → all_space s ≡ true → words s ≡ []
no_words [] h = refl
no_words (c ∷ s) h =
    let p = and_parts (is_space c) (all_space s) h in
    rw p.0 (no_words s p.1)

words_before : (cs s : List ℕ) → all_space s ≡ true → words (cs ++ s) ≡ words cs
words_before cs [] h = ap words (append-nil cs)
words_before cs (c ∷ s) h =
    let p = and_parts (is_space c) (all_space s) h in
    ap (filter is_some_text) (split_space cs c s p.0) ∙ kept_append (slice_split is_space cs) (slice_split is_space s)
    ∙ ap (λ (ws : List (List ℕ)). words cs ++ ws) (no_words s p.1) ∙ append-nil (words cs)

nothing_left : (cs : List ℕ) → is_some_text cs ≡ false → cs ≡ []
nothing_left [] h = refl
nothing_left (c ∷ cs) h = absurd (false≢true (sym h))

before_some : (c : ℕ) (ds : List ℕ) → is_some_text ds ≡ true → before_rest c ds ≡ c ∷ ds
before_some c [] h = absurd (false≢true h)
before_some c (d ∷ ds) h = refl

record Back (cs : List ℕ) : Type 0 where
  back : List ℕ
  parts : cs ≡ without_back cs ++ back
  blank : all_space back ≡ true

back_parts : (cs : List ℕ) → Back cs
back_parts [] = record { back = []; parts = refl; blank = refl }
back_parts (c ∷ cs) =
    let b = back_parts cs in
    elim (cases_Bool (is_some_text (without_back cs))) [
      | inl some ↦ record {
        back = b.back;
        parts = ap (λ (ds : List ℕ). c ∷ ds) b.parts ∙ sym (ap (λ (ds : List ℕ). ds ++ b.back) (before_some c (without_back cs) some));
        blank = b.blank;
      }
      | inr none ↦
          let empty = nothing_left (without_back cs) none in
          let rest : cs ≡ b.back = b.parts ∙ ap (λ (ds : List ℕ). ds ++ b.back) empty in
          elim (cases_Bool (is_space c)) [
            | inl s ↦ record {
              back = c ∷ b.back;
              parts = ap (λ (ds : List ℕ). c ∷ ds) rest ∙ sym (ap (λ (ds : List ℕ). before_rest c ds ++ c ∷ b.back) empty ∙ rw s refl);
              blank = rw (s, b.blank) refl;
            }
            | inr s ↦ record {
              back = b.back;
              parts = ap (λ (ds : List ℕ). c ∷ ds) rest ∙ sym (ap (λ (ds : List ℕ). before_rest c ds ++ b.back) empty ∙ rw s refl);
              blank = b.blank;
            }
          ]
    ]

words_back : (cs : List ℕ) → words (without_back cs) ≡ words cs
words_back cs =
    let b = back_parts cs in
    sym (words_before (without_back cs) b.back b.blank) ∙ ap words (sym b.parts)

pub words_trimmed : (cs : List ℕ) → words (trimmed cs) ≡ words cs
words_trimmed cs = words_back (without_front cs) ∙ words_front cs

-- ---- the words are words
abbrev AllSolid : List (List ℕ) → Type 0
AllSolid [] = Unit {0}
AllSolid (p ∷ ps) = (has_no_space p ≡ true) × AllSolid ps

solid_first : (x : ℕ) (ps : List (List ℕ)) → is_space x ≡ false → AllSolid ps → AllSolid (onto_first x ps)
solid_first x [] other all = (rw other refl, tt)
solid_first x (p ∷ ps) other (h, all) = (rw (other, h) refl, all)

solid_parts : (cs : List ℕ) → AllSolid (slice_split is_space cs)
solid_parts [] = (refl, tt)
solid_parts (c ∷ cs) = elim (cases_Bool (is_space c)) [
  | inl h ↦ rw h (refl, solid_parts cs)
  | inr h ↦ rw h (solid_first c (slice_split is_space cs) h (solid_parts cs))
]

solid_words : (ps : List (List ℕ)) → AllSolid ps → AllWords (filter is_some_text ps)
solid_words [] all = tt
solid_words ([] ∷ ps) (h, all) = solid_words ps all
solid_words ((c ∷ cs) ∷ ps) (h, all) = ((omega arith, h), solid_words ps all)

pub words_are : (cs : List ℕ) → AllWords (words cs)
words_are cs = solid_words (slice_split is_space cs) (solid_parts cs)
