-- Texts with one space between: one after another, and split at the spaces again.
use Rattle.std.proofs.Common.{◌≡◌, ℕ, zero, suc, ◌+◌, ◌<◌, true, ◌==◌, if◌then◌else◌, lit<, List, [], ◌∷◌, ◌++◌, length, refl, sym, ap, ◌∙◌, arith}
use Rattle.std.proofs.lemmas.List.{append-nil, append_assoc}
use Rattle.std.proofs.Math.Dec.{eqb-suc-zero}
use Rattle.std.specs.List.{join_with_byte}
use lib.Utf8.{encode, encodes}
use Rattle.std.proofs.lemmas.Str.{encode_ascii, encodes-append}
use Rattle.exi_lexical.specs.Spaces.{has_no_space, is_space, words, IsBehindWord}
use Rattle.exi_lexical.proofs.Blanks.{word_first, words_space}

-- texts behind others
abbrev pub joined_behind : List (List ℕ) → List ℕ
joined_behind [] = []
joined_behind (t ∷ ts) = 32 ∷ (t ++ joined_behind ts)

pub join_first : (t : List ℕ) (ts : List (List ℕ)) → join_with_byte 32 (t ∷ ts) ≡ t ++ joined_behind ts
join_first t [] = sym (append-nil t)
join_first t (u ∷ ts) = ap (λ (r : List ℕ). t ++ (32 ∷ r)) (join_first u ts)

-- what is left to put, after so many texts
abbrev pub left : ℕ → List (List ℕ) → List ℕ
left zero ts = join_with_byte 32 ts
left (suc i) ts = joined_behind ts

pub left_end : (i : ℕ) → left i [] ≡ []
left_end zero = refl
left_end (suc i) = refl

-- ---- the bytes that a loop puts
pub put_first : (old new all : List ℕ) (t : List ℕ) (ts : List (List ℕ)) → old ++ encodes (left 0 (t ∷ ts)) ≡ all → new ≡ old ++ encodes t → new ++ encodes (left 1 ts) ≡ all
put_first old new all t ts e step =
    ap (λ (x : List ℕ). x ++ encodes (joined_behind ts)) step
    ∙ append_assoc old (encodes t) (encodes (joined_behind ts))
    ∙ ap (λ (x : List ℕ). old ++ x) (sym (encodes-append t (joined_behind ts)) ∙ ap encodes (sym (join_first t ts)))
    ∙ e

pub put_next : (i : ℕ) (old mid new all : List ℕ) (t : List ℕ) (ts : List (List ℕ)) → old ++ encodes (left (suc i) (t ∷ ts)) ≡ all → mid ≡ old ++ encode 32 → new ≡ mid ++ encodes t
    → new ++ encodes (left (suc (suc i)) ts) ≡ all
put_next i old mid new all t ts e space step =
    ap (λ (x : List ℕ). x ++ encodes (joined_behind ts)) step
    ∙ append_assoc mid (encodes t) (encodes (joined_behind ts))
    ∙ ap (λ (x : List ℕ). mid ++ x) (sym (encodes-append t (joined_behind ts)))
    ∙ ap (λ (x : List ℕ). x ++ encodes (t ++ joined_behind ts)) space
    ∙ append_assoc old (encode 32) (encodes (t ++ joined_behind ts))
    ∙ e

-- a space in front of each item but the first
abbrev pub space_before : ℕ → List ℕ
space_before i = if i == 0 then [] else 32 ∷ []

space_behind : (i : ℕ) → space_before (suc i) ≡ encode 32
space_behind i = rw (eqb-suc-zero i) (sym (encode_ascii 32 (lit< tt)))

pub put_item : (i : ℕ) (old mid new all : List ℕ) (t : List ℕ) (ts : List (List ℕ)) → old ++ encodes (left i (t ∷ ts)) ≡ all → mid ≡ old ++ space_before i → new ≡ mid ++ encodes t
    → new ++ encodes (left (i + 1) ts) ≡ all
put_item zero old mid new all t ts e space step =
    put_first old new all t ts e (step ∙ ap (λ (x : List ℕ). x ++ encodes t) (space ∙ append-nil old))
put_item (suc i) old mid new all t ts e space step =
    let more : suc i + 1 ≡ suc (suc i) = omega arith in
    rw more (put_next i old mid new all t ts e (space ∙ ap (λ (x : List ℕ). old ++ x) (space_behind i)) step)

-- ---- words
abbrev pub IsWord : List ℕ → Type 0
IsWord t = (0 < length t) × (has_no_space t ≡ true)

abbrev pub AllWords : List (List ℕ) → Type 0
AllWords [] = Unit {0}
AllWords (t ∷ ts) = IsWord t × AllWords ts

space_is : is_space 32 ≡ true
unfolding is_space
space_is = refl

behind_word : (ts : List (List ℕ)) → IsBehindWord (joined_behind ts)
behind_word [] = tt
behind_word (t ∷ ts) = space_is

words_behind : (ts : List (List ℕ)) → AllWords ts → words (joined_behind ts) ≡ ts
words_behind [] all = refl
words_behind (t ∷ ts) (w, all) =
    words_space 32 (t ++ joined_behind ts) space_is ∙ word_first t (joined_behind ts) w.0 w.1 (behind_word ts) ∙ ap (λ (us : List (List ℕ)). t ∷ us) (words_behind ts all)

pub words_joined : (ts : List (List ℕ)) → AllWords ts → words (join_with_byte 32 ts) ≡ ts
words_joined [] all = refl
words_joined (t ∷ ts) (w, all) =
    ap words (join_first t ts) ∙ word_first t (joined_behind ts) w.0 w.1 (behind_word ts) ∙ ap (λ (us : List (List ℕ)). t ∷ us) (words_behind ts all)
