-- What learning keeps.
use Rattle.std.proofs.Common.{◌≡◌, ◌≢◌, ℕ, zero, suc, ◌<◌, true, false, cond, List, [], ◌∷◌, ◌++◌, length, refl, ap, ◌∙◌, arith, inl, inr, ◌⊎◌, Option, Some, None}
use Rattle.std.proofs.lemmas.Bool.{cases_Bool}
use Rattle.exi_gram.specs.declared.options.Options.{Options}
use Rattle.exi_names.specs.declared.names.NameId.{NameId}
use Rattle.exi_builtin.specs.declared.element_grammar.ElementGrammar.{ElementGrammar}
use Rattle.exi_builtin.specs.declared.learnable.Learnable.{Learnable}
use Rattle.exi_builtin.specs.declared.learnable.Learned.{Learned}
use Rattle.exi_builtin.specs.declared.learnable.Learned.TheVariants as learned
use Rattle.exi_builtin.specs.declared.learnable.Room.{Room}
use Rattle.exi_builtin.specs.declared.learnable.Room.TheVariants as room
use Rattle.exi_builtin.specs.BuiltIn.{left_of, written}
use Rattle.exi_builtin.specs.Learning.{IsRoom, Learning, after_use, behind_learned, grammar_number, grammar_place, in_front, is_new, learned_in, new_grammar, productions, with_grammar}
use Rattle.exi_names.specs.NameMaps.{same_name}
use Rattle.exi_builtin.specs.Uses.{added_by, is_type, stands_already}
use Rattle.exi_builtin.proofs.Naming.{length_changed, position_changed, position_new, same_itself}

abbrev of_these : List ElementGrammar → List Learnable → Learning
of_these gs fragment = record { grammars = gs; fragment = fragment }

-- ---- a production in front
start_here : (fragment : List Learnable) (gs : List ElementGrammar) (n : ℕ) (x : Learnable) → n < length gs → learned_in (in_front (of_these gs fragment) (room.StartTag n) x) (room.StartTag n) ≡ x ∷ learned_in (of_these gs fragment) (room.StartTag n)
start_here fragment [] n x within = absurd (omega (arith, within))
start_here fragment (g ∷ gs) zero x within = refl
start_here fragment (g ∷ gs) (suc n) x within = start_here fragment gs n x (omega (arith, within))

content_here : (fragment : List Learnable) (gs : List ElementGrammar) (n : ℕ) (x : Learnable) → n < length gs → learned_in (in_front (of_these gs fragment) (room.Content n) x) (room.Content n) ≡ x ∷ learned_in (of_these gs fragment) (room.Content n)
content_here fragment [] n x within = absurd (omega (arith, within))
content_here fragment (g ∷ gs) zero x within = refl
content_here fragment (g ∷ gs) (suc n) x within = content_here fragment gs n x (omega (arith, within))

pub front_here : (l : Learning) (r : Room) (x : Learnable) → IsRoom l r → learned_in (in_front l r x) r ≡ x ∷ learned_in l r
front_here l (room.StartTag n) x made = start_here l.fragment l.grammars n x made
front_here l (room.Content n) x made = content_here l.fragment l.grammars n x made
front_here l room.Fragment x made = refl

start_start : (fragment : List Learnable) (gs : List ElementGrammar) (n m : ℕ) (x : Learnable) → m ≢ n → learned_in (in_front (of_these gs fragment) (room.StartTag n) x) (room.StartTag m) ≡ learned_in (of_these gs fragment) (room.StartTag m)
start_start fragment [] n m x ne = refl
start_start fragment (g ∷ gs) zero zero x ne = absurd (ne refl)
start_start fragment (g ∷ gs) zero (suc m) x ne = refl
start_start fragment (g ∷ gs) (suc n) zero x ne = refl
start_start fragment (g ∷ gs) (suc n) (suc m) x ne = start_start fragment gs n m x (λ e. ne (ap suc e))

start_content : (fragment : List Learnable) (gs : List ElementGrammar) (n m : ℕ) (x : Learnable) → learned_in (in_front (of_these gs fragment) (room.StartTag n) x) (room.Content m) ≡ learned_in (of_these gs fragment) (room.Content m)
start_content fragment [] n m x = refl
start_content fragment (g ∷ gs) zero zero x = refl
start_content fragment (g ∷ gs) zero (suc m) x = refl
start_content fragment (g ∷ gs) (suc n) zero x = refl
start_content fragment (g ∷ gs) (suc n) (suc m) x = start_content fragment gs n m x

content_start : (fragment : List Learnable) (gs : List ElementGrammar) (n m : ℕ) (x : Learnable) → learned_in (in_front (of_these gs fragment) (room.Content n) x) (room.StartTag m) ≡ learned_in (of_these gs fragment) (room.StartTag m)
content_start fragment [] n m x = refl
content_start fragment (g ∷ gs) zero zero x = refl
content_start fragment (g ∷ gs) zero (suc m) x = refl
content_start fragment (g ∷ gs) (suc n) zero x = refl
content_start fragment (g ∷ gs) (suc n) (suc m) x = content_start fragment gs n m x

content_content : (fragment : List Learnable) (gs : List ElementGrammar) (n m : ℕ) (x : Learnable) → m ≢ n → learned_in (in_front (of_these gs fragment) (room.Content n) x) (room.Content m) ≡ learned_in (of_these gs fragment) (room.Content m)
content_content fragment [] n m x ne = refl
content_content fragment (g ∷ gs) zero zero x ne = absurd (ne refl)
content_content fragment (g ∷ gs) zero (suc m) x ne = refl
content_content fragment (g ∷ gs) (suc n) zero x ne = refl
content_content fragment (g ∷ gs) (suc n) (suc m) x ne = content_content fragment gs n m x (λ e. ne (ap suc e))

front_other : (l : Learning) (r other : Room) (x : Learnable) → other ≢ r → learned_in (in_front l r x) other ≡ learned_in l other
front_other l (room.StartTag n) (room.StartTag m) x ne = start_start l.fragment l.grammars n m x (λ e. ne (ap room.StartTag e))
front_other l (room.StartTag n) (room.Content m) x ne = start_content l.fragment l.grammars n m x
front_other l (room.StartTag n) room.Fragment x ne = refl
front_other l (room.Content n) (room.StartTag m) x ne = content_start l.fragment l.grammars n m x
front_other l (room.Content n) (room.Content m) x ne = content_content l.fragment l.grammars n m x (λ e. ne (ap room.Content e))
front_other l (room.Content n) room.Fragment x ne = refl
front_other l room.Fragment (room.StartTag m) x ne = refl
front_other l room.Fragment (room.Content m) x ne = refl
front_other l room.Fragment room.Fragment x ne = absurd (ne refl)

-- ---- a use
use_adds : (l : Learning) (r : Room) (used : Learned) → is_new l r used ≡ true → after_use l r used ≡ in_front l r (added_by used)
use_adds l r used new = rw new refl

pub use_of_old : (l : Learning) (r : Room) (used : Learned) → is_new l r used ≡ false → after_use l r used ≡ l
use_of_old l r used old = rw old refl

pub firsts_after : (o : Options) (l : Learning) (r : Room) (used : Learned) → IsRoom l r → is_new l r used ≡ true → (productions o (after_use l r used) r).firsts ≡ added_by used ∷ (productions o l r).firsts
firsts_after o l r used made new =
    let here : learned_in (after_use l r used) r ≡ added_by used ∷ learned_in l r = ap (λ k. learned_in k r) (use_adds l r used new) ∙ front_here l r (added_by used) made in
    ap (λ xs. xs ++ (left_of o (written r)).firsts) here

pub others_after : (o : Options) (l : Learning) (r other : Room) (used : Learned) → other ≢ r → productions o (after_use l r used) other ≡ productions o l other
others_after o l r other used ne = elim (cases_Bool (is_new l r used)) [
  | inl new ↦ ap (λ k. productions o k other) (use_adds l r used new) ∙ ap (λ xs. behind_learned xs (left_of o (written other))) (front_other l r other (added_by used) ne)
  | inr old ↦ ap (λ k. productions o k other) (use_of_old l r used old)
]

once : (l : Learning) (r : Room) (used : Learned) → IsRoom l r → ((xs : List Learnable) → stands_already used (added_by used ∷ xs) ≡ true) → is_new (after_use l r used) r used ≡ false
once l r used made stands = elim (cases_Bool (is_new l r used)) [
  | inl new ↦
      let here : learned_in (after_use l r used) r ≡ added_by used ∷ learned_in l r = ap (λ k. learned_in k r) (use_adds l r used new) ∙ front_here l r (added_by used) made in
      let there : stands_already used (learned_in (after_use l r used) r ++ (written r).firsts) ≡ true
      = ap (λ xs. stands_already used (xs ++ (written r).firsts)) here ∙ stands (learned_in l r ++ (written r).firsts) in
      ap (λ b. cond b false true) there
  | inr old ↦ ap (λ k. is_new k r used) (use_of_old l r used old) ∙ old
]

pub once_type : (l : Learning) (r : Room) (name : NameId) → IsRoom l r → is_type name ≡ true → is_new (after_use l r (learned.At name)) r (learned.At name) ≡ false
once_type l r name made type = once l r (learned.At name) made (λ xs. rw type refl)

pub once_characters : (l : Learning) (r : Room) → IsRoom l r → is_new (after_use l r learned.Ch) r learned.Ch ≡ false
once_characters l r made = once l r learned.Ch made (λ xs. refl)

pub once_end : (l : Learning) (r : Room) → IsRoom l r → is_new (after_use l r learned.Ee) r learned.Ee ≡ false
once_end l r made = once l r learned.Ee made (λ xs. refl)

-- ---- the grammars
front_place : (l : Learning) (r : Room) (x : Learnable) (name : NameId) → grammar_place (in_front l r x) name ≡ grammar_place l name
front_place l (room.StartTag n) x name = position_changed name l.grammars n (λ g. record g { start_tag = x ∷ g.start_tag }) (λ g. refl)
front_place l (room.Content n) x name = position_changed name l.grammars n (λ g. record g { content = x ∷ g.content }) (λ g. refl)
front_place l room.Fragment x name = refl

pub place_after : (l : Learning) (r : Room) (used : Learned) (name : NameId) → grammar_place (after_use l r used) name ≡ grammar_place l name
place_after l r used name = elim (cases_Bool (is_new l r used)) [
  | inl new ↦ ap (λ k. grammar_place k name) (use_adds l r used new) ∙ front_place l r (added_by used) name
  | inr old ↦ ap (λ k. grammar_place k name) (use_of_old l r used old)
]

front_length : (l : Learning) (r : Room) (x : Learnable) → length (in_front l r x).grammars ≡ length l.grammars
front_length l (room.StartTag n) x = length_changed l.grammars n (λ g. record g { start_tag = x ∷ g.start_tag })
front_length l (room.Content n) x = length_changed l.grammars n (λ g. record g { content = x ∷ g.content })
front_length l room.Fragment x = refl

length_after : (l : Learning) (r : Room) (used : Learned) → length (after_use l r used).grammars ≡ length l.grammars
length_after l r used = elim (cases_Bool (is_new l r used)) [
  | inl new ↦ ap (λ k. length k.grammars) (use_adds l r used new) ∙ front_length l r (added_by used)
  | inr old ↦ ap (λ k. length k.grammars) (use_of_old l r used old)
]

pub room_after : (l : Learning) (r other : Room) (used : Learned) → IsRoom l other → IsRoom (after_use l r used) other
room_after l r (room.StartTag n) used made = omega (arith, length_after l r used, made)
room_after l r (room.Content n) used made = omega (arith, length_after l r used, made)
room_after l r room.Fragment used made = tt

place_cases : (o : Option ℕ) → (o ≡ None) ⊎ ((n : ℕ) × (o ≡ Some n))
place_cases None = inl refl
place_cases (Some n) = inr (n, refl)

pub place_made : (l : Learning) (name : NameId) → grammar_place (with_grammar l name) name ≡ Some (grammar_number l name)
place_made l name = elim (place_cases (grammar_place l name)) [
  | inl none ↦ rw none (position_new (λ (g : ElementGrammar). same_name g.name name) l.grammars (new_grammar name) none (same_itself name))
  | inr found ↦ rw found.1 found.1
]

-- a state of a grammar that was made, where one more is
start_kept : (fragment : List Learnable) (gs : List ElementGrammar) (n : ℕ) (g : ElementGrammar) → n < length gs → learned_in (of_these (gs ++ g ∷ []) fragment) (room.StartTag n) ≡ learned_in (of_these gs fragment) (room.StartTag n)
start_kept fragment [] n g within = absurd (omega (arith, within))
start_kept fragment (h ∷ hs) zero g within = refl
start_kept fragment (h ∷ hs) (suc n) g within = start_kept fragment hs n g (omega (arith, within))

content_kept : (fragment : List Learnable) (gs : List ElementGrammar) (n : ℕ) (g : ElementGrammar) → n < length gs → learned_in (of_these (gs ++ g ∷ []) fragment) (room.Content n) ≡ learned_in (of_these gs fragment) (room.Content n)
content_kept fragment [] n g within = absurd (omega (arith, within))
content_kept fragment (h ∷ hs) zero g within = refl
content_kept fragment (h ∷ hs) (suc n) g within = content_kept fragment hs n g (omega (arith, within))

more_kept : (l : Learning) (g : ElementGrammar) (r : Room) → IsRoom l r → learned_in (of_these (l.grammars ++ g ∷ []) l.fragment) r ≡ learned_in l r
more_kept l g (room.StartTag n) made = start_kept l.fragment l.grammars n g made
more_kept l g (room.Content n) made = content_kept l.fragment l.grammars n g made
more_kept l g room.Fragment made = refl

pub learned_kept : (l : Learning) (name : NameId) (r : Room) → IsRoom l r → learned_in (with_grammar l name) r ≡ learned_in l r
learned_kept l name r made = elim (place_cases (grammar_place l name)) [
  | inl none ↦ rw none (more_kept l (new_grammar name) r made)
  | inr found ↦ rw found.1 refl
]
