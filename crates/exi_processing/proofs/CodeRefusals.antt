-- A code that is refused, part by part.
use Rattle.std.proofs.Common.{◌≡◌, ◌≢◌, ◌⊎◌, inl, inr, ℕ, ◌%◌, ◌<◌, ◌≤◌, Bool, cond, ltb, List, [], ◌∷◌, ◌++◌, length, slice_get, Option, Some, None, Result, Ok, Err, refl, sym, ap, ◌∙◌, subst, arith}
use Rattle.std.proofs.lemmas.Bool.{cases_Bool, le-ltb, lt-ltb, ltb-false, ltb-true}
use Rattle.std.proofs.lemmas.Option.{slice_get_within}
use Rattle.exi_bits.specs.declared.align.Align.{Align}
use Rattle.exi_bits.specs.declared.align.Align.TheVariants as align
use Rattle.exi_bits.specs.declared.fault.Fault.{Fault}
use Rattle.exi_bits.specs.declared.fault.Kind.TheVariants as kind
use Rattle.exi_bits.specs.Bits.{Spot, IsAligned, IsBytes, left, moved, number, number_at, rest, taken, value_at}
use Rattle.exi_bits.specs.Unsigned.{◌>>=◌, at_spot, below_at, fault_at, field_at, needed}
use Rattle.exi_bits.specs.Widths.{width_for}
use Rattle.exi_bits.proofs.Below.{below_read, below_spelled}
use Rattle.exi_bits.proofs.InBytes.{number_read, number_spelled}
use Rattle.exi_gram.specs.Codes.{Productions, Second, code_at, first_told, first_values, group, longer, member_at, part_at, second_at, second_told, single, told}
use Rattle.exi_gram.proofs.CodeLaws.{get_none, longer_few}
use Rattle.exi_processing.specs.Refused.{IsCodeRefused, IsLonger, IsNoPart, IsPartRefused, IsThirdRefused, behind_part}
use Rattle.exi_processing.specs.Rules.{Rule}

abbrev fine : {X : Type 0} → X → Result X Fault
fine x = Ok x

abbrev wrong : {X : Type 0} → Fault → Result X Fault
wrong f = Err f

wrong_is : {X : Type 0} (f h : Fault) → wrong {X = X} f ≡ wrong h → f ≡ h
wrong_is f h e = cc

not_both : {X : Type 0} (x : X) (f : Fault) → fine x ≡ wrong f → ⊥
not_both x f e = cc

bind_wrong : {X Y : Type 0} (r : Result X Fault) (h : X → Result Y Fault) (f : Fault) → (r >>= h) ≡ wrong f → (r ≡ wrong f) ⊎ ((x : X) × (r ≡ fine x) × (h x ≡ wrong f))
bind_wrong (Ok x) h f e = inr (x, refl, e)
bind_wrong {X} {Y} (Err d) h f e = inl (ap (λ (z : Fault). wrong {X = X} z) (wrong_is {X = Y} d f e))

-- ---- a part
module _ (count : ℕ) (a : Align) (s : Spot) (octet : IsBytes s.bytes) (al : IsAligned a s) where
  abbrev w : ℕ
  w = width_for count

  abbrev found : Option (ℕ × Spot) → Result (ℕ × Spot) Fault
  found o = at_spot s (needed o) >>= λ x. cond (ltb x.0 count) (fine x) (fault_at kind.NoCode s)

  over : (f : Fault) (x : ℕ × Spot) → number_at w a s ≡ Some x → cond (ltb x.0 count) (fine x) (fault_at kind.NoCode s) ≡ wrong f → IsPartRefused count a s f
  over f x n e = elim (cases_Bool (ltb x.0 count)) [
    | inl yes_is ↦ absurd (not_both x f (subst (λ (b : Bool). cond b (fine x) (fault_at kind.NoCode s) ≡ wrong f) yes_is e))
    | inr no_is ↦ (
        let q = number_spelled w x.0 a s x.1 octet al n in
        inr (record {
          value = x.0;
          narrow = q.1;
          more = rest x.1;
          stands = q.0.parts;
          none = ltb-false x.0 count no_is;
          is = sym (wrong_is {X = ℕ × Spot} (record { kind = kind.NoCode; bit = s.place }) f (subst (λ (b : Bool). cond b (fine x) (fault_at kind.NoCode s) ≡ wrong f) no_is e));
        })
        )
  ]

  abbrev there : ℕ × Spot
  there = (value_at w a s, moved s (taken w a))

  by_number : (f : Fault) (o : Option (ℕ × Spot)) → number_at w a s ≡ o → found o ≡ wrong f → IsPartRefused count a s f
  unfolding number_at
  by_number f (Some x) n e = over f x n e
  by_number f None n e = elim (cases_Bool (ltb (left s) (taken w a))) [
    | inl yes_is ↦ inl (record { few = ltb-true (left s) (taken w a) yes_is; is = sym (wrong_is {X = ℕ × Spot} (record { kind = kind.Short; bit = s.place }) f e) })
    | inr no_is ↦ absurd (some_none there (subst (λ (b : Bool). cond b None (Some there) ≡ None) no_is n))
  ]
    where
      some_none : (x : ℕ × Spot) → Some x ≡ None → ⊥
      some_none x z = cc

  pub part_refused : (f : Fault) → part_at count a s ≡ wrong f → IsPartRefused count a s f
  unfolding part_at below_at field_at
  part_refused f e = by_number f (number_at w a s) refl e

  pub part_again : (f : Fault) → IsPartRefused count a s f → part_at count a s ≡ wrong f
  unfolding part_at below_at field_at number_at
  part_again f (inl h) = rw (lt-ltb (left s) (taken w a) h.few) (ap (λ (z : Fault). wrong z) (sym h.is))
  part_again f (inr h) = past h (number_read w h.value a s h.more octet al h.narrow h.stands)
    where
      past : (k : IsNoPart count a s f) → number_at w a s ≡ Some (k.value, moved s (taken w a)) → found (number_at w a s) ≡ wrong f
      past k n = rw (n, le-ltb k.value count k.none) (ap (λ (z : Fault). wrong z) (sym k.is))

  -- a part that is told: its value, and the spot behind it
  pub part_told : (x : ℕ × Spot) → part_at count a s ≡ fine x → (x.0 < count) × (rest s ≡ number w a x.0 ++ rest x.1) × (x.1 ≡ behind_part count a s)
  unfolding part_at below_at field_at
  part_told x e =
      let q = below_spelled count x.0 a kind.NoCode s x.1 octet al e in
      let r = below_read count x.0 a kind.NoCode s (rest x.1) octet al q.1 q.0.parts in
      (q.1, q.0.parts, same (sym e ∙ r))
    where
      same : fine x ≡ fine (x.0, moved s (taken w a)) → x.1 ≡ moved s (taken w a)
      same h = cc

  pub part_read : (v : ℕ) (more : List Bool) → v < count → rest s ≡ number w a v ++ more → part_at count a s ≡ fine (v, behind_part count a s)
  unfolding part_at below_at field_at
  part_read v more lt e = below_read count v a kind.NoCode s more octet al lt e

aligned_behind : (count : ℕ) (a : Align) (s : Spot) → IsAligned a s → IsAligned a (behind_part count a s)
aligned_behind count align.Bits s al e = absurd cc
aligned_behind count align.Bytes s al e = let p : s.place % 8 ≡ 0 = al refl in omega arith

-- ---- lists
within : {X : Type 0} (xs : List X) (i : ℕ) → i < length xs → slice_get xs i ≡ None → ⊥
within xs i lt e = absurd (omega (arith, lt, get_none xs i e))

longer_one : (xs : List (Second Rule)) → xs ≢ [] → longer xs ≡ 1
longer_one [] some = absurd (some refl)
longer_one (x ∷ xs) some = refl

longer_some : (xs : List (Second Rule)) → 1 ≤ longer xs → xs ≢ []
longer_some [] le e = absurd (omega (arith, le))
longer_some (x ∷ xs) le e = cc

past_none : (xs : List Rule) → slice_get xs (length xs) ≡ None
past_none [] = refl
past_none (x ∷ xs) = past_none xs

-- ---- the parts of a code
module _ (a : Align) where
  member_refused : (xs : List Rule) (s : Spot) (f : Fault) → IsBytes s.bytes → IsAligned a s → member_at a xs s ≡ wrong f → IsPartRefused (length xs) a s f
  unfolding member_at
  member_refused xs s f octet al e = elim (bind_wrong (part_at (length xs) a s) (λ (third : ℕ × Spot). told (slice_get xs third.0) third.1) f e) [
    | inl u ↦ part_refused (length xs) a s octet al f u
    | inr u ↦ absurd (by_member u.0 (part_told (length xs) a s octet al u.0 u.1).0 (slice_get xs u.0.0) refl u.2)
  ]
    where
      by_member : (x : ℕ × Spot) → x.0 < length xs → (o : Option Rule) → slice_get xs x.0 ≡ o → told o x.1 ≡ wrong f → ⊥
      by_member x lt None n h = within xs x.0 lt n
      by_member x lt (Some y) n h = not_both (y, x.1) f h

  module _ (p : Productions Rule) (s : Spot) (octet : IsBytes s.bytes) (al : IsAligned a s) where
    abbrev next : Spot
    next = behind_part (first_values p) a s

    abbrev al_next : IsAligned a next
    al_next = aligned_behind (first_values p) a s al

    second_refused : (f : Fault) → IsLonger p a s → second_at a p.seconds next ≡ wrong f → IsCodeRefused p a s f
    unfolding second_at
    second_refused f long e = elim (bind_wrong (part_at (length p.seconds) a next) (λ (second : ℕ × Spot). second_told a (slice_get p.seconds second.0) second.1) f e) [
      | inl u ↦ inr (inl (record { longer = long; refused = part_refused (length p.seconds) a next octet al_next f u }))
      | inr u ↦ (let q = part_told (length p.seconds) a next octet al_next u.0 u.1 in by_second u.0 q.0 q.1 q.2 (slice_get p.seconds u.0.0) refl u.2)
    ]
      where
        by_second : (x : ℕ × Spot) → x.0 < length p.seconds → rest next ≡ number (width_for (length p.seconds)) a x.0 ++ rest x.1 → x.1 ≡ behind_part (length p.seconds) a next → (o : Option (Second Rule)) → slice_get p.seconds x.0 ≡ o → second_told a o x.1 ≡ wrong f → IsCodeRefused p a s f
        by_second x lt st sp None n h = absurd (within p.seconds x.0 lt n)
        by_second x lt st sp (Some (single y)) n h = absurd (not_both (y, x.1) f h)
        by_second x lt st sp (Some (group ys)) n h = inr (inr (record {
          longer = long;
          second = x.0;
          members = ys;
          there = n;
          more = rest x.1;
          stands = st;
          refused = member_refused ys (behind_part (length p.seconds) a next) f octet (aligned_behind (length p.seconds) a next al_next) (subst (λ (z : Spot). member_at a ys z ≡ wrong f) sp h);
        }))

    pub code_refused : (f : Fault) → code_at a p s ≡ wrong f → IsCodeRefused p a s f
    unfolding code_at
    code_refused f e = elim (bind_wrong (part_at (first_values p) a s) (λ (first : ℕ × Spot). first_told a p.seconds (slice_get p.firsts first.0) first.1) f e) [
      | inl u ↦ inl (part_refused (first_values p) a s octet al f u)
      | inr u ↦ (let q = part_told (first_values p) a s octet al u.0 u.1 in by_first u.0 q.0 q.1 q.2 (slice_get p.firsts u.0.0) refl u.2)
    ]
      where
        by_first : (x : ℕ × Spot) → x.0 < first_values p → rest s ≡ number (width_for (first_values p)) a x.0 ++ rest x.1 → x.1 ≡ next → (o : Option Rule) → slice_get p.firsts x.0 ≡ o → first_told a p.seconds o x.1 ≡ wrong f → IsCodeRefused p a s f
        by_first x lt st sp (Some y) n h = absurd (not_both (y, x.1) f h)
        by_first x lt st sp None n h =
            let past : length p.firsts ≤ x.0 = get_none p.firsts x.0 n in
            let is : x.0 ≡ length p.firsts = omega (arith, past, lt, longer_few p.seconds) in
            let one : 1 ≤ longer p.seconds = omega (arith, past, lt) in
            second_refused f (record { some = longer_some p.seconds one; more = rest x.1; stands = st ∙ ap (λ (i : ℕ). number (width_for (first_values p)) a i ++ rest x.1) is }) (subst (λ (z : Spot). second_at a p.seconds z ≡ wrong f) sp h)

    longer_read : IsLonger p a s → code_at a p s ≡ second_at a p.seconds next
    unfolding code_at
    longer_read h =
        let lt : length p.firsts < first_values p = omega (arith, longer_one p.seconds h.some) in
        rw (part_read (first_values p) a s octet al (length p.firsts) h.more lt h.stands, past_none p.firsts) refl

    second_again : (f : Fault) → IsPartRefused (length p.seconds) a next f → second_at a p.seconds next ≡ wrong f
    unfolding second_at
    second_again f h = rw (part_again (length p.seconds) a next octet al_next f h) refl

    third_again : (f : Fault) → IsThirdRefused p a s f → second_at a p.seconds next ≡ wrong f
    unfolding second_at member_at
    third_again f h =
        let lt : h.second < length p.seconds = slice_get_within p.seconds h.second (group h.members) h.there in
        rw (part_read (length p.seconds) a next octet al_next h.second h.more lt h.stands, h.there, part_again (length h.members) a (behind_part (length p.seconds) a next) octet (aligned_behind (length p.seconds) a next al_next) f h.refused) refl

    pub code_again : (f : Fault) → IsCodeRefused p a s f → code_at a p s ≡ wrong f
    unfolding code_at
    code_again f (inl h) = rw (part_again (first_values p) a s octet al f h) refl
    code_again f (inr (inl h)) = longer_read h.longer ∙ second_again f h.refused
    code_again f (inr (inr h)) = longer_read h.longer ∙ third_again f h
