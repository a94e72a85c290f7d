-- What is spelled as an Unsigned Integer, and what is read.
use Rattle.std.proofs.Common.{◌≡◌, ℕ, zero, suc, ◌+◌, ◌*◌, ◌-◌, ◌/◌, ◌%◌, ◌^◌, ◌<◌, ◌≤◌, ◌⊎◌, Bool, true, false, cond, ltb, List, [], ◌∷◌, ◌++◌, length, take, drop, Option, Some, None, Result, Ok, Err, refl, sym, ap, ◌∙◌, subst, append_assoc, arith, inl, inr}
use Rattle.std.proofs.lemmas.List.{length-append, nil_from_length, append-nil, drop-drop, drop_at}
use Rattle.std.proofs.lemmas.Nat.{pow-add, shr_below}
use Rattle.std.proofs.lemmas.Bool.{ltb-true, le-ltb, lt-ltb, cases_lt}
use Rattle.exi_bits.specs.declared.align.Align.TheVariants as align
use Rattle.exi_bits.specs.declared.fault.Fault.{Fault}
use Rattle.exi_bits.specs.declared.fault.Kind.{Kind}
use Rattle.exi_bits.specs.declared.fault.Kind.TheVariants as kind
use Rattle.exi_bits.specs.Bits.{Spot, Front, IsBytes, rest, left, moved, bits, number_bits, number_at, value_of}
use Rattle.exi_bits.specs.Unsigned.{◌>>=◌, AllGoOn, IsChained, IsCut, IsUnsigned, IsWide, at_spot, fault_at, group_sum, groups, groups_at, narrow, narrow_groups_at, shortest, unsigned_at}
use Rattle.exi_bits.proofs.BitLaws.{length-bits, length-number_bits, one_byte, pow_up}
use Rattle.exi_bits.proofs.Spelled.{length-rest, number_takes, number_again}
use Rattle.exi_bits.proofs.InBytes.{same_bytes, rest_behind}
use Rattle.exi_bits.proofs.Groups.{short_at, last_at, more_at}

abbrev given : ℕ × Spot → Result (ℕ × Spot) Fault
given p = Ok p

ok_is : (p q : ℕ × Spot) → given p ≡ given q → p ≡ q
ok_is p q e = cc

-- ---- chains of octets
chain_more : (o : ℕ) (os : List ℕ) → 128 ≤ o → o < 256 → IsChained os → IsChained (o ∷ os)
unfolding IsChained
chain_more o [] le lt h = absurd h
chain_more o (p ∷ os) le lt h = (le, lt, h)

chain_bytes : (os : List ℕ) → IsChained os → IsBytes os
unfolding IsChained
chain_bytes [] h i = absurd h
chain_bytes (o ∷ []) h zero = omega arith
chain_bytes (o ∷ []) h (suc i) = omega arith
chain_bytes (o ∷ p ∷ os) h zero = h.1
chain_bytes (o ∷ p ∷ os) h (suc i) = chain_bytes (p ∷ os) h.2 i

seven_more : (n : ℕ) → 7 * suc n ≡ 7 + 7 * n
seven_more n = omega arith

sum_below : (os : List ℕ) → group_sum os < 2 ^ (7 * length os)
unfolding group_sum
sum_below [] = omega arith
sum_below (o ∷ os) =
    let h : group_sum os < 2 ^ (7 * length os) = sum_below os in
    let e : 2 ^ (7 * length (o ∷ os)) ≡ 128 * 2 ^ (7 * length os) = ap (λ (q : ℕ). 2 ^ q) (seven_more (length os)) ∙ pow-add 2 7 (7 * length os) in
    omega arith

-- ---- what the groups that are read say of the bits
record Found (most v : ℕ) (s t : Spot) : Type 0 where
  octets : List ℕ
  chained : IsChained octets
  few : length octets ≤ most
  sum : group_sum octets ≡ v
  front : Front s (bits octets) t

record Cut (most : ℕ) (s : Spot) : Type 0 where
  octets : List ℕ
  tail : List Bool
  parts : rest s ≡ bits octets ++ tail
  go_on : AllGoOn octets
  few : length octets < most
  short : length tail < 8

record Many (most : ℕ) (s : Spot) : Type 0 where
  octets : List ℕ
  more : List Bool
  parts : rest s ≡ bits octets ++ more
  go_on : AllGoOn octets
  count : length octets ≡ most

abbrev Outcome : ℕ → Spot → Result (ℕ × Spot) Kind → Type 0
Outcome most s (Ok found) = Found most found.0 s found.1
Outcome most s (Err k) = ((k ≡ kind.Short) × Cut most s) ⊎ ((k ≡ kind.TooWide) × Many most s)

guard_none : (b : Bool) (x : ℕ × Spot) → cond b None (Some x) ≡ None → b ≡ true
guard_none true x e = refl
guard_none false x e = absurd cc

none_left : (s : Spot) → number_at 8 align.Bits s ≡ None → left s < 8
unfolding number_at
none_left s e = ltb-true (left s) 8 (guard_none (ltb (left s) 8) (value_of (take 8 (rest s)), moved s 8) e)

-- an octet before others
more_parts : (o : ℕ) (os : List ℕ) (s t : Spot) (more : List Bool) → Front s (number_bits 8 o) t → rest t ≡ bits os ++ more → rest s ≡ bits (o ∷ os) ++ more
unfolding bits
more_parts o os s t more f e = f.parts ∙ ap (λ (x : List Bool). number_bits 8 o ++ x) e ∙ sym (append_assoc (number_bits 8 o) (bits os) more)

one_found : (most o : ℕ) (s t : Spot) → number_at 8 align.Bits s ≡ Some (o, t) → o < 128 → Found (suc most) o s t
unfolding IsChained group_sum
one_found most o s t h lt = record {
  octets = o ∷ [];
  chained = lt;
  few = omega arith;
  sum = omega arith;
  front = rw (one_byte o) ((number_takes 8 o s t h).0);
}

more_found : (most o : ℕ) (s t : Spot) → number_at 8 align.Bits s ≡ Some (o, t) → 128 ≤ o → (read : Result (ℕ × Spot) Kind) → Outcome most t read → Outcome (suc most) s (read >>= λ more. Ok (o - 128 + 128 * more.0, more.1))
unfolding group_sum AllGoOn bits
more_found most o s t h le (Ok x) f =
    let n = number_takes 8 o s t h in
    let small : o < 256 = n.1 in
    let g = n.0 in
    let m : o % 128 ≡ o - 128 = omega arith in
    record {
      octets = o ∷ f.octets;
      chained = chain_more o f.octets le small f.chained;
      few = omega (arith, f.few);
      sum = rw (m, f.sum) refl;
      front = record {
        parts = more_parts o f.octets s t (rest x.1) g f.front.parts;
        bytes = f.front.bytes ∙ g.bytes;
        place = omega (arith, f.front.place, g.place, length-append (number_bits 8 o) (bits f.octets));
      };
    }
more_found most o s t h le (Err k) f =
    let n = number_takes 8 o s t h in
    let small : o < 256 = n.1 in
    let g = n.0 in
    elim f [
      | inl cut ↦ inl (
        cut.0,
        record {
          octets = o ∷ cut.1.octets;
          tail = cut.1.tail;
          parts = more_parts o cut.1.octets s t cut.1.tail g cut.1.parts;
          go_on = (le, small, cut.1.go_on);
          few = omega (arith, cut.1.few);
          short = cut.1.short;
        },
      )
      | inr many ↦ inr (
        many.0,
        record {
          octets = o ∷ many.1.octets;
          more = many.1.more;
          parts = more_parts o many.1.octets s t many.1.more g many.1.parts;
          go_on = (le, small, many.1.go_on);
          count = ap suc many.1.count;
        },
      )
    ]

one_outcome : (most : ℕ) (s : Spot) (found : Option (ℕ × Spot)) → number_at 8 align.Bits s ≡ found → ((t : Spot) → Outcome most t (groups_at most t)) → Outcome (suc most) s (groups_at (suc most) s)
unfolding bits AllGoOn
one_outcome most s None h again = subst (Outcome (suc most) s) (sym (short_at most s h)) (inl (
  refl,
  record {
    octets = [];
    tail = rest s;
    parts = refl;
    go_on = tt;
    few = omega arith;
    short = omega (arith, length-rest s, none_left s h);
  },
))
one_outcome most s (Some x) h again =
    elim (cases_lt x.0 128) [
      | inl small ↦ subst (Outcome (suc most) s) (sym (last_at most x.0 s x.1 h small)) (one_found most x.0 s x.1 h small)
      | inr large ↦ subst (Outcome (suc most) s) (sym (more_at most x.0 s x.1 h large)) (more_found most x.0 s x.1 h large (groups_at most x.1) (again x.1))
    ]

outcome : (most : ℕ) (s : Spot) → Outcome most s (groups_at most s)
unfolding groups_at bits AllGoOn
outcome zero s = inr (refl, record { octets = []; more = rest s; parts = refl; go_on = tt; count = refl })
outcome (suc most) s = one_outcome most s (number_at 8 align.Bits s) refl (outcome most)

-- ---- and the other way: what stands there is read
behind_octet : (o : ℕ) (os : List ℕ) (s : Spot) (more : List Bool) → o < 256 → rest s ≡ bits (o ∷ os) ++ more → (number_at 8 align.Bits s ≡ Some (o, moved s 8)) × (rest (moved s 8) ≡ bits os ++ more)
unfolding bits
behind_octet o os s more lt e =
    let parts : rest s ≡ number_bits 8 o ++ (bits os ++ more) = e ∙ append_assoc (number_bits 8 o) (bits os) more in
    let h : number_at 8 align.Bits s ≡ Some (o, moved s 8) = number_again 8 o s (bits os ++ more) lt parts in
    let len : length (number_bits 8 o) ≡ 8 = length-number_bits 8 o in (
      h,
      sym (drop-drop 8 s.place (bits s.bytes)) ∙ ap (λ (t : List Bool). drop 8 t) parts ∙ drop_at (number_bits 8 o) (bits os ++ more) 8 len,
    )

moved_twice : (s : Spot) (a b c : ℕ) → a + b ≡ c → moved (moved s a) b ≡ moved s c
moved_twice s a b c e = let p : s.place + a + b ≡ s.place + c = omega arith in ap (λ (place : ℕ). record { bytes = s.bytes; place = place }) p

chain_again : (most : ℕ) (os : List ℕ) (s : Spot) (more : List Bool) → IsChained os → length os ≤ most → rest s ≡ bits os ++ more → groups_at most s ≡ Ok (group_sum os, moved s (8 * length os))
unfolding IsChained group_sum
chain_again most [] s more h few e = absurd h
chain_again zero (o ∷ os) s more h few e = absurd (omega arith)
chain_again (suc most) (o ∷ []) s more h few e =
    let b = behind_octet o [] s more (omega arith) e in
    let v : o ≡ o % 128 + 128 * 0 = omega arith in
    last_at most o s (moved s 8) b.0 h ∙ ap (λ (n : ℕ). Ok (n, moved s 8)) v
chain_again (suc most) (o ∷ p ∷ os) s more h few e =
    let b = behind_octet o (p ∷ os) s more h.1 e in
    let again = chain_again most (p ∷ os) (moved s 8) more h.2 (omega arith) b.1 in
    let v : o - 128 ≡ o % 128 = omega arith in
    let m : moved (moved s 8) (8 * length (p ∷ os)) ≡ moved s (8 * length (o ∷ p ∷ os)) = moved_twice s 8 (8 * length (p ∷ os)) (8 * length (o ∷ p ∷ os)) (omega arith) in
    more_at most o s (moved s 8) b.0 h.0 ∙ rw (again, v, m) refl

cut_again : (most : ℕ) (os : List ℕ) (s : Spot) (tail : List Bool) → AllGoOn os → length os < most → length tail < 8 → rest s ≡ bits os ++ tail → groups_at most s ≡ Err kind.Short
unfolding AllGoOn bits number_at
cut_again zero os s tail h few short e = absurd (omega arith)
cut_again (suc most) [] s tail h few short e =
    let few_left : left s < 8 = omega (arith, length-rest s, ap length e) in
    short_at most s (rw (lt-ltb (left s) 8 few_left) refl)
cut_again (suc most) (o ∷ os) s tail h few short e =
    let b = behind_octet o os s tail h.1 e in
    let again = cut_again most os (moved s 8) tail h.2 (omega arith) short b.1 in
    more_at most o s (moved s 8) b.0 h.0 ∙ rw again refl

many_again : (most : ℕ) (os : List ℕ) (s : Spot) (more : List Bool) → AllGoOn os → length os ≡ most → rest s ≡ bits os ++ more → groups_at most s ≡ Err kind.TooWide
unfolding AllGoOn groups_at
many_again zero os s more h count e = refl
many_again (suc most) [] s more h count e = absurd (omega arith)
many_again (suc most) (o ∷ os) s more h count e =
    let b = behind_octet o os s more h.1 e in
    let again = many_again most os (moved s 8) more h.2 (omega arith) b.1 in
    more_at most o s (moved s 8) b.0 h.0 ∙ rw again refl

-- ---- the whole item
abbrev Whole : Spot → Result (ℕ × Spot) Fault → Type 0
Whole s (Ok found) = (octets : List ℕ) × IsUnsigned octets found.0 × Front s (bits octets) found.1
Whole s (Err f) = ((f ≡ record { kind = kind.Short; bit = s.place }) × IsCut (rest s)) ⊎ ((f ≡ record { kind = kind.TooWide; bit = s.place }) × IsWide (rest s))

record Ends (n : ℕ) (os : List ℕ) (P : ℕ → Type 0) : Type 0 where
  first : List ℕ
  last : ℕ
  parts : os ≡ first ++ last ∷ []
  go_on : AllGoOn first
  count : length first ≡ n
  end : P last

-- the last octet of a chain, or of octets that all go on
chain_ends : (n : ℕ) (os : List ℕ) → IsChained os → length os ≡ suc n → Ends n os (λ o. o < 256)
unfolding IsChained AllGoOn
chain_ends n [] h e = absurd h
chain_ends zero (o ∷ []) h e = record { first = []; last = o; parts = refl; go_on = tt; count = refl; end = omega arith }
chain_ends (suc n) (o ∷ []) h e = absurd (omega arith)
chain_ends zero (o ∷ p ∷ os) h e = absurd (omega arith)
chain_ends (suc n) (o ∷ p ∷ os) h e =
    let x = chain_ends n (p ∷ os) h.2 (omega arith) in
    record { first = o ∷ x.first; last = x.last; parts = ap (λ (t : List ℕ). o ∷ t) x.parts; go_on = (h.0, h.1, x.go_on); count = ap suc x.count; end = x.end }

all_ends : (n : ℕ) (os : List ℕ) → AllGoOn os → length os ≡ suc n → Ends n os (λ o. (128 ≤ o) × (o < 256))
unfolding AllGoOn
all_ends n [] h e = absurd (omega arith)
all_ends zero (o ∷ []) h e = record { first = []; last = o; parts = refl; go_on = tt; count = refl; end = (h.0, h.1) }
all_ends (suc n) (o ∷ []) h e = absurd (omega arith)
all_ends zero (o ∷ p ∷ os) h e = absurd (omega arith)
all_ends (suc n) (o ∷ p ∷ os) h e =
    let x = all_ends n (p ∷ os) h.2 (omega arith) in
    record { first = o ∷ x.first; last = x.last; parts = ap (λ (t : List ℕ). o ∷ t) x.parts; go_on = (h.0, h.1, x.go_on); count = ap suc x.count; end = x.end }

wide_sum : (v : ℕ) (s t : Spot) → Found 19 v s t → 2 ^ 128 ≤ v → IsWide (rest s)
wide_sum v s t f big =
    let below : group_sum f.octets < 2 ^ (7 * length f.octets) = sum_below f.octets in
    let long : 19 ≤ length f.octets = elim (cases_lt (length f.octets) 19) [
      | inl lt ↦ absurd (let p : 2 ^ (7 * length f.octets) ≤ 2 ^ 126 = pow_up (7 * length f.octets) 126 (omega arith) in omega (arith, f.sum))
      | inr le ↦ le
    ] in
    let x = chain_ends 18 f.octets f.chained (omega (arith, f.few)) in
    record {
      first = x.first;
      last = x.last;
      more = rest t;
      parts = f.front.parts ∙ ap (λ (os : List ℕ). bits os ++ rest t) x.parts;
      go_on = x.go_on;
      count = x.count;
      octet = x.end;
      wide = inr (subst (λ (os : List ℕ). 2 ^ 128 ≤ group_sum os) x.parts (omega (arith, f.sum)));
    }

wide_many : (s : Spot) → Many 19 s → IsWide (rest s)
wide_many s m =
    let x = all_ends 18 m.octets m.go_on m.count in
    record {
      first = x.first;
      last = x.last;
      more = m.more;
      parts = m.parts ∙ ap (λ (os : List ℕ). bits os ++ m.more) x.parts;
      go_on = x.go_on;
      count = x.count;
      octet = x.end.1;
      wide = inl x.end.0;
    }

narrowed : (s : Spot) (read : Result (ℕ × Spot) Kind) → Outcome 19 s read → Whole s (at_spot s (read >>= narrow))
narrowed s (Ok x) f =
    elim (cases_lt x.0 (2 ^ 128)) [
      | inl small ↦ subst (λ (b : Bool). Whole s (at_spot s (cond b (Ok x) (Err kind.TooWide)))) (sym (lt-ltb x.0 (2 ^ 128) small)) (f.octets, record { chained = f.chained; few = f.few; sum = f.sum; narrow = small }, f.front)
      | inr big ↦ subst (λ (b : Bool). Whole s (at_spot s (cond b (Ok x) (Err kind.TooWide)))) (sym (le-ltb x.0 (2 ^ 128) big)) (inr (refl, wide_sum x.0 s x.1 f big))
    ]
narrowed s (Err k) f =
    elim f [
      | inl cut ↦ inl (ap (λ (j : Kind). record { kind = j; bit = s.place }) cut.0, record { octets = cut.1.octets; tail = cut.1.tail; parts = cut.1.parts; go_on = cut.1.go_on; few = cut.1.few; short = cut.1.short })
      | inr many ↦ inr (ap (λ (j : Kind). record { kind = j; bit = s.place }) many.0, wide_many s many.1)
    ]

whole : (s : Spot) → Whole s (unsigned_at s)
unfolding unsigned_at narrow_groups_at
whole s = narrowed s (groups_at 19 s) (outcome 19 s)

-- ---- the laws
pub unsigned_spelled : (v : ℕ) (s t : Spot) → unsigned_at s ≡ Ok (v, t) → (octets : List ℕ) × IsUnsigned octets v × Front s (bits octets) t
unsigned_spelled v s t e = subst (Whole s) e (whole s)

pub unsigned_read : (v : ℕ) (os : List ℕ) (s : Spot) (more : List Bool) → IsUnsigned os v → rest s ≡ bits os ++ more → unsigned_at s ≡ Ok (v, moved s (8 * length os))
unfolding unsigned_at narrow_groups_at
unsigned_read v os s more u e =
    let small : v < 2 ^ 128 = u.narrow in
    rw (chain_again 19 os s more u.chained u.few e, u.sum, lt-ltb v (2 ^ 128) small) refl

pub short_when : (s : Spot) → unsigned_at s ≡ fault_at kind.Short s → IsCut (rest s)
short_when s e = elim (subst (Whole s) e (whole s)) [
  | inl cut ↦ cut.1
  | inr wide ↦ absurd (differ (ap (λ (f : Fault). f.kind) wide.0))
]
  where
    differ : kind.Short ≡ kind.TooWide → ⊥
    differ e = cc

pub wide_when : (s : Spot) → unsigned_at s ≡ fault_at kind.TooWide s → IsWide (rest s)
wide_when s e = elim (subst (Whole s) e (whole s)) [
  | inl cut ↦ absurd (differ (ap (λ (f : Fault). f.kind) cut.0))
  | inr wide ↦ wide.1
]
  where
    differ : kind.TooWide ≡ kind.Short → ⊥
    differ e = cc

pub cut_short : (s : Spot) → IsCut (rest s) → unsigned_at s ≡ fault_at kind.Short s
unfolding unsigned_at narrow_groups_at
cut_short s c = rw (cut_again 19 c.octets s c.tail c.go_on c.few c.short c.parts) refl

chain_push : (os : List ℕ) (o : ℕ) → AllGoOn os → o < 128 → IsChained (os ++ o ∷ [])
unfolding AllGoOn IsChained
chain_push [] o h lt = lt
chain_push (p ∷ os) o h lt = chain_more p (os ++ o ∷ []) h.0 h.1 (chain_push os o h.2 lt)

all_push : (os : List ℕ) (o : ℕ) → AllGoOn os → 128 ≤ o → o < 256 → AllGoOn (os ++ o ∷ [])
unfolding AllGoOn
all_push [] o h le lt = (le, lt, tt)
all_push (p ∷ os) o h le lt = (h.0, h.1, all_push os o h.2 le lt)

pub wide_too_wide : (s : Spot) → IsWide (rest s) → unsigned_at s ≡ fault_at kind.TooWide s
unfolding unsigned_at narrow_groups_at
wide_too_wide s w =
    let count : length (w.first ++ w.last ∷ []) ≡ 19 = omega (arith, length-append w.first (w.last ∷ []), w.count) in
    elim (cases_lt w.last 128) [
      | inl small ↦
          let big : 2 ^ 128 ≤ group_sum (w.first ++ w.last ∷ []) = elim w.wide [
            | inl le ↦ absurd (omega arith)
            | inr le ↦ le
          ] in
          rw (chain_again 19 (w.first ++ w.last ∷ []) s w.more (chain_push w.first w.last w.go_on small) (omega arith) w.parts, le-ltb (group_sum (w.first ++ w.last ∷ [])) (2 ^ 128) big) refl
      | inr large ↦ rw (many_again 19 (w.first ++ w.last ∷ []) s w.more (all_push w.first w.last w.go_on large w.octet) count w.parts) refl
    ]

pub unsigned_no_prefix : (v w : ℕ) (os ps : List ℕ) (more : List Bool) → IsUnsigned os v → IsUnsigned ps w → bits os ≡ bits ps ++ more → (v ≡ w) × (os ≡ ps) × (more ≡ [])
unsigned_no_prefix v w os ps more u x e =
    let s : Spot = record { bytes = os; place = 0 } in
    let one : unsigned_at s ≡ Ok (v, moved s (8 * length os)) = unsigned_read v os s [] u (sym (append-nil (bits os))) in
    let two : unsigned_at s ≡ Ok (w, moved s (8 * length ps)) = unsigned_read w ps s more x e in
    let p : (v, moved s (8 * length os)) ≡ (w, moved s (8 * length ps)) = ok_is _ _ (sym one ∙ two) in
    let places : 0 + 8 * length os ≡ 0 + 8 * length ps = ap (λ (q : ℕ × Spot). q.1.place) p in
    let len : 8 * length os ≡ 8 * length ps = omega arith in
    let none : more ≡ [] = nil_from_length more (omega (arith, ap length e, length-append (bits ps) more, length-bits os, length-bits ps)) in
    let same : bits os ≡ bits ps = e ∙ ap (λ (t : List Bool). bits ps ++ t) none ∙ append-nil (bits ps) in (
      ap (λ (q : ℕ × Spot). q.0) p,
      same_bytes os ps (chain_bytes os u.chained) (chain_bytes ps x.chained) same,
      none,
    )

-- ---- the shortest spelling
groups_sum : (most v : ℕ) → v < 2 ^ (7 * most + 2) → (IsChained (groups most v)) × (group_sum (groups most v) ≡ v) × (length (groups most v) ≤ suc most)
unfolding groups IsChained group_sum
groups_sum zero v lt = (omega arith, omega arith, omega arith)
groups_sum (suc most) v lt =
    elim (cases_lt v 128) [
      | inl small ↦ rw (lt-ltb v 128 small) (small, omega arith, omega arith)
      | inr large ↦
          let e : 7 * suc most + 2 ≡ 7 * most + 2 + 7 = omega arith in
          let below : v / 128 < 2 ^ (7 * most + 2) = shr_below v (7 * most + 2) 7 (subst (λ (k : ℕ). v < 2 ^ k) e lt) in
          let h = groups_sum most (v / 128) below in
          rw (le-ltb v 128 large) (chain_more (v % 128 + 128) (groups most (v / 128)) (omega arith) (omega arith) h.0, omega (arith, h.1), omega (arith, h.2))
    ]

pub shortest_spelled : (v : ℕ) → v < 2 ^ 128 → IsUnsigned (shortest v) v
shortest_spelled v lt = let h = groups_sum 18 v lt in record { chained = h.0; few = h.2; sum = h.1; narrow = lt }

fewest : (most v : ℕ) (os : List ℕ) → IsChained os → group_sum os ≡ v → length (groups most v) ≤ length os
unfolding groups IsChained group_sum
fewest most v [] h e = absurd h
fewest zero v (o ∷ os) h e = omega arith
fewest (suc most) v (o ∷ []) h e =
    let small : v < 128 = omega arith in
    rw (lt-ltb v 128 small) (omega arith)
fewest (suc most) v (o ∷ p ∷ os) h e =
    let again : length (groups most (v / 128)) ≤ length (p ∷ os) = fewest most (v / 128) (p ∷ os) h.2 (omega arith) in
    elim (cases_lt v 128) [
      | inl small ↦ rw (lt-ltb v 128 small) (omega arith)
      | inr large ↦ rw (le-ltb v 128 large) (omega arith)
    ]

pub none_shorter : (v : ℕ) (os : List ℕ) → IsUnsigned os v → length (shortest v) ≤ length os
none_shorter v os u = fewest 18 v os u.chained u.sum

pub unsigned_read_back : (v : ℕ) (s : Spot) (before more : List Bool) → v < 2 ^ 128 → bits s.bytes ≡ before ++ bits (shortest v) ++ more → s.place ≡ length before → unsigned_at s ≡ Ok (v, moved s (8 * length (shortest v)))
unsigned_read_back v s before more lt e p = unsigned_read v (shortest v) s more (shortest_spelled v lt) (rest_behind s before (bits (shortest v)) more e p)
