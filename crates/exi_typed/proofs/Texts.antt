-- Texts by their places and texts that are spelled out: spelled and read.
use Rattle.std.proofs.Common.{◌≡◌, ℕ, zero, suc, ◌+◌, ◌-◌, ◌^◌, ◌<◌, ◌≤◌, inl, inr, Bool, true, false, cond, eqb, ltb, List, [], ◌++◌, length, Option, None, refl, sym, ap, ◌∙◌, subst, arith}
use Rattle.std.proofs.lemmas.Bool.{eqb-true, lt-ltb, ltb-true, ne_eqb}
use Rattle.std.proofs.lemmas.List.{append-nil}
use Rattle.std.proofs.lemmas.Option.{slice_get_within}
use Rattle.exi_bits.specs.declared.align.Align.{Align}
use Rattle.exi_bits.specs.declared.align.Align.TheVariants as align
use Rattle.exi_bits.specs.Bits.{number, taken}
use Rattle.exi_bits.specs.declared.fault.Kind.TheVariants as kind
use Rattle.exi_bits.specs.Unsigned.{◌>>=◌, below_at, unsigned_at}
use Rattle.exi_bits.specs.Widths.{width_for}
use Rattle.exi_bits.proofs.BitLaws.{pow_up}
use Rattle.exi_items.specs.Spellings.{SpellsUnsigned}
use Rattle.exi_items.proofs.Items.{item_below, item_unsigned}
use Rattle.exi_names.specs.declared.names.NameId.{NameId}
use Rattle.exi_tables.specs.Partitions.{Partitions, live_at, locals, uris, values, with_local, with_uri, with_value}
use Rattle.exi_text.proofs.Sets.{width_covers}
use Rattle.exi_typed.specs.Charging.{Charge, later, one_charge}
use Rattle.exi_typed.specs.ReadStates.{at_spot_of, failing}
use Rattle.exi_typed.specs.Laws.{Spelling}
use Rattle.exi_typed.specs.Spelled.{IsHit, SpellsIndexed, SpellsLiteral, SpellsLocal, SpellsUri, SpellsValue}
use Rattle.exi_typed.specs.Strings.{Growth, Partition, hit_at, indexed_at, listed, literal_at, local_at, missed_at, own_values, placed_at, uri_at, value_at}
use Rattle.exi_typed.proofs.ContextItems.{BehindValue, Chosen, ContextItem, IsTold, MissedOf, at_start, behind, chosen, in_words, later_one, missed, placed}

-- ---- places
wide : (n : ℕ) (a : Align) → 2 ^ n ≤ 2 ^ taken n a
wide n align.Bits = omega arith
wide n align.Bytes = pow_up n (taken n align.Bytes) (omega arith)

-- what is below a count fits the bits for it
pub below_fits : (count v : ℕ) (a : Align) → v < count → v < 2 ^ taken (width_for count) a
below_fits count v a lt =
    let p = width_covers count in
    let q = wide (width_for count) a in
    omega arith

-- a number of so many bits that is below a count
abbrev pub Below : ℕ → Align → ℕ → ℕ → List Bool → Type 0
Below n a count v text = (ltb v count ≡ true) × ((text ≡ number n a v) × (v < 2 ^ taken n a))

-- ---- a hit
abbrev HitBits : Align → Partition → Spelling (List ℕ)
HitBits a partition = BehindValue (Below (width_for partition.count) a partition.count) (λ place. IsTold (partition.text_at place))

to_hit : (a : Align) (partition : Partition) (x : List ℕ) (w v : Partitions) (ks : List Charge) (text : List Bool) → HitBits a partition x w v ks text → IsHit a partition x w v ks text
to_hit a partition x w v ks text z =
    let h = z.spelled in
    let all : text ≡ h.first = h.parts ∙ ap (λ (t : List Bool). h.first ++ t) h.behind.bits ∙ append-nil h.first in
    record {
      place = z.from;
      within = ltb-true z.from partition.count h.front.0;
      stands = h.behind.stands;
      bits = all ∙ h.front.1.0;
      charges = h.charges ∙ ap (λ (js : List Charge). later (length h.first) js) h.behind.charges ∙ later_one (length x) (length h.first) ∙ ap (λ (t : List Bool). one_charge (length x) (length t)) (sym all);
      after = h.behind.after;
    }

from_hit : (a : Align) (partition : Partition) (x : List ℕ) (w v : Partitions) (ks : List Charge) (text : List Bool) → IsHit a partition x w v ks text → HitBits a partition x w v ks text
from_hit a partition x w v ks text h =
    record {
      from = h.place;
      spelled = record {
        first = text;
        second = [];
        parts = sym (append-nil text);
        owed = one_charge (length x) 0;
        charges = h.charges ∙ sym (later_one (length x) (length text));
        front = (lt-ltb h.place partition.count h.within, (h.bits, below_fits partition.count h.place a h.within));
        behind = record { stands = h.stands; bits = refl; charges = refl; after = h.after };
      };
    }

pub item_hit : (a : Align) (partition : Partition) → ContextItem {X = List ℕ} a (hit_at a partition) (IsHit a partition)
unfolding hit_at
item_hit a partition = in_words a (hit_at a partition) (HitBits a partition) (IsHit a partition) (to_hit a partition) (from_hit a partition)
    (at_start a (λ s p c. failing c.context.meter (below_at partition.count a kind.BadPlace c.spot) >>= λ place. placed_at s (partition.text_at place.0) (at_spot_of c place.1)) (λ w. HitBits a partition)
    (λ s p. behind a (below_at partition.count a kind.BadPlace) (λ place. placed_at s (partition.text_at place)) (Below (width_for partition.count) a partition.count) (λ place. IsTold (partition.text_at place))
    (item_below partition.count a kind.BadPlace) (λ place. placed a s (partition.text_at place))))

-- in a partition of the tables
pub hit_in : (a : Align) (partition : Partitions → Partition) → ContextItem {X = List ℕ} a (λ c. hit_at a (partition c.context.tables) c) (λ x w. IsHit a (partition w) x w)
hit_in a partition = at_start a (λ s p. hit_at a (partition p)) (λ w. IsHit a (partition w)) (λ s p. item_hit a (partition p))

-- ---- a literal
abbrev LiteralBits : Align → Growth → Spelling (List ℕ)
LiteralBits a grow = BehindValue SpellsUnsigned (λ count. MissedOf None a grow count)

to_literal : (a : Align) (grow : Growth) (x : List ℕ) (w v : Partitions) (ks : List Charge) (text : List Bool) → LiteralBits a grow x w v ks text → SpellsLiteral a grow x w v ks text
to_literal a grow x w v ks text z =
    let h = z.spelled in
    record {
      first = h.first;
      second = h.second;
      parts = h.parts;
      owed = h.owed;
      charges = h.charges;
      front = subst (λ (n : ℕ). SpellsUnsigned n h.first) (sym h.behind.long) h.front;
      behind = h.behind.missed;
    }

from_literal : (a : Align) (grow : Growth) (x : List ℕ) (w v : Partitions) (ks : List Charge) (text : List Bool) → SpellsLiteral a grow x w v ks text → LiteralBits a grow x w v ks text
from_literal a grow x w v ks text h = record { from = length x; spelled = record { first = h.first; second = h.second; parts = h.parts; owed = h.owed; charges = h.charges; front = h.front; behind = record { long = refl; missed = h.behind } } }

pub item_literal : (a : Align) (grow : Growth) → ContextItem {X = List ℕ} a (literal_at a grow) (SpellsLiteral a grow)
unfolding literal_at
item_literal a grow = in_words a (literal_at a grow) (LiteralBits a grow) (SpellsLiteral a grow) (to_literal a grow) (from_literal a grow)
    (behind a unsigned_at (missed_at None a grow) SpellsUnsigned (λ count. MissedOf None a grow count) (item_unsigned a) (missed None a grow))

-- ---- a place or a literal
not_zero : (n : ℕ) → eqb n 0 ≡ false → n ≡ n - 1 + 1
not_zero zero e = absurd cc
not_zero (suc n) e = omega arith

abbrev IndexedBits : Align → List (List ℕ) → Growth → Spelling (List ℕ)
IndexedBits a partition grow = BehindValue (Below (width_for (length partition + 1)) a (length partition + 1)) (λ code. Chosen (eqb code 0) (SpellsLiteral a grow) (IsTold (live_at partition (code - 1))))

to_indexed : (a : Align) (partition : List (List ℕ)) (grow : Growth) (x : List ℕ) (w v : Partitions) (ks : List Charge) (text : List Bool) → IndexedBits a partition grow x w v ks text → SpellsIndexed a partition grow x w v ks text
to_indexed a partition grow x w v ks text z = by_code (eqb z.from 0) refl z.spelled.behind
  where
    by_code : (b : Bool) → eqb z.from 0 ≡ b → Chosen b (SpellsLiteral a grow) (IsTold (live_at partition (z.from - 1))) x w v z.spelled.owed z.spelled.second → SpellsIndexed a partition grow x w v ks text
    by_code true e k = inl (record { first = z.spelled.first; second = z.spelled.second; parts = z.spelled.parts; owed = z.spelled.owed; charges = z.spelled.charges; front = z.spelled.front.1.0 ∙ ap (λ (n : ℕ). number (width_for (length partition + 1)) a n) (eqb-true z.from 0 e); behind = k })
    by_code false e k =
        let all : text ≡ z.spelled.first = z.spelled.parts ∙ ap (λ (t : List Bool). z.spelled.first ++ t) k.bits ∙ append-nil z.spelled.first in
        inr (record {
          place = z.from - 1;
          stands = k.stands;
          bits = all ∙ z.spelled.front.1.0 ∙ ap (λ (n : ℕ). number (width_for (length partition + 1)) a n) (not_zero z.from e);
          charges = z.spelled.charges ∙ ap (λ (js : List Charge). later (length z.spelled.first) js) k.charges ∙ later_one (length x) (length z.spelled.first) ∙ ap (λ (t : List Bool). one_charge (length x) (length t)) (sym all);
          after = k.after;
        })

from_indexed : (a : Align) (partition : List (List ℕ)) (grow : Growth) (x : List ℕ) (w v : Partitions) (ks : List Charge) (text : List Bool) → SpellsIndexed a partition grow x w v ks text → IndexedBits a partition grow x w v ks text
from_indexed a partition grow x w v ks text (inl h) = record {
  from = 0;
  spelled = record {
    first = h.first;
    second = h.second;
    parts = h.parts;
    owed = h.owed;
    charges = h.charges;
    front = (lt-ltb 0 (length partition + 1) (omega arith), (h.front, below_fits (length partition + 1) 0 a (omega arith)));
    behind = h.behind;
  };
}
from_indexed a partition grow x w v ks text (inr h) =
    let lt : h.place < length partition = slice_get_within partition h.place x h.stands in
    let back : h.place + 1 - 1 ≡ h.place = omega arith in
    let up : h.place + 1 < length partition + 1 = omega arith in
    let other : eqb (h.place + 1) 0 ≡ false = ne_eqb (h.place + 1) 0 (λ e. omega arith) in
    record {
      from = h.place + 1;
      spelled = record {
        first = text;
        second = [];
        parts = sym (append-nil text);
        owed = one_charge (length x) 0;
        charges = h.charges ∙ sym (later_one (length x) (length text));
        front = (lt-ltb (h.place + 1) (length partition + 1) up, (h.bits, below_fits (length partition + 1) (h.place + 1) a up));
        behind = subst (λ (b : Bool). Chosen b (SpellsLiteral a grow) (IsTold (live_at partition (h.place + 1 - 1))) x w v (one_charge (length x) 0) []) (sym other)
            (record { stands = ap (λ (n : ℕ). live_at partition n) back ∙ h.stands; bits = refl; charges = refl; after = h.after });
      };
    }

pub item_indexed : (a : Align) (partition : List (List ℕ)) (grow : Growth) → ContextItem {X = List ℕ} a (indexed_at a partition grow) (SpellsIndexed a partition grow)
unfolding indexed_at
item_indexed a partition grow = in_words a (indexed_at a partition grow) (IndexedBits a partition grow) (SpellsIndexed a partition grow) (to_indexed a partition grow) (from_indexed a partition grow)
    (at_start a
    (λ s p c. failing c.context.meter (below_at (length partition + 1) a kind.BadPlace c.spot) >>= λ code. cond (eqb code.0 0) (literal_at a grow (at_spot_of c code.1)) (placed_at s (live_at partition (code.0 - 1)) (at_spot_of c code.1)))
    (λ w. IndexedBits a partition grow)
    (λ s p. behind a (below_at (length partition + 1) a kind.BadPlace) (λ code c. cond (eqb code 0) (literal_at a grow c) (placed_at s (live_at partition (code - 1)) c))
    (Below (width_for (length partition + 1)) a (length partition + 1)) (λ code. Chosen (eqb code 0) (SpellsLiteral a grow) (IsTold (live_at partition (code - 1))))
    (item_below (length partition + 1) a kind.BadPlace)
    (λ code. chosen a (eqb code 0) (literal_at a grow) (placed_at s (live_at partition (code - 1))) (SpellsLiteral a grow) (IsTold (live_at partition (code - 1))) (item_literal a grow) (placed a s (live_at partition (code - 1))))))

-- in a partition of the tables
pub indexed_in : (a : Align) (partition : Partitions → List (List ℕ)) (grow : Partitions → Growth) → ContextItem {X = List ℕ} a (λ c. indexed_at a (partition c.context.tables) (grow c.context.tables) c) (λ x w. SpellsIndexed a (partition w) (grow w) x w)
indexed_in a partition grow = at_start a (λ s p. indexed_at a (partition p) (grow p)) (λ w. SpellsIndexed a (partition w) (grow w)) (λ s p. item_indexed a (partition p) (grow p))

pub item_uri : (a : Align) → ContextItem {X = List ℕ} a (uri_at a) (SpellsUri a)
item_uri a = indexed_in a (λ w. uris w) (λ w. with_uri)

-- ---- a local name
abbrev LocalBits : Align → ℕ → Spelling (List ℕ)
LocalBits a uri = BehindValue SpellsUnsigned (λ code. Chosen (eqb code 0) (λ x w. IsHit a (listed (locals w uri)) x w) (MissedOf None a (λ p. with_local p uri) (code - 1)))

to_local : (a : Align) (uri : ℕ) (x : List ℕ) (w v : Partitions) (ks : List Charge) (text : List Bool) → LocalBits a uri x w v ks text → SpellsLocal a uri x w v ks text
to_local a uri x w v ks text z = by_code (eqb z.from 0) refl z.spelled.behind
  where
    by_code : (b : Bool) → eqb z.from 0 ≡ b → Chosen b (λ x w. IsHit a (listed (locals w uri)) x w) (MissedOf None a (λ p. with_local p uri) (z.from - 1)) x w v z.spelled.owed z.spelled.second → SpellsLocal a uri x w v ks text
    by_code true e k = inl (record { first = z.spelled.first; second = z.spelled.second; parts = z.spelled.parts; owed = z.spelled.owed; charges = z.spelled.charges; front = subst (λ (n : ℕ). SpellsUnsigned n z.spelled.first) (eqb-true z.from 0 e) z.spelled.front; behind = k })
    by_code false e k =
        let long : z.from ≡ suc (length x) = omega (arith, not_zero z.from e, k.long) in
        inr (record { first = z.spelled.first; second = z.spelled.second; parts = z.spelled.parts; owed = z.spelled.owed; charges = z.spelled.charges; front = subst (λ (n : ℕ). SpellsUnsigned n z.spelled.first) long z.spelled.front; behind = k.missed })

from_local : (a : Align) (uri : ℕ) (x : List ℕ) (w v : Partitions) (ks : List Charge) (text : List Bool) → SpellsLocal a uri x w v ks text → LocalBits a uri x w v ks text
from_local a uri x w v ks text (inl h) = record { from = 0; spelled = record { first = h.first; second = h.second; parts = h.parts; owed = h.owed; charges = h.charges; front = h.front; behind = h.behind } }
from_local a uri x w v ks text (inr h) =
    let other : eqb (suc (length x)) 0 ≡ false = ne_eqb (suc (length x)) 0 (λ e. omega arith) in
    record {
      from = suc (length x);
      spelled = record {
        first = h.first;
        second = h.second;
        parts = h.parts;
        owed = h.owed;
        charges = h.charges;
        front = h.front;
        behind = subst (λ (b : Bool). Chosen b (λ x w. IsHit a (listed (locals w uri)) x w) (MissedOf None a (λ p. with_local p uri) (suc (length x) - 1)) x w v h.owed h.second) (sym other) (record { long = omega arith; missed = h.behind });
      };
    }

pub item_local : (a : Align) (uri : ℕ) → ContextItem {X = List ℕ} a (local_at a uri) (SpellsLocal a uri)
unfolding local_at
item_local a uri = in_words a (local_at a uri) (LocalBits a uri) (SpellsLocal a uri) (to_local a uri) (from_local a uri)
    (behind a unsigned_at (λ code c. cond (eqb code 0) (hit_at a (listed (locals c.context.tables uri)) c) (missed_at None a (λ p. with_local p uri) (code - 1) c))
    SpellsUnsigned (λ code. Chosen (eqb code 0) (λ x w. IsHit a (listed (locals w uri)) x w) (MissedOf None a (λ p. with_local p uri) (code - 1)))
    (item_unsigned a)
    (λ code. chosen a (eqb code 0) (λ c. hit_at a (listed (locals c.context.tables uri)) c) (missed_at None a (λ p. with_local p uri) (code - 1)) (λ x w. IsHit a (listed (locals w uri)) x w) (MissedOf None a (λ p. with_local p uri) (code - 1))
    (hit_in a (λ w. listed (locals w uri))) (missed None a (λ p. with_local p uri) (code - 1))))

-- ---- a string value
module _ (set : Option (List ℕ)) (a : Align) (name : NameId) where
  abbrev OwnHit : Spelling (List ℕ)
  OwnHit x w = IsHit a (own_values w name) x w

  abbrev AnyHit : Spelling (List ℕ)
  AnyHit x w = IsHit a (listed (values w)) x w

  abbrev Missed : ℕ → Spelling (List ℕ)
  Missed count = MissedOf set a (λ p. with_value p name) count

  abbrev ValueBits : Spelling (List ℕ)
  ValueBits = BehindValue SpellsUnsigned (λ code. Chosen (eqb code 0) OwnHit (Chosen (eqb code 1) AnyHit (Missed (code - 2))))

  to_value : (x : List ℕ) (w v : Partitions) (ks : List Charge) (text : List Bool) → ValueBits x w v ks text → SpellsValue set a name x w v ks text
  to_value x w v ks text z = by_code (eqb z.from 0) (eqb z.from 1) refl refl z.spelled.behind
    where
      front_is : (n : ℕ) → z.from ≡ n → SpellsUnsigned n z.spelled.first
      front_is n e = subst (λ (k : ℕ). SpellsUnsigned k z.spelled.first) e z.spelled.front

      by_code : (b other : Bool) → eqb z.from 0 ≡ b → eqb z.from 1 ≡ other → Chosen b OwnHit (Chosen other AnyHit (Missed (z.from - 2))) x w v z.spelled.owed z.spelled.second → SpellsValue set a name x w v ks text
      by_code true other e f k = inl (record { first = z.spelled.first; second = z.spelled.second; parts = z.spelled.parts; owed = z.spelled.owed; charges = z.spelled.charges; front = front_is 0 (eqb-true z.from 0 e); behind = k })
      by_code false true e f k = inr (inl (record { first = z.spelled.first; second = z.spelled.second; parts = z.spelled.parts; owed = z.spelled.owed; charges = z.spelled.charges; front = front_is 1 (eqb-true z.from 1 f); behind = k }))
      by_code false false e f k =
          let long : z.from ≡ suc (suc (length x)) = above_one z.from (length x) e f k.long in
          inr (inr (record { first = z.spelled.first; second = z.spelled.second; parts = z.spelled.parts; owed = z.spelled.owed; charges = z.spelled.charges; front = front_is (suc (suc (length x))) long; behind = k.missed }))
        where
          above_one : (n k : ℕ) → eqb n 0 ≡ false → eqb n 1 ≡ false → k ≡ n - 2 → n ≡ suc (suc k)
          above_one zero k e f long = absurd cc
          above_one (suc zero) k e f long = absurd cc
          above_one (suc (suc n)) k e f long = omega arith

  from_value : (x : List ℕ) (w v : Partitions) (ks : List Charge) (text : List Bool) → SpellsValue set a name x w v ks text → ValueBits x w v ks text
  from_value x w v ks text (inl h) = record { from = 0; spelled = record { first = h.first; second = h.second; parts = h.parts; owed = h.owed; charges = h.charges; front = h.front; behind = h.behind } }
  from_value x w v ks text (inr (inl h)) = record { from = 1; spelled = record { first = h.first; second = h.second; parts = h.parts; owed = h.owed; charges = h.charges; front = h.front; behind = h.behind } }
  from_value x w v ks text (inr (inr h)) =
      let none : eqb (suc (suc (length x))) 0 ≡ false = ne_eqb (suc (suc (length x))) 0 (λ e. omega arith) in
      let one : eqb (suc (suc (length x))) 1 ≡ false = ne_eqb (suc (suc (length x))) 1 (λ e. omega arith) in
      let missed : MissedOf set a (λ p. with_value p name) (suc (suc (length x)) - 2) x w v h.owed h.second = record { long = omega arith; missed = h.behind } in
      record {
        from = suc (suc (length x));
        spelled = record {
          first = h.first;
          second = h.second;
          parts = h.parts;
          owed = h.owed;
          charges = h.charges;
          front = h.front;
          behind = subst (λ (b : Bool). Chosen b OwnHit (Chosen (eqb (suc (suc (length x))) 1) AnyHit (Missed (suc (suc (length x)) - 2))) x w v h.owed h.second) (sym none)
              (subst (λ (b : Bool). Chosen b AnyHit (Missed (suc (suc (length x)) - 2)) x w v h.owed h.second) (sym one) missed);
        };
      }

  pub item_value : ContextItem {X = List ℕ} a (value_at set a name) (SpellsValue set a name)
  unfolding value_at
  item_value = in_words a (value_at set a name) ValueBits (SpellsValue set a name) to_value from_value
      (behind a unsigned_at
      (λ code c. cond (eqb code 0) (hit_at a (own_values c.context.tables name) c) (cond (eqb code 1) (hit_at a (listed (values c.context.tables)) c) (missed_at set a (λ p. with_value p name) (code - 2) c)))
      SpellsUnsigned (λ code. Chosen (eqb code 0) OwnHit (Chosen (eqb code 1) AnyHit (Missed (code - 2))))
      (item_unsigned a)
      (λ code. chosen a (eqb code 0) (λ c. hit_at a (own_values c.context.tables name) c) (λ c. cond (eqb code 1) (hit_at a (listed (values c.context.tables)) c) (missed_at set a (λ p. with_value p name) (code - 2) c)) OwnHit (Chosen (eqb code 1) AnyHit (Missed (code - 2)))
      (hit_in a (λ w. own_values w name))
      (chosen a (eqb code 1) (λ c. hit_at a (listed (values c.context.tables)) c) (missed_at set a (λ p. with_value p name) (code - 2)) AnyHit (Missed (code - 2)) (hit_in a (λ w. listed (values w))) (missed set a (λ p. with_value p name) (code - 2)))))
