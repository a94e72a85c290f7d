-- A number, its charge at the number's first bit, and what is read behind it: as of octets, and of a list.
use Rattle.std.proofs.Common.{◌≡◌, ℕ, ◌+◌, ◌≤◌, Bool, true, false, cond, leb, List, [], ◌∷◌, Result, Ok, Err, refl, ap, subst, arith}
use Rattle.std.proofs.lemmas.Bool.{leb-true}
use Rattle.exi_bits.specs.declared.fault.Fault.{Fault}
use Rattle.exi_bits.specs.declared.fault.Kind.TheVariants as kind
use Rattle.exi_bits.specs.Bits.{Spot}
use Rattle.exi_bits.specs.Repeat.{Reader, octets_at}
use Rattle.exi_bits.specs.Unsigned.{◌>>=◌, unsigned_at}
use Rattle.exi_items.specs.Charges.{Charged, text_charge}
use Rattle.exi_meter.specs.Metering.{Bounds, Metering, text_fits, with_text}
use Rattle.exi_names.specs.Seen.{Value}
use Rattle.exi_names.specs.Seen as value
use Rattle.exi_scalar.specs.Scalars.{after_count, binary_at}
use Rattle.exi_tables.specs.Partitions.{Partitions}
use Rattle.exi_typed.specs.Charging.{charging}
use Rattle.exi_typed.specs.Continues.{Continues, ReadsOn}
use Rattle.exi_typed.specs.Limits.{EndsWithin, IsWithin, StaysWithin}
use Rattle.exi_typed.specs.Metered.{IsMetered, Metered}
use Rattle.exi_typed.specs.ReadStates.{ContextReader, Failure, ReadState, at_spot_of, failing}
use Rattle.exi_typed.proofs.ContextItems.{bind_told, charge_is, charged, context, not_failing, read_state, told}
use Rattle.exi_typed.proofs.Goings.{GoesFurther, continues_then, same_keeps}
use Rattle.exi_values.specs.Readings.{octets_value_at}

abbrev pub counted : {Y : Type 0} → Reader ℕ → (ℕ → ContextReader Y) → ContextReader Y
counted one rest c = failing c.context.meter (one c.spot) >>= λ n. failing c.context.meter (text_charge n.0 c.spot.place c.context.meter) >>= λ meter. rest n.0 (read_state n.1 (context meter c.context.tables))

abbrev limit_at : ℕ → Fault
limit_at bit = record { kind = kind.TextLimit; bit = bit }

-- ---- it goes onward
module _ {Y : Type 0} (one : Reader ℕ) (rest : ℕ → ContextReader Y) where
  pub counted_goes : GoesFurther one → ((n : ℕ) → ReadsOn (rest n)) → ReadsOn {X = Y} (λ c. counted one rest c)
  counted_goes f g y c d r =
      let m = c.context.meter in
      let u = bind_told (failing m (one c.spot)) (λ (n : ℕ × Spot). failing m (text_charge n.0 c.spot.place m) >>= λ meter. rest n.0 (read_state n.1 (context meter c.context.tables))) (y, d) r in
      let v = bind_told (failing m (text_charge u.0.0 c.spot.place m)) (λ (meter : Metering). rest u.0.0 (read_state u.0.1 (context meter c.context.tables))) (y, d) u.2 in
      let far = f u.0 c.spot (not_failing m (one c.spot) u.0 u.1) in
      let paid = charge_is u.0.0 c.spot.place m v.0 (not_failing m (text_charge u.0.0 c.spot.place m) v.0 v.1) in
      let there : ReadState = read_state u.0.1 (context v.0 c.context.tables) in
      let on : Continues c there = subst (λ (n : Metering). Continues c (read_state u.0.1 (context n c.context.tables))) paid.1 (record {
        bytes = far.bytes;
        place = far.place;
        units = u.0.0;
        meter = refl;
        within = λ h. leb-true (m.used.text + u.0.0) m.limits.text paid.0;
        keeps = same_keeps c.context.tables;
      }) in
      continues_then c there d on (g u.0.0 y there d v.2)

-- ---- no limit is passed
text_within : (limits : Bounds) (m : Metering) (units : ℕ) → IsWithin limits m → text_fits m units ≡ true → IsWithin limits (with_text m units)
text_within limits m units w fits =
    let le : m.used.text + units ≤ m.limits.text = leb-true (m.used.text + units) m.limits.text fits in
    let same : m.limits.text ≡ limits.text = ap (λ (z : Bounds). z.text) w.same in
    record { same = w.same; events = w.events; text = omega (arith, le, same); depth = w.depth }

pub fine_paying : {X : Type 0} (limits : Bounds) (m : Metering) (units bit : ℕ) (more : Metering → Result (X × ReadState) Failure) → IsWithin limits m → ((n : Metering) → IsWithin limits n → EndsWithin limits (more n))
    → EndsWithin limits (failing m (text_charge units bit m) >>= more)
unfolding text_charge
fine_paying {X} limits m units bit more w f = by_fit (text_fits m units) refl
  where
    by_fit : (b : Bool) → text_fits m units ≡ b → EndsWithin limits (failing m (cond b (Ok (with_text m units)) (Err (limit_at bit))) >>= more)
    by_fit true e = f (with_text m units) (text_within limits m units w e)
    by_fit false e = w

pub fine_behind : {X Y : Type 0} (limits : Bounds) (m : Metering) (r : Result (X × Spot) Fault) (more : X × Spot → Result (Y × ReadState) Failure) → IsWithin limits m → ((x : X × Spot) → EndsWithin limits (more x)) → EndsWithin limits (failing m r >>= more)
fine_behind limits m (Ok x) more w f = f x
fine_behind limits m (Err e) more w f = w

pub counted_within : {Y : Type 0} (one : Reader ℕ) (rest : ℕ → ContextReader Y) → ((n : ℕ) → StaysWithin (rest n)) → StaysWithin {X = Y} (λ c. counted one rest c)
counted_within one rest g limits c w =
    fine_behind limits c.context.meter (one c.spot) (λ (n : ℕ × Spot). failing c.context.meter (text_charge n.0 c.spot.place c.context.meter) >>= λ meter. rest n.0 (read_state n.1 (context meter c.context.tables))) w
    (λ n. fine_paying limits c.context.meter n.0 c.spot.place (λ (meter : Metering). rest n.0 (read_state n.1 (context meter c.context.tables))) w (λ meter k. g n.0 limits (read_state n.1 (context meter c.context.tables)) k))

-- ---- it charges a list of texts
module _ {Y : Type 0} (rest : ℕ → ContextReader Y) (more : (n : ℕ) → IsMetered (rest n)) where
  after_count_metered : (s : Spot) (p : Partitions) (r : Result (ℕ × Spot) Fault) → Metered {X = Y} (λ m. failing m r >>= λ n. failing m (text_charge n.0 s.place m) >>= λ meter. rest n.0 (read_state n.1 (context meter p)))
  unfolding text_charge
  after_count_metered s p (Err f) = record { charges = []; rest = Err f; is = λ m. refl }
  after_count_metered s p (Ok n) = record {
    charges = record { units = n.0; bit = s.place } ∷ (more n.0 n.1 p).charges;
    rest = (more n.0 n.1 p).rest;
    is = λ m. by_fit m (text_fits m n.0);
  }
    where
      by_fit : (m : Metering) (b : Bool) → (failing m (cond b (Ok (with_text m n.0)) (Err (limit_at s.place))) >>= λ meter. rest n.0 (read_state n.1 (context meter p))) ≡ cond b (charging (more n.0 n.1 p).charges (with_text m n.0) (more n.0 n.1 p).rest) (Err (record { fault = limit_at s.place; meter = m }))
      by_fit m true = (more n.0 n.1 p).is (with_text m n.0)
      by_fit m false = refl

  pub counted_metered : (one : Reader ℕ) → IsMetered {X = Y} (λ c. counted one rest c)
  counted_metered one s p = after_count_metered s p (one s)

-- ---- octets
abbrev pub behind_count : Bool → ℕ → ContextReader Value
behind_count hex n c = failing c.context.meter (octets_at n c.spot) >>= λ os. told {X = Value × ReadState} (value.binary hex os.0, at_spot_of c os.1)

abbrev paid : Value × Charged → Result (Value × Charged) Fault
paid p = Ok p

abbrev giving : Partitions → Value × Charged → Result (Value × ReadState) Failure
giving p x = told (x.0, read_state x.1.spot (context x.1.meter p))

pub octets_same : (hex : Bool) (c : ReadState) → octets_value_at hex c ≡ counted unsigned_at (behind_count hex) c
unfolding octets_value_at binary_at text_charge
octets_same hex c = by_count (unsigned_at c.spot)
  where
    m : Metering
    m = c.context.meter

    p : Partitions
    p = c.context.tables

    by_octets : (n : Metering) (r : Result (List ℕ × Spot) Fault) → (failing n (r >>= λ os. paid (value.binary hex os.0, charged os.1 n)) >>= giving p) ≡ (failing n r >>= λ os. told {X = Value × ReadState} (value.binary hex os.0, read_state os.1 (context n p)))
    by_octets n (Ok os) = refl
    by_octets n (Err f) = refl

    by_fit : (n : ℕ × Spot) (b : Bool)
        → (failing (cond b (with_text c.context.meter n.0) c.context.meter) (cond b (Ok (with_text c.context.meter n.0)) (Err (limit_at c.spot.place)) >>= λ k. octets_at n.0 n.1 >>= λ os. paid (value.binary hex os.0, charged os.1 k)) >>= giving c.context.tables)
        ≡ (failing c.context.meter (cond b (Ok (with_text c.context.meter n.0)) (Err (limit_at c.spot.place))) >>= λ k. behind_count hex n.0 (read_state n.1 (context k c.context.tables)))
    by_fit n true = by_octets (with_text c.context.meter n.0) (octets_at n.0 n.1)
    by_fit n false = refl

    by_count : (r : Result (ℕ × Spot) Fault)
        → (failing (after_count c.context.meter r) (r >>= λ n. text_charge n.0 c.spot.place c.context.meter >>= λ k. octets_at n.0 n.1 >>= λ os. paid (value.binary hex os.0, charged os.1 k)) >>= giving c.context.tables)
        ≡ (failing c.context.meter r >>= λ n. failing c.context.meter (text_charge n.0 c.spot.place c.context.meter) >>= λ k. behind_count hex n.0 (read_state n.1 (context k c.context.tables)))
    by_count (Ok n) = by_fit n (text_fits c.context.meter n.0)
    by_count (Err f) = refl
