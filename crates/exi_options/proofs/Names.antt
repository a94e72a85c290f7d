-- The schema's name within the limits of a stream.
use Rattle.std.proofs.Common.{◌≡◌, ℕ, ◌+◌, ◌^◌, ◌≤◌, leb, true, List, Option, None, Result, Ok, Err, refl, sym, ap, ◌∙◌, arith}
use Rattle.std.proofs.lemmas.Bool.{le-leb}
use Rattle.exi_bits.specs.declared.align.Align.{Align}
use Rattle.exi_bits.specs.declared.fault.Fault.{Fault}
use Rattle.exi_bits.specs.Bits.{Spot}
use Rattle.exi_bits.specs.Repeat.{times}
use Rattle.exi_bits.specs.declared.fault.Stop.{Stop}
use Rattle.exi_bits.specs.declared.fault.Stop.TheVariants as stop
use Rattle.exi_bits.specs.Unsigned.{◌>>=◌, Stops}
use Rattle.exi_items.specs.Charges.{Charged, Charges, text_charge}
use Rattle.exi_meter.specs.Metering.{Metering, nothing_used, stream_bounds, with_text}
use Rattle.exi_text.specs.Literals.{char_at, chars_at}

abbrev pub fresh : Metering
fresh = nothing_used stream_bounds

abbrev pub charged_spot : Spot → Charged
charged_spot s = record { spot = s; meter = fresh }

-- so few characters pass no limit, so that reading them is all that is done
pub few_pass : (a : Align) (count : ℕ) (s : Spot) → count ≤ 65536 → chars_at None a count (charged_spot s) ≡ (times (char_at None a) count s >>= λ text. Ok (text.0, record { spot = text.1; meter = with_text fresh count }))
unfolding chars_at text_charge
few_pass a count s le =
    let fits : leb (0 + count) (2 ^ 28) ≡ true = le-leb (0 + count) (2 ^ 28) (omega arith) in
    rw fits refl

abbrev pub read_text : List ℕ × Spot → Result (List ℕ × Spot) Fault
read_text p = Ok p

abbrev pub given_text : List ℕ × Charged → Result (List ℕ × Charged) Fault
given_text p = Ok p

text_is : (p q : List ℕ × Charged) → given_text p ≡ given_text q → p ≡ q
text_is p q e = cc

-- what was read with the charge is what is read
pub charged_ok : (r : Result (List ℕ × Spot) Fault) (m n : Metering) (t : List ℕ) (s : Spot) → (r >>= λ text. given_text (text.0, record { spot = text.1; meter = m })) ≡ given_text (t, record { spot = s; meter = n }) → r ≡ read_text (t, s)
charged_ok (Err f) m n t s e = absurd cc
charged_ok (Ok p) m n t s e =
    let h = text_is (p.0, record { spot = p.1; meter = m }) (t, record { spot = s; meter = n }) e in
    let one : p.0 ≡ t = ap (λ (w : List ℕ × Charged). w.0) h in
    let two : p.1 ≡ s = ap (λ (w : List ℕ × Charged). w.1.spot) h in
    rw (one, two) refl

pub charged_err : (r : Result (List ℕ × Spot) Fault) (m : Metering) (f : Fault) → (r >>= λ text. given_text (text.0, record { spot = text.1; meter = m })) ≡ Err f → r ≡ Err f
charged_err (Err g) m f e = cc
charged_err (Ok p) m f e = absurd cc

-- what a call answers that reads with the charge, as what it answers without
pub stops_of : (r : Result (List ℕ) Stop) (a : Align) (count : ℕ) (s t : Spot) (m n : Metering) → count ≤ 65536 → n ≡ fresh → Charges {X = List ℕ} {Y = List ℕ} (λ x. x) r t m (chars_at None a count (record { spot = s; meter = n })) → Stops {X = List ℕ} {Y = List ℕ} (λ x. x) r t (times (char_at None a) count s)
stops_of (Ok x) a count s t m n le new h =
    let same = ap (λ (k : Metering). chars_at None a count (record { spot = s; meter = k })) (sym new) in
    charged_ok (times (char_at None a) count s) (with_text fresh count) m x t (sym (few_pass a count s le) ∙ same ∙ h)
stops_of (Err stop.Memory) a count s t m n le new h = tt
stops_of (Err (stop.Fault f)) a count s t m n le new h =
    let same = ap (λ (k : Metering). chars_at None a count (record { spot = s; meter = k })) (sym new) in
    charged_err (times (char_at None a) count s) (with_text fresh count) f (sym (few_pass a count s le) ∙ same ∙ h)
