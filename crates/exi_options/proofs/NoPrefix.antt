-- No document is a proper prefix of another, since both are read from the same bits.
use Rattle.std.proofs.Common.{◌≡◌, ℕ, zero, suc, ◌+◌, ◌-◌, ◌*◌, ◌^◌, ◌<◌, ◌≤◌, Bool, false, List, [], ◌∷◌, ◌++◌, length, take, drop, replicate, refl, sym, ap, ◌∙◌, subst, append_assoc, inl, inr, arith}
use Rattle.std.proofs.lemmas.Bool.{cases_lt}
use Rattle.std.proofs.lemmas.List.{append-nil, length-append, length-take, length-drop, length-replicate, nil_from_length, take-append-drop}
use Rattle.exi_bits.specs.Bits.{IsBytes, Spot, bits, moved, number_bits, rest, value_of}
use Rattle.exi_bits.proofs.BitLaws.{number_bits-value_of, value_of_below}
use Rattle.exi_bits.proofs.InBytes.{rest_behind}
use Rattle.exi_items.proofs.Items.{ok_is}
use Rattle.exi_options.specs.declared.table.State.TheVariants as state
use Rattle.exi_options.specs.declared.told.Told.{Told}
use Rattle.exi_options.specs.Reading.{untold}
use Rattle.exi_options.specs.Spelled.{SpellsTold}
use Rattle.exi_options.specs.Laws.{NoneIsPrefix}
use Rattle.exi_options.proofs.SpelledSteps.{codes_again}
use Rattle.exi_options.proofs.Steps.{left_to_come}

-- bytes that begin with the bits
record Packed (text : List Bool) : Type 0 where
  bytes : List ℕ
  pad : List Bool
  parts : bits bytes ≡ text ++ pad
  fits : IsBytes bytes

one_fits : (o : ℕ) (os : List ℕ) → o < 256 → IsBytes os → IsBytes (o ∷ os)
one_fits o os lt fits zero = lt
one_fits o os lt fits (suc i) = fits i

none_fits : IsBytes []
none_fits i = omega arith

eight_bits : (text : List Bool) → length text ≡ 8 → number_bits 8 (value_of text) ≡ text
eight_bits text e = subst (λ (n : ℕ). number_bits n (value_of text) ≡ text) e (number_bits-value_of text)

eight_below : (text : List Bool) → length text ≡ 8 → value_of text < 256
eight_below text e = subst (λ (n : ℕ). value_of text < 2 ^ n) e (value_of_below text)

pack : (n : ℕ) (text : List Bool) → length text ≤ 8 * n → Packed text
unfolding bits
pack zero text le = record { bytes = []; pad = []; parts = sym (append-nil text ∙ nil_from_length text (omega arith)); fits = none_fits }
pack (suc n) text le = elim (cases_lt (length text) 8) [
  | inl short ↦
      let all : List Bool = text ++ replicate (8 - length text) false in
      let e : length all ≡ 8 = omega (arith, length-append text (replicate (8 - length text) false), length-replicate (8 - length text) false) in
      record {
        bytes = value_of all ∷ [];
        pad = replicate (8 - length text) false;
        parts = append-nil (number_bits 8 (value_of all)) ∙ eight_bits all e;
        fits = one_fits (value_of all) [] (eight_below all e) none_fits;
      }
  | inr long ↦
      let p = pack n (drop 8 text) (omega (arith, length-drop 8 text)) in
      let e : length (take 8 text) ≡ 8 = omega (arith, length-take 8 text) in
      record {
        bytes = value_of (take 8 text) ∷ p.bytes;
        pad = p.pad;
        parts = ap (λ (x : List Bool). x ++ bits p.bytes) (eight_bits (take 8 text) e) ∙ ap (λ (x : List Bool). take 8 text ++ x) p.parts ∙ sym (append_assoc (take 8 text) (drop 8 text) p.pad) ∙ ap (λ (x : List Bool). x ++ p.pad) (take-append-drop 8 text);
        fits = one_fits (value_of (take 8 text)) p.bytes (eight_below (take 8 text) e) p.fits;
      }
]

pub no_prefix : NoneIsPrefix
no_prefix bit told other text shorter more p q e =
    let front = replicate bit false in
    let k = pack (length (front ++ text)) (front ++ text) (omega arith) in
    let s : Spot = record { bytes = k.bytes; place = bit } in
    let at : bit ≡ length front = sym (length-replicate bit false) in
    let r1 : rest s ≡ text ++ k.pad = rest_behind s front text k.pad k.parts at in
    let r2 : rest s ≡ shorter ++ (more ++ k.pad) = r1 ∙ ap (λ (z : List Bool). z ++ k.pad) e ∙ append_assoc shorter more k.pad in
    let one = codes_again (left_to_come state.Document s) p.codes state.Document untold told s text k.pad (omega arith) k.fits p.spelled r1 in
    let two = codes_again (left_to_come state.Document s) q.codes state.Document untold other s shorter (more ++ k.pad) (omega arith) k.fits q.spelled r2 in
    let same : (told, moved s (length text)) ≡ (other, moved s (length shorter)) = ok_is (told, moved s (length text)) (other, moved s (length shorter)) (sym one ∙ two) in
    let places : bit + length text ≡ bit + length shorter = ap (λ (w : Told × Spot). w.1.place) same in (
      ap (λ (w : Told × Spot). w.0) same,
      nil_from_length more (omega (arith, places, ap (λ (z : List Bool). length z) e, length-append shorter more)),
    )
