-- No spelling is a proper prefix of another, since both are read from the same bits.
use Rattle.std.proofs.Common.{◌≡◌, ℕ, zero, suc, ◌+◌, ◌-◌, ◌*◌, ◌^◌, ◌<◌, ◌≤◌, Bool, false, List, [], ◌∷◌, ◌++◌, length, take, drop, replicate, refl, sym, ap, ◌∙◌, subst, append_assoc, inl, inr, arith}
use Rattle.std.proofs.lemmas.Bool.{cases_lt}
use Rattle.std.proofs.lemmas.List.{append-nil, length-append, length-take, length-drop, length-replicate, nil_from_length, take-append-drop}
use Rattle.exi_bits.specs.declared.align.Align.{Align}
use Rattle.exi_bits.specs.Bits.{Spot, IsBytes, bits, moved, number_bits, value_of}
use Rattle.exi_bits.specs.Repeat.{Reader}
use Rattle.exi_bits.proofs.BitLaws.{number_bits-value_of, value_of_below}
use Rattle.exi_items.specs.Laws.{NoneIsPrefix, ReadIsSpelled, SpelledIsRead}
use Rattle.exi_items.proofs.Items.{Item, ok_is}

-- bytes that begin with the bits
pub record Packed (text : List Bool) : Type 0 where
  pub bytes : List ℕ
  pub pad : List Bool
  pub parts : bits bytes ≡ text ++ pad
  pub fits : IsBytes bytes

one_fits : (o : ℕ) (os : List ℕ) → o < 256 → IsBytes os → IsBytes (o ∷ os)
one_fits o os lt fits zero = lt
one_fits o os lt fits (suc i) = fits i

none_fits : IsBytes []
none_fits i = omega arith

eight_bits : (text : List Bool) → length text ≡ 8 → number_bits 8 (value_of text) ≡ text
eight_bits text e = subst (λ (n : ℕ). number_bits n (value_of text) ≡ text) e (number_bits-value_of text)

eight_below : (text : List Bool) → length text ≡ 8 → value_of text < 256
eight_below text e = subst (λ (n : ℕ). value_of text < 2 ^ n) e (value_of_below text)

pack : (n : ℕ) (text : List Bool) → length text ≤ 8 * n → Packed text
unfolding bits
pack zero text le = record { bytes = []; pad = []; parts = sym (append-nil text ∙ nil_from_length text (omega arith)); fits = none_fits }
pack (suc n) text le = elim (cases_lt (length text) 8) [
  | inl short ↦
      let all : List Bool = text ++ replicate (8 - length text) false in
      let e : length all ≡ 8 = omega (arith, length-append text (replicate (8 - length text) false), length-replicate (8 - length text) false) in
      record {
        bytes = value_of all ∷ [];
        pad = replicate (8 - length text) false;
        parts = append-nil (number_bits 8 (value_of all)) ∙ eight_bits all e;
        fits = one_fits (value_of all) [] (eight_below all e) none_fits;
      }
  | inr long ↦
      let p = pack n (drop 8 text) (omega (arith, length-drop 8 text)) in
      let e : length (take 8 text) ≡ 8 = omega (arith, length-take 8 text) in
      record {
        bytes = value_of (take 8 text) ∷ p.bytes;
        pad = p.pad;
        parts = ap (λ (x : List Bool). x ++ bits p.bytes) (eight_bits (take 8 text) e) ∙ ap (λ (x : List Bool). take 8 text ++ x) p.parts ∙ sym (append_assoc (take 8 text) (drop 8 text) p.pad) ∙ ap (λ (x : List Bool). x ++ p.pad) (take-append-drop 8 text);
        fits = one_fits (value_of (take 8 text)) p.bytes (eight_below (take 8 text) e) p.fits;
      }
]

pub item_no_prefix : {X : Type 0} (a : Align) (read : Reader X) (Spells : X → List Bool → Type 0) → Item a read Spells → (x y : X) (text other more : List Bool) → Spells x text → Spells y other → text ≡ other ++ more → (x ≡ y) × (more ≡ [])
item_no_prefix {X} a read Spells item x y text other more p q e =
    let k = pack (length text) text (omega arith) in
    let s : Spot = record { bytes = k.bytes; place = 0 } in
    let one = item.again x text s k.pad k.fits (λ e. refl) p k.parts in
    let two = item.again y other s (more ++ k.pad) k.fits (λ e. refl) q (k.parts ∙ ap (λ (z : List Bool). z ++ k.pad) e ∙ append_assoc other more k.pad) in
    let same : (x, moved s (length text)) ≡ (y, moved s (length other)) = ok_is (x, moved s (length text)) (y, moved s (length other)) (sym one ∙ two) in
    let places : 0 + length text ≡ 0 + length other = ap (λ (w : X × Spot). w.1.place) same in (
      ap (λ (w : X × Spot). w.0) same,
      nil_from_length more (omega (arith, ap length e, length-append other more)),
    )

-- the three laws of an item
pub is_spelled : {X : Type 0} (read : Align → Reader X) (Spells : Align → X → List Bool → Type 0) → ((a : Align) → Item a (read a) (Spells a)) → ReadIsSpelled Spells read
is_spelled read Spells item a x s t fits al r = let k = (item a).takes x s t fits al r in (k.text, k.spelled, k.front)

pub is_read : {X : Type 0} (read : Align → Reader X) (Spells : Align → X → List Bool → Type 0) → ((a : Align) → Item a (read a) (Spells a)) → SpelledIsRead Spells read
is_read read Spells item a x text s more fits al p e = (item a).again x text s more fits al p e

pub no_prefix : {X : Type 0} (read : Align → Reader X) (Spells : Align → X → List Bool → Type 0) → ((a : Align) → Item a (read a) (Spells a)) → NoneIsPrefix Spells
no_prefix read Spells item a x y text other more p q e = item_no_prefix a (read a) (Spells a) (item a) x y text other more p q e
