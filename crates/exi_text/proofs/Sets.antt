-- Places in a sorted set, the width of a place, and characters that are written one after another.
use Rattle.std.proofs.Common.{◌≡◌, ℕ, ◌+◌, ◌^◌, ◌<◌, ◌≤◌, Bool, true, false, leb, ◌||◌, List, [], ◌∷◌, ◌++◌, length, Option, Some, Ok, refl, sym, arith}
use Rattle.std.proofs.lemmas.Bool.{and_parts, leb-true}
use Rattle.exi_bits.specs.declared.align.Align.{Align}
use Rattle.exi_bits.specs.Widths.{width_for}
use Rattle.exi_bits.proofs.WidthLaws.{width_least}
use Rattle.exi_bits.specs.Bits.{Spot}
use Rattle.exi_bits.specs.Repeat.{times}
use Rattle.exi_items.specs.Charges.{text_charge}
use Rattle.exi_meter.specs.Metering.{Metering}
use Rattle.exi_names.specs.Alphabets.{place_of}
use Rattle.exi_names.specs.Characters.{between, is_xml_char}
use Rattle.exi_names.proofs.Places.{place_is}
use Rattle.exi_text.specs.Literals.{char_bits, chars_at, chars_bits, width_in}

-- ---- characters of XML
pub either : (x y : Bool) (P : Type 0) → (x ≡ true → P) → (y ≡ true → P) → (x || y) ≡ true → P
either true y P f g h = f refl
either false y P f g h = g h

pub at_most : (least most c : ℕ) → between least most c ≡ true → c ≤ most
at_most least most c h = leb-true c most (and_parts (leb least c) (leb c most) h).1

pub xml_last : (c : ℕ) → is_xml_char c ≡ true → c < 1114112
unfolding is_xml_char
xml_last c h = either _ _ (c < 1114112) (either _ _ (c < 1114112) (either _ _ (c < 1114112) (either _ _ (c < 1114112)
    (λ e. let k = at_most 0x9 0xA c e in omega arith)
    (λ e. let k = at_most 0xD 0xD c e in omega arith))
    (λ e. let k = at_most 0x20 0xD7FF c e in omega arith))
    (λ e. let k = at_most 0xE000 0xFFFD c e in omega arith))
    (λ e. let k = at_most 0x1_0000 0x10_FFFF c e in omega arith) h

-- ---- the width of a place
pub width_covers : (count : ℕ) → count ≤ 2 ^ width_for count
width_covers count = (width_least count).0

-- a place or the escape fits the width
pub place_fits : (set : List ℕ) (i : ℕ) → i ≤ length set → i < 2 ^ width_in set
place_fits set i le = let h = width_covers (length set + 1) in omega arith

pub found_fits : (c : ℕ) (set : List ℕ) (i : ℕ) → Some i ≡ place_of c set → i < 2 ^ width_in set
found_fits c set i e = let p = place_is c set i (sym e) in place_fits set i (omega (arith, p.0))

-- ---- one character after another
pub next_chars : (set : Option (List ℕ)) (a : Align) (text more : List ℕ) (c : ℕ) → text ≡ c ∷ more → chars_bits set a text ≡ char_bits set a c ++ chars_bits set a more
unfolding chars_bits
next_chars set a text more c e = rw e refl

pub no_chars : (set : Option (List ℕ)) (a : Align) (text : List ℕ) → text ≡ [] → chars_bits set a text ≡ []
unfolding chars_bits
no_chars set a text e = rw e refl

-- none are read where there are none
pub no_chars_at : (set : Option (List ℕ)) (a : Align) (count : ℕ) (s : Spot) (old new : Metering) → count ≡ 0 → text_charge count s.place old ≡ Ok new → chars_at set a count (record { spot = s; meter = old }) ≡ Ok ([], record { spot = s; meter = new })
unfolding chars_at times
no_chars_at set a count s old new none paid = rw (paid, none) refl
