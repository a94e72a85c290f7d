-- Texts of graphic characters of ASCII, as all canonical texts are but those of strings and lists.
use Rattle.std.proofs.Common.{◌≡◌, ℕ, zero, suc, ◌+◌, ◌*◌, ◌/◌, ◌%◌, ◌<◌, Bool, true, false, ◌&&◌, nat_lt, List, [], ◌∷◌, ◌++◌, refl, arith}
use Rattle.std.proofs.lemmas.Bool.{and_parts}
use Rattle.std.proofs.lemmas.Bool.Decides.{nat_tests}
use Rattle.std.proofs.lemmas.Str.{encodes-IsAscii}
use Rattle.std.specs.Prelude.{slice_index}
use lib.Utf8.{encodes}
use Rattle.exi_calendar.specs.Forms.{all_visible}
use Rattle.exi_lexical.specs.Spaces.{all_ascii, has_no_space, is_space}
use Rattle.exi_lexical.specs.Binaries.{base64_sign, base64_text, hex_sign, hex_text}
use Rattle.exi_lexical.specs.Values.{binary_text, boolean_text}
use Rattle.exi_lexical.proofs.Tables.{all_below, at_below}

abbrev pub is_graphic : ℕ → Bool
is_graphic c = nat_lt 32 c && nat_lt c 127

abbrev pub all_graphic : List ℕ → Bool
all_graphic cs = all_visible cs

pub graphic_append : (xs ys : List ℕ) → all_graphic xs ≡ true → all_graphic ys ≡ true → all_graphic (xs ++ ys) ≡ true
graphic_append [] ys h k = k
graphic_append (x ∷ xs) ys h k =
    let p = and_parts (is_graphic x) (all_graphic xs) h in
    rw (p.0, graphic_append xs ys p.1 k) refl

graphic_below : (c : ℕ) → is_graphic c ≡ true → c < 128
graphic_below c h = grind (arith, nat_tests)

graphic_other : (c : ℕ) → is_graphic c ≡ true → is_space c ≡ false
unfolding is_space
graphic_other c h = grind (arith, nat_tests)

pub graphic_ascii : (cs : List ℕ) → all_graphic cs ≡ true → all_ascii cs ≡ true
graphic_ascii [] h = refl
graphic_ascii (c ∷ cs) h =
    let p = and_parts (is_graphic c) (all_graphic cs) h in
    let first = graphic_below c p.0 in
    let rest = graphic_ascii cs p.1 in
    grind (arith, nat_tests)

pub graphic_solid : (cs : List ℕ) → all_graphic cs ≡ true → has_no_space cs ≡ true
graphic_solid [] h = refl
graphic_solid (c ∷ cs) h =
    let p = and_parts (is_graphic c) (all_graphic cs) h in
    rw (graphic_other c p.0, graphic_solid cs p.1) refl

below_all : (cs : List ℕ) → all_graphic cs ≡ true → (i : ℕ) → slice_index cs i < 128
below_all [] h i = omega arith
below_all (c ∷ cs) h zero = graphic_below c (and_parts (is_graphic c) (all_graphic cs) h).0
below_all (c ∷ cs) h (suc i) = below_all cs (and_parts (is_graphic c) (all_graphic cs) h).1 i

pub graphic_bytes : (cs : List ℕ) → all_graphic cs ≡ true → encodes cs ≡ cs
graphic_bytes cs h = encodes-IsAscii cs (below_all cs h)

-- ---- booleans and octets
pub graphic_boolean : (truth digit : Bool) → all_graphic (boolean_text truth digit) ≡ true
graphic_boolean true true = refl
graphic_boolean true false = refl
graphic_boolean false true = refl
graphic_boolean false false = refl

hex_sign_graphic : (n : ℕ) → n < 16 → is_graphic (hex_sign n) ≡ true
unfolding all_below
hex_sign_graphic n lt = at_below (λ k. is_graphic (hex_sign k)) 16 n refl lt

base64_sign_graphic : (n : ℕ) → n < 64 → is_graphic (base64_sign n) ≡ true
unfolding all_below
base64_sign_graphic n lt = at_below (λ k. is_graphic (base64_sign k)) 64 n refl lt

graphic_hex : (os : List ℕ) → ((i : ℕ) → slice_index os i < 256) → all_graphic (hex_text os) ≡ true
unfolding hex_text
graphic_hex [] fits = refl
graphic_hex (o ∷ os) fits =
    let lt : o < 256 = fits 0 in
    rw (hex_sign_graphic (o / 16) (omega arith), hex_sign_graphic (o % 16) (omega arith), graphic_hex os (λ i. fits (suc i))) refl

graphic_base64 : (os : List ℕ) → ((i : ℕ) → slice_index os i < 256) → all_graphic (base64_text os) ≡ true
unfolding base64_text
graphic_base64 [] fits = refl
graphic_base64 (a ∷ []) fits =
    let la : a < 256 = fits 0 in
    rw (base64_sign_graphic (a / 4) (omega arith), base64_sign_graphic (a % 4 * 16) (omega arith)) refl
graphic_base64 (a ∷ b ∷ []) fits =
    let la : a < 256 = fits 0 in
    let lb : b < 256 = fits 1 in
    rw (base64_sign_graphic (a / 4) (omega arith), base64_sign_graphic (a % 4 * 16 + b / 16) (omega arith), base64_sign_graphic (b % 16 * 4) (omega arith)) refl
graphic_base64 (a ∷ b ∷ c ∷ os) fits =
    let la : a < 256 = fits 0 in
    let lb : b < 256 = fits 1 in
    let lc : c < 256 = fits 2 in
    rw (
      base64_sign_graphic (a / 4) (omega arith),
      base64_sign_graphic (a % 4 * 16 + b / 16) (omega arith),
      base64_sign_graphic (b % 16 * 4 + c / 64) (omega arith),
      base64_sign_graphic (c % 64) (omega arith),
      graphic_base64 os (λ i. fits (suc (suc (suc i)))),
    ) refl

pub graphic_binary : (hex : Bool) (os : List ℕ) → ((i : ℕ) → slice_index os i < 256) → all_graphic (binary_text hex os) ≡ true
graphic_binary true os fits = graphic_hex os fits
graphic_binary false os fits = graphic_base64 os fits
