-- Texts whose octets tell that each of their characters is one of XML.
use Rattle.std.proofs.Common.{◌≡◌, ◌≢◌, ℕ, ◌+◌, ◌/◌, ◌<◌, ◌≤◌, Bool, true, false, ◌||◌, List, [], ◌∷◌, ◌++◌, length, get_or, refl, sym, ap, subst, chars, IsUtf8, arith}
use Rattle.std.proofs.lemmas.Bool.{and_parts, cases_lt, le-leb, lt-ltb, le-ltb}
use Rattle.std.proofs.lemmas.List.{get_or_append_left, get_or-append-add, length-append}
use Rattle.std.proofs.Math.Utf8.{encode, encodes, scalar, scalars, scalar_cases}
use Rattle.std.proofs.Math.Logic.{⊎_elim}
use Rattle.std.proofs.Math.Nat.{div-lt_iff_lt-mul}
use Rattle.std.proofs.lemmas.Str.{encodes-chars, scalars-chars}
use Rattle.exi_names.specs.Characters.{between, is_xml_char}
use Rattle.exi_text.specs.Literals.{all_xml}

-- no control, and not the first octet of a character from F000 on that takes three
abbrev pub IsCommon : ℕ → Type 0
IsCommon octet = (0x20 ≤ octet) × (octet ≢ 0xEF)

or_right : (x : Bool) → (x || true) ≡ true
or_right true = refl
or_right false = refl

low_xml : (c : ℕ) → 0x20 ≤ c → c < 0xD800 → is_xml_char c ≡ true
unfolding is_xml_char
low_xml c low high = rw (le-leb 0x20 c low, le-leb c 0xD7FF (omega (arith, high)), or_right (between 0x9 0xA c || between 0xD 0xD c)) refl

middle_xml : (c : ℕ) → 0xE000 ≤ c → c < 0xF000 → is_xml_char c ≡ true
unfolding is_xml_char
middle_xml c low high = rw (le-leb 0xE000 c low, le-leb c 0xFFFD (omega (arith, high)), or_right (between 0x9 0xA c || between 0xD 0xD c || between 0x20 0xD7FF c)) refl

high_xml : (c : ℕ) → 0x1_0000 ≤ c → c < 0x11_0000 → is_xml_char c ≡ true
unfolding is_xml_char
high_xml c low high = rw (le-leb 0x1_0000 c low, le-leb c 0x10_FFFF (omega (arith, high)), or_right (between 0x9 0xA c || between 0xD 0xD c || between 0x20 0xD7FF c || between 0xE000 0xFFFD c)) refl

first_one : (c : ℕ) → c < 128 → get_or (encode c) 0 0 ≡ c
unfolding encode
first_one c h = rw (lt-ltb c 128 h) refl

first_three : (c : ℕ) → 2048 ≤ c → c < 65536 → get_or (encode c) 0 0 ≡ 224 + c / 4096
unfolding encode
first_three c low high = rw (le-ltb c 128 (omega (arith, low)), le-ltb c 2048 low, lt-ltb c 65536 high) refl

-- 15 blocks of 4096 before F000
below_last : (c : ℕ) → c < 65536 → 224 + c / 4096 ≢ 0xEF → c < 0xF000
below_last c h other =
    let k : (c / 4096 < 16) = (div-lt_iff_lt-mul {k = 4096} {x = c} {y = 16} (omega arith)).1 h in
    let j : (c / 4096 ≢ 15) = λ e. other (ap (λ (n : ℕ). 224 + n) e) in
    let i : (c / 4096 < 15) = omega (arith, k, j) in
    (div-lt_iff_lt-mul {k = 4096} {x = c} {y = 15} (omega arith)).0 i

three_xml : (c : ℕ) → 0xE000 ≤ c → c < 65536 → IsCommon (get_or (encode c) 0 0) → is_xml_char c ≡ true
three_xml c low high k =
    middle_xml c low (below_last c high (subst (λ (n : ℕ). n ≢ 0xEF) (first_three c (omega (arith, low)) high) k.1))

upper_xml : (c : ℕ) → 0xE000 ≤ c → c < 0x11_0000 → IsCommon (get_or (encode c) 0 0) → is_xml_char c ≡ true
upper_xml c low high k = ⊎_elim (λ h. three_xml c low h k) (λ h. high_xml c h high) (cases_lt c 65536)

-- a control is one octet, itself
not_control : (c : ℕ) → IsCommon (get_or (encode c) 0 0) → 0x20 ≤ c
not_control c k = ⊎_elim (λ h. subst (λ (n : ℕ). 0x20 ≤ n) (first_one c h) k.0) (λ h. omega (arith, h)) (cases_lt c 128)

one_xml : (c : ℕ) → scalar c ≡ true → IsCommon (get_or (encode c) 0 0) → is_xml_char c ≡ true
one_xml c is k = ⊎_elim (λ h. low_xml c (not_control c k) h) (λ h. upper_xml c h.0 h.1 k) (scalar_cases c is)

some_octet : (c : ℕ) → 0 < length (encode c)
unfolding encode
some_octet c = ⊎_elim (λ h. rw (lt-ltb c 128 h) (omega arith)) (λ h. ⊎_elim (λ i. rw (le-ltb c 128 h, lt-ltb c 2048 i) (omega arith)) (λ i. ⊎_elim (λ j. rw (le-ltb c 128 h, le-ltb c 2048 i, lt-ltb c 65536 j) (omega arith)) (λ j. rw (le-ltb c 128 h, le-ltb c 2048 i, le-ltb c 65536 j) (omega arith)) (cases_lt c 65536)) (cases_lt c 2048)) (cases_lt c 128)

abbrev pub AreCommon : List ℕ → Type 0
AreCommon os = (i : ℕ) → i < length os → IsCommon (get_or os i 0)

first_common : (xs ys : List ℕ) → 0 < length xs → AreCommon (xs ++ ys) → IsCommon (get_or xs 0 0)
first_common xs ys some k = subst IsCommon (get_or_append_left xs ys 0 0 some) (k 0 (let e = length-append xs ys in omega (arith, e, some)))

others_common : (xs ys : List ℕ) → AreCommon (xs ++ ys) → AreCommon ys
others_common xs ys k i lt = subst IsCommon (get_or-append-add xs ys i 0) (k (length xs + i) (let e = length-append xs ys in omega (arith, e, lt)))

all_scalars_xml : (cs : List ℕ) → scalars cs ≡ true → AreCommon (encodes cs) → all_xml cs ≡ true
all_scalars_xml [] is k = refl
all_scalars_xml (c ∷ cs) is k =
    let p = and_parts (scalar c) (scalars cs) is in
    rw (one_xml c p.0 (first_common (encode c) (encodes cs) (some_octet c) k), all_scalars_xml cs p.1 (others_common (encode c) (encodes cs) k)) refl

-- where all octets of a text are so, its characters are all of XML
pub common_xml : (bs : List ℕ) → IsUtf8 bs → AreCommon bs → all_xml (chars bs) ≡ true
common_xml bs utf8 k = all_scalars_xml (chars bs) (scalars-chars bs utf8) (subst AreCommon (sym (encodes-chars bs utf8)) k)
