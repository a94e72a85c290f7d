-- Sets of characters that grow (EXI 1.0, section 7.1.10.1): sorted by code point, or given up where they hold 256
-- characters or more, or one past FFFF.
use Rattle.std.specs.Prelude.{◌≡◌, ℕ, zero, suc, ◌-◌, ◌<◌, ◌==◌, true, Bool, ◌&&◌, nat_lt, nat_le, if◌then◌else◌, List, [], ◌∷◌, length, Option, Some, None}
use Rattle.exi_names.specs.Alphabets.{is_alphabet}
use Rattle.exi_names.specs.Characters.{is_xml_char}
use Rattle.exi_pattern.specs.declared.member.Member.{Member}
use Rattle.exi_pattern.specs.declared.member.Member.TheVariants as kind

-- the characters, or none where any character may stand
abbrev pub Letters : Type 0
Letters = Option (List ℕ)

-- any character
abbrev pub every : Letters
every = None

-- the characters with this one at its place among them
abbrev pub with_char : ℕ → List ℕ → List ℕ
with_char c [] = c ∷ []
with_char c (d ∷ ds) = if nat_lt c d then c ∷ d ∷ ds else if c == d then d ∷ ds else d ∷ with_char c ds

-- given up where they are 256 or more
abbrev pub if_few : List ℕ → Letters
if_few cs = if nat_lt (length cs) 256 then Some cs else every

-- with one character more; past FFFF it is given up
abbrev pub with_letter : ℕ → Letters → Letters
with_letter c None = every
with_letter c (Some cs) = if nat_le c 0xFFFF then if_few (with_char c cs) else every

-- sorted, fewer than 256
abbrev pub AreLetters : Letters → Type 0
AreLetters None = Unit {0}
AreLetters (Some cs) = (is_alphabet cs ≡ true) × (length cs < 256)

-- with the character of this code, where it is one of XML
abbrev pub with_code : ℕ → Letters → Letters
with_code code letters = if is_xml_char code then with_letter code letters else letters

-- with the characters of so many codes from `first` on
abbrev pub with_codes : ℕ → ℕ → Letters → Letters
with_codes first zero letters = letters
with_codes first (suc more) letters = with_codes (suc first) more (with_code first letters)

-- with what that stands for
abbrev pub with_member : Member → Letters → Letters
with_member (kind.Span first last) letters = with_codes first (suc last - first) letters
with_member kind.Spaces letters = with_codes 32 1 (with_codes 13 1 (with_codes 9 2 letters))
with_member kind.Others letters = every
