-- Escapes of a pattern (XML Schema 1.0 Part 2, appendix F.1.1). What is read of a pattern is what it stands for and
-- what is left; or, where it is refused, the number of characters from the refused place on.
use Rattle.std.specs.Prelude.{ℕ, ◌==◌, Bool, true, false, ◌||◌, ◌&&◌, nat_le, if◌then◌else◌, codes, List, [], ◌∷◌, Option, Some, None, Result, Ok, Err}
use Rattle.std.specs.List.{list_any}
use Rattle.exi_digits.specs.Splits.{before, behind, is_mark}
use Rattle.exi_pattern.specs.declared.member.Member.{Member}
use Rattle.exi_pattern.specs.declared.member.Member.TheVariants as kind

infixl 10 ◌>>=◌
abbrev pub ◌>>=◌ : {A B E : Type 0} → Result A E → (A → Result B E) → Result B E
(Ok x) >>= f = f x
(Err e) >>= f = Err e

-- whether it is one of these
abbrev pub is_among : List ℕ → ℕ → Bool
is_among cs c = list_any (λ d. d == c) cs

-- the second letters of a general category
abbrev pub kinds_of : ℕ → List ℕ
kinds_of class =
    if class == 76 then codes "ultmo"
    else if class == 77 then codes "nce"
    else if class == 78 then codes "dlo"
    else if class == 80 then codes "cdseifo"
    else if class == 90 then codes "slp"
    else if class == 83 then codes "mcko"
    else if class == 67 then codes "cfon"
    else []

-- a general category, as `L` or `Lu`
abbrev pub is_category : List ℕ → Bool
is_category (class ∷ []) = is_among (codes "LMNPZSC") class
is_category (class ∷ second ∷ []) = is_among (kinds_of class) second
is_category name = false

-- a letter, a digit or `-`
abbrev pub is_block_char : ℕ → Bool
is_block_char c = (nat_le 97 c && nat_le c 122) || (nat_le 65 c && nat_le c 90) || (nat_le 48 c && nat_le c 57) || (c == 45)

abbrev pub are_block_chars : List ℕ → Bool
are_block_chars [] = true
are_block_chars (c ∷ cs) = is_block_char c && are_block_chars cs

-- `Is` and the name of a block, of one character at least; which blocks there are is not asked
abbrev pub is_block : List ℕ → Bool
is_block (i ∷ s ∷ c ∷ cs) = (i == 73) && (s == 115) && are_block_chars (c ∷ cs)
is_block name = false

-- what an escape of one character stands for: `n`, `r` and `t` for white space, what else has a meaning in a pattern
-- for itself, `s` for white space, and some letters for sets that are not looked up
abbrev pub escaped : ℕ → Option Member
escaped c =
    if c == 110 then Some (kind.Span 10 10)
    else if c == 114 then Some (kind.Span 13 13)
    else if c == 116 then Some (kind.Span 9 9)
    else if is_among (codes "\\|.?*+(){}-[]^") c then Some (kind.Span c c)
    else if c == 115 then Some kind.Spaces
    else if is_among (codes "SiIcCdDwW") c then Some kind.Others
    else None

-- a property, behind `p` or `P`: a category or a block in braces
abbrev pub in_braces : List ℕ → Option (List ℕ) → Option (List ℕ)
in_braces name None = None
in_braces name (Some rest) = if is_category name || is_block name then Some rest else None

abbrev pub property : List ℕ → Option (List ℕ)
property [] = None
property (c ∷ rest) = if c == 123 then in_braces (before (is_mark 125) rest) (behind (is_mark 125) rest) else None

-- what stands behind a `\`, and what is left
abbrev pub of_property : Option (List ℕ) → Option (Member × List ℕ)
of_property None = None
of_property (Some rest) = Some (kind.Others, rest)

abbrev pub of_escaped : Option Member → List ℕ → Option (Member × List ℕ)
of_escaped None rest = None
of_escaped (Some member) rest = Some (member, rest)

unfoldable pub escape : List ℕ → Option (Member × List ℕ)
escape [] = None
escape (c ∷ rest) = if c == 112 || c == 80 then of_property (property rest) else of_escaped (escaped c) rest
