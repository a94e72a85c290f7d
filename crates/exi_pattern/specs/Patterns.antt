-- The characters of a pattern (EXI 1.0, section 7.1.10.1; XML Schema 1.0 Part 2, appendix F): those of all its branches
-- and pieces together. Which branch and which piece makes no difference, so a group is no more than two parentheses
-- that belong together.
use Rattle.std.specs.Prelude.{ℕ, zero, suc, ◌+◌, ◌-◌, ◌==◌, Bool, true, false, ◌||◌, ◌&&◌, not, if◌then◌else◌, codes, List, [], ◌∷◌, length, Option, Some, None, Result, Ok, Err}
use Rattle.exi_names.specs.Characters.{is_xml_char}
use Rattle.exi_pattern.specs.Sets.{Letters, every, with_member}
use Rattle.exi_pattern.specs.declared.member.Member.{Member}
use Rattle.exi_pattern.specs.declared.member.Member.TheVariants as kind
use Rattle.exi_pattern.specs.Escapes.{◌>>=◌, is_among, escape}
use Rattle.exi_pattern.specs.Groups.{group}
use Rattle.exi_pattern.specs.Quantities.{quantity}
use Rattle.exi_pattern.specs.declared.pieces.Reading.{Reading}
use Rattle.exi_pattern.specs.declared.charset.CharSet.{CharSet}
use Rattle.exi_pattern.specs.declared.charset.CharSet.TheVariants as charset

-- on with an atom
abbrev pub with_atom : Reading → Letters → Reading
with_atom r letters = record { open_groups = r.open_groups; atom = true; letters = letters }

-- on without one
abbrev pub without_atom : Reading → ℕ → Reading
without_atom r n = record { open_groups = n; atom = false; letters = r.letters }

-- an escape, where it is one
abbrev pub of_member : Reading → List ℕ → Option (Member × List ℕ) → Result (Reading × List ℕ) ℕ
of_member r at None = Err (length at)
of_member r at (Some x) = Ok (with_atom r (with_member x.0 r.letters), x.1)

-- a character class, where it is one
abbrev pub of_group : Reading → Letters × List ℕ → Reading × List ℕ
of_group r x = (with_atom r x.0, x.1)

-- a character that stands for itself
abbrev pub normal : Reading → ℕ → List ℕ → Result (Reading × List ℕ) ℕ
normal r c rest = if is_xml_char c && not (c == 93 || c == 125) then Ok (with_atom r (with_member (kind.Span c c) r.letters), rest) else Err (length (c ∷ rest))

-- an atom: a class, an escape, any character, or one that stands for itself
unfoldable pub atom_at : Reading → ℕ → List ℕ → Result (Reading × List ℕ) ℕ
atom_at r c rest =
    if c == 91 then (group r.letters rest >>= λ x. Ok (of_group r x))
    else if c == 92 then of_member r (c ∷ rest) (escape rest)
    else if c == 46 then Ok (with_atom r every, rest)
    else normal r c rest

-- a quantifier, behind an atom alone
abbrev pub quantified : Reading → List ℕ → Option (List ℕ) → Result (Reading × List ℕ) ℕ
quantified r at None = Err (length at)
quantified r at (Some rest) = if r.atom then Ok (without_atom r r.open_groups, rest) else Err (length at)

-- a group ends, where one is open
abbrev pub closed : Reading → List ℕ → List ℕ → Result (Reading × List ℕ) ℕ
closed r at rest = if r.open_groups == 0 then Err (length at) else Ok (record { open_groups = r.open_groups - 1; atom = true; letters = r.letters }, rest)

-- one step: a parenthesis, a bar, a quantifier or an atom
unfoldable pub piece : Reading → List ℕ → Result (Reading × List ℕ) ℕ
piece r [] = Err 0
piece r (c ∷ rest) =
    if c == 40 then Ok (without_atom r (r.open_groups + 1), rest)
    else if c == 41 then closed r (c ∷ rest) rest
    else if c == 124 then Ok (without_atom r r.open_groups, rest)
    else if c == 63 || c == 42 || c == 43 then quantified r (c ∷ rest) (Some rest)
    else if c == 123 then quantified r (c ∷ rest) (quantity rest)
    else atom_at r c rest

-- at the end no group is open
abbrev pub ended : Reading → Result Letters ℕ
ended r = if r.open_groups == 0 then Ok r.letters else Err 0

-- the letters of a pattern; there are no more steps than characters
unfoldable pub pieces : ℕ → Reading → List ℕ → Result Letters ℕ
pieces zero r rest = Err (length rest)
pieces (suc n) r [] = ended r
pieces (suc n) r (c ∷ rest) = piece r (c ∷ rest) >>= λ x. pieces n x.0 x.1

-- nothing read yet
abbrev pub at_start : Reading
at_start = record { open_groups = 0; atom = false; letters = Some [] }

-- a set, where there is one
abbrev pub kept : Letters → CharSet
kept None = charset.Any
kept (Some letters) = charset.Set letters

-- the letters, or the place from the front at which the pattern is refused
abbrev pub set_of : List ℕ → Result Letters ℕ → CharSet
set_of text (Ok letters) = kept letters
set_of text (Err left) = charset.Refused (length text - left)

-- the characters of a pattern
unfoldable pub chars_of : List ℕ → CharSet
chars_of text = set_of text (pieces (suc (length text)) at_start text)
