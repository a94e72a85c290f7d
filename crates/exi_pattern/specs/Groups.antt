-- Character class expressions of a pattern, as `[a-z_]` (XML Schema 1.0 Part 2, appendix F.1).
use Rattle.std.specs.Prelude.{ℕ, zero, suc, ◌==◌, Bool, true, false, ◌||◌, ◌&&◌, not, nat_le, if◌then◌else◌, codes, List, [], ◌∷◌, length, Option, Some, None, Result, Ok, Err}
use Rattle.exi_names.specs.Characters.{is_xml_char}
use Rattle.exi_pattern.specs.Sets.{Letters, every, with_member}
use Rattle.exi_pattern.specs.declared.member.Member.{Member}
use Rattle.exi_pattern.specs.declared.member.Member.TheVariants as kind
use Rattle.exi_pattern.specs.Escapes.{◌>>=◌, is_among, escape}

-- it is read, or refused at its first character
abbrev pub or_refused : List ℕ → Option (Member × List ℕ) → Result (Member × List ℕ) ℕ
or_refused at None = Err (length at)
or_refused at (Some x) = Ok x

-- a character that stands for itself in a group: of XML, and none of `\`, `-`, `[`, `]`
abbrev pub is_group_char : ℕ → Bool
is_group_char c = is_xml_char c && not (is_among (codes "\\-[]") c)

-- one character, or an escape
unfoldable pub single : List ℕ → Result (Member × List ℕ) ℕ
single [] = Err 0
single (c ∷ rest) =
    if c == 92 then or_refused (c ∷ rest) (escape rest)
    else if is_group_char c then Ok (kind.Span c c, rest)
    else Err (length (c ∷ rest))

-- a range's last character is not below its first
abbrev pub range : ℕ → List ℕ → Member × List ℕ → Result (Member × List ℕ) ℕ
range first at (kind.Span last same, rest) = if nat_le first last then Ok (kind.Span first last, rest) else Err (length at)
range first at (kind.Spaces, rest) = Err (length at)
range first at (kind.Others, rest) = Err (length at)

abbrev pub range_at : ℕ → List ℕ → Result (Member × List ℕ) ℕ
range_at first at = single at >>= range first at

-- a `-` behind a character goes on to a range, but before `]`, where it stands for itself, before `[`, where it is
-- refused, and at the end
abbrev pub is_range : List ℕ → Bool
is_range (dash ∷ c ∷ rest) = (dash == 45) && not (c == 91 || c == 93)
is_range rest = false

abbrev pub behind_one : List ℕ → List ℕ
behind_one [] = []
behind_one (c ∷ rest) = rest

abbrev pub ranged : Member × List ℕ → Result (Member × List ℕ) ℕ
ranged (kind.Span first same, rest) = if is_range rest then range_at first (behind_one rest) else Ok (kind.Span first same, rest)
ranged (kind.Spaces, rest) = Ok (kind.Spaces, rest)
ranged (kind.Others, rest) = Ok (kind.Others, rest)

-- whether the group ends here
abbrev pub closes : List ℕ → Bool
closes [] = false
closes (c ∷ rest) = c == 93

-- one character, escape or range. `-` stands for itself first and last in a group; elsewhere it is refused, and so with
-- it is what is taken away, as in `[a-z-[x]]`.
unfoldable pub member : Bool → List ℕ → Result (Member × List ℕ) ℕ
member first [] = Err 0
member first (c ∷ rest) =
    if c == 45 then (if first || closes rest then Ok (kind.Span 45 45, rest) else Err (length (c ∷ rest)))
    else single (c ∷ rest) >>= ranged

-- what is left behind `]`, where the group ends here
abbrev pub behind_group : List ℕ → Option (List ℕ)
behind_group [] = None
behind_group (c ∷ rest) = if c == 93 then Some rest else None

-- the group ends here, or goes on
abbrev pub group_end : Bool → Letters → Option (List ℕ) → Result (Letters × List ℕ) ℕ → Result (Letters × List ℕ) ℕ
group_end true letters (Some rest) more = Ok (letters, rest)
group_end may letters rest more = more

-- the members of a group up to `]`, one at least; there are no more of them than characters
unfoldable pub members : ℕ → Bool → Letters → List ℕ → Result (Letters × List ℕ) ℕ
members zero first letters rest = Err (length rest)
members (suc n) first letters rest =
    group_end (not first) letters (behind_group rest) (member first rest >>= λ x. members n false (with_member x.0 letters) x.1)

-- whether the group is of all other characters
abbrev pub is_negated : List ℕ → Bool
is_negated [] = false
is_negated (c ∷ rest) = c == 94

-- what stands behind `[`: the letters with those of the group
unfoldable pub group : Letters → List ℕ → Result (Letters × List ℕ) ℕ
group letters rest = if is_negated rest then members (suc (length (behind_one rest))) true every (behind_one rest) else members (suc (length rest)) true letters rest
