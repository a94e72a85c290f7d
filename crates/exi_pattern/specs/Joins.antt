-- The characters that several patterns leave together, of which a text has to match one (XML Schema 1.0 Part 2,
-- section 4.3.4).
use Rattle.std.specs.Prelude.{ℕ, List, [], ◌∷◌, Option, Some, None}
use Rattle.exi_pattern.specs.Sets.{Letters, every, with_code}
use Rattle.exi_pattern.specs.declared.charset.CharSet.{CharSet}
use Rattle.exi_pattern.specs.declared.charset.CharSet.TheVariants as charset

-- the characters of a pattern; what is refused leaves all
abbrev pub letters_in : CharSet → Letters
letters_in (charset.Set letters) = Some letters
letters_in charset.Any = every
letters_in (charset.Refused at) = every

abbrev pub with_all : List ℕ → Letters → Letters
with_all [] letters = letters
with_all (c ∷ cs) letters = with_all cs (with_code c letters)

-- what either leaves
abbrev pub joined : Letters → Letters → Letters
joined letters None = every
joined letters (Some cs) = with_all cs letters
