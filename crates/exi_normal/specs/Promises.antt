-- What normalizing promises, in the words of normal grammars.
use Rattle.std.specs.Prelude.{◌≡◌, Result, Ok, Err}
use Rattle.exi_gram.specs.declared.grammar.Grammar.{Grammar}
use Rattle.exi_gram.specs.Terminals.{Rules, rules_of}
use Rattle.exi_normal.specs.declared.stop.NormalStop.{NormalStop}
use Rattle.exi_normal.specs.declared.stop.NormalStop.TheVariants as stop
use Rattle.exi_normal.specs.Normals.{Refusal, differ, too_large}

abbrev pub Normalizes : Result Grammar NormalStop → Result Rules Refusal → Type 0
Normalizes (Ok g) made = made ≡ Ok (rules_of g)
Normalizes (Err stop.TooLarge) made = made ≡ Err too_large
Normalizes (Err stop.Differ) made = made ≡ Err differ
Normalizes (Err stop.Memory) made = Unit {0}
