use Rattle.std.proofs.Common.{◌≡◌, map, take}
use Rattle.std.specs.List.{flat_map}
use Rattle.exi_gram.specs.Terminals.{rule}
use Rattle.exi_compiled.specs.FragmentGrammar.{attribute_rule}
use Rattle.exi_compile.proofs.fragment.attributes.Given as goal

abbrev pub invariant-loop-place : goal.invariant-loop-place
invariant-loop-place l = map rule l.state ≡ flat_map (attribute_rule l.parts) (take l.place-index l.place-items)
