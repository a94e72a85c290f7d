use Rattle.std.proofs.Common.{◌≡◌}
use Rattle.exi_compiled.specs.Compiled.{attribute_entries}
use Rattle.exi_compile.proofs.Telling.{attributes_told}
use Rattle.exi_compile.proofs.entries.attributes.Given as goal

abbrev pub invariant-loop-attribute : goal.invariant-loop-attribute
invariant-loop-attribute l = attributes_told l.fn.parts l.entries l.attribute-index l.fn.parts.attributes ≡ attribute_entries l.fn.parts l.fn.parts.attributes
