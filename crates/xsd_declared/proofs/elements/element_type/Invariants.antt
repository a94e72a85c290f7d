use Rattle.std.proofs.Common.{◌≡◌, ◌+◌, ◌-◌, length}
use Rattle.xsd_declared.specs.Decls.{element_type, element_type_within}
use Rattle.xsd_declared.proofs.elements.element_type.Given as goal

abbrev pub invariant-loop : goal.invariant-loop
invariant-loop l = element_type_within (length l.fn.schema + 1 - l.counter) l.fn.schema l.at ≡ element_type l.fn.schema l.fn.place
