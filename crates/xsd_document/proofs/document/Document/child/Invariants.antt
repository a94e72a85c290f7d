use Rattle.std.proofs.Common.{◌≡◌, drop, filter}
use Rattle.xsd_nodes.specs.Nodes.{child, first, is_among_at}
use Rattle.xsd_document.specs.Held.{held}
use Rattle.xsd_document.proofs.document.Document.child.Given as goal

abbrev pub invariant-loop-one : goal.invariant-loop-one
invariant-loop-one l = first (filter (is_among_at l.fn.self l.fn.parts) (drop l.one-index (held l.fn.self l.fn.place))) ≡ child l.fn.self l.fn.parts l.fn.place
