use Rattle.std.proofs.Common.{◌≡◌, filter, take}
use Rattle.xsd_nodes.specs.Nodes.{is_among_at}
use Rattle.xsd_document.specs.Held.{held}
use Rattle.xsd_document.proofs.document.Document.children.Given as goal

abbrev pub invariant-loop-one : goal.invariant-loop-one
invariant-loop-one l = l.found.items ≡ filter (is_among_at l.fn.self l.fn.parts) (take l.one-index (held l.fn.self l.fn.place))
