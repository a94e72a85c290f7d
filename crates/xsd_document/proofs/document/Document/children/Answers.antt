use Rattle.std.proofs.Common.{length, ap, ◌∙◌, arith}
use Rattle.xsd_nodes.specs.Nodes.{is_among_at}
use Rattle.xsd_document.specs.Held.{held}
use Rattle.xsd_document.proofs.Found.{children_are, kept_all}
use Rattle.xsd_document.proofs.document.Document.children.Goals as goal

pub returns : goal.returns
returns c =
    kept_all (is_among_at c.args.self.now c.args.parts.now) (held c.args.self.now c.args.place) c.loop-one.found.items c.loop-one.one-index
    (omega (arith, ap length c.held-held.ensures)) c.loop-one.invariant
    ∙ children_are c.args.self.now c.args.parts.now c.args.place
