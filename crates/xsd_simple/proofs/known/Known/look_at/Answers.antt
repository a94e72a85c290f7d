use Rattle.std.proofs.Common.{◌≡◌, List, Option, Some, sym, ap, ◌∙◌, arith}
use Rattle.xsd_tree.specs.declared.node.Node.{Node}
use Rattle.xsd_components.specs.References.{derivation}
use Rattle.xsd_simple.proofs.Table.{derived_there, derived_whole}
use Rattle.xsd_simple.proofs.known.Known.look_at.Goals as goal

pub learn-requires-clause-there : goal.learn-requires-clause-there
learn-requires-clause-there c =
    let ns = c.args.values.now in
    let is : derivation ns c.args.place ≡ Some c.in-Some.derivation = sym (c.derivation.ensures ∙ ap (λ (x : List Node). derivation x c.args.place) c.schema.ensures) ∙ c.in-Some.is in
    let there = derived_there ns c.args.place c.in-Some.derivation is in
    omega (arith, there, c.requires.count)

pub learn-requires-clause-whole : goal.learn-requires-clause-whole
learn-requires-clause-whole c =
    let ns = c.args.values.now in
    let is : derivation ns c.args.place ≡ Some c.in-Some.derivation = sym (c.derivation.ensures ∙ ap (λ (x : List Node). derivation x c.args.place) c.schema.ensures) ∙ c.in-Some.is in
    derived_whole ns c.args.place c.in-Some.derivation c.requires.whole is
