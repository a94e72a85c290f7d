use Rattle.std.proofs.Common.{◌≡◌, Option, List, IfOk, get_or, subst, ap, ◌∙◌}
use Rattle.xsd_tree.specs.declared.node.Node.{Node}
use Rattle.xsd_components.specs.declared.type_at.TypeAt.{TypeAt}
use Rattle.xsd_restrictions.specs.Entries.{simple_at}
use Rattle.xsd_restrictions.specs.Restrictions.{Simple, restricted}
use Rattle.xsd_values.specs.Restricted.{restricted_type}
use Rattle.xsd_simple.specs.Kept.{place_if, simples, told}
use Rattle.xsd_simple.specs.Simple.{if_type}
use Rattle.xsd_simple.proofs.Table.{found_entry, found_simple}
use Rattle.xsd_simple.proofs.known.Known.restriction.Goals as goal

pub restrict-requires-clause-base : goal.restrict-requires-clause-base
restrict-requires-clause-base c =
    found_entry c.schema-schema.result.now c.args.forms.now c.args.self.now.entries.items c.args.self.now.places.items c.requires.known c.in_ok-base.base c.entry_if-base.result.now c.entry_if-base.ensures

pub returns-clause-simple : goal.returns-clause-simple
returns-clause-simple c =
    let ns = c.args.values.now in
    let d = c.args.derivation in
    let forms = c.args.forms.now in
    let es = c.args.self.now.entries.items in
    let places = c.args.self.now.places.items in
    let r = c.entry_if-base.result.now in
    let o = c.in_ok-base.base in
    let o_is : o ≡ restricted_type ns d = subst (λ x. IfOk x (λ t. t ≡ restricted_type ns d)) c.in_ok-base.was (c.restricted_type.ensures c.requires.whole) in
    let base_is : simple_at forms r ≡ if_type (told ns (simples forms es) places) (restricted_type ns d) =
    found_simple c.schema-schema.result.now forms es places c.requires.known o r c.entry_if-base.ensures
    ∙ ap (λ (x : List Node). if_type (told x (simples forms es) places) o) c.schema-schema.ensures
    ∙ ap (if_type (told ns (simples forms es) places)) o_is in
    subst (λ (s : Simple). IfOk c.restrict.result (λ e. simple_at c.restrict.new.forms e ≡ s))
    (ap (λ (x : List Node). restricted x d (simple_at forms r)) (c.document.ensures ∙ c.schema-schema.ensures) ∙ ap (restricted ns d) base_is)
    c.restrict.ensures.simple
