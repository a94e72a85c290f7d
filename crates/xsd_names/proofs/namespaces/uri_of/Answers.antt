use Rattle.std.proofs.Common.{List, ℕ, Some, ap, ◌∙◌}
use Rattle.xsd_names.specs.Names.{or_no_namespace}
use Rattle.xsd_names.proofs.Words.{other_prefix, xml_prefix}
use Rattle.xsd_names.proofs.namespaces.uri_of.Goals as goal

pub returns-then-is_text : goal.returns-then-is_text
returns-then-is_text c = xml_prefix c.args.nodes.now c.args.place c.args.prefix.now c.in_ok-of.field-0 c.is_text.result c.in_ok-of.ensures c.if-is_text.true c.is_text.ensures

pub returns-in_ok-copy-in-Some : goal.returns-in_ok-copy-in-Some
returns-in_ok-copy-in-Some c =
    other_prefix c.args.nodes.now c.args.place c.args.prefix.now (Some c.in_ok-copy-in-Some.field-0) c.is_text.result c.if-is_text.false c.is_text.ensures
    (ap (λ (x : List ℕ). Some x) c.in_ok-copy-in-Some.ensures ∙ ap (or_no_namespace c.args.prefix.now) c.in-Some.ensures)

pub returns-in-None : goal.returns-in-None
returns-in-None c =
    other_prefix c.args.nodes.now c.args.place c.args.prefix.now c.no_namespace.result c.is_text.result c.if-is_text.false c.is_text.ensures
    (c.no_namespace.ensures ∙ ap (or_no_namespace c.args.prefix.now) c.in-None.ensures)
