use Rattle.std.proofs.Common.{◌≡◌, IfOk, Bool, false, List, sym, ap, ◌∙◌, subst}
use Rattle.xsd_tree.specs.declared.node.Node.{Node}
use Rattle.xsd_told.specs.Told.{is_unread}
use Rattle.xsd_wildcards.specs.Wildcards.{is_foreign_wild}
use Rattle.xsd_schema.proofs.Unread.{left_to_second}
use Rattle.xsd_schema.proofs.conditions.Conditions.is_unread_or_wild.Goals as goal

pub returns : goal.returns
returns c =
    let ns = c.args.self.now in
    let place = c.args.place in
    let schema_is : c.schema-schema.result.now ≡ ns = c.schema-schema.ensures ∙ c.self.view_is in
    let nodes_is : c.nodes.result.now ≡ ns = c.nodes.ensures.nodes ∙ c.document.ensures ∙ schema_is in
    let is_read : is_unread c.args.joined ns place ≡ false = ap (λ (x : List Node). is_unread c.args.joined x place) (sym schema_is) ∙ sym c.is_unread.ensures ∙ c.if-is_unread.false in
    let own : is_foreign_wild ns place ≡ false = ap (λ (x : List Node). is_foreign_wild x place) (sym nodes_is) ∙ sym c.in_ok-is_foreign.ensures ∙ c.if-is_foreign.false in
    subst (λ (b : Bool). IfOk c.is_second_wild.result (λ x. x ≡ b)) (left_to_second c.args.joined ns place is_read own) c.is_second_wild.ensures
