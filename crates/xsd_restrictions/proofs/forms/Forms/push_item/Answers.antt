use Rattle.std.proofs.Common.{◌≡◌, List, [], ◌∷◌, ◌++◌, ap, subst, sym, ◌∙◌}
use Rattle.exi_names.specs.Datatypes.{Representation, represented}
use Rattle.xsd_model.specs.Parts.{AreForms, representations}
use Rattle.xsd_model.specs.declared.parts.Form.{Form}
use Rattle.xsd_model.specs.declared.parts.Form.TheVariants as form
use Rattle.xsd_restrictions.proofs.Places.{are_pushed, pushed}
use Rattle.xsd_restrictions.proofs.forms.Forms.push_item.Goals as goal

pub invariant_of-self-2 : goal.invariant_of-self-2
invariant_of-self-2 c =
    subst (λ (fs : List Form). AreForms 0 fs) (sym c.in_ok-push.ensures.ok) (are_pushed 0 c.self.inside.forms (form.Item c.args.datatype) c.self.invariant tt)

pub returns-clause-ok : goal.returns-clause-ok
returns-clause-ok c =
    ap representations c.in_ok-push.ensures.ok
    ∙ pushed c.self.inside.forms (form.Item c.args.datatype)
    ∙ ap (λ (rs : List Representation). rs ++ represented c.args.datatype ∷ []) c.self.view_is
