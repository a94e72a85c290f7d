use Rattle.std.proofs.Common.{◌≡◌, List, [], ◌∷◌, ◌++◌, length, ap, subst, sym, ◌∙◌, arith}
use Rattle.exi_names.specs.Datatypes.{Representation, list}
use Rattle.xsd_model.specs.Parts.{AreForms, representations}
use Rattle.xsd_model.specs.declared.parts.Form.{Form}
use Rattle.xsd_model.specs.declared.parts.Form.TheVariants as form
use Rattle.xsd_restrictions.specs.Restrictions.{form_at}
use Rattle.xsd_restrictions.proofs.Places.{are_pushed, length_forms, pushed}
use Rattle.xsd_restrictions.proofs.forms.Forms.push_list.Goals as goal

pub invariant_of-self-2 : goal.invariant_of-self-2
invariant_of-self-2 c =
    let l = sym (length_forms c.self.inside.forms) ∙ ap length c.self.view_is in
    let less = c.requires.there in
    subst (λ (fs : List Form). AreForms 0 fs) (sym c.in_ok-push.ensures.ok) (are_pushed 0 c.self.inside.forms (form.List c.args.item) c.self.invariant (omega (arith, l, less)))

pub returns-clause-ok : goal.returns-clause-ok
returns-clause-ok c =
    ap representations c.in_ok-push.ensures.ok
    ∙ pushed c.self.inside.forms (form.List c.args.item)
    ∙ ap (λ (rs : List Representation). rs ++ list (form_at rs c.args.item) ∷ []) c.self.view_is
