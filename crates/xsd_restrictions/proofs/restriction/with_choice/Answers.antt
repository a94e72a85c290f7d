use Rattle.std.proofs.Common.{true, ap, refl, ◌∙◌}
use Rattle.exi_names.specs.Datatypes.{represented}
use Rattle.xsd_restrictions.specs.Entries.{is_choice}
use Rattle.xsd_restrictions.specs.declared.entry.Entry.{Entry}
use Rattle.xsd_restrictions.proofs.Entries.{behind, choice_for}
use Rattle.xsd_restrictions.proofs.restriction.with_choice.Goals as goal

pub returns-clause-kept : goal.returns-clause-kept
returns-clause-kept c =
    let r = represented c.in_ok-datatype.datatype in
    let is = c.in_ok-datatype.ensures in
    let e : Entry =
    record {
      kind = c.args.narrowed.kind;
      family = c.args.narrowed.family;
      least = c.args.narrowed.least;
      most = c.args.narrowed.most;
      patterned = c.args.narrowed.patterned;
      letters = c.args.narrowed.letters;
      enumerated = true;
      form = c.in_ok-form.form;
    } in
    behind c.args.forms.now c.push_item.new.self r e c.in_ok-form.ensures.ok c.in_ok-form.ensures.place
    (choice_for r _ _ e is (c.requires.same ∙ c.requires.atomic) refl)
    (λ en. ap is_choice is)
