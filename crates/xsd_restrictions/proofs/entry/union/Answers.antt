use Rattle.std.proofs.Common.{◌∙◌}
use Rattle.exi_names.specs.Datatypes.{text}
use Rattle.xsd_restrictions.proofs.Entries.{behind, not_enumerated, united_is}
use Rattle.xsd_restrictions.proofs.entry.union.Goals as goal

pub returns-clause-kept : goal.returns-clause-kept
returns-clause-kept c =
    let e = c.entry_of.result in
    behind c.args.forms.now c.push_text.new.self text e c.in_ok-form.ensures.ok (c.entry_of.ensures.form ∙ c.in_ok-form.ensures.place) (united_is text e c.entry_of.ensures.kind)
    (not_enumerated e text c.entry_of.ensures.enumerated)
