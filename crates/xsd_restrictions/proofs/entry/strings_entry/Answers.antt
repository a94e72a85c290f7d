use Rattle.std.proofs.Common.{◌∙◌}
use Rattle.exi_names.specs.Datatypes.{list}
use Rattle.xsd_restrictions.specs.Restrictions.{form_at}
use Rattle.xsd_restrictions.proofs.Entries.{behind, listed_is, not_enumerated}
use Rattle.xsd_restrictions.proofs.entry.strings_entry.Goals as goal

pub returns-clause-kept : goal.returns-clause-kept
returns-clause-kept c =
    let e = c.entry_of.result in
    let r = form_at c.push_text.new.self c.in_ok-item.item in
    behind c.push_text.new.self c.push_list.new.self (list r) e c.in_ok-form.ensures.ok (c.entry_of.ensures.form ∙ c.in_ok-form.ensures.place) (listed_is r e c.entry_of.ensures.kind)
    (not_enumerated e (list r) c.entry_of.ensures.enumerated)
