use Rattle.std.proofs.Common.{◌∙◌}
use Rattle.exi_names.specs.Datatypes.{represented}
use Rattle.xsd_restrictions.specs.declared.entry.Entry.{Entry}
use Rattle.xsd_restrictions.proofs.Entries.{behind, not_enumerated, plain_is}
use Rattle.xsd_restrictions.proofs.entry.with_plain.Goals as goal

pub returns-clause-kept : goal.returns-clause-kept
returns-clause-kept c =
    let r = represented c.in_ok-datatype.datatype in
    let e : Entry =
    record {
      kind = c.args.narrowed.kind;
      family = c.args.narrowed.family;
      least = c.args.narrowed.least;
      most = c.args.narrowed.most;
      patterned = c.args.narrowed.patterned;
      letters = c.args.narrowed.letters;
      enumerated = c.args.narrowed.enumerated;
      form = c.in_ok-form.form;
    } in
    behind c.args.forms.now c.push_item.new.self r e c.in_ok-form.ensures.ok c.in_ok-form.ensures.place
    (c.in_ok-datatype.ensures ∙ plain_is r e c.requires.atomic c.requires.plain)
    (not_enumerated e r c.requires.plain)
