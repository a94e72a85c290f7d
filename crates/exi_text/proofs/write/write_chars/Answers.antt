use Rattle.std.proofs.Common.{option_copied, sym, ◌∙◌}
use Rattle.std.proofs.lemmas.Bool.{eqb-true}
use Rattle.std.proofs.lemmas.List.{append-nil}
use Rattle.exi_names.proofs.Texts.{chars_of_empty}
use Rattle.exi_text.proofs.Sets.{no_chars}
use Rattle.exi_text.proofs.write.write_chars.Goals as goal

pub returns-then-is_empty-clause-ok : goal.returns-then-is_empty-clause-ok
returns-then-is_empty-clause-ok c =
    let none = eqb-true _ 0 (sym c.is_empty.ensures ∙ c.if-is_empty.true) in
    let nothing = no_chars (option_copied c.args.set) c.args.align _ (c.as_str-2.ensures.chars ∙ chars_of_empty _ none) in
    rw nothing (sym (append-nil c.args.out.now))
