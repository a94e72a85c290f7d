use Rattle.std.proofs.Common.{◌≡◌, [], ap, filter, map, sym, ◌∙◌}
use Rattle.exi_gram.specs.Codes.{coded, coded_from}
use Rattle.exi_builtin.specs.BuiltIn.{is_kept}
use Rattle.exi_builtin.specs.CodeParts.{coded_of}
use Rattle.exi_builtin.proofs.Numbering.{all_codes}
use Rattle.exi_builtin.proofs.Shapes.{kept_shape}
use Rattle.exi_builtin.proofs.code_list.codes_behind.Goals as goal

pub returns : goal.returns
returns c =
    let keep = is_kept c.args.options.now in
    let w = c.as_written-written.result in
    let learned = c.args.learned.now in
    let start : map coded_of c.add_learned.new.self ≡ coded_from [] 0 learned = rw c.new-list.ensures at c.in_ok-add_learned.ensures in
    all_codes learned (filter keep w.firsts.now) (filter keep w.singles.now) (filter keep w.members.now)
    (map coded_of c.add_learned.new.self) (map coded_of c.add_kept.new.self) (map coded_of c.add_kept-2.new.self) (map coded_of c.add_kept-3.new.self)
    c.len.result c.in_ok-first.first c.in_ok-second.second
    start c.len.ensures.count c.in_ok-first.ensures.added c.in_ok-first.ensures.next c.in_ok-second.ensures.added c.in_ok-second.ensures.next c.in_ok-add_kept.ensures.added
    ∙ ap coded (sym (kept_shape c.args.options.now c.args.room learned w.firsts.now w.singles.now w.members.now c.as_written-written.ensures.written))
