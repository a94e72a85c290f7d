use Rattle.std.proofs.Common.{ap, ◌∙◌}
use Rattle.exi_pen.proofs.Begun.{first_is, outer_is}
use Rattle.exi_pen.proofs.pen.Pen.new.Goals as goal

pub returns-clause-first : goal.returns-clause-first
returns-clause-first g c =
    let outside = outer_is c.args.book.now c.args.start c.options.result.now c.is_known.result c.first_outer.result (c.is_known.ensures.known ∙ ap (λ s. s.known) c.schema.ensures.schema) c.options.ensures.options c.first_outer.ensures in
    rw (c.new.ensures.value, c.in_ok-tables_at_start.ensures.tables, c.new-2.ensures, outside, c.new-3.ensures, c.new-4.ensures, c.head.view_is) (first_is c.args.book.now c.args.start c.args.limits c.args.head c.requires.place)
