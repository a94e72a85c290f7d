use Rattle.std.proofs.Common.{sym, ap, ◌∙◌}
use Rattle.exi_calendar.specs.Forms.{moment_text}
use Rattle.exi_calendar.specs.Reading.{HasMarks}
use Rattle.exi_calendar.proofs.Fields.{some}
use Rattle.exi_calendar.proofs.WholeSeconds.{text_is, value_is}
use Rattle.exi_calendar.proofs.read.whole_seconds.Goals as goal

pub returns-clause-value : goal.returns-clause-value
returns-clause-value c =
    let marks : HasMarks c.args.text.now = c.has_marks.ensures c.if-not-has_marks.false in
    let same = c.date_time.ensures in
    value_is c.args.text.now c.in_ok-century.century c.in_ok-years.years c.in_ok-month.month c.in_ok-day.day c.in_ok-hour.hour c.in_ok-minute.minute c.in_ok-second.second c.if-text-ne20.false marks
    (sym c.in_ok-century.ensures) (sym c.in_ok-years.ensures) (sym c.in_ok-month.ensures) (sym c.in_ok-day.ensures) (sym c.in_ok-hour.ensures) (sym c.in_ok-minute.ensures) (sym c.in_ok-second.ensures) ∙ ap some (sym same)

pub returns-clause-canonical : goal.returns-clause-canonical
returns-clause-canonical c =
    let marks : HasMarks c.args.text.now = c.has_marks.ensures c.if-not-has_marks.false in
    let same = c.date_time.ensures in
    ap moment_text same ∙ text_is c.args.text.now c.in_ok-century.century c.in_ok-years.years c.in_ok-month.month c.in_ok-day.day c.in_ok-hour.hour c.in_ok-minute.minute c.in_ok-second.second c.if-text-ne20.false marks
    (sym c.in_ok-century.ensures) (sym c.in_ok-years.ensures) (sym c.in_ok-month.ensures) (sym c.in_ok-day.ensures) (sym c.in_ok-hour.ensures) (sym c.in_ok-minute.ensures) (sym c.in_ok-second.ensures)
