use Rattle.std.proofs.Common.{◌+◌, ◌∙◌, ap, drop, sym, subst}
use Rattle.std.proofs.lemmas.List.{drop_more}
use Rattle.exi_normal.specs.Numbers.{AreNoted, groups_from}
use Rattle.exi_normal.proofs.Marked.{noted_none_yet}
use Rattle.exi_normal.proofs.groups.groups_from.Goals as goal

pub loop-reading-init : goal.loop-reading-init
loop-reading-init c = (ap (λ z. groups_from z c.args.readings.now) c.new-groups.ensures.items, subst (λ z. AreNoted c.args.notes.now z) (sym c.new-groups.ensures.items) (noted_none_yet c.args.notes.now))

pub loop-reading-preserved : goal.loop-reading-preserved
loop-reading-preserved c = (
  ap (λ z. groups_from z (drop (c.loop-reading.reading-index + 1) c.args.readings.now)) c.in_ok-put.ensures.groups
      ∙ sym (ap (groups_from c.loop-reading.groups.items) (drop_more c.args.readings.now c.loop-reading.reading-index _ c.loop-reading-test.true))
      ∙ c.loop-reading.invariant.0,
  c.in_ok-put.ensures.noted,
)
