use Rattle.std.proofs.Common.{◌≡◌, ◌+◌, ◌<◌, ◌∙◌, ap, length, map, sym, subst, take}
use Rattle.exi_normal.specs.Spots.{row_at, row_seen}
use Rattle.exi_normal.specs.Steps.{symbol_at, symbols}
use Rattle.exi_normal.specs.declared.groups.Group.{Group}
use Rattle.exi_normal.proofs.Turns.{spots_more}
use Rattle.exi_normal.proofs.work.spots.Goals as goal

pub get-requires : goal.get-requires
get-requires c = record {
  there = subst (λ (g : Group). g.on < length (symbols c.args.numbered.now.terminals)) (sym c.group-item.is) (c.requires.there c.loop-group.group-index c.group-item.result c.loop-group-test.true);
}

pub loop-group-preserved : goal.loop-group-preserved
loop-group-preserved c =
    let ss = symbols c.args.numbered.now.terminals in
    subst (λ z. map row_at z ≡ map (row_seen ss) (take (c.loop-group.group-index + 1) c.args.groups.now)) (sym c.in_ok-push.ensures.items)
    (spots_more ss c.loop-group.spots.items c.args.groups.now c.loop-group.group-index _ c.group-item.result c.loop-group-test.true c.group-item.is (c.get.ensures ∙ ap (λ (g : Group). symbol_at ss g.on) c.group-item.is) c.loop-group.invariant)
