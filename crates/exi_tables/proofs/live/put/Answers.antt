use Rattle.std.proofs.Common.{◌≡◌, ◌<◌, length, arith, ◌∙◌}
use Rattle.exi_tables.proofs.Counts.{push_is_put, set_is_put}
use Rattle.exi_tables.proofs.live.put.Goals as goal

pub returns-then-place-len : goal.returns-then-place-len
returns-then-place-len c =
    let within : c.args.place < length c.args.live.now.items = omega (arith, c.if-place-len.true, c.len.ensures) in
    set_is_put c.args.place c.args.value c.args.live.now.items within

pub returns-else-place-len : goal.returns-else-place-len
returns-else-place-len c =
    let at : c.args.place ≡ length c.args.live.now.items = omega (arith, c.if-place-len.false, c.len.ensures, c.requires.place) in
    c.push_reserved.ensures.items ∙ push_is_put c.args.place c.args.value c.args.live.now.items at
