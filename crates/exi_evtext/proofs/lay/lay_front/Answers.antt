use Rattle.std.proofs.Common.{◌≡◌, length, take, arith, length-take-le}
use Rattle.std.proofs.lemmas.Simd.{take_more_put_chunk, length-put_chunk}
use Rattle.exi_evtext.proofs.lay.lay_front.Goals as goal

pub returns-clause-laid : goal.returns-clause-laid
returns-clause-laid g c =
    let front = take g.row.N c.args.bytes.now in
    let long : length front ≡ g.row.N = length-take-le g.row.N c.args.bytes.now c.requires.0 in
    take_more_put_chunk c.args.at c.args.room.now front _ (omega arith) c.requires.1

pub returns-clause-len : goal.returns-clause-len
returns-clause-len g c = length-put_chunk c.args.at c.args.room.now (take g.row.N c.args.bytes.now)
