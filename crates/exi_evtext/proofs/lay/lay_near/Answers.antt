use Rattle.std.proofs.Common.{take, ℕ, sym, ap, ◌∙◌, arith}
use Rattle.exi_evtext.proofs.Escapes.{plain_stands}
use Rattle.exi_evtext.proofs.Lays.{laid_front}
use Rattle.exi_evtext.proofs.lay.lay_near.Goals as goal

pub returns-clause-laid : goal.returns-clause-laid
returns-clause-laid c =
    let new = c.lay_ends.new.room in
    let bytes = c.args.bytes.now in
    laid_front c.args.at c.args.count c.args.room.now new bytes (omega (arith, c.requires.room)) (omega (arith, c.requires.bytes, c.requires.few))
    (ap (λ (n : ℕ). take n new) (sym c.lay_ends.ensures.behind) ∙ c.lay_ends.ensures.laid) (plain_stands (take c.args.count bytes) c.requires.plain)
