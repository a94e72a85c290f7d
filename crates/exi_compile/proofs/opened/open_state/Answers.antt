use Rattle.std.proofs.Common.{ap, get_or}
use Rattle.exi_gram.specs.Terminals.{rule, symbol}
use Rattle.exi_compile.specs.Opening.{opened_rule}
use Rattle.exi_compile.proofs.Produced.{replaced_seen}
use Rattle.exi_compile.proofs.opened.open_state.Goals as goal

pub loop-production-preserved : goal.loop-production-preserved
loop-production-preserved c =
    let p = get_or c.loop-production.state c.loop-production.production-index c.production-item.result in
    replaced_seen rule (opened_rule c.args.grammars.now c.args.otherwise) c.args.state.now c.loop-production.state c.loop-production.production-index c.production-item.result
    (record { on = p.on; to = p.to; inner = c.opened-production.result })
    c.loop-production-test.true c.loop-production.auto.state
    (ap (λ i. record { on = symbol p.on; to = p.to; inner = i }) c.opened-production.ensures)
    c.loop-production.invariant
