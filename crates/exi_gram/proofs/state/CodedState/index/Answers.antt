use Rattle.exi_gram.proofs.Indexed.{kept_finds}
use Rattle.exi_gram.proofs.state.CodedState.index.Goals as goal

pub returns : goal.returns
returns c = rw (kept_finds _ _ _ c.deref.result.now c.args.self.now c.self.invariant c.self.view_is c.deref.ensures.value) at c.of.ensures
