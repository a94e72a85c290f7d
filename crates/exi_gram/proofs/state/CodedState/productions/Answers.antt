use Rattle.exi_gram.proofs.Leaving.{listed_rules}
use Rattle.exi_gram.proofs.state.CodedState.productions.Goals as goal

pub returns : goal.returns
returns c = listed_rules _ _ _ _ c.deref-coded-items.result.now c.loop-coded.coded-index _ c.self.invariant c.self.view_is c.deref-coded-items.ensures.value c.loop-coded-test.false c.loop-coded.invariant
