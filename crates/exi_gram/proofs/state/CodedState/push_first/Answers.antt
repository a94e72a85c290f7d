use Rattle.exi_gram.proofs.TableLists.{first_added}
use Rattle.exi_gram.proofs.state.CodedState.push_first.Goals as goal

pub invariant_of-self-2 : goal.invariant_of-self-2
invariant_of-self-2 c = (first_added _ _ _ _ _ _ _ c.self.invariant c.self.view_is c.requires.first c.requires.room c.in_ok-push.ensures.items).0
