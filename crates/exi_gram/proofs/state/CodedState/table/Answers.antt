use Rattle.std.proofs.Common.{◌≡◌, IfOk, subst}
use Rattle.exi_gram.specs.Codes.{IsClosedUp, Productions}
use Rattle.exi_gram.specs.Naming.{Entry}
use Rattle.exi_gram.proofs.StateSets.{state_set}
use Rattle.exi_gram.proofs.TableLists.{table_closed}
use Rattle.exi_gram.proofs.Tabled.{state_codes}
use Rattle.exi_gram.proofs.state.CodedState.table.Goals as goal

pub of-requires-clause-codes : goal.of-requires-clause-codes
of-requires-clause-codes c =
    rw (state_codes _ _ _ c.deref.result.now c.args.self.now c.self.invariant c.self.view_is c.deref.ensures.value)
    (state_set c.args.self.now (subst (λ (p : Productions Entry). IsClosedUp p) c.self.view_is (table_closed _ _ _ c.self.invariant)))

pub returns : goal.returns
returns c =
    subst (λ z. IfOk c.of.result (λ t. t ≡ z)) (state_codes _ _ _ c.deref.result.now c.args.self.now c.self.invariant c.self.view_is c.deref.ensures.value) c.of.ensures
