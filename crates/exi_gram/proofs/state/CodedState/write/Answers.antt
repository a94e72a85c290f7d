use Rattle.std.proofs.Common.{◌≡◌, Bool, List, ◌++◌, OnErr, OnOk, subst}
use Rattle.exi_items.specs.Fronts.{HoldsFront}
use Rattle.exi_gram.proofs.TableLists.{firsts_few, seconds_few}
use Rattle.exi_gram.proofs.Writing.{view_told}
use Rattle.exi_gram.proofs.state.CodedState.write.Goals as goal

pub write_kept-requires-clause-few_firsts : goal.write_kept-requires-clause-few_firsts
write_kept-requires-clause-few_firsts c = firsts_few _ _ _ c.self.invariant

pub write_kept-requires-clause-few : goal.write_kept-requires-clause-few
write_kept-requires-clause-few c = rw c.deref.ensures.value (seconds_few _ _ _ c.self.invariant)

pub write_kept-requires-clause-fits : goal.write_kept-requires-clause-fits
write_kept-requires-clause-fits c = (view_told c.args.align _ _ _ _ _ _ _ c.self.invariant c.self.view_is c.deref.ensures.value c.index.ensures c.requires.there).0

pub returns-clause-ok : goal.returns-clause-ok
returns-clause-ok c =
    let k = view_told c.args.align _ _ _ _ _ _ _ c.self.invariant c.self.view_is c.deref.ensures.value c.index.ensures c.requires.there in
    subst (λ (z : List Bool). OnOk c.write_kept.result (c.write_kept.new.out ≡ c.args.out.now ++ z)) k.1 c.write_kept.ensures.ok

pub returns-clause-err : goal.returns-clause-err
returns-clause-err c =
    let k = view_told c.args.align _ _ _ _ _ _ _ c.self.invariant c.self.view_is c.deref.ensures.value c.index.ensures c.requires.there in
    subst (λ (z : List Bool). OnErr c.write_kept.result (HoldsFront c.args.out.now z c.write_kept.new.out)) k.1 c.write_kept.ensures.err
