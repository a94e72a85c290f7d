use Rattle.std.proofs.Common.{◌≡◌, length, arith}
use Rattle.exi_gram.proofs.TableLists.{last_taken, member_added, seconds_few}
use Rattle.exi_gram.proofs.state.CodedState.push_member.Goals as goal

pub overflow_cast-code : goal.overflow_cast-code
overflow_cast-code c = omega (arith, c.len.ensures, c.in-Some.ensures.len, seconds_few _ _ _ c.self.invariant)

pub overflow_add-last : goal.overflow_add-last
overflow_add-last c =
    let k = last_taken _ _ _ _ _ _ c.self.invariant c.self.view_is c.requires.group c.in-Some.ensures.items in
    omega (arith, k.1.end, c.self.invariant.small)

pub invariant_of-self-in-Some : goal.invariant_of-self-in-Some
invariant_of-self-in-Some c =
    let n : c.len.result ≡ length c.pop.new.self.items = omega (arith, c.len.ensures) in
    (member_added _ _ _ _ _ _ _ _ _ _ _ _ c.self.invariant c.self.view_is c.requires.group c.requires.room c.in-Some.ensures.items c.in_ok-reserve.ensures.items c.push_reserved.ensures.items n c.push_reserved-in-Some.ensures.items).0

pub returns-in-Some-clause-ok : goal.returns-in-Some-clause-ok
returns-in-Some-clause-ok c =
    let n : c.len.result ≡ length c.pop.new.self.items = omega (arith, c.len.ensures) in
    (member_added _ _ _ _ _ _ _ _ _ _ _ _ c.self.invariant c.self.view_is c.requires.group c.requires.room c.in-Some.ensures.items c.in_ok-reserve.ensures.items c.push_reserved.ensures.items n c.push_reserved-in-Some.ensures.items).1
