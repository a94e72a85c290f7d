use Rattle.std.proofs.Common.{◌≡◌, length, false, arith}
use Rattle.exi_gram.proofs.TableLists.{second_added, seconds_few}
use Rattle.exi_gram.proofs.state.CodedState.push_single.Goals as goal

pub overflow_cast-code : goal.overflow_cast-code
overflow_cast-code c = omega (arith, c.len.ensures, c.in_ok-reserve.ensures.len, seconds_few _ _ _ c.self.invariant)

pub invariant_of-self-2 : goal.invariant_of-self-2
invariant_of-self-2 c =
    let b : c.len-begin.result ≡ length c.self.inside.coded.items = omega (arith, c.len-begin.ensures) in
    let n : c.len.result ≡ length c.self.inside.seconds.items = omega (arith, c.len.ensures, c.in_ok-reserve.ensures.len) in
    (second_added _ _ _ _ _ _ _ _ false _ _ _ c.self.invariant c.self.view_is c.requires.room c.in_ok-push.ensures.items b n c.in_ok-reserve.ensures.items c.push_reserved.ensures.items).0

pub returns-clause-ok : goal.returns-clause-ok
returns-clause-ok c =
    let b : c.len-begin.result ≡ length c.self.inside.coded.items = omega (arith, c.len-begin.ensures) in
    let n : c.len.result ≡ length c.self.inside.seconds.items = omega (arith, c.len.ensures, c.in_ok-reserve.ensures.len) in
    (second_added _ _ _ _ _ _ _ _ false _ _ _ c.self.invariant c.self.view_is c.requires.room c.in_ok-push.ensures.items b n c.in_ok-reserve.ensures.items c.push_reserved.ensures.items).1
