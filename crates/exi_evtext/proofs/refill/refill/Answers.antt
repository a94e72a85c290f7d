use Rattle.std.proofs.Common.{ℕ, Bool, Option, List, subst}
use Rattle.std.specs.Prelude.{IfSome}
use Rattle.std.specs.Borrow.{Bor}
use Rattle.exi_evtext.specs.Parsing.{TakesPart}
use Rattle.exi_evtext.proofs.Refills.{Gathered, gathered_all, gathered_none, gathered_on}
use Rattle.exi_evtext.proofs.refill.refill.Goals as goal

pub loop-more-init : goal.loop-more-init
loop-more-init c = gathered_none c.clear.new.self c.args.bytes.now c.clear.ensures

pub loop-more-preserved : goal.loop-more-preserved
loop-more-preserved c =
    let text = c.loop-more.text in
    let new = c.take_part.new.text in
    let left = c.loop-more.left.now in
    let all = c.args.bytes.now in
    let before = subst (λ (m : Bool). Gathered m text left all) c.loop-more-test.true c.loop-more.invariant in
    gathered_on c.in-Some.open text new left c.in-Some.behind.now all before
    (subst (λ (o : Option (Bool × Bor (List ℕ))). IfSome o (λ part. TakesPart part.0 text new left part.1.now)) c.in-Some.is c.in_ok-open.ensures.read)

pub returns : goal.returns
returns c =
    let text = c.loop-more.text in
    let left = c.loop-more.left.now in
    let all = c.args.bytes.now in
    gathered_all text left all (subst (λ (m : Bool). Gathered m text left all) c.loop-more-test.false c.loop-more.invariant)
