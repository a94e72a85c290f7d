use Rattle.std.proofs.Common.{false, length, sym, ◌∙◌}
use Rattle.std.proofs.lemmas.Result.{err_from_is_err_and}
use Rattle.exi_pattern.specs.Groups.{member}
use Rattle.exi_pattern.proofs.Shorter.{left_of, member_left}
use Rattle.exi_pattern.proofs.Steps.{first_member, first_refused, group_ends, next_member, next_refused}
use Rattle.exi_pattern.proofs.groups.members.Goals as goal

pub returns-in_err-first : goal.returns-in_err-first
returns-in_err-first c =
    let p = err_from_is_err_and c.from_residual.result c.from_residual.ensures.1 in
    rw (p.1, p.2) (first_refused c.args.letters.now c.args.at.now c.in_err-first.field-0.0.0 c.in_err-first.ensures)

pub loop-behind-init : goal.loop-behind-init
loop-behind-init c = rw c.in_ok-add_member.ensures (first_member c.args.letters.now c.args.at.now (c.in_ok-first.first, c.in_ok-first.rest.now) c.in_ok-first.ensures)

pub returns-in-Some : goal.returns-in-Some
returns-in-Some c = sym c.loop-behind.invariant ∙ group_ends c.loop-behind.letters c.loop-behind.rest.now c.in-Some.behind.now (sym c.in-Some.ensures)

pub returns-in_err-next : goal.returns-in_err-next
returns-in_err-next c =
    let p = err_from_is_err_and c.from_residual-in_err-next.result c.from_residual-in_err-next.ensures.1 in
    rw (p.1, p.2) (sym c.loop-behind.invariant ∙ next_refused c.loop-behind.letters c.loop-behind.rest.now c.in_err-next.field-0.0.0 (sym c.in_default.ensures) c.in_err-next.ensures)

pub loop-behind-smaller : goal.loop-behind-smaller
loop-behind-smaller c =
    left_of (length c.loop-behind.rest.now) (member false c.loop-behind.rest.now) (c.in_ok-next.next, c.in_ok-next.behind.now) (member_left false c.loop-behind.rest.now) c.in_ok-next.ensures

pub loop-behind-preserved : goal.loop-behind-preserved
loop-behind-preserved c =
    rw c.in_ok-add_member-2.ensures (next_member c.loop-behind.letters c.loop-behind.rest.now (c.in_ok-next.next, c.in_ok-next.behind.now) (sym c.in_default.ensures) c.in_ok-next.ensures ∙ c.loop-behind.invariant)
