use Rattle.std.proofs.Common.{◌≡◌, ◌<◌, ◌∙◌, [], ap, arith, false, length, sym, subst, true}
use Rattle.exi_gram.specs.declared.class.Class.TheVariants as class
use Rattle.exi_normal.specs.Normals.{number_of, with_list, with_targets}
use Rattle.exi_normal.specs.Spots.{is_of, row_at}
use Rattle.exi_normal.specs.Working.{with_row}
use Rattle.exi_normal.proofs.Turns.{list_lists, list_target, own_lists, own_target}
use Rattle.exi_normal.proofs.work.target.Goals as goal

pub returns-then-is_of-clause-target : goal.returns-then-is_of-clause-target
returns-then-is_of-clause-target c = sym (own_target c.args.own c.args.spot.now c.args.lists.now (sym c.is_of.ensures ∙ c.if-is_of.true))

pub returns-then-is_of-clause-lists : goal.returns-then-is_of-clause-lists
returns-then-is_of-clause-lists c = sym (own_lists c.args.spot.now c.args.lists.now (sym c.is_of.ensures ∙ c.if-is_of.true))

pub returns-then-count-most-clause-stop : goal.returns-then-count-most-clause-stop
returns-then-count-most-clause-stop c =
    let t : c.states.result.now ≡ with_targets c.args.spot.now.group.now.targets [] = c.states.ensures ∙ c.in_ok-see_all.ensures ∙ ap (λ z. with_targets z []) c.as_slice.ensures in
    let e : c.number.new.self ≡ with_row (row_at c.args.spot.now) c.args.lists.now = c.in_ok-number.ensures.lists ∙ ap (λ z. with_list z c.args.lists.now) t ∙ sym (list_lists c.args.spot.now c.args.lists.now (sym c.is_of.ensures ∙ c.if-is_of.false)) in
    let many : c.args.most < length c.number.new.self = omega (arith, c.if-count-most.true, c.count.ensures) in
    subst (λ z. c.args.most < length z) e many

pub overflow_cast-result : goal.overflow_cast-result
overflow_cast-result c = omega (arith, c.in_ok-number.ensures.within, c.count.ensures, c.if-count-most.false, c.ranges.most)

pub returns-clause-target : goal.returns-clause-target
returns-clause-target c =
    let t : c.states.result.now ≡ with_targets c.args.spot.now.group.now.targets [] = c.states.ensures ∙ c.in_ok-see_all.ensures ∙ ap (λ z. with_targets z []) c.as_slice.ensures in
    c.in_ok-number.ensures.number ∙ ap (λ z. number_of z c.args.lists.now) t ∙ sym (list_target c.args.own c.args.spot.now c.args.lists.now (sym c.is_of.ensures ∙ c.if-is_of.false))

pub returns-clause-lists : goal.returns-clause-lists
returns-clause-lists c =
    let t : c.states.result.now ≡ with_targets c.args.spot.now.group.now.targets [] = c.states.ensures ∙ c.in_ok-see_all.ensures ∙ ap (λ z. with_targets z []) c.as_slice.ensures in
    c.in_ok-number.ensures.lists ∙ ap (λ z. with_list z c.args.lists.now) t ∙ sym (list_lists c.args.spot.now c.args.lists.now (sym c.is_of.ensures ∙ c.if-is_of.false))
