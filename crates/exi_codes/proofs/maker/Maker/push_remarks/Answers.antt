use Rattle.std.proofs.Common.{◌+◌, ◌≤◌, [], ◌∷◌, arith}
use Rattle.exi_gram.specs.Tables.{size}
use Rattle.exi_gram.specs.Terminals.{rule}
use Rattle.exi_codes.proofs.Making.{both_members, first_member, group_all, group_all_few, group_has, grouping_few}
use Rattle.exi_codes.proofs.maker.Maker.push_remarks.Goals as goal

pub push_member-requires-2-clause-group : goal.push_member-requires-2-clause-group
push_member-requires-2-clause-group c =
    let o = c.args.self.now.options.now in
    let names = c.args.self.now.places.now in
    let g = first_member o names c.args.state.now c.push_member.new.state (rule c.plain.result) c.in_ok-any.any c.in_ok-any.ensures.any c.in_ok-any.ensures.added in
    group_has o names c.args.state.now (rule c.plain.result ∷ []) c.in_ok-any.any c.push_member.new.state g

pub push_member-requires-2-clause-room : goal.push_member-requires-2-clause-room
push_member-requires-2-clause-room c =
    let o = c.args.self.now.options.now in
    let names = c.args.self.now.places.now in
    let g = first_member o names c.args.state.now c.push_member.new.state (rule c.plain.result) c.in_ok-any.any c.in_ok-any.ensures.any c.in_ok-any.ensures.added in
    let few : size c.push_member.new.state ≤ size c.args.state.now + 1 = grouping_few o names c.args.state.now (rule c.plain.result ∷ []) c.in_ok-any.any c.push_member.new.state g in
    omega (arith, few, c.requires.room)

pub returns-clause-added : goal.returns-clause-added
returns-clause-added c =
    let o = c.args.self.now.options.now in
    let names = c.args.self.now.places.now in
    group_all o names c.args.state.now _ c.in_ok-push_member.field-0 c.push_member-2.new.state
    (both_members o names c.args.state.now c.push_member.new.state c.push_member-2.new.state (rule c.plain.result) (rule c.plain-2.result) _ _ c.in_ok-any.any c.in_ok-push_member.field-0 c.plain.ensures c.plain-2.ensures c.in_ok-any.ensures.any c.in_ok-any.ensures.added c.in_ok-push_member.ensures.any c.in_ok-push_member.ensures.added)

pub returns-clause-size : goal.returns-clause-size
returns-clause-size c =
    let o = c.args.self.now.options.now in
    let names = c.args.self.now.places.now in
    group_all_few o names c.args.state.now _ 2 c.in_ok-push_member.field-0 c.push_member-2.new.state
    (both_members o names c.args.state.now c.push_member.new.state c.push_member-2.new.state (rule c.plain.result) (rule c.plain-2.result) _ _ c.in_ok-any.any c.in_ok-push_member.field-0 c.plain.ensures c.plain-2.ensures c.in_ok-any.ensures.any c.in_ok-any.ensures.added c.in_ok-push_member.ensures.any c.in_ok-push_member.ensures.added)
    (omega arith)
