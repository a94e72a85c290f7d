use Rattle.std.proofs.Common.{◌≡◌, ◌+◌, ◌≤◌, Option, Some, None, [], ◌∷◌, map, refl, sym, ap, ◌∙◌, arith}
use Rattle.std.specs.Option.{MatchOption}
use Rattle.exi_names.specs.declared.names.QName.{QName}
use Rattle.exi_gram.specs.Additions.{untyped_of, untyped_on}
use Rattle.exi_gram.specs.Tables.{size}
use Rattle.exi_gram.specs.Terminals.{Rule, at_text, rule}
use Rattle.exi_gram.specs.Wholes.{plain}
use Rattle.exi_codes.proofs.Making.{group_all, group_has, untyped_all, untyped_all_few, untyped_more, untyped_past, untyped_room}
use Rattle.exi_codes.proofs.maker.Maker.push_untyped.Goals as goal
use Rattle.exi_codes.proofs.maker.Maker.push_untyped.Goals.{in-Some+in_ok-copy+in_ok-any, in_default}

no_name : {X : Type 0} (r : Option X) (P : Type 0) (Q : X → Type 0) → MatchOption r P Q → ((x : X) → r ≡ Some x → ⊥) → P
no_name None P Q h n = h
no_name (Some x) P Q h n = absurd (n x refl)

a_name : {X : Type 0} (r : Option X) (P : Type 0) (Q : X → Type 0) (x : X) → MatchOption r P Q → r ≡ Some x → Q x
a_name r P Q x h e = rw e at h

untyped_one : (r again : Rule) (name copy : QName) → untyped_on r.on ≡ at_text name ∷ [] → again ≡ plain (at_text copy) r.to → copy ≡ name → untyped_of r ≡ again ∷ []
untyped_one r again name copy e h q = ap (map (λ on. plain on r.to)) e ∙ ap (λ (z : Rule). z ∷ []) (sym (h ∙ ap (λ (z : QName). plain (at_text z) r.to) q))

untyped_none : (r : Rule) → untyped_on r.on ≡ [] → untyped_of r ≡ []
untyped_none r e = ap (map (λ on. plain on r.to)) e

pub push_member-requires-clause-group : goal.push_member-requires-clause-group
push_member-requires-clause-group c = group_has c.args.self.now.options.now c.args.self.now.places.now c.args.state.now _ c.loop-production.any c.loop-production.state c.loop-production.invariant

pub push_member-requires-clause-room : goal.push_member-requires-clause-room
push_member-requires-clause-room c =
    let few : size c.loop-production.state ≤ size c.args.state.now + c.loop-production.production-index = untyped_room c.args.self.now.options.now c.args.self.now.places.now c.args.state.now c.loop-production.state (λ p. rule p.now) c.args.firsts.now c.loop-production.production-index c.loop-production.any c.loop-production.invariant in
    omega (arith, few, c.loop-production-test.true, c.requires.room)

pub loop-production-preserved : goal.loop-production-preserved
loop-production-preserved c = elim c.match-attribute_name.branch [
  | in-Some+in_ok-copy+in_ok-any w ↦ rw (w.state-is, w.any-is)
      (untyped_more c.args.self.now.options.now c.args.self.now.places.now c.args.state.now c.loop-production.state _ (λ p. rule p.now) c.args.firsts.now c.loop-production.production-index c.production-item.result c.loop-production.any w.in_ok-any.any (rule w.plain-again.result)
      c.loop-production-test.true c.production-item.is
      (untyped_one (rule c.production-item.result.now) (rule w.plain-again.result) _ _ (a_name _ _ _ _ c.attribute_name.ensures w.in-Some.is) w.plain-again.ensures w.in_ok-copy.ensures)
      w.in_ok-any.ensures.any w.in_ok-any.ensures.added c.loop-production.invariant)
  | in_default w ↦ rw (w.state-is, w.any-is)
      (untyped_past c.args.self.now.options.now c.args.self.now.places.now c.args.state.now c.loop-production.state (λ p. rule p.now) c.args.firsts.now c.loop-production.production-index c.production-item.result c.loop-production.any
      c.loop-production-test.true c.production-item.is
      (untyped_none (rule c.production-item.result.now) (no_name _ _ _ c.attribute_name.ensures w.in_default.not-Some)) c.loop-production.invariant)
]

pub push_member-requires-2-clause-group : goal.push_member-requires-2-clause-group
push_member-requires-2-clause-group c = group_has c.args.self.now.options.now c.args.self.now.places.now c.args.state.now _ c.loop-production.any c.loop-production.state c.loop-production.invariant

pub push_member-requires-2-clause-room : goal.push_member-requires-2-clause-room
push_member-requires-2-clause-room c =
    let few : size c.loop-production.state ≤ size c.args.state.now + c.loop-production.production-index = untyped_room c.args.self.now.options.now c.args.self.now.places.now c.args.state.now c.loop-production.state (λ p. rule p.now) c.args.firsts.now c.loop-production.production-index c.loop-production.any c.loop-production.invariant in
    omega (arith, few, c.loop-production.auto.production-index-end, c.requires.room)

pub returns-clause-added : goal.returns-clause-added
returns-clause-added c =
    let o = c.args.self.now.options.now in
    let names = c.args.self.now.places.now in
    group_all o names c.args.state.now _ c.in_ok-push_member.field-0 c.push_member-2.new.state
    (untyped_all o names c.args.state.now c.loop-production.state c.push_member-2.new.state (λ p. rule p.now) c.args.firsts.now c.loop-production.production-index c.loop-production.any c.in_ok-push_member.field-0 (rule c.plain.result) c.args.to c.loop-production-test.false c.plain.ensures c.in_ok-push_member.ensures.any c.in_ok-push_member.ensures.added c.loop-production.invariant)

pub returns-clause-size : goal.returns-clause-size
returns-clause-size c =
    let o = c.args.self.now.options.now in
    let names = c.args.self.now.places.now in
    untyped_all_few o names c.args.state.now c.push_member-2.new.state (λ p. rule p.now) c.args.firsts.now c.in_ok-push_member.field-0 c.args.to
    (untyped_all o names c.args.state.now c.loop-production.state c.push_member-2.new.state (λ p. rule p.now) c.args.firsts.now c.loop-production.production-index c.loop-production.any c.in_ok-push_member.field-0 (rule c.plain.result) c.args.to c.loop-production-test.false c.plain.ensures c.in_ok-push_member.ensures.any c.in_ok-push_member.ensures.added c.loop-production.invariant)
