use Rattle.std.proofs.Common.{◌≡◌, rules, sym, ◌∙◌, arith}
use Rattle.exi_pattern.specs.Sets.{AreLetters}
use Rattle.exi_pattern.proofs.Sets.{added, filled, known, lettered}
use Rattle.exi_pattern.proofs.letters.Letters.add.Goals as goal
use Rattle.exi_pattern.proofs.letters.Letters.add.Goals.{in-Some-2, in-None-2}

pub invariant_of-self-in-Continue-1 : goal.invariant_of-self-in-Continue-1
invariant_of-self-in-Continue-1 c =
    let self_is : c.args.self.now ≡ lettered c.in-Some.few.items = search rules in
    let inv : AreLetters c.args.self.now = search rules in
    (added c.args.c c.in-Err.place c.args.self.now c.in-Some.few.items c.deref.result.now c.insert.new.self.items self_is c.deref.ensures.value c.in_ok-insert.ensures.items
    (λ e. c.if-len-eq-MOST.false (c.len.ensures ∙ sym c.deref.ensures.len ∙ e)) inv (omega arith) c.requires c.in-Err.ensures.position).0

pub returns-in_ok-insert : goal.returns-in_ok-insert
returns-in_ok-insert c =
    let self_is : c.args.self.now ≡ lettered c.in-Some.few.items = search rules in
    let inv : AreLetters c.args.self.now = search rules in
    (added c.args.c c.in-Err.place c.args.self.now c.in-Some.few.items c.deref.result.now c.insert.new.self.items self_is c.deref.ensures.value c.in_ok-insert.ensures.items
    (λ e. c.if-len-eq-MOST.false (c.len.ensures ∙ sym c.deref.ensures.len ∙ e)) inv (omega arith) c.requires c.in-Err.ensures.position).1

pub returns-then-len-eq-MOST : goal.returns-then-len-eq-MOST
returns-then-len-eq-MOST c =
    let self_is : c.args.self.now ≡ lettered c.in-Some.few.items = search rules in
    let inv : AreLetters c.args.self.now = search rules in
    let f = filled c.args.c c.in-Err.place c.args.self.now c.in-Some.few.items c.deref.result.now self_is c.deref.ensures.value (c.deref.ensures.len ∙ sym c.len.ensures ∙ c.if-len-eq-MOST.true) inv (omega arith) c.in-Err.ensures.position in
    elim c.match-self-3.branch [
      | in-Some-2 w ↦ w.self-is ∙ f
      | in-None-2 w ↦ w.self-is ∙ f
    ]

pub returns-in_default-binary_search : goal.returns-in_default-binary_search
returns-in_default-binary_search c =
    let self_is : c.args.self.now ≡ lettered c.in-Some.few.items = search rules in
    let inv : AreLetters c.args.self.now = search rules in
    known c.args.c c.in_default-binary_search.field-0 c.args.self.now c.in-Some.few.items c.deref.result.now self_is c.deref.ensures.value inv (omega arith) c.in_default-binary_search.ensures.position
