use Rattle.std.proofs.Common.{refl, sym, ◌∙◌}
use Rattle.exi_choice.specs.Choices.{wanting}
use Rattle.exi_pen.proofs.Begun.{alone_there, are_charged, barred_begun, begun_by, fitted_in, found_is, misplaced_begun, no_element_begun, none_begun, none_found}
use Rattle.exi_pen.proofs.pen.Pen.begin_by.Goals as goal
use Rattle.exi_pen.proofs.pen.Pen.begin_by.Goals.{then-is_some-via-then-is_some, then-is_some-via-else-is_some+then-is_some-2, then-is_some-via-else-is_some+else-is_some-2+then-is_no_element}

pub returns-then-is_some-clause-begins : goal.returns-then-is_some-clause-begins
returns-then-is_some-clause-begins g c =
    let law = c.chosen_suits.ensures.law in
    let found = found_is (wanting c.args.wanted) c.args.self.now c.args.found c.in-Some.found c.in-Some.is c.requires.found in
    let are = are_charged _ c.args.self.now c.in-Some.found.choice.rule c.of-charges.result _ c.self.view_is c.alone_in-alone.ensures c.of-charges.ensures in
    elim c.then-is_some.branch [
      | then-is_some-via-then-is_some w ↦ barred_begun law (wanting c.args.wanted) c.args.self.now c.in-Some.found c.of-charges.result c.requires.ready found are (sym c.is_some.ensures ∙ w.if-is_some.true)
      | then-is_some-via-else-is_some+then-is_some-2 w ↦ misplaced_begun law (wanting c.args.wanted) c.args.self.now c.in-Some.found c.of-charges.result c.requires.ready found are (sym w.is_some-else-is_some.ensures ∙ w.if-is_some-2.true)
      | then-is_some-via-else-is_some+else-is_some-2+then-is_no_element w ↦ no_element_begun law (wanting c.args.wanted) c.args.self.now c.in-Some.found _ c.requires.ready found (alone_there _ c.args.self.now _ c.self.view_is c.alone_in-alone.ensures) (sym w.is_no_element.ensures ∙ w.if-is_no_element.true)
    ]

pub returns-clause-begins : goal.returns-clause-begins
returns-clause-begins g c =
    let found = found_is (wanting c.args.wanted) c.args.self.now c.args.found c.in-Some.found c.in-Some.is c.requires.found in
    let are = are_charged _ c.args.self.now c.in-Some.found.choice.rule c.of-charges.result _ c.self.view_is c.alone_in-alone.ensures c.of-charges.ensures in (
      begun_by c.chosen_suits.ensures.law (wanting c.args.wanted) c.args.self.now c.put_code.new.self c.args.toll.now c.pay_charges.new.toll c.in-Some.found c.of-charges.result _ c.requires.ready found are (alone_there _ c.args.self.now _ c.self.view_is c.alone_in-alone.ensures) (sym c.is_some.ensures ∙ c.if-is_some.false) (sym c.is_some-else-is_some.ensures ∙ c.if-is_some-2.false) (sym c.is_no_element.ensures ∙ c.if-is_no_element.false) c.in_ok-put_code.ensures.ok c.pay_charges.ensures,
      fitted_in (wanting c.args.wanted) c.args.self.now c.in-Some.found _ found refl,
    )

pub returns-in_default-clause-begins : goal.returns-in_default-clause-begins
returns-in_default-clause-begins g c = none_begun c.chosen_suits.ensures.law (wanting c.args.wanted) c.args.self.now c.requires.ready (none_found (wanting c.args.wanted) c.args.self.now c.args.found c.in_default.is c.requires.found)
