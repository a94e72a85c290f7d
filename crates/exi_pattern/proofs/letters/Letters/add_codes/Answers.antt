use Rattle.std.proofs.Common.{◌≡◌, ◌+◌, ◌-◌, ap, sym, ◌∙◌}
use Rattle.exi_pattern.specs.Sets.{every, with_codes}
use Rattle.exi_pattern.proofs.Sets.{code_step, coded, codes_every, is_none_is, not_coded}
use Rattle.exi_pattern.proofs.letters.Letters.add_codes.Goals as goal
use Rattle.exi_pattern.proofs.letters.Letters.add_codes.Goals.{in-Some+in_ok-add, in_default}

pub returns-then-is_any : goal.returns-then-is_any
returns-then-is_any c =
    let e : c.loop-code.self ≡ every = is_none_is c.loop-code.self (sym c.is_any.ensures ∙ c.if-is_any.true) in
    e
    ∙ sym (codes_every (c.args.first + c.args.count - c.loop-code.code) c.loop-code.code)
    ∙ ap (with_codes c.loop-code.code (c.args.first + c.args.count - c.loop-code.code)) (sym e)
    ∙ c.loop-code.invariant

pub loop-code-preserved : goal.loop-code-preserved
loop-code-preserved c =
    code_step c.loop-code.code (c.args.first + c.args.count) c.loop-code.self c.match-xml_char.self (with_codes c.args.first c.args.count c.args.self.now) c.loop-code-test.true
    (elim c.match-xml_char.branch [
      | in-Some+in_ok-add w ↦ w.self-is ∙ w.in_ok-add.ensures ∙ coded c.loop-code.code c.from.result w.in-Some.c c.loop-code.self c.from.ensures w.in-Some.ensures.some.0 w.in-Some.ensures.some.1
      | in_default w ↦ w.self-is ∙ not_coded c.loop-code.code c.from.result c.loop-code.self c.from.ensures w.in_default.ensures.none
    ])
    c.loop-code.invariant
