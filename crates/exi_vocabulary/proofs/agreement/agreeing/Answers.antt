use Rattle.std.proofs.Common.{ap, map, ◌∙◌}
use Rattle.std.proofs.lemmas.List.{take_all}
use Rattle.exi_vocabulary.specs.Agreement.{Decl, agree_or, shown, told_of}
use Rattle.exi_vocabulary.proofs.Agrees.{all_agree}
use Rattle.exi_vocabulary.proofs.Tellings.{agreed_more}
use Rattle.exi_vocabulary.proofs.agreement.agreeing.Goals as goal

pub loop-one-preserved : goal.loop-one-preserved
loop-one-preserved c =
    agreed_more c.args.declared.now c.loop-one.one-index c.one-item.result c.loop-one.agree c.push.new.self c.agree_or.result c.loop-one-test.true c.one-item.is c.in_ok-push.ensures.ok
    (c.agree_or.ensures ∙ ap agree_or (c.get.ensures.value ∙ c.in_ok-tolds.ensures c.one-item.result.name))
    c.loop-one.invariant

pub returns : goal.returns
returns c =
    c.loop-one.invariant
    ∙ ap (λ l. map (λ (d : Decl). agree_or (told_of d.name (map shown c.args.declared.now))) (map shown l)) (take_all c.loop-one.one-index c.args.declared.now c.loop-one-test.false)
    ∙ all_agree (map shown c.args.declared.now)
