use Rattle.std.proofs.Common.{◌++◌, ◌∙◌, ap, map, sym}
use Rattle.exi_gram.specs.Terminals.{cm, ed, pi, rule, se_any}
use Rattle.exi_gram.specs.Wholes.{opening, plain}
use Rattle.exi_compile.proofs.Produced.{fragment_listed, four_pushed}
use Rattle.exi_compile.proofs.wholes.elements.Goals as goal

pub returns : goal.returns
returns c =
    let es = c.args.named.now in
    four_pushed rule (map (opening 1) es) c.push_named.new.state c.push.new.self c.push-2.new.self c.push-3.new.self c.push-4.new.self c.plain.result c.plain-2.result c.plain-3.result c.plain-4.result
    (plain se_any 1) (plain ed 1) (plain cm 1) (plain pi 1)
    (c.in_ok-push_named.ensures ∙ ap (λ z. map rule z ++ map (opening 1) es) c.new-state.ensures)
    c.in_ok-push.ensures.ok c.in_ok-push-2.ensures.ok c.in_ok-push-3.ensures.ok c.in_ok-push-4.ensures.ok
    c.plain.ensures c.plain-2.ensures c.plain-3.ensures c.plain-4.ensures
    ∙ sym (fragment_listed es)
