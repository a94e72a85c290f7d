use Rattle.std.proofs.Common.{◌++◌, ◌∙◌, ap, map, sym}
use Rattle.exi_gram.specs.Terminals.{cm, dt, pi, rule, se_any}
use Rattle.exi_gram.specs.Wholes.{opening, plain}
use Rattle.exi_compile.specs.Entries.{opened_as}
use Rattle.exi_compile.proofs.Produced.{document_listed, four_pushed}
use Rattle.exi_compile.proofs.wholes.content.Goals as goal

pub returns : goal.returns
returns c =
    let es = map opened_as c.args.globals.now in
    four_pushed rule (map (opening 2) es) c.push_globals.new.state c.push.new.self c.push-2.new.self c.push-3.new.self c.push-4.new.self c.plain.result c.plain-2.result c.plain-3.result c.plain-4.result
    (plain se_any 2) (plain dt 1) (plain cm 1) (plain pi 1)
    (c.in_ok-push_globals.ensures ∙ ap (λ z. map rule z ++ map (opening 2) es) c.new-state.ensures)
    c.in_ok-push.ensures.ok c.in_ok-push-2.ensures.ok c.in_ok-push-3.ensures.ok c.in_ok-push-4.ensures.ok
    c.plain.ensures c.plain-2.ensures c.plain-3.ensures c.plain-4.ensures
    ∙ sym (document_listed es)
