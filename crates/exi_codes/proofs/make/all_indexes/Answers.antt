use Rattle.std.proofs.Common.{◌+◌, List, [], ◌∷◌, ◌++◌, take, sym, ap, ◌∙◌, subst}
use Rattle.std.proofs.lemmas.List.{take_more}
use Rattle.exi_gram.specs.Candidates.{FindInAll, FindInStates, Listed}
use Rattle.exi_gram.specs.Codes.{Productions}
use Rattle.exi_gram.specs.Naming.{Entry}
use Rattle.exi_codes.proofs.Assembling.{all_more}
use Rattle.exi_codes.proofs.make.all_indexes.Goals as goal

pub loop-grammar-preserved : goal.loop-grammar-preserved
loop-grammar-preserved c =
    let i = c.loop-grammar.grammar-index in
    subst (λ (z : List (List Listed)). FindInAll z (take (i + 1) c.args.states.now)) (sym c.in_ok-push.ensures.ok)
    (subst (λ (z : List (List (Productions Entry))). FindInAll (c.loop-grammar.indexes ++ c.in_ok-indexes_for.field-0 ∷ []) z)
    (sym (take_more c.args.states.now i c.grammar-item.result c.loop-grammar-test.true ∙ ap (λ (p : List (Productions Entry)). take i c.args.states.now ++ p ∷ []) (sym c.grammar-item.is)))
    (all_more c.loop-grammar.indexes (take i c.args.states.now) c.in_ok-indexes_for.field-0 c.grammar-item.result c.loop-grammar.invariant
    (subst (FindInStates c.in_ok-indexes_for.field-0) c.as_slice.ensures c.in_ok-indexes_for.ensures)))
