use Rattle.std.proofs.Common.{◌<◌, ◌^◌, All, List, length, map, subst}
use Rattle.std.proofs.lemmas.List.{take_all}
use Rattle.exi_gram.specs.declared.grammar.Grammar.{Grammar}
use Rattle.exi_gram.specs.declared.grammar.Production.{Production}
use Rattle.exi_gram.specs.Terminals.{rules_of}
use Rattle.exi_compile.specs.Whole.{AreFew}
use Rattle.exi_compile.proofs.Compiling.{few_more}
use Rattle.exi_compile.proofs.whole.have_few.Goals as goal

pub loop-grammar-preserved : goal.loop-grammar-preserved
loop-grammar-preserved c =
    let few : All (λ state. length state < 2 ^ 30) c.grammar-item.result.states = subst (λ (states : List (List Production)). All (λ state. length state < 2 ^ 30) states) c.as_slice.ensures (c.has_few.ensures c.if-not-has_few.false) in
    few_more c.args.grammars.now c.loop-grammar.grammar-index c.grammar-item.result c.loop-grammar-test.true c.grammar-item.is few c.loop-grammar.invariant

pub returns : goal.returns
returns c = λ _. subst (λ (g : List Grammar). AreFew (map rules_of g)) (take_all c.loop-grammar.grammar-index c.args.grammars.now c.loop-grammar-test.false) c.loop-grammar.invariant
