use Rattle.std.proofs.Common.{◌<◌, ◌∷◌, length, take}
use Rattle.exi_builtin.specs.declared.element_grammar.ElementGrammar.{ElementGrammar}
use Rattle.exi_builtin.proofs.Naming.{on_ok}
use Rattle.exi_builtin.proofs.Spares.{changed_taken}
use Rattle.exi_builtin.proofs.grammar_list.GrammarList.learn_in_start_tag.Goals as goal

pub returns-clause-ok : goal.returns-clause-ok
returns-clause-ok c =
    let grammars = c.self.inside.items.items in
    let change : ElementGrammar → ElementGrammar = λ g. record g { start_tag = c.args.production ∷ g.start_tag } in
    let within : c.args.number < length (take c.self.inside.used grammars) = rw (← c.self.view_is) at c.requires.number in
    on_ok c.push.result c.push.ensures.ok
    (λ pushed. rw (← c.self.view_is, pushed)
    (changed_taken change grammars c.self.inside.used c.args.number c.index_mut-grammar.result.now c.self.invariant within c.index_mut-grammar.ensures.value))
