use Rattle.std.proofs.Common.{◌<◌, ◌^◌, All, List, length, sym, ap, ◌∙◌, subst, arith}
use Rattle.exi_gram.specs.declared.grammar.Grammar.{Grammar}
use Rattle.exi_gram.specs.declared.grammar.Production.{Production}
use Rattle.exi_codes.proofs.Assembling.{all_productions_few, all_states_few, fragment_few, globals_few}
use Rattle.exi_codes.proofs.maker.Maker.all_states.Goals as goal

pub document-requires : goal.document-requires
document-requires c =
    let few : length c.args.schema.now.globals < 2 ^ 30 = globals_few c.args.schema.now c.globals.ensures.schema in
    record { few = omega (arith, few, ap length c.globals.ensures.globals) }

pub fragment-requires-2 : goal.fragment-requires-2
fragment-requires-2 c =
    let few : length c.args.schema.now.fragment < 2 ^ 30 = fragment_few c.args.schema.now (sym c.is_known.ensures.known ∙ c.if-not-is_known.false) c.fragment.ensures.schema in
    record { few = omega (arith, few, ap length c.fragment.ensures.fragment) }

pub push_parts-requires-clause-states : goal.push_parts-requires-clause-states
push_parts-requires-clause-states c =
    subst (All (λ (g : Grammar). length g.states < 2 ^ 30)) (sym c.parts.ensures) (all_states_few c.args.schema.now c.grammars.result.now c.grammars.ensures.grammars c.grammars.ensures.schema)

pub push_parts-requires-clause-productions : goal.push_parts-requires-clause-productions
push_parts-requires-clause-productions c =
    subst (All (λ (g : Grammar). All (λ (state : List Production). length state < 2 ^ 30) g.states)) (sym c.parts.ensures) (all_productions_few c.args.schema.now c.grammars.result.now c.grammars.ensures.grammars c.grammars.ensures.schema)
