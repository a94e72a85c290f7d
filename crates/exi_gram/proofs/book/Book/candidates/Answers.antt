use Rattle.std.proofs.Common.{◌≡◌, List, length, get_or, [], ap, ◌∙◌, subst, arith}
use Rattle.exi_gram.specs.Books.{Contents}
use Rattle.exi_gram.specs.Candidates.{FindInAll}
use Rattle.exi_gram.specs.Codes.{Productions}
use Rattle.exi_gram.specs.Naming.{Entry}
use Rattle.exi_gram.proofs.Indexed.{all_count, index_at, row_at, states_count}
use Rattle.exi_gram.proofs.book.Book.candidates.Goals as goal

pub bounds-as_slice-grammar : goal.bounds-as_slice-grammar
bounds-as_slice-grammar c =
    let v : c.self.inside.states ≡ c.args.self.now.states = ap (λ (b : Contents). b.states) c.self.view_is in
    let f = subst (λ (z : List (List (Productions Entry))). FindInAll c.self.inside.indexes z) v c.self.invariant.2 in
    let n : length c.self.inside.indexes ≡ length c.args.self.now.states = all_count c.self.inside.indexes c.args.self.now.states f in
    let l : length c.as_slice.result.now ≡ length c.self.inside.indexes = ap length c.as_slice.ensures in
    omega (arith, n, l, c.requires.exists.grammar_is)

pub bounds-indexes-state : goal.bounds-indexes-state
bounds-indexes-state c =
    let v : c.self.inside.states ≡ c.args.self.now.states = ap (λ (b : Contents). b.states) c.self.view_is in
    let f = subst (λ (z : List (List (Productions Entry))). FindInAll c.self.inside.indexes z) v c.self.invariant.2 in
    let r = row_at c.self.inside.indexes c.as_slice.result.now c.args.self.now.states c.args.grammar c.index-as_slice-grammar.result c.as_slice-indexes.result.now f c.as_slice.ensures c.requires.exists.grammar_is c.index-as_slice-grammar.is c.as_slice-indexes.ensures in
    omega (arith, states_count c.as_slice-indexes.result.now (get_or c.args.self.now.states c.args.grammar []) r, c.requires.exists.state_is)

pub returns : goal.returns
returns c =
    let v : c.self.inside.states ≡ c.args.self.now.states = ap (λ (b : Contents). b.states) c.self.view_is in
    let f = subst (λ (z : List (List (Productions Entry))). FindInAll c.self.inside.indexes z) v c.self.invariant.2 in
    let r = row_at c.self.inside.indexes c.as_slice.result.now c.args.self.now.states c.args.grammar c.index-as_slice-grammar.result c.as_slice-indexes.result.now f c.as_slice.ensures c.requires.exists.grammar_is c.index-as_slice-grammar.is c.as_slice-indexes.ensures in
    c.find.ensures ∙ index_at c.as_slice-indexes.result.now (get_or c.args.self.now.states c.args.grammar []) c.args.state c.index-indexes-state.result r c.requires.exists.state_is c.index-indexes-state.is c.args.class c.args.name
