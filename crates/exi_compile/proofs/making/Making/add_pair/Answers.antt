use Rattle.std.proofs.Common.{◌+◌, ◌∙◌, ap, false, get_or, sym}
use Rattle.exi_gram.specs.Terminals.{rules_of}
use Rattle.exi_compiled.specs.Compiled.{item_type}
use Rattle.exi_compile.specs.Makings.{made_of}
use Rattle.exi_compile.specs.Order.{item}
use Rattle.exi_compile.proofs.Added.{pair_added, states_long, type_there}
use Rattle.exi_compile.proofs.Opens.{opened_same}
use Rattle.exi_compile.proofs.making.Making.add_pair.Goals as goal

pub returns : goal.returns
returns c =
    let s = c.args.source.now in
    let p = s.parts.now in
    let i = item c.args.item in
    let full = c.args.made.full in
    let empty = c.args.made.empty in
    let opens = opened_same p s.grammars.now s.otherwise c.requires.source.grammars c.requires.source.otherwise in
    pair_added p i (made_of c.args.self.now) (made_of c.add.new.self) (rules_of full) (rules_of empty) (rules_of c.open_all.new.grammar) (rules_of c.add_instance.new.grammar) (rules_of c.open_all-2.new.grammar)
    c.in_ok-total.total (get_or s.casts.now c.type_of.result false) c.is_nillable.result
    (c.in_ok-total.ensures ∙ (λ j. c.args.self.now.total + (sym (states_long full) j + sym (states_long empty) j)))
    (c.open_all.ensures ∙ opens (rules_of full))
    c.in_ok-add_instance.ensures
    (c.open_all-2.ensures ∙ opens (rules_of empty))
    (ap (λ k. get_or s.casts.now k false) c.type_of.ensures ∙ c.requires.source.casts.at (item_type p i) (type_there p i c.requires.source.parts c.requires.there))
    c.is_nillable.ensures
    c.in_ok-add.ensures
