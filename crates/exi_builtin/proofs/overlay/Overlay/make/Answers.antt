use Rattle.std.proofs.Common.{◌≡◌, ◌<◌, ◌^◌, [], ◌∷◌, None, arith, length}
use Rattle.std.specs.Prelude.{position}
use Rattle.std.proofs.lemmas.List.{length-append}
use Rattle.exi_builtin.specs.declared.element_grammar.ElementGrammar.{ElementGrammar}
use Rattle.exi_builtin.specs.Learning.{new_grammar}
use Rattle.exi_names.specs.NameMaps.{same_name}
use Rattle.exi_builtin.proofs.Naming.{numbers_push}
use Rattle.exi_builtin.proofs.overlay.Overlay.make.Goals as goal

pub invariant_of-self-in-Ok : goal.invariant_of-self-in-Ok
invariant_of-self-in-Ok c =
    let grammars = c.self.inside.grammars in
    let absent : position (λ (g : ElementGrammar). same_name g.name c.args.name) grammars ≡ None = rw (← c.self.view_is) at c.requires.absent in
    let room : length grammars < 2 ^ 31 = rw (← c.self.view_is) at c.requires.room in
    rw c.in_ok-push.ensures.ok
    (record {
      numbers = λ name. numbers_push grammars c.args.name name _ _ c.len-number.result c.len-number.ensures absent (c.self.invariant.numbers name) (c.in-Ok.ensures.ok name);
      few = omega (arith, length-append grammars (new_grammar c.args.name ∷ []), room);
    })
