use Rattle.std.proofs.Common.{◌≡◌, Some, sym, ap, subst, ◌∙◌, refl}
use Rattle.std.proofs.lemmas.Result.{err_from_is_err_and}
use Rattle.exi_names.specs.Events as event
use Rattle.exi_names.specs.Seen as value
use Rattle.exi_names.specs.Shown.{named}
use Rattle.exi_typed.specs.Places.{IsNameAt, name_in}
use Rattle.exi_typed.specs.Strings.{Named}
use Rattle.exi_processing.specs.Handing.{Standing}
use Rattle.exi_processing.proofs.Names.{name_kept}
use Rattle.exi_reader.proofs.StepParts.{made_typing}
use Rattle.exi_reader.proofs.Handed.{see_stops}
use Rattle.exi_reader.proofs.stepper.Stepper.type_value_apart.Goals as goal

pub name_ref-requires-2 : goal.name_ref-requires-2
name_ref-requires-2 g c =
    let places : IsNameAt (g.T.Tables.held c.self.inside.tables) c.args.name = subst (λ (s : Standing). IsNameAt s.config.tables c.args.name) (sym c.self.view_is) c.requires.places in
    (name_kept (g.T.Tables.held c.self.inside.tables) (g.T.Tables.held c.read_type.new.tables) c.in_ok-found.ensures.keeps c.args.name places).1

pub returns-in_err-see_name-clause-hands : goal.returns-in_err-see_name-clause-hands
returns-in_err-see_name-clause-hands g c =
    let places : IsNameAt (g.T.Tables.held c.self.inside.tables) c.args.name = subst (λ (s : Standing). IsNameAt s.config.tables c.args.name) (sym c.self.view_is) c.requires.places in
    let kept = name_kept (g.T.Tables.held c.self.inside.tables) (g.T.Tables.held c.read_type.new.tables) c.in_ok-found.ensures.keeps c.args.name places in
    let told : named c.name_ref-2.result ≡ (name_in (g.T.Tables.held c.self.inside.tables) c.args.name).name = c.name_ref-2.ensures ∙ ap (λ (z : Named). z.name) kept.0 in
    let found : c.in_ok-value.value ≡ (name_in (g.T.Tables.held c.read_type.new.tables) c.in_ok-found.found.name).name = c.in_ok-value.ensures ∙ c.name_ref.ensures in
    let p = err_from_is_err_and c.from_residual-in_err-see_name.result c.from_residual-in_err-see_name.ensures.1 in
    rw (p.1, p.2, ← c.self.view_is)
    (see_stops g.E.EventOut.took g.E.EventOut.broke c.in_err-see_name.field-0.0 (record { setting = c.self.inside.book.now; bytes = c.read_type.new.input.bytes; config = _ }) _ _ _ _ _ (made_typing c.self.inside.book.now _ _ _ c.args.valuing (name_in (g.T.Tables.held c.self.inside.tables) c.args.name) c.args.to _ _ _ _ c.requires.acts c.in_ok-found.ensures.read c.in_ok-refuse.ensures c.in_ok-found.ensures.grammar) c.in_err-see_name.ensures.memory (rw (told, found) at c.in_err-see_name.ensures.broke))

pub returns-clause-hands : goal.returns-clause-hands
returns-clause-hands g c =
    let places : IsNameAt (g.T.Tables.held c.self.inside.tables) c.args.name = subst (λ (s : Standing). IsNameAt s.config.tables c.args.name) (sym c.self.view_is) c.requires.places in
    let kept = name_kept (g.T.Tables.held c.self.inside.tables) (g.T.Tables.held c.read_type.new.tables) c.in_ok-found.ensures.keeps c.args.name places in
    let told : named c.name_ref-2.result ≡ (name_in (g.T.Tables.held c.self.inside.tables) c.args.name).name = c.name_ref-2.ensures ∙ ap (λ (z : Named). z.name) kept.0 in
    let found : c.in_ok-value.value ≡ (name_in (g.T.Tables.held c.read_type.new.tables) c.in_ok-found.found.name).name = c.in_ok-value.ensures ∙ c.name_ref.ensures in (
      Some (event.at (name_in (g.T.Tables.held c.self.inside.tables) c.args.name).name (value.name (name_in (g.T.Tables.held c.read_type.new.tables) c.in_ok-found.found.name).name)),
      rw (← c.self.view_is, c.retype.ensures.elements, c.retype.ensures.outer) (made_typing c.self.inside.book.now _ _ _ c.args.valuing (name_in (g.T.Tables.held c.self.inside.tables) c.args.name) c.args.to _ _ _ _ c.requires.acts c.in_ok-found.ensures.read c.in_ok-refuse.ensures c.in_ok-found.ensures.grammar),
      rw (told, found) at c.in_ok-see_name.ensures.ok,
      refl,
    )
