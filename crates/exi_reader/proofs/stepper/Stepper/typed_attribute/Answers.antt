use Rattle.std.proofs.Common.{◌≡◌, Some, sym, ap, subst, ◌∙◌, refl}
use Rattle.std.proofs.lemmas.Result.{err_from_is_err_and}
use Rattle.exi_names.specs.Datatypes.{represented}
use Rattle.exi_names.specs.Events as event
use Rattle.exi_names.specs.Seen.{seen}
use Rattle.exi_names.specs.Shown.{named}
use Rattle.exi_typed.specs.Places.{IsNameAt, name_in}
use Rattle.exi_typed.specs.Strings.{Named}
use Rattle.exi_processing.specs.Handing.{Standing, alone_of}
use Rattle.exi_processing.proofs.Names.{name_kept}
use Rattle.exi_reader.proofs.StepParts.{made_valued}
use Rattle.exi_reader.proofs.Handed.{see_stops}
use Rattle.exi_reader.proofs.stepper.Stepper.typed_attribute.Goals as goal

pub name_ref-requires : goal.name_ref-requires
name_ref-requires g c =
    let places : IsNameAt (g.T.Tables.held c.self.inside.tables) c.args.name = subst (λ (s : Standing). IsNameAt s.config.tables c.args.name) (sym c.self.view_is) c.requires.places in
    (name_kept (g.T.Tables.held c.self.inside.tables) (g.T.Tables.held c.typed_value.new.tables) c.in_ok-value.ensures.keeps c.args.name places).1

pub returns-in_err-see_value-clause-hands : goal.returns-in_err-see_value-clause-hands
returns-in_err-see_value-clause-hands g c =
    let places : IsNameAt (g.T.Tables.held c.self.inside.tables) c.args.name = subst (λ (s : Standing). IsNameAt s.config.tables c.args.name) (sym c.self.view_is) c.requires.places in
    let kept = name_kept (g.T.Tables.held c.self.inside.tables) (g.T.Tables.held c.typed_value.new.tables) c.in_ok-value.ensures.keeps c.args.name places in
    let told : named c.name_ref.result ≡ (name_in (g.T.Tables.held c.self.inside.tables) c.args.name).name = c.name_ref.ensures ∙ ap (λ (z : Named). z.name) kept.0 in
    let p = err_from_is_err_and c.from_residual-in_err-see_value.result c.from_residual-in_err-see_value.ensures.1 in
    rw (p.1, p.2, ← c.self.view_is)
    (see_stops g.E.EventOut.took g.E.EventOut.broke c.in_err-see_value.field-0.0 (record { setting = c.self.inside.book.now; bytes = c.typed_value.new.input.bytes; config = _ }) _ _ _ _ _ (made_valued c.self.inside.book.now _ c.args.bit (alone_of c.args.alone) (represented c.args.datatype.now) (name_in (g.T.Tables.held c.self.inside.tables) c.args.name) c.args.to _ (seen c.in_ok-value.value) _ c.in_ok-value.ensures.read c.in_ok-refuse.ensures) c.in_err-see_value.ensures.memory (rw (told) at c.in_err-see_value.ensures.broke))

pub returns-clause-hands : goal.returns-clause-hands
returns-clause-hands g c =
    let places : IsNameAt (g.T.Tables.held c.self.inside.tables) c.args.name = subst (λ (s : Standing). IsNameAt s.config.tables c.args.name) (sym c.self.view_is) c.requires.places in
    let kept = name_kept (g.T.Tables.held c.self.inside.tables) (g.T.Tables.held c.typed_value.new.tables) c.in_ok-value.ensures.keeps c.args.name places in
    let told : named c.name_ref.result ≡ (name_in (g.T.Tables.held c.self.inside.tables) c.args.name).name = c.name_ref.ensures ∙ ap (λ (z : Named). z.name) kept.0 in (
      Some (event.at (name_in (g.T.Tables.held c.self.inside.tables) c.args.name).name (seen c.in_ok-value.value)),
      rw (← c.self.view_is, c.go_to.ensures.elements, c.go_to.ensures.outer) (made_valued c.self.inside.book.now _ c.args.bit (alone_of c.args.alone) (represented c.args.datatype.now) (name_in (g.T.Tables.held c.self.inside.tables) c.args.name) c.args.to _ (seen c.in_ok-value.value) _ c.in_ok-value.ensures.read c.in_ok-refuse.ensures),
      rw (told) at c.in_ok-see_value.ensures.ok,
      refl,
    )
