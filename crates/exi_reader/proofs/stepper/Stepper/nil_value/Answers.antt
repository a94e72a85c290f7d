use Rattle.std.proofs.Common.{◌≡◌, Some, sym, ap, subst, ◌∙◌, refl}
use Rattle.std.proofs.lemmas.Result.{err_from_is_err_and}
use Rattle.exi_bits.specs.declared.fault.Kind.TheVariants as kind
use Rattle.exi_names.specs.Events as event
use Rattle.exi_names.specs.Seen.{seen}
use Rattle.exi_names.specs.Shown.{named}
use Rattle.exi_typed.specs.Places.{IsNameAt, name_in}
use Rattle.exi_typed.specs.Strings.{Named}
use Rattle.exi_processing.specs.Handing.{Standing, alone_of}
use Rattle.exi_processing.proofs.Names.{name_kept}
use Rattle.exi_reader.proofs.StepParts.{made_emptying, nil_refused}
use Rattle.exi_reader.proofs.Handed.{see_stops}
use Rattle.exi_reader.proofs.stepper.Stepper.nil_value.Goals as goal

pub returns-in_err-refuse-clause-hands : goal.returns-in_err-refuse-clause-hands
returns-in_err-refuse-clause-hands g c =
    let p = err_from_is_err_and c.from_residual-in_err-refuse.result c.from_residual-in_err-refuse.ensures.1 in
    rw (p.1, p.2, ← c.self.view_is, c.in_err-refuse.ensures.1) (
      nil_refused c.self.inside.book.now _ c.args.bit (alone_of c.args.alone) (name_in (g.T.Tables.held c.self.inside.tables) c.args.name) c.args.to _ (seen c.in_ok-value.value) _ kind.ScRoot c.requires.nil c.in_ok-value.ensures.read c.in_err-refuse.ensures.0,
      g.met.E.EventOut.none c.args.out.now,
    )

pub name_ref-requires : goal.name_ref-requires
name_ref-requires g c =
    let places : IsNameAt (g.T.Tables.held c.self.inside.tables) c.args.name = subst (λ (s : Standing). IsNameAt s.config.tables c.args.name) (sym c.self.view_is) c.requires.places in
    (name_kept (g.T.Tables.held c.self.inside.tables) (g.T.Tables.held c.nil_read.new.tables) c.in_ok-value.ensures.keeps c.args.name places).1

pub returns-in_err-see_value-clause-hands : goal.returns-in_err-see_value-clause-hands
returns-in_err-see_value-clause-hands g c =
    let places : IsNameAt (g.T.Tables.held c.self.inside.tables) c.args.name = subst (λ (s : Standing). IsNameAt s.config.tables c.args.name) (sym c.self.view_is) c.requires.places in
    let kept = name_kept (g.T.Tables.held c.self.inside.tables) (g.T.Tables.held c.nil_read.new.tables) c.in_ok-value.ensures.keeps c.args.name places in
    let told : named c.name_ref.result ≡ (name_in (g.T.Tables.held c.self.inside.tables) c.args.name).name = c.name_ref.ensures ∙ ap (λ (z : Named). z.name) kept.0 in
    let p = err_from_is_err_and c.from_residual-in_err-see_value.result c.from_residual-in_err-see_value.ensures.1 in
    rw (p.1, p.2, ← c.self.view_is)
    (see_stops g.E.EventOut.took g.E.EventOut.broke c.in_err-see_value.field-0.0 (record { setting = c.self.inside.book.now; bytes = c.nil_read.new.input.bytes; config = _ }) _ _ _ _ _ (made_emptying c.self.inside.book.now _ c.args.bit (alone_of c.args.alone) (name_in (g.T.Tables.held c.self.inside.tables) c.args.name) c.args.to _ (seen c.in_ok-value.value) _ c.requires.nil c.in_ok-value.ensures.read c.in_ok-refuse.ensures) c.in_err-see_value.ensures.memory (rw (told) at c.in_err-see_value.ensures.broke))

pub returns-clause-hands : goal.returns-clause-hands
returns-clause-hands g c =
    let places : IsNameAt (g.T.Tables.held c.self.inside.tables) c.args.name = subst (λ (s : Standing). IsNameAt s.config.tables c.args.name) (sym c.self.view_is) c.requires.places in
    let kept = name_kept (g.T.Tables.held c.self.inside.tables) (g.T.Tables.held c.nil_read.new.tables) c.in_ok-value.ensures.keeps c.args.name places in
    let told : named c.name_ref.result ≡ (name_in (g.T.Tables.held c.self.inside.tables) c.args.name).name = c.name_ref.ensures ∙ ap (λ (z : Named). z.name) kept.0 in (
      Some (event.at (name_in (g.T.Tables.held c.self.inside.tables) c.args.name).name (seen c.in_ok-value.value)),
      rw (← c.self.view_is, c.empty_by.ensures) (made_emptying c.self.inside.book.now _ c.args.bit (alone_of c.args.alone) (name_in (g.T.Tables.held c.self.inside.tables) c.args.name) c.args.to _ (seen c.in_ok-value.value) _ c.requires.nil c.in_ok-value.ensures.read c.in_ok-refuse.ensures),
      rw (told) at c.in_ok-see_value.ensures.ok,
      refl,
    )
