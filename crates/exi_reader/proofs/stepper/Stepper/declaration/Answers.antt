use Rattle.std.proofs.Common.{Some, refl}
use Rattle.exi_names.specs.Events as event
use Rattle.exi_typed.specs.Places.{declaration_in}
use Rattle.exi_typed.specs.Strings.{Declaration}
use Rattle.exi_processing.specs.Handing.{alone_of, leading_to}
use Rattle.exi_processing.specs.Plans.{declaration_plan}
use Rattle.exi_reader.proofs.StepParts.{made_by}
use Rattle.exi_reader.proofs.stepper.Stepper.declaration.Goals as goal

pub returns-clause-hands : goal.returns-clause-hands
returns-clause-hands g c =
    let d : Declaration = declaration_in (g.T.Tables.held c.read_declaration.new.tables) c.in_ok-declaration.declaration in (
      Some (event.ns d.uri d.prefix d.element),
      rw (← c.self.view_is, c.go_to.ensures.elements, c.go_to.ensures.outer)
          (made_by _ _ (declaration_plan c.self.inside.book.now (alone_of c.args.alone) (leading_to c.args.to)) _ d _ (rw (c.align-align.ensures, c.options.ensures.options) at c.in_ok-declaration.ensures.read) c.in_ok-refuse.ensures),
      rw (c.declaration_texts.ensures.uri, c.declaration_texts.ensures.prefix) at c.in_ok-see.ensures.ok,
      refl,
    )
