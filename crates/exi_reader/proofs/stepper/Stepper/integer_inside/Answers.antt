use Rattle.std.proofs.Common.{◌≡◌, sym, subst, Result}
use Rattle.exi_names.specs.Datatypes.{represented}
use Rattle.exi_names.specs.Seen as value
use Rattle.exi_typed.specs.ReadStates.{Failure}
use Rattle.exi_processing.specs.Changes.{innermost}
use Rattle.exi_processing.specs.Handing.{HandsAny}
use Rattle.exi_processing.specs.Plans.{Given}
use Rattle.exi_reader.proofs.StepParts.{characters_read}
use Rattle.exi_reader.proofs.stepper.Stepper.integer_inside.Goals as goal

pub returns-in-Some-clause-hands : goal.returns-in-Some-clause-hands
returns-in-Some-clause-hands g c =
    subst (λ (r : Result Given Failure). HandsAny g.E.EventOut.took g.E.EventOut.broke c.made_integer.result c.made_integer.new.self r c.args.out.now c.made_integer.new.out)
    (sym (rw (← c.self.view_is) (characters_read c.self.inside.book.now _ c.args.bit (represented c.args.datatype.now) c.args.to _ (value.integer c.in-Some.whole) _ (rw (c.align-align.ensures, c.options.ensures.options) at (c.in-Some.ensures.read (innermost c.self.inside.elements) (g.T.Tables.held c.self.inside.tables))))))
    c.made_integer.ensures.hands

pub typed_apart-requires-clause-roomy : goal.typed_apart-requires-clause-roomy
typed_apart-requires-clause-roomy g c =
    let stays : (c.short_integer.new.input ≡ c.self.inside.input) × (c.short_integer.new.meter ≡ c.self.inside.meter) = c.in-None.ensures.read (innermost c.self.inside.elements) (g.T.Tables.held c.self.inside.tables) in
    rw stays.1 (rw (← c.self.view_is) at c.requires.roomy)

pub returns-in-None-clause-hands : goal.returns-in-None-clause-hands
returns-in-None-clause-hands g c =
    let stays : (c.short_integer.new.input ≡ c.self.inside.input) × (c.short_integer.new.meter ≡ c.self.inside.meter) = c.in-None.ensures.read (innermost c.self.inside.elements) (g.T.Tables.held c.self.inside.tables) in
    rw (← c.self.view_is) (rw (stays.0, stays.1) at c.typed_apart.ensures.hands)
