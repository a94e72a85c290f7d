use Rattle.std.proofs.Common.{◌≡◌, sym, subst, Result}
use Rattle.exi_gram.specs.Switches.{align_of}
use Rattle.exi_names.specs.Datatypes.{represented}
use Rattle.exi_names.specs.Seen as value
use Rattle.exi_typed.specs.ReadStates.{Failure}
use Rattle.exi_processing.specs.Changes.{innermost}
use Rattle.exi_processing.specs.Handing.{HandsAny}
use Rattle.exi_processing.specs.Plans.{Given}
use Rattle.exi_reader.proofs.StepParts.{characters_read}
use Rattle.exi_reader.proofs.stepper.Stepper.octets_inside.Goals as goal

pub returns-in-Some-clause-hands : goal.returns-in-Some-clause-hands
returns-in-Some-clause-hands g c =
    subst (λ (r : Result Given Failure). HandsAny g.E.EventOut.took g.E.EventOut.broke c.made_octets.result c.made_octets.new.self r c.args.out.now c.made_octets.new.out)
    (sym (rw (← c.self.view_is) (characters_read c.self.inside.book.now _ c.args.bit (represented c.args.declared.now) c.args.to _ (value.binary c.args.hex c.in-Some.octets) _ (rw (← c.requires.is) at (c.in-Some.ensures.read c.args.hex (align_of c.self.inside.book.now.options) (innermost c.self.inside.elements) (g.T.Tables.held c.self.inside.tables))))))
    c.made_octets.ensures.hands

pub typed_apart-requires-clause-roomy : goal.typed_apart-requires-clause-roomy
typed_apart-requires-clause-roomy g c =
    let stays : (c.short_octets.new.input ≡ c.self.inside.input) × (c.short_octets.new.meter ≡ c.self.inside.meter) = c.in-None.ensures.read c.args.hex (align_of c.self.inside.book.now.options) (innermost c.self.inside.elements) (g.T.Tables.held c.self.inside.tables) in
    rw stays.1 (rw (← c.self.view_is) at c.requires.roomy)

pub returns-in-None-clause-hands : goal.returns-in-None-clause-hands
returns-in-None-clause-hands g c =
    let stays : (c.short_octets.new.input ≡ c.self.inside.input) × (c.short_octets.new.meter ≡ c.self.inside.meter) = c.in-None.ensures.read c.args.hex (align_of c.self.inside.book.now.options) (innermost c.self.inside.elements) (g.T.Tables.held c.self.inside.tables) in
    rw (← c.self.view_is) (rw (stays.0, stays.1) at c.typed_apart.ensures.hands)
