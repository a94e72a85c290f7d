use Rattle.std.proofs.Common.{◌≡◌, Some, refl, sym, ap, ◌∙◌, rules}
use Rattle.exi_names.specs.declared.datatype.Datatype.{fold-roll-Datatype}
use Rattle.exi_names.specs.declared.datatype.Datatype.TheOpen.{Datatype-F}
use Rattle.exi_names.specs.declared.datatype.Datatype.TheVariants.{rolls-Text}
use Rattle.exi_names.specs.declared.datatype.Datatype.TheVariants as shape
use Rattle.exi_names.specs.Datatypes.{Representation, represented, represented_step}
use Rattle.exi_names.specs.Datatypes as datatype
use Rattle.exi_names.specs.Events as event
use Rattle.exi_names.specs.Seen.{seen}
use Rattle.exi_processing.specs.Handing.{alone_of, leading_to, making}
use Rattle.exi_processing.specs.Plans.{characters_plan}
use Rattle.exi_reader.proofs.StepParts.{made_by}
use Rattle.exi_reader.proofs.stepper.Stepper.typed_characters.Goals as goal

text_shown : represented shape.Text ≡ datatype.text
text_shown = ap represented (sym rolls-Text) ∙ fold-roll-Datatype Representation represented_step Datatype-F.Text

pub returns-in-Text-clause-hands : goal.returns-in-Text-clause-hands
returns-in-Text-clause-hands g c = rw (c.in-Text.is, text_shown) c.characters.ensures.hands

pub returns-in-Err-Fault : goal.returns-in-Err-Fault
unfolding making
returns-in-Err-Fault g c = record {
  hands = search rules;
  setting = search rules;
  bytes = search rules;
  root = search rules;
  same = search rules;
  later = search rules;
  stopped = search rules;
}

pub returns-in-Ok-clause-hands : goal.returns-in-Ok-clause-hands
returns-in-Ok-clause-hands g c = (
  Some (event.ch (seen c.in-Ok.value)),
  rw (← c.self.view_is, c.go_to.ensures.elements, c.go_to.ensures.outer, c.in_ok-learn.ensures.ok)
      (made_by _ _ (characters_plan c.self.inside.book.now (alone_of c.args.alone) c.self.inside.elements (represented c.args.datatype.now) (leading_to c.args.to)) _ (seen c.in-Ok.value) _
      (rw (c.in-Ok.is, c.innermost-name.ensures) at c.typed_value-read.ensures.read)
      c.in_ok-refuse-in-Ok.ensures),
  c.in_ok-see_characters-in-Ok.ensures.ok,
  refl,
)
