use Rattle.std.proofs.Common.{◌≡◌, Result, sym, ap, subst, ◌∙◌}
use Rattle.std.specs.Option.{option_copied}
use Rattle.exi_names.specs.Datatypes.{Representation}
use Rattle.exi_typed.specs.Places.{name_in}
use Rattle.exi_typed.specs.ReadStates.{Failure}
use Rattle.exi_typed.specs.Strings.{Named}
use Rattle.exi_processing.specs.Configurations.{Config}
use Rattle.exi_gram.specs.Globals.{attribute_datatype}
use Rattle.exi_processing.specs.Handing.{HandsAny, alone_of, datatype_in, valued_made}
use Rattle.exi_processing.specs.Plans.{Given}
use Rattle.exi_reader.proofs.StepParts.{by_name_is}
use Rattle.exi_reader.proofs.stepper.Stepper.value_by_name.Goals as goal

pub returns-clause-hands : goal.returns-clause-hands
returns-clause-hands g c =
    let before : Config = record { start = c.self.inside.start; place = c.self.inside.input.place; meter = c.self.inside.meter; tables = g.T.Tables.held c.self.inside.tables; elements = c.self.inside.elements; outer = c.self.inside.outer; learned = c.self.inside.overlay; after_start = c.self.inside.after_start; root = c.self.inside.root; aside = c.self.inside.aside } in
    let name : Named = name_in (g.T.Tables.held c.self.inside.tables) c.args.name in
    let is : datatype_in (option_copied c.attribute_datatype-datatype.result) ≡ attribute_datatype c.self.inside.book.now.schema.attributes name.name = rw c.name_ref.ensures at c.attribute_datatype-datatype.ensures in
    rw (← c.self.view_is)
    (subst (λ (r : Result Given Failure). HandsAny g.E.EventOut.took g.E.EventOut.broke c.declared_value.result c.declared_value.new.self r c.args.out.now c.declared_value.new.out)
    (sym (by_name_is c.self.inside.book.now c.self.inside.input.bytes c.args.bit (alone_of c.args.alone) name c.args.to before (sym c.is_type.ensures ∙ c.if-is_type.false) (sym c.is_nil.ensures ∙ c.if-is_nil.false)
    ∙ ap (λ (d : Representation). valued_made c.self.inside.book.now c.self.inside.input.bytes c.args.bit (alone_of c.args.alone) d name c.args.to before) (sym is)))
    (rw (← c.self.view_is) at c.declared_value.ensures.hands))
