use Rattle.std.proofs.Common.{◌^◌, ◌-◌, ◌+◌, Result, false, sym, subst, ◌∙◌}
use Rattle.std.specs.Option.{option_copied}
use Rattle.exi_tables.specs.Growth.{NoneLonger}
use Rattle.exi_typed.specs.ReadStates.{Failure, read_state}
use Rattle.exi_typed.specs.Places.{name_in}
use Rattle.exi_typed.specs.Strings.{Named}
use Rattle.exi_processing.specs.Configurations.{Config, reached}
use Rattle.exi_processing.specs.Handing.{HandsAny, Standing, alone_of, datatype_in, telling_of}
use Rattle.exi_processing.specs.Plans.{Given}
use Rattle.exi_processing.specs.Rules.{by_name, typed, untyped}
use Rattle.exi_reader.proofs.StepParts.{typed_is, untyped_is, valued, with_attribute}
use Rattle.exi_processing.proofs.ToldNames.{told_roomy}
use Rattle.exi_reader.proofs.stepper.Stepper.attribute.Goals as goal

pub declared_value-requires-clause-roomy : goal.declared_value-requires-clause-roomy
declared_value-requires-clause-roomy g c =
    told_roomy c.self.inside.book.now (telling_of c.args.telling) (name_in (g.T.Tables.held c.told_name.new.tables) c.in_ok-name.name) (read_state c.self.inside.input c.self.inside.meter (g.T.Tables.held c.self.inside.tables)) (read_state c.told_name.new.input c.told_name.new.meter (g.T.Tables.held c.told_name.new.tables)) c.in_ok-name.ensures.read
    (subst (λ (s : Standing). NoneLonger (2 ^ 31 - 2 ^ 28 - 2 + s.config.meter.used.text) s.config.tables) (sym c.self.view_is) c.requires.roomy)

pub value_by_name-requires-clause-roomy : goal.value_by_name-requires-clause-roomy
value_by_name-requires-clause-roomy g c =
    told_roomy c.self.inside.book.now (telling_of c.args.telling) (name_in (g.T.Tables.held c.told_name.new.tables) c.in_ok-name.name) (read_state c.self.inside.input c.self.inside.meter (g.T.Tables.held c.self.inside.tables)) (read_state c.told_name.new.input c.told_name.new.meter (g.T.Tables.held c.told_name.new.tables)) c.in_ok-name.ensures.read
    (subst (λ (s : Standing). NoneLonger (2 ^ 31 - 2 ^ 28 - 2 + s.config.meter.used.text) s.config.tables) (sym c.self.view_is) c.requires.roomy)

pub returns-in-Typed-clause-hands : goal.returns-in-Typed-clause-hands
returns-in-Typed-clause-hands g c =
    let before : Config = record { start = c.self.inside.start; place = c.self.inside.input.place; meter = c.self.inside.meter; tables = g.T.Tables.held c.self.inside.tables; elements = c.self.inside.elements; outer = c.self.inside.outer; learned = c.self.inside.overlay; after_start = c.self.inside.after_start; root = c.self.inside.root; aside = c.self.inside.aside } in
    let name : Named = name_in (g.T.Tables.held c.told_name.new.tables) c.in_ok-name.name in
    rw (← c.self.view_is, c.in-Typed.is)
    (subst (λ (r : Result Given Failure). HandsAny g.E.EventOut.took g.E.EventOut.broke c.declared_value.result c.declared_value.new.self r c.args.out.now c.declared_value.new.out)
    (sym (valued c.self.inside.book.now c.self.inside.input.bytes c.args.bit (alone_of c.args.alone) (telling_of c.args.telling) (typed (datatype_in (option_copied c.args.datatype))) c.args.to before name _ c.in_ok-name.ensures.read
    ∙ typed_is c.self.inside.book.now _ c.args.bit (alone_of c.args.alone) (datatype_in (option_copied c.args.datatype)) name c.args.to (with_attribute (telling_of c.args.telling) name (reached (read_state c.told_name.new.input c.told_name.new.meter (g.T.Tables.held c.told_name.new.tables)) before))))
    (rw (c.in_ok-learn_name.ensures.ok) at c.declared_value.ensures.hands))

pub returns-in-ByName-clause-hands : goal.returns-in-ByName-clause-hands
returns-in-ByName-clause-hands g c =
    let before : Config = record { start = c.self.inside.start; place = c.self.inside.input.place; meter = c.self.inside.meter; tables = g.T.Tables.held c.self.inside.tables; elements = c.self.inside.elements; outer = c.self.inside.outer; learned = c.self.inside.overlay; after_start = c.self.inside.after_start; root = c.self.inside.root; aside = c.self.inside.aside } in
    let name : Named = name_in (g.T.Tables.held c.told_name.new.tables) c.in_ok-name.name in
    rw (← c.self.view_is, c.in-ByName.is)
    (subst (λ (r : Result Given Failure). HandsAny g.E.EventOut.took g.E.EventOut.broke c.value_by_name.result c.value_by_name.new.self r c.args.out.now c.value_by_name.new.out)
    (sym (valued c.self.inside.book.now c.self.inside.input.bytes c.args.bit (alone_of c.args.alone) (telling_of c.args.telling) by_name c.args.to before name _ c.in_ok-name.ensures.read))
    (rw (c.in_ok-learn_name.ensures.ok) at c.value_by_name.ensures.hands))

pub returns-then-is_type-clause-hands : goal.returns-then-is_type-clause-hands
returns-then-is_type-clause-hands g c =
    let before : Config = record { start = c.self.inside.start; place = c.self.inside.input.place; meter = c.self.inside.meter; tables = g.T.Tables.held c.self.inside.tables; elements = c.self.inside.elements; outer = c.self.inside.outer; learned = c.self.inside.overlay; after_start = c.self.inside.after_start; root = c.self.inside.root; aside = c.self.inside.aside } in
    let name : Named = name_in (g.T.Tables.held c.told_name.new.tables) c.in_ok-name.name in
    rw (← c.self.view_is, c.in-Untyped.is)
    (subst (λ (r : Result Given Failure). HandsAny g.E.EventOut.took g.E.EventOut.broke c.type_value.result c.type_value.new.self r c.args.out.now c.type_value.new.out)
    (sym (valued c.self.inside.book.now c.self.inside.input.bytes c.args.bit (alone_of c.args.alone) (telling_of c.args.telling) untyped c.args.to before name _ c.in_ok-name.ensures.read))
    (rw (c.in_ok-learn_name.ensures.ok) at c.type_value.ensures.hands))

pub returns-else-is_type-clause-hands : goal.returns-else-is_type-clause-hands
returns-else-is_type-clause-hands g c =
    let before : Config = record { start = c.self.inside.start; place = c.self.inside.input.place; meter = c.self.inside.meter; tables = g.T.Tables.held c.self.inside.tables; elements = c.self.inside.elements; outer = c.self.inside.outer; learned = c.self.inside.overlay; after_start = c.self.inside.after_start; root = c.self.inside.root; aside = c.self.inside.aside } in
    let name : Named = name_in (g.T.Tables.held c.told_name.new.tables) c.in_ok-name.name in
    rw (← c.self.view_is, c.in-Untyped.is)
    (subst (λ (r : Result Given Failure). HandsAny g.E.EventOut.took g.E.EventOut.broke c.string_value.result c.string_value.new.self r c.args.out.now c.string_value.new.out)
    (sym (valued c.self.inside.book.now c.self.inside.input.bytes c.args.bit (alone_of c.args.alone) (telling_of c.args.telling) untyped c.args.to before name _ c.in_ok-name.ensures.read
    ∙ untyped_is c.self.inside.book.now _ c.args.bit (alone_of c.args.alone) name c.args.to (with_attribute (telling_of c.args.telling) name (reached (read_state c.told_name.new.input c.told_name.new.meter (g.T.Tables.held c.told_name.new.tables)) before)) (sym c.is_type.ensures ∙ c.if-is_type.false)))
    (rw (c.in_ok-learn_name.ensures.ok) at c.string_value.ensures.hands))
