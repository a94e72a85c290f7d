use Rattle.std.proofs.Common.{◌∙◌, Err, Ok, ap, sym}
use Rattle.exi_gram.specs.Terminals.{rules_of}
use Rattle.xsd_model.specs.declared.fault.SchemaKind.TheVariants as kind
use Rattle.exi_compiled.specs.Compiled.{Made, fault_at}
use Rattle.exi_normal.specs.Normals.{differ, too_large}
use Rattle.exi_compile.specs.Makings.{made_of}
use Rattle.exi_compile.specs.Order.{item}
use Rattle.exi_compile.proofs.Paired.{item_is, item_stops}
use Rattle.exi_compile.proofs.making.Making.add_item.Goals as goal

pub returns-in_ok-add_pair-in-Ok : goal.returns-in_ok-add_pair-in-Ok
returns-in_ok-add_pair-in-Ok c =
    let s = c.args.source.now in
    let pair = c.in-Ok.pair in
    item_is s.parts.now s.counts.now (item c.args.item) (made_of c.args.self.now) c.type_of.result (Ok (rules_of pair.full, rules_of pair.empty)) c.requires.source.counts c.type_of.ensures c.in-Ok.ensures
    ∙ ap (λ (m : Made). Ok m) (sym c.in_ok-add_pair-in-Ok.ensures)

pub returns-in-Err-TooLarge : goal.returns-in-Err-TooLarge
returns-in-Err-TooLarge c =
    let s = c.args.source.now in
    let made = made_of c.args.self.now in
    item_stops (Unit {0}) s.parts.now (item c.args.item) made made too_large c.event_of-event.result kind.TooLarge c.fault.result c.fault.ensures (ap (fault_at kind.TooLarge) (sym c.event_of-event.ensures))
    (item_is s.parts.now s.counts.now (item c.args.item) made c.type_of.result (Err too_large) c.requires.source.counts c.type_of.ensures (rw c.in-Err-TooLarge.field-0-is at c.in-Err-TooLarge.ensures))

pub returns-in-Err-Differ : goal.returns-in-Err-Differ
returns-in-Err-Differ c =
    let s = c.args.source.now in
    let made = made_of c.args.self.now in
    item_stops (Unit {0}) s.parts.now (item c.args.item) made made differ c.event_of-event.result kind.TypesDiffer c.fault-in-Err-Differ.result c.fault-in-Err-Differ.ensures (ap (fault_at kind.TypesDiffer) (sym c.event_of-event.ensures))
    (item_is s.parts.now s.counts.now (item c.args.item) made c.type_of.result (Err differ) c.requires.source.counts c.type_of.ensures (rw c.in-Err-Differ.field-0-is at c.in-Err-Differ.ensures))
