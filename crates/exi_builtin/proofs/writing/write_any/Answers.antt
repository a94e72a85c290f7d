use Rattle.std.proofs.Common.{◌≡◌, Bool, List, ◌++◌, OnErr, OnOk, subst}
use Rattle.exi_items.specs.Fronts.{HoldsFront}
use Rattle.exi_builtin.proofs.WrittenCodes.{parts_told, state_is, values_told}
use Rattle.exi_builtin.proofs.writing.write_any.Goals as goal

pub write_parts-requires-clause-fit : goal.write_parts-requires-clause-fit
write_parts-requires-clause-fit c = (parts_told c.align.result _ _ c.args.room c.args.learned.now _ _ _ c.args.code _ _ _ (state_is c.args.options.now c.args.room c.args.learned.now _ _ _ c.as_written-written.ensures.written) (values_told c.args.options.now c.args.room c.args.learned.now _ _ _ c.first_count.result c.as_written-written.ensures.written c.first_count.ensures) c.second_count.ensures c.kept_count.ensures.count c.requires.code).0

pub returns-clause-ok : goal.returns-clause-ok
returns-clause-ok c =
    let k = parts_told c.align.result _ _ c.args.room c.args.learned.now _ _ _ c.args.code _ _ _ (state_is c.args.options.now c.args.room c.args.learned.now _ _ _ c.as_written-written.ensures.written) (values_told c.args.options.now c.args.room c.args.learned.now _ _ _ c.first_count.result c.as_written-written.ensures.written c.first_count.ensures) c.second_count.ensures c.kept_count.ensures.count c.requires.code in
    rw (← c.align.ensures) (subst (λ (z : List Bool). OnOk c.write_parts.result (c.write_parts.new.out ≡ c.args.out.now ++ z)) k.1 c.write_parts.ensures.ok)

pub returns-clause-err : goal.returns-clause-err
returns-clause-err c =
    let k = parts_told c.align.result _ _ c.args.room c.args.learned.now _ _ _ c.args.code _ _ _ (state_is c.args.options.now c.args.room c.args.learned.now _ _ _ c.as_written-written.ensures.written) (values_told c.args.options.now c.args.room c.args.learned.now _ _ _ c.first_count.result c.as_written-written.ensures.written c.first_count.ensures) c.second_count.ensures c.kept_count.ensures.count c.requires.code in
    rw (← c.align.ensures) (subst (λ (z : List Bool). OnErr c.write_parts.result (HoldsFront c.args.out.now z c.write_parts.new.out)) k.1 c.write_parts.ensures.err)
