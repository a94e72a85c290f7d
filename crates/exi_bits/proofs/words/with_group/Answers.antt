use Rattle.std.proofs.Common.{◌*◌, ◌<◌, ◌^◌, arith, refl}
use Rattle.std.proofs.lemmas.Nat.{one_shl}
use Rattle.std.proofs.Math.Nat.{mul_comm}
use Rattle.exi_bits.proofs.GroupBounds.{group_below, group_fits}
use Rattle.exi_bits.proofs.words.with_group.Goals as goal

pub overflow_mul-result-2 : goal.overflow_mul-result-2
overflow_mul-result-2 c =
    let h : 7 * c.args.group < 128 = omega arith in
    let f = group_fits c.args.group c.args.value c.args.low c.requires.group c.requires.value c.requires.low c.else-group-eq18.either in
    rw (c.from.ensures, one_shl (7 * c.args.group) 128 h, mul_comm c.args.low (2 ^ (7 * c.args.group))) (omega arith)

pub overflow_add-result : goal.overflow_add-result
overflow_add-result c =
    let h : 7 * c.args.group < 128 = omega arith in
    let f = group_fits c.args.group c.args.value c.args.low c.requires.group c.requires.value c.requires.low c.else-group-eq18.either in
    rw (c.from.ensures, one_shl (7 * c.args.group) 128 h, mul_comm c.args.low (2 ^ (7 * c.args.group))) (omega arith)

pub returns-clause-value : goal.returns-clause-value
returns-clause-value c =
    let h : 7 * c.args.group < 128 = omega arith in (
      group_fits c.args.group c.args.value c.args.low c.requires.group c.requires.value c.requires.low c.else-group-eq18.either,
      rw (c.from.ensures, one_shl (7 * c.args.group) 128 h, mul_comm c.args.low (2 ^ (7 * c.args.group))) refl,
    )

pub returns-clause-below : goal.returns-clause-below
returns-clause-below c =
    let h : 7 * c.args.group < 128 = omega arith in
    rw (c.from.ensures, one_shl (7 * c.args.group) 128 h, mul_comm c.args.low (2 ^ (7 * c.args.group))) (group_below c.args.group c.args.value c.args.low c.requires.value c.requires.low)
