use Rattle.std.proofs.Common.{◌*◌, arith, ap, refl, ◌∙◌}
use Rattle.exi_bits.specs.declared.fault.Kind.TheVariants as kind
use Rattle.exi_bits.specs.Bits.{Spot}
use Rattle.exi_bits.proofs.Groups.{behind_is, ends_short, ends_wide, goes_on, last_group, narrow_err, too_wide_at, with_first}
use Rattle.exi_bits.proofs.bit_in.BitIn.groups.Goals as goal

pub loop-group-init : goal.loop-group-init
loop-group-init c = record {
  some = omega arith;
  so_far = rw c.from-value.ensures refl;
  low = rw c.from-value.ensures (omega arith);
  bytes = refl;
  phase = refl;
}

pub returns-in_default-clause-read : goal.returns-in_default-clause-read
returns-in_default-clause-read c =
    let total = with_first c.args.first c.args.self.now in
    behind_is c.args.first c.args.self.now ∙ narrow_err kind.Short total (ends_short c.loop-group.group c.loop-group.value (7 * c.loop-group.group) c.loop-group.self total c.loop-group-test.true c.in_default.ensures.read.0 c.loop-group.invariant.so_far)

pub returns-in_default-with_group-clause-read : goal.returns-in_default-with_group-clause-read
returns-in_default-with_group-clause-read c =
    behind_is c.args.first c.args.self.now
    ∙ too_wide_at c.loop-group.group c.loop-group.value c.in-Some.octet c.loop-group.self c.octet.new.self (with_first c.args.first c.args.self.now) c.in_default-with_group.ensures.last c.in-Some.ensures.read c.in-Some.ensures.below c.in_default-with_group.ensures.value c.loop-group.invariant.so_far

pub returns-then-octet-lt128-clause-read : goal.returns-then-octet-lt128-clause-read
returns-then-octet-lt128-clause-read c =
    behind_is c.args.first c.args.self.now
    ∙ last_group c.loop-group.group c.loop-group.value c.in-Some.octet c.in-Some-with_group.more c.loop-group.self c.octet.new.self (with_first c.args.first c.args.self.now) c.loop-group-test.true c.in-Some.ensures.read c.if-octet-lt128.true c.in-Some-with_group.ensures.value.0 c.in-Some-with_group.ensures.value.1 c.loop-group.invariant.so_far

pub loop-group-preserved : goal.loop-group-preserved
loop-group-preserved c = record {
  some = omega arith;
  so_far = rw c.in-Some-with_group.ensures.value.1 (goes_on c.loop-group.group c.loop-group.value c.in-Some.octet c.loop-group.self c.octet.new.self (with_first c.args.first c.args.self.now) c.loop-group-test.true c.in-Some.ensures.read c.if-octet-lt128.false c.in-Some.ensures.below c.loop-group.invariant.so_far);
  low = c.in-Some-with_group.ensures.below;
  bytes = ap (λ (s : Spot). s.bytes) c.in-Some.ensures.place ∙ c.loop-group.invariant.bytes;
  phase = rw c.in-Some.ensures.place (omega (arith, c.loop-group.invariant.phase));
}

pub returns-clause-read : goal.returns-clause-read
returns-clause-read c =
    let total = with_first c.args.first c.args.self.now in
    behind_is c.args.first c.args.self.now ∙ narrow_err kind.TooWide total (ends_wide c.loop-group.group c.loop-group.value (7 * c.loop-group.group) c.loop-group.self total c.loop-group-test.false c.loop-group.invariant.so_far)
