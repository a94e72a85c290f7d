use Rattle.std.proofs.Common.{◌≡◌, ◌+◌, ◌-◌, ◌<◌, ◌^◌, arith, subst, ℕ}
use Rattle.std.proofs.lemmas.Nat.{one_shl, and_mask, shr_below}
use Rattle.exi_bits.specs.Written.{written}
use Rattle.exi_bits.proofs.Outs.{put_over, put_whole}
use Rattle.exi_bits.proofs.bit_out.BitOut.put_any_bits.Goals as goal

pub invariant_of-self-then-self-eq0 : goal.invariant_of-self-then-self-eq0
invariant_of-self-then-self-eq0 c =
    (put_whole c.push_bits-self-inside.new.bytes.items _ c.args.value c.self.inside.spare c.args.width c.push_bits-self-inside.result c.if-self-eq0.true c.push_bits-self-inside.ensures.spare c.push_bits-self-inside.ensures.bits).1

pub returns-then-self-eq0-clause-ok : goal.returns-then-self-eq0-clause-ok
returns-then-self-eq0-clause-ok c =
    rw (← c.self.view_is, ← c.in_ok-reserve.ensures.items) ((put_whole c.push_bits-self-inside.new.bytes.items c.reserve.new.self.items c.args.value c.self.inside.spare c.args.width c.push_bits-self-inside.result c.if-self-eq0.true c.push_bits-self-inside.ensures.spare c.push_bits-self-inside.ensures.bits).0)

pub fill_tail-requires-2-clause-fits : goal.fill_tail-requires-2-clause-fits
fill_tail-requires-2-clause-fits c =
    let e : c.args.width ≡ c.self.inside.spare + (c.args.width - c.self.inside.spare) = omega arith in
    shr_below c.args.value c.self.inside.spare (c.args.width - c.self.inside.spare) (subst (λ (n : ℕ). c.args.value < 2 ^ n) e c.requires.fits)

pub invariant_of-self-2 : goal.invariant_of-self-2
invariant_of-self-2 c =
    let few : c.self.inside.spare < 8 = c.self.invariant.few in
    let lt : c.args.width - c.self.inside.spare < 64 = omega arith in
    let e : c.self.inside.spare + (c.args.width - c.self.inside.spare) ≡ c.args.width = omega arith in
    let after = rw (one_shl (c.args.width - c.self.inside.spare) 64 lt, and_mask) at c.push_bits-self-inside-2.ensures.bits in
    (put_over c.push_bits-self-inside-2.new.bytes.items c.fill_tail-2.new.bytes.items _ c.args.value c.self.inside.spare (c.args.width - c.self.inside.spare) c.args.width c.push_bits-self-inside-2.result c.requires.fits e c.push_bits-self-inside-2.ensures.spare c.fill_tail-2.ensures.bits after).1

pub returns-clause-ok : goal.returns-clause-ok
returns-clause-ok c =
    let few : c.self.inside.spare < 8 = c.self.invariant.few in
    let lt : c.args.width - c.self.inside.spare < 64 = omega arith in
    let e : c.self.inside.spare + (c.args.width - c.self.inside.spare) ≡ c.args.width = omega arith in
    let after = rw (one_shl (c.args.width - c.self.inside.spare) 64 lt, and_mask) at c.push_bits-self-inside-2.ensures.bits in
    rw (← c.self.view_is, ← c.in_ok-reserve.ensures.items) ((put_over c.push_bits-self-inside-2.new.bytes.items c.fill_tail-2.new.bytes.items (written c.reserve.new.self.items c.self.inside.spare) c.args.value c.self.inside.spare (c.args.width - c.self.inside.spare) c.args.width c.push_bits-self-inside-2.result c.requires.fits e c.push_bits-self-inside-2.ensures.spare c.fill_tail-2.ensures.bits after).0)
