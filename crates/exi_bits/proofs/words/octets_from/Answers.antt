use Rattle.std.proofs.Common.{◌≡◌, ◌-◌, ◌+◌, ◌/◌, drop, ◌*◌, arith, sym, ◌∙◌}
use Rattle.exi_bits.specs.Bits.{bits}
use Rattle.exi_bits.proofs.BitLaws.{length-bits, value_below_at}
use Rattle.exi_bits.proofs.OctetLaws.{copied_octets, next_octet, next_word, octets_none}
use Rattle.exi_bits.proofs.words.octets_from.Goals as goal

pub returns-then-place-eq0 : goal.returns-then-place-eq0
returns-then-place-eq0 c =
    let e : c.args.place / 8 + c.args.count - c.args.place / 8 ≡ c.args.count = omega arith in
    record { ok = rw (c.in_ok-extend_from_slice.ensures.items, c.in_ok-octets.ensures.items, e) (copied_octets c.args.bytes.now c.args.place c.args.count (λ i. omega (arith, c.type_inv.bytes i)) c.if-place-eq0.true c.requires.within) }

pub loop-word-init : goal.loop-word-init
loop-word-init c = c.in_ok-octets.ensures.items ∙ sym (octets_none (drop c.args.place (bits c.args.bytes.now)))

pub loop-word-preserved : goal.loop-word-preserved
loop-word-preserved c =
    rw (c.in_ok-extend_from_slice-2.ensures.items, c.loop-word.invariant, c.to_be_bytes.ensures, c.bits_at.ensures)
    (next_word c.loop-word.word c.args.place (bits c.args.bytes.now) (omega (arith, c.loop-word-test.true, c.loop-word.auto.word-end, c.requires.within, length-bits c.args.bytes.now)))

pub overflow_cast-narrow_at : goal.overflow_cast-narrow_at
overflow_cast-narrow_at c =
    let below = value_below_at 8 (c.args.place + c.loop-octet.octet * 8) (bits c.args.bytes.now) in
    omega (arith, c.narrow_at.ensures.value)

pub loop-octet-preserved : goal.loop-octet-preserved
loop-octet-preserved c =
    rw (c.in_ok-push.ensures.items, c.loop-octet.invariant, c.narrow_at.ensures.value) (next_octet c.loop-octet.octet c.args.place (bits c.args.bytes.now))
