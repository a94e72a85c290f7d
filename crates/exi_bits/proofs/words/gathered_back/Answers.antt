use Rattle.std.proofs.Common.{◌≡◌, ◌+◌, ◌<◌, ◌≤◌, ◌^◌, ◌*◌, ◌-◌, ℕ, drop, length, arith, ap, ◌∙◌}
use Rattle.std.proofs.lemmas.List.{length-drop, get_or-drop}
use Rattle.exi_bits.specs.Bits.{le_value}
use Rattle.exi_bits.proofs.BitLaws.{pow_up, back_none, back_more, le_value_below}
use Rattle.exi_bits.proofs.words.gathered_back.Goals as goal

pub loop-back-init : goal.loop-back-init
loop-back-init c = back_none c.args.bytes.now

pub overflow_mul-all : goal.overflow_mul-all
overflow_mul-all c =
    let bs = c.args.bytes.now in
    let k = c.loop-back.back in
    let rest = drop (length bs - k) bs in
    let h : le_value (drop (length bs - k) bs) < 2 ^ (8 * length rest) = le_value_below rest (λ i. rw get_or-drop (omega (arith, c.type_inv.bytes (length bs - k + i)))) in
    let p : 2 ^ (8 * length rest) ≤ 2 ^ 56 = pow_up (8 * length rest) 56 (omega (arith, length-drop (length bs - k) bs)) in
    omega (arith, c.loop-back.invariant)

pub overflow_add-all : goal.overflow_add-all
overflow_add-all c =
    let bs = c.args.bytes.now in
    let k = c.loop-back.back in
    let rest = drop (length bs - k) bs in
    let h : le_value (drop (length bs - k) bs) < 2 ^ (8 * length rest) = le_value_below rest (λ i. rw get_or-drop (omega (arith, c.type_inv.bytes (length bs - k + i)))) in
    let p : 2 ^ (8 * length rest) ≤ 2 ^ 56 = pow_up (8 * length rest) 56 (omega (arith, length-drop (length bs - k) bs)) in
    omega (arith, c.loop-back.invariant, c.type_inv.bytes (length bs - 1 - k))

pub loop-back-preserved : goal.loop-back-preserved
loop-back-preserved c = rw (c.loop-back.invariant, c.from.ensures) (back_more c.args.bytes.now c.loop-back.back c.loop-back-test.true)

pub returns : goal.returns
returns c =
    let e : length c.args.bytes.now - c.loop-back.back ≡ 0 = omega arith in
    c.loop-back.invariant ∙ ap (λ (q : ℕ). le_value (drop q c.args.bytes.now)) e
