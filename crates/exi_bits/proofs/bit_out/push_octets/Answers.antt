use Rattle.std.proofs.Common.{◌<◌, ◌≤◌, ◌-◌, ◌*◌, ◌/◌, length, drop, take, arith, refl}
use Rattle.std.proofs.lemmas.Nat.{one_shl}
use Rattle.std.proofs.lemmas.List.{length-take}
use Rattle.exi_bits.proofs.Outs.{behind_whole, pad_keeps, tail_fits}
use Rattle.exi_bits.proofs.OutWords.{extended, rest_fits, rest_out}
use Rattle.exi_bits.proofs.bit_out.push_octets.Goals as goal

pub returns-then-spare-eq0-clause-padded : goal.returns-then-spare-eq0-clause-padded
returns-then-spare-eq0-clause-padded c = rw c.if-spare-eq0.true (pad_keeps c.extend_from_slice.new.self.items)

pub returns-then-spare-eq0-clause-bits : goal.returns-then-spare-eq0-clause-bits
returns-then-spare-eq0-clause-bits c =
    let ok = c.extend_from_slice.ensures.succeeds (omega (arith, c.requires.room)) in
    behind_whole c.extend_from_slice.new.self.items c.args.bytes.now.items c.args.octets.now c.args.spare c.if-spare-eq0.true
    (extended c.extend_from_slice.result c.extend_from_slice.new.self.items c.args.bytes.now.items c.args.octets.now ok c.extend_from_slice.ensures.items)

pub push_words-tail-requires-clause-fits : goal.push_words-tail-requires-clause-fits
push_words-tail-requires-clause-fits c = rw c.from.ensures (tail_fits c.in-Some.last c.args.spare (omega (arith, c.requires.padded.few)) (omega arith))

pub overflow_mul-all : goal.overflow_mul-all
overflow_mul-all c =
    let n = length c.args.octets.now / 8 * 8 in
    let rest = take (length c.args.octets.now - n) (drop n c.args.octets.now) in
    let k = length rest in
    let few : length rest ≤ 7 = omega (arith, length-take (length c.args.octets.now - n) (drop n c.args.octets.now)) in
    let lt : 8 * k < 64 = omega arith in
    let some : 1 ≤ c.args.spare = omega (arith, c.if-spare-eq0.false) in
    let fits = rest_fits rest c.args.spare c.push_words-tail.result k some c.requires.padded.few few refl c.push_words-tail.ensures.fits in
    let f = fits.1 in
    rw (one_shl (8 * k) 64 lt) (omega arith)

pub overflow_add-all : goal.overflow_add-all
overflow_add-all c =
    let n = length c.args.octets.now / 8 * 8 in
    let rest = take (length c.args.octets.now - n) (drop n c.args.octets.now) in
    let k = length rest in
    let few : length rest ≤ 7 = omega (arith, length-take (length c.args.octets.now - n) (drop n c.args.octets.now)) in
    let lt : 8 * k < 64 = omega arith in
    let some : 1 ≤ c.args.spare = omega (arith, c.if-spare-eq0.false) in
    let fits = rest_fits rest c.args.spare c.push_words-tail.result k some c.requires.padded.few few refl c.push_words-tail.ensures.fits in
    let f = fits.1 in
    rw (one_shl (8 * k) 64 lt) (omega (arith, c.gathered_few.ensures))

pub push_word-requires-clause-fits : goal.push_word-requires-clause-fits
push_word-requires-clause-fits c =
    let n = length c.args.octets.now / 8 * 8 in
    let rest = take (length c.args.octets.now - n) (drop n c.args.octets.now) in
    let k = length rest in
    let few : length rest ≤ 7 = omega (arith, length-take (length c.args.octets.now - n) (drop n c.args.octets.now)) in
    let lt : 8 * k < 64 = omega arith in
    let some : 1 ≤ c.args.spare = omega (arith, c.if-spare-eq0.false) in
    let fits = rest_fits rest c.args.spare c.push_words-tail.result k some c.requires.padded.few few refl c.push_words-tail.ensures.fits in
    rw (one_shl (8 * k) 64 lt, c.gathered_few.ensures) fits.0

pub returns-in-Some-clause-padded : goal.returns-in-Some-clause-padded
returns-in-Some-clause-padded c =
    let n = length c.args.octets.now / 8 * 8 in
    let rest = take (length c.args.octets.now - n) (drop n c.args.octets.now) in
    let k = length rest in
    let few : length rest ≤ 7 = omega (arith, length-take (length c.args.octets.now - n) (drop n c.args.octets.now)) in
    let lt : 8 * k < 64 = omega arith in
    let e = rw (one_shl (8 * k) 64 lt) at c.push_word.ensures.bits in
    (rest_out c.args.bytes.now.items c.pop.new.self.items c.push_words-tail.new.bytes.items c.push_word.new.bytes.items c.args.octets.now c.in-Some.last c.args.spare c.from.result c.push_words-tail.result _ k c.push_word.result n
    c.requires.padded.few (omega arith) c.push_words-tail.ensures.fits c.in-Some.ensures.items c.from.ensures refl c.gathered_few.ensures c.push_word.ensures.spare c.push_words-tail.ensures.bits e).1

pub returns-in-Some-clause-bits : goal.returns-in-Some-clause-bits
returns-in-Some-clause-bits c =
    let n = length c.args.octets.now / 8 * 8 in
    let rest = take (length c.args.octets.now - n) (drop n c.args.octets.now) in
    let k = length rest in
    let few : length rest ≤ 7 = omega (arith, length-take (length c.args.octets.now - n) (drop n c.args.octets.now)) in
    let lt : 8 * k < 64 = omega arith in
    let e = rw (one_shl (8 * k) 64 lt) at c.push_word.ensures.bits in
    (rest_out c.args.bytes.now.items c.pop.new.self.items c.push_words-tail.new.bytes.items c.push_word.new.bytes.items c.args.octets.now c.in-Some.last c.args.spare c.from.result c.push_words-tail.result _ k c.push_word.result n
    c.requires.padded.few (omega arith) c.push_words-tail.ensures.fits c.in-Some.ensures.items c.from.ensures refl c.gathered_few.ensures c.push_word.ensures.spare c.push_words-tail.ensures.bits e).0
