use Rattle.std.proofs.Common.{◌+◌, ◌*◌, ◌≡◌, ◌^◌, ◌≤◌, ◌++◌, length, ap, arith}
use Rattle.std.proofs.lemmas.Nat.{mod_below, pow_pos}
use Rattle.exi_bits.specs.Bits.{bits, number_bits}
use Rattle.exi_bits.proofs.OutWords.{extended, extended_len, out_fits, out_is, tail_is, word_below, word_more, words_none}
use Rattle.exi_bits.proofs.bit_out.push_words.Goals as goal

pub loop-word-init : goal.loop-word-init
loop-word-init c = record {
  so_far = words_none (bits c.args.bytes.now.items ++ number_bits c.args.behind c.args.first) c.args.octets.now;
  fits = c.requires.fits;
  len = omega arith;
  capacity = omega arith;
}

pub overflow_add-out : goal.overflow_add-out
overflow_add-out c =
    let le : c.loop-word.word * 8 + 8 ≤ length c.args.octets.now = omega (arith, c.loop-word-test.true) in
    let below = word_below c.args.octets.now c.loop-word.word c.word_at-all.result le c.word_at-all.ensures in
    let f = out_fits c.args.behind c.loop-word.tail c.word_at-all.result c.requires.some c.requires.few c.loop-word.invariant.fits below in
    rw (out_is c.args.behind c.loop-word.tail c.word_at-all.result c.requires.some c.requires.few c.loop-word.invariant.fits below) (omega arith)

pub loop-word-preserved : goal.loop-word-preserved
loop-word-preserved c =
    let le : c.loop-word.word * 8 + 8 ≤ length c.args.octets.now = omega (arith, c.loop-word-test.true) in
    let below = word_below c.args.octets.now c.loop-word.word c.word_at-all.result le c.word_at-all.ensures in
    let eight : length c.to_be_bytes.result ≡ 8 = ap length c.to_be_bytes.ensures in
    let ok = c.extend_from_slice.ensures.succeeds (omega (arith, c.loop-word.invariant.len, c.loop-word.invariant.capacity, c.requires.room)) in
    let items = extended c.extend_from_slice.result c.extend_from_slice.new.self.items c.loop-word.bytes.items c.to_be_bytes.result ok c.extend_from_slice.ensures.items in
    let len = extended_len c.extend_from_slice.result _ _ _ ok c.extend_from_slice.ensures.len in
    record {
      so_far = rw (items, c.to_be_bytes.ensures, out_is c.args.behind c.loop-word.tail c.word_at-all.result c.requires.some c.requires.few c.loop-word.invariant.fits below, tail_is c.args.behind c.word_at-all.result c.requires.few)
          (word_more (bits c.args.bytes.now.items ++ number_bits c.args.behind c.args.first) c.args.octets.now c.loop-word.bytes.items c.loop-word.word c.args.behind c.loop-word.tail c.word_at-all.result
          c.requires.some c.requires.few c.loop-word.invariant.fits le c.word_at-all.ensures c.loop-word.invariant.so_far);
      fits = rw (tail_is c.args.behind c.word_at-all.result c.requires.few) (mod_below c.word_at-all.result (2 ^ c.args.behind) (pow_pos c.args.behind));
      len = omega (arith, len, eight, c.loop-word.invariant.len);
      capacity = omega (arith, c.loop-word.invariant.capacity, c.extend_from_slice.ensures.capacity);
    }
