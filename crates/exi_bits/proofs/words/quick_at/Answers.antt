use Rattle.exi_bits.proofs.WordLaws.{quick_is}
use Rattle.exi_bits.proofs.words.quick_at.Goals as goal

pub returns : goal.returns
returns c = rw c.word_at.ensures (quick_is c.args.bytes.now c.args.place c.args.width c.requires.narrow c.requires.within)
