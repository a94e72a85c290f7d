use Rattle.exi_bits.specs.Bits.{le_bytes}
use Rattle.exi_bits.proofs.Outs.{whole_none, pad_keeps, behind_whole, whole_length}
use Rattle.exi_bits.proofs.bit_out.BitOut.put_bytes.Goals as goal

pub invariant_of-self-2 : goal.invariant_of-self-2
invariant_of-self-2 c =
    let z = whole_none c.self.inside.bytes.items c.self.inside.spare c.self.invariant (rw c.self.view_is c.requires.whole) in
    rw z (pad_keeps c.push_bytes.new.bytes.items)

pub returns-clause-ok : goal.returns-clause-ok
returns-clause-ok c =
    let z = whole_none c.self.inside.bytes.items c.self.inside.spare c.self.invariant (rw c.self.view_is c.requires.whole) in
    rw (← c.self.view_is) (behind_whole c.push_bytes.new.bytes.items c.self.inside.bytes.items (le_bytes c.args.count c.args.value) c.self.inside.spare z (rw c.in_ok-reserve.ensures.items at c.push_bytes.ensures.bytes))

pub returns-clause-whole : goal.returns-clause-whole
returns-clause-whole c =
    let z = whole_none c.self.inside.bytes.items c.self.inside.spare c.self.invariant (rw c.self.view_is c.requires.whole) in
    whole_length c.push_bytes.new.bytes.items c.self.inside.spare z
