use Rattle.std.proofs.Common.{◌+◌, ◌*◌, ◌/◌, ◌<◌, ◌^◌, arith}
use Rattle.exi_bits.specs.Written.{written}
use Rattle.exi_bits.proofs.Outs.{octet_whole, octet_is, octet_high, octet_low, low_is, tail_opens, tail_fits}
use Rattle.exi_bits.proofs.bit_out.push_octet.Goals as goal

pub returns-then-spare-eq0-clause-padded : goal.returns-then-spare-eq0-clause-padded
returns-then-spare-eq0-clause-padded c =
    (octet_whole c.push_reserved.new.self.items c.args.bytes.now.items c.args.spare c.args.octet c.if-spare-eq0.true c.push_reserved.ensures.items).1

pub returns-then-spare-eq0-clause-bits : goal.returns-then-spare-eq0-clause-bits
returns-then-spare-eq0-clause-bits c =
    (octet_whole c.push_reserved.new.self.items c.args.bytes.now.items c.args.spare c.args.octet c.if-spare-eq0.true c.push_reserved.ensures.items).0

pub overflow_cast-all : goal.overflow_cast-all
overflow_cast-all c =
    let few : c.args.spare < 8 = c.requires.padded.few in
    let f = octet_high (c.in-Some.last / 2 ^ c.args.spare) c.args.spare c.args.octet few (tail_fits c.in-Some.last c.args.spare (omega arith) (omega arith)) (omega arith) in
    rw (c.from.ensures, c.from-in-Some.ensures) (omega arith)

pub overflow_cast-all-in-Some : goal.overflow_cast-all-in-Some
overflow_cast-all-in-Some c =
    let few : c.args.spare < 8 = c.requires.padded.few in
    let f = octet_low (c.from.result * 256 + c.from-in-Some.result) c.args.spare few in
    rw (low_is (c.from.result * 256 + c.from-in-Some.result) c.args.spare few) (omega arith)

pub returns-in-Some-clause-padded : goal.returns-in-Some-clause-padded
returns-in-Some-clause-padded c =
    let few : c.args.spare < 8 = c.requires.padded.few in
    let fits = tail_fits c.in-Some.last c.args.spare (omega arith) (omega arith) in
    let old = tail_opens c.args.bytes.now.items c.pop.new.self.items c.in-Some.last c.args.spare c.in-Some.ensures.items (omega arith) (omega arith) in
    let low = low_is (c.in-Some.last / 2 ^ c.args.spare * 256 + c.args.octet) c.args.spare few in
    let e = rw (c.push_reserved-in-Some.ensures.items, c.from.ensures, c.from-in-Some.ensures, low) at c.push_reserved-in-Some-2.ensures.items in
    (octet_is c.push_reserved-in-Some-2.new.self.items c.pop.new.self.items (written c.args.bytes.now.items c.args.spare) (c.in-Some.last / 2 ^ c.args.spare) c.args.spare c.args.octet few fits (omega arith) old e).1

pub returns-in-Some-clause-bits : goal.returns-in-Some-clause-bits
returns-in-Some-clause-bits c =
    let few : c.args.spare < 8 = c.requires.padded.few in
    let fits = tail_fits c.in-Some.last c.args.spare (omega arith) (omega arith) in
    let old = tail_opens c.args.bytes.now.items c.pop.new.self.items c.in-Some.last c.args.spare c.in-Some.ensures.items (omega arith) (omega arith) in
    let low = low_is (c.in-Some.last / 2 ^ c.args.spare * 256 + c.args.octet) c.args.spare few in
    let e = rw (c.push_reserved-in-Some.ensures.items, c.from.ensures, c.from-in-Some.ensures, low) at c.push_reserved-in-Some-2.ensures.items in
    (octet_is c.push_reserved-in-Some-2.new.self.items c.pop.new.self.items (written c.args.bytes.now.items c.args.spare) (c.in-Some.last / 2 ^ c.args.spare) c.args.spare c.args.octet few fits (omega arith) old e).0
