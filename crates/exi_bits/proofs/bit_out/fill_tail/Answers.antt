use Rattle.std.proofs.Common.{◌≡◌, ◌+◌, ◌-◌, ◌*◌, ◌/◌, ◌%◌, ◌<◌, ◌^◌, length, arith, ◌∙◌}
use Rattle.std.proofs.lemmas.Nat.{one_shl}
use Rattle.std.proofs.lemmas.List.{append-nil}
use Rattle.exi_bits.specs.Written.{written}
use Rattle.exi_bits.proofs.Outs.{fill_is, fill_fits, fill_none, tail_opens, tail_fits}
use Rattle.exi_bits.proofs.bit_out.fill_tail.Goals as goal

pub overflow_cast-all-in-Some : goal.overflow_cast-all-in-Some
overflow_cast-all-in-Some c =
    let few : c.args.spare < 8 = c.requires.padded.few in
    let lt : c.args.width < 64 = omega arith in
    let f = fill_fits (c.in-Some.last / 2 ^ c.args.spare) c.args.spare c.args.value c.args.width few c.requires.within (tail_fits c.in-Some.last c.args.spare (omega arith) (omega arith)) c.requires.fits in
    rw (one_shl c.args.width 64 lt, c.from.ensures) (omega arith)

pub returns-in-Some-clause-padded : goal.returns-in-Some-clause-padded
returns-in-Some-clause-padded c =
    let few : c.args.spare < 8 = c.requires.padded.few in
    let lt : c.args.width < 64 = omega arith in
    let last = c.in-Some.last / 2 ^ c.args.spare in
    let fits = tail_fits c.in-Some.last c.args.spare (omega arith) (omega arith) in
    let f = fill_fits (c.in-Some.last / 2 ^ c.args.spare) c.args.spare c.args.value c.args.width few c.requires.within fits c.requires.fits in
    let old = tail_opens c.args.bytes.now.items c.pop.new.self.items c.in-Some.last c.args.spare c.in-Some.ensures.items (omega arith) (omega arith) in
    let small : (c.in-Some.last / 2 ^ c.args.spare * 2 ^ c.args.width + c.args.value) * 2 ^ (c.args.spare - c.args.width) % 18446744073709551616 ≡ (c.in-Some.last / 2 ^ c.args.spare * 2 ^ c.args.width + c.args.value) * 2 ^ (c.args.spare - c.args.width) = omega arith in
    let e = rw (one_shl c.args.width 64 lt, c.from.ensures, small) at c.push_reserved.ensures.items in
    (fill_is c.push_reserved.new.self.items c.pop.new.self.items (written c.args.bytes.now.items c.args.spare) last c.args.spare c.args.value c.args.width few c.requires.within fits c.requires.fits old e).1

pub returns-in-Some-clause-bits : goal.returns-in-Some-clause-bits
returns-in-Some-clause-bits c =
    let few : c.args.spare < 8 = c.requires.padded.few in
    let lt : c.args.width < 64 = omega arith in
    let last = c.in-Some.last / 2 ^ c.args.spare in
    let fits = tail_fits c.in-Some.last c.args.spare (omega arith) (omega arith) in
    let f = fill_fits (c.in-Some.last / 2 ^ c.args.spare) c.args.spare c.args.value c.args.width few c.requires.within fits c.requires.fits in
    let old = tail_opens c.args.bytes.now.items c.pop.new.self.items c.in-Some.last c.args.spare c.in-Some.ensures.items (omega arith) (omega arith) in
    let small : (c.in-Some.last / 2 ^ c.args.spare * 2 ^ c.args.width + c.args.value) * 2 ^ (c.args.spare - c.args.width) % 18446744073709551616 ≡ (c.in-Some.last / 2 ^ c.args.spare * 2 ^ c.args.width + c.args.value) * 2 ^ (c.args.spare - c.args.width) = omega arith in
    let e = rw (one_shl c.args.width 64 lt, c.from.ensures, small) at c.push_reserved.ensures.items in
    (fill_is c.push_reserved.new.self.items c.pop.new.self.items (written c.args.bytes.now.items c.args.spare) last c.args.spare c.args.value c.args.width few c.requires.within fits c.requires.fits old e).0

pub returns-in_default-clause-bits : goal.returns-in_default-clause-bits
returns-in_default-clause-bits c =
    let same : c.args.bytes.now.items ≡ c.pop.new.self.items = c.in_default.ensures.items ∙ append-nil c.pop.new.self.items in
    let e : length c.args.bytes.now.items ≡ 0 = omega (arith, c.in_default.ensures.cases.0) in
    rw (← same) ((fill_none c.args.bytes.now.items c.args.spare c.args.value c.args.width c.requires.padded e c.requires.within).0)
