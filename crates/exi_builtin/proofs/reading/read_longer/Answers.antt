use Rattle.std.proofs.Common.{◌≡◌, ◌<◌, ap, sym, filter, length}
use Rattle.std.proofs.lemmas.Result.{err_from_is_err_and}
use Rattle.exi_gram.specs.Switches.{align_of}
use Rattle.exi_gram.specs.Codes.{kept_seconds, member_at, second_at}
use Rattle.exi_builtin.specs.BuiltIn.{is_kept, written}
use Rattle.exi_builtin.specs.Layout.{laid_seconds}
use Rattle.exi_builtin.proofs.Layouts.{kept_laid, second_fails, second_tells, tells_group, tells_single}
use Rattle.exi_builtin.proofs.reading.read_longer.Goals as goal

pub returns-in_err-second-clause-read : goal.returns-in_err-second-clause-read
returns-in_err-second-clause-read c =
    let w = c.as_written-written.result in
    let behind : (written c.args.room).seconds ≡ laid_seconds w.singles.now w.members.now = sym (ap (λ p. p.seconds) c.as_written-written.ensures.written) in
    let p = err_from_is_err_and c.from_residual.result c.from_residual.ensures.1 in
    rw (p.1, p.2, behind)
    (second_fails (align_of c.args.options.now) c.align.result _ c.second_count.result c.args.input.now c.in_err-second.field-0.0 c.align.ensures c.second_count.ensures c.in_err-second.ensures.read.0)

pub returns-in-Some-clause-read : goal.returns-in-Some-clause-read
returns-in-Some-clause-read c =
    let w = c.as_written-written.result in
    let behind : (written c.args.room).seconds ≡ laid_seconds w.singles.now w.members.now = sym (ap (λ p. p.seconds) c.as_written-written.ensures.written) in
    let keep = is_kept c.args.options.now in
    let a = align_of c.args.options.now in
    let laid = kept_laid keep w.singles.now w.members.now in
    let seconds = kept_seconds keep (laid_seconds w.singles.now w.members.now) in
    rw behind
    (second_tells a c.align.result seconds c.second_count.result c.in_ok-second.second c.args.input.now c.read_part.new.input _ c.align.ensures c.second_count.ensures c.in_ok-second.ensures.read
    (rw laid (tells_single a (filter keep w.singles.now) (filter keep w.members.now) c.in_ok-second.second c.in-Some.production c.read_part.new.input (sym c.in-Some.ensures))))

pub returns-in-None-clause-read : goal.returns-in-None-clause-read
returns-in-None-clause-read c =
    let w = c.as_written-written.result in
    let behind : (written c.args.room).seconds ≡ laid_seconds w.singles.now w.members.now = sym (ap (λ p. p.seconds) c.as_written-written.ensures.written) in
    let keep = is_kept c.args.options.now in
    let a = align_of c.args.options.now in
    let singles = filter keep w.singles.now in
    let members = filter keep w.members.now in
    let seconds = kept_seconds keep (laid_seconds w.singles.now w.members.now) in
    let laid : seconds ≡ laid_seconds singles members = kept_laid keep w.singles.now w.members.now in
    let below : c.in_ok-second.second < c.second_count.result = c.in_ok-second.ensures.below in
    let within : c.in_ok-second.second < length (laid_seconds singles members) = rw (c.second_count.ensures, laid) at below in
    let read : second_at a seconds c.args.input.now ≡ member_at a members c.read_part.new.input
    = second_tells a c.align.result seconds c.second_count.result c.in_ok-second.second c.args.input.now c.read_part.new.input _ c.align.ensures c.second_count.ensures c.in_ok-second.ensures.read
    (rw laid (tells_group a singles members c.in_ok-second.second c.read_part.new.input (sym c.in-None.ensures) within)) in
    rw (behind, read) c.read_member.ensures.read
