use Rattle.std.proofs.Common.{◌≡◌, ◌∷◌, [], Some, None, ap, sym, subst, ◌∙◌, arith}
use Rattle.std.proofs.lemmas.Result.{err_from_is_err_and}
use Rattle.exi_tape.specs.Lists.{events_of}
use Rattle.exi_tape.specs.Reading.{event_at}
use Rattle.exi_tape.specs.Rooms.{made}
use Rattle.exi_tape.specs.Spelling.{spelled_all}
use Rattle.exi_tape.specs.Walks.{left}
use Rattle.exi_tape.proofs.Plays.{broken_off, ends, fewer_left, goes, next, none_left, not_none, some_left, some_played_still}
use Rattle.exi_tape.proofs.tape.Tape.play.Goals as goal

pub loop-alloc-smaller : goal.loop-alloc-smaller
loop-alloc-smaller g c =
    let old = c.loop-alloc.walk in let inv = c.loop-alloc.invariant in
    let n = next g.E.EventOut.took (events_of c.args.self.now) c.args.out.now c.loop-alloc.out (left old) inv.playing (some_left (left old) c.loop-alloc-test.ensures.over) in
    let found : event_at (left old) ≡ Some (made c.event.new.room c.in-Ok-event.shape, left c.event.new.self) = ap (λ l. event_at l) (sym c.is_over.ensures.left) ∙ c.in-Ok-event.ensures in
    fewer_left g.E.EventOut.took (events_of c.args.self.now) c.args.out.now c.loop-alloc.out (left old) (left c.event.new.self) (made c.event.new.room c.in-Ok-event.shape) n found

pub loop-alloc-preserved : goal.loop-alloc-preserved
loop-alloc-preserved g c =
    let old = c.loop-alloc.walk in let inv = c.loop-alloc.invariant in
    let n = next g.E.EventOut.took (events_of c.args.self.now) c.args.out.now c.loop-alloc.out (left old) inv.playing (some_left (left old) c.loop-alloc-test.ensures.over) in
    let found : event_at (left old) ≡ Some (made c.event.new.room c.in-Ok-event.shape, left c.event.new.self) = ap (λ l. event_at l) (sym c.is_over.ensures.left) ∙ c.in-Ok-event.ensures in
    record {
      playing = goes g.E.EventOut.took (events_of c.args.self.now) c.args.out.now c.loop-alloc.out c.see.new.self (left old) (left c.event.new.self) (made c.event.new.room c.in-Ok-event.shape) n found
          (g.met.E.EventOut.more c.args.out.now c.loop-alloc.out c.see.new.self n.shown (made c.event.new.room c.in-Ok-event.shape ∷ []) n.taken (subst (λ e. g.E.EventOut.took c.loop-alloc.out (e ∷ []) c.see.new.self) c.event-in-Ok-event.ensures c.in_ok-see-in-Ok-event.ensures.ok));
      same = g.met.E.EventOut.same_then c.args.out.now c.loop-alloc.out c.see.new.self inv.same c.see.ensures.same;
      later = omega (arith, inv.later, c.see.ensures.later);
    }

pub returns-in_err-see-in-Ok-event-clause-memory : goal.returns-in_err-see-in-Ok-event-clause-memory
returns-in_err-see-in-Ok-event-clause-memory g c =
    let p = err_from_is_err_and c.from_residual.result c.from_residual.ensures.1 in
    let inv = c.loop-alloc.invariant in
    rw (p.1, p.2) (λ is. some_played_still g.E.EventOut.took (events_of c.args.self.now) c.args.out.now c.loop-alloc.out c.see.new.self (left c.loop-alloc.walk) inv.playing
    (g.met.E.EventOut.more c.args.out.now c.loop-alloc.out c.see.new.self inv.playing.shown [] inv.playing.taken (c.in_err-see-in-Ok-event.ensures.memory is)))

pub returns-in_err-see-in-Ok-event-clause-broke : goal.returns-in_err-see-in-Ok-event-clause-broke
returns-in_err-see-in-Ok-event-clause-broke g c =
    let p = err_from_is_err_and c.from_residual.result c.from_residual.ensures.1 in
    let old = c.loop-alloc.walk in let inv = c.loop-alloc.invariant in
    let n = next g.E.EventOut.took (events_of c.args.self.now) c.args.out.now c.loop-alloc.out (left old) inv.playing (some_left (left old) c.loop-alloc-test.ensures.over) in
    let found : event_at (left old) ≡ Some (made c.event.new.room c.in-Ok-event.shape, left c.event.new.self) = ap (λ l. event_at l) (sym c.is_over.ensures.left) ∙ c.in-Ok-event.ensures in
    rw (p.1, p.2) (λ is. broken_off g.E.EventOut.took g.E.EventOut.broke (events_of c.args.self.now) c.args.out.now c.loop-alloc.out c.see.new.self (left old) (left c.event.new.self) (made c.event.new.room c.in-Ok-event.shape) n found
    (subst (λ e. g.E.EventOut.broke c.loop-alloc.out e c.see.new.self) c.event-in-Ok-event.ensures (c.in_err-see-in-Ok-event.ensures.broke is)))

pub unreachable-requires : goal.unreachable-requires
unreachable-requires g c =
    let old = c.loop-alloc.walk in let inv = c.loop-alloc.invariant in
    let n = next g.E.EventOut.took (events_of c.args.self.now) c.args.out.now c.loop-alloc.out (left old) inv.playing (some_left (left old) c.loop-alloc-test.ensures.over) in
    let none : event_at (left old) ≡ None = ap (λ l. event_at l) (sym c.is_over.ensures.left) ∙ rw c.in-Err-Broken.field-0-is at c.in-Err-Broken.ensures in
    not_none (event_at (left old)) (n.first, spelled_all n.others) n.found none

pub returns-clause-ok : goal.returns-clause-ok
returns-clause-ok g c =
    let old = c.loop-alloc.walk in
    ends g.E.EventOut.took (events_of c.args.self.now) c.args.out.now c.loop-alloc.out (left old) c.loop-alloc.invariant.playing (none_left (left old) c.loop-alloc-test.ensures.over)
