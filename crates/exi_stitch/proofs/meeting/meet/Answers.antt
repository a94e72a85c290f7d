use Rattle.std.proofs.Common.{refl, Option, None, Some, ◌∙◌, sym}
use Rattle.exi_stitch.specs.Moves.{Posting}
use Rattle.exi_stitch.specs.Promises.{posting_of}
use Rattle.exi_stitch.specs.Stitches.{AskedOnce}
use Rattle.exi_stitch.proofs.Meets.{meets_entered, meets_given}
use Rattle.exi_stitch.proofs.meeting.meet.Goals as goal

pub returns-in_default-clause-meets : goal.returns-in_default-clause-meets
returns-in_default-clause-meets g c = meets_entered g.E.EventOut.took g.E.EventOut.broke g.met.E.EventOut.none c.args.byte c.args.reader.now c.go_in.new.reader (λ (z : Option Posting). AskedOnce posting_of g.D.Desk.arrives g.D.Desk.returns c.args.desk.now c.args.byte z c.arrive.new.self) c.go_in.result None c.args.used.now.items c.args.out.now c.in_default.ensures.arrives tt c.go_in.ensures.enters

pub returns-then-not-fits-clause-meets : goal.returns-then-not-fits-clause-meets
returns-then-not-fits-clause-meets g c =
    let o : AskedOnce posting_of g.D.Desk.arrives g.D.Desk.returns c.args.desk.now c.args.byte (Some (posting_of c.in-Some.posting)) c.back.new.self = (c.in-Some.posting, c.arrive.new.self, refl, c.in-Some.ensures.arrives, c.back.ensures.returns) in
    meets_entered g.E.EventOut.took g.E.EventOut.broke g.met.E.EventOut.none c.args.byte c.args.reader.now c.go_in-then-not-fits.new.reader (λ (z : Option Posting). AskedOnce posting_of g.D.Desk.arrives g.D.Desk.returns c.args.desk.now c.args.byte z c.back.new.self) c.go_in-then-not-fits.result (Some (posting_of c.in-Some.posting)) c.args.used.now.items c.args.out.now o (sym c.fits.ensures ∙ c.if-not-fits.true) c.go_in-then-not-fits.ensures.enters

pub returns-clause-meets : goal.returns-clause-meets
returns-clause-meets g c =
    let o : AskedOnce posting_of g.D.Desk.arrives g.D.Desk.returns c.args.desk.now c.args.byte (Some (posting_of c.in-Some.posting)) c.back-2.new.self = (c.in-Some.posting, c.arrive.new.self, refl, c.in-Some.ensures.arrives, c.back-2.ensures.returns) in
    meets_given g.E.EventOut.took g.E.EventOut.broke g.met.E.EventOut.none c.args.byte c.args.reader.now c.join_posting-joined.new.reader (λ (z : Option Posting). AskedOnce posting_of g.D.Desk.arrives g.D.Desk.returns c.args.desk.now c.args.byte z c.back-2.new.self) (posting_of c.in-Some.posting) c.join_posting-joined.result c.args.used.now.items c.join_posting-joined.new.used.items c.args.out.now c.join_posting-joined.new.out o c.join_posting-joined.ensures.meets
