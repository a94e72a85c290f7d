use Rattle.exi_stitch.specs.Promises.{posting_of}
use Rattle.exi_stitch.proofs.Meets.{meets_ended, meets_ended_stopped, meets_misplaced, meets_on, meets_on_stopped, meets_unlisted, outcome_is}
use Rattle.exi_stitch.proofs.meeting.join_posting.Goals as goal

pub returns-in_default-clause-meets : goal.returns-in_default-clause-meets
returns-in_default-clause-meets g c = meets_unlisted g.E.EventOut.took g.E.EventOut.broke g.met.E.EventOut.none c.args.byte c.args.reader.now c.args.reader.now (posting_of c.args.posting.now) c.args.used.now.items c.args.used.now.items c.args.out.now (record { outcome = c.requires.outcome; fitting = c.requires.fitting })

pub splice-requires-clause-outcome : goal.splice-requires-clause-outcome
splice-requires-clause-outcome g c = outcome_is c.args.reader.now c.args.byte (posting_of c.args.posting.now) c.requires.place c.requires.outcome

pub returns-in-Ok-show-clause-meets : goal.returns-in-Ok-show-clause-meets
returns-in-Ok-show-clause-meets g c = meets_on g.E.EventOut.took g.E.EventOut.broke g.met.E.EventOut.none c.args.byte c.args.reader.now c.splice.new.self (posting_of c.args.posting.now) (record { outcome = c.requires.outcome; fitting = c.requires.fitting }) c.args.used.now.items c.push.new.self.items c.in-Ok.ensures.items c.args.out.now c.show.new.out c.in-On.ensures.spliced.0 c.in-Ok-show.ensures.shows

pub returns-in-Err-clause-meets : goal.returns-in-Err-clause-meets
returns-in-Err-clause-meets g c = meets_on_stopped g.E.EventOut.took g.E.EventOut.broke g.met.E.EventOut.none c.args.byte c.args.reader.now c.splice.new.self (posting_of c.args.posting.now) (record { outcome = c.requires.outcome; fitting = c.requires.fitting }) c.args.used.now.items c.push.new.self.items c.in-Ok.ensures.items c.args.out.now c.show.new.out c.in-Err.stop c.in-On.ensures.spliced.0 c.in-Err.ensures.shows

pub returns-in-Ok-show-2-clause-meets : goal.returns-in-Ok-show-2-clause-meets
returns-in-Ok-show-2-clause-meets g c = meets_ended g.E.EventOut.took g.E.EventOut.broke g.met.E.EventOut.none c.args.byte c.args.reader.now c.splice.new.self (posting_of c.args.posting.now) (record { outcome = c.requires.outcome; fitting = c.requires.fitting }) c.args.used.now.items c.push.new.self.items c.in-Ok.ensures.items c.args.out.now c.show-in-Ended.new.out c.in-Ended.end c.in-Ended.ensures.spliced c.in-Ok-show-2.ensures.shows

pub returns-in-Err-show-clause-meets : goal.returns-in-Err-show-clause-meets
returns-in-Err-show-clause-meets g c = meets_ended_stopped g.E.EventOut.took g.E.EventOut.broke g.met.E.EventOut.none c.args.byte c.args.reader.now c.splice.new.self (posting_of c.args.posting.now) (record { outcome = c.requires.outcome; fitting = c.requires.fitting }) c.args.used.now.items c.push.new.self.items c.in-Ok.ensures.items c.args.out.now c.show-in-Ended.new.out c.in-Err-show.stop c.in-Ended.end c.in-Ended.ensures.spliced c.in-Err-show.ensures.shows

pub returns-in-WrongRoot-clause-meets : goal.returns-in-WrongRoot-clause-meets
returns-in-WrongRoot-clause-meets g c = meets_misplaced g.E.EventOut.took g.E.EventOut.broke g.met.E.EventOut.none c.args.byte c.args.reader.now c.splice.new.self (posting_of c.args.posting.now) (record { outcome = c.requires.outcome; fitting = c.requires.fitting }) c.args.used.now.items c.push.new.self.items c.in-Ok.ensures.items c.args.out.now c.args.out.now c.in-WrongRoot.end c.in-WrongRoot.ensures.spliced
