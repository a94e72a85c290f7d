use Rattle.std.proofs.Common.{sym, ◌∙◌, arith}
use Rattle.exi_processing.proofs.Turning.{place_fragment, reader_steady, stays_fragment, stays_on}
use Rattle.exi_reader.proofs.reader.Reader.come.Goals as goal

pub step-requires : goal.step-requires
step-requires g c = record { steady = reader_steady c.self.inside.stepper c.self.inside.waits c.args.self.now c.self.view_is c.requires.going c.requires.reached }

pub returns-in-Ok-Some-clause-reached : goal.returns-in-Ok-Some-clause-reached
returns-in-Ok-Some-clause-reached g c = stays_fragment c.in-Ok-Some.byte c.self.inside.stepper c.step.new.self c.self.inside.waits c.args.self.now c.self.view_is c.requires.going c.requires.reached (rw c.in-Ok-Some.field-0-is at c.in-Ok-Some.ensures.hands).0 c.in-Ok-Some.ensures.setting c.in-Ok-Some.ensures.bytes

pub returns-else-has_ended-clause-reached : goal.returns-else-has_ended-clause-reached
returns-else-has_ended-clause-reached g c =
    let h = rw c.in-Ok-None.field-0-is at c.in-Ok-None.ensures.hands in
    stays_on h.0 c.self.inside.stepper c.step.new.self c.self.inside.waits c.args.self.now c.self.view_is c.requires.going c.requires.reached h.1 (sym c.has_ended.ensures ∙ c.if-has_ended.false) c.in-Ok-None.ensures.setting c.in-Ok-None.ensures.bytes

pub returns-in-Ok-Some-clause-fragment : goal.returns-in-Ok-Some-clause-fragment
returns-in-Ok-Some-clause-fragment g c = place_fragment c.in-Ok-Some.byte c.self.inside.stepper c.step.new.self c.self.inside.waits c.args.self.now c.self.view_is c.requires.going c.requires.reached (rw c.in-Ok-Some.field-0-is at c.in-Ok-Some.ensures.hands).0 c.in-Ok-Some.ensures.setting

pub returns-in-Ok-Some-clause-inside : goal.returns-in-Ok-Some-clause-inside
returns-in-Ok-Some-clause-inside g c =
    let at = place_fragment c.in-Ok-Some.byte c.self.inside.stepper c.step.new.self c.self.inside.waits c.args.self.now c.self.view_is c.requires.going c.requires.reached (rw c.in-Ok-Some.field-0-is at c.in-Ok-Some.ensures.hands).0 c.in-Ok-Some.ensures.setting in
    omega (arith, at, c.stands.ensures.place)
