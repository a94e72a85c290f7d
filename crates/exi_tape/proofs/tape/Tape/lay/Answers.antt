use Rattle.std.proofs.Common.{◌≡◌, ◌<◌, ◌^◌, ◌++◌, length, ap, ◌∙◌, arith}
use Rattle.exi_names.specs.Shown.{shows}
use Rattle.exi_tape.specs.Spelling.{spelled}
use Rattle.exi_tape.proofs.Lists.{reads_more, sound_more, tape_more}
use Rattle.exi_tape.proofs.Weights.{spelled_most}
use Rattle.exi_tape.proofs.tape.Tape.lay.Goals as goal

pub returns-in_err-reserve-clause-most : goal.returns-in_err-reserve-clause-most
returns-in_err-reserve-clause-most g c = omega (arith, c.reserve.ensures.most, spelled_most (shows c.args.event.now), c.requires.size)

pub invariant_of-self-2 : goal.invariant_of-self-2
invariant_of-self-2 g c =
    let e = shows c.args.event.now in let bs = c.args.self.now.roll.bytes in let new = c.put_event.new.roll.bytes in
    let few : length (spelled e) < 2 ^ 64 = omega (arith, c.requires.size, c.requires.few) in
    let is : new ≡ bs ++ spelled e = c.put_event.ensures.bytes ∙ ap (λ l. l ++ spelled e) c.reserve.ensures.bytes in
    record { spells = tape_more bs new e c.requires.sound few c.args.self.now.spells c.args.self.now.sound is; sound = sound_more bs new e c.requires.sound few c.args.self.now.spells c.args.self.now.sound is }

pub returns-clause-ok : goal.returns-clause-ok
returns-clause-ok g c =
    let e = shows c.args.event.now in let bs = c.args.self.now.roll.bytes in let new = c.put_event.new.roll.bytes in
    let few : length (spelled e) < 2 ^ 64 = omega (arith, c.requires.size, c.requires.few) in
    reads_more bs new e c.requires.sound few c.args.self.now.spells c.args.self.now.sound (c.put_event.ensures.bytes ∙ ap (λ l. l ++ spelled e) c.reserve.ensures.bytes)

pub returns-clause-most : goal.returns-clause-most
returns-clause-most g c = omega (arith, c.reserve.ensures.most, spelled_most (shows c.args.event.now), c.requires.size)
