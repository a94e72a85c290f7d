use Rattle.exi_words.specs.Found.{rows_found}
use Rattle.exi_words.specs.Meanings.{IsSound, asked_as, meant}
use Rattle.exi_words.proofs.Sound.{all_sound, each_sound, if_seen}
use Rattle.exi_words.proofs.command.command_of.Goals as goal

pub returns-in_err-matches-clause-sound : goal.returns-in_err-matches-clause-sound
returns-in_err-matches-clause-sound g c = all_sound _

pub returns-in-Some-2-clause-ready : goal.returns-in-Some-2-clause-ready
returns-in-Some-2-clause-ready g c =
    if_seen c.asked_as.result meant (asked_as c.in-Some-verb_of.verb (rows_found c.in-Some-2.matches)) IsSound c.asked_as.ensures
    (each_sound c.in-Some-verb_of.verb (rows_found c.in-Some-2.matches))

pub returns-in-Some-2-clause-sound : goal.returns-in-Some-2-clause-sound
returns-in-Some-2-clause-sound g c = all_sound _
