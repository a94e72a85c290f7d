use Rattle.std.proofs.Common.{[], ap, sym, ◌∙◌, subst}
use Rattle.exi_tape.specs.Reading.{read}
use Rattle.exi_tape.specs.Spelling.{spelled_all}
use Rattle.exi_tape.specs.Tapes.{AllSound, IsTape}
use Rattle.exi_tape.proofs.Lists.{read_back}
use Rattle.exi_tape.proofs.tape.Tape.new.Goals as goal

pub invariant_of-result : goal.invariant_of-result
invariant_of-result c = record {
  spells = subst (λ l. IsTape l) (sym c.new.ensures.bytes) (sym (ap (λ l. spelled_all l) (read_back [] tt)));
  sound = subst (λ l. AllSound (read l)) (sym c.new.ensures.bytes) (subst (λ l. AllSound l) (sym (read_back [] tt)) tt);
}

pub returns-clause-events : goal.returns-clause-events
returns-clause-events c = ap (λ l. read l) c.new.ensures.bytes ∙ read_back [] tt
