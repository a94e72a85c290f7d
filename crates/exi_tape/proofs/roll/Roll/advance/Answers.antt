use Rattle.std.proofs.Common.{◌≡◌, ◌<◌, ◌++◌, ◌∷◌, length, rules, ap, ◌∙◌, sym}
use Rattle.exi_pool.specs.Pages.{chain, numbers, number_of, before}
use Rattle.exi_tape.specs.Rolls.{times}
use Rattle.exi_tape.proofs.Moves.{moved}
use Rattle.exi_tape.proofs.roll.Roll.advance.Goals as goal

pub returns-in-Some-clause-pages : goal.returns-in-Some-clause-pages
returns-in-Some-clause-pages c = λ n.
    let page = c.in-Some.page in
    let spare : chain c.self.inside.spare ≡ page = search rules in
    let all : c.args.self.now.pages ≡ numbers (chain c.self.inside.spare) ++ numbers (chain c.self.inside.last) = search rules in
    let some : 0 < length page = search rules in
    let rest : chain c.part.result ≡ before page = search rules in
    let new : numbers c.link.new.self ≡ number_of page ∷ numbers (chain c.self.inside.last) = search rules in
    moved n (chain c.self.inside.spare) page (chain c.part.result) c.link.new.self (chain c.self.inside.last) spare some rest new ∙ sym (ap (times n) all)
