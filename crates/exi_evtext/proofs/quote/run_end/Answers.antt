use Rattle.std.proofs.Common.{◌≡◌, ◌+◌, ◌-◌, ℕ, take, drop, sym, ap, ◌∙◌, subst, arith}
use Rattle.std.specs.List.{flat_map}
use Rattle.std.proofs.lemmas.List.{take_rest}
use Rattle.exi_evtext.specs.Lines.{escaped}
use Rattle.exi_evtext.specs.Parsing.{run_width}
use Rattle.exi_evtext.proofs.Escapes.{run_stands}
use Rattle.exi_evtext.proofs.quote.run_end.Goals as goal

pub returns-clause-plain : goal.returns-clause-plain
returns-clause-plain c =
    let s = c.args.bytes.now in
    let from = c.args.from in
    let w = c.run_width.result in
    let width : (from + w) - from ≡ w = omega arith in
    let is : w ≡ run_width (drop from s) = c.run_width.ensures.width ∙ ap run_width (take_rest s from) in
    subst (λ (n : ℕ). flat_map escaped (take n (drop from s)) ≡ take n (drop from s)) (sym (width ∙ is)) (run_stands (drop from s))
