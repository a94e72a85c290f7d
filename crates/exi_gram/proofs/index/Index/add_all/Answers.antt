use Rattle.std.proofs.Common.{sym, ap, ◌∙◌}
use Rattle.std.proofs.lemmas.Bool.{eq-eqb, ne_eqb}
use Rattle.std.proofs.lemmas.List.{append-nil}
use Rattle.exi_gram.specs.Candidates.{Listed, found}
use Rattle.exi_gram.proofs.Indexed.{found_here, found_past}
use Rattle.exi_gram.proofs.index.Index.add_all.Goals as goal
use Rattle.exi_gram.proofs.index.Index.add_all.Goals.{then-parts+in_ok-add, else-parts}

pub loop-place-init : goal.loop-place-init
loop-place-init c = λ class name. sym (append-nil (found c.args.self.now class name))

pub loop-place-preserved : goal.loop-place-preserved
loop-place-preserved c = elim c.if-parts.branch [
  | then-parts+in_ok-add w ↦ λ class name.
      ap (λ (i : Listed). found i class name) w.self-is
      ∙ found_here c.args.parts class name c.args.coded.now c.loop-place.place c.index-coded-place.result (found c.args.self.now class name) (found c.loop-place.self class name) (found w.add.new.self class name)
      c.loop-place-test.true c.index-coded-place.is (eq-eqb _ _ (sym c.parts.ensures ∙ w.if-parts.true)) (c.loop-place.invariant class name)
      (rw (w.class-class.ensures, w.sought.ensures) at (w.in_ok-add.ensures class name))
  | else-parts w ↦ λ class name.
      ap (λ (i : Listed). found i class name) w.self-is
      ∙ found_past c.args.parts class name c.args.coded.now c.loop-place.place c.index-coded-place.result (found c.args.self.now class name) (found c.loop-place.self class name)
      c.loop-place-test.true c.index-coded-place.is (ne_eqb _ _ (λ e. w.if-parts.false (c.parts.ensures ∙ e))) (c.loop-place.invariant class name)
]
