use Rattle.std.proofs.Common.{ℕ, ◌+◌, ◌++◌, List, Option, drop, get_or, map, refl, sym, ap, ◌∙◌, arith}
use Rattle.std.proofs.lemmas.List.{append-nil}
use Rattle.exi_gram.specs.Terminals.{StepRule}
use Rattle.exi_proto.specs.declared.spot.Spot.{Spot}
use Rattle.exi_proto.specs.Places.{laid, with_first}
use Rattle.exi_proto.specs.Protos.{opening_piece}
use Rattle.exi_proto.specs.Tasks.{made, set_at}
use Rattle.exi_proto.proofs.Looping.{drop_all, laid_next}
use Rattle.exi_proto.proofs.work.Work.push_each.Goals as goal

pub loop-place-preserved : goal.loop-place-preserved
loop-place-preserved c =
    let i = c.loop-place.invariant in
    let p = c.args.elements.now in
    let at = c.loop-place.at in
    let new = c.push_opening.new.self in
    let first = ap (λ (s : Spot). s.first) c.behind-at.ensures in
    let before = ap (λ (s : Spot). s.before) c.behind-at.ensures in
    let next = ap (λ (s : Spot). s.next) c.behind-at.ensures in
    let all = c.in_ok-push_opening.ensures in (
      omega (arith, first, i.0),
      omega (arith, before, i.1),
      next ∙ i.2,
      all.ends,
      all.tasks ∙ i.4,
      ap (λ (e : Option ℕ). made new ++ laid c.behind-at.result.first c.behind-at.result.before e (map (opening_piece p) (drop (c.loop-place.place-index + 1) c.args.places.now))) next
          ∙ laid_next p at.first at.before c.behind-at.result.first c.behind-at.result.before at.next c.args.places.now c.loop-place.place-index (get_or c.args.places.now c.loop-place.place-index 0) (made c.loop-place.self) (made new) c.loop-place-test.true refl
          (all.made ∙ ap (λ (es : List StepRule). made c.loop-place.self ++ with_first es (set_at at (opening_piece p (get_or c.args.places.now c.loop-place.place-index 0)).states)) i.3) first before
          ∙ i.5,
    )

pub returns : goal.returns
returns c =
    let i = c.loop-place.invariant in
    let p = c.args.elements.now in
    let at = c.loop-place.at in
    record {
      made = sym (append-nil (made c.loop-place.self))
          ∙ ap (λ (ys : List ℕ). made c.loop-place.self ++ laid at.first at.before at.next (map (opening_piece p) ys)) (sym (drop_all c.args.places.now c.loop-place.place-index c.loop-place-test.false))
          ∙ i.5;
      ends = i.3;
      tasks = i.4;
    }
