use Rattle.std.proofs.Common.{◌≡◌, ◌<◌, ◌≤◌, ◌++◌, ◌∙◌, List, [], ap, arith, drop, get_or, length, map, suc, sym, subst}
use Rattle.std.proofs.lemmas.List.{take_at}
use Rattle.std.proofs.lemmas.Result.{err_from_is_err_and}
use Rattle.std.specs.Prelude.{◌||◌}
use Rattle.exi_normal.specs.Normals.{any_differ, met_from, rows_from, rows_of}
use Rattle.exi_normal.specs.Spots.{row_at, row_seen}
use Rattle.exi_normal.specs.Steps.{states_of, symbols}
use Rattle.exi_normal.specs.Working.{work_of}
use Rattle.exi_normal.specs.declared.order.Spot.{Spot}
use Rattle.exi_normal.proofs.Bridge.{AreThere}
use Rattle.exi_normal.proofs.Topmost.{arranged_length, next_is, next_members, next_rows, next_stops, or_first, or_second}
use Rattle.exi_normal.proofs.work.Found.next.Goals as goal
use Rattle.exi_normal.proofs.work.Found.next.Goals.{then-self, else-self}

pub spots-requires : goal.spots-requires
spots-requires c = record { there = subst (AreThere (symbols c.args.numbered.now.terminals)) (sym c.as_slice.ensures.value) c.in_ok-groups.ensures.there }

pub overflow_cast-own : goal.overflow_cast-own
overflow_cast-own c = let f = c.ranges.most.fits in let n = ap length c.as_slice-own.ensures in omega (arith, f, n, c.requires.behind, c.requires.few)

pub returns-in_err-rules-clause-stop : goal.returns-in_err-rules-clause-stop
returns-in_err-rules-clause-stop c =
    let p = err_from_is_err_and c.from_residual-in_err-rules.result c.from_residual-in_err-rules.ensures.1 in
    let states = states_of c.args.numbered.now in
    let ss = symbols c.args.numbered.now.terminals in
    let f = c.args.self.now in
    let own = length c.as_slice-own.result.now in
    let new = c.arrange.new.spots in
    let e = c.in_ok-arrange.ensures in
    let long = arranged_length c.as_mut_slice.result.now new e ∙ c.as_mut_slice.ensures.len in
    let all = c.as_slice-2.ensures.value ∙ take_at new _ c.in_ok-spots.spots.len long in
    let there = ap (map row_at) c.as_mut_slice.ensures.value ∙ c.in_ok-spots.ensures ∙ ap (map (row_seen ss)) c.as_slice.ensures.value in
    let read = c.in_ok-groups.ensures.rows ∙ ap (λ z. rows_from [] (met_from states z)) c.get.ensures in
    let rows = ap (map row_at) all ∙ next_rows ss states (get_or f.lists own []) c.in_ok-groups.groups.items c.as_mut_slice.result.now new read there e ∙ next_members f states own (ap length c.as_slice-own.ensures) in
    rw (p.1, p.2) (next_stops c.args.most states f (map row_at c.as_slice-2.result.now) c.in_err-rules.field-0.0 rows c.in_err-rules.ensures.stop)

pub returns-clause-work : goal.returns-clause-work
returns-clause-work c =
    let states = states_of c.args.numbered.now in
    let ss = symbols c.args.numbered.now.terminals in
    let f = c.args.self.now in
    let own = length c.as_slice-own.result.now in
    let new = c.arrange.new.spots in
    let e = c.in_ok-arrange.ensures in
    let long = arranged_length c.as_mut_slice.result.now new e ∙ c.as_mut_slice.ensures.len in
    let all = c.as_slice-2.ensures.value ∙ take_at new _ c.in_ok-spots.spots.len long in
    let there = ap (map row_at) c.as_mut_slice.ensures.value ∙ c.in_ok-spots.ensures ∙ ap (map (row_seen ss)) c.as_slice.ensures.value in
    let read = c.in_ok-groups.ensures.rows ∙ ap (λ z. rows_from [] (met_from states z)) c.get.ensures in
    let rows = ap (map row_at) all ∙ next_rows ss states (get_or f.lists own []) c.in_ok-groups.groups.items c.as_mut_slice.result.now new read there e ∙ next_members f states own (ap length c.as_slice-own.ensures) in
    let differs : c.if-self.self ≡ (f.differs || any_differ (map row_at c.as_slice-2.result.now)) = elim c.if-self.branch [
      | then-self w ↦ or_first f.differs (any_differ (map row_at c.as_slice-2.result.now)) c.if-self.self w.if-self.true w.self-is
      | else-self w ↦ or_second f.differs (any_differ (map row_at c.as_slice-2.result.now)) c.if-self.self w.if-self.false
          (w.self-is ∙ w.any_differ-self.ensures ∙ ap (λ (z : List Spot). any_differ (map row_at z)) (w.as_slice-else-self.ensures.value ∙ sym c.as_slice-2.ensures.value))
    ] in
    next_is states f (record { lists = c.rules.new.lists; states = c.push.new.self; differs = c.if-self.self }) (map row_at c.as_slice-2.result.now) c.in_ok-rules.rules own (ap length c.as_slice-own.ensures) rows
    c.in_ok-rules.ensures.lists c.in_ok-push.ensures.ok c.in_ok-rules.ensures.rules differs
