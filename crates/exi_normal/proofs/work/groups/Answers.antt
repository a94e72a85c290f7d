use Rattle.std.proofs.Common.{◌∙◌, [], ap, map, sym, subst}
use Rattle.exi_normal.specs.Numbers.{groups_from, readings_from}
use Rattle.exi_normal.specs.Spots.{row_seen}
use Rattle.exi_normal.specs.Steps.{states_of, symbols}
use Rattle.exi_normal.proofs.Bridge.{AreThere, rows_alike, rows_there}
use Rattle.exi_normal.proofs.work.groups.Goals as goal

pub returns-clause-rows : goal.returns-clause-rows
returns-clause-rows c =
    let n = c.args.numbered.now in
    ap (map (row_seen (symbols n.terminals))) (c.in_ok-groups.ensures ∙ ap (groups_from []) (c.as_slice.ensures.value ∙ c.in_ok-readings.ensures ∙ ap (λ z. readings_from z c.args.members.now) c.as_slice-states.ensures.value))
    ∙ rows_alike (symbols n.terminals) n.states.items (states_of n) c.args.members.now c.requires.numbered.apart c.requires.numbered.shows

pub returns-clause-there : goal.returns-clause-there
returns-clause-there c =
    let n = c.args.numbered.now in
    let e = c.in_ok-groups.ensures ∙ ap (groups_from []) (c.as_slice.ensures.value ∙ c.in_ok-readings.ensures ∙ ap (λ z. readings_from z c.args.members.now) c.as_slice-states.ensures.value) in
    subst (AreThere (symbols n.terminals)) (sym e) (rows_there (symbols n.terminals) n.states.items (states_of n) c.args.members.now c.requires.numbered.shows)
