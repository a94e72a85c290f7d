use Rattle.std.proofs.Common.{List, ℕ, sym, subst}
use Rattle.exi_names.specs.Events as event
use Rattle.exi_evtext.specs.Plain.{IsLine}
use Rattle.exi_evtext.proofs.Straight.{end_line, held_line}
use Rattle.exi_evtext.proofs.frequent.read_frequent.Goals as goal

pub returns-in-Some-behind_three : goal.returns-in-Some-behind_three
returns-in-Some-behind_three c =
    let behind = c.in-Some-behind_three.behind.now in
    held_line c.if_held.result c.hold_end.result c.args.bytes.now c.hold_end.new.self event.ee behind c.if_held.ensures c.hold_end.ensures (subst (λ (x : List ℕ). IsLine x event.ee behind) (sym c.in-Some-behind_three.ensures) (end_line behind))
