use Rattle.std.proofs.Common.{ℕ, List, Option, subst}
use Rattle.std.specs.Prelude.{IfSome}
use Rattle.std.specs.Borrow.{Bor}
use Rattle.exi_evtext.specs.Rooms.{HoldsOpened}
use Rattle.exi_evtext.proofs.Refills.{ended_line}
use Rattle.exi_evtext.proofs.frequent.any_text.Goals as goal

pub returns : goal.returns
returns c =
    let bytes = c.args.bytes.now in
    let room = c.hold_opened.new.self in
    let held = subst (λ (o : Option (Bor (List ℕ))). IfSome o (λ b. HoldsOpened bytes room b.now)) c.in-Some.is c.in_ok-rest.ensures in
    ended_line c.behind_mark.result bytes c.in-Some.rest.now room c.behind_mark.ensures held
