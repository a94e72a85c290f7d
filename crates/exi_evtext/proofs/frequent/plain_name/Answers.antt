use Rattle.std.proofs.Common.{sym}
use Rattle.exi_evtext.proofs.Cursors.{past_mark}
use Rattle.exi_evtext.proofs.Straight.{name_parts}
use Rattle.exi_evtext.proofs.frequent.plain_name.Goals as goal

pub returns-clause-parts : goal.returns-clause-parts
returns-clause-parts c =
    let s = c.args.bytes.now in
    let a = c.in_ok-inside.inside.now in
    let b = c.in_ok-uri.rest.now in
    let d = c.in_ok-behind_mark.field-0.now in
    let e = c.in_ok-inside-2.inside.now in
    name_parts s a c.in_ok-uri.uri b d e c.in_ok-local.local c.in_ok-local.rest.now c.in_ok-uri.ensures.plain c.in_ok-local.ensures.plain (past_mark 34 s a (sym c.in_ok-inside.ensures)) c.in_ok-uri.ensures.parts
    (past_mark 32 b d (sym c.in_ok-behind_mark.ensures)) (past_mark 34 d e (sym c.in_ok-inside-2.ensures)) c.in_ok-local.ensures.parts
