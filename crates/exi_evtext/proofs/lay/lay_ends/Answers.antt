use Rattle.std.proofs.Common.{◌≡◌, ◌+◌, ◌-◌, ◌++◌, ℕ, List, length, take, drop, sym, ap, ◌∙◌, arith}
use Rattle.std.proofs.lemmas.List.{length-drop, take_rest, take_all}
use Rattle.exi_evtext.proofs.Lays.{both_ends}
use Rattle.exi_evtext.proofs.lay.lay_ends.Goals as goal

pub returns-clause-laid : goal.returns-clause-laid
returns-clause-laid g c =
    let at = c.args.at in
    let width = g.row.N in
    let bytes = c.args.bytes.now in
    let r1 = c.lay_front.new.room in
    let r2 = c.lay_front-2.new.room in
    let f : ℕ = length bytes - width in
    let le = c.requires.ends.0 in
    let front : take (at + width) r1 ≡ _ = ap (λ (n : ℕ). take n r1) (sym c.lay_front.ensures.behind) ∙ c.lay_front.ensures.laid in
    let behind : c.lay_front-2.result ≡ at + length bytes = omega (arith, c.lay_front-2.ensures.behind, le) in
    let rest = ap (take width) (take_rest bytes f) ∙ take_all width (drop f bytes) (omega (arith, length-drop f bytes, le)) in
    let end = ap (λ (n : ℕ). take n r2) (sym behind) ∙ c.lay_front-2.ensures.laid ∙ ap (λ (x : List ℕ). take (at + f) r1 ++ x) rest in
    ap (λ (n : ℕ). take n r2) behind ∙ both_ends at width c.args.room.now r1 r2 bytes c.requires.room le c.requires.ends.1 front end
