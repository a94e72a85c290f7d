use Rattle.std.proofs.Common.{◌≡◌, ◌++◌, ◌∷◌, [], ℕ, List, ap, ◌∙◌}
use Rattle.std.specs.Prelude.{string_bytes}
use Rattle.exi_evtext.proofs.Holds.{kept_both, kept_by}
use Rattle.exi_evtext.proofs.Signs.{hex_end, hex_step}
use Rattle.exi_evtext.proofs.value.push_hex.Goals as goal

pub loop-octet-preserved : goal.loop-octet-preserved
loop-octet-preserved c =
    let out = string_bytes c.loop-octet.out in
    let mid = string_bytes c.push.new.self in
    let new = string_bytes c.push-in-loop-octet.new.self in
    let high = c.hex_sign.result in
    let low = c.hex_sign-in-loop-octet.result in
    let one : mid ≡ out ++ high ∷ [] = c.in_ok-push.ensures.bytes ∙ ap (λ (x : List ℕ). out ++ x) (c.push.ensures.ascii c.hex_sign.ensures.ascii) in
    let two : new ≡ mid ++ low ∷ [] = c.in_ok-push-2.ensures.bytes ∙ ap (λ (x : List ℕ). mid ++ x) (c.push-in-loop-octet.ensures.ascii c.hex_sign-in-loop-octet.ensures.ascii) in
    let inv = c.loop-octet.invariant in record {
      done = hex_step c.args.octets.now out mid new _ c.loop-octet.octet-index high low c.loop-octet-test.true inv.done one two c.hex_sign.ensures.sign c.hex_sign-in-loop-octet.ensures.sign;
      kept = kept_both _ mid new (kept_both _ out mid inv.kept (kept_by out (high ∷ []) mid one)) (kept_by mid (low ∷ []) new two);
    }

pub returns-clause-ok : goal.returns-clause-ok
returns-clause-ok c = hex_end c.args.octets.now (string_bytes c.loop-octet.out) _ c.loop-octet.octet-index c.loop-octet-test.false c.loop-octet.invariant.done
