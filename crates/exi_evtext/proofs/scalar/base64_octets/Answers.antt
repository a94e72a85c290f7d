use Rattle.std.proofs.Common.{◌≡◌, Some, List, ℕ, refl, sym, ap, ◌∙◌, arith}
use Rattle.base64.specs.GeneralPurpose.{encode_of}
use Rattle.base64.specs.Engines.{standard}
use Rattle.exi_lexical.proofs.Sixes.{decoded_is, refused_is}
use Rattle.exi_evtext.proofs.scalar.base64_octets.Goals as goal

pub returns-in-Ok : goal.returns-in-Ok
returns-in-Ok c =
    let e : c.args.digits.now ≡ encode_of standard c.in-Ok.octets.items = c.in-Ok.ensures.exact (refl, refl) in
    decoded_is c.args.digits.now c.in-Ok.octets.items c.in-Ok.ensures.bytes e ∙ ap (λ (o : List ℕ). Some o) (sym c.from_vec.ensures)

pub returns-in_default : goal.returns-in_default
returns-in_default c =
    sym (refused_is c.args.digits.now c.in-Err.error (λ i. omega (arith, c.type_inv.digits i)) c.in-Err.ensures.err c.in_default.not-OutOfMemory (c.in-Err.ensures.strict (refl, refl)))
