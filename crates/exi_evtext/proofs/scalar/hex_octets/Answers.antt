use Rattle.std.proofs.Common.{Some, List, ℕ, sym, ap, ◌∙◌, inl, inr}
use Rattle.exi_lexical.proofs.Hexes.{decoded_is, refused_is}
use Rattle.exi_evtext.proofs.scalar.hex_octets.Goals as goal

pub returns-in-Ok : goal.returns-in-Ok
returns-in-Ok c = decoded_is c.args.digits.now c.in-Ok.octets.items c.in-Ok.ensures.ok ∙ ap (λ (o : List ℕ). Some o) (sym c.from_vec.ensures)

pub returns-in_default : goal.returns-in_default
returns-in_default c = elim c.in-Err.ensures.err [
  | inl memory ↦ absurd (c.in_default.not-OutOfMemory memory)
  | inr other ↦ refused_is c.args.digits.now c.in-Err.error other
]
