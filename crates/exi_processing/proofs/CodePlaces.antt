-- A code is read onward, in the same bytes.
use Rattle.exi_bits.specs.declared.align.Align.{Align}
use Rattle.exi_gram.specs.Codes.{Productions, code_at}
use Rattle.exi_gram.proofs.CodeTells.{code_on}
use Rattle.exi_typed.proofs.Goings.{GoesFurther}

pub code_goes : {X : Type 0} (a : Align) (p : Productions X) → GoesFurther {X = X} (code_at a p)
code_goes a p q s e = let k = code_on p a s q.1 q.0 e in record { bytes = k.0; place = k.1 }
