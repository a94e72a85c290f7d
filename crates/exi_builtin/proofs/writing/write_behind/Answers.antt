use Rattle.std.proofs.Common.{◌≡◌, Bool, List, ◌∷◌, [], ◌++◌, OnOk, subst}
use Rattle.exi_gram.specs.declared.code.Code.{Code}
use Rattle.exi_gram.specs.Tables.{parts_of}
use Rattle.exi_builtin.specs.BuiltIn.{left_of, written}
use Rattle.exi_builtin.specs.LeastCodes.{IsCodeOf}
use Rattle.exi_builtin.specs.Learning.{behind_learned}
use Rattle.exi_builtin.proofs.WrittenCodes.{one_behind}
use Rattle.exi_builtin.proofs.writing.write_behind.Goals as goal

pub write_part-requires-clause-below : goal.write_part-requires-clause-below
write_part-requires-clause-below c =
    let p = behind_learned c.args.learned.now (left_of c.args.options.now (written c.args.room)) in
    let is : IsCodeOf p (c.in-One.first ∷ []) = subst (λ (k : Code). IsCodeOf p (parts_of k)) c.in-One.is c.requires.code in
    (one_behind c.align.result c.args.options.now c.args.room c.args.learned.now c.in-One.first c.first_count.result c.first_count.ensures is).0

pub returns-in-One-clause-ok : goal.returns-in-One-clause-ok
returns-in-One-clause-ok c =
    let p = behind_learned c.args.learned.now (left_of c.args.options.now (written c.args.room)) in
    let is : IsCodeOf p (c.in-One.first ∷ []) = subst (λ (k : Code). IsCodeOf p (parts_of k)) c.in-One.is c.requires.code in
    let k = one_behind c.align.result c.args.options.now c.args.room c.args.learned.now c.in-One.first c.first_count.result c.first_count.ensures is in
    rw (c.in-One.is, ← c.align.ensures) (subst (λ (z : List Bool). OnOk c.write_part.result (c.write_part.new.out ≡ c.args.out.now ++ z)) k.1 c.write_part.ensures.ok)
