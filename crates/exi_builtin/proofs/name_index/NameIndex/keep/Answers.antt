use Rattle.exi_builtin.specs.Marks.{name_key}
use Rattle.exi_builtin.proofs.Indexing.{keyed}
use Rattle.exi_builtin.proofs.name_index.NameIndex.keep.Goals as goal

pub returns-in_ok-insert-in-Known-clause-ok : goal.returns-in_ok-insert-in-Known-clause-ok
returns-in_ok-insert-in-Known-clause-ok c = λ name attribute.
    rw c.in-Known.is (keyed c.in-Known.name name c.in-Known.attribute attribute c.args.place _ _ (rw c.key_of.ensures at (c.in_ok-insert-in-Known.ensures.updates.0 (name_key name attribute))))
