use Rattle.std.proofs.Common.{◌≡◌, ◌++◌, map, take}
use Rattle.exi_names.specs.declared.names.NameId.{NameId}
use Rattle.exi_gram.specs.Candidates.{found, sought_from}
use Rattle.exi_gram.specs.Tables.{coded_of}
use Rattle.exi_gram.specs.declared.class.Class.{Class}
use Rattle.exi_gram.proofs.index.Index.add_all.Given as goal

abbrev pub invariant-loop-place : goal.invariant-loop-place
invariant-loop-place l = (class : Class) (name : NameId) → found l.self class name ≡ found l.fn.self class name ++ sought_from l.parts class name 0 (map coded_of (take l.place l.coded))
