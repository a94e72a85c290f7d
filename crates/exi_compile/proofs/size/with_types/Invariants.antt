use Rattle.std.proofs.Common.{◌≡◌, ◌+◌, ◌≤◌, flat_map, length, take}
use Rattle.exi_vocabulary.specs.FirstNames.{type_uris}
use Rattle.exi_compile.proofs.size.with_types.Given as goal

abbrev pub invariant-loop-of : goal.invariant-loop-of
invariant-loop-of l = record {
  counted : l.all ≡ l.count + length (flat_map type_uris (take l.of-index l.types));
  few : l.all ≤ 268435456;
}
