use Rattle.std.proofs.Common.{◌≡◌, ℕ, ◌<◌, [], get_or, length, take}
use Rattle.std.specs.List.{filter}
use Rattle.exi_gram.specs.Laws.{places_from}
use Rattle.exi_elements.specs.Members.{is_member}
use Rattle.exi_elements.proofs.members.members_of.Given as goal

abbrev pub invariant-loop-place : goal.invariant-loop-place
invariant-loop-place l = record {
  count : length l.lists.items ≡ length l.fn.parts.elements;
  each : (head : ℕ) → head < length l.fn.parts.elements → get_or l.lists.items head [] ≡ filter (is_member l.fn.parts head) (take l.place (places_from 0 l.fn.parts.elements));
}
