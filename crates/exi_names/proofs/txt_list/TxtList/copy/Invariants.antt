use Rattle.std.proofs.Common.{◌≡◌, take}
use Rattle.exi_names.proofs.txt_list.TxtList.copy.Given as goal

abbrev pub invariant-loop-text : goal.invariant-loop-text
invariant-loop-text l = (l.items.items ≡ take l.text-index l.text-items) × (l.text-items ≡ l.self)
