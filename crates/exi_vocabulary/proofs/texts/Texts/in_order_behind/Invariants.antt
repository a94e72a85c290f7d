use Rattle.std.proofs.Common.{◌≡◌, ◌++◌, map, take}
use Rattle.exi_vocabulary.proofs.texts.Texts.in_order_behind.Given as goal

abbrev pub invariant-loop-text : goal.invariant-loop-text
invariant-loop-text l = l.list ≡ take l.text-index (take l.fn.first l.fn.self)

abbrev pub invariant-loop-text-2 : goal.invariant-loop-text-2
invariant-loop-text-2 l = l.list ≡ take l.fn.first l.fn.self ++ map (λ t. t.now) (take l.text-index l.text-items)
