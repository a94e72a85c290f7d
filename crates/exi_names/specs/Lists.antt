-- The events that a list in memory took.
use Rattle.std.specs.Prelude.{◌≡◌, [], ◌++◌, List, map}
use Rattle.std.proofs.Common.{sym, ap, ◌∙◌}
use Rattle.std.proofs.lemmas.List.{append-nil, append_assoc}
use Rattle.exi_names.specs.Events.{Happening, happens}
use Rattle.exi_names.specs.declared.event_list.EventList.{EventList}

-- the events in order
abbrev pub events_of : EventList → List Happening
events_of list = map happens list.items.items

pub takes_none : {X : Type 0} (xs : List X) → xs ≡ xs ++ []
takes_none xs = sym (append-nil xs)

pub takes_more : {X : Type 0} (a b c es fs : List X) → b ≡ a ++ es → c ≡ b ++ fs → c ≡ a ++ (es ++ fs)
takes_more a b c es fs p q = q ∙ ap (λ t. t ++ fs) p ∙ append_assoc a es fs
