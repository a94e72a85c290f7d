-- What items end as, where a `&mut` to them is returned.
use Rattle.std.specs.Prelude.{List, ◌++◌, length, take, drop}
use Rattle.std.specs.Borrow.{Lends, Fml, RattleType, MutBor, Array}
use Rattle.exi_gram.specs.contracts.items.Items.{the_row}

-- these in the place of as many of the items; there are no more of them than before
abbrev pub written_over : {X : Type 0} → List X → List X → List X
written_over items slice = take (length items) (slice ++ drop (length slice) items)

module _ (T : RattleType) (items : MutBor (List T.Denot)) where
  -- once the borrow ends, they are those that it shows last
  abbrev pub lends_slice : MutBor (List T.Denot) → Fml
  lends_slice slice = Lends (the_row T) (Array T 0) items slice (written_over items.now)
