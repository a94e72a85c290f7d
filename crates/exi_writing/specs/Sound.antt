-- String tables in which no place under a name is given twice, in a configuration and in what it has put aside.
use Rattle.std.specs.Prelude.{List, [], ◌∷◌}
use Rattle.exi_tables.specs.Growth.{IsSound}
use Rattle.exi_processing.specs.Configurations.{Body, Config}

abbrev pub AreSound : List Body → Type 0
AreSound [] = Unit {0}
AreSound (b ∷ bs) = IsSound b.tables.values × AreSound bs

pub record HasSoundTables (c : Config) : Type 0 where
  pub here : IsSound c.tables.values
  pub aside : AreSound c.aside
