-- The names of string tables.
use Rattle.std.specs.Prelude.{map}
use Rattle.exi_names.specs.StartTables.{Names}
use Rattle.exi_tables.specs.Partitions.{Partitions, uris}

abbrev pub names_in : Partitions → Names
names_in p = record { uris = uris p; locals = map (λ n. n.locals) p.namespaces }
