-- A name that is read stands in the string tables at its least places, and goes on standing there.
use Rattle.std.proofs.Common.{◌≡◌, Bool, Ok}
use Rattle.exi_bits.specs.declared.align.Align.{Align}
use Rattle.exi_names.specs.declared.names.NameId.{NameId}
use Rattle.exi_tables.specs.Growth.{KeepsAll}
use Rattle.exi_tables.specs.Partitions.{Partitions, locals, uris}
use Rattle.exi_typed.specs.ReadStates.{ReadState}
use Rattle.exi_typed.specs.Strings.{Named, name_at}
use Rattle.exi_typed.proofs.Standing.{keeps_least, names_stand}
use Rattle.exi_processing.specs.Sound.{IsLeastName}

pub name_on : (p q : Partitions) (name : NameId) → KeepsAll p q → IsLeastName p name → IsLeastName q name
name_on p q name keeps n = record {
  uri = n.uri;
  local = n.local;
  least_uri = keeps_least (uris p) (uris q) n.uri name.uri keeps.each_uri n.least_uri;
  least_local = keeps_least (locals p name.uri) (locals q name.uri) n.local name.local (keeps.each_local name.uri) n.least_local;
}

pub name_is_least : (keep : Bool) (a : Align) (c d : ReadState) (x : Named) → name_at keep a c ≡ Ok (x, d) → IsLeastName d.context.tables x.id
name_is_least keep a c d x e =
    let s = names_stand keep a x c d e in
    record { uri = x.name.uri; local = x.name.local; least_uri = s.uri; least_local = s.local }
