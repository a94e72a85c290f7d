use Rattle.exi_typed.proofs.Limits.{declaration_within, known_within, literal_within, local_within, name_value_within, name_within, uri_within, value_within}
use Rattle.exi_typed.proofs.laws.limits_are_kept.Goals as goal

pub returns : goal.returns
returns c = record {
  literals = literal_within;
  uris = uri_within;
  locals = local_within;
  names = name_within;
  known = known_within;
  name_values = name_value_within;
  declarations = declaration_within;
  values = value_within;
}
