use Rattle.exi_typed.proofs.Goings.{declaration_goes, known_goes, literal_goes, local_goes, name_goes, name_value_goes, uri_goes, value_goes}
use Rattle.exi_typed.proofs.laws.reading_goes_on.Goals as goal

pub returns : goal.returns
returns c = record {
  literals = literal_goes;
  uris = uri_goes;
  locals = local_goes;
  names = name_goes;
  known = known_goes;
  name_values = name_value_goes;
  declarations = declaration_goes;
  values = value_goes;
}
