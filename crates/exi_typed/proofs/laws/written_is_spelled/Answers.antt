use Rattle.exi_typed.proofs.WrittenSpelled.{declaration_written, literal_written, local_written, name_written, prefix_written, string_written, uri_written}
use Rattle.exi_typed.proofs.laws.written_is_spelled.Goals as goal

pub returns : goal.returns
returns c = record {
  literal = literal_written;
  uri = uri_written;
  local = local_written;
  string = string_written;
  name = name_written;
  prefix = prefix_written;
  declaration = declaration_written;
}
