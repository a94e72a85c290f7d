use Rattle.exi_typed.proofs.Agree.{declarations_agree, known_names_agree, literals_agree, locals_agree, name_values_agree, names_agree, uris_agree, values_agree}
use Rattle.exi_typed.proofs.laws.read_is_spelled.Goals as goal

pub returns : goal.returns
returns c = record {
  literals = λ a grow. (literals_agree a grow).is_spelled;
  uris = λ a. (uris_agree a).is_spelled;
  locals = λ a uri. (locals_agree a uri).is_spelled;
  names = λ keep a. (names_agree keep a).is_spelled;
  known = λ keep a id. (known_names_agree keep a id).is_spelled;
  name_values = λ keep a. (name_values_agree keep a).is_spelled;
  declarations = λ a. (declarations_agree a).is_spelled;
  values = λ set a name. (values_agree set a name).is_spelled;
}
