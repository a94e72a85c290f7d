use Rattle.exi_typed.proofs.Agree.{declarations_agree, known_names_agree, literals_agree, locals_agree, name_values_agree, names_agree, uris_agree, values_agree}
use Rattle.exi_typed.proofs.laws.none_is_prefix.Goals as goal

pub returns : goal.returns
returns c = record {
  literals = λ a grow. (literals_agree a grow).is_no_prefix;
  uris = λ a. (uris_agree a).is_no_prefix;
  locals = λ a uri. (locals_agree a uri).is_no_prefix;
  names = λ keep a. (names_agree keep a).is_no_prefix;
  known = λ keep a id. (known_names_agree keep a id).is_no_prefix;
  name_values = λ keep a. (name_values_agree keep a).is_no_prefix;
  declarations = λ a. (declarations_agree a).is_no_prefix;
  values = λ set a name. (values_agree set a name).is_no_prefix;
}
