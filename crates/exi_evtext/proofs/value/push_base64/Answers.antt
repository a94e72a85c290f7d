use Rattle.std.proofs.Common.{arith}
use Rattle.base64.specs.GeneralPurpose.{encode_of}
use Rattle.base64.specs.Engines.{standard}
use Rattle.exi_lexical.proofs.Sixes.{standard_is}
use Rattle.exi_lexical.proofs.Appends.{appended_is}
use Rattle.exi_evtext.proofs.value.push_base64.Goals as goal

pub returns-clause-ok : goal.returns-clause-ok
returns-clause-ok c =
    appended_is c.encode_string.result _ _ (encode_of standard c.args.octets.now) _ c.encode_string.ensures.ok (standard_is c.args.octets.now (λ i. omega (arith, c.type_inv.octets i)))
