use Rattle.std.proofs.Common.{refl}
use Rattle.exi_names.proofs.FirstTables.{uris_are, xml_names_are, xsi_names_are, first_is_start}
use Rattle.exi_names.proofs.start.StartNames.without_schema.Goals as goal

pub invariant_of-result : goal.invariant_of-result
invariant_of-result c =
    rw (
      c.in_ok-texts-3.ensures,
      uris_are,
      c.in_ok-push-3.ensures.ok,
      c.in_ok-push-2.ensures.ok,
      c.in_ok-push.ensures.ok,
      c.new-locals.ensures,
      c.new.ensures,
      c.in_ok-texts.ensures,
      xml_names_are,
      c.in_ok-texts-2.ensures,
      xsi_names_are,
    ) first_is_start

pub returns : goal.returns
returns c =
    rw (
      c.in_ok-texts-3.ensures,
      uris_are,
      c.in_ok-push-3.ensures.ok,
      c.in_ok-push-2.ensures.ok,
      c.in_ok-push.ensures.ok,
      c.new-locals.ensures,
      c.new.ensures,
      c.in_ok-texts.ensures,
      xml_names_are,
      c.in_ok-texts-2.ensures,
      xsi_names_are,
    ) refl
