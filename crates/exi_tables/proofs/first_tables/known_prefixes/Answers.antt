use Rattle.std.proofs.Common.{◌≡◌, refl}
use Rattle.std.specs.Prelude.{codes}
use Rattle.exi_tables.proofs.FirstPrefixes.{xml_is, xsi_is}
use Rattle.exi_tables.proofs.first_tables.known_prefixes.Goals as goal

pub returns : goal.returns
returns c =
    let xml : c.in_ok-of.field-0 ≡ codes "xml" = rw xml_is at c.in_ok-of.ensures in
    let xsi : c.in_ok-of-2.field-0 ≡ codes "xsi" = rw xsi_is at c.in_ok-of-2.ensures in
    rw (c.in_ok-push-3.ensures.items, c.in_ok-push-2.ensures.items, c.in_ok-push.ensures.items, c.new-texts.ensures.items, c.new.ensures, xml, xsi) refl
