use Rattle.std.proofs.Common.{◌≡◌, map, subst, sym, ap, ◌∙◌}
use Rattle.exi_names.specs.StartTables.{IsStart}
use Rattle.exi_order.specs.Keys.{keys_of}
use Rattle.exi_vocabulary.specs.Collected.{pair_of}
use Rattle.exi_vocabulary.specs.FirstNames.{all_locals, all_uris, declared_names}
use Rattle.exi_vocabulary.proofs.Rows.{locals_are}
use Rattle.exi_vocabulary.proofs.Standing.{is_start, tables_are}
use Rattle.exi_vocabulary.proofs.tables.first_names.Goals as goal

pub of-requires : goal.of-requires
of-requires c =
    let p = c.args.parts.now in
    let names : keys_of c.as_slice-2.result.now ≡ map pair_of (declared_names p) = ap keys_of c.as_slice-2.ensures.value ∙ c.in_ok-names.ensures in
    let locals : c.in_ok-locals.locals ≡ map (all_locals p) (all_uris p) = locals_are p (keys_of c.as_slice-2.result.now) c.as_slice-3.result.now c.in_ok-locals.locals names c.in_ok-locals.ensures (c.as_slice-3.ensures ∙ c.in_ok-uris.ensures) in
    subst IsStart (sym (tables_are p c.in_ok-uris.uris c.in_ok-locals.locals c.in_ok-uris.ensures locals)) (is_start p c.requires.size)

pub returns : goal.returns
returns c =
    let p = c.args.parts.now in
    let names : keys_of c.as_slice-2.result.now ≡ map pair_of (declared_names p) = ap keys_of c.as_slice-2.ensures.value ∙ c.in_ok-names.ensures in
    let locals : c.in_ok-locals.locals ≡ map (all_locals p) (all_uris p) = locals_are p (keys_of c.as_slice-2.result.now) c.as_slice-3.result.now c.in_ok-locals.locals names c.in_ok-locals.ensures (c.as_slice-3.ensures ∙ c.in_ok-uris.ensures) in
    c.of.ensures ∙ tables_are p c.in_ok-uris.uris c.in_ok-locals.locals c.in_ok-uris.ensures locals
