use Rattle.std.proofs.Common.{◌≡◌, ◌+◌, ◌*◌, ◌≤◌, ap, arith, flat_map, length, List}
use Rattle.xsd_model.specs.declared.parts.TypeDef.{TypeDef}
use Rattle.exi_vocabulary.specs.FirstNames.{type_uris}
use Rattle.exi_compile.proofs.Sizes.{size_told}
use Rattle.exi_compile.proofs.size.size.Goals as goal

pub returns : goal.returns
returns c =
    let p = c.args.parts.now in
    let es : length c.elements-elements.result.now ≡ length p.elements = ap (λ l. length l) c.elements-elements.ensures.elements in
    let xs : length c.attributes-attributes.result.now ≡ length p.attributes = ap (λ l. length l) c.attributes-attributes.ensures.attributes in
    let ts : length c.types-types.result.now ≡ length p.types = ap (λ l. length l) c.types-types.ensures.types in
    let told : length (flat_map type_uris c.types.result.now) ≡ length (flat_map type_uris p.types) = ap (λ (l : List TypeDef). length (flat_map type_uris l)) c.types.ensures.types in
    let counted : 1 + (2 * (length p.elements + (length p.attributes + length p.types)) + length (flat_map type_uris p.types)) ≤ c.in_ok-with_types.field-0 =
    omega (arith, es, xs, ts, told, c.in_ok-more.ensures.0, c.in_ok-more-2.ensures.0, c.in_ok-count.ensures.0, c.in_ok-more-3.ensures.0, c.in_ok-more-4.ensures.0, c.in_ok-count-2.ensures.0, c.in_ok-with_types.ensures.0) in
    size_told p c.with_particles.result c.in_ok-with_types.field-0 c.particles.result.now c.particles.ensures.particles counted c.with_particles.ensures
