use Rattle.std.proofs.Common.{◌≡◌, ◌∙◌}
use Rattle.exi_order.specs.Keys.{keys_of}
use Rattle.exi_vocabulary.specs.Collected.{with_texts}
use Rattle.exi_vocabulary.specs.FirstNames.{known_uris, told_uris}
use Rattle.exi_vocabulary.proofs.Rows.{four_uris, uris_in_order, uris_told}
use Rattle.exi_vocabulary.proofs.Words.{same_ok, uris_are}
use Rattle.exi_vocabulary.proofs.tables.uris.Goals as goal

pub in_order_behind-requires : goal.in_order_behind-requires
in_order_behind-requires c =
    let all : c.add_particles.new.uris ≡ with_texts known_uris (told_uris c.args.parts.now) =
    uris_told c.args.parts.now (keys_of c.args.names.now) c.target.result.now c.types.result.now c.particles.result.now c.in_ok-uris.uris c.add.new.self c.add_uris.new.uris c.add_types.new.uris c.add_particles.new.uris
    c.requires.names c.target.ensures.target c.types.ensures.types c.particles.ensures.particles (c.in_ok-uris.ensures ∙ uris_are) c.in_ok-add.ensures c.in_ok-add_uris.ensures c.in_ok-add_types.ensures c.in_ok-add_particles.ensures in
    record { first = four_uris c.args.parts.now c.add_particles.new.uris all }

pub returns : goal.returns
returns c =
    let all : c.add_particles.new.uris ≡ with_texts known_uris (told_uris c.args.parts.now) =
    uris_told c.args.parts.now (keys_of c.args.names.now) c.target.result.now c.types.result.now c.particles.result.now c.in_ok-uris.uris c.add.new.self c.add_uris.new.uris c.add_types.new.uris c.add_particles.new.uris
    c.requires.names c.target.ensures.target c.types.ensures.types c.particles.ensures.particles (c.in_ok-uris.ensures ∙ uris_are) c.in_ok-add.ensures c.in_ok-add_uris.ensures c.in_ok-add_types.ensures c.in_ok-add_particles.ensures in
    same_ok _ _ c.in_order_behind.result (uris_in_order c.args.parts.now c.add_particles.new.uris all) c.in_order_behind.ensures
