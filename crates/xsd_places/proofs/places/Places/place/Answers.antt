use Rattle.std.proofs.Common.{◌≤◌, ◌^◌, length, ap, arith}
use Rattle.xsd_places.proofs.Behind.{place_few}
use Rattle.xsd_places.proofs.places.Places.place.Goals as goal

pub returns-clause-few : goal.returns-clause-few
returns-clause-few c =
    let few : length c.nodes.result.now ≤ 2 ^ 28 = omega (arith, ap length c.nodes.ensures.nodes, c.nodes.ensures.tree.few) in
    place_few c.args.kind c.nodes.result.now c.args.place c.count_at.result c.count_at.ensures few
