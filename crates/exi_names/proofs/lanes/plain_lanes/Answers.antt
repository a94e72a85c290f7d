use Rattle.std.proofs.Common.{leb, cond, refl, arith}
use Rattle.std.proofs.lemmas.Simd.{zip2_splat, length-chunk, splat_is_map}
use lib.Lanes.{chunk}
use Rattle.exi_names.proofs.Together.{itself, joined, plain_in}
use Rattle.exi_names.proofs.lanes.plain_lanes.Goals as goal

pub returns : goal.returns
returns c =
    let v = chunk c.args.at 16 c.args.bytes.now in
    let long = length-chunk c.args.at 16 c.args.bytes.now c.requires in
    plain_in _ c.args.bytes.now _ c.args.at 16 c.first_set.result c.requires (omega arith) c.type_inv.bytes c.first_set.ensures
    (joined _ _ _ v (joined _ _ _ v (zip2_splat _ v 16 34 long) (zip2_splat _ v 16 92 long)) (joined _ _ _ v (zip2_splat _ v 16 32 long) (joined (λ a b. cond (leb a b) 255 0) _ _ v (splat_is_map v 16 127 long) (itself v)))) refl
