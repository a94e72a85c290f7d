use Rattle.std.proofs.Common.{◌≡◌, Bool, false, List, ap, length, replicate, sym, ◌∙◌}
use Rattle.exi_compile.proofs.Marks.{casts_kept}
use Rattle.exi_compile.proofs.casts.casts.Goals as goal

pub returns : goal.returns
returns c =
    let items : c.in_ok-casts.casts.items ≡ replicate (length c.types-types.result.now) false = c.in_ok-casts.ensures.items_if_clones_equal (λ y same. same) in
    let long : length c.as_mut_slice.result.now ≡ c.in_ok-casts.casts.len = c.as_mut_slice.ensures.len in
    let lent : length c.as_mut_slice.result.now ≡ length c.in_ok-casts.casts.items = ap (λ (l : List Bool). length l) c.as_mut_slice.ensures.value in
    casts_kept c.args.parts.now c.types-types.ensures.parts c.types-types.result.now c.in_ok-casts.casts.items c.as_mut_slice.result.now c.mark_all.new.marks c.as_mut_slice-2.result.now c.mark_unions.new.marks c.in_ok-casts.casts.len
    c.types-types.ensures.types items (sym long ∙ lent) c.as_mut_slice.ensures.value c.mark_all.ensures c.as_mut_slice-2.ensures.value c.mark_unions.ensures
