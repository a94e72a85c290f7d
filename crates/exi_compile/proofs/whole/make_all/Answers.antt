use Rattle.std.proofs.Common.{◌≡◌, All, ap, map, subst, sym, ◌∙◌}
use Rattle.std.proofs.lemmas.List.Elements.{All-same}
use Rattle.xsd_model.specs.Parts.{Parts}
use Rattle.exi_compiled.specs.Compiled.{items_of}
use Rattle.exi_compile.specs.Makings.{IsItem}
use Rattle.exi_compile.specs.Order.{item}
use Rattle.exi_compile.proofs.Compiling.{items_there}
use Rattle.exi_compile.proofs.whole.make_all.Goals as goal

pub add_items-requires-clause-there : goal.add_items-requires-clause-there
add_items-requires-clause-there c =
    let p = c.args.counts.now in
    let same : c.parts-parts.result.now ≡ p = c.parts-parts.ensures ∙ c.elements.ensures in
    let items : map item c.as_slice-3.result.now ≡ items_of p = ap (map item) c.as_slice-3.ensures.value ∙ c.requires.tables.items in
    All-same (IsItem c.parts-parts.result.now) (map item c.as_slice-3.result.now) (items_of p) items
    (subst (λ (q : Parts). All (IsItem q) (items_of p)) (sym same) (items_there p))
