use Rattle.std.proofs.Common.{◌≡◌, [], ◌∷◌, drop, map, option_map}
use Rattle.xsd_nodes.specs.Nodes.{children}
use Rattle.xsd_nodes.specs.declared.part.Part.TheVariants as part
use Rattle.xsd_bounds.specs.Bounds.{least_among, stands_at}
use Rattle.xsd_restrictions.specs.Restrictions.{bound, form_at}
use Rattle.xsd_restrictions.proofs.facets.most_at.Given as goal

abbrev pub invariant-loop-facet : goal.invariant-loop-facet
invariant-loop-facet l =
    least_among (option_map stands_at l.most) (map (bound l.fn.document (form_at l.fn.forms l.fn.form)) (drop l.facet-index (children l.fn.document (part.MaxInclusive ∷ part.MaxExclusive ∷ []) l.fn.place)))
    ≡ least_among (option_map stands_at l.fn.first) (map (bound l.fn.document (form_at l.fn.forms l.fn.form)) (children l.fn.document (part.MaxInclusive ∷ part.MaxExclusive ∷ []) l.fn.place))
