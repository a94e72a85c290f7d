use Rattle.std.proofs.Common.{◌≡◌, option_to_list, take}
use Rattle.std.specs.List.{flat_map}
use Rattle.exi_names.specs.Seen.{vals}
use Rattle.xsd_restrictions.specs.Restrictions.{facet_value, form_at}
use Rattle.xsd_restrictions.proofs.facets.values_at.Given as goal

abbrev pub invariant-loop-facet : goal.invariant-loop-facet
invariant-loop-facet l = vals l.values ≡ flat_map (λ f. option_to_list (facet_value l.fn.nodes (form_at l.fn.forms l.fn.form) f)) (take l.facet-index l.fn.facets)
