use Rattle.std.proofs.Common.{◌≡◌, [], Some, drop}
use Rattle.xsd_restrictions.specs.Restrictions.{letters_among}
use Rattle.xsd_restrictions.proofs.facets.letters_at.Given as goal

abbrev pub invariant-loop-facet : goal.invariant-loop-facet
invariant-loop-facet l = letters_among l.fn.nodes l.letters (drop l.facet-index l.fn.facets) ≡ letters_among l.fn.nodes (Some []) l.fn.facets
