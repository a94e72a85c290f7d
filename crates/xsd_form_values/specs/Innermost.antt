-- The items of lists that lie in one another.
use Rattle.exi_names.specs.Datatypes.{Representation, list}

-- what the items are of a list, or of the lists in it; what is no list is its own
abbrev pub innermost : Representation → Representation
innermost (list item) = innermost item
innermost r = r
