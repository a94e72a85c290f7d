-- Lists that lie in one another.
use Rattle.std.specs.Prelude.{ℕ, zero, suc}
use Rattle.exi_names.specs.Datatypes.{Representation, list}

-- so many deep, with items of one representation
abbrev pub list_of : ℕ → Representation → Representation
list_of zero item = item
list_of (suc n) item = list (list_of n item)
