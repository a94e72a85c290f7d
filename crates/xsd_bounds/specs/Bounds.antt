-- Bounds of integers, as the facets of a simple type give them (XML Schema 1.0 Part 2, sections 4.3.7 to 4.3.10).
use Rattle.std.specs.Prelude.{ℕ, ◌^◌, ◌-◌, Option, Some, None, List, [], ◌∷◌, ℤ, pos, negsuc, ◌+ℤ◌, int_lt, if◌then◌else◌}
use Rattle.exi_names.specs.Forms.{int_of}
use Rattle.exi_names.specs.Seen.{Value}
use Rattle.exi_names.specs.Seen as seen
use Rattle.xsd_bounds.specs.declared.bound.Bound.{Bound}
use Rattle.xsd_bounds.specs.declared.bound.Bound.TheVariants as bound

-- where a bound stands on the number line
abbrev pub stands_at : Bound → ℤ
stands_at (bound.Below n) = negsuc n
stands_at (bound.From n) = pos n
stands_at bound.Past = pos (2 ^ 128)

-- the integer that a facet tells
abbrev pub integer_in : Option Value → Option ℤ
integer_in (Some (seen.integer n)) = Some (int_of n)
integer_in v = None

-- a bound by itself, or by the next integer
abbrev pub moved : ℤ → Option ℤ → Option ℤ
moved by None = None
moved by (Some n) = Some (n +ℤ by)

-- of two bounds the one that leaves less
abbrev pub greater : Option ℤ → Option ℤ → Option ℤ
greater None n = n
greater (Some m) None = Some m
greater (Some m) (Some n) = if int_lt m n then Some n else Some m

abbrev pub smaller : Option ℤ → Option ℤ → Option ℤ
smaller None n = n
smaller (Some m) None = Some m
smaller (Some m) (Some n) = if int_lt n m then Some n else Some m

abbrev pub greatest : Option ℤ → List (Option ℤ) → Option ℤ
greatest n [] = n
greatest n (m ∷ ms) = greatest (greater n m) ms

abbrev pub least_among : Option ℤ → List (Option ℤ) → Option ℤ
least_among n [] = n
least_among n (m ∷ ms) = least_among (smaller n m) ms
