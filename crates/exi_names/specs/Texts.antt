-- Which values a text may stand for.
use Rattle.std.specs.Prelude.{Bool, true, false, ◌&&◌}
use Rattle.exi_names.specs.Seen.{Value, Values, text, boolean, integer, decimal, float, moment, binary, items, name, no_more, and}

-- neither a name nor a list that holds one at any depth
abbrev mutual
  pub has_text : Value → Bool
  has_text (text t) = true
  has_text (boolean truth digit) = true
  has_text (integer n) = true
  has_text (decimal minus whole back) = true
  has_text (float mantissa exponent) = true
  has_text (moment m) = true
  has_text (binary hex octets) = true
  has_text (items vs) = all_have_text vs
  has_text (name n) = false

  pub all_have_text : Values → Bool
  all_have_text no_more = true
  all_have_text (and v vs) = has_text v && all_have_text vs
