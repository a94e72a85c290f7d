-- The definitions on small values, and at their bounds.
use Rattle.std.proofs.Common.{◌≡◌, ◌++◌, true, false, Some, None, refl, pos, negsuc, ◌-◌, ◌^◌, replicate}
use Rattle.std.specs.Prelude.{codes}
use Rattle.std.specs.Fmt.{digits}
use Rattle.exi_names.specs.Forms.{is_integer, is_small, is_unsigned, no_number}
use Rattle.exi_numerals.specs.Integers.{integer_in, integer_text}
use Rattle.exi_numerals.specs.Decimals.{decimal_text, decimal_value}
use Rattle.exi_numerals.specs.Floats.{float_text, float_value}

-- ---- integers
seven : integer_in is_integer (codes "+007") ≡ Some (record { minus = false; size = 7 })
seven = refl

minus_zero : integer_in is_integer (codes "-0") ≡ Some (record { minus = false; size = 0 })
minus_zero = refl

written_zero : integer_text (record { minus = false; size = 0 }) ≡ codes "0"
unfolding digits
written_zero = refl

written_minus : integer_text (record { minus = true; size = 7 }) ≡ codes "-7"
unfolding digits
written_minus = refl

no_digit : integer_in is_integer (codes "-") ≡ None
no_digit = refl

two_signs : integer_in is_integer (codes "+-1") ≡ None
two_signs = refl

least_integer : integer_in is_integer (codes "-170141183460469231731687303715884105728") ≡ Some (record { minus = true; size = 2 ^ 127 })
least_integer = refl

above_integer : integer_in is_integer (codes "170141183460469231731687303715884105728") ≡ None
above_integer = refl

greatest_unsigned : integer_in is_unsigned (codes "340282366920938463463374607431768211455") ≡ Some (record { minus = false; size = 2 ^ 128 - 1 })
greatest_unsigned = refl

above_unsigned : integer_in is_unsigned (codes "340282366920938463463374607431768211456") ≡ None
above_unsigned = refl

below_unsigned : integer_in is_unsigned (codes "-1") ≡ None
below_unsigned = refl

-- the 256 numbers from -128 on
least_small : integer_in (is_small (negsuc 127) 256) (codes "-128") ≡ Some (record { minus = true; size = 128 })
least_small = refl

below_small : integer_in (is_small (negsuc 127) 256) (codes "-129") ≡ None
below_small = refl

greatest_small : integer_in (is_small (negsuc 127) 256) (codes "127") ≡ Some (record { minus = false; size = 127 })
greatest_small = refl

above_small : integer_in (is_small (negsuc 127) 256) (codes "128") ≡ None
above_small = refl

-- ---- decimals
twelve_05 : decimal_value (codes "-12.05") ≡ Some (record { minus = true; whole = 12; back = 50 })
twelve_05 = refl

twelve_050 : decimal_value (codes "-012.0500") ≡ Some (record { minus = true; whole = 12; back = 50 })
twelve_050 = refl

written_12_05 : decimal_text (record { minus = true; whole = 12; back = 50 }) ≡ codes "-12.05"
unfolding digits
written_12_05 = refl

kept_sign : decimal_value (codes "-0") ≡ Some (record { minus = true; whole = 0; back = 0 })
kept_sign = refl

written_minus_zero : decimal_text (record { minus = true; whole = 0; back = 0 }) ≡ codes "-0.0"
unfolding digits
written_minus_zero = refl

no_whole : decimal_value (codes ".3") ≡ Some (record { minus = false; whole = 0; back = 3 })
no_whole = refl

no_fraction : decimal_value (codes "5.") ≡ Some (record { minus = false; whole = 5; back = 0 })
no_fraction = refl

point_alone : decimal_value (codes "+.") ≡ None
point_alone = refl

two_points : decimal_value (codes "1.2.3") ≡ None
two_points = refl

no_exponent : decimal_value (codes "1e5") ≡ None
no_exponent = refl

-- ---- floats
float_15 : float_value (codes "1.5E3") ≡ Some (record { mantissa = pos 15; exponent = pos 2 })
float_15 = refl

written_15 : float_text (record { mantissa = pos 15; exponent = pos 2 }) ≡ codes "15E2"
unfolding digits
written_15 = refl

minus_inf : float_value (codes "-INF") ≡ Some (record { mantissa = negsuc 0; exponent = no_number })
minus_inf = refl

written_minus_inf : float_text (record { mantissa = negsuc 0; exponent = no_number }) ≡ codes "-INF"
written_minus_inf = refl

inf : float_value (codes "INF") ≡ Some (record { mantissa = pos 1; exponent = no_number })
inf = refl

nan : float_value (codes "NaN") ≡ Some (record { mantissa = pos 0; exponent = no_number })
nan = refl

written_nan : float_text (record { mantissa = pos 0; exponent = no_number }) ≡ codes "NaN"
written_nan = refl

plus_inf : float_value (codes "+INF") ≡ None
plus_inf = refl

trailing_zero : float_value (codes "+1.50") ≡ Some (record { mantissa = pos 150; exponent = negsuc 1 })
trailing_zero = refl

least_mantissa : float_value (codes "-9223372036854775808") ≡ Some (record { mantissa = negsuc (2 ^ 63 - 1); exponent = pos 0 })
least_mantissa = refl

above_mantissa : float_value (codes "9223372036854775808") ≡ None
above_mantissa = refl

greatest_exponent : float_value (codes "1.5e16384") ≡ Some (record { mantissa = pos 15; exponent = pos 16383 })
greatest_exponent = refl

above_exponent : float_value (codes "1E16384") ≡ None
above_exponent = refl

least_exponent : float_value (codes "0E-16383") ≡ Some (record { mantissa = pos 0; exponent = negsuc 16382 })
least_exponent = refl

below_exponent : float_value (codes "0.0E-16383") ≡ None
below_exponent = refl

long_exponent : float_value (codes "1E" ++ replicate 60 48 ++ codes "2") ≡ Some (record { mantissa = pos 1; exponent = pos 2 })
long_exponent = refl

half_exponent : float_value (codes "1E") ≡ None
half_exponent = refl
