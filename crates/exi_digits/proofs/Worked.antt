-- The definitions on small values.
use Rattle.std.proofs.Common.{◌≡◌, [], ◌++◌, refl, Some, None, replicate, ◌-◌, ◌^◌}
use Rattle.std.specs.Prelude.{codes}
use Rattle.std.specs.Fmt.{digits}
use Rattle.exi_digits.specs.Digits.{number_in, back_in, padded, fraction_of, number_behind}

number_1205 : number_in (codes "001205") ≡ Some 1205
number_1205 = refl

no_digits : number_in [] ≡ None
no_digits = refl

no_sign : number_in (codes "+1") ≡ None
no_sign = refl

greatest : number_in (codes "340282366920938463463374607431768211455") ≡ Some (2 ^ 128 - 1)
greatest = refl

too_great : number_in (codes "340282366920938463463374607431768211456") ≡ None
too_great = refl

behind_twelve : number_behind 12 (codes "05") ≡ Some 1205
behind_twelve = refl

-- .0530 read backwards is 0350
fraction_0530 : back_in (codes "0530") ≡ Some 350
fraction_0530 = refl

zeros_at_the_end : back_in (codes "5" ++ replicate 100 48) ≡ Some 5
zeros_at_the_end = refl

no_fraction : back_in [] ≡ Some 0
no_fraction = refl

year_12 : padded 4 12 ≡ codes "0012"
unfolding digits
year_12 = refl

year_12014 : padded 4 12014 ≡ codes "12014"
unfolding digits
year_12014 = refl

fraction_350 : fraction_of 350 ≡ codes "053"
unfolding digits
fraction_350 = refl

fraction_0 : fraction_of 0 ≡ codes "0"
unfolding digits
fraction_0 = refl
