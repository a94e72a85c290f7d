-- No event is spelled by more bytes than its weight.
use Rattle.std.proofs.Common.{◌≡◌, ℕ, ℤ, ◌+◌, ◌*◌, ◌/◌, ◌%◌, ◌≤◌, ◌^◌, List, [], ◌∷◌, ◌++◌, length, Bool, true, false, Option, Some, None, nat_lt, if◌then◌else◌, refl, arith, length-append, encode_utf8, encode_utf8_all}
use Rattle.std.specs.Int.{w16, w64, to_le_bytes, cast_unsigned}
use Rattle.std.proofs.lemmas.Str.{length-encode, len_utf8_bounds}
use Rattle.exi_names.specs.Wholes.{Number}
use Rattle.exi_names.specs.Seen.{Value, Values, text, boolean, integer, decimal, float, moment, binary, items, name, no_more, and}
use Rattle.exi_names.specs.Events as event
use Rattle.exi_names.specs.declared.names.QName.{QName}
use Rattle.exi_names.specs.declared.moment.Moment.{Moment}
use Rattle.exi_tape.specs.Spelling.{number_spelled, wide_spelled, flag_spelled, signed_spelled, short_spelled, octets_spelled, text_spelled, prefix_spelled, name_spelled, fraction_spelled, zone_spelled, moment_spelled, integer_spelled, count_of, value_spelled, values_spelled, any_spelled, held_spelled, spelled}
use Rattle.exi_tape.specs.Tapes.{text_weight, prefix_weight, name_weight, value_weight, values_weight, weight}

by_test : (b : Bool) (n : ℕ) → length (if b then n ∷ [] else 255 ∷ to_le_bytes w64 n) ≤ 9
by_test true n = omega arith
by_test false n = omega arith

number_most : (n : ℕ) → length (number_spelled n) ≤ 9
unfolding number_spelled
number_most n = by_test (nat_lt n 255) n

flag_most : (b : Bool) → length (flag_spelled b) ≡ 1
flag_most true = refl
flag_most false = refl

wide_most : (n : ℕ) → length (wide_spelled n) ≤ 18
unfolding wide_spelled
wide_most n = omega (arith, length-append (number_spelled (n % 2 ^ 64)) (number_spelled (n / 2 ^ 64)), number_most (n % 2 ^ 64), number_most (n / 2 ^ 64))

signed_most : (z : ℤ) → length (signed_spelled z) ≤ 9
unfolding signed_spelled
signed_most z = number_most (cast_unsigned w64 z)

short_most : (z : ℤ) → length (short_spelled z) ≤ 9
unfolding short_spelled
short_most z = number_most (cast_unsigned w16 z)

octets_most : (o : List ℕ) → length (octets_spelled o) ≤ 9 + length o
unfolding octets_spelled
octets_most o = omega (arith, length-append (number_spelled (length o)) o, number_most (length o))

utf8_most : (t : List ℕ) → length (encode_utf8_all t) ≤ 4 * length t
utf8_most [] = omega arith
utf8_most (c ∷ cs) = omega (arith, utf8_most cs, length-append (encode_utf8 c) (encode_utf8_all cs), length-encode c, (len_utf8_bounds c).1)

text_most : (t : List ℕ) → length (text_spelled t) ≤ 1 + text_weight t
unfolding text_spelled
text_most t = omega (arith, octets_most (encode_utf8_all t), utf8_most t)

prefix_most : (p : Option (List ℕ)) → length (prefix_spelled p) ≤ 2 + prefix_weight p
unfolding prefix_spelled
prefix_most None = omega arith
prefix_most (Some t) = omega (arith, text_most t)

name_most : (n : QName) → length (name_spelled n) ≤ 4 + name_weight n
unfolding name_spelled
name_most n =
    let u : List ℕ = text_spelled n.uri in let l : List ℕ = text_spelled n.local in let p : List ℕ = prefix_spelled n.prefix in
    omega (arith, length-append u (l ++ p), length-append l p, text_most n.uri, text_most n.local, prefix_most n.prefix)

fraction_most : (f : Option ℕ) → length (fraction_spelled f) ≤ 19
unfolding fraction_spelled
fraction_most None = omega arith
fraction_most (Some n) = omega (arith, wide_most n)

zone_most : (z : Option ℤ) → length (zone_spelled z) ≤ 10
unfolding zone_spelled
zone_most None = omega arith
zone_most (Some z) = omega (arith, short_most z)

moment_most : (m : Moment) → length (moment_spelled m) ≤ 44
unfolding moment_spelled
moment_most m =
    let y : List ℕ = signed_spelled m.year in let f : List ℕ = fraction_spelled m.fraction in let z : List ℕ = zone_spelled m.zone in
    omega (arith, length-append y (m.month ∷ m.day ∷ m.hour ∷ m.minute ∷ m.second ∷ (f ++ z)), length-append f z, signed_most m.year, fraction_most m.fraction, zone_most m.zone)

integer_most : (n : Number) → length (integer_spelled n) ≤ 19
unfolding integer_spelled
integer_most n = omega (arith, length-append (flag_spelled n.minus) (wide_spelled n.size), flag_most n.minus, wide_most n.size)

mutual
  unfolding value_spelled values_spelled

  value_most : (v : Value) → length (value_spelled v) + 10 ≤ value_weight v
  value_most (text t) = omega (arith, text_most t)
  value_most (boolean a b) = omega (arith, length-append (flag_spelled a) (flag_spelled b), flag_most a, flag_most b)
  value_most (integer n) = omega (arith, integer_most n)
  value_most (decimal a m n) = omega (arith, length-append (flag_spelled a) (wide_spelled m ++ wide_spelled n), length-append (wide_spelled m) (wide_spelled n), flag_most a, wide_most m, wide_most n)
  value_most (float m e) = omega (arith, length-append (signed_spelled m) (short_spelled e), signed_most m, short_most e)
  value_most (moment m) = omega (arith, moment_most m)
  value_most (binary a o) = omega (arith, length-append (flag_spelled a) (octets_spelled o), flag_most a, octets_most o)
  value_most (items vs) = omega (arith, length-append (number_spelled (count_of vs)) (values_spelled vs), number_most (count_of vs), values_most vs)
  value_most (name n) = omega (arith, name_most n)

  values_most : (vs : Values) → length (values_spelled vs) ≤ values_weight vs
  values_most no_more = omega arith
  values_most (and v vs) = omega (arith, length-append (value_spelled v) (values_spelled vs), value_most v, values_most vs)

any_most : (v : Value) → length (any_spelled v) ≤ value_weight v
unfolding any_spelled
any_most v = omega (arith, length-append (number_spelled (length (value_spelled v))) (value_spelled v), number_most (length (value_spelled v)), value_most v)

held_most : (v : Value) → length (held_spelled v) ≤ value_weight v
unfolding held_spelled
held_most (text t) = omega (arith, text_most t)
held_most (boolean a b) = any_most (boolean a b)
held_most (integer n) = any_most (integer n)
held_most (decimal a m n) = any_most (decimal a m n)
held_most (float m e) = any_most (float m e)
held_most (moment m) = any_most (moment m)
held_most (binary a o) = any_most (binary a o)
held_most (items vs) = any_most (items vs)
held_most (name n) = any_most (name n)

pub spelled_most : (e : event.Happening) → length (spelled e) ≤ weight e
unfolding spelled
spelled_most event.sd = omega arith
spelled_most event.ed = omega arith
spelled_most (event.se n) = omega (arith, name_most n)
spelled_most event.ee = omega arith
spelled_most (event.at n v) = omega (arith, length-append (name_spelled n) (held_spelled v), name_most n, held_most v)
spelled_most (event.ch v) = omega (arith, held_most v)
spelled_most (event.ns u p e) = omega (arith, length-append (flag_spelled e) (text_spelled u ++ text_spelled p), length-append (text_spelled u) (text_spelled p), flag_most e, text_most u, text_most p)
spelled_most (event.sc n) = omega (arith, number_most n)
spelled_most (event.cm t) = omega (arith, text_most t)
spelled_most (event.pi a b) = omega (arith, length-append (text_spelled a) (text_spelled b), text_most a, text_most b)
spelled_most (event.dt a b c d) = omega (arith, length-append (text_spelled a) (text_spelled b ++ (text_spelled c ++ text_spelled d)), length-append (text_spelled b) (text_spelled c ++ text_spelled d), length-append (text_spelled c) (text_spelled d), text_most a, text_most b, text_most c, text_most d)
spelled_most (event.er t) = omega (arith, text_most t)
