-- What was spelled is read.
use Rattle.std.proofs.Common.{◌≡◌, ◌⊎◌, inl, inr, ⊎_elim, ℕ, zero, suc, ℤ, ◌+◌, ◌*◌, ◌/◌, ◌%◌, ◌<◌, ◌≤◌, ◌^◌, List, [], ◌∷◌, ◌++◌, length, Bool, true, false, Option, Some, None, nat_lt, if◌then◌else◌, ap, ◌∙◌, sym, refl, arith, append_assoc, length-append, FitsSigned, encode_utf8_all, chars}
use Rattle.std.proofs.lemmas.Nat.{from_le_bytes-to_le_bytes_8}
use Rattle.std.proofs.lemmas.Bool.{lt-ltb}
use Rattle.std.proofs.lemmas.Int.{to_z-of_z}
use Rattle.std.proofs.Math.Facts.{Fits-of_z}
use Rattle.std.specs.Int.{w16, w64, to_le_bytes, from_le_bytes, cast_unsigned, cast_signed}
use Rattle.exi_names.specs.Wholes.{Number, number}
use Rattle.exi_names.specs.Seen.{Value, Values, values_of, text, boolean, integer, decimal, float, moment, binary, items, name, no_more, and}
use Rattle.exi_names.specs.Events as event
use Rattle.exi_names.specs.declared.names.QName.{QName}
use Rattle.exi_names.specs.declared.moment.Moment.{Moment}
use Rattle.exi_names.specs.declared.moment.MomentKind.{MomentKind}
use Rattle.exi_names.specs.declared.moment.MomentKind.TheVariants as moment_kind
use Rattle.exi_tape.specs.Spelling.{number_spelled, wide_spelled, flag_spelled, signed_spelled, short_spelled, octets_spelled, text_spelled, prefix_spelled, name_spelled, kind_byte, fraction_spelled, zone_spelled, moment_spelled, integer_spelled, count_of, value_spelled, values_spelled, any_spelled, held_spelled, spelled}
use Rattle.exi_tape.specs.Sound.{SoundText, SoundPrefix, SoundName, SoundFraction, SoundZone, SoundMoment, SoundNumber, SoundValue, SoundValues, Sound}
use Rattle.exi_tape.specs.Reading.{◌>>=◌, byte_at, bytes_at, eight_at, number_at, wide_at, flag_at, signed_at, short_at, octets_at, text_of, text_at, some_text_at, prefix_at, name_at, kind_of, some_wide_at, fraction_at, some_short_at, zone_at, moment_at, times, text_value_at, boolean_at, integer_at, decimal_at, float_at, moment_value_at, binary_at, name_value_at, list_at, items_at, value_of_kind, value_in, values_at, value_at, any_at, held_at, element_at, attribute_at, characters_at, namespace_at, fragment_at, comment_at, instruction_at, doctype_at, entity_at, event_of_kind, event_at}
use Rattle.exi_tape.proofs.Pieces.{bytes_are}

-- where the first is read, the rest goes on from there
then_is : {A B : Type 0} (r : Option A) (x : A) (k : A → Option B) (y : Option B) → r ≡ Some x → k x ≡ y → (r >>= k) ≡ y
then_is r x k y e f = ap (λ q. q >>= k) e ∙ f

test_of : (b : Bool) → (b ≡ true) ⊎ (b ≡ false)
test_of true = inl refl
test_of false = inr refl

-- ---- numbers
few_spelled : (n : ℕ) → nat_lt n 255 ≡ true → number_spelled n ≡ n ∷ []
unfolding number_spelled
few_spelled n h = ap (λ b. if b then n ∷ [] else 255 ∷ to_le_bytes w64 n) h

many_spelled : (n : ℕ) → nat_lt n 255 ≡ false → number_spelled n ≡ 255 ∷ to_le_bytes w64 n
unfolding number_spelled
many_spelled n h = ap (λ b. if b then n ∷ [] else 255 ∷ to_le_bytes w64 n) h

few_back : (n : ℕ) (more : List ℕ) → nat_lt n 255 ≡ true → number_at (n ∷ more) ≡ Some (n, more)
unfolding number_at byte_at
few_back n more h = ap (λ b. if b then Some (n, more) else eight_at more) h

eight_back : (n : ℕ) (more : List ℕ) → n < 2 ^ 64 → eight_at (to_le_bytes w64 n ++ more) ≡ Some (n, more)
unfolding eight_at
eight_back n more h =
    let le : List ℕ = to_le_bytes w64 n in
    then_is (bytes_at 8 (le ++ more)) (le, more) (λ eight. Some (from_le_bytes w64 eight.0, eight.1)) (Some (n, more)) (bytes_are 8 le more (le ++ more) refl refl) (ap (λ k. Some (k, more)) (from_le_bytes-to_le_bytes_8 n h))

many_back : (n : ℕ) (more : List ℕ) → n < 2 ^ 64 → number_at (255 ∷ (to_le_bytes w64 n ++ more)) ≡ Some (n, more)
unfolding number_at byte_at
many_back n more h = eight_back n more h

pub number_back : (n : ℕ) (more : List ℕ) → n < 2 ^ 64 → number_at (number_spelled n ++ more) ≡ Some (n, more)
number_back n more h = ⊎_elim
    (λ e. ap (λ l. number_at (l ++ more)) (few_spelled n e) ∙ few_back n more e)
    (λ e. ap (λ l. number_at (l ++ more)) (many_spelled n e) ∙ many_back n more h)
    (test_of (nat_lt n 255))

flag_back : (b : Bool) (more : List ℕ) → flag_at (flag_spelled b ++ more) ≡ Some (b, more)
unfolding flag_at byte_at
flag_back true more = refl
flag_back false more = refl

wide_back : (n : ℕ) (more : List ℕ) → n < 2 ^ 128 → wide_at (wide_spelled n ++ more) ≡ Some (n, more)
unfolding wide_at wide_spelled
wide_back n more h =
    let low : List ℕ = number_spelled (n % 2 ^ 64) in let high : List ℕ = number_spelled (n / 2 ^ 64) in
    let whole : n % 2 ^ 64 + n / 2 ^ 64 * 2 ^ 64 ≡ n = omega arith in
    let one : n % 2 ^ 64 < 2 ^ 64 = omega arith in let two : n / 2 ^ 64 < 2 ^ 64 = omega arith in
    then_is (number_at ((low ++ high) ++ more)) (n % 2 ^ 64, high ++ more) _ (Some (n, more)) (ap (λ l. number_at l) (append_assoc low high more) ∙ number_back (n % 2 ^ 64) (high ++ more) one)
    (then_is (number_at (high ++ more)) (n / 2 ^ 64, more) _ (Some (n, more)) (number_back (n / 2 ^ 64) more two) (ap (λ k. Some (k, more)) whole))

signed_back : (z : ℤ) (more : List ℕ) → FitsSigned w64 z → signed_at (signed_spelled z ++ more) ≡ Some (z, more)
unfolding signed_at signed_spelled
signed_back z more f =
    let small : cast_unsigned w64 z < 2 ^ 64 = (let g = Fits-of_z f in omega arith) in
    then_is (number_at (number_spelled (cast_unsigned w64 z) ++ more)) (cast_unsigned w64 z, more) _ (Some (z, more)) (number_back (cast_unsigned w64 z) more small) (ap (λ k. Some (k, more)) (to_z-of_z w64 z f))

short_back : (z : ℤ) (more : List ℕ) → FitsSigned w16 z → short_at (short_spelled z ++ more) ≡ Some (z, more)
unfolding short_at short_spelled
short_back z more f =
    let n : ℕ = cast_unsigned w16 z in
    let small : n < 65536 = (let g = Fits-of_z f in omega arith) in
    then_is (number_at (number_spelled n ++ more)) (n, more) _ (Some (z, more)) (number_back n more (omega arith))
    (ap (λ b. if b then Some (cast_signed w16 n, more) else None) (lt-ltb n 65536 small) ∙ ap (λ k. Some (k, more)) (to_z-of_z w16 z f))

-- ---- texts and names
octets_back : (o more : List ℕ) → length o < 2 ^ 64 → octets_at (octets_spelled o ++ more) ≡ Some (o, more)
unfolding octets_at octets_spelled
octets_back o more h =
    let count : List ℕ = number_spelled (length o) in
    then_is (number_at ((count ++ o) ++ more)) (length o, o ++ more) _ (Some (o, more)) (ap (λ l. number_at l) (append_assoc count o more) ∙ number_back (length o) (o ++ more) h) (bytes_are (length o) o more (o ++ more) refl refl)

text_is : (t : List ℕ) → SoundText t → text_of (encode_utf8_all t) ≡ Some t
unfolding text_of
text_is t s = ap (λ b. if b then Some (chars (encode_utf8_all t)) else None) s.0 ∙ ap (λ l. Some l) s.1

text_back : (t more : List ℕ) → SoundText t → text_at (text_spelled t ++ more) ≡ Some (t, more)
unfolding text_at text_spelled
text_back t more s =
    let enc : List ℕ = encode_utf8_all t in
    then_is (octets_at (octets_spelled enc ++ more)) (enc, more) _ (Some (t, more)) (octets_back enc more s.2) (then_is (text_of enc) t _ (Some (t, more)) (text_is t s) refl)

some_text_back : (t more : List ℕ) → SoundText t → some_text_at (text_spelled t ++ more) ≡ Some (Some t, more)
unfolding some_text_at
some_text_back t more s = then_is (text_at (text_spelled t ++ more)) (t, more) _ (Some (Some t, more)) (text_back t more s) refl

prefix_back : (p : Option (List ℕ)) (more : List ℕ) → SoundPrefix p → prefix_at (prefix_spelled p ++ more) ≡ Some (p, more)
unfolding prefix_at flag_at byte_at prefix_spelled
prefix_back None more s = refl
prefix_back (Some t) more s = some_text_back t more s

name_back : (n : QName) (more : List ℕ) → SoundName n → name_at (name_spelled n ++ more) ≡ Some (n, more)
unfolding name_at name_spelled
name_back n more s =
    let u : List ℕ = text_spelled n.uri in let l : List ℕ = text_spelled n.local in let p : List ℕ = prefix_spelled n.prefix in
    then_is (text_at ((u ++ (l ++ p)) ++ more)) (n.uri, (l ++ p) ++ more) _ (Some (n, more)) (ap (λ x. text_at x) (append_assoc u (l ++ p) more) ∙ text_back n.uri ((l ++ p) ++ more) s.0)
    (then_is (text_at ((l ++ p) ++ more)) (n.local, p ++ more) _ (Some (n, more)) (ap (λ x. text_at x) (append_assoc l p more) ∙ text_back n.local (p ++ more) s.1)
    (then_is (prefix_at (p ++ more)) (n.prefix, more) _ (Some (n, more)) (prefix_back n.prefix more s.2) refl))

-- ---- dates and times
kind_is : (k : MomentKind) → kind_of (kind_byte k) ≡ Some k
unfolding kind_of
kind_is moment_kind.GYear = refl
kind_is moment_kind.GYearMonth = refl
kind_is moment_kind.Date = refl
kind_is moment_kind.DateTime = refl
kind_is moment_kind.GMonth = refl
kind_is moment_kind.GMonthDay = refl
kind_is moment_kind.GDay = refl
kind_is moment_kind.Time = refl

some_wide_back : (n : ℕ) (more : List ℕ) → n < 2 ^ 128 → some_wide_at (wide_spelled n ++ more) ≡ Some (Some n, more)
unfolding some_wide_at
some_wide_back n more h = then_is (wide_at (wide_spelled n ++ more)) (n, more) _ (Some (Some n, more)) (wide_back n more h) refl

fraction_back : (f : Option ℕ) (more : List ℕ) → SoundFraction f → fraction_at (fraction_spelled f ++ more) ≡ Some (f, more)
unfolding fraction_at flag_at byte_at fraction_spelled
fraction_back None more s = refl
fraction_back (Some n) more s = some_wide_back n more s

some_short_back : (z : ℤ) (more : List ℕ) → FitsSigned w16 z → some_short_at (short_spelled z ++ more) ≡ Some (Some z, more)
unfolding some_short_at
some_short_back z more h = then_is (short_at (short_spelled z ++ more)) (z, more) _ (Some (Some z, more)) (short_back z more h) refl

zone_back : (z : Option ℤ) (more : List ℕ) → SoundZone z → zone_at (zone_spelled z ++ more) ≡ Some (z, more)
unfolding zone_at flag_at byte_at zone_spelled
zone_back None more s = refl
zone_back (Some z) more s = some_short_back z more s

moment_back : (m : Moment) (more : List ℕ) → SoundMoment m → moment_at (moment_spelled m ++ more) ≡ Some (m, more)
unfolding moment_at byte_at moment_spelled
moment_back m more s =
    let y : List ℕ = signed_spelled m.year in let f : List ℕ = fraction_spelled m.fraction in let z : List ℕ = zone_spelled m.zone in
    let rest : List ℕ = m.month ∷ m.day ∷ m.hour ∷ m.minute ∷ m.second ∷ (f ++ z) in
    then_is (kind_of (kind_byte m.kind)) m.kind _ (Some (m, more)) (kind_is m.kind)
    (then_is (signed_at ((y ++ rest) ++ more)) (m.year, rest ++ more) _ (Some (m, more)) (ap (λ x. signed_at x) (append_assoc y rest more) ∙ signed_back m.year (rest ++ more) s.0)
    (then_is (fraction_at ((f ++ z) ++ more)) (m.fraction, z ++ more) _ (Some (m, more)) (ap (λ x. fraction_at x) (append_assoc f z more) ∙ fraction_back m.fraction (z ++ more) s.1)
    (then_is (zone_at (z ++ more)) (m.zone, more) _ (Some (m, more)) (zone_back m.zone more s.2) refl)))

-- ---- values
number_is : (n : Number) → SoundNumber n → number n.minus n.size ≡ n
number_is n s = number_by n n.size refl s
  where
    number_by : (n : Number) (k : ℕ) → k ≡ n.size → SoundNumber n → number n.minus n.size ≡ n
    number_by n zero e s = ap (λ k. number n.minus k) (sym e) ∙ (λ i. record { minus = sym (s.1 (sym e)) i; size = e i })
    number_by n (suc k) e s = ap (λ j. number n.minus j) (sym e) ∙ (λ i. record { minus = n.minus; size = e i })

integer_back : (n : Number) (more : List ℕ) → SoundNumber n → integer_at (integer_spelled n ++ more) ≡ Some (integer n, more)
unfolding integer_at integer_spelled
integer_back n more s =
    let m : List ℕ = flag_spelled n.minus in let w : List ℕ = wide_spelled n.size in
    then_is (flag_at ((m ++ w) ++ more)) (n.minus, w ++ more) _ (Some (integer n, more)) (ap (λ x. flag_at x) (append_assoc m w more) ∙ flag_back n.minus (w ++ more))
    (then_is (wide_at (w ++ more)) (n.size, more) _ (Some (integer n, more)) (wide_back n.size more s.0) (ap (λ k. Some (integer k, more)) (number_is n s)))

boolean_back : (a b : Bool) (more : List ℕ) → boolean_at ((flag_spelled a ++ flag_spelled b) ++ more) ≡ Some (boolean a b, more)
unfolding boolean_at
boolean_back a b more =
    let x : List ℕ = flag_spelled a in let y : List ℕ = flag_spelled b in
    then_is (flag_at ((x ++ y) ++ more)) (a, y ++ more) _ (Some (boolean a b, more)) (ap (λ l. flag_at l) (append_assoc x y more) ∙ flag_back a (y ++ more))
    (then_is (flag_at (y ++ more)) (b, more) _ (Some (boolean a b, more)) (flag_back b more) refl)

decimal_back : (a : Bool) (m n : ℕ) (more : List ℕ) → m < 2 ^ 128 → n < 2 ^ 128 → decimal_at ((flag_spelled a ++ (wide_spelled m ++ wide_spelled n)) ++ more) ≡ Some (decimal a m n, more)
unfolding decimal_at
decimal_back a m n more p q =
    let x : List ℕ = flag_spelled a in let y : List ℕ = wide_spelled m in let z : List ℕ = wide_spelled n in
    then_is (flag_at ((x ++ (y ++ z)) ++ more)) (a, (y ++ z) ++ more) _ (Some (decimal a m n, more)) (ap (λ l. flag_at l) (append_assoc x (y ++ z) more) ∙ flag_back a ((y ++ z) ++ more))
    (then_is (wide_at ((y ++ z) ++ more)) (m, z ++ more) _ (Some (decimal a m n, more)) (ap (λ l. wide_at l) (append_assoc y z more) ∙ wide_back m (z ++ more) p)
    (then_is (wide_at (z ++ more)) (n, more) _ (Some (decimal a m n, more)) (wide_back n more q) refl))

float_back : (m e : ℤ) (more : List ℕ) → FitsSigned w64 m → FitsSigned w16 e → float_at ((signed_spelled m ++ short_spelled e) ++ more) ≡ Some (float m e, more)
unfolding float_at
float_back m e more p q =
    let x : List ℕ = signed_spelled m in let y : List ℕ = short_spelled e in
    then_is (signed_at ((x ++ y) ++ more)) (m, y ++ more) _ (Some (float m e, more)) (ap (λ l. signed_at l) (append_assoc x y more) ∙ signed_back m (y ++ more) p)
    (then_is (short_at (y ++ more)) (e, more) _ (Some (float m e, more)) (short_back e more q) refl)

binary_back : (a : Bool) (o more : List ℕ) → length o < 2 ^ 64 → binary_at ((flag_spelled a ++ octets_spelled o) ++ more) ≡ Some (binary a o, more)
unfolding binary_at
binary_back a o more p =
    let x : List ℕ = flag_spelled a in let y : List ℕ = octets_spelled o in
    then_is (flag_at ((x ++ y) ++ more)) (a, y ++ more) _ (Some (binary a o, more)) (ap (λ l. flag_at l) (append_assoc x y more) ∙ flag_back a (y ++ more))
    (then_is (octets_at (y ++ more)) (o, more) _ (Some (binary a o, more)) (octets_back o more p) refl)

text_value_back : (t more : List ℕ) → SoundText t → text_value_at (text_spelled t ++ more) ≡ Some (text t, more)
unfolding text_value_at
text_value_back t more s = then_is (text_at (text_spelled t ++ more)) (t, more) _ (Some (text t, more)) (text_back t more s) refl

moment_value_back : (m : Moment) (more : List ℕ) → SoundMoment m → moment_value_at (moment_spelled m ++ more) ≡ Some (moment m, more)
unfolding moment_value_at
moment_value_back m more s = then_is (moment_at (moment_spelled m ++ more)) (m, more) _ (Some (moment m, more)) (moment_back m more s) refl

name_value_back : (n : QName) (more : List ℕ) → SoundName n → name_value_at (name_spelled n ++ more) ≡ Some (name n, more)
unfolding name_value_at
name_value_back n more s = then_is (name_at (name_spelled n ++ more)) (n, more) _ (Some (name n, more)) (name_back n more s) refl

abbrev list_of : Values → List Value
list_of no_more = []
list_of (and v vs) = v ∷ list_of vs

values_again : (vs : Values) → values_of (list_of vs) ≡ vs
values_again no_more = refl
values_again (and v vs) = ap (λ w. and v w) (values_again vs)

-- a list, once its values are read
list_back : (item : List ℕ → Option (Value × List ℕ)) (vs : Values) (more : List ℕ) → count_of vs < 2 ^ 64 → times item (count_of vs) (values_spelled vs ++ more) ≡ Some (list_of vs, more)
    → list_at item ((number_spelled (count_of vs) ++ values_spelled vs) ++ more) ≡ Some (vs, more)
unfolding list_at
list_back item vs more few all =
    let n : List ℕ = number_spelled (count_of vs) in let l : List ℕ = values_spelled vs in
    then_is (number_at ((n ++ l) ++ more)) (count_of vs, l ++ more) _ (Some (vs, more)) (ap (λ x. number_at x) (append_assoc n l more) ∙ number_back (count_of vs) (l ++ more) few)
    (then_is (times item (count_of vs) (l ++ more)) (list_of vs, more) _ (Some (vs, more)) all (ap (λ w. Some (w, more)) (values_again vs)))

items_back : (list : List ℕ → Option (Values × List ℕ)) (vs : Values) (bs more : List ℕ) → list bs ≡ Some (vs, more) → items_at list bs ≡ Some (items vs, more)
unfolding items_at
items_back list vs bs more e = then_is (list bs) (vs, more) _ (Some (items vs, more)) e refl

times_back : (item : List ℕ → Option (Value × List ℕ)) (n : ℕ) (v : Value) (ws : List Value) (bs mid more : List ℕ) → item bs ≡ Some (v, mid) → times item n mid ≡ Some (ws, more) → times item (suc n) bs ≡ Some (v ∷ ws, more)
unfolding times
times_back item n v ws bs mid more e f = then_is (item bs) (v, mid) _ (Some (v ∷ ws, more)) e (then_is (times item n mid) (ws, more) _ (Some (v ∷ ws, more)) f refl)

no_times : (item : List ℕ → Option (Value × List ℕ)) (bs : List ℕ) → times item 0 bs ≡ Some ([], bs)
unfolding times
no_times item bs = refl

-- a value in a list at some depth, and one at the outside
deep : (d : ℕ) (bs : List ℕ) → values_at (suc d) bs ≡ list_at (value_in (values_at d)) bs
unfolding values_at
deep d bs = refl

mutual
  unfolding value_in value_of_kind byte_at value_spelled values_spelled

  pub value_back : (v : Value) (d : ℕ) (more : List ℕ) → SoundValue v → length (value_spelled v) ≤ d → value_in (values_at d) (value_spelled v ++ more) ≡ Some (v, more)
  value_back (text t) d more s h = text_value_back t more s
  value_back (boolean a b) d more s h = boolean_back a b more
  value_back (integer n) d more s h = integer_back n more s
  value_back (decimal a m n) d more s h = decimal_back a m n more s.0 s.1
  value_back (float m e) d more s h = float_back m e more s.0 s.1
  value_back (moment m) d more s h = moment_value_back m more s
  value_back (binary a o) d more s h = binary_back a o more s
  value_back (name n) d more s h = name_value_back n more s
  value_back (items vs) zero more s h = absurd (omega arith)
  value_back (items vs) (suc d) more s h =
      let n : List ℕ = number_spelled (count_of vs) in
      let near : length (values_spelled vs) ≤ d = omega (arith, length-append n (values_spelled vs)) in
      let bs : List ℕ = (n ++ values_spelled vs) ++ more in
      items_back (values_at (suc d)) vs bs more (deep d bs ∙ list_back (value_in (values_at d)) vs more s.0 (values_back vs d more s.1 near))

  pub values_back : (vs : Values) (d : ℕ) (more : List ℕ) → SoundValues vs → length (values_spelled vs) ≤ d → times (value_in (values_at d)) (count_of vs) (values_spelled vs ++ more) ≡ Some (list_of vs, more)
  values_back no_more d more s h = no_times (value_in (values_at d)) more
  values_back (and v vs) d more s h =
      let a : List ℕ = value_spelled v in let b : List ℕ = values_spelled vs in let long = length-append a b in
      let first : value_in (values_at d) ((a ++ b) ++ more) ≡ Some (v, b ++ more) = ap (λ x. value_in (values_at d) x) (append_assoc a b more) ∙ value_back v d (b ++ more) s.0 (omega arith) in
      let one : count_of (and v vs) ≡ suc (count_of vs) = omega arith in
      ap (λ k. times (value_in (values_at d)) k ((a ++ b) ++ more)) one ∙ times_back (value_in (values_at d)) (count_of vs) v (list_of vs) ((a ++ b) ++ more) (b ++ more) more first (values_back vs d more s.1 (omega arith))

-- ---- events
any_back : (v : Value) (more : List ℕ) → SoundValue v → length (any_spelled v) < 2 ^ 64 → held_at (any_spelled v ++ more) ≡ Some (v, more)
unfolding held_at flag_at byte_at any_at any_spelled value_at
any_back v more s h =
    let size : List ℕ = number_spelled (length (value_spelled v)) in let l : List ℕ = value_spelled v in
    let few : length l < 2 ^ 64 = omega (arith, length-append size l) in
    then_is (number_at ((size ++ l) ++ more)) (length l, l ++ more) _ (Some (v, more)) (ap (λ x. number_at x) (append_assoc size l more) ∙ number_back (length l) (l ++ more) few)
    (value_back v (length l) more s (omega arith))

text_held_back : (t more : List ℕ) → SoundText t → held_at (0 ∷ (text_spelled t ++ more)) ≡ Some (text t, more)
unfolding held_at flag_at byte_at
text_held_back t more s = text_value_back t more s

held_back : (v : Value) (more : List ℕ) → SoundValue v → length (held_spelled v) < 2 ^ 64 → held_at (held_spelled v ++ more) ≡ Some (v, more)
unfolding held_spelled
held_back (text t) more s h = text_held_back t more s
held_back (boolean a b) more s h = any_back (boolean a b) more s h
held_back (integer n) more s h = any_back (integer n) more s h
held_back (decimal a m n) more s h = any_back (decimal a m n) more s h
held_back (float m e) more s h = any_back (float m e) more s h
held_back (moment m) more s h = any_back (moment m) more s h
held_back (binary a o) more s h = any_back (binary a o) more s h
held_back (items vs) more s h = any_back (items vs) more s h
held_back (name n) more s h = any_back (name n) more s h

element_back : (n : QName) (more : List ℕ) → SoundName n → element_at (name_spelled n ++ more) ≡ Some (event.se n, more)
unfolding element_at
element_back n more s = then_is (name_at (name_spelled n ++ more)) (n, more) _ (Some (event.se n, more)) (name_back n more s) refl

attribute_back : (n : QName) (v : Value) (more : List ℕ) → SoundName n → SoundValue v → length (held_spelled v) < 2 ^ 64 → attribute_at ((name_spelled n ++ held_spelled v) ++ more) ≡ Some (event.at n v, more)
unfolding attribute_at
attribute_back n v more s t h =
    let x : List ℕ = name_spelled n in let y : List ℕ = held_spelled v in
    then_is (name_at ((x ++ y) ++ more)) (n, y ++ more) _ (Some (event.at n v, more)) (ap (λ l. name_at l) (append_assoc x y more) ∙ name_back n (y ++ more) s)
    (then_is (held_at (y ++ more)) (v, more) _ (Some (event.at n v, more)) (held_back v more t h) refl)

characters_back : (v : Value) (more : List ℕ) → SoundValue v → length (held_spelled v) < 2 ^ 64 → characters_at (held_spelled v ++ more) ≡ Some (event.ch v, more)
unfolding characters_at
characters_back v more t h = then_is (held_at (held_spelled v ++ more)) (v, more) _ (Some (event.ch v, more)) (held_back v more t h) refl

namespace_back : (u p : List ℕ) (e : Bool) (more : List ℕ) → SoundText u → SoundText p → namespace_at ((flag_spelled e ++ (text_spelled u ++ text_spelled p)) ++ more) ≡ Some (event.ns u p e, more)
unfolding namespace_at
namespace_back u p e more s t =
    let x : List ℕ = flag_spelled e in let y : List ℕ = text_spelled u in let z : List ℕ = text_spelled p in
    then_is (flag_at ((x ++ (y ++ z)) ++ more)) (e, (y ++ z) ++ more) _ (Some (event.ns u p e, more)) (ap (λ l. flag_at l) (append_assoc x (y ++ z) more) ∙ flag_back e ((y ++ z) ++ more))
    (then_is (text_at ((y ++ z) ++ more)) (u, z ++ more) _ (Some (event.ns u p e, more)) (ap (λ l. text_at l) (append_assoc y z more) ∙ text_back u (z ++ more) s)
    (then_is (text_at (z ++ more)) (p, more) _ (Some (event.ns u p e, more)) (text_back p more t) refl))

fragment_back : (n : ℕ) (more : List ℕ) → n < 2 ^ 64 → fragment_at (number_spelled n ++ more) ≡ Some (event.sc n, more)
unfolding fragment_at
fragment_back n more h = then_is (number_at (number_spelled n ++ more)) (n, more) _ (Some (event.sc n, more)) (number_back n more h) refl

comment_back : (t more : List ℕ) → SoundText t → comment_at (text_spelled t ++ more) ≡ Some (event.cm t, more)
unfolding comment_at
comment_back t more s = then_is (text_at (text_spelled t ++ more)) (t, more) _ (Some (event.cm t, more)) (text_back t more s) refl

entity_back : (t more : List ℕ) → SoundText t → entity_at (text_spelled t ++ more) ≡ Some (event.er t, more)
unfolding entity_at
entity_back t more s = then_is (text_at (text_spelled t ++ more)) (t, more) _ (Some (event.er t, more)) (text_back t more s) refl

instruction_back : (a b more : List ℕ) → SoundText a → SoundText b → instruction_at ((text_spelled a ++ text_spelled b) ++ more) ≡ Some (event.pi a b, more)
unfolding instruction_at
instruction_back a b more s t =
    let x : List ℕ = text_spelled a in let y : List ℕ = text_spelled b in
    then_is (text_at ((x ++ y) ++ more)) (a, y ++ more) _ (Some (event.pi a b, more)) (ap (λ l. text_at l) (append_assoc x y more) ∙ text_back a (y ++ more) s)
    (then_is (text_at (y ++ more)) (b, more) _ (Some (event.pi a b, more)) (text_back b more t) refl)

doctype_back : (a b c d more : List ℕ) → SoundText a → SoundText b → SoundText c → SoundText d → doctype_at ((text_spelled a ++ (text_spelled b ++ (text_spelled c ++ text_spelled d))) ++ more) ≡ Some (event.dt a b c d, more)
unfolding doctype_at
doctype_back a b c d more s t u v =
    let w : List ℕ = text_spelled a in let x : List ℕ = text_spelled b in let y : List ℕ = text_spelled c in let z : List ℕ = text_spelled d in
    then_is (text_at ((w ++ (x ++ (y ++ z))) ++ more)) (a, (x ++ (y ++ z)) ++ more) _ (Some (event.dt a b c d, more)) (ap (λ l. text_at l) (append_assoc w (x ++ (y ++ z)) more) ∙ text_back a ((x ++ (y ++ z)) ++ more) s)
    (then_is (text_at ((x ++ (y ++ z)) ++ more)) (b, (y ++ z) ++ more) _ (Some (event.dt a b c d, more)) (ap (λ l. text_at l) (append_assoc x (y ++ z) more) ∙ text_back b ((y ++ z) ++ more) t)
    (then_is (text_at ((y ++ z) ++ more)) (c, z ++ more) _ (Some (event.dt a b c d, more)) (ap (λ l. text_at l) (append_assoc y z more) ∙ text_back c (z ++ more) u)
    (then_is (text_at (z ++ more)) (d, more) _ (Some (event.dt a b c d, more)) (text_back d more v) refl)))

pub event_back : (e : event.Happening) (more : List ℕ) → Sound e → length (spelled e) < 2 ^ 64 → event_at (spelled e ++ more) ≡ Some (e, more)
unfolding event_at event_of_kind byte_at spelled
event_back event.sd more s h = refl
event_back event.ed more s h = refl
event_back (event.se n) more s h = element_back n more s
event_back event.ee more s h = refl
event_back (event.at n v) more s h = attribute_back n v more s.0 s.1 (omega (arith, length-append (name_spelled n) (held_spelled v)))
event_back (event.ch v) more s h = characters_back v more s (omega arith)
event_back (event.ns u p e) more s h = namespace_back u p e more s.0 s.1
event_back (event.sc n) more s h = fragment_back n more s
event_back (event.cm t) more s h = comment_back t more s
event_back (event.pi a b) more s h = instruction_back a b more s.0 s.1
event_back (event.dt a b c d) more s h = doctype_back a b c d more s.0 s.1 s.2 s.3
event_back (event.er t) more s h = entity_back t more s
