-- Values that are the same as data are equal, and only these.
use Rattle.std.proofs.Common.{◌≡◌, ◌≢◌, ℕ, ℤ, if◌then◌else◌, suc, Bool, true, false, ◌&&◌, ◌==◌, List, [], ◌∷◌, length, Option, Some, None, ◌↔◌, refl, sym, subst, ap, ◌∙◌, inl, inr}
use Rattle.std.proofs.lemmas.Bool.{and_parts, cases_Bool, eqb-true, eq-eqb, false≢true}
use Rattle.std.proofs.lemmas.List.{length-map}
use Rattle.std.proofs.lemmas.Slice.Eq.{bytes_eq-Decides}
use Rattle.std.specs.Cmp.{signed_Decides}
use Rattle.std.specs.Ordering.{int_eq}
use Rattle.std.specs.Option.{option_eq}
use Rattle.std.specs.Str.{bytes_eq}
use Rattle.exi_names.specs.Wholes.{Number}
use Rattle.exi_names.specs.declared.moment.Moment.{Moment}
use Rattle.exi_names.specs.declared.moment.MomentKind.{MomentKind}
use Rattle.exi_names.specs.declared.moment.MomentKind.TheVariants as form
use Rattle.exi_names.specs.declared.names.QName.{QName}
use Rattle.exi_names.specs.Seen.{Value, Values, text, boolean, integer, decimal, float, moment, binary, items, name, no_more, and, values_of, vals, seen}
use Rattle.exi_names.specs.declared.val.ValList.{ValList}
use Rattle.std.specs.Vec.{vec_len}
use Rattle.exi_names.specs.Equality.{same_truth, place_of_kind, same_numbers, same_dates, same_times, same_moments, same_names, same_representations, equal, all_equal}
use Rattle.exi_names.specs.Datatypes.{Representation}
use Rattle.exi_names.specs.Datatypes as kind

-- ---- lists
pub other_lengths : (vs ws : List Value) → length vs ≢ length ws → all_equal (values_of vs) (values_of ws) ≡ false
other_lengths [] [] h = absurd (h refl)
other_lengths [] (w ∷ ws) h = refl
other_lengths (v ∷ vs) [] h = refl
other_lengths (v ∷ vs) (w ∷ ws) h = elim (cases_Bool (equal v w)) [
  | inl e ↦ rw e (other_lengths vs ws (λ k. h (ap suc k)))
  | inr e ↦ rw e refl
]

pub length_vals : (list : ValList) → length (vals list) ≡ vec_len list.items
length_vals list = length-map list.items.items seen ∙ sym list.items.ok.0

-- ---- parts
truth_is : (a b : Bool) → same_truth a b ≡ true → a ≡ b
truth_is true true h = refl
truth_is true false h = cc h
truth_is false true h = cc h
truth_is false false h = refl

truth_same : (a : Bool) → same_truth a a ≡ true
truth_same true = refl
truth_same false = refl

option_is : {T : Type 0} (E : T → T → Bool) → ((a b : T) → E a b ≡ true → a ≡ b) → (o p : Option T) → option_eq E o p ≡ true → o ≡ p
option_is E is None None h = refl
option_is E is None (Some b) h = cc h
option_is E is (Some a) None h = cc h
option_is E is (Some a) (Some b) h = ap Some (is a b h)

option_same : {T : Type 0} (E : T → T → Bool) → ((a : T) → E a a ≡ true) → (o : Option T) → option_eq E o o ≡ true
option_same E same None = refl
option_same E same (Some a) = same a

bytes_is : (a b : List ℕ) → bytes_eq a b ≡ true → a ≡ b
bytes_is a b h = (bytes_eq-Decides a b).0 h

bytes_same : (a : List ℕ) → bytes_eq a a ≡ true
bytes_same a = (bytes_eq-Decides a a).1 refl

int_is : (a b : ℤ) → int_eq a b ≡ true → a ≡ b
int_is a b h = (signed_Decides a b).0 h

int_same : (a : ℤ) → int_eq a a ≡ true
int_same a = (signed_Decides a a).1 refl

nat_same : (a : ℕ) → (a == a) ≡ true
nat_same a = eq-eqb a a refl

-- ---- dates and times
kind_at : ℕ → MomentKind
kind_at n =
    if n == 0 then form.GYear
    else if n == 1 then form.GYearMonth
    else if n == 2 then form.Date
    else if n == 3 then form.DateTime
    else if n == 4 then form.GMonth
    else if n == 5 then form.GMonthDay
    else if n == 6 then form.GDay
    else form.Time

kind_back : (k : MomentKind) → kind_at (place_of_kind k) ≡ k
unfolding kind_at
kind_back form.GYear = refl
kind_back form.GYearMonth = refl
kind_back form.Date = refl
kind_back form.DateTime = refl
kind_back form.GMonth = refl
kind_back form.GMonthDay = refl
kind_back form.GDay = refl
kind_back form.Time = refl

pub kind_is : (a b : MomentKind) → (place_of_kind a == place_of_kind b) ≡ true → a ≡ b
kind_is a b h = sym (kind_back a) ∙ ap kind_at (eqb-true (place_of_kind a) (place_of_kind b) h) ∙ kind_back b

moment_parts : (a b : Moment) → a.kind ≡ b.kind → a.year ≡ b.year → a.month ≡ b.month → a.day ≡ b.day → a.hour ≡ b.hour → a.minute ≡ b.minute → a.second ≡ b.second → a.fraction ≡ b.fraction → a.zone ≡ b.zone → a ≡ b
moment_parts a b kind year month day hour minute second fraction zone =
    λ i. record { kind = kind i; year = year i; month = month i; day = day i; hour = hour i; minute = minute i; second = second i; fraction = fraction i; zone = zone i }

dates_are : (a b : Moment) → same_dates a b ≡ true → (a.kind ≡ b.kind) × (a.year ≡ b.year) × (a.month ≡ b.month) × (a.day ≡ b.day)
dates_are a b h =
    let p = and_parts (place_of_kind a.kind == place_of_kind b.kind && int_eq a.year b.year && a.month == b.month) (a.day == b.day) h in
    let q = and_parts (place_of_kind a.kind == place_of_kind b.kind && int_eq a.year b.year) (a.month == b.month) p.0 in
    let r = and_parts (place_of_kind a.kind == place_of_kind b.kind) (int_eq a.year b.year) q.0 in
    (kind_is a.kind b.kind r.0, int_is a.year b.year r.1, eqb-true a.month b.month q.1, eqb-true a.day b.day p.1)

times_are : (a b : Moment) → same_times a b ≡ true → (a.hour ≡ b.hour) × (a.minute ≡ b.minute) × (a.second ≡ b.second) × (a.fraction ≡ b.fraction) × (a.zone ≡ b.zone)
times_are a b h =
    let p = and_parts (a.hour == b.hour && a.minute == b.minute && a.second == b.second && option_eq (λ m n. m == n) a.fraction b.fraction) (option_eq int_eq a.zone b.zone) h in
    let q = and_parts (a.hour == b.hour && a.minute == b.minute && a.second == b.second) (option_eq (λ m n. m == n) a.fraction b.fraction) p.0 in
    let r = and_parts (a.hour == b.hour && a.minute == b.minute) (a.second == b.second) q.0 in
    let s = and_parts (a.hour == b.hour) (a.minute == b.minute) r.0 in (
      eqb-true a.hour b.hour s.0,
      eqb-true a.minute b.minute s.1,
      eqb-true a.second b.second r.1,
      option_is (λ m n. m == n) eqb-true a.fraction b.fraction q.1,
      option_is int_eq int_is a.zone b.zone p.1,
    )

moment_is : (a b : Moment) → same_moments a b ≡ true → a ≡ b
moment_is a b h =
    let p = and_parts (same_dates a b) (same_times a b) h in
    let d = dates_are a b p.0 in
    let t = times_are a b p.1 in
    moment_parts a b d.0 d.1 d.2 d.3 t.0 t.1 t.2 t.3 t.4

moment_same : (a : Moment) → same_moments a a ≡ true
moment_same a = rw (nat_same (place_of_kind a.kind), int_same a.year, nat_same a.month, nat_same a.day, nat_same a.hour, nat_same a.minute, nat_same a.second, option_same (λ m n. m == n) nat_same a.fraction, option_same int_eq int_same a.zone) refl

-- ---- names and numbers
name_is : (a b : QName) → same_names a b ≡ true → a ≡ b
name_is a b h =
    let p = and_parts (bytes_eq a.uri b.uri && bytes_eq a.local b.local) (option_eq bytes_eq a.prefix b.prefix) h in
    let q = and_parts (bytes_eq a.uri b.uri) (bytes_eq a.local b.local) p.0 in
    let uri = bytes_is a.uri b.uri q.0 in
    let local = bytes_is a.local b.local q.1 in
    let prefix = option_is bytes_eq bytes_is a.prefix b.prefix p.1 in
    λ i. record { uri = uri i; local = local i; prefix = prefix i }

name_same : (a : QName) → same_names a a ≡ true
name_same a = rw (bytes_same a.uri, bytes_same a.local, option_same bytes_eq bytes_same a.prefix) refl

number_is : (a b : Number) → same_numbers a b ≡ true → a ≡ b
number_is a b h =
    let p = and_parts (same_truth a.minus b.minus) (a.size == b.size) h in
    let minus = truth_is a.minus b.minus p.0 in
    let size = eqb-true a.size b.size p.1 in
    λ i. record { minus = minus i; size = size i }

number_same : (a : Number) → same_numbers a a ≡ true
number_same a = rw (truth_same a.minus, nat_same a.size) refl

-- ---- values
mutual
  pub equal_is : (v w : Value) → equal v w ≡ true → v ≡ w
  equal_is (text a) (text b) h = ap text (bytes_is a b h)
  equal_is (boolean a digit) (boolean b other) h =
      let p = and_parts (same_truth a b) (same_truth digit other) h in
      let x = truth_is a b p.0 in
      let y = truth_is digit other p.1 in
      λ i. boolean (x i) (y i)
  equal_is (integer a) (integer b) h = ap integer (number_is a b h)
  equal_is (decimal minus whole back) (decimal sign part digits) h =
      let p = and_parts (same_truth minus sign && whole == part) (back == digits) h in
      let q = and_parts (same_truth minus sign) (whole == part) p.0 in
      let x = truth_is minus sign q.0 in
      let y = eqb-true whole part q.1 in
      let z = eqb-true back digits p.1 in
      λ i. decimal (x i) (y i) (z i)
  equal_is (float mantissa exponent) (float digits power) h =
      let p = and_parts (int_eq mantissa digits) (int_eq exponent power) h in
      let x = int_is mantissa digits p.0 in
      let y = int_is exponent power p.1 in
      λ i. float (x i) (y i)
  equal_is (moment a) (moment b) h = ap moment (moment_is a b h)
  equal_is (binary hex a) (binary other b) h =
      let p = and_parts (same_truth hex other) (bytes_eq a b) h in
      let x = truth_is hex other p.0 in
      let y = bytes_is a b p.1 in
      λ i. binary (x i) (y i)
  equal_is (items a) (items b) h = ap items (all_equal_are a b h)
  equal_is (name a) (name b) h = ap name (name_is a b h)
  equal_is v w h = absurd (false≢true h)

  pub all_equal_are : (vs ws : Values) → all_equal vs ws ≡ true → vs ≡ ws
  all_equal_are no_more no_more h = refl
  all_equal_are (and v vs) (and w ws) h =
      let p = and_parts (equal v w) (all_equal vs ws) h in
      let x = equal_is v w p.0 in
      let y = all_equal_are vs ws p.1 in
      λ i. and (x i) (y i)
  all_equal_are vs ws h = absurd (false≢true h)

mutual
  pub equal_same : (v : Value) → equal v v ≡ true
  equal_same (text a) = bytes_same a
  equal_same (boolean a digit) = rw (truth_same a, truth_same digit) refl
  equal_same (integer a) = number_same a
  equal_same (decimal minus whole back) = rw (truth_same minus, nat_same whole, nat_same back) refl
  equal_same (float mantissa exponent) = rw (int_same mantissa, int_same exponent) refl
  equal_same (moment a) = moment_same a
  equal_same (binary hex a) = rw (truth_same hex, bytes_same a) refl
  equal_same (items a) = all_equal_same a
  equal_same (name a) = name_same a

  pub all_equal_same : (vs : Values) → all_equal vs vs ≡ true
  all_equal_same no_more = refl
  all_equal_same (and v vs) = rw (equal_same v, all_equal_same vs) refl

pub equal_iff : (v w : Value) → (equal v w ≡ true) ↔ (v ≡ w)
equal_iff v w = (equal_is v w, λ e. subst (λ (u : Value). equal v u ≡ true) e (equal_same v))

-- ---- datatypes
-- lists of values, where they are seen as one value
abbrev listed_values : Values → List Value
listed_values no_more = []
listed_values (and v vs) = v ∷ listed_values vs

listed_back : (vs : List Value) → listed_values (values_of vs) ≡ vs
listed_back [] = refl
listed_back (v ∷ vs) = ap (λ (ws : List Value). v ∷ ws) (listed_back vs)

lists_are : (vs ws : List Value) → all_equal (values_of vs) (values_of ws) ≡ true → vs ≡ ws
lists_are vs ws h = sym (listed_back vs) ∙ ap listed_values (all_equal_are (values_of vs) (values_of ws) h) ∙ listed_back ws

representations_are : (r s : Representation) → same_representations r s ≡ true → r ≡ s
representations_are (kind.small least count) (kind.small first number) h =
    let p = and_parts (int_eq least first) (count == number) h in
    let x = int_is least first p.0 in
    let y = eqb-true count number p.1 in
    λ i. kind.small (x i) (y i)
representations_are kind.unsigned kind.unsigned h = refl
representations_are kind.integer kind.integer h = refl
representations_are (kind.boolean a) (kind.boolean b) h = ap kind.boolean (truth_is a b h)
representations_are (kind.binary a) (kind.binary b) h = ap kind.binary (truth_is a b h)
representations_are kind.decimal kind.decimal h = refl
representations_are kind.float kind.float h = refl
representations_are (kind.moment a) (kind.moment b) h = ap kind.moment (kind_is a b h)
representations_are (kind.list a) (kind.list b) h = ap kind.list (representations_are a b h)
representations_are (kind.choice base values) (kind.choice other others) h =
    let p = and_parts (same_representations base other) (all_equal (values_of values) (values_of others)) h in
    let x = representations_are base other p.0 in
    let y = lists_are values others p.1 in
    λ i. kind.choice (x i) (y i)
representations_are kind.text kind.text h = refl
representations_are (kind.chars a) (kind.chars b) h = ap kind.chars (bytes_is a b h)
representations_are (kind.name a) (kind.name b) h = ap kind.name (truth_is a b h)
representations_are r s h = absurd (false≢true h)

representations_same : (r : Representation) → same_representations r r ≡ true
representations_same (kind.small least count) = rw (int_same least, nat_same count) refl
representations_same kind.unsigned = refl
representations_same kind.integer = refl
representations_same (kind.boolean a) = truth_same a
representations_same (kind.binary a) = truth_same a
representations_same kind.decimal = refl
representations_same kind.float = refl
representations_same (kind.moment a) = nat_same (place_of_kind a)
representations_same (kind.list a) = representations_same a
representations_same (kind.choice base values) = rw (representations_same base, all_equal_same (values_of values)) refl
representations_same kind.text = refl
representations_same (kind.chars a) = bytes_same a
representations_same (kind.name a) = truth_same a

pub representations_iff : (r s : Representation) → (same_representations r s ≡ true) ↔ (r ≡ s)
representations_iff r s = (representations_are r s, λ e. subst (λ (t : Representation). same_representations r t ≡ true) e (representations_same r))
