-- The laws of whole moments, from those of their items.
use Rattle.std.proofs.Common.{◌≡◌, ℕ, zero, suc, ◌+◌, ◌*◌, ◌-◌, ◌^◌, ◌<◌, ◌≤◌, ◌==◌, Bool, true, false, cond, ltb, eqb, ◌&&◌, List, [], ◌∷◌, ◌++◌, length, take, drop, replicate, Option, Some, None, Result, Ok, refl, sym, ap, ap₂, ◌∙◌, subst, append_assoc, append-nil, arith, inl, inr}
use Rattle.std.proofs.lemmas.List.{length-append, length-replicate, nil_from_length, length-take, length-drop, take-append-drop}
use Rattle.std.proofs.lemmas.Bool.{and_parts, cases_Bool, cases_lt, eqb-true, lt-ltb}
use Rattle.std.specs.Prelude.{ℤ, pos, negsuc, ◌-ℤ◌, unsigned_abs, IfSome, IsTrue}
use Rattle.exi_bits.specs.declared.align.Align.{Align}
use Rattle.exi_bits.specs.declared.fault.Fault.{Fault}
use Rattle.exi_bits.specs.declared.fault.Kind.TheVariants as fault
use Rattle.exi_bits.specs.Bits.{Spot, IsAligned, IsBytes, bits, moved, number, number_bits, rest, value_of}
use Rattle.exi_bits.specs.Unsigned.{◌>>=◌, fault_at, field_at, below_at, shortest, unsigned_at}
use Rattle.exi_bits.proofs.BitLaws.{number_bits-value_of, value_of_below}
use Rattle.exi_bits.proofs.InBytes.{rest_behind}
use Rattle.exi_bits.proofs.UnsignedLaws.{shortest_spelled}
use Rattle.exi_names.specs.declared.moment.Moment.{Moment}
use Rattle.exi_names.specs.declared.moment.MomentKind.{MomentKind}
use Rattle.exi_names.specs.declared.moment.MomentKind.TheVariants as form
use Rattle.exi_names.specs.Moments.{IsMoment, fields, has_month_day, is_month_day, is_time, is_year}
use Rattle.exi_items.specs.Spellings.{SpellsUnsigned, Then}
use Rattle.exi_moment.specs.Spelling.{Spells, SpellsFraction, SpellsInteger, SpellsNumber, SpellsZone, Where, fraction_text, integer_text, month_day_number, spelling, text_where, time_number, year_offset, zone_number, zone_text}
use Rattle.exi_moment.specs.Reading.{fraction_at, in_range, moment_at, month_day_at, month_day_of, offset_at, signed, time_at, time_of, where_it_counts, year_at, year_of, zone_at, zone_of}
use Rattle.exi_moment.specs.Laws.{ReadMoment}
use Rattle.exi_moment.proofs.BothWays.{few_after, few_before, month_day_again, month_day_told, time_again, time_told, year_again, year_told, zone_again, zone_told}
use Rattle.exi_moment.proofs.Items.{Again, Reread, Tells, Told, bind_ok, field_again, field_told, given, guard_ok, in_range_ok, joined, ok_is, optional_again, optional_told, some, split, told_again, told_both, told_told, unsigned_again, unsigned_told, where_again, where_told}

-- ---- what was read is spelled
abbrev SpellsYear : Align → ℤ → List Bool → Type 0
SpellsYear a y = SpellsInteger a (y -ℤ pos 2000)

abbrev SpellsDate : Align → ℕ × ℕ → List Bool → Type 0
SpellsDate a d = SpellsNumber a 9 (d.0 * 32 + d.1)

abbrev SpellsTime : Align → ℕ × ℕ × ℕ → List Bool → Type 0
SpellsTime a t = SpellsNumber a 17 ((t.0 * 64 + t.1) * 64 + t.2)

abbrev SpellsOffset : Align → ℤ → List Bool → Type 0
SpellsOffset a z = SpellsNumber a 11 (zone_number z)

abbrev year_in : ℕ × Spot → ℕ × Spot → Result (ℤ × Spot) Fault
year_in sign size = cond (ltb size.0 (2 ^ 127)) (in_range sign.1 size.1 (year_of (sign.0 == 1) size.0)) (fault_at fault.TooWide sign.1)

abbrev year_behind : ℕ × Spot → Result (ℤ × Spot) Fault
year_behind sign = unsigned_at sign.1 >>= λ size. year_in sign size

as_integer : (a : Align) (v n : ℕ) (s t : Spot) → v < 2 → Told a (Then (SpellsNumber a 1 v) (SpellsUnsigned n)) s t → Told a (SpellsInteger a (signed (v == 1) n)) s t
as_integer a zero n s t lt told = told
as_integer a (suc zero) n s t lt told = told
as_integer a (suc (suc v)) n s t lt told = absurd (omega arith)

year_tells : (a : Align) → Tells a (year_at a) (SpellsYear a) (λ y. IsTrue (is_year y))
unfolding year_at
year_tells a y s t fits whole e =
    let b = bind_ok (below_at 2 a fault.BadPlace s) year_behind (y, t) e in
    let sign = told_told b.0.0 a s b.0.1 fits whole b.1 in
    let c = bind_ok (unsigned_at b.0.1) (year_in b.0) (y, t) b.2 in
    let size = unsigned_told c.0.0 a b.0.1 c.0.1 sign.0.fits sign.0.aligned c.1 in
    let g = guard_ok (ltb c.0.0 (2 ^ 127)) (in_range b.0.1 c.0.1 (year_of (b.0.0 == 1) c.0.0)) (y, t) (record { kind = fault.TooWide; bit = b.0.1.place }) c.2 in
    let r = in_range_ok b.0.1 c.0.1 t (year_of (b.0.0 == 1) c.0.0) y g.1 in
    let h = year_told (b.0.0 == 1) c.0.0 y r.0 in
    let both = told_both a (SpellsNumber a 1 b.0.0) (SpellsUnsigned c.0.0) s b.0.1 c.0.1 sign.0 size in (
      subst (λ (u : Spot). Told a (SpellsYear a y) s u) r.1 (subst (λ (z : ℤ). Told a (SpellsInteger a z) s c.0.1) (sym h.1) (as_integer a b.0.0 c.0.0 s c.0.1 sign.1 both)),
      h.0,
    )

number_tells : (n v w : ℕ) (a : Align) (s t u : Spot) → IsBytes s.bytes → IsAligned a s → field_at n a s ≡ given (v, t) → t ≡ u → w ≡ v → Told a (SpellsNumber a n w) s u
number_tells n v w a s t u fits whole e is same = subst (λ (q : Spot). Told a (SpellsNumber a n w) s q) is (subst (λ (k : ℕ). Told a (SpellsNumber a n k) s t) (sym same) (field_told n v a s t fits whole e))

date_tells : (k : MomentKind) (a : Align) → Tells a (month_day_at k a) (SpellsDate a) (λ d. IsTrue (is_month_day k d.0 d.1))
unfolding month_day_at
date_tells k a d s t fits whole e =
    let b = bind_ok (field_at 9 a s) (λ found. in_range s found.1 (month_day_of k found.0)) (d, t) e in
    let r = in_range_ok s b.0.1 t (month_day_of k b.0.0) d b.2 in
    let h = month_day_told k b.0.0 d r.0 in
    (number_tells 9 b.0.0 (d.0 * 32 + d.1) a s b.0.1 t fits whole b.1 r.1 h.1, h.0)

time_tells : (a : Align) → Tells a (time_at a) (SpellsTime a) (λ t. IsTrue (is_time true t.0 t.1 t.2))
unfolding time_at
time_tells a d s t fits whole e =
    let b = bind_ok (field_at 17 a s) (λ found. in_range s found.1 (time_of found.0)) (d, t) e in
    let r = in_range_ok s b.0.1 t (time_of b.0.0) d b.2 in
    let h = time_told b.0.0 d r.0 in
    (number_tells 17 b.0.0 ((d.0 * 64 + d.1) * 64 + d.2) a s b.0.1 t fits whole b.1 r.1 h.1, h.0)

offset_tells : (a : Align) → Tells a (offset_at a) (SpellsOffset a) (λ z. unsigned_abs z ≤ 840)
unfolding offset_at
offset_tells a z s t fits whole e =
    let b = bind_ok (field_at 11 a s) (λ found. in_range s found.1 (zone_of found.0)) (z, t) e in
    let r = in_range_ok s b.0.1 t (zone_of b.0.0) z b.2 in
    let h = zone_told b.0.0 z r.0 in
    (number_tells 11 b.0.0 (zone_number z) a s b.0.1 t fits whole b.1 r.1 h.1, h.0)

unsigned_tells : (a : Align) → Tells a unsigned_at SpellsUnsigned (λ v. Unit {0})
unsigned_tells a v s t fits whole e = (unsigned_told v a s t fits whole e, tt)

fraction_tells : (a : Align) → Tells a (fraction_at a) (SpellsFraction a) (λ f. Unit {0})
unfolding fraction_at
fraction_tells a f s t fits whole e = ((optional_told a unsigned_at SpellsUnsigned (λ v. Unit {0}) (unsigned_tells a) f s t fits whole e).0, tt)

zone_tells : (a : Align) → Tells a (zone_at a) (SpellsZone a) (λ z. IfSome z (λ m. unsigned_abs m ≤ 840))
unfolding zone_at
zone_tells a z s t fits whole e = optional_told a (offset_at a) (SpellsOffset a) (λ m. unsigned_abs m ≤ 840) (offset_tells a) z s t fits whole e

-- ranges of what does not count
date_absent : (k : MomentKind) → has_month_day k ≡ false → IsTrue (is_month_day k 0 0)
date_absent form.GYear e = refl
date_absent form.GYearMonth e = absurd cc
date_absent form.Date e = absurd cc
date_absent form.DateTime e = absurd cc
date_absent form.GMonth e = absurd cc
date_absent form.GMonthDay e = absurd cc
date_absent form.GDay e = absurd cc
date_absent form.Time e = refl

date_ranges : (k : MomentKind) (d : ℕ × ℕ) → (has_month_day k ≡ true → IsTrue (is_month_day k d.0 d.1)) → (has_month_day k ≡ false → d ≡ (0, 0)) → IsTrue (is_month_day k d.0 d.1)
date_ranges k d there absent =
    elim (cases_Bool (has_month_day k)) [
      | inl e ↦ there e
      | inr e ↦ subst (λ (p : ℕ × ℕ). IsTrue (is_month_day k p.0 p.1)) (sym (absent e)) (date_absent k e)
    ]

time_ranges : (b : Bool) (t : ℕ × ℕ × ℕ) → (b ≡ true → IsTrue (is_time true t.0 t.1 t.2)) → (b ≡ false → t ≡ (0, 0, 0)) → IsTrue (is_time b t.0 t.1 t.2)
time_ranges true t there absent = there refl
time_ranges false t there absent = subst (λ (p : ℕ × ℕ × ℕ). IsTrue (is_time false p.0 p.1 p.2)) (sym (absent refl)) refl

year_ranges : (b : Bool) (y : ℤ) → (b ≡ true → IsTrue (is_year y)) → (b ≡ false → y ≡ pos 0) → IsTrue (is_year y)
year_ranges true y there absent = there refl
year_ranges false y there absent = subst (λ (z : ℤ). IsTrue (is_year z)) (sym (absent refl)) refl

abbrev of_parts : MomentKind → ℤ → ℕ × ℕ → ℕ × ℕ × ℕ → Option ℕ → Option ℤ → Moment
of_parts k y d t f z = record { kind = k; year = y; month = d.0; day = d.1; hour = t.0; minute = t.1; second = t.2; fraction = f; zone = z }

abbrev after_fraction : MomentKind → Align → ℤ → ℕ × ℕ → ℕ × ℕ × ℕ → Option ℕ × Spot → Result (Moment × Spot) Fault
after_fraction k a y d t f = zone_at a f.1 >>= λ z. Ok (of_parts k y d t f.0 z.0, z.1)

abbrev after_time : MomentKind → Align → ℤ → ℕ × ℕ → (ℕ × ℕ × ℕ) × Spot → Result (Moment × Spot) Fault
after_time k a y d t = where_it_counts (fields k).time None (fraction_at a) t.1 >>= after_fraction k a y d t.0

abbrev after_date : MomentKind → Align → ℤ → (ℕ × ℕ) × Spot → Result (Moment × Spot) Fault
after_date k a y d = where_it_counts (fields k).time (0, 0, 0) (time_at a) d.1 >>= after_time k a y d.0

abbrev after_year : MomentKind → Align → ℤ × Spot → Result (Moment × Spot) Fault
after_year k a y = where_it_counts (has_month_day k) (0, 0) (month_day_at k a) y.1 >>= after_date k a y.0

five_told : (a : Align) (P Q R S T : List Bool → Type 0) (s t u v w x : Spot) → Told a P s t → Told a Q t u → Told a R u v → Told a S v w → Told a T w x → Told a (Then P (Then Q (Then R (Then S T)))) s x
five_told a P Q R S T s t u v w x p q r y z = told_both a P (Then Q (Then R (Then S T))) s t x p (told_both a Q (Then R (Then S T)) t u x q (told_both a R (Then S T) u v x r (told_both a S T v w x y z)))

same_moment : (k : MomentKind) (a : Align) (s : Spot) (p q : Moment × Spot) → p ≡ q → ReadMoment k a s p.1 p.0 → ReadMoment k a s q.1 q.0
same_moment k a s p q e r = subst (λ (x : Moment × Spot). ReadMoment k a s x.1 x.0) e r

pub moment_told : (k : MomentKind) (a : Align) (m : Moment) (s t : Spot) → IsBytes s.bytes → IsAligned a s → moment_at k a s ≡ given (m, t) → ReadMoment k a s t m
unfolding moment_at
moment_told k a m s t fits whole e =
    let b = bind_ok (where_it_counts (fields k).year (pos 0) (year_at a) s) (after_year k a) (m, t) e in
    let y = where_told a (fields k).year (pos 0) (year_at a) (SpellsYear a) (λ y. IsTrue (is_year y)) (year_tells a) b.0.0 s b.0.1 fits whole b.1 in
    let c = bind_ok (where_it_counts (has_month_day k) (0, 0) (month_day_at k a) b.0.1) (after_date k a b.0.0) (m, t) b.2 in
    let d = where_told a (has_month_day k) (0, 0) (month_day_at k a) (SpellsDate a) (λ d. IsTrue (is_month_day k d.0 d.1)) (date_tells k a) c.0.0 b.0.1 c.0.1 y.0.fits y.0.aligned c.1 in
    let g = bind_ok (where_it_counts (fields k).time (0, 0, 0) (time_at a) c.0.1) (after_time k a b.0.0 c.0.0) (m, t) c.2 in
    let h = where_told a (fields k).time (0, 0, 0) (time_at a) (SpellsTime a) (λ x. IsTrue (is_time true x.0 x.1 x.2)) (time_tells a) g.0.0 c.0.1 g.0.1 d.0.fits d.0.aligned g.1 in
    let i = bind_ok (where_it_counts (fields k).time None (fraction_at a) g.0.1) (after_fraction k a b.0.0 c.0.0 g.0.0) (m, t) g.2 in
    let f = where_told a (fields k).time None (fraction_at a) (SpellsFraction a) (λ x. Unit {0}) (fraction_tells a) i.0.0 g.0.1 i.0.1 h.0.fits h.0.aligned i.1 in
    let j = bind_ok (zone_at a i.0.1) (λ z. Ok (of_parts k b.0.0 c.0.0 g.0.0 i.0.0 z.0, z.1)) (m, t) i.2 in
    let z = zone_tells a j.0.0 i.0.1 j.0.1 f.0.fits f.0.aligned j.1 in
    let all = five_told a (Where (fields k).year (SpellsYear a b.0.0)) (Where (has_month_day k) (SpellsDate a c.0.0)) (Where (fields k).time (SpellsTime a g.0.0)) (Where (fields k).time (SpellsFraction a i.0.0)) (SpellsZone a j.0.0) s b.0.1 c.0.1 g.0.1 i.0.1 j.0.1 y.0 d.0 h.0 f.0 z.0 in
    same_moment k a s (of_parts k b.0.0 c.0.0 g.0.0 i.0.0 j.0.0, j.0.1) (m, t) (ok_is (of_parts k b.0.0 c.0.0 g.0.0 i.0.0 j.0.0, j.0.1) (m, t) j.2) (record {
      kind_is = refl {a = k};
      ranges = record {
        year = y.2;
        month_day = date_ranges k c.0.0 d.1 d.2;
        time = time_ranges (fields k).time g.0.0 h.1 h.2;
        fraction = f.2;
        zone = z.1;
      };
      year = year_ranges (fields k).year b.0.0 y.1 y.2;
      text = all.text;
      spells = all.spells;
      front = all.front;
    })

-- ---- what is spelled is read
year_step : (a : Align) (y : ℤ) (v n : ℕ) → v < 2 → n < 2 ^ 127 → year_of (v == 1) n ≡ some y → (s : Spot) (text more : List Bool) → IsBytes s.bytes → IsAligned a s → Then (SpellsNumber a 1 v) (SpellsUnsigned n) text → rest s ≡ text ++ more → Again ℤ a (year_at a s) y s text more
unfolding year_at
year_step a y v n lt few is s text more fits whole both e =
    let f = told_again v a s both.first (both.second ++ more) fits whole lt both.front (split s both.first both.second text more both.parts e) in
    let g = unsigned_again n a f.next both.second more f.fits f.aligned both.behind f.behind in record {
      next = g.next;
      reads = rw (f.reads, g.reads, lt-ltb n (2 ^ 127) few, is) refl;
      front = joined s f.next g.next both.first both.second text both.parts f.front g.front;
      behind = g.behind;
      fits = g.fits;
      aligned = g.aligned;
    }

integer_again : (a : Align) (y z : ℤ) → IsTrue (is_year y) → y -ℤ pos 2000 ≡ z → (s : Spot) (text more : List Bool) → IsBytes s.bytes → IsAligned a s → SpellsInteger a z text → rest s ≡ text ++ more → Again ℤ a (year_at a s) y s text more
integer_again a y (pos n) h e = year_step a y 0 n (omega arith) (few_after y n h e) (year_again false n y h e)
integer_again a y (negsuc n) h e = year_step a y 1 n (omega arith) (few_before y n h e) (year_again true n y h e)

year_reread : (a : Align) (y : ℤ) → IsTrue (is_year y) → Reread a (year_at a) (SpellsYear a) y
year_reread a y h = integer_again a y (y -ℤ pos 2000) h refl

date_reread : (k : MomentKind) (a : Align) (m d : ℕ) → IsTrue (is_month_day k m d) → Reread a (month_day_at k a) (SpellsDate a) (m, d)
unfolding month_day_at
date_reread k a m d h s text more fits whole is e =
    let r = month_day_again k m d h in
    let f = field_again 9 (m * 32 + d) a s text more fits whole r.1 is e in record {
      next = f.next;
      reads = rw (f.reads, r.0) refl;
      front = f.front;
      behind = f.behind;
      fits = f.fits;
      aligned = f.aligned;
    }

time_reread : (a : Align) (h m x : ℕ) → IsTrue (is_time true h m x) → Reread a (time_at a) (SpellsTime a) (h, m, x)
unfolding time_at
time_reread a h m x t s text more fits whole is e =
    let r = time_again h m x t in
    let f = field_again 17 ((h * 64 + m) * 64 + x) a s text more fits whole r.1 is e in record {
      next = f.next;
      reads = rw (f.reads, r.0) refl;
      front = f.front;
      behind = f.behind;
      fits = f.fits;
      aligned = f.aligned;
    }

offset_reread : (a : Align) (z : ℤ) → unsigned_abs z ≤ 840 → Reread a (offset_at a) (SpellsOffset a) z
unfolding offset_at
offset_reread a z h s text more fits whole is e =
    let r = zone_again z h in
    let f = field_again 11 (zone_number z) a s text more fits whole r.1 is e in record {
      next = f.next;
      reads = rw (f.reads, r.0) refl;
      front = f.front;
      behind = f.behind;
      fits = f.fits;
      aligned = f.aligned;
    }

if_some : {X : Type 0} → (o : Option X) (P Q : X → Type 0) → ((x : X) → P x → Q x) → IfSome o P → IfSome o Q
if_some None P Q f h = tt
if_some (Some x) P Q f h = f x h

any_some : {X : Type 0} → (o : Option X) (P : X → Type 0) → ((x : X) → P x) → IfSome o P
any_some None P f = tt
any_some (Some x) P f = f x

fraction_reread : (a : Align) (f : Option ℕ) → Reread a (fraction_at a) (SpellsFraction a) f
unfolding fraction_at
fraction_reread a f s text more fits whole is e = optional_again a unsigned_at SpellsUnsigned f (any_some f (λ x. Reread a unsigned_at SpellsUnsigned x) (λ x. unsigned_again x a)) s text more fits whole is e

zone_reread : (a : Align) (z : Option ℤ) → IfSome z (λ m. unsigned_abs m ≤ 840) → Reread a (zone_at a) (SpellsZone a) z
unfolding zone_at
zone_reread a z h s text more fits whole is e = optional_again a (offset_at a) (SpellsOffset a) z (if_some z (λ m. unsigned_abs m ≤ 840) (λ m. Reread a (offset_at a) (SpellsOffset a) m) (offset_reread a) h) s text more fits whole is e

abbrev pair_of : ℕ → ℕ → ℕ × ℕ
pair_of m d = (m, d)

abbrev triple_of : ℕ → ℕ → ℕ → ℕ × ℕ × ℕ
triple_of h m s = (h, m, s)

date_none : (k : MomentKind) (m d : ℕ) → IsTrue (is_month_day k m d) → has_month_day k ≡ false → pair_of m d ≡ pair_of 0 0
date_none form.GYear m d h e = let p = and_parts (eqb m 0) (eqb d 0) h in ap₂ pair_of (eqb-true m 0 p.0) (eqb-true d 0 p.1)
date_none form.GYearMonth m d h e = absurd cc
date_none form.Date m d h e = absurd cc
date_none form.DateTime m d h e = absurd cc
date_none form.GMonth m d h e = absurd cc
date_none form.GMonthDay m d h e = absurd cc
date_none form.GDay m d h e = absurd cc
date_none form.Time m d h e = let p = and_parts (eqb m 0) (eqb d 0) h in ap₂ pair_of (eqb-true m 0 p.0) (eqb-true d 0 p.1)

time_there : (b : Bool) (h m s : ℕ) → IsTrue (is_time b h m s) → b ≡ true → IsTrue (is_time true h m s)
time_there true h m s t e = t
time_there false h m s t e = absurd cc

time_none : (b : Bool) (h m s : ℕ) → IsTrue (is_time b h m s) → b ≡ false → triple_of h m s ≡ triple_of 0 0 0
time_none true h m s t e = absurd cc
time_none false h m s t e =
    let p = and_parts (eqb h 0 && eqb m 0) (eqb s 0) t in
    let q = and_parts (eqb h 0) (eqb m 0) p.0 in
    subst (λ (x : ℕ). triple_of x m s ≡ triple_of 0 0 0) (sym (eqb-true h 0 q.0)) (subst (λ (x : ℕ). triple_of 0 x s ≡ triple_of 0 0 0) (sym (eqb-true m 0 q.1)) (subst (λ (x : ℕ). triple_of 0 0 x ≡ triple_of 0 0 0) (sym (eqb-true s 0 p.1)) refl))

abbrev spot_of : List ℕ → ℕ → Spot
spot_of bytes place = record { bytes = bytes; place = place }

spot_is : (t s : Spot) (n : ℕ) → t.bytes ≡ s.bytes → t.place ≡ s.place + n → t ≡ moved s n
spot_is t s n b p = ap₂ spot_of b p

pub moment_again : (m : Moment) (a : Align) (s : Spot) (text more : List Bool) → IsMoment m → IsTrue (is_year m.year) → IsBytes s.bytes → IsAligned a s → Spells a m text → rest s ≡ text ++ more → moment_at m.kind a s ≡ given (m, moved s (length text))
unfolding moment_at
moment_again m a s text more ranges narrow fits whole y e =
    let d = y.behind in
    let t = d.behind in
    let f = t.behind in
    let one = where_again a (fields m.kind).year (pos 0) (year_at a) (SpellsYear a) m.year (λ h. year_reread a m.year narrow) ranges.year s y.first (y.second ++ more) fits whole y.front (split s y.first y.second text more y.parts e) in
    let two = where_again a (has_month_day m.kind) (0, 0) (month_day_at m.kind a) (SpellsDate a) (m.month, m.day) (λ h. date_reread m.kind a m.month m.day ranges.month_day) (date_none m.kind m.month m.day ranges.month_day) one.next d.first (d.second ++ more) one.fits one.aligned d.front (split one.next d.first d.second y.second more d.parts one.behind) in
    let three = where_again a (fields m.kind).time (0, 0, 0) (time_at a) (SpellsTime a) (m.hour, m.minute, m.second) (λ h. time_reread a m.hour m.minute m.second (time_there (fields m.kind).time m.hour m.minute m.second ranges.time h)) (time_none (fields m.kind).time m.hour m.minute m.second ranges.time) two.next t.first (t.second ++ more) two.fits two.aligned t.front (split two.next t.first t.second d.second more t.parts two.behind) in
    let four = where_again a (fields m.kind).time None (fraction_at a) (SpellsFraction a) m.fraction (λ h. fraction_reread a m.fraction) ranges.fraction three.next f.first (f.second ++ more) three.fits three.aligned f.front (split three.next f.first f.second t.second more f.parts three.behind) in
    let five = zone_reread a m.zone ranges.zone four.next f.second more four.fits four.aligned f.behind four.behind in
    let last = joined three.next four.next five.next f.first f.second t.second f.parts four.front five.front in
    let timed = joined two.next three.next five.next t.first t.second d.second t.parts three.front last in
    let dated = joined one.next two.next five.next d.first d.second y.second d.parts two.front timed in
    let all = joined s one.next five.next y.first y.second text y.parts one.front dated in
    let there : five.next ≡ moved s (length text) = spot_is five.next s (length text) all.bytes all.place in
    rw (one.reads, two.reads, three.reads, four.reads, five.reads, there) refl

-- ---- no spelling is a proper prefix of another
record Stands (text : List Bool) : Type 0 where
  bytes : List ℕ
  behind : List Bool
  fits : IsBytes bytes
  parts : bits bytes ≡ text ++ behind

byte_in_front : (b : ℕ) (bs : List ℕ) → b < 256 → IsBytes bs → IsBytes (b ∷ bs)
byte_in_front b bs lt fits zero = lt
byte_in_front b bs lt fits (suc i) = fits i

byte_of : (text : List Bool) → length text ≡ 8 → (value_of text < 256) × (number_bits 8 (value_of text) ≡ text)
byte_of text e = (
  subst (λ (n : ℕ). value_of text < 2 ^ n) e (value_of_below text),
  subst (λ (n : ℕ). number_bits n (value_of text) ≡ text) e (number_bits-value_of text),
)

one_byte_stands : (text : List Bool) → length text ≤ 8 → Stands text
unfolding bits
one_byte_stands text le =
    let behind : List Bool = replicate (8 - length text) false in
    let b = byte_of (text ++ replicate (8 - length text) false) (omega (arith, length-append text (replicate (8 - length text) false), length-replicate (8 - length text) false)) in record {
      bytes = value_of (text ++ replicate (8 - length text) false) ∷ [];
      behind = replicate (8 - length text) false;
      fits = byte_in_front (value_of (text ++ replicate (8 - length text) false)) [] b.0 (λ i. omega arith);
      parts = append-nil (number_bits 8 (value_of (text ++ replicate (8 - length text) false))) ∙ b.1;
    }

stands : (most : ℕ) (text : List Bool) → length text ≤ most → Stands text
unfolding bits
stands zero text le = one_byte_stands text (omega arith)
stands (suc most) text le =
    elim (cases_lt (length text) 8) [
      | inl short ↦ one_byte_stands text (omega arith)
      | inr long ↦
          let more = stands most (drop 8 text) (omega (arith, length-drop 8 text)) in
          let b = byte_of (take 8 text) (omega (arith, length-take 8 text)) in record {
            bytes = value_of (take 8 text) ∷ more.bytes;
            behind = more.behind;
            fits = byte_in_front (value_of (take 8 text)) more.bytes b.0 more.fits;
            parts = ap₂ (λ (x y : List Bool). x ++ y) b.1 more.parts ∙ sym (append_assoc (take 8 text) (drop 8 text) more.behind) ∙ ap (λ (x : List Bool). x ++ more.behind) (take-append-drop 8 text);
          }
    ]

pub moment_no_prefix : (m other : Moment) (a : Align) (text prefix more : List Bool) → IsMoment m → IsTrue (is_year m.year) → IsMoment other → IsTrue (is_year other.year) → m.kind ≡ other.kind → Spells a m text → Spells a other prefix → text ≡ prefix ++ more → (m ≡ other) × (more ≡ [])
moment_no_prefix m other a text prefix more ranges narrow ranges' narrow' kind spells spells' e =
    let st = stands (length text) text (omega arith) in
    let s : Spot = record { bytes = st.bytes; place = 0 } in
    let one : moment_at m.kind a s ≡ given (m, moved s (length text)) = moment_again m a s text st.behind ranges narrow st.fits (λ h. refl) spells st.parts in
    let same : rest s ≡ prefix ++ (more ++ st.behind) = st.parts ∙ ap (λ (x : List Bool). x ++ st.behind) e ∙ append_assoc prefix more st.behind in
    let two : moment_at other.kind a s ≡ given (other, moved s (length prefix)) = moment_again other a s prefix (more ++ st.behind) ranges' narrow' st.fits (λ h. refl) spells' same in
    let three : moment_at m.kind a s ≡ given (other, moved s (length prefix)) = ap (λ (k : MomentKind). moment_at k a s) kind ∙ two in
    let p = ok_is (m, moved s (length text)) (other, moved s (length prefix)) (sym one ∙ three) in
    let places : 0 + length text ≡ 0 + length prefix = ap (λ (q : Moment × Spot). q.1.place) p in (
      ap (λ (q : Moment × Spot). q.0) p,
      nil_from_length more (omega (arith, ap length e, length-append prefix more)),
    )

-- ---- what is written is a spelling
both_text : (P Q : List Bool → Type 0) (p q : List Bool) → P p → Q q → Then P Q (p ++ q)
both_text P Q p q x y = record { first = p; second = q; parts = refl; front = x; behind = y }

where_text : (b : Bool) (P : List Bool → Type 0) (text : List Bool) → P text → Where b P (text_where b text)
where_text true P text h = h
where_text false P text h = refl

where_both : (b : Bool) (p q : List Bool) → text_where b (p ++ q) ≡ text_where b p ++ text_where b q
where_both true p q = refl
where_both false p q = refl

unsigned_written : (n : ℕ) → n < 2 ^ 128 → SpellsUnsigned n (bits (shortest n))
unsigned_written n lt = record { octets = shortest n; unsigned = shortest_spelled n lt; bits = refl }

integer_written : (a : Align) (y z : ℤ) → IsTrue (is_year y) → y -ℤ pos 2000 ≡ z → SpellsInteger a z (integer_text a z)
integer_written a y (pos n) h e = both_text (SpellsNumber a 1 0) (SpellsUnsigned n) (number 1 a 0) (bits (shortest n)) refl (unsigned_written n (let few = few_after y n h e in omega arith))
integer_written a y (negsuc n) h e = both_text (SpellsNumber a 1 1) (SpellsUnsigned n) (number 1 a 1) (bits (shortest n)) refl (unsigned_written n (let few = few_before y n h e in omega arith))

fraction_written : (a : Align) (f : Option ℕ) → IfSome f (λ digits. digits < 2 ^ 128) → SpellsFraction a f (fraction_text a f)
fraction_written a None h = refl
fraction_written a (Some n) h = both_text (SpellsNumber a 1 1) (SpellsUnsigned n) (number 1 a 1) (bits (shortest n)) refl (unsigned_written n h)

zone_written : (a : Align) (z : Option ℤ) → SpellsZone a z (zone_text a z)
zone_written a None = refl
zone_written a (Some z) = both_text (SpellsNumber a 1 1) (SpellsOffset a z) (number 1 a 1) (number 11 a (zone_number z)) refl refl

five_texts : (P Q R S T : List Bool → Type 0) (p q r s t : List Bool) → P p → Q q → R r → S s → T t → Then P (Then Q (Then R (Then S T))) (p ++ (q ++ (r ++ (s ++ t))))
five_texts P Q R S T p q r s t u v w x y = both_text P (Then Q (Then R (Then S T))) p (q ++ (r ++ (s ++ t))) u (both_text Q (Then R (Then S T)) q (r ++ (s ++ t)) v (both_text R (Then S T) r (s ++ t) w (both_text S T s t x y)))

grouped : (y d c t f z : List Bool) → c ≡ t ++ f → y ++ (d ++ (t ++ (f ++ z))) ≡ y ++ d ++ c ++ z
grouped y d c t f z e =
    sym (append_assoc y d (t ++ (f ++ z))) ∙ ap (λ (x : List Bool). y ++ d ++ x) (sym (append_assoc t f z)) ∙ ap (λ (x : List Bool). y ++ d ++ (x ++ z)) (sym e) ∙ sym (append_assoc (y ++ d) c z)

pub moment_written : (m : Moment) (a : Align) → IsTrue (is_year m.year) → IfSome m.fraction (λ digits. digits < 2 ^ 128) → Spells a m (spelling a m)
unfolding spelling
moment_written m a narrow few =
    let y = where_text (fields m.kind).year (SpellsInteger a (year_offset m)) (integer_text a (year_offset m)) (integer_written a m.year (year_offset m) narrow refl) in
    let d = where_text (has_month_day m.kind) (SpellsNumber a 9 (month_day_number m)) (number 9 a (month_day_number m)) refl in
    let t = where_text (fields m.kind).time (SpellsNumber a 17 (time_number m)) (number 17 a (time_number m)) refl in
    let f = where_text (fields m.kind).time (SpellsFraction a m.fraction) (fraction_text a m.fraction) (fraction_written a m.fraction few) in
    let year : List Bool = text_where (fields m.kind).year (integer_text a (year_offset m)) in
    let day : List Bool = text_where (has_month_day m.kind) (number 9 a (month_day_number m)) in
    let time : List Bool = text_where (fields m.kind).time (number 17 a (time_number m)) in
    let fraction : List Bool = text_where (fields m.kind).time (fraction_text a m.fraction) in
    let all = five_texts (Where (fields m.kind).year (SpellsInteger a (year_offset m))) (Where (has_month_day m.kind) (SpellsNumber a 9 (month_day_number m))) (Where (fields m.kind).time (SpellsNumber a 17 (time_number m))) (Where (fields m.kind).time (SpellsFraction a m.fraction)) (SpellsZone a m.zone) year day time fraction (zone_text a m.zone) y d t f (zone_written a m.zone) in
    subst (λ (x : List Bool). Spells a m x) (grouped year day (text_where (fields m.kind).time (number 17 a (time_number m) ++ fraction_text a m.fraction)) time fraction (zone_text a m.zone) (where_both (fields m.kind).time (number 17 a (time_number m)) (fraction_text a m.fraction))) all

pub moment_read_back : (m : Moment) (a : Align) (s : Spot) (before more : List Bool) → IsMoment m → IsTrue (is_year m.year) → IfSome m.fraction (λ digits. digits < 2 ^ 128) → IsBytes s.bytes → IsAligned a s → bits s.bytes ≡ before ++ spelling a m ++ more → s.place ≡ length before → moment_at m.kind a s ≡ given (m, moved s (length (spelling a m)))
moment_read_back m a s before more ranges narrow few fits whole e p = moment_again m a s (spelling a m) more ranges narrow fits whole (moment_written m a narrow few) (rest_behind s before (spelling a m) more e p)
