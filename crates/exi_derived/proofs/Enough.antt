-- Limits that are wide enough: under them no limit is passed.
use Rattle.std.proofs.Common.{◌≡◌, ◌+◌, ◌≤◌, ℕ, suc, Bool, true, false, List, [], ◌∷◌, length, Option, Some, None, refl, sym, ap, ◌∙◌, subst, arith}
use Rattle.std.specs.Prelude.{Result, Ok, Err, if◌then◌else◌}
use Rattle.std.proofs.lemmas.Bool.{le-leb}
use Rattle.exi_gram.specs.Codes.{Coded}
use Rattle.exi_meter.specs.Metering.{Bounds, Metering, event_fits, level_fits, text_fits, with_event, with_level, with_text}
use Rattle.exi_names.specs.Events.{Happening}
use Rattle.exi_processing.specs.Configurations.{Config, Setting}
use Rattle.exi_processing.specs.Plans.{Plan, alone_in, plan_of}
use Rattle.exi_processing.specs.Rules.{Rule}
use Rattle.exi_processing.specs.Runs.{has_ended}
use Rattle.exi_writing.specs.OneEvent.{Refused, Written, ◌>>=◌, behind_code, by_code, chosen, followed, followed_by, not_derived, one_deeper, one_more, paid, written, written_by}
use Rattle.exi_writing.specs.Pieces.{Piece}
use Rattle.exi_writing.specs.Pruned.{pruned}
use Rattle.exi_writing.specs.Runs.{Refusal, Run, behind_run, go_on, nothing_from, own, put, put_from, put_then, then_run, written_all}
use Rattle.exi_derived.specs.Laws.{IsNoWider, is_limit, passes_limit, unmatched_at}
use Rattle.exi_derived.proofs.Lists.{KeptRun, put_again}
use Rattle.exi_derived.proofs.OneEvent.{Again, Fits, KeptOne, chosen_same, code_of, one_again}
use Rattle.exi_derived.proofs.Places.{limited, no_wider, put_at, same_start, wider_still}
use Rattle.exi_derived.proofs.Plans.{same_plan}

-- ---- no limit is passed
abbrev pub Settled : {X : Type 0} → Result X Refused → Type 0
Settled (Ok x) = Unit {0}
Settled (Err why) = is_limit why ≡ false

settled_then : {X Y : Type 0} (r : Result X Refused) (f : X → Result Y Refused) → Settled r → ((x : X) → r ≡ Ok x → Settled (f x)) → Settled (r >>= f)
settled_then {X} {Y} (Ok x) f s more = more x refl
settled_then {X} {Y} (Err why) f s more = s

-- ---- one event: what it charges at most
abbrev all_of : List ℕ → ℕ
all_of [] = 0
all_of (u ∷ us) = u + all_of us

-- the meter leaves room for an event, for so many units of text, and for a level
record HasRoom (m : Metering) (events units levels : ℕ) : Type 0 where
  events_fit : m.used.events + events ≤ m.limits.events
  units_fit : m.used.text + units ≤ m.limits.text
  levels_fit : m.level + levels ≤ m.limits.depth

record MoreFits (r : Result Metering Refused) (events units levels : ℕ) : Type 0 where
  meter : Metering
  is : r ≡ Ok meter
  room : HasRoom meter events units levels

more_fits : (b : Bool) (m : Metering) (units levels : ℕ) → HasRoom m 1 units levels → MoreFits (one_more b m) 0 units levels
more_fits false m units levels r = record { meter = m; is = refl; room = record { events_fit = omega (arith, r.events_fit); units_fit = r.units_fit; levels_fit = r.levels_fit } }
more_fits true m units levels r =
    let fits : event_fits m ≡ true = le-leb (m.used.events + 1) m.limits.events r.events_fit in
    record { meter = with_event m; is = rw fits refl; room = record { events_fit = omega (arith, r.events_fit); units_fit = r.units_fit; levels_fit = r.levels_fit } }

deeper_fits : (b : Bool) (m : Metering) (units : ℕ) → HasRoom m 0 units 1 → MoreFits (one_deeper b m) 0 units 0
deeper_fits false m units r = record { meter = m; is = refl; room = record { events_fit = r.events_fit; units_fit = r.units_fit; levels_fit = omega (arith, r.levels_fit) } }
deeper_fits true m units r =
    let fits : level_fits m ≡ true = le-leb (m.level + 1) m.limits.depth r.levels_fit in
    record { meter = with_level m; is = rw fits refl; room = record { events_fit = r.events_fit; units_fit = r.units_fit; levels_fit = omega (arith, r.levels_fit) } }

paid_fits : (us : List ℕ) (m : Metering) → HasRoom m 0 (all_of us) 0 → MoreFits (paid us m) 0 0 0
paid_fits [] m r = record { meter = m; is = refl; room = r }
paid_fits (u ∷ us) m r =
    let fits : text_fits m u ≡ true = le-leb (m.used.text + u) m.limits.text (omega (arith, r.units_fit)) in
    let k = paid_fits us (with_text m u) record { events_fit = r.events_fit; units_fit = omega (arith, r.units_fit); levels_fit = r.levels_fit } in
    record { meter = k.meter; is = rw fits k.is; room = k.room }

followed_settled : (plan : Plan) (c : Config) (piece : Piece plan.Item) → HasRoom c.meter 1 (all_of piece.units) 1 → Settled (followed_by plan c piece)
unfolding followed_by
followed_settled plan c piece r =
    let a = more_fits plan.counted c.meter (all_of piece.units) 1 r in
    let b = deeper_fits plan.entered a.meter (all_of piece.units) a.room in
    let d = paid_fits piece.units b.meter b.room in
    rw (a.is, b.is, d.is) tt

abbrev units_in : {X : Type 0} → Option (Piece X) → ℕ
units_in None = 0
units_in (Some piece) = all_of piece.units

content_settled : (plan : Plan) (o : Option (Piece plan.Item)) (c : Config) → HasRoom c.meter 1 (units_in o) 1 → Settled (followed plan c o)
content_settled plan None c r = refl
content_settled plan (Some piece) c r = followed_settled plan c piece r

behind_settled : (code : List Bool) (r : Result Written Refused) → Settled r → Settled (behind_code code r)
behind_settled code (Ok w) s = tt
behind_settled code (Err why) s = s

going_settled : (ended : Bool) (r : Result Written Refused) → Settled r → Settled (if ended then Err not_derived else r)
going_settled true r s = refl
going_settled false r s = s

-- limits that have room for all of it, and are no narrower than these
abbrev wide : Bounds → Metering → ℕ → Bounds
wide limits m units = record { events = limits.events + (m.used.events + 1); text = limits.text + (m.used.text + units); depth = limits.depth + (m.level + 1) }

wide_is : (limits : Bounds) (m : Metering) (units : ℕ) → IsNoWider limits (wide limits m units)
wide_is limits m units = record { events = omega arith; text = omega arith; depth = omega arith }

wide_room : (limits : Bounds) (m : Metering) (units : ℕ) → HasRoom (limited (wide limits m units) m) 1 units 1
wide_room limits m units = record { events_fit = omega arith; units_fit = omega arith; levels_fit = omega arith }

-- what is made of a configuration passes no limit, once these are wide enough
abbrev pub Enough : {X : Type 0} → (Config → Result X Refused) → Type 0
Enough f = (c : Config) (limits : Bounds) → (wider : Bounds) × IsNoWider limits wider × Settled (f (put_at c.place wider c))

module _ (g : Setting) (e : Happening) where
  abbrev needs : Config → Option (Coded Rule) → ℕ
  needs c None = 0
  needs c (Some x) = units_in (written_by g c x.item e c.tables)

  by_code_settled : (c : Config) (limits : Bounds) (o : Option (Coded Rule)) → HasRoom (limited limits c.meter) 1 (needs c o) 1 → Settled (by_code g (put_at c.place limits c) e o)
  by_code_settled c limits None r = refl
  by_code_settled c limits (Some x) r =
      let k : Config = record (put_at c.place limits c) { place = c.place + length (code_of same_start g c e 0 limits x) } in
      behind_settled (code_of same_start g c e 0 limits x) (followed (plan_of g (put_at c.place limits c) x.item) k (written_by g (put_at c.place limits c) x.item e c.tables))
      (same_plan g (alone_in c.elements c.outer) c x.item e c.tables same_start c.place limits (λ plan o. Settled (followed plan k o)) x.item.on (content_settled (plan_of g c x.item) (written_by g c x.item e c.tables) k r))

  one_enough : Enough (λ c. written g c e)
  unfolding written
  one_enough c limits =
      let units = needs c (chosen g c e) in
      let wider = wide limits c.meter units in (
        wider,
        wide_is limits c.meter units,
        going_settled (has_ended c) (by_code g (put_at c.place wider c) e (chosen g (put_at c.place wider c) e))
            (subst (λ (o : Option (Coded Rule)). Settled (by_code g (put_at c.place wider c) e o)) (chosen_same same_start g c e c.place wider) (by_code_settled c wider (chosen g c e) (wide_room limits c.meter units))),
      )

-- nothing is said of limits that are the same
no_same : (limits wider : Bounds) → IsNoWider limits wider → Fits ⊥ same_start limits wider
no_same limits wider room = record { wide = room; same = λ never. absurd never }

-- ---- events one after another
front_settled : (w : Written) (r : Result Run Refused) → Settled r → Settled (then_run w r)
front_settled w (Ok s) k = tt
front_settled w (Err why) k = k

module _ (g : Setting) (e : Happening) (f : Config → Result Run Refused) (more : Enough f) where
  abbrev both : Config → Result Run Refused
  both c = written g c e >>= (λ w. then_run w (f w.given.1))

  by_answer : (c : Config) (limits first : Bounds) → IsNoWider limits first → (r : Result Written Refused) → written g (put_at c.place first c) e ≡ r → Settled r → (wider : Bounds) × IsNoWider limits wider × Settled (both (put_at c.place wider c))
  by_answer c limits first room (Err why) is s = (first, room, rw is s)
  by_answer c limits first room (Ok w) is s =
      let k = more w.given.1 first in
      let wider = k.0 in
      let there : Again ⊥ same_start (KeptOne ⊥ same_start c.place c.place wider) (Ok w) (written g (put_at c.place wider c) e) = subst (λ (z : Result Written Refused). Again ⊥ same_start (KeptOne ⊥ same_start c.place c.place wider) z (written g (put_at c.place wider c) e)) is (one_again ⊥ same_start g (put_at c.place first c) e c.place wider (no_same first wider k.1)) in
      let v = there.0 in
      let next : v.given.1 ≡ put_at w.given.1.place wider w.given.1 = there.2.next ∙ ap (λ (p : ℕ). put_at p wider w.given.1) (there.2.same refl).place_is in
      let last : Settled (f v.given.1) = subst (λ (d : Config). Settled (f d)) (sym next) k.2 in
      (wider, wider_still limits first wider room k.1, subst (λ (z : Result Written Refused). Settled (z >>= (λ x. then_run x (f x.given.1)))) (sym there.1) (front_settled v (f v.given.1) last))

  both_enough : Enough both
  both_enough c limits = let k = one_enough g e c limits in by_answer c limits k.0 k.1 (written g (put_at c.place k.0 c) e) refl k.2

all_enough : (g : Setting) (es : List Happening) → Enough (λ c. written_all g c es)
all_enough g [] c limits = (limits, no_wider limits, tt)
all_enough g (e ∷ es) c limits = both_enough g e (λ d. written_all g d es) (all_enough g es) c limits

own_enough : (g : Setting) → Enough (λ c. written_all g c (own c))
own_enough g c limits = all_enough g (own c) c limits

put_enough : (g : Setting) (e : Happening) → Enough (λ c. put g c e)
unfolding put
put_enough g e c limits = both_enough g e (λ d. written_all g d (own d)) (own_enough g) c limits

-- ---- a list
abbrev pub ListEnough : (Config → Result Run Refusal) → Type 0
ListEnough f = (c : Config) (limits : Bounds) → (wider : Bounds) × IsNoWider limits wider × (passes_limit (f (put_at c.place wider c)) ≡ false)

behind_passes : (r : Run) (s : Result Run Refusal) → passes_limit s ≡ false → passes_limit (behind_run r s) ≡ false
behind_passes r (Ok t) k = refl
behind_passes r (Err e) k = k

module _ (n : ℕ) (g : Setting) (e : Happening) (others : Config → Result Run Refusal) (more : ListEnough others) where
  on_answer : (c : Config) (limits first : Bounds) → IsNoWider limits first → (r : Result Run Refused) → put g (put_at c.place first c) e ≡ r → Settled r → (wider : Bounds) × IsNoWider limits wider × (passes_limit (go_on n (put g (put_at c.place wider c) e) others) ≡ false)
  on_answer c limits first room (Err why) is s = (first, room, rw is s)
  on_answer c limits first room (Ok r) is s =
      let k = more r.last first in
      let wider = k.0 in
      let there : Again ⊥ same_start (KeptRun ⊥ same_start c.place c.place wider) (Ok r) (put g (put_at c.place wider c) e) = subst (λ (z : Result Run Refused). Again ⊥ same_start (KeptRun ⊥ same_start c.place c.place wider) z (put g (put_at c.place wider c) e)) is (put_again ⊥ same_start g e (put_at c.place first c) c.place wider (no_same first wider k.1)) in
      let t = there.0 in
      let next : t.last ≡ put_at r.last.place wider r.last = there.2.next ∙ ap (λ (p : ℕ). put_at p wider r.last) (there.2.same refl).place_is in
      let last : passes_limit (others t.last) ≡ false = ap (λ (d : Config). passes_limit (others d)) next ∙ k.2 in
      (wider, wider_still limits first wider room k.1, ap (λ (z : Result Run Refused). passes_limit (go_on n z others)) there.1 ∙ behind_passes t (others t.last) last)

  on_enough : ListEnough (λ c. go_on n (put g c e) others)
  on_enough c limits = let k = put_enough g e c limits in on_answer c limits k.0 k.1 (put g (put_at c.place k.0 c) e) refl k.2

then_enough : (n : ℕ) (g : Setting) (o : Option Happening) (others : Config → Result Run Refusal) → ListEnough others → ListEnough (λ c. put_then n g c o others)
then_enough n g None others more c limits = more c limits
then_enough n g (Some e) others more c limits = on_enough n g e others more c limits

ended_passes : (n : ℕ) (c : Config) (ended : Bool) → passes_limit (if ended then Ok (nothing_from c) else Err (unmatched_at n)) ≡ false
ended_passes n c true = refl
ended_passes n c false = refl

pub from_enough : (es : List Happening) (n : ℕ) (g : Setting) → ListEnough (λ c. put_from n g c es)
from_enough [] n g c limits = (limits, no_wider limits, ended_passes n (put_at c.place limits c) (has_ended c))
from_enough (e ∷ es) n g c limits = then_enough n g (pruned g.options e) (λ d. put_from (suc n) g d es) (from_enough es (suc n) g) c limits
