-- The laws, of a body.
use Rattle.std.proofs.Common.{◌≡◌, ◌≤◌, ◌⊎◌, inl, inr, ℕ, max, Bool, true, false, List, refl, sym, ap, ◌∙◌, subst, arith}
use Rattle.std.specs.Prelude.{Result, Ok, Err}
use Rattle.exi_meter.specs.Metering.{Bounds}
use Rattle.exi_names.specs.Events.{Happening}
use Rattle.exi_processing.specs.Configurations.{Setting, first_config}
use Rattle.exi_processing.specs.declared.start.Start.TheVariants as start
use Rattle.exi_writing.specs.OneEvent.{Refused, limit, not_derived}
use Rattle.exi_writing.specs.Runs.{Derives, Refusal, Run, body}
use Rattle.exi_derived.specs.Laws.{BitsRefuseTheSame, BitsWriteAgain, DerivedIsWritten, DerivedOrUnmatched, GoesOn, IsNoWider, IsRefused, LimitedGoesOn, NeverBoth, OneUnmatched, RefusedDerivesNot, RefusedIsUnmatched, RefusesAt, RefusesFrom, Unmatched, UnmatchedIsRefused, WiderWritesTheSame, WrittenDerives, WrittenExactly, is_limit, is_written, passes_limit, unmatched_at}
use Rattle.exi_derived.proofs.Enough.{from_enough}
use Rattle.exi_derived.proofs.Lists.{KeptRun, Later, ListAgain, RefusedAgain, from_again}
use Rattle.exi_derived.proofs.Places.{no_wider, same_start}

-- ---- a body again, behind other bits and under limits that are no narrower
body_again : (g : Setting) (bits more : ℕ) (limits wider : Bounds) (es : List Happening) → IsNoWider limits wider → ListAgain (wider ≡ limits) same_start bits more wider (body g bits limits es) (body g more wider es)
unfolding body
body_again g bits more limits wider es room = from_again (wider ≡ limits) same_start es 1 g (first_config g bits start.Body limits) more wider record { wide = room; same = λ is. is }

body_enough : (g : Setting) (bits : ℕ) (limits : Bounds) (es : List Happening) → (wider : Bounds) × IsNoWider limits wider × (passes_limit (body g bits wider es) ≡ false)
unfolding body
body_enough g bits limits es = from_enough es 1 g (first_config g bits start.Body limits) limits

-- what was so is so again
again_by : (Same : Type 0) (from to : ℕ) (limits : Bounds) (r s : Result Run Refusal) → r ≡ s → (t : Result Run Refusal) → ListAgain Same same_start from to limits r t → ListAgain Same same_start from to limits s t
again_by Same from to limits r s is t k = subst (λ (z : Result Run Refusal). ListAgain Same same_start from to limits z t) is k

module _ (g : Setting) (bits more : ℕ) (limits wider : Bounds) (es : List Happening) (room : IsNoWider limits wider) where
  written_again : (r : Run) → body g bits limits es ≡ Ok r → (t : Run) × (body g more wider es ≡ Ok t) × KeptRun (wider ≡ limits) same_start bits more wider r t
  written_again r is = again_by (wider ≡ limits) bits more wider (body g bits limits es) (Ok r) is (body g more wider es) (body_again g bits more limits wider es room)

  unmatched_again : (event : ℕ) → body g bits limits es ≡ Err (unmatched_at event) → body g more wider es ≡ Err (unmatched_at event)
  unmatched_again event is = again_by (wider ≡ limits) bits more wider (body g bits limits es) (Err (unmatched_at event)) is (body g more wider es) (body_again g bits more limits wider es room)

-- ---- limits that are no narrower than both
abbrev wider_of : Bounds → Bounds → Bounds
wider_of a b = record { events = max a.events b.events; text = max a.text b.text; depth = max a.depth b.depth }

first_wider : (a b : Bounds) → IsNoWider a (wider_of a b)
first_wider a b = record { events = omega arith; text = omega arith; depth = omega arith }

second_wider : (a b : Bounds) → IsNoWider b (wider_of a b)
second_wider a b = record { events = omega arith; text = omega arith; depth = omega arith }

-- ---- the laws
pub written_derives : WrittenDerives
written_derives g bits limits es r is = let k = written_again g bits 0 limits limits es (no_wider limits) r is in (limits, k.0, k.1)

pub refused_is_unmatched : RefusedIsUnmatched
refused_is_unmatched g bits limits es event is = (limits, unmatched_again g bits 0 limits limits es (no_wider limits) event is)

abbrev refusal : ℕ → Refused → Result Run Refusal
refusal at why = Err (record { event = at; why = why })

abbrev given_run : Run → Result Run Refusal
given_run r = Ok r

ok_err : (r : Run) (event : ℕ) → given_run r ≡ refusal event not_derived → ⊥
ok_err r event h = absurd cc

abbrev event_of : Result Run Refusal → ℕ
event_of (Ok r) = 0
event_of (Err e) = e.event

event_is : (a b : ℕ) → refusal a not_derived ≡ refusal b not_derived → a ≡ b
event_is a b h = ap event_of h

-- under wider limits what is refused is refused there, or a limit was passed no later
refused_so : (Same : Type 0) (from to : ℕ) (limits : Bounds) (event : ℕ) (r s : Result Run Refusal) → s ≡ Err (unmatched_at event) → ListAgain Same same_start from to limits r s → IsRefused event r
refused_so Same from to limits event (Ok r) s is k = ok_err k.0 event (sym k.1 ∙ is)
refused_so Same from to limits event (Err e) s is k = by_why e.event e.why k
  where
    by_why : (at : ℕ) (why : Refused) → RefusedAgain Same same_start at why s → RefusesAt event at why
    by_why at not_derived same = event_is at event (sym same ∙ is)
    by_why at (limit kind meter) le = subst (λ (z : Result Run Refusal). Later at z) is le.0

pub unmatched_is_refused : UnmatchedIsRefused
unmatched_is_refused g bits limits es event unmatched =
    let apart = unmatched.0 in
    let wider = wider_of apart limits in
    let there = unmatched_again g 0 0 apart wider es (first_wider apart limits) event unmatched.1 in
    refused_so (wider ≡ limits) bits 0 wider event (body g bits limits es) (body g 0 wider es) there (body_again g bits 0 limits wider es (second_wider apart limits))

pub refused_derives_not : RefusedDerivesNot
refused_derives_not g bits limits es event is derives =
    subst (λ (z : Result Run Refusal). IsRefused event z) derives.2 (unmatched_is_refused g 0 derives.0 es event (refused_is_unmatched g bits limits es event is))

-- what is no refusal for want of a production is written, or a limit is passed
written_or_limited : (s : Result Run Refusal) → ((event : ℕ) → s ≡ Err (unmatched_at event) → ⊥) → (is_written s ≡ true) ⊎ (passes_limit s ≡ true)
written_or_limited (Ok r) never = inl refl
written_or_limited (Err e) never = by_why e.event e.why never
  where
    by_why : (at : ℕ) (why : Refused) → ((event : ℕ) → refusal at why ≡ refusal event not_derived → ⊥) → (false ≡ true) ⊎ (is_limit why ≡ true)
    by_why at not_derived settled = absurd (settled at refl)
    by_why at (limit kind meter) settled = inr refl

pub derived_is_written : DerivedIsWritten
derived_is_written g bits limits es derives = written_or_limited (body g bits limits es) (λ event is. refused_derives_not g bits limits es event is derives)

is_written_parts : (s : Result Run Refusal) → is_written s ≡ true → ((r : Run) × (s ≡ Ok r)) × (passes_limit s ≡ false)
is_written_parts (Ok r) h = ((r, refl), refl)
is_written_parts (Err e) h = absurd cc

first_one : (a b : Bool) → (a ≡ true) ⊎ (b ≡ true) → b ≡ false → a ≡ true
first_one a b (inl h) settled = h
first_one a b (inr h) settled = absurd (let f = sym h ∙ settled in cc)

pub written_exactly : WrittenExactly
written_exactly g bits limits es = (
  λ h. let k = is_written_parts (body g bits limits es) h in (written_derives g bits limits es k.0.0 k.0.1, k.1),
  λ k. first_one (is_written (body g bits limits es)) (passes_limit (body g bits limits es)) (derived_is_written g bits limits es k.0) k.1,
)

no_limits : Bounds
no_limits = record { events = 0; text = 0; depth = 0 }

-- by limits that are not passed it shows
by_body : (g : Setting) (es : List Happening) (limits : Bounds) (s : Result Run Refusal) → body g 0 limits es ≡ s → passes_limit s ≡ false → Derives g es ⊎ ((event : ℕ) × Unmatched g es event)
by_body g es limits (Ok r) is settled = inl (limits, r, is)
by_body g es limits (Err e) is settled = by_why e.event e.why is settled
  where
    by_why : (at : ℕ) (why : Refused) → body g 0 limits es ≡ Err (record { event = at; why = why }) → is_limit why ≡ false → Derives g es ⊎ ((event : ℕ) × Unmatched g es event)
    by_why at not_derived same settled = inr (at, (limits, same))
    by_why at (limit kind meter) same settled = absurd cc

pub derived_or_unmatched : DerivedOrUnmatched
derived_or_unmatched g es = let k = body_enough g 0 no_limits es in by_body g es k.0 (body g 0 k.0 es) refl k.2

pub never_both : NeverBoth
never_both g es event derives unmatched = refused_derives_not g 0 unmatched.0 es event unmatched.1 derives

pub one_unmatched : OneUnmatched
one_unmatched g es event other unmatched second = sym (subst (λ (z : Result Run Refusal). IsRefused event z) second.1 (unmatched_is_refused g 0 second.0 es event unmatched))

goes_on : (event : ℕ) (s : Result Run Refusal) → Later event s → passes_limit s ≡ false → GoesOn event s
goes_on event (Ok r) le settled = tt
goes_on event (Err e) le settled = by_why e.event e.why le settled
  where
    by_why : (at : ℕ) (why : Refused) → event ≤ at → is_limit why ≡ false → RefusesFrom event at why
    by_why at not_derived le settled = le
    by_why at (limit kind meter) le settled = absurd cc

later_again : (Same : Type 0) (event : ℕ) (why : Refused) (s : Result Run Refusal) → is_limit why ≡ true → RefusedAgain Same same_start event why s → Later event s
later_again Same event not_derived s is k = absurd cc
later_again Same event (limit kind meter) s is k = k.0

pub limited_goes_on : LimitedGoesOn
limited_goes_on g bits limits es e is passed =
    let k = body_enough g bits limits es in
    let there = again_by (k.0 ≡ limits) bits bits k.0 (body g bits limits es) (Err e) is (body g bits k.0 es) (body_again g bits bits limits k.0 es k.1) in
    (k.0, k.1, goes_on e.event (body g bits k.0 es) (later_again (k.0 ≡ limits) e.event e.why (body g bits k.0 es) passed there) k.2)

pub wider_writes_the_same : WiderWritesTheSame
wider_writes_the_same g bits limits wider es r room is =
    let k = written_again g bits bits limits wider es room r is in
    let same = k.2.same refl in
    (k.0, k.1, record { bits = same.bits_are; events = same.event })

-- ---- within the same limits
pub bits_write_again : BitsWriteAgain
bits_write_again g bits others limits es r is = let k = written_again g bits others limits limits es (no_wider limits) r is in (k.0, k.1)

refused_again : (Same : Type 0) (event : ℕ) (why : Refused) (s : Result Run Refusal) → Same → RefusedAgain Same same_start event why s → s ≡ refusal event why
refused_again Same event not_derived s same is = is
refused_again Same event (limit kind meter) s same k = k.1 same

pub bits_refuse_the_same : BitsRefuseTheSame
bits_refuse_the_same g bits others limits es e is =
    refused_again (limits ≡ limits) e.event e.why (body g others limits es) refl (again_by (limits ≡ limits) bits others limits (body g bits limits es) (Err e) is (body g others limits es) (body_again g bits others limits limits es (no_wider limits)))
