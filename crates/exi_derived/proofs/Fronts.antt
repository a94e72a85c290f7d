-- The events before the one that is refused, and those behind it.
use Rattle.std.proofs.Common.{◌≡◌, ◌+◌, ◌<◌, ◌≤◌, inl, inr, ℕ, suc, Bool, true, false, List, [], ◌∷◌, ◌++◌, length, Option, Some, None, refl, ap, ◌∙◌, subst, arith}
use Rattle.std.specs.Prelude.{Result, Ok, Err, if◌then◌else◌}
use Rattle.exi_meter.specs.Metering.{Bounds}
use Rattle.exi_names.specs.Events.{Happening}
use Rattle.exi_processing.specs.Configurations.{Config, Setting, first_config}
use Rattle.exi_processing.specs.Runs.{has_ended}
use Rattle.exi_processing.specs.declared.start.Start.TheVariants as start
use Rattle.exi_writing.specs.OneEvent.{Refused}
use Rattle.exi_writing.specs.Pruned.{pruned}
use Rattle.exi_writing.specs.Runs.{Refusal, Run, behind_run, body, go_on, nothing_from, put, put_from, put_then}
use Rattle.exi_derived.specs.Laws.{FrontIsMatched, IsMatched, RefusedIsNumbered, RefusedWhateverFollows, is_limit, unmatched_at}
use Rattle.exi_derived.proofs.Bodies.{refused_is_unmatched, written_derives}
use Rattle.exi_derived.proofs.Lists.{Later, from_later}

abbrev refused : Refusal → Result Run Refusal
refused e = Err e

abbrev event_of : Result Run Refusal → ℕ
event_of (Ok r) = 0
event_of (Err e) = e.event

behind_refused : (r : Run) (s : Result Run Refusal) (e : Refusal) → behind_run r s ≡ refused e → s ≡ refused e
behind_refused r (Ok t) e h = absurd cc
behind_refused r (Err x) e h = h

-- ---- before it
-- a list is written, or refused at this number for want of a production
abbrev EndsAt : ℕ → Result Run Refusal → Type 0
EndsAt n (Ok r) = Unit {0}
EndsAt n (Err e) = e ≡ unmatched_at n

behind_ends : (n : ℕ) (r : Run) (s : Result Run Refusal) → EndsAt n s → EndsAt n (behind_run r s)
behind_ends n r (Ok t) k = tt
behind_ends n r (Err e) k = k

ended_at : (n m : ℕ) (c : Config) (ended : Bool) → n ≡ m → EndsAt m (if ended then Ok (nothing_from c) else Err (unmatched_at n))
ended_at n m c true is = tt
ended_at n m c false is = ap unmatched_at is

on_front : (n k : ℕ) (r : Result Run Refused) (others fewer : Config → Result Run Refusal) (e : Refusal) → go_on n r others ≡ refused e → n < e.event → ((c : Config) → others c ≡ refused e → EndsAt k (fewer c)) → EndsAt k (go_on n r fewer)
on_front n k (Ok r) others fewer e h later more = behind_ends k r (fewer r.last) (more r.last (behind_refused r (others r.last) e h))
on_front n k (Err why) others fewer e h later more = absurd (let same : n ≡ e.event = ap event_of h in omega (arith, same, later))

then_front : (n k : ℕ) (g : Setting) (c : Config) (o : Option Happening) (others fewer : Config → Result Run Refusal) (e : Refusal) → put_then n g c o others ≡ refused e → n < e.event → ((d : Config) → others d ≡ refused e → EndsAt k (fewer d)) → EndsAt k (put_then n g c o fewer)
then_front n k g c None others fewer e h later more = more c h
then_front n k g c (Some x) others fewer e h later more = on_front n k (put g c x) others fewer e h later more

from_front : (front rest : List Happening) (n k : ℕ) (g : Setting) (c : Config) (e : Refusal) → put_from n g c (front ++ rest) ≡ refused e → n + length front ≤ e.event → n + length front ≡ k → EndsAt k (put_from n g c front)
from_front [] rest n k g c e h later is = ended_at n k c (has_ended c) (omega (arith, is))
from_front (x ∷ front) rest n k g c e h later is =
    then_front n k g c (pruned g.options x) (λ d. put_from (suc n) g d (front ++ rest)) (λ d. put_from (suc n) g d front) e h (omega (arith, later))
    (λ d same. from_front front rest (suc n) k g d e same (omega (arith, later)) (omega (arith, is)))

-- ---- behind it
on_whatever : (n : ℕ) (r : Result Run Refused) (others more : Config → Result Run Refusal) (e : Refusal) → go_on n r others ≡ refused e → ((c : Config) → others c ≡ refused e → more c ≡ refused e) → go_on n r more ≡ refused e
on_whatever n (Ok r) others more e h so = ap (behind_run r) (so r.last (behind_refused r (others r.last) e h))
on_whatever n (Err why) others more e h so = h

then_whatever : (n : ℕ) (g : Setting) (c : Config) (o : Option Happening) (others more : Config → Result Run Refusal) (e : Refusal) → put_then n g c o others ≡ refused e → ((d : Config) → others d ≡ refused e → more d ≡ refused e) → put_then n g c o more ≡ refused e
then_whatever n g c None others more e h so = so c h
then_whatever n g c (Some x) others more e h so = on_whatever n (put g c x) others more e h so

refused_later : (n : ℕ) (s : Result Run Refusal) (e : Refusal) → s ≡ refused e → Later n s → n ≤ e.event
refused_later n s e is le = subst (λ (z : Result Run Refusal). Later n z) is le

from_whatever : (front rest others : List Happening) (n : ℕ) (g : Setting) (c : Config) (e : Refusal) → put_from n g c (front ++ rest) ≡ refused e → e.event < n + length front → put_from n g c (front ++ others) ≡ refused e
from_whatever [] rest others n g c e h before = absurd (let le : n ≤ e.event = refused_later n (put_from n g c rest) e h (from_later rest n g c) in omega (arith, before, le))
from_whatever (x ∷ front) rest others n g c e h before =
    then_whatever n g c (pruned g.options x) (λ d. put_from (suc n) g d (front ++ rest)) (λ d. put_from (suc n) g d (front ++ others)) e h
    (λ d same. from_whatever front rest others (suc n) g d e same (omega (arith, before)))

-- ---- its number
record Numbered (n m : ℕ) (e : Refusal) : Type 0 where
  last : e.event ≤ m
  limited : is_limit e.why ≡ true → e.event < m

on_numbered : (n m : ℕ) (r : Result Run Refused) (others : Config → Result Run Refusal) (e : Refusal) → go_on n r others ≡ refused e → n < m → ((c : Config) → others c ≡ refused e → Numbered (suc n) m e) → Numbered n m e
on_numbered n m (Ok r) others e h le more = let k = more r.last (behind_refused r (others r.last) e h) in record { last = k.last; limited = k.limited }
on_numbered n m (Err why) others e h le more =
    let same : n ≡ e.event = ap event_of h in
    record { last = omega (arith, same, le); limited = λ l. omega (arith, same, le) }

then_numbered : (n m : ℕ) (g : Setting) (c : Config) (o : Option Happening) (others : Config → Result Run Refusal) (e : Refusal) → put_then n g c o others ≡ refused e → n < m → ((d : Config) → others d ≡ refused e → Numbered (suc n) m e) → Numbered n m e
then_numbered n m g c None others e h le more = let k = more c h in record { last = k.last; limited = k.limited }
then_numbered n m g c (Some x) others e h le more = on_numbered n m (put g c x) others e h le more

refusal_is : (a b : Refusal) → refused a ≡ refused b → a ≡ b
refusal_is a b h = cc

ended_numbered : (n m : ℕ) (c : Config) (ended : Bool) (e : Refusal) → (if ended then Ok (nothing_from c) else refused (unmatched_at n)) ≡ refused e → n ≤ m → Numbered n m e
ended_numbered n m c true e h le = absurd cc
ended_numbered n m c false e h le = rw (← refusal_is (unmatched_at n) e h) record { last = le; limited = λ l. absurd cc }

from_numbered : (es : List Happening) (n m : ℕ) (g : Setting) (c : Config) (e : Refusal) → put_from n g c es ≡ refused e → n + length es ≡ m → Numbered n m e
from_numbered [] n m g c e h is = ended_numbered n m c (has_ended c) e h (omega (arith, is))
from_numbered (x ∷ es) n m g c e h is = then_numbered n m g c (pruned g.options x) (λ d. put_from (suc n) g d es) e h (omega (arith, is)) (λ d same. from_numbered es (suc n) m g d e same (omega (arith, is)))

-- ---- the laws
pub refused_is_numbered : RefusedIsNumbered
unfolding body
refused_is_numbered g bits limits es e h =
    let c = first_config g bits start.Body limits in
    let k = from_numbered es 1 (1 + length es) g c e h refl in
    record {
      first = refused_later 1 (put_from 1 g c es) e h (from_later es 1 g c);
      last = (let le = k.last in omega (arith, le));
      limited = λ l. (let le = k.limited l in omega (arith, le));
    }

matched_by : (g : Setting) (bits : ℕ) (limits : Bounds) (es : List Happening) (s : Result Run Refusal) → body g bits limits es ≡ s → EndsAt (length es + 1) s → IsMatched g es
matched_by g bits limits es (Ok r) is k = inl (written_derives g bits limits es r is)
matched_by g bits limits es (Err e) is k = inr (refused_is_unmatched g bits limits es (length es + 1) (is ∙ ap refused k))

body_front : (g : Setting) (bits : ℕ) (limits : Bounds) (front rest : List Happening) (e : Refusal) → body g bits limits (front ++ rest) ≡ Err e → length front < e.event → EndsAt (length front + 1) (body g bits limits front)
unfolding body
body_front g bits limits front rest e h later = from_front front rest 1 (length front + 1) g (first_config g bits start.Body limits) e h (omega (arith, later)) (omega arith)

pub front_is_matched : FrontIsMatched
front_is_matched g bits limits front rest e h later = matched_by g bits limits front (body g bits limits front) refl (body_front g bits limits front rest e h later)

pub refused_whatever_follows : RefusedWhateverFollows
unfolding body
refused_whatever_follows g bits limits front rest others e h before = from_whatever front rest others 1 g (first_config g bits start.Body limits) e h (omega (arith, before))
