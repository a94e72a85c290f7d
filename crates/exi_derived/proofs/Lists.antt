-- Events one after another, and a list to its end, written again at another place, under limits that are no narrower, and where
-- writing may have begun elsewhere.
use Rattle.std.proofs.Common.{◌≡◌, ◌≤◌, ℕ, suc, Bool, true, false, List, [], ◌∷◌, ◌++◌, Option, Some, None, refl, sym, ap, ◌∙◌, subst, arith}
use Rattle.std.specs.Prelude.{Result, Ok, Err, if◌then◌else◌}
use Rattle.exi_meter.specs.Metering.{Bounds}
use Rattle.exi_names.specs.Events.{Happening}
use Rattle.exi_processing.specs.Configurations.{Config, Setting}
use Rattle.exi_processing.specs.Runs.{has_ended}
use Rattle.exi_processing.specs.declared.start.Start.{Start}
use Rattle.exi_writing.specs.OneEvent.{Refused, Written, ◌>>=◌, limit, not_derived, written}
use Rattle.exi_writing.specs.Pruned.{pruned}
use Rattle.exi_writing.specs.Runs.{Refusal, Run, behind_run, go_on, in_front, nothing_from, own, put, put_from, put_then, then_run, written_all}
use Rattle.exi_derived.specs.Laws.{unmatched_at}
use Rattle.exi_derived.proofs.OneEvent.{Again, Fits, Kept, KeptOne, again_then, one_again}
use Rattle.exi_derived.proofs.Places.{shifted}

-- ---- a list that is refused
-- it is refused at this event or behind it, if it is
abbrev pub Later : ℕ → Result Run Refusal → Type 0
Later n (Ok r) = Unit {0}
Later n (Err e) = n ≤ e.event

-- an event is refused at its number, and the others behind it
later_still : (n : ℕ) (s : Result Run Refusal) → Later (suc n) s → Later n s
later_still n (Ok r) le = tt
later_still n (Err e) le = omega (arith, le)

later_behind : (n : ℕ) (r : Run) (s : Result Run Refusal) → Later n s → Later n (behind_run r s)
later_behind n r (Ok t) le = tt
later_behind n r (Err e) le = le

later_on : (n : ℕ) (r : Result Run Refused) (others : Config → Result Run Refusal) → ((c : Config) → Later (suc n) (others c)) → Later n (go_on n r others)
later_on n (Ok r) others more = later_behind n r (others r.last) (later_still n (others r.last) (more r.last))
later_on n (Err why) others more = omega arith

later_then : (n : ℕ) (g : Setting) (c : Config) (o : Option Happening) (others : Config → Result Run Refusal) → ((d : Config) → Later (suc n) (others d)) → Later n (put_then n g c o others)
later_then n g c None others more = later_still n (others c) (more c)
later_then n g c (Some e) others more = later_on n (put g c e) others more

later_ended : (n : ℕ) (c : Config) (ended : Bool) → Later n (if ended then Ok (nothing_from c) else Err (unmatched_at n))
later_ended n c true = tt
later_ended n c false = omega arith

pub from_later : (es : List Happening) (n : ℕ) (g : Setting) (c : Config) → Later n (put_from n g c es)
from_later [] n g c = later_ended n c (has_ended c)
from_later (e ∷ es) n g c = later_then n g c (pruned g.options e) (λ d. put_from (suc n) g d es) (λ d. from_later es (suc n) g d)

-- whether the limits are the same is for whoever says so
module _ (Same : Type 0) (begun : Start → Start) where
  abbrev pub KeptRun : ℕ → ℕ → Bounds → Run → Run → Type 0
  KeptRun from to limits r s = Kept Same begun from to limits r.bits s.bits r.events s.events r.last s.last

  -- ---- several events
  nothing_kept : (c : Config) (to : ℕ) (limits : Bounds) → Fits Same begun c.meter.limits limits → KeptRun c.place to limits (nothing_from c) (nothing_from (shifted begun to limits c))
  nothing_kept c to limits room = record { place = to; next = refl; room = room; same = λ is. record { bits_are = refl; event = refl; place_is = is }; whole = λ is. record { bits_are = refl; apart = is } }

  front_kept : (from to : ℕ) (limits : Bounds) (w v : Written) (r s : Run) (k : KeptOne Same begun from to limits w v) → KeptRun w.given.1.place k.place limits r s → KeptRun from to limits (in_front w r) (in_front v s)
  front_kept from to limits w v r s k l = record {
    place = l.place;
    next = l.next;
    room = l.room;
    same = λ is.
        let a = k.same is in
        let b = l.same a.place_is in
        record { bits_are = ap (λ (x : List Bool). x ++ s.bits) a.bits_are ∙ ap (λ (x : List Bool). w.bits ++ x) b.bits_are; event = ap (λ (x : Option Happening). x ∷ s.events) a.event ∙ ap (λ (x : List (Option Happening)). w.given.0 ∷ x) b.event; place_is = b.place_is };
    whole = λ is.
        let a = k.whole is in
        let b = l.whole a.apart in
        record { bits_are = ap (λ (x : List Bool). x ++ s.bits) a.bits_are ∙ ap (λ (x : List Bool). w.bits ++ x) b.bits_are; apart = b.apart };
  }

  then_again : (from to : ℕ) (limits : Bounds) (w v : Written) (k : KeptOne Same begun from to limits w v) (r s : Result Run Refused) → Again Same begun (KeptRun w.given.1.place k.place limits) r s → Again Same begun (KeptRun from to limits) (then_run w r) (then_run v s)
  then_again from to limits w v k (Ok r) s l = (in_front v l.0, ap (then_run v) l.1, front_kept from to limits w v r l.0 k l.2)
  then_again from to limits w v k (Err not_derived) s is = ap (then_run v) is
  then_again from to limits w v k (Err (limit kind m)) s is = λ same. ap (then_run v) (is same)

  -- what is written behind an event, of a configuration
  abbrev pub GoesAgain : (Config → Result Run Refused) → Type 0
  GoesAgain f = (c : Config) (to : ℕ) (limits : Bounds) → Fits Same begun c.meter.limits limits → Again Same begun (KeptRun c.place to limits) (f c) (f (shifted begun to limits c))

  pub event_then : (g : Setting) (e : Happening) (f : Config → Result Run Refused) → GoesAgain f → GoesAgain (λ c. written g c e >>= (λ w. then_run w (f w.given.1)))
  event_then g e f more c to limits room =
      again_then Same begun (KeptOne Same begun c.place to limits) (KeptRun c.place to limits) (written g c e) (written g (shifted begun to limits c) e) (λ w. then_run w (f w.given.1)) (λ w. then_run w (f w.given.1)) (one_again Same begun g c e to limits room)
      (λ w v k. then_again c.place to limits w v k (f w.given.1) (f v.given.1) (subst (λ (d : Config). Again Same begun (KeptRun w.given.1.place k.place limits) (f w.given.1) (f d)) (sym k.next) (more w.given.1 k.place limits k.room)))

  pub all_again : (g : Setting) (es : List Happening) → GoesAgain (λ c. written_all g c es)
  all_again g [] c to limits room = (nothing_from (shifted begun to limits c), refl, nothing_kept c to limits room)
  all_again g (e ∷ es) c to limits room = event_then g e (λ d. written_all g d es) (all_again g es) c to limits room

  own_again : (g : Setting) → GoesAgain (λ c. written_all g c (own c))
  own_again g c to limits room = all_again g (own c) c to limits room

  pub put_again : (g : Setting) (e : Happening) → GoesAgain (λ c. put g c e)
  unfolding put
  put_again g e c to limits room = event_then g e (λ d. written_all g d (own d)) (own_again g) c to limits room

  -- ---- a list
  abbrev pub RefusedAgain : ℕ → Refused → Result Run Refusal → Type 0
  RefusedAgain n not_derived s = s ≡ Err (unmatched_at n)
  RefusedAgain n (limit k m) s = Later n s × (Same → s ≡ Err (record { event = n; why = limit k m }))

  abbrev pub ListAgain : ℕ → ℕ → Bounds → Result Run Refusal → Result Run Refusal → Type 0
  ListAgain from to limits (Ok r) s = (t : Run) × (s ≡ Ok t) × KeptRun from to limits r t
  ListAgain from to limits (Err e) s = RefusedAgain e.event e.why s

  -- an event in front of others
  run_kept : (from to : ℕ) (limits : Bounds) (r s t u : Run) (k : KeptRun from to limits r s) → KeptRun r.last.place k.place limits t u
      → KeptRun from to limits (record { bits = r.bits ++ t.bits; events = r.events ++ t.events; last = t.last }) (record { bits = s.bits ++ u.bits; events = s.events ++ u.events; last = u.last })
  run_kept from to limits r s t u k l = record {
    place = l.place;
    next = l.next;
    room = l.room;
    same = λ is.
        let a = k.same is in
        let b = l.same a.place_is in
        record { bits_are = ap (λ (x : List Bool). x ++ u.bits) a.bits_are ∙ ap (λ (x : List Bool). r.bits ++ x) b.bits_are; event = ap (λ (x : List (Option Happening)). x ++ u.events) a.event ∙ ap (λ (x : List (Option Happening)). r.events ++ x) b.event; place_is = b.place_is };
    whole = λ is.
        let a = k.whole is in
        let b = l.whole a.apart in
        record { bits_are = ap (λ (x : List Bool). x ++ u.bits) a.bits_are ∙ ap (λ (x : List Bool). r.bits ++ x) b.bits_are; apart = b.apart };
  }

  refused_behind : (n : ℕ) (why : Refused) (r s : Run) (o : Result Run Refusal) → RefusedAgain n why o → RefusedAgain n why (behind_run s o)
  refused_behind n not_derived r s o is = ap (behind_run s) is
  refused_behind n (limit k m) r s o is = (later_behind n s o is.0, λ same. ap (behind_run s) (is.1 same))

  behind_again : (from to : ℕ) (limits : Bounds) (r s : Run) (k : KeptRun from to limits r s) (o p : Result Run Refusal) → ListAgain r.last.place k.place limits o p → ListAgain from to limits (behind_run r o) (behind_run s p)
  behind_again from to limits r s k (Ok t) p l = (record { bits = s.bits ++ l.0.bits; events = s.events ++ l.0.events; last = l.0.last }, ap (behind_run s) l.1, run_kept from to limits r s t l.0 k l.2)
  behind_again from to limits r s k (Err e) p is = refused_behind e.event e.why r s p is

  abbrev pub ListsAgain : (Config → Result Run Refusal) → Type 0
  ListsAgain f = (c : Config) (to : ℕ) (limits : Bounds) → Fits Same begun c.meter.limits limits → ListAgain c.place to limits (f c) (f (shifted begun to limits c))

  on_again : (n : ℕ) (others : Config → Result Run Refusal) (from to : ℕ) (limits : Bounds) (r s : Result Run Refused) → ListsAgain others → ((c : Config) → Later (suc n) (others c)) → Again Same begun (KeptRun from to limits) r s → ListAgain from to limits (go_on n r others) (go_on n s others)
  on_again n others from to limits (Ok r) s more later l =
      let t = l.0 in
      let k = l.2 in
      subst (λ (z : Result Run Refused). ListAgain from to limits (behind_run r (others r.last)) (go_on n z others)) (sym l.1)
      (behind_again from to limits r t k (others r.last) (others t.last) (subst (λ (d : Config). ListAgain r.last.place k.place limits (others r.last) (others d)) (sym k.next) (more r.last k.place limits k.room)))
  on_again n others from to limits (Err not_derived) s more later is = ap (λ (z : Result Run Refused). go_on n z others) is
  on_again n others from to limits (Err (limit k m)) s more later is = (later_on n s others later, λ same. ap (λ (z : Result Run Refused). go_on n z others) (is same))

  pub then_lists : (n : ℕ) (g : Setting) (o : Option Happening) (others : Config → Result Run Refusal) → ListsAgain others → ((c : Config) → Later (suc n) (others c)) → ListsAgain (λ c. put_then n g c o others)
  then_lists n g None others more later c to limits room = more c to limits room
  then_lists n g (Some e) others more later c to limits room = on_again n others c.place to limits (put g c e) (put g (shifted begun to limits c) e) more later (put_again g e c to limits room)

  ended_again : (n : ℕ) (c : Config) (to : ℕ) (limits : Bounds) (ended : Bool) → Fits Same begun c.meter.limits limits
      → ListAgain c.place to limits (if ended then Ok (nothing_from c) else Err (unmatched_at n)) (if ended then Ok (nothing_from (shifted begun to limits c)) else Err (unmatched_at n))
  ended_again n c to limits true room = (nothing_from (shifted begun to limits c), refl, nothing_kept c to limits room)
  ended_again n c to limits false room = refl

  pub from_again : (es : List Happening) (n : ℕ) (g : Setting) → ListsAgain (λ c. put_from n g c es)
  from_again [] n g c to limits room = ended_again n c to limits (has_ended c) room
  from_again (e ∷ es) n g c to limits room = then_lists n g (pruned g.options e) (λ d. put_from (suc n) g d es) (from_again es (suc n) g) (λ d. from_later es (suc n) g d) c to limits room
