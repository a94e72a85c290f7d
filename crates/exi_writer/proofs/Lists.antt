-- A whole list, event by event.
use Rattle.std.proofs.Common.{◌≡◌, ℕ, zero, suc, ◌+◌, ◌<◌, get_or, Bool, true, false, cond, drop, List, [], ◌∷◌, ◌++◌, length, map, Option, Some, None, refl, sym, ap, ◌∙◌, subst, append_assoc, append-nil, arith}
use Rattle.std.specs.Prelude.{◌≤◌, Result, Ok, Err, IsSome, is_some}
use Rattle.exi_meter.specs.Metering.{Bounds}
use Rattle.exi_names.specs.Events.{Happening}
use Rattle.exi_pen.specs.Steps.{begins_fragment}
use Rattle.exi_processing.specs.Configurations.{Config, Setting}
use Rattle.exi_processing.specs.Runs.{has_ended}
use Rattle.exi_toll.specs.declared.stop.PutStop.{PutStop}
use Rattle.exi_toll.specs.declared.stop.PutStop.TheVariants as stop
use Rattle.exi_writing.specs.OneEvent.{Refused, Written, ◌>>=◌, limit, not_derived, written}
use Rattle.exi_writing.specs.Pruned.{pruned}
use Rattle.exi_writing.specs.Runs.{Refusal, Run, behind_run, body, go_on, in_front, nothing_from, own, put, put_from, put_then, then_run, written_all}
use Rattle.exi_writing.proofs.OneEvent.{bind_parts}
use Rattle.exi_writer.proofs.Composed.{then_parts}
use Rattle.exi_writer.proofs.Putting.{no_wait, put_behind, put_refused}
use Rattle.exi_writer.specs.Writing.{Answers, Begins, Bodies, Composes, Composing, Listing, MayGoOn, MayTake, MayTakeBy, PutsOne, PutsWhole, Takes, composed_behind, fault_of, first_composing, steps_of}
use Rattle.exi_writer.specs.declared.fault.WriteFault.{WriteFault}
use Rattle.exi_writer.specs.declared.fault.WriteFault.TheVariants as fault

-- ---- an event, and the fragment that it begins
abbrev refused_run : Refused → Result Run Refused
refused_run why = Err why

abbrev given_run : Run → Result Run Refused
given_run r = Ok r

refused_is : (a b : Refused) → refused_run a ≡ refused_run b → a ≡ b
refused_is a b e = cc

run_is : (a b : Run) → given_run a ≡ given_run b → a ≡ b
run_is a b e = cc

refused_one : (g : Setting) (c : Config) (e : Happening) (why : Refused) (o : Result Written Refused) → written g c e ≡ o → (o >>= (λ w. then_run w (written_all g w.given.1 []))) ≡ Err why → put g c e ≡ Err why
refused_one g c e why (Err other) is h = put_refused g c e why (is ∙ ap (λ (z : Refused). Err z) (refused_is other why h))
refused_one g c e why (Ok v) is h = absurd cc

whole_refused : (g : Setting) (c : Config) (e : Happening) (why : Refused) (b : Bool) → cond b (written_all g c (e ∷ [])) (put g c e) ≡ Err why → put g c e ≡ Err why
whole_refused g c e why true h = refused_one g c e why (written g c e) refl h
whole_refused g c e why false h = h

pub wholes_stop : (s : PutStop) (old new : Composing) (o : Option Happening) → PutsOne (Err s) old new o → PutsWhole (Err s) old new o
wholes_stop s old new None h = absurd (let k = h.0 in cc)
wholes_stop stop.NotDerived old new (Some e) h = whole_refused old.setting old.config e not_derived (begins_fragment e) h.0
wholes_stop (stop.Limit k) old new (Some e) h = whole_refused old.setting old.config e (limit k new.config.meter) (begins_fragment e) h.0
wholes_stop stop.Memory old new (Some e) h = tt

record IsFragment (old mid : Composing) (e : Happening) : Type 0 where
  event : Written
  is : written old.setting old.config e ≡ Ok event
  setting : mid.setting ≡ old.setting
  bits : mid.bits ≡ old.bits ++ event.bits
  config : mid.config ≡ event.given.1

fragment_is : (old mid : Composing) (e : Happening) (b : Bool) → b ≡ true → (r : Run) × (cond b (written_all old.setting old.config (e ∷ [])) (put old.setting old.config e) ≡ Ok r) × (mid ≡ composed_behind old r b) → IsFragment old mid e
fragment_is old mid e false is h = no_wait (sym is)
fragment_is old mid e true is h =
    let a = bind_parts (written old.setting old.config e) _ h.0 h.1 in
    let t = then_parts a.0 (Ok (nothing_from a.0.given.1)) h.0 a.2 in
    let nothing : nothing_from a.0.given.1 ≡ t.0 = run_is (nothing_from a.0.given.1) t.0 t.1 in
    record {
      event = a.0;
      is = a.1;
      setting = ap (λ (z : Composing). z.setting) h.2;
      bits = ap (λ (z : Composing). z.bits) h.2 ∙ (ap (λ (z : Run). old.bits ++ z.bits) t.2 ∙ (ap (λ (z : Run). old.bits ++ (a.0.bits ++ z.bits)) (sym nothing) ∙ ap (λ (z : List Bool). old.bits ++ z) (append-nil a.0.bits)));
      config = ap (λ (z : Composing). z.config) h.2 ∙ (ap (λ (z : Run). z.last) t.2 ∙ ap (λ (z : Run). z.last) (sym nothing));
    }

own_runs : (old mid : Composing) (e : Happening) (k : IsFragment old mid e) → written_all mid.setting mid.config (own mid.config) ≡ written_all old.setting k.event.given.1 (own k.event.given.1)
own_runs old mid e k = rw (k.setting, k.config) refl

enters_whole : (res : Result (Unit {0}) PutStop) (old mid new : Composing) (e : Happening) (k : IsFragment old mid e) → Composes res mid new false (written_all mid.setting mid.config (own mid.config)) → Composes res old new false (put old.setting old.config e)
enters_whole (Ok x) old mid new e k h = (
  in_front k.event h.0,
  put_behind old.setting old.config e k.event (Ok h.0) k.is (sym (own_runs old mid e k) ∙ h.1),
  h.2 ∙ (ap (λ (g : Setting). record { setting = g; bits = mid.bits ++ h.0.bits; config = h.0.last; waits = false }) k.setting ∙ ap (λ (z : List Bool). record { setting = old.setting; bits = z; config = h.0.last; waits = false }) (ap (λ (z : List Bool). z ++ h.0.bits) k.bits ∙ append_assoc old.bits k.event.bits h.0.bits)),
)
enters_whole (Err stop.NotDerived) old mid new e k h = put_behind old.setting old.config e k.event (Err not_derived) k.is (sym (own_runs old mid e k) ∙ h)
enters_whole (Err (stop.Limit kind)) old mid new e k h = put_behind old.setting old.config e k.event (Err (limit kind new.config.meter)) k.is (sym (own_runs old mid e k) ∙ h)
enters_whole (Err stop.Memory) old mid new e k h = tt

pub wholes_entered : (res : Result (Unit {0}) PutStop) (old mid new : Composing) (o : Option Happening) → PutsOne (Ok true) old mid o → Composes res mid new false (written_all mid.setting mid.config (own mid.config)) → PutsWhole res old new o
wholes_entered res old mid new None h k = absurd (let f = h.0 in cc)
wholes_entered res old mid new (Some e) h k = enters_whole res old mid new e (fragment_is old mid e (begins_fragment e) (sym h.1) h.0) k

pub put_entered : (x : Bool) (res : Result (Unit {0}) PutStop) (old mid new : Composing) (o : Option Happening) → x ≡ true → PutsOne (Ok x) old mid o → Composes res mid new false (written_all mid.setting mid.config (own mid.config)) → PutsWhole res old new o
put_entered true res old mid new o e h k = wholes_entered res old mid new o h k
put_entered false res old mid new o e h k = no_wait (sym e)

-- ---- one event more
-- what is answered behind a run is answered of the run and of what is behind it
behind_bits : (answer : Result (List Bool) WriteFault) (head : List Bool) (r : Run) (o : Result Run Refusal) → Bodies answer (head ++ r.bits) o → Bodies answer head (behind_run r o)
behind_bits (Ok out) head r o (s, is, e) = (record { bits = r.bits ++ s.bits; events = r.events ++ s.events; last = s.last }, ap (behind_run r) is, e ∙ append_assoc head r.bits s.bits)
behind_bits (Err (fault.NotDerived n)) head r o is = ap (behind_run r) is
behind_bits (Err (fault.Limit n k)) head r o (m, is) = (m, ap (behind_run r) is)
behind_bits (Err fault.Memory) head r o is = tt

put_on : (w v : Composing) (n : ℕ) (o : Option Happening) → PutsWhole (Ok tt) w v o → (es : List Happening) (answer : Result (List Bool) WriteFault) → Bodies answer v.bits (put_from (suc n) v.setting v.config es) → Bodies answer w.bits (put_then n w.setting w.config o (λ d. put_from (suc n) w.setting d es))
put_on w v n None h es answer k = subst (λ (z : Composing). Bodies answer z.bits (put_from (suc n) z.setting z.config es)) h.1 k
put_on w v n (Some e) h es answer k =
    let r = h.0 in
    let there : Bodies answer (w.bits ++ r.bits) (put_from (suc n) w.setting r.last es) = subst (λ (z : Composing). Bodies answer z.bits (put_from (suc n) z.setting z.config es)) h.2 k in
    subst (λ (z : Result Run Refused). Bodies answer w.bits (go_on n z (λ d. put_from (suc n) w.setting d es))) (sym h.1) (behind_bits answer w.bits r (put_from (suc n) w.setting r.last es) there)

none_refused : (f : Option WriteFault) → false ≡ is_some f → f ≡ None
none_refused None h = refl
none_refused (Some why) h = absurd cc

pub takes_one : (old : Listing) (w v : Composing) (n m : ℕ) (f : Option WriteFault) (e : Happening) → record { written = w; number = n; refused = f } ≡ old → false ≡ is_some f → m ≡ suc n → PutsWhole (Ok tt) w v (pruned w.setting.options e) → Takes old e (record { written = v; number = m; refused = f })
takes_one old w v n m f e is none up h =
    let bare : f ≡ None = none_refused f none in
    subst (λ (l : Listing). Takes l e (record { written = v; number = m; refused = f })) is (rw (bare, up) record { behind = put_on w v n (pruned w.setting.options e) h })

-- ---- where it stops
refused_on : (st : PutStop) (w v : Composing) (n : ℕ) (o : Option Happening) (others : Config → Result Run Refusal) → PutsWhole (Err st) w v o → Bodies (Err (fault_of n st)) w.bits (put_then n w.setting w.config o others)
refused_on st w v n None others h = absurd (let k = h.0 in cc)
refused_on stop.NotDerived w v n (Some e) others h = ap (λ (z : Result Run Refused). go_on n z others) h
refused_on (stop.Limit k) w v n (Some e) others h = (v.config.meter, ap (λ (z : Result Run Refused). go_on n z others) h)
refused_on stop.Memory w v n (Some e) others h = tt

pub takes_refused : (st : PutStop) (old : Listing) (w v : Composing) (n : ℕ) (f : Option WriteFault) (e : Happening) (why : WriteFault) → record { written = w; number = n; refused = f } ≡ old → false ≡ is_some f → why ≡ fault_of n st → PutsWhole (Err st) w v (pruned w.setting.options e) → Takes old e (record { written = v; number = n; refused = Some why })
takes_refused st old w v n f e why is none stands h =
    let bare : f ≡ None = none_refused f none in
    subst (λ (l : Listing). Takes l e (record { written = v; number = n; refused = Some why })) is (rw (bare, stands) record {
      behind = λ es answer k. subst (λ (z : Result (List Bool) WriteFault). Bodies z w.bits (put_from n w.setting w.config (e ∷ es))) (sym k) (refused_on st w v n (pruned w.setting.options e) (λ d. put_from (suc n) w.setting d es) h);
    })

still : (w : Composing) (n : ℕ) (f : Option WriteFault) (e : Happening) → true ≡ is_some f → Takes (record { written = w; number = n; refused = f }) e (record { written = w; number = n; refused = f })
still w n None e some = absurd cc
still w n (Some why) e some = record { behind = λ es answer k. k }

pub takes_still : (old : Listing) (w : Composing) (n : ℕ) (f : Option WriteFault) (e : Happening) → record { written = w; number = n; refused = f } ≡ old → true ≡ is_some f → Takes old e old
takes_still old w n f e is some = subst (λ (l : Listing). Takes l e l) is (still w n f e some)

-- where none was refused, nothing is told of what is behind one that was
pub none_before : (old new : Listing) (w : Composing) (n : ℕ) (f : Option WriteFault) → record { written = w; number = n; refused = f } ≡ old → false ≡ is_some f → IsSome old.refused → new ≡ old
none_before old new w n f is none some = no_wait (sym some ∙ (ap (λ (l : Listing). is_some l.refused) (sym is) ∙ sym none))

pub may_here : (old : Listing) (w : Composing) (n : ℕ) (f : Option WriteFault) → record { written = w; number = n; refused = f } ≡ old → false ≡ is_some f → MayTake old → (w.waits ≡ false) × MayGoOn w
may_here old w n f is none k = subst (λ (z : Option WriteFault). MayTakeBy z w) (none_refused f none) (subst MayTake (sym is) k)

pub may_on : (w : Composing) (f : Option WriteFault) → w.waits ≡ false → MayGoOn w → MayTakeBy f w
may_on w None waits may = (waits, may)
may_on w (Some why) waits may = tt

pub one_step : (o : Option Happening) → steps_of o ≤ 1
one_step None = omega arith
one_step (Some e) = omega arith

-- ---- first and last
pub begins_first : (head : List Bool) (g : Setting) (limits : Bounds) (w : Composing) → w ≡ first_composing g limits head → Begins head g limits (record { written = w; number = 1; refused = None })
unfolding body
begins_first head g limits w is = rw is record { whole = λ es answer k. k }

pub ends_done : (l : Listing) (w : Composing) (n : ℕ) (f : Option WriteFault) (out : List Bool) → record { written = w; number = n; refused = f } ≡ l → f ≡ None → has_ended w.config ≡ true → out ≡ w.bits → Answers (Ok out) l []
ends_done l w n f out is none ended same = subst (λ (z : Listing). Answers (Ok out) z []) is (rw none (nothing_from w.config, rw ended refl, same ∙ sym (append-nil w.bits)))

-- ---- so many events of a list are taken
pub record SoFar (g : Setting) (limits : Bounds) (head : List Bool) (all : List Happening) (n : ℕ) (l : Listing) : Type 0 where
  pub rest : (answer : Result (List Bool) WriteFault) → Answers answer l (drop n all) → Bodies answer head (body g (length head) limits all)
  pub going : MayTake l
  pub few : l.number ≤ n + 1

pub so_far_first : (g : Setting) (limits : Bounds) (head : List Bool) (all : List Happening) (l : Listing) → Begins head g limits l → MayTake l → l.number ≡ 1 → SoFar g limits head all 0 l
so_far_first g limits head all l begins going one = record { rest = begins.whole all; going = going; few = omega (arith, one) }

event_at : {X : Type 0} (f : X → Happening) (xs : List X) (n : ℕ) (x : X) → n < length xs → x ≡ get_or xs n x → drop n (map f xs) ≡ f x ∷ drop (suc n) (map f xs)
event_at {X} f [] n x within is = absurd (omega (arith, within))
event_at {X} f (y ∷ xs) zero x within is = ap (λ (z : X). f z ∷ map f xs) (sym is)
event_at {X} f (y ∷ xs) (suc n) x within is = event_at f xs n x (omega (arith, within)) is

none_at : {X : Type 0} (f : X → Happening) (xs : List X) (n : ℕ) → n ≡ length xs → drop n (map f xs) ≡ []
none_at {X} f xs n e = ap (λ (i : ℕ). drop i (map f xs)) e ∙ none_left xs
  where
    none_left : (ys : List X) → drop (length ys) (map f ys) ≡ []
    none_left [] = refl
    none_left (y ∷ ys) = none_left ys

pub so_far_more : {X : Type 0} (f : X → Happening) (g : Setting) (limits : Bounds) (head : List Bool) (xs : List X) (n m : ℕ) (l k : Listing) (x : X) → SoFar g limits head (map f xs) n l → n < length xs → x ≡ get_or xs n x → m ≡ suc n → Takes l (f x) k → MayTake k → k.number ≤ l.number + 1 → SoFar g limits head (map f xs) m k
so_far_more {X} f g limits head xs n m l k x s within is up takes going count =
    rw up record {
      rest = λ answer h. s.rest answer (subst (λ (es : List Happening). Answers answer l es) (sym (event_at f xs n x within is)) (takes.behind (drop (suc n) (map f xs)) answer h));
      going = going;
      few = (let few = s.few in omega (arith, few, count));
    }

pub so_far_all : {X : Type 0} (f : X → Happening) (g : Setting) (limits : Bounds) (head : List Bool) (xs : List X) (n : ℕ) (l : Listing) (answer : Result (List Bool) WriteFault) → SoFar g limits head (map f xs) n l → n ≡ length xs → Answers answer l [] → Bodies answer head (body g (length head) limits (map f xs))
so_far_all {X} f g limits head xs n l answer s last h = s.rest answer (subst (λ (es : List Happening). Answers answer l es) (sym (none_at f xs n last)) h)
