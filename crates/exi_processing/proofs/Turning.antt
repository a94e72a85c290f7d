-- A turn of a reader, and all of them, in the words of sequential processing.
use Rattle.std.proofs.Common.{◌≡◌, inl, inr, ◌≤◌, ◌^◌, ◌-◌, ℕ, ◌+◌, ◌*◌, Bool, true, false, cond, List, [], ◌∷◌, ◌++◌, length, Option, Some, None, Result, Ok, Err, refl, sym, ap, ◌∙◌, subst, arith}
use Rattle.std.proofs.lemmas.List.{append-nil, length-append}
use Rattle.std.proofs.lemmas.List.Elements.{All-head}
use Rattle.std.specs.Result.{IsErrOf}
use Rattle.exi_bits.specs.Bits.{IsBytes}
use Rattle.exi_bits.specs.declared.fault.Fault.{Fault}
use Rattle.exi_meter.specs.Metering.{Bounds, IsWithinStream}
use Rattle.exi_names.specs.Events.{Happening}
use Rattle.exi_names.specs.Events as event
use Rattle.exi_names.specs.StartTables.{IsStart}
use Rattle.exi_typed.specs.ReadStates.{Failure}
use Rattle.exi_tables.specs.Partitions.{IsName}
use Rattle.exi_processing.specs.Changes.{innermost, put_aside, texts_of}
use Rattle.exi_processing.specs.Configurations.{Body, Config, IsSetting, Setting, first_config}
use Rattle.exi_processing.specs.Handing.{Hands, HandsAny, HandsFragment, IsSteady, Standing, fragment_in, listed, push_halt}
use Rattle.exi_processing.specs.OneEvent.{at_event, moved_limit, one}
use Rattle.exi_processing.specs.Plans.{Given}
use Rattle.exi_processing.specs.Reading.{IsFront, IsReached, Reading, Sequences, Turns, event_of}
use Rattle.exi_processing.specs.Runs.{IsRun, Job, Leads, Turn, closing, ends, events_of, failed_end, first, given_turn, goes, has_ended, turn, turned_by}
use Rattle.exi_names.specs.declared.names.QName.{QName}
use Rattle.exi_names.specs.declared.stops.PushStop.{PushStop}
use Rattle.exi_names.specs.declared.stops.PushStop.TheVariants as push
use Rattle.exi_processing.specs.Splices.{AtFragment}
use Rattle.exi_processing.specs.declared.end.End.{End}
use Rattle.exi_processing.specs.declared.end.End.TheVariants as ending
use Rattle.exi_processing.specs.declared.halt.Halt.TheVariants as halt
use Rattle.exi_processing.specs.declared.start.Start.{Start}
use Rattle.exi_processing.specs.declared.turn.ReadStop.{ReadStop}
use Rattle.exi_processing.specs.declared.turn.ReadStop.TheVariants as stop
use Rattle.exi_processing.specs.declared.turn.Turn.TheVariants as told
use Rattle.exi_processing.proofs.AtFragments.{Deep, at_fragment, led_deep, level_some}
use Rattle.exi_processing.proofs.Sequences.{a_run_is_there, front_of_run}
use Rattle.exi_processing.specs.Sound.{IsSound, IsSoundAside}
use Rattle.exi_processing.proofs.Reached.{reached_are_sound}
use Rattle.exi_processing.proofs.Steady.{few_led, open_name, steady}

-- ---- one turn
abbrev given_by : Option Happening → Config → Result Given Failure
given_by e n = Ok (e, n)

by_end : (bytes : List ℕ) (e : Option Happening) (n : Config) (b : Bool) → has_ended n ≡ b → given_turn bytes (e, n) ≡ cond b (ends e (closing n.start bytes n)) (goes e n)
by_end bytes e n b h = ap (λ (z : Bool). cond z (ends e (closing n.start bytes n)) (goes e n)) h

pub turn_went : (g : Setting) (bytes : List ℕ) (c n : Config) (e : Option Happening) → one g bytes c ≡ Ok (e, n) → has_ended n ≡ false → turn g bytes c ≡ goes e n
turn_went g bytes c n e h k = ap (turned_by bytes c) h ∙ by_end bytes e n false k

pub turn_ended : (g : Setting) (bytes : List ℕ) (c n : Config) (e : Option Happening) → one g bytes c ≡ Ok (e, n) → has_ended n ≡ true → turn g bytes c ≡ ends e (closing n.start bytes n)
turn_ended g bytes c n e h k = ap (turned_by bytes c) h ∙ by_end bytes e n true k

pub turn_failed : (g : Setting) (bytes : List ℕ) (c : Config) (f : Failure) → one g bytes c ≡ Err f → turn g bytes c ≡ ends None (failed_end c f)
turn_failed g bytes c f h = ap (turned_by bytes c) h

event_in : (bytes : List ℕ) (e : Option Happening) (n : Config) (b : Bool) → event_of (cond b (ends e (closing n.start bytes n)) (goes e n)) ≡ e
event_in bytes e n true = refl
event_in bytes e n false = refl

pub turn_event : (g : Setting) (bytes : List ℕ) (c n : Config) (e : Option Happening) → one g bytes c ≡ Ok (e, n) → event_of (turn g bytes c) ≡ e
turn_event g bytes c n e h = ap (λ (r : Result Given Failure). event_of (turned_by bytes c r)) h ∙ event_in bytes e n (has_ended n)

-- ---- turns one behind another
pub leads_push : (g : Setting) (bytes : List ℕ) (first last next : Config) (turns : List (Option Happening)) (e : Option Happening) → Leads g bytes first turns last → turn g bytes last ≡ goes e next → Leads g bytes first (turns ++ e ∷ []) next
leads_push g bytes first last next [] e l h = subst (λ (c : Config). Leads g bytes c (e ∷ []) next) (sym l) (next, h, refl)
leads_push g bytes first last next (x ∷ turns) e l h = (l.0, l.1, leads_push g bytes l.0 last next turns e l.2 h)

pub events_append : (xs ys : List (Option Happening)) → events_of (xs ++ ys) ≡ events_of xs ++ events_of ys
events_append [] ys = refl
events_append (None ∷ xs) ys = events_append xs ys
events_append (Some e ∷ xs) ys = ap (λ (es : List Happening). e ∷ es) (events_append xs ys)

one_listed : (e : Option Happening) → events_of (e ∷ []) ≡ listed e
one_listed None = refl
one_listed (Some e) = refl

events_push : (xs : List (Option Happening)) (e : Option Happening) → events_of (xs ++ e ∷ []) ≡ events_of xs ++ listed e
events_push xs e = events_append xs (e ∷ []) ∙ ap (λ (es : List Happening). events_of xs ++ es) (one_listed e)

module _ (j : Job) (s : Start) (limits : Bounds) where
  abbrev from : Config
  from = first j s limits

  -- what was given so far is a front
  pub front_by : (turns : List (Option Happening)) (c : Config) → Leads j.setting j.bytes from turns c → IsFront j s limits (events_of turns)
  front_by turns c l =
      let run = a_run_is_there j.setting j.bytes from in
      let more = front_of_run j.setting j.bytes from c turns run.0 run.1 l run.2 in
      record {
        events = events_of run.0;
        end = run.1;
        count = length run.0;
        sequence = (run.0, run.2, refl, refl);
        rest = events_of more.0;
        parts = ap (λ (z : List (Option Happening)). events_of z) more.1 ∙ events_append turns more.0;
      }

  front_with : (turns : List (Option Happening)) (c : Config) (e : Happening) (t : Turn) → Leads j.setting j.bytes from turns c → turn j.setting j.bytes c ≡ t → event_of t ≡ Some e → IsFront j s limits (events_of turns ++ e ∷ [])
  front_with turns c e (goes x next) l h k = subst (λ (es : List Happening). IsFront j s limits es) (events_push turns x ∙ ap (λ (z : Option Happening). events_of turns ++ listed z) k) (front_by (turns ++ x ∷ []) next (leads_push j.setting j.bytes from c next turns x l h))
  front_with turns c e (ends x end) l h k = record {
    events = events_of (turns ++ x ∷ []);
    end = end;
    count = length (turns ++ x ∷ []);
    sequence = (turns ++ x ∷ [], record { before = turns; reached = c; leads = l; event = x; at_end = h; all = refl }, refl, refl);
    rest = [];
    parts = events_push turns x ∙ (ap (λ (z : Option Happening). events_of turns ++ listed z) k ∙ sym (append-nil (events_of turns ++ e ∷ [])));
  }

-- ---- what a reader has come to
pub record CameTo {T : Type 0} (took : T → List Happening → T → Type 0) (j : Job) (s : Start) (limits : Bounds) (before now : T) (from to : ℕ) (r : Reading) : Type 0 where
  pub turns : List (Option Happening)
  pub leads : Leads j.setting j.bytes (first j s limits) turns r.config
  pub takes : took before (events_of turns) now
  pub count : to ≡ from + length turns
  pub setting : r.setting ≡ j.setting
  pub bytes : r.bytes ≡ j.bytes

module _ {T : Type 0} (took : T → List Happening → T → Type 0) (broke : T → Happening → T → Type 0) (none : (a : T) → took a [] a) (more : (a b c : T) (es fs : List Happening) → took a es b → took b fs c → took a (es ++ fs) c) (j : Job) (s : Start) (limits : Bounds) (before : T) (from : ℕ) where
  abbrev Came : T → ℕ → Reading → Type 0
  Came now to r = CameTo took j s limits before now from to r

  at_job : (b : Setting) (bytes : List ℕ) (c : Config) (t : Turn) → b ≡ j.setting → bytes ≡ j.bytes → turn b bytes c ≡ t → turn j.setting j.bytes c ≡ t
  at_job b bytes c t e h k = subst (λ (z : Setting). turn z j.bytes c ≡ t) e (subst (λ (z : List ℕ). turn b z c ≡ t) h k)

  pub came_first : (r : Reading) → r ≡ record { setting = j.setting; bytes = j.bytes; config = first j s limits; waits = false } → Came before from r
  came_first r e = record {
    turns = [];
    leads = ap (λ (z : Reading). z.config) (sym e);
    takes = none before;
    count = omega arith;
    setting = ap (λ (z : Reading). z.setting) e;
    bytes = ap (λ (z : Reading). z.bytes) e;
  }

  came_more : (now after : T) (to next : ℕ) (r q : Reading) (e : Option Happening) → Came now to r → turn r.setting r.bytes r.config ≡ goes e q.config → took now (listed e) after → next ≡ to + 1 → q.setting ≡ r.setting → q.bytes ≡ r.bytes → Came after next q
  came_more now after to next r q e came h t n same_setting same_bytes = record {
    turns = came.turns ++ e ∷ [];
    leads = leads_push j.setting j.bytes (first j s limits) r.config q.config came.turns e came.leads (at_job r.setting r.bytes r.config (goes e q.config) came.setting came.bytes h);
    takes = subst (λ (es : List Happening). took before es after) (sym (events_push came.turns e)) (more before now after (events_of came.turns) (listed e) came.takes t);
    count = let k : length (came.turns ++ e ∷ []) ≡ length came.turns + 1 = length-append came.turns (e ∷ []) in omega (arith, came.count, n, k);
    setting = same_setting ∙ came.setting;
    bytes = same_bytes ∙ came.bytes;
  }

  pub came_went : (now after : T) (to next : ℕ) (r q : Reading) → Came now to r → Turns took broke (Ok told.Went) r q now after → next ≡ to + 1 → q.setting ≡ r.setting → q.bytes ≡ r.bytes → Came after next q
  came_went now after to next r q came h n e f = came_more now after to next r q h.0 came h.1 h.3 n e f

  pub came_fragment : (byte : ℕ) (now after : T) (to next : ℕ) (r q : Reading) → Came now to r → Turns took broke (Ok (told.AtFragment byte)) r q now after → next ≡ to + 1 → q.setting ≡ r.setting → q.bytes ≡ r.bytes → Came after next q
  came_fragment byte now after to next r q came h n e f = came_more now after to next r q (Some (event.sc byte)) came h.0 h.2 n e f

  pub came_entered : (now : T) (to : ℕ) (r q : Reading) → Came now to r → q ≡ record r { waits = false } → Came now to q
  came_entered now to r q came e = record {
    turns = came.turns;
    leads = subst (λ (c : Config). Leads j.setting j.bytes (first j s limits) came.turns c) (ap (λ (z : Reading). z.config) (sym e)) came.leads;
    takes = came.takes;
    count = came.count;
    setting = ap (λ (z : Reading). z.setting) e ∙ came.setting;
    bytes = ap (λ (z : Reading). z.bytes) e ∙ came.bytes;
  }

  -- after few turns
  pub came_few : (now : T) (to : ℕ) (r : Reading) → Came now to r → IsWithinStream limits → to ≤ from + (2 ^ 26 + 3)
  came_few now to r came within = omega (arith, came.count, few_led j s limits came.turns r.config within came.leads)

  -- the end, and the stops
  pub came_end : (end : End) (now after : T) (to next : ℕ) (r q : Reading) → Came now to r → Turns took broke (Ok (told.Ended end)) r q now after → next ≡ to + 1 → Sequences took broke (Ok end) j s limits before after from next
  came_end end now after to next r q came h n =
      let all : List (Option Happening) = came.turns ++ h.0 ∷ [] in
      let run : IsRun j.setting j.bytes (first j s limits) all end = record { before = came.turns; reached = r.config; leads = came.leads; event = h.0; at_end = at_job r.setting r.bytes r.config (ends h.0 end) came.setting came.bytes h.1; all = refl } in
      let k : length all ≡ length came.turns + 1 = length-append came.turns (h.0 ∷ []) in
      (events_of all, length all, (all, run, refl, refl), subst (λ (es : List Happening). took before es after) (sym (events_push came.turns h.0)) (more before now after (events_of came.turns) (listed h.0) came.takes h.2), omega (arith, came.count, n, k))

  event_at : (r : Reading) (e : Happening) → r.setting ≡ j.setting → r.bytes ≡ j.bytes → event_of (turn r.setting r.bytes r.config) ≡ Some e → event_of (turn j.setting j.bytes r.config) ≡ Some e
  event_at r e same_setting same_bytes k = subst (λ (z : Setting). event_of (turn z j.bytes r.config) ≡ Some e) same_setting (subst (λ (z : List ℕ). event_of (turn r.setting z r.config) ≡ Some e) same_bytes k)

  pub came_memory : (now after : T) (to next : ℕ) (r q : Reading) → Came now to r → Turns took broke (Err stop.Memory) r q now after → Sequences took broke (Err stop.Memory) j s limits before after from next
  came_memory now after to next r q came (inl t) = (
    events_of came.turns,
    front_by j s limits came.turns r.config came.leads,
    subst (λ (es : List Happening). took before es after) (append-nil (events_of came.turns)) (more before now after (events_of came.turns) [] came.takes t),
  )
  came_memory now after to next r q came (inr h) = (
    events_of came.turns ++ h.0 ∷ [],
    front_with j s limits came.turns r.config h.0 (turn j.setting j.bytes r.config) came.leads refl (event_at r h.0 came.setting came.bytes h.1),
    more before now after (events_of came.turns) (h.0 ∷ []) came.takes h.2,
  )

  pub came_none : (now : T) (to next : ℕ) (r : Reading) → Came now to r → Sequences took broke (Err stop.Memory) j s limits before now from next
  came_none now to next r came = (events_of came.turns, front_by j s limits came.turns r.config came.leads, came.takes)

  pub came_stopped : (now after : T) (to next : ℕ) (r q : Reading) → Came now to r → Turns took broke (Err stop.Stopped) r q now after → Sequences took broke (Err stop.Stopped) j s limits before after from next
  came_stopped now after to next r q came h = (
    events_of came.turns,
    h.0,
    now,
    front_with j s limits came.turns r.config h.0 (turn j.setting j.bytes r.config) came.leads refl (event_at r h.0 came.setting came.bytes h.1),
    came.takes,
    h.2,
  )

  pub came_stop : (e : ReadStop) (now after : T) (to next : ℕ) (r q : Reading) → Came now to r → Turns took broke (Err e) r q now after → Sequences took broke (Err e) j s limits before after from next
  came_stop stop.Memory now after to next r q came h = came_memory now after to next r q came h
  came_stop stop.Stopped now after to next r q came h = came_stopped now after to next r q came h

-- ---- where turns lead
true_no_false : {X : Type 0} → true ≡ false → X
true_no_false e = absurd cc

pub reached_first : (j : Job) (s : Start) (limits : Bounds) (r : Reading) → r ≡ record { setting = j.setting; bytes = j.bytes; config = first j s limits; waits = false } → IsWithinStream limits → IsSetting j.setting → IsStart j.setting.schema.names → IsBytes j.bytes → IsReached r
reached_first j s limits r e within b names octets = subst IsReached (sym e) (record { body = j.body; start = s; limits = limits; within = within; book = b; names = names; octets = octets; turns = []; leads = refl; fragment = λ k. true_no_false (sym k) })

abbrev waits_at : Reading → Type 0
waits_at r = (byte : ℕ) × AtFragment r.setting byte r.config

reached_same : (r q : Reading) (e : Option Happening) → IsReached r → turn r.setting r.bytes r.config ≡ goes e q.config → q.setting ≡ r.setting → q.bytes ≡ r.bytes → (q.waits ≡ true → waits_at q) → IsReached q
reached_same r q e at h a b f = record {
  body = at.body;
  start = at.start;
  limits = at.limits;
  within = at.within;
  book = subst IsSetting (sym a) at.book;
  names = subst (λ (z : Setting). IsStart z.schema.names) (sym a) at.names;
  octets = subst IsBytes (sym b) at.octets;
  turns = at.turns ++ e ∷ [];
  leads = subst (λ (z : Setting). Leads z q.bytes (first_config z at.body at.start at.limits) (at.turns ++ e ∷ []) q.config) (sym a) (subst (λ (z : List ℕ). Leads r.setting z (first_config r.setting at.body at.start at.limits) (at.turns ++ e ∷ []) q.config) (sym b) (leads_push r.setting r.bytes (first_config r.setting at.body at.start at.limits) r.config q.config at.turns e at.leads h));
  fragment = f;
}

-- a reader that has made turns stands where its meter counts the open elements
reached_deep : (r : Reading) → IsReached r → Deep r.config.meter
unfolding Deep
reached_deep r at = led_deep r.setting r.bytes at.turns (first_config r.setting at.body at.start at.limits) r.config at.leads (omega arith)

pub reached_sound : (r : Reading) → IsReached r → IsSound r.setting r.config
reached_sound r at = reached_are_sound (record { setting = r.setting; bytes = r.bytes; body = at.body }) at.start at.limits at.turns r.config at.book at.names at.leads

-- ---- a reader's turn
abbrev pub view : Standing → Bool → Reading
view s w = record { setting = s.setting; bytes = s.bytes; config = fragment_in w s.setting s.config; waits = w }

pub standing_view : (j : Job) (s : Standing) (c : Config) → s ≡ record { setting = j.setting; bytes = j.bytes; config = c } → view s false ≡ record { setting = j.setting; bytes = j.bytes; config = c; waits = false }
standing_view j s c e = ap (λ (z : Standing). view z false) e

going : (s : Standing) (w : Bool) (r : Reading) → view s w ≡ r → r.waits ≡ false → w ≡ false
going s w r e h = ap (λ (z : Reading). z.waits) e ∙ h

pub reader_steady : (s : Standing) (w : Bool) (r : Reading) → view s w ≡ r → r.waits ≡ false → IsReached r → IsSteady s
reader_steady s true r e h k = true_no_false (going s true r e h)
reader_steady s false r e h k =
    let at : IsReached (view s false) = subst IsReached (sym e) k in
    steady (record { setting = s.setting; bytes = s.bytes; body = at.body }) at.start at.limits at.turns s.config at.within at.book at.names at.leads

stands_at : (byte : ℕ) (s new : Standing) → IsReached (view s false) → one s.setting s.bytes s.config ≡ Ok (Some (event.sc byte), put_aside new.setting new.config) → new.setting ≡ s.setting → AtFragment new.setting byte (put_aside new.setting new.config)
stands_at byte s new from h a = subst (λ (z : Setting). AtFragment z byte (put_aside new.setting new.config)) (sym a) (at_fragment s.setting s.bytes s.config (put_aside new.setting new.config) byte from.book from.names (reached_sound (view s false) from) (reached_deep (view s false) from) h)

pub place_fragment : (byte : ℕ) (s new : Standing) (w : Bool) (r : Reading) → view s w ≡ r → r.waits ≡ false → IsReached r → one s.setting s.bytes s.config ≡ Ok (Some (event.sc byte), put_aside new.setting new.config) → new.setting ≡ s.setting → (view new true).config.place ≡ 8 * byte
place_fragment byte s new true r e g at h a = true_no_false (going s true r e g)
place_fragment byte s new false r e g at h a = (stands_at byte s new (subst IsReached (sym e) at) h a).place

pub stays_fragment : (byte : ℕ) (s new : Standing) (w : Bool) (r : Reading) → view s w ≡ r → r.waits ≡ false → IsReached r → one s.setting s.bytes s.config ≡ Ok (Some (event.sc byte), put_aside new.setting new.config) → new.setting ≡ s.setting → new.bytes ≡ s.bytes → IsReached (view new true)
stays_fragment byte s new true r e g at h a b = true_no_false (going s true r e g)
stays_fragment byte s new false r e g at h a b =
    let from : IsReached (view s false) = subst IsReached (sym e) at in
    reached_same (view s false) (view new true) (Some (event.sc byte)) from (turn_went s.setting s.bytes s.config (put_aside new.setting new.config) (Some (event.sc byte)) h refl) a b (λ k. (byte, stands_at byte s new from h a))

pub stays_on : (x : Option Happening) (s new : Standing) (w : Bool) (r : Reading) → view s w ≡ r → r.waits ≡ false → IsReached r → one s.setting s.bytes s.config ≡ Ok (x, new.config) → has_ended new.config ≡ false → new.setting ≡ s.setting → new.bytes ≡ s.bytes → IsReached (view new w)
stays_on x s new true r e g at h k a b = true_no_false (going s true r e g)
stays_on x s new false r e g at h k a b = reached_same (view s false) (view new false) x (subst IsReached (sym e) at) (turn_went s.setting s.bytes s.config new.config x h k) a b (λ k. true_no_false (sym k))

-- the end of a reader that stands at no fragment is that of its configuration
pub closed_in : (s : Standing) (w : Bool) (r : Reading) (end : End) → view s w ≡ r → r.waits ≡ false → end ≡ closing s.config.start s.bytes s.config → end ≡ closing r.config.start r.bytes r.config
closed_in s true r end e h is = true_no_false (going s true r e h)
closed_in s false r end e h is = is ∙ ap (λ (z : Reading). closing z.config.start z.bytes z.config) e

pub failed_in : (f : Fault) (s : Standing) (w : Bool) (r : Reading) (end : End) → view s w ≡ r → r.waits ≡ false → end ≡ ending.Fault f s.config.meter.used s.config.root → end ≡ ending.Fault f r.config.meter.used r.config.root
failed_in f s true r end e h is = true_no_false (going s true r e h)
failed_in f s false r end e h is = is ∙ ap (λ (z : Reading). ending.Fault f z.config.meter.used z.config.root) e

fragment_name : (s : Standing) → IsReached (view s true) → IsName s.config.tables (innermost s.config.elements)
fragment_name s at =
    let sound = reached_are_sound (record { setting = s.setting; bytes = s.bytes; body = at.body }) at.start at.limits at.turns (put_aside s.setting s.config) at.book at.names at.leads in
    let b : Body = record { tables = s.config.tables; learned = s.config.learned; elements = s.config.elements; outer = s.config.outer; name = texts_of s.config.tables (innermost s.config.elements) } in
    let head : IsSoundAside s.setting b = All-head (IsSoundAside s.setting) b s.config.aside sound.aside in
    open_name s.setting s.config.tables s.config.learned s.config.elements head.body.elements (level_some s.config.elements s.config.outer head.level)

pub reader_name : (s : Standing) (w : Bool) (r : Reading) → view s w ≡ r → r.waits ≡ true → IsReached r → IsName s.config.tables (innermost s.config.elements)
reader_name s true r e h k = fragment_name s (subst IsReached (sym e) k)
reader_name s false r e h k = true_no_false (sym (ap (λ (z : Reading). z.waits) e ∙ h))

module _ {T : Type 0} (took : T → List Happening → T → Type 0) (broke : T → Happening → T → Type 0) (before after : T) where
  abbrev step_of : Standing → Result Given Failure
  step_of s = one s.setting s.bytes s.config

  abbrev turn_in : Standing → Turn
  turn_in s = turn s.setting s.bytes s.config

  went : (s new : Standing) → HandsAny took broke (Ok None) new (step_of s) before after → has_ended new.config ≡ false → Turns took broke (Ok told.Went) (view s false) (view new false) before after
  went s new h k = (h.0, turn_went s.setting s.bytes s.config new.config h.0 h.1 k, refl, h.2, h.3)

  pub turns_went : (s new : Standing) (w : Bool) (r : Reading) → view s w ≡ r → r.waits ≡ false → HandsAny took broke (Ok None) new (step_of s) before after → has_ended new.config ≡ false → Turns took broke (Ok told.Went) r (view new w) before after
  turns_went s new true r e g h k = true_no_false (going s true r e g)
  turns_went s new false r e g h k = subst (λ (z : Reading). Turns took broke (Ok told.Went) z (view new false) before after) e (went s new h k)

  pub turns_fragment : (byte : ℕ) (s new : Standing) (w : Bool) (r : Reading) → view s w ≡ r → r.waits ≡ false → HandsAny took broke (Ok (Some byte)) new (step_of s) before after → Turns took broke (Ok (told.AtFragment byte)) r (view new true) before after
  turns_fragment byte s new true r e g h = true_no_false (going s true r e g)
  turns_fragment byte s new false r e g h = subst (λ (z : Reading). Turns took broke (Ok (told.AtFragment byte)) z (view new true) before after) e (turn_went s.setting s.bytes s.config (put_aside new.setting new.config) (Some (event.sc byte)) h.0 refl, refl, h.1)

  pub turns_ended : (end : End) (s new : Standing) (w : Bool) (r q : Reading) → view s w ≡ r → r.waits ≡ false → HandsAny took broke (Ok None) new (step_of s) before after → has_ended new.config ≡ true → new.bytes ≡ s.bytes → end ≡ closing new.config.start new.bytes new.config → Turns took broke (Ok (told.Ended end)) r q before after
  turns_ended end s new true r q e g h k bytes is = true_no_false (going s true r e g)
  turns_ended end s new false r q e g h k bytes is =
      subst (λ (z : Reading). Turns took broke (Ok (told.Ended end)) z q before after) e
      (h.0, turn_ended s.setting s.bytes s.config new.config h.0 h.1 k ∙ ap (λ (z : End). ends h.0 z) (sym (is ∙ ap (λ (b : List ℕ). closing new.config.start b new.config) bytes)), h.2)

  pub turns_failed : (f : Fault) (end : End) (s new : Standing) (w : Bool) (r q : Reading) → view s w ≡ r → r.waits ≡ false → HandsAny took broke (Err (halt.Fault f)) new (step_of s) before after → new.config.root ≡ s.config.root → end ≡ ending.Fault f new.config.meter.used new.config.root → Turns took broke (Ok (told.Ended end)) r q before after
  turns_failed f end s new true r q e g h root is = true_no_false (going s true r e g)
  turns_failed f end s new false r q e g h root is =
      subst (λ (z : Reading). Turns took broke (Ok (told.Ended end)) z q before after) e
      (None, turn_failed s.setting s.bytes s.config (record { fault = f; meter = new.config.meter }) h.0 ∙ ap (λ (z : End). ends None z) (sym (is ∙ ap (λ (o : Option QName). ending.Fault f new.config.meter.used o) root)), h.1)

  pub turns_closed : (end : End) (s r q : Reading) → end ≡ closing r.config.start r.bytes r.config → Turns took broke (Ok (told.Ended (closing r.config.start r.bytes r.config))) s r before after → Turns took broke (Ok (told.Ended end)) s q before after
  turns_closed end s r q is h = subst (λ (z : End). Turns took broke (Ok (told.Ended z)) s q before after) (sym is) h

  pub turns_faulted : (f : Fault) (end : End) (s r q : Reading) → end ≡ ending.Fault f r.config.meter.used r.config.root → Turns took broke (Ok (told.Ended (ending.Fault f r.config.meter.used r.config.root))) s r before after → Turns took broke (Ok (told.Ended end)) s q before after
  turns_faulted f end s r q is h = subst (λ (z : End). Turns took broke (Ok (told.Ended z)) s q before after) (sym is) h

  memory : (s new : Standing) (q : Reading) → HandsAny took broke (Err halt.Memory) new (step_of s) before after → Turns took broke (Err stop.Memory) (view s false) q before after
  memory s new q (inl t) = inl t
  memory s new q (inr h) = inr (h.0, turn_event s.setting s.bytes s.config h.1 (Some h.0) h.2, h.3)

  pub turns_memory : (s new : Standing) (w : Bool) (r q : Reading) → view s w ≡ r → r.waits ≡ false → HandsAny took broke (Err halt.Memory) new (step_of s) before after → Turns took broke (Err stop.Memory) r q before after
  turns_memory s new true r q e g h = true_no_false (going s true r e g)
  turns_memory s new false r q e g h = subst (λ (z : Reading). Turns took broke (Err stop.Memory) z q before after) e (memory s new q h)

  pub turns_stopped : (s new : Standing) (w : Bool) (r q : Reading) → view s w ≡ r → r.waits ≡ false → HandsAny took broke (Err halt.Stopped) new (step_of s) before after → Turns took broke (Err stop.Stopped) r q before after
  turns_stopped s new true r q e g h = true_no_false (going s true r e g)
  turns_stopped s new false r q e g h = subst (λ (z : Reading). Turns took broke (Err stop.Stopped) z q before after) e (h.0, turn_event s.setting s.bytes s.config h.1 (Some h.0) h.2, h.3)
