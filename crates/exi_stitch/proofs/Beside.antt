-- A reader beside a desk: what it has come to, and what one turn and one fragment more make of it.
use Rattle.std.proofs.Common.{◌≡◌, inl, inr, ◌≤◌, ◌^◌, ◌∙◌, ℕ, suc, ◌+◌, false, List, [], ◌∷◌, ◌++◌, length, Option, Some, None, Ok, Err, refl, sym, ap, subst, arith}
use Rattle.std.proofs.lemmas.List.{append_assoc, append-nil, length-append}
use Rattle.exi_bits.specs.Bits.{IsBytes}
use Rattle.exi_meter.specs.Metering.{Bounds, IsWithinStream}
use Rattle.exi_names.specs.Events.{Happening}
use Rattle.exi_names.specs.Events as event
use Rattle.exi_names.specs.StartTables.{IsStart}
use Rattle.exi_processing.specs.Configurations.{Config, IsSetting, Setting}
use Rattle.exi_processing.specs.Handing.{listed}
use Rattle.exi_processing.specs.Reading.{IsFront, IsReached, Reading, Turns, event_of}
use Rattle.exi_processing.specs.Runs.{IsSequence, Job, Turn, ends, first, goes, turn}
use Rattle.exi_processing.specs.Splices.{AtFragment, IsFragmentOutcome}
use Rattle.exi_processing.specs.declared.end.End.{End}
use Rattle.exi_processing.specs.declared.start.Start.TheVariants as start
use Rattle.exi_processing.specs.declared.turn.ReadStop.{ReadStop}
use Rattle.exi_processing.specs.declared.turn.ReadStop.TheVariants as stop
use Rattle.exi_processing.specs.declared.turn.Turn.TheVariants as told
use Rattle.exi_processing.proofs.Steady.{few_led}
use Rattle.exi_processing.proofs.Turning.{front_by}
use Rattle.exi_worker.specs.declared.posting.Posting.{Posting as Posted}
use Rattle.exi_stitch.specs.Meetings.{Comes, Meets, ShowsSome, job_in}
use Rattle.exi_stitch.specs.Moves.{Posting}
use Rattle.exi_stitch.specs.Promises.{AsksAll, AsksSome, TakesSequence, posting_of}
use Rattle.exi_stitch.specs.Stitches.{Ask, Asked, AskedOnce, EndsThere, GoesOn, IsStitched, MayJoin, Meeting, Stage, StageEnds, StageLeads, Stitches, asks_by, asks_in, entered, events_at, events_in, given_at, joined, misplaced, shown_at, stood, turned, used_by, used_in}
use Rattle.exi_stitch.proofs.Stages.{Way, at_fragment, by_ending, by_meeting, by_turn, events_push, stitched_ended, stitched_way, stitches_push}
use Rattle.exi_stitch.proofs.Ways.{ended_by}

-- ---- lists of stages
used_push : (ss : List Stage) (s : Stage) → used_in (ss ++ s ∷ []) ≡ used_in ss ++ used_by s
used_push [] s = append-nil (used_by s)
used_push (x ∷ ss) s = ap (λ (z : List ℕ). used_by x ++ z) (used_push ss s) ∙ sym (append_assoc (used_by x) (used_in ss) (used_by s))

asks_push : (ss : List Stage) (s : Stage) → asks_in (ss ++ s ∷ []) ≡ asks_in ss ++ asks_by s
asks_push [] s = append-nil (asks_by s)
asks_push (x ∷ ss) s = ap (λ (z : List Ask). asks_by x ++ z) (asks_push ss s) ∙ sym (append_assoc (asks_by x) (asks_in ss) (asks_by s))

-- ---- fronts
front_of_front : (j : Job) (limits : Bounds) (es fs : List Happening) → IsFront j start.Body limits (es ++ fs) → IsFront j start.Body limits es
front_of_front j limits es fs f = record {
  events = f.events;
  end = f.end;
  count = f.count;
  sequence = f.sequence;
  rest = fs ++ f.rest;
  parts = f.parts ∙ append_assoc es fs f.rest;
}

front_of_all : (j : Job) (limits : Bounds) (es : List Happening) (end : End) (count : ℕ) → IsSequence j start.Body limits es end count → IsFront j start.Body limits es
front_of_all j limits es end count q = record { events = es; end = end; count = count; sequence = q; rest = []; parts = sym (append-nil es) }

pub front_none : (j : Job) (limits : Bounds) → IsFront j start.Body limits []
front_none j limits = front_by j start.Body limits [] (first j start.Body limits) refl

-- what a reader beside a desk has come to
pub record StitchedTo {T D : Type 0} (took : T → List Happening → T → Type 0) (arrives : D → ℕ → Option Posted → D → Type 0) (returns : D → Posted → D → Type 0) (j : Job) (limits : Bounds) (before : T) (desk : D) (from : ℕ) (now : T) (beside : D) (to : ℕ) (used : List ℕ) (r : Reading) : Type 0 where
  pub stages : List Stage
  pub leads : Stitches j (first j start.Body limits) stages r.config
  pub takes : took before (events_in stages) now
  pub asked : Asked posting_of arrives returns desk (asks_in stages) beside
  pub uses : used ≡ used_in stages
  pub count : to ≡ from + length stages
  pub setting : r.setting ≡ j.setting
  pub bytes : r.bytes ≡ j.bytes

module _ {T D : Type 0} (took : T → List Happening → T → Type 0) (broke : T → Happening → T → Type 0) (none : (a : T) → took a [] a) (more : (a b c : T) (es fs : List Happening) → took a es b → took b fs c → took a (es ++ fs) c) (arrives : D → ℕ → Option Posted → D → Type 0) (returns : D → Posted → D → Type 0) (j : Job) (limits : Bounds) (before : T) (desk : D) (from : ℕ) where
  abbrev start_at : Config
  start_at = first j start.Body limits

  asked_push : (asks : List Ask) (d mid after : D) (byte : ℕ) (given : Option Posting) → Asked posting_of arrives returns d asks mid → AskedOnce posting_of arrives returns mid byte given after → Asked posting_of arrives returns d (asks ++ record { byte = byte; given = given } ∷ []) after
  asked_push [] d mid after byte given a o = (after, subst (λ (z : D). AskedOnce posting_of arrives returns z byte given after) (sym a) o, refl)
  asked_push (x ∷ asks) d mid after byte given a o = (a.0, a.1, asked_push asks a.0 mid after byte given a.2 o)

  abbrev Came : T → D → ℕ → List ℕ → Reading → Type 0
  Came now beside to used r = StitchedTo took arrives returns j limits before desk from now beside to used r

  -- what a reader that was reached knows of its job
  record Known : Type 0 where
    octets : IsBytes j.bytes
    book : IsSetting j.setting
    names : IsStart j.setting.schema.names

  known : (now : T) (beside : D) (to : ℕ) (used : List ℕ) (r : Reading) → Came now beside to used r → IsReached r → Known
  known now beside to used r s at = record {
    octets = subst IsBytes s.bytes at.octets;
    book = subst IsSetting s.setting at.book;
    names = subst (λ (z : Setting). IsStart z.schema.names) s.setting at.names;
  }

  at_job : (b : Setting) (bytes : List ℕ) (c : Config) (t : Turn) → b ≡ j.setting → bytes ≡ j.bytes → turn b bytes c ≡ t → turn j.setting j.bytes c ≡ t
  at_job b bytes c t e h k = subst (λ (z : Setting). turn z j.bytes c ≡ t) e (subst (λ (z : List ℕ). turn b z c ≡ t) h k)

  pub stitched_first : (r : Reading) → r ≡ record { setting = j.setting; bytes = j.bytes; config = start_at; waits = false } → (used : List ℕ) → used ≡ [] → Came before desk from used r
  stitched_first r e used u = record {
    stages = [];
    leads = ap (λ (z : Reading). z.config) (sym e);
    takes = none before;
    asked = refl;
    uses = u;
    count = omega arith;
    setting = ap (λ (z : Reading). z.setting) e;
    bytes = ap (λ (z : Reading). z.bytes) e;
  }

  -- ---- one stage more
  stage_more : (now after : T) (beside next : D) (to n : ℕ) (used u : List ℕ) (r q : Reading) (x : Stage) (s : Came now beside to used r) → StageLeads j r.config x q.config → took now (events_at x) after → Asked posting_of arrives returns desk (asks_in s.stages ++ asks_by x) next → u ≡ used ++ used_by x → n ≡ to + 1 → q.setting ≡ r.setting → q.bytes ≡ r.bytes → Came after next n u q
  stage_more now after beside next to n used u r q x s l t a v k e f = record {
    stages = s.stages ++ x ∷ [];
    leads = stitches_push j start_at r.config q.config s.stages x s.leads l;
    takes = subst (λ (z : List Happening). took before z after) (sym (events_push s.stages x)) (more before now after (events_in s.stages) (events_at x) s.takes t);
    asked = subst (λ (z : List Ask). Asked posting_of arrives returns desk z next) (sym (asks_push s.stages x)) a;
    uses = v ∙ (ap (λ (z : List ℕ). z ++ used_by x) s.uses ∙ sym (used_push s.stages x));
    count = let m : length (s.stages ++ x ∷ []) ≡ length s.stages + 1 = length-append s.stages (x ∷ []) in omega (arith, s.count, k, m);
    setting = e ∙ s.setting;
    bytes = f ∙ s.bytes;
  }

  -- the last stage
  pub record EndsBy (after : T) (next : D) (n : ℕ) (u : List ℕ) (end : End) : Type 0 where
    pub sequence : (es : List Happening) × (count : ℕ) × IsSequence j start.Body limits es end count × took before es after
    pub asks : AsksAll arrives returns j limits end u desk next from n

  stage_last : (now after : T) (beside next : D) (to n : ℕ) (used u : List ℕ) (r : Reading) (end : End) (x : Stage) (s : Came now beside to used r) → Known → StageEnds j r.config x end → took now (events_at x) after → Asked posting_of arrives returns desk (asks_in s.stages ++ asks_by x) next → u ≡ used ++ used_by x → n ≡ to + 1 → EndsBy after next n u end
  stage_last now after beside next to n used u r end x s kn l t a v k =
      let all : List Stage = s.stages ++ x ∷ [] in
      let whole : IsStitched j start_at all end = record { before = s.stages; reached = r.config; leads = s.leads; stage = x; at_end = l; all = refl } in
      let q = stitched_ended j start.Body limits kn.octets kn.book kn.names all end whole in
      record {
        sequence = (events_in all, q.count, q.sequence, subst (λ (z : List Happening). took before z after) (sym (events_push s.stages x)) (more before now after (events_in s.stages) (events_at x) s.takes t));
        asks = record {
          stages = all;
          stitched = whole;
          asked = subst (λ (z : List Ask). Asked posting_of arrives returns desk z next) (sym (asks_push s.stages x)) a;
          uses = v ∙ (ap (λ (z : List ℕ). z ++ used_by x) s.uses ∙ sym (used_push s.stages x));
          steps = let m : length (s.stages ++ x ∷ []) ≡ length s.stages + 1 = length-append s.stages (x ∷ []) in omega (arith, s.count, k, m);
        };
      }

  -- ---- a turn that begins no fragment
  no_ask : (now : T) (beside : D) (to : ℕ) (used : List ℕ) (r : Reading) (s : Came now beside to used r) → Asked posting_of arrives returns desk (asks_in s.stages ++ []) beside
  no_ask now beside to used r s = subst (λ (z : List Ask). Asked posting_of arrives returns desk z beside) (sym (append-nil (asks_in s.stages))) s.asked

  pub stitched_went : (now after : T) (beside : D) (to n : ℕ) (used : List ℕ) (r q : Reading) → Came now beside to used r → Turns took broke (Ok told.Went) r q now after → n ≡ to + 1 → q.setting ≡ r.setting → q.bytes ≡ r.bytes → Came after beside n used q
  stitched_went now after beside to n used r q s h k e f =
      stage_more now after beside beside to n used used r q (turned h.0) s (at_job r.setting r.bytes r.config (goes h.0 q.config) s.setting s.bytes h.1, h.4) h.3 (no_ask now beside to used r s) (sym (append-nil used)) k e f

  pub stitched_over : (end : End) (now after : T) (beside : D) (to n : ℕ) (used : List ℕ) (r q : Reading) → Came now beside to used r → IsReached r → Turns took broke (Ok (told.Ended end)) r q now after → n ≡ to + 1 → EndsBy after beside n used end
  stitched_over end now after beside to n used r q s at h k =
      stage_last now after beside beside to n used used r end (turned h.0) s (known now beside to used r s at) (at_job r.setting r.bytes r.config (ends h.0 end) s.setting s.bytes h.1) h.2 (no_ask now beside to used r s) (sym (append-nil used)) k

  -- what was taken where reading stopped
  abbrev pub Halted : ReadStop → T → Type 0
  Halted e done = TakesSequence took broke (Err e) j limits before done

  pub record StopsBy (stop : ReadStop) (after : T) (next : D) (n : ℕ) : Type 0 where
    pub taken : Halted stop after
    pub asks : AsksSome arrives returns j limits desk next from n

  -- ---- a turn that stops
  event_at : (r : Reading) (x : Happening) → r.setting ≡ j.setting → r.bytes ≡ j.bytes → event_of (turn r.setting r.bytes r.config) ≡ Some x → event_of (turn j.setting j.bytes r.config) ≡ Some x
  event_at r x e f k = subst (λ (z : Setting). event_of (turn z j.bytes r.config) ≡ Some x) e (subst (λ (z : List ℕ). event_of (turn r.setting z r.config) ≡ Some x) f k)

  front_with : (ss : List Stage) (c : Config) (x : Happening) (t : Turn) → Known → Stitches j start_at ss c → turn j.setting j.bytes c ≡ t → event_of t ≡ Some x → IsFront j start.Body limits (events_in ss ++ x ∷ [])
  front_with ss c x (goes y next) kn l h k =
      let w = by_turn j start.Body limits kn.octets kn.book kn.names c next (events_in ss) (length ss) y (stitched_way j start.Body limits kn.octets kn.book kn.names ss c l) h in
      subst (λ (z : Option Happening). IsFront j start.Body limits (events_in ss ++ listed z)) k w.way.front
  front_with ss c x (ends y end) kn l h k =
      let w = stitched_way j start.Body limits kn.octets kn.book kn.names ss c l in
      let q = ended_by j start.Body limits c (events_in ss) y end w.way h in
      subst (λ (z : Option Happening). IsFront j start.Body limits (events_in ss ++ listed z)) k (front_of_all j limits (events_in ss ++ listed y) end q.0 q.1)

  front_event : (now : T) (beside : D) (to : ℕ) (used : List ℕ) (r : Reading) (s : Came now beside to used r) (x : Happening) → Known → event_of (turn r.setting r.bytes r.config) ≡ Some x → IsFront j start.Body limits (events_in s.stages ++ x ∷ [])
  front_event now beside to used r s x kn k = front_with s.stages r.config x (turn j.setting j.bytes r.config) kn s.leads refl (event_at r x s.setting s.bytes k)

  front_now : (now : T) (beside : D) (to : ℕ) (used : List ℕ) (r : Reading) (s : Came now beside to used r) → Known → IsFront j start.Body limits (events_in s.stages)
  front_now now beside to used r s kn = (stitched_way j start.Body limits kn.octets kn.book kn.names s.stages r.config s.leads).way.front

  halts_turn : (y : ReadStop) (now after : T) (beside : D) (to : ℕ) (used : List ℕ) (r q : Reading) → Came now beside to used r → Known → Turns took broke (Err y) r q now after → Halted y after
  halts_turn stop.Memory now after beside to used r q s kn (inl t) = (events_in s.stages, front_now now beside to used r s kn, subst (λ (z : List Happening). took before z after) (append-nil (events_in s.stages)) (more before now after (events_in s.stages) [] s.takes t))
  halts_turn stop.Memory now after beside to used r q s kn (inr h) = (events_in s.stages ++ h.0 ∷ [], front_event now beside to used r s h.0 kn h.1, more before now after (events_in s.stages) (h.0 ∷ []) s.takes h.2)
  halts_turn stop.Stopped now after beside to used r q s kn h = (events_in s.stages, h.0, now, front_event now beside to used r s h.0 kn h.1, s.takes, h.2)

  pub stopped_turn : (y : ReadStop) (now after : T) (beside : D) (to n : ℕ) (used : List ℕ) (r q : Reading) → Came now beside to used r → IsReached r → Turns took broke (Err y) r q now after → n ≡ to + 1 → StopsBy y after beside n
  stopped_turn y now after beside to n used r q s at h k = record {
    taken = halts_turn y now after beside to used r q s (known now beside to used r s at) h;
    asks = record {
      stages = s.stages;
      reached = r.config;
      stitches = s.leads;
      last = [];
      one_more = tt;
      asked = no_ask now beside to used r s;
      steps = omega (arith, s.count, k);
    };
  }

  -- few stages
  pub stitched_few : (now : T) (beside : D) (to : ℕ) (used : List ℕ) (r : Reading) → Came now beside to used r → IsReached r → IsWithinStream limits → to ≤ from + (2 ^ 26 + 3)
  stitched_few now beside to used r s at within =
      let kn = known now beside to used r s at in
      let w = stitched_way j start.Body limits kn.octets kn.book kn.names s.stages r.config s.leads in
      omega (arith, s.count, w.few, few_led j start.Body limits w.way.turns r.config within w.way.leads)

  -- ---- a fragment
  outcome_at : (r : Reading) (byte : ℕ) (p : Posting) (ahead : Bounds) → r.setting ≡ j.setting → r.bytes ≡ j.bytes → IsFragmentOutcome (job_in r) byte ahead p.events p.end → IsFragmentOutcome j byte ahead p.events p.end
  outcome_at r byte p ahead e f o = record {
    count = o.count;
    sequence = subst (λ (z : Setting). IsSequence (record { setting = z; bytes = j.bytes; body = j.body }) (start.Fragment byte) ahead p.events p.end o.count) e (subst (λ (z : List ℕ). IsSequence (record { setting = r.setting; bytes = z; body = j.body }) (start.Fragment byte) ahead p.events p.end o.count) f o.sequence);
  }

  may_join_at : (r : Reading) (byte : ℕ) (c : Config) (p : Posting) → r.setting ≡ j.setting → r.bytes ≡ j.bytes → MayJoin (job_in r) byte c p → MayJoin j byte c p
  may_join_at r byte c p e f m = record { outcome = (m.outcome.0, outcome_at r byte p m.outcome.0 e f m.outcome.1); fitting = m.fitting }

  goes_on_at : (r : Reading) (byte : ℕ) (c next : Config) (m : Meeting) → r.setting ≡ j.setting → r.bytes ≡ j.bytes → GoesOn (job_in r) byte c m next → GoesOn j byte c m next
  goes_on_at r byte c next (entered given) e f h = h
  goes_on_at r byte c next (joined p) e f h = (may_join_at r byte c p e f h.0, h.1)
  goes_on_at r byte c next (misplaced p) e f h = absurd h

  ends_there_at : (r : Reading) (byte : ℕ) (c : Config) (end : End) (m : Meeting) → r.setting ≡ j.setting → r.bytes ≡ j.bytes → EndsThere (job_in r) byte c m end → EndsThere j byte c m end
  ends_there_at r byte c end (entered given) e f h = absurd h
  ends_there_at r byte c end (joined p) e f h = (may_join_at r byte c p e f h.0, h.1)
  ends_there_at r byte c end (misplaced p) e f h = (may_join_at r byte c p e f h.0, h.1)

  -- from `now` at r a turn came to the fragment, with `mid` at `at`; there the desk was asked
  module _ (byte : ℕ) (now mid after : T) (beside next : D) (to n : ℕ) (used u : List ℕ) (r at q : Reading) (s : Came now beside to used r) (h : Turns took broke (Ok (told.AtFragment byte)) r at now mid) (k : n ≡ to + 1) (e : at.setting ≡ r.setting) (f : at.bytes ≡ r.bytes) where
    abbrev asks_once : Option Posting → Type 0
    asks_once given = AskedOnce posting_of arrives returns beside byte given next

    sc_there : turn j.setting j.bytes r.config ≡ goes (Some (event.sc byte)) at.config
    sc_there = at_job r.setting r.bytes r.config (goes (Some (event.sc byte)) at.config) s.setting s.bytes h.0

    with_ask : (given : Option Posting) → asks_once given → Asked posting_of arrives returns desk (asks_in s.stages ++ record { byte = byte; given = given } ∷ []) next
    with_ask given o = asked_push (asks_in s.stages) desk beside next byte given s.asked o

    with_sc : (es : List Happening) (done : T) → took mid es done → took now (event.sc byte ∷ es) done
    with_sc es done t = more now mid done (event.sc byte ∷ []) es h.2 t

    pub stitched_met : Meets took broke asks_once (Ok None) byte at q used u mid after → q.setting ≡ at.setting → q.bytes ≡ at.bytes → Came after next n u q
    stitched_met m g i =
        stage_more now after beside next to n used u r q (stood byte m.0) s (at.config, sc_there, goes_on_at at byte at.config q.config m.0 (e ∙ s.setting) (f ∙ s.bytes) m.1) (with_sc (shown_at m.0) after m.3) (with_ask (given_at m.0) m.2) m.4 k (g ∙ e) (i ∙ f)

    pub stitched_end : (end : End) → IsReached r → Meets took broke asks_once (Ok (Some end)) byte at q used u mid after → EndsBy after next n u end
    stitched_end end reached m =
        stage_last now after beside next to n used u r end (stood byte m.0) s (known now beside to used r s reached) (at.config, sc_there, ends_there_at at byte at.config end m.0 (e ∙ s.setting) (f ∙ s.bytes) m.1) (with_sc (shown_at m.0) after m.3) (with_ask (given_at m.0) m.2) m.4 k

    -- ---- a stop at the fragment
    way_here : (kn : Known) → Way j start.Body limits kn.octets kn.book kn.names at.config (events_in s.stages ++ event.sc byte ∷ []) (suc (length s.stages))
    way_here kn = by_turn j start.Body limits kn.octets kn.book kn.names r.config at.config (events_in s.stages) (length s.stages) (Some (event.sc byte)) (stitched_way j start.Body limits kn.octets kn.book kn.names s.stages r.config s.leads) sc_there

    fragment_here : Known → AtFragment j.setting byte at.config
    fragment_here kn = at_fragment j start.Body limits kn.octets kn.book kn.names r.config at.config (events_in s.stages) (length s.stages) byte (stitched_way j start.Body limits kn.octets kn.book kn.names s.stages r.config s.leads) sc_there

    front_here : (m : Meeting) → Known → Comes (job_in at) byte at.config m → IsFront j start.Body limits ((events_in s.stages ++ event.sc byte ∷ []) ++ shown_at m)
    front_here m kn (inl c) = (by_meeting j start.Body limits kn.octets kn.book kn.names byte at.config c.0 (events_in s.stages ++ event.sc byte ∷ []) (suc (length s.stages)) m (way_here kn) (fragment_here kn) (goes_on_at at byte at.config c.0 m (e ∙ s.setting) (f ∙ s.bytes) c.1)).way.front
    front_here m kn (inr c) =
        let q = by_ending j start.Body limits kn.octets kn.book kn.names byte at.config c.0 (events_in s.stages ++ event.sc byte ∷ []) (suc (length s.stages)) m (way_here kn) (fragment_here kn) (ends_there_at at byte at.config c.0 m (e ∙ s.setting) (f ∙ s.bytes) c.1) in
        front_of_all j limits ((events_in s.stages ++ event.sc byte ∷ []) ++ shown_at m) c.0 q.count q.sequence

    shown_front : (m : Meeting) (shown rest : List Happening) → Known → Comes (job_in at) byte at.config m → shown_at m ≡ shown ++ rest → IsFront j start.Body limits ((events_in s.stages ++ event.sc byte ∷ []) ++ shown)
    shown_front m shown rest kn c i = front_of_front j limits ((events_in s.stages ++ event.sc byte ∷ []) ++ shown) rest (subst (λ (z : List Happening). IsFront j start.Body limits z) (ap (λ (z : List Happening). (events_in s.stages ++ event.sc byte ∷ []) ++ z) i ∙ sym (append_assoc (events_in s.stages ++ event.sc byte ∷ []) shown rest)) (front_here m kn c))

    takes_here : (shown : List Happening) (done : T) → took mid shown done → took before ((events_in s.stages ++ event.sc byte ∷ []) ++ shown) done
    takes_here shown done t = more before mid done (events_in s.stages ++ event.sc byte ∷ []) shown (more before now mid (events_in s.stages) (event.sc byte ∷ []) s.takes h.2) t

    one_before : (shown rest : List Happening) (x : Happening) → shown ++ x ∷ rest ≡ (shown ++ x ∷ []) ++ rest
    one_before shown rest x = sym (append_assoc shown (x ∷ []) rest)

    halts : (y : ReadStop) (m : Meeting) → Known → Comes (job_in at) byte at.config m → ShowsSome took broke y (shown_at m) mid after → Halted y after
    halts stop.Memory m kn c w = ((events_in s.stages ++ event.sc byte ∷ []) ++ w.0, shown_front m w.0 w.1 kn c w.2, takes_here w.0 after w.3)
    halts stop.Stopped m kn c w =
        let es : List Happening = (events_in s.stages ++ event.sc byte ∷ []) ++ w.0 in
        let front : IsFront j start.Body limits ((events_in s.stages ++ event.sc byte ∷ []) ++ (w.0 ++ w.2 ∷ [])) = shown_front m (w.0 ++ w.2 ∷ []) w.1 kn c (w.4 ∙ one_before w.0 w.1 w.2) in
        (es, w.2, w.3, subst (λ (z : List Happening). IsFront j start.Body limits z) (sym (append_assoc (events_in s.stages ++ event.sc byte ∷ []) w.0 (w.2 ∷ []))) front, takes_here w.0 w.3 w.5, w.6)

    asks_here : (given : Option Posting) → asks_once given → AsksSome arrives returns j limits desk next from n
    asks_here given o = record {
      stages = s.stages;
      reached = r.config;
      stitches = s.leads;
      last = record { byte = byte; given = given } ∷ [];
      one_more = (at.config, sc_there);
      asked = with_ask given o;
      steps = omega (arith, s.count, k);
    }

    pub stopped_there : (y : ReadStop) → IsReached r → Meets took broke asks_once (Err y) byte at q used u mid after → StopsBy y after next n
    stopped_there y reached m = record {
      taken = halts y m.0 (known now beside to used r s reached) m.1 m.3;
      asks = asks_here (given_at m.0) m.2;
    }
