-- A stitched reading is sequential processing.
use Rattle.std.proofs.Common.{◌≡◌, ◌≤◌, ◌∙◌, ℕ, suc, ◌+◌, List, [], ◌∷◌, ◌++◌, length, Option, Some, refl, sym, ap, subst, arith}
use Rattle.std.proofs.lemmas.List.{append_assoc, append-nil, length-append}
use Rattle.exi_bits.specs.Bits.{IsBytes}
use Rattle.exi_meter.specs.Metering.{Bounds}
use Rattle.exi_names.specs.Events.{Happening}
use Rattle.exi_names.specs.Events as event
use Rattle.exi_names.specs.StartTables.{IsStart}
use Rattle.exi_processing.specs.Configurations.{Config, IsSetting, Setting}
use Rattle.exi_processing.specs.Handing.{listed}
use Rattle.exi_processing.specs.Reading.{IsFront}
use Rattle.exi_processing.specs.Runs.{IsRun, IsSequence, Job, events_of, first, goes, turn}
use Rattle.exi_processing.specs.Splices.{AtFragment, GoesAs, Spliced, ended, on, spliced, wrong_root}
use Rattle.exi_processing.specs.declared.end.End.{End}
use Rattle.exi_processing.specs.declared.start.Start.{Start}
use Rattle.exi_processing.proofs.Begins.{sc_leads_to_fragment}
use Rattle.exi_processing.proofs.SpliceRuns.{splices_are_runs}
use Rattle.exi_processing.proofs.Turning.{front_by}
use Rattle.exi_stitch.proofs.Ways.{ended_by, ends_with, joins, on_the_way}
use Rattle.exi_stitch.specs.Moves.{IsOnTheWay, Posting}
use Rattle.exi_stitch.specs.Stitches.{IsStitched, MayJoin, Meeting, Stage, StageEnds, StageLeads, StitchedIsSequential, Stitches, StitchesGiveFronts, GoesOn, EndsThere, entered, events_at, events_in, joined, misplaced, shown_at, stood, turned}

-- ---- lists of stages
pub events_push : (ss : List Stage) (s : Stage) → events_in (ss ++ s ∷ []) ≡ events_in ss ++ events_at s
events_push [] s = append-nil (events_at s)
events_push (x ∷ ss) s = ap (λ (z : List Happening). events_at x ++ z) (events_push ss s) ∙ sym (append_assoc (events_at x) (events_in ss) (events_at s))

pub stitches_push : (j : Job) (first last next : Config) (ss : List Stage) (s : Stage) → Stitches j first ss last → StageLeads j last s next → Stitches j first (ss ++ s ∷ []) next
stitches_push j first last next [] s l h = subst (λ (c : Config). Stitches j c (s ∷ []) next) (sym l) (next, h, refl)
stitches_push j first last next (x ∷ ss) s l h = (l.0, l.1, stitches_push j l.0 last next ss s l.2 h)

module _ (j : Job) (s : Start) (limits : Bounds) (octets : IsBytes j.bytes) (book : IsSetting j.setting) (names : IsStart j.setting.schema.names) where
  abbrev g : Setting
  g = j.setting

  -- turns lead here, with these events, in no fewer turns than there were stages
  pub record Way (c : Config) (es : List Happening) (n : ℕ) : Type 0 where
    pub way : IsOnTheWay j s limits c es
    pub few : n ≤ length way.turns

  pub record Ended (end : End) (es : List Happening) (n : ℕ) : Type 0 where
    pub count : ℕ
    pub sequence : IsSequence j s limits es end count
    pub few : n ≤ count

  one_more : (n : ℕ) (xs ys : List (Option Happening)) → n ≤ length xs → n ≤ length (xs ++ ys)
  one_more n xs ys h = let k : length (xs ++ ys) ≡ length xs + length ys = length-append xs ys in omega (arith, h, k)

  turn_more : (n : ℕ) (xs : List (Option Happening)) (e : Option Happening) → n ≤ length xs → suc n ≤ length (xs ++ e ∷ [])
  turn_more n xs e h = let k : length (xs ++ e ∷ []) ≡ length xs + 1 = length-append xs (e ∷ []) in omega (arith, h, k)

  pub by_turn : (c next : Config) (es : List Happening) (n : ℕ) (e : Option Happening) → Way c es n → turn g j.bytes c ≡ goes e next → Way next (es ++ listed e) (suc n)
  unfolding on_the_way
  by_turn c next es n e w h = record { way = on_the_way j s limits c next es e w.way h; few = turn_more n w.way.turns e w.few }

  pub at_fragment : (c at : Config) (es : List Happening) (n byte : ℕ) → Way c es n → turn g j.bytes c ≡ goes (Some (event.sc byte)) at → AtFragment g byte at
  at_fragment c at es n byte w h = sc_leads_to_fragment j s limits w.way.turns c at byte book names w.way.leads h

  goes_as : (byte : ℕ) (at : Config) (p : Posting) → AtFragment g byte at → MayJoin j byte at p → GoesAs g j.bytes at p.events (spliced at p.end)
  goes_as byte at p a m = splices_are_runs j byte at m.outcome.0 p.events p.end m.outcome.1.count octets book names a m.outcome.1.sequence m.fitting

  goes_is : (at : Config) (es : List Happening) (x y : Spliced) → x ≡ y → GoesAs g j.bytes at es x → GoesAs g j.bytes at es y
  goes_is at es x y e h = subst (λ (z : Spliced). GoesAs g j.bytes at es z) e h

  -- behind a joined posting
  pub by_meeting : (byte : ℕ) (at next : Config) (es : List Happening) (n : ℕ) (m : Meeting) → Way at es n → AtFragment g byte at → GoesOn j byte at m next → Way next (es ++ shown_at m) n
  unfolding joins
  by_meeting byte at next es n (entered given) w a h = subst (λ (z : List Happening). Way next z n) (sym (append-nil es)) (subst (λ (z : Config). Way z es n) (sym h.1) w)
  by_meeting byte at next es n (joined p) w a h =
      let r = goes_is at p.events (spliced at p.end) (on next) h.1 (goes_as byte at p a h.0) in
      record { way = joins j s limits at next es p.events w.way r; few = one_more n w.way.turns r.0 w.few }
  by_meeting byte at next es n (misplaced p) w a h = absurd h

  ended_with : (at : Config) (end : End) (es more : List Happening) (n : ℕ) → Way at es n → (turns : List (Option Happening)) × IsRun g j.bytes at turns end × (events_of turns ≡ more) → Ended end (es ++ more) n
  unfolding ends_with
  ended_with at end es more n w r =
      let q = ends_with j s limits at end es more w.way r in
      record { count = q.0; sequence = q.1; few = one_more n w.way.turns r.0 w.few }

  pub by_ending : (byte : ℕ) (at : Config) (end : End) (es : List Happening) (n : ℕ) (m : Meeting) → Way at es n → AtFragment g byte at → EndsThere j byte at m end → Ended end (es ++ shown_at m) n
  by_ending byte at end es n (entered given) w a h = absurd h
  by_ending byte at end es n (joined p) w a h = ended_with at end es p.events n w (goes_is at p.events (spliced at p.end) (ended end) h.1 (goes_as byte at p a h.0))
  by_ending byte at end es n (misplaced p) w a h = ended_with at end es [] n w (goes_is at p.events (spliced at p.end) (wrong_root end) h.1 (goes_as byte at p a h.0))

  -- ---- stages
  regroup : (es fs : List Happening) (byte : ℕ) → (es ++ event.sc byte ∷ []) ++ fs ≡ es ++ event.sc byte ∷ fs
  regroup es fs byte = append_assoc es (event.sc byte ∷ []) fs

  by_stage : (c next : Config) (es : List Happening) (n : ℕ) (x : Stage) → Way c es n → StageLeads j c x next → Way next (es ++ events_at x) (suc n)
  by_stage c next es n (turned e) w h = by_turn c next es n e w h.0
  by_stage c next es n (stood byte m) w h =
      let there : Way h.0 (es ++ event.sc byte ∷ []) (suc n) = by_turn c h.0 es n (Some (event.sc byte)) w h.1 in
      subst (λ (z : List Happening). Way next z (suc n)) (regroup es (shown_at m) byte) (by_meeting byte h.0 next (es ++ event.sc byte ∷ []) (suc n) m there (at_fragment c h.0 es n byte w h.1) h.2)

  by_last : (c : Config) (end : End) (es : List Happening) (n : ℕ) (x : Stage) → Way c es n → StageEnds j c x end → Ended end (es ++ events_at x) (suc n)
  unfolding ended_by
  by_last c end es n (turned e) w h =
      let q = ended_by j s limits c es e end w.way h in
      record { count = q.0; sequence = q.1; few = turn_more n w.way.turns e w.few }
  by_last c end es n (stood byte m) w h =
      let there : Way h.0 (es ++ event.sc byte ∷ []) (suc n) = by_turn c h.0 es n (Some (event.sc byte)) w h.1 in
      subst (λ (z : List Happening). Ended end z (suc n)) (regroup es (shown_at m) byte) (by_ending byte h.0 end (es ++ event.sc byte ∷ []) (suc n) m there (at_fragment c h.0 es n byte w h.1) h.2)

  by_stages : (ss : List Stage) (c last : Config) (es : List Happening) (n : ℕ) → Way c es n → Stitches j c ss last → Way last (es ++ events_in ss) (n + length ss)
  by_stages [] c last es n w l =
      let same : n + length {A = Stage} [] ≡ n = omega arith in
      subst (λ (z : ℕ). Way last (es ++ []) z) (sym same) (subst (λ (z : List Happening). Way last z n) (sym (append-nil es)) (subst (λ (z : Config). Way z es n) l w))
  by_stages (x ∷ ss) c last es n w l =
      let same : suc n + length ss ≡ n + length (x ∷ ss) = omega arith in
      subst (λ (z : ℕ). Way last (es ++ events_in (x ∷ ss)) z) same
      (subst (λ (z : List Happening). Way last z (suc n + length ss)) (append_assoc es (events_at x) (events_in ss)) (by_stages ss l.0 last (es ++ events_at x) (suc n) (by_stage c l.0 es n x w l.1) l.2))

  begun : Way (first j s limits) [] 0
  begun =
      let front : IsFront j s limits [] = front_by j s limits [] (first j s limits) refl in
      record { way = record { turns = []; leads = refl; gave = refl; front = front }; few = omega arith }

  pub stitched_way : (ss : List Stage) (c : Config) → Stitches j (first j s limits) ss c → Way c (events_in ss) (length ss)
  stitched_way ss c l = subst (λ (z : ℕ). Way c (events_in ss) z) none (by_stages ss (first j s limits) c [] 0 begun l)
    where
      none : 0 + length ss ≡ length ss
      none = omega arith

  pub stitched_ended : (ss : List Stage) (end : End) → IsStitched j (first j s limits) ss end → Ended end (events_in ss) (length ss)
  stitched_ended ss end i =
      let w = stitched_way i.before i.reached i.leads in
      let q : Ended end (events_in i.before ++ events_at i.stage) (suc (length i.before)) = by_last i.reached end (events_in i.before) (length i.before) i.stage w i.at_end in
      let k : length (i.before ++ i.stage ∷ []) ≡ length i.before + 1 = length-append i.before (i.stage ∷ []) in
      let m : suc (length i.before) ≡ length (i.before ++ i.stage ∷ []) = omega (arith, k) in
      subst (λ (z : List Stage). Ended end (events_in z) (length z)) (sym i.all) (subst (λ (z : ℕ). Ended end (events_in (i.before ++ i.stage ∷ [])) z) m (subst (λ (z : List Happening). Ended end z (suc (length i.before))) (sym (events_push i.before i.stage)) q))

pub stitches_give_fronts : StitchesGiveFronts
stitches_give_fronts j start limits stages c octets book names l = (stitched_way j start limits octets book names stages c l).way.front

pub stitched_is_sequential : StitchedIsSequential
stitched_is_sequential j start limits stages end octets book names i =
    let q = stitched_ended j start limits octets book names stages end i in
    (q.count, q.sequence, q.few)
