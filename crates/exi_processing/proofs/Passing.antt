-- A fragment that charges more than the limits leave where it stands: one of them is passed inside of it.
use Rattle.std.proofs.Common.{◌≡◌, ◌⊎◌, inl, inr, ℕ, ◌+◌, ◌*◌, ◌≤◌, Bool, true, false, List, [], ◌∷◌, ◌++◌, length, Option, Some, None, Err, refl, sym, ap, ◌∙◌, subst, arith}
use Rattle.std.proofs.lemmas.Bool.{leb-true, le-leb}
use Rattle.exi_bits.specs.Bits.{IsBytes}
use Rattle.exi_bits.specs.declared.fault.Kind.TheVariants as kind
use Rattle.exi_meter.specs.Metering.{Bounds, Metering, nothing_used, tally_fits, text_fits, with_text}
use Rattle.exi_names.specs.Events.{Happening}
use Rattle.exi_names.specs.StartTables.{IsStart}
use Rattle.exi_names.specs.declared.names.QName.{QName}
use Rattle.exi_typed.specs.ReadStates.{Failure}
use Rattle.exi_typed.proofs.ContextItems.{told}
use Rattle.exi_processing.specs.Changes.{same_texts}
use Rattle.exi_processing.specs.Configurations.{Body, Config, IsSetting, Setting}
use Rattle.exi_processing.specs.Laws.{IsWithinLimits}
use Rattle.exi_processing.specs.Metered.{Due, due_fits, limit_of}
use Rattle.exi_processing.specs.OneEvent.{one}
use Rattle.exi_processing.specs.Plans.{Given}
use Rattle.exi_processing.specs.Runs.{IsRun, Job, Leads, done, ends, events_of, first, goes, is_end, turn}
use Rattle.exi_processing.specs.Shifts.{PassesAt, StopsAtRoot, StopsBy, StopsInside, TooMuchStops, WhereSo}
use Rattle.exi_processing.specs.Sound.{IsSound}
use Rattle.exi_processing.specs.Splices.{AtFragment, other_root, root_of, tally_of}
use Rattle.exi_processing.specs.declared.end.End.{End}
use Rattle.exi_processing.specs.declared.end.End.TheVariants as end
use Rattle.exi_processing.specs.declared.frames.Outer.{Outer}
use Rattle.exi_processing.specs.declared.frames.Outer.TheVariants as outer
use Rattle.exi_processing.specs.declared.start.Start.TheVariants as start
use Rattle.exi_processing.proofs.FirstTurns.{Rooted, Started, rooted}
use Rattle.exi_processing.proofs.InStep.{IsRoot, Lasts, Nests, Step, one_splits, shifted}
use Rattle.exi_processing.proofs.Sequences.{front_of_run}
use Rattle.exi_processing.proofs.Shifts.{Fair, Passes, Room, room_fits, shifted_meter, used_of}
use Rattle.exi_processing.proofs.Soundness.{steps_keep_sound}
use Rattle.exi_processing.proofs.SpliceRuns.{IsAlone, aligned_at, alone_lasts, nests_first, nests_over, nests_start, not_end, other_end, some_is, some_none, sound0, started_there, starts}
use Rattle.exi_processing.proofs.Splicing.{LastDone, LastFault, below_same, fragment_end, goes_is, last_is, late_root, levels_of, one_start, over_lasts, step_of, true_false, turn_fails, turn_goes}
use Rattle.exi_processing.proofs.Turning.{events_append}

abbrev IsOver : Outer → Type 0
IsOver o = o ≡ outer.AloneOver

not_over : outer.AloneFirst ≡ outer.AloneOver → ⊥
not_over e = absurd cc

module _ (j : Job) (byte : ℕ) (c : Config) (limits : Bounds) (at : AtFragment j.setting byte c) (octets : IsBytes j.bytes) (book : IsSetting j.setting) (names : IsStart j.setting.schema.names) (within : IsWithinLimits c.meter.limits c.meter.used) where
  module _ (last : Config) (x : Option Happening) (e : End) (at_end : turn j.setting j.bytes last ≡ ends x e) (much : tally_fits c.meter (tally_of e) ≡ false) where
    abbrev g : Setting
    g = j.setting

    abbrev whole : Config → Config
    whole f = shifted c at.body at.bodies f

    abbrev start_at : Config
    start_at = first j (start.Fragment byte) limits

    -- from here a limit is passed
    record Stops (f : Config) : Type 0 where
      pub before : List (Option Happening)
      pub reached : Config
      pub leads : Leads g j.bytes f before reached
      pub due : Due
      pub meter : Metering
      pub over : due_fits due (shifted_meter c.meter meter) ≡ false
      pub run : IsRun g j.bytes (whole f) (before ++ None ∷ []) (end.Fault (record { kind = limit_of due; bit = reached.place }) (shifted_meter c.meter meter).used c.root)

    abbrev passed : ℕ → Due → Metering → Failure
    passed bit due meter = record { fault = record { kind = limit_of due; bit = bit }; meter = shifted_meter c.meter meter }

    stops_here : (f : Config) → Passes f.place c.meter (one g j.bytes (whole f)) → Stops f
    unfolding shifted
    stops_here f p = record {
      before = [];
      reached = f;
      leads = refl;
      due = p.due;
      meter = p.meter;
      over = p.over;
      run = record { before = []; reached = whole f; leads = refl; event = None; at_end = turn_fails g j.bytes (whole f) (passed f.place p.due p.meter) p.is; all = refl };
    }

    stops_later : (f next : Config) (y : Option Happening) → turn g j.bytes f ≡ goes y next → turn g j.bytes (whole f) ≡ goes y (whole next) → Stops next → Stops f
    stops_later f next y h k s = record {
      before = y ∷ s.before;
      reached = s.reached;
      leads = (next, h, s.leads);
      due = s.due;
      meter = s.meter;
      over = s.over;
      run = record {
        before = y ∷ s.run.before;
        reached = s.run.reached;
        leads = (whole next, k, s.run.leads);
        event = s.run.event;
        at_end = s.run.at_end;
        all = ap (λ (z : List (Option Happening)). y ∷ z) s.run.all;
      };
    }

    or_later : (f : Config) → Passes f.place c.meter (one g j.bytes (whole f)) ⊎ Room c.meter (used_of (one g j.bytes f)) → (Room c.meter (used_of (one g j.bytes f)) → Stops f) → Stops f
    or_later f (inl p) more = stops_here f p
    or_later f (inr r) more = more r

    -- the end has no room
    no_room : Room c.meter (tally_of e) → ⊥
    no_room r = true_false (tally_fits c.meter (tally_of e)) (room_fits c.meter (tally_of e) r) much

    ended : (f : Config) → f.start ≡ start.Fragment byte → Room c.meter (used_of (one g j.bytes f)) → LastDone g j.bytes f x e ⊎ LastFault g j.bytes f x e → ⊥
    unfolding used_of
    ended f from r (inl d) =
        let k : e ≡ done d.given.1 = d.end_is ∙ fragment_end g j.bytes byte d.given.1 (one_start g j.bytes f d.given d.is ∙ from) in
        let used : Room c.meter (used_of (told d.given)) = subst (λ z. Room c.meter (used_of z)) d.is r in
        no_room (subst (λ (z : End). Room c.meter (tally_of z)) (sym k) used)
    ended f from r (inr q) =
        let used : Room c.meter (used_of (Err q.failure)) = subst (λ z. Room c.meter (used_of z)) q.is r in
        no_room (subst (λ (z : End). Room c.meter (tally_of z)) (sym q.end_is) used)

    last_at : (f : Config) → f ≡ last → LastDone g j.bytes f x e ⊎ LastFault g j.bytes f x e
    last_at f l = last_is g j.bytes f x e (subst (λ (z : Config). turn g j.bytes z ≡ ends x e) (sym l) at_end)

    next_room : (f : Config) (y : Option Happening) (next : Config) → one g j.bytes f ≡ told (y, next) → Room c.meter (used_of (one g j.bytes f)) → Room c.meter next.meter.used
    unfolding used_of
    next_room f y next h r = (let used : Room c.meter (used_of (told (y, next))) = subst (λ z. Room c.meter (used_of z)) h r in used)

    module _ (P : Outer → Type 0) (lasts : Lasts P) (f : Config) (sound : IsSound g f) (nests : Nests P f.outer f.aside) where
      splits : Room c.meter f.meter.used → Passes f.place c.meter (one g j.bytes (whole f)) ⊎ Room c.meter (used_of (one g j.bytes f))
      splits now = one_splits c at.body at.bodies P lasts g j.bytes book names f.meter.used now f sound nests (levels_of g f sound) now

      steps : (y : Option Happening) (next : Config) → one g j.bytes f ≡ told (y, next) → Room c.meter next.meter.used → Step c at.body at.bodies P lasts f.place f.root (told (y, next)) (one g j.bytes (whole f))
      unfolding Fair
      steps y next h r = step_of g j.bytes byte c at.body at.bodies at.going book names P lasts next.meter.used r f sound nests (told (y, next)) h (below_same next.meter.used)

    -- ---- behind the first element
    abbrev lasts_over : Lasts IsOver
    lasts_over = over_lasts g j.bytes byte c at.body at.bodies at.going book names

    late_goes : (f : Config) (y : Option Happening) (next : Config) → turn g j.bytes f ≡ goes y next → is_end next.outer ≡ false → Step c at.body at.bodies IsOver lasts_over f.place f.root (told (y, next)) (one g j.bytes (whole f)) → (Nests IsOver next.outer next.aside → Stops next) → Stops f
    unfolding Step shifted
    late_goes f y next h alive (inl q) more = stops_later f next y h (turn_goes g j.bytes (whole f) (y, whole next) q.is q.going) (more q.nests)
    late_goes f y next h alive (inr (inl q)) more = absurd (true_false (is_end next.outer) (ap (λ (w : Outer). is_end w) q.ended) alive)
    late_goes f y next h alive (inr (inr q)) more = absurd (not_over q.first.there)

    late_stops : (turns : List (Option Happening)) (f : Config) → IsSound g f → Nests IsOver f.outer f.aside → f.start ≡ start.Fragment byte → Room c.meter f.meter.used → Leads g j.bytes f turns last → Stops f
    late_stops [] f sound nests from now l = or_later f (splits IsOver lasts_over f sound nests now) (λ r. absurd (ended f from r (last_at f l)))
    late_stops (y ∷ turns) f sound nests from now l =
        let n = goes_is g j.bytes f y l.0 l.1 in
        let from_next : l.0.start ≡ start.Fragment byte = one_start g j.bytes f (y, l.0) n.is ∙ from in
        let sound_next : IsSound g l.0 = steps_keep_sound g j.bytes f l.0 y book names sound n.is in
        or_later f (splits IsOver lasts_over f sound nests now)
        (λ r. late_goes f y l.0 l.1 n.going (steps IsOver lasts_over f sound nests y l.0 n.is (next_room f y l.0 n.is r)) (λ k. late_stops turns l.0 sound_next k from_next (next_room f y l.0 n.is r) l.2))

    -- ---- the first turn
    room_first : Room c.meter (nothing_used limits).used
    room_first = record { events = omega (arith, within.events); units = omega (arith, within.text); depth = omega (arith, within.depth, at.deepest) }

    record First (y : Option Happening) (f1 : Config) : Type 0 where
      pub started : Started start_at (y, f1) (8 * byte)
      pub turn_is : turn g j.bytes (whole start_at) ≡ goes y (whole f1)
      pub sound : IsSound g f1
      pub from : f1.start ≡ start.Fragment byte
      pub room : Room c.meter f1.meter.used
      pub nests : Nests IsAlone f1.outer f1.aside

    goes_first : (y : Option Happening) (f1 : Config) → is_end f1.outer ≡ false → f1.root ≡ None → Step c at.body at.bodies IsAlone alone_lasts start_at.place start_at.root (told (y, f1)) (one g j.bytes (whole start_at)) → turn g j.bytes (whole start_at) ≡ goes y (whole f1)
    unfolding Step shifted
    goes_first y f1 alive none (inl q) = turn_goes g j.bytes (whole start_at) (y, whole f1) q.is q.going
    goes_first y f1 alive none (inr (inl q)) = absurd (true_false (is_end f1.outer) (ap (λ (w : Outer). is_end w) q.ended) alive)
    goes_first y f1 alive none (inr (inr q)) = absurd (some_none q.first.name (sym q.first.root ∙ none))

    first_turn : (y : Option Happening) (f1 : Config) → turn g j.bytes start_at ≡ goes y f1 → First y f1
    first_turn y f1 h =
        let n = goes_is g j.bytes start_at y f1 h in
        let st = started_there j byte c limits at octets book names (y, f1) n.is in
        let sound : IsSound g start_at = sound0 j byte c limits at octets book names in
        let room : Room c.meter f1.meter.used = subst (λ (m : Metering). Room c.meter m.used) (sym st.meter) room_first in
        record {
          started = st;
          turn_is = goes_first y f1 (not_end j byte c limits at octets book names f1.outer outer.AloneFirst st.outer_is refl) st.root (steps IsAlone alone_lasts start_at sound (nests_start j byte c limits at octets book names) y f1 n.is room);
          sound = steps_keep_sound g j.bytes start_at f1 y book names sound n.is;
          from = one_start g j.bytes start_at (y, f1) n.is;
          room = room;
          nests = nests_first j byte c limits at octets book names f1 st.outer_is st.aside;
        }

    -- ---- the second
    -- limits so wide that all has room tell that the root stays
    abbrev wide : Config
    wide = record c { meter = record { limits = record { events = (tally_of e).events; text = (tally_of e).text; depth = (tally_of e).deepest }; used = record { events = 0; text = 0; deepest = 0 }; level = 0 } }

    wide_room : Room wide.meter (tally_of e)
    wide_room = record { events = omega arith; units = omega arith; depth = omega arith }

    record Second (f1 : Config) (z : Option Happening) (f2 : Config) : Type 0 where
      pub is : one g j.bytes f1 ≡ told (z, f2)
      pub taken : Rooted f1 (z, f2)
      pub root : root_of e ≡ f2.root
      pub sound : IsSound g f2
      pub from : f2.start ≡ start.Fragment byte

    second_given : (y : Option Happening) (f1 : Config) (given : Given) → First y f1 → one g j.bytes f1 ≡ told given → Rooted f1 given
    second_given y f1 given st h = rooted g j.bytes f1 given octets at.no_prefixes (aligned_at j byte c limits at octets book names f1 st.started.place_is) book names st.sound (record { elements = st.started.elements; outer_is = st.started.outer_is; aside = st.started.aside }) h

    second_turn : (y : Option Happening) (f1 : Config) (z : Option Happening) (f2 : Config) (rest : List (Option Happening)) → First y f1 → turn g j.bytes f1 ≡ goes z f2 → Leads g j.bytes f2 rest last → Second f1 z f2
    second_turn y f1 z f2 rest st h l =
        let n = goes_is g j.bytes f1 z f2 h in
        let rt = second_given y f1 (z, f2) st n.is in
        let sound : IsSound g f2 = steps_keep_sound g j.bytes f1 f2 z book names st.sound n.is in
        let from : f2.start ≡ start.Fragment byte = one_start g j.bytes f1 (z, f2) n.is ∙ st.from in
        record {
          is = n.is;
          taken = rt;
          root = late_root g j.bytes byte wide at.body at.bodies at.going book names (tally_of e) wide_room last x e refl at_end rest f2 sound (nests_over j byte c limits at octets book names f2 rt.outer_is rt.aside) from l;
          sound = sound;
          from = from;
        }

    over_goes : (o : Outer) → o ≡ outer.AloneOver → is_end o ≡ false
    over_goes o h = not_end j byte c limits at octets book names o outer.AloneOver h refl

    abbrev SecondStep : Config → Option Happening → Config → Type 0
    SecondStep f1 z f2 = Step c at.body at.bodies IsAlone alone_lasts f1.place f1.root (told (z, f2)) (one g j.bytes (whole f1))

    -- ---- the fragment of this element, or of none
    module _ (same : (name : QName) → root_of e ≡ Some name → same_texts at.body.name name ≡ true) where
      by_second : (z : Option Happening) (f1 f2 : Config) (rest : List (Option Happening)) → turn g j.bytes f1 ≡ goes z f2 → Second f1 z f2 → Room c.meter f2.meter.used → Leads g j.bytes f2 rest last → SecondStep f1 z f2 → Stops f1
      unfolding Step shifted
      by_second z f1 f2 rest h s room l (inl q) = stops_later f1 f2 z h (turn_goes g j.bytes (whole f1) (z, whole f2) q.is q.going) (late_stops rest f2 s.sound (nests_over j byte c limits at octets book names f2 s.taken.outer_is s.taken.aside) s.from room l)
      by_second z f1 f2 rest h s room l (inr (inl q)) = absurd (true_false (is_end f2.outer) (ap (λ (w : Outer). is_end w) q.ended) (over_goes f2.outer s.taken.outer_is))
      by_second z f1 f2 rest h s room l (inr (inr q)) = absurd (true_false (same_texts at.body.name q.first.name) (same q.first.name (s.root ∙ q.first.root)) q.other)

      stops_first : (y : Option Happening) (f1 : Config) (rest : List (Option Happening)) → First y f1 → Leads g j.bytes f1 rest last → Stops f1
      stops_first y f1 [] st l = or_later f1 (splits IsAlone alone_lasts f1 st.sound st.nests st.room) (λ r. absurd (ended f1 st.from r (last_at f1 l)))
      stops_first y f1 (z ∷ rest) st l =
          let s = second_turn y f1 z l.0 rest st l.1 l.2 in
          or_later f1 (splits IsAlone alone_lasts f1 st.sound st.nests st.room)
          (λ r. by_second z f1 l.0 rest l.1 s (next_room f1 z l.0 s.is r) l.2 (steps IsAlone alone_lasts f1 st.sound st.nests z l.0 s.is (next_room f1 z l.0 s.is r)))

      stops_start : (before : List (Option Happening)) → Leads g j.bytes start_at before last → Stops start_at
      stops_start [] l = or_later start_at (splits IsAlone alone_lasts start_at (sound0 j byte c limits at octets book names) (nests_start j byte c limits at octets book names) room_first) (λ r. absurd (ended start_at refl r (last_at start_at l)))
      stops_start (y ∷ rest) l =
          let st = first_turn y l.0 l.1 in
          stops_later start_at l.0 y l.1 st.turn_is (stops_first y l.0 rest st l.2)

    -- ---- the fragment of another element
    module _ (name : QName) (root : root_of e ≡ Some name) (other : same_texts at.body.name name ≡ false) where
      abbrev units : ℕ
      units = length name.uri + length name.local

      none_root : (f : Config) → f.root ≡ None → LastDone g j.bytes f x e ⊎ LastFault g j.bytes f x e → ((given : Given) → one g j.bytes f ≡ told given → is_end given.1.outer ≡ false) → ⊥
      none_root f none (inl d) alive = true_false (is_end d.given.1.outer) d.over (alive d.given d.is)
      none_root f none (inr q) alive = some_none name (sym root ∙ ap (λ (z : End). root_of z) q.end_is ∙ none)

      -- both turns, from where the fragment stands
      ends_at : (y : Option Happening) (f1 : Config) (d : End) → First y f1 → turn g j.bytes (whole f1) ≡ ends None d → IsRun j.setting j.bytes c (None ∷ None ∷ []) d
      ends_at y f1 d st h =
          let run : IsRun j.setting j.bytes (whole start_at) (y ∷ None ∷ []) d = record { before = y ∷ []; reached = whole f1; leads = (whole f1, st.turn_is, refl); event = None; at_end = h; all = refl } in
          let from_c : IsRun j.setting j.bytes c (y ∷ None ∷ []) d = subst (λ (w : Config). IsRun j.setting j.bytes w (y ∷ None ∷ []) d) (starts j byte c limits at) run in
          subst (λ (w : Option Happening). IsRun j.setting j.bytes c (w ∷ None ∷ []) d) st.started.none from_c

      root_refused : (y z : Option Happening) (f1 f2 : Config) → First y f1 → Second f1 z f2 → f2.meter ≡ with_text f1.meter units → SecondStep f1 z f2 → IsRun j.setting j.bytes c (None ∷ None ∷ []) (other_root c name)
      unfolding Step shifted
      root_refused y z f1 f2 st s text (inl q) = by_root q.rooted
        where
          by_root : (f2.root ≡ f1.root) ⊎ ((r : IsRoot c at.body at.bodies IsAlone alone_lasts f1.place f1.root (z, f2)) × (same_texts at.body.name r.name ≡ true)) → IsRun j.setting j.bytes c (None ∷ None ∷ []) (other_root c name)
          by_root (inl h) = absurd (some_none name (sym root ∙ s.root ∙ h ∙ st.started.root))
          by_root (inr h) =
              let is : h.0.name ≡ name = some_is h.0.name name (sym h.0.root ∙ sym s.root ∙ root) in
              absurd (true_false (same_texts at.body.name name) (subst (λ (w : QName). same_texts at.body.name w ≡ true) is h.1) other)
      root_refused y z f1 f2 st s text (inr (inl q)) = absurd (true_false (is_end f2.outer) (ap (λ (w : Outer). is_end w) q.ended) (over_goes f2.outer s.taken.outer_is))
      root_refused y z f1 f2 st s text (inr (inr q)) =
          let failure : Failure = record { fault = record { kind = kind.ScRoot; bit = f1.place }; meter = shifted_meter c.meter f2.meter } in
          ends_at y f1 (other_root c name) st (turn_fails g j.bytes (whole f1) failure q.is ∙ ap (λ (w : End). ends None w) (other_end j byte c limits at octets book names f1 f2 name st.started.place_is st.started.meter text))

      text_room : (f1 f2 : Config) → f1.meter ≡ nothing_used limits → f2.meter ≡ with_text f1.meter units → text_fits c.meter units ≡ true → Room c.meter f2.meter.used
      text_room f1 f2 none text h =
          let m : f2.meter ≡ with_text (nothing_used limits) units = text ∙ ap (λ (z : Metering). with_text z units) none in
          let le : c.meter.used.text + units ≤ c.meter.limits.text = leb-true (c.meter.used.text + units) c.meter.limits.text h in
          let r : Room c.meter (with_text (nothing_used limits) units).used = record { events = omega (arith, within.events); units = omega (arith, le); depth = omega (arith, within.depth, at.deepest) } in
          subst (λ (z : Metering). Room c.meter z.used) (sym m) r

      room_text : (f1 f2 : Config) → f1.meter ≡ nothing_used limits → f2.meter ≡ with_text f1.meter units → Room c.meter f2.meter.used → text_fits c.meter units ≡ true
      room_text f1 f2 none text r =
          let m : f2.meter ≡ with_text (nothing_used limits) units = text ∙ ap (λ (z : Metering). with_text z units) none in
          let k : Room c.meter (with_text (nothing_used limits) units).used = subst (λ (z : Metering). Room c.meter z.used) m r in
          le-leb (c.meter.used.text + units) c.meter.limits.text (omega (arith, k.units))

      passes_at : (y z : Option Happening) (f1 f2 : Config) → First y f1 → Second f1 z f2 → f2.meter ≡ with_text f1.meter units → text_fits c.meter units ≡ false → Passes f1.place c.meter (one g j.bytes (whole f1)) ⊎ Room c.meter (used_of (one g j.bytes f1)) → PassesAt j c (None ∷ None ∷ []) c.place
      unfolding shifted shifted_meter
      passes_at y z f1 f2 st s text wide_of (inl p) =
          let there : f1.place ≡ c.place = st.started.place_is ∙ sym at.place in
          let run : IsRun j.setting j.bytes c (None ∷ None ∷ []) (end.Fault (record { kind = limit_of p.due; bit = f1.place }) (shifted_meter c.meter p.meter).used c.root) = ends_at y f1 (end.Fault (record { kind = limit_of p.due; bit = f1.place }) (shifted_meter c.meter p.meter).used c.root) st (turn_fails g j.bytes (whole f1) (passed f1.place p.due p.meter) p.is) in
          record {
            due = p.due;
            meter = shifted_meter c.meter p.meter;
            limits = refl;
            over = p.over;
            run = subst (λ (n : ℕ). IsRun j.setting j.bytes c (None ∷ None ∷ []) (end.Fault (record { kind = limit_of p.due; bit = n }) (shifted_meter c.meter p.meter).used c.root)) there run;
          }
      passes_at y z f1 f2 st s text wide_of (inr r) = absurd (true_false (text_fits c.meter units) (room_text f1 f2 st.started.meter text (next_room f1 z f2 s.is r)) wide_of)

      by_text : (y z : Option Happening) (f1 f2 : Config) → First y f1 → Second f1 z f2 → f2.meter ≡ with_text f1.meter units → (b : Bool) → text_fits c.meter units ≡ b → WhereSo b (IsRun j.setting j.bytes c (None ∷ None ∷ []) (other_root c name)) (PassesAt j c (None ∷ None ∷ []) c.place)
      by_text y z f1 f2 st s text true h = root_refused y z f1 f2 st s text (steps IsAlone alone_lasts f1 st.sound st.nests z f2 s.is (text_room f1 f2 st.started.meter text h))
      by_text y z f1 f2 st s text false h = passes_at y z f1 f2 st s text h (splits IsAlone alone_lasts f1 st.sound st.nests st.room)

      root_second : (y : Option Happening) (f1 : Config) (rest : List (Option Happening)) → First y f1 → Leads g j.bytes f1 rest last → StopsAtRoot j c name
      root_second y f1 [] st l = absurd (none_root f1 st.started.root (last_at f1 l) (λ given h. over_goes given.1.outer (second_given y f1 given st h).outer_is))
      root_second y f1 (z ∷ rest) st l =
          let s = second_turn y f1 z l.0 rest st l.1 l.2 in
          let is : s.taken.name ≡ name = some_is s.taken.name name (sym s.taken.root ∙ sym s.root ∙ root) in
          let text : l.0.meter ≡ with_text f1.meter units = s.taken.meter ∙ ap (λ (w : QName). with_text f1.meter (length w.uri + length w.local)) is in
          by_text y z f1 l.0 st s text (text_fits c.meter units) refl

      root_stops : (before : List (Option Happening)) → Leads g j.bytes start_at before last → StopsAtRoot j c name
      root_stops [] l = absurd (none_root start_at refl (last_at start_at l) (λ given h. not_end j byte c limits at octets book names given.1.outer outer.AloneFirst (started_there j byte c limits at octets book names given h).outer_is refl))
      root_stops (y ∷ rest) l = root_second y l.0 rest (first_turn y l.0 l.1) l.2

  -- ---- the law, of a run of the fragment
  module _ (es : List Happening) (e : End) (turns : List (Option Happening)) (run : IsRun j.setting j.bytes (first j (start.Fragment byte) limits) turns e) (events : es ≡ events_of turns) (much : tally_fits c.meter (tally_of e) ≡ false) where
    inside : ((name : QName) → root_of e ≡ Some name → same_texts at.body.name name ≡ true) → StopsInside j byte c limits es
    unfolding shifted_meter
    inside same =
        let s = stops_start run.reached run.event e run.at_end much same run.before run.leads in
        let more = front_of_run j.setting j.bytes (first j (start.Fragment byte) limits) s.reached s.before turns e s.leads run in
        record {
          before = s.before;
          reached = s.reached;
          leads = s.leads;
          passes = record {
            due = s.due;
            meter = shifted_meter c.meter s.meter;
            limits = refl;
            over = s.over;
            run = subst (λ (w : Config). IsRun j.setting j.bytes w (s.before ++ None ∷ []) (end.Fault (record { kind = limit_of s.due; bit = s.reached.place }) (shifted_meter c.meter s.meter).used c.root)) (starts j byte c limits at) s.run;
          };
          rest = events_of more.0;
          front = events ∙ ap (λ (z : List (Option Happening)). events_of z) more.1 ∙ events_append s.before more.0;
        }

    by_same : (name : QName) → root_of e ≡ Some name → (b : Bool) → same_texts at.body.name name ≡ b → WhereSo b (StopsInside j byte c limits es) (StopsAtRoot j c name)
    by_same name h true k = inside (λ other q. subst (λ (w : QName). same_texts at.body.name w ≡ true) (some_is name other (sym h ∙ q)) k)
    by_same name h false k = root_stops run.reached run.event e run.at_end much name h k run.before run.leads

    by_root : (root : Option QName) → root_of e ≡ root → StopsBy j byte c limits es (at.body ∷ at.bodies) root
    by_root None h = inside (λ name k. absurd (some_none name (sym k ∙ h)))
    by_root (Some name) h = by_same name h (same_texts at.body.name name) refl

pub too_much_stops : TooMuchStops
too_much_stops j byte c limits es e count octets book names at within seq over =
    subst (λ (z : List Body). StopsBy j byte c limits es z (root_of e)) (sym at.aside) (by_root j byte c limits at octets book names within es e seq.0 seq.1 seq.2 over (root_of e) refl)
