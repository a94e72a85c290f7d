-- A fragment that was read by itself is taken where it stands: the reader goes on as it would have gone.
use Rattle.std.proofs.Common.{◌≡◌, ◌⊎◌, inl, inr, ℕ, zero, suc, ◌+◌, ◌*◌, max, Bool, true, false, cond, List, [], ◌∷◌, ◌++◌, length, Option, Some, None, Err, refl, sym, ap, ◌∙◌, subst, arith}
use Rattle.std.specs.Prelude.{◌&&◌, slice_get}
use Rattle.exi_bits.specs.declared.align.Align.{Align}
use Rattle.exi_bits.specs.declared.align.Align.TheVariants as align
use Rattle.exi_bits.specs.declared.fault.Kind.TheVariants as kind
use Rattle.exi_bits.specs.Bits.{IsAligned, IsBytes, Spot, bits, le_bytes, number_bits}
use Rattle.exi_bits.specs.Widths.{width_from}
use Rattle.exi_builtin.specs.Learning.{Learning, nothing_learned}
use Rattle.exi_gram.specs.Codes.{Coded, code_at, code_bits}
use Rattle.exi_gram.specs.Laws.{SpellsCode, codes}
use Rattle.exi_gram.specs.Switches.{align_of}
use Rattle.exi_gram.proofs.CodeLaws.{spelled_item}
use Rattle.exi_meter.specs.Metering.{Bounds, Metering, nothing_used, tally_fits, with_tally, with_text}
use Rattle.exi_meter.specs.declared.tally.Tally.{Tally}
use Rattle.exi_names.specs.Events.{Happening}
use Rattle.exi_names.specs.StartTables.{IsStart}
use Rattle.exi_names.specs.declared.names.QName.{QName}
use Rattle.exi_tables.specs.Partitions.{Partitions}
use Rattle.exi_typed.specs.ReadStates.{Failure}
use Rattle.exi_typed.proofs.ContextItems.{fine, told}
use Rattle.exi_processing.specs.Changes.{is_alone, resumed, same_texts}
use Rattle.exi_processing.specs.Configurations.{Body, Config, IsSetting, Setting, rules_in, rules_of, spot_in}
use Rattle.exi_processing.specs.OneEvent.{one}
use Rattle.exi_processing.specs.Plans.{Given}
use Rattle.exi_processing.specs.Rules.{Rule, fragment_start, start_document}
use Rattle.exi_processing.specs.Runs.{IsRun, Job, Leads, ends, events_of, failed_end, first, goes, is_end, turn}
use Rattle.exi_processing.specs.Sound.{IsSound}
use Rattle.exi_processing.specs.Splices.{AtFragment, GoesAs, SplicesAreRuns, ends_by_limit, on_behind, other_root, root_of, spliced, tally_of, with_root, wrong_root}
use Rattle.exi_processing.specs.declared.end.End.{End}
use Rattle.exi_processing.specs.declared.end.End.TheVariants as end
use Rattle.exi_processing.specs.declared.frames.Element.{Element}
use Rattle.exi_processing.specs.declared.frames.Outer.{Outer}
use Rattle.exi_processing.specs.declared.frames.Outer.TheVariants as outer
use Rattle.exi_processing.specs.declared.start.Start.TheVariants as start
use Rattle.exi_processing.proofs.Bodies.{moved_alone}
use Rattle.exi_processing.proofs.ClosedUp.{closed_up}
use Rattle.exi_processing.proofs.FirstTurns.{Begins, Rooted, Started, rooted, started}
use Rattle.exi_processing.proofs.InStep.{IsRoot, Lasts, Nests, Step, shifted}
use Rattle.exi_processing.proofs.Reached.{first_is_sound}
use Rattle.exi_processing.proofs.Shifts.{Room, metering_is, room_is, shifted_meter}
use Rattle.exi_processing.proofs.Soundness.{steps_keep_sound}
use Rattle.exi_processing.proofs.Splicing.{Concludes, LastDone, LastFault, fair_goes, fault_concludes, goes_is, in_front, last_is, late, late_root, one_start, step_of, true_false, turn_fails, turn_goes}

pub some_is : {X : Type 0} (x y : X) → Some x ≡ Some y → x ≡ y
some_is x y e = cc

pub some_none : {X : Type 0} (x : X) → Some x ≡ None → ⊥
some_none x e = absurd cc

-- ---- SD takes no bits
no_bits : (a : Align) → code_bits a (codes fragment_start) (0 ∷ []) ≡ []
unfolding code_bits number_bits le_bytes bits width_from
no_bits align.Bits = refl
no_bits align.Bytes = refl

abbrev first_code : Coded Rule
first_code = record { parts = 0 ∷ []; item = record { on = start_document; to = 1; inner = None } }

start_text : (a : Align) (r : Rule) (place : ℕ) (parts : List ℕ) (text : List Bool) → slice_get (first_code ∷ []) place ≡ Some (record { parts = parts; item = r }) → text ≡ code_bits a (codes fragment_start) parts → text ≡ []
start_text a r zero parts text h e = e ∙ ap (λ (z : List ℕ). code_bits a (codes fragment_start) z) (sym (ap (λ (z : Coded Rule). z.parts) (some_is first_code (record { parts = parts; item = r }) h))) ∙ no_bits a
start_text a r (suc place) parts text h e = absurd cc

start_bits : (a : Align) (r : Rule) (text : List Bool) → SpellsCode fragment_start a r text → text ≡ []
start_bits a r text h = start_text a r h.place h.parts text h.there h.bits

module _ (g : Setting) (bytes : List ℕ) (book : IsSetting g) (octets : IsBytes bytes) where
  starts_there : (f : Config) (r : Rule) (s : Spot) → IsAligned (align_of g.options) (spot_in bytes f) → Begins f → code_at (align_of g.options) (rules_of g f) (spot_in bytes f) ≡ fine (r, s) → s.place ≡ f.place
  starts_there f r s al b h =
      let k = (spelled_item (rules_of g f) (closed_up g f book) (align_of g.options)).takes r (spot_in bytes f) s octets al h in
      let rules : rules_of g f ≡ fragment_start = ap (λ (z : List Element). rules_in g f.learned z f.outer) b.elements ∙ ap (λ (z : Outer). rules_in g f.learned [] z) b.outer_is in
      let none : k.text ≡ [] = start_bits (align_of g.options) r k.text (subst (λ z. SpellsCode z (align_of g.options) r k.text) rules k.spelled) in
      let n : length k.text ≡ 0 = ap (λ (z : List Bool). length z) none in
      omega (arith, k.front.place, n)

-- ---- in front of the enclosing body
abbrev pub IsAlone : Outer → Type 0
IsAlone o = is_alone o ≡ true

pub alone_lasts : Lasts IsAlone
alone_lasts = record { moves = λ to es o h. moved_alone to es o ∙ h; alone = λ o h. h }

module _ (j : Job) (byte : ℕ) (c : Config) (limits : Bounds) (at : AtFragment j.setting byte c) where
  abbrev pub f0 : Config
  f0 = first j (start.Fragment byte) limits

  abbrev made_of : ℕ → Metering → Partitions → List Element → Outer → Learning → Bool → List Body → Config
  made_of place m p es o l after aside = record c { place = place; meter = m; tables = p; elements = es; outer = o; learned = l; after_start = after; aside = aside }

  meter_is : shifted_meter c.meter (nothing_used limits) ≡ c.meter
  unfolding shifted_meter
  meter_is =
      let e : c.meter.used.events + 0 ≡ c.meter.used.events = omega arith in
      let u : c.meter.used.text + 0 ≡ c.meter.used.text = omega arith in
      let d : max c.meter.used.deepest (c.meter.level + 0) ≡ c.meter.used.deepest = omega (arith, at.deepest) in
      let l : c.meter.level + 0 ≡ c.meter.level = omega arith in
      metering_is c.meter.limits (c.meter.used.events + 0) c.meter.used.events (c.meter.used.text + 0) c.meter.used.text (max c.meter.used.deepest (c.meter.level + 0)) c.meter.used.deepest (c.meter.level + 0) c.meter.level e u d l

  pub starts : shifted c at.body at.bodies f0 ≡ c
  unfolding shifted
  starts =
      ap (λ (z : ℕ). made_of z (shifted_meter c.meter (nothing_used limits)) f0.tables [] outer.AloneStart nothing_learned false (at.body ∷ at.bodies)) (sym at.place)
      ∙ ap (λ (z : Metering). made_of c.place z f0.tables [] outer.AloneStart nothing_learned false (at.body ∷ at.bodies)) meter_is
      ∙ ap (λ (z : Partitions). made_of c.place c.meter z [] outer.AloneStart nothing_learned false (at.body ∷ at.bodies)) (sym at.tables)
      ∙ ap (λ (z : List Element). made_of c.place c.meter c.tables z outer.AloneStart nothing_learned false (at.body ∷ at.bodies)) (sym at.elements)
      ∙ ap (λ (z : Outer). made_of c.place c.meter c.tables c.elements z nothing_learned false (at.body ∷ at.bodies)) (sym at.outer_is)
      ∙ ap (λ (z : Learning). made_of c.place c.meter c.tables c.elements c.outer z false (at.body ∷ at.bodies)) (sym at.learned)
      ∙ ap (λ (z : Bool). made_of c.place c.meter c.tables c.elements c.outer c.learned z (at.body ∷ at.bodies)) (sym at.after_start)
      ∙ ap (λ (z : List Body). made_of c.place c.meter c.tables c.elements c.outer c.learned c.after_start z) (sym at.aside)

  module _ (octets : IsBytes j.bytes) (book : IsSetting j.setting) (names : IsStart j.setting.schema.names) where
    abbrev pub g : Setting
    g = j.setting

    abbrev pub whole : Config → Config
    whole f = shifted c at.body at.bodies f

    pub sound0 : IsSound g f0
    sound0 = first_is_sound j (start.Fragment byte) limits names

    pub begins0 : Begins f0
    begins0 = record { elements = refl; outer_is = refl; aside = refl; root = refl }

    pub aligned_at : (f : Config) → f.place ≡ 8 * byte → IsAligned (align_of g.options) (spot_in j.bytes f)
    aligned_at f h k = omega (arith, h)

    pub not_end : (o p : Outer) → o ≡ p → is_end p ≡ false → is_end o ≡ false
    not_end o p h k = ap (λ (w : Outer). is_end w) h ∙ k

    -- another element: where the fragment stands its name is refused
    pub other_end : (f1 f2 : Config) (name : QName) → f1.place ≡ 8 * byte → f1.meter ≡ nothing_used limits → f2.meter ≡ with_text f1.meter (length name.uri + length name.local) → failed_end (whole f1) (record { fault = record { kind = kind.ScRoot; bit = f1.place }; meter = shifted_meter c.meter f2.meter }) ≡ other_root c name
    unfolding shifted shifted_meter
    other_end f1 f2 name place none text =
        let n : ℕ = length name.uri + length name.local in
        let d : max c.meter.used.deepest (c.meter.level + 0) ≡ c.meter.used.deepest = omega (arith, at.deepest) in
        let e0 : c.meter.used.events + 0 ≡ c.meter.used.events = omega arith in
        let t : c.meter.used.text + (0 + n) ≡ c.meter.used.text + n = omega arith in
        let m : f2.meter ≡ with_text (nothing_used limits) n = text ∙ ap (λ (z : Metering). with_text z n) none in
        ap (λ (z : ℕ). end.Fault (record { kind = kind.ScRoot; bit = z }) (with_tally c.meter f2.meter.used).used c.root) (place ∙ sym at.place)
        ∙ ap (λ (z : Metering). end.Fault (record { kind = kind.ScRoot; bit = c.place }) (with_tally c.meter z.used).used c.root) m
        ∙ ap (λ (z : ℕ). end.Fault (record { kind = kind.ScRoot; bit = c.place }) (record { events = z; text = c.meter.used.text + (0 + n); deepest = max c.meter.used.deepest (c.meter.level + 0) }) c.root) e0
        ∙ ap (λ (z : ℕ). end.Fault (record { kind = kind.ScRoot; bit = c.place }) (record { events = c.meter.used.events; text = z; deepest = max c.meter.used.deepest (c.meter.level + 0) }) c.root) t
        ∙ ap (λ (z : ℕ). end.Fault (record { kind = kind.ScRoot; bit = c.place }) (record { events = c.meter.used.events; text = c.meter.used.text + n; deepest = z }) c.root) d

    -- behind the element of this name
    pub nests_over : (f2 : Config) → f2.outer ≡ outer.AloneOver → f2.aside ≡ [] → Nests (λ o. o ≡ outer.AloneOver) f2.outer f2.aside
    unfolding Nests
    nests_over f2 h k = subst (λ (w : List Body). Nests (λ o. o ≡ outer.AloneOver) f2.outer w) (sym k) h

    pub nests_first : (f1 : Config) → f1.outer ≡ outer.AloneFirst → f1.aside ≡ [] → Nests IsAlone f1.outer f1.aside
    unfolding Nests
    nests_first f1 h k = subst (λ (w : List Body). Nests IsAlone f1.outer w) (sym k) (ap (λ (w : Outer). is_alone w) h)

    pub nests_start : Nests IsAlone f0.outer f0.aside
    unfolding Nests
    nests_start = refl

    pub started_there : (given : Given) → one g j.bytes f0 ≡ told given → Started f0 given (8 * byte)
    started_there given h =
        let s = started g j.bytes f0 given book names sound0 begins0 h in
        subst (λ (w : ℕ). Started f0 given w) (s.4 ∙ starts_there g j.bytes book octets f0 s.1 s.2 (aligned_at f0 refl) begins0 s.3) s.5

    module _ (e : End) (no_limit : ends_by_limit e ≡ false) (room : Room c.meter (tally_of e)) where
      -- as the definition says it
      concluded : (d : End) (turns : List (Option Happening)) → Concludes g j.bytes byte c at.body at.bodies at.going book names d f0 turns → GoesAs g j.bytes c (events_of turns) (on_behind c d)
      unfolding Concludes
      concluded (end.Done bit tally root) turns h =
          let k : Leads g j.bytes c turns (resumed (at.body ∷ at.bodies) (record c { place = bit; meter = with_tally c.meter tally; after_start = false })) = subst (λ (z : Config). Leads g j.bytes z turns (resumed (at.body ∷ at.bodies) (record c { place = bit; meter = with_tally c.meter tally; after_start = false }))) starts h in
          (turns, subst (λ (z : List Body). Leads g j.bytes c turns (resumed z (record c { place = bit; meter = with_tally c.meter tally; after_start = false }))) (sym at.aside) k, refl)
      concluded (end.Fault fault tally root) turns h = (turns, subst (λ (z : Config). IsRun g j.bytes z turns (end.Fault fault (with_tally c.meter tally).used c.root)) starts h, refl)

      -- what the root says
      without_root : (turns : List (Option Happening)) → root_of e ≡ None → GoesAs g j.bytes c (events_of turns) (on_behind c e) → GoesAs g j.bytes c (events_of turns) (spliced c e)
      without_root turns r h =
          subst (λ (z : List Body). GoesAs g j.bytes c (events_of turns) (with_root z c e (root_of e))) (sym at.aside)
          (subst (λ (z : Option QName). GoesAs g j.bytes c (events_of turns) (with_root (at.body ∷ at.bodies) c e z)) (sym r) h)

      rooted_as : (turns : List (Option Happening)) (name : QName) (same : Bool) (es : List Happening) → root_of e ≡ Some name → same_texts at.body.name name ≡ same → GoesAs g j.bytes c es (cond same (on_behind c e) (wrong_root (other_root c name))) → GoesAs g j.bytes c es (spliced c e)
      rooted_as turns name same es r k h =
          subst (λ (z : List Body). GoesAs g j.bytes c es (with_root z c e (root_of e))) (sym at.aside)
          (subst (λ (z : Option QName). GoesAs g j.bytes c es (with_root (at.body ∷ at.bodies) c e z)) (sym r)
          (subst (λ (z : Bool). GoesAs g j.bytes c es (cond z (on_behind c e) (wrong_root (other_root c name)))) (sym k) h))

      -- ---- from the start
      module _ (last : Config) (x : Option Happening) (at_end : turn g j.bytes last ≡ ends x e) where
        abbrev tally : Tally
        tally = tally_of e

        abbrev Alone : Config → Option Happening → Config → Type 0
        Alone f y next = Step c at.body at.bodies IsAlone alone_lasts f.place f.root (told (y, next)) (one g j.bytes (whole f))

        -- a fault at one of the first two turns
        early_fault : (f : Config) (sound : IsSound g f) (nests : Nests IsAlone f.outer f.aside) → f.root ≡ None → LastDone g j.bytes f x e ⊎ LastFault g j.bytes f x e → ((given : Given) → one g j.bytes f ≡ told given → is_end given.1.outer ≡ false) → Concludes g j.bytes byte c at.body at.bodies at.going book names e f (x ∷ []) × (root_of e ≡ None)
        early_fault f sound nests none (inl d) alive = absurd (true_false (is_end d.given.1.outer) d.over (alive d.given d.is))
        early_fault f sound nests none (inr q) alive = (fault_concludes g j.bytes byte c at.body at.bodies at.going book names IsAlone alone_lasts tally room f sound nests x e q refl no_limit, ap (λ (z : End). root_of z) q.end_is ∙ none)

        only_goes : (f : Config) (y : Option Happening) (next : Config) → is_end next.outer ≡ false → next.root ≡ None → Alone f y next → (turn g j.bytes (whole f) ≡ goes y (whole next)) × Nests IsAlone next.outer next.aside
        unfolding Step shifted
        only_goes f y next alive none (inl q) = (turn_goes g j.bytes (whole f) (y, whole next) q.is q.going, q.nests)
        only_goes f y next alive none (inr (inl q)) = absurd (true_false (is_end next.outer) (ap (λ (w : Outer). is_end w) q.ended) alive)
        only_goes f y next alive none (inr (inr q)) = absurd (some_none q.first.name (sym q.first.root ∙ none))

        same_root : (y z : Option Happening) (f1 f2 : Config) (rest : List (Option Happening)) (name : QName) → turn g j.bytes (whole f0) ≡ goes y (whole f1) → turn g j.bytes (whole f1) ≡ goes z (whole f2) → f2.root ≡ Some name → same_texts at.body.name name ≡ true → f2.outer ≡ outer.AloneOver → f2.aside ≡ [] → IsSound g f2 → f2.start ≡ start.Fragment byte → Leads g j.bytes f2 rest last → GoesAs g j.bytes c (events_of (y ∷ z ∷ (rest ++ x ∷ []))) (spliced c e)
        same_root y z f1 f2 rest name one_turn two_turn root same out aside sound2 from2 l =
            let nests = nests_over f2 out aside in
            let later = late g j.bytes byte c at.body at.bodies at.going book names tally room last x e refl at_end no_limit rest f2 sound2 nests from2 l in
            let two = in_front g j.bytes byte c at.body at.bodies at.going book names e f1 f2 z (rest ++ x ∷ []) two_turn later in
            let both = in_front g j.bytes byte c at.body at.bodies at.going book names e f0 f1 y (z ∷ (rest ++ x ∷ [])) one_turn two in
            let root_is = late_root g j.bytes byte c at.body at.bodies at.going book names tally room last x e refl at_end rest f2 sound2 nests from2 l in
            rooted_as [] name true (events_of (y ∷ z ∷ (rest ++ x ∷ []))) (root_is ∙ root) same (concluded e (y ∷ z ∷ (rest ++ x ∷ [])) both)

        other_name : (y z : Option Happening) (f1 f2 : Config) (rest : List (Option Happening)) (name : QName) → turn g j.bytes (whole f0) ≡ goes y (whole f1) → y ≡ None → f1.place ≡ 8 * byte → f1.meter ≡ nothing_used limits → f2.meter ≡ with_text f1.meter (length name.uri + length name.local) → one g j.bytes (whole f1) ≡ Err (record { fault = record { kind = kind.ScRoot; bit = f1.place }; meter = shifted_meter c.meter f2.meter }) → f2.root ≡ Some name → same_texts at.body.name name ≡ false → f2.outer ≡ outer.AloneOver → f2.aside ≡ [] → IsSound g f2 → f2.start ≡ start.Fragment byte → Leads g j.bytes f2 rest last → (es : List Happening) → GoesAs g j.bytes c es (spliced c e)
        other_name y z f1 f2 rest name one_turn none_y place meter text fails root same out aside sound2 from2 l es =
            let root_is = late_root g j.bytes byte c at.body at.bodies at.going book names tally room last x e refl at_end rest f2 sound2 (nests_over f2 out aside) from2 l in
            let failure : Failure = record { fault = record { kind = kind.ScRoot; bit = f1.place }; meter = shifted_meter c.meter f2.meter } in
            let ends_so : turn g j.bytes (whole f1) ≡ ends None (other_root c name) = turn_fails g j.bytes (whole f1) failure fails ∙ ap (λ (w : End). ends None w) (other_end f1 f2 name place meter text) in
            let run : IsRun g j.bytes (whole f0) (y ∷ None ∷ []) (other_root c name) = record { before = y ∷ []; reached = whole f1; leads = (whole f1, one_turn, refl); event = None; at_end = ends_so; all = refl } in
            let from_c : IsRun g j.bytes c (y ∷ None ∷ []) (other_root c name) = subst (λ (w : Config). IsRun g j.bytes w (y ∷ None ∷ []) (other_root c name)) starts run in
            rooted_as [] name false es (root_is ∙ root) same (y ∷ None ∷ [], from_c, ap (λ (w : Option Happening). events_of (w ∷ None ∷ [])) none_y)

        -- the second turn
        by_second : (y z : Option Happening) (f1 f2 : Config) (rest : List (Option Happening)) → turn g j.bytes (whole f0) ≡ goes y (whole f1) → y ≡ None → z ≡ None → f1.place ≡ 8 * byte → f1.root ≡ None → f1.meter ≡ nothing_used limits → Rooted f1 (z, f2) → IsSound g f2 → f2.start ≡ start.Fragment byte → Leads g j.bytes f2 rest last → Alone f1 z f2 → GoesAs g j.bytes c (events_of (y ∷ z ∷ (rest ++ x ∷ []))) (spliced c e)
        unfolding Step shifted
        by_second y z f1 f2 rest one_turn none_y none_z place none meter rt sound2 from2 l (inl q) = by_root q.rooted
          where
            by_root : (f2.root ≡ f1.root) ⊎ ((r : IsRoot c at.body at.bodies IsAlone alone_lasts f1.place f1.root (z, f2)) × (same_texts at.body.name r.name ≡ true)) → GoesAs g j.bytes c (events_of (y ∷ z ∷ (rest ++ x ∷ []))) (spliced c e)
            by_root (inl h) = absurd (some_none rt.name (sym rt.root ∙ h ∙ none))
            by_root (inr h) = same_root y z f1 f2 rest h.0.name one_turn (turn_goes g j.bytes (whole f1) (z, whole f2) q.is q.going) h.0.root h.1 rt.outer_is rt.aside sound2 from2 l
        by_second y z f1 f2 rest one_turn none_y none_z place none meter rt sound2 from2 l (inr (inl q)) = absurd (true_false (is_end f2.outer) (ap (λ (w : Outer). is_end w) q.ended) (not_end f2.outer outer.AloneOver rt.outer_is refl))
        by_second y z f1 f2 rest one_turn none_y none_z place none meter rt sound2 from2 l (inr (inr q)) =
            let name_is : rt.name ≡ q.first.name = some_is rt.name q.first.name (sym rt.root ∙ q.first.root) in
            let text : f2.meter ≡ with_text f1.meter (length q.first.name.uri + length q.first.name.local) = rt.meter ∙ ap (λ (w : QName). with_text f1.meter (length w.uri + length w.local)) name_is in
            other_name y z f1 f2 rest q.first.name one_turn none_y place meter text q.is q.first.root q.other rt.outer_is rt.aside sound2 from2 l (events_of (y ∷ z ∷ (rest ++ x ∷ [])))

        from_first : (y : Option Happening) (f1 : Config) (rest : List (Option Happening)) → turn g j.bytes (whole f0) ≡ goes y (whole f1) → y ≡ None → Started f0 (y, f1) (8 * byte) → IsSound g f1 → f1.start ≡ start.Fragment byte → Leads g j.bytes f1 rest last → GoesAs g j.bytes c (events_of (y ∷ (rest ++ x ∷ []))) (spliced c e)
        from_first y f1 [] one_turn none_y st sound1 from1 l =
            let alive : (given : Given) → one g j.bytes f1 ≡ told given → is_end given.1.outer ≡ false = λ given h. not_end given.1.outer outer.AloneOver (rooted g j.bytes f1 given octets at.no_prefixes (aligned_at f1 st.place_is) book names sound1 (record { elements = st.elements; outer_is = st.outer_is; aside = st.aside }) h).outer_is refl in
            let k = early_fault f1 sound1 (nests_first f1 st.outer_is st.aside) st.root (last_is g j.bytes f1 x e (subst (λ (w : Config). turn g j.bytes w ≡ ends x e) (sym l) at_end)) alive in
            without_root (y ∷ x ∷ []) k.1 (concluded e (y ∷ x ∷ []) (in_front g j.bytes byte c at.body at.bodies at.going book names e f0 f1 y (x ∷ []) one_turn k.0))
        from_first y f1 (z ∷ rest) one_turn none_y st sound1 from1 l =
            let n = goes_is g j.bytes f1 z l.0 l.1 in
            let rt = rooted g j.bytes f1 (z, l.0) octets at.no_prefixes (aligned_at f1 st.place_is) book names sound1 (record { elements = st.elements; outer_is = st.outer_is; aside = st.aside }) n.is in
            let from2 : l.0.start ≡ start.Fragment byte = one_start g j.bytes f1 (z, l.0) n.is ∙ from1 in
            let sound2 : IsSound g l.0 = steps_keep_sound g j.bytes f1 l.0 z book names sound1 n.is in
            let fair = fair_goes g j.bytes byte c at.body at.bodies at.going book names tally room last x e refl at_end f1 z l.0 rest from2 l.2 in
            by_second y z f1 l.0 rest one_turn none_y rt.none st.place_is st.root st.meter rt sound2 from2 l.2 (step_of g j.bytes byte c at.body at.bodies at.going book names IsAlone alone_lasts tally room f1 sound1 (nests_first f1 st.outer_is st.aside) (told (z, l.0)) n.is fair)

        from_start : (before : List (Option Happening)) → Leads g j.bytes f0 before last → GoesAs g j.bytes c (events_of (before ++ x ∷ [])) (spliced c e)
        from_start [] l =
            let alive : (given : Given) → one g j.bytes f0 ≡ told given → is_end given.1.outer ≡ false = λ given h. not_end given.1.outer outer.AloneFirst (started_there given h).outer_is refl in
            let k = early_fault f0 sound0 (nests_start) refl (last_is g j.bytes f0 x e (subst (λ (w : Config). turn g j.bytes w ≡ ends x e) (sym l) at_end)) alive in
            without_root (x ∷ []) k.1 (concluded e (x ∷ []) k.0)
        from_start (y ∷ rest) l =
            let n = goes_is g j.bytes f0 y l.0 l.1 in
            let st = started_there (y, l.0) n.is in
            let from1 : l.0.start ≡ start.Fragment byte = one_start g j.bytes f0 (y, l.0) n.is in
            let sound1 : IsSound g l.0 = steps_keep_sound g j.bytes f0 l.0 y book names sound0 n.is in
            let fair = fair_goes g j.bytes byte c at.body at.bodies at.going book names tally room last x e refl at_end f0 y l.0 rest from1 l.2 in
            let s = only_goes f0 y l.0 (not_end l.0.outer outer.AloneFirst st.outer_is refl) st.root (step_of g j.bytes byte c at.body at.bodies at.going book names IsAlone alone_lasts tally room f0 sound0 nests_start (told (y, l.0)) n.is fair) in
            from_first y l.0 rest s.0 st.none st sound1 from1 l.2

-- ---- the law
both_true : (x y : Bool) → (x && y) ≡ true → (x ≡ true) × (y ≡ true)
both_true true y e = (refl, e)
both_true false y e = absurd cc

not_true : (b : Bool) → cond b false true ≡ true → b ≡ false
not_true true e = absurd cc
not_true false e = refl

pub splices_are_runs : SplicesAreRuns
splices_are_runs j byte c limits es e count octets book names at seq fit =
    let r = seq.1 in
    let k = both_true (cond (ends_by_limit e) false true) (tally_fits c.meter (tally_of e)) fit in
    let goes_so = from_start j byte c limits at octets book names e (not_true (ends_by_limit e) k.0) (room_is c.meter (tally_of e) k.1) r.reached r.event r.at_end r.before r.leads in
    subst (λ (z : List Happening). GoesAs j.setting j.bytes c z (spliced c e)) (sym (seq.2 ∙ ap (λ (z : List (Option Happening)). events_of z) r.all)) goes_so
