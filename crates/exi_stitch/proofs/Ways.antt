-- Turns that lead on from the first configuration, with the events that they gave.
use Rattle.std.proofs.Common.{◌≡◌, ◌∙◌, ℕ, List, [], ◌∷◌, ◌++◌, length, Option, Some, None, refl, sym, ap, subst}
use Rattle.std.proofs.lemmas.List.{append_assoc}
use Rattle.exi_meter.specs.Metering.{Bounds}
use Rattle.exi_names.specs.Events.{Happening}
use Rattle.exi_processing.specs.Configurations.{Config, Setting}
use Rattle.exi_processing.specs.Handing.{listed}
use Rattle.exi_processing.specs.Reading.{IsFront}
use Rattle.exi_processing.specs.Runs.{IsRun, IsSequence, Job, Leads, ends, events_of, first, goes, turn}
use Rattle.exi_processing.specs.declared.end.End.{End}
use Rattle.exi_processing.specs.declared.start.Start.{Start}
use Rattle.exi_processing.proofs.Turning.{events_append, front_by, leads_push}
use Rattle.exi_stitch.specs.Moves.{IsOnTheWay}

pub leads_append : (g : Setting) (bytes : List ℕ) (xs ys : List (Option Happening)) (c mid last : Config) → Leads g bytes c xs mid → Leads g bytes mid ys last → Leads g bytes c (xs ++ ys) last
leads_append g bytes [] ys c mid last l m = subst (λ (z : Config). Leads g bytes z ys last) (sym l) m
leads_append g bytes (x ∷ xs) ys c mid last l m = (l.0, l.1, leads_append g bytes xs ys l.0 mid last l.2 m)

one_given : (e : Option Happening) → events_of (e ∷ []) ≡ listed e
one_given None = refl
one_given (Some e) = refl

pub events_push : (xs : List (Option Happening)) (e : Option Happening) → events_of (xs ++ e ∷ []) ≡ events_of xs ++ listed e
events_push xs e = events_append xs (e ∷ []) ∙ ap (λ (z : List Happening). events_of xs ++ z) (one_given e)

module _ (j : Job) (s : Start) (limits : Bounds) where
  abbrev g : Setting
  g = j.setting

  unfoldable pub on_the_way : (c next : Config) (es : List Happening) (e : Option Happening) → IsOnTheWay j s limits c es → turn g j.bytes c ≡ goes e next → IsOnTheWay j s limits next (es ++ listed e)
  on_the_way c next es e w h =
      let turns : List (Option Happening) = w.turns ++ e ∷ [] in
      let leads : Leads g j.bytes (first j s limits) turns next = leads_push g j.bytes (first j s limits) c next w.turns e w.leads h in
      let gave : es ++ listed e ≡ events_of turns = ap (λ (z : List Happening). z ++ listed e) w.gave ∙ sym (events_push w.turns e) in
      record { turns = turns; leads = leads; gave = gave; front = subst (λ (z : List Happening). IsFront j s limits z) (sym gave) (front_by j s limits turns next leads) }

  unfoldable pub ended_by : (c : Config) (es : List Happening) (e : Option Happening) (end : End) → IsOnTheWay j s limits c es → turn g j.bytes c ≡ ends e end → (count : ℕ) × IsSequence j s limits (es ++ listed e) end count
  ended_by c es e end w h =
      let turns : List (Option Happening) = w.turns ++ e ∷ [] in
      let run : IsRun g j.bytes (first j s limits) turns end = record { before = w.turns; reached = c; leads = w.leads; event = e; at_end = h; all = refl } in
      (length turns, (turns, run, ap (λ (z : List Happening). z ++ listed e) w.gave ∙ sym (events_push w.turns e), refl))

  unfoldable pub joins : (c next : Config) (es more : List Happening) → IsOnTheWay j s limits c es → (turns : List (Option Happening)) × Leads g j.bytes c turns next × (events_of turns ≡ more) → IsOnTheWay j s limits next (es ++ more)
  joins c next es more w h =
      let turns : List (Option Happening) = w.turns ++ h.0 in
      let leads : Leads g j.bytes (first j s limits) turns next = leads_append g j.bytes w.turns h.0 (first j s limits) c next w.leads h.1 in
      let gave : es ++ more ≡ events_of turns = ap (λ (z : List Happening). z ++ more) w.gave ∙ (ap (λ (z : List Happening). events_of w.turns ++ z) (sym h.2) ∙ sym (events_append w.turns h.0)) in
      record { turns = turns; leads = leads; gave = gave; front = subst (λ (z : List Happening). IsFront j s limits z) (sym gave) (front_by j s limits turns next leads) }

  unfoldable pub ends_with : (c : Config) (end : End) (es more : List Happening) → IsOnTheWay j s limits c es → (turns : List (Option Happening)) × IsRun g j.bytes c turns end × (events_of turns ≡ more) → (count : ℕ) × IsSequence j s limits (es ++ more) end count
  ends_with c end es more w h =
      let r = h.1 in
      let turns : List (Option Happening) = w.turns ++ h.0 in
      let leads : Leads g j.bytes (first j s limits) (w.turns ++ r.before) r.reached = leads_append g j.bytes w.turns r.before (first j s limits) c r.reached w.leads r.leads in
      let all : turns ≡ (w.turns ++ r.before) ++ r.event ∷ [] = ap (λ (z : List (Option Happening)). w.turns ++ z) r.all ∙ sym (append_assoc w.turns r.before (r.event ∷ [])) in
      let run : IsRun g j.bytes (first j s limits) turns end = record { before = w.turns ++ r.before; reached = r.reached; leads = leads; event = r.event; at_end = r.at_end; all = all } in
      let gave : es ++ more ≡ events_of turns = ap (λ (z : List Happening). z ++ more) w.gave ∙ (ap (λ (z : List Happening). events_of w.turns ++ z) (sym h.2) ∙ sym (events_append w.turns h.0)) in
      (length turns, (turns, run, gave, refl))
