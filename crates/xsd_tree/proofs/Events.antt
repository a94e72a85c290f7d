-- The event at a place of a list.
use Rattle.std.proofs.Common.{◌≡◌, ℕ, ◌+◌, ◌<◌, ◌≤◌, List, [], ◌∷◌, drop, get_or, length, map, sym, ap, ◌∙◌}
use Rattle.std.proofs.lemmas.List.{drop-map, drop_all, drop_more}
use Rattle.exi_names.specs.Events.{happens}
use Rattle.exi_names.specs.declared.event.Event.{Event}

pub event_at : (events : List Event) (i : ℕ) (e : Event) → i < length events → e ≡ get_or events i e → drop i (map happens events) ≡ happens e ∷ drop (i + 1) (map happens events)
event_at events i e less is =
    drop-map happens i events
    ∙ ap (map happens) (drop_more events i e less)
    ∙ ap (λ d. happens d ∷ map happens (drop (i + 1) events)) (sym is)
    ∙ ap (λ es. happens e ∷ es) (sym (drop-map happens (i + 1) events))

pub no_event : (events : List Event) (i : ℕ) → length events ≤ i → drop i (map happens events) ≡ []
no_event events i le = drop-map happens i events ∙ ap (map happens) (drop_all i events le)
