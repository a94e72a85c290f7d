-- The first slot of a list in which a part may stand, from a place on.
use Rattle.std.proofs.Common.{◌≡◌, ℕ, ◌+◌, ◌<◌, ◌≤◌, Bool, true, false, cond, Option, Some, None, List, ◌∷◌, drop, get_or, length, map, sym, ap, ◌∙◌}
use Rattle.std.proofs.lemmas.List.{drop-map, drop_all, drop_more}
use Rattle.xsd_nodes.specs.PartNames.{is_among}
use Rattle.xsd_nodes.specs.declared.part.Part.{Part}
use Rattle.xsd_slots.specs.Shown.{shown}
use Rattle.xsd_slots.specs.Slots.{Place, slot_of}
use Rattle.xsd_slots.specs.declared.slot.Slot.{Slot}

pub slots_at : (d : Slot) (ss : List Slot) (i : ℕ) → i < length ss → drop i (map shown ss) ≡ shown (get_or ss i d) ∷ drop (i + 1) (map shown ss)
slots_at d ss i less = drop-map shown i ss ∙ ap (map shown) (drop_more ss i d less) ∙ ap (λ (t : List Place). shown (get_or ss i d) ∷ t) (sym (drop-map shown (i + 1) ss))

pub slot_found : (d : Slot) (ss : List Slot) (part : Part) (i : ℕ) (r : Bool) (all : Option Place) → i < length ss → r ≡ true → r ≡ is_among (get_or ss i d).parts.now part → slot_of (drop i (map shown ss)) part ≡ all → Some (shown (get_or ss i d)) ≡ all
slot_found d ss part i r all less yes_is e q =
    ap (λ b. cond b (Some (shown (get_or ss i d))) (slot_of (drop (i + 1) (map shown ss)) part)) (sym yes_is ∙ e)
    ∙ ap (λ (l : List Place). slot_of l part) (sym (slots_at d ss i less))
    ∙ q

pub slot_passed : (d : Slot) (ss : List Slot) (part : Part) (i : ℕ) (r : Bool) (all : Option Place) → i < length ss → r ≡ false → r ≡ is_among (get_or ss i d).parts.now part → slot_of (drop i (map shown ss)) part ≡ all → slot_of (drop (i + 1) (map shown ss)) part ≡ all
slot_passed d ss part i r all less no_is e q =
    ap (λ b. cond b (Some (shown (get_or ss i d))) (slot_of (drop (i + 1) (map shown ss)) part)) (sym no_is ∙ e)
    ∙ ap (λ (l : List Place). slot_of l part) (sym (slots_at d ss i less))
    ∙ q

pub slot_ended : (ss : List Slot) (part : Part) (i : ℕ) (all : Option Place) → length ss ≤ i → slot_of (drop i (map shown ss)) part ≡ all → None ≡ all
slot_ended ss part i all le q =
    ap (λ (l : List Place). slot_of l part) (sym (drop-map shown i ss ∙ ap (map shown) (drop_all i ss le))) ∙ q
