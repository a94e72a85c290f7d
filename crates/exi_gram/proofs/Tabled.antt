-- The compiled tables of a book stand for its states.
use Rattle.std.proofs.Common.{◌≡◌, ℕ, zero, suc, List, [], ◌∷◌, map, get_or, refl, sym, ap, ◌∙◌, subst}
use Rattle.std.proofs.lemmas.List.Elements.{All-nil}
use Rattle.exi_names.specs.StartTables.{Names}
use Rattle.exi_gram.specs.declared.code.Coded.{Coded as Kept}
use Rattle.exi_gram.specs.declared.options.Options.{Options}
use Rattle.exi_gram.specs.declared.second.SecondPart.{SecondPart}
use Rattle.exi_gram.specs.Additions.{made_states}
use Rattle.exi_gram.specs.Books.{Contents, IsBook, is_kept, placed_in, state_at, state_of}
use Rattle.exi_gram.specs.Codes.{Coded, HasMembers, IsClosedUp, Productions}
use Rattle.exi_gram.specs.Laws.{codes}
use Rattle.exi_gram.specs.Naming.{Entry}
use Rattle.exi_gram.specs.Switches.{strict}
use Rattle.exi_gram.specs.Tables.{IsTable, coded_of, items_of, no_productions, parts_of, table_of}
use Rattle.exi_gram.specs.Terminals.{Rule}
use Rattle.exi_gram.proofs.CodeLaws.{pruned_closed}

kept_codes : (cs : List Kept) → map (λ (c : Kept). parts_of c.code) cs ≡ map (λ (c : Coded Entry). c.parts) (map coded_of cs)
kept_codes [] = refl
kept_codes (c ∷ cs) = ap (λ (z : List (List ℕ)). parts_of c.code ∷ z) (kept_codes cs)

-- the codes that are kept are those of the state
pub state_codes : (cs : List Kept) (firsts : ℕ) (ss : List SecondPart) (lent : List Kept) (p : Productions Entry) → IsTable cs firsts ss → table_of (items_of cs) firsts ss ≡ p → lent ≡ cs → map (λ (c : Kept). parts_of c.code) lent ≡ codes p
state_codes cs firsts ss lent p t v l =
    ap (map (λ (c : Kept). parts_of c.code)) l ∙ kept_codes cs ∙ ap (map (λ (c : Coded Entry). c.parts)) t.codes ∙ ap codes v

-- no state of a book has an empty group
closed_or : (P : Productions Entry → Type 0) → P no_productions → (f : Productions Rule → Productions Entry) → ((p : Productions Rule) → P (f p)) → (ps : List (Productions Rule)) (state : ℕ) → P (get_or (map f ps) state no_productions)
closed_or P none f h [] state = none
closed_or P none f h (p ∷ ps) zero = h p
closed_or P none f h (p ∷ ps) (suc state) = closed_or P none f h ps state

none_closed : IsClosedUp {X = Entry} no_productions
none_closed = All-nil HasMembers

closed_in : (o : Options) (names : Names) (pss : List (List (Productions Rule))) (grammar state : ℕ) → IsClosedUp (get_or (get_or (map (map (state_of o names)) pss) grammar []) state no_productions)
closed_in o names [] grammar state = none_closed
closed_in o names (ps ∷ pss) zero state = closed_or IsClosedUp none_closed (state_of o names) (λ p. pruned_closed (is_kept o) (placed_in names p)) ps state
closed_in o names (ps ∷ pss) (suc grammar) state = closed_in o names pss grammar state

pub book_closed : (b : Contents) (grammar state : ℕ) → IsBook b → IsClosedUp (state_at b grammar state)
book_closed b grammar state h = subst (λ (z : List (List (Productions Entry))). IsClosedUp (get_or (get_or z grammar []) state no_productions)) (sym h.states) (closed_in b.options b.schema.names (made_states (strict b.options) b.schema) grammar state)
