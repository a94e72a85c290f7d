-- What holds of each state of a book by the options alone.
use Rattle.std.proofs.Common.{◌≡◌, ℕ, zero, suc, Bool, true, false, cond, List, [], ◌∷◌, filter, get_or, map, refl, sym, subst, All}
use Rattle.std.proofs.lemmas.List.Elements.{All-append, All-cons, All-nil, filter_passes}
use Rattle.exi_names.specs.StartTables.{Names}
use Rattle.exi_gram.specs.declared.options.Options.{Options}
use Rattle.exi_gram.specs.Additions.{made_states}
use Rattle.exi_gram.specs.Books.{Contents, IsBook, is_kept, placed_in, state_at, state_of}
use Rattle.exi_gram.specs.Codes.{HasMembers, IsClosedUp, Productions, Second, group, group_unless_empty, kept_second, kept_seconds, pruned, single}
use Rattle.exi_gram.specs.Naming.{Entry}
use Rattle.exi_gram.specs.Switches.{strict}
use Rattle.exi_gram.specs.Tables.{no_productions}
use Rattle.exi_gram.specs.Terminals.{Rule}
use Rattle.exi_gram.proofs.CodeLaws.{pruned_closed}
use Rattle.exi_gram.proofs.CodeTells.{Each, EachOf}
use Rattle.exi_ways.specs.Laws.{CodesAreLeft, CodesCloseUp}
use Rattle.exi_ways.specs.Ways.{IsLeft}
use Rattle.exi_ways.proofs.Lists.{of_each}

-- ---- what is pruned passes
passes_rest : {X : Type 0} (P : X → Type 0) (xs : List X) → All P xs → All (EachOf P) (group_unless_empty xs)
passes_rest P [] h = All-nil (EachOf P)
passes_rest P (x ∷ xs) h = All-cons (EachOf P) (group (x ∷ xs)) [] h (All-nil (EachOf P))

module _ {X : Type 0} (keep : X → Bool) where
  abbrev Passes : X → Type 0
  Passes x = keep x ≡ true

  passes_single : (b : Bool) (x : X) → keep x ≡ b → All (EachOf Passes) (cond b (single x ∷ []) [])
  passes_single true x h = All-cons (EachOf Passes) (single x) [] h (All-nil (EachOf Passes))
  passes_single false x h = All-nil (EachOf Passes)

  second_passes : (x : Second X) → All (EachOf Passes) (kept_second keep x)
  second_passes (single x) = passes_single (keep x) x refl
  second_passes (group xs) = passes_rest Passes (filter keep xs) (filter_passes keep xs)

  seconds_pass : (xs : List (Second X)) → All (EachOf Passes) (kept_seconds keep xs)
  seconds_pass [] = All-nil (EachOf Passes)
  seconds_pass (x ∷ xs) = All-append (EachOf Passes) (kept_second keep x) (kept_seconds keep xs) (second_passes x) (seconds_pass xs)

  pub each_passes : (p : Productions X) → Each Passes (pruned keep p)
  each_passes p = record { firsts = filter_passes keep p.firsts; seconds = seconds_pass p.seconds }

-- ---- every state is one that the options leave
module _ (o : Options) (names : Names) (P : Productions Entry → Type 0) (none : P no_productions) (left : (p : Productions Rule) → P (state_of o names p)) where
  in_states : (ps : List (Productions Rule)) (i : ℕ) → P (get_or (map (state_of o names) ps) i no_productions)
  in_states [] i = none
  in_states (p ∷ ps) zero = left p
  in_states (p ∷ ps) (suc i) = in_states ps i

  in_grammars : (pss : List (List (Productions Rule))) (i j : ℕ) → P (get_or (get_or (map (map (state_of o names)) pss) i []) j no_productions)
  in_grammars [] i j = none
  in_grammars (ps ∷ pss) zero j = in_states ps j
  in_grammars (ps ∷ pss) (suc i) j = in_grammars pss i j

pub every_state : (P : Productions Entry → Type 0) (b : Contents) → IsBook b → P no_productions → ((p : Productions Rule) → P (state_of b.options b.schema.names p)) → (grammar state : ℕ) → P (state_at b grammar state)
every_state P b is none left grammar state = subst (λ (z : List (List (Productions Entry))). P (get_or (get_or z grammar []) state no_productions)) (sym is.states) (in_grammars b.options b.schema.names P none left (made_states (strict b.options) b.schema) grammar state)

pub left_each : (b : Contents) → IsBook b → (grammar state : ℕ) → Each (IsLeft b.options) (state_at b grammar state)
left_each b is grammar state = every_state (Each (IsLeft b.options)) b is (record { firsts = All-nil (IsLeft b.options); seconds = All-nil (EachOf (IsLeft b.options)) }) (λ p. each_passes (is_kept b.options) (placed_in b.schema.names p)) grammar state

pub codes_are_left : CodesAreLeft
codes_are_left b is grammar state = of_each (IsLeft b.options) (state_at b grammar state) (left_each b is grammar state)

pub codes_close_up : CodesCloseUp
codes_close_up b is grammar state = every_state (IsClosedUp {X = Entry}) b is (All-nil HasMembers) (λ p. pruned_closed (is_kept b.options) (placed_in b.schema.names p)) grammar state
