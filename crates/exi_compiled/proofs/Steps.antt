-- What is read by the steps of a grammar that is made of others.
use Rattle.std.proofs.Common.{ℕ, suc, ◌+◌, ◌-◌, Bool, true, false, if◌then◌else◌, Option, Some, None, List, [], ◌∷◌, ◌++◌, All, length, map}
use Rattle.std.proofs.lemmas.List.Elements.{All-append, All-cons, All-head, All-nil, All-replicate, All-tail}
use Rattle.exi_draft.specs.Drafts.{States, ends}
use Rattle.exi_gram.specs.Terminals.{StepRule, Symbol, ch_text, ee}
use Rattle.exi_proto.specs.Pieces.{Piece, behind, behind_step, branches_from, choice, copied, copies_of, empty_states, ending, further, joined, joined_all, joined_behind, leading, led, led_step, optional, placed, raised, raised_step, reading, reading_one, repeated, sequence, starts_from, with_start, with_text, with_text_from}
use Rattle.exi_compiled.proofs.Lists.{in_all, one, two}
use Rattle.exi_compiled.proofs.Normal.{OfStates, OfStep}

-- wherever an end or text may stand
module _ (P : Symbol → Option ℕ → Type 0) (at_end : P ee None) where
  abbrev S : List StepRule → Type 0
  S steps = All (OfStep P) steps

  abbrev pub OfPieces : List Piece → Type 0
  OfPieces xs = All (λ (x : Piece). OfStates P x.states) xs

  abbrev pub OfAll : List States → Type 0
  OfAll xs = All (OfStates P) xs

  -- ---- each step changed so that it reads the same
  each_step : (f : StepRule → StepRule) → ((s : StepRule) → OfStep P s → OfStep P (f s)) → (states : States) → OfStates P states → OfStates P (map (map f) states)
  each_step f h states a = in_all S S (map f) states (λ steps b. in_all (OfStep P) (OfStep P) f steps h b) a

  raised_is : (n : ℕ) (states : States) → OfStates P states → OfStates P (raised n states)
  raised_is n states a = each_step (raised_step n) (λ s h. h) states a

  behind_is : (n : ℕ) (states : States) → OfStates P states → OfStates P (behind n states)
  behind_is n states a = each_step (behind_step n) (λ s h. h) states a

  led_is : (to : ℕ) (states : States) → OfStates P states → OfStates P (led to states)
  led_is to states a = each_step (led_step to) (λ s h. by s (ends s.on) h) states a
    where
      by : (s : StepRule) (b : Bool) → OfStep P s → OfStep P (if b then leading to else s)
      by s true h = tt
      by s false h = h

  -- ---- one after another
  joined_is : (a b : States) → OfStates P a → OfStates P b → OfStates P (joined a b)
  joined_is a b h k = All-append S (led (length a) a) (raised (length a) b) (led_is (length a) a h) (raised_is (length a) b k)

  pub empty_is : OfStates P empty_states
  empty_is = one S (ending 0 ∷ []) (one (OfStep P) (ending 0) at_end)

  joined_behind_is : (a : States) (bs : List States) → OfStates P a → OfAll bs → OfStates P (joined_behind a bs)
  joined_behind_is a [] h k = h
  joined_behind_is a (b ∷ bs) h k = joined_is a (joined_behind b bs) h (joined_behind_is b bs (All-head (OfStates P) b bs k) (All-tail (OfStates P) b bs k))

  pub joined_all_is : (xs : List States) → OfAll xs → OfStates P (joined_all xs)
  joined_all_is [] h = empty_is
  joined_all_is (a ∷ bs) h = joined_behind_is a bs (All-head (OfStates P) a bs h) (All-tail (OfStates P) a bs h)

  -- ---- copies
  start_is : (s : StepRule) (states : States) → OfStep P s → OfStates P states → OfStates P (with_start s states)
  start_is s [] p h = All-nil S
  start_is s (steps ∷ states) p h = All-cons S (steps ++ s ∷ []) states (All-append (OfStep P) steps (s ∷ []) (All-head S steps states h) (one (OfStep P) s p)) (All-tail S steps states h)

  optional_is : (states : States) → OfStates P states → OfStates P (optional states)
  optional_is states h = start_is (ending 0) states at_end h

  repeated_is : (states : States) → OfStates P states → OfStates P (repeated states)
  repeated_is states h = optional_is (led 0 states) (led_is 0 states h)

  further_is : (least : ℕ) (most : Option ℕ) (states : States) → OfStates P states → OfAll (further least most states)
  further_is least None states h = one (OfStates P) (repeated states) (repeated_is states h)
  further_is least (Some most) states h = All-replicate (OfStates P) (most - least) (optional states) (optional_is states h)

  copies_is : (least : ℕ) (most : Option ℕ) (states : States) → OfStates P states → OfAll (copies_of least most states)
  copies_is least None states h = search (All-append (OfStates P), All-replicate (OfStates P), h, further_is least None states h)
  copies_is least (Some most) states h = search (All-append (OfStates P), All-replicate (OfStates P), h, further_is least (Some most) states h)

  -- ---- pieces
  pub copied_is : (least : ℕ) (most : Option ℕ) (x : Piece) → OfStates P x.states → OfStates P (copied least most x).states
  copied_is least most x h = joined_all_is (copies_of least most x.states) (copies_is least most x.states h)

  placed_is : (n : ℕ) (xs : List Piece) → OfPieces xs → OfAll (placed n xs)
  placed_is n [] h = All-nil (OfStates P)
  placed_is n (x ∷ xs) h =
      All-cons (OfStates P) (behind n x.states) (placed (n + x.particles) xs)
      (behind_is n x.states (All-head (λ (y : Piece). OfStates P y.states) x xs h))
      (placed_is (n + x.particles) xs (All-tail (λ (y : Piece). OfStates P y.states) x xs h))

  pub sequence_is : (xs : List Piece) → OfPieces xs → OfStates P (sequence xs).states
  sequence_is xs h = joined_all_is (placed 0 xs) (placed_is 0 xs h)

  starts_is : (n : ℕ) (xs : List States) → S (starts_from n xs)
  starts_is n [] = All-nil (OfStep P)
  starts_is n (a ∷ bs) = All-cons (OfStep P) (leading n) (starts_from (n + length a) bs) tt (starts_is (n + length a) bs)

  branches_is : (n : ℕ) (xs : List States) → OfAll xs → OfStates P (branches_from n xs)
  branches_is n [] h = All-nil S
  branches_is n (a ∷ bs) h = All-append S (raised n a) (branches_from (n + length a) bs) (raised_is n a (All-head (OfStates P) a bs h)) (branches_is (n + length a) bs (All-tail (OfStates P) a bs h))

  pub choice_is : (xs : List Piece) → OfPieces xs → OfStates P (choice xs).states
  choice_is xs h = All-cons S (starts_from 1 (placed 0 xs)) (branches_from 1 (placed 0 xs)) (starts_is 1 (placed 0 xs)) (branches_is 1 (placed 0 xs) (placed_is 0 xs h))

  pub reading_one_is : (steps : List StepRule) → S steps → OfStates P (reading_one steps)
  reading_one_is steps h = two S steps (ending 1 ∷ []) h (one (OfStep P) (ending 1) at_end)

  text_from_is : P ch_text None → (n : ℕ) (states : States) → OfStates P states → OfStates P (with_text_from n states)
  text_from_is t n [] h = All-nil S
  text_from_is t n (steps ∷ states) h =
      All-cons S (steps ++ reading ch_text n ∷ []) (with_text_from (suc n) states)
      (All-append (OfStep P) steps (reading ch_text n ∷ []) (All-head S steps states h) (one (OfStep P) (reading ch_text n) t))
      (text_from_is t (suc n) states (All-tail S steps states h))

  pub with_text_is : P ch_text None → (mixed : Bool) (states : States) → OfStates P states → OfStates P (with_text mixed states)
  with_text_is t true states h = text_from_is t 0 states h
  with_text_is t false states h = h
