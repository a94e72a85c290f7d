-- The postings that a list holds.
use Rattle.std.proofs.Common.{◌≡◌, ℕ, zero, suc, List, [], ◌∷◌, ◌++◌, Option, Some, None, refl, sym, subst, arith}
use Rattle.std.specs.Prelude.{All, IfSome, position, remove, slice_index_or, take, drop}
use Rattle.std.proofs.lemmas.Bool.{eqb-true}
use Rattle.std.proofs.lemmas.List.Elements.{All-append, All-drop, All-take}
use Rattle.std.proofs.lemmas.List.Quantifiers.{position-Some}
use Rattle.exi_processing.specs.Runs.{Job}
use Rattle.exi_worker.specs.declared.held.Held.{Held}
use Rattle.exi_worker.specs.declared.posting.Posting.{Posting}
use Rattle.exi_worker.specs.Desks.{AllPostings, GivesAt, GivesFirst, is_for}
use Rattle.exi_worker.specs.Outcomes.{IsPostingAt}

only : {A : Type 0} (P : A → Type 0) (x : A) → P x → All P (x ∷ [])
only P x h zero d lt = h
only P x h (suc k) d lt = absurd (omega arith)

module _ (j : Job) where
  abbrev Holds : Held → Type 0
  Holds h = IsPostingAt j h.byte h.posting

  pub held_more : (old new : List Held) (byte : ℕ) (p : Posting) → AllPostings j old → IsPostingAt j byte p → new ≡ old ++ record { byte = byte; posting = p } ∷ [] → AllPostings j new
  held_more old new byte p all one is = subst (AllPostings j) (sym is) (All-append Holds old (record { byte = byte; posting = p } ∷ []) all (only Holds (record { byte = byte; posting = p }) one))

  pub held_same : (old new : List Held) → AllPostings j old → new ≡ old → AllPostings j new
  held_same old new all is = subst (AllPostings j) (sym is) all

  kept_at : (place : Option ℕ) (old : List Held) (given : Option Posting) (new : List Held) → AllPostings j old → GivesAt place old given new → AllPostings j new
  kept_at None old given new all g = held_same old new all g.1
  kept_at (Some k) old given new all g = subst (AllPostings j) (sym g.3) (All-append Holds (take k old) (drop (suc k) old) (All-take Holds k old all) (All-drop Holds (suc k) old all))

  -- what stays is still held
  pub held_after : (byte : ℕ) (old : List Held) (given : Option Posting) (new : List Held) → AllPostings j old → GivesFirst byte old given new → AllPostings j new
  held_after byte old given new all g = kept_at (position (is_for byte) old) old given new all g

  given_at : (place : Option ℕ) (byte : ℕ) (old : List Held) (given : Option Posting) (new : List Held) → position (is_for byte) old ≡ place → AllPostings j old → GivesAt place old given new → IfSome given (IsPostingAt j byte)
  given_at None byte old given new is all g = subst (λ (o : Option Posting). IfSome o (IsPostingAt j byte)) (sym g.0) tt
  given_at (Some k) byte old given new is all g =
      let at = position-Some (is_for byte) old k g.0 is in
      let whole : Holds g.0 = subst Holds g.1 (all k g.0 at.0) in
      let here : g.0.byte ≡ byte = subst (λ (h : Held). h.byte ≡ byte) g.1 (eqb-true _ _ at.1) in
      subst (λ (o : Option Posting). IfSome o (IsPostingAt j byte)) (sym g.2) (subst (λ (b : ℕ). IsPostingAt j b g.0.posting) here whole)

  -- what is given is the outcome at this byte
  pub held_given : (byte : ℕ) (old : List Held) (given : Option Posting) (new : List Held) → AllPostings j old → GivesFirst byte old given new → IfSome given (IsPostingAt j byte)
  held_given byte old given new all g = given_at (position (is_for byte) old) byte old given new refl all g

-- what stands at the first place for a byte is taken out
pub takes_at : (byte k : ℕ) (old new : List Held) (h : Held) → Some k ≡ position (is_for byte) old → h ≡ slice_index_or old k h → new ≡ remove old k → GivesFirst byte old (Some h.posting) new
takes_at byte k old new h found value items = subst (λ (o : Option ℕ). GivesAt o old (Some h.posting) new) found (h, sym value, refl, items)
