-- The marks at the front of a text, and what stands behind them.
use Rattle.std.proofs.Common.{◌≡◌, ℕ, ◌+◌, Bool, true, false, ◌&&◌, cond, eqb, List, [], ◌∷◌, length, take, drop, Option, Some, None, Bor, refl, sym, ap, ◌∙◌}
use Rattle.std.specs.Cmp.Lexicographic.{pointwise}
use Rattle.std.specs.Option.{MatchOption, option_copied}
use Rattle.exi_calendar.specs.Reading.{past}

both_tests : {X : Type 0} → (a b : Bool) (o p : Option X) → o ≡ cond b p None → cond a o None ≡ cond (a && b) p None
both_tests true b o p e = e
both_tests false b o p e = refl

past_by_test : (marks text : List ℕ) → past marks text ≡ cond (pointwise eqb (take (length marks) text) marks) (Some (drop (length marks) text)) None
unfolding past
past_by_test [] text = refl
past_by_test (m ∷ marks) [] = refl
past_by_test (m ∷ marks) (c ∷ text) = both_tests (eqb c m) (pointwise eqb (take (length marks) text) marks) (past marks text) (Some (drop (length marks) text)) (past_by_test marks text)

-- what `strip_prefix` says
pub past_told : (marks text : List ℕ) (r : Option (Bor (List ℕ))) → MatchOption r (pointwise eqb (take (length marks) text) marks ≡ false) (λ x. (pointwise eqb (take (length marks) text) marks ≡ true) × (x.now ≡ drop (length marks) text) × (length x.now + length marks ≡ length text)) → option_copied r ≡ past marks text
past_told marks text None h = sym (past_by_test marks text ∙ ap (λ b. cond b (Some (drop (length marks) text)) None) h)
past_told marks text (Some x) h = ap Some h.1 ∙ sym (past_by_test marks text ∙ ap (λ b. cond b (Some (drop (length marks) text)) None) h.0)
