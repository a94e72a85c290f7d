-- In a fragment's start the production that is wanted has nothing of a value.
use Rattle.std.proofs.Common.{◌≡◌, Bool, true, false, cond, [], ◌∷◌, Option, Some, None, refl, sym, ap, ◌∙◌, inl, inr}
use Rattle.std.proofs.lemmas.Bool.{cases_Bool}
use Rattle.exi_builtin.specs.Learning.{Learning}
use Rattle.exi_gram.specs.Codes.{Coded}
use Rattle.exi_processing.specs.Configurations.{Setting}
use Rattle.exi_processing.specs.Rules.{Rule, fragment_start, start_document}
use Rattle.exi_processing.specs.declared.rule.Content.{Content}
use Rattle.exi_choice.specs.Choices.{Chooses, Finds}
use Rattle.exi_choice.specs.Fitting.{fit_in}
use Rattle.exi_choice.specs.Wanted.{Seeking, first_for, first_suiting, is_of}
use Rattle.exi_choice.specs.declared.choice.Choice.{Choice}
use Rattle.exi_choice.specs.declared.fit.Fit.TheVariants as fit

abbrev start_coded : Coded Rule
start_coded = record { parts = 0 ∷ []; item = record { on = start_document; to = 1; inner = None } }

abbrev start_if : Bool → Option (Coded Rule)
start_if b = cond b (Some start_coded) None

first_is : (on : Content) → first_for on fragment_start ≡ start_if (is_of on start_document)
first_is on = elim (cases_Bool (is_of on start_document)) [
  | inl h ↦ rw h refl
  | inr h ↦ rw h refl
]

suiting_is : (g : Setting) (s : Seeking) → first_suiting g s fragment_start ≡ start_if (is_of s.on start_document)
suiting_is g s = elim (cases_Bool (is_of s.on start_document)) [
  | inl h ↦ rw h refl
  | inr h ↦ rw h refl
]

suiting_same : (g : Setting) (s : Seeking) → first_suiting g s fragment_start ≡ first_for s.on fragment_start
suiting_same g s = suiting_is g s ∙ sym (first_is s.on)

coded_is : (x y : Coded Rule) → Some x ≡ Some y → x ≡ y
coded_is x y e = cc

start_is : (b : Bool) (x : Coded Rule) → start_if b ≡ Some x → start_coded ≡ x
start_is true x e = coded_is start_coded x e
start_is false x e = absurd cc

pub found_start : (g : Setting) (l : Learning) (s : Seeking) (choice : Choice) → Chooses g l s.on fragment_start (Some choice) → Finds g l s fragment_start (Some (record { choice = choice; value = fit.Own }))
found_start g l s choice c =
    let at : start_coded ≡ c.coded = start_is (is_of s.on start_document) c.coded (sym (first_is s.on) ∙ c.first) in
    record {
      coded = c.coded;
      first = suiting_same g s ∙ c.first;
      rule = c.rule;
      parts = c.parts;
      way = c.way;
      value = ap (λ (x : Coded Rule). fit_in g.schema x.item.on s.having) at;
    }

pub not_started : (g : Setting) (l : Learning) (s : Seeking) → Chooses g l s.on fragment_start None → Finds g l s fragment_start None
not_started g l s c = suiting_same g s ∙ c
