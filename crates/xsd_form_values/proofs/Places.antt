-- The list at a place.
use Rattle.std.proofs.Common.{◌≡◌, ℕ, zero, suc, ◌+◌, ◌<◌, List, [], ◌∷◌, ◌++◌, get_or, length, sym, ap, subst, ◌∙◌, arith}
use Rattle.std.proofs.lemmas.List.{length-append}
use Rattle.exi_names.specs.Datatypes.{Representation, list, text}
use Rattle.xsd_model.specs.Parts.{AreForms, IsForm, represented_behind, represented_form, representations}
use Rattle.xsd_model.specs.declared.parts.Form.{Form}
use Rattle.xsd_model.specs.declared.parts.Form.TheVariants as form
use Rattle.xsd_restrictions.proofs.Places.{at_end, stays}

list_behind : (before : List Representation) (fs : List Form) (i : ℕ) (d : Form) (j : ℕ) → AreForms (length before) fs → i < length fs → get_or fs i d ≡ form.List j
    → (j < length before + i) × (get_or (represented_behind before fs) (length before + i) text ≡ list (get_or (represented_behind before fs) j text))
list_behind before [] i d j are less is = absurd (omega (arith, less))
list_behind before (g ∷ fs) zero d j are less is =
    let r = represented_form before g in
    let there : IsForm (length before) (form.List j) = subst (λ (f : Form). IsForm (length before) f) is are.0 in
    let below : j < length before = there in
    let e : length before + 0 ≡ length before = omega arith in
    let l = length-append before (r ∷ []) in (
      omega (arith, below),
      ap (λ (n : ℕ). get_or (represented_behind (before ++ r ∷ []) fs) n text) e
          ∙ stays (before ++ r ∷ []) fs (length before) (omega (arith, l))
          ∙ at_end before r
          ∙ ap (represented_form before) is
          ∙ ap list (sym (stays before (g ∷ fs) j below)),
    )
list_behind before (g ∷ fs) (suc i) d j are less is =
    let r = represented_form before g in
    let l = length-append before (r ∷ []) in
    let e : length before + suc i ≡ length (before ++ r ∷ []) + i = omega (arith, l) in
    let n : suc (length before) ≡ length (before ++ r ∷ []) = omega (arith, l) in
    let more = list_behind (before ++ r ∷ []) fs i d j (subst (λ (m : ℕ). AreForms m fs) n are.1) (omega (arith, less)) is in
    (omega (arith, more.0, e), ap (λ (m : ℕ). get_or (represented_behind (before ++ r ∷ []) fs) m text) e ∙ more.1)

-- its items stand before it
pub list_at : (fs : List Form) (i j : ℕ) (f : Form) → AreForms 0 fs → i < length fs → get_or fs i f ≡ f → f ≡ form.List j
    → (j < i) × (get_or (representations fs) i text ≡ list (get_or (representations fs) j text))
list_at fs i j f are less is item =
    let more = list_behind [] fs i f j are less (is ∙ item) in
    let e : length {A = Representation} [] + i ≡ i = omega arith in
    (omega (arith, more.0), ap (λ (n : ℕ). get_or (representations fs) n text) (sym e) ∙ more.1)
