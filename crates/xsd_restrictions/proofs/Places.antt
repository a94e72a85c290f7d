-- Representations by their places.
use Rattle.std.proofs.Common.{◌≡◌, ℕ, ℤ, zero, suc, ◌+◌, ◌<◌, nat_le, Bool, true, false, cond, Option, Some, None, option_map, List, [], ◌∷◌, ◌++◌, get_or, length, refl, sym, ap, subst, ◌∙◌, arith}
use Rattle.std.proofs.lemmas.List.{get_or_append_left, length-append}
use Rattle.exi_names.specs.Datatypes.{Representation, represented, text}
use Rattle.exi_names.specs.Datatypes as datatype
use Rattle.exi_names.specs.Seen.{Value, items, values_of}
use Rattle.exi_names.specs.declared.val.TheConstants.{MOST_ITEMS}
use Rattle.exi_lexical.specs.Spaces.{words}
use Rattle.exi_lexical.specs.Values.{each_value, list_value, value}
use Rattle.xsd_bounds.specs.Bounds.{integer_in}
use Rattle.xsd_restrictions.specs.Restrictions.{form_at, is_list}
use Rattle.exi_names.specs.declared.datatype.Datatype.{Datatype}
use Rattle.xsd_model.specs.Parts.{AreForms, IsForm, represented_behind, represented_form, representations}
use Rattle.xsd_model.specs.declared.parts.Form.{Form}
use Rattle.xsd_model.specs.declared.parts.Form.TheVariants as form

pub behind_append : (before : List Representation) (fs gs : List Form) → represented_behind before (fs ++ gs) ≡ represented_behind (represented_behind before fs) gs
behind_append before [] gs = refl
behind_append before (f ∷ fs) gs = behind_append (before ++ represented_form before f ∷ []) fs gs

pub pushed : (fs : List Form) (f : Form) → representations (fs ++ f ∷ []) ≡ representations fs ++ represented_form (representations fs) f ∷ []
pushed fs f = behind_append [] fs (f ∷ [])

pub length_behind : (before : List Representation) (fs : List Form) → length (represented_behind before fs) ≡ length before + length fs
length_behind before [] = omega arith
length_behind before (f ∷ fs) = length_behind (before ++ represented_form before f ∷ []) fs ∙ ap (λ (n : ℕ). n + length fs) (length-append before (represented_form before f ∷ [])) ∙ omega arith

pub length_forms : (fs : List Form) → length (representations fs) ≡ length fs
length_forms fs = let e : length {A = Representation} [] + length fs ≡ length fs = omega arith in length_behind [] fs ∙ e

pub are_pushed : (n : ℕ) (fs : List Form) (f : Form) → AreForms n fs → IsForm (n + length fs) f → AreForms n (fs ++ f ∷ [])
are_pushed n [] f all one = let e : n + 0 ≡ n = omega arith in (subst (λ (m : ℕ). IsForm m f) e one, tt)
are_pushed n (g ∷ fs) f all one = let e : n + suc (length fs) ≡ suc n + length fs = omega arith in (all.0, are_pushed (suc n) fs f all.1 (subst (λ (m : ℕ). IsForm m f) e one))

-- those before stay where they are
pub stays : (before : List Representation) (fs : List Form) (i : ℕ) → i < length before → get_or (represented_behind before fs) i text ≡ get_or before i text
stays before [] i less = refl
stays before (f ∷ fs) i less =
    let r = represented_form before f in
    stays (before ++ r ∷ []) fs i (let e = length-append before (r ∷ []) in omega (arith, e, less)) ∙ get_or_append_left before (r ∷ []) text i less

pub at_end : (before : List Representation) (r : Representation) → get_or (before ++ r ∷ []) (length before) text ≡ r
at_end [] r = refl
at_end (b ∷ before) r = at_end before r

-- the form at a place, behind those before
pub at_place : (before : List Representation) (fs : List Form) (i : ℕ) (d f : Form) → i < length fs → get_or fs i d ≡ f → (front : List Representation) × (get_or (represented_behind before fs) (length before + i) text ≡ represented_form front f)
at_place before [] i d f less is = absurd (omega (arith, less))
at_place before (g ∷ fs) zero d f less is =
    let r = represented_form before g in
    let e : length before + 0 ≡ length before = omega arith in
    let l = length-append before (r ∷ []) in
    (before, ap (λ (n : ℕ). get_or (represented_behind (before ++ r ∷ []) fs) n text) e ∙ stays (before ++ r ∷ []) fs (length before) (omega (arith, l)) ∙ at_end before r ∙ ap (represented_form before) is)
at_place before (g ∷ fs) (suc i) d f less is =
    let r = represented_form before g in
    let l = length-append before (r ∷ []) in
    let e : length before + suc i ≡ length (before ++ r ∷ []) + i = omega (arith, l) in
    let more = at_place (before ++ r ∷ []) fs i d f (omega (arith, less)) is in
    (more.0, ap (λ (n : ℕ). get_or (represented_behind (before ++ r ∷ []) fs) n text) e ∙ more.1)

module _ (fs : List Form) (i : ℕ) (f : Form) (less : i < length fs) (all : List Representation) (are : representations fs ≡ all) where
  found : get_or fs i f ≡ f → (front : List Representation) × (form_at all i ≡ represented_form front f)
  found is =
      let here = at_place [] fs i f f less is in
      let e : length {A = Representation} [] + i ≡ i = omega arith in
      (here.0, ap (λ (rs : List Representation). get_or rs i text) (sym are) ∙ ap (λ (n : ℕ). get_or (representations fs) n text) (sym e) ∙ here.1)

  pub item_at : (d : Datatype) → get_or fs i f ≡ f → f ≡ form.Item d → form_at all i ≡ represented d
  item_at d is item = let here = found is in here.1 ∙ ap (represented_form here.0) item

  pub list_at : (j : ℕ) → get_or fs i f ≡ f → f ≡ form.List j → is_list (form_at all i) ≡ true
  list_at j is item = let here = found is in ap is_list (here.1 ∙ ap (represented_form here.0) item)

-- ---- a list is no integer
differ : (x y : Option ℤ) → false ≡ true → x ≡ y
differ x y e = sym (ap (λ (b : Bool). cond b x y) e)

none_of : (b : Bool) (vs : Option (List Value)) → None ≡ integer_in (cond b (option_map (λ (v : List Value). items (values_of v)) vs) None)
none_of true None = refl
none_of true (Some v) = refl
none_of false vs = refl

no_integer_in : (item : List ℕ → Option Value) (t : List ℕ) → None ≡ integer_in (list_value item t)
unfolding list_value
no_integer_in item t = none_of (nat_le (length (words t)) MOST_ITEMS) (each_value item (words t))

pub no_integer : (r : Representation) (t : List ℕ) → is_list r ≡ true → None ≡ integer_in (value r t)
unfolding value
no_integer (datatype.small least count) t e = differ None (integer_in (value (datatype.small least count) t)) e
no_integer datatype.unsigned t e = differ None (integer_in (value datatype.unsigned t)) e
no_integer datatype.integer t e = differ None (integer_in (value datatype.integer t)) e
no_integer (datatype.boolean pattern) t e = differ None (integer_in (value (datatype.boolean pattern) t)) e
no_integer (datatype.binary hex) t e = differ None (integer_in (value (datatype.binary hex) t)) e
no_integer datatype.decimal t e = differ None (integer_in (value datatype.decimal t)) e
no_integer datatype.float t e = differ None (integer_in (value datatype.float t)) e
no_integer (datatype.moment kind) t e = differ None (integer_in (value (datatype.moment kind) t)) e
no_integer (datatype.list r) t e = no_integer_in (λ w. value r w) t
no_integer (datatype.choice r vs) t e = differ None (integer_in (value (datatype.choice r vs) t)) e
no_integer datatype.text t e = differ None (integer_in (value datatype.text t)) e
no_integer (datatype.chars cs) t e = differ None (integer_in (value (datatype.chars cs) t)) e
no_integer (datatype.name prefixes) t e = differ None (integer_in (value (datatype.name prefixes) t)) e

-- the value of a list is none where there is no list
pub never : {X : Type 0} (x y : X) (r : Representation) → is_list r ≡ true → is_list r ≡ false → x ≡ y
never x y r e f = sym (ap (λ (b : Bool). cond b x y) (sym f ∙ e))
