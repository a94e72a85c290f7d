-- How values are represented, by forms that lie in one another.
use Rattle.std.proofs.Common.{◌≡◌, ◌<◌, ◌≤◌, ℕ, zero, suc, ◌+◌, Bool, true, false, ltb, IfOk, Result, Ok, Err, Option, Some, None, unwrap_or, List, [], ◌∷◌, ◌++◌, Box, Global, get_or, length, slice_get, refl, sym, ap, ◌∙◌, subst, arith, length-append}
use Rattle.std.proofs.lemmas.Bool.{ltb-false, ltb-true}
use Rattle.std.proofs.lemmas.Option.{none-some, slice_get_past, slice_get_read}
use Rattle.exi_names.specs.declared.datatype.Datatype.{Datatype, fold-roll-Datatype}
use Rattle.exi_names.specs.declared.datatype.Datatype.TheOpen.{Datatype-F}
use Rattle.exi_names.specs.declared.datatype.Datatype.TheVariants.{rolls-List, rolls-Text}
use Rattle.exi_names.specs.declared.datatype.Datatype.TheVariants as datatype
use Rattle.exi_names.specs.Datatypes.{Representation, list, represented, represented_step, text}
use Rattle.xsd_model.specs.declared.parts.Complex.{Complex}
use Rattle.xsd_model.specs.declared.parts.TypeBody.TheVariants as body
use Rattle.xsd_model.specs.declared.parts.TypeDef.{TypeDef}
use Rattle.xsd_model.specs.declared.parts.Form.{Form}
use Rattle.xsd_model.specs.declared.parts.Form.TheVariants as form
use Rattle.xsd_model.specs.Parts.{AreForms, IsForm, Parts, representations, represented_behind, represented_form}
use Rattle.exi_proto.specs.Lists.{list_of}
use Rattle.exi_proto.specs.Protos.{representation_of}

-- ---- by what a datatype is
pub list_shown : (b : Box Datatype Global) → represented (datatype.List b) ≡ list (represented b.value)
list_shown b = ap represented (sym (rolls-List b)) ∙ fold-roll-Datatype Representation represented_step (Datatype-F.List b)

pub text_shown : represented datatype.Text ≡ text
text_shown = ap represented (sym rolls-Text) ∙ fold-roll-Datatype Representation represented_step Datatype-F.Text

-- ---- lists behind others
got_front : (xs ys : List Representation) (i : ℕ) → i < length xs → get_or (xs ++ ys) i text ≡ get_or xs i text
got_front [] ys i less = absurd (omega (arith, less))
got_front (x ∷ xs) ys zero less = refl
got_front (x ∷ xs) ys (suc i) less = got_front xs ys i (omega (arith, less))

got_last : (xs : List Representation) (x : Representation) → get_or (xs ++ x ∷ []) (length xs) text ≡ x
got_last [] x = refl
got_last (y ∷ xs) x = got_last xs x

got_none : (xs : List Representation) (i : ℕ) → length xs ≤ i → get_or xs i text ≡ text
got_none [] zero le = refl
got_none [] (suc i) le = refl
got_none (x ∷ xs) zero le = absurd (omega (arith, le))
got_none (x ∷ xs) (suc i) le = got_none xs i (omega (arith, le))

-- ---- forms
length-behind : (before : List Representation) (fs : List Form) → length (represented_behind before fs) ≡ length before + length fs
length-behind before [] = omega arith
length-behind before (f ∷ fs) =
    let h = length-behind (before ++ represented_form before f ∷ []) fs in
    let l = length-append before (represented_form before f ∷ []) in
    omega (arith, h, l)

kept : (before : List Representation) (fs : List Form) (i : ℕ) → i < length before → get_or (represented_behind before fs) i text ≡ get_or before i text
kept before [] i less = refl
kept before (f ∷ fs) i less =
    let l = length-append before (represented_form before f ∷ []) in
    kept (before ++ represented_form before f ∷ []) fs i (omega (arith, l, less)) ∙ got_front before (represented_form before f ∷ []) i less

same_form : (before : List Representation) (fs : List Form) (f : Form) → IsForm (length before) f → represented_form before f ≡ represented_form (represented_behind before fs) f
same_form before fs (form.Item datatype) is = refl
same_form before fs (form.List item) is = ap list (sym (kept before fs item is))

form_is : (before : List Representation) (fs : List Form) (i : ℕ) (f : Form) → AreForms (length before) fs → slice_get fs i ≡ Some f → get_or (represented_behind before fs) (length before + i) text ≡ represented_form (represented_behind before fs) f
form_is before [] i f are e = absurd (none-some f e)
form_is before (g ∷ fs) zero f are e =
    let same : g ≡ f = ap (λ (o : Option Form). unwrap_or o g) e in
    let l = length-append before (represented_form before g ∷ []) in
    let here : length before + 0 ≡ length before = omega arith in
    ap (λ (n : ℕ). get_or (represented_behind before (g ∷ fs)) n text) here
    ∙ kept (before ++ represented_form before g ∷ []) fs (length before) (omega (arith, l))
    ∙ got_last before (represented_form before g)
    ∙ same_form before (g ∷ fs) g are.0
    ∙ ap (represented_form (represented_behind before (g ∷ fs))) same
form_is before (g ∷ fs) (suc i) f are e =
    let l = length-append before (represented_form before g ∷ []) in
    let long : suc (length before) ≡ length (before ++ represented_form before g ∷ []) = omega (arith, l) in
    let here : length before + suc i ≡ length (before ++ represented_form before g ∷ []) + i = omega (arith, l) in
    ap (λ (n : ℕ). get_or (represented_behind before (g ∷ fs)) n text) here
    ∙ form_is (before ++ represented_form before g ∷ []) fs i f (subst (λ (n : ℕ). AreForms n fs) long are.1) e

form_at : (n : ℕ) (fs : List Form) (i : ℕ) (f : Form) → AreForms n fs → slice_get fs i ≡ Some f → IsForm (n + i) f
form_at n [] i f are e = absurd (none-some f e)
form_at n (g ∷ fs) zero f are e =
    let same : g ≡ f = ap (λ (o : Option Form). unwrap_or o g) e in
    let here : n ≡ n + 0 = omega arith in
    subst (λ (m : ℕ). IsForm m f) here (subst (IsForm n) same are.0)
form_at n (g ∷ fs) (suc i) f are e =
    let here : suc n + i ≡ n + suc i = omega arith in
    subst (λ (m : ℕ). IsForm m f) here (form_at (suc n) fs i f are.1 e)

-- ---- the form at a place
pub no_form : (fs : List Form) (i : ℕ) → length fs ≤ i → get_or (representations fs) i text ≡ text
no_form fs i le = let l = length-behind [] fs in got_none (representations fs) i (omega (arith, l, le))

pub form_found : (fs : List Form) (i : ℕ) (f : Form) → AreForms 0 fs → slice_get fs i ≡ Some f → get_or (representations fs) i text ≡ represented_form (representations fs) f
form_found fs i f are e = let here : i ≡ 0 + i = omega arith in ap (λ (n : ℕ). get_or (representations fs) n text) here ∙ form_is [] fs i f are e

pub item_before : (fs : List Form) (i item : ℕ) (f : Form) → f ≡ form.List item → AreForms 0 fs → slice_get fs i ≡ Some f → item < i
item_before fs i item f is are e = let less = subst (IsForm (0 + i)) is (form_at 0 fs i f are e) in omega (arith, less)

-- lists around the form at a place
pub around_item : (fs : List Form) (i depth item : ℕ) (f : Form) → f ≡ form.List item → AreForms 0 fs → slice_get fs i ≡ Some f → list_of (depth + 1) (get_or (representations fs) item text) ≡ list_of depth (get_or (representations fs) i text)
around_item fs i depth item f is are e =
    let next : depth + 1 ≡ suc depth = omega arith in
    ap (λ (n : ℕ). list_of n (get_or (representations fs) item text)) next
    ∙ inner depth (get_or (representations fs) item text)
    ∙ ap (list_of depth) (sym (form_found fs i f are e ∙ ap (represented_form (representations fs)) is))
  where
    inner : (n : ℕ) (r : Representation) → list_of (suc n) r ≡ list_of n (list r)
    inner zero r = refl
    inner (suc n) r = ap list (inner n r)

-- ---- as code finds them
pub if_ok_same : {X E : Type 0} (r : Result X E) (f : X → Representation) (a b : Representation) → a ≡ b → IfOk r (λ d. f d ≡ a) → IfOk r (λ d. f d ≡ b)
if_ok_same (Ok x) f a b e h = h ∙ e
if_ok_same (Err x) f a b e h = tt

pub one_more : (n : ℕ) (r item d : Representation) → r ≡ list d → d ≡ list_of n item → r ≡ list_of (n + 1) item
one_more n r item d e f = let next : suc n ≡ n + 1 = omega arith in e ∙ ap list f ∙ ap (λ (k : ℕ). list_of k item) next

pub not_below : (i n : ℕ) → false ≡ ltb i n → n ≤ i
not_below i n e = ltb-false i n (sym e)

pub got_at : {X : Type 0} (xs : List X) (i : ℕ) (x : X) → true ≡ ltb i (length xs) → x ≡ get_or xs i x → slice_get xs i ≡ Some x
got_at xs i x less is = slice_get_read xs (length xs) i x refl (ltb-true i (length xs) (sym less)) is

pub text_found : (fs : List Form) (i depth : ℕ) (w : Representation) → false ≡ ltb i (length fs) → list_of depth (get_or (representations fs) i text) ≡ w → list_of depth text ≡ w
text_found fs i depth w past is = ap (list_of depth) (sym (no_form fs i (not_below i (length fs) past))) ∙ is

pub item_found : (fs : List Form) (i depth : ℕ) (f : Form) (d : Datatype) (r w : Representation) → AreForms 0 fs → slice_get fs i ≡ Some f → f ≡ form.Item d → r ≡ represented d → list_of depth (get_or (representations fs) i text) ≡ w → list_of depth r ≡ w
item_found fs i depth f d r w are at is same so = ap (list_of depth) (same ∙ sym (form_found fs i f are at ∙ ap (represented_form (representations fs)) is)) ∙ so

-- ---- types
pub type_at : (p : Parts) (xs : List TypeDef) (i : ℕ) (t : TypeDef) → xs ≡ p.types → true ≡ ltb i (length xs) → t ≡ get_or xs i t → slice_get p.types i ≡ Some t
type_at p xs i t same less is = ap (λ (ys : List TypeDef). slice_get ys i) (sym same) ∙ got_at xs i t less is

pub text_none : (p : Parts) (xs : List TypeDef) (i : ℕ) → xs ≡ p.types → false ≡ ltb i (length xs) → text ≡ representation_of p i
text_none p xs i same past =
    let none : slice_get p.types i ≡ None = ap (λ (ys : List TypeDef). slice_get ys i) (sym same) ∙ slice_get_past xs i (not_below i (length xs) past) in
    sym (is_text none)
  where
    is_text : slice_get p.types i ≡ None → representation_of p i ≡ text
    is_text e = rw e refl

simple_is : (p : Parts) (i : ℕ) (t : TypeDef) (form : ℕ) (union : Bool) → slice_get p.types i ≡ Some t → t.body ≡ body.Simple form union → representation_of p i ≡ get_or p.forms form text
simple_is p i t form union at e = rw (at, e) refl

pub simple_found : (p : Parts) (i : ℕ) (t : TypeDef) (form : ℕ) (union : Bool) (rs : List Representation) → slice_get p.types i ≡ Some t → t.body ≡ body.Simple form union → rs ≡ p.forms → get_or rs form text ≡ representation_of p i
simple_found p i t form union rs at e same = ap (λ (xs : List Representation). get_or xs form text) same ∙ sym (simple_is p i t form union at e)

complex_is : (p : Parts) (i : ℕ) (t : TypeDef) (complex : Complex) → slice_get p.types i ≡ Some t → t.body ≡ body.Complex complex → representation_of p i ≡ text
complex_is p i t complex at e = rw (at, e) refl

pub complex_found : (p : Parts) (i : ℕ) (t : TypeDef) (complex : Complex) → slice_get p.types i ≡ Some t → t.body ≡ body.Complex complex → text ≡ representation_of p i
complex_found p i t complex at e = sym (complex_is p i t complex at e)

ur_is : (p : Parts) (i : ℕ) (t : TypeDef) → slice_get p.types i ≡ Some t → t.body ≡ body.Ur → representation_of p i ≡ text
ur_is p i t at e = rw (at, e) refl

pub ur_found : (p : Parts) (i : ℕ) (t : TypeDef) → slice_get p.types i ≡ Some t → t.body ≡ body.Ur → text ≡ representation_of p i
ur_found p i t at e = sym (ur_is p i t at e)
