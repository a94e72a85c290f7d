-- What is kept of a type has its representation.
use Rattle.std.proofs.Common.{◌≡◌, ℕ, ℤ, ◌+◌, ◌<◌, Bool, true, false, cond, ◌&&◌, not, Option, Some, None, option_map, List, [], ◌∷◌, ◌++◌, get_or, length, refl, sym, ap, ◌∙◌, arith}
use Rattle.std.proofs.lemmas.List.{length-append}
use Rattle.exi_names.specs.Datatypes.{Representation, choice, list, small, text}
use Rattle.exi_names.specs.Datatypes as datatype
use Rattle.std.specs.Prelude.{int_le, pos}
use Rattle.exi_names.specs.Seen.{Value}
use Rattle.xsd_builtins.specs.declared.family.Family.{Family}
use Rattle.xsd_builtins.specs.declared.family.Family.TheVariants as family
use Rattle.xsd_bounds.specs.Bounds.{stands_at}
use Rattle.xsd_bounds.specs.Plain.{are_few, family_form, how_many, integer_form, is_narrow, string_form, whole_form}
use Rattle.xsd_restrictions.specs.Restrictions.{Simple, enumerated, form_at, form_by, form_of, is_list, plain_form}
use Rattle.xsd_restrictions.specs.Entries.{IsEntry, is_choice, is_plain, is_single, item_of, simple_at, simple_in, values_in, values_of, variety_in}
use Rattle.xsd_restrictions.specs.declared.entry.Entry.{Entry}
use Rattle.xsd_restrictions.specs.declared.entry.Kind.{Kind}
use Rattle.xsd_restrictions.specs.declared.entry.Kind.TheVariants as kind
use Rattle.xsd_restrictions.proofs.Places.{at_end}

differ : {X : Type 0} (x y : X) → false ≡ true → x ≡ y
differ x y e = sym (ap (λ (b : Bool). cond b x y) e)

-- ---- the form of an entry
by_kind : (r : Representation) (e : Entry) (k : Kind) → e.kind ≡ k → form_by (variety_in k r) (simple_in r e) ≡ form_of (simple_in r e)
unfolding form_of
by_kind r e k is = ap (λ (j : Kind). form_by (variety_in j r) (simple_in r e)) (sym is)

pub united_is : (r : Representation) (e : Entry) → e.kind ≡ kind.United → text ≡ form_of (simple_in r e)
united_is r e is = by_kind r e kind.United is

pub listed_is : (r : Representation) (e : Entry) → e.kind ≡ kind.Listed → list r ≡ form_of (simple_in (list r) e)
listed_is r e is = by_kind (list r) e kind.Listed is

pub plain_is : (r : Representation) (e : Entry) → e.kind ≡ kind.Atomic → e.enumerated ≡ false → plain_form (simple_in r e) ≡ form_of (simple_in r e)
plain_is r e is none = ap (λ (b : Bool). enumerated (values_in b r) (plain_form (simple_in r e))) (sym none) ∙ by_kind r e kind.Atomic is

pub choice_is : (r : Representation) (vs : List Value) (e : Entry) → e.kind ≡ kind.Atomic → e.enumerated ≡ true → choice r vs ≡ form_of (simple_in (choice r vs) e)
choice_is r vs e is yes_is = ap (λ (b : Bool). enumerated (values_in b (choice r vs)) (plain_form (simple_in (choice r vs) e))) (sym yes_is) ∙ by_kind (choice r vs) e kind.Atomic is

pub choice_for : (r p : Representation) (vs : List Value) (e : Entry) → r ≡ choice p vs → e.kind ≡ kind.Atomic → e.enumerated ≡ true → r ≡ form_of (simple_in r e)
choice_for r p vs e h is yes_is = h ∙ choice_is p vs e is yes_is ∙ ap (λ (q : Representation). form_of (simple_in q e)) (sym h)

-- ---- behind the others
module _ (forms new : List Representation) (r : Representation) (e : Entry) (grown : new ≡ forms ++ r ∷ []) (last : e.form ≡ length forms) where
  at_last : form_at new e.form ≡ r
  at_last = ap (λ (n : ℕ). form_at new n) last ∙ ap (λ (rs : List Representation). form_at rs (length forms)) grown ∙ at_end forms r

  pub behind : r ≡ form_of (simple_in r e) → (e.enumerated ≡ true → is_choice r ≡ true) → IsEntry new e
  behind is values =
      let l = ap length grown ∙ length-append forms (r ∷ []) in record {
        there = omega (arith, l, last);
        form = at_last ∙ is ∙ ap (λ (q : Representation). form_of (simple_in q e)) (sym at_last);
        values = λ en. ap is_choice at_last ∙ values en;
      }

pub not_enumerated : (e : Entry) (r : Representation) → e.enumerated ≡ false → e.enumerated ≡ true → is_choice r ≡ true
not_enumerated e r none en = differ (is_choice r) true (sym none ∙ en)

-- ---- where only bounds and patterns change
same_values : (r p q : Representation) → is_choice r ≡ true → enumerated (values_of r) p ≡ enumerated (values_of r) q
same_values (datatype.small least count) p q e = differ p q e
same_values datatype.unsigned p q e = differ p q e
same_values datatype.integer p q e = differ p q e
same_values (datatype.boolean pattern) p q e = differ p q e
same_values (datatype.binary hex) p q e = differ p q e
same_values datatype.decimal p q e = differ p q e
same_values datatype.float p q e = differ p q e
same_values (datatype.moment kind) p q e = differ p q e
same_values (datatype.list r) p q e = differ p q e
same_values (datatype.choice r vs) p q e = refl
same_values datatype.text p q e = differ p q e
same_values (datatype.chars cs) p q e = differ p q e
same_values (datatype.name prefixes) p q e = differ p q e

enumerated_same : (b : Bool) (r p q : Representation) → not b ≡ false → (b ≡ true → is_choice r ≡ true) → enumerated (values_in b r) p ≡ enumerated (values_in b r) q
enumerated_same true r p q plain values = same_values r p q (values refl)
enumerated_same false r p q plain values = differ p q (sym plain)

abbrev form_in : Kind → Bool → Representation → Representation → Representation
form_in kind.Atomic b r p = enumerated (values_in b r) p
form_in kind.Listed b r p = list (item_of r)
form_in kind.United b r p = text

form_in_is : (k : Kind) (b : Bool) (r : Representation) (e : Entry) → e.kind ≡ k → e.enumerated ≡ b → form_in k b r (plain_form (simple_in r e)) ≡ form_of (simple_in r e)
form_in_is kind.Atomic b r e is en = ap (λ (x : Bool). enumerated (values_in x r) (plain_form (simple_in r e))) (sym en) ∙ by_kind r e kind.Atomic is
form_in_is kind.Listed b r e is en = by_kind r e kind.Listed is
form_in_is kind.United b r e is en = by_kind r e kind.United is

same_in : (k : Kind) (b : Bool) (r p q : Representation) → is_single k && not b ≡ false → (b ≡ true → is_choice r ≡ true) → form_in k b r p ≡ form_in k b r q
same_in kind.Atomic b r p q plain values = enumerated_same b r p q plain values
same_in kind.Listed b r p q plain values = refl
same_in kind.United b r p q plain values = refl

module _ (forms : List Representation) (base e : Entry) (kinds : e.kind ≡ base.kind) (marks : e.enumerated ≡ base.enumerated) (forms_are : e.form ≡ base.form) where
  pub kept_same : IsEntry forms base → is_plain base ≡ false → IsEntry forms e
  kept_same is plain =
      let r = form_at forms base.form in
      let at : form_at forms e.form ≡ r = ap (form_at forms) forms_are in
      let less = is.there in record {
        there = omega (arith, less, forms_are);
        form =
            at ∙ is.form ∙ sym (form_in_is base.kind base.enumerated r base refl refl)
            ∙ same_in base.kind base.enumerated r (plain_form (simple_in r base)) (plain_form (simple_in r e)) plain is.values
            ∙ form_in_is base.kind base.enumerated r e kinds marks
            ∙ ap (λ (q : Representation). form_of (simple_in q e)) (sym at);
        values = λ en. ap is_choice at ∙ is.values (sym marks ∙ en);
      }

-- ---- an atomic type is no list
pick_no_list : (b : Bool) (r s : Representation) → is_list r ≡ false → is_list s ≡ false → is_list (cond b r s) ≡ false
pick_no_list true r s e f = e
pick_no_list false r s e f = f

whole_no_list : (least : Option ℤ) → is_list (whole_form least) ≡ false
whole_no_list None = refl
whole_no_list (Some least) = pick_no_list (int_le (pos 0) least) datatype.unsigned datatype.integer refl refl

integer_no_list : (least most : Option ℤ) → is_list (integer_form least most) ≡ false
integer_no_list None None = refl
integer_no_list None (Some most) = refl
integer_no_list (Some least) None = whole_no_list (Some least)
integer_no_list (Some least) (Some most) =
    pick_no_list (are_few least most && is_narrow least) (small least (how_many least most)) (whole_form (Some least)) refl (whole_no_list (Some least))

string_no_list : (patterned : Bool) (letters : Option (List ℕ)) → is_list (string_form patterned letters) ≡ false
string_no_list true (Some letters) = refl
string_no_list true None = refl
string_no_list false (Some letters) = refl
string_no_list false None = refl

family_no_list : (least most : Option ℤ) (patterned : Bool) (letters : Option (List ℕ)) (f : Family) → is_list (family_form least most patterned letters f) ≡ false
family_no_list least most patterned letters family.Ur = refl
family_no_list least most patterned letters family.Lists = refl
family_no_list least most patterned letters (family.Integers first last) = integer_no_list least most
family_no_list least most patterned letters family.Strings = string_no_list patterned letters
family_no_list least most patterned letters family.Base64 = refl
family_no_list least most patterned letters family.Hex = refl
family_no_list least most patterned letters family.Reals = refl
family_no_list least most patterned letters (family.Moments kind) = refl
family_no_list least most patterned letters family.Names = refl
family_no_list least most patterned letters family.Booleans = refl
family_no_list least most patterned letters family.Decimals = refl
family_no_list least most patterned letters family.Others = refl

enumerated_no_list : (vs : Option (Representation × List Value)) (r : Representation) → is_list r ≡ false → is_list (enumerated vs r) ≡ false
enumerated_no_list None r e = e
enumerated_no_list (Some vs) r e = refl

pub atomic_no_list : (forms : List Representation) (e : Entry) → IsEntry forms e → e.kind ≡ kind.Atomic → is_list (form_at forms e.form) ≡ false
atomic_no_list forms e is atomic =
    let r = form_at forms e.form in
    ap is_list (is.form ∙ sym (by_kind r e kind.Atomic atomic))
    ∙ enumerated_no_list (values_in e.enumerated r) (plain_form (simple_in r e)) (family_no_list (option_map stands_at e.least) (option_map stands_at e.most) e.patterned e.letters e.family)
