-- What is kept of types while forms are added.
use Rattle.std.proofs.Common.{◌≡◌, ℕ, zero, suc, ◌+◌, ◌<◌, ◌≤◌, nat_lt, true, false, cond, ◌⊎◌, inl, inr, Option, Some, None, List, [], ◌∷◌, ◌++◌, filter, get_or, length, map, set, slice_get, take, refl, sym, ap, subst, ◌∙◌, arith}
use Rattle.std.proofs.lemmas.Bool.{cases_eq, cases_lt, lt-ltb, le-ltb, false≢true}
use Rattle.std.proofs.lemmas.List.{get_or-map, get_or-set_other, get_or-take, get_or_append_left, get_or_past, length-append, length-map, length-set}
use Rattle.std.proofs.lemmas.Grind.{get_or-set_at}
use Rattle.exi_names.specs.Datatypes.{Representation, text}
use Rattle.xsd_restrictions.specs.Entries.{Grew, IsEntry, is_choice, simple_at, simple_in}
use Rattle.xsd_restrictions.specs.Restrictions.{Simple, any_simple_but, atomic, built_in_simple, form_at, form_of}
use Rattle.xsd_restrictions.specs.declared.entry.Entry.{Entry}
use Rattle.xsd_simple.specs.Kept.{AreBuilt, AreEntries, AreKnown, any_simple, simples}
use Rattle.xsd_simple.specs.Kept as kept

-- ---- more forms
module _ (old new : List Representation) (g : Grew old new) where
  form_stays : (p : ℕ) → p < length old → form_at new p ≡ form_at old p
  form_stays p less = sym (get_or-take (length old) new p text less) ∙ ap (λ (rs : List Representation). form_at rs p) g.before

  no_fewer : length old ≤ length new
  no_fewer = let e = sym (ap length g.before) in omega (arith, e, Rattle.std.proofs.lemmas.List.length-take (length old) new)

  simple_stays : (e : Entry) → IsEntry old e → simple_at new e ≡ simple_at old e
  simple_stays e is = ap (λ (r : Representation). simple_in r e) (form_stays e.form is.there)

  entry_stays : (e : Entry) → IsEntry old e → IsEntry new e
  entry_stays e is =
      let same = form_stays e.form is.there in
      let less = is.there in
      let more = no_fewer in record {
        there = omega (arith, less, more);
        form = same ∙ is.form ∙ sym (ap form_of (simple_stays e is));
        values = λ en. ap is_choice same ∙ is.values en;
      }

  pub entries_stay : (es : List Entry) → AreEntries old es → AreEntries new es
  entries_stay [] all = tt
  entries_stay (e ∷ es) all = (entry_stays e all.0, entries_stay es all.1)

  pub simples_stay : (es : List Entry) → AreEntries old es → simples new es ≡ simples old es
  simples_stay [] all = refl
  simples_stay (e ∷ es) all = ap (λ (s : Simple). s ∷ simples new es) (simple_stays e all.0) ∙ ap (λ (ss : List Simple). simple_at old e ∷ ss) (simples_stay es all.1)

entries_push : (forms : List Representation) (es : List Entry) (e : Entry) → AreEntries forms es → IsEntry forms e → AreEntries forms (es ++ e ∷ [])
entries_push forms [] e all is = (is, tt)
entries_push forms (x ∷ es) e all is = (all.0, entries_push forms es e all.1 is)

simples_push : (forms : List Representation) (es : List Entry) (e : Entry) → simples forms (es ++ e ∷ []) ≡ simples forms es ++ simple_at forms e ∷ []
simples_push forms [] e = refl
simples_push forms (x ∷ es) e = ap (λ (ss : List Simple). simple_at forms x ∷ ss) (simples_push forms es e)

-- one type more, over forms that may be more
module _ (old new : List Representation) (es items : List Entry) (e : Entry) (g : Grew old new) (all : AreEntries old es) (is : IsEntry new e) (pushed : items ≡ es ++ e ∷ []) where
  pub entries_more : AreEntries new items
  entries_more = subst (AreEntries new) (sym pushed) (entries_push new es e (entries_stay old new g es all) is)

  pub simples_more : (s : Simple) → simple_at new e ≡ s → simples new items ≡ simples old es ++ s ∷ []
  simples_more s s_is = ap (simples new) pushed ∙ simples_push new es e ∙ ap (λ (ss : List Simple). ss ++ simple_at new e ∷ []) (simples_stay old new g es all) ∙ ap (λ (x : Simple). simples old es ++ x ∷ []) s_is

-- ---- one of them
entry_in : (forms : List Representation) (es : List Entry) (p : ℕ) (d : Entry) → AreEntries forms es → p < length es → IsEntry forms (get_or es p d)
entry_in forms [] p d all less = absurd (omega (arith, less))
entry_in forms (e ∷ es) zero d all less = all.0
entry_in forms (e ∷ es) (suc p) d all less = entry_in forms es p d all.1 (omega (arith, less))

module _ (forms : List Representation) (es : List Entry) (p : ℕ) (e : Entry) (less : p < length es) (is : get_or es p e ≡ e) where
  pub entry_is : AreEntries forms es → IsEntry forms e
  entry_is all = subst (IsEntry forms) is (entry_in forms es p e all less)

  pub simple_is : simple_at forms e ≡ kept.simple_in (simples forms es) p
  simple_is = sym (get_or-map (simple_at forms) es p e any_simple less ∙ ap (simple_at forms) is)

pub count_simples : (forms : List Representation) (es : List Entry) → length (simples forms es) ≡ length es
count_simples forms [] = refl
count_simples forms (e ∷ es) = ap suc (count_simples forms es)

-- ---- behind the others
pub at_end : (xs : List Simple) (x : Simple) → kept.simple_in (xs ++ x ∷ []) (length xs) ≡ x
at_end [] x = refl
at_end (y ∷ xs) x = at_end xs x

pub built_more : (n : ℕ) (old new : List Simple) (s : Simple) → length old ≡ n → new ≡ old ++ s ∷ [] → s ≡ built_in_simple n → AreBuilt n old → AreBuilt (n + 1) new
built_more n old new s count pushed s_is all place less = ap (λ (ss : List Simple). kept.simple_in ss place) pushed ∙ elim (cases_lt place n) [
  | inl before ↦ get_or_append_left old (s ∷ []) any_simple place (omega (arith, before, count)) ∙ all place before
  | inr le ↦
      let last : place ≡ length old = omega (arith, le, less, count) in
      ap (kept.simple_in (old ++ s ∷ [])) last ∙ at_end old s ∙ s_is ∙ ap built_in_simple (sym count ∙ sym last)
]
