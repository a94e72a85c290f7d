-- The date or the time of the one kind of which a text is.
use Rattle.std.proofs.Common.{◌≡◌, ℕ, List, [], ◌∷◌, Option, Some, None, refl, sym, ap, ◌∙◌, inl, inr}
use Rattle.std.specs.Prelude.{◌⊎◌, option_map, true}
use Rattle.std.specs.Str.{bytes_eq}
use Rattle.std.proofs.lemmas.Slice.Eq.{bytes_eq-Decides}
use Rattle.exi_calendar.specs.Forms.{moment_text}
use Rattle.exi_names.specs.declared.moment.Moment.{Moment}
use Rattle.exi_names.specs.declared.moment.MomentKind.{MomentKind}
use Rattle.exi_names.specs.declared.moment.MomentKind.TheVariants as form
use Rattle.exi_names.specs.Seen.{Value, moment}
use Rattle.exi_calendar.specs.Reading.{moment_value}
use Rattle.exi_calendar.proofs.OneKind.{one_kind}
use Rattle.exi_evtext.specs.Reading.{any_moment, if_canonical, moment_of, or_else}
use Rattle.exi_evtext.specs.Parsing.{dated}

or_assoc : {A : Type 0} (a b c : Option A) → or_else (or_else a b) c ≡ or_else a (or_else b c)
or_assoc None b c = refl
or_assoc (Some x) b c = refl

or_none : {A : Type 0} (a : Option A) → or_else a None ≡ a
or_none None = refl
or_none (Some x) = refl

or_same : {A : Type 0} (a b : Option A) → (b ≡ None) ⊎ (b ≡ a) → or_else a b ≡ a
or_same None b (inl h) = h
or_same None b (inr h) = h
or_same (Some x) b h = refl

-- the first kind under which the text has a value
abbrev first : List MomentKind → List ℕ → Option Moment
first [] t = None
first (k ∷ ks) t = or_else (moment_value k t) (first ks t)

abbrev any : List MomentKind → List ℕ → Option Value
any [] t = None
any (k ∷ ks) t = or_else (moment_of k t) (any ks t)

-- the value under another kind is the same
same_value : (k j : MomentKind) (t : List ℕ) (m n : Moment) → moment_value k t ≡ Some m → moment_value j t ≡ Some n → moment_of j t ≡ if_canonical t (Some (moment m))
same_value k j t m n p q =
    let kind : k ≡ j = one_kind k j t m n p q in
    let here : moment_value j t ≡ Some m = ap (λ (i : MomentKind). moment_value i t) (sym kind) ∙ p in
    ap (λ (o : Option Moment). if_canonical t (option_map moment o)) here

others_by : (k : MomentKind) (t : List ℕ) (m : Moment) → moment_value k t ≡ Some m → (j : MomentKind) (ks : List MomentKind) (o : Option Moment) → moment_value j t ≡ o
    → (any ks t ≡ None) ⊎ (any ks t ≡ if_canonical t (Some (moment m))) → (any (j ∷ ks) t ≡ None) ⊎ (any (j ∷ ks) t ≡ if_canonical t (Some (moment m)))
others_by k t m p j ks None q more =
    let same : any (j ∷ ks) t ≡ any ks t = ap (λ (o : Option Moment). or_else (if_canonical t (option_map moment o)) (any ks t)) q in
    elim more [
      | inl h ↦ inl (same ∙ h)
      | inr h ↦ inr (same ∙ h)
    ]
others_by k t m p j ks (Some n) q more =
    let x = if_canonical t (Some (moment m)) in
    let same : any (j ∷ ks) t ≡ or_else x (any ks t) = ap (λ (o : Option Value). or_else o (any ks t)) (same_value k j t m n p q) in
    inr (same ∙ or_same x (any ks t) more)

others : (k : MomentKind) (t : List ℕ) (m : Moment) → moment_value k t ≡ Some m → (ks : List MomentKind) → (any ks t ≡ None) ⊎ (any ks t ≡ if_canonical t (Some (moment m)))
others k t m p [] = inl refl
others k t m p (j ∷ ks) = others_by k t m p j ks (moment_value j t) refl (others k t m p ks)

all_by : (k : MomentKind) (ks : List MomentKind) (t : List ℕ) (o : Option Moment) → moment_value k t ≡ o → any ks t ≡ if_canonical t (option_map moment (first ks t))
    → any (k ∷ ks) t ≡ if_canonical t (option_map moment (first (k ∷ ks) t))
all_by k ks t None q more = rw (q, more) refl
all_by k ks t (Some m) q more = rw q (or_same (if_canonical t (Some (moment m))) (any ks t) (others k t m q ks))

all_is : (ks : List MomentKind) (t : List ℕ) → any ks t ≡ if_canonical t (option_map moment (first ks t))
all_is [] t = refl
all_is (k ∷ ks) t = all_by k ks t (moment_value k t) refl (all_is ks t)

abbrev kinds : List MomentKind
kinds = form.GYear ∷ form.GYearMonth ∷ form.Date ∷ form.DateTime ∷ form.GMonth ∷ form.GMonthDay ∷ form.GDay ∷ form.Time ∷ []

-- from the left as from the right
nested : {A : Type 0} (a b c d e f g h : Option A)
    → or_else (or_else (or_else (or_else (or_else (or_else (or_else a b) c) d) e) f) g) h ≡ or_else a (or_else b (or_else c (or_else d (or_else e (or_else f (or_else g (or_else h None)))))))
nested (Some x) b c d e f g h = refl
nested None (Some x) c d e f g h = refl
nested None None (Some x) d e f g h = refl
nested None None None (Some x) e f g h = refl
nested None None None None (Some x) f g h = refl
nested None None None None None (Some x) g h = refl
nested None None None None None None (Some x) h = refl
nested None None None None None None None (Some x) = refl
nested None None None None None None None None = refl

straight : {A : Type 0} (a b c d e f g h : Option A)
    → or_else a (or_else b (or_else c (or_else d (or_else e (or_else f (or_else g h)))))) ≡ or_else a (or_else b (or_else c (or_else d (or_else e (or_else f (or_else g (or_else h None)))))))
straight a b c d e f g h = ap (λ x. or_else a (or_else b (or_else c (or_else d (or_else e (or_else f (or_else g x))))))) (sym (or_none h))

pub any_is : (t : List ℕ) → any_moment t ≡ if_canonical t (option_map moment (dated t))
unfolding any_moment
any_is t =
    let left : dated t ≡ first kinds t =
    nested (moment_value form.GYear t) (moment_value form.GYearMonth t) (moment_value form.Date t) (moment_value form.DateTime t) (moment_value form.GMonth t) (moment_value form.GMonthDay t) (moment_value form.GDay t) (moment_value form.Time t) in
    straight (moment_of form.GYear t) (moment_of form.GYearMonth t) (moment_of form.Date t) (moment_of form.DateTime t) (moment_of form.GMonth t) (moment_of form.GMonthDay t) (moment_of form.GDay t) (moment_of form.Time t)
    ∙ all_is kinds t
    ∙ ap (λ (o : Option Moment). if_canonical t (option_map moment o)) (sym left)

-- where the value's text is the same
pub mom_is : (t : List ℕ) (m : Moment) → dated t ≡ Some m → bytes_eq (moment_text m) t ≡ true → any_moment t ≡ Some (moment m)
mom_is t m d same =
    let read : if_canonical t (Some (moment m)) ≡ Some (moment m) = rw same refl in
    any_is t ∙ ap (λ (o : Option Moment). if_canonical t (option_map moment o)) d ∙ read

-- nothing in all is nothing in those behind
none_behind : {A : Type 0} (a b : Option A) → or_else a b ≡ None → b ≡ None
none_behind None b e = e
none_behind (Some x) b e = absurd cc

some_first : {A : Type 0} (x : A) (b : Option A) → or_else (Some x) b ≡ None → ⊥
some_first x b e = absurd cc

-- where the text is that of a date with a time in its canonical form
pub date_time_is : (t : List ℕ) (m : Moment) → moment_value form.DateTime t ≡ Some m → moment_text m ≡ t → any_moment t ≡ Some (moment m)
unfolding any_moment
date_time_is t m p same =
    let yes_is : bytes_eq (moment_text m) t ≡ true = (bytes_eq-Decides (moment_text m) t).1 same in
    let x : if_canonical t (Some (moment m)) ≡ Some (moment m) = rw yes_is refl in
    let own : moment_of form.DateTime t ≡ Some (moment m) = ap (λ (o : Option Moment). if_canonical t (option_map moment o)) p ∙ x in
    straight (moment_of form.GYear t) (moment_of form.GYearMonth t) (moment_of form.Date t) (moment_of form.DateTime t) (moment_of form.GMonth t) (moment_of form.GMonthDay t) (moment_of form.GDay t) (moment_of form.Time t)
    ∙ elim (others form.DateTime t m p kinds) [
      | inl none ↦
          let behind : or_else (Some (moment m)) (any (form.GMonth ∷ form.GMonthDay ∷ form.GDay ∷ form.Time ∷ []) t) ≡ None =
          ap (λ (o : Option Value). or_else o (any (form.GMonth ∷ form.GMonthDay ∷ form.GDay ∷ form.Time ∷ []) t)) (sym own)
          ∙ none_behind (moment_of form.Date t) _ (none_behind (moment_of form.GYearMonth t) _ (none_behind (moment_of form.GYear t) _ none)) in
          absurd (some_first (moment m) (any (form.GMonth ∷ form.GMonthDay ∷ form.GDay ∷ form.Time ∷ []) t) behind)
      | inr found ↦ found ∙ x
    ]
