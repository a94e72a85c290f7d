-- In a built-in state the production that is wanted is the one for the event alone, where that stands, and else the one for
-- its kind.
use Rattle.std.proofs.Common.{◌≡◌, ◌⊎◌, ℕ, suc, ◌+◌, Bool, true, false, ◌&&◌, ◌||◌, cond, eqb, List, [], ◌∷◌, ◌++◌, length, map, filter, slice_get, Option, Some, None, refl, sym, ap, ◌∙◌, subst, inl, inr, arith, All, append-nil}
use Rattle.std.specs.Option.{option_map}
use Rattle.std.proofs.lemmas.Bool.{cases_Bool}
use Rattle.std.proofs.lemmas.List.{map-append, length-append}
use Rattle.std.proofs.lemmas.Option.{none-some, same_Some}
use Rattle.std.proofs.lemmas.List.Elements.{All-head, All-tail}
use mathlib.Core.Bool.{beq}
use Rattle.exi_gram.specs.Codes.{Coded, Productions, Second, coded, coded_from, coded_second, coded_seconds, group, mapped, mapped_second, single}
use Rattle.exi_gram.specs.Tables.{parts_of}
use Rattle.exi_gram.specs.declared.code.Code.{Code}
use Rattle.exi_gram.specs.declared.options.Options.{Options}
use Rattle.exi_names.specs.declared.names.NameId.{NameId}
use Rattle.exi_names.specs.NameMaps.{same_name}
use Rattle.exi_builtin.specs.BuiltIn.{BuiltInRule, is_kept, written}
use Rattle.exi_builtin.specs.declared.learnable.Learnable.{Learnable}
use Rattle.exi_builtin.specs.declared.learnable.Learnable.TheVariants as learnable
use Rattle.exi_builtin.specs.declared.learnable.Room.{Room}
use Rattle.exi_builtin.specs.declared.learnable.Room.TheVariants as room
use Rattle.exi_builtin.specs.LeastCodes.{IsCodeOf, first_code, is_it}
use Rattle.exi_builtin.specs.Layout.{grouped, laid_out, laid_seconds}
use Rattle.exi_builtin.specs.Learning.{IsRoom, Learning, learned_in, productions, state_behind}
use Rattle.exi_builtin.specs.Learning.{rule_in as built_in_of}
use Rattle.exi_builtin.specs.Marks.{IsLearned}
use Rattle.exi_builtin.proofs.Readers.{it_is}
use Rattle.exi_builtin.proofs.Rules.{rules_are}
use Rattle.exi_builtin.proofs.Shapes.{kept_shape}
use Rattle.exi_processing.specs.Configurations.{Setting, built_in}
use Rattle.exi_processing.specs.Handing.{rule_in}
use Rattle.exi_processing.specs.Rules.{Rule, built_in_rule, built_in_terminal}
use Rattle.exi_processing.specs.declared.rule.Content.{Content}
use Rattle.exi_processing.specs.declared.rule.Content.TheVariants as content
use Rattle.exi_processing.specs.declared.rule.Telling.TheVariants as told
use Rattle.exi_writing.specs.OneEvent.{fewest, first_of, or_else}
use Rattle.exi_choice.specs.Choices.{Chooses}
use Rattle.exi_choice.specs.Wanted.{LacksSpecial, first_for, general, is_of, is_of_rule, special}
use Rattle.exi_choice.specs.declared.choice.Choice.{Choice}
use Rattle.exi_choice.specs.declared.choice.Way.TheVariants as way

-- ---- the first that passes
abbrev pub first_coded : {X : Type 0} → (X → Bool) → List (Coded X) → Option (Coded X)
first_coded test [] = None
first_coded test (c ∷ cs) = cond (test c.item) (Some c) (first_coded test cs)

coded-append : {X : Type 0} (test : X → Bool) (cs ds : List (Coded X)) → first_coded test (cs ++ ds) ≡ or_else (first_coded test cs) (first_coded test ds)
coded-append test [] ds = refl
coded-append test (c ∷ cs) ds = elim (cases_Bool (test c.item)) [
  | inl h ↦ rw h refl
  | inr h ↦ rw h (coded-append test cs ds)
]

of-append : {X : Type 0} (n : ℕ) (test : X → Bool) (cs ds : List (Coded X)) → first_of n test (cs ++ ds) ≡ or_else (first_of n test cs) (first_of n test ds)
of-append n test [] ds = refl
of-append n test (c ∷ cs) ds = elim (cases_Bool (eqb (length c.parts) n && test c.item)) [
  | inl h ↦ rw h refl
  | inr h ↦ rw h (of-append n test cs ds)
]

code_is : {X : Type 0} (test : X → Bool) (cs : List (Coded X)) → first_code test cs ≡ option_map (λ c. c.parts) (first_coded test cs)
code_is test [] = refl
code_is test (c ∷ cs) = elim (cases_Bool (test c.item)) [
  | inl h ↦ rw h refl
  | inr h ↦ rw h (code_is test cs)
]

-- ---- of so many parts
abbrev Long : {X : Type 0} → ℕ → List (Coded X) → Type 0
Long n [] = Unit {0}
Long n (c ∷ cs) = (length c.parts ≡ n) × Long n cs

of_long : {X : Type 0} (n : ℕ) (test : X → Bool) (cs : List (Coded X)) → eqb n n ≡ true → Long n cs → first_of n test cs ≡ first_coded test cs
of_long n test [] e h = refl
of_long n test (c ∷ cs) e h = rw (h.0, e, of_long n test cs e h.1) refl

of_other : {X : Type 0} (n m : ℕ) (test : X → Bool) (cs : List (Coded X)) → eqb m n ≡ false → Long m cs → first_of n test cs ≡ None
of_other n m test [] e h = refl
of_other n m test (c ∷ cs) e h = rw (h.0, e, of_other n m test cs e h.1) refl

long_from : {X : Type 0} (front : List ℕ) (k : ℕ) (xs : List X) → Long (length front + 1) (coded_from front k xs)
long_from front k [] = tt
long_from front k (x ∷ xs) = (length-append front (k ∷ []), long_from front (suc k) xs)

else_none : {X : Type 0} (o : Option (Coded X)) → or_else o None ≡ o
else_none None = refl
else_none (Some x) = refl

three : {X : Type 0} (a b d : Option (Coded X)) → or_else (or_else a (or_else None None)) (or_else (or_else None (or_else b None)) (or_else None (or_else None d))) ≡ or_else a (or_else b d)
three (Some x) b d = refl
three None (Some x) d = refl
three None None d = refl

-- codes with one, two and three parts one behind another: the one with the fewest parts is the first
sorted_fewest : {X : Type 0} (test : X → Bool) (a b d : List (Coded X)) → Long 1 a → Long 2 b → Long 3 d → fewest test (a ++ (b ++ d)) ≡ first_coded test (a ++ (b ++ d))
sorted_fewest test a b d la lb ld =
    rw (of-append 1 test a (b ++ d), of-append 1 test b d, of-append 2 test a (b ++ d), of-append 2 test b d, of-append 3 test a (b ++ d), of-append 3 test b d)
    (rw (of_long 1 test a refl la, of_other 1 2 test b refl lb, of_other 1 3 test d refl ld, of_other 2 1 test a refl la, of_long 2 test b refl lb, of_other 2 3 test d refl ld, of_other 3 1 test a refl la, of_other 3 2 test b refl lb, of_long 3 test d refl ld)
    (three (first_coded test a) (first_coded test b) (first_coded test d) ∙ sym (coded-append test a (b ++ d) ∙ ap (or_else (first_coded test a)) (coded-append test b d))))

-- ---- the codes of a state that is laid out
group_codes : {X : Type 0} (front : List ℕ) (k : ℕ) (ms : List X) → coded_seconds front k (grouped ms) ≡ coded_from (front ++ k ∷ []) 0 ms
group_codes front k [] = refl
group_codes front k (m ∷ ms) = append-nil (coded_from (front ++ k ∷ []) 0 (m ∷ ms))

seconds_codes : {X : Type 0} (front : List ℕ) (k : ℕ) (ss ms : List X) → coded_seconds front k (laid_seconds ss ms) ≡ coded_from front k ss ++ coded_from (front ++ (k + length ss) ∷ []) 0 ms
seconds_codes front k [] ms = let z : k + 0 ≡ k = omega arith in rw z (group_codes front k ms)
seconds_codes {X} front k (s ∷ ss) ms = let z : suc k + length ss ≡ k + length (s ∷ ss) = omega arith in
    ap (λ (cs : List (Coded X)). record { parts = front ++ k ∷ []; item = s } ∷ cs) (seconds_codes front (suc k) ss ms ∙ ap (λ (i : ℕ). coded_from front (suc k) ss ++ coded_from (front ++ i ∷ []) 0 ms) z)

-- ---- the one test or the other
abbrev NoneOf : {X : Type 0} → (X → Bool) → List X → Type 0
NoneOf test [] = Unit {0}
NoneOf test (x ∷ xs) = (test x ≡ false) × NoneOf test xs

from_none : {X : Type 0} (test : X → Bool) (front : List ℕ) (k : ℕ) (xs : List X) → NoneOf test xs → first_coded test (coded_from front k xs) ≡ None
from_none test front k [] h = refl
from_none test front k (x ∷ xs) h = rw (h.0) (from_none test front (suc k) xs h.1)

abbrev Either : {X : Type 0} → (X → Bool) → (X → Bool) → (X → Bool) → Type 0
Either {X} t s g = (x : X) → t x ≡ (s x || g x)

from_right : {X : Type 0} (t s g : X → Bool) (front : List ℕ) (k : ℕ) (xs : List X) → Either t s g → NoneOf s xs → first_coded t (coded_from front k xs) ≡ first_coded g (coded_from front k xs)
from_right t s g front k [] e h = refl
from_right t s g front k (x ∷ xs) e h = rw (e x, h.0, from_right t s g front (suc k) xs e h.1) refl

or_false : (b : Bool) → (b || false) ≡ b
or_false true = refl
or_false false = refl

from_left : {X : Type 0} (t s g : X → Bool) (front : List ℕ) (k : ℕ) (xs : List X) → Either t s g → NoneOf g xs → first_coded t (coded_from front k xs) ≡ first_coded s (coded_from front k xs)
from_left t s g front k [] e h = refl
from_left t s g front k (x ∷ xs) e h = rw (e x, h.0, or_false (s x), from_left t s g front (suc k) xs e h.1) refl

-- what was learned passes the first test alone; of what is written with one part either test passes none
firsts_split : {X : Type 0} (t s g : X → Bool) (k : ℕ) (learned firsts : List X) → Either t s g → NoneOf g learned → NoneOf s firsts ⊎ NoneOf g firsts → first_coded t (coded_from [] k (learned ++ firsts)) ≡ or_else (first_coded s (coded_from [] k (learned ++ firsts))) (first_coded g (coded_from [] k (learned ++ firsts)))
firsts_split t s g k [] firsts e h (inl n) = from_right t s g [] k firsts e n ∙ sym (ap (λ o. or_else o (first_coded g (coded_from [] k firsts))) (from_none s [] k firsts n))
firsts_split t s g k [] firsts e h (inr n) = from_left t s g [] k firsts e n ∙ sym (ap (or_else (first_coded s (coded_from [] k firsts))) (from_none g [] k firsts n) ∙ else_none (first_coded s (coded_from [] k firsts)))
firsts_split t s g k (x ∷ xs) firsts e h d = elim (cases_Bool (s x)) [
  | inl p ↦ rw (e x, p) refl
  | inr p ↦ rw (e x, p, h.0) (firsts_split t s g (suc k) xs firsts e h.1 d)
]

four : {X : Type 0} (a b c d : Option (Coded X)) → or_else (or_else a b) (or_else c d) ≡ or_else (or_else a (or_else None None)) (or_else b (or_else c d))
four (Some x) b c d = refl
four None b c d = refl

-- so the first that passes either is the first that passes the one, and else the first that passes the other
split_first : {X : Type 0} (t s g : X → Bool) (learned firsts singles members : List X) (n k : ℕ) → Either t s g → NoneOf g learned → NoneOf s firsts ⊎ NoneOf g firsts → NoneOf s singles → NoneOf s members →
    let cs = coded_from [] 0 (learned ++ firsts) ++ (coded_from (n ∷ []) 0 singles ++ coded_from (n ∷ k ∷ []) 0 members) in first_coded t cs ≡ or_else (first_coded s cs) (first_coded g cs)
split_first {X} t s g learned firsts singles members n k e h d hs hm =
    let a = coded_from [] 0 (learned ++ firsts) in
    let b = coded_from (n ∷ []) 0 singles in
    let c = coded_from (n ∷ k ∷ []) 0 members in
    let all : (test : X → Bool) → first_coded test (a ++ (b ++ c)) ≡ or_else (first_coded test a) (or_else (first_coded test b) (first_coded test c)) = λ test. coded-append test a (b ++ c) ∙ ap (or_else (first_coded test a)) (coded-append test b c) in
    rw (all t, all s, all g, firsts_split t s g 0 learned firsts e h d, from_right t s g (n ∷ []) 0 singles e hs, from_right t s g (n ∷ k ∷ []) 0 members e hm, from_none s (n ∷ []) 0 singles hs, from_none s (n ∷ k ∷ []) 0 members hm)
    (four (first_coded s a) (first_coded g a) (first_coded g b) (first_coded g c))

-- ---- the two tests of an event
abbrev pub is_this : Option Learnable → Learnable → Bool
is_this None x = false
is_this (Some y) x = is_it y x

named_or : (own other : NameId) (a b : Bool) → beq a b ≡ true → same_name other own ≡ ((same_name other own && beq a b) || false)
named_or own other a b e = rw e (by (same_name other own))
  where
    by : (x : Bool) → x ≡ ((x && true) || false)
    by true = refl
    by false = refl

named_not : (own other : NameId) (a b : Bool) → beq a b ≡ false → false ≡ ((same_name other own && beq a b) || false)
named_not own other a b e = rw e (by (same_name other own))
  where
    by : (x : Bool) → false ≡ ((x && false) || false)
    by true = refl
    by false = refl

either : (wanted : Content) (x : Learnable) → is_of wanted (built_in_terminal x) ≡ (is_this (special wanted) x || is_this (general wanted) x)
either content.StartDocument (learnable.Known name true) = refl
either content.StartDocument (learnable.Known name false) = refl
either content.StartDocument learnable.SeAny = refl
either content.StartDocument learnable.AtAny = refl
either content.StartDocument (learnable.Ch true) = refl
either content.StartDocument (learnable.Ch false) = refl
either content.StartDocument (learnable.Ee true) = refl
either content.StartDocument (learnable.Ee false) = refl
either content.StartDocument learnable.Ed = refl
either content.StartDocument learnable.Ns = refl
either content.StartDocument learnable.Sc = refl
either content.StartDocument learnable.Er = refl
either content.StartDocument learnable.Cm = refl
either content.StartDocument learnable.Pi = refl
either content.EndDocument (learnable.Known name true) = refl
either content.EndDocument (learnable.Known name false) = refl
either content.EndDocument learnable.SeAny = refl
either content.EndDocument learnable.AtAny = refl
either content.EndDocument (learnable.Ch true) = refl
either content.EndDocument (learnable.Ch false) = refl
either content.EndDocument (learnable.Ee true) = refl
either content.EndDocument (learnable.Ee false) = refl
either content.EndDocument learnable.Ed = refl
either content.EndDocument learnable.Ns = refl
either content.EndDocument learnable.Sc = refl
either content.EndDocument learnable.Er = refl
either content.EndDocument learnable.Cm = refl
either content.EndDocument learnable.Pi = refl
either (content.Element told.Spelled) (learnable.Known name true) = refl
either (content.Element told.Spelled) (learnable.Known name false) = refl
either (content.Element told.Spelled) learnable.SeAny = refl
either (content.Element told.Spelled) learnable.AtAny = refl
either (content.Element told.Spelled) (learnable.Ch true) = refl
either (content.Element told.Spelled) (learnable.Ch false) = refl
either (content.Element told.Spelled) (learnable.Ee true) = refl
either (content.Element told.Spelled) (learnable.Ee false) = refl
either (content.Element told.Spelled) learnable.Ed = refl
either (content.Element told.Spelled) learnable.Ns = refl
either (content.Element told.Spelled) learnable.Sc = refl
either (content.Element told.Spelled) learnable.Er = refl
either (content.Element told.Spelled) learnable.Cm = refl
either (content.Element told.Spelled) learnable.Pi = refl
either (content.Element (told.Under uri)) (learnable.Known name true) = refl
either (content.Element (told.Under uri)) (learnable.Known name false) = refl
either (content.Element (told.Under uri)) learnable.SeAny = refl
either (content.Element (told.Under uri)) learnable.AtAny = refl
either (content.Element (told.Under uri)) (learnable.Ch true) = refl
either (content.Element (told.Under uri)) (learnable.Ch false) = refl
either (content.Element (told.Under uri)) (learnable.Ee true) = refl
either (content.Element (told.Under uri)) (learnable.Ee false) = refl
either (content.Element (told.Under uri)) learnable.Ed = refl
either (content.Element (told.Under uri)) learnable.Ns = refl
either (content.Element (told.Under uri)) learnable.Sc = refl
either (content.Element (told.Under uri)) learnable.Er = refl
either (content.Element (told.Under uri)) learnable.Cm = refl
either (content.Element (told.Under uri)) learnable.Pi = refl
either (content.Element (told.Known own)) (learnable.Known name true) = named_not own name true false refl
either (content.Element (told.Known own)) (learnable.Known name false) = named_or own name false false refl
either (content.Element (told.Known own)) learnable.SeAny = refl
either (content.Element (told.Known own)) learnable.AtAny = refl
either (content.Element (told.Known own)) (learnable.Ch true) = refl
either (content.Element (told.Known own)) (learnable.Ch false) = refl
either (content.Element (told.Known own)) (learnable.Ee true) = refl
either (content.Element (told.Known own)) (learnable.Ee false) = refl
either (content.Element (told.Known own)) learnable.Ed = refl
either (content.Element (told.Known own)) learnable.Ns = refl
either (content.Element (told.Known own)) learnable.Sc = refl
either (content.Element (told.Known own)) learnable.Er = refl
either (content.Element (told.Known own)) learnable.Cm = refl
either (content.Element (told.Known own)) learnable.Pi = refl
either (content.Attribute told.Spelled v) (learnable.Known name true) = refl
either (content.Attribute told.Spelled v) (learnable.Known name false) = refl
either (content.Attribute told.Spelled v) learnable.SeAny = refl
either (content.Attribute told.Spelled v) learnable.AtAny = refl
either (content.Attribute told.Spelled v) (learnable.Ch true) = refl
either (content.Attribute told.Spelled v) (learnable.Ch false) = refl
either (content.Attribute told.Spelled v) (learnable.Ee true) = refl
either (content.Attribute told.Spelled v) (learnable.Ee false) = refl
either (content.Attribute told.Spelled v) learnable.Ed = refl
either (content.Attribute told.Spelled v) learnable.Ns = refl
either (content.Attribute told.Spelled v) learnable.Sc = refl
either (content.Attribute told.Spelled v) learnable.Er = refl
either (content.Attribute told.Spelled v) learnable.Cm = refl
either (content.Attribute told.Spelled v) learnable.Pi = refl
either (content.Attribute (told.Under uri) v) (learnable.Known name true) = refl
either (content.Attribute (told.Under uri) v) (learnable.Known name false) = refl
either (content.Attribute (told.Under uri) v) learnable.SeAny = refl
either (content.Attribute (told.Under uri) v) learnable.AtAny = refl
either (content.Attribute (told.Under uri) v) (learnable.Ch true) = refl
either (content.Attribute (told.Under uri) v) (learnable.Ch false) = refl
either (content.Attribute (told.Under uri) v) (learnable.Ee true) = refl
either (content.Attribute (told.Under uri) v) (learnable.Ee false) = refl
either (content.Attribute (told.Under uri) v) learnable.Ed = refl
either (content.Attribute (told.Under uri) v) learnable.Ns = refl
either (content.Attribute (told.Under uri) v) learnable.Sc = refl
either (content.Attribute (told.Under uri) v) learnable.Er = refl
either (content.Attribute (told.Under uri) v) learnable.Cm = refl
either (content.Attribute (told.Under uri) v) learnable.Pi = refl
either (content.Attribute (told.Known own) v) (learnable.Known name true) = named_or own name true true refl
either (content.Attribute (told.Known own) v) (learnable.Known name false) = named_not own name false true refl
either (content.Attribute (told.Known own) v) learnable.SeAny = refl
either (content.Attribute (told.Known own) v) learnable.AtAny = refl
either (content.Attribute (told.Known own) v) (learnable.Ch true) = refl
either (content.Attribute (told.Known own) v) (learnable.Ch false) = refl
either (content.Attribute (told.Known own) v) (learnable.Ee true) = refl
either (content.Attribute (told.Known own) v) (learnable.Ee false) = refl
either (content.Attribute (told.Known own) v) learnable.Ed = refl
either (content.Attribute (told.Known own) v) learnable.Ns = refl
either (content.Attribute (told.Known own) v) learnable.Sc = refl
either (content.Attribute (told.Known own) v) learnable.Er = refl
either (content.Attribute (told.Known own) v) learnable.Cm = refl
either (content.Attribute (told.Known own) v) learnable.Pi = refl
either content.Characters (learnable.Known name true) = refl
either content.Characters (learnable.Known name false) = refl
either content.Characters learnable.SeAny = refl
either content.Characters learnable.AtAny = refl
either content.Characters (learnable.Ch true) = refl
either content.Characters (learnable.Ch false) = refl
either content.Characters (learnable.Ee true) = refl
either content.Characters (learnable.Ee false) = refl
either content.Characters learnable.Ed = refl
either content.Characters learnable.Ns = refl
either content.Characters learnable.Sc = refl
either content.Characters learnable.Er = refl
either content.Characters learnable.Cm = refl
either content.Characters learnable.Pi = refl
either content.EndElement (learnable.Known name true) = refl
either content.EndElement (learnable.Known name false) = refl
either content.EndElement learnable.SeAny = refl
either content.EndElement learnable.AtAny = refl
either content.EndElement (learnable.Ch true) = refl
either content.EndElement (learnable.Ch false) = refl
either content.EndElement (learnable.Ee true) = refl
either content.EndElement (learnable.Ee false) = refl
either content.EndElement learnable.Ed = refl
either content.EndElement learnable.Ns = refl
either content.EndElement learnable.Sc = refl
either content.EndElement learnable.Er = refl
either content.EndElement learnable.Cm = refl
either content.EndElement learnable.Pi = refl
either content.Declaration (learnable.Known name true) = refl
either content.Declaration (learnable.Known name false) = refl
either content.Declaration learnable.SeAny = refl
either content.Declaration learnable.AtAny = refl
either content.Declaration (learnable.Ch true) = refl
either content.Declaration (learnable.Ch false) = refl
either content.Declaration (learnable.Ee true) = refl
either content.Declaration (learnable.Ee false) = refl
either content.Declaration learnable.Ed = refl
either content.Declaration learnable.Ns = refl
either content.Declaration learnable.Sc = refl
either content.Declaration learnable.Er = refl
either content.Declaration learnable.Cm = refl
either content.Declaration learnable.Pi = refl
either content.SelfContained (learnable.Known name true) = refl
either content.SelfContained (learnable.Known name false) = refl
either content.SelfContained learnable.SeAny = refl
either content.SelfContained learnable.AtAny = refl
either content.SelfContained (learnable.Ch true) = refl
either content.SelfContained (learnable.Ch false) = refl
either content.SelfContained (learnable.Ee true) = refl
either content.SelfContained (learnable.Ee false) = refl
either content.SelfContained learnable.Ed = refl
either content.SelfContained learnable.Ns = refl
either content.SelfContained learnable.Sc = refl
either content.SelfContained learnable.Er = refl
either content.SelfContained learnable.Cm = refl
either content.SelfContained learnable.Pi = refl
either content.Comment (learnable.Known name true) = refl
either content.Comment (learnable.Known name false) = refl
either content.Comment learnable.SeAny = refl
either content.Comment learnable.AtAny = refl
either content.Comment (learnable.Ch true) = refl
either content.Comment (learnable.Ch false) = refl
either content.Comment (learnable.Ee true) = refl
either content.Comment (learnable.Ee false) = refl
either content.Comment learnable.Ed = refl
either content.Comment learnable.Ns = refl
either content.Comment learnable.Sc = refl
either content.Comment learnable.Er = refl
either content.Comment learnable.Cm = refl
either content.Comment learnable.Pi = refl
either content.Instruction (learnable.Known name true) = refl
either content.Instruction (learnable.Known name false) = refl
either content.Instruction learnable.SeAny = refl
either content.Instruction learnable.AtAny = refl
either content.Instruction (learnable.Ch true) = refl
either content.Instruction (learnable.Ch false) = refl
either content.Instruction (learnable.Ee true) = refl
either content.Instruction (learnable.Ee false) = refl
either content.Instruction learnable.Ed = refl
either content.Instruction learnable.Ns = refl
either content.Instruction learnable.Sc = refl
either content.Instruction learnable.Er = refl
either content.Instruction learnable.Cm = refl
either content.Instruction learnable.Pi = refl
either content.DocumentType (learnable.Known name true) = refl
either content.DocumentType (learnable.Known name false) = refl
either content.DocumentType learnable.SeAny = refl
either content.DocumentType learnable.AtAny = refl
either content.DocumentType (learnable.Ch true) = refl
either content.DocumentType (learnable.Ch false) = refl
either content.DocumentType (learnable.Ee true) = refl
either content.DocumentType (learnable.Ee false) = refl
either content.DocumentType learnable.Ed = refl
either content.DocumentType learnable.Ns = refl
either content.DocumentType learnable.Sc = refl
either content.DocumentType learnable.Er = refl
either content.DocumentType learnable.Cm = refl
either content.DocumentType learnable.Pi = refl
either content.Entity (learnable.Known name true) = refl
either content.Entity (learnable.Known name false) = refl
either content.Entity learnable.SeAny = refl
either content.Entity learnable.AtAny = refl
either content.Entity (learnable.Ch true) = refl
either content.Entity (learnable.Ch false) = refl
either content.Entity (learnable.Ee true) = refl
either content.Entity (learnable.Ee false) = refl
either content.Entity learnable.Ed = refl
either content.Entity learnable.Ns = refl
either content.Entity learnable.Sc = refl
either content.Entity learnable.Er = refl
either content.Entity learnable.Cm = refl
either content.Entity learnable.Pi = refl

-- what was learned is never the one for a kind
learned_not : (wanted : Content) (x : Learnable) → IsLearned x → is_this (general wanted) x ≡ false
learned_not content.StartDocument (learnable.Known name attribute) h = refl
learned_not content.StartDocument learnable.SeAny h = absurd h
learned_not content.StartDocument learnable.AtAny h = absurd h
learned_not content.StartDocument (learnable.Ch true) h = refl
learned_not content.StartDocument (learnable.Ch false) h = absurd cc
learned_not content.StartDocument (learnable.Ee true) h = refl
learned_not content.StartDocument (learnable.Ee false) h = absurd cc
learned_not content.StartDocument learnable.Ed h = absurd h
learned_not content.StartDocument learnable.Ns h = absurd h
learned_not content.StartDocument learnable.Sc h = absurd h
learned_not content.StartDocument learnable.Er h = absurd h
learned_not content.StartDocument learnable.Cm h = absurd h
learned_not content.StartDocument learnable.Pi h = absurd h
learned_not content.EndDocument (learnable.Known name attribute) h = refl
learned_not content.EndDocument learnable.SeAny h = absurd h
learned_not content.EndDocument learnable.AtAny h = absurd h
learned_not content.EndDocument (learnable.Ch true) h = refl
learned_not content.EndDocument (learnable.Ch false) h = absurd cc
learned_not content.EndDocument (learnable.Ee true) h = refl
learned_not content.EndDocument (learnable.Ee false) h = absurd cc
learned_not content.EndDocument learnable.Ed h = absurd h
learned_not content.EndDocument learnable.Ns h = absurd h
learned_not content.EndDocument learnable.Sc h = absurd h
learned_not content.EndDocument learnable.Er h = absurd h
learned_not content.EndDocument learnable.Cm h = absurd h
learned_not content.EndDocument learnable.Pi h = absurd h
learned_not (content.Element own) (learnable.Known name attribute) h = refl
learned_not (content.Element own) learnable.SeAny h = absurd h
learned_not (content.Element own) learnable.AtAny h = absurd h
learned_not (content.Element own) (learnable.Ch true) h = refl
learned_not (content.Element own) (learnable.Ch false) h = absurd cc
learned_not (content.Element own) (learnable.Ee true) h = refl
learned_not (content.Element own) (learnable.Ee false) h = absurd cc
learned_not (content.Element own) learnable.Ed h = absurd h
learned_not (content.Element own) learnable.Ns h = absurd h
learned_not (content.Element own) learnable.Sc h = absurd h
learned_not (content.Element own) learnable.Er h = absurd h
learned_not (content.Element own) learnable.Cm h = absurd h
learned_not (content.Element own) learnable.Pi h = absurd h
learned_not (content.Attribute own v) (learnable.Known name attribute) h = refl
learned_not (content.Attribute own v) learnable.SeAny h = absurd h
learned_not (content.Attribute own v) learnable.AtAny h = absurd h
learned_not (content.Attribute own v) (learnable.Ch true) h = refl
learned_not (content.Attribute own v) (learnable.Ch false) h = absurd cc
learned_not (content.Attribute own v) (learnable.Ee true) h = refl
learned_not (content.Attribute own v) (learnable.Ee false) h = absurd cc
learned_not (content.Attribute own v) learnable.Ed h = absurd h
learned_not (content.Attribute own v) learnable.Ns h = absurd h
learned_not (content.Attribute own v) learnable.Sc h = absurd h
learned_not (content.Attribute own v) learnable.Er h = absurd h
learned_not (content.Attribute own v) learnable.Cm h = absurd h
learned_not (content.Attribute own v) learnable.Pi h = absurd h
learned_not content.Characters (learnable.Known name attribute) h = refl
learned_not content.Characters learnable.SeAny h = absurd h
learned_not content.Characters learnable.AtAny h = absurd h
learned_not content.Characters (learnable.Ch true) h = refl
learned_not content.Characters (learnable.Ch false) h = absurd cc
learned_not content.Characters (learnable.Ee true) h = refl
learned_not content.Characters (learnable.Ee false) h = absurd cc
learned_not content.Characters learnable.Ed h = absurd h
learned_not content.Characters learnable.Ns h = absurd h
learned_not content.Characters learnable.Sc h = absurd h
learned_not content.Characters learnable.Er h = absurd h
learned_not content.Characters learnable.Cm h = absurd h
learned_not content.Characters learnable.Pi h = absurd h
learned_not content.EndElement (learnable.Known name attribute) h = refl
learned_not content.EndElement learnable.SeAny h = absurd h
learned_not content.EndElement learnable.AtAny h = absurd h
learned_not content.EndElement (learnable.Ch true) h = refl
learned_not content.EndElement (learnable.Ch false) h = absurd cc
learned_not content.EndElement (learnable.Ee true) h = refl
learned_not content.EndElement (learnable.Ee false) h = absurd cc
learned_not content.EndElement learnable.Ed h = absurd h
learned_not content.EndElement learnable.Ns h = absurd h
learned_not content.EndElement learnable.Sc h = absurd h
learned_not content.EndElement learnable.Er h = absurd h
learned_not content.EndElement learnable.Cm h = absurd h
learned_not content.EndElement learnable.Pi h = absurd h
learned_not content.Declaration (learnable.Known name attribute) h = refl
learned_not content.Declaration learnable.SeAny h = absurd h
learned_not content.Declaration learnable.AtAny h = absurd h
learned_not content.Declaration (learnable.Ch true) h = refl
learned_not content.Declaration (learnable.Ch false) h = absurd cc
learned_not content.Declaration (learnable.Ee true) h = refl
learned_not content.Declaration (learnable.Ee false) h = absurd cc
learned_not content.Declaration learnable.Ed h = absurd h
learned_not content.Declaration learnable.Ns h = absurd h
learned_not content.Declaration learnable.Sc h = absurd h
learned_not content.Declaration learnable.Er h = absurd h
learned_not content.Declaration learnable.Cm h = absurd h
learned_not content.Declaration learnable.Pi h = absurd h
learned_not content.SelfContained (learnable.Known name attribute) h = refl
learned_not content.SelfContained learnable.SeAny h = absurd h
learned_not content.SelfContained learnable.AtAny h = absurd h
learned_not content.SelfContained (learnable.Ch true) h = refl
learned_not content.SelfContained (learnable.Ch false) h = absurd cc
learned_not content.SelfContained (learnable.Ee true) h = refl
learned_not content.SelfContained (learnable.Ee false) h = absurd cc
learned_not content.SelfContained learnable.Ed h = absurd h
learned_not content.SelfContained learnable.Ns h = absurd h
learned_not content.SelfContained learnable.Sc h = absurd h
learned_not content.SelfContained learnable.Er h = absurd h
learned_not content.SelfContained learnable.Cm h = absurd h
learned_not content.SelfContained learnable.Pi h = absurd h
learned_not content.Comment (learnable.Known name attribute) h = refl
learned_not content.Comment learnable.SeAny h = absurd h
learned_not content.Comment learnable.AtAny h = absurd h
learned_not content.Comment (learnable.Ch true) h = refl
learned_not content.Comment (learnable.Ch false) h = absurd cc
learned_not content.Comment (learnable.Ee true) h = refl
learned_not content.Comment (learnable.Ee false) h = absurd cc
learned_not content.Comment learnable.Ed h = absurd h
learned_not content.Comment learnable.Ns h = absurd h
learned_not content.Comment learnable.Sc h = absurd h
learned_not content.Comment learnable.Er h = absurd h
learned_not content.Comment learnable.Cm h = absurd h
learned_not content.Comment learnable.Pi h = absurd h
learned_not content.Instruction (learnable.Known name attribute) h = refl
learned_not content.Instruction learnable.SeAny h = absurd h
learned_not content.Instruction learnable.AtAny h = absurd h
learned_not content.Instruction (learnable.Ch true) h = refl
learned_not content.Instruction (learnable.Ch false) h = absurd cc
learned_not content.Instruction (learnable.Ee true) h = refl
learned_not content.Instruction (learnable.Ee false) h = absurd cc
learned_not content.Instruction learnable.Ed h = absurd h
learned_not content.Instruction learnable.Ns h = absurd h
learned_not content.Instruction learnable.Sc h = absurd h
learned_not content.Instruction learnable.Er h = absurd h
learned_not content.Instruction learnable.Cm h = absurd h
learned_not content.Instruction learnable.Pi h = absurd h
learned_not content.DocumentType (learnable.Known name attribute) h = refl
learned_not content.DocumentType learnable.SeAny h = absurd h
learned_not content.DocumentType learnable.AtAny h = absurd h
learned_not content.DocumentType (learnable.Ch true) h = refl
learned_not content.DocumentType (learnable.Ch false) h = absurd cc
learned_not content.DocumentType (learnable.Ee true) h = refl
learned_not content.DocumentType (learnable.Ee false) h = absurd cc
learned_not content.DocumentType learnable.Ed h = absurd h
learned_not content.DocumentType learnable.Ns h = absurd h
learned_not content.DocumentType learnable.Sc h = absurd h
learned_not content.DocumentType learnable.Er h = absurd h
learned_not content.DocumentType learnable.Cm h = absurd h
learned_not content.DocumentType learnable.Pi h = absurd h
learned_not content.Entity (learnable.Known name attribute) h = refl
learned_not content.Entity learnable.SeAny h = absurd h
learned_not content.Entity learnable.AtAny h = absurd h
learned_not content.Entity (learnable.Ch true) h = refl
learned_not content.Entity (learnable.Ch false) h = absurd cc
learned_not content.Entity (learnable.Ee true) h = refl
learned_not content.Entity (learnable.Ee false) h = absurd cc
learned_not content.Entity learnable.Ed h = absurd h
learned_not content.Entity learnable.Ns h = absurd h
learned_not content.Entity learnable.Sc h = absurd h
learned_not content.Entity learnable.Er h = absurd h
learned_not content.Entity learnable.Cm h = absurd h
learned_not content.Entity learnable.Pi h = absurd h

none_learned : (wanted : Content) (xs : List Learnable) → All IsLearned xs → NoneOf (is_this (general wanted)) xs
none_learned wanted [] h = tt
none_learned wanted (x ∷ xs) h = (learned_not wanted x (All-head IsLearned x xs h), none_learned wanted xs (All-tail IsLearned x xs h))

none_kept : (test keep : Learnable → Bool) (xs : List Learnable) → NoneOf test xs → NoneOf test (filter keep xs)
none_kept test keep [] h = tt
none_kept test keep (x ∷ xs) h = elim (cases_Bool (keep x)) [
  | inl p ↦ rw p (h.0, none_kept test keep xs h.1)
  | inr p ↦ rw p (none_kept test keep xs h.1)
]

-- ---- the written lists
abbrev firsts_of : Room → List Learnable
firsts_of (room.StartTag number) = []
firsts_of (room.Content number) = learnable.Ee true ∷ []
firsts_of room.Fragment = learnable.SeAny ∷ learnable.Ed ∷ []

abbrev singles_of : Room → List Learnable
singles_of (room.StartTag number) = learnable.Ee false ∷ learnable.AtAny ∷ learnable.Ns ∷ learnable.Sc ∷ learnable.SeAny ∷ learnable.Ch false ∷ learnable.Er ∷ []
singles_of (room.Content number) = learnable.SeAny ∷ learnable.Ch false ∷ learnable.Er ∷ []
singles_of room.Fragment = learnable.Cm ∷ learnable.Pi ∷ []

abbrev members_of : Room → List Learnable
members_of (room.StartTag number) = learnable.Cm ∷ learnable.Pi ∷ []
members_of (room.Content number) = learnable.Cm ∷ learnable.Pi ∷ []
members_of room.Fragment = []

laid : (r : Room) → laid_out (firsts_of r) (singles_of r) (members_of r) ≡ written r
laid (room.StartTag number) = refl
laid (room.Content number) = refl
laid room.Fragment = refl

firsts_ok : (wanted : Content) (r : Room) → NoneOf (is_this (special wanted)) (firsts_of r) ⊎ NoneOf (is_this (general wanted)) (firsts_of r)
firsts_ok content.StartDocument (room.StartTag number) = inl tt
firsts_ok content.StartDocument (room.Content number) = inl (refl, tt)
firsts_ok content.StartDocument room.Fragment = inl (refl, (refl, tt))
firsts_ok content.EndDocument (room.StartTag number) = inl tt
firsts_ok content.EndDocument (room.Content number) = inl (refl, tt)
firsts_ok content.EndDocument room.Fragment = inl (refl, (refl, tt))
firsts_ok (content.Element told.Spelled) (room.StartTag number) = inl tt
firsts_ok (content.Element told.Spelled) (room.Content number) = inl (refl, tt)
firsts_ok (content.Element told.Spelled) room.Fragment = inl (refl, (refl, tt))
firsts_ok (content.Element (told.Under uri)) (room.StartTag number) = inl tt
firsts_ok (content.Element (told.Under uri)) (room.Content number) = inl (refl, tt)
firsts_ok (content.Element (told.Under uri)) room.Fragment = inl (refl, (refl, tt))
firsts_ok (content.Element (told.Known own)) (room.StartTag number) = inl tt
firsts_ok (content.Element (told.Known own)) (room.Content number) = inl (refl, tt)
firsts_ok (content.Element (told.Known own)) room.Fragment = inl (refl, (refl, tt))
firsts_ok (content.Attribute told.Spelled v) (room.StartTag number) = inl tt
firsts_ok (content.Attribute told.Spelled v) (room.Content number) = inl (refl, tt)
firsts_ok (content.Attribute told.Spelled v) room.Fragment = inl (refl, (refl, tt))
firsts_ok (content.Attribute (told.Under uri) v) (room.StartTag number) = inl tt
firsts_ok (content.Attribute (told.Under uri) v) (room.Content number) = inl (refl, tt)
firsts_ok (content.Attribute (told.Under uri) v) room.Fragment = inl (refl, (refl, tt))
firsts_ok (content.Attribute (told.Known own) v) (room.StartTag number) = inl tt
firsts_ok (content.Attribute (told.Known own) v) (room.Content number) = inl (refl, tt)
firsts_ok (content.Attribute (told.Known own) v) room.Fragment = inl (refl, (refl, tt))
firsts_ok content.Characters (room.StartTag number) = inl tt
firsts_ok content.Characters (room.Content number) = inl (refl, tt)
firsts_ok content.Characters room.Fragment = inl (refl, (refl, tt))
firsts_ok content.EndElement (room.StartTag number) = inl tt
firsts_ok content.EndElement (room.Content number) = inr (refl, tt)
firsts_ok content.EndElement room.Fragment = inl (refl, (refl, tt))
firsts_ok content.Declaration (room.StartTag number) = inl tt
firsts_ok content.Declaration (room.Content number) = inl (refl, tt)
firsts_ok content.Declaration room.Fragment = inl (refl, (refl, tt))
firsts_ok content.SelfContained (room.StartTag number) = inl tt
firsts_ok content.SelfContained (room.Content number) = inl (refl, tt)
firsts_ok content.SelfContained room.Fragment = inl (refl, (refl, tt))
firsts_ok content.Comment (room.StartTag number) = inl tt
firsts_ok content.Comment (room.Content number) = inl (refl, tt)
firsts_ok content.Comment room.Fragment = inl (refl, (refl, tt))
firsts_ok content.Instruction (room.StartTag number) = inl tt
firsts_ok content.Instruction (room.Content number) = inl (refl, tt)
firsts_ok content.Instruction room.Fragment = inl (refl, (refl, tt))
firsts_ok content.DocumentType (room.StartTag number) = inl tt
firsts_ok content.DocumentType (room.Content number) = inl (refl, tt)
firsts_ok content.DocumentType room.Fragment = inl (refl, (refl, tt))
firsts_ok content.Entity (room.StartTag number) = inl tt
firsts_ok content.Entity (room.Content number) = inl (refl, tt)
firsts_ok content.Entity room.Fragment = inl (refl, (refl, tt))

singles_ok : (wanted : Content) (r : Room) → NoneOf (is_this (special wanted)) (singles_of r)
singles_ok content.StartDocument (room.StartTag number) = (refl, (refl, (refl, (refl, (refl, (refl, (refl, tt)))))))
singles_ok content.StartDocument (room.Content number) = (refl, (refl, (refl, tt)))
singles_ok content.StartDocument room.Fragment = (refl, (refl, tt))
singles_ok content.EndDocument (room.StartTag number) = (refl, (refl, (refl, (refl, (refl, (refl, (refl, tt)))))))
singles_ok content.EndDocument (room.Content number) = (refl, (refl, (refl, tt)))
singles_ok content.EndDocument room.Fragment = (refl, (refl, tt))
singles_ok (content.Element told.Spelled) (room.StartTag number) = (refl, (refl, (refl, (refl, (refl, (refl, (refl, tt)))))))
singles_ok (content.Element told.Spelled) (room.Content number) = (refl, (refl, (refl, tt)))
singles_ok (content.Element told.Spelled) room.Fragment = (refl, (refl, tt))
singles_ok (content.Element (told.Under uri)) (room.StartTag number) = (refl, (refl, (refl, (refl, (refl, (refl, (refl, tt)))))))
singles_ok (content.Element (told.Under uri)) (room.Content number) = (refl, (refl, (refl, tt)))
singles_ok (content.Element (told.Under uri)) room.Fragment = (refl, (refl, tt))
singles_ok (content.Element (told.Known own)) (room.StartTag number) = (refl, (refl, (refl, (refl, (refl, (refl, (refl, tt)))))))
singles_ok (content.Element (told.Known own)) (room.Content number) = (refl, (refl, (refl, tt)))
singles_ok (content.Element (told.Known own)) room.Fragment = (refl, (refl, tt))
singles_ok (content.Attribute told.Spelled v) (room.StartTag number) = (refl, (refl, (refl, (refl, (refl, (refl, (refl, tt)))))))
singles_ok (content.Attribute told.Spelled v) (room.Content number) = (refl, (refl, (refl, tt)))
singles_ok (content.Attribute told.Spelled v) room.Fragment = (refl, (refl, tt))
singles_ok (content.Attribute (told.Under uri) v) (room.StartTag number) = (refl, (refl, (refl, (refl, (refl, (refl, (refl, tt)))))))
singles_ok (content.Attribute (told.Under uri) v) (room.Content number) = (refl, (refl, (refl, tt)))
singles_ok (content.Attribute (told.Under uri) v) room.Fragment = (refl, (refl, tt))
singles_ok (content.Attribute (told.Known own) v) (room.StartTag number) = (refl, (refl, (refl, (refl, (refl, (refl, (refl, tt)))))))
singles_ok (content.Attribute (told.Known own) v) (room.Content number) = (refl, (refl, (refl, tt)))
singles_ok (content.Attribute (told.Known own) v) room.Fragment = (refl, (refl, tt))
singles_ok content.Characters (room.StartTag number) = (refl, (refl, (refl, (refl, (refl, (refl, (refl, tt)))))))
singles_ok content.Characters (room.Content number) = (refl, (refl, (refl, tt)))
singles_ok content.Characters room.Fragment = (refl, (refl, tt))
singles_ok content.EndElement (room.StartTag number) = (refl, (refl, (refl, (refl, (refl, (refl, (refl, tt)))))))
singles_ok content.EndElement (room.Content number) = (refl, (refl, (refl, tt)))
singles_ok content.EndElement room.Fragment = (refl, (refl, tt))
singles_ok content.Declaration (room.StartTag number) = (refl, (refl, (refl, (refl, (refl, (refl, (refl, tt)))))))
singles_ok content.Declaration (room.Content number) = (refl, (refl, (refl, tt)))
singles_ok content.Declaration room.Fragment = (refl, (refl, tt))
singles_ok content.SelfContained (room.StartTag number) = (refl, (refl, (refl, (refl, (refl, (refl, (refl, tt)))))))
singles_ok content.SelfContained (room.Content number) = (refl, (refl, (refl, tt)))
singles_ok content.SelfContained room.Fragment = (refl, (refl, tt))
singles_ok content.Comment (room.StartTag number) = (refl, (refl, (refl, (refl, (refl, (refl, (refl, tt)))))))
singles_ok content.Comment (room.Content number) = (refl, (refl, (refl, tt)))
singles_ok content.Comment room.Fragment = (refl, (refl, tt))
singles_ok content.Instruction (room.StartTag number) = (refl, (refl, (refl, (refl, (refl, (refl, (refl, tt)))))))
singles_ok content.Instruction (room.Content number) = (refl, (refl, (refl, tt)))
singles_ok content.Instruction room.Fragment = (refl, (refl, tt))
singles_ok content.DocumentType (room.StartTag number) = (refl, (refl, (refl, (refl, (refl, (refl, (refl, tt)))))))
singles_ok content.DocumentType (room.Content number) = (refl, (refl, (refl, tt)))
singles_ok content.DocumentType room.Fragment = (refl, (refl, tt))
singles_ok content.Entity (room.StartTag number) = (refl, (refl, (refl, (refl, (refl, (refl, (refl, tt)))))))
singles_ok content.Entity (room.Content number) = (refl, (refl, (refl, tt)))
singles_ok content.Entity room.Fragment = (refl, (refl, tt))

members_ok : (wanted : Content) (r : Room) → NoneOf (is_this (special wanted)) (members_of r)
members_ok content.StartDocument (room.StartTag number) = (refl, (refl, tt))
members_ok content.StartDocument (room.Content number) = (refl, (refl, tt))
members_ok content.StartDocument room.Fragment = tt
members_ok content.EndDocument (room.StartTag number) = (refl, (refl, tt))
members_ok content.EndDocument (room.Content number) = (refl, (refl, tt))
members_ok content.EndDocument room.Fragment = tt
members_ok (content.Element told.Spelled) (room.StartTag number) = (refl, (refl, tt))
members_ok (content.Element told.Spelled) (room.Content number) = (refl, (refl, tt))
members_ok (content.Element told.Spelled) room.Fragment = tt
members_ok (content.Element (told.Under uri)) (room.StartTag number) = (refl, (refl, tt))
members_ok (content.Element (told.Under uri)) (room.Content number) = (refl, (refl, tt))
members_ok (content.Element (told.Under uri)) room.Fragment = tt
members_ok (content.Element (told.Known own)) (room.StartTag number) = (refl, (refl, tt))
members_ok (content.Element (told.Known own)) (room.Content number) = (refl, (refl, tt))
members_ok (content.Element (told.Known own)) room.Fragment = tt
members_ok (content.Attribute told.Spelled v) (room.StartTag number) = (refl, (refl, tt))
members_ok (content.Attribute told.Spelled v) (room.Content number) = (refl, (refl, tt))
members_ok (content.Attribute told.Spelled v) room.Fragment = tt
members_ok (content.Attribute (told.Under uri) v) (room.StartTag number) = (refl, (refl, tt))
members_ok (content.Attribute (told.Under uri) v) (room.Content number) = (refl, (refl, tt))
members_ok (content.Attribute (told.Under uri) v) room.Fragment = tt
members_ok (content.Attribute (told.Known own) v) (room.StartTag number) = (refl, (refl, tt))
members_ok (content.Attribute (told.Known own) v) (room.Content number) = (refl, (refl, tt))
members_ok (content.Attribute (told.Known own) v) room.Fragment = tt
members_ok content.Characters (room.StartTag number) = (refl, (refl, tt))
members_ok content.Characters (room.Content number) = (refl, (refl, tt))
members_ok content.Characters room.Fragment = tt
members_ok content.EndElement (room.StartTag number) = (refl, (refl, tt))
members_ok content.EndElement (room.Content number) = (refl, (refl, tt))
members_ok content.EndElement room.Fragment = tt
members_ok content.Declaration (room.StartTag number) = (refl, (refl, tt))
members_ok content.Declaration (room.Content number) = (refl, (refl, tt))
members_ok content.Declaration room.Fragment = tt
members_ok content.SelfContained (room.StartTag number) = (refl, (refl, tt))
members_ok content.SelfContained (room.Content number) = (refl, (refl, tt))
members_ok content.SelfContained room.Fragment = tt
members_ok content.Comment (room.StartTag number) = (refl, (refl, tt))
members_ok content.Comment (room.Content number) = (refl, (refl, tt))
members_ok content.Comment room.Fragment = tt
members_ok content.Instruction (room.StartTag number) = (refl, (refl, tt))
members_ok content.Instruction (room.Content number) = (refl, (refl, tt))
members_ok content.Instruction room.Fragment = tt
members_ok content.DocumentType (room.StartTag number) = (refl, (refl, tt))
members_ok content.DocumentType (room.Content number) = (refl, (refl, tt))
members_ok content.DocumentType room.Fragment = tt
members_ok content.Entity (room.StartTag number) = (refl, (refl, tt))
members_ok content.Entity (room.Content number) = (refl, (refl, tt))
members_ok content.Entity room.Fragment = tt

or_kept : (s g : Learnable → Bool) (keep : Learnable → Bool) (xs : List Learnable) → NoneOf s xs ⊎ NoneOf g xs → NoneOf s (filter keep xs) ⊎ NoneOf g (filter keep xs)
or_kept s g keep xs (inl h) = inl (none_kept s keep xs h)
or_kept s g keep xs (inr h) = inr (none_kept g keep xs h)

-- ---- the choice among the productions of a built-in state
abbrev pub codes_in : Options → Learning → Room → List (Coded Learnable)
codes_in o l r = coded (productions o l r)

codes_are : (o : Options) (l : Learning) (r : Room) →
    let f = filter (is_kept o) (firsts_of r) in
    let s = filter (is_kept o) (singles_of r) in
    let n = length (learned_in l r ++ f) in
    codes_in o l r ≡ coded_from [] 0 (learned_in l r ++ f) ++ (coded_from (n ∷ []) 0 s ++ coded_from (n ∷ length s ∷ []) 0 (filter (is_kept o) (members_of r)))
codes_are o l r =
    let f = filter (is_kept o) (firsts_of r) in
    let s = filter (is_kept o) (singles_of r) in
    let m = filter (is_kept o) (members_of r) in
    let zero_plus : 0 + length s ≡ length s = omega arith in
    ap (λ (p : Productions Learnable). coded p) (kept_shape o r (learned_in l r) (firsts_of r) (singles_of r) (members_of r) (laid r))
    ∙ ap (λ (cs : List (Coded Learnable)). coded_from [] 0 (learned_in l r ++ f) ++ cs) (seconds_codes (length (learned_in l r ++ f) ∷ []) 0 s m)
    ∙ ap (λ (i : ℕ). coded_from [] 0 (learned_in l r ++ f) ++ (coded_from (length (learned_in l r ++ f) ∷ []) 0 s ++ coded_from (length (learned_in l r ++ f) ∷ i ∷ []) 0 m)) zero_plus

abbrev test_of : Content → Learnable → Bool
test_of wanted x = is_of wanted (built_in_terminal x)

pub chosen_is : (o : Options) (l : Learning) (r : Room) (wanted : Content) → All IsLearned (learned_in l r) → fewest (test_of wanted) (codes_in o l r) ≡ or_else (first_coded (is_this (special wanted)) (codes_in o l r)) (first_coded (is_this (general wanted)) (codes_in o l r))
chosen_is o l r wanted only =
    let f = filter (is_kept o) (firsts_of r) in
    let s = filter (is_kept o) (singles_of r) in
    let m = filter (is_kept o) (members_of r) in
    let n = length (learned_in l r ++ f) in
    rw (codes_are o l r)
    (sorted_fewest (test_of wanted) (coded_from [] 0 (learned_in l r ++ f)) (coded_from (n ∷ []) 0 s) (coded_from (n ∷ length s ∷ []) 0 m) (long_from [] 0 (learned_in l r ++ f)) (long_from (n ∷ []) 0 s) (long_from (n ∷ length s ∷ []) 0 m)
    ∙ split_first (test_of wanted) (is_this (special wanted)) (is_this (general wanted)) (learned_in l r) f s m n (length s) (either wanted) (none_learned wanted (learned_in l r) only)
    (or_kept (is_this (special wanted)) (is_this (general wanted)) (is_kept o) (firsts_of r) (firsts_ok wanted r))
    (none_kept (is_this (special wanted)) (is_kept o) (singles_of r) (singles_ok wanted r)) (none_kept (is_this (special wanted)) (is_kept o) (members_of r) (members_ok wanted r)))

-- ---- as rules
abbrev pub as_rule : Learning → Room → Learnable → Rule
as_rule l r x = built_in_rule (built_in_of l r x)

abbrev pub as_coded : {X Y : Type 0} → (X → Y) → Coded X → Coded Y
as_coded f c = record { parts = c.parts; item = f c.item }

from_mapped : {X Y : Type 0} (f : X → Y) (front : List ℕ) (k : ℕ) (xs : List X) → coded_from front k (map f xs) ≡ map (as_coded f) (coded_from front k xs)
from_mapped f front k [] = refl
from_mapped {X} {Y} f front k (x ∷ xs) = ap (λ (cs : List (Coded Y)). record { parts = front ++ k ∷ []; item = f x } ∷ cs) (from_mapped f front (suc k) xs)

second_mapped : {X Y : Type 0} (f : X → Y) (front : List ℕ) (k : ℕ) (x : Second X) → coded_second front k (mapped_second f x) ≡ map (as_coded f) (coded_second front k x)
second_mapped f front k (single x) = refl
second_mapped f front k (group xs) = from_mapped f (front ++ k ∷ []) 0 xs

seconds_mapped : {X Y : Type 0} (f : X → Y) (front : List ℕ) (k : ℕ) (xs : List (Second X)) → coded_seconds front k (map (mapped_second f) xs) ≡ map (as_coded f) (coded_seconds front k xs)
seconds_mapped f front k [] = refl
seconds_mapped {X} {Y} f front k (x ∷ xs) =
    ap (λ (cs : List (Coded Y)). cs ++ coded_seconds front (suc k) (map (mapped_second f) xs)) (second_mapped f front k x)
    ∙ ap (λ (cs : List (Coded Y)). map (as_coded f) (coded_second front k x) ++ cs) (seconds_mapped f front (suc k) xs)
    ∙ sym (map-append (as_coded f) (coded_second front k x) (coded_seconds front (suc k) xs))

length_mapped : {X Y : Type 0} (f : X → Y) (xs : List X) → length (map f xs) ≡ length xs
length_mapped f [] = refl
length_mapped f (x ∷ xs) = ap suc (length_mapped f xs)

pub coded_mapped : {X Y : Type 0} (f : X → Y) (p : Productions X) → coded (mapped f p) ≡ map (as_coded f) (coded p)
coded_mapped {X} {Y} f p =
    ap (λ (cs : List (Coded Y)). cs ++ coded_seconds (length (map f p.firsts) ∷ []) 0 (map (mapped_second f) p.seconds)) (from_mapped f [] 0 p.firsts)
    ∙ ap (λ (cs : List (Coded Y)). map (as_coded f) (coded_from [] 0 p.firsts) ++ cs) (seconds_mapped f (length (map f p.firsts) ∷ []) 0 p.seconds)
    ∙ ap (λ (n : ℕ). map (as_coded f) (coded_from [] 0 p.firsts) ++ map (as_coded f) (coded_seconds (n ∷ []) 0 p.seconds)) (length_mapped f p.firsts)
    ∙ sym (map-append (as_coded f) (coded_from [] 0 p.firsts) (coded_seconds (length p.firsts ∷ []) 0 p.seconds))

of_mapped : {X Y : Type 0} (f : X → Y) (n : ℕ) (test : Y → Bool) (cs : List (Coded X)) → first_of n test (map (as_coded f) cs) ≡ option_map (as_coded f) (first_of n (λ x. test (f x)) cs)
of_mapped f n test [] = refl
of_mapped f n test (c ∷ cs) = elim (cases_Bool (eqb (length c.parts) n && test (f c.item))) [
  | inl h ↦ rw h refl
  | inr h ↦ rw h (of_mapped f n test cs)
]

else_mapped : {X Y : Type 0} (f : X → Y) (a b : Option (Coded X)) → or_else (option_map (as_coded f) a) (option_map (as_coded f) b) ≡ option_map (as_coded f) (or_else a b)
else_mapped f None b = refl
else_mapped f (Some x) b = refl

pub fewest_mapped : {X Y : Type 0} (f : X → Y) (test : Y → Bool) (cs : List (Coded X)) → fewest test (map (as_coded f) cs) ≡ option_map (as_coded f) (fewest (λ x. test (f x)) cs)
fewest_mapped f test cs =
    rw (of_mapped f 1 test cs, of_mapped f 2 test cs, of_mapped f 3 test cs)
    (rw (else_mapped f (first_of 2 (λ x. test (f x)) cs) (first_of 3 (λ x. test (f x)) cs)) (else_mapped f (first_of 1 (λ x. test (f x)) cs) (or_else (first_of 2 (λ x. test (f x)) cs) (first_of 3 (λ x. test (f x)) cs))))

mapped_twice : {X Y Z : Type 0} (f : X → Y) (h : Y → Z) (p : Productions X) → coded (mapped h (mapped f p)) ≡ map (as_coded (λ x. h (f x))) (coded p)
mapped_twice {X} {Y} {Z} f h p = coded_mapped h (mapped f p) ∙ ap (map (as_coded h)) (coded_mapped f p) ∙ by (coded p)
  where
    by : (cs : List (Coded X)) → map (as_coded h) (map (as_coded f) cs) ≡ map (as_coded (λ x. h (f x))) cs
    by [] = refl
    by (c ∷ cs) = ap (λ (ds : List (Coded Z)). record { parts = c.parts; item = h (f c.item) } ∷ ds) (by cs)

pub built_in_codes : (g : Setting) (l : Learning) (r : Room) → coded (built_in g l r) ≡ map (as_coded (as_rule l r)) (codes_in g.options l r)
built_in_codes g l r = ap (λ (p : Productions BuiltInRule). coded (mapped built_in_rule p)) (rules_are g.options l r) ∙ mapped_twice (built_in_of l r) built_in_rule (productions g.options l r)

pub wanted_is : (g : Setting) (l : Learning) (r : Room) (wanted : Content) → All IsLearned (learned_in l r) →
    first_for wanted (built_in g l r) ≡ option_map (as_coded (as_rule l r)) (or_else (first_coded (is_this (special wanted)) (codes_in g.options l r)) (first_coded (is_this (general wanted)) (codes_in g.options l r)))
wanted_is g l r wanted only =
    ap (fewest (is_of_rule wanted)) (built_in_codes g l r)
    ∙ fewest_mapped (as_rule l r) (is_of_rule wanted) (codes_in g.options l r)
    ∙ ap (option_map (as_coded (as_rule l r))) (chosen_is g.options l r wanted only)

-- ---- what a look-up gives
pub record IsAt (p : Productions Learnable) (x : Learnable) (parts : List ℕ) : Type 0 where
  pub found : first_coded (is_it x) (coded p) ≡ Some (record { parts = parts; item = x })
  pub code : IsCodeOf p parts

record Somewhere (x : Learnable) (cs : List (Coded Learnable)) (c : Coded Learnable) : Type 0 where
  place : ℕ
  there : slice_get cs place ≡ Some c
  passes : is_it x c.item ≡ true

somewhere : (x : Learnable) (cs : List (Coded Learnable)) (c : Coded Learnable) → first_coded (is_it x) cs ≡ Some c → Somewhere x cs c
somewhere x [] c e = absurd cc
somewhere x (d ∷ cs) c e = elim (cases_Bool (is_it x d.item)) [
  | inl h ↦ let same : d ≡ c = coded_same d c (rw h at e) in record { place = 0; there = ap (λ (z : Coded Learnable). Some z) same; passes = subst (λ (z : Coded Learnable). is_it x z.item ≡ true) same h }
  | inr h ↦ let s = somewhere x cs c (rw h at e) in record { place = suc s.place; there = s.there; passes = s.passes }
]
  where
    coded_same : (a b : Coded Learnable) → Some a ≡ Some b → a ≡ b
    coded_same a b e = cc

parts_are : (o : Option (Coded Learnable)) (parts : List ℕ) → option_map (λ c. c.parts) o ≡ Some parts → (c : Coded Learnable) × (o ≡ Some c) × (c.parts ≡ parts)
parts_are None parts e = absurd cc
parts_are (Some c) parts e = (c, refl, list_is c.parts parts e)
  where
    list_is : (a b : List ℕ) → Some a ≡ Some b → a ≡ b
    list_is a b e = cc

coded_eta : (c : Coded Learnable) (x : Learnable) (parts : List ℕ) → c.item ≡ x → c.parts ≡ parts → c ≡ record { parts = parts; item = x }
coded_eta c x parts i e = rw (← i, ← e) refl

pub found_code : (p : Productions Learnable) (x : Learnable) (code : Option Code) (kept : Code) → option_map parts_of code ≡ first_code (is_it x) (coded p) → code ≡ Some kept → IsAt p x (parts_of kept)
found_code p x code kept e is =
    let k : option_map (λ c. c.parts) (first_coded (is_it x) (coded p)) ≡ Some (parts_of kept) = sym (code_is (is_it x) (coded p)) ∙ sym e ∙ ap (option_map parts_of) is in
    let c = parts_are (first_coded (is_it x) (coded p)) (parts_of kept) k in
    let s = somewhere x (coded p) c.0 c.1 in
    let same = coded_eta c.0 x (parts_of kept) (it_is x c.0.item s.passes) c.2 in
    record { found = c.1 ∙ ap (λ (z : Coded Learnable). Some z) same; code = record { place = s.place; item = x; there = s.there ∙ ap (λ (z : Coded Learnable). Some z) same } }

none_parts : (o : Option (Coded Learnable)) → option_map (λ c. c.parts) o ≡ None → o ≡ None
none_parts None e = refl
none_parts (Some c) e = absurd cc

pub no_code : (p : Productions Learnable) (x : Learnable) (code : Option Code) → option_map parts_of code ≡ first_code (is_it x) (coded p) → code ≡ None → first_coded (is_it x) (coded p) ≡ None
no_code p x code e is = none_parts (first_coded (is_it x) (coded p)) (sym (code_is (is_it x) (coded p)) ∙ sym e ∙ ap (option_map parts_of) is)

nothing_coded : {X : Type 0} (cs : List (Coded X)) → first_coded (λ x. false) cs ≡ None
nothing_coded [] = refl
nothing_coded (c ∷ cs) = nothing_coded cs

pub no_special : (p : Productions Learnable) (o : Option Learnable) → o ≡ None → first_coded (is_this o) (coded p) ≡ None
no_special p None e = nothing_coded (coded p)
no_special p (Some x) e = absurd cc

pub chosen_special : (g : Setting) (l : Learning) (r : Room) (wanted : Content) (x : Learnable) (code : Option Code) (kept : Code) (choice : Choice) → All IsLearned (learned_in l r) → IsRoom l r → special wanted ≡ Some x → option_map parts_of code ≡ first_code (is_it x) (codes_in g.options l r) → code ≡ Some kept
    → rule_in choice.rule ≡ record { on = built_in_terminal x; to = state_behind r x; inner = None } → choice.way ≡ way.BuiltIn r kept → Chooses g l wanted (built_in g l r) (Some choice)
chosen_special g l r wanted x code kept choice only there s e is rule w =
    let k = found_code (productions g.options l r) x code kept e is in
    let c : Coded Learnable = record { parts = parts_of kept; item = x } in
    record {
      coded = as_coded (as_rule l r) c;
      first = wanted_is g l r wanted only ∙ rw (s, k.found) refl;
      rule = rule;
      parts = rw w refl;
      way = rw w (there, k.code, refl);
    }

pub chosen_general : (g : Setting) (l : Learning) (r : Room) (wanted : Content) (x : Learnable) (code : Option Code) (kept : Code) (choice : Choice) → All IsLearned (learned_in l r) → IsRoom l r → first_coded (is_this (special wanted)) (codes_in g.options l r) ≡ None → general wanted ≡ Some x → option_map parts_of code ≡ first_code (is_it x) (codes_in g.options l r) → code ≡ Some kept
    → rule_in choice.rule ≡ record { on = built_in_terminal x; to = state_behind r x; inner = None } → choice.way ≡ way.BuiltIn r kept → Chooses g l wanted (built_in g l r) (Some choice)
chosen_general g l r wanted x code kept choice only there none s e is rule w =
    let k = found_code (productions g.options l r) x code kept e is in
    let c : Coded Learnable = record { parts = parts_of kept; item = x } in
    record {
      coded = as_coded (as_rule l r) c;
      first = wanted_is g l r wanted only ∙ rw (none, s, k.found) refl;
      rule = rule;
      parts = rw w refl;
      way = rw w (there, k.code, refl);
    }

pub chosen_none : (g : Setting) (l : Learning) (r : Room) (wanted : Content) → All IsLearned (learned_in l r) → first_coded (is_this (special wanted)) (codes_in g.options l r) ≡ None → first_coded (is_this (general wanted)) (codes_in g.options l r) ≡ None → Chooses g l wanted (built_in g l r) None
chosen_none g l r wanted only a b = wanted_is g l r wanted only ∙ rw (a, b) refl

pub no_this : (p : Productions Learnable) (o : Option Learnable) (x : Learnable) (code : Option Code) → o ≡ Some x → option_map parts_of code ≡ first_code (is_it x) (coded p) → code ≡ None → first_coded (is_this o) (coded p) ≡ None
no_this p o x code s e is = ap (λ (z : Option Learnable). first_coded (is_this z) (coded p)) s ∙ no_code p x code e is

-- ---- a state that does not have the production for an event alone
pub lacks_any : (o : Options) (l : Learning) (r : Room) (wanted : Content) → special wanted ≡ None → LacksSpecial o l r wanted
lacks_any o l r wanted none x s = absurd (none-some x (sym none ∙ s))

pub lacks_this : (o : Options) (l : Learning) (r : Room) (wanted : Content) (x : Learnable) (code : Option Code) → special wanted ≡ Some x → option_map parts_of code ≡ first_code (is_it x) (coded (productions o l r)) → code ≡ None → LacksSpecial o l r wanted
lacks_this o l r wanted x code s e is y t =
    let same : x ≡ y = same_Some x y (sym s ∙ t) in
    ap (λ (z : Learnable). first_code (is_it z) (coded (productions o l r))) (sym same) ∙ sym e ∙ ap (option_map parts_of) is

pub lacking : (p : Productions Learnable) (o : Option Learnable) → ((x : Learnable) → o ≡ Some x → first_code (is_it x) (coded p) ≡ None) → first_coded (is_this o) (coded p) ≡ None
lacking p None h = nothing_coded (coded p)
lacking p (Some x) h = no_this p (Some x) x None refl (sym (h x refl)) refl
