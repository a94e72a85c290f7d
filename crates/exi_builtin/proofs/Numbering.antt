-- Productions are numbered one after another.
use Rattle.std.proofs.Common.{◌≡◌, ℕ, suc, ◌<◌, ◌≤◌, ◌+◌, Bool, true, false, List, [], ◌∷◌, ◌++◌, map, filter, length, slice_get, take, get_or, refl, ap, sym, ◌∙◌, append_assoc, arith, inl, inr, Some}
use Rattle.std.proofs.lemmas.Bool.{cases_Bool}
use Rattle.std.proofs.lemmas.List.{append-nil, map-append, take_more, length-take, length-append}
use Rattle.std.proofs.lemmas.List.Elements.{filter_more}
use Rattle.std.proofs.lemmas.Option.{get_or_from_slice_get, slice_get_within}
use Rattle.exi_gram.specs.Codes.{Coded, coded, coded_from, coded_seconds}
use Rattle.exi_gram.specs.declared.code.Code.{Code}
use Rattle.exi_builtin.specs.declared.learnable.Learnable.{Learnable}
use Rattle.exi_builtin.specs.CodeParts.{coded_of}
use Rattle.exi_gram.specs.Tables.{parts_of}
use Rattle.exi_builtin.specs.Layout.{grouped, laid_seconds}
use Rattle.exi_builtin.proofs.Shapes.{shape}

pub coded_from-append : {X : Type 0} (front : List ℕ) (part : ℕ) (xs ys : List X) → coded_from front part (xs ++ ys) ≡ coded_from front part xs ++ coded_from front (part + length xs) ys
coded_from-append front part [] ys = let same : part + 0 ≡ part = omega arith in rw same refl
coded_from-append {X} front part (x ∷ xs) ys =
    let same : suc part + length xs ≡ part + length (x ∷ xs) = omega arith in
    let one : Coded X = record { parts = front ++ part ∷ []; item = x } in
    ap (λ cs. one ∷ cs) (rw same at (coded_from-append front (suc part) xs ys))

-- one more, with its code
abbrev Numbered : List ℕ → ℕ → List Learnable → List (Code × Learnable) → List (Code × Learnable) → Type 0
Numbered front from items old now = map coded_of now ≡ map coded_of old ++ coded_from front from items

pub one_more : (front : List ℕ) (from part : ℕ) (items : List Learnable) (item : Learnable) (code : Code) (old now new : List (Code × Learnable)) →
    parts_of code ≡ front ++ part ∷ [] → part ≡ from + length items → Numbered front from items old now → new ≡ now ++ (code, item) ∷ [] →
    Numbered front from (items ++ item ∷ []) old new
one_more front from part items item code old now new parts at so_far pushed =
    let one : Coded Learnable = record { parts = front ++ part ∷ []; item = item } in
    let last : coded_of (code, item) ∷ [] ≡ one ∷ [] = ap (λ ps. record { parts = ps; item = item } ∷ []) parts in
    let more : map coded_of new ≡ map coded_of now ++ one ∷ [] = ap (map coded_of) pushed ∙ map-append coded_of now ((code, item) ∷ []) ∙ ap (λ cs. map coded_of now ++ cs) last in
    let front_part : coded_from front part (item ∷ []) ≡ one ∷ [] = refl in
    let end : coded_from front from (items ++ item ∷ []) ≡ coded_from front from items ++ one ∷ [] = rw (← at) at (coded_from-append front from items (item ∷ [])) in
    more ∙ ap (λ cs. cs ++ one ∷ []) so_far ∙ append_assoc (map coded_of old) (coded_from front from items) (one ∷ []) ∙ ap (λ cs. map coded_of old ++ cs) (sym end)

-- the options leave no more than there are
pub filter_few : {X : Type 0} (keep : X → Bool) (xs : List X) → length (filter keep xs) ≤ length xs
filter_few keep [] = omega arith
filter_few keep (x ∷ xs) = elim (cases_Bool (keep x)) [
  | inl yes_is ↦ rw yes_is (omega (arith, filter_few keep xs))
  | inr no_is ↦ rw no_is (omega (arith, filter_few keep xs))
]

-- one more that the options leave, and one that they switch off
pub kept_here : (front : List ℕ) (from part index : ℕ) (keep : Learnable → Bool) (items : List Learnable) (d : Learnable) (code : Code) (old now new : List (Code × Learnable)) →
    index < length items → keep (get_or items index d) ≡ true → parts_of code ≡ front ++ part ∷ [] →
    part ≡ from + length (filter keep (take index items)) → Numbered front from (filter keep (take index items)) old now → new ≡ now ++ (code, get_or items index d) ∷ [] →
    (part + 1 ≡ from + length (filter keep (take (index + 1) items))) × Numbered front from (filter keep (take (index + 1) items)) old new
kept_here front from part index keep items d code old now new within kept parts at so_far pushed =
    let before = filter keep (take index items) in
    let more : filter keep (take (index + 1) items) ≡ before ++ get_or items index d ∷ [] = rw kept at (filter_more keep items index d within) in
    let count : part + 1 ≡ from + length (before ++ get_or items index d ∷ []) = omega (arith, length-append before (get_or items index d ∷ []), at) in
    rw more (count, one_more front from part before (get_or items index d) code old now new parts at so_far pushed)

pub kept_past : (front : List ℕ) (from part index : ℕ) (keep : Learnable → Bool) (items : List Learnable) (d : Learnable) (old now : List (Code × Learnable)) →
    index < length items → keep (get_or items index d) ≡ false →
    part ≡ from + length (filter keep (take index items)) → Numbered front from (filter keep (take index items)) old now →
    (part ≡ from + length (filter keep (take (index + 1) items))) × Numbered front from (filter keep (take (index + 1) items)) old now
kept_past front from part index keep items d old now within past at so_far =
    let same : filter keep (take (index + 1) items) ≡ filter keep (take index items) = rw past at (filter_more keep items index d within) ∙ append-nil (filter keep (take index items)) in
    rw same (at, so_far)

-- one more that was learned
pub learned_here : (learned : List Learnable) (part : ℕ) (production : Learnable) (code : Code) (old now new : List (Code × Learnable)) →
    slice_get learned part ≡ Some production → parts_of code ≡ part ∷ [] → Numbered [] 0 (take part learned) old now → new ≡ now ++ (code, production) ∷ [] →
    Numbered [] 0 (take (part + 1) learned) old new
learned_here learned part production code old now new found parts so_far pushed =
    let within : part < length learned = slice_get_within learned part production found in
    let here : get_or learned part production ≡ production = get_or_from_slice_get learned part production production found in
    let more : take (part + 1) learned ≡ take part learned ++ production ∷ [] = rw here at (take_more learned part production within) in
    let at : part ≡ 0 + length (take part learned) = omega (arith, length-take part learned, within) in
    rw more (one_more [] 0 part (take part learned) production code old now new parts at so_far pushed)

-- the codes behind those of one part
coded_grouped : {X : Type 0} (front : List ℕ) (part : ℕ) (members : List X) → coded_seconds front part (grouped members) ≡ coded_from (front ++ part ∷ []) 0 members
coded_grouped front part [] = refl
coded_grouped front part (x ∷ xs) = append-nil (coded_from (front ++ part ∷ []) 0 (x ∷ xs))

coded_laid : {X : Type 0} (front : List ℕ) (part : ℕ) (singles members : List X) →
    coded_seconds front part (laid_seconds singles members) ≡ coded_from front part singles ++ coded_from (front ++ (part + length singles) ∷ []) 0 members
coded_laid front part [] members = let same : part + 0 ≡ part = omega arith in rw same (coded_grouped front part members)
coded_laid {X} front part (x ∷ xs) members =
    let same : suc part + length xs ≡ part + length (x ∷ xs) = omega arith in
    let one : Coded X = record { parts = front ++ part ∷ []; item = x } in
    ap (λ cs. one ∷ cs) (rw same at (coded_laid front (suc part) xs members))

-- all codes of a state
pub all_codes : (learned firsts singles members : List Learnable) (one two three four : List (Coded Learnable)) (count first second : ℕ) →
    one ≡ coded_from [] 0 learned → count ≡ length learned → two ≡ one ++ coded_from [] count firsts → first ≡ count + length firsts →
    three ≡ two ++ coded_from (first ∷ []) 0 singles → second ≡ 0 + length singles → four ≡ three ++ coded_from (first ∷ second ∷ []) 0 members →
    four ≡ coded (shape (learned ++ firsts) (laid_seconds singles members))
all_codes learned firsts singles members one two three four count first second one_is count_is two_is first_is three_is second_is four_is =
    let start : 0 + length learned ≡ count = omega (arith, count_is) in
    let front : coded_from [] 0 (learned ++ firsts) ≡ two
    = coded_from-append [] 0 learned firsts ∙ rw (start, ← one_is) (sym two_is) in
    let length_is : length (learned ++ firsts) ≡ first = omega (arith, length-append learned firsts, count_is, first_is) in
    let behind : coded_seconds (first ∷ []) 0 (laid_seconds singles members) ≡ coded_from (first ∷ []) 0 singles ++ coded_from (first ∷ second ∷ []) 0 members
    = rw (← second_is) at (coded_laid (first ∷ []) 0 singles members) in
    four_is ∙ ap (λ cs. cs ++ coded_from (first ∷ second ∷ []) 0 members) three_is
    ∙ append_assoc two (coded_from (first ∷ []) 0 singles) (coded_from (first ∷ second ∷ []) 0 members)
    ∙ rw (length_is, front, behind) refl
