-- A walk along the members so far.
use Rattle.std.proofs.Common.{◌≡◌, ℕ, suc, ◌+◌, ◌<◌, ◌≤◌, inl, inr, List, [], ◌∷◌, ◌++◌, All, drop, length, get_or, take, sym, ap, ◌∙◌, subst, arith, append_assoc}
use Rattle.std.specs.List.{Contains, flat_map}
use Rattle.std.proofs.lemmas.Bool.{cases_eq}
use Rattle.std.proofs.lemmas.List.{append-nil, drop-append-le, get_or_append_left, length-append, take-append-le, take_all, take_more}
use Rattle.std.proofs.lemmas.List.Concat.{flat_map-append}
use Rattle.std.proofs.lemmas.List.Elements.{All-append, All-contains_itself, All-get_or, All-same, All-weaker, Contains-append_left, Contains-append_right}
use Rattle.exi_elements.specs.Members.{IsWalk, members_in}

pub record IsWalkTo (lists : List (List ℕ)) (starts : List ℕ) (index : ℕ) (walk : List ℕ) : Type 0 where
  pub within : index ≤ length walk
  pub whole : walk ≡ starts ++ flat_map (members_in lists) (take index walk)
  pub behind : (i : ℕ) → i < index → All (Contains (drop (suc i) walk)) (members_in lists (get_or walk i 0))
  pub below : All (λ place. place < length lists) walk

pub walk_begun : (lists : List (List ℕ)) (starts : List ℕ) → All (λ place. place < length lists) starts → IsWalkTo lists starts 0 starts
walk_begun lists starts below = record {
  within = omega arith;
  whole = sym (append-nil starts);
  behind = λ i less. absurd (omega (arith, less));
  below = below;
}

-- members that are put at the end are behind
behind_more : (lists : List (List ℕ)) (walk more : List ℕ) (i : ℕ) → i < length walk → All (Contains (drop (suc i) walk)) (members_in lists (get_or walk i 0)) → All (Contains (drop (suc i) (walk ++ more))) (members_in lists (get_or (walk ++ more) i 0))
behind_more lists walk more i less all =
    let still : get_or (walk ++ more) i 0 ≡ get_or walk i 0 = get_or_append_left walk more 0 i less in
    All-same (Contains (drop (suc i) (walk ++ more))) (members_in lists (get_or (walk ++ more) i 0)) (members_in lists (get_or walk i 0)) (ap (members_in lists) still)
    (All-weaker (Contains (drop (suc i) walk)) (Contains (drop (suc i) (walk ++ more)))
    (λ m c. subst (λ l. Contains l m) (sym (drop-append-le (suc i) walk more (omega (arith, less)))) (Contains-append_left (drop (suc i) walk) more m c))
    (members_in lists (get_or walk i 0)) all)

behind_here : (lists : List (List ℕ)) (walk : List ℕ) (i : ℕ) → i < length walk → All (Contains (drop (suc i) (walk ++ members_in lists (get_or walk i 0)))) (members_in lists (get_or (walk ++ members_in lists (get_or walk i 0)) i 0))
behind_here lists walk i less =
    let more = members_in lists (get_or walk i 0) in
    let still : get_or (walk ++ more) i 0 ≡ get_or walk i 0 = get_or_append_left walk more 0 i less in
    All-same (Contains (drop (suc i) (walk ++ more))) (members_in lists (get_or (walk ++ more) i 0)) more (ap (members_in lists) still)
    (All-weaker (Contains more) (Contains (drop (suc i) (walk ++ more)))
    (λ m c. subst (λ l. Contains l m) (sym (drop-append-le (suc i) walk more (omega (arith, less)))) (Contains-append_right (drop (suc i) walk) more m c))
    more (All-contains_itself more))

walk_on : (lists : List (List ℕ)) (starts walk mine : List ℕ) (index : ℕ) → mine ≡ members_in lists (get_or walk index 0) → All (All (λ m. m < length lists)) lists → IsWalkTo lists starts index walk → index < length walk → IsWalkTo lists starts (index + 1) (walk ++ mine)
walk_on lists starts walk mine index mine_is inside is less = record {
  within = omega (arith, length-append walk mine, less);
  whole =
      ap (λ l. l ++ mine) is.whole
      ∙ append_assoc starts (flat_map (members_in lists) (take index walk)) mine
      ∙ ap (λ l. starts ++ l) (
      ap (λ l. flat_map (members_in lists) (take index walk) ++ l) (mine_is ∙ sym (append-nil (members_in lists (get_or walk index 0))))
      ∙ sym (flat_map-append (members_in lists) (take index walk) (get_or walk index 0 ∷ []))
      ∙ ap (flat_map (members_in lists)) (sym (take_more walk index 0 less) ∙ sym (take-append-le (index + 1) walk mine (omega (arith, less)))));
  behind = λ i few. elim (cases_eq i index) [
    | inl e ↦ subst (λ k. All (Contains (drop (suc k) (walk ++ mine))) (members_in lists (get_or (walk ++ mine) k 0))) (sym e)
        (subst (λ l. All (Contains (drop (suc index) (walk ++ l))) (members_in lists (get_or (walk ++ l) index 0))) (sym mine_is) (behind_here lists walk index less))
    | inr n ↦ behind_more lists walk mine i (omega (arith, few, less, n)) (is.behind i (omega (arith, few, n)))
  ];
  below = All-append (λ m. m < length lists) walk mine is.below
      (All-same (λ m. m < length lists) mine (members_in lists (get_or walk index 0)) mine_is
      (All-get_or (All (λ m. m < length lists)) lists (get_or walk index 0) [] (is.below index 0 less) inside));
}

pub walk_more : (lists : List (List ℕ)) (starts walk new more : List ℕ) (index place : ℕ) → All (All (λ m. m < length lists)) lists → IsWalkTo lists starts index walk → index < length walk → place ≡ get_or walk index 0 → more ≡ members_in lists place → new ≡ walk ++ more → IsWalkTo lists starts (index + 1) new
walk_more lists starts walk new more index place inside is less at more_is new_is =
    subst (IsWalkTo lists starts (index + 1)) (sym new_is) (walk_on lists starts walk more index (more_is ∙ ap (members_in lists) at) inside is less)

pub walk_done : (lists : List (List ℕ)) (starts walk : List ℕ) (index : ℕ) → IsWalkTo lists starts index walk → length walk ≤ index → IsWalk lists starts walk
walk_done lists starts walk index is done = record {
  whole = is.whole ∙ ap (λ l. starts ++ flat_map (members_in lists) l) (take_all index walk done);
  behind = λ i less. is.behind i (omega (arith, less, is.within, done));
  below = is.below;
}
