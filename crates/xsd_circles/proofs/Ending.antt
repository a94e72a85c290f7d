-- Paths without a circle end: no path comes to more elements than there are.
use Rattle.std.proofs.Common.{◌≡◌, ℕ, zero, suc, ◌+◌, ◌<◌, ◌≤◌, Bool, true, false, Option, Some, None, inl, inr, List, [], ◌∷◌, get_or, length, replicate, set, refl, sym, ap, ◌∙◌, arith}
use Rattle.std.specs.Prelude.{◌==◌}
use Rattle.std.specs.List.{list_all, list_any}
use Rattle.std.proofs.lemmas.Bool.{and_from, and_parts, cases_Bool, cases_eq, cases_lt, eq-eqb, false≢true}
use Rattle.std.proofs.lemmas.List.{get_or_default, get_or-set_other, length-replicate, length-set}
use Rattle.xsd_tree.specs.declared.node.Node.{Node}
use Rattle.xsd_paths.specs.Paths.{is_whole, is_whole_within, leads_to}
use Rattle.xsd_steps.specs.Steps.{steps}
use Rattle.xsd_circles.specs.Circles.{reaches, reaches_itself}
use Rattle.xsd_circles.specs.Laws.{PathsEnd, stays_among}
use Rattle.xsd_circles.proofs.Reaching.{one_step, or_last, or_one, reaches_on, reaches_up, steps_past}
use Rattle.xsd_circles.proofs.Searching.{count_met, count_more, count_none, count_within, none_false}

-- each step of a list, told which one it is
each_leads : (p q : ℕ → Bool) (ss : List (Option ℕ)) → ((k : ℕ) → list_any (leads_to (λ m. m == k)) ss ≡ true → p k ≡ true → q k ≡ true) → list_all (leads_to p) ss ≡ true → list_all (leads_to q) ss ≡ true
each_leads p q [] h e = refl
each_leads p q (None ∷ ss) h e = absurd (false≢true e)
each_leads p q (Some i ∷ ss) h e =
    let both = and_parts (p i) (list_all (leads_to p) ss) e in
    and_from (q i) (list_all (leads_to q) ss) (h i (or_one (i == i) (list_any (leads_to (λ m. m == i)) ss) (eq-eqb i i refl)) both.0)
    (each_leads p q ss (λ k step there. h k (or_last (i == k) (list_any (leads_to (λ m. m == k)) ss) step) there) both.1)

-- the elements that a path has come through
pub record IsPath (ns : List Node) (i : ℕ) (met : List Bool) : Type 0 where
  pub count : length met ≡ length ns
  pub leads : (j : ℕ) → get_or met j false ≡ true → reaches (count_met met) ns i j ≡ true

not_met : (ns : List Node) (i : ℕ) (met : List Bool) → IsPath ns i met → i < length ns → reaches (length ns) ns i i ≡ false → get_or met i true ≡ false
not_met ns i met path less never =
    let count : length met ≡ length ns = path.count in
    let few : count_met met ≤ length met = count_within met in
    let here : i < length met = omega (arith, less, count) in elim (cases_Bool (get_or met i false)) [
      | inl is_it ↦ absurd (false≢true (sym never ∙ reaches_up (length ns) (count_met met) ns i i (omega (arith, few, count)) (path.leads i is_it)))
      | inr not_it ↦ get_or_default met i true false here ∙ not_it
    ]

path_on : (ns : List Node) (i k : ℕ) (met : List Bool) → IsPath ns i met → get_or met i true ≡ false → list_any (leads_to (λ m. m == k)) (steps ns i) ≡ true → IsPath ns k (set met i true)
path_on ns i k met path not_it step = record {
  count = length-set met i true ∙ path.count;
  leads = λ j m.
      let more : count_met (set met i true) ≡ count_met met + 1 = count_more met i not_it in
      let next : count_met (set met i true) ≡ suc (count_met met) = omega (arith, more) in
      ap (λ n. reaches n ns k j) next ∙ elim (cases_eq j i) [
        | inl same ↦ ap (reaches (suc (count_met met)) ns k) same ∙ one_step (count_met met) ns i k step
        | inr n ↦ reaches_on (count_met met) ns i k j (path.leads j (sym (get_or-set_other met i j true false n) ∙ m)) step
      ];
}

whole_from : (f : ℕ) (ns : List Node) (among : ℕ → Bool) (i : ℕ) (met : List Bool) → ((j : ℕ) → among j ≡ true → reaches (length ns) ns j j ≡ false) → ((j : ℕ) → among j ≡ true → stays_among ns among j ≡ true) → among i ≡ true → IsPath ns i met → suc (length ns) ≤ f + count_met met → is_whole_within f ns i ≡ true
whole_from zero ns among i met never stays here path fuel =
    let count : length met ≡ length ns = path.count in
    let few : count_met met ≤ length met = count_within met in
    absurd (omega (arith, fuel, few, count))
whole_from (suc f) ns among i met never stays here path fuel = elim (cases_lt i (length ns)) [
  | inl less ↦
      let not_it : get_or met i true ≡ false = not_met ns i met path less (never i here) in
      let more : count_met (set met i true) ≡ count_met met + 1 = count_more met i not_it in
      each_leads among (is_whole_within f ns) (steps ns i) (λ k step there. whole_from f ns among k (set met i true) never stays there (path_on ns i k met path not_it step) (omega (arith, more, fuel))) (stays i here)
  | inr le ↦ ap (list_all (leads_to (is_whole_within f ns))) (steps_past ns i le)
]

path_begins : (ns : List Node) (i : ℕ) → IsPath ns i (replicate (length ns) false)
path_begins ns i = record {
  count = length-replicate (length ns) false;
  leads = λ j m. absurd (false≢true (sym (none_false (length ns) j) ∙ m));
}

pub paths_end : PathsEnd
unfolding is_whole reaches_itself
paths_end ns among never stays i here = whole_from (suc (length ns)) ns among i (replicate (length ns) false) never stays here (path_begins ns i) (let none : count_met (replicate (length ns) false) ≡ 0 = count_none (length ns) in omega (arith, none))
