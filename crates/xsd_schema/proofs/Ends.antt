-- Paths from one part of a schema to another end where the paths from its element do.
use Rattle.std.proofs.Common.{◌≡◌, ℕ, zero, suc, ◌+◌, ◌-◌, ◌<◌, ◌≤◌, Bool, true, false, cond, Option, Some, List, [], ◌∷◌, filter, length, map, refl, sym, ap, ◌∙◌, arith}
use Rattle.std.specs.List.{flat_map, list_all, slice_get}
use Rattle.std.proofs.lemmas.Bool.{and_from, and_parts, false≢true}
use Rattle.std.proofs.lemmas.List.Folds.{list_all-append}
use Rattle.xsd_model.specs.Parts.{all_end}
use Rattle.xsd_tree.specs.Trees.{IsTree}
use Rattle.xsd_tree.specs.declared.node.Node.{Node}
use Rattle.xsd_nodes.specs.Nodes.{places, places_from}
use Rattle.xsd_declared.specs.Lists.{places_of}
use Rattle.xsd_paths.specs.Paths.{is_whole_within}
use Rattle.xsd_paths.proofs.Within.{is_within}
use Rattle.xsd_places.specs.Kinds.{is_kind, place_of}
use Rattle.xsd_places.specs.declared.kind.Kind.{Kind}
use Rattle.xsd_schema.proofs.Counted.{listing_at, listing_from}
use Rattle.xsd_schema.proofs.Named.{kind_parts}
use Rattle.xsd_schema.proofs.Steps.{AreSure}
use Rattle.xsd_schema.proofs.Whole.{each_whole}

-- ---- lists
pub all_if : {X : Type 0} (p q : X → Bool) (xs : List X) → ((x : X) → p x ≡ true → q x ≡ true) → list_all p xs ≡ true → list_all q xs ≡ true
all_if p q [] h e = refl
all_if p q (x ∷ xs) h e =
    let both = and_parts (p x) (list_all p xs) e in
    and_from (q x) (list_all q xs) (h x both.0) (all_if p q xs h both.1)

-- all that each of these gives
pub all_flat : {X : Type 0} (test : ℕ → Bool) (g : X → List ℕ) (xs : List X) → list_all (λ x. list_all test (g x)) xs ≡ true → list_all test (flat_map g xs) ≡ true
all_flat test g [] e = refl
all_flat test g (x ∷ xs) e =
    let both = and_parts (list_all test (g x)) (list_all (λ y. list_all test (g y)) xs) e in
    list_all-append test (g x) (flat_map g xs) ∙ and_from (list_all test (g x)) (list_all test (flat_map g xs)) both.0 (all_flat test g xs both.1)

-- what passes among all places is one of them
one_here : {X : Type 0} (p : X → Bool) (f : ℕ → X) (i : ℕ) (more : List ℕ) (b : Bool) → b ≡ true → list_all p (map f (cond b (i ∷ more) more)) ≡ true → p (f i) ≡ true
one_here p f i more true e all = (and_parts (p (f i)) (list_all p (map f more)) all).0
one_here p f i more false e all = absurd (false≢true e)

others_here : {X : Type 0} (p : X → Bool) (f : ℕ → X) (i : ℕ) (more : List ℕ) (b : Bool) → list_all p (map f (cond b (i ∷ more) more)) ≡ true → list_all p (map f more) ≡ true
others_here p f i more true all = (and_parts (p (f i)) (list_all p (map f more)) all).1
others_here p f i more false all = all

one_from_places : {X : Type 0} (p : X → Bool) (f : ℕ → X) (test : ℕ → Bool) (i j : ℕ) (ns : List Node) → list_all p (map f (filter test (places_from i ns))) ≡ true → j < length ns → test (i + j) ≡ true → p (f (i + j)) ≡ true
one_from_places p f test i j [] all less e = absurd (omega (arith, less))
one_from_places p f test i zero (n ∷ ns) all less e =
    let here : i + zero ≡ i = omega arith in
    ap (λ (k : ℕ). p (f k)) here ∙ one_here p f i (filter test (places_from (suc i) ns)) (test i) (sym (ap test here) ∙ e) all
one_from_places p f test i (suc j) (n ∷ ns) all less e =
    let there : i + suc j ≡ suc i + j = omega arith in
    ap (λ (k : ℕ). p (f k)) there
    ∙ one_from_places p f test (suc i) j ns (others_here p f i (filter test (places_from (suc i) ns)) (test i) all) (omega (arith, less)) (sym (ap test there) ∙ e)

pub one_passing : {X : Type 0} (p : X → Bool) (f : ℕ → X) (test : ℕ → Bool) (ns : List Node) (j : ℕ) → list_all p (map f (filter test (places ns))) ≡ true → j < length ns → test j ≡ true → p (f j) ≡ true
one_passing p f test ns j all less e =
    let here : 0 + j ≡ j = omega arith in
    sym (ap (λ (k : ℕ). p (f k)) here) ∙ one_from_places p f test 0 j ns all less (ap test here ∙ e)

-- ---- with more steps
end_one_more : (next : ℕ → List ℕ) (n place : ℕ) → all_end next n place ≡ true → all_end next (suc n) place ≡ true
end_one_more next zero place e = absurd (false≢true e)
end_one_more next (suc n) place e = all_if (all_end next n) (all_end next (suc n)) (next place) (λ q f. end_one_more next n q f) e

end_add : (next : ℕ → List ℕ) (d n place : ℕ) → all_end next n place ≡ true → all_end next (d + n) place ≡ true
end_add next zero n place e = let f : 0 + n ≡ n = omega arith in ap (λ (k : ℕ). all_end next k place) f ∙ e
end_add next (suc d) n place e =
    let f : suc d + n ≡ suc (d + n) = omega arith in
    ap (λ (k : ℕ). all_end next k place) f ∙ end_one_more next (d + n) place (end_add next d n place e)

pub end_more : (next : ℕ → List ℕ) (n m place : ℕ) → n ≤ m → all_end next n place ≡ true → all_end next m place ≡ true
end_more next n m place le e = let f : m ≡ (m - n) + n = omega (arith, le) in ap (λ (k : ℕ). all_end next k place) f ∙ end_add next (m - n) n place e

-- ---- the parts of a kind
-- an element of the kind with paths that end within so many steps
pub record IsOne (k : Kind) (ns : List Node) (n i : ℕ) : Type 0 where
  pub there : i < length ns
  pub kind : is_kind k ns i ≡ true
  pub whole : is_whole_within n ns i ≡ true

-- from what an element declares `leads` says where it leads: to those to which its steps lead
abbrev pub GoesOn : {X : Type 0} → Kind → List Node → (ℕ → X) → (Option X → List ℕ) → Type 0
GoesOn k ns f leads = (n i : ℕ) (test : ℕ → Bool) → IsOne k ns (suc n) i → ((j : ℕ) → IsOne k ns n j → test (place_of k ns j) ≡ true) → list_all test (leads (Some (f i))) ≡ true

abbrev pub listed : {X : Type 0} → Kind → List Node → (ℕ → X) → List X
listed k ns f = map f (places_of k ns)

end_within : {X : Type 0} (k : Kind) (ns : List Node) (f : ℕ → X) (leads : Option X → List ℕ) → GoesOn k ns f leads → (n i : ℕ) → IsOne k ns n i → all_end (λ (place : ℕ). leads (slice_get (listed k ns f) place)) n (place_of k ns i) ≡ true
end_within k ns f leads on zero i h = absurd (false≢true h.whole)
end_within k ns f leads on (suc n) i h =
    let next = λ (place : ℕ). leads (slice_get (listed k ns f) place) in
    ap (λ o. list_all (all_end next n) (leads o)) (listing_at f (is_kind k ns) ns i h.there h.kind)
    ∙ on n i (all_end next n) h (λ j g. end_within k ns f leads on n j g)

pub each_ends : {X : Type 0} (k : Kind) (ns : List Node) (f : ℕ → X) (leads : Option X → List ℕ) → GoesOn k ns f leads → IsTree ns → AreSure ns → (place : ℕ) → place < length (listed k ns f) → (n : ℕ) × (all_end (λ (place : ℕ). leads (slice_get (listed k ns f) place)) n place ≡ true)
each_ends k ns f leads on tree sure place less =
    let next = λ (place : ℕ). leads (slice_get (listed k ns f) place) in
    let found = listing_from f (is_kind k ns) ns place less in
    let whole = each_whole ns found.0 tree sure found.1 (kind_parts k ns found.0 found.2).0 in
    let ends = end_within k ns f leads on (suc (length ns)) found.0 (record { there = found.1; kind = found.2; whole = is_within ns found.0 whole }) in
    (suc (length ns), ap (all_end next (suc (length ns))) (sym found.3) ∙ ends)
