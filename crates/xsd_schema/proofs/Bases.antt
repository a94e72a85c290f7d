-- The bases of types: each path along them ends.
use Rattle.std.proofs.Common.{◌≡◌, ℕ, zero, suc, ◌+◌, ◌-◌, ◌<◌, Bool, true, Option, Some, None, option_map, option_to_list, inl, inr, List, [], ◌∷◌, ◌++◌, length, map, refl, sym, ap, ◌∙◌, arith}
use Rattle.std.specs.Prelude.{nat_lt}
use Rattle.std.specs.List.{list_all, slice_get}
use Rattle.std.proofs.lemmas.Bool.{agree_below, agree_below_at, and_from, and_parts, cases_lt, false≢true, ltb-true, lt-ltb}
use Rattle.std.proofs.lemmas.List.{length-append, length-map}
use Rattle.std.proofs.lemmas.Option.{slice_get-map}
use Rattle.xsd_model.specs.Parts.{Parts, all_end, base_in, bases_at}
use Rattle.xsd_model.specs.declared.parts.TypeDef.{TypeDef}
use Rattle.xsd_builtins.specs.BuiltIns.{built_in_bases}
use Rattle.xsd_tree.specs.Trees.{IsTree}
use Rattle.xsd_tree.specs.declared.node.Node.{Node}
use Rattle.xsd_components.specs.declared.type_at.TypeAt.{TypeAt}
use Rattle.xsd_components.specs.declared.type_at.TypeAt.TheVariants as type_at
use Rattle.xsd_declared.specs.Lists.{places_of}
use Rattle.xsd_paths.proofs.Within.{is_within}
use Rattle.xsd_places.specs.Kinds.{is_kind, place_of, place_of_type}
use Rattle.xsd_places.specs.declared.kind.Kind.TheVariants as kind
use Rattle.xsd_schema.proofs.Counted.{listing_at, listing_from}
use Rattle.xsd_schema.proofs.Ends.{all_if, end_more}
use Rattle.xsd_schema.proofs.Named.{kind_parts}
use Rattle.xsd_schema.proofs.Steps.{AreSure}
use Rattle.xsd_schema.proofs.Derived.{IsGood, base_of_type, base_of_type_good}
use Rattle.xsd_schema.proofs.Whole.{each_whole}

-- ---- paths along other lists
all_two : (p q r : ℕ → Bool) (xs : List ℕ) → ((x : ℕ) → p x ≡ true → q x ≡ true → r x ≡ true) → list_all p xs ≡ true → list_all q xs ≡ true → list_all r xs ≡ true
all_two p q r [] h e f = refl
all_two p q r (x ∷ xs) h e f =
    let first = and_parts (p x) (list_all p xs) e in
    let second = and_parts (q x) (list_all q xs) f in
    and_from (r x) (list_all r xs) (h x first.0 second.0) (all_two p q r xs h first.1 second.1)

-- where two ways to go are the same for what they lead to
end_among : (f g : ℕ → List ℕ) (inside : ℕ → Bool) → ((q : ℕ) → inside q ≡ true → g q ≡ f q) → ((q : ℕ) → inside q ≡ true → list_all inside (f q) ≡ true) → (n place : ℕ) → inside place ≡ true → all_end f n place ≡ true → all_end g n place ≡ true
end_among f g inside same stays zero place here e = absurd (false≢true e)
end_among f g inside same stays (suc n) place here e =
    ap (list_all (all_end g n)) (same place here)
    ∙ all_two (all_end f n) inside (all_end g n) (f place) (λ q e there. end_among f g inside same stays n q there e) e (stays place here)

end_same : (f g : ℕ → List ℕ) → ((q : ℕ) → g q ≡ f q) → (n place : ℕ) → all_end f n place ≡ true → all_end g n place ≡ true
end_same f g same zero place e = absurd (false≢true e)
end_same f g same (suc n) place e = ap (list_all (all_end g n)) (same place) ∙ all_if (all_end f n) (all_end g n) (f place) (λ q h. end_same f g same n q h) e

-- ---- bases alone
abbrev pub base_told : Option (Option ℕ) → List ℕ
base_told None = []
base_told (Some base) = option_to_list base

abbrev pub led_by : List (Option ℕ) → ℕ → List ℕ
led_by bases place = base_told (slice_get bases place)

abbrev pub own_base : TypeDef → Option ℕ
own_base t = t.base

told_base : (o : Option TypeDef) → base_in o ≡ base_told (option_map own_base o)
told_base None = refl
told_base (Some t) = refl

by_bases : (p : Parts) (place : ℕ) → bases_at p place ≡ led_by (map own_base p.types) place
by_bases p place = told_base (slice_get p.types place) ∙ ap base_told (sym (slice_get-map own_base p.types place))

-- ---- built-in types
front : {X : Type 0} (xs ys : List X) (i : ℕ) → i < length xs → slice_get (xs ++ ys) i ≡ slice_get xs i
front [] ys i less = absurd (omega (arith, less))
front (x ∷ xs) ys zero less = refl
front (x ∷ xs) ys (suc i) less = front xs ys i (omega (arith, less))

behind : {X : Type 0} (xs ys : List X) (i : ℕ) → slice_get (xs ++ ys) (length xs + i) ≡ slice_get ys i
behind [] ys i = let e : 0 + i ≡ i = omega arith in ap (slice_get ys) e
behind (x ∷ xs) ys i = let e : suc (length xs) + i ≡ suc (length xs + i) = omega arith in ap (slice_get (x ∷ xs ++ ys)) e ∙ behind xs ys i

count : length built_in_bases ≡ 46
unfolding built_in_bases
count = refl

abbrev is_built : ℕ → Bool
is_built place = nat_lt place 46

-- no path is longer than 12 steps
table_ends : agree_below (all_end (led_by built_in_bases) 12) (λ place. true) 46 ≡ true
unfolding built_in_bases
table_ends = refl

table_stays : agree_below (λ place. list_all is_built (led_by built_in_bases place)) (λ place. true) 46 ≡ true
unfolding built_in_bases
table_stays = refl

module _ (others : List (Option ℕ)) where
  abbrev all : List (Option ℕ)
  all = built_in_bases ++ others

  built_same : (place : ℕ) → is_built place ≡ true → led_by all place ≡ led_by built_in_bases place
  built_same place e =
      let less : place < 46 = ltb-true place 46 e in
      ap base_told (front built_in_bases others place (omega (arith, less, count)))

  built_ends : (place : ℕ) → place < 46 → all_end (led_by all) 12 place ≡ true
  built_ends place less =
      end_among (led_by built_in_bases) (led_by all) is_built built_same
      (λ q e. agree_below_at (λ place. list_all is_built (led_by built_in_bases place)) (λ place. true) 46 q table_stays (ltb-true q 46 e))
      12 place (lt-ltb place 46 less)
      (agree_below_at (all_end (led_by built_in_bases) 12) (λ place. true) 46 place table_ends less)

-- ---- those of a document behind them
abbrev pub base_place : List Node → ℕ → Option ℕ
base_place ns i = Some (place_of_type ns (base_of_type ns i))

abbrev pub bases_of : List Node → List (Option ℕ)
bases_of ns = built_in_bases ++ map (base_place ns) (places_of kind.Type ns)

others_of : List Node → List (Option ℕ)
others_of ns = map (base_place ns) (places_of kind.Type ns)

node_led : (ns : List Node) (i : ℕ) → i < length ns → is_kind kind.Type ns i ≡ true → led_by (bases_of ns) (46 + place_of kind.Type ns i) ≡ place_of_type ns (base_of_type ns i) ∷ []
node_led ns i less k =
    let e : 46 + place_of kind.Type ns i ≡ length built_in_bases + place_of kind.Type ns i = omega (arith, count) in
    ap (led_by (bases_of ns)) e
    ∙ ap base_told (behind built_in_bases (map (base_place ns) (places_of kind.Type ns)) (place_of kind.Type ns i) ∙ listing_at (base_place ns) (is_kind kind.Type ns) ns i less k)

type_ends : (ns : List Node) (n : ℕ) (t : TypeAt) → IsTree ns → AreSure ns → IsGood ns n t → all_end (led_by (bases_of ns)) (n + 12) (place_of_type ns t) ≡ true
type_ends ns n (type_at.Built place) tree sure less = end_more (led_by (bases_of ns)) 12 (n + 12) place (omega arith) (built_ends (map (base_place ns) (places_of kind.Type ns)) place less)
type_ends ns zero (type_at.Node i) tree sure h = absurd (false≢true h.whole)
type_ends ns (suc n) (type_at.Node i) tree sure h =
    let next = led_by (bases_of ns) in
    let base = base_of_type ns i in
    let fuel : suc n + 12 ≡ suc (n + 12) = omega arith in
    ap (λ (k : ℕ). all_end next k (46 + place_of kind.Type ns i)) fuel
    ∙ ap (list_all (all_end next (n + 12))) (node_led ns i h.there h.kind)
    ∙ and_from (all_end next (n + 12) (place_of_type ns base)) true (type_ends ns n base tree sure (base_of_type_good ns n i tree sure h)) refl

-- ---- all
each_base_ends : (ns : List Node) → IsTree ns → AreSure ns → (place : ℕ) → place < length (bases_of ns) → (n : ℕ) × (all_end (led_by (bases_of ns)) n place ≡ true)
each_base_ends ns tree sure place less = elim (cases_lt place 46) [
  | inl built ↦ (12, built_ends (map (base_place ns) (places_of kind.Type ns)) place built)
  | inr le ↦
      let others = map (base_place ns) (places_of kind.Type ns) in
      let size : length (bases_of ns) ≡ length built_in_bases + length others = length-append built_in_bases others in
      let found = listing_from (base_place ns) (is_kind kind.Type ns) ns (place - 46) (omega (arith, le, less, size, count)) in
      let here : 46 + place_of kind.Type ns found.0 ≡ place = omega (arith, found.3, le) in
      let whole = each_whole ns found.0 tree sure found.1 (kind_parts kind.Type ns found.0 found.2).0 in
      let ends = type_ends ns (suc (length ns)) (type_at.Node found.0) tree sure (record { there = found.1; kind = found.2; whole = is_within ns found.0 whole }) in
      (suc (length ns) + 12, ap (all_end (led_by (bases_of ns)) (suc (length ns) + 12)) (sym here) ∙ ends)
]

pub bases_end : (ns : List Node) (p : Parts) → IsTree ns → AreSure ns → map own_base p.types ≡ bases_of ns → (place : ℕ) → place < length p.types → (n : ℕ) × (all_end (bases_at p) n place ≡ true)
bases_end ns p tree sure e place less =
    let size : length (bases_of ns) ≡ length p.types = ap length (sym e) ∙ length-map p.types own_base in
    let ends = each_base_ends ns tree sure place (omega (arith, less, size)) in
    (ends.0, end_same (led_by (bases_of ns)) (bases_at p) (λ q. by_bases p q ∙ ap (λ (bs : List (Option ℕ)). led_by bs q) e) ends.0 place ends.1)
