-- Along heads by tables: two walks one after another are one.
use Rattle.std.proofs.Common.{◌≡◌, ℕ, zero, suc, ◌+◌, ◌*◌, ◌/◌, ◌%◌, ◌<◌, ◌≤◌, Bool, true, false, cond, Option, Some, None, option_map, inl, inr, List, [], ◌∷◌, ◌++◌, length, map, slice_get, refl, sym, ap, ◌∙◌, arith}
use Rattle.std.specs.List.{find}
use Rattle.std.proofs.Math.Nat.{add-mul, mul-add}
use Rattle.std.proofs.lemmas.Bool.{cases_eq, eq-eqb, ne_eqb}
use Rattle.std.proofs.lemmas.List.{length-map, map-append}
use Rattle.std.proofs.lemmas.Nat.{div-add-mod', mod_below}
use Rattle.std.proofs.lemmas.Option.{slice_get-map, slice_get_within}
use Rattle.exi_names.specs.declared.names.QName.{QName}
use Rattle.xsd_tree.specs.declared.node.Node.{Node}
use Rattle.xsd_nodes.specs.Nodes.{is_global, places, places_from, text_at}
use Rattle.xsd_nodes.specs.declared.attribute_name.AttributeName.TheVariants as attribute
use Rattle.xsd_nodes.specs.declared.part.Part.{Part}
use Rattle.xsd_document.proofs.Below.{below, below_more, below_zero, places_are}
use Rattle.xsd_names.specs.Names.{named}
use Rattle.xsd_components.specs.References.{component_of, declares, elements, text_names}
use Rattle.xsd_components.specs.declared.type_at.TypeAt.{TypeAt}
use Rattle.xsd_declared.specs.Decls.{after_step, element_type, element_type_within, head_at, or_head, told_type, type_step}
use Rattle.xsd_declared.specs.Walks.{AreTypes, AreWalked, joined_if_odd, on_by, or_goes, settled, step_in, walk}
use Rattle.xsd_declared.specs.declared.type_step.TypeStep.{TypeStep}
use Rattle.xsd_declared.specs.declared.type_step.TypeStep.TheVariants as step

-- ---- heads are elements of the document
abbrev pub IsBelow : ℕ → Option ℕ → Type 0
IsBelow n None = Unit {0}
IsBelow n (Some j) = j < n

either : {A : Type 0} (P : A → Type 0) (b : Bool) (x y : A) → P x → P y → P (cond b x y)
either P true x y p q = p
either P false x y p q = q

found_below : (test : ℕ → Bool) (n k : ℕ) (ns : List Node) → k + length ns ≤ n → IsBelow n (find test (places_from k ns))
found_below test n k [] le = tt
found_below test n k (x ∷ ns) le = either (IsBelow n) (test k) (Some k) (find test (places_from (suc k) ns)) (omega (arith, le)) (found_below test n (suc k) ns (omega (arith, le)))

component_below : (ns : List Node) (kind : List Part) (name : Option QName) → IsBelow (length ns) (component_of ns kind name)
component_below ns kind None = tt
component_below ns kind (Some name) = found_below (declares ns kind name) (length ns) 0 ns (omega arith)

names_below : (ns : List Node) (kind : List Part) (i : ℕ) (text : Option (List ℕ)) → IsBelow (length ns) (text_names ns kind i text)
names_below ns kind i None = tt
names_below ns kind i (Some text) = component_below ns kind (named ns i text)

head_below : (ns : List Node) (i : ℕ) → IsBelow (length ns) (head_at ns i)
head_below ns i = either (IsBelow (length ns)) (is_global ns i) (text_names ns elements i (text_at ns attribute.SubstitutionGroup i)) None (names_below ns elements i (text_at ns attribute.SubstitutionGroup i)) tt

abbrev pub GoesBelow : ℕ → TypeStep → Type 0
GoesBelow n (step.Ends t) = Unit {0}
GoesBelow n (step.Goes h) = h < n

or_head_below : (n : ℕ) (head : Option ℕ) (told : Option TypeAt) → IsBelow n head → GoesBelow n (or_head head told)
or_head_below n head (Some t) b = tt
or_head_below n None None b = tt
or_head_below n (Some h) None b = b

step_below : (ns : List Node) (i : ℕ) → GoesBelow (length ns) (type_step ns i)
step_below ns i = or_head_below (length ns) (head_at ns i) (told_type ns i) (head_below ns i)

on_below : (n : ℕ) (f : ℕ → TypeStep) (s : TypeStep) → ((h : ℕ) → h < n → GoesBelow n (f h)) → GoesBelow n s → GoesBelow n (on_by f s)
on_below n f (step.Ends t) each b = tt
on_below n f (step.Goes h) each b = each h b

pub walk_below : (ns : List Node) (n i : ℕ) → i < length ns → GoesBelow (length ns) (walk n ns i)
walk_below ns zero i less = less
walk_below ns (suc n) i less = on_below (length ns) (walk n ns) (type_step ns i) (λ h l. walk_below ns n h l) (step_below ns i)

-- ---- one walk behind another
on_twice : (f g k : ℕ → TypeStep) (s : TypeStep) → ((h : ℕ) → k h ≡ on_by g (f h)) → on_by k s ≡ on_by g (on_by f s)
on_twice f g k (step.Ends t) e = refl
on_twice f g k (step.Goes h) e = e h

pub walk_add : (ns : List Node) (a b i : ℕ) → walk (a + b) ns i ≡ on_by (walk b ns) (walk a ns i)
walk_add ns zero b i = let e : zero + b ≡ b = omega arith in ap (λ (n : ℕ). walk n ns i) e
walk_add ns (suc a) b i =
    let e : suc a + b ≡ suc (a + b) = omega arith in
    ap (λ (n : ℕ). walk n ns i) e ∙ on_twice (walk a ns) (walk b ns) (walk (a + b) ns) (type_step ns i) (λ h. walk_add ns a b h)

step_in_is : (ns : List Node) (n : ℕ) (steps : List TypeStep) (s : TypeStep) → AreWalked ns n steps → GoesBelow (length ns) s → step_in steps s ≡ on_by (walk n ns) s
step_in_is ns n steps (step.Ends t) w b = refl
step_in_is ns n steps (step.Goes h) w b = ap (or_goes h) (w.each h b)

pub joined_walked : (ns : List Node) (a b : ℕ) (first others new : List TypeStep) → AreWalked ns a first → AreWalked ns b others → new ≡ map (step_in others) first → AreWalked ns (a + b) new
joined_walked ns a b first others new v w new_is = record {
  count = ap length new_is ∙ length-map first (step_in others) ∙ v.count;
  each = λ i less.
      ap (λ (l : List TypeStep). slice_get l i) new_is
      ∙ slice_get-map (step_in others) first i
      ∙ ap (option_map (step_in others)) (v.each i less)
      ∙ ap Some (step_in_is ns b others (walk a ns i) w (walk_below ns a i less) ∙ sym (walk_add ns a b i));
}

-- ---- one step
pub steps_none : (f : ℕ → TypeStep) → [] ≡ map f (below 0)
steps_none f = ap (map f) (sym below_zero)

pub steps_more : (f : ℕ → TypeStep) (n : ℕ) (old new : List TypeStep) (x : TypeStep) → old ≡ map f (below n) → x ≡ f n → new ≡ old ++ x ∷ [] → new ≡ map f (below (n + 1))
steps_more f n old new x q x_is new_is =
    new_is
    ∙ ap (λ (l : List TypeStep). l ++ x ∷ []) q
    ∙ ap (λ (y : TypeStep). map f (below n) ++ y ∷ []) x_is
    ∙ sym (map-append f (below n) (n ∷ []))
    ∙ ap (map f) (sym (below_more n))

pub steps_all : (f : ℕ → TypeStep) (ns : List Node) (n : ℕ) (steps : List TypeStep) → n ≡ length ns → steps ≡ map f (below n) → steps ≡ map f (places ns)
steps_all f ns n steps e q = q ∙ ap (λ (k : ℕ). map f (below k)) e ∙ ap (map f) (sym (places_are ns))

place_here : (k : ℕ) (ns : List Node) (i : ℕ) → i < length ns → slice_get (places_from k ns) i ≡ Some (k + i)
place_here k [] i less = absurd (omega (arith, less))
place_here k (n ∷ ns) zero less = ap Some (omega arith)
place_here k (n ∷ ns) (suc i) less =
    let inside : i < length ns = omega (arith, less) in
    let e : suc k + i ≡ k + suc i = omega arith in place_here (suc k) ns i inside ∙ ap Some e

places_count : (k : ℕ) (ns : List Node) → length (places_from k ns) ≡ length ns
places_count k [] = refl
places_count k (n ∷ ns) = ap suc (places_count (suc k) ns)

on_none : (s : TypeStep) → s ≡ on_by (λ h. step.Goes h) s
on_none (step.Ends t) = refl
on_none (step.Goes h) = refl

pub first_walked : (ns : List Node) (steps : List TypeStep) → steps ≡ map (type_step ns) (places ns) → AreWalked ns (suc zero) steps
first_walked ns steps e = record {
  count = ap length e ∙ length-map (places ns) (type_step ns) ∙ places_count 0 ns;
  each = λ i less.
      let here : zero + i ≡ i = omega arith in
      ap (λ (l : List TypeStep). slice_get l i) e
      ∙ slice_get-map (type_step ns) (places ns) i
      ∙ ap (option_map (type_step ns)) (place_here 0 ns i less ∙ ap Some here)
      ∙ ap Some (on_none (type_step ns i));
}

walked_same : (ns : List Node) (n : ℕ) (steps new : List TypeStep) → AreWalked ns n steps → new ≡ steps → AreWalked ns n new
walked_same ns n steps new w e = record {
  count = ap length e ∙ w.count;
  each = λ i less. ap (λ (l : List TypeStep). slice_get l i) e ∙ w.each i less;
}

-- ---- so many by halves
-- walked so far, and so many more walks of the other table are all
pub record IsAlong (ns : List Node) (n left : ℕ) (walked power : List TypeStep) : Type 0 where
  pub done : ℕ
  pub more : ℕ
  pub walked_is : AreWalked ns done walked
  pub power_is : AreWalked ns more power
  pub total : done + left * more ≡ n

pub along_first : (ns : List Node) (left : ℕ) (walked power : List TypeStep) → AreWalked ns (suc zero) power → walked ≡ power → left ≡ length ns → IsAlong ns (length ns + 1) left walked power
along_first ns left walked power w e left_is =
    let one : left * suc zero ≡ left = omega arith in record {
      done = suc zero;
      more = suc zero;
      walked_is = walked_same ns (suc zero) power walked w e;
      power_is = w;
      total = omega (arith, one, left_is);
    }

halves : (q r b : ℕ) → (q + q + r) * b ≡ q * (b + b) + r * b
halves q r b =
    let x : (q + q + r) * b ≡ (q + q) * b + r * b = add-mul (q + q) r b in
    let y : (q + q) * b ≡ q * b + q * b = add-mul q q b in
    let z : q * (b + b) ≡ q * b + q * b = mul-add q b b in omega (arith, x, y, z)

total_odd : (a b left q n : ℕ) → left ≡ q + q + 1 → a + left * b ≡ n → (a + b) + q * (b + b) ≡ n
total_odd a b left q n e t =
    let l : left * b ≡ (q + q + 1) * b = ap (λ (x : ℕ). x * b) e in
    let h : (q + q + 1) * b ≡ q * (b + b) + 1 * b = halves q 1 b in
    let one : 1 * b ≡ b = omega arith in omega (arith, l, h, one, t)

total_even : (a b left q n : ℕ) → left ≡ q + q + 0 → a + left * b ≡ n → a + q * (b + b) ≡ n
total_even a b left q n e t =
    let l : left * b ≡ (q + q + 0) * b = ap (λ (x : ℕ). x * b) e in
    let h : (q + q + 0) * b ≡ q * (b + b) + 0 * b = halves q 0 b in
    let none : 0 * b ≡ 0 = omega arith in omega (arith, l, h, none, t)

half : (left : ℕ) → left / 2 + left / 2 + left % 2 ≡ left
half left = let e = div-add-mod' left 2 in omega (arith, e)

pub along_next : (ns : List Node) (n left : ℕ) (walked power new next : List TypeStep) → IsAlong ns n left walked power → new ≡ joined_if_odd left walked power → next ≡ map (step_in power) power → IsAlong ns n (left / 2) new next
along_next ns n left walked power new next s new_is next_is =
    let all = half left in elim (cases_eq (left % 2) 1) [
      | inl odd ↦
          let both : new ≡ map (step_in power) walked = new_is ∙ ap (λ b. cond b (map (step_in power) walked) walked) (eq-eqb (left % 2) 1 odd) in
          let left_is : left ≡ left / 2 + left / 2 + 1 = omega (arith, all, odd) in record {
            done = s.done + s.more;
            more = s.more + s.more;
            walked_is = joined_walked ns s.done s.more walked power new s.walked_is s.power_is both;
            power_is = joined_walked ns s.more s.more power power next s.power_is s.power_is next_is;
            total = total_odd s.done s.more left (left / 2) n left_is s.total;
          }
      | inr even ↦
          let same : new ≡ walked = new_is ∙ ap (λ b. cond b (map (step_in power) walked) walked) (ne_eqb (left % 2) 1 even) in
          let below : left % 2 < 2 = mod_below left 2 (omega arith) in
          let left_is : left ≡ left / 2 + left / 2 + 0 = omega (arith, all, even, below) in record {
            done = s.done;
            more = s.more + s.more;
            walked_is = walked_same ns s.done walked new s.walked_is same;
            power_is = joined_walked ns s.more s.more power power next s.power_is s.power_is next_is;
            total = total_even s.done s.more left (left / 2) n left_is s.total;
          }
    ]

pub along_all : (ns : List Node) (n left : ℕ) (walked power : List TypeStep) → IsAlong ns n left walked power → left ≤ 0 → AreWalked ns n walked
along_all ns n left walked power s le =
    let e : left ≡ 0 = omega (arith, le) in
    let l : left * s.more ≡ 0 * s.more = ap (λ (x : ℕ). x * s.more) e in
    let none : 0 * s.more ≡ 0 = omega arith in
    let all : s.done ≡ n = omega (arith, l, none, s.total) in record {
      count = s.walked_is.count;
      each = λ i less. s.walked_is.each i less ∙ ap (λ (k : ℕ). Some (walk k ns i)) all;
    }

-- ---- the types
settled_on : (f : ℕ → TypeStep) (g : ℕ → TypeAt) (s : TypeStep) → ((h : ℕ) → settled (f h) ≡ g h) → settled (on_by f s) ≡ after_step g s
settled_on f g (step.Ends t) e = refl
settled_on f g (step.Goes h) e = e h

pub settled_is : (ns : List Node) (n i : ℕ) → settled (walk n ns i) ≡ element_type_within n ns i
settled_is ns zero i = refl
settled_is ns (suc n) i = settled_on (walk n ns) (element_type_within n ns) (type_step ns i) (λ h. settled_is ns n h)

pub are_types : (ns : List Node) (steps : List TypeStep) (types : List TypeAt) → AreWalked ns (length ns + 1) steps → types ≡ map settled steps → AreTypes ns types
are_types ns steps types w e = record {
  count = ap length e ∙ length-map steps settled ∙ w.count;
  each = λ i less.
      ap (λ (l : List TypeAt). slice_get l i) e
      ∙ slice_get-map settled steps i
      ∙ ap (option_map settled) (w.each i less)
      ∙ ap Some (settled_is ns (length ns + 1) i);
}

-- one of them
pub type_here : (ns : List Node) (types : List TypeAt) (i : ℕ) (t : TypeAt) → AreTypes ns types → slice_get types i ≡ Some t → t ≡ element_type ns i
type_here ns types i t a e =
    let inside = slice_get_within types i t e in
    let less : i < length ns = omega (arith, inside, a.count) in ap (or_this t) (sym e ∙ a.each i less)
  where
    or_this : TypeAt → Option TypeAt → TypeAt
    or_this d None = d
    or_this d (Some x) = x
