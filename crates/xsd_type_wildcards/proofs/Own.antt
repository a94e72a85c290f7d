-- Whether an element that holds attributes has a wildcard is told by what it holds, and by the groups that it names.
use Rattle.std.proofs.Common.{◌≡◌, ℕ, zero, suc, ◌≤◌, eqb, Bool, true, false, cond, ◌||◌, ◌&&◌, Option, Some, None, List, [], ◌∷◌, ◌++◌, length, map, refl, sym, ap, ◌∙◌, arith}
use Rattle.std.specs.List.{find, list_all, list_any}
use Rattle.std.proofs.lemmas.Bool.{and_from, and_parts, eqb-true, false≢true}
use Rattle.std.proofs.lemmas.List.Folds.{list_any-append}
use Rattle.std.proofs.lemmas.Option.{none-some}
use Rattle.exi_names.specs.declared.names.QName.{QName}
use Rattle.xsd_tree.specs.declared.node.Node.{Node}
use Rattle.xsd_nodes.specs.Nodes.{children, first, has, is_among_at, is_global, part_at, places, text_at}
use Rattle.xsd_nodes.specs.PartNames.{part_number}
use Rattle.xsd_nodes.specs.declared.attribute_name.AttributeName.TheVariants as attribute
use Rattle.xsd_nodes.specs.declared.part.Part.TheVariants as part
use Rattle.xsd_names.specs.Names.{named}
use Rattle.xsd_components.specs.References.{attribute_groups, component_of, declares, is_name, text_names}
use Rattle.xsd_names.specs.Names.{own_name}
use Rattle.xsd_derivations.specs.Derivations.{attribute_group_named, attribute_groups_named}
use Rattle.xsd_paths.specs.Paths.{is_whole_within, leads_to}
use Rattle.xsd_steps.specs.Steps.{steps}
use Rattle.xsd_wildcards.specs.Wildcards.{allowed_at}
use Rattle.xsd_wildcards.specs.declared.allowed.Allowed.{Allowed}
use Rattle.xsd_type_wildcards.specs.Sources.{has_own}
use Rattle.xsd_type_wildcards.specs.Told.{has_deep, has_own_by, holds_wild, is_group}
use Rattle.xsd_type_wildcards.specs.TypeWildcards.{all_together, of_group, own_wild, together, wild_within}

-- ---- of several
has_both : (a b : Option Allowed) → has (together a b) ≡ (has a || has b)
has_both None b = refl
has_both (Some a) None = refl
has_both (Some a) (Some b) = refl

or_none : (b : Bool) → b ≡ (b || false)
or_none true = refl
or_none false = refl

or_three : (a b c : Bool) → ((a || b) || c) ≡ (a || (b || c))
or_three true b c = refl
or_three false b c = refl

has_one : (found : Option Allowed) (xs : List (Option Allowed)) → has (all_together found xs) ≡ (has found || list_any has xs)
has_one found [] = or_none (has found)
has_one found (a ∷ more) =
    has_one (together found a) more
    ∙ ap (λ b. b || list_any has more) (has_both found a)
    ∙ or_three (has found) (has a) (list_any has more)

-- ---- those that it holds, and those of the groups
has_held : (f : ℕ → Allowed) (js : List ℕ) → list_any has (map (λ j. Some (f j)) js) ≡ has (first js)
has_held f [] = refl
has_held f (j ∷ js) = refl

has_group : (f : ℕ → Option Allowed) (o : Option ℕ) → has (of_group f o) ≡ leads_to (λ g. has (f g)) o
has_group f None = refl
has_group f (Some g) = refl

has_named : (f : ℕ → Option Allowed) (os : List (Option ℕ)) → list_any has (map (of_group f) os) ≡ list_any (leads_to (λ g. has (f g))) os
has_named f [] = refl
has_named f (o ∷ os) =
    ap (λ b. b || list_any has (map (of_group f) os)) (has_group f o)
    ∙ ap (λ b. leads_to (λ g. has (f g)) o || b) (has_named f os)

pub own_is : (ns : List Node) (i : ℕ) → has_own ns i ≡ has_own_by ns (has_deep ns) i
unfolding own_wild
own_is ns i =
    let held = map (λ j. Some (allowed_at ns j)) (children ns (part.AnyAttribute ∷ []) i) in
    let others = map (of_group (wild_within (length ns) ns)) (attribute_groups_named ns i) in
    has_one None (held ++ others)
    ∙ list_any-append has held others
    ∙ ap (λ b. b || list_any has others) (has_held (allowed_at ns) (children ns (part.AnyAttribute ∷ []) i))
    ∙ ap (λ b. holds_wild ns i || b) (has_named (wild_within (length ns) ns) (attribute_groups_named ns i))

-- ---- what is named is a group
found_by : (p : ℕ → Bool) (x : ℕ) (xs : List ℕ) (j : ℕ) (b : Bool) → (find p xs ≡ Some j → p j ≡ true) → p x ≡ b → cond b (Some x) (find p xs) ≡ Some j → p j ≡ true
found_by p x xs j true behind here e = let same : x ≡ j = cc in ap p (sym same) ∙ here
found_by p x xs j false behind here e = behind e

found_is : (p : ℕ → Bool) (xs : List ℕ) (j : ℕ) → find p xs ≡ Some j → p j ≡ true
found_is p [] j e = absurd (none-some j e)
found_is p (x ∷ xs) j e = found_by p x xs j (p x) (found_is p xs j) refl e

of_component : (ns : List Node) (name : Option QName) (j : ℕ) → component_of ns attribute_groups name ≡ Some j → is_group ns j ≡ true
of_component ns None j e = absurd (none-some j e)
of_component ns (Some name) j e = (and_parts (is_group ns j) (is_name name (own_name ns j)) (found_is (declares ns attribute_groups name) (places ns) j e)).0

of_text : (ns : List Node) (i : ℕ) (text : Option (List ℕ)) (j : ℕ) → text_names ns attribute_groups i text ≡ Some j → is_group ns j ≡ true
of_text ns i None j e = absurd (none-some j e)
of_text ns i (Some text) j e = of_component ns (named ns i text) j e

one_group : (ns : List Node) (test : ℕ → Bool) (o : Option ℕ) → ((j : ℕ) → o ≡ Some j → is_group ns j ≡ true) → leads_to test o ≡ true → leads_to (λ j. is_group ns j && test j) o ≡ true
one_group ns test None h e = e
one_group ns test (Some j) h e = and_from (is_group ns j) (test j) (h j refl) e

all_groups : (ns : List Node) (test : ℕ → Bool) (cs : List ℕ) → list_all (leads_to test) (map (attribute_group_named ns) cs) ≡ true → list_all (leads_to (λ j. is_group ns j && test j)) (map (attribute_group_named ns) cs) ≡ true
all_groups ns test [] e = e
all_groups ns test (c ∷ cs) e =
    let o = attribute_group_named ns c in
    let p = and_parts (leads_to test o) (list_all (leads_to test) (map (attribute_group_named ns) cs)) e in
    and_from (leads_to (λ j. is_group ns j && test j) o) (list_all (leads_to (λ j. is_group ns j && test j)) (map (attribute_group_named ns) cs))
    (one_group ns test o (of_text ns c (text_at ns attribute.Ref c)) p.0)
    (all_groups ns test cs p.1)

pub groups_lead : (ns : List Node) (test : ℕ → Bool) (i : ℕ) → list_all (leads_to test) (attribute_groups_named ns i) ≡ true → list_all (leads_to (λ j. is_group ns j && test j)) (attribute_groups_named ns i) ≡ true
groups_lead ns test i e = all_groups ns test (children ns (part.AttributeGroup ∷ []) i) e

-- ---- a group's steps
or_nothing : (b : Bool) → (b || false) ≡ true → b ≡ true
or_nothing true e = refl
or_nothing false e = e

steps_by : (n : ℕ) (global : Bool) (a b c d : List (Option ℕ)) → n ≡ 20 → global ≡ true → cond (eqb n 9 || (eqb n 8 || (eqb n 12 || false))) a (cond (eqb 19 n) b (cond (eqb 20 n) (cond global c []) d)) ≡ c
steps_by n global a b c d e f = rw (e, f) refl

pub group_steps : (ns : List Node) (g : ℕ) → is_group ns g ≡ true → steps ns g ≡ attribute_groups_named ns g
group_steps ns g e =
    let p = and_parts (is_global ns g) (is_among_at ns attribute_groups g) e in
    let number : part_number (part_at ns g) ≡ 20 = eqb-true (part_number (part_at ns g)) 20 (or_nothing (eqb (part_number (part_at ns g)) 20) p.1) in
    steps_by (part_number (part_at ns g)) (is_global ns g) _ _ (attribute_groups_named ns g) _ number p.0

-- ---- what groups tell alike
one_agrees : (p f g : ℕ → Bool) (o : Option ℕ) → ((j : ℕ) → p j ≡ true → f j ≡ g j) → leads_to p o ≡ true → leads_to f o ≡ leads_to g o
one_agrees p f g None h e = refl
one_agrees p f g (Some j) h e = h j e

pub any_agree : (p f g : ℕ → Bool) (os : List (Option ℕ)) → ((j : ℕ) → p j ≡ true → f j ≡ g j) → list_all (leads_to p) os ≡ true → list_any (leads_to f) os ≡ list_any (leads_to g) os
any_agree p f g [] h e = refl
any_agree p f g (o ∷ os) h e =
    let q = and_parts (leads_to p o) (list_all (leads_to p) os) e in
    ap (λ b. b || list_any (leads_to f) os) (one_agrees p f g o h q.0)
    ∙ ap (λ b. leads_to g o || b) (any_agree p f g os h q.1)

wild_agrees : (p : ℕ → Bool) (f g : ℕ → Option Allowed) (o : Option ℕ) → ((j : ℕ) → p j ≡ true → f j ≡ g j) → leads_to p o ≡ true → of_group f o ≡ of_group g o
wild_agrees p f g None h e = refl
wild_agrees p f g (Some j) h e = h j e

pub wilds_agree : (p : ℕ → Bool) (f g : ℕ → Option Allowed) (os : List (Option ℕ)) → ((j : ℕ) → p j ≡ true → f j ≡ g j) → list_all (leads_to p) os ≡ true → map (of_group f) os ≡ map (of_group g) os
wilds_agree p f g [] h e = refl
wilds_agree p f g (o ∷ os) h e =
    let q = and_parts (leads_to p o) (list_all (leads_to p) os) e in
    ap (λ (w : Option Allowed). w ∷ map (of_group f) os) (wild_agrees p f g o h q.0)
    ∙ ap (λ (ws : List (Option Allowed)). of_group g o ∷ ws) (wilds_agree p f g os h q.1)

-- ---- steps enough
pub wild_settled : (ns : List Node) (m n g : ℕ) → m ≤ n → is_group ns g ≡ true → is_whole_within m ns g ≡ true → wild_within m ns g ≡ wild_within n ns g
wild_settled ns zero n g le group e = absurd (false≢true e)
wild_settled ns (suc m) zero g le group e = absurd (omega (arith, le))
wild_settled ns (suc m) (suc n) g le group e =
    let less : m ≤ n = omega (arith, le) in
    let others = attribute_groups_named ns g in
    let whole : list_all (leads_to (is_whole_within m ns)) others ≡ true = ap (list_all (leads_to (is_whole_within m ns))) (sym (group_steps ns g group)) ∙ e in
    ap (λ (ws : List (Option Allowed)). all_together None (map (λ j. Some (allowed_at ns j)) (children ns (part.AnyAttribute ∷ []) g) ++ ws))
    (wilds_agree (λ j. is_group ns j && is_whole_within m ns j) (wild_within m ns) (wild_within n ns) others (λ j p. let q = and_parts (is_group ns j) (is_whole_within m ns j) p in wild_settled ns m n j less q.0 q.1) (groups_lead ns (is_whole_within m ns) g whole))

pub own_settled : (ns : List Node) (g : ℕ) → is_group ns g ≡ true → is_whole_within (length ns) ns g ≡ true → has_deep ns g ≡ has_own ns g
unfolding own_wild
own_settled ns g group e = let le : length ns ≤ suc (length ns) = omega arith in ap has (wild_settled ns (length ns) (suc (length ns)) g le group e)
