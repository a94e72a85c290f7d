-- Which elements no annotation holds, and what an element holds.
use Rattle.std.proofs.Common.{◌≡◌, ℕ, zero, suc, ◌+◌, ◌-◌, ◌<◌, Bool, true, false, cond, ◌||◌, codes, Option, Some, None, inl, inr, List, [], ◌∷◌, drop, filter, get_or, length, refl, sym, ap, ◌∙◌, arith}
use Rattle.std.specs.List.{find, list_any}
use Rattle.std.specs.Str.{bytes_eq}
use Rattle.std.proofs.lemmas.Bool.{and_parts, cases_Bool, cases_lt, eqb-true, false≢true, or_from, or_parts, true≢false}
use Rattle.std.proofs.lemmas.Option.{none-some, slice_get_past}
use Rattle.exi_names.specs.declared.names.QName.{QName}
use Rattle.xsd_tree.specs.Trees.{ArePlaced, IsPlaced, IsTree, is_schema, xsd}
use Rattle.xsd_tree.specs.declared.node.Node.{Node}
use Rattle.xsd_nodes.specs.Nodes.{child, first, is_among_at, is_at, is_child, is_global, is_place, is_root, is_skipped, outwards_from, has, parent_at, part_at, part_in, part_of, places, places_from}
use Rattle.xsd_nodes.specs.PartNames.{is_among, is_part, part_among, part_named, part_number, part_words}
use Rattle.xsd_nodes.specs.declared.part.Part.{Part}
use Rattle.xsd_nodes.specs.declared.part.Part.TheVariants as part
use Rattle.xsd_nodes.proofs.Upwards.{no_more}
use Rattle.xsd_document.proofs.Below.{or_zero}
use Rattle.xsd_steps.proofs.LiesIn.{before, parent_before, so_far}
use Rattle.xsd_schema.proofs.Tests.{not_true}

-- ---- parts, told apart by their numbers
all_parts : List Part
all_parts = part.Schema ∷ part.Include ∷ part.Import ∷ part.Redefine ∷ part.Notation ∷ part.Annotation ∷ part.Element ∷ part.Attribute ∷ part.ComplexType ∷ part.SimpleType ∷ part.SimpleContent ∷ part.ComplexContent ∷ part.Restriction ∷ part.Extension ∷ part.List ∷ part.Union ∷ part.Sequence ∷ part.Choice ∷ part.All ∷ part.Group ∷ part.AttributeGroup ∷ part.Any ∷ part.AnyAttribute ∷ part.Enumeration ∷ part.Pattern ∷ part.MinInclusive ∷ part.MinExclusive ∷ part.MaxInclusive ∷ part.MaxExclusive ∷ part.PlainFacet ∷ part.Identity ∷ part.Selector ∷ part.Field ∷ part.Other ∷ []

numbered : (p : Part) → get_or all_parts (part_number p) part.Other ≡ p
unfolding all_parts
numbered part.Schema = refl
numbered part.Include = refl
numbered part.Import = refl
numbered part.Redefine = refl
numbered part.Notation = refl
numbered part.Annotation = refl
numbered part.Element = refl
numbered part.Attribute = refl
numbered part.ComplexType = refl
numbered part.SimpleType = refl
numbered part.SimpleContent = refl
numbered part.ComplexContent = refl
numbered part.Restriction = refl
numbered part.Extension = refl
numbered part.List = refl
numbered part.Union = refl
numbered part.Sequence = refl
numbered part.Choice = refl
numbered part.All = refl
numbered part.Group = refl
numbered part.AttributeGroup = refl
numbered part.Any = refl
numbered part.AnyAttribute = refl
numbered part.Enumeration = refl
numbered part.Pattern = refl
numbered part.MinInclusive = refl
numbered part.MinExclusive = refl
numbered part.MaxInclusive = refl
numbered part.MaxExclusive = refl
numbered part.PlainFacet = refl
numbered part.Identity = refl
numbered part.Selector = refl
numbered part.Field = refl
numbered part.Other = refl

pub same_part : (p q : Part) → is_part p q ≡ true → p ≡ q
same_part p q e =
    let same : part_number p ≡ part_number q = eqb-true (part_number p) (part_number q) e in
    sym (numbered p) ∙ ap (λ (n : ℕ). get_or all_parts n part.Other) same ∙ numbered q

-- what an element is, where a test tells it
pub part_told : (ns : List Node) (p : Part) (i : ℕ) → is_at ns p i ≡ true → part_at ns i ≡ p
part_told ns p i e = sym (same_part p (part_at ns i) e)

-- an element that is one of these is no other part
pub among_not : (ns : List Node) (ps : List Part) (p : Part) (i : ℕ) → is_among_at ns ps i ≡ true → is_among ps p ≡ false → is_at ns p i ≡ false
among_not ns ps p i e none = elim (cases_Bool (is_at ns p i)) [
  | inl is_it ↦ absurd (true≢false (sym e ∙ ap (is_among ps) (part_told ns p i is_it) ∙ none))
  | inr not_it ↦ not_it
]

-- one of the document, where it is one of these
pub among_there : (ns : List Node) (ps : List Part) (i : ℕ) → is_among_at ns ps i ≡ true → is_among ps part.Other ≡ false → i < length ns
among_there ns ps i e none = elim (cases_lt i (length ns)) [
  | inl less ↦ less
  | inr le ↦ absurd (true≢false (sym e ∙ ap (λ (o : Option Node). is_among ps (part_in o)) (slice_get_past ns i le) ∙ none))
]

pub at_there : (ns : List Node) (p : Part) (i : ℕ) → is_at ns p i ≡ true → is_part p part.Other ≡ false → i < length ns
at_there ns p i e none = elim (cases_lt i (length ns)) [
  | inl less ↦ less
  | inr le ↦ absurd (true≢false (sym e ∙ ap (λ (o : Option Node). is_part p (part_in o)) (slice_get_past ns i le) ∙ none))
]

-- ---- roots
placed_root : (place : ℕ) (name : QName) (parent : Option ℕ) → IsPlaced place name parent → parent ≡ None → is_schema name ≡ true
placed_root place name None h e = h
placed_root place name (Some p) h e = absurd (none-some p (sym e))

first_word : (more : List (List ℕ × Part)) (name word : List ℕ) (p : Part) → bytes_eq name word ≡ true → part_among name ((word, p) ∷ more) ≡ p
first_word more name word p e = ap (λ b. cond b p (part_among name more)) e

schema_first : part_words ≡ (codes "schema", part.Schema) ∷ drop 1 part_words
unfolding part_words
schema_first = refl

schema_named : (name : List ℕ) → bytes_eq name (codes "schema") ≡ true → part_named name ≡ part.Schema
schema_named name e = ap (part_among name) schema_first ∙ first_word (drop 1 part_words) name (codes "schema") part.Schema e

schema_part : (n : Node) → is_schema n.name ≡ true → part_of n ≡ part.Schema
schema_part n e =
    let both = and_parts (bytes_eq n.name.uri xsd) (bytes_eq n.name.local (codes "schema")) e in
    ap (λ b. cond b (part_named n.name.local) part.Other) both.0 ∙ schema_named n.name.local both.1

-- an element that none holds is a schema
root_from : (place : ℕ) (ns : List Node) (j : ℕ) → ArePlaced place ns → j < length ns → parent_at ns j ≡ None → part_at ns j ≡ part.Schema
root_from place [] j h less e = absurd (omega (arith, less))
root_from place (n ∷ ns) zero h less e = schema_part n (placed_root place n.name n.parent h.0 e)
root_from place (n ∷ ns) (suc j) h less e = root_from (suc place) ns j h.1 (omega (arith, less)) e

pub root_is_schema : (ns : List Node) (j : ℕ) → IsTree ns → j < length ns → parent_at ns j ≡ None → part_at ns j ≡ part.Schema
root_is_schema ns j tree less e = root_from 0 ns j tree.placed less e

-- ---- what no annotation holds
pub skipped_in : (ns : List Node) (i : ℕ) (o : Option ℕ) → IsTree ns → i < length ns → parent_at ns i ≡ o → is_skipped ns i ≡ (is_at ns part.Annotation i || list_any (is_at ns part.Annotation) (outwards_from (length ns) ns o))
skipped_in ns i o tree less e =
    let test = is_at ns part.Annotation in
    let m = length ns - 1 in
    let size : length ns ≡ suc m = omega (arith, less) in
    let inside : i < suc m = omega (arith, less) in
    ap (λ (n : ℕ). list_any test (outwards_from n ns (Some i))) size
    ∙ ap (λ (p : Option ℕ). test i || list_any test (outwards_from m ns p)) e
    ∙ ap (λ (l : List ℕ). test i || list_any test l) (so_far ns tree m (length ns) o (λ p f. before ns i p m tree inside (e ∙ f)) (λ p f. let q = before ns i p m tree inside (e ∙ f) in omega (arith, q)))

-- of a child
pub skipped_child : (ns : List Node) (i p : ℕ) → IsTree ns → i < length ns → parent_at ns i ≡ Some p → is_skipped ns i ≡ (is_at ns part.Annotation i || is_skipped ns p)
skipped_child ns i p tree less e = skipped_in ns i (Some p) tree less e

pub skipped_root : (ns : List Node) (i : ℕ) → IsTree ns → i < length ns → parent_at ns i ≡ None → is_skipped ns i ≡ (is_at ns part.Annotation i || false)
skipped_root ns i tree less e = skipped_in ns i None tree less e ∙ ap (λ (l : List ℕ). is_at ns part.Annotation i || list_any (is_at ns part.Annotation) l) (no_more ns (length ns))

-- a child that is no annotation, of an element that none holds
pub child_free : (ns : List Node) (i p : ℕ) → IsTree ns → i < length ns → parent_at ns i ≡ Some p → is_at ns part.Annotation i ≡ false → is_skipped ns p ≡ false → is_skipped ns i ≡ false
child_free ns i p tree less e own outer = skipped_child ns i p tree less e ∙ or_from (is_at ns part.Annotation i) (is_skipped ns p) own outer

-- and the other way
pub parent_free : (ns : List Node) (i p : ℕ) → IsTree ns → i < length ns → parent_at ns i ≡ Some p → is_skipped ns i ≡ false → is_skipped ns p ≡ false
parent_free ns i p tree less e free = (or_parts (is_at ns part.Annotation i) (is_skipped ns p) (sym (skipped_child ns i p tree less e) ∙ free)).1

pub root_free : (ns : List Node) (i : ℕ) → IsTree ns → i < length ns → parent_at ns i ≡ None → is_skipped ns i ≡ false
root_free ns i tree less e =
    skipped_root ns i tree less e
    ∙ ap (λ (p : Part). is_part part.Annotation p || false) (root_is_schema ns i tree less e)

-- a parent is one of the document
pub parent_there : (ns : List Node) (i p : ℕ) → IsTree ns → i < length ns → parent_at ns i ≡ Some p → (p < i) × (p < length ns)
parent_there ns i p tree less e = let earlier = parent_before 0 ns i p tree.placed e in (omega (arith, earlier), omega (arith, earlier, less))

-- ---- directly within the schema
none_has : (o : Option ℕ) → has o ≡ false → o ≡ None
none_has None e = refl
none_has (Some i) e = absurd (true≢false e)

root_parent : (ns : List Node) (o : Option ℕ) → is_root ns o ≡ true → (r : ℕ) × (o ≡ Some r) × (parent_at ns r ≡ None)
root_parent ns None e = absurd (false≢true e)
root_parent ns (Some r) e = (r, refl, none_has (parent_at ns r) (not_true (has (parent_at ns r)) e))

-- the schema that holds a global element
pub global_parent : (ns : List Node) (i : ℕ) → is_global ns i ≡ true → (r : ℕ) × (parent_at ns i ≡ Some r) × (parent_at ns r ≡ None)
global_parent ns i e = root_parent ns (parent_at ns i) e

pub global_free : (ns : List Node) (i : ℕ) → IsTree ns → i < length ns → is_global ns i ≡ true → is_at ns part.Annotation i ≡ false → is_skipped ns i ≡ false
global_free ns i tree less e own =
    let up = global_parent ns i e in
    let there = parent_there ns i up.0 tree less up.1 in
    child_free ns i up.0 tree less up.1 own (root_free ns up.0 tree there.1 up.2)

-- ---- what an element holds
pub place_told : (i : ℕ) (o : Option ℕ) → is_place i o ≡ true → o ≡ Some i
place_told i None e = absurd (false≢true e)
place_told i (Some j) e = ap (λ (k : ℕ). Some k) (sym (eqb-true i j e))

pub record IsHeldBy (ns : List Node) (ps : List Part) (i j : ℕ) : Type 0 where
  pub there : j < length ns
  pub parent : parent_at ns j ≡ Some i
  pub among : is_among_at ns ps j ≡ true

pub held_by : (ns : List Node) (ps : List Part) (i j : ℕ) → j < length ns → is_child ns ps i j ≡ true → IsHeldBy ns ps i j
held_by ns ps i j less e =
    let both = and_parts (is_place i (parent_at ns j)) (is_among_at ns ps j) e in
    record { there = less; parent = place_told i (parent_at ns j) both.0; among = both.1 }

-- the first that passes does pass
one_first : (test : ℕ → Bool) (i c : ℕ) (more : List ℕ) (b : Bool) (P : ℕ → Type 0) → (b ≡ true → P i) → (first more ≡ Some c → P c) → first (cond b (i ∷ more) more) ≡ Some c → P c
one_first test i c more true P here later e = moved (ap or_zero e) (here refl)
  where
    moved : i ≡ c → P i → P c
    moved e p = rw (sym e) p
one_first test i c more false P here later e = later e

first_from_places : (test : ℕ → Bool) (i : ℕ) (ns : List Node) (c : ℕ) → first (filter test (places_from i ns)) ≡ Some c → (c < i + length ns) × (test c ≡ true)
first_from_places test i [] c e = absurd (none-some c e)
first_from_places test i (n ∷ ns) c e =
    one_first test i c (filter test (places_from (suc i) ns)) (test i) (λ (j : ℕ). (j < i + suc (length ns)) × (test j ≡ true)) (λ passes. (omega arith, passes))
    (λ later. let found = first_from_places test (suc i) ns c later in (omega (arith, found.0), found.1)) e

pub child_held : (ns : List Node) (ps : List Part) (i c : ℕ) → child ns ps i ≡ Some c → IsHeldBy ns ps i c
child_held ns ps i c e =
    let found = first_from_places (is_child ns ps i) 0 ns c e in
    held_by ns ps i c (omega (arith, found.0)) found.1

-- what is found does pass
one_found : (i c : ℕ) (more : Option ℕ) (b : Bool) (P : ℕ → Type 0) → (b ≡ true → P i) → (more ≡ Some c → P c) → cond b (Some i) more ≡ Some c → P c
one_found i c more true P here later e = rw (sym (ap or_zero e)) (here refl)
one_found i c more false P here later e = later e

found_from : (test : ℕ → Bool) (i : ℕ) (ns : List Node) (c : ℕ) → find test (places_from i ns) ≡ Some c → (c < i + length ns) × (test c ≡ true)
found_from test i [] c e = absurd (none-some c e)
found_from test i (n ∷ ns) c e =
    one_found i c (find test (places_from (suc i) ns)) (test i) (λ (j : ℕ). (j < i + suc (length ns)) × (test j ≡ true)) (λ passes. (omega arith, passes))
    (λ later. let found = found_from test (suc i) ns c later in (omega (arith, found.0), found.1)) e

pub found_passes : (test : ℕ → Bool) (ns : List Node) (c : ℕ) → find test (places ns) ≡ Some c → (c < length ns) × (test c ≡ true)
found_passes test ns c e = let found = found_from test 0 ns c e in (omega (arith, found.0), found.1)

-- of what stands within an element that no annotation holds, what is no annotation is held by none
pub held_free : (ns : List Node) (ps : List Part) (i j : ℕ) → IsTree ns → IsHeldBy ns ps i j → is_among ps part.Annotation ≡ false → is_skipped ns i ≡ false → is_skipped ns j ≡ false
held_free ns ps i j tree h none free = child_free ns j i tree h.there h.parent (among_not ns ps part.Annotation j h.among none) free

pub held_behind : (ns : List Node) (ps : List Part) (i j : ℕ) → IsTree ns → IsHeldBy ns ps i j → i < j
held_behind ns ps i j tree h = (parent_there ns j i tree h.there h.parent).0
