-- The particles and groups that a document without a fault declares: what they name is there, and what lies within one lies behind it.
use Rattle.std.proofs.Common.{◌≡◌, ℕ, suc, ◌-◌, ◌^◌, ◌<◌, ◌≤◌, Bool, true, false, cond, ◌||◌, ◌&&◌, not, Option, Some, None, option_map, inl, inr, List, [], ◌∷◌, All, length, refl, sym, ap, ◌∙◌, arith}
use Rattle.std.specs.Prelude.{nat_lt}
use Rattle.std.proofs.lemmas.Bool.{and_from, and_parts, cases_Bool, false≢true, ltb-false, ltb-true, or_cases, true≢false}
use Rattle.xsd_model.specs.Parts.{AreParticles, IsAtMost, IsBelow, IsParticle, IsTerm, IsWithin, Parts}
use Rattle.xsd_model.specs.declared.parts.Group.{Group}
use Rattle.xsd_model.specs.declared.parts.Particle.{Particle}
use Rattle.xsd_tree.specs.Trees.{IsTree}
use Rattle.xsd_tree.specs.declared.node.Node.{Node}
use Rattle.xsd_nodes.specs.Nodes.{child, holder, is_among_at, is_at, is_child, is_global, is_skipped, parent_at, part_at, text_at}
use Rattle.xsd_nodes.specs.PartNames.{is_among, is_part}
use Rattle.xsd_nodes.specs.declared.attribute_name.AttributeName.TheVariants as attribute
use Rattle.xsd_nodes.specs.declared.part.Part.{Part}
use Rattle.xsd_nodes.specs.declared.part.Part.TheVariants as part
use Rattle.xsd_components.specs.References.{elements, groups, text_names}
use Rattle.xsd_contents.specs.Contents.{model_groups, number_in, particles}
use Rattle.xsd_declared.specs.Decls.{element_meant, or_zero}
use Rattle.xsd_declared.specs.Lists.{elements_of}
use Rattle.xsd_particles.specs.Particles.{group_decl, group_meant, groups_of, kept, least_at, least_told, model_at, most_at, most_told, particle, particles_of, term_at, within}
use Rattle.xsd_places.specs.Kinds.{is_kind, is_particle, is_particle_node, place_of, refers}
use Rattle.xsd_places.specs.declared.kind.Kind.TheVariants as kind
use Rattle.xsd_told.specs.Told.{are_bad_bounds, most_in}
use Rattle.xsd_schema.proofs.Counted.{EachAt, all_listed, count_less, each_listed, listing_within}
use Rattle.xsd_schema.proofs.Elements.{element_within}
use Rattle.xsd_schema.proofs.Free.{IsFree}
use Rattle.xsd_schema.proofs.Held.{IsHeldBy, child_held, global_parent, held_behind, held_by, held_free, part_told, root_is_schema, same_part}
use Rattle.xsd_schema.proofs.Named.{element_kind, group_kind, kind_free, kind_parts, text_names_global}
use Rattle.xsd_schema.proofs.Refers.{AllFree, element_referred, group_referred, held_local}
use Rattle.xsd_schema.proofs.Tests.{by_test}

-- ---- what a particle is
abbrev pub models : List Part
models = part.Sequence ∷ part.Choice ∷ part.All ∷ []

-- by its part, whether it is global, and whether a group holds it
abbrev pub particle_test : Part → Bool → Bool → Bool
particle_test q global in_group = ((is_among (part.Element ∷ part.Group ∷ []) q && not global) || is_part part.Any q || (is_among models q && not in_group)) || is_among models q

-- a local one of these parts is a particle
local_particle : (q : Part) (in_group : Bool) → is_among particles q ≡ true → particle_test q false in_group ≡ true
local_particle part.Element g e = refl
local_particle part.Group g e = refl
local_particle part.Choice true e = refl
local_particle part.Choice false e = refl
local_particle part.Sequence true e = refl
local_particle part.Sequence false e = refl
local_particle part.All true e = refl
local_particle part.All false e = refl
local_particle part.Any g e = refl
local_particle part.Schema g e = absurd (false≢true e)
local_particle part.Include g e = absurd (false≢true e)
local_particle part.Import g e = absurd (false≢true e)
local_particle part.Redefine g e = absurd (false≢true e)
local_particle part.Notation g e = absurd (false≢true e)
local_particle part.Annotation g e = absurd (false≢true e)
local_particle part.Attribute g e = absurd (false≢true e)
local_particle part.ComplexType g e = absurd (false≢true e)
local_particle part.SimpleType g e = absurd (false≢true e)
local_particle part.SimpleContent g e = absurd (false≢true e)
local_particle part.ComplexContent g e = absurd (false≢true e)
local_particle part.Restriction g e = absurd (false≢true e)
local_particle part.Extension g e = absurd (false≢true e)
local_particle part.List g e = absurd (false≢true e)
local_particle part.Union g e = absurd (false≢true e)
local_particle part.AttributeGroup g e = absurd (false≢true e)
local_particle part.AnyAttribute g e = absurd (false≢true e)
local_particle part.Enumeration g e = absurd (false≢true e)
local_particle part.Pattern g e = absurd (false≢true e)
local_particle part.MinInclusive g e = absurd (false≢true e)
local_particle part.MinExclusive g e = absurd (false≢true e)
local_particle part.MaxInclusive g e = absurd (false≢true e)
local_particle part.MaxExclusive g e = absurd (false≢true e)
local_particle part.PlainFacet g e = absurd (false≢true e)
local_particle part.Identity g e = absurd (false≢true e)
local_particle part.Selector g e = absurd (false≢true e)
local_particle part.Field g e = absurd (false≢true e)
local_particle part.Other g e = absurd (false≢true e)

-- what stands within an element that another holds
pub particle_held : (ns : List Node) (ps : List Part) (i c r : ℕ) → IsTree ns → IsHeldBy ns ps i c → is_among ps part.Annotation ≡ false → is_skipped ns i ≡ false → parent_at ns i ≡ Some r → is_among_at ns particles c ≡ true → is_kind kind.Particle ns c ≡ true
particle_held ns ps i c r tree h none free outer among =
    kind_free kind.Particle ns c (held_free ns ps i c tree h none free)
    (ap (λ g. particle_test (part_at ns c) g (is_part part.Group (holder ns c))) (held_local ns i c r h.parent outer)
    ∙ local_particle (part_at ns c) (is_part part.Group (holder ns c)) among)

-- a particle stands within another element
pub not_root : (ns : List Node) (i : ℕ) (test : Part → Bool) → IsTree ns → i < length ns → test (part_at ns i) ≡ true → test part.Schema ≡ false → (r : ℕ) × (parent_at ns i ≡ Some r)
not_root ns i test tree less e none = by_parent (parent_at ns i) refl
  where
    by_parent : (o : Option ℕ) → parent_at ns i ≡ o → (r : ℕ) × (parent_at ns i ≡ Some r)
    by_parent (Some r) f = (r, f)
    by_parent None f = absurd (true≢false (sym e ∙ ap test (root_is_schema ns i tree less f) ∙ none))

pub particle_holder : (ns : List Node) (i : ℕ) → IsTree ns → i < length ns → is_kind kind.Particle ns i ≡ true → (r : ℕ) × (parent_at ns i ≡ Some r)
particle_holder ns i tree less e =
    not_root ns i (λ q. particle_test q (is_global ns i) (is_part part.Group (holder ns i))) tree less (kind_parts kind.Particle ns i e).1 refl

-- ---- how often it stands
kept_order : (least most : ℕ) → least ≤ most → kept least ≤ kept most
kept_order least most le = elim (cases_Bool (nat_lt most (2 ^ 32 - 1))) [
  | inl few ↦
      let most_few : most < 2 ^ 32 - 1 = ltb-true most (2 ^ 32 - 1) few in
      let m : kept most ≡ most = ap (λ b. cond b most (2 ^ 32 - 1)) few in
      let l : kept least ≤ least = kept_less least in
      omega (arith, m, l, le)
  | inr many ↦
      let m : kept most ≡ 2 ^ 32 - 1 = ap (λ b. cond b most (2 ^ 32 - 1)) many in
      let l : kept least ≤ 2 ^ 32 - 1 = kept_few least in
      omega (arith, m, l)
]
  where
    kept_less : (n : ℕ) → kept n ≤ n
    kept_less n = elim (cases_Bool (nat_lt n (2 ^ 32 - 1))) [
      | inl few ↦ let m : kept n ≡ n = ap (λ b. cond b n (2 ^ 32 - 1)) few in omega (arith, m)
      | inr many ↦
          let m : kept n ≡ 2 ^ 32 - 1 = ap (λ b. cond b n (2 ^ 32 - 1)) many in
          let le : 2 ^ 32 - 1 ≤ n = ltb-false n (2 ^ 32 - 1) many in
          omega (arith, m, le)
    ]

    kept_few : (n : ℕ) → kept n ≤ 2 ^ 32 - 1
    kept_few n = elim (cases_Bool (nat_lt n (2 ^ 32 - 1))) [
      | inl few ↦
          let m : kept n ≡ n = ap (λ b. cond b n (2 ^ 32 - 1)) few in
          let less : n < 2 ^ 32 - 1 = ltb-true n (2 ^ 32 - 1) few in
          omega (arith, m, less)
      | inr many ↦ let m : kept n ≡ 2 ^ 32 - 1 = ap (λ b. cond b n (2 ^ 32 - 1)) many in omega (arith, m)
    ]

told_bounds : (least : Option ℕ) (most : Option (Option ℕ)) → are_bad_bounds least most ≡ false → IsAtMost (least_told least) (most_told most)
told_bounds None most e = absurd (true≢false e)
told_bounds (Some least) None e = absurd (true≢false e)
told_bounds (Some least) (Some None) e = tt
told_bounds (Some least) (Some (Some most)) e = kept_order least most (ltb-false most least e)

bounds_by : (b : Bool) (least : Option ℕ) (most : Option (Option ℕ)) → (b && are_bad_bounds least most) ≡ false → IsAtMost (cond b (least_told least) 1) (cond b (most_told most) (Some 1))
bounds_by true least most e = told_bounds least most e
bounds_by false least most e = omega arith

pub bounds_fit : (joined : Bool) (ns : List Node) (i : ℕ) → IsFree joined ns i → IsAtMost (least_at ns i) (most_at ns i)
bounds_fit joined ns i free = bounds_by (is_particle ns i) (number_in (text_at ns attribute.MinOccurs i)) (most_in (text_at ns attribute.MaxOccurs i)) free.bad_bounds

-- ---- what it stands for
pub particle_within : (ns : List Node) (i : ℕ) → i < length ns → is_kind kind.Particle ns i ≡ true → place_of kind.Particle ns i < length (particles_of ns)
particle_within ns i less e = listing_within (particle ns) (is_kind kind.Particle ns) ns i less e

pub group_within : (ns : List Node) (i : ℕ) → i < length ns → is_kind kind.Group ns i ≡ true → place_of kind.Group ns i < length (groups_of ns)
group_within ns i less e = listing_within (group_decl ns) (is_kind kind.Group ns) ns i less e

-- those within it
pub within_fit : (ns : List Node) (p : Parts) (i : ℕ) → IsTree ns → length p.particles ≡ length (particles_of ns) → i < length ns → is_kind kind.Particle ns i ≡ true → All (IsWithin (place_of kind.Particle ns i) (length p.particles)) (within ns i)
within_fit ns p i tree count less e =
    let outer = particle_holder ns i tree less e in
    all_listed (place_of kind.Particle ns) (is_child ns particles i) (IsWithin (place_of kind.Particle ns i) (length p.particles)) ns
    (λ c inside is_its.
    let h : IsHeldBy ns particles i c = held_by ns particles i c inside is_its in
    let kind_c = particle_held ns particles i c outer.0 tree h refl (kind_parts kind.Particle ns i e).0 outer.1 h.among in
    let behind = held_behind ns particles i c tree h in
    let there = particle_within ns c inside kind_c in
    (count_less (is_kind kind.Particle ns) i c e behind, omega (arith, there, count)))

-- the element that it is or refers to
element_there : (joined : Bool) (ns : List Node) (i : ℕ) → IsTree ns → IsFree joined ns i → i < length ns → is_skipped ns i ≡ false → is_at ns part.Element i ≡ true → (element_meant ns i < length ns) × (is_kind kind.Element ns (element_meant ns i) ≡ true)
element_there joined ns i tree free less outer e = elim (cases_Bool (refers ns i)) [
  | inl told ↦
      let found = element_referred joined ns i free (part_told ns part.Element i e) told in
      let global = text_names_global ns elements i (text_at ns attribute.Ref i) found.0 found.1 in
      let meant : element_meant ns i ≡ found.0 = ap (λ b. cond b (or_zero (text_names ns elements i (text_at ns attribute.Ref i))) i) told ∙ ap or_zero found.1 in
      rw meant (global.there, element_kind ns found.0 tree global)
  | inr own ↦
      let meant : element_meant ns i ≡ i = ap (λ b. cond b (or_zero (text_names ns elements i (text_at ns attribute.Ref i))) i) own in
      rw meant (less, kind_free kind.Element ns i outer (and_from (is_at ns part.Element i) (not (refers ns i)) e (ap not own)))
]

-- a group that is a particle is none that is declared
local_group : (ns : List Node) (i : ℕ) → part_at ns i ≡ part.Group → is_particle_node ns i ≡ true → is_global ns i ≡ false
local_group ns i e passes = elim (cases_Bool (is_global ns i)) [
  | inl global ↦
      absurd (false≢true
      (sym (ap (λ g. particle_test (part_at ns i) g (is_part part.Group (holder ns i))) global ∙ ap (λ (q : Part). particle_test q true (is_part part.Group (holder ns i))) e) ∙ passes))
  | inr local ↦ local
]

group_there : (joined : Bool) (ns : List Node) (i : ℕ) → IsTree ns → IsFree joined ns i → is_kind kind.Particle ns i ≡ true → is_at ns part.Group i ≡ true → (group_meant ns i < length ns) × (is_kind kind.Group ns (group_meant ns i) ≡ true)
group_there joined ns i tree free passes e =
    let q = part_told ns part.Group i e in
    let found = group_referred joined ns i free q (local_group ns i q (kind_parts kind.Particle ns i passes).1) in
    let global = text_names_global ns groups i (text_at ns attribute.Ref i) found.0 found.1 in
    let meant : group_meant ns i ≡ found.0 = ap or_zero found.1 in
    rw meant (global.there, group_kind ns found.0 tree global)

pub term_fits : (joined : Bool) (ns : List Node) (p : Parts) (i : ℕ) → IsTree ns → IsFree joined ns i → length p.elements ≡ length (elements_of ns) → length p.groups ≡ length (groups_of ns) → length p.particles ≡ length (particles_of ns) → i < length ns → is_kind kind.Particle ns i ≡ true → IsTerm p (place_of kind.Particle ns i) (term_at ns i)
term_fits joined ns p i tree free element_count group_count particle_count less e =
    let Good = IsTerm p (place_of kind.Particle ns i) in
    let rest = within_fit ns p i tree particle_count less e in
    by_test Good (is_at ns part.Element i) _ _
    (λ is_it. let there = element_there joined ns i tree free less (kind_parts kind.Particle ns i e).0 is_it in let below = element_within ns (element_meant ns i) there.0 there.1 in omega (arith, below, element_count))
    (λ n. by_test Good (is_at ns part.Group i) _ _
    (λ is_it. let there = group_there joined ns i tree free e is_it in let below = group_within ns (group_meant ns i) there.0 there.1 in omega (arith, below, group_count))
    (λ n. by_test Good (is_at ns part.Any i) _ _ (λ is_it. tt) (λ n. by_test Good (is_at ns part.Choice i) _ _ (λ is_it. rest) (λ n. rest))))

pub particle_fits : (joined : Bool) (ns : List Node) (p : Parts) (i : ℕ) → IsTree ns → IsFree joined ns i → length p.elements ≡ length (elements_of ns) → length p.groups ≡ length (groups_of ns) → length p.particles ≡ length (particles_of ns) → i < length ns → is_kind kind.Particle ns i ≡ true → IsParticle p (place_of kind.Particle ns i) (particle ns i)
particle_fits joined ns p i tree free element_count group_count particle_count less e = record {
  term_is = term_fits joined ns p i tree free element_count group_count particle_count less e;
  bounds = bounds_fit joined ns i free;
}

-- ---- all of them
each_particle : (p : Parts) (place : ℕ) (xs : List Particle) → EachAt (IsParticle p) place xs → AreParticles p place xs
each_particle p place [] h = tt
each_particle p place (x ∷ xs) h = (h.0, each_particle p (suc place) xs h.1)

pub particles_fit : (joined : Bool) (ns : List Node) (p : Parts) → IsTree ns → AllFree joined ns → length p.elements ≡ length (elements_of ns) → length p.groups ≡ length (groups_of ns) → length p.particles ≡ length (particles_of ns) → AreParticles p 0 (particles_of ns)
particles_fit joined ns p tree free element_count group_count particle_count =
    each_particle p 0 (particles_of ns)
    (each_listed (particle ns) (is_kind kind.Particle ns) (IsParticle p) ns
    (λ i less e. particle_fits joined ns p i tree (free i less (kind_parts kind.Particle ns i e).0) element_count group_count particle_count less e))

-- ---- the particle of a group or type
below_model : (ns : List Node) (o : Option ℕ) → ((c : ℕ) → o ≡ Some c → (c < length ns) × (is_kind kind.Particle ns c ≡ true)) → IsBelow (length (particles_of ns)) (option_map (place_of kind.Particle ns) o)
below_model ns None h = tt
below_model ns (Some c) h = let there = h c refl in particle_within ns c there.0 there.1

-- a group of elements is one of the particles
model_particle : (q : Part) → is_among model_groups q ≡ true → is_among particles q ≡ true
model_particle q e = elim (or_cases (is_part q part.Group) (is_among (part.All ∷ part.Choice ∷ part.Sequence ∷ []) q) e) [
  | inl is_group ↦ ap (is_among particles) (same_part q part.Group is_group)
  | inr more ↦ elim (or_cases (is_part q part.All) (is_among (part.Choice ∷ part.Sequence ∷ []) q) more) [
    | inl is_all ↦ ap (is_among particles) (same_part q part.All is_all)
    | inr last ↦ elim (or_cases (is_part q part.Choice) (is_among (part.Sequence ∷ []) q) last) [
      | inl is_choice ↦ ap (is_among particles) (same_part q part.Choice is_choice)
      | inr left ↦ elim (or_cases (is_part q part.Sequence) false left) [
        | inl is_sequence ↦ ap (is_among particles) (same_part q part.Sequence is_sequence)
        | inr none ↦ absurd (false≢true none)
      ]
    ]
  ]
]

pub model_fits : (ns : List Node) (i r : ℕ) → IsTree ns → is_skipped ns i ≡ false → parent_at ns i ≡ Some r → IsBelow (length (particles_of ns)) (model_at ns i)
model_fits ns i r tree free outer =
    below_model ns (child ns model_groups i)
    (λ c e.
    let h = child_held ns model_groups i c e in
    (h.there, particle_held ns model_groups i c r tree h refl free outer (model_particle (part_at ns c) h.among)))

pub group_fits : (ns : List Node) (i : ℕ) → IsTree ns → is_kind kind.Group ns i ≡ true → IsBelow (length (particles_of ns)) (model_at ns i)
group_fits ns i tree e =
    let parts = kind_parts kind.Group ns i e in
    let both = and_parts (is_at ns part.Group i) (is_global ns i) parts.1 in
    let up = global_parent ns i both.1 in
    model_fits ns i up.0 tree parts.0 up.1

pub groups_fit : (ns : List Node) (n : ℕ) → IsTree ns → n ≡ length (particles_of ns) → All (λ g. IsBelow n g.particle) (groups_of ns)
groups_fit ns n tree e = rw e (all_listed (group_decl ns) (is_kind kind.Group ns) (λ (g : Group). IsBelow (length (particles_of ns)) g.particle) ns (λ i less is_it. group_fits ns i tree is_it))
