-- The groups of elements that groups of elements name: each path along them ends.
use Rattle.std.proofs.Common.{◌≡◌, ℕ, zero, suc, ◌<◌, Bool, true, false, ◌||◌, ◌&&◌, not, Option, Some, None, option_map, option_to_list, List, [], ◌∷◌, length, refl, sym, ap, ◌∙◌, true≢false, eq-eqb}
use Rattle.std.specs.List.{flat_map, list_all, slice_get}
use Rattle.std.proofs.lemmas.Bool.{and_from, and_parts, cond-false, cond-true, cond_both, false≢true, or_right}
use Rattle.xsd_model.specs.Parts.{Parts, all_end, groups_at, named_by, named_within, particle_in}
use Rattle.xsd_model.specs.declared.parts.Group.{Group}
use Rattle.xsd_model.specs.declared.parts.Particle.{Particle}
use Rattle.xsd_model.specs.declared.parts.Term.{Term}
use Rattle.xsd_tree.specs.Trees.{IsTree}
use Rattle.xsd_tree.specs.declared.node.Node.{Node}
use Rattle.xsd_nodes.specs.Nodes.{child, holder, is_among_at, is_at, is_global, is_place, is_skipped, outwards, parent_at, part_at, text_at}
use Rattle.xsd_nodes.specs.PartNames.{is_among, is_part}
use Rattle.xsd_nodes.specs.declared.attribute_name.AttributeName.TheVariants as attribute
use Rattle.xsd_nodes.specs.declared.part.Part.TheVariants as part
use Rattle.xsd_components.specs.References.{groups}
use Rattle.xsd_contents.specs.Contents.{model_groups, particles}
use Rattle.xsd_declared.specs.Decls.{or_zero}
use Rattle.xsd_particles.specs.Particles.{group_decl, group_meant, groups_of, least_at, most_at, particle, particles_of, within}
use Rattle.xsd_paths.specs.Paths.{is_whole_within, leads_to}
use Rattle.xsd_paths.proofs.Within.{is_led}
use Rattle.xsd_places.specs.Kinds.{is_kind, place_of}
use Rattle.xsd_places.specs.declared.kind.Kind.TheVariants as kind
use Rattle.xsd_steps.specs.Groups.{behind_first, group_named, groups_named, leads_up, names_group}
use Rattle.xsd_steps.specs.Table.{models, owner}
use Rattle.xsd_steps.proofs.Groups.{group_alone, leads, no_model, number_is}
use Rattle.xsd_steps.proofs.LiesIn.{owner_is, owner_up}
use Rattle.xsd_schema.proofs.Counted.{listing_at}
use Rattle.xsd_schema.proofs.Ends.{GoesOn, IsOne, all_flat, each_ends, one_passing}
use Rattle.xsd_schema.proofs.Held.{IsHeldBy, among_not, child_held, held_free}
use Rattle.xsd_schema.proofs.Named.{group_kind, kind_free, kind_parts, text_names_global}
use Rattle.xsd_schema.proofs.Stays.{all_children, turned, turned_not}
use Rattle.xsd_schema.proofs.Steps.{AreSure, global_has, has_parent, not_global}
use Rattle.xsd_schema.proofs.Sure.{among_more}

-- ---- what is a particle
particle_shape : (e g a m any h : Bool) → (e || (g || (a || m))) ≡ true → (a ≡ true → any ≡ true) → (((((e || (g || false)) && true) || any) || (m && h)) || m) ≡ true
particle_shape true g a m any h e f = refl
particle_shape false true a m any h e f = refl
particle_shape false false true m any h e f = ap (λ b. (b || (m && h)) || m) (f refl)
particle_shape false false false true any h e f = or_right (any || h) true refl
particle_shape false false false false any h e f = absurd (false≢true e)

particle_kind : (ns : List Node) (j : ℕ) → is_skipped ns j ≡ false → is_global ns j ≡ false → is_among_at ns particles j ≡ true → is_kind kind.Particle ns j ≡ true
particle_kind ns j free local among =
    let p = part_at ns j in
    let sorted : is_among_at ns (part.Element ∷ part.Group ∷ part.Any ∷ models) j ≡ true = among_more ns particles (part.Element ∷ part.Group ∷ part.Any ∷ models) j refl among in
    let others = not (is_part part.Group (holder ns j)) in
    kind_free kind.Particle ns j free
    (ap (λ b. ((((is_among (part.Element ∷ part.Group ∷ []) p && not b) || is_at ns part.Any j) || (is_among models p && others)) || is_among models p)) local
    ∙ particle_shape (is_part p part.Element) (is_part p part.Group) (is_part p part.Any) (is_among models p) (is_at ns part.Any j) others sorted (turned part.Any p))

-- one that is no element, group or wildcard
model_shape : (e g n a m h : Bool) → e ≡ false → g ≡ false → a ≡ false → (((((e || (g || false)) && n) || a) || (m && h)) || m) ≡ true → m ≡ true
model_shape true g n a m h e f k all = absurd (true≢false e)
model_shape false true n a m h e f k all = absurd (true≢false f)
model_shape false false n true m h e f k all = absurd (true≢false k)
model_shape false false n false true h e f k all = refl
model_shape false false n false false h e f k all = all

is_model : (ns : List Node) (c : ℕ) → is_kind kind.Particle ns c ≡ true → is_at ns part.Element c ≡ false → is_at ns part.Group c ≡ false → is_at ns part.Any c ≡ false → is_among_at ns models c ≡ true
is_model ns c k e g a =
    let p = part_at ns c in
    model_shape (is_part p part.Element) (is_part p part.Group) (not (is_global ns c)) (is_at ns part.Any c) (is_among models p) (not (is_part part.Group (holder ns c)))
    (turned_not p part.Element e) (turned_not p part.Group g) a (kind_parts kind.Particle ns c k).1

-- ---- what lies in a group
record IsIn (ns : List Node) (i c : ℕ) : Type 0 where
  there : c < length ns
  free : is_skipped ns c ≡ false
  kind : is_kind kind.Particle ns c ≡ true
  owner : owner ns c ≡ Some i

-- the group that holds it
record IsHolder (ns : List Node) (i : ℕ) : Type 0 where
  free : is_skipped ns i ≡ false
  group : is_at ns part.Group i ≡ true
  global : is_global ns i ≡ true

model_in : (ns : List Node) (i c : ℕ) → IsTree ns → IsHolder ns i → IsHeldBy ns model_groups i c → IsIn ns i c
model_in ns i c tree h held =
    let free = held_free ns model_groups i c tree held refl h.free in
    record {
      there = held.there;
      free = free;
      kind = particle_kind ns c free (not_global ns c i held.parent (global_has ns i h.global)) (among_more ns model_groups particles c refl held.among);
      owner = owner_is ns c tree held.there ∙ ap (owner_up ns) held.parent ∙ cond-false (is_among_at ns models i) (owner ns i) (Some i) (no_model ns i (number_is ns i h.group));
    }

deeper : (ns : List Node) (i c j : ℕ) → IsTree ns → IsIn ns i c → is_among_at ns models c ≡ true → IsHeldBy ns particles c j → IsIn ns i j
deeper ns i c j tree h m held =
    let free = held_free ns particles c j tree held refl h.free in
    let up = has_parent ns c (parent_at ns c) tree h.there (among_not ns models part.Schema c m refl) refl in
    record {
      there = held.there;
      free = free;
      kind = particle_kind ns j free (not_global ns j c held.parent up) held.among;
      owner = owner_is ns j tree held.there ∙ ap (owner_up ns) held.parent ∙ cond-true (is_among_at ns models c) (owner ns c) (Some c) m ∙ h.owner;
    }

-- ---- where it leads
names_it : (ns : List Node) (i c : ℕ) → IsHolder ns i → IsIn ns i c → is_at ns part.Group c ≡ true → names_group ns i c ≡ true
names_it ns i c h inside g =
    let around = behind_first (outwards ns c) in
    and_from (is_at ns part.Group c) (leads_up ns i around) g
    (leads ns i (no_model ns i (number_is ns i h.group)) around ∙ ap (is_place i) inside.owner ∙ eq-eqb i i refl)

-- the test holds of the places of all groups that have shorter paths
abbrev Passes : List Node → ℕ → (ℕ → Bool) → Type 0
Passes ns n test = (j : ℕ) → IsOne kind.Group ns n j → test (place_of kind.Group ns j) ≡ true

named_on : (ns : List Node) (n c : ℕ) (test : ℕ → Bool) → IsTree ns → leads_to (is_whole_within n ns) (group_named ns c) ≡ true → Passes ns n test → test (place_of kind.Group ns (group_meant ns c)) ≡ true
named_on ns n c test tree whole passes =
    let led = is_led (is_whole_within n ns) (group_named ns c) whole in
    let global = text_names_global ns groups c (text_at ns attribute.Ref c) led.0 led.1 in
    ap (λ o. test (place_of kind.Group ns (or_zero o))) led.1
    ∙ passes led.0 (record { there = global.there; kind = group_kind ns led.0 tree global; whole = led.2 })

-- of a particle, by its term
abbrev with_term : List Node → ℕ → Term → Particle
with_term ns c t = record { least = least_at ns c; most = most_at ns c; term = t }

by_terms : (ns : List Node) (test : ℕ → Bool) (w : ℕ → List ℕ) (c : ℕ) → is_kind kind.Particle ns c ≡ true → (is_at ns part.Group c ≡ true → test (place_of kind.Group ns (group_meant ns c)) ≡ true) → (is_among_at ns models c ≡ true → list_all test (flat_map w (within ns c)) ≡ true) → list_all test (named_by w (Some (particle ns c))) ≡ true
by_terms ns test w c k named_one inner =
    let P = λ (t : Term). list_all test (named_by w (Some (with_term ns c t))) ≡ true in
    cond_both (is_at ns part.Element c) _ _ P (λ e. refl)
    (λ e. cond_both (is_at ns part.Group c) _ _ P (λ g. and_from (test (place_of kind.Group ns (group_meant ns c))) true (named_one g) refl)
    (λ g. cond_both (is_at ns part.Any c) _ _ P (λ a. refl)
    (λ a. cond_both (is_at ns part.Choice c) _ _ P (λ x. inner (is_model ns c k e g a)) (λ x. inner (is_model ns c k e g a)))))

particle_on : (m : ℕ) (ns : List Node) (n i c : ℕ) (test : ℕ → Bool) → IsTree ns → IsHolder ns i → list_all (leads_to (is_whole_within n ns)) (groups_named ns i) ≡ true → Passes ns n test → IsIn ns i c → list_all test (named_within m (particles_of ns) (place_of kind.Particle ns c)) ≡ true
particle_on zero ns n i c test tree h all passes inside = refl
particle_on (suc m) ns n i c test tree h all passes inside =
    let w = named_within m (particles_of ns) in
    ap (λ o. list_all test (named_by w o)) (listing_at (particle ns) (is_kind kind.Particle ns) ns c inside.there inside.kind)
    ∙ by_terms ns test w c inside.kind
    (λ g. named_on ns n c test tree (one_passing (leads_to (is_whole_within n ns)) (group_named ns) (names_group ns i) ns c all inside.there (names_it ns i c h inside g)) passes)
    (λ s. all_flat test w (within ns c) (all_children (λ q. list_all test (w q)) (place_of kind.Particle ns) ns particles c (λ j held. particle_on m ns n i j test tree h all passes (deeper ns i c j tree inside s held))))

-- ---- from a group
abbrev leads_in : List Node → Option Group → List ℕ
leads_in ns o = flat_map (named_within (length (particles_of ns)) (particles_of ns)) (particle_in o)

model_on : (ns : List Node) (n i : ℕ) (test : ℕ → Bool) (o : Option ℕ) → IsTree ns → IsHolder ns i → list_all (leads_to (is_whole_within n ns)) (groups_named ns i) ≡ true → Passes ns n test → child ns model_groups i ≡ o → list_all test (flat_map (named_within (length (particles_of ns)) (particles_of ns)) (option_to_list (option_map (place_of kind.Particle ns) o))) ≡ true
model_on ns n i test None tree h all passes e = refl
model_on ns n i test (Some c) tree h all passes e =
    let w = named_within (length (particles_of ns)) (particles_of ns) in
    let place = place_of kind.Particle ns c in
    all_flat test w (place ∷ []) (and_from (list_all test (w place)) true (particle_on (length (particles_of ns)) ns n i c test tree h all passes (model_in ns i c tree h (child_held ns model_groups i c e))) refl)

groups_go_on : (ns : List Node) → IsTree ns → GoesOn kind.Group ns (group_decl ns) (leads_in ns)
groups_go_on ns tree n i test h passes =
    let parts = kind_parts kind.Group ns i h.kind in
    let node = and_parts (is_at ns part.Group i) (is_global ns i) parts.1 in
    let this : IsHolder ns i = record { free = parts.0; group = node.0; global = node.1 } in
    let all = sym (ap (list_all (leads_to (is_whole_within n ns))) (group_alone ns i node.0 ∙ cond-true (is_global ns i) _ _ node.1)) ∙ h.whole in
    model_on ns n i test (child ns model_groups i) tree this all passes refl

pub groups_end : (ns : List Node) (p : Parts) → IsTree ns → AreSure ns → p.groups ≡ groups_of ns → p.particles ≡ particles_of ns → (place : ℕ) → place < length p.groups → (n : ℕ) × (all_end (groups_at p) n place ≡ true)
groups_end ns p tree sure e f place less =
    let ends = each_ends kind.Group ns (group_decl ns) (leads_in ns) (groups_go_on ns tree) tree sure place (rw (sym e) less) in (
      ends.0,
      ap (λ (gs : List Group). all_end (λ (q : ℕ). flat_map (named_within (length p.particles) p.particles) (particle_in (slice_get gs q))) ends.0 place) e
          ∙ ap (λ (ps : List Particle). all_end (λ (q : ℕ). flat_map (named_within (length ps) ps) (particle_in (slice_get (groups_of ns) q))) ends.0 place) f
          ∙ ends.1,
    )
