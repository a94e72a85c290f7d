-- What is read by the steps of a type's grammar before it is normal: what is declared, and what wildcards list.
use Rattle.std.proofs.Common.{◌≡◌, ◌⊎◌, inl, inr, ℕ, zero, suc, ◌+◌, ◌<◌, ◌&&◌, Bool, true, false, bytes_eq, if◌then◌else◌, Option, Some, None, List, [], ◌∷◌, ◌++◌, All, length, map, slice_get, flat_map, refl, subst, arith}
use Rattle.std.specs.Prelude.{◌==◌}
use Rattle.std.proofs.lemmas.Bool.{and_from, eq-eqb}
use Rattle.std.proofs.lemmas.List.Elements.{All-append, All-cons, All-head, All-nil, All-tail}
use Rattle.std.proofs.lemmas.Option.{slice_get_within}
use Rattle.std.proofs.lemmas.Slice.Eq.{bytes_eq-Decides}
use Rattle.exi_draft.specs.Drafts.{States}
use Rattle.exi_gram.specs.Schemas.{Stands}
use Rattle.exi_gram.specs.Terminals.{Symbol, at_any, ch, ch_text, ee, se_any}
use Rattle.xsd_model.specs.declared.parts.AttributeDecl.{AttributeDecl}
use Rattle.xsd_model.specs.declared.parts.Complex.{Complex}
use Rattle.xsd_model.specs.declared.parts.ElementDecl.{ElementDecl}
use Rattle.xsd_model.specs.declared.parts.Group.{Group}
use Rattle.xsd_model.specs.declared.parts.Particle.{Particle}
use Rattle.xsd_model.specs.declared.parts.Term.{Term}
use Rattle.xsd_model.specs.declared.parts.Term.TheVariants as term
use Rattle.xsd_model.specs.declared.parts.TypeBody.{TypeBody}
use Rattle.xsd_model.specs.declared.parts.TypeBody.TheVariants as body
use Rattle.xsd_model.specs.declared.parts.TypeDef.{TypeDef}
use Rattle.xsd_model.specs.declared.parts.Wild.{Wild}
use Rattle.xsd_model.specs.declared.parts.Wild.TheVariants as wild
use Rattle.xsd_model.specs.Parts.{Parts}
use Rattle.exi_elements.specs.StandIns.{first_alike, opener, opens_alike, same_flag, stand_ins}
use Rattle.exi_inherited.specs.Contents.{Whole, content_of, elements, value}
use Rattle.exi_inherited.specs.declared.uses.Use.{Use}
use Rattle.exi_inherited.specs.Uses.{uses_of}
use Rattle.exi_proto.specs.Pieces.{Piece, copied, empty_states, ending, reading, sequence}
use Rattle.exi_proto.specs.Protos.{any_draft, any_empty_draft, any_pieces, attribute_states, attribute_steps, complex_draft, content_states, draft_of_type, end_unless, group_piece, in_each_from, last_wild, of_each_uri, one_of_them, opening, opening_piece, particle_piece, piece_of, piece_within, representation_of, term_piece, use_states, value_states, wild_piece, wild_steps}
use Rattle.exi_vocabulary.specs.FirstNames.{declared_names, first_names_of, particle_uris, type_uris, wild_uris, wild_uris_of}
use Rattle.exi_compiled.proofs.Good.{HasNames, HasUri, IsGood, any_good, at_any_good, at_good, at_in_good, ch_good, ee_good, se_good, se_in_good, text_good}
use Rattle.exi_compiled.proofs.Lists.{at_place, cases_Option, before, in_flat_back, one, past, three, two}
use Rattle.exi_compiled.proofs.Normal.{OfStates, OfStep}
use Rattle.exi_compiled.proofs.Steps.{OfPieces, choice_is, copied_is, empty_is, joined_all_is, reading_one_is, sequence_is, with_text_is}

-- ---- what opens an element
flag_self : (b : Bool) → same_flag b b ≡ true
flag_self true = refl
flag_self false = refl

alike_self : (e : ElementDecl) → opens_alike e e ≡ true
alike_self e =
    and_from (bytes_eq e.name.local e.name.local) (bytes_eq e.name.uri e.name.uri && (e.of == e.of && same_flag e.nillable e.nillable))
    ((bytes_eq-Decides e.name.local e.name.local).1 refl)
    (and_from (bytes_eq e.name.uri e.name.uri) (e.of == e.of && same_flag e.nillable e.nillable)
    ((bytes_eq-Decides e.name.uri e.name.uri).1 refl)
    (and_from (e.of == e.of) (same_flag e.nillable e.nillable) (eq-eqb e.of e.of refl) (flag_self e.nillable)))

alike_below : (from place : ℕ) (e : ElementDecl) (es : List ElementDecl) → slice_get es place ≡ Some e → first_alike from e es < from + length es
alike_below from place e [] there = absurd cc
alike_below from zero e (d ∷ ds) there =
    let same : opens_alike e d ≡ true = subst (λ (x : ElementDecl). opens_alike e x ≡ true) (let is : e ≡ d = cc in is) (alike_self e) in
    let less : from < from + length (d ∷ ds) = omega arith in
    rw same less
alike_below from (suc place) e (d ∷ ds) there = by (opens_alike e d) (alike_below (suc from) place e ds there)
  where
    by : (b : Bool) → first_alike (suc from) e ds < suc from + length ds → (if b then from else first_alike (suc from) e ds) < from + length (d ∷ ds)
    by true h = omega arith
    by false h = omega arith

pub opener_below : (p : Parts) (place : ℕ) → place < length p.elements → opener p place < length p.elements
opener_below p place less = elim (cases_Option (slice_get p.elements place)) [
  | inl e ↦ rw e less
  | inr w ↦
      let below : first_alike 0 w.0 p.elements < 0 + length p.elements = alike_below 0 place w.0 p.elements w.1 in
      let is : first_alike 0 w.0 p.elements < length p.elements = omega (arith, below) in
      rw w.1 is
]

cases_Body : (b : TypeBody) → ((form : ℕ) × (union : Bool) × (b ≡ body.Simple form union)) ⊎ (((complex : Complex) × (b ≡ body.Complex complex)) ⊎ (b ≡ body.Ur))
cases_Body (body.Simple form union) = inl (form, union, refl)
cases_Body (body.Complex complex) = inr (inl (complex, refl))
cases_Body body.Ur = inr (inr refl)

module _ (p : Parts) (names : HasNames p) where
  abbrev Below : ℕ → Type 0
  Below place = place < length p.elements

  abbrev G : Symbol → Option ℕ → Type 0
  G = IsGood p Below

  abbrev at_end : G ee None
  at_end = ee_good p Below

  abbrev Uris : List (List ℕ) → Type 0
  Uris uris = All (HasUri p) uris

  -- ---- elements
  opening_is : (place : ℕ) → All (OfStep G) (opening p place)
  opening_is place = elim (cases_Option (slice_get p.elements place)) [
    | inl e ↦ rw e (All-nil (OfStep G))
    | inr w ↦
        let is : opener p place < length p.elements = opener_below p place (slice_get_within p.elements place w.0 w.1) in
        let stands = at_place (λ (e : ElementDecl). Stands (first_names_of p) e.name) p.elements place w.0 names.elements w.1 in
        rw w.1 (one (OfStep G) _ (se_good p Below w.0.name (opener p place) stands is))
  ]

  opening_pieces_is : (xs : List ℕ) → OfPieces G at_end (map (opening_piece p) xs)
  opening_pieces_is [] = All-nil (λ (x : Piece). OfStates G x.states)
  opening_pieces_is (x ∷ xs) = All-cons (λ (x : Piece). OfStates G x.states) (opening_piece p x) (map (opening_piece p) xs) (reading_one_is G at_end (opening p x) (opening_is x)) (opening_pieces_is xs)

  one_of_is : (xs : List Piece) → OfPieces G at_end xs → OfStates G (one_of_them xs).states
  one_of_is [] h = choice_is G at_end [] h
  one_of_is (x ∷ []) h = All-head (λ (x : Piece). OfStates G x.states) x [] h
  one_of_is (x ∷ (y ∷ ys)) h = choice_is G at_end (x ∷ y ∷ ys) h

  -- ---- wildcards for elements
  in_each_is : (n : ℕ) (uris : List (List ℕ)) → Uris uris → All (OfStep G) (in_each_from n uris)
  in_each_is n [] h = All-nil (OfStep G)
  in_each_is n (uri ∷ uris) h = All-cons (OfStep G) _ (in_each_from (suc n) uris) (se_in_good p Below uri (All-head (HasUri p) uri uris h)) (in_each_is (suc n) uris (All-tail (HasUri p) uri uris h))

  wild_is : (w : Wild) → Uris (wild_uris w) → OfStates G (wild_piece w).states
  wild_is wild.Any h = reading_one_is G at_end (reading se_any 1 ∷ []) (one (OfStep G) (reading se_any 1) (any_good p Below))
  wild_is (wild.Listed uris) h = reading_one_is G at_end (in_each_from 0 uris) (in_each_is 0 uris h)

  -- ---- particles
  abbrev Within : (ℕ → Piece) → Type 0
  Within within = (place : ℕ) → OfStates G (within place).states

  group_is : (within : ℕ → Piece) → Within within → (o : Option Group) → OfStates G (group_piece within o).states
  group_is within h None = sequence_is G at_end [] (All-nil (λ (x : Piece). OfStates G x.states))
  group_is within h (Some g) = elim (cases_Option g.particle) [
    | inl e ↦ rw e (sequence_is G at_end [] (All-nil (λ (x : Piece). OfStates G x.states)))
    | inr w ↦ rw w.1 (h w.0)
  ]

  pieces_within : (within : ℕ → Piece) → Within within → (places : List ℕ) → OfPieces G at_end (map within places)
  pieces_within within h [] = All-nil (λ (x : Piece). OfStates G x.states)
  pieces_within within h (x ∷ xs) = All-cons (λ (x : Piece). OfStates G x.states) (within x) (map within xs) (h x) (pieces_within within h xs)

  -- by what a term lists
  abbrev term_uris : Term → List (List ℕ)
  term_uris (term.Element element) = []
  term_uris (term.Group group) = []
  term_uris (term.Sequence places) = []
  term_uris (term.Choice places) = []
  term_uris (term.Wild wild) = wild_uris wild

  particle_lists : (x : Particle) (t : Term) → x.term ≡ t → particle_uris x ≡ term_uris t
  particle_lists x (term.Element element) e = rw e refl
  particle_lists x (term.Group group) e = rw e refl
  particle_lists x (term.Sequence places) e = rw e refl
  particle_lists x (term.Choice places) e = rw e refl
  particle_lists x (term.Wild wild) e = rw e refl

  term_is : (within : ℕ → Piece) → Within within → (t : Term) → Uris (term_uris t) → OfStates G (term_piece p within t).states
  term_is within h (term.Element element) u = one_of_is (map (opening_piece p) (stand_ins p element)) (opening_pieces_is (stand_ins p element))
  term_is within h (term.Group group) u = group_is within h (slice_get p.groups group)
  term_is within h (term.Sequence places) u = sequence_is G at_end (map within places) (pieces_within within h places)
  term_is within h (term.Choice places) u = choice_is G at_end (map within places) (pieces_within within h places)
  term_is within h (term.Wild wild) u = wild_is wild u

  particle_told : (place : ℕ) (x : Particle) → slice_get p.particles place ≡ Some x → Uris (particle_uris x)
  particle_told place x e =
      let uris = past (HasUri p) (p.target ∷ []) _ names.uris in
      let behind = past (HasUri p) (map (λ n. n.uri) (declared_names p)) _ uris in
      let last = past (HasUri p) (flat_map type_uris p.types) (flat_map particle_uris p.particles) behind in
      in_flat_back (HasUri p) particle_uris p.particles place x last e

  particle_is : (within : ℕ → Piece) → Within within → (o : Option Particle) → ((x : Particle) → o ≡ Some x → Uris (particle_uris x)) → OfStates G (particle_piece p within o).states
  particle_is within h None u = sequence_is G at_end [] (All-nil (λ (x : Piece). OfStates G x.states))
  particle_is within h (Some x) u = copied_is G at_end x.least x.most (term_piece p within x.term) (term_is within h x.term (subst Uris (particle_lists x x.term refl) (u x refl)))

  piece_is : (n place : ℕ) → OfStates G (piece_within n p place).states
  piece_is zero place = sequence_is G at_end [] (All-nil (λ (x : Piece). OfStates G x.states))
  piece_is (suc n) place = particle_is (piece_within n p) (piece_is n) (slice_get p.particles place) (particle_told place)

  -- ---- contents
  value_is : (place : ℕ) → OfStates G (value_states p place)
  value_is place = reading_one_is G at_end (reading (ch (representation_of p place)) 1 ∷ []) (one (OfStep G) (reading (ch (representation_of p place)) 1) (ch_good p Below (representation_of p place)))

  any_is : (any : Bool) → OfPieces G at_end (any_pieces any)
  any_is true = one (λ (x : Piece). OfStates G x.states) (copied 0 None (wild_piece wild.Any)) (copied_is G at_end 0 None (wild_piece wild.Any) (wild_is wild.Any (All-nil (HasUri p))))
  any_is false = All-nil (λ (x : Piece). OfStates G x.states)

  content_is : (w : Whole) → OfStates G (content_states p w)
  content_is (value place) = value_is place
  content_is (elements any particles mixed) =
      with_text_is G at_end (text_good p Below) mixed (sequence (any_pieces any ++ map (piece_of p) particles)).states
      (sequence_is G at_end (any_pieces any ++ map (piece_of p) particles)
      (All-append (λ (x : Piece). OfStates G x.states) (any_pieces any) (map (piece_of p) particles) (any_is any) (pieces_within (piece_of p) (piece_is (suc (length p.particles))) particles)))

  -- ---- attributes
  each_uri_is : (uris : List (List ℕ)) → Uris uris → All (OfStep G) (of_each_uri uris)
  each_uri_is [] h = All-nil (OfStep G)
  each_uri_is (uri ∷ uris) h = All-cons (OfStep G) _ (of_each_uri uris) (at_in_good p Below uri (All-head (HasUri p) uri uris h)) (each_uri_is uris (All-tail (HasUri p) uri uris h))

  wild_steps_is : (w : Option Wild) → Uris (wild_uris_of w) → All (OfStep G) (wild_steps w)
  wild_steps_is None h = All-nil (OfStep G)
  wild_steps_is (Some wild.Any) h = one (OfStep G) (reading at_any 0) (at_any_good p Below)
  wild_steps_is (Some (wild.Listed uris)) h = each_uri_is uris h

  end_is : (required : Bool) → All (OfStep G) (end_unless required)
  end_is true = All-nil (OfStep G)
  end_is false = one (OfStep G) (ending 0) at_end

  attribute_is : (place : ℕ) → All (OfStep G) (attribute_steps p place)
  attribute_is place = elim (cases_Option (slice_get p.attributes place)) [
    | inl e ↦ rw e (All-nil (OfStep G))
    | inr w ↦
        let stands = at_place (λ (a : AttributeDecl). Stands (first_names_of p) a.name) p.attributes place w.0 names.attributes w.1 in
        rw w.1 (one (OfStep G) _ (at_good p Below w.0.name (representation_of p w.0.of) stands))
  ]

  use_is : (w : Option Wild) → Uris (wild_uris_of w) → (attribute : ℕ) (required : Bool) → OfStates G (use_states p w attribute required)
  use_is w h attribute required =
      reading_one_is G at_end (attribute_steps p attribute ++ (end_unless required ++ wild_steps w))
      (All-append (OfStep G) (attribute_steps p attribute) (end_unless required ++ wild_steps w) (attribute_is attribute) (All-append (OfStep G) (end_unless required) (wild_steps w) (end_is required) (wild_steps_is w h)))

  last_is : (w : Option Wild) → Uris (wild_uris_of w) → All (OfStates G) (last_wild w)
  last_is None h = All-nil (OfStates G)
  last_is (Some w) h =
      one (OfStates G) ((wild_steps (Some w) ++ ending 0 ∷ []) ∷ [])
      (one (All (OfStep G)) (wild_steps (Some w) ++ ending 0 ∷ []) (All-append (OfStep G) (wild_steps (Some w)) (ending 0 ∷ []) (wild_steps_is (Some w) h) (one (OfStep G) (ending 0) at_end)))

  uses_is : (w : Option Wild) → Uris (wild_uris_of w) → (us : List Use) → All (OfStates G) (map (λ u. use_states p w u.attribute u.required) us)
  uses_is w h [] = All-nil (OfStates G)
  uses_is w h (u ∷ us) = All-cons (OfStates G) (use_states p w u.attribute u.required) (map (λ (u : Use). use_states p w u.attribute u.required) us) (use_is w h u.attribute u.required) (uses_is w h us)

  attributes_is : (place : ℕ) (w : Option Wild) → Uris (wild_uris_of w) → All (OfStates G) (attribute_states p place w)
  attributes_is place w h = All-append (OfStates G) (map (λ (u : Use). use_states p w u.attribute u.required) (uses_of p place)) (last_wild w) (uses_is w h (uses_of p place)) (last_is w h)

  -- ---- types
  complex_is : (attributes : List States) (content : States) → All (OfStates G) attributes → OfStates G content → OfStates G (complex_draft attributes content).states
  complex_is attributes content h k = joined_all_is G at_end (attributes ++ content ∷ []) (All-append (OfStates G) attributes (content ∷ []) h (one (OfStates G) content k))

  any_draft_is : OfStates G any_draft.states
  any_draft_is =
      two (All (OfStep G)) (reading at_any 0 ∷ reading se_any 1 ∷ ending 0 ∷ reading ch_text 1 ∷ []) (reading se_any 1 ∷ ending 1 ∷ reading ch_text 1 ∷ [])
      (All-cons (OfStep G) (reading at_any 0) (reading se_any 1 ∷ ending 0 ∷ reading ch_text 1 ∷ []) (at_any_good p Below) (three (OfStep G) (reading se_any 1) (ending 0) (reading ch_text 1) (any_good p Below) at_end (text_good p Below)))
      (three (OfStep G) (reading se_any 1) (ending 1) (reading ch_text 1) (any_good p Below) at_end (text_good p Below))

  any_empty_is : OfStates G any_empty_draft.states
  any_empty_is = two (All (OfStep G)) (reading at_any 0 ∷ ending 0 ∷ []) (ending 1 ∷ []) (two (OfStep G) (reading at_any 0) (ending 0) (at_any_good p Below) at_end) (one (OfStep G) (ending 1) at_end)

  type_told : (place : ℕ) (t : TypeDef) → slice_get p.types place ≡ Some t → Uris (type_uris t)
  type_told place t e =
      let uris = past (HasUri p) (p.target ∷ []) _ names.uris in
      let behind = past (HasUri p) (map (λ n. n.uri) (declared_names p)) _ uris in
      let first = before (HasUri p) (flat_map type_uris p.types) (flat_map particle_uris p.particles) behind in
      in_flat_back (HasUri p) type_uris p.types place t first e

  type_lists : (t : TypeDef) (complex : Complex) → t.body ≡ body.Complex complex → type_uris t ≡ wild_uris_of complex.wild
  type_lists t complex e = rw e refl

  body_is : (place : ℕ) (empty : Bool) (t : TypeDef) → slice_get p.types place ≡ Some t → OfStates G (draft_of_type p place empty).states
  body_is place true t e = elim (cases_Body t.body) [
    | inl w ↦ rw (e, w.2) (complex_is [] empty_states (All-nil (OfStates G)) (empty_is G at_end))
    | inr (inl w) ↦
        let told : Uris (wild_uris_of w.0.wild) = subst Uris (type_lists t w.0 w.1) (type_told place t e) in
        rw (e, w.1) (complex_is (attribute_states p place w.0.wild) empty_states (attributes_is place w.0.wild told) (empty_is G at_end))
    | inr (inr u) ↦ rw (e, u) any_empty_is
  ]
  body_is place false t e = elim (cases_Body t.body) [
    | inl w ↦ rw (e, w.2) (complex_is [] (value_states p place) (All-nil (OfStates G)) (value_is place))
    | inr (inl w) ↦
        let told : Uris (wild_uris_of w.0.wild) = subst Uris (type_lists t w.0 w.1) (type_told place t e) in
        rw (e, w.1) (complex_is (attribute_states p place w.0.wild) (content_states p (content_of p place)) (attributes_is place w.0.wild told) (content_is (content_of p place)))
    | inr (inr u) ↦ rw (e, u) any_draft_is
  ]

  pub draft_is : (place : ℕ) (empty : Bool) → OfStates G (draft_of_type p place empty).states
  draft_is place empty = elim (cases_Option (slice_get p.types place)) [
    | inl e ↦ rw e (complex_is [] empty_states (All-nil (OfStates G)) (empty_is G at_end))
    | inr w ↦ body_is place empty w.0 w.1
  ]
