-- A name that was read stands in the tables.
use Rattle.std.proofs.Common.{◌≡◌, ℕ, ◌+◌, ◌-◌, ◌<◌, ◌⊎◌, inl, inr, Bool, true, false, cond, eqb, List, [], ◌∷◌, ◌++◌, get_or, length, Option, Some, None, refl, sym, ap, ◌∙◌, subst, arith}
use Rattle.std.specs.Prelude.{unwrap_or}
use Rattle.std.proofs.lemmas.List.{map-append}
use Rattle.std.proofs.lemmas.Option.{slice_get-get_or, slice_get_within}
use Rattle.exi_bits.specs.declared.align.Align.{Align}
use Rattle.exi_bits.specs.Bits.{Spot}
use Rattle.exi_bits.specs.declared.fault.Kind.TheVariants as kind
use Rattle.exi_bits.specs.Unsigned.{◌>>=◌, below_at, unsigned_at}
use Rattle.exi_items.specs.Charges.{Charged, after_text, text_charge}
use Rattle.exi_meter.specs.Metering.{Metering}
use Rattle.exi_tables.specs.Growth.{IsLeast, KeepsPlaces}
use Rattle.exi_tables.specs.Partitions.{Partitions, and_local, least_place, live_at, locals, locals_in, prefixes, uris, with_local, with_uri}
use Rattle.exi_tables.proofs.Growing.{changed_within, uris_changed}
use Rattle.exi_tables.proofs.Least.{least_found, least_none}
use Rattle.exi_text.specs.Literals.{chars_at}
use Rattle.exi_typed.specs.ReadStates.{ReadState, at_spot_of, failing}
use Rattle.exi_typed.specs.Continues.{NamesGoOnStanding, NamesStand, Stands}
use Rattle.exi_typed.specs.Strings.{Growth, Named, Partition, charged_at, hit_at, indexed_at, listed, literal_at, local_at, missed_at, name_at, name_under, place_in, placed_at, prefix_at, told_prefix, uri_at}
use Rattle.exi_typed.proofs.ContextItems.{context, bind_told, charged, read_state, some_is, told, told_is}

-- ---- places
-- some place has the text
abbrev StandsIn : List (List ℕ) → List ℕ → Type 0
StandsIn partition text = (place : ℕ) × (live_at partition place ≡ Some text)

-- then the least that has it is told
least_stands : (partition : List (List ℕ)) (text : List ℕ) → StandsIn partition text → IsLeast partition text (place_in partition text)
least_stands partition text s = told_by (least_place partition text) refl
  where
    told_by : (o : Option ℕ) → least_place partition text ≡ o → IsLeast partition text (unwrap_or o 0)
    told_by None e = absurd (least_none partition text s.0 e s.1)
    told_by (Some place) e = least_found partition text place e

at_the_end : (xs : List (List ℕ)) (x : List ℕ) → live_at (xs ++ x ∷ []) (length xs) ≡ Some x
at_the_end [] x = refl
at_the_end (y ∷ xs) x = at_the_end xs x

-- ---- what a text leaves of the tables
-- they are as before, and the text stands in the partition; or it was added
abbrev Leaves : List (List ℕ) → Growth → List ℕ → ReadState → ReadState → Type 0
Leaves partition grow x c d = (StandsIn partition x × (d.context.tables ≡ c.context.tables)) ⊎ (d.context.tables ≡ grow c.context.tables x)

pub placed_leaves : (s : Spot) (o : Option (List ℕ)) (x : List ℕ) (c d : ReadState) → placed_at s o c ≡ told (x, d) → (o ≡ Some x) × (d.context.tables ≡ c.context.tables)
unfolding charged_at
placed_leaves s None x c d r = absurd cc
placed_leaves s (Some text) x c d r =
    let u = bind_told (failing c.context.meter (text_charge (length text) c.spot.place c.context.meter)) (λ (m : Metering). told {X = List ℕ × ReadState} (text, read_state c.spot (context m c.context.tables))) (x, d) r in
    let e : (text, read_state c.spot (context u.0 c.context.tables)) ≡ (x, d) = told_is (text, read_state c.spot (context u.0 c.context.tables)) (x, d) u.2 in
    (ap (λ (p : List ℕ × ReadState). Some p.0) e, sym (ap (λ (p : List ℕ × ReadState). p.1.context.tables) e))

hit_leaves : (a : Align) (partition : Partition) (x : List ℕ) (c d : ReadState) → hit_at a partition c ≡ told (x, d) → ((place : ℕ) × (partition.text_at place ≡ Some x)) × (d.context.tables ≡ c.context.tables)
unfolding hit_at
hit_leaves a partition x c d r =
    let u = bind_told (failing c.context.meter (below_at partition.count a kind.BadPlace c.spot)) (λ (place : ℕ × Spot). placed_at c.spot (partition.text_at place.0) (at_spot_of c place.1)) (x, d) r in
    let k = placed_leaves c.spot (partition.text_at u.0.0) x (at_spot_of c u.0.1) d u.2 in
    ((u.0.0, k.0), k.1)

missed_leaves : (set : Option (List ℕ)) (a : Align) (grow : Growth) (count : ℕ) (x : List ℕ) (c d : ReadState) → missed_at set a grow count c ≡ told (x, d) → d.context.tables ≡ grow c.context.tables x
unfolding missed_at
missed_leaves set a grow count x c d r =
    let u = bind_told (failing (after_text c.context.meter count) (chars_at set a count (charged c.spot c.context.meter))) (λ (p : List ℕ × Charged). told {X = List ℕ × ReadState} (p.0, read_state p.1.spot (context p.1.meter (grow c.context.tables p.0)))) (x, d) r in
    let e : (u.0.0, read_state u.0.1.spot (context u.0.1.meter (grow c.context.tables u.0.0))) ≡ (x, d) = told_is (u.0.0, read_state u.0.1.spot (context u.0.1.meter (grow c.context.tables u.0.0))) (x, d) u.2 in
    sym (ap (λ (p : List ℕ × ReadState). p.1.context.tables) e) ∙ ap (λ (p : List ℕ × ReadState). grow c.context.tables p.0) e

literal_leaves : (a : Align) (grow : Growth) (x : List ℕ) (c d : ReadState) → literal_at a grow c ≡ told (x, d) → d.context.tables ≡ grow c.context.tables x
unfolding literal_at
literal_leaves a grow x c d r =
    let u = bind_told (failing c.context.meter (unsigned_at c.spot)) (λ (count : ℕ × Spot). missed_at None a grow count.0 (at_spot_of c count.1)) (x, d) r in
    missed_leaves None a grow u.0.0 x (at_spot_of c u.0.1) d u.2

indexed_leaves : (a : Align) (partition : List (List ℕ)) (grow : Growth) (x : List ℕ) (c d : ReadState) → indexed_at a partition grow c ≡ told (x, d) → Leaves partition grow x c d
unfolding indexed_at
indexed_leaves a partition grow x c d r =
    let u = bind_told (failing c.context.meter (below_at (length partition + 1) a kind.BadPlace c.spot)) (λ (code : ℕ × Spot). cond (eqb code.0 0) (literal_at a grow (at_spot_of c code.1)) (placed_at c.spot (live_at partition (code.0 - 1)) (at_spot_of c code.1))) (x, d) r in
    by_code (eqb u.0.0 0) u.0 u.2
  where
    by_code : (b : Bool) (p : ℕ × Spot) → cond b (literal_at a grow (at_spot_of c p.1)) (placed_at c.spot (live_at partition (p.0 - 1)) (at_spot_of c p.1)) ≡ told (x, d) → Leaves partition grow x c d
    by_code true p h = inr (literal_leaves a grow x (at_spot_of c p.1) d h)
    by_code false p h = let k = placed_leaves c.spot (live_at partition (p.0 - 1)) x (at_spot_of c p.1) d h in inl ((p.0 - 1, k.0), k.1)

local_leaves : (a : Align) (uri : ℕ) (x : List ℕ) (c d : ReadState) → local_at a uri c ≡ told (x, d) → Leaves (locals c.context.tables uri) (λ p. with_local p uri) x c d
unfolding local_at
local_leaves a uri x c d r =
    let u = bind_told (failing c.context.meter (unsigned_at c.spot)) (λ (code : ℕ × Spot). cond (eqb code.0 0) (hit_at a (listed (locals c.context.tables uri)) (at_spot_of c code.1)) (missed_at None a (λ p. with_local p uri) (code.0 - 1) (at_spot_of c code.1))) (x, d) r in
    by_code (eqb u.0.0 0) u.0 u.2
  where
    by_code : (b : Bool) (p : ℕ × Spot) → cond b (hit_at a (listed (locals c.context.tables uri)) (at_spot_of c p.1)) (missed_at None a (λ q. with_local q uri) (p.0 - 1) (at_spot_of c p.1)) ≡ told (x, d) → Leaves (locals c.context.tables uri) (λ q. with_local q uri) x c d
    by_code true p h = inl (hit_leaves a (listed (locals c.context.tables uri)) x (at_spot_of c p.1) d h)
    by_code false p h = inr (missed_leaves None a (λ q. with_local q uri) (p.0 - 1) x (at_spot_of c p.1) d h)

prefix_in_leaves : (a : Align) (partition : List (List ℕ)) (x : Option (List ℕ)) (c d : ReadState) → told_prefix a partition c ≡ told (x, d) → d.context.tables ≡ c.context.tables
prefix_in_leaves a [] x c d r = sym (ap (λ (p : Option (List ℕ) × ReadState). p.1.context.tables) (told_is {X = Option (List ℕ) × ReadState} (None, c) (x, d) r))
prefix_in_leaves a (p ∷ ps) x c d r =
    let u = bind_told (hit_at a (listed (p ∷ ps)) c) (λ (text : List ℕ × ReadState). told {X = Option (List ℕ) × ReadState} (Some text.0, text.1)) (x, d) r in
    let e : (Some u.0.0, u.0.1) ≡ (x, d) = told_is {X = Option (List ℕ) × ReadState} (Some u.0.0, u.0.1) (x, d) u.2 in
    sym (ap (λ (q : Option (List ℕ) × ReadState). q.1.context.tables) e) ∙ (hit_leaves a (listed (p ∷ ps)) u.0.0 c u.0.1 u.1).1

prefix_leaves : (keep : Bool) (a : Align) (uri : ℕ) (x : Option (List ℕ)) (c d : ReadState) → prefix_at keep a uri c ≡ told (x, d) → d.context.tables ≡ c.context.tables
prefix_leaves true a uri x c d r = prefix_in_leaves a (prefixes c.context.tables uri) x c d r
prefix_leaves false a uri x c d r = sym (ap (λ (p : Option (List ℕ) × ReadState). p.1.context.tables) (told_is {X = Option (List ℕ) × ReadState} (None, c) (x, d) r))

-- ---- a URI and a local name stand where they were read
uri_stands : (a : Align) (x : List ℕ) (c d : ReadState) → uri_at a c ≡ told (x, d) → StandsIn (uris d.context.tables) x
uri_stands a x c d r = either (indexed_leaves a (uris c.context.tables) with_uri x c d r)
  where
    either : Leaves (uris c.context.tables) with_uri x c d → StandsIn (uris d.context.tables) x
    either (inl k) = (k.0.0, ap (λ (p : Partitions). live_at (uris p) k.0.0) k.1 ∙ k.0.1)
    either (inr k) =
        let e : uris d.context.tables ≡ uris c.context.tables ++ x ∷ [] =
        ap (λ (p : Partitions). uris p) k ∙ map-append (λ n. n.uri) c.context.tables.namespaces (record { uri = x; locals = []; prefixes = [] } ∷ []) in
        (length (uris c.context.tables), ap (λ (texts : List (List ℕ)). live_at texts (length (uris c.context.tables))) e ∙ at_the_end (uris c.context.tables) x)

local_stands : (a : Align) (uri : ℕ) (x : List ℕ) (c d : ReadState) → uri < length (uris c.context.tables) → local_at a uri c ≡ told (x, d) → StandsIn (locals d.context.tables uri) x × (uris d.context.tables ≡ uris c.context.tables)
local_stands a uri x c d within r = either (local_leaves a uri x c d r)
  where
    either : Leaves (locals c.context.tables uri) (λ p. with_local p uri) x c d → StandsIn (locals d.context.tables uri) x × (uris d.context.tables ≡ uris c.context.tables)
    either (inl k) = ((k.0.0, ap (λ (p : Partitions). live_at (locals p uri) k.0.0) k.1 ∙ k.0.1), ap (λ (p : Partitions). uris p) k.1)
    either (inr k) =
        let e : locals d.context.tables uri ≡ locals c.context.tables uri ++ x ∷ [] =
        ap (λ (p : Partitions). locals p uri) k ∙ changed_within locals_in (and_local x) c.context.tables.namespaces uri (x ∷ []) (λ n. refl) within in
        let f : uris d.context.tables ≡ uris c.context.tables = ap (λ (p : Partitions). uris p) k ∙ uris_changed (and_local x) c.context.tables.namespaces uri (λ n. refl) in
        ((length (locals c.context.tables uri), ap (λ (texts : List (List ℕ)). live_at texts (length (locals c.context.tables uri))) e ∙ at_the_end (locals c.context.tables uri) x), f)

-- ---- a name
abbrev named_in : ℕ → List ℕ → List ℕ → Option (List ℕ) → ReadState → Named
named_in uri space local prefix c = record { id = record { uri = uri; local = place_in (locals c.context.tables uri) local }; name = record { uri = space; local = local; prefix = prefix } }

pub under_stands : (keep : Bool) (a : Align) (uri : ℕ) (space : List ℕ) (n : Named) (c d : ReadState) → IsLeast (uris c.context.tables) space uri → name_under keep a uri space c ≡ told (n, d) → Stands d.context.tables n
unfolding name_under
under_stands keep a uri space n c d least r =
    let u = bind_told (local_at a uri c) (λ (local : List ℕ × ReadState). prefix_at keep a uri local.1 >>= λ prefix. told {X = Named × ReadState} (named_in uri space local.0 prefix.0 prefix.1, prefix.1)) (n, d) r in
    let v = bind_told (prefix_at keep a uri u.0.1) (λ (prefix : Option (List ℕ) × ReadState). told {X = Named × ReadState} (named_in uri space u.0.0 prefix.0 prefix.1, prefix.1)) (n, d) u.2 in
    let e : (named_in uri space u.0.0 v.0.0 v.0.1, v.0.1) ≡ (n, d) = told_is {X = Named × ReadState} (named_in uri space u.0.0 v.0.0 v.0.1, v.0.1) (n, d) v.2 in
    let k = local_stands a uri u.0.0 c u.0.1 (slice_get_within (uris c.context.tables) uri space least.found) u.1 in
    let same : v.0.1.context.tables ≡ u.0.1.context.tables = prefix_leaves keep a uri v.0.0 u.0.1 v.0.1 v.1 in
    let stands : StandsIn (locals v.0.1.context.tables uri) u.0.0 = subst (λ (p : Partitions). StandsIn (locals p uri) u.0.0) (sym same) k.0 in
    let uris_same : uris c.context.tables ≡ uris v.0.1.context.tables = sym (ap (λ (p : Partitions). uris p) same ∙ k.1) in
    subst (λ (z : Named × ReadState). Stands z.1.context.tables z.0) e (record {
      uri = subst (λ (texts : List (List ℕ)). IsLeast texts space uri) uris_same least;
      local = least_stands (locals v.0.1.context.tables uri) u.0.0 stands;
    })

pub names_stand : NamesStand
unfolding name_at
names_stand keep a n c d r =
    let u = bind_told (uri_at a c) (λ (uri : List ℕ × ReadState). name_under keep a (place_in (uris uri.1.context.tables) uri.0) uri.0 uri.1) (n, d) r in
    under_stands keep a (place_in (uris u.0.1.context.tables) u.0.0) u.0.0 n u.0.1 d (least_stands (uris u.0.1.context.tables) u.0.0 (uri_stands a u.0.0 c u.0.1 u.1)) u.2

-- ---- growth
-- a least place stays the least, since each lesser place keeps another text
pub keeps_least : (old new : List (List ℕ)) (text : List ℕ) (place : ℕ) → KeepsPlaces old new → IsLeast old text place → IsLeast new text place
keeps_least old new text place keeps least = record { found = keeps place text least.found; least = λ lesser below is. least.least lesser below (stood lesser below is) }
  where
    stood : (lesser : ℕ) → lesser < place → live_at new lesser ≡ Some text → live_at old lesser ≡ Some text
    stood lesser below is =
        let within : place < length old = slice_get_within old place text least.found in
        let there : live_at old lesser ≡ Some (get_or old lesser []) = slice_get-get_or old lesser [] (omega arith) in
        let same : get_or old lesser [] ≡ text = some_is (get_or old lesser []) text (sym (keeps lesser (get_or old lesser []) there) ∙ is) in
        there ∙ ap (λ (t : List ℕ). Some t) same

pub names_go_on : NamesGoOnStanding
names_go_on n c d onward stands = record {
  uri = keeps_least (uris c.context.tables) (uris d.context.tables) n.name.uri n.id.uri onward.keeps.each_uri stands.uri;
  local = keeps_least (locals c.context.tables n.id.uri) (locals d.context.tables n.id.uri) n.name.local n.id.local (onward.keeps.each_local n.id.uri) stands.local;
}
