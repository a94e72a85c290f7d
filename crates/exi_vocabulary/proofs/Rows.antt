-- The local names of each URI, as names are put among them one after another.
use Rattle.std.proofs.Common.{◌≡◌, ℕ, ◌+◌, ◌<◌, ◌≤◌, Bool, true, false, cond, Some, List, [], ◌∷◌, ◌++◌, get_or, length, map, take, refl, sym, ap, ◌∙◌, arith, append_assoc}
use Rattle.std.specs.List.{flat_map}
use Rattle.std.specs.Map.{lookup}
use Rattle.std.specs.Str.{bytes_eq}
use Rattle.std.proofs.lemmas.List.{length-append, map-append, take_more}
use Rattle.std.proofs.lemmas.List.Sums.{fold-append}
use Rattle.std.proofs.lemmas.Slice.Eq.{bytes_eq-Decides}
use Rattle.exi_names.specs.declared.names.QName.{QName}
use Rattle.exi_order.specs.Keys.{key_of, keys_of}
use Rattle.exi_order.specs.declared.Key.{Key}
use Rattle.xsd_model.specs.Parts.{Parts}
use Rattle.xsd_model.specs.declared.parts.AttributeDecl.{AttributeDecl}
use Rattle.xsd_model.specs.declared.parts.Particle.{Particle}
use Rattle.xsd_model.specs.declared.parts.TypeDef.{TypeDef}
use Rattle.xsd_model.specs.declared.parts.ElementDecl.{ElementDecl}
use Rattle.exi_vocabulary.specs.Collected.{IsPut, Rows, in_order_behind, or_known, pair_of, row_of, with_name, with_names, with_text, with_texts}
use Rattle.exi_vocabulary.specs.FirstNames.{all_locals, all_uris, declared_names, distinct_behind, known_locals, locals_under, known_uris, particle_uris, told_uris, type_names, type_uris}
use Rattle.exi_vocabulary.specs.Vocabulary.{Pair, attribute_name, element_name}
use Rattle.exi_vocabulary.proofs.Distinct.{behind_known, under, under_is, with_names_is, with_texts_is}

pub put_is : (old new : Rows) (name : Pair) → IsPut old new name → (uri : List ℕ) → row_of new uri ≡ with_name uri (row_of old uri) name
put_is old new name put uri = ap (or_known uri) (put uri) ∙ by (bytes_eq uri name.1) refl
  where
    by : (b : Bool) → bytes_eq uri name.1 ≡ b → or_known uri (cond b (Some (with_text (row_of old name.1) name.0)) (lookup (bytes_eq uri) old)) ≡ cond b (with_text (row_of old uri) name.0) (row_of old uri)
    by true e = ap (λ u. with_text (row_of old u) name.0) (sym ((bytes_eq-Decides uri name.1).0 e))
    by false e = refl

-- with one name more
names_more : (uri : List ℕ) (locals : List (List ℕ)) (ks : List Key) (i : ℕ) (d : Key) → i < length ks → with_names uri locals (keys_of (take (i + 1) ks)) ≡ with_name uri (with_names uri locals (keys_of (take i ks))) (key_of (get_or ks i d))
names_more uri locals ks i d less =
    ap (λ l. with_names uri locals (keys_of l)) (take_more ks i d less)
    ∙ ap (with_names uri locals) (map-append key_of (take i ks) (get_or ks i d ∷ []))
    ∙ fold-append (with_name uri) locals (keys_of (take i ks)) (key_of (get_or ks i d) ∷ [])

pub rows_more : (old new : Rows) (ks : List Key) (i : ℕ) (k : Key) → i < length ks → k ≡ get_or ks i k → IsPut old new (key_of k) → ((uri : List ℕ) → row_of old uri ≡ with_names uri (known_locals uri) (keys_of (take i ks))) → (uri : List ℕ) → row_of new uri ≡ with_names uri (known_locals uri) (keys_of (take (i + 1) ks))
rows_more old new ks i k less is put so_far uri =
    put_is old new (key_of k) put uri
    ∙ ap (λ l. with_name uri l (key_of k)) (so_far uri)
    ∙ ap (λ x. with_name uri (with_names uri (known_locals uri) (keys_of (take i ks))) (key_of x)) is
    ∙ sym (names_more uri (known_locals uri) ks i k less)

-- ---- the tables
row_is : (p : Parts) (names : List Pair) (uri : List ℕ) → names ≡ map pair_of (declared_names p) → in_order_behind (length (known_locals uri)) (with_names uri (known_locals uri) names) ≡ all_locals p uri
row_is p names uri e =
    ap (λ ns. in_order_behind (length (known_locals uri)) (with_names uri (known_locals uri) ns)) e
    ∙ ap (in_order_behind (length (known_locals uri))) (with_names_is uri (known_locals uri) (map pair_of (declared_names p)) ∙ ap (with_texts (known_locals uri)) (under_is uri (declared_names p)))
    ∙ behind_known (known_locals uri) (locals_under uri (declared_names p))

map_same : {X Y : Type 0} (g h : X → Y) (xs : List X) → ((x : X) → g x ≡ h x) → map g xs ≡ map h xs
map_same g h [] e = refl
map_same g h (x ∷ xs) e = ap (λ y. y ∷ map g xs) (e x) ∙ ap (λ l. h x ∷ l) (map_same g h xs e)

pub locals_are : (p : Parts) (names : List Pair) (uris : List (List ℕ)) (locals : List (List (List ℕ))) → names ≡ map pair_of (declared_names p) → locals ≡ map (λ uri. in_order_behind (length (known_locals uri)) (with_names uri (known_locals uri) names)) uris → uris ≡ all_uris p → locals ≡ map (all_locals p) (all_uris p)
locals_are p names uris locals e h u =
    h ∙ map_same (λ uri. in_order_behind (length (known_locals uri)) (with_names uri (known_locals uri) names)) (all_locals p) uris (λ uri. row_is p names uri e) ∙ ap (map (all_locals p)) u

uris_of : (ns : List QName) → map (λ (k : Pair). k.1) (map pair_of ns) ≡ map (λ (n : QName). n.uri) ns
uris_of [] = refl
uris_of (n ∷ ns) = ap (λ l. n.uri ∷ l) (uris_of ns)

-- one kind of URIs after another
pub uris_told : (p : Parts) (names : List Pair) (target : List ℕ) (types : List TypeDef) (particles : List Particle) (first second third fourth last : List (List ℕ)) → names ≡ map pair_of (declared_names p) → target ≡ p.target → types ≡ p.types → particles ≡ p.particles → first ≡ known_uris → second ≡ with_text first target → third ≡ with_texts second (map (λ (k : Pair). k.1) names) → fourth ≡ with_texts third (flat_map type_uris types) → last ≡ with_texts fourth (flat_map particle_uris particles) → last ≡ with_texts known_uris (told_uris p)
uris_told p names target types particles first second third fourth last names_is target_is types_is particles_is a b c d e =
    let of_types = flat_map type_uris p.types in
    let of_particles = flat_map particle_uris p.particles in
    let uris = map (λ (n : QName). n.uri) (declared_names p) in
    let start : second ≡ with_text known_uris p.target = b ∙ ap (λ l. with_text l target) a ∙ ap (with_text known_uris) target_is in
    let named : third ≡ with_texts (with_text known_uris p.target) uris =
    c ∙ ap (λ l. with_texts l (map (λ (k : Pair). k.1) names)) start ∙ ap (λ ns. with_texts (with_text known_uris p.target) (map (λ (k : Pair). k.1) ns)) names_is ∙ ap (with_texts (with_text known_uris p.target)) (uris_of (declared_names p)) in
    e
    ∙ ap (λ l. with_texts l (flat_map particle_uris particles)) (d ∙ ap (λ l. with_texts l (flat_map type_uris types)) named ∙ ap (λ ts. with_texts (with_texts (with_text known_uris p.target) uris) (flat_map type_uris ts)) types_is)
    ∙ ap (λ ps. with_texts (with_texts (with_texts (with_text known_uris p.target) uris) of_types) (flat_map particle_uris ps)) particles_is
    ∙ sym (fold-append with_text (with_texts (with_text known_uris p.target) uris) of_types of_particles)
    ∙ sym (fold-append with_text (with_text known_uris p.target) uris (of_types ++ of_particles))

pub uris_in_order : (p : Parts) (uris : List (List ℕ)) → uris ≡ with_texts known_uris (told_uris p) → in_order_behind 4 uris ≡ all_uris p
uris_in_order p uris e = ap (in_order_behind 4) e ∙ behind_known known_uris (told_uris p)

pub four_uris : (p : Parts) (uris : List (List ℕ)) → uris ≡ with_texts known_uris (told_uris p) → 4 ≤ length uris
four_uris p uris e =
    let more = distinct_behind known_uris (told_uris p) in
    let all : length uris ≡ length (known_uris ++ more) = ap (λ (l : List (List ℕ)). length l) (e ∙ with_texts_is known_uris (told_uris p)) in
    let sum : length (known_uris ++ more) ≡ 4 + length more = length-append known_uris more in
    omega (arith, all, sum)

-- the known ones are there
pub known_within : (uri : List ℕ) (names : List Pair) → length (known_locals uri) ≤ length (with_names uri (known_locals uri) names)
known_within uri names =
    let locals = known_locals uri in
    let more = distinct_behind locals (under uri names) in
    let e : length (with_names uri locals names) ≡ length (locals ++ more) = ap (λ (l : List (List ℕ)). length l) (with_names_is uri locals names ∙ with_texts_is locals (under uri names)) in
    let sum : length (locals ++ more) ≡ length locals + length more = length-append locals more in
    omega (arith, e, sum)

-- ---- all names
keys-append : (xs ys : List Key) → keys_of (xs ++ ys) ≡ keys_of xs ++ keys_of ys
keys-append xs ys = map-append key_of xs ys

mapped_twice : {X Y Z : Type 0} (g : Y → Z) (f : X → Y) (xs : List X) → map (λ x. g (f x)) xs ≡ map g (map f xs)
mapped_twice g f [] = refl
mapped_twice g f (x ∷ xs) = ap (λ l. g (f x) ∷ l) (mapped_twice g f xs)

pub all_keys_are : (p : Parts) (a b c : List Key) → keys_of a ≡ map element_name p.elements → keys_of b ≡ map attribute_name p.attributes → keys_of c ≡ map pair_of (flat_map type_names p.types) → keys_of ((a ++ b) ++ c) ≡ map pair_of (declared_names p)
all_keys_are p a b c e f g =
    let elements = map (λ (x : ElementDecl). x.name) p.elements in
    let attributes = map (λ (x : AttributeDecl). x.name) p.attributes in
    let types = flat_map type_names p.types in
    ap keys_of (append_assoc a b c)
    ∙ keys-append a (b ++ c)
    ∙ ap (λ l. keys_of a ++ l) (keys-append b c)
    ∙ ap (λ l. l ++ (keys_of b ++ keys_of c)) (e ∙ mapped_twice pair_of (λ (x : ElementDecl). x.name) p.elements)
    ∙ ap (λ l. map pair_of elements ++ (l ++ keys_of c)) (f ∙ mapped_twice pair_of (λ (x : AttributeDecl). x.name) p.attributes)
    ∙ ap (λ l. map pair_of elements ++ (map pair_of attributes ++ l)) g
    ∙ ap (λ l. map pair_of elements ++ l) (sym (map-append pair_of attributes types))
    ∙ sym (map-append pair_of elements (attributes ++ types))
