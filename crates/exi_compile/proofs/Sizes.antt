-- How many URIs a schema tells.
use Rattle.std.proofs.Common.{◌≡◌, inl, inr, ℕ, suc, ◌+◌, ◌≤◌, ◌*◌, Option, Some, None, IfSome, List, [], ◌∷◌, ◌++◌, flat_map, length, map, refl, ap, arith}
use Rattle.std.proofs.lemmas.List.{length-append, length-map}
use Rattle.exi_names.specs.declared.names.QName.{QName}
use Rattle.xsd_model.specs.declared.parts.AttributeDecl.{AttributeDecl}
use Rattle.xsd_model.specs.declared.parts.ElementDecl.{ElementDecl}
use Rattle.xsd_model.specs.declared.parts.Particle.{Particle}
use Rattle.xsd_model.specs.declared.parts.TypeDef.{TypeDef}
use Rattle.xsd_model.specs.Parts.{Parts}
use Rattle.exi_vocabulary.specs.FirstNames.{IsOfSize, declared_names, particle_uris, told_uris, type_names, type_uris}
use Rattle.exi_compiled.proofs.Lists.{cases_Option}

one_name : (t : TypeDef) → length (type_names t) ≤ 1
one_name t = elim (cases_Option t.name) [
  | inl e ↦ rw e (omega arith)
  | inr w ↦ rw w.1 (omega arith)
]

few_names : (ts : List TypeDef) → length (flat_map type_names ts) ≤ length ts
few_names [] = omega arith
few_names (t ∷ ts) =
    let one : length (type_names t) ≤ 1 = one_name t in
    let more : length (flat_map type_names ts) ≤ length ts = few_names ts in
    let both : length (type_names t ++ flat_map type_names ts) ≡ length (type_names t) + length (flat_map type_names ts) = length-append (type_names t) (flat_map type_names ts) in
    omega (arith, one, more, both)

declared_few : (p : Parts) → length (declared_names p) ≤ length p.elements + (length p.attributes + length p.types)
declared_few p =
    let es : List QName = map (λ e. e.name) p.elements in
    let as_ : List QName = map (λ a. a.name) p.attributes in
    let ts : List QName = flat_map type_names p.types in
    let a : length (es ++ (as_ ++ ts)) ≡ length es + length (as_ ++ ts) = length-append es (as_ ++ ts) in
    let b : length (as_ ++ ts) ≡ length as_ + length ts = length-append as_ ts in
    let c : length es ≡ length p.elements = length-map p.elements (λ (e : ElementDecl). e.name) in
    let d : length as_ ≡ length p.attributes = length-map p.attributes (λ (x : AttributeDecl). x.name) in
    let f : length ts ≤ length p.types = few_names p.types in
    omega (arith, a, b, c, d, f)

told_few : (p : Parts) → length (told_uris p) ≤ 1 + ((length p.elements + (length p.attributes + length p.types)) + (length (flat_map type_uris p.types) + length (flat_map particle_uris p.particles)))
told_few p =
    let names : List QName = declared_names p in
    let of_names : List (List ℕ) = map (λ n. n.uri) names in
    let ts : List (List ℕ) = flat_map type_uris p.types in
    let ps : List (List ℕ) = flat_map particle_uris p.particles in
    let a : length (of_names ++ (ts ++ ps)) ≡ length of_names + length (ts ++ ps) = length-append of_names (ts ++ ps) in
    let b : length (ts ++ ps) ≡ length ts + length ps = length-append ts ps in
    let c : length of_names ≡ length names = length-map names (λ (n : QName). n.uri) in
    let d : length names ≤ length p.elements + (length p.attributes + length p.types) = declared_few p in
    let e : length (told_uris p) ≡ suc (length (of_names ++ (ts ++ ps))) = refl in
    omega (arith, a, b, c, d, e)

is_of_size : (p : Parts) (n : ℕ) → 1 + (2 * (length p.elements + (length p.attributes + length p.types)) + (length (flat_map type_uris p.types) + length (flat_map particle_uris p.particles))) ≤ n → n ≤ 268435456 → IsOfSize p
is_of_size p n counted few =
    let told : length (told_uris p) ≤ 1 + ((length p.elements + (length p.attributes + length p.types)) + (length (flat_map type_uris p.types) + length (flat_map particle_uris p.particles))) = told_few p in
    omega (arith, told, counted, few)

pub size_told : (p : Parts) (o : Option ℕ) (count : ℕ) (particles : List Particle) → particles ≡ p.particles → 1 + (2 * (length p.elements + (length p.attributes + length p.types)) + length (flat_map type_uris p.types)) ≤ count
    → IfSome o (λ n. (n ≡ count + length (flat_map particle_uris particles)) × (n ≤ 268435456)) → IfSome o (λ n. IsOfSize p)
size_told p None count particles is counted h = tt
size_told p (Some n) count particles is counted h =
    let same : length (flat_map particle_uris particles) ≡ length (flat_map particle_uris p.particles) = ap (λ (l : List Particle). length (flat_map particle_uris l)) is in
    let last : n ≡ count + length (flat_map particle_uris particles) = h.0 in
    is_of_size p n (omega (arith, same, last, counted)) h.1
