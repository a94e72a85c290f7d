-- The first string tables have the places of xsi:type and xsi:nil, and so have all tables that keep theirs.
use Rattle.std.proofs.Common.{◌≡◌, ℕ, zero, suc, ◌+◌, ◌<◌, ◌≤◌, List, [], ◌∷◌, length, map, take, get_or, refl, sym, ap, subst, arith}
use Rattle.std.specs.Prelude.{IfSome, slice_get}
use Rattle.std.proofs.lemmas.List.{length-take}
use Rattle.exi_names.specs.StartTables.{IsStart, Names, xsi_names}
use Rattle.exi_tables.specs.Growth.{KeepsAll}
use Rattle.exi_tables.specs.Partitions.{Partitions, locals, locals_in, namespaces_from, uris}
use Rattle.exi_tables.proofs.Growing.{keeps_within}
use Rattle.exi_processing.specs.Configurations.{Setting, first_tables}

-- the first tables have the lists of the names
uris_from : (k : ℕ) (us : List (List ℕ)) (ls : List (List (List ℕ))) → length ls ≡ length us → map (λ n. n.uri) (namespaces_from k us ls) ≡ us
uris_from k [] ls e = refl
uris_from k (u ∷ us) [] e = absurd (omega (arith, e))
uris_from k (u ∷ us) (l ∷ ls) e = ap (λ (z : List (List ℕ)). u ∷ z) (uris_from (k + 1) us ls (omega (arith, e)))

locals_from : (k : ℕ) (us : List (List ℕ)) (ls : List (List (List ℕ))) → length ls ≡ length us → (uri : ℕ) → locals_in (slice_get (namespaces_from k us ls) uri) ≡ get_or ls uri []
locals_from k [] [] e uri = refl
locals_from k [] (l ∷ ls) e uri = absurd (omega (arith, e))
locals_from k (u ∷ us) [] e uri = absurd (omega (arith, e))
locals_from k (u ∷ us) (l ∷ ls) e zero = refl
locals_from k (u ∷ us) (l ∷ ls) e (suc uri) = locals_from (k + 1) us ls (omega (arith, e)) uri

-- three URIs, and two local names of the third
three_uris : (names : Names) → IsStart names → 3 ≤ length names.uris
three_uris names start = omega (arith, length-take 3 names.uris, ap (λ (z : List (List ℕ)). length z) start.first)

third_is : (ls : List (List (List ℕ))) → 3 ≤ length ls → IfSome (slice_get ls 2) (λ list. take 2 list ≡ xsi_names) → take 2 (get_or ls 2 []) ≡ xsi_names
third_is [] few h = absurd (omega (arith, few))
third_is (a ∷ []) few h = absurd (omega (arith, few))
third_is (a ∷ b ∷ []) few h = absurd (omega (arith, few))
third_is (a ∷ b ∷ c ∷ ls) few h = h

two_locals : (names : Names) → IsStart names → 2 ≤ length (get_or names.locals 2 [])
two_locals names start =
    let third = third_is names.locals (omega (arith, three_uris names start, start.paired)) start.third in
    omega (arith, length-take 2 (get_or names.locals 2 []), ap (λ (z : List (List ℕ)). length z) third)

first_uris_within : (g : Setting) → IsStart g.schema.names → 2 < length (uris (first_tables g))
first_uris_within g start =
    let same = uris_from 0 g.schema.names.uris g.schema.names.locals start.paired in
    let three = three_uris g.schema.names start in
    subst (λ (z : List (List ℕ)). 2 < length z) (sym same) (omega (arith, three))

first_locals_within : (g : Setting) → IsStart g.schema.names → 1 < length (locals (first_tables g) 2)
first_locals_within g start =
    let same = locals_from 0 g.schema.names.uris g.schema.names.locals start.paired 2 in
    let two = two_locals g.schema.names start in
    subst (λ (z : List (List ℕ)). 1 < length z) (sym same) (omega (arith, two))

pub stand_within : (g : Setting) (p : Partitions) → IsStart g.schema.names → KeepsAll (first_tables g) p → (2 < length (uris p)) × (1 < length (locals p 2))
stand_within g p start kept = (keeps_within (uris (first_tables g)) (uris p) 2 kept.each_uri (first_uris_within g start), keeps_within (locals (first_tables g) 2) (locals p 2) 1 (kept.each_local 2) (first_locals_within g start))
