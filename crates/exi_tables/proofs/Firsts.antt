-- The first namespaces.
use Rattle.std.proofs.Common.{◌≡◌, ℕ, zero, suc, ◌<◌, ◌≤◌, ◌+◌, ◌^◌, List, [], ◌∷◌, ◌++◌, length, take, get_or, Option, refl, ap, sym, ◌∙◌, arith, map}
use Rattle.std.specs.Prelude.{slice_get, IfSome}
use Rattle.std.proofs.lemmas.List.{length-map}
use Rattle.exi_tables.specs.Partitions.{Namespace, namespaces_from, first_prefixes, first_partitions, locals_in, prefixes_in}
use Rattle.exi_tables.specs.Growth.{NoneLonger}
use Rattle.exi_names.specs.StartTables.{Names, IsStart}

pub length_from : (k : ℕ) (us : List (List ℕ)) (ls : List (List (List ℕ))) → length (namespaces_from k us ls) ≤ length us
length_from k [] ls = omega arith
length_from k (u ∷ us) [] = omega arith
length_from k (u ∷ us) (l ∷ ls) = omega (arith, length_from (k + 1) us ls)

pub locals_first : (most k : ℕ) (us : List (List ℕ)) (ls : List (List (List ℕ))) → ((place : ℕ) → IfSome (slice_get ls place) (λ list. length list ≤ most)) →
    (uri : ℕ) → length (locals_in (slice_get (namespaces_from k us ls) uri)) ≤ most
locals_first most k [] ls few uri = omega arith
locals_first most k (u ∷ us) [] few uri = omega arith
locals_first most k (u ∷ us) (l ∷ ls) few zero = few 0
locals_first most k (u ∷ us) (l ∷ ls) few (suc uri) = locals_first most (k + 1) us ls (λ place. few (suc place)) uri

one_prefix : (k : ℕ) → length (first_prefixes k) ≤ 1
one_prefix zero = omega arith
one_prefix (suc zero) = omega arith
one_prefix (suc (suc zero)) = omega arith
one_prefix (suc (suc (suc k))) = omega arith

pub prefixes_first : (k : ℕ) (us : List (List ℕ)) (ls : List (List (List ℕ))) (uri : ℕ) → length (prefixes_in (slice_get (namespaces_from k us ls) uri)) ≤ 1
prefixes_first k [] ls uri = omega arith
prefixes_first k (u ∷ us) [] uri = omega arith
prefixes_first k (u ∷ us) (l ∷ ls) zero = one_prefix k
prefixes_first k (u ∷ us) (l ∷ ls) (suc uri) = prefixes_first (k + 1) us ls uri

pub few_first : (names : Names) (most capacity : Option ℕ) → IsStart names → NoneLonger (2 ^ 30) (first_partitions names most capacity)
few_first names most capacity start =
    let ns : List Namespace = namespaces_from 0 names.uris names.locals in
    let long : length (map (λ n. n.uri) ns) ≡ length ns = rw length-map refl in
    record {
      few_uris = omega (arith, long, length_from 0 names.uris names.locals, start.few_uris);
      few_locals = locals_first (2 ^ 30) 0 names.uris names.locals start.few_locals;
      few_prefixes = λ uri. omega (arith, prefixes_first 0 names.uris names.locals uri);
      few_values = omega arith;
      few_own = λ name. omega arith;
    }
