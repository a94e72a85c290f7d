-- Names by their least places, as string tables tell them.
use Rattle.std.proofs.Common.{◌≡◌, ℕ, zero, suc, ◌+◌, List, [], ◌∷◌, length, map, get_or, position, slice_get, Option, Some, None, refl, sym, ap, ◌∙◌, arith}
use Rattle.std.specs.Str.{bytes_eq}
use Rattle.std.specs.Cmp.Lexicographic.{nat_list_eq_equiv}
use Rattle.exi_names.specs.StartTables.{IsStart, Names}
use Rattle.exi_tables.specs.Partitions.{Namespace, Partitions, first_partitions, least_place, locals, locals_in, namespaces_from, uris}
use Rattle.exi_names.specs.declared.names.QName.{QName}
use Rattle.exi_gram.specs.declared.named.Named.TheVariants as named
use Rattle.exi_gram.specs.Naming.{entry_of}
use Rattle.exi_gram.specs.Terminals.{se}
use Rattle.exi_gram.specs.Wholes.{plain}
use Rattle.exi_codes.specs.PlacedNames.{names_in}

uris_from : (k : ℕ) (us : List (List ℕ)) (ls : List (List (List ℕ))) → length ls ≡ length us → map (λ n. n.uri) (namespaces_from k us ls) ≡ us
uris_from k [] ls e = refl
uris_from k (u ∷ us) [] e = absurd (omega (arith, e))
uris_from k (u ∷ us) (l ∷ ls) e = ap (λ (z : List (List ℕ)). u ∷ z) (uris_from (k + 1) us ls (omega (arith, e)))

locals_from : (k : ℕ) (us : List (List ℕ)) (ls : List (List (List ℕ))) → length ls ≡ length us → map (λ n. n.locals) (namespaces_from k us ls) ≡ ls
locals_from k [] [] e = refl
locals_from k [] (l ∷ ls) e = absurd (omega (arith, e))
locals_from k (u ∷ us) [] e = absurd (omega (arith, e))
locals_from k (u ∷ us) (l ∷ ls) e = ap (λ (z : List (List (List ℕ))). l ∷ z) (locals_from (k + 1) us ls (omega (arith, e)))

pub names_first : (names : Names) (most capacity : Option ℕ) → IsStart names → names_in (first_partitions names most capacity) ≡ names
names_first names most capacity s = λ i. record { uris = uris_from 0 names.uris names.locals s.paired i; locals = locals_from 0 names.uris names.locals s.paired i }

locals_of : (ns : List Namespace) (uri : ℕ) → locals_in (slice_get ns uri) ≡ get_or (map (λ n. n.locals) ns) uri []
locals_of [] uri = refl
locals_of (n ∷ ns) zero = refl
locals_of (n ∷ ns) (suc uri) = locals_of ns uri

swapped : (xs ys : List ℕ) → bytes_eq xs ys ≡ bytes_eq ys xs
swapped xs ys = nat_list_eq_equiv.symm xs ys

pub least_is : (texts : List (List ℕ)) (text : List ℕ) → least_place texts text ≡ position (bytes_eq text) texts
least_is texts text = λ i. position (λ t. swapped t text i) texts

pub local_is : (p : Partitions) (uri : ℕ) (text : List ℕ) → least_place (locals p uri) text ≡ position (bytes_eq text) (get_or (names_in p).locals uri [])
local_is p uri text = least_is (locals p uri) text ∙ ap (position (bytes_eq text)) (locals_of p.namespaces uri)

-- ---- places of names
pub name_none : (p : Partitions) (name : QName) (uri : ℕ) → least_place (uris p) name.uri ≡ Some uri → least_place (locals p uri) name.local ≡ None → named.Nothing ≡ (entry_of (names_in p) (plain (se name) 0)).named
name_none p name uri e h =
    let u : position (bytes_eq name.uri) (names_in p).uris ≡ Some uri = sym (least_is (uris p) name.uri) ∙ e in
    let l : position (bytes_eq name.local) (get_or (names_in p).locals uri []) ≡ None = sym (local_is p uri name.local) ∙ h in
    rw (u, l) refl

pub name_some : (p : Partitions) (name : QName) (uri local : ℕ) → least_place (uris p) name.uri ≡ Some uri → least_place (locals p uri) name.local ≡ Some local → named.Name (record { uri = uri; local = local }) ≡ (entry_of (names_in p) (plain (se name) 0)).named
name_some p name uri local e h =
    let u : position (bytes_eq name.uri) (names_in p).uris ≡ Some uri = sym (least_is (uris p) name.uri) ∙ e in
    let l : position (bytes_eq name.local) (get_or (names_in p).locals uri []) ≡ Some local = sym (local_is p uri name.local) ∙ h in
    rw (u, l) refl
