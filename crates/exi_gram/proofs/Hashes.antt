-- Names by their hashes: where the first of a name stands among the places that have its hash.
use Rattle.std.proofs.Common.{◌≡◌, inl, inr, ℕ, suc, ◌+◌, ◌<◌, Bool, true, false, cond, eqb, ltb, Option, Some, None, List, [], ◌∷◌, ◌++◌, length, map, take, get_or, slice_get, refl, sym, ap, ◌∙◌, append_assoc, arith}
use Rattle.std.specs.Map.{lookup}
use Rattle.std.specs.Str.{bytes_eq}
use Rattle.std.proofs.lemmas.Bool.{and_parts, cases_Bool, eqb-true, eq-eqb, false≢true, ltb-false, ltb-true}
use Rattle.std.proofs.lemmas.List.{append-nil, length-append, length-map, length-take, map-append, take_more}
use Rattle.std.proofs.lemmas.Option.{slice_get_past, slice_get_read}
use Rattle.std.proofs.lemmas.Slice.Eq.{bytes_eq-Decides}
use mathlib.Core.List.{map-map}
use Rattle.exi_names.specs.Datatypes.{Representation}
use Rattle.exi_names.specs.declared.datatype.Datatype.{Datatype}
use Rattle.exi_names.specs.declared.names.QName.{QName}
use Rattle.exi_gram.specs.Candidates.{listed_or}
use Rattle.exi_gram.specs.Outlines.{attribute_of}
use Rattle.exi_gram.specs.Globals.{FindsNames, Hashed, attribute_names, first_at, has_hash, hashed_from, is_named, name_hash, passes, places_under, same_texts, told_of}

hashed-append : (hash from : ℕ) (ns ms : List (Option QName)) → hashed_from hash from (ns ++ ms) ≡ hashed_from hash from ns ++ hashed_from hash (from + length ns) ms
hashed-append hash from [] ms = let e : from ≡ from + 0 = omega arith in ap (λ (k : ℕ). hashed_from hash k ms) e
hashed-append hash from (n ∷ ns) ms =
    let e : suc from + length ns ≡ from + length (n ∷ ns) = omega arith in
    let h = hashed-append hash (suc from) ns ms ∙ ap (λ (k : ℕ). hashed_from hash (suc from) ns ++ hashed_from hash k ms) e in
    elim (cases_Bool (has_hash hash n)) [
      | inl yes_is ↦ rw yes_is (ap (λ (z : List ℕ). from ∷ z) h)
      | inr no_is ↦ rw no_is h
    ]

-- with one more
pub hashed_next : {X : Type 0} (name_of : X → Option QName) (hash : ℕ) (xs : List X) (i : ℕ) (d : X) → i < length xs
    → hashed_from hash 0 (map name_of (take (i + 1) xs)) ≡ hashed_from hash 0 (map name_of (take i xs)) ++ hashed_from hash i (name_of (get_or xs i d) ∷ [])
hashed_next {X} name_of hash xs i d within =
    let n : 0 + length (map name_of (take i xs)) ≡ i = omega (arith, length-map (take i xs) name_of, length-take i xs) in
    ap (λ (z : List X). hashed_from hash 0 (map name_of z)) (take_more xs i d within)
    ∙ ap (hashed_from hash 0) (map-append name_of (take i xs) (get_or xs i d ∷ []))
    ∙ hashed-append hash 0 (map name_of (take i xs)) (name_of (get_or xs i d) ∷ [])
    ∙ ap (λ (k : ℕ). hashed_from hash 0 (map name_of (take i xs)) ++ hashed_from hash k (name_of (get_or xs i d) ∷ [])) n

-- ---- one name more under its hash
one_name : (hash place : ℕ) (name : QName) (b : Bool) → eqb hash (name_hash name.uri name.local) ≡ b → hashed_from hash place (Some name ∷ []) ≡ cond b (place ∷ []) []
one_name hash place name b e = rw e refl

pub added_under : (old new : Hashed) (place : ℕ) (name : QName) (places : List ℕ) → places ≡ places_under old (name_hash name.uri name.local) ++ place ∷ []
    → ((q : ℕ) → lookup (eqb q) new ≡ cond (eqb (name_hash name.uri name.local) q) (Some places) (lookup (eqb q) old))
    → (hash : ℕ) → places_under new hash ≡ places_under old hash ++ hashed_from hash place (Some name ∷ [])
added_under old new place name places p u hash =
    let own = name_hash name.uri name.local in
    let h : places_under new hash ≡ listed_or (cond (eqb own hash) (Some places) (lookup (eqb hash) old)) = ap listed_or (u hash) in
    elim (cases_Bool (eqb own hash)) [
      | inl yes_is ↦
          let same : own ≡ hash = eqb-true own hash yes_is in
          h
          ∙ ap (λ (b : Bool). listed_or (cond b (Some places) (lookup (eqb hash) old))) yes_is
          ∙ p
          ∙ ap (λ (k : ℕ). places_under old k ++ place ∷ []) same
          ∙ ap (λ (z : List ℕ). places_under old hash ++ z) (sym (one_name hash place name true (eq-eqb hash own (sym same))))
      | inr no_is ↦
          h
          ∙ ap (λ (b : Bool). listed_or (cond b (Some places) (lookup (eqb hash) old))) no_is
          ∙ sym (append-nil (places_under old hash))
          ∙ ap (λ (z : List ℕ). places_under old hash ++ z) (sym (one_name hash place name false (swapped own hash no_is)))
    ]
  where
    swapped : (a b : ℕ) → eqb a b ≡ false → eqb b a ≡ false
    swapped a b e = elim (cases_Bool (eqb b a)) [
      | inl yes_is ↦ absurd (false≢true (sym e ∙ eq-eqb a b (sym (eqb-true b a yes_is))))
      | inr no_is ↦ no_is
    ]

-- a type may have no name
pub none_added : (hash place : ℕ) (name : Option QName) (places : List ℕ) → name ≡ None → places ≡ places ++ hashed_from hash place (name ∷ [])
none_added hash place name places e = sym (append-nil places) ∙ ap (λ (n : Option QName). places ++ hashed_from hash place (n ∷ [])) (sym e)

-- an attribute's name is the same where its datatype is seen as what it represents
pub outlined_names : (hash : ℕ) (own : List (QName × Datatype)) (all : List (QName × Representation)) → map attribute_of own ≡ all → hashed_from hash 0 (attribute_names own) ≡ hashed_from hash 0 (attribute_names all)
outlined_names hash own all e = ap (hashed_from hash 0) (sym (map-map (λ (a : QName × Representation). Some a.0) attribute_of own) ∙ ap attribute_names e)

-- ---- what stands at a place
pub at_some : {X : Type 0} (xs : List X) (place : ℕ) (x : X) → true ≡ ltb place (length xs) → x ≡ get_or xs place x → slice_get xs place ≡ Some x
at_some xs place x within is = slice_get_read xs (length xs) place x refl (ltb-true place (length xs) (sym within)) is

pub at_none : {X : Type 0} (xs : List X) (place : ℕ) → false ≡ ltb place (length xs) → slice_get xs place ≡ None
at_none xs place past = slice_get_past xs place (ltb-false place (length xs) (sym past))

-- ---- the first of a name is among the places of its hash
pub has_own : (own name : QName) → same_texts own name ≡ true → has_hash (name_hash name.uri name.local) (Some own) ≡ true
has_own own name e =
    let p = and_parts (bytes_eq own.uri name.uri) (bytes_eq own.local name.local) e in
    let u : own.uri ≡ name.uri = (bytes_eq-Decides own.uri name.uri).0 p.0 in
    let l : own.local ≡ name.local = (bytes_eq-Decides own.local name.local).0 p.1 in
    eq-eqb (name_hash name.uri name.local) (name_hash own.uri own.local) (ap (λ (z : List ℕ). name_hash z name.local) (sym u) ∙ ap (name_hash own.uri) (sym l))

pub has_named : (own : Option QName) (name : QName) → is_named own name ≡ true → has_hash (name_hash name.uri name.local) own ≡ true
has_named None name e = absurd (false≢true e)
has_named (Some own) name e = has_own own name e

behind : {X : Type 0} (ps : List X) (x : X) (xs : List X) → slice_get (ps ++ x ∷ xs) (length ps) ≡ Some x
behind [] x xs = refl
behind (p ∷ ps) x xs = behind ps x xs

module _ {X A : Type 0} (find : List X → A) (test : X → Bool) (answer : X → A) (none : A) (at_none : find [] ≡ none) (at_more : (x : X) (xs : List X) → find (x ∷ xs) ≡ cond (test x) (answer x) (find xs)) (name_of : X → Option QName) (hash : ℕ) (hashes : (x : X) → test x ≡ true → has_hash hash (name_of x) ≡ true) where
  first_here : (all : List X) (place : ℕ) (x : X) (places : List ℕ) → slice_get all place ≡ Some x → first_at test answer none all (place ∷ places) ≡ cond (test x) (answer x) (first_at test answer none all places)
  first_here all place x places e = ap (λ (o : Option X). cond (passes test o) (told_of answer none o) (first_at test answer none all places)) e

  first_behind : (ps xs all : List X) (place : ℕ) → all ≡ ps ++ xs → place ≡ length ps → first_at test answer none all (hashed_from hash place (map name_of xs)) ≡ find xs
  first_behind ps [] all place e n = sym at_none
  first_behind ps (x ∷ xs) all place e n =
      let rest = first_behind (ps ++ x ∷ []) xs all (suc place) (e ∙ sym (append_assoc ps (x ∷ []) xs)) (omega (arith, n, length-append ps (x ∷ []))) in
      let here : slice_get all place ≡ Some x = ap (λ (z : List X). slice_get z place) e ∙ ap (slice_get (ps ++ x ∷ xs)) n ∙ behind ps x xs in
      elim (cases_Bool (has_hash hash (name_of x))) [
        | inl yes_is ↦
            ap (λ (b : Bool). first_at test answer none all (cond b (place ∷ hashed_from hash (suc place) (map name_of xs)) (hashed_from hash (suc place) (map name_of xs)))) yes_is
            ∙ first_here all place x (hashed_from hash (suc place) (map name_of xs)) here
            ∙ ap (cond (test x) (answer x)) rest
            ∙ sym (at_more x xs)
        | inr no_is ↦
            ap (λ (b : Bool). first_at test answer none all (cond b (place ∷ hashed_from hash (suc place) (map name_of xs)) (hashed_from hash (suc place) (map name_of xs)))) no_is
            ∙ rest
            ∙ ap (λ (b : Bool). cond b (answer x) (find xs)) (sym (other x no_is))
            ∙ sym (at_more x xs)
      ]
    where
      other : (x : X) → has_hash hash (name_of x) ≡ false → test x ≡ false
      other x no_is = elim (cases_Bool (test x)) [
        | inl yes_is ↦ absurd (false≢true (sym no_is ∙ hashes x yes_is))
        | inr isnt ↦ isnt
      ]

  pub first_is : (kept : Hashed) (xs : List X) → FindsNames kept (map name_of xs) → first_at test answer none xs (places_under kept hash) ≡ find xs
  first_is kept xs finds = ap (first_at test answer none xs) (finds hash) ∙ first_behind [] xs xs 0 refl refl
