-- Which places are candidates of a class and a name: those of the productions that are looked up by it.
use Rattle.std.proofs.Common.{◌≡◌, ◌⊎◌, inl, inr, ℕ, zero, suc, ◌+◌, ◌<◌, ◌==◌, ◌&&◌, Bool, true, false, Some, List, [], ◌∷◌, ◌++◌, get_or, length, map, refl, sym, subst, arith}
use Rattle.std.specs.Prelude.{slice_get}
use Rattle.std.proofs.lemmas.Bool.{cases_Bool}
use Rattle.exi_names.specs.declared.names.NameId.{NameId}
use Rattle.exi_gram.specs.declared.class.Class.{Class}
use Rattle.exi_gram.specs.declared.code.Code.{Code}
use Rattle.exi_gram.specs.declared.code.Code.TheVariants as code
use Rattle.exi_gram.specs.declared.code.Coded.{Coded as Kept}
use Rattle.exi_gram.specs.Candidates.{candidates, is_sought, sought_from}
use Rattle.exi_gram.specs.Codes.{Coded}
use Rattle.exi_gram.specs.Naming.{Entry}
use Rattle.exi_gram.specs.Tables.{coded_of, parts_of}
use Rattle.exi_candidates.proofs.Least.{In, in_either, in_left, in_right, some_is}

-- a code has one to three parts
abbrev pub HasParts : Coded Entry → Type 0
HasParts c = ((length c.parts == 1) ≡ true) ⊎ ((length c.parts == 2) ≡ true) ⊎ ((length c.parts == 3) ≡ true)

code_has_parts : (k : Code) → ((length (parts_of k) == 1) ≡ true) ⊎ ((length (parts_of k) == 2) ≡ true) ⊎ ((length (parts_of k) == 3) ≡ true)
code_has_parts (code.One first) = inl refl
code_has_parts (code.Two first second) = inr (inl refl)
code_has_parts (code.Three first second third) = inr (inr refl)

pub kept_has_parts : (cs : List Kept) (i : ℕ) (c : Coded Entry) → slice_get (map coded_of cs) i ≡ Some c → HasParts c
kept_has_parts [] i c e = absurd (cc)
kept_has_parts (k ∷ ks) zero c e = subst HasParts (some_is (coded_of k) c e) (code_has_parts k.code)
kept_has_parts (k ∷ ks) (suc i) c e = kept_has_parts ks i c e

pub parts_in : (cs : List Kept) (i : ℕ) (k : Kept) → i < length cs → length (parts_of (get_or cs i k).code) ≡ length (get_or (map (λ c. c.parts) (map coded_of cs)) i [])
parts_in [] i k w = absurd (omega arith)
parts_in (x ∷ xs) zero k w = refl
parts_in (x ∷ xs) (suc i) k w = parts_in xs i k (omega arith)

-- ---- those of so many parts
sought_has : (parts : ℕ) (class : Class) (name : NameId) (from : ℕ) (cs : List (Coded Entry)) (i : ℕ) (c : Coded Entry)
    → slice_get cs i ≡ Some c → (length c.parts == parts) ≡ true → is_sought class name c.item ≡ true → In (from + i) (sought_from parts class name from cs)
sought_has parts class name from [] i c e n s = absurd (cc)
sought_has parts class name from (d ∷ cs) zero c e n s =
    let same : c ≡ d = sym (some_is d c e) in
    let m : (length d.parts == parts) ≡ true = subst (λ (z : Coded Entry). (length z.parts == parts) ≡ true) same n in
    let t : is_sought class name d.item ≡ true = subst (λ (z : Coded Entry). is_sought class name z.item ≡ true) same s in
    rw (m, t) (inl (omega arith))
sought_has parts class name from (d ∷ cs) (suc i) c e n s =
    let place : suc from + i ≡ from + suc i = omega arith in
    let ih = subst (λ (z : ℕ). In z (sought_from parts class name (suc from) cs)) place (sought_has parts class name (suc from) cs i c e n s) in
    elim (cases_Bool (length d.parts == parts && is_sought class name d.item)) [
      | inl yes_is ↦ rw yes_is (inr ih)
      | inr no_is ↦ rw no_is ih
    ]

sought_at : (parts : ℕ) (class : Class) (name : NameId) (cs : List (Coded Entry)) (i : ℕ) (c : Coded Entry)
    → slice_get cs i ≡ Some c → (length c.parts == parts) ≡ true → is_sought class name c.item ≡ true → In i (sought_from parts class name 0 cs)
sought_at parts class name cs i c e n s =
    let place : 0 + i ≡ i = omega arith in
    subst (λ (z : ℕ). In z (sought_from parts class name 0 cs)) place (sought_has parts class name 0 cs i c e n s)

-- a production that is looked up
pub record Found (class : Class) (name : NameId) (from : ℕ) (cs : List (Coded Entry)) (p : ℕ) : Type 0 where
  pub at : ℕ
  pub item : Coded Entry
  pub place : p ≡ from + at
  pub stands : slice_get cs at ≡ Some item
  pub sought : is_sought class name item.item ≡ true

both : (a b : Bool) → (a && b) ≡ true → b ≡ true
both true b h = h
both false b h = absurd (cc)

sought_is : (parts : ℕ) (class : Class) (name : NameId) (from : ℕ) (cs : List (Coded Entry)) (p : ℕ) → In p (sought_from parts class name from cs) → Found class name from cs p
sought_is parts class name from [] p h = absurd h
sought_is parts class name from (d ∷ cs) p h =
    elim (cases_Bool (length d.parts == parts && is_sought class name d.item)) [
      | inl yes_is ↦
          let g : (p ≡ from) ⊎ In p (sought_from parts class name (suc from) cs) = rw yes_is at h in
          elim g [
            | inl e ↦ record { at = 0; item = d; place = omega (arith, e); stands = refl; sought = both (length d.parts == parts) (is_sought class name d.item) yes_is }
            | inr later ↦ further d (sought_is parts class name (suc from) cs p later)
          ]
      | inr no_is ↦ let g : In p (sought_from parts class name (suc from) cs) = rw no_is at h in further d (sought_is parts class name (suc from) cs p g)
    ]
  where
    further : {class : Class} {name : NameId} {from p : ℕ} {cs : List (Coded Entry)} (d : Coded Entry) → Found class name (suc from) cs p → Found class name from (d ∷ cs) p
    further d f = let e = f.place in record { at = suc f.at; item = f.item; place = omega arith; stands = f.stands; sought = f.sought }

-- ---- all of them
pub candidates_have : (class : Class) (name : NameId) (cs : List (Coded Entry)) (i : ℕ) (c : Coded Entry) → slice_get cs i ≡ Some c → HasParts c → is_sought class name c.item ≡ true → In i (candidates class name cs)
candidates_have class name cs i c e (inl n) s = in_left i (sought_from 1 class name 0 cs) (sought_from 2 class name 0 cs ++ sought_from 3 class name 0 cs) (sought_at 1 class name cs i c e n s)
candidates_have class name cs i c e (inr (inl n)) s = in_right i (sought_from 1 class name 0 cs) (sought_from 2 class name 0 cs ++ sought_from 3 class name 0 cs) (in_left i (sought_from 2 class name 0 cs) (sought_from 3 class name 0 cs) (sought_at 2 class name cs i c e n s))
candidates_have class name cs i c e (inr (inr n)) s = in_right i (sought_from 1 class name 0 cs) (sought_from 2 class name 0 cs ++ sought_from 3 class name 0 cs) (in_right i (sought_from 2 class name 0 cs) (sought_from 3 class name 0 cs) (sought_at 3 class name cs i c e n s))

pub candidates_are : (class : Class) (name : NameId) (cs : List (Coded Entry)) (p : ℕ) → In p (candidates class name cs) → Found class name 0 cs p
candidates_are class name cs p h = elim (in_either p (sought_from 1 class name 0 cs) (sought_from 2 class name 0 cs ++ sought_from 3 class name 0 cs) h) [
  | inl one ↦ sought_is 1 class name 0 cs p one
  | inr more ↦ elim (in_either p (sought_from 2 class name 0 cs) (sought_from 3 class name 0 cs) more) [
    | inl two ↦ sought_is 2 class name 0 cs p two
    | inr three ↦ sought_is 3 class name 0 cs p three
  ]
]
