-- The production with the fewest parts in its code, and among these with the least code, is the one that comes first in the
-- order in which productions are tried.
use Rattle.std.proofs.Common.{◌≡◌, ◌⊎◌, inl, inr, ℕ, zero, suc, ◌+◌, ◌*◌, ◌^◌, ◌<◌, ◌≤◌, ◌&&◌, eqb, Bool, true, false, Some, None, List, [], ◌∷◌, length, map, slice_get, refl, sym, ap, ◌∙◌, subst, arith}
use Rattle.std.proofs.lemmas.Bool.{and_parts, eq-eqb, eqb-true}
use Rattle.std.proofs.lemmas.Option.{get_or_from_slice_get, slice_get-map, slice_get_within}
use Rattle.std.specs.Prelude.{option_map}
use Rattle.exi_gram.specs.Codes.{Coded}
use Rattle.exi_gram.specs.Tables.{coded_of, most_productions, parts_of}
use Rattle.exi_gram.specs.Naming.{Entry}
use Rattle.exi_gram.specs.declared.code.Code.{Code}
use Rattle.exi_gram.specs.declared.code.Code.TheVariants as code
use Rattle.exi_gram.specs.declared.code.Coded.{Coded as Kept}
use Rattle.exi_candidates.specs.Order.{rank_in}
use Rattle.exi_writing.specs.OneEvent.{fewest, first_of}

coded_is : {X : Type 0} (a b : X) → Some a ≡ Some b → a ≡ b
coded_is {X} a b e = cc

-- ---- a code has one to three parts
abbrev pub HasParts : Coded Entry → Type 0
HasParts c = (length c.parts ≡ 1) ⊎ (length c.parts ≡ 2) ⊎ (length c.parts ≡ 3)

code_has_parts : (k : Code) → (length (parts_of k) ≡ 1) ⊎ (length (parts_of k) ≡ 2) ⊎ (length (parts_of k) ≡ 3)
code_has_parts (code.One first) = inl refl
code_has_parts (code.Two first second) = inr (inl refl)
code_has_parts (code.Three first second third) = inr (inr refl)

pub kept_has_parts : (ks : List Kept) (i : ℕ) (c : Coded Entry) → slice_get (map coded_of ks) i ≡ Some c → HasParts c
kept_has_parts [] i c e = absurd (cc)
kept_has_parts (k ∷ ks) zero c e = subst HasParts (coded_is (coded_of k) c e) (code_has_parts k.code)
kept_has_parts (k ∷ ks) (suc i) c e = kept_has_parts ks i c e

pub parts_within : (c : Coded Entry) → HasParts c → (1 ≤ length c.parts) × (length c.parts ≤ 3)
parts_within c (inl one) = (omega (arith, one), omega (arith, one))
parts_within c (inr (inl two)) = (omega (arith, two), omega (arith, two))
parts_within c (inr (inr three)) = (omega (arith, three), omega (arith, three))

-- ---- the rank of a production, by its parts and its place
pub rank_is : (cs : List (Coded Entry)) (i : ℕ) (c : Coded Entry) → slice_get cs i ≡ Some c → rank_in cs i ≡ length c.parts * 2 ^ 32 + i
rank_is cs i c e =
    let there : slice_get (map (λ (d : Coded Entry). d.parts) cs) i ≡ Some c.parts = slice_get-map (λ (d : Coded Entry). d.parts) cs i ∙ ap (option_map (λ (d : Coded Entry). d.parts)) e in
    ap (λ (z : List ℕ). length z * 2 ^ 32 + i) (get_or_from_slice_get (map (λ (d : Coded Entry). d.parts) cs) i c.parts [] there)

-- ---- one by the number of parts
not_true : (b : Bool) → (b ≡ true → ⊥) → b ≡ false
not_true true h = absurd (h refl)
not_true false h = refl

true_false : (b : Bool) → b ≡ true → b ≡ false → ⊥
true_false b h k = cc

abbrev is_it : ℕ → (Entry → Bool) → Coded Entry → Bool
is_it parts test c = eqb (length c.parts) parts && test c.item

none_of : (parts : ℕ) (test : Entry → Bool) (cs : List (Coded Entry)) → ((i : ℕ) (c : Coded Entry) → slice_get cs i ≡ Some c → is_it parts test c ≡ false) → first_of parts test cs ≡ None
none_of parts test [] none = refl
none_of parts test (c ∷ cs) none = rw (none 0 c refl) (none_of parts test cs (λ i d e. none (suc i) d e))

this_of : (parts : ℕ) (test : Entry → Bool) (cs : List (Coded Entry)) (place : ℕ) (c : Coded Entry) → slice_get cs place ≡ Some c → is_it parts test c ≡ true
    → ((i : ℕ) (d : Coded Entry) → i < place → slice_get cs i ≡ Some d → is_it parts test d ≡ false) → first_of parts test cs ≡ Some c
this_of parts test [] place c e is before = absurd (cc)
this_of parts test (d ∷ cs) zero c e is before =
    let same : d ≡ c = coded_is d c e in
    let here : is_it parts test d ≡ true = subst (λ (z : Coded Entry). is_it parts test z ≡ true) (sym same) is in
    rw here (ap (λ (z : Coded Entry). Some z) same)
this_of parts test (d ∷ cs) (suc place) c e is before = rw (before 0 d (omega arith) refl) (this_of parts test cs place c e is (λ i x l there. before (suc i) x (omega (arith, l)) there))

-- ---- none
pub none_fewest : (test : Entry → Bool) (cs : List (Coded Entry)) → ((i : ℕ) (c : Coded Entry) → slice_get cs i ≡ Some c → test c.item ≡ false) → fewest test cs ≡ None
none_fewest test cs none = rw (none_of 1 test cs (fails 1), none_of 2 test cs (fails 2), none_of 3 test cs (fails 3)) refl
  where
    fails : (parts : ℕ) (i : ℕ) (c : Coded Entry) → slice_get cs i ≡ Some c → is_it parts test c ≡ false
    fails parts i c e = not_true (is_it parts test c) (λ h. true_false (test c.item) (and_parts (eqb (length c.parts) parts) (test c.item) h).1 (none i c e))

-- ---- the least
-- a production that passes, and none that does comes before it, up to a place
pub record IsLeast (test : Entry → Bool) (cs : List (Coded Entry)) (end place : ℕ) : Type 0 where
  pub coded : Coded Entry
  pub there : slice_get cs place ≡ Some coded
  pub passes : test coded.item ≡ true
  pub least : (i : ℕ) (c : Coded Entry) → i < end → slice_get cs i ≡ Some c → test c.item ≡ true → rank_in cs place ≤ rank_in cs i

module _ (test : Entry → Bool) (cs : List (Coded Entry)) (few : length cs ≤ most_productions) (place : ℕ) (l : IsLeast test cs (length cs) place) where
  of_parts : (parts : ℕ) → length l.coded.parts ≡ parts → (i : ℕ) (c : Coded Entry) → slice_get cs i ≡ Some c → is_it parts test c ≡ true → place ≤ i
  of_parts parts n i c e h =
      let both = and_parts (eqb (length c.parts) parts) (test c.item) h in
      let m : length c.parts ≡ parts = eqb-true (length c.parts) parts both.0 in
      let k = l.least i c (slice_get_within cs i c e) e both.1 in
      let a = rank_is cs place l.coded l.there in
      let b = rank_is cs i c e in
      let a2 : rank_in cs place ≡ parts * 2 ^ 32 + place = a ∙ ap (λ (z : ℕ). z * 2 ^ 32 + place) n in
      let b2 : rank_in cs i ≡ parts * 2 ^ 32 + i = b ∙ ap (λ (z : ℕ). z * 2 ^ 32 + i) m in
      omega (arith, k, a2, b2)

  fewer_parts : (parts : ℕ) → suc parts ≤ length l.coded.parts → (i : ℕ) (c : Coded Entry) → slice_get cs i ≡ Some c → is_it parts test c ≡ false
  fewer_parts parts n i c e = not_true (is_it parts test c) (λ h.
      let both = and_parts (eqb (length c.parts) parts) (test c.item) h in
      let m : length c.parts ≡ parts = eqb-true (length c.parts) parts both.0 in
      let within = slice_get_within cs i c e in
      let k = l.least i c within e both.1 in
      let a = rank_is cs place l.coded l.there in
      let b = rank_is cs i c e in
      omega (arith, k, a, b, m, n, within, few))

  here : (parts : ℕ) → length l.coded.parts ≡ parts → first_of parts test cs ≡ Some l.coded
  here parts n =
      let it : is_it parts test l.coded ≡ true = rw (eq-eqb (length l.coded.parts) parts n, l.passes) refl in
      this_of parts test cs place l.coded l.there it (λ i d less e. not_true (is_it parts test d) (λ h. (let k = of_parts parts n i d e h in omega (arith, k, less))))

  pub least_fewest : HasParts l.coded → fewest test cs ≡ Some l.coded
  least_fewest (inl one) = rw (here 1 one) refl
  least_fewest (inr (inl two)) = rw (none_of 1 test cs (fewer_parts 1 (omega (arith, two))), here 2 two) refl
  least_fewest (inr (inr three)) = rw (none_of 1 test cs (fewer_parts 1 (omega (arith, three))), none_of 2 test cs (fewer_parts 2 (omega (arith, three))), here 3 three) refl
