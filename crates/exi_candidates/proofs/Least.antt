-- The least of a list of places and the best of others.
use Rattle.std.proofs.Common.{◌≡◌, ◌⊎◌, inl, inr, ℕ, ◌<◌, ◌≤◌, Option, Some, None, List, [], ◌∷◌, ◌++◌, refl, sym, ap, arith}
use Rattle.std.specs.Prelude.{fold, nat_lt}
use Rattle.std.proofs.lemmas.Bool.{cases_Bool, lt-ltb, ltb-false, ltb-true}
use Rattle.exi_candidates.specs.Order.{closer, nearer}

abbrev or_this : {X : Type 0} → X → Option X → X
or_this d None = d
or_this d (Some x) = x

pub some_is : {X : Type 0} (a b : X) → Some a ≡ Some b → a ≡ b
some_is a b e = ap (or_this a) e

-- it is one of these
abbrev pub In : ℕ → List ℕ → Type 0
In p [] = ⊥
In p (x ∷ xs) = (p ≡ x) ⊎ In p xs

pub in_left : (p : ℕ) (xs ys : List ℕ) → In p xs → In p (xs ++ ys)
in_left p [] ys h = absurd h
in_left p (x ∷ xs) ys (inl e) = inl e
in_left p (x ∷ xs) ys (inr h) = inr (in_left p xs ys h)

pub in_right : (p : ℕ) (xs ys : List ℕ) → In p ys → In p (xs ++ ys)
in_right p [] ys h = h
in_right p (x ∷ xs) ys h = inr (in_right p xs ys h)

pub in_either : (p : ℕ) (xs ys : List ℕ) → In p (xs ++ ys) → In p xs ⊎ In p ys
in_either p [] ys h = inr h
in_either p (x ∷ xs) ys (inl e) = inl (inl e)
in_either p (x ∷ xs) ys (inr h) = elim (in_either p xs ys h) [
  | inl left ↦ inl (inr left)
  | inr right ↦ inr right
]

-- one that is not behind another
pub record NotBehind (rank : ℕ → ℕ) (found : Option ℕ) (place : ℕ) : Type 0 where
  pub at : ℕ
  pub is : found ≡ Some at
  pub least : rank at ≤ rank place

-- ---- one more place
closer_old : (rank : ℕ → ℕ) (best : Option ℕ) (b x : ℕ) → best ≡ Some b → NotBehind rank (closer rank best x) b
closer_old rank None b x e = absurd (cc)
closer_old rank (Some a) b x e =
    let same : a ≡ b = some_is a b e in
    let r : rank a ≡ rank b = ap rank same in
    elim (cases_Bool (nat_lt (rank x) (rank a))) [
      | inl yes_is ↦ let l = ltb-true (rank x) (rank a) yes_is in rw yes_is (record { at = x; is = refl; least = omega arith })
      | inr no_is ↦ rw no_is (record { at = a; is = refl; least = omega arith })
    ]

closer_new : (rank : ℕ → ℕ) (best : Option ℕ) (x : ℕ) → NotBehind rank (closer rank best x) x
closer_new rank None x = record { at = x; is = refl; least = omega arith }
closer_new rank (Some a) x = elim (cases_Bool (nat_lt (rank x) (rank a))) [
  | inl yes_is ↦ rw yes_is (record { at = x; is = refl; least = omega arith })
  | inr no_is ↦ let l = ltb-false (rank x) (rank a) no_is in rw no_is (record { at = a; is = refl; least = omega arith })
]

closer_from : (rank : ℕ → ℕ) (best : Option ℕ) (x p : ℕ) → closer rank best x ≡ Some p → (best ≡ Some p) ⊎ (p ≡ x)
closer_from rank None x p e = inr (sym (some_is x p e))
closer_from rank (Some a) x p e = elim (cases_Bool (nat_lt (rank x) (rank a))) [
  | inl yes_is ↦ let h : Some x ≡ Some p = rw yes_is at e in inr (sym (some_is x p h))
  | inr no_is ↦ let h : Some a ≡ Some p = rw no_is at e in inl h
]

-- what is found is the best of others or a place past the floor, and none of these is before it
pub record Nearest (rank : ℕ → ℕ) (floor : ℕ) (best : Option ℕ) (places : List ℕ) (found : Option ℕ) : Type 0 where
  pub from : (p : ℕ) → found ≡ Some p → (best ≡ Some p) ⊎ (In p places × (floor < rank p))
  pub old : (b : ℕ) → best ≡ Some b → NotBehind rank found b
  pub new : (p : ℕ) → In p places → floor < rank p → NotBehind rank found p

nearer_from : (rank : ℕ → ℕ) (floor : ℕ) (best : Option ℕ) (x p : ℕ) → nearer rank floor best x ≡ Some p → (best ≡ Some p) ⊎ ((p ≡ x) × (floor < rank p))
nearer_from rank floor best x p e = elim (cases_Bool (nat_lt floor (rank x))) [
  | inl yes_is ↦
      let h : closer rank best x ≡ Some p = rw yes_is at e in
      elim (closer_from rank best x p h) [
        | inl b ↦ inl b
        | inr same ↦ let r : rank p ≡ rank x = ap rank same in let l = ltb-true floor (rank x) yes_is in inr (same, omega arith)
      ]
  | inr no_is ↦ let h : best ≡ Some p = rw no_is at e in inl h
]

nearer_old : (rank : ℕ → ℕ) (floor : ℕ) (best : Option ℕ) (x b : ℕ) → best ≡ Some b → NotBehind rank (nearer rank floor best x) b
nearer_old rank floor best x b e = elim (cases_Bool (nat_lt floor (rank x))) [
  | inl yes_is ↦ rw yes_is (closer_old rank best b x e)
  | inr no_is ↦ rw no_is (record { at = b; is = e; least = omega arith })
]

nearer_new : (rank : ℕ → ℕ) (floor : ℕ) (best : Option ℕ) (x : ℕ) → floor < rank x → NotBehind rank (nearer rank floor best x) x
nearer_new rank floor best x l = rw (lt-ltb floor (rank x) l) (closer_new rank best x)

then_old : (rank : ℕ → ℕ) (mid found : Option ℕ) (p : ℕ) → NotBehind rank mid p → ((b : ℕ) → mid ≡ Some b → NotBehind rank found b) → NotBehind rank found p
then_old rank mid found p h later =
    let m = later h.at h.is in
    let l = h.least in
    let k = m.least in
    record { at = m.at; is = m.is; least = omega arith }

pub nearest_is : (rank : ℕ → ℕ) (floor : ℕ) (places : List ℕ) (best : Option ℕ) → Nearest rank floor best places (fold (nearer rank floor) best places)
nearest_is rank floor [] best = record {
  from = λ p e. inl e;
  old = λ b e. record { at = b; is = e; least = omega arith };
  new = λ p h l. absurd h;
}
nearest_is rank floor (x ∷ xs) best =
    let ih = nearest_is rank floor xs (nearer rank floor best x) in
    record {
      from = λ p e. elim (ih.from p e) [
        | inl mid ↦ elim (nearer_from rank floor best x p mid) [
          | inl b ↦ inl b
          | inr here ↦ inr (inl here.0, here.1)
        ]
        | inr there ↦ inr (inr there.0, there.1)
      ];
      old = λ b e. then_old rank (nearer rank floor best x) (fold (nearer rank floor) (nearer rank floor best x) xs) b (nearer_old rank floor best x b e) ih.old;
      new = λ p h l. new_in rank floor x xs best p h l ih;
    }
  where
    new_in : (rank : ℕ → ℕ) (floor x : ℕ) (xs : List ℕ) (best : Option ℕ) (p : ℕ) → In p (x ∷ xs) → floor < rank p → Nearest rank floor (nearer rank floor best x) xs (fold (nearer rank floor) (nearer rank floor best x) xs) → NotBehind rank (fold (nearer rank floor) (nearer rank floor best x) xs) p
    new_in rank floor x xs best p (inl e) l ih =
        let r : rank p ≡ rank x = ap rank e in
        let h = nearer_new rank floor best x (omega arith) in
        let k = h.least in
        then_old rank (nearer rank floor best x) (fold (nearer rank floor) (nearer rank floor best x) xs) p (record { at = h.at; is = h.is; least = omega arith }) ih.old
    new_in rank floor x xs best p (inr there) l ih = ih.new p there l
