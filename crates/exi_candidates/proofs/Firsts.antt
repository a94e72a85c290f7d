-- The first of all that are looked up.
use Rattle.std.proofs.Common.{◌≡◌, ◌⊎◌, inl, inr, ℕ, zero, suc, ◌<◌, true, Option, Some, None, List, [], ◌∷◌, length, map, refl, sym, subst, arith}
use Rattle.std.specs.Prelude.{All, IfSome, fold, slice_get}
use Rattle.std.proofs.lemmas.Bool.{cases_Bool}
use Rattle.std.proofs.lemmas.List.Elements.{All-cons, All-nil}
use Rattle.exi_names.specs.declared.names.NameId.{NameId}
use Rattle.exi_gram.specs.declared.class.Class.{Class}
use Rattle.exi_gram.specs.declared.code.Coded.{Coded as Kept}
use Rattle.exi_gram.specs.Candidates.{candidates, is_sought}
use Rattle.exi_gram.specs.Codes.{Coded, Productions, coded}
use Rattle.exi_gram.specs.Naming.{Entry}
use Rattle.exi_gram.specs.Tables.{coded_of}
use Rattle.exi_candidates.specs.declared.key.Key.{Key}
use Rattle.exi_candidates.specs.Order.{IsNext, first_in, first_of, floor_of, is_tried, rank_in}
use Rattle.exi_candidates.proofs.Least.{In, NotBehind, nearest_is}
use Rattle.exi_candidates.proofs.Members.{Found, HasParts, candidates_are, candidates_have, kept_has_parts}

-- a production that is looked up by one of the keys
pub record Tried (cs : List (Coded Entry)) (keys : List Key) (p : ℕ) : Type 0 where
  pub item : Coded Entry
  pub stands : slice_get cs p ≡ Some item
  pub tried : is_tried keys item.item ≡ true

record Firsts (cs : List (Coded Entry)) (floor : ℕ) (best : Option ℕ) (keys : List Key) (found : Option ℕ) : Type 0 where
  pub from : (p : ℕ) → found ≡ Some p → (best ≡ Some p) ⊎ (Tried cs keys p × (floor < rank_in cs p))
  pub old : (b : ℕ) → best ≡ Some b → NotBehind (rank_in cs) found b
  pub new : (p : ℕ) (c : Coded Entry) → slice_get cs p ≡ Some c → HasParts c → is_tried keys c.item ≡ true → floor < rank_in cs p → NotBehind (rank_in cs) found p

then_old : (rank : ℕ → ℕ) (mid found : Option ℕ) (p : ℕ) → NotBehind rank mid p → ((b : ℕ) → mid ≡ Some b → NotBehind rank found b) → NotBehind rank found p
then_old rank mid found p h later =
    let m = later h.at h.is in
    let l = h.least in
    let k = m.least in
    record { at = m.at; is = m.is; least = omega arith }

first_tried : (cs : List (Coded Entry)) (k : Key) (ks : List Key) (p : ℕ) → Found k.class k.name 0 cs p → Tried cs (k ∷ ks) p
first_tried cs k ks p f =
    let e : f.at ≡ p = let q = f.place in omega arith in
    record {
      item = f.item;
      stands = subst (λ (z : ℕ). slice_get cs z ≡ Some f.item) e f.stands;
      tried = rw f.sought refl;
    }

later_tried : (cs : List (Coded Entry)) (k : Key) (ks : List Key) (p : ℕ) → Tried cs ks p → Tried cs (k ∷ ks) p
later_tried cs k ks p t = record {
  item = t.item;
  stands = t.stands;
  tried = elim (cases_Bool (is_sought k.class k.name t.item.item)) [
    | inl yes_is ↦ rw yes_is refl
    | inr no_is ↦ rw no_is t.tried
  ];
}

firsts_are : (cs : List (Coded Entry)) (floor : ℕ) (keys : List Key) (best : Option ℕ) → Firsts cs floor best keys (fold (first_in cs floor) best keys)
firsts_are cs floor [] best = record {
  from = λ p e. inl e;
  old = λ b e. record { at = b; is = e; least = omega arith };
  new = λ p c e n t l. absurd (cc);
}
firsts_are cs floor (k ∷ ks) best =
    let mid = first_in cs floor best k in
    let here = nearest_is (rank_in cs) floor (candidates k.class k.name cs) best in
    let ih = firsts_are cs floor ks mid in
    record {
      from = λ p e. elim (ih.from p e) [
        | inl m ↦ elim (here.from p m) [
          | inl b ↦ inl b
          | inr found ↦ inr (first_tried cs k ks p (candidates_are k.class k.name cs p found.0), found.1)
        ]
        | inr later ↦ inr (later_tried cs k ks p later.0, later.1)
      ];
      old = λ b e. then_old (rank_in cs) mid (fold (first_in cs floor) mid ks) b (here.old b e) ih.old;
      new = λ p c e n t l. elim (cases_Bool (is_sought k.class k.name c.item)) [
        | inl yes_is ↦ then_old (rank_in cs) mid (fold (first_in cs floor) mid ks) p (here.new p (candidates_have k.class k.name cs p c e n yes_is) l) ih.old
        | inr no_is ↦ let rest : is_tried ks c.item ≡ true = rw no_is at t in ih.new p c e n rest l
      ];
    }

-- ---- the next of a state
pub next_is : (p : Productions Entry) (keys : List Key) (after : Option ℕ) (lent : List Kept) → map coded_of lent ≡ coded p → IsNext p keys after (first_of (coded p) (floor_of p after) keys)
next_is p keys after lent l =
    let f = firsts_are (coded p) (floor_of p after) keys None in
    record {
      is_one = one_is (first_of (coded p) (floor_of p after) keys) f;
      is_behind = behind_is (first_of (coded p) (floor_of p after) keys) f;
      is_first = λ place c e t b.
          let n = f.new place c e (kept_has_parts lent place c (subst (λ (z : List (Coded Entry)). slice_get z place ≡ Some c) (sym l) e)) t b in
          (n.at, n.is, n.least);
    }
  where
    one_is : {cs : List (Coded Entry)} {floor : ℕ} {keys : List Key} (found : Option ℕ) → Firsts cs floor None keys found → IfSome found (λ place. (c : Coded Entry) × (slice_get cs place ≡ Some c) × (is_tried keys c.item ≡ true))
    one_is None f = tt
    one_is (Some place) f = elim (f.from place refl) [
      | inl none ↦ absurd (cc)
      | inr here ↦ (here.0.item, here.0.stands, here.0.tried)
    ]

    behind_is : {cs : List (Coded Entry)} {floor : ℕ} {keys : List Key} (found : Option ℕ) → Firsts cs floor None keys found → IfSome found (λ place. floor < rank_in cs place)
    behind_is None f = tt
    behind_is (Some place) f = elim (f.from place refl) [
      | inl none ↦ absurd (cc)
      | inr here ↦ here.1
    ]

-- ---- what is looked up stands in the state
within_len : (cs : List (Coded Entry)) (i : ℕ) (c : Coded Entry) → slice_get cs i ≡ Some c → i < length cs
within_len [] i c e = absurd (cc)
within_len (d ∷ cs) zero c e = omega arith
within_len (d ∷ cs) (suc i) c e = let h = within_len cs i c e in omega arith

all_of : (P : ℕ → Type 0) (xs : List ℕ) → ((p : ℕ) → In p xs → P p) → All P xs
all_of P [] h = All-nil P
all_of P (x ∷ xs) h = All-cons P x xs (h x (inl refl)) (all_of P xs (λ p i. h p (inr i)))

pub candidates_within : (cs : List (Coded Entry)) (class : Class) (name : NameId) → All (λ place. place < length cs) (candidates class name cs)
candidates_within cs class name = all_of (λ place. place < length cs) (candidates class name cs) (λ p i.
    let f = candidates_are class name cs p i in
    let w = within_len cs f.at f.item f.stands in
    let e = f.place in
    omega arith)
