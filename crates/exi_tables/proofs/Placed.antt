-- Texts added to first ones, and the least place of each.
use Rattle.std.proofs.Common.{◌≡◌, ◌≢◌, ℕ, zero, suc, ◌<◌, ◌≤◌, ◌+◌, ◌-◌, ◌^◌, Bool, true, false, cond, List, [], ◌∷◌, ◌++◌, length, get_or, take, is_some, refl, sym, ap, ◌∙◌, arith, inl, inr, Option, Some, None, length-append, true≢false}
use Rattle.std.specs.Prelude.{position, slice_get, unwrap_or, option_and_then, nat_le, nat_eq}
use Rattle.std.specs.List.{position_from}
use Rattle.std.specs.Str.{bytes_eq}
use Rattle.std.proofs.lemmas.Bool.{cases_Bool, cases_lt, le-leb, lt-leb, eqb-true, eqb-false, eq-eqb}
use Rattle.std.proofs.lemmas.Iterator.Adapters.{position_from-zero}
use Rattle.std.proofs.lemmas.List.{append-nil, append_assoc, length-take, take_more}
use Rattle.std.proofs.lemmas.Option.{slice_get_past, slice_get_within, slice_get-get_or}
use Rattle.std.proofs.lemmas.Slice.Eq.{bytes_eq-Decides}
use Rattle.exi_tables.specs.Added.{Added, IsAdded, IsPlaced, IsPushed, Puts, added_at, added_least, count_of, is_in, no_start, number_of}
use Rattle.exi_tables.specs.Partitions.{least_place, live_at}
use Rattle.exi_tables.proofs.Least.{least_found, least_none, least_of_last, position_append, position_new, position_other}

none_some : {X : Type 0} (x : X) → Some x ≡ None → ⊥
none_some x e = absurd (cc)

-- ---- least places in two lists
from_none : {X : Type 0} (p : X → Bool) (i j : ℕ) (xs ys : List X) → position_from p i xs ≡ None → position_from p j ys ≡ None → position_from p i (xs ++ ys) ≡ None
from_none p i j [] ys e f = from_any p j i ys f
  where
    from_any : {X : Type 0} (q : X → Bool) (k l : ℕ) (zs : List X) → position_from q k zs ≡ None → position_from q l zs ≡ None
    from_any q k l [] e = refl
    from_any q k l (z ∷ zs) e = elim (cases_Bool (q z)) [
      | inl yes_is ↦ absurd (none_some k (rw yes_is at e))
      | inr no_is ↦ rw no_is (from_any q (k + 1) (l + 1) zs (rw no_is at e))
    ]
from_none p i j (x ∷ xs) ys e f = elim (cases_Bool (p x)) [
  | inl yes_is ↦ absurd (none_some i (rw yes_is at e))
  | inr no_is ↦ rw no_is (from_none p (i + 1) j xs ys (rw no_is at e) f)
]

pub both_none : (xs ys : List (List ℕ)) (t : List ℕ) → least_place xs t ≡ None → least_place ys t ≡ None → least_place (xs ++ ys) t ≡ None
both_none xs ys t e f =
    let p = λ (u : List ℕ). bytes_eq u t in
    position_from-zero p (xs ++ ys) ∙ from_none p 0 0 xs ys (sym (position_from-zero p xs) ∙ e) (sym (position_from-zero p ys) ∙ f)

-- a text that stands somewhere has a least place
pub least_some : (xs : List (List ℕ)) (place : ℕ) (t : List ℕ) → slice_get xs place ≡ Some t → is_in xs t ≡ true
least_some xs place t at = by (least_place xs t) refl
  where
    by : (o : Option ℕ) → least_place xs t ≡ o → is_some o ≡ true
    by None e = absurd (least_none xs t place e at)
    by (Some p) e = refl

get_left : (xs ys : List (List ℕ)) (k : ℕ) → k < length xs → slice_get (xs ++ ys) k ≡ slice_get xs k
get_left [] ys k within = absurd (omega (arith, within))
get_left (x ∷ xs) ys zero within = refl
get_left (x ∷ xs) ys (suc k) within = get_left xs ys k (omega (arith, within))

get_right : (xs ys : List (List ℕ)) (k : ℕ) → length xs ≤ k → slice_get (xs ++ ys) k ≡ slice_get ys (k - length xs)
get_right [] ys k past = let same : k - 0 ≡ k = omega arith in rw same refl
get_right (x ∷ xs) ys zero past = absurd (omega (arith, past))
get_right (x ∷ xs) ys (suc k) past =
    let same : suc k - length (x ∷ xs) ≡ k - length xs = omega arith in
    rw same (get_right xs ys k (omega (arith, past)))

get_moved : (xs ys : List (List ℕ)) (j : ℕ) → slice_get (xs ++ ys) (length xs + j) ≡ slice_get ys j
get_moved [] ys j = let same : 0 + j ≡ j = omega arith in rw same refl
get_moved (x ∷ xs) ys j = let same : length (x ∷ xs) + j ≡ suc (length xs + j) = omega arith in rw same (get_moved xs ys j)

-- ---- a text's number
module _ (first texts : List (List ℕ)) (known : List (List ℕ × ℕ)) (placed : IsPlaced first texts known) where
  -- a number is the least place
  pub number_some : (t : List ℕ) (p : ℕ) → number_of known t ≡ Some p → Some p ≡ least_place (first ++ texts) t
  number_some t p e = by (is_in texts t) refl
    where
      by : (b : Bool) → is_in texts t ≡ b → Some p ≡ least_place (first ++ texts) t
      by true is = sym e ∙ rw is at (placed.number t)
      by false is = absurd (none_some p (sym e ∙ rw is at (placed.number t)))

  -- what has none was not added
  pub not_added : (t : List ℕ) → number_of known t ≡ None → least_place texts t ≡ None
  not_added t e = by (least_place texts t) refl
    where
      by : (o : Option ℕ) → least_place texts t ≡ o → o ≡ None
      by None is = refl
      by (Some q) is =
          let all : number_of known t ≡ least_place (first ++ texts) t = rw is at (placed.number t) in
          absurd (least_none (first ++ texts) t (length first + q) (sym all ∙ e) (get_moved first texts q ∙ (least_found texts t q is).found))

  pub number_none : (t : List ℕ) → number_of known t ≡ None → least_place (first ++ texts) t ≡ least_place first t
  number_none t e = by (least_place first t) refl
    where
      by : (o : Option ℕ) → least_place first t ≡ o → least_place (first ++ texts) t ≡ o
      by None is = both_none first texts t is (not_added t e)
      by (Some p) is = position_append (λ u. bytes_eq u t) p first texts is

  -- one text more
  pub placed_push : (text : List ℕ) (n : ℕ) (more : List (List ℕ × ℕ)) → Puts known text n more → n ≡ unwrap_or (least_place first text) (length first + length texts) →
      length first + length texts < 2 ^ 32 - 1 → IsPlaced first (texts ++ text ∷ []) more
  placed_push text n more puts n_is room = record {
    number = λ t. puts t ∙ elim (cases_Bool (bytes_eq text t)) [
      | inl yes_is ↦ rw yes_is (same t ((bytes_eq-Decides text t).0 yes_is))
      | inr no_is ↦ rw no_is (other t no_is)
    ];
    few = omega (arith, room, length-append texts (text ∷ []));
  }
    where
      apart : (first ++ texts) ++ text ∷ [] ≡ first ++ (texts ++ text ∷ [])
      apart = append_assoc first texts (text ∷ [])

      other : (t : List ℕ) → bytes_eq text t ≡ false → number_of known t ≡ cond (is_in (texts ++ text ∷ []) t) (least_place (first ++ (texts ++ text ∷ [])) t) None
      other t no_is =
          rw (position_other (λ u. bytes_eq u t) texts text no_is, ← apart, position_other (λ u. bytes_eq u t) (first ++ texts) text no_is) (placed.number t)

      here : (m : ℕ) → Some m ≡ least_place ((first ++ texts) ++ text ∷ []) text → Some m ≡ cond (is_in (texts ++ text ∷ []) text) (least_place (first ++ (texts ++ text ∷ [])) text) None
      here m e =
          let in_is : is_in (texts ++ text ∷ []) text ≡ true = ap is_some (least_of_last texts text) in
          rw (in_is, ← apart) e

      same_text : Some (unwrap_or (number_of known text) n) ≡ cond (is_in (texts ++ text ∷ []) text) (least_place (first ++ (texts ++ text ∷ [])) text) None
      same_text = by (number_of known text) refl
        where
          by : (o : Option ℕ) → number_of known text ≡ o → Some (unwrap_or o n) ≡ cond (is_in (texts ++ text ∷ []) text) (least_place (first ++ (texts ++ text ∷ [])) text) None
          by (Some m) e = here m (sym (position_append (λ u. bytes_eq u text) m (first ++ texts) (text ∷ []) (sym (number_some text m e))))
          by None e =
              let long : length (first ++ texts) ≡ length first + length texts = length-append first texts in
              here n (ap (λ (i : ℕ). Some i) (n_is ∙ ap (unwrap_or (least_place first text)) (sym long) ∙ ap (λ o. unwrap_or o (length (first ++ texts))) (sym (number_none text e)))
              ∙ sym (least_of_last (first ++ texts) text))

      same : (t : List ℕ) → text ≡ t → Some (unwrap_or (number_of known t) n) ≡ cond (is_in (texts ++ text ∷ []) t) (least_place (first ++ (texts ++ text ∷ [])) t) None
      same t is = rw (← is) same_text

pub placed_empty : (first : List (List ℕ)) → length first < 2 ^ 32 → IsPlaced first [] []
placed_empty first few = record {
  number = λ t. refl;
  few = omega (arith, few);
}

-- ---- texts added to a list
module _ (first : List (List ℕ)) (a : Added) (added : IsAdded first a) where
  abbrev all : List (List ℕ)
  all = first ++ a.texts

  pub at_some : (place : ℕ) (text : List ℕ) → added_at a place ≡ Some text → Some text ≡ live_at all place
  at_some place text e = elim (cases_lt place a.start) [
    | inl below ↦ absurd (none_some text (sym e ∙ rw (lt-leb a.start place below) refl))
    | inr past ↦
        let here : slice_get a.texts (place - a.start) ≡ Some text = rw (le-leb a.start place past) at e in
        elim added.start [
          | inl is ↦ sym here ∙ ap (λ (s : ℕ). slice_get a.texts (place - s)) is ∙ sym (get_right first a.texts place (omega (arith, past, is)))
          | inr is ↦ absurd (none_some text (sym here ∙ ap (λ (ts : List (List ℕ)). slice_get ts (place - a.start)) is.1))
        ]
  ]

  pub at_none : (place : ℕ) → added_at a place ≡ None → live_at all place ≡ live_at first place
  at_none place e = elim added.start [
    | inl is ↦ elim (cases_lt place a.start) [
      | inl below ↦ get_left first a.texts place (omega (arith, below, is))
      | inr past ↦
          let gone : slice_get a.texts (place - a.start) ≡ None = rw (le-leb a.start place past) at e in
          get_right first a.texts place (omega (arith, past, is)) ∙ ap (λ (s : ℕ). slice_get a.texts (place - s)) (sym is) ∙ gone ∙ sym (slice_get_past first place (omega (arith, past, is)))
    ]
    | inr is ↦ ap (λ (ts : List (List ℕ)). live_at (first ++ ts) place) is.1 ∙ ap (λ (ts : List (List ℕ)). live_at ts place) (append-nil first)
  ]

  pub least_there : (place least : ℕ) → added_least a place ≡ Some least → Some least ≡ option_and_then (least_place all) (live_at all place)
  least_there place least e = by (added_at a place) refl
    where
      by : (o : Option (List ℕ)) → added_at a place ≡ o → Some least ≡ option_and_then (least_place all) (live_at all place)
      by None is = absurd (none_some least (sym e ∙ rw is refl))
      by (Some t) is =
          let number : number_of a.known t ≡ Some least = rw is at e in
          rw (← at_some place t is) (number_some first a.texts a.known added.placed t least number)

  -- what has no number there stands among the first
  pub least_first : (place : ℕ) → added_least a place ≡ None → option_and_then (least_place all) (live_at all place) ≡ option_and_then (least_place first) (live_at first place)
  least_first place e = by (added_at a place) refl
    where
      among : (o : Option (List ℕ)) → live_at first place ≡ o → option_and_then (least_place all) o ≡ option_and_then (least_place first) o
      among None there = refl
      among (Some t) there = found (least_place first t) refl
        where
          found : (o : Option ℕ) → least_place first t ≡ o → least_place all t ≡ o
          found None is = absurd (least_none first t place is there)
          found (Some p) is = position_append (λ u. bytes_eq u t) p first a.texts is

      texts_at_place : (t : List ℕ) → added_at a place ≡ Some t → slice_get a.texts (place - a.start) ≡ Some t
      texts_at_place t is = elim (cases_lt place a.start) [
        | inl below ↦ absurd (none_some t (sym is ∙ rw (lt-leb a.start place below) refl))
        | inr past ↦ rw (le-leb a.start place past) at is
      ]

      by : (o : Option (List ℕ)) → added_at a place ≡ o → option_and_then (least_place all) (live_at all place) ≡ option_and_then (least_place first) (live_at first place)
      by None is = rw (at_none place is) (among (live_at first place) refl)
      by (Some t) is =
          let none : number_of a.known t ≡ None = rw is at e in
          absurd (least_none a.texts t (place - a.start) (not_added first a.texts a.known added.placed t none) (texts_at_place t is))

  pub count_some : (n : ℕ) → count_of a ≡ Some n → n ≡ length all
  count_some n e = elim (cases_Bool (nat_eq a.start no_start)) [
    | inl yes_is ↦ absurd (none_some n (sym e ∙ rw yes_is refl))
    | inr no_is ↦
        let is : Some (a.start + length a.texts) ≡ Some n = rw no_is at e in
        let n_is : a.start + length a.texts ≡ n = cc in
        elim added.start [
          | inl start_is ↦ omega (arith, n_is, start_is, length-append first a.texts)
          | inr none ↦ absurd (eqb-false a.start no_start no_is none.0)
        ]
  ]

  pub count_none : count_of a ≡ None → length first ≡ length all
  count_none e = elim (cases_Bool (nat_eq a.start no_start)) [
    | inr no_is ↦ absurd (none_some (a.start + length a.texts) (rw no_is at e))
    | inl yes_is ↦
        let at_end : a.start ≡ no_start = eqb-true a.start no_start yes_is in
        elim added.start [
          | inl start_is ↦ omega (arith, at_end, start_is, length-append first a.texts, added.placed.few)
          | inr none ↦ ap length (sym (append-nil first)) ∙ ap (λ (ts : List (List ℕ)). length (first ++ ts)) (sym none.1)
        ]
  ]

  pub added_pushed : (text : List ℕ) (n : ℕ) (b : Added) → IsPushed (length first) text n a b → n ≡ unwrap_or (least_place first text) (length all) →
      length all < 2 ^ 32 - 1 → IsAdded first b
  added_pushed text n b pushed n_is room =
      let long : length all ≡ length first + length a.texts = length-append first a.texts in
      record {
        start = inl pushed.start_is;
        placed = rw pushed.texts_are (placed_push first a.texts a.known added.placed text n b.known pushed.known_is (n_is ∙ ap (unwrap_or (least_place first text)) long) (omega (arith, long, room)));
      }

-- ---- first texts, one after another
pub first_more : (all texts : List (List ℕ)) (i n : ℕ) (known more : List (List ℕ × ℕ)) (text : List ℕ) → texts ≡ take i all → i < length all → text ≡ get_or all i text →
    IsPlaced [] texts known → Puts known text n more → n ≡ length texts → length all < 2 ^ 32 - 1 →
    (texts ++ text ∷ [] ≡ take (i + 1) all) × IsPlaced [] (texts ++ text ∷ []) more
first_more all texts i n known more text texts_is within text_is placed puts n_is few =
    let shorter : length texts ≡ length (take i all) = ap length texts_is in
    let start : length texts ≡ 0 + length texts = omega arith in
    let room : 0 + length texts < 2 ^ 32 - 1 = omega (arith, shorter, length-take i all, within, few) in (
      ap (λ ts. ts ++ text ∷ []) texts_is ∙ ap (λ (t : List ℕ). take i all ++ t ∷ []) text_is ∙ sym (take_more all i text within),
      placed_push [] texts known placed text n more puts (n_is ∙ start) room,
    )
