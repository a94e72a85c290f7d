-- The places that were given under names, and the values at their places.
use Rattle.std.proofs.Common.{◌≡◌, ℕ, zero, suc, ◌<◌, ◌≤◌, ◌+◌, ◌-◌, ◌%◌, ◌^◌, ◌&&◌, Bool, true, false, cond, List, [], ◌∷◌, ◌++◌, length, set, get_or, take, Option, Some, None, refl, ap, sym, ◌∙◌, arith, inl, inr}
use Rattle.std.specs.Str.{bytes_eq}
use Rattle.std.proofs.lemmas.Bool.{cases_Bool}
use Rattle.std.proofs.Math.Nat.{mod-le}
use Rattle.std.proofs.lemmas.Nat.{mod_below}
use Rattle.std.proofs.lemmas.List.{take_more}
use Rattle.std.proofs.lemmas.List.Quantifiers.{position-Some}
use Rattle.exi_names.specs.NameMaps.{same_name}
use Rattle.exi_names.specs.declared.names.NameId.{NameId}
use Rattle.exi_tables.specs.declared.live.Given.{Given}
use Rattle.exi_tables.specs.declared.live.Live.{Live}
use Rattle.exi_tables.specs.declared.live.Bounds.{Bounds}
use Rattle.exi_tables.specs.Kept.{IsRound}
use Rattle.exi_tables.specs.Values.{is_added, least_under, name_place, one_more, or_less, place_after, put_at}
use Rattle.exi_tables.proofs.Changes.{set-changed_at}

pub counted_there : (name : NameId) (given : List Given) (place : ℕ) (g : Given) → name_place name given ≡ Some place → g ≡ get_or given place g →
    set given place (record { name = g.name; count = g.count + 1 }) ≡ one_more name given
counted_there name given place g found is =
    let at = position-Some (λ (h : Given). same_name name h.name) given place g found in
    rw found (set-changed_at (λ (h : Given). record { name = h.name; count = h.count + 1 }) given place g at.0 is)

-- ---- a value at its place
pub set_is_put : {X : Type 0} (place : ℕ) (x : X) (xs : List X) → place < length xs → set xs place x ≡ put_at place x xs
set_is_put place x [] within = absurd (omega (arith, within))
set_is_put zero x (y ∷ ys) within = refl
set_is_put (suc place) x (y ∷ ys) within = ap (λ zs. y ∷ zs) (set_is_put place x ys (omega (arith, within)))

pub push_is_put : {X : Type 0} (place : ℕ) (x : X) (xs : List X) → place ≡ length xs → xs ++ x ∷ [] ≡ put_at place x xs
push_is_put place x [] at = refl
push_is_put zero x (y ∷ ys) at = absurd (omega (arith, at))
push_is_put (suc place) x (y ∷ ys) at = ap (λ zs. y ∷ zs) (push_is_put place x ys (omega (arith, at)))

-- ---- the least place of a text
lesser_first : (a b : ℕ) (o : Option ℕ) → or_less a (Some (or_less b o)) ≡ or_less b (Some (or_less a o))
lesser_first a b None = omega arith
lesser_first a b (Some m) = omega arith

pub least_push : (name : NameId) (text : List ℕ) (xs : List Live) (x : Live) →
    least_under name text (xs ++ x ∷ []) ≡ cond (same_name name x.name && bytes_eq x.text text) (Some (or_less x.local (least_under name text xs))) (least_under name text xs)
least_push name text [] x = refl
least_push name text (y ∷ ys) x =
    let ih = least_push name text ys x in
    elim (cases_Bool (same_name name y.name && bytes_eq y.text text)) [
      | inl here ↦ elim (cases_Bool (same_name name x.name && bytes_eq x.text text)) [
        | inl last ↦
            let e : least_under name text (ys ++ x ∷ []) ≡ Some (or_less x.local (least_under name text ys)) = rw last at ih in
            rw (here, last) (ap (λ o. Some (or_less y.local o)) e ∙ ap (λ (p : ℕ). Some p) (lesser_first y.local x.local (least_under name text ys)))
        | inr past ↦
            let e : least_under name text (ys ++ x ∷ []) ≡ least_under name text ys = rw past at ih in
            rw (here, past) (ap (λ o. Some (or_less y.local o)) e)
      ]
      | inr other ↦ rw other ih
    ]

-- one value more: it has the name and the text, or not
pub least_here : (name : NameId) (text : List ℕ) (live : List Live) (i : ℕ) (x : Live) (old : Option ℕ) (new : ℕ) (test : Bool) → i < length live → x ≡ get_or live i x →
    test ≡ (same_name name x.name && bytes_eq x.text text) → test ≡ true → old ≡ least_under name text (take i live) → new ≡ or_less x.local old → Some new ≡ least_under name text (take (i + 1) live)
least_here name text live i x old new test within here is passes so_far less =
    let more : take (i + 1) live ≡ take i live ++ x ∷ [] = take_more live i x within ∙ ap (λ (y : Live). take i live ++ y ∷ []) (sym here) in
    let yes : (same_name name x.name && bytes_eq x.text text) ≡ true = sym is ∙ passes in
    let last : least_under name text (take i live ++ x ∷ []) ≡ Some (or_less x.local (least_under name text (take i live))) = rw yes at (least_push name text (take i live) x) in
    ap (λ (n : ℕ). Some n) (less ∙ ap (or_less x.local) so_far) ∙ sym last ∙ ap (least_under name text) (sym more)

pub least_past : (name : NameId) (text : List ℕ) (live : List Live) (i : ℕ) (x : Live) (old : Option ℕ) (test : Bool) → i < length live → x ≡ get_or live i x →
    test ≡ (same_name name x.name && bytes_eq x.text text) → test ≡ false → old ≡ least_under name text (take i live) → old ≡ least_under name text (take (i + 1) live)
least_past name text live i x old test within here is past so_far =
    let more : take (i + 1) live ≡ take i live ++ x ∷ [] = take_more live i x within ∙ ap (λ (y : Live). take i live ++ y ∷ []) (sym here) in
    let no : (same_name name x.name && bytes_eq x.text text) ≡ false = sym is ∙ past in
    let last : least_under name text (take i live ++ x ∷ []) ≡ least_under name text (take i live) = rw no at (least_push name text (take i live) x) in
    so_far ∙ sym last ∙ ap (least_under name text) (sym more)

-- ---- the next place
pub length_put : {X : Type 0} (place : ℕ) (x : X) (xs : List X) → place ≤ length xs → (place + 1 ≤ length (put_at place x xs)) × (length (put_at place x xs) ≤ length xs + 1) × (length xs ≤ length (put_at place x xs))
length_put place x [] within = (omega (arith, within), omega arith, omega arith)
length_put zero x (y ∷ ys) within = (omega arith, omega arith, omega arith)
length_put (suc place) x (y ∷ ys) within =
    let ih = length_put place x ys (omega (arith, within)) in
    (omega (arith, ih.0), omega (arith, ih.1), omega (arith, ih.2))

both : (a b : Bool) → (a && b) ≡ true → (a ≡ true) × (b ≡ true)
both true b h = (refl, h)
both false b h = absurd (cc)

pub after_within : (capacity : Option ℕ) (place : ℕ) → place_after capacity place ≤ place + 1
after_within None place = omega arith
after_within (Some c) place = mod-le (place + 1) c

some_cap : (a b : ℕ) → Some a ≡ Some b → a ≡ b
some_cap a b e = cc

pub after_below : (o : Option ℕ) (place capacity : ℕ) → o ≡ Some capacity → 0 < capacity → place_after o place < capacity
after_below None place capacity e some = absurd (cc)
after_below (Some c) place capacity e some =
    let same : c ≡ capacity = some_cap c capacity e in
    let below : (place + 1) % capacity < capacity = mod_below (place + 1) capacity some in rw same below

pub round_put : (b : Bounds) (live : List Live) (place : ℕ) (x : Live) (text : List ℕ) → is_added b text ≡ true → IsRound b live place → length live < 2 ^ 32 - 1 →
    IsRound b (put_at place x live) (place_after b.capacity place)
round_put b live place x text added round room =
    let l = length_put place x live round.next in
    record {
      next = omega (arith, l.0, after_within b.capacity place);
      within = λ capacity e some. after_below b.capacity place capacity e some;
      few = omega (arith, l.1, room);
    }
