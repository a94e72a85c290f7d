-- What is read is spelled so, and what is spelled so is read: the reading takes the parts of a code one by one, and
-- the codes of a state have these parts.
use Rattle.std.proofs.Common.{◌≡◌, ℕ, zero, suc, ◌+◌, ◌<◌, ◌≤◌, Bool, true, false, cond, List, [], ◌∷◌, ◌++◌, length, map, filter, slice_get, option_map, Option, Some, None, Result, Ok, Err, inl, inr, refl, sym, ap, ◌∙◌, subst, All, arith}
use Rattle.std.proofs.lemmas.List.{length-map}
use Rattle.std.proofs.lemmas.List.Elements.{All-nil, All-cons}
use Rattle.std.proofs.lemmas.Option.{slice_get_within, slice_get-map}
use Rattle.exi_bits.specs.declared.align.Align.{Align}
use Rattle.exi_bits.specs.declared.fault.Fault.{Fault}
use Rattle.exi_bits.specs.Bits.{Spot, number}
use Rattle.exi_bits.specs.Unsigned.{◌>>=◌}
use Rattle.exi_bits.specs.Widths.{width_for}
use Rattle.exi_items.proofs.Items.{Item, item_spelled}
use Rattle.exi_items.proofs.NoPrefix.{item_no_prefix, is_read, is_spelled}
use Rattle.exi_gram.specs.Codes.{Coded, HasMembers, IsClosedUp, Productions, Second, code_at, code_bits, coded, coded_from, coded_second, coded_seconds, first_told, first_values, going_on, group, group_unless_empty, kept_second, kept_seconds, longer, mapped, mapped_second, member_at, part_at, second_at, second_told, single, told, values_of}
use Rattle.exi_gram.specs.Laws.{CodeIsNoPrefix, CodeIsRead, CodeIsSpelled, MappedIsRead, PlacedIsNumbered, PrunedIsClosedUp, SpellsCode, codes, members, numbered, placed, placed_second, placed_seconds, places_from}
use Rattle.exi_gram.proofs.CodeItems.{CodeText, FirstTold, MemberTold, SecondTold, code_item}
use Rattle.exi_gram.proofs.CodeLists.{Stands, closed_head, closed_tail, some_is, StandsBehind, StandsFirst, StandsIn, first_count, going_group, going_longer, parts_in, place_of, stands_at, values_from, values_seconds}

-- ---- a part and the parts behind it
code_next : (a : Align) (cs rests : List (List ℕ)) (part count : ℕ) (parts : List ℕ) (text first second : List Bool) → values_of cs ≡ count → going_on part cs ≡ rests → text ≡ first ++ second → first ≡ number (width_for count) a part → second ≡ code_bits a rests parts → text ≡ code_bits a cs (part ∷ parts)
unfolding code_bits
code_next a cs rests part count parts text first second v g e f h =
    e ∙ ap (λ (z : List Bool). z ++ second) f
    ∙ ap (λ (z : List Bool). number (width_for count) a part ++ z) h
    ∙ ap (λ (k : ℕ). number (width_for k) a part ++ code_bits a rests parts) (sym v)
    ∙ ap (λ (z : List (List ℕ)). number (width_for (values_of cs)) a part ++ code_bits a z parts) (sym g)

code_last : (a : Align) (cs : List (List ℕ)) (part count : ℕ) (text first second : List Bool) → values_of cs ≡ count → text ≡ first ++ second → first ≡ number (width_for count) a part → second ≡ [] → text ≡ code_bits a cs (part ∷ [])
unfolding code_bits
code_last a cs part count text first second v e f h = code_next a cs (going_on part cs) part count [] text first second v refl e f h

pub code_parts : (a : Align) (cs rests : List (List ℕ)) (part count : ℕ) (parts : List ℕ) → values_of cs ≡ count → going_on part cs ≡ rests → code_bits a cs (part ∷ parts) ≡ number (width_for count) a part ++ code_bits a rests parts
unfolding code_bits
code_parts a cs rests part count parts v g =
    ap (λ (k : ℕ). number (width_for k) a part ++ code_bits a (going_on part cs) parts) v
    ∙ ap (λ (z : List (List ℕ)). number (width_for count) a part ++ code_bits a z parts) g

pub code_none : (a : Align) (cs : List (List ℕ)) → code_bits a cs [] ≡ []
unfolding code_bits
code_none a cs = refl

pub second_count : {X : Type 0} (xs : List (Second X)) → All HasMembers xs → values_of (parts_in (coded_seconds [] 0 xs)) ≡ length xs
second_count xs h = omega (arith, values_seconds 0 xs h)

pub third_count : {X : Type 0} (xs : List X) → values_of (parts_in (coded_from [] 0 xs)) ≡ length xs
third_count xs = omega (arith, values_from 0 xs)

pub group_behind : {X : Type 0} (xs : List (Second X)) (j : ℕ) (ys : List X) → slice_get xs j ≡ Some (group ys) → going_on j (parts_in (coded_seconds [] 0 xs)) ≡ parts_in (coded_from [] 0 ys)
group_behind {X} xs j ys e = let p : j ≡ 0 + j = omega arith in ap (λ (k : ℕ). going_on k (parts_in (coded_seconds [] 0 xs))) p ∙ going_group 0 xs j ys e

-- ---- what was read, as a code
spelled_at : {X : Type 0} (p : Productions X) (a : Align) (x : X) (parts : List ℕ) (text : List Bool) → Stands p (record { parts = parts; item = x }) → text ≡ code_bits a (codes p) parts → SpellsCode p a x text
spelled_at p a x parts text s e = let k = place_of p (record { parts = parts; item = x }) s in record { place = k.place; parts = parts; there = k.there; bits = e }

pub get_none : {X : Type 0} (xs : List X) (i : ℕ) → slice_get xs i ≡ None → length xs ≤ i
get_none [] i e = omega arith
get_none (x ∷ xs) zero e = absurd cc
get_none (x ∷ xs) (suc i) e = let h = get_none xs i e in omega arith

pub longer_few : {X : Type 0} (xs : List (Second X)) → longer xs ≤ 1
longer_few [] = omega arith
longer_few (x ∷ xs) = omega arith

member_spelled : {X : Type 0} (p : Productions X) → IsClosedUp p → (a : Align) (x : X) (text first second third last : List Bool) (j k : ℕ) (ys : List X) (o : Option X)
    → text ≡ first ++ second → first ≡ number (width_for (first_values p)) a (length p.firsts)
    → second ≡ third ++ last → third ≡ number (width_for (length p.seconds)) a j → slice_get p.seconds j ≡ Some (group ys)
    → (fourth : List Bool) (end : List Bool) → last ≡ fourth ++ end → fourth ≡ number (width_for (length ys)) a k → slice_get ys k ≡ o → MemberTold o x end → SpellsCode p a x text
member_spelled p h a x text first second third last j k ys None e f e' f' g fourth end e'' f'' g' m = absurd m
member_spelled {X} p h a x text first second third last j k ys (Some y) e f e' f' g fourth end e'' f'' g' m =
    let q : j ≡ 0 + j = omega arith in
    spelled_at p a x (length p.firsts ∷ j ∷ k ∷ []) text
    (inr (record { second = j; holds = group ys; there = g; stands = (k, g' ∙ ap (λ (z : X). Some z) m.0, ap (λ (i : ℕ). length p.firsts ∷ i ∷ k ∷ []) q) }))
    (code_next a (codes p) (parts_in (coded_seconds [] 0 p.seconds)) (length p.firsts) (first_values p) (j ∷ k ∷ []) text first second (first_count p h) (going_longer p) e f
    (code_next a (parts_in (coded_seconds [] 0 p.seconds)) (parts_in (coded_from [] 0 ys)) j (length p.seconds) (k ∷ []) second third last (second_count p.seconds h) (group_behind p.seconds j ys g) e' f'
    (code_last a (parts_in (coded_from [] 0 ys)) k (length ys) last fourth end (third_count ys) e'' f'' m.1)))

second_spelled : {X : Type 0} (p : Productions X) → IsClosedUp p → (a : Align) (x : X) (text first second third last : List Bool) (j : ℕ) (o : Option (Second X))
    → text ≡ first ++ second → first ≡ number (width_for (first_values p)) a (length p.firsts)
    → second ≡ third ++ last → third ≡ number (width_for (length p.seconds)) a j → slice_get p.seconds j ≡ o → SecondTold a o x last → SpellsCode p a x text
second_spelled p h a x text first second third last j None e f e' f' g m = absurd m
second_spelled {X} p h a x text first second third last j (Some (single y)) e f e' f' g m =
    let q : j ≡ 0 + j = omega arith in
    spelled_at p a x (length p.firsts ∷ j ∷ []) text
    (inr (record { second = j; holds = single y; there = g; stands = (m.0, ap (λ (i : ℕ). length p.firsts ∷ i ∷ []) q) }))
    (code_next a (codes p) (parts_in (coded_seconds [] 0 p.seconds)) (length p.firsts) (first_values p) (j ∷ []) text first second (first_count p h) (going_longer p) e f
    (code_last a (parts_in (coded_seconds [] 0 p.seconds)) j (length p.seconds) second third last (second_count p.seconds h) e' f' m.1))
second_spelled p h a x text first second third last j (Some (group ys)) e f e' f' g m =
    member_spelled p h a x text first second third last j m.by ys (slice_get ys m.by) e f e' f' g m.both.first m.both.second m.both.parts m.both.front.1 refl m.both.behind

first_spelled : {X : Type 0} (p : Productions X) → IsClosedUp p → (a : Align) (x : X) (text first second : List Bool) (i : ℕ) (o : Option X)
    → text ≡ first ++ second → first ≡ number (width_for (first_values p)) a i → i < first_values p → slice_get p.firsts i ≡ o → FirstTold a p.seconds o x second → SpellsCode p a x text
first_spelled {X} p h a x text first second i (Some y) e f less g m =
    let q : i ≡ 0 + i = omega arith in
    spelled_at p a x (i ∷ []) text
    (inl (record { first = i; there = g ∙ ap (λ (z : X). Some z) m.0; parts = ap (λ (k : ℕ). k ∷ []) q }))
    (code_last a (codes p) i (first_values p) text first second (first_count p h) e f m.1)
first_spelled p h a x text first second i None e f less g m =
    let q : i ≡ length p.firsts = omega (arith, get_none p.firsts i g, longer_few p.seconds) in
    second_spelled p h a x text first second m.both.first m.both.second m.by (slice_get p.seconds m.by) e (f ∙ ap (λ (k : ℕ). number (width_for (first_values p)) a k) q) m.both.parts m.both.front.1 refl m.both.behind

text_spelled : {X : Type 0} (p : Productions X) → IsClosedUp p → (a : Align) (x : X) (text : List Bool) → CodeText a p x text → SpellsCode p a x text
text_spelled p h a x text m = first_spelled p h a x text m.both.first m.both.second m.by (slice_get p.firsts m.by) m.both.parts m.both.front.1 m.both.front.0 refl m.both.behind

-- ---- a code, as it is read
first_text : {X : Type 0} (p : Productions X) → IsClosedUp p → (a : Align) (x : X) (parts : List ℕ) → StandsFirst [] 0 p.firsts (record { parts = parts; item = x }) → CodeText a p x (code_bits a (codes p) parts)
first_text p h a x parts s =
    let q : 0 + s.first ≡ s.first = omega arith in
    let e : parts ≡ s.first ∷ [] = s.parts ∙ ap (λ (k : ℕ). k ∷ []) q in
    record {
      by = s.first;
      both = record {
        first = number (width_for (first_values p)) a s.first;
        second = [];
        parts = ap (code_bits a (codes p)) e ∙ code_parts a (codes p) (going_on s.first (codes p)) s.first (first_values p) [] (first_count p h) refl ∙ ap (λ (z : List Bool). number (width_for (first_values p)) a s.first ++ z) (code_none a (going_on s.first (codes p)));
        front = (omega (arith, slice_get_within p.firsts s.first x s.there), refl);
        behind = rw s.there (refl, refl);
      };
    }

get_past : {X : Type 0} (xs : List X) → slice_get xs (length xs) ≡ None
get_past [] = refl
get_past (x ∷ xs) = get_past xs

pub some_longer : {X : Type 0} (xs : List (Second X)) (j : ℕ) (y : Second X) → slice_get xs j ≡ Some y → longer xs ≡ 1
some_longer [] j y e = absurd cc
some_longer (x ∷ xs) j y e = refl

second_text : {X : Type 0} (p : Productions X) → IsClosedUp p → (a : Align) (x : X) (parts : List ℕ) (j : ℕ) (y : Second X) → slice_get p.seconds j ≡ Some y → StandsIn (length p.firsts ∷ j ∷ []) y (record { parts = parts; item = x }) → (tail : List ℕ) × (parts ≡ length p.firsts ∷ j ∷ tail) × SecondTold a (Some y) x (code_bits a (going_on j (parts_in (coded_seconds [] 0 p.seconds))) tail)
second_text p h a x parts j (single y) g s = ([], s.1, (s.0, code_none a (going_on j (parts_in (coded_seconds [] 0 p.seconds)))))
second_text p h a x parts j (group ys) g s = (
  s.0 ∷ [],
  s.2,
  record {
    by = s.0;
    both = record {
      first = number (width_for (length ys)) a s.0;
      second = [];
      parts =
          ap (λ (z : List (List ℕ)). code_bits a z (s.0 ∷ [])) (group_behind p.seconds j ys g)
          ∙ code_parts a (parts_in (coded_from [] 0 ys)) (going_on s.0 (parts_in (coded_from [] 0 ys))) s.0 (length ys) [] (third_count ys) refl
          ∙ ap (λ (z : List Bool). number (width_for (length ys)) a s.0 ++ z) (code_none a (going_on s.0 (parts_in (coded_from [] 0 ys))));
      front = (slice_get_within ys s.0 x s.1, refl);
      behind = rw s.1 (refl, refl);
    };
  },
)

behind_text : {X : Type 0} (p : Productions X) → IsClosedUp p → (a : Align) (x : X) (parts : List ℕ) → StandsBehind (length p.firsts ∷ []) 0 p.seconds (record { parts = parts; item = x }) → CodeText a p x (code_bits a (codes p) parts)
behind_text {X} p h a x parts s =
    let q : 0 + s.second ≡ s.second = omega arith in
    let st : StandsIn (length p.firsts ∷ s.second ∷ []) s.holds (record { parts = parts; item = x }) = subst (λ (k : ℕ). StandsIn (length p.firsts ∷ k ∷ []) s.holds (record { parts = parts; item = x })) q s.stands in
    let t = second_text p h a x parts s.second s.holds s.there st in
    let seconds : List (List ℕ) = parts_in (coded_seconds [] 0 p.seconds) in
    record {
      by = length p.firsts;
      both = record {
        first = number (width_for (first_values p)) a (length p.firsts);
        second = code_bits a seconds (s.second ∷ t.0);
        parts = ap (code_bits a (codes p)) t.1 ∙ code_parts a (codes p) seconds (length p.firsts) (first_values p) (s.second ∷ t.0) (first_count p h) (going_longer p);
        front = (omega (arith, some_longer p.seconds s.second s.holds s.there), refl);
        behind = subst (λ (o : Option X). FirstTold a p.seconds o x (code_bits a seconds (s.second ∷ t.0))) (sym (get_past p.firsts)) (record {
          by = s.second;
          both = record {
            first = number (width_for (length p.seconds)) a s.second;
            second = code_bits a (going_on s.second seconds) t.0;
            parts = code_parts a seconds (going_on s.second seconds) s.second (length p.seconds) t.0 (second_count p.seconds h) refl;
            front = (slice_get_within p.seconds s.second s.holds s.there, refl);
            behind = subst (λ (o : Option (Second X)). SecondTold a o x (code_bits a (going_on s.second seconds) t.0)) (sym s.there) t.2;
          };
        });
      };
    }

code_text : {X : Type 0} (p : Productions X) → IsClosedUp p → (a : Align) (x : X) (text : List Bool) → SpellsCode p a x text → CodeText a p x text
code_text p h a x text m = elim (stands_at p m.place (record { parts = m.parts; item = x }) m.there) [
  | inl s ↦ subst (CodeText a p x) (sym m.bits) (first_text p h a x m.parts s)
  | inr s ↦ subst (CodeText a p x) (sym m.bits) (behind_text p h a x m.parts s)
]

pub spelled_item : {X : Type 0} (p : Productions X) → IsClosedUp p → (a : Align) → Item a (code_at a p) (SpellsCode p a)
spelled_item p h a = item_spelled a (code_at a p) (CodeText a p) (SpellsCode p a) (text_spelled p h a) (code_text p h a) (code_item a p)

pub code_spelled : {X : Type 0} → CodeIsSpelled X
code_spelled p h = is_spelled (λ a. code_at a p) (SpellsCode p) (spelled_item p h)

pub code_read : {X : Type 0} → CodeIsRead X
code_read p h = is_read (λ a. code_at a p) (SpellsCode p) (spelled_item p h)

-- ---- pruning
closed_append : {X : Type 0} (xs ys : List (Second X)) → All HasMembers xs → All HasMembers ys → All HasMembers (xs ++ ys)
closed_append [] ys h k = k
closed_append (x ∷ xs) ys h k = All-cons HasMembers x (xs ++ ys) (h 0 x (omega arith)) (closed_append xs ys (λ i d less. h (suc i) d (omega arith)) k)

group_closed : {X : Type 0} (xs : List X) → All HasMembers (group_unless_empty xs)
group_closed [] = All-nil HasMembers
group_closed (x ∷ xs) = All-cons HasMembers (group (x ∷ xs)) [] (λ e. cc) (All-nil HasMembers)

kept_closed : {X : Type 0} (keep : X → Bool) (x : Second X) → All HasMembers (kept_second keep x)
kept_closed keep (single x) = elim (keep x) as (λ b. All HasMembers (cond b (single x ∷ []) [])) [ true ↦ All-cons HasMembers (single x) [] tt (All-nil HasMembers) | false ↦ All-nil HasMembers ]
kept_closed keep (group xs) = group_closed (filter keep xs)

pub pruned_closed : {X : Type 0} → PrunedIsClosedUp X
pruned_closed {X} keep p = all p.seconds
  where
    all : (xs : List (Second X)) → All HasMembers (kept_seconds keep xs)
    all [] = All-nil HasMembers
    all (x ∷ xs) = closed_append (kept_second keep x) (kept_seconds keep xs) (kept_closed keep x) (all xs)

-- ---- other things in the productions' place
length_places : {X : Type 0} (place : ℕ) (xs : List X) → length (places_from place xs) ≡ length xs
length_places place [] = refl
length_places place (x ∷ xs) = ap suc (length_places (suc place) xs)

numbered-append : {X : Type 0} (place : ℕ) (xs ys : List (Coded X)) → numbered place (xs ++ ys) ≡ numbered place xs ++ numbered (place + length xs) ys
numbered-append place [] ys = let e : place ≡ place + 0 = omega arith in ap (λ (k : ℕ). numbered k ys) e
numbered-append place (x ∷ xs) ys =
    let e : suc place + length xs ≡ place + suc (length xs) = omega arith in
    ap (λ (z : List (Coded ℕ)). record { parts = x.parts; item = place } ∷ z) (numbered-append (suc place) xs ys ∙ ap (λ (k : ℕ). numbered (suc place) xs ++ numbered k ys) e)

from_numbered : {X : Type 0} (front : List ℕ) (part place : ℕ) (xs : List X) → coded_from front part (places_from place xs) ≡ numbered place (coded_from front part xs)
from_numbered front part place [] = refl
from_numbered front part place (x ∷ xs) = ap (λ (z : List (Coded ℕ)). record { parts = front ++ part ∷ []; item = place } ∷ z) (from_numbered front (suc part) (suc place) xs)

second_numbered : {X : Type 0} (front : List ℕ) (part place : ℕ) (x : Second X) → coded_second front part (placed_second place x) ≡ numbered place (coded_second front part x)
second_numbered front part place (single x) = refl
second_numbered front part place (group xs) = from_numbered (front ++ part ∷ []) 0 place xs

length_from : {X : Type 0} (front : List ℕ) (part : ℕ) (xs : List X) → length (coded_from front part xs) ≡ length xs
length_from front part [] = refl
length_from front part (x ∷ xs) = ap suc (length_from front (suc part) xs)

length_second : {X : Type 0} (front : List ℕ) (part : ℕ) (x : Second X) → length (coded_second front part x) ≡ members x
length_second front part (single x) = refl
length_second front part (group xs) = length_from (front ++ part ∷ []) 0 xs

seconds_numbered : {X : Type 0} (front : List ℕ) (part place : ℕ) (xs : List (Second X)) → coded_seconds front part (placed_seconds place xs) ≡ numbered place (coded_seconds front part xs)
seconds_numbered front part place [] = refl
seconds_numbered {X} front part place (x ∷ xs) =
    ap (λ (z : List (Coded ℕ)). z ++ coded_seconds front (suc part) (placed_seconds (place + members x) xs)) (second_numbered front part place x)
    ∙ ap (λ (z : List (Coded ℕ)). numbered place (coded_second front part x) ++ z) (seconds_numbered front (suc part) (place + members x) xs)
    ∙ ap (λ (k : ℕ). numbered place (coded_second front part x) ++ numbered (place + k) (coded_seconds front (suc part) xs)) (sym (length_second front part x))
    ∙ sym (numbered-append place (coded_second front part x) (coded_seconds front (suc part) xs))

pub placed_numbered : {X : Type 0} → PlacedIsNumbered X
placed_numbered {X} p =
    let n : length (places_from 0 p.firsts) ≡ length p.firsts = length_places 0 p.firsts in
    let m : length p.firsts ≡ 0 + length (coded_from [] 0 p.firsts) = omega (arith, length_from [] 0 p.firsts) in
    ap (λ (k : ℕ). coded_from [] 0 (places_from 0 p.firsts) ++ coded_seconds (k ∷ []) 0 (placed_seconds (length p.firsts) p.seconds)) n
    ∙ ap (λ (z : List (Coded ℕ)). z ++ coded_seconds (length p.firsts ∷ []) 0 (placed_seconds (length p.firsts) p.seconds)) (from_numbered [] 0 0 p.firsts)
    ∙ ap (λ (z : List (Coded ℕ)). numbered 0 (coded_from [] 0 p.firsts) ++ z) (seconds_numbered (length p.firsts ∷ []) 0 (length p.firsts) p.seconds)
    ∙ ap (λ (k : ℕ). numbered 0 (coded_from [] 0 p.firsts) ++ numbered k (coded_seconds (length p.firsts ∷ []) 0 p.seconds)) m
    ∙ sym (numbered-append 0 (coded_from [] 0 p.firsts) (coded_seconds (length p.firsts ∷ []) 0 p.seconds))

numbered_get : {X : Type 0} (place : ℕ) (cs : List (Coded X)) (i : ℕ) (c : Coded X) → slice_get cs i ≡ Some c → slice_get (numbered place cs) i ≡ Some (record { parts = c.parts; item = place + i })
numbered_get place [] i c e = absurd cc
numbered_get {X} place (d ∷ cs) zero c e =
    let p : place ≡ place + 0 = omega arith in
    let q : Some d.parts ≡ Some c.parts = ap (λ (o : Option (Coded X)). option_map (λ d. d.parts) o) e in
    ap (λ (k : ℕ). Some (record { parts = d.parts; item = k })) p ∙ ap (λ (o : Option (List ℕ)). option_map (λ parts. record { parts = parts; item = place + 0 }) o) q
numbered_get place (d ∷ cs) (suc i) c e =
    let p : suc place + i ≡ place + suc i = omega arith in
    numbered_get (suc place) cs i c e ∙ ap (λ (k : ℕ). Some (record { parts = c.parts; item = k })) p

numbered_codes : {X : Type 0} (place : ℕ) (cs : List (Coded X)) → map (λ c. c.parts) (numbered place cs) ≡ map (λ c. c.parts) cs
numbered_codes place [] = refl
numbered_codes place (c ∷ cs) = ap (λ (z : List (List ℕ)). c.parts ∷ z) (numbered_codes (suc place) cs)

pub placed_codes : {X : Type 0} (p : Productions X) → codes (placed p) ≡ codes p
placed_codes p = ap (λ (cs : List (Coded ℕ)). map (λ c. c.parts) cs) (placed_numbered p) ∙ numbered_codes 0 (coded p)

pub placed_get : {X : Type 0} (p : Productions X) (i : ℕ) (c : Coded X) → slice_get (coded p) i ≡ Some c → slice_get (coded (placed p)) i ≡ Some (record { parts = c.parts; item = i })
placed_get p i c e =
    let q : 0 + i ≡ i = omega arith in
    ap (λ (cs : List (Coded ℕ)). slice_get cs i) (placed_numbered p) ∙ numbered_get 0 (coded p) i c e ∙ ap (λ (k : ℕ). Some (record { parts = c.parts; item = k })) q

placed_seconds_closed : {X : Type 0} (place : ℕ) (xs : List (Second X)) → All HasMembers xs → All HasMembers (placed_seconds place xs)
placed_seconds_closed place [] h = All-nil HasMembers
placed_seconds_closed place (x ∷ xs) h = All-cons HasMembers (placed_second place x) (placed_seconds (place + members x) xs) (head x (closed_head x xs h)) (placed_seconds_closed (place + members x) xs (closed_tail x xs h))
  where
    head : {X : Type 0} (x : Second X) → HasMembers x → HasMembers (placed_second place x)
    head (single x) h = tt
    head (group []) h = absurd (h refl)
    head (group (x ∷ xs)) h = λ e. cc

pub placed_closed : {X : Type 0} (p : Productions X) → IsClosedUp p → IsClosedUp (placed p)
placed_closed p h = placed_seconds_closed (length p.firsts) p.seconds h

pub placed_spells : {X : Type 0} (p : Productions X) (a : Align) (i : ℕ) (c : Coded X) → slice_get (coded p) i ≡ Some c → SpellsCode (placed p) a i (code_bits a (codes p) c.parts)
placed_spells p a i c e = record { place = i; parts = c.parts; there = placed_get p i c e; bits = ap (λ (cs : List (List ℕ)). code_bits a cs c.parts) (sym (placed_codes p)) }

pub code_no_prefix : {X : Type 0} → CodeIsNoPrefix X
code_no_prefix {X} p h a i j c d more e f t =
    let n = item_no_prefix a (code_at a (placed p)) (SpellsCode (placed p) a) (spelled_item (placed p) (placed_closed p h) a) i j (code_bits a (codes p) c.parts) (code_bits a (codes p) d.parts) more (placed_spells p a i c e) (placed_spells p a j d f) t in
    let g : Some c ≡ Some d = sym e ∙ ap (slice_get (coded p)) n.0 ∙ f in
    (n.0, some_is c d g, n.1)

bind_mapped : {W X Y : Type 0} (r : Result (W × Spot) Fault) (g : W × Spot → Result (Y × Spot) Fault) (h : W × Spot → Result (X × Spot) Fault) (f : X → Y) → ((w : W × Spot) → g w ≡ (h w >>= λ x. Ok (f x.0, x.1))) → (r >>= g) ≡ ((r >>= h) >>= λ x. Ok (f x.0, x.1))
bind_mapped (Ok w) g h f e = e w
bind_mapped (Err x) g h f e = refl

told_mapped : {X Y : Type 0} (f : X → Y) (o : Option X) (s : Spot) → told (option_map f o) s ≡ (told o s >>= λ x. Ok (f x.0, x.1))
told_mapped f None s = refl
told_mapped f (Some x) s = refl

member_mapped : {X Y : Type 0} (f : X → Y) (xs : List X) (a : Align) (s : Spot) → member_at a (map f xs) s ≡ (member_at a xs s >>= λ x. Ok (f x.0, x.1))
unfolding member_at
member_mapped {X} {Y} f xs a s =
    ap (λ (n : ℕ). part_at n a s >>= λ third. told (slice_get (map f xs) third.0) third.1) (length-map xs f)
    ∙ bind_mapped (part_at (length xs) a s) (λ third. told (slice_get (map f xs) third.0) third.1) (λ third. told (slice_get xs third.0) third.1) f (λ w. ap (λ (o : Option Y). told o w.1) (slice_get-map f xs w.0) ∙ told_mapped f (slice_get xs w.0) w.1)

second_told_mapped : {X Y : Type 0} (f : X → Y) (a : Align) (o : Option (Second X)) (s : Spot) → second_told a (option_map (mapped_second f) o) s ≡ (second_told a o s >>= λ x. Ok (f x.0, x.1))
second_told_mapped f a None s = refl
second_told_mapped f a (Some (single x)) s = refl
second_told_mapped f a (Some (group xs)) s = member_mapped f xs a s

second_mapped : {X Y : Type 0} (f : X → Y) (xs : List (Second X)) (a : Align) (s : Spot) → second_at a (map (mapped_second f) xs) s ≡ (second_at a xs s >>= λ x. Ok (f x.0, x.1))
unfolding second_at
second_mapped {X} {Y} f xs a s =
    ap (λ (n : ℕ). part_at n a s >>= λ second. second_told a (slice_get (map (mapped_second f) xs) second.0) second.1) (length-map xs (mapped_second f))
    ∙ bind_mapped (part_at (length xs) a s) (λ second. second_told a (slice_get (map (mapped_second f) xs) second.0) second.1) (λ second. second_told a (slice_get xs second.0) second.1) f (λ w. ap (λ (o : Option (Second Y)). second_told a o w.1) (slice_get-map (mapped_second f) xs w.0) ∙ second_told_mapped f a (slice_get xs w.0) w.1)

first_told_mapped : {X Y : Type 0} (f : X → Y) (a : Align) (xs : List (Second X)) (o : Option X) (s : Spot) → first_told a (map (mapped_second f) xs) (option_map f o) s ≡ (first_told a xs o s >>= λ x. Ok (f x.0, x.1))
first_told_mapped f a xs None s = second_mapped f xs a s
first_told_mapped f a xs (Some x) s = refl

longer_mapped : {X Y : Type 0} (f : X → Y) (xs : List (Second X)) → longer (map (mapped_second f) xs) ≡ longer xs
longer_mapped f [] = refl
longer_mapped f (x ∷ xs) = refl

pub mapped_read : {X Y : Type 0} → MappedIsRead X Y
unfolding code_at
mapped_read {X} {Y} f p a s =
    let n : first_values (mapped f p) ≡ first_values p = omega (arith, length-map p.firsts f, longer_mapped f p.seconds) in
    ap (λ (n : ℕ). part_at n a s >>= λ first. first_told a (map (mapped_second f) p.seconds) (slice_get (map f p.firsts) first.0) first.1) n
    ∙ bind_mapped (part_at (first_values p) a s) (λ first. first_told a (map (mapped_second f) p.seconds) (slice_get (map f p.firsts) first.0) first.1) (λ first. first_told a p.seconds (slice_get p.firsts first.0) first.1) f (λ w. ap (λ (o : Option Y). first_told a (map (mapped_second f) p.seconds) o w.1) (slice_get-map f p.firsts w.0) ∙ first_told_mapped f a p.seconds (slice_get p.firsts w.0) w.1)
