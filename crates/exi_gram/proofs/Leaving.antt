-- What options leave of the productions of a state, put together one by one.
use Rattle.std.proofs.Common.{◌≡◌, inl, inr, ℕ, zero, suc, ◌+◌, ◌<◌, ◌≤◌, Bool, true, false, cond, List, [], ◌∷◌, ◌++◌, length, map, take, drop, filter, get_or, slice_get, Some, refl, sym, ap, ◌∙◌, subst, append_assoc, arith}
use Rattle.std.proofs.lemmas.Bool.{cases_Bool}
use Rattle.std.proofs.lemmas.List.{append-nil, length-append, length-take, length-drop, map-append, take_all, take_more, take-map, drop-map, get_or-map}
use Rattle.std.proofs.lemmas.List.Elements.{filter_more}
use Rattle.std.proofs.lemmas.Option.{get_or_from_slice_get, slice_get-get_or}
use Rattle.exi_gram.specs.declared.code.Coded.{Coded as Kept}
use Rattle.exi_gram.specs.declared.second.SecondPart.{SecondPart}
use Rattle.exi_gram.specs.declared.options.Options.{Options}
use Rattle.exi_gram.specs.Books.{is_kept, left_of}
use Rattle.exi_gram.specs.Codes.{Coded, Productions, Second, coded_from, coded_second, coded_seconds, group, group_unless_empty, kept_second, kept_seconds, single}
use Rattle.exi_gram.specs.Laws.{members}
use Rattle.exi_gram.specs.Naming.{Entry}
use Rattle.exi_gram.specs.Terminals.{Rule}
use Rattle.exi_gram.specs.Wholes.{listed}
use Rattle.exi_gram.specs.Tables.{Follow, IsTable, as_single, coded_of, ends_in_group, items_of, kept_entry, most_productions, second_of, size, slice, table_of, with_first, with_firsts, with_member, with_second, with_seconds}
use Rattle.exi_gram.proofs.TableLists.{count_items, ends_is, follow_within, last_is}

-- ---- how many productions there are
abbrev pub total : {X : Type 0} → List (Second X) → ℕ
total [] = 0
total (x ∷ xs) = members x + total xs

from_count : {X : Type 0} (front : List ℕ) (part : ℕ) (xs : List X) → length (coded_from front part xs) ≡ length xs
from_count front part [] = refl
from_count front part (x ∷ xs) = ap suc (from_count front (suc part) xs)

second_count : {X : Type 0} (front : List ℕ) (part : ℕ) (x : Second X) → length (coded_second front part x) ≡ members x
second_count front part (single x) = refl
second_count front part (group xs) = from_count (front ++ part ∷ []) 0 xs

seconds_count : {X : Type 0} (front : List ℕ) (part : ℕ) (xs : List (Second X)) → length (coded_seconds front part xs) ≡ total xs
seconds_count front part [] = refl
seconds_count front part (x ∷ xs) = omega (arith, length-append (coded_second front part x) (coded_seconds front (suc part) xs), second_count front part x, seconds_count front (suc part) xs)

pub size_total : {X : Type 0} (p : Productions X) → size p ≡ length p.firsts + total p.seconds
size_total p = omega (arith, length-append (coded_from [] 0 p.firsts) (coded_seconds (length p.firsts ∷ []) 0 p.seconds), from_count [] 0 p.firsts, seconds_count (length p.firsts ∷ []) 0 p.seconds)

total-append : {X : Type 0} (xs ys : List (Second X)) → total (xs ++ ys) ≡ total xs + total ys
total-append [] ys = omega arith
total-append (x ∷ xs) ys = omega (arith, total-append xs ys)

unless_total : {X : Type 0} (xs : List X) → total (group_unless_empty xs) ≡ length xs
unless_total [] = refl
unless_total (x ∷ xs) = omega arith

pub filter_few : {X : Type 0} (keep : X → Bool) (xs : List X) → length (filter keep xs) ≤ length xs
filter_few keep [] = omega arith
filter_few keep (x ∷ xs) = elim (cases_Bool (keep x)) [
  | inl yes_is ↦ rw yes_is (omega (arith, filter_few keep xs))
  | inr no_is ↦ rw no_is (omega (arith, filter_few keep xs))
]

kept_few : {X : Type 0} (keep : X → Bool) (x : Second X) → total (kept_second keep x) ≤ members x
kept_few keep (single x) = elim (cases_Bool (keep x)) [
  | inl yes_is ↦ rw yes_is (omega arith)
  | inr no_is ↦ rw no_is (omega arith)
]
kept_few keep (group xs) = omega (arith, unless_total (filter keep xs), filter_few keep xs)

seconds_few : {X : Type 0} (keep : X → Bool) (xs : List (Second X)) → total (kept_seconds keep xs) ≤ total xs
seconds_few keep [] = omega arith
seconds_few keep (x ∷ xs) = omega (arith, total-append (kept_second keep x) (kept_seconds keep xs), kept_few keep x, seconds_few keep xs)

-- ---- one production more
-- the first productions, so far
abbrev pub SoFar : {X : Type 0} → (X → Bool) → List X → ℕ → List X
SoFar keep xs index = filter keep (take index xs)

abbrev pub is_any : {X : Type 0} → List X → Bool
is_any [] = false
is_any (x ∷ xs) = true

pub left_here : {X : Type 0} (keep : X → Bool) (xs : List X) (index : ℕ) (d : X) → index < length xs → keep (get_or xs index d) ≡ true → SoFar keep xs (index + 1) ≡ SoFar keep xs index ++ get_or xs index d ∷ []
left_here keep xs index d within kept = rw kept at (filter_more keep xs index d within)

pub left_past : {X : Type 0} (keep : X → Bool) (xs : List X) (index : ℕ) (d : X) → index < length xs → keep (get_or xs index d) ≡ false → SoFar keep xs (index + 1) ≡ SoFar keep xs index
left_past keep xs index d within past = rw past at (filter_more keep xs index d within) ∙ append-nil (SoFar keep xs index)

pub so_far_few : {X : Type 0} (keep : X → Bool) (xs : List X) (index : ℕ) → length (SoFar keep xs index) ≤ index
so_far_few keep xs index = omega (arith, filter_few keep (take index xs), length-take index xs)

-- with a code of one part
pub first_more : {X : Type 0} (p : Productions X) (xs : List X) (x : X) → with_first (with_firsts p xs) x ≡ with_firsts p (xs ++ x ∷ [])
first_more {X} p xs x = ap (λ (z : List X). record { firsts = z; seconds = p.seconds }) (append_assoc p.firsts xs (x ∷ []))

pub firsts_size : {X : Type 0} (p : Productions X) (xs : List X) → size (with_firsts p xs) ≡ size p + length xs
firsts_size p xs = omega (arith, size_total p, size_total (with_firsts p xs), length-append p.firsts xs)

-- in a group
any_last : {X : Type 0} (xs : List X) (x : X) → is_any (xs ++ x ∷ []) ≡ true
any_last [] x = refl
any_last (y ∷ ys) x = refl

pub group_starts : {X : Type 0} (p : Productions X) (xs : List X) (x : X) → is_any xs ≡ false → with_second (with_seconds p (group_unless_empty xs)) (group (x ∷ [])) ≡ with_seconds p (group_unless_empty (xs ++ x ∷ []))
group_starts {X} p [] x e = ap (λ (z : List (Second X)). record { firsts = p.firsts; seconds = z ++ group (x ∷ []) ∷ [] }) (append-nil p.seconds)
group_starts p (y ∷ ys) x e = absurd cc

pub group_goes_on : {X : Type 0} (p : Productions X) (xs : List X) (x : X) → is_any xs ≡ true → with_member (with_seconds p (group_unless_empty xs)) x ≡ with_seconds p (group_unless_empty (xs ++ x ∷ []))
group_goes_on p [] x e = absurd cc
group_goes_on {X} p (y ∷ ys) x e = ap (λ (z : List (Second X)). record { firsts = p.firsts; seconds = z }) (last_is p.seconds (y ∷ ys) x)

pub group_ends : {X : Type 0} (p : Productions X) (xs : List X) → is_any xs ≡ true → ends_in_group (with_seconds p (group_unless_empty xs)).seconds ≡ true
group_ends p [] e = absurd cc
group_ends p (y ∷ ys) e = ends_is p.seconds (group (y ∷ ys))

pub group_size : {X : Type 0} (p : Productions X) (xs : List X) → size (with_seconds p (group_unless_empty xs)) ≡ size p + length xs
group_size p xs = omega (arith, size_total p, size_total (with_seconds p (group_unless_empty xs)), total-append p.seconds (group_unless_empty xs), unless_total xs)

-- ---- one second part more
kept-append : {X : Type 0} (keep : X → Bool) (xs ys : List (Second X)) → kept_seconds keep (xs ++ ys) ≡ kept_seconds keep xs ++ kept_seconds keep ys
kept-append keep [] ys = refl
kept-append {X} keep (x ∷ xs) ys = ap (λ (z : List (Second X)). kept_second keep x ++ z) (kept-append keep xs ys) ∙ sym (append_assoc (kept_second keep x) (kept_seconds keep xs) (kept_seconds keep ys))

-- ---- the loops
-- the production at a place of what is kept
item_at : (cs : List Kept) (index : ℕ) (c : Kept) → index < length cs → c ≡ get_or cs index c → get_or (items_of cs) index (kept_entry c) ≡ kept_entry c
item_at cs index c within e = get_or-map kept_entry cs index c (kept_entry c) within ∙ ap kept_entry (sym e)

items_within : (cs : List Kept) (index : ℕ) → index < length cs → index < length (items_of cs)
items_within cs index within = omega (arith, count_items cs)

kept_here : (keep : Entry → Bool) (cs : List Kept) (index : ℕ) (c : Kept) → index < length cs → c ≡ get_or cs index c → keep (kept_entry c) ≡ true → SoFar keep (items_of cs) (index + 1) ≡ SoFar keep (items_of cs) index ++ kept_entry c ∷ []
kept_here keep cs index c within e kept =
    let i = item_at cs index c within e in
    left_here keep (items_of cs) index (kept_entry c) (items_within cs index within) (ap keep i ∙ kept) ∙ ap (λ (x : Entry). SoFar keep (items_of cs) index ++ x ∷ []) i

pub kept_past : (keep : Entry → Bool) (cs : List Kept) (index : ℕ) (c : Kept) → index < length cs → c ≡ get_or cs index c → keep (kept_entry c) ≡ false → SoFar keep (items_of cs) (index + 1) ≡ SoFar keep (items_of cs) index
kept_past keep cs index c within e past =
    left_past keep (items_of cs) index (kept_entry c) (items_within cs index within) (ap keep (item_at cs index c within e) ∙ past)

pub firsts_here : (keep : Entry → Bool) (cs : List Kept) (index : ℕ) (c : Kept) (p now new : Productions Entry) (x : Entry) → index < length cs → c ≡ get_or cs index c → keep (kept_entry c) ≡ true → now ≡ with_firsts p (SoFar keep (items_of cs) index) → x ≡ kept_entry c → new ≡ with_first now x → new ≡ with_firsts p (SoFar keep (items_of cs) (index + 1))
firsts_here keep cs index c p now new x within e kept so_far same n =
    n
    ∙ ap (λ (y : Entry). with_first now y) same
    ∙ ap (λ (q : Productions Entry). with_first q (kept_entry c)) so_far
    ∙ first_more p (SoFar keep (items_of cs) index) (kept_entry c)
    ∙ ap (with_firsts p) (sym (kept_here keep cs index c within e kept))

pub firsts_room : (keep : Entry → Bool) (cs : List Kept) (index : ℕ) (p now : Productions Entry) (most : ℕ) → index < length cs → now ≡ with_firsts p (SoFar keep (items_of cs) index) → size p + length cs ≤ most → size now < most
firsts_room keep cs index p now most within so_far room =
    omega (arith, ap size so_far ∙ firsts_size p (SoFar keep (items_of cs) index), so_far_few keep (items_of cs) index)

-- the members of a group so far, and whether there is one
abbrev pub Grouping : (Entry → Bool) → List Kept → ℕ → Productions Entry → Productions Entry → Bool → Type 0
Grouping keep cs index p now any = (now ≡ with_seconds p (group_unless_empty (SoFar keep (items_of cs) index))) × (any ≡ is_any (SoFar keep (items_of cs) index))

pub group_starts_here : (keep : Entry → Bool) (cs : List Kept) (index : ℕ) (c : Kept) (p now new : Productions Entry) (any after : Bool) (x : Entry) → index < length cs → c ≡ get_or cs index c → keep (kept_entry c) ≡ true → Grouping keep cs index p now any → any ≡ false → x ≡ kept_entry c → new ≡ with_second now (group (x ∷ [])) → after ≡ true → Grouping keep cs (index + 1) p new after
group_starts_here keep cs index c p now new any after x within e kept so_far none same n a =
    let k = kept_here keep cs index c within e kept in (
      n
          ∙ ap (λ (y : Entry). with_second now (group (y ∷ []))) same
          ∙ ap (λ (q : Productions Entry). with_second q (group (kept_entry c ∷ []))) so_far.0
          ∙ group_starts p (SoFar keep (items_of cs) index) (kept_entry c) (sym so_far.1 ∙ none)
          ∙ ap (λ (xs : List Entry). with_seconds p (group_unless_empty xs)) (sym k),
      a ∙ sym (ap is_any k ∙ any_last (SoFar keep (items_of cs) index) (kept_entry c)),
    )

pub group_goes_on_here : (keep : Entry → Bool) (cs : List Kept) (index : ℕ) (c : Kept) (p now new : Productions Entry) (any after : Bool) (x : Entry) → index < length cs → c ≡ get_or cs index c → keep (kept_entry c) ≡ true → Grouping keep cs index p now any → any ≡ true → x ≡ kept_entry c → new ≡ with_member now x → after ≡ any → Grouping keep cs (index + 1) p new after
group_goes_on_here keep cs index c p now new any after x within e kept so_far some same n a =
    let k = kept_here keep cs index c within e kept in (
      n
          ∙ ap (λ (y : Entry). with_member now y) same
          ∙ ap (λ (q : Productions Entry). with_member q (kept_entry c)) so_far.0
          ∙ group_goes_on p (SoFar keep (items_of cs) index) (kept_entry c) (sym so_far.1 ∙ some)
          ∙ ap (λ (xs : List Entry). with_seconds p (group_unless_empty xs)) (sym k),
      a ∙ some ∙ sym (ap is_any k ∙ any_last (SoFar keep (items_of cs) index) (kept_entry c)),
    )

pub group_stays : (keep : Entry → Bool) (cs : List Kept) (index : ℕ) (c : Kept) (p now : Productions Entry) (any : Bool) → index < length cs → c ≡ get_or cs index c → keep (kept_entry c) ≡ false → Grouping keep cs index p now any → Grouping keep cs (index + 1) p now any
group_stays keep cs index c p now any within e past so_far =
    subst (λ (xs : List Entry). (now ≡ with_seconds p (group_unless_empty xs)) × (any ≡ is_any xs)) (sym (kept_past keep cs index c within e past)) so_far

pub group_ends_here : (keep : Entry → Bool) (cs : List Kept) (index : ℕ) (p now : Productions Entry) (any : Bool) → Grouping keep cs index p now any → any ≡ true → ends_in_group now.seconds ≡ true
group_ends_here keep cs index p now any so_far some =
    ap (λ (q : Productions Entry). ends_in_group q.seconds) so_far.0 ∙ group_ends p (SoFar keep (items_of cs) index) (sym so_far.1 ∙ some)

pub group_room : (keep : Entry → Bool) (cs : List Kept) (index : ℕ) (p now : Productions Entry) (any : Bool) (most : ℕ) → index < length cs → Grouping keep cs index p now any → size p + length cs ≤ most → size now < most
group_room keep cs index p now any most within so_far room =
    omega (arith, ap size so_far.0 ∙ group_size p (SoFar keep (items_of cs) index), so_far_few keep (items_of cs) index)

-- all of them
pub all_so_far : (keep : Entry → Bool) (cs : List Kept) → SoFar keep (items_of cs) (length cs) ≡ filter keep (items_of cs)
all_so_far keep cs = ap (filter keep) (take_all (length cs) (items_of cs) (omega (arith, count_items cs)))

-- ---- the second parts so far
part_members : {X : Type 0} (xs : List X) (s : SecondPart) → s.begin + s.count ≤ length xs → (s.group ≡ false → s.count ≡ 1) → members (second_of xs s) ≡ s.count
part_members {X} xs s le one = by s.group (slice xs s) one (omega (arith, length-take s.count (drop s.begin xs), length-drop s.begin xs))
  where
    by : (grouped : Bool) (ys : List X) → (grouped ≡ false → s.count ≡ 1) → length ys ≡ s.count → members (cond grouped (group ys) (as_single ys)) ≡ s.count
    by true ys h n = n
    by false [] h n = absurd (omega (arith, h refl))
    by false (y ∷ ys) h n = sym (h refl)

prefix_total : {X : Type 0} (xs : List X) (place : ℕ) (ss : List SecondPart) (end index : ℕ) (d : SecondPart) → Follow place ss end → end ≤ length xs → index < length ss → place + total (map (second_of xs) (take index ss)) ≡ (get_or ss index d).begin
prefix_total xs place [] end index d h le within = absurd (omega arith)
prefix_total xs place (s ∷ ss) end zero d h le within = omega (arith, h.0)
prefix_total xs place (s ∷ ss) end (suc index) d h le within =
    let w = follow_within (place + s.count) ss end h.3 in
    let m = part_members xs s (omega (arith, h.0)) h.2 in
    let k = prefix_total xs (place + s.count) ss end index d h.3 le (omega arith) in
    omega arith

part_within : (place : ℕ) (ss : List SecondPart) (end index : ℕ) (d : SecondPart) → Follow place ss end → index < length ss → (get_or ss index d).begin + (get_or ss index d).count ≤ end
part_within place [] end index d h within = absurd (omega arith)
part_within place (s ∷ ss) end zero d h within = let w = follow_within (place + s.count) ss end h.3 in omega (arith, h.0)
part_within place (s ∷ ss) end (suc index) d h within = part_within (place + s.count) ss end index d h.3 (omega arith)

part_one : (place : ℕ) (ss : List SecondPart) (end index : ℕ) (d : SecondPart) → Follow place ss end → index < length ss → (1 ≤ (get_or ss index d).count) × ((get_or ss index d).group ≡ false → (get_or ss index d).count ≡ 1)
part_one place [] end index d h within = absurd (omega arith)
part_one place (s ∷ ss) end zero d h within = (h.1, h.2)
part_one place (s ∷ ss) end (suc index) d h within = part_one (place + s.count) ss end index d h.3 (omega arith)

-- what is left of the productions up to a second part
abbrev pub LeftTo : (Entry → Bool) → List Kept → ℕ → List SecondPart → ℕ → Productions Entry
LeftTo keep cs firsts ss index = record { firsts = filter keep (take firsts (items_of cs)); seconds = kept_seconds keep (map (second_of (items_of cs)) (take index ss)) }

pub left_room : (keep : Entry → Bool) (cs : List Kept) (firsts : ℕ) (ss : List SecondPart) (index : ℕ) (s : SecondPart) → IsTable cs firsts ss → index < length ss → s ≡ get_or ss index s → size (LeftTo keep cs firsts ss index) + s.count ≤ length cs
left_room keep cs firsts ss index s t within e =
    let t0 = prefix_total (items_of cs) firsts ss (length cs) index s t.follow (omega (arith, count_items cs)) within in
    let w = part_within firsts ss (length cs) index s t.follow within in
    let z = size_total (LeftTo keep cs firsts ss index) in
    let f = filter_few keep (take firsts (items_of cs)) in
    let g = seconds_few keep (map (second_of (items_of cs)) (take index ss)) in
    let b : s.begin ≡ (get_or ss index s).begin = ap (λ (s : SecondPart). s.begin) e in
    let n : s.count ≡ (get_or ss index s).count = ap (λ (s : SecondPart). s.count) e in
    omega (arith, length-take firsts (items_of cs))

-- one second part more
pub left_more : (keep : Entry → Bool) (cs : List Kept) (firsts : ℕ) (ss : List SecondPart) (index : ℕ) (s : SecondPart) (new : Productions Entry) → index < length ss → s ≡ get_or ss index s → new ≡ with_seconds (LeftTo keep cs firsts ss index) (kept_second keep (second_of (items_of cs) s)) → new ≡ LeftTo keep cs firsts ss (index + 1)
left_more keep cs firsts ss index s new within e n =
    let one : map (second_of (items_of cs)) (take (index + 1) ss) ≡ map (second_of (items_of cs)) (take index ss) ++ second_of (items_of cs) s ∷ [] =
    ap (map (second_of (items_of cs))) (take_more ss index s within ∙ ap (λ (s : SecondPart). take index ss ++ s ∷ []) (sym e))
    ∙ map-append (second_of (items_of cs)) (take index ss) (s ∷ []) in
    n
    ∙ ap (λ (z : List (Second Entry)). record { firsts = filter keep (take firsts (items_of cs)); seconds = z })
    (ap (λ (z : List (Second Entry)). kept_seconds keep (map (second_of (items_of cs)) (take index ss)) ++ z) (sym (append-nil (kept_second keep (second_of (items_of cs) s))))
    ∙ sym (kept-append keep (map (second_of (items_of cs)) (take index ss)) (second_of (items_of cs) s ∷ []))
    ∙ ap (kept_seconds keep) (sym one))

-- what a second part needs
pub part_holds : (cs : List Kept) (firsts : ℕ) (ss : List SecondPart) (index : ℕ) (s : SecondPart) → IsTable cs firsts ss → index < length ss → s ≡ get_or ss index s → (s.begin + s.count ≤ length cs) × (1 ≤ s.count) × (s.group ≡ false → s.count ≡ 1)
part_holds cs firsts ss index s t within e =
    let w = part_within firsts ss (length cs) index s t.follow within in
    let o = part_one firsts ss (length cs) index s t.follow within in
    let b : s.begin ≡ (get_or ss index s).begin = ap (λ (s : SecondPart). s.begin) e in
    let n : s.count ≡ (get_or ss index s).count = ap (λ (s : SecondPart). s.count) e in
    (omega arith, omega (arith, o.0), λ g. n ∙ o.1 (sym (ap (λ (s : SecondPart). s.group) e) ∙ g))

-- the productions of a part of what is kept
pub part_items : (cs : List Kept) (begin count : ℕ) → items_of (take count (drop begin cs)) ≡ take count (drop begin (items_of cs))
part_items cs begin count = sym (take-map kept_entry count (drop begin cs)) ∙ ap (take count) (sym (drop-map kept_entry begin cs))

-- all first productions of a state and none behind them
pub left_starts : (keep : Entry → Bool) (cs : List Kept) (firsts : ℕ) (ss : List SecondPart) (now new : Productions Entry) → now ≡ record { firsts = []; seconds = [] } → new ≡ with_firsts now (filter keep (items_of (take firsts cs))) → new ≡ LeftTo keep cs firsts ss 0
left_starts keep cs firsts ss now new e n = n ∙ ap (λ (p : Productions Entry). with_firsts p (filter keep (items_of (take firsts cs)))) e ∙ ap (λ (z : List Entry). record { firsts = filter keep z; seconds = [] }) (sym (take-map kept_entry firsts cs))

-- ---- a second part by its place
-- whatever is told past the end
held_at : (ss lent : List SecondPart) (index : ℕ) (d : SecondPart) → lent ≡ ss → index < length lent → (index < length ss) × (get_or lent index d ≡ get_or ss index (get_or lent index d))
held_at ss lent index d e within =
    let w : index < length ss = subst (λ (z : List SecondPart). index < length z) e within in
    (w, sym (get_or_from_slice_get ss index (get_or lent index d) (get_or lent index d) (subst (λ (z : List SecondPart). slice_get z index ≡ Some (get_or lent index d)) e (slice_get-get_or lent index d within))))

pub part_of : (cs all : List Kept) (firsts : ℕ) (ss lent : List SecondPart) (index : ℕ) (d : SecondPart) → IsTable cs firsts ss → all ≡ cs → lent ≡ ss → index < length lent → ((get_or lent index d).begin + (get_or lent index d).count ≤ length all) × (1 ≤ (get_or lent index d).count) × ((get_or lent index d).group ≡ false → (get_or lent index d).count ≡ 1)
part_of cs all firsts ss lent index d t a e within =
    let h = held_at ss lent index d e within in
    let k = part_holds cs firsts ss index (get_or lent index d) t h.0 h.1 in
    (subst (λ (z : List Kept). (get_or lent index d).begin + (get_or lent index d).count ≤ length z) (sym a) k.0, k.1, k.2)

pub room_for_part : (keep : Entry → Bool) (cs : List Kept) (firsts : ℕ) (ss lent : List SecondPart) (index : ℕ) (d : SecondPart) (now : Productions Entry) → IsTable cs firsts ss → lent ≡ ss → index < length lent → now ≡ LeftTo keep cs firsts ss index → size now + (get_or lent index d).count ≤ most_productions
room_for_part keep cs firsts ss lent index d now t e within so_far =
    let h = held_at ss lent index d e within in
    omega (arith, ap size so_far, left_room keep cs firsts ss index (get_or lent index d) t h.0 h.1, t.small)

pub left_part : (keep : Entry → Bool) (cs all : List Kept) (firsts : ℕ) (ss lent : List SecondPart) (index : ℕ) (d : SecondPart) (now new : Productions Entry) → all ≡ cs → lent ≡ ss → index < length lent → now ≡ LeftTo keep cs firsts ss index → new ≡ with_seconds now (kept_second keep (second_of (items_of all) (get_or lent index d))) → new ≡ LeftTo keep cs firsts ss (index + 1)
left_part keep cs all firsts ss lent index d now new a e within so_far n =
    let h = held_at ss lent index d e within in
    left_more keep cs firsts ss index (get_or lent index d) new h.0 h.1
    (n ∙ ap (λ (p : Productions Entry). with_seconds p (kept_second keep (second_of (items_of all) (get_or lent index d)))) so_far ∙ ap (λ (z : List Kept). with_seconds (LeftTo keep cs firsts ss index) (kept_second keep (second_of (items_of z) (get_or lent index d)))) a)

-- all of them
pub left_all : (o : Options) (cs : List Kept) (firsts : ℕ) (ss lent : List SecondPart) (index : ℕ) (p now : Productions Entry) → table_of (items_of cs) firsts ss ≡ p → lent ≡ ss → length lent ≤ index → now ≡ LeftTo (is_kept o) cs firsts ss index → now ≡ left_of o p
left_all o cs firsts ss lent index p now v e all so_far =
    so_far
    ∙ ap (λ (z : List SecondPart). record { firsts = filter (is_kept o) (take firsts (items_of cs)); seconds = kept_seconds (is_kept o) (map (second_of (items_of cs)) z) }) (take_all index ss (subst (λ (z : List SecondPart). length z ≤ index) e all))
    ∙ ap (left_of o) v

-- ---- what a second part tells
one_at : {X : Type 0} (xs : List X) (index : ℕ) (d : X) → index < length xs → take 1 (drop index xs) ≡ get_or xs index d ∷ []
one_at [] index d within = absurd (omega arith)
one_at (x ∷ xs) zero d within = refl
one_at (x ∷ xs) (suc index) d within = one_at xs index d (omega arith)

pub group_told : (keep : Entry → Bool) (all : List Kept) (s : SecondPart) (n : ℕ) → s.group ≡ true → n ≡ s.count → kept_second keep (group (items_of (take n (drop s.begin all)))) ≡ kept_second keep (second_of (items_of all) s)
group_told keep all s n g e =
    ap (λ (xs : List Entry). kept_second keep (group xs)) (part_items all s.begin n ∙ ap (λ (k : ℕ). take k (drop s.begin (items_of all))) e)
    ∙ ap (λ (b : Bool). kept_second keep (cond b (group (slice (items_of all) s)) (as_single (slice (items_of all) s)))) (sym g)

pub alone_told : (keep : Entry → Bool) (all : List Kept) (s : SecondPart) (c : Kept) → s.group ≡ false → s.count ≡ 1 → s.begin + s.count ≤ length all → c ≡ get_or all s.begin c → kept_second keep (single (kept_entry c)) ≡ kept_second keep (second_of (items_of all) s)
alone_told keep all s c g one le e =
    let w : s.begin < length all = omega arith in
    let i : slice (items_of all) s ≡ kept_entry c ∷ [] =
    ap (λ (k : ℕ). take k (drop s.begin (items_of all))) one ∙ one_at (items_of all) s.begin (kept_entry c) (items_within all s.begin w) ∙ ap (λ (x : Entry). x ∷ []) (item_at all s.begin c w e) in
    ap (λ (xs : List Entry). kept_second keep (as_single xs)) (sym i)
    ∙ ap (λ (b : Bool). kept_second keep (cond b (group (slice (items_of all) s)) (as_single (slice (items_of all) s)))) (sym g)

-- ---- the productions alone
kept_items : (cs : List Kept) → map (λ (c : Coded Entry). c.item) (map coded_of cs) ≡ items_of cs
kept_items [] = refl
kept_items (c ∷ cs) = ap (λ (z : List Entry). kept_entry c ∷ z) (kept_items cs)

pub listed_rules : (cs : List Kept) (firsts : ℕ) (ss : List SecondPart) (p : Productions Entry) (lent : List Kept) (index : ℕ) (rules : List Rule) → IsTable cs firsts ss → table_of (items_of cs) firsts ss ≡ p → lent ≡ cs → length lent ≤ index → rules ≡ map (λ (e : Entry). e.rule) (items_of (take index lent)) → rules ≡ map (λ (e : Entry). e.rule) (listed p)
listed_rules cs firsts ss p lent index rules t v l all e =
    e
    ∙ ap (λ (z : List Kept). map (λ (e : Entry). e.rule) (items_of z)) (take_all index lent all ∙ l)
    ∙ ap (map (λ (e : Entry). e.rule)) (sym (kept_items cs) ∙ ap (map (λ (c : Coded Entry). c.item)) t.codes ∙ ap listed v)
