-- How productions are added to the codes that are kept.
use Rattle.std.proofs.Common.{◌≡◌, ℕ, suc, ◌+◌, ◌<◌, ◌≤◌, Bool, true, false, cond, List, [], ◌∷◌, ◌++◌, length, map, take, drop, refl, sym, ap, ◌∙◌, subst, append_assoc, All, arith}
use Rattle.std.proofs.lemmas.List.{append-nil, map-append, length-append, length-map, length-take, length-drop, take-append-le, drop-append-le, drop_at, take_all}
use Rattle.std.proofs.lemmas.List.Elements.{All-nil, All-cons}
use Rattle.std.proofs.Math.Seq.{take-append-add}
use Rattle.exi_gram.specs.declared.code.Code.{Code}
use Rattle.exi_gram.specs.declared.code.Coded.{Coded as Kept}
use Rattle.exi_gram.specs.declared.code.Code.TheVariants as code
use Rattle.exi_gram.specs.declared.grammar.Production.{Production}
use Rattle.exi_gram.specs.declared.named.Named.{Named}
use Rattle.exi_gram.specs.declared.second.SecondPart.{SecondPart}
use Rattle.exi_gram.specs.Codes.{Coded, HasMembers, IsClosedUp, Productions, Second, coded, coded_from, coded_second, coded_seconds, group, single}
use Rattle.exi_gram.specs.Naming.{Entry, entry}
use Rattle.exi_gram.specs.Tables.{Follow, IsTable, as_single, coded_of, ends_in_group, items_of, kept_entry, last_joined, most_productions, parts_of, second_of, size, slice, table_of, with_first, with_member, with_second}

-- ---- the codes of more productions
from-append : {X : Type 0} (front : List ℕ) (part : ℕ) (xs ys : List X) → coded_from front part (xs ++ ys) ≡ coded_from front part xs ++ coded_from front (part + length xs) ys
from-append front part [] ys = let e : part ≡ part + 0 = omega arith in ap (λ (k : ℕ). coded_from front k ys) e
from-append {X} front part (x ∷ xs) ys =
    let e : suc part + length xs ≡ part + suc (length xs) = omega arith in
    ap (λ (z : List (Coded X)). record { parts = front ++ part ∷ []; item = x } ∷ z) (from-append front (suc part) xs ys ∙ ap (λ (k : ℕ). coded_from front (suc part) xs ++ coded_from front k ys) e)

seconds-append : {X : Type 0} (front : List ℕ) (part : ℕ) (xs ys : List (Second X)) → coded_seconds front part (xs ++ ys) ≡ coded_seconds front part xs ++ coded_seconds front (part + length xs) ys
seconds-append front part [] ys = let e : part ≡ part + 0 = omega arith in ap (λ (k : ℕ). coded_seconds front k ys) e
seconds-append {X} front part (x ∷ xs) ys =
    let e : suc part + length xs ≡ part + suc (length xs) = omega arith in
    ap (λ (z : List (Coded X)). coded_second front part x ++ z) (seconds-append front (suc part) xs ys ∙ ap (λ (k : ℕ). coded_seconds front (suc part) xs ++ coded_seconds front k ys) e)
    ∙ sym (append_assoc (coded_second front part x) (coded_seconds front (suc part) xs) (coded_seconds front (part + suc (length xs)) ys))

-- one more of one part
first_coded : {X : Type 0} (firsts : List X) (x : X) → coded (record { firsts = firsts ++ x ∷ []; seconds = [] }) ≡ coded (record { firsts = firsts; seconds = [] }) ++ record { parts = length firsts ∷ []; item = x } ∷ []
first_coded {X} firsts x =
    let e : 0 + length firsts ≡ length firsts = omega arith in
    append-nil (coded_from [] 0 (firsts ++ x ∷ []))
    ∙ from-append [] 0 firsts (x ∷ [])
    ∙ ap (λ (k : ℕ). coded_from [] 0 firsts ++ record { parts = k ∷ []; item = x } ∷ []) e
    ∙ ap (λ (z : List (Coded X)). z ++ record { parts = length firsts ∷ []; item = x } ∷ []) (sym (append-nil (coded_from [] 0 firsts)))

-- one more second part
pub second_coded : {X : Type 0} (p : Productions X) (y : Second X) → coded (with_second p y) ≡ coded p ++ coded_second (length p.firsts ∷ []) (length p.seconds) y
second_coded {X} p y =
    let e : 0 + length p.seconds ≡ length p.seconds = omega arith in
    ap (λ (z : List (Coded X)). coded_from [] 0 p.firsts ++ z)
    (seconds-append (length p.firsts ∷ []) 0 p.seconds (y ∷ [])
    ∙ ap (λ (k : ℕ). coded_seconds (length p.firsts ∷ []) 0 p.seconds ++ (coded_second (length p.firsts ∷ []) k y ++ [])) e
    ∙ ap (λ (z : List (Coded X)). coded_seconds (length p.firsts ∷ []) 0 p.seconds ++ z) (append-nil (coded_second (length p.firsts ∷ []) (length p.seconds) y)))
    ∙ sym (append_assoc (coded_from [] 0 p.firsts) (coded_seconds (length p.firsts ∷ []) 0 p.seconds) (coded_second (length p.firsts ∷ []) (length p.seconds) y))

-- one more member of the last group
member_coded : {X : Type 0} (firsts : List X) (front : List (Second X)) (ys : List X) (x : X) → coded (record { firsts = firsts; seconds = front ++ group (ys ++ x ∷ []) ∷ [] }) ≡ coded (record { firsts = firsts; seconds = front ++ group ys ∷ [] }) ++ record { parts = length firsts ∷ length front ∷ length ys ∷ []; item = x } ∷ []
member_coded {X} firsts front ys x =
    let e : 0 + length ys ≡ length ys = omega arith in
    second_coded (record { firsts = firsts; seconds = front }) (group (ys ++ x ∷ []))
    ∙ ap (λ (z : List (Coded X)). coded (record { firsts = firsts; seconds = front }) ++ z) (from-append (length firsts ∷ length front ∷ []) 0 ys (x ∷ []) ∙ ap (λ (k : ℕ). coded_from (length firsts ∷ length front ∷ []) 0 ys ++ record { parts = length firsts ∷ length front ∷ k ∷ []; item = x } ∷ []) e)
    ∙ sym (append_assoc (coded (record { firsts = firsts; seconds = front })) (coded_from (length firsts ∷ length front ∷ []) 0 ys) (record { parts = length firsts ∷ length front ∷ length ys ∷ []; item = x } ∷ []))
    ∙ ap (λ (z : List (Coded X)). z ++ record { parts = length firsts ∷ length front ∷ length ys ∷ []; item = x } ∷ []) (sym (second_coded (record { firsts = firsts; seconds = front }) (group ys)))

pub last_is : {X : Type 0} (front : List (Second X)) (ys : List X) (x : X) → last_joined (front ++ group ys ∷ []) x ≡ front ++ group (ys ++ x ∷ []) ∷ []
last_is [] ys x = refl
last_is {X} (y ∷ []) ys x = refl
last_is {X} (y ∷ z ∷ zs) ys x = ap (λ (w : List (Second X)). y ∷ w) (last_is (z ∷ zs) ys x)

pub ends_is : {X : Type 0} (front : List (Second X)) (y : Second X) → ends_in_group (front ++ y ∷ []) ≡ ends_in_group (y ∷ [])
ends_is [] y = refl
ends_is (z ∷ []) y = refl
ends_is (z ∷ w ∷ ws) y = ends_is (w ∷ ws) y

-- ---- second parts that follow
pub follow_within : (place : ℕ) (ss : List SecondPart) (end : ℕ) → Follow place ss end → place + length ss ≤ end
follow_within place [] end h = omega arith
follow_within place (s ∷ ss) end h = let k = follow_within (place + s.count) ss end h.3 in omega (arith, h.1)

follow_push : (place : ℕ) (ss : List SecondPart) (end : ℕ) (s : SecondPart) → Follow place ss end → s.begin ≡ end → 1 ≤ s.count → (s.group ≡ false → s.count ≡ 1) → Follow place (ss ++ s ∷ []) (end + s.count)
follow_push place [] end s h b few one = (b ∙ sym h, few, one, ap (λ (k : ℕ). k + s.count) h)
follow_push place (t ∷ ts) end s h b few one = (h.0, h.1, h.2, follow_push (place + t.count) ts end s h.3 b few one)

-- the last of them ends at the end
follow_last : (place : ℕ) (ss : List SecondPart) (s : SecondPart) (end : ℕ) → Follow place (ss ++ s ∷ []) end → Follow place ss s.begin × (1 ≤ s.count) × (s.group ≡ false → s.count ≡ 1) × (s.begin + s.count ≡ end)
follow_last place [] s end h = (sym h.0, h.1, h.2, ap (λ (k : ℕ). k + s.count) h.0 ∙ h.3)
follow_last place (t ∷ ts) s end h = let k = follow_last (place + t.count) ts s end h.3 in ((h.0, h.1, h.2, k.0), k.1, k.2, k.3)

-- ---- the productions of second parts
-- what stands before the end stays where more comes behind
slice_kept : {X : Type 0} (xs more : List X) (s : SecondPart) → s.begin + s.count ≤ length xs → slice (xs ++ more) s ≡ slice xs s
slice_kept {X} xs more s le =
    ap (λ (z : List X). take s.count z) (drop-append-le s.begin xs more (omega arith))
    ∙ take-append-le s.count (drop s.begin xs) more (omega (arith, length-drop s.begin xs))

second_kept : {X : Type 0} (xs more : List X) (s : SecondPart) → s.begin + s.count ≤ length xs → second_of (xs ++ more) s ≡ second_of xs s
second_kept {X} xs more s le = rw (slice_kept xs more s le) refl

seconds_kept : {X : Type 0} (xs more : List X) (place : ℕ) (ss : List SecondPart) (end : ℕ) → Follow place ss end → end ≤ length xs → map (second_of (xs ++ more)) ss ≡ map (second_of xs) ss
seconds_kept xs more place [] end h le = refl
seconds_kept {X} xs more place (s ∷ ss) end h le =
    let w = follow_within (place + s.count) ss end h.3 in
    ap (λ (z : Second X). z ∷ map (second_of (xs ++ more)) ss) (second_kept xs more s (omega (arith, h.0)))
    ∙ ap (λ (z : List (Second X)). second_of xs s ∷ z) (seconds_kept xs more (place + s.count) ss end h.3 le)

-- the last production alone
slice_last : {X : Type 0} (xs : List X) (x : X) (grouped : Bool) → slice (xs ++ x ∷ []) (record { begin = length xs; count = 1; group = grouped }) ≡ x ∷ []
slice_last {X} xs x grouped = ap (λ (z : List X). take 1 z) (drop_at xs (x ∷ []) (length xs) refl)

slice_grows : {X : Type 0} (xs : List X) (x : X) (s : SecondPart) → s.begin + s.count ≡ length xs → slice (xs ++ x ∷ []) (record { begin = s.begin; count = s.count + 1; group = s.group }) ≡ slice xs s ++ x ∷ []
slice_grows {X} xs x s e =
    let n : length (drop s.begin xs) ≡ s.count = omega (arith, length-drop s.begin xs, e) in
    let m : s.count + 1 ≡ length (drop s.begin xs) + 1 = omega arith in
    ap (λ (z : List X). take (s.count + 1) z) (drop-append-le s.begin xs (x ∷ []) (omega arith))
    ∙ ap (λ (k : ℕ). take k (drop s.begin xs ++ x ∷ [])) m
    ∙ take-append-add (drop s.begin xs) (x ∷ []) 1
    ∙ ap (λ (z : List X). z ++ x ∷ []) (sym (take_all s.count (drop s.begin xs) (omega arith)))

-- ---- the table with one more
first_table : {X : Type 0} (xs : List X) (x : X) (firsts : ℕ) → firsts ≡ length xs → table_of (xs ++ x ∷ []) (firsts + 1) [] ≡ with_first (table_of xs firsts []) x
first_table {X} xs x firsts e =
    ap (λ (z : List X). record { firsts = z; seconds = [] })
    (take_all (firsts + 1) (xs ++ x ∷ []) (omega (arith, length-append xs (x ∷ [])))
    ∙ ap (λ (z : List X). z ++ x ∷ []) (sym (take_all firsts xs (omega arith))))

second_table : {X : Type 0} (xs : List X) (x : X) (firsts : ℕ) (ss : List SecondPart) (s : SecondPart) (y : Second X) → Follow firsts ss (length xs) → second_of (xs ++ x ∷ []) s ≡ y → table_of (xs ++ x ∷ []) firsts (ss ++ s ∷ []) ≡ with_second (table_of xs firsts ss) y
second_table {X} xs x firsts ss s y h e =
    let w = follow_within firsts ss (length xs) h in
    ap (λ (z : List X). record { firsts = z; seconds = map (second_of (xs ++ x ∷ [])) (ss ++ s ∷ []) }) (take-append-le firsts xs (x ∷ []) (omega arith))
    ∙ ap (λ (z : List (Second X)). record { firsts = take firsts xs; seconds = z })
    (map-append (second_of (xs ++ x ∷ [])) ss (s ∷ [])
    ∙ ap (λ (z : List (Second X)). z ++ second_of (xs ++ x ∷ []) s ∷ []) (seconds_kept xs (x ∷ []) firsts ss (length xs) h (omega arith))
    ∙ ap (λ (z : Second X). map (second_of xs) ss ++ z ∷ []) e)

-- the last second part tells a group
group_of : {X : Type 0} (xs : List X) (s : SecondPart) → s.group ≡ true → second_of xs s ≡ group (slice xs s)
group_of xs s e = rw e refl

grouped_table : {X : Type 0} (xs : List X) (firsts : ℕ) (ss : List SecondPart) (s : SecondPart) → s.group ≡ true → table_of xs firsts (ss ++ s ∷ []) ≡ record { firsts = take firsts xs; seconds = map (second_of xs) ss ++ group (slice xs s) ∷ [] }
grouped_table {X} xs firsts ss s e =
    ap (λ (z : List (Second X)). record { firsts = take firsts xs; seconds = z }) (map-append (second_of xs) ss (s ∷ []) ∙ ap (λ (z : Second X). map (second_of xs) ss ++ z ∷ []) (group_of xs s e))

abbrev pub grown : SecondPart → SecondPart
grown s = record { begin = s.begin; count = s.count + 1; group = s.group }

member_table : {X : Type 0} (xs : List X) (x : X) (firsts : ℕ) (ss : List SecondPart) (s : SecondPart) → Follow firsts (ss ++ s ∷ []) (length xs) → s.group ≡ true
    → table_of (xs ++ x ∷ []) firsts (ss ++ grown s ∷ []) ≡ record { firsts = take firsts xs; seconds = map (second_of xs) ss ++ group (slice xs s ++ x ∷ []) ∷ [] }
member_table {X} xs x firsts ss s h e =
    let l = follow_last firsts ss s (length xs) h in
    let w = follow_within firsts ss s.begin l.0 in
    grouped_table (xs ++ x ∷ []) firsts ss (grown s) e
    ∙ ap (λ (z : List X). record { firsts = z; seconds = map (second_of (xs ++ x ∷ [])) ss ++ group (slice (xs ++ x ∷ []) (grown s)) ∷ [] }) (take-append-le firsts xs (x ∷ []) (omega (arith, l.3)))
    ∙ ap (λ (z : List (Second X)). record { firsts = take firsts xs; seconds = z ++ group (slice (xs ++ x ∷ []) (grown s)) ∷ [] }) (seconds_kept xs (x ∷ []) firsts ss s.begin l.0 (omega (arith, l.3)))
    ∙ ap (λ (z : List X). record { firsts = take firsts xs; seconds = map (second_of xs) ss ++ group z ∷ [] }) (slice_grows xs x s l.3)

-- ---- what is kept holds with one more
abbrev with_code : List Kept → Kept → List Kept
with_code cs c = cs ++ c ∷ []

items_more : (cs : List Kept) (c : Kept) → items_of (with_code cs c) ≡ items_of cs ++ kept_entry c ∷ []
items_more cs c = map-append kept_entry cs (c ∷ [])

coded_more : (cs : List Kept) (c : Kept) (parts : List ℕ) (old new : List (Coded Entry)) → map coded_of cs ≡ old → parts_of c.code ≡ parts → new ≡ old ++ record { parts = parts; item = (kept_entry c) } ∷ [] → map coded_of (with_code cs c) ≡ new
coded_more cs c parts old new e f g =
    map-append coded_of cs (c ∷ [])
    ∙ ap (λ (z : List (Coded Entry)). z ++ coded_of c ∷ []) e
    ∙ ap (λ (z : List ℕ). old ++ record { parts = z; item = (kept_entry c) } ∷ []) f
    ∙ sym g

pub count_items : (cs : List Kept) → length (items_of cs) ≡ length cs
count_items cs = length-map cs kept_entry

-- how many productions there are
pub size_is : (cs : List Kept) (firsts : ℕ) (ss : List SecondPart) → IsTable cs firsts ss → size (table_of (items_of cs) firsts ss) ≡ length cs
size_is cs firsts ss t = sym (ap length t.codes) ∙ length-map cs coded_of

no_seconds : {X : Type 0} (xs : List X) (ss : List SecondPart) → map (second_of xs) ss ≡ [] → ss ≡ []
no_seconds xs [] e = refl
no_seconds xs (s ∷ ss) e = absurd cc

pub first_view : (cs : List Kept) (firsts : ℕ) (ss : List SecondPart) (c : Kept) → IsTable cs firsts ss → map (second_of (items_of cs)) ss ≡ [] → table_of (items_of (with_code cs c)) (firsts + 1) ss ≡ with_first (table_of (items_of cs) firsts ss) (kept_entry c)
first_view cs firsts ss c t none =
    let e = no_seconds (items_of cs) ss none in
    let f : firsts ≡ length (items_of cs) = subst (λ (ss : List SecondPart). Follow firsts ss (length cs)) e t.follow ∙ sym (count_items cs) in
    rw (e, items_more cs c) (first_table (items_of cs) (kept_entry c) firsts f)

pub first_keeps : (cs : List Kept) (firsts : ℕ) (ss : List SecondPart) (c : Kept) → IsTable cs firsts ss → map (second_of (items_of cs)) ss ≡ [] → size (table_of (items_of cs) firsts ss) < most_productions → parts_of c.code ≡ firsts ∷ [] → IsTable (with_code cs c) (firsts + 1) ss
first_keeps cs firsts ss c t none room parts =
    let e = no_seconds (items_of cs) ss none in
    let f : firsts ≡ length cs = subst (λ (ss : List SecondPart). Follow firsts ss (length cs)) e t.follow in
    let n : length (take firsts (items_of cs)) ≡ firsts = omega (arith, length-take firsts (items_of cs), count_items cs) in
    let l : length (with_code cs c) ≡ length cs + 1 = length-append cs (c ∷ []) in
    let v : table_of (items_of (with_code cs c)) (firsts + 1) ss ≡ with_first (table_of (items_of cs) firsts []) (kept_entry c) = first_view cs firsts ss c t none ∙ ap (λ (z : List SecondPart). with_first (table_of (items_of cs) firsts z) (kept_entry c)) e in
    record {
      small = omega (arith, size_is cs firsts ss t);
      follow = subst (λ (ss : List SecondPart). Follow (firsts + 1) ss (length (with_code cs c))) (sym e) (omega arith);
      codes = coded_more cs c (firsts ∷ []) (coded (table_of (items_of cs) firsts [])) (coded (table_of (items_of (with_code cs c)) (firsts + 1) ss))
          (t.codes ∙ ap (λ (z : List SecondPart). coded (table_of (items_of cs) firsts z)) e)
          parts
          (ap coded v ∙ first_coded (take firsts (items_of cs)) (kept_entry c) ∙ ap (λ (k : ℕ). coded (table_of (items_of cs) firsts []) ++ record { parts = k ∷ []; item = (kept_entry c) } ∷ []) n);
    }

pub count_firsts : (cs : List Kept) (firsts : ℕ) (ss : List SecondPart) (end : ℕ) → Follow firsts ss end → end ≤ length cs → length (take firsts (items_of cs)) ≡ firsts
count_firsts cs firsts ss end h le = let w = follow_within firsts ss end h in omega (arith, length-take firsts (items_of cs), count_items cs)

-- one that the next second part tells
abbrev pub next_part : List Kept → Bool → SecondPart
next_part cs grouped = record { begin = length cs; count = 1; group = grouped }

next_slice : (cs : List Kept) (x : Entry) (grouped : Bool) → slice (items_of cs ++ x ∷ []) (next_part cs grouped) ≡ x ∷ []
next_slice cs x grouped = ap (λ (k : ℕ). slice (items_of cs ++ x ∷ []) (record { begin = k; count = 1; group = grouped })) (sym (count_items cs)) ∙ slice_last (items_of cs) x grouped

next_second : (cs : List Kept) (x : Entry) (grouped : Bool) → second_of (items_of cs ++ x ∷ []) (next_part cs grouped) ≡ cond grouped (group (x ∷ [])) (single x)
next_second cs x true = rw (next_slice cs x true) refl
next_second cs x false = rw (next_slice cs x false) refl

pub second_view : (cs : List Kept) (firsts : ℕ) (ss : List SecondPart) (c : Kept) (grouped : Bool) → IsTable cs firsts ss → table_of (items_of (with_code cs c)) firsts (ss ++ next_part cs grouped ∷ []) ≡ with_second (table_of (items_of cs) firsts ss) (cond grouped (group (kept_entry c ∷ [])) (single (kept_entry c)))
second_view cs firsts ss c grouped t =
    let f : Follow firsts ss (length (items_of cs)) = subst (Follow firsts ss) (sym (count_items cs)) t.follow in
    rw (items_more cs c) (second_table (items_of cs) (kept_entry c) firsts ss (next_part cs grouped) (cond grouped (group (kept_entry c ∷ [])) (single (kept_entry c))) f (next_second cs (kept_entry c) grouped))

second_codes : (grouped : Bool) (first second : ℕ) (x : Entry) → coded_second (first ∷ []) second (cond grouped (group (x ∷ [])) (single x)) ≡ record { parts = cond grouped (first ∷ second ∷ 0 ∷ []) (first ∷ second ∷ []); item = x } ∷ []
second_codes true first second x = refl
second_codes false first second x = refl

pub second_keeps : (cs : List Kept) (firsts : ℕ) (ss : List SecondPart) (c : Kept) (grouped : Bool) → IsTable cs firsts ss → size (table_of (items_of cs) firsts ss) < most_productions → parts_of c.code ≡ cond grouped (firsts ∷ length ss ∷ 0 ∷ []) (firsts ∷ length ss ∷ []) → IsTable (with_code cs c) firsts (ss ++ next_part cs grouped ∷ [])
second_keeps cs firsts ss c grouped t room parts =
    let n = count_firsts cs firsts ss (length cs) t.follow (omega arith) in
    let m : length (map (second_of (items_of cs)) ss) ≡ length ss = length-map ss (second_of (items_of cs)) in
    let l : length (with_code cs c) ≡ length cs + 1 = length-append cs (c ∷ []) in
    record {
      small = omega (arith, size_is cs firsts ss t);
      follow = subst (Follow firsts (ss ++ next_part cs grouped ∷ [])) (sym l) (follow_push firsts ss (length cs) (next_part cs grouped) t.follow refl (omega arith) (λ e. refl));
      codes = coded_more cs c (cond grouped (firsts ∷ length ss ∷ 0 ∷ []) (firsts ∷ length ss ∷ [])) (coded (table_of (items_of cs) firsts ss)) (coded (table_of (items_of (with_code cs c)) firsts (ss ++ next_part cs grouped ∷ [])))
          t.codes parts
          (ap coded (second_view cs firsts ss c grouped t)
          ∙ second_coded (table_of (items_of cs) firsts ss) (cond grouped (group (kept_entry c ∷ [])) (single (kept_entry c)))
          ∙ ap (λ (z : List (Coded Entry)). coded (table_of (items_of cs) firsts ss) ++ z)
          (ap (λ (k : ℕ). coded_second (k ∷ []) (length (map (second_of (items_of cs)) ss)) (cond grouped (group (kept_entry c ∷ [])) (single (kept_entry c)))) n
          ∙ ap (λ (k : ℕ). coded_second (firsts ∷ []) k (cond grouped (group (kept_entry c ∷ [])) (single (kept_entry c)))) m
          ∙ second_codes grouped firsts (length ss) (kept_entry c)));
    }

-- one more member of the last group
single_is : {X : Type 0} (ys : List X) → 1 ≤ length ys → ends_in_group (as_single ys ∷ []) ≡ true → ⊥
single_is [] le e = omega arith
single_is (y ∷ ys) le e = cc

last_group_by : {X : Type 0} (xs : List X) (s : SecondPart) (grouped : Bool) → 1 ≤ s.count → s.begin + s.count ≤ length xs → s.group ≡ grouped → ends_in_group (second_of xs s ∷ []) ≡ true → s.group ≡ true
last_group_by xs s true few le e f = e
last_group_by {X} xs s false few le e f =
    let g : ends_in_group (as_single (slice xs s) ∷ []) ≡ true = ap (λ (b : Bool). ends_in_group (cond b (group (slice xs s)) (as_single (slice xs s)) ∷ [])) (sym e) ∙ f in
    absurd (single_is (slice xs s) (omega (arith, length-take s.count (drop s.begin xs), length-drop s.begin xs)) g)

last_group : {X : Type 0} (xs : List X) (ss : List SecondPart) (s : SecondPart) → 1 ≤ s.count → s.begin + s.count ≤ length xs → ends_in_group (map (second_of xs) (ss ++ s ∷ [])) ≡ true → s.group ≡ true
last_group {X} xs ss s few le e = last_group_by xs s s.group few le refl (sym (ends_is (map (second_of xs) ss) (second_of xs s)) ∙ ap ends_in_group (sym (map-append (second_of xs) ss (s ∷ []))) ∙ e)

-- what is known of the last second part, where it tells a group
pub record Last (cs : List Kept) (firsts : ℕ) (ss : List SecondPart) (s : SecondPart) : Type 0 where
  pub grouped : s.group ≡ true
  pub before : Follow firsts ss s.begin
  pub few : 1 ≤ s.count
  pub end : s.begin + s.count ≡ length cs

pub last_is_group : (cs : List Kept) (firsts : ℕ) (ss : List SecondPart) (s : SecondPart) → IsTable cs firsts (ss ++ s ∷ []) → ends_in_group (map (second_of (items_of cs)) (ss ++ s ∷ [])) ≡ true → Last cs firsts ss s
last_is_group cs firsts ss s t e =
    let l = follow_last firsts ss s (length cs) t.follow in
    record { grouped = last_group (items_of cs) ss s l.1 (omega (arith, l.3, count_items cs)) e; before = l.0; few = l.1; end = l.3 }

pub member_view : (cs : List Kept) (firsts : ℕ) (ss : List SecondPart) (s : SecondPart) (c : Kept) → IsTable cs firsts (ss ++ s ∷ []) → Last cs firsts ss s → table_of (items_of (with_code cs c)) firsts (ss ++ grown s ∷ []) ≡ with_member (table_of (items_of cs) firsts (ss ++ s ∷ [])) (kept_entry c)
member_view cs firsts ss s c t l =
    let f : Follow firsts (ss ++ s ∷ []) (length (items_of cs)) = subst (Follow firsts (ss ++ s ∷ [])) (sym (count_items cs)) t.follow in
    rw (items_more cs c) (member_table (items_of cs) (kept_entry c) firsts ss s f l.grouped)
    ∙ ap (λ (z : List (Second Entry)). record { firsts = take firsts (items_of cs); seconds = z }) (sym (last_is (map (second_of (items_of cs)) ss) (slice (items_of cs) s) (kept_entry c)))
    ∙ ap (λ (z : Productions Entry). with_member z (kept_entry c)) (sym (grouped_table (items_of cs) firsts ss s l.grouped))

pub member_keeps : (cs : List Kept) (firsts : ℕ) (ss : List SecondPart) (s : SecondPart) (c : Kept) → IsTable cs firsts (ss ++ s ∷ []) → Last cs firsts ss s → size (table_of (items_of cs) firsts (ss ++ s ∷ [])) < most_productions → parts_of c.code ≡ firsts ∷ length ss ∷ s.count ∷ [] → IsTable (with_code cs c) firsts (ss ++ grown s ∷ [])
member_keeps cs firsts ss s c t l room parts =
    let n = count_firsts cs firsts ss s.begin l.before (omega (arith, l.end)) in
    let m : length (map (second_of (items_of cs)) ss) ≡ length ss = length-map ss (second_of (items_of cs)) in
    let k : length (slice (items_of cs) s) ≡ s.count = omega (arith, length-take s.count (drop s.begin (items_of cs)), length-drop s.begin (items_of cs), l.end, count_items cs) in
    let f : Follow firsts (ss ++ s ∷ []) (length (items_of cs)) = subst (Follow firsts (ss ++ s ∷ [])) (sym (count_items cs)) t.follow in
    let e : s.begin + (s.count + 1) ≡ length (with_code cs c) = omega (arith, l.end, length-append cs (c ∷ [])) in
    let old : List (Coded Entry) = coded (table_of (items_of cs) firsts (ss ++ s ∷ [])) in
    record {
      small = omega (arith, size_is cs firsts (ss ++ s ∷ []) t, length-append cs (c ∷ []));
      follow = subst (Follow firsts (ss ++ grown s ∷ [])) e (follow_push firsts ss s.begin (grown s) l.before refl (omega arith) (λ b. absurd (apart s.group l.grouped b)));
      codes = coded_more cs c (firsts ∷ length ss ∷ s.count ∷ []) old (coded (table_of (items_of (with_code cs c)) firsts (ss ++ grown s ∷ [])))
          t.codes parts
          (rw (items_more cs c) (ap coded (member_table (items_of cs) (kept_entry c) firsts ss s f l.grouped))
          ∙ member_coded (take firsts (items_of cs)) (map (second_of (items_of cs)) ss) (slice (items_of cs) s) (kept_entry c)
          ∙ ap (λ (z : Productions Entry). coded z ++ record { parts = length (take firsts (items_of cs)) ∷ length (map (second_of (items_of cs)) ss) ∷ length (slice (items_of cs) s) ∷ []; item = (kept_entry c) } ∷ []) (sym (grouped_table (items_of cs) firsts ss s l.grouped))
          ∙ ap (λ (i : ℕ). old ++ record { parts = i ∷ length (map (second_of (items_of cs)) ss) ∷ length (slice (items_of cs) s) ∷ []; item = (kept_entry c) } ∷ []) n
          ∙ ap (λ (i : ℕ). old ++ record { parts = firsts ∷ i ∷ length (slice (items_of cs) s) ∷ []; item = (kept_entry c) } ∷ []) m
          ∙ ap (λ (i : ℕ). old ++ record { parts = firsts ∷ length ss ∷ i ∷ []; item = (kept_entry c) } ∷ []) k);
    }
  where
    apart : (b : Bool) → b ≡ true → b ≡ false → ⊥
    apart true e f = cc
    apart false e f = cc

-- ---- the same, in the words of the code
abbrev kept : Code → Production → Named → Kept
kept code production named = record { code = code; production = production; named = named }

pub first_added : (cs new : List Kept) (firsts : ℕ) (ss : List SecondPart) (x : Production) (named : Named) (p : Productions Entry) → IsTable cs firsts ss → table_of (items_of cs) firsts ss ≡ p → p.seconds ≡ [] → size p < most_productions → new ≡ cs ++ kept (code.One firsts) x named ∷ []
    → IsTable new (firsts + 1) ss × (table_of (items_of new) (firsts + 1) ss ≡ with_first p (entry x named))
first_added cs new firsts ss x named p t v none room e =
    let w = ap (λ (p : Productions Entry). p.seconds) v ∙ none in
    let r : size (table_of (items_of cs) firsts ss) < most_productions = subst (λ (p : Productions Entry). size p < most_productions) (sym v) room in (
      subst (λ (cs : List Kept). IsTable cs (firsts + 1) ss) (sym e) (first_keeps cs firsts ss (kept (code.One firsts) x named) t w r refl),
      ap (λ (cs : List Kept). table_of (items_of cs) (firsts + 1) ss) e ∙ first_view cs firsts ss (kept (code.One firsts) x named) t w ∙ ap (λ (p : Productions Entry). with_first p (entry x named)) v,
    )

-- the code of the first production of the next second part
abbrev code_of : ℕ → Bool → ℕ → Code
code_of first true second = code.Three first second 0
code_of first false second = code.Two first second

code_parts : (first : ℕ) (grouped : Bool) (second : ℕ) → parts_of (code_of first grouped second) ≡ cond grouped (first ∷ second ∷ 0 ∷ []) (first ∷ second ∷ [])
code_parts first true second = refl
code_parts first false second = refl

pub second_added : (cs new : List Kept) (firsts : ℕ) (ss mid news : List SecondPart) (begin second : ℕ) (grouped : Bool) (x : Production) (named : Named) (p : Productions Entry) → IsTable cs firsts ss → table_of (items_of cs) firsts ss ≡ p → size p < most_productions
    → new ≡ cs ++ kept (code_of firsts grouped second) x named ∷ [] → begin ≡ length cs → second ≡ length ss → mid ≡ ss → news ≡ mid ++ record { begin = begin; count = 1; group = grouped } ∷ []
    → IsTable new firsts news × (table_of (items_of new) firsts news ≡ with_second p (cond grouped (group (entry x named ∷ [])) (single (entry x named))))
second_added cs new firsts ss mid news begin second grouped x named p t v room e b n m s =
    let r : size (table_of (items_of cs) firsts ss) < most_productions = subst (λ (p : Productions Entry). size p < most_productions) (sym v) room in
    let c : Kept = kept (code_of firsts grouped (length ss)) x named in
    let e' : new ≡ with_code cs c = e ∙ ap (λ (k : ℕ). cs ++ kept (code_of firsts grouped k) x named ∷ []) n in
    let s' : news ≡ ss ++ next_part cs grouped ∷ [] = s ∙ ap (λ (z : List SecondPart). z ++ record { begin = begin; count = 1; group = grouped } ∷ []) m ∙ ap (λ (k : ℕ). ss ++ record { begin = k; count = 1; group = grouped } ∷ []) b in (
      subst (λ (cs : List Kept). IsTable cs firsts news) (sym e') (subst (λ (z : List SecondPart). IsTable (with_code cs c) firsts z) (sym s') (second_keeps cs firsts ss c grouped t r (code_parts firsts grouped (length ss)))),
      ap (λ (cs : List Kept). table_of (items_of cs) firsts news) e' ∙ ap (λ (z : List SecondPart). table_of (items_of (with_code cs c)) firsts z) s' ∙ second_view cs firsts ss c grouped t ∙ ap (λ (p : Productions Entry). with_second p (cond grouped (group (entry x named ∷ [])) (single (entry x named)))) v,
    )

-- the last second part, taken off
pub last_taken : (cs : List Kept) (firsts : ℕ) (ss mid : List SecondPart) (s : SecondPart) (p : Productions Entry) → IsTable cs firsts ss → table_of (items_of cs) firsts ss ≡ p → ends_in_group p.seconds ≡ true → ss ≡ mid ++ s ∷ [] → IsTable cs firsts (mid ++ s ∷ []) × Last cs firsts mid s
last_taken cs firsts ss mid s p t v g e =
    let t' = subst (IsTable cs firsts) e t in
    let g' : ends_in_group (map (second_of (items_of cs)) (mid ++ s ∷ [])) ≡ true = ap (λ (z : List SecondPart). ends_in_group (map (second_of (items_of cs)) z)) (sym e) ∙ ap (λ (p : Productions Entry). ends_in_group p.seconds) v ∙ g in
    (t', last_is_group cs firsts mid s t' g')

pub member_added : (cs same new : List Kept) (firsts : ℕ) (ss mid news : List SecondPart) (s : SecondPart) (second : ℕ) (x : Production) (named : Named) (p : Productions Entry) → IsTable cs firsts ss → table_of (items_of cs) firsts ss ≡ p → ends_in_group p.seconds ≡ true → size p < most_productions → ss ≡ mid ++ s ∷ []
    → same ≡ cs → new ≡ same ++ kept (code.Three firsts second s.count) x named ∷ [] → second ≡ length mid → news ≡ mid ++ grown s ∷ []
    → IsTable new firsts news × (table_of (items_of new) firsts news ≡ with_member p (entry x named))
member_added cs same new firsts ss mid news s second x named p t v g room z q e n f =
    let k = last_taken cs firsts ss mid s p t v g z in
    let v' : table_of (items_of cs) firsts (mid ++ s ∷ []) ≡ p = ap (table_of (items_of cs) firsts) (sym z) ∙ v in
    let r : size (table_of (items_of cs) firsts (mid ++ s ∷ [])) < most_productions = subst (λ (p : Productions Entry). size p < most_productions) (sym v') room in
    let e' : new ≡ with_code cs (kept (code.Three firsts (length mid) s.count) x named) = e ∙ ap (λ (z : List Kept). z ++ kept (code.Three firsts second s.count) x named ∷ []) q ∙ ap (λ (k : ℕ). cs ++ kept (code.Three firsts k s.count) x named ∷ []) n in (
      subst (λ (cs : List Kept). IsTable cs firsts news) (sym e') (subst (λ (z : List SecondPart). IsTable (with_code cs (kept (code.Three firsts (length mid) s.count) x named)) firsts z) (sym f) (member_keeps cs firsts mid s (kept (code.Three firsts (length mid) s.count) x named) k.0 k.1 r refl)),
      ap (λ (cs : List Kept). table_of (items_of cs) firsts news) e' ∙ ap (λ (z : List SecondPart). table_of (items_of (with_code cs (kept (code.Three firsts (length mid) s.count) x named))) firsts z) f ∙ member_view cs firsts mid s (kept (code.Three firsts (length mid) s.count) x named) k.0 k.1 ∙ ap (λ (p : Productions Entry). with_member p (entry x named)) v',
    )

-- how many second parts there are, and how many productions the last tells
pub seconds_few : (cs : List Kept) (firsts : ℕ) (ss : List SecondPart) → IsTable cs firsts ss → length ss ≤ most_productions
seconds_few cs firsts ss t = omega (arith, follow_within firsts ss (length cs) t.follow, t.small)

pub firsts_few : (cs : List Kept) (firsts : ℕ) (ss : List SecondPart) → IsTable cs firsts ss → firsts ≤ most_productions
firsts_few cs firsts ss t = omega (arith, follow_within firsts ss (length cs) t.follow, t.small)

-- no group is empty
second_members : {X : Type 0} (ys : List X) (grouped : Bool) → 1 ≤ length ys → HasMembers (cond {A = Second X} grouped (group ys) (as_single ys))
second_members [] grouped le = absurd (omega arith)
second_members (y ∷ ys) true le = λ e. cc
second_members (y ∷ ys) false le = tt

seconds_closed : {X : Type 0} (xs : List X) (place : ℕ) (ss : List SecondPart) (end : ℕ) → Follow place ss end → end ≤ length xs → All HasMembers (map (second_of xs) ss)
seconds_closed xs place [] end h le = All-nil HasMembers
seconds_closed xs place (s ∷ ss) end h le =
    let w = follow_within (place + s.count) ss end h.3 in
    let n : 1 ≤ length (slice xs s) = omega (arith, h.0, h.1, length-take s.count (drop s.begin xs), length-drop s.begin xs) in
    All-cons HasMembers (second_of xs s) (map (second_of xs) ss) (second_members (slice xs s) s.group n) (seconds_closed xs (place + s.count) ss end h.3 le)

pub table_closed : (cs : List Kept) (firsts : ℕ) (ss : List SecondPart) → IsTable cs firsts ss → IsClosedUp (table_of (items_of cs) firsts ss)
table_closed cs firsts ss t = seconds_closed (items_of cs) firsts ss (length cs) t.follow (omega (arith, count_items cs))
