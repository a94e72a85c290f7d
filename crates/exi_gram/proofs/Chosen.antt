-- The codes of a state are read part by part as a tree: by their productions and by the codes alone.
use Rattle.std.proofs.Common.{◌≡◌, ◌≢◌, ℕ, zero, suc, ◌+◌, ◌<◌, ◌≤◌, List, [], ◌∷◌, ◌++◌, length, map, slice_get, Option, Some, None, Result, Ok, Err, refl, sym, ap, ◌∙◌, All, eq-eqb, ne_eqb, arith}
use Rattle.std.proofs.lemmas.List.{append-nil}
use Rattle.std.proofs.lemmas.Option.{slice_get_within}
use Rattle.exi_bits.specs.declared.align.Align.{Align}
use Rattle.exi_bits.specs.declared.fault.Fault.{Fault}
use Rattle.exi_bits.specs.Bits.{Spot}
use Rattle.exi_bits.specs.Unsigned.{◌>>=◌}
use Rattle.exi_gram.specs.Codes.{Coded, HasMembers, IsClosedUp, Productions, Second, code_at, coded, coded_from, coded_second, coded_seconds, first_told, first_values, group, member_at, part_at, second_at, second_told, single, told, values_of}
use Rattle.exi_gram.specs.CodeTrees.{behind, chosen_at, counted, ended, parts_in, place_read, told_by}
use Rattle.exi_gram.specs.Laws.{codes, numbered, placed}
use Rattle.exi_gram.proofs.CodeLaws.{get_none, longer_few, placed_closed, placed_numbered, second_count, third_count}
use Rattle.exi_gram.proofs.CodeLists.{first_count, some_is}
use Rattle.exi_gram.proofs.PartLaws.{part_within, within_get}
use Rattle.exi_gram.proofs.Trees.{behind-append, ended-append}

-- ---- what is left of codes
-- of the codes that count from a number those before it, and those that go on with another part
from_before : {X : Type 0} (part from : ℕ) (xs : List X) → part < from → behind (part ∷ []) (coded_from [] from xs) ≡ []
from_before part from [] less = refl
from_before part from (x ∷ xs) less = rw (ne_eqb part from (λ e. omega (arith, e, less))) (from_before part (suc from) xs (omega (arith, less)))

pub from_here : {X : Type 0} (from i : ℕ) (xs : List X) (x : X) → slice_get xs i ≡ Some x → behind ((from + i) ∷ []) (coded_from [] from xs) ≡ record { parts = []; item = x } ∷ []
from_here from i [] x e = absurd cc
from_here {X} from zero (y ∷ xs) x e =
    let same : from + 0 ≡ from = omega arith in
    rw (eq-eqb (from + 0) from same) (ap (λ (cs : List (Coded X)). record { parts = []; item = y } ∷ cs) (from_before (from + 0) (suc from) xs (omega arith)) ∙ ap (λ (z : X). record { parts = []; item = z } ∷ []) (some_is y x e))
from_here {X} from (suc i) (y ∷ xs) x e =
    let same : from + suc i ≡ suc from + i = omega arith in
    rw (ne_eqb (from + suc i) from (λ e. omega (arith, e))) (ap (λ (k : ℕ). behind (k ∷ []) (coded_from [] (suc from) xs)) same ∙ from_here (suc from) i xs x e)

-- of codes that begin with a part
from_under : {X : Type 0} (part from : ℕ) (front : List ℕ) (xs : List X) → behind (part ∷ []) (coded_from (part ∷ front) from xs) ≡ coded_from front from xs
from_under part from front [] = refl
from_under {X} part from front (x ∷ xs) = rw (eq-eqb part part refl) (ap (λ (cs : List (Coded X)). record { parts = front ++ from ∷ []; item = x } ∷ cs) (from_under part (suc from) front xs))

from_other : {X : Type 0} (part other from : ℕ) (front : List ℕ) (xs : List X) → part ≢ other → behind (part ∷ []) (coded_from (other ∷ front) from xs) ≡ []
from_other part other from front [] ne = refl
from_other part other from front (x ∷ xs) ne = rw (ne_eqb part other ne) (from_other part other (suc from) front xs ne)

second_under : {X : Type 0} (part from : ℕ) (y : Second X) → behind (part ∷ []) (coded_second (part ∷ []) from y) ≡ coded_second [] from y
second_under part from (single x) = rw (eq-eqb part part refl) refl
second_under part from (group xs) = from_under part 0 (from ∷ []) xs

seconds_under : {X : Type 0} (part from : ℕ) (ys : List (Second X)) → behind (part ∷ []) (coded_seconds (part ∷ []) from ys) ≡ coded_seconds [] from ys
seconds_under part from [] = refl
seconds_under {X} part from (y ∷ ys) =
    behind-append (part ∷ []) (coded_second (part ∷ []) from y) (coded_seconds (part ∷ []) (suc from) ys)
    ∙ ap (λ (cs : List (Coded X)). cs ++ behind (part ∷ []) (coded_seconds (part ∷ []) (suc from) ys)) (second_under part from y)
    ∙ ap (λ (cs : List (Coded X)). coded_second [] from y ++ cs) (seconds_under part (suc from) ys)

second_other : {X : Type 0} (part other : ℕ) (y : Second X) → part ≢ other → behind (part ∷ []) (coded_second [] other y) ≡ []
second_other part other (single x) ne = rw (ne_eqb part other ne) refl
second_other part other (group xs) ne = from_other part other 0 [] xs ne

second_apart : {X : Type 0} (part other from : ℕ) (y : Second X) → part ≢ other → behind (part ∷ []) (coded_second (other ∷ []) from y) ≡ []
second_apart part other from (single x) ne = rw (ne_eqb part other ne) refl
second_apart part other from (group xs) ne = from_other part other 0 (from ∷ []) xs ne

seconds_apart : {X : Type 0} (part other from : ℕ) (ys : List (Second X)) → part ≢ other → behind (part ∷ []) (coded_seconds (other ∷ []) from ys) ≡ []
seconds_apart part other from [] ne = refl
seconds_apart {X} part other from (y ∷ ys) ne =
    behind-append (part ∷ []) (coded_second (other ∷ []) from y) (coded_seconds (other ∷ []) (suc from) ys)
    ∙ ap (λ (cs : List (Coded X)). cs ++ behind (part ∷ []) (coded_seconds (other ∷ []) (suc from) ys)) (second_apart part other from y ne)
    ∙ seconds_apart part other (suc from) ys ne

seconds_before : {X : Type 0} (part from : ℕ) (ys : List (Second X)) → part < from → behind (part ∷ []) (coded_seconds [] from ys) ≡ []
seconds_before part from [] less = refl
seconds_before {X} part from (y ∷ ys) less =
    behind-append (part ∷ []) (coded_second [] from y) (coded_seconds [] (suc from) ys)
    ∙ ap (λ (cs : List (Coded X)). cs ++ behind (part ∷ []) (coded_seconds [] (suc from) ys)) (second_other part from y (λ e. omega (arith, e, less)))
    ∙ seconds_before part (suc from) ys (omega (arith, less))

-- what a second part leaves
abbrev pub left_by : {X : Type 0} → Second X → List (Coded X)
left_by (single x) = record { parts = []; item = x } ∷ []
left_by (group xs) = coded_from [] 0 xs

second_here : {X : Type 0} (part : ℕ) (y : Second X) → behind (part ∷ []) (coded_second [] part y) ≡ left_by y
second_here part (single x) = rw (eq-eqb part part refl) refl
second_here part (group xs) = from_under part 0 [] xs

pub seconds_here : {X : Type 0} (from j : ℕ) (ys : List (Second X)) (y : Second X) → slice_get ys j ≡ Some y → behind ((from + j) ∷ []) (coded_seconds [] from ys) ≡ left_by y
seconds_here from j [] y e = absurd cc
seconds_here {X} from zero (z ∷ ys) y e =
    let same : from + 0 ≡ from = omega arith in
    behind-append ((from + 0) ∷ []) (coded_second [] from z) (coded_seconds [] (suc from) ys)
    ∙ ap (λ (cs : List (Coded X)). behind ((from + 0) ∷ []) (coded_second [] from z) ++ cs) (seconds_before (from + 0) (suc from) ys (omega arith))
    ∙ append-nil (behind ((from + 0) ∷ []) (coded_second [] from z))
    ∙ ap (λ (k : ℕ). behind (k ∷ []) (coded_second [] from z)) same
    ∙ second_here from z ∙ ap left_by (some_is z y e)
seconds_here {X} from (suc j) (z ∷ ys) y e =
    let same : from + suc j ≡ suc from + j = omega arith in
    behind-append ((from + suc j) ∷ []) (coded_second [] from z) (coded_seconds [] (suc from) ys)
    ∙ ap (λ (cs : List (Coded X)). cs ++ behind ((from + suc j) ∷ []) (coded_seconds [] (suc from) ys)) (second_other (from + suc j) from z (λ e. omega (arith, e)))
    ∙ ap (λ (k : ℕ). behind (k ∷ []) (coded_seconds [] (suc from) ys)) same
    ∙ seconds_here (suc from) j ys y e

-- the codes of a state behind a first part that ends, and behind the one of all longer codes
pub state_first : {X : Type 0} (p : Productions X) (i : ℕ) (x : X) → slice_get p.firsts i ≡ Some x → behind (i ∷ []) (coded p) ≡ record { parts = []; item = x } ∷ []
state_first {X} p i x e =
    let less : i < length p.firsts = slice_get_within p.firsts i x e in
    behind-append (i ∷ []) (coded_from [] 0 p.firsts) (coded_seconds (length p.firsts ∷ []) 0 p.seconds)
    ∙ ap (λ (cs : List (Coded X)). behind (i ∷ []) (coded_from [] 0 p.firsts) ++ cs) (seconds_apart i (length p.firsts) 0 p.seconds (λ e. omega (arith, e, less)))
    ∙ append-nil (behind (i ∷ []) (coded_from [] 0 p.firsts))
    ∙ (let same : i ≡ 0 + i = omega arith in ap (λ (k : ℕ). behind (k ∷ []) (coded_from [] 0 p.firsts)) same) ∙ from_here 0 i p.firsts x e

from_past : {X : Type 0} (part from : ℕ) (xs : List X) → from + length xs ≤ part → behind (part ∷ []) (coded_from [] from xs) ≡ []
from_past part from [] le = refl
from_past part from (x ∷ xs) le = rw (ne_eqb part from (λ e. omega (arith, e, le))) (from_past part (suc from) xs (omega (arith, le)))

pub state_longer : {X : Type 0} (p : Productions X) → behind (length p.firsts ∷ []) (coded p) ≡ coded_seconds [] 0 p.seconds
state_longer {X} p =
    behind-append (length p.firsts ∷ []) (coded_from [] 0 p.firsts) (coded_seconds (length p.firsts ∷ []) 0 p.seconds)
    ∙ ap (λ (cs : List (Coded X)). cs ++ behind (length p.firsts ∷ []) (coded_seconds (length p.firsts ∷ []) 0 p.seconds)) (from_past (length p.firsts) 0 p.firsts (omega arith))
    ∙ seconds_under (length p.firsts) 0 p.seconds

-- ---- none has ended yet
none_from : {X : Type 0} (front : List ℕ) (from : ℕ) (xs : List X) → ended (coded_from front from xs) ≡ None
none_from front from [] = refl
none_from {X} front from (x ∷ xs) = by front (none_from front (suc from) xs)
  where
    by : (f : List ℕ) → ended (coded_from front (suc from) xs) ≡ None → told_by (f ++ from ∷ []) x (ended (coded_from front (suc from) xs)) ≡ None
    by [] e = rw e refl
    by (y ∷ ys) e = rw e refl

none_second : {X : Type 0} (front : List ℕ) (from : ℕ) (y : Second X) → ended (coded_second front from y) ≡ None
none_second front from (single x) = none_from front from (x ∷ [])
none_second front from (group xs) = none_from (front ++ from ∷ []) 0 xs

none_seconds : {X : Type 0} (front : List ℕ) (from : ℕ) (ys : List (Second X)) → ended (coded_seconds front from ys) ≡ None
none_seconds front from [] = refl
none_seconds {X} front from (y ∷ ys) = ended-append (coded_second front from y) (coded_seconds front (suc from) ys) ∙ rw (none_second front from y, none_seconds front (suc from) ys) refl

none_coded : {X : Type 0} (p : Productions X) → ended (coded p) ≡ None
none_coded p = ended-append (coded_from [] 0 p.firsts) (coded_seconds (length p.firsts ∷ []) 0 p.seconds) ∙ rw (none_from [] 0 p.firsts, none_seconds (length p.firsts ∷ []) 0 p.seconds) refl

-- ---- the reading
part_next : {X : Type 0} (more : ℕ) (a : Align) (cs : List (Coded X)) (count : ℕ) (s : Spot) (next : ℕ × Spot → Result (X × Spot) Fault) → ended cs ≡ None → values_of (parts_in cs) ≡ count
    → ((q : ℕ × Spot) → q.0 < count → next q ≡ chosen_at more a (behind (q.0 ∷ []) cs) q.1) → (part_at count a s >>= next) ≡ chosen_at (suc more) a cs s
unfolding chosen_at
part_next {X} more a cs count s next none v h = rw (none, v) (by (part_at count a s) refl)
  where
    by : (r : Result (ℕ × Spot) Fault) → part_at count a s ≡ r → (r >>= next) ≡ (r >>= λ part. chosen_at more a (behind (part.0 ∷ []) cs) part.1)
    by (Ok q) e = h q (part_within count a s q e)
    by (Err f) e = refl

tells : {X : Type 0} (more : ℕ) (a : Align) (x : X) (s : Spot) → Ok (x, s) ≡ chosen_at more a (record { parts = []; item = x } ∷ []) s
unfolding chosen_at
tells zero a x s = refl
tells (suc more) a x s = refl

member_chosen : {X : Type 0} (a : Align) (xs : List X) (s : Spot) → member_at a xs s ≡ chosen_at 1 a (coded_from [] 0 xs) s
unfolding member_at
member_chosen {X} a xs s = part_next 0 a (coded_from [] 0 xs) (length xs) s (λ third. told (slice_get xs third.0) third.1) (none_from [] 0 xs) (third_count xs) by
  where
    by : (q : ℕ × Spot) → q.0 < length xs → told (slice_get xs q.0) q.1 ≡ chosen_at 0 a (behind (q.0 ∷ []) (coded_from [] 0 xs)) q.1
    by q less =
        let k = within_get xs q.0 less in
        let same : q.0 ≡ 0 + q.0 = omega arith in
        ap (λ (o : Option X). told o q.1) k.1 ∙ tells 0 a k.0 q.1
        ∙ ap (λ (cs : List (Coded X)). chosen_at 0 a cs q.1) (sym (ap (λ (i : ℕ). behind (i ∷ []) (coded_from [] 0 xs)) same ∙ from_here 0 q.0 xs k.0 k.1))

second_told_chosen : {X : Type 0} (a : Align) (y : Second X) (s : Spot) → second_told a (Some y) s ≡ chosen_at 1 a (left_by y) s
second_told_chosen a (single x) s = tells 1 a x s
second_told_chosen a (group xs) s = member_chosen a xs s

second_chosen : {X : Type 0} (a : Align) (ys : List (Second X)) (s : Spot) → All HasMembers ys → second_at a ys s ≡ chosen_at 2 a (coded_seconds [] 0 ys) s
unfolding second_at
second_chosen {X} a ys s h = part_next 1 a (coded_seconds [] 0 ys) (length ys) s (λ second. second_told a (slice_get ys second.0) second.1) (none_seconds [] 0 ys) (second_count ys h) by
  where
    by : (q : ℕ × Spot) → q.0 < length ys → second_told a (slice_get ys q.0) q.1 ≡ chosen_at 1 a (behind (q.0 ∷ []) (coded_seconds [] 0 ys)) q.1
    by q less =
        let k = within_get ys q.0 less in
        let same : q.0 ≡ 0 + q.0 = omega arith in
        ap (λ (o : Option (Second X)). second_told a o q.1) k.1 ∙ second_told_chosen a k.0 q.1
        ∙ ap (λ (cs : List (Coded X)). chosen_at 1 a cs q.1) (sym (ap (λ (i : ℕ). behind (i ∷ []) (coded_seconds [] 0 ys)) same ∙ seconds_here 0 q.0 ys k.0 k.1))

first_told_chosen : {X : Type 0} (a : Align) (p : Productions X) (i : ℕ) (o : Option X) (s : Spot) → IsClosedUp p → i < first_values p → slice_get p.firsts i ≡ o → first_told a p.seconds o s ≡ chosen_at 2 a (behind (i ∷ []) (coded p)) s
first_told_chosen {X} a p i (Some x) s h less e = tells 2 a x s ∙ ap (λ (cs : List (Coded X)). chosen_at 2 a cs s) (sym (state_first p i x e))
first_told_chosen {X} a p i None s h less e =
    let q : length p.firsts ≡ i = omega (arith, get_none p.firsts i e, longer_few p.seconds) in
    second_chosen a p.seconds s h ∙ ap (λ (cs : List (Coded X)). chosen_at 2 a cs s) (sym (state_longer p)) ∙ ap (λ (k : ℕ). chosen_at 2 a (behind (k ∷ []) (coded p)) s) q

pub code_chosen : {X : Type 0} (p : Productions X) → IsClosedUp p → (a : Align) (s : Spot) → code_at a p s ≡ chosen_at 3 a (coded p) s
unfolding code_at
code_chosen {X} p h a s = part_next 2 a (coded p) (first_values p) s (λ first. first_told a p.seconds (slice_get p.firsts first.0) first.1) (none_coded p) (first_count p h) (λ q less. first_told_chosen a p q.0 (slice_get p.firsts q.0) q.1 h less refl)

-- ---- places
numbered_counted : {X : Type 0} (place : ℕ) (cs : List (Coded X)) → numbered place cs ≡ counted place (map (λ c. c.parts) cs)
numbered_counted place [] = refl
numbered_counted place (c ∷ cs) = ap (λ (ds : List (Coded ℕ)). record { parts = c.parts; item = place } ∷ ds) (numbered_counted (suc place) cs)

pub place_chosen : {X : Type 0} (p : Productions X) → IsClosedUp p → (a : Align) (s : Spot) → code_at a (placed p) s ≡ place_read a (codes p) s
place_chosen p h a s =
    code_chosen (placed p) (placed_closed p h) a s
    ∙ ap (λ (cs : List (Coded ℕ)). chosen_at 3 a cs s) (placed_numbered p ∙ numbered_counted 0 (coded p))
