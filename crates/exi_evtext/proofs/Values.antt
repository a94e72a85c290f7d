-- Values one after another.
use Rattle.std.proofs.Common.{◌≡◌, ◌<◌, ◌+◌, ◌-◌, ℕ, suc, List, [], ◌∷◌, ◌++◌, Option, Some, None, refl, sym, ap, ◌∙◌, arith}
use Rattle.exi_names.specs.Seen.{Value, Values, no_more, and, values_of}
use Rattle.exi_calendar.specs.Reading.{past}
use Rattle.exi_evtext.specs.Reading.{item_at, items_at, with_item}

-- values in front of others
abbrev pub values_before : List Value → Values → Values
values_before [] more = more
values_before (v ∷ vs) more = and v (values_before vs more)

-- values in front of those that are read
abbrev pub behind_values : List Value → Option (Values × List ℕ) → Option (Values × List ℕ)
behind_values before None = None
behind_values before (Some found) = Some (values_before before found.0, found.1)

before_one : (vs : List Value) (v : Value) (more : Values) → values_before vs (and v more) ≡ values_before (vs ++ v ∷ []) more
before_one [] v more = refl
before_one (u ∷ vs) v more = ap (and u) (before_one vs v more)

before_none : (vs : List Value) → values_before vs no_more ≡ values_of vs
before_none [] = refl
before_none (v ∷ vs) = ap (and v) (before_none vs)

behind_one : (vs : List Value) (v : Value) (o : Option (Values × List ℕ)) → behind_values vs (with_item v o) ≡ behind_values (vs ++ v ∷ []) o
behind_one vs v None = refl
behind_one vs v (Some found) = ap (λ (x : Values). Some (x, found.1)) (before_one vs v found.0)

pub behind_no_value : (o : Option (Values × List ℕ)) → behind_values [] o ≡ o
behind_no_value None = refl
behind_no_value (Some found) = refl

pub values_go_on : (vs all : List Value) (count i : ℕ) (s start t : List ℕ) (v : Value) (total : Option (Values × List ℕ)) → i < count → past (32 ∷ []) s ≡ Some start → item_at start ≡ Some (v, t)
    → all ≡ vs ++ v ∷ [] → behind_values vs (items_at (count - i) s) ≡ total → behind_values all (items_at (count - (i + 1)) t) ≡ total
values_go_on vs all count i s start t v total lt p q grown so_far =
    let k : count - i ≡ suc (count - (i + 1)) = omega arith in
    let rest = items_at (count - (i + 1)) t in
    let one : items_at (count - i) s ≡ with_item v rest = rw (k, p, q) refl in
    ap (λ (x : List Value). behind_values x rest) grown ∙ sym (ap (behind_values vs) one ∙ behind_one vs v rest) ∙ so_far

pub no_space : (vs : List Value) (count i : ℕ) (s : List ℕ) (total : Option (Values × List ℕ)) → i < count → past (32 ∷ []) s ≡ None → behind_values vs (items_at (count - i) s) ≡ total → total ≡ None
no_space vs count i s total lt p so_far =
    let k : count - i ≡ suc (count - (i + 1)) = omega arith in
    let one : items_at (count - i) s ≡ None = rw (k, p) refl in
    sym so_far ∙ ap (behind_values vs) one

pub no_item : (vs : List Value) (count i : ℕ) (s start : List ℕ) (total : Option (Values × List ℕ)) → i < count → past (32 ∷ []) s ≡ Some start → item_at start ≡ None
    → behind_values vs (items_at (count - i) s) ≡ total → total ≡ None
no_item vs count i s start total lt p q so_far =
    let k : count - i ≡ suc (count - (i + 1)) = omega arith in
    let one : items_at (count - i) s ≡ None = rw (k, p, q) refl in
    sym so_far ∙ ap (behind_values vs) one

pub values_done : (vs : List Value) (count i : ℕ) (s : List ℕ) (total : Option (Values × List ℕ)) → count ≡ i → behind_values vs (items_at (count - i) s) ≡ total → total ≡ Some (values_of vs, s)
values_done vs count i s total e so_far =
    let k : count - i ≡ 0 = omega arith in
    let one : items_at (count - i) s ≡ Some (no_more, s) = rw k refl in
    sym so_far ∙ ap (behind_values vs) one ∙ ap (λ (x : Values). Some (x, s)) (before_none vs)
