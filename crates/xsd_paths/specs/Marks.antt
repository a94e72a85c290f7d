-- The elements of which it is known that their paths end: they are listed, each behind all that its steps lead to, and marked.
use Rattle.std.specs.Prelude.{◌≡◌, ℕ, ◌+◌, ◌<◌, Bool, true, false, ◌&&◌, not, List, [], ◌∷◌, ◌++◌, get_or, length, nat_lt, set, take, if◌then◌else◌}
use Rattle.std.specs.List.{count_by, list_all}
use Rattle.xsd_tree.specs.declared.node.Node.{Node}
use Rattle.xsd_steps.specs.Steps.{steps}
use Rattle.xsd_paths.specs.Paths.{is_in, is_whole, leads_to}

abbrev pub is_marked : List Bool → ℕ → Bool
is_marked marks i = get_or marks i false

-- each step of an element leads to one that is marked
unfoldable pub is_ready : List Node → List Bool → ℕ → Bool
is_ready ns marks i = list_all (leads_to (is_marked marks)) (steps ns i)

-- it is not marked, and may be
unfoldable pub is_due : List Node → List Bool → ℕ → Bool
is_due ns marks i = nat_lt i (length marks) && (not (is_marked marks i) && is_ready ns marks i)

-- behind a look at an element
abbrev pub listed : List Node → List Bool → ℕ → List ℕ → List ℕ
listed ns marks i order = if is_due ns marks i then order ++ i ∷ [] else order

abbrev pub marked : List Node → List Bool → ℕ → List Bool
marked ns marks i = if is_due ns marks i then set marks i true else marks

pub record AreKnown (ns : List Node) (order : List ℕ) (marks : List Bool) : Type 0 where
  pub count : length marks ≡ length ns
  pub few : length order + count_by not marks ≡ length ns
  pub there : (k : ℕ) → k < length order → get_or order k 0 < length ns
  pub before : (k : ℕ) → k < length order → list_all (leads_to (is_in (take k order))) (steps ns (get_or order k 0)) ≡ true
  pub each : (i : ℕ) → is_marked marks i ≡ is_in order i

-- none of those before a place may be marked any more
abbrev pub AreSettled : ℕ → List Node → List Bool → Type 0
AreSettled n ns marks = (i : ℕ) → i < n → is_due ns marks i ≡ false

-- marked are those whose paths end
pub record AreWhole (ns : List Node) (marks : List Bool) : Type 0 where
  pub count : length marks ≡ length ns
  pub each : (i : ℕ) → i < length ns → is_marked marks i ≡ is_whole ns i
