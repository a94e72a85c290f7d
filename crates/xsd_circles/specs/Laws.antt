-- Where no element reaches itself, each path ends.
use Rattle.std.specs.Prelude.{◌≡◌, ℕ, Bool, true, false, List}
use Rattle.std.specs.List.{list_all}
use Rattle.xsd_tree.specs.declared.node.Node.{Node}
use Rattle.xsd_paths.specs.Paths.{is_whole, leads_to}
use Rattle.xsd_steps.specs.Steps.{steps}
use Rattle.xsd_circles.specs.Circles.{reaches_itself}

-- each step of an element leads to one of these elements
abbrev pub stays_among : List Node → (ℕ → Bool) → ℕ → Bool
stays_among ns among i = list_all (leads_to among) (steps ns i)

-- of elements that lead to each other alone, and that do not reach themselves, each has paths that end
abbrev pub PathsEnd : Type 0
PathsEnd =
    (ns : List Node) (among : ℕ → Bool)
    → ((i : ℕ) → among i ≡ true → reaches_itself ns i ≡ false)
    → ((i : ℕ) → among i ≡ true → stays_among ns among i ≡ true)
    → (i : ℕ) → among i ≡ true → is_whole ns i ≡ true
