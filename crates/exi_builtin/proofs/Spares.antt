-- A grammar in use is changed at its place.
use Rattle.std.proofs.Common.{◌≡◌, ℕ, ◌<◌, ◌≤◌, List, length, set, get_or, take, sym, ◌∙◌, arith}
use Rattle.std.proofs.lemmas.List.{get_or-take, length-take-le}
use Rattle.std.proofs.Math.Seq.{take-set-lt}
use Rattle.exi_builtin.specs.declared.element_grammar.ElementGrammar.{ElementGrammar}
use Rattle.exi_builtin.specs.Kept.{AreSpares}
use Rattle.exi_builtin.specs.Learning.{changed_at}
use Rattle.exi_builtin.proofs.Naming.{set-changed_at}

below_used : (gs : List ElementGrammar) (used i : ℕ) → used ≤ length gs → i < length (take used gs) → i < used
below_used gs used i fits within = let count = length-take-le used gs fits in omega (arith, count, within)

pub changed_taken : (change : ElementGrammar → ElementGrammar) (gs : List ElementGrammar) (used i : ℕ) (g : ElementGrammar) → AreSpares used gs → i < length (take used gs) → g ≡ get_or gs i g → take used (set gs i (change g)) ≡ changed_at (take used gs) i change
changed_taken change gs used i g spares within there =
    let below : i < used = below_used gs used i spares.within within in
    take-set-lt used gs i (change g) below ∙ set-changed_at change (take used gs) i g within (there ∙ sym (get_or-take used gs i g below))
