-- Where a part is read, and is no wildcard of a foreign namespace, it is not read for the wildcards of its type alone.
use Rattle.std.proofs.Common.{◌≡◌, ℕ, Bool, false, ◌||◌, List, sym, ap, ◌∙◌}
use Rattle.xsd_tree.specs.declared.node.Node.{Node}
use Rattle.xsd_told.specs.Told.{is_unread}
use Rattle.xsd_type_wildcards.specs.TypeWildcards.{is_second_wild}
use Rattle.xsd_wildcards.specs.Wildcards.{is_foreign_wild}
use Rattle.xsd_schema.specs.Shows.{is_unread_or_wild}

third : (a b c : Bool) → a ≡ false → b ≡ false → c ≡ (a || b || c)
third a b c e f = ap (λ x. false || x || c) (sym f) ∙ ap (λ x. x || b || c) (sym e)

pub left_to_second : (joined : Bool) (ns : List Node) (i : ℕ) → is_unread joined ns i ≡ false → is_foreign_wild ns i ≡ false → is_second_wild ns i ≡ is_unread_or_wild joined ns i
unfolding is_unread_or_wild
left_to_second joined ns i e f = third (is_unread joined ns i) (is_foreign_wild ns i) (is_second_wild ns i) e f
