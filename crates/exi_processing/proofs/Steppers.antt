-- What the parts of a step keep.
use Rattle.std.proofs.Common.{◌≡◌, ℕ, zero, suc, Bool, true, false, cond, List, [], ◌∷◌, length, refl, ap}
use Rattle.exi_builtin.specs.declared.element_grammar.ElementGrammar.{ElementGrammar}
use Rattle.exi_builtin.specs.declared.learnable.Learnable.{Learnable}
use Rattle.exi_builtin.specs.declared.learnable.Learned.{Learned}
use Rattle.exi_builtin.specs.declared.learnable.Room.{Room}
use Rattle.exi_builtin.specs.declared.learnable.Room.TheVariants as room
use Rattle.exi_builtin.specs.Learning.{Learning, added_by, after_use, changed_at, in_front, is_new}

changed_count : (gs : List ElementGrammar) (place : ℕ) (change : ElementGrammar → ElementGrammar) → length (changed_at gs place change) ≡ length gs
changed_count [] place change = refl
changed_count (g ∷ gs) zero change = refl
changed_count (g ∷ gs) (suc place) change = ap suc (changed_count gs place change)

front_count : (l : Learning) (r : Room) (x : Learnable) → length (in_front l r x).grammars ≡ length l.grammars
front_count l (room.StartTag number) x = changed_count l.grammars number (λ g. record g { start_tag = x ∷ g.start_tag })
front_count l (room.Content number) x = changed_count l.grammars number (λ g. record g { content = x ∷ g.content })
front_count l room.Fragment x = refl

new_count : (b : Bool) (l m : Learning) → length m.grammars ≡ length l.grammars → length (cond b m l).grammars ≡ length l.grammars
new_count true l m e = e
new_count false l m e = refl

-- learning makes no grammar
pub use_count : (l : Learning) (r : Room) (u : Learned) → length (after_use l r u).grammars ≡ length l.grammars
use_count l r u = new_count (is_new l r u) l (in_front l r (added_by u)) (front_count l r (added_by u))
