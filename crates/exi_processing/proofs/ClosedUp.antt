-- In no state of a book, and in no built-in state, is a group of productions empty.
use Rattle.std.proofs.Common.{ℕ, suc, Bool, true, false, cond, List, [], ◌∷◌, map, refl, arith, All}
use Rattle.std.proofs.lemmas.List.Elements.{All-nil, All-cons}
use Rattle.exi_builtin.specs.BuiltIn.{BuiltInRule, is_kept, written_rules}
use Rattle.exi_builtin.specs.Learning.{Learning}
use Rattle.exi_builtin.specs.declared.learnable.Room.{Room}
use Rattle.exi_builtin.specs.declared.learnable.Room.TheVariants as room
use Rattle.exi_gram.specs.Books.{IsBook, state_at}
use Rattle.exi_gram.specs.Codes.{HasMembers, IsClosedUp, Second, group, kept_seconds, mapped_second, single}
use Rattle.exi_gram.proofs.CodeLaws.{pruned_closed}
use Rattle.exi_ways.proofs.Options.{codes_close_up}
use Rattle.exi_processing.specs.Configurations.{Config, IsSetting, Setting, built_in, element_rules, in_book, outer_rules, rules_in, rules_of}
use Rattle.exi_processing.specs.Rules.{book_rule, built_in_rule}
use Rattle.exi_processing.specs.declared.frames.Element.{Element}
use Rattle.exi_processing.specs.declared.frames.Outer.{Outer}
use Rattle.exi_processing.specs.declared.frames.Outer.TheVariants as outer
use Rattle.exi_processing.specs.declared.frames.State.{State}
use Rattle.exi_processing.specs.declared.frames.State.TheVariants as state

member_mapped : {X Y : Type 0} (f : X → Y) (x : Second X) → HasMembers x → HasMembers (mapped_second f x)
member_mapped f (single x) h = tt
member_mapped f (group []) h = absurd (h refl)
member_mapped f (group (x ∷ xs)) h = λ e. absurd cc

mapped_members : {X Y : Type 0} (f : X → Y) (xs : List (Second X)) → All HasMembers xs → All HasMembers (map (mapped_second f) xs)
mapped_members f [] h = All-nil HasMembers
mapped_members f (x ∷ xs) h = All-cons HasMembers (mapped_second f x) (map (mapped_second f) xs) (member_mapped f x (h 0 x (omega arith))) (mapped_members f xs (λ i d less. h (suc i) d (omega arith)))

built_in_closed : (g : Setting) (l : Learning) (r : Room) → IsClosedUp (built_in g l r)
built_in_closed g l r = mapped_members built_in_rule (kept_seconds (λ (x : BuiltInRule). is_kept g.options x.on) (written_rules r).seconds) (pruned_closed (λ (x : BuiltInRule). is_kept g.options x.on) (written_rules r))

book_closed : (g : Setting) → IsBook g → (grammar number : ℕ) → IsClosedUp (in_book g grammar number)
book_closed g b grammar number = mapped_members book_rule (state_at g grammar number).seconds (codes_close_up g b grammar number)

-- ---- every state
-- the content of a fragment that stands for one element
alone_closed : (g : Setting) (l : Learning) → IsBook g → (known : Bool) → IsClosedUp (cond known (in_book g 1 1) (built_in g l room.Fragment))
alone_closed g l b true = book_closed g b 1 1
alone_closed g l b false = built_in_closed g l room.Fragment

outer_closed : (g : Setting) (l : Learning) (o : Outer) → IsBook g → IsClosedUp (outer_rules g l o)
outer_closed g l (outer.Book grammar number) b = book_closed g b grammar number
outer_closed g l outer.FragmentStart b = All-nil HasMembers
outer_closed g l outer.FragmentContent b = built_in_closed g l room.Fragment
outer_closed g l outer.AloneStart b = All-nil HasMembers
outer_closed g l outer.AloneFirst b = alone_closed g l b g.schema.known
outer_closed g l outer.AloneOver b = alone_closed g l b g.schema.known
outer_closed g l outer.Ended b = All-nil HasMembers

element_closed : (g : Setting) (l : Learning) (s : State) → IsBook g → IsClosedUp (element_rules g l s)
element_closed g l (state.BuiltIn r) b = built_in_closed g l r
element_closed g l (state.Informed grammar number empty) b = book_closed g b grammar number

closed_in : (g : Setting) (l : Learning) (es : List Element) (o : Outer) → IsBook g → IsClosedUp (rules_in g l es o)
closed_in g l [] o b = outer_closed g l o b
closed_in g l (e ∷ es) o b = element_closed g l e.state b

pub closed_up : (g : Setting) (c : Config) → IsSetting g → IsClosedUp (rules_of g c)
closed_up g c s = closed_in g c.learned c.elements c.outer s.book
