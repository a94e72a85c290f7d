-- The built-in grammars of elements and fragments (EXI 1.0, sections 8.4.2 and 8.4.3), as they stand before
-- anything is learned, and what the options leave of them (section 8.3).
use Rattle.std.specs.Prelude.{ℕ, Bool, true, false, Option, None, [], ◌∷◌}
use Rattle.exi_gram.specs.declared.options.Options.{Options}
use Rattle.exi_gram.specs.Codes.{Productions, single, group, mapped, pruned}
use Rattle.exi_gram.specs.Switches.{comments, dtd, prefixes, processing_instructions, self_contained}
use Rattle.exi_gram.specs.Terminals.{Rule, Symbol, se_any, cm, pi}
use Rattle.exi_gram.specs.Wholes as whole
use Rattle.exi_builtin.specs.declared.learnable.Learnable.{Learnable}
use Rattle.exi_builtin.specs.declared.learnable.Learnable.TheVariants as learnable
use Rattle.exi_builtin.specs.declared.learnable.Room.{Room}
use Rattle.exi_builtin.specs.declared.learnable.Room.TheVariants as room

-- a production of a built-in state: what it reads; the place of the state that follows in its grammar, 0 for
-- StartTagContent, 1 for ElementContent and FragmentContent; and the place of the built-in grammar of the element that it
-- opens, where the name is known and the grammar made
pub record BuiltInRule : Type 0 where
  pub on : Learnable
  pub to : ℕ
  pub inner : Option ℕ

abbrev leading : Learnable → ℕ → BuiltInRule
leading on to = record { on = on; to = to; inner = None }

-- StartTagContent (8.4.3): EE 0.0, AT(*) 0.1, NS 0.2, SC 0.3, SE(*) 0.4, CH 0.5, ER 0.6, CM 0.7.0, PI 0.7.1. AT(*) and NS stay
abbrev pub start_tag_rules : Productions BuiltInRule
start_tag_rules = record {
  firsts = [];
  seconds =
      single (leading (learnable.Ee false) 1)
      ∷ single (leading learnable.AtAny 0)
      ∷ single (leading learnable.Ns 0)
      ∷ single (leading learnable.Sc 1)
      ∷ single (leading learnable.SeAny 1)
      ∷ single (leading (learnable.Ch false) 1)
      ∷ single (leading learnable.Er 1)
      ∷ group (leading learnable.Cm 1 ∷ leading learnable.Pi 1 ∷ [])
      ∷ [];
}

-- ElementContent (8.4.3): EE 0, SE(*) 1.0, CH 1.1, ER 1.2, CM 1.3.0, PI 1.3.1
abbrev pub element_rules : Productions BuiltInRule
element_rules = record {
  firsts = leading (learnable.Ee true) 1 ∷ [];
  seconds =
      single (leading learnable.SeAny 1)
      ∷ single (leading (learnable.Ch false) 1)
      ∷ single (leading learnable.Er 1)
      ∷ group (leading learnable.Cm 1 ∷ leading learnable.Pi 1 ∷ [])
      ∷ [];
}

-- FragmentContent (8.4.2): SE(*) 0, ED 1, CM 2.0, PI 2.1. It is the Fragment grammar's where a schema gives it no elements,
-- and what is none of SE(*), CM and PI there is ED
abbrev fragment_reads : Symbol → Learnable
fragment_reads se_any = learnable.SeAny
fragment_reads cm = learnable.Cm
fragment_reads pi = learnable.Pi
fragment_reads other = learnable.Ed

abbrev fragment_rule : Rule → BuiltInRule
fragment_rule r = leading (fragment_reads r.on) r.to

abbrev pub fragment_rules : Productions BuiltInRule
fragment_rules = mapped fragment_rule (whole.fragment_content [])

-- the state as it is written, and what its productions read
abbrev pub written_rules : Room → Productions BuiltInRule
written_rules (room.StartTag number) = start_tag_rules
written_rules (room.Content number) = element_rules
written_rules room.Fragment = fragment_rules

abbrev pub reading : Productions BuiltInRule → Productions Learnable
reading p = mapped (λ r. r.on) p

abbrev pub start_tag_content : Productions Learnable
start_tag_content = reading start_tag_rules

abbrev pub element_content : Productions Learnable
element_content = reading element_rules

abbrev pub fragment_content : Productions Learnable
fragment_content = reading fragment_rules

abbrev pub written : Room → Productions Learnable
written (room.StartTag number) = start_tag_content
written (room.Content number) = element_content
written room.Fragment = fragment_content

-- what the options leave: CM by comments, PI by pis, ER by dtd, NS by prefixes, SC by selfContained (8.3)
abbrev pub is_kept : Options → Learnable → Bool
is_kept o (learnable.Known name attribute) = true
is_kept o learnable.SeAny = true
is_kept o learnable.AtAny = true
is_kept o (learnable.Ch one_part) = true
is_kept o (learnable.Ee one_part) = true
is_kept o learnable.Ed = true
is_kept o learnable.Ns = prefixes o
is_kept o learnable.Sc = self_contained o
is_kept o learnable.Er = dtd o
is_kept o learnable.Cm = comments o
is_kept o learnable.Pi = processing_instructions o

abbrev pub left_of : Options → Productions Learnable → Productions Learnable
left_of o p = pruned (is_kept o) p
