-- Codes of built-in states worked from the written lists (EXI 1.0, sections 8.4.2, 8.4.3 and 8.3), and what
-- a stream teaches.
use Rattle.std.proofs.Common.{◌≡◌, ℕ, List, [], ◌∷◌, None, refl, true, false}
use Rattle.exi_names.specs.declared.names.NameId.{NameId}
use Rattle.exi_gram.specs.Codes.{Coded, coded}
use Rattle.exi_gram.specs.declared.options.Options.{Options}
use Rattle.exi_gram.specs.declared.options.SchemaWord.TheVariants as schema
use Rattle.exi_builtin.specs.declared.learnable.Learnable.{Learnable}
use Rattle.exi_builtin.specs.declared.learnable.Learnable.TheVariants as learnable
use Rattle.exi_builtin.specs.declared.learnable.Learned.TheVariants as learned
use Rattle.exi_builtin.specs.declared.learnable.Room.TheVariants as room
use Rattle.exi_builtin.specs.Learning.{Learning, after_use, grammar_number, nothing_learned, productions, with_grammar}

options_of : ℕ → Options
options_of flags = record { flags = record { 0 = flags }; schema = schema.Absent; block = 1_000_000; most = None; capacity = None }

at : List ℕ → Learnable → Coded Learnable
at parts item = record { parts = parts; item = item }

a_name : NameId
a_name = record { uri = 0; local = 0 }

b_name : NameId
b_name = record { uri = 0; local = 1 }

-- the grammars of two names
two : Learning
two = with_grammar (with_grammar nothing_learned a_name) b_name

-- nothing is switched on: EE 00, AT(*) 01, SE(*) 02, CH 03
start_tag_plain : coded (productions (options_of 0) two (room.StartTag 0)) ≡ at (0 ∷ 0 ∷ []) (learnable.Ee false) ∷ at (0 ∷ 1 ∷ []) learnable.AtAny ∷ at (0 ∷ 2 ∷ []) learnable.SeAny ∷ at (0 ∷ 3 ∷ []) (learnable.Ch false) ∷ []
unfolding options_of at two a_name b_name
start_tag_plain = refl

-- all is switched on: the list as it is written
start_tag_whole : coded (productions (options_of 244) two (room.StartTag 1)) ≡
    at (0 ∷ 0 ∷ []) (learnable.Ee false) ∷ at (0 ∷ 1 ∷ []) learnable.AtAny ∷ at (0 ∷ 2 ∷ []) learnable.Ns ∷ at (0 ∷ 3 ∷ []) learnable.Sc ∷ at (0 ∷ 4 ∷ []) learnable.SeAny ∷ at (0 ∷ 5 ∷ []) (learnable.Ch false) ∷ at (0 ∷ 6 ∷ []) learnable.Er ∷ at (0 ∷ 7 ∷ 0 ∷ []) learnable.Cm ∷ at (0 ∷ 7 ∷ 1 ∷ []) learnable.Pi ∷ []
unfolding options_of at two a_name b_name
start_tag_whole = refl

-- instructions alone: SE(*) 0, ED 1, PI 20
fragment_instructions : coded (productions (options_of 32) nothing_learned room.Fragment) ≡ at (0 ∷ []) learnable.SeAny ∷ at (1 ∷ []) learnable.Ed ∷ at (2 ∷ 0 ∷ []) learnable.Pi ∷ []
unfolding options_of at
fragment_instructions = refl

-- a content that learned an element, and then characters: CH 0, SE(b) 1, EE 2, SE(*) 30, CH 31
content_learned : coded (productions (options_of 0) (after_use (after_use (after_use two (room.Content 0) (learned.Se b_name)) (room.Content 0) learned.Ch) (room.Content 0) learned.Ee) (room.Content 0)) ≡
    at (0 ∷ []) (learnable.Ch true) ∷ at (1 ∷ []) (learnable.Known b_name false) ∷ at (2 ∷ []) (learnable.Ee true) ∷ at (3 ∷ 0 ∷ []) learnable.SeAny ∷ at (3 ∷ 1 ∷ []) (learnable.Ch false) ∷ []
unfolding options_of at two a_name b_name
content_learned = refl

-- a name has one grammar
second_grammar : grammar_number two b_name ≡ 1
unfolding two a_name b_name
second_grammar = refl
