-- What a code tells is left by the options: SC stands only where elements may be self-contained.
use Rattle.std.proofs.Common.{◌≡◌, ℕ, zero, suc, Bool, true, false, cond, List, [], ◌∷◌, filter, slice_get, refl, sym, subst, All}
use Rattle.std.specs.Prelude.{◌&&◌, ◌||◌}
use Rattle.std.proofs.lemmas.List.Elements.{All-append, All-cons, All-head, All-nil, All-weaker, filter_passes}
use Rattle.exi_bits.specs.Bits.{Spot}
use Rattle.exi_builtin.specs.BuiltIn.{element_content, is_kept, left_of, start_tag_content}
use Rattle.exi_builtin.specs.Learning.{Learning, behind_learned}
use Rattle.exi_builtin.specs.declared.learnable.Learnable.{Learnable}
use Rattle.exi_builtin.specs.declared.learnable.Learnable.TheVariants as learnable
use Rattle.exi_builtin.specs.declared.learnable.Room.TheVariants as room
use Rattle.exi_gram.specs.Books.{state_at}
use Rattle.exi_gram.specs.Codes.{Productions, Second, code_at, group, group_unless_empty, kept_second, kept_seconds, pruned, single}
use Rattle.exi_gram.specs.Terminals.{Symbol, is_left}
use Rattle.exi_gram.specs.Terminals as symbol
use Rattle.exi_gram.specs.declared.named.Named.{Named as Places}
use Rattle.exi_gram.specs.Switches.{align_of, prefixes, strict, self_contained as may_be, dtd, comments, processing_instructions}
use Rattle.exi_gram.specs.declared.options.Options.{Options}
use Rattle.exi_gram.proofs.CodeTells.{Each, EachOf, code_is, each_mapped}
use Rattle.exi_names.specs.StartTables.{IsStart}
use Rattle.exi_tables.specs.Partitions.{Partitions}
use Rattle.exi_typed.proofs.ContextItems.{fine}
use Rattle.exi_ways.proofs.Lists.{each_weaker}
use Rattle.exi_ways.proofs.Options.{codes_are_left}
use Rattle.exi_processing.specs.Configurations.{Config, IsSetting, Setting, in_book, element_rules, rules_in, rules_of, spot_in}
use Rattle.exi_processing.specs.Rules.{Rule, book_rule, built_in_terminal, self_contained, terminal_of}
use Rattle.exi_processing.specs.Sound.{FitsIn, IsOfNames, IsSound, IsSoundElement, IsSoundLearning, IsStateOfName}
use Rattle.exi_processing.specs.declared.frames.Element.{Element}
use Rattle.exi_processing.specs.declared.frames.Outer.{Outer}
use Rattle.exi_processing.specs.declared.frames.Outer.TheVariants as outer
use Rattle.exi_processing.specs.declared.frames.State.{State}
use Rattle.exi_processing.specs.declared.frames.State.TheVariants as state
use Rattle.exi_processing.proofs.Fitting.{built_in_each, codes_fit, content_of, each_behind, each_of, learned_content, learned_start_tag, start_tag_of}

-- ---- what is pruned passes
passes_rest : {X : Type 0} (P : X → Type 0) (xs : List X) → All P xs → All (EachOf P) (group_unless_empty xs)
passes_rest P [] h = All-nil (EachOf P)
passes_rest P (x ∷ xs) h = All-cons (EachOf P) (group (x ∷ xs)) [] h (All-nil (EachOf P))

module _ {X : Type 0} (keep : X → Bool) where
  abbrev Passes : X → Type 0
  Passes x = keep x ≡ true

  passes_single : (b : Bool) (x : X) → keep x ≡ b → All (EachOf Passes) (cond b (single x ∷ []) [])
  passes_single true x h = All-cons (EachOf Passes) (single x) [] h (All-nil (EachOf Passes))
  passes_single false x h = All-nil (EachOf Passes)

  second_passes : (x : Second X) → All (EachOf Passes) (kept_second keep x)
  second_passes (single x) = passes_single (keep x) x refl
  second_passes (group xs) = passes_rest Passes (filter keep xs) (filter_passes keep xs)

  seconds_pass : (xs : List (Second X)) → All (EachOf Passes) (kept_seconds keep xs)
  seconds_pass [] = All-nil (EachOf Passes)
  seconds_pass (x ∷ xs) = All-append (EachOf Passes) (kept_second keep x) (kept_seconds keep xs) (second_passes x) (seconds_pass xs)

  each_passes : (p : Productions X) → Each Passes (pruned keep p)
  each_passes p = record { firsts = filter_passes keep p.firsts; seconds = seconds_pass p.seconds }

-- ---- SC
abbrev OnlyLeft : Options → Rule → Type 0
OnlyLeft o r = r.on ≡ self_contained → may_be o ≡ true

abbrev OnlyKept : Options → Learnable → Type 0
OnlyKept o x = built_in_terminal x ≡ self_contained → may_be o ≡ true

kept_left : (o : Options) (x : Learnable) → is_kept o x ≡ true → OnlyKept o x
kept_left o (learnable.Known name true) h e = absurd cc
kept_left o (learnable.Known name false) h e = absurd cc
kept_left o learnable.SeAny h e = absurd cc
kept_left o learnable.AtAny h e = absurd cc
kept_left o (learnable.Ch one_part) h e = absurd cc
kept_left o (learnable.Ee one_part) h e = absurd cc
kept_left o learnable.Ed h e = absurd cc
kept_left o learnable.Ns h e = absurd cc
kept_left o learnable.Sc h e = h
kept_left o learnable.Er h e = absurd cc
kept_left o learnable.Cm h e = absurd cc
kept_left o learnable.Pi h e = absurd cc

names_left : (o : Options) (p : Partitions) (x : Learnable) → IsOfNames p x → OnlyKept o x
names_left o p (learnable.Known name true) h e = absurd cc
names_left o p (learnable.Known name false) h e = absurd cc
names_left o p (learnable.Ch one_part) h e = absurd cc
names_left o p (learnable.Ee one_part) h e = absurd cc
names_left o p learnable.SeAny h e = absurd h
names_left o p learnable.AtAny h e = absurd h
names_left o p learnable.Ed h e = absurd h
names_left o p learnable.Ns h e = absurd h
names_left o p learnable.Sc h e = absurd h
names_left o p learnable.Er h e = absurd h
names_left o p learnable.Cm h e = absurd h
names_left o p learnable.Pi h e = absurd h

behind_left : (o : Options) (p : Partitions) (front : List Learnable) (behind : Productions Learnable) → All (IsOfNames p) front → Each (OnlyKept o) (behind_learned front (left_of o behind))
behind_left o p front behind h = each_behind (OnlyKept o) (left_of o behind) front (All-weaker (IsOfNames p) (OnlyKept o) (names_left o p) front h) (each_weaker (λ x. is_kept o x ≡ true) (OnlyKept o) (kept_left o) (left_of o behind) (each_passes (is_kept o) behind))

symbol_left : (o : Options) (told : Places) (on : Symbol) → is_left o on ≡ true → terminal_of told on ≡ self_contained → may_be o ≡ true
symbol_left o told symbol.sd h e = absurd cc
symbol_left o told symbol.ed h e = absurd cc
symbol_left o told (symbol.se name) h e = absurd cc
symbol_left o told (symbol.se_in uri) h e = absurd cc
symbol_left o told symbol.se_any h e = absurd cc
symbol_left o told (symbol.at name representation) h e = absurd cc
symbol_left o told (symbol.at_in uri) h e = absurd cc
symbol_left o told symbol.at_any h e = absurd cc
symbol_left o told (symbol.at_text name) h e = absurd cc
symbol_left o told symbol.at_any_text h e = absurd cc
symbol_left o told symbol.xsi_type h e = absurd cc
symbol_left o told symbol.xsi_nil h e = absurd cc
symbol_left o told (symbol.ch representation) h e = absurd cc
symbol_left o told symbol.ch_text h e = absurd cc
symbol_left o told symbol.ee h e = absurd cc
symbol_left o told symbol.ns h e = absurd cc
symbol_left o told symbol.sc h e = h
symbol_left o told symbol.er h e = absurd cc
symbol_left o told symbol.cm h e = absurd cc
symbol_left o told symbol.pi h e = absurd cc
symbol_left o told symbol.dt h e = absurd cc

book_left : (g : Setting) → IsSetting g → (grammar number : ℕ) → Each (OnlyLeft g.options) (in_book g grammar number)
book_left g setting grammar number = each_mapped (OnlyLeft g.options) book_rule (state_at g grammar number) (each_of (λ e. OnlyLeft g.options (book_rule e)) (state_at g grammar number) (λ e it. symbol_left g.options e.named e.rule.on (codes_are_left g setting.book grammar number e it)))

element_left : (g : Setting) (p : Partitions) (l : Learning) (e : Element) → IsSetting g → IsSoundLearning p l → (s : State) → IsStateOfName g l e.name s → Each (OnlyLeft g.options) (element_rules g l s)
element_left g p l e setting s (state.BuiltIn (room.StartTag number)) h = built_in_each (OnlyLeft g.options) g l (room.StartTag number) (behind_left g.options p (start_tag_of (slice_get l.grammars number)) start_tag_content (learned_start_tag p l.grammars number (slice_get l.grammars number) refl s.grammars))
element_left g p l e setting s (state.BuiltIn (room.Content number)) h = built_in_each (OnlyLeft g.options) g l (room.Content number) (behind_left g.options p (content_of (slice_get l.grammars number)) element_content (learned_content p l.grammars number (slice_get l.grammars number) refl s.grammars))
element_left g p l e setting s (state.BuiltIn room.Fragment) h = absurd h
element_left g p l e setting s (state.Informed grammar number empty) h = book_left g setting grammar number

-- outside of all elements there is none
none_outside : (g : Setting) (p : Partitions) (o : Outer) (to : ℕ) → FitsIn g p o [] self_contained to → ⊥
none_outside g p (outer.Book zero number) to h = h
none_outside g p (outer.Book (suc grammar) zero) to h = h
none_outside g p (outer.Book (suc grammar) (suc number)) to h = h
none_outside g p outer.FragmentStart to h = h
none_outside g p outer.FragmentContent to h = h
none_outside g p outer.AloneStart to h = h
none_outside g p outer.AloneFirst to h = h
none_outside g p outer.AloneOver to h = h
none_outside g p outer.Ended to h = h

module _ (g : Setting) (bytes : List ℕ) (c : Config) (r : Rule) (t : Spot) (setting : IsSetting g) (start : IsStart g.schema.names) (sound : IsSound g c) (told : code_at (align_of g.options) (rules_of g c) (spot_in bytes c) ≡ fine (r, t)) (on : r.on ≡ self_contained) where
  left_in : (es : List Element) → es ≡ c.elements → may_be g.options ≡ true
  left_in [] e = absurd (none_outside g c.tables c.outer r.to (subst (λ t. FitsIn g c.tables c.outer [] t r.to) on (subst (λ (z : List Element). FitsIn g c.tables c.outer z r.on r.to) (sym e) (codes_fit g bytes c r t setting start sound told).0)))
  left_in (x ∷ xs) e =
      let elements : All (IsSoundElement g c.tables c.learned) (x ∷ xs) = subst (λ (z : List Element). All (IsSoundElement g c.tables c.learned) z) (sym e) sound.body.elements in
      let rules = element_left g c.tables c.learned x setting sound.body.learned x.state (All-head (IsSoundElement g c.tables c.learned) x xs elements).state in
      let told_in : code_at (align_of g.options) (rules_in g c.learned (x ∷ xs) c.outer) (spot_in bytes c) ≡ fine (r, t) = subst (λ (z : List Element). code_at (align_of g.options) (rules_in g c.learned z c.outer) (spot_in bytes c) ≡ fine (r, t)) (sym e) told in
      code_is (OnlyLeft g.options) (rules_in g c.learned (x ∷ xs) c.outer) rules (align_of g.options) (spot_in bytes c) t r told_in on

  no_prefixes_with : (a b s q : Bool) → s ≡ true → ((a && b) || (s && q)) ≡ false → q ≡ false
  no_prefixes_with true true s q e h = absurd cc
  no_prefixes_with true false true q e h = h
  no_prefixes_with true false false q e h = absurd cc
  no_prefixes_with false b true q e h = h
  no_prefixes_with false b false q e h = absurd cc

  -- so no prefixes are kept
  pub sc_without_prefixes : prefixes g.options ≡ false
  sc_without_prefixes = no_prefixes_with (strict g.options) (dtd g.options || prefixes g.options || comments g.options || processing_instructions g.options || may_be g.options) (may_be g.options) (prefixes g.options) (left_in c.elements refl) setting.book.no_conflict
