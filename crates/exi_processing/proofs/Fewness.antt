-- Each turn adds two texts at most to a list of the tables, and what is charged; a grammar, and a production to a state.
use Rattle.std.proofs.Common.{◌≡◌, ℕ, zero, suc, ◌+◌, ◌*◌, ◌^◌, ◌≤◌, Bool, true, false, cond, List, [], ◌∷◌, ◌++◌, length, Option, Some, None, Result, Err, refl, ap, ◌∙◌, sym, subst, arith, length-append}
use Rattle.std.specs.Prelude.{All}
use Rattle.std.proofs.lemmas.List.Elements.{All-cons, All-head, All-nil, All-push, All-tail, All-weaker}
use Rattle.exi_bits.specs.declared.align.Align.{Align}
use Rattle.exi_bits.specs.declared.fault.Kind.TheVariants as kind
use Rattle.exi_bits.specs.Bits.{Spot}
use Rattle.exi_bits.specs.Unsigned.{◌>>=◌}
use Rattle.exi_builtin.specs.declared.element_grammar.ElementGrammar.{ElementGrammar}
use Rattle.exi_builtin.specs.declared.learnable.Learnable.{Learnable}
use Rattle.exi_builtin.specs.declared.learnable.Learned.{Learned}
use Rattle.exi_builtin.specs.declared.learnable.Learned.TheVariants as used
use Rattle.exi_builtin.specs.declared.learnable.Room.{Room}
use Rattle.exi_builtin.specs.declared.learnable.Room.TheVariants as room
use Rattle.exi_builtin.specs.Learning.{Learning, added_by, changed_at, grammar_place, in_front, is_new, new_grammar, nothing_learned, with_grammar}
use Rattle.exi_gram.specs.Switches.{align_of, prefixes}
use Rattle.exi_meter.specs.declared.tally.Tally.{Tally}
use Rattle.exi_meter.specs.Metering.{Metering}
use Rattle.exi_names.specs.declared.names.NameId.{NameId}
use Rattle.exi_names.specs.declared.names.QName.{QName}
use Rattle.exi_names.specs.Events.{Happening}
use Rattle.exi_names.specs.Seen.{Value}
use Rattle.exi_tables.specs.Growth.{NoneLonger}
use Rattle.exi_tables.specs.Partitions.{Partitions, live_at, uris}
use Rattle.exi_tables.proofs.Firsts.{few_first}
use Rattle.exi_typed.specs.Continues.{Continues, ReadsOn}
use Rattle.exi_typed.specs.ReadStates.{ReadState, ContextReader, Failure}
use Rattle.exi_typed.specs.Strings.{Named, declaration_at, name_under, no_growth, placed_at}
use Rattle.exi_typed.proofs.Additions.{Adding, Grows as Adds, chained_up, declaration_up, few_up, known_up, literal_up, name_up, no_growth_up, none_added, one_declaration, one_name, placed_up, plus, under_up, up_same}
use Rattle.exi_typed.proofs.ContextItems.{bind_told, told, told_is}
use Rattle.exi_values.specs.Growths.{Grows, GrowsBy, used as used_units}
use Rattle.exi_values.specs.Valued.{valued_at}
use Rattle.exi_values.proofs.Growths.{grows_then, values_grow}
use Rattle.exi_processing.specs.Changes.{Effect, closed, effect_of, effected, emptied, innermost, leads, learned_in, learns, learns_name, moves, opened, opener, resumed, retyped, room_in, stays, texts_of, with_inner}
use Rattle.exi_processing.specs.Configurations.{Body, Config, Setting, read_state_in, first_tables, reached}
use Rattle.exi_processing.specs.Contents.{attribute_at, attribute_value_at, both_at, characters_at, four_texts_at, is_missing, nothing_at, represented_by, text_at, told_name_at, two_texts_at, under_at}
use Rattle.exi_processing.specs.Fews.{Few, FewAfterTurns, FewAside, FewGrammars, FewLearned}
use Rattle.exi_processing.specs.OneEvent.{behind, one, remembered}
use Rattle.exi_processing.specs.Plans.{Alone, Given, alone_in, at_end, at_first, at_start, ended_in, nowhere, plan_of, plan_on, rooted_in}
use Rattle.exi_processing.specs.Rules.{Rule, Telling, Terminal, Valuing, attribute, characters, comment, declaration, document_type, element, end_document, end_element, entity, instruction, known, self_contained, spelled, start_document, under}
use Rattle.exi_processing.specs.Runs.{Leads, first}
use Rattle.exi_processing.specs.Spelled.{counted_by, entered_by}
use Rattle.exi_processing.proofs.EventOne.{at_place, stepped}
use Rattle.exi_processing.proofs.PlanFacts.{made_stays}
use Rattle.exi_processing.proofs.Readings.{declaration_reads, name_reads, text_reads}
use Rattle.exi_processing.proofs.Sequences.{by_result}

-- ---- what is read
tables_more : (m n : ℕ) (p : Partitions) → m ≤ n → NoneLonger m p → NoneLonger n p
tables_more m n p le f = few_up m 0 n none_added p p (omega arith) (omega arith) (omega arith) (omega arith) (omega (arith, le)) (up_same p) f

-- where each list grows by so many texts at most, whatever is charged
up_grows : {X : Type 0} (k : ℕ) (n : Adding) (read : ContextReader X) → n.uris ≤ k → n.locals ≤ k → n.prefixes ≤ k → n.values ≤ k → Adds n read → ReadsOn read → Grows k read
up_grows k n read u l p v adds goes x c d e =
    let o : Continues c d = goes x c d e in
    let more : used_units d ≡ used_units c + o.units = ap (λ (m : Metering). m.used.text) o.meter in
    record {
      charged = omega (arith, more);
      few = λ most new le few. few_up most k new n c.context.tables d.context.tables u l p v (omega (arith, more, le)) (adds x c d e) few;
    }

grows_more : (m n : ℕ) (c d : ReadState) → m ≤ n → GrowsBy m c d → GrowsBy n c d
grows_more m n c d le g = record { charged = g.charged; few = λ most new sum few. g.few most new (omega (arith, le, sum)) few }

same_used : (c : ReadState) → GrowsBy 0 c c
same_used c = record { charged = omega arith; few = λ most new le few. tables_more most new c.context.tables (omega (arith, le)) few }

both_grows : {X Y : Type 0} (m n : ℕ) (read : ContextReader X) (next : X → ContextReader Y) → Grows m read → ((x : X) → Grows n (next x)) → Grows {X = X × Y} (m + n) (both_at read next)
unfolding both_at
both_grows {X} {Y} m n read next f g x c d e =
    let u = bind_told (read c) (λ (found : X × ReadState). next found.0 found.1 >>= λ y. told {X = (X × Y) × ReadState} ((found.0, y.0), y.1)) (x, d) e in
    let v = bind_told (next u.0.0 u.0.1) (λ (y : Y × ReadState). told {X = (X × Y) × ReadState} ((u.0.0, y.0), y.1)) (x, d) u.2 in
    subst (λ (z : (X × Y) × ReadState). GrowsBy (m + n) c z.1) (told_is ((u.0.0, v.0.0), v.0.1) (x, d) v.2) (grows_then m n (m + n) c u.0.1 v.0.1 refl (f u.0.0 c u.0.1 u.1) (g u.0.0 v.0.0 u.0.1 v.0.1 v.1))

-- a name under a URI that the code told
abbrev one_local : Adding
one_local = record { uris = 0; locals = 1; prefixes = 0; values = 0 }

module _ (keep : Bool) (a : Align) (uri : ℕ) where
  abbrev uri_told : Spot → ContextReader (List ℕ)
  uri_told s c = placed_at s (live_at (uris c.context.tables) uri) c

  under_adds : Adds {X = Named} (plus none_added one_local) (under_at keep a uri)
  unfolding under_at
  under_adds x b d r = chained_up none_added one_local (uri_told b.spot) (name_under keep a uri) (λ y c. placed_up b.spot (live_at (uris c.context.tables) uri) y c) (under_up keep a uri) x b d r

name_grows : (g : Setting) (t : Telling) → Grows {X = Named} 1 (told_name_at g t)
name_grows g spelled = up_grows 1 one_name (told_name_at g spelled) (omega arith) (omega arith) (omega arith) (omega arith) (name_up (prefixes g.options) (align_of g.options)) (name_reads g spelled).goes
name_grows g (under uri) = up_grows 1 (plus none_added one_local) (told_name_at g (under uri)) (omega arith) (omega arith) (omega arith) (omega arith) (under_adds (prefixes g.options) (align_of g.options) uri) (name_reads g (under uri)).goes
name_grows g (known id) = up_grows 1 none_added (told_name_at g (known id)) (omega arith) (omega arith) (omega arith) (omega arith) (known_up (prefixes g.options) (align_of g.options) id) (name_reads g (known id)).goes

module _ (g : Setting) (v : Valuing) (name : Named) where
  abbrev item : ContextReader Value
  item c = valued_at (represented_by g v name) (align_of g.options) name.id c

  abbrev no_type : ReadState → Value × ReadState → Result (Value × ReadState) Failure
  no_type c found = Err (record { fault = record { kind = kind.BadType; bit = c.spot.place }; meter = found.1.context.meter })

  lax : (b : Bool) (c : ReadState) (p q : Value × ReadState) → cond b (no_type c p) (told p) ≡ told q → p ≡ q
  lax true c p q e = absurd cc
  lax false c p q e = told_is p q e

  attribute_value_grows : Grows {X = Value} 1 (attribute_value_at g v name)
  unfolding attribute_value_at
  attribute_value_grows x c d r =
      let u = bind_told (item c) (λ (found : Value × ReadState). cond (is_missing g v name.id found.0) (no_type c found) (told found)) (x, d) r in
      subst (λ (z : Value × ReadState). GrowsBy 1 c z.1) (lax (is_missing g v name.id u.0.0) c u.0 (x, d) u.2) (values_grow (represented_by g v name) (align_of g.options) name.id u.0.0 c u.0.1 u.1)

attribute_grows : (g : Setting) (t : Telling) (v : Valuing) → Grows {X = Named × Value} 2 (attribute_at g t v)
attribute_grows g t v = both_grows 1 1 (told_name_at g t) (λ name. attribute_value_at g v name) (name_grows g t) (λ name. attribute_value_grows g v name)

nothing_grows : Grows {X = Unit {0}} 2 nothing_at
nothing_grows x c d e = subst (λ (z : Unit {0} × ReadState). GrowsBy 2 c z.1) (told_is (tt, c) (x, d) e) (grows_more 0 2 c c (omega arith) (same_used c))

text_grows : (g : Setting) → Grows {X = List ℕ} 0 (text_at g)
text_grows g = up_grows 0 none_added (text_at g) (omega arith) (omega arith) (omega arith) (omega arith) (literal_up none_added (align_of g.options) no_growth no_growth_up) (text_reads g).goes

two_texts_grow : (g : Setting) → Grows {X = List ℕ × List ℕ} 0 (two_texts_at g)
two_texts_grow g = both_grows 0 0 (text_at g) (λ x. text_at g) (text_grows g) (λ x. text_grows g)

four_texts_grow : (g : Setting) → Grows {X = (List ℕ × List ℕ) × (List ℕ × List ℕ)} 0 (four_texts_at g)
four_texts_grow g = both_grows 0 0 (two_texts_at g) (λ x. two_texts_at g) (two_texts_grow g) (λ x. two_texts_grow g)

in_two : {X : Type 0} (m : ℕ) (read : ContextReader X) → m ≤ 2 → Grows m read → Grows 2 read
in_two m read le f x c d e = grows_more m 2 c d le (f x c d e)

plan_grows : (g : Setting) (a : Alone) (c : Config) (r : Rule) (t : Terminal) → Grows {X = (plan_on g a c r t).Item} 2 (plan_on g a c r t).read
plan_grows g a c r start_document = nothing_grows
plan_grows g a c r end_document = nothing_grows
plan_grows g a c r (element t) = in_two 1 (told_name_at g t) (omega arith) (name_grows g t)
plan_grows g a c r (attribute t v) = attribute_grows g t v
plan_grows g a c r (characters d) = in_two 1 (characters_at g d (innermost c.elements)) (omega arith) (values_grow d (align_of g.options) (innermost c.elements))
plan_grows g a c r end_element = nothing_grows
plan_grows g a c r declaration = in_two 1 (declaration_at (align_of g.options)) (omega arith) (up_grows 1 one_declaration (declaration_at (align_of g.options)) (omega arith) (omega arith) (omega arith) (omega arith) (declaration_up (align_of g.options)) (declaration_reads (align_of g.options)).goes)
plan_grows g a c r self_contained = nothing_grows
plan_grows g a c r comment = in_two 0 (text_at g) (omega arith) (text_grows g)
plan_grows g a c r instruction = in_two 0 (two_texts_at g) (omega arith) (two_texts_grow g)
plan_grows g a c r document_type = in_two 0 (four_texts_at g) (omega arith) (four_texts_grow g)
plan_grows g a c r entity = in_two 0 (text_at g) (omega arith) (text_grows g)

-- ---- what is learned
-- so many in a state, and so many grammars
record Counts (most many : ℕ) (l : Learning) : Type 0 where
  pub grammars : length l.grammars ≤ many
  pub each : All (FewLearned most) l.grammars
  pub fragment : length l.fragment ≤ most

few_more : (m n : ℕ) → m ≤ n → (g : ElementGrammar) → FewLearned m g → FewLearned n g
few_more m n le g f = record { start_tag = omega (arith, le, f.start_tag); content = omega (arith, le, f.content) }

counts_more : (m n k j : ℕ) (l : Learning) → m ≤ n → k ≤ j → Counts m k l → Counts n j l
counts_more m n k j l le lf c = record { grammars = omega (arith, lf, c.grammars); each = All-weaker (FewLearned m) (FewLearned n) (few_more m n le) l.grammars c.each; fragment = omega (arith, le, c.fragment) }

all_changed : (P Q : ElementGrammar → Type 0) (gs : List ElementGrammar) (place : ℕ) (change : ElementGrammar → ElementGrammar) → ((g : ElementGrammar) → P g → Q g) → ((g : ElementGrammar) → P g → Q (change g)) → All P gs → All Q (changed_at gs place change)
all_changed P Q [] place change same more all = All-nil Q
all_changed P Q (x ∷ xs) zero change same more all = All-cons Q (change x) xs (more x (All-head P x xs all)) (All-weaker P Q same xs (All-tail P x xs all))
all_changed P Q (x ∷ xs) (suc place) change same more all = All-cons Q x (changed_at xs place change) (same x (All-head P x xs all)) (all_changed P Q xs place change same more (All-tail P x xs all))

length-changed_at : (gs : List ElementGrammar) (place : ℕ) (change : ElementGrammar → ElementGrammar) → length (changed_at gs place change) ≡ length gs
length-changed_at [] place change = refl
length-changed_at (x ∷ xs) zero change = refl
length-changed_at (x ∷ xs) (suc place) change = ap suc (length-changed_at xs place change)

one_more : (m : ℕ) → m ≤ m + 1
one_more m = omega arith

start_more : (m : ℕ) (x : Learnable) (g : ElementGrammar) → FewLearned m g → FewLearned (m + 1) (record g { start_tag = x ∷ g.start_tag })
start_more m x g f = record { start_tag = omega (arith, f.start_tag); content = omega (arith, f.content) }

content_more : (m : ℕ) (x : Learnable) (g : ElementGrammar) → FewLearned m g → FewLearned (m + 1) (record g { content = x ∷ g.content })
content_more m x g f = record { start_tag = omega (arith, f.start_tag); content = omega (arith, f.content) }

counts_changed : (m k : ℕ) (l : Learning) (number : ℕ) (change : ElementGrammar → ElementGrammar) → ((g : ElementGrammar) → FewLearned m g → FewLearned (m + 1) (change g)) → Counts m k l → Counts (m + 1) k (record l { grammars = changed_at l.grammars number change })
counts_changed m k l number change more c = record {
  grammars = omega (arith, c.grammars, length-changed_at l.grammars number change);
  each = all_changed (FewLearned m) (FewLearned (m + 1)) l.grammars number change (few_more m (m + 1) (one_more m)) more c.each;
  fragment = omega (arith, c.fragment);
}

counts_front : (m k : ℕ) (l : Learning) (r : Room) (x : Learnable) → Counts m k l → Counts (m + 1) k (in_front l r x)
counts_front m k l (room.StartTag number) x c = counts_changed m k l number (λ g. record g { start_tag = x ∷ g.start_tag }) (start_more m x) c
counts_front m k l (room.Content number) x c = counts_changed m k l number (λ g. record g { content = x ∷ g.content }) (content_more m x) c
counts_front m k l room.Fragment x c = record {
  grammars = c.grammars;
  each = All-weaker (FewLearned m) (FewLearned (m + 1)) (few_more m (m + 1) (one_more m)) l.grammars c.each;
  fragment = omega (arith, c.fragment);
}

either_of : (P : Learning → Type 0) (b : Bool) (l m : Learning) → P l → P m → P (cond b l m)
either_of P true l m x y = x
either_of P false l m x y = y

counts_learned : (m k : ℕ) (l : Learning) (r : Option Room) (u : Learned) → Counts m k l → Counts (m + 1) k (learned_in r u l)
counts_learned m k l None u c = counts_more m (m + 1) k k l (one_more m) (omega arith) c
counts_learned m k l (Some r) u c = either_of (λ z. Counts (m + 1) k z) (is_new l r u) (in_front l r (added_by u)) l (counts_front m k l r (added_by u) c) (counts_more m (m + 1) k k l (one_more m) (omega arith) c)

abbrev made_unless : Learning → NameId → Option ℕ → Learning
made_unless l name (Some place) = l
made_unless l name None = record l { grammars = l.grammars ++ new_grammar name ∷ [] }

counts_made : (m k : ℕ) (l : Learning) (name : NameId) (o : Option ℕ) → Counts m k l → Counts m (k + 1) (made_unless l name o)
counts_made m k l name (Some place) c = counts_more m m k (k + 1) l (omega arith) (one_more k) c
counts_made m k l name None c = record {
  grammars = omega (arith, length-append l.grammars (new_grammar name ∷ []), c.grammars);
  each = All-push (FewLearned m) l.grammars (new_grammar name) c.each (record { start_tag = omega arith; content = omega arith });
  fragment = c.fragment;
}

counts_grammar : (m k : ℕ) (l : Learning) (name : NameId) → Counts m k l → Counts m (k + 1) (with_grammar l name)
counts_grammar m k l name c = counts_made m k l name (grammar_place l name) c

counts_inner : (m k : ℕ) (l : Learning) (name : NameId) (inner : Option ℕ) → Counts m k l → Counts m (k + 1) (with_inner l name inner)
counts_inner m k l name None c = counts_grammar m k l name c
counts_inner m k l name (Some grammar) c = counts_more m m k (k + 1) l (omega arith) (one_more k) c

as_counts : (n : ℕ) (l : Learning) → FewGrammars n l → Counts n n l
as_counts n l f = record { grammars = f.grammars; each = f.each; fragment = f.fragment }

of_counts : (n : ℕ) (l : Learning) → Counts n n l → FewGrammars n l
of_counts n l c = record { grammars = c.grammars; each = c.each; fragment = c.fragment }

grammars_later : (n : ℕ) (l : Learning) → FewGrammars n l → FewGrammars (n + 1) l
grammars_later n l f = of_counts (n + 1) l (counts_more n (n + 1) n (n + 1) l (one_more n) (one_more n) (as_counts n l f))

learned_later : (n : ℕ) (l : Learning) (r : Option Room) (u : Learned) → FewGrammars n l → FewGrammars (n + 1) (learned_in r u l)
learned_later n l r u f = of_counts (n + 1) (learned_in r u l) (counts_more (n + 1) (n + 1) n (n + 1) (learned_in r u l) (omega arith) (one_more n) (counts_learned n n l r u (as_counts n l f)))

opened_later : (n : ℕ) (l : Learning) (name : NameId) (inner : Option ℕ) → FewGrammars n l → FewGrammars (n + 1) (with_inner l name inner)
opened_later n l name inner f = of_counts (n + 1) (with_inner l name inner) (counts_more n (n + 1) (n + 1) (n + 1) (with_inner l name inner) (one_more n) (omega arith) (counts_inner n n l name inner (as_counts n l f)))

learned_opened_later : (n : ℕ) (l : Learning) (r : Option Room) (u : Learned) (name : NameId) (inner : Option ℕ) → FewGrammars n l → FewGrammars (n + 1) (with_inner (learned_in r u l) name inner)
learned_opened_later n l r u name inner f = of_counts (n + 1) (with_inner (learned_in r u l) name inner) (counts_inner (n + 1) n (learned_in r u l) name inner (counts_learned n n l r u (as_counts n l f)))

-- ---- what is made
-- so many turns, with so many units of text
record FewBy (n units : ℕ) (c : Config) : Type 0 where
  pub tables : NoneLonger (2 ^ 30 + 2 * n + units) c.tables
  pub learned : FewGrammars n c.learned
  pub aside : All (FewAside n units) c.aside

-- once an event is read
record Read (n units : ℕ) (k : Config) : Type 0 where
  pub tables : NoneLonger (2 ^ 30 + 2 * (n + 1) + units) k.tables
  pub learned : FewGrammars n k.learned
  pub aside : All (FewAside (n + 1) units) k.aside

aside_later : (n before units : ℕ) → before ≤ units → (b : Body) → FewAside n before b → FewAside (n + 1) units b
aside_later n before units le b f = record { tables = tables_more (2 ^ 30 + 2 * n + before) (2 ^ 30 + 2 * (n + 1) + units) b.tables (omega (arith, le)) f.tables; learned = grammars_later n b.learned f.learned }

module _ (n units : ℕ) where
  kept : (k : Config) → Read n units k → FewBy (n + 1) units k
  kept k b = record { tables = b.tables; learned = grammars_later n k.learned b.learned; aside = b.aside }

  learned_few : (u : Learned) (k : Config) → Read n units k → FewBy (n + 1) units (learns u k)
  learned_few u k b = record { tables = b.tables; learned = learned_later n k.learned (room_in k.elements k.outer) u b.learned; aside = b.aside }

  named_few : (t : Telling) (u : Learned) (k : Config) → Read n units k → FewBy (n + 1) units (learns_name t u k)
  named_few spelled u k b = learned_few u k b
  named_few (under uri) u k b = learned_few u k b
  named_few (known id) u k b = kept k b

  moved_few : (to : ℕ) (k : Config) → FewBy (n + 1) units k → FewBy (n + 1) units (moves to k)
  moved_few to k b = record { tables = b.tables; learned = b.learned; aside = b.aside }

  effected_few : (f : Effect) (to : ℕ) (k : Config) → FewBy (n + 1) units k → FewBy (n + 1) units (effected f to k)
  effected_few leads to k b = moved_few to k b
  effected_few (retyped grammar) to k b = record { tables = b.tables; learned = b.learned; aside = b.aside }
  effected_few emptied to k b = record { tables = b.tables; learned = b.learned; aside = b.aside }
  effected_few stays to k b = b

  rooted_few : (a : Alone) (name : QName) (k : Config) → Read n units k → Read n units (rooted_in a name k)
  rooted_few nowhere name k b = b
  rooted_few at_start name k b = b
  rooted_few at_first name k b = record { tables = b.tables; learned = b.learned; aside = b.aside }
  rooted_few at_end name k b = b

  opened_few : (t : Telling) (id : NameId) (inner : Option ℕ) (to : ℕ) (k : Config) → Read n units k → FewBy (n + 1) units (opened id inner (moves to (learns_name t (used.Se id) k)))
  opened_few spelled id inner to k b = record { tables = b.tables; learned = learned_opened_later n k.learned (room_in k.elements k.outer) (used.Se id) id inner b.learned; aside = b.aside }
  opened_few (under uri) id inner to k b = record { tables = b.tables; learned = learned_opened_later n k.learned (room_in k.elements k.outer) (used.Se id) id inner b.learned; aside = b.aside }
  opened_few (known name) id inner to k b = record { tables = b.tables; learned = opened_later n k.learned id inner b.learned; aside = b.aside }

  resumed_few : (bs : List Body) (k : Config) → k.aside ≡ bs → Read n units k → FewBy (n + 1) units (resumed bs k)
  resumed_few [] k e b = record { tables = b.tables; learned = grammars_later n k.learned b.learned; aside = b.aside }
  resumed_few (x ∷ xs) k e b =
      let all : All (FewAside (n + 1) units) (x ∷ xs) = subst (λ (z : List Body). All (FewAside (n + 1) units) z) e b.aside in
      let f : FewAside (n + 1) units x = All-head (FewAside (n + 1) units) x xs all in
      record { tables = f.tables; learned = f.learned; aside = All-tail (FewAside (n + 1) units) x xs all }

  ended_few : (a : Alone) (k : Config) → Read n units k → FewBy (n + 1) units (ended_in a k)
  ended_few nowhere k b = record { tables = b.tables; learned = grammars_later n k.learned b.learned; aside = b.aside }
  ended_few at_start k b = resumed_few k.aside k refl b
  ended_few at_first k b = resumed_few k.aside k refl b
  ended_few at_end k b = resumed_few k.aside k refl b

  closed_few : (k : Config) → FewBy (n + 1) units k → FewBy (n + 1) units (closed k)
  closed_few k b = record { tables = b.tables; learned = b.learned; aside = b.aside }

nothing_few : (n : ℕ) → FewGrammars n nothing_learned
nothing_few n = record { grammars = omega arith; each = All-nil (FewLearned n); fragment = omega arith }

made_few : (n units : ℕ) (g : Setting) (a : Alone) (c : Config) (r : Rule) (t : Terminal) (x : (plan_on g a c r t).Item) (k : Config) → NoneLonger (2 ^ 30) (first_tables g) → Read n units k → FewBy (n + 1) units ((plan_on g a c r t).make x k).1
made_few n units g a c r start_document x k first b = moved_few n units r.to k (kept n units k b)
made_few n units g a c r end_document x k first b = ended_few n units a k b
made_few n units g a c r (element t) x k first b = opened_few n units t x.id (opener g x.name r.inner) r.to (rooted_in a x.name k) (rooted_few n units a x.name k b)
made_few n units g a c r (attribute t v) x k first b = effected_few n units (effect_of g v x.0.id x.1) r.to (learns_name t (used.At x.0.id) k) (named_few n units t (used.At x.0.id) k b)
made_few n units g a c r (characters d) x k first b = moved_few n units r.to (learns used.Ch k) (learned_few n units used.Ch k b)
made_few n units g a c r end_element x k first b = closed_few n units (learns used.Ee k) (learned_few n units used.Ee k b)
made_few n units g a c r declaration x k first b = moved_few n units r.to k (kept n units k b)
made_few n units g a c r self_contained x k first b = record {
  tables = tables_more (2 ^ 30) (2 ^ 30 + 2 * (n + 1) + units) (first_tables g) (omega arith) first;
  learned = nothing_few (n + 1);
  aside = All-cons (FewAside (n + 1) units) (record { tables = k.tables; learned = k.learned; elements = k.elements; outer = k.outer; name = texts_of k.tables (innermost k.elements) }) k.aside (record { tables = b.tables; learned = grammars_later n k.learned b.learned }) b.aside;
}
made_few n units g a c r comment x k first b = moved_few n units r.to k (kept n units k b)
made_few n units g a c r instruction x k first b = moved_few n units r.to k (kept n units k b)
made_few n units g a c r document_type x k first b = moved_few n units r.to k (kept n units k b)
made_few n units g a c r entity x k first b = moved_few n units r.to k (kept n units k b)

-- ---- one event, and the next
read_behind : (n units : ℕ) (b : Bool) (j : ReadState) (c : Config) → Read n units (reached j c) → Read n units (reached (behind b j) c)
read_behind n units true j c f = record { tables = f.tables; learned = f.learned; aside = f.aside }
read_behind n units false j c f = f

used_behind : (b : Bool) (j : ReadState) → used_units (behind b j) ≡ used_units j
used_behind true j = refl
used_behind false j = refl

remembered_few : (n : ℕ) (given : Given) (units : ℕ) → given.1.meter.used.text ≡ units → FewBy n units given.1 → Few n (remembered given).1
remembered_few n given units e f = record {
  tables = subst (λ (u : ℕ). NoneLonger (2 ^ 30 + 2 * n + u) given.1.tables) (sym e) f.tables;
  learned = f.learned;
  aside = subst (λ (u : ℕ). All (FewAside n u) given.1.aside) (sym e) f.aside;
}

-- before the content text is charged none
counted_used : (b : Bool) (m : Metering) → (counted_by b m).used.text ≡ m.used.text
counted_used true m = refl
counted_used false m = refl

entered_used : (b : Bool) (m : Metering) → (entered_by b m).used.text ≡ m.used.text
entered_used true m = refl
entered_used false m = refl

one_few : (n : ℕ) (g : Setting) (bytes : List ℕ) (c : Config) (given : Given) → NoneLonger (2 ^ 30) (first_tables g) → Few n c → one g bytes c ≡ told given → Few (n + 1) given.1
one_few n g bytes c given first f h =
    let u = stepped g bytes c given h in
    let t = u.rest_is in
    let a : Alone = alone_in c.elements c.outer in
    let on : Config = at_place c u.spot.place in
    let p = plan_of g c u.rule in
    let k : Config = reached (behind p.padded t.read_state) on in
    let units : ℕ = used_units t.read_state in
    let up : GrowsBy 2 (read_state_in bytes t.meter on) t.read_state = plan_grows g a c u.rule u.rule.on t.item (read_state_in bytes t.meter on) t.read_state t.read in
    let charged : t.meter.used.text ≡ c.meter.used.text = ap (λ (z : Metering). z.used.text) t.charged.after ∙ entered_used p.entered (counted_by p.counted c.meter) ∙ counted_used p.counted c.meter in
    let grown : c.meter.used.text ≤ units = omega (arith, up.charged, charged) in
    let few : NoneLonger (2 ^ 30 + 2 * (n + 1) + units) t.read_state.context.tables = up.few (2 ^ 30 + 2 * n + c.meter.used.text) (2 ^ 30 + 2 * (n + 1) + units) (omega (arith, charged)) f.tables in
    let b : Read n units k = read_behind n units p.padded t.read_state on (record { tables = few; learned = f.learned; aside = All-weaker (FewAside n c.meter.used.text) (FewAside (n + 1) units) (aside_later n c.meter.used.text units grown) c.aside f.aside }) in
    let same : (p.make t.item k).1.meter.used.text ≡ units = ap (λ (z : Tally). z.text) (made_stays g a c u.rule u.rule.on t.item k).used ∙ used_behind p.padded t.read_state in
    subst (λ (z : Given). Few (n + 1) z.1) (sym t.is) (remembered_few (n + 1) (p.make t.item k) units same (made_few n units g a c u.rule u.rule.on t.item k first b))

led_few : (n : ℕ) (g : Setting) (bytes : List ℕ) (turns : List (Option Happening)) (c last : Config) → NoneLonger (2 ^ 30) (first_tables g) → Few n c → Leads g bytes c turns last → Few (n + length turns) last
led_few n g bytes [] c last first f l = let e : n ≡ n + 0 = omega arith in subst (λ (z : ℕ). Few z last) e (subst (λ (z : Config). Few n z) l f)
led_few n g bytes (e ∷ turns) c last first f l =
    let same : n + 1 + length turns ≡ n + suc (length turns) = omega arith in
    subst (λ (z : ℕ). Few z last) same (led_few (n + 1) g bytes turns l.0 last first (one_few n g bytes c (e, l.0) first f (by_result bytes c (one g bytes c) e l.0 l.1)) l.2)

pub few_after_turns : FewAfterTurns
few_after_turns j start limits turns c names l =
    let first_few : NoneLonger (2 ^ 30) (first_tables j.setting) = few_first j.setting.schema.names j.setting.options.most j.setting.options.capacity names in
    let same : 0 + length turns ≡ length turns = omega arith in
    let started : Few 0 (first j start limits) = record {
      tables = tables_more (2 ^ 30) (2 ^ 30 + 2 * 0 + (first j start limits).meter.used.text) (first_tables j.setting) (omega arith) first_few;
      learned = nothing_few 0;
      aside = All-nil (FewAside 0 (first j start limits).meter.used.text);
    } in
    subst (λ (z : ℕ). Few z c) same (led_few 0 j.setting j.bytes turns (first j start limits) c first_few started l)
