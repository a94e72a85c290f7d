-- In a built-in state each production of an event's kind has the same of its value.
use Rattle.std.proofs.Common.{◌≡◌, Bool, true, false, get_or, Option, Some, None, Result, Ok, Err, refl, sym, ap, ◌∙◌, subst}
use Rattle.std.specs.Prelude.{IfOk}
use Rattle.std.specs.Option.{is_some}
use Rattle.std.proofs.lemmas.Bool.{and_parts}
use Rattle.exi_builtin.specs.declared.learnable.Learnable.{Learnable}
use Rattle.exi_builtin.specs.declared.learnable.Learnable.TheVariants as learnable
use Rattle.exi_builtin.specs.declared.learnable.Room.{Room}
use Rattle.exi_builtin.specs.Learning.{Learning, rules}
use Rattle.exi_gram.specs.Codes.{Coded, Productions, Second, coded, group, single}
use Rattle.exi_gram.specs.Outlines.{Outline}
use Rattle.exi_gram.proofs.CodeTells.{Each, EachOf, each_mapped}
use Rattle.exi_names.specs.Datatypes as datatype
use Rattle.exi_names.specs.Seen.{Value}
use Rattle.exi_processing.specs.Configurations.{Setting, built_in}
use Rattle.exi_processing.specs.Handing.{rule_in}
use Rattle.exi_processing.specs.Rules.{Rule, Telling, Terminal, attribute, built_in_rule, built_in_terminal, characters, comment, declaration, document_type, element, end_document, end_element, entity, instruction, self_contained, start_document, untyped}
use Rattle.exi_processing.specs.declared.rule.Content.{Content}
use Rattle.exi_processing.specs.declared.rule.Content.TheVariants as content
use Rattle.exi_processing.specs.declared.rule.Telling.{Telling as Told}
use Rattle.exi_processing.specs.declared.rule.Valuing.{Valuing as Kind}
use Rattle.exi_writing.specs.OneEvent.{fewest}
use Rattle.exi_writing.proofs.OneEvent.{fewest_stands}
use Rattle.exi_choice.specs.Choices.{Chooses, Finds, IsWay, Keeps, way_parts}
use Rattle.exi_choice.specs.Fitting.{Having, declared_in, fit_as, fit_for, fit_in, fitted, nothing, of_attribute, of_characters, value_in}
use Rattle.exi_choice.specs.Wanted.{Seeking, first_for, first_suiting, is_of, is_of_rule, suits}
use Rattle.exi_choice.specs.declared.choice.Choice.{Choice}
use Rattle.exi_choice.specs.declared.fit.Fit.{Fit}
use Rattle.exi_choice.specs.declared.fit.Fit.TheVariants as kept_fit
use Rattle.exi_choice.specs.declared.found.Found.{Found}
use Rattle.exi_choice.proofs.Choosing.{Every, Implies, every_map, first_kept, kept_if}
use Rattle.exi_choice.proofs.EventKinds.{only_attribute, only_characters, only_comment, only_declaration, only_document_type, only_element, only_end_document, only_end_element, only_entity, only_instruction, only_self_contained, only_start_document}
use Rattle.exi_choice.proofs.Picking.{every_at, every_coded}

-- ---- an attribute is untyped there, and characters are a string
abbrev IsUntyped : Terminal → Type 0
IsUntyped start_document = Unit {0}
IsUntyped end_document = Unit {0}
IsUntyped (element t) = Unit {0}
IsUntyped (attribute t u) = u ≡ untyped
IsUntyped (characters d) = d ≡ datatype.text
IsUntyped end_element = Unit {0}
IsUntyped declaration = Unit {0}
IsUntyped self_contained = Unit {0}
IsUntyped comment = Unit {0}
IsUntyped instruction = Unit {0}
IsUntyped document_type = Unit {0}
IsUntyped entity = Unit {0}

untyped_learnable : (x : Learnable) → IsUntyped (built_in_terminal x)
untyped_learnable (learnable.Known name true) = refl
untyped_learnable (learnable.Known name false) = tt
untyped_learnable learnable.SeAny = tt
untyped_learnable learnable.AtAny = refl
untyped_learnable (learnable.Ch one_part) = refl
untyped_learnable (learnable.Ee one_part) = tt
untyped_learnable learnable.Ed = tt
untyped_learnable learnable.Ns = tt
untyped_learnable learnable.Sc = tt
untyped_learnable learnable.Er = tt
untyped_learnable learnable.Cm = tt
untyped_learnable learnable.Pi = tt

all_each : {X : Type 0} (P : X → Type 0) → ((x : X) → P x) → (p : Productions X) → Each P p
all_each {X} P f p = record { firsts = λ i d less. f (get_or p.firsts i d); seconds = λ i d less. second_each (get_or p.seconds i d) }
  where
    second_each : (x : Second X) → EachOf P x
    second_each (single x) = f x
    second_each (group xs) = λ i d less. f (get_or xs i d)

abbrev UntypedRule : Rule → Type 0
UntypedRule r = IsUntyped r.on

built_in_untyped : (g : Setting) (l : Learning) (r : Room) → Every UntypedRule (coded (built_in g l r))
built_in_untyped g l r = every_coded UntypedRule (built_in g l r) (each_mapped UntypedRule built_in_rule (rules g.options l r) (all_each (λ x. UntypedRule (built_in_rule x)) (λ x. untyped_learnable x.on) (rules g.options l r)))

-- ---- what a production of this kind has of the value
abbrev fit_of : Outline → Content → Having → Option Value
fit_of o (content.Attribute own v) (of_attribute id n x) = fit_as (declared_in o untyped id n) x
fit_of o content.Characters (of_characters x) = fit_for datatype.text x
fit_of o on h = Some (value_in h)

attribute_fit : (o : Outline) (own : Told) (v : Kind) (k : Telling) (h : Having) → fit_in o (attribute k untyped) h ≡ fit_of o (content.Attribute own v) h
attribute_fit o own v k nothing = refl
attribute_fit o own v k (of_attribute id n x) = refl
attribute_fit o own v k (of_characters x) = refl

characters_fit : (o : Outline) (h : Having) → fit_in o (characters datatype.text) h ≡ fit_of o content.Characters h
characters_fit o nothing = refl
characters_fit o (of_attribute id n x) = refl
characters_fit o (of_characters x) = refl

alike : (o : Outline) (on : Content) (h : Having) (t : Terminal) → IsUntyped t → is_of on t ≡ true → fit_in o t h ≡ fit_of o on h
alike o content.StartDocument h t u e = rw (only_start_document t e) refl
alike o content.EndDocument h t u e = rw (only_end_document t e) refl
alike o (content.Element own) h t u e = rw ((only_element own t e).1) refl
alike o (content.Attribute own v) h t u e =
    let a = only_attribute own v t e in
    let w : a.1 ≡ untyped = subst IsUntyped a.2 u in
    ap (λ (z : Terminal). fit_in o z h) (a.2 ∙ ap (attribute a.0) w) ∙ attribute_fit o own v a.0 h
alike o content.Characters h t u e =
    let a = only_characters t e in
    let w : a.0 ≡ datatype.text = subst IsUntyped a.1 u in
    ap (λ (z : Terminal). fit_in o z h) (a.1 ∙ ap characters w) ∙ characters_fit o h
alike o content.EndElement h t u e = rw (only_end_element t e) refl
alike o content.Declaration h t u e = rw (only_declaration t e) refl
alike o content.SelfContained h t u e = rw (only_self_contained t e) refl
alike o content.Comment h t u e = rw (only_comment t e) refl
alike o content.Instruction h t u e = rw (only_instruction t e) refl
alike o content.DocumentType h t u e = rw (only_document_type t e) refl
alike o content.Entity h t u e = rw (only_entity t e) refl

-- ---- so the first of the kind is the first that suits, where the value has a spelling
abbrev fits : Setting → Seeking → Bool
fits g s = is_some (fit_of g.schema s.on s.having)

test_same : (g : Setting) (s : Seeking) (r : Rule) → UntypedRule r → is_of_rule s.on r ≡ true → suits g s r ≡ fits g s
test_same g s r u e = rw (e) (ap (λ (o : Option Value). is_some o) (alike g.schema s.on s.having r.on u e))

not_true : (b : Bool) → (b ≡ true → ⊥) → b ≡ false
not_true true h = absurd (h refl)
not_true false h = refl

true_false : (b : Bool) → b ≡ true → b ≡ false → ⊥
true_false true h k = cc
true_false false h k = cc

suiting_built_in : (g : Setting) (l : Learning) (r : Room) (s : Seeking) → first_suiting g s (built_in g l r) ≡ kept_if (suits g s) (first_for s.on (built_in g l r))
suiting_built_in g l r s =
    let xs = coded (built_in g l r) in
    let all = built_in_untyped g l r in
    let stands : Every (Implies (suits g s) (is_of_rule s.on)) xs = every_map UntypedRule (Implies (suits g s) (is_of_rule s.on)) (λ q u k. (and_parts (is_of s.on q.on) (is_some (fit_in g.schema q.on s.having)) k).0) xs all in
    let fails : (x : Coded Rule) → fewest (is_of_rule s.on) xs ≡ Some x → suits g s x.item ≡ false → Every (λ q. suits g s q ≡ false) xs = λ x first f. (
    let found = fewest_stands (is_of_rule s.on) xs x first in
    let none : fits g s ≡ false = sym (test_same g s x.item (every_at UntypedRule xs found.place x all found.there) found.passes) ∙ f in
    every_map UntypedRule (λ q. suits g s q ≡ false) (λ q u. not_true (suits g s q) (λ k. (
    let kind = (and_parts (is_of s.on q.on) (is_some (fit_in g.schema q.on s.having)) k).0 in
    true_false (suits g s q) k (test_same g s q u kind ∙ none)
    ))) xs all
    ) in
    first_kept (suits g s) (is_of_rule s.on) xs stands fails

-- ---- a production that was chosen for its kind, and what is kept of the value
first_passes : (g : Setting) (l : Learning) (r : Room) (s : Seeking) (x : Coded Rule) → first_for s.on (built_in g l r) ≡ Some x → is_of_rule s.on x.item ≡ true
first_passes g l r s x first = (fewest_stands (is_of_rule s.on) (coded (built_in g l r)) x first).passes

kept_some : (g : Setting) (s : Seeking) (x : Coded Rule) → suits g s x.item ≡ true → kept_if (suits g s) (Some x) ≡ Some x
kept_some g s x e = rw e refl

kept_none : (g : Setting) (s : Seeking) (x : Coded Rule) → suits g s x.item ≡ false → kept_if (suits g s) (Some x) ≡ None
kept_none g s x e = rw e refl

suits_kind : (g : Setting) (s : Seeking) (r : Rule) (o : Option Value) → is_of_rule s.on r ≡ true → fit_in g.schema r.on s.having ≡ o → suits g s r ≡ is_some o
suits_kind g s r o e f = rw (e, f) refl

pub found_built_in : (g : Setting) (l : Learning) (r : Room) (s : Seeking) (choice : Option Choice) (found : Option Found) → Chooses g l s.on (built_in g l r) choice → Keeps g.schema s choice found → Finds g l s (built_in g l r) found
found_built_in g l r s None None c k = suiting_built_in g l r s ∙ ap (kept_if (suits g s)) c
found_built_in g l r s None (Some f) c k = absurd k
found_built_in g l r s (Some choice) None c k =
    let kind = first_passes g l r s c.coded c.first in
    let e : fit_in g.schema c.coded.item.on s.having ≡ None = ap (λ (q : Rule). fit_in g.schema q.on s.having) (sym c.rule) ∙ k in
    suiting_built_in g l r s ∙ ap (kept_if (suits g s)) c.first ∙ kept_none g s c.coded (suits_kind g s c.coded.item None kind e)
found_built_in g l r s (Some choice) (Some f) c k =
    let kind = first_passes g l r s c.coded c.first in
    let e : fitted (value_in s.having) (Some f.value) ≡ fit_in g.schema c.coded.item.on s.having = k.1 ∙ ap (λ (q : Rule). fit_in g.schema q.on s.having) c.rule in
    record {
      coded = c.coded;
      first = suiting_built_in g l r s ∙ ap (kept_if (suits g s)) c.first ∙ kept_some g s c.coded (suits_kind g s c.coded.item (fitted (value_in s.having) (Some f.value)) kind (sym e) ∙ some_fit f.value);
      rule = ap (λ (z : Choice). rule_in z.rule) k.0 ∙ c.rule;
      parts = ap (λ (z : Choice). way_parts g z.way) k.0 ∙ c.parts;
      way = subst (λ (z : Choice). IsWay g l (built_in g l r) z.way) (sym k.0) c.way;
      value = e;
    }
  where
    some_fit : (v : Fit) → is_some (fitted (value_in s.having) (Some v)) ≡ true
    some_fit kept_fit.Own = refl
    some_fit (kept_fit.Other w) = refl

pub found_if : {E : Type 0} (g : Setting) (l : Learning) (r : Room) (s : Seeking) (choice : Option Choice) (answer : Result (Option Found) E) → Chooses g l s.on (built_in g l r) choice → IfOk answer (λ found. Keeps g.schema s choice found) → IfOk answer (λ found. Finds g l s (built_in g l r) found)
found_if {E} g l r s choice (Ok found) c k = found_built_in g l r s choice found c k
found_if {E} g l r s choice (Err e) c k = tt
