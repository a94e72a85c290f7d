-- Without a schema no production has a datatype: the value of an attribute is a name or a string, and characters are a string.
use Rattle.std.proofs.Common.{◌≡◌, ℕ, zero, suc, Bool, true, false, List, [], ◌∷◌, ◌++◌, length, map, get_or, slice_get, Some, None, refl, sym, subst}
use Rattle.std.specs.Prelude.{All, if◌then◌else◌}
use Rattle.std.proofs.lemmas.List.Elements.{All-from_recursion, All-head, All-nil, All-tail}
use Rattle.exi_builtin.specs.declared.learnable.Learnable.{Learnable}
use Rattle.exi_builtin.specs.declared.learnable.Learnable.TheVariants as learnable
use Rattle.exi_builtin.specs.declared.learnable.Room.{Room}
use Rattle.exi_builtin.specs.declared.learnable.Room.TheVariants as room
use Rattle.exi_builtin.specs.Learning.{Learning, rules}
use Rattle.exi_gram.specs.declared.options.Options.{Options}
use Rattle.exi_gram.specs.Books.{IsPlainBook, is_kept, placed_in, state_of}
use Rattle.exi_gram.specs.Codes.{Coded, Productions, Second, coded, coded_from, coded_second, coded_seconds, group, mapped, single}
use Rattle.exi_gram.specs.Naming.{Entry, entry_of}
use Rattle.exi_gram.specs.Tables.{no_productions}
use Rattle.exi_gram.specs.Terminals as gram
use Rattle.exi_gram.specs.Wholes.{document, document_content, document_end, whole_start}
use Rattle.exi_gram.proofs.CodeTells.{Each, EachOf, each_mapped, each_pruned}
use Rattle.exi_names.specs.Datatypes as datatype
use Rattle.exi_names.specs.StartTables.{Names}
use Rattle.exi_processing.specs.Configurations.{Config, Setting, built_in, element_rules, in_book, outer_rules, rules_in, rules_of}
use Rattle.exi_processing.specs.Rules.{Rule, Terminal, attribute, book_rule, built_in_rule, built_in_terminal, characters, comment, declaration, document_type, element, end_document, end_element, entity, fragment_start, instruction, self_contained, start_document, untyped}
use Rattle.exi_processing.specs.declared.frames.Element.{Element}
use Rattle.exi_processing.specs.declared.frames.Outer.{Outer}
use Rattle.exi_processing.specs.declared.frames.Outer.TheVariants as outer
use Rattle.exi_processing.specs.declared.frames.State.{State}
use Rattle.exi_processing.specs.declared.frames.State.TheVariants as state

abbrev pub IsPlainOn : Terminal → Type 0
IsPlainOn start_document = Unit {0}
IsPlainOn end_document = Unit {0}
IsPlainOn (element t) = Unit {0}
IsPlainOn (attribute t v) = v ≡ untyped
IsPlainOn (characters d) = d ≡ datatype.text
IsPlainOn end_element = Unit {0}
IsPlainOn declaration = Unit {0}
IsPlainOn self_contained = Unit {0}
IsPlainOn comment = Unit {0}
IsPlainOn instruction = Unit {0}
IsPlainOn document_type = Unit {0}
IsPlainOn entity = Unit {0}

abbrev PlainRule : Rule → Type 0
PlainRule r = IsPlainOn r.on

-- ---- built-in grammars
plain_learnable : (x : Learnable) → IsPlainOn (built_in_terminal x)
plain_learnable (learnable.Known name true) = refl
plain_learnable (learnable.Known name false) = tt
plain_learnable learnable.SeAny = tt
plain_learnable learnable.AtAny = refl
plain_learnable (learnable.Ch one_part) = refl
plain_learnable (learnable.Ee one_part) = tt
plain_learnable learnable.Ed = tt
plain_learnable learnable.Ns = tt
plain_learnable learnable.Sc = tt
plain_learnable learnable.Er = tt
plain_learnable learnable.Cm = tt
plain_learnable learnable.Pi = tt

all_each : {X : Type 0} (P : X → Type 0) → ((x : X) → P x) → (p : Productions X) → Each P p
all_each {X} P f p = record { firsts = λ i d less. f (get_or p.firsts i d); seconds = λ i d less. second_each (get_or p.seconds i d) }
  where
    second_each : (x : Second X) → EachOf P x
    second_each (single x) = f x
    second_each (group xs) = λ i d less. f (get_or xs i d)

built_in_plain : (g : Setting) (l : Learning) (r : Room) → Each PlainRule (built_in g l r)
built_in_plain g l r = each_mapped PlainRule built_in_rule (rules g.options l r) (all_each (λ x. PlainRule (built_in_rule x)) (λ x. plain_learnable x.on) (rules g.options l r))

start_plain : Each PlainRule fragment_start
start_plain = record { firsts = All-from_recursion PlainRule fragment_start.firsts (tt, tt); seconds = All-nil (EachOf PlainRule) }

-- ---- Document, where a name is told by nothing
abbrev OfPlain : Names → gram.Rule → Type 0
OfPlain names r = PlainRule (book_rule (entry_of names r))

whole_plain : (names : Names) → Each (OfPlain names) whole_start
whole_plain names = record { firsts = All-from_recursion (OfPlain names) whole_start.firsts (tt, tt); seconds = All-nil (EachOf (OfPlain names)) }

document_plain : (names : Names) → Each (OfPlain names) (document_content [])
document_plain names = record {
  firsts = All-from_recursion (OfPlain names) (document_content []).firsts (tt, tt);
  seconds = All-from_recursion (EachOf (OfPlain names)) (document_content []).seconds (tt, (two_plain, tt));
}
  where
    two_plain : All (OfPlain names) (record { on = gram.cm; to = 1; inner = None } ∷ record { on = gram.pi; to = 1; inner = None } ∷ [])
    two_plain = All-from_recursion (OfPlain names) (record { on = gram.cm; to = 1; inner = None } ∷ record { on = gram.pi; to = 1; inner = None } ∷ []) (tt, (tt, tt))

end_plain : (names : Names) → Each (OfPlain names) document_end
end_plain names = record { firsts = All-from_recursion (OfPlain names) document_end.firsts (tt, tt); seconds = All-from_recursion (EachOf (OfPlain names)) document_end.seconds (tt, (tt, tt)) }

left_plain : (o : Options) (names : Names) (p : Productions gram.Rule) → Each (OfPlain names) p → Each PlainRule (mapped book_rule (state_of o names p))
left_plain o names p e =
    each_mapped PlainRule book_rule (state_of o names p)
    (each_pruned (λ x. PlainRule (book_rule x)) (is_kept o) (placed_in names p)
    (each_mapped (λ x. PlainRule (book_rule x)) (entry_of names) p e))

none_plain : Each PlainRule (mapped book_rule no_productions)
none_plain = record { firsts = All-nil PlainRule; seconds = All-nil (EachOf PlainRule) }

state_plain : (o : Options) (names : Names) (i : ℕ) → Each PlainRule (mapped book_rule (get_or (map (state_of o names) (document [])) i no_productions))
state_plain o names zero = left_plain o names whole_start (whole_plain names)
state_plain o names (suc zero) = left_plain o names (document_content []) (document_plain names)
state_plain o names (suc (suc zero)) = left_plain o names document_end (end_plain names)
state_plain o names (suc (suc (suc i))) = none_plain

states_plain : (o : Options) (names : Names) (states : List (List (Productions Entry))) → states ≡ map (state_of o names) (document []) ∷ [] → (grammar number : ℕ) → Each PlainRule (mapped book_rule (get_or (get_or states grammar []) number no_productions))
states_plain o names states h zero number = subst (λ (z : List (List (Productions Entry))). Each PlainRule (mapped book_rule (get_or (get_or z 0 []) number no_productions))) (sym h) (state_plain o names number)
states_plain o names states h (suc grammar) number = subst (λ (z : List (List (Productions Entry))). Each PlainRule (mapped book_rule (get_or (get_or z (suc grammar) []) number no_productions))) (sym h) none_plain

book_plain : (g : Setting) → IsPlainBook g → (grammar number : ℕ) → Each PlainRule (in_book g grammar number)
book_plain g b grammar number = states_plain g.options g.schema.names g.states b.states grammar number

-- ---- every state
alone_plain : (g : Setting) (l : Learning) → IsPlainBook g → (known : Bool) → Each PlainRule (if known then in_book g 1 1 else built_in g l room.Fragment)
alone_plain g l b true = book_plain g b 1 1
alone_plain g l b false = built_in_plain g l room.Fragment

outer_plain : (g : Setting) (l : Learning) → IsPlainBook g → (o : Outer) → Each PlainRule (outer_rules g l o)
outer_plain g l b (outer.Book grammar number) = book_plain g b grammar number
outer_plain g l b outer.FragmentStart = start_plain
outer_plain g l b outer.FragmentContent = built_in_plain g l room.Fragment
outer_plain g l b outer.AloneStart = start_plain
outer_plain g l b outer.AloneFirst = alone_plain g l b g.schema.known
outer_plain g l b outer.AloneOver = alone_plain g l b g.schema.known
outer_plain g l b outer.Ended = record { firsts = All-nil PlainRule; seconds = All-nil (EachOf PlainRule) }

element_plain : (g : Setting) (l : Learning) → IsPlainBook g → (s : State) → Each PlainRule (element_rules g l s)
element_plain g l b (state.BuiltIn r) = built_in_plain g l r
element_plain g l b (state.Informed grammar number empty) = book_plain g b grammar number

rules_plain : (g : Setting) (l : Learning) → IsPlainBook g → (es : List Element) (o : Outer) → Each PlainRule (rules_in g l es o)
rules_plain g l b [] o = outer_plain g l b o
rules_plain g l b (e ∷ es) o = element_plain g l b e.state

each_plain : (g : Setting) → IsPlainBook g → (c : Config) → Each PlainRule (rules_of g c)
each_plain g b c = rules_plain g c.learned b c.elements c.outer

-- ---- the one at a place
abbrev Every : (Rule → Type 0) → List (Coded Rule) → Type 0
Every P [] = Unit {0}
Every P (x ∷ xs) = P x.item × Every P xs

every-append : (P : Rule → Type 0) (xs ys : List (Coded Rule)) → Every P xs → Every P ys → Every P (xs ++ ys)
every-append P [] ys h k = k
every-append P (x ∷ xs) ys h k = (h.0, every-append P xs ys h.1 k)

every_from : (P : Rule → Type 0) (front : List ℕ) (part : ℕ) (xs : List Rule) → All P xs → Every P (coded_from front part xs)
every_from P front part [] h = tt
every_from P front part (x ∷ xs) h = (All-head P x xs h, every_from P front (suc part) xs (All-tail P x xs h))

every_second : (P : Rule → Type 0) (front : List ℕ) (part : ℕ) (x : Second Rule) → EachOf P x → Every P (coded_second front part x)
every_second P front part (single x) h = (h, tt)
every_second P front part (group xs) h = every_from P (front ++ part ∷ []) 0 xs h

every_seconds : (P : Rule → Type 0) (front : List ℕ) (part : ℕ) (xs : List (Second Rule)) → All (EachOf P) xs → Every P (coded_seconds front part xs)
every_seconds P front part [] h = tt
every_seconds P front part (x ∷ xs) h = every-append P (coded_second front part x) (coded_seconds front (suc part) xs) (every_second P front part x (All-head (EachOf P) x xs h)) (every_seconds P front (suc part) xs (All-tail (EachOf P) x xs h))

every_coded : (P : Rule → Type 0) (p : Productions Rule) → Each P p → Every P (coded p)
every_coded P p e = every-append P (coded_from [] 0 p.firsts) (coded_seconds (length p.firsts ∷ []) 0 p.seconds) (every_from P [] 0 p.firsts e.firsts) (every_seconds P (length p.firsts ∷ []) 0 p.seconds e.seconds)

coded_is : (x y : Coded Rule) → Some x ≡ Some y → x ≡ y
coded_is x y e = cc

every_at : (P : Rule → Type 0) (xs : List (Coded Rule)) (place : ℕ) (x : Coded Rule) → Every P xs → slice_get xs place ≡ Some x → P x.item
every_at P [] place x h e = absurd cc
every_at P (y ∷ ys) zero x h e = subst (λ (z : Coded Rule). P z.item) (coded_is y x e) h.0
every_at P (y ∷ ys) (suc place) x h e = every_at P ys place x h.1 e

pub plain_at : (g : Setting) → IsPlainBook g → (c : Config) (place : ℕ) (x : Coded Rule) → slice_get (coded (rules_of g c)) place ≡ Some x → IsPlainOn x.item.on
plain_at g b c place x e = every_at PlainRule (coded (rules_of g c)) place x (every_coded PlainRule (rules_of g c) (each_plain g b c)) e
