-- The production that is chosen for an event is the first of those that suit it, where it has a spelling of it.
use Rattle.std.proofs.Common.{◌≡◌, ℕ, zero, suc, Bool, true, false, List, [], ◌∷◌, ◌++◌, All, length, Option, Some, None, refl, ◌∙◌, subst}
use Rattle.std.specs.Prelude.{slice_get}
use Rattle.std.specs.Option.{is_some}
use Rattle.std.proofs.lemmas.Bool.{and_parts}
use Rattle.std.proofs.lemmas.List.Elements.{All-head, All-tail}
use Rattle.exi_gram.proofs.CodeTells.{Each, EachOf}
use Rattle.exi_gram.specs.Codes.{Coded, Productions, Second, coded, coded_from, coded_second, coded_seconds, group, single}
use Rattle.exi_names.specs.Events.{Happening}
use Rattle.exi_names.specs.StartTables.{IsStart}
use Rattle.exi_tables.specs.Partitions.{Partitions}
use Rattle.exi_processing.specs.Configurations.{Config, IsSetting, Setting, rules_of}
use Rattle.exi_processing.specs.Rules.{Rule, Terminal, attribute, characters, comment, declaration, document_type, element, end_document, end_element, entity, instruction, self_contained, start_document}
use Rattle.exi_processing.specs.Sound.{FitsBook, FitsContent, FitsDocument, FitsFragment, FitsIn, FitsInside, FitsStart, IsSound}
use Rattle.exi_processing.specs.declared.frames.Element.{Element}
use Rattle.exi_processing.specs.declared.frames.Outer.{Outer}
use Rattle.exi_processing.specs.declared.frames.Outer.TheVariants as outer
use Rattle.exi_processing.specs.declared.frames.State.{State}
use Rattle.exi_processing.proofs.Fitting.{Fits, state_fits}
use Rattle.exi_writing.specs.OneEvent.{fewest, matches}
use Rattle.exi_writing.proofs.OneEvent.{fewest_stands}
use Rattle.exi_choice.specs.Fitting.{fit_in}
use Rattle.exi_choice.specs.Wanted.{ChosenSuits, first_suiting, is_of, picked, seeking, suits}
use Rattle.exi_choice.proofs.Choosing.{Every, Implies, every_map, first_kept, kept_if}
use Rattle.exi_choice.proofs.Matching.{NamesFit, may_suit, stand_together}

-- ---- each production of a state
every-append : (P : Rule → Type 0) (xs ys : List (Coded Rule)) → Every P xs → Every P ys → Every P (xs ++ ys)
every-append P [] ys h k = k
every-append P (x ∷ xs) ys h k = (h.0, every-append P xs ys h.1 k)

every_from : (P : Rule → Type 0) (front : List ℕ) (part : ℕ) (xs : List Rule) → All P xs → Every P (coded_from front part xs)
every_from P front part [] h = tt
every_from P front part (x ∷ xs) h = (All-head P x xs h, every_from P front (suc part) xs (All-tail P x xs h))

every_second : (P : Rule → Type 0) (front : List ℕ) (part : ℕ) (x : Second Rule) → EachOf P x → Every P (coded_second front part x)
every_second P front part (single x) h = (h, tt)
every_second P front part (group xs) h = every_from P (front ++ part ∷ []) 0 xs h

every_seconds : (P : Rule → Type 0) (front : List ℕ) (part : ℕ) (xs : List (Second Rule)) → All (EachOf P) xs → Every P (coded_seconds front part xs)
every_seconds P front part [] h = tt
every_seconds P front part (x ∷ xs) h = every-append P (coded_second front part x) (coded_seconds front (suc part) xs) (every_second P front part x (All-head (EachOf P) x xs h)) (every_seconds P front (suc part) xs (All-tail (EachOf P) x xs h))

pub every_coded : (P : Rule → Type 0) (p : Productions Rule) → Each P p → Every P (coded p)
every_coded P p e = every-append P (coded_from [] 0 p.firsts) (coded_seconds (length p.firsts ∷ []) 0 p.seconds) (every_from P [] 0 p.firsts e.firsts) (every_seconds P (length p.firsts ∷ []) 0 p.seconds e.seconds)

coded_is : (x y : Coded Rule) → Some x ≡ Some y → x ≡ y
coded_is x y e = cc

-- and of the one at a place
pub every_at : (P : Rule → Type 0) (xs : List (Coded Rule)) (place : ℕ) (x : Coded Rule) → Every P xs → slice_get xs place ≡ Some x → P x.item
every_at P [] place x h e = absurd cc
every_at P (y ∷ ys) zero x h e = subst (λ (z : Coded Rule). P z.item) (coded_is y x e) h.0
every_at P (y ∷ ys) (suc place) x h e = every_at P ys place x h.1 e

-- ---- the names that the codes tell stand in the tables
inside_names : (p : Partitions) (s : State) (t : Terminal) → FitsInside p s t → NamesFit p t
inside_names p s start_document h = absurd h
inside_names p s end_document h = absurd h
inside_names p s (element t) h = h
inside_names p s (attribute t u) h = h
inside_names p s (characters d) h = tt
inside_names p s end_element h = tt
inside_names p s declaration h = tt
inside_names p s self_contained h = tt
inside_names p s comment h = tt
inside_names p s instruction h = tt
inside_names p s document_type h = tt
inside_names p s entity h = tt

document_names : (p : Partitions) (number : ℕ) (t : Terminal) (to : ℕ) → FitsDocument p number t to → NamesFit p t
document_names p number start_document to h = tt
document_names p number end_document to h = tt
document_names p number (element t) to h = h.2
document_names p number (attribute t u) to h = absurd h
document_names p number (characters d) to h = tt
document_names p number end_element to h = tt
document_names p number declaration to h = tt
document_names p number self_contained to h = tt
document_names p number comment to h = tt
document_names p number instruction to h = tt
document_names p number document_type to h = tt
document_names p number entity to h = tt

content_names : (p : Partitions) (t : Terminal) (to : ℕ) → FitsContent p t to → NamesFit p t
content_names p start_document to h = tt
content_names p end_document to h = tt
content_names p (element t) to h = h.1
content_names p (attribute t u) to h = absurd h
content_names p (characters d) to h = tt
content_names p end_element to h = tt
content_names p declaration to h = tt
content_names p self_contained to h = tt
content_names p comment to h = tt
content_names p instruction to h = tt
content_names p document_type to h = tt
content_names p entity to h = tt

start_names : (p : Partitions) (t : Terminal) (to : ℕ) → FitsStart t to → NamesFit p t
start_names p start_document to h = tt
start_names p end_document to h = tt
start_names p (element t) to h = absurd h
start_names p (attribute t u) to h = absurd h
start_names p (characters d) to h = tt
start_names p end_element to h = tt
start_names p declaration to h = tt
start_names p self_contained to h = tt
start_names p comment to h = tt
start_names p instruction to h = tt
start_names p document_type to h = tt
start_names p entity to h = tt

fragment_names : (p : Partitions) (number : ℕ) (t : Terminal) (to : ℕ) → FitsFragment p number t to → NamesFit p t
fragment_names p zero t to h = start_names p t to h
fragment_names p (suc number) t to h = content_names p t to h

book_names : (p : Partitions) (grammar number : ℕ) (t : Terminal) (to : ℕ) → FitsBook p grammar number t to → NamesFit p t
book_names p zero number t to h = document_names p number t to h
book_names p (suc grammar) number t to h = fragment_names p number t to h

names_fit : (g : Setting) (p : Partitions) (o : Outer) (es : List Element) (t : Terminal) (to : ℕ) → FitsIn g p o es t to → NamesFit p t
names_fit g p (outer.Book grammar number) [] t to h = book_names p grammar number t to h
names_fit g p outer.FragmentStart [] t to h = start_names p t to h
names_fit g p outer.FragmentContent [] t to h = content_names p t to h
names_fit g p outer.AloneStart [] t to h = start_names p t to h
names_fit g p outer.AloneFirst [] t to h = content_names p t to h
names_fit g p outer.AloneOver [] t to h = content_names p t to h
names_fit g p outer.Ended [] t to h = absurd h
names_fit g p o (e ∷ es) t to h = inside_names p e.state t h.0

pub rules_fit : (g : Setting) (c : Config) → IsSetting g → IsStart g.schema.names → IsSound g c → Every (Fits g c.tables c.outer c.elements) (coded (rules_of g c))
rules_fit g c setting start s = every_coded (Fits g c.tables c.outer c.elements) (rules_of g c) (state_fits g c.tables c.learned setting start c.elements c.outer s.body)

-- ---- the choice
abbrev names : Config → Rule → Type 0
names c r = NamesFit c.tables r.on

not_true : (b : Bool) → (b ≡ true → ⊥) → b ≡ false
not_true true h = absurd (h refl)
not_true false h = refl

true_false : (b : Bool) → b ≡ true → b ≡ false → ⊥
true_false true h k = cc
true_false false h k = cc

kept_picked : (g : Setting) (c : Config) (e : Happening) (o : Option (Coded Rule)) → kept_if (matches g c e) o ≡ picked g c e o
kept_picked g c e None = refl
kept_picked g c e (Some x) = refl

pub chosen_picked : ChosenSuits
chosen_picked g c e setting start s =
    let xs = coded (rules_of g c) in
    let wanted = seeking c.tables e in
    let of_it : Rule → Bool = λ r. is_of wanted.on r.on in
    let fits_it : Rule → Bool = λ r. is_some (fit_in g.schema r.on wanted.having) in
    let told : Every (names c) xs = every_map (Fits g c.tables c.outer c.elements) (names c) (λ r h. names_fit g c.tables c.outer c.elements r.on r.to h.0) xs (rules_fit g c setting start s) in
    let stands : Every (Implies (matches g c e) (suits g wanted)) xs = every_map (names c) (Implies (matches g c e) (suits g wanted)) (λ r h k. may_suit g c start s.body.kept r r.on e h k) xs told in
    let fails : (x : Coded Rule) → fewest (suits g wanted) xs ≡ Some x → matches g c e x.item ≡ false → Every (λ r. matches g c e r ≡ false) xs = λ x first f. (
    let found = fewest_stands (suits g wanted) xs x first in
    let own = and_parts (of_it x.item) (fits_it x.item) found.passes in
    every_map (Implies (matches g c e) (suits g wanted)) (λ r. matches g c e r ≡ false) (λ r i. not_true (matches g c e r) (λ k. (
    let also = and_parts (of_it r) (fits_it r) (i k) in
    true_false (matches g c e r) k (stand_together g c start s.body.kept r x.item r.on x.item.on e also.0 own.0 also.1 own.1 ∙ f)
    ))) xs stands
    ) in
    first_kept (matches g c e) (suits g wanted) xs stands fails ∙ kept_picked g c e (first_suiting g wanted (rules_of g c))
