-- Each production of a book tells what it names: so it is looked up by that.
use Rattle.std.proofs.Common.{◌≡◌, inl, inr, ℕ, zero, suc, true, List, [], ◌∷◌, ◌++◌, length, map, get_or, All, Some, refl, sym, subst, arith, slice_get}
use Rattle.std.proofs.lemmas.Bool.{cases_Bool}
use Rattle.std.proofs.lemmas.List.Elements.{All-append, All-cons, All-from_recursion, All-head, All-map, All-nil, All-tail}
use Rattle.exi_names.specs.declared.names.QName.{QName}
use Rattle.exi_gram.specs.declared.options.Options.{Options}
use Rattle.exi_gram.specs.Books.{Contents, IsBook, IsStateOf, is_kept, placed_in, state_at, state_of, states_in}
use Rattle.exi_gram.specs.Codes.{Coded, Productions, Second, coded, coded_from, coded_second, coded_seconds, group, single}
use Rattle.exi_gram.specs.Naming.{Entry, entry_of}
use Rattle.exi_gram.specs.Outlines.{Outline}
use Rattle.exi_gram.specs.Schemas.{IsSchema, Stands}
use Rattle.exi_gram.specs.Tables.{no_productions}
use Rattle.exi_gram.specs.Terminals.{Rule, sd, ed, se_any, cm, pi, dt}
use Rattle.exi_gram.specs.Wholes.{document, document_content, document_end, fragment, fragment_content, opening, plain, whole_start}
use Rattle.exi_gram.proofs.CodeTells.{Each, EachOf, each_mapped, each_pruned}
use Rattle.exi_gram.proofs.Plain.{plain_book}
use Rattle.exi_ways.specs.Ways.{IsWayIn, Tells}
use Rattle.exi_ways.proofs.Entries.{name_told}
use Rattle.exi_ways.proofs.Lists.{at_place, each_weaker}
use Rattle.exi_ways.proofs.Parts.{known_states, parts_each, past_known}

-- ---- each of a state's codes
from_each : {X : Type 0} (P : X → Type 0) (front : List ℕ) (part : ℕ) (xs : List X) → All P xs → All (λ c. P c.item) (coded_from front part xs)
from_each P front part [] h = All-nil (λ c. P c.item)
from_each P front part (x ∷ xs) h = All-cons (λ c. P c.item) (record { parts = front ++ part ∷ []; item = x }) (coded_from front (suc part) xs) (All-head P x xs h) (from_each P front (suc part) xs (All-tail P x xs h))

second_each : {X : Type 0} (P : X → Type 0) (front : List ℕ) (part : ℕ) (x : Second X) → EachOf P x → All (λ c. P c.item) (coded_second front part x)
second_each P front part (single x) h = All-cons (λ c. P c.item) (record { parts = front ++ part ∷ []; item = x }) [] h (All-nil (λ c. P c.item))
second_each P front part (group xs) h = from_each P (front ++ part ∷ []) 0 xs h

seconds_each : {X : Type 0} (P : X → Type 0) (front : List ℕ) (part : ℕ) (xs : List (Second X)) → All (EachOf P) xs → All (λ c. P c.item) (coded_seconds front part xs)
seconds_each P front part [] h = All-nil (λ c. P c.item)
seconds_each P front part (x ∷ xs) h = All-append (λ c. P c.item) (coded_second front part x) (coded_seconds front (suc part) xs) (second_each P front part x (All-head (EachOf P) x xs h)) (seconds_each P front (suc part) xs (All-tail (EachOf P) x xs h))

coded_each : {X : Type 0} (P : X → Type 0) (p : Productions X) → Each P p → All (λ c. P c.item) (coded p)
coded_each P p e = All-append (λ c. P c.item) (coded_from [] 0 p.firsts) (coded_seconds (length p.firsts ∷ []) 0 p.seconds) (from_each P [] 0 p.firsts e.firsts) (seconds_each P (length p.firsts ∷ []) 0 p.seconds e.seconds)

-- ---- Document and Fragment
abbrev RuleTells : Outline → Rule → Type 0
RuleTells o r = Tells o.names r.on (entry_of o.names r).named

abbrev pub EntryTells : Outline → Entry → Type 0
EntryTells o e = Tells o.names e.rule.on e.named

abbrev AllStand : Outline → List (QName × ℕ) → Type 0
AllStand o elements = All (λ e. Stands o.names e.0) elements

module _ (options : Options) (o : Outline) where
  left : (p : Productions Rule) → Each (RuleTells o) p → Each (EntryTells o) (state_of options o.names p)
  left p h = each_pruned (EntryTells o) (is_kept options) (placed_in o.names p) (each_mapped (EntryTells o) (entry_of o.names) p h)

  openings : (state : ℕ) (elements : List (QName × ℕ)) → AllStand o elements → All (RuleTells o) (map (opening state) elements)
  openings state elements h = All-map (RuleTells o) (opening state) elements (λ i d less. name_told o.names (get_or elements i d).0 (h i d less))

  start : Each (RuleTells o) whole_start
  start = record { firsts = All-from_recursion (RuleTells o) (plain sd 1 ∷ []) (refl, tt); seconds = All-nil (EachOf (RuleTells o)) }

  inside : (elements : List (QName × ℕ)) → AllStand o elements → Each (RuleTells o) (document_content elements)
  inside elements h = record {
    firsts = All-append (RuleTells o) (map (opening 2) elements) (plain se_any 2 ∷ []) (openings 2 elements h) (All-from_recursion (RuleTells o) (plain se_any 2 ∷ []) (refl, tt));
    seconds = All-from_recursion (EachOf (RuleTells o)) (single (plain dt 1) ∷ group (plain cm 1 ∷ plain pi 1 ∷ []) ∷ []) (refl, (All-from_recursion (RuleTells o) (plain cm 1 ∷ plain pi 1 ∷ []) (refl, (refl, tt)), tt));
  }

  over : Each (RuleTells o) document_end
  over = record {
    firsts = All-from_recursion (RuleTells o) (plain ed 2 ∷ []) (refl, tt);
    seconds = All-from_recursion (EachOf (RuleTells o)) (single (plain cm 2) ∷ single (plain pi 2) ∷ []) (refl, (refl, tt));
  }

  within : (elements : List (QName × ℕ)) → AllStand o elements → Each (RuleTells o) (fragment_content elements)
  within elements h = record {
    firsts = All-append (RuleTells o) (map (opening 1) elements) (plain se_any 1 ∷ plain ed 1 ∷ []) (openings 1 elements h) (All-from_recursion (RuleTells o) (plain se_any 1 ∷ plain ed 1 ∷ []) (refl, (refl, tt)));
    seconds = All-from_recursion (EachOf (RuleTells o)) (single (plain cm 1) ∷ single (plain pi 1) ∷ []) (refl, (refl, tt));
  }

  abbrev AllTell : List (Productions Entry) → Type 0
  AllTell states = All (Each (EntryTells o)) states

  document_tells : (elements : List (QName × ℕ)) → AllStand o elements → AllTell (map (state_of options o.names) (document elements))
  document_tells elements h = All-map (Each (EntryTells o)) (state_of options o.names) (document elements) (All-from_recursion (λ p. Each (EntryTells o) (state_of options o.names p)) (document elements) (left whole_start start, (left (document_content elements) (inside elements h), (left document_end over, tt))))

  fragment_tells : (elements : List (QName × ℕ)) → AllStand o elements → AllTell (map (state_of options o.names) (fragment elements))
  fragment_tells elements h = All-map (Each (EntryTells o)) (state_of options o.names) (fragment elements) (All-from_recursion (λ p. Each (EntryTells o) (state_of options o.names p)) (fragment elements) (left whole_start start, (left (fragment_content elements) (within elements h), tt)))

-- ---- every state of a book
module _ (b : Contents) (is : IsBook b) (s : IsSchema b.schema) where
  globals_stand : AllStand b.schema (map (λ e. (e.name, e.full)) b.schema.globals)
  globals_stand = All-map (λ (e : QName × ℕ). Stands b.schema.names e.0) (λ e. (e.name, e.full)) b.schema.globals (λ i d less. s.told.globals i d less)

  first_tells : AllTell b.options b.schema (states_in b 0)
  first_tells = elim (cases_Bool b.schema.known) [
    | inl known ↦ subst (λ (z : List (List (Productions Entry))). AllTell b.options b.schema (get_or z 0 [])) (sym (known_states b is known)) (document_tells b.options b.schema (map (λ e. (e.name, e.full)) b.schema.globals) globals_stand)
    | inr unknown ↦ subst (λ (z : List (List (Productions Entry))). AllTell b.options b.schema (get_or z 0 [])) (sym (plain_book b is unknown).states) (document_tells b.options b.schema [] (All-nil (λ e. Stands b.schema.names e.0)))
  ]

  second_tells : b.schema.known ≡ true → AllTell b.options b.schema (states_in b 1)
  second_tells known = subst (λ (z : List (List (Productions Entry))). AllTell b.options b.schema (get_or z 1 [])) (sym (known_states b is known)) (fragment_tells b.options b.schema b.schema.fragment (λ i d less. s.told.fragment i d less))

  state_tells : (grammar number : ℕ) → IsStateOf b grammar number → Each (EntryTells b.schema) (state_at b grammar number)
  state_tells zero number there = first_tells number no_productions there.state_is
  state_tells (suc zero) number there = second_tells (past_known b is 1 (omega arith) there.grammar_is) number no_productions there.state_is
  state_tells (suc (suc grammar)) number there = each_weaker (IsWayIn b (suc (suc grammar))) (EntryTells b.schema) (λ e h. h.told) (state_at b (suc (suc grammar)) number) (parts_each b is s (suc (suc grammar)) number (omega arith) there)

  pub coded_tells : (grammar number : ℕ) → IsStateOf b grammar number → (place : ℕ) (c : Coded Entry) → slice_get (coded (state_at b grammar number)) place ≡ Some c → EntryTells b.schema c.item
  coded_tells grammar number there place c e = at_place (λ (x : Coded Entry). EntryTells b.schema x.item) (coded (state_at b grammar number)) place c (coded_each (EntryTells b.schema) (state_at b grammar number) (state_tells grammar number there)) e
