-- Whatever stands for an event in a state of a book is among the productions that are looked up for it.
use Rattle.std.proofs.Common.{◌≡◌, ◌&&◌, ◌||◌, ℕ, eqb, Bool, true, false, List, [], ◌∷◌, inl, inr, refl, sym, ap, ◌∙◌, subst}
use Rattle.std.specs.List.{list_any}
use Rattle.std.proofs.lemmas.Bool.{and_parts, cases_Bool, eq-eqb, eqb-true}
use Rattle.exi_builtin.specs.Learning.{is_type, same_name}
use Rattle.exi_candidates.specs.Keys.{element_keys, keys, wide_keys}
use Rattle.exi_candidates.specs.Order.{is_tried}
use Rattle.exi_candidates.specs.declared.key.Key.{Key}
use Rattle.exi_gram.specs.Candidates.{class_number, class_of, same_class, sought_by}
use Rattle.exi_gram.specs.Naming.{Entry}
use Rattle.exi_gram.specs.Terminals.{Symbol, sd, ed, se, se_in, se_any, at, at_in, at_any, at_text, at_any_text, xsi_type, xsi_nil, ch, ch_text, ee, ns, sc, er, cm, pi, dt}
use Rattle.exi_gram.specs.declared.class.Class.{Class}
use Rattle.exi_gram.specs.declared.class.Class.TheVariants as class
use Rattle.exi_gram.specs.declared.named.Named.{Named}
use Rattle.exi_gram.specs.declared.named.Named.TheVariants as named
use Rattle.exi_names.specs.Datatypes.{Representation}
use Rattle.exi_names.specs.StartTables.{Names}
use Rattle.exi_names.specs.declared.names.NameId.{NameId}
use Rattle.exi_names.specs.declared.names.QName.{QName}
use Rattle.exi_processing.specs.Contents.{is_nil}
use Rattle.exi_processing.specs.Rules.{Terminal, attribute, book_rule, characters, comment, declaration, document_type, element, end_document, end_element, entity, instruction, nil_name, self_contained, start_document, terminal_of, type_name}
use Rattle.exi_processing.specs.declared.rule.Content.{Content}
use Rattle.exi_processing.specs.declared.rule.Content.TheVariants as content
use Rattle.exi_processing.specs.declared.rule.Telling.{Telling as Told}
use Rattle.exi_processing.specs.declared.rule.Telling.TheVariants as told
use Rattle.exi_processing.specs.declared.rule.Valuing.{Valuing as Kind}
use Rattle.exi_ways.specs.Ways.{Tells}
use Rattle.exi_choice.specs.Sought.{naming, sought_attribute, sought_for}
use Rattle.exi_choice.specs.Wanted.{is_of, same_place, same_uri}
use Rattle.exi_choice.proofs.EventKinds.{only_comment, only_declaration, only_document_type, only_end_document, only_end_element, only_entity, only_instruction, only_self_contained, only_start_document}

-- whether a production is looked up by a key
abbrev has_key : Symbol → Named → Key → Bool
has_key on names k = same_class (class_of on) k.class && same_name (sought_by names) k.name

or_true : (a b : Bool) → b ≡ true → (a || b) ≡ true
or_true true b h = refl
or_true false b h = h

same_back : (a b : NameId) → same_name a b ≡ true → same_name b a ≡ true
same_back a b h =
    let both = and_parts (eqb a.uri b.uri) (eqb a.local b.local) h in
    let u = eq-eqb b.uri a.uri (sym (eqb-true a.uri b.uri both.0)) in
    let l = eq-eqb b.local a.local (sym (eqb-true a.local b.local both.1)) in
    rw (u, l) refl

uri_back : (own place : ℕ) → eqb own place ≡ true → (eqb place own && true) ≡ true
uri_back own place h = rw (eq-eqb place own (sym (eqb-true own place h))) refl

-- ---- an element
name_element : (name : QName) (own : Told) (id : NameId) → same_place own id ≡ true → list_any (has_key (se name) (named.Name id)) (element_keys (naming own)) ≡ true
name_element name told.Spelled id h = absurd cc
name_element name (told.Under uri) id h = absurd cc
name_element name (told.Known own) id h = rw h refl

uri_element : (uri : List ℕ) (own : Told) (place : ℕ) → same_uri own place ≡ true → list_any (has_key (se_in uri) (named.Uri place)) (element_keys (naming own)) ≡ true
uri_element uri told.Spelled place h = absurd cc
uri_element uri (told.Under own) place h = rw (uri_back own place h) refl
uri_element uri (told.Known own) place h = rw (uri_back own.uri place h) refl

any_element : (own : Told) → list_any (has_key se_any named.Nothing) (element_keys (naming own)) ≡ true
any_element told.Spelled = refl
any_element (told.Under own) = refl
any_element (told.Known own) = refl

element_tried : (names : Names) (own : Told) (on : Symbol) (places : Named) → Tells names on places → is_of (content.Element own) (terminal_of places on) ≡ true → list_any (has_key on places) (element_keys (naming own)) ≡ true
element_tried names own sd places t is = absurd cc
element_tried names own ed places t is = absurd cc
element_tried names own (se name) places t is =
    let h = subst (λ (z : Named). is_of (content.Element own) (terminal_of z (se name)) ≡ true) t.told_is is in
    subst (λ (z : Named). list_any (has_key (se name) z) (element_keys (naming own)) ≡ true) (sym t.told_is) (name_element name own t.place h)
element_tried names own (se_in uri) places t is =
    let h = subst (λ (z : Named). is_of (content.Element own) (terminal_of z (se_in uri)) ≡ true) t.told_is is in
    subst (λ (z : Named). list_any (has_key (se_in uri) z) (element_keys (naming own)) ≡ true) (sym t.told_is) (uri_element uri own t.place h)
element_tried names own se_any places t is = subst (λ (z : Named). list_any (has_key se_any z) (element_keys (naming own)) ≡ true) (sym t) (any_element own)
element_tried names own (at name representation) places t is = absurd cc
element_tried names own (at_in uri) places t is = absurd cc
element_tried names own at_any places t is = absurd cc
element_tried names own (at_text name) places t is = absurd cc
element_tried names own at_any_text places t is = absurd cc
element_tried names own xsi_type places t is = absurd cc
element_tried names own xsi_nil places t is = absurd cc
element_tried names own (ch representation) places t is = absurd cc
element_tried names own ch_text places t is = absurd cc
element_tried names own ee places t is = absurd cc
element_tried names own ns places t is = absurd cc
element_tried names own sc places t is = absurd cc
element_tried names own er places t is = absurd cc
element_tried names own cm places t is = absurd cc
element_tried names own pi places t is = absurd cc
element_tried names own dt places t is = absurd cc

-- ---- an attribute
abbrev key : Class → NameId → Key
key c name = record { class = c; name = name }

abbrev wide : Class → Key
wide c = key c (record { uri = 0; local = 0 })

abbrev within : Class → ℕ → Key
within c uri = key c (record { uri = uri; local = 0 })

-- whatever class is looked up beside them
abbrev common_keys : Named → List Key
common_keys named.Nothing = wide class.AtAny ∷ wide class.AtAnyText ∷ []
common_keys (named.Uri uri) = within class.AtIn uri ∷ wide class.AtAny ∷ wide class.AtAnyText ∷ []
common_keys (named.Name name) = key class.At name ∷ key class.AtText name ∷ within class.AtIn name.uri ∷ wide class.AtAny ∷ wide class.AtAnyText ∷ []

behind : (f : Key → Bool) (special : Class) (ks : List Key) → list_any f ks ≡ true → list_any f (wide special ∷ ks) ≡ true
behind f special ks h = or_true (f (wide special)) (list_any f ks) h

common : (own : Told) (f : Key → Bool) → list_any f (common_keys (naming own)) ≡ true → list_any f (keys (sought_attribute own)) ≡ true
common told.Spelled f h = behind f class.AtAny (common_keys named.Nothing) h
common (told.Under uri) f h = behind f class.AtAny (common_keys (named.Uri uri)) h
common (told.Known id) f h = elim (cases_Bool (is_type id)) [
  | inl yes_is ↦ rw yes_is (behind f class.XsiType (common_keys (named.Name id)) h)
  | inr no_is ↦ elim (cases_Bool (is_nil id)) [
    | inl nil ↦ rw (no_is, nil) (behind f class.XsiNil (common_keys (named.Name id)) h)
    | inr neither ↦ rw (no_is, neither) (behind f class.AtAny (common_keys (named.Name id)) h)
  ]
]

name_attribute : (name : QName) (representation : Representation) (own : Told) (id : NameId) → same_place own id ≡ true → list_any (has_key (at name representation) (named.Name id)) (common_keys (naming own)) ≡ true
name_attribute name representation told.Spelled id h = absurd cc
name_attribute name representation (told.Under uri) id h = absurd cc
name_attribute name representation (told.Known own) id h = rw h refl

name_text : (name : QName) (own : Told) (id : NameId) → same_place own id ≡ true → list_any (has_key (at_text name) (named.Name id)) (common_keys (naming own)) ≡ true
name_text name told.Spelled id h = absurd cc
name_text name (told.Under uri) id h = absurd cc
name_text name (told.Known own) id h = rw h refl

uri_attribute : (uri : List ℕ) (own : Told) (place : ℕ) → same_uri own place ≡ true → list_any (has_key (at_in uri) (named.Uri place)) (common_keys (naming own)) ≡ true
uri_attribute uri told.Spelled place h = absurd cc
uri_attribute uri (told.Under own) place h = rw (uri_back own place h) refl
uri_attribute uri (told.Known own) place h = rw (uri_back own.uri place h) refl

any_attribute : (own : Told) → list_any (has_key at_any named.Nothing) (common_keys (naming own)) ≡ true
any_attribute told.Spelled = refl
any_attribute (told.Under own) = refl
any_attribute (told.Known own) = refl

any_text : (own : Told) → list_any (has_key at_any_text named.Nothing) (common_keys (naming own)) ≡ true
any_text told.Spelled = refl
any_text (told.Under own) = refl
any_text (told.Known own) = refl

-- xsi:type and xsi:nil by productions of their own
type_tried : (own : Told) → same_place own type_name ≡ true → list_any (has_key xsi_type named.Nothing) (keys (sought_attribute own)) ≡ true
type_tried told.Spelled h = absurd cc
type_tried (told.Under uri) h = absurd cc
type_tried (told.Known id) h =
    let it : is_type id ≡ true = same_back type_name id h in
    rw it refl

not_type : (id : NameId) → is_nil id ≡ true → is_type id ≡ false
not_type id h =
    let both = and_parts (eqb id.uri 2) (eqb id.local 0) h in
    let u : id.uri ≡ 2 = eqb-true id.uri 2 both.0 in
    let l : id.local ≡ 0 = eqb-true id.local 0 both.1 in
    rw (u, l) refl

nil_tried : (own : Told) → same_place own nil_name ≡ true → list_any (has_key xsi_nil named.Nothing) (keys (sought_attribute own)) ≡ true
nil_tried told.Spelled h = absurd cc
nil_tried (told.Under uri) h = absurd cc
nil_tried (told.Known id) h =
    let it : is_nil id ≡ true = same_back nil_name id h in
    rw (not_type id it, it) refl

attribute_tried : (names : Names) (own : Told) (v : Kind) (on : Symbol) (places : Named) → Tells names on places → is_of (content.Attribute own v) (terminal_of places on) ≡ true → list_any (has_key on places) (keys (sought_attribute own)) ≡ true
attribute_tried names own v sd places t is = absurd cc
attribute_tried names own v ed places t is = absurd cc
attribute_tried names own v (se name) places t is = absurd cc
attribute_tried names own v (se_in uri) places t is = absurd cc
attribute_tried names own v se_any places t is = absurd cc
attribute_tried names own v (at name representation) places t is =
    let h = subst (λ (z : Named). is_of (content.Attribute own v) (terminal_of z (at name representation)) ≡ true) t.told_is is in
    subst (λ (z : Named). list_any (has_key (at name representation) z) (keys (sought_attribute own)) ≡ true) (sym t.told_is) (common own (has_key (at name representation) (named.Name t.place)) (name_attribute name representation own t.place h))
attribute_tried names own v (at_in uri) places t is =
    let h = subst (λ (z : Named). is_of (content.Attribute own v) (terminal_of z (at_in uri)) ≡ true) t.told_is is in
    subst (λ (z : Named). list_any (has_key (at_in uri) z) (keys (sought_attribute own)) ≡ true) (sym t.told_is) (common own (has_key (at_in uri) (named.Uri t.place)) (uri_attribute uri own t.place h))
attribute_tried names own v at_any places t is = subst (λ (z : Named). list_any (has_key at_any z) (keys (sought_attribute own)) ≡ true) (sym t) (common own (has_key at_any named.Nothing) (any_attribute own))
attribute_tried names own v (at_text name) places t is =
    let h = subst (λ (z : Named). is_of (content.Attribute own v) (terminal_of z (at_text name)) ≡ true) t.told_is is in
    subst (λ (z : Named). list_any (has_key (at_text name) z) (keys (sought_attribute own)) ≡ true) (sym t.told_is) (common own (has_key (at_text name) (named.Name t.place)) (name_text name own t.place h))
attribute_tried names own v at_any_text places t is = subst (λ (z : Named). list_any (has_key at_any_text z) (keys (sought_attribute own)) ≡ true) (sym t) (common own (has_key at_any_text named.Nothing) (any_text own))
attribute_tried names own v xsi_type places t is = subst (λ (z : Named). list_any (has_key xsi_type z) (keys (sought_attribute own)) ≡ true) (sym t) (type_tried own is)
attribute_tried names own v xsi_nil places t is = subst (λ (z : Named). list_any (has_key xsi_nil z) (keys (sought_attribute own)) ≡ true) (sym t) (nil_tried own is)
attribute_tried names own v (ch representation) places t is = absurd cc
attribute_tried names own v ch_text places t is = absurd cc
attribute_tried names own v ee places t is = absurd cc
attribute_tried names own v ns places t is = absurd cc
attribute_tried names own v sc places t is = absurd cc
attribute_tried names own v er places t is = absurd cc
attribute_tried names own v cm places t is = absurd cc
attribute_tried names own v pi places t is = absurd cc
attribute_tried names own v dt places t is = absurd cc

-- ---- characters
characters_tried : (names : Names) (on : Symbol) (places : Named) → Tells names on places → is_of content.Characters (terminal_of places on) ≡ true → list_any (has_key on places) (keys (sought_for content.Characters)) ≡ true
characters_tried names sd places t is = absurd cc
characters_tried names ed places t is = absurd cc
characters_tried names (se name) places t is = absurd cc
characters_tried names (se_in uri) places t is = absurd cc
characters_tried names se_any places t is = absurd cc
characters_tried names (at name representation) places t is = absurd cc
characters_tried names (at_in uri) places t is = absurd cc
characters_tried names at_any places t is = absurd cc
characters_tried names (at_text name) places t is = absurd cc
characters_tried names at_any_text places t is = absurd cc
characters_tried names xsi_type places t is = absurd cc
characters_tried names xsi_nil places t is = absurd cc
characters_tried names (ch representation) places t is = subst (λ (z : Named). list_any (has_key (ch representation) z) (keys (sought_for content.Characters)) ≡ true) (sym t) refl
characters_tried names ch_text places t is = subst (λ (z : Named). list_any (has_key ch_text z) (keys (sought_for content.Characters)) ≡ true) (sym t) refl
characters_tried names ee places t is = absurd cc
characters_tried names ns places t is = absurd cc
characters_tried names sc places t is = absurd cc
characters_tried names er places t is = absurd cc
characters_tried names cm places t is = absurd cc
characters_tried names pi places t is = absurd cc
characters_tried names dt places t is = absurd cc

-- ---- what has one class alone, and names nothing
abbrev is_plain : Terminal → Bool
is_plain start_document = true
is_plain end_document = true
is_plain (element t) = false
is_plain (attribute t v) = false
is_plain (characters d) = false
is_plain end_element = true
is_plain declaration = true
is_plain self_contained = true
is_plain comment = true
is_plain instruction = true
is_plain document_type = true
is_plain entity = true

abbrev class_in : Terminal → Class
class_in start_document = class.Sd
class_in end_document = class.Ed
class_in (element t) = class.SeAny
class_in (attribute t v) = class.AtAny
class_in (characters d) = class.Ch
class_in end_element = class.Ee
class_in declaration = class.Ns
class_in self_contained = class.Sc
class_in comment = class.Cm
class_in instruction = class.Pi
class_in document_type = class.Dt
class_in entity = class.Er

plain_key : (names : Names) (on : Symbol) (places : Named) → Tells names on places → is_plain (terminal_of places on) ≡ true → (class_of on ≡ class_in (terminal_of places on)) × (places ≡ named.Nothing)
plain_key names sd places t is = (refl, t)
plain_key names ed places t is = (refl, t)
plain_key names (se name) places t is = absurd cc
plain_key names (se_in uri) places t is = absurd cc
plain_key names se_any places t is = absurd cc
plain_key names (at name representation) places t is = absurd cc
plain_key names (at_in uri) places t is = absurd cc
plain_key names at_any places t is = absurd cc
plain_key names (at_text name) places t is = absurd cc
plain_key names at_any_text places t is = absurd cc
plain_key names xsi_type places t is = absurd cc
plain_key names xsi_nil places t is = absurd cc
plain_key names (ch representation) places t is = absurd cc
plain_key names ch_text places t is = absurd cc
plain_key names ee places t is = (refl, t)
plain_key names ns places t is = (refl, t)
plain_key names sc places t is = (refl, t)
plain_key names er places t is = (refl, t)
plain_key names cm places t is = (refl, t)
plain_key names pi places t is = (refl, t)
plain_key names dt places t is = (refl, t)

one_key : (on : Symbol) (places : Named) (c : Class) → class_of on ≡ c → places ≡ named.Nothing → list_any (has_key on places) (wide_keys c) ≡ true
one_key on places c e n = rw (e, n, eq-eqb (class_number c) (class_number c) refl) refl

plain_tried : (names : Names) (e : Entry) (t : Terminal) → Tells names e.rule.on e.named → (book_rule e).on ≡ t → is_plain t ≡ true → is_tried (wide_keys (class_in t)) e ≡ true
plain_tried names e t tells same plain =
    let k = plain_key names e.rule.on e.named tells (ap is_plain same ∙ plain) in
    one_key e.rule.on e.named (class_in t) (k.0 ∙ ap class_in same) k.1

-- ---- every event
pub are_tried : (names : Names) (wanted : Content) (e : Entry) → Tells names e.rule.on e.named → is_of wanted (book_rule e).on ≡ true → is_tried (keys (sought_for wanted)) e ≡ true
are_tried names content.StartDocument e tells is = plain_tried names e start_document tells (only_start_document (book_rule e).on is) refl
are_tried names content.EndDocument e tells is = plain_tried names e end_document tells (only_end_document (book_rule e).on is) refl
are_tried names content.EndElement e tells is = plain_tried names e end_element tells (only_end_element (book_rule e).on is) refl
are_tried names content.Declaration e tells is = plain_tried names e declaration tells (only_declaration (book_rule e).on is) refl
are_tried names content.SelfContained e tells is = plain_tried names e self_contained tells (only_self_contained (book_rule e).on is) refl
are_tried names content.Comment e tells is = plain_tried names e comment tells (only_comment (book_rule e).on is) refl
are_tried names content.Instruction e tells is = plain_tried names e instruction tells (only_instruction (book_rule e).on is) refl
are_tried names content.DocumentType e tells is = plain_tried names e document_type tells (only_document_type (book_rule e).on is) refl
are_tried names content.Entity e tells is = plain_tried names e entity tells (only_entity (book_rule e).on is) refl
are_tried names (content.Element own) e tells is = element_tried names own e.rule.on e.named tells is
are_tried names (content.Attribute own v) e tells is = attribute_tried names own v e.rule.on e.named tells is
are_tried names content.Characters e tells is = characters_tried names e.rule.on e.named tells is
