-- The name of an element that was written can be written again: it stands in the string tables as it was told, and each of its
-- texts can be spelled.
use Rattle.std.proofs.Common.{◌≡◌, ℕ, ◌<◌, Bool, true, false, ◌&&◌, List, [], ◌∷◌, ◌++◌, length, get_or, Option, Some, None, refl, sym, ap, ◌∙◌, subst}
use Rattle.std.specs.Prelude.{Ok, unwrap_or, if◌then◌else◌}
use Rattle.std.proofs.lemmas.Bool.{and_parts}
use Rattle.std.proofs.lemmas.List.{map-append}
use Rattle.std.proofs.lemmas.Option.{get_or_from_slice_get, slice_get_within}
use Rattle.std.proofs.lemmas.Slice.Eq.{bytes_eq-Decides}
use Rattle.exi_bits.specs.declared.fault.Kind.TheVariants as kind
use Rattle.exi_builtin.specs.declared.learnable.Learned.{Learned}
use Rattle.exi_builtin.specs.declared.learnable.Learned.TheVariants as used
use Rattle.exi_gram.specs.Switches.{align_of, prefixes}
use Rattle.exi_names.specs.declared.names.NameId.{NameId}
use Rattle.exi_names.specs.declared.names.QName.{QName}
use Rattle.exi_names.specs.Events.{Happening}
use Rattle.exi_names.specs.Events as event
use Rattle.exi_processing.specs.Changes.{innermost, learns_name, put_aside, resumed, texts_of}
use Rattle.exi_processing.specs.Configurations.{Body, Config, Setting}
use Rattle.exi_processing.specs.OneEvent.{is_start, remembered}
use Rattle.exi_processing.specs.Plans.{Alone, Given, alone_in, at_end, at_first, at_start, nowhere, plan_on, rooted_in, seen_in}
use Rattle.exi_processing.specs.Rules.{Rule, Telling, Terminal, attribute, characters, comment, declaration, document_type, element, end_document, end_element, entity, instruction, known, self_contained, spelled, start_document, under}
use Rattle.exi_processing.specs.Spelled.{further}
use Rattle.exi_tables.proofs.Growing.{changed_within, uris_changed}
use Rattle.exi_tables.proofs.Least.{least_found, least_none}
use Rattle.exi_tables.specs.Partitions.{Partitions, and_local, least_place, live_at, locals, locals_in, prefixes as prefixes_at, uris, with_local, with_uri}
use Rattle.exi_typed.specs.Strings.{Named, place_in}
use Rattle.exi_typed.specs.Written.{after_local, after_name, after_uri, name_bits, prefix_bits, space_for, under_bits, unless_found}
use Rattle.exi_typed.specs.WrittenLaws.{name_units, named_for}
use Rattle.exi_writing.specs.Contents.{of, se_name, told_name, written_on}
use Rattle.exi_writing.specs.OneEvent.{Written, written}
use Rattle.exi_writing.specs.Pieces as piece
use Rattle.exi_writing.specs.Pieces.{Piece, can_be_spelled, can_know, can_know_under, can_name, can_tell, if_spelled, is_at, is_text, named_under, prefixes_for, stands_at}
use Rattle.exi_writing.proofs.OneEvent.{context}
use Rattle.exi_writer.proofs.Choices.{chosen_of}
use Rattle.exi_writer.proofs.Moves.{made}
use Rattle.exi_writer.specs.Writing.{CanNameAgain, can_be_named}

-- ---- a text that stands in a list stands at its least place
at_the_end : (xs : List (List ℕ)) (x : List ℕ) → live_at (xs ++ x ∷ []) (length xs) ≡ Some x
at_the_end [] x = refl
at_the_end (y ∷ xs) x = at_the_end xs x

abbrev Holds : List (List ℕ) → List ℕ → Type 0
Holds xs x = (place : ℕ) × (live_at xs place ≡ Some x)

stands : (xs : List (List ℕ)) (x : List ℕ) → Holds xs x → live_at xs (place_in xs x) ≡ Some x
stands xs x h = by_place (least_place xs x) refl
  where
    by_place : (o : Option ℕ) → least_place xs x ≡ o → live_at xs (unwrap_or o 0) ≡ Some x
    by_place None e = absurd (least_none xs x h.0 e h.1)
    by_place (Some i) e = (least_found xs x i e).found

grown : (xs ys : List (List ℕ)) (x : List ℕ) → ys ≡ xs ++ x ∷ [] → Holds ys x
grown xs ys x e = (length xs, ap (λ (z : List (List ℕ)). live_at z (length xs)) e ∙ at_the_end xs x)

uri_holds : (p : Partitions) (x : List ℕ) → Holds (uris (after_uri p x)) x
uri_holds p x = by_place (least_place (uris p) x) refl
  where
    by_place : (o : Option ℕ) → least_place (uris p) x ≡ o → Holds (uris (unless_found o p (with_uri p x))) x
    by_place (Some i) e = (i, (least_found (uris p) x i e).found)
    by_place None e = grown (uris p) (uris (with_uri p x)) x (map-append (λ n. n.uri) p.namespaces (record { uri = x; locals = []; prefixes = [] } ∷ []))

local_holds : (p : Partitions) (uri : ℕ) (x : List ℕ) → uri < length (uris p) → Holds (locals (after_local p uri x) uri) x
local_holds p uri x within = by_place (least_place (locals p uri) x) refl
  where
    by_place : (o : Option ℕ) → least_place (locals p uri) x ≡ o → Holds (locals (unless_found o p (with_local p uri x)) uri) x
    by_place (Some i) e = (i, (least_found (locals p uri) x i e).found)
    by_place None e = grown (locals p uri) (locals (with_local p uri x) uri) x (changed_within locals_in (and_local x) p.namespaces uri (x ∷ []) (λ n. refl) within)

uris_kept : (p : Partitions) (uri : ℕ) (x : List ℕ) → uris (after_local p uri x) ≡ uris p
uris_kept p uri x = by_place (least_place (locals p uri) x)
  where
    by_place : (o : Option ℕ) → uris (unless_found o p (with_local p uri x)) ≡ uris p
    by_place (Some i) = refl
    by_place None = uris_changed (and_local x) p.namespaces uri (λ n. refl)

-- ---- the texts of a name
pub record CanSpell (n : QName) : Type 0 where
  pub uri : can_be_spelled n.uri ≡ true
  pub local : can_be_spelled n.local ≡ true

texts_again : (p : Partitions) (id : NameId) (n : QName) → live_at (uris p) id.uri ≡ Some n.uri → live_at (locals p id.uri) id.local ≡ Some n.local → CanSpell n → can_be_named (texts_of p id) ≡ true
texts_again p id n u l can =
    let a : get_or (uris p) id.uri [] ≡ n.uri = get_or_from_slice_get (uris p) id.uri n.uri [] u in
    let b : get_or (locals p id.uri) id.local [] ≡ n.local = get_or_from_slice_get (locals p id.uri) id.local n.local [] l in
    rw (a, b, can.uri, can.local) refl

-- ---- as it was told
if_parts : {X : Type 0} (b : Bool) (x z : Piece X) → if_spelled b x ≡ Some z → (b ≡ true) × (x ≡ z)
if_parts {X} true x z e = (refl, cc)
if_parts {X} false x z e = absurd cc

text_is : (o : Option (List ℕ)) (x : List ℕ) → is_text o x ≡ true → o ≡ Some x
text_is None x h = absurd cc
text_is (Some y) x h = ap (λ (z : List ℕ). Some z) ((bytes_eq-Decides y x).0 h)

abbrev Again : Piece Named → Type 0
Again z = can_be_named (texts_of z.tables z.item.id) ≡ true

-- its local name under a URI that stands
under_again : (p : Partitions) (uri : ℕ) (n : QName) → live_at (uris p) uri ≡ Some n.uri → CanSpell n → can_be_named (texts_of (after_local p uri n.local) (named_under p uri n).id) ≡ true
under_again p uri n e can =
    let within : uri < length (uris p) = slice_get_within (uris p) uri n.uri e in
    let u : live_at (uris (after_local p uri n.local)) uri ≡ Some n.uri = ap (λ (z : List (List ℕ)). live_at z uri) (uris_kept p uri n.local) ∙ e in
    texts_again (after_local p uri n.local) (named_under p uri n).id n u (stands (locals (after_local p uri n.local) uri) n.local (local_holds p uri n.local within)) can

told_again : (g : Setting) (t : Telling) (n : QName) (p : Partitions) (z : Piece Named) → told_name g t n p ≡ Some z → Again z
told_again g spelled n p z e =
    let k = if_parts (can_name (prefixes g.options) p n) (record { item = named_for p n; bits = name_bits (prefixes g.options) (align_of g.options) p n; tables = after_name p n; units = name_units n }) z e in
    let a = and_parts (can_be_spelled n.uri) (can_be_spelled n.local && can_tell (prefixes g.options) (prefixes_for p n.uri) n.prefix) k.0 in
    let b = and_parts (can_be_spelled n.local) (can_tell (prefixes g.options) (prefixes_for p n.uri) n.prefix) a.1 in
    let q = after_uri p n.uri in
    subst Again k.1 (under_again q (space_for p n.uri) n (stands (uris q) n.uri (uri_holds p n.uri)) record { uri = a.0; local = b.0 })
told_again g (under uri) n p z e =
    let k = if_parts (can_know_under (prefixes g.options) p uri n) (record { item = named_under p uri n; bits = under_bits (prefixes g.options) (align_of g.options) p uri n.local n.prefix; tables = after_local p uri n.local; units = name_units n }) z e in
    let s = and_parts (stands_at (uris p) uri n.uri) (can_be_spelled n.uri && (can_be_spelled n.local && can_tell (prefixes g.options) (prefixes_at p uri) n.prefix)) k.0 in
    let a = and_parts (can_be_spelled n.uri) (can_be_spelled n.local && can_tell (prefixes g.options) (prefixes_at p uri) n.prefix) s.1 in
    let b = and_parts (can_be_spelled n.local) (can_tell (prefixes g.options) (prefixes_at p uri) n.prefix) a.1 in
    subst Again k.1 (under_again p uri n (text_is (live_at (uris p) uri) n.uri s.0) record { uri = a.0; local = b.0 })
told_again g (known id) n p z e =
    let k = if_parts (is_at p id n && can_know (prefixes g.options) p id n) (record { item = record { id = id; name = n }; bits = prefix_bits (prefixes g.options) (align_of g.options) p id.uri n.prefix; tables = p; units = name_units n }) z e in
    let s = and_parts (is_at p id n) (can_know (prefixes g.options) p id n) k.0 in
    let t = and_parts (stands_at (uris p) id.uri n.uri) (stands_at (locals p id.uri) id.local n.local) s.0 in
    let a = and_parts (can_be_spelled n.uri) (can_be_spelled n.local && can_tell (prefixes g.options) (prefixes_at p id.uri) n.prefix) s.1 in
    let b = and_parts (can_be_spelled n.local) (can_tell (prefixes g.options) (prefixes_at p id.uri) n.prefix) a.1 in
    subst Again k.1 (texts_again p id n (text_is (live_at (uris p) id.uri) n.uri t.0) (text_is (live_at (locals p id.uri) id.local) n.local t.1) record { uri = a.0; local = b.0 })

of_again : (g : Setting) (t : Telling) (o : Option QName) (p : Partitions) (z : Piece Named) → of o (told_name g t) p ≡ Some z → Again z
of_again g t None p z e = absurd cc
of_again g t (Some n) p z e = told_again g t n p z e

-- ---- behind an event
no_start : {P : Type 0} → false ≡ true → P
no_start e = absurd cc

sd_none : (a : Alone) → is_start (seen_in a event.sd) ≡ false
sd_none nowhere = refl
sd_none at_start = refl
sd_none at_first = refl
sd_none at_end = refl

ed_none : (a : Alone) → is_start (seen_in a event.ed) ≡ false
ed_none nowhere = refl
ed_none at_start = refl
ed_none at_first = refl
ed_none at_end = refl

learned_tables : (t : Telling) (use_of : Learned) (c : Config) → (learns_name t use_of c).tables ≡ c.tables
learned_tables spelled use_of c = refl
learned_tables (under uri) use_of c = refl
learned_tables (known id) use_of c = refl

rooted_tables : (a : Alone) (name : QName) (c : Config) → (rooted_in a name c).tables ≡ c.tables
rooted_tables nowhere name c = refl
rooted_tables at_start name c = refl
rooted_tables at_first name c = refl
rooted_tables at_end name c = refl

made_again : (g : Setting) (a : Alone) (c d : Config) (r : Rule) (t : Terminal) (e : Happening) (z : Piece (plan_on g a c r t).Item) → written_on g a c r t e c.tables ≡ Some z → d.tables ≡ z.tables → CanNameAgain (remembered ((plan_on g a c r t).make z.item d)).1
made_again g a c d r start_document e z h is = λ k. no_start (sym (sd_none a) ∙ k)
made_again g a c d r end_document e z h is = λ k. no_start (sym (ed_none a) ∙ k)
made_again g a c d r (element t) e z h is = λ k. (
    let tables : (learns_name t (used.Se z.item.id) (rooted_in a z.item.name d)).tables ≡ z.tables = learned_tables t (used.Se z.item.id) (rooted_in a z.item.name d) ∙ (rooted_tables a z.item.name d ∙ is) in
    ap (λ (p : Partitions). can_be_named (texts_of p z.item.id)) tables ∙ of_again g t (se_name e) c.tables z h
    )
made_again g a c d r (attribute t v) e z h is = λ k. no_start k
made_again g a c d r (characters i) e z h is = λ k. no_start k
made_again g a c d r end_element e z h is = λ k. no_start k
made_again g a c d r declaration e z h is = λ k. no_start k
made_again g a c d r self_contained e z h is = λ k. no_start k
made_again g a c d r comment e z h is = λ k. no_start k
made_again g a c d r instruction e z h is = λ k. no_start k
made_again g a c d r document_type e z h is = λ k. no_start k
made_again g a c d r entity e z h is = λ k. no_start k

pub written_again : (g : Setting) (c : Config) (e : Happening) (w : Written) → written g c e ≡ Ok w → CanNameAgain w.given.1
written_again g c e w h =
    let m = made g c e w h in
    let d : Config = further (record c { place = m.place }) m.bits (context m.meter m.piece.tables) in
    subst (λ (z : Given). CanNameAgain z.1) (sym m.given) (made_again g (alone_in c.elements c.outer) c d m.coded_rule.item m.coded_rule.item.on e m.piece m.spelled_so refl)

resumed_after : (bs : List Body) (c : Config) → (resumed bs c).after_start ≡ c.after_start
resumed_after [] c = refl
resumed_after (b ∷ bs) c = refl

-- behind a fragment that was taken no element has just begun
pub resumed_again : (bs : List Body) (c : Config) → c.after_start ≡ false → CanNameAgain (resumed bs c)
resumed_again bs c is = λ k. no_start (sym (resumed_after bs c ∙ is) ∙ k)

-- ---- at a fragment
-- the name that was put aside last
abbrev pub name_aside : List Body → QName
name_aside [] = record { uri = []; local = []; prefix = None }
name_aside (b ∷ bs) = b.name

stands_behind_start : (b : Bool) → (if b then None else Some kind.ScPlace) ≡ None → b ≡ true
stands_behind_start true h = refl
stands_behind_start false h = absurd cc

nothing_tables : (p : Partitions) (z : Piece (Unit {0})) → piece.as_bits tt [] p ≡ Some z → z.tables ≡ p
nothing_tables p z e = ap tables_of (sym e)
  where
    tables_of : Option (Piece (Unit {0})) → Partitions
    tables_of None = p
    tables_of (Some x) = x.tables

sc_again : (g : Setting) (a : Alone) (c d q : Config) (r : Rule) (t : Terminal) (b : ℕ) (z : Piece (plan_on g a c r t).Item) → written_on g a c r t (event.sc b) c.tables ≡ Some z → (plan_on g a c r t).misplaced ≡ None → d.tables ≡ z.tables → d.elements ≡ c.elements → put_aside g q ≡ (remembered ((plan_on g a c r t).make z.item d)).1
    → CanNameAgain c → can_be_named (texts_of q.tables (innermost q.elements)) ≡ true
sc_again g a c d q r self_contained b z h placed tables elements same again =
    let names : texts_of q.tables (innermost q.elements) ≡ texts_of d.tables (innermost d.elements) = ap (λ (k : Config). name_aside k.aside) same in
    let there : texts_of d.tables (innermost d.elements) ≡ texts_of c.tables (innermost c.elements) = rw (tables ∙ nothing_tables c.tables z h, elements) refl in
    ap can_be_named (names ∙ there) ∙ again (stands_behind_start c.after_start placed)
sc_again g a c d q r start_document b z h placed tables elements same again = absurd cc
sc_again g a c d q r end_document b z h placed tables elements same again = absurd cc
sc_again g a c d q r (element t) b z h placed tables elements same again = absurd cc
sc_again g a c d q r (attribute t v) b z h placed tables elements same again = absurd cc
sc_again g a c d q r (characters i) b z h placed tables elements same again = absurd cc
sc_again g a c d q r end_element b z h placed tables elements same again = absurd cc
sc_again g a c d q r declaration b z h placed tables elements same again = absurd cc
sc_again g a c d q r comment b z h placed tables elements same again = absurd cc
sc_again g a c d q r instruction b z h placed tables elements same again = absurd cc
sc_again g a c d q r document_type b z h placed tables elements same again = absurd cc
sc_again g a c d q r entity b z h placed tables elements same again = absurd cc

-- SC comes directly behind SE, so that the fragment's element has a name that can be written again
pub fragment_again : (g : Setting) (c q : Config) (b : ℕ) (w : Written) → CanNameAgain c → written g c (event.sc b) ≡ Ok w → w.given.1 ≡ put_aside g q → can_be_named (texts_of q.tables (innermost q.elements)) ≡ true
fragment_again g c q b w again h next =
    let m = chosen_of g c (event.sc b) w h in
    let d : Config = further (record c { place = m.place }) m.bits (context m.meter m.piece.tables) in
    sc_again g (alone_in c.elements c.outer) c d q m.rule m.rule.on b m.piece m.spelled_so m.placed refl refl (sym next ∙ ap (λ (z : Given). z.1) m.given) again
