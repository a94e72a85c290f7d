-- The element that is open behind its SE has that name, and so has the fragment that SC begins there.
use Rattle.std.proofs.Common.{◌≡◌, ℕ, ◌<◌, Bool, true, false, ◌&&◌, List, [], ◌∷◌, ◌++◌, length, get_or, Option, Some, None, refl, sym, ap, ◌∙◌, subst}
use Rattle.std.specs.Prelude.{Ok, unwrap_or}
use Rattle.std.proofs.lemmas.Bool.{and_parts}
use Rattle.std.proofs.lemmas.List.{map-append}
use Rattle.std.proofs.lemmas.Option.{get_or_from_slice_get, slice_get_within}
use Rattle.std.proofs.lemmas.Slice.Eq.{bytes_eq-Decides}
use Rattle.std.specs.Str.{bytes_eq}
use Rattle.exi_builtin.specs.declared.learnable.Learned.{Learned}
use Rattle.exi_builtin.specs.declared.learnable.Learned.TheVariants as used
use Rattle.exi_gram.specs.Globals.{same_texts}
use Rattle.exi_gram.specs.Switches.{align_of, prefixes}
use Rattle.exi_names.specs.declared.names.NameId.{NameId}
use Rattle.exi_names.specs.declared.names.QName.{QName}
use Rattle.exi_names.specs.Events.{Happening}
use Rattle.exi_names.specs.Events as event
use Rattle.exi_processing.specs.Changes.{innermost, learns_name, texts_of}
use Rattle.exi_processing.specs.Configurations.{Config, Setting}
use Rattle.exi_processing.specs.OneEvent.{remembered}
use Rattle.exi_processing.specs.Plans.{Alone, Given, alone_in, at_end, at_first, at_start, nowhere, plan_on, rooted_in}
use Rattle.exi_processing.specs.Rules.{Rule, Telling, Terminal, attribute, characters, comment, declaration, document_type, element, end_document, end_element, entity, instruction, known, self_contained, spelled, start_document, under}
use Rattle.exi_processing.specs.Spelled.{further}
use Rattle.exi_tables.proofs.Growing.{changed_within, uris_changed}
use Rattle.exi_tables.proofs.Least.{least_found, least_none}
use Rattle.exi_tables.specs.Partitions.{Partitions, and_local, least_place, live_at, locals, locals_in, prefixes as prefixes_at, uris, with_local, with_uri}
use Rattle.exi_typed.specs.Strings.{Named, place_in}
use Rattle.exi_typed.specs.Written.{after_local, after_name, after_uri, name_bits, prefix_bits, space_for, under_bits, unless_found}
use Rattle.exi_typed.specs.WrittenLaws.{name_units, named_for}
use Rattle.exi_writing.specs.Contents.{told_name, written_on}
use Rattle.exi_writing.specs.OneEvent.{Written, written}
use Rattle.exi_writing.specs.Pieces as piece
use Rattle.exi_writing.specs.Pieces.{Piece, can_be_spelled, can_know, can_know_under, can_name, can_tell, if_spelled, is_at, is_text, named_under, stands_at}
use Rattle.exi_writing.specs.Runs.{Run, nothing_from, own, put, written_all}
use Rattle.exi_writing.proofs.OneEvent.{bind_parts, context}
use Rattle.exi_writer.proofs.Composed.{then_parts}
use Rattle.exi_writer.proofs.Moves.{made}
use Rattle.exi_writer.specs.Writing.{Composing, is_named}
use Rattle.exi_apart.specs.Parts.{NamedBehindStart}
use Rattle.exi_apart.proofs.Roots.{run_is}

-- ---- a text that stands in a list stands at its least place
at_the_end : (xs : List (List ℕ)) (x : List ℕ) → live_at (xs ++ x ∷ []) (length xs) ≡ Some x
at_the_end [] x = refl
at_the_end (y ∷ xs) x = at_the_end xs x

abbrev Holds : List (List ℕ) → List ℕ → Type 0
Holds xs x = (place : ℕ) × (live_at xs place ≡ Some x)

stands : (xs : List (List ℕ)) (x : List ℕ) → Holds xs x → live_at xs (place_in xs x) ≡ Some x
stands xs x h = by_place (least_place xs x) refl
  where
    by_place : (o : Option ℕ) → least_place xs x ≡ o → live_at xs (unwrap_or o 0) ≡ Some x
    by_place None e = absurd (least_none xs x h.0 e h.1)
    by_place (Some i) e = (least_found xs x i e).found

grown : (xs ys : List (List ℕ)) (x : List ℕ) → ys ≡ xs ++ x ∷ [] → Holds ys x
grown xs ys x e = (length xs, ap (λ (z : List (List ℕ)). live_at z (length xs)) e ∙ at_the_end xs x)

uri_holds : (p : Partitions) (x : List ℕ) → Holds (uris (after_uri p x)) x
uri_holds p x = by_place (least_place (uris p) x) refl
  where
    by_place : (o : Option ℕ) → least_place (uris p) x ≡ o → Holds (uris (unless_found o p (with_uri p x))) x
    by_place (Some i) e = (i, (least_found (uris p) x i e).found)
    by_place None e = grown (uris p) (uris (with_uri p x)) x (map-append (λ n. n.uri) p.namespaces (record { uri = x; locals = []; prefixes = [] } ∷ []))

local_holds : (p : Partitions) (uri : ℕ) (x : List ℕ) → uri < length (uris p) → Holds (locals (after_local p uri x) uri) x
local_holds p uri x within = by_place (least_place (locals p uri) x) refl
  where
    by_place : (o : Option ℕ) → least_place (locals p uri) x ≡ o → Holds (locals (unless_found o p (with_local p uri x)) uri) x
    by_place (Some i) e = (i, (least_found (locals p uri) x i e).found)
    by_place None e = grown (locals p uri) (locals (with_local p uri x) uri) x (changed_within locals_in (and_local x) p.namespaces uri (x ∷ []) (λ n. refl) within)

uris_kept : (p : Partitions) (uri : ℕ) (x : List ℕ) → uris (after_local p uri x) ≡ uris p
uris_kept p uri x = by_place (least_place (locals p uri) x)
  where
    by_place : (o : Option ℕ) → uris (unless_found o p (with_local p uri x)) ≡ uris p
    by_place (Some i) = refl
    by_place None = uris_changed (and_local x) p.namespaces uri (λ n. refl)

-- ---- the texts of a name that was told
bytes_same : (x : List ℕ) → bytes_eq x x ≡ true
bytes_same x = (bytes_eq-Decides x x).1 refl

texts_are : (p : Partitions) (id : NameId) (n : QName) → live_at (uris p) id.uri ≡ Some n.uri → live_at (locals p id.uri) id.local ≡ Some n.local → same_texts (texts_of p id) n ≡ true
texts_are p id n u l =
    let a : get_or (uris p) id.uri [] ≡ n.uri = get_or_from_slice_get (uris p) id.uri n.uri [] u in
    let b : get_or (locals p id.uri) id.local [] ≡ n.local = get_or_from_slice_get (locals p id.uri) id.local n.local [] l in
    rw (a, b, bytes_same n.uri, bytes_same n.local) refl

if_parts : {X : Type 0} (b : Bool) (x z : Piece X) → if_spelled b x ≡ Some z → (b ≡ true) × (x ≡ z)
if_parts {X} true x z e = (refl, cc)
if_parts {X} false x z e = absurd cc

text_is : (o : Option (List ℕ)) (x : List ℕ) → is_text o x ≡ true → o ≡ Some x
text_is None x h = absurd cc
text_is (Some y) x h = ap (λ (z : List ℕ). Some z) ((bytes_eq-Decides y x).0 h)

abbrev Tells : QName → Piece Named → Type 0
Tells n z = same_texts (texts_of z.tables z.item.id) n ≡ true

under_tells : (p : Partitions) (uri : ℕ) (n : QName) → live_at (uris p) uri ≡ Some n.uri → same_texts (texts_of (after_local p uri n.local) (named_under p uri n).id) n ≡ true
under_tells p uri n e =
    let within : uri < length (uris p) = slice_get_within (uris p) uri n.uri e in
    let u : live_at (uris (after_local p uri n.local)) uri ≡ Some n.uri = ap (λ (z : List (List ℕ)). live_at z uri) (uris_kept p uri n.local) ∙ e in
    texts_are (after_local p uri n.local) (named_under p uri n).id n u (stands (locals (after_local p uri n.local) uri) n.local (local_holds p uri n.local within))

told_tells : (g : Setting) (t : Telling) (n : QName) (p : Partitions) (z : Piece Named) → told_name g t n p ≡ Some z → Tells n z
told_tells g spelled n p z e =
    let k = if_parts (can_name (prefixes g.options) p n) (record { item = named_for p n; bits = name_bits (prefixes g.options) (align_of g.options) p n; tables = after_name p n; units = name_units n }) z e in
    let q = after_uri p n.uri in
    subst (Tells n) k.1 (under_tells q (space_for p n.uri) n (stands (uris q) n.uri (uri_holds p n.uri)))
told_tells g (under uri) n p z e =
    let k = if_parts (can_know_under (prefixes g.options) p uri n) (record { item = named_under p uri n; bits = under_bits (prefixes g.options) (align_of g.options) p uri n.local n.prefix; tables = after_local p uri n.local; units = name_units n }) z e in
    let s = and_parts (stands_at (uris p) uri n.uri) (can_be_spelled n.uri && (can_be_spelled n.local && can_tell (prefixes g.options) (prefixes_at p uri) n.prefix)) k.0 in
    subst (Tells n) k.1 (under_tells p uri n (text_is (live_at (uris p) uri) n.uri s.0))
told_tells g (known id) n p z e =
    let k = if_parts (is_at p id n && can_know (prefixes g.options) p id n) (record { item = record { id = id; name = n }; bits = prefix_bits (prefixes g.options) (align_of g.options) p id.uri n.prefix; tables = p; units = name_units n }) z e in
    let s = and_parts (is_at p id n) (can_know (prefixes g.options) p id n) k.0 in
    let t = and_parts (stands_at (uris p) id.uri n.uri) (stands_at (locals p id.uri) id.local n.local) s.0 in
    subst (Tells n) k.1 (texts_are p id n (text_is (live_at (uris p) id.uri) n.uri t.0) (text_is (live_at (locals p id.uri) id.local) n.local t.1))

-- ---- behind SE
record IsOpen (name : QName) (c : Config) : Type 0 where
  named : same_texts (texts_of c.tables (innermost c.elements)) name ≡ true
  alone : own c ≡ []

learned_tables : (t : Telling) (use_of : Learned) (c : Config) → (learns_name t use_of c).tables ≡ c.tables
learned_tables spelled use_of c = refl
learned_tables (under uri) use_of c = refl
learned_tables (known id) use_of c = refl

rooted_tables : (a : Alone) (name : QName) (c : Config) → (rooted_in a name c).tables ≡ c.tables
rooted_tables nowhere name c = refl
rooted_tables at_start name c = refl
rooted_tables at_first name c = refl
rooted_tables at_end name c = refl

made_open : (g : Setting) (a : Alone) (c d : Config) (r : Rule) (t : Terminal) (n : QName) (z : Piece (plan_on g a c r t).Item) → written_on g a c r t (event.se n) c.tables ≡ Some z → d.tables ≡ z.tables → IsOpen n (remembered ((plan_on g a c r t).make z.item d)).1
made_open g a c d r (element t) n z h is =
    let tables : (learns_name t (used.Se z.item.id) (rooted_in a z.item.name d)).tables ≡ z.tables = learned_tables t (used.Se z.item.id) (rooted_in a z.item.name d) ∙ (rooted_tables a z.item.name d ∙ is) in
    record { named = ap (λ (p : Partitions). same_texts (texts_of p z.item.id) n) tables ∙ told_tells g t n c.tables z h; alone = refl }
made_open g a c d r start_document n z h is = absurd cc
made_open g a c d r end_document n z h is = absurd cc
made_open g a c d r (attribute t v) n z h is = absurd cc
made_open g a c d r (characters i) n z h is = absurd cc
made_open g a c d r end_element n z h is = absurd cc
made_open g a c d r declaration n z h is = absurd cc
made_open g a c d r self_contained n z h is = absurd cc
made_open g a c d r comment n z h is = absurd cc
made_open g a c d r instruction n z h is = absurd cc
made_open g a c d r document_type n z h is = absurd cc
made_open g a c d r entity n z h is = absurd cc

start_open : (g : Setting) (c : Config) (n : QName) (v : Written) → written g c (event.se n) ≡ Ok v → IsOpen n v.given.1
start_open g c n v h =
    let m = made g c (event.se n) v h in
    let d : Config = further (record c { place = m.place }) m.bits (context m.meter m.piece.tables) in
    subst (λ (z : Given). IsOpen n z.1) (sym m.given) (made_open g (alone_in c.elements c.outer) c d m.coded_rule.item m.coded_rule.item.on n m.piece m.spelled_so refl)

-- ---- behind SC
nothing_tables : (p : Partitions) (z : Piece (Unit {0})) → piece.as_bits tt [] p ≡ Some z → z.tables ≡ p
nothing_tables p z e = ap tables_of (sym e)
  where
    tables_of : Option (Piece (Unit {0})) → Partitions
    tables_of None = p
    tables_of (Some x) = x.tables

made_named : (g : Setting) (a : Alone) (c d : Config) (r : Rule) (t : Terminal) (b : ℕ) (n : QName) (z : Piece (plan_on g a c r t).Item) → written_on g a c r t (event.sc b) c.tables ≡ Some z → d.tables ≡ z.tables → d.elements ≡ c.elements → IsOpen n c → is_named (remembered ((plan_on g a c r t).make z.item d)).1.aside n ≡ true
made_named g a c d r self_contained b n z h tables elements k =
    let there : texts_of d.tables (innermost d.elements) ≡ texts_of c.tables (innermost c.elements) = rw (tables ∙ nothing_tables c.tables z h, elements) refl in
    ap (λ (x : QName). same_texts x n) there ∙ k.named
made_named g a c d r (element t) b n z h tables elements k = absurd cc
made_named g a c d r start_document b n z h tables elements k = absurd cc
made_named g a c d r end_document b n z h tables elements k = absurd cc
made_named g a c d r (attribute t v) b n z h tables elements k = absurd cc
made_named g a c d r (characters i) b n z h tables elements k = absurd cc
made_named g a c d r end_element b n z h tables elements k = absurd cc
made_named g a c d r declaration b n z h tables elements k = absurd cc
made_named g a c d r comment b n z h tables elements k = absurd cc
made_named g a c d r instruction b n z h tables elements k = absurd cc
made_named g a c d r document_type b n z h tables elements k = absurd cc
made_named g a c d r entity b n z h tables elements k = absurd cc

begin_named : (g : Setting) (c : Config) (b : ℕ) (n : QName) (v : Written) → written g c (event.sc b) ≡ Ok v → IsOpen n c → is_named v.given.1.aside n ≡ true
begin_named g c b n v h k =
    let m = made g c (event.sc b) v h in
    let d : Config = further (record c { place = m.place }) m.bits (context m.meter m.piece.tables) in
    ap (λ (z : Given). is_named z.1.aside n) m.given ∙ made_named g (alone_in c.elements c.outer) c d m.coded_rule.item m.coded_rule.item.on b n m.piece m.spelled_so refl refl k

-- ---- one behind the other
put_open : (g : Setting) (c : Config) (n : QName) (r : Run) → put g c (event.se n) ≡ Ok r → IsOpen n r.last
unfolding put
put_open g c n r h =
    let a = bind_parts (written g c (event.se n)) _ r h in
    let v = a.0 in
    let k = start_open g c n v a.1 in
    let t = then_parts v (written_all g v.given.1 (own v.given.1)) r a.2 in
    let none : nothing_from v.given.1 ≡ t.0 = run_is (nothing_from v.given.1) t.0 (subst (λ (es : List Happening). written_all g v.given.1 es ≡ Ok t.0) k.alone t.1) in
    let last : v.given.1 ≡ r.last = ap (λ (x : Run). x.last) none ∙ sym (ap (λ (x : Run). x.last) t.2) in
    subst (IsOpen n) last k

all_named : (g : Setting) (c : Config) (b : ℕ) (n : QName) (r : Run) → written_all g c (event.sc b ∷ []) ≡ Ok r → IsOpen n c → is_named r.last.aside n ≡ true
all_named g c b n r h k =
    let a = bind_parts (written g c (event.sc b)) _ r h in
    let v = a.0 in
    let t = then_parts v (written_all g v.given.1 []) r a.2 in
    let none : nothing_from v.given.1 ≡ t.0 = run_is (nothing_from v.given.1) t.0 t.1 in
    let last : v.given.1 ≡ r.last = ap (λ (x : Run). x.last) none ∙ sym (ap (λ (x : Run). x.last) t.2) in
    subst (λ (d : Config). is_named d.aside n ≡ true) last (begin_named g c b n v a.1 k)

pub named_behind_start : NamedBehindStart
named_behind_start before behind w n b h k =
    let there : IsOpen n behind.config = subst (λ (z : Composing). IsOpen n z.config) (sym h.0.2) (put_open before.setting before.config n h.0.0 h.0.1) in
    let named = all_named behind.setting behind.config b n k.0.0 k.0.1 there in
    subst (λ (z : Composing). is_named z.config.aside n ≡ true) (sym k.0.2) named
