-- What is read of one event that was written: the same, or none where it is a fragment's own.
use Rattle.std.proofs.Common.{◌≡◌, Bool, true, false, ℕ, zero, suc, List, [], ◌∷◌, slice_get, Option, Some, None, refl, sym, ap, subst}
use Rattle.exi_builtin.specs.Learning.{Learning}
use Rattle.exi_gram.specs.Codes.{Coded, coded}
use Rattle.exi_names.specs.Events.{Happening}
use Rattle.exi_names.specs.Seen.{Value}
use Rattle.exi_tables.specs.Partitions.{Partitions}
use Rattle.exi_processing.specs.Configurations.{Config, Setting, rules_in}
use Rattle.exi_processing.specs.Plans.{Alone, Given, alone_in, at_end, at_first, at_start, is_event, nowhere, plan_on}
use Rattle.exi_processing.specs.Rules.{Rule, Terminal, attribute, characters, comment, declaration, document_type, element, end_document, end_element, entity, instruction, self_contained, start_document}
use Rattle.exi_processing.specs.Spelled.{further}
use Rattle.exi_processing.specs.declared.frames.Element.{Element}
use Rattle.exi_processing.specs.declared.frames.Outer.{Outer}
use Rattle.exi_processing.specs.declared.frames.Outer.TheVariants as outer
use Rattle.exi_writing.specs.Contents.{written_on}
use Rattle.exi_writing.specs.Pieces.{Piece}
use Rattle.exi_writing.proofs.OneEvent.{context}
use Rattle.exi_writer.specs.Same.{IsSeen, IsTyped, IsTypedBy, OneIsSame, SeenWhere}
use Rattle.exi_writer.proofs.Choices.{chosen_of}
use Rattle.exi_writer.proofs.Sameness.{Seen, same_map, same_on}

seen_is : (Stands : Value → Value → Type 0) (e : Happening) (o : Option Happening) → Seen Stands e o → IsSeen Stands e o
seen_is Stands e o s = subst (IsSeen Stands e) (sym s.is) s.same

is_seen_map : (A B : Value → Value → Type 0) → ((v u : Value) → A v u → B v u) → (e : Happening) (o : Option Happening) → IsSeen A e o → IsSeen B e o
is_seen_map A B f e None h = h
is_seen_map A B f e (Some d) h = same_map A B f e d h

pub where_map : (A B : Value → Value → Type 0) → ((v u : Value) → A v u → B v u) → (b : Bool) (e : Happening) (o : Option Happening) → SeenWhere A b e o → SeenWhere B b e o
where_map A B f true e o h = is_seen_map A B f e o h
where_map A B f false e o h = h

-- ---- at the start of a fragment SD alone is there
coded_is : (x y : Coded Rule) → Some x ≡ Some y → x ≡ y
coded_is x y e = cc

abbrev first_code : Coded Rule
first_code = record { parts = 0 ∷ []; item = record { on = start_document; to = 1; inner = None } }

start_at : (index : ℕ) (x : Coded Rule) → slice_get (first_code ∷ []) index ≡ Some x → x.item.on ≡ start_document
start_at zero x h = ap (λ (z : Coded Rule). z.item.on) (sym (coded_is first_code x h))
start_at (suc index) x h = absurd cc

start_rule : (g : Setting) (l : Learning) (es : List Element) (o : Outer) (index : ℕ) (x : Coded Rule) → slice_get (coded (rules_in g l es o)) index ≡ Some x → alone_in es o ≡ at_start → x.item.on ≡ start_document
start_rule g l (e ∷ es) o index x h k = absurd cc
start_rule g l [] (outer.Book grammar number) index x h k = absurd cc
start_rule g l [] outer.FragmentStart index x h k = absurd cc
start_rule g l [] outer.FragmentContent index x h k = absurd cc
start_rule g l [] outer.AloneStart index x h k = start_at index x h
start_rule g l [] outer.AloneFirst index x h k = absurd cc
start_rule g l [] outer.AloneOver index x h k = absurd cc
start_rule g l [] outer.Ended index x h k = absurd cc

-- ---- every production
one_on : (g : Setting) (a : Alone) (c d : Config) (r : Rule) (t : Terminal) (e : Happening) (p : Partitions) (w : Piece (plan_on g a c r t).Item) → (a ≡ at_start → t ≡ start_document) → written_on g a c r t e p ≡ Some w → (plan_on g a c r t).barred ≡ None → (plan_on g a c r t).refused w.item ≡ None → SeenWhere (IsTypedBy g p t e) (is_event a) e ((plan_on g a c r t).make w.item d).0
one_on g nowhere c d r t e p w first h free fits = seen_is (IsTypedBy g p t e) e ((plan_on g nowhere c r t).make w.item d).0 (same_on g c d r t e p w h)
one_on g at_start c d r start_document e p w first h free fits = refl
one_on g at_start c d r end_document e p w first h free fits = absurd (let k = first refl in cc)
one_on g at_start c d r (element t) e p w first h free fits = absurd (let k = first refl in cc)
one_on g at_start c d r (attribute t u) e p w first h free fits = absurd (let k = first refl in cc)
one_on g at_start c d r (characters k) e p w first h free fits = absurd (let k = first refl in cc)
one_on g at_start c d r end_element e p w first h free fits = absurd (let k = first refl in cc)
one_on g at_start c d r declaration e p w first h free fits = absurd (let k = first refl in cc)
one_on g at_start c d r self_contained e p w first h free fits = absurd (let k = first refl in cc)
one_on g at_start c d r comment e p w first h free fits = absurd (let k = first refl in cc)
one_on g at_start c d r instruction e p w first h free fits = absurd (let k = first refl in cc)
one_on g at_start c d r document_type e p w first h free fits = absurd (let k = first refl in cc)
one_on g at_start c d r entity e p w first h free fits = absurd (let k = first refl in cc)
one_on g at_first c d r start_document e p w first h free fits = absurd cc
one_on g at_first c d r end_document e p w first h free fits = absurd cc
one_on g at_first c d r (element t) e p w first h free fits = refl
one_on g at_first c d r (attribute t u) e p w first h free fits = absurd cc
one_on g at_first c d r (characters k) e p w first h free fits = absurd cc
one_on g at_first c d r end_element e p w first h free fits = absurd cc
one_on g at_first c d r declaration e p w first h free fits = absurd cc
one_on g at_first c d r self_contained e p w first h free fits = absurd cc
one_on g at_first c d r comment e p w first h free fits = absurd cc
one_on g at_first c d r instruction e p w first h free fits = absurd cc
one_on g at_first c d r document_type e p w first h free fits = absurd cc
one_on g at_first c d r entity e p w first h free fits = absurd cc
one_on g at_end c d r start_document e p w first h free fits = absurd cc
one_on g at_end c d r end_document e p w first h free fits = refl
one_on g at_end c d r (element t) e p w first h free fits = absurd cc
one_on g at_end c d r (attribute t u) e p w first h free fits = absurd cc
one_on g at_end c d r (characters k) e p w first h free fits = absurd cc
one_on g at_end c d r end_element e p w first h free fits = absurd cc
one_on g at_end c d r declaration e p w first h free fits = absurd cc
one_on g at_end c d r self_contained e p w first h free fits = absurd cc
one_on g at_end c d r comment e p w first h free fits = absurd cc
one_on g at_end c d r instruction e p w first h free fits = absurd cc
one_on g at_end c d r document_type e p w first h free fits = absurd cc
one_on g at_end c d r entity e p w first h free fits = absurd cc

pub one_same : OneIsSame
one_same g c e w h =
    let m = chosen_of g c e w h in
    let a = alone_in c.elements c.outer in
    let d : Config = further (record c { place = m.place }) m.bits (context m.meter m.piece.tables) in
    let x : Coded Rule = record { parts = m.parts; item = m.rule } in
    let first : a ≡ at_start → m.rule.on ≡ start_document = λ k. start_rule g c.learned c.elements c.outer m.index x m.there k in
    let k = one_on g a c d m.rule m.rule.on e c.tables m.piece first m.spelled_so m.free m.fits in
    let typed : SeenWhere (IsTyped g c e) (is_event a) e ((plan_on g a c m.rule m.rule.on).make m.piece.item d).0 =
    where_map (IsTypedBy g c.tables m.rule.on e) (IsTyped g c e) (λ v u q. (x, m.is, q)) (is_event a) e ((plan_on g a c m.rule m.rule.on).make m.piece.item d).0 k in
    subst (λ (z : Given). SeenWhere (IsTyped g c e) (is_event a) e z.0) (sym m.given) typed
