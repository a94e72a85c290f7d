-- Without a schema a value that is no name is read as its canonical text.
use Rattle.std.proofs.Common.{◌≡◌, inl, inr, Bool, List, [], ◌∷◌, Some, ◌∙◌, subst}
use Rattle.std.proofs.lemmas.Bool.{cases_Bool}
use Rattle.exi_builtin.specs.Learning.{is_type}
use Rattle.exi_gram.specs.Books.{IsPlainBook}
use Rattle.exi_gram.specs.Codes.{coded}
use Rattle.exi_gram.specs.Switches.{prefixes}
use Rattle.exi_lexical.specs.Values.{value}
use Rattle.exi_names.specs.Datatypes.{Representation}
use Rattle.exi_names.specs.Datatypes as datatype
use Rattle.exi_names.specs.Events.{Happening}
use Rattle.exi_names.specs.Events as event
use Rattle.exi_names.specs.Seen.{Value}
use Rattle.exi_names.specs.Seen as shape
use Rattle.exi_tables.specs.Partitions.{Partitions}
use Rattle.exi_typed.specs.Strings.{Named}
use Rattle.exi_processing.specs.Configurations.{Config, Setting, first_config, rules_of}
use Rattle.exi_processing.specs.Contents.{represented_by}
use Rattle.exi_processing.specs.Plans.{alone_in, is_event}
use Rattle.exi_processing.specs.Rules.{Telling, Terminal, Valuing, attribute, characters, comment, declaration, document_type, element, end_document, end_element, entity, instruction, self_contained, start_document, untyped}
use Rattle.exi_processing.specs.Runs.{events_of}
use Rattle.exi_processing.specs.declared.start.Start.TheVariants as start
use Rattle.exi_writing.specs.OneEvent.{matches}
use Rattle.exi_writing.proofs.OneEvent.{fewest_stands}
use Rattle.exi_writer.specs.Same.{AreSame, AreSameText, IsText, IsTyped, IsTypedBy, IsValueOf, ListIsSameText, OneIsSameText, pruned_list}
use Rattle.exi_writer.proofs.PlainRules.{IsPlainOn, plain_at}
use Rattle.exi_writer.proofs.SameLists.{list_same}
use Rattle.exi_writer.proofs.SameOne.{one_same, where_map}
use Rattle.exi_writer.proofs.Sameness.{same_map}

-- ---- one value
value_is : (v u : Value) → Some v ≡ Some u → u ≡ v
value_is v u e = cc

text_is : (r : Representation) (v u : Value) → r ≡ datatype.text → IsValueOf r v u → IsText v u
unfolding value
text_is r v u is h =
    let k : value datatype.text h.0 ≡ Some u = subst (λ (z : Representation). value z h.0 ≡ Some u) is h.2 in
    (h.0, h.1, value_is (shape.text h.0) u k)

-- no text has a name as its value
no_name : (keep : Bool) (r : Representation) (v u : Value) → r ≡ datatype.name keep → IsValueOf r v u → IsText v u
unfolding value
no_name keep r v u is h =
    let k : value (datatype.name keep) h.0 ≡ Some u = subst (λ (z : Representation). value z h.0 ≡ Some u) is h.2 in
    absurd cc

untyped_text : (g : Setting) (w : Valuing) (name : Named) (r : Representation) (v u : Value) → w ≡ untyped → r ≡ represented_by g w name → IsValueOf r v u → IsText v u
untyped_text g w name r v u plain is h =
    let by : r ≡ represented_by g untyped name = subst (λ (z : Valuing). r ≡ represented_by g z name) plain is in
    elim (cases_Bool (is_type name.id)) [
      | inl k ↦ no_name (prefixes g.options) r v u (rw k at by) h
      | inr k ↦ text_is r v u (rw k at by) h
    ]

-- ---- of an event
attribute_text : (g : Setting) (p : Partitions) (t : Telling) (w : Valuing) (e : Happening) (v u : Value) → w ≡ untyped → IsTypedBy g p (attribute t w) e v u → IsText v u
attribute_text g p t w (event.at n x) v u plain h = untyped_text g w h.1.0.item h.0 v u plain h.1.2 h.2
attribute_text g p t w event.sd v u plain h = absurd h.1
attribute_text g p t w event.ed v u plain h = absurd h.1
attribute_text g p t w (event.se n) v u plain h = absurd h.1
attribute_text g p t w event.ee v u plain h = absurd h.1
attribute_text g p t w (event.ch x) v u plain h = absurd h.1
attribute_text g p t w (event.ns uri prefix own) v u plain h = absurd h.1
attribute_text g p t w (event.sc byte) v u plain h = absurd h.1
attribute_text g p t w (event.cm x) v u plain h = absurd h.1
attribute_text g p t w (event.pi target x) v u plain h = absurd h.1
attribute_text g p t w (event.dt n public system x) v u plain h = absurd h.1
attribute_text g p t w (event.er n) v u plain h = absurd h.1

by_text : (g : Setting) (p : Partitions) (t : Terminal) (e : Happening) (v u : Value) → IsPlainOn t → IsTypedBy g p t e v u → IsText v u
by_text g p (attribute t w) e v u plain h = attribute_text g p t w e v u plain h
by_text g p (characters d) e v u plain h = text_is h.0 v u (h.1 ∙ plain) h.2
by_text g p start_document e v u plain h = absurd h.1
by_text g p end_document e v u plain h = absurd h.1
by_text g p (element t) e v u plain h = absurd h.1
by_text g p end_element e v u plain h = absurd h.1
by_text g p declaration e v u plain h = absurd h.1
by_text g p self_contained e v u plain h = absurd h.1
by_text g p comment e v u plain h = absurd h.1
by_text g p instruction e v u plain h = absurd h.1
by_text g p document_type e v u plain h = absurd h.1
by_text g p entity e v u plain h = absurd h.1

typed_text : (g : Setting) → IsPlainBook g → (c : Config) (e : Happening) (v u : Value) → IsTyped g c e v u → IsText v u
typed_text g book c e v u h =
    let s = fewest_stands (matches g c e) (coded (rules_of g c)) h.0 h.1 in
    by_text g c.tables h.0.item.on e v u (plain_at g book c s.place h.0 s.there) h.2

pub one_same_text : OneIsSameText
one_same_text g c e w book h = where_map (IsTyped g c e) IsText (typed_text g book c e) (is_event (alone_in c.elements c.outer)) e w.given.0 (one_same g c e w h)

-- ---- of a list
are_text : (g : Setting) → IsPlainBook g → (c : Config) (es ds : List Happening) → AreSame g c es ds → AreSameText es ds
are_text g book c [] ds h = h
are_text g book c (e ∷ es) [] h = h
are_text g book c (e ∷ es) (d ∷ ds) h = (same_map (IsTyped g c e) IsText (typed_text g book c e) e d h.0, are_text g book h.1.last es ds h.3)

pub list_same_text : ListIsSameText
list_same_text g bits limits es r book h = are_text g book (first_config g bits start.Body limits) (pruned_list g.options es) (events_of r.events) (list_same g bits limits es r h)
