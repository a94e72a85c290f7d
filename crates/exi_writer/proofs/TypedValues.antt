-- The value that stands for another under the datatype of its production is one alone.
use Rattle.std.proofs.Common.{◌≡◌, List, ℕ, Some, sym, ap, ◌∙◌, subst}
use Rattle.exi_gram.specs.Codes.{Coded}
use Rattle.exi_lexical.specs.Values.{value}
use Rattle.exi_names.specs.Datatypes.{Representation}
use Rattle.exi_names.specs.Events.{Happening}
use Rattle.exi_names.specs.Events as event
use Rattle.exi_names.specs.Seen.{Value}
use Rattle.exi_tables.specs.Partitions.{Partitions}
use Rattle.exi_typed.specs.Strings.{Named}
use Rattle.exi_processing.specs.Configurations.{Setting}
use Rattle.exi_processing.specs.Contents.{represented_by}
use Rattle.exi_processing.specs.Rules.{Rule, Telling, Terminal, Valuing, attribute, characters, comment, declaration, document_type, element, end_document, end_element, entity, instruction, self_contained, start_document}
use Rattle.exi_writing.specs.Pieces.{Piece}
use Rattle.exi_writer.specs.Same.{IsTypedBy, IsUnder, IsValueOf, TypedIsOne}

some_is : {X : Type 0} (x y : X) → Some x ≡ Some y → x ≡ y
some_is {X} x y e = cc

-- ---- the datatype
attribute_one : (g : Setting) (p : Partitions) (t : Telling) (w : Valuing) (e : Happening) (r s : Representation) → IsUnder g p (attribute t w) e r → IsUnder g p (attribute t w) e s → r ≡ s
attribute_one g p t w (event.at n x) r s h k =
    let same : h.0 ≡ k.0 = some_is h.0 k.0 (sym h.1 ∙ k.1) in
    h.2 ∙ (ap (λ (z : Piece Named). represented_by g w z.item) same ∙ sym k.2)
attribute_one g p t w event.sd r s h k = absurd h
attribute_one g p t w event.ed r s h k = absurd h
attribute_one g p t w (event.se n) r s h k = absurd h
attribute_one g p t w event.ee r s h k = absurd h
attribute_one g p t w (event.ch x) r s h k = absurd h
attribute_one g p t w (event.ns uri prefix own) r s h k = absurd h
attribute_one g p t w (event.sc byte) r s h k = absurd h
attribute_one g p t w (event.cm x) r s h k = absurd h
attribute_one g p t w (event.pi target x) r s h k = absurd h
attribute_one g p t w (event.dt n public system x) r s h k = absurd h
attribute_one g p t w (event.er n) r s h k = absurd h

under_one : (g : Setting) (p : Partitions) (t : Terminal) (e : Happening) (r s : Representation) → IsUnder g p t e r → IsUnder g p t e s → r ≡ s
under_one g p (attribute t w) e r s h k = attribute_one g p t w e r s h k
under_one g p (characters d) e r s h k = h ∙ sym k
under_one g p start_document e r s h k = absurd h
under_one g p end_document e r s h k = absurd h
under_one g p (element t) e r s h k = absurd h
under_one g p end_element e r s h k = absurd h
under_one g p declaration e r s h k = absurd h
under_one g p self_contained e r s h k = absurd h
under_one g p comment e r s h k = absurd h
under_one g p instruction e r s h k = absurd h
under_one g p document_type e r s h k = absurd h
under_one g p entity e r s h k = absurd h

-- ---- the value
value_one : (r s : Representation) (v u w : Value) → r ≡ s → IsValueOf r v u → IsValueOf s v w → u ≡ w
value_one r s v u w is h k =
    let text : h.0 ≡ k.0 = some_is h.0 k.0 (sym h.1 ∙ k.1) in
    let same : value r h.0 ≡ value s k.0 = ap (λ (z : Representation). value z h.0) is ∙ ap (λ (z : List ℕ). value s z) text in
    some_is u w (sym h.2 ∙ (same ∙ k.2))

by_one : (g : Setting) (p : Partitions) (t : Terminal) (e : Happening) (v u w : Value) → IsTypedBy g p t e v u → IsTypedBy g p t e v w → u ≡ w
by_one g p t e v u w h k = value_one h.0 k.0 v u w (under_one g p t e h.0 k.0 h.1 k.1) h.2 k.2

pub typed_one : TypedIsOne
typed_one g c e v u w h k =
    let same : h.0 ≡ k.0 = some_is h.0 k.0 (sym h.1 ∙ k.1) in
    by_one g c.tables k.0.item.on e v u w (subst (λ (z : Coded Rule). IsTypedBy g c.tables z.item.on e v u) same h.2) k.2
