-- Words of text.
use Rattle.std.proofs.Common.{◌≡◌, ℕ, ◌+◌, ◌<◌, ◌≤◌, length, get_or, Bor, Bool, true, false, cond, ◌&&◌, Option, Some, None, List, [], ◌∷◌, map, drop, refl, sym, ap, ◌∙◌, encode_utf8_all}
use Rattle.std.specs.Str.{IsUtf8, bytes_eq, chars}
use Rattle.std.proofs.lemmas.List.{drop-map, drop_all, drop_more}
use Rattle.std.proofs.lemmas.Str.{encodes-chars}
use Rattle.exi_names.specs.TextLaws.{spelled_same}
use Rattle.xsd_tree.specs.Trees.{xsd}
use Rattle.xsd_nodes.specs.AttributeNames.{attribute_word}
use Rattle.xsd_nodes.specs.PartNames.{part_among, part_words}
use Rattle.xsd_nodes.specs.declared.attribute_name.AttributeName.{AttributeName}
use Rattle.xsd_nodes.specs.declared.attribute_name.AttributeName.TheVariants as attribute
use Rattle.xsd_nodes.specs.declared.part.Part.{Part}
use Rattle.xsd_nodes.specs.declared.part.Part.TheVariants as part

pub word_same : (t bytes word : List ℕ) (r : Bool) → bytes ≡ encode_utf8_all t → IsUtf8 word → r ≡ bytes_eq bytes word → r ≡ bytes_eq t (chars word)
word_same t bytes word r b u e =
    e ∙ ap (λ x. bytes_eq x word) b ∙ ap (λ y. bytes_eq (encode_utf8_all t) y) (sym (encodes-chars word u)) ∙ spelled_same t (chars word)

pub no_chars : chars [] ≡ []
unfolding chars
no_chars = refl

pub xsd_chars : chars xsd ≡ xsd
unfolding chars
xsd_chars = refl

pub word_chars : (name : AttributeName) → chars (attribute_word name) ≡ attribute_word name
unfolding chars
word_chars attribute.AttributeFormDefault = refl
word_chars attribute.Base = refl
word_chars attribute.ElementFormDefault = refl
word_chars attribute.Form = refl
word_chars attribute.ItemType = refl
word_chars attribute.MaxOccurs = refl
word_chars attribute.MemberTypes = refl
word_chars attribute.MinOccurs = refl
word_chars attribute.Mixed = refl
word_chars attribute.Name = refl
word_chars attribute.Namespace = refl
word_chars attribute.Nillable = refl
word_chars attribute.Ref = refl
word_chars attribute.SubstitutionGroup = refl
word_chars attribute.TargetNamespace = refl
word_chars attribute.Type = refl
word_chars attribute.Use = refl
word_chars attribute.Value = refl

-- a word as its characters, and what it stands for
abbrev pub Spelling : Type 0
Spelling = Bor (List ℕ) × Part

abbrev pub spelled : Spelling → List ℕ × Part
spelled w = (chars w.0.now, w.1)

-- the words from a place on
pub words_at : (words : List Spelling) (place : ℕ) (d : Spelling) → map spelled words ≡ part_words → place < length words → drop place part_words ≡ spelled (get_or words place d) ∷ drop (place + 1) part_words
words_at words place d m less =
    ap (drop place) (sym m)
    ∙ drop-map spelled place words
    ∙ ap (map spelled) (drop_more words place d less)
    ∙ ap (λ t. spelled (get_or words place d) ∷ t) (sym (drop-map spelled (place + 1) words) ∙ ap (drop (place + 1)) m)

-- the word at a place is the name
pub part_found : (d : Spelling) (name : List ℕ) (words : List Spelling) (place : ℕ) (r : Bool) (all : Part) → map spelled words ≡ part_words → place < length words → r ≡ true → r ≡ bytes_eq name (chars (get_or words place d).0.now) → part_among name (drop place part_words) ≡ all → (get_or words place d).1 ≡ all
part_found d name words place r all m less yes_is e q =
    ap (λ b. cond b (get_or words place d).1 (part_among name (drop (place + 1) part_words))) (sym yes_is ∙ e)
    ∙ ap (part_among name) (sym (words_at words place d m less))
    ∙ q

-- it is another
pub part_passed : (d : Spelling) (name : List ℕ) (words : List Spelling) (place : ℕ) (r : Bool) (all : Part) → map spelled words ≡ part_words → place < length words → r ≡ false → r ≡ bytes_eq name (chars (get_or words place d).0.now) → part_among name (drop place part_words) ≡ all → part_among name (drop (place + 1) part_words) ≡ all
part_passed d name words place r all m less no_is e q =
    ap (λ b. cond b (get_or words place d).1 (part_among name (drop (place + 1) part_words))) (sym no_is ∙ e)
    ∙ ap (part_among name) (sym (words_at words place d m less))
    ∙ q

-- no word is
pub part_ended : (name : List ℕ) (words : List Spelling) (place : ℕ) (all : Part) → map spelled words ≡ part_words → length words ≤ place → part_among name (drop place part_words) ≡ all → part.Other ≡ all
part_ended name words place all m le q =
    ap (part_among name) (sym (ap (drop place) (sym m) ∙ drop-map spelled place words ∙ ap (map spelled) (drop_all place words le))) ∙ q
