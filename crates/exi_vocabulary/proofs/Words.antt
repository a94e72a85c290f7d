-- Words of text, and the texts that every schema has.
use Rattle.std.proofs.Common.{◌≡◌, ℕ, Bool, true, false, cond, IfOk, Result, Ok, Err, List, [], map, refl, sym, ap, ◌∙◌, encode_utf8_all}
use Rattle.std.specs.Prelude.{codes}
use Rattle.std.specs.Str.{IsUtf8, bytes_eq, chars}
use Rattle.std.proofs.lemmas.Str.{encodes-chars}
use Rattle.exi_names.specs.StartTables.{xml_names, xsi_names}
use Rattle.exi_names.specs.TextLaws.{spelled_same}
use Rattle.exi_vocabulary.specs.Collected.{with_texts}
use Rattle.exi_vocabulary.specs.declared.tables.TheConstants.{KNOWN_URIS, XML, XML_NAMES, XSI, XSI_NAMES}
use Rattle.exi_vocabulary.specs.FirstNames.{known_locals, known_uris}

pub word_same : (t bytes word : List ℕ) (r : Bool) → bytes ≡ encode_utf8_all t → IsUtf8 word → r ≡ bytes_eq bytes word → r ≡ bytes_eq t (chars word)
word_same t bytes word r b u e =
    e ∙ ap (λ x. bytes_eq x word) b ∙ ap (λ y. bytes_eq (encode_utf8_all t) y) (sym (encodes-chars word u)) ∙ spelled_same t (chars word)

abbrev pub xml : List ℕ
xml = codes "http://www.w3.org/XML/1998/namespace"

abbrev pub xsi : List ℕ
xsi = codes "http://www.w3.org/2001/XMLSchema-instance"

pub xml_chars : chars XML.now ≡ xml
unfolding chars
xml_chars = refl

pub xsi_chars : chars XSI.now ≡ xsi
unfolding chars
xsi_chars = refl

pub uris_are : with_texts [] (map (λ t. chars t.now) KNOWN_URIS) ≡ known_uris
unfolding chars
uris_are = refl

pub xml_names_are : with_texts [] (map (λ t. chars t.now) XML_NAMES) ≡ xml_names
unfolding chars
xml_names_are = refl

pub xsi_names_are : with_texts [] (map (λ t. chars t.now) XSI_NAMES) ≡ xsi_names
unfolding chars
xsi_names_are = refl

pub is_xml : (uri : List ℕ) (r b : Bool) → r ≡ bytes_eq uri (chars XML.now) → r ≡ b → bytes_eq uri xml ≡ b
is_xml uri r b e h = ap (bytes_eq uri) (sym xml_chars) ∙ sym e ∙ h

pub is_xsi : (uri : List ℕ) (r b : Bool) → r ≡ bytes_eq uri (chars XSI.now) → r ≡ b → bytes_eq uri xsi ≡ b
is_xsi uri r b e h = ap (bytes_eq uri) (sym xsi_chars) ∙ sym e ∙ h

-- what is made is the same as another
pub same_ok : {X E : Type 0} (a b : X) (r : Result X E) → a ≡ b → IfOk r (λ x. x ≡ a) → IfOk r (λ x. x ≡ b)
same_ok a b (Ok x) e h = h ∙ e
same_ok a b (Err f) e h = tt

-- by whether the URI is one of the two
pub known_first : (uri : List ℕ) → bytes_eq uri xml ≡ true → known_locals uri ≡ xml_names
known_first uri e = ap (λ b. cond b xml_names (cond (bytes_eq uri xsi) xsi_names [])) e

pub known_second : (uri : List ℕ) → bytes_eq uri xml ≡ false → bytes_eq uri xsi ≡ true → known_locals uri ≡ xsi_names
known_second uri e h = ap (λ b. cond b xml_names (cond (bytes_eq uri xsi) xsi_names [])) e ∙ ap (λ b. cond b xsi_names []) h

pub known_none : (uri : List ℕ) → bytes_eq uri xml ≡ false → bytes_eq uri xsi ≡ false → known_locals uri ≡ []
known_none uri e h = ap (λ b. cond b xml_names (cond (bytes_eq uri xsi) xsi_names [])) e ∙ ap (λ b. cond b xsi_names []) h
