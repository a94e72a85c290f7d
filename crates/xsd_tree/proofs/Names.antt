-- The name of the element `schema`.
use Rattle.std.proofs.Common.{◌≡◌, ℕ, Bool, true, false, ◌&&◌, List, refl, sym, ap, ◌∙◌, encode_utf8_all}
use Rattle.std.specs.Prelude.{codes}
use Rattle.std.specs.Str.{bytes_eq}
use Rattle.exi_names.specs.TextLaws.{spelled_same}
use Rattle.exi_names.specs.declared.names.QName.{QName}
use Rattle.xsd_tree.specs.Trees.{is_schema, xsd}

pub by_bytes : (t s bytes : List ℕ) (r : Bool) → bytes ≡ encode_utf8_all t → encode_utf8_all s ≡ s → r ≡ bytes_eq bytes s → r ≡ bytes_eq t s
by_bytes t s bytes r bytes_are ascii e =
    e ∙ ap (λ x. bytes_eq x s) bytes_are ∙ ap (λ y. bytes_eq (encode_utf8_all t) y) (sym ascii) ∙ spelled_same t s

pub xsd_ascii : encode_utf8_all xsd ≡ xsd
unfolding lib.Utf8.encode
xsd_ascii = refl

pub schema_ascii : encode_utf8_all (codes "schema") ≡ codes "schema"
unfolding lib.Utf8.encode
schema_ascii = refl

pub schema_then : (n : QName) (a b : Bool) → a ≡ true → a ≡ bytes_eq n.uri xsd → b ≡ bytes_eq n.local (codes "schema") → b ≡ is_schema n
schema_then n a b yes_is ea eb = eb ∙ ap (λ x. x && bytes_eq n.local (codes "schema")) (sym yes_is ∙ ea)

pub schema_else : (n : QName) (a : Bool) → a ≡ false → a ≡ bytes_eq n.uri xsd → a ≡ is_schema n
schema_else n a no_is ea = no_is ∙ ap (λ x. x && bytes_eq n.local (codes "schema")) (sym no_is ∙ ea)
