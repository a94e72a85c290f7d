-- Words as their characters.
use Rattle.std.proofs.Common.{◌≡◌, ℕ, Bool, true, false, cond, Option, Some, None, List, [], refl, sym, ap, ◌∙◌}
use Rattle.std.specs.Str.{bytes_eq, chars}
use Rattle.xsd_tree.specs.declared.node.Node.{Node}
use Rattle.xsd_nodes.specs.Nodes.{outwards}
use Rattle.xsd_names.specs.Names.{or_no_namespace, uri_along, uri_of, xml, xml_namespace}

pub no_chars : chars [] ≡ []
unfolding chars
no_chars = refl

pub xml_chars : chars xml ≡ xml
unfolding chars
xml_chars = refl

pub namespace_chars : chars xml_namespace ≡ xml_namespace
unfolding chars
namespace_chars = refl

-- no prefix at all, or some
pub no_prefix : (prefix t : List ℕ) (r : Bool) → t ≡ [] → r ≡ true → r ≡ bytes_eq prefix (chars []) → Some t ≡ or_no_namespace prefix None
no_prefix prefix t r t_is yes_is e =
    let empty : Option (List ℕ) = Some [] in
    ap (λ (x : List ℕ). Some x) t_is ∙ ap (λ b. cond b empty None) (sym yes_is ∙ e ∙ ap (bytes_eq prefix) no_chars)

pub some_prefix : (prefix : List ℕ) (r : Bool) → r ≡ false → r ≡ bytes_eq prefix (chars []) → None ≡ or_no_namespace prefix None
some_prefix prefix r no_is e =
    let empty : Option (List ℕ) = Some [] in
    ap (λ b. cond b empty None) (sym no_is ∙ e ∙ ap (bytes_eq prefix) no_chars)

-- the prefix is `xml`, or another
pub xml_prefix : (ns : List Node) (i : ℕ) (prefix uri : List ℕ) (r : Bool) → uri ≡ chars xml_namespace → r ≡ true → r ≡ bytes_eq prefix (chars xml) → Some uri ≡ uri_of ns i prefix
xml_prefix ns i prefix uri r uri_is yes_is e =
    ap (λ (x : List ℕ). Some x) (uri_is ∙ namespace_chars)
    ∙ ap (λ b. cond b (Some xml_namespace) (or_no_namespace prefix (uri_along prefix ns (outwards ns i)))) (sym yes_is ∙ e ∙ ap (bytes_eq prefix) xml_chars)

pub other_prefix : (ns : List Node) (i : ℕ) (prefix : List ℕ) (u : Option (List ℕ)) (r : Bool) → r ≡ false → r ≡ bytes_eq prefix (chars xml) → u ≡ or_no_namespace prefix (uri_along prefix ns (outwards ns i)) → u ≡ uri_of ns i prefix
other_prefix ns i prefix u r no_is e u_is =
    u_is ∙ ap (λ b. cond b (Some xml_namespace) (or_no_namespace prefix (uri_along prefix ns (outwards ns i)))) (sym no_is ∙ e ∙ ap (bytes_eq prefix) xml_chars)
