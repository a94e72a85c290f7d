-- Whether a name has a spelling is told by the tables as they are before it is written.
use Rattle.std.proofs.Common.{◌≡◌, ℕ, Bool, true, false, Bor, List, [], length, Option, Some, None, refl, sym, ap, ◌∙◌, arith}
use Rattle.std.specs.Prelude.{not, unwrap_or}
use Rattle.std.specs.Option.{is_none, is_some, option_copied}
use Rattle.exi_names.specs.declared.names.QName.{QName}
use Rattle.exi_tables.specs.Partitions.{Partitions, least_place, prefixes, uris, with_uri}
use Rattle.exi_typed.specs.Strings.{place_in}
use Rattle.exi_typed.specs.Written.{after_uri, unless_found}
use Rattle.exi_typed.proofs.NewSpaces.{past_uris, prefixes_in_context, uri_ends}
use Rattle.exi_writing.specs.Pieces.{can_be_spelled, can_name, can_tell, prefixes_for}

-- a new URI has no prefixes
new_prefixes : (p : Partitions) (x : List ℕ) → least_place (uris p) x ≡ None → prefixes_for p x ≡ []
new_prefixes p x e =
    let after : after_uri p x ≡ with_uri p x = ap (λ (o : Option ℕ). unless_found o p (with_uri p x)) e in
    let place : place_in (uris (with_uri p x)) x ≡ length (uris p) = sym (uri_ends p x (length (uris p)) (sym (ap (λ (o : Option ℕ). unwrap_or o (length (uris p))) e))).least in
    ap (λ (q : Partitions). prefixes q (place_in (uris q) x)) after ∙ ap (prefixes (with_uri p x)) place ∙ prefixes_in_context p x (length (uris p)) ∙ (past_uris p (length (uris p)) (omega arith)).1

tells_none : (keep : Bool) (x : Option (List ℕ)) → can_tell keep [] x ≡ is_none x
tells_none false x = refl
tells_none true None = refl
tells_none true (Some x) = refl

-- a text that is lent is there where it is
pub absent : (o : Option (Bor (List ℕ))) (b : Bool) → is_some o ≡ not b → b ≡ is_none (option_copied o)
absent None true e = refl
absent None false e = absurd cc
absent (Some x) true e = absurd cc
absent (Some x) false e = refl

pub named_new : (keep : Bool) (p : Partitions) (n : QName) (b : Bool) → can_be_spelled n.uri ≡ true → can_be_spelled n.local ≡ true → least_place (uris p) n.uri ≡ None → b ≡ is_none n.prefix → b ≡ can_name keep p n
named_new keep p n b u l e is = is ∙ sym (tells_none keep n.prefix) ∙ ap (λ (texts : List (List ℕ)). can_tell keep texts n.prefix) (sym (new_prefixes p n.uri e)) ∙ sym (rw (u, l) refl)
