-- Symbols are the same exactly where the test of them says so; so it decides between keys, and keys that are alike feed a hash
-- alike.
use Rattle.std.specs.Prelude.{◌≡◌, ℕ, Bool, true, false, ◌&&◌, ◌==◌, Option, Some, None, List, IsTrue, bytes_eq}
use Rattle.std.proofs.Common.{refl, sym, ap, subst, ◌∙◌}
use Rattle.std.specs.Bool.{Decides}
use Rattle.std.specs.Cmp.{IsEquivalence, decided}
use Rattle.std.specs.Cmp.Lexicographic.{bytes_decides}
use Rattle.std.specs.Option.{option_eq}
use Rattle.std.proofs.lemmas.Bool.{and_parts, eqb-true, eq-eqb}
use Rattle.exi_names.specs.Datatypes.{Representation}
use Rattle.exi_names.specs.Equality.{same_names, same_representations}
use Rattle.exi_names.specs.declared.names.QName.{QName}
use Rattle.exi_names.proofs.Same.{representations_iff}
use Rattle.exi_gram.specs.Terminals.{Symbol, sd, ed, se, se_in, se_any, at, at_in, at_any, at_text, at_any_text, xsi_type, xsi_nil, ch, ch_text, ee, ns, sc, er, cm, pi, dt}
use Rattle.exi_normal.specs.Keys.{fed_by}
use Rattle.exi_normal.specs.Normals.{same_symbol}

bytes_same : (a : List ℕ) → bytes_eq a a ≡ true
bytes_same a = (bytes_decides a a).1 refl

prefix_is : (a b : Option (List ℕ)) → option_eq bytes_eq a b ≡ true → a ≡ b
prefix_is None None h = refl
prefix_is None (Some b) h = absurd (cc)
prefix_is (Some a) None h = absurd (cc)
prefix_is (Some a) (Some b) h = ap Some ((bytes_decides a b).0 h)

prefix_same : (a : Option (List ℕ)) → option_eq bytes_eq a a ≡ true
prefix_same None = refl
prefix_same (Some a) = bytes_same a

name_is : (a b : QName) → same_names a b ≡ true → a ≡ b
name_is a b h =
    let p = and_parts (bytes_eq a.uri b.uri && bytes_eq a.local b.local) (option_eq bytes_eq a.prefix b.prefix) h in
    let q = and_parts (bytes_eq a.uri b.uri) (bytes_eq a.local b.local) p.0 in
    let uri = (bytes_decides a.uri b.uri).0 q.0 in
    let local = (bytes_decides a.local b.local).0 q.1 in
    let prefix = prefix_is a.prefix b.prefix p.1 in
    λ i. record { uri = uri i; local = local i; prefix = prefix i }

name_same : (a : QName) → same_names a a ≡ true
name_same a = rw (bytes_same a.uri, bytes_same a.local, prefix_same a.prefix) refl

both : {X Y Z : Type 0} (f : X → Y → Z) (a b : X) (c d : Y) → a ≡ b → c ≡ d → f a c ≡ f b d
both f a b c d p q = λ i. f (p i) (q i)

typed_is : (a b : QName) (r s : Representation) → same_names a b && same_representations r s ≡ true → at a r ≡ at b s
typed_is a b r s h =
    let p = and_parts (same_names a b) (same_representations r s) h in
    both at a b r s (name_is a b p.0) ((representations_iff r s).0 p.1)

representation_same : (r : Representation) → same_representations r r ≡ true
representation_same r = (representations_iff r r).1 refl

pub symbol_same : (s : Symbol) → same_symbol s s ≡ true
symbol_same (se name) = name_same name
symbol_same (se_in uri) = bytes_same uri
symbol_same (at name representation) = rw (name_same name, representation_same representation) refl
symbol_same (at_in uri) = bytes_same uri
symbol_same (at_text name) = name_same name
symbol_same (ch representation) = representation_same representation
symbol_same sd = refl
symbol_same ed = refl
symbol_same se_any = refl
symbol_same at_any = refl
symbol_same at_any_text = refl
symbol_same xsi_type = refl
symbol_same xsi_nil = refl
symbol_same ch_text = refl
symbol_same ee = refl
symbol_same ns = refl
symbol_same sc = refl
symbol_same er = refl
symbol_same cm = refl
symbol_same pi = refl
symbol_same dt = refl

pub symbol_is : (a b : Symbol) → same_symbol a b ≡ true → a ≡ b
symbol_is (se a) (se b) h = ap se (name_is a b h)
symbol_is (se_in a) (se_in b) h = ap se_in ((bytes_decides a b).0 h)
symbol_is (at a r) (at b s) h = typed_is a b r s h
symbol_is (at_in a) (at_in b) h = ap at_in ((bytes_decides a b).0 h)
symbol_is (at_text a) (at_text b) h = ap at_text (name_is a b h)
symbol_is (ch r) (ch s) h = ap ch ((representations_iff r s).0 h)
symbol_is sd sd h = refl
symbol_is ed ed h = refl
symbol_is se_any se_any h = refl
symbol_is at_any at_any h = refl
symbol_is at_any_text at_any_text h = refl
symbol_is xsi_type xsi_type h = refl
symbol_is xsi_nil xsi_nil h = refl
symbol_is ch_text ch_text h = refl
symbol_is ee ee h = refl
symbol_is ns ns h = refl
symbol_is sc sc h = refl
symbol_is er er h = refl
symbol_is cm cm h = refl
symbol_is pi pi h = refl
symbol_is dt dt h = refl
symbol_is a b h = absurd (cc)

pub symbol_decides : (a b : Symbol) → Decides (same_symbol a b) (a ≡ b)
symbol_decides a b = (symbol_is a b, λ e. subst (λ (s : Symbol). same_symbol a s ≡ true) e (symbol_same a))

pub symbols_equiv : IsEquivalence same_symbol
symbols_equiv = decided same_symbol symbol_decides

pub fed_same : (a b : Symbol) → IsTrue (same_symbol a b) → fed_by a ≡ fed_by b
fed_same a b h = ap fed_by (symbol_is a b h)
