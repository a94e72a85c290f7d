-- Of each part and name the first component is kept, and found.
use Rattle.std.proofs.Common.{◌≡◌, ℕ, ◌+◌, ◌==◌, Bool, true, false, cond, ◌&&◌, ◌||◌, Option, Some, None, is_some, List, [], ◌∷◌, ◌++◌, length, refl, sym, ap, ◌∙◌}
use Rattle.std.specs.List.{list_any}
use Rattle.std.specs.Map.{lookup}
use Rattle.std.specs.Str.{bytes_eq}
use Rattle.std.proofs.lemmas.Bool.{and_from, and_parts, eqb-true, false≢true}
use Rattle.std.proofs.lemmas.Slice.Eq.{bytes_eq-Decides}
use Rattle.exi_names.specs.declared.names.QName.{QName}
use Rattle.xsd_tree.specs.declared.node.Node.{Node}
use Rattle.xsd_nodes.specs.Nodes.{is_among_at, part_at}
use Rattle.xsd_nodes.specs.PartNames.{part_number}
use Rattle.xsd_nodes.specs.declared.part.Part.{Part}
use Rattle.xsd_names.specs.Names.{same_name}
use Rattle.xsd_components.specs.Globals.{AreFirsts, AreMore, Firsts, IsPut, first_declared, found, found_in, global_at, is_declared, or_new, or_none}
use Rattle.xsd_components.specs.declared.schema.Global.{Global}
use Rattle.xsd_components.proofs.Declared.{component_is, globals_all, globals_below, globals_more, globals_none}

-- ---- of some components and more
pub none_new : (place : Option ℕ) → place ≡ or_new place None
none_new None = refl
none_new (Some i) = refl

pub here_first : (place : ℕ) (new : Option ℕ) → Some place ≡ or_new new (Some place)
here_first place None = refl
here_first place (Some i) = refl

pub one_first : (b : Bool) (place : ℕ) (new old all : Option ℕ) → all ≡ or_new new old → cond b (Some place) all ≡ or_new new (cond b (Some place) old)
one_first true place new old all e = here_first place new
one_first false place new old all e = e

pub first_append : (ns : List Node) (kind : List Part) (name : QName) (xs ys : List Global) → first_declared ns kind name (xs ++ ys) ≡ or_new (first_declared ns kind name ys) (first_declared ns kind name xs)
first_append ns kind name [] ys = none_new (first_declared ns kind name ys)
first_append ns kind name (g ∷ gs) ys =
    one_first (is_declared ns kind name g) g.place (first_declared ns kind name ys) (first_declared ns kind name gs) (first_declared ns kind name (gs ++ ys)) (first_append ns kind name gs ys)

-- ---- one is put behind those of its local name
pub of_none : (ns : List Node) (kind : List Part) (name : QName) (o : Option (List Global)) → first_declared ns kind name (or_none o) ≡ found_in ns kind name o
of_none ns kind name None = refl
of_none ns kind name (Some gs) = refl

pub never : (m u : Bool) → (m && (u && false)) ≡ false
never false u = refl
never true false = refl
never true true = refl

pub by_local : (ns : List Node) (kind : List Part) (name : QName) (g : Global) (o : Option (List Global)) (b : Bool) → bytes_eq name.local g.name.local ≡ b → found_in ns kind name (cond b (Some (or_none o ++ g ∷ [])) o) ≡ or_new (first_declared ns kind name (g ∷ [])) (found_in ns kind name o)
by_local ns kind name g o true e =
    first_append ns kind name (or_none o) (g ∷ []) ∙ ap (or_new (first_declared ns kind name (g ∷ []))) (of_none ns kind name o)
by_local ns kind name g o false e =
    let among = is_among_at ns kind g.place in
    let uri = bytes_eq name.uri g.name.uri in
    sym (
    ap (λ (x : Bool). or_new (cond (among && (uri && x)) (Some g.place) None) (found_in ns kind name o)) e
    ∙ ap (λ (x : Bool). or_new (cond x (Some g.place) None) (found_in ns kind name o)) (never among uri)
    )

pub added : (ns : List Node) (old new : Firsts) (g : Global) → IsPut old new g → AreMore ns old new (g ∷ [])
added ns old new g put kind name =
    ap (found_in ns kind name) (put name.local) ∙ by_local ns kind name g (lookup (bytes_eq name.local) old) (bytes_eq name.local g.name.local) refl

-- ---- one of the same part and name is kept
pub if_kept : (b : Bool) (place : ℕ) (old : Option ℕ) → (b ≡ true → is_some old ≡ true) → old ≡ or_new (cond b (Some place) None) old
if_kept true place None h = absurd (false≢true (h refl))
if_kept true place (Some i) h = refl
if_kept false place old h = refl

pub one_kept : (b c : Bool) (place : ℕ) (xs ys : Option ℕ) → (b ≡ true → c ≡ true) → (is_some xs ≡ true → is_some ys ≡ true) → is_some (cond b (Some place) xs) ≡ true → is_some (cond c (Some place) ys) ≡ true
one_kept true c place xs ys h more s = ap (λ (x : Bool). is_some (cond x (Some place) ys)) (h refl)
one_kept false true place xs ys h more s = refl
one_kept false false place xs ys h more s = more s

pub kept : (ns : List Node) (few kind : List Part) (own name : QName) → ((g : Global) → is_declared ns few own g ≡ true → is_declared ns kind name g ≡ true) → (gs : List Global) → is_some (first_declared ns few own gs) ≡ true → is_some (first_declared ns kind name gs) ≡ true
kept ns few kind own name h [] s = s
kept ns few kind own name h (g ∷ gs) s =
    one_kept (is_declared ns few own g) (is_declared ns kind name g) g.place (first_declared ns few own gs) (first_declared ns kind name gs) (h g) (kept ns few kind own name h gs) s

pub kept_in : (ns : List Node) (few kind : List Part) (own name : QName) → ((g : Global) → is_declared ns few own g ≡ true → is_declared ns kind name g ≡ true) → (o : Option (List Global)) → is_some (found_in ns few own o) ≡ true → is_some (found_in ns kind name o) ≡ true
kept_in ns few kind own name h None s = s
kept_in ns few kind own name h (Some gs) s = kept ns few kind own name h gs s

pub or_nothing : (b : Bool) → (b || false) ≡ true → b ≡ true
or_nothing true h = h
or_nothing false h = h

pub same_part : (ns : List Node) (part : Part) (i j : ℕ) → part ≡ part_at ns i → is_among_at ns (part ∷ []) j ≡ true → part_number (part_at ns j) ≡ part_number (part_at ns i)
same_part ns part i j e h =
    eqb-true (part_number (part_at ns j)) (part_number part) (or_nothing (part_number (part_at ns j) == part_number part) h) ∙ ap (λ (p : Part). part_number p) e

pub also : (ns : List Node) (kind : List Part) (part : Part) (own name : QName) (i : ℕ) → part ≡ part_at ns i → is_among_at ns kind i ≡ true → name.uri ≡ own.uri → name.local ≡ own.local → (g : Global) → is_declared ns (part ∷ []) own g ≡ true → is_declared ns kind name g ≡ true
also ns kind part own name i e among same_uri same_local g h =
    let parts = and_parts (is_among_at ns (part ∷ []) g.place) (same_name own g.name) h in
    and_from (is_among_at ns kind g.place) (same_name name g.name)
    (ap (λ (k : ℕ). list_any (λ (p : Part). k == part_number p) kind) (same_part ns part i g.place e parts.0) ∙ among)
    (ap (λ (u : List ℕ). bytes_eq u g.name.uri && bytes_eq name.local g.name.local) same_uri
    ∙ ap (λ (l : List ℕ). bytes_eq own.uri g.name.uri && bytes_eq l g.name.local) same_local
    ∙ parts.1)

pub known : (ns : List Node) (old : Firsts) (g : Global) (part : Part) → part ≡ part_at ns g.place → is_some (found ns old (part ∷ []) g.name) ≡ true → AreMore ns old old (g ∷ [])
known ns old g part part_is some kind name =
    if_kept (is_declared ns kind name g) g.place (found ns old kind name) (λ yes.
    let parts = and_parts (is_among_at ns kind g.place) (same_name name g.name) yes in
    let same = and_parts (bytes_eq name.uri g.name.uri) (bytes_eq name.local g.name.local) parts.1 in
    let same_uri : name.uri ≡ g.name.uri = (bytes_eq-Decides name.uri g.name.uri).0 same.0 in
    let same_local : name.local ≡ g.name.local = (bytes_eq-Decides name.local g.name.local).0 same.1 in
    ap (λ (l : List ℕ). is_some (found_in ns kind name (lookup (bytes_eq l) old))) same_local
    ∙ kept_in ns (part ∷ []) kind g.name name (also ns kind part g.name name g.place part_is parts.0 same_uri same_local) (lookup (bytes_eq g.name.local) old) some)

-- ---- one element after another
abbrev pub AreBelow : List Node → Firsts → ℕ → Type 0
AreBelow ns firsts j = (kind : List Part) (name : QName) → found ns firsts kind name ≡ first_declared ns kind name (globals_below ns j)

pub none_below : (ns : List Node) (firsts : Firsts) → firsts ≡ [] → AreBelow ns firsts 0
none_below ns firsts e kind name = ap (λ (l : Firsts). found ns l kind name) e ∙ ap (first_declared ns kind name) (globals_none ns)

pub more_below : (ns : List Node) (old new : Firsts) (j : ℕ) → AreBelow ns old j → AreMore ns old new (global_at ns j) → AreBelow ns new (j + 1)
more_below ns old new j below more kind name =
    let one = global_at ns j in
    let before = globals_below ns j in
    more kind name
    ∙ ap (or_new (first_declared ns kind name one)) (below kind name)
    ∙ sym (first_append ns kind name before one)
    ∙ ap (first_declared ns kind name) (globals_more ns before (before ++ one) j refl refl)

pub all_below : (ns : List Node) (firsts : Firsts) (j : ℕ) → j ≡ length ns → AreBelow ns firsts j → AreFirsts ns firsts
all_below ns firsts j e below kind name =
    below kind name ∙ ap (first_declared ns kind name) (globals_all ns (globals_below ns j) j e refl) ∙ component_is ns kind name
