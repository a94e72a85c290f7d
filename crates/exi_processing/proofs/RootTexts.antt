-- A name without a prefix charges the characters of its URI and of its local name.
use Rattle.std.proofs.Common.{◌≡◌, inl, inr, ℕ, ◌+◌, Bool, false, List, [], ◌∷◌, ◌++◌, length, Option, Some, None, refl, ap, ◌∙◌, subst, arith}
use Rattle.exi_bits.specs.declared.align.Align.{Align}
use Rattle.exi_gram.specs.Switches.{align_of, prefixes}
use Rattle.exi_meter.specs.Metering.{Metering, with_text}
use Rattle.exi_names.specs.declared.names.NameId.{NameId}
use Rattle.exi_tables.specs.Partitions.{Partitions, live_at, uris, with_uri}
use Rattle.exi_typed.specs.Charging.{Charge, IsTaken, later, one_charge}
use Rattle.exi_typed.proofs.ContextItems.{sum_of}
use Rattle.exi_typed.specs.Refused.{SpellsPlaced}
use Rattle.exi_typed.specs.Spelled.{Follows, OneSpelling, SpellsIndexed, SpellsKnown, SpellsLocal, SpellsName, SpellsNameUnder, SpellsPrefix, SpellsUri}
use Rattle.exi_typed.specs.Strings.{Growth, Named, place_in}
use Rattle.exi_processing.specs.Configurations.{Setting}
use Rattle.exi_processing.specs.Contents.{SpellsTold, SpellsUnder}
use Rattle.exi_processing.specs.Rules.{Telling, known, spelled, under}

sum_later : (n : ℕ) (ks : List Charge) → sum_of (later n ks) ≡ sum_of ks
sum_later n [] = refl
sum_later n (k ∷ ks) = ap (λ (i : ℕ). k.units + i) (sum_later n ks)

sum_both : (ks js : List Charge) → sum_of (ks ++ js) ≡ sum_of ks + sum_of js
sum_both [] js = omega arith
sum_both (k ∷ ks) js = omega (arith, sum_both ks js)

sum_is : (ks js : List Charge) → ks ≡ js → sum_of ks ≡ sum_of js
sum_is ks js e = ap (λ (z : List Charge). sum_of z) e

sum_one : (units bit : ℕ) (ks : List Charge) → ks ≡ one_charge units bit → sum_of ks ≡ units
sum_one units bit ks e = let k : sum_of (one_charge units bit) ≡ units + 0 = refl in omega (arith, sum_is ks (one_charge units bit) e, k)

sum_taken : (ks : List Charge) (m n : Metering) → IsTaken ks m n → n ≡ with_text m (sum_of ks)
sum_taken [] m n h =
    let e : m.used.text ≡ m.used.text + 0 = omega arith in
    h ∙ ap (λ (i : ℕ). record m { used = record m.used { text = i } }) e
sum_taken (k ∷ ks) m n h =
    let e : m.used.text + k.units + sum_of ks ≡ m.used.text + (k.units + sum_of ks) = omega arith in
    sum_taken ks (with_text m k.units) n h.1 ∙ ap (λ (i : ℕ). record m { used = record m.used { text = i } }) e

-- one behind the other
follows_sum : (First Second : OneSpelling) (i j : ℕ) (p q : Partitions) (ks : List Charge) (text : List Bool) → (h : Follows First Second p q ks text) → sum_of h.paid ≡ i → sum_of h.owed ≡ j → sum_of ks ≡ i + j
follows_sum First Second i j p q ks text h e f =
    let k = sum_is ks (h.paid ++ later (length h.first) h.owed) h.charges in
    omega (arith, k, sum_both h.paid (later (length h.first) h.owed), sum_later (length h.first) h.owed, e, f)

behind_sum : (n units : ℕ) (ks js : List Charge) → ks ≡ later n js → sum_of js ≡ units → sum_of ks ≡ units
behind_sum n units ks js e f = sum_is ks (later n js) e ∙ sum_later n js ∙ f

indexed_text : (a : Align) (texts : List (List ℕ)) (grow : Growth) (x : List ℕ) (p q : Partitions) (ks : List Charge) (text : List Bool) → SpellsIndexed a texts grow x p q ks text → sum_of ks ≡ length x
indexed_text a texts grow x p q ks text (inl h) = behind_sum (length h.first) (length x) ks h.owed h.charges (behind_sum (length h.behind.first) (length x) h.owed h.behind.owed h.behind.charges (sum_one (length x) 0 h.behind.owed h.behind.behind.charges))
indexed_text a texts grow x p q ks text (inr h) = sum_one (length x) (length text) ks h.charges

local_text : (a : Align) (uri : ℕ) (x : List ℕ) (p q : Partitions) (ks : List Charge) (text : List Bool) → SpellsLocal a uri x p q ks text → sum_of ks ≡ length x
local_text a uri x p q ks text (inl h) = behind_sum (length h.first) (length x) ks h.owed h.charges (sum_one (length x) (length h.second) h.owed h.behind.charges)
local_text a uri x p q ks text (inr h) = behind_sum (length h.first) (length x) ks h.owed h.charges (sum_one (length x) 0 h.owed h.behind.charges)

no_prefix : (a : Align) (uri : ℕ) (x : Option (List ℕ)) (p q : Partitions) (ks : List Charge) (text : List Bool) → SpellsPrefix false a uri x p q ks text → sum_of ks ≡ 0
no_prefix a uri None p q ks text h = sum_is ks [] h.charges
no_prefix a uri (Some x) p q ks text h = absurd h

under_text : (a : Align) (uri : ℕ) (n : Named) (p q : Partitions) (ks : List Charge) (text : List Bool) → Follows (SpellsLocal a uri n.name.local) (SpellsPrefix false a uri n.name.prefix) p q ks text → sum_of ks ≡ length n.name.local
under_text a uri n p q ks text h =
    let k = follows_sum (SpellsLocal a uri n.name.local) (SpellsPrefix false a uri n.name.prefix) (length n.name.local) 0 p q ks text h (local_text a uri n.name.local p h.between h.paid h.first h.front) (no_prefix a uri n.name.prefix h.between q h.owed h.second h.behind) in
    omega (arith, k)

name_text : (a : Align) (n : Named) (p q : Partitions) (ks : List Charge) (text : List Bool) → SpellsName false a n p q ks text → sum_of ks ≡ length n.name.uri + length n.name.local
name_text a n p q ks text h =
    follows_sum (SpellsUri a n.name.uri) (λ r. SpellsNameUnder false a (place_in (uris r) n.name.uri) n.name.uri n r) (length n.name.uri) (length n.name.local) p q ks text h
    (indexed_text a (uris p) with_uri n.name.uri p h.between h.paid h.first h.front)
    (under_text a (place_in (uris h.between) n.name.uri) n h.between q h.owed h.second h.behind.spelled)

-- under a URI that the code told, whose text is charged
told_uri_text : (a : Align) (uri : ℕ) (n : Named) (p q : Partitions) (ks : List Charge) (text : List Bool) → SpellsUnder false a uri n p q ks text → sum_of ks ≡ length n.name.uri + length n.name.local
told_uri_text a uri n p q ks text h =
    let f = h.spelled in
    let same : length n.name.uri ≡ length h.space = ap (λ (x : List ℕ). length x) f.behind.space_is in
    let space : sum_of f.paid ≡ length h.space = sum_one (length h.space) 0 f.paid f.front.charged.charges in
    let k = follows_sum (SpellsPlaced (live_at (uris p) uri) h.space) (SpellsNameUnder false a uri h.space n) (length h.space) (length n.name.local) p q ks text f space (under_text a uri n f.between q f.owed f.second f.behind.spelled) in
    omega (arith, k, same)

known_text : (a : Align) (id : NameId) (n : Named) (p q : Partitions) (ks : List Charge) (text : List Bool) → SpellsKnown false a id n p q ks text → sum_of ks ≡ length n.name.uri + length n.name.local
known_text a id n p q ks text h =
    let f = h.spelled in
    let two : sum_of (one_charge (length n.name.uri) 0 ++ one_charge (length n.name.local) 0) ≡ length n.name.uri + (length n.name.local + 0) = refl in
    let texts : sum_of f.paid ≡ length n.name.uri + length n.name.local = omega (arith, sum_is f.paid (one_charge (length n.name.uri) 0 ++ one_charge (length n.name.local) 0) f.front.charges, two) in
    let none = no_prefix a id.uri n.name.prefix f.between q f.owed f.second f.behind in
    let k = sum_is ks (f.paid ++ later (length f.first) f.owed) f.charges in
    omega (arith, k, sum_both f.paid (later (length f.first) f.owed), sum_later (length f.first) f.owed, texts, none)

told_by : (g : Setting) (t : Telling) (keep : Bool) (n : Named) (p q : Partitions) (ks : List Charge) (text : List Bool) → keep ≡ false → prefixes g.options ≡ keep → SpellsTold g t n p q ks text → sum_of ks ≡ length n.name.uri + length n.name.local
told_by g spelled keep n p q ks text e f h = name_text (align_of g.options) n p q ks text (subst (λ (z : Bool). SpellsName z (align_of g.options) n p q ks text) (f ∙ e) h)
told_by g (under uri) keep n p q ks text e f h = told_uri_text (align_of g.options) uri n p q ks text (subst (λ (z : Bool). SpellsUnder z (align_of g.options) uri n p q ks text) (f ∙ e) h)
told_by g (known id) keep n p q ks text e f h = known_text (align_of g.options) id n p q ks text (subst (λ (z : Bool). SpellsKnown z (align_of g.options) id n p q ks text) (f ∙ e) h)

pub told_text : (g : Setting) (t : Telling) (n : Named) (p q : Partitions) (ks : List Charge) (text : List Bool) (m v : Metering) → prefixes g.options ≡ false → SpellsTold g t n p q ks text → IsTaken ks m v → v ≡ with_text m (length n.name.uri + length n.name.local)
told_text g t n p q ks text m v e h taken = sum_taken ks m v taken ∙ ap (λ (i : ℕ). with_text m i) (told_by g t (prefixes g.options) n p q ks text e refl h)
