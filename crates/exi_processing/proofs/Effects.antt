-- The grammars that are found by name open elements: that of a global element, and that of a type.
use Rattle.std.proofs.Common.{Bool, true, false, cond, List, [], ◌∷◌, Option, Some, None, ℕ}
use Rattle.std.specs.Prelude.{◌≡◌, ◌+◌, All}
use Rattle.std.proofs.lemmas.List.Elements.{All-head, All-tail}
use Rattle.exi_builtin.specs.Learning.{is_type}
use Rattle.exi_gram.specs.Outlines.{Outline}
use Rattle.exi_gram.specs.Schemas.{IsFull, IsInner}
use Rattle.exi_gram.specs.declared.entry.ElementEntry.{ElementEntry}
use Rattle.exi_gram.specs.declared.entry.TypeEntry.{TypeEntry}
use Rattle.exi_names.specs.declared.names.NameId.{NameId}
use Rattle.exi_names.specs.declared.names.QName.{QName}
use Rattle.exi_names.specs.Seen.{Value}
use Rattle.exi_names.specs.Seen as value
use Rattle.exi_processing.specs.Changes.{Effect, effect_of, emptied, leads, nil_effect, opener, retyped, stays, type_effect}
use Rattle.exi_processing.specs.Configurations.{IsSetting, Setting}
use Rattle.exi_processing.specs.Contents.{is_nil, named_type}
use Rattle.exi_gram.specs.Globals.{element_grammar, is_named, same_texts, type_grammar}
use Rattle.exi_processing.specs.Rules.{Valuing, by_name, typed, untyped}

abbrev FullElement : Outline → ElementEntry → Type 0
FullElement o e = IsFull o e.full × (e.empty ≡ e.full + 1)

abbrev FullType : Outline → TypeEntry → Type 0
FullType o e = IsFull o e.full × (e.empty ≡ e.full + 1)

either_inner : (o : Outline) (b : Bool) (first : ℕ) (more : Option ℕ) → IsFull o first → IsInner o more → IsInner o (cond b (Some first) more)
either_inner o true first more h k = h
either_inner o false first more h k = k

global_full : (o : Outline) (es : List ElementEntry) (name : QName) → All (FullElement o) es → IsInner o (element_grammar es name)
global_full o [] name all = tt
global_full o (e ∷ es) name all = either_inner o (same_texts e.name name) e.full (element_grammar es name) (All-head (FullElement o) e es all).0 (global_full o es name (All-tail (FullElement o) e es all))

type_full : (o : Outline) (ts : List TypeEntry) (name : QName) → All (FullType o) ts → IsInner o (type_grammar ts name)
type_full o [] name all = tt
type_full o (t ∷ ts) name all = either_inner o (is_named t.name name) t.full (type_grammar ts name) (All-head (FullType o) t ts all).0 (type_full o ts name (All-tail (FullType o) t ts all))

-- what opens an element is such a grammar, or there is none
pub opener_full : (g : Setting) → IsSetting g → (name : QName) (inner : Option ℕ) → IsInner g.schema inner → IsInner g.schema (opener g name inner)
opener_full g setting name (Some grammar) h = h
opener_full g setting name None h = global_full g.schema g.schema.globals name setting.schema.paired.globals

named_full : (g : Setting) → IsSetting g → (v : Value) → IsInner g.schema (named_type g v)
named_full g setting (value.name name) = type_full g.schema g.schema.types name setting.schema.paired.types
named_full g setting (value.text t) = tt
named_full g setting (value.boolean truth digit) = tt
named_full g setting (value.integer n) = tt
named_full g setting (value.decimal minus whole back) = tt
named_full g setting (value.float mantissa exponent) = tt
named_full g setting (value.moment m) = tt
named_full g setting (value.binary hex octets) = tt
named_full g setting (value.items vs) = tt

-- ---- what comes of an attribute
-- a type has the grammar of elements
abbrev pub IsGoodEffect : Setting → Effect → Type 0
IsGoodEffect g leads = Unit {0}
IsGoodEffect g (retyped grammar) = IsFull g.schema grammar
IsGoodEffect g emptied = Unit {0}
IsGoodEffect g stays = Unit {0}

either_good : (g : Setting) (b : Bool) (first second : Effect) → IsGoodEffect g first → IsGoodEffect g second → IsGoodEffect g (cond b first second)
either_good g true first second h k = h
either_good g false first second h k = k

type_good : (g : Setting) (otherwise : Effect) (o : Option ℕ) → IsGoodEffect g otherwise → IsInner g.schema o → IsGoodEffect g (type_effect otherwise o)
type_good g otherwise None h k = h
type_good g otherwise (Some grammar) h k = k

nil_good : (g : Setting) (v : Value) → IsGoodEffect g (nil_effect v)
nil_good g (value.boolean true digit) = tt
nil_good g (value.boolean false digit) = tt
nil_good g (value.name name) = tt
nil_good g (value.text t) = tt
nil_good g (value.integer n) = tt
nil_good g (value.decimal minus whole back) = tt
nil_good g (value.float mantissa exponent) = tt
nil_good g (value.moment m) = tt
nil_good g (value.binary hex octets) = tt
nil_good g (value.items vs) = tt

pub effect_good : (g : Setting) → IsSetting g → (v : Valuing) (name : NameId) (found : Value) → IsGoodEffect g (effect_of g v name found)
effect_good g setting untyped name found = either_good g (is_type name) (type_effect leads (named_type g found)) leads (type_good g leads (named_type g found) tt (named_full g setting found)) tt
effect_good g setting (typed r) name found = tt
effect_good g setting by_name name found =
    either_good g (is_type name) (type_effect stays (named_type g found)) (cond (is_nil name) (nil_effect found) leads) (type_good g stays (named_type g found) tt (named_full g setting found))
    (either_good g (is_nil name) (nil_effect found) leads (nil_good g found) tt)
