-- Facts of the tables, state by state.
use Rattle.std.proofs.Common.{◌≡◌, ℕ, zero, suc, ◌+◌, ◌*◌, ◌<◌, ◌≤◌, Bool, true, false, ◌&&◌, ◌||◌, eqb, ltb, List, [], ◌∷◌, length, get_or, slice_get, Option, Some, None, refl, subst, arith}
use Rattle.std.proofs.lemmas.Bool.{and_parts, ltb-true}
use Rattle.exi_bits.specs.Widths.{width_for, width_from}
use Rattle.exi_options.specs.declared.table.Sign.{Sign}
use Rattle.exi_options.specs.declared.table.Sign.TheVariants as sign
use Rattle.exi_options.specs.declared.table.State.{State}
use Rattle.exi_options.specs.declared.table.State.TheVariants as state
use Rattle.exi_options.specs.Document.{Code, ahead, codes}

-- a test of each code of a state
each : (Code → Bool) → List Code → Bool
each test [] = true
each test (c ∷ cs) = test c && each test cs

each_at : (test : Code → Bool) (cs : List Code) (i : ℕ) (c : Code) → each test cs ≡ true → slice_get cs i ≡ Some c → test c ≡ true
unfolding each
each_at test [] i c all e = absurd cc
each_at test (d ∷ ds) zero c all e =
    let same : d ≡ c = cc in
    let p = and_parts (test d) (each test ds) all in
    subst (λ (x : Code). test x ≡ true) same p.0
each_at test (d ∷ ds) (suc i) c all e =
    let p = and_parts (test d) (each test ds) all in
    each_at test ds i c p.1 e

-- ---- a code leads to where fewer codes may come, counting the bits that it takes twice
falls : State → Code → Bool
falls st c = ltb (ahead c.1) (ahead st + 2 * width_for (length (codes st)))

all_fall : (st : State) → each (falls st) (codes st) ≡ true
unfolding each falls codes ahead width_from
all_fall state.Document = refl
all_fall state.Header = refl
all_fall state.HeaderAfterLesscommon = refl
all_fall state.HeaderAfterCommon = refl
all_fall state.HeaderAfterStrict = refl
all_fall state.Lesscommon = refl
all_fall state.LesscommonAfterUncommon = refl
all_fall state.LesscommonAfterPreserve = refl
all_fall state.LesscommonAfterBlockSize = refl
all_fall state.Uncommon = refl
all_fall state.UncommonAfterAlignment = refl
all_fall state.UncommonAfterSelfContained = refl
all_fall state.UncommonAfterValueMaxLength = refl
all_fall state.UncommonAfterValuePartitionCapacity = refl
all_fall state.Alignment = refl
all_fall state.AlignmentAfterByte = refl
all_fall state.Preserve = refl
all_fall state.PreserveAfterDtd = refl
all_fall state.PreserveAfterPrefixes = refl
all_fall state.PreserveAfterComments = refl
all_fall state.PreserveAfterPis = refl
all_fall state.Common = refl
all_fall state.CommonAfterFragment = refl
all_fall state.CommonAfterSchemaId = refl
all_fall state.SchemaId = refl
all_fall state.Nil = refl
all_fall state.End = refl

pub falls_at : (st : State) (i : ℕ) (c : Code) → slice_get (codes st) i ≡ Some c → ahead c.1 < ahead st + 2 * width_for (length (codes st))
unfolding falls
falls_at st i c e = ltb-true (ahead c.1) (ahead st + 2 * width_for (length (codes st))) (each_at (falls st) (codes st) i c (all_fall st) e)

-- ---- where xsi:nil is not false, there are fewer codes
unfoldable pub is_false : Sign → Bool
is_false (sign.Opens e) = false
is_false sign.Ends = false
is_false (sign.Switch f) = false
is_false sign.Byte = false
is_false sign.BlockSize = false
is_false sign.ValueMaxLength = false
is_false sign.ValuePartitionCapacity = false
is_false sign.SchemaId = false
is_false sign.Text = false
is_false sign.False = true
is_false sign.True = false
is_false (sign.Refused p) = false

sinks : State → Code → Bool
sinks st c = is_false c.0 || ltb (ahead c.1) (ahead st)

all_sink : (st : State) → each (sinks st) (codes st) ≡ true
unfolding each sinks is_false codes ahead
all_sink state.Document = refl
all_sink state.Header = refl
all_sink state.HeaderAfterLesscommon = refl
all_sink state.HeaderAfterCommon = refl
all_sink state.HeaderAfterStrict = refl
all_sink state.Lesscommon = refl
all_sink state.LesscommonAfterUncommon = refl
all_sink state.LesscommonAfterPreserve = refl
all_sink state.LesscommonAfterBlockSize = refl
all_sink state.Uncommon = refl
all_sink state.UncommonAfterAlignment = refl
all_sink state.UncommonAfterSelfContained = refl
all_sink state.UncommonAfterValueMaxLength = refl
all_sink state.UncommonAfterValuePartitionCapacity = refl
all_sink state.Alignment = refl
all_sink state.AlignmentAfterByte = refl
all_sink state.Preserve = refl
all_sink state.PreserveAfterDtd = refl
all_sink state.PreserveAfterPrefixes = refl
all_sink state.PreserveAfterComments = refl
all_sink state.PreserveAfterPis = refl
all_sink state.Common = refl
all_sink state.CommonAfterFragment = refl
all_sink state.CommonAfterSchemaId = refl
all_sink state.SchemaId = refl
all_sink state.Nil = refl
all_sink state.End = refl

not_false : (b c : Bool) → b || c ≡ true → b ≡ false → c ≡ true
not_false true c e f = absurd cc
not_false false c e f = e

pub sinks_at : (st : State) (i : ℕ) (c : Code) → slice_get (codes st) i ≡ Some c → is_false c.0 ≡ false → ahead c.1 < ahead st
unfolding sinks
sinks_at st i c e f = ltb-true (ahead c.1) (ahead st) (not_false (is_false c.0) (ltb (ahead c.1) (ahead st)) (each_at (sinks st) (codes st) i c (all_sink st) e) f)

-- ---- the end
-- where there are codes, one may come
pub lives : (st : State) → eqb (length (codes st)) 0 ≡ false → ltb 0 (ahead st) ≡ true
unfolding codes ahead
lives state.Document e = refl
lives state.Header e = refl
lives state.HeaderAfterLesscommon e = refl
lives state.HeaderAfterCommon e = refl
lives state.HeaderAfterStrict e = refl
lives state.Lesscommon e = refl
lives state.LesscommonAfterUncommon e = refl
lives state.LesscommonAfterPreserve e = refl
lives state.LesscommonAfterBlockSize e = refl
lives state.Uncommon e = refl
lives state.UncommonAfterAlignment e = refl
lives state.UncommonAfterSelfContained e = refl
lives state.UncommonAfterValueMaxLength e = refl
lives state.UncommonAfterValuePartitionCapacity e = refl
lives state.Alignment e = refl
lives state.AlignmentAfterByte e = refl
lives state.Preserve e = refl
lives state.PreserveAfterDtd e = refl
lives state.PreserveAfterPrefixes e = refl
lives state.PreserveAfterComments e = refl
lives state.PreserveAfterPis e = refl
lives state.Common e = refl
lives state.CommonAfterFragment e = refl
lives state.CommonAfterSchemaId e = refl
lives state.SchemaId e = refl
lives state.Nil e = refl
lives state.End e = absurd cc
