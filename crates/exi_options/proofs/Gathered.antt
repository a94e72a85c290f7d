-- What the writer's codes tell, gathered from state to state, is the options that are written.
use Rattle.std.proofs.Common.{◌≡◌, ℕ, zero, suc, ◌+◌, ◌^◌, ◌<◌, ◌≤◌, Bool, true, false, cond, ◌&&◌, ◌||◌, not, eqb, ltb, List, [], ◌∷◌, length, get_or, bit_and, bit_or, Option, Some, None, refl, sym, ap, ◌∙◌, subst, inl, inr, arith}
use Rattle.std.specs.Prelude.{position}
use Rattle.std.proofs.lemmas.Bool.{and_parts, cases_Bool, cases_lt, eqb-true}
use Rattle.exi_gram.specs.declared.options.Options.{Options}
use Rattle.exi_gram.specs.declared.options.SchemaWord.{SchemaWord}
use Rattle.exi_gram.specs.declared.options.SchemaWord.TheVariants as schema
use Rattle.exi_gram.specs.Switches.{default_options}
use Rattle.exi_options.specs.declared.table.Element.TheVariants as element
use Rattle.exi_options.specs.declared.table.Sign.{Sign}
use Rattle.exi_options.specs.declared.table.Sign.TheVariants as sign
use Rattle.exi_options.specs.declared.table.State.{State}
use Rattle.exi_options.specs.declared.table.State.TheVariants as state
use Rattle.exi_options.specs.Document.{Code, ahead, codes, flag}
use Rattle.exi_options.specs.Writing.{chosen, code_in, is_absent, is_name, is_told, opened, other_block, wanted, wants_common, wants_lesscommon, wants_preserve, wants_uncommon}
use Rattle.exi_options.proofs.Writes.{chosen_is}

-- ---- one code
abbrev with_flag : ℕ → Options → Options
with_flag k a = record a { flags = flag (bit_or a.flags.0 k) }

unfoldable pub gains : Options → Sign → Options → Options
gains o (sign.Opens e) a = a
gains o sign.Ends a = a
gains o (sign.Switch f) a = with_flag f.0 a
gains o sign.Byte a = with_flag 8 a
gains o sign.BlockSize a = record a { block = o.block }
gains o sign.ValueMaxLength a = record a { most = o.most }
gains o sign.ValuePartitionCapacity a = record a { capacity = o.capacity }
gains o sign.SchemaId a = a
gains o sign.Text a = record a { schema = o.schema }
gains o sign.False a = a
gains o sign.True a = record a { schema = schema.Nil }
gains o (sign.Refused p) a = a

-- ---- one code after another
unfoldable pub gathered_by : Options → State → Options → (State → Options → Options) → Option ℕ → Options
gathered_by o st a others None = a
gathered_by o st a others (Some place) = others (code_in st place).1 (gains o (code_in st place).0 a)

unfoldable pub gathered : ℕ → Options → State → Options → Options
gathered zero o st a = a
gathered (suc n) o st a = gathered_by o st a (gathered n o) (chosen o st)

stops_at : (n : ℕ) (o : Options) (st : State) (a : Options) → chosen o st ≡ None → gathered n o st a ≡ a
unfolding gathered gathered_by
stops_at zero o st a e = refl
stops_at (suc n) o st a e = ap (gathered_by o st a (gathered n o)) e

goes_by : (n : ℕ) (o : Options) (st : State) (a : Options) (place : ℕ) → chosen o st ≡ Some place → gathered (suc n) o st a ≡ gathered n o (code_in st place).1 (gains o (code_in st place).0 a)
unfolding gathered gathered_by
goes_by n o st a place e = ap (gathered_by o st a (gathered n o)) e

-- what is gathered does not hang on the number of codes that may come, where these are enough
none_to_come : (o : Options) (st : State) → ahead st ≤ 0 → chosen o st ≡ None
none_to_come o st le = by (chosen o st) refl
  where
    by : (c : Option ℕ) → chosen o st ≡ c → c ≡ None
    by None e = refl
    by (Some place) e = let less = (chosen_is o st place e).less in absurd (omega arith)

one_further : (n m : ℕ) (o : Options) (st : State) (a : Options) → ahead st ≤ suc n → ahead st ≤ suc m → ((next : State) (b : Options) → ahead next ≤ n → ahead next ≤ m → gathered n o next b ≡ gathered m o next b) → gathered (suc n) o st a ≡ gathered (suc m) o st a
one_further n m o st a le le' others = by (chosen o st) refl
  where
    by : (c : Option ℕ) → chosen o st ≡ c → gathered (suc n) o st a ≡ gathered (suc m) o st a
    by None e = stops_at (suc n) o st a e ∙ sym (stops_at (suc m) o st a e)
    by (Some place) e =
        let less = (chosen_is o st place e).less in
        goes_by n o st a place e ∙ others (code_in st place).1 (gains o (code_in st place).0 a) (omega arith) (omega arith) ∙ sym (goes_by m o st a place e)

enough : (n m : ℕ) (o : Options) (st : State) (a : Options) → ahead st ≤ n → ahead st ≤ m → gathered n o st a ≡ gathered m o st a
enough zero m o st a le le' = let none = none_to_come o st le in stops_at zero o st a none ∙ sym (stops_at m o st a none)
enough (suc n) zero o st a le le' = let none = none_to_come o st le' in stops_at (suc n) o st a none ∙ sym (stops_at zero o st a none)
enough (suc n) (suc m) o st a le le' = one_further n m o st a le le' (λ next b less less'. enough n m o next b less less')

abbrev all : Options → State → Options → Options
all o st a = gathered (ahead st) o st a

go : (o : Options) (st : State) (place : ℕ) (a : Options) → chosen o st ≡ Some place → all o st a ≡ all o (code_in st place).1 (gains o (code_in st place).0 a)
go o st place a e = by (ahead st) refl
  where
    less : ahead (code_in st place).1 < ahead st
    less = (chosen_is o st place e).less

    by : (n : ℕ) → ahead st ≡ n → gathered n o st a ≡ all o (code_in st place).1 (gains o (code_in st place).0 a)
    by zero is = absurd (omega (arith, is, less))
    by (suc n) is = goes_by n o st a place e ∙ enough n (ahead (code_in st place).1) o (code_in st place).1 (gains o (code_in st place).0 a) (omega (arith, is, less)) (omega arith)

-- ---- what each part gathers
abbrev on : ℕ → Options → Bool
on k o = eqb (bit_and o.flags.0 k) k

abbrev sw : ℕ → Options → Options → Options
sw k o a = record a { flags = flag (cond (on k o) (bit_or a.flags.0 k) a.flags.0) }

abbrev mo : Options → Options → Options
mo o a = record a { most = cond (is_told o.most) o.most a.most }

abbrev ca : Options → Options → Options
ca o a = record a { capacity = cond (is_told o.capacity) o.capacity a.capacity }

abbrev blk : Options → Options → Options
blk o a = record a { block = cond (other_block o) o.block a.block }

abbrev sch : Options → Options → Options
sch o a = record a { schema = cond (is_absent o.schema) a.schema (cond (is_name o.schema) o.schema schema.Nil) }

abbrev unc : Options → Options → Options
unc o a = ca o (mo o (sw 4 o (sw 8 o a)))

abbrev pres : Options → Options → Options
pres o a = sw 32 o (sw 16 o (sw 128 o (sw 64 o a)))

abbrev cmn : Options → Options → Options
cmn o a = sch o (sw 2 o a)

or_left_false : (a b : Bool) → a || b ≡ false → a ≡ false
or_left_false true b e = absurd cc
or_left_false false b e = refl

or_right_false : (a b : Bool) → a || b ≡ false → b ≡ false
or_right_false true b e = absurd cc
or_right_false false b e = e

not_false_is : (b : Bool) → not b ≡ false → b ≡ true
not_false_is true e = refl
not_false_is false e = absurd cc

after_strict : (o : Options) (a : Options) → all o state.HeaderAfterStrict a ≡ all o state.End a
unfolding codes gains wanted opened
after_strict o a =
    go o state.HeaderAfterStrict 0 a refl

after_common : (o : Options) (a : Options) → all o state.HeaderAfterCommon a ≡ all o state.End (sw 1 o a)
unfolding codes gains wanted opened
after_common o a =
    elim (cases_Bool (on 1 o)) [
      | inl e1 ↦ go o state.HeaderAfterCommon 0 a (rw e1 refl) ∙ after_strict o (with_flag 1 a) ∙ (rw e1 refl)
      | inr e1 ↦
          go o state.HeaderAfterCommon 1 a (rw e1 refl) ∙ (rw e1 refl)
    ]

after_schema : (o : Options) (a : Options) → all o state.CommonAfterSchemaId a ≡ all o state.HeaderAfterCommon a
unfolding codes gains wanted opened
after_schema o a =
    go o state.CommonAfterSchemaId 0 a refl

in_nil : (o : Options) (a : Options) → all o state.Nil a ≡ all o state.CommonAfterSchemaId (record a { schema = schema.Nil })
unfolding codes gains wanted opened
in_nil o a =
    go o state.Nil 1 a refl

in_schema : (o : Options) (a : Options) → is_absent o.schema ≡ false → all o state.SchemaId a ≡ all o state.HeaderAfterCommon (sch o a)
unfolding codes gains wanted opened
in_schema o a e0 =
    elim (cases_Bool (is_name o.schema)) [
      | inl e1 ↦ go o state.SchemaId 0 a (rw e1 refl) ∙ after_schema o (record a { schema = o.schema }) ∙ (rw (e0, e1) refl)
      | inr e1 ↦
          go o state.SchemaId 1 a (rw e1 refl) ∙ in_nil o a ∙ after_schema o (record a { schema = schema.Nil }) ∙ (rw (e0, e1) refl)
    ]

after_fragment : (o : Options) (a : Options) → all o state.CommonAfterFragment a ≡ all o state.HeaderAfterCommon (sch o a)
unfolding codes gains wanted opened
after_fragment o a =
    elim (cases_Bool (is_absent o.schema)) [
      | inl e1 ↦ go o state.CommonAfterFragment 1 a (rw e1 refl) ∙ (rw e1 refl)
      | inr e1 ↦ go o state.CommonAfterFragment 0 a (rw e1 refl) ∙ in_schema o a e1
    ]

in_common : (o : Options) (a : Options) → all o state.Common a ≡ all o state.HeaderAfterCommon (cmn o a)
unfolding codes gains wanted opened
in_common o a =
    elim (cases_Bool (on 2 o)) [
      | inl e1 ↦ go o state.Common 1 a (rw e1 refl) ∙ after_fragment o (with_flag 2 a) ∙ (rw e1 refl)
      | inr e1 ↦
          elim (cases_Bool (is_absent o.schema)) [
            | inl e2 ↦ go o state.Common 3 a (rw (e1, e2) refl) ∙ (rw (e1, e2) refl)
            | inr e2 ↦ go o state.Common 2 a (rw (e1, e2) refl) ∙ in_schema o a e2 ∙ (rw e1 refl)
          ]
    ]

common_skipped : (o : Options) (a : Options) → wants_common o ≡ false → cmn o a ≡ a
common_skipped o a e =
    let one = or_left_false (on 2 o) (not (is_absent o.schema)) e in
    let two = not_false_is (is_absent o.schema) (or_right_false (on 2 o) (not (is_absent o.schema)) e) in
    rw (one, two) refl

after_lesscommon : (o : Options) (a : Options) → all o state.HeaderAfterLesscommon a ≡ all o state.End (sw 1 o (cmn o a))
unfolding codes gains wanted opened
after_lesscommon o a =
    elim (cases_Bool (wants_common o)) [
      | inl e1 ↦ go o state.HeaderAfterLesscommon 0 a (rw e1 refl) ∙ in_common o a ∙ after_common o (cmn o a)
      | inr e1 ↦
          let skipped = ap (λ (b : Options). all o state.End (sw 1 o b)) (sym (common_skipped o a e1)) in
          elim (cases_Bool (on 1 o)) [
            | inl e2 ↦ go o state.HeaderAfterLesscommon 1 a (rw (e1, e2) refl) ∙ after_strict o (with_flag 1 a) ∙ (rw e2 refl) ∙ skipped
            | inr e2 ↦ go o state.HeaderAfterLesscommon 2 a (rw (e1, e2) refl) ∙ (rw e2 refl) ∙ skipped
          ]
    ]

after_block : (o : Options) (a : Options) → all o state.LesscommonAfterBlockSize a ≡ all o state.HeaderAfterLesscommon a
unfolding codes gains wanted opened
after_block o a =
    go o state.LesscommonAfterBlockSize 0 a refl

after_preserve : (o : Options) (a : Options) → all o state.LesscommonAfterPreserve a ≡ all o state.HeaderAfterLesscommon (blk o a)
unfolding codes gains wanted opened
after_preserve o a =
    elim (cases_Bool (other_block o)) [
      | inl e1 ↦ go o state.LesscommonAfterPreserve 0 a (rw e1 refl) ∙ after_block o (record a { block = o.block }) ∙ (rw e1 refl)
      | inr e1 ↦
          go o state.LesscommonAfterPreserve 1 a (rw e1 refl) ∙ (rw e1 refl)
    ]

after_pis : (o : Options) (a : Options) → all o state.PreserveAfterPis a ≡ all o state.LesscommonAfterPreserve a
unfolding codes gains wanted opened
after_pis o a =
    go o state.PreserveAfterPis 0 a refl

after_comments : (o : Options) (a : Options) → all o state.PreserveAfterComments a ≡ all o state.LesscommonAfterPreserve (sw 32 o a)
unfolding codes gains wanted opened
after_comments o a =
    elim (cases_Bool (on 32 o)) [
      | inl e1 ↦ go o state.PreserveAfterComments 0 a (rw e1 refl) ∙ after_pis o (with_flag 32 a) ∙ (rw e1 refl)
      | inr e1 ↦
          go o state.PreserveAfterComments 1 a (rw e1 refl) ∙ (rw e1 refl)
    ]

after_prefixes : (o : Options) (a : Options) → all o state.PreserveAfterPrefixes a ≡ all o state.LesscommonAfterPreserve (sw 32 o (sw 16 o a))
unfolding codes gains wanted opened
after_prefixes o a =
    elim (cases_Bool (on 16 o)) [
      | inl e1 ↦ go o state.PreserveAfterPrefixes 1 a (rw e1 refl) ∙ after_comments o (with_flag 16 a) ∙ (rw e1 refl)
      | inr e1 ↦
          elim (cases_Bool (on 32 o)) [
            | inl e2 ↦ go o state.PreserveAfterPrefixes 2 a (rw (e1, e2) refl) ∙ after_pis o (with_flag 32 a) ∙ (rw (e1, e2) refl)
            | inr e2 ↦
                go o state.PreserveAfterPrefixes 3 a (rw (e1, e2) refl) ∙ (rw (e1, e2) refl)
          ]
    ]

after_dtd : (o : Options) (a : Options) → all o state.PreserveAfterDtd a ≡ all o state.LesscommonAfterPreserve (sw 32 o (sw 16 o (sw 128 o a)))
unfolding codes gains wanted opened
after_dtd o a =
    elim (cases_Bool (on 128 o)) [
      | inl e1 ↦ go o state.PreserveAfterDtd 0 a (rw e1 refl) ∙ after_prefixes o (with_flag 128 a) ∙ (rw e1 refl)
      | inr e1 ↦
          elim (cases_Bool (on 16 o)) [
            | inl e2 ↦ go o state.PreserveAfterDtd 2 a (rw (e1, e2) refl) ∙ after_comments o (with_flag 16 a) ∙ (rw (e1, e2) refl)
            | inr e2 ↦
                elim (cases_Bool (on 32 o)) [
                  | inl e3 ↦ go o state.PreserveAfterDtd 3 a (rw (e1, e2, e3) refl) ∙ after_pis o (with_flag 32 a) ∙ (rw (e1, e2, e3) refl)
                  | inr e3 ↦
                      go o state.PreserveAfterDtd 4 a (rw (e1, e2, e3) refl) ∙ (rw (e1, e2, e3) refl)
                ]
          ]
    ]

in_preserve : (o : Options) (a : Options) → all o state.Preserve a ≡ all o state.LesscommonAfterPreserve (pres o a)
unfolding codes gains wanted opened
in_preserve o a =
    elim (cases_Bool (on 64 o)) [
      | inl e1 ↦ go o state.Preserve 0 a (rw e1 refl) ∙ after_dtd o (with_flag 64 a) ∙ (rw e1 refl)
      | inr e1 ↦
          elim (cases_Bool (on 128 o)) [
            | inl e2 ↦ go o state.Preserve 1 a (rw (e1, e2) refl) ∙ after_prefixes o (with_flag 128 a) ∙ (rw (e1, e2) refl)
            | inr e2 ↦
                elim (cases_Bool (on 16 o)) [
                  | inl e3 ↦ go o state.Preserve 3 a (rw (e1, e2, e3) refl) ∙ after_comments o (with_flag 16 a) ∙ (rw (e1, e2, e3) refl)
                  | inr e3 ↦
                      elim (cases_Bool (on 32 o)) [
                        | inl e4 ↦ go o state.Preserve 4 a (rw (e1, e2, e3, e4) refl) ∙ after_pis o (with_flag 32 a) ∙ (rw (e1, e2, e3, e4) refl)
                        | inr e4 ↦
                            go o state.Preserve 5 a (rw (e1, e2, e3, e4) refl) ∙ (rw (e1, e2, e3, e4) refl)
                      ]
                ]
          ]
    ]

preserve_skipped : (o : Options) (a : Options) → wants_preserve o ≡ false → pres o a ≡ a
preserve_skipped o a e =
    let d = or_left_false (on 64 o) (on 128 o || (on 16 o || on 32 o)) e in
    let e2 = or_right_false (on 64 o) (on 128 o || (on 16 o || on 32 o)) e in
    let p = or_left_false (on 128 o) (on 16 o || on 32 o) e2 in
    let e3 = or_right_false (on 128 o) (on 16 o || on 32 o) e2 in
    let c = or_left_false (on 16 o) (on 32 o) e3 in
    let i = or_right_false (on 16 o) (on 32 o) e3 in
    rw (d, p, c, i) refl

after_uncommon : (o : Options) (a : Options) → all o state.LesscommonAfterUncommon a ≡ all o state.HeaderAfterLesscommon (blk o (pres o a))
unfolding codes gains wanted opened
after_uncommon o a =
    elim (cases_Bool (wants_preserve o)) [
      | inl e1 ↦ go o state.LesscommonAfterUncommon 0 a (rw e1 refl) ∙ in_preserve o a ∙ after_preserve o (pres o a)
      | inr e1 ↦
          let skipped = ap (λ (b : Options). all o state.HeaderAfterLesscommon (blk o b)) (sym (preserve_skipped o a e1)) in
          elim (cases_Bool (other_block o)) [
            | inl e2 ↦ go o state.LesscommonAfterUncommon 1 a (rw (e1, e2) refl) ∙ after_block o (record a { block = o.block }) ∙ (rw e2 refl) ∙ skipped
            | inr e2 ↦ go o state.LesscommonAfterUncommon 2 a (rw (e1, e2) refl) ∙ (rw e2 refl) ∙ skipped
          ]
    ]

after_capacity : (o : Options) (a : Options) → all o state.UncommonAfterValuePartitionCapacity a ≡ all o state.LesscommonAfterUncommon a
unfolding codes gains wanted opened
after_capacity o a =
    go o state.UncommonAfterValuePartitionCapacity 1 a refl

after_most : (o : Options) (a : Options) → all o state.UncommonAfterValueMaxLength a ≡ all o state.LesscommonAfterUncommon (ca o a)
unfolding codes gains wanted opened
after_most o a =
    elim (cases_Bool (is_told o.capacity)) [
      | inl e1 ↦ go o state.UncommonAfterValueMaxLength 0 a (rw e1 refl) ∙ after_capacity o (record a { capacity = o.capacity }) ∙ (rw e1 refl)
      | inr e1 ↦
          go o state.UncommonAfterValueMaxLength 2 a (rw e1 refl) ∙ (rw e1 refl)
    ]

after_contained : (o : Options) (a : Options) → all o state.UncommonAfterSelfContained a ≡ all o state.LesscommonAfterUncommon (ca o (mo o a))
unfolding codes gains wanted opened
after_contained o a =
    elim (cases_Bool (is_told o.most)) [
      | inl e1 ↦ go o state.UncommonAfterSelfContained 0 a (rw e1 refl) ∙ after_most o (record a { most = o.most }) ∙ (rw e1 refl)
      | inr e1 ↦
          elim (cases_Bool (is_told o.capacity)) [
            | inl e2 ↦ go o state.UncommonAfterSelfContained 1 a (rw (e1, e2) refl) ∙ after_capacity o (record a { capacity = o.capacity }) ∙ (rw (e1, e2) refl)
            | inr e2 ↦
                go o state.UncommonAfterSelfContained 3 a (rw (e1, e2) refl) ∙ (rw (e1, e2) refl)
          ]
    ]

after_alignment : (o : Options) (a : Options) → all o state.UncommonAfterAlignment a ≡ all o state.LesscommonAfterUncommon (ca o (mo o (sw 4 o a)))
unfolding codes gains wanted opened
after_alignment o a =
    elim (cases_Bool (on 4 o)) [
      | inl e1 ↦ go o state.UncommonAfterAlignment 0 a (rw e1 refl) ∙ after_contained o (with_flag 4 a) ∙ (rw e1 refl)
      | inr e1 ↦
          elim (cases_Bool (is_told o.most)) [
            | inl e2 ↦ go o state.UncommonAfterAlignment 1 a (rw (e1, e2) refl) ∙ after_most o (record a { most = o.most }) ∙ (rw (e1, e2) refl)
            | inr e2 ↦
                elim (cases_Bool (is_told o.capacity)) [
                  | inl e3 ↦ go o state.UncommonAfterAlignment 2 a (rw (e1, e2, e3) refl) ∙ after_capacity o (record a { capacity = o.capacity }) ∙ (rw (e1, e2, e3) refl)
                  | inr e3 ↦
                      go o state.UncommonAfterAlignment 4 a (rw (e1, e2, e3) refl) ∙ (rw (e1, e2, e3) refl)
                ]
          ]
    ]

after_byte : (o : Options) (a : Options) → all o state.AlignmentAfterByte a ≡ all o state.UncommonAfterAlignment a
unfolding codes gains wanted opened
after_byte o a =
    go o state.AlignmentAfterByte 0 a refl

in_alignment : (o : Options) (a : Options) → all o state.Alignment a ≡ all o state.AlignmentAfterByte (with_flag 8 a)
unfolding codes gains wanted opened
in_alignment o a =
    go o state.Alignment 0 a refl

in_uncommon : (o : Options) (a : Options) → all o state.Uncommon a ≡ all o state.LesscommonAfterUncommon (unc o a)
unfolding codes gains wanted opened
in_uncommon o a =
    elim (cases_Bool (on 8 o)) [
      | inl e1 ↦ go o state.Uncommon 0 a (rw e1 refl) ∙ in_alignment o a ∙ after_byte o (with_flag 8 a) ∙ after_alignment o (with_flag 8 a) ∙ (rw e1 refl)
      | inr e1 ↦
          elim (cases_Bool (on 4 o)) [
            | inl e2 ↦ go o state.Uncommon 1 a (rw (e1, e2) refl) ∙ after_contained o (with_flag 4 a) ∙ (rw (e1, e2) refl)
            | inr e2 ↦
                elim (cases_Bool (is_told o.most)) [
                  | inl e3 ↦ go o state.Uncommon 2 a (rw (e1, e2, e3) refl) ∙ after_most o (record a { most = o.most }) ∙ (rw (e1, e2, e3) refl)
                  | inr e3 ↦
                      elim (cases_Bool (is_told o.capacity)) [
                        | inl e4 ↦ go o state.Uncommon 3 a (rw (e1, e2, e3, e4) refl) ∙ after_capacity o (record a { capacity = o.capacity }) ∙ (rw (e1, e2, e3, e4) refl)
                        | inr e4 ↦
                            go o state.Uncommon 6 a (rw (e1, e2, e3, e4) refl) ∙ (rw (e1, e2, e3, e4) refl)
                      ]
                ]
          ]
    ]

uncommon_skipped : (o : Options) (a : Options) → wants_uncommon o ≡ false → unc o a ≡ a
uncommon_skipped o a e =
    let b = or_left_false (on 8 o) (on 4 o || (is_told o.most || is_told o.capacity)) e in
    let e2 = or_right_false (on 8 o) (on 4 o || (is_told o.most || is_told o.capacity)) e in
    let s = or_left_false (on 4 o) (is_told o.most || is_told o.capacity) e2 in
    let e3 = or_right_false (on 4 o) (is_told o.most || is_told o.capacity) e2 in
    let m = or_left_false (is_told o.most) (is_told o.capacity) e3 in
    let c = or_right_false (is_told o.most) (is_told o.capacity) e3 in
    rw (b, s, m, c) refl

in_lesscommon : (o : Options) (a : Options) → all o state.Lesscommon a ≡ all o state.HeaderAfterLesscommon (blk o (pres o (unc o a)))
unfolding codes gains wanted opened
in_lesscommon o a =
    elim (cases_Bool (wants_uncommon o)) [
      | inl e1 ↦ go o state.Lesscommon 0 a (rw e1 refl) ∙ in_uncommon o a ∙ after_uncommon o (unc o a)
      | inr e1 ↦
          let none = ap (λ (b : Options). all o state.HeaderAfterLesscommon (blk o (pres o b))) (sym (uncommon_skipped o a e1)) in
          elim (cases_Bool (wants_preserve o)) [
            | inl e2 ↦ go o state.Lesscommon 1 a (rw (e1, e2) refl) ∙ in_preserve o a ∙ after_preserve o (pres o a) ∙ none
            | inr e2 ↦
                let skipped = ap (λ (b : Options). all o state.HeaderAfterLesscommon (blk o b)) (sym (preserve_skipped o a e2)) in
                elim (cases_Bool (other_block o)) [
                  | inl e3 ↦ go o state.Lesscommon 2 a (rw (e1, e2, e3) refl) ∙ after_block o (record a { block = o.block }) ∙ (rw e3 refl) ∙ skipped ∙ none
                  | inr e3 ↦ go o state.Lesscommon 3 a (rw (e1, e2, e3) refl) ∙ (rw e3 refl) ∙ skipped ∙ none
                ]
          ]
    ]

lesscommon_skipped : (o : Options) (a : Options) → wants_lesscommon o ≡ false → blk o (pres o (unc o a)) ≡ a
lesscommon_skipped o a e =
    let u = or_left_false (wants_uncommon o) (wants_preserve o || other_block o) e in
    let e2 = or_right_false (wants_uncommon o) (wants_preserve o || other_block o) e in
    let p = or_left_false (wants_preserve o) (other_block o) e2 in
    let b = or_right_false (wants_preserve o) (other_block o) e2 in
    ap (λ (x : Options). blk o (pres o x)) (uncommon_skipped o a u) ∙ ap (λ (x : Options). blk o x) (preserve_skipped o a p) ∙ (rw b refl)

in_header : (o : Options) (a : Options) → all o state.Header a ≡ all o state.End (sw 1 o (cmn o (blk o (pres o (unc o a)))))
unfolding codes gains wanted opened
in_header o a =
    elim (cases_Bool (wants_lesscommon o)) [
      | inl e1 ↦ go o state.Header 0 a (rw e1 refl) ∙ in_lesscommon o a ∙ after_lesscommon o (blk o (pres o (unc o a)))
      | inr e1 ↦
          let none = ap (λ (b : Options). all o state.End (sw 1 o (cmn o b))) (sym (lesscommon_skipped o a e1)) in
          elim (cases_Bool (wants_common o)) [
            | inl e2 ↦ go o state.Header 1 a (rw (e1, e2) refl) ∙ in_common o a ∙ after_common o (cmn o a) ∙ none
            | inr e2 ↦
                let skipped = ap (λ (b : Options). all o state.End (sw 1 o b)) (sym (common_skipped o a e2)) in
                elim (cases_Bool (on 1 o)) [
                  | inl e3 ↦ go o state.Header 2 a (rw (e1, e2, e3) refl) ∙ after_strict o (with_flag 1 a) ∙ (rw e3 refl) ∙ skipped ∙ none
                  | inr e3 ↦ go o state.Header 3 a (rw (e1, e2, e3) refl) ∙ (rw e3 refl) ∙ skipped ∙ none
                ]
          ]
    ]

in_document : (o : Options) (a : Options) → all o state.Document a ≡ all o state.Header a
unfolding codes gains wanted opened
in_document o a =
    go o state.Document 0 a refl

-- ---- the flags, told one by one
rebuilt : ℕ → ℕ
rebuilt f =
    let add : ℕ → ℕ → ℕ = λ k x. cond (eqb (bit_and f k) k) (bit_or x k) x in
    add 1 (add 2 (add 32 (add 16 (add 128 (add 64 (add 4 (add 8 0)))))))

all_below : ℕ → (ℕ → Bool) → Bool
all_below zero test = true
all_below (suc n) test = test n && all_below n test

below_all : (n : ℕ) (test : ℕ → Bool) (i : ℕ) → all_below n test ≡ true → i < n → test i ≡ true
unfolding all_below
below_all zero test i e lt = absurd (omega arith)
below_all (suc n) test i e lt =
    let p = and_parts (test n) (all_below n test) e in
    elim (cases_lt i n) [
      | inl less ↦ below_all n test i p.1 less
      | inr more ↦ let same : n ≡ i = omega arith in subst (λ (k : ℕ). test k ≡ true) same p.0
    ]

all_rebuilt : all_below 256 (λ f. eqb (rebuilt f) f) ≡ true
unfolding all_below rebuilt
all_rebuilt = refl

rebuilt_is : (f : ℕ) → f < 256 → rebuilt f ≡ f
rebuilt_is f lt = eqb-true (rebuilt f) f (below_all 256 (λ f. eqb (rebuilt f) f) f all_rebuilt lt)

block_is : (b : ℕ) → cond (not (eqb b 1_000_000)) b 1_000_000 ≡ b
block_is b = elim (cases_Bool (eqb b 1_000_000)) [
  | inl e ↦ rw e (sym (eqb-true b 1_000_000 e))
  | inr e ↦ rw e refl
]

bound_is : (m : Option ℕ) → cond (is_told m) m None ≡ m
bound_is None = refl
bound_is (Some n) = refl

schema_is : (s : SchemaWord) → cond (is_absent s) schema.Absent (cond (is_name s) s schema.Nil) ≡ s
schema_is schema.Absent = refl
schema_is schema.Nil = refl
schema_is (schema.Id name) = refl

-- all that is gathered is what is written
pub all_gathered : (o : Options) → o.flags.0 < 256 → all o state.Document default_options ≡ o
unfolding ahead gathered rebuilt
all_gathered o lt =
    in_document o default_options ∙ in_header o default_options
    ∙ ap (λ (f : ℕ). record { flags = flag f; schema = cond (is_absent o.schema) schema.Absent (cond (is_name o.schema) o.schema schema.Nil); block = cond (not (eqb o.block 1_000_000)) o.block 1_000_000; most = cond (is_told o.most) o.most None; capacity = cond (is_told o.capacity) o.capacity None }) (rebuilt_is o.flags.0 lt)
    ∙ ap (λ (s : SchemaWord). record { flags = o.flags; schema = s; block = cond (not (eqb o.block 1_000_000)) o.block 1_000_000; most = cond (is_told o.most) o.most None; capacity = cond (is_told o.capacity) o.capacity None }) (schema_is o.schema)
    ∙ ap (λ (b : ℕ). record { flags = o.flags; schema = o.schema; block = b; most = cond (is_told o.most) o.most None; capacity = cond (is_told o.capacity) o.capacity None }) (block_is o.block)
    ∙ ap (λ (m : Option ℕ). record { flags = o.flags; schema = o.schema; block = o.block; most = m; capacity = cond (is_told o.capacity) o.capacity None }) (bound_is o.most)
    ∙ ap (λ (c : Option ℕ). record { flags = o.flags; schema = o.schema; block = o.block; most = o.most; capacity = c }) (bound_is o.capacity)
