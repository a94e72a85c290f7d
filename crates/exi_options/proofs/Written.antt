-- What is written is spelled so, and read again.
use Rattle.std.proofs.Common.{◌≡◌, ℕ, zero, suc, ◌+◌, ◌^◌, ◌<◌, ◌≤◌, Bool, true, false, cond, ◌&&◌, ◌||◌, eqb, ltb, List, [], ◌∷◌, ◌++◌, length, append_assoc, Option, Some, None, Ok, refl, sym, ap, ◌∙◌, subst, inl, inr, arith}
use Rattle.std.specs.Prelude.{IfSome, position}
use Rattle.std.specs.List.{position_or_len}
use Rattle.std.proofs.lemmas.Bool.{cases_Bool, lt-ltb, ltb-true}
use Rattle.exi_bits.specs.declared.align.Align.TheVariants as align
use Rattle.exi_bits.specs.Bits.{IsBytes, Spot, bits, moved, number_bits, rest}
use Rattle.exi_bits.specs.Unsigned.{shortest}
use Rattle.exi_bits.specs.Widths.{width_for}
use Rattle.exi_bits.proofs.UnsignedLaws.{shortest_spelled}
use Rattle.exi_gram.specs.declared.options.Options.{Options}
use Rattle.exi_gram.specs.declared.options.SchemaWord.{SchemaWord}
use Rattle.exi_gram.specs.declared.options.SchemaWord.TheVariants as schema
use Rattle.exi_gram.specs.Switches.{conflicts}
use Rattle.exi_items.specs.Spellings.{SpellsUnsigned}
use Rattle.exi_text.specs.Literals.{chars_bits}
use Rattle.exi_text.proofs.Letters.{chars_written}
use Rattle.exi_options.specs.declared.table.Element.{Element}
use Rattle.exi_options.specs.declared.table.Element.TheVariants as element
use Rattle.exi_options.specs.declared.table.Sign.{Sign}
use Rattle.exi_options.specs.declared.table.Sign.TheVariants as sign
use Rattle.exi_options.specs.declared.table.State.{State}
use Rattle.exi_options.specs.declared.table.State.TheVariants as state
use Rattle.exi_options.specs.declared.told.Told.{Told}
use Rattle.exi_options.specs.Document.{Code, ahead, codes, flag}
use Rattle.exi_options.specs.Reading.{options_at, switched, untold, with_block, with_capacity, with_most, with_schema, with_schema_bit}
use Rattle.exi_options.specs.Writing.{IsNamable, chosen, code_in, is_absent, is_name, is_told, name_bits, number_or_none, opened, options_bits, piece, schema_bits, value_bits, wanted, written_by, written_from}
use Rattle.exi_options.specs.Spelled.{Begins, IsCodeOf, Spells, SpellsName, SpellsTold, Tells, TellsName, TellsNumber}
use Rattle.exi_options.specs.Laws.{IsTellable, WrittenIsRead, WrittenIsSpelled}
use Rattle.exi_options.proofs.Gathered.{all_gathered, gains, gathered, gathered_by}
use Rattle.exi_options.proofs.SpelledSteps.{no_codes, spelled_read}
use Rattle.exi_options.proofs.Tables.{lives}
use Rattle.exi_options.proofs.Writes.{chosen_is}

-- ---- one code
-- what is told with a code of the options that are written
gained : Options → Sign → ℕ → Told → Told
gained o (sign.Opens e) bit t = t
gained o sign.Ends bit t = t
gained o (sign.Switch f) bit t = switched f t
gained o sign.Byte bit t = switched (flag 8) t
gained o sign.BlockSize bit t = with_block o.block t
gained o sign.ValueMaxLength bit t = record t { options = record t.options { most = o.most } }
gained o sign.ValuePartitionCapacity bit t = record t { options = record t.options { capacity = o.capacity } }
gained o sign.SchemaId bit t = with_schema_bit bit t
gained o sign.Text bit t = with_schema o.schema t
gained o sign.False bit t = t
gained o sign.True bit t = with_schema schema.Nil t
gained o (sign.Refused p) bit t = t

gained_is : (o : Options) (s : Sign) (bit : ℕ) (t : Told) → (gained o s bit t).options ≡ gains o s t.options
unfolding gained gains
gained_is o (sign.Opens e) bit t = refl
gained_is o sign.Ends bit t = refl
gained_is o (sign.Switch f) bit t = refl
gained_is o sign.Byte bit t = refl
gained_is o sign.BlockSize bit t = refl
gained_is o sign.ValueMaxLength bit t = refl
gained_is o sign.ValuePartitionCapacity bit t = refl
gained_is o sign.SchemaId bit t = refl
gained_is o sign.Text bit t = refl
gained_is o sign.False bit t = refl
gained_is o sign.True bit t = refl
gained_is o (sign.Refused p) bit t = refl

number_spelled : (n : ℕ) → n < 2 ^ 128 → SpellsUnsigned n (bits (shortest n))
number_spelled n low = record { octets = shortest n; unsigned = shortest_spelled n low; bits = refl }

bound_tells : (m : Option ℕ) (f : Option ℕ → Told) → IfSome m (λ n. n < 2 ^ 128) → is_told m ≡ true → TellsNumber (λ n. f (Some n)) (f m) (number_or_none m)
bound_tells None f low e = absurd cc
bound_tells (Some n) f low e = record { number = n; spelled = number_spelled n low; told = refl }

name_spelled : (name : List ℕ) → IsNamable (schema.Id name) → SpellsName name (name_bits name)
name_spelled name fits = record {
  length_bits = bits (shortest (length name + 2));
  characters = chars_bits None align.Bits name;
  parts = refl;
  few = fits.1;
  counted = number_spelled (length name + 2) (let few = fits.1 in omega arith);
  each = chars_written None align.Bits name fits.0;
}

schema_tells : (w : SchemaWord) (f : SchemaWord → Told) → IsNamable w → is_name w ≡ true → TellsName (λ name. f (schema.Id name)) (f w) (schema_bits w)
schema_tells schema.Absent f fits e = absurd cc
schema_tells schema.Nil f fits e = absurd cc
schema_tells (schema.Id name) f fits e = record { name = name; spelled = name_spelled name fits; told = refl }

value_tells : (o : Options) (s : Sign) (bit : ℕ) (t : Told) → IsTellable o → wanted o s ≡ true → Tells s bit t (gained o s bit t) (value_bits o s)
unfolding Tells gained value_bits wanted
value_tells o (sign.Opens e) bit t fits h = (refl, refl)
value_tells o sign.Ends bit t fits h = (refl, refl)
value_tells o (sign.Switch f) bit t fits h = (refl, refl)
value_tells o sign.Byte bit t fits h = (refl, refl)
value_tells o sign.BlockSize bit t fits h = record { number = o.block; spelled = number_spelled o.block fits.block; told = refl }
value_tells o sign.ValueMaxLength bit t fits h = bound_tells o.most (λ m. record t { options = record t.options { most = m } }) fits.most h
value_tells o sign.ValuePartitionCapacity bit t fits h = bound_tells o.capacity (λ m. record t { options = record t.options { capacity = m } }) fits.capacity h
value_tells o sign.SchemaId bit t fits h = (refl, refl)
value_tells o sign.Text bit t fits h = schema_tells o.schema (λ w. with_schema w t) fits.name h
value_tells o sign.False bit t fits h = absurd cc
value_tells o sign.True bit t fits h = (refl, refl)
value_tells o (sign.Refused p) bit t fits h = absurd cc

-- ---- where there are codes one of them is wanted
is_sure_element : Element → Bool
is_sure_element element.Header = true
is_sure_element element.Lesscommon = false
is_sure_element element.Uncommon = false
is_sure_element element.Alignment = false
is_sure_element element.Preserve = false
is_sure_element element.Common = false
is_sure_element element.Nil = true

is_sure : Sign → Bool
is_sure (sign.Opens e) = is_sure_element e
is_sure sign.Ends = true
is_sure (sign.Switch f) = false
is_sure sign.Byte = true
is_sure sign.BlockSize = false
is_sure sign.ValueMaxLength = false
is_sure sign.ValuePartitionCapacity = false
is_sure sign.SchemaId = false
is_sure sign.Text = false
is_sure sign.False = false
is_sure sign.True = true
is_sure (sign.Refused p) = false

sure_opened : (o : Options) (e : Element) → is_sure_element e ≡ true → opened o e ≡ true
unfolding is_sure_element opened
sure_opened o element.Header h = refl
sure_opened o element.Lesscommon h = absurd cc
sure_opened o element.Uncommon h = absurd cc
sure_opened o element.Alignment h = absurd cc
sure_opened o element.Preserve h = absurd cc
sure_opened o element.Common h = absurd cc
sure_opened o element.Nil h = refl

sure_wanted : (o : Options) (s : Sign) → is_sure s ≡ true → wanted o s ≡ true
unfolding is_sure wanted
sure_wanted o (sign.Opens e) h = sure_opened o e h
sure_wanted o sign.Ends h = refl
sure_wanted o (sign.Switch f) h = absurd cc
sure_wanted o sign.Byte h = refl
sure_wanted o sign.BlockSize h = absurd cc
sure_wanted o sign.ValueMaxLength h = absurd cc
sure_wanted o sign.ValuePartitionCapacity h = absurd cc
sure_wanted o sign.SchemaId h = absurd cc
sure_wanted o sign.Text h = absurd cc
sure_wanted o sign.False h = absurd cc
sure_wanted o sign.True h = refl
sure_wanted o (sign.Refused p) h = absurd cc

any_sure : List Code → Bool
any_sure [] = false
any_sure (c ∷ cs) = is_sure c.0 || any_sure cs

finds : (o : Options) (cs : List Code) → any_sure cs ≡ true → position_or_len (λ c. wanted o c.0) cs < length cs
unfolding any_sure
finds o [] e = absurd cc
finds o (c ∷ cs) e = elim (cases_Bool (wanted o c.0)) [
  | inl yes_is ↦ rw yes_is (omega arith)
  | inr no_is ↦ elim (cases_Bool (is_sure c.0)) [
    | inl sure ↦ let h = sure_wanted o c.0 sure in absurd (cc)
    | inr unsure ↦
        let others : any_sure cs ≡ true = (rw unsure refl) ∙ e in
        let k = finds o cs others in
        rw no_is (omega arith)
  ]
]

not_none : (o : Options) (st : State) → any_sure (codes st) ≡ true → chosen o st ≡ None → ⊥
not_none o st sure e =
    let k = finds o (codes st) sure in
    let some : chosen o st ≡ Some (position_or_len (λ c. wanted o c.0) (codes st)) = rw (lt-ltb (position_or_len (λ c. wanted o c.0) (codes st)) (length (codes st)) k) refl in
    absurd (cc)

none_is_none : (o : Options) (st : State) → chosen o st ≡ None → codes st ≡ []
unfolding any_sure is_sure is_sure_element codes
none_is_none o state.Document e = absurd (not_none o state.Document refl e)
none_is_none o state.Header e = absurd (not_none o state.Header refl e)
none_is_none o state.HeaderAfterLesscommon e = absurd (not_none o state.HeaderAfterLesscommon refl e)
none_is_none o state.HeaderAfterCommon e = absurd (not_none o state.HeaderAfterCommon refl e)
none_is_none o state.HeaderAfterStrict e = absurd (not_none o state.HeaderAfterStrict refl e)
none_is_none o state.Lesscommon e = absurd (not_none o state.Lesscommon refl e)
none_is_none o state.LesscommonAfterUncommon e = absurd (not_none o state.LesscommonAfterUncommon refl e)
none_is_none o state.LesscommonAfterPreserve e = absurd (not_none o state.LesscommonAfterPreserve refl e)
none_is_none o state.LesscommonAfterBlockSize e = absurd (not_none o state.LesscommonAfterBlockSize refl e)
none_is_none o state.Uncommon e = absurd (not_none o state.Uncommon refl e)
none_is_none o state.UncommonAfterAlignment e = absurd (not_none o state.UncommonAfterAlignment refl e)
none_is_none o state.UncommonAfterSelfContained e = absurd (not_none o state.UncommonAfterSelfContained refl e)
none_is_none o state.UncommonAfterValueMaxLength e = absurd (not_none o state.UncommonAfterValueMaxLength refl e)
none_is_none o state.UncommonAfterValuePartitionCapacity e = absurd (not_none o state.UncommonAfterValuePartitionCapacity refl e)
none_is_none o state.Alignment e = absurd (not_none o state.Alignment refl e)
none_is_none o state.AlignmentAfterByte e = absurd (not_none o state.AlignmentAfterByte refl e)
none_is_none o state.Preserve e = absurd (not_none o state.Preserve refl e)
none_is_none o state.PreserveAfterDtd e = absurd (not_none o state.PreserveAfterDtd refl e)
none_is_none o state.PreserveAfterPrefixes e = absurd (not_none o state.PreserveAfterPrefixes refl e)
none_is_none o state.PreserveAfterComments e = absurd (not_none o state.PreserveAfterComments refl e)
none_is_none o state.PreserveAfterPis e = absurd (not_none o state.PreserveAfterPis refl e)
none_is_none o state.Common e = absurd (not_none o state.Common refl e)
none_is_none o state.CommonAfterFragment e = absurd (not_none o state.CommonAfterFragment refl e)
none_is_none o state.CommonAfterSchemaId e = absurd (not_none o state.CommonAfterSchemaId refl e)
none_is_none o state.SchemaId e = absurd (not_none o state.SchemaId refl e)
none_is_none o state.Nil e = absurd (not_none o state.Nil refl e)
none_is_none o state.End e = refl

-- ---- one code after another
record Path (n : ℕ) (o : Options) (st : State) (bit : ℕ) (t : Told) : Type 0 where
  through : List Code
  last : Told
  spelled : Spells through st bit t last (written_from n o st)
  gathers : last.options ≡ gathered n o st t.options

no_path : (n : ℕ) (o : Options) (st : State) (bit : ℕ) (t : Told) → codes st ≡ [] → written_from n o st ≡ [] → gathered n o st t.options ≡ t.options → Path n o st bit t
unfolding Spells
no_path n o st bit t none written same = record { through = []; last = t; spelled = (none, refl, written); gathers = sym same }

by_code : (n : ℕ) (o : Options) (st : State) (bit : ℕ) (t : Told) (place : ℕ) → IsTellable o → chosen o st ≡ Some place → Path n o (code_in st place).1 (bit + length (number_bits (width_for (length (codes st))) place) + length (value_bits o (code_in st place).0)) (gained o (code_in st place).0 bit t) → Path (suc n) o st bit t
unfolding Spells gathered gathered_by
by_code n o st bit t place fits e p =
    let k = chosen_is o st place e in
    let code = number_bits (width_for (length (codes st))) place in
    let value = value_bits o (code_in st place).0 in
    let others = written_from n o (code_in st place).1 in
    let written : written_from (suc n) o st ≡ (code ++ value) ++ others = ap (written_by o st (written_from n o)) e in
    let more : gathered (suc n) o st t.options ≡ gathered n o (code_in st place).1 (gains o (code_in st place).0 t.options) = ap (gathered_by o st t.options (gathered n o)) e in record {
      through = code_in st place ∷ p.through;
      last = p.last;
      spelled = record {
        code = code;
        value = value;
        others = others;
        parts = written ∙ append_assoc code value others;
        told = gained o (code_in st place).0 bit t;
        stands = record { place = place; there = k.there; bits = refl };
        tells = value_tells o (code_in st place).0 bit t fits k.wanted;
        behind = p.spelled;
      };
      gathers = p.gathers ∙ ap (λ (a : Options). gathered n o (code_in st place).1 a) (gained_is o (code_in st place).0 bit t) ∙ sym more;
    }

by_choice : (n : ℕ) (o : Options) (st : State) (bit : ℕ) (t : Told) → ahead st ≤ suc n → IsTellable o → ((next : State) (b : ℕ) (u : Told) → ahead next ≤ n → Path n o next b u) → (c : Option ℕ) → chosen o st ≡ c → Path (suc n) o st bit t
unfolding gathered gathered_by
by_choice n o st bit t le fits others None e = no_path (suc n) o st bit t (none_is_none o st e) (ap (written_by o st (written_from n o)) e) (ap (gathered_by o st t.options (gathered n o)) e)
by_choice n o st bit t le fits others (Some place) e =
    let less = (chosen_is o st place e).less in
    by_code n o st bit t place fits e (others (code_in st place).1 (bit + length (number_bits (width_for (length (codes st))) place) + length (value_bits o (code_in st place).0)) (gained o (code_in st place).0 bit t) (omega arith))

path : (n : ℕ) (o : Options) (st : State) (bit : ℕ) (t : Told) → ahead st ≤ n → IsTellable o → Path n o st bit t
unfolding gathered
path zero o st bit t le fits = elim (cases_Bool (eqb (length (codes st)) 0)) [
  | inl none ↦ no_path zero o st bit t (no_codes st none) refl refl
  | inr some ↦ let pos : 0 < ahead st = ltb-true 0 (ahead st) (lives st some) in absurd (omega arith)
]
path (suc n) o st bit t le fits = by_choice n o st bit t le fits (λ next b u less. path n o next b u less fits) (chosen o st) refl

pub written_spelled : WrittenIsSpelled
unfolding options_bits
written_spelled o bit fits =
    let p = path (ahead state.Document) o state.Document bit untold (omega arith) fits in
    (p.last, record { codes = p.through; spelled = p.spelled }, p.gathers ∙ all_gathered o fits.flags)

pub written_read : WrittenIsRead
written_read o s more fits free bytes e =
    let w = written_spelled o s.place fits in
    let none : conflicts w.0.options ≡ false = ap conflicts w.2 ∙ free in
    (w.0, spelled_read w.0 (options_bits o) s more bytes w.1 none e, w.2)
