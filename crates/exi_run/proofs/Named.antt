-- What words give fits in options that can be told.
use Rattle.std.proofs.Common.{◌≡◌, ◌≤◌, ℕ, zero, suc, Bool, true, false, List, [], ◌∷◌, length, Option, Some, None, refl, sym, subst, arith}
use Rattle.std.specs.Prelude.{◌^◌, ◌<◌, ◌==◌, IfSome, chars, is_some, nat_le, nat_lt, option_map, if◌then◌else◌}
use Rattle.std.proofs.lemmas.Bool.{and_parts}
use Rattle.exi_names.specs.Characters.{is_xml_char}
use Rattle.exi_options.specs.Reading.{most_characters}
use Rattle.exi_options.specs.Writing.{IsNamable}
use Rattle.exi_text.specs.Literals.{all_xml}
use Rattle.exi_gram.specs.declared.options.OptionFlags.{OptionFlags}
use Rattle.exi_run.specs.declared.names.Mark.{Mark}
use Rattle.exi_run.specs.declared.names.Mark.TheVariants as mark
use Rattle.exi_run.specs.declared.names.Named.{Named}
use Rattle.exi_run.specs.declared.names.Named.TheVariants as named
use Rattle.exi_run.specs.declared.names.Valued.{Valued}
use Rattle.exi_run.specs.declared.names.Valued.TheVariants as valued
use Rattle.exi_run.specs.declared.words.Next.{Next}
use Rattle.exi_run.specs.declared.words.Next.TheVariants as next
use Rattle.exi_run.specs.Wishes.{named_schema, options_of, wish_of}
use Rattle.exi_run.specs.Words.{Given, IsFit, IsNamed, Walk, are_few_xml, ended, given_by, go_on, is_hyphened, is_schema_name, name_part, nothing, number_told, option_named, text, value_part, most_digits, with_capacity, with_file, with_mark, with_most, with_option, with_switch, with_value, word_taken, words_taken}
use Rattle.exi_run.specs.declared.given.Given.{Given as Gathered}
use Rattle.exi_run.specs.Tasks.{IsReady, gathered, writing}
use Rattle.exi_gram.specs.Switches.{conflicts}
use Rattle.exi_digits.specs.Digits.{is_numeral, kept, number_in, number_of}
use Rattle.exi_options.specs.Document.{flag}
use Rattle.std.specs.Int.RustNames.{bit_and, bit_or}
use Rattle.std.proofs.lemmas.Nat.{or_of_8}
use Rattle.std.proofs.lemmas.Bool.{ltb-true}
use Rattle.std.specs.Str.{bytes_eq}
use Rattle.std.specs.Prelude.{codes}

-- ---- a name that may be told
few_is : (n : ℕ) (cs : List ℕ) → are_few_xml n cs ≡ true → (all_xml cs ≡ true) × (length cs ≤ n)
few_is n [] h = (refl, omega arith)
few_is zero (c ∷ cs) h = absurd cc
few_is (suc n) (c ∷ cs) h =
    let p = and_parts (is_xml_char c) (are_few_xml n cs) h in
    let k = few_is n cs p.1 in
    (rw (p.0, k.0) refl, omega (arith, k.1))

pub namable : (told : Bool) (name : Option (List ℕ)) → IsNamed name → IsNamable (named_schema told name)
namable told None h = tt
namable false (Some t) h = tt
namable true (Some t) h = few_is most_characters (chars t) h

-- ---- one word after another
abbrev IsFitOption : Option Given → Type 0
IsFitOption None = Unit {0}
IsFitOption (Some g) = IsFit g

abbrev IsFitWalk : Walk → Type 0
IsFitWalk None = Unit {0}
IsFitWalk (Some (g, n)) = IsFit g

none_or : (b : Bool) (o : Option Given) → IsFitOption o → IsFitOption (if b then None else o)
none_or true o h = tt
none_or false o h = h

either : (b : Bool) (v w : Walk) → IsFitWalk v → IsFitWalk w → IsFitWalk (if b then v else w)
either true v w h k = h
either false v w h k = k

on : (n : Next) (o : Option Given) → IsFitOption o → IsFitWalk (go_on n o)
on n None h = tt
on n (Some g) h = h

-- ---- numbers
kept_fits : (b : Bool) (n : ℕ) → nat_lt n (2 ^ 128) ≡ b → IfSome (if b then Some n else None) (λ m. m < 2 ^ 128)
kept_fits true n is = ltb-true n (2 ^ 128) is
kept_fits false n is = tt

some_or : (b : Bool) (o : Option ℕ) → IfSome o (λ m. m < 2 ^ 128) → IfSome (if b then o else None) (λ m. m < 2 ^ 128)
some_or true o h = h
some_or false o h = tt

number_fits : (t : List ℕ) → IfSome (number_told t) (λ m. m < 2 ^ 128)
number_fits t = some_or (nat_le (length t) most_digits) (number_in t) (some_or (is_numeral t) (kept (number_of t)) (kept_fits (nat_lt (number_of t) (2 ^ 128)) (number_of t) refl))

mapped : (f : ℕ → Given) (o : Option ℕ) → IfSome o (λ m. m < 2 ^ 128) → ((n : ℕ) → n < 2 ^ 128 → IsFit (f n)) → IsFitOption (option_map f o)
mapped f None fits h = tt
mapped f (Some n) fits h = h n fits

-- ---- with one thing more
name_or : (b : Bool) (g : Given) (t : List ℕ) → IsFit g → is_schema_name t ≡ b → IsFitOption (if b then Some (record g { schema = Some t }) else None)
name_or true g t h is = record { flags = h.flags; most = h.most; capacity = h.capacity; named = is }
name_or false g t h is = tt

filed : (name : List ℕ) (g : Given) → IsFit g → IsFitOption (with_file name g)
filed name g h = none_or (is_some g.file) (Some (record g { file = Some name })) record { flags = h.flags; most = h.most; capacity = h.capacity; named = h.named }

switched : (f : OptionFlags) (g : Given) → f.0 < 256 → IsFit g → IsFitOption (with_switch f g)
switched f g fits h = none_or (bit_and g.flags.0 f.0 == f.0) (Some (record g { flags = flag (bit_or g.flags.0 f.0) })) record { flags = or_of_8 g.flags.0 f.0 h.flags fits; most = h.most; capacity = h.capacity; named = h.named }

marked : (m : Mark) (g : Given) → IsFit g → IsFitOption (with_mark m g)
unfolding with_mark
marked mark.Told g h = none_or g.told (Some (record g { told = true })) record { flags = h.flags; most = h.most; capacity = h.capacity; named = h.named }
marked mark.Cookie g h = none_or g.cookie (Some (record g { cookie = true })) record { flags = h.flags; most = h.most; capacity = h.capacity; named = h.named }

valued_as : (k : Valued) (t : List ℕ) (g : Given) → IsFit g → IsFitOption (with_value k t g)
unfolding with_value
valued_as valued.MaxLength t g h = none_or (is_some g.most) (option_map (with_most g) (number_told t)) (mapped (with_most g) (number_told t) (number_fits t) (λ n fits. record { flags = h.flags; most = fits; capacity = h.capacity; named = h.named }))
valued_as valued.Capacity t g h = none_or (is_some g.capacity) (option_map (with_capacity g) (number_told t)) (mapped (with_capacity g) (number_told t) (number_fits t) (λ n fits. record { flags = h.flags; most = h.most; capacity = fits; named = h.named }))
valued_as valued.Schema t g h = none_or (is_some g.document) (Some (record g { document = Some t })) record { flags = h.flags; most = h.most; capacity = h.capacity; named = h.named }
valued_as valued.SchemaId t g h = none_or (is_some g.schema) (if is_schema_name t then Some (record g { schema = Some t }) else None) (name_or (is_schema_name t) g t h refl)

-- ---- an option
abbrev IsFlagOf : Option Named → Type 0
IsFlagOf None = Unit {0}
IsFlagOf (Some (named.Switch f)) = f.0 < 256
IsFlagOf (Some (named.Mark m)) = Unit {0}
IsFlagOf (Some (named.Value k)) = Unit {0}

if_flag : (b : Bool) (x y : Option Named) → IsFlagOf x → IsFlagOf y → IsFlagOf (if b then x else y)
if_flag true x y h k = h
if_flag false x y h k = k

small : (n : ℕ) → n < 256 → IsFlagOf (Some (named.Switch (flag n)))
small n h = h

named_fits : (t : List ℕ) → IsFlagOf (option_named t)
unfolding option_named
named_fits t =
    if_flag (bytes_eq t (codes "--strict")) (Some (named.Switch (flag 1))) _ (small 1 (omega arith))
    (if_flag (bytes_eq t (codes "--fragment")) (Some (named.Switch (flag 2))) _ (small 2 (omega arith))
    (if_flag (bytes_eq t (codes "--self-contained")) (Some (named.Switch (flag 4))) _ (small 4 (omega arith))
    (if_flag (bytes_eq t (codes "--byte-aligned")) (Some (named.Switch (flag 8))) _ (small 8 (omega arith))
    (if_flag (bytes_eq t (codes "--comments")) (Some (named.Switch (flag 16))) _ (small 16 (omega arith))
    (if_flag (bytes_eq t (codes "--pis")) (Some (named.Switch (flag 32))) _ (small 32 (omega arith))
    (if_flag (bytes_eq t (codes "--dtd")) (Some (named.Switch (flag 64))) _ (small 64 (omega arith))
    (if_flag (bytes_eq t (codes "--prefixes")) (Some (named.Switch (flag 128))) _ (small 128 (omega arith))
    (if_flag (bytes_eq t (codes "--value-max-length")) (Some (named.Value valued.MaxLength)) _ tt
    (if_flag (bytes_eq t (codes "--value-partition-capacity")) (Some (named.Value valued.Capacity)) _ tt
    (if_flag (bytes_eq t (codes "--schema")) (Some (named.Value valued.Schema)) _ tt
    (if_flag (bytes_eq t (codes "--schema-id")) (Some (named.Value valued.SchemaId)) _ tt
    (if_flag (bytes_eq t (codes "--told")) (Some (named.Mark mark.Told)) _ tt
    (if_flag (bytes_eq t (codes "--cookie")) (Some (named.Mark mark.Cookie)) None tt tt)))))))))))))

optioned : (o : Option Named) (value : Option (List ℕ)) (g : Given) → IsFlagOf o → IsFit g → IsFitWalk (with_option o value g)
optioned None value g fits h = tt
optioned (Some (named.Switch f)) None g fits h = on next.Any (with_switch f g) (switched f g fits h)
optioned (Some (named.Switch f)) (Some value) g fits h = tt
optioned (Some (named.Mark m)) None g fits h = on next.Any (with_mark m g) (marked m g h)
optioned (Some (named.Mark m)) (Some value) g fits h = tt
optioned (Some (named.Value k)) None g fits h = h
optioned (Some (named.Value k)) (Some value) g fits h = on next.Any (with_value k value g) (valued_as k value g h)

-- ---- a word, and all of them
word_fits : (g : Given) (n : Next) (word : List ℕ) → IsFit g → IsFitWalk (word_taken g n word)
unfolding word_taken
word_fits g next.File word h = on next.File (with_file word g) (filed word g h)
word_fits g (next.Value k) word h = either (is_hyphened (text word)) None (go_on next.Any (with_value k (text word) g)) tt (on next.Any (with_value k (text word) g) (valued_as k (text word) g h))
word_fits g next.Any word h =
    either (bytes_eq (text word) (codes "--")) (Some (g, next.File)) (if is_hyphened (text word) then with_option (option_named (name_part (text word))) (value_part (text word)) g else go_on next.Any (with_file word g)) h
    (either (is_hyphened (text word)) (with_option (option_named (name_part (text word))) (value_part (text word)) g) (go_on next.Any (with_file word g)) (optioned (option_named (name_part (text word))) (value_part (text word)) g (named_fits (name_part (text word))) h)
    (on next.Any (with_file word g) (filed word g h)))

words_fit : (w : Walk) (words : List (List ℕ)) → IsFitWalk w → IsFitWalk (words_taken w words)
words_fit w [] h = h
words_fit None (word ∷ words) h = tt
words_fit (Some (g, n)) (word ∷ words) h = words_fit (word_taken g n word) words (word_fits g n word h)

end_fits : (w : Walk) → IsFitWalk w → IsFitOption (ended w)
end_fits None h = tt
end_fits (Some (g, next.Any)) h = h
end_fits (Some (g, next.Value k)) h = tt
end_fits (Some (g, next.File)) h = h

nothing_fits : IsFit nothing
nothing_fits = let few : 0 < 256 = omega arith in record { flags = few; most = tt; capacity = tt; named = tt }

given_fits : (words : List (List ℕ)) → IsFitOption (given_by words)
given_fits words = end_fits (words_taken (Some (nothing, next.Any)) words) (words_fit (Some (nothing, next.Any)) words nothing_fits)

fits_of : (o : Option Gathered) (g : Option Given) → option_map gathered o ≡ g → IsFitOption g → IfSome o (λ x. IsFit (gathered x))
fits_of None g is h = tt
fits_of (Some x) g is h = subst IsFitOption (sym is) h

pub gathered_fits : (o : Option Gathered) (words : List (List ℕ)) → option_map gathered o ≡ given_by words → IfSome o (λ x. IsFit (gathered x))
gathered_fits o words is = fits_of o (given_by words) is (given_fits words)

-- ---- the command
pub ready_write : (file : List ℕ) (g : Given) → conflicts (options_of g) ≡ false → IsFit g → IsReady (writing file (wish_of g))
ready_write file g free fit = let few : 1_000_000 < 2 ^ 128 = omega arith in (free, record { flags = fit.flags; block = few; most = fit.most; capacity = fit.capacity; name = namable g.told g.schema fit.named }, refl)
