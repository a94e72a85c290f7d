-- What words ask for is sound.
use Rattle.std.proofs.Common.{◌≡◌, ◌<◌, ◌≤◌, ◌&&◌, ◌^◌, refl, sym, subst, true, false, Bool, ℕ, List, [], ◌∷◌, length, Option, Some, None, IfSome, codes, arith, option_map, bit_or, if◌then◌else◌}
use Rattle.std.specs.Prelude.{nat_le, nat_lt}
use Rattle.std.proofs.lemmas.Bool.{leb-true, ltb-true}
use Rattle.std.proofs.lemmas.Nat.{or_of_8}
use Rattle.clap.specs.Words.{Row, Text, first_of}
use Rattle.exi_digits.specs.Digits.{kept, number_in, number_of, is_numeral}
use Rattle.exi_gram.specs.Switches.{conflicts}
use Rattle.exi_gram.specs.declared.options.Options.{Options}
use Rattle.exi_gram.specs.declared.options.SchemaWord.TheVariants as schema
use Rattle.exi_words.specs.Meanings.{AreFit, AreSound, IsSound, asked_as, asked_by, asked_of, counting, indexing, lines_of, making, most_lines, most_pages, most_workers, options_of, reading_of, terms_of, usual_pages, writing_of}
use Rattle.exi_words.specs.Tables.{given_by, verb_of}
use Rattle.exi_words.specs.Values.{◌>>=◌, bits_of, flags_of, is_schema_name, most_digits, name_if, number_if, number_or, number_told, number_within, stands, within}
use Rattle.exi_words.specs.declared.verb.Verb.{Verb}
use Rattle.exi_words.specs.declared.verb.Verb.TheVariants as verb

-- ---- options of a type
module _ {A B : Type 0} where
  if_bound : (o : Option A) (f : A → Option B) (P : A → Type 0) (Q : B → Type 0) → IfSome o P → ((a : A) → P a → IfSome (f a) Q) → IfSome (o >>= f) Q
  if_bound None f P Q h each = tt
  if_bound (Some a) f P Q h each = each a h

  if_then : (o : Option A) (f : A → Option B) (Q : B → Type 0) → ((a : A) → IfSome (f a) Q) → IfSome (o >>= f) Q
  if_then None f Q each = tt
  if_then (Some a) f Q each = each a

  if_mapped : (o : Option A) (f : A → B) (P : A → Type 0) (Q : B → Type 0) → IfSome o P → ((a : A) → P a → Q (f a)) → IfSome (option_map f o) Q
  if_mapped None f P Q h each = tt
  if_mapped (Some a) f P Q h each = each a h

  -- what is seen as something sound is sound
  pub if_seen : (o : Option A) (f : A → B) (r : Option B) (Q : B → Type 0) → option_map f o ≡ r → IfSome r Q → IfSome o (λ a. Q (f a))
  if_seen None f r Q is h = tt
  if_seen (Some a) f r Q is h = subst (λ s. IfSome s Q) (sym is) h

module _ {A : Type 0} where
  if_tested : (b : Bool) (a : A) (Q : A → Type 0) → (b ≡ true → Q a) → IfSome (if b then Some a else None) Q
  if_tested true a Q h = h refl
  if_tested false a Q h = tt

  if_kept : (b : Bool) (o : Option A) (Q : A → Type 0) → IfSome o Q → IfSome (if b then o else None) Q
  if_kept true o Q h = h
  if_kept false o Q h = tt

-- ---- numbers
told_fits : (t : Text) → IfSome (number_told t) (λ n. n < 2 ^ 128)
told_fits t =
    if_kept (nat_le (length t) most_digits) (number_in t) _ (if_kept (is_numeral t) (kept (number_of t)) _
    (if_tested (nat_lt (number_of t) (2 ^ 128)) (number_of t) (λ n. n < 2 ^ 128) (ltb-true (number_of t) (2 ^ 128))))

some_fits : (o : Option Text) → IfSome (number_if o) (λ m. IfSome m (λ n. n < 2 ^ 128))
some_fits None = tt
some_fits (Some t) = if_mapped (number_told t) (λ n. Some n) (λ n. n < 2 ^ 128) (λ m. IfSome m (λ n. n < 2 ^ 128)) (told_fits t) (λ n h. h)

both : (a b : Bool) → (a && b) ≡ true → (a ≡ true) × (b ≡ true)
both true b h = (refl, h)
both false b h = cc

is_within : (least most n : ℕ) → IfSome (within least most n) (λ k. (least ≤ k) × (k ≤ most))
is_within least most n = if_tested (nat_le least n && nat_le n most) n (λ k. (least ≤ k) × (k ≤ most)) (λ h.
    let p = both (nat_le least n) (nat_le n most) h in (leb-true least n p.0, leb-true n most p.1))

are_within : (least most : ℕ) (t : Text) → IfSome (number_within least most t) (λ k. (least ≤ k) × (k ≤ most))
are_within least most t = if_then (number_told t) (within least most) (λ k. (least ≤ k) × (k ≤ most)) (is_within least most)

weaker : (least most : ℕ) (o : Option ℕ) → IfSome o (λ k. (least ≤ k) × (k ≤ most)) → IfSome o (λ k. k ≤ most)
weaker least most None h = tt
weaker least most (Some k) h = h.1

are_few : (usual most : ℕ) (o : Option Text) → usual ≤ most → IfSome (number_or usual most o) (λ k. k ≤ most)
are_few usual most None h = h
are_few usual most (Some t) h = weaker 0 most (number_within 0 most t) (are_within 0 most t)

-- ---- the options of a stream
bit_fits : (on : Bool) (bit bits : ℕ) → bit < 2 ^ 8 → bits < 2 ^ 8 → (if on then bit_or bits bit else bits) < 2 ^ 8
bit_fits true bit bits b h = or_of_8 bits bit h b
bit_fits false bit bits b h = h

bits_fit : (rows : List Row) → bits_of rows < 2 ^ 8
bits_fit rows =
    bit_fits (stands (codes "prefixes") rows) 128 _ (omega arith) (bit_fits (stands (codes "dtd") rows) 64 _ (omega arith)
    (bit_fits (stands (codes "pis") rows) 32 _ (omega arith) (bit_fits (stands (codes "comments") rows) 16 _ (omega arith)
    (bit_fits (stands (codes "byte-aligned") rows) 8 _ (omega arith) (bit_fits (stands (codes "self-contained") rows) 4 _ (omega arith)
    (bit_fits (stands (codes "fragment") rows) 2 _ (omega arith) (bit_fits (stands (codes "strict") rows) 1 0 (omega arith) (omega arith))))))))

free_fits : (b : Bool) (o : Options) → conflicts o ≡ b → (conflicts o ≡ false → AreFit o) → IfSome (if b then None else Some o) AreFit
free_fits true o is h = tt
free_fits false o is h = h is

options_sound : (rows : List Row) → IfSome (options_of rows) AreFit
unfolding options_of
options_sound rows =
    if_bound (number_if (first_of (codes "value-max-length") rows)) _ (λ m. IfSome m (λ n. n < 2 ^ 128)) AreFit (some_fits (first_of (codes "value-max-length") rows)) (λ most few.
    if_bound (number_if (first_of (codes "value-partition-capacity") rows)) _ (λ m. IfSome m (λ n. n < 2 ^ 128)) AreFit (some_fits (first_of (codes "value-partition-capacity") rows)) (λ capacity held.
    let o : Options = record { flags = flags_of rows; schema = schema.Absent; block = 1_000_000; most = most; capacity = capacity } in
    free_fits (conflicts o) o refl (λ no. record { free = no; schema = refl; block = refl; flags = bits_fit rows; most = few; capacity = held })))

-- ---- the commands
name_sound : (o : Option Text) → IfSome (name_if o) (λ n. IfSome n (λ t. is_schema_name t ≡ true))
name_sound None = tt
name_sound (Some t) = if_tested (is_schema_name t) (Some t) (λ n. IfSome n (λ u. is_schema_name u ≡ true)) (λ h. h)

terms_sound : (rows : List Row) → IfSome (terms_of rows) AreSound
unfolding terms_of
terms_sound rows =
    if_then (first_of (codes "FILE") rows) _ AreSound (λ file.
    if_bound (options_of rows) _ AreFit AreSound (options_sound rows) (λ options fit.
    if_bound (name_if (first_of (codes "schema-id") rows)) _ (λ n. IfSome n (λ t. is_schema_name t ≡ true)) AreSound (name_sound (first_of (codes "schema-id") rows)) (λ name named.
    record { options = fit; name = named })))

reading_sound : (rows : List Row) → IfSome (reading_of rows) IsSound
unfolding reading_of
reading_sound rows =
    if_bound (terms_of rows) _ AreSound IsSound (terms_sound rows) (λ terms sound.
    if_bound (number_or 0 most_workers (first_of (codes "workers") rows)) _ (λ k. k ≤ most_workers) IsSound (are_few 0 most_workers (first_of (codes "workers") rows) (omega arith)) (λ workers few.
    if_bound (number_or usual_pages most_pages (first_of (codes "pages") rows)) _ (λ k. k ≤ most_pages) IsSound (are_few usual_pages most_pages (first_of (codes "pages") rows) (omega arith)) (λ pages held.
    (sound, few, held))))

lines_sound : (rows : List Row) → IfSome (lines_of rows) (λ k. (1 ≤ k) × (k ≤ most_lines))
lines_sound rows = if_then (first_of (codes "N") rows) (number_within 1 most_lines) (λ k. (1 ≤ k) × (k ≤ most_lines)) (are_within 1 most_lines)

counts_sound : (o : Option Text) → IfSome (option_map counting o) IsSound
counts_sound None = tt
counts_sound (Some file) = tt

as_sound : (v : Verb) (rows : List Row) → IfSome (asked_as v rows) IsSound
unfolding asked_as
as_sound verb.Read rows = reading_sound rows
as_sound verb.Index rows = if_mapped (terms_of rows) indexing AreSound IsSound (terms_sound rows) (λ t h. h)
as_sound verb.Write rows = if_mapped (terms_of rows) (writing_of rows) AreSound IsSound (terms_sound rows) (λ t h. h)
as_sound verb.Schema rows = counts_sound (first_of (codes "FILE") rows)
as_sound verb.Gen rows = if_mapped (lines_of rows) making (λ k. (1 ≤ k) × (k ≤ most_lines)) IsSound (lines_sound rows) (λ k h. h)

by_sound : (v : Option Verb) (words : List Text) → IfSome (asked_by v words) IsSound
by_sound None words = tt
by_sound (Some v) words = if_then (given_by v words) (asked_as v) IsSound (as_sound v)

pub all_sound : (words : List Text) → IfSome (asked_of words) IsSound
unfolding asked_of
all_sound [] = tt
all_sound (word ∷ words) = by_sound (verb_of word) (word ∷ words)

pub each_sound : (v : Verb) (rows : List Row) → IfSome (asked_as v rows) IsSound
each_sound v rows = as_sound v rows
