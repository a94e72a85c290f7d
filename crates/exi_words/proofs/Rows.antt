-- What the definition makes of some words: so it reads what it should, and refuses what it should.
use Rattle.std.proofs.Common.{◌≡◌, refl, true, false, ℕ, [], ◌∷◌, Some, None, codes}
use Rattle.clap.proofs.OnLiterals.{clap_on_literals}
use Rattle.exi_gram.specs.declared.options.Options.{Options}
use Rattle.exi_gram.specs.declared.options.SchemaWord.TheVariants as schema
use Rattle.exi_words.specs.Meanings.{Terms, asked_as, asked_of, counting, indexing, making, options_of, reading, reading_of, terms_of, writing}
use Rattle.exi_words.specs.Tables.{given_by}

abbrev options : ℕ → Options
options n = record { flags = record { 0 = n }; schema = schema.Absent; block = 1_000_000; most = None; capacity = None }

abbrev terms : ℕ → Terms
terms n = record { file = codes "f"; options = options n; document = None; name = None }

read_plain : asked_of (codes "read" ∷ codes "f" ∷ []) ≡ Some (reading (terms 0) None 0 1_024)
unfolding clap_on_literals asked_of asked_as given_by reading_of terms_of options_of
read_plain = refl

read_by_workers : asked_of (codes "read" ∷ codes "--workers" ∷ codes "64" ∷ codes "f" ∷ codes "--hints=h" ∷ codes "--pages=0" ∷ []) ≡ Some (reading (terms 0) (Some (codes "h")) 64 0)
unfolding clap_on_literals asked_of asked_as given_by reading_of terms_of options_of
read_by_workers = refl

many_workers : asked_of (codes "read" ∷ codes "--workers" ∷ codes "65" ∷ codes "f" ∷ []) ≡ None
unfolding clap_on_literals asked_of asked_as given_by reading_of terms_of options_of
many_workers = refl

many_pages : asked_of (codes "read" ∷ codes "f" ∷ codes "--pages=65537" ∷ []) ≡ None
unfolding clap_on_literals asked_of asked_as given_by reading_of terms_of options_of
many_pages = refl

exclusive : asked_of (codes "read" ∷ codes "--strict" ∷ codes "--self-contained" ∷ codes "f" ∷ []) ≡ None
unfolding clap_on_literals asked_of asked_as given_by reading_of terms_of options_of
exclusive = refl

twice : asked_of (codes "index" ∷ codes "--strict" ∷ codes "f" ∷ codes "--strict" ∷ []) ≡ None
unfolding clap_on_literals asked_of asked_as given_by reading_of terms_of options_of
twice = refl

workers_of_index : asked_of (codes "index" ∷ codes "f" ∷ codes "--workers=1" ∷ []) ≡ None
unfolding clap_on_literals asked_of asked_as given_by reading_of terms_of options_of
workers_of_index = refl

no_file : asked_of (codes "read" ∷ codes "--strict" ∷ []) ≡ None
unfolding clap_on_literals asked_of asked_as given_by reading_of terms_of options_of
no_file = refl

hyphened_file : asked_of (codes "write" ∷ codes "--cookie" ∷ codes "--" ∷ codes "f" ∷ []) ≡ Some (writing (terms 0) false true)
unfolding clap_on_literals asked_of asked_as given_by reading_of terms_of options_of
hyphened_file = refl

no_value : asked_of (codes "read" ∷ codes "f" ∷ codes "--schema" ∷ []) ≡ None
unfolding clap_on_literals asked_of asked_as given_by reading_of terms_of options_of
no_value = refl

help : asked_of (codes "read" ∷ codes "--help" ∷ []) ≡ None
unfolding clap_on_literals asked_of asked_as given_by reading_of terms_of options_of
help = refl

counted : asked_of (codes "schema" ∷ codes "f" ∷ []) ≡ Some (counting (codes "f"))
unfolding clap_on_literals asked_of asked_as given_by reading_of terms_of options_of
counted = refl

made : asked_of (codes "gen" ∷ codes "00012" ∷ []) ≡ Some (making 12)
unfolding clap_on_literals asked_of asked_as given_by reading_of terms_of options_of
made = refl

made_none : asked_of (codes "gen" ∷ codes "0" ∷ []) ≡ None
unfolding clap_on_literals asked_of asked_as given_by reading_of terms_of options_of
made_none = refl

switched : asked_of (codes "index" ∷ codes "--prefixes" ∷ codes "f" ∷ codes "--byte-aligned" ∷ []) ≡ Some (indexing (terms 136))
unfolding clap_on_literals asked_of asked_as given_by reading_of terms_of options_of
switched = refl
