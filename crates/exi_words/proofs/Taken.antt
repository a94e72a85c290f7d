-- Each table is a simple command, so what it takes and refuses is as `clap` defines that.
use Rattle.std.proofs.Common.{◌≡◌, ◌⊎◌, ◌∙◌, ap, refl, subst, true, List, [], ◌∷◌, Some, None, inl, inr}
use Rattle.clap.proofs.OnLiterals.{clap_on_literals}
use Rattle.clap.specs.Words.{App, IsAmong, Kinds, Row, Text, fault_of, is_simple, is_simple_and_free, matches_of}
use Rattle.clap.specs.declared.error.kind.ErrorKind.{ErrorKind}
use Rattle.clap.specs.declared.error.kind.ErrorKind.TheVariants as kind
use Rattle.exi_words.specs.Tables.{given_by, table, unless}
use Rattle.exi_words.specs.declared.verb.Verb.{Verb}
use Rattle.exi_words.specs.declared.verb.Verb.TheVariants as verb

simple : (v : Verb) → is_simple (table v) ≡ true
unfolding clap_on_literals
simple verb.Read = refl
simple verb.Index = refl
simple verb.Write = refl
simple verb.Schema = refl
simple verb.Gen = refl

free : (v : Verb) → is_simple_and_free (table v) ≡ true
unfolding clap_on_literals
free verb.Read = refl
free verb.Index = refl
free verb.Write = refl
free verb.Schema = refl
free verb.Gen = refl

-- words with no fault give their values
pub taken : (v : Verb) (a : App) (words : List Text) (rows : List Row) → a ≡ table v → (is_simple_and_free a ≡ true → fault_of a words ≡ [])
    → (is_simple a ≡ true → rows ≡ matches_of a words) → Some rows ≡ given_by v words
unfolding given_by
taken v a words rows is fault same =
    let no : fault_of (table v) words ≡ [] = rw (← is) (fault (ap is_simple_and_free is ∙ free v)) in
    let gives : rows ≡ matches_of (table v) words = rw (← is) (same (ap is_simple is ∙ simple v)) in
    rw (no, gives) refl

none_of : (kinds : Kinds) (k : ErrorKind) (rows : List Row) → IsAmong k kinds → None ≡ unless kinds rows
none_of [] k rows among = absurd among
none_of (x ∷ xs) k rows among = refl

-- words with a fault give none
pub refused : (v : Verb) (a : App) (words : List Text) (k : ErrorKind) → a ≡ table v
    → (is_simple_and_free a ≡ true → (k ≡ kind.OutOfMemory) ⊎ IsAmong k (fault_of a words)) → (k ≡ kind.OutOfMemory → ⊥)
    → None ≡ given_by v words
unfolding given_by
refused v a words k is fails other =
    elim (fails (ap is_simple_and_free is ∙ free v)) [
      | inl memory ↦ absurd (other memory)
      | inr among ↦ none_of (fault_of (table v) words) k (matches_of (table v) words) (subst (λ b. IsAmong k (fault_of b words)) is among)
    ]
