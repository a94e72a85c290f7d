-- The laws of books: a grammar of the book for each of the schema, states for each grammar, and productions that lead to
-- what is there (EXI 1.0, sections 8.3, 8.4.1 and 8.5).
use Rattle.std.specs.Prelude.{◌≡◌, ℕ, ◌≤◌, true, false, length}
use Rattle.exi_gram.specs.Books.{Contents, IsBook, IsPlainBook, IsStateOf, state_at}
use Rattle.exi_gram.specs.Codes.{IsClosedUp}
use Rattle.exi_gram.specs.Schemas.{IsFull, IsSchema}
use Rattle.exi_ways.specs.Ways.{EntriesStand, FormStands, IsDocumentOf, IsFragmentOf, IsLeft, IsWayIn, OfEach}

-- a book has as many grammars as its schema, with a schema Document and Fragment at least
abbrev pub GrammarsStand : Type 0
GrammarsStand = (b : Contents) → IsBook b → IsSchema b.schema → b.schema.known ≡ true → (length b.states ≡ length b.schema.grammars) × (2 ≤ length b.states)

-- and without one Document alone
abbrev pub PlainStands : Type 0
PlainStands = (b : Contents) → IsBook b → IsSchema b.schema → b.schema.known ≡ false → IsPlainBook b

-- each grammar that opens an element, and its empty form, has a first state
abbrev pub FormsStand : Type 0
FormsStand = (b : Contents) → IsBook b → IsSchema b.schema → (form : ℕ) → IsFull b.schema form → FormStands b form

-- elements and types that are looked up have such grammars
abbrev pub EntriesAreForms : Type 0
EntriesAreForms = (b : Contents) → IsSchema b.schema → EntriesStand b.schema

-- in the grammars of elements and types each production leads to what is there
abbrev pub PartsLead : Type 0
PartsLead = (b : Contents) → IsBook b → IsSchema b.schema → (grammar state : ℕ) → 2 ≤ grammar → IsStateOf b grammar state → OfEach (IsWayIn b grammar) (state_at b grammar state)

-- and so it is in Document and Fragment
abbrev pub DocumentsLead : Type 0
DocumentsLead = (b : Contents) → IsBook b → IsSchema b.schema → IsDocumentOf b

abbrev pub FragmentsLead : Type 0
FragmentsLead = (b : Contents) → IsBook b → IsSchema b.schema → b.schema.known ≡ true → IsFragmentOf b

-- each production is one that the options leave (section 8.3)
abbrev pub CodesAreLeft : Type 0
CodesAreLeft = (b : Contents) → IsBook b → (grammar state : ℕ) → OfEach (IsLeft b.options) (state_at b grammar state)

-- and no group of them is empty
abbrev pub CodesCloseUp : Type 0
CodesCloseUp = (b : Contents) → IsBook b → (grammar state : ℕ) → IsClosedUp (state_at b grammar state)
