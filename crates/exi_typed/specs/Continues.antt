-- What each reading of names and strings keeps, and where a name stands once it is read.
use Rattle.std.specs.Prelude.{◌≡◌, ℕ, ◌≤◌, Bool, List, Ok}
use Rattle.exi_bits.specs.declared.align.Align.{Align}
use Rattle.exi_meter.specs.Metering.{with_text}
use Rattle.exi_tables.specs.Growth.{IsLeast, KeepsAll}
use Rattle.exi_tables.specs.Partitions.{Partitions, locals, uris}
use Rattle.exi_typed.specs.ReadStates.{ReadState, ContextReader}
use Rattle.exi_typed.specs.Strings.{Growth, Named, name_at}

-- reading went from the first to the second
pub record Continues (c d : ReadState) : Type 0 where
  pub bytes : d.spot.bytes ≡ c.spot.bytes
  pub place : c.spot.place ≤ d.spot.place
  -- so many units of text were charged, and nothing else
  pub units : ℕ
  pub meter : d.context.meter ≡ with_text c.context.meter units
  -- the limit of text is not passed
  pub within : c.context.meter.used.text ≤ c.context.meter.limits.text → d.context.meter.used.text ≤ d.context.meter.limits.text
  -- each place of the URIs, local names and prefixes keeps its text; values may go
  pub keeps : KeepsAll c.context.tables d.context.tables

-- what is added keeps each place
abbrev pub KeepsEach : Growth → Type 0
KeepsEach grow = (p : Partitions) (text : List ℕ) → KeepsAll p (grow p text)

abbrev pub ReadsOn : {X : Type 0} → ContextReader X → Type 0
ReadsOn {X} read = (x : X) (c d : ReadState) → read c ≡ Ok (x, d) → Continues c d

-- a name's texts stand in the tables, and it goes on as the least places that have them
pub record Stands (p : Partitions) (n : Named) : Type 0 where
  pub uri : IsLeast (uris p) n.name.uri n.id.uri
  pub local : IsLeast (locals p n.id.uri) n.name.local n.id.local

abbrev pub NamesStand : Type 0
NamesStand = (keep : Bool) (a : Align) (n : Named) (c d : ReadState) → name_at keep a c ≡ Ok (n, d) → Stands d.context.tables n

-- and it still does where reading has gone on
abbrev pub NamesGoOnStanding : Type 0
NamesGoOnStanding = (n : Named) (c d : ReadState) → Continues c d → Stands c.context.tables n → Stands d.context.tables n
