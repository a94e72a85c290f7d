-- A production that was found, and how its code is kept until it is written.
use Rattle.std.specs.Prelude.{◌≡◌, ◌<◌, ℕ, true, false, List, [], ◌∷◌, Option, Some, None, slice_get}
use Rattle.exi_builtin.specs.LeastCodes.{IsCodeOf}
use Rattle.exi_builtin.specs.Learning.{IsRoom, Learning, productions}
use Rattle.exi_gram.specs.Books.{IsStateOf, state_at}
use Rattle.exi_gram.specs.Codes.{Coded, Productions}
use Rattle.exi_gram.specs.Naming.{Entry}
use Rattle.exi_gram.specs.Outlines.{Outline}
use Rattle.exi_gram.specs.Tables.{parts_at, parts_of, size}
use Rattle.exi_processing.specs.Configurations.{Setting, built_in, in_book}
use Rattle.exi_processing.specs.Handing.{rule_in}
use Rattle.exi_processing.specs.Rules.{Rule, book_rule, fragment_start}
use Rattle.exi_processing.specs.declared.rule.Content.{Content}
use Rattle.exi_writing.specs.OneEvent.{fewest}
use Rattle.exi_choice.specs.declared.choice.Choice.{Choice}
use Rattle.exi_choice.specs.declared.choice.Way.{Way}
use Rattle.exi_choice.specs.declared.choice.Way.TheVariants as way
use Rattle.exi_choice.specs.declared.fit.Fit.{Fit}
use Rattle.exi_choice.specs.declared.found.Found.{Found}
use Rattle.exi_choice.specs.declared.wanted.Wanted.{Wanted}
use Rattle.exi_choice.specs.Fitting.{fit_in, fitted, having, value_in}
use Rattle.exi_choice.specs.Wanted.{Seeking, first_for, first_suiting, suits_in}

-- ---- how its code is kept
abbrev pub way_parts : Setting → Way → List ℕ
way_parts g way.Nothing = 0 ∷ []
way_parts g (way.BuiltIn room code) = parts_of code
way_parts g (way.Book grammar number place) = parts_at (state_at g grammar number) place

-- it is one of the codes of these productions
abbrev pub IsWay : Setting → Learning → Productions Rule → Way → Type 0
IsWay g l rules way.Nothing = rules ≡ fragment_start
IsWay g l rules (way.BuiltIn room code) = IsRoom l room × IsCodeOf (productions g.options l room) (parts_of code) × (rules ≡ built_in g l room)
IsWay g l rules (way.Book grammar number place) = IsStateOf g grammar number × (place < size (state_at g grammar number)) × (rules ≡ in_book g grammar number)

pub record IsChoice (g : Setting) (l : Learning) (wanted : Content) (rules : Productions Rule) (choice : Choice) : Type 0 where
  pub coded : Coded Rule
  pub first : first_for wanted rules ≡ Some coded
  pub rule : rule_in choice.rule ≡ coded.item
  pub parts : way_parts g choice.way ≡ coded.parts
  pub way : IsWay g l rules choice.way

abbrev pub Chooses : Setting → Learning → Content → Productions Rule → Option Choice → Type 0
Chooses g l wanted rules None = first_for wanted rules ≡ None
Chooses g l wanted rules (Some choice) = IsChoice g l wanted rules choice

-- ---- with what is written of the event's value
abbrev pub wanting : Wanted → Seeking
wanting w = record { on = w.on; having = having w.valued }

pub record IsFound (g : Setting) (l : Learning) (s : Seeking) (rules : Productions Rule) (found : Found) : Type 0 where
  pub coded : Coded Rule
  pub first : first_suiting g s rules ≡ Some coded
  pub rule : rule_in found.choice.rule ≡ coded.item
  pub parts : way_parts g found.choice.way ≡ coded.parts
  pub way : IsWay g l rules found.choice.way
  pub value : fitted (value_in s.having) (Some found.value) ≡ fit_in g.schema coded.item.on s.having

abbrev pub Finds : Setting → Learning → Seeking → Productions Rule → Option Found → Type 0
Finds g l s rules None = first_suiting g s rules ≡ None
Finds g l s rules (Some found) = IsFound g l s rules found

-- ---- a production that suits, with what is written of the value there
abbrev pub Takes : Outline → Seeking → Coded Entry → Option Fit → Type 0
Takes o s c None = suits_in o s c.item ≡ false
Takes o s c (Some kept) = (suits_in o s c.item ≡ true) × (fitted (value_in s.having) (Some kept) ≡ fit_in o (book_rule c.item).on s.having)

-- ---- the first of a state's codes that does, by its place
pub record IsFirstAt (o : Outline) (s : Seeking) (cs : List (Coded Entry)) (place : ℕ) (kept : Fit) : Type 0 where
  pub coded : Coded Entry
  pub there : slice_get cs place ≡ Some coded
  pub first : fewest (suits_in o s) cs ≡ Some coded
  pub value : fitted (value_in s.having) (Some kept) ≡ fit_in o (book_rule coded.item).on s.having

abbrev pub FindsFirst : Outline → Seeking → List (Coded Entry) → Option (ℕ × Fit) → Type 0
FindsFirst o s cs None = fewest (suits_in o s) cs ≡ None
FindsFirst o s cs (Some found) = IsFirstAt o s cs found.0 found.1

-- ---- a production that stands for the event, where the value has a spelling in it
abbrev pub Keeps : Outline → Seeking → Option Choice → Option Found → Type 0
Keeps o s None None = Unit {0}
Keeps o s None (Some found) = ⊥
Keeps o s (Some choice) None = fit_in o (rule_in choice.rule).on s.having ≡ None
Keeps o s (Some choice) (Some found) = (found.choice ≡ choice) × (fitted (value_in s.having) (Some found.value) ≡ fit_in o (rule_in choice.rule).on s.having)
