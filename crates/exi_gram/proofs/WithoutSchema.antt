-- What a schema keeps holds where there is none.
use Rattle.std.proofs.Common.{◌≡◌, ◌≢◌, ℕ, ◌+◌, ◌<◌, ◌≤◌, ◌^◌, None, List, [], ◌∷◌, length, All, refl, lit<, lit≤}
use Rattle.std.proofs.lemmas.List.Elements.{All-nil, All-cons}
use Rattle.exi_names.specs.StartTables.{first_names}
use Rattle.exi_names.specs.declared.names.QName.{QName}
use Rattle.exi_gram.specs.Naming.{named_in}
use Rattle.exi_gram.specs.Schemas.{AllIn, IsFull, IsInner, IsOfPart, IsSchema, IsState, LeadsWithin, Opens, Stands, StandsIfAny}
use Rattle.exi_gram.specs.Terminals.{Rule, Rules, Symbol, sd, ed, se, se_any, cm, pi, dt}
use Rattle.exi_gram.specs.Wholes.{document, plain, whole_grammar, without_schema}

-- one grammar alone
alone : {X : Type 0} (P : X → Type 0) (x : X) → P x → All P (x ∷ [])
alone P x p = All-cons P x [] p (All-nil P)

two : {X : Type 0} (P : X → Type 0) (x y : X) → P x → P y → All P (x ∷ y ∷ [])
two P x y p q = All-cons P x (y ∷ []) p (alone P y q)

three : {X : Type 0} (P : X → Type 0) (x y z : X) → P x → P y → P z → All P (x ∷ y ∷ z ∷ [])
three P x y z p q r = All-cons P x (y ∷ z ∷ []) p (two P y z q r)

none : {X : Type 0} (P : X → Type 0) → All P []
none P = All-nil P

abbrev bare : Rules
bare = whole_grammar (document [])

abbrev start : List Rule
start = plain sd 1 ∷ []

abbrev content : List Rule
content = plain se_any 2 ∷ plain dt 1 ∷ plain cm 1 ∷ plain pi 1 ∷ []

abbrev end : List Rule
end = plain ed 2 ∷ plain cm 2 ∷ plain pi 2 ∷ []

-- what holds of the terminals and of where they lead holds of the whole grammar
all_in : (P : Rule → Type 0) → P (plain sd 1) → P (plain se_any 2) → P (plain dt 1) → P (plain cm 1) → P (plain pi 1) → P (plain ed 2) → P (plain cm 2) → P (plain pi 2) → AllIn P bare
all_in P a b c d e f g h =
    three (All P) start content end
    (alone P (plain sd 1) a)
    (All-cons P (plain se_any 2) (plain dt 1 ∷ plain cm 1 ∷ plain pi 1 ∷ []) b (three P (plain dt 1) (plain cm 1) (plain pi 1) c d e))
    (three P (plain ed 2) (plain cm 2) (plain pi 2) f g h)

leads : LeadsWithin bare
leads = record {
  content = lit< tt;
  states = all_in (λ r. IsState bare r.to) (lit< tt) (lit< tt) (lit< tt) (lit< tt) (lit< tt) (lit< tt) (lit< tt) (lit< tt);
}

few : All (λ state. length state < 2 ^ 30) bare.states
few = three (λ state. length state < 2 ^ 30) start content end (lit< tt) (lit< tt) (lit< tt)

-- none of these is an element of a name
no_name : (on : Symbol) (to : ℕ) → ((name : QName) → on ≢ se name) → Opens (plain on to)
no_name on to h name e = absurd (h name e)

pub without_is_schema : IsSchema without_schema
without_is_schema = record {
  small = record {
    grammars = lit< tt;
    states = alone (λ g. length g.states < 2 ^ 30) bare (lit< tt);
    productions = alone (λ g. All (λ state. length state < 2 ^ 30) g.states) bare few;
  };
  has_states = alone (λ g. 1 ≤ length g.states) bare (lit≤ tt);
  opens_all = alone (AllIn Opens) bare (all_in Opens (no_name sd 1 (λ n e. cc)) (no_name se_any 2 (λ n e. cc)) (no_name dt 1 (λ n e. cc)) (no_name cm 1 (λ n e. cc)) (no_name pi 1 (λ n e. cc)) (no_name ed 2 (λ n e. cc)) (no_name cm 2 (λ n e. cc)) (no_name pi 2 (λ n e. cc)));
  within = alone LeadsWithin bare leads;
  has_wholes = record { document = refl; fragment = λ e. absurd cc; without = λ e. refl };
  ends = none (AllIn IsOfPart);
  paired = record {
    pairs = λ e. absurd cc;
    inners = alone (AllIn (λ r. IsInner without_schema r.inner)) bare (all_in (λ r. IsInner without_schema r.inner) tt tt tt tt tt tt tt tt);
    globals = none (λ e. IsFull without_schema e.full × (e.empty ≡ e.full + 1));
    types = none (λ e. IsFull without_schema e.full × (e.empty ≡ e.full + 1));
    fragment = none (λ e. IsFull without_schema e.1);
  };
  told = record {
    productions = alone (AllIn (λ r. named_in first_names r.on ≢ None)) bare (all_in (λ r. named_in first_names r.on ≢ None) (λ e. cc) (λ e. cc) (λ e. cc) (λ e. cc) (λ e. cc) (λ e. cc) (λ e. cc) (λ e. cc));
    globals = none (λ e. Stands first_names e.name);
    fragment = none (λ e. Stands first_names e.0);
    attributes = none (λ e. Stands first_names e.0);
    types = none (λ e. StandsIfAny first_names e.name);
  };
}
