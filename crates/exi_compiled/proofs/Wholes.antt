-- The grammars of a whole stream.
use Rattle.std.proofs.Common.{◌≡◌, ◌≢◌, ℕ, suc, ◌<◌, ◌≤◌, Option, None, List, [], ◌∷◌, ◌++◌, All, length, map, refl, arith, lit<, lit≤}
use Rattle.std.proofs.lemmas.List.Elements.{All-append, All-cons, All-head, All-nil, All-tail, All-map, All-weaker}
use Rattle.exi_names.specs.declared.names.QName.{QName}
use Rattle.exi_gram.specs.Codes.{Coded, Productions, Second, coded, coded_from, coded_second, coded_seconds, group, single}
use Rattle.exi_gram.specs.Naming.{named_in}
use Rattle.exi_gram.specs.Schemas.{AllIn, LeadsWithin, Stands}
use Rattle.exi_gram.specs.Terminals.{Rule, Rules, Symbol, sd, ed, se, se_any, cm, pi, dt}
use Rattle.exi_gram.specs.Wholes.{document, document_content, document_end, fragment, fragment_content, listed, opening, plain, whole_grammar, whole_start}
use Rattle.xsd_model.specs.Parts.{Parts}
use Rattle.exi_vocabulary.specs.FirstNames.{first_names_of}
use Rattle.exi_compiled.proofs.Good.{Opened, named_name}
use Rattle.exi_compiled.proofs.Lists.{one, three, two}
use Rattle.exi_compiled.proofs.Normal.{OfRule}
use Rattle.exi_compiled.proofs.Places.{IsFullBelow}

-- ---- in the order of the codes
module _ (P : Rule → Type 0) where
  abbrev Item : Coded Rule → Type 0
  Item c = P c.item

  abbrev InSecond : Second Rule → Type 0
  InSecond (single r) = P r
  InSecond (group rs) = All P rs

  from_all : (front : List ℕ) (part : ℕ) (rs : List Rule) → All P rs → All Item (coded_from front part rs)
  from_all front part [] h = All-nil Item
  from_all front part (r ∷ rs) h = All-cons Item (record { parts = front ++ part ∷ []; item = r }) (coded_from front (suc part) rs) (All-head P r rs h) (from_all front (suc part) rs (All-tail P r rs h))

  second_all : (front : List ℕ) (part : ℕ) (s : Second Rule) → InSecond s → All Item (coded_second front part s)
  second_all front part (single r) h = one Item (record { parts = front ++ part ∷ []; item = r }) h
  second_all front part (group rs) h = from_all (front ++ part ∷ []) 0 rs h

  seconds_all : (front : List ℕ) (part : ℕ) (ss : List (Second Rule)) → All InSecond ss → All Item (coded_seconds front part ss)
  seconds_all front part [] h = All-nil Item
  seconds_all front part (s ∷ ss) h =
      All-append Item (coded_second front part s) (coded_seconds front (suc part) ss) (second_all front part s (All-head InSecond s ss h)) (seconds_all front (suc part) ss (All-tail InSecond s ss h))

  listed_all : (q : Productions Rule) → All P q.firsts → All InSecond q.seconds → All P (listed q)
  listed_all q h k =
      All-map P (λ (c : Coded Rule). c.item) (coded q)
      (All-append Item (coded_from [] 0 q.firsts) (coded_seconds (length q.firsts ∷ []) 0 q.seconds) (from_all [] 0 q.firsts h) (seconds_all (length q.firsts ∷ []) 0 q.seconds k))

  openings_all : (to : ℕ) (es : List (QName × ℕ)) → All (λ e. P (opening to e)) es → All P (map (opening to) es)
  openings_all to es h = All-map P (opening to) es h

  document_all : (es : List (QName × ℕ)) → All (λ e. P (opening 2 e)) es → P (plain sd 1) → P (plain se_any 2) → P (plain dt 1) → P (plain cm 1) → P (plain pi 1) → P (plain ed 2) → P (plain cm 2) → P (plain pi 2) → AllIn P (whole_grammar (document es))
  document_all es h a b c d e f g i =
      three (All P) (listed whole_start) (listed (document_content es)) (listed document_end)
      (listed_all whole_start (one P (plain sd 1) a) (All-nil InSecond))
      (listed_all (document_content es) (All-append P (map (opening 2) es) (plain se_any 2 ∷ []) (openings_all 2 es h) (one P (plain se_any 2) b))
      (two InSecond (single (plain dt 1)) (group (plain cm 1 ∷ plain pi 1 ∷ [])) c (two P (plain cm 1) (plain pi 1) d e)))
      (listed_all document_end (one P (plain ed 2) f) (two InSecond (single (plain cm 2)) (single (plain pi 2)) g i))

  fragment_all : (es : List (QName × ℕ)) → All (λ e. P (opening 1 e)) es → P (plain sd 1) → P (plain se_any 1) → P (plain ed 1) → P (plain cm 1) → P (plain pi 1) → AllIn P (whole_grammar (fragment es))
  fragment_all es h a b c d e =
      two (All P) (listed whole_start) (listed (fragment_content es))
      (listed_all whole_start (one P (plain sd 1) a) (All-nil InSecond))
      (listed_all (fragment_content es) (All-append P (map (opening 1) es) (plain se_any 1 ∷ plain ed 1 ∷ []) (openings_all 1 es h) (two P (plain se_any 1) (plain ed 1) b c))
      (two InSecond (single (plain cm 1)) (single (plain pi 1)) d e))

-- ---- what holds of their productions
pub record IsPlain (p : Parts) (count : ℕ) (on : Symbol) (inner : Option ℕ) : Type 0 where
  pub named : named_in (first_names_of p) on ≢ None
  pub opens : (name : QName) → on ≡ se name → inner ≢ None
  pub opened : Opened (IsFullBelow count) inner

pub record IsWhole (p : Parts) (count : ℕ) (g : Rules) : Type 0 where
  pub some : 1 ≤ length g.states
  pub few : length g.states ≤ 3
  pub within : LeadsWithin g
  pub all : AllIn (OfRule (IsPlain p count)) g

module _ (p : Parts) (count : ℕ) where
  abbrev Q : ℕ → Rule → Type 0
  Q states r = OfRule (IsPlain p count) r × (r.to < states)

  abbrev IsOpened : QName × ℕ → Type 0
  IsOpened e = Stands (first_names_of p) e.0 × IsFullBelow count e.1

  bare : (states : ℕ) (on : Symbol) (to : ℕ) → named_in (first_names_of p) on ≢ None → ((name : QName) → on ≢ se name) → to < states → Q states (plain on to)
  bare states on to h k less = (record { named = h; opens = λ name e. absurd (k name e); opened = tt }, less)

  opening_is : (states to : ℕ) → to < states → (e : QName × ℕ) → IsOpened e → Q states (opening to e)
  opening_is states to less e h = (record { named = named_name p (IsFullBelow count) e.0 h.0; opens = λ name e i. cc; opened = h.1 }, less)

  whole_is : (g : Rules) (states : ℕ) → length g.states ≡ states → 1 ≤ states → states ≤ 3 → g.content ≡ 0 → AllIn (Q states) g → IsWhole p count g
  whole_is g states long some few start h = record {
    some = omega arith;
    few = omega arith;
    within = record {
      content = omega arith;
      states = All-weaker (All (Q states)) (All (λ (r : Rule). r.to < length g.states)) (λ state. All-weaker (Q states) (λ (r : Rule). r.to < length g.states) (λ r x. let less : r.to < states = x.1 in omega arith) state) g.states h;
    };
    all = All-weaker (All (Q states)) (All (OfRule (IsPlain p count))) (λ state. All-weaker (Q states) (OfRule (IsPlain p count)) (λ r x. x.0) state) g.states h;
  }

  pub document_is : (es : List (QName × ℕ)) → All IsOpened es → IsWhole p count (whole_grammar (document es))
  document_is es h =
      whole_is (whole_grammar (document es)) 3 refl (lit≤ tt) (lit≤ tt) refl
      (document_all (Q 3) es (All-weaker IsOpened (λ e. Q 3 (opening 2 e)) (opening_is 3 2 (lit< tt)) es h)
      (bare 3 sd 1 (λ e. cc) (λ n e. cc) (lit< tt)) (bare 3 se_any 2 (λ e. cc) (λ n e. cc) (lit< tt)) (bare 3 dt 1 (λ e. cc) (λ n e. cc) (lit< tt))
      (bare 3 cm 1 (λ e. cc) (λ n e. cc) (lit< tt)) (bare 3 pi 1 (λ e. cc) (λ n e. cc) (lit< tt)) (bare 3 ed 2 (λ e. cc) (λ n e. cc) (lit< tt))
      (bare 3 cm 2 (λ e. cc) (λ n e. cc) (lit< tt)) (bare 3 pi 2 (λ e. cc) (λ n e. cc) (lit< tt)))

  pub fragment_is : (es : List (QName × ℕ)) → All IsOpened es → IsWhole p count (whole_grammar (fragment es))
  fragment_is es h =
      whole_is (whole_grammar (fragment es)) 2 refl (lit≤ tt) (lit≤ tt) refl
      (fragment_all (Q 2) es (All-weaker IsOpened (λ e. Q 2 (opening 1 e)) (opening_is 2 1 (lit< tt)) es h)
      (bare 2 sd 1 (λ e. cc) (λ n e. cc) (lit< tt)) (bare 2 se_any 1 (λ e. cc) (λ n e. cc) (lit< tt)) (bare 2 ed 1 (λ e. cc) (λ n e. cc) (lit< tt))
      (bare 2 cm 1 (λ e. cc) (λ n e. cc) (lit< tt)) (bare 2 pi 1 (λ e. cc) (λ n e. cc) (lit< tt)))
