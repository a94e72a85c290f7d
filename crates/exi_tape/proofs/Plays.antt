-- A tape that is played, event by event.
use Rattle.std.proofs.Common.{◌≡◌, ℕ, ◌<◌, List, [], ◌∷◌, ◌++◌, length, Option, Some, None, ap, ◌∙◌, sym, refl, subst, arith, append_assoc, length-append, Bool, true, false, cond, ◌==◌}
use Rattle.std.proofs.lemmas.Bool.{eqb-true}
use Rattle.std.proofs.lemmas.List.{append-nil}
use Rattle.exi_names.specs.Events as event
use Rattle.exi_tape.specs.Spelling.{spelled, spelled_all}
use Rattle.exi_tape.specs.Reading.{event_at}
use Rattle.exi_tape.specs.Tapes.{AllSound}
use Rattle.exi_tape.specs.Playing.{PlaysSome, BreaksOff}
use Rattle.exi_tape.proofs.Back.{event_back}
use Rattle.exi_tape.proofs.Lists.{some_bytes}

abbrev first_of : {A B : Type 0} → A → Option (A × B) → A
first_of d None = d
first_of d (Some r) = r.0

abbrev rest_of : {A B : Type 0} → B → Option (A × B) → B
rest_of d None = d
rest_of d (Some r) = r.1

abbrev is_some_of : {A : Type 0} → Option A → ℕ
is_some_of None = 0
is_some_of (Some x) = 1

pub not_none : {A : Type 0} (r : Option A) (x : A) → r ≡ Some x → r ≡ None → ⊥
not_none r x e n = absurd (omega (arith, ap is_some_of (sym e ∙ n)))

module _ {S : Type 0} (took : S → List event.Happening → S → Type 0) where
  -- some events were shown, and these bytes spell the others
  pub record Playing (events : List event.Happening) (old now : S) (left : List ℕ) : Type 0 where
    pub shown : List event.Happening
    pub others : List event.Happening
    pub all : events ≡ shown ++ others
    pub bytes : left ≡ spelled_all others
    pub good : AllSound others
    pub taken : took old shown now

  pub starts : (events : List event.Happening) (old : S) (left bytes : List ℕ) → left ≡ bytes → bytes ≡ spelled_all events → AllSound events → took old [] old → Playing events old old left
  starts events old left bytes is spells good none = record { shown = []; others = events; all = refl; bytes = is ∙ spells; good = good; taken = none }

  -- the next event
  pub record Next (events : List event.Happening) (old now : S) (left : List ℕ) : Type 0 where
    pub shown : List event.Happening
    pub first : event.Happening
    pub others : List event.Happening
    pub all : events ≡ shown ++ first ∷ others
    pub found : event_at left ≡ Some (first, spelled_all others)
    pub shorter : length (spelled_all others) < length left
    pub good : AllSound others
    pub taken : took old shown now

  pub next : (events : List event.Happening) (old now : S) (left : List ℕ) → Playing events old now left → (left ≡ [] → ⊥) → Next events old now left
  next events old now left p some = by p.others p.all p.bytes p.good
    where
      by : (others : List event.Happening) → events ≡ p.shown ++ others → left ≡ spelled_all others → AllSound others → Next events old now left
      by [] all bytes good = absurd (some bytes)
      by (e ∷ es) all bytes good = record {
        shown = p.shown;
        first = e;
        others = es;
        all = all;
        found = ap (λ l. event_at l) bytes ∙ event_back e (spelled_all es) good.0 good.1;
        shorter = omega (arith, ap length bytes, length-append (spelled e) (spelled_all es), some_bytes e);
        good = good.2;
        taken = p.taken;
      }

  pub shown_first : (events : List event.Happening) (old now : S) (left : List ℕ) (n : Next events old now left) (e : event.Happening) (rest : List ℕ) → event_at left ≡ Some (e, rest) → n.first ≡ e
  shown_first events old now left n e rest is = ap (first_of e) (sym n.found ∙ is)

  pub left_rest : (events : List event.Happening) (old now : S) (left : List ℕ) (n : Next events old now left) (e : event.Happening) (rest : List ℕ) → event_at left ≡ Some (e, rest) → rest ≡ spelled_all n.others
  left_rest events old now left n e rest is = ap (rest_of rest) (sym is ∙ n.found)

  pub goes : (events : List event.Happening) (old now new : S) (left rest : List ℕ) (e : event.Happening) (n : Next events old now left) → event_at left ≡ Some (e, rest) → took old (n.shown ++ e ∷ []) new → Playing events old new rest
  goes events old now new left rest e n is took' = record {
    shown = n.shown ++ e ∷ [];
    others = n.others;
    all = n.all ∙ ap (λ x. n.shown ++ x ∷ n.others) (shown_first events old now left n e rest is) ∙ sym (append_assoc n.shown (e ∷ []) n.others);
    bytes = left_rest events old now left n e rest is;
    good = n.good;
    taken = took';
  }

  pub fewer_left : (events : List event.Happening) (old now : S) (left rest : List ℕ) (e : event.Happening) (n : Next events old now left) → event_at left ≡ Some (e, rest) → length rest < length left
  fewer_left events old now left rest e n is = omega (arith, n.shorter, ap length (left_rest events old now left n e rest is))

  pub ends : (events : List event.Happening) (old now : S) (left : List ℕ) → Playing events old now left → left ≡ [] → took old events now
  ends events old now left p none = by p.others p.all p.bytes
    where
      by : (others : List event.Happening) → events ≡ p.shown ++ others → left ≡ spelled_all others → took old events now
      by [] all bytes = subst (λ l. took old l now) (sym (all ∙ append-nil p.shown)) p.taken
      by (e ∷ es) all bytes = absurd (omega (arith, ap length none, ap length bytes, length-append (spelled e) (spelled_all es), some_bytes e))

  pub some_played : (events : List event.Happening) (old now : S) (left : List ℕ) → Playing events old now left → PlaysSome took events old now
  some_played events old now left p = (p.shown, p.others, p.all, p.taken)

  pub some_played_still : (events : List event.Happening) (old now new : S) (left : List ℕ) (p : Playing events old now left) → took old (p.shown ++ []) new → PlaysSome took events old new
  some_played_still events old now new left p taken = (p.shown, p.others, p.all, subst (λ l. took old l new) (append-nil p.shown) taken)

  pub broken_off : (broke : S → event.Happening → S → Type 0) (events : List event.Happening) (old now new : S) (left rest : List ℕ) (e : event.Happening) (n : Next events old now left) → event_at left ≡ Some (e, rest) → broke now e new → BreaksOff took broke events old new
  broken_off broke events old now new left rest e n is b = (n.shown, n.others, e, now, n.all ∙ ap (λ x. n.shown ++ x ∷ n.others) (shown_first events old now left n e rest is), n.taken, b)

abbrev flag_of : Bool → ℕ
flag_of b = cond b 1 0

-- bytes that are not over
pub some_left : (bs : List ℕ) → false ≡ (length bs == 0) → bs ≡ [] → ⊥
some_left [] h e = absurd (omega (arith, ap flag_of h))
some_left (x ∷ xs) h e = absurd (omega (arith, ap length e))

-- bytes that are over
pub none_left : (bs : List ℕ) → true ≡ (length bs == 0) → bs ≡ []
none_left [] h = refl
none_left (x ∷ xs) h = absurd (omega (arith, eqb-true (length (x ∷ xs)) 0 (sym h)))
