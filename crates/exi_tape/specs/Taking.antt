-- What an object that puts events on a tape has done since.
use Rattle.std.specs.Prelude.{◌≡◌, ℕ, ◌+◌, ◌≤◌, ◌^◌, List, [], ◌++◌, length, ◌⊎◌}
use Rattle.std.proofs.Common.{sym, ap, ◌∙◌, refl, arith}
use Rattle.std.proofs.lemmas.List.{append-nil, append_assoc}
use Rattle.exi_names.specs.Events as event
use Rattle.exi_pool.specs.declared.pass.PoolPass.{PoolPass}
use Rattle.exi_pool.specs.Passes.{view_of, dry_of, Rose}
use Rattle.exi_pool.specs.Views.{takes, SameStart}
use Rattle.exi_tape.specs.Rolls.{times}
use Rattle.exi_tape.specs.Spelling.{spelled}
use Rattle.exi_tape.specs.declared.tape.Tape.{Tape}
use Rattle.exi_tape.specs.Lists.{events_of, pages_of}

-- the tape has the pages that it had and those that the pass took since; the pass gave none
pub record Paged (old : Tape) (from : PoolPass) (new : Tape) (to : PoolPass) : Type 0 where
  pub pages : (n : ℕ) → times n (pages_of new) + takes n (view_of from) ≡ times n (pages_of old) + takes n (view_of to)
  pub gives : (view_of to).gives ≡ (view_of from).gives
  pub start : SameStart (view_of from) (view_of to)
  pub later : dry_of from ≤ dry_of to

-- these events stand behind those that stood on the tape
pub record Tapes (old : Tape) (from : PoolPass) (es : List event.Happening) (new : Tape) (to : PoolPass) : Type 0 where
  pub events : events_of new ≡ events_of old ++ es
  pub paged : Paged old from new to

-- the event found no page, or is spelled by 2 ^ 40 bytes or more; the list is as it was
pub record Refuses (old : Tape) (from : PoolPass) (e : event.Happening) (new : Tape) (to : PoolPass) : Type 0 where
  pub events : events_of new ≡ events_of old
  pub paged : Paged old from new to
  pub cause : Rose (dry_of from) (dry_of to) ⊎ (2 ^ 40 ≤ length (spelled e))

pub paged_none : (t : Tape) (p : PoolPass) → Paged t p t p
paged_none t p = record { pages = λ n. refl; gives = refl; start = (refl, refl, refl); later = omega arith }

pub paged_more : (t u v : Tape) (p q r : PoolPass) → Paged t p u q → Paged u q v r → Paged t p v r
paged_more t u v p q r a b = record {
  pages = λ n. omega (arith, a.pages n, b.pages n);
  gives = b.gives ∙ a.gives;
  start = (b.start.0 ∙ a.start.0, b.start.1 ∙ a.start.1, b.start.2 ∙ a.start.2);
  later = omega (arith, a.later, b.later);
}

pub tapes_none : (t : Tape) (p : PoolPass) → Tapes t p [] t p
tapes_none t p = record { events = sym (append-nil (events_of t)); paged = paged_none t p }

pub tapes_more : (t u v : Tape) (p q r : PoolPass) (es fs : List event.Happening) → Tapes t p es u q → Tapes u q fs v r → Tapes t p (es ++ fs) v r
tapes_more t u v p q r es fs a b = record {
  events = b.events ∙ ap (λ l. l ++ fs) a.events ∙ append_assoc (events_of t) es fs;
  paged = paged_more t u v p q r a.paged b.paged;
}
