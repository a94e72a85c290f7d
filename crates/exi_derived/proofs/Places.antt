-- A configuration at another place, under other limits and of a reading that began elsewhere: what is made of it is the same.
use Rattle.std.proofs.Common.{◌≡◌, ℕ, Bool, true, false, List, [], ◌∷◌, Option, refl, ap, ◌∙◌, arith}
use Rattle.exi_builtin.specs.declared.learnable.Learned.{Learned}
use Rattle.exi_meter.specs.Metering.{Bounds, Metering}
use Rattle.exi_names.specs.declared.names.NameId.{NameId}
use Rattle.exi_names.specs.declared.names.QName.{QName}
use Rattle.exi_processing.specs.Changes.{Effect, closed, effected, emptied, has_level, leads, learns, learns_name, left_level, moves, opened, put_aside, resumed, retyped, stays}
use Rattle.exi_processing.specs.Configurations.{Body, Config, Setting}
use Rattle.exi_processing.specs.Plans.{Alone, at_end, at_first, at_start, ended_in, nowhere, rooted_in}
use Rattle.exi_processing.specs.Rules.{Telling, known, spelled, under}
use Rattle.exi_processing.specs.declared.start.Start.{Start}
use Rattle.exi_derived.specs.Laws.{IsNoWider}

abbrev pub limited : Bounds → Metering → Metering
limited limits m = record m { limits = limits }

abbrev pub put_at : ℕ → Bounds → Config → Config
put_at place limits c = record c { place = place; meter = limited limits c.meter }

-- where reading began is another, or the same
abbrev pub same_start : Start → Start
same_start s = s

abbrev pub shifted : (Start → Start) → ℕ → Bounds → Config → Config
shifted begun place limits c = record c { start = begun c.start; place = place; meter = limited limits c.meter }

-- limits
pub no_wider : (a : Bounds) → IsNoWider a a
no_wider a = record { events = omega arith; text = omega arith; depth = omega arith }

pub wider_still : (a b c : Bounds) → IsNoWider a b → IsNoWider b c → IsNoWider a c
wider_still a b c p q = record { events = omega (arith, p.events, q.events); text = omega (arith, p.text, q.text); depth = omega (arith, p.depth, q.depth) }

-- what asks neither for the place, nor for the limits, nor for where reading began, and keeps these
pub record Steady (f : Config → Config) : Type 0 where
  pub next : (begun : Start → Start) (place : ℕ) (limits : Bounds) (c : Config) → f (shifted begun place limits c) ≡ shifted begun place limits (f c)
  pub place : (c : Config) → (f c).place ≡ c.place
  pub limits : (c : Config) → (f c).meter.limits ≡ c.meter.limits

pub steady_then : (f h : Config → Config) → Steady f → Steady h → Steady (λ c. h (f c))
steady_then f h s t = record {
  next = λ begun place limits c. ap h (s.next begun place limits c) ∙ t.next begun place limits (f c);
  place = λ c. t.place (f c) ∙ s.place c;
  limits = λ c. t.limits (f c) ∙ s.limits c;
}

pub same_steady : Steady (λ c. c)
same_steady = record { next = λ begun place limits c. refl; place = λ c. refl; limits = λ c. refl }

pub moves_steady : (to : ℕ) → Steady (λ c. moves to c)
moves_steady to = record { next = λ begun place limits c. refl; place = λ c. refl; limits = λ c. refl }

pub learns_steady : (use_of : Learned) → Steady (λ c. learns use_of c)
learns_steady use_of = record { next = λ begun place limits c. refl; place = λ c. refl; limits = λ c. refl }

pub opened_steady : (name : NameId) (inner : Option ℕ) → Steady (λ c. opened name inner c)
opened_steady name inner = record { next = λ begun place limits c. refl; place = λ c. refl; limits = λ c. refl }

pub aside_steady : (g : Setting) → Steady (λ c. put_aside g c)
aside_steady g = record { next = λ begun place limits c. refl; place = λ c. refl; limits = λ c. refl }

pub learned_steady : (t : Telling) (use_of : Learned) → Steady (λ c. learns_name t use_of c)
learned_steady spelled use_of = learns_steady use_of
learned_steady (under uri) use_of = learns_steady use_of
learned_steady (known id) use_of = same_steady

pub rooted_steady : (a : Alone) (name : QName) → Steady (λ c. rooted_in a name c)
rooted_steady nowhere name = same_steady
rooted_steady at_start name = same_steady
rooted_steady at_first name = record { next = λ begun place limits c. refl; place = λ c. refl; limits = λ c. refl }
rooted_steady at_end name = same_steady

pub effected_steady : (e : Effect) (to : ℕ) → Steady (λ c. effected e to c)
effected_steady leads to = moves_steady to
effected_steady (retyped grammar) to = record { next = λ begun place limits c. refl; place = λ c. refl; limits = λ c. refl }
effected_steady emptied to = record { next = λ begun place limits c. refl; place = λ c. refl; limits = λ c. refl }
effected_steady stays to = same_steady

-- a level that is left
left_limited : (b : Bool) (limits : Bounds) (m : Metering) → left_level b (limited limits m) ≡ limited limits (left_level b m)
left_limited true limits m = refl
left_limited false limits m = refl

left_limits : (b : Bool) (m : Metering) → (left_level b m).limits ≡ m.limits
left_limits true m = refl
left_limits false m = refl

pub closed_steady : Steady (λ c. closed c)
closed_steady = record {
  next = λ begun place limits c. ap (λ (m : Metering). record (closed c) { start = begun c.start; place = place; meter = m }) (left_limited (has_level c.elements c.outer) limits c.meter);
  place = λ c. refl;
  limits = λ c. left_limits (has_level c.elements c.outer) c.meter;
}

-- a fragment's end
resumed_next : (bs : List Body) (begun : Start → Start) (place : ℕ) (limits : Bounds) (c : Config) → resumed bs (shifted begun place limits c) ≡ shifted begun place limits (resumed bs c)
resumed_next [] begun place limits c = refl
resumed_next (b ∷ bs) begun place limits c = refl

resumed_place : (bs : List Body) (c : Config) → (resumed bs c).place ≡ c.place
resumed_place [] c = refl
resumed_place (b ∷ bs) c = refl

resumed_limits : (bs : List Body) (c : Config) → (resumed bs c).meter.limits ≡ c.meter.limits
resumed_limits [] c = refl
resumed_limits (b ∷ bs) c = refl

resumed_steady : Steady (λ c. resumed c.aside c)
resumed_steady = record { next = λ begun place limits c. resumed_next c.aside begun place limits c; place = λ c. resumed_place c.aside c; limits = λ c. resumed_limits c.aside c }

pub ended_steady : (a : Alone) → Steady (λ c. ended_in a c)
ended_steady nowhere = record { next = λ begun place limits c. refl; place = λ c. refl; limits = λ c. refl }
ended_steady at_start = resumed_steady
ended_steady at_first = resumed_steady
ended_steady at_end = resumed_steady
