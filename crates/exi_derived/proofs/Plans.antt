-- What a production does is the same at another place, under other limits, and where reading began elsewhere.
use Rattle.std.proofs.Common.{◌≡◌, ℕ, Option, refl}
use Rattle.exi_builtin.specs.declared.learnable.Learned.TheVariants as used
use Rattle.exi_meter.specs.Metering.{Bounds}
use Rattle.exi_names.specs.Events.{Happening}
use Rattle.exi_tables.specs.Partitions.{Partitions}
use Rattle.exi_processing.specs.Changes.{closed, effect_of, effected, learns, learns_name, moves, opened, opener}
use Rattle.exi_processing.specs.Configurations.{Config, Setting}
use Rattle.exi_processing.specs.OneEvent.{is_start}
use Rattle.exi_processing.specs.Plans.{Alone, Plan, plan_on, rooted_in}
use Rattle.exi_processing.specs.Rules.{Rule, Terminal, attribute, characters, comment, declaration, document_type, element, end_document, end_element, entity, instruction, self_contained, start_document}
use Rattle.exi_processing.specs.declared.start.Start.{Start}
use Rattle.exi_writing.specs.Contents.{written_on}
use Rattle.exi_writing.specs.Pieces.{Piece}
use Rattle.exi_derived.proofs.Places.{Steady, aside_steady, closed_steady, effected_steady, ended_steady, learned_steady, learns_steady, moves_steady, opened_steady, rooted_steady, shifted, steady_then}

-- ---- the plan, and what is written of an event by it
module _ (g : Setting) (a : Alone) (c : Config) (r : Rule) (e : Happening) (p : Partitions) (begun : Start → Start) (place : ℕ) (limits : Bounds) (P : (plan : Plan) → Option (Piece plan.Item) → Type 0) where
  pub same_plan : (t : Terminal) → P (plan_on g a c r t) (written_on g a c r t e p) → P (plan_on g a (shifted begun place limits c) r t) (written_on g a (shifted begun place limits c) r t e p)
  same_plan start_document h = h
  same_plan end_document h = h
  same_plan (element t) h = h
  same_plan (attribute t v) h = h
  same_plan (characters d) h = h
  same_plan end_element h = h
  same_plan declaration h = h
  same_plan self_contained h = h
  same_plan comment h = h
  same_plan instruction h = h
  same_plan document_type h = h
  same_plan entity h = h

-- ---- what is made of an item: the next configuration, and the event, which tells the place at most
pub record MakesAlike (plan : Plan) : Type 0 where
  pub next : (x : plan.Item) → Steady (λ c. (plan.make x c).1)
  pub begins : (x : plan.Item) (begun : Start → Start) (place : ℕ) (limits : Bounds) (c : Config) → is_start (plan.make x (shifted begun place limits c)).0 ≡ is_start (plan.make x c).0
  pub event : (x : plan.Item) (begun : Start → Start) (limits : Bounds) (c : Config) → (plan.make x (shifted begun c.place limits c)).0 ≡ (plan.make x c).0

pub makes_alike : (g : Setting) (a : Alone) (c : Config) (r : Rule) (t : Terminal) → MakesAlike (plan_on g a c r t)
makes_alike g a c r start_document = record { next = λ x. moves_steady r.to; begins = λ x begun place limits d. refl; event = λ x begun limits d. refl }
makes_alike g a c r end_document = record { next = λ x. ended_steady a; begins = λ x begun place limits d. refl; event = λ x begun limits d. refl }
makes_alike g a c r (element t) = record {
  next = λ x.
      steady_then (λ (d : Config). moves r.to (learns_name t (used.Se x.id) (rooted_in a x.name d))) (λ (d : Config). opened x.id (opener g x.name r.inner) d)
      (steady_then (λ (d : Config). learns_name t (used.Se x.id) (rooted_in a x.name d)) (λ (d : Config). moves r.to d)
      (steady_then (λ (d : Config). rooted_in a x.name d) (λ (d : Config). learns_name t (used.Se x.id) d) (rooted_steady a x.name) (learned_steady t (used.Se x.id))) (moves_steady r.to))
      (opened_steady x.id (opener g x.name r.inner));
  begins = λ x begun place limits d. refl;
  event = λ x begun limits d. refl;
}
makes_alike g a c r (attribute t v) = record {
  next = λ x. steady_then (λ (d : Config). learns_name t (used.At x.0.id) d) (λ (d : Config). effected (effect_of g v x.0.id x.1) r.to d) (learned_steady t (used.At x.0.id)) (effected_steady (effect_of g v x.0.id x.1) r.to);
  begins = λ x begun place limits d. refl;
  event = λ x begun limits d. refl;
}
makes_alike g a c r (characters d) = record { next = λ x. steady_then (λ (k : Config). learns used.Ch k) (λ (k : Config). moves r.to k) (learns_steady used.Ch) (moves_steady r.to); begins = λ x begun place limits k. refl; event = λ x begun limits k. refl }
makes_alike g a c r end_element = record { next = λ x. steady_then (λ (k : Config). learns used.Ee k) (λ (k : Config). closed k) (learns_steady used.Ee) closed_steady; begins = λ x begun place limits k. refl; event = λ x begun limits k. refl }
makes_alike g a c r declaration = record { next = λ x. moves_steady r.to; begins = λ x begun place limits d. refl; event = λ x begun limits d. refl }
makes_alike g a c r self_contained = record { next = λ x. aside_steady g; begins = λ x begun place limits d. refl; event = λ x begun limits d. refl }
makes_alike g a c r comment = record { next = λ x. moves_steady r.to; begins = λ x begun place limits d. refl; event = λ x begun limits d. refl }
makes_alike g a c r instruction = record { next = λ x. moves_steady r.to; begins = λ x begun place limits d. refl; event = λ x begun limits d. refl }
makes_alike g a c r document_type = record { next = λ x. moves_steady r.to; begins = λ x begun place limits d. refl; event = λ x begun limits d. refl }
makes_alike g a c r entity = record { next = λ x. moves_steady r.to; begins = λ x begun place limits d. refl; event = λ x begun limits d. refl }
