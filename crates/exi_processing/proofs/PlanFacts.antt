-- What is known of each production's plan: what it reads, and what it makes of a configuration.
use Rattle.std.proofs.Common.{◌≡◌, ℕ, Bool, true, false, List, [], ◌∷◌, refl, ◌∙◌}
use Rattle.exi_builtin.specs.declared.learnable.Learned.{Learned}
use Rattle.exi_builtin.specs.declared.learnable.Learned.TheVariants as used
use Rattle.exi_gram.specs.Switches.{align_of}
use Rattle.exi_meter.specs.Metering.{Metering}
use Rattle.exi_names.specs.declared.names.QName.{QName}
use Rattle.exi_typed.specs.Strings.{Named}
use Rattle.exi_processing.specs.Changes.{Effect, effect_of, effected, emptied, has_level, innermost, leads, learns_name, left_level, resumed, retyped, stays}
use Rattle.exi_processing.specs.Configurations.{Body, Config, Setting}
use Rattle.exi_processing.specs.Plans.{Alone, at_end, at_first, at_start, element_made, ended_in, nowhere, plan_on, rooted_in}
use Rattle.exi_processing.specs.Rules.{Rule, Telling, Terminal, attribute, characters, comment, declaration, document_type, element, end_document, end_element, entity, instruction, known, self_contained, spelled, start_document, under}
use Rattle.exi_processing.proofs.Readings.{Reads, attribute_reads, characters_reads, declaration_reads, four_texts_read, name_reads, nothing_reads, text_reads, two_texts_read}

-- ---- what is read
pub plan_reads : (g : Setting) (a : Alone) (c : Config) (r : Rule) (t : Terminal) → Reads {X = (plan_on g a c r t).Item} (align_of g.options) (plan_on g a c r t).read (plan_on g a c r t).Spells (plan_on g a c r t).Refuses
plan_reads g a c r start_document = nothing_reads (align_of g.options)
plan_reads g a c r end_document = nothing_reads (align_of g.options)
plan_reads g a c r (element t) = name_reads g t
plan_reads g a c r (attribute t v) = attribute_reads g t v
plan_reads g a c r (characters d) = characters_reads g d (innermost c.elements)
plan_reads g a c r end_element = nothing_reads (align_of g.options)
plan_reads g a c r declaration = declaration_reads (align_of g.options)
plan_reads g a c r self_contained = nothing_reads (align_of g.options)
plan_reads g a c r comment = text_reads g
plan_reads g a c r instruction = two_texts_read g
plan_reads g a c r document_type = four_texts_read g
plan_reads g a c r entity = text_reads g

-- ---- what is made
-- what was charged, against which limits, and where the bits go on stays, and so does where reading began
pub record Stays (k d : Config) : Type 0 where
  pub place : d.place ≡ k.place
  pub used : d.meter.used ≡ k.meter.used
  pub limits : d.meter.limits ≡ k.meter.limits
  pub start : d.start ≡ k.start

same_stays : (k : Config) → Stays k k
same_stays k = record { place = refl; used = refl; limits = refl; start = refl }

stays_then : (k c d : Config) → Stays k c → Stays c d → Stays k d
stays_then k c d s t = record { place = t.place ∙ s.place; used = t.used ∙ s.used; limits = t.limits ∙ s.limits; start = t.start ∙ s.start }

learned_stays : (t : Telling) (use_of : Learned) (k : Config) → Stays k (learns_name t use_of k)
learned_stays spelled use_of k = record { place = refl; used = refl; limits = refl; start = refl }
learned_stays (under uri) use_of k = record { place = refl; used = refl; limits = refl; start = refl }
learned_stays (known id) use_of k = same_stays k

rooted_stays : (a : Alone) (name : QName) (k : Config) → Stays k (rooted_in a name k)
rooted_stays nowhere name k = same_stays k
rooted_stays at_start name k = same_stays k
rooted_stays at_first name k = record { place = refl; used = refl; limits = refl; start = refl }
rooted_stays at_end name k = same_stays k

effect_stays : (e : Effect) (to : ℕ) (k : Config) → Stays k (effected e to k)
effect_stays leads to k = record { place = refl; used = refl; limits = refl; start = refl }
effect_stays (retyped grammar) to k = record { place = refl; used = refl; limits = refl; start = refl }
effect_stays emptied to k = record { place = refl; used = refl; limits = refl; start = refl }
effect_stays stays to k = same_stays k

element_stays : (g : Setting) (a : Alone) (t : Telling) (r : Rule) (n : Named) (k : Config) → Stays k (element_made g a t r n k).1
element_stays g a t r n k =
    let s = stays_then k (rooted_in a n.name k) (learns_name t (used.Se n.id) (rooted_in a n.name k)) (rooted_stays a n.name k) (learned_stays t (used.Se n.id) (rooted_in a n.name k)) in
    record { place = s.place; used = s.used; limits = s.limits; start = s.start }

attribute_stays : (e : Effect) (to : ℕ) (t : Telling) (use_of : Learned) (k : Config) → Stays k (effected e to (learns_name t use_of k))
attribute_stays e to t use_of k = stays_then k (learns_name t use_of k) (effected e to (learns_name t use_of k)) (learned_stays t use_of k) (effect_stays e to (learns_name t use_of k))

resumed_stays : (bs : List Body) (k : Config) → Stays k (resumed bs k)
resumed_stays [] k = record { place = refl; used = refl; limits = refl; start = refl }
resumed_stays (b ∷ bs) k = record { place = refl; used = refl; limits = refl; start = refl }

ended_stays : (a : Alone) (k : Config) → Stays k (ended_in a k)
ended_stays nowhere k = record { place = refl; used = refl; limits = refl; start = refl }
ended_stays at_start k = resumed_stays k.aside k
ended_stays at_first k = resumed_stays k.aside k
ended_stays at_end k = resumed_stays k.aside k

level_stays : (b : Bool) (m : Metering) → ((left_level b m).used ≡ m.used) × ((left_level b m).limits ≡ m.limits)
level_stays true m = (refl, refl)
level_stays false m = (refl, refl)

pub made_stays : (g : Setting) (a : Alone) (c : Config) (r : Rule) (t : Terminal) (x : (plan_on g a c r t).Item) (k : Config) → Stays k ((plan_on g a c r t).make x k).1
made_stays g a c r start_document x k = record { place = refl; used = refl; limits = refl; start = refl }
made_stays g a c r end_document x k = ended_stays a k
made_stays g a c r (element t) x k = element_stays g a t r x k
made_stays g a c r (attribute t v) x k = attribute_stays (effect_of g v x.0.id x.1) r.to t (used.At x.0.id) k
made_stays g a c r (characters d) x k = record { place = refl; used = refl; limits = refl; start = refl }
made_stays g a c r end_element x k = (let l = level_stays (has_level k.elements k.outer) k.meter in record { place = refl; used = l.0; limits = l.1; start = refl })
made_stays g a c r declaration x k = record { place = refl; used = refl; limits = refl; start = refl }
made_stays g a c r self_contained x k = record { place = refl; used = refl; limits = refl; start = refl }
made_stays g a c r comment x k = record { place = refl; used = refl; limits = refl; start = refl }
made_stays g a c r instruction x k = record { place = refl; used = refl; limits = refl; start = refl }
made_stays g a c r document_type x k = record { place = refl; used = refl; limits = refl; start = refl }
made_stays g a c r entity x k = record { place = refl; used = refl; limits = refl; start = refl }
