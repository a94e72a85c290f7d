-- The tables stay sound from one event to the next.
use Rattle.std.proofs.Common.{◌≡◌, ℕ, List, [], ◌∷◌, refl, subst, ◌∙◌}
use Rattle.exi_tables.proofs.Sound.{first_sound}
use Rattle.exi_builtin.specs.declared.learnable.Learned.{Learned}
use Rattle.exi_builtin.specs.declared.learnable.Learned.TheVariants as used
use Rattle.exi_names.specs.declared.names.QName.{QName}
use Rattle.exi_processing.specs.Changes.{Effect, effect_of, effected, emptied, leads, learns_name, resumed, retyped, stays}
use Rattle.exi_processing.specs.Configurations.{Body, Config, Setting}
use Rattle.exi_processing.specs.OneEvent.{remembered}
use Rattle.exi_processing.specs.Plans.{Alone, at_end, at_first, at_start, ended_in, nowhere, plan_on, rooted_in}
use Rattle.exi_processing.specs.Rules.{Rule, Telling, Terminal, attribute, characters, comment, declaration, document_type, element, end_document, end_element, entity, instruction, known, self_contained, spelled, start_document, under}
use Rattle.exi_writing.specs.Sound.{AreSound, HasSoundTables}

resumed_sound : (bs : List Body) (c : Config) → c.aside ≡ bs → HasSoundTables c → HasSoundTables (resumed bs c)
resumed_sound [] c is s = record { here = s.here; aside = s.aside }
resumed_sound (b ∷ bs) c is s =
    let all : AreSound (b ∷ bs) = subst (AreSound) is s.aside in
    record { here = all.0; aside = all.1 }

ended_sound : (a : Alone) (c : Config) → HasSoundTables c → HasSoundTables (ended_in a c)
ended_sound nowhere c s = record { here = s.here; aside = s.aside }
ended_sound at_start c s = resumed_sound c.aside c refl s
ended_sound at_first c s = resumed_sound c.aside c refl s
ended_sound at_end c s = resumed_sound c.aside c refl s

rooted_sound : (a : Alone) (name : QName) (c : Config) → HasSoundTables c → HasSoundTables (rooted_in a name c)
rooted_sound nowhere name c s = s
rooted_sound at_start name c s = s
rooted_sound at_first name c s = record { here = s.here; aside = s.aside }
rooted_sound at_end name c s = s

learned_sound : (t : Telling) (use_of : Learned) (c : Config) → HasSoundTables c → HasSoundTables (learns_name t use_of c)
learned_sound spelled use_of c s = record { here = s.here; aside = s.aside }
learned_sound (under uri) use_of c s = record { here = s.here; aside = s.aside }
learned_sound (known id) use_of c s = s

effected_sound : (e : Effect) (to : ℕ) (c : Config) → HasSoundTables c → HasSoundTables (effected e to c)
effected_sound leads to c s = record { here = s.here; aside = s.aside }
effected_sound (retyped grammar) to c s = record { here = s.here; aside = s.aside }
effected_sound emptied to c s = record { here = s.here; aside = s.aside }
effected_sound stays to c s = s

-- what a production makes of a configuration
pub made_sound : (g : Setting) (a : Alone) (c0 : Config) (r : Rule) (t : Terminal) (x : (plan_on g a c0 r t).Item) (c : Config) → HasSoundTables c → HasSoundTables (remembered ((plan_on g a c0 r t).make x c)).1
made_sound g a c0 r start_document x c s = record { here = s.here; aside = s.aside }
made_sound g a c0 r end_document x c s = let k = ended_sound a c s in record { here = k.here; aside = k.aside }
made_sound g a c0 r (element t) x c s = let k = learned_sound t (used.Se x.id) (rooted_in a x.name c) (rooted_sound a x.name c s) in record { here = k.here; aside = k.aside }
made_sound g a c0 r (attribute t v) x c s =
    let k = effected_sound (effect_of g v x.0.id x.1) r.to (learns_name t (used.At x.0.id) c) (learned_sound t (used.At x.0.id) c s) in
    record { here = k.here; aside = k.aside }
made_sound g a c0 r (characters d) x c s = record { here = s.here; aside = s.aside }
made_sound g a c0 r end_element x c s = record { here = s.here; aside = s.aside }
made_sound g a c0 r declaration x c s = record { here = s.here; aside = s.aside }
made_sound g a c0 r self_contained x c s = record { here = first_sound _; aside = (s.here, s.aside) }
made_sound g a c0 r comment x c s = record { here = s.here; aside = s.aside }
made_sound g a c0 r instruction x c s = record { here = s.here; aside = s.aside }
made_sound g a c0 r document_type x c s = record { here = s.here; aside = s.aside }
made_sound g a c0 r entity x c s = record { here = s.here; aside = s.aside }

-- where reading began stays
resumed_start : (bs : List Body) (c : Config) → (resumed bs c).start ≡ c.start
resumed_start [] c = refl
resumed_start (b ∷ bs) c = refl

ended_start : (a : Alone) (c : Config) → (ended_in a c).start ≡ c.start
ended_start nowhere c = refl
ended_start at_start c = resumed_start c.aside c
ended_start at_first c = resumed_start c.aside c
ended_start at_end c = resumed_start c.aside c

rooted_start : (a : Alone) (name : QName) (c : Config) → (rooted_in a name c).start ≡ c.start
rooted_start nowhere name c = refl
rooted_start at_start name c = refl
rooted_start at_first name c = refl
rooted_start at_end name c = refl

learned_start : (t : Telling) (use_of : Learned) (c : Config) → (learns_name t use_of c).start ≡ c.start
learned_start spelled use_of c = refl
learned_start (under uri) use_of c = refl
learned_start (known id) use_of c = refl

effected_start : (e : Effect) (to : ℕ) (c : Config) → (effected e to c).start ≡ c.start
effected_start leads to c = refl
effected_start (retyped grammar) to c = refl
effected_start emptied to c = refl
effected_start stays to c = refl

pub made_start : (g : Setting) (a : Alone) (c0 : Config) (r : Rule) (t : Terminal) (x : (plan_on g a c0 r t).Item) (c : Config) → (remembered ((plan_on g a c0 r t).make x c)).1.start ≡ c.start
made_start g a c0 r start_document x c = refl
made_start g a c0 r end_document x c = ended_start a c
made_start g a c0 r (element t) x c = learned_start t (used.Se x.id) (rooted_in a x.name c) ∙ rooted_start a x.name c
made_start g a c0 r (attribute t v) x c = effected_start (effect_of g v x.0.id x.1) r.to (learns_name t (used.At x.0.id) c) ∙ learned_start t (used.At x.0.id) c
made_start g a c0 r (characters d) x c = refl
made_start g a c0 r end_element x c = refl
made_start g a c0 r declaration x c = refl
made_start g a c0 r self_contained x c = refl
made_start g a c0 r comment x c = refl
made_start g a c0 r instruction x c = refl
made_start g a c0 r document_type x c = refl
made_start g a c0 r entity x c = refl
