-- What an event makes of where a writer stands, by the production that stands for it: SC alone leads to the start of a
-- fragment, and from there only SD leads on.
use Rattle.std.proofs.Common.{◌≡◌, ◌≢◌, ◌⊎◌, inl, inr, ℕ, zero, suc, ◌+◌, Bool, true, false, List, [], ◌∷◌, ◌++◌, length, slice_get, Option, Some, None, refl, sym, ap, ◌∙◌, subst, All}
use Rattle.std.specs.Prelude.{Result, Ok, Err}
use Rattle.std.proofs.lemmas.Bool.{cases_Bool}
use Rattle.std.proofs.lemmas.List.Elements.{All-head}
use Rattle.exi_gram.specs.Codes.{Coded, code_bits, coded}
use Rattle.exi_gram.specs.Laws.{codes}
use Rattle.exi_gram.specs.Switches.{align_of}
use Rattle.exi_meter.specs.Metering.{Metering}
use Rattle.exi_names.specs.Events.{Happening}
use Rattle.exi_names.specs.Events as event
use Rattle.exi_builtin.specs.declared.learnable.Learned.{Learned}
use Rattle.exi_builtin.specs.declared.learnable.Learned.TheVariants as used
use Rattle.exi_processing.specs.Changes.{Effect, effect_of, effected, emptied, emptied_elements, enclosing, fragment_at, has_level, leads, learns_name, moved_elements, outer_behind, restated, resumed, retyped, stays}
use Rattle.exi_processing.specs.Configurations.{Body, Config, Setting, outer_rules, rules_in, rules_of}
use Rattle.exi_processing.specs.OneEvent.{remembered}
use Rattle.exi_processing.specs.Plans.{Alone, Given, Plan, alone_in, at_end, at_first, at_start, ended_in, nowhere, outer_alone, plan_of, plan_on}
use Rattle.exi_processing.specs.Rules.{Rule, Telling, Terminal, attribute, characters, comment, declaration, document_type, element, end_document, end_element, entity, fragment_start, instruction, known, self_contained, spelled, start_document, under}
use Rattle.exi_processing.specs.Runs.{has_ended, is_end}
use Rattle.exi_processing.specs.Sound.{IsSound, IsSoundAside, IsWhereOpen}
use Rattle.exi_processing.specs.Spelled.{further}
use Rattle.exi_processing.specs.declared.frames.Element.{Element}
use Rattle.exi_processing.specs.declared.frames.Outer.{Outer}
use Rattle.exi_processing.specs.declared.frames.Outer.TheVariants as outer
use Rattle.exi_processing.specs.declared.frames.State.{State}
use Rattle.exi_processing.specs.declared.frames.State.TheVariants as state
use Rattle.exi_pen.specs.Steps.{begins_fragment}
use Rattle.exi_writing.specs.Contents.{is_sc, written_on}
use Rattle.exi_writing.specs.OneEvent.{Refused, Written, at_end as finished, behind, behind_code, by_code, chosen, followed, followed_by, matches, one_deeper, one_more, padding, paid, written, written_by}
use Rattle.exi_writing.specs.Pieces.{Piece}
use Rattle.exi_writing.proofs.OneEvent.{bind_parts, context, fewest_stands}

-- ---- by which production
pub record IsMade (g : Setting) (c : Config) (e : Happening) (w : Written) : Type 0 where
  pub going : has_ended c ≡ false
  pub coded_rule : Coded Rule
  pub index : ℕ
  pub there : slice_get (coded (rules_of g c)) index ≡ Some coded_rule
  pub piece : Piece (plan_of g c coded_rule.item).Item
  pub spelled_so : written_by g c coded_rule.item e c.tables ≡ Some piece
  pub place : ℕ
  pub bits : ℕ
  pub meter : Metering
  pub given : w.given ≡ remembered ((plan_of g c coded_rule.item).make piece.item (further (record c { place = place }) bits (context meter piece.tables)))

record IsFollowedBy (p : Plan) (d : Config) (o : Option (Piece p.Item)) (v : Written) : Type 0 where
  piece : Piece p.Item
  spelled_so : o ≡ Some piece
  bits : ℕ
  meter : Metering
  given : v.given ≡ remembered (p.make piece.item (further d bits (context meter piece.tables)))

abbrev given_written : Written → Result Written Refused
given_written v = Ok v

written_is : (v w : Written) → given_written v ≡ given_written w → v ≡ w
written_is v w e = cc

followed_made : (p : Plan) (d : Config) (o : Option (Piece p.Item)) (v : Written) → followed p d o ≡ Ok v → IsFollowedBy p d o v
unfolding followed_by
followed_made p d None v e = absurd cc
followed_made p d (Some piece) v e =
    let a = bind_parts (one_more p.counted d.meter) _ v e in
    let b = bind_parts (one_deeper p.entered a.0) _ v a.2 in
    let k = bind_parts (paid piece.units b.0) _ v b.2 in
    let text : List Bool = piece.bits ++ padding p.padded (d.place + length piece.bits) in
    record { piece = piece; spelled_so = refl; bits = length text; meter = k.0; given = ap (λ (z : Written). z.given) (sym (written_is (finished p.padded p.make d piece k.0 text) v k.2)) }

behind_made : (code : List Bool) (r : Result Written Refused) (w : Written) → behind_code code r ≡ Ok w → (v : Written) × (r ≡ Ok v) × (w.given ≡ v.given)
behind_made code (Ok v) w e = (v, refl, ap (λ (z : Written). z.given) (sym (written_is (behind code v) w e)))
behind_made code (Err why) w e = absurd cc

made_by : (g : Setting) (c : Config) (e : Happening) (w : Written) (o : Option (Coded Rule)) → has_ended c ≡ false → chosen g c e ≡ o → by_code g c e o ≡ Ok w → IsMade g c e w
made_by g c e w None going is h = absurd cc
made_by g c e w (Some x) going is h =
    let stands = fewest_stands (matches g c e) (coded (rules_of g c)) x is in
    let code = code_bits (align_of g.options) (codes (rules_of g c)) x.parts in
    let b = behind_made code (followed (plan_of g c x.item) (record c { place = c.place + length code }) (written_by g c x.item e c.tables)) w h in
    let f = followed_made (plan_of g c x.item) (record c { place = c.place + length code }) (written_by g c x.item e c.tables) b.0 b.1 in
    record { going = going; coded_rule = x; index = stands.place; there = stands.there; piece = f.piece; spelled_so = f.spelled_so; place = c.place + length code; bits = f.bits; meter = f.meter; given = b.2 ∙ f.given }

pub made : (g : Setting) (c : Config) (e : Happening) (w : Written) → written g c e ≡ Ok w → IsMade g c e w
unfolding written
made g c e w h = elim (cases_Bool (has_ended c)) [
  | inl k ↦ absurd (let f = rw k at h in cc)
  | inr k ↦ made_by g c e w (chosen g c e) k refl (rw k at h)
]

-- ---- SC gives SC
sc_on : (g : Setting) (a : Alone) (c d : Config) (r : Rule) (t : Terminal) (b : ℕ) (given : Given) (piece : Piece (plan_on g a c r t).Item) → written_on g a c r t (event.sc b) c.tables ≡ Some piece → given ≡ remembered ((plan_on g a c r t).make piece.item d) → (byte : ℕ) × (given.0 ≡ Some (event.sc byte))
sc_on g a c d r self_contained b given piece h e = (_, ap (λ (z : Given). z.0) e)
sc_on g a c d r start_document b given piece h e = absurd cc
sc_on g a c d r end_document b given piece h e = absurd cc
sc_on g a c d r (element t) b given piece h e = absurd cc
sc_on g a c d r (attribute t u) b given piece h e = absurd cc
sc_on g a c d r (characters k) b given piece h e = absurd cc
sc_on g a c d r end_element b given piece h e = absurd cc
sc_on g a c d r declaration b given piece h e = absurd cc
sc_on g a c d r comment b given piece h e = absurd cc
sc_on g a c d r instruction b given piece h e = absurd cc
sc_on g a c d r document_type b given piece h e = absurd cc
sc_on g a c d r entity b given piece h e = absurd cc

pub sc_given : (g : Setting) (c : Config) (b : ℕ) (w : Written) → written g c (event.sc b) ≡ Ok w → (byte : ℕ) × (w.given.0 ≡ Some (event.sc byte))
sc_given g c b w h =
    let m = made g c (event.sc b) w h in
    sc_on g (alone_in c.elements c.outer) c (further (record c { place = m.place }) m.bits (context m.meter m.piece.tables)) m.coded_rule.item m.coded_rule.item.on b w.given m.piece m.spelled_so m.given

-- ---- away from the start of a fragment
abbrev pub Away : List Element → Outer → Type 0
Away es o = alone_in es o ≢ at_start

nowhere_away : nowhere ≢ at_start
nowhere_away e = absurd cc

first_away : at_first ≢ at_start
first_away e = absurd cc

end_away : at_end ≢ at_start
end_away e = absurd cc

content_away : (to : ℕ) → Away [] (fragment_at to)
content_away zero = nowhere_away
content_away (suc to) = nowhere_away

moved_away : (to : ℕ) (es : List Element) (o : Outer) → Away (moved_elements to es) (outer_behind to es o)
moved_away to (e ∷ es) o = nowhere_away
moved_away to [] (outer.Book grammar number) = nowhere_away
moved_away to [] outer.FragmentStart = content_away to
moved_away to [] outer.FragmentContent = content_away to
moved_away to [] outer.AloneStart = first_away
moved_away to [] outer.AloneFirst = end_away
moved_away to [] outer.AloneOver = end_away
moved_away to [] outer.Ended = nowhere_away

open_away : (o : Outer) → IsWhereOpen o → Away [] o
open_away (outer.Book grammar number) h = nowhere_away
open_away outer.FragmentStart h = absurd h
open_away outer.FragmentContent h = nowhere_away
open_away outer.AloneStart h = absurd h
open_away outer.AloneFirst h = absurd h
open_away outer.AloneOver h = end_away
open_away outer.Ended h = absurd h

some_open : (e : Element) (es : List Element) → (e ∷ es) ≢ []
some_open e es k = absurd cc

closed_away : (es : List Element) (o : Outer) → Away es o → (es ≢ [] → IsWhereOpen o) → Away (enclosing es) o
closed_away [] o away where_open = away
closed_away (e ∷ []) o away where_open = open_away o (where_open (some_open e []))
closed_away (e ∷ f ∷ es) o away where_open = nowhere_away

ended_away : (es : List Element) → Away es outer.Ended
ended_away [] = nowhere_away
ended_away (e ∷ es) = nowhere_away

-- a body that was put aside has an element open
level_away : (es : List Element) (o : Outer) → (es ≢ [] → IsWhereOpen o) → has_level es o ≡ true → Away (enclosing es) o
level_away [] o where_open h = absurd cc
level_away (e ∷ []) o where_open h = open_away o (where_open (some_open e []))
level_away (e ∷ f ∷ es) o where_open h = nowhere_away

resumed_away : (g : Setting) (bs : List Body) (c : Config) → All (IsSoundAside g) bs → Away (resumed bs c).elements (resumed bs c).outer
resumed_away g [] c all = ended_away c.elements
resumed_away g (b ∷ bs) c all =
    let s : IsSoundAside g b = All-head (IsSoundAside g) b bs all in
    level_away b.elements b.outer s.body.outside s.level

out_away : (g : Setting) (a : Alone) (c : Config) → All (IsSoundAside g) c.aside → Away (ended_in a c).elements (ended_in a c).outer
out_away g nowhere c all = ended_away c.elements
out_away g at_start c all = resumed_away g c.aside c all
out_away g at_first c all = resumed_away g c.aside c all
out_away g at_end c all = resumed_away g c.aside c all

learned_away : (t : Telling) (use_of : Learned) (c : Config) → Away c.elements c.outer → Away (learns_name t use_of c).elements (learns_name t use_of c).outer
learned_away spelled use_of c s = s
learned_away (under uri) use_of c s = s
learned_away (known id) use_of c s = s

-- of an attribute, which changes the innermost element at most
restated_away : (s : State) (es : List Element) (o : Outer) → Away es o → Away (restated s es) o
restated_away s [] o away = away
restated_away s (e ∷ es) o away = nowhere_away

emptied_away : (es : List Element) (o : Outer) → Away es o → Away (emptied_elements es) o
emptied_away [] o away = away
emptied_away (e ∷ es) o away = nowhere_away

effected_away : (e : Effect) (to : ℕ) (c : Config) → Away c.elements c.outer → Away (effected e to c).elements (effected e to c).outer
effected_away leads to c s = moved_away to c.elements c.outer
effected_away (retyped grammar) to c s = restated_away (state.Informed grammar 0 false) c.elements c.outer s
effected_away emptied to c s = emptied_away c.elements c.outer s
effected_away stays to c s = s

record CanBeAway (g : Setting) (c : Config) : Type 0 where
  here : Away c.elements c.outer
  where_open : c.elements ≢ [] → IsWhereOpen c.outer
  aside : All (IsSoundAside g) c.aside

make_away : (g : Setting) (a : Alone) (c d : Config) (r : Rule) (t : Terminal) (x : (plan_on g a c r t).Item) → t ≢ self_contained → CanBeAway g d → Away ((plan_on g a c r t).make x d).1.elements ((plan_on g a c r t).make x d).1.outer
make_away g a c d r start_document x other s = moved_away r.to d.elements d.outer
make_away g a c d r end_document x other s = out_away g a d s.aside
make_away g a c d r (element t) x other s = nowhere_away
make_away g a c d r (attribute t v) x other s = effected_away (effect_of g v x.0.id x.1) r.to (learns_name t (used.At x.0.id) d) (learned_away t (used.At x.0.id) d s.here)
make_away g a c d r (characters k) x other s = moved_away r.to d.elements d.outer
make_away g a c d r end_element x other s = closed_away d.elements d.outer s.here s.where_open
make_away g a c d r declaration x other s = moved_away r.to d.elements d.outer
make_away g a c d r self_contained x other s = absurd (other refl)
make_away g a c d r comment x other s = moved_away r.to d.elements d.outer
make_away g a c d r instruction x other s = moved_away r.to d.elements d.outer
make_away g a c d r document_type x other s = moved_away r.to d.elements d.outer
make_away g a c d r entity x other s = moved_away r.to d.elements d.outer

-- ---- what is no SC is written by another production
plain_is : (e : Happening) → begins_fragment e ≡ false → is_sc e ≡ None
plain_is event.sd h = refl
plain_is event.ed h = refl
plain_is (event.se n) h = refl
plain_is event.ee h = refl
plain_is (event.at n v) h = refl
plain_is (event.ch v) h = refl
plain_is (event.ns uri prefix own) h = refl
plain_is (event.sc byte) h = absurd cc
plain_is (event.cm x) h = refl
plain_is (event.pi target x) h = refl
plain_is (event.dt n public system x) h = refl
plain_is (event.er n) h = refl

not_sc : (g : Setting) (a : Alone) (c : Config) (r : Rule) (t : Terminal) (e : Happening) (piece : Piece (plan_on g a c r t).Item) → written_on g a c r t e c.tables ≡ Some piece → is_sc e ≡ None → t ≢ self_contained
not_sc g a c r self_contained e piece h plain = absurd (let k = rw plain at h in cc)
not_sc g a c r start_document e piece h plain = λ k. absurd cc
not_sc g a c r end_document e piece h plain = λ k. absurd cc
not_sc g a c r (element t) e piece h plain = λ k. absurd cc
not_sc g a c r (attribute t u) e piece h plain = λ k. absurd cc
not_sc g a c r (characters k) e piece h plain = λ k. absurd cc
not_sc g a c r end_element e piece h plain = λ k. absurd cc
not_sc g a c r declaration e piece h plain = λ k. absurd cc
not_sc g a c r comment e piece h plain = λ k. absurd cc
not_sc g a c r instruction e piece h plain = λ k. absurd cc
not_sc g a c r document_type e piece h plain = λ k. absurd cc
not_sc g a c r entity e piece h plain = λ k. absurd cc

-- ---- at the start of a fragment
record AtStart (es : List Element) (o : Outer) : Type 0 where
  none : es ≡ []
  start : o ≡ outer.AloneStart

outer_start : (o : Outer) → outer_alone o ≡ at_start → o ≡ outer.AloneStart
outer_start (outer.Book grammar number) h = absurd cc
outer_start outer.FragmentStart h = absurd cc
outer_start outer.FragmentContent h = absurd cc
outer_start outer.AloneStart h = refl
outer_start outer.AloneFirst h = absurd cc
outer_start outer.AloneOver h = absurd cc
outer_start outer.Ended h = absurd cc

start_is : (es : List Element) (o : Outer) → alone_in es o ≡ at_start → AtStart es o
start_is [] o h = record { none = refl; start = outer_start o h }
start_is (e ∷ es) o h = absurd (nowhere_away h)

coded_is : (x y : Coded Rule) → Some x ≡ Some y → x ≡ y
coded_is x y e = cc

abbrev first_code : Coded Rule
first_code = record { parts = 0 ∷ []; item = record { on = start_document; to = 1; inner = None } }

start_at : (index : ℕ) (x : Coded Rule) → slice_get (first_code ∷ []) index ≡ Some x → x.item.on ≡ start_document
start_at zero x h = ap (λ (z : Coded Rule). z.item.on) (sym (coded_is first_code x h))
start_at (suc index) x h = absurd cc

start_rule : (g : Setting) (c : Config) (index : ℕ) (x : Coded Rule) → alone_in c.elements c.outer ≡ at_start → slice_get (coded (rules_of g c)) index ≡ Some x → x.item.on ≡ start_document
start_rule g c index x h e =
    let s = start_is c.elements c.outer h in
    let by_none : slice_get (coded (rules_in g c.learned [] c.outer)) index ≡ Some x = subst (λ (es : List Element). slice_get (coded (rules_in g c.learned es c.outer)) index ≡ Some x) s.none e in
    let by_start : slice_get (coded fragment_start) index ≡ Some x = subst (λ (o : Outer). slice_get (coded (outer_rules g c.learned o)) index ≡ Some x) s.start by_none in
    start_at index x by_start

-- what SD makes of it
sd_on : (g : Setting) (a : Alone) (c d : Config) (r : Rule) (t : Terminal) (x : (plan_on g a c r t).Item) (given : Given) → t ≡ start_document → given ≡ remembered ((plan_on g a c r t).make x d) → (given.1.elements ≡ moved_elements r.to d.elements) × (given.1.outer ≡ outer_behind r.to d.elements d.outer)
sd_on g a c d r start_document x given on e = (ap (λ (z : Given). z.1.elements) e, ap (λ (z : Given). z.1.outer) e)
sd_on g a c d r end_document x given on e = absurd cc
sd_on g a c d r (element t) x given on e = absurd cc
sd_on g a c d r (attribute t u) x given on e = absurd cc
sd_on g a c d r (characters k) x given on e = absurd cc
sd_on g a c d r end_element x given on e = absurd cc
sd_on g a c d r declaration x given on e = absurd cc
sd_on g a c d r self_contained x given on e = absurd cc
sd_on g a c d r comment x given on e = absurd cc
sd_on g a c d r instruction x given on e = absurd cc
sd_on g a c d r document_type x given on e = absurd cc
sd_on g a c d r entity x given on e = absurd cc

start_moved : (g : Setting) (c : Config) (e : Happening) (w : Written) → alone_in c.elements c.outer ≡ at_start → IsMade g c e w → (to : ℕ) × (w.given.1.elements ≡ moved_elements to c.elements) × (w.given.1.outer ≡ outer_behind to c.elements c.outer)
start_moved g c e w h m =
    let on = start_rule g c m.index m.coded_rule h m.there in
    let moved = sd_on g (alone_in c.elements c.outer) c (further (record c { place = m.place }) m.bits (context m.meter m.piece.tables)) m.coded_rule.item m.coded_rule.item.on m.piece.item w.given on m.given in
    (m.coded_rule.item.to, moved.0, moved.1)

away_same : (es fs : List Element) (o p : Outer) → fs ≡ es → p ≡ o → Away es o → Away fs p
away_same es fs o p a b h = rw (a, b) h

start_away : (g : Setting) (c : Config) (e : Happening) (w : Written) → alone_in c.elements c.outer ≡ at_start → IsMade g c e w → Away w.given.1.elements w.given.1.outer
start_away g c e w h m =
    let k = start_moved g c e w h m in
    away_same (moved_elements k.0 c.elements) w.given.1.elements (outer_behind k.0 c.elements c.outer) w.given.1.outer k.1 k.2 (moved_away k.0 c.elements c.outer)

moved_goes : (to : ℕ) (es : List Element) (o : Outer) → AtStart es o → is_end (outer_behind to es o) ≡ false
moved_goes to es o s = rw (s.none, s.start) refl

-- behind SD it goes on
pub start_goes : (g : Setting) (c : Config) (e : Happening) (w : Written) → alone_in c.elements c.outer ≡ at_start → written g c e ≡ Ok w → has_ended w.given.1 ≡ false
start_goes g c e w h k =
    let m = start_moved g c e w h (made g c e w k) in
    ap is_end m.2 ∙ moved_goes m.0 c.elements c.outer (start_is c.elements c.outer h)

start_or : (a : Alone) → (a ≡ at_start) ⊎ (a ≢ at_start)
start_or nowhere = inr nowhere_away
start_or at_start = inl refl
start_or at_first = inr first_away
start_or at_end = inr end_away

-- what is no SC leads to no start of a fragment
pub next_away : (g : Setting) (c : Config) (e : Happening) (w : Written) → IsSound g c → begins_fragment e ≡ false → written g c e ≡ Ok w → Away w.given.1.elements w.given.1.outer
next_away g c e w sound plain h =
    let m = made g c e w h in
    elim (start_or (alone_in c.elements c.outer)) [
      | inl k ↦ start_away g c e w k m
      | inr k ↦
          let d : Config = further (record c { place = m.place }) m.bits (context m.meter m.piece.tables) in
          let other = not_sc g (alone_in c.elements c.outer) c m.coded_rule.item m.coded_rule.item.on e m.piece m.spelled_so (plain_is e plain) in
          let away = make_away g (alone_in c.elements c.outer) c d m.coded_rule.item m.coded_rule.item.on m.piece.item other record { here = k; where_open = sound.body.outside; aside = sound.aside } in
          let made_so : Given = (plan_of g c m.coded_rule.item).make m.piece.item d in
          away_same made_so.1.elements w.given.1.elements made_so.1.outer w.given.1.outer (ap (λ (z : Given). z.1.elements) m.given) (ap (λ (z : Given). z.1.outer) m.given) away
    ]

-- where ED of a fragment is to come it goes on
pub end_goes : (es : List Element) (o : Outer) → alone_in es o ≡ at_end → is_end o ≡ false
end_goes (e ∷ es) o h = absurd cc
end_goes [] (outer.Book grammar number) h = refl
end_goes [] outer.FragmentStart h = refl
end_goes [] outer.FragmentContent h = refl
end_goes [] outer.AloneStart h = refl
end_goes [] outer.AloneFirst h = refl
end_goes [] outer.AloneOver h = refl
end_goes [] outer.Ended h = absurd cc

pub begin_goes : (es : List Element) (o : Outer) → alone_in es o ≡ at_start → is_end o ≡ false
begin_goes es o h = let s = start_is es o h in ap is_end s.start
