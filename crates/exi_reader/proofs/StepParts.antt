-- One event in its parts: its code, what is charged, and its content.
use Rattle.std.proofs.Common.{◌≡◌, ◌&&◌, ℕ, Bool, true, false, cond, eqb, List, [], ◌∷◌, Option, Some, None, Result, Ok, Err, refl, sym, ap, ◌∙◌}
use Rattle.std.proofs.lemmas.Bool.{eqb-true}
use Rattle.std.specs.Option.{is_none}
use Rattle.exi_bits.specs.declared.align.Align.{Align}
use Rattle.exi_bits.specs.Bits.{Spot}
use Rattle.exi_bits.specs.declared.fault.Fault.{Fault}
use Rattle.exi_bits.specs.declared.fault.Kind.{Kind}
use Rattle.exi_bits.specs.declared.fault.Kind.TheVariants as kind
use Rattle.exi_bits.specs.Unsigned.{◌>>=◌}
use Rattle.exi_builtin.specs.declared.learnable.Learned.TheVariants as used
use Rattle.exi_builtin.specs.Learning.{is_type}
use Rattle.exi_gram.specs.Codes.{code_at}
use Rattle.exi_gram.specs.Switches.{align_of, strict}
use Rattle.exi_meter.specs.Metering.{Metering, without_level}
use Rattle.exi_names.specs.Datatypes.{Representation}
use Rattle.exi_names.specs.Datatypes as datatype
use Rattle.exi_names.specs.declared.names.NameId.{NameId}
use Rattle.exi_names.specs.declared.names.QName.{QName}
use Rattle.exi_names.specs.Events as event
use Rattle.exi_names.specs.Seen.{Value}
use Rattle.exi_names.specs.Seen as value
use Rattle.exi_typed.specs.ReadStates.{ReadState, ContextReader, Failure, failing}
use Rattle.exi_typed.specs.Items.{item_at}
use Rattle.exi_typed.specs.Strings.{Named, value_at}
use Rattle.exi_values.specs.Valued.{valued_at}
use Rattle.exi_processing.specs.declared.frames.Outer.TheVariants as outer
use Rattle.exi_processing.specs.declared.rule.Valuing.{Valuing as Kinds}
use Rattle.exi_processing.specs.declared.rule.Valuing.TheVariants as valuing
use Rattle.exi_processing.specs.Configurations.{Body, Config, Setting, read_state_in, reached, rules_of, spot_in}
use Rattle.exi_processing.specs.Handing.{characters_made, charged_at, charges_on, leading_to, effected_elements, effected_outer, emptied_by, learned_by, making, opening_to, root_at, typing, value_made, valued_made, valuing_in}
use Rattle.exi_processing.specs.OneEvent.{at_event, behind, charge_at, followed, moved_limit, one, remembered, unless}
use Rattle.exi_processing.specs.Changes.{Effect, effect_of, effected, emptied, enclosing, inner_state, innermost, leads, learns_name, moved_elements, moves, opener, outer_behind, resumed, retyped, room_in, stays, with_inner}
use Rattle.exi_processing.specs.Contents.{acts_as_type, attribute_value_at, both_at, four_texts_at, is_missing, is_nil, named_type, represented_by, text_at, told_name_at, two_texts_at}
use Rattle.exi_gram.specs.Globals.{attribute_datatype, type_grammar}
use Rattle.exi_processing.specs.Plans.{Alone, Given, Plan, alone_in, at_end, at_first, at_start, attribute_plan, characters_plan, element_made, element_plan, end_plan, is_event, no_element, nowhere, plan_on, seen_in, start_plan, wrong_element}
use Rattle.exi_processing.specs.Rules.{Rule, Telling, Terminal, Valuing, attribute, by_name, characters, comment, declaration, document_type, element, end_document, end_element, entity, instruction, known, self_contained, spelled, start_document, typed, under, untyped}

-- what a plan asks and charges
pub charges_are : (g : Setting) (a : Alone) (c : Config) (r : Rule) (t : Terminal) (bit : ℕ) (m : Metering) → charge_at bit (plan_on g a c r t) m ≡ charged_at bit (charges_on a c.after_start t) m
unfolding charge_at charged_at
charges_are g a c r start_document bit m = refl
charges_are g a c r end_document bit m = refl
charges_are g a c r (element t) bit m = refl
charges_are g a c r (attribute t v) bit m = refl
charges_are g a c r (characters d) bit m = refl
charges_are g a c r end_element bit m = refl
charges_are g a c r declaration bit m = refl
charges_are g a c r self_contained bit m = refl
charges_are g a c r comment bit m = refl
charges_are g a c r instruction bit m = refl
charges_are g a c r document_type bit m = refl
charges_are g a c r entity bit m = refl

-- a plan is the same further on
plan_same : (g : Setting) (a : Alone) (c : Config) (place : ℕ) (m : Metering) (r : Rule) (t : Terminal) → plan_on g a (record c { place = place; meter = m }) r t ≡ plan_on g a c r t
plan_same g a c place m r start_document = refl
plan_same g a c place m r end_document = refl
plan_same g a c place m r (element t) = refl
plan_same g a c place m r (attribute t v) = refl
plan_same g a c place m r (characters d) = refl
plan_same g a c place m r end_element = refl
plan_same g a c place m r declaration = refl
plan_same g a c place m r self_contained = refl
plan_same g a c place m r comment = refl
plan_same g a c place m r instruction = refl
plan_same g a c place m r document_type = refl
plan_same g a c place m r entity = refl

-- a fault at the event's bit stays there
stays_there : (k : Kind) (bit : ℕ) → moved_limit bit (record { kind = k; bit = bit }) ≡ record { kind = k; bit = bit }
stays_there kind.TextLimit bit = refl
stays_there kind.NoExi bit = refl
stays_there kind.Version bit = refl
stays_there (kind.Unsupported part) bit = refl
stays_there kind.Conflict bit = refl
stays_there kind.WrongSchema bit = refl
stays_there kind.Short bit = refl
stays_there kind.TooWide bit = refl
stays_there kind.BadFloat bit = refl
stays_there kind.BadChar bit = refl
stays_there kind.BadMoment bit = refl
stays_there kind.BadPlace bit = refl
stays_there kind.ListTooLong bit = refl
stays_there kind.NoCode bit = refl
stays_there kind.BadType bit = refl
stays_there kind.ScPlace bit = refl
stays_there kind.ScRoot bit = refl
stays_there kind.ScNotOne bit = refl
stays_there kind.EventLimit bit = refl
stays_there kind.DepthLimit bit = refl
stays_there kind.TrailingBytes bit = refl

-- ---- the content
abbrev failed_by : Fault → Metering → Result Given Failure
failed_by f m = Err (record { fault = f; meter = m })

abbrev made_of : Given → Result Given Failure
made_of given = Ok given

module _ (bytes : List ℕ) (bit : ℕ) (p : Plan) (c : Config) where
  abbrev made : p.Item × ReadState → Result Given Failure
  made found = unless (p.refused found.0) bit found.1.context.meter >>= λ free. Ok (remembered (p.make found.0 (reached (behind p.padded found.1) c)))

  by_free : (x : Given) (m : Metering) (o : Option Kind) → (unless o bit m >>= λ free. Ok x) ≡ at_event bit (unless o bit m >>= λ free. Ok x)
  by_free x m None = refl
  by_free x m (Some k) = ap (λ (f : Fault). failed_by f m) (sym (stays_there k bit))

  by_read : (r : Result (p.Item × ReadState) Failure) → (at_event bit r >>= made) ≡ at_event bit (r >>= made)
  by_read (Err e) = refl
  by_read (Ok found) = by_free (remembered (p.make found.0 (reached (behind p.padded found.1) c))) found.1.context.meter (p.refused found.0)

  by_charge : (r : Result Metering Failure) → (r >>= λ m. at_event bit (p.read (read_state_in bytes m c)) >>= made) ≡ (r >>= λ m. at_event bit (making bytes bit p (record c { meter = m })))
  unfolding making
  by_charge (Err e) = refl
  by_charge (Ok m) = by_read (p.read (read_state_in bytes m c))

  followed_is : followed bytes bit p c ≡ (charge_at bit p c.meter >>= λ m. at_event bit (making bytes bit p (record c { meter = m })))
  unfolding followed
  followed_is = by_charge (charge_at bit p c.meter)

-- the content is read, and not refused
pub made_by : (bytes : List ℕ) (bit : ℕ) (p : Plan) (c : Config) (x : p.Item) (k : ReadState) → p.read (read_state_in bytes c.meter c) ≡ Ok (x, k) → p.refused x ≡ None → making bytes bit p c ≡ Ok (remembered (p.make x (reached (behind p.padded k) c)))
unfolding making
made_by bytes bit p c x k e f =
    ap (λ (r : Result (p.Item × ReadState) Failure). r >>= made bytes bit p c) e
    ∙ ap (λ (o : Option Kind). unless o bit k.context.meter >>= λ free. made_of (remembered (p.make x (reached (behind p.padded k) c)))) f

abbrev as_text : List ℕ × ReadState → Result (Value × ReadState) Failure
as_text t = Ok (value.text t.0, t.1)

-- a string value, by its text
string_valued : (a : Align) (name : NameId) (c : ReadState) → valued_at datatype.text a name c ≡ (value_at None a name c >>= λ t. as_text t)
unfolding valued_at item_at
string_valued a name c = refl

pub string_item : (a : Align) (name : NameId) (c k : ReadState) (text : List ℕ) → value_at None a name c ≡ Ok (text, k) → valued_at datatype.text a name c ≡ Ok (value.text text, k)
string_item a name c k text e = string_valued a name c ∙ ap (λ (r : Result (List ℕ × ReadState) Failure). r >>= λ t. as_text t) e

-- characters, by their value
pub characters_read : (g : Setting) (bytes : List ℕ) (bit : ℕ) (d : Representation) (to : ℕ) (c : Config) (v : Value) (k : ReadState) → valued_at d (align_of g.options) (innermost c.elements) (read_state_in bytes c.meter c) ≡ Ok (v, k) →
    making bytes bit (characters_plan g nowhere c.elements d (leading_to to)) c ≡ characters_made v to (reached k c)
characters_read g bytes bit d to c v k e = made_by bytes bit (characters_plan g nowhere c.elements d (leading_to to)) c v k e refl

-- ---- SD, ED and SE, which are events but in a fragment that stands for one element
pub start_made : (bytes : List ℕ) (bit : ℕ) (a : Alone) (to : ℕ) (c : Config) → no_element a ≡ None → (b : Bool) → is_event a ≡ b → making bytes bit (start_plan a (leading_to to)) c ≡ Ok (remembered (cond b (Some event.sd) None, moves to (reached (read_state_in bytes c.meter c) c)))
start_made bytes bit a to c f b h =
    made_by bytes bit (start_plan a (leading_to to)) c tt (read_state_in bytes c.meter c) refl f
    ∙ ap (λ (z : Bool). made_of (remembered (cond z (Some event.sd) None, moves to (reached (read_state_in bytes c.meter c) c)))) h

-- what is made of an element's name, field by field
abbrev pub with_element : Alone → Telling → ℕ → Option ℕ → Named → Config → Config
with_element a t to inner name c = record c {
  root = root_at a c.aside name.name c.root;
  learned = with_inner (learned_by t (room_in c.elements c.outer) (used.Se name.id) c.learned) name.id inner;
  elements = record { name = name.id; state = inner_state (learned_by t (room_in c.elements c.outer) (used.Se name.id) c.learned) name.id inner } ∷ moved_elements to c.elements;
  outer = outer_behind to c.elements c.outer;
}

made_element : (g : Setting) (a : Alone) (t : Telling) (to : ℕ) (inner : Option ℕ) (name : Named) (c : Config) → element_made g a t (opening_to to inner) name c ≡ (seen_in a (event.se name.name), with_element a t to (opener g name.name inner) name c)
made_element g nowhere spelled to inner name c = refl
made_element g nowhere (under uri) to inner name c = refl
made_element g nowhere (known id) to inner name c = refl
made_element g at_start spelled to inner name c = refl
made_element g at_start (under uri) to inner name c = refl
made_element g at_start (known id) to inner name c = refl
made_element g at_first spelled to inner name c = refl
made_element g at_first (under uri) to inner name c = refl
made_element g at_first (known id) to inner name c = refl
made_element g at_end spelled to inner name c = refl
made_element g at_end (under uri) to inner name c = refl
made_element g at_end (known id) to inner name c = refl

pub element_told : (g : Setting) (bytes : List ℕ) (bit : ℕ) (a : Alone) (t : Telling) (to : ℕ) (inner : Option ℕ) (c : Config) (name : Named) (k : ReadState) → told_name_at g t (read_state_in bytes c.meter c) ≡ Ok (name, k) → wrong_element a c.aside name.name ≡ None → (b : Bool) → is_event a ≡ b →
    making bytes bit (element_plan g a c.aside t (opening_to to inner)) c ≡ Ok (remembered (cond b (Some (event.se name.name)) None, with_element a t to (opener g name.name inner) name (reached k c)))
element_told g bytes bit a t to inner c name k e f b h =
    made_by bytes bit (element_plan g a c.aside t (opening_to to inner)) c name k e f
    ∙ (ap (λ (z : Given). made_of (remembered z)) (made_element g a t to inner name (reached k c))
    ∙ ap (λ (z : Bool). made_of (remembered (cond z (Some (event.se name.name)) None, with_element a t to (opener g name.name inner) name (reached k c)))) h)

pub end_event : (bytes : List ℕ) (bit : ℕ) (a : Alone) (c : Config) → is_event a ≡ true → making bytes bit (end_plan a) c ≡ Ok (remembered (Some event.ed, record c { outer = outer.Ended }))
end_event bytes bit nowhere c h = made_by bytes bit (end_plan nowhere) c tt (read_state_in bytes c.meter c) refl refl
end_event bytes bit at_start c h = absurd cc
end_event bytes bit at_first c h = absurd cc
end_event bytes bit at_end c h = absurd cc

-- at the next whole byte
abbrev pub padded : List ℕ → Config → Config
padded bytes c = reached (behind true (read_state_in bytes c.meter c)) c

end_quiet : (bytes : List ℕ) (bit : ℕ) (a : Alone) (c : Config) → is_event a ≡ false → no_element a ≡ None → making bytes bit (end_plan a) c ≡ Ok (remembered (None, resumed c.aside (padded bytes c)))
end_quiet bytes bit nowhere c h f = absurd cc
end_quiet bytes bit at_start c h f = made_by bytes bit (end_plan at_start) c tt (read_state_in bytes c.meter c) refl refl
end_quiet bytes bit at_first c h f = absurd cc
end_quiet bytes bit at_end c h f = made_by bytes bit (end_plan at_end) c tt (read_state_in bytes c.meter c) refl refl

abbrev with_aside : List Body → Config → Config
with_aside bs c = record c { aside = bs }

pub end_alone : (bytes : List ℕ) (bit : ℕ) (a : Alone) (c : Config) → is_event a ≡ false → no_element a ≡ None → c.aside ≡ [] → making bytes bit (end_plan a) c ≡ Ok (remembered (None, record (padded bytes c) { outer = outer.Ended; aside = [] }))
end_alone bytes bit a c h f e =
    end_quiet bytes bit a c h f
    ∙ ap (λ (bs : List Body). made_of (remembered (None, resumed bs (with_aside bs (padded bytes c))))) e

pub end_within : (bytes : List ℕ) (bit : ℕ) (a : Alone) (c : Config) (b : Body) (bs : List Body) → is_event a ≡ false → no_element a ≡ None → c.aside ≡ b ∷ bs →
    making bytes bit (end_plan a) c ≡ Ok (remembered (None, record (padded bytes c) { meter = without_level c.meter; tables = b.tables; elements = enclosing b.elements; outer = b.outer; learned = b.learned; aside = bs }))
end_within bytes bit a c b bs h f e =
    end_quiet bytes bit a c h f
    ∙ ap (λ (all : List Body). made_of (remembered (None, resumed all (padded bytes c)))) e

-- ---- one thing behind another
abbrev pair_of : {X : Type 0} → X → ReadState → Result (X × ReadState) Failure
pair_of x k = Ok (x, k)

pub both_ok : {X Y : Type 0} (one : ContextReader X) (two : X → ContextReader Y) (c d e : ReadState) (x : X) (y : Y) → one c ≡ Ok (x, d) → two x d ≡ Ok (y, e) → both_at one two c ≡ Ok ((x, y), e)
unfolding both_at
both_ok {X} {Y} one two c d e x y h k =
    ap (λ (r : Result (X × ReadState) Failure). r >>= λ z. two z.0 z.1 >>= λ w. pair_of {X = X × Y} (z.0, w.0) w.1) h
    ∙ ap (λ (r : Result (Y × ReadState) Failure). r >>= λ w. pair_of {X = X × Y} (x, w.0) w.1) k

pub two_texts : (g : Setting) (c d e : ReadState) (x y : List ℕ) → text_at g c ≡ Ok (x, d) → text_at g d ≡ Ok (y, e) → two_texts_at g c ≡ Ok ((x, y), e)
two_texts g c d e x y h k = both_ok (text_at g) (λ first. text_at g) c d e x y h k

pub four_texts : (g : Setting) (c d e i j : ReadState) (x y z w : List ℕ) → text_at g c ≡ Ok (x, d) → text_at g d ≡ Ok (y, e) → text_at g e ≡ Ok (z, i) → text_at g i ≡ Ok (w, j) → four_texts_at g c ≡ Ok (((x, y), (z, w)), j)
four_texts g c d e i j x y z w h k l m = both_ok (two_texts_at g) (λ first. two_texts_at g) c e j (x, y) (z, w) (two_texts g c d e x y h k) (two_texts g e i j z w l m)

-- ---- attributes
abbrev found_of : Value → ReadState → Result (Value × ReadState) Failure
found_of v k = Ok (v, k)

abbrev missing : ℕ → Value × ReadState → Result (Value × ReadState) Failure
missing bit found = Err (record { fault = record { kind = kind.BadType; bit = bit }; meter = found.1.context.meter })

-- its name is learned
abbrev pub with_attribute : Telling → Named → Config → Config
with_attribute t name c = record c { learned = learned_by t (room_in c.elements c.outer) (used.At name.id) c.learned }

learned_name : (t : Telling) (name : Named) (c : Config) → learns_name t (used.At name.id) c ≡ with_attribute t name c
learned_name spelled name c = refl
learned_name (under uri) name c = refl
learned_name (known id) name c = refl

abbrev quiet : Config → Config
quiet c = record c { after_start = false }

-- what is made of a value, once it is read
abbrev given_value : QName → Value → Config → Result Given Failure
given_value name found c = made_of (Some (event.at name found), quiet c)

module _ (g : Setting) (bit : ℕ) (a : Alone) (v : Valuing) (to : ℕ) where
  value_behind : (t : Telling) (c : Config) (name : Named) (r : Result (Value × ReadState) Failure) →
      ((r >>= λ y. pair_of {X = Named × Value} (name, y.0) y.1) >>= λ found. unless (no_element a) bit found.1.context.meter >>= λ free. made_of (remembered (Some (event.at found.0.0.name found.0.1), effected (effect_of g v found.0.0.id found.0.1) to (learns_name t (used.At found.0.0.id) (reached found.1 c)))))
      ≡ (r >>= λ found. unless (no_element a) bit found.1.context.meter >>= λ free. given_value name.name found.0 (effected (effect_of g v name.id found.0) to (with_attribute t name (reached found.1 c))))
  value_behind t c name (Err e) = refl
  value_behind t c name (Ok found) = ap (λ (n : Config). unless (no_element a) bit found.1.context.meter >>= λ free. given_value name.name found.0 (effected (effect_of g v name.id found.0) to n)) (learned_name t name (reached found.1 c))

-- behind the name
pub valued : (g : Setting) (bytes : List ℕ) (bit : ℕ) (a : Alone) (t : Telling) (v : Valuing) (to : ℕ) (c : Config) (name : Named) (d : ReadState) → told_name_at g t (read_state_in bytes c.meter c) ≡ Ok (name, d) →
    making bytes bit (attribute_plan g a t v (leading_to to)) c ≡ value_made g d.spot.bytes bit a v name to (with_attribute t name (reached d c))
unfolding making both_at value_made
valued g bytes bit a t v to c name d h =
    ap (λ (r : Result (Named × ReadState) Failure). (r >>= λ x. attribute_value_at g v x.0 x.1 >>= λ y. pair_of {X = Named × Value} (x.0, y.0) y.1) >>= λ found. unless (no_element a) bit found.1.context.meter >>= λ free. made_of (remembered (Some (event.at found.0.0.name found.0.1), effected (effect_of g v found.0.0.id found.0.1) to (learns_name t (used.At found.0.0.id) (reached found.1 c))))) h
    ∙ value_behind g bit a v to t c name (attribute_value_at g v name d)

-- ---- a value that names no type and empties no element
-- of this representation, without more
record IsPlain (g : Setting) (v : Valuing) (name : Named) (d : Representation) : Type 0 where
  represented : represented_by g v name ≡ d
  no_type : acts_as_type v name.id ≡ false
  effect : (found : Value) → effect_of g v name.id found ≡ leads

module _ (g : Setting) (bytes : List ℕ) (bit : ℕ) (a : Alone) (v : Valuing) (name : Named) (d : Representation) (to : ℕ) (c : Config) (plain : IsPlain g v name d) where
  untested : (b s : Bool) (place : ℕ) (found : Value × ReadState) → b ≡ false → cond (b && s) (missing place found) (Ok found) ≡ found_of found.0 found.1
  untested true s place found h = absurd cc
  untested false s place found h = refl

  plain_read : (k : ReadState) → attribute_value_at g v name k ≡ valued_at d (align_of g.options) name.id k
  unfolding attribute_value_at
  plain_read k =
      ap (λ (z : Representation). valued_at z (align_of g.options) name.id k >>= λ found. cond (is_missing g v name.id found.0) (missing k.spot.place found) (Ok found)) plain.represented
      ∙ given (valued_at d (align_of g.options) name.id k)
    where
      given : (r : Result (Value × ReadState) Failure) → (r >>= λ found. cond (is_missing g v name.id found.0) (missing k.spot.place found) (Ok found)) ≡ r
      given (Err e) = refl
      given (Ok found) = untested (acts_as_type v name.id) (strict g.options && is_none (named_type g found.0)) k.spot.place found plain.no_type

  plain_made : (r : Result (Value × ReadState) Failure) →
      (r >>= λ found. unless (no_element a) bit found.1.context.meter >>= λ free. given_value name.name found.0 (effected (effect_of g v name.id found.0) to (reached found.1 c)))
      ≡ (r >>= λ found. unless (no_element a) bit found.1.context.meter >>= λ free. given_value name.name found.0 (moves to (reached found.1 c)))
  plain_made (Err e) = refl
  plain_made (Ok found) = ap (λ (z : Effect). unless (no_element a) bit found.1.context.meter >>= λ free. given_value name.name found.0 (effected z to (reached found.1 c))) (plain.effect found.0)

  plain_is : value_made g bytes bit a v name to c ≡ valued_made g bytes bit a d name to c
  unfolding value_made valued_made
  plain_is =
      ap (λ (r : Result (Value × ReadState) Failure). r >>= λ found. unless (no_element a) bit found.1.context.meter >>= λ free. given_value name.name found.0 (effected (effect_of g v name.id found.0) to (reached found.1 c))) (plain_read (read_state_in bytes c.meter c))
      ∙ plain_made (valued_at d (align_of g.options) name.id (read_state_in bytes c.meter c))

-- a datatype of the production
pub typed_is : (g : Setting) (bytes : List ℕ) (bit : ℕ) (a : Alone) (d : Representation) (name : Named) (to : ℕ) (c : Config) → value_made g bytes bit a (typed d) name to c ≡ valued_made g bytes bit a d name to c
typed_is g bytes bit a d name to c = plain_is g bytes bit a (typed d) name d to c (record { represented = refl; no_type = refl; effect = λ found. refl })

-- a string in a built-in grammar
pub untyped_is : (g : Setting) (bytes : List ℕ) (bit : ℕ) (a : Alone) (name : Named) (to : ℕ) (c : Config) → is_type name.id ≡ false → value_made g bytes bit a untyped name to c ≡ valued_made g bytes bit a datatype.text name to c
untyped_is g bytes bit a name to c h = plain_is g bytes bit a untyped name datatype.text to c (record { represented = rw h refl; no_type = h; effect = λ found. rw h refl })

-- a value by its name, neither xsi:type nor xsi:nil
pub by_name_is : (g : Setting) (bytes : List ℕ) (bit : ℕ) (a : Alone) (name : Named) (to : ℕ) (c : Config) → is_type name.id ≡ false → is_nil name.id ≡ false → value_made g bytes bit a by_name name to c ≡ valued_made g bytes bit a (attribute_datatype g.schema.attributes name.name) name to c
by_name_is g bytes bit a name to c h k = plain_is g bytes bit a by_name name (attribute_datatype g.schema.attributes name.name) to c (record { represented = rw (h, k) refl; no_type = h; effect = λ found. rw (h, k) refl })

-- ---- what is made of a value that is read
pub made_valued : (g : Setting) (bytes : List ℕ) (bit : ℕ) (a : Alone) (d : Representation) (name : Named) (to : ℕ) (c : Config) (found : Value) (k : ReadState) → valued_at d (align_of g.options) name.id (read_state_in bytes c.meter c) ≡ Ok (found, k) → no_element a ≡ None → valued_made g bytes bit a d name to c ≡ Ok (Some (event.at name.name found), record (moves to (reached k c)) { after_start = false })
unfolding valued_made
made_valued g bytes bit a d name to c found k e f =
    ap (λ (r : Result (Value × ReadState) Failure). r >>= λ found. unless (no_element a) bit found.1.context.meter >>= λ free. given_value name.name found.0 (moves to (reached found.1 c))) e
    ∙ ap (λ (o : Option Kind). unless o bit k.context.meter >>= λ free. given_value name.name found (moves to (reached k c))) f

pub made_value : (g : Setting) (bytes : List ℕ) (bit : ℕ) (a : Alone) (v : Valuing) (name : Named) (to : ℕ) (c : Config) (found : Value) (k : ReadState) (e : Effect) → attribute_value_at g v name (read_state_in bytes c.meter c) ≡ Ok (found, k) → no_element a ≡ None → effect_of g v name.id found ≡ e → value_made g bytes bit a v name to c ≡ Ok (Some (event.at name.name found), record (effected e to (reached k c)) { after_start = false })
unfolding value_made
made_value g bytes bit a v name to c found k e h f i =
    ap (λ (r : Result (Value × ReadState) Failure). r >>= λ found. unless (no_element a) bit found.1.context.meter >>= λ free. given_value name.name found.0 (effected (effect_of g v name.id found.0) to (reached found.1 c))) h
    ∙ (ap (λ (o : Option Kind). unless o bit k.context.meter >>= λ free. given_value name.name found (effected (effect_of g v name.id found) to (reached k c))) f
    ∙ ap (λ (z : Effect). given_value name.name found (effected z to (reached k c))) i)

-- ---- what xsi:type does
effected_parts : (e : Effect) (to : ℕ) (c : Config) → effected e to c ≡ record c { elements = effected_elements e to c.elements; outer = effected_outer e to c.elements c.outer }
effected_parts leads to c = refl
effected_parts (retyped grammar) to c = refl
effected_parts emptied to c = refl
effected_parts stays to c = refl

typing_is : (g : Setting) (k : Kinds) (id : NameId) (name : QName) (o : Option ℕ) → acts_as_type (valuing_in k None) id ≡ true → type_grammar g.schema.types name ≡ o → effect_of g (valuing_in k None) id (value.name name) ≡ typing k o
typing_is g valuing.Untyped id name (Some grammar) h e = rw (h, e) refl
typing_is g valuing.Untyped id name None h e = rw (h, e) refl
typing_is g valuing.Typed id name o h e = absurd cc
typing_is g valuing.ByName id name (Some grammar) h e = rw (h, e) refl
typing_is g valuing.ByName id name None h e = rw (h, e) refl

pub made_typing : (g : Setting) (bytes : List ℕ) (bit : ℕ) (a : Alone) (kind : Kinds) (name : Named) (to : ℕ) (c : Config) (told : QName) (k : ReadState) (o : Option ℕ) → acts_as_type (valuing_in kind None) name.id ≡ true → attribute_value_at g (valuing_in kind None) name (read_state_in bytes c.meter c) ≡ Ok (value.name told, k) → no_element a ≡ None → o ≡ type_grammar g.schema.types told →
    value_made g bytes bit a (valuing_in kind None) name to c ≡ Ok (Some (event.at name.name (value.name told)), record (reached k c) { elements = effected_elements (typing kind o) to c.elements; outer = effected_outer (typing kind o) to c.elements c.outer; after_start = false })
made_typing g bytes bit a kind name to c told k o acts h f e =
    made_value g bytes bit a (valuing_in kind None) name to c (value.name told) k (typing kind o) h f (typing_is g kind name.id told o acts (sym e))
    ∙ ap (λ (n : Config). given_value name.name (value.name told) n) (effected_parts (typing kind o) to (reached k c))

-- ---- and xsi:nil
not_type : (b : Bool) (local : ℕ) → (b && eqb local 0) ≡ true → (b && eqb local 1) ≡ false
not_type true local h = rw (eqb-true local 0 h) refl
not_type false local h = refl

pub nil_no_type : (id : NameId) → is_nil id ≡ true → is_type id ≡ false
nil_no_type id h = not_type (eqb id.uri 2) id.local h

emptying_is : (g : Setting) (id : NameId) (v : Value) (to : ℕ) (c : Config) → is_type id ≡ false → is_nil id ≡ true → effected (effect_of g by_name id v) to c ≡ record c { elements = emptied_by v c.elements }
emptying_is g id (value.text t) to c h k = rw (h, k) refl
emptying_is g id (value.boolean true digit) to c h k = rw (h, k) refl
emptying_is g id (value.boolean false digit) to c h k = rw (h, k) refl
emptying_is g id (value.integer n) to c h k = rw (h, k) refl
emptying_is g id (value.decimal minus whole back) to c h k = rw (h, k) refl
emptying_is g id (value.float mantissa exponent) to c h k = rw (h, k) refl
emptying_is g id (value.moment m) to c h k = rw (h, k) refl
emptying_is g id (value.binary hex octets) to c h k = rw (h, k) refl
emptying_is g id (value.items vs) to c h k = rw (h, k) refl
emptying_is g id (value.name n) to c h k = rw (h, k) refl

-- its value is a boolean
nil_value : (g : Setting) (name : Named) (c : ReadState) → is_type name.id ≡ false → is_nil name.id ≡ true → attribute_value_at g by_name name c ≡ valued_at (datatype.boolean false) (align_of g.options) name.id c
unfolding attribute_value_at
nil_value g name c h k =
    ap (λ (z : Representation). valued_at z (align_of g.options) name.id c >>= λ found. cond (is_missing g by_name name.id found.0) (missing c.spot.place found) (Ok found)) (represented h k)
    ∙ given (valued_at (datatype.boolean false) (align_of g.options) name.id c)
  where
    represented : is_type name.id ≡ false → is_nil name.id ≡ true → represented_by g by_name name ≡ datatype.boolean false
    represented h k = rw (h, k) refl

    given : (r : Result (Value × ReadState) Failure) → (r >>= λ found. cond (is_missing g by_name name.id found.0) (missing c.spot.place found) (Ok found)) ≡ r
    given (Err e) = refl
    given (Ok found) = ap (λ (b : Bool). cond (b && (strict g.options && is_none (named_type g found.0))) (missing c.spot.place found) (found_of found.0 found.1)) h

pub made_emptying : (g : Setting) (bytes : List ℕ) (bit : ℕ) (a : Alone) (name : Named) (to : ℕ) (c : Config) (found : Value) (k : ReadState) → is_nil name.id ≡ true → valued_at (datatype.boolean false) (align_of g.options) name.id (read_state_in bytes c.meter c) ≡ Ok (found, k) → no_element a ≡ None →
    value_made g bytes bit a by_name name to c ≡ Ok (Some (event.at name.name found), record (reached k c) { elements = emptied_by found c.elements; after_start = false })
made_emptying g bytes bit a name to c found k nil h f =
    made_value g bytes bit a by_name name to c found k (effect_of g by_name name.id found) (nil_value g name (read_state_in bytes c.meter c) (nil_no_type name.id nil) nil ∙ h) f refl
    ∙ ap (λ (n : Config). given_value name.name found n) (emptying_is g name.id found to (reached k c) (nil_no_type name.id nil) nil)

abbrev failed_value : Failure → Result (Value × ReadState) Failure
failed_value e = Err e

pub nil_fails : (g : Setting) (bytes : List ℕ) (bit : ℕ) (a : Alone) (name : Named) (to : ℕ) (c : Config) (e : Failure) → is_nil name.id ≡ true → valued_at (datatype.boolean false) (align_of g.options) name.id (read_state_in bytes c.meter c) ≡ Err e → value_made g bytes bit a by_name name to c ≡ Err e
unfolding value_made
nil_fails g bytes bit a name to c e nil h = ap (λ (r : Result (Value × ReadState) Failure). r >>= λ found. unless (no_element a) bit found.1.context.meter >>= λ free. given_value name.name found.0 (effected (effect_of g by_name name.id found.0) to (reached found.1 c))) (nil_value g name (read_state_in bytes c.meter c) (nil_no_type name.id nil) nil ∙ h)

pub nil_refused : (g : Setting) (bytes : List ℕ) (bit : ℕ) (a : Alone) (name : Named) (to : ℕ) (c : Config) (found : Value) (k : ReadState) (w : Kind) → is_nil name.id ≡ true → valued_at (datatype.boolean false) (align_of g.options) name.id (read_state_in bytes c.meter c) ≡ Ok (found, k) → no_element a ≡ Some w → value_made g bytes bit a by_name name to c ≡ Err (record { fault = record { kind = w; bit = bit }; meter = k.context.meter })
unfolding value_made
nil_refused g bytes bit a name to c found k w nil h f =
    ap (λ (r : Result (Value × ReadState) Failure). r >>= λ found. unless (no_element a) bit found.1.context.meter >>= λ free. given_value name.name found.0 (effected (effect_of g by_name name.id found.0) to (reached found.1 c))) (nil_value g name (read_state_in bytes c.meter c) (nil_no_type name.id nil) nil ∙ h)
    ∙ ap (λ (o : Option Kind). unless o bit k.context.meter >>= λ free. given_value name.name found (effected (effect_of g by_name name.id found) to (reached k c))) f

-- ---- behind the code: the charges, and the content
module _ (g : Setting) (bytes : List ℕ) (a : Alone) (c : Config) (bit : ℕ) (r : Rule) where
  abbrev behind_charges : Result Metering Failure → Result Given Failure
  behind_charges q = q >>= λ m. at_event bit (making bytes bit (plan_on g a c r r.on) (record c { meter = m }))

  followed_by : followed bytes bit (plan_on g a c r r.on) c ≡ behind_charges (charged_at bit (charges_on a c.after_start r.on) c.meter)
  followed_by = followed_is bytes bit (plan_on g a c r r.on) c ∙ ap behind_charges (charges_are g a c r r.on bit c.meter)

  -- a charge is refused
  pub followed_unpaid : (e : Failure) → charged_at bit (charges_on a c.after_start r.on) c.meter ≡ Err e → followed bytes bit (plan_on g a c r r.on) c ≡ Err e
  followed_unpaid e k = followed_by ∙ ap behind_charges k

  -- all is charged
  pub followed_paid : (m : Metering) → charged_at bit (charges_on a c.after_start r.on) c.meter ≡ Ok m →
      followed bytes bit (plan_on g a c r r.on) c ≡ at_event bit (making bytes bit (plan_on g a (record c { meter = m }) r r.on) (record c { meter = m }))
  followed_paid m k =
      followed_by
      ∙ (ap behind_charges k
      ∙ ap (λ (p : Plan). at_event bit (making bytes bit p (record c { meter = m }))) (sym (plan_same g a c c.place m r r.on)))

-- ---- with the code
module _ (g : Setting) (bytes : List ℕ) (c : Config) where
  abbrev behind_code : Rule × Spot → Result Given Failure
  behind_code z = followed bytes c.place (plan_on g (alone_in c.elements c.outer) c z.0 z.0.on) (record c { place = z.1.place })

  -- no code
  pub one_without : (f : Fault) → code_at (align_of g.options) (rules_of g c) (spot_in bytes c) ≡ Err f → one g bytes c ≡ Err (record { fault = f; meter = c.meter })
  unfolding one
  one_without f h = ap (λ (q : Result (Rule × Spot) Fault). failing c.meter q >>= behind_code) h

  one_behind : (r : Rule) (t : Spot) → code_at (align_of g.options) (rules_of g c) (spot_in bytes c) ≡ Ok (r, t) → one g bytes c ≡ behind_code (r, t)
  unfolding one
  one_behind r t h = ap (λ (q : Result (Rule × Spot) Fault). failing c.meter q >>= behind_code) h

  -- a code, and what stands behind it
  pub one_followed : (r : Rule) (t : Spot) (bit : ℕ) (a : Alone) → code_at (align_of g.options) (rules_of g c) (spot_in bytes c) ≡ Ok (r, t) → bit ≡ c.place → a ≡ alone_in c.elements c.outer →
      one g bytes c ≡ followed bytes bit (plan_on g a (record c { place = t.place }) r r.on) (record c { place = t.place })
  one_followed r t bit a h at alone =
      one_behind r t h
      ∙ (ap (λ (n : ℕ). followed bytes n (plan_on g (alone_in c.elements c.outer) c r r.on) (record c { place = t.place })) (sym at)
      ∙ (ap (λ (z : Alone). followed bytes bit (plan_on g z c r r.on) (record c { place = t.place })) (sym alone)
      ∙ ap (λ (p : Plan). followed bytes bit p (record c { place = t.place })) (sym (plan_same g a c t.place c.meter r r.on))))
