-- The first two turns of a fragment: its SD takes no bits, and its element is the root.
use Rattle.std.proofs.Common.{◌≡◌, ℕ, ◌+◌, false, List, [], ◌∷◌, length, Some, None, refl, sym, ap, ◌∙◌, subst}
use Rattle.exi_bits.specs.declared.fault.Kind.TheVariants as kind
use Rattle.exi_bits.specs.Bits.{IsAligned, IsBytes, Spot}
use Rattle.exi_gram.specs.Codes.{code_at}
use Rattle.exi_gram.specs.Switches.{align_of, prefixes}
use Rattle.exi_gram.proofs.CodeLaws.{spelled_item}
use Rattle.exi_meter.specs.Metering.{Metering, with_text}
use Rattle.exi_names.specs.StartTables.{IsStart}
use Rattle.exi_names.specs.declared.names.QName.{QName}
use Rattle.exi_typed.specs.ReadStates.{ReadState}
use Rattle.exi_typed.proofs.ContextItems.{fine, told, told_is, was_taken}
use Rattle.exi_processing.specs.Changes.{moved_elements, outer_behind, root_in}
use Rattle.exi_processing.specs.Configurations.{Body, Config, IsSetting, Setting, read_state_in, rules_of, spot_in}
use Rattle.exi_processing.specs.Contents.{SpellsTold, told_name_at}
use Rattle.exi_processing.specs.OneEvent.{one}
use Rattle.exi_processing.specs.Plans.{Alone, Given, alone_in, at_first, at_start, plan_on}
use Rattle.exi_processing.specs.Rules.{Rule, Telling, Terminal, attribute, characters, comment, declaration, document_type, element, end_document, end_element, entity, instruction, known, self_contained, spelled, start_document, under}
use Rattle.exi_processing.specs.Sound.{FitsContent, FitsIn, FitsStart, IsSound}
use Rattle.exi_processing.specs.declared.frames.Element.{Element}
use Rattle.exi_processing.specs.declared.frames.Outer.{Outer}
use Rattle.exi_processing.specs.declared.frames.Outer.TheVariants as outer
use Rattle.exi_processing.proofs.ClosedUp.{closed_up}
use Rattle.exi_processing.proofs.EventOne.{Parted, at_place, stepped}
use Rattle.exi_processing.proofs.Fitting.{codes_fit}
use Rattle.exi_processing.proofs.Readings.{name_reads}
use Rattle.exi_processing.proofs.RootTexts.{told_text}

-- ---- a fragment that begins
pub record Begins (f : Config) : Type 0 where
  pub elements : f.elements ≡ []
  pub outer_is : f.outer ≡ outer.AloneStart
  pub aside : f.aside ≡ []
  pub root : f.root ≡ None

-- behind SD
pub record Started (f : Config) (given : Given) (place : ℕ) : Type 0 where
  pub none : given.0 ≡ None
  pub elements : given.1.elements ≡ []
  pub outer_is : given.1.outer ≡ outer.AloneFirst
  pub aside : given.1.aside ≡ []
  pub root : given.1.root ≡ None
  pub place_is : given.1.place ≡ place
  pub meter : given.1.meter ≡ f.meter

-- behind the element
pub record Rooted (f : Config) (given : Given) : Type 0 where
  pub none : given.0 ≡ None
  pub name : QName
  pub root : given.1.root ≡ Some name
  pub outer_is : given.1.outer ≡ outer.AloneOver
  pub aside : given.1.aside ≡ []
  pub meter : given.1.meter ≡ with_text f.meter (length name.uri + length name.local)

none_some : {X : Type 0} (x : X) → Some x ≡ None → ⊥
none_some x e = absurd cc

module _ (g : Setting) (bytes : List ℕ) where
  -- nothing is read
  same_state : (k d : ReadState) (x : Unit {0}) → told {X = Unit {0} × ReadState} (tt, k) ≡ told (x, d) → k ≡ d
  same_state k d x e = ap (λ (z : Unit {0} × ReadState). z.1) (told_is (tt, k) (x, d) e)

  moved_none : (to : ℕ) (es : List Element) → es ≡ [] → moved_elements to es ≡ []
  moved_none to [] e = refl
  moved_none to (x ∷ xs) e = absurd cc

  start_parted : (f : Config) (r : Rule) (t : Terminal) (place : ℕ) (given : Given) → Begins f → FitsStart t r.to → Parted bytes (plan_on g at_start f r t) (at_place f place) given → Started f given place
  start_parted f r start_document place given b fit t =
      let read_state_is : read_state_in bytes t.meter (at_place f place) ≡ t.read_state = same_state (read_state_in bytes t.meter (at_place f place)) t.read_state t.item t.read in
      record {
        none = ap (λ (z : Given). z.0) t.is;
        elements = ap (λ (z : Given). z.1.elements) t.is ∙ moved_none r.to f.elements b.elements;
        outer_is = ap (λ (z : Given). z.1.outer) t.is ∙ ap (λ (z : List Element). outer_behind r.to z f.outer) b.elements ∙ ap (λ (z : Outer). outer_behind r.to [] z) b.outer_is;
        aside = ap (λ (z : Given). z.1.aside) t.is ∙ b.aside;
        root = ap (λ (z : Given). z.1.root) t.is ∙ b.root;
        place_is = ap (λ (z : Given). z.1.place) t.is ∙ ap (λ (z : ReadState). z.spot.place) (sym read_state_is);
        meter = ap (λ (z : Given). z.1.meter) t.is ∙ ap (λ (z : ReadState). z.context.meter) (sym read_state_is) ∙ t.charged.after;
      }
  start_parted f r end_document place given b fit t = absurd fit
  start_parted f r (element y) place given b fit t = absurd fit
  start_parted f r (attribute y v) place given b fit t = absurd fit
  start_parted f r (characters d) place given b fit t = absurd fit
  start_parted f r end_element place given b fit t = absurd fit
  start_parted f r declaration place given b fit t = absurd fit
  start_parted f r self_contained place given b fit t = absurd fit
  start_parted f r comment place given b fit t = absurd fit
  start_parted f r instruction place given b fit t = absurd fit
  start_parted f r document_type place given b fit t = absurd fit
  start_parted f r entity place given b fit t = absurd fit

  alone_at : (f : Config) (o : Outer) → f.elements ≡ [] → f.outer ≡ o → alone_in f.elements f.outer ≡ alone_in [] o
  alone_at f o e h = ap (λ (z : List Element). alone_in z f.outer) e ∙ ap (λ (z : Outer). alone_in [] z) h

  fits_at : (f : Config) (o : Outer) (t : Terminal) (to : ℕ) → f.elements ≡ [] → f.outer ≡ o → FitsIn g f.tables f.outer f.elements t to → FitsIn g f.tables o [] t to
  fits_at f o t to e h fit = subst (λ (z : Outer). FitsIn g f.tables z [] t to) h (subst (λ (z : List Element). FitsIn g f.tables f.outer z t to) e fit)

  pub started : (f : Config) (given : Given) → IsSetting g → IsStart g.schema.names → IsSound g f → Begins f → one g bytes f ≡ told given → (place : ℕ) × (rule : Rule) × (spot : Spot) × (code_at (align_of g.options) (rules_of g f) (spot_in bytes f) ≡ fine (rule, spot)) × (place ≡ spot.place) × Started f given place
  started f given book names sound b h =
      let u = stepped g bytes f given h in
      let fit : FitsStart u.rule.on u.rule.to = fits_at f outer.AloneStart u.rule.on u.rule.to b.elements b.outer_is (codes_fit g bytes f u.rule u.spot book names sound u.code).0 in
      let parted : Parted bytes (plan_on g at_start f u.rule u.rule.on) (at_place f u.spot.place) given = subst (λ (z : Alone). Parted bytes (plan_on g z f u.rule u.rule.on) (at_place f u.spot.place) given) (alone_at f outer.AloneStart b.elements b.outer_is) u.rest_is in
      (u.spot.place, u.rule, u.spot, u.code, refl, start_parted f u.rule u.rule.on u.spot.place given b fit parted)

  -- ---- the element
  pub record IsFirst (f : Config) : Type 0 where
    pub elements : f.elements ≡ []
    pub outer_is : f.outer ≡ outer.AloneFirst
    pub aside : f.aside ≡ []

  element_rooted : (f : Config) (r : Rule) (tl : Telling) (place : ℕ) (given : Given) → IsBytes bytes → prefixes g.options ≡ false → IsAligned (align_of g.options) (spot_in bytes (at_place f place)) → IsFirst f → (t : Parted bytes (plan_on g at_first f r (element tl)) (at_place f place) given) → given.0 ≡ None → given.1.root ≡ root_in f.aside t.item.name f.root → given.1.outer ≡ outer_behind r.to f.elements f.outer → given.1.aside ≡ f.aside → given.1.meter ≡ t.read_state.context.meter → Rooted f given
  element_rooted f r tl place given octets plain al b t none root out aside meter =
      let k = (name_reads g tl).item.takes t.item (read_state_in bytes t.meter (at_place f place)) t.read_state octets al t.read in
      let text : t.read_state.context.meter ≡ with_text t.meter (length t.item.name.uri + length t.item.name.local) = told_text g tl t.item f.tables t.read_state.context.tables k.charges k.text t.meter t.read_state.context.meter plain k.spelled
      (was_taken (align_of g.options) (SpellsTold g tl) (told_name_at g tl) (name_reads g tl).item t.item (read_state_in bytes t.meter (at_place f place)) t.read_state octets al t.read k) in
      record {
        none = none;
        name = t.item.name;
        root = root ∙ ap (λ (z : List Body). root_in z t.item.name f.root) b.aside;
        outer_is = out ∙ ap (λ (z : List Element). outer_behind r.to z f.outer) b.elements ∙ ap (λ (z : Outer). outer_behind r.to [] z) b.outer_is;
        aside = aside ∙ b.aside;
        meter = meter ∙ text ∙ ap (λ (z : Metering). with_text z (length t.item.name.uri + length t.item.name.local)) t.charged.after;
      }

  first_parted : (f : Config) (r : Rule) (t : Terminal) (place : ℕ) (given : Given) → IsBytes bytes → prefixes g.options ≡ false → IsAligned (align_of g.options) (spot_in bytes (at_place f place)) → IsFirst f → FitsContent f.tables t r.to → Parted bytes (plan_on g at_first f r t) (at_place f place) given → Rooted f given
  first_parted f r (element spelled) place given octets plain al b fit t = element_rooted f r spelled place given octets plain al b t (ap (λ (z : Given). z.0) t.is) (ap (λ (z : Given). z.1.root) t.is) (ap (λ (z : Given). z.1.outer) t.is) (ap (λ (z : Given). z.1.aside) t.is) (ap (λ (z : Given). z.1.meter) t.is)
  first_parted f r (element (known id)) place given octets plain al b fit t = element_rooted f r (known id) place given octets plain al b t (ap (λ (z : Given). z.0) t.is) (ap (λ (z : Given). z.1.root) t.is) (ap (λ (z : Given). z.1.outer) t.is) (ap (λ (z : Given). z.1.aside) t.is) (ap (λ (z : Given). z.1.meter) t.is)
  first_parted f r (element (under uri)) place given octets plain al b fit t = element_rooted f r (under uri) place given octets plain al b t (ap (λ (z : Given). z.0) t.is) (ap (λ (z : Given). z.1.root) t.is) (ap (λ (z : Given). z.1.outer) t.is) (ap (λ (z : Given). z.1.aside) t.is) (ap (λ (z : Given). z.1.meter) t.is)
  first_parted f r end_document place given octets plain al b fit t = absurd (none_some kind.ScRoot t.free)
  first_parted f r comment place given octets plain al b fit t = absurd (none_some kind.ScRoot t.free)
  first_parted f r instruction place given octets plain al b fit t = absurd (none_some kind.ScRoot t.free)
  first_parted f r start_document place given octets plain al b fit t = absurd fit
  first_parted f r (attribute y v) place given octets plain al b fit t = absurd fit
  first_parted f r (characters d) place given octets plain al b fit t = absurd fit
  first_parted f r end_element place given octets plain al b fit t = absurd fit
  first_parted f r declaration place given octets plain al b fit t = absurd fit
  first_parted f r self_contained place given octets plain al b fit t = absurd fit
  first_parted f r document_type place given octets plain al b fit t = absurd fit
  first_parted f r entity place given octets plain al b fit t = absurd fit

  pub rooted : (f : Config) (given : Given) → IsBytes bytes → prefixes g.options ≡ false → IsAligned (align_of g.options) (spot_in bytes f) → IsSetting g → IsStart g.schema.names → IsSound g f → IsFirst f → one g bytes f ≡ told given → Rooted f given
  rooted f given octets plain al book names sound b h =
      let u = stepped g bytes f given h in
      let fit : FitsContent f.tables u.rule.on u.rule.to = fits_at f outer.AloneFirst u.rule.on u.rule.to b.elements b.outer_is (codes_fit g bytes f u.rule u.spot book names sound u.code).0 in
      let parted : Parted bytes (plan_on g at_first f u.rule u.rule.on) (at_place f u.spot.place) given = subst (λ (z : Alone). Parted bytes (plan_on g z f u.rule u.rule.on) (at_place f u.spot.place) given) (alone_at f outer.AloneFirst b.elements b.outer_is) u.rest_is in
      let k = (spelled_item (rules_of g f) (closed_up g f book) (align_of g.options)).takes u.rule (spot_in bytes f) u.spot octets al u.code in
      let behind_code : IsAligned (align_of g.options) (spot_in bytes (at_place f u.spot.place)) = k.aligned in
      first_parted f u.rule u.rule.on u.spot.place given octets plain behind_code b fit parted
