-- What comes of an attribute's value, and the page behind it.
use Rattle.std.proofs.Common.{◌≡◌, ℕ, false, Option, Some, refl, sym, ap, ◌∙◌, subst, inl, inr}
use Rattle.std.proofs.lemmas.Bool.{cases_Bool}
use Rattle.exi_builtin.specs.Learning.{Learning, is_type}
use Rattle.exi_builtin.specs.declared.learnable.Learned.TheVariants as used
use Rattle.exi_gram.specs.Outlines.{Outline}
use Rattle.exi_meter.specs.Metering.{Metering}
use Rattle.exi_names.specs.declared.names.NameId.{NameId}
use Rattle.exi_names.specs.declared.names.QName.{QName}
use Rattle.exi_names.specs.Seen.{Value}
use Rattle.exi_processing.specs.Changes.{Effect, effect_of, room_in}
use Rattle.exi_processing.specs.Configurations.{Setting}
use Rattle.exi_processing.specs.Contents.{is_nil}
use Rattle.exi_processing.specs.Handing.{learned_by}
use Rattle.exi_processing.specs.Rules.{Telling, Valuing, by_name, typed, untyped}
use Rattle.exi_choice.specs.Fitting.{Declared, declared_in, is_nil_at, is_type_at}
use Rattle.exi_pen.specs.Pages.{Page, at_config, attribute_page, effected_page}
use Rattle.exi_pen.specs.Told.{IsDeclaredAt, effect_as}

-- as its value is represented
pub effect_declared : (g : Setting) (v : Valuing) (id : NameId) (d : Declared) (x : Value) → IsDeclaredAt g.schema v id d → effect_as g d v x ≡ effect_of g v id x
effect_declared g untyped id d x e = elim (cases_Bool (is_type id)) [
  | inl h ↦ rw (e.1, h) refl
  | inr h ↦ rw (e.1, h) refl
]
effect_declared g (typed r) id d x e = rw (e.1) refl
effect_declared g by_name id d x e = elim (cases_Bool (is_type id)) [
  | inl h ↦ rw (e.1, h) refl
  | inr h ↦ elim (cases_Bool (is_nil id)) [
    | inl k ↦ rw (e.1, h, k) refl
    | inr k ↦ rw (e.1, h, k) refl
  ]
]

-- the representation is that by other places of the name, where neither are those of xsi:type or xsi:nil
pub declared_same : (s : Outline) (v : Valuing) (o : Option NameId) (id : NameId) (n : QName) → is_type_at o ≡ is_type id → is_nil_at o ≡ is_nil id → declared_in s v o n ≡ declared_in s v (Some id) n
declared_same s untyped o id n t k = rw t refl
declared_same s (typed r) o id n t k = refl
declared_same s by_name o id n t k = rw (t, k) refl

-- ---- the page behind
pub attribute_put : {was old : Page} → was ≡ old → (s t : Telling) (v : Valuing) (to : ℕ) (id : NameId) (d : Declared) (x : Value) (m : Metering) (l : Learning) (new : Page) → s ≡ t → IsDeclaredAt old.setting.schema v id d
    → l ≡ learned_by s (room_in was.config.elements was.config.outer) (used.At id) was.config.learned
    → new ≡ effected_page (effect_as was.setting d v x) to (at_config was (record was.config { meter = m; after_start = false; learned = l }))
    → new ≡ attribute_page t v to id x old m
attribute_put {was} {old} i s t v to id d x m l new told declared learned behind =
    let same : effect_as was.setting d v x ≡ effect_of was.setting v id x = effect_declared was.setting v id d x (subst (λ (p : Page). IsDeclaredAt p.setting.schema v id d) (sym i) declared) in
    let taught : l ≡ learned_by t (room_in was.config.elements was.config.outer) (used.At id) was.config.learned = learned ∙ ap (λ (z : Telling). learned_by z (room_in was.config.elements was.config.outer) (used.At id) was.config.learned) told in
    let led : new ≡ effected_page (effect_of was.setting v id x) to (at_config was (record was.config { meter = m; after_start = false; learned = l })) = behind ∙ ap (λ (e : Effect). effected_page e to (at_config was (record was.config { meter = m; after_start = false; learned = l }))) same in
    let here : new ≡ attribute_page t v to id x was m = led ∙ ap (λ (z : Learning). effected_page (effect_of was.setting v id x) to (at_config was (record was.config { meter = m; after_start = false; learned = z }))) taught in
    here ∙ ap (λ (p : Page). attribute_page t v to id x p m) i
