-- An event is begun: its production was found, may stand where the writer is, and its code is written.
use Rattle.std.proofs.Common.{◌≡◌, ◌+◌, ℕ, Bool, true, false, ◌&&◌, cond, eqb, List, [], ◌∷◌, ◌++◌, length, Option, Some, None, refl, sym, ap, ◌∙◌, subst}
use Rattle.std.specs.Prelude.{Err}
use Rattle.std.proofs.lemmas.Bool.{and_parts}
use Rattle.std.specs.Option.{is_none, is_some, option_copied}
use Rattle.std.proofs.lemmas.List.{length-append}
use Rattle.exi_bits.specs.declared.fault.Kind.{Kind}
use Rattle.exi_gram.specs.Codes.{Coded, code_bits, coded}
use Rattle.exi_gram.specs.Laws.{codes}
use Rattle.exi_gram.specs.Switches.{align_of, fragment}
use Rattle.exi_gram.specs.declared.options.Options.{Options}
use Rattle.exi_meter.specs.Metering.{Bounds}
use Rattle.exi_names.specs.Events.{Happening}
use Rattle.exi_names.specs.declared.datatype.Datatype.{Datatype}
use Rattle.exi_processing.specs.Configurations.{Config, Setting, first_config, first_outer, first_place, rules_of}
use Rattle.exi_processing.specs.Handing.{charges_on, first_outer_of, rule_in, terminal_in}
use Rattle.exi_processing.specs.Plans.{Alone, Plan, alone_in, no_element, plan_of, plan_on}
use Rattle.exi_processing.specs.Rules.{Rule, Telling, Terminal, attribute, characters, comment, declaration, document_type, element, end_document, end_element, entity, instruction, self_contained, start_document}
use Rattle.exi_processing.specs.Sound.{FitsIn}
use Rattle.exi_processing.specs.declared.charges.Charges.{Charges}
use Rattle.exi_processing.specs.declared.frames.Outer.{Outer}
use Rattle.exi_processing.specs.declared.start.Start.{Start}
use Rattle.exi_processing.specs.declared.start.Start.TheVariants as start
use Rattle.exi_processing.specs.declared.rule.Content.{Content}
use Rattle.exi_processing.specs.declared.rule.Content.TheVariants as content
use Rattle.exi_processing.specs.declared.rule.Rule.{Rule as Kept}
use Rattle.exi_processing.proofs.Fitting.{Fits}
use Rattle.exi_writing.specs.OneEvent.{by_code, is_taken, matches, not_derived, written_by}
use Rattle.exi_toll.specs.Charges.{Charged, charge_event, charge_level}
use Rattle.exi_writing.specs.OneEvent.{chosen, fewest, first_of, or_else}
use Rattle.exi_writing.specs.Pieces.{Piece}
use Rattle.exi_writing.proofs.OneEvent.{Stands, fewest_stands}
use Rattle.exi_choice.specs.Choices.{Finds, IsFound, way_parts}
use Rattle.exi_choice.specs.Fitting.{fit_in}
use Rattle.exi_choice.specs.Wanted.{ChosenSuits, Seeking, first_suiting, is_of, picked, seeking, suits}
use Rattle.exi_choice.specs.declared.found.Found.{Found}
use Rattle.exi_choice.proofs.Picking.{every_at, rules_fit}
use Rattle.exi_pen.specs.Pages.{IsBegun, IsFitted, IsReady, IsWanted, MayStand, Page, StartsAt, by_chosen, first_page, no_element_for, tried, with_bits}
use Rattle.exi_pen.specs.declared.pen.Begun.{Begun}

-- ---- the state at which writing begins
outer_same : (g : Setting) (s : Start) → first_outer_of g.schema.known (fragment g.options) s ≡ first_outer g s
outer_same g start.Body = refl
outer_same g (start.Fragment byte) = refl

pub outer_is : (g : Setting) (s : Start) (o : Options) (known : Bool) (found : Outer) → known ≡ g.schema.known → o ≡ g.options → found ≡ first_outer_of known (fragment o) s → found ≡ first_outer g s
outer_is g s o known found e f h = h ∙ (ap (λ (b : Bool). first_outer_of b (fragment o) s) e ∙ (ap (λ (z : Options). first_outer_of g.schema.known (fragment z) s) f ∙ outer_same g s))

starts_at : (s : Start) (n : ℕ) → StartsAt s n → first_place n s ≡ n
starts_at start.Body n h = refl
starts_at (start.Fragment byte) n h = h

pub first_is : (g : Setting) (s : Start) (limits : Bounds) (head : List Bool) → StartsAt s (length head) → record { setting = g; bits = head; config = record (first_config g (length head) s limits) { place = length head } } ≡ first_page g s limits head
first_is g s limits head h = ap (λ (n : ℕ). record { setting = g; bits = head; config = record (first_config g (length head) s limits) { place = n } }) (sym (starts_at s (length head) h))

-- ---- the production
-- what is known of the production that was found
pub record IsTaken (wanted : Seeking) (p : Page) (rule : Rule) (x : Coded Rule) : Type 0 where
  pub same : rule ≡ x.item
  pub first : first_suiting p.setting wanted (rules_of p.setting p.config) ≡ Some x
  pub on : suits p.setting wanted rule ≡ true
  pub fits : FitsIn p.setting p.config.tables p.config.outer p.config.elements rule.on rule.to

pub taken : (wanted : Seeking) (p : Page) (found : Found) → IsReady p → (k : IsFound p.setting p.config.learned wanted (rules_of p.setting p.config) found) → IsTaken wanted p (rule_in found.choice.rule) k.coded
taken wanted p found ready k =
    let g = p.setting in
    let c = p.config in
    let x = k.coded in
    let s : Stands (suits g wanted) (coded (rules_of g c)) x = fewest_stands (suits g wanted) (coded (rules_of g c)) x k.first in
    let same : rule_in found.choice.rule ≡ x.item = k.rule in
    let fits : Fits g c.tables c.outer c.elements x.item = every_at (Fits g c.tables c.outer c.elements) (coded (rules_of g c)) s.place x (rules_fit g c ready.is_setting ready.names ready.sound) s.there in
    record {
      same = same;
      first = k.first;
      on = subst (λ (r : Rule). suits g wanted r ≡ true) (sym same) s.passes;
      fits = subst (λ (r : Rule). FitsIn g c.tables c.outer c.elements r.on r.to) (sym same) fits.0;
    }

pub on_kind : (g : Setting) (wanted : Seeking) (r : Rule) → suits g wanted r ≡ true → is_of wanted.on r.on ≡ true
on_kind g wanted r h = (and_parts (is_of wanted.on r.on) (is_some (fit_in g.schema r.on wanted.having)) h).0

-- ---- the same productions suit an event as suit what is wanted
first_same : (n : ℕ) (f s : Rule → Bool) → ((r : Rule) → f r ≡ s r) → (xs : List (Coded Rule)) → first_of n f xs ≡ first_of n s xs
first_same n f s same [] = refl
first_same n f s same (x ∷ xs) =
    ap (λ (b : Bool). cond (eqb (length x.parts) n && b) (Some x) (first_of n f xs)) (same x.item)
    ∙ ap (λ (o : Option (Coded Rule)). cond (eqb (length x.parts) n && s x.item) (Some x) o) (first_same n f s same xs)

fewest_same : (f s : Rule → Bool) → ((r : Rule) → f r ≡ s r) → (xs : List (Coded Rule)) → fewest f xs ≡ fewest s xs
fewest_same f s same xs =
    ap (λ (o : Option (Coded Rule)). or_else o (or_else (first_of 2 f xs) (first_of 3 f xs))) (first_same 1 f s same xs)
    ∙ (ap (λ (o : Option (Coded Rule)). or_else (first_of 1 s xs) (or_else o (first_of 3 f xs))) (first_same 2 f s same xs)
    ∙ ap (λ (o : Option (Coded Rule)). or_else (first_of 1 s xs) (or_else (first_of 2 s xs) o)) (first_same 3 f s same xs))

-- by the law of the choice
by_suiting : ChosenSuits → (wanted : Seeking) (p : Page) (o : Option (Coded Rule)) → IsReady p → first_suiting p.setting wanted (rules_of p.setting p.config) ≡ o → (e : Happening) → IsWanted p.setting p.config.tables wanted e → by_chosen p.setting p.config e ≡ by_code p.setting p.config e (picked p.setting p.config e o)
by_suiting law wanted p o ready first e same =
    let g = p.setting in
    let c = p.config in
    ap (by_code g c e) (law g c e ready.is_setting ready.names ready.sound)
    ∙ ap (λ (z : Option (Coded Rule)). by_code g c e (picked g c e z)) (fewest_same (suits g (seeking c.tables e)) (suits g wanted) same (coded (rules_of g c)) ∙ first)

pub found_is : (wanted : Seeking) (p : Page) (o : Option Found) (found : Found) → o ≡ Some found → Finds p.setting p.config.learned wanted (rules_of p.setting p.config) o → IsFound p.setting p.config.learned wanted (rules_of p.setting p.config) found
found_is wanted p o found e h = subst (λ (z : Option Found). Finds p.setting p.config.learned wanted (rules_of p.setting p.config) z) e h

pub none_found : (wanted : Seeking) (p : Page) (o : Option Found) → o ≡ None → Finds p.setting p.config.learned wanted (rules_of p.setting p.config) o → first_suiting p.setting wanted (rules_of p.setting p.config) ≡ None
none_found wanted p o e h = subst (λ (z : Option Found). Finds p.setting p.config.learned wanted (rules_of p.setting p.config) z) e h

pub none_begun : ChosenSuits → (wanted : Seeking) (p : Page) → IsReady p → first_suiting p.setting wanted (rules_of p.setting p.config) ≡ None → (e : Happening) → IsWanted p.setting p.config.tables wanted e → by_chosen p.setting p.config e ≡ Err not_derived
none_begun law wanted p ready none e same = by_suiting law wanted p None ready none e same

-- ---- what is charged before the content
pub record AreOf (k : Charges) (p : Plan) : Type 0 where
  pub barred : k.barred ≡ p.barred
  pub counted : k.counted ≡ p.counted
  pub misplaced : k.misplaced ≡ p.misplaced
  pub entered : k.entered ≡ p.entered

pub charges_of : (g : Setting) (a : Alone) (c : Config) (r : Rule) (t : Terminal) → AreOf (charges_on a c.after_start t) (plan_on g a c r t)
charges_of g a c r start_document = record { barred = refl; counted = refl; misplaced = refl; entered = refl }
charges_of g a c r end_document = record { barred = refl; counted = refl; misplaced = refl; entered = refl }
charges_of g a c r (element t) = record { barred = refl; counted = refl; misplaced = refl; entered = refl }
charges_of g a c r (attribute t v) = record { barred = refl; counted = refl; misplaced = refl; entered = refl }
charges_of g a c r (characters d) = record { barred = refl; counted = refl; misplaced = refl; entered = refl }
charges_of g a c r end_element = record { barred = refl; counted = refl; misplaced = refl; entered = refl }
charges_of g a c r declaration = record { barred = refl; counted = refl; misplaced = refl; entered = refl }
charges_of g a c r self_contained = record { barred = refl; counted = refl; misplaced = refl; entered = refl }
charges_of g a c r comment = record { barred = refl; counted = refl; misplaced = refl; entered = refl }
charges_of g a c r instruction = record { barred = refl; counted = refl; misplaced = refl; entered = refl }
charges_of g a c r document_type = record { barred = refl; counted = refl; misplaced = refl; entered = refl }
charges_of g a c r entity = record { barred = refl; counted = refl; misplaced = refl; entered = refl }

-- whatever its datatype is
charges_same : (a : Alone) (after : Bool) (on : Content) (d : Option Datatype) → charges_on a after (terminal_in on None) ≡ charges_on a after (terminal_in on d)
charges_same a after content.StartDocument d = refl
charges_same a after content.EndDocument d = refl
charges_same a after (content.Element name) d = refl
charges_same a after (content.Attribute name v) d = refl
charges_same a after content.Characters d = refl
charges_same a after content.EndElement d = refl
charges_same a after content.Declaration d = refl
charges_same a after content.SelfContained d = refl
charges_same a after content.Comment d = refl
charges_same a after content.Instruction d = refl
charges_same a after content.DocumentType d = refl
charges_same a after content.Entity d = refl

-- ---- where it may not stand
and_not : (b : Bool) → (b && false) ≡ false
and_not true = refl
and_not false = refl

is_some_of : {X : Type 0} (o : Option X) → is_some o ≡ true → is_none o ≡ false
is_some_of None h = absurd cc
is_some_of (Some x) h = refl

pub is_barred : (g : Setting) (c : Config) (e : Happening) (r : Rule) → is_some (plan_of g c r).barred ≡ true → matches g c e r ≡ false
is_barred g c e r h = rw (is_some_of (plan_of g c r).barred h) refl

pub is_misplaced : (g : Setting) (c : Config) (e : Happening) (r : Rule) → is_some (plan_of g c r).misplaced ≡ true → matches g c e r ≡ false
is_misplaced g c e r h = rw (is_some_of (plan_of g c r).misplaced h) (rw (and_not (is_none (plan_of g c r).barred)) refl)

none_refused : {X : Type 0} (refused : X → Option Kind) → ((x : X) → is_some (refused x) ≡ true) → (o : Option (Piece X)) → is_taken refused o ≡ false
none_refused refused h None = refl
none_refused refused h (Some piece) = is_some_of (refused piece.item) (h piece.item)

no_element_of : (wanted : Content) (a : Alone) → is_some (no_element_for wanted a) ≡ true → is_some (no_element a) ≡ true
no_element_of (content.Element own) a h = absurd cc
no_element_of content.StartDocument a h = h
no_element_of content.EndDocument a h = h
no_element_of (content.Attribute own v) a h = h
no_element_of content.Characters a h = h
no_element_of content.EndElement a h = h
no_element_of content.Declaration a h = h
no_element_of content.SelfContained a h = h
no_element_of content.Comment a h = h
no_element_of content.Instruction a h = h
no_element_of content.DocumentType a h = h
no_element_of content.Entity a h = h

for_element : (wanted : Content) (a : Alone) (t : Telling) → is_of wanted (element t) ≡ true → no_element_for wanted a ≡ None
for_element (content.Element own) a t h = refl
for_element content.StartDocument a t h = absurd cc
for_element content.EndDocument a t h = absurd cc
for_element (content.Attribute own v) a t h = absurd cc
for_element content.Characters a t h = absurd cc
for_element content.EndElement a t h = absurd cc
for_element content.Declaration a t h = absurd cc
for_element content.SelfContained a t h = absurd cc
for_element content.Comment a t h = absurd cc
for_element content.Instruction a t h = absurd cc
for_element content.DocumentType a t h = absurd cc
for_element content.Entity a t h = absurd cc

none_some : (o : Option Kind) → o ≡ None → is_some o ≡ true → ⊥
none_some None e h = absurd cc
none_some (Some k) e h = absurd cc

refuses : (g : Setting) (a : Alone) (c : Config) (r : Rule) (wanted : Content) (t : Terminal) → is_of wanted t ≡ true → is_some (no_element_for wanted a) ≡ true → (x : (plan_on g a c r t).Item) → is_some ((plan_on g a c r t).refused x) ≡ true
refuses g a c r wanted start_document h k x = no_element_of wanted a k
refuses g a c r wanted end_document h k x = no_element_of wanted a k
refuses g a c r wanted (element t) h k x = absurd (none_some (no_element_for wanted a) (for_element wanted a t h) k)
refuses g a c r wanted (attribute t v) h k x = no_element_of wanted a k
refuses g a c r wanted (characters d) h k x = no_element_of wanted a k
refuses g a c r wanted end_element h k x = no_element_of wanted a k
refuses g a c r wanted declaration h k x = no_element_of wanted a k
refuses g a c r wanted self_contained h k x = no_element_of wanted a k
refuses g a c r wanted comment h k x = no_element_of wanted a k
refuses g a c r wanted instruction h k x = no_element_of wanted a k
refuses g a c r wanted document_type h k x = no_element_of wanted a k
refuses g a c r wanted entity h k x = no_element_of wanted a k

pub is_no_element : (g : Setting) (c : Config) (e : Happening) (wanted : Content) (r : Rule) → is_of wanted r.on ≡ true → is_some (no_element_for wanted (alone_in c.elements c.outer)) ≡ true → matches g c e r ≡ false
is_no_element g c e wanted r h k =
    let none = none_refused (plan_of g c r).refused (refuses g (alone_in c.elements c.outer) c r wanted r.on h k) (written_by g c r e c.tables) in
    rw none (and_not (is_none (plan_of g c r).barred && is_none (plan_of g c r).misplaced))

-- ---- so no production stands for the event
pub not_begun : ChosenSuits → (wanted : Seeking) (p : Page) (rule : Rule) (x : Coded Rule) → IsReady p → IsTaken wanted p rule x → ((e : Happening) → matches p.setting p.config e rule ≡ false) → (e : Happening) → IsWanted p.setting p.config.tables wanted e → by_chosen p.setting p.config e ≡ Err not_derived
not_begun law wanted p rule x ready t fail e same =
    let g = p.setting in
    let c = p.config in
    let fails : matches g c e x.item ≡ false = subst (λ (r : Rule). matches g c e r ≡ false) t.same (fail e) in
    by_suiting law wanted p (Some x) ready t.first e same ∙ ap (λ (b : Bool). by_code g c e (cond b (Some x) None)) fails

-- ---- the code is written
by_test : (g : Setting) (c : Config) (e : Happening) (x : Coded Rule) (b : Bool) → by_code g c e (cond b (Some x) None) ≡ cond b (by_code g c e (Some x)) (Err not_derived)
by_test g c e x true = refl
by_test g c e x false = refl

tried_of : ChosenSuits → (wanted : Seeking) (p : Page) (rule : Rule) (x : Coded Rule) → IsReady p → IsTaken wanted p rule x → (e : Happening) → IsWanted p.setting p.config.tables wanted e
    → by_chosen p.setting p.config e ≡ tried p.setting p.config rule (code_bits (align_of p.setting.options) (codes (rules_of p.setting p.config)) x.parts) e
tried_of law wanted p rule x ready t e same =
    let g = p.setting in
    let c = p.config in
    let code = code_bits (align_of g.options) (codes (rules_of g c)) x.parts in
    let found : by_chosen g c e ≡ tried g c x.item code e = by_suiting law wanted p (Some x) ready t.first e same ∙ by_test g c e x (matches g c e x.item) in
    found ∙ ap (λ (r : Rule). tried g c r code e) (sym t.same)

pub begun : ChosenSuits → (wanted : Seeking) (old new : Page) (toll owed : Charged) (found : Found) → IsReady old → IsFound old.setting old.config.learned wanted (rules_of old.setting old.config) found
    → MayStand (plan_of old.setting old.config (rule_in found.choice.rule)) → no_element_for wanted.on (alone_in old.config.elements old.config.outer) ≡ None
    → new ≡ with_bits old (code_bits (align_of old.setting.options) (codes (rules_of old.setting old.config)) (way_parts old.setting found.choice.way))
    → owed ≡ charge_level (plan_of old.setting old.config (rule_in found.choice.rule)).entered (charge_event (plan_of old.setting old.config (rule_in found.choice.rule)).counted toll)
    → IsBegun wanted old new toll owed found.choice.rule
begun law wanted old new toll owed found ready k stands free page charged =
    let t = taken wanted old found ready k in
    let code = code_bits (align_of old.setting.options) (codes (rules_of old.setting old.config)) (k.coded).parts in
    let put : new ≡ with_bits old code = page ∙ ap (λ (parts : List ℕ). with_bits old (code_bits (align_of old.setting.options) (codes (rules_of old.setting old.config)) parts)) k.parts in
    let long : length (old.bits ++ code) ≡ old.config.place + length code = length-append old.bits code ∙ ap (λ (n : ℕ). n + length code) (sym ready.place) in
    record {
      code = code;
      is = tried_of law wanted old (rule_in found.choice.rule) k.coded ready t;
      on = t.on;
      stands = stands;
      fits = t.fits;
      element = free;
      page = put ∙ ap (λ (n : ℕ). record { setting = old.setting; bits = old.bits ++ code; config = record old.config { place = n } }) long;
      charged = charged;
    }

pub fitted_in : (wanted : Seeking) (old : Page) (found : Found) (begun : Begun) → IsFound old.setting old.config.learned wanted (rules_of old.setting old.config) found → begun ≡ record { rule = found.choice.rule; value = found.value } → IsFitted wanted old begun
fitted_in wanted old found begun k same =
    subst (λ (b : Begun). IsFitted wanted old b) (sym same) record { value = k.value ∙ ap (λ (r : Rule). fit_in old.setting.schema r.on wanted.having) (sym k.rule) }

-- ---- by what was asked
pub are_charged : (p q : Page) (rule : Kept) (k : Charges) (a : Alone) → p ≡ q → a ≡ alone_in p.config.elements p.config.outer → k ≡ charges_on a p.config.after_start (terminal_in rule.on None) → AreOf k (plan_of q.setting q.config (rule_in rule))
are_charged p q rule k a same alone charges =
    let here : k ≡ charges_on (alone_in p.config.elements p.config.outer) p.config.after_start (rule_in rule).on =
    charges ∙ (ap (λ (z : Alone). charges_on z p.config.after_start (terminal_in rule.on None)) alone ∙ charges_same (alone_in p.config.elements p.config.outer) p.config.after_start rule.on (option_copied rule.datatype)) in
    let known : AreOf k (plan_of p.setting p.config (rule_in rule)) = subst (λ (z : Charges). AreOf z (plan_of p.setting p.config (rule_in rule))) (sym here) (charges_of p.setting (alone_in p.config.elements p.config.outer) p.config (rule_in rule) (rule_in rule).on) in
    subst (λ (z : Page). AreOf k (plan_of z.setting z.config (rule_in rule))) same known

pub alone_there : (p q : Page) (a : Alone) → p ≡ q → a ≡ alone_in p.config.elements p.config.outer → a ≡ alone_in q.config.elements q.config.outer
alone_there p q a same alone = subst (λ (z : Page). a ≡ alone_in z.config.elements z.config.outer) same alone

pub barred_begun : ChosenSuits → (wanted : Seeking) (p : Page) (found : Found) (k : Charges) → IsReady p → IsFound p.setting p.config.learned wanted (rules_of p.setting p.config) found → AreOf k (plan_of p.setting p.config (rule_in found.choice.rule)) → is_some k.barred ≡ true
    → (e : Happening) → IsWanted p.setting p.config.tables wanted e → by_chosen p.setting p.config e ≡ Err not_derived
barred_begun law wanted p found k ready chosen are h =
    not_begun law wanted p (rule_in found.choice.rule) chosen.coded ready (taken wanted p found ready chosen) (λ e. is_barred p.setting p.config e (rule_in found.choice.rule) (ap (λ (o : Option Kind). is_some o) (sym are.barred) ∙ h))

pub misplaced_begun : ChosenSuits → (wanted : Seeking) (p : Page) (found : Found) (k : Charges) → IsReady p → IsFound p.setting p.config.learned wanted (rules_of p.setting p.config) found → AreOf k (plan_of p.setting p.config (rule_in found.choice.rule)) → is_some k.misplaced ≡ true
    → (e : Happening) → IsWanted p.setting p.config.tables wanted e → by_chosen p.setting p.config e ≡ Err not_derived
misplaced_begun law wanted p found k ready chosen are h =
    not_begun law wanted p (rule_in found.choice.rule) chosen.coded ready (taken wanted p found ready chosen) (λ e. is_misplaced p.setting p.config e (rule_in found.choice.rule) (ap (λ (o : Option Kind). is_some o) (sym are.misplaced) ∙ h))

pub no_element_begun : ChosenSuits → (wanted : Seeking) (p : Page) (found : Found) (a : Alone) → IsReady p → IsFound p.setting p.config.learned wanted (rules_of p.setting p.config) found → a ≡ alone_in p.config.elements p.config.outer → is_some (no_element_for wanted.on a) ≡ true
    → (e : Happening) → IsWanted p.setting p.config.tables wanted e → by_chosen p.setting p.config e ≡ Err not_derived
no_element_begun law wanted p found a ready chosen alone h =
    let t = taken wanted p found ready chosen in
    not_begun law wanted p (rule_in found.choice.rule) chosen.coded ready t (λ e. is_no_element p.setting p.config e wanted.on (rule_in found.choice.rule) (on_kind p.setting wanted (rule_in found.choice.rule) t.on) (ap (λ (z : Alone). is_some (no_element_for wanted.on z)) (sym alone) ∙ h))

none_of : (o : Option Kind) → is_some o ≡ false → o ≡ None
none_of None h = refl
none_of (Some k) h = absurd cc

pub begun_by : ChosenSuits → (wanted : Seeking) (old new : Page) (toll owed : Charged) (found : Found) (k : Charges) (a : Alone) → IsReady old → IsFound old.setting old.config.learned wanted (rules_of old.setting old.config) found
    → AreOf k (plan_of old.setting old.config (rule_in found.choice.rule)) → a ≡ alone_in old.config.elements old.config.outer
    → is_some k.barred ≡ false → is_some k.misplaced ≡ false → is_some (no_element_for wanted.on a) ≡ false
    → new ≡ with_bits old (code_bits (align_of old.setting.options) (codes (rules_of old.setting old.config)) (way_parts old.setting found.choice.way))
    → owed ≡ charge_level k.entered (charge_event k.counted toll)
    → IsBegun wanted old new toll owed found.choice.rule
begun_by law wanted old new toll owed found k a ready chosen are alone free placed fits page charged =
    let plan = plan_of old.setting old.config (rule_in found.choice.rule) in
    let stands : MayStand plan = record { free = sym are.barred ∙ none_of k.barred free; placed = sym are.misplaced ∙ none_of k.misplaced placed } in
    let element_free : no_element_for wanted.on (alone_in old.config.elements old.config.outer) ≡ None = ap (no_element_for wanted.on) (sym alone) ∙ none_of (no_element_for wanted.on a) fits in
    let paid : owed ≡ charge_level plan.entered (charge_event plan.counted toll) = charged ∙ ap (λ (b : Bool). charge_level b (charge_event k.counted toll)) are.entered ∙ ap (λ (b : Bool). charge_level plan.entered (charge_event b toll)) are.counted in
    begun law wanted old new toll owed found ready chosen stands element_free page paid
