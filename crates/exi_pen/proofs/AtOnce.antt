-- An event that is written by the production for it alone, in a built-in state. Its charges are made before its code is written:
-- what stands then is the same.
use Rattle.std.proofs.Common.{◌≡◌, ◌^◌, ◌<◌, ℕ, Bool, true, false, List, [], ◌∷◌, ◌++◌, length, Option, Some, None, refl, sym, ap, ◌∙◌, subst}
use Rattle.std.specs.Prelude.{Result, Ok, Err, IfSome}
use Rattle.exi_bits.specs.declared.align.Align.{Align}
use Rattle.exi_builtin.specs.declared.learnable.Learned.TheVariants as used
use Rattle.exi_builtin.specs.declared.learnable.Room.{Room}
use Rattle.exi_gram.specs.Codes.{Productions}
use Rattle.exi_gram.specs.Switches.{align_of}
use Rattle.exi_meter.specs.Metering.{Metering}
use Rattle.exi_names.specs.Datatypes.{Representation}
use Rattle.exi_names.specs.Datatypes as datatype
use Rattle.exi_names.specs.Events as event
use Rattle.exi_names.specs.Seen.{Value}
use Rattle.exi_names.specs.Seen as shape
use Rattle.exi_names.specs.declared.names.NameId.{NameId}
use Rattle.exi_processing.specs.Changes.{closed, has_level, innermost, learns, moves}
use Rattle.exi_processing.specs.Configurations.{built_in, rules_of}
use Rattle.exi_processing.specs.Handing.{rule_in}
use Rattle.exi_processing.specs.Plans.{Alone, Plan, alone_in, nowhere, plan_on}
use Rattle.exi_processing.specs.Rules.{Rule, Terminal, characters, end_element, spelled}
use Rattle.exi_processing.specs.declared.rule.Content.{Content}
use Rattle.exi_processing.specs.declared.rule.Content.TheVariants as content
use Rattle.exi_processing.specs.declared.rule.Rule.{Rule as Kept}
use Rattle.exi_tables.specs.Growth.{NoneLonger}
use Rattle.exi_tables.specs.Partitions.{IsName, Partitions}
use Rattle.exi_typed.specs.Written.{after_string, string_bits}
use Rattle.exi_writing.specs.Pieces.{can_be_spelled}
use Rattle.exi_writing.specs.Pruned.{pruned_value}
use Rattle.exi_choice.proofs.BuiltFits.{found_built_in}
use Rattle.exi_choice.proofs.Strings.{has_spelling}
use Rattle.exi_choice.specs.Choices.{IsChoice, IsFound, IsWay}
use Rattle.exi_choice.specs.Fitting.{Having, fit_for, fit_in, nothing, of_characters, value_in}
use Rattle.exi_choice.specs.Wanted.{ChosenSuits, of_kind, special_terminal}
use Rattle.exi_choice.specs.declared.choice.Choice.{Choice}
use Rattle.exi_choice.specs.declared.fit.Fit.TheVariants as fit
use Rattle.exi_toll.specs.Charges.{Charged, charge, charge_event, charge_level}
use Rattle.exi_toll.specs.declared.stop.PutStop.{PutStop}
use Rattle.exi_toll.specs.declared.stop.PutStop.TheVariants as stop
use Rattle.exi_pen.specs.Pages.{CanGrow, Ends, IsBegun, IsReady, IsSpecial, KeepsLevel, MayStand, Page, PutsLast, Writes, at_config, by_chosen, characters_wanted, closed_page, learned_page, no_element_for, paid_page, text_page, way_page}
use Rattle.exi_pen.specs.Values.{value_by}
use Rattle.exi_pen.proofs.Begun.{begun}
use Rattle.exi_pen.proofs.EventKinds.{close_ends}
use Rattle.exi_pen.proofs.EventNames.{characters_begun, datatype_of, inside_begun, keeps_close}
use Rattle.exi_pen.proofs.EventValues.{IsCharacters, characters_ends}
use Rattle.exi_pen.proofs.Putting.{few_start, next, next_is, string_last, string_put}

-- ---- the production
special_in : (p : Page) (room : Room) (wanted : Content) (o : Option Choice) → rules_of p.setting p.config ≡ built_in p.setting p.config.learned room
    → IfSome o (λ choice. IsChoice p.setting p.config.learned wanted (built_in p.setting p.config.learned room) choice) → IfSome o (λ choice. IsSpecial p wanted choice)
special_in p room wanted None rules h = tt
special_in p room wanted (Some choice) rules h = λ k f.
    subst (λ (z : Productions Rule). IsFound p.setting p.config.learned (record { on = wanted; having = k }) z (record { choice = choice; value = fit.Own })) (sym rules)
    (found_built_in p.setting p.config.learned room (record { on = wanted; having = k }) (Some choice) (Some (record { choice = choice; value = fit.Own })) h (refl, sym f))

pub special_here : (p q : Page) (room : Room) (wanted : Content) (o : Option Choice) → p ≡ q → rules_of q.setting q.config ≡ built_in q.setting q.config.learned room
    → IfSome o (λ choice. IsChoice p.setting p.config.learned wanted (built_in p.setting p.config.learned room) choice) → IfSome o (λ choice. IsSpecial q wanted choice)
special_here p q room wanted o same rules h =
    special_in q room wanted o rules (subst (λ (z : Page). IfSome o (λ choice. IsChoice z.setting z.config.learned wanted (built_in z.setting z.config.learned room) choice)) same h)

pub some_any : {X P : Type 0} (o : Option X) → P → IfSome o (λ x. P)
some_any {X} {P} None h = tt
some_any {X} {P} (Some x) h = h

-- it stands for the event alone
pub terminal_is : (s t : Terminal) → Some s ≡ Some t → s ≡ t
terminal_is s t e = cc

-- it is found for an event that is written in it as it is
special_found : (old : Page) (wanted : Content) (h : Having) (t : Terminal) (choice : Choice) → IsSpecial old wanted choice → Some (rule_in choice.rule).on ≡ Some t → fit_in old.setting.schema t h ≡ Some (value_in h)
    → IsFound old.setting old.config.learned (record { on = wanted; having = h }) (rules_of old.setting old.config) (record { choice = choice; value = fit.Own })
special_found old wanted h t choice special on fits =
    special h (ap (λ (z : Terminal). fit_in old.setting.schema z h) (terminal_is (rule_in choice.rule).on t on) ∙ fits)

pub special_way : (old : Page) (wanted : Content) (h : Having) (t : Terminal) (choice : Choice) → IsSpecial old wanted choice → Some (rule_in choice.rule).on ≡ Some t → fit_in old.setting.schema t h ≡ Some (value_in h)
    → IsWay old.setting old.config.learned (rules_of old.setting old.config) choice.way
special_way old wanted h t choice special on fits = (special_found old wanted h t choice special on fits).way

-- what it does inside of an element
abbrev pub plan_inside : Page → Choice → Terminal → Plan
plan_inside old choice t = plan_on old.setting nowhere old.config (rule_in choice.rule) t

pub special_begun : ChosenSuits → (old : Page) (wanted : Content) (h : Having) (t : Terminal) (choice : Choice) (toll owed : Charged) → IsReady old → IsSpecial old wanted choice → alone_in old.config.elements old.config.outer ≡ nowhere
    → Some (rule_in choice.rule).on ≡ Some t → fit_in old.setting.schema t h ≡ Some (value_in h) → MayStand (plan_inside old choice t) → no_element_for wanted nowhere ≡ None
    → owed ≡ charge_level (plan_inside old choice t).entered (charge_event (plan_inside old choice t).counted toll)
    → IsBegun (record { on = wanted; having = h }) old (way_page old choice.way) toll owed choice.rule
special_begun law old wanted h t choice toll owed ready special inside on fits stands free charged =
    let g = old.setting in
    let c = old.config in
    let r : Rule = rule_in choice.rule in
    let at : r.on ≡ t = terminal_is r.on t on in
    let may : MayStand (plan_on g (alone_in c.elements c.outer) c r r.on) =
    subst (λ (a : Alone). MayStand (plan_on g a c r r.on)) (sym inside) (subst (λ (z : Terminal). MayStand (plan_on g nowhere c r z)) (sym at) stands) in
    let paid : owed ≡ charge_level (plan_on g (alone_in c.elements c.outer) c r r.on).entered (charge_event (plan_on g (alone_in c.elements c.outer) c r r.on).counted toll) =
    subst (λ (a : Alone). owed ≡ charge_level (plan_on g a c r r.on).entered (charge_event (plan_on g a c r r.on).counted toll)) (sym inside)
    (subst (λ (z : Terminal). owed ≡ charge_level (plan_on g nowhere c r z).entered (charge_event (plan_on g nowhere c r z).counted toll)) (sym at) charged) in
    begun law (record { on = wanted; having = h }) old (way_page old choice.way) toll owed (record { choice = choice; value = fit.Own }) ready (special_found old wanted h t choice special on fits)
    may (ap (no_element_for wanted) inside ∙ free) refl paid

pub level_none : (c : Charged) → c ≡ charge_level false c
level_none (Ok m) = refl
level_none (Err why) = refl

-- ---- how it ends
pub ends_err : (stopped : PutStop) (new : Page) (owed : Charged) (one other : Metering → Page) → Ends (Err stopped) new owed one → Ends (Err stopped) new owed other
ends_err stop.NotDerived new owed one other h = absurd h
ends_err (stop.Limit k) new owed one other h = h
ends_err stop.Memory new owed one other h = tt

-- behind the charges and the code
pub grow_paid : (old new : Page) (owed : Charged) (choice : Choice) → IsReady old → (m : Metering) → new ≡ paid_page (way_page old choice.way) m → CanGrow new.config
grow_paid old new owed choice ready m page = subst (λ (p : Page). CanGrow p.config) (sym page) (record { learns = ready.room.learns; grammars = ready.room.grammars })

-- ---- EE
end_begun : ChosenSuits → (old : Page) (choice : Choice) (toll : Charged) → IsReady old → IsSpecial old content.EndElement choice → alone_in old.config.elements old.config.outer ≡ nowhere → Some (rule_in choice.rule).on ≡ special_terminal content.EndElement
    → IsBegun (of_kind content.EndElement) old (way_page old choice.way) toll (charge_event true toll) choice.rule
end_begun law old choice toll ready special inside on =
    special_begun law old content.EndElement nothing end_element choice toll (charge_event true toll) ready special inside on refl (record { free = refl; placed = refl }) refl (level_none (charge_event true toll))

pub end_way : (old : Page) (choice : Choice) → IsSpecial old content.EndElement choice → Some (rule_in choice.rule).on ≡ special_terminal content.EndElement → IsWay old.setting old.config.learned (rules_of old.setting old.config) choice.way
end_way old choice special on = special_way old content.EndElement nothing end_element choice special on refl

pub level_paid : ChosenSuits → (old new : Page) (choice : Choice) → IsReady old → IsSpecial old content.EndElement choice → alone_in old.config.elements old.config.outer ≡ nowhere → Some (rule_in choice.rule).on ≡ special_terminal content.EndElement
    → (m : Metering) → charge_event true (Ok old.config.meter) ≡ Ok m → new ≡ paid_page (way_page old choice.way) m → has_level new.config.elements new.config.outer ≡ true → 0 < new.config.meter.level
level_paid law old new choice ready special inside on m paid page =
    let keeps : KeepsLevel old.config.meter (charge_event true (Ok old.config.meter)) = keeps_close old (way_page old choice.way) (Ok old.config.meter) (charge_event true (Ok old.config.meter)) choice.rule refl ready (end_begun law old choice (Ok old.config.meter) ready special inside on) in
    let same : m.level ≡ old.config.meter.level = subst (λ (z : Charged). KeepsLevel old.config.meter z) paid keeps in
    subst (λ (p : Page). has_level p.config.elements p.config.outer ≡ true → 0 < p.config.meter.level) (sym page) (λ h. rw same (ready.levels.inside h))

pub end_writes : ChosenSuits → (r : Result (Unit {0}) PutStop) (old new : Page) (owed : Charged) (choice : Choice) → IsReady old → IsSpecial old content.EndElement choice → alone_in old.config.elements old.config.outer ≡ nowhere → Some (rule_in choice.rule).on ≡ special_terminal content.EndElement
    → owed ≡ charge_event true (Ok old.config.meter) → Ends r new owed (closed_page (way_page old choice.way)) → Writes {X = Unit {0}} r old new (by_chosen old.setting old.config event.ee)
end_writes law r old new owed choice ready special inside on paid page =
    close_ends r old (way_page old choice.way) new (Ok old.config.meter) (charge_event true (Ok old.config.meter)) choice.rule ready refl (end_begun law old choice (Ok old.config.meter) ready special inside on)
    (subst (λ (z : Charged). Ends r new z (closed_page (way_page old choice.way))) paid page)

-- closed behind the code
pub closed_paid : (x : Unit {0}) (old paid new : Page) (owed : Charged) → Ends (Ok x) paid owed (paid_page old) → new ≡ at_config paid (closed (learns used.Ee paid.config)) → Ends (Ok x) new owed (closed_page old)
closed_paid x old paid new owed h page = (h.0, h.1, page ∙ ap (λ (p : Page). at_config p (closed (learns used.Ee p.config))) h.2)

-- ---- CH
-- what is written under a name
pub text_is : (was old : Page) (name : NameId) (x : List ℕ) (a : Align) (out : List Bool) (tables : Partitions) → was ≡ old → a ≡ align_of was.setting.options
    → out ≡ was.bits ++ string_bits None a was.config.tables name x → tables ≡ after_string was.config.tables name x → next was out tables ≡ text_page name x old
text_is was old name x a out tables same align bits held =
    subst (λ (p : Page). next was out tables ≡ text_page name x p) same
    (next_is was out (string_bits None (align_of was.setting.options) was.config.tables name x) tables (after_string was.config.tables name x) (bits ∙ ap (λ (z : Align). was.bits ++ string_bits None z was.config.tables name x) align) held)

-- it is what the definition writes there
pub text_put : (p : Page) (name : NameId) (x : List ℕ) (r : Representation) (toll owed : Charged) → can_be_spelled x ≡ true → r ≡ datatype.text → owed ≡ charge (length x ∷ []) toll
    → PutsLast {A = Unit {0}} {X = Value} (Ok tt) (value_by p.setting r name (shape.text x) p.config.tables) p (text_page name x p) toll owed
text_put p name x r toll owed can is charged =
    let put = string_put {was = p} {old = p} refl p.setting.options name x true (p.bits ++ string_bits None (align_of p.setting.options) p.config.tables name x) (after_string p.config.tables name x) toll owed refl (sym can) refl refl refl charged in
    subst (λ (z : Representation). PutsLast {A = Unit {0}} {X = Value} (Ok tt) (value_by p.setting z name (shape.text x) p.config.tables) p (text_page name x p) toll owed) (sym is)
    (string_last (Ok tt) (shape.text x) x name p (text_page name x p) toll owed refl put)

characters_begun_by : ChosenSuits → (old : Page) (choice : Choice) (x : List ℕ) (toll : Charged) → IsReady old → IsSpecial old content.Characters choice → alone_in old.config.elements old.config.outer ≡ nowhere → Some (rule_in choice.rule).on ≡ special_terminal content.Characters
    → can_be_spelled x ≡ true → IsBegun (characters_wanted (shape.text x)) old (way_page old choice.way) toll (charge_event true toll) choice.rule
characters_begun_by law old choice x toll ready special inside on can =
    special_begun law old content.Characters (of_characters (shape.text x)) (characters datatype.text) choice toll (charge_event true toll) ready special inside on (sym (has_spelling (shape.text x) x refl can)) (record { free = refl; placed = refl }) refl (level_none (charge_event true toll))

pub characters_way : (old : Page) (choice : Choice) (x : List ℕ) → IsSpecial old content.Characters choice → Some (rule_in choice.rule).on ≡ special_terminal content.Characters → can_be_spelled x ≡ true
    → IsWay old.setting old.config.learned (rules_of old.setting old.config) choice.way
characters_way old choice x special on can = special_way old content.Characters (of_characters (shape.text x)) (characters datatype.text) choice special on (sym (has_spelling (shape.text x) x refl can))

-- the name under which they stand
pub inside_paid : ChosenSuits → (old new : Page) (choice : Choice) (x : List ℕ) (name : NameId) → IsReady old → IsSpecial old content.Characters choice → alone_in old.config.elements old.config.outer ≡ nowhere → Some (rule_in choice.rule).on ≡ special_terminal content.Characters
    → can_be_spelled x ≡ true → (m : Metering) → new ≡ paid_page (way_page old choice.way) m → name ≡ innermost new.config.elements → IsName new.config.tables name
inside_paid law old new choice x name ready special inside on can m page is =
    let there : name ≡ innermost old.config.elements = is ∙ ap (λ (p : Page). innermost p.config.elements) page in
    subst (λ (p : Page). IsName p.config.tables name) (sym page)
    (inside_begun (shape.text x) old (way_page old choice.way) (Ok old.config.meter) (charge_event true (Ok old.config.meter)) choice.rule name ready (characters_begun_by law old choice x (Ok old.config.meter) ready special inside on can) there)

pub few_paid : (old new : Page) (choice : Choice) → IsReady old → (m : Metering) → new ≡ paid_page (way_page old choice.way) m → NoneLonger (2 ^ 31) new.config.tables
few_paid old new choice ready m page = subst (λ (p : Page). NoneLonger (2 ^ 31) p.config.tables) (sym page) (few_start old.config.tables ready.room.few)

pub grow_text : (old new : Page) (name : NameId) (x : List ℕ) → new ≡ text_page name x old → CanGrow old.config → CanGrow new.config
grow_text old new name x page k = subst (λ (p : Page). CanGrow p.config) (sym page) (record { learns = k.learns; grammars = k.grammars })

-- the datatype is that of a string
text_datatype : (rule : Kept) → (rule_in rule).on ≡ characters (datatype_of rule) → Some (rule_in rule).on ≡ special_terminal content.Characters → datatype_of rule ≡ datatype.text
text_datatype rule e on = datatype_is (datatype_of rule) (sym e ∙ terminal_is (rule_in rule).on (characters datatype.text) on)
  where
    datatype_is : (r : Representation) → characters r ≡ characters datatype.text → r ≡ datatype.text
    datatype_is r h = cc

pub characters_write : ChosenSuits → (r : Result (Unit {0}) PutStop) (old new : Page) (owed : Charged) (choice : Choice) (x : List ℕ) (name : NameId) → IsReady old → IsSpecial old content.Characters choice → alone_in old.config.elements old.config.outer ≡ nowhere → Some (rule_in choice.rule).on ≡ special_terminal content.Characters
    → can_be_spelled x ≡ true → name ≡ innermost old.config.elements → owed ≡ charge (length x ∷ []) (charge_event true (Ok old.config.meter))
    → Ends r new owed (learned_page spelled used.Ch choice.rule.to (text_page name x (way_page old choice.way))) → Writes {X = Unit {0}} r old new (by_chosen old.setting old.config (event.ch (shape.text x)))
characters_write law r old new owed choice x name ready special inside on can is charged page =
    let mid = way_page old choice.way in
    let toll : Charged = Ok old.config.meter in
    let b : IsBegun (characters_wanted (shape.text x)) old mid toll (charge_event true toll) choice.rule = characters_begun_by law old choice x toll ready special inside on can in
    let string : datatype_of choice.rule ≡ datatype.text = text_datatype choice.rule (characters_begun (shape.text x) old mid toll (charge_event true toll) choice.rule b) on in
    let k : IsCharacters (shape.text x) (shape.text x) old mid toll (charge_event true toll) choice.rule name = record {
      ready = ready;
      toll_is = refl;
      begun = b;
      fits = subst (λ (z : Representation). Some (shape.text x) ≡ fit_for z (shape.text x)) (sym string) (has_spelling (shape.text x) x refl can);
      inside = is;
    } in
    characters_ends (shape.text x) (shape.text x) old mid toll (charge_event true toll) choice.rule name k r (text_page name x mid) new owed (text_put mid name x (datatype_of choice.rule) (charge_event true toll) owed can string charged) page

-- written and learned behind the code
pub texted_paid : (x : Unit {0}) (old paid last new : Page) (owed : Charged) (name : NameId) (text : List ℕ) (to : ℕ) → Ends (Ok x) paid owed (paid_page old) → last ≡ text_page name text paid → new ≡ at_config last (moves to (learns used.Ch last.config))
    → Ends (Ok x) new owed (learned_page spelled used.Ch to (text_page name text old))
texted_paid x old paid last new owed name text to h put page =
    (h.0, h.1, page ∙ ap (λ (p : Page). at_config p (moves to (learns used.Ch p.config))) (put ∙ ap (text_page name text) h.2))

-- a text is no name, whose prefix may be dropped
pub text_kept : (r : Result (Unit {0}) PutStop) (old new : Page) (v : Value) (x : List ℕ) → v ≡ shape.text x → Writes {X = Unit {0}} r old new (by_chosen old.setting old.config (event.ch (shape.text x)))
    → Writes {X = Unit {0}} r old new (by_chosen old.setting old.config (event.ch (pruned_value old.setting.options v)))
text_kept r old new v x e k = subst (λ (z : Value). Writes {X = Unit {0}} r old new (by_chosen old.setting old.config (event.ch (pruned_value old.setting.options z)))) (sym e) k
