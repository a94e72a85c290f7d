-- An element and an attribute, whose name the code tells, that are written by the production for the name alone, in a built-in
-- state. Their charges are made before the code is written.
use Rattle.std.proofs.Common.{◌≡◌, ℕ, Bool, true, false, ◌&&◌, cond, List, [], ◌∷◌, ◌++◌, length, append-nil, Option, Some, None, refl, sym, ap, ◌∙◌, subst}
use Rattle.std.specs.Prelude.{Result, Ok, not}
use Rattle.std.specs.Option.{is_none}
use Rattle.exi_bits.specs.declared.align.Align.{Align}
use Rattle.exi_builtin.specs.Learning.{is_type}
use Rattle.exi_builtin.specs.declared.learnable.Learned.TheVariants as used
use Rattle.exi_gram.specs.Switches.{align_of, prefixes}
use Rattle.exi_meter.specs.Metering.{Metering}
use Rattle.exi_names.specs.Datatypes as datatype
use Rattle.exi_names.specs.Events as event
use Rattle.exi_names.specs.Seen.{Value}
use Rattle.exi_names.specs.Seen as shape
use Rattle.exi_names.specs.declared.names.NameId.{NameId}
use Rattle.exi_names.specs.declared.names.QName.{QName}
use Rattle.exi_processing.specs.Changes.{Effect, effect_of, effected, leads, moves, opened, opener, type_effect}
use Rattle.exi_processing.specs.Configurations.{rules_of}
use Rattle.exi_processing.specs.Contents.{named_type}
use Rattle.exi_processing.specs.Handing.{root_at, rule_in}
use Rattle.exi_processing.specs.Plans.{Alone, alone_in, is_event, nowhere, wrong_element}
use Rattle.exi_processing.specs.Rules.{Rule, Telling, Terminal, attribute, element, known, untyped}
use Rattle.exi_processing.specs.declared.rule.Content.TheVariants as content
use Rattle.exi_processing.specs.declared.rule.Telling.TheVariants as told
use Rattle.exi_processing.specs.declared.rule.Valuing.TheVariants as valuing
use Rattle.exi_tables.specs.Partitions.{IsName, prefixes as prefixes_at}
use Rattle.exi_typed.specs.Strings.{Named}
use Rattle.exi_typed.specs.Written.{prefix_bits, prefix_bits_of}
use Rattle.exi_typed.specs.WrittenLaws.{name_units}
use Rattle.exi_writing.specs.Contents.{told_name}
use Rattle.exi_writing.specs.Pruned.{pruned_value}
use Rattle.exi_writing.specs.Pieces.{Piece, can_be_spelled, can_know, can_tell, if_spelled, is_at}
use Rattle.exi_choice.proofs.Strings.{has_spelling}
use Rattle.exi_choice.specs.Choices.{IsWay}
use Rattle.exi_choice.specs.Fitting.{Declared, as_type, by_datatype, declared_in, fit_as, fit_in, nothing, of_attribute}
use Rattle.exi_choice.specs.Wanted.{ChosenSuits, of_kind, special_terminal, told_of}
use Rattle.exi_choice.specs.declared.choice.Choice.{Choice}
use Rattle.exi_toll.specs.Charges.{Charged, charge, charge_event, charge_level}
use Rattle.exi_toll.specs.declared.stop.PutStop.{PutStop}
use Rattle.exi_pen.specs.Pages.{Ends, IsBegun, IsReady, IsSpecial, Page, PutsIn, Writes, at_config, attribute_page, attribute_wanted, by_chosen, id_of, is_whole, learned_config, opened_here, opened_page, paid_config, paid_page, text_page, way_page}
use Rattle.exi_pen.specs.Told.{told_in, valuing_on}
use Rattle.exi_pen.proofs.AtOnce.{level_none, special_begun, special_way, terminal_is, text_put}
use Rattle.exi_pen.proofs.EventNames.{element_ends}
use Rattle.exi_pen.proofs.EventValues.{HasName, attribute_ends}
use Rattle.exi_pen.proofs.Putting.{known_put, next}
use Rattle.exi_pen.proofs.Putting as putting

-- ---- a name that is told whole
can_know_whole : (keep spelled local : Bool) (texts : List (List ℕ)) (prefix : Option (List ℕ)) → (is_none prefix && (not keep && (spelled && local))) ≡ true → (spelled && (local && can_tell keep texts prefix)) ≡ true
can_know_whole true spelled local texts None h = absurd cc
can_know_whole false true true texts None h = refl
can_know_whole false true false texts None h = absurd cc
can_know_whole false false local texts None h = absurd cc
can_know_whole keep spelled local texts (Some x) h = absurd cc

no_prefix_bits : (keep spelled : Bool) (a : Align) (texts : List (List ℕ)) (prefix : Option (List ℕ)) → (is_none prefix && (not keep && spelled)) ≡ true → prefix_bits_of keep a texts prefix ≡ []
no_prefix_bits true spelled a texts None h = absurd cc
no_prefix_bits false spelled a texts None h = refl
no_prefix_bits keep spelled a texts (Some x) h = absurd cc

id_if : (b : Bool) (x : Piece Named) → id_of (if_spelled b x) (x.item).id
id_if true x = refl
id_if false x = tt

-- nothing is written of it, and its texts are charged
name_put : (mid : Page) (id : NameId) (n : QName) (toll : Charged) → told_of mid.config.tables n ≡ told.Known id → is_whole mid n ≡ true
    → PutsIn {A = NameId} {X = Named} (Ok id) (told_name mid.setting (known id) n mid.config.tables) mid (next mid mid.bits mid.config.tables) toll (charge (name_units n) toll)
name_put mid id n toll tells whole =
    let keep : Bool = prefixes mid.setting.options in
    let none : prefix_bits keep (align_of mid.setting.options) mid.config.tables id.uri n.prefix ≡ [] =
    no_prefix_bits keep (can_be_spelled n.uri && can_be_spelled n.local) (align_of mid.setting.options) (prefixes_at mid.config.tables id.uri) n.prefix whole in
    let can : can_know keep mid.config.tables id n ≡ true = can_know_whole keep (can_be_spelled n.uri) (can_be_spelled n.local) (prefixes_at mid.config.tables id.uri) n.prefix whole in
    known_put {was = mid} {old = mid} refl mid.setting.options id n true mid.bits toll (charge (name_units n) toll) refl tells (sym can) refl
    (sym (append-nil mid.bits) ∙ ap (λ (z : List Bool). mid.bits ++ z) (sym none)) refl

name_id : (mid : Page) (id : NameId) (n : QName) → id_of (told_name mid.setting (known id) n mid.config.tables) id
name_id mid id n =
    id_if (is_at mid.config.tables id n && can_know (prefixes mid.setting.options) mid.config.tables id n)
    (record { item = record { id = id; name = n }; bits = prefix_bits (prefixes mid.setting.options) (align_of mid.setting.options) mid.config.tables id.uri n.prefix; tables = mid.config.tables; units = name_units n })

-- ---- SE
pub element_way : (old : Page) (choice : Choice) (id : NameId) → IsSpecial old (content.Element (told.Known id)) choice → Some (rule_in choice.rule).on ≡ special_terminal (content.Element (told.Known id))
    → IsWay old.setting old.config.learned (rules_of old.setting old.config) choice.way
element_way old choice id special on = special_way old (content.Element (told.Known id)) nothing (element (known id)) choice special on refl

element_begun : ChosenSuits → (old : Page) (choice : Choice) (id : NameId) (toll : Charged) → IsReady old → IsSpecial old (content.Element (told.Known id)) choice → alone_in old.config.elements old.config.outer ≡ nowhere
    → Some (rule_in choice.rule).on ≡ special_terminal (content.Element (told.Known id)) → IsBegun (of_kind (content.Element (told.Known id))) old (way_page old choice.way) toll (charge_level true (charge_event true toll)) choice.rule
element_begun law old choice id toll ready special inside on =
    special_begun law old (content.Element (told.Known id)) nothing (element (known id)) choice toll (charge_level true (charge_event true toll)) ready special inside on refl (record { free = refl; placed = refl }) refl refl

pub element_writes : ChosenSuits → (r : Result (Unit {0}) PutStop) (old new : Page) (owed : Charged) (choice : Choice) (id : NameId) (n : QName) → IsReady old → IsSpecial old (content.Element (told.Known id)) choice → alone_in old.config.elements old.config.outer ≡ nowhere
    → Some (rule_in choice.rule).on ≡ special_terminal (content.Element (told.Known id)) → told_of old.config.tables n ≡ told.Known id → is_whole old n ≡ true
    → owed ≡ charge (name_units n) (charge_level true (charge_event true (Ok old.config.meter)))
    → Ends r new owed (opened_page (known id) (rule_in choice.rule).to (rule_in choice.rule).inner (record { id = id; name = n }) (way_page old choice.way))
    → Writes {X = Unit {0}} r old new (by_chosen old.setting old.config (event.se n))
element_writes law r old new owed choice id n ready special inside on tells whole paid page =
    let rule : Rule = rule_in choice.rule in
    let at : rule.on ≡ element (known id) = terminal_is rule.on (element (known id)) on in
    let mid : Page = way_page old choice.way in
    let toll : Charged = Ok old.config.meter in
    let begun_toll : Charged = charge_level true (charge_event true toll) in
    let t : told_in rule.on ≡ known id = ap told_in at in
    let so : Ends r new (charge (name_units n) begun_toll) (opened_page (told_in rule.on) rule.to rule.inner (record { id = id; name = n }) mid) =
    subst (λ (c : Charged). Ends r new c (opened_page (told_in rule.on) rule.to rule.inner (record { id = id; name = n }) mid)) paid
    (subst (λ (z : Telling). Ends r new owed (opened_page z rule.to rule.inner (record { id = id; name = n }) mid)) (sym t) page) in
    element_ends r old mid (next mid mid.bits mid.config.tables) new toll begun_toll (charge (name_units n) begun_toll) choice.rule (told.Known id) (told.Known id) n id ready refl
    (element_begun law old choice id toll ready special inside on) (sym tells) (sym t)
    (name_put mid id n begun_toll tells whole) (name_id mid id n)
    (ap (λ (a : Alone). wrong_element a old.config.aside n) inside) so

-- opened behind the code
abbrev pub opened_in : Alone → Telling → ℕ → Option ℕ → NameId → QName → Page → Metering → Page
opened_in a t to inner id n p m =
    at_config p (record (opened id (opener p.setting n inner) (moves to (learned_config t (used.Se id) (record (paid_config m p.config) { root = root_at a p.config.aside n p.config.root })))) { after_start = is_event a })

pub opened_paid : (x : Unit {0}) (old paid new : Page) (owed : Charged) (r : Rule) (id : NameId) (n : QName) → Ends (Ok x) paid owed (paid_page old) → new ≡ at_config paid (opened_here paid.setting r id n paid.config)
    → alone_in old.config.elements old.config.outer ≡ nowhere → Ends (Ok x) new owed (opened_page (known id) r.to r.inner (record { id = id; name = n }) old)
opened_paid x old paid new owed r id n h page inside =
    (h.0, h.1, page ∙ (ap (λ (p : Page). at_config p (opened_here p.setting r id n p.config)) h.2 ∙ ap (λ (a : Alone). opened_in a (known id) r.to r.inner id n old h.0) (sym inside)))

-- ---- AT
string_declared : (old : Page) (id : NameId) (n : QName) → is_type id ≡ false → declared_in old.setting.schema untyped (Some id) n ≡ by_datatype datatype.text
string_declared old id n string = ap (λ (b : Bool). cond b as_type (by_datatype datatype.text)) string

string_fits : (old : Page) (id : NameId) (n : QName) (x : List ℕ) → is_type id ≡ false → can_be_spelled x ≡ true → fit_in old.setting.schema (attribute (known id) untyped) (of_attribute (Some id) n (shape.text x)) ≡ Some (shape.text x)
string_fits old id n x string can = ap (λ (d : Declared). fit_as d (shape.text x)) (string_declared old id n string) ∙ sym (has_spelling (shape.text x) x refl can)

pub attribute_way : (old : Page) (choice : Choice) (id : NameId) (n : QName) (x : List ℕ) → IsSpecial old (content.Attribute (told.Known id) valuing.Untyped) choice → Some (rule_in choice.rule).on ≡ special_terminal (content.Attribute (told.Known id) valuing.Untyped)
    → is_type id ≡ false → can_be_spelled x ≡ true → IsWay old.setting old.config.learned (rules_of old.setting old.config) choice.way
attribute_way old choice id n x special on string can =
    special_way old (content.Attribute (told.Known id) valuing.Untyped) (of_attribute (Some id) n (shape.text x)) (attribute (known id) untyped) choice special on (string_fits old id n x string can)

attribute_begun : ChosenSuits → (old : Page) (choice : Choice) (id : NameId) (n : QName) (x : List ℕ) (toll : Charged) → IsReady old → IsSpecial old (content.Attribute (told.Known id) valuing.Untyped) choice → alone_in old.config.elements old.config.outer ≡ nowhere
    → Some (rule_in choice.rule).on ≡ special_terminal (content.Attribute (told.Known id) valuing.Untyped) → is_type id ≡ false → can_be_spelled x ≡ true
    → IsBegun (attribute_wanted (told.Known id) n (shape.text x)) old (way_page old choice.way) toll (charge_event true toll) choice.rule
attribute_begun law old choice id n x toll ready special inside on string can =
    special_begun law old (content.Attribute (told.Known id) valuing.Untyped) (of_attribute (Some id) n (shape.text x)) (attribute (known id) untyped) choice toll (charge_event true toll) ready special inside on (string_fits old id n x string can)
    (record { free = refl; placed = refl }) refl (level_none (charge_event true toll))

pub attribute_writes : ChosenSuits → (r : Result (Unit {0}) PutStop) (old new : Page) (owed : Charged) (choice : Choice) (id : NameId) (n : QName) (x : List ℕ) → IsReady old → IsSpecial old (content.Attribute (told.Known id) valuing.Untyped) choice
    → alone_in old.config.elements old.config.outer ≡ nowhere → Some (rule_in choice.rule).on ≡ special_terminal (content.Attribute (told.Known id) valuing.Untyped) → told_of old.config.tables n ≡ told.Known id → is_whole old n ≡ true → is_type id ≡ false → can_be_spelled x ≡ true
    → owed ≡ charge (length x ∷ []) (charge (name_units n) (charge_event true (Ok old.config.meter)))
    → Ends r new owed (attribute_page (told_in (rule_in choice.rule).on) (valuing_on (rule_in choice.rule).on) (rule_in choice.rule).to id (shape.text x) (text_page id x (way_page old choice.way)))
    → Writes {X = Unit {0}} r old new (by_chosen old.setting old.config (event.at n (shape.text x)))
attribute_writes law r old new owed choice id n x ready special inside on tells whole string can paid page =
    let rule : Rule = rule_in choice.rule in
    let v : Value = shape.text x in
    let at : rule.on ≡ attribute (known id) untyped = terminal_is rule.on (attribute (known id) untyped) on in
    let mid : Page = way_page old choice.way in
    let toll : Charged = Ok old.config.meter in
    let named_toll : Charged = charge (name_units n) (charge_event true toll) in
    let declared : declared_in old.setting.schema (valuing_on rule.on) (Some id) n ≡ by_datatype datatype.text =
    ap (λ (t : Terminal). declared_in old.setting.schema (valuing_on t) (Some id) n) at ∙ string_declared old id n string in
    let k : HasName (told.Known id) (told.Known id) n v v old mid (next mid mid.bits mid.config.tables) toll (charge_event true toll) named_toll choice.rule id (by_datatype datatype.text) = record {
      ready = ready;
      toll_is = refl;
      begun = attribute_begun law old choice id n x toll ready special inside on string can;
      own_is = sym tells;
      tells = sym (ap told_in at);
      fits = has_spelling v x refl can ∙ ap (λ (d : Declared). fit_as d v) (sym declared);
      put = name_put mid id n (charge_event true toll) tells whole;
      id_is = name_id mid id n;
      declared = sym declared;
    } in
    attribute_ends (told.Known id) (told.Known id) n v v old mid (next mid mid.bits mid.config.tables) toll (charge_event true toll) named_toll choice.rule id (by_datatype datatype.text) k
    r (text_page id x mid) new owed (text_put mid id x datatype.text named_toll owed can refl paid) page

-- written behind the code, and gone on
untyped_effect : (old : Page) (id : NameId) (v : Value) → is_type id ≡ false → effect_of old.setting untyped id v ≡ leads
untyped_effect old id v string = ap (λ (b : Bool). cond b (type_effect leads (named_type old.setting v)) leads) string

pub attributed_paid : (u : Unit {0}) (old paid last new : Page) (owed : Charged) (r : Rule) (id : NameId) (x : List ℕ) → Ends (Ok u) paid owed (paid_page old) → last ≡ text_page id x paid → new ≡ at_config last (moves r.to last.config) → is_type id ≡ false
    → Some r.on ≡ special_terminal (content.Attribute (told.Known id) valuing.Untyped) → Ends (Ok u) new owed (attribute_page (told_in r.on) (valuing_on r.on) r.to id (shape.text x) (text_page id x old))
attributed_paid u old paid last new owed r id x h put page string on =
    let p : Page = text_page id x old in (
      h.0,
      h.1,
      page ∙ (ap (λ (q : Page). at_config q (moves r.to q.config)) (put ∙ ap (text_page id x) h.2)
          ∙ (ap (λ (e : Effect). at_config p (effected e r.to (learned_config (known id) (used.At id) (paid_config h.0 p.config)))) (sym (untyped_effect p id (shape.text x) string))
          ∙ ap (λ (t : Terminal). attribute_page (told_in t) (valuing_on t) r.to id (shape.text x) p h.0) (sym (terminal_is r.on (attribute (known id) untyped) on)))),
    )

-- the name stands in the tables
pub known_paid : (old new : Page) (choice : Choice) (id : NameId) (n : QName) → told_of old.config.tables n ≡ told.Known id → (m : Metering) → new ≡ paid_page (way_page old choice.way) m → IsName new.config.tables id
known_paid old new choice id n tells m page = subst (λ (p : Page). IsName p.config.tables id) (sym page) (putting.told_name old.config.tables n id tells)
