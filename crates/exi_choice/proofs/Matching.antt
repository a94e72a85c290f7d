-- Which productions suit an event, and that those that do have a spelling of it together or not at all.
use Rattle.std.proofs.Common.{◌≡◌, Bool, true, false, ◌&&◌, Option, Some, None, refl, sym, ap, ◌∙◌, subst}
use Rattle.std.specs.Option.{is_none, is_some}
use Rattle.std.proofs.lemmas.Bool.{and_parts}
use Rattle.exi_bits.specs.declared.fault.Kind.{Kind as Fault}
use Rattle.exi_gram.specs.Switches.{align_of, prefixes}
use Rattle.exi_names.specs.Datatypes.{Representation}
use Rattle.exi_names.specs.declared.names.QName.{QName}
use Rattle.exi_names.specs.Events.{Happening}
use Rattle.exi_names.specs.Events as event
use Rattle.exi_names.specs.Seen.{Value}
use Rattle.exi_names.specs.StartTables.{IsStart}
use Rattle.exi_tables.specs.Growth.{KeepsAll}
use Rattle.exi_tables.specs.Partitions.{Partitions, uris}
use Rattle.exi_tables.specs.Partitions.{prefixes as table_prefixes}
use Rattle.exi_typed.specs.Strings.{Named}
use Rattle.exi_typed.specs.Written.{after_local, after_name, prefix_bits, under_bits}
use Rattle.exi_typed.specs.WrittenLaws.{name_units, named_for}
use Rattle.exi_processing.specs.Changes.{innermost}
use Rattle.exi_processing.specs.Configurations.{Config, Setting, first_tables}
use Rattle.exi_processing.specs.Plans.{Plan, alone_in, barred_in, no_element, plan_on, wrong_element}
use Rattle.exi_processing.specs.Rules.{Rule, Telling, Terminal, Valuing, attribute, characters, comment, declaration, document_type, element, end_document, end_element, entity, instruction, known, self_contained, spelled, start_document, under}
use Rattle.exi_processing.specs.Sound.{FitsTelling}
use Rattle.exi_processing.specs.declared.rule.Valuing.TheVariants as kind
use Rattle.exi_writing.specs.Contents.{attribute_by, attribute_value, told_name, valued, written_on}
use Rattle.exi_writing.specs.OneEvent.{is_taken}
use Rattle.exi_writing.specs.Pieces as piece
use Rattle.exi_writing.specs.Pieces.{Piece, Writing, both_by, can_be_spelled, can_know, can_know_under, can_name, can_tell, if_spelled, is_at, named_under, stands_at}
use Rattle.exi_choice.specs.Fitting.{declared_in, fit_as, fit_for, fit_in}
use Rattle.exi_choice.specs.Wanted.{is_of, is_told, place_told, seeking, told_of}
use Rattle.exi_choice.proofs.EventKinds.{only_attribute, only_characters, only_comment, only_declaration, only_document_type, only_element, only_end_document, only_end_element, only_entity, only_instruction, only_self_contained, only_start_document}
use Rattle.exi_choice.proofs.ToldNames.{known_stands, nil_is, tells_so, type_is, under_stands}
use Rattle.exi_choice.proofs.FittedValues.{acting, can_stand, fit_is, fit_spelled, spelled_fit, valued_fits}

-- ---- whether a production may stand
abbrev pub on_plan : Setting → Config → Rule → Terminal → Plan
on_plan g c r t = plan_on g (alone_in c.elements c.outer) c r t

abbrev pub matches_on : Setting → Config → Happening → Rule → Terminal → Bool
matches_on g c e r t = is_none (on_plan g c r t).barred && is_none (on_plan g c r t).misplaced && is_taken (on_plan g c r t).refused (written_on g (alone_in c.elements c.outer) c r t e c.tables)

no_third : (a b : Bool) → (a && b && false) ≡ true → ⊥
no_third true true h = cc
no_third true false h = cc
no_third false b h = cc

third : (a b d : Bool) → (a && b && d) ≡ true → d ≡ true
third true true d h = h
third true false d h = absurd cc
third false b d h = absurd cc

taken_spelled : {X : Type 0} (refused : X → Option Fault) (b : Bool) (w : Piece X) → is_taken refused (if_spelled b w) ≡ true → b ≡ true
taken_spelled {X} refused true w h = refl
taken_spelled {X} refused false w h = absurd cc

both_spelled : {X Y : Type 0} (refused : X × Y → Option Fault) (two : X → Writing Y) (b : Bool) (w : Piece X) → is_taken refused (both_by two (if_spelled b w)) ≡ true → b ≡ true
both_spelled {X} {Y} refused two true w h = refl
both_spelled {X} {Y} refused two false w h = absurd cc

element_stands : (g : Setting) (c : Config) (r : Rule) (t : Telling) (n : QName) → FitsTelling c.tables t → matches_on g c (event.se n) r (element t) ≡ true → is_told (told_of c.tables n) t ≡ true
element_stands g c r spelled n fit h = refl
element_stands g c r (under uri) n fit h =
    let k = taken_spelled (on_plan g c r (element (under uri))).refused (can_know_under (prefixes g.options) c.tables uri n) (record { item = named_under c.tables uri n; bits = under_bits (prefixes g.options) (align_of g.options) c.tables uri n.local n.prefix; tables = after_local c.tables uri n.local; units = name_units n }) (third (is_none (on_plan g c r (element (under uri))).barred) (is_none (on_plan g c r (element (under uri))).misplaced) (is_taken (on_plan g c r (element (under uri))).refused (told_name g (under uri) n c.tables)) h) in
    under_stands c.tables uri n fit (and_parts (stands_at (uris c.tables) uri n.uri) (can_be_spelled n.uri && (can_be_spelled n.local && can_tell (prefixes g.options) (table_prefixes c.tables uri) n.prefix)) k).0
element_stands g c r (known id) n fit h =
    let k = taken_spelled (on_plan g c r (element (known id))).refused (is_at c.tables id n && can_know (prefixes g.options) c.tables id n) (record { item = record { id = id; name = n }; bits = prefix_bits (prefixes g.options) (align_of g.options) c.tables id.uri n.prefix; tables = c.tables; units = name_units n }) (third (is_none (on_plan g c r (element (known id))).barred) (is_none (on_plan g c r (element (known id))).misplaced) (is_taken (on_plan g c r (element (known id))).refused (told_name g (known id) n c.tables)) h) in
    known_stands c.tables id n fit (and_parts (is_at c.tables id n) (can_know (prefixes g.options) c.tables id n) k).0

attribute_stands : (g : Setting) (c : Config) (r : Rule) (t : Telling) (u : Valuing) (n : QName) (v : Value) → FitsTelling c.tables t → matches_on g c (event.at n v) r (attribute t u) ≡ true → is_told (told_of c.tables n) t ≡ true
attribute_stands g c r spelled u n v fit h = refl
attribute_stands g c r (under uri) u n v fit h =
    let k = both_spelled (on_plan g c r (attribute (under uri) u)).refused (λ (name : Named). attribute_value g u name v) (can_know_under (prefixes g.options) c.tables uri n) (record { item = named_under c.tables uri n; bits = under_bits (prefixes g.options) (align_of g.options) c.tables uri n.local n.prefix; tables = after_local c.tables uri n.local; units = name_units n }) (third (is_none (on_plan g c r (attribute (under uri) u)).barred) (is_none (on_plan g c r (attribute (under uri) u)).misplaced) (is_taken (on_plan g c r (attribute (under uri) u)).refused (attribute_by g (under uri) u (n, v) c.tables)) h) in
    under_stands c.tables uri n fit (and_parts (stands_at (uris c.tables) uri n.uri) (can_be_spelled n.uri && (can_be_spelled n.local && can_tell (prefixes g.options) (table_prefixes c.tables uri) n.prefix)) k).0
attribute_stands g c r (known id) u n v fit h =
    let k = both_spelled (on_plan g c r (attribute (known id) u)).refused (λ (name : Named). attribute_value g u name v) (is_at c.tables id n && can_know (prefixes g.options) c.tables id n) (record { item = record { id = id; name = n }; bits = prefix_bits (prefixes g.options) (align_of g.options) c.tables id.uri n.prefix; tables = c.tables; units = name_units n }) (third (is_none (on_plan g c r (attribute (known id) u)).barred) (is_none (on_plan g c r (attribute (known id) u)).misplaced) (is_taken (on_plan g c r (attribute (known id) u)).refused (attribute_by g (known id) u (n, v) c.tables)) h) in
    known_stands c.tables id n fit (and_parts (is_at c.tables id n) (can_know (prefixes g.options) c.tables id n) k).0

-- what a code tells of a name stands at the least place of its text
abbrev pub NamesFit : Partitions → Terminal → Type 0
NamesFit p start_document = Unit {0}
NamesFit p end_document = Unit {0}
NamesFit p (element t) = FitsTelling p t
NamesFit p (attribute t u) = FitsTelling p t
NamesFit p (characters d) = Unit {0}
NamesFit p end_element = Unit {0}
NamesFit p declaration = Unit {0}
NamesFit p self_contained = Unit {0}
NamesFit p comment = Unit {0}
NamesFit p instruction = Unit {0}
NamesFit p document_type = Unit {0}
NamesFit p entity = Unit {0}

-- what may stand for an event is of its kind, and of its name
pub may_stand : (g : Setting) (c : Config) (r : Rule) (t : Terminal) (e : Happening) → NamesFit c.tables t → matches_on g c e r t ≡ true → is_of (seeking c.tables e).on t ≡ true
may_stand g c r start_document event.sd fit h = refl
may_stand g c r start_document event.ed fit h = absurd (no_third (is_none (on_plan g c r start_document).barred) (is_none (on_plan g c r start_document).misplaced) h)
may_stand g c r start_document (event.se n) fit h = absurd (no_third (is_none (on_plan g c r start_document).barred) (is_none (on_plan g c r start_document).misplaced) h)
may_stand g c r start_document event.ee fit h = absurd (no_third (is_none (on_plan g c r start_document).barred) (is_none (on_plan g c r start_document).misplaced) h)
may_stand g c r start_document (event.at n v) fit h = absurd (no_third (is_none (on_plan g c r start_document).barred) (is_none (on_plan g c r start_document).misplaced) h)
may_stand g c r start_document (event.ch v) fit h = absurd (no_third (is_none (on_plan g c r start_document).barred) (is_none (on_plan g c r start_document).misplaced) h)
may_stand g c r start_document (event.ns uri prefix own) fit h = absurd (no_third (is_none (on_plan g c r start_document).barred) (is_none (on_plan g c r start_document).misplaced) h)
may_stand g c r start_document (event.sc byte) fit h = absurd (no_third (is_none (on_plan g c r start_document).barred) (is_none (on_plan g c r start_document).misplaced) h)
may_stand g c r start_document (event.cm x) fit h = absurd (no_third (is_none (on_plan g c r start_document).barred) (is_none (on_plan g c r start_document).misplaced) h)
may_stand g c r start_document (event.pi target x) fit h = absurd (no_third (is_none (on_plan g c r start_document).barred) (is_none (on_plan g c r start_document).misplaced) h)
may_stand g c r start_document (event.dt name public system x) fit h = absurd (no_third (is_none (on_plan g c r start_document).barred) (is_none (on_plan g c r start_document).misplaced) h)
may_stand g c r start_document (event.er name) fit h = absurd (no_third (is_none (on_plan g c r start_document).barred) (is_none (on_plan g c r start_document).misplaced) h)
may_stand g c r end_document event.sd fit h = absurd (no_third (is_none (on_plan g c r end_document).barred) (is_none (on_plan g c r end_document).misplaced) h)
may_stand g c r end_document event.ed fit h = refl
may_stand g c r end_document (event.se n) fit h = absurd (no_third (is_none (on_plan g c r end_document).barred) (is_none (on_plan g c r end_document).misplaced) h)
may_stand g c r end_document event.ee fit h = absurd (no_third (is_none (on_plan g c r end_document).barred) (is_none (on_plan g c r end_document).misplaced) h)
may_stand g c r end_document (event.at n v) fit h = absurd (no_third (is_none (on_plan g c r end_document).barred) (is_none (on_plan g c r end_document).misplaced) h)
may_stand g c r end_document (event.ch v) fit h = absurd (no_third (is_none (on_plan g c r end_document).barred) (is_none (on_plan g c r end_document).misplaced) h)
may_stand g c r end_document (event.ns uri prefix own) fit h = absurd (no_third (is_none (on_plan g c r end_document).barred) (is_none (on_plan g c r end_document).misplaced) h)
may_stand g c r end_document (event.sc byte) fit h = absurd (no_third (is_none (on_plan g c r end_document).barred) (is_none (on_plan g c r end_document).misplaced) h)
may_stand g c r end_document (event.cm x) fit h = absurd (no_third (is_none (on_plan g c r end_document).barred) (is_none (on_plan g c r end_document).misplaced) h)
may_stand g c r end_document (event.pi target x) fit h = absurd (no_third (is_none (on_plan g c r end_document).barred) (is_none (on_plan g c r end_document).misplaced) h)
may_stand g c r end_document (event.dt name public system x) fit h = absurd (no_third (is_none (on_plan g c r end_document).barred) (is_none (on_plan g c r end_document).misplaced) h)
may_stand g c r end_document (event.er name) fit h = absurd (no_third (is_none (on_plan g c r end_document).barred) (is_none (on_plan g c r end_document).misplaced) h)
may_stand g c r (element t) event.sd fit h = absurd (no_third (is_none (on_plan g c r (element t)).barred) (is_none (on_plan g c r (element t)).misplaced) h)
may_stand g c r (element t) event.ed fit h = absurd (no_third (is_none (on_plan g c r (element t)).barred) (is_none (on_plan g c r (element t)).misplaced) h)
may_stand g c r (element t) (event.se n) fit h = element_stands g c r t n fit h
may_stand g c r (element t) event.ee fit h = absurd (no_third (is_none (on_plan g c r (element t)).barred) (is_none (on_plan g c r (element t)).misplaced) h)
may_stand g c r (element t) (event.at n v) fit h = absurd (no_third (is_none (on_plan g c r (element t)).barred) (is_none (on_plan g c r (element t)).misplaced) h)
may_stand g c r (element t) (event.ch v) fit h = absurd (no_third (is_none (on_plan g c r (element t)).barred) (is_none (on_plan g c r (element t)).misplaced) h)
may_stand g c r (element t) (event.ns uri prefix own) fit h = absurd (no_third (is_none (on_plan g c r (element t)).barred) (is_none (on_plan g c r (element t)).misplaced) h)
may_stand g c r (element t) (event.sc byte) fit h = absurd (no_third (is_none (on_plan g c r (element t)).barred) (is_none (on_plan g c r (element t)).misplaced) h)
may_stand g c r (element t) (event.cm x) fit h = absurd (no_third (is_none (on_plan g c r (element t)).barred) (is_none (on_plan g c r (element t)).misplaced) h)
may_stand g c r (element t) (event.pi target x) fit h = absurd (no_third (is_none (on_plan g c r (element t)).barred) (is_none (on_plan g c r (element t)).misplaced) h)
may_stand g c r (element t) (event.dt name public system x) fit h = absurd (no_third (is_none (on_plan g c r (element t)).barred) (is_none (on_plan g c r (element t)).misplaced) h)
may_stand g c r (element t) (event.er name) fit h = absurd (no_third (is_none (on_plan g c r (element t)).barred) (is_none (on_plan g c r (element t)).misplaced) h)
may_stand g c r (attribute t u) event.sd fit h = absurd (no_third (is_none (on_plan g c r (attribute t u)).barred) (is_none (on_plan g c r (attribute t u)).misplaced) h)
may_stand g c r (attribute t u) event.ed fit h = absurd (no_third (is_none (on_plan g c r (attribute t u)).barred) (is_none (on_plan g c r (attribute t u)).misplaced) h)
may_stand g c r (attribute t u) (event.se n) fit h = absurd (no_third (is_none (on_plan g c r (attribute t u)).barred) (is_none (on_plan g c r (attribute t u)).misplaced) h)
may_stand g c r (attribute t u) event.ee fit h = absurd (no_third (is_none (on_plan g c r (attribute t u)).barred) (is_none (on_plan g c r (attribute t u)).misplaced) h)
may_stand g c r (attribute t u) (event.at n v) fit h = attribute_stands g c r t u n v fit h
may_stand g c r (attribute t u) (event.ch v) fit h = absurd (no_third (is_none (on_plan g c r (attribute t u)).barred) (is_none (on_plan g c r (attribute t u)).misplaced) h)
may_stand g c r (attribute t u) (event.ns uri prefix own) fit h = absurd (no_third (is_none (on_plan g c r (attribute t u)).barred) (is_none (on_plan g c r (attribute t u)).misplaced) h)
may_stand g c r (attribute t u) (event.sc byte) fit h = absurd (no_third (is_none (on_plan g c r (attribute t u)).barred) (is_none (on_plan g c r (attribute t u)).misplaced) h)
may_stand g c r (attribute t u) (event.cm x) fit h = absurd (no_third (is_none (on_plan g c r (attribute t u)).barred) (is_none (on_plan g c r (attribute t u)).misplaced) h)
may_stand g c r (attribute t u) (event.pi target x) fit h = absurd (no_third (is_none (on_plan g c r (attribute t u)).barred) (is_none (on_plan g c r (attribute t u)).misplaced) h)
may_stand g c r (attribute t u) (event.dt name public system x) fit h = absurd (no_third (is_none (on_plan g c r (attribute t u)).barred) (is_none (on_plan g c r (attribute t u)).misplaced) h)
may_stand g c r (attribute t u) (event.er name) fit h = absurd (no_third (is_none (on_plan g c r (attribute t u)).barred) (is_none (on_plan g c r (attribute t u)).misplaced) h)
may_stand g c r (characters d) event.sd fit h = absurd (no_third (is_none (on_plan g c r (characters d)).barred) (is_none (on_plan g c r (characters d)).misplaced) h)
may_stand g c r (characters d) event.ed fit h = absurd (no_third (is_none (on_plan g c r (characters d)).barred) (is_none (on_plan g c r (characters d)).misplaced) h)
may_stand g c r (characters d) (event.se n) fit h = absurd (no_third (is_none (on_plan g c r (characters d)).barred) (is_none (on_plan g c r (characters d)).misplaced) h)
may_stand g c r (characters d) event.ee fit h = absurd (no_third (is_none (on_plan g c r (characters d)).barred) (is_none (on_plan g c r (characters d)).misplaced) h)
may_stand g c r (characters d) (event.at n v) fit h = absurd (no_third (is_none (on_plan g c r (characters d)).barred) (is_none (on_plan g c r (characters d)).misplaced) h)
may_stand g c r (characters d) (event.ch v) fit h = refl
may_stand g c r (characters d) (event.ns uri prefix own) fit h = absurd (no_third (is_none (on_plan g c r (characters d)).barred) (is_none (on_plan g c r (characters d)).misplaced) h)
may_stand g c r (characters d) (event.sc byte) fit h = absurd (no_third (is_none (on_plan g c r (characters d)).barred) (is_none (on_plan g c r (characters d)).misplaced) h)
may_stand g c r (characters d) (event.cm x) fit h = absurd (no_third (is_none (on_plan g c r (characters d)).barred) (is_none (on_plan g c r (characters d)).misplaced) h)
may_stand g c r (characters d) (event.pi target x) fit h = absurd (no_third (is_none (on_plan g c r (characters d)).barred) (is_none (on_plan g c r (characters d)).misplaced) h)
may_stand g c r (characters d) (event.dt name public system x) fit h = absurd (no_third (is_none (on_plan g c r (characters d)).barred) (is_none (on_plan g c r (characters d)).misplaced) h)
may_stand g c r (characters d) (event.er name) fit h = absurd (no_third (is_none (on_plan g c r (characters d)).barred) (is_none (on_plan g c r (characters d)).misplaced) h)
may_stand g c r end_element event.sd fit h = absurd (no_third (is_none (on_plan g c r end_element).barred) (is_none (on_plan g c r end_element).misplaced) h)
may_stand g c r end_element event.ed fit h = absurd (no_third (is_none (on_plan g c r end_element).barred) (is_none (on_plan g c r end_element).misplaced) h)
may_stand g c r end_element (event.se n) fit h = absurd (no_third (is_none (on_plan g c r end_element).barred) (is_none (on_plan g c r end_element).misplaced) h)
may_stand g c r end_element event.ee fit h = refl
may_stand g c r end_element (event.at n v) fit h = absurd (no_third (is_none (on_plan g c r end_element).barred) (is_none (on_plan g c r end_element).misplaced) h)
may_stand g c r end_element (event.ch v) fit h = absurd (no_third (is_none (on_plan g c r end_element).barred) (is_none (on_plan g c r end_element).misplaced) h)
may_stand g c r end_element (event.ns uri prefix own) fit h = absurd (no_third (is_none (on_plan g c r end_element).barred) (is_none (on_plan g c r end_element).misplaced) h)
may_stand g c r end_element (event.sc byte) fit h = absurd (no_third (is_none (on_plan g c r end_element).barred) (is_none (on_plan g c r end_element).misplaced) h)
may_stand g c r end_element (event.cm x) fit h = absurd (no_third (is_none (on_plan g c r end_element).barred) (is_none (on_plan g c r end_element).misplaced) h)
may_stand g c r end_element (event.pi target x) fit h = absurd (no_third (is_none (on_plan g c r end_element).barred) (is_none (on_plan g c r end_element).misplaced) h)
may_stand g c r end_element (event.dt name public system x) fit h = absurd (no_third (is_none (on_plan g c r end_element).barred) (is_none (on_plan g c r end_element).misplaced) h)
may_stand g c r end_element (event.er name) fit h = absurd (no_third (is_none (on_plan g c r end_element).barred) (is_none (on_plan g c r end_element).misplaced) h)
may_stand g c r declaration event.sd fit h = absurd (no_third (is_none (on_plan g c r declaration).barred) (is_none (on_plan g c r declaration).misplaced) h)
may_stand g c r declaration event.ed fit h = absurd (no_third (is_none (on_plan g c r declaration).barred) (is_none (on_plan g c r declaration).misplaced) h)
may_stand g c r declaration (event.se n) fit h = absurd (no_third (is_none (on_plan g c r declaration).barred) (is_none (on_plan g c r declaration).misplaced) h)
may_stand g c r declaration event.ee fit h = absurd (no_third (is_none (on_plan g c r declaration).barred) (is_none (on_plan g c r declaration).misplaced) h)
may_stand g c r declaration (event.at n v) fit h = absurd (no_third (is_none (on_plan g c r declaration).barred) (is_none (on_plan g c r declaration).misplaced) h)
may_stand g c r declaration (event.ch v) fit h = absurd (no_third (is_none (on_plan g c r declaration).barred) (is_none (on_plan g c r declaration).misplaced) h)
may_stand g c r declaration (event.ns uri prefix own) fit h = refl
may_stand g c r declaration (event.sc byte) fit h = absurd (no_third (is_none (on_plan g c r declaration).barred) (is_none (on_plan g c r declaration).misplaced) h)
may_stand g c r declaration (event.cm x) fit h = absurd (no_third (is_none (on_plan g c r declaration).barred) (is_none (on_plan g c r declaration).misplaced) h)
may_stand g c r declaration (event.pi target x) fit h = absurd (no_third (is_none (on_plan g c r declaration).barred) (is_none (on_plan g c r declaration).misplaced) h)
may_stand g c r declaration (event.dt name public system x) fit h = absurd (no_third (is_none (on_plan g c r declaration).barred) (is_none (on_plan g c r declaration).misplaced) h)
may_stand g c r declaration (event.er name) fit h = absurd (no_third (is_none (on_plan g c r declaration).barred) (is_none (on_plan g c r declaration).misplaced) h)
may_stand g c r self_contained event.sd fit h = absurd (no_third (is_none (on_plan g c r self_contained).barred) (is_none (on_plan g c r self_contained).misplaced) h)
may_stand g c r self_contained event.ed fit h = absurd (no_third (is_none (on_plan g c r self_contained).barred) (is_none (on_plan g c r self_contained).misplaced) h)
may_stand g c r self_contained (event.se n) fit h = absurd (no_third (is_none (on_plan g c r self_contained).barred) (is_none (on_plan g c r self_contained).misplaced) h)
may_stand g c r self_contained event.ee fit h = absurd (no_third (is_none (on_plan g c r self_contained).barred) (is_none (on_plan g c r self_contained).misplaced) h)
may_stand g c r self_contained (event.at n v) fit h = absurd (no_third (is_none (on_plan g c r self_contained).barred) (is_none (on_plan g c r self_contained).misplaced) h)
may_stand g c r self_contained (event.ch v) fit h = absurd (no_third (is_none (on_plan g c r self_contained).barred) (is_none (on_plan g c r self_contained).misplaced) h)
may_stand g c r self_contained (event.ns uri prefix own) fit h = absurd (no_third (is_none (on_plan g c r self_contained).barred) (is_none (on_plan g c r self_contained).misplaced) h)
may_stand g c r self_contained (event.sc byte) fit h = refl
may_stand g c r self_contained (event.cm x) fit h = absurd (no_third (is_none (on_plan g c r self_contained).barred) (is_none (on_plan g c r self_contained).misplaced) h)
may_stand g c r self_contained (event.pi target x) fit h = absurd (no_third (is_none (on_plan g c r self_contained).barred) (is_none (on_plan g c r self_contained).misplaced) h)
may_stand g c r self_contained (event.dt name public system x) fit h = absurd (no_third (is_none (on_plan g c r self_contained).barred) (is_none (on_plan g c r self_contained).misplaced) h)
may_stand g c r self_contained (event.er name) fit h = absurd (no_third (is_none (on_plan g c r self_contained).barred) (is_none (on_plan g c r self_contained).misplaced) h)
may_stand g c r comment event.sd fit h = absurd (no_third (is_none (on_plan g c r comment).barred) (is_none (on_plan g c r comment).misplaced) h)
may_stand g c r comment event.ed fit h = absurd (no_third (is_none (on_plan g c r comment).barred) (is_none (on_plan g c r comment).misplaced) h)
may_stand g c r comment (event.se n) fit h = absurd (no_third (is_none (on_plan g c r comment).barred) (is_none (on_plan g c r comment).misplaced) h)
may_stand g c r comment event.ee fit h = absurd (no_third (is_none (on_plan g c r comment).barred) (is_none (on_plan g c r comment).misplaced) h)
may_stand g c r comment (event.at n v) fit h = absurd (no_third (is_none (on_plan g c r comment).barred) (is_none (on_plan g c r comment).misplaced) h)
may_stand g c r comment (event.ch v) fit h = absurd (no_third (is_none (on_plan g c r comment).barred) (is_none (on_plan g c r comment).misplaced) h)
may_stand g c r comment (event.ns uri prefix own) fit h = absurd (no_third (is_none (on_plan g c r comment).barred) (is_none (on_plan g c r comment).misplaced) h)
may_stand g c r comment (event.sc byte) fit h = absurd (no_third (is_none (on_plan g c r comment).barred) (is_none (on_plan g c r comment).misplaced) h)
may_stand g c r comment (event.cm x) fit h = refl
may_stand g c r comment (event.pi target x) fit h = absurd (no_third (is_none (on_plan g c r comment).barred) (is_none (on_plan g c r comment).misplaced) h)
may_stand g c r comment (event.dt name public system x) fit h = absurd (no_third (is_none (on_plan g c r comment).barred) (is_none (on_plan g c r comment).misplaced) h)
may_stand g c r comment (event.er name) fit h = absurd (no_third (is_none (on_plan g c r comment).barred) (is_none (on_plan g c r comment).misplaced) h)
may_stand g c r instruction event.sd fit h = absurd (no_third (is_none (on_plan g c r instruction).barred) (is_none (on_plan g c r instruction).misplaced) h)
may_stand g c r instruction event.ed fit h = absurd (no_third (is_none (on_plan g c r instruction).barred) (is_none (on_plan g c r instruction).misplaced) h)
may_stand g c r instruction (event.se n) fit h = absurd (no_third (is_none (on_plan g c r instruction).barred) (is_none (on_plan g c r instruction).misplaced) h)
may_stand g c r instruction event.ee fit h = absurd (no_third (is_none (on_plan g c r instruction).barred) (is_none (on_plan g c r instruction).misplaced) h)
may_stand g c r instruction (event.at n v) fit h = absurd (no_third (is_none (on_plan g c r instruction).barred) (is_none (on_plan g c r instruction).misplaced) h)
may_stand g c r instruction (event.ch v) fit h = absurd (no_third (is_none (on_plan g c r instruction).barred) (is_none (on_plan g c r instruction).misplaced) h)
may_stand g c r instruction (event.ns uri prefix own) fit h = absurd (no_third (is_none (on_plan g c r instruction).barred) (is_none (on_plan g c r instruction).misplaced) h)
may_stand g c r instruction (event.sc byte) fit h = absurd (no_third (is_none (on_plan g c r instruction).barred) (is_none (on_plan g c r instruction).misplaced) h)
may_stand g c r instruction (event.cm x) fit h = absurd (no_third (is_none (on_plan g c r instruction).barred) (is_none (on_plan g c r instruction).misplaced) h)
may_stand g c r instruction (event.pi target x) fit h = refl
may_stand g c r instruction (event.dt name public system x) fit h = absurd (no_third (is_none (on_plan g c r instruction).barred) (is_none (on_plan g c r instruction).misplaced) h)
may_stand g c r instruction (event.er name) fit h = absurd (no_third (is_none (on_plan g c r instruction).barred) (is_none (on_plan g c r instruction).misplaced) h)
may_stand g c r document_type event.sd fit h = absurd (no_third (is_none (on_plan g c r document_type).barred) (is_none (on_plan g c r document_type).misplaced) h)
may_stand g c r document_type event.ed fit h = absurd (no_third (is_none (on_plan g c r document_type).barred) (is_none (on_plan g c r document_type).misplaced) h)
may_stand g c r document_type (event.se n) fit h = absurd (no_third (is_none (on_plan g c r document_type).barred) (is_none (on_plan g c r document_type).misplaced) h)
may_stand g c r document_type event.ee fit h = absurd (no_third (is_none (on_plan g c r document_type).barred) (is_none (on_plan g c r document_type).misplaced) h)
may_stand g c r document_type (event.at n v) fit h = absurd (no_third (is_none (on_plan g c r document_type).barred) (is_none (on_plan g c r document_type).misplaced) h)
may_stand g c r document_type (event.ch v) fit h = absurd (no_third (is_none (on_plan g c r document_type).barred) (is_none (on_plan g c r document_type).misplaced) h)
may_stand g c r document_type (event.ns uri prefix own) fit h = absurd (no_third (is_none (on_plan g c r document_type).barred) (is_none (on_plan g c r document_type).misplaced) h)
may_stand g c r document_type (event.sc byte) fit h = absurd (no_third (is_none (on_plan g c r document_type).barred) (is_none (on_plan g c r document_type).misplaced) h)
may_stand g c r document_type (event.cm x) fit h = absurd (no_third (is_none (on_plan g c r document_type).barred) (is_none (on_plan g c r document_type).misplaced) h)
may_stand g c r document_type (event.pi target x) fit h = absurd (no_third (is_none (on_plan g c r document_type).barred) (is_none (on_plan g c r document_type).misplaced) h)
may_stand g c r document_type (event.dt name public system x) fit h = refl
may_stand g c r document_type (event.er name) fit h = absurd (no_third (is_none (on_plan g c r document_type).barred) (is_none (on_plan g c r document_type).misplaced) h)
may_stand g c r entity event.sd fit h = absurd (no_third (is_none (on_plan g c r entity).barred) (is_none (on_plan g c r entity).misplaced) h)
may_stand g c r entity event.ed fit h = absurd (no_third (is_none (on_plan g c r entity).barred) (is_none (on_plan g c r entity).misplaced) h)
may_stand g c r entity (event.se n) fit h = absurd (no_third (is_none (on_plan g c r entity).barred) (is_none (on_plan g c r entity).misplaced) h)
may_stand g c r entity event.ee fit h = absurd (no_third (is_none (on_plan g c r entity).barred) (is_none (on_plan g c r entity).misplaced) h)
may_stand g c r entity (event.at n v) fit h = absurd (no_third (is_none (on_plan g c r entity).barred) (is_none (on_plan g c r entity).misplaced) h)
may_stand g c r entity (event.ch v) fit h = absurd (no_third (is_none (on_plan g c r entity).barred) (is_none (on_plan g c r entity).misplaced) h)
may_stand g c r entity (event.ns uri prefix own) fit h = absurd (no_third (is_none (on_plan g c r entity).barred) (is_none (on_plan g c r entity).misplaced) h)
may_stand g c r entity (event.sc byte) fit h = absurd (no_third (is_none (on_plan g c r entity).barred) (is_none (on_plan g c r entity).misplaced) h)
may_stand g c r entity (event.cm x) fit h = absurd (no_third (is_none (on_plan g c r entity).barred) (is_none (on_plan g c r entity).misplaced) h)
may_stand g c r entity (event.pi target x) fit h = absurd (no_third (is_none (on_plan g c r entity).barred) (is_none (on_plan g c r entity).misplaced) h)
may_stand g c r entity (event.dt name public system x) fit h = absurd (no_third (is_none (on_plan g c r entity).barred) (is_none (on_plan g c r entity).misplaced) h)
may_stand g c r entity (event.er name) fit h = refl

-- ---- what it depends on whether it has a spelling
taken_if : {X : Type 0} (refused : X → Option Fault) (b : Bool) (w : Piece X) → is_taken refused (if_spelled b w) ≡ (b && is_none (refused w.item))
taken_if {X} refused true w = refl
taken_if {X} refused false w = refl

taken_some : {X : Type 0} (f : Option Fault) (o : Option (Piece X)) → is_taken (λ x. f) o ≡ (is_some o && is_none f)
taken_some {X} f None = refl
taken_some {X} f (Some w) = refl

taken_joined : {X Y : Type 0} (f : Option Fault) (w : Piece X) (o : Option (Piece Y)) → is_taken (λ x. f) (piece.joined w o) ≡ (is_some o && is_none f)
taken_joined {X} {Y} f w None = refl
taken_joined {X} {Y} f w (Some second) = refl

taken_both : {X Y : Type 0} (f : Option Fault) (two : X → Writing Y) (b : Bool) (w : Piece X) → is_taken (λ x. f) (both_by two (if_spelled b w)) ≡ (b && (is_some (two w.item w.tables) && is_none f))
taken_both {X} {Y} f two true w = taken_joined f w (two w.item w.tables)
taken_both {X} {Y} f two false w = refl

abbrev refusal : Config → Option Fault
refusal c = no_element (alone_in c.elements c.outer)

abbrev is_open : Config → Bool
is_open c = is_none (barred_in (alone_in c.elements c.outer))

element_matches : (g : Setting) (c : Config) (r : Rule) (n : QName) (t : Telling) → is_told (told_of c.tables n) t ≡ true
    → matches_on g c (event.se n) r (element t) ≡ (is_open c && true && (can_name (prefixes g.options) c.tables n && is_none (wrong_element (alone_in c.elements c.outer) c.aside n)))
element_matches g c r n t h =
    let s = tells_so g t n c.tables h in
    ap (λ (o : Option (Piece Named)). is_open c && true && is_taken (λ name. wrong_element (alone_in c.elements c.outer) c.aside name.name) o) s.is
    ∙ ap (λ (b : Bool). is_open c && true && b) (taken_if (λ (name : Named). wrong_element (alone_in c.elements c.outer) c.aside name.name) (can_name (prefixes g.options) c.tables n) (record { item = named_for c.tables n; bits = s.bits; tables = after_name c.tables n; units = name_units n }))

attribute_matches : (g : Setting) (c : Config) (r : Rule) (n : QName) (v : Value) (t : Telling) (u : Valuing) → is_told (told_of c.tables n) t ≡ true
    → matches_on g c (event.at n v) r (attribute t u) ≡ (is_open c && true && (can_name (prefixes g.options) c.tables n && (is_some (attribute_value g u (named_for c.tables n) v (after_name c.tables n)) && is_none (refusal c))))
attribute_matches g c r n v t u h =
    let s = tells_so g t n c.tables h in
    ap (λ (o : Option (Piece Named)). is_open c && true && is_taken (λ (x : Named × Value). refusal c) (both_by (λ name. attribute_value g u name v) o)) s.is
    ∙ ap (λ (b : Bool). is_open c && true && b) (taken_both (refusal c) (λ (name : Named). attribute_value g u name v) (can_name (prefixes g.options) c.tables n) (record { item = named_for c.tables n; bits = s.bits; tables = after_name c.tables n; units = name_units n }))

characters_match : (g : Setting) (c : Config) (r : Rule) (v : Value) (d : Representation) → matches_on g c (event.ch v) r (characters d) ≡ (is_open c && true && (is_some (fit_for d v) && is_none (refusal c)))
characters_match g c r v d =
    ap (λ (b : Bool). is_open c && true && b) (taken_some (refusal c) (valued g d (innermost c.elements) v c.tables))
    ∙ ap (λ (b : Bool). is_open c && true && (b && is_none (refusal c))) (valued_fits g d (innermost c.elements) v c.tables)

-- ---- what may stand for an event has a spelling of its value
module _ (g : Setting) (c : Config) (start : IsStart g.schema.names) (kept : KeepsAll (first_tables g) c.tables) where
  attribute_fit : (n : QName) (v : Value) (u : Valuing) → fit_as (declared_in g.schema u (place_told (told_of c.tables n)) n) v ≡ acting g u (named_for c.tables n) v
  attribute_fit n v u = fit_is g u (place_told (told_of c.tables n)) (named_for c.tables n) v (type_is g c.tables n start kept) (nil_is g c.tables n start kept)

  fifth : (a b d e f : Bool) → (a && b && (d && (e && f))) ≡ true → e ≡ true
  fifth a b d e f h = (and_parts e f (and_parts d (e && f) (third a b (d && (e && f)) h)).1).0

  attribute_fits : (r : Rule) (n : QName) (v : Value) (t : Telling) (u : Valuing) → is_told (told_of c.tables n) t ≡ true → matches_on g c (event.at n v) r (attribute t u) ≡ true → is_some (fit_as (declared_in g.schema u (place_told (told_of c.tables n)) n) v) ≡ true
  attribute_fits r n v t u h m =
      let e = fifth (is_open c) true (can_name (prefixes g.options) c.tables n) (is_some (attribute_value g u (named_for c.tables n) v (after_name c.tables n))) (is_none (refusal c)) (sym (attribute_matches g c r n v t u h) ∙ m) in
      ap (λ (o : Option Value). is_some o) (attribute_fit n v u) ∙ spelled_fit g u (named_for c.tables n) v (after_name c.tables n) e

  characters_fit : (r : Rule) (v : Value) (d : Representation) → matches_on g c (event.ch v) r (characters d) ≡ true → is_some (fit_for d v) ≡ true
  characters_fit r v d m = (and_parts (is_some (fit_for d v)) (is_none (refusal c)) (third (is_open c) true (is_some (fit_for d v) && is_none (refusal c)) (sym (characters_match g c r v d) ∙ m))).0

  abbrev Fits : Happening → Terminal → Type 0
  Fits e t = is_some (fit_in g.schema t (seeking c.tables e).having) ≡ true

  may_fit : (r : Rule) (t : Terminal) (e : Happening) → is_of (seeking c.tables e).on t ≡ true → matches_on g c e r t ≡ true → Fits e t
  may_fit r t event.sd h m = rw (only_start_document t h) refl
  may_fit r t event.ed h m = rw (only_end_document t h) refl
  may_fit r t event.ee h m = rw (only_end_element t h) refl
  may_fit r t (event.ns uri prefix own) h m = rw (only_declaration t h) refl
  may_fit r t (event.sc byte) h m = rw (only_self_contained t h) refl
  may_fit r t (event.cm x) h m = rw (only_comment t h) refl
  may_fit r t (event.pi target x) h m = rw (only_instruction t h) refl
  may_fit r t (event.dt name public system x) h m = rw (only_document_type t h) refl
  may_fit r t (event.er name) h m = rw (only_entity t h) refl
  may_fit r t (event.se n) h m = rw ((only_element (told_of c.tables n) t h).1) refl
  may_fit r t (event.ch v) h m =
      let a = only_characters t h in
      subst (Fits (event.ch v)) (sym a.1) (characters_fit r v a.0 (subst (λ (z : Terminal). matches_on g c (event.ch v) r z ≡ true) a.1 m))
  may_fit r t (event.at n v) h m =
      let a = only_attribute (told_of c.tables n) kind.Untyped t h in
      subst (Fits (event.at n v)) (sym a.2) (attribute_fits r n v a.0 a.1 a.3 (subst (λ (z : Terminal). matches_on g c (event.at n v) r z ≡ true) a.2 m))

  pub may_suit : (r : Rule) (t : Terminal) (e : Happening) → NamesFit c.tables t → matches_on g c e r t ≡ true → (is_of (seeking c.tables e).on t && is_some (fit_in g.schema t (seeking c.tables e).having)) ≡ true
  may_suit r t e fit m =
      let h = may_stand g c r t e fit m in
      rw (h) (may_fit r t e h m)

  -- ---- those that suit it have a spelling of it together
  attributes_same : (r q : Rule) (n : QName) (v : Value) (t s : Telling) (u w : Valuing) → is_told (told_of c.tables n) t ≡ true → is_told (told_of c.tables n) s ≡ true → Fits (event.at n v) (attribute t u) → Fits (event.at n v) (attribute s w) → matches_on g c (event.at n v) r (attribute t u) ≡ matches_on g c (event.at n v) q (attribute s w)
  attributes_same r q n v t s u w h k f d =
      attribute_matches g c r n v t u h
      ∙ ap (λ (b : Bool). is_open c && true && (can_name (prefixes g.options) c.tables n && (b && is_none (refusal c)))) (spelled_as u f ∙ sym (spelled_as w d))
      ∙ sym (attribute_matches g c q n v s w k)
    where
      spelled_as : (x : Valuing) → is_some (fit_as (declared_in g.schema x (place_told (told_of c.tables n)) n) v) ≡ true → is_some (attribute_value g x (named_for c.tables n) v (after_name c.tables n)) ≡ can_stand g v (after_name c.tables n)
      spelled_as x y = fit_spelled g x (named_for c.tables n) v (after_name c.tables n) (ap (λ (o : Option Value). is_some o) (sym (attribute_fit n v x)) ∙ y)

  characters_same : (r q : Rule) (v : Value) (d o : Representation) → is_some (fit_for d v) ≡ true → is_some (fit_for o v) ≡ true → matches_on g c (event.ch v) r (characters d) ≡ matches_on g c (event.ch v) q (characters o)
  characters_same r q v d o f k =
      characters_match g c r v d
      ∙ ap (λ (b : Bool). is_open c && true && (b && is_none (refusal c))) (f ∙ sym k)
      ∙ sym (characters_match g c q v o)

  pub stand_together : (r q : Rule) (t u : Terminal) (e : Happening) → is_of (seeking c.tables e).on t ≡ true → is_of (seeking c.tables e).on u ≡ true → Fits e t → Fits e u → matches_on g c e r t ≡ matches_on g c e q u
  stand_together r q t u event.sd h k f d = rw (only_start_document t h, only_start_document u k) refl
  stand_together r q t u event.ed h k f d = rw (only_end_document t h, only_end_document u k) refl
  stand_together r q t u event.ee h k f d = rw (only_end_element t h, only_end_element u k) refl
  stand_together r q t u (event.ns uri prefix own) h k f d = rw (only_declaration t h, only_declaration u k) refl
  stand_together r q t u (event.sc byte) h k f d = rw (only_self_contained t h, only_self_contained u k) refl
  stand_together r q t u (event.cm x) h k f d = rw (only_comment t h, only_comment u k) refl
  stand_together r q t u (event.pi target x) h k f d = rw (only_instruction t h, only_instruction u k) refl
  stand_together r q t u (event.dt name public system x) h k f d = rw (only_document_type t h, only_document_type u k) refl
  stand_together r q t u (event.er name) h k f d = rw (only_entity t h, only_entity u k) refl
  stand_together r q t u (event.se n) h k f d =
      let a = only_element (told_of c.tables n) t h in
      let b = only_element (told_of c.tables n) u k in
      rw (a.1, b.1) (element_matches g c r n a.0 a.2 ∙ sym (element_matches g c q n b.0 b.2))
  stand_together r q t u (event.ch v) h k f d =
      let a = only_characters t h in
      let b = only_characters u k in
      rw (a.1, b.1) (characters_same r q v a.0 b.0 (subst (Fits (event.ch v)) a.1 f) (subst (Fits (event.ch v)) b.1 d))
  stand_together r q t u (event.at n v) h k f d =
      let a = only_attribute (told_of c.tables n) kind.Untyped t h in
      let b = only_attribute (told_of c.tables n) kind.Untyped u k in
      rw (a.2, b.2) (attributes_same r q n v a.0 b.0 a.1 b.1 a.3 b.3 (subst (Fits (event.at n v)) a.2 f) (subst (Fits (event.at n v)) b.2 d))
