-- Events with a name: elements and attributes. What a name needs, and the name and the value behind one another.
use Rattle.std.proofs.Common.{◌≡◌, ◌≢◌, ◌-◌, ◌^◌, ℕ, zero, suc, Bool, true, false, ◌&&◌, cond, List, [], ◌∷◌, ◌++◌, Option, Some, None, refl, sym, ap, ◌∙◌, subst, inl, inr}
use Rattle.std.specs.Prelude.{Result, Ok, Err}
use Rattle.std.specs.Option.{is_none, option_copied}
use Rattle.std.proofs.lemmas.Bool.{cases_Bool}
use Rattle.exi_bits.specs.declared.fault.Kind.{Kind}
use Rattle.exi_gram.specs.Codes.{Coded, coded}
use Rattle.exi_gram.specs.Switches.{align_of, prefixes}
use Rattle.exi_builtin.specs.declared.learnable.Learned.{Learned}
use Rattle.exi_builtin.specs.declared.learnable.Learned.TheVariants as used
use Rattle.exi_meter.specs.Metering.{Metering, event_fits}
use Rattle.exi_names.specs.Datatypes.{Representation}
use Rattle.exi_names.specs.declared.datatype.Datatype.{Datatype}
use Rattle.exi_names.specs.declared.names.NameId.{NameId}
use Rattle.exi_names.specs.declared.names.QName.{QName}
use Rattle.exi_names.specs.Events as event
use Rattle.exi_names.specs.Seen.{Value}
use Rattle.exi_tables.specs.Growth.{NoneLonger}
use Rattle.exi_tables.specs.Partitions.{IsName, Partitions}
use Rattle.exi_typed.specs.Strings.{Named}
use Rattle.exi_typed.specs.Written.{after_local, after_name, name_bits, prefix_bits, under_bits}
use Rattle.exi_typed.specs.WrittenLaws.{name_units, named_for}
use Rattle.exi_processing.specs.Changes.{Effect, effected, emptied, innermost, leads, learns_name, moves, opened, opener, retyped, stays}
use Rattle.exi_processing.specs.Configurations.{Config, Setting, rules_of}
use Rattle.exi_processing.specs.Handing.{HasLevels, datatype_in, root_at, rule_in, telling_of, terminal_in}
use Rattle.exi_processing.specs.OneEvent.{remembered}
use Rattle.exi_processing.specs.Plans.{Alone, alone_in, at_end, at_first, at_start, element_made, is_event, nowhere, plan_of, wrong_element}
use Rattle.exi_processing.specs.Rules.{Rule, Telling, Terminal, characters, element, end_document, end_element, known, spelled, under}
use Rattle.exi_processing.specs.Sound.{FitsBook, FitsFragment, FitsIn, FitsOutside}
use Rattle.exi_processing.specs.declared.frames.Element.{Element}
use Rattle.exi_processing.specs.declared.frames.Outer.{Outer}
use Rattle.exi_processing.specs.declared.frames.Outer.TheVariants as outer
use Rattle.exi_processing.specs.declared.rule.Content.{Content}
use Rattle.exi_processing.specs.declared.rule.Content.TheVariants as content
use Rattle.exi_processing.specs.declared.rule.Rule.{Rule as Kept}
use Rattle.exi_processing.specs.declared.rule.Telling.{Telling as Told}
use Rattle.exi_processing.proofs.Steady.{open_name}
use Rattle.exi_writing.specs.Contents.{told_name}
use Rattle.exi_writing.specs.OneEvent.{by_code, is_taken, matches, not_derived}
use Rattle.exi_writing.specs.Pieces.{Piece, can_know, can_know_under, can_name, if_spelled, is_at, named_under}
use Rattle.exi_writing.proofs.OneEvent.{Stands, fewest_stands}
use Rattle.exi_toll.specs.Charges.{Charged, charge_event, charge_level}
use Rattle.exi_toll.specs.declared.stop.PutStop.{PutStop}
use Rattle.exi_choice.specs.Wanted.{ChosenSuits, Seeking, first_suiting, is_of, is_told, of_kind, picked, seeking, suits, told_of}
use Rattle.exi_choice.proofs.EventKinds.{only_element, only_end_document, only_end_element}
use Rattle.exi_pen.specs.Pages.{CanGrow, Ends, IsBegun, IsReady, IsWanted, KeepsLevel, Page, PutsIn, Writes, by_chosen, characters_wanted, id_of, learned_config, opened_page, put_page}
use Rattle.exi_pen.specs.Told.{told_in}
use Rattle.exi_pen.proofs.Begun.{on_kind}
use Rattle.exi_pen.proofs.Wrote.{behind_is, on_terminal, settled}
use Rattle.exi_pen.proofs.EventKinds.{at_kind, coded_page, ends, on_begun, plan_at, put_stop, spelled_at}

-- ---- what stands behind the code
pub few_begun : (wanted : Seeking) (old mid : Page) (toll owed : Charged) (rule : Kept) → IsReady old → IsBegun wanted old mid toll owed rule → NoneLonger (2 ^ 31 - 2) mid.config.tables
few_begun wanted old mid toll owed rule ready b = subst (λ (p : Page). NoneLonger (2 ^ 31 - 2) p.config.tables) (sym b.page) ready.room.few

pub grow_begun : (wanted : Seeking) (old mid : Page) (toll owed : Charged) (rule : Kept) → IsReady old → IsBegun wanted old mid toll owed rule → CanGrow mid.config
grow_begun wanted old mid toll owed rule ready b = subst (λ (p : Page). CanGrow p.config) (sym b.page) record { learns = ready.room.learns; grammars = ready.room.grammars }

pub grow_put : {A X : Type 0} (a : A) (w : Option (Piece X)) (p q : Page) (c d : Charged) → CanGrow p.config → PutsIn {A = A} {X = X} (Ok a) w p q c d → CanGrow q.config
grow_put {A} {X} a w p q c d k put = subst (λ (z : Page). CanGrow z.config) (sym put.2) record { learns = k.learns; grammars = k.grammars }

pub levels_begun : (wanted : Seeking) (old mid : Page) (toll owed : Charged) (rule : Kept) → IsReady old → IsBegun wanted old mid toll owed rule → HasLevels mid.config
levels_begun wanted old mid toll owed rule ready b = subst (λ (p : Page). HasLevels p.config) (sym b.page) record { aside = ready.levels.aside; inside = ready.levels.inside }

fragment_characters : (p : Partitions) (number : ℕ) (d : Representation) (to : ℕ) → FitsFragment p number (characters d) to → ⊥
fragment_characters p zero d to h = h
fragment_characters p (suc number) d to h = h

book_characters : (p : Partitions) (grammar number : ℕ) (d : Representation) (to : ℕ) → FitsBook p grammar number (characters d) to → ⊥
book_characters p zero number d to h = h
book_characters p (suc grammar) number d to h = fragment_characters p number d to h

no_characters : (p : Partitions) (o : Outer) (d : Representation) (to : ℕ) → FitsOutside p o (characters d) to → ⊥
no_characters p (outer.Book grammar number) d to h = book_characters p grammar number d to h
no_characters p outer.FragmentStart d to h = h
no_characters p outer.FragmentContent d to h = h
no_characters p outer.AloneStart d to h = h
no_characters p outer.AloneFirst d to h = h
no_characters p outer.AloneOver d to h = h
no_characters p outer.Ended d to h = h

some_open : (g : Setting) (p : Partitions) (o : Outer) (es : List Element) (d : Representation) (to : ℕ) → FitsIn g p o es (characters d) to → es ≢ []
some_open g p o [] d to h = absurd (no_characters p o d to h)
some_open g p o (x ∷ es) d to h = λ e. absurd cc

-- characters stand where an element is open
characters_on : (on : Content) (d : Option Datatype) → is_of content.Characters (terminal_in on d) ≡ true → terminal_in on d ≡ characters (datatype_in d)
characters_on content.StartDocument d h = absurd cc
characters_on content.EndDocument d h = absurd cc
characters_on (content.Element own) d h = absurd cc
characters_on (content.Attribute own v) d h = absurd cc
characters_on content.Characters d h = refl
characters_on content.EndElement d h = absurd cc
characters_on content.Declaration d h = absurd cc
characters_on content.SelfContained d h = absurd cc
characters_on content.Comment d h = absurd cc
characters_on content.Instruction d h = absurd cc
characters_on content.DocumentType d h = absurd cc
characters_on content.Entity d h = absurd cc

abbrev pub datatype_of : Kept → Representation
datatype_of rule = datatype_in (option_copied rule.datatype)

pub characters_begun : (v : Value) (old mid : Page) (toll owed : Charged) (rule : Kept) → IsBegun (characters_wanted v) old mid toll owed rule → (rule_in rule).on ≡ characters (datatype_of rule)
characters_begun v old mid toll owed rule b = characters_on rule.on (option_copied rule.datatype) (on_begun (characters_wanted v) old mid toll owed rule b)

pub inside_begun : (v : Value) (old mid : Page) (toll owed : Charged) (rule : Kept) (name : NameId) → IsReady old → IsBegun (characters_wanted v) old mid toll owed rule → name ≡ innermost mid.config.elements → IsName mid.config.tables name
inside_begun v old mid toll owed rule name ready b e =
    let g = old.setting in
    let c = old.config in
    let fit : FitsIn g c.tables c.outer c.elements (characters (datatype_of rule)) rule.to = subst (λ (t : Terminal). FitsIn g c.tables c.outer c.elements t rule.to) (characters_begun v old mid toll owed rule b) b.fits in
    let inside : IsName c.tables (innermost c.elements) = open_name g c.tables c.learned c.elements ready.sound.body.elements (some_open g c.tables c.outer c.elements (datatype_of rule) rule.to fit) in
    subst (λ (id : NameId). IsName mid.config.tables id) (sym e) (subst (λ (p : Page). IsName p.config.tables (innermost p.config.elements)) (sym b.page) inside)

-- ---- the level is kept
keeps_level : (counted : Bool) (m : Metering) → KeepsLevel m (charge_level false (charge_event counted (Ok m)))
keeps_level false m = refl
keeps_level true m = elim (cases_Bool (event_fits m)) [
  | inl h ↦ rw h refl
  | inr h ↦ rw h tt
]

keeps_by : (old mid : Page) (m : Metering) (owed charged : Charged) → mid.config.meter ≡ old.config.meter → owed ≡ charged → KeepsLevel old.config.meter charged → KeepsLevel mid.config.meter owed
keeps_by old mid m owed charged e f h = subst (λ (z : Metering). KeepsLevel z owed) (sym e) (subst (λ (z : Charged). KeepsLevel old.config.meter z) (sym f) h)

pub keeps_close : (old mid : Page) (toll owed : Charged) (rule : Kept) → toll ≡ Ok old.config.meter → IsReady old → IsBegun (of_kind content.EndElement) old mid toll owed rule → KeepsLevel mid.config.meter owed
keeps_close old mid toll owed rule paid ready b =
    let k = at_kind (of_kind content.EndElement) old mid toll owed rule event.ee end_element ready paid b (λ q. refl) (only_end_element (rule_in rule).on (on_begun (of_kind content.EndElement) old mid toll owed rule b)) in
    keeps_by old mid old.config.meter owed (charge_level false (charge_event true (Ok old.config.meter))) (ap (λ (p : Page). p.config.meter) b.page) k.charged (keeps_level true old.config.meter)

pub keeps_end : (old mid : Page) (toll owed : Charged) (rule : Kept) → toll ≡ Ok old.config.meter → IsReady old → IsBegun (of_kind content.EndDocument) old mid toll owed rule → KeepsLevel mid.config.meter owed
keeps_end old mid toll owed rule paid ready b =
    let k = at_kind (of_kind content.EndDocument) old mid toll owed rule event.ed end_document ready paid b (λ q. refl) (only_end_document (rule_in rule).on (on_begun (of_kind content.EndDocument) old mid toll owed rule b)) in
    let counted = is_event (alone_in old.config.elements old.config.outer) in
    keeps_by old mid old.config.meter owed (charge_level false (charge_event counted (Ok old.config.meter))) (ap (λ (p : Page). p.config.meter) b.page) k.charged (keeps_level counted old.config.meter)

-- ---- how a name is told
name_told : (old mid : Page) (code : List Bool) (n : QName) (own told : Told) (t : Telling) → mid ≡ coded_page old code → own ≡ told_of old.config.tables n → telling_of told ≡ t → is_told own t ≡ true → is_told (told_of mid.config.tables n) (telling_of told) ≡ true
name_told old mid code n own told t page e f h =
    ap (λ (p : Page). is_told (told_of p.config.tables n) (telling_of told)) page
    ∙ (ap (λ (o : Told). is_told o (telling_of told)) (sym e) ∙ (ap (λ (z : Telling). is_told own z) f ∙ h))

pub element_told : (old mid : Page) (toll owed : Charged) (rule : Kept) (own told : Told) (n : QName) → IsBegun (of_kind (content.Element own)) old mid toll owed rule → own ≡ told_of old.config.tables n → telling_of told ≡ told_in (rule_in rule).on → is_told (told_of mid.config.tables n) (telling_of told) ≡ true
element_told old mid toll owed rule own told n b e f =
    let j = only_element own (rule_in rule).on (on_begun (of_kind (content.Element own)) old mid toll owed rule b) in
    name_told old mid b.code n own told j.0 b.page e (f ∙ ap told_in j.1) j.2

-- ---- the name that was put
pub piece_is : {X : Type 0} (a b : Piece X) → Some a ≡ Some b → a ≡ b
piece_is {X} a b e = cc

pub spelled_item : {X : Type 0} (b : Bool) (x a : Piece X) → if_spelled b x ≡ Some a → x ≡ a
spelled_item {X} true x a e = piece_is x a e
spelled_item {X} false x a e = absurd cc

pub told_item : (g : Setting) (t : Telling) (n : QName) (p : Partitions) (a : Piece Named) → told_name g t n p ≡ Some a → n ≡ (a.item).name
told_item g spelled n p a e =
    ap (λ (z : Piece Named). (z.item).name) (spelled_item (can_name (prefixes g.options) p n) (record { item = named_for p n; bits = name_bits (prefixes g.options) (align_of g.options) p n; tables = after_name p n; units = name_units n }) a e)
told_item g (under uri) n p a e =
    ap (λ (z : Piece Named). (z.item).name) (spelled_item (can_know_under (prefixes g.options) p uri n) (record { item = named_under p uri n; bits = under_bits (prefixes g.options) (align_of g.options) p uri n.local n.prefix; tables = after_local p uri n.local; units = name_units n }) a e)
told_item g (known id) n p a e =
    ap (λ (z : Piece Named). (z.item).name) (spelled_item (is_at p id n && can_know (prefixes g.options) p id n) (record { item = record { id = id; name = n }; bits = prefix_bits (prefixes g.options) (align_of g.options) p id.uri n.prefix; tables = p; units = name_units n }) a e)

abbrev pub PutsName : Telling → QName → NameId → Page → Page → Charged → Charged → Type 0
PutsName t n id p q c d = PutsIn {A = NameId} {X = Named} (Ok id) (told_name p.setting t n p.config.tables) p q c d

-- ---- what the state makes of it
pub attribute_same : (e : Effect) (t : Telling) (u : Learned) (to : ℕ) (c : Config) → effected e to (learned_config t u (record c { after_start = false })) ≡ record (effected e to (learns_name t u c)) { after_start = false }
attribute_same leads spelled u to c = refl
attribute_same leads (under uri) u to c = refl
attribute_same leads (known id) u to c = refl
attribute_same (retyped grammar) spelled u to c = refl
attribute_same (retyped grammar) (under uri) u to c = refl
attribute_same (retyped grammar) (known id) u to c = refl
attribute_same emptied spelled u to c = refl
attribute_same emptied (under uri) u to c = refl
attribute_same emptied (known id) u to c = refl
attribute_same stays spelled u to c = refl
attribute_same stays (under uri) u to c = refl
attribute_same stays (known id) u to c = refl

abbrev rooted_as : Alone → QName → Config → Config
rooted_as a name c = record c { root = root_at a c.aside name c.root }

element_same : (g : Setting) (a : Alone) (t : Telling) (r : Rule) (n : Named) (c : Config) → record (opened n.id (opener g n.name r.inner) (moves r.to (learned_config t (used.Se n.id) (rooted_as a n.name (record c { after_start = false }))))) { after_start = is_event a } ≡ (remembered (element_made g a t r n c)).1
element_same g nowhere spelled r n c = refl
element_same g nowhere (under uri) r n c = refl
element_same g nowhere (known id) r n c = refl
element_same g at_start spelled r n c = refl
element_same g at_start (under uri) r n c = refl
element_same g at_start (known id) r n c = refl
element_same g at_first spelled r n c = refl
element_same g at_first (under uri) r n c = refl
element_same g at_first (known id) r n c = refl
element_same g at_end spelled r n c = refl
element_same g at_end (under uri) r n c = refl
element_same g at_end (known id) r n c = refl

-- ---- elements
pub element_wanted : (old : Page) (own : Told) (n : QName) → own ≡ told_of old.config.tables n → IsWanted old.setting old.config.tables (of_kind (content.Element own)) (event.se n)
element_wanted old own n e r = ap (λ (o : Told). suits old.setting (of_kind (content.Element o)) r) (sym e)

pub element_stop : (stopped : PutStop) (old mid new : Page) (toll owed charged : Charged) (rule : Kept) (own told : Told) (n : QName) → IsReady old → toll ≡ Ok old.config.meter → IsBegun (of_kind (content.Element own)) old mid toll owed rule → own ≡ told_of old.config.tables n
    → telling_of told ≡ told_in (rule_in rule).on → PutsIn {A = NameId} {X = Named} (Err stopped) (told_name mid.setting (telling_of told) n mid.config.tables) mid new owed charged → Writes {X = Unit {0}} (Err stopped) old new (by_chosen old.setting old.config (event.se n))
element_stop stopped old mid new toll owed charged rule own told n ready paid b e f put =
    let j = only_element own (rule_in rule).on (on_begun (of_kind (content.Element own)) old mid toll owed rule b) in
    let tl : telling_of told ≡ j.0 = f ∙ ap told_in j.1 in
    put_stop NameId stopped old mid new owed owed charged rule (event.se n) (element j.0) b.code (told_name mid.setting (telling_of told) n mid.config.tables)
    (at_kind (of_kind (content.Element own)) old mid toll owed rule (event.se n) (element j.0) ready paid b (element_wanted old own n e) j.1) (ap (λ (p : Page). p.config.meter) b.page)
    (λ none. ap (λ (p : Page). told_name p.setting j.0 n p.config.tables) (sym b.page) ∙ (ap (λ (t : Telling). told_name mid.setting t n mid.config.tables) (sym tl) ∙ none)) put

pub element_ends : (r : Result (Unit {0}) PutStop) (old mid last new : Page) (toll owed charged : Charged) (rule : Kept) (own told : Told) (n : QName) (id : NameId) → IsReady old → toll ≡ Ok old.config.meter → IsBegun (of_kind (content.Element own)) old mid toll owed rule → own ≡ told_of old.config.tables n
    → telling_of told ≡ told_in (rule_in rule).on → PutsName (telling_of told) n id mid last owed charged → id_of (told_name mid.setting (telling_of told) n mid.config.tables) id
    → wrong_element (alone_in old.config.elements old.config.outer) old.config.aside n ≡ None
    → Ends r new charged (opened_page (told_in (rule_in rule).on) (rule_in rule).to (rule_in rule).inner (record { id = id; name = n }) last)
    → Writes {X = Unit {0}} r old new (by_chosen old.setting old.config (event.se n))
element_ends r old mid last new toll owed charged rule own told n id ready paid b e f put named free page =
    let j = only_element own (rule_in rule).on (on_begun (of_kind (content.Element own)) old mid toll owed rule b) in
    let t : Telling = j.0 in
    let a : Piece Named = put.0 in
    let al : Alone = alone_in old.config.elements old.config.outer in
    let tc : told_in (rule_in rule).on ≡ t = ap told_in j.1 in
    let tl : telling_of told ≡ t = f ∙ tc in
    let id_is : id ≡ (a.item).id = subst (λ (w : Option (Piece Named)). id_of w id) put.1 named in
    let name_is : n ≡ (a.item).name = told_item mid.setting (telling_of told) n mid.config.tables a put.1 in
    let item_is : record { id = id; name = n } ≡ a.item = ap (λ (x : NameId). record { id = x; name = n }) id_is ∙ ap (λ (x : QName). record { id = (a.item).id; name = x }) name_is in
    let here : spelled_at old rule (element t) (event.se n) ≡ Some a = ap (λ (p : Page). told_name p.setting t n p.config.tables) (sym b.page) ∙ (ap (λ (z : Telling). told_name mid.setting z n mid.config.tables) (sym tl) ∙ put.1) in
    let last_is : last ≡ put_page (coded_page old b.code) a.bits a.tables = put.2 ∙ ap (λ (p : Page). put_page p a.bits a.tables) b.page in
    ends r old new owed charged rule (event.se n) (element t) b.code a (opened_page (told_in (rule_in rule).on) rule.to rule.inner (record { id = id; name = n }) last)
    (at_kind (of_kind (content.Element own)) old mid toll owed rule (event.se n) (element t) ready paid b (element_wanted old own n e) j.1) here (ap (wrong_element al old.config.aside) (sym name_is) ∙ free) put.3
    (λ m. ap (λ (p : Page). opened_page (told_in (rule_in rule).on) rule.to rule.inner (record { id = id; name = n }) p m) last_is
    ∙ (ap (λ (z : Telling). opened_page z rule.to rule.inner (record { id = id; name = n }) (put_page (coded_page old b.code) a.bits a.tables) m) tc
    ∙ (ap (λ (x : Named). opened_page t rule.to rule.inner x (put_page (coded_page old b.code) a.bits a.tables) m) item_is
    ∙ (ap (λ (c : Config). record { setting = old.setting; bits = (old.bits ++ b.code) ++ a.bits; config = c }) (element_same old.setting al t (on_terminal rule (element t)) a.item (settled old b.code a.bits m a.tables))
    ∙ sym (behind_is old (plan_at old rule (element t)) b.code a m refl ready.place))))) page

-- where a fragment has another element
and_not : (b : Bool) → (b && false) ≡ false
and_not true = refl
and_not false = refl

none_taken : (refused : Named → Option Kind) (k : Kind) (w : Option (Piece Named)) → ((a : Piece Named) → w ≡ Some a → refused a.item ≡ Some k) → is_taken refused w ≡ false
none_taken refused k None h = refl
none_taken refused k (Some a) h = ap (λ (o : Option Kind). is_none o) (h a refl)

other_matches : (g : Setting) (c : Config) (r : Rule) (t : Telling) (n : QName) (k : Kind) → r.on ≡ element t → wrong_element (alone_in c.elements c.outer) c.aside n ≡ Some k → matches g c (event.se n) r ≡ false
other_matches g c r t n k on wrong =
    let q : Rule = record { on = element t; to = r.to; inner = r.inner } in
    let same : q ≡ r = ap (λ (z : Terminal). record { on = z; to = r.to; inner = r.inner }) (sym on) in
    let none : is_taken (plan_of g c q).refused (told_name g t n c.tables) ≡ false =
    none_taken (plan_of g c q).refused k (told_name g t n c.tables) (λ a e. ap (wrong_element (alone_in c.elements c.outer) c.aside) (sym (told_item g t n c.tables a e)) ∙ wrong) in
    subst (λ (z : Rule). matches g c (event.se n) z ≡ false) same
    (ap (λ (b : Bool). is_none (plan_of g c q).barred && is_none (plan_of g c q).misplaced && b) none ∙ and_not (is_none (plan_of g c q).barred && is_none (plan_of g c q).misplaced))

other_first : (g : Setting) (c : Config) (wanted : Seeking) (own : Told) (n : QName) (k : Kind) (o : Option (Coded Rule)) → wanted ≡ of_kind (content.Element own) → first_suiting g wanted (rules_of g c) ≡ o → wrong_element (alone_in c.elements c.outer) c.aside n ≡ Some k → by_code g c (event.se n) (picked g c (event.se n) o) ≡ Err not_derived
other_first g c wanted own n k None on h wrong = refl
other_first g c wanted own n k (Some x) on h wrong =
    let s : Stands (suits g wanted) (coded (rules_of g c)) x = fewest_stands (suits g wanted) (coded (rules_of g c)) x h in
    let passes : suits g (of_kind (content.Element own)) x.item ≡ true = ap (λ (z : Seeking). suits g z x.item) (sym on) ∙ s.passes in
    let j = only_element own x.item.on (on_kind g (of_kind (content.Element own)) x.item passes) in
    ap (λ (b : Bool). by_code g c (event.se n) (cond b (Some x) None)) (other_matches g c x.item j.0 n k j.1 wrong)

pub other_element_is : ChosenSuits → (old : Page) (n : QName) (k : Kind) → IsReady old → wrong_element (alone_in old.config.elements old.config.outer) old.config.aside n ≡ Some k → by_chosen old.setting old.config (event.se n) ≡ Err not_derived
other_element_is law old n k ready wrong =
    let g = old.setting in
    let c = old.config in
    ap (by_code g c (event.se n)) (law g c (event.se n) ready.is_setting ready.names ready.sound)
    ∙ other_first g c (seeking c.tables (event.se n)) (told_of c.tables n) n k (first_suiting g (seeking c.tables (event.se n)) (rules_of g c)) refl refl wrong

-- ---- the name as it is kept
pub kept_element : (r : Result (Unit {0}) PutStop) (old new : Page) (n kept : QName) → n ≡ kept → Writes {X = Unit {0}} r old new (by_chosen old.setting old.config (event.se n)) → Writes {X = Unit {0}} r old new (by_chosen old.setting old.config (event.se kept))
kept_element r old new n kept f k = subst (λ (x : QName). Writes {X = Unit {0}} r old new (by_chosen old.setting old.config (event.se x))) f k
