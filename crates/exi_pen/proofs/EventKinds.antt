-- Each kind of event: it is begun, its parts are put, and it ends. The three together write the one event of the definition.
use Rattle.std.proofs.Common.{◌≡◌, ℕ, ◌+◌, Bool, true, false, List, [], ◌∷◌, ◌++◌, length, Option, Some, None, refl, sym, ap, ◌∙◌, subst, arith, append_assoc, append-nil}
use Rattle.std.specs.Prelude.{Result, Ok, Err}
use Rattle.std.proofs.lemmas.List.{length-append}
use Rattle.exi_gram.specs.Switches.{align_of}
use Rattle.exi_meter.specs.Metering.{Metering}
use Rattle.exi_names.specs.Events.{Happening}
use Rattle.exi_names.specs.Events as event
use Rattle.exi_tables.specs.Partitions.{Partitions}
use Rattle.exi_typed.specs.Strings.{Declaration}
use Rattle.exi_processing.specs.Changes.{moves, resumed}
use Rattle.exi_processing.specs.Configurations.{Body, Config, Setting}
use Rattle.exi_processing.specs.Handing.{rule_in}
use Rattle.exi_processing.specs.OneEvent.{is_start, remembered}
use Rattle.exi_processing.specs.Plans.{Alone, Plan, alone_in, at_end, at_first, at_start, end_plan, nowhere, plan_of, seen_in}
use Rattle.exi_processing.specs.Rules.{Terminal, comment, declaration, document_type, end_document, end_element, entity, instruction, self_contained, start_document}
use Rattle.exi_processing.specs.declared.rule.Content.TheVariants as content
use Rattle.exi_processing.specs.declared.rule.Rule.{Rule as Kept}
use Rattle.exi_writing.specs.Contents.{four_texts, text, two_texts}
use Rattle.exi_writing.specs.OneEvent.{Refused, Written, padding, written_by}
use Rattle.exi_writing.specs.Pieces as piece
use Rattle.exi_writing.specs.Pieces.{Piece, Writing, both_by, joined}
use Rattle.exi_toll.specs.Charges.{Charged, charge, charge_event, charge_level, is_within}
use Rattle.exi_toll.specs.declared.stop.PutStop.{PutStop}
use Rattle.exi_toll.specs.declared.stop.PutStop.TheVariants as stop
use Rattle.exi_toll.proofs.Charges.{charge_append, charge_none}
use Rattle.exi_choice.proofs.EventKinds.{only_comment, only_declaration, only_document_type, only_end_document, only_end_element, only_entity, only_instruction, only_self_contained, only_start_document}
use Rattle.exi_pen.specs.Pages.{Ends, IsBegun, IsReady, Page, PutsIn, PutsLast, IsPutLast, IsWanted, Writes, WritesFragment, at_config, by_chosen, closed_page, code_behind, ended_page, ending_page, fragment_page, moved_page, padded_page, page_behind, paid_config, put_page}
use Rattle.exi_choice.specs.Wanted.{Seeking, is_of, of_kind}
use Rattle.exi_pen.proofs.Begun.{on_kind}
use Rattle.exi_pen.proofs.Wrote.{IsGoing, behind_is, charged_on, going_ok, going_on, on_terminal, settle_stop, settled, tried_none, written_at}

-- ---- an event that is begun by a production for it
abbrev pub plan_at : Page → Kept → Terminal → Plan
plan_at old rule t = plan_of old.setting old.config (on_terminal rule t)

abbrev pub spelled_at : (old : Page) (rule : Kept) (t : Terminal) → Happening → Option (Piece (plan_at old rule t).Item)
spelled_at old rule t e = written_by old.setting old.config (on_terminal rule t) e old.config.tables

pub record IsAt (old : Page) (owed : Charged) (rule : Kept) (e : Happening) (t : Terminal) (code : List Bool) : Type 0 where
  pub going : IsGoing old e (on_terminal rule t) code
  pub charged : owed ≡ charge_level (plan_at old rule t).entered (charge_event (plan_at old rule t).counted (Ok old.config.meter))
  pub place : old.config.place ≡ length old.bits

pub at_kind : (wanted : Seeking) (old mid : Page) (toll owed : Charged) (rule : Kept) (e : Happening) (t : Terminal) → IsReady old → toll ≡ Ok old.config.meter → (b : IsBegun wanted old mid toll owed rule) → IsWanted old.setting old.config.tables wanted e → (rule_in rule).on ≡ t → IsAt old owed rule e t b.code
at_kind wanted old mid toll owed rule e t ready paid b same h = record {
  going = going_on wanted old mid toll owed rule e t b same h;
  charged = charged_on wanted old mid toll owed rule t b h ∙ ap (λ (z : Charged). charge_level (plan_at old rule t).entered (charge_event (plan_at old rule t).counted z)) paid;
  place = ready.place;
}

pub on_begun : (wanted : Seeking) (old mid : Page) (toll owed : Charged) (rule : Kept) → IsBegun wanted old mid toll owed rule → is_of wanted.on (rule_in rule).on ≡ true
on_begun wanted old mid toll owed rule b = on_kind old.setting wanted (rule_in rule) b.on

-- behind its code
abbrev pub coded_page : Page → List Bool → Page
coded_page old code = record { setting = old.setting; bits = old.bits ++ code; config = code_behind old.config code }

-- ---- where a part has no spelling
pub put_stop : {X : Type 0} (A : Type 0) (stopped : PutStop) (old before new : Page) (owed c0 c1 : Charged) (rule : Kept) (e : Happening) (t : Terminal) (code : List Bool) (w : Option (Piece X)) → IsAt old owed rule e t code
    → before.config.meter ≡ old.config.meter → (w ≡ None → spelled_at old rule t e ≡ None) → PutsIn {A = A} {X = X} (Err stopped) w before new c0 c1 → Writes {X = Unit {0}} (Err stopped) old new (by_chosen old.setting old.config e)
put_stop {X} A stop.NotDerived old before new owed c0 c1 rule e t code w k same none p = (k.going.is ∙ tried_none old.setting old.config (on_terminal rule t) code e k.going.stands (none p.0), p.1 ∙ same)
put_stop {X} A (stop.Limit kind) old before new owed c0 c1 rule e t code w k same none p = absurd p
put_stop {X} A stop.Memory old before new owed c0 c1 rule e t code w k same none p = tt

-- the last part
pub last_stop : {X : Type 0} (A : Type 0) (stopped : PutStop) (old before new : Page) (owed c0 c1 : Charged) (rule : Kept) (e : Happening) (t : Terminal) (code : List Bool) (w : Option (Piece X)) → IsAt old owed rule e t code
    → before.config.meter ≡ old.config.meter → (w ≡ None → spelled_at old rule t e ≡ None) → PutsLast {A = A} {X = X} (Err stopped) w before new c0 c1 → Writes {X = Unit {0}} (Err stopped) old new (by_chosen old.setting old.config e)
last_stop {X} A stop.NotDerived old before new owed c0 c1 rule e t code w k same none p = (k.going.is ∙ tried_none old.setting old.config (on_terminal rule t) code e k.going.stands (none p.0), p.1 ∙ same)
last_stop {X} A (stop.Limit kind) old before new owed c0 c1 rule e t code w k same none p = absurd p
last_stop {X} A stop.Memory old before new owed c0 c1 rule e t code w k same none p = tt

-- ---- where it ends
-- the page is the definition's where no limit is passed
pub ends_within : (r : Result (Unit {0}) PutStop) (old new : Page) (owed charged : Charged) (rule : Kept) (e : Happening) (t : Terminal) (code : List Bool) (piece : Piece (plan_at old rule t).Item) (next : Metering → Page)
    → IsAt old owed rule e t code → spelled_at old rule t e ≡ Some piece → (plan_at old rule t).refused piece.item ≡ None → charged ≡ charge piece.units owed
    → ((m : Metering) → charged ≡ Ok m → next m ≡ page_behind old (written_at (plan_at old rule t) old.config code piece m))
    → Ends r new charged next → Writes {X = Unit {0}} r old new (by_chosen old.setting old.config e)
ends_within (Ok x) old new owed charged rule e t code piece next k w f c same page =
    going_ok x old new e (on_terminal rule t) code piece page.0 k.going w f (sym (c ∙ ap (charge piece.units) k.charged) ∙ page.1) (page.2 ∙ same page.0 page.1)
ends_within (Err stop.NotDerived) old new owed charged rule e t code piece next k w f c same page = absurd page
ends_within (Err (stop.Limit kind)) old new owed charged rule e t code piece next k w f c same page =
    settle_stop (stop.Limit kind) old new e (on_terminal rule t) code piece k.going w f (sym (c ∙ ap (charge piece.units) k.charged) ∙ page)
ends_within (Err stop.Memory) old new owed charged rule e t code piece next k w f c same page = tt

pub ends : (r : Result (Unit {0}) PutStop) (old new : Page) (owed charged : Charged) (rule : Kept) (e : Happening) (t : Terminal) (code : List Bool) (piece : Piece (plan_at old rule t).Item) (next : Metering → Page)
    → IsAt old owed rule e t code → spelled_at old rule t e ≡ Some piece → (plan_at old rule t).refused piece.item ≡ None → charged ≡ charge piece.units owed
    → ((m : Metering) → next m ≡ page_behind old (written_at (plan_at old rule t) old.config code piece m))
    → Ends r new charged next → Writes {X = Unit {0}} r old new (by_chosen old.setting old.config e)
ends r old new owed charged rule e t code piece next k w f c same page = ends_within r old new owed charged rule e t code piece next k w f c (λ m within. same m) page

-- one part is put, and no bits are filled up
abbrev pub made_page : (old : Page) (p : Plan) → List Bool → Piece p.Item → Metering → Page
made_page old p code piece m = record { setting = old.setting; bits = (old.bits ++ code) ++ piece.bits; config = (remembered (p.make piece.item (settled old code piece.bits m piece.tables))).1 }

pub one_put : (r : Result (Unit {0}) PutStop) (old last new : Page) (owed charged : Charged) (rule : Kept) (e : Happening) (t : Terminal) (code : List Bool) (next : Page → Metering → Page)
    → IsAt old owed rule e t code → (plan_at old rule t).padded ≡ false → ((item : (plan_at old rule t).Item) → (plan_at old rule t).refused item ≡ None)
    → PutsIn {A = Unit {0}} {X = (plan_at old rule t).Item} (Ok tt) (spelled_at old rule t e) (coded_page old code) last owed charged
    → ((piece : Piece (plan_at old rule t).Item) (m : Metering) → next (put_page (coded_page old code) piece.bits piece.tables) m ≡ made_page old (plan_at old rule t) code piece m)
    → Ends r new charged (next last) → Writes {X = Unit {0}} r old new (by_chosen old.setting old.config e)
one_put r old last new owed charged rule e t code next k unpadded free put makes page =
    ends r old new owed charged rule e t code put.0 (next last) k put.1 (free (put.0).item) put.3 (λ m. ap (λ (p : Page). next p m) put.2 ∙ (makes put.0 m ∙ sym (behind_is old (plan_at old rule t) code put.0 m unpadded k.place))) page

-- the last part is put as far as no limit is passed
pub last_page : {X : Type 0} (piece : Piece X) (p q : Page) (c d : Charged) → IsPutLast piece p q c d → (m : Metering) → d ≡ Ok m → q ≡ put_page p piece.bits piece.tables
last_page {X} piece p q c d l m h =
    let same : (l.text ≡ piece.bits) × (l.tables ≡ piece.tables) = l.written (ap is_within h) in
    l.page ∙ (ap (λ (z : List Bool). put_page p z l.tables) same.0 ∙ ap (λ (z : Partitions). put_page p piece.bits z) same.1)

pub one_last : (r : Result (Unit {0}) PutStop) (old last new : Page) (owed charged : Charged) (rule : Kept) (e : Happening) (t : Terminal) (code : List Bool) (next : Page → Metering → Page)
    → IsAt old owed rule e t code → (plan_at old rule t).padded ≡ false → ((item : (plan_at old rule t).Item) → (plan_at old rule t).refused item ≡ None)
    → PutsLast {A = Unit {0}} {X = (plan_at old rule t).Item} (Ok tt) (spelled_at old rule t e) (coded_page old code) last owed charged
    → ((piece : Piece (plan_at old rule t).Item) (m : Metering) → next (put_page (coded_page old code) piece.bits piece.tables) m ≡ made_page old (plan_at old rule t) code piece m)
    → Ends r new charged (next last) → Writes {X = Unit {0}} r old new (by_chosen old.setting old.config e)
one_last r old last new owed charged rule e t code next k unpadded free put makes page =
    ends_within r old new owed charged rule e t code put.0 (next last) k put.1 (free (put.0).item) (put.2).charges
    (λ m h. ap (λ (p : Page). next p m) (last_page put.0 (coded_page old code) last owed charged put.2 m h) ∙ (makes put.0 m ∙ sym (behind_is old (plan_at old rule t) code put.0 m unpadded k.place))) page

-- ---- events without parts
abbrev pub nothing_piece : Partitions → Piece (Unit {0})
nothing_piece p = record { item = tt; bits = []; tables = p; units = [] }

nothing_page : (p : Page) → p.config.place ≡ length p.bits → p ≡ put_page p [] p.config.tables
nothing_page p e =
    ap (λ (n : ℕ). record { setting = p.setting; bits = p.bits; config = record p.config { place = n } }) e
    ∙ ap (λ (bits : List Bool). record { setting = p.setting; bits = bits; config = record p.config { place = length bits } }) (sym (append-nil p.bits))

code_place : (old : Page) (code : List Bool) → old.config.place ≡ length old.bits → old.config.place + length code ≡ length (old.bits ++ code)
code_place old code e = ap (λ (n : ℕ). n + length code) e ∙ sym (length-append old.bits code)

pub nothing_put : (old mid : Page) (code : List Bool) (owed : Charged) → old.config.place ≡ length old.bits → mid ≡ coded_page old code → PutsIn {A = Unit {0}} {X = Unit {0}} (Ok tt) (Some (nothing_piece old.config.tables)) (coded_page old code) mid owed owed
nothing_put old mid code owed e h = (nothing_piece old.config.tables, refl, h ∙ nothing_page (coded_page old code) (code_place old code e), sym (charge_none owed))

not_start : (a : Alone) (e : Happening) → is_start (Some e) ≡ false → is_start (seen_in a e) ≡ false
not_start nowhere e h = h
not_start at_start e h = refl
not_start at_first e h = refl
not_start at_end e h = refl

pub start_ends : (r : Result (Unit {0}) PutStop) (old mid new : Page) (toll owed : Charged) (rule : Kept) → IsReady old → toll ≡ Ok old.config.meter → IsBegun (of_kind content.StartDocument) old mid toll owed rule
    → Ends r new owed (moved_page rule.to mid) → Writes {X = Unit {0}} r old new (by_chosen old.setting old.config event.sd)
start_ends r old mid new toll owed rule ready paid b page =
    one_put r old mid new owed owed rule event.sd start_document b.code (moved_page rule.to)
    (at_kind (of_kind content.StartDocument) old mid toll owed rule event.sd start_document ready paid b (λ q. refl) (only_start_document (rule_in rule).on (on_begun (of_kind content.StartDocument) old mid toll owed rule b))) refl (λ item. b.element)
    (nothing_put old mid b.code owed ready.place b.page)
    (λ piece m. ap (λ (after : Bool). record { setting = old.setting; bits = (old.bits ++ b.code) ++ piece.bits; config = record (moves rule.to (settled old b.code piece.bits m piece.tables)) { after_start = after } }) (sym (not_start (alone_in old.config.elements old.config.outer) event.sd refl))) page

pub close_ends : (r : Result (Unit {0}) PutStop) (old mid new : Page) (toll owed : Charged) (rule : Kept) → IsReady old → toll ≡ Ok old.config.meter → IsBegun (of_kind content.EndElement) old mid toll owed rule
    → Ends r new owed (closed_page mid) → Writes {X = Unit {0}} r old new (by_chosen old.setting old.config event.ee)
close_ends r old mid new toll owed rule ready paid b page =
    one_put r old mid new owed owed rule event.ee end_element b.code closed_page
    (at_kind (of_kind content.EndElement) old mid toll owed rule event.ee end_element ready paid b (λ q. refl) (only_end_element (rule_in rule).on (on_begun (of_kind content.EndElement) old mid toll owed rule b))) refl (λ item. b.element)
    (nothing_put old mid b.code owed ready.place b.page) (λ piece m. refl) page

-- ---- up to a whole byte
abbrev filled : List Bool → List Bool
filled bits = bits ++ padding true (length bits)

module _ (old : Page) (p : Plan) (code : List Bool) (item : p.Item) (tables : Partitions) (m : Metering) where
  abbrev page_at : List Bool → ℕ → Page
  page_at bits n = record { setting = old.setting; bits = bits; config = (remembered (p.make item (record old.config { place = n; meter = m; tables = tables }))).1 }

  abbrev padded_by : Bool → Page
  padded_by padded = page_at (old.bits ++ (code ++ padding padded (old.config.place + length code + 0))) (old.config.place + length code + length (padding padded (old.config.place + length code + 0)))

  abbrev padded_from : ℕ → Page
  padded_from n = page_at (old.bits ++ (code ++ padding true n)) (old.config.place + length code + length (padding true n))

  pub behind_padded : (units : List ℕ) → p.padded ≡ true → old.config.place ≡ length old.bits
      → page_behind old (written_at p old.config code (record { item = item; bits = []; tables = tables; units = units }) m) ≡ page_at (filled (old.bits ++ code)) (length (filled (old.bits ++ code)))
  behind_padded units padded e =
      let here : old.config.place + length code + 0 ≡ length (old.bits ++ code) = let a = length-append old.bits code in omega (arith, a, e) in
      let pad : List Bool = padding true (length (old.bits ++ code)) in
      let place : old.config.place + length code + length pad ≡ length (filled (old.bits ++ code)) = let a = length-append old.bits code in let b = length-append (old.bits ++ code) pad in omega (arith, a, b, e) in
      ap padded_by padded ∙ (ap padded_from here
      ∙ (ap (λ (bits : List Bool). page_at bits (old.config.place + length code + length pad)) (sym (append_assoc old.bits code pad))
      ∙ ap (page_at (filled (old.bits ++ code))) place))

resumed_same : (bs : List Body) (c : Config) (n k : ℕ) (m : Metering) → record (resumed bs (record c { place = k; meter = m; after_start = false })) { place = n } ≡ record (resumed bs (record c { place = n; meter = m })) { after_start = false }
resumed_same [] c n k m = refl
resumed_same (b ∷ bs) c n k m = refl

ending_is : (a : Alone) (old : Page) (code : List Bool) (m : Metering) → old.config.place ≡ length old.bits → ended_page a (at_config (coded_page old code) (paid_config m (code_behind old.config code))) ≡ page_behind old (written_at (end_plan a) old.config code (nothing_piece old.config.tables) m)
ending_is nowhere old code m e = sym (behind_is old (end_plan nowhere) code (nothing_piece old.config.tables) m refl e)
ending_is at_start old code m e =
    ap (λ (c : Config). record { setting = old.setting; bits = filled (old.bits ++ code); config = c }) (resumed_same old.config.aside old.config (length (filled (old.bits ++ code))) (old.config.place + length code) m)
    ∙ sym (behind_padded old (end_plan at_start) code tt old.config.tables m [] refl e)
ending_is at_first old code m e =
    ap (λ (c : Config). record { setting = old.setting; bits = filled (old.bits ++ code); config = c }) (resumed_same old.config.aside old.config (length (filled (old.bits ++ code))) (old.config.place + length code) m)
    ∙ sym (behind_padded old (end_plan at_first) code tt old.config.tables m [] refl e)
ending_is at_end old code m e =
    ap (λ (c : Config). record { setting = old.setting; bits = filled (old.bits ++ code); config = c }) (resumed_same old.config.aside old.config (length (filled (old.bits ++ code))) (old.config.place + length code) m)
    ∙ sym (behind_padded old (end_plan at_end) code tt old.config.tables m [] refl e)

pub end_ends : (r : Result (Unit {0}) PutStop) (old mid new : Page) (toll owed : Charged) (rule : Kept) → IsReady old → toll ≡ Ok old.config.meter → IsBegun (of_kind content.EndDocument) old mid toll owed rule
    → Ends r new owed (ending_page mid) → Writes {X = Unit {0}} r old new (by_chosen old.setting old.config event.ed)
end_ends r old mid new toll owed rule ready paid b page =
    ends r old new owed owed rule event.ed end_document b.code (nothing_piece old.config.tables) (ending_page mid)
    (at_kind (of_kind content.EndDocument) old mid toll owed rule event.ed end_document ready paid b (λ q. refl) (only_end_document (rule_in rule).on (on_begun (of_kind content.EndDocument) old mid toll owed rule b))) refl b.element (sym (charge_none owed))
    (λ m. ap (λ (p : Page). ending_page p m) b.page ∙ ending_is (alone_in old.config.elements old.config.outer) old b.code m ready.place) page

-- ---- SC: the body is to be put aside
fragment_same : (old mid : Page) (rule : Kept) (code : List Bool) (m : Metering) → old.config.place ≡ length old.bits → mid ≡ coded_page old code
    → fragment_page (padded_page mid m) ≡ page_behind old (written_at (plan_at old rule self_contained) old.config code (nothing_piece old.config.tables) m)
fragment_same old mid rule code m e h = ap (λ (p : Page). fragment_page (padded_page p m)) h ∙ sym (behind_padded old (plan_at old rule self_contained) code tt old.config.tables m [] refl e)

pub fragment_stop : (stopped : PutStop) (old new : Page) (w : Result Written Refused) → Writes {X = Unit {0}} (Err stopped) old new w → WritesFragment {X = Unit {0}} (Err stopped) old new w
fragment_stop stop.NotDerived old new w h = h
fragment_stop (stop.Limit kind) old new w h = h
fragment_stop stop.Memory old new w h = tt

fragment_last : (r : Result (Unit {0}) PutStop) (old new : Page) (owed : Charged) (next : Metering → Page) (w : Result Written Refused)
    → ((s : Result (Unit {0}) PutStop) (last : Page) → Ends s last owed (λ m. fragment_page (next m)) → Writes {X = Unit {0}} s old last w)
    → Ends r new owed next → WritesFragment {X = Unit {0}} r old new w
fragment_last (Ok x) old new owed next w by page = by (Ok x) (fragment_page new) (page.0, page.1, ap fragment_page page.2)
fragment_last (Err stop.NotDerived) old new owed next w by page = absurd page
fragment_last (Err (stop.Limit kind)) old new owed next w by page = by (Err (stop.Limit kind)) new page
fragment_last (Err stop.Memory) old new owed next w by page = tt

pub fragment_ends : (r : Result (Unit {0}) PutStop) (old mid new : Page) (toll owed : Charged) (rule : Kept) (byte : ℕ) → IsReady old → toll ≡ Ok old.config.meter → IsBegun (of_kind content.SelfContained) old mid toll owed rule
    → Ends r new owed (padded_page mid) → WritesFragment {X = Unit {0}} r old new (by_chosen old.setting old.config (event.sc byte))
fragment_ends r old mid new toll owed rule byte ready paid b page =
    fragment_last r old new owed (padded_page mid) (by_chosen old.setting old.config (event.sc byte))
    (λ s last ended. ends s old last owed owed rule (event.sc byte) self_contained b.code (nothing_piece old.config.tables) (λ m. fragment_page (padded_page mid m))
    (at_kind (of_kind content.SelfContained) old mid toll owed rule (event.sc byte) self_contained ready paid b (λ q. refl) (only_self_contained (rule_in rule).on (on_begun (of_kind content.SelfContained) old mid toll owed rule b))) refl b.element (sym (charge_none owed))
    (λ m. fragment_same old mid rule b.code m ready.place b.page) ended) page

-- ---- events of one text
pub comment_stop : (stopped : PutStop) (old mid new : Page) (toll owed charged : Charged) (rule : Kept) (x : List ℕ) → IsReady old → toll ≡ Ok old.config.meter → mid.config.meter ≡ old.config.meter → IsBegun (of_kind content.Comment) old mid toll owed rule
    → PutsIn {A = Unit {0}} {X = List ℕ} (Err stopped) (text mid.setting x mid.config.tables) mid new owed charged → Writes {X = Unit {0}} (Err stopped) old new (by_chosen old.setting old.config (event.cm x))
comment_stop stopped old mid new toll owed charged rule x ready paid meter b put =
    put_stop (Unit {0}) stopped old mid new owed owed charged rule (event.cm x) comment b.code (text mid.setting x mid.config.tables)
    (at_kind (of_kind content.Comment) old mid toll owed rule (event.cm x) comment ready paid b (λ q. refl) (only_comment (rule_in rule).on (on_begun (of_kind content.Comment) old mid toll owed rule b))) meter
    (λ none. ap (λ (p : Page). text p.setting x p.config.tables) (sym b.page) ∙ none) put

pub comment_ends : (r : Result (Unit {0}) PutStop) (old mid last new : Page) (toll owed charged : Charged) (rule : Kept) (x : List ℕ) → IsReady old → toll ≡ Ok old.config.meter → IsBegun (of_kind content.Comment) old mid toll owed rule
    → PutsIn {A = Unit {0}} {X = List ℕ} (Ok tt) (text mid.setting x mid.config.tables) mid last owed charged → Ends r new charged (moved_page rule.to last) → Writes {X = Unit {0}} r old new (by_chosen old.setting old.config (event.cm x))
comment_ends r old mid last new toll owed charged rule x ready paid b put page =
    one_put r old last new owed charged rule (event.cm x) comment b.code (moved_page rule.to)
    (at_kind (of_kind content.Comment) old mid toll owed rule (event.cm x) comment ready paid b (λ q. refl) (only_comment (rule_in rule).on (on_begun (of_kind content.Comment) old mid toll owed rule b))) refl (λ item. b.element)
    (subst (λ (p : Page). PutsIn {A = Unit {0}} {X = List ℕ} (Ok tt) (text p.setting x p.config.tables) p last owed charged) b.page put) (λ piece m. refl) page

pub entity_stop : (stopped : PutStop) (old mid new : Page) (toll owed charged : Charged) (rule : Kept) (x : List ℕ) → IsReady old → toll ≡ Ok old.config.meter → mid.config.meter ≡ old.config.meter → IsBegun (of_kind content.Entity) old mid toll owed rule
    → PutsIn {A = Unit {0}} {X = List ℕ} (Err stopped) (text mid.setting x mid.config.tables) mid new owed charged → Writes {X = Unit {0}} (Err stopped) old new (by_chosen old.setting old.config (event.er x))
entity_stop stopped old mid new toll owed charged rule x ready paid meter b put =
    put_stop (Unit {0}) stopped old mid new owed owed charged rule (event.er x) entity b.code (text mid.setting x mid.config.tables)
    (at_kind (of_kind content.Entity) old mid toll owed rule (event.er x) entity ready paid b (λ q. refl) (only_entity (rule_in rule).on (on_begun (of_kind content.Entity) old mid toll owed rule b))) meter
    (λ none. ap (λ (p : Page). text p.setting x p.config.tables) (sym b.page) ∙ none) put

pub entity_ends : (r : Result (Unit {0}) PutStop) (old mid last new : Page) (toll owed charged : Charged) (rule : Kept) (x : List ℕ) → IsReady old → toll ≡ Ok old.config.meter → IsBegun (of_kind content.Entity) old mid toll owed rule
    → PutsIn {A = Unit {0}} {X = List ℕ} (Ok tt) (text mid.setting x mid.config.tables) mid last owed charged → Ends r new charged (moved_page rule.to last) → Writes {X = Unit {0}} r old new (by_chosen old.setting old.config (event.er x))
entity_ends r old mid last new toll owed charged rule x ready paid b put page =
    one_put r old last new owed charged rule (event.er x) entity b.code (moved_page rule.to)
    (at_kind (of_kind content.Entity) old mid toll owed rule (event.er x) entity ready paid b (λ q. refl) (only_entity (rule_in rule).on (on_begun (of_kind content.Entity) old mid toll owed rule b))) refl (λ item. b.element)
    (subst (λ (p : Page). PutsIn {A = Unit {0}} {X = List ℕ} (Ok tt) (text p.setting x p.config.tables) p last owed charged) b.page put) (λ piece m. refl) page

-- ---- namespace declarations
pub declaration_stop : (stopped : PutStop) (old mid new : Page) (toll owed charged : Charged) (rule : Kept) (d : Declaration) → IsReady old → toll ≡ Ok old.config.meter → mid.config.meter ≡ old.config.meter → IsBegun (of_kind content.Declaration) old mid toll owed rule
    → PutsIn {A = Unit {0}} {X = Declaration} (Err stopped) (piece.declaration (align_of mid.setting.options) d mid.config.tables) mid new owed charged → Writes {X = Unit {0}} (Err stopped) old new (by_chosen old.setting old.config (event.ns d.uri d.prefix d.element))
declaration_stop stopped old mid new toll owed charged rule d ready paid meter b put =
    put_stop (Unit {0}) stopped old mid new owed owed charged rule (event.ns d.uri d.prefix d.element) declaration b.code (piece.declaration (align_of mid.setting.options) d mid.config.tables)
    (at_kind (of_kind content.Declaration) old mid toll owed rule (event.ns d.uri d.prefix d.element) declaration ready paid b (λ q. refl) (only_declaration (rule_in rule).on (on_begun (of_kind content.Declaration) old mid toll owed rule b))) meter
    (λ none. ap (λ (p : Page). piece.declaration (align_of p.setting.options) d p.config.tables) (sym b.page) ∙ none) put

pub declaration_ends : (r : Result (Unit {0}) PutStop) (old mid last new : Page) (toll owed charged : Charged) (rule : Kept) (d : Declaration) → IsReady old → toll ≡ Ok old.config.meter → IsBegun (of_kind content.Declaration) old mid toll owed rule
    → PutsIn {A = Unit {0}} {X = Declaration} (Ok tt) (piece.declaration (align_of mid.setting.options) d mid.config.tables) mid last owed charged → Ends r new charged (moved_page rule.to last) → Writes {X = Unit {0}} r old new (by_chosen old.setting old.config (event.ns d.uri d.prefix d.element))
declaration_ends r old mid last new toll owed charged rule d ready paid b put page =
    one_put r old last new owed charged rule (event.ns d.uri d.prefix d.element) declaration b.code (moved_page rule.to)
    (at_kind (of_kind content.Declaration) old mid toll owed rule (event.ns d.uri d.prefix d.element) declaration ready paid b (λ q. refl) (only_declaration (rule_in rule).on (on_begun (of_kind content.Declaration) old mid toll owed rule b))) refl (λ item. b.element)
    (subst (λ (p : Page). PutsIn {A = Unit {0}} {X = Declaration} (Ok tt) (piece.declaration (align_of p.setting.options) d p.config.tables) p last owed charged) b.page put) (λ piece m. refl) page

-- ---- one part behind another
pub both_is : {X Y : Type 0} (w : Option (Piece X)) (two : X → Writing Y) (a : Piece X) (d : Piece Y) (p : Partitions) → w ≡ Some a → p ≡ a.tables → two a.item p ≡ Some d → both_by two w ≡ Some (record { item = (a.item, d.item); bits = a.bits ++ d.bits; tables = d.tables; units = a.units ++ d.units })
both_is {X} {Y} w two a d p e h f = ap (both_by two) e ∙ (ap (λ (q : Partitions). joined a (two a.item q)) (sym h) ∙ ap (joined a) f)

pub both_none : {X Y : Type 0} (w : Option (Piece X)) (two : X → Writing Y) (a : Piece X) (p : Partitions) → w ≡ Some a → p ≡ a.tables → two a.item p ≡ None → both_by two w ≡ None
both_none {X} {Y} w two a p e h f = ap (both_by two) e ∙ (ap (λ (q : Partitions). joined a (two a.item q)) (sym h) ∙ ap (joined a) f)

pub both_page : (p0 p1 p2 : Page) (a b : List Bool) (s t : Partitions) → p1 ≡ put_page p0 a s → p2 ≡ put_page p1 b t → p2 ≡ put_page p0 (a ++ b) t
both_page p0 p1 p2 a b s t e f =
    f ∙ (ap (λ (p : Page). put_page p b t) e ∙ ap (λ (bits : List Bool). record { setting = p0.setting; bits = bits; config = record p0.config { place = length bits; tables = t } }) (append_assoc p0.bits a b))

pub both_charged : (c0 c1 c2 : Charged) (a b : List ℕ) → c1 ≡ charge a c0 → c2 ≡ charge b c1 → c2 ≡ charge (a ++ b) c0
both_charged c0 c1 c2 a b e f = f ∙ (ap (charge b) e ∙ sym (charge_append a b c0))

-- two parts that do not depend on one another
puts_both : {X Y : Type 0} (p0 p1 p2 : Page) (c0 c1 c2 : Charged) (w : Option (Piece X)) (two : Writing Y) → PutsIn {A = Unit {0}} {X = X} (Ok tt) w p0 p1 c0 c1 → PutsIn {A = Unit {0}} {X = Y} (Ok tt) (two p1.config.tables) p1 p2 c1 c2
    → PutsIn {A = Unit {0}} {X = X × Y} (Ok tt) (both_by (λ first. two) w) p0 p2 c0 c2
puts_both {X} {Y} p0 p1 p2 c0 c1 c2 w two one other = (
  record { item = ((one.0).item, (other.0).item); bits = (one.0).bits ++ (other.0).bits; tables = (other.0).tables; units = (one.0).units ++ (other.0).units },
  both_is w (λ first. two) one.0 other.0 p1.config.tables one.1 (ap (λ (p : Page). p.config.tables) one.2) other.1,
  both_page p0 p1 p2 (one.0).bits (other.0).bits (one.0).tables (other.0).tables one.2 other.2,
  both_charged c0 c1 c2 (one.0).units (other.0).units one.3 other.3,
)

none_both : {X Y : Type 0} (p0 p1 : Page) (c0 c1 : Charged) (w : Option (Piece X)) (two : Writing Y) → PutsIn {A = Unit {0}} {X = X} (Ok tt) w p0 p1 c0 c1 → two p1.config.tables ≡ None → both_by (λ (first : X). two) w ≡ None
none_both {X} {Y} p0 p1 c0 c1 w two one none = both_none w (λ first. two) one.0 p1.config.tables one.1 (ap (λ (p : Page). p.config.tables) one.2) none

abbrev pub PutsText : List ℕ → Page → Page → Charged → Charged → Type 0
PutsText x p q c d = PutsIn {A = Unit {0}} {X = List ℕ} (Ok tt) (text p.setting x p.config.tables) p q c d

abbrev pub PutsTwo : Setting → List ℕ × List ℕ → Page → Page → Charged → Charged → Type 0
PutsTwo g x p q c d = PutsIn {A = Unit {0}} {X = List ℕ × List ℕ} (Ok tt) (two_texts g x p.config.tables) p q c d

setting_same : {X : Type 0} (x : Option (Piece X)) (p q : Page) (c d : Charged) → PutsIn {A = Unit {0}} {X = X} (Ok tt) x p q c d → q.setting ≡ p.setting
setting_same {X} x p q c d put = ap (λ (z : Page). z.setting) put.2

meter_same : {X : Type 0} (x : Option (Piece X)) (p q : Page) (c d : Charged) → PutsIn {A = Unit {0}} {X = X} (Ok tt) x p q c d → q.config.meter ≡ p.config.meter
meter_same {X} x p q c d put = ap (λ (z : Page). z.config.meter) put.2

pub text_pair : (p q r : Page) (c d f : Charged) (x y : List ℕ) → PutsText x p q c d → PutsText y q r d f → PutsTwo p.setting (x, y) p r c f
text_pair p q r c d f x y one two =
    puts_both p q r c d f (text p.setting x p.config.tables) (text p.setting y) one
    (subst (λ (g : Setting). PutsIn {A = Unit {0}} {X = List ℕ} (Ok tt) (text g y q.config.tables) q r d f) (setting_same (text p.setting x p.config.tables) p q c d one) two)

pub text_none : (p q : Page) (c d : Charged) (x y : List ℕ) → PutsText x p q c d → text q.setting y q.config.tables ≡ None → two_texts p.setting (x, y) p.config.tables ≡ None
text_none p q c d x y one none =
    none_both p q c d (text p.setting x p.config.tables) (text p.setting y) one (ap (λ (g : Setting). text g y q.config.tables) (sym (setting_same (text p.setting x p.config.tables) p q c d one)) ∙ none)

pub first_none : {X Y : Type 0} (w : Option (Piece X)) (two : X → Writing Y) → w ≡ None → both_by two w ≡ None
first_none {X} {Y} w two e = ap (both_by two) e

-- ---- instructions
pub instruction_stop : (stopped : PutStop) (old mid new : Page) (toll owed charged : Charged) (rule : Kept) (x y : List ℕ) → IsReady old → toll ≡ Ok old.config.meter → mid.config.meter ≡ old.config.meter → IsBegun (of_kind content.Instruction) old mid toll owed rule
    → PutsIn {A = Unit {0}} {X = List ℕ} (Err stopped) (text mid.setting x mid.config.tables) mid new owed charged → Writes {X = Unit {0}} (Err stopped) old new (by_chosen old.setting old.config (event.pi x y))
instruction_stop stopped old mid new toll owed charged rule x y ready paid meter b put =
    put_stop (Unit {0}) stopped old mid new owed owed charged rule (event.pi x y) instruction b.code (text mid.setting x mid.config.tables)
    (at_kind (of_kind content.Instruction) old mid toll owed rule (event.pi x y) instruction ready paid b (λ q. refl) (only_instruction (rule_in rule).on (on_begun (of_kind content.Instruction) old mid toll owed rule b))) meter
    (λ none. first_none (text old.setting x old.config.tables) (λ first. text old.setting y) (ap (λ (p : Page). text p.setting x p.config.tables) (sym b.page) ∙ none)) put

pub instruction_stops : (stopped : PutStop) (old mid last new : Page) (toll owed d charged : Charged) (rule : Kept) (x y : List ℕ) → IsReady old → toll ≡ Ok old.config.meter → mid.config.meter ≡ old.config.meter → IsBegun (of_kind content.Instruction) old mid toll owed rule
    → PutsText x mid last owed d → PutsIn {A = Unit {0}} {X = List ℕ} (Err stopped) (text last.setting y last.config.tables) last new d charged → Writes {X = Unit {0}} (Err stopped) old new (by_chosen old.setting old.config (event.pi x y))
instruction_stops stopped old mid last new toll owed d charged rule x y ready paid meter b one put =
    put_stop (Unit {0}) stopped old last new owed d charged rule (event.pi x y) instruction b.code (text last.setting y last.config.tables)
    (at_kind (of_kind content.Instruction) old mid toll owed rule (event.pi x y) instruction ready paid b (λ q. refl) (only_instruction (rule_in rule).on (on_begun (of_kind content.Instruction) old mid toll owed rule b))) (meter_same (text mid.setting x mid.config.tables) mid last owed d one ∙ meter)
    (λ none. ap (λ (p : Page). two_texts p.setting (x, y) p.config.tables) (sym b.page) ∙ text_none mid last owed d x y one none) put

pub instruction_ends : (r : Result (Unit {0}) PutStop) (old mid next last new : Page) (toll owed d charged : Charged) (rule : Kept) (x y : List ℕ) → IsReady old → toll ≡ Ok old.config.meter → IsBegun (of_kind content.Instruction) old mid toll owed rule
    → PutsText x mid next owed d → PutsText y next last d charged → Ends r new charged (moved_page rule.to last) → Writes {X = Unit {0}} r old new (by_chosen old.setting old.config (event.pi x y))
instruction_ends r old mid next last new toll owed d charged rule x y ready paid b one two page =
    one_put r old last new owed charged rule (event.pi x y) instruction b.code (moved_page rule.to)
    (at_kind (of_kind content.Instruction) old mid toll owed rule (event.pi x y) instruction ready paid b (λ q. refl) (only_instruction (rule_in rule).on (on_begun (of_kind content.Instruction) old mid toll owed rule b))) refl (λ item. b.element)
    (subst (λ (p : Page). PutsTwo p.setting (x, y) p last owed charged) b.page (text_pair mid next last owed d charged x y one two)) (λ piece m. refl) page

-- ---- the document type
pub doctype_stop : (stopped : PutStop) (old mid before new : Page) (toll owed d charged : Charged) (rule : Kept) (x y z t : List ℕ) (w : Option (Piece (List ℕ))) → IsReady old → toll ≡ Ok old.config.meter → IsBegun (of_kind content.DocumentType) old mid toll owed rule
    → before.config.meter ≡ old.config.meter → (w ≡ None → four_texts mid.setting ((x, y), (z, t)) mid.config.tables ≡ None) → PutsIn {A = Unit {0}} {X = List ℕ} (Err stopped) w before new d charged → Writes {X = Unit {0}} (Err stopped) old new (by_chosen old.setting old.config (event.dt x y z t))
doctype_stop stopped old mid before new toll owed d charged rule x y z t w ready paid b meter fails put =
    put_stop (Unit {0}) stopped old before new owed d charged rule (event.dt x y z t) document_type b.code w
    (at_kind (of_kind content.DocumentType) old mid toll owed rule (event.dt x y z t) document_type ready paid b (λ q. refl) (only_document_type (rule_in rule).on (on_begun (of_kind content.DocumentType) old mid toll owed rule b))) meter
    (λ none. ap (λ (p : Page). four_texts p.setting ((x, y), (z, t)) p.config.tables) (sym b.page) ∙ fails none) put

-- the four texts, one after another, and which of them has no spelling
pub first_fails : (p : Page) (x y z t : List ℕ) → text p.setting x p.config.tables ≡ None → four_texts p.setting ((x, y), (z, t)) p.config.tables ≡ None
first_fails p x y z t none = first_none (two_texts p.setting (x, y) p.config.tables) (λ first. two_texts p.setting (z, t)) (first_none (text p.setting x p.config.tables) (λ first. text p.setting y) none)

pub second_fails : (p q : Page) (c d : Charged) (x y z t : List ℕ) → PutsText x p q c d → text q.setting y q.config.tables ≡ None → four_texts p.setting ((x, y), (z, t)) p.config.tables ≡ None
second_fails p q c d x y z t one none = first_none (two_texts p.setting (x, y) p.config.tables) (λ first. two_texts p.setting (z, t)) (text_none p q c d x y one none)

two_none : (p r : Page) (c f : Charged) (x y z t : List ℕ) → PutsTwo p.setting (x, y) p r c f → two_texts r.setting (z, t) r.config.tables ≡ None → four_texts p.setting ((x, y), (z, t)) p.config.tables ≡ None
two_none p r c f x y z t two none =
    none_both p r c f (two_texts p.setting (x, y) p.config.tables) (two_texts p.setting (z, t)) two (ap (λ (g : Setting). two_texts g (z, t) r.config.tables) (sym (setting_same (two_texts p.setting (x, y) p.config.tables) p r c f two)) ∙ none)

pub third_fails : (p q r : Page) (c d f : Charged) (x y z t : List ℕ) → PutsText x p q c d → PutsText y q r d f → text r.setting z r.config.tables ≡ None → four_texts p.setting ((x, y), (z, t)) p.config.tables ≡ None
third_fails p q r c d f x y z t one two none = two_none p r c f x y z t (text_pair p q r c d f x y one two) (first_none (text r.setting z r.config.tables) (λ first. text r.setting t) none)

pub fourth_fails : (p q r s : Page) (c d f h : Charged) (x y z t : List ℕ) → PutsText x p q c d → PutsText y q r d f → PutsText z r s f h → text s.setting t s.config.tables ≡ None → four_texts p.setting ((x, y), (z, t)) p.config.tables ≡ None
fourth_fails p q r s c d f h x y z t one two three none = two_none p r c f x y z t (text_pair p q r c d f x y one two) (text_none r s f h z t three none)

pub text_meter : (p q : Page) (c d : Charged) (x : List ℕ) → PutsText x p q c d → q.config.meter ≡ p.config.meter
text_meter p q c d x one = meter_same (text p.setting x p.config.tables) p q c d one

pub doctype_ends : (r : Result (Unit {0}) PutStop) (old mid p1 p2 p3 last new : Page) (toll owed c1 c2 c3 charged : Charged) (rule : Kept) (x y z t : List ℕ) → IsReady old → toll ≡ Ok old.config.meter → IsBegun (of_kind content.DocumentType) old mid toll owed rule
    → PutsText x mid p1 owed c1 → PutsText y p1 p2 c1 c2 → PutsText z p2 p3 c2 c3 → PutsText t p3 last c3 charged → Ends r new charged (moved_page rule.to last) → Writes {X = Unit {0}} r old new (by_chosen old.setting old.config (event.dt x y z t))
doctype_ends r old mid p1 p2 p3 last new toll owed c1 c2 c3 charged rule x y z t ready paid b one two three four page =
    let front : PutsTwo mid.setting (x, y) mid p2 owed c2 = text_pair mid p1 p2 owed c1 c2 x y one two in
    let back : PutsTwo p2.setting (z, t) p2 last c2 charged = text_pair p2 p3 last c2 c3 charged z t three four in
    let rest : PutsTwo mid.setting (z, t) p2 last c2 charged = subst (λ (g : Setting). PutsTwo g (z, t) p2 last c2 charged) (setting_same (two_texts mid.setting (x, y) mid.config.tables) mid p2 owed c2 front) back in
    one_put r old last new owed charged rule (event.dt x y z t) document_type b.code (moved_page rule.to)
    (at_kind (of_kind content.DocumentType) old mid toll owed rule (event.dt x y z t) document_type ready paid b (λ q. refl) (only_document_type (rule_in rule).on (on_begun (of_kind content.DocumentType) old mid toll owed rule b))) refl (λ item. b.element)
    (subst (λ (p : Page). PutsIn {A = Unit {0}} {X = (List ℕ × List ℕ) × (List ℕ × List ℕ)} (Ok tt) (four_texts p.setting ((x, y), (z, t)) p.config.tables) p last owed charged) b.page
    (puts_both mid p2 last owed c2 charged (two_texts mid.setting (x, y) mid.config.tables) (two_texts mid.setting (z, t)) front rest)) (λ piece m. refl) page
