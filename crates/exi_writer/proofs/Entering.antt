-- A fragment is entered: its SD and the SE of its element stand there, since the name of that element was written before; so only
-- the charge of that name may pass a limit.
use Rattle.std.proofs.Common.{◌≡◌, ℕ, zero, suc, ◌+◌, Bool, true, false, ◌&&◌, List, [], ◌∷◌, ◌++◌, length, map, drop, get_or, slice_get, Option, Some, None, refl, sym, ap, ◌∙◌, subst, inl, inr, arith}
use Rattle.std.specs.Prelude.{Result, Ok, Err, filter, nat_le, if◌then◌else◌}
use Rattle.std.specs.Option.{is_none}
use Rattle.std.proofs.lemmas.Bool.{and_parts, cases_Bool, cases_lt, le-leb, lt-leb}
use Rattle.std.proofs.lemmas.Slice.Eq.{bytes_eq-Decides}
use Rattle.exi_bits.specs.declared.fault.Kind.{Kind}
use Rattle.exi_bits.specs.declared.fault.Kind.TheVariants as kind
use Rattle.exi_builtin.specs.declared.learnable.Room.TheVariants as room
use Rattle.exi_builtin.specs.Learning.{Learning, nothing_learned}
use Rattle.exi_gram.specs.declared.options.Options.{Options}
use Rattle.exi_gram.specs.Additions.{made_states, part_states}
use Rattle.exi_gram.specs.Books.{IsBook, is_kept, state_of}
use Rattle.exi_gram.specs.Codes.{Coded, Productions, code_bits, coded, coded_from, coded_seconds, mapped}
use Rattle.exi_gram.specs.Laws.{codes}
use Rattle.exi_gram.specs.Naming.{Entry, entry_of}
use Rattle.exi_gram.specs.Outlines.{Outline}
use Rattle.exi_gram.specs.Switches.{align_of, prefixes, strict}
use Rattle.exi_gram.specs.Tables.{no_productions}
use Rattle.exi_gram.specs.Terminals.{se_any}
use Rattle.exi_gram.specs.Terminals as gram
use Rattle.exi_gram.specs.Wholes.{document, fragment, opening, plain}
use Rattle.exi_meter.specs.Metering.{Metering, text_fits, with_text}
use Rattle.exi_names.specs.StartTables.{Names}
use Rattle.exi_names.specs.declared.names.QName.{QName}
use Rattle.exi_names.specs.Events.{Happening}
use Rattle.exi_names.specs.Events as event
use Rattle.exi_processing.specs.Configurations.{Body, Config, Setting, alone_rules, built_in, in_book, rules_of}
use Rattle.exi_gram.specs.Globals.{same_texts}
use Rattle.exi_processing.specs.Plans.{Plan, at_first, plan_of, plan_on}
use Rattle.exi_processing.specs.Rules.{Rule, Telling, Terminal, attribute, book_rule, characters, comment, declaration, document_type, element, end_document, end_element, entity, instruction, known, self_contained, spelled, start_document, under}
use Rattle.exi_processing.specs.declared.frames.Element.{Element}
use Rattle.exi_processing.specs.declared.frames.Outer.{Outer}
use Rattle.exi_processing.specs.declared.frames.Outer.TheVariants as outer
use Rattle.exi_processing.specs.declared.start.Start.{Start}
use Rattle.exi_tables.specs.Partitions.{Partitions}
use Rattle.exi_toll.specs.declared.stop.PutStop.{PutStop}
use Rattle.exi_toll.specs.declared.stop.PutStop.TheVariants as stop
use Rattle.exi_typed.specs.Strings.{Named}
use Rattle.exi_typed.specs.Written.{after_local, after_name, name_bits, prefix_bits, under_bits}
use Rattle.exi_typed.specs.WrittenLaws.{name_units, named_for}
use Rattle.exi_writing.specs.Contents.{told_name, written_on}
use Rattle.exi_writing.specs.OneEvent.{Refused, Written, ◌>>=◌, at_end as finished, behind_code, by_code, chosen, first_of, followed, followed_by, is_taken, limit, matches, not_derived, one_deeper, one_more, or_else, padding, paid, written, written_by}
use Rattle.exi_writing.specs.Pieces.{Piece, can_be_spelled, can_know, can_know_under, can_name, if_spelled, is_at, named_under}
use Rattle.exi_writing.specs.Runs.{Run, nothing_from, own, then_run, written_all}
use Rattle.exi_writing.proofs.OneEvent.{fewest_stands}
use Rattle.exi_writer.proofs.Putting.{all_then}
use Rattle.exi_writer.specs.Writing.{Composes, Composing, Enters, IsAtFragment, can_be_named, name_fits}

-- ---- what may be answered where this fits, or does not
abbrev Told : {X : Type 0} → Result X Refused → Bool → Type 0
Told (Ok x) fits = fits ≡ true
Told (Err not_derived) fits = ⊥
Told (Err (limit k m)) fits = (k ≡ kind.TextLimit) × (fits ≡ false)

told_then : (w : Written) (r : Result Run Refused) (fits : Bool) → Told r fits → Told (then_run w r) fits
told_then w (Ok r) fits h = h
told_then w (Err not_derived) fits h = h
told_then w (Err (limit k m)) fits h = h

told_one : (r : Result Written Refused) (fits : Bool) → Told r fits → Told (r >>= (λ w. then_run w (Ok (nothing_from w.given.1)))) fits
told_one (Ok w) fits h = h
told_one (Err not_derived) fits h = h
told_one (Err (limit k m)) fits h = h

told_code : (code : List Bool) (r : Result Written Refused) (fits : Bool) → Told r fits → Told (behind_code code r) fits
told_code code (Ok w) fits h = h
told_code code (Err not_derived) fits h = h
told_code code (Err (limit k m)) fits h = h

told_made : (r : Result Metering Refused) (make : Metering → Written) (fits : Bool) → Told r fits → Told (r >>= (λ m. Ok (make m))) fits
told_made (Ok m) make fits h = h
told_made (Err not_derived) make fits h = h
told_made (Err (limit k m)) make fits h = h

-- ---- the charge of a name
sum_fits : (m : Metering) (u l : ℕ) → text_fits m (u + l) ≡ text_fits (with_text m u) l
sum_fits m u l = ap (λ (n : ℕ). nat_le n m.limits.text) (let e : m.used.text + (u + l) ≡ m.used.text + u + l = omega arith in e)

true_false : {P : Type 0} → true ≡ false → P
true_false e = absurd cc

none_fits : (used u l most : ℕ) → nat_le (used + u) most ≡ false → nat_le (used + (u + l)) most ≡ false
none_fits used u l most h = elim (cases_lt most (used + u)) [
  | inl past ↦ lt-leb (used + (u + l)) most (omega (arith, past))
  | inr within ↦ true_false (sym (le-leb (used + u) most within) ∙ h)
]

paid_told : (m : Metering) (u l : ℕ) → Told (paid (u ∷ l ∷ []) m) (text_fits m (u + l))
paid_told m u l = elim (cases_Bool (text_fits m u)) [
  | inl h ↦ elim (cases_Bool (text_fits (with_text m u) l)) [
    | inl k ↦ rw (h, k) (sum_fits m u l ∙ k)
    | inr k ↦ rw (h, k) (refl, sum_fits m u l ∙ k)
  ]
  | inr h ↦ rw h (refl, none_fits m.used.text u l m.limits.text h)
]

-- ---- behind the code
by_charges : (b d : Bool) (m : Metering) (units : List ℕ) (make : Metering → Written) (fits : Bool) → b ≡ false → d ≡ false → Told (paid units m) fits → Told (one_more b m >>= (λ counted. one_deeper d counted >>= (λ entered. paid units entered >>= (λ k. Ok (make k))))) fits
by_charges true d m units make fits e f h = true_false e
by_charges false true m units make fits e f h = true_false f
by_charges false false m units make fits e f h = told_made (paid units m) make fits h

followed_told : (p : Plan) (c : Config) (z : Piece p.Item) (fits : Bool) → p.counted ≡ false → p.entered ≡ false → Told (paid z.units c.meter) fits → Told (followed_by p c z) fits
unfolding followed_by
followed_told p c z fits e f h = by_charges p.counted p.entered c.meter z.units (λ m. finished p.padded p.make c z m (z.bits ++ padding p.padded (c.place + length z.bits))) fits e f h

-- SE of a name that has no prefix charges its two texts
record Pays (p : Plan) (z : Piece p.Item) (n : QName) : Type 0 where
  counted : p.counted ≡ false
  entered : p.entered ≡ false
  units : z.units ≡ name_units n

told_units : (b : Bool) (x z : Piece Named) → if_spelled b x ≡ Some z → z.units ≡ x.units
told_units true x z e = sym (let k : x ≡ z = cc in ap (λ (y : Piece Named). y.units) k)
told_units false x z e = absurd cc

name_pays : (g : Setting) (t : Telling) (n : QName) (p : Partitions) (z : Piece Named) → told_name g t n p ≡ Some z → z.units ≡ name_units n
name_pays g spelled n p z e = told_units (can_name (prefixes g.options) p n) (record { item = named_for p n; bits = name_bits (prefixes g.options) (align_of g.options) p n; tables = after_name p n; units = name_units n }) z e
name_pays g (under uri) n p z e = told_units (can_know_under (prefixes g.options) p uri n) (record { item = named_under p uri n; bits = under_bits (prefixes g.options) (align_of g.options) p uri n.local n.prefix; tables = after_local p uri n.local; units = name_units n }) z e
name_pays g (known id) n p z e = told_units (is_at p id n && can_know (prefixes g.options) p id n) (record { item = record { id = id; name = n }; bits = prefix_bits (prefixes g.options) (align_of g.options) p id.uri n.prefix; tables = p; units = name_units n }) z e

pays_on : (g : Setting) (c : Config) (r : Rule) (t : Terminal) (n : QName) (z : Piece (plan_on g at_first c r t).Item) → written_on g at_first c r t (event.se n) c.tables ≡ Some z → Pays (plan_on g at_first c r t) z n
pays_on g c r (element t) n z h = record { counted = refl; entered = refl; units = name_pays g t n c.tables z h }
pays_on g c r start_document n z h = absurd cc
pays_on g c r end_document n z h = absurd cc
pays_on g c r (attribute t v) n z h = absurd cc
pays_on g c r (characters i) n z h = absurd cc
pays_on g c r end_element n z h = absurd cc
pays_on g c r declaration n z h = absurd cc
pays_on g c r self_contained n z h = absurd cc
pays_on g c r comment n z h = absurd cc
pays_on g c r instruction n z h = absurd cc
pays_on g c r document_type n z h = absurd cc
pays_on g c r entity n z h = absurd cc

-- ---- SE of any name stands in the content of a fragment, with a code of one part
abbrev any_rule : Rule
any_rule = record { on = element spelled; to = 1; inner = None }

abbrev Stands : List Rule → Type 0
Stands rules = (place : ℕ) × (slice_get rules place ≡ Some any_rule)

any_left : (o : Options) (names : Names) (elements : List (QName × ℕ)) → Stands (map book_rule (filter (is_kept o) (map (entry_of names) (map (opening 1) elements ++ plain se_any 1 ∷ plain gram.ed 1 ∷ []))))
any_left o names [] = (0, refl)
any_left o names (e ∷ es) = let k = any_left o names es in (suc k.0, k.1)

made_known : (b : Bool) (o : Outline) → o.known ≡ true → made_states b o ≡ document (map (λ e. (e.name, e.full)) o.globals) ∷ fragment o.fragment ∷ map (part_states b) (drop 2 o.grammars)
made_known b o is = rw is refl

any_in_book : (g : Setting) → IsBook g → g.schema.known ≡ true → Stands (in_book g 1 1).firsts
any_in_book g book is =
    let states = book.states ∙ ap (λ (z : List (List (Productions gram.Rule))). map (map (state_of g.options g.schema.names)) z) (made_known (strict g.options) g.schema is) in
    subst (λ (z : List (List (Productions Entry))). Stands (mapped book_rule (get_or (get_or z 1 []) 1 no_productions)).firsts) (sym states) (any_left g.options g.schema.names g.schema.fragment)

any_built_in : (g : Setting) → Stands (built_in g nothing_learned room.Fragment).firsts
any_built_in g = (0, refl)

any_stands : (g : Setting) → IsBook g → Stands (alone_rules g nothing_learned).firsts
any_stands g book = elim (cases_Bool g.schema.known) [
  | inl is ↦ rw is (any_in_book g book is)
  | inr is ↦ rw is (any_built_in g)
]

rule_is : (x y : Rule) → Some x ≡ Some y → x ≡ y
rule_is x y e = cc

found_in : (test : Rule → Bool) (rules : List Rule) (part place : ℕ) (r : Rule) (others : List (Coded Rule)) → slice_get rules place ≡ Some r → test r ≡ true → (x : Coded Rule) × (first_of 1 test (coded_from [] part rules ++ others) ≡ Some x)
found_in test [] part place r others e passes = absurd cc
found_in test (y ∷ ys) part zero r others e passes = (record { parts = part ∷ []; item = y }, rw (ap test (rule_is y r e) ∙ passes) refl)
found_in test (y ∷ ys) part (suc place) r others e passes = elim (cases_Bool (test y)) [
  | inl yes_is ↦ (record { parts = part ∷ []; item = y }, rw yes_is refl)
  | inr no_is ↦ let k = found_in test ys (suc part) place r others e passes in (k.0, rw no_is k.1)
]

-- ---- it may stand for an element of the name that was put aside
same_name : (n : QName) → same_texts n n ≡ true
same_name n = rw ((bytes_eq-Decides n.uri n.uri).1 refl, (bytes_eq-Decides n.local n.local).1 refl) refl

can_again : (g : Setting) (p : Partitions) (n : QName) → prefixes g.options ≡ false → can_be_named n ≡ true → can_name (prefixes g.options) p n ≡ true
can_again g p n none can =
    let a = and_parts (can_be_spelled n.uri) (can_be_spelled n.local && is_none n.prefix) can in
    let b = and_parts (can_be_spelled n.local) (is_none n.prefix) a.1 in
    rw (none, a.0, b.0) b.1

taken_so : {X : Type 0} (refused : X → Option Kind) (b : Bool) (z : Piece X) → b ≡ true → refused z.item ≡ None → is_taken refused (if_spelled b z) ≡ true
taken_so {X} refused true z is free = rw free refl
taken_so {X} refused false z is free = true_false (sym is)

none_is : {X : Type 0} (o : Option X) → is_none o ≡ true → o ≡ None
none_is {X} None h = refl
none_is {X} (Some x) h = absurd cc

taken_parts : {X : Type 0} (refused : X → Option Kind) (o : Option (Piece X)) → is_taken refused o ≡ true → (z : Piece X) × (o ≡ Some z)
taken_parts {X} refused None h = absurd cc
taken_parts {X} refused (Some z) h = (z, refl)

module _ (g : Setting) (book : IsBook g) (start : Start) (meter : Metering) (tables : Partitions) (root : Option QName) (body : Body) (bodies : List Body) (none : prefixes g.options ≡ false) (can : can_be_named body.name ≡ true) where
  -- where the fragment begins, and behind its SD
  abbrev before : ℕ → Bool → Config
  before place after_start = record { start = start; place = place; meter = meter; tables = tables; elements = []; outer = outer.AloneStart; learned = nothing_learned; after_start = after_start; root = root; aside = body ∷ bodies }

  abbrev inside : ℕ → Config
  inside place = record { start = start; place = place; meter = meter; tables = tables; elements = []; outer = outer.AloneFirst; learned = nothing_learned; after_start = false; root = root; aside = body ∷ bodies }

  abbrev begin : Happening
  begin = event.se body.name

  abbrev fits : Bool
  fits = text_fits meter (length body.name.uri + length body.name.local)

  any_matches : (place : ℕ) → matches g (inside place) begin any_rule ≡ true
  any_matches place =
      let free : other_or_none (same_texts body.name body.name) ≡ None = ap other_or_none (same_name body.name) in
      taken_so (λ (name : Named). other_or_none (same_texts body.name name.name)) (can_name (prefixes g.options) tables body.name) (record { item = named_for tables body.name; bits = name_bits (prefixes g.options) (align_of g.options) tables body.name; tables = after_name tables body.name; units = name_units body.name }) (can_again g tables body.name none can) free
    where
      other_or_none : Bool → Option Kind
      other_or_none b = if b then None else Some kind.ScRoot

  any_chosen : (place : ℕ) → (x : Coded Rule) × (chosen g (inside place) begin ≡ Some x)
  any_chosen place =
      let s = any_stands g book in
      let test : Rule → Bool = matches g (inside place) begin in
      let rules = alone_rules g nothing_learned in
      let others = coded_seconds (length rules.firsts ∷ []) 0 rules.seconds in
      let k = found_in test rules.firsts 0 s.0 any_rule others s.1 (any_matches place) in
      (k.0, ap (λ (o : Option (Coded Rule)). or_else o (or_else (first_of 2 test (coded rules)) (first_of 3 test (coded rules)))) k.1)

  units_are : name_units body.name ≡ length body.name.uri ∷ length body.name.local ∷ []
  units_are =
      let a = and_parts (can_be_spelled body.name.uri) (can_be_spelled body.name.local && is_none body.name.prefix) can in
      let b = and_parts (can_be_spelled body.name.local) (is_none body.name.prefix) a.1 in
      rw (none_is body.name.prefix b.1) refl

  -- SE, by whichever production may stand for it
  by_told : (place : ℕ) (x : Coded Rule) → matches g (inside place) begin x.item ≡ true → Told (by_code g (inside place) begin (Some x)) fits
  by_told place x passes =
      let c : Config = inside place in
      let code = code_bits (align_of g.options) (codes (rules_of g c)) x.parts in
      let p : Plan = plan_of g c x.item in
      let d : Config = record c { place = c.place + length code } in
      let m = and_parts (is_none p.barred && is_none p.misplaced) (is_taken p.refused (written_by g c x.item begin tables)) passes in
      let t = taken_parts p.refused (written_by g c x.item begin tables) m.1 in
      let k = pays_on g c x.item x.item.on body.name t.0 t.1 in
      let pays : Told (paid t.0.units meter) fits = subst (λ (us : List ℕ). Told (paid us meter) fits) (sym (k.units ∙ units_are)) (paid_told meter (length body.name.uri) (length body.name.local)) in
      told_code code (followed p d (written_by g c x.item begin tables)) fits (subst (λ (o : Option (Piece p.Item)). Told (followed p d o) fits) (sym t.1) (followed_told p d t.0 fits k.counted k.entered pays))

  se_told : (place : ℕ) → Told (written g (inside place) begin) fits
  unfolding written
  se_told place =
      let k = any_chosen place in
      let passes : matches g (inside place) begin k.0.item ≡ true = (fewest_stands (matches g (inside place) begin) (coded (rules_of g (inside place))) k.0 k.1).passes in
      subst (λ (o : Option (Coded Rule)). Told (by_code g (inside place) begin o) fits) (sym k.1) (by_told place k.0 passes)

  -- SD, which charges nothing
  sd_written : (place : ℕ) (after_start : Bool) → (w : Written) × (written g (before place after_start) event.sd ≡ Ok w) × (next : ℕ) × (w.given.1 ≡ inside next)
  unfolding written followed_by
  sd_written place after_start = (_, refl, _, refl)

  entered_told : (place : ℕ) (after_start : Bool) → Told (written_all g (before place after_start) (event.sd ∷ begin ∷ [])) fits
  entered_told place after_start =
      let w = sd_written place after_start in
      let one : Told (written_all g (inside w.2) (begin ∷ [])) fits = told_one (written g (inside w.2) begin) fits (se_told w.2) in
      let there : Told (written_all g w.0.given.1 (begin ∷ [])) fits = subst (λ (c : Config). Told (written_all g c (begin ∷ [])) fits) (sym w.3) one in
      subst (λ (r : Result Run Refused). Told r fits) (sym (all_then g (before place after_start) event.sd (begin ∷ []) w.0 (written_all g w.0.given.1 (begin ∷ [])) w.1 refl)) (told_then w.0 (written_all g w.0.given.1 (begin ∷ [])) fits there)

-- ---- where a writer stands at a fragment
abbrev at_parts : Config → List Element → Outer → Learning → List Body → Config
at_parts c es o l bs = record { start = c.start; place = c.place; meter = c.meter; tables = c.tables; elements = es; outer = o; learned = l; after_start = c.after_start; root = c.root; aside = bs }

parts_told : (g : Setting) → IsBook g → (c : Config) (es : List Element) (o : Outer) (l : Learning) (bs : List Body) (body : Body) (bodies : List Body) → es ≡ [] → o ≡ outer.AloneStart → l ≡ nothing_learned → bs ≡ body ∷ bodies → prefixes g.options ≡ false → can_be_named body.name ≡ true
    → Told (written_all g (at_parts c es o l bs) (own (at_parts c es o l bs))) (name_fits c.meter bs)
parts_told g book c es o l bs body bodies e f h k none can = rw (e, f, h, k) (entered_told g book c.start c.meter c.tables c.root body bodies none can c.place c.after_start)

fragment_told : (w : Composing) → IsAtFragment w → Told (written_all w.setting w.config (own w.config)) (name_fits w.config.meter w.config.aside)
fragment_told w k = parts_told w.setting k.composed.is_setting.book w.config w.config.elements w.config.outer w.config.learned w.config.aside k.at.body k.at.bodies k.at.elements k.at.outer_is k.at.learned k.at.aside k.at.no_prefixes k.named

enters_by : (res : Result (Unit {0}) PutStop) (old new : Composing) (runs : Result Run Refused) (b : Bool) → Told runs b → Composes res old new false runs → Enters res b
enters_by (Ok x) old new runs b t h = subst (λ (z : Result Run Refused). Told z b) h.1 t
enters_by (Err stop.NotDerived) old new runs b t h = subst (λ (z : Result Run Refused). Told z b) h t
enters_by (Err (stop.Limit k)) old new runs b t h = subst (λ (z : Result Run Refused). Told z b) h t
enters_by (Err stop.Memory) old new runs b t h = tt

pub enters_fits : (res : Result (Unit {0}) PutStop) (old new : Composing) → IsAtFragment old → Composes res old new false (written_all old.setting old.config (own old.config)) → Enters res (name_fits old.config.meter old.config.aside)
enters_fits res old new k h = enters_by res old new (written_all old.setting old.config (own old.config)) (name_fits old.config.meter old.config.aside) (fragment_told old k) h
