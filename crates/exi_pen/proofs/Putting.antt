-- What is put behind a code is what the definition writes there.
use Rattle.std.proofs.Common.{◌≡◌, ◌≤◌, ◌+◌, ◌-◌, ◌^◌, ℕ, Bool, true, false, ◌&&◌, List, [], ◌∷◌, ◌++◌, length, cond, Option, Some, None, refl, sym, ap, ◌∙◌, subst, inl, inr, arith}
use Rattle.std.specs.Prelude.{Result, Ok, Err, IfOk, IfSome}
use Rattle.std.proofs.lemmas.Bool.{cases_Bool}
use Rattle.std.proofs.lemmas.List.{append-nil}
use Rattle.exi_gram.specs.Switches.{align_of, prefixes, strict}
use Rattle.exi_meter.specs.Metering.{text_fits}
use Rattle.exi_gram.specs.declared.options.Options.{Options}
use Rattle.exi_names.specs.Datatypes.{Representation}
use Rattle.exi_names.specs.Datatypes as datatype
use Rattle.exi_names.specs.Seen.{Value, Values, list_step, seen, seen_step}
use Rattle.exi_names.specs.Seen as shape
use Rattle.exi_names.specs.declared.val.Val.{fold-roll-Val}
use Rattle.exi_names.specs.declared.val.Val.TheOpen.{Val-F}
use Rattle.exi_names.specs.declared.val.Val.TheVariants.{rolls-Name, rolls-Text}
use Rattle.exi_names.specs.declared.val.Val.TheVariants as val
use Rattle.exi_names.specs.declared.names.NameId.{NameId}
use Rattle.exi_names.specs.declared.names.QName.{QName}
use Rattle.exi_tables.specs.Growth.{NoneLonger}
use Rattle.exi_tables.specs.Partitions.{IsName, Partitions, least_place, locals, uris, with_local, with_uri}
use Rattle.exi_tables.proofs.Growing.{longer_local, longer_uri}
use Rattle.exi_typed.specs.Strings.{Declaration, Named}
use Rattle.exi_typed.specs.Written.{after_declaration, after_local, after_name, after_string, after_uri, declaration_bits, literal_bits, name_bits, prefix_bits, space_for, string_bits, under_bits, unless_found}
use Rattle.exi_typed.specs.WrittenLaws.{name_units, named_for}
use Rattle.exi_values.specs.Written.{after_valued, valued_bits}
use Rattle.exi_values.specs.WrittenLaws.{valued_units}
use Rattle.exi_writing.specs.Contents as contents
use Rattle.exi_writing.specs.Contents.{type_value}
use Rattle.exi_writing.specs.Pruned.{pruned_name, pruned_value}
use Rattle.exi_processing.specs.Contents.{named_type}
use Rattle.std.specs.Option.{is_none}
use Rattle.exi_writing.specs.Pieces as piece
use Rattle.exi_writing.specs.Pieces.{Piece, can_be_spelled, can_be_valued, can_know, can_know_under, can_name, if_spelled, is_at, named_under, turned, with_unit}
use Rattle.exi_processing.specs.Rules.{known, under}
use Rattle.exi_processing.specs.declared.rule.Telling.TheVariants as told
use Rattle.exi_choice.specs.Wanted.{is_told, told_of}
use Rattle.exi_toll.specs.Charges.{Charged, charge, is_within}
use Rattle.exi_toll.specs.declared.stop.PutStop.{PutStop}
use Rattle.exi_toll.specs.declared.stop.PutStop.TheVariants as stop
use Rattle.exi_pen.specs.Pages.{IsPutLast, Page, PutsIn, PutsLast, put_page}
use Rattle.exi_choice.specs.Fitting.{as_type}
use Rattle.exi_pen.specs.Values.{declared_value, value_by}
use Rattle.exi_pen.proofs.Places.{found_at, found_known, found_name, told_known, told_place}

-- ---- the page
abbrev pub next : Page → List Bool → Partitions → Page
next p out tables = record { setting = p.setting; bits = out; config = record p.config { place = length out; tables = tables } }

pub next_is : (p : Page) (out text : List Bool) (tables held : Partitions) → out ≡ p.bits ++ text → tables ≡ held → next p out tables ≡ put_page p text held
next_is p out text tables held b t = ap (λ (z : List Bool). next p z tables) b ∙ ap (λ (z : Partitions). next p (p.bits ++ text) z) t

-- what has a spelling is put
put_spelled : {A X : Type 0} (a : A) (p : Page) (b : Bool) (x : Piece X) (out : List Bool) (tables : Partitions) (toll owed : Charged) → b ≡ true → out ≡ p.bits ++ x.bits → tables ≡ x.tables → owed ≡ charge x.units toll → PutsIn {A = A} {X = X} (Ok a) (if_spelled b x) p (next p out tables) toll owed
put_spelled a p true x out tables toll owed h bits held charged = (x, refl, next_is p out x.bits tables x.tables bits held, charged)
put_spelled a p false x out tables toll owed h bits held charged = absurd cc

by_options : (o q : Options) (f : Options → List Bool) (out before : List Bool) → o ≡ q → out ≡ before ++ f o → out ≡ before ++ f q
by_options o q f out before e h = h ∙ ap (λ (z : Options). before ++ f z) e

-- ---- each piece, where it has a spelling
pub literal_put : {was old : Page} → was ≡ old → (o : Options) (x : List ℕ) (b : Bool) (out : List Bool) (toll owed : Charged) → o ≡ was.setting.options → b ≡ can_be_spelled x → b ≡ true
    → out ≡ was.bits ++ literal_bits (align_of o) x → owed ≡ charge (length x ∷ []) toll
    → PutsIn {A = Unit {0}} {X = List ℕ} (Ok tt) (contents.text old.setting x old.config.tables) old (next was out was.config.tables) toll owed
literal_put {was} {old} v o x b out toll owed e can h bits charged = subst (λ (p : Page). PutsIn {A = Unit {0}} {X = List ℕ} (Ok tt) (contents.text p.setting x p.config.tables) p (next was out was.config.tables) toll owed) v
    (put_spelled {A = Unit {0}} tt was (can_be_spelled x) (record { item = x; bits = literal_bits (align_of was.setting.options) x; tables = was.config.tables; units = length x ∷ [] }) out was.config.tables toll owed (sym can ∙ h) (by_options o was.setting.options (λ z. literal_bits (align_of z) x) out was.bits e bits) refl charged)

pub string_put : {was old : Page} → was ≡ old → (o : Options) (name : NameId) (x : List ℕ) (b : Bool) (out : List Bool) (tables : Partitions) (toll owed : Charged) → o ≡ was.setting.options → b ≡ can_be_spelled x → b ≡ true
    → out ≡ was.bits ++ string_bits None (align_of o) was.config.tables name x → tables ≡ after_string was.config.tables name x → owed ≡ charge (length x ∷ []) toll
    → PutsIn {A = Unit {0}} {X = Value} (Ok tt) (piece.value datatype.text (align_of old.setting.options) name (shape.text x) old.config.tables) old (next was out tables) toll owed
unfolding after_valued valued_bits valued_units
string_put {was} {old} v o name x b out tables toll owed e can h bits held charged = subst (λ (p : Page). PutsIn {A = Unit {0}} {X = Value} (Ok tt) (piece.value datatype.text (align_of p.setting.options) name (shape.text x) p.config.tables) p (next was out tables) toll owed) v
    (put_spelled {A = Unit {0}} tt was (can_be_spelled x) (record { item = shape.text x; bits = string_bits None (align_of was.setting.options) was.config.tables name x; tables = after_string was.config.tables name x; units = length x ∷ [] }) out tables toll owed (sym can ∙ h) (by_options o was.setting.options (λ z. string_bits None (align_of z) was.config.tables name x) out was.bits e bits) held charged)

pub declaration_put : {was old : Page} → was ≡ old → (o : Options) (d : Declaration) (b : Bool) (out : List Bool) (tables : Partitions) (toll owed : Charged) → o ≡ was.setting.options → b ≡ (can_be_spelled d.uri && can_be_spelled d.prefix) → b ≡ true
    → out ≡ was.bits ++ declaration_bits (align_of o) was.config.tables d → tables ≡ after_declaration was.config.tables d → owed ≡ charge (length d.uri ∷ length d.prefix ∷ []) toll
    → PutsIn {A = Unit {0}} {X = Declaration} (Ok tt) (piece.declaration (align_of old.setting.options) d old.config.tables) old (next was out tables) toll owed
declaration_put {was} {old} v o d b out tables toll owed e can h bits held charged = subst (λ (p : Page). PutsIn {A = Unit {0}} {X = Declaration} (Ok tt) (piece.declaration (align_of p.setting.options) d p.config.tables) p (next was out tables) toll owed) v
    (put_spelled {A = Unit {0}} tt was (can_be_spelled d.uri && can_be_spelled d.prefix) (record { item = d; bits = declaration_bits (align_of was.setting.options) was.config.tables d; tables = after_declaration was.config.tables d; units = length d.uri ∷ length d.prefix ∷ [] }) out tables toll owed (sym can ∙ h) (by_options o was.setting.options (λ z. declaration_bits (align_of z) was.config.tables d) out was.bits e bits) held charged)

-- ---- names
some_named : (b : Bool) (x id : NameId) → Some id ≡ cond b (Some x) None → b ≡ true
some_named true x id h = refl
some_named false x id h = absurd cc

pub told_some : {X P : Type 0} (o : Option X) (x : X) → IfSome o (λ y. P) → o ≡ Some x → P
told_some None x h e = absurd cc
told_some (Some y) x h e = h

pub name_put : {was old : Page} → was ≡ old → (o : Options) (n : QName) (id : NameId) (out : List Bool) (tables : Partitions) (toll owed : Charged) → o ≡ was.setting.options
    → Some id ≡ cond (can_name (prefixes o) was.config.tables n) (Some (named_for was.config.tables n).id) None
    → out ≡ was.bits ++ name_bits (prefixes o) (align_of o) was.config.tables n → tables ≡ after_name was.config.tables n → owed ≡ charge (name_units n) toll
    → PutsIn {A = NameId} {X = Named} (Ok id) (piece.name (prefixes old.setting.options) (align_of old.setting.options) n old.config.tables) old (next was out tables) toll owed
name_put {was} {old} v o n id out tables toll owed e found bits held charged =
    let can : can_name (prefixes was.setting.options) was.config.tables n ≡ true = subst (λ (z : Options). can_name (prefixes z) was.config.tables n ≡ true) e (some_named (can_name (prefixes o) was.config.tables n) (named_for was.config.tables n).id id found) in
    subst (λ (p : Page). PutsIn {A = NameId} {X = Named} (Ok id) (piece.name (prefixes p.setting.options) (align_of p.setting.options) n p.config.tables) p (next was out tables) toll owed) v
    (put_spelled id was (can_name (prefixes was.setting.options) was.config.tables n) (record { item = named_for was.config.tables n; bits = name_bits (prefixes was.setting.options) (align_of was.setting.options) was.config.tables n; tables = after_name was.config.tables n; units = name_units n }) out tables toll owed can (by_options o was.setting.options (λ z. name_bits (prefixes z) (align_of z) was.config.tables n) out was.bits e bits) held charged)

-- one that the code tells, by its least places
pub known_put : {was old : Page} → was ≡ old → (o : Options) (id : NameId) (n : QName) (b : Bool) (out : List Bool) (toll owed : Charged) → o ≡ was.setting.options → told_of old.config.tables n ≡ told.Known id
    → b ≡ can_know (prefixes o) was.config.tables id n → b ≡ true
    → out ≡ was.bits ++ prefix_bits (prefixes o) (align_of o) was.config.tables id.uri n.prefix → owed ≡ charge (name_units n) toll
    → PutsIn {A = NameId} {X = Named} (Ok id) (piece.known (prefixes old.setting.options) (align_of old.setting.options) id n old.config.tables) old (next was out was.config.tables) toll owed
known_put {was} {old} v o id n b out toll owed e tells can h bits charged =
    let place : told_of was.config.tables n ≡ told.Known id = subst (λ (p : Page). told_of p.config.tables n ≡ told.Known id) (sym v) tells in
    let at : is_at was.config.tables id n ≡ true = found_at was.config.tables n id (found_known was.config.tables n id place) in
    let know : can_know (prefixes was.setting.options) was.config.tables id n ≡ true = subst (λ (z : Options). can_know (prefixes z) was.config.tables id n ≡ true) e (sym can ∙ h) in
    let spelled : (is_at was.config.tables id n && can_know (prefixes was.setting.options) was.config.tables id n) ≡ true = both_true (is_at was.config.tables id n) (can_know (prefixes was.setting.options) was.config.tables id n) at know in
    subst (λ (p : Page). PutsIn {A = NameId} {X = Named} (Ok id) (piece.known (prefixes p.setting.options) (align_of p.setting.options) id n p.config.tables) p (next was out was.config.tables) toll owed) v
    (put_spelled id was (is_at was.config.tables id n && can_know (prefixes was.setting.options) was.config.tables id n) (record { item = record { id = id; name = n }; bits = prefix_bits (prefixes was.setting.options) (align_of was.setting.options) was.config.tables id.uri n.prefix; tables = was.config.tables; units = name_units n }) out was.config.tables toll owed spelled (by_options o was.setting.options (λ z. prefix_bits (prefixes z) (align_of z) was.config.tables id.uri n.prefix) out was.bits e bits) refl charged)
  where
    both_true : (a c : Bool) → a ≡ true → c ≡ true → (a && c) ≡ true
    both_true true true x y = refl
    both_true true false x y = absurd cc
    both_true false c x y = absurd cc

-- one of which the code tells the URI
pub under_put : {was old : Page} → was ≡ old → (o : Options) (uri : ℕ) (n : QName) (id : NameId) (out : List Bool) (tables : Partitions) (toll owed : Charged) → o ≡ was.setting.options
    → Some id ≡ cond (can_know_under (prefixes o) was.config.tables uri n) (Some (named_under was.config.tables uri n).id) None
    → out ≡ was.bits ++ under_bits (prefixes o) (align_of o) was.config.tables uri n.local n.prefix → tables ≡ after_local was.config.tables uri n.local → owed ≡ charge (name_units n) toll
    → PutsIn {A = NameId} {X = Named} (Ok id) (piece.under (prefixes old.setting.options) (align_of old.setting.options) uri n old.config.tables) old (next was out tables) toll owed
under_put {was} {old} v o uri n id out tables toll owed e found bits held charged =
    let can : can_know_under (prefixes was.setting.options) was.config.tables uri n ≡ true = subst (λ (z : Options). can_know_under (prefixes z) was.config.tables uri n ≡ true) e (some_named (can_know_under (prefixes o) was.config.tables uri n) (named_under was.config.tables uri n).id id found) in
    subst (λ (p : Page). PutsIn {A = NameId} {X = Named} (Ok id) (piece.under (prefixes p.setting.options) (align_of p.setting.options) uri n p.config.tables) p (next was out tables) toll owed) v
    (put_spelled id was (can_know_under (prefixes was.setting.options) was.config.tables uri n) (record { item = named_under was.config.tables uri n; bits = under_bits (prefixes was.setting.options) (align_of was.setting.options) was.config.tables uri n.local n.prefix; tables = after_local was.config.tables uri n.local; units = name_units n }) out tables toll owed can (by_options o was.setting.options (λ z. under_bits (prefixes z) (align_of z) was.config.tables uri n.local n.prefix) out was.bits e bits) held charged)

-- what the code tells stands in the tables
pub told_as_known : (p : Partitions) (n : QName) (id : NameId) → is_told (told_of p n) (known id) ≡ true → told_of p n ≡ told.Known id
told_as_known p n id h = told_known (told_of p n) id h

pub told_as_under : (p : Partitions) (n : QName) (uri : ℕ) → is_told (told_of p n) (under uri) ≡ true → least_place (uris p) n.uri ≡ Some uri
told_as_under p n uri h = told_place p n uri h

pub told_name : (p : Partitions) (n : QName) (id : NameId) → told_of p n ≡ told.Known id → IsName p id
told_name p n id h = found_name p n id (found_known p n id h)

-- ---- the last of an event
pub last_of : {A X : Type 0} (r : Result A PutStop) (w : Option (Piece X)) (old new : Page) (toll charged : Charged) → PutsIn r w old new toll charged → PutsLast r w old new toll charged
last_of (Ok a) w old new toll charged h = (h.0, h.1, record { text = h.0.bits; tables = h.0.tables; page = h.2; charges = h.3; written = λ e. (refl, refl) })
last_of (Err stop.NotDerived) w old new toll charged h = h
last_of (Err (stop.Limit k)) w old new toll charged h = h
last_of (Err stop.Memory) w old new toll charged h = tt

-- what a string and a name are as values
pub shown_text : (x : List ℕ) → seen (val.Text x) ≡ shape.text x
shown_text x = ap seen (sym (rolls-Text x)) ∙ fold-roll-Val Value Values seen_step list_step (Val-F.Text x)

pub shown_name : (n : QName) → seen (val.Name n) ≡ shape.name n
shown_name n = ap seen (sym (rolls-Name n)) ∙ fold-roll-Val Value Values seen_step list_step (Val-F.Name n)

-- one unit before others
charge_one : (units : List ℕ) (toll : Charged) → charge units (charge (1 ∷ []) toll) ≡ charge (1 ∷ units) toll
charge_one units (Err why) = refl
charge_one units (Ok m) = elim (cases_Bool (text_fits m 1)) [
  | inl yes_is ↦ rw yes_is refl
  | inr no_is ↦ rw no_is refl
]

-- a name that is a value, behind its unit
pub name_last : (r : Result (Unit {0}) PutStop) (f : Named → Value) (w : Option (Piece Named)) (old new : Page) (toll charged : Charged) → PutsIn {A = Unit {0}} {X = Named} r w old new (charge (1 ∷ []) toll) charged
    → PutsLast {A = Unit {0}} {X = Value} r (turned f (with_unit w)) old new toll charged
name_last (Ok a) f w old new toll charged h =
    let piece = h.0 in (
      record { item = f piece.item; bits = piece.bits; tables = piece.tables; units = 1 ∷ piece.units },
      ap (λ (o : Option (Piece Named)). turned f (with_unit o)) h.1,
      record { text = piece.bits; tables = piece.tables; page = h.2; charges = h.3 ∙ charge_one piece.units toll; written = λ e. (refl, refl) },
    )
name_last (Err stop.NotDerived) f w old new toll charged h = (ap (λ (o : Option (Piece Named)). turned f (with_unit o)) h.0, h.1)
name_last (Err (stop.Limit k)) f w old new toll charged h = h
name_last (Err stop.Memory) f w old new toll charged h = tt

-- a name that is a value, which has to be there in a strict stream
pub type_last : (r : Result (Unit {0}) PutStop) (v : Value) (n kept : QName) (misses : Bool) (name : NameId) (old new : Page) (toll mid charged : Charged) → v ≡ shape.name n
    → misses ≡ (strict old.setting.options && is_none (named_type old.setting v)) → misses ≡ false → kept ≡ pruned_name old.setting.options n → mid ≡ charge (1 ∷ []) toll
    → PutsIn {A = Unit {0}} {X = Named} r (piece.name (prefixes old.setting.options) (align_of old.setting.options) kept old.config.tables) old new mid charged
    → PutsLast {A = Unit {0}} {X = Value} r (declared_value old.setting as_type name v old.config.tables) old new toll charged
type_last r v n kept misses name old new toll mid charged is test no_miss prunes unit put =
    let w : Option (Piece Named) = piece.name (prefixes old.setting.options) (align_of old.setting.options) kept old.config.tables in
    let last : PutsLast {A = Unit {0}} {X = Value} r (turned (λ x. shape.name x.name) (with_unit w)) old new toll charged
    = name_last r (λ x. shape.name x.name) w old new toll charged (subst (λ (t : Charged). PutsIn {A = Unit {0}} {X = Named} r w old new t charged) unit put) in
    let there : declared_value old.setting as_type name v old.config.tables ≡ type_value old.setting (pruned_value old.setting.options v) old.config.tables
    = ap (λ (b : Bool). cond b None (type_value old.setting (pruned_value old.setting.options v) old.config.tables)) (sym test ∙ no_miss) in
    let named : type_value old.setting (pruned_value old.setting.options v) old.config.tables ≡ turned (λ x. shape.name x.name) (with_unit w)
    = ap (λ (z : Value). type_value old.setting (pruned_value old.setting.options z) old.config.tables) is ∙ ap (λ (z : QName). type_value old.setting (shape.name z) old.config.tables) (sym prunes) in
    subst (λ (o : Option (Piece Value)). PutsLast {A = Unit {0}} {X = Value} r o old new toll charged) (sym (there ∙ named)) last

-- a string
-- a text that is a value has a spelling where the value has one
pub text_spelled : (v : Value) (x : List ℕ) → v ≡ shape.text x → can_be_valued v ≡ true → can_be_spelled x ≡ true
text_spelled v x e h = ap can_be_valued (sym e) ∙ h

pub string_last : (r : Result (Unit {0}) PutStop) (v : Value) (x : List ℕ) (name : NameId) (old new : Page) (toll charged : Charged) → v ≡ shape.text x
    → PutsIn {A = Unit {0}} {X = Value} r (piece.value datatype.text (align_of old.setting.options) name (shape.text x) old.config.tables) old new toll charged
    → PutsLast {A = Unit {0}} {X = Value} r (value_by old.setting datatype.text name v old.config.tables) old new toll charged
string_last r v x name old new toll charged e h = subst (λ (z : Value). PutsLast {A = Unit {0}} {X = Value} r (value_by old.setting datatype.text name z old.config.tables) old new toll charged) (sym e) (last_of r (piece.value datatype.text (align_of old.setting.options) name (shape.text x) old.config.tables) old new toll charged h)

-- a value, as far as no charge passes its limit
typed_within : (b : Bool) (p : Page) (x : Piece Value) (out : List Bool) (tables : Partitions) (toll owed : Charged) → b ≡ is_within owed → out ≡ cond b (p.bits ++ x.bits) p.bits → tables ≡ cond b x.tables p.config.tables → owed ≡ charge x.units toll
    → IsPutLast {X = Value} x p (next p out tables) toll owed
typed_within true p x out tables toll owed b bits held charged = record { text = x.bits; tables = x.tables; page = next_is p out x.bits tables x.tables bits held; charges = charged; written = λ e. (refl, refl) }
typed_within false p x out tables toll owed b bits held charged = record {
  text = [];
  tables = p.config.tables;
  page = next_is p out [] tables p.config.tables (bits ∙ sym (append-nil p.bits)) held;
  charges = charged;
  written = λ e. absurd (not_both (is_within owed) b e);
}
  where
    not_both : (b : Bool) → false ≡ b → b ≡ true → ⊥
    not_both true h e = absurd cc
    not_both false h e = absurd cc

pub typed_put : {was old : Page} → was ≡ old → (o : Options) (r : Representation) (name : NameId) (v : Value) (out : List Bool) (tables : Partitions) (toll owed : Charged) → o ≡ was.setting.options → can_be_valued v ≡ true
    → out ≡ cond (is_within owed) (was.bits ++ valued_bits r (align_of o) name was.config.tables v) was.bits → tables ≡ cond (is_within owed) (after_valued r name was.config.tables v) was.config.tables → owed ≡ charge (valued_units r v) toll
    → PutsLast {A = Unit {0}} {X = Value} (Ok tt) (value_by old.setting r name v old.config.tables) old (next was out tables) toll owed
typed_put {was} {old} v o r name x out tables toll owed e can bits held charged =
    let there : Piece Value = record { item = x; bits = valued_bits r (align_of was.setting.options) name was.config.tables x; tables = after_valued r name was.config.tables x; units = valued_units r x } in
    let spelled : if_spelled (can_be_valued x) there ≡ Some there = ap (λ (b : Bool). if_spelled b there) can in
    let same : out ≡ cond (is_within owed) (was.bits ++ there.bits) was.bits = bits ∙ ap (λ (z : Options). cond (is_within owed) (was.bits ++ valued_bits r (align_of z) name was.config.tables x) was.bits) e in
    subst (λ (p : Page). PutsLast {A = Unit {0}} {X = Value} (Ok tt) (value_by p.setting r name x p.config.tables) p (next was out tables) toll owed) v
    (there, spelled, typed_within (is_within owed) was there out tables toll owed refl same held charged)

-- ---- the tables stay small
pub few_more : (m n : ℕ) (p : Partitions) → m ≤ n → NoneLonger m p → NoneLonger n p
few_more m n p le few = record {
  few_uris = omega (arith, few.few_uris, le);
  few_locals = λ i. omega (arith, few.few_locals i, le);
  few_prefixes = λ i. omega (arith, few.few_prefixes i, le);
  few_values = omega (arith, few.few_values, le);
  few_own = λ name. omega (arith, few.few_own name, le);
}

few_uri : (most : ℕ) (p : Partitions) (x : List ℕ) → NoneLonger most p → NoneLonger (most + 1) (after_uri p x)
few_uri most p x few = by_place (least_place (uris p) x)
  where
    by_place : (o : Option ℕ) → NoneLonger (most + 1) (unless_found o p (with_uri p x))
    by_place (Some place) = few_more most (most + 1) p (omega arith) few
    by_place None = longer_uri most p x few

few_local : (most : ℕ) (p : Partitions) (uri : ℕ) (x : List ℕ) → NoneLonger most p → NoneLonger (most + 1) (after_local p uri x)
few_local most p uri x few = by_place (least_place (locals p uri) x)
  where
    by_place : (o : Option ℕ) → NoneLonger (most + 1) (unless_found o p (with_local p uri x))
    by_place (Some place) = few_more most (most + 1) p (omega arith) few
    by_place None = longer_local most p uri x few

pub few_name : (most : ℕ) (p : Partitions) (n : QName) → NoneLonger most p → NoneLonger (most + 1 + 1) (after_name p n)
few_name most p n few = few_local (most + 1) (after_uri p n.uri) (space_for p n.uri) n.local (few_uri most p n.uri few)

few_named : (p q : Partitions) (n : QName) → NoneLonger (2 ^ 31 - 2) p → q ≡ after_name p n → NoneLonger (2 ^ 31) q
few_named p q n few e = subst (λ (z : Partitions). NoneLonger (2 ^ 31) z) (sym e) (few_more (2 ^ 31 - 2 + 1 + 1) (2 ^ 31) (after_name p n) (omega arith) (few_name (2 ^ 31 - 2) p n few))

-- behind what the code tells
few_within : (p q : Partitions) → NoneLonger (2 ^ 31 - 2) p → q ≡ p → NoneLonger (2 ^ 31) q
few_within p q few e = subst (λ (z : Partitions). NoneLonger (2 ^ 31) z) (sym e) (few_more (2 ^ 31 - 2) (2 ^ 31) p (omega arith) few)

few_told : (p q : Partitions) (uri : ℕ) (x : List ℕ) → NoneLonger (2 ^ 31 - 2) p → q ≡ after_local p uri x → NoneLonger (2 ^ 31) q
few_told p q uri x few e = subst (λ (z : Partitions). NoneLonger (2 ^ 31) z) (sym e) (few_more (2 ^ 31 - 2 + 1) (2 ^ 31) (after_local p uri x) (omega arith) (few_local (2 ^ 31 - 2) p uri x few))

pub few_same : {A E : Type 0} (r : Result A E) (p q : Partitions) → NoneLonger (2 ^ 31 - 2) p → q ≡ p → IfOk r (λ x. NoneLonger (2 ^ 31) q)
few_same (Ok a) p q few e = few_within p q few e
few_same (Err why) p q few e = tt

pub few_under : {A E : Type 0} (r : Result A E) (p q : Partitions) (uri : ℕ) (x : List ℕ) → NoneLonger (2 ^ 31 - 2) p → IfOk r (λ a. q ≡ after_local p uri x) → IfOk r (λ a. NoneLonger (2 ^ 31) q)
few_under (Ok a) p q uri x few e = few_told p q uri x few e
few_under (Err why) p q uri x few e = tt

pub known_named : {E : Type 0} (r : Result NameId E) (id : NameId) (p q : Partitions) → IfOk r (λ k. k ≡ id) → q ≡ p → IsName p id → IfOk r (λ k. IsName q k)
known_named (Ok k) id p q same e named = subst (λ (z : Partitions). IsName z k) (sym e) (subst (λ (i : NameId). IsName p i) (sym same) named)
known_named (Err why) id p q same e named = tt

pub few_start : (p : Partitions) → NoneLonger (2 ^ 31 - 2) p → NoneLonger (2 ^ 31) p
few_start p few = few_more (2 ^ 31 - 2) (2 ^ 31) p (omega arith) few

pub few_after : {A E : Type 0} (r : Result A E) (p q : Partitions) (n : QName) → NoneLonger (2 ^ 31 - 2) p → IfOk r (λ x. q ≡ after_name p n) → IfOk r (λ x. NoneLonger (2 ^ 31) q)
few_after (Ok a) p q n few e = few_named p q n few e
few_after (Err why) p q n few e = tt
