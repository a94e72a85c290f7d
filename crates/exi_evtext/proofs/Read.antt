-- A line that is read as an event says it.
use Rattle.std.proofs.Common.{◌≡◌, ℕ, zero, suc, ◌^◌, ◌<◌, Bool, true, false, eqb, ltb, List, [], ◌∷◌, ◌++◌, take, drop, Option, Some, None, refl, sym, ap, ◌∙◌, subst, inl, inr, append_assoc}
use Rattle.std.specs.Prelude.{bytes_eq, codes, decimal, option_map}
use Rattle.std.proofs.lemmas.Bool.{cases_Bool, ltb-true}
use Rattle.std.proofs.lemmas.List.{append-nil, take-append-drop}
use Rattle.std.proofs.lemmas.Slice.Eq.{bytes_eq-Decides}
use Rattle.exi_names.specs.declared.names.QName.{QName}
use Rattle.exi_names.specs.Seen as shape
use Rattle.exi_names.specs.Seen.{Value, Values, no_more, and}
use Rattle.exi_names.specs.Events as event
use Rattle.exi_names.specs.Events.{Happening}
use Rattle.exi_digits.specs.Digits.{is_numeral, kept, number_in}
use Rattle.exi_digits.specs.Digits.{number_of as number_of_digits}
use Rattle.exi_digits.specs.Splits.{before, behind, is_mark}
use Rattle.exi_digits.proofs.Numbers.{kept_is}
use Rattle.exi_calendar.specs.Reading.{past}
use Rattle.exi_calendar.proofs.Fields.{bind_some, cond_some_of, map_some, past_back, some, some_is}
use Rattle.exi_evtext.specs.Lines.{also, between_quotes, count, each_value, name_words, truth_word, value_words, words}
use Rattle.exi_evtext.specs.Reading.{also_at, alone, attribute_in, bare, characters_in, doctype_in, event_in, event_of, fragment_in, from_space, if_shortest, instruction_in, item_at, item_of, items_at, list_at, list_value, name_at, name_value, namespace_in, number_of, only_text, place_of, plain_at, scalar_at, scalar_of, start_in, text_at, text_value, truth_of, value_at, value_of, with_item, with_rest, word_at}
use Rattle.exi_evtext.specs.Spelling.{AreItems, IsEvent, IsItem, IsText, IsValue, Says}
use Rattle.exi_evtext.proofs.Back.{alone_back, also_back, mark_back, name_back, text_back}
use Rattle.exi_evtext.proofs.Told.{scalar_back}

word_is : (word other : List ℕ) → bytes_eq word other ≡ true → word ≡ other
word_is word other h = (bytes_eq-Decides word other).0 h

-- ---- one value that is neither a list nor a name
abbrev pub IsItemAt : List ℕ → Value × List ℕ → Type 0
IsItemAt bytes r = (bytes ≡ value_words r.0 ++ r.1) × IsItem r.0

-- what stands in front of a mark, and what behind it
cut_back : (m : ℕ) (bytes : List ℕ) (r : List ℕ × List ℕ) → option_map (λ rest. (before (is_mark m) bytes, rest)) (behind (is_mark m) bytes) ≡ some r → bytes ≡ r.0 ++ m ∷ r.1
cut_back m bytes r e =
    let p = map_some (behind (is_mark m) bytes) (λ (rest : List ℕ). (before (is_mark m) bytes, rest)) r e in
    rw (← p.2) (mark_back m bytes p.0 p.1)

rest_back : {A : Type 0} (rest : List ℕ) (o : Option A) (r : A × List ℕ) → with_rest rest o ≡ some r → (o ≡ some r.0) × (rest ≡ r.1)
rest_back {A} rest None r e = absurd cc
rest_back {A} rest (Some a) r e = let same = some_is (a, rest) r e in (ap (λ (x : A × List ℕ). some x.0) same, ap (λ (x : A × List ℕ). x.1) same)

scalar_at_back : (word bytes : List ℕ) (r : Value × List ℕ) → scalar_at word bytes ≡ some r → (word ++ 32 ∷ bytes ≡ value_words r.0 ++ r.1) × IsItem r.0
scalar_at_back word bytes r e =
    let a = bind_some (past (34 ∷ []) bytes) _ r e in
    let b = bind_some (plain_at a.0) _ r a.2 in
    let plain = b.0 in
    let c = rest_back plain.1 (scalar_of word plain.0) r b.2 in
    let w = scalar_back word plain.0 r.0 c.0 in
    let inside : bytes ≡ between_quotes plain.0 ++ plain.1 =
    past_back (34 ∷ []) bytes a.0 a.1 ∙ ap (λ (x : List ℕ). 34 ∷ x) (cut_back 34 a.0 plain b.1 ∙ sym (append_assoc plain.0 (34 ∷ []) plain.1)) in
    (ap (λ (x : List ℕ). word ++ 32 ∷ x) inside ∙ sym (append_assoc word (32 ∷ between_quotes plain.0) plain.1) ∙ ap (λ (x : List ℕ). x ++ plain.1) (sym w.1) ∙ ap (λ (x : List ℕ). value_words r.0 ++ x) c.1, w.0)

text_item_back : (bytes : List ℕ) (r : Value × List ℕ) (found : List ℕ × List ℕ) → text_at bytes ≡ some found → text_value found ≡ some r → IsItemAt (codes "text " ++ bytes) r
text_item_back bytes r found e f =
    let t = text_back bytes found e in
    let same = some_is (shape.text found.0, found.1) r f in
    subst (IsItemAt (codes "text " ++ bytes)) same (ap (λ (x : List ℕ). codes "text " ++ x) t.0, t.1)

item_of_back : (found : List ℕ × List ℕ) (r : Value × List ℕ) → item_of found ≡ some r → IsItemAt (found.0 ++ 32 ∷ found.1) r
unfolding item_of
item_of_back found r e =
    elim (cases_Bool (bytes_eq found.0 (codes "text"))) [
      | inl h ↦
          let a = bind_some (text_at found.1) text_value r (rw h at e) in
          rw (word_is found.0 (codes "text") h) (text_item_back found.1 r a.0 a.1 a.2)
      | inr h ↦ scalar_at_back found.0 found.1 r (rw h at e)
    ]

pub item_back : (bytes : List ℕ) (r : Value × List ℕ) → item_at bytes ≡ some r → IsItemAt bytes r
item_back bytes r e =
    let a = bind_some (word_at bytes) item_of r e in
    rw (cut_back 32 bytes a.0 a.1) (item_of_back a.0 r a.2)

-- ---- lists
with_item_back : (v : Value) (o : Option (Values × List ℕ)) (r : Values × List ℕ) → with_item v o ≡ some r → (more : Values × List ℕ) × (o ≡ some more) × (r ≡ (and v more.0, more.1))
with_item_back v None r e = absurd cc
with_item_back v (Some more) r e = (more, refl, sym (some_is (and v more.0, more.1) r e))

abbrev AreAt : ℕ → List ℕ → Values × List ℕ → Type 0
AreAt n bytes r = (bytes ≡ each_value r.0 ++ r.1) × AreItems r.0 × (count r.0 ≡ n)

items_back : (n : ℕ) (bytes : List ℕ) (r : Values × List ℕ) → items_at n bytes ≡ some r → AreAt n bytes r
items_back zero bytes r e = subst (AreAt zero bytes) (some_is (no_more, bytes) r e) (refl, tt, refl)
items_back (suc n) bytes r e =
    let a = bind_some (past (32 ∷ []) bytes) _ r e in
    let b = bind_some (item_at a.0) _ r a.2 in
    let first = b.0 in
    let c = with_item_back first.0 (items_at n first.1) r b.2 in
    let more = c.0 in
    let i = item_back a.0 first b.1 in
    let rest = items_back n first.1 more c.1 in
    let parts : bytes ≡ each_value (and first.0 more.0) ++ more.1 =
    past_back (32 ∷ []) bytes a.0 a.1 ∙ ap (λ (x : List ℕ). 32 ∷ x) (i.0 ∙ ap (λ (x : List ℕ). value_words first.0 ++ x) rest.0 ∙ sym (append_assoc (value_words first.0) (each_value more.0) more.1)) in
    subst (AreAt (suc n) bytes) (sym c.2) (parts, (i.1, rest.1), ap suc rest.2)

shortest_back : (digits : List ℕ) (o : Option ℕ) (n : ℕ) → if_shortest digits o ≡ some n → (o ≡ some n) × (decimal n ≡ digits)
shortest_back digits None n e = absurd cc
shortest_back digits (Some m) n e =
    let p = cond_some_of (bytes_eq (decimal m) digits) (some m) n e in
    (p.1, ap decimal (sym (some_is m n p.1)) ∙ word_is (decimal m) digits p.0)

number_back : (digits : List ℕ) (n : ℕ) → number_of digits ≡ some n → (decimal n ≡ digits) × (n < 2 ^ 128)
unfolding number_of
number_back digits n e =
    let p = shortest_back digits (number_in digits) n e in
    let c = cond_some_of (is_numeral digits) (kept (number_of_digits digits)) n p.0 in
    let k = kept_is (number_of_digits digits) n c.1 in
    (p.1, subst (λ (x : ℕ). x < 2 ^ 128) k.0 k.1)

abbrev pub IsValueAt : List ℕ → Value × List ℕ → Type 0
IsValueAt bytes r = (bytes ≡ value_words r.0 ++ r.1) × IsValue r.0

-- the digits and what stands behind them
space_parts : (bytes : List ℕ) → bytes ≡ before (is_mark 32) bytes ++ from_space bytes
space_parts [] = refl
space_parts (c ∷ cs) = elim (cases_Bool (eqb c 32)) [
  | inl h ↦ rw h refl
  | inr h ↦ rw h (ap (λ (x : List ℕ). c ∷ x) (space_parts cs))
]

list_back : (bytes : List ℕ) (r : Value × List ℕ) → list_at bytes ≡ some r → IsValueAt (codes "list " ++ bytes) r
unfolding list_at
list_back bytes r e =
    let a = bind_some (number_of (before (is_mark 32) bytes)) _ r e in
    let n = a.0 in
    let b = bind_some (items_at n (from_space bytes)) list_value r a.2 in
    let found = b.0 in
    let k = number_back (before (is_mark 32) bytes) n a.1 in
    let i = items_back n (from_space bytes) found b.1 in
    let same = some_is (shape.items found.0, found.1) r b.2 in
    let digits : before (is_mark 32) bytes ≡ decimal (count found.0) = sym k.0 ∙ ap decimal (sym i.2) in
    let parts : bytes ≡ (decimal (count found.0) ++ each_value found.0) ++ found.1 =
    space_parts bytes ∙ ap (λ (x : List ℕ). x ++ from_space bytes) digits ∙ ap (λ (x : List ℕ). decimal (count found.0) ++ x) i.0 ∙ sym (append_assoc (decimal (count found.0)) (each_value found.0) found.1) in
    subst (IsValueAt (codes "list " ++ bytes)) same (ap (λ (x : List ℕ). codes "list " ++ x) parts, (subst (λ (x : ℕ). x < 2 ^ 128) (sym i.2) k.1, i.1))

-- ---- values
item_is_value : (v : Value) → IsItem v → IsValue v
item_is_value (shape.text t) h = h
item_is_value (shape.boolean truth digit) h = h
item_is_value (shape.integer n) h = h
item_is_value (shape.decimal minus whole back) h = h
item_is_value (shape.float m e) h = h
item_is_value (shape.moment m) h = h
item_is_value (shape.binary hex octets) h = h
item_is_value (shape.items vs) h = absurd h
item_is_value (shape.name n) h = absurd h

name_value_back : (bytes : List ℕ) (r : Value × List ℕ) (found : QName × List ℕ) → name_at bytes ≡ some found → name_value found ≡ some r → IsValueAt (codes "name " ++ bytes) r
name_value_back bytes r found e f =
    let n = name_back bytes found e in
    let same = some_is (shape.name found.0, found.1) r f in
    subst (IsValueAt (codes "name " ++ bytes)) same (ap (λ (x : List ℕ). codes "name " ++ x) n.0, n.1)

value_of_back : (found : List ℕ × List ℕ) (r : Value × List ℕ) → value_of found ≡ some r → IsValueAt (found.0 ++ 32 ∷ found.1) r
unfolding value_of
value_of_back found r e =
    elim (cases_Bool (bytes_eq found.0 (codes "list"))) [
      | inl h ↦ rw (word_is found.0 (codes "list") h) (list_back found.1 r (rw h at e))
      | inr h1 ↦ elim (cases_Bool (bytes_eq found.0 (codes "name"))) [
        | inl h ↦
            let a = bind_some (name_at found.1) name_value r (rw (h1, h) at e) in
            rw (word_is found.0 (codes "name") h) (name_value_back found.1 r a.0 a.1 a.2)
        | inr h2 ↦ let i = item_of_back found r (rw (h1, h2) at e) in (i.0, item_is_value r.0 i.1)
      ]
    ]

pub value_back : (bytes : List ℕ) (r : Value × List ℕ) → value_at bytes ≡ some r → IsValueAt bytes r
value_back bytes r e =
    let a = bind_some (word_at bytes) value_of r e in
    rw (cut_back 32 bytes a.0 a.1) (value_of_back a.0 r a.2)

-- ---- events
-- the line says the event in the printed form
abbrev IsPrinted : List ℕ → Happening → Type 0
IsPrinted line e = IsEvent e × (line ≡ words e)

bare_back : (e f : Happening) (rest : List ℕ) → bare e rest ≡ some f → (rest ≡ []) × (e ≡ f)
bare_back e f [] h = (refl, some_is e f h)
bare_back e f (b ∷ bytes) h = absurd cc

-- what stands alone, and in front of an end
alone_value : (bytes : List ℕ) (r : Value × List ℕ) (v : Value) → IsValueAt bytes r → alone r ≡ some v → (bytes ≡ value_words v) × IsValue v
alone_value bytes r v is e =
    let p = alone_back r v e in
    let q = subst (IsValueAt bytes) p is in
    (q.0 ∙ append-nil (value_words v), q.1)

alone_text : (bytes : List ℕ) (r : List ℕ × List ℕ) (t : List ℕ) → also_at bytes ≡ some r → alone r ≡ some t → (bytes ≡ also t) × IsText t
alone_text bytes r t e f =
    let p = alone_back r t f in
    let q = also_back bytes (t, []) (e ∙ ap (λ (x : List ℕ × List ℕ). some x) p) in
    (q.0 ∙ append-nil (also t), q.1)

only_back : (bytes t : List ℕ) → only_text bytes ≡ some t → (bytes ≡ also t) × IsText t
only_back bytes t e = let a = bind_some (also_at bytes) alone t e in alone_text bytes a.0 t a.1 a.2

start_back : (rest : List ℕ) (e : Happening) → start_in rest ≡ some e → IsPrinted (codes "SE" ++ rest) e
start_back rest e h =
    let m = map_some _ event.se e h in
    let n = m.0 in
    let a = bind_some _ alone n m.1 in
    let b = bind_some (past (32 ∷ []) rest) name_at a.0 a.1 in
    let k = name_back b.0 (n, []) (b.2 ∙ ap (λ (x : QName × List ℕ). some x) (alone_back a.0 n a.2)) in
    let line : codes "SE" ++ rest ≡ words (event.se n) = ap (λ (x : List ℕ). codes "SE" ++ x) (past_back (32 ∷ []) rest b.0 b.1 ∙ ap (λ (x : List ℕ). 32 ∷ x) (k.0 ∙ append-nil (name_words n))) in
    subst (IsPrinted (codes "SE" ++ rest)) m.2 (k.1, line)

attribute_back : (rest : List ℕ) (e : Happening) → attribute_in rest ≡ some e → IsPrinted (codes "AT" ++ rest) e
unfolding attribute_in
attribute_back rest e h =
    let a = bind_some (past (32 ∷ []) rest) _ e h in
    let b = bind_some (name_at a.0) _ e a.2 in
    let named = b.0 in
    let c = bind_some (past (32 ∷ []) named.1) _ e b.2 in
    let d = bind_some (value_at c.0) _ e c.2 in
    let m = map_some (alone d.0) (event.at named.0) e d.2 in
    let v = m.0 in
    let k = name_back a.0 named b.1 in
    let w = alone_value c.0 d.0 v (value_back c.0 d.0 d.1) m.1 in
    let line : codes "AT" ++ rest ≡ words (event.at named.0 v) =
    ap (λ (x : List ℕ). codes "AT" ++ x) (past_back (32 ∷ []) rest a.0 a.1 ∙ ap (λ (x : List ℕ). 32 ∷ x) (k.0 ∙ ap (λ (x : List ℕ). name_words named.0 ++ x) (past_back (32 ∷ []) named.1 c.0 c.1 ∙ ap (λ (x : List ℕ). 32 ∷ x) w.0))) in
    subst (IsPrinted (codes "AT" ++ rest)) m.2 ((k.1, w.1), line)

characters_back : (rest : List ℕ) (e : Happening) → characters_in rest ≡ some e → IsPrinted (codes "CH" ++ rest) e
characters_back rest e h =
    let m = map_some _ event.ch e h in
    let v = m.0 in
    let a = bind_some _ alone v m.1 in
    let b = bind_some (past (32 ∷ []) rest) value_at a.0 a.1 in
    let w = alone_value b.0 a.0 v (value_back b.0 a.0 b.2) a.2 in
    let line : codes "CH" ++ rest ≡ words (event.ch v) = ap (λ (x : List ℕ). codes "CH" ++ x) (past_back (32 ∷ []) rest b.0 b.1 ∙ ap (λ (x : List ℕ). 32 ∷ x) w.0) in
    subst (IsPrinted (codes "CH" ++ rest)) m.2 (w.1, line)

truth_back : (word : List ℕ) (b : Bool) → truth_of word ≡ some b → word ≡ 32 ∷ truth_word b
truth_back word b e =
    elim (cases_Bool (bytes_eq word (codes " true"))) [
      | inl h ↦ let k : some true ≡ some b = rw h at e in rw (← some_is true b k) (word_is word (codes " true") h)
      | inr h1 ↦ elim (cases_Bool (bytes_eq word (codes " false"))) [
        | inl h ↦ let k : some false ≡ some b = rw (h1, h) at e in rw (← some_is false b k) (word_is word (codes " false") h)
        | inr h2 ↦ let k : None ≡ some b = rw (h1, h2) at e in absurd (cc)
      ]
    ]

namespace_back : (rest : List ℕ) (e : Happening) → namespace_in rest ≡ some e → IsPrinted (codes "NS" ++ rest) e
unfolding namespace_in
namespace_back rest e h =
    let a = bind_some (also_at rest) _ e h in
    let uri = a.0 in
    let b = bind_some (also_at uri.1) _ e a.2 in
    let prefix = b.0 in
    let c = bind_some (truth_of prefix.1) _ e b.2 in
    let u = also_back rest uri a.1 in
    let p = also_back uri.1 prefix b.1 in
    let line : codes "NS" ++ rest ≡ words (event.ns uri.0 prefix.0 c.0) =
    ap (λ (x : List ℕ). codes "NS" ++ x) (u.0 ∙ ap (λ (x : List ℕ). also uri.0 ++ x) (p.0 ∙ ap (λ (x : List ℕ). also prefix.0 ++ x) (truth_back prefix.1 c.0 c.1))
    ∙ sym (append_assoc (also uri.0) (also prefix.0) (32 ∷ truth_word c.0))) in
    subst (IsPrinted (codes "NS" ++ rest)) (some_is (event.ns uri.0 prefix.0 c.0) e c.2) ((u.1, p.1), line)

fragment_back : (rest : List ℕ) (e : Happening) → fragment_in rest ≡ some e → Says (codes "SC" ++ rest) e
fragment_back [] e h = inr (refl, sym (some_is (event.sc 0) e h))
fragment_back (b ∷ bytes) e h =
    let a = bind_some _ place_of e h in
    let n = a.0 in
    let c = bind_some (past (32 ∷ []) (b ∷ bytes)) number_of n a.1 in
    let k = number_back c.0 n c.2 in
    let p = cond_some_of (ltb n (2 ^ 64)) (some (event.sc n)) e a.2 in
    let line : codes "SC" ++ (b ∷ bytes) ≡ words (event.sc n) = ap (λ (x : List ℕ). codes "SC" ++ x) (past_back (32 ∷ []) (b ∷ bytes) c.0 c.1 ∙ ap (λ (x : List ℕ). 32 ∷ x) (sym k.0)) in
    inl (subst (IsPrinted (codes "SC" ++ (b ∷ bytes))) (some_is (event.sc n) e p.1) (ltb-true n (2 ^ 64) p.0, line))

comment_back : (rest : List ℕ) (e : Happening) → option_map event.cm (only_text rest) ≡ some e → IsPrinted (codes "CM" ++ rest) e
comment_back rest e h =
    let m = map_some (only_text rest) event.cm e h in
    let t = only_back rest m.0 m.1 in
    subst (IsPrinted (codes "CM" ++ rest)) m.2 (t.1, ap (λ (x : List ℕ). codes "CM" ++ x) t.0)

reference_back : (rest : List ℕ) (e : Happening) → option_map event.er (only_text rest) ≡ some e → IsPrinted (codes "ER" ++ rest) e
reference_back rest e h =
    let m = map_some (only_text rest) event.er e h in
    let t = only_back rest m.0 m.1 in
    subst (IsPrinted (codes "ER" ++ rest)) m.2 (t.1, ap (λ (x : List ℕ). codes "ER" ++ x) t.0)

instruction_back : (rest : List ℕ) (e : Happening) → instruction_in rest ≡ some e → IsPrinted (codes "PI" ++ rest) e
unfolding instruction_in
instruction_back rest e h =
    let a = bind_some (also_at rest) _ e h in
    let target = a.0 in
    let b = bind_some (also_at target.1) _ e a.2 in
    let m = map_some (alone b.0) (event.pi target.0) e b.2 in
    let u = also_back rest target a.1 in
    let t = alone_text target.1 b.0 m.0 b.1 m.1 in
    let line : codes "PI" ++ rest ≡ words (event.pi target.0 m.0) = ap (λ (x : List ℕ). codes "PI" ++ x) (u.0 ∙ ap (λ (x : List ℕ). also target.0 ++ x) t.0) in
    subst (IsPrinted (codes "PI" ++ rest)) m.2 ((u.1, t.1), line)

doctype_back : (rest : List ℕ) (e : Happening) → doctype_in rest ≡ some e → IsPrinted (codes "DT" ++ rest) e
unfolding doctype_in
doctype_back rest e h =
    let a = bind_some (also_at rest) _ e h in
    let root = a.0 in
    let b = bind_some (also_at root.1) _ e a.2 in
    let public = b.0 in
    let c = bind_some (also_at public.1) _ e b.2 in
    let system = c.0 in
    let d = bind_some (also_at system.1) _ e c.2 in
    let m = map_some (alone d.0) (event.dt root.0 public.0 system.0) e d.2 in
    let r = also_back rest root a.1 in
    let p = also_back root.1 public b.1 in
    let s = also_back public.1 system c.1 in
    let t = alone_text system.1 d.0 m.0 d.1 m.1 in
    let line : codes "DT" ++ rest ≡ words (event.dt root.0 public.0 system.0 m.0) =
    ap (λ (x : List ℕ). codes "DT" ++ x) (r.0 ∙ ap (λ (x : List ℕ). also root.0 ++ x) (p.0 ∙ ap (λ (x : List ℕ). also public.0 ++ x) (s.0 ∙ ap (λ (x : List ℕ). also system.0 ++ x) t.0))
    ∙ sym (append_assoc (also root.0) (also public.0) (also system.0 ++ also m.0)) ∙ sym (append_assoc (also root.0 ++ also public.0) (also system.0) (also m.0))) in
    subst (IsPrinted (codes "DT" ++ rest)) m.2 ((r.1, p.1, s.1, t.1), line)

bare_printed : (e f : Happening) (word rest : List ℕ) → IsEvent e → word ≡ words e → bare e rest ≡ some f → IsPrinted (word ++ rest) f
bare_printed e f word rest h is b =
    let p = bare_back e f rest b in
    subst (IsPrinted (word ++ rest)) p.1 (h, ap (λ (x : List ℕ). word ++ x) p.0 ∙ append-nil word ∙ is)

of_back : (word rest : List ℕ) (e : Happening) → event_of word rest ≡ some e → Says (word ++ rest) e
unfolding event_of
of_back word rest e h =
    elim (cases_Bool (bytes_eq word (codes "SE"))) [
      | inl w ↦ rw (word_is word (codes "SE") w) (inl (start_back rest e (rw w at h)))
      | inr w1 ↦ elim (cases_Bool (bytes_eq word (codes "EE"))) [
        | inl w ↦ inl (bare_printed event.ee e word rest tt (word_is word (codes "EE") w) (rw (w1, w) at h))
        | inr w2 ↦ elim (cases_Bool (bytes_eq word (codes "CH"))) [
          | inl w ↦ rw (word_is word (codes "CH") w) (inl (characters_back rest e (rw (w1, w2, w) at h)))
          | inr w3 ↦ elim (cases_Bool (bytes_eq word (codes "AT"))) [
            | inl w ↦ rw (word_is word (codes "AT") w) (inl (attribute_back rest e (rw (w1, w2, w3, w) at h)))
            | inr w4 ↦ elim (cases_Bool (bytes_eq word (codes "NS"))) [
              | inl w ↦ rw (word_is word (codes "NS") w) (inl (namespace_back rest e (rw (w1, w2, w3, w4, w) at h)))
              | inr w5 ↦ elim (cases_Bool (bytes_eq word (codes "SC"))) [
                | inl w ↦ rw (word_is word (codes "SC") w) (fragment_back rest e (rw (w1, w2, w3, w4, w5, w) at h))
                | inr w6 ↦ elim (cases_Bool (bytes_eq word (codes "CM"))) [
                  | inl w ↦ rw (word_is word (codes "CM") w) (inl (comment_back rest e (rw (w1, w2, w3, w4, w5, w6, w) at h)))
                  | inr w7 ↦ elim (cases_Bool (bytes_eq word (codes "PI"))) [
                    | inl w ↦ rw (word_is word (codes "PI") w) (inl (instruction_back rest e (rw (w1, w2, w3, w4, w5, w6, w7, w) at h)))
                    | inr w8 ↦ elim (cases_Bool (bytes_eq word (codes "DT"))) [
                      | inl w ↦ rw (word_is word (codes "DT") w) (inl (doctype_back rest e (rw (w1, w2, w3, w4, w5, w6, w7, w8, w) at h)))
                      | inr w9 ↦ elim (cases_Bool (bytes_eq word (codes "ER"))) [
                        | inl w ↦ rw (word_is word (codes "ER") w) (inl (reference_back rest e (rw (w1, w2, w3, w4, w5, w6, w7, w8, w9, w) at h)))
                        | inr w10 ↦ elim (cases_Bool (bytes_eq word (codes "SD"))) [
                          | inl w ↦ inl (bare_printed event.sd e word rest tt (word_is word (codes "SD") w) (rw (w1, w2, w3, w4, w5, w6, w7, w8, w9, w10, w) at h))
                          | inr w11 ↦ elim (cases_Bool (bytes_eq word (codes "ED"))) [
                            | inl w ↦ inl (bare_printed event.ed e word rest tt (word_is word (codes "ED") w) (rw (w1, w2, w3, w4, w5, w6, w7, w8, w9, w10, w11, w) at h))
                            | inr w12 ↦ let k : None ≡ some e = rw (w1, w2, w3, w4, w5, w6, w7, w8, w9, w10, w11, w12) at h in absurd (cc)
                          ]
                        ]
                      ]
                    ]
                  ]
                ]
              ]
            ]
          ]
        ]
      ]
    ]

pub read_says : (line : List ℕ) (e : Happening) → event_in line ≡ some e → Says line e
unfolding event_in
read_says line e h = subst (λ (x : List ℕ). Says x e) (take-append-drop 2 line) (of_back (take 2 line) (drop 2 line) e h)
