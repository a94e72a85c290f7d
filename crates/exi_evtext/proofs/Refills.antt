-- Texts that are taken into the memory of others, their bytes looked at once.
use Rattle.std.proofs.Common.{◌≡◌, ◌<◌, ◌≤◌, ◌+◌, ◌-◌, ◌*◌, ◌/◌, ◌⊎◌, inl, inr, ℕ, Bool, true, false, eqb, leb, ltb, not, ◌&&◌, List, [], ◌∷◌, ◌++◌, get_or, length, take, drop, Option, Some, None, Result, Ok, Err, refl, sym, ap, ◌∙◌, subst, append_assoc, arith}
use Rattle.std.specs.Prelude.{codes, encode_utf8_all, IfOk, IfSome, option_copied}
use Rattle.std.specs.declared.alloc.AllocError.{AllocError}
use Rattle.std.specs.Borrow.{Bor}
use Rattle.std.specs.List.{flat_map}
use Rattle.std.specs.Str.{IsUtf8, chars}
use Rattle.std.proofs.lemmas.Bool.{and_parts, cases_lt, le-leb, le-ltb, lt-ltb, leb-true, ne_eqb, not-true}
use Rattle.std.proofs.lemmas.List.{append-nil, drop_more, get_or-drop, length-drop}
use Rattle.std.proofs.lemmas.Str.{IsUtf8-append, IsUtf8-from_ascii, IsUtf8-nil, chars-IsAscii, chars-append, chars-nil, is_utf8-from_IsUtf8}
use Rattle.std.proofs.lemmas.Str.Ascii.{IsAscii-cons, IsAscii-nil}
use Rattle.std.proofs.Math.Seq.{take-add}
use Rattle.std.proofs.Math.Utf8.{encode, next, scalar, low_scalar}
use Rattle.exi_names.specs.Events as event
use Rattle.exi_names.specs.Events.{Happening}
use Rattle.exi_names.specs.Seen as shape
use Rattle.exi_names.specs.declared.val.Val.{fold-roll-Val}
use Rattle.exi_names.specs.declared.val.Val.TheOpen.{Val-F}
use Rattle.exi_names.specs.declared.val.Val.TheVariants.{rolls-Text}
use Rattle.exi_names.specs.declared.val.Val.TheVariants as val
use Rattle.exi_calendar.specs.Reading.{◌>>=◌, past}
use Rattle.exi_evtext.specs.Lines.{escaped}
use Rattle.exi_evtext.specs.Parsing.{TakesPart, front, mark_at}
use Rattle.exi_evtext.specs.Plain.{IsLine, IsTextFront, IsTextIn, PassesIn, is_inside_run, is_plain}
use Rattle.exi_evtext.specs.Reading.{content_at, decoded, opened_at, opened_value, text_value}
use Rattle.exi_evtext.specs.Rooms.{HoldsOpened}
use Rattle.exi_evtext.proofs.Back.{opened_back}
use Rattle.exi_evtext.proofs.Cursors.{past_mark}
use Rattle.exi_evtext.proofs.Lanes.{pass_on}
use Rattle.exi_evtext.proofs.Runs.{by_mark, front_front, byte_front, mark_read, run_all, run_none}
use Rattle.exi_evtext.proofs.Straight.{line_is, plain_front}

-- ---- bytes that stand for themselves
plain_stands : (b : ℕ) → is_plain b ≡ true → is_inside_run b ≡ true
plain_stands b h =
    let p = and_parts (leb 32 b && ltb b 127 && not (eqb b 34)) (not (eqb b 92)) h in
    let q = and_parts (leb 32 b && ltb b 127) (not (eqb b 34)) p.0 in
    let low : 32 ≤ b = leb-true 32 b (and_parts (leb 32 b) (ltb b 127) q.0).0 in
    let ten : eqb b 10 ≡ false = ne_eqb b 10 (λ e. omega (arith, e)) in
    let thirteen : eqb b 13 ≡ false = ne_eqb b 13 (λ e. omega (arith, e)) in
    let nine : eqb b 9 ≡ false = ne_eqb b 9 (λ e. omega (arith, e)) in
    rw (not-true (eqb b 34) q.1, not-true (eqb b 92) p.1, ten, thirteen, nine) refl

high_stands : (b : ℕ) → 128 ≤ b → is_inside_run b ≡ true
high_stands b h =
    let quote : eqb b 34 ≡ false = ne_eqb b 34 (λ e. omega (arith, e)) in
    let backslash : eqb b 92 ≡ false = ne_eqb b 92 (λ e. omega (arith, e)) in
    let ten : eqb b 10 ≡ false = ne_eqb b 10 (λ e. omega (arith, e)) in
    let thirteen : eqb b 13 ≡ false = ne_eqb b 13 (λ e. omega (arith, e)) in
    let nine : eqb b 9 ≡ false = ne_eqb b 9 (λ e. omega (arith, e)) in
    rw (quote, backslash, ten, thirteen, nine) refl

-- ---- parts of a text
pub none_in : (s : List ℕ) (at : ℕ) → at ≤ length s → IsTextIn s at 0
none_in s at le = record {
  within = omega arith;
  utf8 = IsUtf8-nil;
  pass = λ k from to. absurd (omega (arith, from, to));
}

-- a character of several bytes
pub wide_in : (s : List ℕ) (at width : ℕ) → at + width ≤ length s → IsUtf8 (take width (drop at s)) → ((k : ℕ) → at ≤ k → k < at + width → 128 ≤ get_or s k 0) → IsTextIn s at width
wide_in s at width le utf8 high = record {
  within = le;
  utf8 = utf8;
  pass = λ k from to. high_stands (get_or s k 0) (high k from to);
}

-- bytes past ASCII, one behind another
high_two : (s : List ℕ) (at : ℕ) → 128 ≤ get_or s at 0 → 128 ≤ get_or s (at + 1) 0 → (k : ℕ) → at ≤ k → k < at + 2 → 128 ≤ get_or s k 0
high_two s at a b k from to = elim (cases_lt k (at + 1)) [
  | inl h ↦ let is : at ≡ k = omega arith in subst (λ (j : ℕ). 128 ≤ get_or s j 0) is a
  | inr h ↦ let is : at + 1 ≡ k = omega arith in subst (λ (j : ℕ). 128 ≤ get_or s j 0) is b
]

high_three : (s : List ℕ) (at : ℕ) → 128 ≤ get_or s at 0 → 128 ≤ get_or s (at + 1) 0 → 128 ≤ get_or s (at + 2) 0 → (k : ℕ) → at ≤ k → k < at + 3 → 128 ≤ get_or s k 0
high_three s at a b c k from to = elim (cases_lt k (at + 2)) [
  | inl h ↦ high_two s at a b k from h
  | inr h ↦ let is : at + 2 ≡ k = omega arith in subst (λ (j : ℕ). 128 ≤ get_or s j 0) is c
]

high_four : (s : List ℕ) (at : ℕ) → 128 ≤ get_or s at 0 → 128 ≤ get_or s (at + 1) 0 → 128 ≤ get_or s (at + 2) 0 → 128 ≤ get_or s (at + 3) 0 → (k : ℕ) → at ≤ k → k < at + 4 → 128 ≤ get_or s k 0
high_four s at a b c d k from to = elim (cases_lt k (at + 3)) [
  | inl h ↦ high_three s at a b c k from h
  | inr h ↦ let is : at + 3 ≡ k = omega arith in subst (λ (j : ℕ). 128 ≤ get_or s j 0) is d
]

-- the bytes that go on with a character
abbrev pub Follows : ℕ → Type 0
Follows b = (128 ≤ b) × (b < 192)

one_char : (bytes : List ℕ) (c : ℕ) → scalar c ≡ true → bytes ≡ encode c → IsUtf8 bytes
one_char bytes c is e = (c ∷ [], (rw is refl, append-nil (encode c) ∙ sym e))

encode_two : (c : ℕ) → 128 ≤ c → c < 2048 → encode c ≡ (192 + c / 64) ∷ next c ∷ []
unfolding encode
encode_two c low high = rw (le-ltb c 128 low, lt-ltb c 2048 high) refl

encode_three : (c : ℕ) → 2048 ≤ c → c < 65536 → encode c ≡ (224 + c / 4096) ∷ next (c / 64) ∷ next c ∷ []
unfolding encode
encode_three c low high = rw (le-ltb c 128 (omega (arith, low)), le-ltb c 2048 low, lt-ltb c 65536 high) refl

encode_four : (c : ℕ) → 65536 ≤ c → encode c ≡ (240 + c / 262144) ∷ next (c / 4096) ∷ next (c / 64) ∷ next c ∷ []
unfolding encode
encode_four c low = rw (le-ltb c 128 (omega (arith, low)), le-ltb c 2048 (omega (arith, low)), le-ltb c 65536 low) refl

high_scalar : (c : ℕ) → 57344 ≤ c → c < 1114112 → scalar c ≡ true
high_scalar c low high = rw (le-ltb c 55296 (omega (arith, low)), le-leb 57344 c low, lt-ltb c 1114112 high) refl

module _ (s : List ℕ) (at : ℕ) where
  abbrev x : ℕ
  x = get_or s at 0

  abbrev y : ℕ
  y = get_or s (at + 1) 0

  abbrev z : ℕ
  z = get_or s (at + 2) 0

  abbrev w : ℕ
  w = get_or s (at + 3) 0

  next_at : (k j : ℕ) → at + j < length s → k ≡ at + j + 1 → drop (at + j) s ≡ get_or s (at + j) 0 ∷ drop k s
  next_at k j lt is = drop_more s (at + j) 0 lt ∙ ap (λ (n : ℕ). get_or s (at + j) 0 ∷ drop n s) (sym is)

  two_front : at + 1 < length s → drop at s ≡ x ∷ y ∷ drop (at + 2) s
  two_front lt = drop_more s at 0 (omega (arith, lt)) ∙ ap (λ (l : List ℕ). x ∷ l) (next_at (at + 2) 1 lt (omega arith))

  three_front : at + 2 < length s → drop at s ≡ x ∷ y ∷ z ∷ drop (at + 3) s
  three_front lt = two_front (omega (arith, lt)) ∙ ap (λ (l : List ℕ). x ∷ y ∷ l) (next_at (at + 3) 2 lt (omega arith))

  four_front : at + 3 < length s → drop at s ≡ x ∷ y ∷ z ∷ w ∷ drop (at + 4) s
  four_front lt = three_front (omega (arith, lt)) ∙ ap (λ (l : List ℕ). x ∷ y ∷ z ∷ l) (next_at (at + 4) 3 lt (omega arith))

  of_two : at + 1 < length s → (194 ≤ x) × (x < 224) → Follows y → IsUtf8 (take 2 (drop at s))
  of_two lt first second =
      let c = (x - 192) * 64 + (y - 128) in
      let p : x ≡ 192 + c / 64 = omega (arith, first.0, first.1, second.0, second.1) in
      let q : y ≡ next c = omega (arith, first.0, second.0, second.1) in
      one_char _ c (low_scalar c (omega (arith, first.1, second.1))) (ap (take 2) (two_front lt) ∙ (λ k. p k ∷ q k ∷ []) ∙ sym (encode_two c (omega (arith, first.0)) (omega (arith, first.1, second.1))))

  of_three : at + 2 < length s → (224 ≤ x) × (x < 240) → Follows y → Follows z → let c = (x - 224) * 4096 + (y - 128) * 64 + (z - 128) in 2048 ≤ c → (c < 55296) ⊎ (57344 ≤ c) → IsUtf8 (take 3 (drop at s))
  of_three lt first second third low other =
      let c = (x - 224) * 4096 + (y - 128) * 64 + (z - 128) in
      let under : c < 65536 = omega (arith, first.1, second.1, third.1) in
      let p : x ≡ 224 + c / 4096 = omega (arith, first.0, second.0, second.1, third.0, third.1) in
      let q : y ≡ next (c / 64) = omega (arith, first.0, second.0, second.1, third.0, third.1) in
      let r : z ≡ next c = omega (arith, third.0, third.1) in
      let is : scalar c ≡ true = elim other [
        | inl h ↦ low_scalar c h
        | inr h ↦ high_scalar c h (omega (arith, under))
      ] in
      one_char _ c is (ap (take 3) (three_front lt) ∙ (λ k. p k ∷ q k ∷ r k ∷ []) ∙ sym (encode_three c low under))

  of_four : at + 3 < length s → 240 ≤ x → Follows y → Follows z → Follows w → let high = (x - 240) * 64 + (y - 128) in (16 ≤ high) × (high < 272) → IsUtf8 (take 4 (drop at s))
  of_four lt first second third fourth range =
      let c = (x - 240) * 262144 + (y - 128) * 4096 + (z - 128) * 64 + (w - 128) in
      let low : 65536 ≤ c = omega (arith, range.0) in
      let under : c < 1114112 = omega (arith, range.1, third.1, fourth.1) in
      let p : x ≡ 240 + c / 262144 = omega (arith, first, second.0, second.1, third.0, third.1, fourth.0, fourth.1) in
      let q : y ≡ next (c / 4096) = omega (arith, second.0, second.1, third.0, third.1, fourth.0, fourth.1) in
      let e : c / 64 ≡ (x - 240) * 4096 + (y - 128) * 64 + (z - 128) = omega (arith, fourth.0, fourth.1) in
      let r : z ≡ next (c / 64) = subst (λ (m : ℕ). z ≡ next m) (sym e) (omega (arith, third.0, third.1)) in
      let t : w ≡ next c = omega (arith, fourth.0, fourth.1) in
      one_char _ c (high_scalar c (omega (arith, low)) under) (ap (take 4) (four_front lt) ∙ (λ k. p k ∷ q k ∷ r k ∷ t k ∷ []) ∙ sym (encode_four c low))

-- a character of two, three or four bytes
pub two_in : (s : List ℕ) (at : ℕ) → at + 2 ≤ length s → (194 ≤ get_or s at 0) × (get_or s at 0 < 224) → Follows (get_or s (at + 1) 0) → IsTextIn s at 2
two_in s at room first second = wide_in s at 2 room (of_two s at (omega (arith, room)) first second) (high_two s at (omega (arith, first.0)) second.0)

pub three_in : (s : List ℕ) (at : ℕ) → at + 3 ≤ length s → (224 ≤ get_or s at 0) × (get_or s at 0 < 240) → Follows (get_or s (at + 1) 0) → Follows (get_or s (at + 2) 0)
    → let high = (get_or s at 0 - 224) * 64 + (get_or s (at + 1) 0 - 128) in 32 ≤ high → (high < 864) ⊎ (896 ≤ high) → IsTextIn s at 3
three_in s at room first second third low other =
    let c = (get_or s at 0 - 224) * 4096 + (get_or s (at + 1) 0 - 128) * 64 + (get_or s (at + 2) 0 - 128) in
    let range : (c < 55296) ⊎ (57344 ≤ c) = elim other [
      | inl h ↦ inl (omega (arith, h, third.1))
      | inr h ↦ inr (omega (arith, h))
    ] in
    wide_in s at 3 room (of_three s at (omega (arith, room)) first second third (omega (arith, low)) range) (high_three s at (omega (arith, first.0)) second.0 third.0)

pub four_in : (s : List ℕ) (at : ℕ) → at + 4 ≤ length s → 240 ≤ get_or s at 0 → Follows (get_or s (at + 1) 0) → Follows (get_or s (at + 2) 0) → Follows (get_or s (at + 3) 0)
    → let high = (get_or s at 0 - 240) * 64 + (get_or s (at + 1) 0 - 128) in (16 ≤ high) × (high < 272) → IsTextIn s at 4
four_in s at room first second third fourth range =
    wide_in s at 4 room (of_four s at (omega (arith, room)) first second third fourth range) (high_four s at (omega (arith, first)) second.0 third.0 fourth.0)

-- plain bytes, looked at at once
pub plain_in : (s : List ℕ) (at width : ℕ) → at + 16 ≤ length s → PassesIn is_plain s at 16 width → IsTextIn s at width
plain_in s at width room h =
    let rest = drop at s in
    let le = h.0 in
    let within : width ≤ length rest = omega (arith, length-drop at s) in
    let own = plain_front rest width within (λ k low high. subst (λ (x : ℕ). is_plain x ≡ true) (sym (get_or-drop at s k 0)) (h.1 (at + k) (omega arith) (omega arith))) in
    record {
      within = omega arith;
      utf8 = IsUtf8-from_ascii (take width rest) own.ascii;
      pass = λ k from to. plain_stands (get_or s k 0) (h.1 k from to);
    }

pub none_front : (s : List ℕ) → IsTextFront s 0
none_front s = record {
  within = omega arith;
  utf8 = IsUtf8-nil;
  pass = λ k from to. absurd (omega (arith, to));
}

-- one part behind another
pub front_on : (s : List ℕ) (at width : ℕ) → IsTextFront s at → IsTextIn s at width → IsTextFront s (at + width)
front_on s at width f i = record {
  within = i.within;
  utf8 = subst IsUtf8 (sym (take-add at width s)) (IsUtf8-append (take at s) (take width (drop at s)) f.utf8 i.utf8);
  pass = pass_on is_inside_run s at (at + width) f.pass i.pass;
}

-- ---- a text, part by part
-- a part, and what its mark tells
part_read : (left : List ℕ) (width : ℕ) (mark : Option ℕ × List ℕ) → IsTextFront left width → mark_at (drop width left) ≡ Some mark → content_at false left ≡ front (take width left) (by_mark (Some mark))
part_read left width mark f e = sym (run_all left width f.within f.pass) ∙ ap (front (take width left)) (mark_read (drop width left) mark e)

-- more is to come behind an escape
pub takes_more : (text left run more behind : List ℕ) (width byte : ℕ) → IsTextFront left width → run ≡ text ++ chars (take width left) → byte < 128 → mark_at (drop width left) ≡ Some (Some byte, behind) → more ≡ run ++ byte ∷ []
    → TakesPart true text more left behind
takes_more text left run more behind width byte f run_is low mark more_is =
    let part = take width left in
    let last = byte ∷ [] in
    let ascii = IsAscii-cons byte [] low IsAscii-nil in
    record {
      bytes = part ++ last;
      utf8 = IsUtf8-append part last f.utf8 (IsUtf8-from_ascii last ascii);
      is =
          more_is ∙ ap (λ (x : List ℕ). x ++ last) run_is ∙ append_assoc text (chars part) last
          ∙ ap (λ (x : List ℕ). text ++ x) (ap (λ (x : List ℕ). chars part ++ x) (sym (chars-IsAscii last ascii)) ∙ sym (chars-append part last f.utf8));
      read = part_read left width (Some byte, behind) f mark ∙ ap (front part) (byte_front byte (content_at false behind)) ∙ front_front part last (content_at false behind);
    }

-- the quote closes
pub takes_last : (text left run behind : List ℕ) (width : ℕ) → IsTextFront left width → run ≡ text ++ chars (take width left) → mark_at (drop width left) ≡ Some (None, behind) → TakesPart false text run left behind
takes_last text left run behind width f run_is mark =
    let part = take width left in
    record {
      bytes = part;
      utf8 = f.utf8;
      is = run_is;
      read = part_read left width (None, behind) f mark ∙ ap (λ (x : List ℕ). Some (x, behind)) (append-nil part);
    }

-- what is still to be read: nothing behind the quote that closes
abbrev pub still : Bool → List ℕ → Option (List ℕ × List ℕ)
still true left = content_at false left
still false left = Some ([], left)

pub record Gathered (more : Bool) (text left all : List ℕ) : Type 0 where
  pub bytes : List ℕ
  pub utf8 : IsUtf8 bytes
  pub is : text ≡ chars bytes
  pub read : front bytes (still more left) ≡ content_at false all

pub gathered_none : (text s : List ℕ) → text ≡ [] → Gathered true text s s
gathered_none text s e = record {
  bytes = [];
  utf8 = IsUtf8-nil;
  is = e ∙ sym chars-nil;
  read = run_none s;
}

part_still : (more : Bool) (text new left behind : List ℕ) (t : TakesPart more text new left behind) → content_at false left ≡ front t.bytes (still more behind)
part_still true text new left behind t = t.read
part_still false text new left behind t = t.read ∙ ap (λ (x : List ℕ). Some (x, behind)) (sym (append-nil t.bytes))

pub gathered_on : (more : Bool) (text new left behind all : List ℕ) → Gathered true text left all → TakesPart more text new left behind → Gathered more new behind all
gathered_on more text new left behind all g t = record {
  bytes = g.bytes ++ t.bytes;
  utf8 = IsUtf8-append g.bytes t.bytes g.utf8 t.utf8;
  is = t.is ∙ ap (λ (x : List ℕ). x ++ chars t.bytes) g.is ∙ sym (chars-append g.bytes t.bytes g.utf8);
  read = sym (front_front g.bytes t.bytes (still more behind)) ∙ ap (front g.bytes) (sym (part_still more text new left behind t)) ∙ g.read;
}

pub gathered_all : (text left all : List ℕ) → Gathered false text left all → opened_at all ≡ Some (text, left)
unfolding decoded
gathered_all text left all g =
    let content : content_at false all ≡ Some (g.bytes, left) = sym g.read ∙ ap (λ (x : List ℕ). Some (x, left)) (append-nil g.bytes) in
    ap (λ (o : Option (List ℕ × List ℕ)). o >>= decoded) content ∙ rw (is_utf8-from_IsUtf8 g.bytes g.utf8) (ap (λ (x : List ℕ). Some (x, left)) (sym g.is))

-- ---- in a room
some_is : (p q : shape.Value × List ℕ) → Some p ≡ Some q → p ≡ q
some_is p q e = cc

opened_text : (o : Option (List ℕ × List ℕ)) (v : shape.Value) (behind : List ℕ) → o >>= text_value ≡ Some (v, behind) → (text : List ℕ) × (o ≡ Some (text, behind)) × (v ≡ shape.text text)
opened_text None v behind e = absurd cc
opened_text (Some (t, rest)) v behind e =
    let p = some_is (shape.text t, rest) (v, behind) e in
    (t, ap (λ (q : shape.Value × List ℕ). Some (t, q.1)) p, sym (ap (λ (q : shape.Value × List ℕ). q.0) p))

pub text_seen : (t : List ℕ) → shape.seen (val.Text t) ≡ shape.text t
text_seen t = ap shape.seen (sym (rolls-Text t)) ∙ fold-roll-Val shape.Value shape.Values shape.seen_step shape.list_step (Val-F.Text t)

pub value_opened : (r : Result (Option (Bor (List ℕ))) AllocError) (s text : List ℕ) (v : shape.Value) → v ≡ shape.text text → IfOk r (λ found. IfSome found (λ b. opened_at s ≡ Some (text, b.now)))
    → IfOk r (λ found. IfSome found (λ b. opened_value s ≡ Some (v, b.now)))
value_opened (Err e) s text v is h = tt
value_opened (Ok None) s text v is h = tt
value_opened (Ok (Some b)) s text v is h = ap (λ (o : Option (List ℕ × List ℕ)). o >>= text_value) h ∙ ap (λ (x : shape.Value). Some (x, b.now)) (sym is)

pub held_opened : (r : Result (Option (Bor (List ℕ))) AllocError) (s : List ℕ) (v : shape.Value) (room : Happening) → room ≡ event.ch v → IfOk r (λ found. IfSome found (λ b. opened_value s ≡ Some (v, b.now)))
    → IfOk r (λ found. IfSome found (λ b. HoldsOpened s room b.now))
held_opened (Err e) s v room is h = tt
held_opened (Ok None) s v room is h = tt
held_opened (Ok (Some b)) s v room is h =
    let t = opened_text (opened_at s) v b.now h in
    record { text = t.0; read = t.1; is = is ∙ ap event.ch t.2 }

-- the line of characters
text_line : (s rest behind : List ℕ) (room : Happening) → HoldsOpened s room rest → rest ≡ 10 ∷ behind → IsLine (codes "CH text \"" ++ s) room behind
text_line s rest behind room h mark =
    let t = h.text in
    let o = opened_back s (t, rest) h.read in
    let spelled = flat_map escaped (encode_utf8_all t) in
    let parts : s ≡ (spelled ++ 34 ∷ []) ++ 10 ∷ behind = o.0 ∙ ap (λ (x : List ℕ). spelled ++ 34 ∷ x) mark ∙ sym (append_assoc spelled (34 ∷ []) (10 ∷ behind)) in
    subst (λ (e : Happening). IsLine (codes "CH text \"" ++ s) e behind) (sym h.is) (record {
      said = o.1;
      parts = ap (λ (x : List ℕ). codes "CH text \"" ++ x) parts ∙ sym (line_is (event.ch (shape.text t)) behind);
    })

pub ended_line : (r : Option (Bor (List ℕ))) (s rest : List ℕ) (room : Happening) → option_copied r ≡ past (10 ∷ []) rest → HoldsOpened s room rest → IfSome r (λ b. IsLine (codes "CH text \"" ++ s) room b.now)
ended_line None s rest room e h = tt
ended_line (Some b) s rest room e h = text_line s rest b.now room h (past_mark 10 rest b.now (sym e))

pub any_line : (r : Result (Option (Bor (List ℕ))) AllocError) (s inside : List ℕ) (room : Happening) → s ≡ codes "text \"" ++ inside → IfOk r (λ found. IfSome found (λ b. IsLine (codes "CH text \"" ++ inside) room b.now))
    → IfOk r (λ found. IfSome found (λ b. IsLine (67 ∷ 72 ∷ 32 ∷ s) room b.now))
any_line r s inside room e h = subst (λ (x : List ℕ). IfOk r (λ found. IfSome found (λ b. IsLine (67 ∷ 72 ∷ 32 ∷ x) room b.now))) (sym e) h
