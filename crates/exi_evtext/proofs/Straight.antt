-- Plain texts, and the lines that are frequent.
use Rattle.std.proofs.Common.{◌≡◌, ◌<◌, ◌≤◌, ℕ, suc, Bool, true, false, eqb, leb, ltb, not, ◌&&◌, List, [], ◌∷◌, ◌++◌, length, take, Option, Some, None, refl, sym, ap, ◌∙◌, subst, inl, append_assoc, arith}
use Rattle.std.specs.Prelude.{codes, IfSome, IsTrue}
use Rattle.std.specs.Borrow.{Bor}
use Rattle.std.specs.List.{flat_map}
use Rattle.std.specs.Str.{IsAscii, all_scalars}
use Rattle.std.proofs.lemmas.Bool.{and_from, and_parts, le-leb, leb-true, ltb-true, ne_eqb, not-true}
use Rattle.std.proofs.lemmas.List.{append-nil, get_or-take, length-append, length-take-le}
use Rattle.std.proofs.lemmas.Str.{IsUtf8-from_ascii, chars-IsAscii, encodes-IsAscii, scalars-chars}
use Rattle.std.proofs.lemmas.Str.Ascii.{IsAscii-cons, IsAscii-nil}
use Rattle.exi_names.specs.Events as event
use Rattle.exi_names.specs.Events.{Happening}
use Rattle.exi_names.specs.Seen as shape
use Rattle.exi_digits.specs.Splits.{before, behind, is_mark}
use Rattle.exi_evtext.specs.Lines.{also, escaped, line_of, name_words, quoted, value_words, words}
use Rattle.exi_evtext.specs.Left.{LinesLeft}
use Rattle.exi_evtext.specs.Parsing.{event_then, events_left, with_event}
use Rattle.exi_names.specs.Characters.{are_plain}
use Rattle.exi_names.specs.Characters.{is_plain as named_plain}
use Rattle.exi_evtext.specs.Plain.{AllPass, IsLine, IsPlain, is_plain, plain_name}
use Rattle.exi_evtext.specs.Reading.{event_in}
use Rattle.exi_evtext.proofs.Feedless.{line_front}
use Rattle.exi_evtext.proofs.LineWise.{from, from_line, left_is}
use Rattle.exi_evtext.proofs.Spelled.{says_read}

-- ---- plain texts
record PlainByte (b : ℕ) : Type 0 where
  ascii : b < 128
  plain : named_plain b ≡ true
  stands : escaped b ≡ b ∷ []

plain_byte : (b : ℕ) → is_plain b ≡ true → PlainByte b
plain_byte b h =
    let p = and_parts (leb 32 b && ltb b 127 && not (eqb b 34)) (not (eqb b 92)) h in
    let q = and_parts (leb 32 b && ltb b 127) (not (eqb b 34)) p.0 in
    let r = and_parts (leb 32 b) (ltb b 127) q.0 in
    let low : 32 ≤ b = leb-true 32 b r.0 in
    let high : b < 127 = ltb-true b 127 r.1 in
    let ten : eqb b 10 ≡ false = ne_eqb b 10 (λ e. omega (arith, e)) in
    let thirteen : eqb b 13 ≡ false = ne_eqb b 13 (λ e. omega (arith, e)) in
    let nine : eqb b 9 ≡ false = ne_eqb b 9 (λ e. omega (arith, e)) in
    record {
      ascii = omega arith;
      plain = and_from (leb 0x20 b && leb b 0x7E && not (eqb b 0x22)) (not (eqb b 0x5C)) (and_from (leb 0x20 b && leb b 0x7E) (not (eqb b 0x22)) (and_from (leb 0x20 b) (leb b 0x7E) r.0 (le-leb b 0x7E (omega (arith, high)))) q.1) p.1;
      stands = rw (not-true (eqb b 34) q.1, not-true (eqb b 92) p.1, ten, thirteen, nine) refl;
    }

record PlainBytes (t : List ℕ) : Type 0 where
  ascii : IsAscii t
  plain : are_plain t ≡ true
  stands : flat_map escaped t ≡ t

plain_bytes : (t : List ℕ) → AllPass is_plain t 0 (length t) → PlainBytes t
plain_bytes [] h = record { ascii = IsAscii-nil; plain = refl; stands = refl }
plain_bytes (b ∷ t) h =
    let one = plain_byte b (h 0 (omega arith) (omega arith)) in
    let more = plain_bytes t (λ k from to. h (suc k) (omega arith) (omega arith)) in
    record {
      ascii = IsAscii-cons b t one.ascii more.ascii;
      plain = and_from (named_plain b) (are_plain t) one.plain more.plain;
      stands = ap (λ (x : List ℕ). x ++ flat_map escaped t) one.stands ∙ ap (λ (x : List ℕ). b ∷ x) more.stands;
    }

-- the first bytes, which are plain
pub plain_front : (bytes : List ℕ) (n : ℕ) → n ≤ length bytes → AllPass is_plain bytes 0 n → IsPlain (take n bytes)
plain_front bytes n le h =
    let t = take n bytes in
    let long : length t ≡ n = length-take-le n bytes le in
    let p = plain_bytes t (λ k low high. subst (λ (x : ℕ). is_plain x ≡ true) (sym (get_or-take n bytes k 0 (omega arith))) (h k low (omega arith))) in
    let self = encodes-IsAscii t p.ascii in
    record {
      ascii = p.ascii;
      plain = p.plain;
      valid = ap all_scalars (sym (chars-IsAscii t p.ascii)) ∙ scalars-chars t (IsUtf8-from_ascii t p.ascii);
      stands = ap (flat_map escaped) self ∙ p.stands;
    }

quoted_plain : (t rest : List ℕ) → IsPlain t → quoted t ++ rest ≡ 34 ∷ t ++ 34 ∷ rest
quoted_plain t rest p =
    ap (λ (x : List ℕ). 34 ∷ (x ++ 34 ∷ []) ++ rest) p.stands ∙ ap (λ (x : List ℕ). 34 ∷ x) (append_assoc t (34 ∷ []) rest)

-- URI and local name, one behind the other
pub name_parts : (s a uri b c d local rest : List ℕ) → IsPlain uri → IsPlain local → s ≡ 34 ∷ a → a ≡ uri ++ 34 ∷ b → b ≡ 32 ∷ c → c ≡ 34 ∷ d → d ≡ local ++ 34 ∷ rest
    → s ≡ name_words (plain_name uri local) ++ rest
name_parts s a uri b c d local rest u l s1 s2 s3 s4 s5 =
    let tail : b ≡ also local ++ rest = s3 ∙ ap (λ (x : List ℕ). 32 ∷ x) (s4 ∙ ap (λ (x : List ℕ). 34 ∷ x) s5 ∙ sym (quoted_plain local rest l)) in
    let whole : s ≡ quoted uri ++ (also local ++ rest) = s1 ∙ ap (λ (x : List ℕ). 34 ∷ x) (s2 ∙ ap (λ (x : List ℕ). uri ++ 34 ∷ x) tail) ∙ sym (quoted_plain uri (also local ++ rest) u) in
    whole ∙ sym (append_assoc (quoted uri) (also local) rest) ∙ ap (λ (x : List ℕ). x ++ rest) (sym (append-nil (quoted uri ++ also local)))

-- a text as a value that ends the line
pub value_parts : (s inside t rest behind : List ℕ) → IsPlain t → s ≡ codes "text \"" ++ inside → inside ≡ t ++ 34 ∷ rest → rest ≡ 10 ∷ behind → s ≡ value_words (shape.text t) ++ 10 ∷ behind
value_parts s inside t rest behind p s1 s2 s3 =
    let whole : s ≡ codes "text \"" ++ (t ++ 34 ∷ 10 ∷ behind) = s1 ∙ ap (λ (x : List ℕ). codes "text \"" ++ x) (s2 ∙ ap (λ (x : List ℕ). t ++ 34 ∷ x) s3) in
    whole ∙ ap (λ (x : List ℕ). codes "text " ++ x) (sym (quoted_plain t (10 ∷ behind) p))

pub last_parts : (r : Option (List ℕ × Bor (List ℕ))) (s inside : List ℕ) → s ≡ codes "text \"" ++ inside → IfSome r (λ found. IsPlain found.0) → IfSome r (λ found. inside ≡ found.0 ++ 34 ∷ 10 ∷ found.1.now)
    → IfSome r (λ found. s ≡ value_words (shape.text found.0) ++ 10 ∷ found.1.now)
last_parts None s inside e plain parts = tt
last_parts (Some found) s inside e plain parts = value_parts s inside found.0 (10 ∷ found.1.now) found.1.now plain e parts refl

-- ---- lines
pub line_is : (e : Happening) (rest : List ℕ) → line_of e ++ rest ≡ words e ++ 10 ∷ rest
unfolding line_of
line_is e rest = append_assoc (words e) (10 ∷ []) rest

pub end_line : (behind : List ℕ) → IsLine (69 ∷ 69 ∷ 10 ∷ behind) event.ee behind
end_line behind = record { said = tt; parts = sym (line_is event.ee behind) }

pub start_line : (s uri local behind : List ℕ) → IsPlain uri → IsPlain local → s ≡ name_words (plain_name uri local) ++ 10 ∷ behind
    → IsLine (83 ∷ 69 ∷ 32 ∷ s) (event.se (plain_name uri local)) behind
start_line s uri local behind u l parts = record {
  said = (u.valid, l.valid, tt);
  parts = ap (λ (x : List ℕ). 83 ∷ 69 ∷ 32 ∷ x) parts ∙ sym (line_is (event.se (plain_name uri local)) behind);
}

pub characters_line : (s text behind : List ℕ) → IsPlain text → s ≡ value_words (shape.text text) ++ 10 ∷ behind
    → IsLine (67 ∷ 72 ∷ 32 ∷ s) (event.ch (shape.text text)) behind
characters_line s text behind t parts = record {
  said = t.valid;
  parts = ap (λ (x : List ℕ). 67 ∷ 72 ∷ 32 ∷ x) parts ∙ sym (line_is (event.ch (shape.text text)) behind);
}

pub attribute_line : (s uri local rest text behind : List ℕ) → IsPlain uri → IsPlain local → IsPlain text → s ≡ name_words (plain_name uri local) ++ 32 ∷ rest
    → rest ≡ value_words (shape.text text) ++ 10 ∷ behind → IsLine (65 ∷ 84 ∷ 32 ∷ s) (event.at (plain_name uri local) (shape.text text)) behind
attribute_line s uri local rest text behind u l t name value =
    let n = name_words (plain_name uri local) in
    let v = value_words (shape.text text) in
    let whole : s ≡ (n ++ 32 ∷ v) ++ 10 ∷ behind = name ∙ ap (λ (x : List ℕ). n ++ 32 ∷ x) value ∙ sym (append_assoc n (32 ∷ v) (10 ∷ behind)) in
    record {
      said = ((u.valid, l.valid, tt), t.valid);
      parts = ap (λ (x : List ℕ). 65 ∷ 84 ∷ 32 ∷ x) whole ∙ sym (line_is (event.at (plain_name uri local) (shape.text text)) behind);
    }

-- where the room holds the event of the line
pub held_line : (r : Option (Bor (List ℕ))) (held : Bool) (s : List ℕ) (room e : Happening) (behind : List ℕ) → IfSome r (λ b. IsTrue held × (b.now ≡ behind)) → (IsTrue held → room ≡ e) → IsLine s e behind
    → IfSome r (λ b. IsLine s room b.now)
held_line None held s room e behind h is line = tt
held_line (Some b) held s room e behind h is line = subst (IsLine s room) (sym h.1) (subst (λ (x : Happening). IsLine s x behind) (sym (is h.0)) line)

pub some_line : (o : Option (Bor (List ℕ))) (b : Bor (List ℕ)) (s : List ℕ) (room : Happening) → o ≡ Some b → IfSome o (λ x. IsLine s room x.now) → IsLine s room b.now
some_line o b s room is h = subst (λ (x : Option (Bor (List ℕ))). IfSome x (λ y. IsLine s room y.now)) is h

pub less_left : (s : List ℕ) (e : Happening) (rest : List ℕ) → IsLine s e rest → length rest < length s
less_left s e rest line =
    let long : length s ≡ length (words e ++ 10 ∷ rest) = ap length (line.parts ∙ line_is e rest) in
    omega (arith, long, length-append (words e) (10 ∷ rest))

-- what is left says the event of the line, and then what stands behind it
pub line_fills : (l : LinesLeft) (text rest : List ℕ) (n m : ℕ) (e : Happening) → record { bytes = text; line = n } ≡ l → IsLine text e rest → m ≡ suc n
    → events_left l ≡ with_event e (events_left (record { bytes = rest; line = m }))
line_fills l text rest n m e is line up =
    let front = line_front e rest line.said in
    let behind_is : behind (is_mark 10) text ≡ Some rest = ap (behind (is_mark 10)) line.parts ∙ front.1 in
    let here : event_in (before (is_mark 10) text) ≡ Some e = ap event_in (ap (before (is_mark 10)) line.parts ∙ front.0) ∙ says_read (words e) e (inl (line.said, refl)) in
    let one : from n text ≡ with_event e (from (suc n) rest) = from_line n text rest behind_is ∙ ap (λ (o : Option Happening). event_then n o (from (suc n) rest)) here in
    sym (ap events_left is) ∙ (left_is text n ∙ (one ∙ ap (with_event e) (ap (λ (x : ℕ). from x rest) (sym up) ∙ sym (left_is rest m))))
