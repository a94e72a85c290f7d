-- What was read as a text or a name was written from it.
use Rattle.std.proofs.Common.{◌≡◌, ℕ, eqb, Bool, true, false, List, [], ◌∷◌, ◌++◌, Option, Some, None, refl, sym, ap, ◌∙◌, subst, inl, inr, append_assoc}
use Rattle.std.specs.Prelude.{IfSome, encode_utf8_all}
use Rattle.std.specs.List.{flat_map}
use Rattle.std.specs.Str.{all_scalars, chars, is_utf8}
use Rattle.std.proofs.lemmas.Bool.{cases_Bool, eqb-true}
use Rattle.std.proofs.lemmas.Str.{IsUtf8-from_is_utf8, encodes-chars, scalars-chars}
use Rattle.exi_names.specs.declared.names.QName.{QName}
use Rattle.exi_digits.specs.Splits.{before, behind, is_mark}
use Rattle.exi_calendar.specs.Reading.{past}
use Rattle.exi_calendar.proofs.Fields.{bind_some, cond_some_of, past_back, some, some_is}
use Rattle.exi_evtext.specs.Lines.{also, also_prefix, escaped, name_words, quoted}
use Rattle.exi_evtext.specs.Reading.{also_at, alone, content_at, decoded, name_at, opened_at, optional_at, prefix_at, some_prefix, text_at, unescaped, with_byte, with_escaped}
use Rattle.exi_evtext.specs.Spelling.{IsName, IsText}

-- ---- one byte
byte_back : (b : ℕ) (r : Option (List ℕ × List ℕ)) (found : List ℕ × List ℕ) → with_byte b r ≡ some found → (more : List ℕ × List ℕ) × (r ≡ some more) × (found ≡ (b ∷ more.0, more.1))
byte_back b None found e = absurd cc
byte_back b (Some more) found e = (more, refl, sym (some_is (b ∷ more.0, more.1) found e))

escaped_back : (o : Option ℕ) (r : Option (List ℕ × List ℕ)) (found : List ℕ × List ℕ) → with_escaped o r ≡ some found → (c : ℕ) × (more : List ℕ × List ℕ) × (o ≡ some c) × (r ≡ some more) × (found ≡ (c ∷ more.0, more.1))
escaped_back None r found e = absurd cc
escaped_back (Some c) r found e = let p = byte_back c r found e in (c, p.0, refl, p.1, p.2)

unescaped_back : (b c : ℕ) → unescaped b ≡ some c → escaped c ≡ 92 ∷ b ∷ []
unescaped_back b c e =
    elim (cases_Bool (eqb b 34)) [
      | inl h ↦ let k : some 34 ≡ some c = rw h at e in rw (eqb-true b 34 h, ← some_is 34 c k) refl
      | inr h34 ↦ elim (cases_Bool (eqb b 92)) [
        | inl h ↦ let k : some 92 ≡ some c = rw (h34, h) at e in rw (eqb-true b 92 h, ← some_is 92 c k) refl
        | inr h92 ↦ elim (cases_Bool (eqb b 110)) [
          | inl h ↦ let k : some 10 ≡ some c = rw (h34, h92, h) at e in rw (eqb-true b 110 h, ← some_is 10 c k) refl
          | inr h110 ↦ elim (cases_Bool (eqb b 114)) [
            | inl h ↦ let k : some 13 ≡ some c = rw (h34, h92, h110, h) at e in rw (eqb-true b 114 h, ← some_is 13 c k) refl
            | inr h114 ↦ elim (cases_Bool (eqb b 116)) [
              | inl h ↦ let k : some 9 ≡ some c = rw (h34, h92, h110, h114, h) at e in rw (eqb-true b 116 h, ← some_is 9 c k) refl
              | inr h116 ↦ let k : None ≡ some c = rw (h34, h92, h110, h114, h116) at e in absurd (cc)
            ]
          ]
        ]
      ]
    ]

-- ---- texts
abbrev marked : Bool → List ℕ → List ℕ
marked true bytes = 92 ∷ bytes
marked false bytes = bytes

pub content_back : (q : Bool) (bytes : List ℕ) (found : List ℕ × List ℕ) → content_at q bytes ≡ some found → marked q bytes ≡ flat_map escaped found.0 ++ 34 ∷ found.1
content_back q [] found e = absurd cc
content_back true (b ∷ bytes) found e =
    let p = escaped_back (unescaped b) (content_at false bytes) found e in
    let more = p.1 in
    rw (p.4) (ap (λ (x : List ℕ). 92 ∷ b ∷ x) (content_back false bytes more p.3)
    ∙ ap (λ (x : List ℕ). x ++ (flat_map escaped more.0 ++ 34 ∷ more.1)) (sym (unescaped_back b p.0 p.2))
    ∙ sym (append_assoc (escaped p.0) (flat_map escaped more.0) (34 ∷ more.1)))
content_back false (b ∷ bytes) found e =
    elim (cases_Bool (eqb b 34)) [
      | inl h ↦ let k : some ([], bytes) ≡ some found = rw h at e in rw (← some_is ([], bytes) found k, eqb-true b 34 h) refl
      | inr h34 ↦ elim (cases_Bool (eqb b 92)) [
        | inl h ↦ let k : content_at true bytes ≡ some found = rw (h34, h) at e in rw (eqb-true b 92 h) (content_back true bytes found k)
        | inr h92 ↦ elim (cases_Bool (eqb b 10)) [
          | inl h ↦ let k : None ≡ some found = rw (h34, h92, h) at e in absurd (cc)
          | inr h10 ↦ elim (cases_Bool (eqb b 13)) [
            | inl h ↦ let k : None ≡ some found = rw (h34, h92, h10, h) at e in absurd (cc)
            | inr h13 ↦ elim (cases_Bool (eqb b 9)) [
              | inl h ↦ let k : None ≡ some found = rw (h34, h92, h10, h13, h) at e in absurd (cc)
              | inr h9 ↦
                  let k : with_byte b (content_at false bytes) ≡ some found = rw (h34, h92, h10, h13, h9) at e in
                  let p = byte_back b (content_at false bytes) found k in
                  let more = p.0 in
                  let self : escaped b ≡ b ∷ [] = rw (h34, h92, h10, h13, h9) refl in
                  rw (p.2) (ap (λ (x : List ℕ). b ∷ x) (content_back false bytes more p.1)
                  ∙ ap (λ (x : List ℕ). x ++ (flat_map escaped more.0 ++ 34 ∷ more.1)) (sym self)
                  ∙ sym (append_assoc (escaped b) (flat_map escaped more.0) (34 ∷ more.1)))
            ]
          ]
        ]
      ]
    ]

decoded_back : (found r : List ℕ × List ℕ) → decoded found ≡ some r → (found.0 ≡ encode_utf8_all r.0) × IsText r.0 × (found.1 ≡ r.1)
unfolding decoded
decoded_back found r e =
    let p = cond_some_of (is_utf8 found.0) (some (chars found.0, found.1)) r e in
    let same = some_is (chars found.0, found.1) r p.1 in
    let utf8 = IsUtf8-from_is_utf8 found.0 p.0 in (
      sym (encodes-chars found.0 utf8) ∙ ap (λ (x : List ℕ × List ℕ). encode_utf8_all x.0) same,
      subst (λ (x : List ℕ × List ℕ). all_scalars x.0 ≡ true) same (scalars-chars found.0 utf8),
      ap (λ (x : List ℕ × List ℕ). x.1) same,
    )

pub opened_back : (bytes : List ℕ) (r : List ℕ × List ℕ) → opened_at bytes ≡ some r → (bytes ≡ flat_map escaped (encode_utf8_all r.0) ++ 34 ∷ r.1) × IsText r.0
opened_back bytes r e =
    let p = bind_some (content_at false bytes) decoded r e in
    let found = p.0 in
    let d = decoded_back found r p.2 in
    (content_back false bytes found p.1 ∙ ap (λ (x : List ℕ). flat_map escaped x ++ 34 ∷ found.1) d.0 ∙ ap (λ (x : List ℕ). flat_map escaped (encode_utf8_all r.0) ++ 34 ∷ x) d.2, d.1)

close_quote : (t rest : List ℕ) → 34 ∷ (flat_map escaped (encode_utf8_all t) ++ 34 ∷ rest) ≡ quoted t ++ rest
close_quote t rest = ap (λ (x : List ℕ). 34 ∷ x) (sym (append_assoc (flat_map escaped (encode_utf8_all t)) (34 ∷ []) rest))

pub text_back : (bytes : List ℕ) (r : List ℕ × List ℕ) → text_at bytes ≡ some r → (bytes ≡ quoted r.0 ++ r.1) × IsText r.0
text_back bytes r e =
    let p = bind_some (past (34 ∷ []) bytes) opened_at r e in
    let o = opened_back p.0 r p.2 in
    (past_back (34 ∷ []) bytes p.0 p.1 ∙ ap (λ (x : List ℕ). 34 ∷ x) o.0 ∙ close_quote r.0 r.1, o.1)

pub also_back : (bytes : List ℕ) (r : List ℕ × List ℕ) → also_at bytes ≡ some r → (bytes ≡ also r.0 ++ r.1) × IsText r.0
also_back bytes r e =
    let p = bind_some (past (32 ∷ []) bytes) text_at r e in
    let t = text_back p.0 r p.2 in
    (past_back (32 ∷ []) bytes p.0 p.1 ∙ ap (λ (x : List ℕ). 32 ∷ x) t.0, t.1)

-- ---- names
optional_back : (bytes : List ℕ) (o : Option (List ℕ)) (r : Option (List ℕ) × List ℕ) → past (32 ∷ 34 ∷ []) bytes ≡ o → optional_at bytes o ≡ some r → (bytes ≡ also_prefix r.0 ++ r.1) × IfSome r.0 IsText
optional_back bytes None r was e = rw (← some_is (None, bytes) r e) (refl, tt)
optional_back bytes (Some inside) r was e =
    let p = bind_some (opened_at inside) some_prefix r e in
    let found = p.0 in
    let o = opened_back inside found p.1 in
    let same = some_is (some found.0, found.1) r p.2 in
    rw (← same) (past_back (32 ∷ 34 ∷ []) bytes inside was ∙ ap (λ (x : List ℕ). 32 ∷ 34 ∷ x) o.0 ∙ ap (λ (x : List ℕ). 32 ∷ x) (close_quote found.0 found.1), o.1)

pub prefix_back : (bytes : List ℕ) (r : Option (List ℕ) × List ℕ) → prefix_at bytes ≡ some r → (bytes ≡ also_prefix r.0 ++ r.1) × IfSome r.0 IsText
prefix_back bytes r e = optional_back bytes (past (32 ∷ 34 ∷ []) bytes) r refl e

pub name_back : (bytes : List ℕ) (r : QName × List ℕ) → name_at bytes ≡ some r → (bytes ≡ name_words r.0 ++ r.1) × IsName r.0
unfolding name_at
name_back bytes r e =
    let a = bind_some (text_at bytes) _ r e in
    let uri = a.0 in
    let b = bind_some (also_at uri.1) _ r a.2 in
    let local = b.0 in
    let c = bind_some (prefix_at local.1) _ r b.2 in
    let prefix = c.0 in
    let u = text_back bytes uri a.1 in
    let l = also_back uri.1 local b.1 in
    let p = prefix_back local.1 prefix c.1 in
    let n : QName = record { uri = uri.0; local = local.0; prefix = prefix.0 } in
    let same : (n, prefix.1) ≡ r = some_is (n, prefix.1) r c.2 in
    let parts : bytes ≡ name_words n ++ prefix.1 =
    u.0 ∙ ap (λ (x : List ℕ). quoted uri.0 ++ x) (l.0 ∙ ap (λ (x : List ℕ). also local.0 ++ x) p.0)
    ∙ sym (append_assoc (quoted uri.0) (also local.0) (also_prefix prefix.0 ++ prefix.1))
    ∙ sym (append_assoc (quoted uri.0 ++ also local.0) (also_prefix prefix.0) prefix.1) in
    subst (λ (x : QName × List ℕ). (bytes ≡ name_words x.0 ++ x.1) × IsName x.0) same (parts, (u.1, l.1, p.1))

-- ---- what stands before a mark
pub mark_back : (m : ℕ) (bytes rest : List ℕ) → behind (is_mark m) bytes ≡ some rest → bytes ≡ before (is_mark m) bytes ++ m ∷ rest
mark_back m [] rest e = absurd cc
mark_back m (c ∷ cs) rest e =
    elim (cases_Bool (eqb c m)) [
      | inl h ↦ let k : some cs ≡ some rest = rw h at e in rw h (rw (eqb-true c m h, some_is cs rest k) refl)
      | inr h ↦ let k : behind (is_mark m) cs ≡ some rest = rw h at e in rw h (ap (λ (x : List ℕ). c ∷ x) (mark_back m cs rest k))
    ]

pub alone_back : {A : Type 0} → (p : A × List ℕ) (a : A) → alone p ≡ some a → p ≡ (a, [])
alone_back (x, []) a e = ap (λ y. (y, [])) (some_is x a e)
alone_back (x, b ∷ bytes) a e = absurd cc
