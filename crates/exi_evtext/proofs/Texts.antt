-- Texts and names between quotes are read as what they were written from.
use Rattle.std.proofs.Common.{◌≡◌, ℕ, eqb, Bool, true, false, cond, List, [], ◌∷◌, ◌++◌, Option, Some, None, refl, ap, ◌∙◌, inl, inr, append_assoc}
use Rattle.std.specs.Prelude.{IfSome, encode_utf8_all}
use Rattle.std.specs.List.{flat_map}
use Rattle.std.specs.Str.{chars, is_utf8}
use Rattle.std.proofs.lemmas.Bool.{cases_Bool, eqb-true}
use Rattle.std.proofs.lemmas.Str.{chars-encodes, is_utf8-from_IsUtf8}
use Rattle.exi_names.specs.declared.names.QName.{QName}
use Rattle.exi_calendar.specs.Reading.{past}
use Rattle.exi_calendar.proofs.Fields.{past_front}
use Rattle.exi_evtext.specs.Lines.{also, also_prefix, escaped, name_words, quoted}
use Rattle.exi_evtext.specs.Reading.{also_at, content_at, decoded, name_at, opened_at, prefix_at, text_at, with_byte}
use Rattle.exi_evtext.specs.Spelling.{IsName, IsText}

-- ---- one byte
-- a byte that is none of those that are escaped
abbrev pub is_plain : ℕ → Bool
is_plain b = cond (eqb b 34) false (cond (eqb b 92) false (cond (eqb b 10) false (cond (eqb b 13) false (cond (eqb b 9) false true))))

escape_read : (b : ℕ) (more : List ℕ) → content_at false (escaped b ++ more) ≡ with_byte b (content_at false more)
escape_read b more =
    elim (cases_Bool (eqb b 34)) [
      | inl h ↦ rw (eqb-true b 34 h) refl
      | inr h34 ↦ elim (cases_Bool (eqb b 92)) [
        | inl h ↦ rw (eqb-true b 92 h) refl
        | inr h92 ↦ elim (cases_Bool (eqb b 10)) [
          | inl h ↦ rw (eqb-true b 10 h) refl
          | inr h10 ↦ elim (cases_Bool (eqb b 13)) [
            | inl h ↦ rw (eqb-true b 13 h) refl
            | inr h13 ↦ elim (cases_Bool (eqb b 9)) [
              | inl h ↦ rw (eqb-true b 9 h) refl
              | inr h9 ↦
                  let self : escaped b ≡ b ∷ [] = rw (h34, h92, h10, h13, h9) refl in
                  let read : content_at false (b ∷ more) ≡ with_byte b (content_at false more) = rw (h34, h92, h10, h13, h9) refl in
                  ap (λ (x : List ℕ). content_at false (x ++ more)) self ∙ read
            ]
          ]
        ]
      ]
    ]

-- ---- texts
pub content_read : (bytes rest : List ℕ) → content_at false (flat_map escaped bytes ++ 34 ∷ rest) ≡ Some (bytes, rest)
content_read [] rest = refl
content_read (b ∷ bytes) rest =
    ap (content_at false) (append_assoc (escaped b) (flat_map escaped bytes) (34 ∷ rest))
    ∙ escape_read b (flat_map escaped bytes ++ 34 ∷ rest)
    ∙ ap (with_byte b) (content_read bytes rest)

pub opened_read : (t rest : List ℕ) → IsText t → opened_at (flat_map escaped (encode_utf8_all t) ++ 34 ∷ rest) ≡ Some (t, rest)
unfolding decoded
opened_read t rest h =
    let utf8 : is_utf8 (encode_utf8_all t) ≡ true = is_utf8-from_IsUtf8 (encode_utf8_all t) (t, (h, refl)) in
    let back : chars (encode_utf8_all t) ≡ t = chars-encodes t h in
    rw (content_read (encode_utf8_all t) rest, utf8, back) refl

quote_opens : (t rest : List ℕ) → quoted t ++ rest ≡ 34 ∷ (flat_map escaped (encode_utf8_all t) ++ 34 ∷ rest)
quote_opens t rest = ap (λ (x : List ℕ). 34 ∷ x) (append_assoc (flat_map escaped (encode_utf8_all t)) (34 ∷ []) rest)

pub text_read : (t rest : List ℕ) → IsText t → text_at (quoted t ++ rest) ≡ Some (t, rest)
text_read t rest h =
    let inside = flat_map escaped (encode_utf8_all t) ++ 34 ∷ rest in
    rw (quote_opens t rest, past_front (34 ∷ []) inside) (opened_read t rest h)

pub also_read : (t rest : List ℕ) → IsText t → also_at (also t ++ rest) ≡ Some (t, rest)
also_read t rest h = rw (past_front (32 ∷ []) (quoted t ++ rest)) (text_read t rest h)

-- ---- names
-- no quote stands behind a space in front
abbrev pub NoPrefix : List ℕ → Type 0
NoPrefix rest = past (32 ∷ 34 ∷ []) rest ≡ None

pub prefix_read : (prefix : Option (List ℕ)) (rest : List ℕ) → IfSome prefix IsText → NoPrefix rest → prefix_at (also_prefix prefix ++ rest) ≡ Some (prefix, rest)
prefix_read None rest h none = rw none refl
prefix_read (Some t) rest h none =
    let inside = flat_map escaped (encode_utf8_all t) ++ 34 ∷ rest in
    let opens : also_prefix (Some t) ++ rest ≡ 32 ∷ 34 ∷ inside = ap (λ (x : List ℕ). 32 ∷ x) (quote_opens t rest) in
    rw (opens, past_front (32 ∷ 34 ∷ []) inside, opened_read t rest h) refl

pub name_read : (n : QName) (rest : List ℕ) → IsName n → NoPrefix rest → name_at (name_words n ++ rest) ≡ Some (n, rest)
unfolding name_at
name_read n rest h none =
    let parts = append_assoc (quoted n.uri ++ also n.local) (also_prefix n.prefix) rest ∙ append_assoc (quoted n.uri) (also n.local) (also_prefix n.prefix ++ rest) in
    rw (parts, text_read n.uri (also n.local ++ (also_prefix n.prefix ++ rest)) h.0, also_read n.local (also_prefix n.prefix ++ rest) h.1, prefix_read n.prefix rest h.2 none) refl
