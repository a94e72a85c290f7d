-- Texts between quotes, read run by run.
use Rattle.std.proofs.Common.{◌≡◌, ◌<◌, ◌≤◌, ◌+◌, ℕ, zero, suc, Bool, true, false, eqb, List, [], ◌∷◌, ◌++◌, get_or, length, take, drop, Option, Some, None, refl, sym, ap, ◌∙◌, inl, inr, append_assoc, arith}
use Rattle.std.proofs.lemmas.Bool.{cases_Bool, not-true}
use Rattle.std.proofs.lemmas.List.{append-nil, drop_more, take_more}
use Rattle.std.specs.Prelude.{option_map, Result, Ok, Err}
use Rattle.exi_evtext.specs.declared.stop.LineStop.{LineStop}
use Rattle.exi_evtext.specs.declared.stop.LineStop.TheVariants as stop
use Rattle.exi_evtext.specs.Reading.{content_at, is_bare, unescaped, with_byte, with_escaped}
use Rattle.exi_evtext.specs.Plain.{AllPass, is_inside_run}
use Rattle.exi_evtext.specs.Parsing.{Runs, Steps, behind_run, escape_at, front, mark_at, run_at, run_width, stops_run}

abbrev Found : Type 0
Found = Option (List ℕ × List ℕ)

front_none : (o : Found) → front [] o ≡ o
front_none None = refl
front_none (Some found) = refl

front_byte : (b : ℕ) (before : List ℕ) (o : Found) → with_byte b (front before o) ≡ front (b ∷ before) o
front_byte b before None = refl
front_byte b before (Some found) = refl

pub front_front : (a b : List ℕ) (o : Found) → front a (front b o) ≡ front (a ++ b) o
front_front a b None = refl
front_front a b (Some found) = ap (λ (x : List ℕ). Some (x, found.1)) (sym (append_assoc a b found.0))

-- a byte that stands for itself
plain_byte : (b : ℕ) (bytes : List ℕ) → stops_run b ≡ false → content_at false (b ∷ bytes) ≡ with_byte b (content_at false bytes)
plain_byte b bytes h =
    elim (cases_Bool (eqb b 34)) [
      | inl q ↦ let k : stops_run b ≡ true = rw q refl in absurd (cc)
      | inr q ↦
          elim (cases_Bool (eqb b 92)) [
            | inl s ↦ let k : stops_run b ≡ true = rw (q, s) refl in absurd (cc)
            | inr s ↦ let k : is_bare b ≡ false = rw (q, s) at h in rw (q, s, k) refl
          ]
    ]

-- the bytes in front that stand for themselves
run_read : (bytes : List ℕ) → content_at false bytes ≡ front (take (run_width bytes) bytes) (content_at false (drop (run_width bytes) bytes))
run_read [] = refl
run_read (b ∷ bytes) = elim (cases_Bool (stops_run b)) [
  | inl h ↦ rw h (sym (front_none (content_at false (b ∷ bytes))))
  | inr h ↦ rw h (plain_byte b bytes h ∙ ap (with_byte b) (run_read bytes) ∙ front_byte b (take (run_width bytes) bytes) (content_at false (drop (run_width bytes) bytes)))
]

-- what stands behind them does not stand for itself
run_stops : (bytes : List ℕ) (b : ℕ) (more : List ℕ) → drop (run_width bytes) bytes ≡ b ∷ more → stops_run b ≡ true
run_stops [] b more e = absurd cc
run_stops (c ∷ bytes) b more e = elim (cases_Bool (stops_run c)) [
  | inl h ↦ let k : c ∷ bytes ≡ b ∷ more = rw h at e in let same : c ≡ b = cc in rw (← same) h
  | inr h ↦ run_stops bytes b more (rw h at e)
]

pub byte_front : (b : ℕ) (o : Found) → with_byte b o ≡ front (b ∷ []) o
byte_front b None = refl
byte_front b (Some found) = refl

-- what is read behind a mark, or behind a backslash
abbrev pub by_mark : Option (Option ℕ × List ℕ) → Found
by_mark None = None
by_mark (Some (None, bytes)) = Some ([], bytes)
by_mark (Some (Some b, bytes)) = with_byte b (content_at false bytes)

abbrev by_escape : Option (ℕ × List ℕ) → Found
by_escape None = None
by_escape (Some found) = with_byte found.0 (content_at false found.1)

escaped_by : (o : Option ℕ) (bytes : List ℕ) → with_escaped o (content_at false bytes) ≡ by_escape (option_map (λ byte. (byte, bytes)) o)
escaped_by None bytes = refl
escaped_by (Some b) bytes = refl

mapped_mark : (o : Option (ℕ × List ℕ)) → by_escape o ≡ by_mark (option_map (λ found. (Some found.0, found.1)) o)
mapped_mark None = refl
mapped_mark (Some found) = refl

-- ---- what stands behind a run
behind_backslash : (bytes : List ℕ) → content_at true bytes ≡ by_escape (escape_at bytes)
behind_backslash [] = refl
behind_backslash (b ∷ bytes) = escaped_by (unescaped b) bytes

-- behind a run, what its mark tells is read
marked : (bytes : List ℕ) → ((b : ℕ) (more : List ℕ) → bytes ≡ b ∷ more → stops_run b ≡ true) → content_at false bytes ≡ by_mark (mark_at bytes)
marked [] stops = refl
marked (b ∷ more) stops = elim (cases_Bool (eqb b 34)) [
  | inl q ↦ rw q refl
  | inr q ↦ elim (cases_Bool (eqb b 92)) [
    | inl s ↦ rw (q, s) (behind_backslash more ∙ mapped_mark (escape_at more))
    | inr s ↦ let h = stops b more refl in let k : is_bare b ≡ true = rw (q, s) at h in rw (q, s, k) refl
  ]
]

-- a run, and what its mark tells
run_marked : (bytes : List ℕ) (o : Option (Option ℕ × List ℕ)) → behind_run bytes ≡ o → content_at false bytes ≡ front (run_at bytes) (by_mark o)
run_marked bytes o e = run_read bytes ∙ ap (front (run_at bytes)) (marked (drop (run_width bytes) bytes) (run_stops bytes) ∙ ap by_mark e)

pub steps_of : (r : Result Bool LineStop) (had has old new : List ℕ) → Runs r had has old new → Steps r had has old new
steps_of (Ok true) had has old new h =
    let byte = h.0 in
    let more = content_at false new in
    ap (front had) (run_marked old (Some (Some byte, new)) h.1 ∙ ap (front (run_at old)) (byte_front byte more))
    ∙ front_front had (run_at old) (front (byte ∷ []) more)
    ∙ front_front (had ++ run_at old) (byte ∷ []) more
    ∙ ap (λ (x : List ℕ). front x more) (sym h.2)
steps_of (Ok false) had has old new h =
    ap (front had) (run_marked old (Some (None, new)) h.0)
    ∙ ap (λ (x : List ℕ). Some (had ++ x, new)) (append-nil (run_at old))
    ∙ ap (λ (x : List ℕ). Some (x, new)) (sym h.1)
steps_of (Err stop.Form) had has old new h = run_marked old None h
steps_of (Err stop.Memory) had has old new h = tt

-- one byte more stands for itself
pub run_more : (s : List ℕ) (i : ℕ) → i < length s → stops_run (get_or s i 0) ≡ false → front (take i s) (content_at false (drop i s)) ≡ content_at false s → front (take (i + 1) s) (content_at false (drop (i + 1) s)) ≡ content_at false s
run_more s i lt plain h =
    let b = get_or s i 0 in
    let more = content_at false (drop (i + 1) s) in
    ap (λ (x : List ℕ). front x more) (take_more s i 0 lt)
    ∙ sym (front_front (take i s) (b ∷ []) more)
    ∙ ap (front (take i s)) (sym (byte_front b more) ∙ sym (plain_byte b (drop (i + 1) s) plain) ∙ ap (content_at false) (sym (drop_more s i 0 lt)))
    ∙ h

-- no byte is asked
pub run_none : (s : List ℕ) → front (take 0 s) (content_at false (drop 0 s)) ≡ content_at false s
run_none s = front_none (content_at false s)

-- so many bytes stand for themselves
pub run_all : (s : List ℕ) (n : ℕ) → n ≤ length s → AllPass is_inside_run s 0 n → front (take n s) (content_at false (drop n s)) ≡ content_at false s
run_all s zero le pass = front_none (content_at false s)
run_all [] (suc n) le pass = absurd (omega (arith, le))
run_all (b ∷ s) (suc n) le pass =
    let plain : stops_run b ≡ false = not-true (stops_run b) (pass 0 (omega arith) (omega arith)) in
    sym (front_byte b (take n s) (content_at false (drop n s)))
    ∙ ap (with_byte b) (run_all s n (omega (arith, le)) (λ k from to. pass (suc k) (omega arith) (omega arith)))
    ∙ sym (plain_byte b s plain)

-- what a mark in front tells is read
pub mark_read : (s : List ℕ) (mark : Option ℕ × List ℕ) → mark_at s ≡ Some mark → content_at false s ≡ by_mark (Some mark)
mark_read [] mark e = absurd cc
mark_read (b ∷ more) mark e = elim (cases_Bool (eqb b 34)) [
  | inl q ↦ let k : Some (None, more) ≡ Some mark = rw q at e in rw q (ap by_mark k)
  | inr q ↦ elim (cases_Bool (eqb b 92)) [
    | inl s ↦ let k : option_map (λ found. (Some found.0, found.1)) (escape_at more) ≡ Some mark = rw (q, s) at e in rw (q, s) (behind_backslash more ∙ mapped_mark (escape_at more) ∙ ap by_mark k)
    | inr s ↦ let k : None ≡ Some mark = rw (q, s) at e in absurd cc
  ]
]
