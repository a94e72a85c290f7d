-- What was there, through several steps of writing.
use Rattle.std.proofs.Common.{◌≡◌, ◌≤◌, ℕ, List, [], ◌++◌, length, take, sym, ap, ◌∙◌, append_assoc, arith}
use Rattle.std.proofs.Math.Seq.{take-append_seam}
use Rattle.std.proofs.lemmas.List.{append-nil, length-append}
use Rattle.std.proofs.lemmas.Str.{IsCharBoundary-from_take}
use Rattle.std.specs.Str.{IsCharBoundary, IsUtf8}
use Rattle.exi_digits.specs.Pushed.{HoldsFront}
use Rattle.exi_evtext.specs.Kept.{Keeps}

pub kept_same : (old new : List ℕ) → new ≡ old → Keeps old new
kept_same old new e = record { more = []; held = e ∙ sym (append-nil old) }

pub kept_front : (old text new : List ℕ) → HoldsFront old text new → Keeps old new
kept_front old text new h = record { more = h.front; held = h.held }

pub kept_then : (old added mid new : List ℕ) → mid ≡ old ++ added → Keeps mid new → Keeps old new
kept_then old added mid new e h = record {
  more = added ++ h.more;
  held = h.held ∙ ap (λ (x : List ℕ). x ++ h.more) e ∙ append_assoc old added h.more;
}

pub kept_both : (old mid new : List ℕ) → Keeps old mid → Keeps mid new → Keeps old new
kept_both old mid new g h = record {
  more = g.more ++ h.more;
  held = h.held ∙ ap (λ (x : List ℕ). x ++ h.more) g.held ∙ append_assoc old g.more h.more;
}

pub kept_by : (old added new : List ℕ) → new ≡ old ++ added → Keeps old new
kept_by old added new e = record { more = added; held = e }

-- the text may be cut where something was put
pub cut_behind : (old new : List ℕ) (n : ℕ) → n ≡ length old → Keeps old new → IsUtf8 old → IsUtf8 new → IsCharBoundary new n
cut_behind old new n e h u v =
    let front : take n new ≡ old = ap (λ (k : ℕ). take k new) e ∙ ap (λ (x : List ℕ). take (length old) x) h.held ∙ take-append_seam old h.more in
    let within : n ≤ length new = omega (arith, e, ap (λ (x : List ℕ). length x) h.held, length-append old h.more) in
    IsCharBoundary-from_take new n v within (rw front u)

-- what is left after that is what was there
pub cut_is : (old new cut : List ℕ) (n : ℕ) → n ≡ length old → Keeps old new → cut ≡ take n new → cut ≡ old
cut_is old new cut n e h is = is ∙ ap (λ (k : ℕ). take k new) e ∙ ap (λ (x : List ℕ). take (length old) x) h.held ∙ take-append_seam old h.more
