-- Each stream has one list of events, with one end.
use Rattle.std.proofs.Common.{◌≡◌, ℕ, List, [], ◌++◌, Result, Ok, Err, refl, sym, ap, ◌∙◌}
use Rattle.exi_bits.specs.declared.fault.Fault.{Fault}
use Rattle.exi_header.specs.declared.header.Header.{Header}
use Rattle.exi_meter.specs.Metering.{stream_bounds}
use Rattle.exi_names.specs.Events.{Happening}
use Rattle.exi_processing.specs.Runs.{Job}
use Rattle.exi_processing.specs.declared.start.Start.TheVariants as start
use Rattle.exi_processing.specs.Laws.{ASequenceIsThere, OneSequence}
use Rattle.exi_run.specs.declared.ending.Ending.{Ending}
use Rattle.exi_run.specs.declared.ending.Ending.TheVariants as ending
use Rattle.exi_run.specs.Endings.{ending_of}
use Rattle.xsd_file.specs.Bases.{Basis, header_by, job_by}
use Rattle.exi_run.specs.Wholes.{IsBody, IsFront, IsWhole, IsWholeFrom}

body_there : ASequenceIsThere → (j : Job) → (es : List Happening) × (e : Ending) × IsBody j es e
body_there there j =
    let s = there j start.Body stream_bounds in
    (s.0, ending_of s.1, (s.1, s.2, s.3, refl))

whole_from : ASequenceIsThere → (basis : Basis) (bytes : List ℕ) (r : Result Header Fault) → (es : List Happening) × (e : Ending) × IsWholeFrom basis bytes r es e
whole_from there basis bytes (Ok h) = body_there there (job_by basis bytes h)
whole_from there basis bytes (Err f) = ([], ending.Fault f, (refl, refl))

pub whole_there : ASequenceIsThere → (basis : Basis) (bytes : List ℕ) → (es : List Happening) × (e : Ending) × IsWhole basis bytes es e
whole_there there basis bytes = whole_from there basis bytes (header_by basis bytes)

one_body : OneSequence → (j : Job) (es fs : List Happening) (d e : Ending) → IsBody j es d → IsBody j fs e → (es ≡ fs) × (d ≡ e)
one_body only j es fs d e (last, m, p, d_is) (other, n, q, e_is) =
    let same = only j start.Body stream_bounds es fs last other m n p q in
    (same.0, d_is ∙ ap ending_of same.1 ∙ sym e_is)

one_from : OneSequence → (basis : Basis) (bytes : List ℕ) (r : Result Header Fault) (es fs : List Happening) (d e : Ending) → IsWholeFrom basis bytes r es d → IsWholeFrom basis bytes r fs e → (es ≡ fs) × (d ≡ e)
one_from only basis bytes (Ok h) es fs d e p q = one_body only (job_by basis bytes h) es fs d e p q
one_from only basis bytes (Err f) es fs d e p q = (p.0 ∙ sym q.0, p.1 ∙ sym q.1)

pub one_whole_lem : OneSequence → (basis : Basis) (bytes : List ℕ) (es fs : List Happening) (d e : Ending) → IsWhole basis bytes es d → IsWhole basis bytes fs e → (es ≡ fs) × (d ≡ e)
one_whole_lem only basis bytes = one_from only basis bytes (header_by basis bytes)

pub front_whole_lem : OneSequence → (basis : Basis) (bytes : List ℕ) (es fs : List Happening) (e : Ending) → IsFront basis bytes es → IsWhole basis bytes fs e → (rest : List Happening) × (fs ≡ es ++ rest)
front_whole_lem only basis bytes es fs e (more, other, w) v = (more, (one_whole_lem only basis bytes fs (es ++ more) e other v w).0)
