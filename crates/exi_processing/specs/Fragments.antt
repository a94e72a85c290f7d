-- How many fragments of self-contained elements a list of events begins.
use Rattle.std.specs.Prelude.{ℕ, ◌+◌, List, [], ◌∷◌}
use Rattle.exi_names.specs.Events.{Happening, at, ch, cm, dt, ed, ee, er, ns, pi, sc, sd, se}
use Rattle.exi_processing.specs.declared.start.Start.{Start}
use Rattle.exi_processing.specs.declared.start.Start.TheVariants as start

abbrev pub begins : Happening → ℕ
begins (sc byte) = 1
begins sd = 0
begins ed = 0
begins (se name) = 0
begins ee = 0
begins (at name found) = 0
begins (ch found) = 0
begins (ns uri prefix element) = 0
begins (cm text) = 0
begins (pi target text) = 0
begins (dt name public system text) = 0
begins (er name) = 0

abbrev pub fragments_in : List Happening → ℕ
fragments_in [] = 0
fragments_in (e ∷ es) = begins e + fragments_in es

-- and where reading begins at a fragment, this is one more
abbrev pub fragments_at : Start → ℕ
fragments_at start.Body = 0
fragments_at (start.Fragment byte) = 1
