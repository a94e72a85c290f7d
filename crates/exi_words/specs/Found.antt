-- What a parse found, as rows.
use Rattle.std.specs.Prelude.{List}
use Rattle.clap.specs.Words.{Row, found_of, rows_of}
use Rattle.clap.specs.declared.parser.matches.ArgMatches.{ArgMatches}

abbrev pub rows_found : ArgMatches → List Row
rows_found m = rows_of (found_of m)
