-- How terminals are found.
use Rattle.std.specs.Prelude.{◌≡◌, ◌↔◌, ℕ, Bool, true, ◌&&◌, ◌==◌, Option, Some, None, List, ◌++◌, IsTrue, bytes_eq, encode_utf8_all}
use Rattle.std.specs.Hash as fed
use Rattle.std.specs.Hash.{HashWrites}
use Rattle.exi_gram.specs.Candidates.{class_number, class_of}
use Rattle.exi_gram.specs.Terminals.{Symbol, sd, ed, se, se_in, se_any, at, at_in, at_any, at_text, at_any_text, xsi_type, xsi_nil, ch, ch_text, ee, ns, sc, er, cm, pi, dt}

-- the local name or the URI
abbrev pub text_of : Symbol → Option (List ℕ)
text_of (se name) = Some name.local
text_of (se_in uri) = Some uri
text_of (at name representation) = Some name.local
text_of (at_in uri) = Some uri
text_of (at_text name) = Some name.local
text_of sd = None
text_of ed = None
text_of se_any = None
text_of at_any = None
text_of at_any_text = None
text_of xsi_type = None
text_of xsi_nil = None
text_of (ch representation) = None
text_of ch_text = None
text_of ee = None
text_of ns = None
text_of sc = None
text_of er = None
text_of cm = None
text_of pi = None
text_of dt = None

-- what is fed to a hash
abbrev pub fed_of : Option (List ℕ) → ℕ → HashWrites
fed_of None number = fed.usize number
fed_of (Some text) number = fed.str (encode_utf8_all text)

abbrev pub fed_by : Symbol → HashWrites
fed_by s = fed_of (text_of s) (class_number (class_of s))
