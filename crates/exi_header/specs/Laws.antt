-- The laws of headers.
use Rattle.std.specs.Prelude.{◌≡◌, ℕ, ◌↔◌, Bool, true, false, List, ◌++◌, length, Ok, if◌then◌else◌}
use Rattle.exi_bits.specs.Bits.{IsBytes, bits, number_bits}
use Rattle.exi_gram.specs.declared.options.Options.{Options}
use Rattle.exi_gram.specs.Switches.{conflicts}
use Rattle.exi_options.specs.Laws.{IsTellable}
use Rattle.exi_header.specs.declared.header.Header.{Header}
use Rattle.exi_header.specs.Headers.{cookie, header_bits, header_in}

-- what is written is read again
pub record IsReadBack (words o : Options) (document : Bool) (end : ℕ) (h : Header) : Type 0 where
  -- where the options are told, these are read, else those that are handed in
  pub options : h.options ≡ (if document then o else words)
  pub told : h.told ≡ document
  -- the body begins behind all that was written
  pub body : h.body ≡ end

-- what is written of options is read again, whatever follows, where they exclude nothing
abbrev pub WrittenIsRead : Type 0
WrittenIsRead = (o words : Options) (told marked : Bool) (bytes : List ℕ) (more : List Bool) → IsTellable o → conflicts o ≡ false → IsBytes bytes → bits bytes ≡ header_bits o told marked ++ more → (h : Header) × (header_in words bytes ≡ Ok h) × IsReadBack words o told (length (header_bits o told marked)) h

-- what is written begins with the cookie exactly where that is asked for
abbrev pub CookieIsAsked : Type 0
CookieIsAsked = (o : Options) (told marked : Bool) → (marked ≡ true) ↔ ((behind : List Bool) × (header_bits o told marked ≡ number_bits 32 cookie ++ behind))
