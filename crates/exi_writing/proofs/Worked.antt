-- The definition on streams that were worked out by hand: the bits behind the header's byte, and which event is refused.
use Rattle.std.proofs.Common.{◌≡◌, ◌++◌, ◌+◌, ◌*◌, ◌-◌, ◌/◌, ℕ, Bool, true, false, ◌∷◌, [], List, Option, Some, None, map, length, refl}
use Rattle.std.specs.Prelude.{codes, Result, Ok, Err, replicate}
use Rattle.exi_bits.specs.declared.fault.Kind.{Kind}
use Rattle.exi_bits.specs.declared.fault.Kind.TheVariants as kind
use Rattle.exi_bits.specs.Bits.{bits, le_value, number_bits}
use Rattle.exi_bits.specs.Unsigned.{groups}
use Rattle.exi_bits.specs.Widths.{width_from}
use Rattle.exi_gram.specs.Books.{Contents, state_of}
use Rattle.exi_gram.specs.Codes.{code_bits}
use Rattle.exi_gram.specs.Switches.{default_options}
use Rattle.exi_gram.specs.Wholes.{document, without_schema}
use Rattle.exi_gram.specs.declared.options.Options.{Options}
use Rattle.exi_lexical.specs.Values.{value}
use Rattle.exi_meter.specs.Metering.{Bounds, bounds_of, stream_bounds}
use Rattle.exi_names.specs.Characters.{is_xml_char}
use Rattle.exi_names.specs.Events.{Happening, ch, cm, ed, ee, ns, pi, sc, sd, se}
use Rattle.exi_names.specs.Seen.{text}
use Rattle.exi_names.specs.StartTables.{first_names}
use Rattle.exi_text.specs.Literals.{chars_bits}
use Rattle.exi_values.specs.Written.{after_valued, valued_bits}
use Rattle.exi_values.specs.WrittenLaws.{valued_units}
use Rattle.exi_writing.specs.OneEvent.{Refused, followed_by, limit, not_derived, written}
use Rattle.exi_writing.specs.Pruned.{pruned}
use Rattle.exi_writing.specs.Runs.{Refusal, Run, body, put}

abbrev options : ℕ → Option ℕ → Options
options flags capacity = record default_options { flags = record { 0 = flags }; capacity = capacity }

abbrev book : Options → Contents
book o = record { options = o; schema = without_schema; states = map (state_of o first_names) (document []) ∷ [] }

-- the bits, filled up to whole bytes; or the event, and the limit if there is one
pub data Answer : Type 0 where
  bits_are : List Bool → Answer
  refused : ℕ → Option Kind → Answer

abbrev limit_of : Refused → Option Kind
limit_of not_derived = None
limit_of (limit k m) = Some k

abbrev answer : Result Run Refusal → Answer
answer (Ok r) = bits_are (r.bits ++ replicate ((length r.bits + 7) / 8 * 8 - length r.bits) false)
answer (Err e) = refused e.event (limit_of e.why)

abbrev write : ℕ → Option ℕ → Bounds → List Happening → Answer
write flags capacity limits es = answer (body (book (options flags capacity)) 8 limits es)

-- the bytes behind the header's
abbrev bytes_are : List ℕ → Answer
bytes_are bytes = bits_are (bits bytes)

abbrev element : List ℕ → Happening
element local = se (record { uri = []; local = local; prefix = None })

abbrev a : List ℕ
a = codes "a"

abbrev b : List ℕ
b = codes "b"

record Streams : Type 0 where
  -- an empty element
  empty_element : write 0 None stream_bounds (sd ∷ element a ∷ ee ∷ ed ∷ []) ≡ bytes_are (0x40 ∷ 0x98 ∷ 0x40 ∷ [])
  -- an element with a text
  one_text : write 0 None stream_bounds (sd ∷ element a ∷ ch (text (codes "x")) ∷ ee ∷ ed ∷ []) ≡ bytes_are (0x40 ∷ 0x98 ∷ 0x70 ∷ 0x37 ∷ 0x80 ∷ [])
  -- of two values that are kept the third pushes the first out, which is then missed again
  pushed_out : write 0 (Some 2) stream_bounds (sd ∷ element a ∷ element b ∷ ch (text (codes "x")) ∷ ee ∷ element b ∷ ch (text (codes "y")) ∷ ee ∷ element b ∷ ch (text (codes "z")) ∷ ee ∷ element b ∷ ch (text (codes "x")) ∷ ee ∷ ee ∷ ed ∷ []) ≡ bytes_are (0x40 ∷ 0x98 ∷ 0x64 ∷ 0x09 ∷ 0x8B ∷ 0x03 ∷ 0x78 ∷ 0x48 ∷ 0x04 ∷ 0x06 ∷ 0xF2 ∷ 0x00 ∷ 0x6F ∷ 0x40 ∷ 0x06 ∷ 0xF0 ∷ 0x40 ∷ [])
  -- an element that is self-contained
  self_contained : write 4 None stream_bounds (sd ∷ element a ∷ element b ∷ sc 0 ∷ ee ∷ ee ∷ ed ∷ []) ≡ bytes_are (0x40 ∷ 0x98 ∷ 0x5A ∷ 0x04 ∷ 0xC4 ∷ 0x80 ∷ 0x20 ∷ 0x4C ∷ 0x42 ∷ 0x00 ∷ [])
  -- a namespace declaration, whose prefix is that of the element
  with_prefixes : write 128 None stream_bounds (sd ∷ se (record { uri = codes "u"; local = a; prefix = None }) ∷ ns (codes "u") (codes "p") true ∷ ee ∷ ed ∷ []) ≡ bytes_are (0x00 ∷ 0x5D ∷ 0x40 ∷ 0x98 ∷ 0x54 ∷ 0x01 ∷ 0x70 ∷ 0x80 ∷ [])
  -- what the options switch off is not written
  left_out : write 0 None stream_bounds (cm (codes "c") ∷ sd ∷ se (record { uri = []; local = a; prefix = Some (codes "p") }) ∷ ns (codes "u") (codes "p") true ∷ ee ∷ ed ∷ pi [] [] ∷ []) ≡ bytes_are (0x40 ∷ 0x98 ∷ 0x40 ∷ [])
  -- an event that nothing stands for, by its number among all
  nothing_stands : write 0 None stream_bounds (sd ∷ cm [] ∷ ee ∷ []) ≡ refused 3 None
  -- a list that ends early
  ends_early : write 0 None stream_bounds (sd ∷ element a ∷ ee ∷ []) ≡ refused 4 None
  -- an event behind the end
  behind_end : write 0 None stream_bounds (sd ∷ element a ∷ ee ∷ ed ∷ ee ∷ []) ≡ refused 5 None
  -- a character that is no XML character
  no_xml_character : write 0 None stream_bounds (sd ∷ element (0 ∷ []) ∷ ee ∷ ed ∷ []) ≡ refused 2 None
  -- a limit is passed
  too_much_text : write 0 None (bounds_of 10 2 10) (sd ∷ element (codes "abc") ∷ ee ∷ ed ∷ []) ≡ refused 2 (Some kind.TextLimit)
  -- and what nothing stands for comes before it
  derived_first : write 0 None (bounds_of 1 2 10) (sd ∷ ee ∷ []) ≡ refused 2 None

streams : Streams
unfolding body put pruned written followed_by value after_valued valued_bits valued_units code_bits chars_bits is_xml_char bits number_bits groups le_value width_from
streams = record {
  empty_element = refl;
  one_text = refl;
  pushed_out = refl;
  self_contained = refl;
  with_prefixes = refl;
  left_out = refl;
  nothing_stands = refl;
  ends_early = refl;
  behind_end = refl;
  no_xml_character = refl;
  too_much_text = refl;
  derived_first = refl;
}
