-- Sequential processing of whole streams, worked by hand.
use Rattle.std.proofs.Common.{◌≡◌, ℕ, zero, suc, true, false, ◌∷◌, [], List, Option, Some, None, map, refl, sym, ap, ◌∙◌}
use Rattle.std.specs.Prelude.{codes}
use Rattle.exi_bits.specs.declared.fault.Kind.{Kind}
use Rattle.exi_bits.specs.declared.fault.Kind.TheVariants as kind
use Rattle.exi_bits.specs.Bits.{bits, le_value, number_at, number_bits, value_of}
use Rattle.exi_bits.specs.Repeat.{times}
use Rattle.exi_bits.specs.Unsigned.{below_at, field_at, groups_at, narrow_groups_at, unsigned_at}
use Rattle.exi_bits.specs.Widths.{width_from}
use Rattle.exi_gram.specs.Books.{Contents, state_of}
use Rattle.exi_gram.specs.Codes.{code_at, member_at, part_at, second_at}
use Rattle.exi_gram.specs.Switches.{default_options}
use Rattle.exi_gram.specs.Wholes.{document, without_schema}
use Rattle.exi_gram.specs.declared.options.Options.{Options}
use Rattle.exi_items.specs.Charges.{text_charge}
use Rattle.exi_meter.specs.Metering.{Bounds, bounds_of, stream_bounds}
use Rattle.exi_names.specs.Characters.{is_xml_char}
use Rattle.exi_names.specs.Events.{Happening, at, ch, cm, dt, ed, ee, er, ns, pi, sc, sd, se}
use Rattle.exi_names.specs.Seen.{name, text}
use Rattle.exi_names.specs.StartTables.{first_names}
use Rattle.exi_names.specs.declared.names.QName.{QName}
use Rattle.exi_text.specs.Literals.{chars_at, code_at as char_code_at, in_set_at}
use Rattle.exi_typed.specs.Items.{item_at}
use Rattle.exi_values.specs.Valued.{valued_at}
use Rattle.exi_typed.specs.NameValues.{name_value_at}
use Rattle.exi_typed.specs.Strings.{charged_at, declaration_at, declared_under, hit_at, indexed_at, known_at, literal_at, local_at, missed_at, name_at, name_under, value_at}
use Rattle.exi_processing.specs.Configurations.{Config, Setting, first_config}
use Rattle.exi_processing.specs.Contents.{attribute_value_at, both_at}
use Rattle.exi_processing.specs.OneEvent.{charge_at, followed, one}
use Rattle.exi_processing.specs.Runs.{IsRun, Turn, ends, events_of, goes, turn}
use Rattle.exi_processing.specs.Splices.{Spliced, ended, on, spliced, wrong_root}
use Rattle.exi_processing.specs.declared.end.End.{End}
use Rattle.exi_processing.specs.declared.end.End.TheVariants as end
use Rattle.exi_processing.specs.declared.start.Start.TheVariants as start

-- the events from a configuration on, over at most so many turns, and the end where it is reached
pub record Walk : Type 0 where
  pub events : List Happening
  pub end : Option End

abbrev in_front : Option Happening → Walk → Walk
in_front None w = w
in_front (Some e) w = record w { events = e ∷ w.events }

abbrev walk_on : Turn → (Config → Walk) → Walk
walk_on (ends x e) more = in_front x (record { events = []; end = Some e })
walk_on (goes x next) more = in_front x (more next)

abbrev walk : ℕ → Setting → List ℕ → Config → Walk
walk zero g bytes c = record { events = []; end = None }
walk (suc n) g bytes c = walk_on (turn g bytes c) (walk n g bytes)

-- ---- what was walked to an end is a run with these events and this end
pub record Walked (g : Setting) (bytes : List ℕ) (c : Config) (w : Walk) : Type 0 where
  pub turns : List (Option Happening)
  pub end : End
  pub run : IsRun g bytes c turns end
  pub same : w ≡ record { events = events_of turns; end = Some end }

pub IsReached : Setting → List ℕ → Config → Walk → Type 0
IsReached g bytes c w = (e : End) → w.end ≡ Some e → Walked g bytes c w

front_end : (x : Option Happening) (w : Walk) → (in_front x w).end ≡ w.end
front_end None w = refl
front_end (Some e) w = refl

front_walk : (x : Option Happening) (turns : List (Option Happening)) (how : End) → in_front x (record { events = events_of turns; end = Some how }) ≡ record { events = events_of (x ∷ turns); end = Some how }
front_walk None turns how = refl
front_walk (Some e) turns how = refl

turn_walked : (g : Setting) (bytes : List ℕ) (c : Config) (t : Turn) (more : Config → Walk) → turn g bytes c ≡ t → ((d : Config) → IsReached g bytes d (more d)) → IsReached g bytes c (walk_on t more)
unfolding IsReached
turn_walked g bytes c (ends x e) more h reached how k = record {
  turns = x ∷ [];
  end = e;
  run = record { before = []; reached = c; leads = refl; event = x; at_end = h; all = refl };
  same = front_walk x [] e;
}
turn_walked g bytes c (goes x next) more h reached how k =
    let w = reached next how (sym (front_end x (more next)) ∙ k) in
    record {
      turns = x ∷ w.turns;
      end = w.end;
      run = record { before = x ∷ w.run.before; reached = w.run.reached; leads = (next, h, w.run.leads); event = w.run.event; at_end = w.run.at_end; all = ap (λ (z : List (Option Happening)). x ∷ z) w.run.all };
      same = ap (λ (z : Walk). in_front x z) w.same ∙ front_walk x w.turns w.end;
    }

pub walked : (n : ℕ) (g : Setting) (bytes : List ℕ) (c : Config) → IsReached g bytes c (walk n g bytes c)
unfolding IsReached
walked zero g bytes c how k = absurd cc
walked (suc n) g bytes c how k = turn_walked g bytes c (turn g bytes c) (walk n g bytes) refl (walked n g bytes) how k

-- ---- words for the streams
abbrev options : ℕ → Options
options flags = record default_options { flags = record { 0 = flags } }

-- a book without a schema
abbrev book : Options → Contents
book o = record { options = o; schema = without_schema; states = map (state_of o first_names) (document []) ∷ [] }

-- a body behind the header's byte, under these options and limits
abbrev read : ℕ → Bounds → List ℕ → Walk
read flags limits bytes = walk 40 (book (options flags)) bytes (first_config (book (options flags)) 8 start.Body limits)

-- a body under valueMaxLength and valuePartitionCapacity
abbrev bounded : ℕ → Option ℕ → Option ℕ → Options
bounded flags most capacity = record (options flags) { most = most; capacity = capacity }

abbrev read_bounded : ℕ → Option ℕ → Option ℕ → List ℕ → Walk
read_bounded flags most capacity bytes = walk 40 (book (bounded flags most capacity)) bytes (first_config (book (bounded flags most capacity)) 8 start.Body stream_bounds)

-- a fragment at a byte
abbrev read_at : ℕ → ℕ → List ℕ → Walk
read_at flags byte bytes = walk 40 (book (options flags)) bytes (first_config (book (options flags)) 8 (start.Fragment byte) stream_bounds)

abbrev element : List ℕ → Happening
element local = se (record { uri = []; local = local; prefix = None })

abbrev a : List ℕ
a = codes "a"

abbrev b : List ℕ
b = codes "b"

-- the end, and the events, units of text and open elements that were charged
abbrev done : ℕ → ℕ → ℕ → ℕ → End
done bit events units deepest = end.Done bit (record { events = events; text = units; deepest = deepest }) None

abbrev wrong : Kind → ℕ → ℕ → ℕ → ℕ → End
wrong k bit events units deepest = end.Fault (record { kind = k; bit = bit }) (record { events = events; text = units; deepest = deepest }) None

abbrev rooted : Option QName → End → End
rooted root (end.Done bit tally old) = end.Done bit tally root
rooted root (end.Fault fault tally old) = end.Fault fault tally root

abbrev reached : List Happening → End → Walk
reached es e = record { events = es; end = Some e }

abbrev root_in : Option QName → Option End → Option End
root_in root None = None
root_in root (Some e) = Some (rooted root e)

abbrev with_root : Option QName → Walk → Walk
with_root root w = record w { end = root_in root w.end }

-- ---- fragments that are read apart
abbrev after_turn : Turn → Config → (Config → Config) → Config
after_turn (ends x e) c more = c
after_turn (goes x next) c more = more next

-- so many turns further on
abbrev after : ℕ → Setting → List ℕ → Config → Config
after zero g bytes c = c
after (suc n) g bytes c = after_turn (turn g bytes c) c (after n g bytes)

abbrev behind_splice : Setting → List ℕ → Spliced → Walk
behind_splice g bytes (on next) = walk 40 g bytes next
behind_splice g bytes (ended e) = reached [] e
behind_splice g bytes (wrong_root e) = reached [] e

abbrev with_outcome : Setting → List ℕ → Config → Option End → Walk
with_outcome g bytes c None = record { events = []; end = None }
with_outcome g bytes c (Some e) = behind_splice g bytes (spliced c e)

-- what comes behind so many turns, and behind the fragment that begins there at a byte, read apart
abbrev read_spliced : ℕ → ℕ → ℕ → List ℕ → Walk
read_spliced flags turns byte bytes = with_outcome (book (options flags)) bytes (after turns (book (options flags)) bytes (first_config (book (options flags)) 8 start.Body stream_bounds)) (read_at flags byte bytes).end

-- ---- the streams, each named by what it shows
pub record Streams : Type 0 where
  -- an empty element
  pub empty_element : read 0 stream_bounds (0x80 ∷ 0x40 ∷ 0x98 ∷ 0x40 ∷ []) ≡ reached (sd ∷ element a ∷ ee ∷ ed ∷ []) (done 28 4 1 1)
  -- an element with a text
  pub one_text : read 0 stream_bounds (0x80 ∷ 0x40 ∷ 0x98 ∷ 0x70 ∷ 0x37 ∷ 0x80 ∷ []) ≡ reached (sd ∷ element a ∷ ch (text (codes "x")) ∷ ee ∷ ed ∷ []) (done 45 5 2 1)
  -- four elements of one name; from the second on their productions are learned ones
  pub four_children : read 0 stream_bounds (0x80 ∷ 0x40 ∷ 0x98 ∷ 0x64 ∷ 0x09 ∷ 0x8B ∷ 0x03 ∷ 0x78 ∷ 0x48 ∷ 0x04 ∷ 0x06 ∷ 0xF2 ∷ 0x00 ∷ 0x6F ∷ 0x40 ∷ 0x06 ∷ 0xF0 ∷ 0x40 ∷ []) ≡ reached (sd ∷ element a ∷ element b ∷ ch (text (codes "x")) ∷ ee ∷ element b ∷ ch (text (codes "y")) ∷ ee ∷ element b ∷ ch (text (codes "z")) ∷ ee ∷ element b ∷ ch (text (codes "x")) ∷ ee ∷ ee ∷ ed ∷ []) (done 138 16 9 2)
  -- the local name is cut off
  pub cut_name : read 0 stream_bounds (0x80 ∷ 0x40 ∷ 0x98 ∷ []) ≡ reached (sd ∷ []) (wrong kind.Short 18 2 1 1)
  -- a whole byte behind the end
  pub byte_behind : read 0 stream_bounds (0x80 ∷ 0x40 ∷ 0x98 ∷ 0x40 ∷ 0x00 ∷ []) ≡ reached (sd ∷ element a ∷ ee ∷ ed ∷ []) (wrong kind.TrailingBytes 32 4 1 1)
  -- a hit where no value is
  pub no_value_there : read 0 stream_bounds (0x80 ∷ 0x40 ∷ 0x98 ∷ 0x70 ∷ 0x00 ∷ []) ≡ reached (sd ∷ element a ∷ []) (wrong kind.BadPlace 36 3 1 1)
  -- the character 0
  pub no_xml_character : read 0 stream_bounds (0x80 ∷ 0x40 ∷ 0x80 ∷ 0x00 ∷ []) ≡ reached (sd ∷ []) (wrong kind.BadChar 18 2 1 1)
  -- the empty element in whole bytes
  pub in_whole_bytes : read 8 stream_bounds (0x80 ∷ 0x01 ∷ 0x02 ∷ 0x61 ∷ 0x00 ∷ []) ≡ reached (sd ∷ element a ∷ ee ∷ ed ∷ []) (done 40 4 1 1)
  -- a namespace declaration, whose prefix is that of the element
  pub with_prefixes : read 128 stream_bounds (0x80 ∷ 0x00 ∷ 0x5D ∷ 0x40 ∷ 0x98 ∷ 0x54 ∷ 0x01 ∷ 0x70 ∷ 0x80 ∷ []) ≡ reached (sd ∷ se (record { uri = codes "u"; local = a; prefix = None }) ∷ ns (codes "u") (codes "p") true ∷ ee ∷ ed ∷ []) (done 68 5 4 1)
  -- an attribute, and then a learned one with a value that is told by its place among its own
  pub attributes : read 0 stream_bounds (0x80 ∷ 0x40 ∷ 0x98 ∷ 0x64 ∷ 0x09 ∷ 0x89 ∷ 0x40 ∷ 0x9A ∷ 0xC0 ∷ 0xDD ∷ 0xA4 ∷ 0x80 ∷ 0x28 ∷ 0x00 ∷ 0x80 ∷ []) ≡ reached (sd ∷ se (record { uri = []; local = codes "a"; prefix = None }) ∷ se (record { uri = []; local = codes "b"; prefix = None }) ∷ at (record { uri = []; local = codes "k"; prefix = None }) (text (codes "v")) ∷ ee ∷ se (record { uri = []; local = codes "b"; prefix = None }) ∷ at (record { uri = []; local = codes "k"; prefix = None }) (text (codes "v")) ∷ ee ∷ ee ∷ ed ∷ []) (done 113 10 7 2)
  -- xsi:type has a name, and is learned once
  pub types : read 0 stream_bounds (0x80 ∷ 0x40 ∷ 0x98 ∷ 0x5C ∷ 0x02 ∷ 0x81 ∷ 0x3A ∷ 0x10 ∷ 0x0D ∷ 0xC0 ∷ 0x28 ∷ 0x06 ∷ 0x00 ∷ []) ≡ reached (sd ∷ se (record { uri = []; local = codes "a"; prefix = None }) ∷ at (record { uri = codes "http://www.w3.org/2001/XMLSchema-instance"; local = codes "type"; prefix = None }) (name (record { uri = []; local = codes "t"; prefix = None })) ∷ at (record { uri = codes "http://www.w3.org/2001/XMLSchema-instance"; local = codes "type"; prefix = None }) (name (record { uri = []; local = codes "t"; prefix = None })) ∷ at (record { uri = codes "http://www.w3.org/2001/XMLSchema-instance"; local = codes "type"; prefix = None }) (name (record { uri = []; local = codes "t"; prefix = None })) ∷ ee ∷ ed ∷ []) (done 97 7 142 1)
  -- in a strict stream a type that is not there is at fault, at its first bit
  pub no_type_there : read 1 stream_bounds (0x80 ∷ 0x40 ∷ 0x98 ∷ 0x5C ∷ 0x02 ∷ 0x81 ∷ 0x3A ∷ 0x00 ∷ []) ≡ reached (sd ∷ se (record { uri = []; local = codes "a"; prefix = None }) ∷ []) (wrong kind.BadType 39 3 48 1)
  -- xsi:nil has a string
  pub nil_is_a_string : read 0 stream_bounds (0x80 ∷ 0x40 ∷ 0x98 ∷ 0x5C ∷ 0x00 ∷ 0x06 ∷ 0x63 ∷ 0x00 ∷ []) ≡ reached (sd ∷ se (record { uri = []; local = codes "a"; prefix = None }) ∷ at (record { uri = codes "http://www.w3.org/2001/XMLSchema-instance"; local = codes "nil"; prefix = None }) (text (codes "1")) ∷ ee ∷ ed ∷ []) (done 58 5 46 1)
  -- comments and processing instructions before, in and after the element
  pub comments_and_instructions : read 48 stream_bounds (0x80 ∷ 0x80 ∷ 0x58 ∷ 0xC8 ∷ 0x13 ∷ 0x0C ∷ 0x80 ∷ 0xBA ∷ 0x01 ∷ 0xBC ∷ 0x10 ∷ 0x3C ∷ 0xE0 ∷ 0x0B ∷ 0x23 ∷ 0x01 ∷ 0x74 ∷ 0x00 ∷ 0x00 ∷ []) ≡ reached (sd ∷ cm (codes "c") ∷ se (record { uri = []; local = codes "a"; prefix = None }) ∷ pi (codes "t") (codes "x y") ∷ cm (codes "d") ∷ ee ∷ pi (codes "t") [] ∷ ed ∷ []) (done 145 8 8 1)
  -- a document type and entity references
  pub document_type : read 64 stream_bounds (0x80 ∷ 0x80 ∷ 0xB0 ∷ 0x80 ∷ 0x00 ∷ 0xB9 ∷ 0x80 ∷ 0x10 ∷ 0x26 ∷ 0x18 ∷ 0x02 ∷ 0xCB ∷ 0x80 ∷ 0x59 ∷ 0x80 ∷ []) ≡ reached (sd ∷ dt (codes "a") [] (codes "s") [] ∷ se (record { uri = []; local = codes "a"; prefix = None }) ∷ er (codes "e") ∷ er (codes "f") ∷ ee ∷ ed ∷ []) (done 115 7 5 1)
  -- a fragment of two elements, the second by a learned production
  pub a_fragment : read 2 stream_bounds (0x80 ∷ 0x20 ∷ 0x4C ∷ 0x20 ∷ 0x80 ∷ []) ≡ reached (sd ∷ se (record { uri = []; local = codes "a"; prefix = None }) ∷ ee ∷ se (record { uri = []; local = codes "a"; prefix = None }) ∷ ee ∷ ed ∷ []) (done 34 6 2 1)
  -- a local name that is spelled out again goes on as its least place
  pub second_places : read 0 stream_bounds (0x80 ∷ 0x40 ∷ 0x98 ∷ 0x64 ∷ 0x09 ∷ 0x8B ∷ 0x03 ∷ 0x78 ∷ 0x48 ∷ 0x13 ∷ 0x10 ∷ 0x01 ∷ 0x10 ∷ 0x08 ∷ 0x02 ∷ 0x80 ∷ []) ≡ reached (sd ∷ se (record { uri = []; local = codes "a"; prefix = None }) ∷ se (record { uri = []; local = codes "b"; prefix = None }) ∷ ch (text (codes "x")) ∷ ee ∷ se (record { uri = []; local = codes "b"; prefix = None }) ∷ ch (text (codes "x")) ∷ ee ∷ se (record { uri = []; local = codes "b"; prefix = None }) ∷ ch (text (codes "x")) ∷ ee ∷ ee ∷ ed ∷ []) (done 122 13 7 2)
  -- the empty value is not added
  pub empty_value : read 0 stream_bounds (0x80 ∷ 0x40 ∷ 0x98 ∷ 0x70 ∷ 0x2C ∷ 0x00 ∷ []) ≡ reached (sd ∷ se (record { uri = []; local = codes "a"; prefix = None }) ∷ ch (text []) ∷ []) (wrong kind.BadPlace 46 4 1 1)
  -- with prefixes five productions are told apart by three bits, of which 111 is none
  pub no_code : read 128 stream_bounds (0x80 ∷ 0x40 ∷ 0x98 ∷ 0x78 ∷ []) ≡ reached (sd ∷ se (record { uri = []; local = codes "a"; prefix = Some [] }) ∷ []) (wrong kind.NoCode 26 2 1 1)
  -- the limit of text has the first bit of the event
  pub too_much_text : read 0 (bounds_of 10 2 10) (0x80 ∷ 0x41 ∷ 0x18 ∷ 0x58 ∷ 0x98 ∷ 0xC0 ∷ []) ≡ reached (sd ∷ []) (wrong kind.TextLimit 8 2 0 1)
  -- the limit of events has the first bit of the code
  pub too_many_events : read 0 (bounds_of 2 10 10) (0x80 ∷ 0x40 ∷ 0x98 ∷ 0x40 ∷ []) ≡ reached (sd ∷ se (record { uri = []; local = codes "a"; prefix = None }) ∷ []) (wrong kind.EventLimit 26 2 1 1)
  -- the limit of depth comes before the name
  pub too_deep : read 0 (bounds_of 10 10 1) (0x80 ∷ 0x40 ∷ 0x98 ∷ 0x60 ∷ []) ≡ reached (sd ∷ se (record { uri = []; local = codes "a"; prefix = None }) ∷ []) (wrong kind.DepthLimit 26 3 1 1)
  -- names whose URI has no prefix yet, two, and one
  pub prefixes_by_place : read 128 stream_bounds (0x80 ∷ 0x00 ∷ 0x5D ∷ 0x40 ∷ 0x98 ∷ 0x54 ∷ 0x01 ∷ 0x70 ∷ 0xA8 ∷ 0x01 ∷ 0x71 ∷ 0x38 ∷ 0x04 ∷ 0xC7 ∷ 0x24 ∷ 0x09 ∷ 0xAC ∷ 0x0A ∷ 0x00 ∷ []) ≡ reached (sd ∷ se (record { uri = codes "u"; local = codes "a"; prefix = None }) ∷ ns (codes "u") (codes "p") true ∷ ns (codes "u") (codes "q") false ∷ se (record { uri = codes "u"; local = codes "c"; prefix = Some (codes "q") }) ∷ at (record { uri = []; local = codes "k"; prefix = Some [] }) (text []) ∷ ee ∷ ee ∷ ed ∷ []) (done 147 9 10 2)
  -- in whole bytes a number may be too large for its bits
  pub number_too_large : read 8 stream_bounds (0x80 ∷ 0x04 ∷ []) ≡ reached (sd ∷ []) (wrong kind.BadPlace 8 2 0 1)
  -- in whole bytes the flag of a declaration may be neither 0 nor 1
  pub flag_too_large : read 136 stream_bounds (0x80 ∷ 0x01 ∷ 0x02 ∷ 0x61 ∷ 0x02 ∷ 0x01 ∷ 0x01 ∷ 0x02 ∷ []) ≡ reached (sd ∷ se (record { uri = []; local = codes "a"; prefix = Some [] }) ∷ []) (wrong kind.BadPlace 56 3 1 1)
  -- a URI that is spelled out again goes on as its least place, whose local names are found
  pub second_uri : read 0 stream_bounds (0x80 ∷ 0x00 ∷ 0x5D ∷ 0x40 ∷ 0x98 ∷ 0x60 ∷ 0x02 ∷ 0xEA ∷ 0x01 ∷ 0x50 ∷ 0x27 ∷ 0xA0 ∷ []) ≡ reached (sd ∷ se (record { uri = codes "u"; local = codes "a"; prefix = None }) ∷ se (record { uri = codes "u"; local = codes "a"; prefix = None }) ∷ []) (wrong kind.Short 85 4 43 2)
  -- elements of one name learn together, also while one is open in another
  pub nested : read 0 stream_bounds (0x80 ∷ 0x40 ∷ 0x98 ∷ 0x64 ∷ 0x01 ∷ 0x30 ∷ 0x37 ∷ 0x60 ∷ 0x01 ∷ 0x40 ∷ []) ≡ reached (sd ∷ se (record { uri = []; local = codes "a"; prefix = None }) ∷ se (record { uri = []; local = codes "a"; prefix = None }) ∷ se (record { uri = []; local = codes "a"; prefix = None }) ∷ ee ∷ ch (text (codes "v")) ∷ ch (text (codes "v")) ∷ ee ∷ ee ∷ ed ∷ []) (done 74 10 5 3)
  -- a value that another name added is told among all, and stands not among the own
  pub other_value : read 0 stream_bounds (0x80 ∷ 0x40 ∷ 0x98 ∷ 0x54 ∷ 0x09 ∷ 0xAC ∷ 0x0D ∷ 0xDB ∷ 0x80 ∷ 0xE0 ∷ 0x00 ∷ []) ≡ reached (sd ∷ se (record { uri = []; local = codes "a"; prefix = None }) ∷ at (record { uri = []; local = codes "k"; prefix = None }) (text (codes "v")) ∷ ch (text (codes "v")) ∷ []) (wrong kind.BadPlace 83 5 4 1)
  -- of three prefixes no fourth is told
  pub third_prefix : read 128 stream_bounds (0x80 ∷ 0x00 ∷ 0x5D ∷ 0x40 ∷ 0x98 ∷ 0x54 ∷ 0x01 ∷ 0x70 ∷ 0x28 ∷ 0x01 ∷ 0x71 ∷ 0x28 ∷ 0x00 ∷ 0xB9 ∷ 0x1C ∷ 0x02 ∷ 0x6B ∷ 0xC0 ∷ []) ≡ reached (sd ∷ se (record { uri = codes "u"; local = codes "a"; prefix = None }) ∷ ns (codes "u") (codes "p") false ∷ ns (codes "u") (codes "q") false ∷ ns (codes "u") (codes "r") false ∷ []) (wrong kind.BadPlace 136 6 10 2)
  -- a document may be a fragment of no element, in whole bytes; a whole byte behind it is at fault
  pub only_ed : read 10 stream_bounds (0x80 ∷ 0x01 ∷ 0x00 ∷ []) ≡ reached (sd ∷ ed ∷ []) (wrong kind.TrailingBytes 16 2 0 0)
  -- a comment before the element stays, and the next code is cut off
  pub cut_behind_comment : read 16 stream_bounds (0x80 ∷ 0x80 ∷ 0x00 ∷ []) ≡ reached (sd ∷ cm [] ∷ []) (wrong kind.Short 20 3 0 1)
  -- with DT, CM and PI the third part of a code is cut off
  pub three_parts : read 112 stream_bounds (0x80 ∷ 0xE0 ∷ []) ≡ reached (sd ∷ []) (wrong kind.Short 11 2 0 0)
  -- a code that is cut off comes before the limit of events
  pub one_event : read 16 (bounds_of 1 9 9) (0x80 ∷ []) ≡ reached (sd ∷ []) (wrong kind.Short 8 1 0 0)
  -- an element in an element is too deep, by a learned production
  pub level_of_nested : read 0 (bounds_of 10 2 2) (0x80 ∷ 0x40 ∷ 0x98 ∷ 0x64 ∷ 0x01 ∷ 0x30 ∷ 0x37 ∷ 0x60 ∷ 0x01 ∷ 0x40 ∷ []) ≡ reached (sd ∷ se (record { uri = []; local = codes "a"; prefix = None }) ∷ se (record { uri = []; local = codes "a"; prefix = None }) ∷ []) (wrong kind.DepthLimit 38 4 2 2)
  -- a comment charges its length before its characters
  pub text_of_comment : read 16 (bounds_of 9 3 9) (0x80 ∷ 0x82 ∷ 0x00 ∷ []) ≡ reached (sd ∷ []) (wrong kind.TextLimit 8 2 0 0)
  -- a value of another element is not among the own
  pub other_element_value : read 0 stream_bounds (0x80 ∷ 0x40 ∷ 0x98 ∷ 0x70 ∷ 0x37 ∷ 0x89 ∷ 0x02 ∷ 0x62 ∷ 0xC0 ∷ 0x00 ∷ []) ≡ reached (sd ∷ se (record { uri = []; local = codes "a"; prefix = None }) ∷ ch (text (codes "x")) ∷ se (record { uri = []; local = codes "b"; prefix = None }) ∷ []) (wrong kind.BadPlace 74 5 3 2)
  -- a comment in the start tag goes to the content
  pub comment_inside : read 16 stream_bounds (0x80 ∷ 0x20 ∷ 0x4C ∷ 0x30 ∷ 0x00 ∷ []) ≡ reached (sd ∷ se (record { uri = []; local = codes "a"; prefix = None }) ∷ cm [] ∷ ee ∷ ed ∷ []) (done 40 5 1 1)
  -- a URI has local names of its own
  pub own_uri : read 4 stream_bounds (0x80 ∷ 0x00 ∷ 0x00 ∷ 0x98 ∷ 0x8B ∷ 0x00 ∷ 0x90 ∷ 0xA6 ∷ 0x38 ∷ []) ≡ reached (sd ∷ se (record { uri = []; local = codes "b"; prefix = None }) ∷ []) (wrong kind.Short 68 3 56 1)
  -- an element that is self-contained: the fragment begins at a whole byte, with SD, SE and ED of its own
  pub self_contained : read 4 stream_bounds (0x80 ∷ 0x40 ∷ 0x98 ∷ 0x5A ∷ 0x04 ∷ 0xC4 ∷ 0x80 ∷ 0x20 ∷ 0x4C ∷ 0x42 ∷ 0x00 ∷ []) ≡ reached (sd ∷ se (record { uri = []; local = codes "a"; prefix = None }) ∷ se (record { uri = []; local = codes "b"; prefix = None }) ∷ sc 7 ∷ ee ∷ ee ∷ ed ∷ []) (done 81 7 3 2)
  -- the fragment begins with another element
  pub other_root : read 4 stream_bounds (0x80 ∷ 0x40 ∷ 0x98 ∷ 0x5A ∷ 0x04 ∷ 0xC4 ∷ 0x80 ∷ 0x20 ∷ 0x4C ∷ 0x62 ∷ 0x00 ∷ []) ≡ reached (sd ∷ se (record { uri = []; local = codes "a"; prefix = None }) ∷ se (record { uri = []; local = codes "b"; prefix = None }) ∷ sc 7 ∷ []) (wrong kind.ScRoot 56 4 3 2)
  -- the name of the fragment's element is cut off
  pub cut_fragment : read 4 stream_bounds (0x80 ∷ 0x40 ∷ 0x98 ∷ 0x5A ∷ 0x04 ∷ 0xC4 ∷ 0x80 ∷ 0x20 ∷ 0x4C ∷ []) ≡ reached (sd ∷ se (record { uri = []; local = codes "a"; prefix = None }) ∷ se (record { uri = []; local = codes "b"; prefix = None }) ∷ sc 7 ∷ []) (wrong kind.Short 67 4 3 2)
  -- the fragment's own events are not counted, and its EE is
  pub events_in_fragment : read 4 (bounds_of 4 100 100) (0x80 ∷ 0x40 ∷ 0x98 ∷ 0x5A ∷ 0x04 ∷ 0xC4 ∷ 0x80 ∷ 0x20 ∷ 0x4C ∷ 0x42 ∷ 0x00 ∷ []) ≡ reached (sd ∷ se (record { uri = []; local = codes "a"; prefix = None }) ∷ se (record { uri = []; local = codes "b"; prefix = None }) ∷ sc 7 ∷ []) (wrong kind.EventLimit 75 4 3 2)
  -- a fragment that is read by itself ends at the next whole byte, whatever follows, with the root
  pub alone : read_at 4 7 (0x80 ∷ 0x40 ∷ 0x98 ∷ 0x5A ∷ 0x04 ∷ 0xC4 ∷ 0x80 ∷ 0x20 ∷ 0x4C ∷ 0x42 ∷ 0x00 ∷ []) ≡ with_root (Some (record { uri = []; local = codes "b"; prefix = None })) (reached (ee ∷ []) (done 80 1 1 0))
  -- ED in the place of its element is at fault at its first bit, and no event is charged
  pub alone_end : read_at 22 1 (0x80 ∷ 0x68 ∷ []) ≡ with_root (None) (reached ([]) (wrong kind.ScRoot 8 0 0 0))
  -- a name that the code tells charges its URI and then its local name
  pub text_of_known_name : read 0 (bounds_of 10 5 10) (0x80 ∷ 0x00 ∷ 0x5D ∷ 0x40 ∷ 0x98 ∷ 0x68 ∷ 0x00 ∷ []) ≡ reached (sd ∷ se (record { uri = codes "u"; local = codes "a"; prefix = None }) ∷ se (record { uri = codes "u"; local = codes "a"; prefix = None }) ∷ []) (wrong kind.TextLimit 55 4 5 3)
  -- behind a learned code only the prefix is told
  pub prefix_of_known_name : read 128 stream_bounds (0x80 ∷ 0x00 ∷ 0x5D ∷ 0x40 ∷ 0x98 ∷ 0x54 ∷ 0x01 ∷ 0x70 ∷ 0xA8 ∷ 0x01 ∷ 0x71 ∷ 0x38 ∷ 0x01 ∷ 0x60 ∷ []) ≡ reached (sd ∷ se (record { uri = codes "u"; local = codes "a"; prefix = None }) ∷ ns (codes "u") (codes "p") true ∷ ns (codes "u") (codes "q") false ∷ se (record { uri = codes "u"; local = codes "a"; prefix = Some (codes "q") }) ∷ se (record { uri = codes "u"; local = codes "a"; prefix = Some (codes "q") }) ∷ ee ∷ ee ∷ ee ∷ ed ∷ []) (done 112 10 12 3)
  -- a prefix that is spelled out again has a second place, under the least place of its URI
  pub second_prefix : read 128 stream_bounds (0x80 ∷ 0x00 ∷ 0x5D ∷ 0x40 ∷ 0x98 ∷ 0x50 ∷ 0x01 ∷ 0x75 ∷ 0x01 ∷ 0x70 ∷ 0x28 ∷ 0x01 ∷ 0x70 ∷ 0x38 ∷ 0x01 ∷ 0x80 ∷ []) ≡ reached (sd ∷ se (record { uri = codes "u"; local = codes "a"; prefix = None }) ∷ ns (codes "u") (codes "p") false ∷ ns (codes "u") (codes "p") false ∷ se (record { uri = codes "u"; local = codes "a"; prefix = Some (codes "p") }) ∷ ee ∷ ee ∷ ed ∷ []) (done 125 8 9 2)
  -- the value of xsi:type has a prefix where prefixes are kept; the first tables have xml and xsi
  pub prefixes_of_types : read 128 stream_bounds (0x80 ∷ 0x40 ∷ 0x98 ∷ 0x4E ∷ 0x01 ∷ 0x80 ∷ 0x08 ∷ []) ≡ reached (sd ∷ se (record { uri = []; local = codes "a"; prefix = Some [] }) ∷ at (record { uri = codes "http://www.w3.org/2001/XMLSchema-instance"; local = codes "type"; prefix = Some (codes "xsi") }) (name (record { uri = codes "http://www.w3.org/XML/1998/namespace"; local = codes "base"; prefix = Some (codes "xml") })) ∷ ee ∷ ed ∷ []) (done 56 5 93 1)
  -- an attribute by AT(*) is learned again, where it is learned already
  pub learned_attribute_twice : read 0 stream_bounds (0x80 ∷ 0x40 ∷ 0x98 ∷ 0x54 ∷ 0x09 ∷ 0xAC ∷ 0x0A ∷ 0xA0 ∷ 0x10 ∷ 0x28 ∷ []) ≡ reached (sd ∷ se (record { uri = []; local = codes "a"; prefix = None }) ∷ at (record { uri = []; local = codes "k"; prefix = None }) (text []) ∷ at (record { uri = []; local = codes "k"; prefix = None }) (text []) ∷ ee ∷ ed ∷ []) (done 80 6 3 1)
  -- a value that is spelled out again has a second place
  pub value_twice : read 0 stream_bounds (0x80 ∷ 0x40 ∷ 0x98 ∷ 0x70 ∷ 0x37 ∷ 0x8C ∷ 0x0D ∷ 0xE0 ∷ 0x00 ∷ 0xA0 ∷ []) ≡ reached (sd ∷ se (record { uri = []; local = codes "a"; prefix = None }) ∷ ch (text (codes "x")) ∷ ch (text (codes "x")) ∷ ch (text (codes "x")) ∷ ee ∷ ed ∷ []) (done 75 7 4 1)
  -- the text of a comment stands in no partition
  pub comment_is_no_value : read 16 stream_bounds (0x80 ∷ 0x80 ∷ 0xBC ∷ 0x10 ∷ 0x26 ∷ 0x16 ∷ 0x02 ∷ []) ≡ reached (sd ∷ cm (codes "x") ∷ se (record { uri = []; local = codes "a"; prefix = None }) ∷ []) (wrong kind.BadPlace 55 4 2 1)
  -- SC comes directly behind SE alone; its event is charged
  pub sc_behind_attribute : read 4 stream_bounds (0x80 ∷ 0x40 ∷ 0x98 ∷ 0x4A ∷ 0x04 ∷ 0xD6 ∷ 0x05 ∷ 0x40 ∷ []) ≡ reached (sd ∷ se (record { uri = []; local = codes "a"; prefix = None }) ∷ at (record { uri = []; local = codes "k"; prefix = None }) (text []) ∷ []) (wrong kind.ScPlace 55 4 2 1)
  -- the SE of a fragment is no event, and SC behind it is in a wrong place
  pub sc_in_fragment : read_at 4 1 (0x80 ∷ 0x20 ∷ 0x4C ∷ 0x48 ∷ []) ≡ with_root (Some (record { uri = []; local = codes "b"; prefix = None })) (reached [] (wrong kind.ScPlace 27 1 1 0))
  -- a fragment in a fragment
  pub nested_fragments : read 4 stream_bounds (0x80 ∷ 0x40 ∷ 0x98 ∷ 0x5A ∷ 0x04 ∷ 0xC4 ∷ 0x80 ∷ 0x20 ∷ 0x4C ∷ 0x4D ∷ 0x02 ∷ 0x63 ∷ 0x40 ∷ 0x20 ∷ 0x4C ∷ 0x62 ∷ 0x40 ∷ 0x00 ∷ []) ≡ reached (sd ∷ se (record { uri = []; local = codes "a"; prefix = None }) ∷ se (record { uri = []; local = codes "b"; prefix = None }) ∷ sc 7 ∷ se (record { uri = []; local = codes "c"; prefix = None }) ∷ sc 13 ∷ ee ∷ ee ∷ ee ∷ ed ∷ []) (done 137 10 5 3)
  -- a fragment has tables of its own
  pub tables_in_fragment : read 4 stream_bounds (0x80 ∷ 0x40 ∷ 0x98 ∷ 0x4A ∷ 0x04 ∷ 0xD6 ∷ 0x06 ∷ 0xED ∷ 0x68 ∷ 0x13 ∷ 0x12 ∷ 0x20 ∷ 0x4C ∷ 0x50 ∷ 0x04 ∷ []) ≡ reached (sd ∷ se (record { uri = []; local = codes "a"; prefix = None }) ∷ at (record { uri = []; local = codes "k"; prefix = None }) (text (codes "v")) ∷ se (record { uri = []; local = codes "b"; prefix = None }) ∷ sc 11 ∷ []) (wrong kind.BadPlace 118 6 5 2)
  -- behind a fragment and the rest of its last byte stand the tables and the learned productions of the body, and one level is left
  pub behind_fragment : read 4 stream_bounds (0x80 ∷ 0x40 ∷ 0x98 ∷ 0x60 ∷ 0x14 ∷ 0x81 ∷ 0x31 ∷ 0x20 ∷ 0x20 ∷ 0x4C ∷ 0x50 ∷ 0x0D ∷ 0xE1 ∷ 0x00 ∷ 0x1A ∷ 0x04 ∷ 0xC7 ∷ 0x00 ∷ 0x40 ∷ []) ≡ reached (sd ∷ se (record { uri = []; local = codes "a"; prefix = None }) ∷ ch (text []) ∷ se (record { uri = []; local = codes "b"; prefix = None }) ∷ sc 8 ∷ ch (text (codes "x")) ∷ ee ∷ se (record { uri = []; local = codes "b"; prefix = None }) ∷ se (record { uri = []; local = codes "c"; prefix = None }) ∷ []) (wrong kind.BadPlace 146 10 6 3)
  -- the element of a fragment has the URI of the outer one too
  pub other_uri : read 4 stream_bounds (0x80 ∷ 0x00 ∷ 0x5D ∷ 0x40 ∷ 0x98 ∷ 0x90 ∷ 0x20 ∷ 0x4C ∷ 0x42 ∷ []) ≡ reached (sd ∷ se (record { uri = codes "u"; local = codes "b"; prefix = None }) ∷ sc 6 ∷ []) (wrong kind.ScRoot 48 3 3 1)
  -- behind the element only ED may come; the code of another is at fault
  pub alone_two : read_at 4 1 (0x80 ∷ 0x20 ∷ 0x4C ∷ 0x40 ∷ []) ≡ with_root (Some (record { uri = []; local = codes "b"; prefix = None })) (reached (ee ∷ []) (wrong kind.ScNotOne 30 1 1 0))
  -- of what may not come there no event is charged, and nothing is read
  pub alone_more : read_at 20 1 (0x80 ∷ 0x10 ∷ 0x26 ∷ 0x21 ∷ 0x80 ∷ []) ≡ with_root (Some (record { uri = []; local = codes "b"; prefix = None })) (reached (ee ∷ []) (wrong kind.ScNotOne 31 1 1 0))
  -- a fragment that stands for one element learns the element
  pub alone_code : read_at 4 1 (0x80 ∷ 0x20 ∷ 0x4C ∷ 0x43 ∷ []) ≡ with_root (Some (record { uri = []; local = codes "b"; prefix = None })) (reached (ee ∷ []) (wrong kind.NoCode 30 1 1 0))
  -- a comment in the place of its element is at fault at its first bit, once it is read and charged
  pub alone_comment : read_at 22 1 (0x80 ∷ 0x80 ∷ 0x58 ∷ 0xC0 ∷ []) ≡ with_root None (reached [] (wrong kind.ScRoot 8 1 1 0))
  -- a value that is longer than valueMaxLength is not added, and one of that length is
  pub long_value : read_bounded 0 (Some 1) None (0x80 ∷ 0x40 ∷ 0x98 ∷ 0x70 ∷ 0x37 ∷ 0x8C ∷ 0x11 ∷ 0xE1 ∷ 0xE4 ∷ 0x00 ∷ 0x40 ∷ []) ≡ reached (sd ∷ se (record { uri = []; local = codes "a"; prefix = None }) ∷ ch (text (codes "x")) ∷ ch (text (codes "xy")) ∷ ch (text (codes "x")) ∷ ee ∷ ed ∷ []) (done 82 7 5 1)
  -- with a capacity of 1 the second value takes the place of the first, whose place under the name tells nothing more
  pub value_pushed_out : read_bounded 0 None (Some 1) (0x80 ∷ 0x40 ∷ 0x98 ∷ 0x70 ∷ 0x37 ∷ 0x8C ∷ 0x0D ∷ 0xE4 ∷ 0x00 ∷ 0x80 ∷ 0x20 ∷ 0x00 ∷ []) ≡ reached (sd ∷ se (record { uri = []; local = codes "a"; prefix = None }) ∷ ch (text (codes "x")) ∷ ch (text (codes "y")) ∷ ch (text (codes "y")) ∷ ch (text (codes "y")) ∷ []) (wrong kind.BadPlace 93 7 5 1)
  -- a fragment has the bounds of the stream
  pub bounds_in_fragment : read_bounded 4 None (Some 0) (0x80 ∷ 0x40 ∷ 0x98 ∷ 0x90 ∷ 0x20 ∷ 0x4C ∷ 0x50 ∷ 0x0D ∷ 0xE3 ∷ 0x00 ∷ []) ≡ reached (sd ∷ se (record { uri = []; local = codes "b"; prefix = None }) ∷ sc 4 ∷ ch (text (codes "x")) ∷ []) (wrong kind.BadPlace 80 5 3 1)
  -- the fragment of `behind_fragment`, read apart: what comes behind it is the same
  pub spliced_behind : read_spliced 4 5 8 (0x80 ∷ 0x40 ∷ 0x98 ∷ 0x60 ∷ 0x14 ∷ 0x81 ∷ 0x31 ∷ 0x20 ∷ 0x20 ∷ 0x4C ∷ 0x50 ∷ 0x0D ∷ 0xE1 ∷ 0x00 ∷ 0x1A ∷ 0x04 ∷ 0xC7 ∷ 0x00 ∷ 0x40 ∷ []) ≡ reached (element b ∷ element (codes "c") ∷ []) (wrong kind.BadPlace 146 10 6 3)
  -- that of `other_root`: it is refused, and its root is charged
  pub spliced_other : read_spliced 4 4 7 (0x80 ∷ 0x40 ∷ 0x98 ∷ 0x5A ∷ 0x04 ∷ 0xC4 ∷ 0x80 ∷ 0x20 ∷ 0x4C ∷ 0x62 ∷ 0x00 ∷ []) ≡ reached [] (wrong kind.ScRoot 56 4 3 2)
  -- that of `cut_fragment`: it has its fault, with what was charged in both
  pub spliced_fault : read_spliced 4 4 7 (0x80 ∷ 0x40 ∷ 0x98 ∷ 0x5A ∷ 0x04 ∷ 0xC4 ∷ 0x80 ∷ 0x20 ∷ 0x4C ∷ []) ≡ reached [] (wrong kind.Short 67 4 3 2)

streams : Streams
unfolding one followed charge_at valued_at item_at both_at attribute_value_at declaration_at declared_under name_value_at name_at name_under known_at local_at indexed_at literal_at missed_at hit_at charged_at value_at chars_at in_set_at char_code_at is_xml_char text_charge code_at second_at member_at part_at times below_at field_at unsigned_at narrow_groups_at groups_at number_at value_of bits number_bits le_value width_from
streams = record {
  empty_element = refl;
  one_text = refl;
  four_children = refl;
  cut_name = refl;
  byte_behind = refl;
  no_value_there = refl;
  no_xml_character = refl;
  in_whole_bytes = refl;
  with_prefixes = refl;
  attributes = refl;
  types = refl;
  no_type_there = refl;
  nil_is_a_string = refl;
  comments_and_instructions = refl;
  document_type = refl;
  a_fragment = refl;
  second_places = refl;
  empty_value = refl;
  no_code = refl;
  too_much_text = refl;
  too_many_events = refl;
  too_deep = refl;
  prefixes_by_place = refl;
  number_too_large = refl;
  flag_too_large = refl;
  second_uri = refl;
  nested = refl;
  other_value = refl;
  third_prefix = refl;
  only_ed = refl;
  cut_behind_comment = refl;
  three_parts = refl;
  one_event = refl;
  level_of_nested = refl;
  text_of_comment = refl;
  other_element_value = refl;
  comment_inside = refl;
  own_uri = refl;
  self_contained = refl;
  other_root = refl;
  cut_fragment = refl;
  events_in_fragment = refl;
  alone = refl;
  alone_end = refl;
  text_of_known_name = refl;
  prefix_of_known_name = refl;
  second_prefix = refl;
  prefixes_of_types = refl;
  learned_attribute_twice = refl;
  value_twice = refl;
  comment_is_no_value = refl;
  sc_behind_attribute = refl;
  sc_in_fragment = refl;
  nested_fragments = refl;
  tables_in_fragment = refl;
  behind_fragment = refl;
  other_uri = refl;
  alone_two = refl;
  alone_more = refl;
  alone_code = refl;
  alone_comment = refl;
  long_value = refl;
  value_pushed_out = refl;
  bounds_in_fragment = refl;
  spliced_behind = refl;
  spliced_other = refl;
  spliced_fault = refl;
}
