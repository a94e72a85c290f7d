-- What bytes spell: each reading gives what stands first and the bytes after it, or nothing where the bytes spell none.
use Rattle.std.specs.Prelude.{ℕ, zero, suc, ℤ, ◌+◌, ◌*◌, ◌^◌, List, [], ◌∷◌, length, take, drop, nat_lt, nat_le, ◌==◌, if◌then◌else◌, Bool, Option, Some, None}
use Rattle.std.specs.Int.{w16, w64, from_le_bytes, cast_signed}
use Rattle.std.specs.Str.{chars, is_utf8}
use Rattle.exi_names.specs.Wholes.{number}
use Rattle.exi_names.specs.Seen.{Value, Values, values_of, text, boolean, integer, decimal, float, moment, binary, items, name}
use Rattle.exi_names.specs.Events as event
use Rattle.exi_names.specs.declared.names.QName.{QName}
use Rattle.exi_names.specs.declared.moment.Moment.{Moment}
use Rattle.exi_names.specs.declared.moment.MomentKind.{MomentKind}
use Rattle.exi_names.specs.declared.moment.MomentKind.TheVariants as moment_kind

abbrev pub Reader : Type 0 → Type 0
Reader X = List ℕ → Option (X × List ℕ)

infixl 10 ◌>>=◌
abbrev pub ◌>>=◌ : {A B : Type 0} → Option A → (A → Option B) → Option B
(Some x) >>= f = f x
None >>= f = None

unfoldable pub byte_at : Reader ℕ
byte_at [] = None
byte_at (b ∷ bs) = Some (b, bs)

-- so many bytes
unfoldable pub bytes_at : ℕ → Reader (List ℕ)
bytes_at n bs = if nat_le n (length bs) then Some (take n bs, drop n bs) else None

unfoldable pub eight_at : Reader ℕ
eight_at bs = do
  eight ← bytes_at 8 bs
  Some (from_le_bytes w64 eight.0, eight.1)

unfoldable pub number_at : Reader ℕ
number_at bs = do
  first ← byte_at bs
  if nat_lt first.0 255 then Some first else eight_at first.1

unfoldable pub wide_at : Reader ℕ
wide_at bs = do
  low ← number_at bs
  high ← number_at low.1
  Some (low.0 + high.0 * 2 ^ 64, high.1)

unfoldable pub flag_at : Reader Bool
flag_at bs = do
  flag ← byte_at bs
  Some (nat_lt 0 flag.0, flag.1)

unfoldable pub signed_at : Reader ℤ
signed_at bs = do
  n ← number_at bs
  Some (cast_signed w64 n.0, n.1)

unfoldable pub short_at : Reader ℤ
short_at bs = do
  n ← number_at bs
  if nat_lt n.0 65536 then Some (cast_signed w16 n.0, n.1) else None

unfoldable pub octets_at : Reader (List ℕ)
octets_at bs = do
  count ← number_at bs
  bytes_at count.0 count.1

-- the text of some UTF-8
unfoldable pub text_of : List ℕ → Option (List ℕ)
text_of bs = if is_utf8 bs then Some (chars bs) else None

unfoldable pub text_at : Reader (List ℕ)
text_at bs = do
  octets ← octets_at bs
  t ← text_of octets.0
  Some (t, octets.1)

unfoldable pub some_text_at : Reader (Option (List ℕ))
some_text_at bs = do
  t ← text_at bs
  Some (Some t.0, t.1)

unfoldable pub prefix_at : Reader (Option (List ℕ))
prefix_at bs = do
  there ← flag_at bs
  if there.0 then some_text_at there.1 else Some (None, there.1)

unfoldable pub name_at : Reader QName
name_at bs = do
  uri ← text_at bs
  local ← text_at uri.1
  prefix ← prefix_at local.1
  Some (record { uri = uri.0; local = local.0; prefix = prefix.0 }, prefix.1)

unfoldable pub kind_of : ℕ → Option MomentKind
kind_of n =
    if n == 0 then Some moment_kind.GYear else
    if n == 1 then Some moment_kind.GYearMonth else
    if n == 2 then Some moment_kind.Date else
    if n == 3 then Some moment_kind.DateTime else
    if n == 4 then Some moment_kind.GMonth else
    if n == 5 then Some moment_kind.GMonthDay else
    if n == 6 then Some moment_kind.GDay else
    if n == 7 then Some moment_kind.Time else
    None

unfoldable pub some_wide_at : Reader (Option ℕ)
some_wide_at bs = do
  n ← wide_at bs
  Some (Some n.0, n.1)

unfoldable pub fraction_at : Reader (Option ℕ)
fraction_at bs = do
  there ← flag_at bs
  if there.0 then some_wide_at there.1 else Some (None, there.1)

unfoldable pub some_short_at : Reader (Option ℤ)
some_short_at bs = do
  z ← short_at bs
  Some (Some z.0, z.1)

unfoldable pub zone_at : Reader (Option ℤ)
zone_at bs = do
  there ← flag_at bs
  if there.0 then some_short_at there.1 else Some (None, there.1)

unfoldable pub moment_at : Reader Moment
moment_at bs = do
  sort ← byte_at bs
  kind ← kind_of sort.0
  year ← signed_at sort.1
  month ← byte_at year.1
  day ← byte_at month.1
  hour ← byte_at day.1
  minute ← byte_at hour.1
  second ← byte_at minute.1
  fraction ← fraction_at second.1
  zone ← zone_at fraction.1
  Some (record { kind = kind; year = year.0; month = month.0; day = day.0; hour = hour.0; minute = minute.0; second = second.0; fraction = fraction.0; zone = zone.0 }, zone.1)

-- so many, one after another
unfoldable pub times : {X : Type 0} → Reader X → ℕ → Reader (List X)
times read zero bs = Some ([], bs)
times read (suc n) bs = do
  first ← read bs
  more ← times read n first.1
  Some (first.0 ∷ more.0, more.1)

unfoldable pub text_value_at : Reader Value
text_value_at bs = do
  t ← text_at bs
  Some (text t.0, t.1)

unfoldable pub boolean_at : Reader Value
boolean_at bs = do
  truth ← flag_at bs
  digit ← flag_at truth.1
  Some (boolean truth.0 digit.0, digit.1)

unfoldable pub integer_at : Reader Value
integer_at bs = do
  minus ← flag_at bs
  size ← wide_at minus.1
  Some (integer (number minus.0 size.0), size.1)

unfoldable pub decimal_at : Reader Value
decimal_at bs = do
  minus ← flag_at bs
  whole ← wide_at minus.1
  back ← wide_at whole.1
  Some (decimal minus.0 whole.0 back.0, back.1)

unfoldable pub float_at : Reader Value
float_at bs = do
  mantissa ← signed_at bs
  exponent ← short_at mantissa.1
  Some (float mantissa.0 exponent.0, exponent.1)

unfoldable pub moment_value_at : Reader Value
moment_value_at bs = do
  m ← moment_at bs
  Some (moment m.0, m.1)

unfoldable pub binary_at : Reader Value
binary_at bs = do
  hex ← flag_at bs
  octets ← octets_at hex.1
  Some (binary hex.0 octets.0, octets.1)

unfoldable pub name_value_at : Reader Value
name_value_at bs = do
  n ← name_at bs
  Some (name n.0, n.1)

unfoldable pub list_at : Reader Value → Reader Values
list_at item bs = do
  count ← number_at bs
  all ← times item count.0 count.1
  Some (values_of all.0, all.1)

unfoldable pub items_at : Reader Values → Reader Value
items_at list bs = do
  all ← list bs
  Some (items all.0, all.1)

-- a value of a kind, whose list is read so
unfoldable pub value_of_kind : Reader Values → ℕ → Reader Value
value_of_kind list n bs =
    if n == 0 then text_value_at bs else
    if n == 1 then boolean_at bs else
    if n == 2 then integer_at bs else
    if n == 3 then decimal_at bs else
    if n == 4 then float_at bs else
    if n == 5 then moment_value_at bs else
    if n == 6 then binary_at bs else
    if n == 7 then items_at list bs else
    if n == 8 then name_value_at bs else
    None

unfoldable pub value_in : Reader Values → Reader Value
value_in list bs = do
  kind ← byte_at bs
  value_of_kind list kind.0 kind.1

-- lists nested so deep at most
unfoldable pub values_at : ℕ → Reader Values
values_at zero bs = None
values_at (suc depth) bs = list_at (value_in (values_at depth)) bs

-- a value in which lists are nested so deep at most
unfoldable pub value_at : ℕ → Reader Value
value_at depth bs = value_in (values_at depth) bs

unfoldable pub any_at : Reader Value
any_at bs = do
  size ← number_at bs
  value_at size.0 size.1

-- the value of an event
unfoldable pub held_at : Reader Value
held_at bs = do
  other ← flag_at bs
  if other.0 then any_at other.1 else text_value_at other.1

unfoldable pub element_at : Reader event.Happening
element_at bs = do
  n ← name_at bs
  Some (event.se n.0, n.1)

unfoldable pub attribute_at : Reader event.Happening
attribute_at bs = do
  n ← name_at bs
  v ← held_at n.1
  Some (event.at n.0 v.0, v.1)

unfoldable pub characters_at : Reader event.Happening
characters_at bs = do
  v ← held_at bs
  Some (event.ch v.0, v.1)

unfoldable pub namespace_at : Reader event.Happening
namespace_at bs = do
  element ← flag_at bs
  uri ← text_at element.1
  prefix ← text_at uri.1
  Some (event.ns uri.0 prefix.0 element.0, prefix.1)

unfoldable pub fragment_at : Reader event.Happening
fragment_at bs = do
  place ← number_at bs
  Some (event.sc place.0, place.1)

unfoldable pub comment_at : Reader event.Happening
comment_at bs = do
  t ← text_at bs
  Some (event.cm t.0, t.1)

unfoldable pub instruction_at : Reader event.Happening
instruction_at bs = do
  target ← text_at bs
  t ← text_at target.1
  Some (event.pi target.0 t.0, t.1)

unfoldable pub doctype_at : Reader event.Happening
doctype_at bs = do
  n ← text_at bs
  public ← text_at n.1
  system ← text_at public.1
  t ← text_at system.1
  Some (event.dt n.0 public.0 system.0 t.0, t.1)

unfoldable pub entity_at : Reader event.Happening
entity_at bs = do
  n ← text_at bs
  Some (event.er n.0, n.1)

unfoldable pub event_of_kind : ℕ → Reader event.Happening
event_of_kind n bs =
    if n == 0 then Some (event.sd, bs) else
    if n == 1 then Some (event.ed, bs) else
    if n == 2 then element_at bs else
    if n == 3 then Some (event.ee, bs) else
    if n == 4 then attribute_at bs else
    if n == 5 then characters_at bs else
    if n == 6 then namespace_at bs else
    if n == 7 then fragment_at bs else
    if n == 8 then comment_at bs else
    if n == 9 then instruction_at bs else
    if n == 10 then doctype_at bs else
    if n == 11 then entity_at bs else
    None

-- an event
unfoldable pub event_at : Reader event.Happening
event_at bs = do
  kind ← byte_at bs
  event_of_kind kind.0 kind.1

-- an event and what is read after it
abbrev pub read_on : (List ℕ → List event.Happening) → Option (event.Happening × List ℕ) → List event.Happening
read_on more None = []
read_on more (Some found) = found.0 ∷ more found.1

-- the events, up to so many, as far as the bytes spell any
abbrev pub read_most : ℕ → List ℕ → List event.Happening
read_most zero bs = []
read_most (suc n) bs = read_on (read_most n) (event_at bs)

-- the events that the bytes spell, as far as they spell any
unfoldable pub read : List ℕ → List event.Happening
read bs = read_most (length bs) bs
