-- Bits that are added to bits.
use Rattle.std.proofs.Common.{◌≡◌, ℕ, suc, ◌+◌, ◌*◌, ◌-◌, ◌/◌, ◌%◌, ◌^◌, ◌<◌, ◌≤◌, Bool, false, List, [], ◌∷◌, ◌++◌, length, take, refl, sym, ap, ◌∙◌, subst, append_assoc, arith, bit_and}
use Rattle.std.proofs.lemmas.List.{length-append, length-take, length-replicate, take_at, take_all, append-nil}
use Rattle.std.proofs.lemmas.Nat.{pow-add, pow_pos, mod_below, shr_high, mod_low, shr_below, mul-add-lt, shl_below, one_shl, and_mask}
use Rattle.std.proofs.Math.Nat.{mul_comm}
use Rattle.std.proofs.lemmas.Bool.{lt-ltb, le-ltb}
use Rattle.exi_bits.specs.Bits.{bits, number_bits, le_bytes}
use Rattle.exi_bits.specs.Unsigned.{groups}
use Rattle.exi_bits.specs.Written.{zeros, written, padded, to_byte, IsPadded}
use Rattle.exi_bits.proofs.BitLaws.{length-bits, length-number_bits, bits-append, one_byte, number_bits-add, byte_out, last_out}

pub written_is : (bs : List ℕ) (front : List Bool) (sp : ℕ) → bits bs ≡ front ++ zeros sp → written bs sp ≡ front
written_is bs front sp e =
    let n : length front ≡ 8 * length bs - sp = omega (arith, length-bits bs, ap length e, length-append front (zeros sp), length-replicate sp false) in
    ap (λ (t : List Bool). take (8 * length bs - sp) t) e ∙ take_at front (zeros sp) (8 * length bs - sp) n

pub padded_from : (bs : List ℕ) (front : List Bool) (sp : ℕ) → sp < 8 → bits bs ≡ front ++ zeros sp → IsPadded bs sp
padded_from bs front sp few e = record {
  few = few;
  within = omega (arith, length-bits bs, ap length e, length-append front (zeros sp), length-replicate sp false);
  padded = e ∙ ap (λ (t : List Bool). t ++ zeros sp) (sym (written_is bs front sp e));
}

pub padded_none : (bs : List ℕ) → bs ≡ [] → IsPadded bs 0
unfolding bits
padded_none bs e = padded_from bs [] 0 (omega arith) (ap bits e)

pub tail_opens : (bs init : List ℕ) (last sp : ℕ) → bs ≡ init ++ last ∷ [] → sp ≤ 8 → last < 2 ^ 8 → written bs sp ≡ bits init ++ number_bits (8 - sp) (last / 2 ^ sp)
tail_opens bs init last sp e le lt =
    let k : 8 ≡ 8 - sp + sp = omega arith in
    let parts : number_bits 8 last ≡ number_bits (8 - sp) (last / 2 ^ sp) ++ number_bits sp (last % 2 ^ sp) =
    ap (λ (n : ℕ). number_bits n last) k ∙ number_bits-add (8 - sp) sp last (subst (λ (n : ℕ). last < 2 ^ n) k lt) in
    let front : List Bool = bits init ++ number_bits (8 - sp) (last / 2 ^ sp) in
    let all : bits bs ≡ (bits init ++ number_bits (8 - sp) (last / 2 ^ sp)) ++ number_bits sp (last % 2 ^ sp) =
    ap bits e ∙ bits-append init (last ∷ []) ∙ ap (λ (t : List Bool). bits init ++ t) (one_byte last ∙ parts) ∙ sym (append_assoc (bits init) (number_bits (8 - sp) (last / 2 ^ sp)) (number_bits sp (last % 2 ^ sp))) in
    let n : length (bits init ++ number_bits (8 - sp) (last / 2 ^ sp)) ≡ 8 * length bs - sp =
    omega (arith, length-append (bits init) (number_bits (8 - sp) (last / 2 ^ sp)), length-bits init, length-number_bits (8 - sp) (last / 2 ^ sp), ap length e, length-append init (last ∷ [])) in
    ap (λ (t : List Bool). take (8 * length bs - sp) t) all ∙ take_at front (number_bits sp (last % 2 ^ sp)) (8 * length bs - sp) n

pub tail_fits : (last sp : ℕ) → sp ≤ 8 → last < 2 ^ 8 → last / 2 ^ sp < 2 ^ (8 - sp)
tail_fits last sp le lt = let k : 8 ≡ 8 - sp + sp = omega arith in shr_below last (8 - sp) sp (subst (λ (n : ℕ). last < 2 ^ n) k lt)

pub all_fits : (t u v w : ℕ) → t < 2 ^ u → v < 2 ^ w → t * 2 ^ w + v < 2 ^ (u + w)
all_fits t u v w a b = let e : 2 ^ (u + w) ≡ 2 ^ w * 2 ^ u = pow-add 2 u w ∙ mul_comm (2 ^ u) (2 ^ w) in rw e (mul-add-lt t (2 ^ w) v (2 ^ u) a b)

-- the new bits stand behind the old ones
pub put_is : (bs mid : List ℕ) (old : List Bool) (t u v w sp : ℕ) → t < 2 ^ u → v < 2 ^ w → old ≡ bits mid ++ number_bits u t → bits bs ≡ bits mid ++ number_bits (u + w) (t * 2 ^ w + v) ++ zeros sp → written bs sp ≡ old ++ number_bits w v
put_is bs mid old t u v w sp a b before e =
    let parts : number_bits (u + w) (t * 2 ^ w + v) ≡ number_bits u t ++ number_bits w v =
    number_bits-add u w (t * 2 ^ w + v) (all_fits t u v w a b) ∙ rw (shr_high t w v b, mod_low t w v b) refl in
    written_is bs (bits mid ++ number_bits (u + w) (t * 2 ^ w + v)) sp e
    ∙ ap (λ (x : List Bool). bits mid ++ x) parts ∙ sym (append_assoc (bits mid) (number_bits u t) (number_bits w v)) ∙ ap (λ (x : List Bool). x ++ number_bits w v) (sym before)

pub length-written : (bs : List ℕ) (sp : ℕ) → sp ≤ 8 * length bs → length (written bs sp) ≡ 8 * length bs - sp
length-written bs sp le = omega (arith, length-bits bs, length-take (8 * length bs - sp) (bits bs))

-- the bytes are the bits, and 0 bits after the last
pub bytes_are : (bs : List ℕ) (sp : ℕ) → IsPadded bs sp → bits bs ≡ padded (written bs sp)
bytes_are bs sp p =
    let few : sp < 8 = p.few in
    let within : sp ≤ 8 * length bs = p.within in
    let n : length (written bs sp) ≡ 8 * length bs - sp = length-written bs sp within in
    let e : to_byte (length (written bs sp)) ≡ sp = omega arith in
    p.padded ∙ ap (λ (k : ℕ). written bs sp ++ zeros k) (sym e)

pub pad_is : (bs : List ℕ) (sp : ℕ) → IsPadded bs sp → written bs 0 ≡ padded (written bs sp)
pad_is bs sp p = take_all (8 * length bs - 0) (bits bs) (omega (arith, length-bits bs)) ∙ bytes_are bs sp p

pub pad_keeps : (bs : List ℕ) → IsPadded bs 0
pad_keeps bs = padded_from bs (bits bs) 0 (omega arith) (sym (append-nil (bits bs)))

-- ---- octets
-- whole bytes behind whole bytes
pub whole_none : (bs : List ℕ) (sp : ℕ) → IsPadded bs sp → length (written bs sp) % 8 ≡ 0 → sp ≡ 0
whole_none bs sp p e =
    let few : sp < 8 = p.few in
    let within : sp ≤ 8 * length bs = p.within in
    let n : length (written bs sp) ≡ 8 * length bs - sp = length-written bs sp within in
    omega arith

pub whole_is : (bs : List ℕ) (sp : ℕ) → sp ≡ 0 → written bs sp ≡ bits bs
whole_is bs sp e = rw e (take_all (8 * length bs - 0) (bits bs) (omega (arith, length-bits bs)))

pub byte_next : (bs : List ℕ) (count i rest : ℕ) → i < count → (bs ++ rest % 256 ∷ []) ++ le_bytes (count - (i + 1)) (rest / 256) ≡ bs ++ le_bytes (count - i) rest
unfolding le_bytes
byte_next bs count i rest lt =
    let k : count - i ≡ suc (count - (i + 1)) = omega arith in
    rw k (append_assoc bs (rest % 256 ∷ []) (le_bytes (count - (i + 1)) (rest / 256)))

pub bytes_none : (bs total : List ℕ) (count i rest : ℕ) → count ≤ i → bs ++ le_bytes (count - i) rest ≡ total → bs ≡ total
unfolding le_bytes
bytes_none bs total count i rest le so_far =
    let k : count - i ≡ 0 = omega arith in
    let e : bs ++ le_bytes (count - i) rest ≡ bs = rw k (append-nil bs) in
    sym e ∙ so_far

-- an octet over the end of a byte
octet_out : (mid : List ℕ) (old : List Bool) (t sp o : ℕ) → sp < 8 → t < 2 ^ (8 - sp) → o < 256 → old ≡ bits mid ++ number_bits (8 - sp) t
    → bits ((mid ++ (t * 256 + o) / 2 ^ (8 - sp) ∷ []) ++ (t * 256 + o) % 2 ^ (8 - sp) * 2 ^ sp ∷ []) ≡ bits mid ++ number_bits (8 - sp + 8) (t * 256 + o) ++ zeros sp
octet_out mid old t sp o few fits small before =
    let all : ℕ = t * 256 + o in
    let below : t * 256 + o < 2 ^ (8 - sp + 8) = all_fits t (8 - sp) o 8 fits small in
    let k : 8 - sp + 8 - 8 ≡ 8 - sp = omega arith in
    let j : 8 - (8 - sp) ≡ sp = omega arith in
    let low : (t * 256 + o) % 2 ^ (8 - sp) < 2 ^ (8 - sp) = mod_below (t * 256 + o) (2 ^ (8 - sp)) (pow_pos (8 - sp)) in
    let raw = byte_out mid (8 - sp + 8) (t * 256 + o) (omega arith) below in
    let one : bits (mid ++ (t * 256 + o) / 2 ^ (8 - sp) ∷ []) ++ number_bits (8 - sp) ((t * 256 + o) % 2 ^ (8 - sp)) ≡ bits mid ++ number_bits (8 - sp + 8) (t * 256 + o) =
    subst (λ (n : ℕ). bits (mid ++ (t * 256 + o) / 2 ^ n ∷ []) ++ number_bits n ((t * 256 + o) % 2 ^ n) ≡ bits mid ++ number_bits (8 - sp + 8) (t * 256 + o)) k raw in
    let two : bits ((mid ++ (t * 256 + o) / 2 ^ (8 - sp) ∷ []) ++ (t * 256 + o) % 2 ^ (8 - sp) * 2 ^ (8 - (8 - sp)) ∷ []) ≡ (bits mid ++ number_bits (8 - sp + 8) (t * 256 + o)) ++ zeros (8 - (8 - sp)) =
    last_out (mid ++ (t * 256 + o) / 2 ^ (8 - sp) ∷ []) (bits mid ++ number_bits (8 - sp + 8) (t * 256 + o)) (8 - sp) ((t * 256 + o) % 2 ^ (8 - sp)) (omega arith) low one in
    let three : bits ((mid ++ (t * 256 + o) / 2 ^ (8 - sp) ∷ []) ++ (t * 256 + o) % 2 ^ (8 - sp) * 2 ^ sp ∷ []) ≡ (bits mid ++ number_bits (8 - sp + 8) (t * 256 + o)) ++ zeros sp =
    subst (λ (n : ℕ). bits ((mid ++ (t * 256 + o) / 2 ^ (8 - sp) ∷ []) ++ (t * 256 + o) % 2 ^ (8 - sp) * 2 ^ n ∷ []) ≡ (bits mid ++ number_bits (8 - sp + 8) (t * 256 + o)) ++ zeros n) j two in
    three

pub octet_is : (bs mid : List ℕ) (old : List Bool) (t sp o : ℕ) → sp < 8 → t < 2 ^ (8 - sp) → o < 256 → old ≡ bits mid ++ number_bits (8 - sp) t
    → bs ≡ (mid ++ (t * 256 + o) / 2 ^ (8 - sp) ∷ []) ++ (t * 256 + o) % 2 ^ (8 - sp) * 2 ^ sp ∷ [] → (written bs sp ≡ old ++ number_bits 8 o) × IsPadded bs sp
octet_is bs mid old t sp o few fits small before e =
    let all : bits bs ≡ bits mid ++ number_bits (8 - sp + 8) (t * 256 + o) ++ zeros sp = ap bits e ∙ octet_out mid old t sp o few fits small before in (
      put_is bs mid old t (8 - sp) o 8 sp fits small before all,
      padded_from bs (bits mid ++ number_bits (8 - sp + 8) (t * 256 + o)) sp few all,
    )

-- an octet behind whole bytes
pub octet_whole : (bs old : List ℕ) (sp o : ℕ) → sp ≡ 0 → bs ≡ old ++ o ∷ [] → (written bs sp ≡ written old sp ++ number_bits 8 o) × IsPadded bs sp
octet_whole bs old sp o z e = (
  whole_is bs sp z ∙ ap bits e ∙ bits-append old (o ∷ []) ∙ rw (one_byte o, whole_is old sp z) refl,
  subst (λ (k : ℕ). IsPadded bs k) (sym z) (pad_keeps bs),
)

-- ---- groups of seven bits
pub group_next : (text : List Bool) (total : List Bool) (i rest : ℕ) → i < 18 → 128 ≤ rest → text ++ bits (groups (18 - i) rest) ≡ total → (text ++ number_bits 8 (rest % 128 + 128)) ++ bits (groups (18 - (i + 1)) (rest / 128)) ≡ total
unfolding groups bits
group_next text total i rest lt le so_far =
    let k : 18 - i ≡ suc (18 - (i + 1)) = omega arith in
    let e : bits (groups (18 - i) rest) ≡ number_bits 8 (rest % 128 + 128) ++ bits (groups (18 - (i + 1)) (rest / 128)) = rw (k, le-ltb rest 128 le) refl in
    append_assoc text (number_bits 8 (rest % 128 + 128)) (bits (groups (18 - (i + 1)) (rest / 128))) ∙ ap (λ (t : List Bool). text ++ t) (sym e) ∙ so_far

pub group_last : (text : List Bool) (total : List Bool) (i rest : ℕ) → i < 18 → rest < 128 → text ++ bits (groups (18 - i) rest) ≡ total → text ++ number_bits 8 rest ≡ total
unfolding groups
group_last text total i rest lt small so_far =
    let k : 18 - i ≡ suc (18 - (i + 1)) = omega arith in
    let e : bits (groups (18 - i) rest) ≡ number_bits 8 rest = rw (k, lt-ltb rest 128 small) (one_byte rest) in
    ap (λ (t : List Bool). text ++ t) (sym e) ∙ so_far

pub group_end : (text : List Bool) (total : List Bool) (i rest : ℕ) → 18 ≤ i → text ++ bits (groups (18 - i) rest) ≡ total → text ++ number_bits 8 rest ≡ total
unfolding groups
group_end text total i rest le so_far =
    let k : 18 - i ≡ 0 = omega arith in
    let e : bits (groups (18 - i) rest) ≡ number_bits 8 rest = rw k (one_byte rest) in
    ap (λ (t : List Bool). text ++ t) (sym e) ∙ so_far

-- what is left of a number below 2 ^ 128
pub rest_below : (i rest : ℕ) → i < 18 → rest < 2 ^ (128 - 7 * i) → rest / 128 < 2 ^ (128 - 7 * (i + 1))
rest_below i rest lt below =
    let e : 128 - 7 * i ≡ 128 - 7 * (i + 1) + 7 = omega arith in
    shr_below rest (128 - 7 * (i + 1)) 7 (subst (λ (n : ℕ). rest < 2 ^ n) e below)

pub octet_high : (t sp o : ℕ) → sp < 8 → t < 2 ^ (8 - sp) → o < 256 → (t * 256 + o) / 2 ^ (8 - sp) < 256
octet_high t sp o few fits small =
    let below : t * 256 + o < 2 ^ (8 - sp + 8) = all_fits t (8 - sp) o 8 fits small in
    let e : 2 ^ (8 - sp + 8) ≡ 2 ^ (8 + (8 - sp)) = ap (λ (n : ℕ). 2 ^ n) (omega arith) in
    shr_below (t * 256 + o) 8 (8 - sp) (rw (← e) below)

pub octet_low : (all sp : ℕ) → sp < 8 → all % 2 ^ (8 - sp) * 2 ^ sp < 256
octet_low all sp few =
    let low : all % 2 ^ (8 - sp) < 2 ^ (8 - sp) = mod_below all (2 ^ (8 - sp)) (pow_pos (8 - sp)) in
    let e : 8 - sp + sp ≡ 8 = omega arith in
    subst (λ (n : ℕ). all % 2 ^ (8 - sp) * 2 ^ sp < 2 ^ n) e (shl_below (all % 2 ^ (8 - sp)) (8 - sp) sp low)

-- the two bytes, as they are computed
pub low_is : (all sp : ℕ) → sp < 8 → bit_and all (1 * 2 ^ (8 - sp) % 4294967296 - 1) * 2 ^ sp % 4294967296 ≡ all % 2 ^ (8 - sp) * 2 ^ sp
low_is all sp few =
    let lt : 8 - sp < 32 = omega arith in
    let low : all % 2 ^ (8 - sp) * 2 ^ sp < 256 = octet_low all sp few in
    let m : bit_and all (1 * 2 ^ (8 - sp) % 4294967296 - 1) ≡ all % 2 ^ (8 - sp) = rw (one_shl (8 - sp) 32 lt) (and_mask all (8 - sp)) in
    rw m (omega arith)

pub behind_whole : (bs old more : List ℕ) (sp : ℕ) → sp ≡ 0 → bs ≡ old ++ more → written bs sp ≡ written old sp ++ bits more
behind_whole bs old more sp z e = whole_is bs sp z ∙ ap bits e ∙ bits-append old more ∙ rw (whole_is old sp z) refl

pub whole_length : (bs : List ℕ) (sp : ℕ) → sp ≡ 0 → length (written bs sp) % 8 ≡ 0
whole_length bs sp z = omega (arith, length-written bs sp (omega arith))

pub same_phase : (new old : List ℕ) (sp : ℕ) → sp ≤ 8 * length new → sp ≤ 8 * length old → length (written new sp) % 8 ≡ length (written old sp) % 8
same_phase new old sp a b = omega (arith, length-written new sp a, length-written old sp b)

-- ---- numbers, bit by bit
pub fill_is : (bs mid : List ℕ) (old : List Bool) (t sp v w : ℕ) → sp < 8 → w ≤ sp → t < 2 ^ (8 - sp) → v < 2 ^ w → old ≡ bits mid ++ number_bits (8 - sp) t
    → bs ≡ mid ++ (t * 2 ^ w + v) * 2 ^ (sp - w) ∷ [] → (written bs (sp - w) ≡ old ++ number_bits w v) × IsPadded bs (sp - w)
fill_is bs mid old t sp v w few within fits small before e =
    let below : t * 2 ^ w + v < 2 ^ (8 - sp + w) = all_fits t (8 - sp) v w fits small in
    let j : 8 - (8 - sp + w) ≡ sp - w = omega arith in
    let raw : bits (mid ++ (t * 2 ^ w + v) * 2 ^ (8 - (8 - sp + w)) ∷ []) ≡ (bits mid ++ number_bits (8 - sp + w) (t * 2 ^ w + v)) ++ zeros (8 - (8 - sp + w)) =
    last_out mid (bits mid ++ number_bits (8 - sp + w) (t * 2 ^ w + v)) (8 - sp + w) (t * 2 ^ w + v) (omega arith) below refl in
    let out : bits (mid ++ (t * 2 ^ w + v) * 2 ^ (sp - w) ∷ []) ≡ (bits mid ++ number_bits (8 - sp + w) (t * 2 ^ w + v)) ++ zeros (sp - w) =
    subst (λ (n : ℕ). bits (mid ++ (t * 2 ^ w + v) * 2 ^ n ∷ []) ≡ (bits mid ++ number_bits (8 - sp + w) (t * 2 ^ w + v)) ++ zeros n) j raw in
    let all : bits bs ≡ (bits mid ++ number_bits (8 - sp + w) (t * 2 ^ w + v)) ++ zeros (sp - w) = ap bits e ∙ out in (
      put_is bs mid old t (8 - sp) v w (sp - w) fits small before all,
      padded_from bs (bits mid ++ number_bits (8 - sp + w) (t * 2 ^ w + v)) (sp - w) (omega arith) all,
    )

pub fill_fits : (t sp v w : ℕ) → sp < 8 → w ≤ sp → t < 2 ^ (8 - sp) → v < 2 ^ w → (t * 2 ^ w + v) * 2 ^ (sp - w) < 256
fill_fits t sp v w few within fits small =
    let below : t * 2 ^ w + v < 2 ^ (8 - sp + w) = all_fits t (8 - sp) v w fits small in
    let e : 8 - sp + w + (sp - w) ≡ 8 = omega arith in
    subst (λ (n : ℕ). (t * 2 ^ w + v) * 2 ^ (sp - w) < 2 ^ n) e (shl_below (t * 2 ^ w + v) (8 - sp + w) (sp - w) below)

-- nothing is there to be filled
pub fill_none : (bs : List ℕ) (sp v w : ℕ) → IsPadded bs sp → length bs ≡ 0 → w ≤ sp → (written bs (sp - w) ≡ written bs sp ++ number_bits w v) × IsPadded bs (sp - w)
unfolding number_bits
fill_none bs sp v w p e le =
    let z : sp ≡ 0 = omega (arith, p.within) in
    let n : w ≡ 0 = omega arith in
    let k : sp - w ≡ sp = omega arith in
    rw (k, n) (sym (append-nil (written bs sp)), p)

-- over the end of a byte
pub put_over : (new mid : List ℕ) (old : List Bool) (v sp left width r : ℕ) → v < 2 ^ width → sp + left ≡ width → r < 8 → written mid (sp - sp) ≡ old ++ number_bits sp (v / 2 ^ left)
    → bits new ≡ bits mid ++ number_bits left (v % 2 ^ left) ++ zeros r → (written new r ≡ old ++ number_bits width v) × IsPadded new r
put_over new mid old v sp left width r lt sum few before e =
    let z : sp - sp ≡ 0 = omega arith in
    let parts : number_bits width v ≡ number_bits sp (v / 2 ^ left) ++ number_bits left (v % 2 ^ left) =
    ap (λ (n : ℕ). number_bits n v) (sym sum) ∙ number_bits-add sp left v (subst (λ (n : ℕ). v < 2 ^ n) (sym sum) lt) in
    let front : bits mid ≡ old ++ number_bits sp (v / 2 ^ left) = sym (whole_is mid (sp - sp) z) ∙ before in
    let all : bits new ≡ (old ++ number_bits width v) ++ zeros r =
    e ∙ ap (λ (t : List Bool). t ++ zeros r) (ap (λ (t : List Bool). t ++ number_bits left (v % 2 ^ left)) front ∙ append_assoc old (number_bits sp (v / 2 ^ left)) (number_bits left (v % 2 ^ left)) ∙ ap (λ (t : List Bool). old ++ t) (sym parts)) in (
      written_is new (old ++ number_bits width v) r all,
      padded_from new (old ++ number_bits width v) r few all,
    )

-- behind whole bytes
pub put_whole : (new old : List ℕ) (v sp width r : ℕ) → sp ≡ 0 → r < 8 → bits new ≡ bits old ++ number_bits width v ++ zeros r → (written new r ≡ written old sp ++ number_bits width v) × IsPadded new r
put_whole new old v sp width r z few e =
    let all : bits new ≡ (written old sp ++ number_bits width v) ++ zeros r = e ∙ ap (λ (t : List Bool). (t ++ number_bits width v) ++ zeros r) (sym (whole_is old sp z)) in (
      written_is new (written old sp ++ number_bits width v) r all,
      padded_from new (written old sp ++ number_bits width v) r few all,
    )
