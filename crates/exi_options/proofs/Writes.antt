-- One code after another, written.
use Rattle.std.proofs.Common.{◌≡◌, ℕ, zero, suc, ◌+◌, ◌<◌, ◌≤◌, Bool, true, false, List, [], ◌∷◌, ◌++◌, length, get_or, slice_get, Option, Some, None, Result, Ok, Err, OnErr, refl, sym, ap, ◌∙◌, subst, arith}
use Rattle.std.specs.Prelude.{position}
use Rattle.std.proofs.lemmas.List.Quantifiers.{position-Some}
use Rattle.exi_bits.specs.Bits.{number_bits}
use Rattle.exi_bits.specs.Widths.{width_for}
use Rattle.exi_gram.specs.declared.options.Options.{Options}
use Rattle.exi_items.specs.Fronts.{HoldsFront}
use Rattle.exi_items.proofs.Pieces.{Goes, goes_ends, goes_on, goes_starts, goes_stops, then_front}
use Rattle.exi_options.specs.declared.table.Sign.{Sign}
use Rattle.exi_options.specs.declared.table.Sign.TheVariants as sign
use Rattle.exi_options.specs.declared.table.State.{State}
use Rattle.exi_options.specs.declared.table.State.TheVariants as state
use Rattle.exi_options.specs.Document.{Code, ahead, codes}
use Rattle.exi_options.specs.Writing.{chosen, code_in, options_bits, piece, value_bits, wanted, written_by, written_from}
use Rattle.exi_options.proofs.Steps.{get_is}
use Rattle.exi_options.proofs.Tables.{is_false, sinks_at}

wanted_not_false : (o : Options) (s : Sign) → wanted o s ≡ true → is_false s ≡ false
unfolding wanted is_false
wanted_not_false o (sign.Opens e) h = refl
wanted_not_false o sign.Ends h = refl
wanted_not_false o (sign.Switch f) h = refl
wanted_not_false o sign.Byte h = refl
wanted_not_false o sign.BlockSize h = refl
wanted_not_false o sign.ValueMaxLength h = refl
wanted_not_false o sign.ValuePartitionCapacity h = refl
wanted_not_false o sign.SchemaId h = refl
wanted_not_false o sign.Text h = refl
wanted_not_false o sign.False h = absurd cc
wanted_not_false o sign.True h = refl
wanted_not_false o (sign.Refused p) h = refl

-- a code that was chosen
pub record IsChosen (o : Options) (st : State) (place : ℕ) : Type 0 where
  pub within : place < length (codes st)
  pub there : slice_get (codes st) place ≡ Some (code_in st place)
  pub wanted : wanted o (code_in st place).0 ≡ true
  pub less : ahead (code_in st place).1 < ahead st

pub chosen_is : (o : Options) (st : State) (place : ℕ) → chosen o st ≡ Some place → IsChosen o st place
chosen_is o st place e =
    let p = position-Some (λ (c : Code). wanted o c.0) (codes st) place (sign.Ends, state.End) e in
    let there = get_is (codes st) place (sign.Ends, state.End) p.0 in
    record { within = p.0; there = there; wanted = p.1; less = sinks_at st place (code_in st place) there (wanted_not_false o (code_in st place).0 p.1) }

-- ---- for the loop: what was added so far, and what is left of the document
pub record Adds (o : Options) (old : List Bool) (st : State) (out : List Bool) : Type 0 where
  pub most : ℕ
  pub enough : ahead st ≤ most
  pub goes : Goes old (options_bits o) (written_from most o st) out

pub adds_starts : (o : Options) (old : List Bool) → Adds o old state.Document old
unfolding options_bits
adds_starts o old = record { most = ahead state.Document; enough = omega arith; goes = goes_starts old (options_bits o) }

-- what is left begins with a piece
pub record Next (o : Options) (old : List Bool) (st : State) (out : List Bool) (place : ℕ) : Type 0 where
  pub most : ℕ
  pub enough : ahead st ≤ suc most
  pub goes : Goes old (options_bits o) (written_from (suc most) o st) out
  pub left : written_from (suc most) o st ≡ piece o st place ++ written_from most o (code_in st place).1

next_piece : (o : Options) (old : List Bool) (st : State) (out : List Bool) (place : ℕ) → chosen o st ≡ Some place → Adds o old st out → Next o old st out place
next_piece o old st out place e a = by a.most a.enough a.goes
  where
    by : (n : ℕ) → ahead st ≤ n → Goes old (options_bits o) (written_from n o st) out → Next o old st out place
    by zero le g = let less = (chosen_is o st place e).less in absurd (omega arith)
    by (suc n) le g = record { most = n; enough = le; goes = g; left = ap (written_by o st (written_from n o)) e }

pub adds_on : (o : Options) (old : List Bool) (st : State) (out new : List Bool) (place : ℕ) → chosen o st ≡ Some place → new ≡ out ++ piece o st place → Adds o old st out → Adds o old (code_in st place).1 new
adds_on o old st out new place e f a =
    let n = next_piece o old st out place e a in
    let less = (chosen_is o st place e).less in record {
      most = n.most;
      enough = omega (arith, less, n.enough);
      goes = goes_on old (options_bits o) (piece o st place) (written_from n.most o (code_in st place).1) (written_from (suc n.most) o st) out new n.goes n.left f;
    }

pub adds_stops : (o : Options) (old : List Bool) (st : State) (out new : List Bool) (place : ℕ) → chosen o st ≡ Some place → HoldsFront out (piece o st place) new → Adds o old st out → HoldsFront old (options_bits o) new
adds_stops o old st out new place e f a =
    let n = next_piece o old st out place e a in
    goes_stops old (options_bits o) (piece o st place) (written_from n.most o (code_in st place).1) (written_from (suc n.most) o st) out new n.goes n.left f

none_left : (n : ℕ) (o : Options) (st : State) → chosen o st ≡ None → written_from n o st ≡ []
none_left zero o st e = refl
none_left (suc n) o st e = ap (written_by o st (written_from n o)) e

pub adds_ends : (o : Options) (old : List Bool) (st : State) (out : List Bool) → chosen o st ≡ None → Adds o old st out → out ≡ old ++ options_bits o
adds_ends o old st out e a = goes_ends old (options_bits o) (written_from a.most o st) out a.goes (none_left a.most o st e)

-- ---- for one piece
some_code : Code → Option Code
some_code c = Some c

some_is : (c d : Code) → some_code c ≡ some_code d → c ≡ d
unfolding some_code
some_is c d e = cc

pub same_code : (cs : List Code) (st : State) (place : ℕ) (d : Code) → cs ≡ codes st → place < length (codes st) → get_or cs place d ≡ code_in st place
unfolding some_code
same_code cs st place d same lt =
    ap (λ (x : List Code). get_or x place d) same
    ∙ some_is (get_or (codes st) place d) (code_in st place) (sym (get_is (codes st) place d lt) ∙ get_is (codes st) place (sign.Ends, state.End) lt)

pub piece_stops : (o : Options) (st : State) (place : ℕ) (cs : List Code) (d : Code) (w : ℕ) (old mid new : List Bool) → cs ≡ codes st → place < length (codes st) → w ≡ width_for (length cs) → mid ≡ old ++ number_bits w place → HoldsFront mid (value_bits o (get_or cs place d).0) new → HoldsFront old (piece o st place) new
piece_stops o st place cs d w old mid new same lt width first h =
    let code = same_code cs st place d same lt in
    let bits : number_bits w place ≡ number_bits (width_for (length (codes st))) place = ap (λ (n : ℕ). number_bits n place) width ∙ ap (λ (x : List Code). number_bits (width_for (length x)) place) same in
    then_front old (number_bits (width_for (length (codes st))) place) (value_bits o (code_in st place).0) mid new (first ∙ ap (λ (x : List Bool). old ++ x) bits) (subst (λ (c : Code). HoldsFront mid (value_bits o c.0) new) code h)

pub err_holds : {X E : Type 0} (r : Result X E) (P : Type 0) → P → OnErr r P
err_holds (Ok x) P p = tt
err_holds (Err e) P p = p
