use Rattle.std.proofs.Common.{◌≡◌, ◌∙◌, ℕ, List, Ok, length, eqb, true, false, sym, ap}
use Rattle.std.proofs.lemmas.Result.{err_from_is_err_and}
use Rattle.exi_options.specs.Document.{Code, codes}
use Rattle.exi_options.specs.Reading.{value_at}
use Rattle.exi_options.proofs.Steps.{comes_less, goes_on, goes_starts, goes_to_code, goes_to_end, goes_to_stop}
use Rattle.exi_options.proofs.read.read_codes.Goals as goal

pub loop-alloc-init : goal.loop-alloc-init
loop-alloc-init c = rw c.nothing-told.ensures (goes_starts c.args.input.now)

pub returns-in_err-sign-clause-read : goal.returns-in_err-sign-clause-read
returns-in_err-sign-clause-read c =
    let p = err_from_is_err_and c.from_residual.result c.from_residual.ensures.1 in
    let some : eqb (length (codes c.loop-alloc.state)) 0 ≡ false = ap (λ (cs : List Code). eqb (length cs) 0) (sym c.codes.ensures.codes) ∙ sym c.loop-alloc-test.ensures in
    rw (p.1, p.2) (goes_to_code c.args.input.now c.loop-alloc.state c.loop-alloc.told c.loop-alloc.input c.in_err-sign.field-0.0 some c.in_err-sign.ensures.read c.loop-alloc.invariant)

pub returns-in_err-take-clause-read : goal.returns-in_err-take-clause-read
returns-in_err-take-clause-read c =
    let p = err_from_is_err_and c.from_residual-in_err-take.result c.from_residual-in_err-take.ensures.1 in
    let some : eqb (length (codes c.loop-alloc.state)) 0 ≡ false = ap (λ (cs : List Code). eqb (length cs) 0) (sym c.codes.ensures.codes) ∙ sym c.loop-alloc-test.ensures in
    rw (p.1, p.2) (goes_to_stop c.args.input.now c.loop-alloc.state c.loop-alloc.told c.loop-alloc.input ((c.in_ok-sign.sign, c.in_ok-sign.next), c.read_code.new.input) c.at-bit.result c.in_err-take.field-0.0 some c.in_ok-sign.ensures.read c.at-bit.ensures.place c.in_err-take.ensures.read c.loop-alloc.invariant)

pub loop-alloc-smaller : goal.loop-alloc-smaller
loop-alloc-smaller c =
    let f : value_at c.in_ok-sign.sign c.loop-alloc.input.place c.loop-alloc.told c.read_code.new.input ≡ Ok (c.take.new.told, c.take.new.input) = ap (λ (b : ℕ). value_at c.in_ok-sign.sign b c.loop-alloc.told c.read_code.new.input) (sym c.at-bit.ensures.place) ∙ c.in_ok-take.ensures.read in
    comes_less c.loop-alloc.state c.loop-alloc.input c.loop-alloc.told ((c.in_ok-sign.sign, c.in_ok-sign.next), c.read_code.new.input) (c.take.new.told, c.take.new.input) c.in_ok-sign.ensures.read f

pub loop-alloc-preserved : goal.loop-alloc-preserved
loop-alloc-preserved c =
    let some : eqb (length (codes c.loop-alloc.state)) 0 ≡ false = ap (λ (cs : List Code). eqb (length cs) 0) (sym c.codes.ensures.codes) ∙ sym c.loop-alloc-test.ensures in
    let f : value_at c.in_ok-sign.sign c.loop-alloc.input.place c.loop-alloc.told c.read_code.new.input ≡ Ok (c.take.new.told, c.take.new.input) = ap (λ (b : ℕ). value_at c.in_ok-sign.sign b c.loop-alloc.told c.read_code.new.input) (sym c.at-bit.ensures.place) ∙ c.in_ok-take.ensures.read in
    goes_on c.args.input.now c.loop-alloc.state c.loop-alloc.told c.loop-alloc.input ((c.in_ok-sign.sign, c.in_ok-sign.next), c.read_code.new.input) (c.take.new.told, c.take.new.input) some c.in_ok-sign.ensures.read f (c.in_ok-take.ensures.bytes ∙ c.in_ok-sign.ensures.bytes ∙ c.loop-alloc.invariant.bytes) c.loop-alloc.invariant

pub returns-clause-read : goal.returns-clause-read
returns-clause-read c =
    let none : eqb (length (codes c.loop-alloc.state)) 0 ≡ true = ap (λ (cs : List Code). eqb (length cs) 0) (sym c.codes.ensures.codes) ∙ sym c.loop-alloc-test.ensures in
    goes_to_end c.args.input.now c.loop-alloc.state c.loop-alloc.told c.loop-alloc.input none c.loop-alloc.invariant
