-- One event that is written: by which production, which may stand for it, and what is made of it.
use Rattle.std.proofs.Common.{◌≡◌, ℕ, ◌+◌, Bool, true, ◌&&◌, List, ◌++◌, length, slice_get, Option, Some, None, refl, sym, ap, ◌∙◌, inl, inr}
use Rattle.std.specs.Prelude.{Result, Ok, Err}
use Rattle.std.specs.Option.{is_none}
use Rattle.std.proofs.lemmas.Bool.{and_parts, cases_Bool}
use Rattle.exi_bits.specs.declared.fault.Kind.{Kind}
use Rattle.exi_gram.specs.Codes.{Coded, code_bits, coded}
use Rattle.exi_gram.specs.Laws.{codes}
use Rattle.exi_gram.specs.Switches.{align_of}
use Rattle.exi_meter.specs.Metering.{Metering}
use Rattle.exi_names.specs.Events.{Happening}
use Rattle.exi_processing.specs.Configurations.{Config, Setting, rules_of}
use Rattle.exi_processing.specs.OneEvent.{remembered}
use Rattle.exi_processing.specs.Plans.{Given, Plan, plan_of}
use Rattle.exi_processing.specs.Rules.{Rule}
use Rattle.exi_processing.specs.Runs.{has_ended}
use Rattle.exi_processing.specs.Spelled.{further}
use Rattle.exi_writing.specs.OneEvent.{Refused, Written, at_end as finished, behind, behind_code, by_code, chosen, followed, followed_by, is_taken, matches, one_deeper, one_more, padding, paid, written, written_by}
use Rattle.exi_writing.specs.Pieces.{Piece}
use Rattle.exi_writing.proofs.OneEvent.{bind_parts, context, fewest_stands}

pub record IsChosen (g : Setting) (c : Config) (e : Happening) (w : Written) : Type 0 where
  pub rule : Rule
  pub index : ℕ
  pub parts : List ℕ
  pub is : chosen g c e ≡ Some (record { parts = parts; item = rule })
  pub there : slice_get (coded (rules_of g c)) index ≡ Some (record { parts = parts; item = rule })
  pub free : (plan_of g c rule).barred ≡ None
  pub placed : (plan_of g c rule).misplaced ≡ None
  pub piece : Piece (plan_of g c rule).Item
  pub spelled_so : written_by g c rule e c.tables ≡ Some piece
  pub fits : (plan_of g c rule).refused piece.item ≡ None
  pub place : ℕ
  pub bits : ℕ
  pub meter : Metering
  pub given : w.given ≡ remembered ((plan_of g c rule).make piece.item (further (record c { place = place }) bits (context meter piece.tables)))

-- ---- behind the code
record IsMadeOf (p : Plan) (d : Config) (piece : Piece p.Item) (given : Given) : Type 0 where
  bits : ℕ
  meter : Metering
  is : given ≡ remembered (p.make piece.item (further d bits (context meter piece.tables)))

abbrev given_written : Written → Result Written Refused
given_written v = Ok v

written_is : (v w : Written) → given_written v ≡ given_written w → v ≡ w
written_is v w e = cc

piece_made : (p : Plan) (d : Config) (piece : Piece p.Item) (v : Written) (given : Given) → given ≡ v.given → followed_by p d piece ≡ Ok v → IsMadeOf p d piece given
unfolding followed_by
piece_made p d piece v given same e =
    let a = bind_parts (one_more p.counted d.meter) _ v e in
    let b = bind_parts (one_deeper p.entered a.0) _ v a.2 in
    let k = bind_parts (paid piece.units b.0) _ v b.2 in
    let text : List Bool = piece.bits ++ padding p.padded (d.place + length piece.bits) in
    record { bits = length text; meter = k.0; is = same ∙ ap (λ (z : Written). z.given) (sym (written_is (finished p.padded p.make d piece k.0 text) v k.2)) }

behind_made : (code : List Bool) (r : Result Written Refused) (w : Written) → behind_code code r ≡ Ok w → (v : Written) × (r ≡ Ok v) × (w.given ≡ v.given)
behind_made code (Ok v) w e = (v, refl, ap (λ (z : Written). z.given) (sym (written_is (behind code v) w e)))
behind_made code (Err why) w e = absurd cc

-- ---- the production
none_is : {X : Type 0} (o : Option X) → is_none o ≡ true → o ≡ None
none_is {X} None h = refl
none_is {X} (Some x) h = absurd cc

taken_parts : {X : Type 0} (refused : X → Option Kind) (o : Option (Piece X)) → is_taken refused o ≡ true → (w : Piece X) × (o ≡ Some w) × (refused w.item ≡ None)
taken_parts {X} refused None h = absurd cc
taken_parts {X} refused (Some w) h = (w, refl, none_is (refused w.item) h)

chosen_by : (g : Setting) (c : Config) (e : Happening) (w : Written) (o : Option (Coded Rule)) → chosen g c e ≡ o → by_code g c e o ≡ Ok w → IsChosen g c e w
chosen_by g c e w None is h = absurd cc
chosen_by g c e w (Some x) is h =
    let stands = fewest_stands (matches g c e) (coded (rules_of g c)) x is in
    let plan = plan_of g c x.item in
    let m = and_parts (is_none plan.barred && is_none plan.misplaced) (is_taken plan.refused (written_by g c x.item e c.tables)) stands.passes in
    let free = and_parts (is_none plan.barred) (is_none plan.misplaced) m.0 in
    let t = taken_parts plan.refused (written_by g c x.item e c.tables) m.1 in
    let code = code_bits (align_of g.options) (codes (rules_of g c)) x.parts in
    let on : Config = record c { place = c.place + length code } in
    let b = behind_made code (followed plan on (written_by g c x.item e c.tables)) w h in
    let by_piece : followed_by plan on t.0 ≡ Ok b.0 = ap (followed plan on) (sym t.1) ∙ b.1 in
    let f = piece_made plan on t.0 b.0 w.given b.2 by_piece in
    record { rule = x.item; index = stands.place; parts = x.parts; is = is; there = stands.there; free = none_is plan.barred free.0; placed = none_is plan.misplaced free.1; piece = t.0; spelled_so = t.1; fits = t.2; place = c.place + length code; bits = f.bits; meter = f.meter; given = f.is }

pub chosen_of : (g : Setting) (c : Config) (e : Happening) (w : Written) → written g c e ≡ Ok w → IsChosen g c e w
unfolding written
chosen_of g c e w h = elim (cases_Bool (has_ended c)) [
  | inl k ↦ absurd (let f = rw k at h in cc)
  | inr k ↦ chosen_by g c e w (chosen g c e) refl (rw k at h)
]
