-- A name of which the code told the URI: the URI's text is charged, and the local name and the prefix stand behind it.
use Rattle.std.proofs.Common.{ℕ, Bool, List, Option}
use Rattle.exi_bits.specs.declared.align.Align.{Align}
use Rattle.exi_bits.specs.Bits.{Spot}
use Rattle.exi_bits.specs.Unsigned.{◌>>=◌}
use Rattle.exi_tables.specs.Partitions.{Partitions, live_at, uris}
use Rattle.exi_typed.specs.Charging.{Charge}
use Rattle.exi_typed.specs.Continues.{ReadsOn}
use Rattle.exi_typed.specs.Laws.{Spelling}
use Rattle.exi_typed.specs.Metered.{IsMetered}
use Rattle.exi_typed.specs.ReadStates.{ContextReader}
use Rattle.exi_typed.specs.Refused.{IsRefusal, Refusing, RefusesNameUnder, RefusesNext, RefusesPlaced, SpellsPlaced}
use Rattle.exi_typed.specs.Spelled.{SpellsNameUnder}
use Rattle.exi_typed.specs.Strings.{Named, name_under, placed_at}
use Rattle.exi_typed.proofs.ContextItems.{Chained, ContextItem, at_start, chained, in_words}
use Rattle.exi_typed.proofs.Goings.{chained_goes, placed_goes, under_goes}
use Rattle.exi_typed.proofs.Meters.{bind_metered, placed_metered, under_metered}
use Rattle.exi_typed.proofs.NameItems.{item_under}
use Rattle.exi_typed.proofs.Refusals.{next_refusal, start_refusal, told_at, told_item, under_refusal}
use Rattle.exi_processing.specs.Contents.{RefusesUnder, SpellsUnder, under_at}

module _ (keep : Bool) (a : Align) (uri : ℕ) where
  abbrev text_of : Partitions → Option (List ℕ)
  text_of p = live_at (uris p) uri

  -- the text of the URI, where a place that tells none is at fault at this spot
  abbrev uri_told : Spot → ContextReader (List ℕ)
  uri_told s c = placed_at s (text_of c.context.tables) c

  abbrev from_spot : Spot → ContextReader Named
  from_spot s c = uri_told s c >>= λ text. name_under keep a uri text.0 text.1

  abbrev Uri : Spelling (List ℕ)
  Uri x p = SpellsPlaced (text_of p) x p

  abbrev Name : Spelling Named
  Name = Chained Uri (SpellsNameUnder keep a uri)

  to_under : (n : Named) (p q : Partitions) (ks : List Charge) (text : List Bool) → Name n p q ks text → SpellsUnder keep a uri n p q ks text
  to_under n p q ks text h =
      let f = h.spelled in
      record { space = h.from; spelled = record { between = f.between; first = f.first; second = f.second; parts = f.parts; paid = f.paid; owed = f.owed; charges = f.charges; front = f.front; behind = f.behind } }

  from_under : (n : Named) (p q : Partitions) (ks : List Charge) (text : List Bool) → SpellsUnder keep a uri n p q ks text → Name n p q ks text
  from_under n p q ks text h =
      let f = h.spelled in
      record { from = h.space; spelled = record { between = f.between; first = f.first; second = f.second; parts = f.parts; paid = f.paid; owed = f.owed; charges = f.charges; front = f.front; behind = f.behind } }

  pub under_item : ContextItem {X = Named} a (under_at keep a uri) (SpellsUnder keep a uri)
  unfolding under_at
  under_item = in_words a (under_at keep a uri) Name (SpellsUnder keep a uri) to_under from_under
      (at_start a (λ s p. from_spot s) (λ p. Name) (λ s p. chained a (uri_told s) (name_under keep a uri) Uri (SpellsNameUnder keep a uri) (told_item a s text_of) (item_under keep a uri)))

  pub under_goes_on : ReadsOn {X = Named} (under_at keep a uri)
  unfolding under_at
  under_goes_on x b d r = chained_goes (uri_told b.spot) (name_under keep a uri) (λ y c. placed_goes b.spot (text_of c.context.tables) y c) (under_goes keep a uri) x b d r

  pub under_is_metered : IsMetered {X = Named} (under_at keep a uri)
  unfolding under_at
  under_is_metered s p = bind_metered (uri_told s) (name_under keep a uri) (λ t q. placed_metered s (text_of q) t q) (under_metered keep a uri) s p

  abbrev UriRefused : Spot → Refusing
  UriRefused s v t = RefusesPlaced s (text_of v.tables) v t

  pub under_refused : IsRefusal {X = Named} a (under_at keep a uri) (RefusesUnder keep a uri)
  unfolding under_at
  under_refused = start_refusal a (λ s w. from_spot s) (λ s w. RefusesNext (UriRefused s) Uri (λ space. RefusesNameUnder keep a uri))
      (λ s w. next_refusal a (uri_told s) (name_under keep a uri) (UriRefused s) Uri (λ space. RefusesNameUnder keep a uri) (told_at a s text_of) (told_item a s text_of) (under_refusal a keep uri))
