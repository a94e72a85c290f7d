-- What is told with a production of what it names.
use Rattle.std.proofs.Common.{◌≡◌, ◌≢◌, ◌⊎◌, inl, inr, ℕ, List, Option, Some, None, refl, sym, subst}
use Rattle.std.proofs.lemmas.Option.{none-some, same_Some}
use Rattle.exi_names.specs.StartTables.{Names}
use Rattle.exi_names.specs.declared.names.NameId.{NameId}
use Rattle.exi_names.specs.declared.names.QName.{QName}
use Rattle.exi_gram.specs.declared.named.Named.{Named}
use Rattle.exi_gram.specs.declared.named.Named.TheVariants as named
use Rattle.exi_gram.specs.Naming.{entry_of, local_place, name_place, named_in, uri_place}
use Rattle.exi_gram.specs.Terminals.{Symbol, sd, ed, se, se_in, se_any, at, at_in, at_any, at_text, at_any_text, xsi_type, xsi_nil, ch, ch_text, ee, ns, sc, er, cm, pi, dt}
use Rattle.exi_gram.specs.Wholes.{plain}
use Rattle.exi_ways.specs.Ways.{IsPlaced, Tells, TellsName, TellsUri, ToldOf}

cases_Option : {A : Type 0} (o : Option A) → (o ≡ None) ⊎ ((x : A) × (o ≡ Some x))
cases_Option None = inl refl
cases_Option (Some x) = inr (x, refl)

abbrev pub told_of : Names → Symbol → Named
told_of names on = (entry_of names (plain on 0)).named

module _ (names : Names) where
  -- ---- the places of a name
  pub placed : (name : QName) (place : NameId) → name_place names name ≡ Some place → IsPlaced names name place
  placed name place e = elim (cases_Option (uri_place names name.uri)) [
    | inl none ↦ absurd (none-some place (rw none at e))
    | inr uri ↦ elim (cases_Option (local_place names uri.0 name.local)) [
      | inl none ↦ absurd (none-some place (rw (uri.1, none) at e))
      | inr local ↦ subst (IsPlaced names name) (same_Some (record { uri = uri.0; local = local.0 }) place (rw (uri.1, local.1) at e)) (record { uri = uri.1; local = local.1 })
    ]
  ]

  pub name_told : (name : QName) → name_place names name ≢ None → TellsName names name (told_of names (se name))
  name_told name stands = elim (cases_Option (name_place names name)) [
    | inl none ↦ absurd (stands none)
    | inr place ↦ record { place = place.0; told_is = rw place.1 refl; placed = placed name place.0 place.1 }
  ]

  named_told : (name : QName) → named_in names (se name) ≢ None → TellsName names name (told_of names (se name))
  named_told name stands = name_told name (λ none. stands (rw none refl))

  uri_told : (uri : List ℕ) → named_in names (se_in uri) ≢ None → TellsUri names uri (told_of names (se_in uri))
  uri_told uri stands = elim (cases_Option (uri_place names uri)) [
    | inl none ↦ absurd (stands (rw none refl))
    | inr place ↦ record { place = place.0; told_is = rw place.1 refl; placed = place.1 }
  ]

  -- ---- with each terminal
  pub symbol_told : (on : Symbol) → named_in names on ≢ None → Tells names on (told_of names on)
  symbol_told (se name) stands = named_told name stands
  symbol_told (at name representation) stands = named_told name stands
  symbol_told (at_text name) stands = named_told name stands
  symbol_told (se_in uri) stands = uri_told uri stands
  symbol_told (at_in uri) stands = uri_told uri stands
  symbol_told sd stands = refl
  symbol_told ed stands = refl
  symbol_told se_any stands = refl
  symbol_told at_any stands = refl
  symbol_told at_any_text stands = refl
  symbol_told xsi_type stands = refl
  symbol_told xsi_nil stands = refl
  symbol_told (ch representation) stands = refl
  symbol_told ch_text stands = refl
  symbol_told ee stands = refl
  symbol_told ns stands = refl
  symbol_told sc stands = refl
  symbol_told er stands = refl
  symbol_told cm stands = refl
  symbol_told pi stands = refl
  symbol_told dt stands = refl

  -- ---- the same from the other side
  from_nothing : (on : Symbol) (told : Named) → told ≡ named.Nothing → ToldOf names named.Nothing on → ToldOf names told on
  from_nothing on told e h = subst (λ z. ToldOf names z on) (sym e) h

  from_name : (on : Symbol) (name : QName) (told : Named) (t : TellsName names name told) → ToldOf names (named.Name t.place) on → ToldOf names told on
  from_name on name told t h = subst (λ z. ToldOf names z on) (sym t.told_is) h

  from_uri : (on : Symbol) (uri : List ℕ) (told : Named) (t : TellsUri names uri told) → ToldOf names (named.Uri t.place) on → ToldOf names told on
  from_uri on uri told t h = subst (λ z. ToldOf names z on) (sym t.told_is) h

  pub told_back : (on : Symbol) (told : Named) → Tells names on told → ToldOf names told on
  told_back (se name) told t = from_name (se name) name told t (name, t.placed, inl refl)
  told_back (at name representation) told t = from_name (at name representation) name told t (name, t.placed, inr (inl (representation, refl)))
  told_back (at_text name) told t = from_name (at_text name) name told t (name, t.placed, inr (inr refl))
  told_back (se_in uri) told t = from_uri (se_in uri) uri told t (uri, t.placed, inl refl)
  told_back (at_in uri) told t = from_uri (at_in uri) uri told t (uri, t.placed, inr refl)
  told_back sd told t = from_nothing sd told t tt
  told_back ed told t = from_nothing ed told t tt
  told_back se_any told t = from_nothing se_any told t tt
  told_back at_any told t = from_nothing at_any told t tt
  told_back at_any_text told t = from_nothing at_any_text told t tt
  told_back xsi_type told t = from_nothing xsi_type told t tt
  told_back xsi_nil told t = from_nothing xsi_nil told t tt
  told_back (ch representation) told t = from_nothing (ch representation) told t tt
  told_back ch_text told t = from_nothing ch_text told t tt
  told_back ee told t = from_nothing ee told t tt
  told_back ns told t = from_nothing ns told t tt
  told_back sc told t = from_nothing sc told t tt
  told_back er told t = from_nothing er told t tt
  told_back cm told t = from_nothing cm told t tt
  told_back pi told t = from_nothing pi told t tt
  told_back dt told t = from_nothing dt told t tt
