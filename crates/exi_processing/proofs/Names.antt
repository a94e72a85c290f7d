-- Names that were read: what is read behind them keeps them.
use Rattle.std.proofs.Common.{◌≡◌, ◌<◌, ℕ, Bool, List, [], length, get_or, Option, Some, None, option_map, refl, ap, ◌∙◌}
use Rattle.std.specs.Prelude.{slice_get}
use Rattle.std.proofs.lemmas.Option.{get_or_from_slice_get, slice_get-get_or, slice_get_within}
use Rattle.exi_bits.specs.declared.align.Align.{Align}
use Rattle.exi_tables.specs.Growth.{KeepsAll, KeepsPlaces}
use Rattle.exi_tables.specs.Partitions.{Partitions, locals, prefixes, uris}
use Rattle.exi_typed.specs.ReadStates.{ReadState}
use Rattle.exi_typed.specs.NameValues.{name_value_at}
use Rattle.exi_typed.specs.Places.{IsNameAt, IsPlaceIn, name_in, text_in}
use Rattle.exi_typed.specs.Strings.{Named}
use Rattle.exi_typed.specs.declared.names.NameAt.{NameAt}
use Rattle.exi_typed.proofs.ContextItems.{told}
use Rattle.exi_typed.proofs.Goings.{name_value_goes}

pub name_value_keeps : (keep : Bool) (a : Align) (x : Named) (c d : ReadState) → name_value_at keep a c ≡ told (x, d) → KeepsAll c.context.tables d.context.tables
name_value_keeps keep a x c d e = (name_value_goes keep a x c d e).keeps

-- ---- a name that stands
record Kept (old new : List (List ℕ)) (place : ℕ) : Type 0 where
  same : text_in new place ≡ text_in old place
  within : place < length new

kept : (old new : List (List ℕ)) → KeepsPlaces old new → (place : ℕ) → place < length old → Kept old new place
kept old new k place less =
    let found : slice_get new place ≡ Some (get_or old place []) = k place (get_or old place []) (slice_get-get_or old place [] less) in
    record { same = get_or_from_slice_get new place (get_or old place []) [] found; within = slice_get_within new place (get_or old place []) found }

prefix_kept : (old new : List (List ℕ)) → KeepsPlaces old new → (o : Option ℕ) → IsPlaceIn old o → (option_map (text_in new) o ≡ option_map (text_in old) o) × IsPlaceIn new o
prefix_kept old new k None h = (refl, tt)
prefix_kept old new k (Some place) h = let t = kept old new k place h in (ap (λ (text : List ℕ). Some text) t.same, t.within)

abbrev told_name : NameAt → List ℕ → List ℕ → Option (List ℕ) → Named
told_name n uri local prefix = record { id = n.id; name = record { uri = uri; local = local; prefix = prefix } }

pub name_kept : (p q : Partitions) → KeepsAll p q → (n : NameAt) → IsNameAt p n → (name_in q n ≡ name_in p n) × IsNameAt q n
name_kept p q k n h =
    let u = kept (uris p) (uris q) k.each_uri n.id.uri h.name.within_uris in
    let l = kept (locals p n.id.uri) (locals q n.id.uri) (k.each_local n.id.uri) n.id.local h.name.within_locals in
    let x = prefix_kept (prefixes p n.id.uri) (prefixes q n.id.uri) (k.each_prefix n.id.uri) n.prefix h.prefix in (
      ap (λ (t : List ℕ). told_name n t (text_in (locals q n.id.uri) n.id.local) (option_map (text_in (prefixes q n.id.uri)) n.prefix)) u.same
          ∙ (ap (λ (t : List ℕ). told_name n (text_in (uris p) n.id.uri) t (option_map (text_in (prefixes q n.id.uri)) n.prefix)) l.same
          ∙ ap (λ (o : Option (List ℕ)). told_name n (text_in (uris p) n.id.uri) (text_in (locals p n.id.uri) n.id.local) o) x.0),
      record { name = record { within_uris = u.within; within_locals = l.within }; prefix = x.1 },
    )
