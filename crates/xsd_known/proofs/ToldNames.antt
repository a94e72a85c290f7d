-- The names and URIs that a schema declares do not hang on where it lies how values are represented.
use Rattle.std.proofs.Common.{◌≡◌, ◌∷◌, ◌++◌, map, flat_map, refl}
use Rattle.xsd_model.specs.Parts.{Parts}
use Rattle.exi_vocabulary.specs.FirstNames.{all_locals, all_uris, declared_names, first_names_of, known_locals, known_uris, locals_under, particle_uris, sorted_but, told_uris, type_names, type_uris}
use Rattle.xsd_known.proofs.Told.{same_all, told}

module _ (p : Parts) where
  pub same_names : declared_names (told p) ≡ declared_names p
  same_names = λ i. map (λ e. e.name) p.elements ++ (map (λ a. a.name) p.attributes ++ same_all type_names (λ n m union t. refl) p.forms 0 p.types i)

  pub same_told_uris : told_uris (told p) ≡ told_uris p
  same_told_uris = λ i. p.target ∷ (map (λ n. n.uri) (same_names i) ++ (same_all type_uris (λ n m union t. refl) p.forms 0 p.types i ++ flat_map particle_uris p.particles))

  pub same_uris : all_uris (told p) ≡ all_uris p
  same_uris = λ i. known_uris ++ sorted_but known_uris (same_told_uris i)

  pub same_locals : all_locals (told p) ≡ all_locals p
  same_locals = λ i uri. known_locals uri ++ sorted_but (known_locals uri) (locals_under uri (same_names i))

  pub same_first_names : first_names_of (told p) ≡ first_names_of p
  same_first_names = λ i. record { uris = same_uris i; locals = map (same_locals i) (same_uris i) }
