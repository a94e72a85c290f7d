-- Names and namespace declarations: spelled and read.
use Rattle.std.proofs.Common.{◌≡◌, ℕ, zero, suc, ◌<◌, Bool, true, false, cond, eqb, List, [], ◌∷◌, ◌++◌, length, Option, Some, None, refl, sym, ap, ◌∙◌, subst, arith}
use Rattle.std.proofs.lemmas.Bool.{ltb-true}
use Rattle.std.proofs.lemmas.List.{append-nil}
use Rattle.std.proofs.lemmas.Option.{slice_get_within}
use Rattle.exi_bits.specs.declared.align.Align.{Align}
use Rattle.exi_bits.specs.Bits.{number}
use Rattle.exi_bits.specs.declared.fault.Kind.TheVariants as kind
use Rattle.exi_bits.specs.Unsigned.{◌>>=◌, below_at}
use Rattle.exi_bits.specs.Widths.{width_for, width_from}
use Rattle.exi_items.proofs.Items.{item_below}
use Rattle.exi_names.specs.declared.names.NameId.{NameId}
use Rattle.exi_names.specs.declared.names.QName.{QName}
use Rattle.exi_tables.specs.Partitions.{Partitions, live_at, locals, prefixes, uris, with_prefix}
use Rattle.exi_typed.specs.Charging.{Charge, later, one_charge}
use Rattle.exi_typed.specs.ReadStates.{ReadState, at_spot_of, failing}
use Rattle.exi_typed.specs.Laws.{Spelling}
use Rattle.exi_typed.specs.NameValues.{SpellsNameValue, name_value_at}
use Rattle.exi_typed.specs.Spelled.{IsHit, IsNothing, SpellsDeclaration, SpellsFlag, SpellsKnown, SpellsLocal, SpellsName, SpellsNameUnder, SpellsNewPrefix, SpellsPrefix, SpellsUri}
use Rattle.exi_typed.specs.Strings.{Declaration, Named, declaration_at, declared_under, hit_at, indexed_at, known_at, listed, local_at, name_at, name_under, place_in, placed_at, prefix_at, told_prefix, uri_at}
use Rattle.exi_typed.proofs.ContextItems.{BehindValue, Chained, ContextItem, IsPure, IsTold, MadeInContext, PaysFirst, at_start, behind, chained, in_words, later_none, made, paying, placed, pure, some_is, told}
use Rattle.exi_typed.proofs.Texts.{Below, below_fits, indexed_in, item_hit, item_local, item_uri}

-- ---- a prefix
abbrev PrefixIn : Align → List (List ℕ) → Spelling (Option (List ℕ))
PrefixIn a partition None w v ks text = (partition ≡ []) × IsNothing w v ks text
PrefixIn a partition (Some x) w v ks text = IsHit a (listed partition) x w v ks text

no_text : (x : List ℕ) → None ≡ Some x → ⊥
no_text x e = absurd cc

prefix_in : (a : Align) (partition : List (List ℕ)) → ContextItem {X = Option (List ℕ)} a (told_prefix a partition) (PrefixIn a partition)
prefix_in a [] = in_words a (told_prefix a []) (IsPure None) (PrefixIn a []) to from (pure a None)
  where
    to : (x : Option (List ℕ)) (w v : Partitions) (ks : List Charge) (text : List Bool) → IsPure None x w v ks text → PrefixIn a [] x w v ks text
    to None w v ks text z = (refl, z.nothing)
    to (Some x) w v ks text z = absurd (no_text x z.is)

    from : (x : Option (List ℕ)) (w v : Partitions) (ks : List Charge) (text : List Bool) → PrefixIn a [] x w v ks text → IsPure None x w v ks text
    from None w v ks text h = record { is = refl; nothing = h.1 }
    from (Some x) w v ks text h = let lt : h.place < 0 = slice_get_within [] h.place x h.stands in absurd (omega arith)
prefix_in a (p ∷ ps) = in_words a (told_prefix a (p ∷ ps)) (MadeInContext (λ x v. Some x) (IsHit a (listed (p ∷ ps)))) (PrefixIn a (p ∷ ps)) to from (made a (hit_at a (listed (p ∷ ps))) (λ x v. Some x) (IsHit a (listed (p ∷ ps))) (item_hit a (listed (p ∷ ps))))
  where
    to : (x : Option (List ℕ)) (w v : Partitions) (ks : List Charge) (text : List Bool) → MadeInContext (λ x v. Some x) (IsHit a (listed (p ∷ ps))) x w v ks text → PrefixIn a (p ∷ ps) x w v ks text
    to None w v ks text z = absurd (no_text z.from (sym z.is))
    to (Some x) w v ks text z = subst (λ (y : List ℕ). IsHit a (listed (p ∷ ps)) y w v ks text) (some_is z.from x z.is) z.spelled

    from : (x : Option (List ℕ)) (w v : Partitions) (ks : List Charge) (text : List Bool) → PrefixIn a (p ∷ ps) x w v ks text → MadeInContext (λ x v. Some x) (IsHit a (listed (p ∷ ps))) x w v ks text
    from None w v ks text h = absurd (some_there h.0)
      where
        some_there : p ∷ ps ≡ [] → ⊥
        some_there e = absurd cc
    from (Some x) w v ks text h = record { from = x; is = refl; spelled = h }

pub item_prefix : (keep : Bool) (a : Align) (uri : ℕ) → ContextItem {X = Option (List ℕ)} a (prefix_at keep a uri) (SpellsPrefix keep a uri)
item_prefix true a uri = in_words a (prefix_at true a uri) (λ x w. PrefixIn a (prefixes w uri) x w) (SpellsPrefix true a uri) to from
    (at_start a (λ s p. told_prefix a (prefixes p uri)) (λ w. PrefixIn a (prefixes w uri)) (λ s p. prefix_in a (prefixes p uri)))
  where
    to : (x : Option (List ℕ)) (w v : Partitions) (ks : List Charge) (text : List Bool) → PrefixIn a (prefixes w uri) x w v ks text → SpellsPrefix true a uri x w v ks text
    to None w v ks text h = h
    to (Some x) w v ks text h = h

    from : (x : Option (List ℕ)) (w v : Partitions) (ks : List Charge) (text : List Bool) → SpellsPrefix true a uri x w v ks text → PrefixIn a (prefixes w uri) x w v ks text
    from None w v ks text h = h
    from (Some x) w v ks text h = h
item_prefix false a uri = in_words a (prefix_at false a uri) (IsPure None) (SpellsPrefix false a uri) to from (pure a None)
  where
    to : (x : Option (List ℕ)) (w v : Partitions) (ks : List Charge) (text : List Bool) → IsPure None x w v ks text → SpellsPrefix false a uri x w v ks text
    to None w v ks text z = z.nothing
    to (Some x) w v ks text z = absurd (no_text x z.is)

    from : (x : Option (List ℕ)) (w v : Partitions) (ks : List Charge) (text : List Bool) → SpellsPrefix false a uri x w v ks text → IsPure None x w v ks text
    from None w v ks text h = record { is = refl; nothing = h }
    from (Some x) w v ks text h = absurd h

-- ---- a name
abbrev name_of : List ℕ → List ℕ → Option (List ℕ) → QName
name_of uri local prefix = record { uri = uri; local = local; prefix = prefix }

abbrev named_by : NameId → QName → Named
named_by id name = record { id = id; name = name }

abbrev id_of : ℕ → ℕ → NameId
id_of uri local = record { uri = uri; local = local }

module _ (keep : Bool) (a : Align) where
  -- a name of its parts
  abbrev named_in : ℕ → List ℕ → List ℕ → Option (List ℕ) → Partitions → Named
  named_in uri space local prefix v = named_by (id_of uri (place_in (locals v uri) local)) (name_of space local prefix)

  abbrev UnderBits : ℕ → List ℕ → Spelling Named
  UnderBits uri space = Chained (SpellsLocal a uri) (λ local. MadeInContext (named_in uri space local) (SpellsPrefix keep a uri))

  to_under : (uri : ℕ) (space : List ℕ) (n : Named) (w v : Partitions) (ks : List Charge) (text : List Bool) → UnderBits uri space n w v ks text → SpellsNameUnder keep a uri space n w v ks text
  to_under uri space n w v ks text z =
      let h = z.spelled in
      subst (λ (m : Named). SpellsNameUnder keep a uri space m w v ks text) h.behind.is (record {
        spelled = record { between = h.between; first = h.first; second = h.second; parts = h.parts; paid = h.paid; owed = h.owed; charges = h.charges; front = h.front; behind = h.behind.spelled };
        space_is = refl;
        id_is = refl;
      })

  from_under : (uri : ℕ) (space : List ℕ) (n : Named) (w v : Partitions) (ks : List Charge) (text : List Bool) → SpellsNameUnder keep a uri space n w v ks text → UnderBits uri space n w v ks text
  from_under uri space n w v ks text z =
      let h = z.spelled in
      let is : named_in uri space n.name.local n.name.prefix v ≡ n =
      ap (λ (id : NameId). named_by id (name_of space n.name.local n.name.prefix)) (sym z.id_is) ∙ ap (λ (x : List ℕ). named_by n.id (name_of x n.name.local n.name.prefix)) (sym z.space_is) in
      record {
        from = n.name.local;
        spelled = record { between = h.between; first = h.first; second = h.second; parts = h.parts; paid = h.paid; owed = h.owed; charges = h.charges; front = h.front; behind = record { from = n.name.prefix; is = is; spelled = h.behind } };
      }

  pub item_under : (uri : ℕ) (space : List ℕ) → ContextItem {X = Named} a (name_under keep a uri space) (SpellsNameUnder keep a uri space)
  unfolding name_under
  item_under uri space = in_words a (name_under keep a uri space) (UnderBits uri space) (SpellsNameUnder keep a uri space) (to_under uri space) (from_under uri space)
      (chained a (local_at a uri) (λ local c. prefix_at keep a uri c >>= λ prefix. told {X = Named × ReadState} (named_in uri space local prefix.0 prefix.1.context.tables, prefix.1)) (SpellsLocal a uri) (λ local. MadeInContext (named_in uri space local) (SpellsPrefix keep a uri))
      (item_local a uri) (λ local. made a (prefix_at keep a uri) (named_in uri space local) (SpellsPrefix keep a uri) (item_prefix keep a uri)))

  abbrev UnderUri : List ℕ → Spelling Named
  UnderUri space n w = SpellsNameUnder keep a (place_in (uris w) space) space n w

  abbrev NameBits : Spelling Named
  NameBits = Chained (SpellsUri a) UnderUri

  to_name : (n : Named) (w v : Partitions) (ks : List Charge) (text : List Bool) → NameBits n w v ks text → SpellsName keep a n w v ks text
  to_name n w v ks text z =
      let h = z.spelled in
      let same : z.from ≡ n.name.uri = sym h.behind.space_is in
      record {
        between = h.between;
        first = h.first;
        second = h.second;
        parts = h.parts;
        paid = h.paid;
        owed = h.owed;
        charges = h.charges;
        front = subst (λ (x : List ℕ). SpellsUri a x w h.between h.paid h.first) same h.front;
        behind = subst (λ (x : List ℕ). UnderUri x n h.between v h.owed h.second) same h.behind;
      }

  from_name : (n : Named) (w v : Partitions) (ks : List Charge) (text : List Bool) → SpellsName keep a n w v ks text → NameBits n w v ks text
  from_name n w v ks text h = record { from = n.name.uri; spelled = record { between = h.between; first = h.first; second = h.second; parts = h.parts; paid = h.paid; owed = h.owed; charges = h.charges; front = h.front; behind = h.behind } }

  pub item_name : ContextItem {X = Named} a (name_at keep a) (SpellsName keep a)
  unfolding name_at
  item_name = in_words a (name_at keep a) NameBits (SpellsName keep a) to_name from_name
      (chained a (uri_at a) (λ space c. name_under keep a (place_in (uris c.context.tables) space) space c) (SpellsUri a) UnderUri
      (item_uri a) (λ space. at_start a (λ s p. name_under keep a (place_in (uris p) space) space) (λ w. SpellsNameUnder keep a (place_in (uris w) space) space) (λ s p. item_under (place_in (uris p) space) space)))

-- ---- a name that the event code tells
module _ (keep : Bool) (a : Align) (id : NameId) where
  abbrev known_as : List ℕ → List ℕ → Option (List ℕ) → Partitions → Named
  known_as uri local prefix v = named_by id (name_of uri local prefix)

  abbrev UriTold : Spelling (List ℕ)
  UriTold x w = IsTold (live_at (uris w) id.uri) x w

  abbrev LocalTold : Spelling (List ℕ)
  LocalTold x w = IsTold (live_at (locals w id.uri) id.local) x w

  abbrev KnownBits : Spelling Named
  KnownBits = Chained UriTold (λ uri. Chained LocalTold (λ local. MadeInContext (known_as uri local) (SpellsPrefix keep a id.uri)))

  to_known : (n : Named) (w v : Partitions) (ks : List Charge) (text : List Bool) → KnownBits n w v ks text → SpellsKnown keep a id n w v ks text
  to_known n w v ks text z =
      let h = z.spelled in
      let k = h.behind.spelled in
      let same : h.between ≡ w = h.front.after in
      let stands : live_at (locals w id.uri) id.local ≡ Some h.behind.from = ap (λ (p : Partitions). live_at (locals p id.uri) id.local) (sym same) ∙ k.front.stands in
      let parts : text ≡ k.second =
      h.parts ∙ ap (λ (t : List Bool). t ++ h.second) h.front.bits ∙ k.parts ∙ ap (λ (t : List Bool). t ++ k.second) k.front.bits in
      let owed : h.owed ≡ one_charge (length h.behind.from) 0 ++ k.owed = k.charges ∙ ap (λ (js : List Charge). js ++ later (length k.first) k.owed) k.front.charges ∙ ap (λ (t : List Bool). one_charge (length h.behind.from) 0 ++ later (length t) k.owed) k.front.bits ∙ ap (λ (js : List Charge). one_charge (length h.behind.from) 0 ++ js) (later_none k.owed) in
      let charges : ks ≡ (one_charge (length z.from) 0 ++ one_charge (length h.behind.from) 0) ++ later 0 k.owed =
      h.charges ∙ ap (λ (js : List Charge). js ++ later (length h.first) h.owed) h.front.charges ∙ ap (λ (t : List Bool). one_charge (length z.from) 0 ++ later (length t) h.owed) h.front.bits ∙ ap (λ (js : List Charge). one_charge (length z.from) 0 ++ later 0 js) owed in
      subst (λ (m : Named). SpellsKnown keep a id m w v ks text) k.behind.is (record {
        id_is = refl;
        uri_stands = h.front.stands;
        local_stands = stands;
        spelled = record {
          between = k.between;
          first = [];
          second = k.second;
          parts = parts;
          paid = one_charge (length z.from) 0 ++ one_charge (length h.behind.from) 0;
          owed = k.owed;
          charges = charges;
          front = record { bits = refl; charges = refl; after = k.front.after ∙ same };
          behind = k.behind.spelled;
        };
      })

  from_known : (n : Named) (w v : Partitions) (ks : List Charge) (text : List Bool) → SpellsKnown keep a id n w v ks text → KnownBits n w v ks text
  from_known n w v ks text z =
      let h = z.spelled in
      let p = h.front in
      let parts : text ≡ h.second = h.parts ∙ ap (λ (t : List Bool). t ++ h.second) p.bits in
      let is : named_by id (name_of n.name.uri n.name.local n.name.prefix) ≡ n = ap (λ (i : NameId). named_by i n.name) (sym z.id_is) in
      let charges : ks ≡ one_charge (length n.name.uri) 0 ++ later 0 (one_charge (length n.name.local) 0 ++ later 0 h.owed) =
      h.charges ∙ ap (λ (js : List Charge). js ++ later (length h.first) h.owed) p.charges ∙ ap (λ (t : List Bool). (one_charge (length n.name.uri) 0 ++ one_charge (length n.name.local) 0) ++ later (length t) h.owed) p.bits
      ∙ ap (λ (js : List Charge). one_charge (length n.name.uri) 0 ++ (one_charge (length n.name.local) 0 ++ js)) (sym (later_none (later 0 h.owed))) in
      record {
        from = n.name.uri;
        spelled = record {
          between = w;
          first = [];
          second = text;
          parts = refl;
          paid = one_charge (length n.name.uri) 0;
          owed = one_charge (length n.name.local) 0 ++ later 0 h.owed;
          charges = charges;
          front = record { stands = z.uri_stands; bits = refl; charges = refl; after = refl };
          behind = record {
            from = n.name.local;
            spelled = record {
              between = h.between;
              first = [];
              second = h.second;
              parts = parts;
              paid = one_charge (length n.name.local) 0;
              owed = h.owed;
              charges = refl;
              front = record { stands = z.local_stands; bits = refl; charges = refl; after = p.after };
              behind = record { from = n.name.prefix; is = is; spelled = h.behind };
            };
          };
        };
      }

  pub item_known : ContextItem {X = Named} a (known_at keep a id) (SpellsKnown keep a id)
  unfolding known_at
  item_known = in_words a (known_at keep a id) KnownBits (SpellsKnown keep a id) to_known from_known
      (at_start a
      (λ s p c. placed_at s (live_at (uris c.context.tables) id.uri) c >>= λ uri. placed_at s (live_at (locals uri.1.context.tables id.uri) id.local) uri.1 >>= λ local. prefix_at keep a id.uri local.1 >>= λ prefix. told {X = Named × ReadState} (known_as uri.0 local.0 prefix.0 prefix.1.context.tables, prefix.1))
      (λ w. KnownBits)
      (λ s p. chained a (λ c. placed_at s (live_at (uris c.context.tables) id.uri) c)
      (λ uri c. placed_at s (live_at (locals c.context.tables id.uri) id.local) c >>= λ local. prefix_at keep a id.uri local.1 >>= λ prefix. told {X = Named × ReadState} (known_as uri local.0 prefix.0 prefix.1.context.tables, prefix.1))
      UriTold (λ uri. Chained LocalTold (λ local. MadeInContext (known_as uri local) (SpellsPrefix keep a id.uri)))
      (at_start a (λ t r. placed_at s (live_at (uris r) id.uri)) (λ w. IsTold (live_at (uris w) id.uri)) (λ t r. placed a s (live_at (uris r) id.uri)))
      (λ uri. chained a (λ c. placed_at s (live_at (locals c.context.tables id.uri) id.local) c)
      (λ local c. prefix_at keep a id.uri c >>= λ prefix. told {X = Named × ReadState} (known_as uri local prefix.0 prefix.1.context.tables, prefix.1))
      LocalTold (λ local. MadeInContext (known_as uri local) (SpellsPrefix keep a id.uri))
      (at_start a (λ t r. placed_at s (live_at (locals r id.uri) id.local)) (λ w. IsTold (live_at (locals w id.uri) id.local)) (λ t r. placed a s (live_at (locals r id.uri) id.local)))
      (λ local. made a (prefix_at keep a id.uri) (known_as uri local) (SpellsPrefix keep a id.uri) (item_prefix keep a id.uri)))))

-- ---- a value that is a name
pub item_name_value : (keep : Bool) (a : Align) → ContextItem {X = Named} a (name_value_at keep a) (SpellsNameValue keep a)
unfolding name_value_at
item_name_value keep a = in_words a (name_value_at keep a) (PaysFirst 1 (SpellsName keep a)) (SpellsNameValue keep a) to from (paying a 1 (name_at keep a) (SpellsName keep a) (item_name keep a))
  where
    to : (n : Named) (w v : Partitions) (ks : List Charge) (text : List Bool) → PaysFirst 1 (SpellsName keep a) n w v ks text → SpellsNameValue keep a n w v ks text
    to n w v ks text z = record {
      between = w;
      first = [];
      second = text;
      parts = refl;
      paid = one_charge 1 0;
      owed = z.owed;
      charges = z.charges ∙ ap (λ (js : List Charge). one_charge 1 0 ++ js) (sym (later_none z.owed));
      front = record { bits = refl; charges = refl; after = refl };
      behind = z.spelled;
    }

    from : (n : Named) (w v : Partitions) (ks : List Charge) (text : List Bool) → SpellsNameValue keep a n w v ks text → PaysFirst 1 (SpellsName keep a) n w v ks text
    from n w v ks text h =
        let parts : text ≡ h.second = h.parts ∙ ap (λ (t : List Bool). t ++ h.second) h.front.bits in
        let name : SpellsName keep a n w v h.owed h.second = subst (λ (p : Partitions). SpellsName keep a n p v h.owed h.second) h.front.after h.behind in
        record {
          owed = h.owed;
          charges = h.charges ∙ ap (λ (js : List Charge). js ++ later (length h.first) h.owed) h.front.charges ∙ ap (λ (t : List Bool). one_charge 1 0 ++ later (length t) h.owed) h.front.bits ∙ ap (λ (js : List Charge). one_charge 1 0 ++ js) (later_none h.owed);
          spelled = subst (λ (t : List Bool). SpellsName keep a n w v h.owed t) (sym parts) name;
        }

-- ---- a namespace declaration
module _ (a : Align) where
  abbrev declared : List ℕ → List ℕ → Bool → Declaration
  declared uri prefix element = record { uri = uri; prefix = prefix; element = element }

  abbrev FlagBits : List ℕ → List ℕ → Spelling Declaration
  FlagBits uri prefix = BehindValue (Below (width_for 2) a 2) (λ flag. IsPure (declared uri prefix (eqb flag 1)))

  item_flag : (uri prefix : List ℕ) → ContextItem {X = Declaration} a (λ c. failing c.context.meter (below_at 2 a kind.BadPlace c.spot) >>= λ flag. told {X = Declaration × ReadState} (declared uri prefix (eqb flag.0 1), at_spot_of c flag.1)) (FlagBits uri prefix)
  item_flag uri prefix = behind a (below_at 2 a kind.BadPlace) (λ flag c. told {X = Declaration × ReadState} (declared uri prefix (eqb flag 1), c)) (Below (width_for 2) a 2) (λ flag. IsPure (declared uri prefix (eqb flag 1)))
      (item_below 2 a kind.BadPlace) (λ flag. pure a (declared uri prefix (eqb flag 1)))

  abbrev flag_number : Bool → ℕ
  flag_number element = cond element 1 0

  told_flag : (n : ℕ) → n < 2 → n ≡ flag_number (eqb n 1)
  told_flag zero lt = refl
  told_flag (suc zero) lt = refl
  told_flag (suc (suc n)) lt = absurd (omega arith)

  flag_fits : (element : Bool) → Below (width_for 2) a 2 (flag_number element) (number 1 a (flag_number element))
  unfolding width_from
  flag_fits true = (refl, (refl, below_fits 2 1 a (omega arith)))
  flag_fits false = (refl, (refl, below_fits 2 0 a (omega arith)))

  flag_back : (element : Bool) → eqb (flag_number element) 1 ≡ element
  flag_back true = refl
  flag_back false = refl

  to_flag : (uri prefix : List ℕ) (d : Declaration) (w v : Partitions) (ks : List Charge) (text : List Bool) → FlagBits uri prefix d w v ks text → SpellsFlag a d.element w v ks text
  unfolding width_from
  to_flag uri prefix d w v ks text z =
      let h = z.spelled in
      let told : z.from ≡ flag_number d.element = told_flag z.from (ltb-true z.from 2 h.front.0) ∙ ap (λ (e : Declaration). flag_number e.element) h.behind.is in
      record {
        bits = h.parts ∙ ap (λ (t : List Bool). h.first ++ t) h.behind.nothing.bits ∙ append-nil h.first ∙ h.front.1.0 ∙ ap (λ (n : ℕ). number 1 a n) told;
        charges = h.charges ∙ ap (λ (js : List Charge). later (length h.first) js) h.behind.nothing.charges;
        after = h.behind.nothing.after;
      }

  from_flag : (uri prefix : List ℕ) (d : Declaration) (w v : Partitions) (ks : List Charge) (text : List Bool) → uri ≡ d.uri → prefix ≡ d.prefix → SpellsFlag a d.element w v ks text → FlagBits uri prefix d w v ks text
  unfolding width_from
  from_flag uri prefix d w v ks text e f h =
      let is : declared uri prefix (eqb (flag_number d.element) 1) ≡ d =
      ap (λ (x : List ℕ). declared x prefix (eqb (flag_number d.element) 1)) e ∙ ap (λ (x : List ℕ). declared d.uri x (eqb (flag_number d.element) 1)) f ∙ ap (λ (b : Bool). declared d.uri d.prefix b) (flag_back d.element) in
      record {
        from = flag_number d.element;
        spelled = record {
          first = number 1 a (flag_number d.element);
          second = [];
          parts = h.bits ∙ sym (append-nil (number 1 a (flag_number d.element)));
          owed = [];
          charges = h.charges;
          front = flag_fits d.element;
          behind = record { is = is; nothing = record { bits = refl; charges = refl; after = h.after } };
        };
      }

  abbrev DeclarationBits : Spelling Declaration
  DeclarationBits = Chained (SpellsUri a) (λ uri. Chained (SpellsNewPrefix a uri) (FlagBits uri))

  to_declaration : (d : Declaration) (w v : Partitions) (ks : List Charge) (text : List Bool) → DeclarationBits d w v ks text → SpellsDeclaration a d w v ks text
  to_declaration d w v ks text z =
      let h = z.spelled in
      let k = h.behind.spelled in
      let uri_is : z.from ≡ d.uri = ap (λ (e : Declaration). e.uri) k.behind.spelled.behind.is in
      let prefix_is : h.behind.from ≡ d.prefix = ap (λ (e : Declaration). e.prefix) k.behind.spelled.behind.is in
      let prefix_bits : SpellsNewPrefix a d.uri d.prefix h.between k.between k.paid k.first =
      subst (λ (x : List ℕ). SpellsNewPrefix a x d.prefix h.between k.between k.paid k.first) uri_is (subst (λ (x : List ℕ). SpellsNewPrefix a z.from x h.between k.between k.paid k.first) prefix_is k.front) in
      record {
        between = h.between;
        first = h.first;
        second = h.second;
        parts = h.parts;
        paid = h.paid;
        owed = h.owed;
        charges = h.charges;
        front = subst (λ (x : List ℕ). SpellsUri a x w h.between h.paid h.first) uri_is h.front;
        behind = record { between = k.between; first = k.first; second = k.second; parts = k.parts; paid = k.paid; owed = k.owed; charges = k.charges; front = prefix_bits; behind = to_flag z.from h.behind.from d k.between v k.owed k.second k.behind };
      }

  from_declaration : (d : Declaration) (w v : Partitions) (ks : List Charge) (text : List Bool) → SpellsDeclaration a d w v ks text → DeclarationBits d w v ks text
  from_declaration d w v ks text h =
      let k = h.behind in
      record {
        from = d.uri;
        spelled = record {
          between = h.between;
          first = h.first;
          second = h.second;
          parts = h.parts;
          paid = h.paid;
          owed = h.owed;
          charges = h.charges;
          front = h.front;
          behind = record {
            from = d.prefix;
            spelled = record { between = k.between; first = k.first; second = k.second; parts = k.parts; paid = k.paid; owed = k.owed; charges = k.charges; front = k.front; behind = from_flag d.uri d.prefix d k.between v k.owed k.second refl refl k.behind };
          };
        };
      }

  -- where the prefixes of a URI stand
  abbrev space_at : List ℕ → Partitions → ℕ
  space_at uri w = place_in (uris w) uri

  pub item_declaration : ContextItem {X = Declaration} a (declaration_at a) (SpellsDeclaration a)
  unfolding declaration_at declared_under
  item_declaration = in_words a (declaration_at a) DeclarationBits (SpellsDeclaration a) to_declaration from_declaration
      (chained a (uri_at a)
      (λ uri c. indexed_at a (prefixes c.context.tables (space_at uri c.context.tables)) (λ p. with_prefix p (space_at uri c.context.tables)) c >>= λ prefix. failing prefix.1.context.meter (below_at 2 a kind.BadPlace prefix.1.spot) >>= λ flag. told {X = Declaration × ReadState} (declared uri prefix.0 (eqb flag.0 1), at_spot_of prefix.1 flag.1))
      (SpellsUri a) (λ uri. Chained (SpellsNewPrefix a uri) (FlagBits uri))
      (item_uri a)
      (λ uri. chained a (λ c. indexed_at a (prefixes c.context.tables (space_at uri c.context.tables)) (λ p. with_prefix p (space_at uri c.context.tables)) c)
      (λ prefix c. failing c.context.meter (below_at 2 a kind.BadPlace c.spot) >>= λ flag. told {X = Declaration × ReadState} (declared uri prefix (eqb flag.0 1), at_spot_of c flag.1))
      (SpellsNewPrefix a uri) (FlagBits uri)
      (indexed_in a (λ w. prefixes w (space_at uri w)) (λ w p. with_prefix p (space_at uri w)))
      (item_flag uri)))
