-- The root of a fragment that is written by itself is the name of the element whose SE was written, to its end.
use Rattle.std.proofs.Common.{◌≡◌, ◌⊎◌, inl, inr, ℕ, Bool, true, false, List, [], ◌∷◌, Option, Some, refl, sym, ap, ◌∙◌, subst}
use Rattle.std.specs.Prelude.{Result, Ok}
use Rattle.exi_builtin.specs.declared.learnable.Learned.{Learned}
use Rattle.exi_builtin.specs.declared.learnable.Learned.TheVariants as used
use Rattle.exi_names.specs.declared.names.QName.{QName}
use Rattle.exi_names.specs.Events.{Happening}
use Rattle.exi_names.specs.Events as event
use Rattle.exi_processing.specs.Changes.{Effect, effect_of, effected, emptied, leads, learns_name, moved_elements, outer_behind, resumed, retyped, root_in, stays}
use Rattle.exi_processing.specs.Configurations.{Body, Config, Setting}
use Rattle.exi_processing.specs.OneEvent.{remembered}
use Rattle.exi_processing.specs.Plans.{Alone, Given, alone_in, at_end, at_first, at_start, ended_in, nowhere, plan_on, rooted_in}
use Rattle.exi_processing.specs.Rules.{Rule, Telling, Terminal, attribute, characters, comment, declaration, document_type, element, end_document, end_element, entity, instruction, known, self_contained, spelled, start_document, under}
use Rattle.exi_processing.specs.Runs.{has_ended}
use Rattle.exi_processing.specs.Spelled.{further}
use Rattle.exi_processing.specs.declared.frames.Element.{Element}
use Rattle.exi_processing.specs.declared.frames.Outer.{Outer}
use Rattle.exi_processing.specs.declared.frames.Outer.TheVariants as outer
use Rattle.exi_tables.specs.Partitions.{Partitions}
use Rattle.exi_typed.specs.Strings.{Named}
use Rattle.exi_writing.specs.Contents.{told_name, written_on}
use Rattle.exi_writing.specs.OneEvent.{Refused, Written, written}
use Rattle.exi_writing.specs.Pieces.{Piece, if_spelled}
use Rattle.exi_writing.specs.Runs.{Run, nothing_from, written_all}
use Rattle.exi_writing.proofs.OneEvent.{bind_parts, context, one_going}
use Rattle.exi_writer.proofs.Composed.{then_parts}
use Rattle.exi_writer.proofs.Moves.{made}

-- ---- behind the fragment's SD
pub record IsStarted (c : Config) : Type 0 where
  pub elements : c.elements ≡ []
  pub outer_is : c.outer ≡ outer.AloneFirst
  pub aside : c.aside ≡ []

moved_none : (to : ℕ) (es : List Element) → es ≡ [] → moved_elements to es ≡ []
moved_none to [] e = refl
moved_none to (x ∷ xs) e = absurd cc

made_start : (g : Setting) (a : Alone) (c d : Config) (r : Rule) (t : Terminal) (z : Piece (plan_on g a c r t).Item) → written_on g a c r t event.sd c.tables ≡ Some z → d.elements ≡ [] → d.outer ≡ outer.AloneStart → d.aside ≡ [] → IsStarted (remembered ((plan_on g a c r t).make z.item d)).1
made_start g a c d r start_document z h none at aside = record { elements = moved_none r.to d.elements none; outer_is = ap (λ (es : List Element). outer_behind r.to es d.outer) none ∙ ap (λ (o : Outer). outer_behind r.to [] o) at; aside = aside }
made_start g a c d r end_document z h none at aside = absurd cc
made_start g a c d r (element t) z h none at aside = absurd cc
made_start g a c d r (attribute t v) z h none at aside = absurd cc
made_start g a c d r (characters i) z h none at aside = absurd cc
made_start g a c d r end_element z h none at aside = absurd cc
made_start g a c d r declaration z h none at aside = absurd cc
made_start g a c d r self_contained z h none at aside = absurd cc
made_start g a c d r comment z h none at aside = absurd cc
made_start g a c d r instruction z h none at aside = absurd cc
made_start g a c d r document_type z h none at aside = absurd cc
made_start g a c d r entity z h none at aside = absurd cc

pub started : (g : Setting) (c : Config) (v : Written) → c.elements ≡ [] → c.outer ≡ outer.AloneStart → c.aside ≡ [] → written g c event.sd ≡ Ok v → IsStarted v.given.1
started g c v none at aside h =
    let m = made g c event.sd v h in
    let d : Config = further (record c { place = m.place }) m.bits (context m.meter m.piece.tables) in
    subst (λ (z : Given). IsStarted z.1) (sym m.given) (made_start g (alone_in c.elements c.outer) c d m.coded_rule.item m.coded_rule.item.on m.piece m.spelled_so none at aside)

-- ---- behind the SE of its element
pub record IsRooted (name : QName) (c : Config) : Type 0 where
  pub outer_is : c.outer ≡ outer.AloneOver
  pub aside : c.aside ≡ []
  pub root : c.root ≡ Some name

if_is : {X : Type 0} (b : Bool) (x z : Piece X) → if_spelled b x ≡ Some z → x ≡ z
if_is {X} true x z e = cc
if_is {X} false x z e = absurd cc

told_as : (g : Setting) (t : Telling) (n : QName) (p : Partitions) (z : Piece Named) → told_name g t n p ≡ Some z → z.item.name ≡ n
told_as g spelled n p z e = sym (ap (λ (x : Piece Named). x.item.name) (if_is _ _ z e))
told_as g (under uri) n p z e = sym (ap (λ (x : Piece Named). x.item.name) (if_is _ _ z e))
told_as g (known id) n p z e = sym (ap (λ (x : Piece Named). x.item.name) (if_is _ _ z e))

record Keeps (c d : Config) : Type 0 where
  elements : d.elements ≡ c.elements
  outer_is : d.outer ≡ c.outer
  aside : d.aside ≡ c.aside
  root : d.root ≡ c.root

learned_keeps : (t : Telling) (use_of : Learned) (c : Config) → Keeps c (learns_name t use_of c)
learned_keeps spelled use_of c = record { elements = refl; outer_is = refl; aside = refl; root = refl }
learned_keeps (under uri) use_of c = record { elements = refl; outer_is = refl; aside = refl; root = refl }
learned_keeps (known id) use_of c = record { elements = refl; outer_is = refl; aside = refl; root = refl }

made_root : (g : Setting) (c d : Config) (r : Rule) (t : Terminal) (n : QName) (z : Piece (plan_on g at_first c r t).Item) → written_on g at_first c r t (event.se n) c.tables ≡ Some z → IsStarted d → IsRooted n (remembered ((plan_on g at_first c r t).make z.item d)).1
made_root g c d r (element t) n z h k =
    let l = learned_keeps t (used.Se z.item.id) (rooted_in at_first z.item.name d) in
    record {
      outer_is = ap (λ (es : List Element). outer_behind r.to es (learns_name t (used.Se z.item.id) (rooted_in at_first z.item.name d)).outer) (l.elements ∙ k.elements) ∙ ap (λ (o : Outer). outer_behind r.to [] o) (l.outer_is ∙ k.outer_is);
      aside = l.aside ∙ k.aside;
      root = l.root ∙ ap (λ (bs : List Body). root_in bs z.item.name d.root) k.aside ∙ ap (λ (x : QName). Some x) (told_as g t n c.tables z h);
    }
made_root g c d r start_document n z h k = absurd cc
made_root g c d r end_document n z h k = absurd cc
made_root g c d r (attribute t v) n z h k = absurd cc
made_root g c d r (characters i) n z h k = absurd cc
made_root g c d r end_element n z h k = absurd cc
made_root g c d r declaration n z h k = absurd cc
made_root g c d r self_contained n z h k = absurd cc
made_root g c d r comment n z h k = absurd cc
made_root g c d r instruction n z h k = absurd cc
made_root g c d r document_type n z h k = absurd cc
made_root g c d r entity n z h k = absurd cc

alone_root : (g : Setting) (a : Alone) (c d : Config) (r : Rule) (n : QName) (z : Piece (plan_on g a c r r.on).Item) → a ≡ at_first → written_on g a c r r.on (event.se n) c.tables ≡ Some z → IsStarted d → IsRooted n (remembered ((plan_on g a c r r.on).make z.item d)).1
alone_root g at_first c d r n z is h k = made_root g c d r r.on n z h k
alone_root g nowhere c d r n z is h k = absurd cc
alone_root g at_start c d r n z is h k = absurd cc
alone_root g at_end c d r n z is h k = absurd cc

first_alone : (c : Config) → IsStarted c → alone_in c.elements c.outer ≡ at_first
first_alone c k = ap (λ (es : List Element). alone_in es c.outer) k.elements ∙ ap (λ (x : Outer). alone_in [] x) k.outer_is

pub rooted : (g : Setting) (c : Config) (n : QName) (v : Written) → IsStarted c → written g c (event.se n) ≡ Ok v → IsRooted n v.given.1
rooted g c n v k h =
    let m = made g c (event.se n) v h in
    let d : Config = further (record c { place = m.place }) m.bits (context m.meter m.piece.tables) in
    subst (λ (z : Given). IsRooted n z.1) (sym m.given) (alone_root g (alone_in c.elements c.outer) c d m.coded_rule.item n m.piece (first_alone c k) m.spelled_so record { elements = k.elements; outer_is = k.outer_is; aside = k.aside })

-- ---- it stays
-- the body at which writing began stands behind its element, whatever was put aside since
abbrev bottom : Outer → List Body → Outer
bottom o [] = o
bottom o (b ∷ bs) = bottom b.outer bs

abbrev pub IsOver : Config → Type 0
IsOver c = bottom c.outer c.aside ≡ outer.AloneOver

pub rooted_over : (c : Config) → c.outer ≡ outer.AloneOver → c.aside ≡ [] → IsOver c
rooted_over c o a = ap (λ (bs : List Body). bottom c.outer bs) a ∙ o

record Stays (root : Option QName) (d : Config) : Type 0 where
  same : d.root ≡ root
  over : IsOver d ⊎ (has_ended d ≡ true)

over_moved : (to : ℕ) (es : List Element) (o : Outer) → o ≡ outer.AloneOver → outer_behind to es o ≡ outer.AloneOver
over_moved to [] o e = ap (λ (x : Outer). outer_behind to [] x) e
over_moved to (x ∷ xs) o e = e

bottom_moved : (to : ℕ) (es : List Element) (o : Outer) (bs : List Body) → bottom o bs ≡ outer.AloneOver → bottom (outer_behind to es o) bs ≡ outer.AloneOver
bottom_moved to es o [] e = over_moved to es o e
bottom_moved to es o (b ∷ bs) e = e

over_none : {P : Type 0} → outer.AloneFirst ≡ outer.AloneOver → P
over_none {P} e = absurd cc

first_is : (es : List Element) (o : Outer) → alone_in es o ≡ at_first → o ≡ outer.AloneFirst
first_is [] (outer.Book grammar number) e = absurd cc
first_is [] outer.FragmentStart e = absurd cc
first_is [] outer.FragmentContent e = absurd cc
first_is [] outer.AloneStart e = absurd cc
first_is [] outer.AloneFirst e = refl
first_is [] outer.AloneOver e = absurd cc
first_is [] outer.Ended e = absurd cc
first_is (x ∷ xs) o e = absurd cc

root_at : (o : Outer) (bs : List Body) (name : QName) (root : Option QName) → o ≡ outer.AloneFirst → bottom o bs ≡ outer.AloneOver → root_in bs name root ≡ root
root_at o [] name root first over = over_none (sym first ∙ over)
root_at o (b ∷ bs) name root first over = refl

rooted_keeps : (a : Alone) (name : QName) (d : Config) → alone_in d.elements d.outer ≡ a → IsOver d → Keeps d (rooted_in a name d)
rooted_keeps nowhere name d is over = record { elements = refl; outer_is = refl; aside = refl; root = refl }
rooted_keeps at_start name d is over = record { elements = refl; outer_is = refl; aside = refl; root = refl }
rooted_keeps at_first name d is over = record { elements = refl; outer_is = refl; aside = refl; root = root_at d.outer d.aside name d.root (first_is d.elements d.outer is) over }
rooted_keeps at_end name d is over = record { elements = refl; outer_is = refl; aside = refl; root = refl }

keeps_over : (c d : Config) → Keeps c d → IsOver c → IsOver d
keeps_over c d k over = ap (λ (bs : List Body). bottom d.outer bs) k.aside ∙ ap (λ (o : Outer). bottom o c.aside) k.outer_is ∙ over

resumed_stays : (bs : List Body) (d : Config) → d.aside ≡ bs → IsOver d → Stays d.root (resumed bs d)
resumed_stays [] d is over = record { same = refl; over = inr refl }
resumed_stays (b ∷ bs) d is over = record { same = refl; over = inl (subst (λ (xs : List Body). bottom d.outer xs ≡ outer.AloneOver) is over) }

ended_stays : (a : Alone) (d : Config) → IsOver d → Stays d.root (ended_in a d)
ended_stays nowhere d over = record { same = refl; over = inr refl }
ended_stays at_start d over = resumed_stays d.aside d refl over
ended_stays at_first d over = resumed_stays d.aside d refl over
ended_stays at_end d over = resumed_stays d.aside d refl over

effected_stays : (e : Effect) (to : ℕ) (d : Config) → IsOver d → Stays d.root (effected e to d)
effected_stays leads to d over = record { same = refl; over = inl (bottom_moved to d.elements d.outer d.aside over) }
effected_stays (retyped grammar) to d over = record { same = refl; over = inl over }
effected_stays emptied to d over = record { same = refl; over = inl over }
effected_stays stays to d over = record { same = refl; over = inl over }

made_stays : (g : Setting) (a : Alone) (c d : Config) (r : Rule) (t : Terminal) (x : (plan_on g a c r t).Item) → alone_in d.elements d.outer ≡ a → IsOver d → Stays d.root (remembered ((plan_on g a c r t).make x d)).1
made_stays g a c d r start_document x is over = record { same = refl; over = inl (bottom_moved r.to d.elements d.outer d.aside over) }
made_stays g a c d r end_document x is over = let s = ended_stays a d over in record { same = s.same; over = s.over }
made_stays g a c d r (element t) x is over =
    let k = rooted_keeps a x.name d is over in
    let q = rooted_in a x.name d in
    let l = learned_keeps t (used.Se x.id) q in
    let f = learns_name t (used.Se x.id) q in
    record { same = l.root ∙ k.root; over = inl (bottom_moved r.to f.elements f.outer f.aside (keeps_over q f l (keeps_over d q k over))) }
made_stays g a c d r (attribute t v) x is over =
    let l = learned_keeps t (used.At x.0.id) d in
    let f = learns_name t (used.At x.0.id) d in
    let s = effected_stays (effect_of g v x.0.id x.1) r.to f (keeps_over d f l over) in
    record { same = s.same ∙ l.root; over = s.over }
made_stays g a c d r (characters i) x is over = record { same = refl; over = inl (bottom_moved r.to d.elements d.outer d.aside over) }
made_stays g a c d r end_element x is over = record { same = refl; over = inl over }
made_stays g a c d r declaration x is over = record { same = refl; over = inl (bottom_moved r.to d.elements d.outer d.aside over) }
made_stays g a c d r self_contained x is over = record { same = refl; over = inl over }
made_stays g a c d r comment x is over = record { same = refl; over = inl (bottom_moved r.to d.elements d.outer d.aside over) }
made_stays g a c d r instruction x is over = record { same = refl; over = inl (bottom_moved r.to d.elements d.outer d.aside over) }
made_stays g a c d r document_type x is over = record { same = refl; over = inl (bottom_moved r.to d.elements d.outer d.aside over) }
made_stays g a c d r entity x is over = record { same = refl; over = inl (bottom_moved r.to d.elements d.outer d.aside over) }

one_stays : (g : Setting) (c : Config) (e : Happening) (v : Written) → IsOver c → written g c e ≡ Ok v → Stays c.root v.given.1
one_stays g c e v over h =
    let m = made g c e v h in
    let d : Config = further (record c { place = m.place }) m.bits (context m.meter m.piece.tables) in
    subst (λ (z : Given). Stays c.root z.1) (sym m.given) (made_stays g (alone_in c.elements c.outer) c d m.coded_rule.item m.coded_rule.item.on m.piece.item refl over)

abbrev pub given_run : Run → Result Run Refused
given_run r = Ok r

pub run_is : (a b : Run) → given_run a ≡ given_run b → a ≡ b
run_is a b e = cc

pub true_false : {P : Type 0} (b : Bool) → b ≡ true → b ≡ false → P
true_false {P} true e f = absurd cc
true_false {P} false e f = absurd cc

-- nothing is written behind the end
none_behind : (g : Setting) (es : List Happening) (c : Config) (r : Run) → has_ended c ≡ true → written_all g c es ≡ Ok r → r.last ≡ c
none_behind g [] c r ended h = sym (ap (λ (x : Run). x.last) (run_is (nothing_from c) r h))
none_behind g (e ∷ es) c r ended h = let a = bind_parts (written g c e) _ r h in true_false (has_ended c) ended (one_going g c e a.0 a.1)

root_behind : (g : Setting) (es : List Happening) (c : Config) (r : Run) → (IsOver c → r.last.root ≡ c.root) → IsOver c ⊎ (has_ended c ≡ true) → written_all g c es ≡ Ok r → r.last.root ≡ c.root
root_behind g es c r more (inl over) h = more over
root_behind g es c r more (inr ended) h = ap (λ (x : Config). x.root) (none_behind g es c r ended h)

pub root_stays : (g : Setting) (es : List Happening) (c : Config) (r : Run) → IsOver c → written_all g c es ≡ Ok r → r.last.root ≡ c.root
root_stays g [] c r over h = sym (ap (λ (x : Run). x.last.root) (run_is (nothing_from c) r h))
root_stays g (e ∷ es) c r over h =
    let a = bind_parts (written g c e) _ r h in
    let v = a.0 in
    let t = then_parts v (written_all g v.given.1 es) r a.2 in
    let s = one_stays g c e v over a.1 in
    ap (λ (x : Run). x.last.root) t.2 ∙ root_behind g es v.given.1 t.0 (λ o. root_stays g es v.given.1 t.0 o t.1) s.over t.1 ∙ s.same
