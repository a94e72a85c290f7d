-- The bits of a production's code, where the production is kept as one of a built-in state or of the book.
use Rattle.std.proofs.Common.{◌≡◌, ◌<◌, ℕ, Bool, List, [], ◌∷◌, ◌++◌, length, map, Option, Some, None, true, refl, sym, ap, ◌∙◌, subst, inl, inr, append-nil}
use Rattle.std.specs.Prelude.{◌⊎◌, IfOk, OnOk, Result, Ok, Err}
use Rattle.std.specs.declared.alloc.AllocError.{AllocError}
use Rattle.exi_bits.specs.Bits.{bits, le_bytes, number_bits}
use Rattle.exi_bits.specs.Widths.{width_from}
use Rattle.exi_bits.specs.declared.align.Align.{Align}
use Rattle.exi_bits.specs.declared.align.Align.TheVariants as align
use Rattle.exi_builtin.specs.declared.learnable.Room.{Room}
use Rattle.exi_builtin.specs.LeastCodes.{IsCodeOf}
use Rattle.exi_builtin.specs.Learning.{IsRoom, Learning, productions}
use Rattle.exi_gram.specs.Books.{IsStateOf, state_at}
use Rattle.exi_gram.specs.Codes.{Coded, Productions, code_bits, coded}
use Rattle.exi_gram.specs.Laws.{codes}
use Rattle.exi_gram.specs.Switches.{align_of}
use Rattle.exi_gram.specs.Tables.{parts_at, parts_of, size}
use Rattle.exi_gram.specs.declared.code.Code.{Code}
use Rattle.exi_gram.specs.declared.options.Options.{Options}
use Rattle.exi_processing.specs.Configurations.{Setting, alone_rules, built_in, element_rules, in_book, outer_rules, rules_in, rules_of}
use Rattle.exi_processing.specs.Handing.{AreThere, IsThere, IsThereIn}
use Rattle.exi_processing.specs.Plans.{alone_in, nowhere}
use Rattle.exi_processing.specs.Rules.{Rule, book_rule, fragment_start}
use Rattle.exi_processing.specs.Stacks.{first_element}
use Rattle.exi_processing.specs.declared.frames.Element.{Element}
use Rattle.exi_processing.specs.declared.frames.Outer.{Outer}
use Rattle.exi_processing.specs.declared.frames.Outer.TheVariants as outer
use Rattle.exi_processing.specs.declared.frames.State.{State}
use Rattle.exi_processing.specs.declared.frames.State.TheVariants as state
use Rattle.exi_choice.specs.Choices.{Finds, IsWay, way_parts}
use Rattle.exi_choice.specs.Wanted.{Seeking}
use Rattle.exi_choice.specs.declared.found.Found.{Found}
use Rattle.exi_choice.specs.declared.choice.Way.{Way}
use Rattle.exi_choice.specs.declared.choice.Way.TheVariants as way
use Rattle.exi_pen.specs.Pages.{Page, with_bits}
use Rattle.exi_choice.proofs.BuiltIns.{as_coded, as_rule, built_in_codes, codes_in, coded_mapped}

parts_same : {X Y : Type 0} (f : X → Y) (cs : List (Coded X)) → map (λ c. c.parts) (map (as_coded f) cs) ≡ map (λ c. c.parts) cs
parts_same f [] = refl
parts_same f (c ∷ cs) = ap (λ (ps : List (List ℕ)). c.parts ∷ ps) (parts_same f cs)

pub built_in_same : (g : Setting) (l : Learning) (r : Room) → codes (built_in g l r) ≡ codes (productions g.options l r)
built_in_same g l r = ap (map (λ (c : Coded Rule). c.parts)) (built_in_codes g l r) ∙ parts_same (as_rule l r) (codes_in g.options l r)

pub book_same : (g : Setting) (grammar number : ℕ) → codes (in_book g grammar number) ≡ codes (state_at g grammar number)
book_same g grammar number = ap (map (λ (c : Coded Rule). c.parts)) (coded_mapped book_rule (state_at g grammar number)) ∙ parts_same book_rule (coded (state_at g grammar number))

pub start_bits : (a : Align) → code_bits a (codes fragment_start) (0 ∷ []) ≡ []
unfolding code_bits number_bits width_from bits le_bytes
start_bits align.Bits = refl
start_bits align.Bytes = refl

-- ---- outside of all elements, where a fragment begins
pub start_found : (g : Setting) (l : Learning) (wanted : Seeking) (o : Outer) (found : Option Found) → (o ≡ outer.FragmentStart) ⊎ (o ≡ outer.AloneStart) → Finds g l wanted fragment_start found → Finds g l wanted (outer_rules g l o) found
start_found g l wanted o found (inl e) h = subst (λ (z : Outer). Finds g l wanted (outer_rules g l z) found) (sym e) h
start_found g l wanted o found (inr e) h = subst (λ (z : Outer). Finds g l wanted (outer_rules g l z) found) (sym e) h

-- where its element is to come, and behind that
pub alone_there : (p q : Page) → p ≡ q → (p.config.outer ≡ outer.AloneFirst) ⊎ (p.config.outer ≡ outer.AloneOver) → IsThere q.setting q.config.outer → q.setting.schema.known ≡ true → IsStateOf q.setting 1 1
alone_there p q same (inl e) h = subst (λ (z : Outer). IsThere q.setting z) (ap (λ (z : Page). z.config.outer) (sym same) ∙ e) h
alone_there p q same (inr e) h = subst (λ (z : Outer). IsThere q.setting z) (ap (λ (z : Page). z.config.outer) (sym same) ∙ e) h

abbrev pub Finding : Type 0
Finding = Result (Option Found) AllocError

-- where memory was not refused
abbrev pub FindsIn : Setting → Learning → Seeking → Productions Rule → Finding → Type 0
FindsIn g l wanted rules r = IfOk r (λ found. Finds g l wanted rules found)

pub alone_found : (wanted : Seeking) (p q : Page) (r : Finding) → p ≡ q → (p.config.outer ≡ outer.AloneFirst) ⊎ (p.config.outer ≡ outer.AloneOver) → FindsIn q.setting q.config.learned wanted (alone_rules q.setting q.config.learned) r
    → FindsIn q.setting q.config.learned wanted (outer_rules q.setting q.config.learned q.config.outer) r
alone_found wanted p q r same (inl e) h = subst (λ (z : Outer). FindsIn q.setting q.config.learned wanted (outer_rules q.setting q.config.learned z) r) (sym (ap (λ (z : Page). z.config.outer) (sym same) ∙ e)) h
alone_found wanted p q r same (inr e) h = subst (λ (z : Outer). FindsIn q.setting q.config.learned wanted (outer_rules q.setting q.config.learned z) r) (sym (ap (λ (z : Page). z.config.outer) (sym same) ∙ e)) h

-- in the book, whatever is learned
found_for : (g : Setting) (l : Learning) (wanted : Seeking) (rules : Productions Rule) (r : Finding) → IfOk r (λ found. (k : Learning) → Finds g k wanted rules found) → FindsIn g l wanted rules r
found_for g l wanted rules (Ok found) h = h l
found_for g l wanted rules (Err e) h = tt

pub book_found : (wanted : Seeking) (p q : Page) (grammar number : ℕ) (r : Finding) → p ≡ q → p.config.outer ≡ outer.Book grammar number → IfOk r (λ found. (k : Learning) → Finds p.setting k wanted (in_book p.setting grammar number) found)
    → FindsIn q.setting q.config.learned wanted (outer_rules q.setting q.config.learned q.config.outer) r
book_found wanted p q grammar number r same e h =
    subst (λ (z : Page). FindsIn z.setting z.config.learned wanted (outer_rules z.setting z.config.learned z.config.outer) r) same
    (subst (λ (z : Outer). FindsIn p.setting p.config.learned wanted (outer_rules p.setting p.config.learned z) r) (sym e)
    (found_for p.setting p.config.learned wanted (in_book p.setting grammar number) r h))

-- where it is known of which rules
pub book_here : (wanted : Seeking) (p q : Page) (grammar number : ℕ) (r : Option Found) → p ≡ q → rules_of q.setting q.config ≡ in_book q.setting grammar number → ((k : Learning) → Finds p.setting k wanted (in_book p.setting grammar number) r)
    → Finds q.setting q.config.learned wanted (rules_of q.setting q.config) r
book_here wanted p q grammar number r same rules h =
    subst (λ (z : Productions Rule). Finds q.setting q.config.learned wanted z r) (sym rules)
    (subst (λ (z : Page). Finds z.setting z.config.learned wanted (in_book z.setting grammar number) r) same (h p.config.learned))

-- in an element
first_is : (a b : Element) → Some a ≡ Some b → a ≡ b
first_is a b k = cc

rules_first : (g : Setting) (l : Learning) (es : List Element) (o : Outer) (e : Element) → first_element es ≡ Some e → rules_in g l es o ≡ element_rules g l e.state
rules_first g l [] o e h = absurd cc
rules_first g l (x ∷ es) o e h = ap (λ (z : Element). element_rules g l z.state) (first_is x e h)

there_first : (g : Setting) (l : Learning) (es : List Element) (e : Element) → first_element es ≡ Some e → AreThere g l es → IsThereIn g l e.state
there_first g l [] e h k = absurd cc
there_first g l (x ∷ es) e h k = subst (λ (z : Element). IsThereIn g l z.state) (first_is x e h) k

rules_at : (p : Page) (e : Element) (s : State) → first_element p.config.elements ≡ Some e → e.state ≡ s → rules_of p.setting p.config ≡ element_rules p.setting p.config.learned s
rules_at p e s first there = rules_first p.setting p.config.learned p.config.elements p.config.outer e first ∙ ap (λ (z : State). element_rules p.setting p.config.learned z) there

pub built_in_here : (wanted : Seeking) (p q : Page) (e : Element) (room : Room) (o : Option Element) (r : Option Found) → p ≡ q → o ≡ first_element p.config.elements → o ≡ Some e → e.state ≡ state.BuiltIn room
    → Finds p.setting p.config.learned wanted (built_in p.setting p.config.learned room) r
    → Finds q.setting q.config.learned wanted (rules_of q.setting q.config) r
built_in_here wanted p q e room o r same first is there h =
    subst (λ (z : Page). Finds z.setting z.config.learned wanted (rules_of z.setting z.config) r) same
    (subst (λ (z : Productions Rule). Finds p.setting p.config.learned wanted z r) (sym (rules_at p e (state.BuiltIn room) (sym first ∙ is) there)) h)

-- where it is known of which rules
pub room_here : (wanted : Seeking) (p q : Page) (room : Room) (r : Option Found) → p ≡ q → rules_of q.setting q.config ≡ built_in q.setting q.config.learned room → Finds p.setting p.config.learned wanted (built_in p.setting p.config.learned room) r
    → Finds q.setting q.config.learned wanted (rules_of q.setting q.config) r
room_here wanted p q room r same rules h =
    subst (λ (z : Productions Rule). Finds q.setting q.config.learned wanted z r) (sym rules)
    (subst (λ (z : Page). Finds z.setting z.config.learned wanted (built_in z.setting z.config.learned room) r) same h)

pub room_rules : (p q : Page) (e : Element) (room : Room) (o : Option Element) → p ≡ q → o ≡ first_element p.config.elements → o ≡ Some e → e.state ≡ state.BuiltIn room
    → rules_of q.setting q.config ≡ built_in q.setting q.config.learned room
room_rules p q e room o same first is there =
    subst (λ (z : Page). rules_of z.setting z.config ≡ built_in z.setting z.config.learned room) same (rules_at p e (state.BuiltIn room) (sym first ∙ is) there)

inside_first : (es : List Element) (o : Outer) (e : Element) → first_element es ≡ Some e → alone_in es o ≡ nowhere
inside_first [] o e h = absurd cc
inside_first (x ∷ es) o e h = refl

pub room_inside : (p q : Page) (e : Element) (o : Option Element) → p ≡ q → o ≡ first_element p.config.elements → o ≡ Some e → alone_in q.config.elements q.config.outer ≡ nowhere
room_inside p q e o same first is =
    subst (λ (z : Page). alone_in z.config.elements z.config.outer ≡ nowhere) same (inside_first p.config.elements p.config.outer e (sym first ∙ is))

pub room_there : (p q : Page) (e : Element) (room : Room) (o : Option Element) → p ≡ q → o ≡ first_element p.config.elements → o ≡ Some e → e.state ≡ state.BuiltIn room
    → AreThere q.setting q.config.learned q.config.elements → IsRoom q.config.learned room
room_there p q e room o same first is there h =
    let k : first_element q.config.elements ≡ Some e = ap (λ (z : Page). first_element z.config.elements) (sym same) ∙ (sym first ∙ is) in
    subst (λ (z : State). IsThereIn q.setting q.config.learned z) there (there_first q.setting q.config.learned q.config.elements e k h)

pub informed_rules : (p q : Page) (e : Element) (grammar number : ℕ) (empty : Bool) (o : Option Element) → p ≡ q → o ≡ first_element p.config.elements → o ≡ Some e → e.state ≡ state.Informed grammar number empty
    → rules_of q.setting q.config ≡ in_book q.setting grammar number
informed_rules p q e grammar number empty o same first is there =
    subst (λ (z : Page). rules_of z.setting z.config ≡ in_book z.setting grammar number) same (rules_at p e (state.Informed grammar number empty) (sym first ∙ is) there)

pub informed_there : (p q : Page) (e : Element) (grammar number : ℕ) (empty : Bool) (o : Option Element) → p ≡ q → o ≡ first_element p.config.elements → o ≡ Some e → e.state ≡ state.Informed grammar number empty
    → AreThere q.setting q.config.learned q.config.elements → IsStateOf q.setting grammar number
informed_there p q e grammar number empty o same first is there h =
    let k : first_element q.config.elements ≡ Some e = ap (λ (z : Page). first_element z.config.elements) (sym same) ∙ (sym first ∙ is) in
    (subst (λ (z : State). IsThereIn q.setting q.config.learned z) there (there_first q.setting q.config.learned q.config.elements e k h)).0

-- outside of all elements
outside_first : (g : Setting) (l : Learning) (es : List Element) (o : Outer) → first_element es ≡ None → rules_in g l es o ≡ outer_rules g l o
outside_first g l [] o h = refl
outside_first g l (x ∷ es) o h = absurd cc

pub outside_rules : (p q : Page) (o : Option Element) → p ≡ q → o ≡ first_element p.config.elements → o ≡ None → rules_of q.setting q.config ≡ outer_rules q.setting q.config.learned q.config.outer
outside_rules p q o same first is =
    subst (λ (z : Page). rules_of z.setting z.config ≡ outer_rules z.setting z.config.learned z.config.outer) same (outside_first p.setting p.config.learned p.config.elements p.config.outer (sym first ∙ is))

-- ---- a way's code on a page
abbrev code_by : Page → Way → List Bool
code_by p w = code_bits (align_of p.setting.options) (codes (rules_of p.setting p.config)) (way_parts p.setting w)

abbrev is_way : Way → Page → Type 0
is_way w p = IsWay p.setting p.config.learned (rules_of p.setting p.config) w

-- these bits are written
abbrev page_with : Page → List Bool → Page
page_with p text = record { setting = p.setting; bits = text; config = record p.config { place = length text } }

none_more : (p : Page) → p.config.place ≡ length p.bits → with_bits p [] ≡ p
none_more p place = ap (page_with p) (append-nil p.bits) ∙ ap (λ (n : ℕ). record { setting = p.setting; bits = p.bits; config = record p.config { place = n } }) (sym place)

pub nothing_put : (p : Page) (w : Way) → p.config.place ≡ length p.bits → w ≡ way.Nothing → IsWay p.setting p.config.learned (rules_of p.setting p.config) w
    → p ≡ with_bits p (code_bits (align_of p.setting.options) (codes (rules_of p.setting p.config)) (way_parts p.setting w))
nothing_put p w place e is =
    let rules : rules_of p.setting p.config ≡ fragment_start = subst (λ (z : Way). is_way z p) e is in
    let none : code_by p w ≡ [] = ap (code_by p) e ∙ ap (λ (z : Productions Rule). code_bits (align_of p.setting.options) (codes z) (0 ∷ [])) rules ∙ start_bits (align_of p.setting.options) in
    sym (ap (with_bits p) none ∙ none_more p place)

put_by : (r : Result (Unit {0}) AllocError) (p : Page) (out text code : List Bool) → text ≡ code → OnOk r (out ≡ p.bits ++ text) → OnOk r (page_with p out ≡ with_bits p code)
put_by (Ok x) p out text code e put = ap (page_with p) (put ∙ ap (λ (z : List Bool). p.bits ++ z) e)
put_by (Err x) p out text code e put = tt

built_in_code : (p : Page) (w : Way) (r : Room) (code : Code) (o : Options) → o ≡ p.setting.options → w ≡ way.BuiltIn r code → is_way w p
    → code_bits (align_of o) (codes (productions o p.config.learned r)) (parts_of code) ≡ code_by p w
built_in_code p w r code o same e is =
    let known : IsRoom p.config.learned r × IsCodeOf (productions p.setting.options p.config.learned r) (parts_of code) × (rules_of p.setting p.config ≡ built_in p.setting p.config.learned r) = subst (λ (z : Way). is_way z p) e is in
    let all : codes (rules_of p.setting p.config) ≡ codes (productions p.setting.options p.config.learned r) = ap (λ (z : Productions Rule). codes z) known.2 ∙ built_in_same p.setting p.config.learned r in
    ap (λ (z : Options). code_bits (align_of z) (codes (productions z p.config.learned r)) (parts_of code)) same ∙ sym (ap (code_by p) e ∙ ap (λ (z : List (List ℕ)). code_bits (align_of p.setting.options) z (parts_of code)) all)

pub built_in_put : (done : Result (Unit {0}) AllocError) (p q : Page) (out : List Bool) (w : Way) (r : Room) (code : Code) (o : Options) → p ≡ q → o ≡ p.setting.options → w ≡ way.BuiltIn r code → IsWay q.setting q.config.learned (rules_of q.setting q.config) w
    → OnOk done (out ≡ p.bits ++ code_bits (align_of o) (codes (productions o p.config.learned r)) (parts_of code))
    → OnOk done (record { setting = p.setting; bits = out; config = record p.config { place = length out } } ≡ with_bits q (code_bits (align_of q.setting.options) (codes (rules_of q.setting q.config)) (way_parts q.setting w)))
built_in_put done p q out w r code o seen same e is put =
    let there : is_way w p = subst (is_way w) (sym seen) is in
    subst (λ (z : Page). OnOk done (page_with p out ≡ with_bits z (code_by z w))) seen (put_by done p out (code_bits (align_of o) (codes (productions o p.config.learned r)) (parts_of code)) (code_by p w) (built_in_code p w r code o same e there) put)

book_code : (p : Page) (w : Way) (grammar number place : ℕ) → w ≡ way.Book grammar number place → is_way w p
    → code_bits (align_of p.setting.options) (codes (state_at p.setting grammar number)) (parts_at (state_at p.setting grammar number) place) ≡ code_by p w
book_code p w grammar number place e is =
    let known : IsStateOf p.setting grammar number × (place < size (state_at p.setting grammar number)) × (rules_of p.setting p.config ≡ in_book p.setting grammar number) = subst (λ (z : Way). is_way z p) e is in
    let all : codes (rules_of p.setting p.config) ≡ codes (state_at p.setting grammar number) = ap (λ (z : Productions Rule). codes z) known.2 ∙ book_same p.setting grammar number in
    sym (ap (code_by p) e ∙ ap (λ (z : List (List ℕ)). code_bits (align_of p.setting.options) z (parts_at (state_at p.setting grammar number) place)) all)

pub book_put : (done : Result (Unit {0}) AllocError) (p q : Page) (out : List Bool) (w : Way) (grammar number place : ℕ) → p ≡ q → w ≡ way.Book grammar number place → IsWay q.setting q.config.learned (rules_of q.setting q.config) w
    → OnOk done (out ≡ p.bits ++ code_bits (align_of p.setting.options) (codes (state_at p.setting grammar number)) (parts_at (state_at p.setting grammar number) place))
    → OnOk done (record { setting = p.setting; bits = out; config = record p.config { place = length out } } ≡ with_bits q (code_bits (align_of q.setting.options) (codes (rules_of q.setting q.config)) (way_parts q.setting w)))
book_put done p q out w grammar number place seen e is put =
    let there : is_way w p = subst (is_way w) (sym seen) is in
    subst (λ (z : Page). OnOk done (page_with p out ≡ with_bits z (code_by z w))) seen (put_by done p out (code_bits (align_of p.setting.options) (codes (state_at p.setting grammar number)) (parts_at (state_at p.setting grammar number) place)) (code_by p w) (book_code p w grammar number place e there) put)
