-- One event of a list, in the words of the definition of writing: what the pen wrote of it, and what a fragment has of its own
-- behind it.
use Rattle.std.proofs.Common.{◌≡◌, ◌≢◌, ◌⊎◌, inl, inr, ℕ, Bool, true, false, cond, List, [], ◌∷◌, ◌++◌, Option, Some, None, refl, sym, ap, ◌∙◌, subst, append_assoc, append-nil}
use Rattle.std.specs.Prelude.{Result, Ok, Err, OnOk, OnErr}
use Rattle.std.proofs.lemmas.List.Elements.{All-head}
use Rattle.exi_builtin.specs.Learning.{Learning}
use Rattle.exi_gram.specs.declared.options.Options.{Options}
use Rattle.exi_meter.specs.Metering.{Metering}
use Rattle.exi_names.specs.Events.{Happening}
use Rattle.exi_names.specs.Events as event
use Rattle.exi_names.specs.declared.names.QName.{QName}
use Rattle.exi_pen.specs.Pages.{IsReady, Page, Writes, WritesFragment, by_chosen, fragment_page, page_behind, refused_meter, refused_page}
use Rattle.exi_pen.specs.Steps.{StepsAs, begins_fragment, left_of}
use Rattle.exi_processing.proofs.Steady.{open_name}
use Rattle.exi_processing.specs.Changes.{has_level, innermost, put_aside, texts_of}
use Rattle.exi_processing.specs.Configurations.{Body, Config, Setting}
use Rattle.exi_processing.specs.Handing.{alone_of, fragment_in}
use Rattle.exi_processing.specs.OneEvent.{one}
use Rattle.exi_processing.specs.Plans.{Alone, alone_in, at_end, at_first, at_start, nowhere}
use Rattle.exi_processing.specs.Runs.{has_ended}
use Rattle.exi_processing.specs.Sound.{IsSound, IsSoundAside}
use Rattle.exi_processing.specs.Splices.{AtFragment}
use Rattle.exi_processing.specs.declared.alone.Alone.{Alone as Kept}
use Rattle.exi_processing.specs.declared.alone.Alone.TheVariants as kept
use Rattle.exi_processing.specs.declared.frames.Element.{Element}
use Rattle.exi_processing.specs.declared.frames.Outer.{Outer}
use Rattle.exi_processing.specs.declared.frames.Outer.TheVariants as outer
use Rattle.exi_processing.specs.declared.start.Start.{Start}
use Rattle.exi_tables.specs.Partitions.{IsName, Partitions}
use Rattle.exi_toll.specs.declared.stop.PutStop.{PutStop}
use Rattle.exi_toll.specs.declared.stop.PutStop.TheVariants as stop
use Rattle.exi_writing.specs.Laws.{OneIsRead}
use Rattle.exi_writing.specs.OneEvent.{Refused, Written, ◌>>=◌, limit, not_derived, written}
use Rattle.exi_writing.specs.Pruned.{pruned, pruned_name}
use Rattle.exi_writing.specs.Runs.{Run, in_front, nothing_from, own, put, then_run, written_all}
use Rattle.exi_writing.proofs.OneEvent.{one_going}
use Rattle.exi_writer.proofs.Composed.{composed_on, composed_same, fragment_at, may_all, may_same, ready}
use Rattle.exi_writer.proofs.Moves.{Away, begin_goes, end_goes, next_away, sc_given, start_goes}
use Rattle.exi_writer.proofs.Names.{fragment_again, name_aside}
use Rattle.exi_writer.specs.Writing.{Composes, Composing, IsAtFragment, IsComposed, IsUncharged, MayGoOn, PutsOne, WritesAll, can_be_named, closing_events, closing_in, composed_behind, composing_at, page_after, put_so_far}

-- ---- events one after another
pub all_refused : (g : Setting) (c : Config) (e : Happening) (es : List Happening) (why : Refused) → written g c e ≡ Err why → written_all g c (e ∷ es) ≡ Err why
all_refused g c e es why h = ap (λ (z : Result Written Refused). z >>= (λ w. then_run w (written_all g w.given.1 es))) h

pub all_then : (g : Setting) (c : Config) (e : Happening) (es : List Happening) (v : Written) (o : Result Run Refused) → written g c e ≡ Ok v → written_all g v.given.1 es ≡ o → written_all g c (e ∷ es) ≡ then_run v o
all_then g c e es v o h k = ap (λ (z : Result Written Refused). z >>= (λ w. then_run w (written_all g w.given.1 es))) h ∙ ap (then_run v) k

pub put_refused : (g : Setting) (c : Config) (e : Happening) (why : Refused) → written g c e ≡ Err why → put g c e ≡ Err why
unfolding put
put_refused g c e why h = ap (λ (z : Result Written Refused). z >>= (λ w. then_run w (written_all g w.given.1 (own w.given.1)))) h

pub put_behind : (g : Setting) (c : Config) (e : Happening) (v : Written) (o : Result Run Refused) → written g c e ≡ Ok v → written_all g v.given.1 (own v.given.1) ≡ o → put g c e ≡ then_run v o
unfolding put
put_behind g c e v o h k = ap (λ (z : Result Written Refused). z >>= (λ w. then_run w (written_all g w.given.1 (own w.given.1)))) h ∙ ap (then_run v) k

nothing_behind : (xs ys : List Bool) → xs ++ (ys ++ []) ≡ xs ++ ys
nothing_behind xs ys = ap (λ (z : List Bool). xs ++ z) (append-nil ys)

-- none
pub writes_none : (p : Page) → WritesAll {X = Unit {0}} (Ok tt) p p (written_all p.setting p.config [])
writes_none p = (nothing_from p.config, refl, ap (λ (z : List Bool). record { setting = p.setting; bits = z; config = p.config }) (sym (append-nil p.bits)))

-- one
pub writes_one : (res : Result (Unit {0}) PutStop) (p q : Page) (e : Happening) → Writes res p q (written p.setting p.config e) → WritesAll res p q (written_all p.setting p.config (e ∷ []))
writes_one (Ok x) p q e h = (in_front h.0 (nothing_from h.0.given.1), all_then p.setting p.config e [] h.0 (Ok (nothing_from h.0.given.1)) h.1 refl, h.2 ∙ ap (λ (z : List Bool). record { setting = p.setting; bits = z; config = h.0.given.1 }) (sym (nothing_behind p.bits h.0.bits)))
writes_one (Err stop.NotDerived) p q e h = all_refused p.setting p.config e [] not_derived h.0
writes_one (Err (stop.Limit k)) p q e h = all_refused p.setting p.config e [] (limit k q.config.meter) h
writes_one (Err stop.Memory) p q e h = tt

-- and others behind it
pub writes_more : (res : Result (Unit {0}) PutStop) (p q r : Page) (e : Happening) (es : List Happening) (v : Written) → written p.setting p.config e ≡ Ok v → q ≡ page_behind p v → WritesAll res q r (written_all p.setting v.given.1 es) → WritesAll res p r (written_all p.setting p.config (e ∷ es))
writes_more (Ok x) p q r e es v h is more = (
  in_front v more.0,
  all_then p.setting p.config e es v (Ok more.0) h more.1,
  more.2 ∙ (ap (λ (z : Page). page_after z more.0) is ∙ ap (λ (z : List Bool). record { setting = p.setting; bits = z; config = more.0.last }) (append_assoc p.bits v.bits more.0.bits)),
)
writes_more (Err stop.NotDerived) p q r e es v h is more = all_then p.setting p.config e es v (Err not_derived) h more
writes_more (Err (stop.Limit k)) p q r e es v h is more = all_then p.setting p.config e es v (Err (limit k r.config.meter)) h more
writes_more (Err stop.Memory) p q r e es v h is more = tt

pub writes_stop : (s : PutStop) (p q : Page) (e : Happening) (es : List Happening) → Writes {X = Unit {0}} (Err s) p q (written p.setting p.config e) → WritesAll {X = Unit {0}} (Err s) p q (written_all p.setting p.config (e ∷ es))
writes_stop stop.NotDerived p q e es h = all_refused p.setting p.config e es not_derived h.0
writes_stop (stop.Limit k) p q e es h = all_refused p.setting p.config e es (limit k q.config.meter) h
writes_stop stop.Memory p q e es h = tt

-- ---- by the production that is chosen, where it goes on
pub by_going : (p : Page) (e : Happening) → has_ended p.config ≡ false → by_chosen p.setting p.config e ≡ written p.setting p.config e
unfolding written
by_going p e going = rw going refl

-- behind one event it may go on
pub page_may : OneIsRead → (p q : Page) (e : Happening) (v : Written) → MayGoOn (composing_at p) → written p.setting p.config e ≡ Ok v → q ≡ page_behind p v → MayGoOn (composing_at q)
page_may law p q e v k h is going = composed_on law (composing_at p) (composing_at q) e v (k (one_going p.setting p.config e v h)) h (ap (λ (z : Page). z.setting) is) (ap (λ (z : Page). z.bits) is) (ap (λ (z : Page). z.config) is) (ap (λ (z : Page). has_ended z.config) (sym is) ∙ going)

-- ---- the start of a fragment
pub started_ready : OneIsRead → (p q : Page) (v : Written) → alone_in p.config.elements p.config.outer ≡ at_start → IsComposed (composing_at p) → written p.setting p.config event.sd ≡ Ok v → q ≡ page_behind p v → IsReady q
started_ready law p q v at k h is =
    let goes : has_ended v.given.1 ≡ false = start_goes p.setting p.config event.sd v at h in
    ready (composing_at q) q (page_may law p q event.sd v (λ going. k) h is (ap (λ (z : Page). has_ended z.config) is ∙ goes)) refl

-- ---- what the fragment has of its own
own_at : (start : Start) (place : ℕ) (meter : Metering) (tables : Partitions) (es : List Element) (o : Outer) (learned : Learning) (after_start : Bool) (root : Option QName) (aside : List Body) → Away es o → own (record { start = start; place = place; meter = meter; tables = tables; elements = es; outer = o; learned = learned; after_start = after_start; root = root; aside = aside }) ≡ closing_events (record { start = start; place = place; meter = meter; tables = tables; elements = es; outer = o; learned = learned; after_start = after_start; root = root; aside = aside })
own_at start place meter tables (e ∷ es) o learned after_start root aside away = refl
own_at start place meter tables [] (outer.Book grammar number) learned after_start root aside away = refl
own_at start place meter tables [] outer.FragmentStart learned after_start root aside away = refl
own_at start place meter tables [] outer.FragmentContent learned after_start root aside away = refl
own_at start place meter tables [] outer.AloneStart learned after_start root aside away = absurd (away refl)
own_at start place meter tables [] outer.AloneFirst learned after_start root aside away = refl
own_at start place meter tables [] outer.AloneOver learned after_start root aside away = refl
own_at start place meter tables [] outer.Ended learned after_start root aside away = refl

own_closing : (c : Config) → Away c.elements c.outer → own c ≡ closing_events c
own_closing c away = own_at c.start c.place c.meter c.tables c.elements c.outer c.learned c.after_start c.root c.aside away

-- ---- what a writer stands for
abbrev pub view : Page → Bool → Composing
view p w = record { setting = p.setting; bits = p.bits; config = fragment_in w p.setting p.config; waits = w }

pub no_wait : {P : Type 0} → true ≡ false → P
no_wait e = absurd cc

goes_by : (p : Page) (w : Bool) (r : Composing) → view p w ≡ r → r.waits ≡ false → w ≡ false
goes_by p w r e h = ap (λ (z : Composing). z.waits) e ∙ h

pub put_ready : (p : Page) (w : Bool) (r : Composing) → view p w ≡ r → r.waits ≡ false → MayGoOn r → has_ended p.config ≡ false → IsReady p
put_ready p true r e h k going = no_wait (goes_by p true r e h)
put_ready p false r e h k going = ready (view p false) p (subst MayGoOn (sym e) k going) refl

-- ---- what the options leave begins a fragment where the event does
left_begins : (o : Options) (h : Happening) → begins_fragment (left_of o h) ≡ begins_fragment h
left_begins o event.sd = refl
left_begins o event.ed = refl
left_begins o (event.se n) = refl
left_begins o event.ee = refl
left_begins o (event.at n v) = refl
left_begins o (event.ch v) = refl
left_begins o (event.ns uri prefix own) = refl
left_begins o (event.sc byte) = refl
left_begins o (event.cm x) = refl
left_begins o (event.pi target x) = refl
left_begins o (event.dt n public system x) = refl
left_begins o (event.er n) = refl

begins_is : (h : Happening) → begins_fragment h ≡ true → (byte : ℕ) × (h ≡ event.sc byte)
begins_is (event.sc byte) e = (byte, refl)
begins_is event.sd e = absurd cc
begins_is event.ed e = absurd cc
begins_is (event.se n) e = absurd cc
begins_is event.ee e = absurd cc
begins_is (event.at n v) e = absurd cc
begins_is (event.ch v) e = absurd cc
begins_is (event.ns uri prefix own) e = absurd cc
begins_is (event.cm x) e = absurd cc
begins_is (event.pi target x) e = absurd cc
begins_is (event.dt n public system x) e = absurd cc
begins_is (event.er n) e = absurd cc

-- ---- refusals
far_by : (g : Setting) (c : Config) (e : Happening) (why : Refused) (b : Bool) → written g c e ≡ Err why → cond b (written_all g c (e ∷ [])) (put g c e) ≡ Err why
far_by g c e why true h = all_refused g c e [] why h
far_by g c e why false h = put_refused g c e why h

far_refused : (g : Setting) (c : Config) (e : Happening) (why : Refused) → written g c e ≡ Err why → put_so_far g c e ≡ Err why
far_refused g c e why h = far_by g c e why (begins_fragment e) h

ended_none : (g : Setting) (c : Config) (e : Happening) → has_ended c ≡ true → written g c e ≡ Err not_derived
unfolding written
ended_none g c e h = rw h refl

puts_some : (res : Result Bool PutStop) (old new : Composing) (o : Option Happening) (e : Happening) → o ≡ Some e → PutsOne res old new (Some e) → PutsOne res old new o
puts_some res old new o e h k = subst (λ (z : Option Happening). PutsOne res old new z) (sym h) k

pub puts_ended : (p : Page) (w : Bool) (r new : Composing) (o : Option Happening) (e : Happening) → view p w ≡ r → r.waits ≡ false → has_ended p.config ≡ true → o ≡ Some e → PutsOne (Err stop.NotDerived) r new o
puts_ended p true r new o e is h ended left = no_wait (goes_by p true r is h)
puts_ended p false r new o e is h ended left =
    puts_some (Err stop.NotDerived) r new o e left (subst (λ (z : Composing). PutsOne (Err stop.NotDerived) z new (Some e)) is (far_refused p.setting p.config e not_derived (ended_none p.setting p.config e ended), tt))

-- the pen's stop
stopped_at : (s : PutStop) (b : Bool) (p q : Page) (e : Happening) → StepsAs b (Err s) p q (written p.setting p.config e) → PutsOne (Err s) (view p false) (view q false) (Some e)
stopped_at stop.NotDerived true p q e h = (far_refused p.setting p.config e not_derived h.0, tt)
stopped_at stop.NotDerived false p q e h = (far_refused p.setting p.config e not_derived h.0, tt)
stopped_at (stop.Limit k) true p q e h = (far_refused p.setting p.config e (limit k q.config.meter) h, tt)
stopped_at (stop.Limit k) false p q e h = (far_refused p.setting p.config e (limit k q.config.meter) h, tt)
stopped_at stop.Memory b p q e h = (tt, tt)

pub puts_stopped : (s : PutStop) (b : Bool) (p q : Page) (w : Bool) (r : Composing) (o : Option Happening) (e : Happening) → view p w ≡ r → r.waits ≡ false → o ≡ Some e → StepsAs b (Err s) p q (written p.setting p.config e) → PutsOne (Err s) r (view q w) o
puts_stopped s b p q true r o e is h left k = no_wait (goes_by p true r is h)
puts_stopped s b p q false r o e is h left k = puts_some (Err s) r (view q false) o e left (subst (λ (z : Composing). PutsOne (Err s) z (view q false) (Some e)) is (stopped_at s b p q e k))

-- ---- SC
sc_far : (p : Page) (e : Happening) (v : Written) (b : Bool) → b ≡ true → written p.setting p.config e ≡ Ok v → cond b (written_all p.setting p.config (e ∷ [])) (put p.setting p.config e) ≡ Ok (in_front v (nothing_from v.given.1))
sc_far p e v true is h = all_then p.setting p.config e [] v (Ok (nothing_from v.given.1)) h refl
sc_far p e v false is h = no_wait (sym is)

sc_behind : (p q : Page) (v : Written) (b : Bool) → b ≡ true → fragment_page q ≡ page_behind p v → view q true ≡ composed_behind (view p false) (in_front v (nothing_from v.given.1)) b
sc_behind p q v b is h = rw is (ap (λ (z : Page). record { setting = z.setting; bits = z.bits; config = z.config; waits = true }) h ∙ ap (λ (z : List Bool). record { setting = p.setting; bits = z; config = v.given.1; waits = true }) (sym (nothing_behind p.bits v.bits)))

sc_at : (p q : Page) (e : Happening) → begins_fragment e ≡ true → WritesFragment (Ok true) p q (written p.setting p.config e) → PutsOne (Ok true) (view p false) (view q true) (Some e)
sc_at p q e is h = ((in_front h.0 (nothing_from h.0.given.1), sc_far p e h.0 (begins_fragment e) is h.1, sc_behind p q h.0 (begins_fragment e) is h.2), sym is)

pub puts_sc : (b : Bool) (p q : Page) (w : Bool) (r : Composing) (o : Option Happening) (h : Happening) → view p w ≡ r → r.waits ≡ false → o ≡ Some (left_of p.setting.options h) → true ≡ b → b ≡ begins_fragment h → StepsAs b (Ok true) p q (written p.setting p.config (left_of p.setting.options h)) → PutsOne (Ok true) r (view q true) o
puts_sc b p q true r o h is g left t told k = no_wait (goes_by p true r is g)
puts_sc false p q false r o h is g left t told k = no_wait t
puts_sc true p q false r o h is g left t told k =
    let e : Happening = left_of p.setting.options h in
    puts_some (Ok true) r (view q true) o e left (subst (λ (z : Composing). PutsOne (Ok true) z (view q true) (Some e)) is (sc_at p q e (left_begins p.setting.options h ∙ sym told) k))

-- the fragment at which it then stands
sc_composed : OneIsRead → (p q : Page) (e : Happening) (v : Written) → MayGoOn (view p false) → written p.setting p.config e ≡ Ok v → fragment_page q ≡ page_behind p v → IsComposed (view q true)
sc_composed law p q e v k h is = composed_on law (view p false) (view q true) e v (k (one_going p.setting p.config e v h)) h (ap (λ (z : Page). z.setting) is) (ap (λ (z : Page). z.bits) is) (ap (λ (z : Page). z.config) is) (ap (λ (z : Page). has_ended z.config) (sym is))

sc_fragment : OneIsRead → (p q : Page) (byte : ℕ) (v : Written) → MayGoOn (view p false) → written p.setting p.config (event.sc byte) ≡ Ok v → fragment_page q ≡ page_behind p v → IsAtFragment (view q true)
sc_fragment law p q byte v k h is =
    let here : IsComposed (view p false) = k (one_going p.setting p.config (event.sc byte) v h) in
    let given = sc_given p.setting p.config byte v h in
    let same : p.setting ≡ q.setting = ap (λ (z : Page). z.setting) (sym is) in
    let next : v.given.1 ≡ put_aside p.setting q.config = ap (λ (z : Page). z.config) (sym is) ∙ ap (λ (g : Setting). put_aside g q.config) (sym same) in
    let at = fragment_at law (view p false) (event.sc byte) v given.0 q.config here h given.1 next in
    let there : AtFragment q.setting at.0 (put_aside q.setting q.config) = subst (λ (g : Setting). AtFragment g at.0 (put_aside g q.config)) same at.1 in
    let named = fragment_again p.setting p.config q.config byte v here.named h next in
    record {
      composed = sc_composed law p q (event.sc byte) v k h is;
      byte = at.0;
      at = there;
      named = ap (λ (z : List Body). can_be_named (name_aside z)) (sym there.aside) ∙ named;
    }

sc_is : OneIsRead → (p q : Page) (e : Happening) → begins_fragment e ≡ true → MayGoOn (view p false) → WritesFragment (Ok true) p q (written p.setting p.config e) → IsAtFragment (view q true)
sc_is law p q e is k h =
    let s = begins_is e is in
    sc_fragment law p q s.0 h.0 k (ap (λ (z : Happening). written p.setting p.config z) (sym s.1) ∙ h.1) h.2

pub puts_at_fragment : OneIsRead → (b : Bool) (p q : Page) (w : Bool) (r : Composing) (h : Happening) → view p w ≡ r → r.waits ≡ false → MayGoOn r → true ≡ b → b ≡ begins_fragment h → StepsAs b (Ok true) p q (written p.setting p.config (left_of p.setting.options h)) → IsAtFragment (view q true)
puts_at_fragment law b p q true r h is g k t told s = no_wait (goes_by p true r is g)
puts_at_fragment law false p q false r h is g k t told s = no_wait t
puts_at_fragment law true p q false r h is g k t told s = sc_is law p q (left_of p.setting.options h) (left_begins p.setting.options h ∙ sym told) (subst MayGoOn (sym is) k) s

-- ---- any other event
-- it was written
pub plain_written : (x b : Bool) (p q : Page) (e : Happening) → x ≡ false → x ≡ b → StepsAs b (Ok x) p q (written p.setting p.config e) → Writes {X = Unit {0}} (Ok tt) p q (written p.setting p.config e)
plain_written x true p q e f is s = no_wait (sym is ∙ f)
plain_written x false p q e f is s = s

pub leaves_ready : OneIsRead → (p q : Page) (w : Bool) (r : Composing) (e : Happening) → view p w ≡ r → r.waits ≡ false → MayGoOn r → Writes {X = Unit {0}} (Ok tt) p q (written p.setting p.config e) → alone_in q.config.elements q.config.outer ≡ at_end → IsReady q
leaves_ready law p q true r e is g k s at = no_wait (goes_by p true r is g)
leaves_ready law p q false r e is g k s at =
    ready (composing_at q) q (page_may law p q e s.0 (subst MayGoOn (sym is) k) s.1 s.2 (end_goes q.config.elements q.config.outer at)) refl

-- what it has of its own behind it is what is written behind it
own_of : (p q : Page) (e : Happening) (v : Written) → IsSound p.setting p.config → begins_fragment e ≡ false → written p.setting p.config e ≡ Ok v → q ≡ page_behind p v → written_all q.setting q.config (closing_events q.config) ≡ written_all p.setting v.given.1 (own v.given.1)
own_of p q e v sound plain h is =
    ap (λ (z : Page). written_all z.setting z.config (closing_events z.config)) is ∙ ap (λ (es : List Happening). written_all p.setting v.given.1 es) (sym (own_closing v.given.1 (next_away p.setting p.config e v sound plain h)))

plain_far : (g : Setting) (c : Config) (e : Happening) → begins_fragment e ≡ false → put_so_far g c e ≡ put g c e
plain_far g c e h = rw h refl

plain_put : (res : Result (Unit {0}) PutStop) (p q r : Page) (e : Happening) (v : Written) → begins_fragment e ≡ false → written p.setting p.config e ≡ Ok v → q ≡ page_behind p v → WritesAll res q r (written_all p.setting v.given.1 (own v.given.1)) → Composes res (view p false) (view r false) false (put p.setting p.config e)
plain_put (Ok x) p q r e v plain h is more = (
  in_front v more.0,
  put_behind p.setting p.config e v (Ok more.0) h more.1,
  ap (λ (z : Page). view z false) more.2 ∙ (ap (λ (z : Page). view (page_after z more.0) false) is ∙ ap (λ (z : List Bool). record { setting = p.setting; bits = z; config = more.0.last; waits = false }) (append_assoc p.bits v.bits more.0.bits)),
)
plain_put (Err stop.NotDerived) p q r e v plain h is more = put_behind p.setting p.config e v (Err not_derived) h more
plain_put (Err (stop.Limit k)) p q r e v plain h is more = put_behind p.setting p.config e v (Err (limit k r.config.meter)) h more
plain_put (Err stop.Memory) p q r e v plain h is more = tt

-- no SC: false is answered
abbrev answered : Result (Unit {0}) PutStop → Result Bool PutStop
answered (Ok x) = Ok false
answered (Err s) = Err s

one_of : (res : Result (Unit {0}) PutStop) (old new : Composing) (e : Happening) → begins_fragment e ≡ false → Composes res old new false (put old.setting old.config e) → PutsOne (answered res) old new (Some e)
one_of (Ok x) old new e plain h = (rw (plain_far old.setting old.config e plain, plain) h, sym plain)
one_of (Err stop.NotDerived) old new e plain h = (plain_far old.setting old.config e plain ∙ h, tt)
one_of (Err (stop.Limit k)) old new e plain h = (plain_far old.setting old.config e plain ∙ h, tt)
one_of (Err stop.Memory) old new e plain h = (tt, tt)

plain_at : (res : Result (Unit {0}) PutStop) (p q r : Page) (e : Happening) → MayGoOn (view p false) → begins_fragment e ≡ false → Writes {X = Unit {0}} (Ok tt) p q (written p.setting p.config e) → WritesAll res q r (written_all q.setting q.config (closing_events q.config)) → PutsOne (answered res) (view p false) (view r false) (Some e)
plain_at res p q r e k plain s more =
    let here : IsReady p = ready (view p false) p (k (one_going p.setting p.config e s.0 s.1)) refl in
    one_of res (view p false) (view r false) e plain (plain_put res p q r e s.0 plain s.1 s.2 (subst (λ (z : Result Run Refused). WritesAll res q r z) (own_of p q e s.0 here.sound plain s.1 s.2) more))

pub puts_plain : (res : Result (Unit {0}) PutStop) (p q s : Page) (w : Bool) (r : Composing) (o : Option Happening) (h : Happening) → view p w ≡ r → r.waits ≡ false → MayGoOn r → o ≡ Some (left_of p.setting.options h) → false ≡ begins_fragment h → Writes {X = Unit {0}} (Ok tt) p q (written p.setting p.config (left_of p.setting.options h)) → WritesAll res q s (written_all q.setting q.config (closing_events q.config)) → PutsOne (answered res) r (view s w) o
puts_plain res p q s true r o h is g k left told one more = no_wait (goes_by p true r is g)
puts_plain res p q s false r o h is g k left told one more =
    let e : Happening = left_of p.setting.options h in
    puts_some (answered res) r (view s false) o e left (subst (λ (z : Composing). PutsOne (answered res) z (view s false) (Some e)) is (plain_at res p q s e (subst MayGoOn (sym is) k) (left_begins p.setting.options h ∙ sym told) one more))

pub puts_may : OneIsRead → (p q s : Page) (w : Bool) (r : Composing) (e : Happening) → view p w ≡ r → r.waits ≡ false → MayGoOn r → Writes {X = Unit {0}} (Ok tt) p q (written p.setting p.config e) → WritesAll {X = Unit {0}} (Ok tt) q s (written_all q.setting q.config (closing_events q.config)) → MayGoOn (view s w)
puts_may law p q s true r e is g k one more = no_wait (goes_by p true r is g)
puts_may law p q s false r e is g k one more =
    let here : MayGoOn (composing_at q) = page_may law p q e one.0 (subst MayGoOn (sym is) k) one.1 one.2 in
    let there = may_all law (closing_events q.config) (composing_at q) more.0 here more.1 in
    may_same (composed_behind (composing_at q) more.0 false) (view s false) (ap (λ (z : Page). z.setting) (sym more.2)) (ap (λ (z : Page). z.bits) (sym more.2)) (ap (λ (z : Page). z.config) (sym more.2)) there

-- ---- a fragment is entered
level_some : (es : List Element) (o : Outer) → has_level es o ≡ true → es ≢ []
level_some [] o h = absurd cc
level_some (e ∷ es) o h = λ k. absurd cc

pub enter_name : (p : Page) (w : Bool) (r : Composing) → view p w ≡ r → r.waits ≡ true → IsAtFragment r → IsName p.config.tables (innermost p.config.elements)
enter_name p false r e h k = no_wait (sym (ap (λ (z : Composing). z.waits) e ∙ h))
enter_name p true r e h k =
    let at : IsAtFragment (view p true) = subst IsAtFragment (sym e) k in
    let q : Page = record { setting = p.setting; bits = p.bits; config = put_aside p.setting p.config } in
    let s : IsSound q.setting q.config = (ready (view p true) q at.composed refl).sound in
    let b : Body = record { tables = p.config.tables; learned = p.config.learned; elements = p.config.elements; outer = p.config.outer; name = texts_of p.config.tables (innermost p.config.elements) } in
    let head : IsSoundAside p.setting b = All-head (IsSoundAside p.setting) b p.config.aside s.aside in
    open_name p.setting p.config.tables p.config.learned p.config.elements head.body.elements (level_some p.config.elements p.config.outer head.level)

pub entered_composed : (p q : Page) (w : Bool) (r : Composing) → view p w ≡ r → r.waits ≡ true → IsAtFragment r → q ≡ fragment_page p → IsComposed (composing_at q)
entered_composed p q false r e h k is = no_wait (sym (ap (λ (z : Composing). z.waits) e ∙ h))
entered_composed p q true r e h k is =
    let at : IsAtFragment (view p true) = subst IsAtFragment (sym e) k in
    composed_same (view p true) (composing_at q) (ap (λ (z : Page). z.setting) (sym is)) (ap (λ (z : Page). z.bits) (sym is)) (ap (λ (z : Page). z.config) (sym is)) at.composed

pub enters_may : OneIsRead → (q s : Page) (es : List Happening) → IsComposed (composing_at q) → WritesAll {X = Unit {0}} (Ok tt) q s (written_all q.setting q.config es) → MayGoOn (view s false)
enters_may law q s es k h =
    let there = may_all law es (composing_at q) h.0 (λ going. k) h.1 in
    may_same (composed_behind (composing_at q) h.0 false) (view s false) (ap (λ (z : Page). z.setting) (sym h.2)) (ap (λ (z : Page). z.bits) (sym h.2)) (ap (λ (z : Page). z.config) (sym h.2)) there

-- ---- behind the element of a fragment
closes_by : (res : Result (Unit {0}) PutStop) (p q : Page) (a : Alone) → a ≡ alone_in p.config.elements p.config.outer → WritesAll res p q (written_all p.setting p.config (closing_in a)) → WritesAll res p q (written_all p.setting p.config (closing_events p.config))
closes_by res p q a e h = subst (λ (z : Alone). WritesAll res p q (written_all p.setting p.config (closing_in z))) e h

pub closes_at_end : (res : Result (Unit {0}) PutStop) (p q : Page) → at_end ≡ alone_in p.config.elements p.config.outer → Writes res p q (by_chosen p.setting p.config event.ed) → WritesAll res p q (written_all p.setting p.config (closing_events p.config))
closes_at_end res p q at h =
    let goes : has_ended p.config ≡ false = end_goes p.config.elements p.config.outer (sym at) in
    closes_by res p q at_end at (writes_one res p q event.ed (subst (λ (z : Result Written Refused). Writes res p q z) (by_going p event.ed goes) h))

pub closes_none : (p : Page) (a : Kept) → a ≡ kept.Nowhere ⊎ a ≡ kept.AtStart ⊎ a ≡ kept.AtFirst → alone_of a ≡ alone_in p.config.elements p.config.outer → WritesAll {X = Unit {0}} (Ok tt) p p (written_all p.setting p.config (closing_events p.config))
closes_none p a (inl e) h = closes_by (Ok tt) p p nowhere (ap alone_of (sym e) ∙ h) (writes_none p)
closes_none p a (inr (inl e)) h = closes_by (Ok tt) p p at_start (ap alone_of (sym e) ∙ h) (writes_none p)
closes_none p a (inr (inr e)) h = closes_by (Ok tt) p p at_first (ap alone_of (sym e) ∙ h) (writes_none p)

-- ---- its start
start_by : (p : Page) → alone_in p.config.elements p.config.outer ≡ at_start → by_chosen p.setting p.config event.sd ≡ written p.setting p.config event.sd
start_by p at = by_going p event.sd (begin_goes p.config.elements p.config.outer at)

pub starts_stop : (s : PutStop) (p q : Page) (es : List Happening) → alone_in p.config.elements p.config.outer ≡ at_start → Writes {X = Unit {0}} (Err s) p q (by_chosen p.setting p.config event.sd) → WritesAll {X = Unit {0}} (Err s) p q (written_all p.setting p.config (event.sd ∷ es))
starts_stop s p q es at h = writes_stop s p q event.sd es (subst (λ (z : Result Written Refused). Writes {X = Unit {0}} (Err s) p q z) (start_by p at) h)

pub starts_ready : OneIsRead → (p q : Page) → alone_in p.config.elements p.config.outer ≡ at_start → IsComposed (composing_at p) → Writes {X = Unit {0}} (Ok tt) p q (by_chosen p.setting p.config event.sd) → IsReady q
starts_ready read p q at k h = started_ready read p q h.0 at k (sym (start_by p at) ∙ h.1) h.2

pub starts_on : (res : Result (Unit {0}) PutStop) (p q r : Page) (n : QName) → alone_in p.config.elements p.config.outer ≡ at_start → Writes {X = Unit {0}} (Ok tt) p q (by_chosen p.setting p.config event.sd)
    → Writes res q r (by_chosen q.setting q.config (event.se (pruned_name q.setting.options n))) → WritesAll res p r (written_all p.setting p.config (event.sd ∷ event.se (pruned_name p.setting.options n) ∷ []))
starts_on res p q r n at h more =
    let first : written p.setting p.config event.sd ≡ Ok h.0 = sym (start_by p at) ∙ h.1 in
    let goes : has_ended q.config ≡ false = ap (λ (z : Page). has_ended z.config) h.2 ∙ start_goes p.setting p.config event.sd h.0 at first in
    let e : Happening = event.se (pruned_name q.setting.options n) in
    let second : WritesAll res q r (written_all q.setting q.config (e ∷ [])) = writes_one res q r e (subst (λ (z : Result Written Refused). Writes res q r z) (by_going q e goes) more) in
    writes_more res p q r event.sd (event.se (pruned_name p.setting.options n) ∷ []) h.0 first h.2
    (subst (λ (z : Page). WritesAll res q r (written_all z.setting z.config (event.se (pruned_name z.setting.options n) ∷ []))) h.2 second)

-- ---- as it is answered
pub left_there : (p : Page) (w : Bool) (r : Composing) (h : Happening) → view p w ≡ r → pruned p.setting.options h ≡ Some (left_of p.setting.options h) → pruned r.setting.options h ≡ Some (left_of r.setting.options h)
left_there p w r h is k = subst (λ (z : Composing). pruned z.setting.options h ≡ Some (left_of z.setting.options h)) is k

pub left_kept : (p : Page) (w : Bool) (r : Composing) (h : Happening) → view p w ≡ r → pruned r.setting.options h ≡ Some (left_of r.setting.options h) → pruned r.setting.options h ≡ Some (left_of p.setting.options h)
left_kept p w r h is k = k ∙ ap (λ (z : Composing). Some (left_of z.setting.options h)) (sym is)

pub told_sc : (x : Bool) (p q : Page) (w : Bool) (r : Composing) (o : Option Happening) (h : Happening) → view p w ≡ r → r.waits ≡ false → o ≡ Some (left_of p.setting.options h) → x ≡ true → x ≡ begins_fragment h → StepsAs (begins_fragment h) (Ok x) p q (written p.setting p.config (left_of p.setting.options h)) → PutsOne (Ok true) r (view q true) o
told_sc true p q w r o h is g left t told k = puts_sc (begins_fragment h) p q w r o h is g left told refl k
told_sc false p q w r o h is g left t told k = no_wait (sym t)

pub told_at_fragment : OneIsRead → (x : Bool) (p q : Page) (w : Bool) (r : Composing) (h : Happening) → view p w ≡ r → r.waits ≡ false → MayGoOn r → x ≡ true → x ≡ begins_fragment h → StepsAs (begins_fragment h) (Ok x) p q (written p.setting p.config (left_of p.setting.options h)) → IsAtFragment (view q true)
told_at_fragment law true p q w r h is g k t told s = puts_at_fragment law (begins_fragment h) p q w r h is g k told refl s
told_at_fragment law false p q w r h is g k t told s = no_wait (sym t)

pub enters_on : OneIsRead → (res : Result (Unit {0}) PutStop) (q s : Page) (es : List Happening) → IsComposed (composing_at q) → WritesAll res q s (written_all q.setting q.config es) → OnOk res (MayGoOn (view s false))
enters_on law (Ok x) q s es k h = enters_may law q s es k h
enters_on law (Err e) q s es k h = tt

-- ---- behind a refusal
abbrev refused_so : Refused → Result Run Refused
refused_so why = Err why

-- of what stands then, only what is charged is told
pub puts_refused : (s : PutStop) (m : Metering) (old mid new : Composing) (o : Option Happening) → new.config.meter ≡ refused_meter s m mid.config.meter → PutsOne (Err s) old mid o → PutsOne (Err s) old new o
puts_refused s m old mid new None is h = absurd (let k = h.0 in cc)
puts_refused stop.NotDerived m old mid new (Some e) is h = (h.0, tt)
puts_refused (stop.Limit k) m old mid new (Some e) is h = (h.0 ∙ ap (λ (z : Metering). refused_so (limit k z)) (sym is), tt)
puts_refused stop.Memory m old mid new (Some e) is h = (tt, tt)

pub enters_refused : (s : PutStop) (m : Metering) (old mid new : Composing) (o : Result Run Refused) → new.config.meter ≡ refused_meter s m mid.config.meter → Composes {X = Unit {0}} (Err s) old mid false o → Composes {X = Unit {0}} (Err s) old new false o
enters_refused stop.NotDerived m old mid new o is h = h
enters_refused (stop.Limit k) m old mid new o is h = h ∙ ap (λ (z : Metering). refused_so (limit k z)) (sym is)
enters_refused stop.Memory m old mid new o is h = tt

pub refused_uncharged : (X : Type 0) (s : PutStop) (m : Metering) (old mid new : Composing) → m ≡ old.config.meter → new.config.meter ≡ refused_meter s m mid.config.meter → IsUncharged {X = X} (Err s) old new
refused_uncharged X stop.NotDerived m old mid new before is = is ∙ before
refused_uncharged X (stop.Limit k) m old mid new before is = tt
refused_uncharged X stop.Memory m old mid new before is = tt

-- it has not ended, whether it stood at a fragment or not
pub refused_goes : (s : PutStop) (m : Metering) (p q : Page) (w : Bool) → q ≡ refused_page s m p → has_ended (fragment_in w q.setting q.config) ≡ false
refused_goes s m p q true is = refl
refused_goes s m p q false is = ap (λ (z : Page). has_ended z.config) is

pub refused_charges : (s : PutStop) (m : Metering) (p q : Page) (w : Bool) (r : Composing) → view p w ≡ r → q ≡ refused_page s m p → (fragment_in w q.setting q.config).meter ≡ refused_meter s m r.config.meter
refused_charges s m p q true r e is = ap (λ (z : Page). z.config.meter) is ∙ ap (λ (z : Composing). refused_meter s m z.config.meter) e
refused_charges s m p q false r e is = ap (λ (z : Page). z.config.meter) is ∙ ap (λ (z : Composing). refused_meter s m z.config.meter) e

-- at a fragment it has not ended
pub waits_goes : (p q : Page) (w : Bool) (r : Composing) → view p w ≡ r → r.waits ≡ true → has_ended (fragment_in w q.setting q.config) ≡ false
waits_goes p q true r e h = refl
waits_goes p q false r e h = no_wait (sym (ap (λ (z : Composing). z.waits) e ∙ h))

pub on_err : {T E P : Type 0} → (r : Result T E) → P → OnErr r P
on_err {T} {E} {P} (Ok x) p = tt
on_err {T} {E} {P} (Err e) p = p
