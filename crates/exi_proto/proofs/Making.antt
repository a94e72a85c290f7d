-- What is made and what is still to be made, together.
use Rattle.std.proofs.Common.{◌≡◌, ◌≤◌, List, [], ◌∷◌, ◌++◌, All, IfOk, OnOk, Result, Ok, Err, length, refl, sym, ap, ◌∙◌, arith, append_assoc}
use Rattle.std.proofs.lemmas.List.{append-nil}
use Rattle.std.proofs.lemmas.List.Elements.{All-push, All-same}
use Rattle.exi_gram.specs.Terminals.{StepRule}
use Rattle.xsd_model.specs.Parts.{Parts}
use Rattle.exi_draft.specs.Drafts.{States}
use Rattle.exi_proto.specs.declared.work.Task.{Task}
use Rattle.exi_proto.specs.declared.work.Work.{Work}
use Rattle.exi_proto.specs.Pieces.{with_start}
use Rattle.exi_proto.specs.Places.{with_ends, with_first}
use Rattle.exi_proto.specs.Tasks.{IsTask, coming, ends_left, made, task_states, tasks_left, whole, whole_with}

pub with_none : (a : States) → with_first [] a ≡ a
with_none [] = refl
with_none (x ∷ a) = refl

pub with_front : (es : List StepRule) (a b : States) → 1 ≤ length a → with_first es (a ++ b) ≡ with_first es a ++ b
with_front es [] b some = absurd (omega (arith, some))
with_front es (x ∷ a) b some = refl

pub start_front : (e : StepRule) (a b : States) → 1 ≤ length a → with_start e (a ++ b) ≡ with_start e a ++ b
start_front e [] b some = absurd (omega (arith, some))
start_front e (x ∷ a) b some = refl

ends_more : (es : List StepRule) (e : StepRule) (x : List StepRule) → with_ends (es ++ e ∷ []) x ≡ with_ends es (x ++ e ∷ [])
ends_more [] e x = refl
ends_more (f ∷ es) e x = ap (λ (y : List StepRule). y ++ f ∷ []) (ends_more es e x)

pub with_more : (es : List StepRule) (e : StepRule) (a : States) → with_first (es ++ e ∷ []) a ≡ with_first es (with_start e a)
with_more es e [] = refl
with_more es e (x ∷ a) = ap (λ (y : List StepRule). y ∷ a) (ends_more es e x)

pub coming_more : (p : Parts) (ts : List Task) (t : Task) → coming p (ts ++ t ∷ []) ≡ task_states p t ++ coming p ts
coming_more p [] t = sym (append-nil (task_states p t))
coming_more p (u ∷ ts) t = ap (λ (y : States). y ++ task_states p u) (coming_more p ts t) ∙ append_assoc (task_states p t) (coming p ts) (task_states p u)

-- ---- over plain lists
made_rest : (m n : States) (es fs : List StepRule) (c d a : States) → 1 ≤ length a → n ≡ m ++ with_first es a → fs ≡ [] → d ≡ c → n ++ with_first fs d ≡ m ++ with_first es (a ++ c)
made_rest m n es fs c d a some is none same =
    ap (λ (y : States). y ++ with_first fs d) is
    ∙ append_assoc m (with_first es a) (with_first fs d)
    ∙ ap (λ (y : List StepRule). m ++ (with_first es a ++ with_first y d)) none
    ∙ ap (λ (y : States). m ++ (with_first es a ++ y)) (with_none d ∙ same)
    ∙ ap (λ (y : States). m ++ y) (sym (with_front es a c some))

same_rest : (m n : States) (es fs : List StepRule) (c d : States) → n ≡ m → fs ≡ es → d ≡ c → n ++ with_first fs d ≡ m ++ with_first es c
same_rest m n es fs c d is same so =
    ap (λ (y : States). y ++ with_first fs d) is ∙ ap (λ (y : List StepRule). m ++ with_first y d) same ∙ ap (λ (y : States). m ++ with_first es y) so

-- ---- what a step of the work does
-- these states were made
pub whole_made : (p : Parts) (o n : Work) (a : States) → 1 ≤ length a → made n ≡ made o ++ with_first (ends_left o) a → ends_left n ≡ [] → tasks_left n ≡ tasks_left o → whole p n ≡ whole_with p o a
whole_made p o n a some is none same = made_rest (made o) (made n) (ends_left o) (ends_left n) (coming p (tasks_left o)) (coming p (tasks_left n)) a some is none (ap (coming p) same)

-- a task was put in front
pub whole_task : (p : Parts) (o n : Work) (t : Task) → made n ≡ made o → ends_left n ≡ ends_left o → tasks_left n ≡ tasks_left o ++ t ∷ [] → whole p n ≡ whole_with p o (task_states p t)
whole_task p o n t is same more = same_rest (made o) (made n) (ends_left o) (ends_left n) (task_states p t ++ coming p (tasks_left o)) (coming p (tasks_left n)) is same (ap (coming p) more ∙ coming_more p (tasks_left o) t)

-- a task was put in front, and then these states come before it
pub whole_front : (p : Parts) (o m : Work) (t : Task) (a : States) (w : States) → made m ≡ made o → ends_left m ≡ ends_left o → tasks_left m ≡ tasks_left o ++ t ∷ [] → w ≡ whole_with p m a → w ≡ whole_with p o (a ++ task_states p t)
whole_front p o m t a w is same more then =
    then ∙ same_rest (made o) (made m) (ends_left o) (ends_left m) ((a ++ task_states p t) ++ coming p (tasks_left o)) (a ++ coming p (tasks_left m)) is same
    (ap (λ (y : States). a ++ y) (ap (coming p) more ∙ coming_more p (tasks_left o) t) ∙ sym (append_assoc a (task_states p t) (coming p (tasks_left o))))

-- an end waits, and then these states come
pub whole_end : (p : Parts) (o m : Work) (e : StepRule) (a : States) (w : States) → 1 ≤ length a → made m ≡ made o → ends_left m ≡ ends_left o ++ e ∷ [] → tasks_left m ≡ tasks_left o → w ≡ whole_with p m a → w ≡ whole_with p o (with_start e a)
whole_end p o m e a w some is more same then =
    then
    ∙ same_rest (made o) (made m) (ends_left o ++ e ∷ []) (ends_left m) (a ++ coming p (tasks_left o)) (a ++ coming p (tasks_left m)) is more (ap (λ (y : States). a ++ y) (ap (coming p) same))
    ∙ ap (λ (y : States). made o ++ y) (with_more (ends_left o) e (a ++ coming p (tasks_left o)))
    ∙ ap (λ (y : States). made o ++ with_first (ends_left o) y) (start_front e a (coming p (tasks_left o)) some)

-- a state was made, and a task was put behind it
pub whole_state : (p : Parts) (o m n : Work) (x : List StepRule) (t : Task) → made m ≡ made o ++ with_ends (ends_left o) x ∷ [] → ends_left m ≡ [] → tasks_left m ≡ tasks_left o → made n ≡ made m → ends_left n ≡ ends_left m → tasks_left n ≡ tasks_left m ++ t ∷ [] → whole p n ≡ whole_with p o (x ∷ task_states p t)
whole_state p o m n x t is none same is2 same2 more =
    whole_task p m n t is2 same2 more
    ∙ made_rest (made o) (made m) (ends_left o) (ends_left m) (task_states p t ++ coming p (tasks_left o)) (task_states p t ++ coming p (tasks_left m)) (x ∷ []) (omega arith) is none (ap (λ (y : States). task_states p t ++ y) (ap (coming p) same))

-- nothing is left
pub whole_done : (p : Parts) (o : Work) → tasks_left o ≡ [] → whole p o ≡ made o
whole_done p o none = ap (λ (ts : List Task). made o ++ with_first (ends_left o) (coming p ts)) none ∙ append-nil (made o)

-- the next task is taken
pub whole_next : (p : Parts) (o n : Work) (t : Task) → made n ≡ made o → ends_left n ≡ ends_left o → tasks_left o ≡ tasks_left n ++ t ∷ [] → whole p o ≡ whole_with p n (task_states p t)
whole_next p o n t is same more = whole_task p n o t (sym is) (sym same) more

-- two tasks were put in front
pub whole_two : (p : Parts) (o n : Work) (t u : Task) → made n ≡ made o → ends_left n ≡ ends_left o → tasks_left n ≡ (tasks_left o ++ u ∷ []) ++ t ∷ [] → whole p n ≡ whole_with p o (task_states p t ++ task_states p u)
whole_two p o n t u is same more =
    same_rest (made o) (made n) (ends_left o) (ends_left n) ((task_states p t ++ task_states p u) ++ coming p (tasks_left o)) (coming p (tasks_left n)) is same
    (ap (coming p) more
    ∙ coming_more p (tasks_left o ++ u ∷ []) t
    ∙ ap (λ (y : States). task_states p t ++ y) (coming_more p (tasks_left o) u)
    ∙ sym (append_assoc (task_states p t) (task_states p u) (coming p (tasks_left o))))

pub tasks_two : (p : Parts) (o n : Work) (t u : Task) → tasks_left n ≡ (tasks_left o ++ u ∷ []) ++ t ∷ [] → All (IsTask p) (tasks_left o) → IsTask p t → IsTask p u → All (IsTask p) (tasks_left n)
tasks_two p o n t u more all first second =
    All-same (IsTask p) (tasks_left n) ((tasks_left o ++ u ∷ []) ++ t ∷ []) more (All-push (IsTask p) (tasks_left o ++ u ∷ []) t (All-push (IsTask p) (tasks_left o) u all second) first)

pub tasks_one : (p : Parts) (o n : Work) (t : Task) → tasks_left n ≡ tasks_left o ++ t ∷ [] → All (IsTask p) (tasks_left o) → IsTask p t → All (IsTask p) (tasks_left n)
tasks_one p o n t more all first = All-same (IsTask p) (tasks_left n) (tasks_left o ++ t ∷ []) more (All-push (IsTask p) (tasks_left o) t all first)

pub tasks_same : (p : Parts) (o n : Work) → tasks_left n ≡ tasks_left o → All (IsTask p) (tasks_left o) → All (IsTask p) (tasks_left n)
tasks_same p o n same all = All-same (IsTask p) (tasks_left n) (tasks_left o) same all

-- where a call went well
pub on_ok : {X E : Type 0} {A B : Type 0} (r : Result X E) → (A → B) → OnOk r A → OnOk r B
on_ok (Ok x) f h = f h
on_ok (Err e) f h = h

pub if_ok : {X E : Type 0} {P Q : X → Type 0} (r : Result X E) → ((x : X) → P x → Q x) → IfOk r P → IfOk r Q
if_ok (Ok x) f h = f x h
if_ok (Err e) f h = h

-- where nothing waits
pub whole_first : (p : Parts) (o : Work) (m a : States) → made o ≡ m → ends_left o ≡ [] → tasks_left o ≡ [] → whole_with p o a ≡ m ++ a
whole_first p o m a is none left =
    ap (λ (x : States). x ++ with_first (ends_left o) (a ++ coming p (tasks_left o))) is
    ∙ ap (λ (es : List StepRule). m ++ with_first es (a ++ coming p (tasks_left o))) none
    ∙ ap (λ (x : States). m ++ x) (with_none (a ++ coming p (tasks_left o)) ∙ ap (λ (ts : List Task). a ++ coming p ts) left ∙ append-nil a)
