-- Evaluations that lead to each other.
use Rattle.std.proofs.Common.{◌≡◌, refl, sym, ◌∙◌, ap, Option, Some, None}
use Rattle.plan_base.specs.declared.tree.Exn.{Exn}
use Rattle.plan_base.specs.declared.tree.Value.{Value}
use Rattle.plan_meaning.specs.State.{VisitState}
use Rattle.plan_meaning.specs.Run.{After, gave, stopped, RunStep, Run, «next», and_then, ◌>>=◌, quiet, or_wrong, otherwise, rescued_step}
use Rattle.plan_meaning.specs.Safe.{IsSafe}
use Rattle.plan_eval_state.specs.Leads.{Leads}

pub itself : {A : Type 0} (p : RunStep A) → Leads p p
itself p = record { same = λ _. refl; safe = λ h. h }

pub onward : {A : Type 0} (p q r : RunStep A) → Leads p q → Leads q r → Leads p r
onward p q r a b = record { same = λ h. a.same h ∙ b.same (a.safe h); safe = λ h. b.safe (a.safe h) }

-- what asks nothing and ends so
pub settled : {A : Type 0} (p : RunStep A) (a : After A) → p.after ≡ a → Leads p (quiet a)
settled p a is = record { same = λ _. is; safe = λ _. tt }

-- what follows is carried along
pub along : {A B : Type 0} (p q : RunStep A) (f : A → Run B) → Leads p q → Leads (and_then p f) (and_then q f)
along p q f h = record { same = λ k. ap (λ a. («next» a f).after) (h.same k.0); safe = λ k. (h.safe k.0, rw (sym (h.same k.0)) k.1) }

pub rescued_along : (p q : RunStep Value) (f : Exn → Run Value) → Leads p q → Leads (rescued_step p f) (rescued_step q f)
rescued_along p q f h = record { same = λ k. ap (λ a. (otherwise a f).after) (h.same k.0); safe = λ k. (h.safe k.0, rw (sym (h.same k.0)) k.1) }

-- two that follow one after the other
next_then : {A B C : Type 0} (a : After A) (f : A → Run B) (g : B → Run C)
    → («next» («next» a f).after g).after ≡ («next» a (λ x. f x >>= g)).after
next_then (gave x s) f g = refl
next_then (stopped e s) f g = refl

next_safe : {A B C : Type 0} (a : After A) (f : A → Run B) (g : B → Run C)
    → IsSafe («next» a f).asks → IsSafe («next» («next» a f).after g).asks → IsSafe («next» a (λ x. f x >>= g)).asks
next_safe (gave x s) f g h k = (h, k)
next_safe (stopped e s) f g h k = tt

pub regrouped : {A B C : Type 0} (p : RunStep A) (f : A → Run B) (g : B → Run C) → Leads (and_then (and_then p f) g) (and_then p (λ x. f x >>= g))
regrouped p f g = record { same = λ _. next_then p.after f g; safe = λ k. (k.0.0, next_safe p.after f g k.0.1 k.1) }

-- what asks nothing and gives a value goes on with it
pub given_on : {A B : Type 0} (a : A) (s : VisitState) (f : A → Run B) → Leads (and_then (quiet (gave a s)) f) (f a s)
given_on a s f = record { same = λ _. refl; safe = λ k. k.1 }

pub given_back : {A B : Type 0} (a : A) (s : VisitState) (f : A → Run B) → Leads (f a s) (and_then (quiet (gave a s)) f)
given_back a s f = record { same = λ _. refl; safe = λ k. (tt, k) }

-- a step that gave a value goes on with it
pub gave_on : {A B : Type 0} (p : RunStep A) (a : A) (t : VisitState) (f : A → Run B) → p.after ≡ gave a t → Leads (and_then p f) (f a t)
gave_on p a t f is = record { same = λ _. ap (λ r. («next» r f).after) is; safe = λ k. rw is at k.1 }

later_next : {A B : Type 0} (a : After A) (f g : A → Run B) → ((x : A) (t : VisitState) → Leads (f x t) (g x t)) → Leads («next» a f) («next» a g)
later_next (gave x t) f g h = h x t
later_next (stopped e t) f g h = itself _

-- what follows may go another way
pub later : {A B : Type 0} (p : RunStep A) (f g : A → Run B) → ((x : A) (t : VisitState) → Leads (f x t) (g x t)) → Leads (and_then p f) (and_then p g)
later p f g h =
    let l = later_next p.after f g h in
    record { same = λ k. l.same k.1; safe = λ k. (k.0, l.safe k.1) }

-- what must be there may be looked for behind a step that doesn't need it
pub looked_for_later : {A B C : Type 0} (o : Option A) (p : Run B) (f : A → B → Run C) (s : VisitState)
    → Leads ((or_wrong o >>= (λ a. p >>= f a)) s) ((p >>= (λ b. or_wrong o >>= (λ a. f a b))) s)
looked_for_later (Some a) p f s =
    onward _ _ _ (given_on a s (λ x. p >>= f x)) (later (p s) (f a) (λ b. or_wrong (Some a) >>= (λ x. f x b)) (λ b t. given_back a t (λ x. f x b)))
looked_for_later None p f s = record { same = λ k. absurd k.0; safe = λ k. absurd k.0 }
