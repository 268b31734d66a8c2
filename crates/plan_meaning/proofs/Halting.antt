-- Evaluations of typed code, put together: each is right, leaves no greater purse, gives the same with a greater allowance, and
-- ends with some allowance.
use Rattle.std.proofs.Common.{◌≡◌, ℕ, ◌+◌, ◌-◌, ◌<◌, ◌≤◌, Bool, true, false, if◌then◌else◌, ◌==◌, nat_lt, ℤ, List, Option, Some, refl, sym, ap, ◌∙◌, subst, arith}
use Rattle.std.proofs.lemmas.Bool.Decides.{nat_tests}
use Rattle.plan_base.specs.declared.name.Name.{Name}
use Rattle.plan_base.specs.declared.ids.Host.{Host}
use Rattle.plan_base.specs.declared.ids.Dev.{Dev}
use Rattle.plan_base.specs.declared.tree.Exn.{Exn}
use Rattle.plan_base.specs.declared.tree.Ty.{Ty}
use Rattle.plan_base.specs.declared.tree.Svc.{Svc}
use Rattle.plan_base.specs.declared.tree.Value.{Value}
use Rattle.plan_base.specs.declared.tree.Chunk.{Chunk}
use Rattle.plan_base.specs.Sizes.{weight}
use Rattle.plan_types_spec.specs.Rules.{Given, gives, raises, unfit, too_large}
use Rattle.plan_types_spec.specs.Typed.{Fits}
use Rattle.service_api.specs.declared.answer.Answer.{Answer}
use Rattle.service_api.specs.declared.answer.Answer.TheVariants.{Gives, Raises}
use Rattle.service_api.specs.declared.router.Hop.{Hop}
use Rattle.service_api.specs.declared.router.Hop.TheVariants.{To, NoService, NoRoute}
use Rattle.service_api.specs.Routes.{hop, default_route}
use Rattle.service_api.specs.Services.{served_call, IsGoodChunk, AreGoodValues}
use Rattle.plan_meaning.specs.declared.stop.EvalStop.TheVariants.{Raised, WorkSpent, Wrong, NoMemory}
use Rattle.plan_meaning.specs.State.{VisitState}
use Rattle.plan_meaning.specs.Run.{After, gave, stopped, RunStep, nothing, both, Run, «next», and_then, ◌>>=◌, ◌>>◌, quiet, pure, raise, or_wrong, given_value, otherwise, rescued_step, rescue, spend}
use Rattle.plan_meaning.specs.Run.{is_too_large, weighed_value, whole, serve, answered_call}
use Rattle.plan_meaning.specs.Meaning.{pay_eval, no_bound, is_paid, bound_of, sent_packet, sent_by, send_remote, is_next, not_neighbour, send_neighbour}
use Rattle.plan_meaning.specs.Safe.{IsGoodState, Holds, IsRight, Yields}
use Rattle.plan_meaning.specs.Laws.{left_by, IsSpent, more, after_more, step_more, at_work, EndsFrom}
use Rattle.plan_meaning.proofs.Growing.{Growing, growing_kept, between, same_number}
use Rattle.plan_meaning.proofs.Keeps.{Keeps}
use Rattle.plan_meaning.proofs.Longer.{Longer, longer_kept, first_lasts, rescue_lasts}
use Rattle.plan_meaning.proofs.Right.{Good, Mild, raised_not_wrong, weaker, mild_good, pure_yields, raise_yields, spent_state, spend_yields, paid_state, remote_yields, neighbour_yields, serve_yields}

pub record HaltsAt {A : Type 0} (P : A → Type 0) (p : Run A) (s : VisitState) : Type 0 where
  pub right : IsRight P (p s)
  pub sinks : (left_by (p s).after).ctx.purse ≤ s.ctx.purse
  pub long : (n : ℕ) → ¬ IsSpent (p s).after → p (more n s) ≡ step_more n (p s)
  pub ends : EndsFrom p s

-- a good state with a purse of at most b
pub record Inv (b : ℕ) (s : VisitState) : Type 0 where
  pub good : IsGoodState s
  pub purse : s.ctx.purse ≤ b

abbrev pub Halts : ℕ → {A : Type 0} → (A → Type 0) → Run A → Type 0
Halts b P p = (s : VisitState) → Inv b s → HaltsAt P p s

-- more work left doesn't end a run for want of work
pub more_lasts : {A : Type 0} (n : ℕ) (a : After A) → IsSpent (after_more n a) → IsSpent a
more_lasts n (gave x s) h = h
more_lasts n (stopped (Raised x) s) h = h
more_lasts n (stopped WorkSpent s) h = h
more_lasts n (stopped Wrong s) h = h
more_lasts n (stopped NoMemory s) h = h

-- where a run ends with an allowance, it ends with a greater one
ends_above : {A : Type 0} (P : A → Type 0) (p : Run A) (s : VisitState) (k : ℕ) → HaltsAt P p (at_work k s) → ¬ IsSpent (p (at_work k s)).after → (n : ℕ) → ¬ IsSpent (p (at_work (n + k) s)).after
ends_above P p s k h l n m =
    let e : k + n ≡ n + k = omega arith in
    let g : p (at_work (n + k) s) ≡ step_more n (p (at_work k s)) = subst (λ w. p (at_work w s) ≡ step_more n (p (at_work k s))) e (h.long n l) in
    l (more_lasts n (p (at_work k s)).after (subst (λ (r : RunStep _). IsSpent r.after) g m))

module _ (b : ℕ) where
  inv_work : (s : VisitState) (n : ℕ) → Inv b s → Inv b (at_work n s)
  inv_work s n i = record { good = spent_state s n i.good; purse = i.purse }

  from_yields : {A : Type 0} (P : A → Type 0) (p : Run A) → Yields P p → Growing A p p → ((n : ℕ) → Longer n A p p) → ((s : VisitState) → EndsFrom p s) → Halts b P p
  from_yields P p y g l e s i = record { right = y s i.good; sinks = (g s).purse; long = λ n h. l n s h; ends = e s }

  module _ {A : Type 0} (P : A → Type 0) where
    pub pure_halts : (a : A) → P a → Halts b P (pure a)
    pure_halts a h = from_yields P (pure a) (pure_yields P a h) (growing_kept.gives A a) (λ n. (longer_kept n).gives A a) (λ s. (0, λ x. x))

    pub raise_halts : (x : Exn) → Halts b P (raise x)
    raise_halts x = from_yields P (raise x) (raise_yields P x) (growing_kept.stops A (Raised x)) (λ n. (longer_kept n).stops A (Raised x)) (λ s. (0, λ y. y))

    pub known_halts : (o : Option A) (a : A) → o ≡ Some a → P a → Halts b P (or_wrong o)
    known_halts o a e h = subst (λ x. Halts b P (or_wrong x)) (sym e) (pure_halts a h)

    pub cond_halts : (t : Bool) (p q : Run A) → Halts b P p → Halts b P q → Halts b P (if t then p else q)
    cond_halts true p q h k = h
    cond_halts false p q h k = k

    pub mild_halts : (Q : A → Type 0) → ((a : A) → P a → Q a) → (p : Run A) → Halts b P p → Halts b Q p
    mild_halts Q f p h s i =
        let r = h s i in record { right = record { safe = r.right.safe; holds = weaker P Q f (p s).after r.right.holds }; sinks = r.sinks; long = r.long; ends = r.ends }

  module _ {A B : Type 0} (P : A → Type 0) (Q : B → Type 0) (p : Run A) (f : A → Run B) (h : Halts b P p) (k : (x : A) → P x → Halts b Q (f x)) where
    record Onward (a : After A) : Type 0 where
      right : IsRight Q («next» a f)
      sinks : (left_by («next» a f).after).ctx.purse ≤ (left_by a).ctx.purse
      long : (n : ℕ) → ¬ IsSpent («next» a f).after → «next» (after_more n a) f ≡ step_more n («next» a f)

    onward : (a : After A) → Holds P a → (left_by a).ctx.purse ≤ b → Onward a
    onward (gave x s) g l = let r = k x g.0 s (record { good = g.1; purse = l }) in record { right = r.right; sinks = r.sinks; long = r.long }
    onward (stopped e s) g l = record { right = record { safe = tt; holds = g }; sinks = same_number s.ctx.purse; long = λ n m. refl }

    ending : (s : VisitState) (j : ℕ) → Inv b s → (a : After A) → (p (at_work j s)).after ≡ a → Holds P a → (left_by a).ctx.purse ≤ b → ¬ IsSpent a → EndsFrom (p >>= f) s
    ending s j i (stopped e t) d g l m = (j, λ x. m (subst (λ y. IsSpent («next» y f).after) d x))
    ending s j i (gave x t) d g l m =
        let r = k x g.0 t (record { good = g.1; purse = l }) in
        let n = r.ends.0 in
        let at = h (at_work j s) (inv_work s j i) in
        let lasts : ¬ IsSpent (p (at_work j s)).after = λ y. m (subst IsSpent d y) in
        let same : p (at_work (j + n) s) ≡ step_more n (p (at_work j s)) = at.long n lasts in
        let first : (p (at_work (j + n) s)).after ≡ gave x (more n t) = ap (λ (y : RunStep A). y.after) same ∙ ap (after_more n) d in
        let last : ¬ IsSpent (f x (at_work (t.work + n) t)).after = ends_above Q (f x) t n (k x g.0 (at_work n t) (inv_work t n (record { good = g.1; purse = l }))) r.ends.1 t.work in
        (j + n, λ y. last (subst (λ z. IsSpent («next» z f).after) first y))

    pub then_halts : Halts b Q (p >>= f)
    then_halts s i =
        let first = h s i in
        let o = onward (p s).after first.right.holds (between _ s.ctx.purse b first.sinks i.purse) in
        let e = first.ends in
        let at = h (at_work e.0 s) (inv_work s e.0 i) in
        record {
          right = record { safe = (first.right.safe, o.right.safe); holds = o.right.holds };
          sinks = between _ (left_by (p s).after).ctx.purse s.ctx.purse o.sinks first.sinks;
          long = λ n m. ap (λ r. and_then r f) (first.long n (first_lasts n (p s).after f m)) ∙
              (λ j. record { after = (o.long n m j).after; asks = both (p s).asks (o.long n m j).asks });
          ends = ending s e.0 i (p (at_work e.0 s)).after refl at.right.holds (between _ s.ctx.purse b at.sinks i.purse) e.1;
        }

  -- with a value that is known
  pub known_then_halts : {A B : Type 0} (Q : B → Type 0) (o : Option A) (a : A) (f : A → Run B) → o ≡ Some a → Halts b Q (f a) → Halts b Q (or_wrong o >>= f)
  known_then_halts Q o a f e h =
      subst (λ x. Halts b Q (or_wrong x >>= f)) (sym e)
      (then_halts (λ x. x ≡ a) Q (pure a) f (pure_halts (λ x. x ≡ a) a refl) (λ x d. subst (λ y. Halts b Q (f y)) (sym d) h))

  module _ (P : Value → Type 0) (p : Run Value) (f : Exn → Run Value) (h : Halts b P p) (k : (x : Exn) → Halts b P (f x)) where
    record Otherwise (a : After Value) : Type 0 where
      right : IsRight P (otherwise a f)
      sinks : (left_by (otherwise a f).after).ctx.purse ≤ (left_by a).ctx.purse
      long : (n : ℕ) → ¬ IsSpent (otherwise a f).after → otherwise (after_more n a) f ≡ step_more n (otherwise a f)

    kept_as_otherwise : (a : After Value) → Holds P a → otherwise a f ≡ quiet a → ((n : ℕ) → otherwise (after_more n a) f ≡ step_more n (otherwise a f)) → Otherwise a
    kept_as_otherwise a g e l = record {
      right = subst (λ r. IsRight P r) (sym e) (record { safe = tt; holds = g });
      sinks = subst (λ (r : RunStep Value). (left_by r.after).ctx.purse ≤ (left_by a).ctx.purse) (sym e) (same_number (left_by a).ctx.purse);
      long = λ n m. l n;
    }

    rescuing : (a : After Value) → Holds P a → (left_by a).ctx.purse ≤ b → Otherwise a
    rescuing (gave x s) g l = kept_as_otherwise (gave x s) g refl (λ n. refl)
    rescuing (stopped (Raised x) s) g l = let r = k x s (record { good = g.1; purse = l }) in record { right = r.right; sinks = r.sinks; long = r.long }
    rescuing (stopped WorkSpent s) g l = kept_as_otherwise (stopped WorkSpent s) g refl (λ n. refl)
    rescuing (stopped Wrong s) g l = kept_as_otherwise (stopped Wrong s) g refl (λ n. refl)
    rescuing (stopped NoMemory s) g l = kept_as_otherwise (stopped NoMemory s) g refl (λ n. refl)

    at_once : (s : VisitState) (j : ℕ) (a : After Value) → (p (at_work j s)).after ≡ a → otherwise a f ≡ quiet a → ¬ IsSpent a → EndsFrom (rescue p f) s
    at_once s j a d e m = (j, λ x. m (subst (λ (r : RunStep Value). IsSpent r.after) e (subst (λ y. IsSpent (otherwise y f).after) d x)))

    rescue_ending : (s : VisitState) (j : ℕ) → Inv b s → (a : After Value) → (p (at_work j s)).after ≡ a → Holds P a → (left_by a).ctx.purse ≤ b → ¬ IsSpent a → EndsFrom (rescue p f) s
    rescue_ending s j i (gave x t) d g l m = at_once s j (gave x t) d refl m
    rescue_ending s j i (stopped WorkSpent t) d g l m = absurd (m tt)
    rescue_ending s j i (stopped Wrong t) d g l m = at_once s j (stopped Wrong t) d refl m
    rescue_ending s j i (stopped NoMemory t) d g l m = at_once s j (stopped NoMemory t) d refl m
    rescue_ending s j i (stopped (Raised x) t) d g l m =
        let r = k x t (record { good = g.1; purse = l }) in
        let n = r.ends.0 in
        let at = h (at_work j s) (inv_work s j i) in
        let lasts : ¬ IsSpent (p (at_work j s)).after = λ y. m (subst IsSpent d y) in
        let same : p (at_work (j + n) s) ≡ step_more n (p (at_work j s)) = at.long n lasts in
        let first : (p (at_work (j + n) s)).after ≡ stopped (Raised x) (more n t) = ap (λ (y : RunStep Value). y.after) same ∙ ap (after_more n) d in
        let last : ¬ IsSpent (f x (at_work (t.work + n) t)).after = ends_above P (f x) t n (k x (at_work n t) (inv_work t n (record { good = g.1; purse = l }))) r.ends.1 t.work in
        (j + n, λ y. last (subst (λ z. IsSpent (otherwise z f).after) first y))

    pub rescue_halts : Halts b P (rescue p f)
    rescue_halts s i =
        let first = h s i in
        let o = rescuing (p s).after first.right.holds (between _ s.ctx.purse b first.sinks i.purse) in
        let e = first.ends in
        let at = h (at_work e.0 s) (inv_work s e.0 i) in
        record {
          right = record { safe = (first.right.safe, o.right.safe); holds = o.right.holds };
          sinks = between _ (left_by (p s).after).ctx.purse s.ctx.purse o.sinks first.sinks;
          long = λ n m. ap (λ r. rescued_step r f) (first.long n (rescue_lasts n (p s).after f m)) ∙
              (λ j. record { after = (o.long n m j).after; asks = both (p s).asks (o.long n m j).asks });
          ends = rescue_ending s e.0 i (p (at_work e.0 s)).after refl at.right.holds (between _ s.ctx.purse b at.sinks i.purse) e.1;
        }

  -- ---- the steps

  pub given_halts : (t : Ty) (g : Given) → Fits t g → Keeps g → Halts b (Mild t) (given_value g)
  given_halts t (gives v) h k = pure_halts (Mild t) v (λ s. (h, k s))
  given_halts t (raises x) h k = raise_halts (Mild t) x
  given_halts t unfit h k = absurd h

  enough : (n : ℕ) → nat_lt n n ≡ false
  enough n = grind (arith, nat_tests)

  spend_ends : (n : ℕ) (s : VisitState) → EndsFrom (spend n) s
  unfolding spend
  spend_ends n s = (n, λ x. subst (λ t. IsSpent (if t then quiet (stopped WorkSpent (at_work n s)) else quiet (gave tt (record s { work = n - n }))).after) (enough n) x)

  pub spend_halts : (n : ℕ) → Halts b {A = Unit {0}} (λ _. Unit {0}) (spend n)
  spend_halts n = from_yields (λ _. Unit {0}) (spend n) (spend_yields n) (growing_kept.spends n) (λ m. (longer_kept m).spends n) (spend_ends n)

  weighed_by : (t : Ty) (v : Value) (c : Bool) → is_too_large v ≡ c → Mild t v → Halts b (Good t) (if c then raise too_large else (spend (weight v) >> pure v))
  weighed_by t v true e h = raise_halts (Good t) too_large
  weighed_by t v false e h = then_halts (λ _. Unit {0}) (Good t) (spend (weight v)) (λ _. pure v) (spend_halts (weight v)) (λ _ _. pure_halts (Good t) v (mild_good t v e h))

  weighed_halts : (t : Ty) (v : Value) → Mild t v → Halts b (Good t) (weighed_value v)
  unfolding weighed_value
  weighed_halts t v h = weighed_by t v (is_too_large v) refl h

  pub whole_halts : (t : Ty) (p : Run Value) → Halts b (Mild t) p → Halts b (Good t) (whole p)
  unfolding whole
  whole_halts t p h =
      then_halts (Mild t) (Good t) (spend 1 >> p) weighed_value (then_halts (λ _. Unit {0}) (Mild t) (spend 1) (λ _. p) (spend_halts 1) (λ _ _. h)) (weighed_halts t)

  module _ {B : Type 0} (Q : B → Type 0) (q : Run B) (h : (c : ℕ) → c < b → Halts c Q q) where
    abbrev Paying : Bool → Run B
    Paying t s = and_then (if t then raise {A = Unit {0}} no_bound s else quiet (gave tt (record s { ctx = record s.ctx { purse = s.ctx.purse - 1 }; evals = s.evals + 1 }))) (λ _. q)

    less_purse : (n : ℕ) → (n == 0) ≡ false → n ≤ b → n - 1 < b
    less_purse n e l = grind (arith, nat_tests)

    paying : (t : Bool) (s : VisitState) → (s.ctx.purse == 0) ≡ t → Inv b s → HaltsAt Q (Paying t) s
    paying true s e i = record { right = record { safe = (tt, tt); holds = (raised_not_wrong no_bound, i.good) }; sinks = same_number s.ctx.purse; long = λ n m. refl; ends = (0, λ x. x) }
    paying false s e i =
        let r = h (s.ctx.purse - 1) (less_purse s.ctx.purse e i.purse) (record s { ctx = record s.ctx { purse = s.ctx.purse - 1 }; evals = s.evals + 1 })
        (record { good = paid_state s (s.ctx.purse - 1) (s.evals + 1) i.good; purse = same_number (s.ctx.purse - 1) }) in
        let fewer : s.ctx.purse - 1 ≤ s.ctx.purse = omega arith in
        record {
          right = record { safe = (tt, r.right.safe); holds = r.right.holds };
          sinks = between _ (s.ctx.purse - 1) s.ctx.purse r.sinks fewer;
          long = λ n m j. record { after = (r.long n m j).after; asks = both nothing (r.long n m j).asks };
          ends = (r.ends.0, r.ends.1);
        }

    -- an eval that is paid leaves a lower purse
    pub paid_halts : Halts b Q (pay_eval >>= (λ _. q))
    unfolding pay_eval
    paid_halts s i = let r = paying (s.ctx.purse == 0) s refl i in record { right = r.right; sinks = r.sinks; long = r.long; ends = r.ends }

  choose_lasts : {A : Type 0} (t : Bool) (x y : RunStep A) → ¬ IsSpent x.after → ¬ IsSpent y.after → ¬ IsSpent (if t then x else y).after
  choose_lasts true x y h k = h
  choose_lasts false x y h k = k

  sent_by_lasts : (s : VisitState) (way : Hop) (c : Chunk) (h : Host) (n : ℕ) (r : Name) → ¬ IsSpent (sent_by way c h n r s).after
  sent_by_lasts s (To via dev) c h n r x = x
  sent_by_lasts s NoService c h n r x = x
  sent_by_lasts s NoRoute c h n r x = x

  remote_ends : (k : Chunk) (h : Host) (n : ℤ) (r : Name) (s : VisitState) → EndsFrom (send_remote k h n r) s
  unfolding send_remote
  remote_ends k h n r s = (
    0,
    choose_lasts (is_paid n s.ctx.purse) (sent_by (hop s.ctx.router r s.ctx.here h) k h (bound_of n) r (at_work 0 s)) (raise no_bound (at_work 0 s))
        (sent_by_lasts (at_work 0 s) (hop s.ctx.router r s.ctx.here h) k h (bound_of n) r) (λ x. x),
  )

  pub remote_halts : (k : Chunk) (h : Host) (n : ℤ) (r : Name) → IsGoodChunk k → Halts b {A = Unit {0}} (λ _. Unit {0}) (send_remote k h n r)
  remote_halts k h n r g = from_yields (λ _. Unit {0}) (send_remote k h n r) (remote_yields k h n r g) (growing_kept.remotes k h n r) (λ m. (longer_kept m).remotes k h n r) (remote_ends k h n r)

  neighbour_ends : (k : Chunk) (h : Host) (n : ℤ) (d : Dev) (s : VisitState) → EndsFrom (send_neighbour k h n d) s
  unfolding send_neighbour is_next
  neighbour_ends k h n d s = (
    0,
    choose_lasts (is_paid n s.ctx.purse) (if is_next s d h then sent_packet d k h (bound_of n) default_route (at_work 0 s) else raise not_neighbour (at_work 0 s)) (raise no_bound (at_work 0 s))
        (choose_lasts (is_next s d h) (sent_packet d k h (bound_of n) default_route (at_work 0 s)) (raise not_neighbour (at_work 0 s)) (λ x. x) (λ x. x)) (λ x. x),
  )

  pub neighbour_halts : (k : Chunk) (h : Host) (n : ℤ) (d : Dev) → IsGoodChunk k → Halts b {A = Unit {0}} (λ _. Unit {0}) (send_neighbour k h n d)
  neighbour_halts k h n d g = from_yields (λ _. Unit {0}) (send_neighbour k h n d) (neighbour_yields k h n d g) (growing_kept.neighbours k h n d) (λ m. (longer_kept m).neighbours k h n d) (neighbour_ends k h n d)

  answered_lasts : (a : Answer) (s : VisitState) → ¬ IsSpent (answered_call a s)
  answered_lasts (Gives v told) s x = x
  answered_lasts (Raises y) s x = x

  serve_ends : (d : Svc) (args : List Value) (s : VisitState) → EndsFrom (serve d args) s
  unfolding serve
  serve_ends d args s = (0, answered_lasts (served_call s.services d args s.ctx).answer _)

  pub serve_halts : (d : Svc) (args : List Value) → AreGoodValues d.params args → Halts b (Good d.result) (serve d args)
  serve_halts d args h = from_yields (Good d.result) (serve d args) (serve_yields d args h) (growing_kept.serves d args) (λ m. (longer_kept m).serves d args) (serve_ends d args)
