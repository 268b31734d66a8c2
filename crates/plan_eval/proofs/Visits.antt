-- How a visit ends, by what its entry stands for.
use Rattle.std.proofs.Common.{◌≡◌, ◌≢◌, ℕ, ◌+◌, ◌≤◌, List, [], length, All, Result, Ok, Err, IfOk, OnOk, Some, slice_get, option_and_then, refl, sym, ap, ◌∙◌, subst, arith}
use Rattle.std.proofs.Math.Nat.{not-suc-le-zero}
use Rattle.plan_base.specs.declared.ids.Family.{Family}
use Rattle.plan_base.specs.declared.memory.NoMemory.{NoMemory as MemoryFault}
use Rattle.plan_base.specs.declared.tree.Exn.{Exn}
use Rattle.plan_base.specs.declared.tree.Chunk.{Chunk}
use Rattle.plan_base.specs.declared.tree.Value.{Value}
use Rattle.plan_base.specs.declared.tree.Ty.{Ty}
use Rattle.plan_base.specs.declared.tree.Fun.{Fun}
use Rattle.plan_types_spec.specs.TypingNames.{place_of}
use Rattle.plan_types_spec.specs.TypingOrder.{fun_of}
use Rattle.containers.proofs.Options.{some-same}
use Rattle.plan_types_spec.specs.Typing.{IsTypedChunk, within}
use Rattle.checked_chunks.specs.Kept.{IsCheckedChunk}
use Rattle.service_api.specs.declared.ctx.Ctx.{Ctx}
use Rattle.service_api.specs.Services.{ServiceState, IsGood, IsGoodValue, IsGoodChunk, IsGoodNote, AreGoodRows}
use Rattle.service_api.specs.declared.answer.Note.{Note}
use Rattle.service_api.specs.declared.answer.Note.TheVariants.{Print, Port}
use Rattle.plan_meaning.specs.declared.stop.EvalStop.{EvalStop}
use Rattle.plan_meaning.specs.declared.stop.EvalStop.TheVariants.{Raised, WorkSpent, Wrong, NoMemory}
use Rattle.plan_meaning.specs.declared.outcome.Outcome.TheVariants as outcome
use Rattle.plan_meaning.specs.declared.outcome.Visit.{Visit}
use Rattle.plan_meaning.specs.State.{VisitState, Own, joined_state}
use Rattle.plan_meaning.specs.Run.{After, gave, stopped}
use Rattle.plan_meaning.specs.Meaning.{meaning, visited_chunk}
use Rattle.plan_meaning.specs.Safe.{IsSafe, AreGoodNotes, AreGoodPackets, IsGoodState, Holds, IsRight}
use Rattle.plan_meaning.specs.Visit.{IsVisit, Ends, IsGoodEnd, NoteHasTypes, allowance, begun_state, ended_visit, spent_visit, bounds}
use Rattle.plan_meaning.specs.Laws.{left_by, total}
use Rattle.plan_eval_state.specs.declared.progress.Progress.{Progress}
use Rattle.plan_eval_state.specs.declared.run.Run.{Run}
use Rattle.plan_eval_state.specs.Flow.{now}
use Rattle.plan_eval.specs.Start.{IsStart, begun_own}
use Rattle.plan_eval.specs.Turns.{Ends as RunEnds, IsRightEnd}
use Rattle.plan_meaning.proofs.Even.{visit_balance}
use Rattle.plan_meaning.proofs.Full.{full_value}
use Rattle.plan_meaning.proofs.Sound.{visit_soundness}

balance_of : (s : VisitState) (bound : ℕ) → total s ≡ bound + 0 + 0 → s.evals + s.ctx.purse + bounds s.outbox ≡ bound
balance_of s bound e = omega arith

pub ok_map : {A E : Type 0} {P Q : A → Type 0} → ((a : A) → P a → Q a) → (r : Result A E) → IfOk r P → IfOk r Q
ok_map f (Ok a) h = f a h
ok_map f (Err e) h = h

pub ok_always : {A E : Type 0} {P : A → Type 0} (Q : Type 0) → ((a : A) → P a → Q) → (r : Result A E) → IfOk r P → OnOk r Q
ok_always Q f (Ok a) h = f a h
ok_always Q f (Err e) h = h

none_spent : (bound : ℕ) → 0 + bound + 0 ≡ bound
none_spent bound = omega arith

no_notes : AreGoodNotes []
no_notes i d h = absurd (not-suc-le-zero h)

no_types : All NoteHasTypes []
no_types i d h = absurd (not-suc-le-zero h)

no_packets : AreGoodPackets []
no_packets i d h = absurd (not-suc-le-zero h)

note_full : (n : Note) → IsGoodNote n → NoteHasTypes n
note_full (Print v) g = full_value g.1.typed
note_full (Port p v) g = full_value g.1.typed

-- what a visit hands out and leaves
abbrev Fit : Ty → Visit → ServiceState → Type 0
Fit t r new = IsGoodEnd t r.outcome × AreGoodNotes r.notes × All NoteHasTypes r.notes × AreGoodPackets r.outbox × AreGoodRows new.rows

fit_at : (t : Ty) (r : Visit) (new : ServiceState) (q : Visit) (s : VisitState) → r ≡ record q { notes = s.notes; outbox = s.outbox } → new ≡ s.services → IsGoodEnd t q.outcome → IsGoodState s → Fit t r new
fit_at t r new q s e f h g =
    subst (λ (x : Visit). Fit t x new) (sym e)
    (h, g.notes, (λ i d l. note_full _ (g.notes i d l)), g.outbox, subst (λ (n : ServiceState). AreGoodRows n.rows) (sym f) g.services.rows)

-- what was checked is good
pub good_chunk : (k : Chunk) → IsCheckedChunk k → IsGoodChunk k
good_chunk k h = record { typed = h.typed; formed = h.formed }

module _ (k : Chunk) (ctx : Ctx) (family : Family) (old : ServiceState) where
  abbrev pub start : VisitState
  start = begun_state allowance ctx family old

  visit_gave : (v : Value) (s : VisitState) → (visited_chunk meaning k start).after ≡ gave v s → IsVisit allowance k ctx family old (ended_visit allowance (outcome.Value v) s) s.services
  unfolding IsVisit
  visit_gave v s e = subst (λ a. Ends allowance ctx.purse a (ended_visit allowance (outcome.Value v) s) s.services) (sym e) (refl, refl)

  visit_raised : (x : Exn) (s : VisitState) → (visited_chunk meaning k start).after ≡ stopped (Raised x) s → IsVisit allowance k ctx family old (ended_visit allowance (outcome.Raised x) s) s.services
  unfolding IsVisit
  visit_raised x s e = subst (λ a. Ends allowance ctx.purse a (ended_visit allowance (outcome.Raised x) s) s.services) (sym e) (refl, refl)

  visit_spent : (s : VisitState) → (visited_chunk meaning k start).after ≡ stopped WorkSpent s → IsVisit allowance k ctx family old (spent_visit allowance ctx.purse) s.services
  unfolding IsVisit
  visit_spent s e = subst (λ a. Ends allowance ctx.purse a (spent_visit allowance ctx.purse) s.services) (sym e) (refl, refl)

  pub good_start : IsGood old → length ctx.neighbours ≤ 8 → IsGoodState start
  good_start g n = record { services = g; notes = λ i d h. absurd (not-suc-le-zero h); outbox = λ i d h. absurd (not-suc-le-zero h); near = n }

  -- the function that a typed chunk enters
  record Entry : Type 0 where
    at : ℕ
    fun : Fun
    place : place_of k.entry k.code.funs ≡ Some at
    got : slice_get k.code.funs at ≡ Some fun

  entry_of : IsTypedChunk k → Entry
  entry_of (within at d t p g h n w) = record { at = at; fun = d; place = p; got = g }

  right_at : (e : Entry) → IsGoodChunk k → IsGood old → length ctx.neighbours ≤ 8 → IsRight (IsGoodValue e.fun.result) (visited_chunk meaning k start)
  right_at e t g n = visit_soundness k e.at e.fun t e.place e.got start (good_start g n)

  visit_safe : IsGoodChunk k → IsGood old → length ctx.neighbours ≤ 8 → IsSafe (visited_chunk meaning k start).asks
  visit_safe t g n = (right_at (entry_of t.typed) t g n).safe

  never : (P : Value → Type 0) (a : After Value) (s : VisitState) → a ≡ stopped Wrong s → Holds P a → ⊥
  never P a s e h = (subst (λ b. Holds P b) e h).0 refl

  visit_never : IsGoodChunk k → IsGood old → length ctx.neighbours ≤ 8 → (s : VisitState) → (visited_chunk meaning k start).after ≡ stopped Wrong s → ⊥
  visit_never t g n s e = never _ (visited_chunk meaning k start).after s e (right_at (entry_of t.typed) t g n).holds

  ends_kept : (a : After Value) (r : Visit) (new : ServiceState) → total (left_by a) ≡ total start → Ends allowance ctx.purse a r new → r.evals + r.left + bounds r.outbox ≡ ctx.purse
  ends_kept (gave v s) r new b e = ap (λ (x : Visit). x.evals + x.left + bounds x.outbox) e.0 ∙ balance_of s ctx.purse b
  ends_kept (stopped (Raised x) s) r new b e = ap (λ (x : Visit). x.evals + x.left + bounds x.outbox) e.0 ∙ balance_of s ctx.purse b
  ends_kept (stopped WorkSpent s) r new b e = ap (λ (x : Visit). x.evals + x.left + bounds x.outbox) e.0 ∙ none_spent ctx.purse
  ends_kept (stopped Wrong s) r new b e = absurd e
  ends_kept (stopped NoMemory s) r new b e = absurd e

  pub visit_keeps : (r : Visit) (new : ServiceState) → IsVisit allowance k ctx family old r new → r.evals + r.left + bounds r.outbox ≡ ctx.purse
  unfolding IsVisit
  visit_keeps r new e = ends_kept (visited_chunk meaning k start).after r new (visit_balance k start) e

  ends_fit : (t : Ty) (a : After Value) (r : Visit) (new : ServiceState) → Holds (IsGoodValue t) a → Ends allowance ctx.purse a r new → Fit t r new
  ends_fit t (gave v s) r new h e = fit_at t r new (ended_visit allowance (outcome.Value v) s) s e.0 e.1 (h.0, full_value h.0.typed) h.1
  ends_fit t (stopped (Raised x) s) r new h e = fit_at t r new (ended_visit allowance (outcome.Raised x) s) s e.0 e.1 tt h.1
  ends_fit t (stopped WorkSpent s) r new h e = subst (λ (x : Visit). Fit t x new) (sym e.0) (tt, no_notes, no_types, no_packets, subst (λ (n : ServiceState). AreGoodRows n.rows) (sym e.1) h.1.services.rows)
  ends_fit t (stopped Wrong s) r new h e = absurd e
  ends_fit t (stopped NoMemory s) r new h e = absurd e

  visit_fits_at : (e : Entry) (d : Fun) → fun_of k.code k.entry ≡ Some d → IsGoodChunk k → IsGood old → length ctx.neighbours ≤ 8
      → (r : Visit) (new : ServiceState) → IsVisit allowance k ctx family old r new → Fit d.result r new
  unfolding IsVisit
  visit_fits_at e d f t g n r new i =
      let same : e.fun ≡ d = some-same (sym (ap (option_and_then (slice_get k.code.funs)) e.place ∙ e.got) ∙ f) in
      subst (λ (x : Fun). Fit x.result r new) same (ends_fit e.fun.result (visited_chunk meaning k start).after r new (right_at e t g n).holds i)

  pub visit_fits : (d : Fun) → fun_of k.code k.entry ≡ Some d → IsGoodChunk k → IsGood old → length ctx.neighbours ≤ 8
      → (r : Visit) (new : ServiceState) → IsVisit allowance k ctx family old r new → Fit d.result r new
  visit_fits d f t g n r new i = visit_fits_at (entry_of t.typed) d f t g n r new i

  -- the same without a name for the function
  pub visit_leaves : IsGoodChunk k → IsGood old → length ctx.neighbours ≤ 8 → (r : Visit) (new : ServiceState) → IsVisit allowance k ctx family old r new
      → AreGoodNotes r.notes × All NoteHasTypes r.notes × AreGoodPackets r.outbox × AreGoodRows new.rows
  unfolding IsVisit
  visit_leaves t g n r new i =
      let e = entry_of t.typed in
      let f = ends_fit e.fun.result (visited_chunk meaning k start).after r new (right_at e t g n).holds i in
      (f.1, f.2, f.3, f.4)

module _ (k : Chunk) (ctx around : Ctx) (family : Family) (old : ServiceState) (o : Own) where
  -- a state that begins a visit
  abbrev pub Begins : Type 0
  Begins = (o ≡ record { ctx = around; family = family; work = 4000000; evals = 0; outbox = []; notes = [] }) × (around ≡ ctx)

  begins : Begins → joined_state o old ≡ start k ctx family old
  begins h = ap (λ (x : Own). joined_state x old) h.0 ∙ ap (λ (x : Ctx). begun_state allowance x family old) h.1

  pub safe_from : Begins → IsGoodChunk k → IsGood old → length ctx.neighbours ≤ 8 → IsSafe (visited_chunk meaning k (joined_state o old)).asks
  safe_from h t g n = subst (λ (s : VisitState). IsSafe (visited_chunk meaning k s).asks) (sym (begins h)) (visit_safe k ctx family old t g n)

  from_start : (a : After Value) → Begins → (visited_chunk meaning k (joined_state o old)).after ≡ a → (visited_chunk meaning k (start k ctx family old)).after ≡ a
  from_start a h e = subst (λ (s : VisitState). (visited_chunk meaning k s).after ≡ a) (begins h) e

  pub never_from : Begins → IsGoodChunk k → IsGood old → length ctx.neighbours ≤ 8 → (e : EvalStop) (s : VisitState) → e ≡ Wrong
      → (e ≢ NoMemory → (visited_chunk meaning k (joined_state o old)).after ≡ stopped e s) → ⊥
  never_from h t g n e s w m =
      let f = subst (λ (x : EvalStop). x ≢ NoMemory → (visited_chunk meaning k (joined_state o old)).after ≡ stopped x s) w m in
      visit_never k ctx family old t g n s (from_start (stopped Wrong s) h (f (λ (x : Wrong ≡ NoMemory). cc)))

  pub gave_from : Begins → (v : Value) (s : VisitState) (r : Visit) → (visited_chunk meaning k (joined_state o old)).after ≡ gave v s
      → r ≡ ended_visit allowance (outcome.Value v) s → IsVisit allowance k ctx family old r s.services
  gave_from h v s r m q =
      subst (λ (x : Visit). IsVisit allowance k ctx family old x s.services) (sym q) (visit_gave k ctx family old v s (from_start (gave v s) h m))

  pub raised_from : Begins → (x : Exn) (e : EvalStop) (s : VisitState) (r : Visit) → e ≡ Raised x
      → (e ≢ NoMemory → (visited_chunk meaning k (joined_state o old)).after ≡ stopped e s)
      → r ≡ ended_visit allowance (outcome.Raised x) s → IsVisit allowance k ctx family old r s.services
  raised_from h x e s r w m q =
      let f = subst (λ (y : EvalStop). y ≢ NoMemory → (visited_chunk meaning k (joined_state o old)).after ≡ stopped y s) w m in
      let e = from_start (stopped (Raised x) s) h (f (λ (y : Raised x ≡ NoMemory). cc)) in
      subst (λ (y : Visit). IsVisit allowance k ctx family old y s.services) (sym q) (visit_raised k ctx family old x s e)

  pub spent_from : Begins → (b : ℕ) (e : EvalStop) (s : VisitState) (r : Visit) → ctx.purse ≡ b → e ≡ WorkSpent
      → (e ≢ NoMemory → (visited_chunk meaning k (joined_state o old)).after ≡ stopped e s)
      → r ≡ spent_visit allowance b → IsVisit allowance k ctx family old r s.services
  spent_from h b e s r p w m q =
      let f = subst (λ (y : EvalStop). y ≢ NoMemory → (visited_chunk meaning k (joined_state o old)).after ≡ stopped y s) w m in
      let e = from_start (stopped WorkSpent s) h (f (λ (y : WorkSpent ≡ NoMemory). cc)) in
      subst (λ (y : Visit). IsVisit allowance k ctx family old y s.services) (sym (q ∙ ap (spent_visit allowance) (sym p))) (visit_spent k ctx family old s e)

-- ---- a visit as the code begins it

module _ (k0 k : Chunk) (ctx : Ctx) (f0 family : Family) (old : ServiceState) (run : Run) (same : k0 ≡ k) (family_is : f0 ≡ family) (start : IsStart k0 (begun_own ctx f0) run) where
  own_is : run.state ≡ begun_own ctx family
  own_is = start.state_is ∙ ap (begun_own ctx) family_is

  pub start_safe : IsGoodChunk k → IsGood old → length ctx.neighbours ≤ 8 → IsSafe (visited_chunk meaning k0 (now run old)).asks
  start_safe t g n = rw (same, own_is) (safe_from k ctx ctx family old (begun_own ctx family) (refl, refl) t g n)

  start_ends : (pre : List Value) (p : Progress) (new : Run) (m : ServiceState) → RunEnds pre (visited_chunk meaning k0 (now run old)) p new m
      → RunEnds pre (visited_chunk meaning k (begun_state allowance ctx family old)) p new m
  start_ends pre p new m h = rw (same, own_is) at h

  pub start_right : (pre : List Value) (p : Progress) (new : Run) (m : ServiceState) → IsGoodChunk k → IsGood old → length ctx.neighbours ≤ 8
      → RunEnds pre (visited_chunk meaning k0 (now run old)) p new m → IsRightEnd p new
  start_right pre p new m t g n h = record {
    pre = pre;
    want = visited_chunk meaning k (begun_state allowance ctx family old);
    services = m;
    ends = start_ends pre p new m h;
    right = λ s wrong. never_from k ctx ctx family old (begun_own ctx family) (refl, refl) t g n Wrong s refl (λ other. wrong);
  }

  -- what it ends with is the visit of the chunk
  pub start_visits : (r : Result Visit MemoryFault) (bound : ℕ) (pre : List Value) (p : Progress) (new : Run) (m : ServiceState) → ctx.purse ≡ bound
      → RunEnds pre (visited_chunk meaning k0 (now run old)) p new m
      → IfOk r (λ v. (k : Chunk) (ctx : Ctx) (family : Family) (old n : ServiceState) (pre : List Value) → ctx.purse ≡ bound
      → RunEnds pre (visited_chunk meaning k (begun_state allowance ctx family old)) p new n → IsVisit allowance k ctx family old v n)
      → IfOk r (λ v. IsVisit allowance k ctx family old v m)
  start_visits r bound pre p new m purse h visits = ok_map (λ v f. f k ctx family old m pre purse (start_ends pre p new m h)) r visits
