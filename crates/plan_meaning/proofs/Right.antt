-- Evaluations that are right, put together.
use Rattle.std.proofs.Common.{◌≡◌, ◌≢◌, ℕ, zero, suc, ◌-◌, ◌<◌, ◌≤◌, Bool, true, false, ◌||◌, if◌then◌else◌, nat_lt, ℤ, List, [], ◌∷◌, ◌++◌, Option, Some, None, refl, arith}
use Rattle.std.specs.List.{All, slice_index_or}
use Rattle.std.proofs.lemmas.List.Elements.{All-append}
use Rattle.std.proofs.lemmas.Bool.Decides.{nat_tests}
use Rattle.plan_base.specs.declared.ids.Host.{Host}
use Rattle.plan_base.specs.declared.ids.Dev.{Dev}
use Rattle.plan_base.specs.declared.name.Name.{Name}
use Rattle.plan_base.specs.declared.tree.Exn.{Exn}
use Rattle.plan_base.specs.declared.tree.Ty.{Ty}
use Rattle.plan_base.specs.declared.tree.Svc.{Svc}
use Rattle.plan_base.specs.declared.tree.Value.{Value}
use Rattle.plan_base.specs.declared.tree.Chunk.{Chunk}
use Rattle.plan_base.specs.Sizes.{weight, nesting}
use Rattle.plan_types_spec.specs.Typing.{IsSmall, HasType}
use Rattle.service_api.specs.declared.answer.Note.{Note}
use Rattle.service_api.specs.declared.answer.Answer.{Answer}
use Rattle.service_api.specs.declared.answer.Answer.TheVariants.{Gives, Raises}
use Rattle.service_api.specs.declared.router.Hop.{Hop}
use Rattle.service_api.specs.declared.router.Hop.TheVariants.{To, NoService, NoRoute}
use Rattle.service_api.specs.Routes.{hop, default_route}
use Rattle.service_api.specs.Services.{Served, served_call, called_services, IsGoodValue, IsGoodChunk, AreGoodValues, IsGoodAnswer, IsGoodServed, IsGoodNote, IsGoodOptionNote, AreGoodRows}
use Rattle.plan_meaning.specs.declared.stop.EvalStop.TheVariants.{Raised, WorkSpent, Wrong, NoMemory}
use Rattle.plan_meaning.specs.State.{VisitState}
use Rattle.plan_meaning.specs.Run.{After, gave, stopped, RunStep, pure, raise, spend, is_too_large, serve, answered_call, notes_after}
use Rattle.plan_meaning.specs.Meaning.{no_bound, is_paid, bound_of, sent_packet, sent_by, send_remote, is_next, not_neighbour, send_neighbour}
use Rattle.plan_meaning.specs.Safe.{AreGoodNotes, IsGoodSent, IsGoodState, Holds, IsRight, Yields}
use Rattle.plan_meaning.proofs.Formed.{IsFormed, well_formed}

pub raised_not_wrong : (x : Exn) → Raised x ≢ Wrong
raised_not_wrong x e = cc

work_spent : WorkSpent ≢ Wrong
work_spent e = cc

no_memory : NoMemory ≢ Wrong
no_memory e = cc

module _ {A : Type 0} (P : A → Type 0) where
  pub pure_yields : (a : A) → P a → Yields P (pure a)
  pure_yields a h s g = record { safe = tt; holds = (h, g) }

  pub raise_yields : (x : Exn) → Yields P (raise x)
  raise_yields x s g = record { safe = tt; holds = (raised_not_wrong x, g) }

  pub choose : (b : Bool) (x y : RunStep A) → IsRight P x → IsRight P y → IsRight P (if b then x else y)
  choose true x y h k = h
  choose false x y h k = k

-- a good value of the type
abbrev pub Good : Ty → Value → Type 0
Good t v = IsGoodValue t v

-- a value that has the type and is well formed where it is small
abbrev pub Mild : Ty → Value → Type 0
Mild t v = IsSmall v → HasType v t × IsFormed v

pub weaker : {A : Type 0} (P Q : A → Type 0) → ((a : A) → P a → Q a) → (a : After A) → Holds P a → Holds Q a
weaker P Q f (gave a s) h = (f a h.0, h.1)
weaker P Q f (stopped e s) h = h

-- the work left isn't in a good state
pub spent_state : (s : VisitState) (n : ℕ) → IsGoodState s → IsGoodState (record s { work = n })
spent_state s n g = record { services = g.services; notes = g.notes; outbox = g.outbox; near = g.near }

pub spend_yields : (n : ℕ) → Yields {A = Unit {0}} (λ _. Unit {0}) (spend n)
unfolding spend
spend_yields n s g =
    choose (λ _. Unit {0}) (nat_lt s.work n) _ _ (record { safe = tt; holds = (work_spent, g) }) (record { safe = tt; holds = (tt, spent_state s (s.work - n) g) })

small_from : (w n : ℕ) → (nat_lt 16384 w || nat_lt 4 n) ≡ false → (w ≤ 16384) × (n ≤ 4)
small_from w n e = (grind (arith, nat_tests), grind (arith, nat_tests))

pub is_small : (v : Value) → is_too_large v ≡ false → IsSmall v
unfolding is_too_large
is_small v e = let k = small_from (weight v) (nesting v) e in record { weighs = k.0; nests = k.1 }

-- what isn't too large is good
pub mild_good : (t : Ty) (v : Value) → is_too_large v ≡ false → Mild t v → Good t v
mild_good t v e h = let small = is_small v e in record { typed = (h small).0; small = small; formed = well_formed v (h small).1 small }

pub paid_state : (s : VisitState) (n m : ℕ) → IsGoodState s → IsGoodState (record s { ctx = record s.ctx { purse = n }; evals = m })
paid_state s n m g = record { services = g.services; notes = g.notes; outbox = g.outbox; near = g.near }

alone : {X : Type 0} (P : X → Type 0) (x : X) → P x → (i : ℕ) (d : X) → i < 1 → P (slice_index_or (x ∷ []) i d)
alone P x h zero d l = h
alone P x h (suc i) d l = absurd (omega arith)

all_behind : {X : Type 0} (P : X → Type 0) (xs : List X) (x : X) → All P xs → P x → All P (xs ++ x ∷ [])
all_behind P xs x h k = All-append P xs (x ∷ []) h (λ i d l. alone P x k i d l)

sent_right : (dev : Dev) (k : Chunk) (h : Host) (n : ℕ) (r : Name) → IsGoodChunk k → Yields {A = Unit {0}} (λ _. Unit {0}) (sent_packet dev k h n r)
sent_right dev k h n r t s g =
    record { safe = t; holds = (tt, record { services = g.services; notes = g.notes; outbox = all_behind IsGoodSent s.outbox _ g.outbox (t, refl); near = g.near }) }

sent_by_right : (hop : Hop) (k : Chunk) (h : Host) (n : ℕ) (r : Name) → IsGoodChunk k → Yields {A = Unit {0}} (λ _. Unit {0}) (sent_by hop k h n r)
sent_by_right (To via dev) k h n r t = sent_right dev k h n r t
sent_by_right NoService k h n r t = raise_yields (λ _. Unit {0}) _
sent_by_right NoRoute k h n r t = raise_yields (λ _. Unit {0}) _

pub remote_yields : (k : Chunk) (h : Host) (n : ℤ) (r : Name) → IsGoodChunk k → Yields {A = Unit {0}} (λ _. Unit {0}) (send_remote k h n r)
unfolding send_remote
remote_yields k h n r t s g =
    choose (λ _. Unit {0}) (is_paid n s.ctx.purse) _ _ (sent_by_right (hop s.ctx.router r s.ctx.here h) k h (bound_of n) r t s g) (record { safe = tt; holds = (raised_not_wrong no_bound, g) })

pub neighbour_yields : (k : Chunk) (h : Host) (n : ℤ) (d : Dev) → IsGoodChunk k → Yields {A = Unit {0}} (λ _. Unit {0}) (send_neighbour k h n d)
unfolding send_neighbour
neighbour_yields k h n d t s g =
    choose (λ _. Unit {0}) (is_paid n s.ctx.purse) _ _
    (choose (λ _. Unit {0}) (is_next s d h) _ _ (sent_right d k h (bound_of n) default_route t s g) (record { safe = tt; holds = (raised_not_wrong not_neighbour, g) }))
    (record { safe = tt; holds = (raised_not_wrong no_bound, g) })

noted_good : (o : Option Note) (notes : List Note) → IsGoodOptionNote o → AreGoodNotes notes → AreGoodNotes (notes_after o notes)
noted_good None notes h k = k
noted_good (Some n) notes h k = all_behind IsGoodNote notes n k h

left_good : (s : VisitState) (r : Served) → IsGoodState s → AreGoodRows r.rows → IsGoodState (record s { services = called_services r.rows s.services })
left_good s r g h = record { services = record { serve = g.services.serve; rows = h }; notes = g.notes; outbox = g.outbox; near = g.near }

answered_good : (d : Svc) (a : Answer) (s : VisitState) → IsGoodAnswer d a → IsGoodState s → Holds (Good d.result) (answered_call a s)
answered_good d (Gives v told) s h g = (h.0, record { services = g.services; notes = noted_good told s.notes h.1 g.notes; outbox = g.outbox; near = g.near })
answered_good d (Raises x) s h g = (raised_not_wrong x, g)

pub serve_yields : (d : Svc) (args : List Value) → AreGoodValues d.params args → Yields (Good d.result) (serve d args)
unfolding serve
serve_yields d args h s g =
    let r = served_call s.services d args s.ctx in
    let k : IsGoodServed d r = g.services.serve d args s.ctx s.services.rows g.services.rows h g.near in
    record { safe = h; holds = answered_good d r.answer _ k.answer (left_good s r g k.rows) }
