-- Where the innermost expression stands, as it is found from what waits.
use Rattle.std.specs.Prelude.{◌≡◌, ℕ, ◌-◌, ◌≤◌, List, [], ◌∷◌, ◌++◌, length, drop, map, slice_get, Option, Some, None}
use Rattle.plan_base.specs.declared.tree.Fun.{Fun}
use Rattle.plan_base.specs.declared.tree.Program.{Program}
use Rattle.plan_eval_state.specs.declared.continuation.Activation.{Activation}
use Rattle.plan_eval_state.specs.declared.continuation.Continuation.{Continuation}
use Rattle.plan_eval_state.specs.declared.continuation.Continuation.TheVariants.{Call, Step, Chunk}
use Rattle.plan_eval_state.specs.Places.{at_place}
use Rattle.plan_eval_state.specs.Spots.{counted}
use Rattle.plan_eval_state.specs.Loop.{Site, body_site, walked}
use Rattle.plan_eval.specs.declared.place.Place.{Place}

-- the evaluation of a body that waits so
abbrev pub activation_of : Continuation → Option Activation
activation_of (Call a) = Some a
activation_of (Step a) = Some a
activation_of (Chunk a) = Some a
activation_of _ = None

abbrev pub then_walked : List Program → Option Site → Continuation → Option Site
then_walked codes (Some t) k = walked codes t k
then_walked codes None k = None

abbrev pub or_walked : List Program → Option Activation → Option Site → Continuation → Option Site
or_walked codes (Some a) t k = body_site a (slice_get codes a.number)
or_walked codes None t k = then_walked codes t k

-- where the innermost expression stands, along what waits from the nearest activation on, which is the first where none waits
abbrev pub innermost : List Program → Activation → List Continuation → Option Site
innermost codes first [] = body_site first (slice_get codes first.number)
innermost codes first (k ∷ ks) = or_walked codes (activation_of k) (innermost codes first ks) k

-- the outermost of what waits, so many
abbrev pub outermost : ℕ → List Continuation → List Continuation
outermost n ks = drop (length ks - n) ks

-- an activation in which the innermost expression stands, behind so many that wait outside of it and for it
pub record IsNearest (first : Activation) (ks : List Continuation) (a : Activation) (from : ℕ) : Type 0 where
  pub within : from ≤ length ks
  pub body : (codes : List Program) → innermost codes first (outermost from ks) ≡ body_site a (slice_get codes a.number)
  pub inside : (i : ℕ) (k : Continuation) → from ≤ i → at_place ks i ≡ Some k → activation_of k ≡ None

-- the function of an activation
pub record IsBody (codes : List Program) (a : Activation) (f : Fun) : Type 0 where
  pub code : Program
  pub program : slice_get codes a.number ≡ Some code
  pub there : slice_get code.funs a.fun ≡ Some f

-- where an expression stands that the walk has come to, in the body of a function that was entered so
abbrev pub site_of : Activation → Fun → Place → Site
site_of a f p =
    record {
      number = a.number;
      fun = a.fun;
      names = map (λ q. q.name) f.params ++ map (λ b. b.name.now) p.bindings;
      places = counted a.base f.params ++ map (λ b. b.at) p.bindings;
      expr = p.expr.now;
    }

abbrev pub site_if : Activation → Fun → Option Place → Option Site
site_if a f (Some p) = Some (site_of a f p)
site_if a f None = None
