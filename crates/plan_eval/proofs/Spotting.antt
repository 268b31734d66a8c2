-- The spot that the code sees where the walk has found a place, over plain variables.
use Rattle.std.proofs.Common.{◌≡◌, ℕ, List, Option, Some, sym, ap, ◌∙◌}
use Rattle.containers.proofs.Options.{some-same}
use Rattle.plan_base.specs.declared.tree.Expr.{Expr}
use Rattle.plan_base.specs.declared.tree.Program.{Program}
use Rattle.plan_base.specs.declared.tree.Value.{Value}
use Rattle.plan_eval_state.specs.Spots.{Spot, HasEnv, IsOpen}
use Rattle.plan_eval_state.specs.Loop.{bare}
use Rattle.plan_eval_state.specs.declared.continuation.Activation.{Activation}
use Rattle.plan_eval_state.specs.declared.continuation.Continuation.{Continuation}
use Rattle.plan_eval_made.specs.declared.here.Here.{Here}
use Rattle.plan_eval_made.specs.Where.{spot, site, IsHere, Ready}
use Rattle.plan_eval_made.proofs.Standing.{spot_is, sees_is}
use Rattle.plan_eval.specs.declared.place.Place.{Place}
use Rattle.plan_eval.specs.Walk.{innermost, IsNearest, IsBody, site_of, site_if}

-- what the code sees of the place that the walk has come to
pub record Sees (here : Here) (e : Expr) (s : Spot) (codes : List Program) (stack : List Value) : Type 0 where
  pub is : spot here e stack ≡ s
  pub ready : Ready here stack codes

pub sees : (here : Here) (p : Place) (s : Spot) (codes : List Program) (stack : List Value) (first : Activation) (ks : List Continuation) (from : ℕ) → IsHere codes here
    → IsNearest first ks (record { number = here.number; fun = here.fun; base = here.base }) from → here.bindings.now ≡ p.bindings → (o : Option Place) → o ≡ Some p
    → (IsBody codes (record { number = here.number; fun = here.fun; base = here.base }) here.function.now
    → site_if (record { number = here.number; fun = here.fun; base = here.base }) here.function.now o ≡ innermost codes first ks)
    → innermost codes first ks ≡ Some (bare s) → IsOpen codes s → HasEnv s stack → Sees here p.expr.now s codes stack
sees here p s codes stack first ks from place near bindings o is walk found is_open env =
    let a : Activation = record { number = here.number; fun = here.fun; base = here.base } in
    let there : site_of a here.function.now p ≡ bare s =
    some-same (ap (site_if a here.function.now) (sym is) ∙ walk (record { code = here.code.now; program = place.program; there = place.function }) ∙ found) in
    let same : bare s ≡ site here p.expr.now = sym (rw bindings there) in
    record { is = spot_is here p.expr.now s codes stack same is_open place env; ready = sees_is here p.expr.now s codes stack same place env }
