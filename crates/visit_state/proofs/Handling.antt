-- The meaning of the clauses, by the one that catches the exception.
use Rattle.std.proofs.Common.{◌≡◌, ℕ, Bool, true, false, if◌then◌else◌, List, [], ◌∷◌, Option, Some, None, refl, ap, ◌∙◌}
use Rattle.plan_base.specs.declared.tree.Clause.{Clause}
use Rattle.plan_base.specs.declared.tree.Exn.{Exn}
use Rattle.plan_base.specs.declared.tree.Expr.{Expr}
use Rattle.plan_base.specs.declared.tree.Program.{Program}
use Rattle.plan_base.specs.declared.tree.Value.{Value}
use Rattle.plan_meaning.specs.State.{VisitState}
use Rattle.plan_meaning.specs.Run.{Run, raise}
use Rattle.plan_meaning.specs.Meaning.{Env, Runs, catches, handled_exception}
use Rattle.visit_state.specs.Handlers.{handler}

module _ (run : Runs) (code : Program) (seen : ℕ) (env : Env) where
  abbrev ends_by : Option Expr → Exn → Run Value
  ends_by (Some b) x = run code seen env b
  ends_by None x = raise x

  chosen_ends_by : (t : Bool) (b : Expr) (o : Option Expr) (x : Exn) (rest : Run Value) → rest ≡ ends_by o x
      → (if t then run code seen env b else rest) ≡ ends_by (if t then Some b else o) x
  chosen_ends_by true b o x rest e = refl
  chosen_ends_by false b o x rest e = e

  handled_is : (ks : List Clause) (x : Exn) → handled_exception run code seen env ks x ≡ ends_by (handler ks x) x
  handled_is [] x = refl
  handled_is (k ∷ ks) x = chosen_ends_by (catches k.name x) k.body (handler ks x) x (handled_exception run code seen env ks x) (handled_is ks x)

  pub handled_caught : (ks : List Clause) (x : Exn) (b : Expr) (s : VisitState) → handler ks x ≡ Some b → handled_exception run code seen env ks x s ≡ run code seen env b s
  handled_caught ks x b s e = ap (λ (r : Run Value). r s) (handled_is ks x ∙ ap (λ o. ends_by o x) e)

  pub handled_uncaught : (ks : List Clause) (x : Exn) (s : VisitState) → handler ks x ≡ None → handled_exception run code seen env ks x s ≡ raise x s
  handled_uncaught ks x s e = ap (λ (r : Run Value). r s) (handled_is ks x ∙ ap (λ o. ends_by o x) e)
