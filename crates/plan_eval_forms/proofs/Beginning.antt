-- Expressions without parts, and the forms of expressions.
use Rattle.std.proofs.Common.{◌≡◌, ◌≢◌, ◌≤◌, ℕ, ℤ, List, subst, arith}
use Rattle.plan_base.specs.declared.name.Name.{Name}
use Rattle.plan_base.specs.declared.tree.Expr.{Expr, Expr-F, out-Expr}
use Rattle.plan_base.specs.declared.tree.Expr as expr
use Rattle.plan_base.specs.declared.tree.Op.{Op}
use Rattle.plan_base.specs.declared.tree.Value.{Value}
use Rattle.plan_base.specs.declared.tree.Value as value
use Rattle.plan_base.specs.Trees.{trees}
use Rattle.service_api.specs.Services.{ServiceState}
use Rattle.plan_meaning.specs.State.{VisitState}
use Rattle.plan_meaning.specs.Run.{weighed_value}
use Rattle.plan_meaning.specs.Safe.{IsSafe}
use Rattle.plan_eval_state.specs.declared.progress.Progress.{Progress}
use Rattle.plan_eval_state.specs.declared.progress.Progress.TheVariants as came
use Rattle.plan_eval_state.specs.declared.run.Run.{Run}
use Rattle.plan_eval_state.specs.Leads.{Leads}
use Rattle.plan_eval_state.specs.Spots.{Spot, layer, begins}
use Rattle.plan_eval_state.specs.Flow.{now, Flows}
use Rattle.plan_eval_state.proofs.Leading.{given_on}
use Rattle.plan_eval_made.specs.declared.here.Here.{Here}
use Rattle.plan_eval_made.specs.Where.{spot}
use Rattle.plan_eval_forms.specs.Parts.{begun_here, Begins}
use Rattle.plan_eval_forms.proofs.Running.{continues_led, continues_settled, keeps_quiet}

pub leaf_begins : (here : Here) (e : Expr) (depth : ℕ) (run : Run) (m : ServiceState) (p : Progress) (new : Run) → Flows (spot here e run.stack) run.stack (begun_here here e run m) p new m
    → p ≢ came.Wait → new.state.work ≤ run.state.work → new.codes ≡ run.codes → Begins here e depth run m p new m
leaf_begins here e depth run m p new flows settled falls codes =
    continues_settled depth (spot here e run.stack) run.stack (begun_here here e run m) run m p new m flows settled (keeps_quiet run new m falls codes)

int_leads : (s : Spot) (n : ℤ) (st : VisitState) → layer s ≡ Expr-F.Int n → Leads (begins s st) (weighed_value (value.Int n) st)
int_leads s n st form = rw form (given_on (value.Int n) st weighed_value)

pub int_begins : (here : Here) (e : Expr) (n i : ℤ) (depth : ℕ) (run : Run) (m : ServiceState) (p : Progress) (new : Run) → out-Expr e ≡ Expr-F.Int n → IsSafe (begun_here here e run m).asks
    → i ≡ n → ((s : Spot) (k : ServiceState) → Flows s run.stack (weighed_value (value.Int i) (now run k)) p new k) → p ≢ came.Wait → new.state.work ≤ run.state.work → new.codes ≡ run.codes
    → Begins here e depth run m p new m
int_begins here e n i depth run m p new form safe same flows settled falls codes =
    let s = spot here e run.stack in
    continues_led depth s run.stack (begun_here here e run m) run m p new m (weighed_value (value.Int n) (now run m)) safe (int_leads s n (now run m) form)
    (continues_settled depth s run.stack (weighed_value (value.Int n) (now run m)) run m p new m (subst (λ j. Flows s run.stack (weighed_value (value.Int j) (now run m)) p new m) same (flows s m)) settled
    (keeps_quiet run new m falls codes))

-- ---- forms

pub int_form : (n : ℤ) → out-Expr (expr.Int n) ≡ Expr-F.Int n
int_form n = grind (arith, trees)

pub var_form : (x : Name) → out-Expr (expr.Var x) ≡ Expr-F.Var x
var_form x = grind (arith, trees)

pub binary_form : (o : Op) (a b : Expr) → out-Expr (expr.Binary o a b) ≡ Expr-F.Binary o a b
binary_form o a b = grind (arith, trees)

pub tuple_form : (es : List Expr) → out-Expr (expr.Tuple es) ≡ Expr-F.Tuple es
tuple_form es = grind (arith, trees)

pub part_form : (i : ℕ) (a : Expr) → out-Expr (expr.Part i a) ≡ Expr-F.Part i a
part_form i a = grind (arith, trees)

pub not_form : (a : Expr) → out-Expr (expr.Not a) ≡ Expr-F.Not a
not_form a = grind (arith, trees)

pub chunk_form : (f : Name) (es : List Expr) → out-Expr (expr.ChunkOf f es) ≡ Expr-F.ChunkOf f es
chunk_form f es = grind (arith, trees)

pub remote_form : (a h n : Expr) (r : Name) → out-Expr (expr.OnRemote a h n r) ≡ Expr-F.OnRemote a h n r
remote_form a h n r = grind (arith, trees)

pub near_form : (a h n d : Expr) → out-Expr (expr.OnNeighbor a h n d) ≡ Expr-F.OnNeighbor a h n d
near_form a h n d = grind (arith, trees)
