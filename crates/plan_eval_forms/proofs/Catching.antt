-- `try`s.
use Rattle.std.proofs.Common.{◌≡◌, ◌<◌, ℕ, zero, suc, arith, Bool, true, false, if◌then◌else◌, List, [], ◌∷◌, length, map, slice_get, Option, Some, None, refl, sym, ap, ◌∙◌}
use Rattle.containers.proofs.Options.{none-some, some-same}
use Rattle.plan_base.specs.declared.tree.Clause.{Clause}
use Rattle.plan_base.specs.declared.tree.Exn.{Exn}
use Rattle.plan_base.specs.declared.tree.Expr.{Expr, Expr-F, out-Expr}
use Rattle.plan_base.specs.declared.tree.Expr as expr
use Rattle.plan_base.specs.Trees.{trees}
use Rattle.plan_meaning.specs.Meaning.{catches}
use Rattle.plan_eval_state.specs.Forms.{branches, clauses, clause_for, one_more}

clause_by : (c : Bool) (o : Option ℕ) (n m : ℕ) → (if c then Some 0 else one_more o) ≡ Some n → ((k : ℕ) → o ≡ Some k → k < m) → n < suc m
clause_by true o n m h less = let e : 0 ≡ n = some-same h in omega (arith, e)
clause_by false (Some k) n m h less = let e : suc k ≡ n = some-same h in let l = less k refl in omega (arith, e, l)
clause_by false None n m h less = absurd (none-some h)

-- the number of a clause is that of one
pub clause_within : (ks : List Clause) (x : Exn) (n : ℕ) → clause_for ks x ≡ Some n → n < length ks
clause_within [] x n h = absurd (none-some h)
clause_within (k ∷ ks) x n h = clause_by (catches k.name x) (clause_for ks x) n (length ks) h (λ m is. clause_within ks x m is)

map_there : {A B : Type 0} (f : A → B) (xs : List A) (n : ℕ) (x : A) → slice_get xs n ≡ Some x → slice_get (map f xs) n ≡ Some (f x)
map_there f [] n x is = absurd (none-some is)
map_there f (y ∷ xs) zero x is = ap (λ z. Some (f z)) (some-same is)
map_there f (y ∷ xs) (suc n) x is = map_there f xs n x is

try_form : (a : Expr) (ks : List Clause) → out-Expr (expr.Try a ks) ≡ Expr-F.Try a ks
try_form a ks = grind (arith, trees)

-- a clause of a `try` catches it
pub caught_by : (e a : Expr) (ks seen : List Clause) (k : Clause) (x : Exn) (o : Option ℕ) (n : ℕ) → e ≡ expr.Try a ks → seen ≡ ks → o ≡ clause_for seen x → o ≡ Some n → slice_get ks n ≡ Some k
    → (clause_for (clauses (out-Expr e)) x ≡ Some n) × (slice_get (branches (out-Expr e)) n ≡ Some k.body)
caught_by e a ks seen k x o n form same is number there =
    rw (form, try_form a ks) (ap (λ l. clause_for l x) (sym same) ∙ sym is ∙ number, map_there (λ k. k.body) ks n k there)
