-- A program has no more expressions than its code has bytes, so that the sizes of a typed program are small.
use Rattle.std.proofs.Common.{◌≡◌, ◌≤◌, ℕ, List, [], ◌∷◌, min, sym, subst, arith, sum_by}
use Rattle.std.proofs.lemmas.Bool.Decides.{nat_tests}
use Rattle.std.specs.Prelude.{map}
use Rattle.std.proofs.lemmas.List.Sums.{sum_by-cons}
use Rattle.plan_base.specs.Sizes.{expr_size, expr_size_level, clause_size, fun_size, code_size, expr_nodes, expr_nodes_level, clause_nodes, program_nodes}
use Rattle.plan_types_spec.specs.Typing.{Typed}
use Rattle.plan_base.proofs.SizeLaws.{expr_size_out, expr_nodes_out}
use Rattle.plan_base.specs.declared.tree.Expr.{Expr, Expr-F, roll-Expr, out-roll-Expr, map-Expr, ind-Expr}
use Rattle.plan_base.specs.declared.tree.Clause.{Clause, Clause-F, roll-Clause, out-roll-Clause}
use Rattle.plan_base.specs.declared.tree.Fun.{Fun}
use Rattle.plan_base.specs.declared.tree.Program.{Program}

-- sums of what is no more
sums : {X Y : Type 0} (f g : Y → ℕ) (v : X → Y) → ((x : X) → f (v x) ≤ g (v x)) → (xs : List X) → sum_by f (map v xs) ≤ sum_by g (map v xs)
sums f g v h [] = omega arith
sums f g v h (x ∷ xs) = let a = h x in let b = sums f g v h xs in let c = sum_by-cons f (v x) (map v xs) in let d = sum_by-cons g (v x) (map v xs) in omega (arith, a, b, c, d)

all_sums : {Y : Type 0} (f g : Y → ℕ) → ((y : Y) → f y ≤ g y) → (ys : List Y) → sum_by f ys ≤ sum_by g ys
all_sums f g h [] = omega arith
all_sums f g h (y ∷ ys) = let a = h y in let b = all_sums f g h ys in let c = sum_by-cons f y ys in let d = sum_by-cons g y ys in omega (arith, a, b, c, d)

level : {X Y : Type 0} (v : X → Expr) → ((x : X) → expr_nodes (v x) ≤ expr_size (v x)) → (w : Y → Clause) → ((y : Y) → clause_nodes (w y) ≤ clause_size (w y)) → (e : Expr-F X Y)
    → expr_nodes_level expr_nodes clause_nodes (map-Expr X Y Expr Clause v w e) ≤ expr_size_level expr_size clause_size (map-Expr X Y Expr Clause v w e)
level v h w k (Expr-F.Tuple es) = let a = sums expr_nodes expr_size v h es in omega (arith, a)
level v h w k (Expr-F.Call f es) = let a = sums expr_nodes expr_size v h es in omega (arith, a)
level v h w k (Expr-F.If a b c) = let p = h a in let q = h b in let r = h c in omega (arith, p, q, r)
level v h w k (Expr-F.Let x t a b) = let p = h a in let q = h b in omega (arith, p, q)
level v h w k (Expr-F.Then a b) = let p = h a in let q = h b in omega (arith, p, q)
level v h w k (Expr-F.And a b) = let p = h a in let q = h b in omega (arith, p, q)
level v h w k (Expr-F.Or a b) = let p = h a in let q = h b in omega (arith, p, q)
level v h w k (Expr-F.Not a) = let p = h a in omega (arith, p)
level v h w k (Expr-F.Binary o a b) = let p = h a in let q = h b in omega (arith, p, q)
level v h w k (Expr-F.Part i a) = let p = h a in omega (arith, p)
level v h w k (Expr-F.Try a cs) = let p = h a in let q = sums clause_nodes clause_size w k cs in omega (arith, p, q)
level v h w k (Expr-F.Foldl f a b) = let p = h a in let q = h b in omega (arith, p, q)
level v h w k (Expr-F.Foldr f a b) = let p = h a in let q = h b in omega (arith, p, q)
level v h w k (Expr-F.ChunkOf f es) = let a = sums expr_nodes expr_size v h es in omega (arith, a)
level v h w k (Expr-F.Eval a) = let p = h a in omega (arith, p)
level v h w k (Expr-F.OnRemote a b c x) = let p = h a in let q = h b in let r = h c in omega (arith, p, q, r)
level v h w k (Expr-F.OnNeighbor a b c d) = let p = h a in let q = h b in let r = h c in let s = h d in omega (arith, p, q, r, s)
level v h w k _ = omega arith

size_by_level : (x : Expr-F Expr Clause) → expr_nodes_level expr_nodes clause_nodes x ≤ expr_size_level expr_size clause_size x → expr_nodes (roll-Expr x) ≤ expr_size (roll-Expr x)
size_by_level x h =
    rw (expr_nodes_out (roll-Expr x), expr_size_out (roll-Expr x), out-roll-Expr x) h

caught : (c : Clause) → expr_nodes c.body ≤ expr_size c.body → clause_nodes c ≤ clause_size c
caught c h = omega (arith, h)

-- an expression has no more expressions than its code has bytes
pub nodes_under : (e : Expr) → expr_nodes e ≤ expr_size e
nodes_under = ind-Expr (λ e. expr_nodes e ≤ expr_size e) (λ c. clause_nodes c ≤ clause_size c)
    (λ x y e. size_by_level x (let P : Expr-F Expr Clause → Type 0 = λ z. expr_nodes_level expr_nodes clause_nodes z ≤ expr_size_level expr_size clause_size z in subst P e (level (λ q. q.0) (λ q. q.1) (λ q. q.0) (λ q. q.1) y)))
    (λ x y e. caught (roll-Clause x) (let P : Clause-F Expr Clause → Type 0 = λ z. expr_nodes z.body ≤ expr_size z.body in subst P (sym (out-roll-Clause x)) (subst P e y.body.1)))

fun_under : (f : Fun) → expr_nodes f.body ≤ fun_size f
fun_under f = let a = nodes_under f.body in omega (arith, a)

pub program_under : (p : Program) → program_nodes p ≤ code_size p
unfolding program_nodes code_size
program_under p = let a = all_sums (λ f. expr_nodes f.body) fun_size fun_under p.funs in omega (arith, a)

small : (n m : ℕ) → n ≤ m → min n m ≡ n
small n m h = grind (arith, nat_tests)

-- no size of a typed program passes its range
pub small_nodes : (p : Program) → Typed p → min (program_nodes p) 4294967295 ≡ program_nodes p
small_nodes p t = let a = program_under p in let b = t.small in small (program_nodes p) 4294967295 (omega (arith, a, b))

pub small_code : (p : Program) → Typed p → min (code_size p) 18446744073709551615 ≡ code_size p
small_code p t = let b = t.small in small (code_size p) 18446744073709551615 (omega (arith, b))
