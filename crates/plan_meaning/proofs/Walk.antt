-- What holds of two ways to run an expression where it holds of their parts. A relation that the steps of the meaning keep
-- relates the runs at two depths.
use Rattle.std.proofs.Common.{ℕ, zero, suc, ◌≤◌, Bool, true, false, if◌then◌else◌, ℤ, List, [], ◌∷◌, ◌++◌, take, reverse, Option, Some, None, slice_get, arith}
use Rattle.plan_base.specs.declared.name.Name.{Name}
use Rattle.plan_base.specs.declared.ids.Host.{Host}
use Rattle.plan_base.specs.declared.ids.Dev.{Dev}
use Rattle.plan_base.specs.declared.prim.Primitive.{Primitive}
use Rattle.plan_base.specs.declared.tree.Exn.{Exn}
use Rattle.plan_base.specs.declared.tree.Ty.{Ty}
use Rattle.plan_base.specs.declared.tree.Op.{Op}
use Rattle.plan_base.specs.declared.tree.Expr.{Expr, Expr-F, out-Expr}
use Rattle.plan_base.specs.declared.tree.Clause.{Clause}
use Rattle.plan_base.specs.declared.tree.Svc.{Svc}
use Rattle.plan_base.specs.declared.tree.Program.{Program}
use Rattle.plan_base.specs.declared.tree.Value.{Value}
use Rattle.plan_base.specs.declared.tree.Chunk.{Chunk}
use Rattle.plan_base.specs.Trees.{ExprLayer}
use Rattle.plan_types_spec.specs.TypingNames.{place_of, service_of, prim_of}
use Rattle.plan_base.specs.Sizes.{weight}
use Rattle.plan_types_spec.specs.Rules.{Given, gives, raises, unfit, too_large, binary, part, primitive}
use Rattle.plan_meaning.specs.declared.stop.EvalStop.{EvalStop}
use Rattle.plan_meaning.specs.declared.stop.EvalStop.TheVariants.{Raised, WorkSpent}
use Rattle.plan_meaning.specs.Run.{RunStep, Run, ◌>>=◌, pure, stop, wrong, or_wrong, given_value, rescue, spend, weighed_value, is_too_large, whole, serve}
use Rattle.plan_meaning.specs.Meaning.{Env, Runs, binds, bound, as_bool, as_int, as_host, as_dev, as_chunk, as_items, value_of, pay_eval, send_remote, send_neighbour, catches, named_exception}
use Rattle.plan_meaning.specs.Meaning.{values_behind, values, entered_function, applied_at, applied_function, served_or, called_by, called_name, call, tuple, packed_chunk, choice, binding, sequence}
use Rattle.plan_meaning.specs.Meaning.{conjunction, disjunction, negation, operation, selection, handled_exception, attempt, left_along, fold_left, right_along, fold_right, visited_chunk, evaluation}
use Rattle.plan_meaning.specs.Meaning.{remote, neighbour, empty_of, opened_at, opened_expression, node, run_to}
use Rattle.plan_meaning.specs.State.{VisitState}
use Rattle.plan_meaning.specs.Laws.{left_by}

-- of two steps, the one that is taken leaves a state as each of them does
pub choose : (Leaves : VisitState → VisitState → Type 0) {A : Type 0} (s : VisitState) (b : Bool) (x y : RunStep A) → Leaves s (left_by x.after) → Leaves s (left_by y.after) → Leaves s (left_by (if b then x else y).after)
choose Leaves s true x y h k = h
choose Leaves s false x y h k = k

pub record Kept (Rel : (A : Type 0) → Run A → Run A → Type 0) : Type 1 where
  pub gives : (A : Type 0) (a : A) → Rel A (pure a) (pure a)
  pub stops : (A : Type 0) (e : EvalStop) → Rel A (stop e) (stop e)
  pub wrongs : (A : Type 0) → Rel A wrong wrong
  pub binds : (A B : Type 0) (p q : Run A) (f g : A → Run B) → Rel A p q → ((a : A) → Rel B (f a) (g a)) → Rel B (p >>= f) (q >>= g)
  pub rescues : (p q : Run Value) (f g : Exn → Run Value) → Rel Value p q → ((x : Exn) → Rel Value (f x) (g x)) → Rel Value (rescue p f) (rescue q g)
  pub spends : (n : ℕ) → Rel (Unit {0}) (spend n) (spend n)
  pub pays : Rel (Unit {0}) pay_eval pay_eval
  pub remotes : (k : Chunk) (h : Host) (n : ℤ) (r : Name) → Rel (Unit {0}) (send_remote k h n r) (send_remote k h n r)
  pub neighbours : (k : Chunk) (h : Host) (n : ℤ) (d : Dev) → Rel (Unit {0}) (send_neighbour k h n d) (send_neighbour k h n d)
  pub serves : (d : Svc) (args : List Value) → Rel Value (serve d args) (serve d args)

module _ (Rel : (A : Type 0) → Run A → Run A → Type 0) (K : Kept Rel) where
  pub known_kept : (A : Type 0) (o : Option A) → Rel A (or_wrong o) (or_wrong o)
  known_kept A (Some a) = K.gives A a
  known_kept A None = K.wrongs A

  pub given_kept : (g : Given) → Rel Value (given_value g) (given_value g)
  given_kept (gives v) = K.gives Value v
  given_kept (raises x) = K.stops Value (Raised x)
  given_kept unfit = K.wrongs Value

  pub cond_kept : (A : Type 0) (t : Bool) (p p' q q' : Run A) → Rel A p p' → Rel A q q' → Rel A (if t then p else q) (if t then p' else q')
  cond_kept A true p p' q q' h k = h
  cond_kept A false p p' q q' h k = k

  pub weighed_kept : (v : Value) → Rel Value (weighed_value v) (weighed_value v)
  unfolding weighed_value
  weighed_kept v = cond_kept Value (is_too_large v) _ _ _ _ (K.stops Value (Raised too_large)) (K.binds _ _ _ _ _ _ (K.spends (weight v)) (λ _. K.gives Value v))

  pub whole_kept : (p q : Run Value) → Rel Value p q → Rel Value (whole p) (whole q)
  unfolding whole
  whole_kept p q h = K.binds _ _ _ _ _ _ (K.binds _ _ _ _ _ _ (K.spends 1) (λ _. h)) weighed_kept

  module _ (r r' : Runs) (runs : (code : Program) (seen : ℕ) (env : Env) (e : Expr) → Rel Value (r code seen env e) (r' code seen env e)) where
    values_from_kept : (done : List Value) (code : Program) (seen : ℕ) (env : Env) (es : List Expr) → Rel (List Value) (values_behind r done code seen env es) (values_behind r' done code seen env es)
    values_from_kept done code seen env [] = K.gives _ done
    values_from_kept done code seen env (e ∷ es) = K.binds _ _ _ _ _ _ (runs code seen env e) (λ v. values_from_kept (done ++ v ∷ []) code seen env es)

    values_kept : (code : Program) (seen : ℕ) (env : Env) (es : List Expr) → Rel (List Value) (values r code seen env es) (values r' code seen env es)
    unfolding values
    values_kept code seen env es = values_from_kept [] code seen env es

    entered_kept : (code : Program) (at : ℕ) (args : List Value) → Rel Value (entered_function r code at args) (entered_function r' code at args)
    unfolding entered_function
    entered_kept code at args =
        K.binds _ _ _ _ _ _ (known_kept _ (slice_get code.funs at)) (λ f. K.binds _ _ _ _ _ _ (known_kept _ (bound f.params args)) (λ env. runs code at env f.body))

    applied_at_kept : (code : Program) (o : Option ℕ) (args : List Value) → Rel Value (applied_at r code o args) (applied_at r' code o args)
    applied_at_kept code (Some at) args = entered_kept code at args
    applied_at_kept code None args = K.wrongs Value

    applied_kept : (code : Program) (seen : ℕ) (f : Name) (args : List Value) → Rel Value (applied_function r code seen f args) (applied_function r' code seen f args)
    unfolding applied_function
    applied_kept code seen f args = applied_at_kept code (place_of f (take seen code.funs)) args

    served_kept : (o : Option Svc) (code : Program) (seen : ℕ) (f : Name) (args : List Value) → Rel Value (served_or r o code seen f args) (served_or r' o code seen f args)
    served_kept (Some d) code seen f args = K.serves d args
    served_kept None code seen f args = applied_kept code seen f args

    called_by_kept : (o : Option Primitive) (code : Program) (seen : ℕ) (f : Name) (args : List Value) → Rel Value (called_by r o code seen f args) (called_by r' o code seen f args)
    called_by_kept (Some p) code seen f args = given_kept (primitive p args)
    called_by_kept None code seen f args = served_kept (service_of f code.svcs) code seen f args

    called_kept : (code : Program) (seen : ℕ) (f : Name) (args : List Value) → Rel Value (called_name r code seen f args) (called_name r' code seen f args)
    unfolding called_name
    called_kept code seen f args = called_by_kept (prim_of f) code seen f args

    call_kept : (code : Program) (seen : ℕ) (env : Env) (f : Name) (es : List Expr) → Rel Value (call r code seen env f es) (call r' code seen env f es)
    unfolding call
    call_kept code seen env f es = K.binds _ _ _ _ _ _ (values_kept code seen env es) (called_kept code seen f)

    tuple_kept : (code : Program) (seen : ℕ) (env : Env) (es : List Expr) → Rel Value (tuple r code seen env es) (tuple r' code seen env es)
    unfolding tuple
    tuple_kept code seen env es = K.binds _ _ _ _ _ _ (values_kept code seen env es) (λ vs. K.gives Value _)

    packed_kept : (code : Program) (seen : ℕ) (env : Env) (f : Name) (es : List Expr) → Rel Value (packed_chunk r code seen env f es) (packed_chunk r' code seen env f es)
    unfolding packed_chunk
    packed_kept code seen env f es = K.binds _ _ _ _ _ _ (values_kept code seen env es) (λ vs. K.gives Value _)

    choice_kept : (code : Program) (seen : ℕ) (env : Env) (t a b : Expr) → Rel Value (choice r code seen env t a b) (choice r' code seen env t a b)
    unfolding choice
    choice_kept code seen env t a b =
        K.binds _ _ _ _ _ _ (runs code seen env t) (λ v. K.binds _ _ _ _ _ _ (known_kept _ (as_bool v)) (λ c. cond_kept _ c _ _ _ _ (runs code seen env a) (runs code seen env b)))

    binding_kept : (code : Program) (seen : ℕ) (env : Env) (x : Name) (a b : Expr) → Rel Value (binding r code seen env x a b) (binding r' code seen env x a b)
    unfolding binding
    binding_kept code seen env x a b = K.binds _ _ _ _ _ _ (runs code seen env a) (λ v. runs code seen (env ++ binds x v ∷ []) b)

    sequence_kept : (code : Program) (seen : ℕ) (env : Env) (a b : Expr) → Rel Value (sequence r code seen env a b) (sequence r' code seen env a b)
    unfolding sequence
    sequence_kept code seen env a b = K.binds _ _ _ _ _ _ (runs code seen env a) (λ _. runs code seen env b)

    conjunction_kept : (code : Program) (seen : ℕ) (env : Env) (a b : Expr) → Rel Value (conjunction r code seen env a b) (conjunction r' code seen env a b)
    unfolding conjunction
    conjunction_kept code seen env a b =
        K.binds _ _ _ _ _ _ (runs code seen env a) (λ v. K.binds _ _ _ _ _ _ (known_kept _ (as_bool v)) (λ c. cond_kept _ c _ _ _ _ (runs code seen env b) (K.gives Value _)))

    disjunction_kept : (code : Program) (seen : ℕ) (env : Env) (a b : Expr) → Rel Value (disjunction r code seen env a b) (disjunction r' code seen env a b)
    unfolding disjunction
    disjunction_kept code seen env a b =
        K.binds _ _ _ _ _ _ (runs code seen env a) (λ v. K.binds _ _ _ _ _ _ (known_kept _ (as_bool v)) (λ c. cond_kept _ c _ _ _ _ (K.gives Value _) (runs code seen env b)))

    negation_kept : (code : Program) (seen : ℕ) (env : Env) (a : Expr) → Rel Value (negation r code seen env a) (negation r' code seen env a)
    unfolding negation
    negation_kept code seen env a = K.binds _ _ _ _ _ _ (runs code seen env a) (λ v. K.binds _ _ _ _ _ _ (known_kept _ (as_bool v)) (λ c. K.gives Value _))

    operation_kept : (code : Program) (seen : ℕ) (env : Env) (o : Op) (a b : Expr) → Rel Value (operation r code seen env o a b) (operation r' code seen env o a b)
    unfolding operation
    operation_kept code seen env o a b = K.binds _ _ _ _ _ _ (runs code seen env a) (λ x. K.binds _ _ _ _ _ _ (runs code seen env b) (λ y. given_kept (binary o x y)))

    selection_kept : (code : Program) (seen : ℕ) (env : Env) (i : ℕ) (a : Expr) → Rel Value (selection r code seen env i a) (selection r' code seen env i a)
    unfolding selection
    selection_kept code seen env i a = K.binds _ _ _ _ _ _ (runs code seen env a) (λ v. given_kept (part i v))

    handled_kept : (code : Program) (seen : ℕ) (env : Env) (ks : List Clause) (x : Exn) → Rel Value (handled_exception r code seen env ks x) (handled_exception r' code seen env ks x)
    handled_kept code seen env [] x = K.stops Value (Raised x)
    handled_kept code seen env (k ∷ ks) x = cond_kept _ (catches k.name x) _ _ _ _ (runs code seen env k.body) (handled_kept code seen env ks x)

    attempt_kept : (code : Program) (seen : ℕ) (env : Env) (a : Expr) (ks : List Clause) → Rel Value (attempt r code seen env a ks) (attempt r' code seen env a ks)
    unfolding attempt
    attempt_kept code seen env a ks = K.rescues _ _ _ _ (runs code seen env a) (handled_kept code seen env ks)

    left_kept : (code : Program) (seen : ℕ) (f : Name) (acc : Value) (xs : List Value) → Rel Value (left_along r code seen f acc xs) (left_along r' code seen f acc xs)
    left_kept code seen f acc [] = K.gives Value acc
    left_kept code seen f acc (x ∷ xs) = K.binds _ _ _ _ _ _ (applied_kept code seen f (acc ∷ x ∷ [])) (λ v. left_kept code seen f v xs)

    right_kept : (code : Program) (seen : ℕ) (f : Name) (acc : Value) (xs : List Value) → Rel Value (right_along r code seen f acc xs) (right_along r' code seen f acc xs)
    right_kept code seen f acc [] = K.gives Value acc
    right_kept code seen f acc (x ∷ xs) = K.binds _ _ _ _ _ _ (applied_kept code seen f (x ∷ acc ∷ [])) (λ v. right_kept code seen f v xs)

    fold_left_kept : (code : Program) (seen : ℕ) (env : Env) (f : Name) (a l : Expr) → Rel Value (fold_left r code seen env f a l) (fold_left r' code seen env f a l)
    unfolding fold_left
    fold_left_kept code seen env f a l =
        K.binds _ _ _ _ _ _ (runs code seen env a) (λ acc. K.binds _ _ _ _ _ _ (runs code seen env l) (λ v. K.binds _ _ _ _ _ _ (known_kept _ (as_items v)) (λ xs. left_kept code seen f acc xs)))

    fold_right_kept : (code : Program) (seen : ℕ) (env : Env) (f : Name) (a l : Expr) → Rel Value (fold_right r code seen env f a l) (fold_right r' code seen env f a l)
    unfolding fold_right
    fold_right_kept code seen env f a l =
        K.binds _ _ _ _ _ _ (runs code seen env a) (λ acc. K.binds _ _ _ _ _ _ (runs code seen env l) (λ v. K.binds _ _ _ _ _ _ (known_kept _ (as_items v)) (λ xs. right_kept code seen f acc (reverse xs))))

    pub visited_kept : (k : Chunk) → Rel Value (visited_chunk r k) (visited_chunk r' k)
    unfolding visited_chunk
    visited_kept k = applied_at_kept k.code (place_of k.entry k.code.funs) k.args

    evaluation_kept : (code : Program) (seen : ℕ) (env : Env) (a : Expr) → Rel Value (evaluation r code seen env a) (evaluation r' code seen env a)
    unfolding evaluation
    evaluation_kept code seen env a =
        K.binds _ _ _ _ _ _ (runs code seen env a) (λ v. K.binds _ _ _ _ _ _ (known_kept _ (as_chunk v)) (λ k. K.binds _ _ _ _ _ _ K.pays (λ _.
        K.binds _ _ _ _ _ _ (visited_kept k) (λ _. K.gives Value _))))

    remote_kept : (code : Program) (seen : ℕ) (env : Env) (a h n : Expr) (route : Name) → Rel Value (remote r code seen env a h n route) (remote r' code seen env a h n route)
    unfolding remote
    remote_kept code seen env a h n route =
        K.binds _ _ _ _ _ _ (runs code seen env a) (λ v. K.binds _ _ _ _ _ _ (known_kept _ (as_chunk v)) (λ k.
        K.binds _ _ _ _ _ _ (runs code seen env h) (λ w. K.binds _ _ _ _ _ _ (known_kept _ (as_host w)) (λ host.
        K.binds _ _ _ _ _ _ (runs code seen env n) (λ u. K.binds _ _ _ _ _ _ (known_kept _ (as_int u)) (λ b.
        K.binds _ _ _ _ _ _ (K.remotes k host b route) (λ _. K.gives Value _)))))))

    neighbour_kept : (code : Program) (seen : ℕ) (env : Env) (a h n d : Expr) → Rel Value (neighbour r code seen env a h n d) (neighbour r' code seen env a h n d)
    unfolding neighbour
    neighbour_kept code seen env a h n d =
        K.binds _ _ _ _ _ _ (runs code seen env a) (λ v. K.binds _ _ _ _ _ _ (known_kept _ (as_chunk v)) (λ k.
        K.binds _ _ _ _ _ _ (runs code seen env h) (λ w. K.binds _ _ _ _ _ _ (known_kept _ (as_host w)) (λ host.
        K.binds _ _ _ _ _ _ (runs code seen env n) (λ u. K.binds _ _ _ _ _ _ (known_kept _ (as_int u)) (λ b.
        K.binds _ _ _ _ _ _ (runs code seen env d) (λ t. K.binds _ _ _ _ _ _ (known_kept _ (as_dev t)) (λ dev.
        K.binds _ _ _ _ _ _ (K.neighbours k host b dev) (λ _. K.gives Value _)))))))))

    empty_kept : (t : Option Ty) → Rel Value (empty_of r t) (empty_of r' t)
    empty_kept (Some t) = K.gives Value _
    empty_kept None = K.wrongs Value

    opened_at_kept : (code : Program) (seen : ℕ) (env : Env) (l : ExprLayer) → Rel Value (opened_at r code seen env l) (opened_at r' code seen env l)
    opened_at_kept code seen env Expr-F.Unit = K.gives Value _
    opened_at_kept code seen env (Expr-F.Bool b) = K.gives Value _
    opened_at_kept code seen env (Expr-F.Int n) = K.gives Value _
    opened_at_kept code seen env (Expr-F.Char c) = K.gives Value _
    opened_at_kept code seen env (Expr-F.Str s) = K.gives Value _
    opened_at_kept code seen env (Expr-F.Blob b) = K.gives Value _
    opened_at_kept code seen env (Expr-F.Host h) = K.gives Value _
    opened_at_kept code seen env (Expr-F.Dev d) = K.gives Value _
    opened_at_kept code seen env (Expr-F.Nil t) = empty_kept t
    opened_at_kept code seen env (Expr-F.Var x) = known_kept _ (value_of x env)
    opened_at_kept code seen env (Expr-F.Tuple es) = tuple_kept code seen env es
    opened_at_kept code seen env (Expr-F.Call f es) = call_kept code seen env f es
    opened_at_kept code seen env (Expr-F.If t a b) = choice_kept code seen env t a b
    opened_at_kept code seen env (Expr-F.Let x t a b) = binding_kept code seen env x a b
    opened_at_kept code seen env (Expr-F.Then a b) = sequence_kept code seen env a b
    opened_at_kept code seen env (Expr-F.And a b) = conjunction_kept code seen env a b
    opened_at_kept code seen env (Expr-F.Or a b) = disjunction_kept code seen env a b
    opened_at_kept code seen env (Expr-F.Not a) = negation_kept code seen env a
    opened_at_kept code seen env (Expr-F.Binary o a b) = operation_kept code seen env o a b
    opened_at_kept code seen env (Expr-F.Part i a) = selection_kept code seen env i a
    opened_at_kept code seen env (Expr-F.Raise x t) = K.stops Value (Raised (named_exception x))
    opened_at_kept code seen env (Expr-F.Try a ks) = attempt_kept code seen env a ks
    opened_at_kept code seen env (Expr-F.Foldl f a l) = fold_left_kept code seen env f a l
    opened_at_kept code seen env (Expr-F.Foldr f a l) = fold_right_kept code seen env f a l
    opened_at_kept code seen env (Expr-F.ChunkOf f es) = packed_kept code seen env f es
    opened_at_kept code seen env (Expr-F.Eval a) = evaluation_kept code seen env a
    opened_at_kept code seen env (Expr-F.OnRemote a h n route) = remote_kept code seen env a h n route
    opened_at_kept code seen env (Expr-F.OnNeighbor a h n d) = neighbour_kept code seen env a h n d

    pub opened_kept : (code : Program) (seen : ℕ) (env : Env) (e : Expr) → Rel Value (opened_expression r code seen env e) (opened_expression r' code seen env e)
    unfolding opened_expression
    opened_kept code seen env e = opened_at_kept code seen env (out-Expr e)

    pub node_kept : (code : Program) (seen : ℕ) (env : Env) (e : Expr) → Rel Value (node r code seen env e) (node r' code seen env e)
    unfolding node
    node_kept code seen env e = whole_kept _ _ (opened_kept code seen env e)

  -- where an end for want of work is related to every run
  module _ (falls : (q : Run Value) → Rel Value (stop WorkSpent) q) where
    pub run_kept : (n m : ℕ) → n ≤ m → (code : Program) (seen : ℕ) (env : Env) (e : Expr) → Rel Value (run_to n code seen env e) (run_to m code seen env e)
    unfolding run_to
    run_kept zero m h code seen env e = falls (run_to m code seen env e)
    run_kept (suc n) zero h code seen env e = absurd (omega arith)
    run_kept (suc n) (suc m) h code seen env e = node_kept (run_to n) (run_to m) (run_kept n m (omega arith)) code seen env e
