-- The checking of each form of expression stands for what is judged of it.
use Rattle.std.proofs.Common.{◌≡◌, ℕ, suc, ◌+◌, ◌≤◌, sym, refl, subst, Bool, true, false, not, ◌||◌, ◌&&◌, max, List, [], ◌∷◌, ◌++◌, length, Option, Some, None, arith}
use Rattle.std.specs.Prelude.{if◌then◌else◌, option_and_then, ◌==◌}
use Rattle.std.specs.List.{list_any, list_all, fold, sum_by}
use Rattle.plan_base.specs.declared.name.Name.{Name}
use Rattle.plan_base.specs.declared.prim.Primitive.{Primitive}
use Rattle.plan_base.specs.declared.tree.Op.{Op}
use Rattle.plan_base.specs.declared.tree.Ty.{Ty}
use Rattle.plan_base.specs.declared.tree.Ty as ty
use Rattle.plan_base.specs.declared.tree.Expr.{Expr, Expr-F}
use Rattle.plan_base.specs.declared.tree.Expr as x
use Rattle.plan_base.specs.declared.tree.Clause.{Clause}
use Rattle.plan_base.specs.declared.tree.Svc.{Svc}
use Rattle.plan_base.specs.declared.tree.Program.{Program}
use Rattle.plan_base.specs.declared.tree.Place.TheVariants as place
use Rattle.plan_types_spec.specs.declared.type_fault.TypeFault.TheVariants as fault
use Rattle.plan_base.specs.Trees.{ExprLayer}
use Rattle.plan_base.specs.Sizes.{expr_depth, expr_depth_level, clause_depth, expr_nodes, expr_nodes_level, clause_nodes}
use Rattle.plan_types_spec.specs.Typing.{Ctx}
use Rattle.plan_types_spec.specs.TypingNames.{service_of, binds, binding, param_types, prim_of, takes, makes, is_exception, may_catch, OpKind, arithmetic, joining, equality, ordering, listing, kind_of, is_joined, is_ordered}
use Rattle.plan_base.specs.SameTypes.{same_type}
use Rattle.plan_types_spec.specs.TypingOrder.{Checking, Found, pure, refuse, ◌>>=◌, or_refuse, items_of, parts_of, part_in, given_of, fun_of, earlier, not_earlier, settled_type}
use Rattle.plan_types_spec.specs.TypingOrder as order
use Rattle.plan_parser_laws.specs.Judgements.{Judgement, kept, test, same, part, there, none_earlier, suits, shallow, parts, typed_part, arguments, clauses, behind}
use Rattle.plan_parser_laws.specs.Judgements as spec
use Rattle.plan_parser_laws.proofs.Named.{earlier_is, named_is, none_is}
use Rattle.plan_parser_laws.proofs.Stands.{Stands, Good, AllGood, ClausesGood, end_stands, test_stands, there_stands, same_stands, suits_stands, shallow_stands, run_stands, typed_stands, parts_stand}
use Rattle.plan_parser_laws.proofs.Stands.{arguments_stand, clauses_stand, folding_stands}

fold_above : {X : Type 0} (f : X → ℕ) (a : ℕ) (xs : List X) → a ≤ fold (λ m y. max m (f y)) a xs
fold_above f a [] = omega arith
fold_above f a (y ∷ xs) = let h = fold_above f (max a (f y)) xs in omega arith

-- all names are known, or one isn't
none_unknown : {X : Type 0} (p : X → Bool) (xs : List X) → list_any (λ k. not (p k)) xs ≡ not (list_all p xs)
none_unknown p [] = refl
none_unknown p (k ∷ xs) = go (p k) (none_unknown p xs)
  where
    go : (b : Bool) → list_any (λ k. not (p k)) xs ≡ not (list_all p xs) → (not b || list_any (λ k. not (p k)) xs) ≡ not (b && list_all p xs)
    go true e = e
    go false e = refl

module _ (code : Program) (seen : ℕ) (run : Ctx → Option Ty → Expr → Checking Found) where
  -- a form that is checked from the place n on, whose parts have so many expressions
  abbrev Is : ℕ → ℕ → Judgement → Checking Found → Type 0
  Is n count j m = Stands code seen n count j (m n)

  tuple_stands : (n at : ℕ) (c : Ctx) (want : Option Ty) (es : List Expr) → n ≤ 4294967295 → AllGood code seen run es
      → Is n (sum_by expr_nodes es + 0) (parts c (option_and_then (parts_of (length es)) want) [] es (λ ts. shallow at want (ty.Tuple ts))) (order.tuple code seen run c at want es)
  unfolding order.tuple
  tuple_stands n at c want es low g =
      parts_stand code seen run es n 0 [] [] c (option_and_then (parts_of (length es)) want) (λ r. order.shallow at want (x.Tuple r.0) (ty.Tuple r.1)) (λ ts. shallow at want (ty.Tuple ts)) low g
      (λ r m small. shallow_stands code seen m at want (x.Tuple r.0) (ty.Tuple r.1) small)

  part_form : (n at : ℕ) (c : Ctx) (want : Option Ty) (i : ℕ) (a : Expr) → n ≤ 4294967295 → Good code seen run a
      → Is n (expr_nodes a + 0) (part c None a (λ u. there (part_in i u) (fault.WrongShape (place.Node at)) (λ t. suits at want t))) (order.part code seen run c at want i a)
  unfolding order.part
  part_form n at c want i a low g =
      run_stands code seen run n 0 c None a (λ r.
      or_refuse (part_in i r.1) (fault.WrongShape (place.Node at))
      >>= (λ t. settled_type at want (x.Part i r.0) t)) (λ u. there (part_in i u) (fault.WrongShape (place.Node at)) (λ t. suits at want t)) g
      (λ r. there_stands code seen (behind n (expr_nodes a)) 0 (part_in i r.1) (fault.WrongShape (place.Node at)) (λ t. settled_type at want (x.Part i r.0) t) (λ t. suits at want t)
      (λ t. suits_stands code seen (behind n (expr_nodes a)) at want (x.Part i r.0) t (omega arith)))

  applied_stands : (n at : ℕ) (c : Ctx) (want : Option Ty) (f : Name) (es : List Expr) (wants : List Ty) (t : Ty) → n ≤ 4294967295 → AllGood code seen run es
      → Is n (sum_by expr_nodes es + 0) (arguments c at wants es (suits at want t)) (order.applied_call code seen run c at want f es wants t)
  unfolding order.applied_call
  applied_stands n at c want f es wants t low g =
      arguments_stand code seen run n at 0 c wants es (λ given. settled_type at want (x.Call f given) t) (suits at want t) low g (λ xs m small. suits_stands code seen m at want (x.Call f xs) t small)

  of_items_stands : (n at : ℕ) (c : Ctx) (want : Option Ty) (f : Name) (p : Primitive) (es : List Expr) → n ≤ 4294967295 → AllGood code seen run es
      → Is n (sum_by expr_nodes es + 0) (spec.primitive code seen c at want p es None) (order.of_items code seen run c at want f p es)
  unfolding order.of_items
  of_items_stands n at c want f p es low g =
      test_stands code seen n (sum_by expr_nodes es + 0) (length es == 1) (fault.Arity (place.Node at))
      (order.parts code seen run c None es >>= (λ r. or_refuse (given_of p r.1) (fault.WrongShape (place.Node at)) >>= (λ t. settled_type at want (x.Call f r.0) t)))
      (parts c None [] es (λ ts. there (given_of p ts) (fault.WrongShape (place.Node at)) (λ t. suits at want t)))
      (λ _.
      parts_stand code seen run es n 0 [] [] c None (λ r.
      or_refuse (given_of p r.1) (fault.WrongShape (place.Node at))
      >>= (λ t. settled_type at want (x.Call f r.0) t)) (λ ts. there (given_of p ts) (fault.WrongShape (place.Node at)) (λ t. suits at want t)) low g
      (λ r m small. there_stands code seen m 0 (given_of p r.1) (fault.WrongShape (place.Node at)) (λ t. settled_type at want (x.Call f r.0) t) (λ t. suits at want t) (λ t. suits_stands code seen m at want (x.Call f r.0) t small)))

  primitive_stands : (n at : ℕ) (c : Ctx) (want : Option Ty) (f : Name) (p : Primitive) (es : List Expr) → n ≤ 4294967295 → AllGood code seen run es
      → Is n (sum_by expr_nodes es + 0) (spec.primitive code seen c at want p es (takes p)) (order.primitive code seen run c at want f p es)
  unfolding order.primitive
  primitive_stands n at c want f p es low g = go (takes p)
    where
      go : (o : Option (List Ty)) → Is n (sum_by expr_nodes es + 0) (spec.primitive code seen c at want p es o) (order.primitive_by code seen run c at want f p es o)
      go (Some ts) = applied_stands n at c want f es ts (makes p) low g
      go None = of_items_stands n at c want f p es low g

  function_stands : (n at : ℕ) (c : Ctx) (want : Option Ty) (f : Name) (es : List Expr) → n ≤ 4294967295 → AllGood code seen run es
      → Is n (sum_by expr_nodes es + 0) (spec.function code seen c at want f es) (order.function code seen run c at want f es)
  unfolding order.function
  function_stands n at c want f es low g =
      subst (λ o. Is n (sum_by expr_nodes es + 0) (there o (none_earlier code f at) (λ d. arguments c at (param_types d.params) es (suits at want d.result))) (order.function code seen run c at want f es)) (earlier_is code seen f)
      (subst (λ z. Is n (sum_by expr_nodes es + 0) (there (earlier code seen f) z (λ d. arguments c at (param_types d.params) es (suits at want d.result))) (order.function code seen run c at want f es)) (none_is code f at)
      (there_stands code seen n (sum_by expr_nodes es + 0) (earlier code seen f) (not_earlier code f at) (λ d. order.applied_call code seen run c at want f es (param_types d.params) d.result)
      (λ d. arguments c at (param_types d.params) es (suits at want d.result)) (λ d. applied_stands n at c want f es (param_types d.params) d.result low g)))

  call_stands : (n at : ℕ) (c : Ctx) (want : Option Ty) (f : Name) (es : List Expr) → n ≤ 4294967295 → AllGood code seen run es
      → Is n (sum_by expr_nodes es + 0) (spec.called_name code seen c at want f es (prim_of f)) (order.call code seen run c at want f es)
  unfolding order.call
  call_stands n at c want f es low g = prims (prim_of f)
    where
      services : (o : Option Svc) → Is n (sum_by expr_nodes es + 0) (spec.service code seen c at want f es o) (order.service_or code seen run c at want f es o)
      services (Some d) = applied_stands n at c want f es d.params d.result low g
      services None = function_stands n at c want f es low g

      prims : (o : Option Primitive) → Is n (sum_by expr_nodes es + 0) (spec.called_name code seen c at want f es o) (order.primitive_or code seen run c at want f es o)
      prims (Some p) = primitive_stands n at c want f p es low g
      prims None = services (service_of f code.svcs)

  -- the last part, of which a type is wanted, and the answer that ends the form
  last_stands : (n at : ℕ) (c : Ctx) (want : Option Ty) (u t : Ty) (a : Expr) (whole : Expr → Expr) → Good code seen run a
      → Is n (expr_nodes a + 0) (typed_part c u a (suits at want t)) (order.wanting code seen run c u a >>= (λ p. settled_type at want (whole p) t))
  last_stands n at c want u t a whole g =
      typed_stands code seen run n 0 c u a (λ p. settled_type at want (whole p) t) (suits at want t) g (λ p. suits_stands code seen (behind n (expr_nodes a)) at want (whole p) t (omega arith))

  two_stand : (n at : ℕ) (c : Ctx) (want : Option Ty) (u v t : Ty) (a b : Expr) (whole : Expr → Expr → Expr) → Good code seen run a → Good code seen run b
      → Is n (expr_nodes a + (expr_nodes b + 0)) (typed_part c u a (typed_part c v b (suits at want t))) (order.wanting code seen run c u a >>= (λ p. order.wanting code seen run c v b >>= (λ q. settled_type at want (whole p q) t)))
  two_stand n at c want u v t a b whole g h =
      typed_stands code seen run n (expr_nodes b + 0) c u a (λ p. order.wanting code seen run c v b >>= (λ q. settled_type at want (whole p q) t)) (typed_part c v b (suits at want t)) g
      (λ p. last_stands (behind n (expr_nodes a)) at c want v t b (λ q. whole p q) h)

  choice_stands : (n at : ℕ) (c : Ctx) (want : Option Ty) (a b d : Expr) → n ≤ 4294967295 → Good code seen run a → Good code seen run b → Good code seen run d
      → Is n (expr_nodes a + (expr_nodes b + (expr_nodes d + 0))) (typed_part c ty.Bool a (part c want b (λ t. typed_part c t d kept))) (order.choice code seen run c want a b d)
  unfolding order.choice
  choice_stands n at c want a b d low g h i =
      typed_stands code seen run n (expr_nodes b + (expr_nodes d + 0)) c ty.Bool a (λ test.
      run c want b >>= (λ r. order.wanting code seen run c r.1 d >>= (λ other. pure (x.If test r.0 other, r.1)))) (part c want b (λ t. typed_part c t d kept)) g
      (λ p. run_stands code seen run (behind n (expr_nodes a)) (expr_nodes d + 0) c want b (λ r. order.wanting code seen run c r.1 d >>= (λ other. pure (x.If p r.0 other, r.1))) (λ t. typed_part c t d kept) h
      (λ r. typed_stands code seen run (behind (behind n (expr_nodes a)) (expr_nodes b)) 0 c r.1 d (λ other. pure (x.If p r.0 other, r.1)) kept i
      (λ q. end_stands code seen {A = Found} (x.If p r.0 q, r.1) (behind (behind (behind n (expr_nodes a)) (expr_nodes b)) (expr_nodes d)) (omega arith))))

  binder_stands : (n at : ℕ) (c : Ctx) (want : Option Ty) (v : Name) (u : Ty) (a b : Expr) → n ≤ 4294967295 → Good code seen run a → Good code seen run b
      → Is n (expr_nodes a + (expr_nodes b + 0)) (typed_part c u a (part (c ++ binds v u ∷ []) want b (λ _. kept))) (order.binder code seen run c want v u a b)
  unfolding order.binder
  binder_stands n at c want v u a b low g h =
      typed_stands code seen run n (expr_nodes b + 0) c u a (λ bound. run (c ++ binds v u ∷ []) want b >>= (λ r. pure (x.Let v u bound r.0, r.1))) (part (c ++ binds v u ∷ []) want b (λ _. kept)) g
      (λ p. run_stands code seen run (behind n (expr_nodes a)) 0 (c ++ binds v u ∷ []) want b (λ r. pure (x.Let v u p r.0, r.1)) (λ _. kept) h
      (λ r. end_stands code seen {A = Found} (x.Let v u p r.0, r.1) (behind (behind n (expr_nodes a)) (expr_nodes b)) (omega arith)))

  sequence_stands : (n at : ℕ) (c : Ctx) (want : Option Ty) (a b : Expr) → n ≤ 4294967295 → Good code seen run a → Good code seen run b
      → Is n (expr_nodes a + (expr_nodes b + 0)) (typed_part c ty.Unit a (part c want b (λ _. kept))) (order.sequence code seen run c want a b)
  unfolding order.sequence
  sequence_stands n at c want a b low g h =
      typed_stands code seen run n (expr_nodes b + 0) c ty.Unit a (λ first. run c want b >>= (λ r. pure (x.Then first r.0, r.1))) (part c want b (λ _. kept)) g
      (λ p. run_stands code seen run (behind n (expr_nodes a)) 0 c want b (λ r. pure (x.Then p r.0, r.1)) (λ _. kept) h
      (λ r. end_stands code seen {A = Found} (x.Then p r.0, r.1) (behind (behind n (expr_nodes a)) (expr_nodes b)) (omega arith)))

  both_stands : (n at : ℕ) (c : Ctx) (want : Option Ty) (a b : Expr) → Good code seen run a → Good code seen run b
      → Is n (expr_nodes a + (expr_nodes b + 0)) (typed_part c ty.Bool a (typed_part c ty.Bool b (suits at want ty.Bool))) (order.both code seen run c at want a b)
  unfolding order.both
  both_stands n at c want a b g h = two_stand n at c want ty.Bool ty.Bool ty.Bool a b (λ p q. x.And p q) g h

  either_stands : (n at : ℕ) (c : Ctx) (want : Option Ty) (a b : Expr) → Good code seen run a → Good code seen run b
      → Is n (expr_nodes a + (expr_nodes b + 0)) (typed_part c ty.Bool a (typed_part c ty.Bool b (suits at want ty.Bool))) (order.either code seen run c at want a b)
  unfolding order.either
  either_stands n at c want a b g h = two_stand n at c want ty.Bool ty.Bool ty.Bool a b (λ p q. x.Or p q) g h

  negation_stands : (n at : ℕ) (c : Ctx) (want : Option Ty) (a : Expr) → Good code seen run a
      → Is n (expr_nodes a + 0) (typed_part c ty.Bool a (suits at want ty.Bool)) (order.negation code seen run c at want a)
  unfolding order.negation
  negation_stands n at c want a g = last_stands n at c want ty.Bool ty.Bool a (λ p. x.Not p) g

  evaluation_stands : (n at : ℕ) (c : Ctx) (want : Option Ty) (a : Expr) → Good code seen run a
      → Is n (expr_nodes a + 0) (typed_part c ty.Chunk a (suits at want ty.Unit)) (order.evaluation code seen run c at want a)
  unfolding order.evaluation
  evaluation_stands n at c want a g = last_stands n at c want ty.Chunk ty.Unit a (λ p. x.Eval p) g

  remote_stands : (n at : ℕ) (c : Ctx) (want : Option Ty) (a h k : Expr) (r : Name) → Good code seen run a → Good code seen run h → Good code seen run k
      → Is n (expr_nodes a + (expr_nodes h + (expr_nodes k + 0))) (typed_part c ty.Chunk a (typed_part c ty.Host h (typed_part c ty.Int k (suits at want ty.Unit)))) (order.remote code seen run c at want a h k r)
  unfolding order.remote
  remote_stands n at c want a h k r ga gh gk =
      typed_stands code seen run n (expr_nodes h + (expr_nodes k + 0)) c ty.Chunk a (λ p.
      order.wanting code seen run c ty.Host h >>= (λ q. order.wanting code seen run c ty.Int k >>= (λ s. settled_type at want (x.OnRemote p q s r) ty.Unit)))
      (typed_part c ty.Host h (typed_part c ty.Int k (suits at want ty.Unit))) ga (λ p. two_stand (behind n (expr_nodes a)) at c want ty.Host ty.Int ty.Unit h k (λ q s. x.OnRemote p q s r) gh gk)

  neighbour_stands : (n at : ℕ) (c : Ctx) (want : Option Ty) (a h k d : Expr) → Good code seen run a → Good code seen run h → Good code seen run k → Good code seen run d
      → Is n (expr_nodes a + (expr_nodes h + (expr_nodes k + (expr_nodes d + 0))))
      (typed_part c ty.Chunk a (typed_part c ty.Host h (typed_part c ty.Int k (typed_part c ty.Dev d (suits at want ty.Unit))))) (order.neighbour code seen run c at want a h k d)
  unfolding order.neighbour
  neighbour_stands n at c want a h k d ga gh gk gd =
      typed_stands code seen run n (expr_nodes h + (expr_nodes k + (expr_nodes d + 0))) c ty.Chunk a
      (λ p. order.wanting code seen run c ty.Host h >>= (λ q. order.wanting code seen run c ty.Int k >>= (λ s. order.wanting code seen run c ty.Dev d >>= (λ u. settled_type at want (x.OnNeighbor p q s u) ty.Unit))))
      (typed_part c ty.Host h (typed_part c ty.Int k (typed_part c ty.Dev d (suits at want ty.Unit)))) ga
      (λ p.
      typed_stands code seen run (behind n (expr_nodes a)) (expr_nodes k + (expr_nodes d + 0)) c ty.Host h (λ q.
      order.wanting code seen run c ty.Int k >>= (λ s. order.wanting code seen run c ty.Dev d >>= (λ u. settled_type at want (x.OnNeighbor p q s u) ty.Unit)))
      (typed_part c ty.Int k (typed_part c ty.Dev d (suits at want ty.Unit))) gh
      (λ q. two_stand (behind (behind n (expr_nodes a)) (expr_nodes h)) at c want ty.Int ty.Dev ty.Unit k d (λ s u. x.OnNeighbor p q s u) gk gd))

  calculation_stands : (n at : ℕ) (c : Ctx) (want : Option Ty) (o : Op) (a b : Expr) → Good code seen run a → Good code seen run b
      → Is n (expr_nodes a + (expr_nodes b + 0)) (spec.sides code seen c at want a b arithmetic) (order.calculation code seen run c at want o a b)
  unfolding order.calculation
  calculation_stands n at c want o a b g h = two_stand n at c want ty.Int ty.Int ty.Int a b (λ p q. x.Binary o p q) g h

  join_stands : (n at : ℕ) (c : Ctx) (want : Option Ty) (o : Op) (a b : Expr) → Good code seen run a → Good code seen run b
      → Is n (expr_nodes a + (expr_nodes b + 0)) (spec.sides code seen c at want a b joining) (order.join code seen run c at want o a b)
  unfolding order.join
  join_stands n at c want o a b g h =
      run_stands code seen run n (expr_nodes b + 0) c None a (λ r. if is_joined r.1 then (order.wanting code seen run c r.1 b >>= (λ q. settled_type at want (x.Binary o r.0 q) r.1)) else refuse (fault.WrongShape (place.Node at)))
      (λ t. test (is_joined t) (fault.WrongShape (place.Node at)) (typed_part c t b (suits at want t))) g
      (λ r.
      test_stands code seen (behind n (expr_nodes a)) (expr_nodes b + 0) (is_joined r.1) (fault.WrongShape (place.Node at))
      (order.wanting code seen run c r.1 b >>= (λ q. settled_type at want (x.Binary o r.0 q) r.1)) (typed_part c r.1 b (suits at want r.1))
      (λ _. last_stands (behind n (expr_nodes a)) at c want r.1 r.1 b (λ q. x.Binary o r.0 q) h))

  comparison_stands : (n at : ℕ) (c : Ctx) (want : Option Ty) (o : Op) (a b : Expr) → Good code seen run a → Good code seen run b
      → Is n (expr_nodes a + (expr_nodes b + 0)) (spec.sides code seen c at want a b equality) (order.comparison code seen run c at want o a b)
  unfolding order.comparison
  comparison_stands n at c want o a b g h =
      run_stands code seen run n (expr_nodes b + 0) c None a (λ r. order.wanting code seen run c r.1 b >>= (λ q. settled_type at want (x.Binary o r.0 q) ty.Bool)) (λ t. typed_part c t b (suits at want ty.Bool)) g
      (λ r. last_stands (behind n (expr_nodes a)) at c want r.1 ty.Bool b (λ q. x.Binary o r.0 q) h)

  order_stands : (n at : ℕ) (c : Ctx) (want : Option Ty) (o : Op) (a b : Expr) → Good code seen run a → Good code seen run b
      → Is n (expr_nodes a + (expr_nodes b + 0)) (spec.sides code seen c at want a b ordering) (order.order code seen run c at want o a b)
  unfolding order.order
  order_stands n at c want o a b g h =
      run_stands code seen run n (expr_nodes b + 0) c None a (λ r. if is_ordered r.1 then (order.wanting code seen run c r.1 b >>= (λ q. settled_type at want (x.Binary o r.0 q) ty.Bool)) else refuse (fault.WrongShape (place.Node at)))
      (λ t. test (is_ordered t) (fault.WrongShape (place.Node at)) (typed_part c t b (suits at want ty.Bool))) g
      (λ r.
      test_stands code seen (behind n (expr_nodes a)) (expr_nodes b + 0) (is_ordered r.1) (fault.WrongShape (place.Node at))
      (order.wanting code seen run c r.1 b >>= (λ q. settled_type at want (x.Binary o r.0 q) ty.Bool)) (typed_part c r.1 b (suits at want ty.Bool))
      (λ _. last_stands (behind n (expr_nodes a)) at c want r.1 ty.Bool b (λ q. x.Binary o r.0 q) h))

  prefix_stands : (n at : ℕ) (c : Ctx) (want : Option Ty) (o : Op) (a b : Expr) → Good code seen run a → Good code seen run b
      → Is n (expr_nodes a + (expr_nodes b + 0)) (spec.sides code seen c at want a b listing) (order.prefix code seen run c at want o a b)
  unfolding order.prefix
  prefix_stands n at c want o a b g h =
      run_stands code seen run n (expr_nodes b + 0) c (option_and_then items_of want) a (λ r.
      order.wanting code seen run c (ty.List r.1) b >>= (λ q. order.shallow at want (x.Binary o r.0 q) (ty.List r.1))) (λ t. typed_part c (ty.List t) b (shallow at want (ty.List t))) g
      (λ r. typed_stands code seen run (behind n (expr_nodes a)) 0 c (ty.List r.1) b (λ q. order.shallow at want (x.Binary o r.0 q) (ty.List r.1)) (shallow at want (ty.List r.1)) h
      (λ q. shallow_stands code seen (behind (behind n (expr_nodes a)) (expr_nodes b)) at want (x.Binary o r.0 q) (ty.List r.1) (omega arith)))

  operation_stands : (n at : ℕ) (c : Ctx) (want : Option Ty) (o : Op) (a b : Expr) → Good code seen run a → Good code seen run b
      → Is n (expr_nodes a + (expr_nodes b + 0)) (spec.sides code seen c at want a b (kind_of o)) (order.operation code seen run c at want o a b)
  unfolding order.operation
  operation_stands n at c want o a b g h = go (kind_of o)
    where
      go : (k : OpKind) → Is n (expr_nodes a + (expr_nodes b + 0)) (spec.sides code seen c at want a b k) (order.operation_by code seen run c at want o a b k)
      go arithmetic = calculation_stands n at c want o a b g h
      go joining = join_stands n at c want o a b g h
      go equality = comparison_stands n at c want o a b g h
      go ordering = order_stands n at c want o a b g h
      go listing = prefix_stands n at c want o a b g h

  empty_stands : (n at : ℕ) (c : Ctx) (want : Option Ty) (e : Expr) (u : Option Ty) → n ≤ 4294967295 → Is n 0 (spec.judged_form code seen c at want (Expr-F.Nil u)) (order.empty at want e u)
  unfolding order.empty
  empty_stands n at c want e (Some u) low = shallow_stands code seen n at want e (ty.List u) low
  empty_stands n at c want e None low =
      there_stands code seen n 0 (option_and_then items_of want) (fault.NeedsType (place.Node at)) (λ u. order.shallow at want (x.Nil (Some u)) (ty.List u)) (λ u. shallow at want (ty.List u))
      (λ u. shallow_stands code seen n at want (x.Nil (Some u)) (ty.List u) low)

  variable_stands : (n at : ℕ) (c : Ctx) (want : Option Ty) (e : Expr) (v : Name) → n ≤ 4294967295 → Is n 0 (spec.judged_form code seen c at want (Expr-F.Var v)) (order.variable c at want e v)
  unfolding order.variable
  variable_stands n at c want e v low =
      there_stands code seen n 0 (binding v c) (fault.UnknownName (place.Node at)) (λ t. settled_type at want e t) (λ t. suits at want t) (λ t. suits_stands code seen n at want e t low)

  raising_stands : (n at : ℕ) (c : Ctx) (want : Option Ty) (e : Expr) (v : Name) (t : Option Ty) → n ≤ 4294967295 → Is n 0 (spec.judged_form code seen c at want (Expr-F.Raise v t)) (order.raising code at want e v t)
  unfolding order.raising
  raising_stands n at c want e v (Some t) low =
      test_stands code seen n 0 (is_exception code v) (fault.UnknownName (place.Node at)) (order.shallow at want e t) (shallow at want t) (λ _. shallow_stands code seen n at want e t low)
  raising_stands n at c want e v None low =
      test_stands code seen n 0 (is_exception code v) (fault.UnknownName (place.Node at)) (or_refuse want (fault.NeedsType (place.Node at)) >>= (λ t. order.shallow at want (x.Raise v (Some t)) t))
      (there want (fault.NeedsType (place.Node at)) (λ t. shallow at want t))
      (λ _. there_stands code seen n 0 want (fault.NeedsType (place.Node at)) (λ t. order.shallow at want (x.Raise v (Some t)) t) (λ t. shallow at want t) (λ t. shallow_stands code seen n at want (x.Raise v (Some t)) t low))

  handling_stands : (n at : ℕ) (c : Ctx) (want : Option Ty) (a : Expr) (ks : List Clause) → Good code seen run a → ClausesGood code seen run ks
      → Is n (expr_nodes a + sum_by clause_nodes ks) (spec.judged_form code seen c at want (Expr-F.Try a ks)) (order.handling code seen run c at want a ks)
  unfolding order.handling
  handling_stands n at c want a ks g h =
      subst (λ b. Is n (expr_nodes a + sum_by clause_nodes ks) (spec.judged_form code seen c at want (Expr-F.Try a ks)) (if b then refuse (fault.UnknownName (place.Node at)) else body)) (sym (none_unknown (λ k. may_catch code k.name) ks))
      (go (list_all (λ k. may_catch code k.name) ks))
    where
      body : Checking Found
      body = run c want a >>= (λ r. order.clauses_from code seen run [] c r.1 ks >>= (λ handlers. pure (x.Try r.0 handlers, r.1)))

      rest : Is n (expr_nodes a + sum_by clause_nodes ks) (part c want a (λ t. clauses c t ks)) (run c want a >>= (λ r. order.clauses_from code seen run [] c r.1 ks >>= (λ handlers. pure (x.Try r.0 handlers, r.1))))
      rest = run_stands code seen run n (sum_by clause_nodes ks) c want a (λ r. order.clauses_from code seen run [] c r.1 ks >>= (λ handlers. pure (x.Try r.0 handlers, r.1))) (λ t. clauses c t ks) g
          (λ r. clauses_stand code seen run ks (behind n (expr_nodes a)) [] c r.1 (λ handlers. (x.Try r.0 handlers, r.1)) (omega arith) h)

      go : (b : Bool) → Is n (expr_nodes a + sum_by clause_nodes ks) (test b (fault.UnknownName (place.Node at)) (part c want a (λ t. clauses c t ks)))
          (if not b then refuse (fault.UnknownName (place.Node at)) else (run c want a >>= (λ r. order.clauses_from code seen run [] c r.1 ks >>= (λ handlers. pure (x.Try r.0 handlers, r.1)))))
      go true =
          test_stands code seen n (expr_nodes a + sum_by clause_nodes ks) true (fault.UnknownName (place.Node at))
          (run c want a >>= (λ r. order.clauses_from code seen run [] c r.1 ks >>= (λ handlers. pure (x.Try r.0 handlers, r.1)))) (part c want a (λ t. clauses c t ks)) (λ _. rest)
      go false =
          test_stands code seen n (expr_nodes a + sum_by clause_nodes ks) false (fault.UnknownName (place.Node at))
          (run c want a >>= (λ r. order.clauses_from code seen run [] c r.1 ks >>= (λ handlers. pure (x.Try r.0 handlers, r.1)))) (part c want a (λ t. clauses c t ks)) (λ _. rest)

  fold_left_stands : (n at : ℕ) (c : Ctx) (want : Option Ty) (f : Name) (a l : Expr) → Good code seen run a → Good code seen run l
      → Is n (expr_nodes a + (expr_nodes l + 0)) (spec.judged_form code seen c at want (Expr-F.Foldl f a l)) (order.fold_left code seen run c at want f a l)
  unfolding order.fold_left
  fold_left_stands n at c want f a l g h =
      folding_stands code seen run n at (expr_nodes a + (expr_nodes l + 0)) f
      (λ d.
      order.wanting code seen run c d.0 a
      >>= (λ start.
      order.wanting code seen run c (ty.List d.1) l >>= (λ items. if same_type d.2 d.0 then settled_type at want (x.Foldl f start items) d.0 else refuse (fault.WrongShape (place.Node at)))))
      (λ p r. typed_part c p.0 a (typed_part c (ty.List p.1) l (same r p.0 (fault.WrongShape (place.Node at)) (suits at want p.0))))
      (λ p r.
      typed_stands code seen run n (expr_nodes l + 0) c p.0 a (λ start.
      order.wanting code seen run c (ty.List p.1) l >>= (λ items. if same_type r p.0 then settled_type at want (x.Foldl f start items) p.0 else refuse (fault.WrongShape (place.Node at))))
      (typed_part c (ty.List p.1) l (same r p.0 (fault.WrongShape (place.Node at)) (suits at want p.0))) g
      (λ s. typed_stands code seen run (behind n (expr_nodes a)) 0 c (ty.List p.1) l (λ items. if same_type r p.0 then settled_type at want (x.Foldl f s items) p.0 else refuse (fault.WrongShape (place.Node at)))
      (same r p.0 (fault.WrongShape (place.Node at)) (suits at want p.0)) h
      (λ i. same_stands code seen (behind (behind n (expr_nodes a)) (expr_nodes l)) 0 r p.0 (fault.WrongShape (place.Node at)) (settled_type at want (x.Foldl f s i) p.0) (suits at want p.0)
      (suits_stands code seen (behind (behind n (expr_nodes a)) (expr_nodes l)) at want (x.Foldl f s i) p.0 (omega arith)))))

  fold_right_stands : (n at : ℕ) (c : Ctx) (want : Option Ty) (f : Name) (a l : Expr) → Good code seen run a → Good code seen run l
      → Is n (expr_nodes a + (expr_nodes l + 0)) (spec.judged_form code seen c at want (Expr-F.Foldr f a l)) (order.fold_right code seen run c at want f a l)
  unfolding order.fold_right
  fold_right_stands n at c want f a l g h =
      folding_stands code seen run n at (expr_nodes a + (expr_nodes l + 0)) f
      (λ d.
      order.wanting code seen run c d.1 a
      >>= (λ start.
      order.wanting code seen run c (ty.List d.0) l >>= (λ items. if same_type d.2 d.1 then settled_type at want (x.Foldr f start items) d.1 else refuse (fault.WrongShape (place.Node at)))))
      (λ p r. typed_part c p.1 a (typed_part c (ty.List p.0) l (same r p.1 (fault.WrongShape (place.Node at)) (suits at want p.1))))
      (λ p r.
      typed_stands code seen run n (expr_nodes l + 0) c p.1 a (λ start.
      order.wanting code seen run c (ty.List p.0) l >>= (λ items. if same_type r p.1 then settled_type at want (x.Foldr f start items) p.1 else refuse (fault.WrongShape (place.Node at))))
      (typed_part c (ty.List p.0) l (same r p.1 (fault.WrongShape (place.Node at)) (suits at want p.1))) g
      (λ s. typed_stands code seen run (behind n (expr_nodes a)) 0 c (ty.List p.0) l (λ items. if same_type r p.1 then settled_type at want (x.Foldr f s items) p.1 else refuse (fault.WrongShape (place.Node at)))
      (same r p.1 (fault.WrongShape (place.Node at)) (suits at want p.1)) h
      (λ i. same_stands code seen (behind (behind n (expr_nodes a)) (expr_nodes l)) 0 r p.1 (fault.WrongShape (place.Node at)) (settled_type at want (x.Foldr f s i) p.1) (suits at want p.1)
      (suits_stands code seen (behind (behind n (expr_nodes a)) (expr_nodes l)) at want (x.Foldr f s i) p.1 (omega arith)))))

  packing_stands : (n at : ℕ) (c : Ctx) (want : Option Ty) (f : Name) (es : List Expr) → n ≤ 4294967295 → AllGood code seen run es
      → Is n (sum_by expr_nodes es + 0) (spec.judged_form code seen c at want (Expr-F.ChunkOf f es)) (order.packing code seen run c at want f es)
  unfolding order.packing
  packing_stands n at c want f es low g =
      subst (λ o. Is n (sum_by expr_nodes es + 0) (there o (fault.UnknownName (place.Node at)) (λ d. arguments c at (param_types d.params) es (suits at want ty.Chunk))) (order.packing code seen run c at want f es)) (named_is code f)
      (
      there_stands code seen n (sum_by expr_nodes es + 0) (fun_of code f) (fault.UnknownName (place.Node at)) (λ d.
      order.arguments code seen run c at (param_types d.params) es >>= (λ given. settled_type at want (x.ChunkOf f given) ty.Chunk))
      (λ d. arguments c at (param_types d.params) es (suits at want ty.Chunk))
      (λ d. arguments_stand code seen run n at 0 c (param_types d.params) es (λ given. settled_type at want (x.ChunkOf f given) ty.Chunk) (suits at want ty.Chunk) low g
      (λ xs m small. suits_stands code seen m at want (x.ChunkOf f xs) ty.Chunk small)))

  -- how many expressions the parts of a form have, with what its checking stands for
  pub record Opened (c : Ctx) (at : ℕ) (want : Option Ty) (e : Expr) (l : ExprLayer) : Type 0 where
    pub count : ℕ
    pub counted : 1 + count ≡ expr_nodes_level expr_nodes clause_nodes l
    pub stands : Stands code seen (behind at 1) count (spec.judged_form code seen c at want l) (order.opened_form code seen run c at want e l (behind at 1))

  module _ (depth : ℕ) (go : (e : Expr) → expr_depth e ≤ depth → Good code seen run e) where
    goods : (a : ℕ) (es : List Expr) → fold (λ m e. max m (expr_depth e)) a es ≤ depth → AllGood code seen run es
    unfolding AllGood
    goods a [] h = tt
    goods a (e ∷ es) h = let low = fold_above expr_depth (max a (expr_depth e)) es in (go e (omega arith), goods (max a (expr_depth e)) es h)

    good_clauses : (a : ℕ) (ks : List Clause) → fold (λ m k. max m (clause_depth k)) a ks ≤ depth → ClausesGood code seen run ks
    unfolding ClausesGood
    good_clauses a [] h = tt
    good_clauses a (k ∷ ks) h = let low = fold_above clause_depth (max a (clause_depth k)) ks in (go k.body (omega arith), good_clauses (max a (clause_depth k)) ks h)

    literal : (c : Ctx) (at : ℕ) (want : Option Ty) (e : Expr) (t : Ty) → Stands code seen (behind at 1) 0 (suits at want t) (settled_type at want e t (behind at 1))
    literal c at want e t = suits_stands code seen (behind at 1) at want e t (omega arith)

    pub form_is_opened : (c : Ctx) (at : ℕ) (want : Option Ty) (e : Expr) (l : ExprLayer) → expr_depth_level expr_depth clause_depth l ≤ suc depth → Opened c at want e l
    form_is_opened c at want e Expr-F.Unit d = record { count = 0; counted = refl; stands = literal c at want e ty.Unit }
    form_is_opened c at want e (Expr-F.Bool b) d = record { count = 0; counted = refl; stands = literal c at want e ty.Bool }
    form_is_opened c at want e (Expr-F.Int z) d = record { count = 0; counted = refl; stands = literal c at want e ty.Int }
    form_is_opened c at want e (Expr-F.Char k) d = record { count = 0; counted = refl; stands = literal c at want e ty.Char }
    form_is_opened c at want e (Expr-F.Str s) d = record { count = 0; counted = refl; stands = literal c at want e ty.Str }
    form_is_opened c at want e (Expr-F.Blob b) d = record { count = 0; counted = refl; stands = literal c at want e ty.Blob }
    form_is_opened c at want e (Expr-F.Host h) d = record { count = 0; counted = refl; stands = literal c at want e ty.Host }
    form_is_opened c at want e (Expr-F.Dev v) d = record { count = 0; counted = refl; stands = literal c at want e ty.Dev }
    form_is_opened c at want e (Expr-F.Nil u) d = record { count = 0; counted = refl; stands = empty_stands (behind at 1) at c want e u (omega arith) }
    form_is_opened c at want e (Expr-F.Var v) d = record { count = 0; counted = refl; stands = variable_stands (behind at 1) at c want e v (omega arith) }
    form_is_opened c at want e (Expr-F.Raise v t) d = record { count = 0; counted = refl; stands = raising_stands (behind at 1) at c want e v t (omega arith) }
    form_is_opened c at want e (Expr-F.Tuple es) d = record { count = sum_by expr_nodes es + 0; counted = omega arith; stands = tuple_stands (behind at 1) at c want es (omega arith) (goods 0 es (omega (arith, d))) }
    form_is_opened c at want e (Expr-F.Call f es) d = record { count = sum_by expr_nodes es + 0; counted = omega arith; stands = call_stands (behind at 1) at c want f es (omega arith) (goods 0 es (omega (arith, d))) }
    form_is_opened c at want e (Expr-F.ChunkOf f es) d = record { count = sum_by expr_nodes es + 0; counted = omega arith; stands = packing_stands (behind at 1) at c want f es (omega arith) (goods 0 es (omega (arith, d))) }
    form_is_opened c at want e (Expr-F.If a b k) d = record {
      count = expr_nodes a + (expr_nodes b + (expr_nodes k + 0));
      counted = omega arith;
      stands = choice_stands (behind at 1) at c want a b k (omega arith) (go a (omega (arith, d))) (go b (omega (arith, d))) (go k (omega (arith, d)));
    }
    form_is_opened c at want e (Expr-F.Let v u a b) d = record {
      count = expr_nodes a + (expr_nodes b + 0);
      counted = omega arith;
      stands = binder_stands (behind at 1) at c want v u a b (omega arith) (go a (omega (arith, d))) (go b (omega (arith, d)));
    }
    form_is_opened c at want e (Expr-F.Then a b) d = record {
      count = expr_nodes a + (expr_nodes b + 0);
      counted = omega arith;
      stands = sequence_stands (behind at 1) at c want a b (omega arith) (go a (omega (arith, d))) (go b (omega (arith, d)));
    }
    form_is_opened c at want e (Expr-F.And a b) d = record {
      count = expr_nodes a + (expr_nodes b + 0);
      counted = omega arith;
      stands = both_stands (behind at 1) at c want a b (go a (omega (arith, d))) (go b (omega (arith, d)));
    }
    form_is_opened c at want e (Expr-F.Or a b) d = record {
      count = expr_nodes a + (expr_nodes b + 0);
      counted = omega arith;
      stands = either_stands (behind at 1) at c want a b (go a (omega (arith, d))) (go b (omega (arith, d)));
    }
    form_is_opened c at want e (Expr-F.Not a) d = record { count = expr_nodes a + 0; counted = omega arith; stands = negation_stands (behind at 1) at c want a (go a (omega (arith, d))) }
    form_is_opened c at want e (Expr-F.Binary o a b) d = record {
      count = expr_nodes a + (expr_nodes b + 0);
      counted = omega arith;
      stands = operation_stands (behind at 1) at c want o a b (go a (omega (arith, d))) (go b (omega (arith, d)));
    }
    form_is_opened c at want e (Expr-F.Part i a) d = record { count = expr_nodes a + 0; counted = omega arith; stands = part_form (behind at 1) at c want i a (omega arith) (go a (omega (arith, d))) }
    form_is_opened c at want e (Expr-F.Try a ks) d = record {
      count = expr_nodes a + sum_by clause_nodes ks;
      counted = omega arith;
      stands = handling_stands (behind at 1) at c want a ks (go a (omega (arith, d))) (good_clauses 0 ks (omega (arith, d)));
    }
    form_is_opened c at want e (Expr-F.Foldl f a l) d = record {
      count = expr_nodes a + (expr_nodes l + 0);
      counted = omega arith;
      stands = fold_left_stands (behind at 1) at c want f a l (go a (omega (arith, d))) (go l (omega (arith, d)));
    }
    form_is_opened c at want e (Expr-F.Foldr f a l) d = record {
      count = expr_nodes a + (expr_nodes l + 0);
      counted = omega arith;
      stands = fold_right_stands (behind at 1) at c want f a l (go a (omega (arith, d))) (go l (omega (arith, d)));
    }
    form_is_opened c at want e (Expr-F.Eval a) d = record { count = expr_nodes a + 0; counted = omega arith; stands = evaluation_stands (behind at 1) at c want a (go a (omega (arith, d))) }
    form_is_opened c at want e (Expr-F.OnRemote a h k r) d = record {
      count = expr_nodes a + (expr_nodes h + (expr_nodes k + 0));
      counted = omega arith;
      stands = remote_stands (behind at 1) at c want a h k r (go a (omega (arith, d))) (go h (omega (arith, d))) (go k (omega (arith, d)));
    }
    form_is_opened c at want e (Expr-F.OnNeighbor a h k v) d = record {
      count = expr_nodes a + (expr_nodes h + (expr_nodes k + (expr_nodes v + 0)));
      counted = omega arith;
      stands = neighbour_stands (behind at 1) at c want a h k v (go a (omega (arith, d))) (go h (omega (arith, d))) (go k (omega (arith, d))) (go v (omega (arith, d)));
    }
