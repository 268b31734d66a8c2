-- Each production holds the tree that is written.
use Rattle.std.proofs.Common.{◌≡◌, ℕ, ◌<◌, ◌≤◌, List, ◌∷◌, length, Some, None, refl, ◌∙◌, ap, arith}
use Rattle.std.specs.Prelude.{◌↔◌}
use Rattle.plan_base.specs.declared.tree.Op.TheVariants as ops
use Rattle.plan_base.specs.declared.tree.Expr.{Expr, Expr-F}
use Rattle.plan_base.specs.declared.tree.Expr.TheVariants as x
use Rattle.plan_base.specs.Sizes.{expr_depth, expr_nodes}
use Rattle.plan_parser_exprs.specs.declared.joint.Joint.TheVariants as joints
use Rattle.plan_parser_exprs.specs.declared.node.Node.{Node}
use Rattle.plan_parser_exprs.specs.declared.node.Bound.{Bound}
use Rattle.plan_parser_exprs.specs.declared.node.Caught.{Caught}
use Rattle.plan_parser_exprs.specs.Ahead.{Front, place, next_kind}
use Rattle.plan_parser_exprs.specs.Nodes.{all_at, bound, let_of}
use Rattle.plan_parser_laws.specs.Grammar.{ExprAt, LowAt, OrAt, AndAt, NotAt, CmpAt, ConsAt, AddAt, MulAt, PartAt, AtomAt, ArgsAt, SomeAt, MoreAt, ValAt, ValsAt, ClauseAt, ClausesAt}
use Rattle.plan_parser_laws.specs.Grammar as g
use Rattle.plan_parser_laws.specs.Follow.{EndsExpr}
use Rattle.plan_parser_laws.specs.Agenda.{body_size}
use Rattle.plan_parser_laws.proofs.ExprsAre.{expr_is}
use Rattle.plan_parser_laws.proofs.ProgramsWork.{size_is}
use Rattle.plan_parser_laws.specs.Written.{expr_tree, low_tree, or_tree, and_tree, not_tree, cmp_tree, cons_tree, add_tree, mul_tree, part_tree, atom_tree, args_trees, some_trees, more_trees}
use Rattle.plan_parser_laws.specs.Written.{val_tree, vals_tree, clause_tree, clauses_trees, Holds}
use Rattle.plan_parser_laws.proofs.WrittenNodes.{over_by, leaf_holds, one_holds, two_hold, three_hold, four_hold, list_holds, AllHold, unit_is, nil_is, var_is, raise_is, literal_is, joined_holds}
use Rattle.plan_parser_laws.proofs.WrittenNodes.{bracketed_holds, bound_holds, CaughtHolds, AllCaught, try_holds}

mutual
  pub expr_holds : {r : ℕ} {f h : Front} {n : Node} → (e : ExprAt r f n h) → Holds n (expr_tree e)
  expr_holds (g.low a) = low_holds a
  expr_holds (g.then_next {a = n} {b = m} a _ b) =
      two_hold x.Then n.at n m (low_tree a) (expr_tree b) (low_holds a) (expr_holds b) (over_by (x.Then (low_tree a) (expr_tree b)) (Expr-F.Then (low_tree a) (expr_tree b)) _ _ (x.outs-Then (low_tree a) (expr_tree b)) refl (omega arith))

  low_holds : {r : ℕ} {f h : Front} {n : Node} → (e : LowAt r f n h) → Holds n (low_tree e)
  low_holds (g.if_then_else {f = f} {c = k} {a = n} {b = m} _ c _ a _ b) =
      three_hold x.If (place f) k n m (expr_tree c) (low_tree a) (low_tree b) (expr_holds c) (low_holds a) (low_holds b)
      (over_by (x.If (expr_tree c) (low_tree a) (low_tree b)) (Expr-F.If (expr_tree c) (low_tree a) (low_tree b)) _ _ (x.outs-If (expr_tree c) (low_tree a) (low_tree b)) refl (omega arith))
  low_holds (g.disjunction a) = or_holds a

  or_holds : {r : ℕ} {f h : Front} {n : Node} → (e : OrAt r f n h) → Holds n (or_tree e)
  or_holds (g.one_and a) = and_holds a
  or_holds (g.more_or {a = n} {b = m} {j = j} a _ b) = joined_holds j n m (or_tree a) (and_tree b) (or_holds a) (and_holds b)

  and_holds : {r : ℕ} {f h : Front} {n : Node} → (e : AndAt r f n h) → Holds n (and_tree e)
  and_holds (g.one_not a) = not_holds a
  and_holds (g.more_and {a = n} {b = m} {j = j} a _ b) = joined_holds j n m (and_tree a) (not_tree b) (and_holds a) (not_holds b)

  not_holds : {r : ℕ} {f h : Front} {n : Node} → (e : NotAt r f n h) → Holds n (not_tree e)
  not_holds (g.negation {f = f} {a = n} _ a) = one_holds x.Not (place f) n (not_tree a) (not_holds a) (over_by (x.Not (not_tree a)) (Expr-F.Not (not_tree a)) _ _ (x.outs-Not (not_tree a)) refl refl)
  not_holds (g.comparison a) = cmp_holds a

  cmp_holds : {r : ℕ} {f h : Front} {n : Node} → (e : CmpAt r f n h) → Holds n (cmp_tree e)
  cmp_holds (g.one_side a) = cons_holds a
  cmp_holds (g.two_sides {a = n} {b = m} {j = j} a _ b) = joined_holds j n m (cons_tree a) (cons_tree b) (cons_holds a) (cons_holds b)

  cons_holds : {r : ℕ} {f h : Front} {n : Node} → (e : ConsAt r f n h) → Holds n (cons_tree e)
  cons_holds (g.no_list a) = add_holds a
  cons_holds (g.before_list {a = n} {b = m} a _ b) = joined_holds (joints.Operator ops.Cons) n m (add_tree a) (cons_tree b) (add_holds a) (cons_holds b)

  add_holds : {r : ℕ} {f h : Front} {n : Node} → (e : AddAt r f n h) → Holds n (add_tree e)
  add_holds (g.one_term a) = mul_holds a
  add_holds (g.more_terms {a = n} {b = m} {j = j} a _ b) = joined_holds j n m (add_tree a) (mul_tree b) (add_holds a) (mul_holds b)

  mul_holds : {r : ℕ} {f h : Front} {n : Node} → (e : MulAt r f n h) → Holds n (mul_tree e)
  mul_holds (g.one_factor a) = part_holds a
  mul_holds (g.more_factors {a = n} {b = m} {j = j} a _ b) = joined_holds j n m (mul_tree a) (part_tree b) (mul_holds a) (part_holds b)

  part_holds : {r : ℕ} {f h : Front} {n : Node} → (e : PartAt r f n h) → Holds n (part_tree e)
  part_holds (g.part_of {i = i} {f = f} {a = n} _ a) = one_holds (x.Part i) (place f) n (part_tree a) (part_holds a) (over_by (x.Part i (part_tree a)) (Expr-F.Part i (part_tree a)) _ _ (x.outs-Part i (part_tree a)) refl refl)
  part_holds (g.atom a) = atom_holds a

  atom_holds : {r : ℕ} {f h : Front} {n : Node} → (e : AtomAt r f n h) → Holds n (atom_tree e)
  atom_holds (g.one_token {f = f} {e = e} k) = let l = literal_is (next_kind f) e k in leaf_holds e (place f) l.0 l.1
  atom_holds (g.variable {f = f} {name = name} _) = leaf_holds (x.Var name) (place f) (var_is name).0 (var_is name).1
  atom_holds (g.call {f = f} {name = name} {ns = ns} _ es) =
      list_holds (x.Call name) (place f) ns (args_trees es) (args_hold es) (over_by (x.Call name (args_trees es)) (Expr-F.Call name (args_trees es)) _ _ (x.outs-Call name (args_trees es)) refl refl)
  atom_holds (g.no_value {f = f} _ _) = leaf_holds x.Unit (place f) unit_is.0 unit_is.1
  atom_holds (g.in_brackets _ a _) = expr_holds a
  atom_holds (g.tuple {f = f} {n = n} {m = m} {ns = ns} _ a es _ _) =
      list_holds x.Tuple (place f) (n ∷ m ∷ ns) (expr_tree a ∷ more_trees es) (expr_holds a, more_hold es)
      (over_by (x.Tuple (expr_tree a ∷ more_trees es)) (Expr-F.Tuple (expr_tree a ∷ more_trees es)) _ _ (x.outs-Tuple (expr_tree a ∷ more_trees es)) refl refl)
  atom_holds (g.no_items {f = f} _ _) = leaf_holds (x.Nil None) (place f) (nil_is None).0 (nil_is None).1
  atom_holds (g.no_items_of {f = f} {t = t} _ _ _ _) = leaf_holds (x.Nil (Some t)) (place f) (nil_is (Some t)).0 (nil_is (Some t)).1
  atom_holds (g.items {g = end} {ns = ns} _ es _ _) = bracketed_holds ns (some_trees es) (place end) (some_hold es)
  atom_holds (g.chunk {f = f} {name = name} {ns = ns} _ _ _ es) =
      list_holds (x.ChunkOf name) (place f) ns (args_trees es) (args_hold es) (over_by (x.ChunkOf name (args_trees es)) (Expr-F.ChunkOf name (args_trees es)) _ _ (x.outs-ChunkOf name (args_trees es)) refl refl)
  atom_holds (g.let_in {b = b} {bs = bs} {n = n} _ v vs _ a _) = val_holds v (let_of bs n) (vals_tree vs (expr_tree a)) (vals_hold vs n (expr_tree a) (expr_holds a))
  atom_holds (g.try_handle {f = f} {n = n} {cs = cs} _ a _ ks _ _) = try_holds (place f) n cs (expr_tree a) (clauses_trees ks) (expr_holds a) (clauses_hold ks)
  atom_holds (g.raise {f = f} {name = name} _ _) = leaf_holds (x.Raise name None) (place f) (raise_is name None).0 (raise_is name None).1
  atom_holds (g.raise_of {f = f} {t = t} {name = name} _ _ _ _ _ _) = leaf_holds (x.Raise name (Some t)) (place f) (raise_is name (Some t)).0 (raise_is name (Some t)).1
  atom_holds (g.foldl {f = f} {name = name} {a = n} {b = m} _ _ _ _ a _ b _) =
      two_hold (x.Foldl name) (place f) n m (expr_tree a) (expr_tree b) (expr_holds a) (expr_holds b)
      (over_by (x.Foldl name (expr_tree a) (expr_tree b)) (Expr-F.Foldl name (expr_tree a) (expr_tree b)) _ _ (x.outs-Foldl name (expr_tree a) (expr_tree b)) refl (omega arith))
  atom_holds (g.foldr {f = f} {name = name} {a = n} {b = m} _ _ _ _ a _ b _) =
      two_hold (x.Foldr name) (place f) n m (expr_tree a) (expr_tree b) (expr_holds a) (expr_holds b)
      (over_by (x.Foldr name (expr_tree a) (expr_tree b)) (Expr-F.Foldr name (expr_tree a) (expr_tree b)) _ _ (x.outs-Foldr name (expr_tree a) (expr_tree b)) refl (omega arith))
  atom_holds (g.eval {f = f} {a = n} _ _ a _) = one_holds x.Eval (place f) n (expr_tree a) (expr_holds a) (over_by (x.Eval (expr_tree a)) (Expr-F.Eval (expr_tree a)) _ _ (x.outs-Eval (expr_tree a)) refl refl)
  atom_holds (g.on_remote {f = f} {a = n} {b = m} {c = o} {name = name} _ _ a _ b _ c _ _ _) =
      three_hold (λ t u v. x.OnRemote t u v name) (place f) n m o (expr_tree a) (expr_tree b) (expr_tree c) (expr_holds a) (expr_holds b) (expr_holds c)
      (over_by (x.OnRemote (expr_tree a) (expr_tree b) (expr_tree c) name) (Expr-F.OnRemote (expr_tree a) (expr_tree b) (expr_tree c) name) _ _ (x.outs-OnRemote (expr_tree a) (expr_tree b) (expr_tree c) name) refl (omega arith))
  atom_holds (g.on_neighbor {f = f} {a = n} {b = m} {c = o} {d = p} _ _ a _ b _ c _ d _) =
      four_hold x.OnNeighbor (place f) n m o p (expr_tree a) (expr_tree b) (expr_tree c) (expr_tree d) (expr_holds a) (expr_holds b) (expr_holds c) (expr_holds d)
      (over_by (x.OnNeighbor (expr_tree a) (expr_tree b) (expr_tree c) (expr_tree d)) (Expr-F.OnNeighbor (expr_tree a) (expr_tree b) (expr_tree c) (expr_tree d)) _ _
      (x.outs-OnNeighbor (expr_tree a) (expr_tree b) (expr_tree c) (expr_tree d)) (omega arith) (omega arith))

  args_hold : {r : ℕ} {f h : Front} {ns : List Node} → (es : ArgsAt r f ns h) → AllHold ns (args_trees es)
  args_hold (g.no_args _ _) = tt
  args_hold (g.args _ es _ _) = some_hold es

  some_hold : {r : ℕ} {f h : Front} {ns : List Node} → (es : SomeAt r f ns h) → AllHold ns (some_trees es)
  some_hold (g.some a es) = (expr_holds a, more_hold es)

  more_hold : {r : ℕ} {f h : Front} {ns : List Node} → (es : MoreAt r f ns h) → AllHold ns (more_trees es)
  more_hold g.no_more = tt
  more_hold (g.one_more _ a es) = (expr_holds a, more_hold es)

  val_holds : {r at : ℕ} {f h : Front} {b : Bound} → (v : ValAt r at f b h) → (body : Node) (t : Expr) → Holds body t → Holds (bound b body) (val_tree v t)
  val_holds (g.val {at = at} {name = name} {t = ty} {n = n} _ _ _ _ _ a) body t k = bound_holds (record { at = at; name = name; ty = ty; value = n }) body (expr_tree a) t (expr_holds a) k

  vals_hold : {r : ℕ} {f h : Front} {bs : List Bound} → (vs : ValsAt r f bs h) → (body : Node) (t : Expr) → Holds body t → Holds (let_of bs body) (vals_tree vs t)
  vals_hold g.no_val body t k = k
  vals_hold (g.one_val {bs = bs} v vs) body t k = val_holds v (let_of bs body) (vals_tree vs t) (vals_hold vs body t k)

  clause_holds : {r : ℕ} {f h : Front} {c : Caught} → (k : ClauseAt r f c h) → CaughtHolds c (clause_tree k)
  clause_holds (g.named_clause _ _ a) = record { name = refl; body = expr_holds a }
  clause_holds (g.last_clause _ _ a) = record { name = refl; body = expr_holds a }

  clauses_hold : {r : ℕ} {f h : Front} {cs : List Caught} → (ks : ClausesAt r f cs h) → AllCaught cs (clauses_trees ks)
  clauses_hold (g.one_clause c) = (clause_holds c, tt)
  clauses_hold (g.more_clauses c _ _ cs) = (clause_holds c, clauses_hold cs)

-- ---- bodies

module _ (f h : Front) (n : Node) (e : ExprAt 160 f n h) (ends : EndsExpr h) where
  body_is_sized : body_size f ≡ (n.depth, length (all_at n))
  body_is_sized = size_is f h n (expr_is e ends)

  pub deep_is : (64 < (body_size f).0) ↔ (64 < expr_depth (expr_tree e))
  deep_is =
      let a = ap (λ z. z.0) body_is_sized in
      let d = (expr_holds e).depth in
      (λ k. omega (arith, a, d, k), λ k. omega (arith, a, d, k))

  pub many_is : expr_depth (expr_tree e) ≤ 64 → (body_size f).1 ≡ expr_nodes (expr_tree e)
  many_is k = ap (λ z. z.1) body_is_sized ∙ ((expr_holds e).whole k).1
