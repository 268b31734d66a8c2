-- The tree of an expression of the grammar, whatever its depth: by the productions alone, with no reader and no limit.
use Rattle.std.specs.Prelude.{◌≡◌, ◌≤◌, ℕ, min, List, [], ◌∷◌, length, Some, None}
use Rattle.plan_base.specs.declared.tree.Op.TheVariants as ops
use Rattle.plan_base.specs.declared.tree.Expr.{Expr}
use Rattle.plan_base.specs.declared.tree.Expr.TheVariants as x
use Rattle.plan_base.specs.declared.tree.Clause.{Clause}
use Rattle.plan_base.specs.Sizes.{expr_depth, expr_nodes}
use Rattle.plan_parser_exprs.specs.declared.node.Node.{Node}
use Rattle.plan_parser_exprs.specs.declared.node.Bound.{Bound}
use Rattle.plan_parser_exprs.specs.declared.node.Caught.{Caught}
use Rattle.plan_parser_exprs.specs.Ahead.{Front}
use Rattle.plan_parser_exprs.specs.Joints.{joined_tree}
use Rattle.plan_parser_exprs.specs.Nodes.{all_at}
use Rattle.plan_parser_laws.specs.Grammar.{ExprAt, LowAt, OrAt, AndAt, NotAt, CmpAt, ConsAt, AddAt, MulAt, PartAt, AtomAt, ArgsAt, SomeAt}
use Rattle.plan_parser_laws.specs.Grammar.{MoreAt, ValAt, ValsAt, ClauseAt, ClausesAt}
use Rattle.plan_parser_laws.specs.Grammar as g

-- items in brackets, before the empty list
abbrev pub bracketed_expressions : List Expr → Expr
bracketed_expressions [] = x.Nil None
bracketed_expressions (e ∷ es) = x.Binary ops.Cons e (bracketed_expressions es)

abbrev mutual
  pub expr_tree : {r : ℕ} {f h : Front} {n : Node} → ExprAt r f n h → Expr
  expr_tree (g.low a) = low_tree a
  expr_tree (g.then_next a _ b) = x.Then (low_tree a) (expr_tree b)

  pub low_tree : {r : ℕ} {f h : Front} {n : Node} → LowAt r f n h → Expr
  low_tree (g.if_then_else _ c _ a _ b) = x.If (expr_tree c) (low_tree a) (low_tree b)
  low_tree (g.disjunction a) = or_tree a

  pub or_tree : {r : ℕ} {f h : Front} {n : Node} → OrAt r f n h → Expr
  or_tree (g.one_and a) = and_tree a
  or_tree (g.more_or {j = j} a _ b) = joined_tree j (or_tree a) (and_tree b)

  pub and_tree : {r : ℕ} {f h : Front} {n : Node} → AndAt r f n h → Expr
  and_tree (g.one_not a) = not_tree a
  and_tree (g.more_and {j = j} a _ b) = joined_tree j (and_tree a) (not_tree b)

  pub not_tree : {r : ℕ} {f h : Front} {n : Node} → NotAt r f n h → Expr
  not_tree (g.negation _ a) = x.Not (not_tree a)
  not_tree (g.comparison a) = cmp_tree a

  pub cmp_tree : {r : ℕ} {f h : Front} {n : Node} → CmpAt r f n h → Expr
  cmp_tree (g.one_side a) = cons_tree a
  cmp_tree (g.two_sides {j = j} a _ b) = joined_tree j (cons_tree a) (cons_tree b)

  pub cons_tree : {r : ℕ} {f h : Front} {n : Node} → ConsAt r f n h → Expr
  cons_tree (g.no_list a) = add_tree a
  cons_tree (g.before_list a _ b) = x.Binary ops.Cons (add_tree a) (cons_tree b)

  pub add_tree : {r : ℕ} {f h : Front} {n : Node} → AddAt r f n h → Expr
  add_tree (g.one_term a) = mul_tree a
  add_tree (g.more_terms {j = j} a _ b) = joined_tree j (add_tree a) (mul_tree b)

  pub mul_tree : {r : ℕ} {f h : Front} {n : Node} → MulAt r f n h → Expr
  mul_tree (g.one_factor a) = part_tree a
  mul_tree (g.more_factors {j = j} a _ b) = joined_tree j (mul_tree a) (part_tree b)

  pub part_tree : {r : ℕ} {f h : Front} {n : Node} → PartAt r f n h → Expr
  part_tree (g.part_of {i = i} _ a) = x.Part i (part_tree a)
  part_tree (g.atom a) = atom_tree a

  pub atom_tree : {r : ℕ} {f h : Front} {n : Node} → AtomAt r f n h → Expr
  atom_tree (g.one_token {e = e} _) = e
  atom_tree (g.variable {name = name} _) = x.Var name
  atom_tree (g.call {name = name} _ es) = x.Call name (args_trees es)
  atom_tree (g.no_value _ _) = x.Unit
  atom_tree (g.in_brackets _ a _) = expr_tree a
  atom_tree (g.tuple _ a es _ _) = x.Tuple (expr_tree a ∷ more_trees es)
  atom_tree (g.no_items _ _) = x.Nil None
  atom_tree (g.no_items_of {t = t} _ _ _ _) = x.Nil (Some t)
  atom_tree (g.items _ es _ _) = bracketed_expressions (some_trees es)
  atom_tree (g.chunk {name = name} _ _ _ es) = x.ChunkOf name (args_trees es)
  atom_tree (g.let_in _ v vs _ a _) = val_tree v (vals_tree vs (expr_tree a))
  atom_tree (g.try_handle _ a _ cs _ _) = x.Try (expr_tree a) (clauses_trees cs)
  atom_tree (g.raise {name = name} _ _) = x.Raise name None
  atom_tree (g.raise_of {t = t} {name = name} _ _ _ _ _ _) = x.Raise name (Some t)
  atom_tree (g.foldl {name = name} _ _ _ _ a _ b _) = x.Foldl name (expr_tree a) (expr_tree b)
  atom_tree (g.foldr {name = name} _ _ _ _ a _ b _) = x.Foldr name (expr_tree a) (expr_tree b)
  atom_tree (g.eval _ _ a _) = x.Eval (expr_tree a)
  atom_tree (g.on_remote {name = name} _ _ a _ b _ c _ _ _) = x.OnRemote (expr_tree a) (expr_tree b) (expr_tree c) name
  atom_tree (g.on_neighbor _ _ a _ b _ c _ d _) = x.OnNeighbor (expr_tree a) (expr_tree b) (expr_tree c) (expr_tree d)

  pub args_trees : {r : ℕ} {f h : Front} {ns : List Node} → ArgsAt r f ns h → List Expr
  args_trees (g.no_args _ _) = []
  args_trees (g.args _ es _ _) = some_trees es

  pub some_trees : {r : ℕ} {f h : Front} {ns : List Node} → SomeAt r f ns h → List Expr
  some_trees (g.some a es) = expr_tree a ∷ more_trees es

  pub more_trees : {r : ℕ} {f h : Front} {ns : List Node} → MoreAt r f ns h → List Expr
  more_trees g.no_more = []
  more_trees (g.one_more _ a es) = expr_tree a ∷ more_trees es

  -- a `val` around what follows it
  pub val_tree : {r at : ℕ} {f h : Front} {b : Bound} → ValAt r at f b h → Expr → Expr
  val_tree (g.val {name = name} {t = t} _ _ _ _ _ a) body = x.Let name t (expr_tree a) body

  pub vals_tree : {r : ℕ} {f h : Front} {bs : List Bound} → ValsAt r f bs h → Expr → Expr
  vals_tree g.no_val body = body
  vals_tree (g.one_val v vs) body = val_tree v (vals_tree vs body)

  pub clause_tree : {r : ℕ} {f h : Front} {c : Caught} → ClauseAt r f c h → Clause
  clause_tree (g.named_clause {name = name} _ _ a) = record { name = Some name; body = expr_tree a }
  clause_tree (g.last_clause _ _ a) = record { name = None; body = expr_tree a }

  pub clauses_trees : {r : ℕ} {f h : Front} {cs : List Caught} → ClausesAt r f cs h → List Clause
  clauses_trees (g.one_clause c) = clause_tree c ∷ []
  clauses_trees (g.more_clauses c _ _ cs) = clause_tree c ∷ clauses_trees cs

-- A node keeps the depth of a written tree up to 64, and is the tree with a place for each expression where it isn't
-- deeper.
pub record Holds (n : Node) (tree : Expr) : Type 0 where
  pub depth : n.depth ≡ min 65 (expr_depth tree)
  pub whole : expr_depth tree ≤ 64 → (n.tree ≡ tree) × (length (all_at n) ≡ expr_nodes tree)
