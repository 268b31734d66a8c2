-- The parts of each form, and what it makes of the values of its operands.
use Rattle.std.specs.Prelude.{ℕ, suc, Bool, true, false, not, if◌then◌else◌, List, [], ◌∷◌, ◌++◌, map, reverse, Option, Some, None}
use Rattle.plan_base.specs.declared.name.Name.{Name}
use Rattle.plan_base.specs.declared.tree.Expr.{Expr, Expr-F}
use Rattle.plan_base.specs.declared.tree.Clause.{Clause}
use Rattle.plan_base.specs.declared.tree.Exn.{Exn}
use Rattle.plan_base.specs.declared.tree.Program.{Program}
use Rattle.plan_base.specs.declared.tree.Value.{Value}
use Rattle.plan_base.specs.declared.tree.Value as value
use Rattle.plan_base.specs.Trees.{ExprLayer}
use Rattle.plan_types_spec.specs.Rules.{binary, part}
use Rattle.plan_meaning.specs.Run.{Run, ◌>>=◌, ◌>>◌, pure, wrong, or_wrong, given_value}
use Rattle.plan_meaning.specs.Meaning.{Env, meaning, binds, as_bool, as_int, as_host, as_dev, as_chunk, as_items, called_name, pay_eval, visited_chunk}
use Rattle.plan_meaning.specs.Meaning.{send_remote, send_neighbour, left_along, right_along, handled_exception, catches}

-- the parts whose values an expression needs first, in the order in which they are evaluated
abbrev pub operands : ExprLayer → List Expr
operands (Expr-F.Tuple es) = es
operands (Expr-F.Call f es) = es
operands (Expr-F.ChunkOf f es) = es
operands (Expr-F.If t a b) = t ∷ []
operands (Expr-F.Let x t a b) = a ∷ []
operands (Expr-F.Then a b) = a ∷ []
operands (Expr-F.And a b) = a ∷ []
operands (Expr-F.Or a b) = a ∷ []
operands (Expr-F.Not a) = a ∷ []
operands (Expr-F.Binary o a b) = a ∷ b ∷ []
operands (Expr-F.Part i a) = a ∷ []
operands (Expr-F.Foldl f a l) = a ∷ l ∷ []
operands (Expr-F.Foldr f a l) = a ∷ l ∷ []
operands (Expr-F.Eval a) = a ∷ []
operands (Expr-F.OnRemote a h n r) = a ∷ h ∷ n ∷ []
operands (Expr-F.OnNeighbor a h n d) = a ∷ h ∷ n ∷ d ∷ []
operands _ = []

-- the parts whose value may be the expression's own
abbrev pub branches : ExprLayer → List Expr
branches (Expr-F.If t a b) = a ∷ b ∷ []
branches (Expr-F.Then a b) = b ∷ []
branches (Expr-F.And a b) = b ∷ []
branches (Expr-F.Or a b) = b ∷ []
branches (Expr-F.Try a ks) = map (λ k. k.body) ks
branches _ = []

-- the expression of a `try`
abbrev pub tried : ExprLayer → Option Expr
tried (Expr-F.Try a ks) = Some a
tried _ = None

-- the clauses of a `try`
abbrev pub clauses : ExprLayer → List Clause
clauses (Expr-F.Try a ks) = ks
clauses _ = []

-- a form that makes something of the values of its operands
abbrev pub IsOperation : ExprLayer → Type 0
IsOperation (Expr-F.Tuple es) = Unit {0}
IsOperation (Expr-F.Call f es) = Unit {0}
IsOperation (Expr-F.ChunkOf f es) = Unit {0}
IsOperation (Expr-F.If t a b) = Unit {0}
IsOperation (Expr-F.Let x t a b) = Unit {0}
IsOperation (Expr-F.Then a b) = Unit {0}
IsOperation (Expr-F.And a b) = Unit {0}
IsOperation (Expr-F.Or a b) = Unit {0}
IsOperation (Expr-F.Not a) = Unit {0}
IsOperation (Expr-F.Binary o a b) = Unit {0}
IsOperation (Expr-F.Part i a) = Unit {0}
IsOperation (Expr-F.Foldl f a l) = Unit {0}
IsOperation (Expr-F.Foldr f a l) = Unit {0}
IsOperation (Expr-F.Eval a) = Unit {0}
IsOperation (Expr-F.OnRemote a h n r) = Unit {0}
IsOperation (Expr-F.OnNeighbor a h n d) = Unit {0}
IsOperation _ = ⊥

module _ (code : Program) (seen : ℕ) (env : Env) where
  -- what an expression makes of the values of its operands
  abbrev pub made : ExprLayer → List Value → Run Value
  made (Expr-F.Tuple es) vs = pure (value.Tuple vs)
  made (Expr-F.Call f es) vs = called_name meaning code seen f vs
  made (Expr-F.ChunkOf f es) vs = pure (value.Chunk (record { code = code; entry = f; args = vs }))
  made (Expr-F.If t a b) (v ∷ []) = or_wrong (as_bool v) >>= (λ t. if t then meaning code seen env a else meaning code seen env b)
  made (Expr-F.Let x t a b) (v ∷ []) = meaning code seen (env ++ binds x v ∷ []) b
  made (Expr-F.Then a b) (v ∷ []) = meaning code seen env b
  made (Expr-F.And a b) (v ∷ []) = or_wrong (as_bool v) >>= (λ t. if t then meaning code seen env b else pure (value.Bool false))
  made (Expr-F.Or a b) (v ∷ []) = or_wrong (as_bool v) >>= (λ t. if t then pure (value.Bool true) else meaning code seen env b)
  made (Expr-F.Not a) (v ∷ []) = or_wrong (as_bool v) >>= (λ t. pure (value.Bool (not t)))
  made (Expr-F.Binary o a b) (x ∷ y ∷ []) = given_value (binary o x y)
  made (Expr-F.Part i a) (v ∷ []) = given_value (part i v)
  made (Expr-F.Foldl f a l) (acc ∷ v ∷ []) = or_wrong (as_items v) >>= left_along meaning code seen f acc
  made (Expr-F.Foldr f a l) (acc ∷ v ∷ []) = or_wrong (as_items v) >>= (λ xs. right_along meaning code seen f acc (reverse xs))
  made (Expr-F.Eval a) (v ∷ []) = or_wrong (as_chunk v) >>= (λ k. pay_eval >> (visited_chunk meaning k >> pure value.Unit))
  made (Expr-F.OnRemote a h n r) (c ∷ w ∷ u ∷ []) =
      or_wrong (as_chunk c)
      >>= (λ k. or_wrong (as_host w) >>= (λ host. or_wrong (as_int u) >>= (λ b. send_remote k host b r >> pure value.Unit)))
  made (Expr-F.OnNeighbor a h n d) (c ∷ w ∷ u ∷ t ∷ []) =
      or_wrong (as_chunk c)
      >>= (λ k.
      or_wrong (as_host w)
      >>= (λ host. or_wrong (as_int u) >>= (λ b. or_wrong (as_dev t) >>= (λ dev. send_neighbour k host b dev >> pure value.Unit))))
  made _ vs = wrong

  -- operands are evaluated in order behind values that are there, and something is made of all
  abbrev pub made_behind : (List Value → Run Value) → List Value → List Expr → Run Value
  made_behind make done [] = make done
  made_behind make done (e ∷ es) = meaning code seen env e >>= (λ v. made_behind make (done ++ v ∷ []) es)

  -- what a fold makes of its value so far and the items that are left, the next one first
  abbrev pub folded : ExprLayer → Value → List Value → Run Value
  folded (Expr-F.Foldl f a l) acc left = left_along meaning code seen f acc left
  folded (Expr-F.Foldr f a l) acc left = right_along meaning code seen f acc left
  folded _ acc left = wrong

  -- what a `try` makes of an exception
  abbrev pub handled : ExprLayer → Exn → Run Value
  handled layer x = handled_exception meaning code seen env (clauses layer) x

-- the number of the branch that a truth value chooses
abbrev pub chosen : ExprLayer → Option Bool → Option ℕ
chosen (Expr-F.If t a b) (Some true) = Some 0
chosen (Expr-F.If t a b) (Some false) = Some 1
chosen (Expr-F.And a b) (Some true) = Some 0
chosen (Expr-F.Or a b) (Some false) = Some 0
chosen (Expr-F.Then a b) _ = Some 0
chosen _ _ = None

abbrev pub one_more : Option ℕ → Option ℕ
one_more (Some n) = Some (suc n)
one_more None = None

-- the number of the first clause that catches an exception
abbrev pub clause_for : List Clause → Exn → Option ℕ
clause_for [] x = None
clause_for (k ∷ ks) x = if catches k.name x then Some 0 else one_more (clause_for ks x)

-- the arguments of a step of a fold, from its value so far and an item
abbrev pub step_args : ExprLayer → Value → Value → List Value
step_args (Expr-F.Foldr f a l) acc x = x ∷ acc ∷ []
step_args _ acc x = acc ∷ x ∷ []

-- the function of a fold
abbrev pub folder : ExprLayer → Option Name
folder (Expr-F.Foldl f a l) = Some f
folder (Expr-F.Foldr f a l) = Some f
folder _ = None

-- the items of a fold's list in the order in which they are taken
abbrev pub in_turn : ExprLayer → List Value → List Value
in_turn (Expr-F.Foldr f a l) items = reverse items
in_turn _ items = items
