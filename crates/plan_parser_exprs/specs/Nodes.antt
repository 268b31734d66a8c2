-- An expression as it was read: the tree, its place, the places below it, and how deep it is.
use Rattle.std.specs.Prelude.{◌+◌, ℕ, max, List, [], ◌∷◌, ◌++◌, map, nat_lt, if◌then◌else◌}
use Rattle.std.specs.List.{flat_map}
use Rattle.plan_base.specs.declared.tree.Op.TheVariants as ops
use Rattle.plan_base.specs.declared.tree.Expr.{Expr}
use Rattle.plan_base.specs.declared.tree.Expr.TheVariants as x
use Rattle.plan_base.specs.declared.tree.Clause.{Clause}
use Rattle.plan_base.specs.Sizes.{largest_by}
use Rattle.plan_parser_exprs.specs.declared.joint.Joint.{Joint}
use Rattle.plan_parser_exprs.specs.declared.joint.Joint.TheVariants as joints
use Rattle.plan_parser_exprs.specs.declared.node.Below.{Below}
use Rattle.plan_parser_exprs.specs.declared.node.Node.{Node}
use Rattle.plan_parser_exprs.specs.declared.node.Bound.{Bound}
use Rattle.plan_parser_exprs.specs.declared.node.Caught.{Caught}
use Rattle.plan_parser_exprs.specs.Joints.{joined_tree}

-- the places of an expression and of all below it, in preorder
abbrev pub all_at : Node → List ℕ
all_at n = n.at ∷ n.below

-- what an expression adds to what stands below another
abbrev pub below_of : Node → Below
below_of n = record { places = all_at n; depth = n.depth }

-- what two parts add
abbrev pub both : Below → Below → Below
both a b = record { places = a.places ++ b.places; depth = max a.depth b.depth }

-- several expressions together: their trees, and what they add
abbrev pub trees : List Node → List Expr
trees ns = map (λ n. n.tree) ns

abbrev pub below_all : List Node → Below
below_all ns = record { places = flat_map all_at ns; depth = largest_by (λ n. n.depth) ns }

-- an expression without parts
abbrev pub leaf : Expr → ℕ → Node
leaf tree at = record { tree = tree; at = at; below = []; depth = 1 }

-- an expression over others; one deeper than 64 is kept by its depth alone, since its function is refused
unfoldable pub over : Expr → ℕ → Below → Node
over tree at b =
    if nat_lt b.depth 64 then record { tree = tree; at = at; below = b.places; depth = b.depth + 1 }
    else record { tree = x.Unit; at = at; below = []; depth = 65 }

-- an expression over one, two, three or several others
abbrev pub over_one : Expr → ℕ → Node → Node
over_one tree at a = over tree at (below_of a)

abbrev pub over_two : Expr → ℕ → Node → Node → Node
over_two tree at a b = over tree at (both (below_of a) (below_of b))

abbrev pub over_three : Expr → ℕ → Node → Node → Node → Node
over_three tree at a b c = over tree at (both (below_of a) (both (below_of b) (below_of c)))

abbrev pub over_four : Expr → ℕ → Node → Node → Node → Node → Node
over_four tree at a b c d = over tree at (both (below_of a) (both (below_of b) (both (below_of c) (below_of d))))

abbrev pub over_list : Expr → ℕ → List Node → Node
over_list tree at ns = over tree at (below_all ns)

-- two operands with what joins them, at the place of the left one
abbrev pub joined_nodes : Joint → Node → Node → Node
joined_nodes joint a b = over_two (joined_tree joint a.tree b.tree) a.at a b

-- an item before a list
abbrev pub consed_nodes : Node → Node → Node
consed_nodes a b = joined_nodes (joints.Operator ops.Cons) a b

-- items in brackets, before the empty list that the closing bracket stands for
abbrev pub bracketed_nodes : List Node → Node → Node
bracketed_nodes [] end = end
bracketed_nodes (n ∷ ns) end = consed_nodes n (bracketed_nodes ns end)

-- one `val` around what follows it
abbrev pub bound : Bound → Node → Node
bound b body = over_two (x.Let b.name b.ty b.value.tree body.tree) b.at b.value body

-- several `val` around their body
abbrev pub let_of : List Bound → Node → Node
let_of [] body = body
let_of (b ∷ bs) body = bound b (let_of bs body)

-- the clauses of a `try`
abbrev pub clauses_of : List Caught → List Clause
clauses_of cs = map (λ c. record { name = c.name; body = c.body.tree }) cs

abbrev pub bodies : List Caught → List Node
bodies cs = map (λ c. c.body) cs

abbrev pub try_of : ℕ → Node → List Caught → Node
try_of at a cs = over (x.Try a.tree (clauses_of cs)) at (both (below_of a) (below_all (bodies cs)))
