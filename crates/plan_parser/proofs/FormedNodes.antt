-- Expressions made of well-formed parts are well formed, as deep as is said, with a place for each.
use Rattle.std.proofs.Common.{◌≡◌, ℕ, suc, ◌+◌, ◌-◌, ◌<◌, ◌≤◌, Bool, true, false, List, [], ◌∷◌, ◌++◌, length, take, max, refl, sym, ◌∙◌, ap, arith, length-append}
use Rattle.std.specs.Prelude.{◌&&◌, nat_le, nat_lt, if◌then◌else◌, is_some}
use Rattle.std.specs.List.{list_all, fold, flat_map, sum_by}
use Rattle.std.proofs.lemmas.Bool.{le-leb}
use Rattle.std.proofs.lemmas.List.{length-map}
use Rattle.std.proofs.lemmas.List.Sums.{sum_by-cons}
use Rattle.std.proofs.lemmas.List.Folds.{fold-map}
use Rattle.std.proofs.lemmas.Bool.Decides.{nat_tests}
use Rattle.containers.proofs.Bools.{both}
use Rattle.plan_base.specs.declared.name.Name.{Name}
use Rattle.plan_base.specs.declared.tree.Op.TheVariants as ops
use Rattle.plan_base.specs.declared.tree.Expr.{Expr, Expr-F, roll-Expr, out-roll-Expr}
use Rattle.plan_base.specs.declared.tree.Expr.TheVariants as x
use Rattle.plan_base.specs.declared.tree.Clause.{Clause}
use Rattle.plan_base.specs.Sizes.{largest_by, expr_depth, expr_depth_level, clause_depth, expr_nodes, expr_nodes_level, clause_nodes}
use Rattle.plan_base.specs.WellFormed.{formed_expr, formed_expr_level}
use Rattle.plan_base.proofs.SizeLaws.{expr_depth_out, expr_nodes_out}
use Rattle.plan_base.proofs.FormLaws.{formed_expr_out}
use Rattle.plan_parser_exprs.specs.declared.joint.Joint.{Joint}
use Rattle.plan_parser_exprs.specs.declared.joint.Joint.TheVariants as joints
use Rattle.plan_parser_exprs.specs.declared.node.Below.{Below}
use Rattle.plan_parser_exprs.specs.declared.node.Node.{Node}
use Rattle.plan_parser_exprs.specs.declared.node.Bound.{Bound}
use Rattle.plan_parser_exprs.specs.declared.node.Caught.{Caught}
use Rattle.plan_parser_exprs.specs.Nodes.{all_at, trees, leaf, over, over_one, over_two, over_three, over_four, over_list, joined_nodes, bracketed_nodes, bound, let_of, clauses_of, bodies, try_of}
use Rattle.plan_parser.proofs.FormedTypes.{Each, Good}

pub record Sound (n : Node) : Type 0 where
  pub formed : formed_expr n.tree ≡ true
  pub deep : n.depth ≤ 64 → expr_depth n.tree ≡ n.depth
  pub nodes : expr_nodes n.tree ≡ suc (length n.below)

abbrev Level : Expr-F Expr Clause → Bool
Level l = formed_expr_level formed_expr (λ c. is_some c.name) (λ c. formed_expr c.body) l

formed_roll : (l : Expr-F Expr Clause) {t : Expr} → roll-Expr l ≡ t → formed_expr t ≡ Level l
formed_roll l r = sym (ap formed_expr r) ∙ (formed_expr_out (roll-Expr l) ∙ ap Level (out-roll-Expr l))

depth_roll : (l : Expr-F Expr Clause) {t : Expr} → roll-Expr l ≡ t → expr_depth t ≡ expr_depth_level expr_depth clause_depth l
depth_roll l r = sym (ap expr_depth r) ∙ (expr_depth_out (roll-Expr l) ∙ ap (expr_depth_level expr_depth clause_depth) (out-roll-Expr l))

nodes_roll : (l : Expr-F Expr Clause) {t : Expr} → roll-Expr l ≡ t → expr_nodes t ≡ expr_nodes_level expr_nodes clause_nodes l
nodes_roll l r = sym (ap expr_nodes r) ∙ (expr_nodes_out (roll-Expr l) ∙ ap (expr_nodes_level expr_nodes clause_nodes) (out-roll-Expr l))

-- an expression without parts
pub leaf_sound : (l : Expr-F Expr Clause) {t : Expr} → roll-Expr l ≡ t → (at : ℕ) → Level l ≡ true
    → expr_depth_level expr_depth clause_depth l ≡ 1 → expr_nodes_level expr_nodes clause_nodes l ≡ 1 → Sound (leaf t at)
leaf_sound l r at h d n = record { formed = formed_roll l r ∙ h; deep = λ _. depth_roll l r ∙ d; nodes = nodes_roll l r ∙ n }

-- an expression over others
over_sound : (l : Expr-F Expr Clause) {t : Expr} → roll-Expr l ≡ t → (at : ℕ) (b : Below) → Level l ≡ true
    → (b.depth < 64 → expr_depth_level expr_depth clause_depth l ≡ b.depth + 1) → expr_nodes_level expr_nodes clause_nodes l ≡ suc (length b.places) → Sound (over t at b)
unfolding over
over_sound l {t = t} r at b h d n = by_depth (nat_lt b.depth 64) refl
  where
    by_depth : (c : Bool) → nat_lt b.depth 64 ≡ c
        → Sound (if c then record { tree = t; at = at; below = b.places; depth = b.depth + 1 } else record { tree = x.Unit; at = at; below = []; depth = 65 })
    by_depth true e = record { formed = formed_roll l r ∙ h; deep = (λ _. depth_roll l r ∙ d (grind (arith, nat_tests, e))); nodes = nodes_roll l r ∙ n }
    by_depth false e = record { formed = formed_roll Expr-F.Unit x.rolls-Unit; deep = (λ s. absurd (omega (arith, s))); nodes = nodes_roll Expr-F.Unit x.rolls-Unit }

-- ---- over one, two, three or four others

one_deep : (a : Node) → Sound a → a.depth < 64 → 1 + expr_depth a.tree ≡ a.depth + 1
one_deep a p h = let d = p.deep (omega (arith, h)) in omega (arith, d)

two_deep : (a b : Node) → Sound a → Sound b → max a.depth b.depth < 64 → 1 + max (expr_depth a.tree) (expr_depth b.tree) ≡ max a.depth b.depth + 1
two_deep a b p q h = let d = p.deep (omega (arith, h)) in let e = q.deep (omega (arith, h)) in rw (d, e) (omega arith)

two_nodes : (a b : Node) → Sound a → Sound b → 1 + expr_nodes a.tree + expr_nodes b.tree ≡ suc (length (all_at a ++ all_at b))
two_nodes a b p q = let e = length-append (all_at a) (all_at b) in let m = p.nodes in let n = q.nodes in omega (arith, m, n, e)

pub joined_sound : (joint : Joint) (a b : Node) → Sound a → Sound b → Sound (joined_nodes joint a b)
joined_sound (joints.Operator op) a b p q = over_sound (Expr-F.Binary op a.tree b.tree) (x.rolls-Binary op a.tree b.tree) a.at _ (both p.formed q.formed) (two_deep a b p q) (two_nodes a b p q)
joined_sound joints.And a b p q = over_sound (Expr-F.And a.tree b.tree) (x.rolls-And a.tree b.tree) a.at _ (both p.formed q.formed) (two_deep a b p q) (two_nodes a b p q)
joined_sound joints.Or a b p q = over_sound (Expr-F.Or a.tree b.tree) (x.rolls-Or a.tree b.tree) a.at _ (both p.formed q.formed) (two_deep a b p q) (two_nodes a b p q)

pub then_sound : (a b : Node) → Sound a → Sound b → Sound (over_two (x.Then a.tree b.tree) a.at a b)
then_sound a b p q = over_sound (Expr-F.Then a.tree b.tree) (x.rolls-Then a.tree b.tree) a.at _ (both p.formed q.formed) (two_deep a b p q) (two_nodes a b p q)

pub foldl_sound : (f : Name) (at : ℕ) (a b : Node) → Sound a → Sound b → Sound (over_two (x.Foldl f a.tree b.tree) at a b)
foldl_sound f at a b p q = over_sound (Expr-F.Foldl f a.tree b.tree) (x.rolls-Foldl f a.tree b.tree) at _ (both p.formed q.formed) (two_deep a b p q) (two_nodes a b p q)

pub foldr_sound : (f : Name) (at : ℕ) (a b : Node) → Sound a → Sound b → Sound (over_two (x.Foldr f a.tree b.tree) at a b)
foldr_sound f at a b p q = over_sound (Expr-F.Foldr f a.tree b.tree) (x.rolls-Foldr f a.tree b.tree) at _ (both p.formed q.formed) (two_deep a b p q) (two_nodes a b p q)

one_nodes : (a : Node) → Sound a → 1 + expr_nodes a.tree ≡ suc (length (all_at a))
one_nodes a p = let m = p.nodes in omega (arith, m)

pub not_sound : (at : ℕ) (a : Node) → Sound a → Sound (over_one (x.Not a.tree) at a)
not_sound at a p = over_sound (Expr-F.Not a.tree) (x.rolls-Not a.tree) at _ p.formed (one_deep a p) (one_nodes a p)

pub eval_sound : (at : ℕ) (a : Node) → Sound a → Sound (over_one (x.Eval a.tree) at a)
eval_sound at a p = over_sound (Expr-F.Eval a.tree) (x.rolls-Eval a.tree) at _ p.formed (one_deep a p) (one_nodes a p)

pub part_sound : (i at : ℕ) (a : Node) → 1 ≤ i → i ≤ 8 → Sound a → Sound (over_one (x.Part i a.tree) at a)
part_sound i at a l m p = over_sound (Expr-F.Part i a.tree) (x.rolls-Part i a.tree) at _ (both (both (le-leb 1 i l) (le-leb i 8 m)) p.formed) (one_deep a p) (one_nodes a p)

three_deep : (a b c : Node) → Sound a → Sound b → Sound c → max a.depth (max b.depth c.depth) < 64
    → 1 + max (expr_depth a.tree) (max (expr_depth b.tree) (expr_depth c.tree)) ≡ max a.depth (max b.depth c.depth) + 1
three_deep a b c p q r h =
    let d = p.deep (omega (arith, h)) in let e = q.deep (omega (arith, h)) in let g = r.deep (omega (arith, h)) in rw (d, e, g) (omega arith)

three_nodes : (a b c : Node) → Sound a → Sound b → Sound c → 1 + expr_nodes a.tree + expr_nodes b.tree + expr_nodes c.tree ≡ suc (length (all_at a ++ (all_at b ++ all_at c)))
three_nodes a b c p q r =
    let e = length-append (all_at a) (all_at b ++ all_at c) in let g = length-append (all_at b) (all_at c) in
    let l = p.nodes in let m = q.nodes in let n = r.nodes in omega (arith, l, m, n, e, g)

pub if_sound : (at : ℕ) (a b c : Node) → Sound a → Sound b → Sound c → Sound (over_three (x.If a.tree b.tree c.tree) at a b c)
if_sound at a b c p q r = over_sound (Expr-F.If a.tree b.tree c.tree) (x.rolls-If a.tree b.tree c.tree) at _ (both p.formed (both q.formed r.formed)) (three_deep a b c p q r) (three_nodes a b c p q r)

pub remote_sound : (route : Name) (at : ℕ) (a b c : Node) → Sound a → Sound b → Sound c → Sound (over_three (x.OnRemote a.tree b.tree c.tree route) at a b c)
remote_sound route at a b c p q r =
    over_sound (Expr-F.OnRemote a.tree b.tree c.tree route) (x.rolls-OnRemote a.tree b.tree c.tree route) at _ (both p.formed (both q.formed r.formed)) (three_deep a b c p q r) (three_nodes a b c p q r)

four_deep : (a b c d : Node) → Sound a → Sound b → Sound c → Sound d → max a.depth (max b.depth (max c.depth d.depth)) < 64
    → 1 + max (max (expr_depth a.tree) (expr_depth b.tree)) (max (expr_depth c.tree) (expr_depth d.tree)) ≡ max a.depth (max b.depth (max c.depth d.depth)) + 1
four_deep a b c d p q r s h =
    let e = p.deep (omega (arith, h)) in let f = q.deep (omega (arith, h)) in let g = r.deep (omega (arith, h)) in let k = s.deep (omega (arith, h)) in
    rw (e, f, g, k) (omega arith)

pub neighbor_sound : (at : ℕ) (a b c d : Node) → Sound a → Sound b → Sound c → Sound d → Sound (over_four (x.OnNeighbor a.tree b.tree c.tree d.tree) at a b c d)
neighbor_sound at a b c d p q r s =
    over_sound (Expr-F.OnNeighbor a.tree b.tree c.tree d.tree) (x.rolls-OnNeighbor a.tree b.tree c.tree d.tree) at _ (both (both p.formed q.formed) (both r.formed s.formed)) (four_deep a b c d p q r s)
    (let e = length-append (all_at a) (all_at b ++ (all_at c ++ all_at d)) in let g = length-append (all_at b) (all_at c ++ all_at d) in let h = length-append (all_at c) (all_at d) in
    let k = p.nodes in let l = q.nodes in let m = r.nodes in let n = s.nodes in omega (arith, k, l, m, n, e, g, h))

-- ---- over a list

trees_formed : (ns : List Node) → Each Sound ns → list_all formed_expr (trees ns) ≡ true
trees_formed [] q = refl
trees_formed (n ∷ ns) q = both q.0.formed (trees_formed ns q.1)

deepest_grows : (ns : List Node) (m : ℕ) → m ≤ fold (λ k n. max k n.depth) m ns
deepest_grows [] m = omega arith
deepest_grows (n ∷ ns) m = let h = deepest_grows ns (max m n.depth) in omega (arith, h)

trees_deep_from : (ns : List Node) (m : ℕ) → Each Sound ns → fold (λ k n. max k n.depth) m ns < 64
    → fold (λ k n. max k (expr_depth n.tree)) m ns ≡ fold (λ k n. max k n.depth) m ns
trees_deep_from [] m q h = refl
trees_deep_from (n ∷ ns) m q h =
    let g = deepest_grows ns (max m n.depth) in
    let e = q.0.deep (omega (arith, g, h)) in
    rw e (trees_deep_from ns (max m n.depth) q.1 h)

trees_deep : (ns : List Node) → Each Sound ns → largest_by (λ n. n.depth) ns < 64 → 1 + largest_by expr_depth (trees ns) ≡ largest_by (λ n. n.depth) ns + 1
trees_deep ns q h =
    let e = fold-map (λ k t. max k (expr_depth t)) (λ n. n.tree) 0 ns ∙ trees_deep_from ns 0 q h in omega (arith, e)

trees_nodes : (ns : List Node) → Each Sound ns → sum_by expr_nodes (trees ns) ≡ length (flat_map all_at ns)
trees_nodes [] q = refl
trees_nodes (n ∷ ns) q =
    let e = sum_by-cons expr_nodes n.tree (trees ns) in let g = length-append (all_at n) (flat_map all_at ns) in
    let h = trees_nodes ns q.1 in let k = q.0.nodes in omega (arith, e, g, h, k)

few : (ns : List Node) → length ns ≤ 8 → nat_le (length (trees ns)) 8 ≡ true
few ns h = rw (length-map ns (λ n. n.tree)) (le-leb (length ns) 8 h)

list_nodes : (ns : List Node) → Each Sound ns → 1 + sum_by expr_nodes (trees ns) ≡ suc (length (flat_map all_at ns))
list_nodes ns q = let e = trees_nodes ns q in omega (arith, e)

pub call_sound : (f : Name) (at : ℕ) (ns : List Node) → Each Sound ns → length ns ≤ 8 → Sound (over_list (x.Call f (trees ns)) at ns)
call_sound f at ns q h = over_sound (Expr-F.Call f (trees ns)) (x.rolls-Call f (trees ns)) at _ (both (few ns h) (trees_formed ns q)) (trees_deep ns q) (list_nodes ns q)

pub chunk_sound : (f : Name) (at : ℕ) (ns : List Node) → Each Sound ns → length ns ≤ 8 → Sound (over_list (x.ChunkOf f (trees ns)) at ns)
chunk_sound f at ns q h = over_sound (Expr-F.ChunkOf f (trees ns)) (x.rolls-ChunkOf f (trees ns)) at _ (both (few ns h) (trees_formed ns q)) (trees_deep ns q) (list_nodes ns q)

pub tuple_sound : (at : ℕ) (ns : List Node) → Each Sound ns → 2 ≤ length ns → length ns ≤ 8 → Sound (over_list (x.Tuple (trees ns)) at ns)
tuple_sound at ns q l h =
    over_sound (Expr-F.Tuple (trees ns)) (x.rolls-Tuple (trees ns)) at _ (both (both (rw (length-map ns (λ n. n.tree)) (le-leb 2 (length ns) l)) (few ns h)) (trees_formed ns q)) (trees_deep ns q) (list_nodes ns q)

pub bracketed_sound : (ns : List Node) (end : Node) → Each Sound ns → Sound end → Sound (bracketed_nodes ns end)
bracketed_sound [] end q e = e
bracketed_sound (n ∷ ns) end q e = joined_sound (joints.Operator ops.Cons) n (bracketed_nodes ns end) q.0 (bracketed_sound ns end q.1 e)

-- ---- `let` and `try`

abbrev pub SoundBound : Bound → Type 0
SoundBound b = Good b.ty × Sound b.value

bound_sound : (b : Bound) (body : Node) → SoundBound b → Sound body → Sound (bound b body)
bound_sound b body p q =
    over_sound (Expr-F.Let b.name b.ty b.value.tree body.tree) (x.rolls-Let b.name b.ty b.value.tree body.tree) b.at _ (both p.0 (both p.1.formed q.formed)) (two_deep b.value body p.1 q) (two_nodes b.value body p.1 q)

pub let_sound : (bs : List Bound) (body : Node) → Each SoundBound bs → Sound body → Sound (let_of bs body)
let_sound [] body p q = q
let_sound (b ∷ bs) body p q = bound_sound b (let_of bs body) p.0 (let_sound bs body p.1 q)

abbrev pub SoundCaught : Caught → Type 0
SoundCaught c = Sound c.body

-- the clauses of a `try`: 1 to 8, and all but the last with names
pub record SoundClauses (cs : List Caught) : Type 0 where
  pub all : Each SoundCaught cs
  pub some : 1 ≤ length cs
  pub few : length cs ≤ 8
  pub named : list_all (λ c. is_some c.name) (take (length (clauses_of cs) - 1) (clauses_of cs)) ≡ true

clauses_length : (cs : List Caught) → length (clauses_of cs) ≡ length cs
clauses_length [] = refl
clauses_length (c ∷ cs) = ap suc (clauses_length cs)

few_clauses : (cs : List Caught) → 1 ≤ length cs → length cs ≤ 8 → (nat_le 1 (length (clauses_of cs)) && nat_le (length (clauses_of cs)) 8) ≡ true
few_clauses cs l m = rw (clauses_length cs) (both (le-leb 1 (length cs) l) (le-leb (length cs) 8 m))

clauses_formed : (cs : List Caught) → Each SoundCaught cs → list_all (λ c. formed_expr c.body) (clauses_of cs) ≡ true
clauses_formed [] q = refl
clauses_formed (c ∷ cs) q = both q.0.formed (clauses_formed cs q.1)

caught_grows : (cs : List Caught) (m : ℕ) → m ≤ fold (λ k n. max k n.depth) m (bodies cs)
caught_grows cs m = deepest_grows (bodies cs) m

bodies_sound : (cs : List Caught) → Each SoundCaught cs → Each Sound (bodies cs)
bodies_sound [] q = tt
bodies_sound (c ∷ cs) q = (q.0, bodies_sound cs q.1)

clauses_deep_from : (cs : List Caught) (m : ℕ) → fold (λ k c. max k (clause_depth c)) m (clauses_of cs) ≡ fold (λ k n. max k (expr_depth n.tree)) m (bodies cs)
clauses_deep_from [] m = refl
clauses_deep_from (c ∷ cs) m = clauses_deep_from cs (max m (expr_depth c.body.tree))

clauses_nodes : (cs : List Caught) → Each SoundCaught cs → sum_by clause_nodes (clauses_of cs) ≡ length (flat_map all_at (bodies cs))
clauses_nodes [] q = refl
clauses_nodes (c ∷ cs) q =
    let e = sum_by-cons clause_nodes (record { name = c.name; body = c.body.tree }) (clauses_of cs) in let g = length-append (all_at c.body) (flat_map all_at (bodies cs)) in
    let h = clauses_nodes cs q.1 in let k = q.0.nodes in omega (arith, e, g, h, k)

pub try_sound : (at : ℕ) (a : Node) (cs : List Caught) → Sound a → SoundClauses cs → Sound (try_of at a cs)
try_sound at a cs p q =
    over_sound (Expr-F.Try a.tree (clauses_of cs)) (x.rolls-Try a.tree (clauses_of cs)) at _
    (both p.formed (both (both (few_clauses cs q.some q.few) q.named) (clauses_formed cs q.all)))
    (λ h. let d = p.deep (omega (arith, h)) in
    let e = clauses_deep_from cs 0 ∙ trees_deep_from (bodies cs) 0 (bodies_sound cs q.all) (omega (arith, h)) in rw (d, e) (omega arith))
    (let e = length-append (all_at a) (flat_map all_at (bodies cs)) in let g = clauses_nodes cs q.all in let h = p.nodes in omega (arith, e, g, h))
