-- Nodes over others hold the trees over theirs.
use Rattle.std.proofs.Common.{◌≡◌, ℕ, ◌+◌, ◌≤◌, Bool, true, false, List, [], ◌∷◌, length, length-append, Option, Some, None, nat_lt, min, max, refl, ◌∙◌, ap, subst, arith, map}
use Rattle.std.specs.Prelude.{fold, sum_by, if◌then◌else◌}
use Rattle.std.specs.List.{flat_map}
use Rattle.std.proofs.lemmas.Bool.{ltb-true, ltb-false}
use Rattle.std.proofs.lemmas.List.Sums.{sum_by-cons}
use Rattle.plan_base.specs.declared.tree.Op.TheVariants as ops
use Rattle.plan_base.specs.declared.tree.Expr.{Expr, Expr-F, out-Expr}
use Rattle.plan_base.specs.declared.tree.Expr.TheVariants as x
use Rattle.plan_base.specs.declared.tree.Clause.{Clause}
use Rattle.plan_base.specs.Sizes.{largest_by, expr_depth, expr_depth_level, clause_depth, expr_nodes, expr_nodes_level, clause_nodes}
use Rattle.plan_base.proofs.SizeLaws.{expr_depth_out, expr_nodes_out}
use Rattle.plan_lexer.specs.declared.token.TokenKind.{TokenKind}
use Rattle.plan_lexer.specs.declared.token.TokenKind.TheVariants as kinds
use Rattle.plan_lexer.specs.declared.token.Key.{Key}
use Rattle.plan_lexer.specs.declared.token.Key.TheVariants as keys
use Rattle.plan_parser_exprs.specs.declared.joint.Joint.{Joint}
use Rattle.plan_parser_exprs.specs.declared.joint.Joint.TheVariants as joints
use Rattle.plan_parser_exprs.specs.declared.node.Below.{Below}
use Rattle.plan_parser_exprs.specs.declared.node.Node.{Node}
use Rattle.plan_parser_exprs.specs.declared.node.Bound.{Bound}
use Rattle.plan_parser_exprs.specs.declared.node.Caught.{Caught}
use Rattle.plan_parser_exprs.specs.Joints.{joined_tree}
use Rattle.plan_parser_exprs.specs.Nodes.{all_at, below_of, both, trees, below_all, leaf, over, over_one, over_two, over_three, over_four, over_list, joined_nodes, bracketed_nodes, bound, clauses_of, bodies, try_of}
use Rattle.plan_parser_exprs.specs.Exprs.{literal, literal_key}
use Rattle.plan_parser_laws.specs.Written.{bracketed_expressions, Holds}

-- ---- sizes of a tree by its level

depth_by : (e : Expr) (l : Expr-F Expr Clause) → out-Expr e ≡ l → expr_depth e ≡ expr_depth_level expr_depth clause_depth l
depth_by e l o = expr_depth_out e ∙ ap (expr_depth_level expr_depth clause_depth) o

nodes_by : (e : Expr) (l : Expr-F Expr Clause) → out-Expr e ≡ l → expr_nodes e ≡ expr_nodes_level expr_nodes clause_nodes l
nodes_by e l o = expr_nodes_out e ∙ ap (expr_nodes_level expr_nodes clause_nodes) o

-- a tree over parts of that depth and number
pub record IsOver (t : Expr) (deep many : ℕ) : Type 0 where
  pub depth : expr_depth t ≡ 1 + deep
  pub nodes : expr_nodes t ≡ 1 + many

-- by its level, whose numbers are those
pub over_by : (e : Expr) (l : Expr-F Expr Clause) (deep many : ℕ) → out-Expr e ≡ l → expr_depth_level expr_depth clause_depth l ≡ 1 + deep → expr_nodes_level expr_nodes clause_nodes l ≡ 1 + many → IsOver e deep many
over_by e l deep many o d n = record { depth = depth_by e l o ∙ d; nodes = nodes_by e l o ∙ n }

-- ---- what stands below

pub record AreBelow (b : Below) (deep many : ℕ) : Type 0 where
  pub depth : b.depth ≡ min 65 deep
  pub count : deep ≤ 64 → length b.places ≡ many

pub below_one : (n : Node) (t : Expr) → Holds n t → AreBelow (below_of n) (expr_depth t) (expr_nodes t)
below_one n t h = record { depth = h.depth; count = λ k. (h.whole k).1 }

pub below_both : (a b : Below) (d e m k : ℕ) → AreBelow a d m → AreBelow b e k → AreBelow (both a b) (max d e) (m + k)
below_both a b d e m k h q = record {
  depth = (let u = h.depth in let v = q.depth in omega (arith, u, v));
  count = λ w. length-append a.places b.places ∙ (let u = h.count (omega (arith, w)) in let v = q.count (omega (arith, w)) in omega (arith, u, v));
}

-- nodes in order hold trees in order
abbrev pub AllHold : List Node → List Expr → Type 0
AllHold [] [] = Unit {0}
AllHold (n ∷ ns) (t ∷ ts) = Holds n t × AllHold ns ts
AllHold _ _ = ⊥

depths_hold : (ns : List Node) (ts : List Expr) (a b : ℕ) → a ≡ min 65 b → AllHold ns ts → fold (λ m n. max m n.depth) a ns ≡ min 65 (fold (λ m t. max m (expr_depth t)) b ts)
depths_hold [] [] a b e h = e
depths_hold (n ∷ ns) (t ∷ ts) a b e h = let d = h.0.depth in depths_hold ns ts (max a n.depth) (max b (expr_depth t)) (omega (arith, d, e)) h.1
depths_hold [] (t ∷ ts) a b e h = absurd h
depths_hold (n ∷ ns) [] a b e h = absurd h

fold_over : {A : Type 0} (f : A → ℕ) (xs : List A) (m n : ℕ) → fold (λ k x. max k (f x)) m xs ≤ n → m ≤ n
fold_over f [] m n h = h
fold_over f (x ∷ xs) m n h = let k = fold_over f xs (max m (f x)) n h in omega (arith, k)

counts_hold : (ns : List Node) (ts : List Expr) (b : ℕ) → AllHold ns ts → fold (λ m t. max m (expr_depth t)) b ts ≤ 64 → (trees ns ≡ ts) × (length (flat_map all_at ns) ≡ sum_by expr_nodes ts)
counts_hold [] [] b h w = (refl, refl)
counts_hold (n ∷ ns) (t ∷ ts) b h w =
    let k = fold_over expr_depth ts (max b (expr_depth t)) 64 w in
    let a = h.0.whole (omega (arith, k)) in
    let z = counts_hold ns ts (max b (expr_depth t)) h.1 w in
    let s = sum_by-cons expr_nodes t ts in
    let l = length-append (all_at n) (flat_map all_at ns) in
    ((λ i. a.0 i ∷ z.0 i), (let u = a.1 in let v = z.1 in omega (arith, u, v, s, l)))
counts_hold [] (t ∷ ts) b h w = absurd h
counts_hold (n ∷ ns) [] b h w = absurd h

pub below_list : (ns : List Node) (ts : List Expr) → AllHold ns ts → AreBelow (below_all ns) (largest_by expr_depth ts) (sum_by expr_nodes ts)
below_list ns ts h = record { depth = depths_hold ns ts 0 0 refl h; count = λ w. (counts_hold ns ts 0 h w).1 }

pub trees_hold : (ns : List Node) (ts : List Expr) → AllHold ns ts → largest_by expr_depth ts ≤ 64 → trees ns ≡ ts
trees_hold ns ts h w = (counts_hold ns ts 0 h w).0

-- ---- a node over others

pub over_holds : (t tree : Expr) (at : ℕ) (b : Below) (deep many : ℕ) → IsOver t deep many → AreBelow b deep many → (deep ≤ 64 → tree ≡ t) → Holds (over tree at b) t
unfolding over
over_holds t tree at b deep many s h same = by_depth (nat_lt b.depth 64) refl
  where
    by_depth : (c : Bool) → nat_lt b.depth 64 ≡ c → Holds (if c then record { tree = tree; at = at; below = b.places; depth = b.depth + 1 } else record { tree = x.Unit; at = at; below = []; depth = 65 }) t
    by_depth true q =
        let l = ltb-true b.depth 64 q in
        let d = h.depth in
        let e = s.depth in
        let small : deep ≤ 64 = omega (arith, l, d) in
        record {
          depth = omega (arith, l, d, e);
          whole = λ w. (same small, (let c = h.count small in let n = s.nodes in omega (arith, c, n)));
        }
    by_depth false q =
        let l = ltb-false b.depth 64 q in
        let d = h.depth in
        let e = s.depth in
        record { depth = omega (arith, l, d, e); whole = λ w. absurd (omega (arith, l, d, e, w)) }

pub leaf_holds : (t : Expr) (at : ℕ) → expr_depth t ≡ 1 → expr_nodes t ≡ 1 → Holds (leaf t at) t
leaf_holds t at d n = record { depth = omega (arith, d); whole = λ w. (refl, omega (arith, n)) }

pub one_holds : (f : Expr → Expr) (at : ℕ) (n : Node) (a : Expr) → Holds n a → IsOver (f a) (expr_depth a) (expr_nodes a) → Holds (over_one (f n.tree) at n) (f a)
one_holds f at n a h s = over_holds (f a) (f n.tree) at (below_of n) (expr_depth a) (expr_nodes a) s (below_one n a h) (λ w. ap f (h.whole w).0)

pub two_hold : (f : Expr → Expr → Expr) (at : ℕ) (n m : Node) (a b : Expr) → Holds n a → Holds m b
    → IsOver (f a b) (max (expr_depth a) (expr_depth b)) (expr_nodes a + expr_nodes b) → Holds (over_two (f n.tree m.tree) at n m) (f a b)
two_hold f at n m a b h k s =
    over_holds (f a b) (f n.tree m.tree) at (both (below_of n) (below_of m)) (max (expr_depth a) (expr_depth b)) (expr_nodes a + expr_nodes b) s
    (below_both (below_of n) (below_of m) (expr_depth a) (expr_depth b) (expr_nodes a) (expr_nodes b) (below_one n a h) (below_one m b k))
    (λ w. let p = (h.whole (omega (arith, w))).0 in let q = (k.whole (omega (arith, w))).0 in (λ i. f (p i) (q i)))

pub three_hold : (f : Expr → Expr → Expr → Expr) (at : ℕ) (n m o : Node) (a b c : Expr) → Holds n a → Holds m b → Holds o c
    → IsOver (f a b c) (max (expr_depth a) (max (expr_depth b) (expr_depth c))) (expr_nodes a + (expr_nodes b + expr_nodes c)) → Holds (over_three (f n.tree m.tree o.tree) at n m o) (f a b c)
three_hold f at n m o a b c h k l s =
    over_holds (f a b c) (f n.tree m.tree o.tree) at (both (below_of n) (both (below_of m) (below_of o))) (max (expr_depth a) (max (expr_depth b) (expr_depth c))) (expr_nodes a + (expr_nodes b + expr_nodes c)) s
    (below_both (below_of n) (both (below_of m) (below_of o)) (expr_depth a) (max (expr_depth b) (expr_depth c)) (expr_nodes a) (expr_nodes b + expr_nodes c) (below_one n a h)
    (below_both (below_of m) (below_of o) (expr_depth b) (expr_depth c) (expr_nodes b) (expr_nodes c) (below_one m b k) (below_one o c l)))
    (λ w. let p = (h.whole (omega (arith, w))).0 in let q = (k.whole (omega (arith, w))).0 in let r = (l.whole (omega (arith, w))).0 in (λ i. f (p i) (q i) (r i)))

pub four_hold : (f : Expr → Expr → Expr → Expr → Expr) (at : ℕ) (n m o p : Node) (a b c d : Expr) → Holds n a → Holds m b → Holds o c → Holds p d
    → IsOver (f a b c d) (max (expr_depth a) (max (expr_depth b) (max (expr_depth c) (expr_depth d)))) (expr_nodes a + (expr_nodes b + (expr_nodes c + expr_nodes d)))
    → Holds (over_four (f n.tree m.tree o.tree p.tree) at n m o p) (f a b c d)
four_hold f at n m o p a b c d h k l j s =
    over_holds (f a b c d) (f n.tree m.tree o.tree p.tree) at (both (below_of n) (both (below_of m) (both (below_of o) (below_of p))))
    (max (expr_depth a) (max (expr_depth b) (max (expr_depth c) (expr_depth d)))) (expr_nodes a + (expr_nodes b + (expr_nodes c + expr_nodes d))) s
    (below_both (below_of n) (both (below_of m) (both (below_of o) (below_of p))) (expr_depth a) (max (expr_depth b) (max (expr_depth c) (expr_depth d))) (expr_nodes a) (expr_nodes b + (expr_nodes c + expr_nodes d)) (below_one n a h)
    (below_both (below_of m) (both (below_of o) (below_of p)) (expr_depth b) (max (expr_depth c) (expr_depth d)) (expr_nodes b) (expr_nodes c + expr_nodes d) (below_one m b k)
    (below_both (below_of o) (below_of p) (expr_depth c) (expr_depth d) (expr_nodes c) (expr_nodes d) (below_one o c l) (below_one p d j))))
    (λ w. let e = (h.whole (omega (arith, w))).0 in let q = (k.whole (omega (arith, w))).0 in let r = (l.whole (omega (arith, w))).0 in let u = (j.whole (omega (arith, w))).0 in (λ i. f (e i) (q i) (r i) (u i)))

pub list_holds : (f : List Expr → Expr) (at : ℕ) (ns : List Node) (ts : List Expr) → AllHold ns ts → IsOver (f ts) (largest_by expr_depth ts) (sum_by expr_nodes ts) → Holds (over_list (f (trees ns)) at ns) (f ts)
list_holds f at ns ts h s = over_holds (f ts) (f (trees ns)) at (below_all ns) (largest_by expr_depth ts) (sum_by expr_nodes ts) s (below_list ns ts h) (λ w. ap f (trees_hold ns ts h w))

-- ---- the forms

pub unit_is : (expr_depth x.Unit ≡ 1) × (expr_nodes x.Unit ≡ 1)
unit_is = (depth_by x.Unit Expr-F.Unit x.outs-Unit, nodes_by x.Unit Expr-F.Unit x.outs-Unit)

pub nil_is : (t : _) → (expr_depth (x.Nil t) ≡ 1) × (expr_nodes (x.Nil t) ≡ 1)
nil_is t = (depth_by (x.Nil t) (Expr-F.Nil t) (x.outs-Nil t), nodes_by (x.Nil t) (Expr-F.Nil t) (x.outs-Nil t))

pub var_is : (n : _) → (expr_depth (x.Var n) ≡ 1) × (expr_nodes (x.Var n) ≡ 1)
var_is n = (depth_by (x.Var n) (Expr-F.Var n) (x.outs-Var n), nodes_by (x.Var n) (Expr-F.Var n) (x.outs-Var n))

pub raise_is : (n : _) (t : _) → (expr_depth (x.Raise n t) ≡ 1) × (expr_nodes (x.Raise n t) ≡ 1)
raise_is n t = (depth_by (x.Raise n t) (Expr-F.Raise n t) (x.outs-Raise n t), nodes_by (x.Raise n t) (Expr-F.Raise n t) (x.outs-Raise n t))

-- an expression that one token is
abbrev IsLeaf : Expr → Type 0
IsLeaf e = (expr_depth e ≡ 1) × (expr_nodes e ≡ 1)

some_is : (d e : Expr) → Some d ≡ Some e → IsLeaf d → IsLeaf e
some_is d e q h = let same : d ≡ e = cc in subst IsLeaf same h

key_is : (k : Key) (e : Expr) → literal_key k ≡ Some e → IsLeaf e
key_is keys.True e q = some_is (x.Bool true) e q (depth_by (x.Bool true) (Expr-F.Bool true) (x.outs-Bool true), nodes_by (x.Bool true) (Expr-F.Bool true) (x.outs-Bool true))
key_is keys.False e q = some_is (x.Bool false) e q (depth_by (x.Bool false) (Expr-F.Bool false) (x.outs-Bool false), nodes_by (x.Bool false) (Expr-F.Bool false) (x.outs-Bool false))
key_is _ e q = cc

pub literal_is : (k : Option TokenKind) (e : Expr) → literal k ≡ Some e → IsLeaf e
literal_is (Some (kinds.Int n)) e q = some_is (x.Int n) e q (depth_by (x.Int n) (Expr-F.Int n) (x.outs-Int n), nodes_by (x.Int n) (Expr-F.Int n) (x.outs-Int n))
literal_is (Some (kinds.Host n)) e q =
    some_is (x.Host (record { 0 = n })) e q (
      depth_by (x.Host (record { 0 = n })) (Expr-F.Host (record { 0 = n })) (x.outs-Host (record { 0 = n })),
      nodes_by (x.Host (record { 0 = n })) (Expr-F.Host (record { 0 = n })) (x.outs-Host (record { 0 = n })),
    )
literal_is (Some (kinds.Dev n)) e q =
    some_is (x.Dev (record { 0 = n })) e q (
      depth_by (x.Dev (record { 0 = n })) (Expr-F.Dev (record { 0 = n })) (x.outs-Dev (record { 0 = n })),
      nodes_by (x.Dev (record { 0 = n })) (Expr-F.Dev (record { 0 = n })) (x.outs-Dev (record { 0 = n })),
    )
literal_is (Some (kinds.Char c)) e q = some_is (x.Char c) e q (depth_by (x.Char c) (Expr-F.Char c) (x.outs-Char c), nodes_by (x.Char c) (Expr-F.Char c) (x.outs-Char c))
literal_is (Some (kinds.Str s)) e q = some_is (x.Str s) e q (depth_by (x.Str s) (Expr-F.Str s) (x.outs-Str s), nodes_by (x.Str s) (Expr-F.Str s) (x.outs-Str s))
literal_is (Some (kinds.Blob b)) e q = some_is (x.Blob b) e q (depth_by (x.Blob b) (Expr-F.Blob b) (x.outs-Blob b), nodes_by (x.Blob b) (Expr-F.Blob b) (x.outs-Blob b))
literal_is (Some (kinds.Key k)) e q = key_is k e q
literal_is (Some (kinds.Word w)) e q = cc
literal_is (Some (kinds.Part i)) e q = cc
literal_is (Some (kinds.Symbol s)) e q = cc
literal_is None e q = cc

-- two operands with what joins them
joint_is : (j : Joint) (a b : Expr) → IsOver (joined_tree j a b) (max (expr_depth a) (expr_depth b)) (expr_nodes a + expr_nodes b)
joint_is (joints.Operator op) a b = over_by (x.Binary op a b) (Expr-F.Binary op a b) _ _ (x.outs-Binary op a b) refl (omega arith)
joint_is joints.And a b = over_by (x.And a b) (Expr-F.And a b) _ _ (x.outs-And a b) refl (omega arith)
joint_is joints.Or a b = over_by (x.Or a b) (Expr-F.Or a b) _ _ (x.outs-Or a b) refl (omega arith)

pub joined_holds : (j : Joint) (n m : Node) (a b : Expr) → Holds n a → Holds m b → Holds (joined_nodes j n m) (joined_tree j a b)
joined_holds j n m a b h k = two_hold (joined_tree j) n.at n m a b h k (joint_is j a b)

pub bracketed_holds : (ns : List Node) (ts : List Expr) (at : ℕ) → AllHold ns ts → Holds (bracketed_nodes ns (leaf (x.Nil None) at)) (bracketed_expressions ts)
bracketed_holds [] [] at h = leaf_holds (x.Nil None) at (nil_is None).0 (nil_is None).1
bracketed_holds (n ∷ ns) (t ∷ ts) at h = joined_holds (joints.Operator ops.Cons) n (bracketed_nodes ns (leaf (x.Nil None) at)) t (bracketed_expressions ts) h.0 (bracketed_holds ns ts at h.1)
bracketed_holds [] (t ∷ ts) at h = absurd h
bracketed_holds (n ∷ ns) [] at h = absurd h

pub bound_holds : (b : Bound) (body : Node) (a t : Expr) → Holds b.value a → Holds body t → Holds (bound b body) (x.Let b.name b.ty a t)
bound_holds b body a t h k = two_hold (x.Let b.name b.ty) b.at b.value body a t h k (over_by (x.Let b.name b.ty a t) (Expr-F.Let b.name b.ty a t) _ _ (x.outs-Let b.name b.ty a t) refl (omega arith))

-- a clause that was read is the one that is written
pub record CaughtHolds (c : Caught) (k : Clause) : Type 0 where
  pub name : c.name ≡ k.name
  pub body : Holds c.body k.body

abbrev pub AllCaught : List Caught → List Clause → Type 0
AllCaught [] [] = Unit {0}
AllCaught (c ∷ cs) (k ∷ ks) = CaughtHolds c k × AllCaught cs ks
AllCaught _ _ = ⊥

abbrev texts : List Clause → List Expr
texts ks = map (λ k. k.body) ks

bodies_hold : (cs : List Caught) (ks : List Clause) → AllCaught cs ks → AllHold (bodies cs) (texts ks)
bodies_hold [] [] h = tt
bodies_hold (c ∷ cs) (k ∷ ks) h = (h.0.body, bodies_hold cs ks h.1)
bodies_hold [] (k ∷ ks) h = absurd h
bodies_hold (c ∷ cs) [] h = absurd h

-- clauses count as their bodies
largest_texts : (ks : List Clause) (m : ℕ) → fold (λ n e. max n (expr_depth e)) m (texts ks) ≡ fold (λ n k. max n (clause_depth k)) m ks
largest_texts [] m = refl
largest_texts (k ∷ ks) m = largest_texts ks (max m (expr_depth k.body))

sum_texts : (ks : List Clause) → sum_by expr_nodes (texts ks) ≡ sum_by clause_nodes ks
sum_texts [] = refl
sum_texts (k ∷ ks) = let a = sum_by-cons expr_nodes k.body (texts ks) in let b = sum_by-cons clause_nodes k ks in let c = sum_texts ks in omega (arith, a, b, c)

clauses_are : (cs : List Caught) (ks : List Clause) (m : ℕ) → AllCaught cs ks → fold (λ n k. max n (clause_depth k)) m ks ≤ 64 → clauses_of cs ≡ ks
clauses_are [] [] m h w = refl
clauses_are (c ∷ cs) (k ∷ ks) m h w =
    let d = fold_over clause_depth ks (max m (clause_depth k)) 64 w in
    let b = (h.0.body.whole (omega (arith, d))).0 in
    let rest = clauses_are cs ks (max m (clause_depth k)) h.1 w in
    (λ i. record { name = h.0.name i; body = b i } ∷ rest i)
clauses_are [] (k ∷ ks) m h w = absurd h
clauses_are (c ∷ cs) [] m h w = absurd h

pub try_holds : (at : ℕ) (n : Node) (cs : List Caught) (a : Expr) (ks : List Clause) → Holds n a → AllCaught cs ks → Holds (try_of at n cs) (x.Try a ks)
try_holds at n cs a ks h k =
    let deep = largest_by expr_depth (texts ks) in
    let many = sum_by expr_nodes (texts ks) in
    let l = largest_texts ks 0 in
    let s = sum_texts ks in
    over_holds (x.Try a ks) (x.Try n.tree (clauses_of cs)) at (both (below_of n) (below_all (bodies cs))) (max (expr_depth a) deep) (expr_nodes a + many)
    (over_by (x.Try a ks) (Expr-F.Try a ks) _ _ (x.outs-Try a ks) (omega (arith, l)) (omega (arith, s)))
    (below_both (below_of n) (below_all (bodies cs)) (expr_depth a) deep (expr_nodes a) many (below_one n a h) (below_list (bodies cs) (texts ks) (bodies_hold cs ks k)))
    (λ w. let p = (h.whole (omega (arith, w))).0 in let q = clauses_are cs ks 0 k (omega (arith, w, l)) in (λ i. x.Try (p i) (q i)))
