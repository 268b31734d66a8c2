-- How large the parts of a program are that is given by its tree, and that they are well formed and lack no types.
use Rattle.std.proofs.Common.{◌≡◌, ℕ, ◌+◌, ◌≤◌, true, ◌&&◌, List, [], ◌∷◌, length, max, refl, ap, ◌∙◌, arith}
use Rattle.std.specs.Prelude.{ℤ, nat_le, is_some}
use Rattle.std.specs.List.{list_all, sum_by}
use Rattle.std.proofs.lemmas.Bool.{le-leb}
use Rattle.std.proofs.lemmas.List.Sums.{sum_by-cons}
use Rattle.plan_base.specs.declared.name.Name.{Name}
use Rattle.plan_base.specs.declared.tree.Ty.{Ty, Ty-F, out-Ty}
use Rattle.plan_base.specs.declared.tree.Ty.TheVariants as ty
use Rattle.plan_base.specs.declared.tree.Expr.{Expr, Expr-F, out-Expr}
use Rattle.plan_base.specs.declared.tree.Expr.TheVariants as expr
use Rattle.plan_base.specs.Trees.{TyLayer, ExprLayer}
use Rattle.plan_base.specs.Sizes.{largest_by, type_size_level, type_size, expr_size_level, expr_size, clause_size, type_depth_level, type_depth, expr_depth_level, expr_depth, clause_depth, expr_nodes_level, expr_nodes, clause_nodes}
use Rattle.plan_base.specs.WellFormed.{well_formed_text, has_from_to, formed_type_level, formed_type, formed_expr_level, formed_expr, typed_expr_level, has_types}
use Rattle.plan_base.proofs.SizeLaws.{type_size_out, type_depth_out, expr_size_out, expr_depth_out, expr_nodes_out}
use Rattle.plan_base.proofs.FormLaws.{formed_type_out, formed_expr_out, has_types_out}
use Rattle.program_text_laws.proofs.TypesRead.{largest_cons}

-- ---- types

-- a well-formed type of at most m bytes and at most so deep
pub record TypeFits (t : Ty) (m d : ℕ) : Type 0 where
  pub size : type_size t ≤ m
  pub depth : type_depth t ≤ d
  pub formed : formed_type t ≡ true

type_fits : (t : Ty) (l : TyLayer) (m d : ℕ) → out-Ty t ≡ l → type_size_level type_size l ≤ m → type_depth_level type_depth l ≤ d → formed_type_level formed_type l ≡ true → TypeFits t m d
type_fits t l m d o s e f = record {
  size = omega (arith, type_size_out t ∙ ap (λ x. type_size_level type_size x) o, s);
  depth = omega (arith, type_depth_out t ∙ ap (λ x. type_depth_level type_depth x) o, e);
  formed = formed_type_out t ∙ ap (λ x. formed_type_level formed_type x) o ∙ f;
}

one_byte : 1 ≤ 1
one_byte = omega arith

pub host_fits : TypeFits ty.Host 1 1
host_fits = type_fits ty.Host Ty-F.Host 1 1 ty.outs-Host one_byte one_byte refl

pub bool_fits : TypeFits ty.Bool 1 1
bool_fits = type_fits ty.Bool Ty-F.Bool 1 1 ty.outs-Bool one_byte one_byte refl

pub int_fits : TypeFits ty.Int 1 1
int_fits = type_fits ty.Int Ty-F.Int 1 1 ty.outs-Int one_byte one_byte refl

pub blob_fits : TypeFits ty.Blob 1 1
blob_fits = type_fits ty.Blob Ty-F.Blob 1 1 ty.outs-Blob one_byte one_byte refl

pub unit_fits : TypeFits ty.Unit 1 1
unit_fits = type_fits ty.Unit Ty-F.Unit 1 1 ty.outs-Unit one_byte one_byte refl

pub str_fits : TypeFits ty.Str 1 1
str_fits = type_fits ty.Str Ty-F.Str 1 1 ty.outs-Str one_byte one_byte refl

-- so of types, in sum
pub record TypesFit (ts : List Ty) (m d : ℕ) : Type 0 where
  pub size : sum_by type_size ts ≤ m
  pub depth : largest_by type_depth ts ≤ d
  pub formed : list_all formed_type ts ≡ true

pub no_types_fit : TypesFit [] 0 0
no_types_fit = let none : 0 ≤ 0 = omega arith in record { size = none; depth = none; formed = refl }

pub and_type_fits : (t : Ty) (ts : List Ty) (m n d k : ℕ) → TypeFits t m d → TypesFit ts n k → TypesFit (t ∷ ts) (m + n) (max d k)
and_type_fits t ts m n d k h j = record {
  size = omega (arith, sum_by-cons type_size t ts, h.size, j.size);
  depth = omega (arith, largest_cons type_depth t ts, h.depth, j.depth);
  formed = λ i. h.formed i && j.formed i;
}

pub tuple_type_fits : (ts : List Ty) (m d : ℕ) → has_from_to 2 8 ts ≡ true → TypesFit ts m d → TypeFits (ty.Tuple ts) (m + 2) (d + 1)
tuple_type_fits ts m d few h =
    let size : 2 + sum_by type_size ts ≤ m + 2 = omega (arith, h.size) in
    let depth : 1 + largest_by type_depth ts ≤ d + 1 = omega (arith, h.depth) in
    type_fits (ty.Tuple ts) (Ty-F.Tuple ts) (m + 2) (d + 1) (ty.outs-Tuple ts) size depth (λ i. few i && h.formed i)

-- ---- expressions

-- a well-formed expression of at most m bytes and m expressions, at most so deep, that lacks no types
pub record Fits (e : Expr) (m d : ℕ) : Type 0 where
  pub size : expr_size e ≤ m
  pub nodes : expr_nodes e ≤ m
  pub depth : expr_depth e ≤ d
  pub formed : formed_expr e ≡ true
  pub full : has_types e ≡ true

fits : (e : Expr) (l : ExprLayer) (m d : ℕ) → out-Expr e ≡ l → expr_size_level expr_size clause_size l ≤ m → expr_nodes_level expr_nodes clause_nodes l ≤ m → expr_depth_level expr_depth clause_depth l ≤ d
    → formed_expr_level formed_expr (λ c. is_some c.name) (λ c. formed_expr c.body) l ≡ true → typed_expr_level has_types (λ c. has_types c.body) l ≡ true → Fits e m d
fits e l m d o s n p f t = record {
  size = omega (arith, expr_size_out e ∙ ap (λ x. expr_size_level expr_size clause_size x) o, s);
  nodes = omega (arith, expr_nodes_out e ∙ ap (λ x. expr_nodes_level expr_nodes clause_nodes x) o, n);
  depth = omega (arith, expr_depth_out e ∙ ap (λ x. expr_depth_level expr_depth clause_depth x) o, p);
  formed = formed_expr_out e ∙ ap (λ x. formed_expr_level formed_expr (λ c. is_some c.name) (λ c. formed_expr c.body) x) o ∙ f;
  full = has_types_out e ∙ ap (λ x. typed_expr_level has_types (λ c. has_types c.body) x) o ∙ t;
}

-- so of expressions, in sum
pub record AllFit (es : List Expr) (m d : ℕ) : Type 0 where
  pub size : sum_by expr_size es ≤ m
  pub nodes : sum_by expr_nodes es ≤ m
  pub depth : largest_by expr_depth es ≤ d
  pub formed : list_all formed_expr es ≡ true
  pub full : list_all has_types es ≡ true

pub no_parts_fit : AllFit [] 0 0
no_parts_fit = let none : 0 ≤ 0 = omega arith in record { size = none; nodes = none; depth = none; formed = refl; full = refl }

pub and_fits : (a : Expr) (es : List Expr) (m n d k : ℕ) → Fits a m d → AllFit es n k → AllFit (a ∷ es) (m + n) (max d k)
and_fits a es m n d k h j = record {
  size = omega (arith, sum_by-cons expr_size a es, h.size, j.size);
  nodes = omega (arith, sum_by-cons expr_nodes a es, h.nodes, j.nodes);
  depth = omega (arith, largest_cons expr_depth a es, h.depth, j.depth);
  formed = λ i. h.formed i && j.formed i;
  full = λ i. h.full i && j.full i;
}

-- within greater bounds
pub wider : (e : Expr) (m d n k : ℕ) → Fits e m d → m ≤ n → d ≤ k → Fits e n k
wider e m d n k h a b = record { size = omega (arith, h.size, a); nodes = omega (arith, h.nodes, a); depth = omega (arith, h.depth, b); formed = h.formed; full = h.full }

pub var_fits : (x : Name) → Fits (expr.Var x) (length x + 2) 1
var_fits x =
    let size : 1 + (length x + 1) ≤ length x + 2 = omega arith in
    let nodes : 1 ≤ length x + 2 = omega arith in
    let depth : 1 ≤ 1 = omega arith in
    fits (expr.Var x) (Expr-F.Var x) (length x + 2) 1 (expr.outs-Var x) size nodes depth refl refl

pub number_fits : (z : ℤ) → Fits (expr.Int z) 9 1
number_fits z =
    let size : 9 ≤ 9 = omega arith in
    let nodes : 1 ≤ 9 = omega arith in
    let depth : 1 ≤ 1 = omega arith in
    fits (expr.Int z) (Expr-F.Int z) 9 1 (expr.outs-Int z) size nodes depth refl refl

pub bytes_fit : (b : List ℕ) → length b ≤ 65535 → Fits (expr.Blob b) (length b + 3) 1
bytes_fit b h =
    let size : 3 + length b ≤ length b + 3 = omega arith in
    let nodes : 1 ≤ length b + 3 = omega arith in
    let depth : 1 ≤ 1 = omega arith in
    fits (expr.Blob b) (Expr-F.Blob b) (length b + 3) 1 (expr.outs-Blob b) size nodes depth (le-leb (length b) 65535 h) refl

pub text_fits : (s : List ℕ) → well_formed_text s ≡ true → Fits (expr.Str s) (length s + 3) 1
text_fits s h =
    let size : 3 + length s ≤ length s + 3 = omega arith in
    let nodes : 1 ≤ length s + 3 = omega arith in
    let depth : 1 ≤ 1 = omega arith in
    fits (expr.Str s) (Expr-F.Str s) (length s + 3) 1 (expr.outs-Str s) size nodes depth h refl

pub not_fits : (a : Expr) (m d : ℕ) → Fits a m d → Fits (expr.Not a) (m + 1) (d + 1)
not_fits a m d h =
    let size : 1 + expr_size a ≤ m + 1 = omega (arith, h.size) in
    let nodes : 1 + expr_nodes a ≤ m + 1 = omega (arith, h.nodes) in
    let depth : 1 + expr_depth a ≤ d + 1 = omega (arith, h.depth) in
    fits (expr.Not a) (Expr-F.Not a) (m + 1) (d + 1) (expr.outs-Not a) size nodes depth h.formed h.full

pub tuple_fits : (es : List Expr) (m d : ℕ) → has_from_to 2 8 es ≡ true → AllFit es m d → Fits (expr.Tuple es) (m + 2) (d + 1)
tuple_fits es m d few h =
    let size : 2 + sum_by expr_size es ≤ m + 2 = omega (arith, h.size) in
    let nodes : 1 + sum_by expr_nodes es ≤ m + 2 = omega (arith, h.nodes) in
    let depth : 1 + largest_by expr_depth es ≤ d + 1 = omega (arith, h.depth) in
    fits (expr.Tuple es) (Expr-F.Tuple es) (m + 2) (d + 1) (expr.outs-Tuple es) size nodes depth (λ i. few i && h.formed i) h.full

pub call_fits : (f : Name) (es : List Expr) (m d : ℕ) → nat_le (length es) 8 ≡ true → AllFit es m d → Fits (expr.Call f es) (m + length f + 3) (d + 1)
call_fits f es m d few h =
    let size : 2 + (length f + 1) + sum_by expr_size es ≤ m + length f + 3 = omega (arith, h.size) in
    let nodes : 1 + sum_by expr_nodes es ≤ m + length f + 3 = omega (arith, h.nodes) in
    let depth : 1 + largest_by expr_depth es ≤ d + 1 = omega (arith, h.depth) in
    fits (expr.Call f es) (Expr-F.Call f es) (m + length f + 3) (d + 1) (expr.outs-Call f es) size nodes depth (λ i. few i && h.formed i) h.full

pub packing_fits : (f : Name) (es : List Expr) (m d : ℕ) → nat_le (length es) 8 ≡ true → AllFit es m d → Fits (expr.ChunkOf f es) (m + length f + 3) (d + 1)
packing_fits f es m d few h =
    let size : 2 + (length f + 1) + sum_by expr_size es ≤ m + length f + 3 = omega (arith, h.size) in
    let nodes : 1 + sum_by expr_nodes es ≤ m + length f + 3 = omega (arith, h.nodes) in
    let depth : 1 + largest_by expr_depth es ≤ d + 1 = omega (arith, h.depth) in
    fits (expr.ChunkOf f es) (Expr-F.ChunkOf f es) (m + length f + 3) (d + 1) (expr.outs-ChunkOf f es) size nodes depth (λ i. few i && h.formed i) h.full

pub choice_fits : (a b c : Expr) (m n k d : ℕ) → Fits a m d → Fits b n d → Fits c k d → Fits (expr.If a b c) (m + n + k + 1) (d + 1)
choice_fits a b c m n k d h j l =
    let size : 1 + expr_size a + expr_size b + expr_size c ≤ m + n + k + 1 = omega (arith, h.size, j.size, l.size) in
    let nodes : 1 + expr_nodes a + expr_nodes b + expr_nodes c ≤ m + n + k + 1 = omega (arith, h.nodes, j.nodes, l.nodes) in
    let depth : 1 + max (expr_depth a) (max (expr_depth b) (expr_depth c)) ≤ d + 1 = omega (arith, h.depth, j.depth, l.depth) in
    fits (expr.If a b c) (Expr-F.If a b c) (m + n + k + 1) (d + 1) (expr.outs-If a b c) size nodes depth
    (λ i. h.formed i && (j.formed i && l.formed i)) (λ i. h.full i && (j.full i && l.full i))

pub remote_fits : (a h n : Expr) (r : Name) (m k l d : ℕ) → Fits a m d → Fits h k d → Fits n l d → Fits (expr.OnRemote a h n r) (m + k + l + length r + 2) (d + 1)
remote_fits a h n r m k l d u v w =
    let size : 1 + expr_size a + expr_size h + expr_size n + (length r + 1) ≤ m + k + l + length r + 2 = omega (arith, u.size, v.size, w.size) in
    let nodes : 1 + expr_nodes a + expr_nodes h + expr_nodes n ≤ m + k + l + length r + 2 = omega (arith, u.nodes, v.nodes, w.nodes) in
    let depth : 1 + max (expr_depth a) (max (expr_depth h) (expr_depth n)) ≤ d + 1 = omega (arith, u.depth, v.depth, w.depth) in
    fits (expr.OnRemote a h n r) (Expr-F.OnRemote a h n r) (m + k + l + length r + 2) (d + 1) (expr.outs-OnRemote a h n r) size nodes depth
    (λ i. u.formed i && (v.formed i && w.formed i)) (λ i. u.full i && (v.full i && w.full i))
