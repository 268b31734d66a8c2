-- What a well-formed draft becomes is well formed.
use Rattle.std.proofs.Common.{◌≡◌, ℕ, zero, suc, ◌+◌, ◌-◌, ◌==◌, ◌≤◌, ◌∙◌, sym, ap, refl, subst, max, Bool, true, false, ◌&&◌, if◌then◌else◌, List, [], ◌∷◌, ◌++◌, length, take, Option, Some, None, arith}
use Rattle.std.specs.Prelude.{map, nat_le, is_some, slice_get, option_and_then}
use Rattle.std.specs.List.{sum_by, list_all, position_or_len}
use Rattle.std.specs.Option.{option_or}
use Rattle.std.specs.Str.{bytes_eq}
use Rattle.std.proofs.lemmas.List.{length-map, take-map}
use Rattle.std.proofs.lemmas.List.Sums.{sum-map}
use Rattle.std.proofs.lemmas.List.Folds.{list_all-append, list_all-map, find_at}
use Rattle.std.proofs.lemmas.Bool.{leb-true, le-leb}
use Rattle.containers.proofs.Bools.{and_left, and_right, and_both}
use Rattle.containers.proofs.Lists.{largest_from}
use Rattle.plan_base.specs.declared.name.Name.{Name}
use Rattle.plan_base.specs.declared.prim.Primitive.{Primitive}
use Rattle.plan_base.specs.declared.prim.Primitive.TheVariants.{Hd, Tl, Length, IntToString, HostToString, StringToBlob, BlobLength, BlobPart}
use Rattle.plan_base.specs.declared.tree.Ty.{Ty, Ty-F, out-Ty}
use Rattle.plan_base.specs.declared.tree.Ty.TheVariants as ty
use Rattle.plan_base.specs.declared.tree.Expr.{Expr, Expr-F, out-Expr}
use Rattle.plan_base.specs.declared.tree.Expr.TheVariants as v
use Rattle.plan_base.specs.declared.tree.Clause.{Clause}
use Rattle.plan_base.specs.declared.tree.Param.{Param}
use Rattle.plan_base.specs.declared.tree.Svc.{Svc}
use Rattle.plan_base.specs.declared.tree.Fun.{Fun}
use Rattle.plan_base.specs.declared.tree.Program.{Program}
use Rattle.plan_base.specs.Trees.{TyLayer, ExprLayer}
use Rattle.plan_base.specs.Sizes.{largest_by, type_depth_level, type_depth, expr_depth_level, expr_depth, clause_depth, expr_nodes_level, expr_nodes, clause_nodes, program_nodes}
use Rattle.plan_base.proofs.SizeLaws.{largest_by-map, type_depth_out, expr_depth_out, expr_nodes_out}
use Rattle.plan_base.specs.WellFormed.{has_from_to, formed_type_level, formed_type, well_formed_type, names_all_but_last, formed_expr_level, formed_expr, well_formed_expr, well_formed_svc}
use Rattle.plan_base.specs.WellFormed.{well_formed_fun, well_formed_program, IsWellFormedProgram}
use Rattle.plan_base.proofs.FormLaws.{formed_type_out, formed_expr_out}
use Rattle.plan_types_spec.specs.Typing.{Ctx, literal_type, IsShallow}
use Rattle.plan_types_spec.specs.TypingNames.{service_of, place_of, binds, binding, param_types, of_list, takes, makes, part_of}
use Rattle.plan_types_spec.specs.TypingOrder.{items_of_layer, items_of, parts_of_layer, parts_of, want_at, fun_of, earlier}
use Rattle.plan_types_spec.specs.TypingFills.{Becomes, PartsBecome, ClausesBecome, FunFills, Fills}
use Rattle.plan_types_spec.specs.TypingFills.{Becomes as B, PartsBecome as P, ClausesBecome as C}
use Rattle.plan_types_spec.proofs.Layers.{and_then_some}

-- ---- types

abbrev Good : Ty → Type 0
Good t = well_formed_type t ≡ true

abbrev AllGood : List Ty → Type 0
AllGood ts = list_all well_formed_type ts ≡ true

good : (t : Ty) → formed_type t ≡ true → type_depth t ≤ 8 → Good t
unfolding well_formed_type
good t f d = and_both (formed_type t) (nat_le (type_depth t) 8) f (le-leb (type_depth t) 8 d)

formed_of : (t : Ty) → Good t → formed_type t ≡ true
unfolding well_formed_type
formed_of t g = and_left (formed_type t) (nat_le (type_depth t) 8) g

depth_of : (t : Ty) → Good t → type_depth t ≤ 8
unfolding well_formed_type
depth_of t g = leb-true (type_depth t) 8 (and_right (formed_type t) (nat_le (type_depth t) 8) g)

good_base : (t : Ty) (l : TyLayer) → out-Ty t ≡ l → formed_type_level formed_type l ≡ true → type_depth_level type_depth l ≡ 1 → Good t
good_base t l o f d =
    let e : type_depth t ≡ 1 = type_depth_out t ∙ (ap (type_depth_level type_depth) o ∙ d) in
    good t (formed_type_out t ∙ (ap (formed_type_level formed_type) o ∙ f)) (omega arith)

good_unit : Good ty.Unit
good_unit = good_base ty.Unit Ty-F.Unit ty.outs-Unit refl refl

good_bool : Good ty.Bool
good_bool = good_base ty.Bool Ty-F.Bool ty.outs-Bool refl refl

good_int : Good ty.Int
good_int = good_base ty.Int Ty-F.Int ty.outs-Int refl refl

good_char : Good ty.Char
good_char = good_base ty.Char Ty-F.Char ty.outs-Char refl refl

good_str : Good ty.Str
good_str = good_base ty.Str Ty-F.Str ty.outs-Str refl refl

good_blob : Good ty.Blob
good_blob = good_base ty.Blob Ty-F.Blob ty.outs-Blob refl refl

good_host : Good ty.Host
good_host = good_base ty.Host Ty-F.Host ty.outs-Host refl refl

good_dev : Good ty.Dev
good_dev = good_base ty.Dev Ty-F.Dev ty.outs-Dev refl refl

good_chunk : Good ty.Chunk
good_chunk = good_base ty.Chunk Ty-F.Chunk ty.outs-Chunk refl refl

good_list : (u : Ty) → Good u → IsShallow (ty.List u) → Good (ty.List u)
good_list u g s = good (ty.List u) (formed_type_out (ty.List u) ∙ (ap (formed_type_level formed_type) (ty.outs-List u) ∙ formed_of u g)) s

-- of any depth
formed_list : (u : Ty) → Good u → formed_type (ty.List u) ≡ true
formed_list u g = formed_type_out (ty.List u) ∙ (ap (formed_type_level formed_type) (ty.outs-List u) ∙ formed_of u g)

good_item : (t u : Ty) → out-Ty t ≡ Ty-F.List u → Good t → Good u
good_item t u o g =
    let e : type_depth t ≡ 1 + type_depth u = type_depth_out t ∙ ap (type_depth_level type_depth) o in
    let d = depth_of t g in
    good u (sym (formed_type_out t ∙ ap (formed_type_level formed_type) o) ∙ formed_of t g) (omega arith)

all_good : (ts : List Ty) → list_all formed_type ts ≡ true → largest_by type_depth ts ≤ 8 → AllGood ts
all_good [] f d = refl
all_good (t ∷ ts) f d =
    let k = largest_from type_depth (max 0 (type_depth t)) ts in
    and_both (well_formed_type t) (list_all well_formed_type ts) (good t (and_left (formed_type t) (list_all formed_type ts) f) (omega arith)) (all_good ts (and_right (formed_type t) (list_all formed_type ts) f) (omega arith))

good_parts : (t : Ty) (ts : List Ty) → out-Ty t ≡ Ty-F.Tuple ts → Good t → AllGood ts
good_parts t ts o g =
    let e : type_depth t ≡ 1 + largest_by type_depth ts = type_depth_out t ∙ ap (type_depth_level type_depth) o in
    let d = depth_of t g in
    let f : formed_type_level formed_type (Ty-F.Tuple ts) ≡ true = sym (formed_type_out t ∙ ap (formed_type_level formed_type) o) ∙ formed_of t g in
    all_good ts (and_right (has_from_to 2 8 ts) (list_all formed_type ts) f) (omega arith)

all_formed : (ts : List Ty) → AllGood ts → list_all formed_type ts ≡ true
all_formed [] g = refl
all_formed (t ∷ ts) g = and_both (formed_type t) (list_all formed_type ts) (formed_of t (and_left (well_formed_type t) (list_all well_formed_type ts) g)) (all_formed ts (and_right (well_formed_type t) (list_all well_formed_type ts) g))

good_tuple : (ts : List Ty) → has_from_to 2 8 ts ≡ true → AllGood ts → IsShallow (ty.Tuple ts) → Good (ty.Tuple ts)
good_tuple ts n g s = good (ty.Tuple ts) (formed_type_out (ty.Tuple ts) ∙ (ap (formed_type_level formed_type) (ty.outs-Tuple ts) ∙ and_both (has_from_to 2 8 ts) (list_all formed_type ts) n (all_formed ts g))) s

good_at : {X : Type 0} (p : X → Bool) (xs : List X) (i : ℕ) (x : X) → list_all p xs ≡ true → slice_get xs i ≡ Some x → p x ≡ true
good_at p [] i x h e = absurd (cc)
good_at p (y ∷ xs) zero x h e = let same : y ≡ x = cc in ap p (sym same) ∙ and_left (p y) (list_all p xs) h
good_at p (y ∷ xs) (suc i) x h e = good_at p xs i x (and_right (p y) (list_all p xs) h) e

good_part : (i : ℕ) (ts : List Ty) (t : Ty) → AllGood ts → part_of i ts ≡ Some t → Good t
good_part i ts t g h = go (i == 0) h
  where
    go : (b : Bool) → (if b then None else slice_get ts (i - 1)) ≡ Some t → Good t
    go true e = absurd (cc)
    go false e = good_at well_formed_type ts (i - 1) t g e

good_of_list : (p : Primitive) (u t : Ty) → Good u → Good (ty.List u) → of_list p u ≡ Some t → Good t
good_of_list Hd u t g l h = let e : u ≡ t = cc in subst (λ z. Good z) e g
good_of_list Tl u t g l h = let e : ty.List u ≡ t = cc in subst (λ z. Good z) e l
good_of_list Length u t g l h = let e : ty.Int ≡ t = cc in subst (λ z. Good z) e good_int
good_of_list IntToString u t g l h = absurd (cc)
good_of_list HostToString u t g l h = absurd (cc)
good_of_list StringToBlob u t g l h = absurd (cc)
good_of_list BlobLength u t g l h = absurd (cc)
good_of_list BlobPart u t g l h = absurd (cc)

good_takes : (p : Primitive) (ts : List Ty) → takes p ≡ Some ts → AllGood ts
good_takes IntToString ts h = let e : ty.Int ∷ [] ≡ ts = cc in subst (λ z. AllGood z) e (and_both (well_formed_type ty.Int) true good_int refl)
good_takes HostToString ts h = let e : ty.Host ∷ [] ≡ ts = cc in subst (λ z. AllGood z) e (and_both (well_formed_type ty.Host) true good_host refl)
good_takes StringToBlob ts h = let e : ty.Str ∷ [] ≡ ts = cc in subst (λ z. AllGood z) e (and_both (well_formed_type ty.Str) true good_str refl)
good_takes BlobLength ts h = let e : ty.Blob ∷ [] ≡ ts = cc in subst (λ z. AllGood z) e (and_both (well_formed_type ty.Blob) true good_blob refl)
good_takes BlobPart ts h =
    let e : ty.Blob ∷ ty.Int ∷ ty.Int ∷ [] ≡ ts = cc in
    subst (λ z. AllGood z) e (and_both (well_formed_type ty.Blob) (well_formed_type ty.Int && (well_formed_type ty.Int && true)) good_blob
    (and_both (well_formed_type ty.Int) (well_formed_type ty.Int && true) good_int (and_both (well_formed_type ty.Int) true good_int refl)))
good_takes Hd ts h = absurd (cc)
good_takes Tl ts h = absurd (cc)
good_takes Length ts h = absurd (cc)

good_makes : (p : Primitive) → Good (makes p)
good_makes IntToString = good_str
good_makes HostToString = good_str
good_makes StringToBlob = good_blob
good_makes BlobLength = good_int
good_makes BlobPart = good_blob
good_makes Hd = good_blob
good_makes Tl = good_blob
good_makes Length = good_blob

good_literal : (l : ExprLayer) (t : Ty) → literal_type l ≡ Some t → Good t
good_literal Expr-F.Unit t h = let e : ty.Unit ≡ t = cc in subst (λ z. Good z) e good_unit
good_literal (Expr-F.Bool b) t h = let e : ty.Bool ≡ t = cc in subst (λ z. Good z) e good_bool
good_literal (Expr-F.Int n) t h = let e : ty.Int ≡ t = cc in subst (λ z. Good z) e good_int
good_literal (Expr-F.Char c) t h = let e : ty.Char ≡ t = cc in subst (λ z. Good z) e good_char
good_literal (Expr-F.Str s) t h = let e : ty.Str ≡ t = cc in subst (λ z. Good z) e good_str
good_literal (Expr-F.Blob b) t h = let e : ty.Blob ≡ t = cc in subst (λ z. Good z) e good_blob
good_literal (Expr-F.Host x) t h = let e : ty.Host ≡ t = cc in subst (λ z. Good z) e good_host
good_literal (Expr-F.Dev d) t h = let e : ty.Dev ≡ t = cc in subst (λ z. Good z) e good_dev
good_literal _ t h = absurd (cc)

-- ---- wanted types, bindings and declarations

abbrev GoodWant : Option Ty → Type 0
GoodWant None = Unit {0}
GoodWant (Some t) = formed_type t ≡ true

abbrev GoodWants : Option (List Ty) → Type 0
GoodWants None = Unit {0}
GoodWants (Some ts) = list_all formed_type ts ≡ true

abbrev GoodCtx : Ctx → Type 0
GoodCtx c = list_all (λ p. well_formed_type p.ty) c ≡ true

want_item : (want : Option Ty) → GoodWant want → GoodWant (option_and_then items_of want)
want_item None g = tt
want_item (Some t) g = go (out-Ty t) refl
  where
    go : (l : TyLayer) → out-Ty t ≡ l → GoodWant (items_of_layer l)
    go (Ty-F.List u) o = sym (formed_type_out t ∙ ap (formed_type_level formed_type) o) ∙ g
    go Ty-F.Unit o = tt
    go Ty-F.Bool o = tt
    go Ty-F.Int o = tt
    go Ty-F.Char o = tt
    go Ty-F.Str o = tt
    go Ty-F.Blob o = tt
    go Ty-F.Host o = tt
    go Ty-F.Dev o = tt
    go Ty-F.Chunk o = tt
    go (Ty-F.Tuple ts) o = tt

want_parts : (n : ℕ) (want : Option Ty) → GoodWant want → GoodWants (option_and_then (parts_of n) want)
want_parts n None g = tt
want_parts n (Some t) g = go (out-Ty t) refl
  where
    if_many : (ts : List Ty) → out-Ty t ≡ Ty-F.Tuple ts → (b : Bool) → GoodWants (if b then Some ts else None)
    if_many ts o true = and_right (has_from_to 2 8 ts) (list_all formed_type ts) (sym (formed_type_out t ∙ ap (formed_type_level formed_type) o) ∙ g)
    if_many ts o false = tt

    go : (l : TyLayer) → out-Ty t ≡ l → GoodWants (parts_of_layer n l)
    go (Ty-F.Tuple ts) o = if_many ts o (length ts == n)
    go (Ty-F.List u) o = tt
    go Ty-F.Unit o = tt
    go Ty-F.Bool o = tt
    go Ty-F.Int o = tt
    go Ty-F.Char o = tt
    go Ty-F.Str o = tt
    go Ty-F.Blob o = tt
    go Ty-F.Host o = tt
    go Ty-F.Dev o = tt
    go Ty-F.Chunk o = tt

want_one : (wants : Option (List Ty)) (i : ℕ) → GoodWants wants → GoodWant (want_at wants i)
want_one None i g = tt
want_one (Some ts) i g = go (slice_get ts i) refl
  where
    go : (o : Option Ty) → slice_get ts i ≡ o → GoodWant o
    go None e = tt
    go (Some t) e = good_at formed_type ts i t g e

bound_good : (n : Name) (c : Ctx) (t : Ty) → GoodCtx c → binding n c ≡ Some t → Good t
bound_good n [] t g h = absurd (cc)
bound_good n (p ∷ ps) t g h = go (λ u e. bound_good n ps u (and_right (well_formed_type p.ty) (list_all (λ p. well_formed_type p.ty) ps) g) e) (binding n ps) refl (bytes_eq p.name n) h
  where
    go : ((u : Ty) → binding n ps ≡ Some u → Good u) → (o : Option Ty) → binding n ps ≡ o → (b : Bool) → option_or o (if b then Some p.ty else None) ≡ Some t → Good t
    go ih (Some u) e b h = let same : u ≡ t = cc in ih t (e ∙ ap (λ z. Some z) same)
    go ih None e true h = let same : p.ty ≡ t = cc in subst (λ z. Good z) same (and_left (well_formed_type p.ty) (list_all (λ p. well_formed_type p.ty) ps) g)
    go ih None e false h = absurd (cc)

good_behind : (c : Ctx) (n : Name) (u : Ty) → GoodCtx c → Good u → GoodCtx (c ++ binds n u ∷ [])
good_behind c n u g k = list_all-append (λ p. well_formed_type p.ty) c (binds n u ∷ []) ∙ and_both (list_all (λ p. well_formed_type p.ty) c) (well_formed_type u && true) g (and_both (well_formed_type u) true k refl)

good_params : (ps : List Param) → GoodCtx ps → AllGood (param_types ps)
good_params ps g = list_all-map well_formed_type (λ (p : Param). p.ty) ps ∙ g

-- the declarations of a well-formed program
record GoodHeads (code : Program) : Type 0 where
  svcs : list_all well_formed_svc code.svcs ≡ true
  funs : list_all well_formed_fun code.funs ≡ true

fun_params : (d : Fun) → well_formed_fun d ≡ true → GoodCtx d.params
fun_params d h =
    and_left (list_all (λ p. well_formed_type p.ty) d.params) (well_formed_type d.result && well_formed_expr d.body)
    (and_right (nat_le (length d.params) 8) (list_all (λ p. well_formed_type p.ty) d.params && (well_formed_type d.result && well_formed_expr d.body)) h)

fun_result : (d : Fun) → well_formed_fun d ≡ true → Good d.result
fun_result d h =
    and_left (well_formed_type d.result) (well_formed_expr d.body)
    (and_right (list_all (λ p. well_formed_type p.ty) d.params) (well_formed_type d.result && well_formed_expr d.body)
    (and_right (nat_le (length d.params) 8) (list_all (λ p. well_formed_type p.ty) d.params && (well_formed_type d.result && well_formed_expr d.body)) h))

earlier_good : (code : Program) (seen : ℕ) (f : Name) (d : Fun) → GoodHeads code → earlier code seen f ≡ Some d → well_formed_fun d ≡ true
earlier_good code seen f d g e = let at = and_then_some (slice_get code.funs) (place_of f (take seen code.funs)) d e in good_at well_formed_fun code.funs at.0 d g.funs at.2

any_good : (code : Program) (f : Name) (d : Fun) → GoodHeads code → fun_of code f ≡ Some d → well_formed_fun d ≡ true
any_good code f d g e = let at = and_then_some (slice_get code.funs) (place_of f code.funs) d e in good_at well_formed_fun code.funs at.0 d g.funs at.2

service_good : (code : Program) (f : Name) (s : Svc) → GoodHeads code → service_of f code.svcs ≡ Some s → well_formed_svc s ≡ true
service_good code f s g e = good_at well_formed_svc code.svcs (position_or_len (λ d. bytes_eq d.name f) code.svcs) s g.svcs (sym (find_at (λ d. bytes_eq d.name f) code.svcs) ∙ e)

svc_params : (s : Svc) → well_formed_svc s ≡ true → AllGood s.params
svc_params s h = and_left (list_all well_formed_type s.params) (well_formed_type s.result) (and_right (nat_le (length s.params) 8) (list_all well_formed_type s.params && well_formed_type s.result) h)

svc_result : (s : Svc) → well_formed_svc s ≡ true → Good s.result
svc_result s h = and_right (list_all well_formed_type s.params) (well_formed_type s.result) (and_right (nat_le (length s.params) 8) (list_all well_formed_type s.params && well_formed_type s.result) h)

-- ---- expressions

abbrev Formed : ExprLayer → Type 0
Formed l = formed_expr_level formed_expr (λ c. is_some c.name) (λ c. formed_expr c.body) l ≡ true

-- an expression of a good type that is well formed and as large as its draft
record Kept (d e : Expr) (t : Ty) : Type 0 where
  suits : Good t
  formed : formed_expr e ≡ true
  depth : expr_depth e ≡ expr_depth d
  nodes : expr_nodes e ≡ expr_nodes d

level_formed : (d : Expr) (l : ExprLayer) → out-Expr d ≡ l → formed_expr d ≡ true → Formed l
level_formed d l o f = ap (formed_expr_level formed_expr (λ c. is_some c.name) (λ c. formed_expr c.body)) (sym o) ∙ (sym (formed_expr_out d) ∙ f)

same_form_kept : (d e : Expr) (t : Ty) (l m : ExprLayer) → out-Expr d ≡ l → out-Expr e ≡ m → Good t → Formed m → expr_depth_level expr_depth clause_depth m ≡ expr_depth_level expr_depth clause_depth l
    → expr_nodes_level expr_nodes clause_nodes m ≡ expr_nodes_level expr_nodes clause_nodes l → Kept d e t
same_form_kept d e t l m o p g f dp ns = record {
  suits = g;
  formed = formed_expr_out e ∙ (ap (formed_expr_level formed_expr (λ c. is_some c.name) (λ c. formed_expr c.body)) p ∙ f);
  depth = expr_depth_out e ∙ (ap (expr_depth_level expr_depth clause_depth) p ∙ (dp ∙ (ap (expr_depth_level expr_depth clause_depth) (sym o) ∙ sym (expr_depth_out d))));
  nodes = expr_nodes_out e ∙ (ap (expr_nodes_level expr_nodes clause_nodes) p ∙ (ns ∙ (ap (expr_nodes_level expr_nodes clause_nodes) (sym o) ∙ sym (expr_nodes_out d))));
}

same : (d e : Expr) (t : Ty) → e ≡ d → Good t → formed_expr d ≡ true → Kept d e t
same d e t p g f = record { suits = g; formed = ap formed_expr p ∙ f; depth = ap expr_depth p; nodes = ap expr_nodes p }

two : (a b : Expr) → formed_expr a ≡ true → formed_expr b ≡ true → (formed_expr a && formed_expr b) ≡ true
two a b h k = and_both (formed_expr a) (formed_expr b) h k

three : (a b d : Expr) → formed_expr a ≡ true → formed_expr b ≡ true → formed_expr d ≡ true → (formed_expr a && (formed_expr b && formed_expr d)) ≡ true
three a b d h k l = and_both (formed_expr a) (formed_expr b && formed_expr d) h (two b d k l)

first : (a b : Expr) → (formed_expr a && formed_expr b) ≡ true → formed_expr a ≡ true
first a b h = and_left (formed_expr a) (formed_expr b) h

second : (a b : Expr) → (formed_expr a && formed_expr b) ≡ true → formed_expr b ≡ true
second a b h = and_right (formed_expr a) (formed_expr b) h

-- the same for parts in order
record AllKept (ds es : List Expr) (ts : List Ty) : Type 0 where
  types : AllGood ts
  all : list_all formed_expr es ≡ true
  depths : map expr_depth es ≡ map expr_depth ds
  counts : map expr_nodes es ≡ map expr_nodes ds
  count : length ts ≡ length es

count_kept : {ds es : List Expr} {ts : List Ty} → AllKept ds es ts → length es ≡ length ds
count_kept {ds} {es} k = sym (length-map es expr_depth) ∙ (ap length k.depths ∙ length-map ds expr_depth)

deepest_kept : {ds es : List Expr} {ts : List Ty} → AllKept ds es ts → largest_by expr_depth es ≡ largest_by expr_depth ds
deepest_kept {ds} {es} k = sym (largest_by-map expr_depth es) ∙ (ap (largest_by (λ n. n)) k.depths ∙ largest_by-map expr_depth ds)

sum_kept : {ds es : List Expr} {ts : List Ty} → AllKept ds es ts → sum_by expr_nodes es ≡ sum_by expr_nodes ds
sum_kept {ds} {es} k = sym (sum-map expr_nodes es) ∙ (ap (sum_by (λ n. n)) k.counts ∙ sum-map expr_nodes ds)

-- and for clauses
record ClausesKept (ks hs : List Clause) : Type 0 where
  all : list_all (λ k. formed_expr k.body) hs ≡ true
  names : map (λ k. is_some k.name) hs ≡ map (λ k. is_some k.name) ks
  depths : map clause_depth hs ≡ map clause_depth ks
  counts : map clause_nodes hs ≡ map clause_nodes ks

few : {X : Type 0} (n : ℕ) (xs ys : List X) → length ys ≡ length xs → nat_le (length xs) n ≡ true → nat_le (length ys) n ≡ true
few n xs ys e h = ap (λ m. nat_le m n) e ∙ h

some_few : {X : Type 0} (k n : ℕ) (xs ys : List X) → length ys ≡ length xs → has_from_to k n xs ≡ true → has_from_to k n ys ≡ true
some_few k n xs ys e h = ap (λ m. nat_le k m && nat_le m n) e ∙ h

named_kept : (ks hs : List Clause) → map (λ k. is_some k.name) hs ≡ map (λ k. is_some k.name) ks → names_all_but_last (λ k. is_some k.name) hs ≡ names_all_but_last (λ k. is_some k.name) ks
named_kept ks hs e =
    let n : length hs ≡ length ks = sym (length-map hs (λ k. is_some k.name)) ∙ (ap length e ∙ length-map ks (λ k. is_some k.name)) in
    sym (list_all-map (λ b. b) (λ (k : Clause). is_some k.name) (take (length hs - 1) hs))
    ∙ (ap (list_all (λ b. b)) (sym (take-map (λ (k : Clause). is_some k.name) (length hs - 1) hs) ∙ ((λ i. take (n i - 1) (e i)) ∙ take-map (λ (k : Clause). is_some k.name) (length ks - 1) ks))
    ∙ list_all-map (λ b. b) (λ (k : Clause). is_some k.name) (take (length ks - 1) ks))

-- a call's arguments, of which there are at most 8
args_formed : (ds es : List Expr) (ts : List Ty) → AllKept ds es ts → (nat_le (length ds) 8 && list_all formed_expr ds) ≡ true → (nat_le (length es) 8 && list_all formed_expr es) ≡ true
args_formed ds es ts k h = and_both (nat_le (length es) 8) (list_all formed_expr es) (few 8 ds es (count_kept k) (and_left (nat_le (length ds) 8) (list_all formed_expr ds) h)) k.all

module _ (code : Program) (heads : GoodHeads code) (seen : ℕ) where
  mutual
    expr_kept : {c : Ctx} {want : Option Ty} {d e : Expr} {t : Ty} → Becomes code seen c want d e t → GoodCtx c → GoodWant want → formed_expr d ≡ true → Kept d e t
    expr_kept {d = d} {e = e} {t = t} (B.literal h p s) g w f = same d e t p (good_literal (out-Expr d) t h) f
    expr_kept {c = c} {d = d} {e = e} {t = t} (B.variable n o b p s) g w f = same d e t p (bound_good n c t g b) f
    expr_kept {d = d} {e = e} {t = t} (B.empty u o q s p r) g w f = same d e t p (subst (λ z. Good z) (sym q) (good_list u (level_formed d (Expr-F.Nil (Some u)) o f) (subst (λ z. IsShallow z) q s))) f
    expr_kept {d = d} {e = e} {t = t} (B.empty_filled u o q s p r) g w f =
        let good_t : Good t = good t (subst GoodWant r w) s in
        same_form_kept d e t (Expr-F.Nil None) (Expr-F.Nil (Some u)) o (ap out-Expr p ∙ v.outs-Nil (Some u)) good_t (good_item t u (ap out-Ty q ∙ ty.outs-List u) good_t) refl refl
    expr_kept {d = d} {e = e} {t = t} (B.raising n o k s p r) g w f = same d e t p (level_formed d (Expr-F.Raise n (Some t)) o f) f
    expr_kept {d = d} {e = e} {t = t} (B.raising_filled n o k s p r) g w f =
        let good_t : Good t = good t (subst GoodWant r w) s in
        same_form_kept d e t (Expr-F.Raise n None) (Expr-F.Raise n (Some t)) o (ap out-Expr p ∙ v.outs-Raise n (Some t)) good_t good_t refl refl
    expr_kept {want = want} {d = d} {e = e} {t = t} (B.tuple ds es ts o b q s p r) g w f =
        let z = level_formed d (Expr-F.Tuple ds) o f in
        let k = parts_kept b g (want_parts (length ds) want w) (and_right (has_from_to 2 8 ds) (list_all formed_expr ds) z) in
        let n : has_from_to 2 8 es ≡ true = some_few 2 8 ds es (count_kept k) (and_left (has_from_to 2 8 ds) (list_all formed_expr ds) z) in
        same_form_kept d e t (Expr-F.Tuple ds) (Expr-F.Tuple es) o (ap out-Expr p ∙ v.outs-Tuple es) (subst (λ z. Good z) (sym q) (good_tuple ts (ap (λ m. nat_le 2 m && nat_le m 8) k.count ∙ n) k.types (subst (λ z. IsShallow z) q s)))
        (and_both (has_from_to 2 8 es) (list_all formed_expr es) n k.all) (ap (λ m. 1 + m) (deepest_kept k)) (ap (λ m. 1 + m) (sum_kept k))
    expr_kept {d = d} {e = e} {t = t} (B.part i a a1 ts o b q p r) g w f =
        let z = level_formed d (Expr-F.Part i a) o f in
        let k = expr_kept b g tt (and_right (nat_le 1 i && nat_le i 8) (formed_expr a) z) in
        same_form_kept d e t (Expr-F.Part i a) (Expr-F.Part i a1) o (ap out-Expr p ∙ v.outs-Part i a1) (good_part i ts t (good_parts (ty.Tuple ts) ts (ty.outs-Tuple ts) k.suits) q)
        (and_both (nat_le 1 i && nat_le i 8) (formed_expr a1) (and_left (nat_le 1 i && nat_le i 8) (formed_expr a) z) k.formed) (ap (λ m. 1 + m) k.depth) (ap (λ m. 1 + m) k.nodes)
    expr_kept {d = d} {e = e} {t = t} (B.of_items n a a1 p u o q b h r s) g w f =
        let z = level_formed d (Expr-F.Call n (a ∷ [])) o f in
        let k = expr_kept b g tt (and_left (formed_expr a) true (and_right (nat_le 1 8) (formed_expr a && true) z)) in
        same_form_kept d e t (Expr-F.Call n (a ∷ [])) (Expr-F.Call n (a1 ∷ [])) o (ap out-Expr r ∙ v.outs-Call n (a1 ∷ [])) (good_of_list p u t (good_item (ty.List u) u (ty.outs-List u) k.suits) k.suits h)
        (and_both (nat_le 1 8) (formed_expr a1 && true) refl (and_both (formed_expr a1) true k.formed refl)) (ap (λ m. 1 + max 0 m) k.depth) (ap (λ m. 1 + (0 + m)) k.nodes)
    expr_kept {d = d} {e = e} {t = t} (B.primitive n ds es p ts o q h b j r s) g w f =
        let z = level_formed d (Expr-F.Call n ds) o f in
        let k = parts_kept b g (all_formed ts (good_takes p ts h)) (and_right (nat_le (length ds) 8) (list_all formed_expr ds) z) in
        same_form_kept d e t (Expr-F.Call n ds) (Expr-F.Call n es) o (ap out-Expr r ∙ v.outs-Call n es) (subst (λ z. Good z) (sym j) (good_makes p)) (args_formed ds es ts k z)
        (ap (λ m. 1 + m) (deepest_kept k)) (ap (λ m. 1 + m) (sum_kept k))
    expr_kept {d = d} {e = e} {t = t} (B.serving n ds es y o q h b j r s) g w f =
        let z = level_formed d (Expr-F.Call n ds) o f in
        let y_good = service_good code n y heads h in
        let k = parts_kept b g (all_formed y.params (svc_params y y_good)) (and_right (nat_le (length ds) 8) (list_all formed_expr ds) z) in
        same_form_kept d e t (Expr-F.Call n ds) (Expr-F.Call n es) o (ap out-Expr r ∙ v.outs-Call n es) (subst (λ z. Good z) (sym j) (svc_result y y_good)) (args_formed ds es y.params k z)
        (ap (λ m. 1 + m) (deepest_kept k)) (ap (λ m. 1 + m) (sum_kept k))
    expr_kept {d = d} {e = e} {t = t} (B.call n ds es y o q h l b j r s) g w f =
        let z = level_formed d (Expr-F.Call n ds) o f in
        let y_good = earlier_good code seen n y heads l in
        let k = parts_kept b g (all_formed (param_types y.params) (good_params y.params (fun_params y y_good))) (and_right (nat_le (length ds) 8) (list_all formed_expr ds) z) in
        same_form_kept d e t (Expr-F.Call n ds) (Expr-F.Call n es) o (ap out-Expr r ∙ v.outs-Call n es) (subst (λ z. Good z) (sym j) (fun_result y y_good))
        (args_formed ds es (param_types y.params) k z) (ap (λ m. 1 + m) (deepest_kept k)) (ap (λ m. 1 + m) (sum_kept k))
    expr_kept {d = d} {e = e} {t = t} (B.choice p a b p1 a1 b1 o i j l r) g w f =
        let z = level_formed d (Expr-F.If p a b) o f in
        let y = and_right (formed_expr p) (formed_expr a && formed_expr b) z in
        let k = expr_kept i g (formed_of ty.Bool good_bool) (and_left (formed_expr p) (formed_expr a && formed_expr b) z) in
        let m = expr_kept j g w (first a b y) in
        let n = expr_kept l g (formed_of t m.suits) (second a b y) in
        same_form_kept d e t (Expr-F.If p a b) (Expr-F.If p1 a1 b1) o (ap out-Expr r ∙ v.outs-If p1 a1 b1) m.suits (three p1 a1 b1 k.formed m.formed n.formed)
        (λ i. 1 + max (k.depth i) (max (m.depth i) (n.depth i))) (λ i. 1 + k.nodes i + m.nodes i + n.nodes i)
    expr_kept {c = c} {d = d} {e = e} {t = t} (B.binder x u a b a1 b1 o i j r) g w f =
        let z = level_formed d (Expr-F.Let x u a b) o f in
        let u_good : Good u = and_left (well_formed_type u) (formed_expr a && formed_expr b) z in
        let y = and_right (well_formed_type u) (formed_expr a && formed_expr b) z in
        let k = expr_kept i g (formed_of u u_good) (first a b y) in
        let m = expr_kept j (good_behind c x u g u_good) w (second a b y) in
        same_form_kept d e t (Expr-F.Let x u a b) (Expr-F.Let x u a1 b1) o (ap out-Expr r ∙ v.outs-Let x u a1 b1) m.suits
        (and_both (well_formed_type u) (formed_expr a1 && formed_expr b1) u_good (two a1 b1 k.formed m.formed)) (λ i. 1 + max (k.depth i) (m.depth i)) (λ i. 1 + k.nodes i + m.nodes i)
    expr_kept {d = d} {e = e} {t = t} (B.sequence a b a1 b1 o i j r) g w f =
        let z = level_formed d (Expr-F.Then a b) o f in
        let k = expr_kept i g (formed_of ty.Unit good_unit) (first a b z) in
        let m = expr_kept j g w (second a b z) in
        same_form_kept d e t (Expr-F.Then a b) (Expr-F.Then a1 b1) o (ap out-Expr r ∙ v.outs-Then a1 b1) m.suits (two a1 b1 k.formed m.formed) (λ i. 1 + max (k.depth i) (m.depth i)) (λ i. 1 + k.nodes i + m.nodes i)
    expr_kept {d = d} {e = e} {t = t} (B.both a b a1 b1 o i j q r s) g w f =
        let z = level_formed d (Expr-F.And a b) o f in
        let k = expr_kept i g (formed_of ty.Bool good_bool) (first a b z) in
        let m = expr_kept j g (formed_of ty.Bool good_bool) (second a b z) in
        same_form_kept d e t (Expr-F.And a b) (Expr-F.And a1 b1) o (ap out-Expr r ∙ v.outs-And a1 b1) (subst (λ z. Good z) (sym q) good_bool) (two a1 b1 k.formed m.formed)
        (λ i. 1 + max (k.depth i) (m.depth i)) (λ i. 1 + k.nodes i + m.nodes i)
    expr_kept {d = d} {e = e} {t = t} (B.either a b a1 b1 o i j q r s) g w f =
        let z = level_formed d (Expr-F.Or a b) o f in
        let k = expr_kept i g (formed_of ty.Bool good_bool) (first a b z) in
        let m = expr_kept j g (formed_of ty.Bool good_bool) (second a b z) in
        same_form_kept d e t (Expr-F.Or a b) (Expr-F.Or a1 b1) o (ap out-Expr r ∙ v.outs-Or a1 b1) (subst (λ z. Good z) (sym q) good_bool) (two a1 b1 k.formed m.formed) (λ i. 1 + max (k.depth i) (m.depth i)) (λ i. 1 + k.nodes i + m.nodes i)
    expr_kept {d = d} {e = e} {t = t} (B.negation a a1 o i q r s) g w f =
        let k = expr_kept i g (formed_of ty.Bool good_bool) (level_formed d (Expr-F.Not a) o f) in
        same_form_kept d e t (Expr-F.Not a) (Expr-F.Not a1) o (ap out-Expr r ∙ v.outs-Not a1) (subst (λ z. Good z) (sym q) good_bool) k.formed (ap (λ m. 1 + m) k.depth) (ap (λ m. 1 + m) k.nodes)
    expr_kept {d = d} {e = e} {t = t} (B.calculation y a b a1 b1 o h i j q r s) g w f =
        let z = level_formed d (Expr-F.Binary y a b) o f in
        let k = expr_kept i g (formed_of ty.Int good_int) (first a b z) in
        let m = expr_kept j g (formed_of ty.Int good_int) (second a b z) in
        same_form_kept d e t (Expr-F.Binary y a b) (Expr-F.Binary y a1 b1) o (ap out-Expr r ∙ v.outs-Binary y a1 b1) (subst (λ z. Good z) (sym q) good_int) (two a1 b1 k.formed m.formed)
        (λ i. 1 + max (k.depth i) (m.depth i)) (λ i. 1 + k.nodes i + m.nodes i)
    expr_kept {d = d} {e = e} {t = t} (B.join y a b a1 b1 o h i l j r s) g w f =
        let z = level_formed d (Expr-F.Binary y a b) o f in
        let k = expr_kept i g tt (first a b z) in
        let m = expr_kept j g (formed_of t k.suits) (second a b z) in
        same_form_kept d e t (Expr-F.Binary y a b) (Expr-F.Binary y a1 b1) o (ap out-Expr r ∙ v.outs-Binary y a1 b1) k.suits (two a1 b1 k.formed m.formed) (λ i. 1 + max (k.depth i) (m.depth i)) (λ i. 1 + k.nodes i + m.nodes i)
    expr_kept {d = d} {e = e} {t = t} (B.comparison y a b a1 b1 u o h i j q r s) g w f =
        let z = level_formed d (Expr-F.Binary y a b) o f in
        let k = expr_kept i g tt (first a b z) in
        let m = expr_kept j g (formed_of u k.suits) (second a b z) in
        same_form_kept d e t (Expr-F.Binary y a b) (Expr-F.Binary y a1 b1) o (ap out-Expr r ∙ v.outs-Binary y a1 b1) (subst (λ z. Good z) (sym q) good_bool) (two a1 b1 k.formed m.formed)
        (λ i. 1 + max (k.depth i) (m.depth i)) (λ i. 1 + k.nodes i + m.nodes i)
    expr_kept {d = d} {e = e} {t = t} (B.order y a b a1 b1 u o h i l j q r s) g w f =
        let z = level_formed d (Expr-F.Binary y a b) o f in
        let k = expr_kept i g tt (first a b z) in
        let m = expr_kept j g (formed_of u k.suits) (second a b z) in
        same_form_kept d e t (Expr-F.Binary y a b) (Expr-F.Binary y a1 b1) o (ap out-Expr r ∙ v.outs-Binary y a1 b1) (subst (λ z. Good z) (sym q) good_bool) (two a1 b1 k.formed m.formed)
        (λ i. 1 + max (k.depth i) (m.depth i)) (λ i. 1 + k.nodes i + m.nodes i)
    expr_kept {want = want} {d = d} {e = e} {t = t} (B.prefix y a b a1 b1 u o h i j q l r s) g w f =
        let z = level_formed d (Expr-F.Binary y a b) o f in
        let k = expr_kept i g (want_item want w) (first a b z) in
        let u_list : Good (ty.List u) = good_list u k.suits (subst (λ z. IsShallow z) q l) in
        let m = expr_kept j g (formed_of (ty.List u) u_list) (second a b z) in
        same_form_kept d e t (Expr-F.Binary y a b) (Expr-F.Binary y a1 b1) o (ap out-Expr r ∙ v.outs-Binary y a1 b1) (subst (λ z. Good z) (sym q) u_list) (two a1 b1 k.formed m.formed)
        (λ i. 1 + max (k.depth i) (m.depth i)) (λ i. 1 + k.nodes i + m.nodes i)
    expr_kept {d = d} {e = e} {t = t} (B.handling a a1 ks hs o i j r) g w f =
        let z = level_formed d (Expr-F.Try a ks) o f in
        let y = and_right (formed_expr a) ((has_from_to 1 8 ks && names_all_but_last (λ k. is_some k.name) ks) && list_all (λ k. formed_expr k.body) ks) z in
        let counts = and_left (has_from_to 1 8 ks && names_all_but_last (λ k. is_some k.name) ks) (list_all (λ k. formed_expr k.body) ks) y in
        let k = expr_kept i g w (and_left (formed_expr a) ((has_from_to 1 8 ks && names_all_but_last (λ k. is_some k.name) ks) && list_all (λ k. formed_expr k.body) ks) z) in
        let m = clauses_kept j g (formed_of t k.suits) (and_right (has_from_to 1 8 ks && names_all_but_last (λ k. is_some k.name) ks) (list_all (λ k. formed_expr k.body) ks) y) in
        let n : length hs ≡ length ks = sym (length-map hs clause_depth) ∙ (ap length m.depths ∙ length-map ks clause_depth) in
        let deepest : largest_by clause_depth hs ≡ largest_by clause_depth ks = sym (largest_by-map clause_depth hs) ∙ (ap (largest_by (λ n. n)) m.depths ∙ largest_by-map clause_depth ks) in
        let sums : sum_by clause_nodes hs ≡ sum_by clause_nodes ks = sym (sum-map clause_nodes hs) ∙ (ap (sum_by (λ n. n)) m.counts ∙ sum-map clause_nodes ks) in
        let counted : (has_from_to 1 8 hs && names_all_but_last (λ k. is_some k.name) hs) ≡ true = (λ i. (nat_le 1 (n i) && nat_le (n i) 8) && named_kept ks hs m.names i) ∙ counts in
        same_form_kept d e t (Expr-F.Try a ks) (Expr-F.Try a1 hs) o (ap out-Expr r ∙ v.outs-Try a1 hs) k.suits
        (and_both (formed_expr a1) ((has_from_to 1 8 hs && names_all_but_last (λ k. is_some k.name) hs) && list_all (λ k. formed_expr k.body) hs) k.formed
        (and_both (has_from_to 1 8 hs && names_all_but_last (λ k. is_some k.name) hs) (list_all (λ k. formed_expr k.body) hs) counted m.all))
        (λ i. 1 + max (k.depth i) (deepest i)) (λ i. 1 + k.nodes i + sums i)
    expr_kept {d = d} {e = e} {t = t} (B.fold_left n a l a1 l1 y u o h q p i j r s) g w f =
        let z = level_formed d (Expr-F.Foldl n a l) o f in
        let y_good = earlier_good code seen n y heads h in
        let t_good : Good t = subst (λ z. Good z) p (fun_result y y_good) in
        let types : AllGood (t ∷ u ∷ []) = subst (λ z. AllGood z) q (good_params y.params (fun_params y y_good)) in
        let u_good : Good u = and_left (well_formed_type u) true (and_right (well_formed_type t) (well_formed_type u && true) types) in
        let k = expr_kept i g (formed_of t t_good) (first a l z) in
        let m = expr_kept j g (formed_list u u_good) (second a l z) in
        same_form_kept d e t (Expr-F.Foldl n a l) (Expr-F.Foldl n a1 l1) o (ap out-Expr r ∙ v.outs-Foldl n a1 l1) t_good (two a1 l1 k.formed m.formed) (λ i. 1 + max (k.depth i) (m.depth i)) (λ i. 1 + k.nodes i + m.nodes i)
    expr_kept {d = d} {e = e} {t = t} (B.fold_right n a l a1 l1 y u o h q p i j r s) g w f =
        let z = level_formed d (Expr-F.Foldr n a l) o f in
        let y_good = earlier_good code seen n y heads h in
        let t_good : Good t = subst (λ z. Good z) p (fun_result y y_good) in
        let types : AllGood (u ∷ t ∷ []) = subst (λ z. AllGood z) q (good_params y.params (fun_params y y_good)) in
        let k = expr_kept i g (formed_of t t_good) (first a l z) in
        let m = expr_kept j g (formed_list u (and_left (well_formed_type u) (well_formed_type t && true) types)) (second a l z) in
        same_form_kept d e t (Expr-F.Foldr n a l) (Expr-F.Foldr n a1 l1) o (ap out-Expr r ∙ v.outs-Foldr n a1 l1) t_good (two a1 l1 k.formed m.formed) (λ i. 1 + max (k.depth i) (m.depth i)) (λ i. 1 + k.nodes i + m.nodes i)
    expr_kept {d = d} {e = e} {t = t} (B.packing n ds es y o h b q r s) g w f =
        let z = level_formed d (Expr-F.ChunkOf n ds) o f in
        let y_good = any_good code n y heads h in
        let k = parts_kept b g (all_formed (param_types y.params) (good_params y.params (fun_params y y_good))) (and_right (nat_le (length ds) 8) (list_all formed_expr ds) z) in
        same_form_kept d e t (Expr-F.ChunkOf n ds) (Expr-F.ChunkOf n es) o (ap out-Expr r ∙ v.outs-ChunkOf n es) (subst (λ z. Good z) (sym q) good_chunk) (args_formed ds es (param_types y.params) k z)
        (ap (λ m. 1 + m) (deepest_kept k)) (ap (λ m. 1 + m) (sum_kept k))
    expr_kept {d = d} {e = e} {t = t} (B.evaluation a a1 o i q r s) g w f =
        let k = expr_kept i g (formed_of ty.Chunk good_chunk) (level_formed d (Expr-F.Eval a) o f) in
        same_form_kept d e t (Expr-F.Eval a) (Expr-F.Eval a1) o (ap out-Expr r ∙ v.outs-Eval a1) (subst (λ z. Good z) (sym q) good_unit) k.formed (ap (λ m. 1 + m) k.depth) (ap (λ m. 1 + m) k.nodes)
    expr_kept {d = d} {e = e} {t = t} (B.remote a h n a1 h1 n1 x o i j l q r s) g w f =
        let z = level_formed d (Expr-F.OnRemote a h n x) o f in
        let y = and_right (formed_expr a) (formed_expr h && formed_expr n) z in
        let k = expr_kept i g (formed_of ty.Chunk good_chunk) (and_left (formed_expr a) (formed_expr h && formed_expr n) z) in
        let m = expr_kept j g (formed_of ty.Host good_host) (first h n y) in
        let b = expr_kept l g (formed_of ty.Int good_int) (second h n y) in
        same_form_kept d e t (Expr-F.OnRemote a h n x) (Expr-F.OnRemote a1 h1 n1 x) o (ap out-Expr r ∙ v.outs-OnRemote a1 h1 n1 x) (subst (λ z. Good z) (sym q) good_unit)
        (three a1 h1 n1 k.formed m.formed b.formed) (λ i. 1 + max (k.depth i) (max (m.depth i) (b.depth i))) (λ i. 1 + k.nodes i + m.nodes i + b.nodes i)
    expr_kept {d = d} {e = e} {t = t} (B.neighbour a h n y a1 h1 n1 y1 o i j l x q r s) g w f =
        let z = level_formed d (Expr-F.OnNeighbor a h n y) o f in
        let z0 = and_left (formed_expr a && formed_expr h) (formed_expr n && formed_expr y) z in
        let z1 = and_right (formed_expr a && formed_expr h) (formed_expr n && formed_expr y) z in
        let k = expr_kept i g (formed_of ty.Chunk good_chunk) (first a h z0) in
        let m = expr_kept j g (formed_of ty.Host good_host) (second a h z0) in
        let b = expr_kept l g (formed_of ty.Int good_int) (first n y z1) in
        let c = expr_kept x g (formed_of ty.Dev good_dev) (second n y z1) in
        same_form_kept d e t (Expr-F.OnNeighbor a h n y) (Expr-F.OnNeighbor a1 h1 n1 y1) o (ap out-Expr r ∙ v.outs-OnNeighbor a1 h1 n1 y1) (subst (λ z. Good z) (sym q) good_unit)
        (and_both (formed_expr a1 && formed_expr h1) (formed_expr n1 && formed_expr y1) (two a1 h1 k.formed m.formed) (two n1 y1 b.formed c.formed))
        (λ i. 1 + max (max (k.depth i) (m.depth i)) (max (b.depth i) (c.depth i))) (λ i. 1 + k.nodes i + m.nodes i + b.nodes i + c.nodes i)

    parts_kept : {c : Ctx} {wants : Option (List Ty)} {i : ℕ} {ds es : List Expr} {ts : List Ty} → PartsBecome code seen c wants i ds es ts → GoodCtx c → GoodWants wants → list_all formed_expr ds ≡ true → AllKept ds es ts
    parts_kept P.no_parts g w f = record { types = refl; all = refl; depths = refl; counts = refl; count = refl }
    parts_kept {wants = wants} {i = i} (P.and_part {d = d} {e = e} {ds = ds} {es = es} {t = t} {ts = ts} b bs) g w f =
        let k = expr_kept b g (want_one wants i w) (and_left (formed_expr d) (list_all formed_expr ds) f) in
        let m = parts_kept bs g w (and_right (formed_expr d) (list_all formed_expr ds) f) in
        record {
          types = and_both (well_formed_type t) (list_all well_formed_type ts) k.suits m.types;
          all = and_both (formed_expr e) (list_all formed_expr es) k.formed m.all;
          depths = λ i. k.depth i ∷ m.depths i;
          counts = λ i. k.nodes i ∷ m.counts i;
          count = ap suc m.count;
        }

    clauses_kept : {c : Ctx} {t : Ty} {ks hs : List Clause} → ClausesBecome code seen c t ks hs → GoodCtx c → formed_type t ≡ true → list_all (λ k. formed_expr k.body) ks ≡ true → ClausesKept ks hs
    clauses_kept C.no_clauses g w f = record { all = refl; names = refl; depths = refl; counts = refl }
    clauses_kept (C.and_clause {k = k} {k' = h} {ks = ks} {ks' = hs} m b n bs) g w f =
        let x = expr_kept b g w (and_left (formed_expr k.body) (list_all (λ k. formed_expr k.body) ks) f) in
        let y = clauses_kept bs g w (and_right (formed_expr k.body) (list_all (λ k. formed_expr k.body) ks) f) in
        record {
          all = and_both (formed_expr h.body) (list_all (λ k. formed_expr k.body) hs) x.formed y.all;
          names = λ i. is_some (n i) ∷ y.names i;
          depths = λ i. x.depth i ∷ y.depths i;
          counts = λ i. x.nodes i ∷ y.counts i;
        }

-- ---- programs

fun_kept : (code : Program) (k : ℕ) (d g : Fun) → GoodHeads code → FunFills code k d g → well_formed_fun d ≡ true → (well_formed_fun g ≡ true) × (expr_nodes g.body ≡ expr_nodes d.body)
unfolding well_formed_expr
fun_kept code k d g heads f h =
    let z = and_right (list_all (λ p. well_formed_type p.ty) d.params) (well_formed_type d.result && well_formed_expr d.body)
    (and_right (nat_le (length d.params) 8) (list_all (λ p. well_formed_type p.ty) d.params && (well_formed_type d.result && well_formed_expr d.body)) h) in
    let b = and_right (well_formed_type d.result) (well_formed_expr d.body) z in
    let m = expr_kept code heads k f.body (fun_params d h) (formed_of d.result (fun_result d h)) (and_left (formed_expr d.body) (nat_le (expr_depth d.body) 64) b) in
    let deep : nat_le (expr_depth g.body) 64 ≡ true = ap (λ n. nat_le n 64) m.depth ∙ and_right (formed_expr d.body) (nat_le (expr_depth d.body) 64) b in
    let whole : well_formed_expr g.body ≡ true = and_both (formed_expr g.body) (nat_le (expr_depth g.body) 64) m.formed deep in
    let same_rest : well_formed_fun (record d { body = g.body }) ≡ true =
    and_both (nat_le (length d.params) 8) (list_all (λ p. well_formed_type p.ty) d.params && (well_formed_type d.result && well_formed_expr g.body))
    (and_left (nat_le (length d.params) 8) (list_all (λ p. well_formed_type p.ty) d.params && (well_formed_type d.result && well_formed_expr d.body)) h)
    (and_both (list_all (λ p. well_formed_type p.ty) d.params) (well_formed_type d.result && well_formed_expr g.body) (fun_params d h) (and_both (well_formed_type d.result) (well_formed_expr g.body) (fun_result d h) whole)) in
    (ap well_formed_fun f.rest ∙ same_rest, m.nodes)

funs_kept : (code : Program) (j : ℕ) (ds gs : List Fun) → GoodHeads code → length gs ≡ length ds → ((k : ℕ) (d g : Fun) → slice_get ds k ≡ Some d → slice_get gs k ≡ Some g → FunFills code (j + k) d g) → list_all well_formed_fun ds ≡ true
    → (list_all well_formed_fun gs ≡ true) × (map (λ f. expr_nodes f.body) gs ≡ map (λ f. expr_nodes f.body) ds)
funs_kept code j [] [] heads n f h = (refl, refl)
funs_kept code j [] (g ∷ gs) heads n f h = absurd (omega arith)
funs_kept code j (d ∷ ds) [] heads n f h = absurd (omega arith)
funs_kept code j (d ∷ ds) (g ∷ gs) heads n f h =
    let a = fun_kept code (j + 0) d g heads (f 0 d g refl refl) (and_left (well_formed_fun d) (list_all well_formed_fun ds) h) in
    let b = funs_kept code (suc j) ds gs heads (omega arith) (λ k x y p q. subst (λ i. FunFills code i x y) (omega arith) (f (suc k) x y p q)) (and_right (well_formed_fun d) (list_all well_formed_fun ds) h) in
    (and_both (well_formed_fun g) (list_all well_formed_fun gs) a.0 b.0, λ i. a.1 i ∷ b.1 i)

-- what fills a well-formed draft in is well formed
pub filled_formed : (draft code : Program) → IsWellFormedProgram draft → Fills draft code → IsWellFormedProgram code
unfolding well_formed_program program_nodes
filled_formed draft code w f =
    let svcs = and_left (nat_le (length draft.svcs) 64 && list_all well_formed_svc draft.svcs)
    (nat_le (length draft.exns) 64 && ((has_from_to 1 64 draft.funs && list_all well_formed_fun draft.funs) && nat_le (program_nodes draft) 4096)) w in
    let a = and_right (nat_le (length draft.svcs) 64 && list_all well_formed_svc draft.svcs) (nat_le (length draft.exns) 64 && ((has_from_to 1 64 draft.funs && list_all well_formed_fun draft.funs) && nat_le (program_nodes draft) 4096)) w in
    let exns = and_left (nat_le (length draft.exns) 64) ((has_from_to 1 64 draft.funs && list_all well_formed_fun draft.funs) && nat_le (program_nodes draft) 4096) a in
    let b = and_right (nat_le (length draft.exns) 64) ((has_from_to 1 64 draft.funs && list_all well_formed_fun draft.funs) && nat_le (program_nodes draft) 4096) a in
    let c = and_left (has_from_to 1 64 draft.funs && list_all well_formed_fun draft.funs) (nat_le (program_nodes draft) 4096) b in
    let funs = and_right (has_from_to 1 64 draft.funs) (list_all well_formed_fun draft.funs) c in
    let heads : GoodHeads draft = record { svcs = and_right (nat_le (length draft.svcs) 64) (list_all well_formed_svc draft.svcs) svcs; funs = funs } in
    let k = funs_kept draft 0 draft.funs code.funs heads f.count (λ k d g p q. subst (λ i. FunFills draft i d g) (omega arith) (f.funs k d g p q)) funs in
    let nodes : program_nodes code ≡ program_nodes draft = sym (sum-map (λ (f : Fun). expr_nodes f.body) code.funs) ∙ (ap (sum_by (λ n. n)) k.1 ∙ sum-map (λ (f : Fun). expr_nodes f.body) draft.funs) in
    and_both (nat_le (length code.svcs) 64 && list_all well_formed_svc code.svcs) (nat_le (length code.exns) 64 && ((has_from_to 1 64 code.funs && list_all well_formed_fun code.funs) && nat_le (program_nodes code) 4096))
    (ap (λ (z : List Svc). nat_le (length z) 64 && list_all well_formed_svc z) f.svcs ∙ svcs)
    (and_both (nat_le (length code.exns) 64) ((has_from_to 1 64 code.funs && list_all well_formed_fun code.funs) && nat_le (program_nodes code) 4096) (ap (λ (z : List Name). nat_le (length z) 64) f.exns ∙ exns)
    (and_both (has_from_to 1 64 code.funs && list_all well_formed_fun code.funs) (nat_le (program_nodes code) 4096)
    (and_both (has_from_to 1 64 code.funs) (list_all well_formed_fun code.funs) (some_few 1 64 draft.funs code.funs f.count (and_left (has_from_to 1 64 draft.funs) (list_all well_formed_fun draft.funs) c)) k.0)
    (ap (λ n. nat_le n 4096) nodes ∙ and_right (has_from_to 1 64 draft.funs && list_all well_formed_fun draft.funs) (nat_le (program_nodes draft) 4096) b)))
