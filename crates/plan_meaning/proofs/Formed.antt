-- Well-formed values: their parts, and what is made of well-formed parts.
use Rattle.std.proofs.Common.{◌≡◌, ℕ, zero, suc, ◌+◌, ◌≤◌, Bool, true, ◌&&◌, nat_le, ℤ, List, [], ◌∷◌, length, Some, slice_get, is_some, refl, sym, ap, ◌∙◌, subst, lit≤, arith}
use Rattle.std.specs.List.{list_all}
use Rattle.std.proofs.lemmas.Bool.{leb-true, le-leb}
use lib.Utf8.{scalar}
use Rattle.plan_base.specs.declared.ids.Host.{Host}
use Rattle.plan_base.specs.declared.ids.Dev.{Dev}
use Rattle.plan_base.specs.declared.tree.Ty.{Ty, Ty-F, out-Ty}
use Rattle.plan_base.specs.declared.tree.Ty.TheVariants as ty
use Rattle.plan_base.specs.declared.tree.Value.{Value, Value-F, out-Value}
use Rattle.plan_base.specs.declared.tree.Value.TheVariants as value
use Rattle.plan_base.specs.declared.tree.Chunk.{Chunk}
use Rattle.plan_base.specs.declared.tree.Expr.{Expr, out-Expr}
use Rattle.plan_base.specs.declared.tree.Fun.{Fun}
use Rattle.plan_base.specs.declared.tree.Program.{Program}
use Rattle.plan_base.specs.Trees.{ExprLayer, ValueLayer}
use Rattle.plan_base.specs.Sizes.{weight, weight_level, chunk_weight, nesting, chunk_nesting, type_depth, type_depth_level, value_depth, value_depth_level, expr_depth, largest_by}
use Rattle.plan_base.proofs.SizeLaws.{weight_out, value_depth_out, type_depth_out, chunk_nesting_is}
use Rattle.plan_base.specs.WellFormed.{has_from_to, formed_type, well_formed_type, well_formed_svc, well_formed_fun, formed_expr, formed_expr_level, well_formed_expr, formed_value, formed_value_level}
use Rattle.plan_base.specs.WellFormed.{formed_chunk, well_formed_text, well_formed_value, well_formed_chunk, well_formed_program, IsWellFormedValue, IsWellFormedChunk}
use Rattle.plan_base.proofs.FormLaws.{formed_value_out, formed_chunk_is, formed_expr_out}
use Rattle.plan_types_spec.specs.Typing.{IsSmall, HasType, unit, bool, int, char, str, blob, host, dev, list, tuple, chunk, HaveTypes, and_value, AllHaveType, and_item}
use Rattle.containers.proofs.Bools.{and_left, and_right, and_both}
use Rattle.plan_meaning.proofs.Totals.{largest_within, largest_bounds, count_within}

-- ---- tests that hold together

pub at_most : (a b : ℕ) → a ≤ b → nat_le a b ≡ true
at_most = le-leb

pub all_got : {X : Type 0} (p : X → Bool) (xs : List X) → ((k : ℕ) (x : X) → slice_get xs k ≡ Some x → p x ≡ true) → list_all p xs ≡ true
all_got p [] h = refl
all_got p (x ∷ xs) h = and_both (p x) (list_all p xs) (h 0 x refl) (all_got p xs (λ k y e. h (suc k) y e))

pub one_got : {X : Type 0} (p : X → Bool) (xs : List X) (k : ℕ) (x : X) → list_all p xs ≡ true → slice_get xs k ≡ Some x → p x ≡ true
one_got p [] k x h e = cc
one_got p (y ∷ xs) zero x h e = let same : y ≡ x = cc in subst (λ z. p z ≡ true) same (and_left (p y) (list_all p xs) h)
one_got p (y ∷ xs) (suc k) x h e = one_got p xs k x (and_right (p y) (list_all p xs) h) e

-- ---- well-formed values

-- the counts and forms of the language, and at most 8 lists and tuples inside each other
pub record IsFormed (v : Value) : Type 0 where
  pub shape : formed_value v ≡ true
  pub depth : value_depth v ≤ 8

pub well_formed : (v : Value) → IsFormed v → IsSmall v → IsWellFormedValue v
unfolding well_formed_value
well_formed v f s =
    and_both (formed_value v) _ f.shape (and_both (nat_le (value_depth v) 8) (nat_le (nesting v) 4) (at_most (value_depth v) 8 f.depth) (at_most (nesting v) 4 s.nests))

pub formed_of : (v : Value) → IsWellFormedValue v → IsFormed v
unfolding well_formed_value
formed_of v h =
    record {
      shape = and_left (formed_value v) _ h;
      depth = leb-true (value_depth v) 8 (and_left (nat_le (value_depth v) 8) (nat_le (nesting v) 4) (and_right (formed_value v) _ h));
    }

-- by the outermost level
at_level : (v : Value) (l : ValueLayer) → out-Value v ≡ l → formed_value_level formed_value formed_chunk l ≡ true → value_depth_level value_depth l ≤ 8 → IsFormed v
at_level v l o f d =
    record {
      shape = formed_value_out v ∙ (ap (λ x. formed_value_level formed_value formed_chunk x) o ∙ f);
      depth = subst (λ n. n ≤ 8) (sym (value_depth_out v ∙ ap (λ x. value_depth_level value_depth x) o)) d;
    }

pub shape_level : (v : Value) (l : ValueLayer) → out-Value v ≡ l → IsFormed v → formed_value_level formed_value formed_chunk l ≡ true
shape_level v l o f = sym (ap (λ x. formed_value_level formed_value formed_chunk x) o) ∙ (sym (formed_value_out v) ∙ f.shape)

pub depth_level : (v : Value) (l : ValueLayer) → out-Value v ≡ l → IsFormed v → value_depth_level value_depth l ≤ 8
depth_level v l o f = subst (λ n. n ≤ 8) (value_depth_out v ∙ ap (λ x. value_depth_level value_depth x) o) f.depth

pub a_unit : (v : Value) → out-Value v ≡ Value-F.Unit → IsFormed v
a_unit v o = at_level v Value-F.Unit o refl (lit≤ tt)

pub a_bool : (v : Value) (b : Bool) → out-Value v ≡ Value-F.Bool b → IsFormed v
a_bool v b o = at_level v (Value-F.Bool b) o refl (lit≤ tt)

pub an_int : (v : Value) (n : ℤ) → out-Value v ≡ Value-F.Int n → IsFormed v
an_int v n o = at_level v (Value-F.Int n) o refl (lit≤ tt)

pub a_host : (v : Value) (h : Host) → out-Value v ≡ Value-F.Host h → IsFormed v
a_host v h o = at_level v (Value-F.Host h) o refl (lit≤ tt)

pub a_dev : (v : Value) (d : Dev) → out-Value v ≡ Value-F.Dev d → IsFormed v
a_dev v d o = at_level v (Value-F.Dev d) o refl (lit≤ tt)

pub a_char : (v : Value) (c : ℕ) → out-Value v ≡ Value-F.Char c → scalar c ≡ true → IsFormed v
a_char v c o h = at_level v (Value-F.Char c) o h (lit≤ tt)

pub a_str : (v : Value) (s : List ℕ) → out-Value v ≡ Value-F.Str s → well_formed_text s ≡ true → IsFormed v
a_str v s o h = at_level v (Value-F.Str s) o h (lit≤ tt)

pub a_blob : (v : Value) (b : List ℕ) → out-Value v ≡ Value-F.Blob b → nat_le (length b) 65535 ≡ true → IsFormed v
a_blob v b o h = at_level v (Value-F.Blob b) o h (lit≤ tt)

pub a_chunk : (v : Value) (k : Chunk) → out-Value v ≡ Value-F.Chunk k → formed_chunk k ≡ true → IsFormed v
a_chunk v k o h = at_level v (Value-F.Chunk k) o h (lit≤ tt)

pub a_list : (v : Value) (u : Ty) (vs : List Value) → out-Value v ≡ Value-F.List u vs → (formed_type u && nat_le (type_depth u) 7) ≡ true → length vs ≤ 65535 → list_all formed_value vs ≡ true → 1 + largest_by value_depth vs ≤ 8 → IsFormed v
a_list v u vs o t n h d =
    at_level v (Value-F.List u vs) o (and_both (formed_type u && nat_le (type_depth u) 7) _ t (and_both (nat_le (length vs) 65535) (list_all formed_value vs) (at_most (length vs) 65535 n) h)) d

pub a_tuple : (v : Value) (vs : List Value) → out-Value v ≡ Value-F.Tuple vs → has_from_to 2 8 vs ≡ true → list_all formed_value vs ≡ true → 1 + largest_by value_depth vs ≤ 8 → IsFormed v
a_tuple v vs o n h d = at_level v (Value-F.Tuple vs) o (and_both (has_from_to 2 8 vs) (list_all formed_value vs) n h) d

-- the weight bounds the bytes of a blob
pub small_blob : (v : Value) (b : List ℕ) → out-Value v ≡ Value-F.Blob b → IsSmall v → IsFormed v
small_blob v b o s =
    let e = weight_out v ∙ ap (λ l. weight_level weight chunk_weight l) o in
    let w = s.weighs in
    a_blob v b o (at_most (length b) 65535 (omega arith))

-- and the items of a list
pub small_list : (v : Value) (u : Ty) (vs : List Value) → out-Value v ≡ Value-F.List u vs → IsSmall v → length vs ≤ 65535
small_list v u vs o s =
    let e = weight_out v ∙ ap (λ l. weight_level weight chunk_weight l) o in
    let k = count_within vs in
    let w = s.weighs in
    omega arith

-- ---- parts of well-formed values

-- each value is formed
abbrev pub AllFormed : List Value → Type 0
AllFormed [] = Unit {0}
AllFormed (v ∷ vs) = IsFormed v × AllFormed vs

pub all_formed : (vs : List Value) (n : ℕ) → list_all formed_value vs ≡ true → largest_by value_depth vs ≤ n → n ≤ 8 → AllFormed vs
all_formed [] n h d m = tt
all_formed (v ∷ vs) n h d m =
    let k = largest_bounds value_depth 0 n v vs d in
    (record { shape = and_left (formed_value v) (list_all formed_value vs) h; depth = omega (arith, k.0) }, all_formed vs n (and_right (formed_value v) (list_all formed_value vs) h) k.1 m)

pub shapes : (vs : List Value) → AllFormed vs → list_all formed_value vs ≡ true
shapes [] h = refl
shapes (v ∷ vs) h = and_both (formed_value v) (list_all formed_value vs) h.0.shape (shapes vs h.1)

pub items_formed : (v : Value) (u : Ty) (vs : List Value) → out-Value v ≡ Value-F.List u vs → IsFormed v → AllFormed vs
items_formed v u vs o f =
    let d = depth_level v (Value-F.List u vs) o f in
    all_formed vs 7 (and_right (nat_le (length vs) 65535) (list_all formed_value vs) (and_right (formed_type u && nat_le (type_depth u) 7) _ (shape_level v (Value-F.List u vs) o f))) (omega arith) (lit≤ tt)

pub items_type : (v : Value) (u : Ty) (vs : List Value) → out-Value v ≡ Value-F.List u vs → IsFormed v → (formed_type u && nat_le (type_depth u) 7) ≡ true
items_type v u vs o f = and_left (formed_type u && nat_le (type_depth u) 7) _ (shape_level v (Value-F.List u vs) o f)

pub parts_formed : (v : Value) (vs : List Value) → out-Value v ≡ Value-F.Tuple vs → IsFormed v → AllFormed vs
parts_formed v vs o f =
    let d = depth_level v (Value-F.Tuple vs) o f in
    all_formed vs 7 (and_right (has_from_to 2 8 vs) (list_all formed_value vs) (shape_level v (Value-F.Tuple vs) o f)) (omega arith) (lit≤ tt)

pub chunk_formed : (v : Value) (k : Chunk) → out-Value v ≡ Value-F.Chunk k → IsFormed v → formed_chunk k ≡ true
chunk_formed v k o f = shape_level v (Value-F.Chunk k) o f

-- ---- chunks

args_of : (vs : List Value) → list_all (λ v. formed_value v && nat_le (value_depth v) 8) vs ≡ true → AllFormed vs
args_of [] h = tt
args_of (v ∷ vs) h =
    let k = and_left (formed_value v && nat_le (value_depth v) 8) (list_all (λ w. formed_value w && nat_le (value_depth w) 8) vs) h in
    (record { shape = and_left (formed_value v) _ k; depth = leb-true (value_depth v) 8 (and_right (formed_value v) _ k) }, args_of vs (and_right (formed_value v && nat_le (value_depth v) 8) _ h))

of_args : (vs : List Value) → AllFormed vs → list_all (λ v. formed_value v && nat_le (value_depth v) 8) vs ≡ true
of_args [] h = refl
of_args (v ∷ vs) h =
    and_both (formed_value v && nat_le (value_depth v) 8) _ (and_both (formed_value v) _ h.0.shape (at_most (value_depth v) 8 h.0.depth)) (of_args vs h.1)

pub chunk_code : (k : Chunk) → formed_chunk k ≡ true → well_formed_program k.code ≡ true
chunk_code k h = and_left (well_formed_program k.code) _ (sym (formed_chunk_is k) ∙ h)

pub chunk_args : (k : Chunk) → formed_chunk k ≡ true → AllFormed k.args
chunk_args k h = args_of k.args (and_right (nat_le (length k.args) 8) _ (and_right (well_formed_program k.code) _ (sym (formed_chunk_is k) ∙ h)))

pub made_chunk : (k : Chunk) → well_formed_program k.code ≡ true → length k.args ≤ 8 → AllFormed k.args → formed_chunk k ≡ true
made_chunk k p n h = formed_chunk_is k ∙ and_both (well_formed_program k.code) _ p (and_both (nat_le (length k.args) 8) _ (at_most (length k.args) 8 n) (of_args k.args h))

within_three : (vs : List Value) → largest_by nesting vs ≤ 3 → list_all (λ v. nat_le (nesting v) 3) vs ≡ true
within_three [] h = refl
within_three (v ∷ vs) h =
    let k = largest_bounds nesting 0 3 v vs h in
    and_both (nat_le (nesting v) 3) _ (at_most (nesting v) 3 k.0) (within_three vs k.1)

pub well_formed_chunk_of : (k : Chunk) → formed_chunk k ≡ true → chunk_nesting k ≤ 4 → IsWellFormedChunk k
unfolding well_formed_chunk
well_formed_chunk_of k f n = let e = chunk_nesting_is k in and_both (formed_chunk k) _ f (within_three k.args (omega arith))

pub formed_of_chunk : (k : Chunk) → IsWellFormedChunk k → formed_chunk k ≡ true
unfolding well_formed_chunk
formed_of_chunk k h = and_left (formed_chunk k) _ h

-- ---- no value is deeper than its type

type_depth_at : (t u : Ty) (l : Ty-F Ty) → t ≡ u → out-Ty u ≡ l → type_depth t ≡ type_depth_level type_depth l
type_depth_at t u l e o = ap type_depth e ∙ (type_depth_out u ∙ ap (λ x. type_depth_level type_depth x) o)

depth_at : (v : Value) (l : ValueLayer) → out-Value v ≡ l → value_depth v ≡ value_depth_level value_depth l
depth_at v l o = value_depth_out v ∙ ap (λ x. value_depth_level value_depth x) o

flat : (v : Value) (t : Ty) → value_depth v ≡ 0 → value_depth v ≤ type_depth t
flat v t e = omega arith

mutual
  pub depth_by_type : {v : Value} {t : Ty} → HasType v t → value_depth v ≤ type_depth t
  depth_by_type {v} {t} (unit o e) = flat v t (depth_at v _ o)
  depth_by_type {v} {t} (bool b o e) = flat v t (depth_at v _ o)
  depth_by_type {v} {t} (int n o e) = flat v t (depth_at v _ o)
  depth_by_type {v} {t} (char n o e) = flat v t (depth_at v _ o)
  depth_by_type {v} {t} (str s o e) = flat v t (depth_at v _ o)
  depth_by_type {v} {t} (blob b o e) = flat v t (depth_at v _ o)
  depth_by_type {v} {t} (host h o e) = flat v t (depth_at v _ o)
  depth_by_type {v} {t} (dev d o e) = flat v t (depth_at v _ o)
  depth_by_type {v} {t} (chunk k o e h) = flat v t (depth_at v _ o)
  depth_by_type {v} {t} (list u vs o e h) =
      let d = depth_at v (Value-F.List u vs) o in
      let n = type_depth_at t (ty.List u) (Ty-F.List u) e (ty.outs-List u) in
      let k = items_depth u vs h in
      omega arith
  depth_by_type {v} {t} (tuple vs ts o e h) =
      let d = depth_at v (Value-F.Tuple vs) o in
      let n = type_depth_at t (ty.Tuple ts) (Ty-F.Tuple ts) e (ty.outs-Tuple ts) in
      let k = parts_depth vs ts h in
      omega arith

  items_depth : (u : Ty) (vs : List Value) → AllHaveType u vs → largest_by value_depth vs ≤ type_depth u
  items_depth u [] h = omega arith
  items_depth u (v ∷ vs) (and_item h k) = largest_within value_depth (type_depth u) v vs (depth_by_type h) (items_depth u vs k)

  parts_depth : (vs : List Value) (ts : List Ty) → HaveTypes vs ts → largest_by value_depth vs ≤ largest_by type_depth ts
  parts_depth [] [] h = omega arith
  parts_depth [] (t ∷ ts) h = elim h [ ]
  parts_depth (v ∷ vs) [] h = elim h [ ]
  parts_depth (v ∷ vs) (t ∷ ts) (and_value h k) =
      let a = depth_by_type h in
      let b = parts_depth vs ts k in
      let x = largest_bounds type_depth 0 (largest_by type_depth (t ∷ ts)) t ts (omega arith) in
      largest_within value_depth (largest_by type_depth (t ∷ ts)) v vs (omega (arith, x.0)) (omega (arith, x.1))

pub tuple_depth : (vs : List Value) (ts : List Ty) → HaveTypes vs ts → type_depth (ty.Tuple ts) ≤ 8 → 1 + largest_by value_depth vs ≤ 8
tuple_depth vs ts h s =
    let n = type_depth_at (ty.Tuple ts) (ty.Tuple ts) (Ty-F.Tuple ts) refl (ty.outs-Tuple ts) in
    let k = parts_depth vs ts h in
    omega arith

item_type_depth : (u t : Ty) → t ≡ ty.List u → type_depth t ≤ 8 → type_depth u ≤ 7
item_type_depth u t e s = let n = type_depth_at t (ty.List u) (Ty-F.List u) e (ty.outs-List u) in omega arith

pub item_depth : (v : Value) (u t : Ty) → HasType v u → t ≡ ty.List u → type_depth t ≤ 8 → value_depth v ≤ 7
item_depth v u t h e s = let a = depth_by_type h in let b = item_type_depth u t e s in omega arith

pub empty_list : (u t : Ty) → t ≡ ty.List u → type_depth t ≤ 8 → well_formed_type u ≡ true → IsFormed (value.List u [])
unfolding well_formed_type
empty_list u t e s w =
    a_list (value.List u []) u [] (value.outs-List u [])
    (and_both (formed_type u) (nat_le (type_depth u) 7) (and_left (formed_type u) (nat_le (type_depth u) 8) w) (at_most (type_depth u) 7 (item_type_depth u t e s))) (lit≤ tt) refl (lit≤ tt)

-- ---- well-formed code

fun_formed : (code : Program) (at : ℕ) (d : Fun) → well_formed_program code ≡ true → slice_get code.funs at ≡ Some d → well_formed_fun d ≡ true
unfolding well_formed_program
fun_formed code at d h e =
    let later = and_right (nat_le (length code.svcs) 64 && list_all well_formed_svc code.svcs) _ h in
    let funs = and_left (has_from_to 1 64 code.funs && list_all well_formed_fun code.funs) _ (and_right (nat_le (length code.exns) 64) _ later) in
    one_got well_formed_fun code.funs at d (and_right (has_from_to 1 64 code.funs) _ funs) e

pub expr_formed : (e : Expr) → well_formed_expr e ≡ true → formed_expr e ≡ true
unfolding well_formed_expr
expr_formed e h = and_left (formed_expr e) (nat_le (expr_depth e) 64) h

pub body_formed : (code : Program) (at : ℕ) (d : Fun) → well_formed_program code ≡ true → slice_get code.funs at ≡ Some d → formed_expr d.body ≡ true
body_formed code at d h e =
    expr_formed d.body (and_right (well_formed_type d.result) (well_formed_expr d.body) (and_right (list_all (λ p. well_formed_type p.ty) d.params) _ (and_right (nat_le (length d.params) 8) _ (fun_formed code at d h e))))

-- the counts and forms of an expression's outermost level
abbrev pub FormedLevel : ExprLayer → Type 0
FormedLevel l = formed_expr_level formed_expr (λ c. is_some c.name) (λ c. formed_expr c.body) l ≡ true

pub level_formed : (e : Expr) (l : ExprLayer) → out-Expr e ≡ l → formed_expr e ≡ true → FormedLevel l
level_formed e l o f = sym (ap (λ x. formed_expr_level formed_expr (λ c. is_some c.name) (λ c. formed_expr c.body) x) o) ∙ (sym (formed_expr_out e) ∙ f)
