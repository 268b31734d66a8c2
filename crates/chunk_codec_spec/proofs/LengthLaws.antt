-- The sizes of types, expressions, programs, values and chunks are the lengths of their spellings.
use Rattle.std.proofs.Common.{◌≡◌, ℕ, List, [], ◌∷◌, ◌++◌, length, Option, Some, None, refl, sym, ◌∙◌, ap, subst, arith, length-append, sum_by}
use Rattle.std.specs.Prelude.{map}
use Rattle.std.specs.List.{flat_map}
use Rattle.std.specs.Int.{w16, to_be_bytes}
use Rattle.std.proofs.lemmas.List.Sums.{sum_by-cons}
use Rattle.plan_base.specs.Sizes.{type_size, type_size_level, expr_size, expr_size_level, clause_size, catch_size, name_size, param_size, svc_size, fun_size, code_size, weight, weight_level, chunk_weight}
use Rattle.plan_base.proofs.SizeLaws.{type_size_out, expr_size_out, weight_out, chunk_weight_is}
use Rattle.plan_base.specs.declared.tree.Ty.{Ty, Ty-F, roll-Ty, out-roll-Ty, map-Ty, ind-Ty}
use Rattle.plan_base.specs.declared.tree.Expr.{Expr, Expr-F, roll-Expr, out-roll-Expr, map-Expr, ind-Expr}
use Rattle.plan_base.specs.declared.tree.Clause.{Clause, Clause-F, roll-Clause, out-roll-Clause}
use Rattle.plan_base.specs.declared.tree.Svc.{Svc}
use Rattle.plan_base.specs.declared.tree.Param.{Param}
use Rattle.plan_base.specs.declared.tree.Fun.{Fun}
use Rattle.plan_base.specs.declared.tree.Program.{Program}
use Rattle.plan_base.specs.declared.tree.Value.{Value, Value-F, roll-Value, out-roll-Value, map-Value, ind-Value}
use Rattle.plan_base.specs.declared.tree.Chunk.{Chunk, Chunk-F, roll-Chunk, out-roll-Chunk}
use Rattle.chunk_codec_spec.specs.Fields.{op_byte, name_bytes}
use Rattle.chunk_codec_spec.specs.Types.{type_bytes, type_bytes_level}
use Rattle.chunk_codec_spec.specs.Exprs.{expr_bytes, expr_bytes_level, clause_bytes, catch_bytes}
use Rattle.chunk_codec_spec.specs.Programs.{param_bytes, service_bytes, function_bytes, program_bytes}
use Rattle.chunk_codec_spec.specs.Values.{value_bytes, value_bytes_level, chunk_bytes}
use Rattle.chunk_codec_spec.proofs.TypeLaws.{type_bytes_out}
use Rattle.chunk_codec_spec.proofs.ExprLaws.{expr_bytes_out}
use Rattle.chunk_codec_spec.proofs.ValueLaws.{value_bytes_out}

-- the length of things one after another is the sum of theirs
each_length : {X Y : Type 0} (f : Y → List ℕ) (g : Y → ℕ) (v : X → Y) → ((x : X) → length (f (v x)) ≡ g (v x)) → (xs : List X) → length (flat_map f (map v xs)) ≡ sum_by g (map v xs)
each_length f g v h [] = refl
each_length f g v h (x ∷ xs) =
    length-append (f (v x)) (flat_map f (map v xs)) ∙ (let a = h x in let b = each_length f g v h xs in let c = sum_by-cons g (v x) (map v xs) in omega (arith, a, b, c))

all_length : {Y : Type 0} (f : Y → List ℕ) (g : Y → ℕ) → ((y : Y) → length (f y) ≡ g y) → (ys : List Y) → length (flat_map f ys) ≡ sum_by g ys
all_length f g h [] = refl
all_length f g h (y ∷ ys) = length-append (f y) (flat_map f ys) ∙ (let a = h y in let b = all_length f g h ys in let c = sum_by-cons g y ys in omega (arith, a, b, c))

type_level : {X : Type 0} (v : X → Ty) → ((x : X) → length (type_bytes (v x)) ≡ type_size (v x)) → (y : Ty-F X)
    → length (type_bytes_level type_bytes (map-Ty X Ty v y)) ≡ type_size_level type_size (map-Ty X Ty v y)
type_level v h (Ty-F.List t) = let a = h t in omega (arith, a)
type_level v h (Ty-F.Tuple ts) = let a = each_length type_bytes type_size v h ts in omega (arith, a)
type_level v h _ = refl

type_rolled : (x : Ty-F Ty) → length (type_bytes_level type_bytes x) ≡ type_size_level type_size x → length (type_bytes (roll-Ty x)) ≡ type_size (roll-Ty x)
type_rolled x h =
    ap length (type_bytes_out (roll-Ty x) ∙ ap (type_bytes_level type_bytes) (out-roll-Ty x)) ∙ h
    ∙ sym (type_size_out (roll-Ty x) ∙ ap (type_size_level type_size) (out-roll-Ty x))

-- the size of a type is the length of its spelling
pub type_length : (t : Ty) → length (type_bytes t) ≡ type_size t
type_length = ind-Ty (λ t. length (type_bytes t) ≡ type_size t)
    (λ x y e. type_rolled x (let P : Ty-F Ty → Type 0 = λ z. length (type_bytes_level type_bytes z) ≡ type_size_level type_size z in subst P e (type_level (λ q. q.0) (λ q. q.1) y)))

flat_length : {X : Type 0} (v : X → Expr) → ((x : X) → length (expr_bytes (v x)) ≡ expr_size (v x)) → (xs : List X) → length (flat_map expr_bytes (map v xs)) ≡ sum_by expr_size (map v xs)
flat_length v h xs = each_length expr_bytes expr_size v h xs

clauses_length : {X : Type 0} (v : X → Clause) → ((x : X) → length (clause_bytes (v x)) ≡ clause_size (v x)) → (xs : List X) → length (flat_map clause_bytes (map v xs)) ≡ sum_by clause_size (map v xs)
clauses_length v h xs = each_length clause_bytes clause_size v h xs

expr_level : {X Y : Type 0} (v : X → Expr) → ((x : X) → length (expr_bytes (v x)) ≡ expr_size (v x)) → (w : Y → Clause) → ((y : Y) → length (clause_bytes (w y)) ≡ clause_size (w y)) → (e : Expr-F X Y)
    → length (expr_bytes_level expr_bytes clause_bytes (map-Expr X Y Expr Clause v w e)) ≡ expr_size_level expr_size clause_size (map-Expr X Y Expr Clause v w e)
expr_level v h w k (Expr-F.Str s) = let f0 = length-append (to_be_bytes w16 (length s)) s in omega (arith, f0)
expr_level v h w k (Expr-F.Blob s) = let f0 = length-append (to_be_bytes w16 (length s)) s in omega (arith, f0)
expr_level v h w k (Expr-F.Nil (Some t)) = let f0 = type_length t in omega (arith, f0)
expr_level v h w k (Expr-F.Nil None) = omega arith
expr_level v h w k (Expr-F.Var x) = omega arith
expr_level v h w k (Expr-F.Tuple es) = let f0 = flat_length v h es in omega (arith, f0)
expr_level v h w k (Expr-F.Call x es) = let f0 = flat_length v h es in let f1 = length-append (name_bytes x) (length (map v es) ∷ flat_map expr_bytes (map v es)) in omega (arith, f0, f1)
expr_level v h w k (Expr-F.If a b c) =
    let f0 = h a in
    let f1 = h b in
    let f2 = h c in
    let f3 = length-append (expr_bytes (v a)) ((expr_bytes (v b)) ++ (expr_bytes (v c))) in
    let f4 = length-append (expr_bytes (v b)) (expr_bytes (v c)) in
    omega (arith, f0, f1, f2, f3, f4)
expr_level v h w k (Expr-F.Let x t a b) =
    let f0 = type_length t in
    let f1 = h a in
    let f2 = h b in
    let f3 = length-append (name_bytes x) ((type_bytes t) ++ ((expr_bytes (v a)) ++ (expr_bytes (v b)))) in
    let f4 = length-append (type_bytes t) ((expr_bytes (v a)) ++ (expr_bytes (v b))) in
    let f5 = length-append (expr_bytes (v a)) (expr_bytes (v b)) in
    omega (arith, f0, f1, f2, f3, f4, f5)
expr_level v h w k (Expr-F.Then a b) = let f0 = h a in let f1 = h b in let f2 = length-append (expr_bytes (v a)) (expr_bytes (v b)) in omega (arith, f0, f1, f2)
expr_level v h w k (Expr-F.And a b) = let f0 = h a in let f1 = h b in let f2 = length-append (expr_bytes (v a)) (expr_bytes (v b)) in omega (arith, f0, f1, f2)
expr_level v h w k (Expr-F.Or a b) = let f0 = h a in let f1 = h b in let f2 = length-append (expr_bytes (v a)) (expr_bytes (v b)) in omega (arith, f0, f1, f2)
expr_level v h w k (Expr-F.Not a) = let f0 = h a in omega (arith, f0)
expr_level v h w k (Expr-F.Binary o a b) =
    let f0 = h a in
    let f1 = h b in
    let f2 = length-append (op_byte o ∷ []) ((expr_bytes (v a)) ++ (expr_bytes (v b))) in
    let f3 = length-append (expr_bytes (v a)) (expr_bytes (v b)) in
    omega (arith, f0, f1, f2, f3)
expr_level v h w k (Expr-F.Part i a) = let f0 = h a in let f1 = length-append (i ∷ []) (expr_bytes (v a)) in omega (arith, f0, f1)
expr_level v h w k (Expr-F.Raise x (Some t)) = let f0 = type_length t in let f1 = length-append (name_bytes x) (type_bytes t) in omega (arith, f0, f1)
expr_level v h w k (Expr-F.Raise x None) = omega arith
expr_level v h w k (Expr-F.Try a cs) = let f0 = h a in let f1 = clauses_length w k cs in let f2 = length-append (expr_bytes (v a)) (length (map w cs) ∷ flat_map clause_bytes (map w cs)) in omega (arith, f0, f1, f2)
expr_level v h w k (Expr-F.Foldl x a b) =
    let f0 = h a in
    let f1 = h b in
    let f2 = length-append (name_bytes x) ((expr_bytes (v a)) ++ (expr_bytes (v b))) in
    let f3 = length-append (expr_bytes (v a)) (expr_bytes (v b)) in
    omega (arith, f0, f1, f2, f3)
expr_level v h w k (Expr-F.Foldr x a b) =
    let f0 = h a in
    let f1 = h b in
    let f2 = length-append (name_bytes x) ((expr_bytes (v a)) ++ (expr_bytes (v b))) in
    let f3 = length-append (expr_bytes (v a)) (expr_bytes (v b)) in
    omega (arith, f0, f1, f2, f3)
expr_level v h w k (Expr-F.ChunkOf x es) = let f0 = flat_length v h es in let f1 = length-append (name_bytes x) (length (map v es) ∷ flat_map expr_bytes (map v es)) in omega (arith, f0, f1)
expr_level v h w k (Expr-F.Eval a) = let f0 = h a in omega (arith, f0)
expr_level v h w k (Expr-F.OnRemote a b c x) =
    let f0 = h a in
    let f1 = h b in
    let f2 = h c in
    let f3 = length-append (expr_bytes (v a)) ((expr_bytes (v b)) ++ ((expr_bytes (v c)) ++ (name_bytes x))) in
    let f4 = length-append (expr_bytes (v b)) ((expr_bytes (v c)) ++ (name_bytes x)) in
    let f5 = length-append (expr_bytes (v c)) (name_bytes x) in
    omega (arith, f0, f1, f2, f3, f4, f5)
expr_level v h w k (Expr-F.OnNeighbor a b c d) =
    let f0 = h a in
    let f1 = h b in
    let f2 = h c in
    let f3 = h d in
    let f4 = length-append (expr_bytes (v a)) ((expr_bytes (v b)) ++ ((expr_bytes (v c)) ++ (expr_bytes (v d)))) in
    let f5 = length-append (expr_bytes (v b)) ((expr_bytes (v c)) ++ (expr_bytes (v d))) in
    let f6 = length-append (expr_bytes (v c)) (expr_bytes (v d)) in
    omega (arith, f0, f1, f2, f3, f4, f5, f6)
expr_level v h w k _ = refl

expr_rolled : (x : Expr-F Expr Clause) → length (expr_bytes_level expr_bytes clause_bytes x) ≡ expr_size_level expr_size clause_size x → length (expr_bytes (roll-Expr x)) ≡ expr_size (roll-Expr x)
expr_rolled x h =
    ap length (expr_bytes_out (roll-Expr x) ∙ ap (expr_bytes_level expr_bytes clause_bytes) (out-roll-Expr x)) ∙ h
    ∙ sym (expr_size_out (roll-Expr x) ∙ ap (expr_size_level expr_size clause_size) (out-roll-Expr x))

catch_length : (n : Option (List ℕ)) → length (catch_bytes n) ≡ catch_size n
catch_length None = refl
catch_length (Some x) = omega arith

clause_rolled : (c : Clause) → length (expr_bytes c.body) ≡ expr_size c.body → length (clause_bytes c) ≡ clause_size c
clause_rolled c h = length-append (catch_bytes c.name) (expr_bytes c.body) ∙ (let a = catch_length c.name in omega (arith, a, h))

-- the size of an expression is the length of its spelling
pub expr_length : (e : Expr) → length (expr_bytes e) ≡ expr_size e
expr_length = ind-Expr (λ e. length (expr_bytes e) ≡ expr_size e) (λ c. length (clause_bytes c) ≡ clause_size c)
    (λ x y e. expr_rolled x (let P : Expr-F Expr Clause → Type 0 = λ z. length (expr_bytes_level expr_bytes clause_bytes z) ≡ expr_size_level expr_size clause_size z in subst P e (expr_level (λ q. q.0) (λ q. q.1) (λ q. q.0) (λ q. q.1) y)))
    (λ x y e. clause_rolled (roll-Clause x) (let P : Clause-F Expr Clause → Type 0 = λ z. length (expr_bytes z.body) ≡ expr_size z.body in subst P (sym (out-roll-Clause x)) (subst P e y.body.1)))

param_length : (p : Param) → length (param_bytes p) ≡ param_size p
param_length p = length-append (name_bytes p.name) (type_bytes p.ty) ∙ (let a = type_length p.ty in omega (arith, a))

service_length : (s : Svc) → length (service_bytes s) ≡ svc_size s
service_length s =
    let a = all_length type_bytes type_size type_length s.params in
    let b = type_length s.result in
    let c = length-append (length s.params ∷ flat_map type_bytes s.params) (type_bytes s.result) in
    let d = length-append (name_bytes s.name) ((length s.params ∷ flat_map type_bytes s.params) ++ type_bytes s.result) in
    omega (arith, a, b, c, d)

function_length : (f : Fun) → length (function_bytes f) ≡ fun_size f
function_length f =
    let a = all_length param_bytes param_size param_length f.params in
    let b = type_length f.result in
    let x = expr_length f.body in
    let c = length-append (type_bytes f.result) (expr_bytes f.body) in
    let d = length-append (length f.params ∷ flat_map param_bytes f.params) (type_bytes f.result ++ expr_bytes f.body) in
    let g = length-append (name_bytes f.name) ((length f.params ∷ flat_map param_bytes f.params) ++ (type_bytes f.result ++ expr_bytes f.body)) in
    omega (arith, a, b, x, c, d, g)

-- the size of a program's code is the length of its spelling
pub code_length : (p : Program) → length (program_bytes p) ≡ code_size p
unfolding program_bytes code_size
code_length p =
    let a = all_length service_bytes svc_size service_length p.svcs in
    let b = all_length name_bytes name_size (λ n. omega arith) p.exns in
    let c = all_length function_bytes fun_size function_length p.funs in
    let d = length-append (length p.exns ∷ flat_map name_bytes p.exns) (length p.funs ∷ flat_map function_bytes p.funs) in
    let g = length-append (length p.svcs ∷ flat_map service_bytes p.svcs) ((length p.exns ∷ flat_map name_bytes p.exns) ++ (length p.funs ∷ flat_map function_bytes p.funs)) in
    omega (arith, a, b, c, d, g)

values_length : {X : Type 0} (v : X → Value) → ((x : X) → length (value_bytes (v x)) ≡ weight (v x)) → (xs : List X) → length (flat_map value_bytes (map v xs)) ≡ sum_by weight (map v xs)
values_length v h xs = each_length value_bytes weight v h xs

value_level : {X Y : Type 0} (v : X → Value) → ((x : X) → length (value_bytes (v x)) ≡ weight (v x)) → (w : Y → Chunk) → ((y : Y) → length (chunk_bytes (w y)) ≡ chunk_weight (w y)) → (e : Value-F X Y)
    → length (value_bytes_level value_bytes chunk_bytes (map-Value X Y Value Chunk v w e)) ≡ weight_level weight chunk_weight (map-Value X Y Value Chunk v w e)
value_level v h w k (Value-F.Str s) = let f0 = length-append (to_be_bytes w16 (length s)) s in omega (arith, f0)
value_level v h w k (Value-F.Blob s) = let f0 = length-append (to_be_bytes w16 (length s)) s in omega (arith, f0)
value_level v h w k (Value-F.Chunk c) = let f0 = k c in omega (arith, f0)
value_level v h w k (Value-F.List t vs) =
    let f0 = type_length t in
    let f1 = values_length v h vs in
    let f2 = length-append (to_be_bytes w16 (length (map v vs))) (flat_map value_bytes (map v vs)) in
    let f3 = length-append (type_bytes t) (to_be_bytes w16 (length (map v vs)) ++ flat_map value_bytes (map v vs)) in
    omega (arith, f0, f1, f2, f3)
value_level v h w k (Value-F.Tuple es) = let f0 = values_length v h es in omega (arith, f0)
value_level v h w k _ = refl

value_rolled : (x : Value-F Value Chunk) → length (value_bytes_level value_bytes chunk_bytes x) ≡ weight_level weight chunk_weight x → length (value_bytes (roll-Value x)) ≡ weight (roll-Value x)
value_rolled x h =
    ap length (value_bytes_out (roll-Value x) ∙ ap (value_bytes_level value_bytes chunk_bytes) (out-roll-Value x)) ∙ h
    ∙ sym (weight_out (roll-Value x) ∙ ap (weight_level weight chunk_weight) (out-roll-Value x))

chunk_by : (c : Chunk) → length (flat_map value_bytes c.args) ≡ sum_by weight c.args → length (chunk_bytes c) ≡ chunk_weight c
chunk_by c h =
    let a = code_length c.code in
    let d = length-append (name_bytes c.entry) (length c.args ∷ flat_map value_bytes c.args) in
    let g = length-append (program_bytes c.code) (name_bytes c.entry ++ (length c.args ∷ flat_map value_bytes c.args)) in
    let w = chunk_weight_is c in
    omega (arith, a, d, g, h, w)

-- the weight of a value is the length of its spelling
pub value_length : (v : Value) → length (value_bytes v) ≡ weight v
value_length = ind-Value (λ v. length (value_bytes v) ≡ weight v) (λ c. length (chunk_bytes c) ≡ chunk_weight c)
    (λ x y e. value_rolled x (let P : Value-F Value Chunk → Type 0 = λ z. length (value_bytes_level value_bytes chunk_bytes z) ≡ weight_level weight chunk_weight z in subst P e (value_level (λ q. q.0) (λ q. q.1) (λ q. q.0) (λ q. q.1) y)))
    (λ x y e. chunk_by (roll-Chunk x) (let P : Chunk-F Value Chunk → Type 0 = λ z. length (flat_map value_bytes z.args) ≡ sum_by weight z.args in subst P (sym (out-roll-Chunk x)) (subst P e (values_length (λ q. q.0) (λ q. q.1) y.args))))

-- and so is that of a chunk
pub chunk_length : (c : Chunk) → length (chunk_bytes c) ≡ chunk_weight c
chunk_length c = chunk_by c (all_length value_bytes weight value_length c.args)
