-- The typing rules, one for each form: what type an expression has, which programs are typed, and which values have a type.
use Rattle.std.specs.Prelude.{◌≡◌, ℕ, ℤ, ◌≤◌, ◌+◌, ◌++◌, Bool, true, List, [], ◌∷◌, map, take, slice_get, Option, Some, None}
use Rattle.plan_base.specs.declared.name.Name.{Name}
use Rattle.plan_base.specs.declared.text.Text.{Text}
use Rattle.plan_base.specs.declared.bytes.Bytes.{Bytes}
use Rattle.plan_base.specs.declared.ids.Host.{Host}
use Rattle.plan_base.specs.declared.ids.Dev.{Dev}
use Rattle.plan_base.specs.declared.prim.Primitive.{Primitive}
use Rattle.plan_base.specs.declared.tree.Op.{Op}
use Rattle.plan_base.specs.declared.tree.Ty.{Ty}
use Rattle.plan_base.specs.declared.tree.Ty as ty
use Rattle.plan_base.specs.declared.tree.Expr.{Expr, Expr-F, out-Expr}
use Rattle.plan_base.specs.declared.tree.Clause.{Clause}
use Rattle.plan_base.specs.declared.tree.Param.{Param}
use Rattle.plan_base.specs.declared.tree.Svc.{Svc}
use Rattle.plan_base.specs.declared.tree.Fun.{Fun}
use Rattle.plan_base.specs.declared.tree.Program.{Program}
use Rattle.plan_base.specs.declared.tree.Value.{Value, Value-F, out-Value}
use Rattle.plan_base.specs.declared.tree.Chunk.{Chunk}
use Rattle.plan_base.specs.Trees.{ExprLayer}
use Rattle.plan_base.specs.Sizes.{type_depth, code_size, weight, nesting, chunk_weight, chunk_nesting}
use Rattle.plan_types_spec.specs.TypingNames.{place_of, service_of, binds, binding, param_types, prim_of, of_list, takes, makes, built_in}
use Rattle.plan_types_spec.specs.TypingNames.{is_exception, may_catch, arithmetic, joining, equality, ordering, listing, kind_of, is_joined}
use Rattle.plan_types_spec.specs.TypingNames.{is_ordered, part_of, are_new, are_callable}

-- the parameters and bindings that an expression sees, the innermost last
abbrev pub Ctx : Type 0
Ctx = List Param

-- the type of a literal; other forms have none of their own
abbrev pub literal_type : ExprLayer → Option Ty
literal_type Expr-F.Unit = Some ty.Unit
literal_type (Expr-F.Bool b) = Some ty.Bool
literal_type (Expr-F.Int n) = Some ty.Int
literal_type (Expr-F.Char c) = Some ty.Char
literal_type (Expr-F.Str s) = Some ty.Str
literal_type (Expr-F.Blob b) = Some ty.Blob
literal_type (Expr-F.Host h) = Some ty.Host
literal_type (Expr-F.Dev d) = Some ty.Dev
literal_type _ = None

-- a type that no part of is too deep
abbrev pub IsShallow : Ty → Type 0
IsShallow t = type_depth t ≤ 8

module _ (code : Program) where
  mutual
    -- `HasTy seen c e t`: below the first `seen` functions and under the bindings c, e has the type t
    pub data HasTy : ℕ → Ctx → Expr → Ty → Type 0 where
      literal : {seen : ℕ} {c : Ctx} {e : Expr} {t : Ty} → literal_type (out-Expr e) ≡ Some t → HasTy seen c e t
      variable : {seen : ℕ} {c : Ctx} {e : Expr} {t : Ty} (x : Name) → out-Expr e ≡ Expr-F.Var x → binding x c ≡ Some t → HasTy seen c e t
      empty : {seen : ℕ} {c : Ctx} {e : Expr} {t : Ty} (u : Ty) → out-Expr e ≡ Expr-F.Nil (Some u) → t ≡ ty.List u → IsShallow t → HasTy seen c e t
      raising : {seen : ℕ} {c : Ctx} {e : Expr} {t : Ty} (x : Name) → out-Expr e ≡ Expr-F.Raise x (Some t) → is_exception code x ≡ true
          → IsShallow t → HasTy seen c e t
      tuple : {seen : ℕ} {c : Ctx} {e : Expr} {t : Ty} (es : List Expr) (ts : List Ty) → out-Expr e ≡ Expr-F.Tuple es → HaveTys seen c es ts
          → t ≡ ty.Tuple ts → IsShallow t → HasTy seen c e t
      part : {seen : ℕ} {c : Ctx} {e : Expr} {t : Ty} (i : ℕ) (a : Expr) (ts : List Ty) → out-Expr e ≡ Expr-F.Part i a
          → HasTy seen c a (ty.Tuple ts) → part_of i ts ≡ Some t → HasTy seen c e t
      of_items : {seen : ℕ} {c : Ctx} {e : Expr} {t : Ty} (f : Name) (a : Expr) (p : Primitive) (u : Ty)
          → out-Expr e ≡ Expr-F.Call f (a ∷ []) → prim_of f ≡ Some p → HasTy seen c a (ty.List u) → of_list p u ≡ Some t → HasTy seen c e t
      primitive : {seen : ℕ} {c : Ctx} {e : Expr} {t : Ty} (f : Name) (es : List Expr) (p : Primitive) (ts : List Ty)
          → out-Expr e ≡ Expr-F.Call f es → prim_of f ≡ Some p → takes p ≡ Some ts → HaveTys seen c es ts → t ≡ makes p → HasTy seen c e t
      serving : {seen : ℕ} {c : Ctx} {e : Expr} {t : Ty} (f : Name) (es : List Expr) (d : Svc) → out-Expr e ≡ Expr-F.Call f es
          → prim_of f ≡ None → service_of f code.svcs ≡ Some d → HaveTys seen c es d.params → t ≡ d.result → HasTy seen c e t
      call : {seen : ℕ} {c : Ctx} {e : Expr} {t : Ty} (f : Name) (es : List Expr) (at : ℕ) (d : Fun) → out-Expr e ≡ Expr-F.Call f es
          → prim_of f ≡ None → service_of f code.svcs ≡ None → place_of f (take seen code.funs) ≡ Some at → slice_get code.funs at ≡ Some d
          → HaveTys seen c es (param_types d.params) → t ≡ d.result → HasTy seen c e t
      choice : {seen : ℕ} {c : Ctx} {e : Expr} {t : Ty} (a b d : Expr) → out-Expr e ≡ Expr-F.If a b d → HasTy seen c a ty.Bool
          → HasTy seen c b t → HasTy seen c d t → HasTy seen c e t
      binder : {seen : ℕ} {c : Ctx} {e : Expr} {t : Ty} (x : Name) (u : Ty) (a b : Expr) → out-Expr e ≡ Expr-F.Let x u a b
          → HasTy seen c a u → HasTy seen (c ++ binds x u ∷ []) b t → HasTy seen c e t
      sequence : {seen : ℕ} {c : Ctx} {e : Expr} {t : Ty} (a b : Expr) → out-Expr e ≡ Expr-F.Then a b → HasTy seen c a ty.Unit
          → HasTy seen c b t → HasTy seen c e t
      both : {seen : ℕ} {c : Ctx} {e : Expr} {t : Ty} (a b : Expr) → out-Expr e ≡ Expr-F.And a b → HasTy seen c a ty.Bool
          → HasTy seen c b ty.Bool → t ≡ ty.Bool → HasTy seen c e t
      either : {seen : ℕ} {c : Ctx} {e : Expr} {t : Ty} (a b : Expr) → out-Expr e ≡ Expr-F.Or a b → HasTy seen c a ty.Bool
          → HasTy seen c b ty.Bool → t ≡ ty.Bool → HasTy seen c e t
      negation : {seen : ℕ} {c : Ctx} {e : Expr} {t : Ty} (a : Expr) → out-Expr e ≡ Expr-F.Not a → HasTy seen c a ty.Bool → t ≡ ty.Bool → HasTy seen c e t
      calculation : {seen : ℕ} {c : Ctx} {e : Expr} {t : Ty} (o : Op) (a b : Expr) → out-Expr e ≡ Expr-F.Binary o a b
          → kind_of o ≡ arithmetic → HasTy seen c a ty.Int → HasTy seen c b ty.Int → t ≡ ty.Int → HasTy seen c e t
      join : {seen : ℕ} {c : Ctx} {e : Expr} {t : Ty} (o : Op) (a b : Expr) → out-Expr e ≡ Expr-F.Binary o a b → kind_of o ≡ joining
          → HasTy seen c a t → is_joined t ≡ true → HasTy seen c b t → HasTy seen c e t
      comparison : {seen : ℕ} {c : Ctx} {e : Expr} {t : Ty} (o : Op) (a b : Expr) (u : Ty) → out-Expr e ≡ Expr-F.Binary o a b
          → kind_of o ≡ equality → HasTy seen c a u → HasTy seen c b u → t ≡ ty.Bool → HasTy seen c e t
      order : {seen : ℕ} {c : Ctx} {e : Expr} {t : Ty} (o : Op) (a b : Expr) (u : Ty) → out-Expr e ≡ Expr-F.Binary o a b
          → kind_of o ≡ ordering → HasTy seen c a u → is_ordered u ≡ true → HasTy seen c b u → t ≡ ty.Bool → HasTy seen c e t
      prefix : {seen : ℕ} {c : Ctx} {e : Expr} {t : Ty} (o : Op) (a b : Expr) (u : Ty) → out-Expr e ≡ Expr-F.Binary o a b
          → kind_of o ≡ listing → HasTy seen c a u → HasTy seen c b (ty.List u) → t ≡ ty.List u → IsShallow t → HasTy seen c e t
      handling : {seen : ℕ} {c : Ctx} {e : Expr} {t : Ty} (a : Expr) (ks : List Clause) → out-Expr e ≡ Expr-F.Try a ks → HasTy seen c a t
          → ClausesHaveTy seen c ks t → HasTy seen c e t
      fold_left : {seen : ℕ} {c : Ctx} {e : Expr} {t : Ty} (f : Name) (a l : Expr) (at : ℕ) (d : Fun) (u : Ty)
          → out-Expr e ≡ Expr-F.Foldl f a l → place_of f (take seen code.funs) ≡ Some at → slice_get code.funs at ≡ Some d
          → param_types d.params ≡ t ∷ u ∷ [] → d.result ≡ t → HasTy seen c a t → HasTy seen c l (ty.List u) → HasTy seen c e t
      fold_right : {seen : ℕ} {c : Ctx} {e : Expr} {t : Ty} (f : Name) (a l : Expr) (at : ℕ) (d : Fun) (u : Ty)
          → out-Expr e ≡ Expr-F.Foldr f a l → place_of f (take seen code.funs) ≡ Some at → slice_get code.funs at ≡ Some d
          → param_types d.params ≡ u ∷ t ∷ [] → d.result ≡ t → HasTy seen c a t → HasTy seen c l (ty.List u) → HasTy seen c e t
      packing : {seen : ℕ} {c : Ctx} {e : Expr} {t : Ty} (f : Name) (es : List Expr) (at : ℕ) (d : Fun) → out-Expr e ≡ Expr-F.ChunkOf f es
          → place_of f code.funs ≡ Some at → slice_get code.funs at ≡ Some d → HaveTys seen c es (param_types d.params) → t ≡ ty.Chunk
          → HasTy seen c e t
      evaluation : {seen : ℕ} {c : Ctx} {e : Expr} {t : Ty} (a : Expr) → out-Expr e ≡ Expr-F.Eval a → HasTy seen c a ty.Chunk → t ≡ ty.Unit → HasTy seen c e t
      remote : {seen : ℕ} {c : Ctx} {e : Expr} {t : Ty} (a h n : Expr) (r : Name) → out-Expr e ≡ Expr-F.OnRemote a h n r
          → HasTy seen c a ty.Chunk → HasTy seen c h ty.Host → HasTy seen c n ty.Int → t ≡ ty.Unit → HasTy seen c e t
      neighbour : {seen : ℕ} {c : Ctx} {e : Expr} {t : Ty} (a h n d : Expr) → out-Expr e ≡ Expr-F.OnNeighbor a h n d
          → HasTy seen c a ty.Chunk → HasTy seen c h ty.Host → HasTy seen c n ty.Int → HasTy seen c d ty.Dev → t ≡ ty.Unit
          → HasTy seen c e t

    -- expressions in order have types in order
    pub data HaveTys : ℕ → Ctx → List Expr → List Ty → Type 0 where
      no_parts : {seen : ℕ} {c : Ctx} → HaveTys seen c [] []
      and_part : {seen : ℕ} {c : Ctx} {e : Expr} {es : List Expr} {t : Ty} {ts : List Ty} → HasTy seen c e t → HaveTys seen c es ts
          → HaveTys seen c (e ∷ es) (t ∷ ts)

    -- each clause catches a known exception or any, and gives the type t
    pub data ClausesHaveTy : ℕ → Ctx → List Clause → Ty → Type 0 where
      no_clauses : {seen : ℕ} {c : Ctx} {t : Ty} → ClausesHaveTy seen c [] t
      and_clause : {seen : ℕ} {c : Ctx} {k : Clause} {ks : List Clause} {t : Ty} → may_catch code k.name ≡ true → HasTy seen c k.body t
          → ClausesHaveTy seen c ks t → ClausesHaveTy seen c (k ∷ ks) t

-- the names of services and functions, in the order of the tree
abbrev pub called_names : Program → List Name
called_names code = map (λ d. d.name) code.svcs ++ map (λ d. d.name) code.funs

-- the names of parameters
abbrev pub param_names : List Param → List Name
param_names ps = map (λ p. p.name) ps

-- No service or function has the name of a primitive or of an earlier one, no exception that of a built-in or earlier
-- one, and no function has two parameters of one name.
pub record HasOwnNames (code : Program) : Type 0 where
  pub calls : are_callable [] (called_names code) ≡ true
  pub exns : are_new built_in code.exns ≡ true
  pub params : (k : ℕ) (d : Fun) → slice_get code.funs k ≡ Some d → are_new [] (param_names d.params) ≡ true

-- A typed program: its names are its own, each body has its function's result type below the earlier functions and under
-- the parameters, and the code isn't too large.
pub record Typed (code : Program) : Type 0 where
  pub names : HasOwnNames code
  pub bodies : (k : ℕ) (d : Fun) → slice_get code.funs k ≡ Some d → HasTy code k d.params d.body d.result
  pub small : code_size code ≤ 16000

mutual
  -- the value v has the type t
  pub data HasType : Value → Ty → Type 0 where
    unit : {v : Value} {t : Ty} → out-Value v ≡ Value-F.Unit → t ≡ ty.Unit → HasType v t
    bool : {v : Value} {t : Ty} (b : Bool) → out-Value v ≡ Value-F.Bool b → t ≡ ty.Bool → HasType v t
    int : {v : Value} {t : Ty} (n : ℤ) → out-Value v ≡ Value-F.Int n → t ≡ ty.Int → HasType v t
    char : {v : Value} {t : Ty} (n : ℕ) → out-Value v ≡ Value-F.Char n → t ≡ ty.Char → HasType v t
    str : {v : Value} {t : Ty} (s : Text) → out-Value v ≡ Value-F.Str s → t ≡ ty.Str → HasType v t
    blob : {v : Value} {t : Ty} (b : Bytes) → out-Value v ≡ Value-F.Blob b → t ≡ ty.Blob → HasType v t
    host : {v : Value} {t : Ty} (h : Host) → out-Value v ≡ Value-F.Host h → t ≡ ty.Host → HasType v t
    dev : {v : Value} {t : Ty} (d : Dev) → out-Value v ≡ Value-F.Dev d → t ≡ ty.Dev → HasType v t
    list : {v : Value} {t : Ty} (u : Ty) (vs : List Value) → out-Value v ≡ Value-F.List u vs → t ≡ ty.List u → AllHaveType u vs → HasType v t
    tuple : {v : Value} {t : Ty} (vs : List Value) (ts : List Ty) → out-Value v ≡ Value-F.Tuple vs → t ≡ ty.Tuple ts → HaveTypes vs ts → HasType v t
    chunk : {v : Value} {t : Ty} (k : Chunk) → out-Value v ≡ Value-F.Chunk k → t ≡ ty.Chunk → IsTypedChunk k → HasType v t

  -- values in order have types in order
  pub data HaveTypes : List Value → List Ty → Type 0 where
    no_values : HaveTypes [] []
    and_value : {v : Value} {vs : List Value} {t : Ty} {ts : List Ty} → HasType v t → HaveTypes vs ts → HaveTypes (v ∷ vs) (t ∷ ts)

  -- all values have one type
  pub data AllHaveType : Ty → List Value → Type 0 where
    no_items : {t : Ty} → AllHaveType t []
    and_item : {t : Ty} {v : Value} {vs : List Value} → HasType v t → AllHaveType t vs → AllHaveType t (v ∷ vs)

  -- a chunk's code is typed, its entry is one of the functions, its arguments have the entry's types, and it is within the limits
  pub data IsTypedChunk : Chunk → Type 0 where
    within : {k : Chunk} (at : ℕ) (d : Fun) → Typed k.code → place_of k.entry k.code.funs ≡ Some at → slice_get k.code.funs at ≡ Some d
        → HaveTypes k.args (param_types d.params) → chunk_nesting k ≤ 4 → 1 + chunk_weight k ≤ 16384 → IsTypedChunk k

-- a value within the limits of size
pub record IsSmall (v : Value) : Type 0 where
  pub nests : nesting v ≤ 4
  pub weighs : weight v ≤ 16384

-- values that are each within the limits of size
abbrev pub AreSmall : List Value → Type 0
AreSmall [] = Unit {0}
AreSmall (v ∷ vs) = IsSmall v × AreSmall vs
