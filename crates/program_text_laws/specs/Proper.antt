-- What is printed so that it is read again: names are names, and numbers, texts and counts keep their limits.
use Rattle.std.specs.Prelude.{◌≡◌, ℕ, ℤ, ◌<◌, ◌≤◌, ◌^◌, Bool, List, [], ◌∷◌, length, get_or, Option, Some, None, FitsSigned}
use Rattle.std.specs.Int.{w64}
use Rattle.std.specs.Char.{IsScalar}
use Rattle.std.specs.Str.{IsUtf8}
use Rattle.plan_base.specs.Words.{IsName}
use Rattle.plan_base.specs.declared.name.Name.{Name}
use Rattle.plan_base.specs.declared.ids.Host.{Host}
use Rattle.plan_base.specs.declared.ids.Dev.{Dev}
use Rattle.plan_base.specs.declared.tree.Op.{Op}
use Rattle.plan_base.specs.declared.tree.Ty.{Ty, Ty-F, out-Ty}
use Rattle.plan_base.specs.declared.tree.Expr.{Expr, Expr-F, out-Expr}
use Rattle.plan_base.specs.declared.tree.Clause.{Clause}
use Rattle.plan_base.specs.declared.tree.Svc.{Svc}
use Rattle.plan_base.specs.declared.tree.Param.{Param}
use Rattle.plan_base.specs.declared.tree.Fun.{Fun}
use Rattle.plan_base.specs.declared.tree.Program.{Program}
use Rattle.plan_base.specs.declared.tree.Value.{Value, Value-F, out-Value}
use Rattle.plan_base.specs.Sizes.{type_depth}
use Rattle.plan_lexer.specs.declared.token.Key.{Key}
use Rattle.plan_lexer.specs.declared.token.Key.TheVariants as key

-- the reserved word of a base type
abbrev pub base_key : {X : Type 0} → Ty-F X → Option Key
base_key Ty-F.Unit = Some key.Unit
base_key Ty-F.Bool = Some key.Bool
base_key Ty-F.Int = Some key.Int
base_key Ty-F.Char = Some key.Char
base_key Ty-F.Str = Some key.Str
base_key Ty-F.Blob = Some key.Blob
base_key Ty-F.Host = Some key.Host
base_key Ty-F.Dev = Some key.Dev
base_key Ty-F.Chunk = Some key.Chunk
base_key _ = None

-- a count of parts of a tuple
abbrev pub IsPartCount : ℕ → Type 0
IsPartCount n = (2 ≤ n) × (n ≤ 8)

-- bytes
abbrev pub AreBytes : List ℕ → Type 0
AreBytes bytes = (i : ℕ) → get_or bytes i 0 < 256

mutual
  pub data IsProperType : Ty → Type 0 where
    base : {t : Ty} (k : Key) → base_key (out-Ty t) ≡ Some k → IsProperType t
    list : {t : Ty} (u : Ty) → out-Ty t ≡ Ty-F.List u → IsProperType u → IsProperType t
    tuple : {t : Ty} (ts : List Ty) → out-Ty t ≡ Ty-F.Tuple ts → IsPartCount (length ts) → AreProperTypes ts → IsProperType t

  pub data AreProperTypes : List Ty → Type 0 where
    no_types : AreProperTypes []
    and_type : {t : Ty} {ts : List Ty} → IsProperType t → AreProperTypes ts → AreProperTypes (t ∷ ts)

mutual
  -- a value without a chunk in it
  pub data IsProperValue : Value → Type 0 where
    unit : {v : Value} → out-Value v ≡ Value-F.Unit → IsProperValue v
    bool : {v : Value} (b : Bool) → out-Value v ≡ Value-F.Bool b → IsProperValue v
    int : {v : Value} (z : ℤ) → out-Value v ≡ Value-F.Int z → FitsSigned w64 z → IsProperValue v
    char : {v : Value} (c : ℕ) → out-Value v ≡ Value-F.Char c → IsScalar c → IsProperValue v
    str : {v : Value} (s : List ℕ) → out-Value v ≡ Value-F.Str s → IsUtf8 s → IsProperValue v
    blob : {v : Value} (b : List ℕ) → out-Value v ≡ Value-F.Blob b → AreBytes b → IsProperValue v
    host : {v : Value} (h : Host) → out-Value v ≡ Value-F.Host h → h.0 < 2 ^ 32 → IsProperValue v
    dev : {v : Value} (d : Dev) → out-Value v ≡ Value-F.Dev d → d.0 < 2 ^ 32 → IsProperValue v
    list : {v : Value} (t : Ty) (vs : List Value) → out-Value v ≡ Value-F.List t vs → IsProperType t → AreProperValues vs → IsProperValue v
    tuple : {v : Value} (vs : List Value) → out-Value v ≡ Value-F.Tuple vs → IsPartCount (length vs) → AreProperValues vs → IsProperValue v

  pub data AreProperValues : List Value → Type 0 where
    no_values : AreProperValues []
    and_value : {v : Value} {vs : List Value} → IsProperValue v → AreProperValues vs → AreProperValues (v ∷ vs)

-- a type that isn't too deep to be read
abbrev pub IsReadableType : Ty → Type 0
IsReadableType t = IsProperType t × (type_depth t ≤ 8)

-- a type where there is one, and a name where there is one
abbrev pub IsProperOption : Option Ty → Type 0
IsProperOption (Some t) = IsReadableType t
IsProperOption None = Unit {0}

abbrev pub IsProperCatch : Option Name → Type 0
IsProperCatch (Some x) = IsName x
IsProperCatch None = Unit {0}

mutual
  pub data IsProper : Expr → Type 0 where
    unit : {e : Expr} → out-Expr e ≡ Expr-F.Unit → IsProper e
    bool : {e : Expr} (b : Bool) → out-Expr e ≡ Expr-F.Bool b → IsProper e
    int : {e : Expr} (z : ℤ) → out-Expr e ≡ Expr-F.Int z → FitsSigned w64 z → IsProper e
    char : {e : Expr} (c : ℕ) → out-Expr e ≡ Expr-F.Char c → IsScalar c → IsProper e
    str : {e : Expr} (s : List ℕ) → out-Expr e ≡ Expr-F.Str s → IsUtf8 s → IsProper e
    blob : {e : Expr} (b : List ℕ) → out-Expr e ≡ Expr-F.Blob b → AreBytes b → IsProper e
    host : {e : Expr} (h : Host) → out-Expr e ≡ Expr-F.Host h → h.0 < 2 ^ 32 → IsProper e
    dev : {e : Expr} (d : Dev) → out-Expr e ≡ Expr-F.Dev d → d.0 < 2 ^ 32 → IsProper e
    nil : {e : Expr} (t : Option Ty) → out-Expr e ≡ Expr-F.Nil t → IsProperOption t → IsProper e
    var : {e : Expr} (x : Name) → out-Expr e ≡ Expr-F.Var x → IsName x → IsProper e
    tuple : {e : Expr} (es : List Expr) → out-Expr e ≡ Expr-F.Tuple es → IsPartCount (length es) → AreProper es → IsProper e
    call : {e : Expr} (f : Name) (es : List Expr) → out-Expr e ≡ Expr-F.Call f es → IsName f → length es ≤ 8 → AreProper es → IsProper e
    choice : {e : Expr} (c a b : Expr) → out-Expr e ≡ Expr-F.If c a b → IsProper c → IsProper a → IsProper b → IsProper e
    binder : {e : Expr} (x : Name) (t : Ty) (a b : Expr) → out-Expr e ≡ Expr-F.Let x t a b → IsName x → IsReadableType t → IsProper a → IsProper b → IsProper e
    sequence : {e : Expr} (a b : Expr) → out-Expr e ≡ Expr-F.Then a b → IsProper a → IsProper b → IsProper e
    both : {e : Expr} (a b : Expr) → out-Expr e ≡ Expr-F.And a b → IsProper a → IsProper b → IsProper e
    either : {e : Expr} (a b : Expr) → out-Expr e ≡ Expr-F.Or a b → IsProper a → IsProper b → IsProper e
    negation : {e : Expr} (a : Expr) → out-Expr e ≡ Expr-F.Not a → IsProper a → IsProper e
    binary : {e : Expr} (o : Op) (a b : Expr) → out-Expr e ≡ Expr-F.Binary o a b → IsProper a → IsProper b → IsProper e
    part : {e : Expr} (i : ℕ) (a : Expr) → out-Expr e ≡ Expr-F.Part i a → 1 ≤ i → i ≤ 8 → IsProper a → IsProper e
    raising : {e : Expr} (x : Name) (t : Option Ty) → out-Expr e ≡ Expr-F.Raise x t → IsName x → IsProperOption t → IsProper e
    handling : {e : Expr} (a : Expr) (cs : List Clause) → out-Expr e ≡ Expr-F.Try a cs → IsProper a → 1 ≤ length cs → length cs ≤ 8
        → AreProperClauses cs → IsProper e
    fold_left : {e : Expr} (f : Name) (a l : Expr) → out-Expr e ≡ Expr-F.Foldl f a l → IsName f → IsProper a → IsProper l → IsProper e
    fold_right : {e : Expr} (f : Name) (a l : Expr) → out-Expr e ≡ Expr-F.Foldr f a l → IsName f → IsProper a → IsProper l → IsProper e
    packing : {e : Expr} (f : Name) (es : List Expr) → out-Expr e ≡ Expr-F.ChunkOf f es → IsName f → length es ≤ 8 → AreProper es → IsProper e
    evaluation : {e : Expr} (c : Expr) → out-Expr e ≡ Expr-F.Eval c → IsProper c → IsProper e
    remote : {e : Expr} (c h n : Expr) (r : Name) → out-Expr e ≡ Expr-F.OnRemote c h n r → IsProper c → IsProper h → IsProper n → IsName r → IsProper e
    neighbour : {e : Expr} (c h n d : Expr) → out-Expr e ≡ Expr-F.OnNeighbor c h n d → IsProper c → IsProper h → IsProper n → IsProper d → IsProper e

  pub data AreProper : List Expr → Type 0 where
    no_parts : AreProper []
    and_part : {e : Expr} {es : List Expr} → IsProper e → AreProper es → AreProper (e ∷ es)

  -- `_` stands only in the last clause
  pub data AreProperClauses : List Clause → Type 0 where
    no_clauses : AreProperClauses []
    last_clause : {c : Clause} → IsProperCatch c.name → IsProper c.body → AreProperClauses (c ∷ [])
    and_clause : {c : Clause} {cs : List Clause} (x : Name) → c.name ≡ Some x → IsName x → IsProper c.body → AreProperClauses cs → AreProperClauses (c ∷ cs)

-- each item is proper
abbrev pub AllProper : {X : Type 0} → (X → Type 0) → List X → Type 0
AllProper P [] = Unit {0}
AllProper P (x ∷ xs) = P x × AllProper P xs

-- services, exceptions and functions
pub record IsProperSvc (s : Svc) : Type 0 where
  pub name : IsName s.name
  pub params : AllProper IsReadableType s.params
  pub result : IsReadableType s.result

pub record IsProperParam (p : Param) : Type 0 where
  pub name : IsName p.name
  pub ty : IsReadableType p.ty

pub record IsProperFun (f : Fun) : Type 0 where
  pub name : IsName f.name
  pub params : AllProper IsProperParam f.params
  pub result : IsReadableType f.result
  pub body : IsProper f.body

pub record IsProperProgram (p : Program) : Type 0 where
  pub svcs : AllProper IsProperSvc p.svcs
  pub exns : AllProper IsName p.exns
  pub funs : AllProper IsProperFun p.funs
