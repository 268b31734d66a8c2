-- How the types of `[]` and `raise` that are missing in a draft are taken from the wanted types, and nothing else changes.
use Rattle.std.specs.Prelude.{◌≡◌, ℕ, ◌+◌, ◌++◌, true, List, [], ◌∷◌, length, slice_get, Option, Some, None, option_and_then}
use Rattle.plan_base.specs.declared.name.Name.{Name}
use Rattle.plan_base.specs.declared.prim.Primitive.{Primitive}
use Rattle.plan_base.specs.declared.tree.Op.{Op}
use Rattle.plan_base.specs.declared.tree.Ty.{Ty}
use Rattle.plan_base.specs.declared.tree.Ty as ty
use Rattle.plan_base.specs.declared.tree.Expr.{Expr, Expr-F, out-Expr}
use Rattle.plan_base.specs.declared.tree.Expr as x
use Rattle.plan_base.specs.declared.tree.Clause.{Clause}
use Rattle.plan_base.specs.declared.tree.Svc.{Svc}
use Rattle.plan_base.specs.declared.tree.Fun.{Fun}
use Rattle.plan_base.specs.declared.tree.Program.{Program}
use Rattle.plan_types_spec.specs.Typing.{Ctx, literal_type, IsShallow}
use Rattle.plan_types_spec.specs.TypingNames.{service_of, binds, binding, param_types, prim_of, of_list, takes, makes, is_exception}
use Rattle.plan_types_spec.specs.TypingNames.{may_catch, arithmetic, joining, equality, ordering, listing, kind_of, is_joined, is_ordered}
use Rattle.plan_types_spec.specs.TypingNames.{part_of}
use Rattle.plan_types_spec.specs.TypingOrder.{items_of, parts_of, want_at, fun_of, earlier}

-- a type that is as wanted, where one is wanted
abbrev pub Suits : Option Ty → Ty → Type 0
Suits None t = Unit {0}
Suits (Some w) t = w ≡ t

module _ (code : Program) where
  mutual
    -- `Becomes seen c want d e t`: below the first `seen` functions and under the bindings c, the draft d, of which the type
    -- `want` may be wanted, becomes the expression e of the type t
    pub data Becomes : ℕ → Ctx → Option Ty → Expr → Expr → Ty → Type 0 where
      literal : {seen : ℕ} {c : Ctx} {want : Option Ty} {d e : Expr} {t : Ty} → literal_type (out-Expr d) ≡ Some t → e ≡ d → Suits want t
          → Becomes seen c want d e t
      variable : {seen : ℕ} {c : Ctx} {want : Option Ty} {d e : Expr} {t : Ty} (n : Name) → out-Expr d ≡ Expr-F.Var n → binding n c ≡ Some t
          → e ≡ d → Suits want t → Becomes seen c want d e t
      empty : {seen : ℕ} {c : Ctx} {want : Option Ty} {d e : Expr} {t : Ty} (u : Ty) → out-Expr d ≡ Expr-F.Nil (Some u) → t ≡ ty.List u
          → IsShallow t → e ≡ d → Suits want t → Becomes seen c want d e t
      empty_filled : {seen : ℕ} {c : Ctx} {want : Option Ty} {d e : Expr} {t : Ty} (u : Ty) → out-Expr d ≡ Expr-F.Nil None → t ≡ ty.List u
          → IsShallow t → e ≡ x.Nil (Some u) → want ≡ Some t → Becomes seen c want d e t
      raising : {seen : ℕ} {c : Ctx} {want : Option Ty} {d e : Expr} {t : Ty} (n : Name) → out-Expr d ≡ Expr-F.Raise n (Some t)
          → is_exception code n ≡ true → IsShallow t → e ≡ d → Suits want t → Becomes seen c want d e t
      raising_filled : {seen : ℕ} {c : Ctx} {want : Option Ty} {d e : Expr} {t : Ty} (n : Name) → out-Expr d ≡ Expr-F.Raise n None
          → is_exception code n ≡ true → IsShallow t → e ≡ x.Raise n (Some t) → want ≡ Some t → Becomes seen c want d e t
      tuple : {seen : ℕ} {c : Ctx} {want : Option Ty} {d e : Expr} {t : Ty} (ds es : List Expr) (ts : List Ty)
          → out-Expr d ≡ Expr-F.Tuple ds → PartsBecome seen c (option_and_then (parts_of (length ds)) want) 0 ds es ts → t ≡ ty.Tuple ts
          → IsShallow t → e ≡ x.Tuple es → Suits want t → Becomes seen c want d e t
      part : {seen : ℕ} {c : Ctx} {want : Option Ty} {d e : Expr} {t : Ty} (i : ℕ) (a a' : Expr) (ts : List Ty)
          → out-Expr d ≡ Expr-F.Part i a → Becomes seen c None a a' (ty.Tuple ts) → part_of i ts ≡ Some t → e ≡ x.Part i a' → Suits want t
          → Becomes seen c want d e t
      of_items : {seen : ℕ} {c : Ctx} {want : Option Ty} {d e : Expr} {t : Ty} (f : Name) (a a' : Expr) (p : Primitive) (u : Ty)
          → out-Expr d ≡ Expr-F.Call f (a ∷ []) → prim_of f ≡ Some p → Becomes seen c None a a' (ty.List u) → of_list p u ≡ Some t
          → e ≡ x.Call f (a' ∷ []) → Suits want t → Becomes seen c want d e t
      primitive : {seen : ℕ} {c : Ctx} {want : Option Ty} {d e : Expr} {t : Ty} (f : Name) (ds es : List Expr) (p : Primitive)
          (ts : List Ty)
          → out-Expr d ≡ Expr-F.Call f ds → prim_of f ≡ Some p → takes p ≡ Some ts → PartsBecome seen c (Some ts) 0 ds es ts → t ≡ makes p
          → e ≡ x.Call f es → Suits want t → Becomes seen c want d e t
      serving : {seen : ℕ} {c : Ctx} {want : Option Ty} {d e : Expr} {t : Ty} (f : Name) (ds es : List Expr) (s : Svc)
          → out-Expr d ≡ Expr-F.Call f ds → prim_of f ≡ None → service_of f code.svcs ≡ Some s
          → PartsBecome seen c (Some s.params) 0 ds es s.params → t ≡ s.result → e ≡ x.Call f es → Suits want t → Becomes seen c want d e t
      call : {seen : ℕ} {c : Ctx} {want : Option Ty} {d e : Expr} {t : Ty} (f : Name) (ds es : List Expr) (g : Fun)
          → out-Expr d ≡ Expr-F.Call f ds → prim_of f ≡ None → service_of f code.svcs ≡ None → earlier code seen f ≡ Some g
          → PartsBecome seen c (Some (param_types g.params)) 0 ds es (param_types g.params) → t ≡ g.result → e ≡ x.Call f es → Suits want t
          → Becomes seen c want d e t
      choice : {seen : ℕ} {c : Ctx} {want : Option Ty} {d e : Expr} {t : Ty} (p a b p' a' b' : Expr) → out-Expr d ≡ Expr-F.If p a b
          → Becomes seen c (Some ty.Bool) p p' ty.Bool → Becomes seen c want a a' t → Becomes seen c (Some t) b b' t → e ≡ x.If p' a' b'
          → Becomes seen c want d e t
      binder : {seen : ℕ} {c : Ctx} {want : Option Ty} {d e : Expr} {t : Ty} (n : Name) (u : Ty) (a b a' b' : Expr)
          → out-Expr d ≡ Expr-F.Let n u a b → Becomes seen c (Some u) a a' u → Becomes seen (c ++ binds n u ∷ []) want b b' t
          → e ≡ x.Let n u a' b' → Becomes seen c want d e t
      sequence : {seen : ℕ} {c : Ctx} {want : Option Ty} {d e : Expr} {t : Ty} (a b a' b' : Expr) → out-Expr d ≡ Expr-F.Then a b
          → Becomes seen c (Some ty.Unit) a a' ty.Unit → Becomes seen c want b b' t → e ≡ x.Then a' b' → Becomes seen c want d e t
      both : {seen : ℕ} {c : Ctx} {want : Option Ty} {d e : Expr} {t : Ty} (a b a' b' : Expr) → out-Expr d ≡ Expr-F.And a b
          → Becomes seen c (Some ty.Bool) a a' ty.Bool → Becomes seen c (Some ty.Bool) b b' ty.Bool → t ≡ ty.Bool → e ≡ x.And a' b'
          → Suits want t → Becomes seen c want d e t
      either : {seen : ℕ} {c : Ctx} {want : Option Ty} {d e : Expr} {t : Ty} (a b a' b' : Expr) → out-Expr d ≡ Expr-F.Or a b
          → Becomes seen c (Some ty.Bool) a a' ty.Bool → Becomes seen c (Some ty.Bool) b b' ty.Bool → t ≡ ty.Bool → e ≡ x.Or a' b'
          → Suits want t → Becomes seen c want d e t
      negation : {seen : ℕ} {c : Ctx} {want : Option Ty} {d e : Expr} {t : Ty} (a a' : Expr) → out-Expr d ≡ Expr-F.Not a
          → Becomes seen c (Some ty.Bool) a a' ty.Bool → t ≡ ty.Bool → e ≡ x.Not a' → Suits want t → Becomes seen c want d e t
      calculation : {seen : ℕ} {c : Ctx} {want : Option Ty} {d e : Expr} {t : Ty} (o : Op) (a b a' b' : Expr)
          → out-Expr d ≡ Expr-F.Binary o a b → kind_of o ≡ arithmetic → Becomes seen c (Some ty.Int) a a' ty.Int
          → Becomes seen c (Some ty.Int) b b' ty.Int → t ≡ ty.Int → e ≡ x.Binary o a' b' → Suits want t → Becomes seen c want d e t
      join : {seen : ℕ} {c : Ctx} {want : Option Ty} {d e : Expr} {t : Ty} (o : Op) (a b a' b' : Expr) → out-Expr d ≡ Expr-F.Binary o a b
          → kind_of o ≡ joining → Becomes seen c None a a' t → is_joined t ≡ true → Becomes seen c (Some t) b b' t → e ≡ x.Binary o a' b'
          → Suits want t → Becomes seen c want d e t
      comparison : {seen : ℕ} {c : Ctx} {want : Option Ty} {d e : Expr} {t : Ty} (o : Op) (a b a' b' : Expr) (u : Ty)
          → out-Expr d ≡ Expr-F.Binary o a b → kind_of o ≡ equality → Becomes seen c None a a' u → Becomes seen c (Some u) b b' u
          → t ≡ ty.Bool → e ≡ x.Binary o a' b' → Suits want t → Becomes seen c want d e t
      order : {seen : ℕ} {c : Ctx} {want : Option Ty} {d e : Expr} {t : Ty} (o : Op) (a b a' b' : Expr) (u : Ty)
          → out-Expr d ≡ Expr-F.Binary o a b → kind_of o ≡ ordering → Becomes seen c None a a' u → is_ordered u ≡ true
          → Becomes seen c (Some u) b b' u → t ≡ ty.Bool → e ≡ x.Binary o a' b' → Suits want t → Becomes seen c want d e t
      prefix : {seen : ℕ} {c : Ctx} {want : Option Ty} {d e : Expr} {t : Ty} (o : Op) (a b a' b' : Expr) (u : Ty)
          → out-Expr d ≡ Expr-F.Binary o a b → kind_of o ≡ listing → Becomes seen c (option_and_then items_of want) a a' u
          → Becomes seen c (Some (ty.List u)) b b' (ty.List u) → t ≡ ty.List u → IsShallow t → e ≡ x.Binary o a' b' → Suits want t
          → Becomes seen c want d e t
      handling : {seen : ℕ} {c : Ctx} {want : Option Ty} {d e : Expr} {t : Ty} (a a' : Expr) (ks ks' : List Clause)
          → out-Expr d ≡ Expr-F.Try a ks → Becomes seen c want a a' t → ClausesBecome seen c t ks ks' → e ≡ x.Try a' ks'
          → Becomes seen c want d e t
      fold_left : {seen : ℕ} {c : Ctx} {want : Option Ty} {d e : Expr} {t : Ty} (f : Name) (a l a' l' : Expr) (g : Fun) (u : Ty)
          → out-Expr d ≡ Expr-F.Foldl f a l → earlier code seen f ≡ Some g → param_types g.params ≡ t ∷ u ∷ [] → g.result ≡ t
          → Becomes seen c (Some t) a a' t → Becomes seen c (Some (ty.List u)) l l' (ty.List u) → e ≡ x.Foldl f a' l' → Suits want t
          → Becomes seen c want d e t
      fold_right : {seen : ℕ} {c : Ctx} {want : Option Ty} {d e : Expr} {t : Ty} (f : Name) (a l a' l' : Expr) (g : Fun) (u : Ty)
          → out-Expr d ≡ Expr-F.Foldr f a l → earlier code seen f ≡ Some g → param_types g.params ≡ u ∷ t ∷ [] → g.result ≡ t
          → Becomes seen c (Some t) a a' t → Becomes seen c (Some (ty.List u)) l l' (ty.List u) → e ≡ x.Foldr f a' l' → Suits want t
          → Becomes seen c want d e t
      packing : {seen : ℕ} {c : Ctx} {want : Option Ty} {d e : Expr} {t : Ty} (f : Name) (ds es : List Expr) (g : Fun)
          → out-Expr d ≡ Expr-F.ChunkOf f ds → fun_of code f ≡ Some g
          → PartsBecome seen c (Some (param_types g.params)) 0 ds es (param_types g.params) → t ≡ ty.Chunk → e ≡ x.ChunkOf f es
          → Suits want t → Becomes seen c want d e t
      evaluation : {seen : ℕ} {c : Ctx} {want : Option Ty} {d e : Expr} {t : Ty} (a a' : Expr) → out-Expr d ≡ Expr-F.Eval a
          → Becomes seen c (Some ty.Chunk) a a' ty.Chunk → t ≡ ty.Unit → e ≡ x.Eval a' → Suits want t → Becomes seen c want d e t
      remote : {seen : ℕ} {c : Ctx} {want : Option Ty} {d e : Expr} {t : Ty} (a h n a' h' n' : Expr) (r : Name)
          → out-Expr d ≡ Expr-F.OnRemote a h n r → Becomes seen c (Some ty.Chunk) a a' ty.Chunk → Becomes seen c (Some ty.Host) h h' ty.Host
          → Becomes seen c (Some ty.Int) n n' ty.Int → t ≡ ty.Unit → e ≡ x.OnRemote a' h' n' r → Suits want t → Becomes seen c want d e t
      neighbour : {seen : ℕ} {c : Ctx} {want : Option Ty} {d e : Expr} {t : Ty} (a h n v a' h' n' v' : Expr)
          → out-Expr d ≡ Expr-F.OnNeighbor a h n v → Becomes seen c (Some ty.Chunk) a a' ty.Chunk
          → Becomes seen c (Some ty.Host) h h' ty.Host → Becomes seen c (Some ty.Int) n n' ty.Int → Becomes seen c (Some ty.Dev) v v' ty.Dev
          → t ≡ ty.Unit → e ≡ x.OnNeighbor a' h' n' v' → Suits want t → Becomes seen c want d e t

    -- parts in order, from the place i on, become expressions with types in order
    pub data PartsBecome : ℕ → Ctx → Option (List Ty) → ℕ → List Expr → List Expr → List Ty → Type 0 where
      no_parts : {seen : ℕ} {c : Ctx} {wants : Option (List Ty)} {i : ℕ} → PartsBecome seen c wants i [] [] []
      and_part : {seen : ℕ} {c : Ctx} {wants : Option (List Ty)} {i : ℕ} {d e : Expr} {ds es : List Expr} {t : Ty} {ts : List Ty}
          → Becomes seen c (want_at wants i) d e t → PartsBecome seen c wants (i + 1) ds es ts
          → PartsBecome seen c wants i (d ∷ ds) (e ∷ es) (t ∷ ts)

    -- clauses of which a type is wanted
    pub data ClausesBecome : ℕ → Ctx → Ty → List Clause → List Clause → Type 0 where
      no_clauses : {seen : ℕ} {c : Ctx} {t : Ty} → ClausesBecome seen c t [] []
      and_clause : {seen : ℕ} {c : Ctx} {t : Ty} {k k' : Clause} {ks ks' : List Clause} → may_catch code k.name ≡ true
          → Becomes seen c (Some t) k.body k'.body t → k'.name ≡ k.name → ClausesBecome seen c t ks ks'
          → ClausesBecome seen c t (k ∷ ks) (k' ∷ ks')

-- a function whose body is filled in under its result type, and which is otherwise the same
pub record FunFills (code : Program) (k : ℕ) (d g : Fun) : Type 0 where
  pub body : Becomes code k d.params (Some d.result) d.body g.body d.result
  pub rest : g ≡ record d { body = g.body }

-- `Fills draft code`: the program differs from the draft only in types of `[]` and `raise` that the wanted types give.
pub record Fills (draft code : Program) : Type 0 where
  pub svcs : code.svcs ≡ draft.svcs
  pub exns : code.exns ≡ draft.exns
  pub count : length code.funs ≡ length draft.funs
  pub funs : (k : ℕ) (d g : Fun) → slice_get draft.funs k ≡ Some d → slice_get code.funs k ≡ Some g → FunFills draft k d g
