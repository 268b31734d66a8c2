-- The checking of a program in its order: the conditions of each form one after the other, so that the first that fails is
-- the answer, with its place. On the way the types of `[]` and `raise` that are missing are taken from the wanted types.
use Rattle.std.specs.Prelude.{ℕ, zero, suc, ◌+◌, ◌==◌, ◌++◌, min, not, ◌||◌, if◌then◌else◌, List, [], ◌∷◌, map, take, length, slice_get}
use Rattle.std.specs.Prelude.{Option, Some, None, is_some, option_and_then, Result, Ok, Err, nat_le}
use Rattle.std.specs.List.{list_any}
use Rattle.plan_base.specs.declared.name.Name.{Name}
use Rattle.plan_base.specs.declared.prim.Primitive.{Primitive}
use Rattle.plan_base.specs.declared.tree.Op.{Op}
use Rattle.plan_base.specs.declared.tree.Ty.{Ty, Ty-F, out-Ty}
use Rattle.plan_base.specs.declared.tree.Ty as ty
use Rattle.plan_base.specs.declared.tree.Expr.{Expr, Expr-F, out-Expr}
use Rattle.plan_base.specs.declared.tree.Expr as x
use Rattle.plan_base.specs.declared.tree.Clause.{Clause}
use Rattle.plan_base.specs.declared.tree.Param.{Param}
use Rattle.plan_base.specs.declared.tree.Svc.{Svc}
use Rattle.plan_base.specs.declared.tree.Fun.{Fun}
use Rattle.plan_base.specs.declared.tree.Program.{Program}
use Rattle.plan_base.specs.declared.tree.Place.TheVariants.{Decl, Node}
use Rattle.plan_types_spec.specs.declared.type_fault.TypeFault.{TypeFault}
use Rattle.plan_types_spec.specs.declared.type_fault.TypeFault.TheVariants.{UnknownName, NotEarlier, Mismatch, Arity, NeedsType, WrongShape}
use Rattle.plan_types_spec.specs.declared.type_fault.TypeFault.TheVariants.{TwiceNamed, TypeTooDeep, CodeTooLarge}
use Rattle.plan_base.specs.Trees.{TyLayer, ExprLayer}
use Rattle.plan_base.specs.SameTypes.{same_type}
use Rattle.plan_base.specs.Sizes.{type_depth, code_size}
use Rattle.plan_types_spec.specs.Typing.{Ctx, param_names}
use Rattle.plan_types_spec.specs.TypingNames.{has_name, place_of, service_of, binds, binding, param_types, prim_of, is_prim, of_list, takes}
use Rattle.plan_types_spec.specs.TypingNames.{makes, built_in, is_exception, may_catch, OpKind, arithmetic, joining, equality, ordering}
use Rattle.plan_types_spec.specs.TypingNames.{listing, kind_of, is_joined, is_ordered, part_of, are_new}

-- A part of the checking: by the number of the next expression, an answer and the number after it, or the first refusal.
abbrev pub Checking : Type 0 → Type 0
Checking A = ℕ → Result (A × ℕ) TypeFault

abbrev pub pure : {A : Type 0} → A → Checking A
pure a = λ n. Ok (a, n)

abbrev pub refuse : {A : Type 0} → TypeFault → Checking A
refuse f = λ n. Err f

abbrev pub after : {A B : Type 0} → Result (A × ℕ) TypeFault → (A → Checking B) → Result (B × ℕ) TypeFault
after (Ok r) k = k r.0 r.1
after (Err f) k = Err f

infixl 10 ◌>>=◌
abbrev pub ◌>>=◌ : {A B : Type 0} → Checking A → (A → Checking B) → Checking B
m >>= k = λ n. after (m n) k

-- what is there, or a refusal
abbrev pub or_refuse : {A : Type 0} → Option A → TypeFault → Checking A
or_refuse (Some a) f = pure a
or_refuse None f = refuse f

-- an expression with its types filled in, and its type
abbrev pub Found : Type 0
Found = Expr × Ty

-- the number after n; numbers of places stop at the last of 32 bits
abbrev pub next : ℕ → ℕ
next n = min (n + 1) 4294967295

-- the type of the items, where a list is wanted
abbrev pub items_of_layer : TyLayer → Option Ty
items_of_layer (Ty-F.List u) = Some u
items_of_layer _ = None

abbrev pub items_of : Ty → Option Ty
items_of t = items_of_layer (out-Ty t)

-- the types of the parts, where a tuple of so many parts is wanted
abbrev pub parts_of_layer : ℕ → TyLayer → Option (List Ty)
parts_of_layer n (Ty-F.Tuple ts) = if length ts == n then Some ts else None
parts_of_layer n _ = None

abbrev pub parts_of : ℕ → Ty → Option (List Ty)
parts_of n t = parts_of_layer n (out-Ty t)

-- the type of a tuple's part with that number
abbrev pub part_in_layer : ℕ → TyLayer → Option Ty
part_in_layer i (Ty-F.Tuple ts) = part_of i ts
part_in_layer i _ = None

abbrev pub part_in : ℕ → Ty → Option Ty
part_in i t = part_in_layer i (out-Ty t)

-- the type that is wanted of the part at that place, where types of parts are wanted
abbrev pub want_at : Option (List Ty) → ℕ → Option Ty
want_at None i = None
want_at (Some ts) i = slice_get ts i

-- what a primitive gives that takes one list of any type
abbrev pub given_of : Primitive → List Ty → Option Ty
given_of p (t ∷ []) = option_and_then (of_list p) (items_of t)
given_of p _ = None

-- the types of a function's two parameters
abbrev pub pair_of : List Param → Option (Ty × Ty)
pair_of (p ∷ q ∷ []) = Some (p.ty, q.ty)
pair_of _ = None

-- last of all, a type that differs from the wanted one is refused
unfoldable pub settled_type : ℕ → Option Ty → Expr → Ty → Checking Found
settled_type at None e t = pure (e, t)
settled_type at (Some w) e t = if same_type w t then pure (e, t) else refuse (Mismatch (Node at) w t)

-- before it, a type that is too deep
unfoldable pub shallow : ℕ → Option Ty → Expr → Ty → Checking Found
shallow at want e t = if nat_le (type_depth t) 8 then settled_type at want e t else refuse (TypeTooDeep (Node at))

-- the function of that name, wherever it stands
abbrev pub fun_of : Program → Name → Option Fun
fun_of code f = option_and_then (slice_get code.funs) (place_of f code.funs)

-- the function of that name among the first `seen`
abbrev pub earlier : Program → ℕ → Name → Option Fun
earlier code seen f = option_and_then (slice_get code.funs) (place_of f (take seen code.funs))

-- why there is none: it is this one or a later one, or none at all
abbrev pub not_earlier : Program → Name → ℕ → TypeFault
not_earlier code f at = if is_some (place_of f code.funs) then NotEarlier (Node at) else UnknownName (Node at)

-- a name that was bound
unfoldable pub variable : Ctx → ℕ → Option Ty → Expr → Name → Checking Found
variable c at want e v = or_refuse (binding v c) (UnknownName (Node at)) >>= (λ t. settled_type at want e t)

-- an empty list
unfoldable pub empty : ℕ → Option Ty → Expr → Option Ty → Checking Found
empty at want e (Some u) = shallow at want e (ty.List u)
empty at want e None = or_refuse (option_and_then items_of want) (NeedsType (Node at)) >>= (λ u. shallow at want (x.Nil (Some u)) (ty.List u))

module _ (code : Program) where
  -- an exception raised
  unfoldable pub raising : ℕ → Option Ty → Expr → Name → Option Ty → Checking Found
  raising at want e n (Some t) = if is_exception code n then shallow at want e t else refuse (UnknownName (Node at))
  raising at want e n None =
      if is_exception code n then or_refuse want (NeedsType (Node at))
      >>= (λ t. shallow at want (x.Raise n (Some t)) t) else refuse (UnknownName (Node at))

  module _ (seen : ℕ) (run : Ctx → Option Ty → Expr → Checking Found) where
    -- a part of which a type is wanted
    unfoldable pub wanting : Ctx → Ty → Expr → Checking Expr
    wanting c t e = run c (Some t) e >>= (λ r. pure r.0)

    -- parts from the left, after those that are done
    unfoldable pub parts_from : List Expr → List Ty → Ctx → Option (List Ty) → List Expr → Checking (List Expr × List Ty)
    parts_from done types c wants [] = pure (done, types)
    parts_from done types c wants (e ∷ es) = run c (want_at wants (length types)) e >>= (λ r. parts_from (done ++ r.0 ∷ []) (types ++ r.1 ∷ []) c wants es)

    abbrev pub parts : Ctx → Option (List Ty) → List Expr → Checking (List Expr × List Ty)
    parts c wants es = parts_from [] [] c wants es

    unfoldable pub tuple : Ctx → ℕ → Option Ty → List Expr → Checking Found
    tuple c at want es = parts c (option_and_then (parts_of (length es)) want) es >>= (λ r. shallow at want (x.Tuple r.0) (ty.Tuple r.1))

    unfoldable pub part : Ctx → ℕ → Option Ty → ℕ → Expr → Checking Found
    part c at want i a = run c None a >>= (λ r. or_refuse (part_in i r.1) (WrongShape (Node at)) >>= (λ t. settled_type at want (x.Part i r.0) t))

    -- arguments, each with the type that is wanted of it
    unfoldable pub arguments : Ctx → ℕ → List Ty → List Expr → Checking (List Expr)
    arguments c at wants es = if length es == length wants then parts c (Some wants) es >>= (λ r. pure r.0) else refuse (Arity (Node at))

    unfoldable pub applied_call : Ctx → ℕ → Option Ty → Name → List Expr → List Ty → Ty → Checking Found
    applied_call c at want f es wants t = arguments c at wants es >>= (λ given. settled_type at want (x.Call f given) t)

    -- a primitive that takes one list of any type
    unfoldable pub of_items : Ctx → ℕ → Option Ty → Name → Primitive → List Expr → Checking Found
    of_items c at want f p es =
        if length es == 1 then parts c None es
        >>= (λ r.
        or_refuse (given_of p r.1) (WrongShape (Node at))
        >>= (λ t. settled_type at want (x.Call f r.0) t)) else refuse (Arity (Node at))

    abbrev pub primitive_by : Ctx → ℕ → Option Ty → Name → Primitive → List Expr → Option (List Ty) → Checking Found
    primitive_by c at want f p es (Some ts) = applied_call c at want f es ts (makes p)
    primitive_by c at want f p es None = of_items c at want f p es

    unfoldable pub primitive : Ctx → ℕ → Option Ty → Name → Primitive → List Expr → Checking Found
    primitive c at want f p es = primitive_by c at want f p es (takes p)

    unfoldable pub function : Ctx → ℕ → Option Ty → Name → List Expr → Checking Found
    function c at want f es = or_refuse (earlier code seen f) (not_earlier code f at) >>= (λ d. applied_call c at want f es (param_types d.params) d.result)

    abbrev pub service_or : Ctx → ℕ → Option Ty → Name → List Expr → Option Svc → Checking Found
    service_or c at want f es (Some d) = applied_call c at want f es d.params d.result
    service_or c at want f es None = function c at want f es

    abbrev pub primitive_or : Ctx → ℕ → Option Ty → Name → List Expr → Option Primitive → Checking Found
    primitive_or c at want f es (Some p) = primitive c at want f p es
    primitive_or c at want f es None = service_or c at want f es (service_of f code.svcs)

    unfoldable pub call : Ctx → ℕ → Option Ty → Name → List Expr → Checking Found
    call c at want f es = primitive_or c at want f es (prim_of f)

    unfoldable pub choice : Ctx → Option Ty → Expr → Expr → Expr → Checking Found
    choice c want a b d = wanting c ty.Bool a >>= (λ test. run c want b >>= (λ r. wanting c r.1 d >>= (λ other. pure (x.If test r.0 other, r.1))))

    unfoldable pub binder : Ctx → Option Ty → Name → Ty → Expr → Expr → Checking Found
    binder c want n u a b = wanting c u a >>= (λ bound. run (c ++ binds n u ∷ []) want b >>= (λ r. pure (x.Let n u bound r.0, r.1)))

    unfoldable pub sequence : Ctx → Option Ty → Expr → Expr → Checking Found
    sequence c want a b = wanting c ty.Unit a >>= (λ first. run c want b >>= (λ r. pure (x.Then first r.0, r.1)))

    unfoldable pub both : Ctx → ℕ → Option Ty → Expr → Expr → Checking Found
    both c at want a b = wanting c ty.Bool a >>= (λ p. wanting c ty.Bool b >>= (λ q. settled_type at want (x.And p q) ty.Bool))

    unfoldable pub either : Ctx → ℕ → Option Ty → Expr → Expr → Checking Found
    either c at want a b = wanting c ty.Bool a >>= (λ p. wanting c ty.Bool b >>= (λ q. settled_type at want (x.Or p q) ty.Bool))

    unfoldable pub negation : Ctx → ℕ → Option Ty → Expr → Checking Found
    negation c at want a = wanting c ty.Bool a >>= (λ p. settled_type at want (x.Not p) ty.Bool)

    unfoldable pub calculation : Ctx → ℕ → Option Ty → Op → Expr → Expr → Checking Found
    calculation c at want o a b = wanting c ty.Int a >>= (λ p. wanting c ty.Int b >>= (λ q. settled_type at want (x.Binary o p q) ty.Int))

    unfoldable pub join : Ctx → ℕ → Option Ty → Op → Expr → Expr → Checking Found
    join c at want o a b =
        run c None a
        >>= (λ r.
        if is_joined r.1 then wanting c r.1 b
        >>= (λ q. settled_type at want (x.Binary o r.0 q) r.1) else refuse (WrongShape (Node at)))

    unfoldable pub comparison : Ctx → ℕ → Option Ty → Op → Expr → Expr → Checking Found
    comparison c at want o a b = run c None a >>= (λ r. wanting c r.1 b >>= (λ q. settled_type at want (x.Binary o r.0 q) ty.Bool))

    unfoldable pub order : Ctx → ℕ → Option Ty → Op → Expr → Expr → Checking Found
    order c at want o a b =
        run c None a
        >>= (λ r.
        if is_ordered r.1 then wanting c r.1 b
        >>= (λ q. settled_type at want (x.Binary o r.0 q) ty.Bool) else refuse (WrongShape (Node at)))

    unfoldable pub prefix : Ctx → ℕ → Option Ty → Op → Expr → Expr → Checking Found
    prefix c at want o a b =
        run c (option_and_then items_of want) a
        >>= (λ r. wanting c (ty.List r.1) b >>= (λ q. shallow at want (x.Binary o r.0 q) (ty.List r.1)))

    abbrev pub operation_by : Ctx → ℕ → Option Ty → Op → Expr → Expr → OpKind → Checking Found
    operation_by c at want o a b arithmetic = calculation c at want o a b
    operation_by c at want o a b joining = join c at want o a b
    operation_by c at want o a b equality = comparison c at want o a b
    operation_by c at want o a b ordering = order c at want o a b
    operation_by c at want o a b listing = prefix c at want o a b

    unfoldable pub operation : Ctx → ℕ → Option Ty → Op → Expr → Expr → Checking Found
    operation c at want o a b = operation_by c at want o a b (kind_of o)

    -- clauses from the first, after those that are done, each with the wanted type
    unfoldable pub clauses_from : List Clause → Ctx → Ty → List Clause → Checking (List Clause)
    clauses_from done c t [] = pure done
    clauses_from done c t (k ∷ ks) = wanting c t k.body >>= (λ b. clauses_from (done ++ record { name = k.name; body = b } ∷ []) c t ks)

    unfoldable pub handling : Ctx → ℕ → Option Ty → Expr → List Clause → Checking Found
    handling c at want a ks =
        if list_any (λ k. not (may_catch code k.name)) ks then refuse (UnknownName (Node at)) else run c want a
        >>= (λ r. clauses_from [] c r.1 ks >>= (λ handlers. pure (x.Try r.0 handlers, r.1)))

    -- the two types of an earlier function with two parameters, and the type that it gives
    unfoldable pub folding : ℕ → Name → Checking (Ty × Ty × Ty)
    folding at f =
        or_refuse (earlier code seen f) (not_earlier code f at)
        >>= (λ d. or_refuse (pair_of d.params) (Arity (Node at)) >>= (λ p. pure (p.0, p.1, d.result)))

    unfoldable pub fold_left : Ctx → ℕ → Option Ty → Name → Expr → Expr → Checking Found
    fold_left c at want f a l =
        folding at f
        >>= (λ d.
        wanting c d.0 a
        >>= (λ start.
        wanting c (ty.List d.1) l
        >>= (λ items.
        if same_type d.2 d.0 then settled_type at want (x.Foldl f start items) d.0 else refuse (WrongShape (Node at)))))

    unfoldable pub fold_right : Ctx → ℕ → Option Ty → Name → Expr → Expr → Checking Found
    fold_right c at want f a l =
        folding at f
        >>= (λ d.
        wanting c d.1 a
        >>= (λ start.
        wanting c (ty.List d.0) l
        >>= (λ items.
        if same_type d.2 d.1 then settled_type at want (x.Foldr f start items) d.1 else refuse (WrongShape (Node at)))))

    unfoldable pub packing : Ctx → ℕ → Option Ty → Name → List Expr → Checking Found
    packing c at want f es =
        or_refuse (fun_of code f) (UnknownName (Node at))
        >>= (λ d. arguments c at (param_types d.params) es >>= (λ given. settled_type at want (x.ChunkOf f given) ty.Chunk))

    unfoldable pub evaluation : Ctx → ℕ → Option Ty → Expr → Checking Found
    evaluation c at want a = wanting c ty.Chunk a >>= (λ p. settled_type at want (x.Eval p) ty.Unit)

    unfoldable pub remote : Ctx → ℕ → Option Ty → Expr → Expr → Expr → Name → Checking Found
    remote c at want a h n r =
        wanting c ty.Chunk a
        >>= (λ p. wanting c ty.Host h >>= (λ q. wanting c ty.Int n >>= (λ s. settled_type at want (x.OnRemote p q s r) ty.Unit)))

    unfoldable pub neighbour : Ctx → ℕ → Option Ty → Expr → Expr → Expr → Expr → Checking Found
    neighbour c at want a h n d =
        wanting c ty.Chunk a
        >>= (λ p.
        wanting c ty.Host h
        >>= (λ q.
        wanting c ty.Int n >>= (λ s. wanting c ty.Dev d >>= (λ u. settled_type at want (x.OnNeighbor p q s u) ty.Unit))))

    -- each form by its own conditions
    abbrev pub opened_form : Ctx → ℕ → Option Ty → Expr → ExprLayer → Checking Found
    opened_form c at want e Expr-F.Unit = settled_type at want e ty.Unit
    opened_form c at want e (Expr-F.Bool _) = settled_type at want e ty.Bool
    opened_form c at want e (Expr-F.Int _) = settled_type at want e ty.Int
    opened_form c at want e (Expr-F.Char _) = settled_type at want e ty.Char
    opened_form c at want e (Expr-F.Str _) = settled_type at want e ty.Str
    opened_form c at want e (Expr-F.Blob _) = settled_type at want e ty.Blob
    opened_form c at want e (Expr-F.Host _) = settled_type at want e ty.Host
    opened_form c at want e (Expr-F.Dev _) = settled_type at want e ty.Dev
    opened_form c at want e (Expr-F.Nil u) = empty at want e u
    opened_form c at want e (Expr-F.Var v) = variable c at want e v
    opened_form c at want e (Expr-F.Tuple es) = tuple c at want es
    opened_form c at want e (Expr-F.Call f es) = call c at want f es
    opened_form c at want e (Expr-F.If a b d) = choice c want a b d
    opened_form c at want e (Expr-F.Let n u a b) = binder c want n u a b
    opened_form c at want e (Expr-F.Then a b) = sequence c want a b
    opened_form c at want e (Expr-F.And a b) = both c at want a b
    opened_form c at want e (Expr-F.Or a b) = either c at want a b
    opened_form c at want e (Expr-F.Not a) = negation c at want a
    opened_form c at want e (Expr-F.Binary o a b) = operation c at want o a b
    opened_form c at want e (Expr-F.Part i a) = part c at want i a
    opened_form c at want e (Expr-F.Raise n t) = raising at want e n t
    opened_form c at want e (Expr-F.Try a ks) = handling c at want a ks
    opened_form c at want e (Expr-F.Foldl f a l) = fold_left c at want f a l
    opened_form c at want e (Expr-F.Foldr f a l) = fold_right c at want f a l
    opened_form c at want e (Expr-F.ChunkOf f es) = packing c at want f es
    opened_form c at want e (Expr-F.Eval a) = evaluation c at want a
    opened_form c at want e (Expr-F.OnRemote a h n r) = remote c at want a h n r
    opened_form c at want e (Expr-F.OnNeighbor a h n d) = neighbour c at want a h n d

    -- an expression takes the next number, and its parts the numbers after it
    unfoldable pub expression : Ctx → Option Ty → Expr → Checking Found
    expression c want e = λ n. opened_form c n want e (out-Expr e) (next n)

  -- An expression of at most `depth`. What is deeper is no well-formed tree; it is refused as too large.
  unfoldable pub checked_expression : ℕ → ℕ → Ctx → Option Ty → Expr → Checking Found
  checked_expression zero seen c want e = refuse CodeTooLarge
  checked_expression (suc depth) seen c want e = expression seen (checked_expression depth seen) c want e

  -- the bodies from the first, after those that are done
  unfoldable pub bodies_from : List Fun → List Fun → Checking (List Fun)
  bodies_from done [] = pure done
  bodies_from done (d ∷ ds) =
      checked_expression 64 (length done) d.params (Some d.result) d.body >>= (λ r. bodies_from (done ++ record d { body = r.0 } ∷ []) ds)

-- what comes after an answer
abbrev pub then_by : {A B : Type 0} → Result A TypeFault → (A → Result B TypeFault) → Result B TypeFault
then_by (Ok a) k = k a
then_by (Err f) k = Err f

-- Services from the first, by the number of the next declaration: each has a new name that no primitive has. The answer is
-- the number after them.
unfoldable pub services_from : List Name → List Svc → ℕ → Result ℕ TypeFault
services_from taken [] at = Ok at
services_from taken (d ∷ ds) at =
    if is_prim d.name || has_name taken d.name then Err (TwiceNamed (Decl at)) else services_from (taken ++ d.name ∷ []) ds (next at)

-- exceptions likewise, beside the built-in ones
unfoldable pub exceptions_from : List Name → List Name → ℕ → Result ℕ TypeFault
exceptions_from taken [] at = Ok at
exceptions_from taken (n ∷ ns) at = if has_name taken n then Err (TwiceNamed (Decl at)) else exceptions_from (taken ++ n ∷ []) ns (next at)

-- functions likewise, beside the services; their parameters have different names
unfoldable pub functions_from : List Name → List Fun → ℕ → Result ℕ TypeFault
functions_from taken [] at = Ok at
functions_from taken (d ∷ ds) at =
    if is_prim d.name || has_name taken d.name || not (are_new [] (param_names d.params)) then Err (TwiceNamed (Decl at)) else
    functions_from (taken ++ d.name ∷ []) ds (next at)

-- all declarations, in the order of the tree
unfoldable pub declarations : Program → Result ℕ TypeFault
declarations code =
    then_by (services_from [] code.svcs 0) (λ n.
    then_by (exceptions_from built_in code.exns n) (λ m. functions_from (map (λ d. d.name) code.svcs) code.funs m))

-- last, the size of the marshalled code
unfoldable pub sized_program : Program → Result Program TypeFault
sized_program code = if nat_le (code_size code) 16000 then Ok code else Err CodeTooLarge

-- the program with its types filled in, or the first refusal
unfoldable pub annotated_program : Program → Result Program TypeFault
annotated_program code = then_by (declarations code) (λ _. then_by (bodies_from code [] code.funs 0) (λ r. sized_program (record code { funs = r.0 })))
