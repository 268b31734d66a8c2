-- No refusal of the checking is `NoMemory`.
use Rattle.std.proofs.Common.{◌≡◌, ◌≢◌, ℕ, zero, suc, Bool, true, false, not, ◌||◌, List, [], ◌∷◌, ◌++◌, length, Option, Some, None, Result, Ok, Err, subst}
use Rattle.std.specs.Prelude.{if◌then◌else◌, ◌==◌, nat_le, is_some, option_and_then}
use Rattle.std.specs.List.{list_any}
use Rattle.plan_base.specs.declared.name.Name.{Name}
use Rattle.plan_base.specs.declared.prim.Primitive.{Primitive}
use Rattle.plan_base.specs.declared.tree.Op.{Op}
use Rattle.plan_base.specs.declared.tree.Ty.{Ty}
use Rattle.plan_base.specs.declared.tree.Ty as ty
use Rattle.plan_base.specs.declared.tree.Expr.{Expr, Expr-F, out-Expr}
use Rattle.plan_base.specs.declared.tree.Clause.{Clause}
use Rattle.plan_base.specs.declared.tree.Svc.{Svc}
use Rattle.plan_base.specs.declared.tree.Fun.{Fun}
use Rattle.plan_base.specs.declared.tree.Program.{Program}
use Rattle.plan_base.specs.declared.tree.Place.TheVariants.{Node, Decl}
use Rattle.plan_types_spec.specs.declared.type_fault.TypeFault.{TypeFault}
use Rattle.plan_types_spec.specs.declared.type_fault.TypeFault.TheVariants.{UnknownName, NotEarlier, Mismatch, Arity, NeedsType, WrongShape, TwiceNamed, TypeTooDeep, CodeTooLarge, NoMemory}
use Rattle.plan_base.specs.Trees.{ExprLayer}
use Rattle.plan_base.specs.Sizes.{type_depth, code_size}
use Rattle.plan_types_spec.specs.Typing.{Ctx, param_names}
use Rattle.plan_types_spec.specs.TypingNames.{place_of, binding, is_exception, is_joined, is_ordered, may_catch, prim_of, takes, service_of, OpKind, arithmetic, joining, equality, ordering, listing}
use Rattle.plan_types_spec.specs.TypingNames.{kind_of, has_name, is_prim, built_in, are_new}
use Rattle.plan_base.specs.SameTypes.{same_type}
use Rattle.plan_types_spec.specs.TypingOrder.{Checking, Found, pure, refuse, after, ◌>>=◌, or_refuse, next, settled_type, shallow, variable, empty, not_earlier, checked_expression, bodies_from}
use Rattle.plan_types_spec.specs.TypingOrder.{then_by, services_from, exceptions_from, functions_from, declarations, sized_program, annotated_program}
use Rattle.plan_types_spec.specs.TypingOrder as order

-- a refusal for a reason of the program's own
abbrev IsOwn : TypeFault → Type 0
IsOwn f = f ≢ NoMemory

Own : {A : Type 0} → Result A TypeFault → Type 0
Own (Ok a) = Unit {0}
Own (Err f) = IsOwn f

then_own : {A B : Type 0} (r : Result A TypeFault) (k : A → Result B TypeFault) → Own r → ((a : A) → Own (k a)) → Own (then_by r k)
unfolding Own
then_own (Ok a) k h n = n a
then_own (Err f) k h n = h

either_own : {A : Type 0} (b : Bool) (p q : Result A TypeFault) → Own p → Own q → Own (if b then p else q)
either_own true p q h k = h
either_own false p q h k = k

err_own : {A : Type 0} (r : Result A TypeFault) (f : TypeFault) → r ≡ Err f → Own r → f ≢ NoMemory
unfolding Own
err_own r f e h = subst Own e h

-- ---- parts of the checking

Clean : {A : Type 0} → Checking A → Type 0
Clean m = (n : ℕ) → Own (m n)

pure_clean : (A : Type 0) (a : A) → Clean (pure a)
unfolding Clean Own
pure_clean A a = λ n. tt

refuse_clean : (A : Type 0) (f : TypeFault) → IsOwn f → Clean {A = A} (refuse f)
unfolding Clean Own
refuse_clean A f h = λ n. h

bind_clean : {A B : Type 0} (m : Checking A) (k : A → Checking B) → Clean m → ((a : A) → Clean (k a)) → Clean (m >>= k)
unfolding Clean Own
bind_clean {A} {B} m k h g = λ n. go n (m n) (h n)
  where
    go : (n : ℕ) (r : Result (A × ℕ) TypeFault) → Own r → Own (after r k)
    go n (Ok x) o = g x.0 x.1
    go n (Err f) o = o

or_clean : {A : Type 0} (o : Option A) (f : TypeFault) → IsOwn f → Clean (or_refuse o f)
or_clean (Some a) f h = pure_clean _ a
or_clean None f h = refuse_clean _ f h

if_clean : {A : Type 0} (b : Bool) (m k : Checking A) → Clean m → Clean k → Clean (if b then m else k)
if_clean true m k h g = h
if_clean false m k h g = g

settled_clean : (at : ℕ) (want : Option Ty) (e : Expr) (t : Ty) → Clean (settled_type at want e t)
unfolding settled_type
settled_clean at None e t = pure_clean _ (e, t)
settled_clean at (Some w) e t = if_clean (same_type w t) (pure (e, t)) (refuse (Mismatch (Node at) w t)) (pure_clean _ (e, t)) (refuse_clean _ (Mismatch (Node at) w t) (λ h. cc))

shallow_clean : (at : ℕ) (want : Option Ty) (e : Expr) (t : Ty) → Clean (shallow at want e t)
unfolding shallow
shallow_clean at want e t = if_clean (nat_le (type_depth t) 8) (settled_type at want e t) (refuse (TypeTooDeep (Node at))) (settled_clean at want e t) (refuse_clean _ (TypeTooDeep (Node at)) (λ h. cc))

variable_clean : (c : Ctx) (at : ℕ) (want : Option Ty) (e : Expr) (v : Name) → Clean (variable c at want e v)
unfolding variable
variable_clean c at want e v = bind_clean (or_refuse (binding v c) (UnknownName (Node at))) _ (or_clean _ (UnknownName (Node at)) (λ h. cc)) (λ t. settled_clean at want e t)

empty_clean : (at : ℕ) (want : Option Ty) (e : Expr) (u : Option Ty) → Clean (empty at want e u)
unfolding empty
empty_clean at want e (Some u) = shallow_clean at want e (ty.List u)
empty_clean at want e None = bind_clean (or_refuse (option_and_then order.items_of want) (NeedsType (Node at))) _ (or_clean _ (NeedsType (Node at)) (λ h. cc)) (λ u. shallow_clean at want _ (ty.List u))

not_earlier_own : (code : Program) (f : Name) (at : ℕ) → IsOwn (not_earlier code f at)
not_earlier_own code f at = go (is_some (place_of f code.funs))
  where
    go : (b : Bool) → IsOwn (if b then NotEarlier (Node at) else UnknownName (Node at))
    go true = λ h. cc
    go false = λ h. cc

module _ (code : Program) where
  raising_clean : (at : ℕ) (want : Option Ty) (e : Expr) (n : Name) (u : Option Ty) → Clean (order.raising code at want e n u)
  unfolding order.raising
  raising_clean at want e n (Some t) = if_clean (is_exception code n) (shallow at want e t) (refuse (UnknownName (Node at))) (shallow_clean at want e t) (refuse_clean _ (UnknownName (Node at)) (λ h. cc))
  raising_clean at want e n None =
      if_clean (is_exception code n) _ (refuse (UnknownName (Node at)))
      (bind_clean (or_refuse want (NeedsType (Node at))) _ (or_clean want (NeedsType (Node at)) (λ h. cc)) (λ t. shallow_clean at want _ t))
      (refuse_clean _ (UnknownName (Node at)) (λ h. cc))

  module _ (seen : ℕ) (run : Ctx → Option Ty → Expr → Checking Found) (good : (c : Ctx) (want : Option Ty) (e : Expr) → Clean (run c want e)) where
    wanting_clean : (c : Ctx) (t : Ty) (e : Expr) → Clean (order.wanting code seen run c t e)
    unfolding order.wanting
    wanting_clean c t e = bind_clean (run c (Some t) e) _ (good c (Some t) e) (λ r. pure_clean _ r.0)

    parts_clean : (done : List Expr) (types : List Ty) (c : Ctx) (wants : Option (List Ty)) (es : List Expr) → Clean (order.parts_from code seen run done types c wants es)
    unfolding order.parts_from
    parts_clean done types c wants [] = pure_clean _ (done, types)
    parts_clean done types c wants (e ∷ es) =
        bind_clean (run c (order.want_at wants (length types)) e) _ (good c (order.want_at wants (length types)) e) (λ r. parts_clean (done ++ r.0 ∷ []) (types ++ r.1 ∷ []) c wants es)

    arguments_clean : (c : Ctx) (at : ℕ) (wants : List Ty) (es : List Expr) → Clean (order.arguments code seen run c at wants es)
    unfolding order.arguments
    arguments_clean c at wants es =
        if_clean (length es == length wants) _ (refuse (Arity (Node at))) (bind_clean (order.parts code seen run c (Some wants) es) _ (parts_clean [] [] c (Some wants) es) (λ r. pure_clean _ r.0))
        (refuse_clean _ (Arity (Node at)) (λ h. cc))

    applied_clean : (c : Ctx) (at : ℕ) (want : Option Ty) (f : Name) (es : List Expr) (wants : List Ty) (t : Ty) → Clean (order.applied_call code seen run c at want f es wants t)
    unfolding order.applied_call
    applied_clean c at want f es wants t = bind_clean (order.arguments code seen run c at wants es) _ (arguments_clean c at wants es) (λ given. settled_clean at want _ t)

    items_clean : (c : Ctx) (at : ℕ) (want : Option Ty) (f : Name) (p : Primitive) (es : List Expr) → Clean (order.of_items code seen run c at want f p es)
    unfolding order.of_items
    items_clean c at want f p es =
        if_clean (length es == 1) _ (refuse (Arity (Node at)))
        (bind_clean (order.parts code seen run c None es) _ (parts_clean [] [] c None es)
        (λ r. bind_clean (or_refuse (order.given_of p r.1) (WrongShape (Node at))) _ (or_clean _ (WrongShape (Node at)) (λ h. cc)) (λ t. settled_clean at want _ t)))
        (refuse_clean _ (Arity (Node at)) (λ h. cc))

    primitive_clean : (c : Ctx) (at : ℕ) (want : Option Ty) (f : Name) (p : Primitive) (es : List Expr) → Clean (order.primitive code seen run c at want f p es)
    unfolding order.primitive
    primitive_clean c at want f p es = go (takes p)
      where
        go : (o : Option (List Ty)) → Clean (order.primitive_by code seen run c at want f p es o)
        go (Some ts) = applied_clean c at want f es ts _
        go None = items_clean c at want f p es

    function_clean : (c : Ctx) (at : ℕ) (want : Option Ty) (f : Name) (es : List Expr) → Clean (order.function code seen run c at want f es)
    unfolding order.function
    function_clean c at want f es = bind_clean (or_refuse (order.earlier code seen f) (not_earlier code f at)) _ (or_clean _ (not_earlier code f at) (not_earlier_own code f at)) (λ d. applied_clean c at want f es _ d.result)

    call_clean : (c : Ctx) (at : ℕ) (want : Option Ty) (f : Name) (es : List Expr) → Clean (order.call code seen run c at want f es)
    unfolding order.call
    call_clean c at want f es = prims (prim_of f)
      where
        services : (o : Option Svc) → Clean (order.service_or code seen run c at want f es o)
        services (Some d) = applied_clean c at want f es d.params d.result
        services None = function_clean c at want f es

        prims : (o : Option Primitive) → Clean (order.primitive_or code seen run c at want f es o)
        prims (Some p) = primitive_clean c at want f p es
        prims None = services (service_of f code.svcs)

    -- one part of which a type is wanted, and two
    one_clean : (c : Ctx) (t : Ty) (a : Expr) (k : Expr → Checking Found) → ((p : Expr) → Clean (k p)) → Clean (order.wanting code seen run c t a >>= k)
    one_clean c t a k h = bind_clean (order.wanting code seen run c t a) k (wanting_clean c t a) h

    operation_clean : (c : Ctx) (at : ℕ) (want : Option Ty) (o : Op) (a b : Expr) → Clean (order.operation code seen run c at want o a b)
    unfolding order.operation order.calculation order.join order.comparison order.order order.prefix
    operation_clean c at want o a b = go (kind_of o)
      where
        go : (k : OpKind) → Clean (order.operation_by code seen run c at want o a b k)
        go arithmetic = one_clean c ty.Int a _ (λ p. one_clean c ty.Int b _ (λ q. settled_clean at want _ ty.Int))
        go joining = bind_clean (run c None a) _ (good c None a) (λ r. if_clean (is_joined r.1) _ (refuse (WrongShape (Node at))) (one_clean c r.1 b _ (λ q. settled_clean at want _ r.1)) (refuse_clean _ (WrongShape (Node at)) (λ h. cc)))
        go equality = bind_clean (run c None a) _ (good c None a) (λ r. one_clean c r.1 b _ (λ q. settled_clean at want _ ty.Bool))
        go ordering =
            bind_clean (run c None a) _ (good c None a) (λ r.
            if_clean (is_ordered r.1) _ (refuse (WrongShape (Node at))) (one_clean c r.1 b _ (λ q. settled_clean at want _ ty.Bool)) (refuse_clean _ (WrongShape (Node at)) (λ h. cc)))
        go listing = bind_clean (run c (option_and_then order.items_of want) a) _ (good c (option_and_then order.items_of want) a) (λ r. one_clean c (ty.List r.1) b _ (λ q. shallow_clean at want _ (ty.List r.1)))

    clauses_clean : (done : List Clause) (c : Ctx) (t : Ty) (ks : List Clause) → Clean (order.clauses_from code seen run done c t ks)
    unfolding order.clauses_from
    clauses_clean done c t [] = pure_clean _ done
    clauses_clean done c t (k ∷ ks) = bind_clean (order.wanting code seen run c t k.body) _ (wanting_clean c t k.body) (λ b. clauses_clean (done ++ record { name = k.name; body = b } ∷ []) c t ks)

    handling_clean : (c : Ctx) (at : ℕ) (want : Option Ty) (a : Expr) (ks : List Clause) → Clean (order.handling code seen run c at want a ks)
    unfolding order.handling
    handling_clean c at want a ks =
        if_clean (list_any (λ k. not (may_catch code k.name)) ks) (refuse (UnknownName (Node at))) _ (refuse_clean _ (UnknownName (Node at)) (λ h. cc))
        (bind_clean (run c want a) _ (good c want a) (λ r. bind_clean (order.clauses_from code seen run [] c r.1 ks) _ (clauses_clean [] c r.1 ks) (λ handlers. pure_clean _ _)))

    folding_clean : (at : ℕ) (f : Name) → Clean (order.folding code seen run at f)
    unfolding order.folding
    folding_clean at f =
        bind_clean (or_refuse (order.earlier code seen f) (not_earlier code f at)) _ (or_clean _ (not_earlier code f at) (not_earlier_own code f at))
        (λ d. bind_clean (or_refuse (order.pair_of d.params) (Arity (Node at))) _ (or_clean _ (Arity (Node at)) (λ h. cc)) (λ p. pure_clean _ _))

    left_clean : (c : Ctx) (at : ℕ) (want : Option Ty) (f : Name) (a l : Expr) → Clean (order.fold_left code seen run c at want f a l)
    unfolding order.fold_left
    left_clean c at want f a l =
        bind_clean (order.folding code seen run at f) _ (folding_clean at f)
        (λ d. one_clean c d.0 a _ (λ start. one_clean c (ty.List d.1) l _ (λ items. if_clean (same_type d.2 d.0) _ (refuse (WrongShape (Node at))) (settled_clean at want _ d.0) (refuse_clean _ (WrongShape (Node at)) (λ h. cc)))))

    right_clean : (c : Ctx) (at : ℕ) (want : Option Ty) (f : Name) (a l : Expr) → Clean (order.fold_right code seen run c at want f a l)
    unfolding order.fold_right
    right_clean c at want f a l =
        bind_clean (order.folding code seen run at f) _ (folding_clean at f)
        (λ d. one_clean c d.1 a _ (λ start. one_clean c (ty.List d.0) l _ (λ items. if_clean (same_type d.2 d.1) _ (refuse (WrongShape (Node at))) (settled_clean at want _ d.1) (refuse_clean _ (WrongShape (Node at)) (λ h. cc)))))

    opened_clean : (c : Ctx) (at : ℕ) (want : Option Ty) (e : Expr) (l : ExprLayer) → Clean (order.opened_form code seen run c at want e l)
    unfolding order.tuple order.choice order.binder order.sequence order.both order.either order.negation order.part order.packing order.evaluation order.remote order.neighbour
    opened_clean c at want e Expr-F.Unit = settled_clean at want e ty.Unit
    opened_clean c at want e (Expr-F.Bool _) = settled_clean at want e ty.Bool
    opened_clean c at want e (Expr-F.Int _) = settled_clean at want e ty.Int
    opened_clean c at want e (Expr-F.Char _) = settled_clean at want e ty.Char
    opened_clean c at want e (Expr-F.Str _) = settled_clean at want e ty.Str
    opened_clean c at want e (Expr-F.Blob _) = settled_clean at want e ty.Blob
    opened_clean c at want e (Expr-F.Host _) = settled_clean at want e ty.Host
    opened_clean c at want e (Expr-F.Dev _) = settled_clean at want e ty.Dev
    opened_clean c at want e (Expr-F.Nil u) = empty_clean at want e u
    opened_clean c at want e (Expr-F.Var v) = variable_clean c at want e v
    opened_clean c at want e (Expr-F.Tuple es) =
        bind_clean (order.parts code seen run c (option_and_then (order.parts_of (length es)) want)
        es) _ (parts_clean [] [] c (option_and_then (order.parts_of (length es)) want) es) (λ r. shallow_clean at want _ (ty.Tuple r.1))
    opened_clean c at want e (Expr-F.Call f es) = call_clean c at want f es
    opened_clean c at want e (Expr-F.If a b d) = one_clean c ty.Bool a _ (λ p. bind_clean (run c want b) _ (good c want b) (λ r. one_clean c r.1 d _ (λ q. pure_clean _ _)))
    opened_clean c at want e (Expr-F.Let n u a b) = one_clean c u a _ (λ p. bind_clean (run _ want b) _ (good _ want b) (λ r. pure_clean _ _))
    opened_clean c at want e (Expr-F.Then a b) = one_clean c ty.Unit a _ (λ p. bind_clean (run c want b) _ (good c want b) (λ r. pure_clean _ _))
    opened_clean c at want e (Expr-F.And a b) = one_clean c ty.Bool a _ (λ p. one_clean c ty.Bool b _ (λ q. settled_clean at want _ ty.Bool))
    opened_clean c at want e (Expr-F.Or a b) = one_clean c ty.Bool a _ (λ p. one_clean c ty.Bool b _ (λ q. settled_clean at want _ ty.Bool))
    opened_clean c at want e (Expr-F.Not a) = one_clean c ty.Bool a _ (λ p. settled_clean at want _ ty.Bool)
    opened_clean c at want e (Expr-F.Binary o a b) = operation_clean c at want o a b
    opened_clean c at want e (Expr-F.Part i a) =
        bind_clean (run c None a) _ (good c None a) (λ r.
        bind_clean (or_refuse (order.part_in i r.1) (WrongShape (Node at))) _ (or_clean _ (WrongShape (Node at)) (λ h. cc)) (λ t. settled_clean at want _ t))
    opened_clean c at want e (Expr-F.Raise n t) = raising_clean at want e n t
    opened_clean c at want e (Expr-F.Try a ks) = handling_clean c at want a ks
    opened_clean c at want e (Expr-F.Foldl f a l) = left_clean c at want f a l
    opened_clean c at want e (Expr-F.Foldr f a l) = right_clean c at want f a l
    opened_clean c at want e (Expr-F.ChunkOf f es) =
        bind_clean (or_refuse (order.fun_of code f) (UnknownName (Node at))) _ (or_clean _ (UnknownName (Node at)) (λ h. cc)) (λ d.
        bind_clean (order.arguments code seen run c at _ es) _ (arguments_clean c at _ es) (λ given. settled_clean at want _ ty.Chunk))
    opened_clean c at want e (Expr-F.Eval a) = one_clean c ty.Chunk a _ (λ p. settled_clean at want _ ty.Unit)
    opened_clean c at want e (Expr-F.OnRemote a h n r) = one_clean c ty.Chunk a _ (λ p. one_clean c ty.Host h _ (λ q. one_clean c ty.Int n _ (λ s. settled_clean at want _ ty.Unit)))
    opened_clean c at want e (Expr-F.OnNeighbor a h n d) = one_clean c ty.Chunk a _ (λ p. one_clean c ty.Host h _ (λ q. one_clean c ty.Int n _ (λ s. one_clean c ty.Dev d _ (λ u. settled_clean at want _ ty.Unit))))

    expression_clean : (c : Ctx) (want : Option Ty) (e : Expr) → Clean (order.expression code seen run c want e)
    unfolding order.expression Clean
    expression_clean c want e = λ n. opened_clean c n want e (out-Expr e) (next n)

checked_clean : (code : Program) (depth seen : ℕ) (c : Ctx) (want : Option Ty) (e : Expr) → Clean (checked_expression code depth seen c want e)
unfolding checked_expression
checked_clean code zero seen c want e = refuse_clean _ CodeTooLarge (λ h. cc)
checked_clean code (suc depth) seen c want e = expression_clean code seen (checked_expression code depth seen) (checked_clean code depth seen) c want e

bodies_clean : (code : Program) (done ds : List Fun) → Clean (bodies_from code done ds)
unfolding bodies_from
bodies_clean code done [] = pure_clean _ done
bodies_clean code done (d ∷ ds) = bind_clean (checked_expression code 64 (length done) d.params (Some d.result) d.body) _ (checked_clean code 64 (length done) d.params (Some d.result) d.body) (λ r. bodies_clean code _ ds)

-- ---- declarations and the whole

ok_own : (A : Type 0) (a : A) → Own (Ok a)
unfolding Own
ok_own A a = tt

twice_own : (A : Type 0) (at : ℕ) → Own {A = A} (Err (TwiceNamed (Decl at)))
unfolding Own
twice_own A at = λ h. cc

services_own : (taken : List Name) (ds : List Svc) (at : ℕ) → Own (services_from taken ds at)
unfolding services_from
services_own taken [] at = ok_own _ at
services_own taken (d ∷ ds) at = either_own (is_prim d.name || has_name taken d.name) _ _ (twice_own _ at) (services_own (taken ++ d.name ∷ []) ds (next at))

exceptions_own : (taken ns : List Name) (at : ℕ) → Own (exceptions_from taken ns at)
unfolding exceptions_from
exceptions_own taken [] at = ok_own _ at
exceptions_own taken (n ∷ ns) at = either_own (has_name taken n) _ _ (twice_own _ at) (exceptions_own (taken ++ n ∷ []) ns (next at))

functions_own : (taken : List Name) (ds : List Fun) (at : ℕ) → Own (functions_from taken ds at)
unfolding functions_from
functions_own taken [] at = ok_own _ at
functions_own taken (d ∷ ds) at = either_own (is_prim d.name || has_name taken d.name || not (are_new [] (param_names d.params))) _ _ (twice_own _ at) (functions_own (taken ++ d.name ∷ []) ds (next at))

sized_own : (code : Program) → Own (sized_program code)
unfolding sized_program Own
sized_own code = go (nat_le (code_size code) 16000)
  where
    go : (b : Bool) → Own (if b then Ok code else Err CodeTooLarge)
    go true = tt
    go false = λ h. cc

annotated_own : (code : Program) → Own (annotated_program code)
unfolding annotated_program declarations Clean
annotated_own code =
    then_own _ _ (then_own (services_from [] code.svcs 0) _ (services_own [] code.svcs 0) (λ n. then_own (exceptions_from built_in code.exns n) _ (exceptions_own built_in code.exns n) (λ m. functions_own _ code.funs m)))
    (λ z. then_own (bodies_from code [] code.funs 0) _ (bodies_clean code [] code.funs 0) (λ r. sized_own _))

pub program_own : (code : Program) (f : TypeFault) → annotated_program code ≡ Err f → f ≢ NoMemory
program_own code f e = err_own (annotated_program code) f e (annotated_own code)
