-- What an expression gives and does, a case for each form.
use Rattle.std.specs.Prelude.{ℕ, zero, suc, ◌+◌, ◌-◌, Bool, true, false, not, ◌&&◌, if◌then◌else◌, ◌==◌, nat_le, ℤ, pos, negsuc, List, []}
use Rattle.std.specs.Prelude.{◌∷◌, ◌++◌, take, reverse, slice_get, codes, Option, Some, None}
use Rattle.std.specs.Option.{option_or}
use Rattle.std.specs.Str.{bytes_eq}
use Rattle.plan_base.specs.declared.name.Name.{Name}
use Rattle.plan_base.specs.declared.ids.Host.{Host}
use Rattle.plan_base.specs.declared.ids.Dev.{Dev}
use Rattle.plan_base.specs.declared.prim.Primitive.{Primitive}
use Rattle.plan_base.specs.declared.tree.Exn.{Exn}
use Rattle.plan_base.specs.declared.tree.Ty.{Ty}
use Rattle.plan_base.specs.declared.tree.Op.{Op}
use Rattle.plan_base.specs.declared.tree.Expr.{Expr, Expr-F, out-Expr}
use Rattle.plan_base.specs.declared.tree.Clause.{Clause}
use Rattle.plan_base.specs.declared.tree.Param.{Param}
use Rattle.plan_base.specs.declared.tree.Svc.{Svc}
use Rattle.plan_base.specs.declared.tree.Program.{Program}
use Rattle.plan_base.specs.declared.tree.Value.{Value, Value-F, out-Value}
use Rattle.plan_base.specs.declared.tree.Value as value
use Rattle.plan_base.specs.declared.tree.Chunk.{Chunk}
use Rattle.plan_base.specs.declared.tree.Packet.{Packet}
use Rattle.plan_base.specs.Trees.{ExprLayer, ValueLayer}
use Rattle.plan_types_spec.specs.TypingNames.{place_of, service_of, prim_of}
use Rattle.plan_types_spec.specs.Rules.{binary, part, primitive, exception, no_service}
use Rattle.service_api.specs.declared.router.Hop.{Hop}
use Rattle.service_api.specs.declared.router.Hop.TheVariants.{To, NoService, NoRoute}
use Rattle.service_api.specs.Routes.{hop, default_route}
use Rattle.plan_meaning.specs.declared.binding.Binding.{Binding}
use Rattle.plan_meaning.specs.declared.stop.EvalStop.TheVariants.{WorkSpent}
use Rattle.plan_meaning.specs.State.{VisitState}
use Rattle.plan_meaning.specs.Run.{Run, ◌>>=◌, ◌>>◌, pure, stop, raise, quiet, gave, or_wrong, wrong, given_value, rescue, whole, serve, sends}

-- ---- what values are taken for

abbrev pub bool_at : ValueLayer → Option Bool
bool_at (Value-F.Bool b) = Some b
bool_at _ = None

abbrev pub int_at : ValueLayer → Option ℤ
int_at (Value-F.Int n) = Some n
int_at _ = None

abbrev pub host_at : ValueLayer → Option Host
host_at (Value-F.Host h) = Some h
host_at _ = None

abbrev pub dev_at : ValueLayer → Option Dev
dev_at (Value-F.Dev d) = Some d
dev_at _ = None

abbrev pub chunk_at : ValueLayer → Option Chunk
chunk_at (Value-F.Chunk k) = Some k
chunk_at _ = None

abbrev pub items_at : ValueLayer → Option (List Value)
items_at (Value-F.List t vs) = Some vs
items_at _ = None

unfoldable pub as_bool : Value → Option Bool
as_bool v = bool_at (out-Value v)

unfoldable pub as_int : Value → Option ℤ
as_int v = int_at (out-Value v)

unfoldable pub as_host : Value → Option Host
as_host v = host_at (out-Value v)

unfoldable pub as_dev : Value → Option Dev
as_dev v = dev_at (out-Value v)

unfoldable pub as_chunk : Value → Option Chunk
as_chunk v = chunk_at (out-Value v)

unfoldable pub as_items : Value → Option (List Value)
as_items v = items_at (out-Value v)

-- ---- bindings

abbrev pub Env : Type 0
Env = List Binding

abbrev pub binds : Name → Value → Binding
binds x v = record { name = x; value = v }

abbrev pub value_if : Binding → Name → Option Value
value_if b x = if bytes_eq b.name x then Some b.value else None

-- the value of a name's innermost binding, which is the last
abbrev pub value_of : Name → Env → Option Value
value_of x [] = None
value_of x (b ∷ bs) = option_or (value_of x bs) (value_if b x)

-- behind some bindings the parameters with the arguments in their order; None where their numbers differ
abbrev pub bound_behind : Env → List Param → List Value → Option Env
bound_behind done [] [] = Some done
bound_behind done (p ∷ ps) (v ∷ vs) = bound_behind (done ++ binds p.name v ∷ []) ps vs
bound_behind done _ _ = None

unfoldable pub bound : List Param → List Value → Option Env
bound ps vs = bound_behind [] ps vs

-- ---- paying and sending

abbrev pub no_bound : Exn
no_bound = exception (codes "NoBound")

abbrev pub no_route : Exn
no_route = exception (codes "NoRoute")

abbrev pub not_neighbour : Exn
not_neighbour = exception (codes "NotNeighbor")

-- an eval pays 1 of the purse
unfoldable pub pay_eval : Run (Unit {0})
pay_eval = λ s. if s.ctx.purse == 0 then raise no_bound s else quiet
    (gave tt (record s { ctx = record s.ctx { purse = s.ctx.purse - 1 }; evals = s.evals + 1 }))

-- whether a bound is at least 1 and at most the purse
abbrev pub is_paid : ℤ → ℕ → Bool
is_paid (pos n) purse = nat_le 1 n && nat_le n purse
is_paid (negsuc n) purse = false

abbrev pub bound_of : ℤ → ℕ
bound_of (pos n) = n
bound_of (negsuc n) = 0

abbrev pub packet : VisitState → Chunk → Host → ℕ → Name → Packet
packet s k h n r = record { family = s.family; dest = h; bound = n; route = r; chunk = k; handler = None }

-- a packet of this family with that bound, which the purse pays
abbrev pub sent_packet : Dev → Chunk → Host → ℕ → Name → Run (Unit {0})
sent_packet dev k h n r = λ s. record {
  after = gave tt (record s { ctx = record s.ctx { purse = s.ctx.purse - n }; outbox = s.outbox ++ record { dev = dev; packet = packet s k h n r } ∷ [] });
  asks = sends k;
}

abbrev pub sent_by : Hop → Chunk → Host → ℕ → Name → Run (Unit {0})
sent_by (To via dev) k h n r = sent_packet dev k h n r
sent_by NoService k h n r = raise no_service
sent_by NoRoute k h n r = raise no_route

unfoldable pub send_remote : Chunk → Host → ℤ → Name → Run (Unit {0})
send_remote k h n r = λ s. if is_paid n s.ctx.purse then sent_by (hop s.ctx.router r s.ctx.here h) k h (bound_of n) r s else raise no_bound s

-- whether the host is the first neighbour on the device
abbrev pub leads_to : List (Host × Dev) → Dev → Host → Bool
leads_to [] d h = false
leads_to (m ∷ ms) d h = if m.1.0 == d.0 then m.0.0 == h.0 else leads_to ms d h

-- whether the host is next over the device; device 0 leads to the node itself
unfoldable pub is_next : VisitState → Dev → Host → Bool
is_next s d h = if d.0 == 0 then s.ctx.here.0 == h.0 else leads_to s.ctx.neighbours d h

unfoldable pub send_neighbour : Chunk → Host → ℤ → Dev → Run (Unit {0})
send_neighbour k h n d =
    λ s. if is_paid n s.ctx.purse then
    (if is_next s d h then sent_packet d k h (bound_of n) default_route s else raise not_neighbour s) else raise no_bound s

-- ---- exceptions

-- whether a clause catches an exception
abbrev pub catches : Option Name → Exn → Bool
catches None x = true
catches (Some name) x = bytes_eq name x.0

abbrev pub named_exception : Name → Exn
named_exception x = record { 0 = x }

-- ---- the forms, by the meaning of their parts

-- how an expression runs in a program, below its first `seen` functions and under bindings
abbrev pub Runs : Type 0
Runs = Program → ℕ → Env → Expr → Run Value

module _ (run : Runs) where
  -- values in order, behind those that are done
  abbrev pub values_behind : List Value → Program → ℕ → Env → List Expr → Run (List Value)
  values_behind done code seen env [] = pure done
  values_behind done code seen env (e ∷ es) = run code seen env e >>= (λ v. values_behind (done ++ v ∷ []) code seen env es)

  unfoldable pub values : Program → ℕ → Env → List Expr → Run (List Value)
  values code seen env es = values_behind [] code seen env es

  -- the body of the function at a place, with the parameters bound and nothing else
  unfoldable pub entered_function : Program → ℕ → List Value → Run Value
  entered_function code at args = do
    f ← or_wrong (slice_get code.funs at)
    env ← or_wrong (bound f.params args)
    run code at env f.body

  abbrev pub applied_at : Program → Option ℕ → List Value → Run Value
  applied_at code (Some at) args = entered_function code at args
  applied_at code None args = wrong

  -- a function of that name among the first `seen`
  unfoldable pub applied_function : Program → ℕ → Name → List Value → Run Value
  applied_function code seen f args = applied_at code (place_of f (take seen code.funs)) args

  abbrev pub served_or : Option Svc → Program → ℕ → Name → List Value → Run Value
  served_or (Some d) code seen f args = serve d args
  served_or None code seen f args = applied_function code seen f args

  abbrev pub called_by : Option Primitive → Program → ℕ → Name → List Value → Run Value
  called_by (Some p) code seen f args = given_value (primitive p args)
  called_by None code seen f args = served_or (service_of f code.svcs) code seen f args

  -- a primitive, a declared service or an earlier function
  unfoldable pub called_name : Program → ℕ → Name → List Value → Run Value
  called_name code seen f args = called_by (prim_of f) code seen f args

  unfoldable pub call : Program → ℕ → Env → Name → List Expr → Run Value
  call code seen env f es = values code seen env es >>= called_name code seen f

  unfoldable pub tuple : Program → ℕ → Env → List Expr → Run Value
  tuple code seen env es = values code seen env es >>= (λ vs. pure (value.Tuple vs))

  unfoldable pub packed_chunk : Program → ℕ → Env → Name → List Expr → Run Value
  packed_chunk code seen env f es = values code seen env es >>= (λ vs. pure (value.Chunk (record { code = code; entry = f; args = vs })))

  unfoldable pub choice : Program → ℕ → Env → Expr → Expr → Expr → Run Value
  choice code seen env test a b = do
    v ← run code seen env test
    t ← or_wrong (as_bool v)
    if t then run code seen env a else run code seen env b

  unfoldable pub binding : Program → ℕ → Env → Name → Expr → Expr → Run Value
  binding code seen env x a b = run code seen env a >>= (λ v. run code seen (env ++ binds x v ∷ []) b)

  unfoldable pub sequence : Program → ℕ → Env → Expr → Expr → Run Value
  sequence code seen env a b = run code seen env a >> run code seen env b

  unfoldable pub conjunction : Program → ℕ → Env → Expr → Expr → Run Value
  conjunction code seen env a b = do
    v ← run code seen env a
    t ← or_wrong (as_bool v)
    if t then run code seen env b else pure (value.Bool false)

  unfoldable pub disjunction : Program → ℕ → Env → Expr → Expr → Run Value
  disjunction code seen env a b = do
    v ← run code seen env a
    t ← or_wrong (as_bool v)
    if t then pure (value.Bool true) else run code seen env b

  unfoldable pub negation : Program → ℕ → Env → Expr → Run Value
  negation code seen env a = do
    v ← run code seen env a
    t ← or_wrong (as_bool v)
    pure (value.Bool (not t))

  unfoldable pub operation : Program → ℕ → Env → Op → Expr → Expr → Run Value
  operation code seen env o a b = do
    x ← run code seen env a
    y ← run code seen env b
    given_value (binary o x y)

  unfoldable pub selection : Program → ℕ → Env → ℕ → Expr → Run Value
  selection code seen env i a = run code seen env a >>= (λ v. given_value (part i v))

  -- the first clause of that name or `_`, else the exception goes on
  abbrev pub handled_exception : Program → ℕ → Env → List Clause → Exn → Run Value
  handled_exception code seen env [] x = raise x
  handled_exception code seen env (k ∷ ks) x = if catches k.name x then run code seen env k.body else handled_exception code seen env ks x

  unfoldable pub attempt : Program → ℕ → Env → Expr → List Clause → Run Value
  attempt code seen env a ks = rescue (run code seen env a) (handled_exception code seen env ks)

  -- f(acc, item) along the items
  abbrev pub left_along : Program → ℕ → Name → Value → List Value → Run Value
  left_along code seen f acc [] = pure acc
  left_along code seen f acc (x ∷ xs) = applied_function code seen f (acc ∷ x ∷ []) >>= (λ v. left_along code seen f v xs)

  unfoldable pub fold_left : Program → ℕ → Env → Name → Expr → Expr → Run Value
  fold_left code seen env f a l = do
    acc ← run code seen env a
    v ← run code seen env l
    xs ← or_wrong (as_items v)
    left_along code seen f acc xs

  -- f(item, acc) along the items
  abbrev pub right_along : Program → ℕ → Name → Value → List Value → Run Value
  right_along code seen f acc [] = pure acc
  right_along code seen f acc (x ∷ xs) = applied_function code seen f (x ∷ acc ∷ []) >>= (λ v. right_along code seen f v xs)

  -- from the last item
  unfoldable pub fold_right : Program → ℕ → Env → Name → Expr → Expr → Run Value
  fold_right code seen env f a l = do
    acc ← run code seen env a
    v ← run code seen env l
    xs ← or_wrong (as_items v)
    right_along code seen f acc (reverse xs)

  -- the entry of a chunk in its own code
  unfoldable pub visited_chunk : Chunk → Run Value
  visited_chunk k = applied_at k.code (place_of k.entry k.code.funs) k.args

  -- 1 is paid, and the value is dropped
  unfoldable pub evaluation : Program → ℕ → Env → Expr → Run Value
  evaluation code seen env a = do
    v ← run code seen env a
    k ← or_wrong (as_chunk v)
    pay_eval
    visited_chunk k
    pure value.Unit

  unfoldable pub remote : Program → ℕ → Env → Expr → Expr → Expr → Name → Run Value
  remote code seen env a h n r = do
    v ← run code seen env a
    k ← or_wrong (as_chunk v)
    w ← run code seen env h
    host ← or_wrong (as_host w)
    u ← run code seen env n
    bound ← or_wrong (as_int u)
    send_remote k host bound r
    pure value.Unit

  unfoldable pub neighbour : Program → ℕ → Env → Expr → Expr → Expr → Expr → Run Value
  neighbour code seen env a h n d = do
    v ← run code seen env a
    k ← or_wrong (as_chunk v)
    w ← run code seen env h
    host ← or_wrong (as_host w)
    u ← run code seen env n
    bound ← or_wrong (as_int u)
    t ← run code seen env d
    dev ← or_wrong (as_dev t)
    send_neighbour k host bound dev
    pure value.Unit

  abbrev pub empty_of : Option Ty → Run Value
  empty_of (Some t) = pure (value.List t [])
  empty_of None = wrong

  abbrev pub opened_at : Program → ℕ → Env → ExprLayer → Run Value
  opened_at code seen env Expr-F.Unit = pure value.Unit
  opened_at code seen env (Expr-F.Bool b) = pure (value.Bool b)
  opened_at code seen env (Expr-F.Int n) = pure (value.Int n)
  opened_at code seen env (Expr-F.Char c) = pure (value.Char c)
  opened_at code seen env (Expr-F.Str s) = pure (value.Str s)
  opened_at code seen env (Expr-F.Blob b) = pure (value.Blob b)
  opened_at code seen env (Expr-F.Host h) = pure (value.Host h)
  opened_at code seen env (Expr-F.Dev d) = pure (value.Dev d)
  opened_at code seen env (Expr-F.Nil t) = empty_of t
  opened_at code seen env (Expr-F.Var x) = or_wrong (value_of x env)
  opened_at code seen env (Expr-F.Tuple es) = tuple code seen env es
  opened_at code seen env (Expr-F.Call f es) = call code seen env f es
  opened_at code seen env (Expr-F.If t a b) = choice code seen env t a b
  opened_at code seen env (Expr-F.Let x t a b) = binding code seen env x a b
  opened_at code seen env (Expr-F.Then a b) = sequence code seen env a b
  opened_at code seen env (Expr-F.And a b) = conjunction code seen env a b
  opened_at code seen env (Expr-F.Or a b) = disjunction code seen env a b
  opened_at code seen env (Expr-F.Not a) = negation code seen env a
  opened_at code seen env (Expr-F.Binary o a b) = operation code seen env o a b
  opened_at code seen env (Expr-F.Part i a) = selection code seen env i a
  opened_at code seen env (Expr-F.Raise x t) = raise (named_exception x)
  opened_at code seen env (Expr-F.Try a ks) = attempt code seen env a ks
  opened_at code seen env (Expr-F.Foldl f a l) = fold_left code seen env f a l
  opened_at code seen env (Expr-F.Foldr f a l) = fold_right code seen env f a l
  opened_at code seen env (Expr-F.ChunkOf f es) = packed_chunk code seen env f es
  opened_at code seen env (Expr-F.Eval a) = evaluation code seen env a
  opened_at code seen env (Expr-F.OnRemote a h n r) = remote code seen env a h n r
  opened_at code seen env (Expr-F.OnNeighbor a h n d) = neighbour code seen env a h n d

  unfoldable pub opened_expression : Program → ℕ → Env → Expr → Run Value
  opened_expression code seen env e = opened_at code seen env (out-Expr e)

  -- an expression with what it spends
  unfoldable pub node : Program → ℕ → Env → Expr → Run Value
  node code seen env e = whole (opened_expression code seen env e)

-- the meaning, cut off at a depth of so many expressions
unfoldable pub run_to : ℕ → Runs
run_to zero code seen env e = stop WorkSpent
run_to (suc fuel) code seen env e = node (run_to fuel) code seen env e

-- The meaning. Each expression spends 1 before its parts run, so none stands deeper than one more than the work left.
unfoldable pub meaning : Runs
meaning code seen env e = λ s. run_to (suc s.work) code seen env e s
