use Rattle.std.specs.Prelude.{◌≡◌, ℕ, List, Bool, true, false, Some, None, Result, Ok, Err}
use Rattle.std.specs.Int.{w32}
use Rattle.containers.specs.Reading.{◌>>=◌}
use Rattle.plan_base.specs.declared.limit.Limit.{Limit}
use Rattle.plan_base.specs.declared.tree.Ty.{Ty}
use Rattle.plan_base.specs.declared.tree.Ty.TheVariants as ty
use Rattle.chunk_codec_spec.specs.declared.fault.SpellFault.{SpellFault}
use Rattle.chunk_codec_spec.specs.declared.fault.SpellFault.TheVariants.{NoMemory}
use Rattle.chunk_codec_spec.specs.declared.tags.TypeTag.{TypeTag}
use Rattle.plan_base.specs.declared.tree.Expr.{Expr}
use Rattle.plan_base.specs.declared.tree.Expr.TheVariants as expr
use Rattle.plan_base.specs.declared.tree.Clause.{Clause}
use Rattle.plan_base.specs.declared.tree.Svc.{Svc}
use Rattle.plan_base.specs.declared.tree.Param.{Param}
use Rattle.plan_base.specs.declared.tree.Fun.{Fun}
use Rattle.plan_base.specs.declared.tree.Program.{Program}
use Rattle.plan_base.specs.declared.tree.Value.{Value}
use Rattle.plan_base.specs.declared.tree.Value.TheVariants as value
use Rattle.plan_base.specs.declared.tree.Chunk.{Chunk}
use Rattle.chunk_codec_spec.specs.declared.tags.ExprTag.{ExprTag}
use Rattle.chunk_codec_spec.specs.declared.tags.ValueTag.{ValueTag}
use Rattle.chunk_codec_spec.specs.Scan.{Scan, Reader, number_field, int_field, flag_field, char_field, text_field, blob_field, name_field}
use Rattle.chunk_codec_spec.specs.Scan.{operator_field, count_field}
use Rattle.chunk_codec_spec.specs.Parts.{counted_at, listed_at}
use Rattle.chunk_codec_spec.specs.Types.{type_part}
use Rattle.chunk_codec_spec.specs.Exprs.{expr_core, clause_tag_at}
use Rattle.chunk_codec_spec.specs.Programs.{program_at}
use Rattle.chunk_codec_spec.specs.Values.{value_core, chunk_at, value_part}

-- memory may be wanting at any time; every other fault is the one that the reading has
abbrev pub Fails : {A : Type 0} → SpellFault → Result A SpellFault → Type 0
Fails NoMemory read = Unit {0}
Fails e read = read ≡ Err e

-- a call answers what the reading gives, and stands where the reading came to
abbrev pub Gives : {A : Type 0} → Result A SpellFault → Scan → Result (A × Scan) SpellFault → Type 0
Gives (Ok x) new read = read ≡ Ok (x, new)
Gives (Err e) new read = Fails e read

-- the same, for what is lent
abbrev pub Lends : {A B : Type 0} → (A → B) → Result A SpellFault → Scan → Result (B × Scan) SpellFault → Type 0
Lends view (Ok x) new read = read ≡ Ok (view x, new)
Lends view (Err e) new read = Fails e read

abbrev pub type_at : ℕ → Reader Ty
type_at room = (type_part room).read

-- what is behind a type's tag
unfoldable pub type_behind : Reader Ty → TypeTag → Reader Ty
type_behind inner TypeTag.Unit s = Ok (ty.Unit, s)
type_behind inner TypeTag.Bool s = Ok (ty.Bool, s)
type_behind inner TypeTag.Int s = Ok (ty.Int, s)
type_behind inner TypeTag.Char s = Ok (ty.Char, s)
type_behind inner TypeTag.Str s = Ok (ty.Str, s)
type_behind inner TypeTag.Blob s = Ok (ty.Blob, s)
type_behind inner TypeTag.Host s = Ok (ty.Host, s)
type_behind inner TypeTag.Dev s = Ok (ty.Dev, s)
type_behind inner TypeTag.Chunk s = Ok (ty.Chunk, s)
type_behind inner TypeTag.List s = do
  t ← inner s
  Ok (ty.List t.0, t.1)
type_behind inner TypeTag.Tuple s = do
  ts ← counted_at Limit.Parts 2 8 inner s
  Ok (ty.Tuple ts.0, ts.1)

abbrev pub expr_at : ℕ → Reader Expr
expr_at room = (expr_core room).read

-- what is behind a clause's tag
unfoldable pub clause_behind : Reader Expr → Bool → Reader Clause
clause_behind inner false s = do
  e ← inner s
  Ok (record { name = None; body = e.0 }, e.1)
clause_behind inner true s = do
  n ← name_field s
  e ← inner n.1
  Ok (record { name = Some n.0; body = e.0 }, e.1)

-- a clause, which may be the last
unfoldable pub clause_at : Reader Expr → Bool → Reader Clause
clause_at inner last s = do
  named ← clause_tag_at last s
  clause_behind inner named.0 named.1

-- what is behind an expression's tag
unfoldable pub expr_behind : Reader Expr → Reader (List Clause) → ExprTag → Reader Expr
expr_behind inner clauses ExprTag.Unit s = Ok (expr.Unit, s)
expr_behind inner clauses ExprTag.Bool s = do
  p0 ← flag_field s
  Ok (expr.Bool p0.0, p0.1)
expr_behind inner clauses ExprTag.Int s = do
  p0 ← int_field s
  Ok (expr.Int p0.0, p0.1)
expr_behind inner clauses ExprTag.Char s = do
  p0 ← char_field s
  Ok (expr.Char p0.0, p0.1)
expr_behind inner clauses ExprTag.Str s = do
  p0 ← text_field s
  Ok (expr.Str p0.0, p0.1)
expr_behind inner clauses ExprTag.Blob s = do
  p0 ← blob_field s
  Ok (expr.Blob p0.0, p0.1)
expr_behind inner clauses ExprTag.Host s = do
  p0 ← number_field w32 s
  Ok (expr.Host (record { 0 = p0.0 }), p0.1)
expr_behind inner clauses ExprTag.Dev s = do
  p0 ← number_field w32 s
  Ok (expr.Dev (record { 0 = p0.0 }), p0.1)
expr_behind inner clauses ExprTag.Nil s = do
  p0 ← type_at 7 s
  Ok (expr.Nil (Some p0.0), p0.1)
expr_behind inner clauses ExprTag.Var s = do
  p0 ← name_field s
  Ok (expr.Var p0.0, p0.1)
expr_behind inner clauses ExprTag.Tuple s = do
  p0 ← counted_at Limit.Parts 2 8 inner s
  Ok (expr.Tuple p0.0, p0.1)
expr_behind inner clauses ExprTag.Call s = do
  p0 ← name_field s
  p1 ← counted_at Limit.Arguments 0 8 inner p0.1
  Ok (expr.Call p0.0 p1.0, p1.1)
expr_behind inner clauses ExprTag.If s = do
  p0 ← inner s
  p1 ← inner p0.1
  p2 ← inner p1.1
  Ok (expr.If p0.0 p1.0 p2.0, p2.1)
expr_behind inner clauses ExprTag.Let s = do
  p0 ← name_field s
  p1 ← type_at 8 p0.1
  p2 ← inner p1.1
  p3 ← inner p2.1
  Ok (expr.Let p0.0 p1.0 p2.0 p3.0, p3.1)
expr_behind inner clauses ExprTag.Then s = do
  p0 ← inner s
  p1 ← inner p0.1
  Ok (expr.Then p0.0 p1.0, p1.1)
expr_behind inner clauses ExprTag.And s = do
  p0 ← inner s
  p1 ← inner p0.1
  Ok (expr.And p0.0 p1.0, p1.1)
expr_behind inner clauses ExprTag.Or s = do
  p0 ← inner s
  p1 ← inner p0.1
  Ok (expr.Or p0.0 p1.0, p1.1)
expr_behind inner clauses ExprTag.Not s = do
  p0 ← inner s
  Ok (expr.Not p0.0, p0.1)
expr_behind inner clauses ExprTag.Binary s = do
  p0 ← operator_field s
  p1 ← inner p0.1
  p2 ← inner p1.1
  Ok (expr.Binary p0.0 p1.0 p2.0, p2.1)
expr_behind inner clauses ExprTag.Part s = do
  p0 ← count_field Limit.Parts 1 8 s
  p1 ← inner p0.1
  Ok (expr.Part p0.0 p1.0, p1.1)
expr_behind inner clauses ExprTag.Raise s = do
  p0 ← name_field s
  p1 ← type_at 8 p0.1
  Ok (expr.Raise p0.0 (Some p1.0), p1.1)
expr_behind inner clauses ExprTag.Try s = do
  p0 ← inner s
  p1 ← clauses p0.1
  Ok (expr.Try p0.0 p1.0, p1.1)
expr_behind inner clauses ExprTag.Foldl s = do
  p0 ← name_field s
  p1 ← inner p0.1
  p2 ← inner p1.1
  Ok (expr.Foldl p0.0 p1.0 p2.0, p2.1)
expr_behind inner clauses ExprTag.Foldr s = do
  p0 ← name_field s
  p1 ← inner p0.1
  p2 ← inner p1.1
  Ok (expr.Foldr p0.0 p1.0 p2.0, p2.1)
expr_behind inner clauses ExprTag.ChunkOf s = do
  p0 ← name_field s
  p1 ← counted_at Limit.Arguments 0 8 inner p0.1
  Ok (expr.ChunkOf p0.0 p1.0, p1.1)
expr_behind inner clauses ExprTag.Eval s = do
  p0 ← inner s
  Ok (expr.Eval p0.0, p0.1)
expr_behind inner clauses ExprTag.OnRemote s = do
  p0 ← inner s
  p1 ← inner p0.1
  p2 ← inner p1.1
  p3 ← name_field p2.1
  Ok (expr.OnRemote p0.0 p1.0 p2.0 p3.0, p3.1)
expr_behind inner clauses ExprTag.OnNeighbor s = do
  p0 ← inner s
  p1 ← inner p0.1
  p2 ← inner p1.1
  p3 ← inner p2.1
  Ok (expr.OnNeighbor p0.0 p1.0 p2.0 p3.0, p3.1)

-- a parameter
unfoldable pub param_at : Reader Param
param_at s = do
  n ← name_field s
  t ← type_at 8 n.1
  Ok (record { name = n.0; ty = t.0 }, t.1)

-- a service
unfoldable pub service_at : Reader Svc
service_at s = do
  n ← name_field s
  ts ← counted_at Limit.Parameters 0 8 (type_at 8) n.1
  t ← type_at 8 ts.1
  Ok (record { name = n.0; params = ts.0; result = t.0 }, t.1)

-- a function
unfoldable pub function_at : Reader Fun
function_at s = do
  n ← name_field s
  ps ← counted_at Limit.Parameters 0 8 param_at n.1
  t ← type_at 8 ps.1
  e ← expr_at 64 t.1
  Ok (record { name = n.0; params = ps.0; result = t.0; body = e.0 }, e.1)

-- a program before it is judged
unfoldable pub program_fields : Reader Program
program_fields s = do
  svcs ← counted_at Limit.Services 0 64 service_at s
  exns ← counted_at Limit.Exceptions 0 64 name_field svcs.1
  funs ← counted_at Limit.Functions 1 64 function_at exns.1
  Ok (record { svcs = svcs.0; exns = exns.0; funs = funs.0 }, funs.1)

-- what is behind a value's tag
unfoldable pub value_behind : Reader Value → Reader Chunk → ValueTag → Reader Value
value_behind inner chunk ValueTag.Unit s = Ok (value.Unit, s)
value_behind inner chunk ValueTag.Bool s = do
  p0 ← flag_field s
  Ok (value.Bool p0.0, p0.1)
value_behind inner chunk ValueTag.Int s = do
  p0 ← int_field s
  Ok (value.Int p0.0, p0.1)
value_behind inner chunk ValueTag.Char s = do
  p0 ← char_field s
  Ok (value.Char p0.0, p0.1)
value_behind inner chunk ValueTag.Str s = do
  p0 ← text_field s
  Ok (value.Str p0.0, p0.1)
value_behind inner chunk ValueTag.Blob s = do
  p0 ← blob_field s
  Ok (value.Blob p0.0, p0.1)
value_behind inner chunk ValueTag.Host s = do
  p0 ← number_field w32 s
  Ok (value.Host (record { 0 = p0.0 }), p0.1)
value_behind inner chunk ValueTag.Dev s = do
  p0 ← number_field w32 s
  Ok (value.Dev (record { 0 = p0.0 }), p0.1)
value_behind inner chunk ValueTag.Chunk s = do
  p0 ← chunk s
  Ok (value.Chunk p0.0, p0.1)
value_behind inner chunk ValueTag.List s = do
  p0 ← type_at 7 s
  p1 ← listed_at inner p0.1
  Ok (value.List p0.0 p1.0, p1.1)
value_behind inner chunk ValueTag.Tuple s = do
  p0 ← counted_at Limit.Parts 2 8 inner s
  Ok (value.Tuple p0.0, p0.1)

abbrev pub value_at : ℕ → ℕ → Reader Value
value_at nest room = (value_core nest room).read

-- a chunk before it is judged
unfoldable pub chunk_fields : Reader Value → Reader Chunk
chunk_fields value s = do
  code ← program_at s
  entry ← name_field code.1
  args ← counted_at Limit.Arguments 0 8 value entry.1
  Ok (record { code = code.0; entry = entry.0; args = args.0 }, args.1)

abbrev pub chunk_read : ℕ → Reader Chunk
chunk_read nest = chunk_at nest (value_part nest 8)
