-- What is behind the tags of forms that are read alike.
use Rattle.std.specs.Prelude.{List, ℕ, Ok}
use Rattle.containers.specs.Reading.{◌>>=◌}
use Rattle.plan_base.specs.declared.limit.Limit.{Limit}
use Rattle.plan_base.specs.declared.tree.Expr.{Expr}
use Rattle.plan_base.specs.declared.tree.Expr.TheVariants as expr
use Rattle.chunk_codec_spec.specs.Scan.{Reader, name_field}
use Rattle.chunk_codec_spec.specs.Parts.{counted_at}
use Rattle.chunk_codec.specs.declared.shapes.Pair.{Pair}
use Rattle.chunk_codec.specs.declared.shapes.Fold.{Fold}
use Rattle.chunk_codec.specs.declared.shapes.Applied.{Applied}

abbrev pub pair_of : Pair → Expr → Expr → Expr
pair_of Pair.Then first second = expr.Then first second
pair_of Pair.And first second = expr.And first second
pair_of Pair.Or first second = expr.Or first second

abbrev pub fold_of : Fold → List ℕ → Expr → Expr → Expr
fold_of Fold.Left name start items = expr.Foldl name start items
fold_of Fold.Right name start items = expr.Foldr name start items

abbrev pub applied_of : Applied → List ℕ → List Expr → Expr
applied_of Applied.Called name args = expr.Call name args
applied_of Applied.Packed name args = expr.ChunkOf name args

-- two expressions
unfoldable pub pair_behind : Reader Expr → Pair → Reader Expr
pair_behind inner pair s = do
  p0 ← inner s
  p1 ← inner p0.1
  Ok (pair_of pair p0.0 p1.0, p1.1)

-- a name and two expressions
unfoldable pub fold_behind : Reader Expr → Fold → Reader Expr
fold_behind inner fold s = do
  p0 ← name_field s
  p1 ← inner p0.1
  p2 ← inner p1.1
  Ok (fold_of fold p0.0 p1.0 p2.0, p2.1)

-- a name and arguments
unfoldable pub applied_behind : Reader Expr → Applied → Reader Expr
applied_behind inner applied s = do
  p0 ← name_field s
  p1 ← counted_at Limit.Arguments 0 8 inner p0.1
  Ok (applied_of applied p0.0 p1.0, p1.1)
