-- Whether two types are the same, level by level.
use Rattle.std.specs.Prelude.{Bool, true, false, ◌&&◌, List, [], ◌∷◌}
use Rattle.plan_base.specs.declared.tree.Ty.{Ty, Ty-F, out-Ty, fold-Ty}
use Rattle.plan_base.specs.Trees.{TyLayer}

-- whether two types are the same, level by level
abbrev pub same_all : List (Ty → Bool) → List Ty → Bool
same_all [] [] = true
same_all [] (u ∷ us) = false
same_all (f ∷ fs) [] = false
same_all (f ∷ fs) (u ∷ us) = f u && same_all fs us

abbrev pub same_layer : Ty-F (Ty → Bool) → TyLayer → Bool
same_layer Ty-F.Unit Ty-F.Unit = true
same_layer Ty-F.Bool Ty-F.Bool = true
same_layer Ty-F.Int Ty-F.Int = true
same_layer Ty-F.Char Ty-F.Char = true
same_layer Ty-F.Str Ty-F.Str = true
same_layer Ty-F.Blob Ty-F.Blob = true
same_layer Ty-F.Host Ty-F.Host = true
same_layer Ty-F.Dev Ty-F.Dev = true
same_layer Ty-F.Chunk Ty-F.Chunk = true
same_layer (Ty-F.List f) (Ty-F.List u) = f u
same_layer (Ty-F.Tuple fs) (Ty-F.Tuple us) = same_all fs us
same_layer _ _ = false

unfoldable pub same_type : Ty → Ty → Bool
same_type = fold-Ty (Ty → Bool) (λ l u. same_layer l (out-Ty u))
