-- Functions that may handle: one parameter of type string, and result unit.
use Rattle.std.specs.Prelude.{◌≡◌, Bool, true, false, ◌&&◌, List, [], ◌∷◌, Option, Some, None}
use Rattle.plan_base.specs.declared.name.Name.{Name}
use Rattle.plan_base.specs.declared.tree.Ty.{Ty, Ty-F, out-Ty}
use Rattle.plan_base.specs.declared.tree.Param.{Param}
use Rattle.plan_base.specs.declared.tree.Fun.{Fun}
use Rattle.plan_base.specs.declared.tree.Program.{Program}
use Rattle.plan_base.specs.declared.tree.Chunk.{Chunk}
use Rattle.plan_types_spec.specs.TypingOrder.{fun_of}

abbrev pub is_string : Ty-F Ty → Bool
is_string Ty-F.Str = true
is_string _ = false

abbrev pub is_unit : Ty-F Ty → Bool
is_unit Ty-F.Unit = true
is_unit _ = false

-- one parameter, of type string
abbrev pub is_one_string : List Param → Bool
is_one_string [] = false
is_one_string (p ∷ []) = is_string (out-Ty p.ty)
is_one_string (p ∷ q ∷ ps) = false

-- a function that may handle: one parameter of type string, result unit
abbrev pub handles : Option Fun → Bool
handles None = false
handles (Some d) = is_one_string d.params && is_unit (out-Ty d.result)

-- whether a program has such a function of that name
unfoldable pub is_handler : Program → Name → Bool
is_handler code n = handles (fun_of code n)

-- the handler of a chunk's packet, if it has one, is such a function of the chunk's code
abbrev pub MayHandle : Chunk → Option Name → Type 0
MayHandle c None = Unit {0}
MayHandle c (Some n) = is_handler c.code n ≡ true
