-- The program of a part: it goes to its destination, and is delivered there.
use Rattle.std.specs.Prelude.{ℕ, List, [], ◌∷◌, codes}
use Rattle.plan_base.specs.declared.tree.Ty.{Ty}
use Rattle.plan_base.specs.declared.tree.Ty.TheVariants as ty
use Rattle.plan_base.specs.declared.tree.Expr.{Expr}
use Rattle.plan_base.specs.declared.tree.Expr.TheVariants as expr
use Rattle.plan_base.specs.declared.tree.Param.{Param}
use Rattle.plan_base.specs.declared.tree.Svc.{Svc}
use Rattle.plan_base.specs.declared.tree.Fun.{Fun}
use Rattle.plan_base.specs.declared.tree.Program.{Program}

-- ---- its services

abbrev pub this_host_is : Svc
this_host_is = record { name = codes "thisHostIs"; params = ty.Host ∷ []; result = ty.Bool }

abbrev pub get_rb : Svc
get_rb = record { name = codes "getRB"; params = []; result = ty.Int }

-- the type of what is delivered
abbrev pub delivered_type : Ty
delivered_type = ty.Tuple (ty.Int ∷ ty.Int ∷ ty.Int ∷ ty.Blob ∷ [])

abbrev pub deliver : Svc
deliver = record { name = codes "deliver"; params = ty.Int ∷ delivered_type ∷ []; result = ty.Unit }

-- ---- its function: where the packet is at its destination it delivers, else it goes on

abbrev pub dest : Expr
dest = expr.Var (codes "dest")

abbrev pub port : Expr
port = expr.Var (codes "port")

abbrev pub key : Expr
key = expr.Var (codes "key")

abbrev pub index : Expr
index = expr.Var (codes "index")

abbrev pub count : Expr
count = expr.Var (codes "count")

abbrev pub piece : Expr
piece = expr.Var (codes "data")

abbrev pub arrived_test : Expr
arrived_test = expr.Call (codes "thisHostIs") (dest ∷ [])

-- the bound that is left
abbrev pub purse : Expr
purse = expr.Call (codes "getRB") []

abbrev pub said : Expr
said = expr.Tuple (key ∷ index ∷ count ∷ piece ∷ [])

abbrev pub delivers : Expr
delivers = expr.Call (codes "deliver") (port ∷ said ∷ [])

abbrev pub again : Expr
again = expr.ChunkOf (codes "part") (dest ∷ port ∷ key ∷ index ∷ count ∷ piece ∷ [])

abbrev pub goes_on : Expr
goes_on = expr.OnRemote again dest purse (codes "defaultRoute")

abbrev pub part_body : Expr
part_body = expr.If arrived_test delivers goes_on

abbrev pub param : List ℕ → Ty → Param
param name t = record { name = name; ty = t }

abbrev pub said_params : List Param
said_params = param (codes "key") ty.Int ∷ param (codes "index") ty.Int ∷ param (codes "count") ty.Int ∷ param (codes "data") ty.Blob ∷ []

abbrev pub part_params : List Param
part_params = param (codes "dest") ty.Host ∷ param (codes "port") ty.Int ∷ said_params

abbrev pub part_fun : Fun
part_fun = record { name = codes "part"; params = part_params; result = ty.Unit; body = part_body }

-- ---- the program

abbrev pub part_services : List Svc
part_services = this_host_is ∷ get_rb ∷ deliver ∷ []

abbrev pub part_program : Program
part_program = record { svcs = part_services; exns = []; funs = part_fun ∷ [] }
