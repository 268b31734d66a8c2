-- The program of a ping: it goes to a host, and from there an answer comes back and prints.
use Rattle.std.specs.Prelude.{ℕ, List, [], ◌∷◌, codes}
use Rattle.plan_base.specs.declared.tree.Ty.{Ty}
use Rattle.plan_base.specs.declared.tree.Ty.TheVariants as ty
use Rattle.plan_base.specs.declared.tree.Expr.{Expr}
use Rattle.plan_base.specs.declared.tree.Expr.TheVariants as expr
use Rattle.plan_base.specs.declared.tree.Param.{Param}
use Rattle.plan_base.specs.declared.tree.Svc.{Svc}
use Rattle.plan_base.specs.declared.tree.Fun.{Fun}
use Rattle.plan_base.specs.declared.tree.Program.{Program}

-- ---- its services

abbrev pub this_host_is : Svc
this_host_is = record { name = codes "thisHostIs"; params = ty.Host ∷ []; result = ty.Bool }

abbrev pub get_rb : Svc
get_rb = record { name = codes "getRB"; params = []; result = ty.Int }

abbrev pub print : Svc
print = record { name = codes "print"; params = ty.Str ∷ []; result = ty.Unit }

-- ---- the answer

abbrev pub ack_body : Expr
ack_body = expr.Call (codes "print") (expr.Str (codes "Success") ∷ [])

abbrev pub ack_fun : Fun
ack_fun = record { name = codes "ack"; params = []; result = ty.Unit; body = ack_body }

-- ---- the ping

abbrev pub src : Expr
src = expr.Var (codes "src")

abbrev pub dest : Expr
dest = expr.Var (codes "dest")

abbrev pub away_test : Expr
away_test = expr.Not (expr.Call (codes "thisHostIs") (dest ∷ []))

-- the bound that is left
abbrev pub purse : Expr
purse = expr.Call (codes "getRB") []

abbrev pub sent : Expr → Expr → Expr
sent chunk host = expr.OnRemote chunk host purse (codes "defaultRoute")

abbrev pub ping_again : Expr
ping_again = expr.ChunkOf (codes "ping") (src ∷ dest ∷ [])

abbrev pub answer : Expr
answer = expr.ChunkOf (codes "ack") []

abbrev pub ping_body : Expr
ping_body = expr.If away_test (sent ping_again dest) (sent answer src)

abbrev pub param : List ℕ → Ty → Param
param name t = record { name = name; ty = t }

abbrev pub ping_params : List Param
ping_params = param (codes "src") ty.Host ∷ param (codes "dest") ty.Host ∷ []

abbrev pub ping_fun : Fun
ping_fun = record { name = codes "ping"; params = ping_params; result = ty.Unit; body = ping_body }

-- ---- the program

abbrev pub ping_services : List Svc
ping_services = this_host_is ∷ get_rb ∷ print ∷ []

abbrev pub ping_program : Program
ping_program = record { svcs = ping_services; exns = []; funs = ack_fun ∷ ping_fun ∷ [] }
