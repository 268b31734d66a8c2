-- The program of a reliable port: messages are delivered to port 1 of their destination, and acks to port 2.
use Rattle.std.specs.Prelude.{ℕ, ℤ, pos, List, [], ◌∷◌, codes}
use Rattle.plan_base.specs.declared.ids.Host.{Host}
use Rattle.plan_base.specs.declared.tree.Ty.{Ty}
use Rattle.plan_base.specs.declared.tree.Ty.TheVariants as ty
use Rattle.plan_base.specs.declared.tree.Expr.{Expr}
use Rattle.plan_base.specs.declared.tree.Expr.TheVariants as expr
use Rattle.plan_base.specs.declared.tree.Param.{Param}
use Rattle.plan_base.specs.declared.tree.Svc.{Svc}
use Rattle.plan_base.specs.declared.tree.Fun.{Fun}
use Rattle.plan_base.specs.declared.tree.Program.{Program}
use Rattle.plan_base.specs.declared.tree.Chunk.{Chunk}
use Rattle.plan_base.specs.declared.tree.Value.{Value}
use Rattle.plan_base.specs.declared.tree.Value.TheVariants as value

-- ---- its services

abbrev pub this_host_is : Svc
this_host_is = record { name = codes "thisHostIs"; params = ty.Host ∷ []; result = ty.Bool }

abbrev pub get_rb : Svc
get_rb = record { name = codes "getRB"; params = []; result = ty.Int }

-- the type of what is delivered
abbrev pub delivered_type : Ty
delivered_type = ty.Tuple (ty.Int ∷ ty.Blob ∷ [])

abbrev pub deliver : Svc
deliver = record { name = codes "deliver"; params = ty.Int ∷ delivered_type ∷ []; result = ty.Unit }

-- ---- what both functions do: where the packet is at its destination it delivers, else it goes on

abbrev pub dest : Expr
dest = expr.Var (codes "dest")

abbrev pub arrived_test : Expr
arrived_test = expr.Call (codes "thisHostIs") (dest ∷ [])

-- the bound that is left
abbrev pub purse : Expr
purse = expr.Call (codes "getRB") []

abbrev pub delivers : Expr → Expr → Expr
delivers port message = expr.Call (codes "deliver") (port ∷ message ∷ [])

abbrev pub goes_on : Expr → Expr
goes_on chunk = expr.OnRemote chunk dest purse (codes "defaultRoute")

abbrev pub param : List ℕ → Ty → Param
param name t = record { name = name; ty = t }

-- ---- the function of messages

abbrev pub seq : Expr
seq = expr.Var (codes "seq")

abbrev pub body : Expr
body = expr.Var (codes "body")

abbrev pub data_delivered : Expr
data_delivered = delivers (expr.Int (pos 1)) (expr.Tuple (seq ∷ body ∷ []))

abbrev pub data_again : Expr
data_again = expr.ChunkOf (codes "data") (dest ∷ seq ∷ body ∷ [])

abbrev pub data_body : Expr
data_body = expr.If arrived_test data_delivered (goes_on data_again)

abbrev pub data_params : List Param
data_params = param (codes "dest") ty.Host ∷ param (codes "seq") ty.Int ∷ param (codes "body") ty.Blob ∷ []

abbrev pub data_fun : Fun
data_fun = record { name = codes "data"; params = data_params; result = ty.Unit; body = data_body }

-- ---- the function of acks

abbrev pub following : Expr
following = expr.Var (codes "next")

abbrev pub ack_delivered : Expr
ack_delivered = delivers (expr.Int (pos 2)) (expr.Tuple (following ∷ expr.Blob [] ∷ []))

abbrev pub ack_again : Expr
ack_again = expr.ChunkOf (codes "ack") (dest ∷ following ∷ [])

abbrev pub ack_body : Expr
ack_body = expr.If arrived_test ack_delivered (goes_on ack_again)

abbrev pub ack_params : List Param
ack_params = param (codes "dest") ty.Host ∷ param (codes "next") ty.Int ∷ []

abbrev pub ack_fun : Fun
ack_fun = record { name = codes "ack"; params = ack_params; result = ty.Unit; body = ack_body }

-- ---- the program, and its chunks

abbrev pub port_services : List Svc
port_services = this_host_is ∷ get_rb ∷ deliver ∷ []

abbrev pub port_program : Program
port_program = record { svcs = port_services; exns = []; funs = data_fun ∷ ack_fun ∷ [] }

abbrev pub data_args : Host → ℤ → List ℕ → List Value
data_args dest seq body = value.Host dest ∷ value.Int seq ∷ value.Blob body ∷ []

-- the chunk that carries a message, with its number, to a host
abbrev pub data_chunk : Host → ℤ → List ℕ → Chunk
data_chunk dest seq body = record { code = port_program; entry = codes "data"; args = data_args dest seq body }

abbrev pub ack_args : Host → ℤ → List Value
ack_args dest next = value.Host dest ∷ value.Int next ∷ []

-- the chunk that carries an ack to a host: the number of the message that is awaited
abbrev pub ack_chunk : Host → ℤ → Chunk
ack_chunk dest next = record { code = port_program; entry = codes "ack"; args = ack_args dest next }
