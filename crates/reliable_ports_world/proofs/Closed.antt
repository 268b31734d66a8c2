-- The visits of the two chunks of a port, for anything that is allowed.
use Rattle.std.proofs.Common.{◌≡◌, ℕ, ℤ, pos, List, [], ◌∷◌, None, refl}
use Rattle.std.specs.Prelude.{codes}
use Rattle.plan_base.specs.declared.ids.Host.{Host}
use Rattle.plan_base.specs.declared.tree.Expr.TheVariants as expr
use Rattle.plan_base.specs.declared.tree.Value.{Value}
use Rattle.plan_base.specs.declared.tree.Value.TheVariants as value
use Rattle.plan_types_spec.specs.TypingNames.{prim_of}
use Rattle.plan_meaning.specs.Meaning.{Env, binds, bound, run_to}
use Rattle.plan_meaning.specs.State.{VisitState}
use Rattle.reliable_ports.specs.Programs as port
use Rattle.reliable_ports.specs.Programs.{port_program, data_chunk, data_fun, ack_chunk, ack_fun, this_host_is, get_rb, deliver}
use Rattle.reliable_ports_world.specs.Only.{Allowed, Good, Serves}
use Rattle.reliable_ports_world.specs.Visits.{VisitIsGood, Any, data_said, ack_said}
use Rattle.reliable_ports_world.proofs.Rules.{only_visited, chooses, calls_service, sends_on, gives_var, gives_int, gives_blob, gives_tuple, gives_chunk, only_any, Gives_value}

-- what the parameters of a message's function are bound to
abbrev data_env : Host → ℤ → List ℕ → Env
data_env dest seq body = binds (codes "dest") (value.Host dest) ∷ binds (codes "seq") (value.Int seq) ∷ binds (codes "body") (value.Blob body) ∷ []

-- no service has the name of a primitive
not_prim : (prim_of (codes "thisHostIs") ≡ None) × (prim_of (codes "getRB") ≡ None) × (prim_of (codes "deliver") ≡ None)
unfolding prim_of
not_prim = (refl, refl, refl)

-- what those of an ack's function are bound to
abbrev ack_env : Host → ℤ → Env
ack_env dest next = binds (codes "dest") (value.Host dest) ∷ binds (codes "next") (value.Int next) ∷ []

-- a message, where it may be sent on and its note may be made
pub data_closed : (al : Allowed) (dest : Host) (seq : ℤ) (body : List ℕ) → al.chunk (data_chunk dest seq body)
    → Serves al this_host_is (value.Host dest ∷ []) Any → Serves al get_rb [] Any → Serves al deliver (value.Int (pos 1) ∷ data_said seq body ∷ []) Any
    → (s : VisitState) → Good al s → VisitIsGood al (data_chunk dest seq body) s
unfolding bound
data_closed al dest seq body k h g d s good =
    only_visited al (data_chunk dest seq body) 0 data_fun env refl refl refl
    (chooses al port_program 0 env _ _ _
    (calls_service al Any port_program 0 env (codes "thisHostIs") this_host_is (port.dest ∷ []) (value.Host dest ∷ []) not_prim.0 refl (the_dest, tt) h)
    (calls_service al Any port_program 0 env (codes "deliver") deliver (expr.Int (pos 1) ∷ expr.Tuple (port.seq ∷ port.body ∷ []) ∷ []) (value.Int (pos 1) ∷ data_said seq body ∷ []) not_prim.2 refl
    (gives_int al port_program 0 env (pos 1), (gives_tuple al port_program 0 env (port.seq ∷ port.body ∷ []) (value.Int seq ∷ value.Blob body ∷ []) (the_seq, (the_body, tt)), tt)) d)
    (sends_on al port_program 0 env _ _ _ (codes "defaultRoute") (data_chunk dest seq body)
    (gives_chunk al port_program 0 env (codes "data") (port.dest ∷ port.seq ∷ port.body ∷ []) (value.Host dest ∷ value.Int seq ∷ value.Blob body ∷ []) (the_dest, (the_seq, (the_body, tt))))
    k
    (λ n. only_any al (λ w. w ≡ value.Host dest) (run_to n port_program 0 env port.dest) (the_dest n))
    (calls_service al Any port_program 0 env (codes "getRB") get_rb [] [] not_prim.1 refl tt g)))
    s good
  where
    env : Env
    env = data_env dest seq body

    the_dest : Gives_value al port_program 0 env port.dest (value.Host dest)
    the_dest = gives_var al port_program 0 env (codes "dest") (value.Host dest) refl

    the_seq : Gives_value al port_program 0 env (port.seq) (value.Int seq)
    the_seq = gives_var al port_program 0 env (codes "seq") (value.Int seq) refl

    the_body : Gives_value al port_program 0 env (port.body) (value.Blob body)
    the_body = gives_var al port_program 0 env (codes "body") (value.Blob body) refl

-- an ack
pub ack_closed : (al : Allowed) (dest : Host) (next : ℤ) → al.chunk (ack_chunk dest next)
    → Serves al this_host_is (value.Host dest ∷ []) Any → Serves al get_rb [] Any → Serves al deliver (value.Int (pos 2) ∷ ack_said next ∷ []) Any
    → (s : VisitState) → Good al s → VisitIsGood al (ack_chunk dest next) s
unfolding bound
ack_closed al dest next k h g d s good =
    only_visited al (ack_chunk dest next) 1 ack_fun env refl refl refl
    (chooses al port_program 1 env _ _ _
    (calls_service al Any port_program 1 env (codes "thisHostIs") this_host_is (port.dest ∷ []) (value.Host dest ∷ []) not_prim.0 refl (the_dest, tt) h)
    (calls_service al Any port_program 1 env (codes "deliver") deliver (expr.Int (pos 2) ∷ expr.Tuple (port.following ∷ expr.Blob [] ∷ []) ∷ []) (value.Int (pos 2) ∷ ack_said next ∷ []) not_prim.2 refl
    (gives_int al port_program 1 env (pos 2), (gives_tuple al port_program 1 env (port.following ∷ expr.Blob [] ∷ []) (value.Int next ∷ value.Blob [] ∷ []) (the_next, (gives_blob al port_program 1 env [], tt)), tt)) d)
    (sends_on al port_program 1 env _ _ _ (codes "defaultRoute") (ack_chunk dest next)
    (gives_chunk al port_program 1 env (codes "ack") (port.dest ∷ port.following ∷ []) (value.Host dest ∷ value.Int next ∷ []) (the_dest, (the_next, tt)))
    k
    (λ n. only_any al (λ w. w ≡ value.Host dest) (run_to n port_program 1 env port.dest) (the_dest n))
    (calls_service al Any port_program 1 env (codes "getRB") get_rb [] [] not_prim.1 refl tt g)))
    s good
  where
    env : Env
    env = ack_env dest next

    the_dest : Gives_value al port_program 1 env port.dest (value.Host dest)
    the_dest = gives_var al port_program 1 env (codes "dest") (value.Host dest) refl

    the_next : Gives_value al port_program 1 env (port.following) (value.Int next)
    the_next = gives_var al port_program 1 env (codes "next") (value.Int next) refl
