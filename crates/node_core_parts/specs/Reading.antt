-- What reading bytes as a node of a version comes to.
use Rattle.std.specs.Prelude.{◌≡◌, ◌⊎◌, ℕ, List, Result, Ok, Err, IfOk, IfErr}
use Rattle.plan_base.specs.declared.stamp.Version.{Version}
use Rattle.packet_frame.specs.declared.checked.Stamped.{Stamped}
use Rattle.packet_frame.specs.declared.fault.FrameFault.{FrameFault}
use Rattle.packet_frame.specs.Typed.{plain_of}
use Rattle.packet_frame.specs.Stamped.{stamped_plain}
use Rattle.packet_frame.specs.Decoding.{read_by}
use Rattle.node_core_spec.specs.Node.{mark_of}
use Rattle.node_core_parts.specs.Carried.{MayBear, MayGoOn, asks_within}

-- the answer is that of the definition, where memory is there; an ask has a bound of at most 65,535, a packet may go on from a node
-- of this version, and no frame bears a stamp under version 1
pub record ComesTo (v : Version) (bytes : List ℕ) (r : Result Stamped FrameFault) : Type 0 where
  pub found : IfOk r (λ x. read_by v bytes ≡ Ok (stamped_plain x))
  pub fault : IfErr r (λ e. (e ≡ FrameFault.NoMemory) ⊎ (read_by v bytes ≡ Err e))
  pub within : IfOk r (λ x. asks_within (plain_of x.frame))
  pub carried : (boot : ℕ) → IfOk r (λ x. MayGoOn (mark_of v boot) (plain_of x.frame))
  pub borne : IfOk r (λ x. MayBear v x.stamp)
