-- What a serving node did, whatever of it is observable.
use Rattle.std.specs.Prelude.{ℕ, ◌≤◌, IsTrue, Result}
use Rattle.network_config.specs.declared.serve.ServeConfig.{ServeConfig}
use Rattle.node_core_spec.specs.State.{NodeState}
use Rattle.node_io.specs.FileStates.{OnlyWrites}
use Rattle.service_api.specs.Services.{ServiceState}
use Rattle.node_log.specs.Runs.{opened_run}
use Rattle.node_serve.specs.Stays.{StandsFor}
use Rattle.node_serve.specs.Desks.{Desk, Serving, desk_of, with_clock, IsSeen, OthersStay, KeepsDesk, Faults}
use Rattle.node_serve.specs.Served.{Begins, Ends}
use Rattle.node_serve.specs.Openings.{MayBindNode, MakesLog, NoneUnbound}
use Rattle.node_serve.specs.declared.server.Server.{Server}
use Rattle.node_serve.specs.declared.fault.ServeFault.{ServeFault}

-- all turns were made from an opening on, and the trace was ended; or it failed in one of these
pub record Finishes {S T : Type 0} (stands : S → ServiceState) (cfg : ServeConfig) (turns : ℕ) (server : Server S)
    (old new : Serving) (result : Result T ServeFault) : Type 0 where
  pub keeps : KeepsDesk (desk_of old) (desk_of new)
  pub faults : Faults (desk_of old) (desk_of new) result
  pub ends : IsSeen (desk_of old) → IsTrue old.clock.observable → (node : NodeState) (first : Desk) → StandsFor stands server (opened_run node)
      → Begins cfg first (desk_of old) → Ends cfg node turns (with_clock first old.clock) new result

-- a node served so many turns, or a prefix of them where it failed: only the log was made and written, the link was bound only
-- once and before it, and each fault has its count
pub record Serves {T : Type 0} (cfg : ServeConfig) (node : NodeState) (turns : ℕ) (old new : Serving) (result : Result T ServeFault) : Type 0 where
  pub only : OnlyWrites old.files new.files
  pub out_later : old.out.faults ≤ new.out.faults
  pub link_later : old.link.faults ≤ new.link.faults
  pub faults : Faults (desk_of old) (desk_of new) result
  pub made : MakesLog cfg old.files new.files result
  pub others : OthersStay cfg.log old.files new.files
  pub binds : MayBindNode cfg old.link new.link result
  pub unbound : NoneUnbound (desk_of old) (desk_of new)
  pub runs : IsSeen (desk_of old) → IsTrue old.clock.observable → Ends cfg node turns old new result

-- a server that stands for a run that is opened serves as its node
abbrev pub ServesAs : {S T : Type 0} → (S → ServiceState) → ServeConfig → Server S → ℕ → Serving → Serving → Result T ServeFault → Type 0
ServesAs stands cfg server turns old new result = (node : NodeState) → StandsFor stands server (opened_run node) → Serves cfg node turns old new result
