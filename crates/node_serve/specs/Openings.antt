-- The opening of a serving node: the link is bound, and then the log and the trace are begun.
use Rattle.std.specs.Prelude.{◌≡◌, ◌≤◌, IsTrue, true, [], ◌∷◌, ◌++◌, Result, Ok, Err, MatchResult, OnOk}
use Rattle.network_config.specs.declared.serve.ServeConfig.{ServeConfig}
use Rattle.node_files.specs.LogTexts.{head_text}
use Rattle.node_io.specs.Causes.{HasRisen}
use Rattle.node_io.specs.FileMaps.{ChangesOnly, SavesFront, MayName}
use Rattle.node_io.specs.FileStates.{FilesState, OnlyWrites}
use Rattle.node_io.specs.Links.{LinkState}
use Rattle.node_log.specs.Runs.{peers_of}
use Rattle.node_serve.specs.Desks.{Desk, IsSeen, OthersStay, OnlyServes, Faults}
use Rattle.node_serve.specs.Served.{IsBound, MayBind, Begins, EndsEarly}
use Rattle.node_serve.specs.declared.fault.ServeFault.{ServeFault}
use Rattle.node_serve.specs.declared.fault.ServeFault.TheVariants.{LinkFault, WriteFault, NoMemory}

-- ---- the link

-- the link has the peers of the node, or a bind that failed left none
abbrev pub BindResult : {T : Type 0} → ServeConfig → LinkState → LinkState → Result T ServeFault → Type 0
BindResult cfg old new (Ok x) = (new.bound ≡ peers_of cfg) × (IsTrue old.observable → IsBound cfg old new)
BindResult cfg old new (Err LinkFault) = (new.bound ≡ []) × MayBind cfg old new × HasRisen old.faults new.faults
BindResult cfg old new (Err WriteFault) = ⊥
BindResult cfg old new (Err NoMemory) = new ≡ old

pub record BindsNode {T : Type 0} (cfg : ServeConfig) (old new : LinkState) (result : Result T ServeFault) : Type 0 where
  pub observable : new.observable ≡ old.observable
  pub script : new.script ≡ old.script
  pub sent : new.sent ≡ old.sent
  pub later : old.faults ≤ new.faults
  pub did : BindResult cfg old new result

-- the link was bound as that of the node once, or at most once where the call failed
abbrev pub MayBindNode : {T E : Type 0} → ServeConfig → LinkState → LinkState → Result T E → Type 0
MayBindNode cfg old new (Ok x) = IsTrue old.observable → IsBound cfg old new
MayBindNode cfg old new (Err e) = IsTrue old.observable → MayBind cfg old new

-- ---- the log

-- the log was made once, or at most once where the call failed
abbrev pub MakesLog : {T E : Type 0} → ServeConfig → FilesState → FilesState → Result T E → Type 0
MakesLog cfg old new result = MayName old.made new.made cfg.log × (IsTrue old.observable → OnOk result (new.made ≡ old.made ++ cfg.log ∷ []))

-- the log has its first lines and is being written, or a prefix of them, or it wasn't made
abbrev pub LogResult : {T : Type 0} → ServeConfig → FilesState → FilesState → Result T ServeFault → Type 0
LogResult cfg old new (Ok x) = (new.writing ≡ true)
    × (IsTrue old.observable → (new.target ≡ cfg.log) × ChangesOnly old.held new.held cfg.log (head_text cfg.node cfg.missing))
LogResult cfg old new (Err LinkFault) = ⊥
LogResult cfg old new (Err WriteFault) = HasRisen old.write_faults new.write_faults
    × (IsTrue old.observable → SavesFront old.held new.held cfg.log (head_text cfg.node cfg.missing))
LogResult cfg old new (Err NoMemory) = new ≡ old

pub record BeginsLog {T : Type 0} (cfg : ServeConfig) (old new : FilesState) (result : Result T ServeFault) : Type 0 where
  pub only : OnlyWrites old new
  pub made : MakesLog cfg old new result
  pub others : OthersStay cfg.log old new
  pub did : LogResult cfg old new result

-- ---- all of it

-- where the link couldn't be bound, nothing was made or written
abbrev pub NoneUnbound : Desk → Desk → Type 0
NoneUnbound old new = new.link.bound ≡ [] → (new.files ≡ old.files) × (new.out ≡ old.out)

-- the log is being written, and the link has the peers of the node
pub record IsReady (cfg : ServeConfig) (d : Desk) : Type 0 where
  pub writing : IsTrue d.files.writing
  pub target : IsTrue d.files.observable → d.files.target ≡ cfg.log
  pub bound : d.link.bound ≡ peers_of cfg

pub record Opens {T : Type 0} (cfg : ServeConfig) (old new : Desk) (result : Result T ServeFault) : Type 0 where
  pub only : OnlyServes old new
  pub faults : Faults old new result
  pub made : MakesLog cfg old.files new.files result
  pub others : OthersStay cfg.log old.files new.files
  pub binds : MayBindNode cfg old.link new.link result
  pub unbound : NoneUnbound old new
  pub ready : OnOk result (IsReady cfg new)
  pub begun : IsSeen old → MatchResult result (λ _. Begins cfg old new) (λ _. EndsEarly cfg old new)
