-- What a serving node has under its hands, and what its calls leave of it.
use Rattle.std.specs.Prelude.{◌≡◌, ◌≢◌, ℕ, ◌≤◌, ◌⊎◌, IsTrue, List, Result, Ok, Err}
use Rattle.node_io.specs.Causes.{HasRisen}
use Rattle.node_io.specs.Clocks.{ClockState}
use Rattle.node_io.specs.FileMaps.{file_at}
use Rattle.node_io.specs.FileStates.{FilesState, OnlyWrites}
use Rattle.node_io.specs.Links.{LinkState}
use Rattle.node_io.specs.Sinks.{SinkState}
use Rattle.node_core_spec.specs.State.{NodeState}
use Rattle.node_serve.specs.Shown.{Seen, Start}
use Rattle.node_serve.specs.declared.fault.ServeFault.{ServeFault}
use Rattle.node_serve.specs.declared.fault.ServeFault.TheVariants.{LinkFault, WriteFault, NoMemory}

-- the files, of which a serving node writes the log, the output and the link
pub record Desk : Type 0 where
  pub files : FilesState
  pub out : SinkState
  pub link : LinkState

abbrev pub desk : FilesState → SinkState → LinkState → Desk
desk files out link = record { files = files; out = out; link = link }

-- all that a serving node is handed: its desk and a clock
pub record Serving : Type 0 where
  pub files : FilesState
  pub out : SinkState
  pub link : LinkState
  pub clock : ClockState

abbrev pub serving : FilesState → SinkState → LinkState → ClockState → Serving
serving files out link clock = record { files = files; out = out; link = link; clock = clock }

abbrev pub desk_of : Serving → Desk
desk_of s = record { files = s.files; out = s.out; link = s.link }

abbrev pub with_clock : Desk → ClockState → Serving
with_clock d clock = record { files = d.files; out = d.out; link = d.link; clock = clock }

-- what of a desk a run changes
abbrev pub seen_at : Desk → Seen
seen_at d = record { files = d.files.held; target = d.files.target; taken = d.out.taken; sent = d.link.sent }

-- what a run begins over, where the node is this one
abbrev pub start_at : Desk → NodeState → Start
start_at d node = record { files = d.files.held; taken = d.out.taken; sent = d.link.sent; node = node }

-- all of it is observable
abbrev pub IsSeen : Desk → Type 0
IsSeen d = IsTrue d.files.observable × IsTrue d.out.observable × IsTrue d.link.observable

-- every file but the one of this name is as before
abbrev pub OthersStay : List ℕ → FilesState → FilesState → Type 0
OthersStay name old new = IsTrue old.observable → (other : List ℕ) → other ≢ name → file_at new.held other ≡ file_at old.held other

-- nothing was read, and no count of faults fell
pub record OnlyServes (old new : Desk) : Type 0 where
  pub files : OnlyWrites old.files new.files
  pub out : new.out.observable ≡ old.out.observable
  pub out_later : old.out.faults ≤ new.out.faults
  pub link : new.link.observable ≡ old.link.observable
  pub link_later : old.link.faults ≤ new.link.faults

-- what every call from the opening on leaves: the log is the file being written, the link is bound, and no other file is touched
pub record KeepsDesk (old new : Desk) : Type 0 where
  pub only : OnlyServes old new
  pub made : new.files.made ≡ old.files.made
  pub writing : new.files.writing ≡ old.files.writing
  pub target : new.files.target ≡ old.files.target
  pub others : OthersStay old.files.target old.files new.files
  pub bound : new.link.bound ≡ old.link.bound
  pub binds : new.link.binds ≡ old.link.binds

-- a fault comes only where its count rose
abbrev pub Faults : {T : Type 0} → Desk → Desk → Result T ServeFault → Type 0
Faults old new (Ok x) = Unit {0}
Faults old new (Err LinkFault) = HasRisen old.link.faults new.link.faults
Faults old new (Err WriteFault) = HasRisen old.files.write_faults new.files.write_faults ⊎ HasRisen old.out.faults new.out.faults
Faults old new (Err NoMemory) = Unit {0}
