-- A request to a serving node: what is bound, sent and written for it, after each answer.
use Rattle.std.specs.Prelude.{ℕ, IsTrue, ◌≡◌, ◌⊎◌, ◌≤◌, List, [], ◌∷◌, ◌++◌, length, Result, Ok, Err}
use Rattle.std.specs.Fmt.{decimal}
use Rattle.std.specs.String.{string_bytes}
use lib.Chars.{codes}
use Rattle.network_config.specs.declared.fleet.AskFile.{AskFile}
use Rattle.network_config.specs.Hosts.{dev_of}
use Rattle.packet_frame.specs.declared.frame.PlainFrame.{PlainFrame}
use Rattle.packet_frame.specs.Bytes.{frame_bytes}
use Rattle.node_io.specs.declared.link.Peer.{Peer}
use Rattle.node_io.specs.Causes.{HasRisen}
use Rattle.node_io.specs.Links.{Bind, Heard, LinkState}
use Rattle.node_io.specs.Sinks.{SinkState, Writes, FailsIn}
use Rattle.fleet_run.specs.declared.ask.Prepared.{Prepared}
use Rattle.fleet_run.specs.declared.fault.AskFault.{AskFault}
use Rattle.fleet_run.specs.declared.fault.AskFault.TheVariants.{LinkFault, WriteFault, NoMemory}

-- the bytes of the frame
abbrev pub ask_frame : AskFile → List ℕ
ask_frame a = frame_bytes (PlainFrame.Ask a.bound a.chunk)

-- the one peer: the node, on device 0
abbrev pub ask_peers : AskFile → List Peer
ask_peers a = (record { dev = dev_of 0; port = a.to }) ∷ []

-- the bind and the frame with its device
abbrev pub ask_bind : AskFile → Bind
ask_bind a = (a.from, ask_peers a)

abbrev pub ask_sent : AskFile → Heard
ask_sent a = (dev_of 0, ask_frame a)

-- the line of a port and a number of bytes
abbrev pub asked_line : ℕ → ℕ → List ℕ
asked_line port n = codes "asked " ++ (decimal port ++ (codes " bytes " ++ (decimal n ++ codes "\n")))

abbrev pub ask_line : AskFile → List ℕ
ask_line a = asked_line a.to (length (ask_frame a))

-- the link was bound once, so
abbrev pub Bound : AskFile → LinkState → LinkState → Type 0
Bound a old new = IsTrue old.observable → new.binds ≡ old.binds ++ ask_bind a ∷ []

-- so at most; a bind that failed may have found no memory for its entry
abbrev pub MayBind : AskFile → LinkState → LinkState → Type 0
MayBind a old new = IsTrue old.observable → (new.binds ≡ old.binds) ⊎ (new.binds ≡ old.binds ++ ask_bind a ∷ [])

-- the one frame was sent
abbrev pub Sent : AskFile → LinkState → LinkState → Type 0
Sent a old new = IsTrue old.observable → new.sent ≡ old.sent ++ ask_sent a ∷ []

-- what stands of the bind, the frame and the line
abbrev pub AskResult : {T : Type 0} → AskFile → LinkState → LinkState → SinkState → SinkState → Result T AskFault → Type 0
AskResult a old new out_old out_new (Ok x) = Bound a old new × Sent a old new × Writes out_old out_new (ask_line a)
AskResult a old new out_old out_new (Err LinkFault) = HasRisen old.faults new.faults × MayBind a old new × (new.sent ≡ old.sent) × (out_new ≡ out_old)
AskResult a old new out_old out_new (Err WriteFault) = Bound a old new × Sent a old new × FailsIn out_old out_new (ask_line a)
AskResult a old new out_old out_new (Err NoMemory) = (new ≡ old) × (out_new ≡ out_old)

-- a request was sent, on a link from which nothing was taken
pub record Asks {T : Type 0} (a : AskFile) (old new : LinkState) (out_old out_new : SinkState) (result : Result T AskFault) : Type 0 where
  pub observable : new.observable ≡ old.observable
  pub script : new.script ≡ old.script
  pub later : old.faults ≤ new.faults
  pub did : AskResult a old new out_old out_new result

-- the one bind and the one frame, or what stands of them where the link failed
abbrev pub OneResult : {T E : Type 0} → Bind → Heard → LinkState → LinkState → Result T E → Type 0
OneResult bind frame old new (Ok x) = (IsTrue old.observable → new.binds ≡ old.binds ++ bind ∷ []) × (IsTrue old.observable → new.sent ≡ old.sent ++ frame ∷ [])
OneResult bind frame old new (Err e) =
    HasRisen old.faults new.faults × (IsTrue old.observable → (new.binds ≡ old.binds) ⊎ (new.binds ≡ old.binds ++ bind ∷ []))
    × (new.sent ≡ old.sent)

pub record SendsOne {T E : Type 0} (bind : Bind) (frame : Heard) (old new : LinkState) (result : Result T E) : Type 0 where
  pub observable : new.observable ≡ old.observable
  pub script : new.script ≡ old.script
  pub later : old.faults ≤ new.faults
  pub did : OneResult bind frame old new result

-- what a request needs was made for it: its frame, its peers and its line
pub record IsPrepared (a : AskFile) (made : Prepared) : Type 0 where
  pub frame : made.frame ≡ ask_frame a
  pub peers : made.peers ≡ ask_peers a
  pub line : string_bytes made.line ≡ ask_line a
