-- What a step of a serving node gives.
use Rattle.std.specs.Prelude.{◌≡◌, ℕ, ◌≤◌, ◌<◌, ◌⊎◌, Bool, true, false, IsTrue, List, ◌++◌, length, Option, None, IfSome, Result, Ok, Err}
use Rattle.plan_base.specs.declared.stamp.Version.{Version}
use Rattle.plan_base.specs.declared.ids.Dev.{Dev}
use Rattle.node_io.specs.FileMaps.{FileMap, WritesMore}
use Rattle.node_serve.specs.Fronts.{AppendsFront, WritesFront}
use Rattle.node_io.specs.Causes.{HasRisen}
use Rattle.node_io.specs.Sinks.{SinkState, Writes, FailsIn}
use Rattle.node_io.specs.FileStates.{FilesState, Adds, FailsAdding}
use Rattle.node_io.specs.Links.{LinkState}
use Rattle.packet_frame.specs.declared.frame.PlainStamped.{PlainStamped}
use Rattle.network_config.specs.declared.node.NodeConfig.{NodeConfig}
use Rattle.network_config.specs.declared.event.Event.{Event}
use Rattle.network_config.specs.declared.event.LogEvent.TheVariants.{Step}
use Rattle.network_config.specs.NodeRules.{KeepsNodeEvent}
use Rattle.service_api.specs.Services.{ServiceState}
use Rattle.node_files.specs.LogTexts.{entry_text}
use Rattle.node_core_spec.specs.declared.acts.Acts.{Acts}
use Rattle.node_core_spec.specs.Fits.{comes_within}
use Rattle.node_core_spec.specs.State.{NodeState}
use Rattle.node_core_spec.specs.Node.{node_step}
use Rattle.node_core.specs.declared.node.Node.{Node}
use Rattle.node_core.specs.Stands.{NodeStands}
use Rattle.node_log.specs.Runs.{acts_of, node_by, entries_at}
use Rattle.node_log.specs.Follow.{entry_of}
use Rattle.node_log.specs.Texts.{lines_text}
use Rattle.node_serve.specs.Sendings.{sending}
use Rattle.node_serve.specs.Shown.{IsReadable}
use Rattle.node_serve.specs.declared.fault.ServeFault.{ServeFault}
use Rattle.node_serve.specs.declared.fault.ServeFault.TheVariants.{LinkFault, WriteFault, NoMemory}
use Rattle.node_serve.specs.declared.steps.StepOutcome.{StepOutcome}
use Rattle.node_serve.specs.declared.steps.StepOutcome.TheVariants.{Lost, Took}
use Rattle.node_serve.specs.declared.steps.StepTexts.{StepTexts}

-- whether a step was refused
abbrev pub was_lost : StepOutcome → Bool
was_lost Lost = true
was_lost (Took frame) = false

-- the frame that a step took
abbrev pub frame_of : StepOutcome → Option PlainStamped
frame_of Lost = None
frame_of (Took frame) = frame

-- an event that found memory keeps the limits of its plan, and may come to a node of this version
pub record MayCome (plan node : Version) (event : Option Event) : Type 0 where
  pub keeps : IfSome event (KeepsNodeEvent plan)
  pub within : IfSome event (comes_within node)

-- bytes that a link hears come on a device up to 8, and are 1 to 16,513
pub record HeardFits (d : Dev) (bytes : List ℕ) : Type 0 where
  pub device : d.0 ≤ 8
  pub some : 0 < length bytes
  pub few : length bytes ≤ 16513

-- the texts of a step that was made, which did these acts
pub record TookTexts (config : NodeConfig) (number : ℕ) (e : Event) (acts : Acts) (texts : StepTexts) : Type 0 where
  pub line : texts.line ≡ entry_text (Step e)
  pub readable : IsReadable config.version (Step e)
  pub lines : texts.lines ≡ lines_text config.here (entries_at number acts.list)
  pub made : texts.made ≡ Took acts.frame

-- a step with this number of a node that began so: its log line, its lines, the node afterwards, and the frame that it took
pub record Written {S : Type 0} (stands : S → ServiceState) (config : NodeConfig) (number : ℕ) (s : NodeState) (e : Event)
    (texts : StepTexts) (new : Node S) : Type 0 where
  pub line : texts.line ≡ entry_text (entry_of (was_lost texts.made) e)
  pub lines : texts.lines ≡ lines_text config.here (entries_at number (acts_of s (entry_of (was_lost texts.made) e)))
  pub node : NodeStands stands new (node_by s (entry_of (was_lost texts.made) e))
  pub frame : was_lost texts.made ≡ false → frame_of texts.made ≡ (node_step s e).frame
  pub readable : IsReadable config.version (entry_of (was_lost texts.made) e)

-- a line of the log and its lines of the trace were written, or prefixes of them, the log first
pub data WrittenFront (old new : FileMap) (target line taken grown lines : List ℕ) : Type 0 where
  in_log : WritesFront old new target line → grown ≡ taken → WrittenFront old new target line taken grown lines
  in_trace : WritesMore old new target line → AppendsFront taken grown lines → WrittenFront old new target line taken grown lines

-- a line of the log and its lines of the trace were written, or prefixes of them, the log first
abbrev pub WritesStep : {T E : Type 0} → List ℕ → List ℕ → FilesState → FilesState → SinkState → SinkState → Result T E → Type 0
WritesStep line lines files files_new out out_new (Ok x) = Adds files files_new line × Writes out out_new lines
WritesStep line lines files files_new out out_new (Err e) =
    (FailsAdding files files_new line × (out_new ≡ out)) ⊎ (Adds files files_new line × FailsIn out out_new lines)

-- the frame that was taken was sent, or none where the link failed
abbrev pub SendResult : {T : Type 0} → Dev → Option PlainStamped → LinkState → LinkState → Result T ServeFault → Type 0
SendResult d frame old new (Ok x) = IsTrue old.observable → new.sent ≡ old.sent ++ sending d frame
SendResult d frame old new (Err LinkFault) = (new.sent ≡ old.sent) × HasRisen old.faults new.faults
SendResult d frame old new (Err WriteFault) = ⊥
SendResult d frame old new (Err NoMemory) = ⊥

pub record SendsTaken {T : Type 0} (d : Dev) (frame : Option PlainStamped) (old new : LinkState) (result : Result T ServeFault) : Type 0 where
  pub observable : new.observable ≡ old.observable
  pub script : new.script ≡ old.script
  pub binds : new.binds ≡ old.binds
  pub bound : new.bound ≡ old.bound
  pub later : old.faults ≤ new.faults
  pub did : SendResult d frame old new result
