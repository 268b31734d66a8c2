-- What stands outside while a run goes on.
use Rattle.std.specs.Prelude.{◌≡◌, ℕ, ◌≤◌, ◌+◌, ◌⊎◌, List, ◌++◌, length, take, drop, Some, Result, MatchResult}
use Rattle.std.specs.List.{All}
use Rattle.plan_base.specs.declared.stamp.Version.{Version}
use Rattle.network_config.specs.declared.serve.ServeConfig.{ServeConfig}
use Rattle.network_config.specs.declared.event.LogEvent.{LogEvent}
use Rattle.network_config.specs.NodeRules.{KeepsEntry}
use Rattle.node_files.specs.LogTexts.{log_text, IsSpellable}
use Rattle.node_io.specs.FileMaps.{FileMap, file_at, ChangesOnly}
use Rattle.node_serve.specs.Fronts.{AppendsFront}
use Rattle.node_io.specs.Links.{Heard}
use Rattle.node_core_spec.specs.State.{NodeState}
use Rattle.node_log.specs.Runs.{Running, Action, opened_run, played_entries}
use Rattle.node_log.specs.Texts.{begun_trace, whole_trace}
use Rattle.node_log.specs.Follow.{Ext, Fits}
use Rattle.node_serve.specs.Sendings.{frames_of}

-- the files, the name of the file being written, the bytes that the output took, and the frames sent
pub record Seen : Type 0 where
  pub files : FileMap
  pub target : List ℕ
  pub taken : List ℕ
  pub sent : List Heard

-- what stood outside when a run began, and its node
pub record Start : Type 0 where
  pub files : FileMap
  pub taken : List ℕ
  pub sent : List Heard
  pub node : NodeState

-- the log of some entries
abbrev pub entries_log : ServeConfig → List LogEvent → List ℕ
entries_log cfg events = log_text (record { node = cfg.node; missing = cfg.missing; events = events })

-- the log and the trace of a run so far
abbrev pub run_log : ServeConfig → Running → List ℕ
run_log cfg r = entries_log cfg r.events

abbrev pub run_trace : ServeConfig → Running → List ℕ
run_trace cfg r = begun_trace cfg.node.here r.entries

-- an entry keeps the limits of a log of this version, and its line can be read again
pub record IsReadable (v : Version) (e : LogEvent) : Type 0 where
  pub keeps : KeepsEntry v e
  pub spells : IsSpellable e

-- since the beginning, the log is that of the run so far, and the trace was written; a frame that was taken may be left to send
pub record Sees (cfg : ServeConfig) (base : Start) (seen : Seen) (r : Running) : Type 0 where
  pub grows : Ext (opened_run base.node) r
  pub log : ChangesOnly base.files seen.files cfg.log (run_log cfg r)
  pub target : seen.target ≡ cfg.log
  pub out : seen.taken ≡ base.taken ++ run_trace cfg r
  pub sent : seen.sent ≡ base.sent ++ r.sent
  pub readable : All (IsReadable cfg.node.version) r.events

-- and the frames that its entries send were sent
pub record Shows (cfg : ServeConfig) (base : Start) (seen : Seen) (r : Running) : Type 0 where
  pub sees : Sees cfg base seen r
  pub frames : r.sent ≡ frames_of base.node r.events

-- the file of the log has the lines of these entries, and perhaps more
pub record HasLogged (cfg : ServeConfig) (files : FileMap) (events : List LogEvent) : Type 0 where
  pub more : List ℕ
  pub there : file_at files cfg.log ≡ Some (entries_log cfg events ++ more)

-- log, output and frames sent know of each other: so many entries were made whole, and perhaps one more was logged; the log has the
-- lines of all of these, the output the lines of the whole ones and a prefix of the next one's, and the frames sent are those of the whole ones
pub record Agrees (cfg : ServeConfig) (base : Start) (seen : Seen) (events : List LogEvent) : Type 0 where
  pub made : ℕ
  pub logged : ℕ
  pub next : (logged ≡ made) ⊎ (logged ≡ made + 1)
  pub few : logged ≤ length events
  pub log : HasLogged cfg seen.files (take logged events)
  pub out : AppendsFront base.taken seen.taken (whole_trace cfg.node.here (played_entries 0 base.node (take logged events)))
  pub lines : length (begun_trace cfg.node.here (played_entries 0 base.node (take made events))) ≤ out.count
  pub sent : seen.sent ≡ base.sent ++ frames_of base.node (take made events)

-- the log and what was written are prefixes of those of the run so far, and its frames were sent, and they agree
pub record Fronts (cfg : ServeConfig) (base : Start) (seen : Seen) (r : Running) : Type 0 where
  pub count : ℕ
  pub log : ChangesOnly base.files seen.files cfg.log (take count (run_log cfg r))
  pub out : AppendsFront base.taken seen.taken (run_trace cfg r)
  pub sent : seen.sent ≡ base.sent ++ r.sent
  pub readable : All (IsReadable cfg.node.version) r.events
  pub agrees : Agrees cfg base seen r.events

-- from r the run went on as this action does, with the steps refused that its log says, and all of it stands outside
pub record Reached (stands : Running → Type 0) (cfg : ServeConfig) (base : Start) (seen : Seen) (r : Running) (act : Action) : Type 0 where
  pub done : Running
  pub grows : Ext r done
  pub is : (refused : List ℕ) → Fits refused done.events → done ≡ act refused r
  pub stands_for : stands done
  pub shows : Shows cfg base seen done

-- from r the run went on to a prefix of what this action does, and prefixes of it stand outside
pub record Stopped (cfg : ServeConfig) (base : Start) (seen : Seen) (r : Running) (act : Action) : Type 0 where
  pub done : Running
  pub grows : Ext r done
  pub within : (refused : List ℕ) → Fits refused done.events → Ext done (act refused r)
  pub shows : Fronts cfg base seen done

abbrev pub Leaves : {T E : Type 0} → (Running → Type 0) → ServeConfig → Start → Seen → Running → Action → Result T E → Type 0
Leaves stands cfg base seen r act result = MatchResult result (λ _. Reached stands cfg base seen r act) (λ _. Stopped cfg base seen r act)

-- one entry of a list was used, or none where the call failed
abbrev pub UsesOne : {T E A : Type 0} → List A → List A → Result T E → Type 0
UsesOne old new result = MatchResult result (λ _. new ≡ drop 1 old) (λ _. (new ≡ old) ⊎ (new ≡ drop 1 old))

-- no more than so many entries were used
pub record UsedUpTo {A : Type 0} (most : ℕ) (old new : List A) : Type 0 where
  pub count : ℕ
  pub few : count ≤ most
  pub is : new ≡ drop count old

-- so many entries were used, or no more than so many where the call failed
abbrev pub UsesUpTo : {T E A : Type 0} → ℕ → List A → List A → Result T E → Type 0
UsesUpTo count old new result = MatchResult result (λ _. new ≡ drop count old) (λ _. UsedUpTo count old new)
