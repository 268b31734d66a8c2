-- The command `node`: what it does with the configuration that its file says, and how it ends.
use Rattle.std.specs.Prelude.{◌≡◌, ℕ, List, drop, get_or, Result, Ok, Err}
use Rattle.plan_base.specs.declared.stamp.Version.{Version}
use Rattle.plan_base.specs.declared.stamp.Version.TheVariants.{One, Two}
use Rattle.network_config.specs.declared.serve.ServeConfig.{ServeConfig}
use Rattle.node_files.specs.Configs.{config_of}
use Rattle.node_io.specs.Clocks.{ClockState}
use Rattle.node_io.specs.FileMaps.{FileMap}
use Rattle.node_io.specs.FileStates.{FilesState}
use Rattle.node_core_spec.specs.State.{NodeState, new_node}
use Rattle.service_api.specs.Services.{ServiceState}
use Rattle.service_registry_spec.specs.Beginning.{opening_standing, present_without}
use Rattle.node_serve.specs.Desks.{Serving}
use Rattle.node_serve.specs.Moments.{booted_config, ServesFrom}
use Rattle.node_serve.specs.declared.fault.ServeFault.{ServeFault}
use Rattle.node_serve.specs.declared.fault.ServeFault.TheVariants.{LinkFault, WriteFault, NoMemory}
use Rattle.planet_commands.specs.declared.status.Cause.{Cause}
use Rattle.planet_commands.specs.declared.status.Cause.TheVariants as causes
use Rattle.planet_commands.specs.Said.{Said, lines_said}
use Rattle.planet_commands.specs.Takes.{TakesAndActs}

-- what the file of this name says to `node`
abbrev pub config_said : List ℕ → FileMap → Said ServeConfig
config_said name files = lines_said config_of name files

-- the services of a configuration: those that it doesn't lack, with no rows
abbrev pub own_services : ServeConfig → ServiceState
own_services cfg = opening_standing (present_without cfg.missing)

-- its node, new
abbrev pub own_node : ServeConfig → NodeState
own_node cfg = new_node cfg.node (own_services cfg)

-- the moment at which a node begins, where the clock is observable: under version 2 the clock's next answer
abbrev pub moment : Version → ClockState → ℕ
moment One clock = 0
moment Two clock = get_or clock.answers 0 clock.last

-- the clock behind that answer
abbrev pub behind_moment : Version → ClockState → ClockState
behind_moment One clock = clock
behind_moment Two clock = record { observable = clock.observable; answers = drop 1 clock.answers; last = get_or clock.answers 0 clock.last }

-- the configuration with which a run begins
abbrev pub begun_config : ServeConfig → Serving → ServeConfig
begun_config cfg old = booted_config (moment cfg.node.version old.clock) cfg

-- what its turns are handed
abbrev pub begun_with : ServeConfig → Serving → Serving
begun_with cfg old = record old { clock = behind_moment cfg.node.version old.clock }

-- the cause that says how a serving node ended
abbrev pub serve_cause : {T : Type 0} → Result T ServeFault → Cause
serve_cause (Ok x) = causes.Done
serve_cause (Err LinkFault) = causes.LinkFault
serve_cause (Err WriteFault) = causes.WriteFault
serve_cause (Err NoMemory) = causes.NoMemory

-- a node that was read served so many turns so, and this cause says how it ended
pub record ServesAs (turns : ℕ) (cfg : ServeConfig) (cause : Cause) (old new : Serving) : Type 0 where
  pub result : Result (Unit {0}) ServeFault
  pub is : cause ≡ serve_cause result
  pub serves : ServesFrom cfg (own_services cfg) turns old new result

-- the file of this name was read, and then the node served over the files as they were left, the output, the link and the clock
pub record ServesFile (turns : ℕ) (name : List ℕ) (cause : Cause) (old new : Serving) : Type 0 where
  pub read : FilesState
  pub did : TakesAndActs (config_said name) (ServesAs turns) name old.files read cause (record old { files = read }) new
