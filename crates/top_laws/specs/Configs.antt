-- Configurations as they are written: the words of each line, and when they say the configuration.
use Rattle.std.specs.Prelude.{◌≡◌, ℕ, List, [], ◌∷◌, ◌++◌, map, Option, Some, None}
use Rattle.std.specs.List.{All}
use Rattle.std.specs.Fmt.{decimal}
use lib.Chars.{codes}
use Rattle.plan_base.specs.declared.ids.Host.{Host}
use Rattle.plan_base.specs.declared.ids.Dev.{Dev}
use Rattle.plan_base.specs.declared.tree.Chunk.{Chunk}
use Rattle.plan_base.specs.declared.tree.Program.{Program}
use Rattle.plan_base.specs.declared.stamp.Version.{Version}
use Rattle.plan_base.specs.declared.stamp.Version.TheVariants.{One, Two}
use Rattle.network_config.specs.declared.serve.Inject.{Inject as Injection}
use Rattle.network_config.specs.declared.serve.ServeConfig.{ServeConfig}
use Rattle.network_config.specs.NodeRules.{KeepsServe}
use Rattle.line_reader.specs.Lines.{spaced_words}
use Rattle.schedule_text.specs.Written.{spread, handler_words, IsCall, IsNamed}
use Rattle.node_files.specs.LogTexts.{host_words, hosts_words, missing_words}
use Rattle.top_laws.specs.Words.{IsOneWord, program_lines, IsTextOf}

-- the program of a file: the lines of its text, and the program
pub record ProgramText : Type 0 where
  pub text : List (List ℕ)
  pub program : Program

-- the first line
abbrev pub header_line : Version → List ℕ
header_line One = codes "planet node 1"
header_line Two = codes "planet node 2"

abbrev pub port_words : ℕ → List (List ℕ)
port_words p = codes "port" ∷ decimal p ∷ []

abbrev pub control_words : ℕ → List (List ℕ)
control_words p = codes "control" ∷ decimal p ∷ []

abbrev pub period_words : ℕ → List (List ℕ)
period_words n = codes "period" ∷ decimal n ∷ []

abbrev pub log_words : List ℕ → List (List ℕ)
log_words file = codes "log" ∷ file ∷ []

abbrev pub device_words : Host × Dev → ℕ → List (List ℕ)
device_words n p = codes "dev" ∷ decimal n.1.0 ∷ decimal n.0.0 ∷ decimal p ∷ []

-- the neighbours, each with its port
unfoldable pub device_lines : List (Host × Dev) → List (Dev × ℕ) → List (List ℕ)
device_lines (n ∷ ns) (d ∷ ds) = spaced_words (device_words n d.1) ∷ device_lines ns ds
device_lines _ _ = []

-- the program, if the file has one
abbrev pub given_lines : Option ProgramText → List (List ℕ)
given_lines None = []
given_lines (Some p) = program_lines p.text

-- an injection at a turn; the arguments are the rest of the line
abbrev pub inject_words : (Chunk → List ℕ) → Injection → List (List ℕ)
inject_words by i = codes "at" ∷ decimal i.turn ∷ codes "inject" ∷ i.chunk.entry ∷ decimal i.bound ∷ (handler_words i.handler ++ by i.chunk ∷ [])

-- the lines in front of the neighbours
abbrev pub head_lines : ServeConfig → List (List ℕ)
head_lines c =
    header_line c.node.version ∷ spaced_words (host_words c.node.here) ∷ spaced_words (hosts_words c.node.hosts)
    ∷ spaced_words (port_words c.port) ∷ spaced_words (control_words c.control) ∷ spaced_words (period_words c.period) ∷ spaced_words (log_words c.log) ∷ []

-- a configuration line by line: neighbours, missing packages, the program, and what is injected
abbrev pub config_lines : Option ProgramText → (Chunk → List ℕ) → ServeConfig → List (List ℕ)
config_lines program by c =
    head_lines c ++ (device_lines c.node.neighbours c.devs ++ (map (λ p. spaced_words (missing_words p)) c.missing
    ++ (given_lines program ++ map (λ i. spaced_words (inject_words by i)) c.at)))

-- a configuration as a text
abbrev pub config_text : Option ProgramText → (Chunk → List ℕ) → ServeConfig → List ℕ
config_text program by c = spread (config_lines program by c)

-- the text of the program, if there is one, says it
abbrev pub IsGiven : Option ProgramText → Type 0
IsGiven None = Unit {0}
IsGiven (Some p) = IsTextOf p.program p.text

-- what is injected is a call of the program, written by a text of its arguments and by a name of its handler
abbrev pub IsInjected : Option ProgramText → (Chunk → List ℕ) → Injection → Type 0
IsInjected None by i = ⊥
IsInjected (Some p) by i = (i.chunk.code ≡ p.program) × IsCall (by i.chunk) i.chunk × IsNamed i.handler

-- a configuration within its limits of a node that has not begun, whose log, program and arguments are written
pub record IsConfig (given : Option ProgramText) (by : Chunk → List ℕ) (c : ServeConfig) : Type 0 where
  pub rules : KeepsServe c
  pub boot : c.node.boot ≡ 0
  pub log : IsOneWord c.log
  pub program : IsGiven given
  pub injected : All (IsInjected given by) c.at
