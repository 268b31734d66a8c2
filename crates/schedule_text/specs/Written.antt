-- Schedules as they are written: the words of each line, and when they say the schedule.
use Rattle.std.specs.Prelude.{◌≡◌, ℕ, ◌≤◌, Bool, true, false, not, ◌==◌, List, [], ◌∷◌, ◌++◌, length, map, Option, Some, None, Ok}
use Rattle.std.specs.List.{All, list_all, list_any, find, flat_map}
use Rattle.std.specs.Fmt.{decimal}
use Rattle.std.specs.Str.{bytes_eq}
use lib.Chars.{codes}
use Rattle.hex.specs.Hex.{encode_lower}
use Rattle.plan_base.specs.declared.name.Name.{Name}
use Rattle.plan_base.specs.Words.{is_name}
use Rattle.plan_base.specs.declared.tree.Chunk.{Chunk}
use Rattle.plan_base.specs.declared.tree.Fun.{Fun}
use Rattle.plan_base.specs.declared.tree.Program.{Program}
use Rattle.program_text.specs.Texts.{args_of_text}
use Rattle.service_api.specs.declared.package.PackageName.{PackageName}
use Rattle.service_api.specs.declared.package.PackageName.TheVariants as packages
use Rattle.plan_base.specs.declared.stamp.Version.{Version}
use Rattle.plan_base.specs.declared.stamp.Version.TheVariants.{One, Two}
use Rattle.network_config.specs.declared.schedule.HostSpec.{HostSpec}
use Rattle.network_config.specs.declared.schedule.Schedule.{Schedule}
use Rattle.network_config.specs.declared.event.WorldEvent.{WorldEvent}
use Rattle.network_config.specs.declared.event.WorldEvent.TheVariants as happens
use Rattle.network_config.specs.declared.schedule.Link.{Link}
use Rattle.network_config.specs.Rules.{KeepsRules}
use Rattle.line_reader.specs.Lines.{spaced_words}
use Rattle.line_reader.specs.Programs.{program_in, has_name}

-- ---- texts

-- lines, each with its line feed
unfoldable pub spread : List (List ℕ) → List ℕ
spread [] = []
spread (line ∷ more) = line ++ 10 ∷ spread more

-- a program of a file: its name, the lines of its text, and the program
pub record NamedText : Type 0 where
  pub name : Name
  pub text : List (List ℕ)
  pub program : Program

-- how a chunk is written where it is injected: the name of its program, and its arguments
pub record Written : Type 0 where
  pub program : Name
  pub args : List ℕ

abbrev pub package_word : PackageName → List ℕ
package_word packages.Net = codes "net"
package_word packages.Resident = codes "resident"
package_word packages.Host = codes "host"

-- the packages that a host lacks
unfoldable pub lacking_words : List PackageName → List (List ℕ)
lacking_words [] = []
lacking_words (p ∷ ps) = codes "without" ∷ package_word p ∷ lacking_words ps

abbrev pub host_words : HostSpec → List (List ℕ)
host_words h = codes "host" ∷ decimal h.host.0 ∷ lacking_words h.missing

abbrev pub link_words : Link → List (List ℕ)
link_words l = codes "link" ∷ decimal l.from.0 ∷ decimal l.from_dev.0 ∷ decimal l.to.0 ∷ decimal l.to_dev.0 ∷ []

-- the handler of what is injected, if it has one
abbrev pub handler_words : Option Name → List (List ℕ)
handler_words None = []
handler_words (Some name) = codes "handler" ∷ name ∷ []

-- an event; the arguments of an injection are the rest of its line
abbrev pub event_words : (Chunk → Written) → WorldEvent → List (List ℕ)
event_words by (happens.Inject h chunk bound handler) =
    codes "inject" ∷ decimal h.0 ∷ (by chunk).program ∷ chunk.entry ∷ decimal bound ∷ (handler_words handler ++ (by chunk).args ∷ [])
event_words by (happens.Send h d) = codes "send" ∷ decimal h.0 ∷ decimal d.0 ∷ []
event_words by (happens.Deliver k) = codes "deliver" ∷ decimal k ∷ []
event_words by (happens.Repeat k) = codes "repeat" ∷ decimal k ∷ []
event_words by (happens.Lose k) = codes "lose" ∷ decimal k ∷ []
event_words by (happens.Tick h) = codes "tick" ∷ decimal h.0 ∷ []
event_words by (happens.Raw h d bytes) = codes "raw" ∷ decimal h.0 ∷ decimal d.0 ∷ encode_lower bytes ∷ []

abbrev pub program_lines : NamedText → List (List ℕ)
program_lines p = spaced_words (codes "program" ∷ p.name ∷ []) ∷ (p.text ++ codes "end program" ∷ [])

-- the first line
abbrev pub header_line : Version → List ℕ
header_line One = codes "planet schedule 1"
header_line Two = codes "planet schedule 2"

abbrev pub frames_lines : Bool → List (List ℕ)
frames_lines true = codes "frames" ∷ []
frames_lines false = []

-- a schedule line by line: the header, hosts, links, programs, and then the events
unfoldable pub schedule_lines : List NamedText → (Chunk → Written) → Schedule → List (List ℕ)
schedule_lines programs by s =
    header_line s.topology.version ∷
    (
    frames_lines s.frames
    ++ (map (λ h. spaced_words (host_words h)) s.topology.hosts ++ (map (λ l. spaced_words (link_words l)) s.topology.links
    ++ (flat_map program_lines programs ++ (codes "events" ∷ map (λ e. spaced_words (event_words by e)) s.events)))))

-- a schedule as a text
abbrev pub schedule_text : List NamedText → (Chunk → Written) → Schedule → List ℕ
schedule_text programs by s = spread (schedule_lines programs by s)

-- ---- when a text says the schedule

-- no byte is a line feed
abbrev pub is_line : List ℕ → Bool
is_line xs = list_all (λ b. not (b == 10)) xs

-- a line of a program's text doesn't end it
abbrev pub IsTextLine : List ℕ → Type 0
IsTextLine line = (is_line line ≡ true) × (bytes_eq line (codes "end program") ≡ false)

-- a program's name is one, and its text says the program
pub record IsNamedText (p : NamedText) : Type 0 where
  pub name : is_name p.name ≡ true
  pub lines : All IsTextLine p.text
  pub says : program_in (spread p.text) ≡ Ok p.program

-- no name is given twice
abbrev pub NamesDiffer : List NamedText → Type 0
NamesDiffer [] = Unit {0}
NamesDiffer (p ∷ ps) = (list_any (λ q. bytes_eq p.name q.name) ps ≡ false) × NamesDiffer ps

-- a call of a chunk is written by its function's name, and by a text that says its arguments
pub record IsCall (args : List ℕ) (c : Chunk) : Type 0 where
  pub entry : is_name c.entry ≡ true
  pub function : Fun
  pub found : find (has_name c.entry) c.code.funs ≡ Some function
  pub says : args_of_text args ≡ Some c.args
  pub short : length args ≤ 65536
  pub line : is_line args ≡ true

-- a chunk is written by the name of its program, and by its call
pub record IsWritten (programs : List NamedText) (w : Written) (c : Chunk) : Type 0 where
  pub program : NamedText
  pub listed : find (λ p. bytes_eq p.name w.program) programs ≡ Some program
  pub code : program.program ≡ c.code
  pub call : IsCall w.args c

-- a handler's name is one
abbrev pub IsNamed : Option Name → Type 0
IsNamed None = Unit {0}
IsNamed (Some name) = is_name name ≡ true

-- so is what an event injects
abbrev pub EventIsWritten : List NamedText → (Chunk → Written) → WorldEvent → Type 0
EventIsWritten programs by (happens.Inject h chunk bound handler) = (is_name (by chunk).program ≡ true) × IsWritten programs (by chunk) chunk × IsNamed handler
EventIsWritten programs by _ = Unit {0}

-- a schedule within its limits, whose programs and arguments are written
pub record IsSchedule (ps : List NamedText) (by : Chunk → Written) (s : Schedule) : Type 0 where
  pub rules : KeepsRules s
  pub few : length ps ≤ 64
  pub programs : All IsNamedText ps
  pub differ : NamesDiffer ps
  pub injected : All (EventIsWritten ps by) s.events
