-- The text of a log, line by line.
use Rattle.std.specs.Prelude.{ℕ, List, [], ◌∷◌, ◌++◌, map}
use Rattle.std.specs.List.{flat_map}
use Rattle.std.specs.Fmt.{decimal}
use lib.Chars.{codes}
use Rattle.plan_base.specs.declared.ids.Host.{Host}
use Rattle.plan_base.specs.declared.ids.Dev.{Dev}
use Rattle.plan_base.specs.declared.tree.Chunk.{Chunk}
use Rattle.wire_bytes.specs.Fields.{IsBytes}
use Rattle.service_api.specs.declared.package.PackageName.{PackageName}
use Rattle.chunk_codec_spec.specs.Values.{chunk_bytes}
use Rattle.chunk_codec_spec.specs.Spelling.{a_whole_chunk}
use Rattle.plan_base.specs.declared.stamp.Version.{Version}
use Rattle.plan_base.specs.declared.stamp.Version.TheVariants.{One, Two}
use Rattle.network_config.specs.declared.event.Event.{Event}
use Rattle.network_config.specs.declared.event.Event.TheVariants as events
use Rattle.network_config.specs.declared.event.LogEvent.{LogEvent}
use Rattle.network_config.specs.declared.event.LogEvent.TheVariants as logged
use Rattle.network_config.specs.declared.node.NodeConfig.{NodeConfig}
use Rattle.network_config.specs.declared.node.Log.{Log}
use Rattle.schedule_text.specs.Written.{package_word, handler_words, IsNamed}
use Rattle.hex.specs.Hex.{encode_lower}

-- words behind others, each behind a space, up to the end of the line
abbrev pub closing : List (List ℕ) → List ℕ
closing [] = 10 ∷ []
closing (w ∷ ws) = 32 ∷ w ++ closing ws

-- a line of words
abbrev pub line_text : List (List ℕ) → List ℕ
line_text [] = 10 ∷ []
line_text (w ∷ ws) = w ++ closing ws

-- the words of an event
abbrev pub event_words : Event → List (List ℕ)
event_words (events.Inject chunk bound handler) = codes "inject" ∷ decimal bound ∷ encode_lower (chunk_bytes chunk) ∷ handler_words handler
event_words (events.Frame d bytes) = codes "frame" ∷ decimal d.0 ∷ encode_lower bytes ∷ []
event_words (events.Control bytes) = codes "control" ∷ encode_lower bytes ∷ []
event_words events.Tick = codes "tick" ∷ []
event_words (events.Take d) = codes "take" ∷ decimal d.0 ∷ []

-- the words of an entry
abbrev pub entry_words : LogEvent → List (List ℕ)
entry_words (logged.Step e) = event_words e
entry_words logged.Lost = codes "lost" ∷ []

-- the line of an entry
abbrev pub entry_text : LogEvent → List ℕ
entry_text e = line_text (entry_words e)

abbrev pub host_words : Host → List (List ℕ)
host_words h = codes "host" ∷ decimal h.0 ∷ []

abbrev pub hosts_words : List Host → List (List ℕ)
hosts_words hosts = codes "hosts" ∷ map (λ h. decimal h.0) hosts

-- a host behind a space
abbrev pub spaced_host : Host → List ℕ
spaced_host h = 32 ∷ decimal h.0

abbrev pub device_words : Host × Dev → List (List ℕ)
device_words n = codes "dev" ∷ decimal n.1.0 ∷ decimal n.0.0 ∷ []

abbrev pub device_line : Host × Dev → List ℕ
device_line n = line_text (device_words n)

abbrev pub missing_words : PackageName → List (List ℕ)
missing_words p = codes "without" ∷ package_word p ∷ []

abbrev pub missing_line : PackageName → List ℕ
missing_line p = line_text (missing_words p)

-- the first line
abbrev pub header_text : Version → List ℕ
header_text One = codes "planet log 1\n"
header_text Two = codes "planet log 2\n"

-- the moment at which a node of version 2 began
abbrev pub boot_words : ℕ → List (List ℕ)
boot_words boot = codes "boot" ∷ decimal boot ∷ []

abbrev pub boot_text : Version → ℕ → List ℕ
boot_text One boot = []
boot_text Two boot = line_text (boot_words boot)

-- the lines up to `events`: how the node begins, and what it lacks
unfoldable pub head_text : NodeConfig → List PackageName → List ℕ
head_text n missing =
    header_text n.version
    ++ (line_text (host_words n.here)
    ++ (boot_text n.version n.boot
    ++ (line_text (hosts_words n.hosts)
    ++ (flat_map device_line n.neighbours
    ++ (flat_map missing_line missing
    ++ line_text (codes "events" ∷ []))))))

-- the whole text
abbrev pub log_text : Log → List ℕ
log_text l = head_text l.node l.missing ++ flat_map entry_text l.events

-- a chunk that can be spelled; every chunk of the code can
pub record CanSpell (c : Chunk) : Type 0 where
  pub fits : a_whole_chunk.Fits c
  pub are_bytes : IsBytes (chunk_bytes c)

-- the chunk of an entry, if it has one, can be spelled, and so can its handler
abbrev pub IsSpellable : LogEvent → Type 0
IsSpellable (logged.Step (events.Inject chunk bound handler)) = CanSpell chunk × IsNamed handler
IsSpellable _ = Unit {0}
