-- What a file of a fleet says: the fleet, or the first line that is outside the format.
use Rattle.std.specs.Prelude.{ℕ, Bool, true, false, if◌then◌else◌, nat_lt, List, [], ◌∷◌, ◌++◌, length, Option, Some, None, Result, Ok, Err}
use Rattle.std.specs.Option.{ok_or}
use Rattle.std.specs.Str.{bytes_eq}
use lib.Chars.{codes}
use Rattle.network_config.specs.declared.fleet.Fleet.{Fleet}
use Rattle.network_config.specs.declared.fleet.Kid.{Kid}
use Rattle.network_config.specs.declared.fleet.Kid.TheVariants as kids
use Rattle.network_config.specs.Hosts.{host_of}
use Rattle.line_reader.specs.declared.fault.LineReason.{LineReason}
use Rattle.line_reader.specs.declared.fault.LineReason.TheVariants.{BadHeader, BadWord, TooMany}
use Rattle.line_reader.specs.declared.fault.LineFault.{LineFault}
use Rattle.line_reader.specs.declared.fault.LineFault.TheVariants as faults
use Rattle.line_reader.specs.Files.{Format, file_of}
use Rattle.line_reader.specs.Reads.{◌>>=◌, word_at, end_at, allowed_or_reason}
use Rattle.line_reader.specs.Numbers.{number_at}
use Rattle.line_reader.specs.FileNames.{file_name_at}
use Rattle.node_files.specs.declared.fleet.KidWord.{KidWord}
use Rattle.node_files.specs.declared.fleet.KidWord.TheVariants as word
use Rattle.node_files.specs.declared.fleet.FleetReading.{FleetReading}
use Rattle.node_files.specs.Parts.{last_number, header_line, usual_line}

-- the first word of a child's line
abbrev pub kid_word : List ℕ → Option KidWord
kid_word w = if bytes_eq w (codes "node") then Some word.Node else (if bytes_eq w (codes "ask") then Some word.Ask else None)

-- `node HOST FILE TURNS` behind its first word
unfoldable pub node_kid : List (List ℕ) → Result Kid LineReason
node_kid ws = do
  h ← number_at 0 4294967295 ws
  file ← file_name_at h.1
  turns ← last_number 1 1000000 file.1
  Ok (kids.Node (host_of h.0) file.0 turns)

-- `ask HOST FILE` behind its first word
unfoldable pub ask_kid : List (List ℕ) → Result Kid LineReason
ask_kid ws = do
  h ← number_at 0 4294967295 ws
  file ← file_name_at h.1
  _ ← end_at file.1
  Ok (kids.Ask (host_of h.0) file.0)

-- a child behind its first word
unfoldable pub kid_rest : KidWord → List (List ℕ) → Result Kid LineReason
kid_rest word.Node ws = node_kid ws
kid_rest word.Ask ws = ask_kid ws

-- a child more, of at most 64
unfoldable pub kid_line : List (List ℕ) → FleetReading → Result FleetReading LineReason
kid_line ws s = do
  w ← word_at ws
  k ← ok_or (kid_word w.0) BadWord
  _ ← allowed_or_reason (nat_lt (length s.children) 64) TooMany
  kid ← kid_rest k w.1
  Ok (record s { children = s.children ++ kid ∷ [] })

-- what a line adds
unfoldable pub fleet_step_at : Bool → ℕ → List ℕ → FleetReading → Result FleetReading LineFault
fleet_step_at false number line s = header_line (codes "planet fleet 1") number line (record s { begun = true })
fleet_step_at true number line s = usual_line number line s (λ ws. kid_line ws s)

-- what the lines so far say where the file ends in front of the line with a number: one child at least
abbrev pub fleet_end : Bool → Bool → ℕ → FleetReading → Result Fleet LineFault
fleet_end false some number s = Err (faults.Line number BadHeader)
fleet_end true false number s = Err (faults.Line number BadWord)
fleet_end true true number s = Ok (record { children = s.children })

abbrev pub fleet_format : Format FleetReading Fleet
fleet_format = record {
  step = λ number line s. fleet_step_at s.begun number line s;
  finish = λ number s. fleet_end s.begun (nat_lt 0 (length s.children)) number s;
}

-- nothing read yet
abbrev pub no_children : FleetReading
no_children = record { begun = false; children = [] }

-- what the bytes of a file say: a fleet, or the first line outside the format with the reason
abbrev pub fleet_of : List ℕ → Result Fleet LineFault
fleet_of bytes = file_of fleet_format no_children bytes
