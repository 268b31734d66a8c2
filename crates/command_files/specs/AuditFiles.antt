-- What a file of an audit says: the logs and the links, or the first line that is outside the format.
use Rattle.std.specs.Prelude.{ℕ, Bool, true, false, not, if◌then◌else◌, nat_lt, ◌==◌, List, [], ◌∷◌, ◌++◌, length, Option, Some, None, Result, Ok, Err}
use Rattle.std.specs.Option.{ok_or}
use Rattle.std.specs.Str.{bytes_eq}
use lib.Chars.{codes}
use Rattle.plan_base.specs.declared.ids.Host.{Host}
use Rattle.plan_base.specs.declared.ids.Dev.{Dev}
use Rattle.network_config.specs.declared.schedule.Link.{Link}
use Rattle.network_config.specs.Hosts.{host_of, dev_of, has_link}
use Rattle.line_reader.specs.declared.fault.LineReason.{LineReason}
use Rattle.line_reader.specs.declared.fault.LineReason.TheVariants.{BadHeader, BadWord, BadArgument, TwiceNamed, TooMany}
use Rattle.line_reader.specs.declared.fault.LineFault.{LineFault}
use Rattle.line_reader.specs.declared.fault.LineFault.TheVariants as faults
use Rattle.line_reader.specs.Files.{Format, file_of}
use Rattle.line_reader.specs.Reads.{◌>>=◌, Part, word_at, end_at, allowed_or_reason}
use Rattle.line_reader.specs.Numbers.{number_at}
use Rattle.line_reader.specs.FileNames.{file_name_at}
use Rattle.node_files.specs.Parts.{header_line, usual_line}
use Rattle.command_files.specs.declared.audit.AuditFile.{AuditFile}
use Rattle.command_files.specs.declared.audit.AuditWord.{AuditWord}
use Rattle.command_files.specs.declared.audit.AuditWord.TheVariants as word
use Rattle.command_files.specs.declared.audit.AuditReading.{AuditReading}
use Rattle.command_files.specs.AuditRules.{is_named}

-- the first word of a line behind the header
abbrev pub audit_word : List ℕ → Option AuditWord
audit_word w = if bytes_eq w (codes "log") then Some word.Log else (if bytes_eq w (codes "link") then Some word.Link else None)

-- `log FILE` behind its first word: a log more, of at most 16
unfoldable pub log_line : List (List ℕ) → AuditReading → Result AuditReading LineReason
log_line ws s = do
  _ ← allowed_or_reason (nat_lt (length s.logs) 16) TooMany
  file ← file_name_at ws
  _ ← allowed_or_reason (not (is_named file.0 s.logs)) TwiceNamed
  _ ← end_at file.1
  Ok (record s { logs = s.logs ++ file.0 ∷ [] })

-- the end of a link: a host
unfoldable pub host_end : List (List ℕ) → Part Host
host_end ws = do
  n ← number_at 0 4294967295 ws
  Ok (host_of n.0, n.1)

-- and one of its devices that has no link yet
unfoldable pub device_end : List Link → Host → List (List ℕ) → Part Dev
device_end links h ws = do
  d ← number_at 1 8 ws
  _ ← allowed_or_reason (not (has_link h (dev_of d.0) links)) TwiceNamed
  Ok (dev_of d.0, d.1)

-- `link N D M E` behind its first word
unfoldable pub link_line : List (List ℕ) → AuditReading → Result AuditReading LineReason
link_line ws s = do
  n ← host_end ws
  d ← device_end s.links n.0 n.1
  m ← host_end d.1
  _ ← allowed_or_reason (not (m.0.0 == n.0.0)) BadArgument
  e ← device_end s.links m.0 m.1
  _ ← end_at e.1
  Ok (record s { links = s.links ++ (record { from = n.0; from_dev = d.0; to = m.0; to_dev = e.0 }) ∷ [] })

-- a line behind its first word
unfoldable pub audit_rest : AuditWord → List (List ℕ) → AuditReading → Result AuditReading LineReason
audit_rest word.Log ws s = log_line ws s
audit_rest word.Link ws s = link_line ws s

-- a line by its words
unfoldable pub audit_line : List (List ℕ) → AuditReading → Result AuditReading LineReason
audit_line ws s = do
  w ← word_at ws
  k ← ok_or (audit_word w.0) BadWord
  audit_rest k w.1 s

-- what a line adds
unfoldable pub audit_step_at : Bool → ℕ → List ℕ → AuditReading → Result AuditReading LineFault
audit_step_at false number line s = header_line (codes "planet audit 1") number line (record s { begun = true })
audit_step_at true number line s = usual_line number line s (λ ws. audit_line ws s)

-- what the lines so far say where the file ends in front of the line with a number: one log at least
abbrev pub audit_end : Bool → Bool → ℕ → AuditReading → Result AuditFile LineFault
audit_end false some number s = Err (faults.Line number BadHeader)
audit_end true false number s = Err (faults.Line number BadWord)
audit_end true true number s = Ok (record { logs = s.logs; links = s.links })

abbrev pub audit_format : Format AuditReading AuditFile
audit_format = record {
  step = λ number line s. audit_step_at s.begun number line s;
  finish = λ number s. audit_end s.begun (nat_lt 0 (length s.logs)) number s;
}

-- nothing read yet
abbrev pub nothing_read : AuditReading
nothing_read = record { begun = false; logs = []; links = [] }

-- what the bytes of a file say: logs and links, or the first line outside the format with the reason
abbrev pub audit_of : List ℕ → Result AuditFile LineFault
audit_of bytes = file_of audit_format nothing_read bytes
