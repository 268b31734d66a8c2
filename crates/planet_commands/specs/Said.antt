-- What a file says to a command.
use Rattle.std.specs.Prelude.{ℕ, nat_lt, if◌then◌else◌, List, length, Option, Some, None, Result, Ok, Err}
use Rattle.node_io.specs.FileMaps.{FileMap, file_at}
use Rattle.line_reader.specs.declared.fault.LineFault.{LineFault}
use Rattle.line_reader.specs.declared.fault.LineFault.TheVariants as faults
use Rattle.planet_commands.specs.declared.status.Refusal.{Refusal}
use Rattle.planet_commands.specs.declared.status.Refusal.TheVariants.{Line, TooLong}

-- nothing, since it is missing; that it is outside its format, or too long; or a value
pub data Said (A : Type 0) : Type 0 where
  nothing : Said A
  outside : Refusal → Said A
  says : A → Said A

-- every file says its bytes
abbrev pub all_of : List ℕ → Said (List ℕ)
all_of bytes = says bytes

-- what the bytes of a file say under a limit
abbrev pub said_within : {A : Type 0} → ℕ → (List ℕ → Said A) → List ℕ → Said A
said_within limit read bytes = if nat_lt limit (length bytes) then outside TooLong else read bytes

abbrev pub said_at : {A : Type 0} → ℕ → (List ℕ → Said A) → Option (List ℕ) → Said A
said_at limit read None = nothing
said_at limit read (Some bytes) = said_within limit read bytes

-- what the file of this name says
abbrev pub said_in : {A : Type 0} → ℕ → (List ℕ → Said A) → List ℕ → FileMap → Said A
said_in limit read name files = said_at limit read (file_at files name)

-- what a reading of its lines gave; a definition never fails to allocate
abbrev pub said_by : {A : Type 0} → Result A LineFault → Said A
said_by (Ok v) = says v
said_by (Err (faults.Line n reason)) = outside (Line n reason)
said_by (Err faults.NoMemory) = nothing

-- the most bytes of a file of lines
abbrev pub line_limit : ℕ
line_limit = 4194304

-- what the file of lines of this name says
abbrev pub lines_said : {A : Type 0} → (List ℕ → Result A LineFault) → List ℕ → FileMap → Said A
lines_said read name files = said_in line_limit (λ bytes. said_by (read bytes)) name files

-- what is said where a value is said and this is said of it
abbrev pub said_then : {A B : Type 0} → Said A → (A → Said B) → Said B
said_then nothing more = nothing
said_then (outside r) more = outside r
said_then (says v) more = more v

-- it says a value
abbrev pub IsSaid : {A : Type 0} → Said A → Type 0
IsSaid nothing = ⊥
IsSaid (outside r) = ⊥
IsSaid (says v) = Unit {0}

-- it says a value of which this holds
abbrev pub SaysOf : {A : Type 0} → Said A → (A → Type 0) → Type 0
SaysOf nothing P = ⊥
SaysOf (outside r) P = ⊥
SaysOf (says v) P = P v
