-- Which traces are read, and where bytes go wrong as one.
use Rattle.std.specs.Prelude.{ℕ, ◌≡◌, ◌≢◌, ◌<◌, ◌≤◌, ◌+◌, ◌-◌, ◌^◌, ◌==◌, ◌⊎◌, Bool, true, not, ◌&&◌, List, [], ◌∷◌, ◌++◌, length, codes, IfSome}
use Rattle.std.specs.List.{All, list_all}
use Rattle.std.specs.Char.{is_ascii_hexdigit}
use Rattle.std.specs.Str.{IsUtf8}
use Rattle.plan_base.specs.declared.ids.Family.{Family}
use Rattle.trace_chart_picture.specs.Cuts.{capped}
use Rattle.trace_chart_picture.specs.Guesses.{is_refusal}
use Rattle.trace_chart_picture.specs.Lines.{entry_text}
use Rattle.trace_chart_picture.specs.Traces.{as_line, entries_text, rows_text, row_text, trace_text}
use Rattle.trace_chart_picture.specs.declared.line.What.{What}
use Rattle.trace_chart_picture.specs.declared.line.What.TheVariants as what
use Rattle.trace_chart_picture.specs.declared.line.Line.{Line}
use Rattle.trace_chart_picture.specs.declared.line.Line.TheVariants.{Injected, Forged, Arrived, Asked, Printed, Delivered, Gave, Raised}
use Rattle.trace_chart_picture.specs.declared.line.Line.TheVariants.{Spent, Handled, Queued, Dropped, Refused, Advert, Heard, Ticked, Sent}
use Rattle.trace_chart_picture.specs.declared.line.Line.TheVariants.{Wire, WireShown, Off, Again, Lost, LostAdvert, Nothing}
use Rattle.trace_chart_picture.specs.declared.line.Entry.{Entry}
use Rattle.trace_chart_picture.specs.declared.line.Row.{Row}
use Rattle.trace_chart_picture.specs.declared.line.Trace.{Trace}
use Rattle.trace_chart_picture.specs.declared.trace.TraceFault.{TraceFault}
use Rattle.trace_chart_picture.specs.declared.trace.TraceFault.TheVariants as fault

-- ---- the lines that a trace may have

-- no byte of a text is this one
abbrev pub lacks : ℕ → List ℕ → Bool
lacks sign [] = true
lacks sign (b ∷ bs) = not (b == sign) && lacks sign bs

-- a number of 32 bits, and one of 64
abbrev pub IsShort : ℕ → Type 0
IsShort n = n < 2 ^ 32

abbrev pub IsLong : ℕ → Type 0
IsLong n = n < 2 ^ 64

abbrev pub IsFamily : Family → Type 0
IsFamily f = IsShort f.source.0 × IsLong f.serial

abbrev pub IsWhat : What → Type 0
IsWhat (what.Packet f) = IsFamily f
IsWhat what.Advert = Unit {0}

-- the bytes of a frame that a line shows are in hex
abbrev pub IsHex : List ℕ → Type 0
IsHex hex = (hex ≢ []) × (list_all is_ascii_hexdigit hex ≡ true)

-- a word
abbrev pub IsWord : List ℕ → Type 0
IsWord word = (word ≢ []) × (lacks 32 word ≡ true)

-- the numbers of a line are those of its types, ports at most 65,535, and the texts that it keeps aren't empty
abbrev pub IsLine : Line → Type 0
IsLine (Injected h f bound) = IsShort h.0 × IsFamily f × IsShort bound
IsLine (Forged h f bound) = IsShort h.0 × IsFamily f × IsShort bound
IsLine (Arrived h d) = IsShort h.0 × IsShort d.0
IsLine (Asked h) = IsShort h.0
IsLine (Printed h v) = IsShort h.0 × (v ≢ [])
IsLine (Delivered h p v) = IsShort h.0 × (p ≤ 65535) × (v ≢ [])
IsLine (Gave h f v evals left) = IsShort h.0 × IsFamily f × (v ≢ []) × IsShort evals × IsShort left
IsLine (Raised h f x evals left) = IsShort h.0 × IsFamily f × (x ≢ []) × IsShort evals × IsShort left
IsLine (Spent h f left) = IsShort h.0 × IsFamily f × IsShort left
IsLine (Handled h f n bound) = IsShort h.0 × IsFamily f × IsWord n × IsShort bound
IsLine (Queued h d f bound) = IsShort h.0 × IsShort d.0 × IsFamily f × IsShort bound
IsLine (Dropped h r f bound) = IsShort h.0 × IsFamily f × IsShort bound
IsLine (Refused h why) = IsShort h.0 × (is_refusal why ≡ true)
IsLine (Advert h d) = IsShort h.0 × IsShort d.0
IsLine (Heard h d) = IsShort h.0 × IsShort d.0
IsLine (Ticked h now) = IsShort h.0 × IsLong now
IsLine (Sent h d x) = IsShort h.0 × IsShort d.0 × IsWhat x
IsLine (Wire number) = IsShort number
IsLine (WireShown number hex) = IsShort number × IsHex hex
IsLine (Off number) = IsShort number
IsLine (Again number) = IsShort number
IsLine (Lost f bound) = IsFamily f × IsShort bound
IsLine LostAdvert = Unit {0}
IsLine Nothing = Unit {0}

-- an entry whose text is one line
pub record IsEntry (e : Entry) : Type 0 where
  pub event : IsLong e.event
  pub line : IsLine e.line
  pub text : IsUtf8 (entry_text e)
  pub one : lacks 10 (entry_text e) ≡ true

pub record IsRow (r : Row) : Type 0 where
  pub family : IsFamily r.family
  pub granted : IsLong r.granted
  pub hops : IsLong r.hops
  pub evals : IsLong r.evals
  pub live : IsLong r.live
  pub left : IsLong r.left

-- a trace of such lines, in any order
pub record IsTrace (t : Trace) : Type 0 where
  pub entries : All IsEntry t.entries
  pub rows : IfSome t.ledger (All IsRow)

-- ---- a line that is read

-- an entry whose text is one line, which is that of no other one
pub record IsEntryLine (e : Entry) : Type 0 where
  pub one : lacks 10 (entry_text e) ≡ true
  pub only : (x : Entry) → IsEntry x → entry_text x ≡ entry_text e → x ≡ e

pub record IsRowLine (r : Row) : Type 0 where
  pub one : lacks 10 (row_text r) ≡ true
  pub only : (x : Row) → IsRow x → row_text x ≡ row_text r → x ≡ r

-- a line is the text of this entry, and of no other one
pub record IsReadAs (line : List ℕ) (e : Entry) : Type 0 where
  pub text : entry_text e ≡ line
  pub only : (x : Entry) → IsEntry x → entry_text x ≡ line → x ≡ e

-- of this row
pub record IsReadRow (line : List ℕ) (r : Row) : Type 0 where
  pub text : row_text r ≡ line
  pub only : (x : Row) → IsRow x → row_text x ≡ line → x ≡ r

abbrev pub IsNoEntry : List ℕ → Type 0
IsNoEntry line = (e : Entry) → IsEntry e → entry_text e ≢ line

abbrev pub IsNoRow : List ℕ → Type 0
IsNoRow line = (r : Row) → IsRow r → row_text r ≢ line

-- ---- lines at the front of bytes

-- the first line of bytes, and what stands behind it
pub record IsNext (bytes line rest : List ℕ) : Type 0 where
  pub whole : as_line line ++ rest ≡ bytes
  pub one : lacks 10 line ≡ true
  pub only : (l more : List ℕ) → lacks 10 l ≡ true → as_line l ++ more ≡ bytes → l ≡ line

-- the bytes don't begin with this line
abbrev pub NotFirst : List ℕ → List ℕ → Type 0
NotFirst line bytes = (more : List ℕ) → as_line line ++ more ≢ bytes

-- they begin with no line
abbrev pub HasNoLine : List ℕ → Type 0
HasNoLine bytes = (line : List ℕ) → NotFirst line bytes

-- they begin with no entry, and with no row
abbrev pub NoEntryFirst : List ℕ → Type 0
NoEntryFirst bytes = (e : Entry) → IsEntry e → NotFirst (entry_text e) bytes

abbrev pub NoRowFirst : List ℕ → Type 0
NoRowFirst bytes = (r : Row) → IsRow r → NotFirst (row_text r) bytes

-- entries were added, as many as the bytes begin with; this is left, and this is the number of the line there
pub record AddsEntries (old new : List Entry) (bytes : List ℕ) (first : ℕ) (rest : List ℕ) (n : ℕ) : Type 0 where
  pub whole : entries_text new ++ rest ≡ entries_text old ++ bytes
  pub more : length old ≤ length new
  pub number : n ≡ capped (first + (length new - length old))
  pub one : All IsEntryLine old → All IsEntryLine new
  pub stop : NoEntryFirst rest

-- rows, likewise
pub record AddsRows (old new : List Row) (bytes : List ℕ) (first : ℕ) (rest : List ℕ) (n : ℕ) : Type 0 where
  pub whole : rows_text new ++ rest ≡ rows_text old ++ bytes
  pub more : length old ≤ length new
  pub number : n ≡ capped (first + (length new - length old))
  pub one : All IsRowLine old → All IsRowLine new
  pub stop : NoRowFirst rest

-- ---- where bytes go wrong

-- line n is wrong where the last line must stand, which is that of this number: it isn't `end`, or something stands behind it
abbrev pub EndsWrong : List ℕ → ℕ → ℕ → Type 0
EndsWrong bytes number n =
    (NotFirst (codes "end") bytes × (n ≡ number))
    ⊎ ((more : List ℕ) × (more ≢ []) × (as_line (codes "end") ++ more ≡ bytes) × (n ≡ capped (number + 1)))

-- behind as many rows as there are, from the line of this number on
pub record RowsWrong (bytes : List ℕ) (number n : ℕ) : Type 0 where
  pub rows : List Row
  pub rest : List ℕ
  pub whole : rows_text rows ++ rest ≡ bytes
  pub one : All IsRowLine rows
  pub stop : NoRowFirst rest
  pub wrong : EndsWrong rest (capped (number + length rows)) n

-- behind a ledger, where one begins at the line of this number
abbrev pub LedgerWrong : List ℕ → ℕ → ℕ → Type 0
LedgerWrong bytes number n =
    ((rest : List ℕ) × (as_line (codes "ledger") ++ rest ≡ bytes) × RowsWrong rest (capped (number + 1)) n)
    ⊎ (NotFirst (codes "ledger") bytes × EndsWrong bytes number n)

-- behind as many entries as there are, from the second line on
pub record BodyWrong (bytes : List ℕ) (n : ℕ) : Type 0 where
  pub entries : List Entry
  pub rest : List ℕ
  pub whole : entries_text entries ++ rest ≡ bytes
  pub one : All IsEntryLine entries
  pub stop : NoEntryFirst rest
  pub wrong : LedgerWrong rest (capped (2 + length entries)) n

-- the first line, or one behind it
abbrev pub GoesWrong : List ℕ → ℕ → Type 0
GoesWrong bytes n =
    (NotFirst (codes "planet trace 1") bytes × (n ≡ 1))
    ⊎ ((rest : List ℕ) × (as_line (codes "planet trace 1") ++ rest ≡ bytes) × BodyWrong rest n)

-- a trace prints as these bytes, and no other one does
pub record IsTraceOf (bytes : List ℕ) (t : Trace) : Type 0 where
  pub text : trace_text t ≡ bytes
  pub only : (u : Trace) → IsTrace u → trace_text u ≡ bytes → u ≡ t

-- the bytes are those of no trace
abbrev pub IsNoTrace : List ℕ → Type 0
IsNoTrace bytes = (t : Trace) → IsTrace t → trace_text t ≢ bytes

-- line n is the first that goes wrong, and the bytes are those of no trace
pub record IsBadLine (bytes : List ℕ) (n : ℕ) : Type 0 where
  pub wrong : GoesWrong bytes n
  pub none : IsNoTrace bytes

-- a fact of the line, where one is reported
abbrev pub IfLine : TraceFault → (ℕ → Type 0) → Type 0
IfLine (fault.BadLine n) P = P n
IfLine fault.NoMemory P = Unit {0}
