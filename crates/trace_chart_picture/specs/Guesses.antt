-- What a line may be, taken apart as if it were one: what comes out is printed again and compared, so of a text that is no line
-- it may be anything.
use Rattle.std.specs.Prelude.{ℕ, Bool, true, false, ◌==◌, nat_lt, nat_le, if◌then◌else◌, List, [], ◌∷◌, length, take, drop, codes}
use Rattle.std.specs.List.{list_all}
use Rattle.std.specs.Char.{is_ascii_hexdigit}
use Rattle.std.specs.Str.{bytes_eq}
use Rattle.plan_base.specs.declared.ids.Host.{Host}
use Rattle.plan_base.specs.declared.ids.Dev.{Dev}
use Rattle.plan_base.specs.declared.ids.Family.{Family}
use Rattle.trace_chart_picture.specs.Cuts.{before, after, first, rest, front, last, front_of_four, long, short}
use Rattle.trace_chart_picture.specs.declared.line.What.{What}
use Rattle.trace_chart_picture.specs.declared.line.What.TheVariants as what
use Rattle.trace_chart_picture.specs.declared.line.Reason.{Reason}
use Rattle.trace_chart_picture.specs.declared.line.Reason.TheVariants as reason
use Rattle.trace_chart_picture.specs.declared.line.Line.{Line}
use Rattle.trace_chart_picture.specs.declared.line.Line.TheVariants.{Injected, Forged, Arrived, Asked, Printed, Delivered, Gave, Raised}
use Rattle.trace_chart_picture.specs.declared.line.Line.TheVariants.{Spent, Handled, Queued, Dropped, Refused, Advert, Heard, Ticked, Sent}
use Rattle.trace_chart_picture.specs.declared.line.Line.TheVariants.{Wire, WireShown, Off, Again, Lost, LostAdvert, Nothing}
use Rattle.trace_chart_picture.specs.declared.line.Entry.{Entry}
use Rattle.trace_chart_picture.specs.declared.line.Row.{Row}

-- the family that a word may be, as `1.1`
unfoldable pub family_of : List ℕ → Family
family_of word = record { source = record { 0 = short (before 46 word) }; serial = long (after 46 word) }

-- the host and the device that a word may be, as `@1` and `%1`
unfoldable pub host_of : List ℕ → Host
host_of word = record { 0 = short (drop 1 word) }

unfoldable pub device_of : List ℕ → Dev
device_of word = record { 0 = short (drop 1 word) }

-- the family of the first word, and the number of the third
abbrev pub family_at : List ℕ → Family
family_at text = family_of (first text)

abbrev pub bound_at : List ℕ → ℕ
bound_at text = short (first (rest (rest text)))

-- the number of the last word but two, as in `evals 1 left 2`, and of the last one
abbrev pub evals_at : List ℕ → ℕ
evals_at text = short (last (front (front text)))

abbrev pub left_at : List ℕ → ℕ
left_at text = short (last text)

unfoldable pub reason_of : List ℕ → Reason
reason_of word =
    if bytes_eq word (codes "NoService") then reason.NoService else
    if bytes_eq word (codes "NoRoute") then reason.NoRoute else
    if bytes_eq word (codes "QueueFull") then reason.QueueFull else
    if bytes_eq word (codes "LinkSpent") then reason.LinkSpent else
    if bytes_eq word (codes "Repeated") then reason.Repeated else
    if bytes_eq word (codes "TooOld") then reason.TooOld else reason.NoBound

-- the words by which an advert, or a frame that is none, is dropped or refused
abbrev pub is_bad_frame : List ℕ → Bool
is_bad_frame text = if nat_lt 9 (length text) then bytes_eq (take 9 text) (codes "BadFrame ") else false

-- what else than a packet may be dropped or refused
unfoldable pub is_refusal : List ℕ → Bool
is_refusal text =
    if bytes_eq text (codes "SerialsSpent") then true else
    if bytes_eq text (codes "NoMemory") then true else
    if bytes_eq text (codes "QueueFull advert") then true else
    if bytes_eq text (codes "LinkSpent advert") then true else
    if bytes_eq text (codes "Repeated advert") then true else
    if bytes_eq text (codes "TooOld advert") then true else is_bad_frame text

-- whether a visit ended by this word, with a value or an exception
abbrev pub is_end : List ℕ → Bool
is_end word = if bytes_eq word (codes "value") then true else bytes_eq word (codes "raised")

-- what a line with this word keeps as it is printed, of what stands behind its host
unfoldable pub kept_of : List ℕ → List ℕ → List ℕ
kept_of word text =
    if bytes_eq word (codes "print") then text else
    if bytes_eq word (codes "drop") then (if is_refusal text then text else []) else
    if bytes_eq word (codes "port") then (if nat_le (short (first text)) 65535 then rest text else []) else
    if is_end word then front_of_four (rest text) else
    if bytes_eq word (codes "handler") then first (rest text) else []

-- a line that keeps a text
unfoldable pub keeping_line : List ℕ → Host → List ℕ → List ℕ → Line
keeping_line word h text kept =
    if bytes_eq word (codes "print") then Printed h kept else
    if bytes_eq word (codes "port") then Delivered h (short (first text)) kept else
    if bytes_eq word (codes "value") then Gave h (family_at text) kept (evals_at text) (left_at text) else
    if bytes_eq word (codes "raised") then Raised h (family_at text) kept (evals_at text) (left_at text) else
    if bytes_eq word (codes "handler") then Handled h (family_at text) kept (bound_at (rest text)) else Refused h kept

unfoldable pub what_of : List ℕ → What
what_of text = if bytes_eq text (codes "advert") then what.Advert else what.Packet (family_of text)

-- a line of a packet
unfoldable pub packet_line : List ℕ → Host → List ℕ → Line
packet_line word h text =
    if bytes_eq word (codes "inject") then Injected h (family_at text) (bound_at text) else
    if bytes_eq word (codes "forged") then Forged h (family_at text) (bound_at text) else
    if bytes_eq word (codes "spent") then Spent h (family_at text) (bound_at text) else
    if bytes_eq word (codes "queue") then Queued h (device_of (first text)) (family_at (rest text)) (bound_at (rest text)) else
    if bytes_eq word (codes "drop") then Dropped h (reason_of (first text)) (family_at (rest text)) (bound_at (rest text)) else Nothing

-- something arrived
unfoldable pub arrival : Host → List ℕ → Line
arrival h text = if bytes_eq text (codes "control") then Asked h else Arrived h (device_of (first text))

-- a line that keeps no text
unfoldable pub plain_line : List ℕ → Host → List ℕ → Line
plain_line word h text =
    if bytes_eq word (codes "arrive") then arrival h text else
    if bytes_eq word (codes "send") then Sent h (device_of (first text)) (what_of (rest text)) else
    if bytes_eq word (codes "advert") then Advert h (device_of (first text)) else
    if bytes_eq word (codes "heard") then Heard h (device_of (first text)) else
    if bytes_eq word (codes "tick") then Ticked h (long (first (rest text))) else packet_line word h text

-- the line that keeps this text, if there is one
unfoldable pub line_by : List ℕ → Host → List ℕ → List ℕ → Line
line_by word h text [] = plain_line word h text
line_by word h text (b ∷ bs) = keeping_line word h text (b ∷ bs)

-- a line at a host
unfoldable pub at_host : List ℕ → Host → List ℕ → Line
at_host word h text = line_by word h text (kept_of word text)

-- a frame on the wire with its bytes in hex
unfoldable pub shown_line : ℕ → List ℕ → Line
shown_line number hex = if list_all is_ascii_hexdigit hex then WireShown number hex else Nothing

-- something was lost
unfoldable pub loss : List ℕ → Line
loss text = if bytes_eq text (codes "advert") then LostAdvert else Lost (family_at text) (bound_at text)

-- a line without a host
unfoldable pub without_host : List ℕ → List ℕ → Line
without_host word text =
    if bytes_eq word (codes "wire") then Wire (short (first text)) else
    if bytes_eq word (codes "off") then Off (short text) else
    if bytes_eq word (codes "again") then Again (short text) else
    if bytes_eq word (codes "lost") then loss text else Nothing

-- one that shows bytes where something stands behind the number
unfoldable pub wired : List ℕ → List ℕ → List ℕ → Line
wired word text [] = without_host word text
wired word text (b ∷ bs) = if bytes_eq word (codes "wire") then shown_line (short (first text)) (b ∷ bs) else without_host word text

-- whether a word begins with the sign of hosts
abbrev pub is_host : List ℕ → Bool
is_host [] = false
is_host (b ∷ bs) = b == 64

-- the line that a text may be, behind the number of its event
unfoldable pub guessed_line : List ℕ → Line
guessed_line text =
    if is_host (first (rest text)) then at_host (first text) (host_of (first (rest text))) (rest (rest text)) else
    wired (first text) (rest text) (rest (rest text))

-- the entry that a line may be
unfoldable pub guessed_entry : List ℕ → Entry
guessed_entry line = record { event = long (first line); line = guessed_line (rest line) }

-- the number behind a word, and what stands behind that
abbrev pub named_of : List ℕ → ℕ
named_of text = long (first (rest text))

abbrev pub behind_named : List ℕ → List ℕ
behind_named text = rest (rest text)

-- the row that a line may be
unfoldable pub guessed_row : List ℕ → Row
guessed_row line =
    let granted : List ℕ = rest line in
    let hops : List ℕ = behind_named granted in
    let evals : List ℕ = behind_named hops in
    let live : List ℕ = behind_named evals in
    record {
      family = family_at line;
      granted = named_of granted;
      hops = named_of hops;
      evals = named_of evals;
      live = named_of live;
      left = named_of (behind_named live);
    }
