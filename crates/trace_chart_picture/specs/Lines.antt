-- The text of each line of a trace.
use Rattle.std.specs.Prelude.{ℕ, List, [], ◌++◌, codes, Option, Some, None}
use Rattle.std.specs.Fmt.{decimal}
use Rattle.plan_base.specs.declared.ids.Host.{Host}
use Rattle.plan_base.specs.declared.ids.Dev.{Dev}
use Rattle.plan_base.specs.declared.ids.Family.{Family}
use Rattle.trace_chart_picture.specs.declared.line.What.{What}
use Rattle.trace_chart_picture.specs.declared.line.What.TheVariants as what
use Rattle.trace_chart_picture.specs.declared.line.Reason.{Reason}
use Rattle.trace_chart_picture.specs.declared.line.Reason.TheVariants as reason
use Rattle.trace_chart_picture.specs.declared.line.Line.{Line}
use Rattle.trace_chart_picture.specs.declared.line.Line.TheVariants.{Injected, Forged, Arrived, Asked, Printed, Delivered, Gave, Raised}
use Rattle.trace_chart_picture.specs.declared.line.Line.TheVariants.{Spent, Handled, Queued, Dropped, Refused, Advert, Heard, Ticked, Sent}
use Rattle.trace_chart_picture.specs.declared.line.Line.TheVariants.{Wire, WireShown, Off, Again, Lost, LostAdvert, Nothing}
use Rattle.trace_chart_picture.specs.declared.line.Entry.{Entry}

-- the host at which a line happened, where it names one
abbrev pub host_of : Line → Option Host
host_of (Injected h f bound) = Some h
host_of (Forged h f bound) = Some h
host_of (Arrived h d) = Some h
host_of (Asked h) = Some h
host_of (Printed h v) = Some h
host_of (Delivered h p v) = Some h
host_of (Gave h f v evals rest) = Some h
host_of (Raised h f x evals rest) = Some h
host_of (Spent h f rest) = Some h
host_of (Handled h f n bound) = Some h
host_of (Queued h d f bound) = Some h
host_of (Dropped h r f bound) = Some h
host_of (Refused h why) = Some h
host_of (Advert h d) = Some h
host_of (Heard h d) = Some h
host_of (Ticked h now) = Some h
host_of (Sent h d x) = Some h
host_of (Wire number) = None
host_of (WireShown number hex) = None
host_of (Off number) = None
host_of (Again number) = None
host_of (Lost f bound) = None
host_of LostAdvert = None
host_of Nothing = None

-- the word that a line begins with
abbrev pub word_text : Line → List ℕ
word_text (Injected h f bound) = codes "inject"
word_text (Forged h f bound) = codes "forged"
word_text (Arrived h d) = codes "arrive"
word_text (Asked h) = codes "arrive"
word_text (Printed h v) = codes "print"
word_text (Delivered h p v) = codes "port"
word_text (Gave h f v evals rest) = codes "value"
word_text (Raised h f x evals rest) = codes "raised"
word_text (Spent h f rest) = codes "spent"
word_text (Handled h f n bound) = codes "handler"
word_text (Queued h d f bound) = codes "queue"
word_text (Dropped h r f bound) = codes "drop"
word_text (Refused h why) = codes "drop"
word_text (Advert h d) = codes "advert"
word_text (Heard h d) = codes "heard"
word_text (Ticked h now) = codes "tick"
word_text (Sent h d x) = codes "send"
word_text (Wire number) = codes "wire"
word_text (WireShown number hex) = codes "wire"
word_text (Off number) = codes "off"
word_text (Again number) = codes "again"
word_text (Lost f bound) = codes "lost"
word_text LostAdvert = codes "lost"
word_text Nothing = codes "nothing"

abbrev pub family_text : Family → List ℕ
family_text f = decimal f.source.0 ++ (codes "." ++ decimal f.serial)

abbrev pub device_text : Dev → List ℕ
device_text d = codes " %" ++ decimal d.0

-- a family with its bound
abbrev pub bound_text : Family → ℕ → List ℕ
bound_text f bound = codes " " ++ (family_text f ++ (codes " bound " ++ decimal bound))

-- what a visit paid and left
abbrev pub paid_text : ℕ → ℕ → List ℕ
paid_text evals rest = codes " evals " ++ (decimal evals ++ (codes " left " ++ decimal rest))

-- how a visit ended, with what it paid and left
abbrev pub end_text : Family → List ℕ → ℕ → ℕ → List ℕ
end_text f how evals rest = codes " " ++ (family_text f ++ (codes " " ++ (how ++ paid_text evals rest)))

-- a name with the bound that is reported to it
abbrev pub told_text : List ℕ → ℕ → List ℕ
told_text n bound = n ++ (codes " bound " ++ decimal bound)

-- a handler that is called, with the bound that it has
abbrev pub called_text : Family → List ℕ → ℕ → List ℕ
called_text f n bound = codes " " ++ (family_text f ++ (codes " " ++ told_text n bound))

abbrev pub what_text : What → List ℕ
what_text (what.Packet f) = family_text f
what_text what.Advert = codes "advert"

abbrev pub reason_text : Reason → List ℕ
reason_text reason.NoBound = codes "NoBound"
reason_text reason.NoService = codes "NoService"
reason_text reason.NoRoute = codes "NoRoute"
reason_text reason.QueueFull = codes "QueueFull"
reason_text reason.LinkSpent = codes "LinkSpent"
reason_text reason.Repeated = codes "Repeated"
reason_text reason.TooOld = codes "TooOld"

-- what stands behind the word and the host
unfoldable pub rest_text : Line → List ℕ
rest_text (Injected h f bound) = bound_text f bound
rest_text (Forged h f bound) = bound_text f bound
rest_text (Arrived h d) = device_text d
rest_text (Asked h) = codes " control"
rest_text (Printed h v) = codes " " ++ v
rest_text (Delivered h p v) = codes " " ++ (decimal p ++ (codes " " ++ v))
rest_text (Gave h f v evals rest) = end_text f v evals rest
rest_text (Raised h f x evals rest) = end_text f x evals rest
rest_text (Spent h f rest) = codes " " ++ (family_text f ++ (codes " left " ++ decimal rest))
rest_text (Handled h f n bound) = called_text f n bound
rest_text (Queued h d f bound) = device_text d ++ bound_text f bound
rest_text (Dropped h r f bound) = codes " " ++ (reason_text r ++ bound_text f bound)
rest_text (Refused h why) = codes " " ++ why
rest_text (Advert h d) = device_text d
rest_text (Heard h d) = device_text d
rest_text (Ticked h now) = codes " now " ++ decimal now
rest_text (Sent h d x) = device_text d ++ (codes " " ++ what_text x)
rest_text (Wire number) = codes " " ++ decimal number
rest_text (WireShown number hex) = codes " " ++ (decimal number ++ (codes " " ++ hex))
rest_text (Off number) = codes " " ++ decimal number
rest_text (Again number) = codes " " ++ decimal number
rest_text (Lost f bound) = bound_text f bound
rest_text LostAdvert = codes " advert"
rest_text Nothing = []

abbrev pub host_text : Option Host → List ℕ
host_text None = []
host_text (Some h) = codes " @" ++ decimal h.0

-- a line of a trace, without its number
unfoldable pub line_text : Line → List ℕ
line_text l = word_text l ++ (host_text (host_of l) ++ rest_text l)

-- a line with the number of its event
unfoldable pub entry_text : Entry → List ℕ
entry_text e = decimal e.event ++ (codes " " ++ line_text e.line)
