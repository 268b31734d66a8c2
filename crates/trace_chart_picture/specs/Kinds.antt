-- What each line of a trace is drawn as, and its label.
use Rattle.std.specs.Prelude.{ℕ, Bool, true, false, List, [], ◌++◌, codes}
use Rattle.std.specs.Fmt.{decimal}
use Rattle.plan_base.specs.declared.ids.Family.{Family}
use Rattle.trace_chart_picture.specs.declared.line.Line.{Line}
use Rattle.trace_chart_picture.specs.declared.line.Line.TheVariants.{Injected, Forged, Arrived, Asked, Printed, Delivered, Gave, Raised}
use Rattle.trace_chart_picture.specs.declared.line.Line.TheVariants.{Spent, Handled, Queued, Dropped, Refused, Advert, Heard, Ticked, Sent}
use Rattle.trace_chart_picture.specs.declared.line.Line.TheVariants.{Wire, WireShown, Off, Again, Lost, LostAdvert, Nothing}
use Rattle.trace_chart_picture.specs.Lines.{family_text, word_text, rest_text}
use Rattle.trace_chart_picture.specs.declared.drawing.Kind.{Kind}
use Rattle.trace_chart_picture.specs.declared.drawing.Kind.TheVariants as kind

-- what a line is drawn as
abbrev pub kind_of : Line → Kind
kind_of (Injected h f bound) = kind.Start
kind_of (Forged h f bound) = kind.Forgery
kind_of (Arrived h d) = kind.Arrival
kind_of (Asked h) = kind.Aside
kind_of (Printed h v) = kind.Note
kind_of (Delivered h p v) = kind.Note
kind_of (Gave h f v evals rest) = kind.Value
kind_of (Raised h f x evals rest) = kind.Exception
kind_of (Spent h f rest) = kind.Spent
kind_of (Handled h f n bound) = kind.Aside
kind_of (Queued h d f bound) = kind.Aside
kind_of (Dropped h r f bound) = kind.Dropped
kind_of (Refused h why) = kind.Dropped
kind_of (Advert h d) = kind.Aside
kind_of (Heard h d) = kind.Aside
kind_of (Ticked h now) = kind.Aside
kind_of (Sent h d x) = kind.Sending
kind_of (Wire number) = kind.Frame
kind_of (WireShown number hex) = kind.Frame
kind_of (Off number) = kind.Unseen
kind_of (Again number) = kind.Aside
kind_of (Lost f bound) = kind.Loss
kind_of LostAdvert = kind.Loss
kind_of Nothing = kind.Aside

-- a family and how its visit ended
abbrev pub visit_text : Family → List ℕ → List ℕ
visit_text f how = family_text f ++ (codes " " ++ how)

-- a line without its host
abbrev pub words_text : Line → List ℕ
words_text l = word_text l ++ rest_text l

-- the label of a line, not yet escaped
abbrev pub label_text : Line → List ℕ
label_text (Printed h v) = v
label_text (Gave h f v evals rest) = visit_text f v
label_text (Raised h f x evals rest) = visit_text f x
label_text (Wire number) = decimal number
label_text (WireShown number hex) = decimal number
label_text (Arrived h d) = []
label_text (Sent h d x) = []
label_text (Off number) = []
label_text l = words_text l

-- an arrow from a host to a host
abbrev pub is_arrow : Kind → Bool
is_arrow kind.Frame = true
is_arrow _ = false

-- a cross where a frame was lost
abbrev pub is_cross : Kind → Bool
is_cross kind.Loss = true
is_cross _ = false

-- a sign for the end of a visit
abbrev pub is_end : Kind → Bool
is_end kind.Value = true
is_end kind.Exception = true
is_end kind.Spent = true
is_end _ = false
