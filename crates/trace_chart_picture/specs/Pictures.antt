-- The SVG text of a drawing.
use Rattle.std.specs.Prelude.{ℕ, ◌+◌, ◌*◌, List, [], ◌++◌, codes, Option, Some, None, length, ◌==◌, if◌then◌else◌}
use Rattle.std.specs.List.{flat_map}
use Rattle.std.specs.Fmt.{decimal}
use Rattle.trace_chart_picture.specs.declared.line.Row.{Row}
use Rattle.trace_chart_picture.specs.Lines.{family_text}
use Rattle.trace_chart_picture.specs.declared.drawing.Lane.{Lane}
use Rattle.trace_chart_picture.specs.declared.drawing.Kind.{Kind}
use Rattle.trace_chart_picture.specs.declared.drawing.Kind.TheVariants as kind
use Rattle.trace_chart_picture.specs.declared.drawing.Mark.{Mark}
use Rattle.trace_chart_picture.specs.declared.drawing.Drawing.{Drawing}
use Rattle.trace_chart_picture.specs.Places.{x_of, y_of, point_text, path_text, text_text}
use Rattle.trace_chart_picture.specs.Signs.{stroke_word, kind_word, sign_path}
use Rattle.trace_chart_picture.specs.Escapes.{shown_label}
use Rattle.trace_chart_picture.specs.Styles.{style_text}

abbrev pub close_path : List ℕ
close_path = codes "'/>\n"

abbrev pub close_text : List ℕ
close_text = codes "</text>\n"

-- the heading of the column of a host
unfoldable pub name_text : Lane → List ℕ
name_text l = text_text (codes "h") (x_of l.across) 54 ++ (codes "host " ++ (decimal l.host ++ close_text))

-- the line of a column, down to this row
unfoldable pub line_text : ℕ → ℕ → List ℕ
line_text across bottom = path_text (codes "h") (record { across = across; row = 0 }) ++ (codes "V" ++ (decimal (y_of bottom) ++ close_path))

-- the column of a host, down to this row
unfoldable pub lane_text : ℕ → Lane → List ℕ
lane_text bottom l = name_text l ++ line_text l.across bottom

-- an arrow from a place to a place
unfoldable pub arrow_text : Mark → List ℕ
arrow_text m = path_text (stroke_word m.stroke) m.at ++ (codes "L" ++ (point_text m.to ++ close_path))

-- an arrow from outside, or nothing where the frame came off the wire
unfoldable pub inward_text : Mark → List ℕ
inward_text m = if m.is_outside then path_text (stroke_word m.stroke) m.at ++ (codes "m-80 -12L" ++ (point_text m.at ++ close_path)) else []

-- an arrow out of the network, or nothing where the frame went onto the wire
unfoldable pub outward_text : Mark → List ℕ
outward_text m = if m.is_outside then path_text (stroke_word m.stroke) m.at ++ (codes "l80 12" ++ close_path) else []

-- the arrow of a mark by its kind
abbrev pub way_by : Kind → Mark → List ℕ
way_by kind.Frame m = arrow_text m
way_by kind.Arrival m = inward_text m
way_by kind.Sending m = outward_text m
way_by _ m = []

-- the arrow of a mark, where it has one
unfoldable pub way_text : Mark → List ℕ
way_text m = way_by m.kind m

-- the number of an event
unfoldable pub number_text : ℕ → ℕ → List ℕ
number_text event row = text_text (codes "e") 34 (y_of row + 4) ++ (decimal event ++ close_text)

-- a line across, above this row
unfoldable pub across_text : ℕ → List ℕ
across_text row = path_text (codes "e") (record { across = 0; row = row }) ++ codes "m9 -9h9999'/>\n"

-- the number of an event and a line across, where it begins
unfoldable pub event_text : Mark → List ℕ
event_text m = if m.begins then number_text m.event m.at.row ++ across_text m.at.row else []

-- a sign of this form, or nothing
unfoldable pub formed_text : List ℕ → Mark → List ℕ
formed_text form m = if length form == 0 then [] else path_text (kind_word m.kind) m.at ++ (form ++ close_path)

-- pixels from the top to the line that a label stands on; numbers of frames stand higher, losses in the next row
abbrev pub label_y : Kind → ℕ → ℕ
label_y kind.Frame row = row * 18 + 64
label_y kind.Loss row = row * 18 + 84
label_y _ row = row * 18 + 70

-- a label, or nothing
unfoldable pub labelled_text : List ℕ → Mark → List ℕ
labelled_text label m =
    if length label == 0 then [] else text_text (kind_word m.kind) (x_of m.at.across + 9) (label_y m.kind m.at.row)
    ++ (shown_label label ++ close_text)

-- a mark: its sign and its label
unfoldable pub mark_text : Mark → List ℕ
mark_text m = formed_text (sign_path m.kind) m ++ labelled_text m.label m

-- a field of a table, at its right edge
unfoldable pub field_text : List ℕ → ℕ → List ℕ
field_text place n = codes "<tspan x='" ++ (place ++ (codes "'>" ++ (decimal n ++ codes "</tspan>")))

-- what a family paid for, and has left
unfoldable pub paid_text : Row → List ℕ
paid_text r = field_text (codes "280") r.hops ++ (field_text (codes "370") r.evals ++ (field_text (codes "460") r.live ++ field_text (codes "550") r.left))

-- how a row of the ledger begins
unfoldable pub row_start : List ℕ
row_start = codes "<tspan x='100' dy='18'>"

-- a family and what it was granted
unfoldable pub granted_text : Row → List ℕ
granted_text r = row_start ++ (family_text r.family ++ (codes "</tspan>" ++ field_text (codes "190") r.granted))

-- a row of the ledger
unfoldable pub row_text : Row → List ℕ
row_text r = granted_text r ++ (paid_text r ++ codes "\n")

unfoldable pub heading_text : List ℕ
heading_text = codes
    "<tspan x='100'>ledger</tspan><tspan x='190'>granted</tspan><tspan x='280'>hops</tspan><tspan x='370'>evals</tspan><tspan x='460'>live</tspan><tspan x='550'>left</tspan>\n"

-- the ledger below this row
unfoldable pub ledger_text : ℕ → Option (List Row) → List ℕ
ledger_text bottom None = []
ledger_text bottom (Some rows) = text_text (codes "r") 100 (y_of bottom + 40) ++ (heading_text ++ (flat_map row_text rows ++ close_text))

-- how a picture begins, up to its width
unfoldable pub picture_start : List ℕ
picture_start = codes "<svg xmlns='http://www.w3.org/2000/svg' width='"

-- the beginning of a picture of this width and height
unfoldable pub size_text : ℕ → ℕ → List ℕ
size_text width height = picture_start ++ (decimal width ++ (codes "' height='" ++ (decimal height ++ codes "'>\n")))

-- the marks: events lie below arrows, and these below signs and labels
unfoldable pub marks_text : List Mark → List ℕ
marks_text ms = flat_map event_text ms ++ (flat_map way_text ms ++ flat_map mark_text ms)

-- a picture
unfoldable pub picture_text : Drawing → List ℕ
picture_text d =
    size_text d.width d.height
    ++ (style_text ++
    (flat_map (lane_text d.bottom) d.lanes ++ (marks_text d.marks ++ (ledger_text d.bottom d.ledger ++ codes "</svg>\n"))))
