-- That all marks of a drawing lie inside the picture, and that arrows are drawn as what became of their frames.
use Rattle.std.specs.Prelude.{◌+◌, ◌≤◌}
use Rattle.std.specs.List.{All}
use Rattle.trace_chart_picture.specs.declared.drawing.Point.{Point}
use Rattle.trace_chart_picture.specs.declared.drawing.Mark.{Mark}
use Rattle.trace_chart_picture.specs.declared.drawing.Drawing.{Drawing}
use Rattle.trace_chart_picture.specs.declared.line.Trace.{Trace}
use Rattle.trace_chart_picture.specs.Places.{x_of, y_of}
use Rattle.trace_chart_picture.specs.Marks.{drawing_of}

-- a place is at least 110 pixels from the right side of a picture, and 24 from its lower side
pub record IsInside (d : Drawing) (p : Point) : Type 0 where
  pub across : x_of p.across + 110 ≤ d.width
  pub down : y_of p.row + 24 ≤ d.height

-- the place of a mark, and where its arrow ends
pub record LiesInside (d : Drawing) (m : Mark) : Type 0 where
  pub at : IsInside d m.at
  pub to : IsInside d m.to

-- all marks of the drawing of a trace do
abbrev pub MarksLieInside : Trace → Type 0
MarksLieInside t = All (LiesInside (drawing_of t)) (drawing_of t).marks
