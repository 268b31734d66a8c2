-- The marks of a drawing, counted; and the chart that some bytes are of a trace.
use Rattle.std.specs.Prelude.{ℕ, List, length, map, ◌≡◌, ◌≤◌}
use Rattle.std.specs.List.{count_by}
use Rattle.trace_chart_picture.specs.declared.line.Line.{Line}
use Rattle.trace_chart_picture.specs.declared.line.Entry.{Entry}
use Rattle.trace_chart_picture.specs.declared.line.Trace.{Trace}
use Rattle.trace_chart_picture.specs.Counts.{frames, losses, visits}
use Rattle.trace_chart_picture.specs.Reads.{IsTraceOf}
use Rattle.trace_chart_picture.specs.declared.drawing.Kind.{Kind}
use Rattle.trace_chart_picture.specs.declared.drawing.Mark.{Mark}
use Rattle.trace_chart_picture.specs.declared.drawing.Drawing.{Drawing}
use Rattle.trace_chart_picture.specs.Kinds.{kind_of, label_text, is_arrow, is_cross, is_end}
use Rattle.trace_chart_picture.specs.Hosts.{hosts_of}
use Rattle.trace_chart_picture.specs.Marks.{drawing_of}
use Rattle.trace_chart_picture.specs.Pictures.{picture_text}

-- the lines without the numbers of their events
abbrev pub lines_of : List Entry → List Line
lines_of es = map (λ e. e.line) es

abbrev pub kinds_of : List Mark → List Kind
kinds_of ms = map (λ m. m.kind) ms

abbrev pub labels_of : List Mark → List (List ℕ)
labels_of ms = map (λ m. m.label) ms

-- a drawing is that of its trace; it has a mark with the right label for each line, and as many arrows, crosses and ends as the trace has
-- frames, losses and visits
pub record Draws (t : Trace) (d : Drawing) : Type 0 where
  pub whole : d ≡ drawing_of t
  pub few : length (hosts_of t.entries) ≤ 64
  pub kinds : kinds_of d.marks ≡ map kind_of (lines_of t.entries)
  pub labels : labels_of d.marks ≡ map label_text (lines_of t.entries)
  pub arrows : count_by is_arrow (kinds_of d.marks) ≡ frames (lines_of t.entries)
  pub crosses : count_by is_cross (kinds_of d.marks) ≡ losses (lines_of t.entries)
  pub ends : count_by is_end (kinds_of d.marks) ≡ visits (lines_of t.entries)

-- the bytes are those of one trace, and the picture is a drawing of it, written out
pub record IsChart (bytes picture : List ℕ) : Type 0 where
  pub trace : Trace
  pub drawing : Drawing
  pub read : IsTraceOf bytes trace
  pub drawn : Draws trace drawing
  pub written : picture ≡ picture_text drawing
