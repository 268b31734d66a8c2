-- That arrows and crosses are drawn as what became of their frames.
use Rattle.std.specs.Prelude.{◌≡◌, ◌≢◌, ◌⊎◌, Bool, List, [], ◌∷◌}
use Rattle.std.specs.List.{All}
use Rattle.trace_chart_picture.specs.declared.drawing.Kind.{Kind}
use Rattle.trace_chart_picture.specs.declared.drawing.Kind.TheVariants as kind
use Rattle.trace_chart_picture.specs.declared.drawing.LineStyle.{LineStyle}
use Rattle.trace_chart_picture.specs.declared.drawing.LineStyle.TheVariants as stroke
use Rattle.trace_chart_picture.specs.declared.drawing.Mark.{Mark}
use Rattle.trace_chart_picture.specs.declared.line.Trace.{Trace}
use Rattle.trace_chart_picture.specs.Marks.{is_log, drawing_of}
use Rattle.trace_chart_picture.specs.Sights.{outside_stroke}

-- the arrow of a frame on the wire isn't drawn as a forged one, and a cross stands on a way that is drawn as lost, or on none
abbrev pub AgreesStroke : Bool → Kind → LineStyle → Type 0
AgreesStroke log kind.Frame s = s ≢ stroke.Forged
AgreesStroke log kind.Loss s = (s ≡ stroke.Lost) ⊎ (s ≡ outside_stroke log)
AgreesStroke log _ s = Unit {0}

-- so in all marks of a drawing
abbrev pub StrokesAgree : Trace → Type 0
StrokesAgree t = All (λ m. AgreesStroke (is_log t.ledger) m.kind m.stroke) (drawing_of t).marks

-- one of these is such
abbrev pub SomeOf : {A : Type 0} → (A → Type 0) → List A → Type 0
SomeOf P [] = ⊥
SomeOf P (x ∷ xs) = P x ⊎ SomeOf P xs

-- a cross at the head of an arrow
pub record IsCrossOf (m c : Mark) : Type 0 where
  pub kind : c.kind ≡ kind.Loss
  pub at : c.at ≡ m.to
  pub stroke : c.stroke ≡ stroke.Lost

-- an arrow that is drawn as lost ends in a cross
abbrev pub LostEndInCrosses : Trace → Type 0
LostEndInCrosses t = All (λ m. m.kind ≡ kind.Frame → m.stroke ≡ stroke.Lost → SomeOf (IsCrossOf m) (drawing_of t).marks) (drawing_of t).marks
