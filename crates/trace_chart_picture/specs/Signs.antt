-- How arrows and signs are distinguished: classes of the style, and the forms of signs.
use Rattle.std.specs.Prelude.{ℕ, List, [], codes}
use Rattle.trace_chart_picture.specs.declared.drawing.Kind.{Kind}
use Rattle.trace_chart_picture.specs.declared.drawing.Kind.TheVariants as kind
use Rattle.trace_chart_picture.specs.declared.drawing.LineStyle.{LineStyle}
use Rattle.trace_chart_picture.specs.declared.drawing.LineStyle.TheVariants as stroke

-- the class of an arrow
abbrev pub stroke_word : LineStyle → List ℕ
stroke_word stroke.Packet = codes "p"
stroke_word stroke.Advert = codes "a"
stroke_word stroke.Lost = codes "l"
stroke_word stroke.Open = codes "o"
stroke_word stroke.Forged = codes "f"

-- the class of a sign and a label
abbrev pub kind_word : Kind → List ℕ
kind_word kind.Frame = codes "k"
kind_word kind.Arrival = codes "u"
kind_word kind.Sending = codes "u"
kind_word kind.Loss = codes "c"
kind_word kind.Value = codes "v"
kind_word kind.Exception = codes "x"
kind_word kind.Spent = codes "s"
kind_word kind.Dropped = codes "d"
kind_word kind.Note = codes "n"
kind_word kind.Start = codes "i"
kind_word kind.Forgery = codes "g"
kind_word kind.Aside = codes "t"
kind_word kind.Unseen = codes "u"

-- a sign as a path from its place: a cross, a disc, a diamond, a square, a square with a cross in it, a triangle; or nothing
abbrev pub sign_path : Kind → List ℕ
sign_path kind.Loss = codes "m-5 -5l10 10m0 -10l-10 10"
sign_path kind.Value = codes "m-4 0a4 4 0 1 0 8 0a4 4 0 1 0 -8 0"
sign_path kind.Exception = codes "m-5 0l5 -5l5 5l-5 5z"
sign_path kind.Spent = codes "m-4 -4h8v8h-8z"
sign_path kind.Dropped = codes "m-4 -4h8v8h-8zl8 8m0 -8l-8 8"
sign_path kind.Start = codes "m-4 -5l9 5l-9 5z"
sign_path kind.Forgery = codes "m-4 -5l9 5l-9 5z"
sign_path _ = []
