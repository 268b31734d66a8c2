-- The text of a whole trace.
use Rattle.std.specs.Prelude.{ℕ, List, [], ◌++◌, codes, Option, Some, None}
use Rattle.std.specs.List.{flat_map}
use Rattle.std.specs.Fmt.{decimal}
use Rattle.trace_chart_picture.specs.declared.line.Entry.{Entry}
use Rattle.trace_chart_picture.specs.declared.line.Row.{Row}
use Rattle.trace_chart_picture.specs.declared.line.Trace.{Trace}
use Rattle.trace_chart_picture.specs.Lines.{family_text, entry_text}

-- a number behind its name
abbrev pub named_text : List ℕ → ℕ → List ℕ
named_text name n = name ++ decimal n

-- a row of a ledger
unfoldable pub row_text : Row → List ℕ
row_text r =
    family_text r.family
    ++ (named_text (codes " granted ") r.granted ++
    (named_text (codes " hops ") r.hops ++
    (named_text (codes " evals ") r.evals ++ (named_text (codes " live ") r.live ++ named_text (codes " left ") r.left))))

-- some bytes as a line
abbrev pub as_line : List ℕ → List ℕ
as_line text = text ++ codes "\n"

abbrev pub entries_text : List Entry → List ℕ
entries_text es = flat_map (λ e. as_line (entry_text e)) es

abbrev pub rows_text : List Row → List ℕ
rows_text rs = flat_map (λ r. as_line (row_text r)) rs

abbrev pub ledger_text : Option (List Row) → List ℕ
ledger_text None = []
ledger_text (Some rs) = as_line (codes "ledger") ++ rows_text rs

-- a trace
unfoldable pub trace_text : Trace → List ℕ
trace_text t = as_line (codes "planet trace 1") ++ (entries_text t.entries ++ (ledger_text t.ledger ++ as_line (codes "end")))
