-- What is written of an audit's answer.
use Rattle.std.specs.Prelude.{ℕ, List, ◌++◌}
use Rattle.std.specs.List.{flat_map}
use Rattle.std.specs.Fmt.{decimal}
use lib.Chars.{codes}
use Rattle.plan_base.specs.declared.ids.Family.{Family}
use Rattle.bound_ledger.specs.declared.row.Row.{Row}
use Rattle.net_world_spec.specs.Texts.{counts_text}
use Rattle.ledger_audit.specs.declared.verdict.Verdict.{Verdict}
use Rattle.ledger_audit.specs.declared.verdict.Verdict.TheVariants.{Yes, No}

-- a row, as in the ledger of a network
abbrev pub row_text : Family × Row → List ℕ
row_text e = counts_text e.0 e.1.granted e.1.hops e.1.evals e.1.live e.1.left

-- the rows in order
unfoldable pub rows_text : List (Family × Row) → List ℕ
rows_text rows = flat_map row_text rows

-- the frame that doesn't fit
unfoldable pub no_text : ℕ → ℕ → ℕ → ℕ → List ℕ
no_text log event accepted sent =
    (codes "no log " ++ decimal log)
    ++ ((codes " event " ++ decimal event) ++
    ((codes " accepted " ++ decimal accepted) ++ ((codes " sent " ++ decimal sent) ++ codes "\n")))

abbrev pub answer_text : Verdict → List ℕ
answer_text (Yes rows) = codes "yes\n" ++ rows_text rows
answer_text (No log event accepted sent) = no_text log event accepted sent

-- the whole text
unfoldable pub audit_text : Verdict → List ℕ
audit_text v = codes "planet audit 1\n" ++ (answer_text v ++ codes "end\n")
