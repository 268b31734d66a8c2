-- The text of a trace and of its ledger.
use Rattle.std.specs.Prelude.{ℕ, Bool, if◌then◌else◌, List, [], ◌∷◌, ◌++◌, fold, codes}
use Rattle.std.specs.List.{list_any, flat_map}
use Rattle.std.specs.Fmt.{decimal}
use Rattle.hex.specs.Hex.{encode_lower}
use Rattle.plan_base.specs.declared.ids.Family.{Family}
use Rattle.network_config.specs.declared.event.WorldEvent.{WorldEvent}
use Rattle.packet_frame.specs.declared.spelled.What.{What}
use Rattle.packet_frame.specs.declared.spelled.What.TheVariants as what
use Rattle.node_core_spec.specs.declared.acts.Act.TheVariants.{Injected}
use Rattle.node_core_spec.specs.Texts.{family_text, head_text, bound_text, act_text}
use Rattle.node_core_spec.specs.Counts.{is_family}
use Rattle.net_world_spec.specs.declared.lines.Line.{Line}
use Rattle.net_world_spec.specs.declared.lines.Line.TheVariants.{At, Forged, Wire, Off, Again, Lost, Nothing}
use Rattle.net_world_spec.specs.declared.lines.Entry.{Entry}
use Rattle.net_world_spec.specs.World.{WorldState, world_after, history_of}
use Rattle.net_world_spec.specs.Counts.{granted_sum, hops, evals, left_sum, live}

-- a frame in hex, where frames are shown
abbrev pub shown_text : Bool → List ℕ → List ℕ
shown_text frames bytes = if frames then codes " " ++ encode_lower bytes else []

-- what was lost
abbrev pub lost_text : What → List ℕ
lost_text (what.Packet f bound) = bound_text f bound
lost_text what.Advert = codes " advert"

-- a line of a trace, without its number
unfoldable pub line_text : Bool → Line → List ℕ
line_text frames (At h act) = act_text h act
line_text frames (Forged h f bound) = head_text (codes "forged") h ++ bound_text f bound
line_text frames (Wire number bytes) = codes "wire " ++ (decimal number ++ shown_text frames bytes)
line_text frames (Off number) = codes "off " ++ decimal number
line_text frames (Again number) = codes "again " ++ decimal number
line_text frames (Lost w) = codes "lost" ++ lost_text w
line_text frames Nothing = codes "nothing"

-- a whole line of a trace
unfoldable pub entry_text : Bool → Entry → List ℕ
entry_text frames e = decimal e.event ++ (codes " " ++ (line_text frames e.line ++ codes "\n"))

-- the lines of a history
unfoldable pub entries_text : Bool → List Entry → List ℕ
entries_text frames history = flat_map (entry_text frames) history

-- a trace
unfoldable pub trace_text : Bool → List Entry → List ℕ
trace_text frames history = codes "planet trace 1\n" ++ entries_text frames history

abbrev pub with_family : List Family → Family → List Family
with_family fs f = if list_any (is_family f) fs then fs else fs ++ f ∷ []

abbrev pub line_families : List Family → Line → List Family
line_families fs (At h (Injected f bound)) = with_family fs f
line_families fs (Forged h f bound) = with_family fs f
line_families fs _ = fs

-- the families of a history in the order of their first grant
unfoldable pub families : List Entry → List Family
families history = fold (λ fs e. line_families fs e.line) [] history

-- a family with its counts
abbrev pub counts_text : Family → ℕ → ℕ → ℕ → ℕ → ℕ → List ℕ
counts_text f g h e l r =
    family_text f
    ++ ((codes " granted " ++ decimal g) ++
    ((codes " hops " ++ decimal h) ++
    ((codes " evals " ++ decimal e) ++ ((codes " live " ++ decimal l) ++ ((codes " left " ++ decimal r) ++ codes "\n")))))

-- a row of the ledger
unfoldable pub row_text : List Entry → WorldState → Family → List ℕ
row_text history w f = counts_text f (granted_sum f history) (hops f history) (evals f history) (live f w) (left_sum f history)

-- the rows of some families
unfoldable pub rows_text : List Entry → WorldState → List Family → List ℕ
rows_text history w fs = flat_map (row_text history w) fs

-- a ledger
unfoldable pub ledger_text : List Entry → WorldState → List ℕ
ledger_text history w = codes "ledger\n" ++ (rows_text history w (families history) ++ codes "end\n")

-- what a run writes: its trace, with or without frames, and its ledger
unfoldable pub run_text : Bool → List WorldEvent → WorldState → List ℕ
run_text frames events w = trace_text frames (history_of events w) ++ ledger_text (history_of events w) (world_after events w)
