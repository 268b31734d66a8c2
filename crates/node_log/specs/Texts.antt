-- What a run writes.
use Rattle.std.specs.Prelude.{ℕ, List, ◌++◌, codes}
use Rattle.std.specs.List.{flat_map}
use Rattle.plan_base.specs.declared.ids.Host.{Host}
use Rattle.node_core_spec.specs.Texts.{act_line}
use Rattle.node_log.specs.Runs.{Entry}

-- a line of a trace
abbrev pub trace_line : Host → Entry → List ℕ
trace_line here e = act_line e.0 here e.1

-- some lines
unfoldable pub lines_text : Host → List Entry → List ℕ
lines_text here entries = flat_map (trace_line here) entries

-- a trace so far
unfoldable pub begun_trace : Host → List Entry → List ℕ
begun_trace here entries = codes "planet trace 1\n" ++ lines_text here entries

-- a whole trace
unfoldable pub whole_trace : Host → List Entry → List ℕ
whole_trace here entries = begun_trace here entries ++ codes "end\n"
