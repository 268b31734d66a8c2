use Rattle.std.proofs.Common.{◌≡◌, ◌++◌, ◌+◌, ℕ, List, take, map}
use Rattle.net_world_spec.specs.declared.lines.Entry.{Entry}
use Rattle.net_world_spec.specs.World.{entry_at}
use Rattle.grow_run.specs.Summaries.{HasRoom, summary_of}
use Rattle.grow_run.proofs.summary.Summary.count.Given as goal

abbrev pub invariant-loop-line : goal.invariant-loop-line
invariant-loop-line l = record {
  room : (n : ℕ) → HasRoom (n + l.line-index) l.initial.self → HasRoom n l.self;
  counted : (h : List Entry) (n : ℕ) → l.initial.self ≡ summary_of h → l.self ≡ summary_of (h ++ map (entry_at n) (take l.line-index l.lines));
}
