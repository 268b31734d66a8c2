use Rattle.std.proofs.Common.{sym, subst}
use Rattle.node_log.specs.Entries.{KeepsEntries}
use Rattle.node_log.proofs.ReplayLaws.{trace_stopped, trace_cut, trace_written}
use Rattle.node_log.specs.Runs.{played_entries}
use Rattle.node_log.proofs.replay.write_log.Goals as goal

pub write_entries-requires-clause-keeps : goal.write_entries-requires-clause-keeps
write_entries-requires-clause-keeps g c =
    let keeps : KeepsEntries c.args.log.now.node.version c.args.log.now.events = record { each = c.requires.keeps.events; few = c.requires.keeps.few } in
    subst (KeepsEntries c.args.log.now.node.version) (sym c.as_slice.ensures) keeps

pub returns-in-Err : goal.returns-in-Err
returns-in-Err g c = λ s h.
    let out = g.K.Sink.state in
    trace_stopped c.args.log.now.node.here (played_entries 0 s c.args.log.now.events) (out c.args.out.now) (out c.put_all.new.sink) (out c.write_entries.new.out) (out c.write_entries.new.out)
    c.in-Ok.ensures c.in-Err.fault (rw c.as_slice.ensures at (c.in-Err.ensures s h))

pub returns-in-Ok-put_all : goal.returns-in-Ok-put_all
returns-in-Ok-put_all g c = λ s h.
    let out = g.K.Sink.state in
    trace_written c.args.log.now.node.here (played_entries 0 s c.args.log.now.events) (out c.args.out.now) (out c.put_all.new.sink) (out c.write_entries.new.out) (out c.put_all-2.new.sink)
    c.in-Ok.ensures (rw c.as_slice.ensures at (c.in_default-write_entries.ensures s h)) c.in-Ok-put_all.ensures

pub returns-in-Err-put_all : goal.returns-in-Err-put_all
returns-in-Err-put_all g c = λ s h.
    let out = g.K.Sink.state in
    trace_cut c.args.log.now.node.here (played_entries 0 s c.args.log.now.events) (out c.args.out.now) (out c.put_all.new.sink) (out c.write_entries.new.out) (out c.put_all-2.new.sink)
    c.in-Ok.ensures (rw c.as_slice.ensures at (c.in_default-write_entries.ensures s h)) c.in-Err-put_all.ensures
