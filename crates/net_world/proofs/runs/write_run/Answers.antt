use Rattle.std.proofs.Common.{[], sym, subst}
use Rattle.bound_ledger.specs.Stands.{Stands}
use Rattle.bound_ledger.proofs.LineLaws.{nothing_stands}
use Rattle.net_world_spec.specs.World.{opening, world_after, history_of}
use Rattle.net_world.proofs.RunLaws.{whole_balances, stopped_header, stopped_lines, stopped_ledger, whole_run}
use Rattle.net_world.proofs.runs.write_run.Goals as goal

pub run_events-requires-clause-empty : goal.run_events-requires-clause-empty
run_events-requires-clause-empty g c = subst (Stands []) (sym c.in-Ok.ensures) nothing_stands

pub returns-in_default-put_all : goal.returns-in_default-put_all
returns-in_default-put_all g c =
    let s = c.args.schedule in
    let w = opening s.topology in
    let out = g.K.Sink.state in
    stopped_header s.frames s.events w (out c.args.out.now) (out c.put_all.new.sink) (out c.put_all.new.sink) (out c.put_all.new.sink) c.in_default-put_all.ensures

pub returns-in-Err : goal.returns-in-Err
returns-in-Err g c =
    let s = c.args.schedule in
    let w = opening s.topology in
    let out = g.K.Sink.state in
    stopped_lines s.frames s.events w (out c.args.out.now) (out c.put_all.new.sink) (out c.run_events.new.out) (out c.run_events.new.out) c.in-Err.fault c.in-Ok-put_all.ensures c.in-Err.ensures.lines

pub returns-in-Ok-write_ledger : goal.returns-in-Ok-write_ledger
returns-in-Ok-write_ledger g c =
    let s = c.args.schedule in
    let w = opening s.topology in
    let out = g.K.Sink.state in
    whole_run s.frames s.events w (out c.args.out.now) (out c.put_all.new.sink) (out c.run_events.new.out) (out c.write_ledger.new.out) c.in-Ok-put_all.ensures c.in_default-run_events.ensures.lines
    (c.in-Ok-write_ledger.ensures (history_of s.events w) (world_after s.events w) c.in_default-run_events.ensures.ledger (whole_balances s c.requires.rules))

pub returns : goal.returns
returns g c =
    let s = c.args.schedule in
    let w = opening s.topology in
    let out = g.K.Sink.state in
    stopped_ledger s.frames s.events w (out c.args.out.now) (out c.put_all.new.sink) (out c.run_events.new.out) (out c.write_ledger.new.out) c.in-Err-write_ledger.fault c.in-Ok-put_all.ensures c.in_default-run_events.ensures.lines
    (c.in-Err-write_ledger.ensures (history_of s.events w) (world_after s.events w) c.in_default-run_events.ensures.ledger (whole_balances s c.requires.rules))
