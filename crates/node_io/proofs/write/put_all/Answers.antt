use Rattle.std.proofs.Common.{◌-◌, length, take, drop}
use Rattle.node_io.specs.Sinks.{WritesSome}
use Rattle.node_io.proofs.SinkLaws.{writes_more, some_within}
use Rattle.node_io.proofs.write.put_all.Goals as goal

pub loop-at-preserved : goal.loop-at-preserved
loop-at-preserved g c =
    let s = g.K.Sink.state in
    let l = c.loop-at.invariant in
    let some : WritesSome (s c.loop-at.sink) (s c.push.new.self) (take (length c.args.bytes.now - c.loop-at.at) (drop c.loop-at.at c.args.bytes.now)) c.in_ok-at.field-0 = c.in_ok-at.ensures.pushes in
    record {
      within = some_within (s c.loop-at.sink) (s c.push.new.self) c.args.bytes.now c.loop-at.at c.in_ok-at.field-0 l.within some;
      written = writes_more (s c.args.sink.now) (s c.loop-at.sink) (s c.push.new.self) c.args.bytes.now c.loop-at.at c.in_ok-at.field-0 l.written some;
    }
