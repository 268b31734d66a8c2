use Rattle.std.proofs.Common.{◌-◌, IsTrue, length, take, drop, subst, sym}
use Rattle.node_io.specs.FileStates.{AddsSome}
use Rattle.node_io.proofs.FileWrites.{adds_more, some_added}
use Rattle.node_io.proofs.write.put_file.Goals as goal

pub loop-at-preserved : goal.loop-at-preserved
loop-at-preserved g c =
    let s = g.F.Files.state in
    let l = c.loop-at.invariant in
    let some : AddsSome (s c.loop-at.files) (s c.push.new.self) (take (length c.args.bytes.now - c.loop-at.at) (drop c.loop-at.at c.args.bytes.now)) c.in_ok-at.field-0 = c.in_ok-at.ensures.adds in
    record {
      within = some_added (s c.loop-at.files) (s c.push.new.self) c.args.bytes.now c.loop-at.at c.in_ok-at.field-0 l.within some;
      begun = subst IsTrue (sym some.is.writing) l.begun;
      written = adds_more (s c.args.files.now) (s c.loop-at.files) (s c.push.new.self) c.args.bytes.now c.loop-at.at c.in_ok-at.field-0 l.written some;
    }
