use Rattle.std.proofs.Common.{arith}
use Rattle.node_core_parts.proofs.WindowLaws.{windows_note, not_noted}
use Rattle.node_core_parts.proofs.windows.note.Goals as goal

pub returns-then-at-windows : goal.returns-then-at-windows
returns-then-at-windows c = λ seen a f. not_noted seen c.args.windows.now c.args.dev c.args.s a (omega (arith, c.if-at-windows.true))

pub returns : goal.returns
returns c = λ seen a f. windows_note seen c.args.windows.now c.args.dev _ c.keep.new.self c.args.s a (omega (arith, c.if-at-windows.false)) f c.keep.ensures
