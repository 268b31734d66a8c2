use Rattle.std.proofs.Common.{◌≡◌, ◌+◌, ◌<◌, drop, None, IfSome}
use Rattle.plan_lexer.specs.Quoted.{with_front}
use Rattle.plan_lexer.specs.Hexed.{blob_from}
use Rattle.plan_lexer.proofs.hexed.blob_on.Given as goal

abbrev pub invariant-loop-byte : goal.invariant-loop-byte
invariant-loop-byte l = record {
  same : with_front l.bytes (blob_from l.start l.at l.half (drop l.byte-index l.text)) ≡ with_front l.fn.front (blob_from l.start l.from None l.text);
  place : l.at ≡ l.from + l.byte-index;
  small : IfSome l.half (λ high. high < 16);
}
