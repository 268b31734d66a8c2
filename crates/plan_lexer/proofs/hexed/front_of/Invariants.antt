use Rattle.std.proofs.Common.{◌≡◌, ◌≤◌, length}
use Rattle.std.specs.Prelude.{vec_len, vec_capacity}
use Rattle.plan_lexer.specs.Hexed.{IsFront}
use Rattle.plan_lexer.proofs.hexed.front_of.Given as goal

abbrev pub invariant-pairs : goal.invariant-pairs
invariant-pairs l = record {
  front : IsFront l.text l.bytes.items;
  count : length l.bytes.items ≡ l.i;
  full : vec_len l.bytes ≡ l.i;
  room : l.most ≤ vec_capacity l.bytes;
}
