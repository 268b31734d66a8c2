use Rattle.std.proofs.Common.{arith}
use Rattle.plan_base.specs.Trees.{trees}
use Rattle.plan_base_eq.proofs.Alike.{alike, unlike}
use Rattle.plan_base_eq.proofs.same.+same_value.Goals as goal

pub same_value-returns-in-Unit-matches : goal.same_value-returns-in-Unit-matches
same_value-returns-in-Unit-matches t c = alike c.in-Unit.is c.in-Unit-matches.is

pub same_value-returns-in_default : goal.same_value-returns-in_default
same_value-returns-in_default t c = unlike c.in-Unit.is c.in_default.not-Unit

pub same_value-returns-in-Bool-other : goal.same_value-returns-in-Bool-other
same_value-returns-in-Bool-other t c = grind (arith, trees)

pub same_value-returns-in_default-other : goal.same_value-returns-in_default-other
same_value-returns-in_default-other t c = unlike c.in-Bool.is (c.in_default-other.not-Bool c.in-Bool.x)

pub same_value-returns-in-Int-other : goal.same_value-returns-in-Int-other
same_value-returns-in-Int-other t c = grind (arith, trees)

pub same_value-returns-in_default-other-2 : goal.same_value-returns-in_default-other-2
same_value-returns-in_default-other-2 t c = unlike c.in-Int.is (c.in_default-other-2.not-Int c.in-Int.x)

pub same_value-returns-in-Char-other : goal.same_value-returns-in-Char-other
same_value-returns-in-Char-other t c = grind (arith, trees)

pub same_value-returns-in_default-other-3 : goal.same_value-returns-in_default-other-3
same_value-returns-in_default-other-3 t c = unlike c.in-Char.is (c.in_default-other-3.not-Char c.in-Char.x)

pub same_value-returns-in-Str-other : goal.same_value-returns-in-Str-other
same_value-returns-in-Str-other t c = grind (arith, trees)

pub same_value-returns-in_default-other-4 : goal.same_value-returns-in_default-other-4
same_value-returns-in_default-other-4 t c = unlike c.in-Str.is (c.in_default-other-4.not-Str c.in-Str.x)

pub same_value-returns-in-Blob-other : goal.same_value-returns-in-Blob-other
same_value-returns-in-Blob-other t c = grind (arith, trees)

pub same_value-returns-in_default-other-5 : goal.same_value-returns-in_default-other-5
same_value-returns-in_default-other-5 t c = unlike c.in-Blob.is (c.in_default-other-5.not-Blob c.in-Blob.x)

pub same_value-returns-in-Host-other : goal.same_value-returns-in-Host-other
same_value-returns-in-Host-other t c = grind (arith, trees)

pub same_value-returns-in_default-other-6 : goal.same_value-returns-in_default-other-6
same_value-returns-in_default-other-6 t c = unlike c.in-Host.is (c.in_default-other-6.not-Host c.in-Host.x)

pub same_value-returns-in-Dev-other : goal.same_value-returns-in-Dev-other
same_value-returns-in-Dev-other t c = grind (arith, trees)

pub same_value-returns-in_default-other-7 : goal.same_value-returns-in_default-other-7
same_value-returns-in_default-other-7 t c = unlike c.in-Dev.is (c.in_default-other-7.not-Dev c.in-Dev.x)

pub same_value-returns-in-Chunk-other : goal.same_value-returns-in-Chunk-other
same_value-returns-in-Chunk-other t c = grind (arith, trees)

pub same_value-returns-in_default-other-8 : goal.same_value-returns-in_default-other-8
same_value-returns-in_default-other-8 t c = unlike c.in-Chunk.is (c.in_default-other-8.not-Chunk c.in-Chunk.c)

pub same_value-returns-then-is : goal.same_value-returns-then-is
same_value-returns-then-is t c = grind (arith, trees)

pub same_value-returns-else-is : goal.same_value-returns-else-is
same_value-returns-else-is t c = grind (arith, trees)

pub same_value-returns-in_default-other-9 : goal.same_value-returns-in_default-other-9
same_value-returns-in_default-other-9 t c = unlike c.in-List.is (c.in_default-other-9.not-List c.in-List.t c.in-List.vs)

pub same_value-returns-in-Tuple-other : goal.same_value-returns-in-Tuple-other
same_value-returns-in-Tuple-other t c = grind (arith, trees)

pub same_value-returns-in_default-other-10 : goal.same_value-returns-in_default-other-10
same_value-returns-in_default-other-10 t c = unlike c.in-Tuple.is (c.in_default-other-10.not-Tuple c.in-Tuple.vs)

pub same_chunk-returns-then-is-2 : goal.same_chunk-returns-then-is-2
same_chunk-returns-then-is-2 t c = grind (arith, trees)

pub same_chunk-returns-else-is-2 : goal.same_chunk-returns-else-is-2
same_chunk-returns-else-is-2 t c = grind (arith, trees)
