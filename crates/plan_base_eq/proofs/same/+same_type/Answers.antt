use Rattle.std.proofs.Common.{arith}
use Rattle.plan_base.specs.Trees.{trees}
use Rattle.plan_base_eq.proofs.Alike.{alike, unlike}
use Rattle.plan_base_eq.proofs.same.+same_type.Goals as goal

pub same_type-returns-in-Unit-matches : goal.same_type-returns-in-Unit-matches
same_type-returns-in-Unit-matches t c = alike c.in-Unit.is c.in-Unit-matches.is

pub same_type-returns-in_default : goal.same_type-returns-in_default
same_type-returns-in_default t c = unlike c.in-Unit.is c.in_default.not-Unit

pub same_type-returns-in-Bool-matches : goal.same_type-returns-in-Bool-matches
same_type-returns-in-Bool-matches t c = alike c.in-Bool.is c.in-Bool-matches.is

pub same_type-returns-in_default-matches : goal.same_type-returns-in_default-matches
same_type-returns-in_default-matches t c = unlike c.in-Bool.is c.in_default-matches.not-Bool

pub same_type-returns-in-Int-matches : goal.same_type-returns-in-Int-matches
same_type-returns-in-Int-matches t c = alike c.in-Int.is c.in-Int-matches.is

pub same_type-returns-in_default-matches-2 : goal.same_type-returns-in_default-matches-2
same_type-returns-in_default-matches-2 t c = unlike c.in-Int.is c.in_default-matches-2.not-Int

pub same_type-returns-in-Char-matches : goal.same_type-returns-in-Char-matches
same_type-returns-in-Char-matches t c = alike c.in-Char.is c.in-Char-matches.is

pub same_type-returns-in_default-matches-3 : goal.same_type-returns-in_default-matches-3
same_type-returns-in_default-matches-3 t c = unlike c.in-Char.is c.in_default-matches-3.not-Char

pub same_type-returns-in-Str-matches : goal.same_type-returns-in-Str-matches
same_type-returns-in-Str-matches t c = alike c.in-Str.is c.in-Str-matches.is

pub same_type-returns-in_default-matches-4 : goal.same_type-returns-in_default-matches-4
same_type-returns-in_default-matches-4 t c = unlike c.in-Str.is c.in_default-matches-4.not-Str

pub same_type-returns-in-Blob-matches : goal.same_type-returns-in-Blob-matches
same_type-returns-in-Blob-matches t c = alike c.in-Blob.is c.in-Blob-matches.is

pub same_type-returns-in_default-matches-5 : goal.same_type-returns-in_default-matches-5
same_type-returns-in_default-matches-5 t c = unlike c.in-Blob.is c.in_default-matches-5.not-Blob

pub same_type-returns-in-Host-matches : goal.same_type-returns-in-Host-matches
same_type-returns-in-Host-matches t c = alike c.in-Host.is c.in-Host-matches.is

pub same_type-returns-in_default-matches-6 : goal.same_type-returns-in_default-matches-6
same_type-returns-in_default-matches-6 t c = unlike c.in-Host.is c.in_default-matches-6.not-Host

pub same_type-returns-in-Dev-matches : goal.same_type-returns-in-Dev-matches
same_type-returns-in-Dev-matches t c = alike c.in-Dev.is c.in-Dev-matches.is

pub same_type-returns-in_default-matches-7 : goal.same_type-returns-in_default-matches-7
same_type-returns-in_default-matches-7 t c = unlike c.in-Dev.is c.in_default-matches-7.not-Dev

pub same_type-returns-in-Chunk-matches : goal.same_type-returns-in-Chunk-matches
same_type-returns-in-Chunk-matches t c = alike c.in-Chunk.is c.in-Chunk-matches.is

pub same_type-returns-in_default-matches-8 : goal.same_type-returns-in_default-matches-8
same_type-returns-in_default-matches-8 t c = unlike c.in-Chunk.is c.in_default-matches-8.not-Chunk

pub same_type-returns-in-List-b : goal.same_type-returns-in-List-b
same_type-returns-in-List-b t c = grind (arith, trees)

pub same_type-returns-in_default-b : goal.same_type-returns-in_default-b
same_type-returns-in_default-b t c = unlike c.in-List.is (c.in_default-b.not-List c.in-List.item)

pub same_type-returns-in-Tuple-b : goal.same_type-returns-in-Tuple-b
same_type-returns-in-Tuple-b t c = grind (arith, trees)

pub same_type-returns-in_default-b-2 : goal.same_type-returns-in_default-b-2
same_type-returns-in_default-b-2 t c = unlike c.in-Tuple.is (c.in_default-b-2.not-Tuple c.in-Tuple.parts)
