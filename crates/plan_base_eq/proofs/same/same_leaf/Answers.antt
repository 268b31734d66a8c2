use Rattle.std.proofs.Common.{arith}
use Rattle.plan_base.specs.Trees.{trees}
use Rattle.plan_base_eq.proofs.Alike.{alike, unlike}
use Rattle.plan_base_eq.proofs.same.same_leaf.Goals as goal

pub returns-in-Unit-matches : goal.returns-in-Unit-matches
returns-in-Unit-matches c = alike c.in-Unit.is c.in-Unit-matches.is

pub returns-in_default-matches : goal.returns-in_default-matches
returns-in_default-matches c = unlike c.in-Unit.is c.in_default-matches.not-Unit

pub returns-in-Bool-other : goal.returns-in-Bool-other
returns-in-Bool-other c = grind (arith, trees)

pub returns-in_default-other : goal.returns-in_default-other
returns-in_default-other c = unlike c.in-Bool.is (c.in_default-other.not-Bool c.in-Bool.x)

pub returns-in-Int-other : goal.returns-in-Int-other
returns-in-Int-other c = grind (arith, trees)

pub returns-in_default-other-2 : goal.returns-in_default-other-2
returns-in_default-other-2 c = unlike c.in-Int.is (c.in_default-other-2.not-Int c.in-Int.x)

pub returns-in-Char-other : goal.returns-in-Char-other
returns-in-Char-other c = grind (arith, trees)

pub returns-in_default-other-3 : goal.returns-in_default-other-3
returns-in_default-other-3 c = unlike c.in-Char.is (c.in_default-other-3.not-Char c.in-Char.x)

pub returns-in-Str-other : goal.returns-in-Str-other
returns-in-Str-other c = grind (arith, trees)

pub returns-in_default-other-4 : goal.returns-in_default-other-4
returns-in_default-other-4 c = unlike c.in-Str.is (c.in_default-other-4.not-Str c.in-Str.x)

pub returns-in-Blob-other : goal.returns-in-Blob-other
returns-in-Blob-other c = grind (arith, trees)

pub returns-in_default-other-5 : goal.returns-in_default-other-5
returns-in_default-other-5 c = unlike c.in-Blob.is (c.in_default-other-5.not-Blob c.in-Blob.x)

pub returns-in-Host-other : goal.returns-in-Host-other
returns-in-Host-other c = grind (arith, trees)

pub returns-in_default-other-6 : goal.returns-in_default-other-6
returns-in_default-other-6 c = unlike c.in-Host.is (c.in_default-other-6.not-Host c.in-Host.x)

pub returns-in-Dev-other : goal.returns-in-Dev-other
returns-in-Dev-other c = grind (arith, trees)

pub returns-in_default-other-7 : goal.returns-in_default-other-7
returns-in_default-other-7 c = unlike c.in-Dev.is (c.in_default-other-7.not-Dev c.in-Dev.x)

pub returns-in-Nil-other : goal.returns-in-Nil-other
returns-in-Nil-other c = grind (arith, trees)

pub returns-in_default-other-8 : goal.returns-in_default-other-8
returns-in_default-other-8 c = unlike c.in-Nil.is (c.in_default-other-8.not-Nil c.in-Nil.t)

pub returns-in-Var-other : goal.returns-in-Var-other
returns-in-Var-other c = grind (arith, trees)

pub returns-in_default-other-9 : goal.returns-in_default-other-9
returns-in_default-other-9 c = unlike c.in-Var.is (c.in_default-other-9.not-Var c.in-Var.x)

pub returns-then-is : goal.returns-then-is
returns-then-is c = grind (arith, trees)

pub returns-else-is : goal.returns-else-is
returns-else-is c = grind (arith, trees)

pub returns-in_default-other-10 : goal.returns-in_default-other-10
returns-in_default-other-10 c = unlike c.in-Raise.is (c.in_default-other-10.not-Raise c.in-Raise.x c.in-Raise.t)

pub returns-in_default : goal.returns-in_default
returns-in_default c = grind (arith, trees)
