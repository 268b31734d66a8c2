-- The test for equal values.
use Rattle.std.specs.Prelude.{Bool}
use Rattle.plan_base.specs.declared.tree.Value.{Value}
use Rattle.plan_base.specs.contracts.tree.Value as value
use Rattle.plan_types_spec.specs.Code.{same_code}

-- whether two values are equal, as `=` tests it
unfoldable pub same_value : Value → Value → Bool
same_value a b = same_code (value.the_row.coded.code a) (value.the_row.coded.code b)
