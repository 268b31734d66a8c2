-- What a value is, as a service takes its arguments.
use Rattle.std.specs.Prelude.{ℕ, ℤ, List, Option, Some, None}
use Rattle.plan_base.specs.declared.ids.Host.{Host}
use Rattle.plan_base.specs.declared.tree.Value.TheOpen.{Value-F}
use Rattle.plan_base.specs.Trees.{ValueLayer}

abbrev pub host_in : ValueLayer → Option Host
host_in (Value-F.Host h) = Some h
host_in _ = None

abbrev pub int_in : ValueLayer → Option ℤ
int_in (Value-F.Int z) = Some z
int_in _ = None

abbrev pub text_in : ValueLayer → Option (List ℕ)
text_in (Value-F.Str s) = Some s
text_in _ = None
