-- How an answer follows the rules of operators, parts and primitives.
use Rattle.std.specs.Prelude.{◌≡◌, Result, Ok, Err}
use Rattle.plan_base.specs.declared.tree.Exn.{Exn}
use Rattle.plan_base.specs.declared.tree.Ty.{Ty}
use Rattle.plan_base.specs.declared.tree.Value.{Value}
use Rattle.plan_types_spec.specs.Typing.{HasType}
use Rattle.plan_types_spec.specs.Rules.{Given, gives, raises, unfit, limited_value}
use Rattle.plan_values.specs.declared.fault.PrimFault.{PrimFault}
use Rattle.plan_values.specs.declared.fault.PrimFault.TheVariants as fault

-- the value or the exception of the rules, or `Unfit` where they have neither; of running out of memory nothing is said
abbrev pub Answers : Given → Result Value PrimFault → Type 0
Answers want (Ok v) = want ≡ gives v
Answers want (Err (fault.Raises x)) = want ≡ raises x
Answers want (Err fault.Unfit) = want ≡ unfit
Answers want (Err fault.NoMemory) = Unit {0}

-- the same of a value that is not weighed yet
abbrev pub AnswersUnweighed : Given → Result Value PrimFault → Type 0
AnswersUnweighed want (Ok v) = want ≡ limited_value v
AnswersUnweighed want (Err (fault.Raises x)) = want ≡ raises x
AnswersUnweighed want (Err fault.Unfit) = want ≡ unfit
AnswersUnweighed want (Err fault.NoMemory) = Unit {0}

-- the exception, or running out of memory
abbrev pub RaisesOnly : Exn → PrimFault → Type 0
RaisesOnly x (fault.Raises y) = y ≡ x
RaisesOnly x fault.Unfit = ⊥
RaisesOnly x fault.NoMemory = Unit {0}

-- a value of the type, an exception, or running out of memory
abbrev pub IsFit : Ty → Result Value PrimFault → Type 0
IsFit t (Ok v) = HasType v t
IsFit t (Err (fault.Raises x)) = Unit {0}
IsFit t (Err fault.Unfit) = ⊥
IsFit t (Err fault.NoMemory) = Unit {0}
