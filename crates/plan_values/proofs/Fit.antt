-- Answers from operands of the types that are taken.
use Rattle.std.proofs.Common.{◌≡◌, ℕ, List, Result, Ok, Err, Some, subst}
use Rattle.plan_base.specs.declared.prim.Primitive.{Primitive}
use Rattle.plan_base.specs.declared.tree.Op.{Op}
use Rattle.plan_base.specs.declared.tree.Ty.{Ty}
use Rattle.plan_base.specs.declared.tree.Ty as ty
use Rattle.plan_base.specs.declared.tree.Value.{Value}
use Rattle.plan_types_spec.specs.Typing.{HasType, HaveTypes}
use Rattle.plan_types_spec.specs.TypingNames.{part_of}
use Rattle.plan_types_spec.specs.Rules as rules
use Rattle.plan_types_spec.specs.Rules.{Given}
use Rattle.plan_types_spec.specs.Typed.{OperatorTakes, PrimitiveTakes, Fits}
use Rattle.plan_types_spec.proofs.Fitting.{operator_fits, selection_fits, primitive_fits}
use Rattle.plan_values.specs.declared.fault.PrimFault.{PrimFault}
use Rattle.plan_values.specs.declared.fault.PrimFault.TheVariants as fault
use Rattle.plan_values.specs.Answers.{Answers, IsFit}

fit_answer : (t : Ty) (want : Given) (r : Result Value PrimFault) → Answers want r → Fits t want → IsFit t r
fit_answer t want (Ok v) a f = subst (λ x. Fits t x) a f
fit_answer t want (Err (fault.Raises x)) a f = tt
fit_answer t want (Err fault.Unfit) a f = subst (λ x. Fits t x) a f
fit_answer t want (Err fault.NoMemory) a f = tt

pub binary_fits : (o : Op) (a b : Value) (x : Result Value PrimFault) → Answers (rules.binary o a b) x → (t u r : Ty) → OperatorTakes o t u r → HasType a t → HasType b u → IsFit r x
binary_fits o a b x h t u r k l m = fit_answer r (rules.binary o a b) x h (operator_fits o a b t u r k l m)

pub part_fits : (i : ℕ) (v : Value) (x : Result Value PrimFault) → Answers (rules.part i v) x → (ts : List Ty) (t : Ty) → HasType v (ty.Tuple ts) → part_of i ts ≡ Some t → IsFit t x
part_fits i v x h ts t k e = fit_answer t (rules.part i v) x h (selection_fits i v ts t k e)

pub primitive_fits_in : (p : Primitive) (vs : List Value) (x : Result Value PrimFault) → Answers (rules.primitive p vs) x → (ts : List Ty) (r : Ty) → PrimitiveTakes p ts r → HaveTypes vs ts → IsFit r x
primitive_fits_in p vs x h ts r k l = fit_answer r (rules.primitive p vs) x h (primitive_fits p vs ts r k l)
