-- Which types operators, parts and primitives take.
use Rattle.std.specs.Prelude.{◌≡◌, true, List, [], ◌∷◌, Some}
use Rattle.plan_base.specs.declared.prim.Primitive.{Primitive}
use Rattle.plan_base.specs.declared.tree.Op.{Op}
use Rattle.plan_base.specs.declared.tree.Ty.{Ty}
use Rattle.plan_base.specs.declared.tree.Ty as ty
use Rattle.plan_types_spec.specs.Typing.{HasType}
use Rattle.plan_types_spec.specs.TypingNames.{OpKind, arithmetic, joining, equality, ordering, listing, kind_of, is_joined, is_ordered, of_list, takes, makes}
use Rattle.plan_types_spec.specs.Rules.{Given, gives, raises, unfit}

abbrev pub KindTakes : OpKind → Ty → Ty → Ty → Type 0
KindTakes arithmetic t u r = (t ≡ ty.Int) × (u ≡ ty.Int) × (r ≡ ty.Int)
KindTakes joining t u r = (is_joined t ≡ true) × (u ≡ t) × (r ≡ t)
KindTakes equality t u r = (u ≡ t) × (r ≡ ty.Bool)
KindTakes ordering t u r = (is_ordered t ≡ true) × (u ≡ t) × (r ≡ ty.Bool)
KindTakes listing t u r = (u ≡ ty.List t) × (r ≡ u)

-- the operator takes operands of the first two types and gives the last
abbrev pub OperatorTakes : Op → Ty → Ty → Ty → Type 0
OperatorTakes o t u r = KindTakes (kind_of o) t u r

-- the primitive takes arguments of these types and gives the last
pub data PrimitiveTakes (p : Primitive) (ts : List Ty) (r : Ty) : Type 0 where
  fixed : takes p ≡ Some ts → r ≡ makes p → PrimitiveTakes p ts r
  any_list : (u : Ty) → ts ≡ ty.List u ∷ [] → of_list p u ≡ Some r → PrimitiveTakes p ts r

-- a value of the type or an exception
abbrev pub Fits : Ty → Given → Type 0
Fits t (gives v) = HasType v t
Fits t (raises x) = Unit {0}
Fits t unfit = ⊥
