-- What is said of a fold that takes the next item of its list.
use Rattle.std.specs.Prelude.{◌≡◌, ◌≢◌, ℤ, pos, negsuc, reverse, Bool, true, false, List, [], ◌∷◌, ◌++◌, Option, Some, None, Result, Ok, Err}
use Rattle.plan_base.specs.declared.tree.Expr.{Expr-F}
use Rattle.plan_base.specs.declared.tree.Value.{Value}
use Rattle.plan_base.specs.Trees.{ExprLayer}
use Rattle.service_api.specs.Services.{ServiceState}
use Rattle.plan_meaning.specs.Meaning.{as_int, as_items}
use Rattle.plan_eval_state.specs.declared.progress.Progress.{Progress}
use Rattle.plan_eval_state.specs.declared.progress.Progress.TheVariants as came
use Rattle.plan_eval_state.specs.declared.run.Run.{Run}
use Rattle.plan_eval_state.specs.Forms.{step_args}
use Rattle.plan_eval_state.specs.Spots.{Spot, layer, left_behind}
use Rattle.plan_eval_state.specs.Flow.{now, Flows}
use Rattle.plan_eval_made.specs.declared.folds.Taking.{Taking}
use Rattle.plan_eval_made.specs.declared.folds.Taking.TheVariants as taking
use Rattle.plan_eval_made.specs.Comes.{turning}
use Rattle.plan_eval_made.specs.Makes.{Stays}

-- a fold from the last item on
abbrev pub is_right : ExprLayer → Bool
is_right (Expr-F.Foldr f a l) = true
is_right _ = false

-- the items in the order in which they are taken
abbrev pub turned : Bool → List Value → List Value
turned true items = reverse items
turned false items = items

abbrev pub IsNegative : ℤ → Type 0
IsNegative (pos n) = ⊥
IsNegative (negsuc n) = Unit {0}

-- the item behind so many of a list, with the number of items that are then taken
pub record Finds (l : ExprLayer) (n : ℤ) (list item : Value) (next_taken : ℤ) : Type 0 where
  pub left : List Value
  pub before : left_behind l (Some n) (as_items list) ≡ Some (item ∷ left)
  pub behind : left_behind l (Some next_taken) (as_items list) ≡ Some left

-- the same, or none is left, or there is no such list
abbrev pub Offers : ExprLayer → ℤ → Value → Result (Option (Value × ℤ)) Progress → Type 0
Offers l n list (Ok (Some p)) = Finds l n list p.0 p.1
Offers l n list (Ok None) = left_behind l (Some n) (as_items list) ≡ Some []
Offers l n list (Err came.Wrong) = left_behind l (Some n) (as_items list) ≡ None
Offers l n list (Err came.NoMemory) = Unit {0}
Offers l n list (Err _) = ⊥

-- the items of a fold's list that are left behind so many, by the values on the stack
abbrev pub left_of : ExprLayer → Value → Value → Option (List Value)
left_of l n list = left_behind l (as_int n) (as_items list)

-- an item was taken: the arguments of a step stand on top of the number of items that were taken and the list
pub record Takes (l : ExprLayer) (acc n list : Value) (pre : List Value) (old new : Run) : Type 0 where
  pub item : Value
  pub taken : Value
  pub left : List Value
  pub before : left_of l n list ≡ Some (item ∷ left)
  pub behind : left_of l taken list ≡ Some left
  pub stacked : new.stack ≡ reverse (step_args l acc item) ++ taken ∷ list ∷ pre
  pub stays : Stays old new

-- no item is left
pub record TakesNone (l : ExprLayer) (n list : Value) (old new : Run) : Type 0 where
  pub none : left_of l n list ≡ Some []
  pub stacked : new.stack ≡ old.stack
  pub stays : Stays old new

-- it came so far instead, over the same values
pub record StopsAt (l : ExprLayer) (old : Run) (p : Progress) (new : Run) : Type 0 where
  pub settled : p ≢ came.Wait
  pub stays : Stays old new
  pub flows : (s : Spot) (acc n list : Value) (pre : List Value) (m : ServiceState) → layer s ≡ l → old.stack ≡ acc ∷ n ∷ list ∷ pre
      → Flows s pre (turning s (acc ∷ n ∷ list ∷ []) (now old m)) p new m

-- a fold with its value so far, the number of items that were taken and its list on the stack takes its next item
abbrev pub TakesNext : ExprLayer → Run → Taking → Run → Type 0
TakesNext l old taking.Item new = (acc n list : Value) (pre : List Value) → old.stack ≡ acc ∷ n ∷ list ∷ pre → Takes l acc n list pre old new
TakesNext l old taking.Ended new = (acc n list : Value) (pre : List Value) → old.stack ≡ acc ∷ n ∷ list ∷ pre → TakesNone l n list old new
TakesNext l old (taking.Stopped p) new = StopsAt l old p new
