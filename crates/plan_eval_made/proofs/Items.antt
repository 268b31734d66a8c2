-- The items that a fold takes, over plain variables.
use Rattle.std.proofs.Common.{◌≡◌, ◌≢◌, ℕ, ◌+◌, ◌-◌, ℤ, pos, ◌+ℤ◌, arith, Bool, List, [], ◌∷◌, ◌++◌, length, drop, reverse, slice_get, Option, Some, None, Result, Ok, Err, refl, sym, ap, ◌∙◌, subst}
use Rattle.containers.proofs.Options.{some-same}
use Rattle.plan_base.specs.declared.tree.Expr.{Expr-F}
use Rattle.plan_base.specs.declared.tree.Value.{Value, Value-F, out-Value}
use Rattle.plan_base.specs.declared.tree.Value as value
use Rattle.plan_base.specs.Trees.{ExprLayer, trees}
use Rattle.service_api.specs.Services.{ServiceState}
use Rattle.plan_meaning.specs.declared.stop.EvalStop.TheVariants.{Wrong}
use Rattle.plan_meaning.specs.State.{VisitState}
use Rattle.plan_meaning.specs.Run.{stopped}
use Rattle.plan_meaning.specs.Meaning.{as_int, as_items, int_at}
use Rattle.plan_eval_state.specs.declared.progress.Progress.{Progress}
use Rattle.plan_eval_state.specs.declared.progress.Progress.TheVariants as came
use Rattle.plan_eval_state.specs.declared.run.Run.{Run}
use Rattle.plan_eval_state.specs.Places.{at_place}
use Rattle.plan_eval_state.specs.Forms.{in_turn, step_args}
use Rattle.plan_eval_state.specs.Spots.{Spot, layer, left_behind}
use Rattle.plan_eval_state.specs.Flow.{now, Flows}
use Rattle.plan_eval_state.proofs.Bottoms.{place_of_top, place_under}
use Rattle.plan_eval_state.proofs.Going.{drop_front, drop_end}
use Rattle.plan_eval_made.specs.Comes.{turning}
use Rattle.plan_eval_made.specs.Makes.{Stays}
use Rattle.plan_eval_made.specs.Takes.{is_right, turned, Finds, Offers, left_of, Takes, TakesNone, StopsAt}

turned_is : (l : ExprLayer) (items : List Value) → turned (is_right l) items ≡ in_turn l items
turned_is (Expr-F.Foldr f a b) items = refl
turned_is _ items = refl

-- ---- the next item

module _ (l : ExprLayer) (taken z : ℤ) (list : Value) (items : List Value) (n : ℕ) (b : Bool) (is : Some items ≡ as_items list) (same : z ≡ taken) (place : z ≡ pos n) (right : b ≡ is_right l) where
  abbrev order : List Value
  order = in_turn l items

  turned_so : turned b items ≡ order
  turned_so = ap (λ r. turned r items) right ∙ turned_is l items

  left_at : left_behind l (Some taken) (as_items list) ≡ Some (drop n order)
  left_at = ap (λ o. left_behind l (Some taken) o) (sym is) ∙ ap (λ t. left_behind l (Some t) (Some items)) (sym same ∙ place)

  pub none_left : None ≡ slice_get (turned b items) n → left_behind l (Some taken) (as_items list) ≡ Some []
  none_left none = left_at ∙ ap Some (drop_end order n (sym (ap (λ o. slice_get o n) turned_so) ∙ sym none))

  pub found_next : (item : Value) (more next_taken : ℤ) → Some item ≡ slice_get (turned b items) n → more ≡ z +ℤ pos 1 → next_taken ≡ more → Finds l taken list item next_taken
  found_next item more next_taken there one is_more =
      let e : next_taken ≡ pos (n + 1) = is_more ∙ one ∙ ap (λ t. t +ℤ pos 1) place in
      record {
        left = drop (n + 1) order;
        before = left_at ∙ ap Some (drop_front order n item (sym (ap (λ o. slice_get o n) turned_so) ∙ sym there));
        behind = ap (λ o. left_behind l (Some next_taken) o) (sym is) ∙ ap (λ t. left_behind l (Some t) (Some items)) e;
      }

-- ---- what stands on the stack

pub second_is : (stack : List Value) (acc n list : Value) (pre : List Value) (h : ℕ) (x : Value) → stack ≡ acc ∷ n ∷ list ∷ pre → h ≡ length stack → at_place stack (h - 2) ≡ Some x → x ≡ n
second_is stack acc n list pre h x is height there =
    let e : h - 2 ≡ length (list ∷ pre) = omega (arith, height, ap length is) in
    some-same (sym there ∙ ap (λ s. at_place s (h - 2)) is ∙ place_under (acc ∷ []) (n ∷ list ∷ pre) (h - 2) n (place_of_top n (list ∷ pre) (h - 2) e))

pub third_is : (stack : List Value) (acc n list : Value) (pre : List Value) (h : ℕ) (x : Value) → stack ≡ acc ∷ n ∷ list ∷ pre → h ≡ length stack → at_place stack (h - 3) ≡ Some x → x ≡ list
third_is stack acc n list pre h x is height there =
    let e : h - 3 ≡ length pre = omega (arith, height, ap length is) in
    some-same (sym there ∙ ap (λ s. at_place s (h - 3)) is ∙ place_under (acc ∷ n ∷ []) (list ∷ pre) (h - 3) list (place_of_top list pre (h - 3) e))

int_of : (z : ℤ) → as_int (value.Int z) ≡ Some z
unfolding as_int
int_of z = let e : out-Value (value.Int z) ≡ Value-F.Int z = grind (arith, trees) in ap int_at e

-- ---- what comes of it

-- a fold without such a list has no case
turns_wrong : (s : Spot) (acc n list : Value) (st : VisitState) → left_of (layer s) n list ≡ None → (turning s (acc ∷ n ∷ list ∷ []) st).after ≡ stopped Wrong st
turns_wrong s acc n list st none = rw none refl

module _ (l : ExprLayer) (run : Run) where
  pub no_number : ((acc n list : Value) (pre : List Value) → run.stack ≡ acc ∷ n ∷ list ∷ pre → as_int n ≡ None) → StopsAt l run came.Wrong run
  no_number none = record {
    settled = λ same. cc;
    stays = record { state = refl; codes = refl; paused = refl };
    flows = λ s acc n list pre m form is. turns_wrong s acc n list (now run m) (ap (λ o. left_behind (layer s) o (as_items list)) (none acc n list pre is));
  }

  pub stops_so : (taken : ℤ) (list : Value) (p : Progress) (r : Result (Option (Value × ℤ)) Progress) → r ≡ Err p → Offers l taken list r
      → ((acc n other : Value) (pre : List Value) → run.stack ≡ acc ∷ n ∷ other ∷ pre → (as_int n ≡ Some taken) × (list ≡ other)) → StopsAt l run p run
  stops_so taken list p r is offers stands = by p (subst (Offers l taken list) is offers)
    where
      by : (p : Progress) → Offers l taken list (Err p) → StopsAt l run p run
      by came.Done h = absurd h
      by came.Wait h = absurd h
      by came.Raised h = absurd h
      by came.Spent h = absurd h
      by came.NoMemory h = record { settled = λ same. cc; stays = record { state = refl; codes = refl; paused = refl }; flows = λ s acc n other pre m form is. tt }
      by came.Wrong h = record {
        settled = λ same. cc;
        stays = record { state = refl; codes = refl; paused = refl };
        flows = λ s acc n other pre m form is.
            let at = stands acc n other pre is in
            turns_wrong s acc n other (now run m)
            (ap (λ o. left_behind (layer s) o (as_items other)) at.0 ∙ ap (λ v. left_behind (layer s) (Some taken) (as_items v)) (sym at.1) ∙ ap (λ f. left_behind f (Some taken) (as_items list)) form ∙ h);
      }

  module _ (taken : ℤ) (list acc n other : Value) (pre : List Value) (number : as_int n ≡ Some taken) (same : list ≡ other) where
    left_as : left_of l n other ≡ left_behind l (Some taken) (as_items list)
    left_as = ap (λ o. left_behind l o (as_items other)) number ∙ ap (λ v. left_behind l (Some taken) (as_items v)) (sym same)

    pub takes_none : left_behind l (Some taken) (as_items list) ≡ Some [] → TakesNone l n other run run
    takes_none none = record { none = left_as ∙ none; stacked = refl; stays = record { state = refl; codes = refl; paused = refl } }

    pub takes_one : (item : Value) (next_taken : ℤ) (new : Run) → Finds l taken list item next_taken → new.stack ≡ reverse (step_args l acc item) ++ value.Int next_taken ∷ other ∷ pre → Stays run new
        → Takes l acc n other pre run new
    takes_one item next_taken new found stacked stays = record {
      item = item;
      taken = value.Int next_taken;
      left = found.left;
      before = left_as ∙ found.before;
      behind = ap (λ o. left_behind l o (as_items other)) (int_of next_taken) ∙ ap (λ v. left_behind l (Some next_taken) (as_items v)) (sym same) ∙ found.behind;
      stacked = stacked;
      stays = stays;
    }
