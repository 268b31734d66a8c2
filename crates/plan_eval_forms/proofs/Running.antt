-- What is said of the parts of an evaluation, joined.
use Rattle.std.proofs.Common.{◌≡◌, ◌≢◌, ◌≤◌, ◌+◌, ℕ, List, [], ◌++◌, refl, sym, ap, ◌∙◌, arith, append-nil}
use Rattle.std.proofs.lemmas.List.{append_assoc}
use Rattle.plan_base.specs.declared.tree.Program.{Program}
use Rattle.plan_base.specs.declared.tree.Value.{Value}
use Rattle.service_api.specs.Services.{ServiceState}
use Rattle.plan_meaning.specs.Run.{RunStep, gave, spend}
use Rattle.plan_meaning.specs.Safe.{IsSafe}
use Rattle.plan_eval_state.specs.declared.progress.Progress.{Progress}
use Rattle.plan_eval_state.specs.declared.progress.Progress.TheVariants as came
use Rattle.plan_eval_state.specs.declared.run.Run.{Run}
use Rattle.plan_eval_state.specs.Leads.{Leads}
use Rattle.plan_eval_state.specs.Spots.{Spot, means, begins}
use Rattle.plan_eval_state.specs.Flow.{now, Given, Flows, Spends, Lasts}
use Rattle.plan_eval_state.proofs.Flowing.{flows_led}
use Rattle.plan_eval_state.proofs.Counting.{lasts_spends, lasts_later, settled_lasts}
use Rattle.plan_eval_state.proofs.Lawful as law
use Rattle.plan_eval_made.specs.Comes.{Grows, Keeps, Comes, Continues}

-- ---- programs

pub grows_same : (old new : List Program) → new ≡ old → Grows old new
grows_same old new is = record { more = []; grown = is ∙ sym (append-nil old) }

pub grows_on : (a b c : List Program) → Grows a b → Grows b c → Grows a c
grows_on a b c f g = record { more = f.more ++ g.more; grown = g.grown ∙ ap (λ l. l ++ g.more) f.grown ∙ append_assoc a f.more g.more }

-- ---- what stays

pub keeps_itself : (run : Run) (n : ServiceState) → Keeps run n run n
keeps_itself run n = record { falls = omega arith; grown = grows_same run.codes run.codes refl; offer = refl; begun = refl }

pub keeps_on : (a b c : Run) (k m n : ServiceState) → Keeps a k b m → Keeps b m c n → Keeps a k c n
keeps_on a b c k m n f g =
    record {
      falls = omega (arith, f.falls, g.falls);
      grown = grows_on a.codes b.codes c.codes f.grown g.grown;
      offer = g.offer ∙ f.offer;
      begun = g.begun ∙ f.begun;
    }

-- a step that touches no program and no service
pub keeps_quiet : (old new : Run) (n : ServiceState) → new.state.work ≤ old.state.work → new.codes ≡ old.codes → Keeps old n new n
keeps_quiet old new n falls same = record { falls = falls; grown = grows_same old.codes new.codes same; offer = refl; begun = refl }

pub keeps_done : (depth : ℕ) (s : Spot) (pre : List Value) (want : RunStep Value) (old : Run) (from : ServiceState) (new : Run) (to : ServiceState)
    → Comes depth s pre want old from came.Done new to → Keeps old from new to
keeps_done depth s pre want old from new to h = record { falls = h.spends; grown = h.grown; offer = h.offer; begun = h.begun }

-- ---- one that goes on

module _ (depth : ℕ) (s : Spot) (pre : List Value) (want : RunStep Value) (old : Run) (from : ServiceState) (p : Progress) (new : Run) (to : ServiceState) where
  pub continues_led : (other : RunStep Value) → IsSafe want.asks → Leads want other → Continues depth s pre other old from p new to → Continues depth s pre want old from p new to
  continues_led other safe leads h =
      record { flows = flows_led s pre want other p new to safe leads h.flows; lasts = h.lasts; grown = h.grown; offer = h.offer; begun = h.begun }

  pub continues_from : (mid : Run) (via : ServiceState) → Keeps old from mid via → Continues depth s pre want mid via p new to → Continues depth s pre want old from p new to
  continues_from mid via k h =
      record {
        flows = h.flows;
        lasts = lasts_later depth old.state.work mid.state.work p new k.falls h.lasts;
        grown = grows_on old.codes mid.codes new.codes k.grown h.grown;
        offer = h.offer ∙ k.offer;
        begun = h.begun ∙ k.begun;
      }

  -- what ends at once
  pub continues_settled : Flows s pre want p new to → p ≢ came.Wait → Keeps old from new to → Continues depth s pre want old from p new to
  continues_settled flows settled k =
      record { flows = flows; lasts = settled_lasts depth old.state.work p new settled k.falls; grown = k.grown; offer = k.offer; begun = k.begun }

  -- what was evaluated gave a value, and something goes on with it
  pub done_goes : (next : Spot) (low : List Value) (inner : RunStep Value) (mid : Run) (via : ServiceState) → Comes depth next low inner old from came.Done mid via
      → (Given low inner mid (now mid via) → Continues depth s pre want mid via p new to) → Continues depth s pre want old from p new to
  done_goes next low inner mid via h on = continues_from mid via (keeps_done depth next low inner old from mid via h) (on h.flows)

-- what was evaluated gave no value
pub continues_back : (depth : ℕ) (s next : Spot) (pre low : List Value) (want inner : RunStep Value) (old : Run) (from : ServiceState) (p : Progress) (mid : Run) (via : ServiceState)
    (q : Progress) (new : Run) → Comes depth next low inner old from p mid via → (Flows next low inner p mid via → Flows s pre want q new via)
    → ((d o : ℕ) → Spends d o p mid → Lasts d o q new) → new.codes ≡ mid.codes → Continues depth s pre want old from q new via
continues_back depth s next pre low want inner old from p mid via q new h flows lasts codes =
    record {
      flows = flows h.flows;
      lasts = lasts depth old.state.work h.spends;
      grown = grows_on old.codes mid.codes new.codes h.grown (grows_same mid.codes new.codes codes);
      offer = h.offer;
      begun = h.begun;
    }

-- an expression that spent 1 came as far as what it begins
pub comes_begun : (depth below : ℕ) (s : Spot) (pre : List Value) (old : Run) (from : ServiceState) (mid : Run) (p : Progress) (new : Run) (to : ServiceState)
    → (spend 1 (now old from)).after ≡ gave tt (now mid from) → mid.state.work + 1 ≡ old.state.work → mid.codes ≡ old.codes → IsSafe (means s (now old from)).asks
    → Continues below s pre (begins s (now mid from)) mid from p new to → Comes depth s pre (means s (now old from)) old from p new to
comes_begun depth below s pre old from mid p new to paid less codes safe h =
    let leads = law.pays_first s (now old from) (now mid from) paid in
    record {
      flows = flows_led s pre (means s (now old from)) (begins s (now mid from)) p new to safe leads h.flows;
      spends = lasts_spends depth below old.state.work mid.state.work p new (omega (arith, less)) h.lasts;
      grown = grows_on old.codes mid.codes new.codes (grows_same old.codes mid.codes codes) h.grown;
      offer = h.offer;
      begun = h.begun;
    }
