-- The lines of the first statuses are a prefix of those of all.
use Rattle.std.proofs.Common.{◌≡◌, inl, inr, ℕ, zero, suc, List, [], ◌∷◌, ◌++◌, length, take, drop, IsTrue, Result, Ok, Err, refl, sym, ◌∙◌, ap, subst, append_assoc}
use Rattle.network_config.specs.declared.fleet.Kid.{Kid}
use Rattle.node_io.specs.Sinks.{SinkState, WritesPrefix}
use Rattle.node_io.specs.Spawners.{SpawnerState}
use Rattle.node_io.proofs.SinkLaws.{prefix_none, prefix_as, prefix_all, prefix_longer}
use Rattle.fleet_run.specs.Fleets.{kid_line, fleet_text}
use Rattle.fleet_run.specs.Runs.{RunsFleet, FleetResult}
use Rattle.fleet_run.specs.declared.reports.FleetEnd.{FleetEnd}
use Rattle.fleet_run.specs.declared.fault.FleetFault.{FleetFault}
use Rattle.fleet_run.specs.declared.fault.FleetFault.TheVariants.{StartFault, WaitFault, WriteFault, NoMemory}

-- what the lines of the first statuses leave of those of more
text_split : (kids : List Kid) (given : List ℕ) (n : ℕ) → (rest : List ℕ) × (fleet_text kids given ≡ fleet_text kids (take n given) ++ rest)
unfolding fleet_text
text_split [] given n = ([], refl)
text_split (kid ∷ kids) [] zero = ([], refl)
text_split (kid ∷ kids) [] (suc n) = ([], refl)
text_split (kid ∷ kids) (s ∷ given) zero = (kid_line kid s ++ fleet_text kids given, refl)
text_split (kid ∷ kids) (s ∷ given) (suc n) =
    let more = text_split kids given n in
    (more.0, ap (λ l. kid_line kid s ++ l) more.1 ∙ sym (append_assoc (kid_line kid s) (fleet_text kids (take n given)) more.0))

prefix_given : (kids : List Kid) (given ss : List ℕ) (a b : SinkState) → ss ≡ take (length ss) given → WritesPrefix a b (fleet_text kids ss) → WritesPrefix a b (fleet_text kids given)
prefix_given kids given ss a b e p =
    let more = text_split kids given (length ss) in
    prefix_as a b (fleet_text kids ss ++ more.0) (fleet_text kids given) (ap (λ l. fleet_text kids l ++ more.0) e ∙ sym more.1) (prefix_longer a b (fleet_text kids ss) more.0 p)

-- every answer leaves a prefix of the lines of its statuses
pub prefix_written : (kids : List Kid) (ss : List ℕ) (old new : SpawnerState) (a b : SinkState) (result : Result FleetEnd FleetFault) → FleetResult kids ss old new a b result → WritesPrefix a b (fleet_text kids ss)
prefix_written kids ss old new a b (Ok end) d = prefix_all a b (fleet_text kids ss) d.4
prefix_written kids ss old new a b (Err StartFault) d = subst (λ s. WritesPrefix a s (fleet_text kids ss)) (sym d.3) (prefix_none a (fleet_text kids ss))
prefix_written kids ss old new a b (Err WaitFault) d = prefix_all a b (fleet_text kids ss) d.3
prefix_written kids ss old new a b (Err WriteFault) d = record { count = d.2.count; is = d.2.is }
prefix_written kids ss old new a b (Err NoMemory) (inl d) = subst (λ s. WritesPrefix a s (fleet_text kids ss)) (sym d.1) (prefix_none a (fleet_text kids ss))
prefix_written kids ss old new a b (Err NoMemory) (inr d) = prefix_all a b (fleet_text kids ss) d.2

pub fleet_prefix : (kids : List Kid) (old new : SpawnerState) (a b : SinkState) (result : Result FleetEnd FleetFault) → RunsFleet kids old new a b result → IsTrue old.observable
    → WritesPrefix a b (fleet_text kids (drop old.started old.statuses))
fleet_prefix kids old new a b result f seen = prefix_given kids (drop old.started old.statuses) f.statuses a b (f.given seen) (prefix_written kids f.statuses old new a b result f.did)
