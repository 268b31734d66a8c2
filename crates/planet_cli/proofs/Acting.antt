-- What holds of each command that acts on a value of its file.
use Rattle.std.proofs.Common.{◌≡◌, ◌≢◌, ◌⊎◌, inl, inr, ℕ, List, Result, Ok, Err, refl, sym, subst}
use Rattle.network_config.specs.declared.fleet.AskFile.{AskFile}
use Rattle.network_config.specs.declared.fleet.Fleet.{Fleet}
use Rattle.network_config.specs.declared.serve.ServeConfig.{ServeConfig}
use Rattle.node_io.specs.Causes.{HasRisen}
use Rattle.node_io.specs.Sinks.{SinkState, WritesPrefix}
use Rattle.node_io.proofs.SinkLaws.{prefix_none, prefix_all}
use Rattle.fleet_run.specs.Asks.{ask_line, Asks}
use Rattle.fleet_run.specs.declared.fault.AskFault.{AskFault}
use Rattle.fleet_run.specs.declared.fault.AskFault.TheVariants as asks
use Rattle.fleet_run.specs.declared.fault.FleetFault.{FleetFault}
use Rattle.fleet_run.specs.declared.fault.FleetFault.TheVariants as fleets
use Rattle.fleet_run.specs.declared.reports.FleetEnd.{FleetEnd}
use Rattle.fleet_run.specs.declared.reports.FleetEnd.TheVariants.{Well, Failed}
use Rattle.node_serve.specs.Desks.{Serving}
use Rattle.node_serve.specs.declared.fault.ServeFault.{ServeFault}
use Rattle.node_serve.specs.declared.fault.ServeFault.TheVariants as serves
use Rattle.planet_commands.specs.Causes.{IfRefused}
use Rattle.planet_commands.specs.declared.status.Cause.{Cause}
use Rattle.planet_commands.specs.declared.status.Cause.TheVariants.{Done, Usage, Refused, ReadFault, WriteFault, LinkFault, SpawnFault, NoMemory, NodesFailed}
use Rattle.planet_commands.specs.Renders.{Prints}
use Rattle.planet_commands_run.specs.Grown.{GrowsAs}
use Rattle.planet_commands_fleet.specs.Asks.{ask_cause, AsksAs, Wire}
use Rattle.planet_commands_fleet.specs.Fleets.{fleet_cause, RunsAs, Shop}
use Rattle.planet_commands_fleet.specs.Nodes.{serve_cause, ServesAs}
use Rattle.planet_cli.specs.Outcomes.{Outcome, whole, runs, IsWhole, IsAccepted, WritesOut, BeginsOut}

-- it ends with no cause of a reading, it is done only where its work was done, what stands is a prefix of it, and it is done where no
-- fault came
pub record Acting (o : Outcome) (Quiet : Type 0) (old new : SinkState) (c : Cause) : Type 0 where
  pub unrefused : IfRefused c (λ r. ⊥)
  pub asked : c ≢ Usage
  pub accepted : IsAccepted o
  pub done : c ≡ Done → WritesOut o old new
  pub begun : BeginsOut o old new
  pub complete : IsWhole o → ¬ (HasRisen old.faults new.faults) → Quiet → (c ≡ Done) ⊎ (c ≡ NoMemory)

-- a text that was printed
pub printing : (text : List ℕ) (c : Cause) (Quiet : Type 0) (a b : SinkState) → Prints text c a b → Acting (whole text) Quiet a b c
printing text Done Q a b p = record { unrefused = tt; asked = λ e. cc; accepted = tt; done = λ e. p; begun = prefix_all a b text p; complete = λ w f q. inl refl }
printing text WriteFault Q a b p = record {
  unrefused = tt;
  asked = λ e. cc;
  accepted = tt;
  done = λ e. absurd (cc);
  begun = record { count = p.count; is = p.is };
  complete = λ w f q. absurd (f p.rose);
}
printing text NoMemory Q a b p = record { unrefused = tt; asked = λ e. cc; accepted = tt; done = λ e. absurd (cc); begun = p; complete = λ w f q. inr refl }
printing text Usage Q a b p = elim p [ ]
printing text (Refused r) Q a b p = elim p [ ]
printing text ReadFault Q a b p = elim p [ ]
printing text LinkFault Q a b p = elim p [ ]
printing text SpawnFault Q a b p = elim p [ ]
printing text (NodesFailed h s) Q a b p = elim p [ ]

-- a request that was sent
asking_so : (a : AskFile) (result : Result (Unit {0}) AskFault) (old new : Wire) → Asks a old.link new.link old.out new.out result
    → Acting (whole (ask_line a)) (¬ (HasRisen old.link.faults new.link.faults)) old.out new.out (ask_cause result)
asking_so a (Ok x) old new p = record { unrefused = tt; asked = λ e. cc; accepted = tt; done = λ e. p.did.2; begun = prefix_all old.out new.out (ask_line a) p.did.2; complete = λ w f q. inl refl }
asking_so a (Err asks.LinkFault) old new p = record {
  unrefused = tt;
  asked = λ e. cc;
  accepted = tt;
  done = λ e. absurd (cc);
  begun = subst (λ s. WritesPrefix old.out s (ask_line a)) (sym p.did.3) (prefix_none old.out (ask_line a));
  complete = λ w f q. absurd (q p.did.0);
}
asking_so a (Err asks.WriteFault) old new p = record {
  unrefused = tt;
  asked = λ e. cc;
  accepted = tt;
  done = λ e. absurd (cc);
  begun = record { count = p.did.2.count; is = p.did.2.is };
  complete = λ w f q. absurd (f p.did.2.rose);
}
asking_so a (Err asks.NoMemory) old new p = record {
  unrefused = tt;
  asked = λ e. cc;
  accepted = tt;
  done = λ e. absurd (cc);
  begun = subst (λ s. WritesPrefix old.out s (ask_line a)) (sym p.did.1) (prefix_none old.out (ask_line a));
  complete = λ w f q. inr refl;
}

pub asking : (a : AskFile) (c : Cause) (old new : Wire) → AsksAs a c old new → Acting (whole (ask_line a)) (¬ (HasRisen old.link.faults new.link.faults)) old.out new.out c
asking a c old new p = subst (Acting (whole (ask_line a)) (¬ (HasRisen old.link.faults new.link.faults)) old.out new.out) (sym p.is) (asking_so a p.result old new p.asks)

-- what is defined apart
apart : (Q : Type 0) (a b : SinkState) (c : Cause) → IfRefused c (λ r. ⊥) → c ≢ Usage → Acting runs Q a b c
apart Q a b c unrefused asked = record { unrefused = unrefused; asked = asked; accepted = tt; done = λ e. tt; begun = tt; complete = λ w f q. elim w [ ] }

running_so : (Q : Type 0) (a b : SinkState) (result : Result FleetEnd FleetFault) → Acting runs Q a b (fleet_cause result)
running_so Q a b (Ok Well) = apart Q a b Done tt (λ e. cc)
running_so Q a b (Ok (Failed h s)) = apart Q a b (NodesFailed h s) tt (λ e. cc)
running_so Q a b (Err fleets.StartFault) = apart Q a b SpawnFault tt (λ e. cc)
running_so Q a b (Err fleets.WaitFault) = apart Q a b SpawnFault tt (λ e. cc)
running_so Q a b (Err fleets.WriteFault) = apart Q a b WriteFault tt (λ e. cc)
running_so Q a b (Err fleets.NoMemory) = apart Q a b NoMemory tt (λ e. cc)

pub running : (Q : Type 0) (f : Fleet) (c : Cause) (old new : Shop) → RunsAs f c old new → Acting runs Q old.out new.out c
running Q f c old new p = subst (Acting runs Q old.out new.out) (sym p.is) (running_so Q old.out new.out p.result)

serving_so : (Q : Type 0) (a b : SinkState) (result : Result (Unit {0}) ServeFault) → Acting runs Q a b (serve_cause result)
serving_so Q a b (Ok x) = apart Q a b Done tt (λ e. cc)
serving_so Q a b (Err serves.LinkFault) = apart Q a b LinkFault tt (λ e. cc)
serving_so Q a b (Err serves.WriteFault) = apart Q a b WriteFault tt (λ e. cc)
serving_so Q a b (Err serves.NoMemory) = apart Q a b NoMemory tt (λ e. cc)

pub serving : (Q : Type 0) (turns : ℕ) (cfg : ServeConfig) (c : Cause) (old new : Serving) → ServesAs turns cfg c old new → Acting runs Q old.out new.out c
serving Q turns cfg c old new p = subst (Acting runs Q old.out new.out) (sym p.is) (serving_so Q old.out new.out p.result)

pub growing : (Q : Type 0) (seed n : ℕ) (c : Cause) (a b : SinkState) → GrowsAs seed n c a b → Acting runs Q a b c
growing Q seed n Done a b p = apart Q a b Done tt (λ e. cc)
growing Q seed n WriteFault a b p = apart Q a b WriteFault tt (λ e. cc)
growing Q seed n NoMemory a b p = apart Q a b NoMemory tt (λ e. cc)
growing Q seed n Usage a b p = elim p [ ]
growing Q seed n (Refused r) a b p = elim p [ ]
growing Q seed n ReadFault a b p = elim p [ ]
growing Q seed n LinkFault a b p = elim p [ ]
growing Q seed n SpawnFault a b p = elim p [ ]
growing Q seed n (NodesFailed h s) a b p = elim p [ ]
