-- One log of an audit, as it is taken of the files.
use Rattle.std.proofs.Common.{◌≡◌, ℕ, Bool, true, false, if◌then◌else◌, List, Ok, Err, ap, ◌∙◌}
use Rattle.plan_base.specs.declared.ids.Host.{Host}
use Rattle.network_config.specs.Hosts.{is_listed}
use Rattle.network_config.specs.declared.node.Log.{Log}
use Rattle.line_reader.specs.declared.fault.LineReason.TheVariants.{TwiceNamed}
use Rattle.node_io.specs.FileMaps.{FileMap}
use Rattle.node_io.specs.FileStates.{FilesState}
use Rattle.planet_commands.specs.Own.{IsOwn}
use Rattle.planet_commands.specs.declared.status.Cause.{Cause}
use Rattle.planet_commands.specs.declared.status.Cause.TheVariants.{Done, Usage, Refused, ReadFault, WriteFault, LinkFault, SpawnFault, NoMemory, NodesFailed}
use Rattle.planet_commands.specs.declared.status.Refusal.{Refusal}
use Rattle.planet_commands.specs.declared.status.Refusal.TheVariants.{Line, At, Frame, BadHex, TooLong, Log as OfLog, LogTooLong}
use Rattle.planet_commands.specs.Said.{Said, outside, says, said_then}
use Rattle.planet_commands.specs.Takes.{Untaken, Takes}
use Rattle.planet_commands_fleet.specs.Audits.{refusal_of, cause_of, said_of, of_new_host}

own : (k : ℕ) (r : Refusal) → IsOwn r → IsOwn (refusal_of k r)
own k (Line n reason) h = h
own k (At byte fault) h = h
own k (Frame fault) h = h
own k BadHex h = h
own k TooLong h = h
own k (OfLog l n reason) h = h
own k (LogTooLong l) h = h

module _ {A : Type 0} (k : ℕ) (said : FileMap → Said A) (name : List ℕ) (old new : FilesState) where
  -- a value that was taken is that of the log with this number
  pub takes_numbered : (v : A) → Takes said name old new (Ok v) → Takes (λ held. said_of k (said held)) name old new (Ok v)
  takes_numbered v t = record { only = t.only; asked = t.asked; did = λ seen. ap (said_of k) (t.did seen) }

  -- and a cause for which none was is reported so
  pub takes_not : (c : Cause) → Takes said name old new (Err c) → Takes (λ held. said_of k (said held)) name old new (Err (cause_of k c))
  takes_not (Refused r) t = record { only = t.only; asked = t.asked; did = (own k r t.did.0, λ seen. ap (said_of k) (t.did.1 seen)) }
  takes_not ReadFault t = record { only = t.only; asked = t.asked; did = t.did }
  takes_not NoMemory t = record { only = t.only; asked = t.asked; did = tt }
  takes_not Done t = elim t.did [ ]
  takes_not Usage t = elim t.did [ ]
  takes_not WriteFault t = elim t.did [ ]
  takes_not LinkFault t = elim t.did [ ]
  takes_not SpawnFault t = elim t.did [ ]
  takes_not (NodesFailed h s) t = elim t.did [ ]

module _ {A B : Type 0} (said : FileMap → Said A) (more : FileMap → A → Said B) (name : List ℕ) (old new : FilesState) where
  -- where no value is said, nothing is said of it
  pub untaken_then : (c : Cause) → Untaken said old new c → Untaken (λ held. said_then (said held) (more held)) old new c
  untaken_then (Refused r) u = (u.0, λ seen. ap (λ s. said_then s (more old.held)) (u.1 seen))
  untaken_then ReadFault u = u
  untaken_then NoMemory u = tt
  untaken_then Done u = elim u [ ]
  untaken_then Usage u = elim u [ ]
  untaken_then WriteFault u = elim u [ ]
  untaken_then LinkFault u = elim u [ ]
  untaken_then SpawnFault u = elim u [ ]
  untaken_then (NodesFailed h s) u = elim u [ ]

module _ (k : ℕ) (hosts : List Host) (said : FileMap → Said Log) (name : List ℕ) (old new : FilesState) where
  host_is_judged : (l : Log) (b : Bool) → is_listed l.node.here hosts ≡ b → of_new_host k hosts l ≡ (if b then outside (OfLog k 2 TwiceNamed) else says l)
  host_is_judged l b e = ap (λ t. if t then outside (OfLog k 2 TwiceNamed) else says l) e

  -- a log of a host that none before it has
  pub takes_new : (l : Log) → Takes said name old new (Ok l) → is_listed l.node.here hosts ≡ false → Takes (λ held. said_then (said held) (of_new_host k hosts)) name old new (Ok l)
  takes_new l t e = record { only = t.only; asked = t.asked; did = λ seen. ap (λ s. said_then s (of_new_host k hosts)) (t.did seen) ∙ host_is_judged l false e }

  -- one of a host that a log before it has
  pub takes_twice : (l : Log) → Takes said name old new (Ok l) → is_listed l.node.here hosts ≡ true
      → Takes (λ held. said_then (said held) (of_new_host k hosts)) name old new (Err (Refused (OfLog k 2 TwiceNamed)))
  takes_twice l t e = record { only = t.only; asked = t.asked; did = (tt, λ seen. ap (λ s. said_then s (of_new_host k hosts)) (t.did seen) ∙ host_is_judged l true e) }

  -- none
  pub takes_unread : (c : Cause) → Takes said name old new (Err c) → Takes (λ held. said_then (said held) (of_new_host k hosts)) name old new (Err c)
  takes_unread c t = record { only = t.only; asked = t.asked; did = untaken_then said (λ held. of_new_host k hosts) name old new c t.did }
