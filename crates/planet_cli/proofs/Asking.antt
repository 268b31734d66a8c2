-- The laws of `inject` and of `grow`.
use Rattle.std.proofs.Common.{◌≡◌, ◌⊎◌, inl, inr, ℕ, IsTrue, List, Some, Result, Ok, Err, refl, sym, ap, ◌∙◌, subst}
use Rattle.network_config.specs.declared.fleet.AskFile.{AskFile}
use Rattle.node_io.specs.Causes.{HasRisen}
use Rattle.node_io.specs.Outsides.{Outside}
use Rattle.node_io.specs.Sinks.{SinkState, Writes}
use Rattle.fleet_run.specs.Asks.{Asks, ask_line, Bound, Sent}
use Rattle.fleet_run.specs.declared.fault.AskFault.{AskFault}
use Rattle.fleet_run.specs.declared.fault.AskFault.TheVariants as asks
use Rattle.grow_run.specs.Pings.{OfGrown}
use Rattle.planet_commands.specs.declared.status.Cause.{Cause}
use Rattle.planet_commands.specs.declared.status.Cause.TheVariants.{Done, Usage, Refused, ReadFault, WriteFault, LinkFault, SpawnFault, NoMemory, NodesFailed}
use Rattle.planet_commands.specs.Said.{Said, nothing, outside, says}
use Rattle.planet_commands.specs.Takes.{Untaken}
use Rattle.planet_commands_run.specs.Grown.{GrowsAs}
use Rattle.planet_commands_fleet.specs.Asks.{AsksAs, ask_said, ask_cause, Wire}
use Rattle.planet_cli.specs.Requests.{inject, grow}
use Rattle.planet_cli.specs.Does.{wire_in}
use Rattle.planet_cli.specs.Calls.{Calls}
use Rattle.planet_cli.specs.Laws.{AsksAtMost}
use Rattle.planet_cli.proofs.Views.{says_one, Took, took, left, view}
use Rattle.planet_cli.proofs.Giving.{done_found, call_gives_cause, well}

-- ---- requests

sent_whole : (a : AskFile) (result : Result (Unit {0}) AskFault) (old new : Wire) → ask_cause result ≡ Done → Asks a old.link new.link old.out new.out result
    → (Bound a old.link new.link × Sent a old.link new.link) × Writes old.out new.out (ask_line a)
sent_whole a (Ok x) old new e p = ((p.did.0, p.did.1), p.did.2)
sent_whole a (Err asks.LinkFault) old new e p = absurd (cc)
sent_whole a (Err asks.WriteFault) old new e p = absurd (cc)
sent_whole a (Err asks.NoMemory) old new e p = absurd (cc)

sent_so : (file : List ℕ) (a : AskFile) (c : Cause) (old new : Outside) → Took (ask_said file) AsksAs old.files new.files c (wire_in old) (wire_in new) → IsTrue old.files.observable
    → ask_said file old.files.held ≡ says a → c ≡ Done → (Bound a old.link new.link × Sent a old.link new.link) × Writes old.out new.out (ask_line a)
sent_so file a c old new (took b own p) seen e done =
    subst (λ x. (Bound x old.link new.link × Sent x old.link new.link) × Writes old.out new.out (ask_line x)) (says_one b a (sym (own seen) ∙ e))
    (sent_whole b p.result (wire_in old) (wire_in new) (sym p.is ∙ done) p.asks)
sent_so file a c old new (left u same) seen e done = elim (subst (Untaken (ask_said file) old.files new.files) done u) [ ]

at_most : (a : AskFile) (result : Result (Unit {0}) AskFault) (old new : Wire) → Asks a old.link new.link old.out new.out result → AsksAtMost (says a) old.link new.link
at_most a (Ok x) old new p = (λ t. inr (p.did.0 t), λ t. inr (p.did.1 t))
at_most a (Err asks.LinkFault) old new p = (p.did.1, λ t. inl p.did.2)
at_most a (Err asks.WriteFault) old new p = (λ t. inr (p.did.0 t), λ t. inr (p.did.1 t))
at_most a (Err asks.NoMemory) old new p = (λ t. inl (ap (λ l. l.binds) p.did.0), λ t. inl (ap (λ l. l.sent) p.did.0))

none_asked : (s : Said AskFile) (old new : Wire) → new ≡ old → AsksAtMost s old.link new.link
none_asked nothing old new e = ap (λ w. w.link) e
none_asked (outside r) old new e = ap (λ w. w.link) e
none_asked (says a) old new e = (λ t. inl (ap (λ w. w.link.binds) e), λ t. inl (ap (λ w. w.link.sent) e))

at_most_so : (file : List ℕ) (c : Cause) (old new : Outside) → Took (ask_said file) AsksAs old.files new.files c (wire_in old) (wire_in new) → IsTrue old.files.observable
    → AsksAtMost (ask_said file old.files.held) old.link new.link
at_most_so file c old new (took a own p) seen = subst (λ s. AsksAtMost s old.link new.link) (sym (own seen)) (at_most a p.result (wire_in old) (wire_in new) p.asks)
at_most_so file c old new (left u same) seen = none_asked (ask_said file old.files.held) (wire_in old) (wire_in new) same

module _ (file : List ℕ) (cause : Cause) (old new : Outside) (n m : SinkState) (call : Calls (Some (inject file)) cause old new n m) (seen : IsTrue old.files.observable) where
  asked_view : Took (ask_said file) AsksAs old.files new.files call.found (wire_in old) (wire_in new)
  asked_view = view (ask_said file) AsksAs file old.files new.files call.found (wire_in old) (wire_in new) call.does.1

  pub ask_sends : (a : AskFile) → ask_said file old.files.held ≡ says a → cause ≡ Done → Bound a old.link new.link × Sent a old.link new.link
  ask_sends a e done = (sent_so file a call.found old new asked_view seen e (done_found (Some (inject file)) cause old new n m call done)).0

  pub ask_writes : (a : AskFile) → ask_said file old.files.held ≡ says a → cause ≡ Done → Writes old.out new.out (ask_line a)
  ask_writes a e done = (sent_so file a call.found old new asked_view seen e (done_found (Some (inject file)) cause old new n m call done)).1

  pub ask_bounds : AsksAtMost (ask_said file old.files.held) old.link new.link
  ask_bounds = at_most_so file call.found old new asked_view seen

-- ---- networks that grow

pub grown_so : (seed k : ℕ) (c : Cause) (a b : SinkState) → GrowsAs seed k c a b → (c ≡ Done) ⊎ ((c ≡ NoMemory) ⊎ ((c ≡ WriteFault) × HasRisen a.faults b.faults))
grown_so seed k Done a b p = inl refl
grown_so seed k NoMemory a b p = inr (inl refl)
grown_so seed k WriteFault a b p = inr (inr (refl, p.is.rose))
grown_so seed k Usage a b p = elim p [ ]
grown_so seed k (Refused r) a b p = elim p [ ]
grown_so seed k ReadFault a b p = elim p [ ]
grown_so seed k LinkFault a b p = elim p [ ]
grown_so seed k SpawnFault a b p = elim p [ ]
grown_so seed k (NodesFailed h s) a b p = elim p [ ]

module _ (seed k : ℕ) (cause : Cause) (old new : Outside) (n m : SinkState) (call : Calls (Some (grow seed k)) cause old new n m) where
  -- it is done, but for `NoMemory` and faults of writing
  pub grow_is_whole : ¬ (HasRisen old.out.faults new.out.faults) → ¬ (HasRisen n.faults m.faults) → (cause ≡ Done) ⊎ (cause ≡ NoMemory)
  grow_is_whole f l = well call.found cause (HasRisen n.faults m.faults) (call_gives_cause (Some (grow seed k)) cause old new n m call) l
      (elim (grown_so seed k call.found old.out new.out call.does.1) [ inl e ↦ inl e | inr other ↦ elim other [ inl e ↦ inr e | inr w ↦ absurd (f w.1) ] ])

  pub grow_writes : cause ≡ Done → OfGrown seed k (Writes old.out new.out)
  grow_writes done = subst (λ c. GrowsAs seed k c old.out new.out) (done_found (Some (grow seed k)) cause old new n m call done) call.does.1
