-- How each command ends, by what its file makes of the call.
use Rattle.std.proofs.Common.{◌≡◌, ◌≢◌, ◌⊎◌, inl, inr, ℕ, IsTrue, List, Option, Some, None, refl, sym, ap, ◌∙◌, subst}
use Rattle.node_io.specs.Causes.{HasRisen}
use Rattle.node_io.specs.FileMaps.{FileMap}
use Rattle.node_io.specs.FileStates.{FilesState}
use Rattle.node_io.specs.Outsides.{Outside}
use Rattle.node_io.specs.Sinks.{SinkState}
use Rattle.node_io.proofs.SinkLaws.{prefix_none}
use Rattle.planet_commands.specs.Causes.{IfRefused}
use Rattle.planet_commands.specs.Own.{IsOwn}
use Rattle.planet_commands.specs.declared.status.Cause.{Cause}
use Rattle.planet_commands.specs.declared.status.Cause.TheVariants.{Done, Usage, Refused, ReadFault, WriteFault, LinkFault, SpawnFault, NoMemory, NodesFailed}
use Rattle.planet_commands.specs.declared.status.Refusal.{Refusal}
use Rattle.planet_commands.specs.Said.{Said, nothing, outside, says}
use Rattle.planet_commands.specs.Takes.{Untaken}
use Rattle.planet_commands.specs.Renders.{Prints}
use Rattle.fleet_run.specs.Asks.{ask_line}
use Rattle.planet_commands_fleet.specs.Audits.{audit_said}
use Rattle.planet_commands_fleet.specs.Asks.{AsksAs, ask_said}
use Rattle.planet_commands_fleet.specs.Fleets.{RunsAs, fleet_said}
use Rattle.planet_commands_fleet.specs.Nodes.{ServesAs, config_said}
use Rattle.planet_cli.specs.Kinds.{file_said}
use Rattle.planet_cli.specs.Requests.{Request, on_file, inject, fleet, audit, node, grow}
use Rattle.planet_cli.specs.Does.{Does, wire_in, shop_in, serving_in}
use Rattle.planet_cli.specs.Outcomes.{Outcome, unasked, missing, refused, whole, runs, outcome_by, outcome_of, IsWhole, IsAccepted, WritesOut, BeginsOut}
use Rattle.planet_cli.specs.Laws.{WhereInjected}
use Rattle.planet_cli.proofs.Views.{Took, took, left, view, text_view, audit_view}
use Rattle.planet_cli.proofs.Acting.{Acting, printing, asking, running, serving, growing}

-- a refusal is the file's own and what the file says, and leaves the output; what the file refuses is refused; it is done only where
-- the file is taken, and then its output stands; a prefix of it always does; and where no fault came it is done
pub record Ending (o : Outcome) (seen poor Quiet : Type 0) (old new : SinkState) (c : Cause) : Type 0 where
  pub usage : c ≡ Usage → o ≡ unasked
  pub refusal : IfRefused c (λ r. IsOwn r × ((seen → o ≡ refused r) × (new ≡ old)))
  pub told : seen → (r : Refusal) → o ≡ refused r → ¬ poor → (c ≡ Refused r) ⊎ (c ≡ NoMemory)
  pub accepted : seen → c ≡ Done → IsAccepted o
  pub done : seen → c ≡ Done → WritesOut o old new
  pub begun : seen → BeginsOut o old new
  pub complete : seen → IsWhole o → ¬ poor → ¬ (HasRisen old.faults new.faults) → Quiet → (c ≡ Done) ⊎ (c ≡ NoMemory)

-- nothing was written
pub none_begun : (o : Outcome) (s : SinkState) → BeginsOut o s s
none_begun unasked s = refl
none_begun missing s = refl
none_begun (refused r) s = refl
none_begun (whole text) s = prefix_none s text
none_begun runs s = tt

module _ {A : Type 0} (made : A → Outcome) (never : (v : A) (r : Refusal) → made v ≢ refused r) where
  refused_only : (s : Said A) (r : Refusal) → outcome_by made s ≡ refused r → s ≡ outside r
  refused_only nothing r e = absurd (cc)
  refused_only (outside q) r e = let same : q ≡ r = cc in ap outside same
  refused_only (says v) r e = absurd (never v r e)

  module _ (said : FileMap → Said A) (files read : FilesState) (Quiet : Type 0) (old new : SinkState) where
    acting_gives_ending : (v : A) (c : Cause) → (IsTrue files.observable → said files.held ≡ says v) → Acting (made v) Quiet old new c
        → Ending (outcome_by made (said files.held)) (IsTrue files.observable) (HasRisen files.read_faults read.read_faults) Quiet old new c
    acting_gives_ending v c own a = record {
      usage = λ e. absurd (a.asked e);
      refusal = none c a.unrefused;
      told = λ seen r e p. absurd (never v r (sym (is seen) ∙ e));
      accepted = λ seen e. subst IsAccepted (sym (is seen)) a.accepted;
      done = λ seen e. subst (λ q. WritesOut q old new) (sym (is seen)) (a.done e);
      begun = λ seen. subst (λ q. BeginsOut q old new) (sym (is seen)) a.begun;
      complete = λ seen w p f q. a.complete (subst IsWhole (is seen) w) f q;
    }
      where
        is : IsTrue files.observable → outcome_by made (said files.held) ≡ made v
        is seen = ap (outcome_by made) (own seen)

        none : (k : Cause) → IfRefused k (λ r. ⊥) → IfRefused k (λ r. IsOwn r × ((IsTrue files.observable → outcome_by made (said files.held) ≡ refused r) × (new ≡ old)))
        none (Refused r) h = absurd h
        none Done h = tt
        none Usage h = tt
        none ReadFault h = tt
        none WriteFault h = tt
        none LinkFault h = tt
        none SpawnFault h = tt
        none NoMemory h = tt
        none (NodesFailed host s) h = tt

    untaken : (c : Cause) → Untaken said files read c → new ≡ old
        → Ending (outcome_by made (said files.held)) (IsTrue files.observable) (HasRisen files.read_faults read.read_faults) Quiet old new c
    untaken (Refused r) u same = record {
      usage = λ e. absurd (cc);
      refusal = (u.0, (λ seen. ap (outcome_by made) (u.1 seen), same));
      told = λ seen q e p. let s : outside r ≡ outside q = sym (u.1 seen) ∙ refused_only (said files.held) q e in let t : r ≡ q = cc in inl (ap Refused t);
      accepted = λ seen e. absurd (cc);
      done = λ seen e. absurd (cc);
      begun = λ seen. subst (λ s. BeginsOut (outcome_by made (said files.held)) old s) (sym same) (none_begun (outcome_by made (said files.held)) old);
      complete = λ seen w p f q. absurd (subst IsWhole (ap (outcome_by made) (u.1 seen)) w);
    }
    untaken ReadFault u same = record {
      usage = λ e. absurd (cc);
      refusal = tt;
      told = λ seen q e p. absurd (p u);
      accepted = λ seen e. absurd (cc);
      done = λ seen e. absurd (cc);
      begun = λ seen. subst (λ s. BeginsOut (outcome_by made (said files.held)) old s) (sym same) (none_begun (outcome_by made (said files.held)) old);
      complete = λ seen w p f q. absurd (p u);
    }
    untaken NoMemory u same = record {
      usage = λ e. absurd (cc);
      refusal = tt;
      told = λ seen q e p. inr refl;
      accepted = λ seen e. absurd (cc);
      done = λ seen e. absurd (cc);
      begun = λ seen. subst (λ s. BeginsOut (outcome_by made (said files.held)) old s) (sym same) (none_begun (outcome_by made (said files.held)) old);
      complete = λ seen w p f q. inr refl;
    }
    untaken Done u same = elim u [ ]
    untaken Usage u same = elim u [ ]
    untaken WriteFault u same = elim u [ ]
    untaken LinkFault u same = elim u [ ]
    untaken SpawnFault u same = elim u [ ]
    untaken (NodesFailed h s) u same = elim u [ ]

-- ---- by the request

abbrev EndsBy : Option Request → Outside → Outside → Cause → Type 0
EndsBy request old new c =
    Ending (outcome_of request old.files.held) (IsTrue old.files.observable) (HasRisen old.files.read_faults new.files.read_faults)
    (WhereInjected request (¬ (HasRisen old.link.faults new.link.faults))) old.out new.out c

no_whole : (text : List ℕ) (r : Refusal) → whole text ≢ refused r
no_whole text r e = cc

no_runs : (r : Refusal) → runs ≢ refused r
no_runs r e = cc

prints_end : (said : FileMap → Said (List ℕ)) (files read : FilesState) (a b : SinkState) (c : Cause) → Took said Prints files read c a b
    → Ending (outcome_by whole (said files.held)) (IsTrue files.observable) (HasRisen files.read_faults read.read_faults) (Unit {0}) a b c
prints_end said files read a b c (took text own p) = acting_gives_ending whole no_whole said files read (Unit {0}) a b text c own (printing text c (Unit {0}) a b p)
prints_end said files read a b c (left u same) = untaken whole no_whole said files read (Unit {0}) a b c u same

ask_ends : (file : List ℕ) (c : Cause) (old new : Outside) → Took (ask_said file) AsksAs old.files new.files c (wire_in old) (wire_in new) → EndsBy (Some (inject file)) old new c
ask_ends file c old new (took a own p) =
    acting_gives_ending (λ x. whole (ask_line x)) (λ x r. no_whole (ask_line x) r) (ask_said file) old.files new.files (¬ (HasRisen old.link.faults new.link.faults)) old.out new.out a c own
    (asking a c (wire_in old) (wire_in new) p)
ask_ends file c old new (left u same) = untaken (λ x. whole (ask_line x)) (λ x r. no_whole (ask_line x) r) (ask_said file) old.files new.files (¬ (HasRisen old.link.faults new.link.faults)) old.out new.out c u (ap (λ w. w.out) same)

fleet_ends : (file : List ℕ) (c : Cause) (old new : Outside) → Took (fleet_said file) RunsAs old.files new.files c (shop_in old) (shop_in new) → EndsBy (Some (fleet file)) old new c
fleet_ends file c old new (took f own p) = acting_gives_ending (λ x. runs) (λ x r. no_runs r) (fleet_said file) old.files new.files (Unit {0}) old.out new.out f c own (running (Unit {0}) f c (shop_in old) (shop_in new) p)
fleet_ends file c old new (left u same) = untaken (λ x. runs) (λ x r. no_runs r) (fleet_said file) old.files new.files (Unit {0}) old.out new.out c u (ap (λ w. w.out) same)

node_ends : (file : List ℕ) (turns : ℕ) (c : Cause) (old new : Outside) (read : FilesState)
    → Took (config_said file) (ServesAs turns) old.files read c (record (serving_in old) { files = read }) (serving_in new) → EndsBy (Some (node file turns)) old new c
node_ends file turns c old new read (took cfg own p) =
    acting_gives_ending (λ x. runs) (λ x r. no_runs r) (config_said file) old.files new.files (Unit {0}) old.out new.out cfg c own
    (serving (Unit {0}) turns cfg c (record (serving_in old) { files = read }) (serving_in new) p)
node_ends file turns c old new read (left u same) =
    untaken (λ x. runs) (λ x r. no_runs r) (config_said file) old.files new.files (Unit {0}) old.out new.out c
    (subst (λ f. Untaken (config_said file) old.files f c) (sym (ap (λ w. w.files) same)) u) (ap (λ w. w.out) same)

apart_ends : (seen poor Q : Type 0) (a b : SinkState) (c : Cause) → Acting runs Q a b c → Ending runs seen poor Q a b c
apart_ends seen poor Q a b c p = record {
  usage = λ e. absurd (p.asked e);
  refusal = none c p.unrefused;
  told = λ s r e n. absurd (no_runs r e);
  accepted = λ s e. tt;
  done = λ s e. tt;
  begun = λ s. tt;
  complete = λ s w n f q. elim w [ ];
}
  where
    none : (k : Cause) → IfRefused k (λ r. ⊥) → IfRefused k (λ r. IsOwn r × ((seen → runs ≡ refused r) × (b ≡ a)))
    none (Refused r) h = absurd h
    none Done h = tt
    none Usage h = tt
    none ReadFault h = tt
    none WriteFault h = tt
    none LinkFault h = tt
    none SpawnFault h = tt
    none NoMemory h = tt
    none (NodesFailed host s) h = tt

usage_ends : (c : Cause) (old new : Outside) → c ≡ Usage → new ≡ old → EndsBy None old new c
usage_ends c old new u same = subst (EndsBy None old new) (sym u) (record {
  usage = λ e. refl;
  refusal = tt;
  told = λ s r e n. absurd (cc);
  accepted = λ s e. absurd (cc);
  done = λ s e. absurd (cc);
  begun = λ s. ap (λ o. o.out) same;
  complete = λ s w n f q. elim w [ ];
})

-- how a call ends
pub ends : (q : Option Request) (c : Cause) (old new : Outside) → Does q c old new → EndsBy q old new c
ends None c old new d = usage_ends c old new d.0 d.1
ends (Some (on_file kind file)) c old new d = prints_end (file_said kind file) old.files new.files old.out new.out c (text_view kind file old.files new.files c old.out new.out d.1)
ends (Some (inject file)) c old new d = ask_ends file c old new (view (ask_said file) AsksAs file old.files new.files c (wire_in old) (wire_in new) d.1)
ends (Some (fleet file)) c old new d = fleet_ends file c old new (view (fleet_said file) RunsAs file old.files new.files c (shop_in old) (shop_in new) d.1)
ends (Some (node file turns)) c old new d = node_ends file turns c old new d.1.read (view (config_said file) (ServesAs turns) file old.files d.1.read c (record (serving_in old) { files = d.1.read }) (serving_in new) d.1.did)
ends (Some (grow seed n)) c old new d = apart_ends (IsTrue old.files.observable) (HasRisen old.files.read_faults new.files.read_faults) (Unit {0}) old.out new.out c (growing (Unit {0}) seed n c old.out new.out d.1)
ends (Some (audit file)) c old new d = prints_end (audit_said file) old.files new.files old.out new.out c (audit_view file old.files new.files c old.out new.out d.1)
