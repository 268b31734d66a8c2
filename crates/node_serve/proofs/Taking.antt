-- Frames that are taken: those that come back to the node, and those that are sent.
use Rattle.std.proofs.Common.{◌≡◌, ◌<◌, ◌++◌, ◌∷◌, [], true, false, IsTrue, ℕ, List, Option, Some, None, Result, Ok, Err, MatchResult, refl, sym, ap, ◌∙◌, arith, append-nil}
use Rattle.plan_base.specs.declared.ids.Dev.{Dev}
use Rattle.packet_frame.specs.declared.frame.PlainStamped.{PlainStamped}
use Rattle.packet_frame.specs.Stamped.{stamped_bytes}
use Rattle.network_config.specs.Hosts.{dev_of}
use Rattle.network_config.specs.declared.event.Event.TheVariants.{Take}
use Rattle.network_config.specs.declared.event.LogEvent.TheVariants.{Step}
use Rattle.network_config.specs.declared.serve.ServeConfig.{ServeConfig}
use Rattle.service_api.specs.Services.{ServiceState}
use Rattle.node_io.specs.FileStates.{FilesState}
use Rattle.node_io.specs.Links.{LinkState, Sends}
use Rattle.node_io.specs.Sinks.{SinkState}
use Rattle.node_io.proofs.FileWrites.{only_same}
use Rattle.node_log.specs.Runs.{with_entry, come_back, take_back, take_send}
use Rattle.node_serve.specs.Stays.{StandsFor}
use Rattle.node_serve.specs.Sendings.{sending}
use Rattle.node_serve.specs.Steps.{SendResult, SendsTaken}
use Rattle.node_serve.specs.Desks.{Desk, desk, seen_at, KeepsDesk, Faults}
use Rattle.node_serve.specs.Goes.{Goes, MakesStep}
use Rattle.node_serve.specs.declared.server.Server.{Server}
use Rattle.node_serve.specs.declared.steps.StepOutcome.{StepOutcome}
use Rattle.node_serve.specs.declared.steps.StepOutcome.TheVariants.{Lost, Took}
use Rattle.node_serve.specs.declared.fault.ServeFault.{ServeFault}
use Rattle.node_serve.specs.declared.fault.ServeFault.TheVariants.{LinkFault, WriteFault, NoMemory}
use Rattle.node_serve.proofs.Following.{held_is, back_took, stopped_back, send_stopped}
use Rattle.node_serve.proofs.MakeLaws.{back_refused, send_refused, send_result, made_as}
use Rattle.node_serve.proofs.Agreeing.{shows_unsent}
use Rattle.node_serve.proofs.Joining.{others_same, keeps_both, seen_on, faults_from, goes_same}

-- ---- a frame to the node itself

module _ {S : Type 0} (stands : S → ServiceState) (cfg : ServeConfig) (first mid : Server S) (a b : Desk) where
  -- the taking was refused
  pub back_lost : {T : Type 0} (made : StepOutcome) (x : T) → made ≡ Lost → MakesStep stands cfg (Take (dev_of 0)) first mid a b (Ok made) → Goes {T = T} stands cfg take_back first mid a b (Ok x)
  back_lost made x is m = record {
    keeps = m.keeps;
    faults = tt;
    run = λ seen base r st sh. back_refused stands cfg base (seen_at a) (seen_at b) r mid sh (made_as stands cfg base (seen_at b) r (Take (dev_of 0)) made Lost mid is (m.run seen base r st sh));
  }

  -- the frame was taken, and comes back
  pub back_comes : {T : Type 0} (made : StepOutcome) (x : Option PlainStamped) (last : Server S) (c : Desk) (result : Result T ServeFault) → made ≡ Took x → MakesStep stands cfg (Take (dev_of 0)) first mid a b (Ok made)
      → Goes stands cfg (come_back x) mid last b c result → Goes stands cfg take_back first last a c result
  back_comes made x last c result is m u = record {
    keeps = keeps_both a b c m.keeps u.keeps;
    faults = faults_from a b c result m.keeps.only u.faults;
    run = λ seen base r st sh.
        let took = made_as stands cfg base (seen_at b) r (Take (dev_of 0)) made (Took x) mid is (m.run seen base r st sh) in
        back_took (StandsFor stands last) cfg base (seen_at c) r x result (took.frame refl)
        (u.run (seen_on a b m.keeps.only seen) base (with_entry (Step (Take (dev_of 0))) r) took.stands_for (shows_unsent cfg base (seen_at a) (seen_at b) (Step (Take (dev_of 0))) r sh refl took.sees));
  }

  -- the step wasn't written
  pub back_stops : {T : Type 0} (fault : ServeFault) → MakesStep stands cfg (Take (dev_of 0)) first mid a b (Err fault) → Goes {T = T} stands cfg take_back first mid a b (Err fault)
  back_stops fault m = record { keeps = m.keeps; faults = m.faults; run = λ seen base r st sh. stopped_back cfg base (seen_at b) r (m.run seen base r st sh) }

-- ---- a frame to a neighbour

-- none was there
pub sends_none : (d : Dev) (x : Option PlainStamped) (l : LinkState) → x ≡ None → SendsTaken {T = Unit {0}} d x l l (Ok tt)
sends_none d x l is = record {
  observable = refl;
  script = refl;
  binds = refl;
  bound = refl;
  later = omega arith;
  did = λ seen. sym (append-nil l.sent) ∙ ap (λ o. l.sent ++ sending d o) (sym is);
}

-- it was sent
pub sends_one : {T E : Type 0} (d : Dev) (x : Option PlainStamped) (p : PlainStamped) (bytes : List ℕ) (old new : LinkState) (y : T) → x ≡ Some p → bytes ≡ stamped_bytes p
    → Sends {T = T} {E = E} (d, bytes) old new (Ok y) → SendsTaken {T = Unit {0}} d x old new (Ok tt)
sends_one d x p bytes old new y is spelled s = record {
  observable = s.observable;
  script = s.script;
  binds = s.binds;
  bound = s.bound;
  later = s.later;
  did = λ seen. s.did seen ∙ ap (λ b. old.sent ++ (d, b) ∷ []) spelled ∙ ap (λ o. old.sent ++ sending d o) (sym is);
}

-- the link failed
pub sends_fail : {T E : Type 0} (d : Dev) (x : Option PlainStamped) (bytes : List ℕ) (old new : LinkState) (e : E) → Sends {T = T} {E = E} (d, bytes) old new (Err e) → SendsTaken {T = Unit {0}} d x old new (Err LinkFault)
sends_fail d x bytes old new e s = record { observable = s.observable; script = s.script; binds = s.binds; bound = s.bound; later = s.later; did = s.did }

module _ {T : Type 0} (d : Dev) (x : Option PlainStamped) (fs : FilesState) (o : SinkState) (old new : LinkState) where
  sent_keeps : (result : Result T ServeFault) → SendsTaken d x old new result → KeepsDesk (desk fs o old) (desk fs o new)
  sent_keeps result s = record {
    only = record { files = only_same fs; out = refl; out_later = omega arith; link = s.observable; link_later = s.later };
    made = refl;
    writing = refl;
    target = refl;
    others = others_same fs.target fs fs refl;
    bound = s.bound;
    binds = s.binds;
  }

  sent_faults : (result : Result T ServeFault) → SendResult d x old new result → Faults (desk fs o old) (desk fs o new) result
  sent_faults (Ok y) s = tt
  sent_faults (Err LinkFault) s = s.1
  sent_faults (Err WriteFault) s = absurd s
  sent_faults (Err NoMemory) s = tt

  sent_so : (result : Result T ServeFault) → IsTrue old.observable → SendResult d x old new result → MatchResult result (λ _. new.sent ≡ old.sent ++ sending d x) (λ _. new.sent ≡ old.sent)
  sent_so (Ok y) seen s = s seen
  sent_so (Err LinkFault) seen s = s.0
  sent_so (Err WriteFault) seen s = absurd s
  sent_so (Err NoMemory) seen s = absurd s

module _ {S : Type 0} (stands : S → ServiceState) (cfg : ServeConfig) (d : Dev) (first mid : Server S) where
  -- a taking was refused in this turn
  pub send_holds : {T : Type 0} (a : Desk) (x : T) → first.held ≡ true → Goes {T = T} stands cfg (take_send d) first first a a (Ok x)
  send_holds a x held = goes_same stands cfg (take_send d) first a x (λ r st. held_is d r (sym st.held ∙ held))

  -- the taking was refused
  pub send_lost : {T : Type 0} (a b : Desk) (made : StepOutcome) (after : Server S) (x : T) → first.held ≡ false → made ≡ Lost → MakesStep stands cfg (Take d) first mid a b (Ok made)
      → after.node ≡ mid.node → after.last ≡ mid.last → after.held ≡ true → after.steps ≡ mid.steps → Goes {T = T} stands cfg (take_send d) first after a b (Ok x)
  send_lost a b made after x free is m n l h k = record {
    keeps = m.keeps;
    faults = tt;
    run = λ seen base r st sh. send_refused stands cfg base (seen_at a) (seen_at b) r d mid after (sym st.held ∙ free) sh (made_as stands cfg base (seen_at b) r (Take d) made Lost mid is (m.run seen base r st sh)) n l h k;
  }

  -- the step wasn't written
  pub send_stops : {T : Type 0} (a b : Desk) (fault : ServeFault) → first.held ≡ false → MakesStep stands cfg (Take d) first mid a b (Err fault) → Goes {T = T} stands cfg (take_send d) first mid a b (Err fault)
  send_stops a b fault free m = record {
    keeps = m.keeps;
    faults = m.faults;
    run = λ seen base r st sh. send_stopped cfg base (seen_at b) r d (sym st.held ∙ free) (m.run seen base r st sh);
  }

  -- the frame was taken, and sent or not
  pub send_took : {T : Type 0} (a : Desk) (fs : FilesState) (o : SinkState) (old new : LinkState) (made : StepOutcome) (x : Option PlainStamped) (result : Result T ServeFault) → first.held ≡ false → 0 < d.0 → made ≡ Took x
      → MakesStep stands cfg (Take d) first mid a (desk fs o old) (Ok made) → SendsTaken d x old new result → Goes stands cfg (take_send d) first mid a (desk fs o new) result
  send_took a fs o old new made x result free there is m s = record {
    keeps = keeps_both a (desk fs o old) (desk fs o new) m.keeps (sent_keeps d x fs o old new result s);
    faults = faults_from a (desk fs o old) (desk fs o new) result m.keeps.only (sent_faults d x fs o old new result s.did);
    run = λ seen base r st sh.
        let before = seen_on a (desk fs o old) m.keeps.only seen in
        send_result stands cfg base (seen_at a) (seen_at (desk fs o old)) (seen_at (desk fs o new)) r d x mid result (sym st.held ∙ free) there sh
        (made_as stands cfg base (seen_at (desk fs o old)) r (Take d) made (Took x) mid is (m.run seen base r st sh)) (sent_so d x fs o old new result before.2 s.did) refl refl refl;
  }
