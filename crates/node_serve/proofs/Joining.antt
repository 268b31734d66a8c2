-- How calls of a serving node join.
use Rattle.std.proofs.Common.{◌≡◌, ℕ, ◌≤◌, ◌<◌, ◌+◌, ◌⊎◌, inl, inr, List, [], true, take, IsTrue, Result, Ok, Err, nat_le, refl, sym, ap, subst, ◌∙◌, arith}
use Rattle.network_config.specs.declared.serve.ServeConfig.{ServeConfig}
use Rattle.network_config.specs.declared.event.Event.{Event}
use Rattle.network_config.specs.declared.event.Event.TheVariants.{Tick}
use Rattle.service_api.specs.Services.{ServiceState}
use Rattle.node_core_spec.specs.State.{NodeState}
use Rattle.node_core.specs.declared.node.Node.{Node}
use Rattle.node_core.specs.Stands.{NodeStands}
use Rattle.node_io.specs.FileMaps.{file_at}
use Rattle.node_io.specs.FileStates.{FilesState, Adds, FailsAdding}
use Rattle.node_io.specs.Links.{LinkState}
use Rattle.node_io.specs.Sinks.{SinkState, Writes, FailsIn}
use Rattle.node_io.proofs.FileWrites.{only_same, only_both}
use Rattle.node_log.specs.Runs.{Running, Action, then_do, make, tick}
use Rattle.node_log.specs.Follow.{Grows}
use Rattle.node_log.proofs.Going.{make_grows}
use Rattle.node_serve.specs.Stays.{StandsFor}
use Rattle.node_serve.specs.Sendings.{SendsNone}
use Rattle.node_serve.specs.Steps.{Written, in_log, in_trace}
use Rattle.node_serve.specs.Desks.{Desk, desk, seen_at, IsSeen, OthersStay, OnlyServes, KeepsDesk, Faults}
use Rattle.node_serve.specs.Goes.{IsServing, Goes, MakesStep}
use Rattle.node_serve.proofs.Following.{reached_same, leaves_then, leaves_as, stopped_first, stopped_same, tick_over, tick_stopped}
use Rattle.node_serve.proofs.MakeLaws.{made_reached, step_stopped, step_made, stands_marked}
use Rattle.node_serve.proofs.Looping.{GoesUp, loop_stops}
use Rattle.node_serve.specs.declared.server.Server.{Server}
use Rattle.node_serve.specs.declared.steps.StepOutcome.{StepOutcome}
use Rattle.node_serve.specs.declared.steps.StepTexts.{StepTexts}
use Rattle.node_serve.specs.declared.fault.ServeFault.{ServeFault}
use Rattle.node_serve.specs.declared.fault.ServeFault.TheVariants.{LinkFault, WriteFault, NoMemory}

-- ---- what stays

pub others_same : (name : List ℕ) (a b : FilesState) → b.held ≡ a.held → OthersStay name a b
others_same name a b same seen other differs = ap (λ held. file_at held other) same

pub others_both : (name : List ℕ) (a b c : FilesState) → b.observable ≡ a.observable → OthersStay name a b → OthersStay name b c → OthersStay name a c
others_both name a b c same u v seen other differs = v (subst IsTrue (sym same) seen) other differs ∙ u seen other differs

pub only_desk : (d : Desk) → OnlyServes d d
only_desk d = record { files = only_same d.files; out = refl; out_later = omega arith; link = refl; link_later = omega arith }

pub only_desks : (a b c : Desk) → OnlyServes a b → OnlyServes b c → OnlyServes a c
only_desks a b c u v = record {
  files = only_both a.files b.files c.files u.files v.files;
  out = v.out ∙ u.out;
  out_later = omega (arith, u.out_later, v.out_later);
  link = v.link ∙ u.link;
  link_later = omega (arith, u.link_later, v.link_later);
}

pub keeps_same : (d : Desk) → KeepsDesk d d
keeps_same d = record {
  only = only_desk d;
  made = refl;
  writing = refl;
  target = refl;
  others = others_same d.files.target d.files d.files refl;
  bound = refl;
  binds = refl;
}

pub keeps_both : (a b c : Desk) → KeepsDesk a b → KeepsDesk b c → KeepsDesk a c
keeps_both a b c u v = record {
  only = only_desks a b c u.only v.only;
  made = v.made ∙ u.made;
  writing = v.writing ∙ u.writing;
  target = v.target ∙ u.target;
  others = others_both a.files.target a.files b.files c.files u.only.files.observable u.others (subst (λ name. OthersStay name b.files c.files) u.target v.others);
  bound = v.bound ∙ u.bound;
  binds = v.binds ∙ u.binds;
}

-- the log is still being written, and the peers are still bound
pub still_serving : (cfg : ServeConfig) (a b : Desk) → KeepsDesk a b → IsServing cfg a → IsServing cfg b
still_serving cfg a b k s = record { writing = subst IsTrue (sym k.writing) s.writing; bound = k.bound ∙ s.bound }

pub seen_on : (a b : Desk) → OnlyServes a b → IsSeen a → IsSeen b
seen_on a b k s = (subst IsTrue (sym k.files.observable) s.0, subst IsTrue (sym k.out) s.1, subst IsTrue (sym k.link) s.2)

pub seen_back : (a b : Desk) → OnlyServes a b → IsSeen b → IsSeen a
seen_back a b k s = (subst IsTrue k.files.observable s.0, subst IsTrue k.out s.1, subst IsTrue k.link s.2)

pub faults_from : {T : Type 0} (a b c : Desk) (result : Result T ServeFault) → OnlyServes a b → Faults b c result → Faults a c result
faults_from a b c (Ok x) k f = tt
faults_from a b c (Err LinkFault) k f = omega (arith, k.link_later, f)
faults_from a b c (Err WriteFault) k (inl f) = inl (omega (arith, k.files.later, f))
faults_from a b c (Err WriteFault) k (inr f) = inr (omega (arith, k.out_later, f))
faults_from a b c (Err NoMemory) k f = tt

-- ---- calls

module _ {S T : Type 0} (stands : S → ServiceState) (cfg : ServeConfig) where
  -- nothing was done
  pub goes_same : (act : Action) (server : Server S) (d : Desk) (x : T) → ((r : Running) → StandsFor stands server r → (refused : List ℕ) → act refused r ≡ r) → Goes {T = T} stands cfg act server server d d (Ok x)
  goes_same act server d x same = record {
    keeps = keeps_same d;
    faults = tt;
    run = λ seen base r st sh. reached_same (StandsFor stands server) cfg base (seen_at d) r act (same r st) st sh;
  }

  -- the same action in other words
  pub goes_as : (f g : Action) (first after : Server S) (a b : Desk) (result : Result T ServeFault) → (IsSeen a → (r : Running) → StandsFor stands first r → (refused : List ℕ) → f refused r ≡ g refused r)
      → Goes stands cfg f first after a b result → Goes stands cfg g first after a b result
  goes_as f g first after a b result same u = record {
    keeps = u.keeps;
    faults = u.faults;
    run = λ seen base r st sh. leaves_as (StandsFor stands after) cfg base (seen_at b) r f g result (same seen r st) (u.run seen base r st sh);
  }

module _ {S T U : Type 0} (stands : S → ServiceState) (cfg : ServeConfig) where
  -- one after the other
  pub goes_then : (f g : Action) (first mid last : Server S) (a b c : Desk) (x : T) (result : Result U ServeFault) → Goes {T = T} stands cfg f first mid a b (Ok x)
      → Goes stands cfg g mid last b c result → Goes stands cfg (then_do f g) first last a c result
  goes_then f g first mid last a b c x result u v = record {
    keeps = keeps_both a b c u.keeps v.keeps;
    faults = faults_from a b c result u.keeps.only v.faults;
    run = λ seen base r st sh.
        let done = u.run seen base r st sh in
        leaves_then (StandsFor stands last) (seen_at c) g result done (v.run (seen_on a b u.keeps.only seen) base done.done done.stands_for done.shows);
  }

  -- only the first, which stopped
  pub goes_stopped : (f g : Action) (first after : Server S) (a b : Desk) (fault : ServeFault) → Grows g → Goes {T = T} stands cfg f first after a b (Err fault) → Goes {T = U} stands cfg (then_do f g) first after a b (Err fault)
  goes_stopped f g first after a b fault more u = record {
    keeps = u.keeps;
    faults = u.faults;
    run = λ seen base r st sh. stopped_first g more (u.run seen base r st sh);
  }

-- ---- loops

module _ {S T U : Type 0} (stands : S → ServiceState) (cfg : ServeConfig) (A : ℕ → Action) (f : Action) (i : ℕ) (first mid last : Server S) (a b c : Desk)
    (next : (r : Running) (refused : List ℕ) → then_do (A i) f refused r ≡ A (i + 1) refused r) where
  -- one more step
  pub goes_next : (x : T) (y : U) → Goes {T = T} stands cfg (A i) first mid a b (Ok x) → Goes {T = U} stands cfg f mid last b c (Ok y) → Goes {T = U} stands cfg (A (i + 1)) first last a c (Ok y)
  goes_next x y u v = goes_as stands cfg (then_do (A i) f) (A (i + 1)) first last a c (Ok y) (λ seen r st refused. next r refused) (goes_then stands cfg (A i) f first mid last a b c x (Ok y) u v)

  -- a step that stopped stops all
  pub goes_no_more : GoesUp A → (m : ℕ) → i < m → (x : T) (fault : ServeFault) → Goes {T = T} stands cfg (A i) first mid a b (Ok x) → Goes {T = U} stands cfg f mid last b c (Err fault)
      → Goes {T = U} stands cfg (A m) first last a c (Err fault)
  goes_no_more up m h x fault u v = record {
    keeps = keeps_both a b c u.keeps v.keeps;
    faults = faults_from {T = U} a b c (Err fault) u.keeps.only v.faults;
    run = λ seen base r st sh.
        let done = u.run seen base r st sh in
        loop_stops A up f i m h (next r) done (v.run (seen_on a b u.keeps.only seen) base done.done done.stands_for done.shows);
  }

-- a link, where no call is handed one
pub no_link : LinkState
no_link = record { observable = true; script = []; sent = []; binds = []; bound = []; faults = 0 }

-- a step, with what it gave or without
pub goes_made : {S T : Type 0} (stands : S → ServiceState) (cfg : ServeConfig) (e : Event) (first after : Server S) (a b : Desk) (made : StepOutcome) (x : T) → SendsNone e
    → MakesStep stands cfg e first after a b (Ok made) → Goes {T = T} stands cfg (make e) first after a b (Ok x)
goes_made stands cfg e first after a b made x none m = record {
  keeps = m.keeps;
  faults = tt;
  run = λ seen base r st sh. made_reached stands cfg base (seen_at a) (seen_at b) r e made after none sh (m.run seen base r st sh);
}

pub goes_unmade : {S T : Type 0} (stands : S → ServiceState) (cfg : ServeConfig) (e : Event) (first after : Server S) (a b : Desk) (fault : ServeFault)
    → MakesStep stands cfg e first after a b (Err fault) → Goes {T = T} stands cfg (make e) first after a b (Err fault)
goes_unmade stands cfg e first after a b fault m = record { keeps = m.keeps; faults = m.faults; run = m.run }

-- no step was made, by running out of memory
pub unmade_same : {S : Type 0} (stands : S → ServiceState) (cfg : ServeConfig) (e : Event) (server after : Server S) (d : Desk) → MakesStep stands cfg e server after d d (Err NoMemory)
unmade_same stands cfg e server after d = record { keeps = keeps_same d; faults = tt; run = λ seen base r st sh. stopped_same cfg base (seen_at d) r (make e) (make_grows e) sh }

module _ {S : Type 0} (stands : S → ServiceState) (cfg : ServeConfig) (e : Event) (server after : Server S) (fo fn : FilesState) (oo on : SinkState) (l : LinkState) (texts : StepTexts) (node : Node S) (n : ℕ) (line lines : List ℕ)
    (number : n ≡ server.steps + 1) (w : (s : NodeState) → NodeStands stands server.node s → Written stands cfg.node n s e texts node) (il : line ≡ texts.line) (im : lines ≡ texts.lines) where
  added_keeps : (bytes : List ℕ) → Adds fo fn bytes → on.observable ≡ oo.observable → oo.faults ≤ on.faults → KeepsDesk (desk fo oo l) (desk fn on l)
  added_keeps bytes a same later = record {
    only = record { files = a.only; out = same; out_later = later; link = refl; link_later = omega arith };
    made = a.made;
    writing = a.writing;
    target = a.target;
    others = λ seen other differs. (a.held seen).others other differs;
    bound = refl;
    binds = refl;
  }

  -- a step that was made, but not written
  pub unmade_written : (FailsAdding fo fn line × (on ≡ oo)) ⊎ (Adds fo fn line × FailsIn oo on lines) → MakesStep stands cfg e server after (desk fo oo l) (desk fn on l) (Err WriteFault)
  unmade_written (inl (f, same)) = record {
    keeps = let k : on.faults ≡ oo.faults = ap (λ (o : SinkState). o.faults) same in added_keeps (take f.count line) f.is (ap (λ (o : SinkState). o.observable) same) (omega (arith, k));
    faults = inl f.rose;
    run = λ seen base r st sh. step_stopped stands cfg base (seen_at (desk fo oo l)) (seen_at (desk fn on l)) r e n texts server node st sh number (w r.node st.node) line lines il im
        (in_log (record { count = f.count; is = f.is.held seen.0 }) (ap (λ (o : SinkState). o.taken) same)) refl;
  }
  unmade_written (inr (a, f)) = record {
    keeps = added_keeps line a f.is.same f.is.later;
    faults = inr f.rose;
    run = λ seen base r st sh. step_stopped stands cfg base (seen_at (desk fo oo l)) (seen_at (desk fn on l)) r e n texts server node st sh number (w r.node st.node) line lines il im
        (in_trace (a.held seen.0) (record { count = f.count; is = f.is.taken seen.1 })) refl;
  }

  -- one that was made and written
  pub made_written : Adds fo fn line → Writes oo on lines → after.node ≡ node → after.last ≡ server.last → after.held ≡ server.held → after.steps ≡ n → MakesStep stands cfg e server after (desk fo oo l) (desk fn on l) (Ok texts.made)
  made_written a v an al ah as_ = record {
    keeps = added_keeps line a v.same v.later;
    faults = tt;
    run = λ seen base r st sh. step_made stands cfg base (seen_at (desk fo oo l)) (seen_at (desk fn on l)) r e n texts server node st sh number (w r.node st.node) after line lines il im
        (a.held seen.0) (v.taken seen.1) a.target refl an al ah as_;
  }

-- a tick that was made, and marked in the server; and one that stopped
pub goes_ticked : {S T : Type 0} (stands : S → ServiceState) (cfg : ServeConfig) (period now : ℕ) (server made after : Server S) (a b : Desk) (x : T)
    → after.node ≡ made.node → after.last ≡ now → after.held ≡ made.held → after.steps ≡ made.steps
    → ((r : Running) → StandsFor stands server r → nat_le (r.last + period) now ≡ true) → Goes {T = T} stands cfg (make Tick) server made a b (Ok x) → Goes {T = T} stands cfg (tick period now) server after a b (Ok x)
goes_ticked stands cfg period now server made after a b x n l h k over u = record {
  keeps = u.keeps;
  faults = tt;
  run = λ seen base r st sh.
      let done = u.run seen base r st sh in
      tick_over (StandsFor stands made) (StandsFor stands after) cfg base (seen_at b) r period now (over r st) done (stands_marked stands made after done.done now done.stands_for n l h k);
}

pub goes_unticked : {S T : Type 0} (stands : S → ServiceState) (cfg : ServeConfig) (period now : ℕ) (server after : Server S) (a b : Desk) (fault : ServeFault)
    → ((r : Running) → StandsFor stands server r → nat_le (r.last + period) now ≡ true) → Goes {T = T} stands cfg (make Tick) server after a b (Err fault) → Goes {T = T} stands cfg (tick period now) server after a b (Err fault)
goes_unticked stands cfg period now server after a b fault over u = record {
  keeps = u.keeps;
  faults = u.faults;
  run = λ seen base r st sh. tick_stopped cfg base (seen_at b) r period now (over r st) (u.run seen base r st sh);
}
