-- The opening of a serving node, and the whole of its serving.
use Rattle.std.proofs.Common.{◌≡◌, ◌≤◌, ◌⊎◌, ◌∷◌, ◌++◌, ℕ, take, inl, inr, IsTrue, List, [], Result, Ok, Err, IsErrOf, codes, refl, sym, ap, subst, ◌∙◌, arith}
use Rattle.network_config.specs.declared.serve.ServeConfig.{ServeConfig}
use Rattle.node_files.specs.LogTexts.{head_text}
use Rattle.node_io.specs.Causes.{HasRisen}
use Rattle.node_io.specs.Clocks.{ClockState}
use Rattle.node_io.specs.FileMaps.{ChangesOnly, untouched, begun, MayName, Names}
use Rattle.node_io.specs.FileStates.{FilesState, OnlyWrites, BeginsWriting, Adds, FailsAdding}
use Rattle.node_io.specs.Links.{LinkState}
use Rattle.node_io.specs.Sinks.{SinkState, Writes, FailsIn}
use Rattle.node_io.proofs.FileWrites.{only_same, only_both}
use Rattle.node_core_spec.specs.State.{NodeState}
use Rattle.service_api.specs.Services.{ServiceState}
use Rattle.node_log.specs.Runs.{opened_run}
use Rattle.node_serve.specs.Stays.{StandsFor}
use Rattle.node_serve.specs.Desks.{Desk, desk, Serving, desk_of, with_clock, start_at, OthersStay, OnlyServes, KeepsDesk, Faults}
use Rattle.node_serve.specs.Served.{IsBound}
use Rattle.node_serve.specs.Openings.{BindsNode, MayBindNode, MakesLog, BeginsLog, NoneUnbound, Opens}
use Rattle.node_serve.specs.Serves.{Finishes, Serves}
use Rattle.node_serve.specs.Goes.{GoesTurns}
use Rattle.node_serve.specs.declared.server.Server.{Server}
use Rattle.node_serve.specs.declared.fault.ServeFault.{ServeFault}
use Rattle.node_serve.specs.declared.fault.ServeFault.TheVariants.{LinkFault, WriteFault, NoMemory}
use Rattle.node_serve.proofs.Ending.{begins, early_trace, early_log, ended_early, ended_before, run_is_served, stop_is_begun, cut}
use Rattle.node_serve.proofs.Joining.{others_same, keeps_both, faults_from, seen_on}
use Rattle.node_serve.proofs.PeerLaws.{some_peers}
use Rattle.node_serve.proofs.Showing.{changes_more}

-- ---- the log

-- nothing was done
pub log_same : (cfg : ServeConfig) (f : FilesState) → BeginsLog {T = Unit {0}} cfg f f (Err NoMemory)
log_same cfg f = record { only = only_same f; made = (inl refl, λ seen. tt); others = others_same cfg.log f f refl; did = refl }

-- the log wasn't made
pub log_unmade : {T E : Type 0} (cfg : ServeConfig) (name : List ℕ) (old new : FilesState) (e : E) → name ≡ cfg.log → BeginsWriting {T = T} name old new (Err e) → BeginsLog {T = Unit {0}} cfg old new (Err WriteFault)
log_unmade cfg name old new e named w = record {
  only = w.only;
  made = (subst (MayName old.made new.made) named w.made, λ seen. tt);
  others = others_same cfg.log old new w.begun.1;
  did = (w.begun.2, λ seen. untouched w.begun.1);
}

module _ {T E : Type 0} (cfg : ServeConfig) (name : List ℕ) (old mid new : FilesState) (x : T) (named : name ≡ cfg.log) (w : BeginsWriting {T = T} {E = E} name old mid (Ok x)) where
  -- these bytes stand in the log that was made
  log_has : (bytes : List ℕ) → Adds mid new bytes → IsTrue old.observable → ChangesOnly old.held new.held cfg.log bytes
  log_has bytes a seen =
      changes_more old.held mid.held new.held cfg.log mid.target [] bytes (subst (λ n. ChangesOnly old.held mid.held n []) named (w.begun.1 seen).1) ((w.begun.1 seen).0 ∙ named) (a.held (subst IsTrue (sym w.only.observable) seen))

  log_may : (bytes : List ℕ) → Adds mid new bytes → MayName old.made new.made cfg.log
  log_may bytes a = subst (λ l. MayName old.made l cfg.log) (sym a.made) (subst (MayName old.made mid.made) named w.made)

  log_others : (bytes : List ℕ) → Adds mid new bytes → OthersStay cfg.log old new
  log_others bytes a seen other differs = (log_has bytes a seen).others other differs

  -- the log has its first lines
  pub log_begun : (head : List ℕ) → head ≡ head_text cfg.node cfg.missing → Adds mid new head → BeginsLog {T = Unit {0}} cfg old new (Ok tt)
  log_begun head is a = record {
    only = only_both old mid new w.only a.only;
    made = (log_may head a, λ seen. a.made ∙ subst (λ n. mid.made ≡ old.made ++ n ∷ []) named (w.named seen));
    others = log_others head a;
    did = (a.writing ∙ w.begun.0, λ seen. (a.target ∙ (w.begun.1 seen).0 ∙ named, subst (ChangesOnly old.held new.held cfg.log) is (log_has head a seen)));
  }

  -- or a prefix of them
  pub log_cut : (head : List ℕ) → head ≡ head_text cfg.node cfg.missing → FailsAdding mid new head → BeginsLog {T = Unit {0}} cfg old new (Err WriteFault)
  log_cut head is f = record {
    only = only_both old mid new w.only f.is.only;
    made = (log_may (take f.count head) f.is, λ seen. tt);
    others = log_others (take f.count head) f.is;
    did = (omega (arith, w.only.later, f.rose), λ seen. begun f.count (subst (λ h. ChangesOnly old.held new.held cfg.log (take f.count h)) is (log_has (take f.count head) f.is seen)));
  }

-- ---- all of the opening

module _ (cfg : ServeConfig) (fs : FilesState) (o : SinkState) (l l2 : LinkState) where
  only_link : l2.observable ≡ l.observable → l.faults ≤ l2.faults → OnlyServes (desk fs o l) (desk fs o l2)
  only_link same later = record { files = only_same fs; out = refl; out_later = omega arith; link = same; link_later = later }

  -- the link couldn't be bound
  pub opens_unbound : (fault : ServeFault) → BindsNode {T = Unit {0}} cfg l l2 (Err fault) → Opens {T = Unit {0}} cfg (desk fs o l) (desk fs o l2) (Err fault)
  opens_unbound LinkFault b = record {
    only = only_link b.observable b.later;
    faults = b.did.2;
    made = (inl refl, λ seen. tt);
    others = others_same cfg.log fs fs refl;
    binds = λ seen. b.did.1;
    unbound = λ none. (refl, refl);
    ready = tt;
    begun = λ seen. early_log cfg (desk fs o l) (desk fs o l2) (untouched refl) refl b.sent b.did.1 b.script;
  }
  opens_unbound WriteFault b = absurd b.did
  opens_unbound NoMemory b = record {
    only = only_link b.observable b.later;
    faults = tt;
    made = (inl refl, λ seen. tt);
    others = others_same cfg.log fs fs refl;
    binds = λ seen. inl (ap (λ k. k.binds) b.did);
    unbound = λ none. (refl, refl);
    ready = tt;
    begun = λ seen. early_log cfg (desk fs o l) (desk fs o l2) (untouched refl) refl b.sent (inl (ap (λ k. k.binds) b.did)) b.script;
  }

module _ (cfg : ServeConfig) (fs fs2 : FilesState) (o o2 : SinkState) (l l2 : LinkState) (b : BindsNode {T = Unit {0}} cfg l l2 (Ok tt)) where
  only_all : OnlyWrites fs fs2 → o2.observable ≡ o.observable → o.faults ≤ o2.faults → OnlyServes (desk fs o l) (desk fs2 o2 l2)
  only_all files same later = record { files = files; out = same; out_later = later; link = b.observable; link_later = b.later }

  is_bound : NoneUnbound (desk fs o l) (desk fs2 o2 l2)
  is_bound none = absurd (some_peers cfg (sym b.did.0 ∙ none))

  -- the log couldn't be begun
  pub opens_unlogged : (fault : ServeFault) → BeginsLog {T = Unit {0}} cfg fs fs2 (Err fault) → o2 ≡ o → Opens {T = Unit {0}} cfg (desk fs o l) (desk fs2 o2 l2) (Err fault)
  opens_unlogged LinkFault m same = absurd m.did
  opens_unlogged WriteFault m same = record {
    only = let k : o2.faults ≡ o.faults = ap (λ s. s.faults) same in only_all m.only (ap (λ s. s.observable) same) (omega (arith, k));
    faults = inl m.did.0;
    made = m.made;
    others = m.others;
    binds = λ seen. inr (b.did.1 seen);
    unbound = is_bound;
    ready = tt;
    begun = λ seen. early_log cfg (desk fs o l) (desk fs2 o2 l2) (m.did.1 seen.0) (ap (λ s. s.taken) same) b.sent (inr (b.did.1 seen.2)) b.script;
  }
  opens_unlogged NoMemory m same = record {
    only = let k : o2.faults ≡ o.faults = ap (λ s. s.faults) same in only_all m.only (ap (λ s. s.observable) same) (omega (arith, k));
    faults = tt;
    made = m.made;
    others = m.others;
    binds = λ seen. inr (b.did.1 seen);
    unbound = is_bound;
    ready = tt;
    begun = λ seen. early_log cfg (desk fs o l) (desk fs2 o2 l2) (untouched (ap (λ s. s.held) m.did)) (ap (λ s. s.taken) same) b.sent (inr (b.did.1 seen.2)) b.script;
  }

  -- the trace couldn't
  pub opens_untraced : BeginsLog {T = Unit {0}} cfg fs fs2 (Ok tt) → FailsIn o o2 (codes "planet trace 1\n") → Opens {T = Unit {0}} cfg (desk fs o l) (desk fs2 o2 l2) (Err WriteFault)
  opens_untraced m f = record {
    only = only_all m.only f.is.same f.is.later;
    faults = inr f.rose;
    made = (m.made.0, λ seen. tt);
    others = m.others;
    binds = λ seen. inr (b.did.1 seen);
    unbound = is_bound;
    ready = tt;
    begun = λ seen. early_trace cfg (desk fs o l) (desk fs2 o2 l2) (m.did.1 seen.0).1 (record { count = f.count; is = f.is.taken seen.1 }) b.sent (b.did.1 seen.2) b.script;
  }

  -- all was begun
  pub opens_all : BeginsLog {T = Unit {0}} cfg fs fs2 (Ok tt) → Writes o o2 (codes "planet trace 1\n") → Opens {T = Unit {0}} cfg (desk fs o l) (desk fs2 o2 l2) (Ok tt)
  opens_all m w = record {
    only = only_all m.only w.same w.later;
    faults = tt;
    made = m.made;
    others = m.others;
    binds = b.did.1;
    unbound = is_bound;
    ready = record { writing = m.did.0; target = λ seen. (m.did.1 (subst IsTrue m.only.observable seen)).0; bound = b.did.0 };
    begun = λ seen. begins cfg (desk fs o l) (desk fs2 o2 l2) (m.did.1 seen.0).1 (m.did.1 seen.0).0 (w.taken seen.1) b.sent (b.did.1 seen.2) b.script;
  }

-- ---- from the opening to the end

module _ {S : Type 0} (stands : S → ServiceState) (cfg : ServeConfig) (n : ℕ) (server after : Server S) (a b : Serving) where
  -- turns that failed
  pub finish_stops : (fault : ServeFault) → GoesTurns {T = Unit {0}} stands cfg n server after a b (Err fault) → Finishes {T = Unit {0}} stands cfg n server a b (Err fault)
  finish_stops fault g = record {
    keeps = g.keeps;
    faults = g.faults;
    ends = λ seen clock node first st begins.
        stop_is_begun cfg node n first a b begins ((g.goes clock).run seen (start_at first node) (opened_run node) st (begins.shows node)) g.keeps.binds (g.script seen.2) (g.answers clock);
  }

  keeps_out : (o : SinkState) → o.observable ≡ b.out.observable → b.out.faults ≤ o.faults → KeepsDesk (desk_of b) (desk b.files o b.link)
  keeps_out o same later = record {
    only = record { files = only_same b.files; out = same; out_later = later; link = refl; link_later = omega arith };
    made = refl;
    writing = refl;
    target = refl;
    others = others_same b.files.target b.files b.files refl;
    bound = refl;
    binds = refl;
  }

  module _ (g : GoesTurns {T = Unit {0}} stands cfg n server after a b (Ok tt)) (o : SinkState) where
    -- the end of the trace couldn't be written
    pub finish_cut : FailsIn b.out o (codes "end\n") → Finishes {T = Unit {0}} stands cfg n server a (record b { out = o }) (Err WriteFault)
    finish_cut f = record {
      keeps = keeps_both (desk_of a) (desk_of b) (desk b.files o b.link) g.keeps (keeps_out o f.is.same f.is.later);
      faults = inr (omega (arith, g.keeps.only.out_later, f.rose));
      ends = λ seen clock node first st begins.
          cut cfg node n first a b begins o ((g.goes clock).run seen (start_at first node) (opened_run node) st (begins.shows node))
          (record { count = f.count; is = f.is.taken (subst IsTrue (sym g.keeps.only.out) seen.1) }) g.keeps.binds (g.script seen.2) (g.answers clock);
    }

    pub finish_whole : Writes b.out o (codes "end\n") → Finishes {T = Unit {0}} stands cfg n server a (record b { out = o }) (Ok tt)
    finish_whole w = record {
      keeps = keeps_both (desk_of a) (desk_of b) (desk b.files o b.link) g.keeps (keeps_out o w.same w.later);
      faults = tt;
      ends = λ seen clock node first st begins.
          run_is_served cfg node n first a b begins o ((g.goes clock).run seen (start_at first node) (opened_run node) st (begins.shows node))
          (w.taken (subst IsTrue (sym g.keeps.only.out) seen.1)) g.keeps.binds (g.script seen.2) (g.answers clock);
    }

-- ---- the whole

-- nothing was done
pub serves_none : (cfg : ServeConfig) (node : NodeState) (n : ℕ) (a : Serving) → Serves {T = Unit {0}} cfg node n a a (Err NoMemory)
serves_none cfg node n a = record {
  only = only_same a.files;
  out_later = omega arith;
  link_later = omega arith;
  faults = tt;
  made = (inl refl, λ seen. tt);
  others = others_same cfg.log a.files a.files refl;
  binds = λ seen. inl refl;
  unbound = λ none. (refl, refl);
  runs = λ seen clock. ended_before cfg a node n;
}

-- the opening failed
pub serves_unopened : (cfg : ServeConfig) (node : NodeState) (n : ℕ) (a b : Desk) (clock : ClockState) (fault : ServeFault) → Opens {T = Unit {0}} cfg a b (Err fault)
    → Serves {T = Unit {0}} cfg node n (with_clock a clock) (with_clock b clock) (Err fault)
serves_unopened cfg node n a b clock fault u = record {
  only = u.only.files;
  out_later = u.only.out_later;
  link_later = u.only.link_later;
  faults = u.faults;
  made = u.made;
  others = u.others;
  binds = u.binds;
  unbound = u.unbound;
  runs = λ seen told. ended_early cfg a b clock node n (u.begun seen);
}

made_then : {U V : Type 0} (cfg : ServeConfig) (a b c : FilesState) (result : Result U V) → MakesLog {T = Unit {0}} {E = ServeFault} cfg a b (Ok tt) → c.made ≡ b.made → MakesLog cfg a c result
made_then cfg a b c (Ok y) m same = (subst (λ l. MayName a.made l cfg.log) (sym same) m.0, λ seen. same ∙ m.1 seen)
made_then cfg a b c (Err e) m same = (subst (λ l. MayName a.made l cfg.log) (sym same) m.0, λ seen. tt)

bound_then : {T E : Type 0} (cfg : ServeConfig) (a b c : LinkState) (result : Result T E) → (IsTrue a.observable → IsBound cfg a b) → c.binds ≡ b.binds → MayBindNode cfg a c result
bound_then cfg a b c (Ok y) h same = λ seen. same ∙ h seen
bound_then cfg a b c (Err e) h same = λ seen. inr (same ∙ h seen)

-- the node was opened, and served
pub serves_opened : {S : Type 0} (stands : S → ServiceState) (cfg : ServeConfig) (node : NodeState) (n : ℕ) (server : Server S) (a b : Desk) (clock : ClockState) (c : Serving)
    (result : Result (Unit {0}) ServeFault)
    → StandsFor stands server (opened_run node)
    → Opens {T = Unit {0}} cfg a b (Ok tt) → Finishes stands cfg n server (with_clock b clock) c result → Serves cfg node n (with_clock a clock) c result
serves_opened stands cfg node n server a b clock c result st u f = record {
  only = only_both a.files b.files c.files u.only.files f.keeps.only.files;
  out_later = omega (arith, u.only.out_later, f.keeps.only.out_later);
  link_later = omega (arith, u.only.link_later, f.keeps.only.link_later);
  faults = faults_from a b (desk_of c) result u.only f.faults;
  made = made_then cfg a.files b.files c.files result u.made f.keeps.made;
  others = λ seen other differs.
      let on = subst IsTrue (sym u.only.files.observable) seen in
      f.keeps.others on other (λ same. differs (same ∙ u.ready.target on)) ∙ u.others seen other differs;
  binds = bound_then cfg a.link b.link c.link result u.binds f.keeps.binds;
  unbound = λ none. absurd (some_peers cfg (sym u.ready.bound ∙ sym f.keeps.bound ∙ none));
  runs = λ seen told. f.ends (seen_on a b u.only seen) told node a st (u.begun seen);
}

-- ---- what follows of it

-- the log by its name
pub names_log : {T E : Type 0} (cfg : ServeConfig) (old new : FilesState) (result : Result T E) → MakesLog cfg old new result → IsTrue old.observable → Names old.made new.made cfg.log result
names_log cfg old new (Ok x) m seen = m.1 seen
names_log cfg old new (Err e) m seen = m.0

pub link_fault : {T : Type 0} (old new : Desk) (result : Result T ServeFault) → IsErrOf result LinkFault → Faults old new result → HasRisen old.link.faults new.link.faults
link_fault {T = T} old new result is f = subst (Faults {T = T} old new) is f

pub write_fault : {T : Type 0} (old new : Desk) (result : Result T ServeFault) → IsErrOf result WriteFault → Faults old new result → HasRisen old.files.write_faults new.files.write_faults ⊎ HasRisen old.out.faults new.out.faults
write_fault {T = T} old new result is f = subst (Faults {T = T} old new) is f
