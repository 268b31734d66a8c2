-- Turns: what is heard in them, and how they follow one another.
use Rattle.std.proofs.Common.{◌≡◌, ℕ, ◌+◌, ◌<◌, inr, false, IsTrue, List, Option, Some, None, Result, Ok, Err, drop, refl, sym, subst, ◌∙◌, arith}
use Rattle.network_config.specs.declared.serve.ServeConfig.{ServeConfig}
use Rattle.service_api.specs.Services.{ServiceState}
use Rattle.node_io.specs.Causes.{HasRisen}
use Rattle.node_io.specs.FileStates.{FilesState}
use Rattle.node_io.specs.Links.{Heard, LinkState, Hears, next_heard}
use Rattle.node_io.specs.declared.link.Got.{Got}
use Rattle.node_io.specs.Sinks.{SinkState}
use Rattle.node_io.proofs.FileWrites.{only_same}
use Rattle.node_log.specs.Runs.{Running, Action, hear, turn, turns, time_at, peers_of, release, then_do, holding}
use Rattle.node_log.proofs.Going.{hear_grows}
use Rattle.node_serve.specs.Shown.{Start, Shows, UsesOne}
use Rattle.node_serve.specs.Stays.{StandsFor}
use Rattle.node_serve.specs.Desks.{Desk, desk, Serving, desk_of, seen_at, KeepsDesk}
use Rattle.node_serve.specs.Goes.{Goes, GoesTurn, GoesTurns}
use Rattle.node_serve.specs.declared.server.Server.{Server}
use Rattle.node_serve.specs.declared.fault.ServeFault.{ServeFault}
use Rattle.node_serve.specs.declared.fault.ServeFault.TheVariants.{LinkFault}
use Rattle.node_serve.proofs.Following.{reached_same, stopped_same, leaves_as, leaves_released}
use Rattle.node_serve.proofs.Looping.{turns_up}
use Rattle.node_serve.proofs.MakeLaws.{hear_stay, hear_as, stands_holding, shows_held, turns_none, turns_next, turn_as, time_next, used_more, used_next}
use Rattle.node_serve.proofs.Joining.{others_same, keeps_same, keeps_both, seen_on, faults_from, goes_same, goes_as, goes_next, goes_no_more}

-- ---- what is heard

module _ {S : Type 0} (stands : S → ServiceState) (cfg : ServeConfig) (h : Option Heard) (first : Server S) (fs : FilesState) (o : SinkState) (old new : LinkState) (buf : List ℕ) (got : Got) (u : Hears buf old new got) where
  heard_keeps : KeepsDesk (desk fs o old) (desk fs o new)
  heard_keeps = record {
    only = record { files = only_same fs; out = refl; out_later = omega arith; link = u.observable; link_later = u.later };
    made = refl;
    writing = refl;
    target = refl;
    others = others_same fs.target fs fs refl;
    bound = u.bound;
    binds = u.binds;
  }

  heard_shows : (base : Start) (r : Running) → Shows cfg base (seen_at (desk fs o old)) r → Shows cfg base (seen_at (desk fs o new)) r
  heard_shows base r sh = record {
    sees = record {
      grows = sh.sees.grows;
      log = sh.sees.log;
      target = sh.sees.target;
      out = sh.sees.out;
      sent = u.sent ∙ sh.sees.sent;
      readable = sh.sees.readable;
    };
    frames = sh.frames;
  }

  -- a frame that arrives
  pub hears_frame : {T : Type 0} (x : Heard) (last : Server S) (fs2 : FilesState) (o2 : SinkState) (result : Result T ServeFault) → (IsTrue old.observable → h ≡ Some x)
      → Goes stands cfg (hear (Some x)) first last (desk fs o new) (desk fs2 o2 new) result → Goes stands cfg (hear h) first last (desk fs o old) (desk fs2 o2 new) result
  hears_frame x last fs2 o2 result is v = record {
    keeps = keeps_both (desk fs o old) (desk fs o new) (desk fs2 o2 new) heard_keeps v.keeps;
    faults = faults_from (desk fs o old) (desk fs o new) (desk fs2 o2 new) result heard_keeps.only v.faults;
    run = λ seen base r st sh. leaves_as (StandsFor stands last) cfg base (seen_at (desk fs2 o2 new)) r (hear (Some x)) (hear h) result (hear_as h x r (is seen.2))
        (v.run (seen_on (desk fs o old) (desk fs o new) heard_keeps.only seen) base r st (heard_shows base r sh));
  }

  -- nothing
  pub hears_nothing : {T : Type 0} (y : T) → (IsTrue old.observable → h ≡ None) → Goes {T = T} stands cfg (hear h) first first (desk fs o old) (desk fs o new) (Ok y)
  hears_nothing y is = record {
    keeps = heard_keeps;
    faults = tt;
    run = λ seen base r st sh. reached_same (StandsFor stands first) cfg base (seen_at (desk fs o new)) r (hear h) (hear_stay h r (is seen.2)) st (heard_shows base r sh);
  }

  -- the link failed
  pub hears_fail : {T : Type 0} → HasRisen old.faults new.faults → Goes {T = T} stands cfg (hear h) first first (desk fs o old) (desk fs o new) (Err LinkFault)
  hears_fail rose = record {
    keeps = heard_keeps;
    faults = rose;
    run = λ seen base r st sh. stopped_same cfg base (seen_at (desk fs o new)) r (hear h) (hear_grows h) (heard_shows base r sh);
  }

-- what was used of the script, where nothing is heard behind it
pub used_one : {T E A : Type 0} (result : Result T E) (old new : List A) → new ≡ drop 1 old → UsesOne old new result
used_one (Ok x) old new h = h
used_one (Err e) old new h = inr h

-- ---- the sendings of a turn

-- sendings are let free again
pub goes_released : {S T : Type 0} (stands : S → ServiceState) (cfg : ServeConfig) (act : Action) (server free after : Server S) (a b : Desk) (result : Result T ServeFault) → free.node ≡ server.node
    → free.last ≡ server.last → free.held ≡ false → free.steps ≡ server.steps
    → Goes stands cfg act free after a b result → Goes stands cfg (then_do release act) server after a b result
goes_released stands cfg act server free after a b result n l h k u = record {
  keeps = u.keeps;
  faults = u.faults;
  run = λ seen base r st sh. leaves_released (StandsFor stands after) cfg base (seen_at b) r act result
      (u.run seen base (holding false r) (stands_holding stands server free r false st n l h k) (shows_held cfg base (seen_at a) r sh));
}

-- ---- turns, one after the other

module _ {S T : Type 0} (stands : S → ServiceState) (cfg : ServeConfig) (i : ℕ) (first mid last : Server S) (a b c : Serving) (result : Result T ServeFault)
    (x : T) (g : GoesTurns {T = T} stands cfg i first mid a b (Ok x)) (u : GoesTurn stands cfg (i + 1) mid last b c result)
    (last_is : IsTrue a.clock.observable → b.clock.last ≡ time_at a.clock.last a.clock.answers i) where
  -- the turn by what a node was handed at first
  abbrev the_turn : Action
  the_turn = turn cfg (i + 1) (time_at a.clock.last a.clock.answers (i + 1)) (next_heard (peers_of cfg) (drop i a.link.script))

  time_is : IsTrue a.clock.observable → u.time ≡ time_at a.clock.last a.clock.answers (i + 1)
  time_is seen = u.told.told (subst IsTrue (sym g.clock) seen) ∙ time_next a.clock.last a.clock.answers i b.clock.answers b.clock.last (g.answers seen) (last_is seen)

  turn_goes : IsTrue a.clock.observable → Goes stands cfg the_turn mid last (desk_of b) (desk_of c) result
  turn_goes seen = goes_as stands cfg (turn cfg (i + 1) u.time (next_heard (peers_of cfg) b.link.script)) the_turn mid last (desk_of b) (desk_of c) result
      (λ on r st. turn_as cfg (i + 1) u.time (time_at a.clock.last a.clock.answers (i + 1)) b.link.script (drop i a.link.script) r (time_is seen) (g.script (subst IsTrue g.keeps.only.link on.2))) u.goes

  next_is : (r : Running) (refused : List ℕ) → then_do (turns cfg a.link.script a.clock.last a.clock.answers i) the_turn refused r ≡ turns cfg a.link.script a.clock.last a.clock.answers (i + 1) refused r
  next_is r refused = turns_next cfg a.link.script a.clock.last a.clock.answers i r refused

  pub last_next : IsTrue a.clock.observable → c.clock.last ≡ time_at a.clock.last a.clock.answers (i + 1)
  last_next seen = u.told.last (subst IsTrue (sym g.clock) seen) ∙ time_is seen

  clock_kept : c.clock.observable ≡ a.clock.observable
  clock_kept = u.told.observable ∙ g.clock

-- one more turn
pub turns_more : {S T : Type 0} (stands : S → ServiceState) (cfg : ServeConfig) (i : ℕ) (first mid last : Server S) (a b c : Serving) (x y : T)
    (g : GoesTurns {T = T} stands cfg i first mid a b (Ok x)) (u : GoesTurn {T = T} stands cfg (i + 1) mid last b c (Ok y))
    → (IsTrue a.clock.observable → b.clock.last ≡ time_at a.clock.last a.clock.answers i) → GoesTurns {T = T} stands cfg (i + 1) first last a c (Ok y)
turns_more stands cfg i first mid last a b c x y g u last_is = record {
  keeps = keeps_both (desk_of a) (desk_of b) (desk_of c) g.keeps u.goes.keeps;
  faults = tt;
  clock = clock_kept stands cfg i first mid last a b c (Ok y) x g u last_is;
  goes = λ seen. goes_next stands cfg (turns cfg a.link.script a.clock.last a.clock.answers) (the_turn stands cfg i first mid last a b c (Ok y) x g u last_is) i first mid last (desk_of a) (desk_of b) (desk_of c)
      (next_is stands cfg i first mid last a b c (Ok y) x g u last_is) x y (g.goes seen) (turn_goes stands cfg i first mid last a b c (Ok y) x g u last_is seen);
  script = λ seen. used_next i a.link.script b.link.script c.link.script (g.script seen) (u.script (subst IsTrue (sym g.keeps.only.link) seen));
  answers = λ seen. used_next i a.clock.answers b.clock.answers c.clock.answers (g.answers seen) (u.told.answers (subst IsTrue (sym g.clock) seen));
}

-- a turn that failed
pub turns_stop : {S T : Type 0} (stands : S → ServiceState) (cfg : ServeConfig) (i n : ℕ) (first mid last : Server S) (a b c : Serving) (x : T) (fault : ServeFault) → i < n
    → (g : GoesTurns {T = T} stands cfg i first mid a b (Ok x)) (u : GoesTurn {T = T} stands cfg (i + 1) mid last b c (Err fault))
    → (IsTrue a.clock.observable → b.clock.last ≡ time_at a.clock.last a.clock.answers i) → GoesTurns {T = T} stands cfg n first last a c (Err fault)
turns_stop {T = T} stands cfg i n first mid last a b c x fault within g u last_is = record {
  keeps = keeps_both (desk_of a) (desk_of b) (desk_of c) g.keeps u.goes.keeps;
  faults = faults_from {T = T} (desk_of a) (desk_of b) (desk_of c) (Err fault) g.keeps.only u.goes.faults;
  clock = clock_kept stands cfg i first mid last a b c (Err fault) x g u last_is;
  goes = λ seen. goes_no_more stands cfg (turns cfg a.link.script a.clock.last a.clock.answers) (the_turn stands cfg i first mid last a b c (Err fault) x g u last_is) i first mid last (desk_of a) (desk_of b) (desk_of c)
      (next_is stands cfg i first mid last a b c (Err fault) x g u last_is) (turns_up cfg a.link.script a.clock.last a.clock.answers) n within x fault (g.goes seen)
      (turn_goes stands cfg i first mid last a b c (Err fault) x g u last_is seen);
  script = λ seen. used_more i n a.link.script b.link.script c.link.script within (g.script seen) (u.script (subst IsTrue (sym g.keeps.only.link) seen));
  answers = λ seen. used_more i n a.clock.answers b.clock.answers c.clock.answers within (g.answers seen) (inr (u.told.answers (subst IsTrue (sym g.clock) seen)));
}

-- none yet
pub turns_begin : {S T : Type 0} (stands : S → ServiceState) (cfg : ServeConfig) (server : Server S) (a : Serving) (x : T) → GoesTurns {T = T} stands cfg 0 server server a a (Ok x)
turns_begin stands cfg server a x = record {
  keeps = keeps_same (desk_of a);
  faults = tt;
  clock = refl;
  goes = λ seen. goes_same stands cfg (turns cfg a.link.script a.clock.last a.clock.answers 0) server (desk_of a) x (λ r st. turns_none cfg a.link.script a.clock.last a.clock.answers r);
  script = λ seen. refl;
  answers = λ seen. refl;
}
