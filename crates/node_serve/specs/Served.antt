-- What a serving node has done when it ends, where all that it is handed is observable.
use Rattle.std.specs.Prelude.{◌≡◌, ℕ, ◌⊎◌, List, [], ◌∷◌, ◌++◌, take, drop, codes, Result, MatchResult}
use Rattle.std.specs.List.{All}
use Rattle.network_config.specs.declared.serve.ServeConfig.{ServeConfig}
use Rattle.node_files.specs.LogTexts.{head_text}
use Rattle.node_io.specs.Links.{Heard, Bind, LinkState}
use Rattle.node_io.specs.FileMaps.{ChangesOnly, SavesFront}
use Rattle.node_core_spec.specs.State.{NodeState}
use Rattle.node_log.specs.Runs.{Running, opened_run, peers_of, node_run}
use Rattle.node_log.specs.Texts.{whole_trace}
use Rattle.node_log.specs.Follow.{lost_places}
use Rattle.node_serve.specs.Fronts.{AppendsFront}
use Rattle.node_serve.specs.Shown.{run_log, IsReadable, Shows, HasLogged, Agrees, UsedUpTo}
use Rattle.node_serve.specs.Desks.{Desk, Serving, desk_of, seen_at, start_at}

-- the run of so many turns with what a node is handed
abbrev pub run_in : ServeConfig → NodeState → ℕ → Serving → List ℕ → Running
run_in cfg node turns old refused = node_run cfg node old.link.script old.clock.last old.clock.answers turns refused

-- the bind of a node
abbrev pub own_bind : ServeConfig → Bind
own_bind cfg = (cfg.port, peers_of cfg)

-- the link was bound so, once
abbrev pub IsBound : ServeConfig → LinkState → LinkState → Type 0
IsBound cfg old new = new.binds ≡ old.binds ++ own_bind cfg ∷ []

-- so at most; a bind that failed may have found no memory for its entry
abbrev pub MayBind : ServeConfig → LinkState → LinkState → Type 0
MayBind cfg old new = (new.binds ≡ old.binds) ⊎ IsBound cfg old new

-- the link was bound, and the log and the trace were begun
pub record Begins (cfg : ServeConfig) (old new : Desk) : Type 0 where
  pub shows : (node : NodeState) → Shows cfg (start_at old node) (seen_at new) (opened_run node)
  pub binds : IsBound cfg old.link new.link
  pub script : new.link.script ≡ old.link.script

-- nothing was sent, and the log has no entry: only a prefix of its first lines was written. Nothing else was; or the log has all of
-- these, and the output a prefix of the trace's first line
pub record AgreesEarly (cfg : ServeConfig) (old new : Desk) : Type 0 where
  pub sent : new.link.sent ≡ old.link.sent
  pub log : SavesFront old.files.held new.files.held cfg.log (head_text cfg.node cfg.missing)
  pub out : (new.out.taken ≡ old.out.taken)
      ⊎ (HasLogged cfg new.files.held [] × AppendsFront old.out.taken new.out.taken (codes "planet trace 1\n"))

-- only prefixes of the log's first lines and of the trace's first line were written
pub record EndsEarly (cfg : ServeConfig) (old new : Desk) : Type 0 where
  pub out : AppendsFront old.out.taken new.out.taken (codes "planet trace 1\n")
  pub agrees : AgreesEarly cfg old new
  pub binds : MayBind cfg old.link new.link
  pub script : new.link.script ≡ old.link.script

-- the whole run was made, with the steps refused that its log says, and no other call
pub record Served (cfg : ServeConfig) (node : NodeState) (turns : ℕ) (old new : Serving) : Type 0 where
  pub refused : List ℕ
  pub places : refused ≡ lost_places (run_in cfg node turns old refused).events
  pub log : ChangesOnly old.files.held new.files.held cfg.log (run_log cfg (run_in cfg node turns old refused))
  pub out : new.out.taken ≡ old.out.taken ++ whole_trace cfg.node.here (run_in cfg node turns old refused).entries
  pub sent : new.link.sent ≡ old.link.sent ++ (run_in cfg node turns old refused).sent
  pub binds : IsBound cfg old.link new.link
  pub script : new.link.script ≡ drop turns old.link.script
  pub answers : new.clock.answers ≡ drop turns old.clock.answers
  pub readable : All (IsReadable cfg.node.version) (run_in cfg node turns old refused).events

-- a prefix of some frames was sent
pub record SendsFront (old new frames : List Heard) : Type 0 where
  pub count : ℕ
  pub is : new ≡ old ++ take count frames

-- a prefix of the run was made, so many steps, with those refused that its log says; what stands outside are prefixes of what the run
-- makes, which agree, and of no step more
pub record Begun (cfg : ServeConfig) (node : NodeState) (turns : ℕ) (old new : Serving) : Type 0 where
  pub refused : List ℕ
  pub steps : ℕ
  pub places : refused ≡ lost_places (take steps (run_in cfg node turns old refused).events)
  pub log : SavesFront old.files.held new.files.held cfg.log (run_log cfg (run_in cfg node turns old refused))
  pub out : AppendsFront old.out.taken new.out.taken (whole_trace cfg.node.here (run_in cfg node turns old refused).entries)
  pub sent : SendsFront old.link.sent new.link.sent (run_in cfg node turns old refused).sent
  pub readable : All (IsReadable cfg.node.version) (take steps (run_in cfg node turns old refused).events)
  pub agrees : AgreesEarly cfg (desk_of old) (desk_of new)
      ⊎ Agrees cfg (start_at (desk_of old) node) (seen_at (desk_of new)) (take steps (run_in cfg node turns old refused).events)
  pub binds : MayBind cfg old.link new.link
  pub script : UsedUpTo turns old.link.script new.link.script
  pub answers : UsedUpTo turns old.clock.answers new.clock.answers

-- the whole run, or a prefix of it where it failed
abbrev pub Ends : {T E : Type 0} → ServeConfig → NodeState → ℕ → Serving → Serving → Result T E → Type 0
Ends cfg node turns old new result = MatchResult result (λ _. Served cfg node turns old new) (λ _. Begun cfg node turns old new)
