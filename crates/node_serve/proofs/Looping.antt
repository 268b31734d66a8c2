-- Actions that go on step by step, as a loop follows them.
use Rattle.std.proofs.Common.{◌≡◌, ℕ, zero, suc, ◌+◌, ◌-◌, ◌<◌, ◌≤◌, List, drop, length, slice_get, ◌∙◌, ap, subst, arith}
use Rattle.std.proofs.lemmas.Option.{slice_get_past}
use Rattle.plan_base.specs.declared.ids.Dev.{Dev}
use Rattle.network_config.specs.declared.serve.Inject.{Inject as Injection}
use Rattle.network_config.specs.Hosts.{dev_of}
use Rattle.network_config.specs.declared.serve.ServeConfig.{ServeConfig}
use Rattle.node_io.specs.declared.link.Peer.{Peer}
use Rattle.node_io.specs.declared.link.Arrival.{Arrival}
use Rattle.node_io.specs.Links.{next_heard}
use Rattle.node_log.specs.Runs.{Running, Action, then_do, inject_one, inject_to, repeat_send, flush_to, turn, time_at, turns, peers_of}
use Rattle.node_log.specs.Follow.{Ext}
use Rattle.node_log.proofs.Going.{ext_refl, ext_trans, inject_one_grows, take_send_grows, flush_device_grows, turn_grows}
use Rattle.node_serve.specs.Shown.{Seen, Start, Reached, Stopped}
use Rattle.node_serve.proofs.Following.{reached_then, reached_as, stopped_then, stopped_as}

-- each step goes on from the one before
abbrev pub GoesUp : (ℕ → Action) → Type 0
GoesUp A = (n : ℕ) (refused : List ℕ) (r : Running) → Ext (A n refused r) (A (suc n) refused r)

goes_on : (A : ℕ → Action) → GoesUp A → (n more : ℕ) (refused : List ℕ) (r : Running) → Ext (A n refused r) (A (n + more) refused r)
goes_on A up n zero refused r = let same : n ≡ n + 0 = omega arith in subst (λ k. Ext (A n refused r) (A k refused r)) same (ext_refl (A n refused r))
goes_on A up n (suc more) refused r =
    let same : suc (n + more) ≡ n + suc more = omega arith in
    subst (λ k. Ext (A n refused r) (A k refused r)) same (ext_trans (A n refused r) (A (n + more) refused r) (A (suc (n + more)) refused r) (goes_on A up n more refused r) (up (n + more) refused r))

goes_to : (A : ℕ → Action) → GoesUp A → (n m : ℕ) → n ≤ m → (refused : List ℕ) (r : Running) → Ext (A n refused r) (A m refused r)
goes_to A up n m h refused r = let same : n + (m - n) ≡ m = omega arith in subst (λ k. Ext (A n refused r) (A k refused r)) same (goes_on A up n (m - n) refused r)

stopped_more : {cfg : ServeConfig} {base : Start} {seen : Seen} {r : Running} (f g : Action) → ((refused : List ℕ) → Ext (f refused r) (g refused r)) → Stopped cfg base seen r f → Stopped cfg base seen r g
stopped_more {r = r} f g more a = record {
  done = a.done;
  grows = a.grows;
  within = λ refused h. ext_trans a.done (f refused r) (g refused r) (a.within refused h) (more refused);
  shows = a.shows;
}

-- ---- a loop

-- one more step
pub loop_next : {before after : Running → Type 0} {cfg : ServeConfig} {base : Start} {mid seen : Seen} {r : Running} (A : ℕ → Action) (f : Action) (i : ℕ) → ((refused : List ℕ) → then_do (A i) f refused r ≡ A (i + 1) refused r)
    → (a : Reached before cfg base mid r (A i)) → Reached after cfg base seen a.done f → Reached after cfg base seen r (A (i + 1))
loop_next A f i next a b = reached_as (A (i + 1)) next (reached_then a b)

-- a step that stopped stops all
pub loop_stops : {before : Running → Type 0} {cfg : ServeConfig} {base : Start} {mid seen : Seen} {r : Running} (A : ℕ → Action) → GoesUp A → (f : Action) (i m : ℕ) → i < m
    → ((refused : List ℕ) → then_do (A i) f refused r ≡ A (i + 1) refused r)
    → (a : Reached before cfg base mid r (A i)) → Stopped cfg base seen a.done f → Stopped cfg base seen r (A m)
loop_stops {r = r} A up f i m h next a b = stopped_more (A (i + 1)) (A m) (λ refused. goes_to A up (i + 1) m (omega (arith, h)) refused r) (stopped_as (A (i + 1)) next (stopped_then a b))

-- the last step was made
pub loop_ends : {stands : Running → Type 0} {cfg : ServeConfig} {base : Start} {seen : Seen} {r : Running} (A : ℕ → Action) (i m : ℕ) → i ≤ m → m ≤ i → Reached stands cfg base seen r (A i) → Reached stands cfg base seen r (A m)
loop_ends {r = r} A i m h k a = let same : i ≡ m = omega (arith, h, k) in reached_as (A m) (λ refused. ap (λ n. A n refused r) same) a

-- ---- injections

pub inject_up : (turn : ℕ) (at : List Injection) → GoesUp (inject_to turn at)
unfolding inject_to
inject_up turn at n refused r = inject_one_grows turn (slice_get at n) refused (inject_to turn at n refused r)

-- past the last injection nothing is done
one_past : (turn : ℕ) (at : List Injection) (n : ℕ) (refused : List ℕ) (r : Running) → length at ≤ n → inject_to turn at (suc n) refused r ≡ inject_to turn at n refused r
unfolding inject_to
one_past turn at n refused r h = ap (λ o. inject_one turn o refused (inject_to turn at n refused r)) (slice_get_past at n h)

past : (turn : ℕ) (at : List Injection) (n : ℕ) (refused : List ℕ) (r : Running) → inject_to turn at (length at + n) refused r ≡ inject_to turn at (length at) refused r
past turn at zero refused r = let same : length at + 0 ≡ length at = omega arith in ap (λ k. inject_to turn at k refused r) same
past turn at (suc n) refused r =
    let same : length at + suc n ≡ suc (length at + n) = omega arith in
    ap (λ k. inject_to turn at k refused r) same ∙ one_past turn at (length at + n) refused r (omega arith) ∙ past turn at n refused r

pub inject_past : (turn : ℕ) (at : List Injection) (i : ℕ) (r : Running) → length at ≤ i → (refused : List ℕ) → inject_to turn at i refused r ≡ inject_to turn at (length at) refused r
inject_past turn at i r h refused = let same : i ≡ length at + (i - length at) = omega (arith, h) in ap (λ k. inject_to turn at k refused r) same ∙ past turn at (i - length at) refused r

-- ---- frames that are sent

pub repeat_up : (d : Dev) → GoesUp (repeat_send d)
unfolding repeat_send
repeat_up d n refused r = take_send_grows d refused (repeat_send d n refused r)

pub flush_up : (peers : List Peer) → GoesUp (flush_to peers)
unfolding flush_to
flush_up peers n refused r = flush_device_grows peers (dev_of (n + 1)) refused (flush_to peers n refused r)

-- ---- turns

pub turns_up : (cfg : ServeConfig) (script : List Arrival) (last : ℕ) (answers : List ℕ) → GoesUp (turns cfg script last answers)
unfolding turns
turns_up cfg script last answers n refused r = turn_grows cfg (n + 1) (time_at last answers (n + 1)) (next_heard (peers_of cfg) (drop n script)) refused (turns cfg script last answers n refused r)
