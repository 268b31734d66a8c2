-- The peers of a node that keeps its rules.
use Rattle.std.proofs.Common.{◌≡◌, ◌≢◌, ℕ, ◌≤◌, ◌==◌, Bool, true, false, ◌||◌, List, [], ◌∷◌, map, length, refl, sym, ◌∙◌, ap, arith}
use Rattle.std.specs.List.{All, list_any}
use Rattle.std.proofs.lemmas.Bool.{false≢true}
use Rattle.std.proofs.lemmas.Bool.Decides.{nat_tests}
use Rattle.std.proofs.lemmas.List.Elements.{All-head, All-tail}
use Rattle.plan_base.specs.declared.ids.Host.{Host}
use Rattle.plan_base.specs.declared.ids.Dev.{Dev}
use Rattle.network_config.specs.declared.serve.ServeConfig.{ServeConfig}
use Rattle.network_config.specs.NodeRules.{IsNeighbour, KeepsServe}
use Rattle.node_io.specs.Links.{has_peer}
use Rattle.node_log.specs.Runs.{peer, peers_of}

-- whether one of these is the device
abbrev pub is_one : List Dev → Dev → Bool
is_one ds d = list_any (λ e. e.0 == d.0) ds

ports_any : (ports : List (Dev × ℕ)) (d : Dev) → has_peer (map (λ p. peer p.0 p.1) ports) d ≡ is_one (map (λ p. p.0) ports) d
ports_any [] d = refl
ports_any (p ∷ ports) d = ap (λ b. (p.0.0 == d.0) || b) (ports_any ports d)

pub any_device : (ports : List (Dev × ℕ)) (d : Dev) → list_any (λ p. p.0.0 == d.0) ports ≡ is_one (map (λ p. p.0) ports) d
any_device [] d = refl
any_device (p ∷ ports) d = ap (λ b. (p.0.0 == d.0) || b) (any_device ports d)

-- the owner is on device 0, and each neighbour on its own
pub peers_are : (cfg : ServeConfig) (d : Dev) → has_peer (peers_of cfg) d ≡ ((0 == d.0) || is_one (map (λ p. p.0) cfg.devs) d)
unfolding peers_of
peers_are cfg d = ap (λ b. (0 == d.0) || b) (ports_any cfg.devs d)

same_zero : (n : ℕ) → n ≡ 0 → true ≡ (0 == n)
same_zero n e = grind (arith, nat_tests)

other_zero : (n : ℕ) → n ≢ 0 → false ≡ (0 == n)
other_zero n h = grind (arith, nat_tests)

-- as the code finds it
pub owner_found : (cfg : ServeConfig) (d : Dev) → d.0 ≡ 0 → true ≡ has_peer (peers_of cfg) d
owner_found cfg d e = ap (λ b. b || is_one (map (λ p. p.0) cfg.devs) d) (same_zero d.0 e) ∙ sym (peers_are cfg d)

pub neighbour_found : (cfg : ServeConfig) (d : Dev) → d.0 ≢ 0 → list_any (λ p. p.0.0 == d.0) cfg.devs ≡ has_peer (peers_of cfg) d
neighbour_found cfg d h = any_device cfg.devs d ∙ ap (λ b. b || is_one (map (λ p. p.0) cfg.devs) d) (other_zero d.0 h) ∙ sym (peers_are cfg d)

either : (a b : Bool) (n : ℕ) → (a || b) ≡ true → (a ≡ true → n ≤ 8) → (b ≡ true → n ≤ 8) → n ≤ 8
either true b n h k l = k refl
either false b n h k l = l h

same_small : (a n : ℕ) → a ≤ 8 → (a == n) ≡ true → n ≤ 8
same_small a n h e = grind (arith, nat_tests)

small_device : (here : Host) (hosts : List Host) (ns : List (Host × Dev)) (d : Dev) → All (IsNeighbour here hosts) ns → is_one (map (λ n. n.1) ns) d ≡ true → d.0 ≤ 8
small_device here hosts [] d a h = absurd (false≢true h)
small_device here hosts (n ∷ ns) d a h =
    let first = All-head (IsNeighbour here hosts) n ns a in
    either (n.1.0 == d.0) (is_one (map (λ m. m.1) ns) d) d.0 h (same_small n.1.0 d.0 first.device.1) (small_device here hosts ns d (All-tail (IsNeighbour here hosts) n ns a))

-- the device of a peer is at most 8
pub peer_small : (cfg : ServeConfig) (d : Dev) → KeepsServe cfg → has_peer (peers_of cfg) d ≡ true → d.0 ≤ 8
peer_small cfg d k h =
    either (0 == d.0) (is_one (map (λ p. p.0) cfg.devs) d) d.0 (sym (peers_are cfg d) ∙ h) (same_small 0 d.0 (omega arith))
    (λ one. small_device cfg.node.here cfg.node.hosts cfg.node.neighbours d k.node.neighbours (ap (λ ds. is_one ds d) (sym k.devices) ∙ one))

-- a node has a peer
pub some_peers : (cfg : ServeConfig) → peers_of cfg ≡ [] → ⊥
unfolding peers_of
some_peers cfg h = let none : length (peers_of cfg) ≡ 0 = ap length h in omega (arith, none)
