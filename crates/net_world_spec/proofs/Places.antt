-- The first node of a host, and what stands of it where a node is set anew.
use Rattle.std.proofs.Common.{◌≡◌, ℕ, zero, suc, ◌<◌, true, false, cond, Bool, Some, List, [], ◌∷◌, length, get_or, refl, sym, ap, ◌∙◌, arith}
use Rattle.std.specs.Prelude.{slice_get, slice_set}
use Rattle.std.proofs.lemmas.List.Quantifiers.{position-Some}
use Rattle.std.proofs.lemmas.Option.{get_or_from_slice_get}
use Rattle.plan_base.specs.declared.ids.Host.{Host}
use Rattle.node_core_spec.specs.State.{NodeState, is_host}
use Rattle.net_world_spec.specs.World.{place_of}
use Rattle.net_world_spec.specs.Sound.{node_of}

first_at : (nodes : List NodeState) (h : Host) (at : ℕ) (d : NodeState) → at < length nodes → is_host (get_or nodes at d).here h ≡ true
    → ((k : ℕ) → k < at → is_host (get_or nodes k d).here h ≡ false) → node_of nodes h ≡ Some (get_or nodes at d)
first_at [] h at d within here before = absurd (omega arith)
first_at (m ∷ nodes) h zero d within here before = ap (λ t. cond t (Some m) (node_of nodes h)) here
first_at (m ∷ nodes) h (suc at) d within here before =
    let low : 0 < suc at = omega arith in
    ap (λ t. cond t (Some m) (node_of nodes h)) (before 0 low)
    ∙ first_at nodes h at d (omega arith) here (λ k below. before (suc k) (omega arith))

-- the node at the place of a host is the first one
pub first_of_host : (nodes : List NodeState) (h : Host) (at : ℕ) (node : NodeState) → place_of nodes h ≡ Some at → slice_get nodes at ≡ Some node → node_of nodes h ≡ Some node
first_of_host nodes h at node place get =
    let p = position-Some (λ n. is_host n.here h) nodes at node place in
    let is : get_or nodes at node ≡ node = get_or_from_slice_get nodes at node node get in
    first_at nodes h at node p.0 p.1 p.2 ∙ ap (λ n. Some n) is

set_first : (nodes : List NodeState) (h : Host) (at : ℕ) (d new : NodeState) → at < length nodes → is_host new.here h ≡ true → ((k : ℕ) → k < at → is_host (get_or nodes k d).here h ≡ false)
    → node_of (slice_set nodes at new) h ≡ Some new
set_first [] h at d new within here before = absurd (omega arith)
set_first (m ∷ nodes) h zero d new within here before = ap (λ t. cond t (Some new) (node_of nodes h)) here
set_first (m ∷ nodes) h (suc at) d new within here before =
    let low : 0 < suc at = omega arith in
    ap (λ t. cond t (Some m) (node_of (slice_set nodes at new) h)) (before 0 low)
    ∙ set_first nodes h at d new (omega arith) here (λ k below. before (suc k) (omega arith))

-- the node at the place of a host, set anew, is the first one
pub set_of_host : (nodes : List NodeState) (h : Host) (at : ℕ) (node new : NodeState) → place_of nodes h ≡ Some at → slice_get nodes at ≡ Some node → new.here ≡ node.here
    → node_of (slice_set nodes at new) h ≡ Some new
set_of_host nodes h at node new place get same =
    let p = position-Some (λ n. is_host n.here h) nodes at node place in
    let is : get_or nodes at node ≡ node = get_or_from_slice_get nodes at node node get in
    set_first nodes h at node new p.0 (ap (λ g. is_host g h) same ∙ (sym (ap (λ n. is_host n.here h) is) ∙ p.1)) p.2

-- a node set anew, of the same host, seen at a host
pub data SetAt (nodes : List NodeState) (at : ℕ) (old new : NodeState) (h : Host) : Type 0 where
  there : node_of nodes h ≡ Some old → node_of (slice_set nodes at new) h ≡ Some new → SetAt nodes at old new h
  elsewhere : node_of (slice_set nodes at new) h ≡ node_of nodes h → SetAt nodes at old new h

pub set_at : (nodes : List NodeState) (at : ℕ) (old new : NodeState) (h : Host) → slice_get nodes at ≡ Some old → new.here ≡ old.here → SetAt nodes at old new h
set_at [] at old new h e s = elsewhere refl
set_at (m ∷ nodes) zero old new h e s = by (is_host m.here h) refl
  where
    is : m ≡ old
    is = cc

    same : is_host new.here h ≡ is_host m.here h
    same = ap (λ g. is_host g h) (s ∙ ap (λ n. n.here) (sym is))

    by : (t : Bool) → is_host m.here h ≡ t → SetAt (m ∷ nodes) zero old new h
    by true q = there (ap (λ t. cond t (Some m) (node_of nodes h)) q ∙ ap (λ n. Some n) is) (ap (λ t. cond t (Some new) (node_of nodes h)) (same ∙ q))
    by false q = elsewhere (ap (λ t. cond t (Some new) (node_of nodes h)) (same ∙ q) ∙ sym (ap (λ t. cond t (Some m) (node_of nodes h)) q))
set_at (m ∷ nodes) (suc at) old new h e s = by (set_at nodes at old new h e s) (is_host m.here h) refl
  where
    by : SetAt nodes at old new h → (t : Bool) → is_host m.here h ≡ t → SetAt (m ∷ nodes) (suc at) old new h
    by r true q = elsewhere (ap (λ t. cond t (Some m) (node_of (slice_set nodes at new) h)) q ∙ sym (ap (λ t. cond t (Some m) (node_of nodes h)) q))
    by (there a b) false q = there (ap (λ t. cond t (Some m) (node_of nodes h)) q ∙ a) (ap (λ t. cond t (Some m) (node_of (slice_set nodes at new) h)) q ∙ b)
    by (elsewhere a) false q = elsewhere (ap (λ t. cond t (Some m) (node_of (slice_set nodes at new) h)) q ∙ a ∙ sym (ap (λ t. cond t (Some m) (node_of nodes h)) q))
