-- Laws of the counts of a network.
use Rattle.std.proofs.Common.{◌≡◌, ℕ, ◌+◌, List, [], ◌∷◌, ◌++◌, refl, sym, ap, ◌∙◌, arith}
use Rattle.std.specs.Prelude.{map, remove, slice_set, slice_get, Some}
use Rattle.std.proofs.lemmas.List.Sums.{sum_by-cons, sum_by-append, sum_by_push, sum_by-set, sum_by-remove}
use Rattle.std.proofs.lemmas.Option.{slice_get_within, get_or_from_slice_get}
use Rattle.plan_base.specs.declared.ids.Host.{Host}
use Rattle.packet_frame.specs.declared.frame.PlainFrame.{PlainFrame}
use Rattle.node_core_spec.specs.declared.acts.Act.{Act}
use Rattle.node_core_spec.specs.State.{NodeState}
use Rattle.node_core_spec.specs.Counts.{act_sum, queues_sum}
use Rattle.net_world_spec.specs.declared.lines.Line.{Line}
use Rattle.net_world_spec.specs.declared.lines.Line.TheVariants.{At}
use Rattle.net_world_spec.specs.declared.lines.Entry.{Entry}
use Rattle.net_world_spec.specs.declared.lines.FrameOnWire.{FrameOnWire}
use Rattle.net_world_spec.specs.World.{entry_at, lines_at}
use Rattle.net_world_spec.specs.Counts.{line_sum, tally, nodes_sum, wire_sum, unhanded_count, unhanded_sum}

pub line_sum-nil : (c : Line → ℕ) → line_sum c [] ≡ 0
unfolding line_sum
line_sum-nil c = refl

pub line_sum-cons : (c : Line → ℕ) (x : Line) (xs : List Line) → line_sum c (x ∷ xs) ≡ c x + line_sum c xs
unfolding line_sum
line_sum-cons c x xs = sum_by-cons c x xs

pub line_sum-append : (c : Line → ℕ) (xs ys : List Line) → line_sum c (xs ++ ys) ≡ line_sum c xs + line_sum c ys
unfolding line_sum
line_sum-append c xs ys = sum_by-append c xs ys

-- one line alone
pub line_sum-one : (c : Line → ℕ) (x : Line) → line_sum c (x ∷ []) ≡ c x
line_sum-one c x = omega (arith, line_sum-cons c x [], line_sum-nil c)

-- the lines of a node's acts count as the acts
pub line_sum-at : (c : Line → ℕ) (h : Host) (acts : List Act) → line_sum c (lines_at h acts) ≡ act_sum (λ a. c (At h a)) acts
unfolding line_sum act_sum lines_at
line_sum-at c h [] = refl
line_sum-at c h (a ∷ acts) = sum_by-cons c (At h a) (map (At h) acts) ∙ ap (λ n. c (At h a) + n) (line_sum-at c h acts) ∙ sym (sum_by-cons (λ b. c (At h b)) a acts)

pub tally-nil : (c : Line → ℕ) → tally c [] ≡ 0
unfolding tally
tally-nil c = refl

pub tally-cons : (c : Line → ℕ) (e : Entry) (es : List Entry) → tally c (e ∷ es) ≡ c e.line + tally c es
unfolding tally
tally-cons c e es = sum_by-cons (λ x. c x.line) e es

pub tally-append : (c : Line → ℕ) (xs ys : List Entry) → tally c (xs ++ ys) ≡ tally c xs + tally c ys
unfolding tally
tally-append c xs ys = sum_by-append (λ x. c x.line) xs ys

-- numbered lines count as the lines
pub tally-entries : (c : Line → ℕ) (n : ℕ) (lines : List Line) → tally c (map (entry_at n) lines) ≡ line_sum c lines
unfolding tally line_sum
tally-entries c n [] = refl
tally-entries c n (l ∷ ls) = sum_by-cons (λ x. c x.line) (entry_at n l) (map (entry_at n) ls) ∙ ap (λ m. c l + m) (tally-entries c n ls) ∙ sym (sum_by-cons c l ls)

module _ (count : PlainFrame → ℕ) where
  abbrev of_node : NodeState → ℕ
  of_node node = queues_sum count node.queues

  abbrev of_wired : FrameOnWire → ℕ
  of_wired x = count x.frame.frame

  pub nodes_sum-nil : nodes_sum count [] ≡ 0
  unfolding nodes_sum
  nodes_sum-nil = refl

  pub nodes_sum-cons : (node : NodeState) (nodes : List NodeState) → nodes_sum count (node ∷ nodes) ≡ queues_sum count node.queues + nodes_sum count nodes
  unfolding nodes_sum
  nodes_sum-cons node nodes = sum_by-cons of_node node nodes

  pub nodes_sum-set : (nodes : List NodeState) (at : ℕ) (old new : NodeState) → slice_get nodes at ≡ Some old
      → nodes_sum count (slice_set nodes at new) + queues_sum count old.queues ≡ nodes_sum count nodes + queues_sum count new.queues
  unfolding nodes_sum
  nodes_sum-set nodes at old new e =
      let here = get_or_from_slice_get nodes at old old e in
      let law = sum_by-set of_node nodes at new old (slice_get_within nodes at old e) in
      omega (arith, ap of_node here)

  pub wire_sum-nil : wire_sum count [] ≡ 0
  unfolding wire_sum
  wire_sum-nil = refl

  pub wire_sum-push : (wire : List FrameOnWire) (x : FrameOnWire) → wire_sum count (wire ++ x ∷ []) ≡ wire_sum count wire + count x.frame.frame
  unfolding wire_sum
  wire_sum-push wire x = sum_by_push of_wired wire x

  pub wire_sum-remove : (wire : List FrameOnWire) (at : ℕ) (x : FrameOnWire) → slice_get wire at ≡ Some x → wire_sum count (remove wire at) + count x.frame.frame ≡ wire_sum count wire
  unfolding wire_sum
  wire_sum-remove wire at x e =
      let here = get_or_from_slice_get wire at x x e in
      let law = sum_by-remove of_wired wire at x (slice_get_within wire at x e) in
      omega (arith, ap of_wired here)

  pub wire_sum-set : (wire : List FrameOnWire) (at : ℕ) (old new : FrameOnWire) → slice_get wire at ≡ Some old → wire_sum count (slice_set wire at new) + count old.frame.frame ≡ wire_sum count wire + count new.frame.frame
  unfolding wire_sum
  wire_sum-set wire at old new e =
      let here = get_or_from_slice_get wire at old old e in
      let law = sum_by-set of_wired wire at new old (slice_get_within wire at old e) in
      omega (arith, ap of_wired here)

  -- the same of frames that were never handed
  pub unhanded_sum-nil : unhanded_sum count [] ≡ 0
  unfolding unhanded_sum
  unhanded_sum-nil = refl

  pub unhanded_sum-push : (wire : List FrameOnWire) (x : FrameOnWire) → unhanded_sum count (wire ++ x ∷ []) ≡ unhanded_sum count wire + unhanded_count count x
  unfolding unhanded_sum
  unhanded_sum-push wire x = sum_by_push (unhanded_count count) wire x

  pub unhanded_sum-remove : (wire : List FrameOnWire) (at : ℕ) (x : FrameOnWire) → slice_get wire at ≡ Some x → unhanded_sum count (remove wire at) + unhanded_count count x ≡ unhanded_sum count wire
  unfolding unhanded_sum
  unhanded_sum-remove wire at x e =
      let here = get_or_from_slice_get wire at x x e in
      let law = sum_by-remove (unhanded_count count) wire at x (slice_get_within wire at x e) in
      omega (arith, ap (unhanded_count count) here)

  pub unhanded_sum-set : (wire : List FrameOnWire) (at : ℕ) (old new : FrameOnWire) → slice_get wire at ≡ Some old → unhanded_sum count (slice_set wire at new) + unhanded_count count old ≡ unhanded_sum count wire + unhanded_count count new
  unfolding unhanded_sum
  unhanded_sum-set wire at old new e =
      let here = get_or_from_slice_get wire at old old e in
      let law = sum_by-set (unhanded_count count) wire at new old (slice_get_within wire at old e) in
      omega (arith, ap (unhanded_count count) here)
