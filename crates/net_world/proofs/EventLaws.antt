-- An event of a network that stands for a state is that of its definition.
use Rattle.std.proofs.Common.{◌≡◌, ℕ, ◌+◌, ◌<◌, ◌≤◌, true, false, cond, List, [], ◌∷◌, ◌++◌, length, sym, ap, ◌∙◌, subst, arith}
use Rattle.std.specs.Prelude.{slice_get, slice_set, remove, nat_lt, Option, Some, None}
use Rattle.std.proofs.lemmas.Bool.Decides.{nat_tests}
use Rattle.plan_base.specs.declared.ids.Host.{Host}
use Rattle.plan_base.specs.declared.ids.Dev.{Dev}
use Rattle.packet_frame.specs.declared.frame.PlainStamped.{PlainStamped}
use Rattle.packet_frame.specs.Stamped.{stamped_bytes}
use Rattle.service_api.specs.Services.{ServiceState}
use Rattle.packet_frame.specs.Spelled.{what_of}
use Rattle.node_core_spec.specs.declared.acts.Acts.{Acts}
use Rattle.node_core_spec.specs.State.{NodeState}
use Rattle.node_core_spec.specs.Node.{NodeStep, stamped_step, take_step}
use Rattle.node_core.specs.declared.node.Node.{Node}
use Rattle.net_world_spec.specs.declared.lines.Line.{Line}
use Rattle.net_world_spec.specs.declared.lines.Line.TheVariants.{Wire, Off, Lost, Nothing}
use Rattle.net_world_spec.specs.declared.lines.LinkEnd.{LinkEnd}
use Rattle.net_world_spec.specs.declared.lines.FrameOnWire.{FrameOnWire}
use Rattle.net_world_spec.specs.declared.lines.Delivery.{Delivery}
use Rattle.net_world_spec.specs.World.{WorldState, EventResult, nothing, lines_at, place_of, step_at, step_place, steps, steps_at, far_end, wire_place, send_taken, send_at, send_over, send_place}
use Rattle.net_world_spec.specs.World.{sends, without_frame, with_wire, hand_line, wire_after, hand_at, hand_to, hand_frame, hand_place, hands, lose_frame, lose_place, loses}
use Rattle.net_world.specs.declared.network.Network.{Network}
use Rattle.net_world.specs.Stands.{AllStand, NetworkStands, IsActed, StepsAt}

module _ {S : Type 0} (stands : S → ServiceState) where
  -- nothing happens
  nothing_happens : (n : Network S) (w : WorldState) (lines : List Line) → NetworkStands stands n w → lines ≡ Nothing ∷ [] → IsActed stands (nothing w) lines n
  nothing_happens n w lines h e = record { list = e; network = h }

  as_event : (a b : EventResult) (lines : List Line) (n : Network S) → a ≡ b → IsActed stands b lines n → IsActed stands a lines n
  as_event a b lines n e h = subst (λ x. IsActed stands x lines n) (sym e) h

  -- the nodes, lent
  pub lent_nodes_stand : (n : Network S) (w : WorldState) (lent : List (Node S)) → NetworkStands stands n w → lent ≡ n.nodes.items → AllStand stands lent w.nodes
  lent_nodes_stand n w lent h e = subst (λ x. AllStand stands x w.nodes) (sym e) h.nodes

  -- ---- a step of one node

  no_step_at_host : (w : WorldState) (host : Host) (before : NodeState → List Line) (step : NodeState → NodeStep) → place_of w.nodes host ≡ None → steps w host before step ≡ nothing w
  unfolding steps step_place
  no_step_at_host w host before step e = ap (step_place w host before step) e

  pub no_step : (n : Network S) (w : WorldState) (host : Host) (before : NodeState → List Line) (lines : List Line) (step : NodeState → NodeStep) → NetworkStands stands n w → None ≡ place_of w.nodes host → lines ≡ Nothing ∷ []
      → IsActed stands (steps w host before step) lines n
  no_step n w host before lines step h e l = as_event _ (nothing w) lines n (no_step_at_host w host before step (sym e)) (nothing_happens n w lines h l)

  one_step_at_host : (w : WorldState) (host : Host) (before : NodeState → List Line) (step : NodeState → NodeStep) (at : ℕ) (node : NodeState) → place_of w.nodes host ≡ Some at → slice_get w.nodes at ≡ Some node
      → steps w host before step ≡ steps_at w host at (before node) (step node)
  unfolding steps step_place step_at
  one_step_at_host w host before step at node e f = ap (step_place w host before step) e ∙ ap (step_at w host before step at) f

  pub one_step : (old new : Network S) (w : WorldState) (host : Host) (before : NodeState → List Line) (lines : List Line) (step : NodeState → NodeStep) (at : ℕ) (acts : Acts) (nodes : List (Node S))
      → NetworkStands stands old w → Some at ≡ place_of w.nodes host → (s : StepsAt stands step w.nodes at acts nodes) → lines ≡ before s.node ++ lines_at host acts.list
      → new.nodes.items ≡ nodes → new.links ≡ old.links → new.wire ≡ old.wire → new.«next» ≡ old.«next» → new.made ≡ old.made → new.version ≡ old.version
      → IsActed stands (steps w host before step) lines new
  one_step old new w host before lines step at acts nodes h e s l a b c d m v = as_event _ (steps_at w host at (before s.node) (step s.node)) lines new (one_step_at_host w host before step at s.node (sym e) s.there) (record {
    list = l ∙ ap (λ x. before s.node ++ lines_at host x) s.list;
    network = record {
      nodes = subst (λ x. AllStand stands x (slice_set w.nodes at (step s.node).node)) (sym a) s.after;
      links = b ∙ h.links;
      wire = c ∙ h.wire;
      next = d ∙ h.next;
      made = m ∙ h.made;
      version = v ∙ h.version;
    };
  })

  -- ---- sends

  no_sender : (w : WorldState) (host : Host) (d : Dev) → place_of w.nodes host ≡ None → sends w host d ≡ nothing w
  unfolding sends send_place
  no_sender w host d e = ap (send_place w host d) e

  sender : (w : WorldState) (host : Host) (d : Dev) (at : ℕ) → place_of w.nodes host ≡ Some at → sends w host d ≡ send_over w host d at (far_end w.links host d)
  unfolding sends send_place
  sender w host d at e = ap (send_place w host d) e

  no_end : (w : WorldState) (host : Host) (d : Dev) (at : ℕ) (o : Option LinkEnd) → o ≡ None → send_over w host d at o ≡ nothing w
  unfolding send_over
  no_end w host d at o e = ap (send_over w host d at) e

  no_room : (w : WorldState) (host : Host) (d : Dev) (at : ℕ) (to : LinkEnd) → nat_lt (length w.wire) 4096 ≡ false → send_over w host d at (Some to) ≡ nothing w
  unfolding send_over
  no_room w host d at to e = ap (λ t. cond t (send_at w host d at to (slice_get w.nodes at)) (nothing w)) e

  some_room : (w : WorldState) (host : Host) (d : Dev) (at : ℕ) (to : LinkEnd) (node : NodeState) → nat_lt (length w.wire) 4096 ≡ true → slice_get w.nodes at ≡ Some node
      → send_over w host d at (Some to) ≡ send_taken w host d at to (take_step node d) (take_step node d).frame
  unfolding send_over send_at
  some_room w host d at to node e f = ap (λ t. cond t (send_at w host d at to (slice_get w.nodes at)) (nothing w)) e ∙ ap (send_at w host d at to) f

  full : (n : ℕ) → 4096 ≤ n → nat_lt n 4096 ≡ false
  full n h = grind (arith, nat_tests)

  roomy : (n : ℕ) → n < 4096 → nat_lt n 4096 ≡ true
  roomy n h = grind (arith, nat_tests)

  module _ (old : Network S) (w : WorldState) (host : Host) (d : Dev) (h : NetworkStands stands old w) (lines : List Line) where
    pub no_node_sends : None ≡ place_of w.nodes host → lines ≡ Nothing ∷ [] → IsActed stands (sends w host d) lines old
    no_node_sends e l = as_event _ (nothing w) lines old (no_sender w host d (sym e)) (nothing_happens old w lines h l)

    -- the end to which the device leads, in the state
    end_there : (o : Option LinkEnd) → o ≡ far_end old.links host d → far_end w.links host d ≡ o
    end_there o e = ap (λ ls. far_end ls host d) (sym h.links) ∙ sym e

    pub no_end_sends : (at : ℕ) → Some at ≡ place_of w.nodes host → None ≡ far_end old.links host d → lines ≡ Nothing ∷ [] → IsActed stands (sends w host d) lines old
    no_end_sends at e f l = as_event _ (nothing w) lines old (sender w host d at (sym e) ∙ no_end w host d at (far_end w.links host d) (end_there None f)) (nothing_happens old w lines h l)

    over_end : (at : ℕ) (to : LinkEnd) → Some at ≡ place_of w.nodes host → Some to ≡ far_end old.links host d → sends w host d ≡ send_over w host d at (Some to)
    over_end at to e f = sender w host d at (sym e) ∙ ap (send_over w host d at) (end_there (Some to) f)

    pub no_room_sends : (at : ℕ) (to : LinkEnd) → Some at ≡ place_of w.nodes host → Some to ≡ far_end old.links host d → 4096 ≤ length old.wire → lines ≡ Nothing ∷ [] → IsActed stands (sends w host d) lines old
    no_room_sends at to e f r l = as_event _ (nothing w) lines old (over_end at to e f ∙ no_room w host d at to (full (length w.wire) (subst (λ x. 4096 ≤ length x) h.wire r))) (nothing_happens old w lines h l)

    taken_frame_sent : (at : ℕ) (to : LinkEnd) (acts : Acts) (nodes : List (Node S)) → Some at ≡ place_of w.nodes host → Some to ≡ far_end old.links host d → length old.wire < 4096
        → (s : StepsAt stands (λ node. take_step node d) w.nodes at acts nodes) → sends w host d ≡ send_taken w host d at to (take_step s.node d) (take_step s.node d).frame
    taken_frame_sent at to acts nodes e f r s = over_end at to e f ∙ some_room w host d at to s.node (roomy (length w.wire) (subst (λ x. length x < 4096) h.wire r)) s.there

    none_taken : (at : ℕ) (to : LinkEnd) (step : NodeStep) (o : Option PlainStamped) → o ≡ None → send_taken w host d at to step o ≡ nothing w
    unfolding send_taken
    none_taken at to step o e = ap (send_taken w host d at to step) e

    some_taken : (at : ℕ) (to : LinkEnd) (step : NodeStep) (o : Option PlainStamped) (x : PlainStamped) → o ≡ Some x → send_taken w host d at to step o ≡ record {
      lines = lines_at host step.acts ++ Wire w.«next» (stamped_bytes x) ∷ [];
      world = record {
        nodes = slice_set w.nodes at step.node;
        links = w.links;
        wire = w.wire ++ record { number = w.«next»; from = record { host = host; dev = d }; to = to; frame = x; handed = false } ∷ [];
        «next» = w.«next» + 1;
        made = w.made;
        version = w.version;
      };
    }
    unfolding send_taken
    some_taken at to step o x e = ap (send_taken w host d at to step) e

    pub none_sent : (new : Network S) (at : ℕ) (to : LinkEnd) (acts : Acts) (nodes : List (Node S)) → Some at ≡ place_of w.nodes host → Some to ≡ far_end old.links host d → length old.wire < 4096
        → StepsAt stands (λ node. take_step node d) w.nodes at acts nodes → acts.frame ≡ None → AllStand stands nodes w.nodes → lines ≡ Nothing ∷ []
        → new.nodes.items ≡ nodes → new.links ≡ old.links → new.wire ≡ old.wire → new.«next» ≡ old.«next» → new.made ≡ old.made → new.version ≡ old.version → IsActed stands (sends w host d) lines new
    none_sent new at to acts nodes e f r s none same l a b c g m v =
        as_event _ (nothing w) lines new (taken_frame_sent at to acts nodes e f r s ∙ none_taken at to (take_step s.node d) (take_step s.node d).frame (sym s.frame ∙ none)) (record {
          list = l;
          network = record { nodes = subst (λ x. AllStand stands x w.nodes) (sym a) same; links = b ∙ h.links; wire = c ∙ h.wire; next = g ∙ h.next; made = m ∙ h.made; version = v ∙ h.version };
        })

    pub one_sent : (new : Network S) (at : ℕ) (to : LinkEnd) (acts : Acts) (nodes : List (Node S)) (x : PlainStamped) → Some at ≡ place_of w.nodes host → Some to ≡ far_end old.links host d → length old.wire < 4096
        → StepsAt stands (λ node. take_step node d) w.nodes at acts nodes → acts.frame ≡ Some x → lines ≡ lines_at host acts.list ++ Wire old.«next» (stamped_bytes x) ∷ []
        → new.nodes.items ≡ nodes → new.links ≡ old.links → new.wire ≡ old.wire ++ record { number = old.«next»; from = record { host = host; dev = d }; to = to; frame = x; handed = false } ∷ []
        → new.«next» ≡ old.«next» + 1 → new.made ≡ old.made → new.version ≡ old.version → IsActed stands (sends w host d) lines new
    one_sent new at to acts nodes x e f r s some l a b c g m v =
        as_event _ _ lines new (taken_frame_sent at to acts nodes e f r s ∙ some_taken at to (take_step s.node d) (take_step s.node d).frame x (sym s.frame ∙ some)) (record {
          list = l ∙ (λ i. lines_at host (s.list i) ++ Wire (h.next i) (stamped_bytes x) ∷ []);
          network = record {
            nodes = subst (λ y. AllStand stands y (slice_set w.nodes at (take_step s.node d).node)) (sym a) s.after;
            links = b ∙ h.links;
            wire = c ∙ (λ i. h.wire i ++ record { number = h.next i; from = record { host = host; dev = d }; to = to; frame = x; handed = false } ∷ []);
            next = g ∙ ap (λ k. k + 1) h.next;
            made = m ∙ h.made;
            version = v ∙ h.version;
          };
        })

  -- ---- handings and losses

  no_frame : (w : WorldState) (how : Delivery) (number : ℕ) → wire_place w.wire number ≡ None → hands w how number ≡ nothing w
  unfolding hands hand_place
  no_frame w how number e = ap (hand_place w how) e

  some_frame : (w : WorldState) (how : Delivery) (number place : ℕ) (x : FrameOnWire) → wire_place w.wire number ≡ Some place → slice_get w.wire place ≡ Some x
      → hands w how number ≡ hand_to w how place x (place_of w.nodes x.to.host)
  unfolding hands hand_place hand_frame
  some_frame w how number place x e f = ap (hand_place w how) e ∙ ap (hand_frame w how place) f

  no_receiver : (w : WorldState) (how : Delivery) (place : ℕ) (x : FrameOnWire) (o : Option ℕ) → o ≡ None → hand_to w how place x o ≡ nothing w
  unfolding hand_to
  no_receiver w how place x o e = ap (hand_to w how place x) e

  some_receiver : (w : WorldState) (how : Delivery) (place : ℕ) (x : FrameOnWire) (o : Option ℕ) (at : ℕ) (node : NodeState) → o ≡ Some at → slice_get w.nodes at ≡ Some node
      → hand_to w how place x o ≡ steps_at (with_wire w (wire_after how w.wire place x)) x.to.host at (hand_line how x.number ∷ []) (stamped_step node x.to.dev x.frame)
  unfolding hand_to hand_at
  some_receiver w how place x o at node e f = ap (hand_to w how place x) e ∙ ap (hand_at w how place x at) f

  no_loss : (w : WorldState) (number : ℕ) → wire_place w.wire number ≡ None → loses w number ≡ nothing w
  unfolding loses lose_place
  no_loss w number e = ap (lose_place w) e

  some_loss : (w : WorldState) (number place : ℕ) (x : FrameOnWire) → wire_place w.wire number ≡ Some place → slice_get w.wire place ≡ Some x
      → loses w number ≡ record { lines = Off x.number ∷ Lost (what_of x.frame.frame) ∷ []; world = without_frame w place }
  unfolding loses lose_place lose_frame
  some_loss w number place x e f = ap (lose_place w) e ∙ ap (lose_frame w place) f

  module _ (old : Network S) (w : WorldState) (number : ℕ) (h : NetworkStands stands old w) (lines : List Line) where
    place_there : (o : Option ℕ) → o ≡ wire_place old.wire number → wire_place w.wire number ≡ o
    place_there o e = ap (λ x. wire_place x number) (sym h.wire) ∙ sym e

    frame_there : (place : ℕ) (x : FrameOnWire) → slice_get old.wire place ≡ Some x → slice_get w.wire place ≡ Some x
    frame_there place x e = ap (λ y. slice_get y place) (sym h.wire) ∙ e

    pub none_handed : (how : Delivery) → None ≡ wire_place old.wire number → lines ≡ Nothing ∷ [] → IsActed stands (hands w how number) lines old
    none_handed how e l = as_event _ (nothing w) lines old (no_frame w how number (place_there None e)) (nothing_happens old w lines h l)

    pub none_there : (how : Delivery) (place : ℕ) (x : FrameOnWire) → Some place ≡ wire_place old.wire number → slice_get old.wire place ≡ Some x → None ≡ place_of w.nodes x.to.host → lines ≡ Nothing ∷ []
        → IsActed stands (hands w how number) lines old
    none_there how place x e f g l =
        as_event _ (nothing w) lines old (some_frame w how number place x (place_there (Some place) e) (frame_there place x f) ∙ no_receiver w how place x (place_of w.nodes x.to.host) (sym g)) (nothing_happens old w lines h l)

    pub one_handed : (how : Delivery) (new : Network S) (place : ℕ) (x : FrameOnWire) (at : ℕ) (acts : Acts) (nodes : List (Node S)) → Some place ≡ wire_place old.wire number → slice_get old.wire place ≡ Some x
        → Some at ≡ place_of w.nodes x.to.host → StepsAt stands (λ node. stamped_step node x.to.dev x.frame) w.nodes at acts nodes → lines ≡ (hand_line how x.number ∷ []) ++ lines_at x.to.host acts.list
        → new.nodes.items ≡ nodes → new.links ≡ old.links → new.wire ≡ wire_after how old.wire place x → new.«next» ≡ old.«next» → new.made ≡ old.made → new.version ≡ old.version
        → IsActed stands (hands w how number) lines new
    one_handed how new place x at acts nodes e f g s l a b c n m v =
        as_event _ _ lines new
        (some_frame w how number place x (place_there (Some place) e) (frame_there place x f) ∙ some_receiver w how place x (place_of w.nodes x.to.host) at s.node (sym g) s.there)
        (record {
          list = l ∙ ap (λ z. (hand_line how x.number ∷ []) ++ lines_at x.to.host z) s.list;
          network = record {
            nodes = subst (λ z. AllStand stands z (slice_set w.nodes at (stamped_step s.node x.to.dev x.frame).node)) (sym a) s.after;
            links = b ∙ h.links;
            wire = c ∙ ap (λ z. wire_after how z place x) h.wire;
            next = n ∙ h.next;
            made = m ∙ h.made;
            version = v ∙ h.version;
          };
        })

    pub none_lost : None ≡ wire_place old.wire number → lines ≡ Nothing ∷ [] → IsActed stands (loses w number) lines old
    none_lost e l = as_event _ (nothing w) lines old (no_loss w number (place_there None e)) (nothing_happens old w lines h l)

    pub one_lost : (new : Network S) (place : ℕ) (x : FrameOnWire) → Some place ≡ wire_place old.wire number → slice_get old.wire place ≡ Some x → lines ≡ Off x.number ∷ Lost (what_of x.frame.frame) ∷ []
        → new.nodes.items ≡ old.nodes.items → new.links ≡ old.links → new.wire ≡ remove old.wire place → new.«next» ≡ old.«next» → new.made ≡ old.made → new.version ≡ old.version → IsActed stands (loses w number) lines new
    one_lost new place x e f l a b c n m v =
        as_event _ _ lines new (some_loss w number place x (place_there (Some place) e) (frame_there place x f)) (record {
          list = l;
          network = record {
            nodes = subst (λ y. AllStand stands y w.nodes) (sym a) h.nodes;
            links = b ∙ h.links;
            wire = c ∙ ap (λ y. remove y place) h.wire;
            next = n ∙ h.next;
            made = m ∙ h.made;
            version = v ∙ h.version;
          };
        })
