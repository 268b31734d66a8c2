-- The ends and the network keep together.
use Rattle.std.proofs.Common.{◌≡◌, ℕ, zero, suc, ◌≤◌, Bool, true, false, cond, List, [], ◌∷◌, ◌++◌, length, Option, Some, None, refl, sym, ap, subst, ◌∙◌, arith}
use Rattle.std.specs.Prelude.{◌==◌, nat_lt, pos, ℤ}
use Rattle.std.specs.List.{AllByRecursion}
use Rattle.plan_base.specs.declared.ids.Host.{Host}
use Rattle.plan_base.specs.declared.tree.Chunk.{Chunk}
use Rattle.plan_base.specs.declared.tree.Value.{out-Value}
use Rattle.plan_base.specs.declared.tree.Value.TheVariants as value
use Rattle.packet_frame.specs.declared.frame.PlainFrame.{PlainFrame}
use Rattle.service_api.specs.declared.answer.Note.{Note}
use Rattle.service_api.specs.declared.answer.Note.TheVariants.{Port}
use Rattle.service_api.specs.declared.answer.Answer.{Answer}
use Rattle.service_api.specs.declared.answer.Answer.TheVariants.{Gives, Raises}
use Rattle.service_api.specs.Services.{Offer as Offering}
use Rattle.network_config.specs.declared.event.WorldEvent.{WorldEvent}
use Rattle.network_config.specs.declared.event.WorldEvent.TheVariants as event
use Rattle.node_core_spec.specs.declared.acts.Act.TheVariants as act
use Rattle.node_core_spec.specs.State.{NodeState}
use Rattle.net_world_spec.specs.declared.lines.Line.{Line}
use Rattle.net_world_spec.specs.declared.lines.Line.TheVariants as line
use Rattle.net_world_spec.specs.declared.lines.FrameOnWire.{FrameOnWire}
use Rattle.net_world_spec.specs.World.{WorldState, happens}
use Rattle.reliable_ports.specs.Ends.{Body, number_of, is_full, with_offer, held_at, next_of, with_message}
use Rattle.reliable_ports.proofs.Slots.{get_more}
use Rattle.reliable_ports.proofs.Scripts.{prefix_length}
use Rattle.reliable_ports.proofs.Steps.{message, Receives, Sends, receives_more, receives_message, delivers_on, sends_more, held_message, sends_ack}
use Rattle.reliable_ports_world.specs.Only.{Allowed, AnswerFits}
use Rattle.reliable_ports_world.specs.Visits.{VisitIsGood, Any}
use Rattle.reliable_ports_world.proofs.Closed.{data_closed, ack_closed}
use Rattle.reliable_ports_world.specs.Known.{IsClosed, FrameKnown, StampedKnown, NodeKnown, WorldKnown, LineKnown, EventKnown, ComesKnown}
use Rattle.reliable_ports_world.proofs.Worlds.{event_known}
use Rattle.reliable_ports_world.specs.Ports.{PortState, PortEvent, Offer, Transmit, Wire, first_host, second_host, price, int_in, blob_in, pair_with, pair_in, said_to, heard_by, makes, first_pays}
use Rattle.reliable_ports_world.specs.Ports.{second_pays, ack_event, message_event, acks, hears_message, hears_ack, hears_note, hears_line, hears, after, offers_one, transmits, happens_at, port_run}
use Rattle.reliable_ports_world.specs.Ports.{port_begun}
use Rattle.reliable_ports_world.specs.Allowed.{body_numbered, PortChunk, PortNote, port_allowed, NoNote, PortServes, IsWire}

-- ---- what is allowed grows

record Grows (os : List Body) (n : ℕ) (ps : List Body) (m : ℕ) : Type 0 where
  pub offers : (seq : ℕ) (b : Body) → body_numbered seq os ≡ Some b → body_numbered seq ps ≡ Some b
  pub acks : n ≤ m

chunk_grows : (os ps : List Body) (n m : ℕ) → Grows os n ps m → (k : Chunk) → PortChunk os n k → PortChunk ps m k
chunk_grows os ps n m g k (PortChunk.message seq b e q) = PortChunk.message seq b (g.offers seq b e) q
chunk_grows os ps n m g k (PortChunk.ack next l q) = PortChunk.ack next (omega (arith, l, g.acks)) q

note_grows : (os ps : List Body) (n m : ℕ) → Grows os n ps m → (x : Note) → PortNote os n x → PortNote ps m x
note_grows os ps n m g x (PortNote.message seq b e q) = PortNote.message seq b (g.offers seq b e) q
note_grows os ps n m g x (PortNote.ack next l q) = PortNote.ack next (omega (arith, l, g.acks)) q

all_weaker : {X : Type 0} (P Q : X → Type 0) → ((x : X) → P x → Q x) → (xs : List X) → AllByRecursion P xs → AllByRecursion Q xs
all_weaker P Q f [] h = tt
all_weaker P Q f (x ∷ xs) h = (f x h.0, all_weaker P Q f xs h.1)

module _ (offer : Offering) where
  A : List Body → ℕ → Allowed
  A os n = port_allowed offer os n

  frame_grows : (os ps : List Body) (n m : ℕ) → Grows os n ps m → (x : PlainFrame) → FrameKnown (port_allowed offer os n) x → FrameKnown (port_allowed offer ps m) x
  frame_grows os ps n m g (PlainFrame.Packet p) h = (chunk_grows os ps n m g p.chunk h.0, h.1)
  frame_grows os ps n m g (PlainFrame.Advert x) h = tt
  frame_grows os ps n m g (PlainFrame.Ask b c) h = tt

  node_grows : (os ps : List Body) (n m : ℕ) → Grows os n ps m → (x : NodeState) → NodeKnown (port_allowed offer os n) x → NodeKnown (port_allowed offer ps m) x
  node_grows os ps n m g x h = record {
    queues = record { room = h.queues.room; frames = λ k d l. λ i e j. frame_grows os ps n m g _ (h.queues.frames k d l i e j) };
    offer = h.offer;
  }

  world_grows : (os ps : List Body) (n m : ℕ) → Grows os n ps m → (w : WorldState) → WorldKnown (port_allowed offer os n) w → WorldKnown (port_allowed offer ps m) w
  world_grows os ps n m g w h = record {
    nodes = all_weaker (NodeKnown (port_allowed offer os n)) (NodeKnown (port_allowed offer ps m)) (node_grows os ps n m g) w.nodes h.nodes;
    wire = all_weaker (λ (x : FrameOnWire). StampedKnown (port_allowed offer os n) x.frame) (λ x. StampedKnown (port_allowed offer ps m) x.frame) (λ x k. frame_grows os ps n m g x.frame.frame k) w.wire h.wire;
  }

  line_grows : (os ps : List Body) (n m : ℕ) → Grows os n ps m → (x : Line) → LineKnown (port_allowed offer os n) x → LineKnown (port_allowed offer ps m) x
  line_grows os ps n m g (line.At h (act.Noted x)) k = note_grows os ps n m g x k
  line_grows os ps n m g x k = other x k
    where
      other : (x : Line) → LineKnown (port_allowed offer os n) x → LineKnown (port_allowed offer ps m) x
      other (line.At h (act.Noted y)) k = note_grows os ps n m g y k
      other (line.At h _) k = tt
      other _ k = tt

  -- ---- the visits of what is allowed

  fits_weaker : (P Q : Note → Type 0) → ((n : Note) → P n → Q n) → (r : Answer) → AnswerFits P Any r → AnswerFits Q Any r
  fits_weaker P Q f (Gives v None) h = (tt, tt)
  fits_weaker P Q f (Gives v (Some n)) h = (f n h.0, tt)
  fits_weaker P Q f (Raises x) h = tt

  no_note : (Q : Note → Type 0) (n : Note) → NoNote n → Q n
  no_note Q n h = absurd h

  pub port_closed : (os : List Body) (n : ℕ) → PortServes offer → IsClosed (port_allowed offer os n)
  port_closed os n sv k (PortChunk.message seq b e q) s g =
      subst (λ (x : Chunk). VisitIsGood (port_allowed offer os n) x s) (sym q)
      (data_closed (port_allowed offer os n) second_host (pos seq) b (PortChunk.message seq b e refl)
      (λ ctx rows. fits_weaker NoNote (PortNote os n) (no_note (PortNote os n)) _ (sv.host second_host ctx rows))
      (λ ctx rows. fits_weaker NoNote (PortNote os n) (no_note (PortNote os n)) _ (sv.purse ctx rows))
      (λ ctx rows. fits_weaker (λ x. x ≡ Port 1 (value.Tuple (value.Int (pos seq) ∷ value.Blob b ∷ []))) (PortNote os n) (λ x p. PortNote.message seq b e p) _ (sv.delivers 1 (value.Tuple (value.Int (pos seq) ∷ value.Blob b ∷ [])) ctx rows))
      s g)
  port_closed os n sv k (PortChunk.ack next l q) s g =
      subst (λ (x : Chunk). VisitIsGood (port_allowed offer os n) x s) (sym q)
      (ack_closed (port_allowed offer os n) first_host (pos next) (PortChunk.ack next l refl)
      (λ ctx rows. fits_weaker NoNote (PortNote os n) (no_note (PortNote os n)) _ (sv.host first_host ctx rows))
      (λ ctx rows. fits_weaker NoNote (PortNote os n) (no_note (PortNote os n)) _ (sv.purse ctx rows))
      (λ ctx rows. fits_weaker (λ x. x ≡ Port 2 (value.Tuple (value.Int (pos next) ∷ value.Blob [] ∷ []))) (PortNote os n) (λ x p. PortNote.ack next l p) _ (sv.delivers 2 (value.Tuple (value.Int (pos next) ∷ value.Blob [] ∷ [])) ctx rows))
      s g)

  -- ---- what a note says

  pair_out : (z : ℤ) (b : Body) → pair_in (out-Value (value.Tuple (value.Int z ∷ value.Blob b ∷ []))) ≡ Some (z, b)
  pair_out z b = ap pair_in (value.outs-Tuple (value.Int z ∷ value.Blob b ∷ [])) ∙ (λ i. pair_with (int_in (value.outs-Int z i)) (blob_in (value.outs-Blob b i)))

  same_message : (seq : ℕ) (os : List Body) → body_numbered seq os ≡ message seq os
  same_message zero os = refl
  same_message (suc i) os = refl

  note_message : (os : List Body) (n : ℕ) (x : Note) (m : ℤ × Body) → PortNote os n x → said_to 1 x ≡ Some m → message (number_of m.0) os ≡ Some m.1
  note_message os n x m (PortNote.message seq b e q) s =
      let t : Some (pos seq, b) ≡ Some m = sym (ap (said_to 1) q ∙ pair_out (pos seq) b) ∙ s in
      let u : (pos seq, b) ≡ m = cc in
      subst (λ (y : ℤ × Body). message (number_of y.0) os ≡ Some y.1) u (sym (same_message seq os) ∙ e)
  note_message os n x m (PortNote.ack next l q) s = let t : None ≡ Some m = sym (ap (said_to 1) q) ∙ s in absurd cc

  note_ack : (os : List Body) (n : ℕ) (x : Note) (m : ℤ × Body) → PortNote os n x → said_to 2 x ≡ Some m → number_of m.0 ≤ n
  note_ack os n x m (PortNote.ack next l q) s =
      let t : Some (pos next, []) ≡ Some m = sym (ap (said_to 2) q ∙ pair_out (pos next) []) ∙ s in
      let u : (pos next, []) ≡ m = cc in
      subst (λ (y : ℤ × Body). number_of y.0 ≤ n) u l
  note_ack os n x m (PortNote.message seq b e q) s = let t : None ≡ Some m = sym (ap (said_to 2) q) ∙ s in absurd cc

  -- ---- the ends and the network

  module _ (sv : PortServes offer) where
    pub record Together (s : PortState) : Type 0 where
      pub receives : Receives s.offers s.receiver
      pub sends : Sends s.offers s.sender
      pub acked : s.sender.acked ≤ length s.receiver.delivered
      pub world : WorldKnown (port_allowed offer s.offers (next_of s.receiver)) s.world

    -- a state with the same offers in which no less is delivered
    record On (s t : PortState) : Type 0 where
      together : Together t
      grows : Grows s.offers (next_of s.receiver) t.offers (next_of t.receiver)

    stays : (s : PortState) → Together s → On s s
    stays s h = record { together = h; grows = record { offers = λ seq b e. e; acks = omega arith } }

    event_is_known : (s : PortState) (e : WorldEvent) → ComesKnown (port_allowed offer s.offers (next_of s.receiver)) e → Together s → EventKnown (port_allowed offer s.offers (next_of s.receiver)) (happens s.world e)
    event_is_known s e c h = event_known (port_allowed offer s.offers (next_of s.receiver)) (port_closed s.offers (next_of s.receiver) sv) s.world e c h.world

    acks_on : (s : PortState) → Together s → On s (acks s)
    acks_on s h = by (nat_lt s.second price)
      where
        by : (t : Bool) → On s (cond t s (makes (ack_event s.receiver) (second_pays s)))
        by true = stays s h
        by false = record {
          together = record { receives = h.receives; sends = h.sends; acked = h.acked; world = (event_is_known s (ack_event s.receiver) (PortChunk.ack (next_of s.receiver) (omega arith) refl, refl) h).world };
          grows = record { offers = λ seq b e. e; acks = omega arith };
        }

    message_on : (o : Option (ℤ × Body)) (x : Note) (s : PortState) → said_to 1 x ≡ o → PortNote s.offers (next_of s.receiver) x → Together s → On s (hears_message o s)
    message_on None x s e k h = stays s h
    message_on (Some m) x s e k h =
        let r = with_message (number_of m.0) m.1 s.receiver in
        let more = delivers_on (number_of m.0) m.1 s.receiver in
        let g : Grows s.offers (next_of s.receiver) s.offers (next_of r) = record { offers = λ seq b e. e; acks = omega (arith, more) } in
        let t : Together (heard_by r s) = record {
          receives = receives_message (number_of m.0) m.1 s.offers s.receiver h.receives (note_message s.offers (next_of s.receiver) x m k e);
          sends = h.sends;
          acked = omega (arith, h.acked, more);
          world = world_grows s.offers s.offers (next_of s.receiver) (next_of r) g s.world h.world;
        } in
        let a = acks_on (heard_by r s) t in
        record { together = a.together; grows = record { offers = λ seq b e. a.grows.offers seq b e; acks = omega (arith, more, a.grows.acks) } }

    ack_on : (o : Option (ℤ × Body)) (x : Note) (s : PortState) → said_to 2 x ≡ o → PortNote s.offers (next_of s.receiver) x → Together s → On s (hears_ack o s)
    ack_on None x s e k h = stays s h
    ack_on (Some m) x s e k h =
        let w = sends_ack (number_of m.0) (length s.receiver.delivered) s.offers s.sender h.sends h.acked (prefix_length s.offers s.receiver h.receives) (note_ack s.offers (next_of s.receiver) x m k e) in
        record { together = record { receives = h.receives; sends = w.0; acked = w.1; world = h.world }; grows = record { offers = λ seq b e. e; acks = omega arith } }

    note_on : (g : Host) (x : Note) (s : PortState) → PortNote s.offers (next_of s.receiver) x → Together s → On s (hears_note g x s)
    note_on g x s k h = by (g.0 == 2) (g.0 == 1)
      where
        by : (t u : Bool) → On s (cond t (hears_message (said_to 1 x) s) (cond u (hears_ack (said_to 2 x) s) s))
        by true u = message_on (said_to 1 x) x s refl k h
        by false true = ack_on (said_to 2 x) x s refl k h
        by false false = stays s h

    line_on : (l : Line) (s : PortState) → LineKnown (port_allowed offer s.offers (next_of s.receiver)) l → Together s → On s (hears_line l s)
    line_on (line.At g (act.Noted x)) s k h = note_on g x s k h
    line_on (line.At g _) s k h = stays s h
    line_on _ s k h = stays s h

    pub hears_on : (ls : List Line) (s : PortState) → AllByRecursion (LineKnown (port_allowed offer s.offers (next_of s.receiver))) ls → Together s → Together (hears ls s)
    hears_on [] s k h = h
    hears_on (l ∷ ls) s k h =
        let o = line_on l s k.0 h in
        let t = hears_line l s in
        hears_on ls t (all_weaker (LineKnown (port_allowed offer s.offers (next_of s.receiver))) (LineKnown (port_allowed offer t.offers (next_of t.receiver)))
        (line_grows s.offers t.offers (next_of s.receiver) (next_of t.receiver) o.grows) ls k.1) o.together

    after_on : (e : WorldEvent) (s : PortState) → ComesKnown (port_allowed offer s.offers (next_of s.receiver)) e → Together s → Together (after e s)
    after_on e s c h = let k = event_is_known s e c h in hears_on (happens s.world e).lines (makes e s) k.lines (record { receives = h.receives; sends = h.sends; acked = h.acked; world = k.world })

    -- ---- events

    comes : (os : List Body) (n : ℕ) (e : WorldEvent) → IsWire (Wire e) → ComesKnown (port_allowed offer os n) e
    comes os n (event.Inject g c b o) h = absurd h
    comes os n (event.Raw g d bytes) h = absurd h
    comes os n (event.Send g d) h = tt
    comes os n (event.Deliver k) h = tt
    comes os n (event.Repeat k) h = tt
    comes os n (event.Lose k) h = tt
    comes os n (event.Tick g) h = tt

    more_offers : (seq : ℕ) (os : List Body) (b c : Body) → body_numbered seq os ≡ Some c → body_numbered seq (os ++ b ∷ []) ≡ Some c
    more_offers zero os b c h = absurd cc
    more_offers (suc i) os b c h = get_more os (b ∷ []) i c h

    offer_on : (b : Body) (s : PortState) → Together s → Together (offers_one b s)
    offer_on b s h = by (is_full s.sender)
      where
        by : (t : Bool) → Together (cond t s (record { offers = s.offers ++ b ∷ []; sender = with_offer b s.sender; receiver = s.receiver; world = s.world; first = s.first; second = s.second; events = s.events }))
        by true = h
        by false = record {
          receives = receives_more b s.offers s.receiver h.receives;
          sends = sends_more b s.offers s.sender h.sends;
          acked = h.acked;
          world = world_grows s.offers (s.offers ++ b ∷ []) (next_of s.receiver) (next_of s.receiver) (record { offers = λ seq c e. more_offers seq s.offers b c e; acks = omega arith }) s.world h.world;
        }

    transmit_on : (seq : ℕ) (o : Option Body) (s : PortState) → held_at seq s.sender ≡ o → Together s → Together (transmits seq o s)
    transmit_on seq None s e h = h
    transmit_on seq (Some b) s e h = by (nat_lt s.first price)
      where
        by : (t : Bool) → Together (cond t s (after (message_event seq b) (first_pays s)))
        by true = h
        by false =
            after_on (message_event seq b) (first_pays s) (
              PortChunk.message seq b (same_message seq s.offers ∙ held_message seq b s.offers s.sender h.sends e) refl,
              refl,
            ) (record { receives = h.receives; sends = h.sends; acked = h.acked; world = h.world })

    event_on : (e : PortEvent) (s : PortState) → IsWire e → Together s → Together (happens_at e s)
    event_on (Offer b) s w h = offer_on b s h
    event_on (Transmit seq) s w h = transmit_on seq (held_at seq s.sender) s refl h
    event_on (Wire e) s w h = after_on e s (comes s.offers (next_of s.receiver) e w) h

    pub run_on : (es : List PortEvent) (s : PortState) → AllByRecursion IsWire es → Together s → Together (port_run es s)
    run_on [] s w h = h
    run_on (e ∷ es) s w h = run_on es (happens_at e s) w.1 (event_on e s w.0 h)

    pub begun_on : (w : WorldState) (b c : ℕ) → WorldKnown (port_allowed offer [] 1) w → Together (port_begun w b c)
    begun_on w b c k = record {
      receives = record { rest = []; prefix = refl; agrees = tt };
      sends = record { within = omega arith; held = refl };
      acked = omega arith;
      world = k;
    }
