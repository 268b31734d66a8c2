-- What is injected is paid by the ends' purses.
use Rattle.std.proofs.Common.{◌≡◌, ℕ, ◌+◌, ◌≤◌, Bool, true, false, cond, List, [], ◌∷◌, ◌++◌, Option, Some, None, refl, sym, ap, ◌∙◌, arith}
use Rattle.std.specs.Prelude.{◌==◌, nat_lt, ℤ}
use Rattle.std.specs.List.{AllByRecursion}
use Rattle.std.proofs.lemmas.Bool.Decides.{nat_tests}
use Rattle.plan_base.specs.declared.ids.Host.{Host}
use Rattle.service_api.specs.declared.answer.Note.{Note}
use Rattle.network_config.specs.declared.event.WorldEvent.{WorldEvent}
use Rattle.network_config.specs.declared.event.WorldEvent.TheVariants as event
use Rattle.node_core_spec.specs.declared.acts.Act.TheVariants as act
use Rattle.net_world_spec.specs.declared.lines.Line.{Line}
use Rattle.net_world_spec.specs.declared.lines.Line.TheVariants as line
use Rattle.net_world_spec.specs.World.{WorldState, happens, world_after}
use Rattle.reliable_ports_world.proofs.Rules.{all_push}
use Rattle.reliable_ports.specs.Ends.{Body, number_of, is_full, with_offer, held_at, with_message}
use Rattle.reliable_ports_world.specs.Ports.{PortState, PortEvent, Offer, Transmit, Wire, price, said_to, heard_by, makes, first_pays, second_pays, ack_event, message_event, acks, hears_message}
use Rattle.reliable_ports_world.specs.Ports.{hears_ack, hears_note, hears_line, hears, after, offers_one, transmits, port_run, port_begun}
use Rattle.reliable_ports_world.specs.Allowed.{IsWire}
use Rattle.reliable_ports_world.specs.Paid.{sum_of, event_bound, NotRaw}
use Rattle.reliable_ports_world.proofs.Quiet.{sum_append}

pub run_more : (es : List WorldEvent) (e : WorldEvent) (w : WorldState) → world_after (es ++ e ∷ []) w ≡ (happens (world_after es w) e).world
unfolding world_after
run_more [] e w = refl
run_more (x ∷ es) e w = run_more es e (happens w x).world

-- the network is what its events make of the first one, none is raw, and what they inject was paid out of n
pub record Pays (w : WorldState) (n : ℕ) (s : PortState) : Type 0 where
  pub world : s.world ≡ world_after s.events w
  pub wired : AllByRecursion NotRaw s.events
  pub paid : sum_of event_bound s.events + s.first + s.second ≤ n

module _ (w : WorldState) (n : ℕ) where
  made_event_pays : (e : WorldEvent) (s : PortState) → NotRaw e → s.world ≡ world_after s.events w → AllByRecursion NotRaw s.events → sum_of event_bound s.events + event_bound e + s.first + s.second ≤ n → Pays w n (makes e s)
  made_event_pays e s q k h p = record {
    world = ap (λ x. (happens x e).world) k ∙ sym (run_more s.events e w);
    wired = all_push NotRaw s.events e h q;
    paid = omega (arith, p, sum_append event_bound s.events (e ∷ []));
  }

  acks_pay : (s : PortState) → Pays w n s → Pays w n (acks s)
  acks_pay s h = by (nat_lt s.second price) refl
    where
      by : (t : Bool) → nat_lt s.second price ≡ t → Pays w n (cond t s (makes (ack_event s.receiver) (second_pays s)))
      by true e = h
      by false e = let l : 4 ≤ s.second = grind (arith, nat_tests) in let p = h.paid in made_event_pays (ack_event s.receiver) (second_pays s) tt h.world h.wired (omega (arith, l, p))

  message_pays : (o : Option (ℤ × Body)) (s : PortState) → Pays w n s → Pays w n (hears_message o s)
  message_pays None s h = h
  message_pays (Some m) s h = acks_pay (heard_by (with_message (number_of m.0) m.1 s.receiver) s) (record { world = h.world; wired = h.wired; paid = h.paid })

  ack_pays : (o : Option (ℤ × Body)) (s : PortState) → Pays w n s → Pays w n (hears_ack o s)
  ack_pays None s h = h
  ack_pays (Some m) s h = record { world = h.world; wired = h.wired; paid = h.paid }

  note_pays : (g : Host) (x : Note) (s : PortState) → Pays w n s → Pays w n (hears_note g x s)
  note_pays g x s h = by (g.0 == 2) (g.0 == 1)
    where
      by : (t u : Bool) → Pays w n (cond t (hears_message (said_to 1 x) s) (cond u (hears_ack (said_to 2 x) s) s))
      by true u = message_pays (said_to 1 x) s h
      by false true = ack_pays (said_to 2 x) s h
      by false false = h

  line_pays : (l : Line) (s : PortState) → Pays w n s → Pays w n (hears_line l s)
  line_pays (line.At g (act.Noted x)) s h = note_pays g x s h
  line_pays (line.At g _) s h = h
  line_pays _ s h = h

  hears_pay : (ls : List Line) (s : PortState) → Pays w n s → Pays w n (hears ls s)
  hears_pay [] s h = h
  hears_pay (l ∷ ls) s h = hears_pay ls (hears_line l s) (line_pays l s h)

  transmit_pays : (seq : ℕ) (o : Option Body) (s : PortState) → Pays w n s → Pays w n (transmits seq o s)
  transmit_pays seq None s h = h
  transmit_pays seq (Some b) s h = by (nat_lt s.first price) refl
    where
      by : (t : Bool) → nat_lt s.first price ≡ t → Pays w n (cond t s (after (message_event seq b) (first_pays s)))
      by true e = h
      by false e =
          let l : 4 ≤ s.first = grind (arith, nat_tests) in
          let p = h.paid in
          hears_pay (happens s.world (message_event seq b)).lines (makes (message_event seq b) (first_pays s)) (made_event_pays (message_event seq b) (first_pays s) tt h.world h.wired (omega (arith, l, p)))

  offer_pays : (b : Body) (s : PortState) → Pays w n s → Pays w n (offers_one b s)
  offer_pays b s h = by (is_full s.sender)
    where
      by : (t : Bool) → Pays w n (cond t s (record { offers = s.offers ++ b ∷ []; sender = with_offer b s.sender; receiver = s.receiver; world = s.world; first = s.first; second = s.second; events = s.events }))
      by true = h
      by false = record { world = h.world; wired = h.wired; paid = h.paid }

  wire_pays : (e : WorldEvent) (s : PortState) → IsWire (Wire e) → Pays w n s → Pays w n (after e s)
  wire_pays (event.Inject g c b o) s q h = absurd q
  wire_pays (event.Raw g d bytes) s q h = absurd q
  wire_pays (event.Send g d) s q h = let p = h.paid in hears_pay (happens s.world (event.Send g d)).lines (makes (event.Send g d) s) (made_event_pays (event.Send g d) s tt h.world h.wired (omega (arith, p)))
  wire_pays (event.Deliver k) s q h = let p = h.paid in hears_pay (happens s.world (event.Deliver k)).lines (makes (event.Deliver k) s) (made_event_pays (event.Deliver k) s tt h.world h.wired (omega (arith, p)))
  wire_pays (event.Repeat k) s q h = let p = h.paid in hears_pay (happens s.world (event.Repeat k)).lines (makes (event.Repeat k) s) (made_event_pays (event.Repeat k) s tt h.world h.wired (omega (arith, p)))
  wire_pays (event.Lose k) s q h = let p = h.paid in hears_pay (happens s.world (event.Lose k)).lines (makes (event.Lose k) s) (made_event_pays (event.Lose k) s tt h.world h.wired (omega (arith, p)))
  wire_pays (event.Tick g) s q h = let p = h.paid in hears_pay (happens s.world (event.Tick g)).lines (makes (event.Tick g) s) (made_event_pays (event.Tick g) s tt h.world h.wired (omega (arith, p)))

  pub run_pays : (es : List PortEvent) (s : PortState) → AllByRecursion IsWire es → Pays w n s → Pays w n (port_run es s)
  run_pays [] s q h = h
  run_pays (Offer b ∷ es) s q h = run_pays es (offers_one b s) q.1 (offer_pays b s h)
  run_pays (Transmit seq ∷ es) s q h = run_pays es (transmits seq (held_at seq s.sender) s) q.1 (transmit_pays seq (held_at seq s.sender) s h)
  run_pays (Wire e ∷ es) s q h = run_pays es (after e s) q.1 (wire_pays e s q.0 h)

pub begun_pays : (w : WorldState) (b c : ℕ) → Pays w (b + c) (port_begun w b c)
unfolding world_after
begun_pays w b c = record { world = refl; wired = tt; paid = omega arith }
