-- All that happens in the network of a script fits, since the ends inject checked chunks alone.
use Rattle.std.proofs.Common.{◌≡◌, ℕ, suc, Bool, true, false, cond, ◌&&◌, if◌then◌else◌, List, [], ◌∷◌, ◌++◌, Option, Some, None, refl, arith}
use Rattle.std.specs.Prelude.{◌==◌, ◌-◌, drop, nat_lt, ℤ, pos}
use Rattle.std.proofs.lemmas.List.Elements.{All-nil, All-push}
use Rattle.plan_base.specs.declared.ids.Host.{Host}
use Rattle.plan_base.specs.declared.tree.Chunk.{Chunk}
use Rattle.checked_chunks.specs.Kept.{IsCheckedChunk}
use Rattle.plan_base.specs.declared.stamp.Version.{Version}
use Rattle.plan_base.specs.declared.stamp.Version.TheVariants.{One, Two}
use Rattle.service_api.specs.declared.answer.Note.{Note}
use Rattle.network_config.specs.declared.event.WorldEvent.{WorldEvent}
use Rattle.network_config.specs.Rules.{MayName, KeepsInjection}
use Rattle.node_core_spec.specs.declared.acts.Act.TheVariants as act
use Rattle.net_world_spec.specs.declared.lines.Line.{Line}
use Rattle.net_world_spec.specs.declared.lines.Line.TheVariants as line
use Rattle.net_world_spec.specs.World.{WorldState, happens}
use Rattle.net_world_spec.specs.Sound.{event_fits, EventsFit}
use Rattle.reliable_ports.proofs.PortTyping.{data_checked, ack_checked}
use Rattle.reliable_ports.specs.Ends.{Body, IsShort, AllShort, Sending, number_of, is_full, with_offer, held_at, is_awaited, is_news, with_ack, next_of, with_message}
use Rattle.reliable_ports.proofs.Held.{held_short, short_push, short_drop}
use Rattle.reliable_ports_world.specs.Ports.{PortState, PortEvent, Offer, Transmit, Wire, first_host, second_host, price, said_to, heard_by, makes, first_pays, second_pays, ack_event, message_event}
use Rattle.reliable_ports_world.specs.Ports.{acks, hears_message, hears_ack, hears_note, hears_line, hears, after, offers_one, transmits, port_run, port_begun}
use Rattle.reliable_ports_world.specs.Paid.{ScriptFits}

acked_short : (next : ℕ) (s : Sending) → AllShort s.held → AllShort (with_ack next s).held
unfolding with_ack
acked_short next s h = by (is_awaited next s && is_news next s)
  where
    by : (t : Bool) → AllShort (if t then record { acked = next - 1; held = drop (next - suc s.acked) s.held } else s).held
    by true = short_drop (next - suc s.acked) s.held h
    by false = h

-- the bodies that are held are short, and the events of the network fit
pub record Fits (v : Version) (s : PortState) : Type 0 where
  pub held : AllShort s.sender.held
  pub events : EventsFit v s.events

module _ (v : Version) where
  nameless : (u : Version) (k : Chunk) → MayName u k None
  nameless One k = refl
  nameless Two k = tt

  injection_is_kept : (k : Chunk) → IsCheckedChunk k → KeepsInjection v k price None
  injection_is_kept k h = ((omega arith, h), nameless v k)

  made_event_fits : (e : WorldEvent) (s : PortState) → event_fits v e → Fits v s → Fits v (makes e s)
  made_event_fits e s f h = record { held = h.held; events = All-push (event_fits v) s.events e h.events f }

  acks_fit : (s : PortState) → Fits v s → Fits v (acks s)
  acks_fit s h = by (nat_lt s.second price)
    where
      by : (t : Bool) → Fits v (cond t s (makes (ack_event s.receiver) (second_pays s)))
      by true = h
      by false = made_event_fits (ack_event s.receiver) (second_pays s) (injection_is_kept _ (ack_checked first_host (pos (next_of s.receiver)))) (record { held = h.held; events = h.events })

  message_fits : (o : Option (ℤ × Body)) (s : PortState) → Fits v s → Fits v (hears_message o s)
  message_fits None s h = h
  message_fits (Some m) s h = acks_fit (heard_by (with_message (number_of m.0) m.1 s.receiver) s) (record { held = h.held; events = h.events })

  ack_fits : (o : Option (ℤ × Body)) (s : PortState) → Fits v s → Fits v (hears_ack o s)
  ack_fits None s h = h
  ack_fits (Some m) s h = record { held = acked_short (number_of m.0) s.sender h.held; events = h.events }

  note_fits : (g : Host) (x : Note) (s : PortState) → Fits v s → Fits v (hears_note g x s)
  note_fits g x s h = by (g.0 == 2) (g.0 == 1)
    where
      by : (t u : Bool) → Fits v (cond t (hears_message (said_to 1 x) s) (cond u (hears_ack (said_to 2 x) s) s))
      by true u = message_fits (said_to 1 x) s h
      by false true = ack_fits (said_to 2 x) s h
      by false false = h

  line_fits : (l : Line) (s : PortState) → Fits v s → Fits v (hears_line l s)
  line_fits (line.At g (act.Noted x)) s h = note_fits g x s h
  line_fits (line.At g _) s h = h
  line_fits _ s h = h

  hears_fit : (ls : List Line) (s : PortState) → Fits v s → Fits v (hears ls s)
  hears_fit [] s h = h
  hears_fit (l ∷ ls) s h = hears_fit ls (hears_line l s) (line_fits l s h)

  after_fits : (e : WorldEvent) (s : PortState) → event_fits v e → Fits v s → Fits v (after e s)
  after_fits e s f h = hears_fit (happens s.world e).lines (makes e s) (made_event_fits e s f h)

  transmit_fits : (seq : ℕ) (o : Option Body) (s : PortState) → held_at seq s.sender ≡ o → Fits v s → Fits v (transmits seq o s)
  transmit_fits seq None s e h = h
  transmit_fits seq (Some b) s e h = by (nat_lt s.first price)
    where
      by : (t : Bool) → Fits v (cond t s (after (message_event seq b) (first_pays s)))
      by true = h
      by false =
          after_fits (message_event seq b) (first_pays s) (injection_is_kept _ (data_checked second_host (pos seq) b (held_short seq s.sender b h.held e)))
          (record { held = h.held; events = h.events })

  offer_fits : (b : Body) (s : PortState) → IsShort b → Fits v s → Fits v (offers_one b s)
  offer_fits b s short h = by (is_full s.sender)
    where
      by : (t : Bool) → Fits v (cond t s (record { offers = s.offers ++ b ∷ []; sender = with_offer b s.sender; receiver = s.receiver; world = s.world; first = s.first; second = s.second; events = s.events }))
      by true = h
      by false = record { held = short_push s.sender.held b h.held short; events = h.events }

  pub run_fits : (es : List PortEvent) (s : PortState) → ScriptFits v es → Fits v s → Fits v (port_run es s)
  run_fits [] s k h = h
  run_fits (Offer b ∷ es) s k h = run_fits es (offers_one b s) k.1 (offer_fits b s k.0 h)
  run_fits (Transmit seq ∷ es) s k h = run_fits es (transmits seq (held_at seq s.sender) s) k.1 (transmit_fits seq (held_at seq s.sender) s refl h)
  run_fits (Wire e ∷ es) s k h = run_fits es (after e s) k.1 (after_fits e s k.0 h)

  pub begun_fits : (w : WorldState) (b c : ℕ) → Fits v (port_begun w b c)
  begun_fits w b c = record { held = tt; events = All-nil (event_fits v) }
