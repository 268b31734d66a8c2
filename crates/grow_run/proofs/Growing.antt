-- A network with one event more, and with all of them.
use Rattle.std.proofs.Common.{◌≡◌, ℕ, suc, ◌+◌, ◌-◌, ◌*◌, ◌^◌, ◌<◌, ◌≤◌, List, [], ◌∷◌, ◌++◌, length, refl, sym, ap, ◌∙◌, append_assoc, subst, arith}
use Rattle.std.proofs.lemmas.List.{append-nil, length-append}
use Rattle.std.proofs.lemmas.List.Elements.{All-nil, All-push}
use Rattle.rand_pcg.specs.Lcg.{Lcg}
use Rattle.plan_base.specs.declared.ids.Host.{Host}
use Rattle.plan_base.specs.declared.tree.Chunk.{Chunk}
use Rattle.plan_base.specs.declared.tree.Program.{Program}
use Rattle.service_api.specs.Services.{ServiceState}
use Rattle.network_config.specs.declared.event.WorldEvent.{WorldEvent}
use Rattle.net_world_spec.specs.World.{WorldState, happens, entries, world_after, history_of, opening}
use Rattle.net_world_spec.specs.Sound.{event_fits, EventsFit}
use Rattle.plan_base.specs.declared.stamp.Version.TheVariants.{One}
use Rattle.net_world_spec.proofs.Fitting.{run_version}
use Rattle.net_world_spec.proofs.Handings.{opening_leaves}
use Rattle.net_world_spec.proofs.Opening.{opening_version, opening_sound}
use Rattle.bound_ledger.specs.Stands.{Stands}
use Rattle.bound_ledger.proofs.Runs.{world_after-push, history_of-push, event_fits_ledger}
use Rattle.grow_run.specs.Grow.{ring, next_event, grown_events, Grow}
use Rattle.grow_run.specs.Growths.{IsAtOpening, HasMade}
use Rattle.grow_run.specs.Summaries.{HasRoom, summary_of, grown_text, GrowText}
use Rattle.grow_run.proofs.RingRules.{ring_keeps}
use Rattle.grow_run.proofs.Summing.{room_less, room_first}
use Rattle.net_world.specs.Stands.{WorldStands}
use Rattle.net_world.specs.Running.{AllLeave, IsCountable}
use Rattle.net_world.proofs.RunLaws.{opening_made}
use Rattle.grow_run.specs.Pings.{ping as ping_of, OfGrown}
use Rattle.node_io.specs.Sinks.{SinkState, Writes, FailsIn}
use Rattle.grow_run.specs.declared.growth.GrowingNetwork.{GrowingNetwork}

-- a network before its first event
abbrev start : WorldState
start = opening ring

-- some of n events were made, and the growth stands for what came of them
pub record Grows {S : Type 0} (stands : S → ServiceState) (ping : Host → Host → Chunk) (n : ℕ) (first : Lcg) (made : ℕ) (g : GrowingNetwork S) : Type 0 where
  pub events : List WorldEvent
  pub all : events ++ grown_events ping (n - made) g.words (world_after events (opening ring)) ≡ grown_events ping n first (opening ring)
  pub many : length events ≡ made
  pub fits : EventsFit One events
  pub world : WorldStands stands g.world (world_after events (opening ring))
  pub number : g.world.made ≡ made
  pub ledger : Stands (history_of events (opening ring)) g.ledger
  pub summary : g.summary ≡ summary_of (history_of events (opening ring))
  pub room : HasRoom ((50000 - made) * 2 ^ 64) g.summary

one_more : (ping : Host → Host → Chunk) (m : ℕ) (g after : Lcg) (w : WorldState) (e : WorldEvent) → (e, after) ≡ next_event ping g w → e ∷ grown_events ping m after (happens w e).world ≡ grown_events ping (suc m) g w
unfolding grown_events
one_more ping m g after w e is = ap (λ (p : WorldEvent × Lcg). p.0 ∷ grown_events ping m p.1 (happens w p.0).world) is

none_left : (ping : Host → Host → Chunk) (m : ℕ) (g : Lcg) (w : WorldState) → m ≡ 0 → grown_events ping m g w ≡ []
unfolding grown_events
none_left ping m g w is = ap (λ k. grown_events ping k g w) is

nothing_made : [] ≡ history_of [] start
unfolding history_of
nothing_made = refl

still_start : start ≡ world_after [] start
unfolding world_after
still_start = refl

module _ {S : Type 0} (stands : S → ServiceState) (ping : Host → Host → Chunk) (n : ℕ) (first : Lcg) where
  pub grows_none : (g : GrowingNetwork S) → g.words ≡ first → IsAtOpening stands g → Grows stands ping n first 0 g
  grows_none g words fresh = let all_left : n - 0 ≡ n = omega arith in let back = sym still_start in record {
    events = [];
    all = ap (λ k. grown_events ping k g.words (world_after [] start)) all_left ∙ (λ i. grown_events ping n (words i) (back i));
    many = refl;
    fits = All-nil (event_fits One);
    world = subst (WorldStands stands g.world) still_start fresh.world;
    number = fresh.world.is.made ∙ opening_made ring;
    ledger = subst (λ h. Stands h g.ledger) nothing_made fresh.ledger;
    summary = fresh.summary ∙ ap summary_of nothing_made;
    room = room_first g.summary ((50000 - 0) * 2 ^ 64) (omega arith) fresh.summary;
  }

  -- the lines of the next event can be counted
  pub grows_countable : (made : ℕ) (g : GrowingNetwork S) (e : WorldEvent) → Grows stands ping n first made g → made < 50000 → event_fits One e → IsCountable stands g.world e g.ledger
  grows_countable made g e grows few fits = record {
    state = world_after grows.events (opening ring);
    is = grows.world;
    fits = event_fits_ledger ring grows.events e g.ledger ring_keeps grows.fits fits (subst (λ k. k < 50000) (sym grows.many) few) grows.ledger;
  }

  -- there is room for the lines of the next event
  pub grows_room : (made : ℕ) (g : GrowingNetwork S) → Grows stands ping n first made g → made < 50000 → HasRoom (2 ^ 64) g.summary
  grows_room made g grows few = room_less g.summary ((50000 - made) * 2 ^ 64) (2 ^ 64) (omega (arith, few)) grows.room

  -- what the next event leaves is what its lines leave by the wire
  pub grows_leave : (made : ℕ) (g : GrowingNetwork S) (e : WorldEvent) (grows : Grows stands ping n first made g) → AllLeave (history_of grows.events (opening ring)) (world_after grows.events (opening ring)) e
  grows_leave made g e grows = λ f. opening_leaves f ring grows.events e ring_keeps grows.fits

  -- the network stays one of version 1
  pub grows_version : (made : ℕ) (g : GrowingNetwork S) → Grows stands ping n first made g → g.world.version ≡ One
  grows_version made g grows =
      let there : EventsFit (opening ring).version grows.events = subst (λ v. EventsFit v grows.events) (sym (opening_version ring)) grows.fits in
      grows.world.is.version ∙ run_version grows.events (opening ring) there (opening_sound ring ring_keeps) ∙ opening_version ring

  pub grows_next : (made : ℕ) (g new : GrowingNetwork S) (after : Lcg) (e : WorldEvent) (grows : Grows stands ping n first made g) → made < n → made < 50000
      → (e, after) ≡ next_event ping g.words (world_after grows.events (opening ring)) → new.words ≡ after → event_fits One e
      → WorldStands stands new.world (happens (world_after grows.events (opening ring)) e).world
      → new.world.made ≡ g.world.made + 1
      → Stands (history_of grows.events (opening ring) ++ entries (world_after grows.events (opening ring)) e) new.ledger
      → new.summary ≡ summary_of (history_of grows.events (opening ring) ++ entries (world_after grows.events (opening ring)) e)
      → ((m : ℕ) → HasRoom (m + 2 ^ 64) g.summary → HasRoom m new.summary)
      → Grows stands ping n first (made + 1) new
  grows_next made g new after e grows within few drawn words fits world number ledger summary room =
      let w = world_after grows.events (opening ring) in
      let left : suc (n - (made + 1)) ≡ n - made = omega (arith, within) in
      let pushed = world_after-push grows.events e (opening ring) in
      let history = history_of-push grows.events e (opening ring) in
      record {
        events = grows.events ++ e ∷ [];
        all = ap (λ x. (grows.events ++ e ∷ []) ++ grown_events ping (n - (made + 1)) new.words x) pushed
            ∙ append_assoc grows.events (e ∷ []) (grown_events ping (n - (made + 1)) new.words (happens w e).world)
            ∙ ap (λ x. grows.events ++ x) (one_more ping (n - (made + 1)) g.words new.words w e (ap (λ x. (e, x)) words ∙ drawn) ∙ ap (λ k. grown_events ping k g.words w) left)
            ∙ grows.all;
        many = omega (arith, length-append grows.events (e ∷ []), grows.many);
        fits = All-push (event_fits One) grows.events e grows.fits fits;
        world = subst (WorldStands stands new.world) (sym pushed) world;
        number = number ∙ ap (λ k. k + 1) grows.number;
        ledger = subst (λ h. Stands h new.ledger) (sym history) ledger;
        summary = summary ∙ ap summary_of (sym history);
        room = room ((50000 - (made + 1)) * 2 ^ 64) (room_less g.summary ((50000 - made) * 2 ^ 64) ((50000 - (made + 1)) * 2 ^ 64 + 2 ^ 64) (omega (arith, few)) grows.room);
      }

  all_made : (made : ℕ) (g : GrowingNetwork S) (grows : Grows stands ping n first made g) → n ≤ made → grows.events ≡ grown_events ping n first (opening ring)
  all_made made g grows done =
      let none : n - made ≡ 0 = omega (arith, done) in
      sym (append-nil grows.events) ∙ ap (λ x. grows.events ++ x) (sym (none_left ping (n - made) g.words (world_after grows.events (opening ring)) none)) ∙ grows.all

  -- all of them were made
  pub grows_all : (made : ℕ) (g : GrowingNetwork S) → Grows stands ping n first made g → n ≤ made → HasMade ping n first g
  grows_all made g grows done = let all = all_made made g grows done in record {
    ledger = subst (λ es. Stands (history_of es (opening ring)) g.ledger) all grows.ledger;
    summary = grows.summary ∙ ap (λ es. summary_of (history_of es (opening ring))) all;
    fits = subst (EventsFit One) all grows.fits;
  }

-- what is written of a network whose pings have the program that was read
pub output_is : (seed n : ℕ) (code : Program) → grown_text seed n (history_of (Grow (ping_of code) seed n) (opening ring)) (world_after (Grow (ping_of code) seed n) (opening ring)) ≡ GrowText (ping_of code) seed n
unfolding GrowText
output_is seed n code = refl

-- the summary that was made was written, or a prefix of it
pub grown_written : (seed n : ℕ) (text slice : List ℕ) (a b : SinkState) → OfGrown seed n (λ whole. text ≡ whole) → slice ≡ text → Writes a b slice → OfGrown seed n (Writes a b)
grown_written seed n text slice a b g e w = record { code = g.code; reads = g.reads; is = subst (Writes a b) (e ∙ g.is) w }

pub grown_cut : (seed n : ℕ) (text slice : List ℕ) (a b : SinkState) → OfGrown seed n (λ whole. text ≡ whole) → slice ≡ text → FailsIn a b slice → OfGrown seed n (FailsIn a b)
grown_cut seed n text slice a b g e f = record { code = g.code; reads = g.reads; is = subst (FailsIn a b) (e ∙ g.is) f }
