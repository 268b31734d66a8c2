-- Which choices are events, what is drawn for the next event, and what happened after some of them.
use Rattle.std.specs.Prelude.{ℕ, ◌≤◌, List}
use Rattle.rand_pcg.specs.Lcg.{Lcg}
use Rattle.plan_base.specs.declared.ids.Host.{Host}
use Rattle.plan_base.specs.declared.tree.Chunk.{Chunk}
use Rattle.network_config.specs.declared.event.WorldEvent.{WorldEvent}
use Rattle.grow_run.specs.declared.choice.RandomEvent.{RandomEvent}
use Rattle.grow_run.specs.declared.choice.RandomEvent.TheVariants.{Send}
use Rattle.net_world_spec.specs.World.{WorldState, history_of, opening}
use Rattle.net_world_spec.specs.declared.lines.Entry.{Entry}
use Rattle.grow_run.specs.Grow.{event_of, drawn_choice, ring, grown_events}

-- a device is at most 8
abbrev pub choice_fits : RandomEvent → Type 0
choice_fits (Send h d) = d.0 ≤ 8
choice_fits _ = Unit {0}

-- the event that is drawn for a network, and the generator after it
abbrev pub drawn_event : (Host → Host → Chunk) → Lcg → WorldState → WorldEvent × Lcg
drawn_event ping g w = (event_of ping (drawn_choice g w).0, (drawn_choice g w).1)

-- the history of the ring after so many events that a generator draws
abbrev pub grown_history : (Host → Host → Chunk) → ℕ → Lcg → List Entry
grown_history ping n words = history_of (grown_events ping n words (opening ring)) (opening ring)
