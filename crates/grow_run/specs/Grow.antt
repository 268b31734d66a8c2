-- A network that grows by itself: its hosts and links, and each of its events.
use Rattle.std.specs.Prelude.{ℕ, zero, suc, ◌+◌, nat_lt, if◌then◌else◌, List, [], ◌∷◌, None}
use Rattle.plan_base.specs.declared.stamp.Version.TheVariants.{One}
use Rattle.rand_pcg.specs.Lcg.{Lcg}
use Rattle.plan_base.specs.declared.ids.Host.{Host}
use Rattle.plan_base.specs.declared.tree.Chunk.{Chunk}
use Rattle.network_config.specs.declared.schedule.Link.{Link}
use Rattle.network_config.specs.Hosts.{host_of, dev_of}
use Rattle.network_config.specs.declared.schedule.HostSpec.{HostSpec}
use Rattle.network_config.specs.declared.schedule.Topology.{Topology}
use Rattle.network_config.specs.declared.event.WorldEvent.{WorldEvent}
use Rattle.network_config.specs.declared.event.WorldEvent.TheVariants as event
use Rattle.grow_run.specs.declared.choice.RandomEvent.{RandomEvent}
use Rattle.grow_run.specs.declared.choice.RandomEvent.TheVariants as choice
use Rattle.grow_run.specs.Draws.{seeded_generator, choose}
use Rattle.net_world_spec.specs.Numbers.{lowest, highest}
use Rattle.net_world_spec.specs.World.{WorldState, happens, opening}

-- a host with all packages
abbrev pub whole_host : ℕ → HostSpec
whole_host n = record { host = host_of n; missing = [] }

-- device 1 of a host leads to device 2 of the next
abbrev pub ring_link : ℕ → ℕ → Link
ring_link n m = record { from = host_of n; from_dev = dev_of 1; to = host_of m; to_dev = dev_of 2 }

-- eight hosts in a ring, of version 1
abbrev pub ring : Topology
ring = record {
  hosts = whole_host 1 ∷ whole_host 2 ∷ whole_host 3 ∷ whole_host 4 ∷ whole_host 5 ∷ whole_host 6 ∷ whole_host 7 ∷ whole_host 8 ∷ [];
  links = ring_link 1 2 ∷ ring_link 2 3 ∷ ring_link 3 4 ∷ ring_link 4 5 ∷ ring_link 5 6 ∷ ring_link 6 7 ∷ ring_link 7 8 ∷ ring_link 8 1 ∷ [];
  version = One;
}

-- the event that was drawn; what is injected is the ping from one host to the other
abbrev pub event_of : (Host → Host → Chunk) → RandomEvent → WorldEvent
event_of ping (choice.Inject h g) = event.Inject h (ping h g) 20 None
event_of ping (choice.Send h d) = event.Send h d
event_of ping (choice.Deliver n) = event.Deliver n
event_of ping (choice.Lose n) = event.Lose n
event_of ping (choice.Tick h) = event.Tick h

-- what is drawn for the next event of a network
abbrev pub drawn_choice : Lcg → WorldState → RandomEvent × Lcg
drawn_choice g w = choose (lowest w.wire) (highest w.wire) g

-- the next event, and the generator after it: first each host ticks once, in order, with nothing drawn
abbrev pub next_event : (Host → Host → Chunk) → Lcg → WorldState → WorldEvent × Lcg
next_event ping g w = if nat_lt w.made 8 then (event.Tick (host_of (w.made + 1)), g) else (event_of ping (drawn_choice g w).0, (drawn_choice g w).1)

-- the next n events of a network
unfoldable pub grown_events : (Host → Host → Chunk) → ℕ → Lcg → WorldState → List WorldEvent
grown_events ping zero g w = []
grown_events ping (suc n) g w = (next_event ping g w).0 ∷ grown_events ping n (next_event ping g w).1 (happens w (next_event ping g w).0).world

-- the n events that a seed gives
abbrev pub Grow : (Host → Host → Chunk) → ℕ → ℕ → List WorldEvent
Grow ping seed n = grown_events ping n (seeded_generator seed) (opening ring)
