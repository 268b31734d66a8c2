use Rattle.std.proofs.Common.{◌≡◌, length, take}
use Rattle.net_world_spec.specs.World.{world_after, history_of, opening}
use Rattle.net_world_spec.specs.Texts.{entries_text}
use Rattle.bound_ledger.specs.Stands.{Stands}
use Rattle.net_world.specs.Stands.{WorldStands}
use Rattle.net_world.specs.Printing.{IsWaiting}
use Rattle.net_world.proofs.runs.run_events.Given as goal

abbrev pub invariant-loop-event : goal.invariant-loop-event
invariant-loop-event g l = record {
  world : WorldStands g.S.Services.stands l.world (world_after (take (length l.yielded) l.fn.schedule.events) (opening l.fn.schedule.topology));
  ledger : Stands (history_of (take (length l.yielded) l.fn.schedule.events) (opening l.fn.schedule.topology)) l.ledger;
  made : l.world.made ≡ length l.yielded;
  waits : IsWaiting (g.K.Sink.state l.initial.out) (g.K.Sink.state l.out) l.text (entries_text l.fn.schedule.frames (history_of (take (length l.yielded) l.fn.schedule.events) (opening l.fn.schedule.topology)));
}
