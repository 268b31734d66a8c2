-- The act of a frame that isn't queued, by its device.
use Rattle.std.specs.Prelude.{Option, Some, None, if◌then◌else◌}
use Rattle.node_core_spec.specs.declared.acts.Act.{Act}
use Rattle.node_core_spec.specs.declared.acts.TxQueue.{TxQueue}
use Rattle.node_core_spec.specs.Node.{lane_room}

-- where the device has room, its numbers are spent
abbrev pub drop_by : Option TxQueue → Act → Act → Act
drop_by None dropped spent = dropped
drop_by (Some lane) dropped spent = if lane_room lane then spent else dropped
