-- What the frames of a node may carry.
use Rattle.std.specs.Prelude.{◌≡◌, ◌≤◌, Option, None}
use Rattle.plan_base.specs.declared.stamp.Stamp.{Stamp}
use Rattle.plan_base.specs.declared.stamp.Version.{Version}
use Rattle.plan_base.specs.declared.stamp.Version.TheVariants.{One, Two}
use Rattle.packet_frame.specs.declared.frame.PlainFrame.{PlainFrame}
use Rattle.plan_meaning.specs.declared.sent.Sent.{Sent}
use Rattle.packet_frame.specs.Spelled.{MayCarry}

-- a packet that is sent may bear this mark
abbrev pub Carries : Option Stamp → Sent → Type 0
Carries m s = MayCarry m s.packet.handler

-- a packet that may go on from a node whose frames bear this
abbrev pub MayGoOn : Option Stamp → PlainFrame → Type 0
MayGoOn m (PlainFrame.Packet p) = MayCarry m p.handler
MayGoOn m _ = Unit {0}

-- the bound of an ask is at most 65,535
abbrev pub asks_within : PlainFrame → Type 0
asks_within (PlainFrame.Ask bound chunk) = bound ≤ 65535
asks_within _ = Unit {0}

-- what a frame that comes to a node of a version may bear: no stamp under version 1
abbrev pub MayBear : Version → Option Stamp → Type 0
MayBear One stamp = stamp ≡ None
MayBear Two stamp = Unit {0}
