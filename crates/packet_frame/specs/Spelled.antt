-- A frame on its way: what it holds, its stamp, and what may leave a node.
use Rattle.std.specs.Prelude.{◌≡◌, ℕ, Bool, true, false, Option, None, Some}
use Rattle.plan_base.specs.declared.stamp.Stamp.{Stamp}
use Rattle.plan_base.specs.declared.stamp.Version.{Version}
use Rattle.plan_base.specs.declared.stamp.Version.TheVariants.{One, Two}
use Rattle.plan_base.specs.declared.name.Name.{Name}
use Rattle.plan_base.specs.declared.tree.Packet.{Packet}
use Rattle.service_api.specs.Adverts.{AdvertFits}
use Rattle.packet_frame.specs.declared.frame.PlainFrame.{PlainFrame}
use Rattle.packet_frame.specs.declared.frame.PlainStamped.{PlainStamped}
use Rattle.packet_frame.specs.declared.spelled.What.{What}
use Rattle.packet_frame.specs.declared.spelled.What.TheVariants as what

-- what a frame holds; no ask is ever on its way
abbrev pub what_of : PlainFrame → What
what_of (PlainFrame.Packet p) = what.Packet p.family p.bound
what_of _ = what.Advert

-- a packet or an advert
abbrev pub IsOnItsWay : PlainFrame → Type 0
IsOnItsWay (PlainFrame.Ask bound chunk) = ⊥
IsOnItsWay _ = Unit {0}

abbrev pub stamp_with : ℕ → Option Stamp → Option Stamp
stamp_with n None = None
stamp_with n (Some s) = Some (record { boot = s.boot; link = n })

-- the frame with this number, where it bears a stamp
abbrev pub numbered_frame : ℕ → PlainStamped → PlainStamped
numbered_frame n x = record { stamp = stamp_with n x.stamp; frame = x.frame }

-- whether a frame bears a stamp
abbrev pub is_stamped : Option Stamp → Bool
is_stamped None = false
is_stamped (Some s) = true

-- the version of the frames that bear a stamp, or none
abbrev pub version_of : Option Stamp → Version
version_of None = One
version_of (Some s) = Two

-- a packet without a stamp has no handler
abbrev pub MayCarry : Option Stamp → Option Name → Type 0
MayCarry None handler = handler ≡ None
MayCarry (Some s) handler = Unit {0}

-- what may leave a node with this stamp, or none: a packet, or an advert that keeps its limits
abbrev pub MayLeave : Option Stamp → PlainFrame → Type 0
MayLeave mark (PlainFrame.Packet p) = MayCarry mark p.handler
MayLeave mark (PlainFrame.Advert a) = AdvertFits a
MayLeave mark (PlainFrame.Ask bound chunk) = ⊥

-- the frame of a packet with another bound
abbrev pub packet_frame : Option Stamp → Packet → ℕ → PlainStamped
packet_frame mark p bound = record { stamp = mark; frame = PlainFrame.Packet (record p { bound = bound }) }
