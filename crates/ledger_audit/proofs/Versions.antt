-- How the bytes of a frame on its way begin gives its version.
use Rattle.std.proofs.Common.{◌≡◌, ℕ, List, Option, Some, None, refl, ap, ◌∙◌}
use Rattle.plan_base.specs.declared.stamp.Stamp.{Stamp}
use Rattle.plan_base.specs.declared.stamp.Version.{Version}
use Rattle.plan_base.specs.declared.stamp.Version.TheVariants.{One, Two}
use Rattle.plan_base.specs.declared.name.Name.{Name}
use Rattle.packet_frame.specs.Bytes.{frame_bytes}
use Rattle.packet_frame.specs.declared.frame.PlainFrame.{PlainFrame}
use Rattle.packet_frame.specs.declared.frame.PlainStamped.{PlainStamped}
use Rattle.packet_frame.specs.Stamped.{packet_with, bytes_with, stamped_bytes, IsReadBy, AcceptsBy}
use Rattle.packet_frame.specs.Spelled.{IsOnItsWay}
use Rattle.ledger_audit.specs.Audits.{version_in}

pub told_plain : (x : PlainFrame) → version_in (frame_bytes x) ≡ One
unfolding frame_bytes
told_plain (PlainFrame.Packet p) = refl
told_plain (PlainFrame.Advert a) = refl
told_plain (PlainFrame.Ask bound c) = refl

told_stamped : (s : Stamp) (x : PlainFrame) → IsOnItsWay x → version_in (bytes_with (Some s) x) ≡ Two
told_stamped s (PlainFrame.Packet p) w = by p.handler
  where
    by : (o : Option Name) → version_in (packet_with s p o) ≡ Two
    by None = refl
    by (Some n) = refl
told_stamped s (PlainFrame.Advert a) w = refl
told_stamped s (PlainFrame.Ask bound c) w = absurd w

stamp_told : (v : Version) (o : Option Stamp) (x : PlainFrame) → IsReadBy v (record { stamp = o; frame = x }) → IsOnItsWay x → version_in (stamped_bytes (record { stamp = o; frame = x })) ≡ v
unfolding stamped_bytes
stamp_told One None x r w = told_plain x
stamp_told One (Some s) x r w = let e : Some s ≡ None = r.0 in absurd cc
stamp_told Two None (PlainFrame.Packet p) r w = absurd r
stamp_told Two None (PlainFrame.Advert a) r w = absurd r
stamp_told Two None (PlainFrame.Ask bound c) r w = absurd w
stamp_told Two (Some s) x r w = told_stamped s x w

-- a frame that a node of a version accepts and that may be on its way is taken as one of that version
pub version_told : (v : Version) (bytes : List ℕ) (x : PlainStamped) → AcceptsBy v bytes x → IsOnItsWay x.frame → version_in bytes ≡ v
version_told v bytes x a w = ap version_in a.is ∙ stamp_told v x.stamp x.frame a.read w
