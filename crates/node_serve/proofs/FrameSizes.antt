-- The bytes of a frame may arrive.
use Rattle.std.proofs.Common.{ℕ, ◌≤◌, List, [], ◌∷◌, ◌++◌, length, length-append, Option, Some, None, ap, arith}
use Rattle.std.specs.Int.{w32, w64, to_be_bytes}
use Rattle.wire_bytes.specs.Fields.{IsBytes}
use Rattle.plan_base.specs.declared.name.Name.{Name}
use Rattle.plan_base.specs.declared.stamp.Stamp.{Stamp}
use Rattle.plan_base.specs.declared.stamp.Version.{Version}
use Rattle.network_config.specs.Rules.{MayArrive}
use Rattle.chunk_codec_spec.specs.Values.{chunk_bytes}
use Rattle.packet_frame.specs.declared.frame.PlainFrame.{PlainFrame}
use Rattle.packet_frame.specs.declared.frame.PlainStamped.{PlainStamped}
use Rattle.packet_frame.specs.Bytes.{letters, head_bytes, packet_bytes, rows_bytes, frame_bytes}
use Rattle.packet_frame.specs.Stamped.{stamped_head, handled_bytes, packet_with, bytes_with, stamped_bytes, AcceptsBy}

front_some : (xs ys : List ℕ) → 1 ≤ length xs → 1 ≤ length (xs ++ ys)
front_some xs ys h = omega (arith, h, length-append xs ys)

back_some : (xs ys : List ℕ) → 1 ≤ length ys → 1 ≤ length (xs ++ ys)
back_some xs ys h = omega (arith, h, length-append xs ys)

head_has_bytes : (kind : ℕ) (rest : List ℕ) → 1 ≤ length (head_bytes kind ++ rest)
head_has_bytes kind rest = front_some (head_bytes kind) rest (back_some (to_be_bytes w32 letters) (1 ∷ kind ∷ []) (omega arith))

some_plain : (x : PlainFrame) → 1 ≤ length (frame_bytes x)
unfolding frame_bytes
some_plain (PlainFrame.Packet p) = head_has_bytes 1 (packet_bytes p)
some_plain (PlainFrame.Advert a) = head_has_bytes 2 (to_be_bytes w32 a.host.0 ++ rows_bytes a.rows)
some_plain (PlainFrame.Ask bound c) = head_has_bytes 3 (to_be_bytes w32 bound ++ chunk_bytes c)

stamp_has_bytes : (kind : ℕ) (s : Stamp) (rest : List ℕ) → 1 ≤ length (stamped_head kind s ++ rest)
stamp_has_bytes kind s rest =
    front_some (stamped_head kind s) rest (front_some (to_be_bytes w32 letters ++ (2 ∷ kind ∷ [])) (to_be_bytes w64 s.boot ++ to_be_bytes w64 s.link)
    (back_some (to_be_bytes w32 letters) (2 ∷ kind ∷ []) (omega arith)))

some_bytes : (o : Option Stamp) (x : PlainFrame) → 1 ≤ length (bytes_with o x)
some_bytes None x = some_plain x
some_bytes (Some s) (PlainFrame.Packet p) = by p.handler
  where
    by : (h : Option Name) → 1 ≤ length (packet_with s p h)
    by None = stamp_has_bytes 1 s (packet_bytes p)
    by (Some n) = stamp_has_bytes 4 s (handled_bytes p n)
some_bytes (Some s) (PlainFrame.Advert a) = stamp_has_bytes 2 s (to_be_bytes w32 a.host.0 ++ rows_bytes a.rows)
some_bytes (Some s) (PlainFrame.Ask bound c) = some_plain (PlainFrame.Ask bound c)

pub frame_arrives : (v : Version) (bytes : List ℕ) (x : PlainStamped) → AcceptsBy v bytes x → IsBytes bytes → MayArrive bytes
unfolding stamped_bytes
frame_arrives v bytes x a b = record {
  some = omega (arith, some_bytes x.stamp x.frame, ap length a.is);
  few = omega (arith, a.short);
  are_bytes = b;
}
