-- What a node of version 2 reads, field by field.
use Rattle.std.specs.Prelude.{ℕ, ◌==◌, ◌||◌, Option, Some, None, Result, Ok, Err, if◌then◌else◌}
use Rattle.std.specs.Int.{w8}
use Rattle.containers.specs.Reading.{◌>>=◌}
use Rattle.chunk_codec_spec.specs.Scan.{Scan}
use Rattle.packet_frame.specs.declared.fault.FrameFault.{FrameFault}
use Rattle.packet_frame.specs.declared.frame.PlainFrame.{PlainFrame}
use Rattle.packet_frame.specs.declared.frame.PlainStamped.{PlainStamped}
use Rattle.packet_frame.specs.declared.kind.Kind.{Kind}
use Rattle.packet_frame.specs.declared.kind.Form.{Form}
use Rattle.packet_frame.specs.Fields.{Reader, number, judged_field, magic_at}
use Rattle.packet_frame.specs.Forms.{Fields, done, ◌&◌, host_field, bound_field, route_field, chunk_field, Fields, ◌&◌, FieldValues, reads}
use Rattle.packet_frame.specs.Forms.{serial_field, forms, frame_of_fields}

-- ---- what a node of version 2 reads

-- the version, 1 or 2
unfoldable pub either_version_at : Reader ℕ
either_version_at s = do
  n ← number w8 s
  judged_field (n.0 == 1 || n.0 == 2) FrameFault.BadVersion n

-- the form of a version and a kind
abbrev pub form_of : ℕ → ℕ → Option Form
form_of v n =
    if v == 1 then (if n == 3 then Some Form.Ask else None) else if n == 1 then Some Form.Packet else if n == 2 then Some Form.Advert else
    if n == 4 then Some Form.Handled else None

abbrev pub known_form : Option Form → Scan → Result (Form × Scan) FrameFault
known_form (Some k) s = Ok (k, s)
known_form None s = Err FrameFault.BadKind

-- the kind, behind this version
unfoldable pub form_at : ℕ → Reader Form
form_at v s = do
  n ← number w8 s
  known_form (form_of v n.0) n.1

-- the fields of a packet with a handler
abbrev pub handled_fields : Fields
handled_fields = host_field & serial_field & host_field & bound_field & route_field & route_field & chunk_field & done

abbrev pub handled_of_fields : FieldValues handled_fields → PlainFrame
handled_of_fields xs = PlainFrame.Packet (record {
  family = record { source = record { 0 = xs.0 }; serial = xs.1.0 };
  dest = record { 0 = xs.1.1.0 };
  bound = xs.1.1.1.0;
  route = xs.1.1.1.1.0;
  chunk = xs.1.1.1.1.1.1.0;
  handler = Some xs.1.1.1.1.1.0;
})

-- what stands behind each form's kind: a stamp's two numbers, and then the fields of version 1
abbrev pub stamped_forms : Form → Fields
stamped_forms Form.Ask = forms Kind.Ask
stamped_forms Form.Packet = serial_field & (serial_field & forms Kind.Packet)
stamped_forms Form.Handled = serial_field & (serial_field & handled_fields)
stamped_forms Form.Advert = serial_field & (serial_field & forms Kind.Advert)

abbrev pub stamped_of_fields : (k : Form) → FieldValues (stamped_forms k) → PlainStamped
stamped_of_fields Form.Ask xs = record { stamp = None; frame = frame_of_fields Kind.Ask xs }
stamped_of_fields Form.Packet xs = record { stamp = Some (record { boot = xs.0; link = xs.1.0 }); frame = frame_of_fields Kind.Packet xs.1.1 }
stamped_of_fields Form.Handled xs = record { stamp = Some (record { boot = xs.0; link = xs.1.0 }); frame = handled_of_fields xs.1.1 }
stamped_of_fields Form.Advert xs = record { stamp = Some (record { boot = xs.0; link = xs.1.0 }); frame = frame_of_fields Kind.Advert xs.1.1 }

-- a frame of version 2 and what is behind it
unfoldable pub stamped_at : Reader PlainStamped
stamped_at s = do
  m ← magic_at s
  v ← either_version_at m.1
  k ← form_at v.0 v.1
  reads (stamped_forms k.0) (stamped_of_fields k.0) k.1
