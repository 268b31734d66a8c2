-- The forms of a frame: what stands behind the kind, one field after another.
use Rattle.std.specs.Prelude.{◌≡◌, ℕ, ◌≤◌, ◌<◌, ◌^◌, List, [], ◌∷◌, ◌++◌, length, Option, None, Ok}
use Rattle.std.specs.Int.{w32, w64, to_be_bytes}
use Rattle.containers.specs.Reading.{◌>>=◌}
use Rattle.plan_base.specs.Words.{IsName}
use Rattle.plan_base.specs.declared.tree.Chunk.{Chunk}
use Rattle.chunk_codec_spec.specs.Fields.{name_bytes}
use Rattle.chunk_codec_spec.specs.Values.{chunk_bytes}
use Rattle.chunk_codec_spec.specs.Spelling.{a_whole_chunk}
use Rattle.service_api.specs.Adverts.{RowsFit}
use Rattle.service_api.specs.declared.advert.AdvertRow.{AdvertRow}
use Rattle.packet_frame.specs.declared.frame.PlainFrame.{PlainFrame}
use Rattle.packet_frame.specs.declared.kind.Kind.{Kind}
use Rattle.packet_frame.specs.Bytes.{rows_bytes}
use Rattle.packet_frame.specs.Fields.{Reader, number, magic_at, version_at, kind_at, bound_at, route_at, carried_at, rows_at}

-- What can still be to read of a frame. Rows are still to come behind a host, so many; a kind stands behind this version.
pub data FrameItem : Type 0 where
  the_magic : FrameItem
  the_version : FrameItem
  the_kind : FrameItem
  a_host : FrameItem
  a_serial : FrameItem
  a_bound : FrameItem
  a_route : FrameItem
  a_carried_chunk : FrameItem
  some_rows : FrameItem
  rows_behind : Option ℕ → ℕ → FrameItem
  a_cost : FrameItem
  the_end : FrameItem
  either_version : FrameItem
  the_form : ℕ → FrameItem

-- a field: how it is read, how it is spelled, and what may be spelled
pub record Field (A : Type 0) : Type 1 where
  pub item : FrameItem
  pub read : Reader A
  pub bytes : A → List ℕ
  pub Fits : A → Type 0

infixr 20 ◌&◌
pub data Fields : Type 1 where
  done : Fields
  ◌&◌ : {A : Type 0} → Field A → Fields → Fields

-- what the fields hold, one by one
abbrev pub FieldValues : Fields → Type 0
FieldValues done = Unit {0}
FieldValues (◌&◌ {A} p ps) = A × FieldValues ps

-- the fields read one after another, and what is made of them
abbrev pub reads : {B : Type 0} → (ps : Fields) → (FieldValues ps → B) → Reader B
reads done build s = Ok (build tt, s)
reads (p & ps) build s = p.read s >>= λ x. reads ps (λ xs. build (x.0, xs)) x.1

abbrev pub bytes_of_fields : (ps : Fields) → FieldValues ps → List ℕ
bytes_of_fields done xs = []
bytes_of_fields (p & ps) xs = p.bytes xs.0 ++ bytes_of_fields ps xs.1

abbrev pub AllFit : (ps : Fields) → FieldValues ps → Type 0
AllFit done xs = Unit {0}
AllFit (p & ps) xs = p.Fits xs.0 × AllFit ps xs.1

-- the fields put before what was still to read
abbrev pub items_of_fields : Fields → List FrameItem → List FrameItem
items_of_fields done more = more
items_of_fields (p & ps) more = p.item ∷ items_of_fields ps more

abbrev pub host_field : Field ℕ
host_field = record { item = a_host; read = number w32; bytes = to_be_bytes w32; Fits = λ n. n < 2 ^ 32 }

abbrev pub serial_field : Field ℕ
serial_field = record { item = a_serial; read = number w64; bytes = to_be_bytes w64; Fits = λ n. n < 2 ^ 64 }

abbrev pub bound_field : Field ℕ
bound_field = record { item = a_bound; read = bound_at; bytes = to_be_bytes w32; Fits = λ n. n ≤ 65535 }

abbrev pub route_field : Field (List ℕ)
route_field = record { item = a_route; read = route_at; bytes = name_bytes; Fits = IsName }

abbrev pub chunk_field : Field Chunk
chunk_field = record { item = a_carried_chunk; read = carried_at; bytes = chunk_bytes; Fits = a_whole_chunk.Fits }

abbrev pub rows_field : Field (List AdvertRow)
rows_field = record { item = some_rows; read = rows_at; bytes = rows_bytes; Fits = λ rows. (length rows ≤ 32) × RowsFit None rows }

-- what stands behind each kind
abbrev pub forms : Kind → Fields
forms Kind.Packet = host_field & serial_field & host_field & bound_field & route_field & chunk_field & done
forms Kind.Advert = host_field & rows_field & done
forms Kind.Ask = bound_field & chunk_field & done

abbrev pub frame_of_fields : (k : Kind) → FieldValues (forms k) → PlainFrame
frame_of_fields Kind.Packet xs = PlainFrame.Packet (record {
  family = record { source = record { 0 = xs.0 }; serial = xs.1.0 };
  dest = record { 0 = xs.1.1.0 };
  bound = xs.1.1.1.0;
  route = xs.1.1.1.1.0;
  chunk = xs.1.1.1.1.1.0;
  handler = None;
})
frame_of_fields Kind.Advert xs = PlainFrame.Advert (record { host = record { 0 = xs.0 }; rows = xs.1.0 })
frame_of_fields Kind.Ask xs = PlainFrame.Ask xs.0 xs.1.0

-- the fields that a frame has
abbrev pub fields_of : PlainFrame → (k : Kind) × FieldValues (forms k)
fields_of (PlainFrame.Packet p) = (Kind.Packet, (p.family.source.0, (p.family.serial, (p.dest.0, (p.bound, (p.route, (p.chunk, tt)))))))
fields_of (PlainFrame.Advert a) = (Kind.Advert, (a.host.0, (a.rows, tt)))
fields_of (PlainFrame.Ask bound c) = (Kind.Ask, (bound, (c, tt)))

-- a frame keeps the limits of its fields
abbrev pub FrameFits : PlainFrame → Type 0
FrameFits x = AllFit (forms (fields_of x).0) (fields_of x).1

-- a frame that version 1 can carry: a packet without a handler, and all else
abbrev pub IsPlain : PlainFrame → Type 0
IsPlain (PlainFrame.Packet p) = p.handler ≡ None
IsPlain _ = Unit {0}

-- a frame and what is behind it
unfoldable pub frame_at : Reader PlainFrame
frame_at s = do
  m ← magic_at s
  v ← version_at m.1
  k ← kind_at v.1
  reads (forms k.0) (frame_of_fields k.0) k.1
