-- The bytes of a frame: the letters PLAN, the version 1, the kind, and by kind its fields in order.
use Rattle.std.specs.Prelude.{ℕ, List, [], ◌∷◌, ◌++◌, length}
use Rattle.std.specs.List.{flat_map}
use Rattle.std.specs.Int.{w16, w32, w64, to_be_bytes}
use Rattle.plan_base.specs.declared.tree.Packet.{Packet}
use Rattle.chunk_codec_spec.specs.Fields.{name_bytes}
use Rattle.chunk_codec_spec.specs.Values.{chunk_bytes}
use Rattle.service_api.specs.declared.advert.AdvertRow.{AdvertRow}
use Rattle.packet_frame.specs.declared.frame.PlainFrame.{PlainFrame}

-- the letters PLAN as a number
abbrev pub letters : ℕ
letters = 1347174734

-- a row: a host, and the cost of the route to it
abbrev pub row_bytes : AdvertRow → List ℕ
row_bytes r = to_be_bytes w32 r.host.0 ++ to_be_bytes w32 r.cost

abbrev pub rows_bytes : List AdvertRow → List ℕ
rows_bytes rows = to_be_bytes w16 (length rows) ++ flat_map row_bytes rows

-- what every frame begins with
abbrev pub head_bytes : ℕ → List ℕ
head_bytes kind = to_be_bytes w32 letters ++ (1 ∷ kind ∷ [])

abbrev pub packet_bytes : Packet → List ℕ
packet_bytes p =
    to_be_bytes w32 p.family.source.0
    ++ (to_be_bytes w64 p.family.serial ++
    (to_be_bytes w32 p.dest.0 ++ (to_be_bytes w32 p.bound ++ (name_bytes p.route ++ chunk_bytes p.chunk))))

-- the spelling of a frame
unfoldable pub frame_bytes : PlainFrame → List ℕ
frame_bytes (PlainFrame.Packet p) = head_bytes 1 ++ packet_bytes p
frame_bytes (PlainFrame.Advert a) = head_bytes 2 ++ (to_be_bytes w32 a.host.0 ++ rows_bytes a.rows)
frame_bytes (PlainFrame.Ask bound c) = head_bytes 3 ++ (to_be_bytes w32 bound ++ chunk_bytes c)
