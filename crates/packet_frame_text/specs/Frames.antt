-- What a frame says, in words.
use Rattle.std.specs.Prelude.{ℕ, List, [], ◌++◌, Option, Some, None, codes}
use Rattle.std.specs.Fmt.{decimal}
use Rattle.std.specs.List.{flat_map}
use Rattle.plan_base.specs.declared.stamp.Stamp.{Stamp}
use Rattle.plan_base.specs.declared.name.Name.{Name}
use Rattle.plan_base.specs.declared.tree.Chunk.{Chunk}
use Rattle.plan_base.specs.declared.tree.Packet.{Packet}
use Rattle.plan_printer_spec.specs.Pieces.{commas}
use Rattle.plan_printer_spec.specs.Printed.{value_text, program_text}
use Rattle.service_api.specs.declared.advert.AdvertRow.{AdvertRow}
use Rattle.packet_frame.specs.declared.frame.PlainFrame.{PlainFrame}
use Rattle.packet_frame.specs.declared.frame.PlainStamped.{PlainStamped}

-- the call that a chunk stands for, and its program
abbrev pub chunk_text : Chunk → List ℕ
chunk_text c = codes "|" ++ c.entry ++ codes "|(" ++ commas value_text c.args ++ codes ")\n" ++ program_text c.code

-- what a packet's line says before its routing function: its family, its destination and its bound
unfoldable pub packet_head : ℕ → ℕ → ℕ → ℕ → List ℕ
packet_head source serial dest bound =
    codes "packet "
    ++ (decimal source ++
    (codes "." ++
    (decimal serial ++ (codes " dest @" ++ (decimal dest ++ (codes " bound " ++ (decimal bound ++ codes " route ")))))))

-- what the first line says of a stamp, if the frame bears one
abbrev pub stamp_text : Option Stamp → List ℕ
stamp_text None = []
stamp_text (Some s) = codes " boot " ++ (decimal s.boot ++ (codes " link " ++ decimal s.link))

-- what it says of a handler, if the packet has one
abbrev pub handler_text : Option Name → List ℕ
handler_text None = []
handler_text (Some n) = codes " handler " ++ n

-- the line of a packet
abbrev pub packet_line : Option Stamp → Packet → List ℕ
packet_line stamp p = packet_head p.family.source.0 p.family.serial p.dest.0 p.bound ++ p.route ++ stamp_text stamp ++ handler_text p.handler ++ codes "\n"

-- the line of a row of an advert: a host and the cost of the route to it
abbrev pub row_line : AdvertRow → List ℕ
row_line r = codes "@" ++ decimal r.host.0 ++ codes " " ++ decimal r.cost ++ codes "\n"

-- what a frame with this stamp says
abbrev pub text_with : Option Stamp → PlainFrame → List ℕ
text_with stamp (PlainFrame.Packet p) = packet_line stamp p ++ chunk_text p.chunk
text_with stamp (PlainFrame.Advert a) = codes "advert @" ++ decimal a.host.0 ++ stamp_text stamp ++ codes "\n" ++ flat_map row_line a.rows
text_with stamp (PlainFrame.Ask bound c) = codes "ask bound " ++ decimal bound ++ codes "\n" ++ chunk_text c

-- what a frame says
unfoldable pub frame_text : PlainStamped → List ℕ
frame_text x = text_with x.stamp x.frame
