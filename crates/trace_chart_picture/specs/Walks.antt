-- How the lines of a trace are gone through: their rows and columns, and the ways of frames by their numbers.
use Rattle.std.specs.Prelude.{ℕ, ◌+◌, ◌==◌, ◌&&◌, min, not, Bool, true, false, if◌then◌else◌, nat_lt, List, [], ◌∷◌, ◌++◌, length, Option, Some, None}
use Rattle.std.specs.List.{slice_get, slice_set}
use Rattle.trace_chart_picture.specs.declared.line.What.{What}
use Rattle.trace_chart_picture.specs.declared.line.What.TheVariants as what
use Rattle.trace_chart_picture.specs.declared.line.Line.{Line}
use Rattle.trace_chart_picture.specs.declared.line.Line.TheVariants.{Arrived, Sent, Wire, WireShown, Off, Again, Lost, LostAdvert}
use Rattle.trace_chart_picture.specs.declared.line.Entry.{Entry}
use Rattle.trace_chart_picture.specs.Lines.{host_of}
use Rattle.trace_chart_picture.specs.declared.drawing.LineStyle.{LineStyle}
use Rattle.trace_chart_picture.specs.declared.drawing.LineStyle.TheVariants as stroke
use Rattle.trace_chart_picture.specs.declared.walk.Journey.{Journey}
use Rattle.trace_chart_picture.specs.declared.walk.TraceLink.{TraceLink}
use Rattle.trace_chart_picture.specs.declared.walk.LinePlace.{LinePlace}
use Rattle.trace_chart_picture.specs.declared.walk.TraceWalk.{TraceWalk}
use Rattle.trace_chart_picture.specs.Hosts.{column, host_column}

-- a line takes a row of its own; a frame that leaves its queue shares one with its line on the wire
abbrev pub takes_row : Line → Bool
takes_row (Sent h d x) = false
takes_row (Wire number) = false
takes_row (WireShown number hex) = false
takes_row (Off number) = false
takes_row _ = true

abbrev pub stroke_of : What → LineStyle
stroke_of (what.Packet f) = stroke.Packet
stroke_of what.Advert = stroke.Advert

-- a frame has neither come out nor been lost
abbrev pub is_open : LineStyle → Bool
is_open stroke.Open = true
is_open _ = false

-- one place on, or this one where a frame of the number stands here
abbrev pub later_or_here : Option ℕ → Bool → Option ℕ
later_or_here (Some i) here = Some (i + 1)
later_or_here None true = Some 0
later_or_here None false = None

-- the place of the last frame of a number, among those whose lines on the wire are there
abbrev pub frame_of : ℕ → List Journey → Option ℕ
frame_of number [] = None
frame_of number (j ∷ js) = later_or_here (frame_of number js) (j.number == number)

-- where the frames of a device come out, by the first link that says so
abbrev pub far_end : ℕ → ℕ → List TraceLink → Option ℕ
far_end across device [] = None
far_end across device (l ∷ ls) = if (l.across == across) && (l.device == device) then Some l.far else far_end across device ls

-- no line yet
abbrev pub start : TraceWalk
start = record {
  places = [];
  journeys = [];
  links = [];
  row = 0;
  event = 0;
  is_row_used = false;
  sender = 0;
  device = 0;
  what = stroke.Advert;
  is_off = false;
  taken = None;
}

abbrev pub next : ℕ → ℕ
next row = min (row + 1) 4294967295

abbrev pub next_row : TraceWalk → TraceWalk
next_row s = record s { row = next s.row; is_row_used = false }

-- another event begins
abbrev pub begins : ℕ → TraceWalk → Bool
begins event s = not (event == s.event)

-- an event that sent nothing so far, and took nothing off the wire
abbrev pub opened : ℕ → TraceWalk → TraceWalk
opened event s = record s { event = event; sender = 0; device = 0; what = stroke.Advert; is_off = false; taken = None }

-- the row where an event begins
abbrev pub begin : ℕ → TraceWalk → TraceWalk
begin event s = if event == s.event then s else next_row (opened event s)

-- the first free row
abbrev pub free_row : TraceWalk → TraceWalk
free_row s = if s.is_row_used then next_row s else s

abbrev pub take_row : Line → TraceWalk → TraceWalk
take_row l s = if takes_row l then record (free_row s) { is_row_used = true } else s

-- a place in this row, about a frame
abbrev pub here : ℕ → Option ℕ → TraceWalk → LinePlace
here across frame s = record { at = record { across = across; row = s.row }; begins = false; is_off = s.is_off; frame = frame }

-- a link that is seen for the first time
abbrev pub new_link : Option ℕ → TraceLink → List TraceLink → List TraceLink
new_link (Some far) l ls = ls
new_link None l ls = if nat_lt (length ls) 1024 then ls ++ l ∷ [] else ls

abbrev pub add_link : ℕ → ℕ → ℕ → TraceWalk → TraceWalk
add_link across device far s = record s { links = new_link (far_end across device s.links) (record { across = across; device = device; far = far }) s.links }

-- a frame goes onto the wire from where this event sent it, from the margin where no line says so
abbrev pub set_off_place : TraceWalk → LinePlace
set_off_place s = here s.sender (Some (length s.journeys)) s

abbrev pub set_off : ℕ → TraceWalk → TraceWalk
set_off number s =
    record s {
      journeys = s.journeys ++ record {
        number = number;
        from = record { across = s.sender; row = s.row };
        to = record { across = s.sender; row = next s.row };
        device = s.device;
        what = s.what;
        stroke = stroke.Open;
      } ∷ [];
    }

-- the way of a frame at a place among those on the wire
abbrev pub journey_at : Option ℕ → TraceWalk → Option Journey
journey_at None s = None
journey_at (Some i) s = slice_get s.journeys i

-- the frame that left the wire
abbrev pub taken_journey : TraceWalk → Option Journey
taken_journey s = journey_at s.taken s

abbrev pub set_at : Option ℕ → Journey → List Journey → List Journey
set_at None j js = js
set_at (Some i) j js = if nat_lt i (length js) then slice_set js i j else js

abbrev pub set_taken : Journey → TraceWalk → TraceWalk
set_taken j s = record s { journeys = set_at s.taken j s.journeys }

-- an arrow ends where its frame comes out
abbrev pub come_to : Journey → ℕ → TraceWalk → TraceWalk
come_to j across s = set_taken (record j { to = record { across = across; row = s.row }; stroke = j.what }) s

-- and both ends of the link are known, unless the frame came from the margin
abbrev pub arrive : Journey → ℕ → ℕ → TraceWalk → TraceWalk
arrive j across device s =
    if j.from.across == 0 then come_to j across s else
    add_link across device j.from.across (add_link j.from.across j.device across (come_to j across s))

-- a frame that is on its way comes out; one that came out before, or that isn't known, changes nothing
abbrev pub come_out_by : Option Journey → ℕ → ℕ → TraceWalk → TraceWalk
come_out_by None across device s = s
come_out_by (Some j) across device s = if is_open j.stroke then arrive j across device s else s

abbrev pub come_out : ℕ → ℕ → TraceWalk → TraceWalk
come_out across device s = come_out_by (taken_journey s) across device s

-- a loss stands on the arrow of its frame; where that came out before, where it would have come out again
abbrev pub loss_place_by : Option Journey → TraceWalk → LinePlace
loss_place_by None s = here 0 s.taken s
loss_place_by (Some j) s = if is_open j.stroke then here 0 s.taken s else here j.to.across None s

abbrev pub loss_place : TraceWalk → LinePlace
loss_place s = loss_place_by (taken_journey s) s

-- an arrow ends in a cross where its frame is lost before it came out
abbrev pub lose_by : Option Journey → TraceWalk → TraceWalk
lose_by None s = s
lose_by (Some j) s = if is_open j.stroke then set_taken (record j { to = record { across = 0; row = s.row }; stroke = stroke.Lost }) s else s

abbrev pub vanish : TraceWalk → TraceWalk
vanish s = record (next_row (lose_by (taken_journey s) s)) { is_row_used = true }

abbrev pub leave : ℕ → ℕ → What → TraceWalk → TraceWalk
leave across device x s = record s { sender = across; device = device; what = stroke_of x }

-- the frame of this number is taken off the wire, or comes out and stays there
abbrev pub take_off : ℕ → TraceWalk → TraceWalk
take_off number s = record s { is_off = true; taken = frame_of number s.journeys }

abbrev pub from_by : Option Journey → ℕ
from_by None = 0
from_by (Some j) = j.from.across

abbrev pub taken_from : TraceWalk → ℕ
taken_from s = from_by (taken_journey s)

-- what a line says of frames
abbrev pub go_by : List ℕ → Line → TraceWalk → TraceWalk
go_by hosts (Sent h d x) s = leave (column hosts h.0) d.0 x s
go_by hosts (Wire number) s = set_off number s
go_by hosts (WireShown number hex) s = set_off number s
go_by hosts (Off number) s = take_off number s
go_by hosts (Again number) s = take_off number s
go_by hosts (Arrived h d) s = come_out (column hosts h.0) d.0 s
go_by hosts (Lost f bound) s = vanish s
go_by hosts LostAdvert s = vanish s
go_by hosts _ s = s

-- where a line stands
abbrev pub place_of : List ℕ → Line → TraceWalk → LinePlace
place_of hosts (Wire number) s = set_off_place s
place_of hosts (WireShown number hex) s = set_off_place s
place_of hosts (Off number) s = here 0 None (take_off number s)
place_of hosts (Again number) s = here (taken_from (take_off number s)) None (take_off number s)
place_of hosts (Arrived h d) s = here (column hosts h.0) s.taken s
place_of hosts (Lost f bound) s = loss_place s
place_of hosts LostAdvert s = loss_place s
place_of hosts l s = here (host_column hosts (host_of l)) None s

-- a place is added for each line
abbrev pub add_place : LinePlace → TraceWalk → TraceWalk
add_place p s = record s { places = s.places ++ p ∷ [] }

-- in the row of a line
abbrev pub row_of : Entry → TraceWalk → TraceWalk
row_of e s = take_row e.line (begin e.event s)

abbrev pub step : List ℕ → Entry → TraceWalk → TraceWalk
step hosts e s = add_place (record (place_of hosts e.line (row_of e s)) { begins = begins e.event s }) (go_by hosts e.line (row_of e s))

-- all lines
abbrev pub go : List ℕ → List Entry → TraceWalk → TraceWalk
go hosts [] s = s
go hosts (e ∷ es) s = go hosts es (step hosts e s)
