-- All marks of a drawing lie inside the picture: what a walk over the lines keeps.
use Rattle.std.proofs.Common.{◌≡◌, ℕ, zero, suc, ◌+◌, ◌*◌, ◌-◌, ◌≤◌, Bool, true, false, if◌then◌else◌, eqb, ltb, List, [], ◌∷◌, ◌++◌, length, Some, None, refl, arith, slice_set}
use Rattle.std.specs.Prelude.{Option, slice_get, IfSome}
use Rattle.std.specs.List.{All}
use Rattle.std.proofs.lemmas.List.Elements.{All-nil, All-head, All-tail, All-push, All-set, All-weaker}
use Rattle.plan_base.specs.declared.ids.Host.{Host}
use Rattle.trace_chart_picture.specs.declared.drawing.Point.{Point}
use Rattle.trace_chart_picture.specs.declared.drawing.LineStyle.TheVariants as stroke
use Rattle.trace_chart_picture.specs.declared.line.What.{What}
use Rattle.trace_chart_picture.specs.declared.line.Line.{Line}
use Rattle.trace_chart_picture.specs.declared.line.Line.TheVariants.{Injected, Forged, Arrived, Asked, Printed, Delivered, Gave, Raised}
use Rattle.trace_chart_picture.specs.declared.line.Line.TheVariants.{Spent, Handled, Queued, Dropped, Refused, Advert, Heard, Ticked, Sent}
use Rattle.trace_chart_picture.specs.declared.line.Line.TheVariants.{Wire, WireShown, Off, Again, Lost, LostAdvert, Nothing}
use Rattle.trace_chart_picture.specs.declared.line.Entry.{Entry}
use Rattle.trace_chart_picture.specs.declared.walk.Journey.{Journey}
use Rattle.trace_chart_picture.specs.declared.walk.TraceLink.{TraceLink}
use Rattle.trace_chart_picture.specs.declared.walk.LinePlace.{LinePlace}
use Rattle.trace_chart_picture.specs.declared.walk.TraceWalk.{TraceWalk}
use Rattle.trace_chart_picture.specs.Hosts.{column, column_from, host_column}
use Rattle.trace_chart_picture.specs.Walks.{start, next, next_row, opened, begin, begins, free_row, takes_row, take_row, here, far_end, new_link, add_link, set_off, journey_at, taken_journey, set_at, set_taken}
use Rattle.trace_chart_picture.specs.Walks.{is_open, come_to, arrive, come_out_by, loss_place_by, lose_by, vanish, leave, take_off, from_by, go_by, place_of, add_place, row_of, step, go}

-- ---- columns

column_by : (t : Bool) (across x : ℕ) (xs : List ℕ) (h : ℕ) → eqb x h ≡ t
    → column_from (across + 2) xs h ≤ across + 2 + 2 * length xs - 2 → column_from across (x ∷ xs) h ≤ across + 2 * suc (length xs) - 2
column_by true across x xs h e l = rw e (omega arith)
column_by false across x xs h e l = rw e (omega (arith, l))

column_from_is : (across : ℕ) (hosts : List ℕ) (h : ℕ) → column_from across hosts h ≤ across + 2 * length hosts - 2
column_from_is across [] h = omega arith
column_from_is across (x ∷ xs) h = column_by (eqb x h) across x xs h refl (column_from_is (across + 2) xs h)

-- the last column of so many hosts
abbrev pub last : List ℕ → ℕ
last hosts = 1 + 2 * length hosts - 2

column_is : (hosts : List ℕ) (h : ℕ) → column hosts h ≤ last hosts
column_is hosts h = column_from_is 1 hosts h

host_column_is : (hosts : List ℕ) (h : Option Host) → host_column hosts h ≤ last hosts
host_column_is hosts None = omega arith
host_column_is hosts (Some h) = column_is hosts h.0

-- ---- what a walk keeps

abbrev pub IsIn : ℕ → ℕ → Point → Type 0
IsIn right bottom p = (p.across ≤ right) × (p.row ≤ bottom)

-- the way of a frame lies between the columns, and not below the row behind this one
pub record WayIn (right row : ℕ) (j : Journey) : Type 0 where
  pub from : IsIn right row j.from
  pub to : IsIn right (next row) j.to

pub record WalkIn (right : ℕ) (s : TraceWalk) : Type 0 where
  pub row : s.row ≤ 4294967295
  pub sender : s.sender ≤ right
  pub places : All (λ p. IsIn right s.row p.at) s.places
  pub ways : All (WayIn right s.row) s.journeys
  pub links : All (λ l. l.far ≤ right) s.links

lower : (right a b : ℕ) (p : Point) → a ≤ b → IsIn right a p → IsIn right b p
lower right a b p l k = (k.0, omega (arith, l, k.1))

way_lower : (right a b : ℕ) (j : Journey) → a ≤ b → WayIn right a j → WayIn right b j
way_lower right a b j l k = record { from = lower right a b j.from l k.from; to = lower right (next a) (next b) j.to (omega (arith, l)) k.to }

next_row_in : (right : ℕ) (s : TraceWalk) → WalkIn right s → WalkIn right (next_row s)
next_row_in right s k =
    let more : s.row ≤ next s.row = omega (arith, k.row) in
    record {
      row = omega arith;
      sender = k.sender;
      places = All-weaker (λ p. IsIn right s.row p.at) (λ p. IsIn right (next s.row) p.at) (λ p. lower right s.row (next s.row) p.at more) s.places k.places;
      ways = All-weaker (WayIn right s.row) (WayIn right (next s.row)) (λ j. way_lower right s.row (next s.row) j more) s.journeys k.ways;
      links = k.links;
    }

opened_in : (right event : ℕ) (s : TraceWalk) → WalkIn right s → WalkIn right (opened event s)
opened_in right event s k = record { row = k.row; sender = omega arith; places = k.places; ways = k.ways; links = k.links }

either_in : (right : ℕ) (b : Bool) (s t : TraceWalk) → WalkIn right s → WalkIn right t → WalkIn right (if b then s else t)
either_in right true s t j k = j
either_in right false s t j k = k

begin_in : (right event : ℕ) (s : TraceWalk) → WalkIn right s → WalkIn right (begin event s)
begin_in right event s k = either_in right (eqb event s.event) s (next_row (opened event s)) k (next_row_in right (opened event s) (opened_in right event s k))

free_in : (right : ℕ) (s : TraceWalk) → WalkIn right s → WalkIn right (free_row s)
free_in right s k = either_in right s.is_row_used (next_row s) s (next_row_in right s k) k

used_in : (right : ℕ) (s : TraceWalk) → WalkIn right s → WalkIn right (record s { is_row_used = true })
used_in right s k = record { row = k.row; sender = k.sender; places = k.places; ways = k.ways; links = k.links }

take_in : (right : ℕ) (l : Line) (s : TraceWalk) → WalkIn right s → WalkIn right (take_row l s)
take_in right l s k = either_in right (takes_row l) (record (free_row s) { is_row_used = true }) s (used_in right (free_row s) (free_in right s k)) k

-- ---- frames

way_at : (right row : ℕ) (ways : List Journey) (i : ℕ) → All (WayIn right row) ways → IfSome (slice_get ways i) (WayIn right row)
way_at right row [] i k = tt
way_at right row (j ∷ js) zero k = All-head (WayIn right row) j js k
way_at right row (j ∷ js) (suc i) k = way_at right row js i (All-tail (WayIn right row) j js k)

pub taken_by : (right : ℕ) (s : TraceWalk) (o : Option ℕ) → WalkIn right s → IfSome (journey_at o s) (WayIn right s.row)
taken_by right s None k = tt
taken_by right s (Some i) k = way_at right s.row s.journeys i k.ways

taken_in : (right : ℕ) (s : TraceWalk) → WalkIn right s → IfSome (taken_journey s) (WayIn right s.row)
taken_in right s k = taken_by right s s.taken k

set_by : (right row : ℕ) (b : Bool) (i : ℕ) (j : Journey) (js : List Journey) → WayIn right row j → All (WayIn right row) js
    → All (WayIn right row) (if b then slice_set js i j else js)
set_by right row true i j js a k = All-set (WayIn right row) js i j a k
set_by right row false i j js a k = k

set_at_in : (right row : ℕ) (o : Option ℕ) (j : Journey) (js : List Journey) → WayIn right row j → All (WayIn right row) js → All (WayIn right row) (set_at o j js)
set_at_in right row None j js a k = k
set_at_in right row (Some i) j js a k = set_by right row (ltb i (length js)) i j js a k

set_taken_in : (right : ℕ) (j : Journey) (s : TraceWalk) → WayIn right s.row j → WalkIn right s → WalkIn right (set_taken j s)
set_taken_in right j s a k =
    record { row = k.row; sender = k.sender; places = k.places; ways = set_at_in right s.row s.taken j s.journeys a k.ways; links = k.links }

new_link_by : (right : ℕ) (b : Bool) (l : TraceLink) (ls : List TraceLink) → l.far ≤ right → All (λ x. x.far ≤ right) ls
    → All (λ x. x.far ≤ right) (if b then ls ++ l ∷ [] else ls)
new_link_by right true l ls a k = All-push (λ x. x.far ≤ right) ls l k a
new_link_by right false l ls a k = k

new_link_in : (right : ℕ) (o : Option ℕ) (l : TraceLink) (ls : List TraceLink) → l.far ≤ right → All (λ x. x.far ≤ right) ls → All (λ x. x.far ≤ right) (new_link o l ls)
new_link_in right (Some far) l ls a k = k
new_link_in right None l ls a k = new_link_by right (ltb (length ls) 1024) l ls a k

add_link_in : (right across device far : ℕ) (s : TraceWalk) → far ≤ right → WalkIn right s → WalkIn right (add_link across device far s)
add_link_in right across device far s a k =
    record {
      row = k.row;
      sender = k.sender;
      places = k.places;
      ways = k.ways;
      links = new_link_in right (far_end across device s.links) (record { across = across; device = device; far = far }) s.links a k.links;
    }

come_to_in : (right : ℕ) (j : Journey) (across : ℕ) (s : TraceWalk) → across ≤ right → WayIn right s.row j → WalkIn right s → WalkIn right (come_to j across s)
come_to_in right j across s a w k =
    set_taken_in right (record j { to = record { across = across; row = s.row }; stroke = j.what }) s
    (record { from = w.from; to = (a, omega (arith, k.row)) }) k

arrive_in : (right : ℕ) (j : Journey) (across device : ℕ) (s : TraceWalk) → across ≤ right → WayIn right s.row j → WalkIn right s → WalkIn right (arrive j across device s)
arrive_in right j across device s a w k =
    let come : WalkIn right (come_to j across s) = come_to_in right j across s a w k in
    either_in right (eqb j.from.across 0) (come_to j across s) (add_link across device j.from.across (add_link j.from.across j.device across (come_to j across s))) come
    (add_link_in right across device j.from.across (add_link j.from.across j.device across (come_to j across s)) w.from.0
    (add_link_in right j.from.across j.device across (come_to j across s) a come))

come_out_in : (right : ℕ) (o : Option Journey) (across device : ℕ) (s : TraceWalk) → across ≤ right → IfSome o (WayIn right s.row) → WalkIn right s
    → WalkIn right (come_out_by o across device s)
come_out_in right None across device s a w k = k
come_out_in right (Some j) across device s a w k = either_in right (is_open j.stroke) (arrive j across device s) s (arrive_in right j across device s a w k) k

lose_in : (right : ℕ) (o : Option Journey) (s : TraceWalk) → IfSome o (WayIn right s.row) → WalkIn right s → WalkIn right (lose_by o s)
lose_in right None s w k = k
lose_in right (Some j) s w k =
    let lost : Journey = record j { to = record { across = 0; row = s.row }; stroke = stroke.Lost } in
    either_in right (is_open j.stroke) (set_taken lost s) s
    (set_taken_in right lost s (record { from = w.from; to = (omega arith, omega (arith, k.row)) }) k) k

vanish_in : (right : ℕ) (s : TraceWalk) → WalkIn right s → WalkIn right (vanish s)
vanish_in right s k =
    used_in right (next_row (lose_by (taken_journey s) s))
    (next_row_in right (lose_by (taken_journey s) s) (lose_in right (taken_journey s) s (taken_in right s k) k))

set_off_in : (right number : ℕ) (s : TraceWalk) → WalkIn right s → WalkIn right (set_off number s)
set_off_in right number s k =
    record {
      row = k.row;
      sender = k.sender;
      places = k.places;
      ways = All-push (WayIn right s.row) s.journeys (record {
        number = number;
        from = record { across = s.sender; row = s.row };
        to = record { across = s.sender; row = next s.row };
        device = s.device;
        what = s.what;
        stroke = stroke.Open;
      }) k.ways (record { from = (k.sender, omega arith); to = (k.sender, omega arith) });
      links = k.links;
    }

leave_in : (right across device : ℕ) (x : What) (s : TraceWalk) → across ≤ right → WalkIn right s → WalkIn right (leave across device x s)
leave_in right across device x s a k = record { row = k.row; sender = a; places = k.places; ways = k.ways; links = k.links }

off_in : (right number : ℕ) (s : TraceWalk) → WalkIn right s → WalkIn right (take_off number s)
off_in right number s k = record { row = k.row; sender = k.sender; places = k.places; ways = k.ways; links = k.links }

-- ---- a line

go_by_in : (hosts : List ℕ) (l : Line) (s : TraceWalk) → WalkIn (last hosts) s → WalkIn (last hosts) (go_by hosts l s)
go_by_in hosts (Sent h d x) s k = leave_in (last hosts) (column hosts h.0) d.0 x s (column_is hosts h.0) k
go_by_in hosts (Wire number) s k = set_off_in (last hosts) number s k
go_by_in hosts (WireShown number hex) s k = set_off_in (last hosts) number s k
go_by_in hosts (Off number) s k = off_in (last hosts) number s k
go_by_in hosts (Again number) s k = off_in (last hosts) number s k
go_by_in hosts (Arrived h d) s k = come_out_in (last hosts) (taken_journey s) (column hosts h.0) d.0 s (column_is hosts h.0) (taken_in (last hosts) s k) k
go_by_in hosts (Lost f bound) s k = vanish_in (last hosts) s k
go_by_in hosts LostAdvert s k = vanish_in (last hosts) s k
go_by_in hosts (Injected h f n) s k = k
go_by_in hosts (Forged h f n) s k = k
go_by_in hosts (Asked h) s k = k
go_by_in hosts (Printed h v) s k = k
go_by_in hosts (Delivered h p v) s k = k
go_by_in hosts (Gave h f v evals left) s k = k
go_by_in hosts (Raised h f v evals left) s k = k
go_by_in hosts (Spent h f left) s k = k
go_by_in hosts (Handled h f n bound) s k = k
go_by_in hosts (Queued h d f bound) s k = k
go_by_in hosts (Dropped h r f bound) s k = k
go_by_in hosts (Refused h why) s k = k
go_by_in hosts (Advert h d) s k = k
go_by_in hosts (Heard h d) s k = k
go_by_in hosts (Ticked h now) s k = k
go_by_in hosts Nothing s k = k

from_in : (right row : ℕ) (o : Option Journey) → IfSome o (WayIn right row) → from_by o ≤ right
from_in right row None w = omega arith
from_in right row (Some j) w = w.from.0

loss_by : (right row : ℕ) (b : Bool) (x y : ℕ) → x ≤ right → y ≤ right → (if b then x else y) ≤ right
loss_by right row true x y a b = a
loss_by right row false x y a b = b

either_place : (right row : ℕ) (b : Bool) (p q : LinePlace) → IsIn right row p.at → IsIn right row q.at → IsIn right row (if b then p else q).at
either_place right row true p q j k = j
either_place right row false p q j k = k

loss_in : (right : ℕ) (o : Option Journey) (s : TraceWalk) → IfSome o (WayIn right s.row) → IsIn right s.row (loss_place_by o s).at
loss_in right None s w = (omega arith, omega arith)
loss_in right (Some j) s w =
    either_place right s.row (is_open j.stroke) (here 0 s.taken s) (here j.to.across None s) (omega arith, omega arith) (w.to.0, omega arith)

place_in : (hosts : List ℕ) (l : Line) (s : TraceWalk) → WalkIn (last hosts) s → IsIn (last hosts) s.row (place_of hosts l s).at
place_in hosts (Wire number) s k = (k.sender, omega arith)
place_in hosts (WireShown number hex) s k = (k.sender, omega arith)
place_in hosts (Off number) s k = (omega arith, omega arith)
place_in hosts (Again number) s k =
    (from_in (last hosts) s.row (taken_journey (take_off number s)) (taken_in (last hosts) (take_off number s) (off_in (last hosts) number s k)), omega arith)
place_in hosts (Arrived h d) s k = (column_is hosts h.0, omega arith)
place_in hosts (Lost f bound) s k = loss_in (last hosts) (taken_journey s) s (taken_in (last hosts) s k)
place_in hosts LostAdvert s k = loss_in (last hosts) (taken_journey s) s (taken_in (last hosts) s k)
place_in hosts (Sent h d x) s k = (column_is hosts h.0, omega arith)
place_in hosts (Injected h f n) s k = (column_is hosts h.0, omega arith)
place_in hosts (Forged h f n) s k = (column_is hosts h.0, omega arith)
place_in hosts (Asked h) s k = (column_is hosts h.0, omega arith)
place_in hosts (Printed h v) s k = (column_is hosts h.0, omega arith)
place_in hosts (Delivered h p v) s k = (column_is hosts h.0, omega arith)
place_in hosts (Gave h f v evals left) s k = (column_is hosts h.0, omega arith)
place_in hosts (Raised h f v evals left) s k = (column_is hosts h.0, omega arith)
place_in hosts (Spent h f left) s k = (column_is hosts h.0, omega arith)
place_in hosts (Handled h f n bound) s k = (column_is hosts h.0, omega arith)
place_in hosts (Queued h d f bound) s k = (column_is hosts h.0, omega arith)
place_in hosts (Dropped h r f bound) s k = (column_is hosts h.0, omega arith)
place_in hosts (Refused h why) s k = (column_is hosts h.0, omega arith)
place_in hosts (Advert h d) s k = (column_is hosts h.0, omega arith)
place_in hosts (Heard h d) s k = (column_is hosts h.0, omega arith)
place_in hosts (Ticked h now) s k = (column_is hosts h.0, omega arith)
place_in hosts Nothing s k = (omega arith, omega arith)

-- a line doesn't go up
either_row : (row : ℕ) (b : Bool) (s t : TraceWalk) → row ≤ s.row → row ≤ t.row → row ≤ (if b then s else t).row
either_row row true s t j k = j
either_row row false s t j k = k

arrive_row : (j : Journey) (across device : ℕ) (s : TraceWalk) → s.row ≤ (arrive j across device s).row
arrive_row j across device s =
    either_row s.row (eqb j.from.across 0) (come_to j across s) (add_link across device j.from.across (add_link j.from.across j.device across (come_to j across s)))
    (omega arith) (omega arith)

come_out_row : (o : Option Journey) (across device : ℕ) (s : TraceWalk) → s.row ≤ (come_out_by o across device s).row
come_out_row None across device s = omega arith
come_out_row (Some j) across device s = either_row s.row (is_open j.stroke) (arrive j across device s) s (arrive_row j across device s) (omega arith)

lose_row : (o : Option Journey) (s : TraceWalk) → s.row ≤ (lose_by o s).row
lose_row None s = omega arith
lose_row (Some j) s =
    either_row s.row (is_open j.stroke) (set_taken (record j { to = record { across = 0; row = s.row }; stroke = stroke.Lost }) s) s (omega arith) (omega arith)

vanish_row : (s : TraceWalk) → s.row ≤ 4294967295 → s.row ≤ (vanish s).row
vanish_row s k = omega (arith, k, lose_row (taken_journey s) s)

go_by_row : (hosts : List ℕ) (l : Line) (s : TraceWalk) → s.row ≤ 4294967295 → s.row ≤ (go_by hosts l s).row
go_by_row hosts (Sent h d x) s k = omega arith
go_by_row hosts (Wire number) s k = omega arith
go_by_row hosts (WireShown number hex) s k = omega arith
go_by_row hosts (Off number) s k = omega arith
go_by_row hosts (Again number) s k = omega arith
go_by_row hosts (Arrived h d) s k = come_out_row (taken_journey s) (column hosts h.0) d.0 s
go_by_row hosts (Lost f bound) s k = vanish_row s k
go_by_row hosts LostAdvert s k = vanish_row s k
go_by_row hosts (Injected h f n) s k = omega arith
go_by_row hosts (Forged h f n) s k = omega arith
go_by_row hosts (Asked h) s k = omega arith
go_by_row hosts (Printed h v) s k = omega arith
go_by_row hosts (Delivered h p v) s k = omega arith
go_by_row hosts (Gave h f v evals left) s k = omega arith
go_by_row hosts (Raised h f v evals left) s k = omega arith
go_by_row hosts (Spent h f left) s k = omega arith
go_by_row hosts (Handled h f n bound) s k = omega arith
go_by_row hosts (Queued h d f bound) s k = omega arith
go_by_row hosts (Dropped h r f bound) s k = omega arith
go_by_row hosts (Refused h why) s k = omega arith
go_by_row hosts (Advert h d) s k = omega arith
go_by_row hosts (Heard h d) s k = omega arith
go_by_row hosts (Ticked h now) s k = omega arith
go_by_row hosts Nothing s k = omega arith

row_of_in : (right : ℕ) (e : Entry) (s : TraceWalk) → WalkIn right s → WalkIn right (row_of e s)
row_of_in right e s k = take_in right e.line (begin e.event s) (begin_in right e.event s k)

added_in : (right : ℕ) (p : LinePlace) (s : TraceWalk) → IsIn right s.row p.at → WalkIn right s → WalkIn right (add_place p s)
added_in right p s a k =
    record { row = k.row; sender = k.sender; places = All-push (λ q. IsIn right s.row q.at) s.places p k.places a; ways = k.ways; links = k.links }

step_in : (hosts : List ℕ) (e : Entry) (s : TraceWalk) → WalkIn (last hosts) s → WalkIn (last hosts) (step hosts e s)
step_in hosts e s k =
    let right : ℕ = last hosts in
    let t : TraceWalk = row_of e s in
    let u : TraceWalk = go_by hosts e.line t in
    let there : WalkIn right t = row_of_in right e s k in
    added_in right (record (place_of hosts e.line t) { begins = begins e.event s }) u
    (lower right t.row u.row (place_of hosts e.line t).at (go_by_row hosts e.line t there.row) (place_in hosts e.line t there)) (go_by_in hosts e.line t there)

go_in : (hosts : List ℕ) (es : List Entry) (s : TraceWalk) → WalkIn (last hosts) s → WalkIn (last hosts) (go hosts es s)
go_in hosts [] s k = k
go_in hosts (e ∷ es) s k = go_in hosts es (step hosts e s) (step_in hosts e s k)

start_in : (right : ℕ) → WalkIn right start
start_in right =
    record {
      row = omega arith;
      sender = omega arith;
      places = All-nil (λ p. IsIn right 0 p.at);
      ways = All-nil (WayIn right 0);
      links = All-nil (λ l. l.far ≤ right);
    }

-- all lines of a trace
pub walked_in : (hosts : List ℕ) (es : List Entry) → WalkIn (last hosts) (go hosts es start)
walked_in hosts es = go_in hosts es start (start_in (last hosts))
