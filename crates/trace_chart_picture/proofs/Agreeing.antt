-- Arrows and crosses are drawn as what became of their frames.
use Rattle.std.proofs.Common.{◌≡◌, ◌≢◌, ◌⊎◌, inl, inr, ℕ, zero, suc, ◌+◌, ◌<◌, add-one, Bool, true, false, if◌then◌else◌, eqb, ltb, lt-ltb}
use Rattle.std.proofs.Common.{List, [], ◌∷◌, ◌++◌, length, length-append, append_assoc, append-nil, slice_set, Some, None, refl, sym, ap, subst, ◌∙◌, arith}
use Rattle.std.specs.Prelude.{Option, slice_get, IfSome}
use Rattle.std.specs.List.{All}
use Rattle.std.proofs.lemmas.List.Elements.{All-nil, All-cons, All-head, All-tail, All-push, All-set}
use Rattle.trace_chart_picture.specs.declared.drawing.Kind.{Kind}
use Rattle.trace_chart_picture.specs.declared.drawing.Kind.TheVariants as kind
use Rattle.trace_chart_picture.specs.declared.drawing.LineStyle.{LineStyle}
use Rattle.trace_chart_picture.specs.declared.drawing.LineStyle.TheVariants as stroke
use Rattle.trace_chart_picture.specs.declared.line.What.{What}
use Rattle.trace_chart_picture.specs.declared.line.What.TheVariants as what
use Rattle.trace_chart_picture.specs.declared.line.Line.{Line}
use Rattle.trace_chart_picture.specs.declared.line.Line.TheVariants.{Injected, Forged, Arrived, Asked, Printed, Delivered, Gave, Raised}
use Rattle.trace_chart_picture.specs.declared.line.Line.TheVariants.{Spent, Handled, Queued, Dropped, Refused, Advert, Heard, Ticked, Sent}
use Rattle.trace_chart_picture.specs.declared.line.Line.TheVariants.{Wire, WireShown, Off, Again, Lost, LostAdvert, Nothing}
use Rattle.trace_chart_picture.specs.declared.line.Entry.{Entry}
use Rattle.trace_chart_picture.specs.declared.line.Trace.{Trace}
use Rattle.trace_chart_picture.specs.declared.walk.Journey.{Journey}
use Rattle.trace_chart_picture.specs.declared.walk.LinePlace.{LinePlace}
use Rattle.trace_chart_picture.specs.declared.walk.TraceWalk.{TraceWalk}
use Rattle.trace_chart_picture.specs.Hosts.{column, hosts_of}
use Rattle.trace_chart_picture.specs.Kinds.{kind_of}
use Rattle.trace_chart_picture.specs.Marks.{mark_of, marks_from, drawing_of, is_log}
use Rattle.trace_chart_picture.specs.Sights.{place_at, place_by, sight_at, sight_by, journey, outside_stroke}
use Rattle.trace_chart_picture.specs.Strokes.{AgreesStroke}
use Rattle.trace_chart_picture.specs.Walks.{stroke_of, start, next_row, opened, begin, begins, free_row, takes_row, here, frame_of, later_or_here, add_link, set_off, journey_at, taken_journey, set_at, set_taken}
use Rattle.trace_chart_picture.specs.Walks.{is_open, come_to, arrive, come_out_by, loss_place_by, lose_by, go_by, place_of, row_of, step, go}

-- ---- ways that have ended stay

-- what stands of a way: it is there, and where it had ended it is the same
abbrev Follows : Journey → Option Journey → Type 0
Follows j None = ⊥
Follows j (Some k) = is_open j.stroke ≡ false → k ≡ j

abbrev Extends : List Journey → List Journey → Type 0
Extends old new = (i : ℕ) (j : Journey) → slice_get old i ≡ Some j → Follows j (slice_get new i)

extends_same : (js : List Journey) → Extends js js
extends_same js i j e = subst (Follows j) (sym e) (λ c. refl)

follows_on : (j k : Journey) (o : Option Journey) → (is_open j.stroke ≡ false → k ≡ j) → Follows k o → Follows j o
follows_on j k None f g = g
follows_on j k (Some m) f g = λ c. g (ap (λ (x : Journey). is_open x.stroke) (f c) ∙ c) ∙ f c

follows_by : (b : List Journey) (c : List Journey) (i : ℕ) (j : Journey) (o : Option Journey) → slice_get b i ≡ o → Follows j o → Extends b c → Follows j (slice_get c i)
follows_by b c i j None e f g = absurd f
follows_by b c i j (Some k) e f g = follows_on j k (slice_get c i) f (g i k e)

extends_on : (a b c : List Journey) → Extends a b → Extends b c → Extends a c
extends_on a b c f g i j e = follows_by b c i j (slice_get b i) refl (f i j e) g

get_push : (js : List Journey) (x : Journey) (i : ℕ) (j : Journey) → slice_get js i ≡ Some j → slice_get (js ++ x ∷ []) i ≡ Some j
get_push [] x i j e = absurd cc
get_push (y ∷ ys) x zero j e = e
get_push (y ∷ ys) x (suc i) j e = get_push ys x i j e

extends_push : (js : List Journey) (x : Journey) → Extends js (js ++ x ∷ [])
extends_push js x i j e = subst (Follows j) (sym (get_push js x i j e)) (λ c. refl)

true_not : (x : Bool) → x ≡ true → x ≡ false → ⊥
true_not true a b = absurd cc
true_not false a b = absurd cc

same_some : (x y : Journey) → Some x ≡ Some y → x ≡ y
same_some x y e = cc

extends_set : (js : List Journey) (n : ℕ) (j k : Journey) → slice_get js n ≡ Some j → is_open j.stroke ≡ true → Extends js (slice_set js n k)
extends_set [] n j k e moves = λ i x h. absurd cc
extends_set (y ∷ ys) zero j k e moves = λ i x h. at_zero i x h
  where
    at_zero : (i : ℕ) (x : Journey) → slice_get (y ∷ ys) i ≡ Some x → Follows x (slice_get (k ∷ ys) i)
    at_zero zero x h = λ c. absurd (true_not (is_open x.stroke) (ap (λ (z : Journey). is_open z.stroke) (sym (same_some y x h) ∙ same_some y j e) ∙ moves) c)
    at_zero (suc i) x h = subst (Follows x) (sym h) (λ c. refl)
extends_set (y ∷ ys) (suc n) j k e moves = λ i x h. later i x h (extends_set ys n j k e moves)
  where
    later : (i : ℕ) (x : Journey) → slice_get (y ∷ ys) i ≡ Some x → Extends ys (slice_set ys n k) → Follows x (slice_get (y ∷ slice_set ys n k) i)
    later zero x h f = subst (Follows x) (sym h) (λ c. refl)
    later (suc i) x h f = f i x h

either_ext : (b : Bool) (js : List Journey) (x y : List Journey) → Extends js x → Extends js y → Extends js (if b then x else y)
either_ext true js x y f g = f
either_ext false js x y f g = g

set_at_ext : (o : Option ℕ) (s : TraceWalk) (j k : Journey) → journey_at o s ≡ Some j → is_open j.stroke ≡ true → Extends s.journeys (set_at o k s.journeys)
set_at_ext None s j k e moves = absurd cc
set_at_ext (Some i) s j k e moves = either_ext (ltb i (length s.journeys)) s.journeys (slice_set s.journeys i k) s.journeys (extends_set s.journeys i j k e moves) (extends_same s.journeys)

either_walk : (b : Bool) (js : List Journey) (s t : TraceWalk) → Extends js s.journeys → Extends js t.journeys → Extends js (if b then s else t).journeys
either_walk true js s t f g = f
either_walk false js s t f g = g

come_to_ext : (s : TraceWalk) (j : Journey) (across : ℕ) → taken_journey s ≡ Some j → is_open j.stroke ≡ true → Extends s.journeys (come_to j across s).journeys
come_to_ext s j across e moves = set_at_ext s.taken s j (record j { to = record { across = across; row = s.row }; stroke = j.what }) e moves

arrive_ext : (s : TraceWalk) (j : Journey) (across device : ℕ) → taken_journey s ≡ Some j → is_open j.stroke ≡ true → Extends s.journeys (arrive j across device s).journeys
arrive_ext s j across device e moves =
    either_walk (eqb j.from.across 0) s.journeys (come_to j across s) (add_link across device j.from.across (add_link j.from.across j.device across (come_to j across s)))
    (come_to_ext s j across e moves) (come_to_ext s j across e moves)

open_by : (b : Bool) (s t : TraceWalk) (js : List Journey) → (b ≡ true → Extends js s.journeys) → Extends js t.journeys → Extends js (if b then s else t).journeys
open_by true s t js f g = f refl
open_by false s t js f g = g

come_out_ext : (o : Option Journey) (across device : ℕ) (s : TraceWalk) → taken_journey s ≡ o → Extends s.journeys (come_out_by o across device s).journeys
come_out_ext None across device s e = extends_same s.journeys
come_out_ext (Some j) across device s e = open_by (is_open j.stroke) (arrive j across device s) s s.journeys (λ h. arrive_ext s j across device e h) (extends_same s.journeys)

abbrev pub lost_way : Journey → ℕ → Journey
lost_way j row = record j { to = record { across = 0; row = row }; stroke = stroke.Lost }

lose_ext : (o : Option Journey) (s : TraceWalk) → taken_journey s ≡ o → Extends s.journeys (lose_by o s).journeys
lose_ext None s e = extends_same s.journeys
lose_ext (Some j) s e =
    open_by (is_open j.stroke) (set_taken (lost_way j s.row) s) s s.journeys (λ h. set_at_ext s.taken s j (lost_way j s.row) e h) (extends_same s.journeys)

go_by_ext : (hosts : List ℕ) (l : Line) (s : TraceWalk) → Extends s.journeys (go_by hosts l s).journeys
go_by_ext hosts (Wire number) s = extends_push s.journeys _
go_by_ext hosts (WireShown number hex) s = extends_push s.journeys _
go_by_ext hosts (Arrived h d) s = come_out_ext (taken_journey s) (column hosts h.0) d.0 s refl
go_by_ext hosts (Lost f bound) s = lose_ext (taken_journey s) s refl
go_by_ext hosts LostAdvert s = lose_ext (taken_journey s) s refl
go_by_ext hosts (Sent h d x) s = extends_same s.journeys
go_by_ext hosts (Off number) s = extends_same s.journeys
go_by_ext hosts (Again number) s = extends_same s.journeys
go_by_ext hosts (Injected h f n) s = extends_same s.journeys
go_by_ext hosts (Forged h f n) s = extends_same s.journeys
go_by_ext hosts (Asked h) s = extends_same s.journeys
go_by_ext hosts (Printed h v) s = extends_same s.journeys
go_by_ext hosts (Delivered h p v) s = extends_same s.journeys
go_by_ext hosts (Gave h f v evals left) s = extends_same s.journeys
go_by_ext hosts (Raised h f v evals left) s = extends_same s.journeys
go_by_ext hosts (Spent h f left) s = extends_same s.journeys
go_by_ext hosts (Handled h f n bound) s = extends_same s.journeys
go_by_ext hosts (Queued h d f bound) s = extends_same s.journeys
go_by_ext hosts (Dropped h r f bound) s = extends_same s.journeys
go_by_ext hosts (Refused h why) s = extends_same s.journeys
go_by_ext hosts (Advert h d) s = extends_same s.journeys
go_by_ext hosts (Heard h d) s = extends_same s.journeys
go_by_ext hosts (Ticked h now) s = extends_same s.journeys
go_by_ext hosts Nothing s = extends_same s.journeys

-- ---- no way is drawn as a forged one

-- what was sent is drawn neither as forged nor as lost
abbrev pub IsWay : LineStyle → Type 0
IsWay s = (s ≢ stroke.Forged) × (s ≢ stroke.Lost)

abbrev pub IsSent : Journey → Type 0
IsSent j = (j.stroke ≢ stroke.Forged) × IsWay j.what

pub sent_by : (js : List Journey) (i : ℕ) → All IsSent js → IfSome (slice_get js i) IsSent
sent_by [] i k = tt
sent_by (j ∷ js) zero k = All-head IsSent j js k
sent_by (j ∷ js) (suc i) k = sent_by js i (All-tail IsSent j js k)

pub sent_at : (o : Option ℕ) (s : TraceWalk) → All IsSent s.journeys → IfSome (journey_at o s) IsSent
sent_at None s k = tt
sent_at (Some i) s k = sent_by s.journeys i k

either_sent : (b : Bool) (x y : List Journey) → All IsSent x → All IsSent y → All IsSent (if b then x else y)
either_sent true x y f g = f
either_sent false x y f g = g

set_sent : (o : Option ℕ) (k : Journey) (js : List Journey) → IsSent k → All IsSent js → All IsSent (set_at o k js)
set_sent None k js a f = f
set_sent (Some i) k js a f = either_sent (ltb i (length js)) (slice_set js i k) js (All-set IsSent js i k a f) f

walk_sent : (b : Bool) (s t : TraceWalk) → All IsSent s.journeys → All IsSent t.journeys → All IsSent (if b then s else t).journeys
walk_sent true s t f g = f
walk_sent false s t f g = g

come_to_sent : (j : Journey) (across : ℕ) (s : TraceWalk) → IsSent j → All IsSent s.journeys → All IsSent (come_to j across s).journeys
come_to_sent j across s a f = set_sent s.taken (record j { to = record { across = across; row = s.row }; stroke = j.what }) s.journeys (a.1.0, a.1) f

come_out_sent : (o : Option Journey) (across device : ℕ) (s : TraceWalk) → IfSome o IsSent → All IsSent s.journeys → All IsSent (come_out_by o across device s).journeys
come_out_sent None across device s a f = f
come_out_sent (Some j) across device s a f =
    walk_sent (is_open j.stroke) (arrive j across device s) s
    (walk_sent (eqb j.from.across 0) (come_to j across s) (add_link across device j.from.across (add_link j.from.across j.device across (come_to j across s)))
    (come_to_sent j across s a f) (come_to_sent j across s a f)) f

lose_sent : (o : Option Journey) (s : TraceWalk) → IfSome o IsSent → All IsSent s.journeys → All IsSent (lose_by o s).journeys
lose_sent None s a f = f
lose_sent (Some j) s a f =
    walk_sent (is_open j.stroke) (set_taken (lost_way j s.row) s) s (set_sent s.taken (lost_way j s.row) s.journeys ((λ e. absurd cc), a.1) f) f

go_by_sent : (hosts : List ℕ) (l : Line) (s : TraceWalk) → IsWay s.what → All IsSent s.journeys → All IsSent (go_by hosts l s).journeys
go_by_sent hosts (Wire number) s a f = All-push IsSent s.journeys _ f ((λ e. absurd cc), a)
go_by_sent hosts (WireShown number hex) s a f = All-push IsSent s.journeys _ f ((λ e. absurd cc), a)
go_by_sent hosts (Arrived h d) s a f = come_out_sent (taken_journey s) (column hosts h.0) d.0 s (sent_at s.taken s f) f
go_by_sent hosts (Lost g bound) s a f = lose_sent (taken_journey s) s (sent_at s.taken s f) f
go_by_sent hosts LostAdvert s a f = lose_sent (taken_journey s) s (sent_at s.taken s f) f
go_by_sent hosts (Sent h d x) s a f = f
go_by_sent hosts (Off number) s a f = f
go_by_sent hosts (Again number) s a f = f
go_by_sent hosts (Injected h g n) s a f = f
go_by_sent hosts (Forged h g n) s a f = f
go_by_sent hosts (Asked h) s a f = f
go_by_sent hosts (Printed h v) s a f = f
go_by_sent hosts (Delivered h p v) s a f = f
go_by_sent hosts (Gave h g v evals left) s a f = f
go_by_sent hosts (Raised h g v evals left) s a f = f
go_by_sent hosts (Spent h g left) s a f = f
go_by_sent hosts (Handled h g n bound) s a f = f
go_by_sent hosts (Queued h d g bound) s a f = f
go_by_sent hosts (Dropped h r g bound) s a f = f
go_by_sent hosts (Refused h why) s a f = f
go_by_sent hosts (Advert h d) s a f = f
go_by_sent hosts (Heard h d) s a f = f
go_by_sent hosts (Ticked h now) s a f = f
go_by_sent hosts Nothing s a f = f

-- ---- the frame that an event took is on the wire

abbrev pub IsThere : Option Journey → Type 0
IsThere None = ⊥
IsThere (Some j) = Unit {0}

abbrev pub There : List Journey → Option ℕ → Type 0
There js None = Unit {0}
There js (Some i) = IsThere (slice_get js i)

there_follows : (j : Journey) (o : Option Journey) → Follows j o → IsThere o
there_follows j None f = f
there_follows j (Some k) f = tt

there_by : (a b : List Journey) (i : ℕ) (o : Option Journey) → slice_get a i ≡ o → IsThere o → Extends a b → IsThere (slice_get b i)
there_by a b i None e k f = absurd k
there_by a b i (Some j) e k f = there_follows j (slice_get b i) (f i j e)

there_ext : (a b : List Journey) (o : Option ℕ) → Extends a b → There a o → There b o
there_ext a b None f k = tt
there_ext a b (Some i) f k = there_by a b i (slice_get a i) refl k f

later_there : (j : Journey) (js : List Journey) (o : Option ℕ) (b : Bool) → There js o → There (j ∷ js) (later_or_here o b)
later_there j js (Some i) b k = subst (λ (n : ℕ). IsThere (slice_get (j ∷ js) n)) (sym (add-one i)) k
later_there j js None true k = tt
later_there j js None false k = tt

frame_there : (number : ℕ) (js : List Journey) → There js (frame_of number js)
frame_there number [] = tt
frame_there number (j ∷ js) = later_there j js (frame_of number js) (eqb j.number number) (frame_there number js)

same_walk : {A : Type 0} (f : TraceWalk → A) (x : A) (b : Bool) (s t : TraceWalk) → f s ≡ x → f t ≡ x → f (if b then s else t) ≡ x
same_walk f x true s t j k = j
same_walk f x false s t j k = k

come_out_taken : (o : Option Journey) (across device : ℕ) (s : TraceWalk) → (come_out_by o across device s).taken ≡ s.taken
come_out_taken None across device s = refl
come_out_taken (Some j) across device s =
    same_walk (λ x. x.taken) s.taken (is_open j.stroke) (arrive j across device s) s
    (same_walk (λ x. x.taken) s.taken (eqb j.from.across 0) (come_to j across s) (add_link across device j.from.across (add_link j.from.across j.device across (come_to j across s))) refl refl) refl

come_out_what : (o : Option Journey) (across device : ℕ) (s : TraceWalk) → (come_out_by o across device s).what ≡ s.what
come_out_what None across device s = refl
come_out_what (Some j) across device s =
    same_walk (λ x. x.what) s.what (is_open j.stroke) (arrive j across device s) s
    (same_walk (λ x. x.what) s.what (eqb j.from.across 0) (come_to j across s) (add_link across device j.from.across (add_link j.from.across j.device across (come_to j across s))) refl refl) refl

come_out_places : (o : Option Journey) (across device : ℕ) (s : TraceWalk) → (come_out_by o across device s).places ≡ s.places
come_out_places None across device s = refl
come_out_places (Some j) across device s =
    same_walk (λ x. x.places) s.places (is_open j.stroke) (arrive j across device s) s
    (same_walk (λ x. x.places) s.places (eqb j.from.across 0) (come_to j across s) (add_link across device j.from.across (add_link j.from.across j.device across (come_to j across s))) refl refl) refl

lose_taken : (o : Option Journey) (s : TraceWalk) → (lose_by o s).taken ≡ s.taken
lose_taken None s = refl
lose_taken (Some j) s = same_walk (λ x. x.taken) s.taken (is_open j.stroke) (set_taken (lost_way j s.row) s) s refl refl

lose_what : (o : Option Journey) (s : TraceWalk) → (lose_by o s).what ≡ s.what
lose_what None s = refl
lose_what (Some j) s = same_walk (λ x. x.what) s.what (is_open j.stroke) (set_taken (lost_way j s.row) s) s refl refl

lose_places : (o : Option Journey) (s : TraceWalk) → (lose_by o s).places ≡ s.places
lose_places None s = refl
lose_places (Some j) s = same_walk (λ x. x.places) s.places (is_open j.stroke) (set_taken (lost_way j s.row) s) s refl refl

pub go_by_places : (hosts : List ℕ) (l : Line) (s : TraceWalk) → (go_by hosts l s).places ≡ s.places
go_by_places hosts (Arrived h d) s = come_out_places (taken_journey s) (column hosts h.0) d.0 s
go_by_places hosts (Lost g bound) s = lose_places (taken_journey s) s
go_by_places hosts LostAdvert s = lose_places (taken_journey s) s
go_by_places hosts (Wire number) s = refl
go_by_places hosts (WireShown number hex) s = refl
go_by_places hosts (Sent h d x) s = refl
go_by_places hosts (Off number) s = refl
go_by_places hosts (Again number) s = refl
go_by_places hosts (Injected h g n) s = refl
go_by_places hosts (Forged h g n) s = refl
go_by_places hosts (Asked h) s = refl
go_by_places hosts (Printed h v) s = refl
go_by_places hosts (Delivered h p v) s = refl
go_by_places hosts (Gave h g v evals left) s = refl
go_by_places hosts (Raised h g v evals left) s = refl
go_by_places hosts (Spent h g left) s = refl
go_by_places hosts (Handled h g n bound) s = refl
go_by_places hosts (Queued h d g bound) s = refl
go_by_places hosts (Dropped h r g bound) s = refl
go_by_places hosts (Refused h why) s = refl
go_by_places hosts (Advert h d) s = refl
go_by_places hosts (Heard h d) s = refl
go_by_places hosts (Ticked h now) s = refl
go_by_places hosts Nothing s = refl

sent_not : (x : What) → IsWay (stroke_of x)
sent_not what.Advert = ((λ e. absurd cc), (λ e. absurd cc))
sent_not (what.Packet f) = ((λ e. absurd cc), (λ e. absurd cc))

go_by_what : (hosts : List ℕ) (l : Line) (s : TraceWalk) → IsWay s.what → IsWay (go_by hosts l s).what
go_by_what hosts (Sent h d x) s a = sent_not x
go_by_what hosts (Arrived h d) s a = subst IsWay (sym (come_out_what (taken_journey s) (column hosts h.0) d.0 s)) a
go_by_what hosts (Lost g bound) s a = subst IsWay (sym (lose_what (taken_journey s) s)) a
go_by_what hosts LostAdvert s a = subst IsWay (sym (lose_what (taken_journey s) s)) a
go_by_what hosts (Wire number) s a = a
go_by_what hosts (WireShown number hex) s a = a
go_by_what hosts (Off number) s a = a
go_by_what hosts (Again number) s a = a
go_by_what hosts (Injected h g n) s a = a
go_by_what hosts (Forged h g n) s a = a
go_by_what hosts (Asked h) s a = a
go_by_what hosts (Printed h v) s a = a
go_by_what hosts (Delivered h p v) s a = a
go_by_what hosts (Gave h g v evals left) s a = a
go_by_what hosts (Raised h g v evals left) s a = a
go_by_what hosts (Spent h g left) s a = a
go_by_what hosts (Handled h g n bound) s a = a
go_by_what hosts (Queued h d g bound) s a = a
go_by_what hosts (Dropped h r g bound) s a = a
go_by_what hosts (Refused h why) s a = a
go_by_what hosts (Advert h d) s a = a
go_by_what hosts (Heard h d) s a = a
go_by_what hosts (Ticked h now) s a = a
go_by_what hosts Nothing s a = a

go_by_there : (hosts : List ℕ) (l : Line) (s : TraceWalk) → There s.journeys s.taken → There (go_by hosts l s).journeys (go_by hosts l s).taken
go_by_there hosts (Arrived h d) s k =
    let u : TraceWalk = come_out_by (taken_journey s) (column hosts h.0) d.0 s in
    subst (There u.journeys) (sym (come_out_taken (taken_journey s) (column hosts h.0) d.0 s))
    (there_ext s.journeys u.journeys s.taken (come_out_ext (taken_journey s) (column hosts h.0) d.0 s refl) k)
go_by_there hosts (Lost g bound) s k =
    let u : TraceWalk = lose_by (taken_journey s) s in
    subst (There u.journeys) (sym (lose_taken (taken_journey s) s)) (there_ext s.journeys u.journeys s.taken (lose_ext (taken_journey s) s refl) k)
go_by_there hosts LostAdvert s k =
    let u : TraceWalk = lose_by (taken_journey s) s in
    subst (There u.journeys) (sym (lose_taken (taken_journey s) s)) (there_ext s.journeys u.journeys s.taken (lose_ext (taken_journey s) s refl) k)
go_by_there hosts (Wire number) s k = there_ext s.journeys (set_off number s).journeys s.taken (extends_push s.journeys _) k
go_by_there hosts (WireShown number hex) s k = there_ext s.journeys (set_off number s).journeys s.taken (extends_push s.journeys _) k
go_by_there hosts (Sent h d x) s k = k
go_by_there hosts (Off number) s k = frame_there number s.journeys
go_by_there hosts (Again number) s k = frame_there number s.journeys
go_by_there hosts (Injected h g n) s k = k
go_by_there hosts (Forged h g n) s k = k
go_by_there hosts (Asked h) s k = k
go_by_there hosts (Printed h v) s k = k
go_by_there hosts (Delivered h p v) s k = k
go_by_there hosts (Gave h g v evals left) s k = k
go_by_there hosts (Raised h g v evals left) s k = k
go_by_there hosts (Spent h g left) s k = k
go_by_there hosts (Handled h g n bound) s k = k
go_by_there hosts (Queued h d g bound) s k = k
go_by_there hosts (Dropped h r g bound) s k = k
go_by_there hosts (Refused h why) s k = k
go_by_there hosts (Advert h d) s k = k
go_by_there hosts (Heard h d) s k = k
go_by_there hosts (Ticked h now) s k = k
go_by_there hosts Nothing s k = k

pub record Fine (s : TraceWalk) : Type 0 where
  pub what : IsWay s.what
  pub taken : There s.journeys s.taken
  pub ways : All IsSent s.journeys

either_fine : (b : Bool) (s t : TraceWalk) → Fine s → Fine t → Fine (if b then s else t)
either_fine true s t j k = j
either_fine false s t j k = k

begin_fine : (event : ℕ) (s : TraceWalk) → Fine s → Fine (begin event s)
begin_fine event s k = either_fine (eqb event s.event) s (next_row (opened event s)) k (record { what = ((λ e. absurd cc), (λ e. absurd cc)); taken = tt; ways = k.ways })

free_fine : (s : TraceWalk) → Fine s → Fine (free_row s)
free_fine s k = either_fine s.is_row_used (next_row s) s (record { what = k.what; taken = k.taken; ways = k.ways }) k

used_fine : (s : TraceWalk) → Fine s → Fine (record s { is_row_used = true })
used_fine s k = record { what = k.what; taken = k.taken; ways = k.ways }

pub row_fine : (e : Entry) (s : TraceWalk) → Fine s → Fine (row_of e s)
row_fine e s k =
    let b : TraceWalk = begin e.event s in
    either_fine (takes_row e.line) (record (free_row b) { is_row_used = true }) b (used_fine (free_row b) (free_fine b (begin_fine e.event s k))) (begin_fine e.event s k)

row_same : {A : Type 0} (f : TraceWalk → A) → ((x : TraceWalk) → f (next_row x) ≡ f x) → ((event : ℕ) (x : TraceWalk) → f (opened event x) ≡ f x)
    → ((x : TraceWalk) → f (record x { is_row_used = true }) ≡ f x) → (e : Entry) (s : TraceWalk) → f (row_of e s) ≡ f s
row_same f next moves used e s =
    let b : TraceWalk = begin e.event s in
    let one : f b ≡ f s = same_walk f (f s) (eqb e.event s.event) s (next_row (opened e.event s)) refl (next (opened e.event s) ∙ moves e.event s) in
    let two : f (free_row b) ≡ f s = same_walk f (f s) b.is_row_used (next_row b) b (next b ∙ one) one in
    same_walk f (f s) (takes_row e.line) (record (free_row b) { is_row_used = true }) b (used (free_row b) ∙ two) one

pub row_places : (e : Entry) (s : TraceWalk) → (row_of e s).places ≡ s.places
row_places e s = row_same (λ x. x.places) (λ x. refl) (λ n x. refl) (λ x. refl) e s

pub row_ways : (e : Entry) (s : TraceWalk) → (row_of e s).journeys ≡ s.journeys
row_ways e s = row_same (λ x. x.journeys) (λ x. refl) (λ n x. refl) (λ x. refl) e s

-- ---- what the lines are about

abbrev pub IsLost : Option Journey → Type 0
IsLost None = ⊥
IsLost (Some j) = j.stroke ≡ stroke.Lost

abbrev pub GoodLoss : List Journey → Option ℕ → Type 0
GoodLoss js None = Unit {0}
GoodLoss js (Some i) = IsLost (slice_get js i)

abbrev pub GoodFrame : List Journey → Option ℕ → Type 0
GoodFrame js None = ⊥
GoodFrame js (Some i) = IsThere (slice_get js i)

abbrev pub GoodKind : List Journey → Kind → Option ℕ → Type 0
GoodKind js kind.Loss o = GoodLoss js o
GoodKind js kind.Frame o = GoodFrame js o
GoodKind js _ o = Unit {0}

lost_follows : (j : Journey) (o : Option Journey) → j.stroke ≡ stroke.Lost → Follows j o → IsLost o
lost_follows j None e f = f
lost_follows j (Some k) e f = ap (λ (x : Journey). x.stroke) (f (ap is_open e)) ∙ e

lost_by : (a b : List Journey) (i : ℕ) (o : Option Journey) → slice_get a i ≡ o → IsLost o → Extends a b → IsLost (slice_get b i)
lost_by a b i None e k f = absurd k
lost_by a b i (Some j) e k f = lost_follows j (slice_get b i) k (f i j e)

loss_ext : (a b : List Journey) (o : Option ℕ) → Extends a b → GoodLoss a o → GoodLoss b o
loss_ext a b None f k = tt
loss_ext a b (Some i) f k = lost_by a b i (slice_get a i) refl k f

frame_ext : (a b : List Journey) (o : Option ℕ) → Extends a b → GoodFrame a o → GoodFrame b o
frame_ext a b None f k = k
frame_ext a b (Some i) f k = there_by a b i (slice_get a i) refl k f

good_ext : (a b : List Journey) (x : Kind) (o : Option ℕ) → Extends a b → GoodKind a x o → GoodKind b x o
good_ext a b kind.Loss o f k = loss_ext a b o f k
good_ext a b kind.Frame o f k = frame_ext a b o f k
good_ext a b kind.Arrival o f k = tt
good_ext a b kind.Sending o f k = tt
good_ext a b kind.Value o f k = tt
good_ext a b kind.Exception o f k = tt
good_ext a b kind.Spent o f k = tt
good_ext a b kind.Dropped o f k = tt
good_ext a b kind.Note o f k = tt
good_ext a b kind.Start o f k = tt
good_ext a b kind.Forgery o f k = tt
good_ext a b kind.Aside o f k = tt
good_ext a b kind.Unseen o f k = tt

last_there : (js : List Journey) (x : Journey) → IsThere (slice_get (js ++ x ∷ []) (length js))
last_there [] x = tt
last_there (y ∷ ys) x = last_there ys x

none_lost : (o : Option ℕ) (s : TraceWalk) → journey_at o s ≡ None → There s.journeys o → GoodLoss s.journeys o
none_lost None s e k = tt
none_lost (Some i) s e k = absurd (subst IsThere e k)

get_below : (js : List Journey) (i : ℕ) (j : Journey) → slice_get js i ≡ Some j → i < length js
get_below [] i j e = absurd cc
get_below (y ∷ ys) zero j e = omega arith
get_below (y ∷ ys) (suc i) j e = omega (arith, get_below ys i j e)

get_set : (js : List Journey) (i : ℕ) (j k : Journey) → slice_get js i ≡ Some j → slice_get (slice_set js i k) i ≡ Some k
get_set [] i j k e = absurd cc
get_set (y ∷ ys) zero j k e = refl
get_set (y ∷ ys) (suc i) j k e = get_set ys i j k e

set_lost : (o : Option ℕ) (s : TraceWalk) (j k : Journey) → journey_at o s ≡ Some j → k.stroke ≡ stroke.Lost → GoodLoss (set_at o k s.journeys) o
set_lost None s j k e l = tt
set_lost (Some i) s j k e l =
    rw (lt-ltb i (length s.journeys) (get_below s.journeys i j e)) (subst IsLost (sym (get_set s.journeys i j k e)) l)

loss_open : (b : Bool) (s t : TraceWalk) (p q : LinePlace) → q.frame ≡ None → (b ≡ true → GoodLoss s.journeys p.frame)
    → GoodLoss (if b then s else t).journeys (if b then p else q).frame
loss_open true s t p q e f = f refl
loss_open false s t p q e f = subst (GoodLoss t.journeys) (sym e) tt

loss_good : (o : Option Journey) (s : TraceWalk) → taken_journey s ≡ o → There s.journeys s.taken → GoodLoss (lose_by o s).journeys (loss_place_by o s).frame
loss_good None s e k = none_lost s.taken s e k
loss_good (Some j) s e k =
    loss_open (is_open j.stroke) (set_taken (lost_way j s.row) s) s (here 0 s.taken s) (here j.to.across None s) refl (λ h. set_lost s.taken s j (lost_way j s.row) e refl)

place_good : (hosts : List ℕ) (l : Line) (s : TraceWalk) → Fine s → GoodKind (go_by hosts l s).journeys (kind_of l) (place_of hosts l s).frame
place_good hosts (Wire number) s k = last_there s.journeys _
place_good hosts (WireShown number hex) s k = last_there s.journeys _
place_good hosts (Lost g bound) s k = loss_good (taken_journey s) s refl k.taken
place_good hosts LostAdvert s k = loss_good (taken_journey s) s refl k.taken
place_good hosts (Arrived h d) s k = tt
place_good hosts (Sent h d x) s k = tt
place_good hosts (Off number) s k = tt
place_good hosts (Again number) s k = tt
place_good hosts (Injected h g n) s k = tt
place_good hosts (Forged h g n) s k = tt
place_good hosts (Asked h) s k = tt
place_good hosts (Printed h v) s k = tt
place_good hosts (Delivered h p v) s k = tt
place_good hosts (Gave h g v evals left) s k = tt
place_good hosts (Raised h g v evals left) s k = tt
place_good hosts (Spent h g left) s k = tt
place_good hosts (Handled h g n bound) s k = tt
place_good hosts (Queued h d g bound) s k = tt
place_good hosts (Dropped h r g bound) s k = tt
place_good hosts (Refused h why) s k = tt
place_good hosts (Advert h d) s k = tt
place_good hosts (Heard h d) s k = tt
place_good hosts (Ticked h now) s k = tt
place_good hosts Nothing s k = tt

-- ---- all lines

abbrev pub AllGood : List Journey → List Entry → List LinePlace → Type 0
AllGood js [] [] = Unit {0}
AllGood js [] (p ∷ ps) = ⊥
AllGood js (e ∷ es) [] = ⊥
AllGood js (e ∷ es) (p ∷ ps) = GoodKind js (kind_of e.line) p.frame × AllGood js es ps

all_ext : (a b : List Journey) (es : List Entry) (ps : List LinePlace) → Extends a b → AllGood a es ps → AllGood b es ps
all_ext a b [] [] f k = tt
all_ext a b [] (p ∷ ps) f k = k
all_ext a b (e ∷ es) [] f k = k
all_ext a b (e ∷ es) (p ∷ ps) f k = (good_ext a b (kind_of e.line) p.frame f k.0, all_ext a b es ps f k.1)

all_push : (js : List Journey) (es : List Entry) (ps : List LinePlace) (e : Entry) (p : LinePlace) → AllGood js es ps → GoodKind js (kind_of e.line) p.frame
    → AllGood js (es ++ e ∷ []) (ps ++ p ∷ [])
all_push js [] [] e p k g = (g, tt)
all_push js [] (q ∷ ps) e p k g = absurd k
all_push js (d ∷ es) [] e p k g = absurd k
all_push js (d ∷ es) (q ∷ ps) e p k g = (k.0, all_push js es ps e p k.1 g)

pub record Kept (done : List Entry) (s : TraceWalk) : Type 0 where
  pub fine : Fine s
  pub good : AllGood s.journeys done s.places

pub step_kept : (hosts : List ℕ) (done : List Entry) (e : Entry) (s : TraceWalk) → Kept done s → Kept (done ++ e ∷ []) (step hosts e s)
step_kept hosts done e s k =
    let t : TraceWalk = row_of e s in
    let u : TraceWalk = go_by hosts e.line t in
    let there : Fine t = row_fine e s k.fine in
    let p : LinePlace = record (place_of hosts e.line t) { begins = begins e.event s } in
    let before : AllGood t.journeys done s.places = subst (λ (js : List Journey). AllGood js done s.places) (sym (row_ways e s)) k.good in
    let behind : AllGood u.journeys done s.places = all_ext t.journeys u.journeys done s.places (go_by_ext hosts e.line t) before in
    let same : u.places ≡ s.places = go_by_places hosts e.line t ∙ row_places e s in
    record {
      fine = record {
        what = go_by_what hosts e.line t there.what;
        taken = go_by_there hosts e.line t there.taken;
        ways = go_by_sent hosts e.line t there.what there.ways;
      };
      good = subst (λ (ps : List LinePlace). AllGood u.journeys (done ++ e ∷ []) (ps ++ p ∷ [])) (sym same)
          (all_push u.journeys done s.places e p behind (place_good hosts e.line t there));
    }

pub go_kept : (hosts : List ℕ) (done es : List Entry) (s : TraceWalk) → Kept done s → Kept (done ++ es) (go hosts es s)
go_kept hosts done [] s k = subst (λ (x : List Entry). Kept x s) (sym (append-nil done)) k
go_kept hosts done (e ∷ es) s k =
    subst (λ (x : List Entry). Kept x (go hosts es (step hosts e s))) (append_assoc done (e ∷ []) es)
    (go_kept hosts (done ++ e ∷ []) es (step hosts e s) (step_kept hosts done e s k))

pub start_kept : Kept [] start
start_kept = record { fine = record { what = ((λ e. absurd cc), (λ e. absurd cc)); taken = tt; ways = All-nil IsSent }; good = tt }

-- ---- marks

there_some : (log : Bool) (w : TraceWalk) (p : LinePlace) (o : Option Journey) → IsThere o → IfSome o IsSent → (sight_by w log p o).stroke ≢ stroke.Forged
there_some log w p None k a = absurd k
there_some log w p (Some j) k a = a.0

frame_stroke : (log : Bool) (w : TraceWalk) (p : LinePlace) (o : Option ℕ) → All IsSent w.journeys → GoodFrame w.journeys o → (sight_by w log p (journey w o)).stroke ≢ stroke.Forged
frame_stroke log w p None a k = absurd k
frame_stroke log w p (Some i) a k = there_some log w p (slice_get w.journeys i) k (sent_by w.journeys i a)

lost_some : (log : Bool) (w : TraceWalk) (p : LinePlace) (o : Option Journey) → IsLost o → (sight_by w log p o).stroke ≡ stroke.Lost
lost_some log w p None k = absurd k
lost_some log w p (Some j) k = k

loss_stroke : (log : Bool) (w : TraceWalk) (p : LinePlace) (o : Option ℕ) → GoodLoss w.journeys o
    → ((sight_by w log p (journey w o)).stroke ≡ stroke.Lost) ⊎ ((sight_by w log p (journey w o)).stroke ≡ outside_stroke log)
loss_stroke log w p None k = inr refl
loss_stroke log w p (Some i) k = inl (lost_some log w p (slice_get w.journeys i) k)

kind_stroke : (log : Bool) (w : TraceWalk) (p : LinePlace) (x : Kind) → All IsSent w.journeys → GoodKind w.journeys x p.frame
    → AgreesStroke log x (sight_by w log p (journey w p.frame)).stroke
kind_stroke log w p kind.Loss a k = loss_stroke log w p p.frame k
kind_stroke log w p kind.Frame a k = frame_stroke log w p p.frame a k
kind_stroke log w p kind.Arrival a k = tt
kind_stroke log w p kind.Sending a k = tt
kind_stroke log w p kind.Value a k = tt
kind_stroke log w p kind.Exception a k = tt
kind_stroke log w p kind.Spent a k = tt
kind_stroke log w p kind.Dropped a k = tt
kind_stroke log w p kind.Note a k = tt
kind_stroke log w p kind.Start a k = tt
kind_stroke log w p kind.Forgery a k = tt
kind_stroke log w p kind.Aside a k = tt
kind_stroke log w p kind.Unseen a k = tt

pub get_next : (front ps : List LinePlace) (p : LinePlace) → slice_get (front ++ p ∷ ps) (length front) ≡ Some p
get_next [] ps p = refl
get_next (q ∷ front) ps p = get_next front ps p

pub place_next : (w : TraceWalk) (front ps : List LinePlace) (p : LinePlace) → w.places ≡ front ++ p ∷ ps → place_at w (length front) ≡ p
place_next w front ps p e = ap (λ (x : List LinePlace). place_by (slice_get x (length front))) e ∙ ap place_by (get_next front ps p)

marks_agree : (w : TraceWalk) (log : Bool) → All IsSent w.journeys → (front ps : List LinePlace) (es : List Entry) (i : ℕ) → i ≡ length front → w.places ≡ front ++ ps
    → AllGood w.journeys es ps → All (λ m. AgreesStroke log m.kind m.stroke) (marks_from w log i es)
marks_agree w log a front ps [] i n e k = All-nil (λ m. AgreesStroke log m.kind m.stroke)
marks_agree w log a front [] (d ∷ es) i n e k = absurd k
marks_agree w log a front (p ∷ ps) (d ∷ es) i n e k =
    let here : place_at w i ≡ p = ap (place_at w) n ∙ place_next w front ps p e in
    All-cons (λ m. AgreesStroke log m.kind m.stroke) (mark_of d (sight_at w log i) log) (marks_from w log (i + 1) es)
    (subst (λ (q : LinePlace). AgreesStroke log (kind_of d.line) (sight_by w log q (journey w q.frame)).stroke) (sym here) (kind_stroke log w p (kind_of d.line) a k.0))
    (marks_agree w log a (front ++ p ∷ []) ps es (i + 1) (longer n) (e ∙ sym (append_assoc front (p ∷ []) ps)) k.1)
  where
    longer : i ≡ length front → i + 1 ≡ length (front ++ p ∷ [])
    longer h = omega (arith, h, length-append front (p ∷ []))

pub agree : (t : Trace) → All (λ m. AgreesStroke (is_log t.ledger) m.kind m.stroke) (drawing_of t).marks
agree t =
    let w : TraceWalk = go (hosts_of t.entries) t.entries start in
    let k : Kept t.entries w = go_kept (hosts_of t.entries) [] t.entries start start_kept in
    marks_agree w (is_log t.ledger) k.fine.ways [] w.places t.entries 0 refl refl k.good
