-- All marks of a drawing lie inside the picture: how its lines are seen, and its pixels.
use Rattle.std.proofs.Common.{ℕ, zero, suc, ◌+◌, ◌*◌, ◌-◌, ◌≤◌, max, Bool, true, false, if◌then◌else◌, eqb, ◌&&◌, List, [], ◌∷◌, length, Some, None, arith}
use Rattle.std.specs.Prelude.{Option, slice_get, IfSome}
use Rattle.std.specs.List.{All}
use Rattle.std.proofs.lemmas.List.Elements.{All-nil, All-cons, All-head, All-tail}
use Rattle.trace_chart_picture.specs.declared.drawing.Point.{Point}
use Rattle.trace_chart_picture.specs.declared.drawing.Kind.{Kind}
use Rattle.trace_chart_picture.specs.declared.drawing.Kind.TheVariants as kind
use Rattle.trace_chart_picture.specs.declared.drawing.LineStyle.{LineStyle}
use Rattle.trace_chart_picture.specs.declared.drawing.LineStyle.TheVariants as stroke
use Rattle.trace_chart_picture.specs.declared.drawing.Drawing.{Drawing}
use Rattle.trace_chart_picture.specs.declared.line.Entry.{Entry}
use Rattle.trace_chart_picture.specs.declared.line.Row.{Row}
use Rattle.trace_chart_picture.specs.declared.line.Trace.{Trace}
use Rattle.trace_chart_picture.specs.declared.walk.Journey.{Journey}
use Rattle.trace_chart_picture.specs.declared.walk.TraceLink.{TraceLink}
use Rattle.trace_chart_picture.specs.declared.walk.LinePlace.{LinePlace}
use Rattle.trace_chart_picture.specs.declared.walk.TraceWalk.{TraceWalk}
use Rattle.trace_chart_picture.specs.declared.sights.Sight.{Sight}
use Rattle.trace_chart_picture.specs.Hosts.{hosts_of}
use Rattle.trace_chart_picture.specs.Kinds.{kind_of}
use Rattle.trace_chart_picture.specs.Inside.{IsInside, LiesInside}
use Rattle.trace_chart_picture.specs.Marks.{stand, mark_of, marks_from, height_of, drawing_of, is_log}
use Rattle.trace_chart_picture.specs.Sights.{middle_by, half_way, head_by, journey, place_by, place_at, sight_by, sight_at}
use Rattle.trace_chart_picture.specs.Walks.{next, far_end, start, go}
use Rattle.trace_chart_picture.proofs.Within.{last, IsIn, WayIn, WalkIn, taken_by, walked_in}

-- ---- how a line is seen

-- a place of a mark: at most half a column to the right of the last one, and not below the row behind the last line
abbrev IsSeen : ℕ → TraceWalk → Point → Type 0
IsSeen right w p = IsIn (right + 1) (next w.row) p

place_seen : (right row : ℕ) (places : List LinePlace) (i : ℕ) → All (λ p. IsIn right row p.at) places → IsIn right row (place_by (slice_get places i)).at
place_seen right row [] i k = (omega arith, omega arith)
place_seen right row (p ∷ ps) zero k = All-head (λ q. IsIn right row q.at) p ps k
place_seen right row (p ∷ ps) (suc i) k = place_seen right row ps i (All-tail (λ q. IsIn right row q.at) p ps k)

far_by : (right : ℕ) (b : Bool) (far : ℕ) (o : Option ℕ) → far ≤ right → IfSome o (λ x. x ≤ right) → IfSome (if b then Some far else o) (λ x. x ≤ right)
far_by right true far o a k = a
far_by right false far o a k = k

far_seen : (right across device : ℕ) (links : List TraceLink) → All (λ l. l.far ≤ right) links → IfSome (far_end across device links) (λ x. x ≤ right)
far_seen right across device [] k = tt
far_seen right across device (l ∷ ls) k =
    far_by right (eqb l.across across && eqb l.device device) l.far (far_end across device ls) (All-head (λ x. x.far ≤ right) l ls k)
    (far_seen right across device ls (All-tail (λ x. x.far ≤ right) l ls k))

beside_by : (right : ℕ) (b : Bool) (from : ℕ) → from ≤ right → (if b then 0 else next from) ≤ right + 1
beside_by right true from k = omega arith
beside_by right false from k = omega (arith, k)

middle_seen : (right from : ℕ) (o : Option ℕ) → from ≤ right → IfSome o (λ x. x ≤ right) → middle_by from o ≤ right + 1
middle_seen right from (Some far) a k = omega (arith, a, k)
middle_seen right from None a k = beside_by right (eqb from 0) from a

half_seen : (right : ℕ) (w : TraceWalk) (j : Journey) → WalkIn right w → WayIn right w.row j → IsSeen right w (half_way w j)
half_seen right w j k a = (middle_seen right j.from.across (far_end j.from.across j.device w.links) a.from.0 (far_seen right j.from.across j.device w.links k.links), a.to.1)

end_seen : (right : ℕ) (w : TraceWalk) (j : Journey) → WayIn right w.row j → IsSeen right w j.to
end_seen right w j a = (omega (arith, a.to.0), a.to.1)

head_seen : (right : ℕ) (w : TraceWalk) (j : Journey) (s : LineStyle) → WalkIn right w → WayIn right w.row j → IsSeen right w (head_by s w j)
head_seen right w j stroke.Lost k a = half_seen right w j k a
head_seen right w j stroke.Open k a = half_seen right w j k a
head_seen right w j stroke.Packet k a = end_seen right w j a
head_seen right w j stroke.Advert k a = end_seen right w j a
head_seen right w j stroke.Forged k a = end_seen right w j a

at_seen : (right : ℕ) (w : TraceWalk) (p : Point) → WalkIn right w → IsIn right w.row p → IsSeen right w p
at_seen right w p k a = (omega (arith, a.0), omega (arith, a.1, k.row))

sight_seen : (right : ℕ) (w : TraceWalk) (is_log : Bool) (p : LinePlace) (o : Option Journey) → WalkIn right w → IsIn right w.row p.at → IfSome o (WayIn right w.row)
    → IsSeen right w (sight_by w is_log p o).at × IsSeen right w (sight_by w is_log p o).to
sight_seen right w is_log p (Some j) k a b = (at_seen right w p.at k a, head_seen right w j j.stroke k b)
sight_seen right w is_log p None k a b = (at_seen right w p.at k a, at_seen right w p.at k a)

stand_seen : (right : ℕ) (w : TraceWalk) (x : Kind) (s : Sight) → IsSeen right w s.at → IsSeen right w s.to → IsSeen right w (stand x s)
stand_seen right w kind.Loss s a b = b
stand_seen right w kind.Frame s a b = a
stand_seen right w kind.Arrival s a b = a
stand_seen right w kind.Sending s a b = a
stand_seen right w kind.Value s a b = a
stand_seen right w kind.Exception s a b = a
stand_seen right w kind.Spent s a b = a
stand_seen right w kind.Dropped s a b = a
stand_seen right w kind.Note s a b = a
stand_seen right w kind.Start s a b = a
stand_seen right w kind.Forgery s a b = a
stand_seen right w kind.Aside s a b = a
stand_seen right w kind.Unseen s a b = a

-- ---- marks

abbrev kind_at : Entry → Kind
kind_at e = kind_of e.line

marks_seen : (right : ℕ) (w : TraceWalk) (d : Drawing) (is_log : Bool) → WalkIn right w → ((p : Point) → IsSeen right w p → IsInside d p)
    → (es : List Entry) (i : ℕ) → All (LiesInside d) (marks_from w is_log i es)
marks_seen right w d is_log k inside [] i = All-nil (LiesInside d)
marks_seen right w d is_log k inside (e ∷ es) i =
    let p : LinePlace = place_at w i in
    let seen = sight_seen right w is_log p (journey w p.frame) k (place_seen right w.row w.places i k.places) (taken_by right w p.frame k) in
    All-cons (LiesInside d) (mark_of e (sight_at w is_log i) is_log) (marks_from w is_log (i + 1) es)
    (record { at = inside (stand (kind_at e) (sight_at w is_log i)) (stand_seen right w (kind_at e) (sight_at w is_log i) seen.0 seen.1); to = inside (sight_at w is_log i).to seen.1 })
    (marks_seen right w d is_log k inside es (i + 1))

-- ---- pixels

across_fits : (hosts across : ℕ) → across ≤ 1 + 2 * hosts - 2 + 1 → across * 110 + 30 + 110 ≤ max (hosts * 220 + 140) 830
across_fits hosts across k = omega (arith, k)

down_fits : (row bottom : ℕ) (ledger : Option (List Row)) → row ≤ bottom → bottom ≤ 4294967295 → row * 18 + 66 + 24 ≤ height_of bottom ledger
down_fits row bottom None a b = omega (arith, a)
down_fits row bottom (Some rows) a b = omega (arith, a, b)

fits : (t : Trace) (p : Point) → IsSeen (last (hosts_of t.entries)) (go (hosts_of t.entries) t.entries start) p → IsInside (drawing_of t) p
fits t p k = record {
  across = across_fits (length (hosts_of t.entries)) p.across k.0;
  down = down_fits p.row (next (go (hosts_of t.entries) t.entries start).row) t.ledger k.1 (omega arith);
}

pub inside : (t : Trace) → All (LiesInside (drawing_of t)) (drawing_of t).marks
inside t =
    let hosts : List ℕ = hosts_of t.entries in
    marks_seen (last hosts) (go hosts t.entries start) (drawing_of t) (is_log t.ledger) (walked_in hosts t.entries) (fits t) t.entries 0
