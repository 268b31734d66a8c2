-- An arrow that is drawn as lost ends in a cross.
use Rattle.std.proofs.Common.{◌≡◌, ◌≢◌, ◌⊎◌, inl, inr, ℕ, zero, suc, ◌+◌, Bool, true, false, if◌then◌else◌, eqb, ltb}
use Rattle.std.proofs.Common.{List, [], ◌∷◌, ◌++◌, length, length-append, append_assoc, append-nil, slice_set, Some, None, refl, sym, ap, subst, ◌∙◌, arith}
use Rattle.std.specs.Prelude.{Option, slice_get, IfSome}
use Rattle.std.specs.List.{All}
use Rattle.std.proofs.lemmas.List.Elements.{All-nil, All-cons}
use Rattle.trace_chart_picture.specs.declared.drawing.Kind.{Kind}
use Rattle.trace_chart_picture.specs.declared.drawing.Kind.TheVariants as kind
use Rattle.trace_chart_picture.specs.declared.drawing.LineStyle.TheVariants as stroke
use Rattle.trace_chart_picture.specs.declared.drawing.Mark.{Mark}
use Rattle.trace_chart_picture.specs.declared.sights.Sight.{Sight}
use Rattle.trace_chart_picture.specs.declared.line.Line.{Line}
use Rattle.trace_chart_picture.specs.declared.line.Line.TheVariants.{Injected, Forged, Arrived, Asked, Printed, Delivered, Gave, Raised}
use Rattle.trace_chart_picture.specs.declared.line.Line.TheVariants.{Spent, Handled, Queued, Dropped, Refused, Advert, Heard, Ticked, Sent}
use Rattle.trace_chart_picture.specs.declared.line.Line.TheVariants.{Wire, WireShown, Off, Again, Lost, LostAdvert, Nothing}
use Rattle.trace_chart_picture.specs.declared.line.Entry.{Entry}
use Rattle.trace_chart_picture.specs.declared.line.Trace.{Trace}
use Rattle.trace_chart_picture.specs.declared.walk.Journey.{Journey}
use Rattle.trace_chart_picture.specs.declared.walk.LinePlace.{LinePlace}
use Rattle.trace_chart_picture.specs.declared.walk.TraceWalk.{TraceWalk}
use Rattle.trace_chart_picture.specs.Hosts.{column, hosts_of}
use Rattle.trace_chart_picture.specs.Kinds.{kind_of}
use Rattle.trace_chart_picture.specs.Marks.{stand, mark_of, marks_from, drawing_of, is_log}
use Rattle.trace_chart_picture.specs.Sights.{place_at, sight_at, sight_by, along, head, journey}
use Rattle.trace_chart_picture.specs.Strokes.{SomeOf, IsCrossOf}
use Rattle.trace_chart_picture.specs.Walks.{start, begins, here, add_link, taken_journey, set_at, set_taken}
use Rattle.trace_chart_picture.specs.Walks.{is_open, come_to, arrive, come_out_by, loss_place_by, lose_by, go_by, place_of, row_of, step, go}
use Rattle.trace_chart_picture.proofs.Agreeing.{IsSent, IsThere, GoodFrame, GoodKind, AllGood, Kept, lost_way, sent_at, go_by_places, row_places, row_ways, row_fine, step_kept, start_kept, go_kept, place_next}

-- ---- a way is drawn as lost by the line of a loss alone

same_some : (x y : Journey) → Some x ≡ Some y → x ≡ y
same_some x y e = cc

push_get : (js : List Journey) (x : Journey) (i : ℕ) (j : Journey) → slice_get (js ++ x ∷ []) i ≡ Some j → (slice_get js i ≡ Some j) ⊎ (j ≡ x)
push_get [] x zero j e = inr (sym (same_some x j e))
push_get [] x (suc i) j e = absurd cc
push_get (y ∷ ys) x zero j e = inl e
push_get (y ∷ ys) x (suc i) j e = push_get ys x i j e

set_get : (js : List Journey) (n : ℕ) (x : Journey) (i : ℕ) (j : Journey) → slice_get (slice_set js n x) i ≡ Some j → (slice_get js i ≡ Some j) ⊎ ((n ≡ i) × (j ≡ x))
set_get [] n x i j e = absurd cc
set_get (y ∷ ys) zero x zero j e = inr (refl, sym (same_some x j e))
set_get (y ∷ ys) zero x (suc i) j e = inl e
set_get (y ∷ ys) (suc n) x zero j e = inl e
set_get (y ∷ ys) (suc n) x (suc i) j e = further (set_get ys n x i j e)
  where
    further : (slice_get ys i ≡ Some j) ⊎ ((n ≡ i) × (j ≡ x)) → (slice_get ys i ≡ Some j) ⊎ ((suc n ≡ suc i) × (j ≡ x))
    further (inl a) = inl a
    further (inr a) = inr (ap suc a.0, a.1)

-- a way of these is one of those, or stands at this place
abbrev From : List Journey → List Journey → (ℕ → Journey → Type 0) → Type 0
From old new New = (i : ℕ) (j : Journey) → slice_get new i ≡ Some j → (slice_get old i ≡ Some j) ⊎ New i j

abbrev At : Option ℕ → Journey → ℕ → Journey → Type 0
At o x i j = (o ≡ Some i) × (j ≡ x)

either_from : (b : Bool) (old x y : List Journey) (New : ℕ → Journey → Type 0) → From old x New → From old y New → From old (if b then x else y) New
either_from true old x y New f g = f
either_from false old x y New f g = g

same_from : (js : List Journey) (New : ℕ → Journey → Type 0) → From js js New
same_from js New i j e = inl e

set_from_by : (js : List Journey) (n : ℕ) (x : Journey) → From js (slice_set js n x) (At (Some n) x)
set_from_by js n x i j e = named (set_get js n x i j e)
  where
    named : (slice_get js i ≡ Some j) ⊎ ((n ≡ i) × (j ≡ x)) → (slice_get js i ≡ Some j) ⊎ At (Some n) x i j
    named (inl a) = inl a
    named (inr a) = inr (ap Some a.0, a.1)

set_from : (o : Option ℕ) (x : Journey) (js : List Journey) → From js (set_at o x js) (At o x)
set_from None x js = same_from js (At None x)
set_from (Some n) x js = either_from (ltb n (length js)) js (slice_set js n x) js (At (Some n) x) (set_from_by js n x) (same_from js (At (Some n) x))

-- none of these is drawn as lost
abbrev NoneLost : ℕ → Journey → Type 0
NoneLost i j = j.stroke ≢ stroke.Lost

weaker : (old new : List Journey) (A B : ℕ → Journey → Type 0) → ((i : ℕ) (j : Journey) → A i j → B i j) → From old new A → From old new B
weaker old new A B f g i j e = by (g i j e)
  where
    by : (slice_get old i ≡ Some j) ⊎ A i j → (slice_get old i ≡ Some j) ⊎ B i j
    by (inl a) = inl a
    by (inr a) = inr (f i j a)

walk_from : (b : Bool) (old : List Journey) (s t : TraceWalk) (New : ℕ → Journey → Type 0) → From old s.journeys New → From old t.journeys New
    → From old (if b then s else t).journeys New
walk_from true old s t New f g = f
walk_from false old s t New f g = g

come_to_from : (j : Journey) (across : ℕ) (s : TraceWalk) → IsSent j → From s.journeys (come_to j across s).journeys NoneLost
come_to_from j across s a =
    let x : Journey = record j { to = record { across = across; row = s.row }; stroke = j.what } in
    weaker s.journeys (set_at s.taken x s.journeys) (At s.taken x) NoneLost (λ i k h e. a.1.1 (sym (ap (λ (z : Journey). z.stroke) h.1) ∙ e)) (set_from s.taken x s.journeys)

come_out_from : (o : Option Journey) (across device : ℕ) (s : TraceWalk) → IfSome o IsSent → From s.journeys (come_out_by o across device s).journeys NoneLost
come_out_from None across device s a = same_from s.journeys NoneLost
come_out_from (Some j) across device s a =
    walk_from (is_open j.stroke) s.journeys (arrive j across device s) s NoneLost
    (walk_from (eqb j.from.across 0) s.journeys (come_to j across s) (add_link across device j.from.across (add_link j.from.across j.device across (come_to j across s))) NoneLost
    (come_to_from j across s a) (come_to_from j across s a)) (same_from s.journeys NoneLost)

-- what a loss draws as lost is what its cross is about
abbrev Crossed : Option ℕ → ℕ → Journey → Type 0
Crossed o i j = o ≡ Some i

lose_open : (b : Bool) (old : List Journey) (s t : TraceWalk) (p q : LinePlace) → From old s.journeys (Crossed p.frame) → ((New : ℕ → Journey → Type 0) → From old t.journeys New)
    → From old (if b then s else t).journeys (Crossed (if b then p else q).frame)
lose_open true old s t p q f g = f
lose_open false old s t p q f g = g (Crossed q.frame)

lose_from : (o : Option Journey) (s : TraceWalk) → From s.journeys (lose_by o s).journeys (Crossed (loss_place_by o s).frame)
lose_from None s = same_from s.journeys (Crossed s.taken)
lose_from (Some j) s =
    lose_open (is_open j.stroke) s.journeys (set_taken (lost_way j s.row) s) s (here 0 s.taken s) (here j.to.across None s)
    (weaker s.journeys (set_at s.taken (lost_way j s.row) s.journeys) (At s.taken (lost_way j s.row)) (Crossed s.taken) (λ i k h. h.0) (set_from s.taken (lost_way j s.row) s.journeys))
    (same_from s.journeys)

-- what a line draws as lost
abbrev New : Kind → Option ℕ → ℕ → Journey → Type 0
New kind.Loss o i j = o ≡ Some i
New _ o i j = j.stroke ≢ stroke.Lost

pushed_from : (js : List Journey) (x : Journey) → x.stroke ≢ stroke.Lost → From js (js ++ x ∷ []) NoneLost
pushed_from js x a i j e = by (push_get js x i j e)
  where
    by : (slice_get js i ≡ Some j) ⊎ (j ≡ x) → (slice_get js i ≡ Some j) ⊎ NoneLost i j
    by (inl h) = inl h
    by (inr h) = inr (λ k. a (sym (ap (λ (z : Journey). z.stroke) h) ∙ k))

go_by_from : (hosts : List ℕ) (l : Line) (s : TraceWalk) → All IsSent s.journeys → From s.journeys (go_by hosts l s).journeys (New (kind_of l) (place_of hosts l s).frame)
go_by_from hosts (Wire number) s a = pushed_from s.journeys _ (λ e. absurd cc)
go_by_from hosts (WireShown number hex) s a = pushed_from s.journeys _ (λ e. absurd cc)
go_by_from hosts (Arrived h d) s a = come_out_from (taken_journey s) (column hosts h.0) d.0 s (sent_at s.taken s a)
go_by_from hosts (Lost g bound) s a = lose_from (taken_journey s) s
go_by_from hosts LostAdvert s a = lose_from (taken_journey s) s
go_by_from hosts (Sent h d x) s a = same_from s.journeys NoneLost
go_by_from hosts (Off number) s a = same_from s.journeys NoneLost
go_by_from hosts (Again number) s a = same_from s.journeys NoneLost
go_by_from hosts (Injected h g n) s a = same_from s.journeys NoneLost
go_by_from hosts (Forged h g n) s a = same_from s.journeys NoneLost
go_by_from hosts (Asked h) s a = same_from s.journeys NoneLost
go_by_from hosts (Printed h v) s a = same_from s.journeys NoneLost
go_by_from hosts (Delivered h p v) s a = same_from s.journeys NoneLost
go_by_from hosts (Gave h g v evals left) s a = same_from s.journeys NoneLost
go_by_from hosts (Raised h g v evals left) s a = same_from s.journeys NoneLost
go_by_from hosts (Spent h g left) s a = same_from s.journeys NoneLost
go_by_from hosts (Handled h g n bound) s a = same_from s.journeys NoneLost
go_by_from hosts (Queued h d g bound) s a = same_from s.journeys NoneLost
go_by_from hosts (Dropped h r g bound) s a = same_from s.journeys NoneLost
go_by_from hosts (Refused h why) s a = same_from s.journeys NoneLost
go_by_from hosts (Advert h d) s a = same_from s.journeys NoneLost
go_by_from hosts (Heard h d) s a = same_from s.journeys NoneLost
go_by_from hosts (Ticked h now) s a = same_from s.journeys NoneLost
go_by_from hosts Nothing s a = same_from s.journeys NoneLost

new_is : (x : Kind) (o : Option ℕ) (i : ℕ) (j : Journey) → New x o i j → j.stroke ≡ stroke.Lost → (x ≡ kind.Loss) × (o ≡ Some i)
new_is kind.Loss o i j k e = (refl, k)
new_is kind.Frame o i j k e = absurd (k e)
new_is kind.Arrival o i j k e = absurd (k e)
new_is kind.Sending o i j k e = absurd (k e)
new_is kind.Value o i j k e = absurd (k e)
new_is kind.Exception o i j k e = absurd (k e)
new_is kind.Spent o i j k e = absurd (k e)
new_is kind.Dropped o i j k e = absurd (k e)
new_is kind.Note o i j k e = absurd (k e)
new_is kind.Start o i j k e = absurd (k e)
new_is kind.Forgery o i j k e = absurd (k e)
new_is kind.Aside o i j k e = absurd (k e)
new_is kind.Unseen o i j k e = absurd (k e)

-- ---- each way that is drawn as lost has a loss

abbrev HasLoss : ℕ → List Entry → List LinePlace → Type 0
HasLoss i [] ps = ⊥
HasLoss i (e ∷ es) [] = ⊥
HasLoss i (e ∷ es) (p ∷ ps) = ((kind_of e.line ≡ kind.Loss) × (p.frame ≡ Some i)) ⊎ HasLoss i es ps

has_push : (i : ℕ) (es : List Entry) (ps : List LinePlace) (e : Entry) (p : LinePlace) → HasLoss i es ps → HasLoss i (es ++ e ∷ []) (ps ++ p ∷ [])
has_push i [] ps e p k = absurd k
has_push i (d ∷ es) [] e p k = absurd k
has_push i (d ∷ es) (q ∷ ps) e p (inl k) = inl k
has_push i (d ∷ es) (q ∷ ps) e p (inr k) = inr (has_push i es ps e p k)

has_last : (js : List Journey) (i : ℕ) (es : List Entry) (ps : List LinePlace) (e : Entry) (p : LinePlace) → AllGood js es ps → kind_of e.line ≡ kind.Loss → p.frame ≡ Some i
    → HasLoss i (es ++ e ∷ []) (ps ++ p ∷ [])
has_last js i [] [] e p k a b = inl (a, b)
has_last js i [] (q ∷ ps) e p k a b = absurd k
has_last js i (d ∷ es) [] e p k a b = absurd k
has_last js i (d ∷ es) (q ∷ ps) e p k a b = inr (has_last js i es ps e p k.1 a b)

abbrev AllCrossed : List Entry → TraceWalk → Type 0
AllCrossed done s = (i : ℕ) (j : Journey) → slice_get s.journeys i ≡ Some j → j.stroke ≡ stroke.Lost → HasLoss i done s.places

step_crossed : (hosts : List ℕ) (done : List Entry) (e : Entry) (s : TraceWalk) → Kept done s → AllCrossed done s → AllCrossed (done ++ e ∷ []) (step hosts e s)
step_crossed hosts done e s k f i j there lost =
    let t : TraceWalk = row_of e s in
    let u : TraceWalk = go_by hosts e.line t in
    let p : LinePlace = record (place_of hosts e.line t) { begins = begins e.event s } in
    let same : u.places ≡ s.places = go_by_places hosts e.line t ∙ row_places e s in
    subst (λ (ps : List LinePlace). HasLoss i (done ++ e ∷ []) (ps ++ p ∷ [])) (sym same)
    (found hosts done e s k f i j lost (go_by_from hosts e.line t (row_fine e s k.fine).ways i j there))
  where
    found : (hosts : List ℕ) (done : List Entry) (e : Entry) (s : TraceWalk) → Kept done s → AllCrossed done s → (i : ℕ) (j : Journey) → j.stroke ≡ stroke.Lost
        → (slice_get (row_of e s).journeys i ≡ Some j) ⊎ New (kind_of e.line) (place_of hosts e.line (row_of e s)).frame i j
        → HasLoss i (done ++ e ∷ []) (s.places ++ record (place_of hosts e.line (row_of e s)) { begins = begins e.event s } ∷ [])
    found hosts done e s k f i j lost (inl a) =
        has_push i done s.places e (record (place_of hosts e.line (row_of e s)) { begins = begins e.event s })
        (f i j (ap (λ (js : List Journey). slice_get js i) (sym (row_ways e s)) ∙ a) lost)
    found hosts done e s k f i j lost (inr a) =
        let both = new_is (kind_of e.line) (place_of hosts e.line (row_of e s)).frame i j a lost in
        has_last s.journeys i done s.places e (record (place_of hosts e.line (row_of e s)) { begins = begins e.event s }) k.good both.0 both.1

go_crossed : (hosts : List ℕ) (done es : List Entry) (s : TraceWalk) → Kept done s → AllCrossed done s → AllCrossed (done ++ es) (go hosts es s)
go_crossed hosts done [] s k f = subst (λ (x : List Entry). AllCrossed x s) (sym (append-nil done)) f
go_crossed hosts done (e ∷ es) s k f =
    subst (λ (x : List Entry). AllCrossed x (go hosts es (step hosts e s))) (append_assoc done (e ∷ []) es)
    (go_crossed hosts (done ++ e ∷ []) es (step hosts e s) (step_kept hosts done e s k) (step_crossed hosts done e s k f))

start_crossed : AllCrossed [] start
start_crossed i j e lost = absurd cc

-- ---- marks

-- a mark that ends the way of a frame
abbrev Ends : TraceWalk → Journey → Mark → Type 0
Ends w j c = (c.kind ≡ kind.Loss) × (c.at ≡ head w j) × (c.stroke ≡ j.stroke)

stand_loss : (x : Kind) (s : Sight) → x ≡ kind.Loss → stand x s ≡ s.to
stand_loss x s e = ap (λ (y : Kind). stand y s) e

seen_as : (w : TraceWalk) (log : Bool) (p : LinePlace) (i : ℕ) (j : Journey) → p.frame ≡ Some i → slice_get w.journeys i ≡ Some j
    → sight_by w log p (journey w p.frame) ≡ along w p j
seen_as w log p i j a b = ap (λ (o : Option ℕ). sight_by w log p (journey w o)) a ∙ ap (sight_by w log p) b

some_ends : (w : TraceWalk) (log : Bool) (i : ℕ) (j : Journey) → slice_get w.journeys i ≡ Some j → (front ps : List LinePlace) (es : List Entry) (n : ℕ)
    → n ≡ length front → w.places ≡ front ++ ps → HasLoss i es ps → SomeOf (Ends w j) (marks_from w log n es)
some_ends w log i j there front ps [] n a b k = absurd k
some_ends w log i j there front [] (e ∷ es) n a b k = absurd k
some_ends w log i j there front (p ∷ ps) (e ∷ es) n a b (inl k) =
    let here : place_at w n ≡ p = ap (place_at w) a ∙ place_next w front ps p b in
    let seen : sight_at w log n ≡ along w p j = ap (λ (q : LinePlace). sight_by w log q (journey w q.frame)) here ∙ seen_as w log p i j k.1 there in
    inl (k.0, stand_loss (kind_of e.line) (sight_at w log n) k.0 ∙ ap (λ (s : Sight). s.to) seen, ap (λ (s : Sight). s.stroke) seen)
some_ends w log i j there front (p ∷ ps) (e ∷ es) n a b (inr k) =
    inr (some_ends w log i j there (front ++ p ∷ []) ps es (n + 1) (longer n front p a) (b ∙ sym (append_assoc front (p ∷ []) ps)) k)
  where
    longer : (n : ℕ) (front : List LinePlace) (p : LinePlace) → n ≡ length front → n + 1 ≡ length (front ++ p ∷ [])
    longer n front p h = omega (arith, h, length-append front (p ∷ []))

some_of : {A : Type 0} (P Q : A → Type 0) → ((x : A) → P x → Q x) → (xs : List A) → SomeOf P xs → SomeOf Q xs
some_of P Q f [] k = k
some_of P Q f (x ∷ xs) (inl k) = inl (f x k)
some_of P Q f (x ∷ xs) (inr k) = inr (some_of P Q f xs k)

-- the mark of a frame, and the cross at its head
abbrev IsCrossed : List Mark → Mark → Type 0
IsCrossed all m = m.kind ≡ kind.Frame → m.stroke ≡ stroke.Lost → SomeOf (IsCrossOf m) all

crossed_by : (t : Trace) (w : TraceWalk) (log : Bool) (d : Entry) (p : LinePlace) (o : Option ℕ) (x : Option Journey) (all : List Mark)
    → ((i : ℕ) (j : Journey) → slice_get w.journeys i ≡ Some j → j.stroke ≡ stroke.Lost → SomeOf (Ends w j) all)
    → p.frame ≡ o → journey w o ≡ x → GoodFrame w.journeys o → IsThere x
    → (m : Mark) → m.to ≡ (sight_by w log p x).to → m.stroke ≡ (sight_by w log p x).stroke → m.stroke ≡ stroke.Lost → SomeOf (IsCrossOf m) all
crossed_by t w log d p None x all f a b g h m to s lost = absurd g
crossed_by t w log d p (Some i) None all f a b g h m to s lost = absurd h
crossed_by t w log d p (Some i) (Some j) all f a b g h m to s lost =
    let gone : j.stroke ≡ stroke.Lost = sym s ∙ lost in
    some_of (Ends w j) (IsCrossOf m) (λ c k. record { kind = k.0; at = k.1 ∙ sym to; stroke = k.2 ∙ gone }) all (f i j b gone)

frame_good : (js : List Journey) (x : Kind) (o : Option ℕ) → x ≡ kind.Frame → GoodKind js x o → GoodFrame js o
frame_good js x o e k = subst (λ (y : Kind). GoodKind js y o) e k

there_of : (w : TraceWalk) (o : Option ℕ) → GoodFrame w.journeys o → IsThere (journey w o)
there_of w None g = g
there_of w (Some i) g = g

marks_crossed : (t : Trace) (w : TraceWalk) (log : Bool) (all : List Mark) → ((i : ℕ) (j : Journey) → slice_get w.journeys i ≡ Some j → j.stroke ≡ stroke.Lost → SomeOf (Ends w j) all)
    → (front ps : List LinePlace) (es : List Entry) (n : ℕ) → n ≡ length front → w.places ≡ front ++ ps → AllGood w.journeys es ps → All (IsCrossed all) (marks_from w log n es)
marks_crossed t w log all f front ps [] n a b k = All-nil (IsCrossed all)
marks_crossed t w log all f front [] (d ∷ es) n a b k = absurd k
marks_crossed t w log all f front (p ∷ ps) (d ∷ es) n a b k =
    let here : place_at w n ≡ p = ap (place_at w) a ∙ place_next w front ps p b in
    let seen : sight_at w log n ≡ sight_by w log p (journey w p.frame) = ap (λ (q : LinePlace). sight_by w log q (journey w q.frame)) here in
    let m : Mark = mark_of d (sight_at w log n) log in
    All-cons (IsCrossed all) m (marks_from w log (n + 1) es)
    (λ is lost. crossed_by t w log d p p.frame (journey w p.frame) all f refl refl (frame_good w.journeys (kind_of d.line) p.frame is k.0)
    (there_of w p.frame (frame_good w.journeys (kind_of d.line) p.frame is k.0)) m (ap (λ (s : Sight). s.to) seen) (ap (λ (s : Sight). s.stroke) seen) lost)
    (marks_crossed t w log all f (front ++ p ∷ []) ps es (n + 1) (longer n front p a) (b ∙ sym (append_assoc front (p ∷ []) ps)) k.1)
  where
    longer : (n : ℕ) (front : List LinePlace) (p : LinePlace) → n ≡ length front → n + 1 ≡ length (front ++ p ∷ [])
    longer n front p h = omega (arith, h, length-append front (p ∷ []))

pub crossed : (t : Trace) → All (IsCrossed (drawing_of t).marks) (drawing_of t).marks
crossed t =
    let hosts : List ℕ = hosts_of t.entries in
    let w : TraceWalk = go hosts t.entries start in
    let k : Kept t.entries w = go_kept hosts [] t.entries start start_kept in
    let f : AllCrossed t.entries w = go_crossed hosts [] t.entries start start_kept start_crossed in
    marks_crossed t w (is_log t.ledger) (drawing_of t).marks
    (λ i j there lost. some_ends w (is_log t.ledger) i j there [] w.places t.entries 0 refl refl (f i j there lost)) [] w.places t.entries 0 refl refl k.good
