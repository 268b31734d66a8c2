-- As many arrows, crosses and ends as frames, losses and visits.
use Rattle.std.proofs.Common.{◌≡◌, ℕ, Bool, List, [], ◌∷◌, ◌+◌, ◌≤◌, length, cond, refl, sym, ap, ◌∙◌, map}
use Rattle.std.proofs.lemmas.List.Sums.{sum_by-cons}
use Rattle.std.specs.List.{count_by}
use Rattle.trace_chart_picture.specs.declared.line.Line.{Line}
use Rattle.trace_chart_picture.specs.declared.line.Line.TheVariants.{Injected, Forged, Arrived, Asked, Printed, Delivered, Gave, Raised, Spent, Handled, Queued, Dropped, Refused, Advert, Heard}
use Rattle.trace_chart_picture.specs.declared.line.Line.TheVariants.{Ticked, Sent, Wire, WireShown, Off, Again, Lost, LostAdvert, Nothing}
use Rattle.trace_chart_picture.specs.Counts.{is_frame, is_loss, is_visit}
use Rattle.trace_chart_picture.specs.declared.drawing.Kind.{Kind}
use Rattle.trace_chart_picture.specs.declared.line.Entry.{Entry}
use Rattle.trace_chart_picture.specs.declared.line.Trace.{Trace}
use Rattle.trace_chart_picture.specs.declared.drawing.Drawing.{Drawing}
use Rattle.trace_chart_picture.specs.Kinds.{kind_of, label_text, is_arrow, is_cross, is_end}
use Rattle.trace_chart_picture.specs.declared.walk.TraceWalk.{TraceWalk}
use Rattle.trace_chart_picture.specs.Hosts.{hosts_of}
use Rattle.trace_chart_picture.specs.Walks.{start, go}
use Rattle.trace_chart_picture.specs.Marks.{marks_from, is_log, drawing_of}
use Rattle.trace_chart_picture.specs.Charts.{lines_of, kinds_of, labels_of, Draws}

-- a line and what it is drawn as are counted alike
record Alike (l : Line) : Type 0 where
  arrow : is_arrow (kind_of l) ≡ is_frame l
  cross : is_cross (kind_of l) ≡ is_loss l
  ending : is_end (kind_of l) ≡ is_visit l

alike : (l : Line) → Alike l
alike (Injected h f bound) = record { arrow = refl; cross = refl; ending = refl }
alike (Forged h f bound) = record { arrow = refl; cross = refl; ending = refl }
alike (Arrived h d) = record { arrow = refl; cross = refl; ending = refl }
alike (Asked h) = record { arrow = refl; cross = refl; ending = refl }
alike (Printed h v) = record { arrow = refl; cross = refl; ending = refl }
alike (Delivered h p v) = record { arrow = refl; cross = refl; ending = refl }
alike (Gave h f v evals rest) = record { arrow = refl; cross = refl; ending = refl }
alike (Raised h f x evals rest) = record { arrow = refl; cross = refl; ending = refl }
alike (Spent h f rest) = record { arrow = refl; cross = refl; ending = refl }
alike (Handled h f n bound) = record { arrow = refl; cross = refl; ending = refl }
alike (Queued h d f bound) = record { arrow = refl; cross = refl; ending = refl }
alike (Dropped h r f bound) = record { arrow = refl; cross = refl; ending = refl }
alike (Refused h why) = record { arrow = refl; cross = refl; ending = refl }
alike (Advert h d) = record { arrow = refl; cross = refl; ending = refl }
alike (Heard h d) = record { arrow = refl; cross = refl; ending = refl }
alike (Ticked h now) = record { arrow = refl; cross = refl; ending = refl }
alike (Sent h d x) = record { arrow = refl; cross = refl; ending = refl }
alike (Wire number) = record { arrow = refl; cross = refl; ending = refl }
alike (WireShown number hex) = record { arrow = refl; cross = refl; ending = refl }
alike (Off number) = record { arrow = refl; cross = refl; ending = refl }
alike (Again number) = record { arrow = refl; cross = refl; ending = refl }
alike (Lost f bound) = record { arrow = refl; cross = refl; ending = refl }
alike LostAdvert = record { arrow = refl; cross = refl; ending = refl }
alike Nothing = record { arrow = refl; cross = refl; ending = refl }

-- a count over the kinds is the count over the lines
same_count : (p : Kind → Bool) (q : Line → Bool) → ((l : Line) → p (kind_of l) ≡ q l) → (ls : List Line) → count_by p (map kind_of ls) ≡ count_by q ls
same_count p q same [] = refl
same_count p q same (l ∷ ls) =
    sum_by-cons (λ (k : Kind). cond (p k) 1 0) (kind_of l) (map kind_of ls)
    ∙ ap (λ (b : Bool). cond b 1 0 + count_by p (map kind_of ls)) (same l)
    ∙ ap (λ (n : ℕ). cond (q l) 1 0 + n) (same_count p q same ls)
    ∙ sym (sum_by-cons (λ (x : Line). cond (q x) 1 0) l ls)

arrow_count : (ks : List Kind) (ls : List Line) → ks ≡ map kind_of ls → count_by is_arrow ks ≡ count_by is_frame ls
arrow_count ks ls e = rw e (same_count is_arrow is_frame (λ l. (alike l).arrow) ls)

cross_count : (ks : List Kind) (ls : List Line) → ks ≡ map kind_of ls → count_by is_cross ks ≡ count_by is_loss ls
cross_count ks ls e = rw e (same_count is_cross is_loss (λ l. (alike l).cross) ls)

end_count : (ks : List Kind) (ls : List Line) → ks ≡ map kind_of ls → count_by is_end ks ≡ count_by is_visit ls
end_count ks ls e = rw e (same_count is_end is_visit (λ l. (alike l).ending) ls)

kinds_are : (w : TraceWalk) (is_log : Bool) (i : ℕ) (es : List Entry) → kinds_of (marks_from w is_log i es) ≡ map kind_of (lines_of es)
kinds_are w is_log i [] = refl
kinds_are w is_log i (e ∷ es) = ap (λ (ks : List Kind). kind_of e.line ∷ ks) (kinds_are w is_log (i + 1) es)

labels_are : (w : TraceWalk) (is_log : Bool) (i : ℕ) (es : List Entry) → labels_of (marks_from w is_log i es) ≡ map label_text (lines_of es)
labels_are w is_log i [] = refl
labels_are w is_log i (e ∷ es) = ap (λ (ls : List (List ℕ)). label_text e.line ∷ ls) (labels_are w is_log (i + 1) es)

-- the drawing of a trace draws it
pub draws : (t : Trace) (d : Drawing) → d ≡ drawing_of t → length (hosts_of t.entries) ≤ 64 → Draws t d
draws t d e few =
    let w : TraceWalk = go (hosts_of t.entries) t.entries start in
    let marks : d.marks ≡ marks_from w (is_log t.ledger) 0 t.entries = ap (λ (x : Drawing). x.marks) e in
    let known : kinds_of d.marks ≡ map kind_of (lines_of t.entries) = ap kinds_of marks ∙ kinds_are w (is_log t.ledger) 0 t.entries in
    record {
      whole = e;
      few = few;
      kinds = known;
      labels = ap labels_of marks ∙ labels_are w (is_log t.ledger) 0 t.entries;
      arrows = arrow_count (kinds_of d.marks) (lines_of t.entries) known;
      crosses = cross_count (kinds_of d.marks) (lines_of t.entries) known;
      ends = end_count (kinds_of d.marks) (lines_of t.entries) known;
    }
