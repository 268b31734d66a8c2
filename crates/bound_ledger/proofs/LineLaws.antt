-- What lines do to the counts of each family, and which histories the rows then stand for.
use Rattle.std.proofs.Common.{◌≡◌, ℕ, ◌+◌, ◌-◌, ◌≤◌, ◌<◌, Bool, true, false, cond, List, [], ◌∷◌, ◌++◌, map, length, take, get_or, None, refl, sym, ap, ◌∙◌, arith}
use Rattle.std.specs.Prelude.{fold, if◌then◌else◌}
use Rattle.std.proofs.lemmas.Grind.{take_at_read}
use Rattle.std.proofs.lemmas.List.{take_all}
use Rattle.std.proofs.lemmas.List.Sums.{fold-append, sum_by-take-le}
use Rattle.std.proofs.lemmas.List.Folds.{fold-map}
use Rattle.plan_base.specs.declared.ids.Host.{Host}
use Rattle.plan_base.specs.declared.ids.Family.{Family}
use Rattle.bound_ledger.specs.declared.row.Row.{Row}
use Rattle.bound_ledger.specs.Counts.{nothing, more, hop_paid, paid, quit}
use Rattle.bound_ledger.specs.Rows.{FamilyRow, same_family, families_in, row_of, counts_of, changed_rows, with_grant}
use Rattle.bound_ledger.proofs.RowLaws.{same_is, same_self, counts_own, counts_other, counts_none, grant_own, grant_other, families_changed, families_granted, length_granted}
use Rattle.packet_frame.specs.declared.spelled.What.TheVariants as what
use Rattle.node_core_spec.specs.declared.acts.Act.TheVariants.{Injected, Arrived, Asked, Noted, Ended, Handled, Queued, Dropped, Bad, Misplaced, AdvertQueued, AdvertDropped, AdvertSpent, Stale, Heard, Ticked, Taken, SerialsSpent, NoMemory}
use Rattle.node_core_spec.specs.declared.acts.Act.{Act}
use Rattle.node_core_spec.specs.Counts.{is_family, only, act_hops, act_evals}
use Rattle.net_world_spec.specs.declared.lines.Line.{Line}
use Rattle.net_world_spec.specs.declared.lines.Line.TheVariants.{At, Forged, Wire, Off, Again, Lost, Nothing}
use Rattle.net_world_spec.specs.declared.lines.Entry.{Entry}
use Rattle.net_world_spec.specs.World.{entry_at}
use Rattle.net_world_spec.specs.Counts.{line_granted, line_hops, line_evals, line_left, line_sum, tally, left_from}
use Rattle.net_world_spec.specs.Texts.{line_families, with_family, families}
use Rattle.net_world_spec.proofs.CountLaws.{line_sum-nil, line_sum-one, line_sum-append, tally-nil, tally-append, tally-entries}
use Rattle.bound_ledger.specs.Counting.{granting, line_grants, leaving, act_moving, moving, CanGrant, CanLeave, CanMove, moved_row, Granted, Moved, GrantsFit, MovesFit, LinesFit, Leaves}
use Rattle.bound_ledger.specs.Stands.{Stands}

-- ---- counts that don't move

more_none : (r : Row) → r ≡ more 0 r
more_none r =
    let g : r.granted ≡ r.granted + 0 = omega arith in
    let l : r.live ≡ r.live + 0 = omega arith in
    λ i. record { granted = g i; hops = r.hops; evals = r.evals; live = l i; left = r.left }

more_more : (m n : ℕ) (r : Row) → more n (more m r) ≡ more (m + n) r
more_more m n r =
    let g : r.granted + m + n ≡ r.granted + (m + n) = omega arith in
    let l : r.live + m + n ≡ r.live + (m + n) = omega arith in
    λ i. record { granted = g i; hops = r.hops; evals = r.evals; live = l i; left = r.left }

moved_none : (r : Row) → r ≡ moved_row 0 0 0 r
moved_none r =
    let h : r.hops ≡ r.hops + 0 = omega arith in
    let e : r.evals ≡ r.evals + 0 = omega arith in
    let l : r.live ≡ r.live - (0 + 0 + 0) = omega arith in
    let q : r.left ≡ r.left + 0 = omega arith in
    λ i. record { granted = r.granted; hops = h i; evals = e i; live = l i; left = q i }

moved_moved : (a b c x y z : ℕ) (r : Row) → moved_row x y z (moved_row a b c r) ≡ moved_row (a + x) (b + y) (c + z) r
moved_moved a b c x y z r =
    let h : r.hops + a + x ≡ r.hops + (a + x) = omega arith in
    let e : r.evals + b + y ≡ r.evals + (b + y) = omega arith in
    let l : (r.live - (a + b + c)) - (x + y + z) ≡ r.live - ((a + x) + (b + y) + (c + z)) = omega arith in
    let q : r.left + c + z ≡ r.left + (c + z) = omega arith in
    λ i. record { granted = r.granted; hops = h i; evals = e i; live = l i; left = q i }

hopped_is : (r : Row) → hop_paid r ≡ moved_row 1 0 0 r
hopped_is r =
    let e : r.evals ≡ r.evals + 0 = omega arith in
    let l : r.live - 1 ≡ r.live - (1 + 0 + 0) = omega arith in
    let q : r.left ≡ r.left + 0 = omega arith in
    λ i. record { granted = r.granted; hops = r.hops + 1; evals = e i; live = l i; left = q i }

paid_is : (n : ℕ) (r : Row) → paid n r ≡ moved_row 0 n 0 r
paid_is n r =
    let h : r.hops ≡ r.hops + 0 = omega arith in
    let l : r.live - n ≡ r.live - (0 + n + 0) = omega arith in
    let q : r.left ≡ r.left + 0 = omega arith in
    λ i. record { granted = r.granted; hops = h i; evals = r.evals + n; live = l i; left = q i }

quit_is : (n : ℕ) (r : Row) → quit n r ≡ moved_row 0 0 n r
quit_is n r =
    let h : r.hops ≡ r.hops + 0 = omega arith in
    let e : r.evals ≡ r.evals + 0 = omega arith in
    let l : r.live - n ≡ r.live - (0 + 0 + n) = omega arith in
    λ i. record { granted = r.granted; hops = h i; evals = e i; live = l i; left = r.left + n }

-- ---- one family

pub only_own : (f : Family) (n : ℕ) → only f f n ≡ n
unfolding only is_family same_family
only_own f n = ap (λ b. cond b n 0) (same_self f)

granted_cases : (t : Bool) (f g : Family) (n : ℕ) (rows : List FamilyRow) → same_family f g ≡ t → counts_of f (with_grant g n rows) ≡ more (cond t n 0) (counts_of f rows)
granted_cases true f g n rows h = ap (λ x. counts_of f (with_grant x n rows)) (sym (same_is f g h)) ∙ grant_own f n rows
granted_cases false f g n rows h = grant_other f g n rows h ∙ more_none (counts_of f rows)

granted_as : (f g : Family) (n : ℕ) (rows : List FamilyRow) → counts_of f (with_grant g n rows) ≡ more (only f g n) (counts_of f rows)
unfolding only is_family same_family
granted_as f g n rows = granted_cases (same_family f g) f g n rows refl

moved_cases : (move : Row → Row) (a b c : ℕ) → ((r : Row) → move r ≡ moved_row a b c r) → (t : Bool) (f g : Family) (rows : List FamilyRow) → (row_of g rows ≡ None → move nothing ≡ nothing) → same_family f g ≡ t
    → counts_of f (changed_rows move g rows) ≡ moved_row (cond t a 0) (cond t b 0) (cond t c 0) (counts_of f rows)
moved_cases move a b c is true f g rows none h =
    let e = sym (same_is f g h) in
    ap (λ x. counts_of f (changed_rows move x rows)) e ∙ counts_own move f rows (λ n. none (ap (λ x. row_of x rows) e ∙ n)) ∙ is (counts_of f rows)
moved_cases move a b c is false f g rows none h = counts_other move f g rows h ∙ moved_none (counts_of f rows)

moved_as : (move : Row → Row) (a b c : ℕ) → ((r : Row) → move r ≡ moved_row a b c r) → (f g : Family) (rows : List FamilyRow) → (row_of g rows ≡ None → move nothing ≡ nothing)
    → counts_of f (changed_rows move g rows) ≡ moved_row (only f g a) (only f g b) (only f g c) (counts_of f rows)
unfolding only is_family same_family
moved_as move a b c is f g rows none = moved_cases move a b c is (same_family f g) f g rows none refl

-- a family without a row has nothing that is live
none_live : (f : Family) (rows : List FamilyRow) → row_of f rows ≡ None → (counts_of f rows).live ≡ 0
none_live f rows h = ap (λ r. r.live) (counts_none f rows h)

hop_as : (f g : Family) (rows : List FamilyRow) → 1 ≤ (counts_of g rows).live → counts_of f (changed_rows hop_paid g rows) ≡ moved_row (only f g 1) (only f g 0) (only f g 0) (counts_of f rows)
hop_as f g rows h = moved_as hop_paid 1 0 0 hopped_is f g rows (λ n. absurd (omega (arith, none_live g rows n)))

zero_paid : (n : ℕ) → n ≡ 0 → paid n nothing ≡ nothing
zero_paid n e = ap (λ x. paid x nothing) e

zero_quit : (n : ℕ) → n ≡ 0 → quit n nothing ≡ nothing
zero_quit n e = ap (λ x. quit x nothing) e

eval_as : (f g : Family) (n : ℕ) (rows : List FamilyRow) → n ≤ (counts_of g rows).live → counts_of f (changed_rows (paid n) g rows) ≡ moved_row (only f g 0) (only f g n) (only f g 0) (counts_of f rows)
eval_as f g n rows h = moved_as (paid n) 0 n 0 (paid_is n) f g rows (λ e. zero_paid n (omega (arith, none_live g rows e)))

left_as : (f g : Family) (n : ℕ) (rows : List FamilyRow) → n ≤ (counts_of g rows).live → counts_of f (changed_rows (quit n) g rows) ≡ moved_row (only f g 0) (only f g 0) (only f g n) (counts_of f rows)
left_as f g n rows h = moved_as (quit n) 0 0 n (quit_is n) f g rows (λ e. zero_quit n (omega (arith, none_live g rows e)))

only_zero : (f g : Family) → only f g 0 ≡ 0
unfolding only
only_zero f g = by (is_family f g)
  where
    by : (t : Bool) → ◌≡◌ {A = ℕ} (cond t 0 0) 0
    by true = refl
    by false = refl

-- what is live after evals were paid
pub live_left : (g : Family) (n m : ℕ) (rows : List FamilyRow) → n + m ≤ (counts_of g rows).live → m ≤ (counts_of g (changed_rows (paid n) g rows)).live
live_left g n m rows h = omega (arith, ap (λ r. r.live) (eval_as g g n rows (omega arith)), only_own g n, only_zero g g)

-- ---- one line

-- what a line does by its grant
record Grants (rows : List FamilyRow) (l : Line) : Type 0 where
  families : families_in (granting rows l) ≡ line_families (families_in rows) l
  counts : (f : Family) → counts_of f (granting rows l) ≡ more (line_granted f l) (counts_of f rows)
  few : length (granting rows l) ≤ length rows + line_grants l

-- a line that grants nothing
idle : (rows : List FamilyRow) (l : Line) → granting rows l ≡ rows → line_families (families_in rows) l ≡ families_in rows → ((f : Family) → line_granted f l ≡ 0) → Grants rows l
idle rows l same kept zero = record {
  families = ap families_in same ∙ sym kept;
  counts = λ f. ap (counts_of f) same ∙ more_none (counts_of f rows) ∙ ap (λ n. more n (counts_of f rows)) (sym (zero f));
  few = omega (arith, ap length same);
}

-- a new family stands last
new_family : (f : Family) (n : ℕ) (rows : List FamilyRow) → families_in (with_grant f n rows) ≡ with_family (families_in rows) f
unfolding is_family same_family
new_family f n rows = families_granted f n rows

line_does_grant : (rows : List FamilyRow) (l : Line) → Grants rows l
line_does_grant rows (At h (Injected g bound)) = record { families = new_family g bound rows; counts = λ f. granted_as f g bound rows; few = length_granted g bound rows }
line_does_grant rows (Forged h g bound) = record { families = new_family g bound rows; counts = λ f. granted_as f g bound rows; few = length_granted g bound rows }
line_does_grant rows (At h (Arrived d)) = idle rows _ refl refl (λ f. refl)
line_does_grant rows (At h Asked) = idle rows _ refl refl (λ f. refl)
line_does_grant rows (At h (Noted n)) = idle rows _ refl refl (λ f. refl)
line_does_grant rows (At h (Ended g o evals rest)) = idle rows _ refl refl (λ f. refl)
line_does_grant rows (At h (Handled g n bound)) = idle rows _ refl refl (λ f. refl)
line_does_grant rows (At h (Queued d g bound)) = idle rows _ refl refl (λ f. refl)
line_does_grant rows (At h (Dropped r g bound)) = idle rows _ refl refl (λ f. refl)
line_does_grant rows (At h (Bad e)) = idle rows _ refl refl (λ f. refl)
line_does_grant rows (At h Misplaced) = idle rows _ refl refl (λ f. refl)
line_does_grant rows (At h (AdvertQueued d)) = idle rows _ refl refl (λ f. refl)
line_does_grant rows (At h (AdvertDropped d)) = idle rows _ refl refl (λ f. refl)
line_does_grant rows (At h (AdvertSpent d)) = idle rows _ refl refl (λ f. refl)
line_does_grant rows (At h (Stale t w)) = idle rows _ refl refl (λ f. refl)
line_does_grant rows (At h (Heard d)) = idle rows _ refl refl (λ f. refl)
line_does_grant rows (At h (Ticked n)) = idle rows _ refl refl (λ f. refl)
line_does_grant rows (At h (Taken d w)) = idle rows _ refl refl (λ f. refl)
line_does_grant rows (At h SerialsSpent) = idle rows _ refl refl (λ f. refl)
line_does_grant rows (At h NoMemory) = idle rows _ refl refl (λ f. refl)
line_does_grant rows (Wire n bytes) = idle rows _ refl refl (λ f. refl)
line_does_grant rows (Off n) = idle rows _ refl refl (λ f. refl)
line_does_grant rows (Again n) = idle rows _ refl refl (λ f. refl)
line_does_grant rows (Lost w) = idle rows _ refl refl (λ f. refl)
line_does_grant rows Nothing = idle rows _ refl refl (λ f. refl)

-- what a line grants keeps the limits, where they leave room for it
can_grant : (rows : List FamilyRow) (l : Line) → length rows + line_grants l < 4294967296 → ((f : Family) → (counts_of f rows).granted + line_granted f l < 9223372036854775808) → CanGrant rows l
can_grant rows (At h (Injected g bound)) few limit = let l = limit g in (omega arith, omega (arith, only_own g bound))
can_grant rows (Forged h g bound) few limit = let l = limit g in (omega arith, omega (arith, only_own g bound))
can_grant rows (At h (Arrived d)) few limit = tt
can_grant rows (At h Asked) few limit = tt
can_grant rows (At h (Noted n)) few limit = tt
can_grant rows (At h (Ended g o evals rest)) few limit = tt
can_grant rows (At h (Handled g n bound)) few limit = tt
can_grant rows (At h (Queued d g bound)) few limit = tt
can_grant rows (At h (Dropped r g bound)) few limit = tt
can_grant rows (At h (Bad e)) few limit = tt
can_grant rows (At h Misplaced) few limit = tt
can_grant rows (At h (AdvertQueued d)) few limit = tt
can_grant rows (At h (AdvertDropped d)) few limit = tt
can_grant rows (At h (AdvertSpent d)) few limit = tt
can_grant rows (At h (Stale t w)) few limit = tt
can_grant rows (At h (Heard d)) few limit = tt
can_grant rows (At h (Ticked n)) few limit = tt
can_grant rows (At h (Taken d w)) few limit = tt
can_grant rows (At h SerialsSpent) few limit = tt
can_grant rows (At h NoMemory) few limit = tt
can_grant rows (Wire n bytes) few limit = tt
can_grant rows (Off n) few limit = tt
can_grant rows (Again n) few limit = tt
can_grant rows (Lost w) few limit = tt
can_grant rows Nothing few limit = tt

-- what a line does by what it pays and leaves
record Moves (late : Bool) (rows : List FamilyRow) (l : Line) : Type 0 where
  families : families_in (moving late rows l) ≡ families_in rows
  counts : (f : Family) → counts_of f (moving late rows l) ≡ moved_row (line_hops f l) (line_evals f l) (line_left f late l) (counts_of f rows)

-- a line that pays and leaves nothing
still : (late : Bool) (rows : List FamilyRow) (l : Line) → moving late rows l ≡ rows → ((f : Family) → line_hops f l ≡ 0) → ((f : Family) → line_evals f l ≡ 0) → ((f : Family) → line_left f late l ≡ 0)
    → Moves late rows l
still late rows l same h e q = record {
  families = ap families_in same;
  counts = λ f. ap (counts_of f) same ∙ moved_none (counts_of f rows) ∙ (λ i. moved_row (sym (h f) i) (sym (e f) i) (sym (q f) i) (counts_of f rows));
}

-- an act at which nothing is stale leaves the same whether its frame was handed before
unstale : (late : Bool) (n : ℕ) → n + (if late then 0 else 0) ≡ n
unstale true n = omega arith
unstale false n = omega arith

still_act : (late : Bool) (rows : List FamilyRow) (h : Host) (a : Act) → act_moving late rows a ≡ rows → ((f : Family) → act_hops f a ≡ 0) → ((f : Family) → act_evals f a ≡ 0)
    → ((f : Family) → line_left f late (At h a) ≡ 0 + (if late then 0 else 0))
    → Moves late rows (At h a)
still_act late rows h a same hops evals left = still late rows (At h a) same hops evals (λ f. left f ∙ unstale late 0)

-- a packet's bound that is left
leaves : (f g : Family) (bound : ℕ) (rows : List FamilyRow) → bound ≤ (counts_of g rows).live → counts_of f (changed_rows (quit bound) g rows) ≡ moved_row 0 0 (only f g bound) (counts_of f rows)
leaves f g bound rows h = left_as f g bound rows h ∙ (λ i. moved_row (only_zero f g i) (only_zero f g i) (only f g bound) (counts_of f rows))

plus_zero : (n : ℕ) → n + 0 ≡ n
plus_zero n = omega arith

zero_plus : (n : ℕ) → 0 + n ≡ n
zero_plus n = omega arith

zero_more : (n : ℕ) → n ≡ 0 + n
zero_more n = omega arith

ended_as : (f g : Family) (evals rest : ℕ) (rows : List FamilyRow) → evals + rest ≤ (counts_of g rows).live
    → counts_of f (changed_rows (quit rest) g (changed_rows (paid evals) g rows)) ≡ moved_row 0 (only f g evals) (only f g rest) (counts_of f rows)
ended_as f g evals rest rows h =
    leaves f g rest (changed_rows (paid evals) g rows) (live_left g evals rest rows h)
    ∙ ap (moved_row 0 0 (only f g rest)) (eval_as f g evals rows (omega arith) ∙ (λ i. moved_row (only_zero f g i) (only f g evals) (only_zero f g i) (counts_of f rows)))
    ∙ moved_moved 0 (only f g evals) 0 0 0 (only f g rest) (counts_of f rows)
    ∙ (λ i. moved_row 0 (plus_zero (only f g evals) i) (zero_plus (only f g rest) i) (counts_of f rows))

-- a frame that is stale or lost
leaves_late : (late : Bool) (f g : Family) (bound : ℕ) (rows : List FamilyRow) → CanLeave late g bound rows → counts_of f (leaving late g bound rows) ≡ moved_row 0 0 (if late then 0 else only f g bound) (counts_of f rows)
leaves_late true f g bound rows c = moved_none (counts_of f rows)
leaves_late false f g bound rows c = leaves f g bound rows (c refl)

families_late : (late : Bool) (g : Family) (bound : ℕ) (rows : List FamilyRow) → families_in (leaving late g bound rows) ≡ families_in rows
families_late true g bound rows = refl
families_late false g bound rows = families_changed (quit bound) g rows

line_does_move : (late : Bool) (rows : List FamilyRow) (l : Line) → CanMove late rows l → Moves late rows l
line_does_move late rows (At h (Queued d g bound)) c = record {
  families = families_changed hop_paid g rows;
  counts = λ f. hop_as f g rows c ∙ (λ i. moved_row (only f g 1) (only_zero f g i) ((only_zero f g ∙ sym (unstale late 0)) i) (counts_of f rows));
}
line_does_move late rows (At h (Ended g o evals rest)) c = record {
  families = families_changed (quit rest) g (changed_rows (paid evals) g rows) ∙ families_changed (paid evals) g rows;
  counts = λ f. ended_as f g evals rest rows c ∙ ap (λ n. moved_row 0 (only f g evals) n (counts_of f rows)) (sym (unstale late (only f g rest)));
}
line_does_move late rows (At h (Dropped r g bound)) c = record {
  families = families_changed (quit bound) g rows;
  counts = λ f. leaves f g bound rows c ∙ ap (λ n. moved_row 0 0 n (counts_of f rows)) (sym (unstale late (only f g bound)));
}
line_does_move late rows (At h (Stale t (what.Packet g bound))) c = record { families = families_late late g bound rows; counts = λ f. leaves_late late f g bound rows c ∙ ap (λ n. moved_row 0 0 n (counts_of f rows)) (zero_more _) }
line_does_move late rows (At h (Stale t what.Advert)) c = still_act late rows h _ refl (λ f. refl) (λ f. refl) (λ f. refl)
line_does_move late rows (Lost (what.Packet g bound)) c = record { families = families_late late g bound rows; counts = λ f. leaves_late late f g bound rows c }
line_does_move late rows (At h (Injected g bound)) c = still_act late rows h _ refl (λ f. refl) (λ f. refl) (λ f. refl)
line_does_move late rows (At h (Arrived d)) c = still_act late rows h _ refl (λ f. refl) (λ f. refl) (λ f. refl)
line_does_move late rows (At h Asked) c = still_act late rows h _ refl (λ f. refl) (λ f. refl) (λ f. refl)
line_does_move late rows (At h (Noted n)) c = still_act late rows h _ refl (λ f. refl) (λ f. refl) (λ f. refl)
line_does_move late rows (At h (Handled g n bound)) c = still_act late rows h _ refl (λ f. refl) (λ f. refl) (λ f. refl)
line_does_move late rows (At h (Bad e)) c = still_act late rows h _ refl (λ f. refl) (λ f. refl) (λ f. refl)
line_does_move late rows (At h Misplaced) c = still_act late rows h _ refl (λ f. refl) (λ f. refl) (λ f. refl)
line_does_move late rows (At h (AdvertQueued d)) c = still_act late rows h _ refl (λ f. refl) (λ f. refl) (λ f. refl)
line_does_move late rows (At h (AdvertDropped d)) c = still_act late rows h _ refl (λ f. refl) (λ f. refl) (λ f. refl)
line_does_move late rows (At h (AdvertSpent d)) c = still_act late rows h _ refl (λ f. refl) (λ f. refl) (λ f. refl)
line_does_move late rows (At h (Heard d)) c = still_act late rows h _ refl (λ f. refl) (λ f. refl) (λ f. refl)
line_does_move late rows (At h (Ticked n)) c = still_act late rows h _ refl (λ f. refl) (λ f. refl) (λ f. refl)
line_does_move late rows (At h (Taken d w)) c = still_act late rows h _ refl (λ f. refl) (λ f. refl) (λ f. refl)
line_does_move late rows (At h SerialsSpent) c = still_act late rows h _ refl (λ f. refl) (λ f. refl) (λ f. refl)
line_does_move late rows (At h NoMemory) c = still_act late rows h _ refl (λ f. refl) (λ f. refl) (λ f. refl)
line_does_move late rows (Forged h g bound) c = still late rows _ refl (λ f. refl) (λ f. refl) (λ f. refl)
line_does_move late rows (Wire n bytes) c = still late rows _ refl (λ f. refl) (λ f. refl) (λ f. refl)
line_does_move late rows (Off n) c = still late rows _ refl (λ f. refl) (λ f. refl) (λ f. refl)
line_does_move late rows (Again n) c = still late rows _ refl (λ f. refl) (λ f. refl) (λ f. refl)
line_does_move late rows (Lost what.Advert) c = still late rows _ refl (λ f. refl) (λ f. refl) (advert_left late)
  where
    advert_left : (late : Bool) (f : Family) → line_left f late (Lost what.Advert) ≡ 0
    advert_left true f = refl
    advert_left false f = refl
line_does_move late rows Nothing c = still late rows _ refl (λ f. refl) (λ f. refl) (λ f. refl)

-- the bound of a frame that was never handed is there, where its family has what it counts for it
can_leave : (late : Bool) (g : Family) (bound live : ℕ) → (if late then 0 else only g g bound) ≤ live → late ≡ false → bound ≤ live
can_leave true g bound live a e = cc
can_leave false g bound live a e = omega (arith, a, only_own g bound)

-- what a line pays and leaves is there, where each family has what it counts for it
can_move : (late : Bool) (rows : List FamilyRow) (l : Line) → ((f : Family) → line_hops f l + line_evals f l + line_left f late l ≤ (counts_of f rows).live) → CanMove late rows l
can_move late rows (At h (Queued d g bound)) a = let l = a g in omega (arith, only_own g 1)
can_move late rows (At h (Ended g o evals rest)) a = let l = a g in omega (arith, only_own g evals, only_own g rest)
can_move late rows (At h (Dropped r g bound)) a = let l = a g in omega (arith, only_own g bound)
can_move late rows (At h (Stale t (what.Packet g bound))) a = let l = a g in can_leave late g bound (counts_of g rows).live (omega (arith, l))
can_move late rows (At h (Stale t what.Advert)) a = tt
can_move late rows (Lost (what.Packet g bound)) a = let l = a g in can_leave late g bound (counts_of g rows).live (omega (arith, l))
can_move late rows (At h (Injected g bound)) a = tt
can_move late rows (At h (Arrived d)) a = tt
can_move late rows (At h Asked) a = tt
can_move late rows (At h (Noted n)) a = tt
can_move late rows (At h (Handled g n bound)) a = tt
can_move late rows (At h (Bad e)) a = tt
can_move late rows (At h Misplaced) a = tt
can_move late rows (At h (AdvertQueued d)) a = tt
can_move late rows (At h (AdvertDropped d)) a = tt
can_move late rows (At h (AdvertSpent d)) a = tt
can_move late rows (At h (Heard d)) a = tt
can_move late rows (At h (Ticked n)) a = tt
can_move late rows (At h (Taken d w)) a = tt
can_move late rows (At h SerialsSpent) a = tt
can_move late rows (At h NoMemory) a = tt
can_move late rows (Forged h g bound) a = tt
can_move late rows (Wire n bytes) a = tt
can_move late rows (Off n) a = tt
can_move late rows (Again n) a = tt
can_move late rows (Lost what.Advert) a = tt
can_move late rows Nothing a = tt

-- ---- the lines of an event

pub granted_none : (rows : List FamilyRow) → Granted [] rows rows
granted_none rows = record {
  families = refl;
  counts = λ f. more_none (counts_of f rows) ∙ ap (λ n. more n (counts_of f rows)) (sym (line_sum-nil (line_granted f)));
  few = omega (arith, line_sum-nil line_grants);
}

granted_next : (lines : List Line) (l : Line) (old now new : List FamilyRow) → Granted lines old now → new ≡ granting now l → Granted (lines ++ l ∷ []) old new
granted_next lines l old now new g e =
    let s = line_does_grant now l in
    record {
      families = ap families_in e ∙ s.families ∙ ap (λ fs. line_families fs l) g.families ∙ sym (fold-append line_families (families_in old) lines (l ∷ []));
      counts = λ f.
          let n = line_sum-append (line_granted f) lines (l ∷ []) ∙ ap (λ m. line_sum (line_granted f) lines + m) (line_sum-one (line_granted f) l) in
          ap (counts_of f) e ∙ s.counts f ∙ ap (more (line_granted f l)) (g.counts f) ∙ more_more (line_sum (line_granted f) lines) (line_granted f l) (counts_of f old) ∙ ap (λ m. more m (counts_of f old)) (sym n);
      few = omega (arith, ap length e, s.few, g.few, line_sum-append line_grants lines (l ∷ []), line_sum-one line_grants l);
    }

pub moved_no_lines : (late : Bool) (rows : List FamilyRow) → Moved late [] rows rows
moved_no_lines late rows = record {
  families = refl;
  counts = λ f. moved_none (counts_of f rows) ∙ (λ i. moved_row (sym (line_sum-nil (line_hops f)) i) (sym (line_sum-nil (line_evals f)) i) (sym (line_sum-nil (line_left f late)) i) (counts_of f rows));
}

sum_next : (c : Line → ℕ) (lines : List Line) (l : Line) → line_sum c (lines ++ l ∷ []) ≡ line_sum c lines + c l
sum_next c lines l = omega (arith, line_sum-append c lines (l ∷ []), line_sum-one c l)

moved_next : (late : Bool) (lines : List Line) (l : Line) (old now new : List FamilyRow) → Moved late lines old now → CanMove late now l → new ≡ moving late now l → Moved late (lines ++ l ∷ []) old new
moved_next late lines l old now new m c e =
    let s = line_does_move late now l c in
    record {
      families = ap families_in e ∙ s.families ∙ m.families;
      counts = λ f.
          ap (counts_of f) e ∙ s.counts f ∙ ap (moved_row (line_hops f l) (line_evals f l) (line_left f late l)) (m.counts f)
          ∙ moved_moved (line_sum (line_hops f) lines) (line_sum (line_evals f) lines) (line_sum (line_left f late) lines) (line_hops f l) (line_evals f l) (line_left f late l) (counts_of f old)
          ∙ (λ i. moved_row (sym (sum_next (line_hops f) lines l) i) (sym (sum_next (line_evals f) lines l) i) (sym (sum_next (line_left f late) lines l) i) (counts_of f old));
    }

-- some lines and the next one count at most what all count
sum_within : (c : Line → ℕ) (lines : List Line) (i : ℕ) (d : Line) → i < length lines → line_sum c (take i lines) + c (get_or lines i d) ≤ line_sum c lines
unfolding line_sum
sum_within c lines i d h = omega (arith, ap (line_sum c) (take_at_read lines i d h).1, sum_next c (take i lines) (get_or lines i d), sum_by-take-le c lines (i + 1))

module _ (lines : List Line) (i : ℕ) (l : Line) (within : i < length lines) (is : l ≡ get_or lines i l) where
  next_lines : take i lines ++ l ∷ [] ≡ take (i + 1) lines
  next_lines = ap (λ x. take i lines ++ x ∷ []) is ∙ sym (take_at_read lines i l within).1

  within_sum : (c : Line → ℕ) → line_sum c (take i lines) + c l ≤ line_sum c lines
  within_sum c = omega (arith, sum_within c lines i l within, ap c is)

  pub grant_fits : (old now : List FamilyRow) → GrantsFit old lines → Granted (take i lines) old now → CanGrant now l
  grant_fits old now a g = can_grant now l (omega (arith, a.few, g.few, within_sum line_grants)) (λ f. omega (arith, a.limit f, ap (λ r. r.granted) (g.counts f), within_sum (line_granted f)))

  pub granted_more : (old now new : List FamilyRow) → Granted (take i lines) old now → new ≡ granting now l → Granted (take (i + 1) lines) old new
  granted_more old now new g e = let next = granted_next (take i lines) l old now new g e in rw next_lines at next

  pub move_fits : (late : Bool) (old now : List FamilyRow) → MovesFit late old lines → Moved late (take i lines) old now → CanMove late now l
  move_fits late old now a m = can_move late now l (λ f. omega (arith, a.live f, ap (λ r. r.live) (m.counts f), within_sum (line_hops f), within_sum (line_evals f), within_sum (line_left f late)))

  pub moved_more : (late : Bool) (old now new : List FamilyRow) → MovesFit late old lines → Moved late (take i lines) old now → new ≡ moving late now l → Moved late (take (i + 1) lines) old new
  moved_more late old now new a m e = let next = moved_next late (take i lines) l old now new m (move_fits late old now a m) e in rw next_lines at next

pub granted_all : (lines : List Line) (i : ℕ) (old new : List FamilyRow) → length lines ≤ i → Granted (take i lines) old new → Granted lines old new
granted_all lines i old new h g = let e : take i lines ≡ lines = take_all i lines h in rw e at g

pub moved_all : (late : Bool) (lines : List Line) (i : ℕ) (old new : List FamilyRow) → length lines ≤ i → Moved late (take i lines) old new → Moved late lines old new
moved_all late lines i old new h m = let e : take i lines ≡ lines = take_all i lines h in rw e at m

-- once all is granted, what the lines pay and leave is there
pub moves_fit : (late : Bool) (lines : List Line) (old mid : List FamilyRow) → LinesFit late old lines → Granted lines old mid → MovesFit late mid lines
moves_fit late lines old mid a g = record { live = λ f. omega (arith, a.moves f, ap (λ r. r.live) (g.counts f)) }

-- ---- histories

families_more : (h : List Entry) (n : ℕ) (lines : List Line) → families (h ++ map (entry_at n) lines) ≡ fold line_families (families h) lines
unfolding families
families_more h n lines = fold-append (λ fs e. line_families fs e.line) [] h (map (entry_at n) lines) ∙ fold-map (λ fs e. line_families fs e.line) (entry_at n) (families h) lines

tally_more : (c : Line → ℕ) (h : List Entry) (n : ℕ) (lines : List Line) → tally c (h ++ map (entry_at n) lines) ≡ tally c h + line_sum c lines
tally_more c h n lines = omega (arith, tally-append c h (map (entry_at n) lines), tally-entries c n lines)

pub stands_more : (late : Bool) (h : List Entry) (n : ℕ) (lines : List Line) (old mid new : List FamilyRow) → LinesFit late old lines → Granted lines old mid → Moved late lines mid new → Leaves late h n lines → Stands h old
    → Stands (h ++ map (entry_at n) lines) new
stands_more late h n lines old mid new a g m l s = record {
  families = m.families ∙ g.families ∙ ap (λ fs. fold line_families fs lines) s.families ∙ sym (families_more h n lines);
  counts = λ f.
      let c = s.counts f in
      let more = g.counts f in
      let less = m.counts f in
      record {
        granted = omega (arith, ap (λ r. r.granted) less, ap (λ r. r.granted) more, c.granted, tally_more (line_granted f) h n lines);
        hops = omega (arith, ap (λ r. r.hops) less, ap (λ r. r.hops) more, c.hops, tally_more (line_hops f) h n lines);
        evals = omega (arith, ap (λ r. r.evals) less, ap (λ r. r.evals) more, c.evals, tally_more (line_evals f) h n lines);
        left = omega (arith, ap (λ r. r.left) less, ap (λ r. r.left) more, c.left, l f);
        live = omega (
          arith,
          ap (λ r. r.live) less,
          ap (λ r. r.live) more,
          c.live,
          a.moves f,
          tally_more (line_granted f) h n lines,
          tally_more (line_hops f) h n lines,
          tally_more (line_evals f) h n lines,
          l f,
        );
      };
}

-- the empty ledger stands for no history
pub nothing_stands : Stands [] []
unfolding families counts_of row_of left_from
nothing_stands = record {
  families = refl;
  counts = λ f. record {
    granted = sym (tally-nil (line_granted f));
    hops = sym (tally-nil (line_hops f));
    evals = sym (tally-nil (line_evals f));
    left = refl;
    live = omega (arith, tally-nil (line_granted f), tally-nil (line_hops f), tally-nil (line_evals f));
  };
}
