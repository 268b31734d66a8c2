-- Windows that stand for what was taken on each device.
use Rattle.std.proofs.Common.{◌≡◌, ℕ, zero, suc, true, false, List, [], ◌∷◌, ◌++◌, replicate, Some, None, refl, sym, ap, ◌∙◌, subst, arith}
use Rattle.std.specs.Prelude.{slice_get, slice_set, slice_index_or, nat_lt, ◌<◌, ◌≤◌, length}
use Rattle.std.proofs.lemmas.Bool.Decides.{nat_tests}
use Rattle.plan_base.specs.declared.stamp.Stamp.{Stamp}
use Rattle.replay_window.specs.declared.window.Took.{Took}
use Rattle.replay_window.specs.declared.window.Took.TheVariants.{Fresh}
use Rattle.replay_window.specs.Seen.{Seen, nothing_seen, took, seen_with}
use Rattle.replay_window.specs.Stands.{WindowStands}
use Rattle.replay_window.specs.declared.window.Window.{Window}
use Rattle.node_core_spec.specs.State.{none_seen}
use Rattle.node_core_spec.specs.Node.{took_by, seen_at}
use Rattle.plan_base.specs.declared.ids.Dev.{Dev}
use Rattle.node_core_parts.specs.Windows.{AllSeen}

-- a window that is there stands for what was taken there
record SeenThere (ts : List Seen) (i : ℕ) (w : Window) : Type 0 where
  t : Seen
  is : slice_get ts i ≡ Some t
  stands : WindowStands t w

later : (u : Seen) (ts : List Seen) (i : ℕ) (w : Window) → SeenThere ts i w → SeenThere (u ∷ ts) (suc i) w
later u ts i w h = record { t = h.t; is = h.is; stands = h.stands }

set_stands : (ts : List Seen) (ws : List Window) (i : ℕ) (t : Seen) (w : Window) → AllSeen ts ws → WindowStands t w → AllSeen (slice_set ts i t) (slice_set ws i w)
set_stands [] [] i t w a h = tt
set_stands [] (v ∷ ws) i t w a h = absurd a
set_stands (u ∷ ts) [] i t w a h = absurd a
set_stands (u ∷ ts) (v ∷ ws) zero t w a h = (h, a.1)
set_stands (u ∷ ts) (v ∷ ws) (suc i) t w a h = (a.0, set_stands ts ws i t w a.1 h)

seen_index : (ts : List Seen) (ws : List Window) (i : ℕ) (d : Window) → AllSeen ts ws → i < length ws → SeenThere ts i (slice_index_or ws i d)
seen_index [] [] i d a e = absurd (omega (arith, e))
seen_index [] (v ∷ ws) i d a e = absurd a
seen_index (t ∷ ts) [] i d a e = absurd a
seen_index (t ∷ ts) (v ∷ ws) zero d a e = record { t = t; is = refl; stands = a.0 }
seen_index (t ∷ ts) (v ∷ ws) (suc i) d a e = later t ts i (slice_index_or ws i d) (seen_index ts ws i d a.1 (omega (arith, e)))

none_index : (ts : List Seen) (ws : List Window) (i : ℕ) → AllSeen ts ws → length ws ≤ i → slice_get ts i ≡ None
none_index [] [] i a e = refl
none_index [] (v ∷ ws) i a e = absurd a
none_index (t ∷ ts) [] i a e = absurd a
none_index (t ∷ ts) (v ∷ ws) zero a e = absurd (omega (arith, e))
none_index (t ∷ ts) (v ∷ ws) (suc i) a e = none_index ts ws i a.1 (omega (arith, e))

within : (i n : ℕ) → true ≡ nat_lt i n → i < n
within i n e = grind (arith, nat_tests)

beyond : (i n : ℕ) → false ≡ nat_lt i n → n ≤ i
beyond i n e = grind (arith, nat_tests)

-- what a window that is there answers
pub windows_judge : (ts : List Seen) (ws : List Window) (i : ℕ) (d : Window) (s : Stamp) (r : Took) → AllSeen ts ws → true ≡ nat_lt i (length ws)
    → ((t : Seen) → WindowStands t (slice_index_or ws i d) → r ≡ took t s) → r ≡ took_by (slice_get ts i) s
windows_judge ts ws i d s r a e k = let h = seen_index ts ws i d a (within i (length ws) e) in k h.t h.stands ∙ sym (ap (λ o. took_by o s) h.is)

pub not_judged : (ts : List Seen) (ws : List Window) (i : ℕ) (s : Stamp) → AllSeen ts ws → false ≡ nat_lt i (length ws) → Fresh ≡ took_by (slice_get ts i) s
not_judged ts ws i s a e = sym (ap (λ o. took_by o s) (none_index ts ws i a (beyond i (length ws) e)))

-- what stands where a window that is there takes a fresh stamp
pub windows_note : (ts : List Seen) (ws : List Window) (at : Dev) (d new : Window) (s : Stamp) → AllSeen ts ws → at.0 < length ws → took_by (slice_get ts at.0) s ≡ Fresh
    → ((t : Seen) → WindowStands t (slice_index_or ws at.0 d) → took t s ≡ Fresh → WindowStands (seen_with t s) new) → AllSeen (seen_at ts at s (slice_get ts at.0)) (slice_set ws at.0 new)
windows_note ts ws at d new s a e f k =
    let h = seen_index ts ws at.0 d a e in
    subst (λ o. AllSeen (seen_at ts at s o) (slice_set ws at.0 new)) (sym h.is)
    (set_stands ts ws at.0 (seen_with h.t s) new a (k h.t h.stands (sym (ap (λ o. took_by o s) h.is) ∙ f)))

pub not_noted : (ts : List Seen) (ws : List Window) (at : Dev) (s : Stamp) → AllSeen ts ws → length ws ≤ at.0 → AllSeen (seen_at ts at s (slice_get ts at.0)) ws
not_noted ts ws at s a e = subst (λ o. AllSeen (seen_at ts at s o) ws) (sym (none_index ts ws at.0 a e)) a

-- one window more that has taken nothing
pub opened_more : (ws : List Window) (w : Window) → AllSeen (replicate (length ws) nothing_seen) ws → WindowStands nothing_seen w
    → AllSeen (replicate (length (ws ++ w ∷ [])) nothing_seen) (ws ++ w ∷ [])
opened_more [] w a h = (h, tt)
opened_more (v ∷ ws) w a h = (a.0, opened_more ws w a.1 h)

-- nine windows that have taken nothing
pub opened_windows : (ws : List Window) → length ws ≤ 9 → 9 ≤ length ws → AllSeen (replicate (length ws) nothing_seen) ws → AllSeen none_seen ws
opened_windows ws short long a = let e : length ws ≡ 9 = omega (arith, short, long) in subst (λ n. AllSeen (replicate n nothing_seen) ws) e a
