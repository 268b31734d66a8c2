-- Totals over lines and over families.
use Rattle.std.proofs.Common.{◌≡◌, ℕ, ◌+◌, ◌^◌, ◌≤◌, ◌<◌, List, [], ◌∷◌, ◌++◌, map, length, take, get_or, slice_get, Some, refl, sym, ap, ◌∙◌, append_assoc, subst, arith}
use Rattle.std.specs.Prelude.{sum_by}
use Rattle.std.proofs.lemmas.List.{append-nil, take_all, length-append, map-append}
use Rattle.std.proofs.lemmas.List.Sums.{sum_by-cons, sum_by_push}
use Rattle.std.proofs.lemmas.Grind.{take_at_read}
use Rattle.std.proofs.lemmas.Option.{get_or_from_slice_get}
use Rattle.plan_base.specs.declared.ids.Family.{Family}
use Rattle.bound_ledger.specs.declared.row.Row.{Row}
use Rattle.bound_ledger.specs.Rows.{FamilyRow, OneEach, counts_of}
use Rattle.net_world_spec.specs.declared.lines.Line.{Line}
use Rattle.net_world_spec.specs.declared.lines.Entry.{Entry}
use Rattle.net_world_spec.specs.World.{WorldState, entry_at}
use Rattle.net_world_spec.specs.Counts.{Balanced, granted_sum, hops, evals, left_sum, live, tally}
use Rattle.net_world_spec.specs.Texts.{families}
use Rattle.net_world_spec.proofs.CountLaws.{tally-nil, tally-cons, tally-append}
use Rattle.bound_ledger.specs.Stands.{Stands}
use Rattle.bound_ledger.proofs.ByFamily.{by_family, standing_rows}
use Rattle.grow_run.specs.declared.summary.Summary.{Summary}
use Rattle.grow_run.specs.declared.sums.Totals.{Totals}
use Rattle.net_world_spec.specs.Visits.{line_ends}
use Rattle.grow_run.specs.Summaries.{line_drops, line_lost, with_line, HasRoom, summary_of, plus, SumsHaveRoom, row_sums, all_sums, summary_text, grown_text}

-- ---- lines

pub summary_none : ◌≡◌ {A = Summary} (record { lines = 0; visits = 0; drops = 0; lost = 0 }) (summary_of [])
unfolding summary_of
summary_none = λ i. record { lines = 0; visits = sym (tally-nil line_ends) i; drops = sym (tally-nil line_drops) i; lost = sym (tally-nil line_lost) i }

tally-push : (c : Line → ℕ) (h : List Entry) (e : Entry) → tally c (h ++ e ∷ []) ≡ tally c h + c e.line
tally-push c h e = omega (arith, tally-append c h (e ∷ []), tally-cons c e [], tally-nil c)

summary_line : (h : List Entry) (n : ℕ) (l : Line) → with_line l (summary_of h) ≡ summary_of (h ++ entry_at n l ∷ [])
unfolding summary_of
summary_line h n l =
    let e = entry_at n l in
    λ i. record {
      lines = sym (length-append h (e ∷ [])) i;
      visits = sym (tally-push line_ends h e) i;
      drops = sym (tally-push line_drops h e) i;
      lost = sym (tally-push line_lost h e) i;
    }

-- the counts with no line more, and with the next one
pub summary_start : (h : List Entry) (n : ℕ) (lines : List Line) → summary_of h ≡ summary_of (h ++ map (entry_at n) (take 0 lines))
summary_start h n lines = ap summary_of (sym (append-nil h))

pub summary_next : (h : List Entry) (n : ℕ) (lines : List Line) (i : ℕ) (l : Line) (now new : Summary) → i < length lines → l ≡ get_or lines i l → now ≡ summary_of (h ++ map (entry_at n) (take i lines)) → new ≡ with_line l now
    → new ≡ summary_of (h ++ map (entry_at n) (take (i + 1) lines))
summary_next h n lines i l now new within is s e =
    let before = h ++ map (entry_at n) (take i lines) in
    let next : take (i + 1) lines ≡ take i lines ++ l ∷ [] = (take_at_read lines i l within).1 ∙ ap (λ x. take i lines ++ x ∷ []) (sym is) in
    e ∙ ap (with_line l) s ∙ summary_line before n l
    ∙ ap summary_of (append_assoc h (map (entry_at n) (take i lines)) (entry_at n l ∷ []) ∙ ap (λ x. h ++ x) (sym (map-append (entry_at n) (take i lines) (l ∷ []))) ∙ ap (λ x. h ++ map (entry_at n) x) (sym next))

pub summary_all : (h : List Entry) (n : ℕ) (lines : List Line) (i : ℕ) (new : Summary) → length lines ≤ i → new ≡ summary_of (h ++ map (entry_at n) (take i lines)) → new ≡ summary_of (h ++ map (entry_at n) lines)
summary_all h n lines i new e s = s ∙ ap (λ x. summary_of (h ++ map (entry_at n) x)) (take_all i lines e)

-- ---- room

-- room for many is room for fewer
pub room_less : (s : Summary) (m n : ℕ) → n ≤ m → HasRoom m s → HasRoom n s
room_less s m n less r = (omega (arith, less, r.0), omega (arith, less, r.1), omega (arith, less, r.2), omega (arith, less, r.3))

-- before the first line there is room for as many as 127 bits count
pub room_first : (s : Summary) (n : ℕ) → n ≤ 2 ^ 127 → s ≡ summary_of [] → HasRoom n s
room_first s n few is = subst (HasRoom n) (summary_none ∙ sym is) (omega (arith, few), omega (arith, few), omega (arith, few), omega (arith, few))

pub sums_room_less : (s : Totals) (m n : ℕ) → n ≤ m → SumsHaveRoom m s → SumsHaveRoom n s
sums_room_less s m n less r = (omega (arith, less, r.0), omega (arith, less, r.1), omega (arith, less, r.2), omega (arith, less, r.3), omega (arith, less, r.4))

-- a row takes the room of a number of 64 bits
pub sums_room_next : (s new : Totals) (row : Row) (m n : ℕ) → n + 2 ^ 64 ≤ m → row.granted < 2 ^ 64 → row.hops < 2 ^ 64 → row.evals < 2 ^ 64 → row.live < 2 ^ 64 → row.left < 2 ^ 64
    → new ≡ plus s row → SumsHaveRoom m s → SumsHaveRoom n new
sums_room_next s new row m n more a b c d e is r =
    subst (SumsHaveRoom n) (sym is) (omega (arith, more, a, r.0), omega (arith, more, b, r.1), omega (arith, more, c, r.2), omega (arith, more, d, r.3), omega (arith, more, e, r.4))

-- ---- rows

pub sums_none : (rows : List FamilyRow) → ◌≡◌ {A = Totals} (record { granted = 0; hops = 0; evals = 0; live = 0; left = 0 }) (row_sums (take 0 rows))
unfolding row_sums
sums_none rows = refl

sums_push : (rows : List FamilyRow) (e : FamilyRow) → plus (row_sums rows) e.1 ≡ row_sums (rows ++ e ∷ [])
unfolding row_sums
sums_push rows e = λ i. record {
  granted = sym (sum_by_push (λ x. x.1.granted) rows e) i;
  hops = sym (sum_by_push (λ x. x.1.hops) rows e) i;
  evals = sym (sum_by_push (λ x. x.1.evals) rows e) i;
  live = sym (sum_by_push (λ x. x.1.live) rows e) i;
  left = sym (sum_by_push (λ x. x.1.left) rows e) i;
}

pub sums_next : (rows : List FamilyRow) (i : ℕ) (e : FamilyRow) (now new : Totals) → i < length rows → slice_get rows i ≡ Some e → now ≡ row_sums (take i rows) → new ≡ plus now e.1 → new ≡ row_sums (take (i + 1) rows)
sums_next rows i e now new within is s n =
    n ∙ ap (λ r. plus r e.1) s ∙ sums_push (take i rows) e
    ∙ ap row_sums (ap (λ x. take i rows ++ x ∷ []) (sym (get_or_from_slice_get rows i e e is)) ∙ sym (take_at_read rows i e within).1)

pub sums_all : (rows : List FamilyRow) (i : ℕ) (sums : Totals) → length rows ≤ i → sums ≡ row_sums (take i rows) → sums ≡ row_sums rows
sums_all rows i sums e h = h ∙ ap row_sums (take_all i rows e)

-- ---- families

by_sum : (count : Row → ℕ) (counts : Family → Row) (of : Family → ℕ) → ((f : Family) → count (counts f) ≡ of f) → (fs : List Family) → sum_by (λ e. count e.1) (by_family counts fs) ≡ sum_by of fs
by_sum count counts of same [] = refl
by_sum count counts of same (f ∷ fs) = omega (
  arith,
  sum_by-cons (λ e. count e.1) (f, counts f) (by_family counts fs),
  sum_by-cons of f fs,
  same f,
  by_sum count counts of same fs,
)

-- the sums of rows that stand for a history are those of its families
pub sums_are_counts : (h : List Entry) (w : WorldState) (rows : List FamilyRow) → OneEach rows → Stands h rows → ((f : Family) → Balanced f h w) → row_sums rows ≡ all_sums h w
unfolding row_sums all_sums
sums_are_counts h w rows d s law =
    let counts : Family → Row = λ f. counts_of f rows in
    let fs = families h in
    let all = standing_rows h rows d s in
    let lives : (f : Family) → (counts f).live ≡ live f w = λ f. omega (arith, (s.counts f).live, (law f).law) in
    λ i. record {
      granted = (ap (sum_by (λ e. e.1.granted)) all ∙ by_sum (λ r. r.granted) counts (λ f. granted_sum f h) (λ f. (s.counts f).granted) fs) i;
      hops = (ap (sum_by (λ e. e.1.hops)) all ∙ by_sum (λ r. r.hops) counts (λ f. hops f h) (λ f. (s.counts f).hops) fs) i;
      evals = (ap (sum_by (λ e. e.1.evals)) all ∙ by_sum (λ r. r.evals) counts (λ f. evals f h) (λ f. (s.counts f).evals) fs) i;
      live = (ap (sum_by (λ e. e.1.live)) all ∙ by_sum (λ r. r.live) counts (λ f. live f w) lives fs) i;
      left = (ap (sum_by (λ e. e.1.left)) all ∙ by_sum (λ r. r.left) counts (λ f. left_sum f h) (λ f. (s.counts f).left) fs) i;
    }

-- so a summary is that of the history
pub summary_is : (seed n : ℕ) (h : List Entry) (w : WorldState) (rows : List FamilyRow) (summary : Summary) (sums : Totals) → OneEach rows → Stands h rows → ((f : Family) → Balanced f h w) → summary ≡ summary_of h → sums ≡ row_sums rows
    → summary_text seed n summary sums ≡ grown_text seed n h w
unfolding grown_text
summary_is seed n h w rows summary sums d s law a b = λ i. summary_text seed n (a i) ((b ∙ sums_are_counts h w rows d s law) i)
