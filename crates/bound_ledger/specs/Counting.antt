-- What the lines of an event do to the rows of a ledger.
use Rattle.std.specs.Prelude.{◌≡◌, ℕ, ◌+◌, ◌-◌, ◌≤◌, ◌<◌, ◌^◌, Bool, false, if◌then◌else◌, List, ◌++◌, length, map, fold}
use Rattle.plan_base.specs.declared.ids.Family.{Family}
use Rattle.bound_ledger.specs.declared.row.Row.{Row}
use Rattle.bound_ledger.specs.Counts.{more, hop_paid, paid, quit}
use Rattle.bound_ledger.specs.Rows.{FamilyRow, families_in, counts_of, changed_rows, with_grant}
use Rattle.packet_frame.specs.declared.spelled.What.TheVariants as what
use Rattle.node_core_spec.specs.declared.acts.Act.{Act}
use Rattle.node_core_spec.specs.declared.acts.Act.TheVariants.{Injected, Ended, Queued, Dropped, Stale}
use Rattle.net_world_spec.specs.declared.lines.Line.{Line}
use Rattle.net_world_spec.specs.declared.lines.Line.TheVariants.{At, Forged, Lost}
use Rattle.net_world_spec.specs.declared.lines.Entry.{Entry}
use Rattle.net_world_spec.specs.World.{entry_at}
use Rattle.net_world_spec.specs.Counts as count
use Rattle.net_world_spec.specs.Counts.{line_granted, line_hops, line_evals, line_left, line_sum}
use Rattle.net_world_spec.specs.Texts.{line_families}

-- ---- one line

-- the rows with what a line grants
abbrev pub granting : List FamilyRow → Line → List FamilyRow
granting rows (At h (Injected f bound)) = with_grant f bound rows
granting rows (Forged h f bound) = with_grant f bound rows
granting rows _ = rows

-- 1 for a line that grants
abbrev pub line_grants : Line → ℕ
line_grants (At h (Injected f bound)) = 1
line_grants (Forged h f bound) = 1
line_grants _ = 0

-- the rows where a frame is stale or lost: its bound is left, unless that was counted when it was handed before
abbrev pub leaving : Bool → Family → ℕ → List FamilyRow → List FamilyRow
leaving late f bound rows = if late then rows else changed_rows (quit bound) f rows

-- the rows with what an act pays and leaves, where its event's frame was handed before or wasn't
abbrev pub act_moving : Bool → List FamilyRow → Act → List FamilyRow
act_moving late rows (Queued d f bound) = changed_rows hop_paid f rows
act_moving late rows (Ended f o evals rest) = changed_rows (quit rest) f (changed_rows (paid evals) f rows)
act_moving late rows (Dropped r f bound) = changed_rows (quit bound) f rows
act_moving late rows (Stale t (what.Packet f bound)) = leaving late f bound rows
act_moving late rows _ = rows

-- the rows with what a line pays and leaves
abbrev pub moving : Bool → List FamilyRow → Line → List FamilyRow
moving late rows (At h act) = act_moving late rows act
moving late rows (Lost (what.Packet f bound)) = leaving late f bound rows
moving late rows _ = rows

-- what a line grants keeps the limits
abbrev pub CanGrant : List FamilyRow → Line → Type 0
CanGrant rows (At h (Injected f bound)) = (length rows < 2 ^ 32 - 1) × ((counts_of f rows).granted + bound < 2 ^ 63)
CanGrant rows (Forged h f bound) = (length rows < 2 ^ 32 - 1) × ((counts_of f rows).granted + bound < 2 ^ 63)
CanGrant rows _ = Unit {0}

-- the bound of a frame that is stale or lost is there, unless it was handed before
abbrev pub CanLeave : Bool → Family → ℕ → List FamilyRow → Type 0
CanLeave late f bound rows = late ≡ false → bound ≤ (counts_of f rows).live

-- what an act pays and leaves is there
abbrev pub ActCanMove : Bool → List FamilyRow → Act → Type 0
ActCanMove late rows (Queued d f bound) = 1 ≤ (counts_of f rows).live
ActCanMove late rows (Ended f o evals rest) = evals + rest ≤ (counts_of f rows).live
ActCanMove late rows (Dropped r f bound) = bound ≤ (counts_of f rows).live
ActCanMove late rows (Stale t (what.Packet f bound)) = CanLeave late f bound rows
ActCanMove late rows _ = Unit {0}

-- what a line pays and leaves is there
abbrev pub CanMove : Bool → List FamilyRow → Line → Type 0
CanMove late rows (At h act) = ActCanMove late rows act
CanMove late rows (Lost (what.Packet f bound)) = CanLeave late f bound rows
CanMove late rows _ = Unit {0}

-- ---- the lines of an event

-- some of what is live paid hops and evals, and some is left
abbrev pub moved_row : ℕ → ℕ → ℕ → Row → Row
moved_row h e l r = record { granted = r.granted; hops = r.hops + h; evals = r.evals + e; live = r.live - (h + e + l); left = r.left + l }

-- the rows have what lines grant
pub record Granted (lines : List Line) (old new : List FamilyRow) : Type 0 where
  pub families : families_in new ≡ fold line_families (families_in old) lines
  pub counts : (f : Family) → counts_of f new ≡ more (line_sum (line_granted f) lines) (counts_of f old)
  pub few : length new ≤ length old + line_sum line_grants lines

-- the rows have what lines pay and leave
pub record Moved (late : Bool) (lines : List Line) (old new : List FamilyRow) : Type 0 where
  pub families : families_in new ≡ families_in old
  pub counts : (f : Family)
      → counts_of f new
      ≡ moved_row (line_sum (line_hops f) lines) (line_sum (line_evals f) lines) (line_sum (line_left f late) lines) (counts_of f old)

-- what lines grant keeps the limits
pub record GrantsFit (rows : List FamilyRow) (lines : List Line) : Type 0 where
  pub few : length rows + line_sum line_grants lines < 2 ^ 32
  pub limit : (f : Family) → (counts_of f rows).granted + line_sum (line_granted f) lines < 2 ^ 63

-- what lines pay and leave is there
pub record MovesFit (late : Bool) (rows : List FamilyRow) (lines : List Line) : Type 0 where
  pub live : (f : Family) → line_sum (line_hops f) lines + line_sum (line_evals f) lines + line_sum (line_left f late) lines ≤ (counts_of f rows).live

-- lines can be counted: no family pays and leaves more than it has with what they grant, and the limits are kept
pub record LinesFit (late : Bool) (rows : List FamilyRow) (lines : List Line) : Type 0 where
  pub grants : GrantsFit rows lines
  pub moves : (f : Family)
      → line_sum (line_hops f) lines + line_sum (line_evals f) lines + line_sum (line_left f late) lines ≤ (counts_of f rows).live +
      line_sum (line_granted f) lines

-- what these lines leave behind this history, where their event's frame was handed before or wasn't
abbrev pub Leaves : Bool → List Entry → ℕ → List Line → Type 0
Leaves late h n lines = (f : Family) → count.left_sum f (h ++ map (entry_at n) lines) ≡ count.left_sum f h + line_sum (line_left f late) lines
