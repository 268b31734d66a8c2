-- What a device has taken: what isn't fresh there stays so at each step, and a frame that arrives isn't fresh any more.
use Rattle.std.proofs.Common.{◌≡◌, ℕ, zero, suc, ◌<◌, Bool, true, false, cond, List, [], ◌∷◌, ◌++◌, length, refl, sym, ap, ◌∙◌, arith}
use Rattle.std.specs.Prelude.{slice_get, slice_set, ◌==◌, Option, Some, None, Result, Ok, Err}
use Rattle.plan_base.specs.declared.name.Name.{Name}
use Rattle.plan_base.specs.declared.ids.Dev.{Dev}
use Rattle.plan_base.specs.declared.tree.Chunk.{Chunk}
use Rattle.packet_frame.specs.declared.frame.PlainStamped.{PlainStamped}
use Rattle.packet_frame.specs.declared.fault.FrameFault.{FrameFault}
use Rattle.packet_frame.specs.Decoding.{read_by}
use Rattle.plan_base.specs.declared.stamp.Stamp.{Stamp}
use Rattle.plan_base.specs.declared.stamp.Version.TheVariants.{Two}
use Rattle.replay_window.specs.declared.window.Took.{Took}
use Rattle.replay_window.specs.declared.window.Took.TheVariants.{Fresh, Repeated, TooOld}
use Rattle.replay_window.specs.Seen.{Seen, took, seen_with, seen_by, is_fresh}
use Rattle.replay_window.proofs.Stale as stale
use Rattle.node_core_spec.specs.declared.acts.Act.TheVariants.{Injected, SerialsSpent}
use Rattle.node_core_spec.specs.State.{NodeState}
use Rattle.node_core_spec.specs.Fits.{IsMarked}
use Rattle.node_core_spec.specs.Node.{stepped_node, took_by, takes_as, seen_at, seen_then, stamped_as, stamped_step, arrived_read, arrive_step, visit_step, next_serial, injected_packet, inject_step}

-- what isn't fresh on a device isn't fresh there later
abbrev pub SeenLater : List Seen → List Seen → Type 0
SeenLater old new = (d : Dev) (s : Option Stamp) → is_fresh (takes_as old d s) ≡ false → is_fresh (takes_as new d s) ≡ false

pub same_later : (old new : List Seen) → new ≡ old → SeenLater old new
same_later old new e d s h = ap (λ seen. is_fresh (takes_as seen d s)) e ∙ h

-- ---- one place set anew

-- a list set at a place, seen at another
data Seeing (seen : List Seen) (at : ℕ) (new : Seen) (d : ℕ) : Type 0 where
  there : d ≡ at → Seeing seen at new d
  elsewhere : slice_get (slice_set seen at new) d ≡ slice_get seen d → Seeing seen at new d

next_place : (x : Seen) (seen : List Seen) (at : ℕ) (new : Seen) (d : ℕ) → Seeing seen at new d → Seeing (x ∷ seen) (suc at) new (suc d)
next_place x seen at new d (there e) = there (ap suc e)
next_place x seen at new d (elsewhere e) = elsewhere e

seeing : (seen : List Seen) (at : ℕ) (new : Seen) (d : ℕ) → Seeing seen at new d
seeing [] at new d = elsewhere refl
seeing (x ∷ seen) zero new zero = there refl
seeing (x ∷ seen) zero new (suc d) = elsewhere refl
seeing (x ∷ seen) (suc at) new zero = elsewhere refl
seeing (x ∷ seen) (suc at) new (suc d) = next_place x seen at new d (seeing seen at new d)

there_now : (seen : List Seen) (at : ℕ) (old new : Seen) → slice_get seen at ≡ Some old → slice_get (slice_set seen at new) at ≡ Some new
there_now [] at old new e = absurd (none e)
  where
    none : ◌≡◌ {A = Option Seen} None (Some old) → ⊥
    none h = cc
there_now (x ∷ seen) zero old new e = refl
there_now (x ∷ seen) (suc at) old new e = there_now seen at old new e

window_found : (seen : List Seen) (at : ℕ) → at < length seen → (s : Seen) × (slice_get seen at ≡ Some s)
window_found [] at h = absurd (omega arith)
window_found (x ∷ seen) zero h = (x, refl)
window_found (x ∷ seen) (suc at) h = window_found seen at (omega arith)

-- ---- a fresh stamp is taken

module _ (seen : List Seen) (at : Dev) (s : Stamp) (old : Seen) (is : slice_get seen at.0 ≡ Some old) (fresh : took old s ≡ Fresh) where
  with_later : SeenLater seen (slice_set seen at.0 (seen_with old s))
  unfolding takes_as
  with_later d None h = h
  with_later d (Some t) h = by (seeing seen at.0 (seen_with old s) d.0)
    where
      after : is_fresh (took old t) ≡ false → is_fresh (took (seen_with old s) t) ≡ false
      after k = ap (λ q. is_fresh (took (seen_by q old s) t)) (sym fresh) ∙ stale.stays old t s k

      by : Seeing seen at.0 (seen_with old s) d.0 → is_fresh (took_by (slice_get (slice_set seen at.0 (seen_with old s)) d.0) t) ≡ false
      by (there e) =
          ap (λ n. is_fresh (took_by (slice_get (slice_set seen at.0 (seen_with old s)) n) t)) e
          ∙ ap (λ o. is_fresh (took_by o t)) (there_now seen at.0 old (seen_with old s) is)
          ∙ after (sym (ap (λ o. is_fresh (took_by o t)) (ap (slice_get seen) e ∙ is)) ∙ h)
      by (elsewhere e) = ap (λ o. is_fresh (took_by o t)) e ∙ h

  taken_there : is_fresh (took_by (slice_get (slice_set seen at.0 (seen_with old s)) at.0) s) ≡ false
  taken_there = ap (λ o. is_fresh (took_by o s)) (there_now seen at.0 old (seen_with old s) is) ∙ (ap (λ q. is_fresh (took (seen_by q old s) s)) (sym fresh) ∙ stale.stale_once_seen old s)

at_later : (seen : List Seen) (d : Dev) (s : Stamp) (o : Option Seen) → slice_get seen d.0 ≡ o → took_by o s ≡ Fresh → SeenLater seen (seen_at seen d s o)
at_later seen d s None e f = same_later seen seen refl
at_later seen d s (Some old) e f = with_later seen d s old e f

then_later : (seen : List Seen) (d : Dev) (stamp : Option Stamp) → takes_as seen d stamp ≡ Fresh → SeenLater seen (seen_then seen d stamp)
unfolding seen_then takes_as
then_later seen d None f = same_later seen seen refl
then_later seen d (Some s) f = at_later seen d s (slice_get seen d.0) refl f

-- ---- steps

as_later : (node : NodeState) (d : Dev) (x : PlainStamped) (t : Took) → takes_as node.seen d x.stamp ≡ t → SeenLater node.seen (stamped_as node d x t).node.seen
as_later node d x Fresh e = then_later node.seen d x.stamp e
as_later node d x Repeated e = same_later node.seen node.seen refl
as_later node d x TooOld e = same_later node.seen node.seen refl

pub stamped_later : (node : NodeState) (d : Dev) (x : PlainStamped) → SeenLater node.seen (stamped_step node d x).node.seen
unfolding stamped_step
stamped_later node d x = as_later node d x (takes_as node.seen d x.stamp) refl

arrived_later : (node : NodeState) (d : Dev) (r : Result PlainStamped FrameFault) → SeenLater node.seen (arrived_read node d r).node.seen
arrived_later node d (Ok x) = stamped_later node d x
arrived_later node d (Err e) = same_later node.seen node.seen refl

pub arrive_later : (node : NodeState) (d : Dev) (bytes : List ℕ) → SeenLater node.seen (arrive_step node d bytes).node.seen
unfolding arrive_step
arrive_later node d bytes = arrived_later node d (read_by node.version bytes)

inject_cases : (t : Bool) (node : NodeState) (chunk : Chunk) (bound : ℕ) (handler : Option Name)
    → (cond t (stepped_node ([] ++ SerialsSpent ∷ []) None node)
    (visit_step ([] ++ Injected (record { source = node.here; serial = node.serial }) bound ∷ []) (next_serial node) (injected_packet node chunk bound handler))).node.seen
    ≡ node.seen
unfolding visit_step
inject_cases true node chunk bound handler = refl
inject_cases false node chunk bound handler = refl

pub inject_seen : (node : NodeState) (chunk : Chunk) (bound : ℕ) (handler : Option Name) → (inject_step [] node chunk bound handler).node.seen ≡ node.seen
unfolding inject_step
inject_seen node chunk bound handler = inject_cases (node.serial == 18446744073709551615) node chunk bound handler

-- ---- a frame that arrives isn't fresh any more

then_taken : (seen : List Seen) (d : Dev) (stamp : Option Stamp) → IsMarked Two stamp → d.0 < length seen → takes_as seen d stamp ≡ Fresh → is_fresh (takes_as (seen_then seen d stamp) d stamp) ≡ false
unfolding takes_as seen_then
then_taken seen d None m h f = absurd m
then_taken seen d (Some s) m h f =
    let p = window_found seen d.0 h in
    let fresh : took p.0 s ≡ Fresh = sym (ap (λ o. took_by o s) p.1) ∙ f in
    ap (λ o. is_fresh (took_by (slice_get (seen_at seen d s o) d.0) s)) p.1 ∙ taken_there seen d s p.0 p.1 fresh

as_taken : (node : NodeState) (d : Dev) (x : PlainStamped) (t : Took) → IsMarked Two x.stamp → d.0 < length node.seen → takes_as node.seen d x.stamp ≡ t
    → is_fresh (takes_as (stamped_as node d x t).node.seen d x.stamp) ≡ false
as_taken node d x Fresh m h e = then_taken node.seen d x.stamp m h e
as_taken node d x Repeated m h e = ap is_fresh e
as_taken node d x TooOld m h e = ap is_fresh e

pub stamped_taken : (node : NodeState) (d : Dev) (x : PlainStamped) → IsMarked Two x.stamp → d.0 < length node.seen → is_fresh (takes_as (stamped_step node d x).node.seen d x.stamp) ≡ false
unfolding stamped_step
stamped_taken node d x m h = as_taken node d x (takes_as node.seen d x.stamp) m h refl
