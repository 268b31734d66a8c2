-- The frames that a log takes from one device: their numbers ascend, each bears a stamp and is read again.
use Rattle.std.proofs.Common.{◌≡◌, ◌≢◌, ℕ, zero, suc, ◌<◌, Bool, true, false, cond, if◌then◌else◌, List, [], ◌∷◌, ◌++◌, Option, Some, None, Result, Ok, Err, refl, sym, ap, subst, ◌∙◌, append_assoc, append-nil}
use Rattle.std.specs.Prelude.{slice_get, slice_set, ◌==◌, All}
use Rattle.std.specs.List.{AllByRecursion}
use Rattle.std.proofs.lemmas.Bool.{eqb-true, eqb-false}
use Rattle.std.proofs.lemmas.Grind.{flat_map-append}
use Rattle.std.proofs.lemmas.List.Elements.{All-nil, All-cons, All-head, All-tail}
use Rattle.plan_base.specs.declared.stamp.Stamp.{Stamp}
use Rattle.plan_base.specs.declared.stamp.Version.{Version}
use Rattle.plan_base.specs.declared.stamp.Version.TheVariants.{One, Two}
use Rattle.plan_base.specs.declared.ids.Dev.{Dev}
use Rattle.plan_base.specs.declared.tree.Chunk.{Chunk}
use Rattle.packet_frame.specs.declared.frame.PlainFrame.{PlainFrame}
use Rattle.packet_frame.specs.declared.frame.PlainStamped.{PlainStamped}
use Rattle.packet_frame.specs.declared.fault.FrameFault.{FrameFault}
use Rattle.packet_frame.specs.Decoding.{read_by}
use Rattle.network_config.specs.declared.event.Event.{Event}
use Rattle.network_config.specs.declared.event.Event.TheVariants as event
use Rattle.network_config.specs.declared.event.LogEvent.{LogEvent}
use Rattle.network_config.specs.declared.event.LogEvent.TheVariants.{Step, Lost}
use Rattle.node_core_spec.specs.declared.acts.Act.{Act}
use Rattle.node_core_spec.specs.declared.acts.Act.TheVariants.{Injected, Asked}
use Rattle.node_core_spec.specs.declared.acts.TxQueue.{TxQueue}
use Rattle.node_core_spec.specs.State.{Queues, NodeState}
use Rattle.node_core_spec.specs.Node.{NodeStep as Stepped, take_first, take_from, take_step, next_serial, injected_packet, inject_step, visit_step, asked_plain, asked_read, control_step, node_step}
use Rattle.node_core_spec.specs.Numbers.{link_in, numbers_in, Ascend, NumbersFit, FitsAt}
use Rattle.node_core_spec.specs.Fits.{IsMarked, NodeFits, comes_fit}
use Rattle.node_core_spec.proofs.Numbers.{taken_fits, event_rises}
use Rattle.node_core_spec.proofs.Staying.{visited_stays, arrive_stays, tick_stays, take_stays, inject_stays}
use Rattle.node_core_spec.proofs.Fitting.{FrameTaken, step_fits}
use Rattle.node_log.specs.Runs.{node_by}
use Rattle.ledger_audit.specs.Spelling.{FrameReads, EntriesRead}
use Rattle.ledger_audit.specs.Once.{EntriesFit}

-- ---- what is taken from a device

abbrev pub as_list : {A : Type 0} → Option A → List A
as_list None = []
as_list (Some x) = x ∷ []

abbrev pub frames_by : Dev → NodeState → LogEvent → List PlainStamped
frames_by d s (Step (event.Take e)) = if e.0 == d.0 then as_list (node_step s (event.Take e)).frame else []
frames_by d s _ = []

abbrev pub frames_from : Dev → NodeState → List LogEvent → List PlainStamped
frames_from d s [] = []
frames_from d s (e ∷ es) = frames_by d s e ++ frames_from d (node_by s e) es

-- ---- numbers

get_set_other : (queues : Queues) (at d : ℕ) (new : TxQueue) → at ≢ d → slice_get (slice_set queues at new) d ≡ slice_get queues d
get_set_other [] at d new n = refl
get_set_other (l ∷ queues) zero zero new n = absurd (n refl)
get_set_other (l ∷ queues) zero (suc d) new n = refl
get_set_other (l ∷ queues) (suc at) zero new n = refl
get_set_other (l ∷ queues) (suc at) (suc d) new n = get_set_other queues at d new (λ e. n (ap suc e))

get_set_same : (queues : Queues) (at : ℕ) (old new : TxQueue) → slice_get queues at ≡ Some old → slice_get (slice_set queues at new) at ≡ Some new
get_set_same [] at old new e = absurd (cc)
get_set_same (l ∷ queues) zero old new e = refl
get_set_same (l ∷ queues) (suc at) old new e = get_set_same queues at old new e

all_left : (P : ℕ → Type 0) (xs ys : List ℕ) → All P (xs ++ ys) → All P xs
all_left P [] ys a = All-nil P
all_left P (x ∷ xs) ys a = All-cons P x xs (All-head P x (xs ++ ys) a) (all_left P xs ys (All-tail P x (xs ++ ys) a))

ascend_left : (xs ys : List ℕ) → Ascend (xs ++ ys) → Ascend xs
ascend_left [] ys a = tt
ascend_left (x ∷ xs) ys a = (all_left (λ m. x < m) xs ys a.0, ascend_left xs ys a.1)

-- these frames more: the numbers still ascend, and are below the device's next one
record Rises (before : List ℕ) (d : ℕ) (more : List PlainStamped) (queues : Queues) : Type 0 where
  fits : FitsAt (before ++ numbers_in more) d queues
  ascend : Ascend (before ++ numbers_in more)

none_more : (before : List ℕ) (d : ℕ) (queues : Queues) → FitsAt before d queues → Ascend before → Rises before d [] queues
none_more before d queues f a = record { fits = subst (λ ns. FitsAt ns d queues) (sym (append-nil before)) f; ascend = subst Ascend (sym (append-nil before)) a }

module _ (before : List ℕ) (d : Dev) (s : NodeState) (f : FitsAt before d.0 s.queues) (a : Ascend before) where
  -- a frame is taken from this device
  first_same : (e : Dev) (n : ℕ) (frames : List PlainStamped) → slice_get s.queues e.0 ≡ Some (record { frames = frames; number = n }) → e.0 ≡ d.0
      → Rises before d.0 (as_list (take_first s e n frames).frame) (take_first s e n frames).node.queues
  first_same e n [] there is = none_more before d.0 s.queues f a
  first_same e n (x ∷ queue) there is =
      let lane : NumbersFit before (record { frames = x ∷ queue; number = n }) = f (record { frames = x ∷ queue; number = n }) (ap (slice_get s.queues) (sym is) ∙ there) in
      let rest : NumbersFit (before ++ link_in x.stamp) (record { frames = queue; number = n }) = taken_fits before x queue n lane in
      let same : before ++ link_in x.stamp ≡ before ++ numbers_in (x ∷ []) = ap (λ l. before ++ l) (sym (append-nil (link_in x.stamp))) in
      record {
        fits = λ l h. subst (λ ns. NumbersFit ns l) same (subst (NumbersFit (before ++ link_in x.stamp)) (is_new l h) rest);
        ascend = subst Ascend same (ascend_left (before ++ link_in x.stamp) (numbers_in queue) rest.ascend);
      }
    where
      is_new : (l : TxQueue) → slice_get (slice_set s.queues e.0 (record { frames = queue; number = n })) d.0 ≡ Some l → ◌≡◌ {A = TxQueue} (record { frames = queue; number = n }) l
      is_new l h =
          let e : ◌≡◌ {A = Option TxQueue} (Some (record { frames = queue; number = n })) (Some l) =
          sym (get_set_same s.queues e.0 (record { frames = x ∷ queue; number = n }) (record { frames = queue; number = n }) there)
          ∙ ap (slice_get (slice_set s.queues e.0 (record { frames = queue; number = n }))) is ∙ h in
          cc

  -- from another one
  first_other : (e : Dev) (n : ℕ) (frames : List PlainStamped) → e.0 ≢ d.0 → Rises before d.0 [] (take_first s e n frames).node.queues
  first_other e n [] apart = none_more before d.0 s.queues f a
  first_other e n (x ∷ queue) apart =
      none_more before d.0 (slice_set s.queues e.0 (record { frames = queue; number = n }))
      (λ l h. f l (sym (get_set_other s.queues e.0 d.0 (record { frames = queue; number = n }) apart) ∙ h)) a

  lane_same : (e : Dev) (o : Option TxQueue) → slice_get s.queues e.0 ≡ o → e.0 ≡ d.0 → Rises before d.0 (as_list (take_from s e o).frame) (take_from s e o).node.queues
  lane_same e None there is = none_more before d.0 s.queues f a
  lane_same e (Some lane) there is = first_same e lane.number lane.frames there is

  lane_other : (e : Dev) (o : Option TxQueue) → e.0 ≢ d.0 → Rises before d.0 [] (take_from s e o).node.queues
  lane_other e None apart = none_more before d.0 s.queues f a
  lane_other e (Some lane) apart = first_other e lane.number lane.frames apart

  take_rises : (e : Dev) → Rises before d.0 (frames_by d s (Step (event.Take e))) (take_step s e).node.queues
  unfolding take_step
  take_rises e = by (e.0 == d.0) refl
    where
      by : (t : Bool) → (e.0 == d.0) ≡ t → Rises before d.0 (if t then as_list (take_from s e (slice_get s.queues e.0)).frame else []) (take_from s e (slice_get s.queues e.0)).node.queues
      by true t = lane_same e (slice_get s.queues e.0) refl (eqb-true e.0 d.0 t)
      by false t = lane_other e (slice_get s.queues e.0) (eqb-false e.0 d.0 t)

  other_rises : (e : Event) → ((dev : Dev) → e ≡ event.Take dev → ⊥) → Rises before d.0 [] (node_step s e).node.queues
  other_rises e n = none_more before d.0 (node_step s e).node.queues (event_rises before d.0 s e n f) a

  step_rises : (e : Event) → Rises before d.0 (frames_by d s (Step e)) (node_step s e).node.queues
  step_rises (event.Inject c b o) = other_rises (event.Inject c b o) (λ dev q. absurd (cc))
  step_rises (event.Frame dev bytes) = other_rises (event.Frame dev bytes) (λ x q. absurd (cc))
  step_rises (event.Control bytes) = other_rises (event.Control bytes) (λ dev q. absurd (cc))
  step_rises event.Tick = other_rises event.Tick (λ dev q. absurd (cc))
  step_rises (event.Take e) = take_rises e

numbers-append : (xs ys : List PlainStamped) → numbers_in (xs ++ ys) ≡ numbers_in xs ++ numbers_in ys
numbers-append xs ys = flat_map-append (λ x. link_in x.stamp) xs ys

-- the numbers of all frames that a log takes from a device ascend
pub frames_rise : (d : Dev) (before : List ℕ) (s : NodeState) (es : List LogEvent) → FitsAt before d.0 s.queues → Ascend before → Ascend (before ++ numbers_in (frames_from d s es))
frames_rise d before s [] f a = subst Ascend (sym (append-nil before)) a
frames_rise d before s (Lost ∷ es) f a = frames_rise d before s es f a
frames_rise d before s (Step e ∷ es) f a =
    let r = step_rises before d s f a e in
    let t = frames_by d s (Step e) in
    let rest = frames_from d (node_step s e).node es in
    subst Ascend (append_assoc before (numbers_in t) (numbers_in rest) ∙ ap (λ l. before ++ l) (sym (numbers-append t rest)))
    (frames_rise d (before ++ numbers_in t) (node_step s e).node es r.fits r.ascend)

-- ---- hosts and versions

pub record Same (old new : NodeState) : Type 0 where
  pub here : new.here ≡ old.here
  pub version : new.version ≡ old.version

visited_same : (acts : List Act) (s : NodeState) (chunk : Chunk) (bound : ℕ) → Same s (visit_step (acts ++ Injected (record { source = s.here; serial = s.serial }) bound ∷ []) (next_serial s) (injected_packet s chunk bound None)).node
visited_same acts s chunk bound =
    let v = visited_stays (acts ++ Injected (record { source = s.here; serial = s.serial }) bound ∷ []) (next_serial s) (injected_packet s chunk bound None) in
    record { here = v.node.here; version = v.node.version }

same_cases : (t : Bool) (s : NodeState) (a b : Stepped) → Same s a.node → Same s b.node → Same s (cond t a b).node
same_cases true s a b x y = x
same_cases false s a b x y = y

asked_same : (s : NodeState) (x : PlainFrame) → Same s (asked_plain s x).node
unfolding inject_step
asked_same s (PlainFrame.Packet p) = record { here = refl; version = refl }
asked_same s (PlainFrame.Advert a) = record { here = refl; version = refl }
asked_same s (PlainFrame.Ask bound chunk) = same_cases (s.serial == 18446744073709551615) s _ _ (record { here = refl; version = refl }) (visited_same (Asked ∷ []) s chunk bound)

control_same : (s : NodeState) (bytes : List ℕ) → Same s (control_step s bytes).node
unfolding control_step
control_same s bytes = by (read_by s.version bytes)
  where
    by : (r : Result PlainStamped FrameFault) → Same s (asked_read s r).node
    by (Err e) = record { here = refl; version = refl }
    by (Ok x) = asked_same s x.frame

pub step_same : (s : NodeState) (e : Event) → Same s (node_step s e).node
step_same s (event.Inject c b o) = let v = inject_stays s c b o in record { here = v.here; version = v.version }
step_same s (event.Frame d bytes) = let v = arrive_stays s d bytes in record { here = v.node.here; version = v.node.version }
step_same s (event.Control bytes) = control_same s bytes
step_same s event.Tick = let v = tick_stays s in record { here = v.node.here; version = v.node.version }
step_same s (event.Take d) = let v = take_stays s d in record { here = v.node.here; version = v.node.version }

-- ---- stamps, and reading again

abbrev pub IsStamped : PlainStamped → Type 0
IsStamped x = (stamp : Stamp) × (x.stamp ≡ Some stamp)

abbrev pub Reads : PlainStamped → Type 0
Reads x = FrameReads (Some x)

stamped_by : (v : Version) (o : Option Stamp) → v ≡ Two → IsMarked v o → (stamp : Stamp) × (o ≡ Some stamp)
stamped_by One o e m = absurd (cc)
stamped_by Two None e m = absurd m
stamped_by Two (Some s) e m = (s, refl)

-- a fact of the frame that is taken, if one is, is one of what a device gives
module _ (P : PlainStamped → Type 0) where
  abbrev OfFrame : Option PlainStamped → Type 0
  OfFrame None = Unit {0}
  OfFrame (Some x) = P x

  of_list : (o : Option PlainStamped) → OfFrame o → AllByRecursion P (as_list o)
  of_list None h = tt
  of_list (Some x) h = (h, tt)

  of_test : (t : Bool) (xs : List PlainStamped) → AllByRecursion P xs → AllByRecursion P (if t then xs else [])
  of_test true xs h = h
  of_test false xs h = tt

  of_step : (d : Dev) (s : NodeState) (e : Event) → OfFrame (node_step s e).frame → AllByRecursion P (frames_by d s (Step e))
  of_step d s (event.Inject c b o) h = tt
  of_step d s (event.Frame dev bytes) h = tt
  of_step d s (event.Control bytes) h = tt
  of_step d s event.Tick h = tt
  of_step d s (event.Take e) h = of_test (e.0 == d.0) (as_list (node_step s (event.Take e)).frame) (of_list (node_step s (event.Take e)).frame h)

  of_both : (xs ys : List PlainStamped) → AllByRecursion P xs → AllByRecursion P ys → AllByRecursion P (xs ++ ys)
  of_both [] ys h k = k
  of_both (x ∷ xs) ys h k = (h.0, of_both xs ys h.1 k)

pub frames_read : (d : Dev) (s : NodeState) (es : List LogEvent) → EntriesRead s es → AllByRecursion Reads (frames_from d s es)
frames_read d s [] r = tt
frames_read d s (Lost ∷ es) r = frames_read d s es r.1
frames_read d s (Step e ∷ es) r = of_both Reads (frames_by d s (Step e)) (frames_from d (node_step s e).node es) (of_step Reads d s e (taken_frame_reads (node_step s e).frame r.0.1)) (frames_read d (node_step s e).node es r.1)
  where
    taken_frame_reads : (o : Option PlainStamped) → FrameReads o → OfFrame Reads o
    taken_frame_reads None h = tt
    taken_frame_reads (Some x) h = h

pub frames_stamped : (d : Dev) (s : NodeState) (es : List LogEvent) → NodeFits s → s.version ≡ Two → EntriesFit Two es → AllByRecursion IsStamped (frames_from d s es)
frames_stamped d s [] f v k = tt
frames_stamped d s (Lost ∷ es) f v k = frames_stamped d s es f v k
frames_stamped d s (Step e ∷ es) f v k =
    let fit = step_fits s e (subst (λ w. comes_fit w e) (sym v) k.0) f in
    let w : (node_step s e).node.version ≡ Two = (step_same s e).version ∙ v in
    of_both IsStamped (frames_by d s (Step e)) (frames_from d (node_step s e).node es) (of_step IsStamped d s e (taken_frame_stamped (node_step s e).frame (node_step s e).node.version w fit.frame))
    (frames_stamped d (node_step s e).node es fit.node w k.1)
  where
    taken_frame_stamped : (o : Option PlainStamped) (u : Version) → u ≡ Two → FrameTaken u o → OfFrame IsStamped o
    taken_frame_stamped None u q h = tt
    taken_frame_stamped (Some x) u q h = stamped_by u x.stamp q h.mark
