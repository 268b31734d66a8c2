-- How actions that were followed join.
use Rattle.std.proofs.Common.{◌≡◌, ℕ, ◌+◌, Bool, true, false, if◌then◌else◌, List, Option, Some, None, Result, Ok, Err, IsErrAnd, MatchResult, nat_le, refl, sym, ◌∙◌, ap, subst}
use Rattle.plan_base.specs.declared.ids.Dev.{Dev}
use Rattle.packet_frame.specs.declared.frame.PlainStamped.{PlainStamped}
use Rattle.network_config.specs.Hosts.{dev_of}
use Rattle.network_config.specs.declared.event.Event.{Event}
use Rattle.network_config.specs.declared.event.Event.TheVariants.{Tick, Take}
use Rattle.network_config.specs.declared.event.LogEvent.{LogEvent}
use Rattle.network_config.specs.declared.event.LogEvent.TheVariants.{Step, Lost}
use Rattle.network_config.specs.declared.serve.ServeConfig.{ServeConfig}
use Rattle.node_log.specs.Runs.{Running, Action, then_do, with_entry, marked_running, holding, is_refused, make, tick, first_on, come_back, take_back, send_taken, take_send, release}
use Rattle.node_log.specs.Follow.{Ext, Grows, entry_of, is_lost, Fits}
use Rattle.node_serve.specs.Shown.{Seen, Start, Shows, Fronts, Reached, Stopped, Leaves}
use Rattle.node_log.proofs.Going.{ext_refl, ext_trans, ext_entry, ext_marked, ext_holding, send_taken_ext, come_back_grows}
use Rattle.node_log.proofs.Places.{fits_before, fits_entry}
use Rattle.node_serve.proofs.Showing.{shows_marked, shows_holding}
use Rattle.node_serve.proofs.Agreeing.{fronts_whole}

-- ---- nothing is done

pub reached_same : (stands : Running → Type 0) (cfg : ServeConfig) (base : Start) (seen : Seen) (r : Running) (act : Action) → ((refused : List ℕ) → act refused r ≡ r) → stands r → Shows cfg base seen r → Reached stands cfg base seen r act
reached_same stands cfg base seen r act same h s = record { done = r; grows = ext_refl r; is = λ refused f. sym (same refused); stands_for = h; shows = s }

pub stopped_same : (cfg : ServeConfig) (base : Start) (seen : Seen) (r : Running) (act : Action) → Grows act → Shows cfg base seen r → Stopped cfg base seen r act
stopped_same cfg base seen r act g s = record { done = r; grows = ext_refl r; within = λ refused f. g refused r; shows = fronts_whole cfg base seen r s }

-- ---- one after the other

pub reached_then : {before after : Running → Type 0} {cfg : ServeConfig} {base : Start} {mid seen : Seen} {r : Running} {f g : Action} (a : Reached before cfg base mid r f)
    → Reached after cfg base seen a.done g → Reached after cfg base seen r (then_do f g)
reached_then {r = r} {g = g} a b = record {
  done = b.done;
  grows = ext_trans r a.done b.done a.grows b.grows;
  is = λ refused h. b.is refused h ∙ ap (g refused) (a.is refused (fits_before refused a.done b.done b.grows h));
  stands_for = b.stands_for;
  shows = b.shows;
}

pub stopped_then : {before : Running → Type 0} {cfg : ServeConfig} {base : Start} {mid seen : Seen} {r : Running} {f g : Action} (a : Reached before cfg base mid r f) → Stopped cfg base seen a.done g → Stopped cfg base seen r (then_do f g)
stopped_then {r = r} {g = g} a b = record {
  done = b.done;
  grows = ext_trans r a.done b.done a.grows b.grows;
  within = λ refused h. subst (λ x. Ext b.done (g refused x)) (a.is refused (fits_before refused a.done b.done b.grows h)) (b.within refused h);
  shows = b.shows;
}

pub stopped_first : {cfg : ServeConfig} {base : Start} {seen : Seen} {r : Running} {f : Action} (g : Action) → Grows g → Stopped cfg base seen r f → Stopped cfg base seen r (then_do f g)
stopped_first {r = r} {f = f} g more a = record {
  done = a.done;
  grows = a.grows;
  within = λ refused h. ext_trans a.done (f refused r) (g refused (f refused r)) (a.within refused h) (more refused (f refused r));
  shows = a.shows;
}

pub leaves_then : {T E : Type 0} {before : Running → Type 0} (after : Running → Type 0) {cfg : ServeConfig} {base : Start} {mid : Seen} (seen : Seen) {r : Running} {f : Action} (g : Action)
    (result : Result T E) (a : Reached before cfg base mid r f)
    → Leaves after cfg base seen a.done g result → Leaves after cfg base seen r (then_do f g) result
leaves_then after seen g (Ok x) a b = reached_then a b
leaves_then after seen g (Err e) a b = stopped_then a b

-- ---- the same action in other words

pub reached_as : {stands : Running → Type 0} {cfg : ServeConfig} {base : Start} {seen : Seen} {r : Running} {f : Action} (g : Action) → ((refused : List ℕ) → f refused r ≡ g refused r)
    → Reached stands cfg base seen r f → Reached stands cfg base seen r g
reached_as g same a = record { done = a.done; grows = a.grows; is = λ refused h. a.is refused h ∙ same refused; stands_for = a.stands_for; shows = a.shows }

pub stopped_as : {cfg : ServeConfig} {base : Start} {seen : Seen} {r : Running} {f : Action} (g : Action) → ((refused : List ℕ) → f refused r ≡ g refused r) → Stopped cfg base seen r f → Stopped cfg base seen r g
stopped_as g same a = record { done = a.done; grows = a.grows; within = λ refused h. subst (Ext a.done) (same refused) (a.within refused h); shows = a.shows }

pub leaves_as : {T E : Type 0} (stands : Running → Type 0) (cfg : ServeConfig) (base : Start) (seen : Seen) (r : Running) (f g : Action) (result : Result T E)
    → ((refused : List ℕ) → f refused r ≡ g refused r) → Leaves stands cfg base seen r f result → Leaves stands cfg base seen r g result
leaves_as stands cfg base seen r f g (Ok x) same a = reached_as g same a
leaves_as stands cfg base seen r f g (Err e) same a = stopped_as g same a

-- ---- one step

if_true : {A : Type 0} (b : Bool) (x y : A) → b ≡ true → (if b then x else y) ≡ x
if_true b x y h = ap (λ c. if c then x else y) h

if_false : {A : Type 0} (b : Bool) (x y : A) → b ≡ false → (if b then x else y) ≡ y
if_false b x y h = ap (λ c. if c then x else y) h

entry_fits : (refused : List ℕ) (e : LogEvent) (r : Running) → Fits refused (with_entry e r).events → is_refused refused r ≡ is_lost e
unfolding with_entry
entry_fits refused e r h = fits_entry refused r e h

make_as : (refused : List ℕ) (b : Bool) (e : Event) (r : Running) → is_refused refused r ≡ b → with_entry (entry_of b e) r ≡ make e refused r
unfolding make
make_as refused b e r h = ap (λ c. with_entry (if c then Lost else Step e) r) (sym h)

lost_of : (b : Bool) (e : Event) → is_lost (entry_of b e) ≡ b
lost_of true e = refl
lost_of false e = refl

pub reached_make : (stands : Running → Type 0) (cfg : ServeConfig) (base : Start) (seen : Seen) (r : Running) (e : Event) (b : Bool) → stands (with_entry (entry_of b e) r)
    → Shows cfg base seen (with_entry (entry_of b e) r) → Reached stands cfg base seen r (make e)
reached_make stands cfg base seen r e b h s = record {
  done = with_entry (entry_of b e) r;
  grows = ext_entry (entry_of b e) r;
  is = λ refused f. make_as refused b e r (entry_fits refused (entry_of b e) r f ∙ lost_of b e);
  stands_for = h;
  shows = s;
}

pub stopped_make : (cfg : ServeConfig) (base : Start) (seen : Seen) (r : Running) (e : Event) (b : Bool) → Fronts cfg base seen (with_entry (entry_of b e) r) → Stopped cfg base seen r (make e)
stopped_make cfg base seen r e b s = record {
  done = with_entry (entry_of b e) r;
  grows = ext_entry (entry_of b e) r;
  within = λ refused f. subst (Ext (with_entry (entry_of b e) r)) (make_as refused b e r (entry_fits refused (entry_of b e) r f ∙ lost_of b e)) (ext_refl (with_entry (entry_of b e) r));
  shows = s;
}

-- ---- a frame to the node itself

pub back_lost : (stands : Running → Type 0) (cfg : ServeConfig) (base : Start) (seen : Seen) (r : Running) → stands (with_entry Lost r) → Shows cfg base seen (with_entry Lost r) → Reached stands cfg base seen r take_back
unfolding take_back
back_lost stands cfg base seen r h s = record {
  done = with_entry Lost r;
  grows = ext_entry Lost r;
  is = λ refused f. sym (if_true (is_refused refused r) (with_entry Lost r) (come_back (first_on r.node (dev_of 0)) refused (with_entry (Step (Take (dev_of 0))) r)) (entry_fits refused Lost r f));
  stands_for = h;
  shows = s;
}

back_is : (refused : List ℕ) (r d : Running) → Ext (with_entry (Step (Take (dev_of 0))) r) d → Fits refused d.events → come_back (first_on r.node (dev_of 0)) refused (with_entry (Step (Take (dev_of 0))) r) ≡ take_back refused r
unfolding take_back
back_is refused r d x f =
    let taken = with_entry (Step (Take (dev_of 0))) r in
    sym (if_false (is_refused refused r) (with_entry Lost r) (come_back (first_on r.node (dev_of 0)) refused taken) (entry_fits refused (Step (Take (dev_of 0))) r (fits_before refused taken d x f)))

pub back_took : {T E : Type 0} (stands : Running → Type 0) (cfg : ServeConfig) (base : Start) (seen : Seen) (r : Running) (x : Option PlainStamped) (result : Result T E) → x ≡ first_on r.node (dev_of 0)
    → Leaves stands cfg base seen (with_entry (Step (Take (dev_of 0))) r) (come_back x) result → Leaves stands cfg base seen r take_back result
back_took stands cfg base seen r x (Ok y) e a =
    let taken = with_entry (Step (Take (dev_of 0))) r in
    record {
      done = a.done;
      grows = ext_trans r taken a.done (ext_entry (Step (Take (dev_of 0))) r) a.grows;
      is = λ refused f. a.is refused f ∙ ap (λ o. come_back o refused taken) e ∙ back_is refused r a.done a.grows f;
      stands_for = a.stands_for;
      shows = a.shows;
    }
back_took stands cfg base seen r x (Err y) e a =
    let taken = with_entry (Step (Take (dev_of 0))) r in
    record {
      done = a.done;
      grows = ext_trans r taken a.done (ext_entry (Step (Take (dev_of 0))) r) a.grows;
      within = λ refused f. subst (Ext a.done) (ap (λ o. come_back o refused taken) e ∙ back_is refused r a.done a.grows f) (a.within refused f);
      shows = a.shows;
    }

-- a step of take_back that could not be written
pub stopped_back : (cfg : ServeConfig) (base : Start) (seen : Seen) (r : Running) → Stopped cfg base seen r (make (Take (dev_of 0))) → Stopped cfg base seen r take_back
unfolding take_back make
stopped_back cfg base seen r a = record {
  done = a.done;
  grows = a.grows;
  within = λ refused f. from refused (is_refused refused r) (a.within refused f);
  shows = a.shows;
} where
  from : (refused : List ℕ) (b : Bool) → Ext a.done (with_entry (if b then Lost else Step (Take (dev_of 0))) r)
      → Ext a.done (if b then with_entry Lost r else come_back (first_on r.node (dev_of 0)) refused (with_entry (Step (Take (dev_of 0))) r))
  from refused true x = x
  from refused false x = let taken = with_entry (Step (Take (dev_of 0))) r in ext_trans a.done taken (come_back (first_on r.node (dev_of 0)) refused taken) x (come_back_grows (first_on r.node (dev_of 0)) refused taken)

-- ---- a tick

pub tick_over : (stands after : Running → Type 0) (cfg : ServeConfig) (base : Start) (seen : Seen) (r : Running) (period t : ℕ) → nat_le (r.last + period) t ≡ true
    → (a : Reached stands cfg base seen r (make Tick)) → after (marked_running t a.done) → Reached after cfg base seen r (tick period t)
unfolding tick
tick_over stands after cfg base seen r period t over a h = record {
  done = marked_running t a.done;
  grows = ext_trans r a.done (marked_running t a.done) a.grows (ext_marked t a.done);
  is = λ refused f. ap (marked_running t) (a.is refused f) ∙ sym (if_true (nat_le (r.last + period) t) (marked_running t (make Tick refused r)) r over);
  stands_for = h;
  shows = shows_marked cfg base seen t a.done a.shows;
}

pub tick_stopped : (cfg : ServeConfig) (base : Start) (seen : Seen) (r : Running) (period t : ℕ) → nat_le (r.last + period) t ≡ true → Stopped cfg base seen r (make Tick) → Stopped cfg base seen r (tick period t)
unfolding tick
tick_stopped cfg base seen r period t over a = record {
  done = a.done;
  grows = a.grows;
  within = λ refused f. subst (Ext a.done) (sym (if_true (nat_le (r.last + period) t) (marked_running t (make Tick refused r)) r over))
      (ext_trans a.done (make Tick refused r) (marked_running t (make Tick refused r)) (a.within refused f) (ext_marked t (make Tick refused r)));
  shows = a.shows;
}

-- the period isn't over
pub tick_early : (period t : ℕ) (r : Running) → nat_le (r.last + period) t ≡ false → (refused : List ℕ) → tick period t refused r ≡ r
unfolding tick
tick_early period t r early refused = if_false (nat_le (r.last + period) t) (marked_running t (make Tick refused r)) r early

-- ---- a frame that is taken and sent

pub held_is : (d : Dev) (r : Running) → r.held ≡ true → (refused : List ℕ) → take_send d refused r ≡ r
unfolding take_send
held_is d r h refused = if_true r.held r (if is_refused refused r then holding true (with_entry Lost r) else send_taken d (first_on r.node d) (with_entry (Step (Take d)) r)) h

-- a taking was refused in this turn
pub send_held : (stands : Running → Type 0) (cfg : ServeConfig) (base : Start) (seen : Seen) (r : Running) (d : Dev) → r.held ≡ true → stands r → Shows cfg base seen r → Reached stands cfg base seen r (take_send d)
send_held stands cfg base seen r d h st s = reached_same stands cfg base seen r (take_send d) (held_is d r h) st s

free_is : (d : Dev) (r : Running) → r.held ≡ false → (refused : List ℕ) → take_send d refused r ≡ (if is_refused refused r then holding true (with_entry Lost r) else send_taken d (first_on r.node d) (with_entry (Step (Take d)) r))
unfolding take_send
free_is d r h refused = if_false r.held r (if is_refused refused r then holding true (with_entry Lost r) else send_taken d (first_on r.node d) (with_entry (Step (Take d)) r)) h

-- the taking is refused
pub send_lost : (stands : Running → Type 0) (cfg : ServeConfig) (base : Start) (seen : Seen) (r : Running) (d : Dev) → r.held ≡ false → stands (holding true (with_entry Lost r))
    → Shows cfg base seen (with_entry Lost r) → Reached stands cfg base seen r (take_send d)
send_lost stands cfg base seen r d h st s = record {
  done = holding true (with_entry Lost r);
  grows = ext_trans r (with_entry Lost r) (holding true (with_entry Lost r)) (ext_entry Lost r) (ext_holding true (with_entry Lost r));
  is = λ refused f. sym (free_is d r h refused ∙ if_true (is_refused refused r) (holding true (with_entry Lost r)) (send_taken d (first_on r.node d) (with_entry (Step (Take d)) r)) (entry_fits refused Lost r f));
  stands_for = st;
  shows = shows_holding cfg base seen true (with_entry Lost r) s;
}

took_is : (d : Dev) (r : Running) → r.held ≡ false → (refused : List ℕ) → Fits refused (with_entry (Step (Take d)) r).events → send_taken d (first_on r.node d) (with_entry (Step (Take d)) r) ≡ take_send d refused r
took_is d r h refused f = sym (free_is d r h refused ∙ if_false (is_refused refused r) (holding true (with_entry Lost r)) (send_taken d (first_on r.node d) (with_entry (Step (Take d)) r)) (entry_fits refused (Step (Take d)) r f))

pub sent_events : (d : Dev) (x : Option PlainStamped) (r : Running) → (send_taken d x r).events ≡ r.events
sent_events d None r = refl
sent_events d (Some x) r = refl

-- the frame was taken, and sent
pub send_took : (stands : Running → Type 0) (cfg : ServeConfig) (base : Start) (seen : Seen) (r : Running) (d : Dev) (x : Option PlainStamped) → r.held ≡ false → x ≡ first_on r.node d
    → stands (send_taken d x (with_entry (Step (Take d)) r)) → Shows cfg base seen (send_taken d x (with_entry (Step (Take d)) r)) → Reached stands cfg base seen r (take_send d)
send_took stands cfg base seen r d x h e st s =
    let taken = with_entry (Step (Take d)) r in
    record {
      done = send_taken d x taken;
      grows = ext_trans r taken (send_taken d x taken) (ext_entry (Step (Take d)) r) (send_taken_ext d x taken);
      is = λ refused f. ap (λ o. send_taken d o taken) e ∙ took_is d r h refused (subst (Fits refused) (sent_events d x taken) f);
      stands_for = st;
      shows = s;
    }

-- the frame was taken, and could not be sent
pub send_failed : (cfg : ServeConfig) (base : Start) (seen : Seen) (r : Running) (d : Dev) → r.held ≡ false → Fronts cfg base seen (with_entry (Step (Take d)) r) → Stopped cfg base seen r (take_send d)
send_failed cfg base seen r d h s =
    let taken = with_entry (Step (Take d)) r in
    record {
      done = taken;
      grows = ext_entry (Step (Take d)) r;
      within = λ refused f. subst (Ext taken) (took_is d r h refused f) (send_taken_ext d (first_on r.node d) taken);
      shows = s;
    }

-- a step of take_send that could not be written
pub send_stopped : (cfg : ServeConfig) (base : Start) (seen : Seen) (r : Running) (d : Dev) → r.held ≡ false → Stopped cfg base seen r (make (Take d)) → Stopped cfg base seen r (take_send d)
unfolding make
send_stopped cfg base seen r d h a = record {
  done = a.done;
  grows = a.grows;
  within = λ refused f. subst (Ext a.done) (sym (free_is d r h refused)) (from refused (is_refused refused r) (a.within refused f));
  shows = a.shows;
} where
  from : (refused : List ℕ) (b : Bool) → Ext a.done (with_entry (if b then Lost else Step (Take d)) r) → Ext a.done (if b then holding true (with_entry Lost r) else send_taken d (first_on r.node d) (with_entry (Step (Take d)) r))
  from refused true x = ext_trans a.done (with_entry Lost r) (holding true (with_entry Lost r)) x (ext_holding true (with_entry Lost r))
  from refused false x = let taken = with_entry (Step (Take d)) r in ext_trans a.done taken (send_taken d (first_on r.node d) taken) x (send_taken_ext d (first_on r.node d) taken)

-- ---- results

-- an answer that is an error
pub match_err : {T E : Type 0} (Q : E → Type 0) (P : T → Type 0) (X : Type 0) (result : Result T E) → IsErrAnd result Q → X → MatchResult result P (λ _. X)
match_err Q P X (Ok x) h a = absurd h
match_err Q P X (Err e) h a = a

-- an action after a turn's sendings were let free again
pub leaves_released : {T E : Type 0} (after : Running → Type 0) (cfg : ServeConfig) (base : Start) (seen : Seen) (r : Running) (g : Action) (result : Result T E)
    → Leaves after cfg base seen (holding false r) g result → Leaves after cfg base seen r (then_do release g) result
leaves_released after cfg base seen r g (Ok x) a = record {
  done = a.done;
  grows = ext_trans r (holding false r) a.done (ext_holding false r) a.grows;
  is = a.is;
  stands_for = a.stands_for;
  shows = a.shows;
}
leaves_released after cfg base seen r g (Err e) a = record {
  done = a.done;
  grows = ext_trans r (holding false r) a.done (ext_holding false r) a.grows;
  within = a.within;
  shows = a.shows;
}

pub leaves_err : {T E : Type 0} (Q : E → Type 0) (stands : Running → Type 0) (cfg : ServeConfig) (base : Start) (seen : Seen) (r : Running) (act : Action) (result : Result T E) → IsErrAnd result Q
    → Stopped cfg base seen r act → Leaves stands cfg base seen r act result
leaves_err Q stands cfg base seen r act (Ok x) h a = absurd h
leaves_err Q stands cfg base seen r act (Err e) h a = a
