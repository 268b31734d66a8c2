-- Sends, over plain variables.
use Rattle.std.proofs.Common.{◌≡◌, ◌≢◌, ◌+◌, ℕ, ℤ, arith, List, [], ◌∷◌, ◌++◌, length, reverse, Option, Some, None, refl, sym, ap, ◌∙◌, subst}
use Rattle.containers.proofs.Options.{none-some}
use Rattle.plan_base.specs.declared.name.Name.{Name}
use Rattle.plan_base.specs.declared.ids.Host.{Host}
use Rattle.plan_base.specs.declared.ids.Dev.{Dev}
use Rattle.plan_base.specs.declared.tree.Chunk.{Chunk}
use Rattle.plan_base.specs.declared.tree.Expr.{Expr, Expr-F}
use Rattle.plan_base.specs.declared.tree.Value.{Value}
use Rattle.plan_base.specs.declared.tree.Value as value
use Rattle.service_api.specs.Services.{ServiceState}
use Rattle.plan_meaning.specs.declared.stop.EvalStop.TheVariants.{Wrong}
use Rattle.plan_meaning.specs.State.{VisitState, Own, joined_state}
use Rattle.plan_meaning.specs.Run.{RunStep, stopped, and_then, pure, weighed_value}
use Rattle.plan_meaning.specs.Meaning.{as_int, as_host, as_dev, as_chunk, send_remote, send_neighbour}
use Rattle.plan_meaning.specs.Safe.{IsSafe}
use Rattle.plan_eval_state.specs.declared.progress.Progress.{Progress}
use Rattle.plan_eval_state.specs.declared.progress.Progress.TheVariants as came
use Rattle.plan_eval_state.specs.declared.run.Run.{Run}
use Rattle.plan_eval_state.specs.Forms.{operands}
use Rattle.plan_eval_state.specs.Spots.{Spot, layer}
use Rattle.plan_eval_state.specs.Laws.{makes}
use Rattle.plan_eval_state.specs.Flow.{now, Flows}
use Rattle.plan_eval_state.proofs.Ending.{flows_same}
use Rattle.plan_eval_made.specs.Makes.{NearIsSafe, PopsAs, RemoteIsSafe}

-- what was taken off is the value on top
pops : {A : Type 0} (f : Value → Option A) (r : Option A) (stack new : List Value) (v : Value) (pre : List Value) → stack ≡ v ∷ pre → PopsAs f r stack new → (r ≡ f v) × (new ≡ pre)
pops f r stack new v pre is h = subst (λ l. PopsAs f r l new) is h

three_held : (held : List Value) → length held ≡ 3 → (u : Value) × (w : Value) × (c : Value) × (held ≡ u ∷ w ∷ c ∷ [])
three_held [] h = absurd (omega (arith, h))
three_held (u ∷ []) h = absurd (omega (arith, h))
three_held (u ∷ w ∷ []) h = absurd (omega (arith, h))
three_held (u ∷ w ∷ c ∷ []) h = (u, w, c, refl)
three_held (u ∷ w ∷ c ∷ v ∷ more) h = absurd (omega (arith, h))

four_held : (held : List Value) → length held ≡ 4 → (t : Value) × (u : Value) × (w : Value) × (c : Value) × (held ≡ t ∷ u ∷ w ∷ c ∷ [])
four_held [] h = absurd (omega (arith, h))
four_held (t ∷ []) h = absurd (omega (arith, h))
four_held (t ∷ u ∷ []) h = absurd (omega (arith, h))
four_held (t ∷ u ∷ w ∷ []) h = absurd (omega (arith, h))
four_held (t ∷ u ∷ w ∷ c ∷ []) h = (t, u, w, c, refl)
four_held (t ∷ u ∷ w ∷ c ∷ v ∷ more) h = absurd (omega (arith, h))

-- ---- a send by a routing name

-- the operands of a send that were taken off
record Remote (held pre : List Value) (b : Option ℤ) (h : Option Host) (k : Option Chunk) (left : List Value) : Type 0 where
  u : Value
  w : Value
  c : Value
  are : held ≡ u ∷ w ∷ c ∷ []
  bound : b ≡ as_int u
  host : h ≡ as_host w
  chunk : k ≡ as_chunk c
  low : left ≡ pre

module _ (s : Spot) (a x y : Expr) (r : Name) (form : layer s ≡ Expr-F.OnRemote a x y r) (old held pre : List Value) (split : old ≡ held ++ pre)
    (many : length held ≡ length (operands (layer s))) (b : Option ℤ) (h : Option Host) (k : Option Chunk) (one two left : List Value) (first : PopsAs as_int b old one)
    (second : PopsAs as_host h one two) (third : PopsAs as_chunk k two left) where
  remote_parts : Remote held pre b h k left
  remote_parts =
      let t = three_held held (many ∙ ap (λ l. length (operands l)) form) in
      let p = pops as_int b old one t.0 (t.1 ∷ t.2 ∷ pre) (split ∙ ap (λ l. l ++ pre) t.3) first in
      let q = pops as_host h one two t.1 (t.2 ∷ pre) p.1 second in
      let z = pops as_chunk k two left t.2 pre q.1 third in
      record { u = t.0; w = t.1; c = t.2; are = t.3; bound = p.0; host = q.0; chunk = z.0; low = z.1 }

  module _ (o mid : Own) (same : mid ≡ o) (n : ServiceState) where
    after_same : (makes s (reverse held) (joined_state o n)).after ≡ stopped Wrong (joined_state o n) → (makes s (reverse held) (joined_state o n)).after ≡ stopped Wrong (joined_state mid n)
    after_same is = is ∙ ap (λ q. stopped Wrong (joined_state q n)) (sym same)

    pub remote_chunk : k ≡ None → (makes s (reverse held) (joined_state o n)).after ≡ stopped Wrong (joined_state mid n)
    remote_chunk none = let t = remote_parts in after_same (rw (form, t.are, sym t.chunk ∙ none) refl)

    pub remote_host : (kk : Chunk) → k ≡ Some kk → h ≡ None → (makes s (reverse held) (joined_state o n)).after ≡ stopped Wrong (joined_state mid n)
    remote_host kk is none = let t = remote_parts in after_same (rw (form, t.are, sym t.chunk ∙ is, sym t.host ∙ none) refl)

    pub remote_bound : (kk : Chunk) (hh : Host) → k ≡ Some kk → h ≡ Some hh → b ≡ None → (makes s (reverse held) (joined_state o n)).after ≡ stopped Wrong (joined_state mid n)
    remote_bound kk hh is at none = let t = remote_parts in after_same (rw (form, t.are, sym t.chunk ∙ is, sym t.host ∙ at, sym t.bound ∙ none) refl)

    pub remote_sent : (kk : Chunk) (hh : Host) (i j : ℤ) → k ≡ Some kk → h ≡ Some hh → b ≡ Some i → j ≡ i → (p : Progress) (new : Run) → p ≢ came.Wait
        → Flows s left (and_then (and_then (send_remote kk hh j r (joined_state mid n)) (λ _. pure value.Unit)) weighed_value) p new n
        → Flows s pre (makes s (reverse held) (joined_state o n)) p new n
    remote_sent kk hh i j is at number number_is p new settled flows =
        let t = remote_parts in
        let here : Flows s pre (and_then (and_then (send_remote kk hh i r (joined_state o n)) (λ _. pure value.Unit)) weighed_value) p new n =
        subst (λ q. Flows s pre (and_then (and_then (send_remote kk hh i r (joined_state q n)) (λ _. pure value.Unit)) weighed_value) p new n) same
        (subst (λ m. Flows s pre (and_then (and_then (send_remote kk hh m r (joined_state mid n)) (λ _. pure value.Unit)) weighed_value) p new n) number_is
        (subst (λ l. Flows s l (and_then (and_then (send_remote kk hh j r (joined_state mid n)) (λ _. pure value.Unit)) weighed_value) p new n) t.low flows)) in
        flows_same s pre (makes s (reverse held) (joined_state o n)) (and_then (and_then (send_remote kk hh i r (joined_state o n)) (λ _. pure value.Unit)) weighed_value) p new n settled
        (rw (form, t.are, sym t.chunk ∙ is, sym t.host ∙ at, sym t.bound ∙ number) refl) here

pub remote_safe : (r : Name) (o mid : Own) (stack one two left : List Value) (i j : ℤ) (h : Host) (k : Chunk) → mid ≡ o → j ≡ i → PopsAs as_int (Some i) stack one → PopsAs as_host (Some h) one two
    → PopsAs as_chunk (Some k) two left → RemoteIsSafe r stack o → (n : ServiceState) × IsSafe (send_remote k h j r (joined_state mid n)).asks
remote_safe r o mid [] one two left i j h k same number first second third safe = absurd (none-some (sym first.0))
remote_safe r o mid (u ∷ []) one two left i j h k same number first second third safe =
    let q = subst (λ l. PopsAs as_host (Some h) l two) first.1 second in absurd (none-some (sym q.0))
remote_safe r o mid (u ∷ w ∷ []) one two left i j h k same number first second third safe =
    let q = pops as_host (Some h) one two w [] first.1 second in
    let z = subst (λ l. PopsAs as_chunk (Some k) l left) q.1 third in absurd (none-some (sym z.0))
remote_safe r o mid (u ∷ w ∷ c ∷ pre) one two left i j h k same number first second third safe =
    let q = pops as_host (Some h) one two w (c ∷ pre) first.1 second in
    let z = pops as_chunk (Some k) two left c pre q.1 third in
    rw (number, same) (safe k h i (sym z.0) (sym q.0) (sym first.0))

-- ---- a send to a neighbour

record Near (held pre : List Value) (d : Option Dev) (b : Option ℤ) (h : Option Host) (k : Option Chunk) (left : List Value) : Type 0 where
  t : Value
  u : Value
  w : Value
  c : Value
  are : held ≡ t ∷ u ∷ w ∷ c ∷ []
  dev : d ≡ as_dev t
  bound : b ≡ as_int u
  host : h ≡ as_host w
  chunk : k ≡ as_chunk c
  low : left ≡ pre

module _ (s : Spot) (a x y z : Expr) (form : layer s ≡ Expr-F.OnNeighbor a x y z) (old held pre : List Value) (split : old ≡ held ++ pre)
    (many : length held ≡ length (operands (layer s))) (d : Option Dev) (b : Option ℤ) (h : Option Host) (k : Option Chunk) (one two three left : List Value) (first : PopsAs as_dev d old one)
    (second : PopsAs as_int b one two) (third : PopsAs as_host h two three) (fourth : PopsAs as_chunk k three left) where
  near_parts : Near held pre d b h k left
  near_parts =
      let t = four_held held (many ∙ ap (λ l. length (operands l)) form) in
      let p = pops as_dev d old one t.0 (t.1 ∷ t.2 ∷ t.3 ∷ pre) (split ∙ ap (λ l. l ++ pre) t.4) first in
      let q = pops as_int b one two t.1 (t.2 ∷ t.3 ∷ pre) p.1 second in
      let v = pops as_host h two three t.2 (t.3 ∷ pre) q.1 third in
      let m = pops as_chunk k three left t.3 pre v.1 fourth in
      record { t = t.0; u = t.1; w = t.2; c = t.3; are = t.4; dev = p.0; bound = q.0; host = v.0; chunk = m.0; low = m.1 }

  module _ (o mid : Own) (same : mid ≡ o) (n : ServiceState) where
    near_same : (makes s (reverse held) (joined_state o n)).after ≡ stopped Wrong (joined_state o n) → (makes s (reverse held) (joined_state o n)).after ≡ stopped Wrong (joined_state mid n)
    near_same is = is ∙ ap (λ q. stopped Wrong (joined_state q n)) (sym same)

    pub near_chunk : k ≡ None → (makes s (reverse held) (joined_state o n)).after ≡ stopped Wrong (joined_state mid n)
    near_chunk none = let t = near_parts in near_same (rw (form, t.are, sym t.chunk ∙ none) refl)

    pub near_host : (kk : Chunk) → k ≡ Some kk → h ≡ None → (makes s (reverse held) (joined_state o n)).after ≡ stopped Wrong (joined_state mid n)
    near_host kk is none = let t = near_parts in near_same (rw (form, t.are, sym t.chunk ∙ is, sym t.host ∙ none) refl)

    pub near_bound : (kk : Chunk) (hh : Host) → k ≡ Some kk → h ≡ Some hh → b ≡ None → (makes s (reverse held) (joined_state o n)).after ≡ stopped Wrong (joined_state mid n)
    near_bound kk hh is at none = let t = near_parts in near_same (rw (form, t.are, sym t.chunk ∙ is, sym t.host ∙ at, sym t.bound ∙ none) refl)

    pub near_dev : (kk : Chunk) (hh : Host) (i : ℤ) → k ≡ Some kk → h ≡ Some hh → b ≡ Some i → d ≡ None
        → (makes s (reverse held) (joined_state o n)).after ≡ stopped Wrong (joined_state mid n)
    near_dev kk hh i is at number none = let t = near_parts in near_same (rw (form, t.are, sym t.chunk ∙ is, sym t.host ∙ at, sym t.bound ∙ number, sym t.dev ∙ none) refl)

    pub near_sent : (kk : Chunk) (hh : Host) (i j : ℤ) (dd : Dev) → k ≡ Some kk → h ≡ Some hh → b ≡ Some i → d ≡ Some dd → j ≡ i → (p : Progress) (new : Run) → p ≢ came.Wait
        → Flows s left (and_then (and_then (send_neighbour kk hh j dd (joined_state mid n)) (λ _. pure value.Unit)) weighed_value) p new n
        → Flows s pre (makes s (reverse held) (joined_state o n)) p new n
    near_sent kk hh i j dd is at number to number_is p new settled flows =
        let t = near_parts in
        let here : Flows s pre (and_then (and_then (send_neighbour kk hh i dd (joined_state o n)) (λ _. pure value.Unit)) weighed_value) p new n =
        subst (λ q. Flows s pre (and_then (and_then (send_neighbour kk hh i dd (joined_state q n)) (λ _. pure value.Unit)) weighed_value) p new n) same
        (subst (λ m. Flows s pre (and_then (and_then (send_neighbour kk hh m dd (joined_state mid n)) (λ _. pure value.Unit)) weighed_value) p new n) number_is
        (subst (λ l. Flows s l (and_then (and_then (send_neighbour kk hh j dd (joined_state mid n)) (λ _. pure value.Unit)) weighed_value) p new n) t.low flows)) in
        flows_same s pre (makes s (reverse held) (joined_state o n)) (and_then (and_then (send_neighbour kk hh i dd (joined_state o n)) (λ _. pure value.Unit)) weighed_value) p new n settled
        (rw (form, t.are, sym t.chunk ∙ is, sym t.host ∙ at, sym t.bound ∙ number, sym t.dev ∙ to) refl) here

pub near_safe : (o mid : Own) (stack one two three left : List Value) (i j : ℤ) (h : Host) (k : Chunk) (d : Dev) → mid ≡ o → j ≡ i → PopsAs as_dev (Some d) stack one
    → PopsAs as_int (Some i) one two → PopsAs as_host (Some h) two three → PopsAs as_chunk (Some k) three left → NearIsSafe stack o
    → (n : ServiceState) × IsSafe (send_neighbour k h j d (joined_state mid n)).asks
near_safe o mid [] one two three left i j h k d same number first second third fourth safe = absurd (none-some (sym first.0))
near_safe o mid (t ∷ []) one two three left i j h k d same number first second third fourth safe =
    let q = subst (λ l. PopsAs as_int (Some i) l two) first.1 second in absurd (none-some (sym q.0))
near_safe o mid (t ∷ u ∷ []) one two three left i j h k d same number first second third fourth safe =
    let q = pops as_int (Some i) one two u [] first.1 second in
    let v = subst (λ l. PopsAs as_host (Some h) l three) q.1 third in absurd (none-some (sym v.0))
near_safe o mid (t ∷ u ∷ w ∷ []) one two three left i j h k d same number first second third fourth safe =
    let q = pops as_int (Some i) one two u (w ∷ []) first.1 second in
    let v = pops as_host (Some h) two three w [] q.1 third in
    let m = subst (λ l. PopsAs as_chunk (Some k) l left) v.1 fourth in absurd (none-some (sym m.0))
near_safe o mid (t ∷ u ∷ w ∷ c ∷ pre) one two three left i j h k d same number first second third fourth safe =
    let q = pops as_int (Some i) one two u (w ∷ c ∷ pre) first.1 second in
    let v = pops as_host (Some h) two three w (c ∷ pre) q.1 third in
    let m = pops as_chunk (Some k) three left c pre v.1 fourth in
    rw (number, same) (safe k h i d (sym m.0) (sym v.0) (sym q.0) (sym first.0))
