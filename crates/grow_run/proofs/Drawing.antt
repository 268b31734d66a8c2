-- What is drawn can happen.
use Rattle.std.proofs.Common.{◌≡◌, ℕ, ◌+◌, ◌==◌, ◌<◌, ◌≤◌, nat_lt, Bool, true, false, cond, List, Option, arith, subst, sym, ap, ◌∙◌}
use Rattle.std.specs.Prelude.{unwrap_or, if◌then◌else◌}
use Rattle.std.proofs.lemmas.Bool.{lt-ltb, le-ltb}
use Rattle.rand_pcg.specs.Lcg.{Lcg}
use Rattle.plan_base.specs.declared.ids.Host.{Host}
use Rattle.plan_base.specs.declared.tree.Chunk.{Chunk}
use Rattle.network_config.specs.Hosts.{host_of}
use Rattle.network_config.specs.declared.event.WorldEvent.{WorldEvent}
use Rattle.network_config.specs.declared.event.WorldEvent.TheVariants.{Tick}
use Rattle.net_world_spec.specs.declared.lines.FrameOnWire.{FrameOnWire}
use Rattle.net_world_spec.specs.World.{WorldState}
use Rattle.net_world_spec.specs.Numbers.{lowest, highest}
use Rattle.grow_run.specs.Grow.{event_of, drawn_choice, next_event}
use Rattle.grow_run.specs.declared.choice.RandomEvent.{RandomEvent}
use Rattle.grow_run.specs.declared.choice.RandomEvent.TheVariants.{Deliver, Lose}
use Rattle.grow_run.specs.Draws.{draw, choose_tick, choose_inject, choose_send, choose_by, choose}
use Rattle.grow_run.specs.Events.{choice_fits, drawn_event}

by_number : (g : Lcg) (lowest highest : ℕ) (a b c d e : Bool)
    → choice_fits (cond a (Lose lowest, g) (cond b (choose_tick g) (cond c (choose_inject g) (cond d (choose_send g) (cond e (Deliver lowest, g) (Deliver highest, g)))))).0
by_number g lowest highest true b c d e = tt
by_number g lowest highest false true c d e = tt
by_number g lowest highest false false true d e = tt
by_number g lowest highest false false false true e = omega arith
by_number g lowest highest false false false false true = tt
by_number g lowest highest false false false false false = tt

-- a choice that was drawn has a device of at most 8
pub choices_fit : (lowest highest : Option ℕ) (g : Lcg) → choice_fits (choose lowest highest g).0
unfolding choose choose_by
choices_fit lowest highest g =
    let r = (draw 16 g).0 in
    by_number (draw 16 g).1 (unwrap_or lowest 1) (unwrap_or highest 1) (r == 0) (r == 1) (nat_lt r 4) (nat_lt r 10) (nat_lt r 14)

pub choice_is : (lowest highest : Option ℕ) (g : Lcg) (choice : RandomEvent) (after : Lcg) → (choice, after) ≡ choose lowest highest g → choice_fits choice
choice_is lowest highest g choice after is = subst (λ (p : RandomEvent × Lcg). choice_fits p.0) (sym is) (choices_fit lowest highest g)

-- ---- what happens next

-- what was drawn for a network, from the ends of its wire
pub drawn_is : (ping : Host → Host → Chunk) (g after : Lcg) (w : WorldState) (wire : List FrameOnWire) (low high : Option ℕ) (choice : RandomEvent) (e : WorldEvent) → low ≡ lowest wire → high ≡ highest wire → wire ≡ w.wire
    → (choice, after) ≡ choose low high g → e ≡ event_of ping choice → (e, after) ≡ drawn_event ping g w
drawn_is ping g after w wire low high choice e l h same c is =
    let own : (choice, after) ≡ drawn_choice g w = c ∙ (λ i. choose ((l ∙ ap lowest same) i) ((h ∙ ap highest same) i) g) in
    ap (λ x. (x, after)) is ∙ ap (λ (p : RandomEvent × Lcg). (event_of ping p.0, p.1)) own

module _ (ping : Host → Host → Chunk) (g : Lcg) (w : WorldState) (made : ℕ) (same : made ≡ w.made) where
  by_made : (b : Bool) → nat_lt made 8 ≡ b → (if b then (Tick (host_of (made + 1)), g) else drawn_event ping g w) ≡ next_event ping g w
  by_made b is = ap (λ c. if c then (Tick (host_of (made + 1)), g) else drawn_event ping g w) (sym is)
      ∙ ap (λ m. if nat_lt m 8 then (Tick (host_of (m + 1)), g) else drawn_event ping g w) same

  pub ticks_first : made < 8 → (Tick (host_of (made + 1)), g) ≡ next_event ping g w
  ticks_first h = by_made true (lt-ltb made 8 h)

  pub draws_then : (e : WorldEvent) (after : Lcg) → 8 ≤ made → (e, after) ≡ drawn_event ping g w → (e, after) ≡ next_event ping g w
  draws_then e after h is = is ∙ by_made false (le-ltb made 8 h)
