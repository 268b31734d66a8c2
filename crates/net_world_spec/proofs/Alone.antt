-- What a family was granted where nothing of it came from outside: the bound of its only injection.
use Rattle.std.proofs.Common.{◌≡◌, ℕ, ◌+◌, ◌≤◌, Bool, true, false, cond, List, [], ◌∷◌, ◌++◌, refl, ap, ◌∙◌, arith}
use Rattle.std.specs.Prelude.{◌==◌, ◌&&◌}
use Rattle.std.proofs.lemmas.Bool.Decides.{nat_tests}
use Rattle.plan_base.specs.declared.ids.Host.{Host}
use Rattle.plan_base.specs.declared.ids.Family.{Family}
use Rattle.node_core_spec.specs.Counts.{is_family, only, act_granted, act_injections}
use Rattle.node_core_spec.specs.declared.acts.Act.{Act}
use Rattle.node_core_spec.specs.declared.acts.Act.TheVariants.{Injected}
use Rattle.net_world_spec.specs.declared.lines.Line.{Line}
use Rattle.net_world_spec.specs.declared.lines.Line.TheVariants.{At, Forged}
use Rattle.net_world_spec.specs.declared.lines.Entry.{Entry}
use Rattle.net_world_spec.specs.Counts.{line_granted, line_injections, line_forged, tally, granted_sum, injections, forgeries}
use Rattle.net_world_spec.proofs.CountLaws.{tally-nil, tally-cons, tally-append}

module _ (f : Family) where
  none_by : (t : Bool) (n : ℕ) → ◌≡◌ {A = ℕ} (cond t 1 0) 0 → ◌≡◌ {A = ℕ} (cond t n 0) 0
  none_by t n e = grind (arith)

  only_none : (g : Family) (n : ℕ) → only f g 1 ≡ 0 → only f g n ≡ 0
  unfolding only
  only_none g n e = none_by (is_family f g) n e

  -- of the family itself a number counts as it is
  only_own : (n : ℕ) → only f f n ≡ n
  unfolding only is_family
  only_own n = grind (arith, nat_tests)

  act_none : (a : Act) → act_injections f a ≡ 0 → act_granted f a ≡ 0
  act_none (Injected g bound) e = only_none g bound e
  act_none _ e = refl

  line_none : (l : Line) → line_injections f l ≡ 0 → line_forged f l ≡ 0 → line_granted f l ≡ 0
  line_none (At h a) i o = act_none a i
  line_none (Forged h g bound) i o = only_none g bound o
  line_none _ i o = refl

  -- a history without injections and without packets from outside grants nothing
  none_granted : (es : List Entry) → injections f es ≡ 0 → forgeries f es ≡ 0 → granted_sum f es ≡ 0
  none_granted [] i o = tally-nil (line_granted f)
  none_granted (e ∷ es) i o =
      let ki = tally-cons (line_injections f) e es in
      let ko = tally-cons (line_forged f) e es in
      let here : line_granted f e.line ≡ 0 = line_none e.line (omega (arith, ki, i)) (omega (arith, ko, o)) in
      let more = none_granted es (omega (arith, ki, i)) (omega (arith, ko, o)) in
      omega (arith, tally-cons (line_granted f) e es, here, more)

  counts_one : (l : Line) (h : Host) (bound : ℕ) → l ≡ At h (Injected f bound) → line_injections f l ≡ 1
  counts_one l h bound is = ap (line_injections f) is ∙ only_own 1

  grants_bound : (l : Line) (h : Host) (bound : ℕ) → l ≡ At h (Injected f bound) → line_granted f l ≡ bound
  grants_bound l h bound is = ap (line_granted f) is ∙ only_own bound

  split_alone : (before after : List Entry) (e : Entry) (h : Host) (bound : ℕ) → e.line ≡ At h (Injected f bound)
      → injections f (before ++ e ∷ after) ≤ 1 → forgeries f (before ++ e ∷ after) ≡ 0 → granted_sum f (before ++ e ∷ after) ≡ bound
  split_alone before after e h bound is once none =
      let ia = tally-append (line_injections f) before (e ∷ after) in
      let ic = tally-cons (line_injections f) e after in
      let oa = tally-append (line_forged f) before (e ∷ after) in
      let oc = tally-cons (line_forged f) e after in
      let ga = tally-append (line_granted f) before (e ∷ after) in
      let gc = tally-cons (line_granted f) e after in
      let one = counts_one e.line h bound is in
      let own = grants_bound e.line h bound is in
      let first = none_granted before (omega (arith, ia, ic, one, once)) (omega (arith, oa, oc, none)) in
      let last = none_granted after (omega (arith, ia, ic, one, once)) (omega (arith, oa, oc, none)) in
      omega (arith, ga, gc, own, first, last)

  pub injected_alone : (history before after : List Entry) (e : Entry) (h : Host) (bound : ℕ) → injections f history ≤ 1 → forgeries f history ≡ 0
      → history ≡ before ++ e ∷ after → e.line ≡ At h (Injected f bound) → granted_sum f history ≡ bound
  injected_alone history before after e h bound once none same is =
      let on_once : injections f (before ++ e ∷ after) ≤ 1 = omega (arith, ap (injections f) same, once) in
      let on_none : forgeries f (before ++ e ∷ after) ≡ 0 = omega (arith, ap (forgeries f) same, none) in
      ap (granted_sum f) same ∙ split_alone before after e h bound is on_once on_none
