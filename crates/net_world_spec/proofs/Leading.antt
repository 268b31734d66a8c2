-- What a visit sends is led by its surroundings.
use Rattle.std.proofs.Common.{◌≡◌, ℕ, suc, ◌+◌, ◌-◌, Bool, true, false, cond, not, eqb, if◌then◌else◌, ◌==◌, nat_lt, ℤ, List, [], ◌∷◌, ◌⊎◌, inl, inr, refl, sym, ap, ◌∙◌, arith}
use Rattle.std.specs.Prelude.{All, Contains}
use Rattle.std.specs.Str.{bytes_eq}
use Rattle.std.proofs.lemmas.Bool.{false≢true}
use Rattle.std.proofs.lemmas.Bool.Decides.{Decides-eqb}
use Rattle.std.proofs.lemmas.List.Elements.{All-push, All-same, All-nil}
use Rattle.plan_base.specs.declared.name.Name.{Name}
use Rattle.plan_base.specs.declared.ids.Host.{Host}
use Rattle.plan_base.specs.declared.ids.Dev.{Dev}
use Rattle.plan_base.specs.declared.tree.Exn.{Exn}
use Rattle.plan_base.specs.declared.tree.Expr.{Expr}
use Rattle.plan_base.specs.declared.tree.Svc.{Svc}
use Rattle.plan_base.specs.declared.tree.Program.{Program}
use Rattle.plan_base.specs.declared.tree.Value.{Value}
use Rattle.plan_base.specs.declared.tree.Chunk.{Chunk}
use Rattle.service_api.specs.declared.ctx.Ctx.{Ctx}
use Rattle.service_api.specs.declared.answer.Answer.{Answer}
use Rattle.service_api.specs.declared.answer.Answer.TheVariants.{Gives, Raises}
use Rattle.service_api.specs.declared.router.Hop.{Hop}
use Rattle.service_api.specs.declared.router.RouteRow.{RouteRow}
use Rattle.service_api.specs.declared.router.Hop.TheVariants.{To, NoService, NoRoute}
use Rattle.service_api.specs.Routes.{hop, hop_in, own_device, default_route}
use Rattle.service_api.specs.Services.{served_call}
use Rattle.plan_meaning.specs.declared.sent.Sent.{Sent}
use Rattle.plan_meaning.specs.declared.stop.EvalStop.TheVariants.{Raised, WorkSpent, Wrong, NoMemory}
use Rattle.plan_meaning.specs.State.{VisitState}
use Rattle.plan_meaning.specs.Run.{After, gave, stopped, RunStep, Run, «next», quiet, raise, otherwise, spend, serve, answered_call}
use Rattle.plan_meaning.specs.Meaning.{Env, pay_eval, no_bound, is_paid, bound_of, packet, sent_packet, sent_by, send_remote, leads_to, is_next, not_neighbour, send_neighbour, run_to, meaning, visited_chunk}
use Rattle.plan_meaning.specs.Laws.{left_by}
use Rattle.plan_meaning.proofs.Walk.{Kept, run_kept, visited_kept}
use Rattle.dv_routing.proofs.Costs.{same_host}
use Rattle.net_world_spec.specs.Led.{IsLed}

same_dev : (a b : Dev) → eqb a.0 b.0 ≡ true → a ≡ b
same_dev a b e = ap (λ n. let d : Dev = record { 0 = n } in d) ((Decides-eqb a.0 b.0).0 e)

-- a neighbour that is found on a device
next_among : (neighbours : List (Host × Dev)) (d : Dev) (h : Host) → leads_to neighbours d h ≡ true → Contains neighbours (h, d)
next_among [] d h e = absurd (false≢true e)
next_among (m ∷ ms) d h e = split (next_among ms d h) (eqb m.1.0 d.0) refl e
  where
    split : (leads_to ms d h ≡ true → Contains ms (h, d)) → (t : Bool) → eqb m.1.0 d.0 ≡ t → cond t (eqb m.0.0 h.0) (leads_to ms d h) ≡ true → Contains (m ∷ ms) (h, d)
    split rest true k same =
        let host = same_host m.0 h same in
        let dev = same_dev m.1 d k in
        (0, omega arith, ap (λ x. (x, m.1)) host ∙ ap (λ x. (h, x)) dev)
    split rest false k later = let c = rest later in (suc c.0, omega (arith, c.1), c.2)

-- a hop is by the default route
hop_default : (rows : List RouteRow) (r : List ℕ) (here h m : Host) (d : Dev) → hop rows r here h ≡ To m d → bytes_eq r default_route ≡ true
unfolding hop
hop_default rows r here h m d e = split (bytes_eq r default_route) refl e
  where
    split : (t : Bool) → bytes_eq r default_route ≡ t → cond (not t) NoService (cond (eqb here.0 h.0) (To h own_device) (hop_in rows h)) ≡ To m d → bytes_eq r default_route ≡ true
    split true k same = k
    split false k same = absurd (none same)
      where
        none : NoService ≡ To m d → ⊥
        none x = cc

module _ (here : Host) (neighbours : List (Host × Dev)) (router : List RouteRow) where
  -- the surroundings stay, and all sends are led by them
  pub record Leading (ctx : Ctx) (outbox : List Sent) : Type 0 where
    pub at : ctx.here ≡ here
    pub near : ctx.neighbours ≡ neighbours
    pub routes : ctx.router ≡ router
    pub led : All (IsLed here neighbours router) outbox

  abbrev pub Out : {A : Type 0} → After A → Type 0
  Out a = Leading (left_by a).ctx (left_by a).outbox

  abbrev pub Leads : (A : Type 0) → Run A → Run A → Type 0
  Leads A p q = (s : VisitState) → Leading s.ctx s.outbox → Out (p s).after

  choose : {A : Type 0} (b : Bool) (x y : RunStep A) → Out x.after → Out y.after → Out (if b then x else y).after
  choose true x y h k = h
  choose false x y h k = k

  next_out : {A B : Type 0} (a : After A) (g : A → Run B) → Out a → ((x : A) → Leads B (g x) (g x)) → Out («next» a g).after
  next_out (gave x s) g h k = k x s h
  next_out (stopped e s) g h k = h

  rescue_out : (a : After Value) (g : Exn → Run Value) → Out a → ((x : Exn) → Leads Value (g x) (g x)) → Out (otherwise a g).after
  rescue_out (gave x s) g h k = h
  rescue_out (stopped (Raised x) s) g h k = k x s h
  rescue_out (stopped WorkSpent s) g h k = h
  rescue_out (stopped Wrong s) g h k = h
  rescue_out (stopped NoMemory s) g h k = h

  sent_out : (s : VisitState) (dev : Dev) (k : Chunk) (h : Host) (n : ℕ) (r : Name) → IsLed here neighbours router (record { dev = dev; packet = packet s k h n r })
      → Leading s.ctx s.outbox → Out (sent_packet dev k h n r s).after
  sent_out s dev k h n r e o = record {
    at = o.at;
    near = o.near;
    routes = o.routes;
    led = All-push (IsLed here neighbours router) s.outbox _ o.led e;
  }

  sent_by_out : (s : VisitState) (by : Hop) (k : Chunk) (h : Host) (n : ℕ) (r : Name) → hop s.ctx.router r s.ctx.here h ≡ by → Leading s.ctx s.outbox
      → Out (sent_by by k h n r s).after
  sent_by_out s (To via dev) k h n r e o =
      let by : hop router r here h ≡ To via dev = ap (λ rows. hop rows r here h) (sym o.routes) ∙ (ap (λ x. hop s.ctx.router r x h) (sym o.at) ∙ e) in
      sent_out s dev k h n r (record { default = hop_default router r here h via dev by; leads = inl (via, by) }) o
  sent_by_out s NoService k h n r e o = record { at = o.at; near = o.near; routes = o.routes; led = o.led }
  sent_by_out s NoRoute k h n r e o = record { at = o.at; near = o.near; routes = o.routes; led = o.led }

  remote_out : (s : VisitState) (k : Chunk) (h : Host) (n : ℤ) (r : Name) (b : Bool) → Leading s.ctx s.outbox
      → Out (if b then sent_by (hop s.ctx.router r s.ctx.here h) k h (bound_of n) r s else raise no_bound s).after
  remote_out s k h n r true o = sent_by_out s (hop s.ctx.router r s.ctx.here h) k h (bound_of n) r refl o
  remote_out s k h n r false o = o

  next_led : (s : VisitState) (k : Chunk) (h : Host) (n : ℕ) (d : Dev) → Leading s.ctx s.outbox → is_next s d h ≡ true
      → IsLed here neighbours router (record { dev = d; packet = packet s k h n default_route })
  unfolding is_next
  next_led s k h n d o e = record { default = refl; leads = inr (split (eqb d.0 0) refl e) }
    where
      split : (t : Bool) → eqb d.0 0 ≡ t → cond t (eqb s.ctx.here.0 h.0) (leads_to s.ctx.neighbours d h) ≡ true → ((d.0 ≡ 0) × (h ≡ here)) ⊎ Contains neighbours (h, d)
      split true z same = inl ((Decides-eqb d.0 0).0 z, sym (same_host s.ctx.here h same) ∙ o.at)
      split false z found = inr (next_among neighbours d h (ap (λ ns. leads_to ns d h) (sym o.near) ∙ found))

  next_out_led : (s : VisitState) (k : Chunk) (h : Host) (n : ℤ) (d : Dev) (t : Bool) → is_next s d h ≡ t → Leading s.ctx s.outbox
      → Out (if t then sent_packet d k h (bound_of n) default_route s else raise not_neighbour s).after
  next_out_led s k h n d true e o = sent_out s d k h (bound_of n) default_route (next_led s k h (bound_of n) d o e) o
  next_out_led s k h n d false e o = o

  neighbour_out : (s : VisitState) (k : Chunk) (h : Host) (n : ℤ) (d : Dev) (b : Bool) → Leading s.ctx s.outbox
      → Out (if b then (if is_next s d h then sent_packet d k h (bound_of n) default_route s else raise not_neighbour s) else raise no_bound s).after
  neighbour_out s k h n d true o = next_out_led s k h n d (is_next s d h) refl o
  neighbour_out s k h n d false o = o

  served_out : (t : VisitState) → Leading t.ctx t.outbox → (a : Answer) → Out (answered_call a t)
  served_out t o (Gives v told) = o
  served_out t o (Raises x) = o

  spends : (n : ℕ) → Leads (Unit {0}) (spend n) (spend n)
  unfolding spend
  spends n s o = choose (nat_lt s.work n) (quiet (stopped WorkSpent s)) (quiet (gave tt (record s { work = s.work - n }))) o o

  pays : Leads (Unit {0}) pay_eval pay_eval
  unfolding pay_eval
  pays s o = choose (s.ctx.purse == 0) (quiet (stopped (Raised no_bound) s)) (quiet (gave tt (record s { ctx = record s.ctx { purse = s.ctx.purse - 1 }; evals = s.evals + 1 })))
      o (record { at = o.at; near = o.near; routes = o.routes; led = o.led })

  remotes : (k : Chunk) (h : Host) (n : ℤ) (r : Name) → Leads (Unit {0}) (send_remote k h n r) (send_remote k h n r)
  unfolding send_remote
  remotes k h n r s o = remote_out s k h n r (is_paid n s.ctx.purse) o

  nexts : (k : Chunk) (h : Host) (n : ℤ) (d : Dev) → Leads (Unit {0}) (send_neighbour k h n d) (send_neighbour k h n d)
  unfolding send_neighbour
  nexts k h n d s o = neighbour_out s k h n d (is_paid n s.ctx.purse) o

  serves : (d : Svc) (args : List Value) → Leads Value (serve d args) (serve d args)
  unfolding serve
  serves d args s o = served_out _ o (served_call s.services d args s.ctx).answer

  leads_kept : Kept Leads
  leads_kept = record {
    gives = λ A a s o. o;
    stops = λ A e s o. o;
    wrongs = λ A s o. o;
    binds = λ A B p q g g' h k s o. next_out (p s).after g (h s o) k;
    rescues = λ p q g g' h k s o. rescue_out (p s).after g (h s o) k;
    spends = spends;
    pays = pays;
    remotes = remotes;
    neighbours = nexts;
    serves = serves;
  }

  run_leads : (n : ℕ) (code : Program) (seen : ℕ) (env : Env) (e : Expr) → Leads Value (run_to n code seen env e) (run_to n code seen env e)
  run_leads n = run_kept Leads leads_kept (λ q s o. o) n n (omega arith)

  means_leads : (code : Program) (seen : ℕ) (env : Env) (e : Expr) → Leads Value (meaning code seen env e) (meaning code seen env e)
  unfolding meaning
  means_leads code seen env e s o = run_leads (suc s.work) code seen env e s o

  pub visit_leads : (k : Chunk) → Leads Value (visited_chunk meaning k) (visited_chunk meaning k)
  visit_leads k = visited_kept Leads leads_kept meaning meaning means_leads k

pub visit_led : (k : Chunk) (s : VisitState) → s.outbox ≡ [] → All (IsLed s.ctx.here s.ctx.neighbours s.ctx.router) (left_by (visited_chunk meaning k s).after).outbox
visit_led k s e =
    let P = IsLed s.ctx.here s.ctx.neighbours s.ctx.router in
    (visit_leads s.ctx.here s.ctx.neighbours s.ctx.router k s (record { at = refl; near = refl; routes = refl; led = All-same P s.outbox [] e (All-nil P) })).led
