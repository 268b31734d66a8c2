-- The chunk of an `eval`.
use Rattle.std.proofs.Common.{◌≡◌, ◌≢◌, ◌≤◌, ℕ, ◌-◌, arith, List, [], ◌∷◌, ◌++◌, length, take, drop, reverse, slice_get, min, Some, refl, sym, ap, ◌∙◌, subst}
use Rattle.std.proofs.lemmas.List.{length-append, reverse-reverse, take_at}
use Rattle.plan_base.specs.declared.tree.Chunk.{Chunk}
use Rattle.plan_base.specs.declared.tree.Expr.{Expr, Expr-F, out-Expr}
use Rattle.plan_base.specs.declared.tree.Program.{Program}
use Rattle.plan_base.specs.declared.tree.Value.{Value}
use Rattle.plan_base.specs.declared.tree.Value as value
use Rattle.plan_base.specs.Sizes.{code_size}
use Rattle.plan_types_spec.specs.TypingNames.{place_of}
use Rattle.service_api.specs.Services.{ServiceState}
use Rattle.plan_meaning.specs.State.{VisitState}
use Rattle.plan_meaning.specs.Run.{gave, and_then, pure, ◌>>=◌, ◌>>◌, weighed_value}
use Rattle.plan_meaning.specs.Meaning.{meaning, entered_function, visited_chunk, as_chunk, pay_eval}
use Rattle.plan_meaning.specs.Safe.{IsSafe}
use Rattle.plan_eval_state.specs.declared.continuation.Activation.{Activation}
use Rattle.plan_eval_state.specs.declared.continuation.Continuation.TheVariants as cont
use Rattle.plan_eval_state.specs.declared.progress.Progress.{Progress}
use Rattle.plan_eval_state.specs.declared.progress.Progress.TheVariants as came
use Rattle.plan_eval_state.specs.declared.run.Run.{Run}
use Rattle.plan_eval_state.specs.Leads.{Leads}
use Rattle.plan_eval_state.specs.Forms.{operands}
use Rattle.plan_eval_state.specs.Spots.{Spot, layer, means, body_in, resume}
use Rattle.plan_eval_state.specs.Laws.{makes}
use Rattle.plan_eval_state.specs.Flow.{now, Flows, Spends, Lasts}
use Rattle.plan_eval_state.proofs.Bottoms.{kept_in}
use Rattle.plan_eval_state.proofs.Leading.{onward, along, regrouped, given_on, gave_on}
use Rattle.plan_eval_state.proofs.Stepping.{to_chunk}
use Rattle.plan_eval_state.proofs.Forming.{enters}
use Rattle.plan_eval_made.specs.declared.here.Here.{Here}
use Rattle.plan_eval_made.specs.declared.opening.Opened.{Opened}
use Rattle.plan_eval_made.specs.Where.{spot, Ready}
use Rattle.plan_eval_made.specs.Comes.{Grows, Keeps, Comes}
use Rattle.plan_eval_made.specs.Opens.{Opens, Refuses}
use Rattle.plan_eval_forms.specs.Parts.{made_here, MakesOn, args_from, Enters}
use Rattle.plan_eval_forms.proofs.Running.{continues_from, continues_settled}
use Rattle.plan_eval_forms.proofs.Waiting.{BackFlows, waits_for, gives_then}
use Rattle.plan_eval_forms.proofs.Wheres.{has_env}
use Rattle.plan_eval_forms.proofs.Branching.{one_top, on_one, safe_one}

-- an eval that is paid enters the function that the chunk names, and drops its value
eval_leads : (s : Spot) (b : Expr) (v : Value) (k : Chunk) (at : ℕ) (old new : VisitState) → layer s ≡ Expr-F.Eval b → as_chunk v ≡ Some k → (pay_eval old).after ≡ gave tt new
    → place_of k.entry k.code.funs ≡ Some at
    → Leads (makes s (v ∷ []) old) (and_then (entered_function meaning k.code at k.args new) (λ _. pure value.Unit >>= weighed_value))
unfolding visited_chunk
eval_leads s b v k at old new form is paid there = rw (form, is)
    (onward _ _ _ (along _ _ weighed_value (given_on k old (λ c. pay_eval >> (visited_chunk meaning c >> pure value.Unit))))
    (onward _ _ _ (regrouped (pay_eval old) (λ _. visited_chunk meaning k >> pure value.Unit) weighed_value)
    (onward _ _ _ (gave_on (pay_eval old) tt new (λ _. visited_chunk meaning k >> pure value.Unit >>= weighed_value) paid)
    (rw there (regrouped (entered_function meaning k.code at k.args new) (λ _. pure value.Unit) weighed_value)))))

-- an opened chunk, over plain variables
module _ (here : Here) (e : Expr) (depth : ℕ) (run : Run) (m : ServiceState) (form : (b : Expr) × (out-Expr e ≡ Expr-F.Eval b)) (v : Value) (pre : List Value) (stacked : run.stack ≡ v ∷ pre)
    (ready : Ready here pre run.codes) (safe : IsSafe (made_here here e 1 run m).asks) (o : Opened) (a : Activation) (number : a.number ≡ o.number) (fun : a.fun ≡ o.fun) (base : a.base ≡ o.base)
    (mid : Run) (opens : Opens v pre run o mid) (falls : mid.state.work ≤ run.state.work) (grown : Grows run.codes mid.codes) where
  args_are : args_from a.base mid.stack ≡ opens.chunk.args
  args_are =
      let b : a.base ≡ length pre = base ∙ opens.opened.base in
      let many : length (reverse opens.chunk.args) ≡ length mid.stack - a.base =
      omega (arith, b, ap length opens.opened.stacked, length-append (reverse opens.chunk.args) pre) in
      ap (λ l. reverse (take (length mid.stack - a.base) l)) opens.opened.stacked
      ∙ ap reverse (take_at (reverse opens.chunk.args) pre (length mid.stack - a.base) many) ∙ reverse-reverse opens.chunk.args

  pub eval_program : slice_get mid.codes a.number ≡ Some o.code
  eval_program = ap (slice_get mid.codes) number ∙ opens.opened.program ∙ ap Some (sym opens.opened.same)

  pub eval_size : o.size ≡ min (code_size o.code) 18446744073709551615
  eval_size = opens.opened.size ∙ ap (λ (p : Program). min (code_size p) 18446744073709551615) (sym opens.opened.same)

  pub eval_high : a.base ≤ length mid.stack
  eval_high = omega (arith, base, opens.opened.base, ap length opens.opened.stacked, length-append (reverse opens.chunk.args) pre)

  opened_leads : Leads (makes (spot here e pre) (v ∷ []) (now run m))
      (and_then (entered_function meaning o.code a.fun (args_from a.base mid.stack) (now mid m)) (λ _. pure value.Unit >>= weighed_value))
  opened_leads =
      rw (args_are, fun, opens.opened.same)
      (eval_leads (spot here e pre) form.0 v opens.chunk o.fun (now run m) (now mid m) form.1 opens.is (opens.paid m) opens.entry.place)

  made_safe : IsSafe (makes (spot here e pre) (v ∷ []) (now run m)).asks
  made_safe = safe_one here e run m v pre stacked safe

  pub eval_safe : IsSafe (entered_function meaning o.code a.fun (args_from a.base mid.stack) (now mid m)).asks
  eval_safe = (opened_leads.safe made_safe).0

  eval_keeps : Keeps run m mid m
  eval_keeps = record { falls = falls; grown = grown; offer = refl; begun = refl }

  eval_height : a.base ≡ length pre
  eval_height = base ∙ opens.opened.base

  module _ (p : Progress) (end : Run) (via : ServiceState) (h : Enters o.code a depth mid m p end via) where
    entry_leads : Leads (makes (spot here e pre) (v ∷ []) (now run m)) (resume (spot here e pre) (cont.Chunk a) (reverse opens.chunk.args) (means h.next (now mid m)))
    entry_leads =
        onward _ _ _ opened_leads
        (along _ _ (λ _. pure value.Unit >>= weighed_value) (enters o.code a (args_from a.base mid.stack) h.next (now mid m) h.body))

    entry_body : body_in (Some o.code) a opens.chunk.args ≡ Some h.next
    entry_body = ap (body_in (Some o.code) a) (sym args_are) ∙ h.body

    entry_program : slice_get end.codes a.number ≡ Some o.code
    entry_program =
        let g = h.comes.grown in
        subst (λ l. slice_get l a.number ≡ Some o.code) (sym g.grown) (kept_in mid.codes g.more a.number o.code eval_program)

    entry_comes : Comes depth h.next (reverse opens.chunk.args ++ pre) (means h.next (now mid m)) mid m p end via
    entry_comes = subst (λ l. Comes depth h.next l (means h.next (now mid m)) mid m p end via) opens.opened.stacked h.comes

    pub eval_waits : (q : Progress) (new : Run) → BackFlows (cont.Chunk a) p end q new → ((d o : ℕ) → Spends d o p end → Lasts d o q new) → new.codes ≡ end.codes
        → MakesOn here e 1 depth run m q new via
    eval_waits q new back lasts codes =
        let s = spot here e pre in
        on_one here e depth run m q new via v pre stacked
        (continues_from depth s pre (makes s (v ∷ []) (now run m)) run m q new via mid m eval_keeps
        (waits_for depth s h.next (cont.Chunk a) (reverse opens.chunk.args) pre (makes s (v ∷ []) (now run m)) (means h.next (now mid m)) mid m p end via q new made_safe entry_leads
        (to_chunk end.codes s a o.code opens.chunk.args h.next entry_program entry_body) (has_env here e pre run.codes ready) eval_height entry_comes back lasts codes))

  pub eval_gives : (end : Run) (via : ServiceState) (q : Progress) (new : Run) → Enters o.code a depth mid m came.Done end via
      → ((s : Spot) (held low : List Value) (n : ServiceState) → end.stack ≡ held ++ low → a.base ≡ length low → Flows s low (weighed_value value.Unit (now end n)) q new n)
      → q ≢ came.Wait → new.state.work ≤ end.state.work → new.codes ≡ end.codes → MakesOn here e 1 depth run m q new via
  eval_gives end via q new h ends settled falls codes =
      let s = spot here e pre in
      let comes = entry_comes came.Done end via h in
      let g = comes.flows in
      on_one here e depth run m q new via v pre stacked
      (continues_from depth s pre (makes s (v ∷ []) (now run m)) run m q new via mid m eval_keeps
      (gives_then depth s h.next (reverse opens.chunk.args ++ pre) pre (makes s (v ∷ []) (now run m)) (means h.next (now mid m)) (weighed_value value.Unit (now end via)) mid m end via q new made_safe
      comes
      (onward _ _ _ (entry_leads came.Done end via h)
      (onward _ _ _ (gave_on (means h.next (now mid m)) g.v (now end via) (λ _. pure value.Unit >>= weighed_value) g.is) (given_on value.Unit (now end via) weighed_value)))
      (ends s (g.v ∷ reverse opens.chunk.args) pre via g.stacked eval_height) settled falls codes))

-- it was refused
pub eval_refused : (here : Here) (e : Expr) (depth : ℕ) (run : Run) (m : ServiceState) (p : Progress) (new : Run) → (b : Expr) × (out-Expr e ≡ Expr-F.Eval b) → 1 ≤ length run.stack → Refuses run p new
    → new.state.work ≤ run.state.work → Grows run.codes new.codes → MakesOn here e 1 depth run m p new m
eval_refused here e depth run m p new form high r falls grown =
    let t = one_top run.stack high in
    let s = spot here e (drop 1 run.stack) in
    on_one here e depth run m p new m t.0 (drop 1 run.stack) t.1
    (continues_settled depth s (drop 1 run.stack) (makes s (t.0 ∷ []) (now run m)) run m p new m (r.made s form.0 form.1 (t.0 ∷ []) (drop 1 run.stack) m t.1 (ap (λ l. length (operands l)) (sym form.1)))
    r.settled (record { falls = falls; grown = grown; offer = refl; begun = refl }))
