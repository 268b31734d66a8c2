-- The texts of a step.
use Rattle.std.proofs.Common.{◌≡◌, ℕ, [], ◌∷◌, Result, Ok, Err, IfOk, sym, ◌∙◌, ap, subst}
use Rattle.std.proofs.lemmas.Bool.{false≢true}
use Rattle.network_config.specs.declared.node.NodeConfig.{NodeConfig}
use Rattle.network_config.specs.declared.event.Event.{Event}
use Rattle.network_config.specs.declared.event.LogEvent.TheVariants as entry
use Rattle.service_api.specs.Services.{ServiceState}
use Rattle.node_files.specs.LogTexts.{entry_text}
use Rattle.node_core_spec.specs.declared.acts.Act.TheVariants.{NoMemory}
use Rattle.node_core_spec.specs.declared.acts.Acts.{Acts}
use Rattle.node_core_spec.specs.State.{NodeState}
use Rattle.node_core_spec.specs.Node.{node_step}
use Rattle.node_core.specs.declared.node.Node.{Node}
use Rattle.node_core.specs.Stands.{NodeStands, IsStep}
use Rattle.node_log.specs.Runs.{acts_of, node_by, entries_at}
use Rattle.node_log.specs.Texts.{lines_text}
use Rattle.node_log.specs.Follow.{entry_of}
use Rattle.node_serve.specs.declared.steps.StepOutcome.TheVariants.{Lost, Took}
use Rattle.node_serve.specs.declared.steps.StepTexts.{StepTexts}
use Rattle.node_serve.specs.Shown.{IsReadable}
use Rattle.node_serve.specs.Steps.{was_lost, frame_of, TookTexts, Written}

pub written_lost : {S : Type 0} (stands : S → ServiceState) (k : NodeConfig) (n : ℕ) (s : NodeState) (e : Event) (texts : StepTexts) (new : Node S) → NodeStands stands new s
    → texts.line ≡ entry_text entry.Lost → texts.lines ≡ lines_text k.here (entries_at n (NoMemory ∷ [])) → texts.made ≡ Lost → Written stands k n s e texts new
written_lost stands k n s e texts new h line lines made = record {
  line = line ∙ ap (λ m. entry_text (entry_of (was_lost m) e)) (sym made);
  lines = lines ∙ ap (λ m. lines_text k.here (entries_at n (acts_of s (entry_of (was_lost m) e)))) (sym made);
  node = subst (λ m. NodeStands stands new (node_by s (entry_of (was_lost m) e))) (sym made) h;
  frame = λ f. absurd (false≢true (sym f ∙ ap was_lost made));
  readable = subst (λ m. IsReadable k.version (entry_of (was_lost m) e)) (sym made) (record { keeps = tt; spells = tt });
}

pub written_took : {S : Type 0} (stands : S → ServiceState) (k : NodeConfig) (n : ℕ) (s : NodeState) (x e : Event) (acts : Acts) (texts : StepTexts) (new : Node S) → x ≡ e → IsStep stands (node_step s x) acts new
    → texts.line ≡ entry_text (entry.Step x) → texts.lines ≡ lines_text k.here (entries_at n acts.list) → texts.made ≡ Took acts.frame → IsReadable k.version (entry.Step x) → Written stands k n s e texts new
written_took stands k n s x e acts texts new same h line lines made readable = record {
  line = line ∙ ap (λ y. entry_text (entry.Step y)) same ∙ ap (λ m. entry_text (entry_of (was_lost m) e)) (sym made);
  lines = lines ∙ ap (λ l. lines_text k.here (entries_at n l)) (h.list ∙ ap (λ y. (node_step s y).acts) same) ∙ ap (λ m. lines_text k.here (entries_at n (acts_of s (entry_of (was_lost m) e)))) (sym made);
  node = subst (λ m. NodeStands stands new (node_by s (entry_of (was_lost m) e))) (sym made) (subst (λ y. NodeStands stands new (node_step s y).node) same h.node);
  frame = λ f. ap frame_of made ∙ h.frame ∙ ap (λ y. (node_step s y).frame) same;
  readable = subst (λ m. IsReadable k.version (entry_of (was_lost m) e)) (sym made) (subst (λ y. IsReadable k.version (entry.Step y)) same readable);
}

-- ---- results

pub lost_result : {S E : Type 0} (stands : S → ServiceState) (k : NodeConfig) (n : ℕ) (s : NodeState) (e : Event) (new : Node S) (result : Result StepTexts E) → NodeStands stands new s
    → IfOk result (λ t. t.line ≡ entry_text entry.Lost) → IfOk result (λ t. t.lines ≡ lines_text k.here (entries_at n (NoMemory ∷ []))) → IfOk result (λ t. t.made ≡ Lost) → IfOk result (λ t. Written stands k n s e t new)
lost_result stands k n s e new (Ok t) h line lines made = written_lost stands k n s e t new h line lines made
lost_result stands k n s e new (Err x) h line lines made = tt

pub took_result : {S E : Type 0} (stands : S → ServiceState) (k : NodeConfig) (n : ℕ) (s : NodeState) (x e : Event) (acts : Acts) (new : Node S) (result : Result StepTexts E) → x ≡ e → IsStep stands (node_step s x) acts new
    → IfOk result (λ t. TookTexts k n x acts t) → IfOk result (λ t. Written stands k n s e t new)
took_result stands k n s x e acts new (Ok t) same h took = written_took stands k n s x e acts t new same h took.line took.lines took.made took.readable
took_result stands k n s x e acts new (Err y) same h took = tt
