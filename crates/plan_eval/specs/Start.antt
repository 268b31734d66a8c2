-- Where a visit starts.
use Rattle.std.specs.Prelude.{◌≡◌, [], ◌∷◌, length, min, reverse, slice_get, Some}
use Rattle.plan_base.specs.declared.ids.Family.{Family}
use Rattle.plan_base.specs.declared.tree.Chunk.{Chunk}
use Rattle.plan_base.specs.Sizes.{code_size}
use Rattle.plan_types_spec.specs.TypingNames.{place_of}
use Rattle.service_api.specs.declared.ctx.Ctx.{Ctx}
use Rattle.plan_meaning.specs.State.{Own}
use Rattle.plan_eval_state.specs.declared.run.Run.{Run}
use Rattle.plan_eval_made.specs.declared.here.Here.{Here}

-- the state in which a visit begins
abbrev pub begun_own : Ctx → Family → Own
begun_own ctx family = record { ctx = ctx; family = family; work = 4000000; evals = 0; outbox = []; notes = [] }

-- the program of a chunk is open, its arguments stand on the stack, and nothing waits
pub record IsStart (k : Chunk) (state : Own) (run : Run) : Type 0 where
  pub state_is : run.state ≡ state
  pub codes : run.codes ≡ k.code ∷ []
  pub stack : run.stack ≡ reverse k.args
  pub none : run.paused ≡ []

-- the body of its entry, which takes so many, is to begin there
pub record IsEntry (k : Chunk) (here : Here) : Type 0 where
  pub code : here.code.now ≡ k.code
  pub number : here.number ≡ 0
  pub size : here.size ≡ min (code_size k.code) 18446744073709551615
  pub place : place_of k.entry k.code.funs ≡ Some here.fun
  pub function : slice_get k.code.funs here.fun ≡ Some here.function.now
  pub many : length here.function.now.params ≡ length k.args
  pub base : here.base ≡ 0
  pub bindings : here.bindings.now ≡ []
