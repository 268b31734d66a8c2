-- What became of the file of a command: a value was taken and acted on, or none was and nothing was done.
use Rattle.std.proofs.Common.{◌≡◌, ℕ, IsTrue, List, Result, Ok, Err, MatchResult, sym, subst}
use Rattle.node_io.specs.FileMaps.{FileMap}
use Rattle.node_io.specs.FileStates.{FilesState}
use Rattle.node_io.specs.Sinks.{SinkState}
use Rattle.planet_commands.specs.declared.status.Cause.{Cause}
use Rattle.planet_commands.specs.Said.{Said, says, said_in, all_of}
use Rattle.planet_commands.specs.Takes.{Untaken, TakeResult, Takes, TakesAndActs}
use Rattle.planet_commands.specs.Renders.{Prints, RendersBy}
use Rattle.planet_commands.proofs.Rendering.{text_is_rendered}
use Rattle.planet_commands_fleet.specs.Audits.{audit_said, AuditsFile}
use Rattle.planet_cli.specs.declared.kinds.Kind.{Kind}
use Rattle.planet_cli.specs.Kinds.{limit_of, text_said, file_said}

-- a file says one value
pub says_one : {A : Type 0} (a b : A) → says a ≡ says b → a ≡ b
says_one a b e = cc

pub data Took {A S : Type 0} (said : FileMap → Said A) (Acts : A → Cause → S → S → Type 0) (files read : FilesState) (cause : Cause) (old new : S) : Type 0 where
  took : (v : A) → (IsTrue files.observable → said files.held ≡ says v) → Acts v cause old new → Took said Acts files read cause old new
  left : Untaken said files read cause → new ≡ old → Took said Acts files read cause old new

module _ {A S : Type 0} (said : FileMap → Said A) (Acts : A → Cause → S → S → Type 0) (name : List ℕ) (files read : FilesState) (cause : Cause) (old new : S) where
  by_taken : (taken : Result A Cause) → Takes said name files read taken → MatchResult taken (λ v. Acts v cause old new) (λ why. (cause ≡ why) × (new ≡ old))
      → Took said Acts files read cause old new
  by_taken (Ok v) t p = took v t.did p
  by_taken (Err why) t p = left (subst (Untaken said files read) (sym p.0) t.did) p.1

  pub view : TakesAndActs said Acts name files read cause old new → Took said Acts files read cause old new
  view t = by_taken t.taken t.takes t.acts

-- the same of a command that writes what the bytes of its file say
pub text_view : (kind : Kind) (file : List ℕ) (files read : FilesState) (cause : Cause) (old new : SinkState)
    → TakesAndActs (said_in (limit_of kind) all_of file) (RendersBy (text_said kind)) file files read cause old new → Took (file_said kind file) Prints files read cause old new
text_view kind file files read cause old new t =
    view (file_said kind file) Prints file files read cause old new (text_is_rendered (limit_of kind) (text_said kind) file files read cause old new t)

-- the same of an audit, which takes the logs that its file names too
pub audit_view : (name : List ℕ) (files read : FilesState) (cause : Cause) (old new : SinkState) → AuditsFile name files read cause old new → Took (audit_said name) Prints files read cause old new
audit_view name files read cause old new t = by t.taken t.did t.acts
  where
    by : (taken : Result (List ℕ) Cause) → TakeResult (audit_said name) files read taken → MatchResult taken (λ text. Prints text cause old new) (λ why. (cause ≡ why) × (new ≡ old))
        → Took (audit_said name) Prints files read cause old new
    by (Ok text) t p = took text t p
    by (Err why) t p = left (subst (Untaken (audit_said name) files read) (sym p.0) t) p.1
