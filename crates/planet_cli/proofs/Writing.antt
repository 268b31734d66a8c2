-- A command of one file that is done wrote the text that its file says.
use Rattle.std.proofs.Common.{◌≡◌, ℕ, IsTrue, Bool, true, false, cond, nat_lt, List, length, Option, Some, subst}
use Rattle.node_io.specs.FileMaps.{file_at}
use Rattle.node_io.specs.Outsides.{Outside}
use Rattle.node_io.specs.Sinks.{SinkState, Writes}
use Rattle.planet_commands.specs.declared.status.Cause.{Cause}
use Rattle.planet_commands.specs.declared.status.Cause.TheVariants.{Done}
use Rattle.planet_commands.specs.declared.status.Refusal.TheVariants.{TooLong}
use Rattle.planet_commands.specs.Said.{Said, outside, says, said_at}
use Rattle.planet_cli.specs.declared.kinds.Kind.{Kind}
use Rattle.planet_cli.specs.Kinds.{limit_of, text_said}
use Rattle.planet_cli.specs.Requests.{on_file}
use Rattle.planet_cli.specs.Calls.{Calls}
use Rattle.planet_cli.specs.Outcomes.{whole, outcome_by, IsAccepted, WritesOut}
use Rattle.planet_cli.proofs.Giving.{is_accepted, is_written}

-- what a file says that isn't too long
short_text_written : (long : Bool) (said : Said (List ℕ)) (text : List ℕ) (a b : SinkState) → said ≡ says text → IsAccepted (outcome_by whole (cond long (outside TooLong) said))
    → WritesOut (outcome_by whole (cond long (outside TooLong) said)) a b → Writes a b text
short_text_written true said text a b e h w = elim h [ ]
short_text_written false said text a b e h w = subst (λ s. WritesOut (outcome_by whole s) a b) e w

at_file : (limit : ℕ) (read : List ℕ → Said (List ℕ)) (file : Option (List ℕ)) (bytes text : List ℕ) (a b : SinkState) → file ≡ Some bytes → read bytes ≡ says text
    → IsAccepted (outcome_by whole (said_at limit read file)) → WritesOut (outcome_by whole (said_at limit read file)) a b → Writes a b text
at_file limit read file bytes text a b there e h w =
    short_text_written (nat_lt limit (length bytes)) (read bytes) text a b e
    (subst (λ f. IsAccepted (outcome_by whole (said_at limit read f))) there h)
    (subst (λ f. WritesOut (outcome_by whole (said_at limit read f)) a b) there w)

pub text_written : (kind : Kind) (file bytes text : List ℕ) (cause : Cause) (old new : Outside) (n m : SinkState) → Calls (Some (on_file kind file)) cause old new n m → IsTrue old.files.observable
    → file_at old.files.held file ≡ Some bytes → text_said kind bytes ≡ says text → cause ≡ Done → Writes old.out new.out text
text_written kind file bytes text cause old new n m call seen there e done =
    at_file (limit_of kind) (text_said kind) (file_at old.files.held file) bytes text old.out new.out there e
    (is_accepted (Some (on_file kind file)) cause old new n m call seen done) (is_written (Some (on_file kind file)) cause old new n m call seen done)
