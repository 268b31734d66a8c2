-- Lines of files that go over where one line more stands in front.
use Rattle.std.proofs.Common.{◌≡◌, ℕ, Bool, true, false, cond, List, Option, Some, None, Result, Ok, Err, refl, ap}
use Rattle.std.specs.Str.{bytes_eq}
use Rattle.plan_base.specs.declared.stamp.Version.{Version}
use Rattle.line_reader.specs.declared.fault.LineReason.{LineReason}
use Rattle.line_reader.specs.declared.fault.LineFault.{LineFault}
use Rattle.line_reader.specs.Counting.{moved_line, moved_by}
use Rattle.line_reader.specs.Files.{is_skipped, at_line}
use Rattle.line_reader.specs.Headers.{version_in, next_by_version, version_line}
use Rattle.line_reader.specs.Lines.{words}
use Rattle.line_reader.proofs.CountLaws.{changed_read}
use Rattle.node_files.specs.Parts.{header_line, usual_line}

-- what nothing changes
pub identity_changes_nothing : {A : Type 0} (r : Result A LineReason) → r ≡ changed_read (λ x. x) r
identity_changes_nothing (Ok x) = refl
identity_changes_nothing (Err e) = refl

pub at_moved : {A : Type 0} (first n : ℕ) (change : A → A) (r q : Result A LineReason) → q ≡ changed_read change r → at_line (moved_line first n) q ≡ moved_by first change (at_line n r)
at_moved first n change (Ok x) q e = ap (λ z. at_line (moved_line first n) z) e
at_moved first n change (Err d) q e = ap (λ z. at_line (moved_line first n) z) e

pub either_moved : {A : Type 0} (first : ℕ) (change : A → A) (t : Bool) (a b c d : Result A LineFault) → c ≡ moved_by first change a → d ≡ moved_by first change b → cond t c d ≡ moved_by first change (cond t a b)
either_moved first change true a b c d h k = h
either_moved first change false a b c d h k = k

-- the header
pub header_moved : {A : Type 0} (header : List ℕ) (first number : ℕ) (line : List ℕ) (change : A → A) (s t : A) → t ≡ change s → header_line header (moved_line first number) line t ≡ moved_by first change (header_line header number line s)
header_moved header first number line change s t e = either_moved first change (bytes_eq line header) (Ok s) _ (Ok t) _ (ap (λ x. Ok x) e) refl

versioned_moved : {A : Type 0} (first number : ℕ) (change : A → A) (v : Option Version) (next other : Version → A) → ((v : Version) → other v ≡ change (next v))
    → next_by_version (moved_line first number) other v ≡ moved_by first change (next_by_version number next v)
versioned_moved first number change (Some v) next other e = ap (λ x. Ok x) (e v)
versioned_moved first number change None next other e = refl

pub version_moved : {A : Type 0} (front : List ℕ) (first number : ℕ) (line : List ℕ) (change : A → A) (next other : Version → A) → ((v : Version) → other v ≡ change (next v))
    → version_line front (moved_line first number) line other ≡ moved_by first change (version_line front number line next)
version_moved front first number line change next other e = versioned_moved first number change (version_in front line) next other e

-- a line that is read by its words
pub usual_moved : {A : Type 0} (first number : ℕ) (line : List ℕ) (change : A → A) (s t : A) (read other : List (List ℕ) → Result A LineReason) → t ≡ change s → ((ws : List (List ℕ)) → other ws ≡ changed_read change (read ws))
    → usual_line (moved_line first number) line t other ≡ moved_by first change (usual_line number line s read)
usual_moved first number line change s t read other e k =
    either_moved first change (is_skipped line) (Ok s) _ (Ok t) _ (ap (λ x. Ok x) e) (at_moved first number change (read (words line)) (other (words line)) (k (words line)))

-- one that says nothing
pub usual_skips : {A : Type 0} (number : ℕ) (line : List ℕ) (s : A) (read : List (List ℕ) → Result A LineReason) → is_skipped line ≡ true → usual_line number line s read ≡ Ok s
usual_skips number line s read e = rw e refl
