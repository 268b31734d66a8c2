-- Reading a line word by word from the left: the value and the words still to come, or the reason of the first wrong word.
use Rattle.std.specs.Prelude.{◌≡◌, ℕ, Bool, true, false, List, [], ◌∷◌, Result, Ok, Err}
use Rattle.plan_base.specs.declared.memory.NoMemory.{NoMemory}
use Rattle.line_reader.specs.Lines.{spaced_words}
use Rattle.line_reader.specs.declared.fault.LineReason.{LineReason}
use Rattle.line_reader.specs.declared.fault.LineReason.TheVariants.{BadWord}
use Rattle.line_reader.specs.declared.fault.LineFault.{LineFault}
use Rattle.line_reader.specs.declared.fault.LineFault.TheVariants as faults
use Rattle.line_reader.specs.declared.fault.LineError.{LineError}
use Rattle.line_reader.specs.declared.fault.LineError.TheVariants as stops

infixl 10 ◌>>=◌
abbrev pub ◌>>=◌ : {A B : Type 0} → Result A LineReason → (A → Result B LineReason) → Result B LineReason
(Ok x) >>= f = f x
(Err e) >>= f = Err e

-- what a part of a line gives: its value, with the words behind it
abbrev pub Part : Type 0 → Type 0
Part A = Result (A × List (List ℕ)) LineReason

-- a reader without memory gave what is read
abbrev pub Reads : {X Y : Type 0} → (X → Y) → Result X LineReason → List (List ℕ) → Part Y → Type 0
Reads view (Ok x) rest read = read ≡ Ok (view x, rest)
Reads view (Err e) rest read = read ≡ Err e

-- a reader that takes memory stopped for the reason that is read, or by running out of memory
abbrev pub Fails : {Y : Type 0} → LineError → Result Y LineReason → Type 0
Fails stops.NoMemory read = Unit {0}
Fails (stops.Reason r) read = read ≡ Err r

-- a reader that changes a value left it as what is read
abbrev pub Leaves : {X Y : Type 0} → Result X LineError → Y → Result Y LineReason → Type 0
Leaves (Ok x) new read = read ≡ Ok new
Leaves (Err e) new read = Fails e read

-- the next word
abbrev pub word_at : List (List ℕ) → Part (List ℕ)
word_at [] = Err BadWord
word_at (w ∷ ws) = Ok (w, ws)

-- nothing where no word is left
abbrev pub end_at : List (List ℕ) → Result (Unit {0}) LineReason
end_at [] = Ok tt
end_at (w ∷ ws) = Err BadWord

-- whether a word is left
abbrev pub has_word : List (List ℕ) → Bool
has_word [] = false
has_word (w ∷ ws) = true

-- nothing where a rule is kept, else its reason
abbrev pub allowed_or_reason : Bool → LineReason → Result (Unit {0}) LineReason
allowed_or_reason true reason = Ok tt
allowed_or_reason false reason = Err reason

-- the rest of the line
abbrev pub rest_at : List (List ℕ) → Result (List ℕ) LineReason
rest_at [] = Err BadWord
rest_at (w ∷ ws) = Ok (spaced_words (w ∷ ws))

-- what a reader that takes memory gave is what is read
abbrev pub Gives : {X Y : Type 0} → (X → Y) → Result X LineError → Result Y LineReason → Type 0
Gives view (Ok x) read = read ≡ Ok (view x)
Gives view (Err e) read = Fails e read

-- one more step of a file, where the lines so far are inside the format
abbrev pub and_then : {A B : Type 0} → Result A LineFault → (A → Result B LineFault) → Result B LineFault
and_then (Ok x) f = f x
and_then (Err e) f = Err e

-- a step of a file gave what is read, or memory ran out
abbrev pub FileFails : {Y : Type 0} → LineFault → Result Y LineFault → Type 0
FileFails faults.NoMemory read = Unit {0}
FileFails (faults.Line n r) read = read ≡ Err (faults.Line n r)

abbrev pub FileGives : {X Y : Type 0} → (X → Y) → Result X LineFault → Result Y LineFault → Type 0
FileGives view (Ok x) read = read ≡ Ok (view x)
FileGives view (Err e) read = FileFails e read

-- a reader of a part of a line changed a value, with the words behind
abbrev pub LeavesBoth : {X Y : Type 0} → Result X LineError → Y → List (List ℕ) → Part Y → Type 0
LeavesBoth (Ok x) new rest read = read ≡ Ok (new, rest)
LeavesBoth (Err e) new rest read = Fails e read

-- a reader without memory gave what is read
abbrev pub Tells : {X Y : Type 0} → (X → Y) → Result X LineReason → Result Y LineReason → Type 0
Tells view (Ok x) read = read ≡ Ok (view x)
Tells view (Err e) read = read ≡ Err e

-- a stop at its line
abbrev pub fault_at : ℕ → LineError → LineFault
fault_at number (stops.Reason r) = faults.Line number r
fault_at number stops.NoMemory = faults.NoMemory

-- a reader of a part of a line gave what is read, with the words behind
abbrev pub GivesWith : {X Y : Type 0} → (X → Y) → Result X LineError → List (List ℕ) → Part Y → Type 0
GivesWith view (Ok x) rest read = read ≡ Ok (view x, rest)
GivesWith view (Err e) rest read = Fails e read

-- a reader without memory went on to the words behind what is read
abbrev pub ReadsOn : {X : Type 0} → Result X LineReason → List (List ℕ) → Result (List (List ℕ)) LineReason → Type 0
ReadsOn (Ok x) rest read = read ≡ Ok rest
ReadsOn (Err e) rest read = read ≡ Err e

-- what was found where memory sufficed
abbrev pub Finds : {X : Type 0} → Result X NoMemory → X → Type 0
Finds (Ok x) found = x ≡ found
Finds (Err e) found = Unit {0}

-- a line left a value as what is read, or memory ran out
abbrev pub FileLeaves : {X Y : Type 0} → Result X LineFault → Y → Result Y LineFault → Type 0
FileLeaves (Ok x) new read = read ≡ Ok new
FileLeaves (Err e) new read = FileFails e read
