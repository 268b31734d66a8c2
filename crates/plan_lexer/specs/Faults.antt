-- How readings are chained, and how a call answers one.
use Rattle.std.specs.Prelude.{◌≡◌, Result, Ok, Err}
use Rattle.plan_lexer.specs.declared.fault.LexFault.{LexFault}
use Rattle.plan_lexer.specs.declared.fault.LexFault.TheVariants.{BadChar, OpenString, OpenComment, NumberTooLarge, LongName, NoMemory}

-- what is read, or where it is refused
abbrev pub Reading : Type 0 → Type 0
Reading A = Result A LexFault

infixl 10 ◌>>=◌
-- one reading and then the next, unless the first is refused
abbrev pub ◌>>=◌ : {A B : Type 0} → Result A LexFault → (A → Result B LexFault) → Result B LexFault
Ok x >>= next = next x
Err e >>= next = Err e

-- a call's refusal is the reading's, or it is for memory
abbrev pub Fails : {A : Type 0} → LexFault → Result A LexFault → Type 0
Fails NoMemory read = Unit {0}
Fails (BadChar at) read = read ≡ Err (BadChar at)
Fails (OpenString at) read = read ≡ Err (OpenString at)
Fails (OpenComment at) read = read ≡ Err (OpenComment at)
Fails (NumberTooLarge at) read = read ≡ Err (NumberTooLarge at)
Fails (LongName at) read = read ≡ Err (LongName at)

-- a call answered what a reading gives, or an allocation failed
abbrev pub Gives : {X A : Type 0} → (X → A) → Result X LexFault → Result A LexFault → Type 0
Gives view (Ok x) read = read ≡ Ok (view x)
Gives view (Err e) read = Fails e read
