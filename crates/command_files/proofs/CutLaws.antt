-- A message that a file names keeps its rules, and each file has one answer.
use Rattle.std.proofs.Common.{◌≡◌, ◌⊎◌, ℕ, ℤ, ◌≤◌, false, List, Result, Err, sym, ◌∙◌, arith}
use Rattle.std.specs.Prelude.{IfOk, pos}
use Rattle.std.proofs.lemmas.Bool.Decides.{nat_tests}
use lib.Chars.{codes}
use Rattle.plan_meaning.specs.Meaning.{is_paid}
use Rattle.frag_chunks.specs.Parts.{IsMessage}
use Rattle.line_reader.specs.declared.fault.LineReason.TheVariants.{BadHeader, BadWord}
use Rattle.line_reader.specs.declared.fault.LineFault.{LineFault}
use Rattle.line_reader.specs.Lines.{lines}
use Rattle.line_reader.specs.Reads.{end_at, FileGives}
use Rattle.line_reader.specs.Numbers.{number_at}
use Rattle.line_reader.specs.HexWords.{hex_at}
use Rattle.line_reader.proofs.FileLaws.{is_keeping}
use Rattle.line_reader.proofs.Keeping.{IfRead, then_keeps, done_keeps, none_keeps, number_is, hex_is, IfStep, step_done, read_keeps}
use Rattle.line_reader.specs.Inside.{OnFault}
use Rattle.line_reader.proofs.Placing.{fault_done, fault_here, Places, refuses_read}
use Rattle.node_files.specs.Parts.{behind_word}
use Rattle.node_files.specs.Answers.{Accepted, Refused}
use Rattle.node_files.proofs.PartLaws.{header_keeps, usual_keeps, header_placed, usual_placed, value_or_refusal}
use Rattle.command_files.specs.declared.cut.CutFile.{CutFile}
use Rattle.command_files.specs.declared.cut.CutWord.{CutWord}
use Rattle.command_files.specs.declared.cut.CutWord.TheVariants as word
use Rattle.command_files.specs.declared.cut.CutStage.{CutStage}
use Rattle.command_files.specs.declared.cut.CutStage.TheVariants as stages
use Rattle.command_files.specs.declared.cut.CutReading.{CutReading}
use Rattle.command_files.specs.Cuts.{KeepsCut, first_word, dest_line, port_line, key_line, bound_line, data_line, value_line, wanted_line, cut_step_at, cut_end, cut_format, nothing_read, cut_of}

-- ---- the rules

-- the bytes are a message's once their line was read
abbrev HasBytes : CutStage → List ℕ → Type 0
HasBytes stages.Behind bytes = IsMessage bytes
HasBytes _ bytes = Unit {0}

record Keeps (s : CutReading) : Type 0 where
  port : s.port ≤ 65535
  key : s.key ≤ 9223372036854775807
  bound : (1 ≤ s.bound) × (s.bound ≤ 65535)
  bytes : HasBytes s.stage s.bytes

dest_keeps : (ws : List (List ℕ)) (s : CutReading) → Keeps s → IfRead Keeps (dest_line ws s)
unfolding dest_line
dest_keeps ws s k =
    then_keeps Keeps (number_at 0 4294967295 ws) _ (λ h hh.
    then_keeps Keeps (end_at h.1) _ (λ u hu.
    done_keeps Keeps _ (record { port = k.port; key = k.key; bound = k.bound; bytes = tt })))

port_keeps : (ws : List (List ℕ)) (s : CutReading) → Keeps s → IfRead Keeps (port_line ws s)
unfolding port_line
port_keeps ws s k =
    then_keeps Keeps (number_at 0 65535 ws) _ (λ p hp.
    then_keeps Keeps (end_at p.1) _ (λ u hu.
    done_keeps Keeps _ (record { port = (number_is 0 65535 ws p hp).1; key = k.key; bound = k.bound; bytes = tt })))

key_keeps : (ws : List (List ℕ)) (s : CutReading) → Keeps s → IfRead Keeps (key_line ws s)
unfolding key_line
key_keeps ws s k =
    then_keeps Keeps (number_at 0 9223372036854775807 ws) _ (λ n hn.
    then_keeps Keeps (end_at n.1) _ (λ u hu.
    done_keeps Keeps _ (record { port = k.port; key = (number_is 0 9223372036854775807 ws n hn).1; bound = k.bound; bytes = tt })))

bound_keeps : (ws : List (List ℕ)) (s : CutReading) → Keeps s → IfRead Keeps (bound_line ws s)
unfolding bound_line
bound_keeps ws s k =
    then_keeps Keeps (number_at 1 65535 ws) _ (λ n hn.
    then_keeps Keeps (end_at n.1) _ (λ u hu.
    done_keeps Keeps _ (record { port = k.port; key = k.key; bound = number_is 1 65535 ws n hn; bytes = tt })))

data_keeps : (ws : List (List ℕ)) (s : CutReading) → Keeps s → IfRead Keeps (data_line ws s)
unfolding data_line
data_keeps ws s k =
    then_keeps Keeps (hex_at 1 262144 ws) _ (λ bytes hb.
    then_keeps Keeps (end_at bytes.1) _ (λ u hu.
    let sized = hex_is 1 262144 ws bytes hb in
    done_keeps Keeps _ (record { port = k.port; key = k.key; bound = k.bound; bytes = record { some = sized.from; few = sized.to } })))

value_keeps : (w : CutWord) (ws : List (List ℕ)) (s : CutReading) → Keeps s → IfRead Keeps (value_line w ws s)
value_keeps word.Dest ws s k = dest_keeps ws s k
value_keeps word.Port ws s k = port_keeps ws s k
value_keeps word.Key ws s k = key_keeps ws s k
value_keeps word.Bound ws s k = bound_keeps ws s k
value_keeps word.Data ws s k = data_keeps ws s k

wanted_keeps : (w : CutWord) (ws : List (List ℕ)) (s : CutReading) → Keeps s → IfRead Keeps (wanted_line w ws s)
unfolding wanted_line
wanted_keeps w ws s k = then_keeps Keeps (behind_word (first_word w) ws) _ (λ more hm. value_keeps w more s k)

begun_keeps : (s : CutReading) → Keeps s → Keeps (record s { stage = stages.Wants word.Dest })
begun_keeps s k = record { port = k.port; key = k.key; bound = k.bound; bytes = tt }

step_keeps : (stage : CutStage) (number : ℕ) (line : List ℕ) (s : CutReading) → Keeps s → IfStep Keeps (cut_step_at stage number line s)
unfolding cut_step_at
step_keeps stages.Header number line s k = header_keeps Keeps (codes "planet cut 1") number line (record s { stage = stages.Wants word.Dest }) (begun_keeps s k)
step_keeps (stages.Wants w) number line s k = usual_keeps Keeps number line s (λ ws. wanted_line w ws s) k (λ ws. wanted_keeps w ws s k)
step_keeps stages.Behind number line s k = usual_keeps Keeps number line s (λ ws. Err BadWord) k (λ ws. none_keeps Keeps BadWord)

end_keeps : (stage : CutStage) (number : ℕ) (s : CutReading) → Keeps s → HasBytes stage s.bytes → IfStep KeepsCut (cut_end stage number s)
end_keeps stages.Header number s k b y e = absurd cc
end_keeps (stages.Wants w) number s k b y e = absurd cc
end_keeps stages.Behind number s k b y e =
    step_done KeepsCut (record { dest = s.dest; port = s.port; key = s.key; bound = s.bound; bytes = s.bytes }) (record { port = k.port; key = k.key; bound = k.bound; bytes = b }) y e

nothing_keeps : Keeps nothing_read
nothing_keeps = record { port = omega arith; key = omega arith; bound = (omega arith, omega arith); bytes = tt }

cut_keeps : (bytes : List ℕ) → IfStep KeepsCut (cut_of bytes)
cut_keeps bytes =
    read_keeps cut_format Keeps KeepsCut
    (λ number line s k. step_keeps s.stage number line s k)
    (λ number s k. end_keeps s.stage number s k k.bytes)
    (lines bytes) 1 nothing_read nothing_keeps

pub cut_rules : (bytes : List ℕ) (r : Result CutFile LineFault) → FileGives (λ s. s) r (cut_of bytes) → IfOk r KeepsCut
cut_rules bytes r h = is_keeping KeepsCut r (cut_of bytes) h (cut_keeps bytes)

-- ---- where refusals stand

abbrev Anywhere : ℕ → CutReading → Type 0
Anywhere number s = Unit {0}

step_placed : (stage : CutStage) (number : ℕ) (line : List ℕ) (s : CutReading) → 1 ≤ number → OnFault number (cut_step_at stage number line s)
unfolding cut_step_at
step_placed stages.Header number line s low = header_placed (codes "planet cut 1") number line (record s { stage = stages.Wants word.Dest }) low
step_placed (stages.Wants w) number line s low = usual_placed number line s (λ ws. wanted_line w ws s) low
step_placed stages.Behind number line s low = usual_placed number line s (λ ws. Err BadWord) low

end_placed : (stage : CutStage) (number : ℕ) (s : CutReading) → 1 ≤ number → OnFault number (cut_end stage number s)
end_placed stages.Header number s low = fault_here {B = CutFile} number number BadHeader low (omega arith)
end_placed (stages.Wants w) number s low = fault_here {B = CutFile} number number BadWord low (omega arith)
end_placed stages.Behind number s low = fault_done number (record { dest = s.dest; port = s.port; key = s.key; bound = s.bound; bytes = s.bytes })

cut_places : Places cut_format Anywhere
cut_places = record {
  later = λ number s b. tt;
  kept = λ number line s low b t e. tt;
  step = λ number line s low b. step_placed s.stage number line s low;
  finish = λ number s low b. end_placed s.stage number s low;
}

pub cut_answered : (bytes : List ℕ) → Accepted cut_of bytes ⊎ Refused cut_of bytes
cut_answered bytes = value_or_refusal cut_format nothing_read (refuses_read cut_format nothing_read Anywhere cut_places tt) bytes

-- ---- the purse

-- a purse that holds a bound pays it
pub pays_all : (n p : ℕ) (z : ℤ) → z ≡ pos n → p ≡ n → 1 ≤ n → is_paid z p ≡ false → ⊥
pays_all n p z a b l e = let f : is_paid (pos n) n ≡ false = (λ i. is_paid (sym a i) (sym b i)) ∙ e in grind (arith, nat_tests)
