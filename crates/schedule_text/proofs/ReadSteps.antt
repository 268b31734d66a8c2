-- Steps of a reading that go on.
use Rattle.std.proofs.Common.{◌≡◌, ℕ, ◌+◌, ◌^◌, ◌<◌, ◌≤◌, Bool, true, false, not, ltb, leb, List, [], ◌∷◌, ◌++◌, Result, Ok, Err, refl, sym, ap, subst, ◌∙◌, arith}
use Rattle.std.specs.Fmt.{decimal}
use Rattle.std.specs.Option.{ok_or}
use Rattle.std.proofs.lemmas.Bool.{lt-ltb, le-leb}
use Rattle.plan_base.specs.declared.ids.Host.{Host}
use Rattle.plan_base.specs.declared.ids.Dev.{Dev}
use Rattle.network_config.specs.declared.schedule.HostSpec.{HostSpec}
use Rattle.network_config.specs.declared.schedule.Link.{Link}
use Rattle.network_config.specs.Hosts.{has_host, has_link}
use Rattle.line_reader.specs.declared.fault.LineReason.{LineReason}
use Rattle.line_reader.specs.declared.fault.LineReason.TheVariants.{BadNumber, UnknownHost, TwiceNamed}
use Rattle.line_reader.specs.declared.fault.LineFault.{LineFault}
use Rattle.line_reader.specs.Reads.{◌>>=◌, and_then, allowed_or_reason}
use Rattle.line_reader.specs.Numbers.{number_at}
use Rattle.line_reader.proofs.Again.{number_again}
use Rattle.schedule_text.specs.declared.reading.ScheduleFile.{ScheduleFile}
use Rattle.schedule_text.specs.Parts.{host_at, device_at, free_device_at}
use Rattle.schedule_text.specs.Schedules.{schedule_format}
use Rattle.line_reader.specs.Inside.{after_lines}

-- ---- parts of a line

pub then_ok : {A B : Type 0} (r : Result A LineReason) (x : A) (f : A → Result B LineReason) (y : Result B LineReason) → r ≡ Ok x → f x ≡ y → (r >>= f) ≡ y
then_ok r x f y e k = ap (λ z. z >>= f) e ∙ k

pub allowed_ok : (b : Bool) (r : LineReason) → b ≡ true → allowed_or_reason b r ≡ Ok tt
allowed_ok b r e = ap (λ t. allowed_or_reason t r) e

pub not_ok : (b : Bool) (r : LineReason) → b ≡ false → allowed_or_reason (not b) r ≡ Ok tt
not_ok b r e = ap (λ t. allowed_or_reason (not t) r) e

pub below_ok : (a b : ℕ) (r : LineReason) → a < b → allowed_or_reason (ltb a b) r ≡ Ok tt
below_ok a b r h = allowed_ok (ltb a b) r (lt-ltb a b h)

pub within_ok : (a b : ℕ) (r : LineReason) → a ≤ b → allowed_or_reason (leb a b) r ≡ Ok tt
within_ok a b r h = allowed_ok (leb a b) r (le-leb a b h)

-- a number that is written
pub number_ok : (low high n : ℕ) (ws : List (List ℕ)) → n < 2 ^ 64 → low ≤ n → n ≤ high → number_at low high (decimal n ∷ ws) ≡ Ok (n, ws)
unfolding number_at
number_ok low high n ws small a b = ap (λ o. ok_or o BadNumber >>= λ k. Ok (k, ws)) (number_again low high n small a b)

-- a host that is known
pub host_ok : (hosts : List HostSpec) (h : Host) (ws : List (List ℕ)) → h.0 < 2 ^ 32 → has_host h hosts ≡ true → host_at hosts (decimal h.0 ∷ ws) ≡ Ok (h, ws)
unfolding host_at
host_ok hosts h ws small known =
    then_ok _ (h.0, ws) _ _ (number_ok 0 4294967295 h.0 ws (omega (arith, small)) (omega arith) (omega (arith, small)))
    (then_ok _ tt _ _ (allowed_ok (has_host h hosts) UnknownHost known) refl)

pub device_ok : (d : Dev) (ws : List (List ℕ)) → d.0 ≤ 8 → device_at (decimal d.0 ∷ ws) ≡ Ok (d, ws)
unfolding device_at
device_ok d ws few = then_ok _ (d.0, ws) _ _ (number_ok 0 8 d.0 ws (omega (arith, few)) (omega arith) few) refl

pub free_device_ok : (links : List Link) (h : Host) (d : Dev) (ws : List (List ℕ)) → 1 ≤ d.0 → d.0 ≤ 8 → has_link h d links ≡ false → free_device_at links h (decimal d.0 ∷ ws) ≡ Ok (d, ws)
unfolding free_device_at
free_device_ok links h d ws some few free =
    then_ok _ (d.0, ws) _ _ (number_ok 1 8 d.0 ws (omega (arith, few)) some few)
    (then_ok _ tt _ _ (not_ok (has_link h d links) TwiceNamed free) refl)

-- ---- lines of a file

-- lines lead from one state to another, whatever their numbers
abbrev pub Leads : List (List ℕ) → ScheduleFile → ScheduleFile → Type 0
Leads ls f g = (number : ℕ) → after_lines schedule_format number ls f ≡ Ok g

pub leads-nil : (f : ScheduleFile) → Leads [] f f
unfolding after_lines
leads-nil f number = refl

pub leads-cons : (line : List ℕ) (ls : List (List ℕ)) (f g h : ScheduleFile) → ((number : ℕ) → schedule_format.step number line f ≡ Ok g) → Leads ls g h → Leads (line ∷ ls) f h
unfolding after_lines
leads-cons line ls f g h e k number = ap (λ z. and_then z (λ x. after_lines schedule_format (number + 1) ls x)) (e number) ∙ k (number + 1)

pub leads-one : (line : List ℕ) (f g : ScheduleFile) → ((number : ℕ) → schedule_format.step number line f ≡ Ok g) → Leads (line ∷ []) f g
leads-one line f g e = leads-cons line [] f g g e (leads-nil g)

then_leads : (r : Result ScheduleFile LineFault) (next all : ScheduleFile → Result ScheduleFile LineFault) (g : ScheduleFile) (h : Result ScheduleFile LineFault)
    → ((x : ScheduleFile) → next x ≡ Ok g → all x ≡ h) → and_then r next ≡ Ok g → and_then r all ≡ h
then_leads (Ok x) next all g h k e = k x e
then_leads (Err d) next all g h k e = absurd cc

append_by : (xs ys : List (List ℕ)) (f g h : ScheduleFile) (number : ℕ) → after_lines schedule_format number xs f ≡ Ok g → Leads ys g h → after_lines schedule_format number (xs ++ ys) f ≡ Ok h
unfolding after_lines
append_by [] ys f g h number e k = let same : f ≡ g = cc in subst (λ x. after_lines schedule_format number ys x ≡ Ok h) (sym same) (k number)
append_by (line ∷ xs) ys f g h number e k =
    then_leads (schedule_format.step number line f) (λ x. after_lines schedule_format (number + 1) xs x) (λ x. after_lines schedule_format (number + 1) (xs ++ ys) x) g (Ok h) (λ x q. append_by xs ys x g h (number + 1) q k) e

pub leads-append : (xs ys : List (List ℕ)) (f g h : ScheduleFile) → Leads xs f g → Leads ys g h → Leads (xs ++ ys) f h
leads-append xs ys f g h a b number = append_by xs ys f g h number (a number) b
