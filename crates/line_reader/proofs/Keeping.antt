-- What is read of a line keeps its rules, and so does what a file says.
use Rattle.std.proofs.Common.{◌≡◌, ◌≢◌, ℕ, ◌+◌, ◌<◌, ◌≤◌, ◌^◌, Bool, true, false, cond, not, ltb, leb, ◌&&◌, ◌||◌, List, [], ◌∷◌, ◌++◌, length, Option, Some, None, Result, Ok, Err, refl, sym, ap, subst, ◌∙◌, arith, length-append}
use Rattle.std.specs.List.{All, list_any, list_all}
use Rattle.std.specs.Option.{ok_or}
use Rattle.std.proofs.lemmas.Bool.{not-true, ltb-true, leb-true}
use Rattle.std.proofs.lemmas.List.Elements.{All-nil, All-push}
use Rattle.std.proofs.lemmas.Option.{same_Some}
use Rattle.containers.proofs.Bools.{both_true}
use Rattle.plan_base.specs.declared.ids.Host.{Host}
use Rattle.service_api.specs.declared.package.PackageName.{PackageName}
use Rattle.service_api.specs.declared.package.PackageName.TheVariants as packages
use Rattle.plan_base.specs.declared.stamp.Version.{Version}
use Rattle.network_config.specs.Hosts.{host_of, is_listed}
use Rattle.network_config.specs.FileNames.{is_file_name}
use Rattle.network_config.specs.Rules.{PackagesDiffer}
use Rattle.network_config.specs.NodeRules.{Ascend}
use Rattle.hex.specs.Hex.{decode_of, IsBytes}
use Rattle.hex.specs.declared.error.FromHexError.{FromHexError}
use Rattle.hex.proofs.HexLemmas.{decode_of-ok}
use Rattle.line_reader.specs.declared.fault.LineReason.{LineReason}
use Rattle.line_reader.specs.declared.fault.LineReason.TheVariants.{BadHeader, BadWord, BadNumber, TwiceNamed, TooMany, BadArgument}
use Rattle.line_reader.specs.declared.fault.LineFault.{LineFault}
use Rattle.line_reader.specs.declared.fault.LineFault.TheVariants as faults
use Rattle.line_reader.specs.Headers.{next_by_version}
use Rattle.line_reader.specs.Reads.{◌>>=◌, and_then, word_at, allowed_or_reason}
use Rattle.line_reader.specs.Files.{Format, at_line, read_on}
use Rattle.line_reader.specs.Numbers.{spelled_number, within, number_in, number_at}
use Rattle.line_reader.specs.HexWords.{hex_of, within_size, hex_at}
use Rattle.line_reader.specs.FileNames.{file_name_at}
use Rattle.line_reader.specs.Packages.{package_of, same_package, package_at, one_package, packages_at}
use Rattle.line_reader.specs.HostLists.{is_above, host_more, hosts_from, hosts_with}

-- ---- steps of a line

abbrev pub IfRead : {B : Type 0} → (B → Type 0) → Result B LineReason → Type 0
IfRead {B} P r = (y : B) → r ≡ Ok y → P y

abbrev done_value : {B : Type 0} → B → Result B LineReason
done_value x = Ok x

pub ok_is : {B : Type 0} (x y : B) → done_value x ≡ done_value y → x ≡ y
ok_is x y e = cc

pub then_keeps : {A B : Type 0} (P : B → Type 0) (r : Result A LineReason) (f : A → Result B LineReason) → ((x : A) → r ≡ Ok x → IfRead P (f x)) → IfRead P (r >>= f)
then_keeps P (Ok x) f h y e = h x refl y e
then_keeps P (Err r) f h y e = absurd cc

pub done_keeps : {B : Type 0} (P : B → Type 0) (x : B) → P x → IfRead P (Ok x)
done_keeps P x p y e = subst P (ok_is x y e) p

pub none_keeps : {B : Type 0} (P : B → Type 0) (r : LineReason) → IfRead {B = B} P (Err r)
none_keeps P r y e = absurd cc

pub allowed_true : (b : Bool) (r : LineReason) (u : Unit {0}) → allowed_or_reason b r ≡ Ok u → b ≡ true
allowed_true true r u e = refl
allowed_true false r u e = absurd cc

-- what may not be is not
pub allowed_not : (b : Bool) (r : LineReason) (u : Unit {0}) → allowed_or_reason (not b) r ≡ Ok u → b ≡ false
allowed_not b r u e = not-true b (allowed_true (not b) r u e)

-- a number that may be below another is
pub allowed_below : (a b : ℕ) (r : LineReason) (u : Unit {0}) → allowed_or_reason (ltb a b) r ≡ Ok u → a < b
allowed_below a b r u e = ltb-true a b (allowed_true (ltb a b) r u e)

pub ok_or_is : {A : Type 0} (o : Option A) (r : LineReason) (x : A) → ok_or o r ≡ Ok x → o ≡ Some x
ok_or_is (Some y) r x e = ap Some (ok_is y x e)
ok_or_is None r x e = absurd cc

-- ---- numbers

abbrev pub InRange : ℕ → ℕ → ℕ → Type 0
InRange low high n = (low ≤ n) × (n ≤ high)

some_is : (t : Bool) (m n : ℕ) → cond t (Some m) None ≡ Some n → (t ≡ true) × (m ≡ n)
some_is true m n e = (refl, same_Some m n e)
some_is false m n e = absurd cc

within_is : (low high : ℕ) (o : Option ℕ) (n : ℕ) → within low high o ≡ Some n → InRange low high n
within_is low high None n e = absurd cc
within_is low high (Some m) n e =
    let g = some_is (leb low m && leb m high) m n e in
    let h = both_true (leb low m) (leb m high) g.0 in
    subst (λ (k : ℕ). InRange low high k) g.1 (leb-true low m h.0, leb-true m high h.1)

pub number_is : (low high : ℕ) (ws : List (List ℕ)) → IfRead (λ x. InRange low high x.0) (number_at low high ws)
unfolding number_at
number_is low high ws =
    then_keeps (λ x. InRange low high x.0) (word_at ws) _ (λ w hw.
    then_keeps (λ x. InRange low high x.0) (ok_or (number_in low high w.0) BadNumber) _ (λ n hn.
    done_keeps (λ x. InRange low high x.0) (n, w.1) (within_is low high (spelled_number w.0) n (ok_or_is (number_in low high w.0) BadNumber n hn))))

-- ---- bytes in hex

pub record AreSized (low high : ℕ) (bytes : List ℕ) : Type 0 where
  pub from : low ≤ length bytes
  pub to : length bytes ≤ high
  pub are_bytes : IsBytes bytes

some_bytes : (t : Bool) (xs ys : List ℕ) → cond t (Some xs) None ≡ Some ys → (t ≡ true) × (xs ≡ ys)
some_bytes true xs ys e = (refl, same_Some xs ys e)
some_bytes false xs ys e = absurd cc

sized_is : (low high : ℕ) (word : List ℕ) (r : Result (List ℕ) FromHexError) (bytes : List ℕ) → decode_of word ≡ r → within_size low high (hex_of r) ≡ Some bytes → AreSized low high bytes
sized_is low high word (Err e) bytes d h = absurd cc
sized_is low high word (Ok xs) bytes d h =
    let g = some_bytes (leb low (length xs) && leb (length xs) high) xs bytes h in
    let k = both_true (leb low (length xs)) (leb (length xs) high) g.0 in
    subst (AreSized low high) g.1 (record { from = leb-true low (length xs) k.0; to = leb-true (length xs) high k.1; are_bytes = (decode_of-ok word xs d).3 })

pub hex_is : (low high : ℕ) (ws : List (List ℕ)) → IfRead (λ x. AreSized low high x.0) (hex_at low high ws)
unfolding hex_at
hex_is low high ws =
    then_keeps (λ x. AreSized low high x.0) (word_at ws) _ (λ w hw.
    then_keeps (λ x. AreSized low high x.0) (ok_or (within_size low high (hex_of (decode_of w.0))) BadArgument) _ (λ bytes hb.
    done_keeps (λ x. AreSized low high x.0) (bytes, w.1) (sized_is low high w.0 (decode_of w.0) bytes refl (ok_or_is (within_size low high (hex_of (decode_of w.0))) BadArgument bytes hb))))

-- ---- file names

pub file_name_is : (ws : List (List ℕ)) → IfRead (λ x. is_file_name x.0 ≡ true) (file_name_at ws)
unfolding file_name_at
file_name_is ws =
    then_keeps (λ x. is_file_name x.0 ≡ true) (word_at ws) _ (λ w hw.
    then_keeps (λ x. is_file_name x.0 ≡ true) (allowed_or_reason (is_file_name w.0) BadWord) _ (λ u hu.
    done_keeps (λ x. is_file_name x.0 ≡ true) w (allowed_true (is_file_name w.0) BadWord u hu)))

-- ---- packages

same_itself : (p : PackageName) → same_package p p ≡ true
same_itself packages.Net = refl
same_itself packages.Resident = refl
same_itself packages.Host = refl

other_package : (k p : PackageName) → same_package k p ≡ false → k ≢ p
other_package k p e same =
    let yes : same_package k p ≡ true = subst (λ q. same_package k q ≡ true) same (same_itself k) in
    absurd (let both = sym yes ∙ e in cc)

pub either_false : (a b : Bool) → (a || b) ≡ false → (a ≡ false) × (b ≡ false)
either_false true b e = absurd cc
either_false false b e = (refl, e)

differ_push : (seen : List PackageName) (k : PackageName) → list_any (same_package k) seen ≡ false → PackagesDiffer seen → PackagesDiffer (seen ++ k ∷ [])
differ_push [] k e d = (All-nil (λ q. q ≢ k), tt)
differ_push (p ∷ ps) k e d =
    let n = either_false (same_package k p) (list_any (same_package k) ps) e in
    (All-push (λ q. q ≢ p) ps k d.0 (other_package k p n.0), differ_push ps k n.1 d.1)

pub package_is : (seen : List PackageName) (ws : List (List ℕ)) → PackagesDiffer seen → IfRead (λ x. PackagesDiffer x.0) (package_at seen ws)
unfolding package_at
package_is seen ws d =
    then_keeps (λ x. PackagesDiffer x.0) (word_at ws) _ (λ p hp.
    then_keeps (λ x. PackagesDiffer x.0) (ok_or (package_of p.0) BadWord) _ (λ k hk.
    then_keeps (λ x. PackagesDiffer x.0) (allowed_or_reason (not (list_any (same_package k) seen)) TwiceNamed) _ (λ u hu.
    done_keeps (λ x. PackagesDiffer x.0) (seen ++ k ∷ [], p.1) (differ_push seen k (allowed_not (list_any (same_package k) seen) TwiceNamed u hu) d))))

one_package_is : (seen : List PackageName) (ws : List (List ℕ)) → PackagesDiffer seen → IfRead (λ x. PackagesDiffer x.0) (one_package seen ws)
unfolding one_package
one_package_is seen ws d =
    then_keeps (λ x. PackagesDiffer x.0) (word_at ws) _ (λ w hw.
    then_keeps (λ x. PackagesDiffer x.0) (allowed_or_reason _ BadWord) _ (λ u hu.
    package_is seen w.1 d))

pub packages_are : (seen : List PackageName) (ws : List (List ℕ)) → PackagesDiffer seen → IfRead PackagesDiffer (packages_at seen ws)
unfolding packages_at
packages_are seen [] d = done_keeps PackagesDiffer seen d
packages_are seen (w ∷ []) d = none_keeps PackagesDiffer BadWord
packages_are seen (w ∷ p ∷ ws) d =
    then_keeps PackagesDiffer (one_package seen (w ∷ p ∷ ws)) _ (λ next hn.
    packages_are next.0 ws (one_package_is seen (w ∷ p ∷ ws) d next hn))

-- ---- hosts that ascend

pub record Rises (hosts : List Host) : Type 0 where
  pub few : length hosts ≤ 32
  pub ascend : Ascend hosts
  pub numbers : All (λ h. h.0 < 2 ^ 32) hosts

ascend_push : (seen : List Host) (n : ℕ) → list_all (λ h. ltb h.0 n) seen ≡ true → Ascend seen → Ascend (seen ++ host_of n ∷ [])
ascend_push [] n e a = (All-nil (λ g. n < g.0), tt)
ascend_push (h ∷ hs) n e a =
    let k = both_true (ltb h.0 n) (list_all (λ g. ltb g.0 n) hs) e in
    (All-push (λ g. h.0 < g.0) hs (host_of n) a.0 (ltb-true h.0 n k.0), ascend_push hs n k.1 a.1)

host_is : (seen : List Host) (ws : List (List ℕ)) → Rises seen → IfRead (λ x. Rises x.0) (host_more seen ws)
unfolding host_more
host_is seen ws r =
    then_keeps (λ x. Rises x.0) (number_at 0 4294967295 ws) _ (λ n hn.
    then_keeps (λ x. Rises x.0) (allowed_or_reason (ltb (length seen) 32) TooMany) _ (λ u hu.
    then_keeps (λ x. Rises x.0) (allowed_or_reason (is_above seen n.0) BadArgument) _ (λ v hv.
    done_keeps (λ x. Rises x.0) (seen ++ host_of n.0 ∷ [], n.1) (record {
      few = omega (arith, length-append seen (host_of n.0 ∷ []), allowed_below (length seen) 32 TooMany u hu);
      ascend = ascend_push seen n.0 (allowed_true (is_above seen n.0) BadArgument v hv) r.ascend;
      numbers = All-push (λ h. h.0 < 2 ^ 32) seen (host_of n.0) r.numbers (omega (arith, (number_is 0 4294967295 ws n hn).1));
    }))))

hosts_are : (seen : List Host) (ws : List (List ℕ)) → Rises seen → IfRead Rises (hosts_from seen ws)
unfolding hosts_from
hosts_are seen [] r = done_keeps Rises seen r
hosts_are seen (w ∷ ws) r = then_keeps Rises (host_more seen (w ∷ ws)) _ (λ next hn. hosts_are next.0 ws (host_is seen (w ∷ ws) r next hn))

-- the hosts of a network with this one among them
pub record AreHosts (here : Host) (hosts : List Host) : Type 0 where
  pub rises : Rises hosts
  pub listed : is_listed here hosts ≡ true

pub hosts_with_is : (here : Host) (ws : List (List ℕ)) → IfRead (AreHosts here) (hosts_with here ws)
unfolding hosts_with
hosts_with_is here ws =
    then_keeps (AreHosts here) (hosts_from [] ws) _ (λ hosts hh.
    then_keeps (AreHosts here) (allowed_or_reason (is_listed here hosts) BadArgument) _ (λ u hu.
    done_keeps (AreHosts here) hosts (record {
      rises = hosts_are [] ws (record { few = omega arith; ascend = tt; numbers = All-nil (λ h. h.0 < 2 ^ 32) }) hosts hh;
      listed = allowed_true (is_listed here hosts) BadArgument u hu;
    })))

-- ---- lines of a file

abbrev pub IfStep : {B : Type 0} → (B → Type 0) → Result B LineFault → Type 0
IfStep {B} P r = (y : B) → r ≡ Ok y → P y

abbrev stepped_value : {B : Type 0} → B → Result B LineFault
stepped_value x = Ok x

pub step_is : {B : Type 0} (x y : B) → stepped_value x ≡ stepped_value y → x ≡ y
step_is x y e = cc

pub step_done : {B : Type 0} (P : B → Type 0) (x : B) → P x → IfStep P (Ok x)
step_done P x p y e = subst P (step_is x y e) p

pub step_none : {B : Type 0} (P : B → Type 0) (d : LineFault) → IfStep {B = B} P (Err d)
step_none P d y e = absurd cc

pub step_then : {A B : Type 0} (P : B → Type 0) (r : Result A LineFault) (f : A → Result B LineFault) → ((x : A) → r ≡ Ok x → IfStep P (f x)) → IfStep P (and_then r f)
step_then P (Ok x) f h y e = h x refl y e
step_then P (Err r) f h y e = absurd cc

pub at_line_keeps : {B : Type 0} (P : B → Type 0) (number : ℕ) (r : Result B LineReason) → IfRead P r → IfStep P (at_line number r)
at_line_keeps P number (Ok x) h y e = step_done P x (h x refl) y e
at_line_keeps P number (Err r) h y e = absurd cc

pub either_keeps : {B : Type 0} (P : B → Type 0) (t : Bool) (a b : Result B LineFault) → IfStep P a → IfStep P b → IfStep P (cond t a b)
either_keeps P true a b h k = h
either_keeps P false a b h k = k

pub version_keeps : {B : Type 0} (P : B → Type 0) (number : ℕ) (next : Version → B) (v : Option Version) → ((version : Version) → P (next version)) → IfStep P (next_by_version number next v)
version_keeps P number next (Some version) h = step_done P (next version) (h version)
version_keeps P number next None h = step_none P (faults.Line number BadHeader)

-- what every line keeps is kept at the end of the file
pub read_keeps : {S T : Type 0} (f : Format S T) (P : S → Type 0) (Q : T → Type 0) → ((number : ℕ) (line : List ℕ) (s : S) → P s → IfStep P (f.step number line s)) → ((number : ℕ) (s : S) → P s → IfStep Q (f.finish number s))
    → (ls : List (List ℕ)) (number : ℕ) (s : S) → P s → IfStep Q (read_on f number ls s)
unfolding read_on
read_keeps f P Q step finish [] number s p = finish number s p
read_keeps f P Q step finish (line ∷ ls) number s p = step_then Q (f.step number line s) _ (λ t ht. read_keeps f P Q step finish ls (number + 1) t (step number line s p t ht))
