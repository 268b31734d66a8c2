-- The lines that configurations and logs share are read as they are written.
use Rattle.std.proofs.Common.{◌≡◌, ℕ, ◌<◌, ◌≤◌, ◌^◌, Bool, true, false, cond, eqb, ltb, ◌||◌, List, [], ◌∷◌, ◌++◌, length, length-append, append_assoc, append-nil, map, Some, Result, Ok, refl, sym, ap, subst, ◌∙◌, arith}
use Rattle.std.specs.List.{All, list_any}
use Rattle.std.specs.Fmt.{decimal}
use lib.Chars.{codes}
use Rattle.std.proofs.lemmas.Bool.{lt-ltb, le-ltb, ne_eqb, eqb-true}
use Rattle.std.proofs.lemmas.List.Elements.{All-nil, All-cons, All-head, All-tail}
use Rattle.containers.proofs.Bools.{and_both}
use Rattle.plan_base.specs.declared.ids.Host.{Host}
use Rattle.plan_base.specs.declared.ids.Dev.{Dev}
use Rattle.service_api.specs.declared.package.PackageName.{PackageName}
use Rattle.service_api.specs.declared.package.PackageName.TheVariants as packages
use Rattle.network_config.specs.Hosts.{is_listed}
use Rattle.network_config.specs.NodeRules.{Ascend, DevicesAscend, IsNeighbour}
use Rattle.line_reader.specs.declared.fault.LineReason.{LineReason}
use Rattle.line_reader.specs.Lines.{words, spaced_words}
use Rattle.line_reader.specs.Files.{is_skipped}
use Rattle.line_reader.specs.Packages.{package_of, same_package, package_at}
use Rattle.line_reader.specs.HostLists.{is_above, host_more, hosts_from, hosts_with}
use Rattle.schedule_text.specs.Written.{package_word}
use Rattle.schedule_text.proofs.WordLaws.{Free, IsFree, words_are, number_free}
use Rattle.schedule_text.proofs.ReadSteps.{number_ok}
use Rattle.schedule_text.proofs.NetworkRead.{all_middle}
use Rattle.node_files.specs.Parts.{behind_word, last_number, usual_line}
use Rattle.node_files.specs.Nodes.{host_line, hosts_line, has_device, neighbour_at, placed_items}
use Rattle.node_files.specs.LogTexts.{host_words, hosts_words}
use Rattle.node_files.proofs.Placed.{placed_step}

-- ---- lines of words

-- no word has a space or a line feed
abbrev pub Clean : List (List ℕ) → Type 0
Clean ws = Free 32 ws × Free 10 ws

-- one word more
pub clean_more : (w : List ℕ) (ws : List (List ℕ)) → IsFree w → Clean ws → Clean (w ∷ ws)
clean_more w ws f c = ((f.0, c.0), (f.1, c.1))

-- a line that says something is read by its words
pub usual_by : {A : Type 0} (n : ℕ) (line : List ℕ) (ws : List (List ℕ)) (s u : A) (read : List (List ℕ) → Result A LineReason) → is_skipped line ≡ false → words line ≡ ws → read ws ≡ Ok u → usual_line n line s read ≡ Ok u
usual_by n line ws s u read says are e = rw (says, are, e) refl

-- which are those that it was made of
pub usual_again : {A : Type 0} (n : ℕ) (w : List ℕ) (ws : List (List ℕ)) (s u : A) (read : List (List ℕ) → Result A LineReason) → is_skipped (spaced_words (w ∷ ws)) ≡ false → Clean (w ∷ ws)
    → read (w ∷ ws) ≡ Ok u → usual_line n (spaced_words (w ∷ ws)) s read ≡ Ok u
usual_again n w ws s u read says c e = usual_by n (spaced_words (w ∷ ws)) (w ∷ ws) s u read says (words_are w ws c.0) e

-- ---- numbers

pub clean_number : (n : ℕ) → n < 2 ^ 64 → (ws : List (List ℕ)) → Clean ws → Clean (decimal n ∷ ws)
clean_number n small ws c = clean_more (decimal n) ws (number_free n small) c

pub last_reads : (low high n : ℕ) → n < 2 ^ 64 → low ≤ n → n ≤ high → last_number low high (decimal n ∷ []) ≡ Ok n
unfolding last_number
last_reads low high n small a b = rw (number_ok low high n [] small a b) refl

-- ---- hosts

pub host_reads : (h : Host) → h.0 < 2 ^ 32 → host_line (host_words h) ≡ Ok h
unfolding host_line behind_word
host_reads h small = rw (last_reads 0 4294967295 h.0 (omega (arith, small)) (omega arith) (omega (arith, small))) refl

pub host_clean : (h : Host) → h.0 < 2 ^ 32 → Clean (host_words h)
host_clean h small = clean_more (codes "host") (decimal h.0 ∷ []) (refl, refl) (clean_number h.0 (omega (arith, small)) [] (tt, tt))

above_all : (seen : List Host) (h : Host) (hs : List Host) → Ascend (seen ++ (h ∷ hs)) → is_above seen h.0 ≡ true
above_all [] h hs a = refl
above_all (s ∷ ss) h hs a = and_both (ltb s.0 h.0) (is_above ss h.0) (lt-ltb s.0 h.0 (all_middle (λ g. s.0 < g.0) ss h hs a.0)) (above_all ss h hs a.1)

pub more_to : {A : Type 0} (all seen : List A) (x : A) (xs : List A) → seen ++ (x ∷ xs) ≡ all → (seen ++ (x ∷ [])) ++ xs ≡ all
more_to all seen x xs e = append_assoc seen (x ∷ []) xs ∙ e

pub room_for : {A : Type 0} (all seen : List A) (x : A) (xs : List A) (n : ℕ) → seen ++ (x ∷ xs) ≡ all → length all ≤ n → length seen < n
room_for {A} all seen x xs n e few = omega (arith, ap (λ (l : List A). length l) e, length-append seen (x ∷ xs), few)

one_host : (seen : List Host) (h : Host) (ws : List (List ℕ)) → h.0 < 2 ^ 32 → length seen < 32 → is_above seen h.0 ≡ true → host_more seen (decimal h.0 ∷ ws) ≡ Ok (seen ++ (h ∷ []), ws)
unfolding host_more
one_host seen h ws small room above = rw (number_ok 0 4294967295 h.0 ws (omega (arith, small)) (omega arith) (omega (arith, small)), lt-ltb (length seen) 32 room, above) refl

hosts_again : (all seen hs : List Host) → seen ++ hs ≡ all → length all ≤ 32 → Ascend all → All (λ h. h.0 < 2 ^ 32) all → hosts_from seen (map (λ h. decimal h.0) hs) ≡ Ok all
unfolding hosts_from
hosts_again all seen [] e few a small = ap (λ (l : List Host). Ok l) (sym (append-nil seen) ∙ e)
hosts_again all seen (h ∷ hs) e few a small =
    let ws = map (λ (g : Host). decimal g.0) hs in
    let ascends : Ascend (seen ++ (h ∷ hs)) = subst Ascend (sym e) a in
    let smalls : All (λ g. g.0 < 2 ^ 32) (seen ++ (h ∷ hs)) = subst (λ (l : List Host). All (λ g. g.0 < 2 ^ 32) l) (sym e) small in
    rw (one_host seen h ws (all_middle (λ g. g.0 < 2 ^ 32) seen h hs smalls) (room_for all seen h hs 32 e few) (above_all seen h hs ascends))
    (hosts_again all (seen ++ (h ∷ [])) hs (more_to all seen h hs e) few a small)

pub hosts_read : (here : Host) (hosts : List Host) → length hosts ≤ 32 → Ascend hosts → All (λ h. h.0 < 2 ^ 32) hosts → is_listed here hosts ≡ true → hosts_line here (hosts_words hosts) ≡ Ok hosts
unfolding hosts_line behind_word hosts_with
hosts_read here hosts few a small listed = rw (hosts_again hosts [] hosts refl few a small, listed) refl

pub hosts_clean : (hs : List Host) → All (λ h. h.0 < 2 ^ 32) hs → Clean (map (λ h. decimal h.0) hs)
hosts_clean [] small = (tt, tt)
hosts_clean (h ∷ hs) small = clean_number h.0 (omega (arith, All-head (λ (g : Host). g.0 < 2 ^ 32) h hs small)) (map (λ g. decimal g.0) hs) (hosts_clean hs (All-tail (λ (g : Host). g.0 < 2 ^ 32) h hs small))

listed_by : (t b : Bool) (h here : Host) → eqb h.0 here.0 ≡ t → (t || b) ≡ true → h.0 < 2 ^ 32 → (b ≡ true → here.0 < 2 ^ 32) → here.0 < 2 ^ 32
listed_by true b h here q r small again = omega (arith, eqb-true h.0 here.0 q, small)
listed_by false b h here q r small again = again r

pub listed_small : (here : Host) (hosts : List Host) → is_listed here hosts ≡ true → All (λ h. h.0 < 2 ^ 32) hosts → here.0 < 2 ^ 32
listed_small here [] e small = absurd cc
listed_small here (h ∷ hs) e small =
    listed_by (eqb h.0 here.0) (is_listed here hs) h here refl e (All-head (λ (g : Host). g.0 < 2 ^ 32) h hs small)
    (λ r. listed_small here hs r (All-tail (λ (g : Host). g.0 < 2 ^ 32) h hs small))

-- ---- neighbours

pub before : (seen : List (Host × Dev)) (n : Host × Dev) (ns : List (Host × Dev)) → DevicesAscend (seen ++ (n ∷ ns)) → All (λ m. m.1.0 < n.1.0) seen
before [] n ns a = All-nil (λ (m : Host × Dev). m.1.0 < n.1.0)
before (m ∷ ms) n ns a = All-cons (λ (k : Host × Dev). k.1.0 < n.1.0) m ms (all_middle (λ (k : Host × Dev). m.1.0 < k.1.0) ms n ns a.0) (before ms n ns a.1)

free_by : (m n : Host × Dev) (b : Bool) → m.1.0 < n.1.0 → b ≡ false → (eqb m.1.0 n.1.0 || b) ≡ false
free_by m n b less e = rw (ne_eqb m.1.0 n.1.0 (λ same. omega (arith, less, same)), e) refl

pub free_there : (seen : List (Host × Dev)) (n : Host × Dev) → All (λ m. m.1.0 < n.1.0) seen → has_device n.1.0 seen ≡ false
free_there [] n h = refl
free_there (m ∷ ms) n h = free_by m n (has_device n.1.0 ms) (All-head (λ (k : Host × Dev). k.1.0 < n.1.0) m ms h) (free_there ms n (All-tail (λ (k : Host × Dev). k.1.0 < n.1.0) m ms h))

last_by : {A : Type 0} (t : Bool) (x y : A) (ys zs : List A) → t ≡ false → cond t (x ∷ y ∷ ys) (y ∷ zs) ≡ y ∷ zs
last_by true x y ys zs e = absurd cc
last_by false x y ys zs e = refl

-- an item with a number above all others stands behind them
pub placed_last : {A : Type 0} (key : A → ℕ) (seen : List A) (x : A) → All (λ y. key y < key x) seen → placed_items key x seen ≡ seen ++ (x ∷ [])
placed_last key [] x h = refl
placed_last {A} key (y ∷ ys) x h =
    let lower : key y < key x = All-head (λ (z : A). key z < key x) y ys h in
    placed_step key x y ys
    ∙ last_by (ltb (key x) (key y)) x y ys (placed_items key x ys) (le-ltb (key x) (key y) (omega (arith, lower)))
    ∙ ap (λ (l : List A). y ∷ l) (placed_last key ys x (All-tail (λ (z : A). key z < key x) y ys h))

pub neighbour_reads : (here : Host) (hosts : List Host) (seen : List (Host × Dev)) (n : Host × Dev) (ws : List (List ℕ)) → n.0.0 < 2 ^ 32 → IsNeighbour here hosts n → has_device n.1.0 seen ≡ false
    → neighbour_at here hosts seen (decimal n.1.0 ∷ decimal n.0.0 ∷ ws) ≡ Ok (n, ws)
unfolding neighbour_at
neighbour_reads here hosts seen n ws small k free =
    rw (
      number_ok 1 8 n.1.0 (decimal n.0.0 ∷ ws) (omega (arith, k.device.1)) k.device.0 k.device.1,
      free,
      number_ok 0 4294967295 n.0.0 ws (omega (arith, small)) (omega arith) (omega (arith, small)),
      k.listed,
      ne_eqb n.0.0 here.0 k.apart,
    ) refl

pub hosts_of_neighbours : (here : Host) (hosts : List Host) (n : Host × Dev) → IsNeighbour here hosts n → All (λ h. h.0 < 2 ^ 32) hosts → n.0.0 < 2 ^ 32
hosts_of_neighbours here hosts n k small = listed_small n.0 hosts k.listed small

-- ---- missing packages

package_again : (p : PackageName) → package_of (package_word p) ≡ Some p
package_again packages.Net = refl
package_again packages.Resident = refl
package_again packages.Host = refl

pub package_clean : (p : PackageName) → Clean (package_word p ∷ [])
package_clean packages.Net = ((refl, tt), (refl, tt))
package_clean packages.Resident = ((refl, tt), (refl, tt))
package_clean packages.Host = ((refl, tt), (refl, tt))

pub package_reads : (seen : List PackageName) (p : PackageName) → list_any (same_package p) seen ≡ false → package_at seen (package_word p ∷ []) ≡ Ok (seen ++ (p ∷ []), [])
unfolding package_at
package_reads seen p new = rw (package_again p, new) refl
