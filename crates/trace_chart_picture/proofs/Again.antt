-- An entry that is written is taken apart into it again.
use Rattle.std.proofs.Common.{◌≡◌, ◌≢◌, ℕ, ◌≤◌, Bool, true, false, ◌||◌, if◌then◌else◌, eqb, ltb, List, [], ◌∷◌, ◌++◌, length, take, codes, refl, sym, ap, subst, append_assoc, ◌∙◌, arith, append-nil, ne_eqb, le-leb}
use Rattle.std.specs.Fmt.{decimal}
use Rattle.std.specs.Str.{bytes_eq, IsUtf8}
use Rattle.std.proofs.lemmas.Slice.Eq.{bytes_eq-Decides}
use Rattle.plan_base.specs.declared.ids.Host.{Host}
use Rattle.plan_base.specs.declared.ids.Dev.{Dev}
use Rattle.plan_base.specs.declared.ids.Family.{Family}
use Rattle.trace_chart_picture.specs.Cuts.{first, rest, has_blank, front, last, front_of_four, short}
use Rattle.trace_chart_picture.specs.Guesses.{host_of, device_of, bound_at, evals_at, left_at, reason_of, is_bad_frame, is_refusal, kept_of, keeping_line}
use Rattle.trace_chart_picture.specs.Guesses.{what_of, packet_line, arrival, plain_line, line_by, at_host, shown_line, loss, without_host, wired, is_host, guessed_line, guessed_entry}
use Rattle.trace_chart_picture.specs.Lines.{family_text, paid_text, what_text, reason_text, rest_text, line_text, entry_text}
use Rattle.trace_chart_picture.specs.Reads.{lacks, IsShort, IsLong, IsFamily, IsWhat, IsHex, IsWord, IsLine, IsEntry, IsNoEntry, IsReadAs}
use Rattle.trace_chart_picture.specs.declared.line.What.{What}
use Rattle.trace_chart_picture.specs.declared.line.What.TheVariants as what
use Rattle.trace_chart_picture.specs.declared.line.Reason.{Reason}
use Rattle.trace_chart_picture.specs.declared.line.Reason.TheVariants as reason
use Rattle.trace_chart_picture.specs.declared.line.Line.{Line}
use Rattle.trace_chart_picture.specs.declared.line.Line.TheVariants.{Injected, Forged, Arrived, Asked, Printed, Delivered, Gave, Raised}
use Rattle.trace_chart_picture.specs.declared.line.Line.TheVariants.{Spent, Handled, Queued, Dropped, Refused, Advert, Heard, Ticked, Sent}
use Rattle.trace_chart_picture.specs.declared.line.Line.TheVariants.{Wire, WireShown, Off, Again, Lost, LostAdvert, Nothing}
use Rattle.trace_chart_picture.specs.declared.line.Entry.{Entry}
use Rattle.trace_chart_picture.proofs.Digits.{Starts, spells, long_of, short_lacks, family_lacks, family_starts, short_again, blank_none}
use Rattle.trace_chart_picture.proofs.Fronts.{before_sign, after_sign, before_none, after_none}
use Rattle.trace_chart_picture.proofs.Rows.{family_again, family_first, behind_family, number_first, behind_number, number_alone}

-- ---- words

-- the number of 32 bits that a text ends with
short_alone : (n : ℕ) → IsShort n → short (first (decimal n)) ≡ n
short_alone n k = ap short (before_none 32 (decimal n) (short_lacks 32 n (omega arith) k)) ∙ short_again n k

-- a word, and the number behind a name that stands behind it
bound_third : (word : List ℕ) (n : ℕ) → lacks 32 word ≡ true → IsShort n → bound_at (word ++ (codes " bound " ++ decimal n)) ≡ n
bound_third word n w k = ap (λ (z : List ℕ). short (first (rest z))) (after_sign 32 word (codes "bound " ++ decimal n) w) ∙ short_alone n k

left_third : (word : List ℕ) (n : ℕ) → lacks 32 word ≡ true → IsShort n → bound_at (word ++ (codes " left " ++ decimal n)) ≡ n
left_third word n w k = ap (λ (z : List ℕ). short (first (rest z))) (after_sign 32 word (codes "left " ++ decimal n) w) ∙ short_alone n k

family_bound : (f : Family) (n : ℕ) → IsFamily f → IsShort n → bound_at (family_text f ++ (codes " bound " ++ decimal n)) ≡ n
family_bound f n k l = bound_third (family_text f) n (family_lacks 32 f (omega arith) k) l

-- a device behind its sign
device_first : (d : Dev) (more : List ℕ) → IsShort d.0 → device_of (first (37 ∷ (decimal d.0 ++ 32 ∷ more))) ≡ d
unfolding device_of
device_first d more k = rw (before_sign 32 (decimal d.0) more (short_lacks 32 d.0 (omega arith) k), short_again d.0 k) refl

device_alone : (d : Dev) → IsShort d.0 → device_of (first (37 ∷ decimal d.0)) ≡ d
unfolding device_of
device_alone d k = rw (before_none 32 (decimal d.0) (short_lacks 32 d.0 (omega arith) k), short_again d.0 k) refl

behind_device : (d : Dev) (more : List ℕ) → IsShort d.0 → rest (37 ∷ (decimal d.0 ++ 32 ∷ more)) ≡ more
behind_device d more k = after_sign 32 (decimal d.0) more (short_lacks 32 d.0 (omega arith) k)

-- what begins with a digit is no word that begins with a letter
not_advert : (text more : List ℕ) → Starts text → bytes_eq (text ++ more) (codes "advert") ≡ false
not_advert [] more k = absurd k
not_advert (d ∷ ds) more k = rw (ne_eqb d 97 (λ e. omega (arith, k.1, e))) refl

not_host : (text more : List ℕ) → Starts text → is_host (text ++ more) ≡ false
not_host [] more k = absurd k
not_host (d ∷ ds) more k = ne_eqb d 64 (λ e. omega (arith, k.1, e))

-- ---- the last words

pub blank_more : (xs ys : List ℕ) → has_blank ys ≡ true → has_blank (xs ++ ys) ≡ true
blank_more [] ys k = k
blank_more (x ∷ xs) ys k = rw (blank_more xs ys k) (or_true (eqb x 32))
  where
    or_true : (b : Bool) → (b || true) ≡ true
    or_true true = refl
    or_true false = refl

front_more : (xs ys : List ℕ) → has_blank ys ≡ true → front (xs ++ ys) ≡ xs ++ front ys
front_more [] ys k = refl
front_more (x ∷ xs) ys k = rw (blank_more xs ys k) (ap (λ (z : List ℕ). x ∷ z) (front_more xs ys k))

last_more : (xs ys : List ℕ) → has_blank ys ≡ true → last (xs ++ ys) ≡ last ys
last_more [] ys k = refl
last_more (x ∷ xs) ys k = rw (blank_more xs ys k) (last_more xs ys k)

last_word : (word : List ℕ) → lacks 32 word ≡ true → last (32 ∷ word) ≡ word
last_word word k = rw (blank_none word k) refl

front_word : (word : List ℕ) → lacks 32 word ≡ true → front (32 ∷ word) ≡ []
front_word word k = rw (blank_none word k) refl

-- a text, and a word behind its last blank
last_behind : (xs word : List ℕ) → lacks 32 word ≡ true → last (xs ++ 32 ∷ word) ≡ word
last_behind xs word k = last_more xs (32 ∷ word) refl ∙ last_word word k

front_behind : (xs word : List ℕ) → lacks 32 word ≡ true → front (xs ++ 32 ∷ word) ≡ xs
front_behind xs word k = front_more xs (32 ∷ word) refl ∙ ap (λ (z : List ℕ). xs ++ z) (front_word word k) ∙ append-nil xs

-- what a visit paid and left, less and less of it
paid_front : (evals left : ℕ) → IsShort left → front (paid_text evals left) ≡ codes " evals " ++ (decimal evals ++ codes " left")
paid_front evals left k =
    front_more (codes " evals ") (decimal evals ++ (codes " left " ++ decimal left)) (blank_more (decimal evals) (codes " left " ++ decimal left) refl)
    ∙ ap (λ (z : List ℕ). codes " evals " ++ z) (front_more (decimal evals) (codes " left " ++ decimal left) refl
    ∙ ap (λ (z : List ℕ). decimal evals ++ z) (front_behind (codes " left") (decimal left) (short_lacks 32 left (omega arith) k)))

evals_front : (evals : ℕ) → front (codes " evals " ++ (decimal evals ++ codes " left")) ≡ codes " evals " ++ decimal evals
evals_front evals =
    front_more (codes " evals ") (decimal evals ++ codes " left") (blank_more (decimal evals) (codes " left") refl)
    ∙ ap (λ (z : List ℕ). codes " evals " ++ z) (front_behind (decimal evals) (codes "left") refl)

paid_last : (evals left : ℕ) → IsShort left → last (paid_text evals left) ≡ decimal left
paid_last evals left k =
    last_more (codes " evals ") (decimal evals ++ (codes " left " ++ decimal left)) (blank_more (decimal evals) (codes " left " ++ decimal left) refl)
    ∙ last_more (decimal evals) (codes " left " ++ decimal left) refl ∙ last_behind (codes " left") (decimal left) (short_lacks 32 left (omega arith) k)

front_two : (xs : List ℕ) (evals left : ℕ) → IsShort left → front (front (xs ++ paid_text evals left)) ≡ xs ++ (codes " evals " ++ decimal evals)
front_two xs evals left k =
    ap front (front_more xs (paid_text evals left) refl ∙ ap (λ (z : List ℕ). xs ++ z) (paid_front evals left k))
    ∙ front_more xs (codes " evals " ++ (decimal evals ++ codes " left")) refl ∙ ap (λ (z : List ℕ). xs ++ z) (evals_front evals)

left_is : (xs : List ℕ) (evals left : ℕ) → IsShort left → left_at (xs ++ paid_text evals left) ≡ left
left_is xs evals left k = ap short (last_more xs (paid_text evals left) refl ∙ paid_last evals left k) ∙ short_again left k

evals_is : (xs : List ℕ) (evals left : ℕ) → IsShort evals → IsShort left → evals_at (xs ++ paid_text evals left) ≡ evals
evals_is xs evals left e k =
    ap (λ (z : List ℕ). short (last z)) (front_two xs evals left k)
    ∙ ap short (last_more xs (codes " evals " ++ decimal evals) refl ∙ last_behind (codes " evals") (decimal evals) (short_lacks 32 evals (omega arith) e))
    ∙ short_again evals e

four_is : (xs : List ℕ) (evals left : ℕ) → IsShort evals → IsShort left → front_of_four (xs ++ paid_text evals left) ≡ xs
four_is xs evals left e k =
    ap (λ (z : List ℕ). front (front z)) (front_two xs evals left k)
    ∙ ap front (front_more xs (codes " evals " ++ decimal evals) refl
    ∙ ap (λ (z : List ℕ). xs ++ z) (front_behind (codes " evals") (decimal evals) (short_lacks 32 evals (omega arith) e)))
    ∙ front_behind xs (codes "evals") refl

-- ---- lines

-- a line at a host
line_at : (text word more second : List ℕ) → first text ≡ word → rest text ≡ more → first more ≡ second → is_host second ≡ true
    → guessed_line text ≡ at_host word (host_of second) (rest more)
unfolding guessed_line
line_at text word more second a b c d = rw (a, b, c, d) refl

named : (h : Host) → IsShort h.0 → host_of (64 ∷ decimal h.0) ≡ h
unfolding host_of
named h k = rw (short_again h.0 k) refl

hosted : (word : List ℕ) (h : Host) (text : List ℕ) → lacks 32 word ≡ true → IsShort h.0
    → guessed_line (word ++ 32 ∷ 64 ∷ (decimal h.0 ++ 32 ∷ text)) ≡ at_host word h text
hosted word h text w k =
    let behind : List ℕ = decimal h.0 ++ 32 ∷ text in
    let one : lacks 32 (decimal h.0) ≡ true = short_lacks 32 h.0 (omega arith) k in
    line_at (word ++ 32 ∷ 64 ∷ behind) word (64 ∷ behind) (64 ∷ decimal h.0) (before_sign 32 word (64 ∷ behind) w) (after_sign 32 word (64 ∷ behind) w)
    (ap (λ (z : List ℕ). 64 ∷ z) (before_sign 32 (decimal h.0) text one)) refl
    ∙ ap (at_host word (host_of (64 ∷ decimal h.0))) (after_sign 32 (decimal h.0) text one)
    ∙ ap (λ (x : Host). at_host word x text) (named h k)

-- one without
unhosted : (text word more shown : List ℕ) → first text ≡ word → rest text ≡ more → is_host (first more) ≡ false → rest more ≡ shown
    → guessed_line text ≡ wired word more shown
unfolding guessed_line
unhosted text word more shown a b c d = rw (a, b, c, d) refl

-- one that keeps a text
keeps : (word : List ℕ) (h : Host) (text kept : List ℕ) → kept_of word text ≡ kept → kept ≢ [] → at_host word h text ≡ keeping_line word h text kept
unfolding at_host line_by
keeps word h text [] e some = absurd (some refl)
keeps word h text (b ∷ bs) e some = rw e refl

-- one that keeps none
plain : (word : List ℕ) (h : Host) (text : List ℕ) → kept_of word text ≡ [] → at_host word h text ≡ plain_line word h text
unfolding at_host line_by
plain word h text e = rw e refl

-- ---- each line

-- the text of a line at a host: its word, its host and what stands behind
at_is : (word : List ℕ) (h : Host) (text : List ℕ) (l : Line) → lacks 32 word ≡ true → IsShort h.0 → at_host word h text ≡ l
    → guessed_line (word ++ 32 ∷ 64 ∷ (decimal h.0 ++ 32 ∷ text)) ≡ l
at_is word h text l w k e = hosted word h text w k ∙ e

injected_is : (h : Host) (f : Family) (n : ℕ) → IsFamily f → IsShort n → at_host (codes "inject") h (family_text f ++ (codes " bound " ++ decimal n)) ≡ Injected h f n
unfolding at_host line_by kept_of plain_line packet_line
injected_is h f n k l = rw (family_first f (codes "bound " ++ decimal n) k, family_bound f n k l) refl

forged_is : (h : Host) (f : Family) (n : ℕ) → IsFamily f → IsShort n → at_host (codes "forged") h (family_text f ++ (codes " bound " ++ decimal n)) ≡ Forged h f n
unfolding at_host line_by kept_of plain_line packet_line
forged_is h f n k l = rw (family_first f (codes "bound " ++ decimal n) k, family_bound f n k l) refl

spent_is : (h : Host) (f : Family) (n : ℕ) → IsFamily f → IsShort n → at_host (codes "spent") h (family_text f ++ (codes " left " ++ decimal n)) ≡ Spent h f n
unfolding at_host line_by kept_of plain_line packet_line
spent_is h f n k l = rw (family_first f (codes "left " ++ decimal n) k, left_third (family_text f) n (family_lacks 32 f (omega arith) k) l) refl

queued_is : (h : Host) (d : Dev) (f : Family) (n : ℕ) → IsShort d.0 → IsFamily f → IsShort n
    → at_host (codes "queue") h (37 ∷ (decimal d.0 ++ 32 ∷ (family_text f ++ (codes " bound " ++ decimal n)))) ≡ Queued h d f n
unfolding at_host line_by kept_of plain_line packet_line
queued_is h d f n j k l =
    rw (
      device_first d (family_text f ++ (codes " bound " ++ decimal n)) j,
      behind_device d (family_text f ++ (codes " bound " ++ decimal n)) j,
      family_first f (codes "bound " ++ decimal n) k,
      family_bound f n k l,
    ) refl

arrived_is : (h : Host) (d : Dev) → IsShort d.0 → at_host (codes "arrive") h (37 ∷ decimal d.0) ≡ Arrived h d
unfolding at_host line_by kept_of plain_line arrival
arrived_is h d k = rw (device_alone d k) refl

asked_is : (h : Host) → at_host (codes "arrive") h (codes "control") ≡ Asked h
unfolding at_host line_by kept_of plain_line arrival
asked_is h = refl

advert_is : (h : Host) (d : Dev) → IsShort d.0 → at_host (codes "advert") h (37 ∷ decimal d.0) ≡ Advert h d
unfolding at_host line_by kept_of plain_line
advert_is h d k = rw (device_alone d k) refl

heard_is : (h : Host) (d : Dev) → IsShort d.0 → at_host (codes "heard") h (37 ∷ decimal d.0) ≡ Heard h d
unfolding at_host line_by kept_of plain_line
heard_is h d k = rw (device_alone d k) refl

ticked_is : (h : Host) (now : ℕ) → IsLong now → at_host (codes "tick") h (codes "now " ++ decimal now) ≡ Ticked h now
unfolding at_host line_by kept_of plain_line
ticked_is h now k = rw (number_alone now k) refl

what_again : (x : What) → IsWhat x → what_of (what_text x) ≡ x
unfolding what_of
what_again what.Advert k = refl
what_again (what.Packet f) k =
    rw (ap (λ (z : List ℕ). bytes_eq z (codes "advert")) (sym (append-nil (family_text f))) ∙ not_advert (family_text f) [] (family_starts f k))
    (ap what.Packet (family_again f k))

sent_is : (h : Host) (d : Dev) (x : What) → IsShort d.0 → IsWhat x → at_host (codes "send") h (37 ∷ (decimal d.0 ++ 32 ∷ what_text x)) ≡ Sent h d x
unfolding at_host line_by kept_of plain_line
sent_is h d x j k = rw (device_first d (what_text x) j, behind_device d (what_text x) j, what_again x k) refl

-- ---- those that keep a text

printed_is : (h : Host) (v : List ℕ) → v ≢ [] → at_host (codes "print") h v ≡ Printed h v
unfolding kept_of keeping_line
printed_is h v some = keeps (codes "print") h v v refl some

port_kept : (p : ℕ) (v : List ℕ) → p ≤ 65535 → kept_of (codes "port") (decimal p ++ 32 ∷ v) ≡ v
unfolding kept_of
port_kept p v k =
    let one : lacks 32 (decimal p) ≡ true = short_lacks 32 p (omega arith) (omega (arith, k)) in
    rw (before_sign 32 (decimal p) v one, after_sign 32 (decimal p) v one, short_again p (omega (arith, k)), le-leb p 65535 k) refl

delivered_is : (h : Host) (p : ℕ) (v : List ℕ) → p ≤ 65535 → v ≢ [] → at_host (codes "port") h (decimal p ++ 32 ∷ v) ≡ Delivered h p v
unfolding keeping_line
delivered_is h p v k some =
    keeps (codes "port") h (decimal p ++ 32 ∷ v) v (port_kept p v k) some
    ∙ ap (λ (n : ℕ). Delivered h n v) (ap short (before_sign 32 (decimal p) v (short_lacks 32 p (omega arith) (omega (arith, k)))) ∙ short_again p (omega (arith, k)))

end_kept : (word : List ℕ) (f : Family) (v : List ℕ) (evals left : ℕ) → IsFamily f → IsShort evals → IsShort left
    → front_of_four (rest (family_text f ++ 32 ∷ (v ++ paid_text evals left))) ≡ v
end_kept word f v evals left k e l = ap front_of_four (behind_family f (v ++ paid_text evals left) k) ∙ four_is v evals left e l

-- the words in front of what a visit paid, as one text
end_joined : (f : Family) (v : List ℕ) (evals left : ℕ) → family_text f ++ 32 ∷ (v ++ paid_text evals left) ≡ (family_text f ++ 32 ∷ v) ++ paid_text evals left
end_joined f v evals left = sym (append_assoc (family_text f) (32 ∷ v) (paid_text evals left))

end_evals : (f : Family) (v : List ℕ) (evals left : ℕ) → IsShort evals → IsShort left → evals_at (family_text f ++ 32 ∷ (v ++ paid_text evals left)) ≡ evals
end_evals f v evals left e l = ap evals_at (end_joined f v evals left) ∙ evals_is (family_text f ++ 32 ∷ v) evals left e l

end_left : (f : Family) (v : List ℕ) (evals left : ℕ) → IsShort left → left_at (family_text f ++ 32 ∷ (v ++ paid_text evals left)) ≡ left
end_left f v evals left l = ap left_at (end_joined f v evals left) ∙ left_is (family_text f ++ 32 ∷ v) evals left l

gave_is : (h : Host) (f : Family) (v : List ℕ) (evals left : ℕ) → IsFamily f → v ≢ [] → IsShort evals → IsShort left
    → at_host (codes "value") h (family_text f ++ 32 ∷ (v ++ paid_text evals left)) ≡ Gave h f v evals left
unfolding kept_of keeping_line
gave_is h f v evals left k some e l =
    keeps (codes "value") h (family_text f ++ 32 ∷ (v ++ paid_text evals left)) v (end_kept (codes "value") f v evals left k e l) some
    ∙ rw (family_first f (v ++ paid_text evals left) k, end_evals f v evals left e l, end_left f v evals left l) refl

raised_is : (h : Host) (f : Family) (v : List ℕ) (evals left : ℕ) → IsFamily f → v ≢ [] → IsShort evals → IsShort left
    → at_host (codes "raised") h (family_text f ++ 32 ∷ (v ++ paid_text evals left)) ≡ Raised h f v evals left
unfolding kept_of keeping_line
raised_is h f v evals left k some e l =
    keeps (codes "raised") h (family_text f ++ 32 ∷ (v ++ paid_text evals left)) v (end_kept (codes "raised") f v evals left k e l) some
    ∙ rw (family_first f (v ++ paid_text evals left) k, end_evals f v evals left e l, end_left f v evals left l) refl

handled_kept : (f : Family) (n : List ℕ) (bound : ℕ) → IsFamily f → lacks 32 n ≡ true
    → kept_of (codes "handler") (family_text f ++ 32 ∷ (n ++ (codes " bound " ++ decimal bound))) ≡ n
unfolding kept_of
handled_kept f n bound k w =
    ap first (behind_family f (n ++ (codes " bound " ++ decimal bound)) k) ∙ before_sign 32 n (codes "bound " ++ decimal bound) w

handled_is : (h : Host) (f : Family) (n : List ℕ) (bound : ℕ) → IsFamily f → IsWord n → IsShort bound
    → at_host (codes "handler") h (family_text f ++ 32 ∷ (n ++ (codes " bound " ++ decimal bound))) ≡ Handled h f n bound
unfolding keeping_line
handled_is h f n bound k w l =
    let behind : List ℕ = n ++ (codes " bound " ++ decimal bound) in
    keeps (codes "handler") h (family_text f ++ 32 ∷ behind) n (handled_kept f n bound k w.1) w.0
    ∙ rw (family_first f behind k, behind_family f behind k, bound_third n bound w.1 l) refl

refusal_some : (why : List ℕ) → is_refusal why ≡ true → why ≢ []
unfolding is_refusal
refusal_some why k e = true_not (is_refusal why) k (ap is_refusal e)
  where
    true_not : (x : Bool) → x ≡ true → x ≡ false → ⊥
    true_not true a b = absurd cc
    true_not false a b = absurd cc

refused_is : (h : Host) (why : List ℕ) → is_refusal why ≡ true → at_host (codes "drop") h why ≡ Refused h why
unfolding kept_of keeping_line
refused_is h why k = keeps (codes "drop") h why why (rw k refl) (refusal_some why k)

-- ---- dropped packets

no_bad_frame : (text : List ℕ) → bytes_eq (take 9 text) (codes "BadFrame ") ≡ false → is_bad_frame text ≡ false
no_bad_frame text e = rw e (neither (ltb 9 (length text)))
  where
    neither : (x : Bool) → (if x then false else false) ≡ false
    neither true = refl
    neither false = refl

reason_again : (r : Reason) → reason_of (reason_text r) ≡ r
unfolding reason_of
reason_again reason.NoBound = refl
reason_again reason.NoService = refl
reason_again reason.NoRoute = refl
reason_again reason.QueueFull = refl
reason_again reason.LinkSpent = refl
reason_again reason.Repeated = refl
reason_again reason.TooOld = refl

reason_lacks : (r : Reason) → lacks 32 (reason_text r) ≡ true
reason_lacks reason.NoBound = refl
reason_lacks reason.NoService = refl
reason_lacks reason.NoRoute = refl
reason_lacks reason.QueueFull = refl
reason_lacks reason.LinkSpent = refl
reason_lacks reason.Repeated = refl
reason_lacks reason.TooOld = refl

-- what a packet is dropped for is no refusal of something else
no_refusal : (r : Reason) (text more : List ℕ) → Starts text → is_refusal (reason_text r ++ 32 ∷ (text ++ more)) ≡ false
unfolding is_refusal
no_refusal reason.NoBound text more k = no_bad_frame (codes "NoBound" ++ 32 ∷ (text ++ more)) refl
no_refusal reason.NoService text more k = no_bad_frame (codes "NoService" ++ 32 ∷ (text ++ more)) refl
no_refusal reason.NoRoute text more k = no_bad_frame (codes "NoRoute" ++ 32 ∷ (text ++ more)) refl
no_refusal reason.QueueFull text more k = rw (not_advert text more k) (no_bad_frame (codes "QueueFull" ++ 32 ∷ (text ++ more)) refl)
no_refusal reason.LinkSpent text more k = rw (not_advert text more k) (no_bad_frame (codes "LinkSpent" ++ 32 ∷ (text ++ more)) refl)
no_refusal reason.Repeated text more k = rw (not_advert text more k) (no_bad_frame (codes "Repeated" ++ 32 ∷ (text ++ more)) refl)
no_refusal reason.TooOld text more k = rw (not_advert text more k) (no_bad_frame (codes "TooOld" ++ 32 ∷ (text ++ more)) refl)

drop_kept : (r : Reason) (f : Family) (more : List ℕ) → IsFamily f → kept_of (codes "drop") (reason_text r ++ 32 ∷ (family_text f ++ more)) ≡ []
unfolding kept_of
drop_kept r f more k = rw (no_refusal r (family_text f) more (family_starts f k)) refl

dropped_is : (h : Host) (r : Reason) (f : Family) (n : ℕ) → IsFamily f → IsShort n
    → at_host (codes "drop") h (reason_text r ++ 32 ∷ (family_text f ++ (codes " bound " ++ decimal n))) ≡ Dropped h r f n
unfolding plain_line packet_line
dropped_is h r f n k l =
    let behind : List ℕ = family_text f ++ (codes " bound " ++ decimal n) in
    plain (codes "drop") h (reason_text r ++ 32 ∷ behind) (drop_kept r f (codes " bound " ++ decimal n) k)
    ∙ rw (
      before_sign 32 (reason_text r) behind (reason_lacks r),
      after_sign 32 (reason_text r) behind (reason_lacks r),
      reason_again r,
      family_first f (codes "bound " ++ decimal n) k,
      family_bound f n k l,
    ) refl

-- ---- those without a host

numbered : (word : List ℕ) (n : ℕ) → lacks 32 word ≡ true → IsShort n → guessed_line (word ++ 32 ∷ decimal n) ≡ without_host word (decimal n)
unfolding wired
numbered word n w k =
    let one : lacks 32 (decimal n) ≡ true = short_lacks 32 n (omega arith) k in
    unhosted (word ++ 32 ∷ decimal n) word (decimal n) [] (before_sign 32 word (decimal n) w) (after_sign 32 word (decimal n) w)
    (ap is_host (before_none 32 (decimal n) one ∙ sym (append-nil (decimal n))) ∙ not_host (decimal n) [] (spells n (long_of n k)).starts) (after_none 32 (decimal n) one)

wire_is : (n : ℕ) → IsShort n → guessed_line (codes "wire" ++ 32 ∷ decimal n) ≡ Wire n
unfolding without_host
wire_is n k = numbered (codes "wire") n refl k ∙ ap Wire (short_alone n k)

off_is : (n : ℕ) → IsShort n → guessed_line (codes "off" ++ 32 ∷ decimal n) ≡ Off n
unfolding without_host
off_is n k = numbered (codes "off") n refl k ∙ ap Off (short_again n k)

again_is : (n : ℕ) → IsShort n → guessed_line (codes "again" ++ 32 ∷ decimal n) ≡ Again n
unfolding without_host
again_is n k = numbered (codes "again") n refl k ∙ ap Again (short_again n k)

shown_by : (n : ℕ) (hex : List ℕ) → IsHex hex → (more : List ℕ) → short (first more) ≡ n → wired (codes "wire") more hex ≡ WireShown n hex
unfolding wired shown_line
shown_by n [] k more e = absurd (k.0 refl)
shown_by n (b ∷ bs) k more e = rw (k.1, e) refl

shown_is : (n : ℕ) (hex : List ℕ) → IsShort n → IsHex hex → guessed_line (codes "wire" ++ 32 ∷ (decimal n ++ 32 ∷ hex)) ≡ WireShown n hex
shown_is n hex k l =
    let one : lacks 32 (decimal n) ≡ true = short_lacks 32 n (omega arith) k in
    let more : List ℕ = decimal n ++ 32 ∷ hex in
    let word : first more ≡ decimal n = before_sign 32 (decimal n) hex one in
    unhosted (codes "wire" ++ 32 ∷ more) (codes "wire") more hex (before_sign 32 (codes "wire") more refl) (after_sign 32 (codes "wire") more refl)
    (ap is_host (word ∙ sym (append-nil (decimal n))) ∙ not_host (decimal n) [] (spells n (long_of n k)).starts) (after_sign 32 (decimal n) hex one)
    ∙ shown_by n hex l more (ap short word ∙ short_again n k)

lost_is : (f : Family) (n : ℕ) → IsFamily f → IsShort n → guessed_line (codes "lost" ++ 32 ∷ (family_text f ++ (codes " bound " ++ decimal n))) ≡ Lost f n
unfolding wired without_host loss
lost_is f n k l =
    let shown : List ℕ = codes "bound " ++ decimal n in
    let more : List ℕ = family_text f ++ 32 ∷ shown in
    unhosted (codes "lost" ++ 32 ∷ more) (codes "lost") more shown (before_sign 32 (codes "lost") more refl) (after_sign 32 (codes "lost") more refl)
    (ap is_host (before_sign 32 (family_text f) shown (family_lacks 32 f (omega arith) k) ∙ sym (append-nil (family_text f))) ∙ not_host (family_text f) [] (family_starts f k))
    (behind_family f shown k)
    ∙ rw (not_advert (family_text f) (32 ∷ shown) (family_starts f k), family_first f shown k, family_bound f n k l) refl

lost_advert_is : guessed_line (codes "lost advert") ≡ LostAdvert
unfolding guessed_line wired without_host loss
lost_advert_is = refl

nothing_is : guessed_line (codes "nothing") ≡ Nothing
unfolding guessed_line wired without_host
nothing_is = refl

-- ---- all lines

pub line_again : (l : Line) → IsLine l → guessed_line (line_text l) ≡ l
unfolding line_text rest_text
line_again (Injected h f n) k = at_is (codes "inject") h (family_text f ++ (codes " bound " ++ decimal n)) (Injected h f n) refl k.0 (injected_is h f n k.1 k.2)
line_again (Forged h f n) k = at_is (codes "forged") h (family_text f ++ (codes " bound " ++ decimal n)) (Forged h f n) refl k.0 (forged_is h f n k.1 k.2)
line_again (Arrived h d) k = at_is (codes "arrive") h (37 ∷ decimal d.0) (Arrived h d) refl k.0 (arrived_is h d k.1)
line_again (Asked h) k = at_is (codes "arrive") h (codes "control") (Asked h) refl k (asked_is h)
line_again (Printed h v) k = at_is (codes "print") h v (Printed h v) refl k.0 (printed_is h v k.1)
line_again (Delivered h p v) k = at_is (codes "port") h (decimal p ++ 32 ∷ v) (Delivered h p v) refl k.0 (delivered_is h p v k.1 k.2)
line_again (Gave h f v evals left) k =
    at_is (codes "value") h (family_text f ++ 32 ∷ (v ++ paid_text evals left)) (Gave h f v evals left) refl k.0 (gave_is h f v evals left k.1 k.2 k.3 k.4)
line_again (Raised h f v evals left) k =
    at_is (codes "raised") h (family_text f ++ 32 ∷ (v ++ paid_text evals left)) (Raised h f v evals left) refl k.0 (raised_is h f v evals left k.1 k.2 k.3 k.4)
line_again (Spent h f n) k = at_is (codes "spent") h (family_text f ++ (codes " left " ++ decimal n)) (Spent h f n) refl k.0 (spent_is h f n k.1 k.2)
line_again (Handled h f w n) k =
    at_is (codes "handler") h (family_text f ++ 32 ∷ (w ++ (codes " bound " ++ decimal n))) (Handled h f w n) refl k.0 (handled_is h f w n k.1 k.2 k.3)
line_again (Queued h d f n) k =
    at_is (codes "queue") h (37 ∷ (decimal d.0 ++ 32 ∷ (family_text f ++ (codes " bound " ++ decimal n)))) (Queued h d f n) refl k.0 (queued_is h d f n k.1 k.2 k.3)
line_again (Dropped h r f n) k =
    at_is (codes "drop") h (reason_text r ++ 32 ∷ (family_text f ++ (codes " bound " ++ decimal n))) (Dropped h r f n) refl k.0 (dropped_is h r f n k.1 k.2)
line_again (Refused h why) k = at_is (codes "drop") h why (Refused h why) refl k.0 (refused_is h why k.1)
line_again (Advert h d) k = at_is (codes "advert") h (37 ∷ decimal d.0) (Advert h d) refl k.0 (advert_is h d k.1)
line_again (Heard h d) k = at_is (codes "heard") h (37 ∷ decimal d.0) (Heard h d) refl k.0 (heard_is h d k.1)
line_again (Ticked h now) k = at_is (codes "tick") h (codes "now " ++ decimal now) (Ticked h now) refl k.0 (ticked_is h now k.1)
line_again (Sent h d x) k = at_is (codes "send") h (37 ∷ (decimal d.0 ++ 32 ∷ what_text x)) (Sent h d x) refl k.0 (sent_is h d x k.1 k.2)
line_again (Wire n) k = wire_is n k
line_again (WireShown n hex) k = shown_is n hex k.0 k.1
line_again (Off n) k = off_is n k
line_again (Again n) k = again_is n k
line_again (Lost f n) k = lost_is f n k.0 k.1
line_again LostAdvert k = lost_advert_is
line_again Nothing k = nothing_is

pub entry_again : (e : Entry) → IsEntry e → guessed_entry (entry_text e) ≡ e
unfolding guessed_entry entry_text
entry_again e k = rw (number_first e.event (line_text e.line) k.event, behind_number e.event (line_text e.line) k.event, line_again e.line k.line) refl

-- what was taken apart, where it is written so
pub only_entry : (line : List ℕ) (e : Entry) (same : Bool) → e ≡ guessed_entry line → same ≡ bytes_eq (entry_text e) line → same ≡ true → IsReadAs line e
only_entry line e same g t holds =
    record { text = (bytes_eq-Decides (entry_text e) line).0 (sym t ∙ holds); only = λ x k s. sym (entry_again x k) ∙ ap guessed_entry s ∙ sym g }

-- and where it isn't, the line is no entry
pub no_entry : (line : List ℕ) (e : Entry) (same : Bool) → e ≡ guessed_entry line → same ≡ bytes_eq (entry_text e) line → same ≡ false → IsNoEntry line
no_entry line e same g t fails x k s =
    let is : e ≡ x = g ∙ ap guessed_entry (sym s) ∙ entry_again x k in
    true_not same (t ∙ (bytes_eq-Decides (entry_text e) line).1 (ap entry_text is ∙ s)) fails
  where
    true_not : (x : Bool) → x ≡ true → x ≡ false → ⊥
    true_not true a b = absurd cc
    true_not false a b = absurd cc

-- nor is one that isn't UTF-8
pub no_text : (line : List ℕ) → (IsUtf8 line → ⊥) → IsNoEntry line
no_text line other x k s = other (subst IsUtf8 s k.text)
