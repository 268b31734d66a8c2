-- The first accepted frame that doesn't fit, one frame after the other.
use Rattle.std.proofs.Common.{◌≡◌, ℕ, suc, ◌+◌, ◌<◌, ◌≤◌, true, false, if◌then◌else◌, List, [], ◌∷◌, ◌++◌, length, take, drop, get_or, Option, Some, None, refl, sym, ap, subst, ◌∙◌, arith}
use Rattle.std.specs.Prelude.{min, nat_lt}
use Rattle.std.proofs.lemmas.Grind.{take_at_read}
use Rattle.std.proofs.lemmas.List.{drop_more, drop_all, length-map, length-take-le}
use Rattle.std.proofs.lemmas.Bool.Decides.{nat_tests}
use Rattle.ledger_audit.specs.Crossings.{Crossing, Over, times, first_over}
use Rattle.ledger_audit.specs.declared.tally.SendCount.{SendCount}
use Rattle.ledger_audit.specs.declared.tally.Tallies.{Tallies}
use Rattle.ledger_audit.specs.declared.reckoning.Arrived.{Arrived}
use Rattle.ledger_audit.specs.Keys.{crossing_of}
use Rattle.ledger_audit.specs.Tallies.{one_accepted, tally_in, Changes, Tallied, AreFew}
use Rattle.ledger_audit.specs.Pasts.{arrival_of, arrivals_of}
use Rattle.ledger_audit.proofs.TallyLaws.{tallied_seen}
use Rattle.ledger_audit.proofs.LimitLaws.{times_few}

-- the crossings of frames, the last one first, before those that were seen
abbrev pub seen_by : List Arrived → List Crossing → List Crossing
seen_by [] s = s
seen_by (a ∷ more) s = seen_by more (crossing_of a.key ∷ s)

abbrev pub seen_crossings : List Arrived → List Crossing
seen_crossings all = seen_by all []

seen_push : (all : List Arrived) (a : Arrived) (s : List Crossing) → seen_by (all ++ a ∷ []) s ≡ crossing_of a.key ∷ seen_by all s
seen_push [] a s = refl
seen_push (x ∷ all) a s = seen_push all a (crossing_of x.key ∷ s)

seen_length : (all : List Arrived) (s : List Crossing) → length (seen_by all s) ≡ length all + length s
seen_length [] s = omega arith
seen_length (x ∷ all) s = omega (arith, seen_length all (crossing_of x.key ∷ s))

seen_next : (all : List Arrived) (i : ℕ) (a : Arrived) → i < length all → a ≡ get_or all i a → seen_crossings (take (i + 1) all) ≡ crossing_of a.key ∷ seen_crossings (take i all)
seen_next all i a l is = ap seen_crossings ((take_at_read all i a l).1 ∙ ap (λ b. take i all ++ b ∷ []) (sym is)) ∙ seen_push (take i all) a []

-- what is judged is as what is left to be judged, behind those that were seen
pub record Judging (sent : List Crossing) (all : List Arrived) (i : ℕ) (t : Tallies) : Type 0 where
  pub counted : Tallied sent (seen_crossings (take i all)) t
  pub same : first_over sent [] (arrivals_of all) ≡ first_over sent (seen_crossings (take i all)) (arrivals_of (drop i all))

pub judging_none : (sent : List Crossing) (all : List Arrived) (t : Tallies) → Tallied sent [] t → Judging sent all 0 t
judging_none sent all t h = record { counted = h; same = refl }

module _ (sent : List Crossing) (all : List Arrived) (few : AreFew sent (arrivals_of all)) (i : ℕ) (a : Arrived) (old new : Tallies) (l : i < length all) (is : a ≡ get_or all i a) (j : Judging sent all i old) (t : SendCount) where
  abbrev pub now : List Crossing
  now = seen_crossings (take i all)

  abbrev pub c : Crossing
  c = crossing_of a.key

  left_from_here : drop i all ≡ a ∷ drop (i + 1) all
  left_from_here = drop_more all i a l ∙ ap (λ b. b ∷ drop (i + 1) all) (sym is)

  counts : t ≡ one_accepted (tally_in c old) → t ≡ one_accepted (record { sent = min (times c sent) 4294967295; accepted = min (times c now) 4294967295 })
  counts e = e ∙ ap one_accepted (j.counted c)

  -- neither count stands still
  sent_is : t ≡ one_accepted (tally_in c old) → t.sent ≡ times c sent
  sent_is e =
      let q : t.sent ≡ min (times c sent) 4294967295 = ap (λ x. x.sent) (counts e) in
      omega (arith, q, times_few c sent, few.0)

  accepted_is : t ≡ one_accepted (tally_in c old) → t.accepted ≡ suc (times c now)
  accepted_is e =
      let q : t.accepted ≡ min (min (times c now) 4294967295 + 1) 4294967295 = ap (λ x. x.accepted) (counts e) in
      let n : length now ≡ length (take i all) + 0 = seen_length (take i all) [] in
      omega (arith, q, times_few c now, n, length-take-le i all (omega (arith, l)), l, length-map all arrival_of, few.1)

  -- the frame stands more often than it was sent
  pub judging_over : t ≡ one_accepted (tally_in c old) → t.sent < t.accepted
      → ◌≡◌ {A = Option Over} (Some (record { log = a.log; event = a.event; accepted = t.accepted; sent = t.sent })) (first_over sent [] (arrivals_of all))
  judging_over e less =
      let s = sent_is e in
      let b = accepted_is e in
      let test : nat_lt (times c sent) (suc (times c now)) ≡ true = (let m : times c sent < suc (times c now) = omega (arith, less, s, b) in grind (arith, nat_tests)) in
      sym (j.same ∙ ap (λ r. first_over sent now (arrivals_of r)) left_from_here
      ∙ ap (λ x. if x then Some (record { log = a.log; event = a.event; accepted = suc (times c now); sent = times c sent }) else first_over sent (c ∷ now) (arrivals_of (drop (i + 1) all))) test
      ∙ (λ k. Some (record { log = a.log; event = a.event; accepted = sym b k; sent = sym s k })))

  -- it doesn't
  pub judging_next : t ≡ one_accepted (tally_in c old) → t.accepted ≤ t.sent → Changes one_accepted c old new → Judging sent all (i + 1) new
  judging_next e no_less changes =
      let s = sent_is e in
      let b = accepted_is e in
      let test : nat_lt (times c sent) (suc (times c now)) ≡ false = (let m : suc (times c now) ≤ times c sent = omega (arith, no_less, s, b) in grind (arith, nat_tests)) in
      record {
        counted = subst (λ w. Tallied sent w new) (sym (seen_next all i a l is)) (tallied_seen sent now c old new j.counted changes);
        same = j.same ∙ ap (λ r. first_over sent now (arrivals_of r)) left_from_here
            ∙ ap (λ x. if x then Some (record { log = a.log; event = a.event; accepted = suc (times c now); sent = times c sent }) else first_over sent (c ∷ now) (arrivals_of (drop (i + 1) all))) test
            ∙ ap (λ w. first_over sent w (arrivals_of (drop (i + 1) all))) (sym (seen_next all i a l is));
      }

-- none is left
pub judging_all : (sent : List Crossing) (all : List Arrived) (i : ℕ) (t : Tallies) → length all ≤ i → Judging sent all i t → ◌≡◌ {A = Option Over} None (first_over sent [] (arrivals_of all))
judging_all sent all i t l j = sym (j.same ∙ ap (λ r. first_over sent (seen_crossings (take i all)) (arrivals_of r)) (drop_all i all l))
