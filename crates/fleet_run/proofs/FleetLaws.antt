-- The lines of a fleet, its statuses, and its end.
use Rattle.std.proofs.Common.{◌≡◌, ◌≢◌, ℕ, Bool, true, false, IsTrue, ◌⊎◌, inl, inr, Result, Ok, Err, zero, suc, ◌+◌, ◌<◌, ◌≤◌, ◌==◌, if◌then◌else◌, List, [], ◌∷◌, ◌++◌, length, take, drop, get_or}
use Rattle.std.proofs.Common.{Some, slice_get, refl, sym, ◌∙◌, ap, arith, append-nil, append_assoc}
use Rattle.std.proofs.lemmas.List.{length_push, length-drop, length-map, take_more, drop_more, drop_all, get_or-drop}
use Rattle.std.proofs.lemmas.Option.{slice_get_within, get_or_from_slice_get}
use Rattle.std.proofs.Math.Dec.{eqb-suc-zero}
use Rattle.std.proofs.lemmas.Bool.{eq-eqb}
use Rattle.std.specs.Result.{is_err}
use Rattle.plan_base.specs.declared.ids.Host.{Host}
use Rattle.network_config.specs.declared.fleet.Kid.{Kid}
use Rattle.node_io.specs.Spawners.{Words, SpawnerState}
use Rattle.node_io.specs.declared.spawner.Child.{Child}
use Rattle.fleet_run.specs.Children.{AreStarted}
use Rattle.fleet_run.specs.Runs.{StartsPrefix, StartsAll}
use Rattle.fleet_run.proofs.ChildLaws.{starts_next}
use Rattle.node_io.specs.Sinks.{SinkState, Writes, FailsIn, Puts}
use Rattle.node_io.proofs.SinkLaws.{writes_none, writes_both, writes_as, fails_more, fails_as}
use Rattle.fleet_run.specs.Fleets.{kid_words, kid_line, kid_host, fleet_starts, fleet_text, fleet_end}
use Rattle.fleet_run.specs.declared.reports.FleetEnd.{FleetEnd}
use Rattle.fleet_run.specs.declared.reports.FleetEnd.TheVariants.{Well, Failed}

-- ---- lines

pub text_none : (kids : List Kid) → fleet_text kids [] ≡ []
unfolding fleet_text
text_none [] = refl
text_none (kid ∷ kids) = refl

pub text_more : (kids : List Kid) (ss : List ℕ) (s : ℕ) (d : Kid) → length ss < length kids
    → fleet_text kids (ss ++ s ∷ []) ≡ fleet_text kids ss ++ kid_line (get_or kids (length ss) d) s
unfolding fleet_text
text_more [] ss s d h = absurd (omega (arith, h))
text_more (kid ∷ kids) [] s d h = ap (λ l. kid_line kid s ++ l) (text_none kids) ∙ append-nil (kid_line kid s)
text_more (kid ∷ kids) (t ∷ ss) s d h =
    ap (λ l. kid_line kid t ++ l) (text_more kids ss s d (omega (arith, h))) ∙ sym (append_assoc (kid_line kid t) (fleet_text kids ss) (kid_line (get_or kids (length ss) d) s))

-- statuses past the children give no lines
pub text_enough : (kids : List Kid) (given : List ℕ) → fleet_text kids (take (length kids) given) ≡ fleet_text kids given
unfolding fleet_text
text_enough [] given = refl
text_enough (kid ∷ kids) [] = refl
text_enough (kid ∷ kids) (s ∷ given) = ap (λ l. kid_line kid s ++ l) (text_enough kids given)

-- ---- one line more

module _ (kids : List Kid) (ss more : List ℕ) (s i : ℕ) (kid : Kid) (piece : List ℕ) (count : length ss ≡ i) (inside : i < length kids) (is : kid ≡ get_or kids i kid)
    (line : piece ≡ kid_line kid s) (grown : more ≡ ss ++ s ∷ []) (a b c : SinkState) (before : Writes a b (fleet_text kids ss)) where
  text_next : fleet_text kids ss ++ piece ≡ fleet_text kids more
  text_next =
      let room : length ss < length kids = omega (arith, count, inside) in
      sym (ap (fleet_text kids) grown ∙ text_more kids ss s kid room ∙ ap (λ n. fleet_text kids ss ++ kid_line (get_or kids n kid) s) count ∙ ap (λ k. fleet_text kids ss ++ kid_line k s) (sym is)
      ∙ ap (λ l. fleet_text kids ss ++ l) (sym line))

  pub lines_next : Writes b c piece → Writes a c (fleet_text kids more)
  lines_next w = writes_as a c (fleet_text kids ss ++ piece) (fleet_text kids more) text_next (writes_both a b c (fleet_text kids ss) piece before w)

  pub lines_fail : FailsIn b c piece → FailsIn a c (fleet_text kids more)
  lines_fail f = fails_as a c (fleet_text kids ss ++ piece) (fleet_text kids more) text_next (fails_more a b c (fleet_text kids ss) piece before f)

-- ---- statuses

pub given_none : (n : ℕ) (all ss : List ℕ) → ss ≡ [] → ss ≡ take (length ss) (drop n all)
given_none n all ss e = e ∙ ap (λ l. take (length l) (drop n all)) (sym e)

pub given_next : (n i : ℕ) (all ss more : List ℕ) (s : ℕ) → more ≡ ss ++ s ∷ [] → length ss ≡ i → ss ≡ take (length ss) (drop n all) → slice_get all (n + i) ≡ Some s
    → more ≡ take (length more) (drop n all)
given_next n i all ss more s grown count e k =
    let inside : n + i < length all = slice_get_within all (n + i) s k in
    let room : i < length (drop n all) = omega (arith, inside, length-drop n all) in
    let same : get_or (drop n all) i s ≡ s = get_or-drop n all i s ∙ get_or_from_slice_get all (n + i) s s k in
    let size : length more ≡ i + 1 = ap (λ l. length l) grown ∙ length_push ss s ∙ ap (λ m. m + 1) count in
    grown ∙ ap (λ l. l ++ s ∷ []) e ∙ ap (λ m. take m (drop n all) ++ s ∷ []) count ∙ ap (λ x. take i (drop n all) ++ x ∷ []) (sym same) ∙ sym (take_more (drop n all) i s room)
    ∙ ap (λ m. take m (drop n all)) (sym size)

-- the lines of the given statuses, where there is one of each child
pub whole_given : (kids : List Kid) (given ss old new : List ℕ) → length ss ≡ length kids → ss ≡ take (length ss) given → new ≡ old ++ fleet_text kids ss → new ≡ old ++ fleet_text kids given
whole_given kids given ss old new all e w =
    w ∙ ap (λ l. old ++ fleet_text kids l) (e ∙ ap (λ n. take n given) all) ∙ ap (λ l. old ++ l) (text_enough kids given)

-- ---- ends

well_by : (s : ℕ) (x y : FleetEnd) → s ≡ 0 → (if s == 0 then x else y) ≡ x
well_by s x y e = ap (λ b. if b then x else y) (eq-eqb s 0 e)

failed_by : (s : ℕ) (x y : FleetEnd) → s ≢ 0 → (if s == 0 then x else y) ≡ y
failed_by zero x y ne = absurd (ne refl)
failed_by (suc s) x y ne = ap (λ b. if b then x else y) (eqb-suc-zero s)

end_more : (kids : List Kid) (ss : List ℕ) (i : ℕ) (d : Kid) → i < length kids → i < length ss
    → fleet_end (drop i kids) (drop i ss) ≡ (if get_or ss i 0 == 0 then fleet_end (drop (i + 1) kids) (drop (i + 1) ss) else Failed (kid_host (get_or kids i d)) (get_or ss i 0))
unfolding fleet_end
end_more kids ss i d h k = ap (λ l. fleet_end l (drop i ss)) (drop_more kids i d h) ∙ ap (λ l. fleet_end (get_or kids i d ∷ drop (i + 1) kids) l) (drop_more ss i 0 k)

-- a child that ended well, and one that failed
pub end_well : (kids : List Kid) (ss : List ℕ) (i : ℕ) (kid : Kid) → i < length kids → i < length ss → get_or ss i 0 ≡ 0
    → fleet_end (drop i kids) (drop i ss) ≡ fleet_end (drop (i + 1) kids) (drop (i + 1) ss)
end_well kids ss i kid h k e = end_more kids ss i kid h k ∙ well_by (get_or ss i 0) (fleet_end (drop (i + 1) kids) (drop (i + 1) ss)) (Failed (kid_host (get_or kids i kid)) (get_or ss i 0)) e

pub end_failed : (kids : List Kid) (ss : List ℕ) (i : ℕ) (kid : Kid) (host : Host) → i < length kids → i < length ss → kid ≡ get_or kids i kid → host ≡ kid_host kid → get_or ss i 0 ≢ 0
    → fleet_end (drop i kids) (drop i ss) ≡ Failed host (get_or ss i 0)
end_failed kids ss i kid host h k is of_kid ne =
    end_more kids ss i kid h k ∙ failed_by (get_or ss i 0) (fleet_end (drop (i + 1) kids) (drop (i + 1) ss)) (Failed (kid_host (get_or kids i kid)) (get_or ss i 0)) ne
    ∙ ap (λ x. Failed (kid_host x) (get_or ss i 0)) (sym is) ∙ ap (λ x. Failed x (get_or ss i 0)) (sym of_kid)

pub end_none : (kids : List Kid) (ss : List ℕ) (i : ℕ) → length kids ≤ i → fleet_end (drop i kids) (drop i ss) ≡ Well
unfolding fleet_end
end_none kids ss i h = ap (λ l. fleet_end l (drop i ss)) (drop_all i kids h)

end_enough : (kids : List Kid) (given : List ℕ) → fleet_end kids (take (length kids) given) ≡ fleet_end kids given
unfolding fleet_end
end_enough [] given = refl
end_enough (kid ∷ kids) [] = refl
end_enough (kid ∷ kids) (s ∷ given) = ap (λ e. if s == 0 then e else Failed (kid_host kid) s) (end_enough kids given)

pub end_given : (kids : List Kid) (given ss : List ℕ) (end : FleetEnd) → length ss ≡ length kids → ss ≡ take (length ss) given → end ≡ fleet_end kids ss → end ≡ fleet_end kids given
end_given kids given ss end all e w = w ∙ ap (fleet_end kids) (e ∙ ap (λ n. take n given) all) ∙ end_enough kids given

-- ---- results

-- what a test of a writing says of it
pub put_ok : {T E : Type 0} (bytes : List ℕ) (a b : SinkState) (r : Result T E) (t : Bool) → t ≡ is_err r → t ≡ false → Puts bytes a b r → Writes a b bytes
put_ok bytes a b (Ok x) t e f h = h
put_ok bytes a b (Err y) t e f h = absurd (cc)

pub put_failed : {T E : Type 0} (bytes : List ℕ) (a b : SinkState) (r : Result T E) (t : Bool) → t ≡ is_err r → t ≡ true → Puts bytes a b r → FailsIn a b bytes
put_failed bytes a b (Ok x) t e f h = absurd (cc)
put_failed bytes a b (Err y) t e f h = h

-- no statuses, no lines
pub no_lines : (kids : List Kid) (s : SinkState) → Writes s s (fleet_text kids [])
no_lines kids s = writes_as s s [] (fleet_text kids []) (sym (text_none kids)) (writes_none s)

-- a start that failed: none more was asked, or one
pub starts_cut : (old mid new : SpawnerState) (all : List Words) (i : ℕ) (w : Words) → i < length all → w ≡ get_or all i w
    → (IsTrue old.observable → mid.starts ≡ old.starts ++ take i all) → (new.starts ≡ mid.starts) ⊎ (new.starts ≡ mid.starts ++ w ∷ []) → StartsPrefix all old new
starts_cut old mid new all i w h is before (inl e) = record { count = i; is = λ t. e ∙ before t }
starts_cut old mid new all i w h is before (inr e) = record { count = i + 1; is = λ t. starts_next old.starts mid.starts new.starts all i w h is (before t) e }

-- a child was started for each
pub all_started : {T E : Type 0} (kids : List Kid) (words : List Words) (started : List Child) (old new : SpawnerState) (r : Result T E) (t : Bool) → t ≡ is_err r → t ≡ false → words ≡ fleet_starts kids
    → StartsAll words started old new r → AreStarted kids new.children started
all_started kids words started old new (Ok x) t e f same h = record {
  each = h.did.0 ∙ ap length same ∙ length-map kids kid_words;
  base = old.children;
  apart = h.running;
}
all_started kids words started old new (Err y) t e f same h = absurd (cc)
