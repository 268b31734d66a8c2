use Rattle.std.proofs.Common.{◌≡◌, ℕ, suc, ◌+◌, ◌-◌, ◌<◌, ◌≤◌, List, [], ◌∷◌, ◌++◌, append_assoc, append-nil, Option, Some, Result, Ok, Err, refl, sym, ◌∙◌, ap, arith}
use Rattle.containers.specs.Reading.{◌>>=◌}
use Rattle.containers.proofs.Binds.{bind_is, bind_err}
use Rattle.containers.proofs.ReadingLists.{with_front}
use Rattle.chunk_codec_spec.specs.Scan.{Scan}
use Rattle.packet_frame.specs.declared.fault.FrameFault.{FrameFault}
use Rattle.service_api.specs.declared.advert.AdvertRow.{AdvertRow}
use Rattle.packet_frame.specs.Fields.{row_host_at, cost_at, rows_from}
use Rattle.packet_frame.specs.Reading.{Fails}

-- what one reading refuses is what another refuses
pub fails_on : {A B : Type 0} (e : FrameFault) (r : Result A FrameFault) (q : Result B FrameFault) → (r ≡ Err e → q ≡ Err e) → Fails e r → Fails e q
fails_on FrameFault.TooLong r q h k = h k
fails_on (FrameFault.Truncated _) r q h k = h k
fails_on FrameFault.BadMagic r q h k = h k
fails_on FrameFault.BadVersion r q h k = h k
fails_on FrameFault.BadKind r q h k = h k
fails_on (FrameFault.Spell _) r q h k = h k
fails_on FrameFault.BoundTooLarge r q h k = h k
fails_on (FrameFault.BadOrder _) r q h k = h k
fails_on (FrameFault.Trailing _) r q h k = h k
fails_on (FrameFault.IllTyped _) r q h k = h k
fails_on FrameFault.IllHandler r q h k = h k
fails_on FrameFault.NoMemory r q h k = tt

module _ (before : Option ℕ) (xs : List AdvertRow) (count k : ℕ) (s : Scan) (start : Result (List AdvertRow × Scan) FrameFault) (same : with_front xs (rows_from before (count - k) s) ≡ start) where
  pub host_fails : (e : FrameFault) → k < count → Fails e (row_host_at before s) → Fails e start
  unfolding rows_from
  host_fails e h f =
      let more : count - k ≡ suc (count - (k + 1)) = omega arith in
      fails_on e (row_host_at before s) start (λ r. sym same ∙ ap (λ n. with_front xs (rows_from before n s)) more ∙ ap (with_front xs) (bind_err _ r)) f

  pub cost_fails : (e : FrameFault) (host : ℕ) (m : Scan) → k < count → row_host_at before s ≡ Ok (host, m) → Fails e (cost_at m) → Fails e start
  unfolding rows_from
  cost_fails e host m h r f =
      let more : count - k ≡ suc (count - (k + 1)) = omega arith in
      fails_on e (cost_at m) start (λ q. sym same ∙ ap (λ n. with_front xs (rows_from before n s)) more ∙ ap (with_front xs) (bind_is _ r (bind_err _ q))) f

  pub rows_go_on : (host cost : ℕ) (m g : Scan) → k < count → row_host_at before s ≡ Ok (host, m) → cost_at m ≡ Ok (cost, g)
      → with_front (xs ++ record { host = record { 0 = host }; cost = cost } ∷ []) (rows_from (Some host) (count - (k + 1)) g) ≡ start
  unfolding rows_from
  rows_go_on host cost m g h r q =
      let n : ℕ = count - (k + 1) in
      let more : count - k ≡ suc n = omega arith in
      front (rows_from (Some host) n g) ∙ ap (with_front xs) (sym (bind_is _ r (bind_is _ q refl))) ∙ ap (λ j. with_front xs (rows_from before j s)) (sym more) ∙ same
    where
      row : AdvertRow
      row = record { host = record { 0 = host }; cost = cost }

      front : (q : Result (List AdvertRow × Scan) FrameFault) → with_front (xs ++ row ∷ []) q ≡ with_front xs (q >>= λ others. Ok (row ∷ others.0, others.1))
      front (Ok y) = ap (λ l. Ok (l, y.1)) (append_assoc xs (row ∷ []) y.0)
      front (Err e) = refl

  pub rows_done : count ≤ k → start ≡ Ok (xs, s)
  unfolding rows_from
  rows_done h =
      let none : count - k ≡ 0 = omega arith in
      sym same ∙ ap (λ n. with_front xs (rows_from before n s)) none ∙ ap (λ l. Ok (l, s)) (append-nil xs)
