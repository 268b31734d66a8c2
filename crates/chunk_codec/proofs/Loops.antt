use Rattle.std.proofs.Common.{◌≡◌, ℕ, suc, ◌+◌, ◌-◌, ◌<◌, ◌≤◌, List, [], ◌∷◌, ◌++◌, Result, Ok, Err, sym, ◌∙◌, ap, arith}
use Rattle.containers.specs.Reading.{many}
use Rattle.containers.proofs.ReadingLists.{with_front, many_stops, many_goes_on, many_done}
use Rattle.chunk_codec_spec.specs.declared.fault.SpellFault.{SpellFault}
use Rattle.chunk_codec_spec.specs.declared.fault.SpellFault.TheVariants.{Truncated, BadTag, BadName, BadUtf8, OverLimit, NoMemory}
use Rattle.chunk_codec_spec.specs.Scan.{Scan, Reader}
use Rattle.chunk_codec.specs.Reading.{Fails}

-- what the reader of a list refuses is what the list refuses
pub fails_on : {A B : Type 0} (e : SpellFault) (r : Result A SpellFault) (q : Result B SpellFault) → (r ≡ Err e → q ≡ Err e) → Fails e r → Fails e q
fails_on (Truncated _) r q h k = h k
fails_on (BadTag _) r q h k = h k
fails_on (BadName _) r q h k = h k
fails_on (BadUtf8 _) r q h k = h k
fails_on (OverLimit _ _) r q h k = h k
fails_on NoMemory r q h k = tt

module _ {A : Type 0} (one : Reader A) (xs : List A) (count k : ℕ) (s : Scan) (start : Result (List A × Scan) SpellFault) where
  -- one of the list is refused
  pub loop_fails : (e : SpellFault) → k < count → Fails e (one s) → with_front xs (many one (count - k) s) ≡ start → Fails e start
  loop_fails e h f same =
      let more : count - k ≡ suc (count - k - 1) = omega arith in
      fails_on e (one s) start (λ r. sym same ∙ ap (λ n. with_front xs (many one n s)) more ∙ ap (with_front xs) (many_stops one (count - k - 1) s e r)) f

  -- one more is read
  pub loop_goes : (x : A) (g : Scan) → k < count → one s ≡ Ok (x, g) → with_front xs (many one (count - k) s) ≡ start
      → with_front (xs ++ x ∷ []) (many one (count - (k + 1)) g) ≡ start
  loop_goes x g h r same =
      let more : count - k ≡ suc (count - (k + 1)) = omega arith in
      many_goes_on one (count - (k + 1)) s x g xs r ∙ ap (λ n. with_front xs (many one n s)) (sym more) ∙ same

  -- all are read
  pub loop_done : count ≤ k → with_front xs (many one (count - k) s) ≡ start → start ≡ Ok (xs, s)
  loop_done h same =
      let none : count - k ≡ 0 = omega arith in
      sym same ∙ ap (λ n. with_front xs (many one n s)) none ∙ many_done one s xs
