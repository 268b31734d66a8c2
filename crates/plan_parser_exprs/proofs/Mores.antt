-- Steps of reading further items, and of lists of lists.
use Rattle.std.proofs.Common.{◌≡◌, ◌+◌, ◌-◌, ◌<◌, ◌≤◌, ℕ, zero, suc, Bool, true, false, List, [], ◌∷◌, ◌++◌, length, length-append, Ok, Err, refl, sym, ◌∙◌, ap, arith}
use Rattle.plan_base.specs.declared.limit.Limit.{Limit}
use Rattle.plan_base.specs.declared.tree.Ty.{Ty}
use Rattle.plan_base.specs.declared.tree.Ty.TheVariants as ty
use Rattle.plan_lexer.specs.declared.token.Symbol.{Symbol}
use Rattle.plan_parser_exprs.specs.declared.fault.ParseFault.{ParseFault}
use Rattle.plan_parser_exprs.specs.declared.fault.Wanted.{Wanted}
use Rattle.plan_parser_exprs.specs.Ahead.{Front, Reader, ◌>>=◌, behind, is_symbol}
use Rattle.plan_parser_exprs.specs.Types.{more, past, lists_of}

-- the next level of a list of lists
pub lists_step : (n k : ℕ) (t : Ty) → k < n → lists_of (n - k) t ≡ lists_of (n - (k + 1)) (ty.List t)
lists_step n k t h = go (n - k) (n - (k + 1)) (omega (arith, h)) t
  where
    go : (a b : ℕ) → a ≡ suc b → (u : Ty) → lists_of a u ≡ lists_of b (ty.List u)
    go a b e u = rw e refl

module _ {A : Type 0} (one : Reader A) (begins : Front → Bool) (sep : Symbol) (limit : Limit) (what : Wanted) where
  pub more_ends : (left : ℕ) (done : List A) (f : Front) → is_symbol sep f ≡ false → more one begins sep limit what left done f ≡ Ok (done, f)
  unfolding more
  more_ends zero done f e = rw e refl
  more_ends (suc left) done f e = rw e refl

  past_zero : (left : ℕ) (done : List A) (f : Front) → left ≡ 0 → is_symbol sep f ≡ true
      → more one begins sep limit what left done f ≡ Err (past begins limit what (behind f))
  unfolding more
  past_zero left done f n e = rw (n, e) refl

  -- the item past the limit is refused
  pub more_past : (most : ℕ) (done : List A) (f : Front) → is_symbol sep f ≡ true → most ≤ length done
      → more one begins sep limit what (most - length done) done f ≡ Err (past begins limit what (behind f))
  more_past most done f here full = past_zero (most - length done) done f (omega (arith, full)) here

  more_goes : (left rest : ℕ) (done : List A) (f : Front) → left ≡ suc rest → is_symbol sep f ≡ true
      → more one begins sep limit what left done f ≡ (one (behind f) >>= λ x. more one begins sep limit what rest (done ++ x.0 ∷ []) x.1)
  unfolding more
  more_goes left rest done f n e = rw (n, e) refl

  -- an item that can't be read ends the reading
  pub more_stops : (most : ℕ) (done : List A) (f : Front) (e : ParseFault) → is_symbol sep f ≡ true → length done < most → one (behind f) ≡ Err e
      → more one begins sep limit what (most - length done) done f ≡ Err e
  more_stops most done f e here within stop =
      more_goes (most - length done) (most - (length done + 1)) done f (omega (arith, within)) here ∙ rw stop refl

  -- an item that is read is added
  pub more_steps : (most : ℕ) (done : List A) (f : Front) (x : A) (g : Front) → is_symbol sep f ≡ true → length done < most → one (behind f) ≡ Ok (x, g)
      → more one begins sep limit what (most - length done) done f ≡ more one begins sep limit what (most - length (done ++ x ∷ [])) (done ++ x ∷ []) g
  more_steps most done f x g here within step =
      more_goes (most - length done) (most - (length done + 1)) done f (omega (arith, within)) here
      ∙ (rw step (ap (λ n. more one begins sep limit what (most - n) (done ++ x ∷ []) g) (sym (length-append done (x ∷ [])))))

-- a room above 0 is one more than the room inside
pub roomier : {B : Type 0} (p : ℕ → B) (n : ℕ) → 0 < n → p n ≡ p (suc (n - 1))
roomier p n h = let e : n ≡ suc (n - 1) = omega (arith, h) in ap p e
