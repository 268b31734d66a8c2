-- How the hosts of a line follow each other.
use Rattle.std.proofs.Common.{◌≡◌, ℕ, ◌<◌, Bool, true, false, ltb, List, [], ◌∷◌, ◌++◌, length, Option, Some, None, Result, Ok, refl, sym, ap, ◌∙◌, arith}
use Rattle.std.specs.Option.{ok_or}
use Rattle.plan_base.specs.declared.ids.Host.{Host}
use Rattle.network_config.specs.Hosts.{host_of}
use Rattle.line_reader.specs.declared.fault.LineReason.{LineReason}
use Rattle.line_reader.specs.declared.fault.LineReason.TheVariants.{BadNumber, TooMany, BadArgument}
use Rattle.line_reader.specs.declared.fault.LineError.{LineError}
use Rattle.line_reader.specs.declared.fault.LineError.TheVariants as stops
use Rattle.line_reader.specs.Reads.{◌>>=◌, has_word, allowed_or_reason, Fails}
use Rattle.line_reader.specs.Numbers.{number_in, number_at}
use Rattle.line_reader.specs.HostLists.{is_above, host_more, hosts_from}

last_step : (t u : Bool) (next : List Host) (ws : List (List ℕ)) (x : List Host × List (List ℕ)) → (allowed_or_reason t TooMany >>= λ _. allowed_or_reason u BadArgument >>= λ _. Ok (next, ws)) ≡ Ok x → ws ≡ x.1
last_step true true next ws x e = cc
last_step true false next ws x e = absurd cc
last_step false u next ws x e = absurd cc

abbrev with_rest : List (List ℕ) → ℕ → Result (ℕ × List (List ℕ)) LineReason
with_rest ws n = Ok (n, ws)

number_step : (o : Option ℕ) (t : Bool) (u : ℕ → Bool) (seen : List Host) (ws : List (List ℕ)) (x : List Host × List (List ℕ))
    → (ok_or o BadNumber >>= with_rest ws >>= λ n. allowed_or_reason t TooMany >>= λ _. allowed_or_reason (u n.0) BadArgument >>= λ _. Ok (seen ++ host_of n.0 ∷ [], n.1)) ≡ Ok x → ws ≡ x.1
number_step None t u seen ws x e = absurd cc
number_step (Some n) t u seen ws x e = last_step t (u n) (seen ++ host_of n ∷ []) ws x e

rest_is : (seen : List Host) (w : List ℕ) (ws : List (List ℕ)) (x : List Host × List (List ℕ)) → host_more seen (w ∷ ws) ≡ Ok x → ws ≡ x.1
unfolding host_more number_at
rest_is seen w ws x e = number_step (number_in 0 4294967295 w) (ltb (length seen) 32) (is_above seen) seen ws x e

no_word : (seen : List Host) (x : List Host × List (List ℕ)) → host_more seen [] ≡ Ok x → ⊥
unfolding host_more number_at
no_word seen x e = cc

next_is : (seen : List Host) (ws : List (List ℕ)) (x : List Host × List (List ℕ)) → host_more seen ws ≡ Ok x → hosts_from seen ws ≡ hosts_from x.0 x.1
unfolding hosts_from
next_is seen [] x e = absurd (no_word seen x e)
next_is seen (w ∷ ws) x e = rw e (ap (λ (r : List (List ℕ)). hosts_from x.0 r) (rest_is seen w ws x e))

-- behind a host come the others
pub hosts_next : (seen next : List Host) (ws rest : List (List ℕ)) (total : Result (List Host) LineReason) → host_more seen ws ≡ Ok (next, rest) → hosts_from seen ws ≡ total → hosts_from next rest ≡ total
hosts_next seen next ws rest total e so_far = sym (next_is seen ws (next, rest) e) ∙ so_far

shorter_is : (seen : List Host) (ws : List (List ℕ)) (x : List Host × List (List ℕ)) → host_more seen ws ≡ Ok x → length x.1 < length ws
shorter_is seen [] x e = absurd (no_word seen x e)
shorter_is seen (w ∷ ws) x e = omega (arith, ap (λ (r : List (List ℕ)). length r) (rest_is seen w ws x e))

-- a host takes a word
pub hosts_shorter : (seen next : List Host) (ws rest : List (List ℕ)) → host_more seen ws ≡ Ok (next, rest) → length rest < length ws
hosts_shorter seen next ws rest e = shorter_is seen ws (next, rest) e

-- a host that is refused
pub hosts_stop : (seen : List Host) (ws : List (List ℕ)) (e : LineError) → has_word ws ≡ true → Fails e (host_more seen ws) → Fails e (hosts_from seen ws)
unfolding hosts_from
hosts_stop seen ws stops.NoMemory h f = tt
hosts_stop seen [] (stops.Reason r) h f = absurd cc
hosts_stop seen (w ∷ ws) (stops.Reason r) h f = rw f refl

-- no host more
pub hosts_done : (seen : List Host) (ws : List (List ℕ)) → has_word ws ≡ false → hosts_from seen ws ≡ Ok seen
unfolding hosts_from
hosts_done seen [] h = refl
hosts_done seen (w ∷ ws) h = absurd cc
