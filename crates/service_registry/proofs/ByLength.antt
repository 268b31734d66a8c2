-- Services by the lengths of their names.
use Rattle.std.proofs.Common.{◌≡◌, ◌≢◌, ℕ, ◌==◌, Bool, true, false, if◌then◌else◌, List, [], ◌∷◌, length, Option, Some, None, refl, sym, ap, ◌∙◌, arith}
use Rattle.std.specs.Str.{bytes_eq}
use Rattle.std.proofs.lemmas.Slice.Eq.{bytes_eq-Decides}
use Rattle.std.proofs.lemmas.Bool.Decides.{nat_tests}
use Rattle.containers.proofs.Bools.{not_true}
use Rattle.service_registry_spec.specs.declared.service.Service.{Service}
use Rattle.service_registry_spec.specs.declared.service.Service.TheVariants.{ThisHost, ThisHostIs, GetRb, GetSource, GetNeighbors, GetDist, NextHop, Put, Get, Remove, GenerateKey, Print, Deliver}
use Rattle.service_registry_spec.specs.Offered.{all_services, name_of, service_named}

-- those whose names are so long
abbrev pub as_long : ℕ → List Service → List Service
as_long n [] = []
as_long n (s ∷ ss) = if length (name_of s) == n then s ∷ as_long n ss else as_long n ss

apart : (a n : ℕ) → n ≢ a → (a == n) ≡ false
apart a n h = grind (arith, nat_tests)

other_name : (s : Service) (name : List ℕ) (n : ℕ) → length name ≡ n → (length (name_of s) == n) ≡ false → bytes_eq (name_of s) name ≡ false
other_name s name n long e = not_true (bytes_eq (name_of s) name) (λ same.
    let is : length (name_of s) ≡ length name = ap length ((bytes_eq-Decides (name_of s) name).0 same) in
    grind (arith, nat_tests))

pub by_length : (ss : List Service) (name : List ℕ) (n : ℕ) → length name ≡ n → service_named ss name ≡ service_named (as_long n ss) name
by_length [] name n long = refl
by_length (s ∷ ss) name n long = step (by_length ss name n long) (length (name_of s) == n) refl
  where
    step : service_named ss name ≡ service_named (as_long n ss) name → (t : Bool) → (length (name_of s) == n) ≡ t
        → service_named (s ∷ ss) name ≡ service_named (if t then s ∷ as_long n ss else as_long n ss) name
    step ih true e = ap (λ (o : Option Service). if bytes_eq (name_of s) name then Some s else o) ih
    step ih false e = rw (other_name s name n long e) ih

pub long_3 : (name : List ℕ) → length name ≡ 3 → service_named (Put ∷ Get ∷ []) name ≡ service_named all_services name
long_3 name long = sym (by_length all_services name 3 long)

pub long_5 : (name : List ℕ) → length name ≡ 5 → service_named (GetRb ∷ Print ∷ []) name ≡ service_named all_services name
long_5 name long = sym (by_length all_services name 5 long)

pub long_6 : (name : List ℕ) → length name ≡ 6 → service_named (Remove ∷ []) name ≡ service_named all_services name
long_6 name long = sym (by_length all_services name 6 long)

pub long_7 : (name : List ℕ) → length name ≡ 7 → service_named (GetDist ∷ NextHop ∷ Deliver ∷ []) name ≡ service_named all_services name
long_7 name long = sym (by_length all_services name 7 long)

pub long_8 : (name : List ℕ) → length name ≡ 8 → service_named (ThisHost ∷ []) name ≡ service_named all_services name
long_8 name long = sym (by_length all_services name 8 long)

pub long_9 : (name : List ℕ) → length name ≡ 9 → service_named (GetSource ∷ []) name ≡ service_named all_services name
long_9 name long = sym (by_length all_services name 9 long)

pub long_10 : (name : List ℕ) → length name ≡ 10 → service_named (ThisHostIs ∷ []) name ≡ service_named all_services name
long_10 name long = sym (by_length all_services name 10 long)

pub long_11 : (name : List ℕ) → length name ≡ 11 → service_named (GenerateKey ∷ []) name ≡ service_named all_services name
long_11 name long = sym (by_length all_services name 11 long)

pub long_12 : (name : List ℕ) → length name ≡ 12 → service_named (GetNeighbors ∷ []) name ≡ service_named all_services name
long_12 name long = sym (by_length all_services name 12 long)

skip : (s : Service) (ss : List Service) (n : ℕ) → n ≢ length (name_of s) → as_long n ss ≡ [] → as_long n (s ∷ ss) ≡ []
skip s ss n h none = rw (apart (length (name_of s)) n h) none

-- no service has a name of another length
pub long_other : (name : List ℕ) → length name ≢ 3 → length name ≢ 5 → length name ≢ 6 → length name ≢ 7 → length name ≢ 8 → length name ≢ 9 → length name ≢ 10 → length name ≢ 11 → length name ≢ 12
    → service_named all_services name ≡ None
long_other name a b c d e f g h i =
    let n = length name in
    let none_12 = skip Deliver ([]) n d refl in
    let none_11 = skip Print (Deliver ∷ []) n b none_12 in
    let none_10 = skip GenerateKey (Print ∷ Deliver ∷ []) n h none_11 in
    let none_9 = skip Remove (GenerateKey ∷ Print ∷ Deliver ∷ []) n c none_10 in
    let none_8 = skip Get (Remove ∷ GenerateKey ∷ Print ∷ Deliver ∷ []) n a none_9 in
    let none_7 = skip Put (Get ∷ Remove ∷ GenerateKey ∷ Print ∷ Deliver ∷ []) n a none_8 in
    let none_6 = skip NextHop (Put ∷ Get ∷ Remove ∷ GenerateKey ∷ Print ∷ Deliver ∷ []) n d none_7 in
    let none_5 = skip GetDist (NextHop ∷ Put ∷ Get ∷ Remove ∷ GenerateKey ∷ Print ∷ Deliver ∷ []) n d none_6 in
    let none_4 = skip GetNeighbors (GetDist ∷ NextHop ∷ Put ∷ Get ∷ Remove ∷ GenerateKey ∷ Print ∷ Deliver ∷ []) n i none_5 in
    let none_3 = skip GetSource (GetNeighbors ∷ GetDist ∷ NextHop ∷ Put ∷ Get ∷ Remove ∷ GenerateKey ∷ Print ∷ Deliver ∷ []) n f none_4 in
    let none_2 = skip GetRb (GetSource ∷ GetNeighbors ∷ GetDist ∷ NextHop ∷ Put ∷ Get ∷ Remove ∷ GenerateKey ∷ Print ∷ Deliver ∷ []) n b none_3 in
    let none_1 = skip ThisHostIs (GetRb ∷ GetSource ∷ GetNeighbors ∷ GetDist ∷ NextHop ∷ Put ∷ Get ∷ Remove ∷ GenerateKey ∷ Print ∷ Deliver ∷ []) n g none_2 in
    let none_0 = skip ThisHost (ThisHostIs ∷ GetRb ∷ GetSource ∷ GetNeighbors ∷ GetDist ∷ NextHop ∷ Put ∷ Get ∷ Remove ∷ GenerateKey ∷ Print ∷ Deliver ∷ []) n e none_1 in
    by_length all_services name n refl ∙ ap (λ ss. service_named ss name) none_0
