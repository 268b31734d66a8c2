use Rattle.std.proofs.Common.{◌≡◌, ℕ, ◌+◌, ◌<◌, ◌≤◌, Bool, true, List, [], ◌∷◌, ◌++◌, length, drop, get_or, refl, sym, ◌∙◌, ap, arith, append_assoc, append-nil, length-append}
use Rattle.std.specs.Prelude.{nat_le}
use Rattle.std.specs.List.{flat_map, list_all}
use Rattle.std.proofs.lemmas.List.{drop_more, drop_all}
use Rattle.std.proofs.lemmas.Bool.{leb-true}
use Rattle.std.proofs.lemmas.Bool.Decides.{nat_tests}
use Rattle.containers.proofs.Bools.{both_true}
use Rattle.plan_base.specs.Trees.{trees}
use Rattle.plan_base.specs.Words.{is_word, is_name, IsName}
use Rattle.chunk_codec_spec.proofs.TypeLaws.{type_bytes_out}
use Rattle.chunk_codec_spec.proofs.ExprLaws.{expr_bytes_out}
use Rattle.chunk_codec_spec.proofs.ValueLaws.{value_bytes_out}
use Rattle.chunk_codec_spec.proofs.KeptLaws.{type_kept_out, expr_kept_out, value_kept_out}

pub ruleset types = (type_bytes_out, type_kept_out, trees, nat_tests, both_true, length-append, append_assoc)

pub ruleset exprs = (expr_bytes_out, expr_kept_out, trees, nat_tests, both_true, length-append, append_assoc)

pub ruleset values = (value_bytes_out, value_kept_out, trees, nat_tests, both_true, length-append, append_assoc)

pub name_short : (n : List ℕ) → IsName n → length n < 256
unfolding is_name
name_short n h =
    let a = both_true (is_word n) _ h in
    let b = both_true (nat_le (length n) 32) _ a.1 in
    let c = leb-true (length n) 32 b.0 in
    omega (arith, c)

-- what is written is the front of a list, and what is left completes it
pub record Written {X : Type 0} (bytes : X → List ℕ) (kept : X → Bool) (xs : List X) (i : ℕ) (start : List ℕ) (room : ℕ) (now : List ℕ) (left : ℕ) : Type 0 where
  pub all : now ++ flat_map bytes (drop i xs) ≡ start ++ flat_map bytes xs
  pub rooms : left + length (flat_map bytes xs) ≡ room + length (flat_map bytes (drop i xs))
  pub fit : list_all kept (drop i xs) ≡ true

module _ {X : Type 0} (bytes : X → List ℕ) (kept : X → Bool) (xs : List X) where
  pub written_none : (start : List ℕ) (room : ℕ) → list_all kept xs ≡ true → Written bytes kept xs 0 start room start room
  written_none start room h = record { all = refl; rooms = refl; fit = h }

  turn : (i : ℕ) (x : X) → i < length xs → x ≡ get_or xs i x → drop i xs ≡ x ∷ drop (i + 1) xs
  turn i x h e = drop_more xs i x h ∙ ap (λ y. y ∷ drop (i + 1) xs) (sym e)

  pub item_kept : (i : ℕ) (x : X) → i < length xs → x ≡ get_or xs i x → {start : List ℕ} {room : ℕ} {now : List ℕ} {left : ℕ} → Written bytes kept xs i start room now left → kept x ≡ true
  item_kept i x h e w = (both_true (kept x) (list_all kept (drop (i + 1) xs)) (ap (list_all kept) (sym (turn i x h e)) ∙ w.fit)).0

  pub item_room : (i : ℕ) (x : X) → i < length xs → x ≡ get_or xs i x → {start : List ℕ} {room : ℕ} {now : List ℕ} {left : ℕ} → length (flat_map bytes xs) ≤ room → Written bytes kept xs i start room now left
      → length (bytes x) ≤ left
  item_room i x h e {room = room} {left = left} r w =
      let l = length-append (bytes x) (flat_map bytes (drop (i + 1) xs)) in
      let m = ap (λ ys. length (flat_map bytes ys)) (turn i x h e) in
      let n = w.rooms in
      omega (arith, l, m, n, r)

  pub written_more : (i : ℕ) (x : X) → i < length xs → x ≡ get_or xs i x → {start : List ℕ} {room : ℕ} {now : List ℕ} {left : ℕ} → Written bytes kept xs i start room now left
      → {next : List ℕ} {rest : ℕ} → next ≡ now ++ bytes x → rest + length (bytes x) ≡ left → Written bytes kept xs (i + 1) start room next rest
  written_more i x h e {now = now} w {next = next} p q = record {
    all = ap (λ l. l ++ flat_map bytes (drop (i + 1) xs)) p ∙ append_assoc now (bytes x) (flat_map bytes (drop (i + 1) xs)) ∙ ap (λ ys. now ++ flat_map bytes ys) (sym (turn i x h e)) ∙ w.all;
    rooms = (let l = length-append (bytes x) (flat_map bytes (drop (i + 1) xs)) in
        let m = ap (λ ys. length (flat_map bytes ys)) (turn i x h e) in
        let n = w.rooms in
        omega (arith, l, m, n, q));
    fit = (both_true (kept x) (list_all kept (drop (i + 1) xs)) (ap (list_all kept) (sym (turn i x h e)) ∙ w.fit)).1;
  }

  pub written_bytes : (i : ℕ) → length xs ≤ i → {start : List ℕ} {room : ℕ} {now : List ℕ} {left : ℕ} → Written bytes kept xs i start room now left → now ≡ start ++ flat_map bytes xs
  written_bytes i h {now = now} w =
      let none : drop i xs ≡ [] = drop_all i xs h in
      sym (ap (λ ys. now ++ flat_map bytes ys) none ∙ append-nil now) ∙ w.all

  pub written_room : (i : ℕ) → length xs ≤ i → {start : List ℕ} {room : ℕ} {now : List ℕ} {left : ℕ} → Written bytes kept xs i start room now left → left + length (flat_map bytes xs) ≡ room
  written_room i h w =
      let none : drop i xs ≡ [] = drop_all i xs h in
      let m = ap (λ ys. length (flat_map bytes ys)) none in
      let n = w.rooms in
      omega (arith, m, n)

pub all_true : {X : Type 0} (xs : List X) → list_all (λ _. true) xs ≡ true
all_true [] = refl
all_true (x ∷ xs) = all_true xs
