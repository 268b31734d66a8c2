-- Frames with numbers that ascend have different bytes.
use Rattle.std.proofs.Common.{◌≡◌, ℕ, suc, ◌<◌, ◌≤◌, Bool, true, false, if◌then◌else◌, List, [], ◌∷◌, ◌++◌, Some, Result, Ok, refl, sym, ap, subst, ◌∙◌, arith}
use Rattle.std.specs.Prelude.{All}
use Rattle.std.specs.List.{AllByRecursion}
use Rattle.std.specs.Str.{bytes_eq}
use Rattle.std.proofs.lemmas.Slice.Eq.{bytes_eq-Decides}
use Rattle.std.proofs.lemmas.List.Elements.{All-head, All-tail}
use Rattle.plan_base.specs.declared.stamp.Stamp.{Stamp}
use Rattle.packet_frame.specs.declared.frame.PlainStamped.{PlainStamped}
use Rattle.packet_frame.specs.declared.fault.FrameFault.{FrameFault}
use Rattle.packet_frame.specs.Stamped.{stamped_bytes}
use Rattle.packet_frame.specs.Decoding.{read_by}
use Rattle.node_core_spec.specs.Numbers.{link_in, numbers_in, Ascend}
use Rattle.ledger_audit.specs.Audits.{version_in}
use Rattle.ledger_audit.proofs.Takings.{IsStamped, Reads}

-- how many frames have these bytes
abbrev pub count : List ℕ → List PlainStamped → ℕ
count bytes [] = 0
count bytes (x ∷ xs) = if bytes_eq bytes (stamped_bytes x) then suc (count bytes xs) else count bytes xs

-- frames of the same bytes are the same
same_frame : (x y : PlainStamped) → Reads x → Reads y → stamped_bytes x ≡ stamped_bytes y → x ≡ y
same_frame x y rx ry e = let q : ◌≡◌ {A = Result PlainStamped FrameFault} (Ok x) (Ok y) = sym rx ∙ ap (λ b. read_by (version_in b) b) e ∙ ry in cc

all_right : (P : ℕ → Type 0) (xs ys : List ℕ) → All P (xs ++ ys) → All P ys
all_right P [] ys a = a
all_right P (x ∷ xs) ys a = all_right P xs ys (All-tail P x (xs ++ ys) a)

-- none behind a frame has its bytes
none_behind : (bytes : List ℕ) (x : PlainStamped) (stamp : Stamp) (xs : List PlainStamped) → x.stamp ≡ Some stamp → bytes ≡ stamped_bytes x → Reads x → AllByRecursion Reads xs
    → All (λ m. stamp.link < m) (numbers_in xs) → count bytes xs ≡ 0
none_behind bytes x stamp [] e is r rs a = refl
none_behind bytes x stamp (y ∷ xs) e is r rs a =
    by (none_behind bytes x stamp xs e is r rs.1 (all_right (λ m. stamp.link < m) (link_in y.stamp) (numbers_in xs) a)) (bytes_eq bytes (stamped_bytes y)) refl
  where
    by : count bytes xs ≡ 0 → (t : Bool) → bytes_eq bytes (stamped_bytes y) ≡ t → (if t then suc (count bytes xs) else count bytes xs) ≡ 0
    by z false t = z
    by z true t =
        let b : stamped_bytes x ≡ stamped_bytes y = sym is ∙ (bytes_eq-Decides bytes (stamped_bytes y)).0 t in
        let s : y.stamp ≡ Some stamp = sym (ap (λ z. z.stamp) (same_frame x y r rs.0 b)) ∙ e in
        let l : All (λ m. stamp.link < m) (stamp.link ∷ numbers_in xs) = subst (λ o. All (λ m. stamp.link < m) (link_in o ++ numbers_in xs)) s a in
        absurd (omega (arith, All-head (λ m. stamp.link < m) stamp.link (numbers_in xs) l))

pub counted_once : (bytes : List ℕ) (xs : List PlainStamped) → AllByRecursion IsStamped xs → AllByRecursion Reads xs → Ascend (numbers_in xs) → count bytes xs ≤ 1
counted_once bytes [] s r a = omega arith
counted_once bytes (x ∷ xs) s r a =
    let b : Ascend (s.0.0.link ∷ numbers_in xs) = subst (λ o. Ascend (link_in o ++ numbers_in xs)) s.0.1 a in
    by (counted_once bytes xs s.1 r.1 b.1) (bytes_eq bytes (stamped_bytes x)) refl b
  where
    by : count bytes xs ≤ 1 → (t : Bool) → bytes_eq bytes (stamped_bytes x) ≡ t → Ascend (s.0.0.link ∷ numbers_in xs) → (if t then suc (count bytes xs) else count bytes xs) ≤ 1
    by k true t b =
        let z = none_behind bytes x s.0.0 xs s.0.1 ((bytes_eq-Decides bytes (stamped_bytes x)).0 t) r.0 r.1 b.0 in
        omega (arith, z)
    by k false t b = k
