-- What is next of a list of which some items were taken, and what is left behind it.
use Rattle.std.proofs.Common.{◌≡◌, ℕ, zero, suc, ◌+◌, ◌<◌, ◌≤◌, List, [], ◌∷◌, ◌++◌, length, get_or, drop, take, min, Some, slice_get, sym, ◌∙◌, ap, arith}
use Rattle.std.proofs.lemmas.List.{drop_more, drop_all, drop-drop, take_at, take_min, length-take}
use Rattle.node_io.specs.declared.link.Peer.{Peer}
use Rattle.node_io.specs.declared.link.Arrival.{Arrival}
use Rattle.node_io.specs.declared.link.Got.{Got}
use Rattle.node_io.specs.declared.link.Got.TheVariants as got
use Rattle.node_io.specs.Links.{heard_of, next_heard, LinkState, IsHeard, HearResult}

pub next_there : (xs : List ℕ) (i d : ℕ) → i < length xs → get_or xs i 0 ≡ get_or (drop i xs) 0 d
next_there xs i d h = ap (λ l. get_or l 0 d) (sym (drop_more xs i 0 h))

pub rest_next : {X : Type 0} (xs : List X) (i : ℕ) → drop (i + 1) xs ≡ drop 1 (drop i xs)
rest_next xs i = sym (drop-drop 1 i xs)

pub next_none : (xs : List ℕ) (i d : ℕ) → length xs ≤ i → d ≡ get_or (drop i xs) 0 d
next_none xs i d h = ap (λ l. get_or l 0 d) (sym (drop_all i xs h))

pub rest_none : {X : Type 0} (xs : List X) (i : ℕ) → length xs ≤ i → drop i xs ≡ drop 1 (drop i xs)
rest_none xs i h = drop_all i xs h ∙ ap (drop 1) (sym (drop_all i xs h))

-- bytes that were put at the front of others
pub front_put : (bytes rest : List ℕ) (n : ℕ) → n ≡ min (length bytes) 16513 → take n (take n bytes ++ rest) ≡ take 16513 bytes
front_put bytes rest n e =
    let least : n ≡ min 16513 (length bytes) = omega arith in
    take_at (take n bytes) rest n (length-take n bytes ∙ omega arith) ∙ ap (λ m. take m bytes) least ∙ take_min 16513 bytes

next_is : (peers : List Peer) (script : List Arrival) (i : ℕ) (a : Arrival) → i < length script → slice_get script i ≡ Some a → next_heard peers (drop i script) ≡ heard_of peers a
next_is peers [] i a h e = absurd (omega arith)
next_is peers (x ∷ script) zero a h e = let same : x ≡ a = cc in ap (heard_of peers) same
next_is peers (x ∷ script) (suc i) a h e = next_is peers script i a (omega arith) e

-- what is heard of the next entry is what the script gives next
pub hears_next : (script : List Arrival) (i : ℕ) (a : Arrival) (result : Got) (buf : List ℕ) (old new : LinkState) → i < length script → slice_get script i ≡ Some a
    → old.script ≡ drop i script → new.script ≡ drop (i + 1) script → IsHeard old.bound a result buf → HearResult buf old new result
hears_next script i a (got.Frame dev n) buf old new h e f g k = λ seen. (ap (next_heard old.bound) f ∙ next_is old.bound script i a h e ∙ k, g ∙ rest_next script i ∙ ap (drop 1) (sym f))
hears_next script i a got.Nothing buf old new h e f g k = λ seen. (ap (next_heard old.bound) f ∙ next_is old.bound script i a h e ∙ k, g ∙ rest_next script i ∙ ap (drop 1) (sym f))
hears_next script i a got.Failed buf old new h e f g k = absurd k
