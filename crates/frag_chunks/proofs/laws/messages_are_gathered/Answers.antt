use Rattle.std.proofs.Common.{◌≡◌, ◌⊎◌, ◌≤◌, ◌<◌, ℕ, false, if◌then◌else◌, List, [], length, Some, None, refl, ap, ◌∙◌, arith, inl, inr}
use Rattle.std.specs.Prelude.{ℤ, IsSome, IsTrue}
use Rattle.std.specs.Option.{option_map}
use Rattle.frag_chunks.specs.declared.gather.Held.{Held}
use Rattle.frag_chunks.specs.declared.gather.Held.TheVariants as held
use Rattle.service_api.specs.declared.answer.Note.{Note}
use Rattle.frag_chunks.specs.Parts.{IsMessage, parts_in}
use Rattle.frag_chunks.specs.Gathers.{gathered_entries, holding_of, held_of, joined_pieces, filled_parts}
use Rattle.frag_chunks.specs.Messages.{was_given, given_from, held_now}
use Rattle.frag_chunks.proofs.Pieces.{slots_from, slots_joined, slots_whole, slots_open, slots_filled, slots_length, parts_reach}
use Rattle.frag_chunks.proofs.Gathering.{Came, Ends, notes_end}
use Rattle.frag_chunks.proofs.Gathering.Ends.{Kept, Full, Absent}
use Rattle.frag_chunks.proofs.laws.messages_are_gathered.Goals as goal

kept_only : (port : ℕ) (k : ℤ) (b : List ℕ) (ns : List Note) → Ends port k b ns (gathered_entries port ns []) → IsSome (holding_of k (gathered_entries port ns [])) → holding_of k (gathered_entries port ns []) ≡ Came (was_given port k ns) b
kept_only port k b ns (Kept e) s = e
kept_only port k b ns (Full e l) s = absurd cc
kept_only port k b ns (Absent e f) s = absurd cc

none_only : (port : ℕ) (k : ℤ) (b : List ℕ) (ns : List Note) → Ends port k b ns (gathered_entries port ns []) → holding_of k (gathered_entries port ns []) ≡ None
    → (64 ≤ length (gathered_entries port ns [])) ⊎ ((i : ℕ) → was_given port k ns i ≡ false)
none_only port k b ns (Kept e) s = absurd cc
none_only port k b ns (Full e l) s = inl l
none_only port k b ns (Absent e f) s = inr f

whole : (port : ℕ) (k : ℤ) (b : List ℕ) (ns : List Note) → IsMessage b → holding_of k (gathered_entries port ns []) ≡ Came (was_given port k ns) b
    → ((i : ℕ) → i < parts_in (length b) → IsTrue (was_given port k ns i)) → held_now k (gathered_entries port ns []) ≡ Some (held.Whole k b)
whole port k b ns m e f =
    ap (option_map (held_of k)) e
    ∙ ap (λ t.
    Some (if t then held.Whole k (joined_pieces (slots_from (was_given port k ns) b 0 (parts_in (length b)))) else held.Missing k
    (filled_parts (slots_from (was_given port k ns) b 0 (parts_in (length b)))) (length (slots_from (was_given port k ns) b 0 (parts_in (length b))))))
    (slots_whole (was_given port k ns) b 0 (parts_in (length b)) (λ x l h. f x (omega arith)))
    ∙ ap (λ d. Some (held.Whole k d)) (slots_joined (was_given port k ns) b 0 (parts_in (length b)) (λ x l h. f x (omega arith)) (omega (arith, parts_reach (length b))))

missing : (port : ℕ) (k : ℤ) (b : List ℕ) (ns : List Note) → holding_of k (gathered_entries port ns []) ≡ Came (was_given port k ns) b → (i : ℕ) → i < parts_in (length b)
    → was_given port k ns i ≡ false → held_now k (gathered_entries port ns []) ≡ Some (held.Missing k (given_from (was_given port k ns) 0 (parts_in (length b))) (parts_in (length b)))
missing port k b ns e i l h =
    ap (option_map (held_of k)) e
    ∙ ap (λ t.
    Some (if t then held.Whole k (joined_pieces (slots_from (was_given port k ns) b 0 (parts_in (length b)))) else held.Missing k
    (filled_parts (slots_from (was_given port k ns) b 0 (parts_in (length b)))) (length (slots_from (was_given port k ns) b 0 (parts_in (length b))))))
    (slots_open (was_given port k ns) b 0 (parts_in (length b)) i (omega arith) (omega arith) h)
    ∙ (λ t. Some (held.Missing k (slots_filled (was_given port k ns) b 0 (parts_in (length b)) t) (slots_length (was_given port k ns) b 0 (parts_in (length b)) t)))

pub returns-clause-whole : goal.returns-clause-whole
returns-clause-whole c port k b ns m s f = whole port k b ns m.message (kept_only port k b ns (notes_end port k b ns [] m.message m.parts refl) s) f

pub returns-clause-missing : goal.returns-clause-missing
returns-clause-missing c port k b ns m s i l h = missing port k b ns (kept_only port k b ns (notes_end port k b ns [] m.message m.parts refl) s) i l h

pub returns-clause-room : goal.returns-clause-room
returns-clause-room c port k b ns m e = none_only port k b ns (notes_end port k b ns [] m.message m.parts refl) e
