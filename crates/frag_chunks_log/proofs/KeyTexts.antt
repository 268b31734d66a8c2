-- The lines of keys, one key after the other.
use Rattle.std.proofs.Common.{◌≡◌, ℕ, ℤ, zero, suc, ◌+◌, ◌<◌, ◌≤◌, List, [], ◌∷◌, ◌++◌, length, drop, Some, refl, sym, ◌∙◌, ap, arith, append_assoc, append-nil}
use Rattle.std.specs.Prelude.{slice_get}
use Rattle.frag_chunks.specs.declared.holding.Entry.{Entry}
use Rattle.frag_chunks.specs.declared.gather.Held.{Held}
use Rattle.frag_chunks.specs.Places.{entry_held}
use Rattle.frag_chunks.specs.Gathers.{held_of}
use Rattle.frag_chunks_log.specs.Texts.{held_line, keys_text}
use Rattle.plan_base.specs.Trees.{trees}
use Rattle.plan_base.specs.declared.tree.Value.{out-Value, Value-F}
use Rattle.plan_base.specs.declared.tree.Value.TheVariants as value
use Rattle.plan_printer.proofs.ValueLaws.{value_text_out}
use Rattle.plan_printer_spec.specs.Literals.{int_text}
use Rattle.plan_printer_spec.specs.Printed.{value_text, value_text_level, chunk_text}

int_level : (key : ℤ) → out-Value (value.Int key) ≡ Value-F.Int key
int_level key = grind (arith, trees)

-- an int is printed as its number
pub int_printed : (key : ℤ) → value_text (value.Int key) ≡ int_text key
int_printed key = value_text_out (value.Int key) ∙ ap (value_text_level value_text chunk_text) (int_level key)

next_key : (es : List Entry) (i : ℕ) (h : Held) → i < length es → Some h ≡ entry_held (slice_get es i) → keys_text (drop i es) ≡ held_line h ++ keys_text (drop (suc i) es)
next_key [] i h l e = absurd (omega (arith, l))
next_key (x ∷ es) zero h l e = let s : h ≡ held_of x.key x.holding = cc in ap (λ y. held_line y ++ keys_text es) (sym s)
next_key (x ∷ es) (suc i) h l e = next_key es i h (omega (arith, l)) e

pub key_put : (es : List Entry) (i : ℕ) (h : Held) (old mid new : List ℕ) → i < length es → Some h ≡ entry_held (slice_get es i)
    → mid ++ keys_text (drop i es) ≡ old ++ keys_text es → new ≡ mid ++ held_line h → new ++ keys_text (drop (i + 1) es) ≡ old ++ keys_text es
key_put es i h old mid new l e before x =
    let n : i + 1 ≡ suc i = omega arith in
    ap (λ m. new ++ keys_text (drop m es)) n
    ∙ ap (λ t. t ++ keys_text (drop (suc i) es)) x ∙ append_assoc mid (held_line h) (keys_text (drop (suc i) es))
    ∙ ap (λ t. mid ++ t) (sym (next_key es i h l e)) ∙ before

no_keys : (es : List Entry) (i : ℕ) → length es ≤ i → keys_text (drop i es) ≡ []
no_keys [] zero l = refl
no_keys [] (suc i) l = refl
no_keys (x ∷ es) zero l = absurd (omega (arith, l))
no_keys (x ∷ es) (suc i) l = no_keys es i (omega (arith, l))

pub keys_put : (es : List Entry) (i : ℕ) (old new : List ℕ) → length es ≤ i → new ++ keys_text (drop i es) ≡ old ++ keys_text es → new ≡ old ++ keys_text es
keys_put es i old new l x = sym (append-nil new) ∙ ap (λ t. new ++ t) (sym (no_keys es i l)) ∙ x
