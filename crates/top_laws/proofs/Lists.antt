-- Segments in a row, with others between them.
use Rattle.std.proofs.Common.{◌≡◌, ℕ, ◌<◌, Bool, List, [], ◌∷◌, ◌++◌, length, refl, sym, ap, ◌∙◌, arith, append_assoc}
use Rattle.std.specs.List.{flat_map}
use Rattle.plan_lexer.specs.declared.token.TokenKind.{TokenKind}
use Rattle.plan_printer_spec.specs.Pieces.{listed_pieces}
use Rattle.program_text_laws.specs.Lexes.{Lexes}
use Rattle.top_laws.proofs.Segments.{begins, calm, anything, Part, ◌>>◌}
use Rattle.top_laws.proofs.Glue.{is_text}

-- each item is a segment
abbrev pub AllParts : {X : Type 0} → (ℕ → Bool) → (X → List ℕ) → (X → List TokenKind) → List X → Type 0
AllParts to f g [] = Unit {0}
AllParts to f g (x ∷ xs) = Part begins to (f x) (g x) × AllParts to f g xs

four : {A : Type 0} (a b c d : List A) → a ++ (b ++ (c ++ d)) ≡ (a ++ (b ++ c)) ++ d
four a b c d = sym (append_assoc a (b ++ c) d ∙ ap (λ s. a ++ s) (append_assoc b c d))

module _ {X : Type 0} (f : X → List ℕ) (g : X → List TokenKind) (between : List ℕ) (sep : List TokenKind) (B : Part calm begins between sep)
    (close : List ℕ) (shut : List TokenKind) {to : ℕ → Bool} (C : Part calm to close shut) where
  further : (xs : List X) → AllParts calm f g xs → Part calm to (listed_pieces between between f xs ++ close) (listed_pieces sep sep g xs ++ shut)
  further [] h = C
  further (x ∷ xs) h = is_text (B >> (h.0 >> further xs h.1)) (four between (f x) (listed_pieces between between f xs) close) (four sep (g x) (listed_pieces sep sep g xs) shut)

  pub some_listed : (xs : List X) → 0 < length xs → AllParts calm f g xs → Part begins to (listed_pieces between [] f xs ++ close) (listed_pieces sep [] g xs ++ shut)
  some_listed [] n h = absurd (omega arith)
  some_listed (x ∷ xs) n h = is_text (h.0 >> further xs h.1) (sym (append_assoc (f x) (listed_pieces between between f xs) close)) (sym (append_assoc (g x) (listed_pieces sep sep g xs) shut))

  pub all_listed : Part begins to close shut → (xs : List X) → AllParts calm f g xs → Part begins to (listed_pieces between [] f xs ++ close) (listed_pieces sep [] g xs ++ shut)
  all_listed D [] h = D
  all_listed D (x ∷ xs) h = some_listed (x ∷ xs) (omega arith) h

-- lines before a text
pub lines_lex : {X : Type 0} (f : X → List ℕ) (g : X → List TokenKind) (xs : List X) → AllParts anything f g xs → (rest : List ℕ) (more : List TokenKind)
    → Lexes rest more → Lexes (flat_map f xs ++ rest) (flat_map g xs ++ more)
lines_lex f g [] h rest more l = l
lines_lex f g (x ∷ xs) h rest more l =
    rw (append_assoc (f x) (flat_map f xs) rest, append_assoc (g x) (flat_map g xs) more) (h.0.reads (flat_map f xs ++ rest) (flat_map g xs ++ more) refl (lines_lex f g xs h.1 rest more l))
