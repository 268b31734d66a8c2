-- Notes in order, seen from one key.
use Rattle.std.proofs.Common.{◌≡◌, ◌≢◌, ℕ, ◌≤◌, ◌<◌, Bool, true, false, ◌&&◌, ◌||◌, if◌then◌else◌, List, [], ◌∷◌, length, Option, Some, None, refl, sym, ap, subst, ◌∙◌, arith}
use Rattle.std.specs.Prelude.{ℤ, nat_eq, nat_le, IfSome, slice_get, slice_set}
use Rattle.std.specs.Ordering.{int_eq}
use Rattle.std.proofs.lemmas.Slice.Eq.{bytes_eq-Decides}
use Rattle.std.proofs.lemmas.Bool.Decides.{nat_tests}
use Rattle.service_api.specs.declared.answer.Note.{Note}
use Rattle.frag_chunks.specs.declared.gather.Added.{Added}
use Rattle.frag_chunks.specs.declared.gather.Added.TheVariants as added
use Rattle.frag_chunks.specs.declared.holding.PartialMessage.{PartialMessage}
use Rattle.frag_chunks.specs.declared.holding.PartialMessage.TheVariants as holding
use Rattle.frag_chunks.specs.declared.holding.Entry.{Entry}
use Rattle.frag_chunks.specs.Parts.{IsMessage, parts_in, piece_of}
use Rattle.frag_chunks.specs.Gathers.{Said, said_in, place_of, judged_piece, judged_in, judged_part, at_place, with_part, holding_of, judged_among, judged_all, after, added_or, added_note, gathered_entries}
use Rattle.frag_chunks.specs.Messages.{said_of, IsPartOf, OnlyParts, gives, was_given}
use Rattle.frag_chunks.proofs.Pieces.{slots_from, slots_length, slots_same, slots_get, slots_set, slots_none, is_right}
use Rattle.frag_chunks.proofs.Keys.{key_self, key_is, own_holding, other_holding, no_fewer}

-- ---- a part of another key

pub other_part : (k : ℤ) (g : Said) (es : List Entry) (a : Added) → int_eq g.key k ≡ false → holding_of k (after a g es) ≡ holding_of k es
other_part k g es added.Kept d = other_holding k g.key (with_part (holding_of g.key es) g) es d
other_part k g es added.Spoiled d = other_holding k g.key holding.Spoiled es d
other_part k g es added.Again d = refl
other_part k g es added.Stranger d = refl
other_part k g es added.Full d = refl

pub after_no_fewer : (g : Said) (es : List Entry) (a : Added) → length es ≤ length (after a g es)
after_no_fewer g es added.Kept = no_fewer g.key (with_part (holding_of g.key es) g) es
after_no_fewer g es added.Spoiled = no_fewer g.key holding.Spoiled es
after_no_fewer g es added.Again = omega arith
after_no_fewer g es added.Stranger = omega arith
after_no_fewer g es added.Full = omega arith

-- ---- a part of the key's message

-- the places where f says which parts came
abbrev pub Came : (ℕ → Bool) → List ℕ → Option PartialMessage
Came f b = Some (holding.Open (slots_from f b 0 (parts_in (length b))))

-- f, with one more
abbrev pub also : ℤ → Said → (ℕ → Bool) → ℕ → Bool
also k g f x = f x || gives k x (Some g)

also_same : (k : ℤ) (b : List ℕ) (i : ℕ) (f : ℕ → Bool) (x : ℕ) → also k (said_of k b i) f x ≡ (f x || nat_eq i x)
also_same k b i f x = ap (λ t. f x || (t && nat_eq i x)) (key_self k)

or_false : (t : Bool) → (t || false) ≡ t
or_false true = refl
or_false false = refl

or_true : (t : Bool) → (t || true) ≡ true
or_true true = refl
or_true false = refl

also_other : (k : ℤ) (b : List ℕ) (i : ℕ) (f : ℕ → Bool) (x : ℕ) → x ≢ i → f x ≡ also k (said_of k b i) f x
also_other k b i f x d = let n : nat_eq i x ≡ false = grind (arith, nat_tests) in sym (also_same k b i f x ∙ ap (λ t. f x || t) n ∙ or_false (f x))

also_own : (k : ℤ) (b : List ℕ) (i : ℕ) (f : ℕ → Bool) → also k (said_of k b i) f i ≡ true
also_own k b i f = let n : nat_eq i i ≡ true = grind (arith, nat_tests) in also_same k b i f i ∙ ap (λ t. f i || t) n ∙ or_true (f i)

-- where the part came before, it is as if it came once
also_again : (k : ℤ) (b : List ℕ) (i : ℕ) (f : ℕ → Bool) → f i ≡ true → (x : ℕ) → f x ≡ also k (said_of k b i) f x
also_again k b i f t x = by (nat_eq x i) refl
  where
    by : (c : Bool) → nat_eq x i ≡ c → f x ≡ also k (said_of k b i) f x
    by true q = let s : x ≡ i = grind (arith, nat_tests) in ap f s ∙ t ∙ sym (also_own k b i f) ∙ ap (also k (said_of k b i) f) (sym s)
    by false q = let d : x ≢ i = grind (arith, nat_tests) in also_other k b i f x d

-- the first note of the key that finds room
pub first_part : (k : ℤ) (b : List ℕ) (i : ℕ) (es : List Entry) → IsMessage b → i < parts_in (length b) → holding_of k es ≡ None → nat_le 64 (length es) ≡ false
    → holding_of k (after (judged_all (said_of k b i) es) (said_of k b i) es) ≡ Came (also k (said_of k b i) (λ x. false)) b
unfolding judged_part with_part
first_part k b i es m h e r =
    let a : judged_all (said_of k b i) es ≡ added.Kept = ap (λ o. judged_among o (said_of k b i) es) e ∙ ap (λ t. if t then added.Full else judged_part None (said_of k b i)) r
    ∙ ap (λ t. if t then added.Kept else added.Spoiled) (is_right b i m h) in
    ap (λ x. holding_of k (after x (said_of k b i) es)) a
    ∙ own_holding k (with_part (holding_of k es) (said_of k b i)) es
    ∙ ap (λ o. Some (with_part o (said_of k b i))) e
    ∙ ap (λ s. Some (holding.Open (slice_set s i (Some (piece_of b i))))) (slots_none b 0 (parts_in (length b)))
    ∙ ap (λ s. Some (holding.Open s)) (slots_set (λ x. false) (also k (said_of k b i) (λ x. false)) b 0 (parts_in (length b)) i i (omega arith) h (also_own k b i (λ x. false)) (also_other k b i (λ x. false)))

-- a note of a key that is kept
pub next_part : (k : ℤ) (b : List ℕ) (i : ℕ) (f : ℕ → Bool) (es : List Entry) → IsMessage b → i < parts_in (length b) → holding_of k es ≡ Came f b
    → holding_of k (after (judged_all (said_of k b i) es) (said_of k b i) es) ≡ Came (also k (said_of k b i) f) b
unfolding judged_part with_part
next_part k b i f es m h e = by (f i) refl
  where
    n : ℕ
    n = parts_in (length b)

    judged_is : (t : Bool) → f i ≡ t → judged_all (said_of k b i) es ≡ judged_piece (if t then Some (piece_of b i) else None) (piece_of b i)
    judged_is t q =
        let l : nat_eq (length (slots_from f b 0 n)) n ≡ true = grind (arith, nat_tests, slots_length f b 0 n) in
        ap (λ o. judged_among o (said_of k b i) es) e
        ∙ ap (λ c. if c then judged_in (Came f b) i n (piece_of b i) else added.Spoiled) (is_right b i m h)
        ∙ ap (λ c. if c then judged_piece (at_place (slice_get (slots_from f b 0 n) i)) (piece_of b i) else added.Spoiled) l
        ∙ ap (λ o. judged_piece (at_place o) (piece_of b i)) (slots_get f b 0 n i i (omega arith) h)
        ∙ ap (λ c. judged_piece (if c then Some (piece_of b i) else None) (piece_of b i)) q

    by : (t : Bool) → f i ≡ t → holding_of k (after (judged_all (said_of k b i) es) (said_of k b i) es) ≡ Came (also k (said_of k b i) f) b
    by true q =
        let a : judged_all (said_of k b i) es ≡ added.Again = judged_is true q ∙ ap (λ c. if c then added.Again else added.Spoiled) ((bytes_eq-Decides (piece_of b i) (piece_of b i)).1 refl) in
        ap (λ x. holding_of k (after x (said_of k b i) es)) a ∙ e
        ∙ ap (λ s. Some (holding.Open s)) (slots_same f (also k (said_of k b i) f) b 0 n (λ x l. also_again k b i f q x))
    by false q =
        ap (λ x. holding_of k (after x (said_of k b i) es)) (judged_is false q)
        ∙ own_holding k (with_part (holding_of k es) (said_of k b i)) es
        ∙ ap (λ o. Some (with_part o (said_of k b i))) e
        ∙ ap (λ s. Some (holding.Open s)) (slots_set f (also k (said_of k b i) f) b 0 n i i (omega arith) h (also_own k b i f) (also_other k b i f))

-- ---- one note, whatever it says

-- what a note changes of f
abbrev pub alsos : ℤ → Option Said → (ℕ → Bool) → ℕ → Bool
alsos k o f x = f x || gives k x o

gives_other : (k : ℤ) (g : Said) (x : ℕ) → int_eq g.key k ≡ false → gives k x (Some g) ≡ false
gives_other k g x d = ap (λ t. t && nat_eq (place_of g.index) x) d

came_same : (f g : ℕ → Bool) (b : List ℕ) → ((x : ℕ) → f x ≡ g x) → Came f b ≡ Came g b
came_same f g b h = ap (λ s. Some (holding.Open s)) (slots_same f g b 0 (parts_in (length b)) (λ x l. h x))

pub next_note : (k : ℤ) (b : List ℕ) (f : ℕ → Bool) (es : List Entry) (o : Option Said) → IsMessage b → IfSome o (λ g. g.key ≡ k → IsPartOf k b g) → holding_of k es ≡ Came f b
    → holding_of k (added_or o es).1 ≡ Came (alsos k o f) b
next_note k b f es None m p e = e ∙ came_same f (alsos k None f) b (λ x. sym (or_false (f x)))
next_note k b f es (Some g) m p e = by (int_eq g.key k) refl
  where
    by : (t : Bool) → int_eq g.key k ≡ t → holding_of k (after (judged_all g es) g es) ≡ Came (alsos k (Some g) f) b
    by true q =
        let i = p (key_is g.key k q) in
        subst (λ (y : Said). holding_of k (after (judged_all y es) y es) ≡ Came (alsos k (Some y) f) b) (sym i.same) (next_part k b i.index f es m i.within e)
    by false q = other_part k g es (judged_all g es) q ∙ e ∙ came_same f (alsos k (Some g) f) b (λ x. sym (ap (λ t. f x || t) (gives_other k g x q) ∙ or_false (f x)))

or_assoc : (a b c : Bool) → ((a || b) || c) ≡ (a || (b || c))
or_assoc true b c = refl
or_assoc false b c = refl

-- ---- all notes

pub all_notes : (port : ℕ) (k : ℤ) (b : List ℕ) (f : ℕ → Bool) (ns : List Note) (es : List Entry) → IsMessage b → OnlyParts port k b ns → holding_of k es ≡ Came f b
    → holding_of k (gathered_entries port ns es) ≡ Came (λ x. f x || was_given port k ns x) b
unfolding added_note
all_notes port k b f [] es m p e = e ∙ came_same f (λ x. f x || false) b (λ x. sym (or_false (f x)))
all_notes port k b f (n ∷ ns) es m p e =
    all_notes port k b (alsos k (said_in port n) f) ns (added_note port n es).1 m p.1 (next_note k b f es (said_in port n) m p.0 e)
    ∙ came_same (λ x. alsos k (said_in port n) f x || was_given port k ns x) (λ x. f x || (gives k x (said_in port n) || was_given port k ns x)) b
    (λ x. or_assoc (f x) (gives k x (said_in port n)) (was_given port k ns x))

-- ---- until a note of the key finds room

pub all_full : (port : ℕ) (k : ℤ) (b : List ℕ) (ns : List Note) (es : List Entry) → OnlyParts port k b ns → holding_of k es ≡ None → 64 ≤ length es
    → (holding_of k (gathered_entries port ns es) ≡ None) × (64 ≤ length (gathered_entries port ns es))
unfolding added_note
all_full port k b [] es p e l = (e, l)
all_full port k b (n ∷ ns) es p e l = let s = next (said_in port n) in all_full port k b ns (added_note port n es).1 p.1 s.0 s.1
  where
    at : (g : Said) (t : Bool) → int_eq g.key k ≡ t → (holding_of k (after (judged_all g es) g es) ≡ None) × (64 ≤ length (after (judged_all g es) g es))
    at g true q =
        let none : holding_of g.key es ≡ None = ap (λ x. holding_of x es) (key_is g.key k q) ∙ e in
        let r : nat_le 64 (length es) ≡ true = grind (arith, nat_tests) in
        let a : judged_all g es ≡ added.Full = ap (λ o. judged_among o g es) none ∙ ap (λ t. if t then added.Full else judged_part None g) r in
        (ap (λ x. holding_of k (after x g es)) a ∙ e, omega (arith, l, after_no_fewer g es (judged_all g es)))
    at g false q = (other_part k g es (judged_all g es) q ∙ e, omega (arith, l, after_no_fewer g es (judged_all g es)))

    next : (o : Option Said) → (holding_of k (added_or o es).1 ≡ None) × (64 ≤ length (added_or o es).1)
    next None = (e, l)
    next (Some g) = at g (int_eq g.key k) refl

-- a key is kept as its notes say, or there was no room for it, or it had no note
pub data Ends (port : ℕ) (k : ℤ) (b : List ℕ) (ns : List Note) (es : List Entry) : Type 0 where
  Kept : holding_of k es ≡ Came (was_given port k ns) b → Ends port k b ns es
  Full : holding_of k es ≡ None → 64 ≤ length es → Ends port k b ns es
  Absent : holding_of k es ≡ None → ((x : ℕ) → was_given port k ns x ≡ false) → Ends port k b ns es

-- a note before, which gives nothing of the key
more_ends : (port : ℕ) (k : ℤ) (b : List ℕ) (n : Note) (ns : List Note) (es : List Entry) → ((x : ℕ) → gives k x (said_in port n) ≡ false) → Ends port k b ns es → Ends port k b (n ∷ ns) es
more_ends port k b n ns es h (Kept e) = Kept (e ∙ came_same (was_given port k ns) (was_given port k (n ∷ ns)) b (λ x. sym (ap (λ t. t || was_given port k ns x) (h x))))
more_ends port k b n ns es h (Full e l) = Full e l
more_ends port k b n ns es h (Absent e f) = Absent e (λ x. ap (λ t. t || was_given port k ns x) (h x) ∙ f x)

pub notes_end : (port : ℕ) (k : ℤ) (b : List ℕ) (ns : List Note) (es : List Entry) → IsMessage b → OnlyParts port k b ns → holding_of k es ≡ None → Ends port k b ns (gathered_entries port ns es)
unfolding added_note
notes_end port k b [] es m p e = Absent e (λ x. refl)
notes_end port k b (n ∷ ns) es m p e = next (said_in port n) refl (λ f. notes_end port k b ns f m p.1)
  where
    Rest : Type 0
    Rest = (f : List Entry) → holding_of k f ≡ None → Ends port k b ns (gathered_entries port ns f)

    room : (g : Said) → said_in port n ≡ Some g → IsPartOf k b g → int_eq g.key k ≡ true → (t : Bool) → nat_le 64 (length es) ≡ t → Ends port k b (n ∷ ns) (gathered_entries port ns (after (judged_all g es) g es))
    room g o i q true r =
        let none : holding_of g.key es ≡ None = ap (λ x. holding_of x es) (key_is g.key k q) ∙ e in
        let a : judged_all g es ≡ added.Full = ap (λ o. judged_among o g es) none ∙ ap (λ t. if t then added.Full else judged_part None g) r in
        let l : 64 ≤ length es = grind (arith, nat_tests) in
        let f = all_full port k b ns es p.1 e l in
        subst (λ (x : Added). Ends port k b (n ∷ ns) (gathered_entries port ns (after x g es))) (sym a) (Full f.0 f.1)
    room g o i q false r =
        let first = subst (λ (y : Said). holding_of k (after (judged_all y es) y es) ≡ Came (also k y (λ x. false)) b) (sym i.same) (first_part k b i.index es m i.within e r) in
        Kept (all_notes port k b (also k g (λ x. false)) ns (after (judged_all g es) g es) m p.1 first
        ∙ came_same (λ x. also k g (λ y. false) x || was_given port k ns x) (was_given port k (n ∷ ns)) b (λ x. ap (λ w. gives k x w || was_given port k ns x) (sym o)))

    at : (g : Said) → said_in port n ≡ Some g → (g.key ≡ k → IsPartOf k b g) → Rest → (t : Bool) → int_eq g.key k ≡ t → Ends port k b (n ∷ ns) (gathered_entries port ns (after (judged_all g es) g es))
    at g o i rest true q = room g o (i (key_is g.key k q)) q (nat_le 64 (length es)) refl
    at g o i rest false q = more_ends port k b n ns _ (λ x. ap (gives k x) o ∙ gives_other k g x q) (rest (after (judged_all g es) g es) (other_part k g es (judged_all g es) q ∙ e))

    next : (o : Option Said) → said_in port n ≡ o → Rest → Ends port k b (n ∷ ns) (gathered_entries port ns (added_or o es).1)
    next None o rest = more_ends port k b n ns _ (λ x. ap (gives k x) o) (rest es e)
    next (Some g) o rest = at g o (subst (λ (w : Option Said). IfSome w (λ g. g.key ≡ k → IsPartOf k b g)) o p.0) rest (int_eq g.key k) refl
