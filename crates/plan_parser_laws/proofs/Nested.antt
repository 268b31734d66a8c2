-- Comments, with those inside them.
use Rattle.std.proofs.Common.{◌≡◌, ◌⊎◌, inl, inr, ℕ, zero, suc, ◌+◌, ◌-◌, ◌<◌, Bool, true, false, List, [], ◌∷◌, length, Option, Some, None, Result, Ok, Err, ◌==◌, nat_lt, ◌&&◌, ◌||◌, refl, sym, ◌∙◌, ap, subst, arith}
use Rattle.std.specs.Prelude.{◌↔◌, if◌then◌else◌}
use Rattle.std.proofs.lemmas.Bool.Decides.{nat_tests}
use Rattle.plan_lexer.specs.Faults.{◌>>=◌}
use Rattle.plan_lexer.specs.Gaps.{left_by, opens, closes, comment_from, comment_at}
use Rattle.plan_lexer.specs.Scanning.{move_at}
use Rattle.plan_lexer.specs.declared.token.TokenKind.{TokenKind}
use Rattle.plan_lexer.specs.declared.fault.LexFault.{LexFault}
use Rattle.plan_lexer.specs.declared.fault.LexFault.TheVariants.{OpenComment}
use Rattle.plan_parser_laws.specs.Comments.{is_mark, CommentAt, comment, InsideAt, nothing, a_byte, a_comment, EndsAt, Unclosed}
use Rattle.plan_parser_laws.proofs.Moves.{Move, branch, after_comment, comment_move}

abbrev Place : Type 0
Place = Result ℕ LexFault

-- ---- one byte, behind a byte that it may make a mark with; nothing stands before 0

zero_goes : (start at depth c : ℕ) (more : List ℕ) → comment_from start at depth (left_by 0) (c ∷ more) ≡ comment_from start (at + 1) depth (left_by c) more
unfolding opens closes left_by
zero_goes start at depth c more = refl

opens_goes : (start at depth : ℕ) (more : List ℕ) → comment_from start at depth (left_by 40) (42 ∷ more) ≡ comment_from start (at + 1) (depth + 1) (left_by 0) more
unfolding opens closes left_by
opens_goes start at depth more = refl

closes_goes : (start at depth : ℕ) (more : List ℕ) → comment_from start at depth (left_by 42) (41 ∷ more) ≡ (if depth == 0 then Ok (at + 1) else comment_from start (at + 1) (depth - 1) (left_by 0) more)
unfolding opens closes left_by
closes_goes start at depth more = refl

paren_else : (start at depth c : ℕ) (more : List ℕ) → (c == 42) ≡ false → comment_from start at depth (left_by 40) (c ∷ more) ≡ comment_from start (at + 1) depth (left_by c) more
unfolding opens closes left_by
paren_else start at depth c more h = ap (λ (t : Bool). if t then comment_from start (at + 1) (depth + 1) (left_by 0) more else comment_from start (at + 1) depth (left_by c) more) h

star_else : (start at depth c : ℕ) (more : List ℕ) → (c == 41) ≡ false → comment_from start at depth (left_by 42) (c ∷ more) ≡ comment_from start (at + 1) depth (left_by c) more
unfolding opens closes left_by
star_else start at depth c more h = ap (λ (t : Bool). if t then (if depth == 0 then Ok (at + 1) else comment_from start (at + 1) (depth - 1) (left_by 0) more) else comment_from start (at + 1) depth (left_by c) more) h

left_zero : (b : ℕ) → (b == 40) ≡ false → (b == 42) ≡ false → left_by b ≡ left_by 0
unfolding left_by
left_zero b h k = rw (h, k) refl

no_left : (p q : Bool) → (p || q) ≡ false → p ≡ false
no_left false q h = refl
no_left true q h = cc

no_right : (p q : Bool) → (p || q) ≡ false → q ≡ false
no_right false q h = h
no_right true q h = cc

-- two bytes that make no mark
else_goes : (start at depth b c : ℕ) (more : List ℕ) → is_mark b (c ∷ more) ≡ false → comment_from start at depth (left_by b) (c ∷ more) ≡ comment_from start (at + 1) depth (left_by c) more
else_goes start at depth b c more h = by_byte (b == 40) refl (b == 42) refl
  where
    by_byte : (p : Bool) → (b == 40) ≡ p → (q : Bool) → (b == 42) ≡ q → comment_from start at depth (left_by b) (c ∷ more) ≡ comment_from start (at + 1) depth (left_by c) more
    by_byte true e q f =
        let is : b ≡ 40 = grind (arith, nat_tests) in
        let calm : (c == 42) ≡ false = ap (λ (t : Bool). t && (c == 42)) (sym e) ∙ no_left ((b == 40) && (c == 42)) ((b == 42) && (c == 41)) h in
        ap (λ n. comment_from start at depth (left_by n) (c ∷ more)) is ∙ paren_else start at depth c more calm
    by_byte false e true f =
        let is : b ≡ 42 = grind (arith, nat_tests) in
        let calm : (c == 41) ≡ false = ap (λ (t : Bool). t && (c == 41)) (sym f) ∙ no_right ((b == 40) && (c == 42)) ((b == 42) && (c == 41)) h in
        ap (λ n. comment_from start at depth (left_by n) (c ∷ more)) is ∙ star_else start at depth c more calm
    by_byte false e false f = ap (λ l. comment_from start at depth l (c ∷ more)) (left_zero b e f) ∙ zero_goes start at depth c more

-- a byte that makes no mark with what follows is passed as if it did not stand there
calm : (start at depth b : ℕ) (more : List ℕ) → is_mark b more ≡ false → comment_from start at depth (left_by b) more ≡ comment_from start at depth (left_by 0) more
calm start at depth b [] h = refl
calm start at depth b (c ∷ more) h = else_goes start at depth b c more h ∙ sym (zero_goes start at depth c more)

plain_goes : (start at depth b : ℕ) (more : List ℕ) → is_mark b more ≡ false → comment_from start at depth (left_by 0) (b ∷ more) ≡ comment_from start (at + 1) depth (left_by 0) more
plain_goes start at depth b more h = zero_goes start at depth b more ∙ calm start (at + 1) depth b more h

-- a mark
opens_one : (start at depth : ℕ) (more : List ℕ) → comment_from start at depth (left_by 0) (40 ∷ 42 ∷ more) ≡ comment_from start (at + 2) (depth + 1) (left_by 0) more
opens_one start at depth more =
    zero_goes start at depth 40 (42 ∷ more) ∙ (opens_goes start (at + 1) depth more ∙ ap (λ n. comment_from start n (depth + 1) (left_by 0) more) (omega arith))

closes_one : (start at depth : ℕ) (more : List ℕ) → comment_from start at depth (left_by 0) (42 ∷ 41 ∷ more) ≡ (if depth == 0 then Ok (at + 2) else comment_from start (at + 2) (depth - 1) (left_by 0) more)
closes_one start at depth more =
    zero_goes start at depth 42 (41 ∷ more) ∙ (closes_goes start (at + 1) depth more ∙ ap (λ n. if depth == 0 then Ok n else comment_from start n (depth - 1) (left_by 0) more) (omega arith))

closes_inner : (start at depth : ℕ) (more : List ℕ) → comment_from start at (depth + 1) (left_by 0) (42 ∷ 41 ∷ more) ≡ comment_from start (at + 2) depth (left_by 0) more
closes_inner start at depth more = closes_one start at (depth + 1) more ∙ by_depth (depth + 1) (depth + 1 == 0) refl (omega arith)
  where
    by_depth : (n : ℕ) (z : Bool) → (n == 0) ≡ z → n ≡ depth + 1 → (if z then Ok (at + 2) else comment_from start (at + 2) (n - 1) (left_by 0) more) ≡ comment_from start (at + 2) depth (left_by 0) more
    by_depth n true e f = let is : n ≡ 0 = grind (arith, nat_tests) in absurd (omega (arith, is, f))
    by_depth n false e f = ap (λ m. comment_from start (at + 2) m (left_by 0) more) (omega (arith, f))

-- ---- what is written is passed

-- the reading goes on at the rest
record Reaches (start at depth : ℕ) (text rest : List ℕ) : Type 0 where
  place : ℕ
  is : comment_from start at depth (left_by 0) text ≡ comment_from start place depth (left_by 0) rest
  fits : place + length rest ≡ at + length text

mutual
  inside_goes : {text rest : List ℕ} → InsideAt text rest → (start at depth : ℕ) → Reaches start at depth text rest
  inside_goes nothing start at depth = record { place = at; is = refl; fits = refl }
  inside_goes (a_byte {b} {text} {rest} m i) start at depth =
      let k = inside_goes i start (at + 1) depth in
      record { place = k.place; is = plain_goes start at depth b text m ∙ k.is; fits = (let f = k.fits in omega (arith, f)) }
  inside_goes (a_comment {text} {behind} {rest} c i) start at depth =
      let a = comment_goes c start at depth in
      let k = inside_goes i start a.place depth in
      record { place = k.place; is = a.is ∙ k.is; fits = k.fits ∙ a.fits }

  comment_goes : {text rest : List ℕ} → CommentAt text rest → (start at depth : ℕ) → Reaches start at depth text rest
  comment_goes (comment {text} {rest} i) start at depth =
      let k = inside_goes i start (at + 2) (depth + 1) in
      record { place = k.place + 2; is = opens_one start at depth text ∙ (k.is ∙ closes_inner start k.place depth rest); fits = (let f = k.fits in omega (arith, f)) }

-- a whole comment is passed, up to its rest
closed_goes : (at : ℕ) (text rest : List ℕ) → InsideAt text (42 ∷ 41 ∷ rest) → (next : ℕ) × (comment_at at text ≡ Ok next) × (next + length rest ≡ at + 2 + length text)
unfolding comment_at left_by
closed_goes at text rest i =
    let k = inside_goes i at (at + 2) 0 in
    (k.place + 2, k.is ∙ closes_one at k.place 0 rest, (let f = k.fits in omega (arith, f)))

-- ---- what is passed is written

-- so many comments more are closed before the rest
Closed : ℕ → List ℕ → List ℕ → Type 0
Closed zero text rest = InsideAt text (42 ∷ 41 ∷ rest)
Closed (suc depth) text rest = (middle : List ℕ) × InsideAt text (42 ∷ 41 ∷ middle) × Closed depth middle rest

byte_closed : (depth b : ℕ) (more rest : List ℕ) → is_mark b more ≡ false → Closed depth more rest → Closed depth (b ∷ more) rest
unfolding Closed
byte_closed zero b more rest m c = a_byte m c
byte_closed (suc depth) b more rest m c = (c.0, a_byte m c.1, c.2)

comment_closed : (depth : ℕ) (more rest : List ℕ) → Closed (suc depth) more rest → Closed depth (40 ∷ 42 ∷ more) rest
unfolding Closed
comment_closed zero more rest c = a_comment (comment c.1) c.2
comment_closed (suc depth) more rest c = (c.2.0, a_comment (comment c.1) c.2.1, c.2.2)

end_closed : (depth : ℕ) (more rest : List ℕ) → Closed depth more rest → Closed (suc depth) (42 ∷ 41 ∷ more) rest
unfolding Closed
end_closed depth more rest c = (more, nothing, c)

last_closed : (more : List ℕ) → Closed zero (42 ∷ 41 ∷ more) more
unfolding Closed
last_closed more = nothing

-- a reading of a text that comes to an end closes the comments of the whole
record IsClosed (at depth : ℕ) (whole text : List ℕ) (next : ℕ) : Type 0 where
  rest : List ℕ
  closed : Closed depth whole rest
  place : next + length rest ≡ at + length text

-- what is known of a text, with nothing before it and with a byte before it
record IsKnown (start : ℕ) (text : List ℕ) (next : ℕ) : Type 0 where
  alone : (at depth : ℕ) → comment_from start at depth (left_by 0) text ≡ Ok next → IsClosed at depth text text next
  behind : (at depth b : ℕ) → comment_from start at depth (left_by b) text ≡ Ok next → IsClosed at depth (b ∷ text) text next

-- with one byte more
alone_more : (start c : ℕ) (more : List ℕ) (next : ℕ) → IsKnown start more next → (at depth : ℕ) → comment_from start at depth (left_by 0) (c ∷ more) ≡ Ok next → IsClosed at depth (c ∷ more) (c ∷ more) next
alone_more start c more next k at depth h =
    let q = k.behind (at + 1) depth c (sym (zero_goes start at depth c more) ∙ h) in
    record { rest = q.rest; closed = q.closed; place = (let f = q.place in omega (arith, f)) }

opens_more : (start : ℕ) (more : List ℕ) (next : ℕ) → IsKnown start more next → (at depth : ℕ) → comment_from start at depth (left_by 40) (42 ∷ more) ≡ Ok next → IsClosed at depth (40 ∷ 42 ∷ more) (42 ∷ more) next
opens_more start more next k at depth h =
    let q = k.alone (at + 1) (depth + 1) (sym (opens_goes start at depth more) ∙ h) in
    let one : depth + 1 ≡ suc depth = omega arith in
    record { rest = q.rest; closed = comment_closed depth more q.rest (subst (λ d. Closed d more q.rest) one q.closed); place = (let f = q.place in omega (arith, f)) }

-- an inner comment is closed
inner_goes : (start at depth : ℕ) (more : List ℕ) → comment_from start at (suc depth) (left_by 42) (41 ∷ more) ≡ comment_from start (at + 1) depth (left_by 0) more
inner_goes start at depth more = closes_goes start at (suc depth) more ∙ by_depth (suc depth == 0) refl
  where
    by_depth : (z : Bool) → (suc depth == 0) ≡ z → (if z then Ok (at + 1) else comment_from start (at + 1) (suc depth - 1) (left_by 0) more) ≡ comment_from start (at + 1) depth (left_by 0) more
    by_depth true e = let is : suc depth ≡ 0 = grind (arith, nat_tests) in absurd (omega (arith, is))
    by_depth false e = ap (λ m. comment_from start (at + 1) m (left_by 0) more) (omega arith)

closes_more : (start : ℕ) (more : List ℕ) (next : ℕ) → IsKnown start more next → (at depth : ℕ) → comment_from start at depth (left_by 42) (41 ∷ more) ≡ Ok next → IsClosed at depth (42 ∷ 41 ∷ more) (41 ∷ more) next
closes_more start more next k at zero h =
    let o : ◌≡◌ {A = Place} (Ok (at + 1)) (Ok next) = sym (closes_goes start at zero more) ∙ h in
    let same : at + 1 ≡ next = cc in
    record { rest = more; closed = last_closed more; place = omega (arith, same) }
closes_more start more next k at (suc depth) h =
    let q = k.alone (at + 1) depth (sym (inner_goes start at depth more) ∙ h) in
    record { rest = q.rest; closed = end_closed depth more q.rest q.closed; place = (let f = q.place in omega (arith, f)) }

behind_more : (start c : ℕ) (more : List ℕ) (next : ℕ) → IsKnown start more next → (at depth b : ℕ) → comment_from start at depth (left_by b) (c ∷ more) ≡ Ok next → IsClosed at depth (b ∷ c ∷ more) (c ∷ more) next
behind_more start c more next k at depth b h = by_byte (b == 40) refl (c == 42) refl (b == 42) refl (c == 41) refl
  where
    plain : is_mark b (c ∷ more) ≡ false → IsClosed at depth (b ∷ c ∷ more) (c ∷ more) next
    plain m =
        let q = k.behind (at + 1) depth c (sym (else_goes start at depth b c more m) ∙ h) in
        record { rest = q.rest; closed = byte_closed depth b (c ∷ more) q.rest m q.closed; place = (let f = q.place in omega (arith, f)) }

    mark_is : (p q r t : Bool) → (b == 40) ≡ p → (c == 42) ≡ q → (b == 42) ≡ r → (c == 41) ≡ t → is_mark b (c ∷ more) ≡ ((p && q) || (r && t))
    mark_is p q r t e f g j = λ i. (e i && f i) || (g i && j i)

    by_byte : (p : Bool) → (b == 40) ≡ p → (q : Bool) → (c == 42) ≡ q → (r : Bool) → (b == 42) ≡ r → (t : Bool) → (c == 41) ≡ t → IsClosed at depth (b ∷ c ∷ more) (c ∷ more) next
    by_byte true e true f r g t j =
        let is : b ≡ 40 = grind (arith, nat_tests) in
        let it : c ≡ 42 = grind (arith, nat_tests) in
        subst (λ n. IsClosed at depth (n ∷ c ∷ more) (c ∷ more) next) (sym is) (subst (λ n. IsClosed at depth (40 ∷ n ∷ more) (n ∷ more) next) (sym it)
        (opens_more start more next k at depth (ap (λ n. comment_from start at depth (left_by n) (42 ∷ more)) (sym is) ∙ (ap (λ n. comment_from start at depth (left_by b) (n ∷ more)) (sym it) ∙ h))))
    by_byte true e false f true g t j = absurd (let is : b ≡ 40 = grind (arith, nat_tests) in let it : b ≡ 42 = grind (arith, nat_tests) in omega (arith, is, it))
    by_byte true e false f false g t j = plain (mark_is true false false t e f g j)
    by_byte false e q f true g true j =
        let is : b ≡ 42 = grind (arith, nat_tests) in
        let it : c ≡ 41 = grind (arith, nat_tests) in
        subst (λ n. IsClosed at depth (n ∷ c ∷ more) (c ∷ more) next) (sym is) (subst (λ n. IsClosed at depth (42 ∷ n ∷ more) (n ∷ more) next) (sym it)
        (closes_more start more next k at depth (ap (λ n. comment_from start at depth (left_by n) (41 ∷ more)) (sym is) ∙ (ap (λ n. comment_from start at depth (left_by b) (n ∷ more)) (sym it) ∙ h))))
    by_byte false e q f true g false j = plain (mark_is false q true false e f g j)
    by_byte false e q f false g t j = plain (mark_is false q false t e f g j)

text_is_known : (start : ℕ) (text : List ℕ) (next : ℕ) → IsKnown start text next
text_is_known start [] next = record { alone = λ at depth h. cc; behind = λ at depth b h. cc }
text_is_known start (c ∷ more) next = let k = text_is_known start more next in record { alone = alone_more start c more next k; behind = behind_more start c more next k }

-- a reading ends further on
later_on : (start at depth : ℕ) (last : _) (text : List ℕ) (next : ℕ) → comment_from start at depth last text ≡ Ok next → at < next
unfolding left_by
later_on start at depth last [] next h = cc
later_on start at depth last (b ∷ more) next h =
    by_byte (opens last b) (closes last b) (depth == 0) (later_on start (at + 1) (depth + 1) (left_by 0) more next) (later_on start (at + 1) (depth - 1) (left_by 0) more next) (later_on start (at + 1) depth (left_by b) more next) h
  where
    by_byte : (p q z : Bool) → (comment_from start (at + 1) (depth + 1) (left_by 0) more ≡ Ok next → at + 1 < next) → (comment_from start (at + 1) (depth - 1) (left_by 0) more ≡ Ok next → at + 1 < next)
        → (comment_from start (at + 1) depth (left_by b) more ≡ Ok next → at + 1 < next)
        → (if p then comment_from start (at + 1) (depth + 1) (left_by 0) more else
        (if q then (if z then Ok (at + 1) else comment_from start (at + 1) (depth - 1) (left_by 0) more) else comment_from start (at + 1) depth (left_by b) more))
        ≡ Ok next
        → at < next
    by_byte true q z f g k r = let l = f r in omega (arith, l)
    by_byte false true true f g k r = let same : at + 1 ≡ next = cc in omega (arith, same)
    by_byte false true false f g k r = let l = g r in omega (arith, l)
    by_byte false false z f g k r = let l = k r in omega (arith, l)

-- a reading is refused at its start alone
refused_at : (start at depth : ℕ) (last : _) (text : List ℕ) (e : LexFault) → comment_from start at depth last text ≡ Err e → e ≡ OpenComment start
unfolding left_by
refused_at start at depth last [] e h = same_fault (OpenComment start) e h
  where
    same_fault : (d f : LexFault) → ◌≡◌ {A = Place} (Err d) (Err f) → f ≡ d
    same_fault d f k = cc
refused_at start at depth last (b ∷ more) e h =
    by_byte (opens last b) (closes last b) (depth == 0) (refused_at start (at + 1) (depth + 1) (left_by 0) more e) (refused_at start (at + 1) (depth - 1) (left_by 0) more e) (refused_at start (at + 1) depth (left_by b) more e) h
  where
    by_byte : (p q z : Bool) → (comment_from start (at + 1) (depth + 1) (left_by 0) more ≡ Err e → e ≡ OpenComment start) → (comment_from start (at + 1) (depth - 1) (left_by 0) more ≡ Err e → e ≡ OpenComment start)
        → (comment_from start (at + 1) depth (left_by b) more ≡ Err e → e ≡ OpenComment start)
        → (if p then comment_from start (at + 1) (depth + 1) (left_by 0) more else
        (if q then (if z then Ok (at + 1) else comment_from start (at + 1) (depth - 1) (left_by 0) more) else comment_from start (at + 1) depth (left_by b) more))
        ≡ Err e
        → e ≡ OpenComment start
    by_byte true q z f g k r = f r
    by_byte false true true f g k r = cc
    by_byte false true false f g k r = g r
    by_byte false false z f g k r = k r

-- ---- moves

-- a comment that is read ends behind its start
inside_of : {text rest : List ℕ} → CommentAt (40 ∷ 42 ∷ text) rest → InsideAt text (42 ∷ 41 ∷ rest)
inside_of (comment i) = i

comment_ends : (at : ℕ) (text : List ℕ) (next : ℕ) → comment_at at text ≡ Ok next → EndsAt at next (40 ∷ 42 ∷ text)
unfolding comment_at left_by Closed
comment_ends at text next h =
    let c = (text_is_known at text next).alone (at + 2) 0 h in
    record { rest = c.rest; closed = comment c.closed; place = (let f = c.place in omega (arith, f)) }

further : (at : ℕ) (text : List ℕ) (next : ℕ) → comment_at at text ≡ Ok next → nat_lt at next ≡ true
unfolding comment_at left_by
further at text next h = let k = later_on at (at + 2) 0 (left_by 0) text next h in grind (arith, nat_tests)

comment_refused : (at : ℕ) (text : List ℕ) (d : LexFault) → comment_at at text ≡ Err d → d ≡ OpenComment at
unfolding comment_at left_by
comment_refused at text d q = refused_at at (at + 2) 0 (left_by 0) text d q

-- the move by the answer of the comment
move_ok : (at : ℕ) (text : List ℕ) (next : ℕ) → comment_at at text ≡ Ok next → move_at at (40 ∷ 42 ∷ text) ≡ Ok (None, next)
move_ok at text next h = comment_move at text ∙ (ap (λ (r : Place). r >>= after_comment at text) h ∙ ap (branch at text next) (further at text next h))

move_err : (at : ℕ) (text : List ℕ) (e : LexFault) → comment_at at text ≡ Err e → move_at at (40 ∷ 42 ∷ text) ≡ Err e
move_err at text e h = comment_move at text ∙ ap (λ (r : Place). r >>= after_comment at text) h

ok_same : (x y : Option TokenKind × ℕ) → ◌≡◌ {A = Move} (Ok x) (Ok y) → x ≡ y
ok_same x y h = cc

module _ (at : ℕ) (text : List ℕ) where
  begin : (r : Place) → comment_at at text ≡ r → ((next : ℕ) × (comment_at at text ≡ Ok next)) ⊎ ((e : LexFault) × (comment_at at text ≡ Err e))
  begin (Ok next) h = inl (next, h)
  begin (Err e) h = inr (e, h)

  answer : ((next : ℕ) × (comment_at at text ≡ Ok next)) ⊎ ((e : LexFault) × (comment_at at text ≡ Err e))
  answer = begin (comment_at at text) refl

  pub never_token : (k : TokenKind) (next : ℕ) → move_at at (40 ∷ 42 ∷ text) ≡ Ok (Some k, next) → ⊥
  never_token k next h = by_answer answer
    where
      by_answer : ((n : ℕ) × (comment_at at text ≡ Ok n)) ⊎ ((e : LexFault) × (comment_at at text ≡ Err e)) → ⊥
      by_answer (inl p) =
          let o = ok_same (None, p.0) (Some k, next) (sym (move_ok at text p.0 p.1) ∙ h) in
          let z : ◌≡◌ {A = Option TokenKind} None (Some k) = ap (λ x. x.0) o in
          cc
      by_answer (inr p) = let o : ◌≡◌ {A = Move} (Err p.0) (Ok (Some k, next)) = sym (move_err at text p.0 p.1) ∙ h in cc

  pub passed_where_ended : (next : ℕ) → (move_at at (40 ∷ 42 ∷ text) ≡ Ok (None, next)) ↔ EndsAt at next (40 ∷ 42 ∷ text)
  passed_where_ended next = (there, back)
    where
      there : move_at at (40 ∷ 42 ∷ text) ≡ Ok (None, next) → EndsAt at next (40 ∷ 42 ∷ text)
      there h = by_answer answer
        where
          by_answer : ((n : ℕ) × (comment_at at text ≡ Ok n)) ⊎ ((e : LexFault) × (comment_at at text ≡ Err e)) → EndsAt at next (40 ∷ 42 ∷ text)
          by_answer (inl p) =
              let same : p.0 ≡ next = ap (λ x. x.1) (ok_same (None, p.0) (None, next) (sym (move_ok at text p.0 p.1) ∙ h)) in
              comment_ends at text next (p.1 ∙ ap Ok same)
          by_answer (inr p) = let o : ◌≡◌ {A = Move} (Err p.0) (Ok (None, next)) = sym (move_err at text p.0 p.1) ∙ h in cc

      back : EndsAt at next (40 ∷ 42 ∷ text) → move_at at (40 ∷ 42 ∷ text) ≡ Ok (None, next)
      back e =
          let c = closed_goes at text e.rest (inside_of e.closed) in
          let q = c.2 in
          let p = e.place in
          let same : c.0 ≡ next = omega (arith, p, q) in
          move_ok at text next (c.1 ∙ ap Ok same)

  pub refused_where_unclosed : (e : LexFault) → (move_at at (40 ∷ 42 ∷ text) ≡ Err e) ↔ Unclosed e at (40 ∷ 42 ∷ text)
  refused_where_unclosed e = (there, back)
    where
      there : move_at at (40 ∷ 42 ∷ text) ≡ Err e → Unclosed e at (40 ∷ 42 ∷ text)
      there h = by_answer answer
        where
          by_answer : ((n : ℕ) × (comment_at at text ≡ Ok n)) ⊎ ((d : LexFault) × (comment_at at text ≡ Err d)) → Unclosed e at (40 ∷ 42 ∷ text)
          by_answer (inl p) = let o : ◌≡◌ {A = Move} (Ok (None, p.0)) (Err e) = sym (move_ok at text p.0 p.1) ∙ h in cc
          by_answer (inr p) =
              let o : ◌≡◌ {A = Move} (Err p.0) (Err e) = sym (move_err at text p.0 p.1) ∙ h in
              let same : p.0 ≡ e = cc in
              record {
                never = λ rest c. let k = closed_goes at text rest (inside_of c) in let q : ◌≡◌ {A = Place} (Err p.0) (Ok k.0) = sym p.1 ∙ k.1 in cc;
                is = sym same ∙ comment_refused at text p.0 p.1;
              }

      back : Unclosed e at (40 ∷ 42 ∷ text) → move_at at (40 ∷ 42 ∷ text) ≡ Err e
      back u = by_answer answer
        where
          by_answer : ((n : ℕ) × (comment_at at text ≡ Ok n)) ⊎ ((d : LexFault) × (comment_at at text ≡ Err d)) → move_at at (40 ∷ 42 ∷ text) ≡ Err e
          by_answer (inl p) = let c = comment_ends at text p.0 p.1 in absurd (u.never c.rest c.closed)
          by_answer (inr p) = move_err at text e (p.1 ∙ ap Err (comment_refused at text p.0 p.1 ∙ sym u.is))
