-- How an expression is spelled: its tag, and its fields and parts in order.
use Rattle.std.specs.Prelude.{ℕ, zero, suc, ◌+◌, ◌<◌, ◌≤◌, List, [], ◌∷◌, ◌++◌, length, Bool, true, false, Option, Some, None, Ok, Err}
use Rattle.std.specs.Prelude.{nat_lt, sum_by, ◌||◌, IsTrue}
use Rattle.std.specs.List.{flat_map}
use Rattle.std.specs.Int.{w32, w64, to_be_bytes, cast_unsigned}
use Rattle.containers.specs.Reading.{◌>>=◌}
use Rattle.plan_base.specs.Sizes.{expr_nodes, clause_nodes}
use Rattle.plan_base.specs.declared.limit.Limit.{Limit}
use Rattle.plan_base.specs.declared.tree.Expr.{Expr, Expr-F, fold-Expr, out-Expr}
use Rattle.plan_base.specs.declared.tree.Expr.TheVariants as expr
use Rattle.plan_base.specs.declared.tree.Clause.{Clause, Clause-F}
use Rattle.chunk_codec_spec.specs.declared.fault.SpellFault.TheVariants.{BadTag, OverLimit}
use Rattle.chunk_codec_spec.specs.declared.tags.ExprTag.{ExprTag}
use Rattle.chunk_codec_spec.specs.declared.tags.TheConstants.{EXPR_TAGS}
use Rattle.chunk_codec_spec.specs.Items.{an_expr, a_clause, several_clauses}
use Rattle.chunk_codec_spec.specs.Scan.{Scan, Reader, flags, table_field, count_field, allowed_or_fault}
use Rattle.chunk_codec_spec.specs.Parts.{Part, Core, Parts, done, ◌&◌, PartValues, FormFits, several, tagged_at, tagged_part}
use Rattle.chunk_codec_spec.specs.Fields.{flag_byte, flag_part, int_part, word_part, char_part, text_part, blob_part, sized_bytes}
use Rattle.chunk_codec_spec.specs.Fields.{name_bytes, name_part, op_byte, op_part, part_number_part}
use Rattle.chunk_codec_spec.specs.Types.{type_bytes, type_part}

-- an expression's bytes, by those of its parts and clauses; one whose type is missing has none behind its tag for it
abbrev pub expr_bytes_level : {X Y : Type 0} → (X → List ℕ) → (Y → List ℕ) → Expr-F X Y → List ℕ
expr_bytes_level bytes clause Expr-F.Unit = 0x20 ∷ []
expr_bytes_level bytes clause (Expr-F.Bool b) = 0x21 ∷ flag_byte b ∷ []
expr_bytes_level bytes clause (Expr-F.Int z) = 0x22 ∷ to_be_bytes w64 (cast_unsigned w64 z)
expr_bytes_level bytes clause (Expr-F.Char c) = 0x23 ∷ to_be_bytes w32 c
expr_bytes_level bytes clause (Expr-F.Str s) = 0x24 ∷ sized_bytes s
expr_bytes_level bytes clause (Expr-F.Blob s) = 0x25 ∷ sized_bytes s
expr_bytes_level bytes clause (Expr-F.Host h) = 0x26 ∷ to_be_bytes w32 h.0
expr_bytes_level bytes clause (Expr-F.Dev d) = 0x27 ∷ to_be_bytes w32 d.0
expr_bytes_level bytes clause (Expr-F.Nil (Some t)) = 0x28 ∷ type_bytes t
expr_bytes_level bytes clause (Expr-F.Nil None) = 0x28 ∷ []
expr_bytes_level bytes clause (Expr-F.Var x) = 0x29 ∷ name_bytes x
expr_bytes_level bytes clause (Expr-F.Tuple es) = 0x2a ∷ length es ∷ flat_map bytes es
expr_bytes_level bytes clause (Expr-F.Call x es) = 0x2b ∷ (name_bytes x ++ (length es ∷ flat_map bytes es))
expr_bytes_level bytes clause (Expr-F.If a b c) = 0x2c ∷ (bytes a ++ (bytes b ++ bytes c))
expr_bytes_level bytes clause (Expr-F.Let x t a b) = 0x2d ∷ (name_bytes x ++ (type_bytes t ++ (bytes a ++ bytes b)))
expr_bytes_level bytes clause (Expr-F.Then a b) = 0x2e ∷ (bytes a ++ bytes b)
expr_bytes_level bytes clause (Expr-F.And a b) = 0x2f ∷ (bytes a ++ bytes b)
expr_bytes_level bytes clause (Expr-F.Or a b) = 0x30 ∷ (bytes a ++ bytes b)
expr_bytes_level bytes clause (Expr-F.Not a) = 0x31 ∷ bytes a
expr_bytes_level bytes clause (Expr-F.Binary o a b) = 0x32 ∷ ((op_byte o ∷ []) ++ (bytes a ++ bytes b))
expr_bytes_level bytes clause (Expr-F.Part i a) = 0x33 ∷ ((i ∷ []) ++ bytes a)
expr_bytes_level bytes clause (Expr-F.Raise x (Some t)) = 0x34 ∷ (name_bytes x ++ type_bytes t)
expr_bytes_level bytes clause (Expr-F.Raise x None) = 0x34 ∷ name_bytes x
expr_bytes_level bytes clause (Expr-F.Try a cs) = 0x35 ∷ (bytes a ++ (length cs ∷ flat_map clause cs))
expr_bytes_level bytes clause (Expr-F.Foldl x a b) = 0x36 ∷ (name_bytes x ++ (bytes a ++ bytes b))
expr_bytes_level bytes clause (Expr-F.Foldr x a b) = 0x37 ∷ (name_bytes x ++ (bytes a ++ bytes b))
expr_bytes_level bytes clause (Expr-F.ChunkOf x es) = 0x38 ∷ (name_bytes x ++ (length es ∷ flat_map bytes es))
expr_bytes_level bytes clause (Expr-F.Eval a) = 0x39 ∷ bytes a
expr_bytes_level bytes clause (Expr-F.OnRemote a b c x) = 0x3a ∷ (bytes a ++ (bytes b ++ (bytes c ++ name_bytes x)))
expr_bytes_level bytes clause (Expr-F.OnNeighbor a b c d) = 0x3b ∷ (bytes a ++ (bytes b ++ (bytes c ++ bytes d)))

-- what a clause catches: anything, or a name
abbrev pub catch_bytes : Option (List ℕ) → List ℕ
catch_bytes None = 0x00 ∷ []
catch_bytes (Some n) = 0x01 ∷ name_bytes n

abbrev pub clause_bytes_level : {X Y : Type 0} → (X → List ℕ) → Clause-F X Y → List ℕ
clause_bytes_level bytes c = catch_bytes c.name ++ bytes c.body

-- the spelling of an expression
unfoldable pub expr_bytes : Expr → List ℕ
expr_bytes = fold-Expr (List ℕ) (List ℕ) (expr_bytes_level (λ bs. bs) (λ bs. bs)) (clause_bytes_level (λ bs. bs))

-- the spelling of a clause
abbrev pub clause_bytes : Clause → List ℕ
clause_bytes c = catch_bytes c.name ++ expr_bytes c.body

-- one more expression of the program was read
abbrev pub one_more : {T : Type 0} → T × Scan → T × Scan
one_more x = (x.0, record x.1 { nodes = x.1.nodes + 1 })

-- an expression's tag, where so many levels may still be opened: at most 4,096 of a program
unfoldable pub expr_tag_at : ℕ → Reader ExprTag
expr_tag_at room s = do
  tag ← table_field 0x20 EXPR_TAGS s
  few ← allowed_or_fault (nat_lt s.nodes 4096) (OverLimit Limit.Nodes s.front.at) tag
  open_there ← allowed_or_fault (nat_lt 0 room) (OverLimit Limit.Depth s.front.at) few
  Ok (one_more open_there)

-- whether a clause has a name, by its tag: only the last may have none
unfoldable pub clause_tag_at : Bool → Reader Bool
clause_tag_at last s = do
  named ← table_field 0 flags s
  allowed_or_fault (named.0 || last) (BadTag s.front.at) named

abbrev pub clause_forms : Part Expr → Bool → Parts
clause_forms inner false = inner & done
clause_forms inner true = name_part & inner & done

abbrev pub clause_of_parts : (inner : Part Expr) (named : Bool) → PartValues (clause_forms inner named) → Clause
clause_of_parts inner false xs = record { name = None; body = xs.0 }
clause_of_parts inner true xs = record { name = Some xs.0; body = xs.1.0 }

abbrev pub clause_parts_by : (inner : Part Expr) → Option (List ℕ) → Expr → Option ((named : Bool) × PartValues (clause_forms inner named))
clause_parts_by inner None e = Some (false, (e, tt))
clause_parts_by inner (Some n) e = Some (true, (n, (e, tt)))

-- a clause, which may be the last
abbrev pub clause_part : Bool → ℕ → Part Expr → Part Clause
clause_part last room inner =
    tagged_part (a_clause last room) (clause_tag_at last) (λ named. IsTrue (named || last)) (clause_forms inner) (clause_of_parts inner)
    (λ c. clause_parts_by inner c.name c.body) clause_bytes clause_nodes

abbrev pub is_none_left : ℕ → Bool
is_none_left zero = true
is_none_left (suc n) = false

-- so many clauses, the last of which is the last
unfoldable pub clauses_from : (Bool → Reader Clause) → ℕ → Reader (List Clause)
clauses_from one zero s = Ok ([], s)
clauses_from one (suc n) s = do
  c ← one (is_none_left n) s
  cs ← clauses_from one n c.1
  Ok (c.0 ∷ cs.0, cs.1)

unfoldable pub clauses_at : (Bool → Reader Clause) → Reader (List Clause)
clauses_at one s = do
  count ← count_field Limit.Clauses 1 8 s
  clauses_from one count.0 count.1

abbrev pub ClausesFit : (Bool → Clause → Type 0) → List Clause → Type 0
ClausesFit Fits [] = Unit {0}
ClausesFit Fits (c ∷ cs) = Fits (is_none_left (length cs)) c × ClausesFit Fits cs

-- the clauses of a `try`, from 1 to 8
abbrev pub clauses_part : ℕ → Part Expr → Part (List Clause)
clauses_part room inner = record {
  item = several_clauses room;
  read = clauses_at (λ last. (clause_part last room inner).read);
  bytes = λ cs. length cs ∷ flat_map clause_bytes cs;
  Fits = λ cs. (1 ≤ length cs) × (length cs ≤ 8) × ClausesFit (λ last. (clause_part last room inner).Fits) cs;
  nodes = sum_by clause_nodes;
}

-- what stands behind each tag
abbrev pub expr_forms : Part Expr → Part (List Clause) → ExprTag → Parts
expr_forms inner clauses ExprTag.Bool = flag_part & done
expr_forms inner clauses ExprTag.Int = int_part & done
expr_forms inner clauses ExprTag.Char = char_part & done
expr_forms inner clauses ExprTag.Str = text_part & done
expr_forms inner clauses ExprTag.Blob = blob_part & done
expr_forms inner clauses ExprTag.Host = word_part & done
expr_forms inner clauses ExprTag.Dev = word_part & done
expr_forms inner clauses ExprTag.Nil = type_part 7 & done
expr_forms inner clauses ExprTag.Var = name_part & done
expr_forms inner clauses ExprTag.Tuple = several Limit.Parts 2 8 inner & done
expr_forms inner clauses ExprTag.Call = name_part & several Limit.Arguments 0 8 inner & done
expr_forms inner clauses ExprTag.If = inner & inner & inner & done
expr_forms inner clauses ExprTag.Let = name_part & type_part 8 & inner & inner & done
expr_forms inner clauses ExprTag.Then = inner & inner & done
expr_forms inner clauses ExprTag.And = inner & inner & done
expr_forms inner clauses ExprTag.Or = inner & inner & done
expr_forms inner clauses ExprTag.Not = inner & done
expr_forms inner clauses ExprTag.Binary = op_part & inner & inner & done
expr_forms inner clauses ExprTag.Part = part_number_part & inner & done
expr_forms inner clauses ExprTag.Raise = name_part & type_part 8 & done
expr_forms inner clauses ExprTag.Try = inner & clauses & done
expr_forms inner clauses ExprTag.Foldl = name_part & inner & inner & done
expr_forms inner clauses ExprTag.Foldr = name_part & inner & inner & done
expr_forms inner clauses ExprTag.ChunkOf = name_part & several Limit.Arguments 0 8 inner & done
expr_forms inner clauses ExprTag.Eval = inner & done
expr_forms inner clauses ExprTag.OnRemote = inner & inner & inner & name_part & done
expr_forms inner clauses ExprTag.OnNeighbor = inner & inner & inner & inner & done
expr_forms inner clauses _ = done

abbrev pub expr_of_parts : (inner : Part Expr) (clauses : Part (List Clause)) (tag : ExprTag) → PartValues (expr_forms inner clauses tag) → Expr
expr_of_parts inner clauses ExprTag.Unit xs = expr.Unit
expr_of_parts inner clauses ExprTag.Bool xs = expr.Bool xs.0
expr_of_parts inner clauses ExprTag.Int xs = expr.Int xs.0
expr_of_parts inner clauses ExprTag.Char xs = expr.Char xs.0
expr_of_parts inner clauses ExprTag.Str xs = expr.Str xs.0
expr_of_parts inner clauses ExprTag.Blob xs = expr.Blob xs.0
expr_of_parts inner clauses ExprTag.Host xs = expr.Host (record { 0 = xs.0 })
expr_of_parts inner clauses ExprTag.Dev xs = expr.Dev (record { 0 = xs.0 })
expr_of_parts inner clauses ExprTag.Nil xs = expr.Nil (Some xs.0)
expr_of_parts inner clauses ExprTag.Var xs = expr.Var xs.0
expr_of_parts inner clauses ExprTag.Tuple xs = expr.Tuple xs.0
expr_of_parts inner clauses ExprTag.Call xs = expr.Call xs.0 xs.1.0
expr_of_parts inner clauses ExprTag.If xs = expr.If xs.0 xs.1.0 xs.1.1.0
expr_of_parts inner clauses ExprTag.Let xs = expr.Let xs.0 xs.1.0 xs.1.1.0 xs.1.1.1.0
expr_of_parts inner clauses ExprTag.Then xs = expr.Then xs.0 xs.1.0
expr_of_parts inner clauses ExprTag.And xs = expr.And xs.0 xs.1.0
expr_of_parts inner clauses ExprTag.Or xs = expr.Or xs.0 xs.1.0
expr_of_parts inner clauses ExprTag.Not xs = expr.Not xs.0
expr_of_parts inner clauses ExprTag.Binary xs = expr.Binary xs.0 xs.1.0 xs.1.1.0
expr_of_parts inner clauses ExprTag.Part xs = expr.Part xs.0 xs.1.0
expr_of_parts inner clauses ExprTag.Raise xs = expr.Raise xs.0 (Some xs.1.0)
expr_of_parts inner clauses ExprTag.Try xs = expr.Try xs.0 xs.1.0
expr_of_parts inner clauses ExprTag.Foldl xs = expr.Foldl xs.0 xs.1.0 xs.1.1.0
expr_of_parts inner clauses ExprTag.Foldr xs = expr.Foldr xs.0 xs.1.0 xs.1.1.0
expr_of_parts inner clauses ExprTag.ChunkOf xs = expr.ChunkOf xs.0 xs.1.0
expr_of_parts inner clauses ExprTag.Eval xs = expr.Eval xs.0
expr_of_parts inner clauses ExprTag.OnRemote xs = expr.OnRemote xs.0 xs.1.0 xs.1.1.0 xs.1.1.1.0
expr_of_parts inner clauses ExprTag.OnNeighbor xs = expr.OnNeighbor xs.0 xs.1.0 xs.1.1.0 xs.1.1.1.0

abbrev pub expr_parts : (inner : Part Expr) (clauses : Part (List Clause)) → Expr-F Expr Clause
    → Option ((tag : ExprTag) × PartValues (expr_forms inner clauses tag))
expr_parts inner clauses Expr-F.Unit = Some (ExprTag.Unit, tt)
expr_parts inner clauses (Expr-F.Bool b) = Some (ExprTag.Bool, (b, tt))
expr_parts inner clauses (Expr-F.Int z) = Some (ExprTag.Int, (z, tt))
expr_parts inner clauses (Expr-F.Char c) = Some (ExprTag.Char, (c, tt))
expr_parts inner clauses (Expr-F.Str s) = Some (ExprTag.Str, (s, tt))
expr_parts inner clauses (Expr-F.Blob s) = Some (ExprTag.Blob, (s, tt))
expr_parts inner clauses (Expr-F.Host h) = Some (ExprTag.Host, (h.0, tt))
expr_parts inner clauses (Expr-F.Dev d) = Some (ExprTag.Dev, (d.0, tt))
expr_parts inner clauses (Expr-F.Nil (Some t)) = Some (ExprTag.Nil, (t, tt))
expr_parts inner clauses (Expr-F.Nil None) = None
expr_parts inner clauses (Expr-F.Var x) = Some (ExprTag.Var, (x, tt))
expr_parts inner clauses (Expr-F.Tuple es) = Some (ExprTag.Tuple, (es, tt))
expr_parts inner clauses (Expr-F.Call x es) = Some (ExprTag.Call, (x, (es, tt)))
expr_parts inner clauses (Expr-F.If a b c) = Some (ExprTag.If, (a, (b, (c, tt))))
expr_parts inner clauses (Expr-F.Let x t a b) = Some (ExprTag.Let, (x, (t, (a, (b, tt)))))
expr_parts inner clauses (Expr-F.Then a b) = Some (ExprTag.Then, (a, (b, tt)))
expr_parts inner clauses (Expr-F.And a b) = Some (ExprTag.And, (a, (b, tt)))
expr_parts inner clauses (Expr-F.Or a b) = Some (ExprTag.Or, (a, (b, tt)))
expr_parts inner clauses (Expr-F.Not a) = Some (ExprTag.Not, (a, tt))
expr_parts inner clauses (Expr-F.Binary o a b) = Some (ExprTag.Binary, (o, (a, (b, tt))))
expr_parts inner clauses (Expr-F.Part i a) = Some (ExprTag.Part, (i, (a, tt)))
expr_parts inner clauses (Expr-F.Raise x (Some t)) = Some (ExprTag.Raise, (x, (t, tt)))
expr_parts inner clauses (Expr-F.Raise x None) = None
expr_parts inner clauses (Expr-F.Try a cs) = Some (ExprTag.Try, (a, (cs, tt)))
expr_parts inner clauses (Expr-F.Foldl x a b) = Some (ExprTag.Foldl, (x, (a, (b, tt))))
expr_parts inner clauses (Expr-F.Foldr x a b) = Some (ExprTag.Foldr, (x, (a, (b, tt))))
expr_parts inner clauses (Expr-F.ChunkOf x es) = Some (ExprTag.ChunkOf, (x, (es, tt)))
expr_parts inner clauses (Expr-F.Eval a) = Some (ExprTag.Eval, (a, tt))
expr_parts inner clauses (Expr-F.OnRemote a b c x) = Some (ExprTag.OnRemote, (a, (b, (c, (x, tt)))))
expr_parts inner clauses (Expr-F.OnNeighbor a b c d) = Some (ExprTag.OnNeighbor, (a, (b, (c, (d, tt)))))

-- a part that is an expression
abbrev pub expr_from : ℕ → Core Expr → Part Expr
expr_from room core = record { item = an_expr room; read = core.read; bytes = expr_bytes; Fits = core.Fits; nodes = expr_nodes }

-- an expression at its tag, with room levels to open, by the parts one level deeper, which may open below
abbrev pub expr_within : ℕ → ℕ → Core Expr → Core Expr
expr_within room below inner = record {
  read = tagged_at (expr_tag_at room) (expr_forms (expr_from below inner) (clauses_part below (expr_from below inner)))
      (expr_of_parts (expr_from below inner) (clauses_part below (expr_from below inner)));
  Fits = λ e. FormFits (λ _. 0 < room) (expr_forms (expr_from below inner) (clauses_part below (expr_from below inner)))
      (expr_parts (expr_from below inner) (clauses_part below (expr_from below inner)) (out-Expr e));
}

-- no expression may stand there
abbrev pub no_expr : Core Expr
no_expr = record { read = λ s. Err (OverLimit Limit.Depth s.front.at); Fits = λ _. ⊥ }

-- the expressions of depth at most room
unfoldable pub expr_core : ℕ → Core Expr
expr_core zero = expr_within 0 0 no_expr
expr_core (suc room) = expr_within (suc room) room (expr_core room)

-- an expression of depth at most room
abbrev pub expr_part : ℕ → Part Expr
expr_part room = expr_from room (expr_core room)

-- the parts one level deeper, and how many levels they may open
abbrev pub expr_inner : ℕ → Part Expr
expr_inner zero = expr_from 0 no_expr
expr_inner (suc room) = expr_from room (expr_core room)

abbrev pub one_below : ℕ → ℕ
one_below zero = 0
one_below (suc room) = room
