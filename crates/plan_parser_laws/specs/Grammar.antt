-- The written grammar of types and expressions: a family for each left side, a constructor for each production.
-- In `ExprAt r f n g` the tokens from f up to g are an expression that is read as n, and at most r constructs are
-- open inside each other: brackets, `if`, `not`, `#N`, `let`, `try` and each right side of `::` or `;`.
use Rattle.std.specs.Prelude.{◌≡◌, ◌≤◌, ℕ, suc, true, List, [], ◌∷◌, length, Some, None, is_some}
use Rattle.plan_base.specs.declared.name.Name.{Name}
use Rattle.plan_base.specs.declared.tree.Ty.{Ty}
use Rattle.plan_base.specs.declared.tree.Ty.TheVariants as ty
use Rattle.plan_base.specs.declared.tree.Expr.{Expr}
use Rattle.plan_base.specs.declared.tree.Expr.TheVariants as x
use Rattle.plan_base.specs.Sizes.{type_depth}
use Rattle.plan_lexer.specs.declared.token.TokenKind.TheVariants as kinds
use Rattle.plan_lexer.specs.declared.token.Key.{Key}
use Rattle.plan_lexer.specs.declared.token.Key.TheVariants as keys
use Rattle.plan_lexer.specs.declared.token.Symbol.{Symbol}
use Rattle.plan_lexer.specs.declared.token.Symbol.TheVariants as symbols
use Rattle.plan_parser_exprs.specs.declared.joint.Joint.{Joint}
use Rattle.plan_parser_exprs.specs.declared.joint.Chain.{Chain}
use Rattle.plan_parser_exprs.specs.declared.joint.Chain.TheVariants as chains
use Rattle.plan_parser_exprs.specs.declared.node.Node.{Node}
use Rattle.plan_parser_exprs.specs.declared.node.Bound.{Bound}
use Rattle.plan_parser_exprs.specs.declared.node.Caught.{Caught}
use Rattle.plan_parser_exprs.specs.Ahead.{Front, place, behind, next_kind}
use Rattle.plan_parser_exprs.specs.Begins.{kind_type}
use Rattle.plan_parser_exprs.specs.Joints.{joint_of}
use Rattle.plan_parser_exprs.specs.Nodes.{trees, leaf, over_one, over_two, over_three, over_four, over_list, joined_nodes, consed_nodes}
use Rattle.plan_parser_exprs.specs.Nodes.{bracketed_nodes, let_of, try_of}
use Rattle.plan_parser_exprs.specs.Exprs.{literal}

-- a symbol, a reserved word, a name or a joint stands next
abbrev pub Sym : Symbol → Front → Type 0
Sym s f = next_kind f ≡ Some (kinds.Symbol s)

abbrev pub Word : Key → Front → Type 0
Word k f = next_kind f ≡ Some (kinds.Key k)

abbrev pub Called : Name → Front → Type 0
Called n f = next_kind f ≡ Some (kinds.Word n)

abbrev pub Joins : Chain → Joint → Front → Type 0
Joins c j f = joint_of c (next_kind f) ≡ Some j

-- what stands behind two tokens, or behind three
abbrev pub behind2 : Front → Front
behind2 f = behind (behind f)

abbrev pub behind3 : Front → Front
behind3 f = behind (behind2 f)

mutual
  -- type := base list*, of depth at most 8
  pub data TypeAt : ℕ → Front → Ty → Front → Type 0 where
    a_type : {r : ℕ} {f g : Front} {t : Ty} → ListsAt r f t g → type_depth t ≤ 8 → TypeAt r f t g

  pub data ListsAt : ℕ → Front → Ty → Front → Type 0 where
    base_type : {r : ℕ} {f g : Front} {t : Ty} → BaseAt r f t g → ListsAt r f t g
    list_type : {r : ℕ} {f g : Front} {t : Ty} → ListsAt r f t g → Word keys.List g → ListsAt r f (ty.List t) (behind g)

  -- base := unit | bool | int | .. | ( type ) | ( type * type .. )
  pub data BaseAt : ℕ → Front → Ty → Front → Type 0 where
    named_type : {r : ℕ} {f : Front} {t : Ty} → kind_type (next_kind f) ≡ Some t → BaseAt r f t (behind f)
    type_in_brackets : {r : ℕ} {f g : Front} {t : Ty}
        → Sym symbols.ParenOpen f → TypeAt r (behind f) t g → Sym symbols.ParenClose g → BaseAt (suc r) f t (behind g)
    tuple_type : {r : ℕ} {f g h : Front} {t u : Ty} {ts : List Ty}
        → Sym symbols.ParenOpen f → TypeAt r (behind f) t g → PartsAt r g (u ∷ ts) h → length (u ∷ ts) ≤ 7 → Sym symbols.ParenClose h
        → BaseAt (suc r) f (ty.Tuple (t ∷ u ∷ ts)) (behind h)

  -- { * type }
  pub data PartsAt : ℕ → Front → List Ty → Front → Type 0 where
    no_part : {r : ℕ} {f : Front} → PartsAt r f [] f
    one_part : {r : ℕ} {f g h : Front} {t : Ty} {ts : List Ty}
        → Sym symbols.Star f → TypeAt r (behind f) t g → PartsAt r g ts h → PartsAt r f (t ∷ ts) h

mutual
  -- expr := low [ ; expr ]
  pub data ExprAt : ℕ → Front → Node → Front → Type 0 where
    low : {r : ℕ} {f g : Front} {n : Node} → LowAt r f n g → ExprAt r f n g
    then_next : {r : ℕ} {f g h : Front} {a b : Node}
        → LowAt (suc r) f a g → Sym symbols.Semicolon g → ExprAt r (behind g) b h → ExprAt (suc r) f (over_two (x.Then a.tree b.tree) a.at a b) h

  -- low := if expr then low else low | or
  pub data LowAt : ℕ → Front → Node → Front → Type 0 where
    if_then_else : {r : ℕ} {f g h i : Front} {c a b : Node}
        → Word keys.If f → ExprAt r (behind f) c g → Word keys.Then g → LowAt r (behind g) a h → Word keys.Else h → LowAt r (behind h) b i
        → LowAt (suc r) f (over_three (x.If c.tree a.tree b.tree) (place f) c a b) i
    disjunction : {r : ℕ} {f g : Front} {n : Node} → OrAt r f n g → LowAt r f n g

  -- or := and { or and }
  pub data OrAt : ℕ → Front → Node → Front → Type 0 where
    one_and : {r : ℕ} {f g : Front} {n : Node} → AndAt r f n g → OrAt r f n g
    more_or : {r : ℕ} {f g h : Front} {a b : Node} {j : Joint}
        → OrAt r f a g → Joins chains.Or j g → AndAt r (behind g) b h → OrAt r f (joined_nodes j a b) h

  -- and := not { and not }
  pub data AndAt : ℕ → Front → Node → Front → Type 0 where
    one_not : {r : ℕ} {f g : Front} {n : Node} → NotAt r f n g → AndAt r f n g
    more_and : {r : ℕ} {f g h : Front} {a b : Node} {j : Joint}
        → AndAt r f a g → Joins chains.And j g → NotAt r (behind g) b h → AndAt r f (joined_nodes j a b) h

  -- not := not not | cmp
  pub data NotAt : ℕ → Front → Node → Front → Type 0 where
    negation : {r : ℕ} {f g : Front} {a : Node}
        → Word keys.Not f → NotAt r (behind f) a g → NotAt (suc r) f (over_one (x.Not a.tree) (place f) a) g
    comparison : {r : ℕ} {f g : Front} {n : Node} → CmpAt r f n g → NotAt r f n g

  -- cmp := cons [ (= <> < <= > >=) cons ]
  pub data CmpAt : ℕ → Front → Node → Front → Type 0 where
    one_side : {r : ℕ} {f g : Front} {n : Node} → ConsAt r f n g → CmpAt r f n g
    two_sides : {r : ℕ} {f g h : Front} {a b : Node} {j : Joint}
        → ConsAt r f a g → Joins chains.Comparison j g → ConsAt r (behind g) b h → CmpAt r f (joined_nodes j a b) h

  -- cons := add [ :: cons ]
  pub data ConsAt : ℕ → Front → Node → Front → Type 0 where
    no_list : {r : ℕ} {f g : Front} {n : Node} → AddAt r f n g → ConsAt r f n g
    before_list : {r : ℕ} {f g h : Front} {a b : Node}
        → AddAt (suc r) f a g → Sym symbols.DoubleColon g → ConsAt r (behind g) b h → ConsAt (suc r) f (consed_nodes a b) h

  -- add := mul { (+ - ^) mul }
  pub data AddAt : ℕ → Front → Node → Front → Type 0 where
    one_term : {r : ℕ} {f g : Front} {n : Node} → MulAt r f n g → AddAt r f n g
    more_terms : {r : ℕ} {f g h : Front} {a b : Node} {j : Joint}
        → AddAt r f a g → Joins chains.Sum j g → MulAt r (behind g) b h → AddAt r f (joined_nodes j a b) h

  -- mul := part { (* / mod) part }
  pub data MulAt : ℕ → Front → Node → Front → Type 0 where
    one_factor : {r : ℕ} {f g : Front} {n : Node} → PartAt r f n g → MulAt r f n g
    more_factors : {r : ℕ} {f g h : Front} {a b : Node} {j : Joint}
        → MulAt r f a g → Joins chains.Product j g → PartAt r (behind g) b h → MulAt r f (joined_nodes j a b) h

  -- part := #N part | atom
  pub data PartAt : ℕ → Front → Node → Front → Type 0 where
    part_of : {r i : ℕ} {f g : Front} {a : Node}
        → next_kind f ≡ Some (kinds.Part i) → PartAt r (behind f) a g → PartAt (suc r) f (over_one (x.Part i a.tree) (place f) a) g
    atom : {r : ℕ} {f g : Front} {n : Node} → AtomAt r f n g → PartAt r f n g

  pub data AtomAt : ℕ → Front → Node → Front → Type 0 where
    -- literal | NAME | NAME ( args )
    one_token : {r : ℕ} {f : Front} {e : Expr} → literal (next_kind f) ≡ Some e → AtomAt r f (leaf e (place f)) (behind f)
    variable : {r : ℕ} {f : Front} {name : Name} → Called name f → AtomAt r f (leaf (x.Var name) (place f)) (behind f)
    call : {r : ℕ} {f g : Front} {name : Name} {ns : List Node}
        → Called name f → ArgsAt r (behind f) ns g → AtomAt r f (over_list (x.Call name (trees ns)) (place f) ns) g
    -- ( ) | ( expr ) | ( expr , expr .. )
    no_value : {r : ℕ} {f : Front} → Sym symbols.ParenOpen f → Sym symbols.ParenClose (behind f) → AtomAt (suc r) f (leaf x.Unit (place f)) (behind2 f)
    in_brackets : {r : ℕ} {f g : Front} {n : Node}
        → Sym symbols.ParenOpen f → ExprAt r (behind f) n g → Sym symbols.ParenClose g → AtomAt (suc r) f n (behind g)
    tuple : {r : ℕ} {f g h : Front} {n m : Node} {ns : List Node}
        → Sym symbols.ParenOpen f → ExprAt r (behind f) n g → MoreAt r g (m ∷ ns) h → length (m ∷ ns) ≤ 7 → Sym symbols.ParenClose h
        → AtomAt (suc r) f (over_list (x.Tuple (trees (n ∷ m ∷ ns))) (place f) (n ∷ m ∷ ns)) (behind h)
    -- [ ] | [ : type ] | [ args ]
    no_items : {r : ℕ} {f : Front} → Sym symbols.BracketOpen f → Sym symbols.BracketClose (behind f)
        → AtomAt (suc r) f (leaf (x.Nil None) (place f)) (behind2 f)
    no_items_of : {r : ℕ} {f g : Front} {t : Ty}
        → Sym symbols.BracketOpen f → Sym symbols.Colon (behind f) → TypeAt r (behind2 f) t g → Sym symbols.BracketClose g
        → AtomAt (suc r) f (leaf (x.Nil (Some t)) (place f)) (behind g)
    items : {r : ℕ} {f g : Front} {ns : List Node}
        → Sym symbols.BracketOpen f → SomeAt r (behind f) ns g → length ns ≤ 63 → Sym symbols.BracketClose g
        → AtomAt (suc r) f (bracketed_nodes ns (leaf (x.Nil None) (place g))) (behind g)
    -- | NAME | ( args )
    chunk : {r : ℕ} {f g : Front} {name : Name} {ns : List Node}
        → Sym symbols.Bar f → Called name (behind f) → Sym symbols.Bar (behind2 f) → ArgsAt r (behind3 f) ns g
        → AtomAt r f (over_list (x.ChunkOf name (trees ns)) (place f) ns) g
    -- let { val NAME : type = expr } in expr end
    let_in : {r : ℕ} {f g h i : Front} {b : Bound} {bs : List Bound} {n : Node}
        → Word keys.Let f → ValAt r (place f) (behind f) b g → ValsAt r g bs h → Word keys.In h → ExprAt r (behind h) n i → Word keys.End i
        → AtomAt (suc r) f (let_of (b ∷ bs) n) (behind i)
    -- try expr handle clause { | clause } end
    try_handle : {r : ℕ} {f g h : Front} {n : Node} {cs : List Caught}
        → Word keys.Try f → ExprAt r (behind f) n g → Word keys.Handle g → ClausesAt r (behind g) cs h → length cs ≤ 8 → Word keys.End h
        → AtomAt (suc r) f (try_of (place f) n cs) (behind h)
    -- raise NAME | raise [ : type ] NAME
    raise : {r : ℕ} {f : Front} {name : Name} → Word keys.Raise f → Called name (behind f) → AtomAt r f (leaf (x.Raise name None) (place f)) (behind2 f)
    raise_of : {r : ℕ} {f g : Front} {t : Ty} {name : Name}
        → Word keys.Raise f → Sym symbols.BracketOpen (behind f) → Sym symbols.Colon (behind2 f) → TypeAt r (behind3 f) t g → Sym symbols.BracketClose g
        → Called name (behind g) → AtomAt (suc r) f (leaf (x.Raise name (Some t)) (place f)) (behind2 g)
    -- foldl ( NAME , expr , expr ) | foldr ( NAME , expr , expr )
    foldl : {r : ℕ} {f g h : Front} {name : Name} {a b : Node}
        → Word keys.Foldl f → Sym symbols.ParenOpen (behind f) → Called name (behind2 f) → Sym symbols.Comma (behind3 f)
        → ExprAt r (behind (behind3 f)) a g → Sym symbols.Comma g → ExprAt r (behind g) b h → Sym symbols.ParenClose h
        → AtomAt (suc r) f (over_two (x.Foldl name a.tree b.tree) (place f) a b) (behind h)
    foldr : {r : ℕ} {f g h : Front} {name : Name} {a b : Node}
        → Word keys.Foldr f → Sym symbols.ParenOpen (behind f) → Called name (behind2 f) → Sym symbols.Comma (behind3 f)
        → ExprAt r (behind (behind3 f)) a g → Sym symbols.Comma g → ExprAt r (behind g) b h → Sym symbols.ParenClose h
        → AtomAt (suc r) f (over_two (x.Foldr name a.tree b.tree) (place f) a b) (behind h)
    -- eval ( expr ) | OnRemote ( expr , expr , expr , NAME ) | OnNeighbor ( expr , expr , expr , expr )
    eval : {r : ℕ} {f g : Front} {a : Node}
        → Word keys.Eval f → Sym symbols.ParenOpen (behind f) → ExprAt r (behind2 f) a g → Sym symbols.ParenClose g
        → AtomAt (suc r) f (over_one (x.Eval a.tree) (place f) a) (behind g)
    on_remote : {r : ℕ} {f g h i : Front} {a b c : Node} {name : Name}
        → Word keys.OnRemote f → Sym symbols.ParenOpen (behind f) → ExprAt r (behind2 f) a g → Sym symbols.Comma g → ExprAt r (behind g) b h
        → Sym symbols.Comma h → ExprAt r (behind h) c i → Sym symbols.Comma i → Called name (behind i) → Sym symbols.ParenClose (behind2 i)
        → AtomAt (suc r) f (over_three (x.OnRemote a.tree b.tree c.tree name) (place f) a b c) (behind3 i)
    on_neighbor : {r : ℕ} {f g h i j : Front} {a b c d : Node}
        → Word keys.OnNeighbor f → Sym symbols.ParenOpen (behind f) → ExprAt r (behind2 f) a g → Sym symbols.Comma g → ExprAt r (behind g) b h
        → Sym symbols.Comma h → ExprAt r (behind h) c i → Sym symbols.Comma i → ExprAt r (behind i) d j → Sym symbols.ParenClose j
        → AtomAt (suc r) f (over_four (x.OnNeighbor a.tree b.tree c.tree d.tree) (place f) a b c d) (behind j)

  -- ( args ), at most 8, maybe none
  pub data ArgsAt : ℕ → Front → List Node → Front → Type 0 where
    no_args : {r : ℕ} {f : Front} → Sym symbols.ParenOpen f → Sym symbols.ParenClose (behind f) → ArgsAt (suc r) f [] (behind2 f)
    args : {r : ℕ} {f g : Front} {ns : List Node}
        → Sym symbols.ParenOpen f → SomeAt r (behind f) ns g → length ns ≤ 8 → Sym symbols.ParenClose g → ArgsAt (suc r) f ns (behind g)

  -- expr { , expr }
  pub data SomeAt : ℕ → Front → List Node → Front → Type 0 where
    some : {r : ℕ} {f g h : Front} {n : Node} {ns : List Node} → ExprAt r f n g → MoreAt r g ns h → SomeAt r f (n ∷ ns) h

  -- { , expr }
  pub data MoreAt : ℕ → Front → List Node → Front → Type 0 where
    no_more : {r : ℕ} {f : Front} → MoreAt r f [] f
    one_more : {r : ℕ} {f g h : Front} {n : Node} {ns : List Node}
        → Sym symbols.Comma f → ExprAt r (behind f) n g → MoreAt r g ns h → MoreAt r f (n ∷ ns) h

  -- val NAME : type = expr, in a let whose place or in a further one of that place
  pub data ValAt : ℕ → ℕ → Front → Bound → Front → Type 0 where
    val : {r at : ℕ} {f g h : Front} {name : Name} {t : Ty} {n : Node}
        → Word keys.Val f → Called name (behind f) → Sym symbols.Colon (behind2 f) → TypeAt r (behind3 f) t g → Sym symbols.Equal g → ExprAt r (behind g) n h
        → ValAt r at f (record { at = at; name = name; ty = t; value = n }) h

  pub data ValsAt : ℕ → Front → List Bound → Front → Type 0 where
    no_val : {r : ℕ} {f : Front} → ValsAt r f [] f
    one_val : {r : ℕ} {f g h : Front} {b : Bound} {bs : List Bound} → ValAt r (place f) f b g → ValsAt r g bs h → ValsAt r f (b ∷ bs) h

  -- clause := NAME => expr | _ => expr
  pub data ClauseAt : ℕ → Front → Caught → Front → Type 0 where
    named_clause : {r : ℕ} {f g : Front} {name : Name} {n : Node}
        → Called name f → Sym symbols.FatArrow (behind f) → ExprAt r (behind2 f) n g → ClauseAt r f (record { name = Some name; body = n }) g
    last_clause : {r : ℕ} {f g : Front} {n : Node}
        → Sym symbols.Underscore f → Sym symbols.FatArrow (behind f) → ExprAt r (behind2 f) n g → ClauseAt r f (record { name = None; body = n }) g

  -- clause { | clause }, of which `_` is the last
  pub data ClausesAt : ℕ → Front → List Caught → Front → Type 0 where
    one_clause : {r : ℕ} {f g : Front} {c : Caught} → ClauseAt r f c g → ClausesAt r f (c ∷ []) g
    more_clauses : {r : ℕ} {f g h : Front} {c : Caught} {cs : List Caught}
        → ClauseAt r f c g → is_some c.name ≡ true → Sym symbols.Bar g → ClausesAt r (behind g) cs h → ClausesAt r f (c ∷ cs) h
