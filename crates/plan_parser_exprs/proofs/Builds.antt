-- One more item in what is made of several.
use Rattle.std.proofs.Common.{◌≡◌, List, [], ◌∷◌, ◌++◌, max, refl, sym, ap, ◌∙◌, append_assoc}
use Rattle.std.specs.List.{flat_map}
use Rattle.std.proofs.lemmas.List.{map-append, flat_map_more}
use Rattle.std.proofs.lemmas.Grind.{fold-append}
use Rattle.plan_base.specs.Sizes.{largest_by}
use Rattle.plan_parser_exprs.specs.declared.node.Node.{Node}
use Rattle.plan_parser_exprs.specs.declared.node.Bound.{Bound}
use Rattle.plan_parser_exprs.specs.declared.node.Caught.{Caught}
use Rattle.plan_parser_exprs.specs.Nodes.{all_at, trees, consed_nodes, bracketed_nodes, bound, let_of, clauses_of, bodies}

pub bracketed_last : (ns : List Node) (n end : Node) → bracketed_nodes (ns ++ n ∷ []) end ≡ bracketed_nodes ns (consed_nodes n end)
bracketed_last [] n end = refl
bracketed_last (m ∷ ns) n end = ap (consed_nodes m) (bracketed_last ns n end)

pub let_of_last : (bs : List Bound) (b : Bound) (body : Node) → let_of (bs ++ b ∷ []) body ≡ let_of bs (bound b body)
let_of_last [] b body = refl
let_of_last (c ∷ bs) b body = ap (bound c) (let_of_last bs b body)

pub trees_last : (ns : List Node) (n : Node) → trees (ns ++ n ∷ []) ≡ trees ns ++ n.tree ∷ []
trees_last ns n = map-append _ ns (n ∷ [])

pub places_last : (ns : List Node) (n : Node) → flat_map all_at (ns ++ n ∷ []) ≡ (flat_map all_at ns ++ n.at ∷ []) ++ n.below
places_last ns n = sym (flat_map_more all_at [] ns n) ∙ sym (append_assoc (flat_map all_at ns) (n.at ∷ []) n.below)

pub depth_last : (ns : List Node) (n : Node) → largest_by (λ m. m.depth) (ns ++ n ∷ []) ≡ max (largest_by (λ m. m.depth) ns) n.depth
depth_last ns n = fold-append _ _ ns (n ∷ [])

pub clauses_last : (cs : List Caught) (c : Caught) → clauses_of (cs ++ c ∷ []) ≡ clauses_of cs ++ record { name = c.name; body = c.body.tree } ∷ []
clauses_last cs c = map-append _ cs (c ∷ [])

bodies_last : (cs : List Caught) (c : Caught) → bodies (cs ++ c ∷ []) ≡ bodies cs ++ c.body ∷ []
bodies_last cs c = map-append _ cs (c ∷ [])

pub body_places_last : (cs : List Caught) (c : Caught) → flat_map all_at (bodies (cs ++ c ∷ [])) ≡ (flat_map all_at (bodies cs) ++ c.body.at ∷ []) ++ c.body.below
body_places_last cs c = ap (flat_map all_at) (bodies_last cs c) ∙ places_last (bodies cs) c.body

pub body_depth_last : (cs : List Caught) (c : Caught) → largest_by (λ m. m.depth) (bodies (cs ++ c ∷ [])) ≡ max (largest_by (λ m. m.depth) (bodies cs)) c.body.depth
body_depth_last cs c = ap (largest_by (λ m. m.depth)) (bodies_last cs c) ∙ depth_last (bodies cs) c.body
