use Rattle.std.proofs.Common.{◌≡◌, ℕ, ◌+◌, ◌<◌, ◌≤◌, Bool, false, Some, Result, Ok, Err, refl, sym, ap, arith}
use Rattle.std.specs.Int.{w8}
use Rattle.std.proofs.lemmas.Bool.{le-ltb, lt-ltb}
use Rattle.wire_bytes.specs.Fields.{Front, number_at}
use Rattle.containers.proofs.Binds.{ok_inj, bind_is, bind_err}
use Rattle.plan_base.specs.declared.limit.Limit.{Limit}
use Rattle.chunk_codec_spec.specs.declared.fault.SpellFault.{SpellFault}
use Rattle.chunk_codec_spec.specs.declared.fault.SpellFault.TheVariants.{OverLimit}
use Rattle.chunk_codec_spec.specs.declared.tags.ExprTag.{ExprTag}
use Rattle.chunk_codec_spec.specs.declared.tags.TheConstants.{EXPR_TAGS}
use Rattle.chunk_codec_spec.specs.Scan.{Scan, whole, number_field, table_field, tag_of, allowed_or_fault}
use Rattle.chunk_codec_spec.specs.Exprs.{expr_tag_at}
use Rattle.chunk_codec_spec.proofs.FieldLaws.{known_is, allowed_is}

whole_nodes : (r : Result (ℕ × Front) ℕ) (s t : Scan) (b : ℕ) → whole r s ≡ Ok (b, t) → t.nodes ≡ s.nodes
whole_nodes (Ok x) s t b h = let same = ok_inj h in sym (ap (λ (q : ℕ × Scan). q.1.nodes) same)
whole_nodes (Err e) s t b h = cc

-- reading a byte counts no expression
nodes_kept : (s t : Scan) (b : ℕ) → number_field w8 s ≡ Ok (b, t) → t.nodes ≡ s.nodes
unfolding number_field
nodes_kept s t b h = whole_nodes (number_at w8 s.front) s t b h

allowed_not : {A : Type 0} (b : Bool) (e : SpellFault) (x : A × Scan) → b ≡ false → allowed_or_fault b e x ≡ Err e
allowed_not b e x h = ap (λ c. allowed_or_fault c e x) h

module _ (room : ℕ) (s t : Scan) (b : ℕ) (tag : ExprTag) (read : number_field w8 s ≡ Ok (b, t)) (known : tag_of 0x20 EXPR_TAGS b ≡ Some tag) where
  table_is : table_field 0x20 EXPR_TAGS s ≡ Ok (tag, t)
  unfolding table_field
  table_is = bind_is _ read (known_is _ _ t tag known)

  -- too many expressions
  pub expr_tag_nodes : 4096 ≤ t.nodes → expr_tag_at room s ≡ Err (OverLimit Limit.Nodes s.front.at)
  unfolding expr_tag_at
  expr_tag_nodes h =
      let n = nodes_kept s t b read in
      let many : 4096 ≤ s.nodes = omega (arith, n, h) in
      bind_is _ table_is (bind_err _ (allowed_not _ _ (tag, t) (le-ltb s.nodes 4096 many)))

  -- too deep
  pub expr_tag_depth : t.nodes < 4096 → room ≡ 0 → expr_tag_at room s ≡ Err (OverLimit Limit.Depth s.front.at)
  unfolding expr_tag_at
  expr_tag_depth h z =
      let n = nodes_kept s t b read in
      let few : s.nodes < 4096 = omega (arith, n, h) in
      let none : room ≤ 0 = omega (arith, z) in
      bind_is _ table_is (bind_is _ (allowed_is _ _ (tag, t) (lt-ltb s.nodes 4096 few)) (bind_err _ (allowed_not _ _ (tag, t) (le-ltb 0 room none))))

  -- one more expression
  pub expr_tag_ok : t.nodes < 4096 → (room ≡ 0 → ⊥) → expr_tag_at room s ≡ Ok (tag, record t { nodes = t.nodes + 1 })
  unfolding expr_tag_at
  expr_tag_ok h z =
      let n = nodes_kept s t b read in
      let few : s.nodes < 4096 = omega (arith, n, h) in
      let open_there : 0 < room = omega (arith, z) in
      bind_is _ table_is (bind_is _ (allowed_is _ _ (tag, t) (lt-ltb s.nodes 4096 few)) (bind_is _ (allowed_is _ _ (tag, t) (lt-ltb 0 room open_there)) refl))
