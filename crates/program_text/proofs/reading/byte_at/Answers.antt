use Rattle.std.proofs.lemmas.Option.{unwrap_or-slice_get}
use Rattle.program_text.proofs.reading.byte_at.Goals as goal

pub returns-in-Decl : goal.returns-in-Decl
returns-in-Decl c =
    let u = c.unwrap_or.ensures in let d = c.copied.ensures in let g = c.get.ensures.value in let i = c.in-Decl.is in
    let l = unwrap_or-slice_get c.args.decls.now c.in-Decl.n 0 in cc

pub returns-in-Node : goal.returns-in-Node
returns-in-Node c =
    let u = c.unwrap_or-in-Node.ensures in let d = c.copied-in-Node.ensures in let g = c.get-in-Node.ensures.value in let i = c.in-Node.is in
    let l = unwrap_or-slice_get c.args.nodes.now c.in-Node.n 0 in cc
