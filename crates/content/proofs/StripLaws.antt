-- The strip of a content is the writing of its tree with each item replaced, so its laws are those of such trees.
use Prim.Native.Nat.{ℕ, ◌+◌}
use mathlib.Core.Bool.{true}
use mathlib.Core.List.{List, append_assoc}
use mathlib.Core.Path.{◌≡◌, ap, ◌∙◌}
use native.Mathlib.Omega.{arith}
use lib.ListN.{length, length-append}
use Rattle.content.specs.Content.{good, verdict}
use Rattle.content.specs.Strip.{strip}
use Rattle.content.specs.Grammar.{Tree, lines_bytes, encode, good_tree, resolved, shape}
use Rattle.content.specs.Tree.{tree_of}
use Rattle.content.specs.StripLaws.{Printable, StripResolves, StripEnds, StripIsContent, StripTree, StripSameShape, StripOfStrip, StripLength, NameStays, NameReads}
use Rattle.content.specs.declared.strip.Values.{Values}
use Rattle.content.proofs.Good.{good_tree_tells}
use Rattle.content.proofs.Laws.{correct, complete, read_back, no_values}
use Rattle.content.proofs.Name.{named, name_piece, regrouped}
use Rattle.content.proofs.Pieces.{in_block, tree_piece}
use Rattle.content.proofs.Resolved.{resolved_good, resolved_shape, resolved_twice, resolved_length}
use Rattle.content.proofs.Run.{read_past, strip_append}

strip_encode : (v : Values) (t : Tree) → good_tree t ≡ true → strip v (encode t) ≡ encode (resolved v t)
unfolding strip
strip_encode v t g = (tree_piece v t (good_tree_tells t g)).shows

pub strip_resolves : StripResolves
strip_resolves v s e = let t = correct s e in rw t.1 at (strip_encode v (tree_of s) t.0)

pub strip_ends : StripEnds
strip_ends v s e = (lines_bytes (resolved v (tree_of s)), strip_resolves v s e)

tree_good : (v : Values) (s : List ℕ) → Printable v → verdict s ≡ good → good_tree (resolved v (tree_of s)) ≡ true
tree_good v s p e = resolved_good v (tree_of s) p (correct s e).0

pub strip_is_content : StripIsContent
strip_is_content v s p e = rw (strip_resolves v s e) (complete (resolved v (tree_of s)) (tree_good v s p e))

pub strip_tree : StripTree
strip_tree v s p e = rw (strip_resolves v s e) (read_back (resolved v (tree_of s)) (tree_good v s p e))

pub strip_same_shape : StripSameShape
strip_same_shape v s p e = ap shape (strip_tree v s p e) ∙ resolved_shape v (tree_of s)

pub strip_of_strip : StripOfStrip
strip_of_strip v w s p e =
    rw (strip_resolves v s e)
    (strip_encode w (resolved v (tree_of s)) (tree_good v s p e) ∙ ap encode (resolved_twice v w (tree_of s)))

pub strip_length : StripLength
strip_length v s p e = rw (strip_resolves v s e) (rw (correct s e).1 at (resolved_length v p (tree_of s)))

-- The moderator's case.
pub name_stays : NameStays
name_stays v seen name codes rest p q =
    let n = name_piece v seen name codes p q in
    rw regrouped (strip_append v (in_block seen) (named name codes) rest ∙ rw (n.leads, n.shows, append_assoc))

pub name_reads : NameReads
name_reads seen i name codes rest p q =
    let n = (name_piece no_values seen name codes p q).leads in
    let k : length (named name codes) ≡ length name + length codes + 2 =
    simp length-append (omega arith) in
    rw (regrouped, ← k) (read_past i (in_block seen) (named name codes) rest (λ e. let z : ◌≡◌ {A = ℕ} 0 1 = cc in omega arith) ∙ rw n)
